-- the sizes that a script gives its volumes are within the limits
use Rattle.std.specs.Prelude.{◌==◌, Bool, Option, None, Some, IfSome, unwrap_or}
use Rattle.std.specs.List.{AllByRecursion, cons_option, filter_map, last_or}
use Rattle.std.proofs.Common.{◌≡◌, ℕ, suc, ◌+◌, ◌<◌, ◌≤◌, List, [], ◌∷◌, length, drop, slice_index_or, true, false, refl, sym, ap, ◌∙◌, add-one, arith}
use Rattle.std.proofs.lemmas.List.{drop_all}
use Rattle.std.proofs.Math.Seq.{drop-cons}
use Rattle.alp_base.specs.declared.faults.Sizes.{Sizes}
use Rattle.alp_tokens.specs.Words.{when}
use Rattle.alp_lines.specs.Forms.{AreInLimits, IsForm}
use Rattle.alp_lines.specs.Forms as form
use Rattle.alp_script.specs.Volumes.{new_sizes, sizes_in, sizes_said}
use Rattle.alp_lines.specs.declared.line.Line.{Line}
use Rattle.alp_script.specs.declared.numbered.NumberedLine.{NumberedLine}

abbrev Fits : Option Sizes → Type 0
Fits said = IfSome said AreInLimits

when_fits : (b : Bool) (s : Sizes) → AreInLimits s → Fits (when b s)
when_fits true s limits = limits
when_fits false s limits = tt

-- what a line of the language says of a disk's sizes is within the limits
form_fits : (server : ℕ) (l : Line) → IsForm l → Fits (sizes_in server l)
form_fits server l (form.servers count) = tt
form_fits server l (form.volume number home area limits) = when_fits (number == server) (record { home = home; area = area }) limits
form_fits server l (form.client number name) = tt
form_fits server l (form.patience count some few) = tt
form_fits server l (form.auto_said on) = tt
form_fits server l (form.timeout number client most) = tt
form_fits server l (form.tick at) = tt
form_fits server l (form.force at) = tt
form_fits server l (form.stop at calls small) = tt
form_fits server l (form.restart at pick small) = tt
form_fits server l form.settle = tt
form_fits server l (form.carry from to) = tt
form_fits server l (form.lose from to) = tt
form_fits server l (form.again from to) = tt
form_fits server l (form.begin number at) = tt
form_fits server l (form.commit number) = tt
form_fits server l (form.abort number) = tt
form_fits server l (form.outcome number) = tt
form_fits server l (form.collect number) = tt
form_fits server l (form.repeat number) = tt
form_fits server l (form.old number) = tt
form_fits server l (form.raw number at bytes some) = tt
form_fits server l (form.owner number at name quota create wish few) = tt
form_fits server l (form.read_owner number at name wish) = tt
form_fits server l (form.quota number at name quota wish) = tt
form_fits server l (form.create number at word name size read modify wish small few_read few_modify) = tt
form_fits server l (form.open_file number file purpose lock wish) = tt
form_fits server l (form.close number file) = tt
form_fits server l (form.delete number file wish) = tt
form_fits server l (form.write number file run text wish few short) = tt
form_fits server l (form.read number file run lock wish few fit) = tt
form_fits server l (form.lock number file run lock wish few fit) = tt
form_fits server l (form.size number file size wish small) = tt
form_fits server l (form.props number file) = tt
form_fits server l (form.change number file change wish formed) = tt

or_new : (said : Option Sizes) → Fits said → AreInLimits (unwrap_or said new_sizes)
or_new None fits = record { home_least = omega arith; home_most = omega arith; area_least = omega arith; area_most = omega arith }
or_new (Some s) fits = fits

one_more : (before said : Option Sizes) (rest : List Sizes) → ((o : Option Sizes) → Fits o → Fits (last_or o rest)) → Fits before → Fits said
    → Fits (last_or before (cons_option said rest))
one_more before None rest more old new = more before old
one_more before (Some s) rest more old new = more (Some s) new

last_fits : (server : ℕ) (before : Option Sizes) (ls : List NumberedLine) → AllByRecursion (λ l. IsForm l.line) ls → Fits before
    → Fits (last_or before (filter_map (λ l. sizes_in server l.line) ls))
last_fits server before [] forms fits = fits
last_fits server before (l ∷ ls) forms fits =
    one_more before (sizes_in server l.line) (filter_map (λ l. sizes_in server l.line) ls) (λ o. last_fits server o ls forms.1) fits (form_fits server l.line forms.0)

pub said_in_limits : (ls : List NumberedLine) (server : ℕ) → AllByRecursion (λ l. IsForm l.line) ls → AreInLimits (sizes_said ls server)
unfolding sizes_said
said_in_limits ls server forms = or_new _ (last_fits server None ls forms tt)

-- what was said before, or what is said now
abbrev pub later : Option Sizes → Option Sizes → Option Sizes
later before None = before
later before (Some s) = Some s

last_later : (before said : Option Sizes) (rest : List Sizes) → last_or (later before said) rest ≡ last_or before (cons_option said rest)
last_later before None rest = refl
last_later before (Some s) rest = refl

said_behind : (server : ℕ) (before : Option Sizes) (l : NumberedLine) (front rest : List NumberedLine) (all : Option Sizes) → front ≡ l ∷ rest
    → last_or before (filter_map (λ m. sizes_in server m.line) front) ≡ all
    → last_or (later before (sizes_in server l.line)) (filter_map (λ m. sizes_in server m.line) rest) ≡ all
said_behind server before l front rest all e h =
    last_later before (sizes_in server l.line) (filter_map (λ m. sizes_in server m.line) rest)
    ∙ ap (λ (ls : List NumberedLine). last_or before (filter_map (λ m. sizes_in server m.line) ls)) (sym e) ∙ h

-- a line more was looked at
pub said_next : (server : ℕ) (before now said : Option Sizes) (ls : List NumberedLine) (i : ℕ) (l : NumberedLine) (all : Option Sizes) → i < length ls → l ≡ slice_index_or ls i l
    → said ≡ sizes_in server l.line → now ≡ later before said
    → last_or before (filter_map (λ m. sizes_in server m.line) (drop i ls)) ≡ all
    → last_or now (filter_map (λ m. sizes_in server m.line) (drop (i + 1) ls)) ≡ all
said_next server before now said ls i l all within is says e h =
    let parts : drop i ls ≡ l ∷ drop (i + 1) ls = rw add-one (drop-cons ls i l within ∙ ap (λ (m : NumberedLine). m ∷ drop (suc i) ls) (sym is)) in
    ap (λ (o : Option Sizes). last_or o (filter_map (λ m. sizes_in server m.line) (drop (i + 1) ls))) (e ∙ ap (later before) says)
    ∙ said_behind server before l (drop i ls) (drop (i + 1) ls) all parts h

-- all lines were looked at
pub said_whole : (server : ℕ) (said : Option Sizes) (ls : List NumberedLine) (i : ℕ) (s : Sizes) → length ls ≤ i → unwrap_or said new_sizes ≡ s
    → last_or said (filter_map (λ m. sizes_in server m.line) (drop i ls)) ≡ last_or None (filter_map (λ m. sizes_in server m.line) ls)
    → s ≡ sizes_said ls server
unfolding sizes_said
said_whole server said ls i s past e h =
    sym e ∙ ap (λ (o : Option Sizes). unwrap_or o new_sizes)
    (ap (λ (rest : List NumberedLine). last_or said (filter_map (λ m. sizes_in server m.line) rest)) (sym (drop_all i ls past)) ∙ h)
