-- files stay well formed and charged with what parts change
use Rattle.std.specs.Prelude.{cond, Bool, true, false, ◌⊎◌, All, flat_map, Option, None, Some, map as list_map}
use Rattle.std.specs.List.{AllByRecursion}
use Rattle.std.specs.FinMap as map
use Rattle.std.proofs.Common.{◌≡◌, ℕ, List, [], ◌∷◌, inl, inr, ⊎_elim, refl, sym, ◌∙◌, ap, subst}
use Rattle.std.proofs.lemmas.List.Elements.{All-from_recursion, recursion_from_All}
use Rattle.std.specs.Ordering.{eq_by_cmp}
use Rattle.std.specs.FinMap.{get-empty}
use Rattle.alp_base.specs.Keys.{key_cmp}
use Rattle.alp_base.specs.declared.cell.Cell.{Cell}
use Rattle.alp_base.specs.declared.key.Key.{Key}
use Rattle.alp_files.specs.Cells.{Cells, View}
use Rattle.alp_files.specs.Edits.{Edit, Drop, Cut, Put, is_in_file, is_past, edits_at, edits_map}
use Rattle.alp_files.specs.Files.{AreFiles}
use Rattle.alp_files.specs.Needs.{Intents, no_intents, intents_from, intents_of, through}
use Rattle.alp_files.specs.Sound.{AreSound}
use Rattle.alp_files.proofs.HistoryLemmas.{get-edits_map}
use Rattle.alp_files.proofs.IntentLemmas.{puts_from, intents_from-append}
use Rattle.alp_trans.specs.Counting.{with_intents}
use Rattle.alp_calls.specs.Parts.{AllFit}
use Rattle.alp_calls.proofs.IntentCounts.{with_all}
use Rattle.alp_journal.specs.Opening.{ReadyNote}
use Rattle.alp_regain.specs.Balance.{is_balanced, intents_in, DoIntend}
use Rattle.alp_regain.specs.Regained.{ArePartsOf}
use Rattle.alp_regain.specs.Seen.{Passes}
use Rattle.alp_regain.specs.Touched.{IsGoodPut}
use Rattle.alp_regain.specs.declared.part.RegainedPart.{RegainedPart}
use Rattle.alp_regain.proofs.BalanceLemmas.{with_view, charged_by, balanced_by}
use Rattle.alp_regain.proofs.PassLemmas.{passing_good, good_listed}
use Rattle.alp_regain.proofs.TouchedLemmas.{files_so, only_so}

-- ---- one set of intents

module _ (i : Intents) (m : Cells) (sound : AreSound m) (fit : AllFit i.puts) where
  pub sound_by : All (λ (e : Key × Cell). Passes i m e.0 e.1) (map.entries i.puts) → is_balanced i m ≡ true → AreSound (with_intents i m)
  sound_by pass balanced = (
    subst AreFiles (sym (with_view i m)) (files_so i m sound.0 fit (passing_good i m sound.0 fit pass)),
    charged_by i m sound fit balanced,
  )

  pub sound_passes : AreSound (with_intents i m) → All (λ (e : Key × Cell). IsGoodPut (through i (map.get m)) e.0 e.1) (map.entries i.puts)
  sound_passes h = good_listed i m (only_so i m sound.0 fit (subst AreFiles (with_view i m) h.0))

  pub sound_balances : AreSound (with_intents i m) → is_balanced i m ≡ true
  sound_balances h = balanced_by i m sound fit h.1

-- ---- what all parts put fits

-- what edits make of a cell they put, or it was there
either : (es : List Edit) (q : Key) (o : Option Cell) (c : Cell) → ((x : Option Cell) → edits_at es q x ≡ Some c → (edits_at es q None ≡ Some c) ⊎ (x ≡ Some c))
    → (b : Bool) (r : Option Cell) → edits_at es q (cond b r o) ≡ Some c → (edits_at es q (cond b r None) ≡ Some c) ⊎ (o ≡ Some c)
either es q o c rest true r h = inl h
either es q o c rest false r h = rest o h

put_or_there : (es : List Edit) (q : Key) (o : Option Cell) (c : Cell) → edits_at es q o ≡ Some c → (edits_at es q None ≡ Some c) ⊎ (o ≡ Some c)
put_or_there [] q o c h = inr h
put_or_there (Drop f ∷ es) q o c h = either es q o c (λ x k. put_or_there es q x c k) (is_in_file f q) None h
put_or_there (Cut f n ∷ es) q o c h = either es q o c (λ x k. put_or_there es q x c k) (is_past f n q) None h
put_or_there (Put x d ∷ es) q o c h = either es q o c (λ y k. put_or_there es q y c k) (eq_by_cmp key_cmp q x) (Some d) h

fit_on : (i : Intents) (es : List Edit) → AllFit i.puts → AllFit (intents_of es).puts → AllFit (intents_from i es).puts
fit_on i es old new k c here =
    ⊎_elim
    (λ (put : edits_at es k None ≡ Some c).
    new k c (ap (λ (x : Cells). map.get x k) (puts_from no_intents es) ∙ ap (λ (v : View). v k) (get-edits_map es map.empty) ∙ ap (edits_at es k) (get-empty {X = Cell} key_cmp k) ∙ put))
    (λ (there : map.get i.puts k ≡ Some c). old k c there)
    (put_or_there es k (map.get i.puts k) c (sym (ap (λ (x : Cells). map.get x k) (puts_from i es) ∙ ap (λ (v : View). v k) (get-edits_map es i.puts)) ∙ here))

abbrev pub edits_in : ReadyNote → List Edit
edits_in n = n.edits

fit_from : (i : Intents) (ns : List ReadyNote) → AllFit i.puts → AllByRecursion (λ (n : ReadyNote). AllFit (intents_of n.edits).puts) ns → AllFit (intents_from i (flat_map edits_in ns)).puts
fit_from i [] fit all = fit
fit_from i (n ∷ ns) fit all =
    subst (λ (x : Intents). AllFit x.puts) (sym (intents_from-append i n.edits (flat_map edits_in ns)))
    (fit_from (intents_from i n.edits) ns (fit_on i n.edits fit all.0) all.1)

none_put : AllFit no_intents.puts
none_put k c here = let wrong : None ≡ Some c = sym (get-empty {X = Cell} key_cmp k) ∙ here in cc

pub fit_all : (ns : List ReadyNote) → AllByRecursion (λ (n : ReadyNote). AllFit (intents_of n.edits).puts) ns → AllFit (intents_of (flat_map edits_in ns)).puts
fit_all ns all = fit_from no_intents ns none_put all

-- ---- parts and their notes

pub mapped : {X Y : Type 0} (P : Y → Type 0) (f : X → Y) (xs : List X) → AllByRecursion (λ x. P (f x)) xs → AllByRecursion P (list_map f xs)
mapped P f [] h = tt
mapped P f (x ∷ xs) h = (h.0, mapped P f xs h.1)

pub unmapped : {X Y : Type 0} (P : Y → Type 0) (f : X → Y) (xs : List X) → AllByRecursion P (list_map f xs) → AllByRecursion (λ x. P (f x)) xs
unmapped P f [] h = tt
unmapped P f (x ∷ xs) h = (h.0, unmapped P f xs h.1)

abbrev intended : ReadyNote → Intents
intended n = intents_of n.edits

same_intents : (tells : Bool) (m : Cells) (server epoch : ℕ) (ps : List RegainedPart) (ns : List ReadyNote) → ArePartsOf tells m server epoch ps ns → list_map intents_in ps ≡ list_map intended ns
same_intents tells m server epoch [] [] are = refl
same_intents tells m server epoch [] (n ∷ ns) are = absurd are
same_intents tells m server epoch (p ∷ ps) [] are = absurd are
same_intents tells m server epoch (p ∷ ps) (n ∷ ns) are = λ j. are.0.intents j ∷ same_intents tells m server epoch ps ns are.1 j

fit_each : (tells : Bool) (m : Cells) (server epoch : ℕ) (ps : List RegainedPart) (ns : List ReadyNote) → ArePartsOf tells m server epoch ps ns → AllByRecursion (λ (i : Intents). AllFit i.puts) (list_map intents_in ps)
fit_each tells m server epoch [] [] are = tt
fit_each tells m server epoch [] (n ∷ ns) are = absurd are
fit_each tells m server epoch (p ∷ ps) [] are = absurd are
fit_each tells m server epoch (p ∷ ps) (n ∷ ns) are = (are.0.part.fit, fit_each tells m server epoch ps ns are.1)

pub parts_intend : (tells : Bool) (m : Cells) (server epoch : ℕ) (ps : List RegainedPart) (ns : List ReadyNote) → ArePartsOf tells m server epoch ps ns → DoIntend ps ns
parts_intend tells m server epoch ps ns are = record { same = same_intents tells m server epoch ps ns are; fit = fit_each tells m server epoch ps ns are }

module _ (ps : List RegainedPart) (ns : List ReadyNote) (intend : DoIntend ps ns) where
  pub parts_fit : All (λ (p : RegainedPart). AllFit p.part.intents.puts) ps
  parts_fit = All-from_recursion (λ (p : RegainedPart). AllFit p.part.intents.puts) ps (unmapped (λ (i : Intents). AllFit i.puts) intents_in ps intend.fit)

  pub notes_fit : AllByRecursion (λ (n : ReadyNote). AllFit (intents_of n.edits).puts) ns
  notes_fit = unmapped (λ (i : Intents). AllFit i.puts) intended ns (subst (λ (is : List Intents). AllByRecursion (λ (i : Intents). AllFit i.puts) is) intend.same intend.fit)

  module _ (m : Cells) where
    each_edited : (xs : List ReadyNote) → AllByRecursion (λ (n : ReadyNote). AreSound (with_intents (intents_of n.edits) m)) xs → AllByRecursion (λ (n : ReadyNote). AreSound (edits_map n.edits m)) xs
    each_edited [] h = tt
    each_edited (n ∷ xs) h = (subst AreSound (with_all n.edits m) h.0, each_edited xs h.1)

    each_intended : (xs : List ReadyNote) → AllByRecursion (λ (n : ReadyNote). AreSound (edits_map n.edits m)) xs → AllByRecursion (λ (n : ReadyNote). AreSound (with_intents (intents_of n.edits) m)) xs
    each_intended [] h = tt
    each_intended (n ∷ xs) h = (subst AreSound (sym (with_all n.edits m)) h.0, each_intended xs h.1)

    pub each_said : All (λ (p : RegainedPart). AreSound (with_intents p.part.intents m)) ps → AllByRecursion (λ (n : ReadyNote). AreSound (edits_map n.edits m)) ns
    each_said all =
        each_edited ns
        (unmapped (λ (i : Intents). AreSound (with_intents i m)) intended ns
        (subst (λ (is : List Intents). AllByRecursion (λ (i : Intents). AreSound (with_intents i m)) is) intend.same
        (mapped (λ (i : Intents). AreSound (with_intents i m)) intents_in ps (recursion_from_All (λ (p : RegainedPart). AreSound (with_intents p.part.intents m)) ps all))))

    pub each_meant : AllByRecursion (λ (n : ReadyNote). AreSound (edits_map n.edits m)) ns → All (λ (p : RegainedPart). AreSound (with_intents p.part.intents m)) ps
    each_meant all =
        All-from_recursion (λ (p : RegainedPart). AreSound (with_intents p.part.intents m)) ps
        (unmapped (λ (i : Intents). AreSound (with_intents i m)) intents_in ps
        (subst (λ (is : List Intents). AllByRecursion (λ (i : Intents). AreSound (with_intents i m)) is) (sym intend.same)
        (mapped (λ (i : Intents). AreSound (with_intents i m)) intended ns (each_intended ns all))))
