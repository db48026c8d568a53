-- What notes keep where none stands but that of the clock.
use Rattle.std.specs.Prelude.{Bool, true, false, cond, nat_eq, Option, None, Some, is_some, sum_by}
use Rattle.std.specs.List.{filter_map}
use Rattle.std.specs.FinMap as map
use Rattle.std.specs.FinMap.{get-empty, get-insert}
use Rattle.std.specs.Ordering.{eq_by_cmp}
use Rattle.std.specs.Cmp.Lexicographic.{nat_list_cmp_total, pointwise}
use Rattle.std.proofs.Common.{◌≡◌, ℕ, ◌+◌, List, [], ◌∷◌, refl, sym, ◌∙◌, ap, arith}
use Rattle.std.proofs.lemmas.List.Sums.{sum_by-cons}
use Rattle.std.proofs.lemmas.Map.Lookups.{exact_bytes}
use Rattle.std.proofs.lemmas.Map.Views.{tells_apart}
use Rattle.alp_base.specs.Notes.{Notes, text_cmp}
use Rattle.alp_base.specs.declared.faults.Sizes.{Sizes}
use Rattle.alp_base.specs.declared.ids.JoinNo.{JoinNo}
use Rattle.alp_base.specs.declared.ids.TransId.{TransId}
use Rattle.alp_fields.specs.Forms.{whole}
use Rattle.alp_fields.specs.ClockNote.{clock_name, clock_form, clock_kept, is_clock_note, AreClockNotes}
use Rattle.alp_fields.specs.ReadyNote.{ready_in}
use Rattle.alp_fields.specs.DecisionNote.{decision_in}
use Rattle.alp_fields.specs.declared.ready_note.ReadyPart.{ReadyPart}
use Rattle.alp_fields.specs.declared.decision_note.Decision.{Decision}
use Rattle.alp_fields.proofs.FormLaws.{and_parts}
use Rattle.alp_fields.proofs.ReadyNoteLaw.{clock_no_ready}
use Rattle.alp_fields.proofs.DecisionNoteLaw.{clock_no_decision}
use Rattle.alp_files.specs.Cells.{Cells}
use Rattle.alp_files.proofs.SameLemmas.{same_name-true}
use Rattle.alp_files.proofs.SumLemmas.{sum_of-nothing}
use Rattle.alp_journal.specs.Opening.{Start, ReadyNote, DecisionNote, ready_noted, decision_noted, ready_kept, decisions_kept, start_at}

-- one where there is something
abbrev count : {A : Type 0} → Option A → ℕ
count None = 0
count (Some x) = 1

none_more : {A : Type 0} (f : List ℕ × List ℕ → Option A) (e : List ℕ × List ℕ) (es : List (List ℕ × List ℕ)) → count (f e) + sum_by (λ x. count (f x)) es ≡ 0 → filter_map f es ≡ [] → (o : Option A) → f e ≡ o → filter_map f (e ∷ es) ≡ []
none_more f e es sum rest None is = rw is rest
none_more f e es sum rest (Some x) is =
    let one : count (f e) ≡ 1 = ap count is in
    absurd (omega (arith, sum, one))

none_counted : {A : Type 0} (f : List ℕ × List ℕ → Option A) (es : List (List ℕ × List ℕ)) → sum_by (λ e. count (f e)) es ≡ 0 → filter_map f es ≡ []
none_counted f [] h = refl
none_counted f (e ∷ es) h =
    let sum : count (f e) + sum_by (λ x. count (f x)) es ≡ 0 = sym (sum_by-cons (λ x. count (f x)) e es) ∙ h in
    none_more f e es sum (none_counted f es (omega (arith, sum))) (f e) refl

its_name : (name value : List ℕ) → is_clock_note name value ≡ true → name ≡ clock_name
its_name name value h = same_name-true name clock_name (and_parts (pointwise nat_eq name clock_name) (is_some (whole clock_form value)) h).0

-- each note has the name of that of the clock
abbrev pub AreNamedClock : Notes → Type 0
AreNamedClock notes = (name value : List ℕ) → map.get notes name ≡ Some value → name ≡ clock_name

ready_in_named : (name value : List ℕ) → name ≡ clock_name → ready_in name value ≡ None
ready_in_named name value is = ap (λ (n : List ℕ). ready_in n value) is ∙ clock_no_ready value

decision_in_named : (name value : List ℕ) → name ≡ clock_name → decision_in name value ≡ None
decision_in_named name value is = ap (λ (n : List ℕ). decision_in n value) is ∙ clock_no_decision value

-- no part
pub named_ready : (notes : Notes) → AreNamedClock notes → ready_kept notes ≡ []
named_ready notes are =
    none_counted (λ e. ready_noted (ready_in e.0 e.1)) (map.entries notes)
    (sum_of-nothing nat_list_cmp_total exact_bytes (λ e. count (ready_noted (ready_in e.0 e.1))) notes (λ name value there. ap (λ (o : Option (JoinNo × ReadyPart)). count (ready_noted o)) (ready_in_named name value (are name value there))))

-- and no decision
pub named_decided : (notes : Notes) → AreNamedClock notes → decisions_kept notes ≡ []
named_decided notes are =
    none_counted (λ e. decision_noted (decision_in e.0 e.1)) (map.entries notes)
    (sum_of-nothing nat_list_cmp_total exact_bytes (λ e. count (decision_noted (decision_in e.0 e.1))) notes (λ name value there. ap (λ (o : Option (TransId × Decision)). count (decision_noted o)) (decision_in_named name value (are name value there))))

abbrev no_notes : Notes
no_notes = map.empty

-- a note of the clock alone
pub only_clock : (value : List ℕ) → AreNamedClock (map.insert map.empty clock_name value)
only_clock value name v there = go (eq_by_cmp text_cmp name clock_name) refl (sym (get-insert nat_list_cmp_total map.empty clock_name value name) ∙ there)
  where
    go : (t : Bool) → eq_by_cmp text_cmp name clock_name ≡ t → cond t (Some value) (map.get no_notes name) ≡ Some v → name ≡ clock_name
    go true e h = tells_apart exact_bytes name clock_name e
    go false e h = let wrong : None ≡ Some v = sym (get-empty text_cmp name) ∙ h in cc

clock_named : (notes : Notes) → AreClockNotes notes → AreNamedClock notes
clock_named notes are name value there = its_name name value (are name value there)

pub none_ready : (notes : Notes) → AreClockNotes notes → ready_kept notes ≡ []
none_ready notes are = named_ready notes (clock_named notes are)

pub none_decided : (notes : Notes) → AreClockNotes notes → decisions_kept notes ≡ []
none_decided notes are = named_decided notes (clock_named notes are)

-- the start of a server that keeps neither
abbrev pub plain_start : (server servers : ℕ) → Sizes → Cells → Notes → Start
plain_start server servers sizes cells notes = record {
  server = server;
  servers = servers;
  sizes = sizes;
  epoch = (clock_kept notes).epoch;
  clock = (clock_kept notes).clock;
  cells = cells;
  ready = [];
  decisions = [];
}

pub started_plain : (server servers : ℕ) (sizes : Sizes) (cells : Cells) (notes : Notes) → AreClockNotes notes → start_at server servers sizes cells notes ≡ plain_start server servers sizes cells notes
started_plain server servers sizes cells notes are = λ i. record {
  server = server;
  servers = servers;
  sizes = sizes;
  epoch = (clock_kept notes).epoch;
  clock = (clock_kept notes).clock;
  cells = cells;
  ready = none_ready notes are i;
  decisions = none_decided notes are i;
}
