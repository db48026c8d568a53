-- of which servers the notes are that keep parts and decisions
use Rattle.std.specs.Prelude.{Bool, true, false, not, ◌&&◌, ◌||◌, nat_eq, Option, None, Some}
use Rattle.std.specs.List.{filter_map, cons_option}
use Rattle.std.specs.FinMap as map
use Rattle.std.specs.FinMap.{entries_sorted}
use Rattle.std.specs.FinMap.Entries.{below_all}
use Rattle.std.specs.Cmp.{tied_itself}
use Rattle.std.specs.Cmp.Lexicographic.{nat_list_cmp_total}
use Rattle.std.specs.Ordering.{is_lt}
use Rattle.std.specs.declared.cmp.Ordering.{Ordering}
use Rattle.std.proofs.Common.{◌≡◌, ℕ, ◌≤◌, List, [], ◌∷◌, ◌++◌, length, refl, sym, ◌∙◌, ap, subst, arith}
use Rattle.std.proofs.Math.Dec.{T}
use Rattle.alp_base.specs.Notes.{Notes, text_cmp}
use Rattle.alp_base.specs.declared.ids.JoinNo.{JoinNo}
use Rattle.alp_base.specs.declared.ids.TransId.{TransId}
use Rattle.alp_fields.specs.Forms.{whole}
use Rattle.alp_fields.specs.ClockNote.{clock_name, is_clock_note}
use Rattle.alp_fields.specs.ReadyNote.{ready_name, ready_form, ready_with, ready_in}
use Rattle.alp_fields.specs.DecisionNote.{decision_name, decision_form, decision_with, decision_in}
use Rattle.alp_fields.specs.declared.ready_note.ReadyPart.{ReadyPart}
use Rattle.alp_fields.specs.declared.decision_note.Decision.{Decision}
use Rattle.alp_fields.proofs.FormLaws.{whole_spelled}
use Rattle.alp_fields.proofs.ReadyNoteLaw.{ready_name_law}
use Rattle.alp_fields.proofs.DecisionNoteLaw.{decision_name_law, decision_law, decision_fits}
use Rattle.alp_files.proofs.FilesLemmas.{same-some}
use Rattle.alp_files.proofs.SameLemmas.{same_name-true}
use Rattle.alp_vault.specs.Volumes.{AreServerNotes, is_ready_on, is_decision_of, is_server_note}
use Rattle.alp_journal.specs.Ids.{same_join, has_join}
use Rattle.alp_journal.specs.Laws.{are_joins_apart}
use Rattle.alp_journal.specs.Opening.{ready_noted, decision_noted, ready_kept, decisions_kept}
use Rattle.alp_journal.proofs.IdLemmas.{same_join-true}
use Rattle.alp_regain.specs.Owners.{joins_of, AreReadyHere, AreDecidedHere}
use Rattle.alp_regain.proofs.ListLemmas.{both}
use Rattle.alp_regain.proofs.NoteLemmas.{Entry, there, next}

-- ---- names of notes by their letters

letter_of : List ℕ → ℕ
letter_of [] = 0
letter_of (b ∷ bs) = b

ready_letter : (j : JoinNo) → letter_of (ready_name.spell j) ≡ 82
unfolding letter_of ready_name
ready_letter j = refl

decision_letter : (t : TransId) → letter_of (decision_name.spell t) ≡ 68
unfolding letter_of decision_name
decision_letter t = refl

clock_letter : letter_of clock_name ≡ 67
unfolding letter_of
clock_letter = refl

-- what a note keeps is named by it
part_name : (o : Option JoinNo) (p : Option ReadyPart) (x : JoinNo × ReadyPart) → ready_with o p ≡ Some x → o ≡ Some x.0
part_name None p x e = cc
part_name (Some j) None x e = cc
part_name (Some j) (Some q) x e = ap (λ (y : JoinNo × ReadyPart). Some y.0) (same-some (j, q) x e)

decision_named : (o : Option TransId) (d : Option Decision) (x : TransId × Decision) → decision_with o d ≡ Some x → (o ≡ Some x.0) × (d ≡ Some x.1)
decision_named None d x e = cc
decision_named (Some t) None x e = cc
decision_named (Some t) (Some d) x e = (ap (λ (y : TransId × Decision). Some y.0) (same-some (t, d) x e), ap (λ (y : TransId × Decision). Some y.1) (same-some (t, d) x e))

spelled_ready : (name value : List ℕ) (x : JoinNo × ReadyPart) → ready_in name value ≡ Some x → name ≡ ready_name.spell x.0
spelled_ready name value x e = (whole_spelled ready_name ready_name_law name x.0 (part_name (whole ready_name name) (whole ready_form value) x e)).0

spelled_decision : (name value : List ℕ) (x : TransId × Decision) → decision_in name value ≡ Some x → name ≡ decision_name.spell x.0
spelled_decision name value x e = (whole_spelled decision_name decision_name_law name x.0 (decision_named (whole decision_name name) (whole decision_form value) x e).0).0

of_clock : (name value : List ℕ) → is_clock_note name value ≡ true → name ≡ clock_name
of_clock name value is = same_name-true name clock_name (both is).0

-- a name is of one kind
not_clock_and_ready : (name value : List ℕ) (x : JoinNo × ReadyPart) → ready_in name value ≡ Some x → is_clock_note name value ≡ true → ⊥
not_clock_and_ready name value x e is =
    omega (arith, ready_letter x.0, ap letter_of (sym (spelled_ready name value x e) ∙ of_clock name value is), clock_letter)

not_clock_and_decision : (name value : List ℕ) (x : TransId × Decision) → decision_in name value ≡ Some x → is_clock_note name value ≡ true → ⊥
not_clock_and_decision name value x e is =
    omega (arith, decision_letter x.0, ap letter_of (sym (spelled_decision name value x e) ∙ of_clock name value is), clock_letter)

not_ready_and_decision : (name value : List ℕ) (x : JoinNo × ReadyPart) (y : TransId × Decision) → ready_in name value ≡ Some x → decision_in name value ≡ Some y → ⊥
not_ready_and_decision name value x y e f =
    omega (arith, ready_letter x.0, ap letter_of (sym (spelled_ready name value x e) ∙ spelled_decision name value y f), decision_letter y.0)

-- ---- one note

middle : (c r d : Bool) → (c ≡ true → ⊥) → (d ≡ true → ⊥) → (c || (r || d)) ≡ true → r ≡ true
middle true r d f g h = absurd (f refl)
middle false true d f g h = refl
middle false false true f g h = absurd (g refl)
middle false false false f g h = cc

last : (c r d : Bool) → (c ≡ true → ⊥) → (r ≡ true → ⊥) → (c || (r || d)) ≡ true → d ≡ true
last true r d f g h = absurd (f refl)
last false true d f g h = absurd (g refl)
last false false true f g h = refl
last false false false f g h = cc

number_is : (a b : ℕ) → nat_eq a b ≡ true → a ≡ b
number_is a b h = grind arith

module _ (server servers : ℕ) (name value : List ℕ) (is : is_server_note server servers name value ≡ true) where
  no_decision : (x : JoinNo × ReadyPart) → ready_in name value ≡ Some x → is_decision_of server servers (decision_in name value) ≡ true → ⊥
  no_decision x e = go (decision_in name value) refl
    where
      go : (o : Option (TransId × Decision)) → decision_in name value ≡ o → is_decision_of server servers o ≡ true → ⊥
      go None f h = cc
      go (Some y) f h = not_ready_and_decision name value x y e f

  no_part : (y : TransId × Decision) → decision_in name value ≡ Some y → is_ready_on server servers (ready_in name value) ≡ true → ⊥
  no_part y f = go (ready_in name value) refl
    where
      go : (o : Option (JoinNo × ReadyPart)) → ready_in name value ≡ o → is_ready_on server servers o ≡ true → ⊥
      go None e h = cc
      go (Some x) e h = not_ready_and_decision name value x y e f

  ready_here : (x : JoinNo × ReadyPart) → ready_in name value ≡ Some x → is_ready_on server servers (Some x) ≡ true
  ready_here x e =
      ap (is_ready_on server servers) (sym e)
      ∙ middle (is_clock_note name value) (is_ready_on server servers (ready_in name value)) (is_decision_of server servers (decision_in name value)) (not_clock_and_ready name value x e) (no_decision x e) is

  decided_here : (y : TransId × Decision) → decision_in name value ≡ Some y → is_decision_of server servers (Some y) ≡ true
  decided_here y f =
      ap (is_decision_of server servers) (sym f)
      ∙ last (is_clock_note name value) (is_ready_on server servers (ready_in name value)) (is_decision_of server servers (decision_in name value)) (not_clock_and_decision name value y f) (no_part y f) is

some_joins : (name value : List ℕ) (y : TransId × Decision) → decision_in name value ≡ Some y → 1 ≤ length y.1.joins
some_joins name value y f =
    (decision_fits y.1 (whole_spelled decision_form decision_law value y.1 (decision_named (whole decision_name name) (whole decision_form value) y f).1).1).some

-- ---- all of them

module _ (server servers : ℕ) (notes : Notes) (are : AreServerNotes server servers notes) where
  each_ready : (before after : List Entry) → before ++ after ≡ map.entries notes → AreReadyHere server servers (filter_map (λ (e : Entry). ready_noted (ready_in e.0 e.1)) after)
  each_ready before [] split = tt
  each_ready before (e ∷ after) split = go (ready_in e.0 e.1) refl (each_ready (before ++ e ∷ []) after (next notes before after e split))
    where
      go : (o : Option (JoinNo × ReadyPart)) → ready_in e.0 e.1 ≡ o → AreReadyHere server servers (filter_map (λ (x : Entry). ready_noted (ready_in x.0 x.1)) after)
          → AreReadyHere server servers (cons_option (ready_noted o) (filter_map (λ (x : Entry). ready_noted (ready_in x.0 x.1)) after))
      go None f rest = rest
      go (Some x) f rest =
          let parts = both (ready_here server servers e.0 e.1 (are e.0 e.1 (there notes before after e split)) x f) in
          (record { here = number_is x.0.server server parts.0; elsewhere = parts.1 }, rest)

  each_decided : (before after : List Entry) → before ++ after ≡ map.entries notes → AreDecidedHere server servers (filter_map (λ (e : Entry). decision_noted (decision_in e.0 e.1)) after)
  each_decided before [] split = tt
  each_decided before (e ∷ after) split = go (decision_in e.0 e.1) refl (each_decided (before ++ e ∷ []) after (next notes before after e split))
    where
      go : (o : Option (TransId × Decision)) → decision_in e.0 e.1 ≡ o → AreDecidedHere server servers (filter_map (λ (x : Entry). decision_noted (decision_in x.0 x.1)) after)
          → AreDecidedHere server servers (cons_option (decision_noted o) (filter_map (λ (x : Entry). decision_noted (decision_in x.0 x.1)) after))
      go None f rest = rest
      go (Some y) f rest =
          let parts = both (decided_here server servers e.0 e.1 (are e.0 e.1 (there notes before after e split)) y f) in
          (record { here = number_is y.0.server server parts.0; some = some_joins e.0 e.1 y f; elsewhere = parts.1 }, rest)

  pub are_ready_here : AreReadyHere server servers (ready_kept notes)
  are_ready_here = each_ready [] (map.entries notes) refl

  pub are_decided_here : AreDecidedHere server servers (decisions_kept notes)
  are_decided_here = each_decided [] (map.entries notes) refl

-- ---- numbers of parts

first : (a b : Bool) → T (a && b) → T a
first true b h = tt
first false b h = absurd h

second : (a b : Bool) → T (a && b) → T b
second true b h = h
second false b h = absurd h

not_below_itself : (name : List ℕ) → T (is_lt (text_cmp name name)) → ⊥
not_below_itself name low = subst (λ (o : Ordering). T (is_lt o)) (tied_itself nat_list_cmp_total name) low

-- no later note keeps a part of that number
none_later : (e : Entry) (x : JoinNo × ReadyPart) → ready_in e.0 e.1 ≡ Some x → (es : List Entry) → T (below_all text_cmp e.0 es)
    → has_join x.0 (joins_of (filter_map (λ (d : Entry). ready_noted (ready_in d.0 d.1)) es)) ≡ false
none_later e x f [] low = refl
none_later e x f (d ∷ es) low = go (ready_in d.0 d.1) refl (none_later e x f es (second (is_lt (text_cmp e.0 d.0)) (below_all text_cmp e.0 es) low))
  where
    other : (y : JoinNo × ReadyPart) → ready_in d.0 d.1 ≡ Some y → (b : Bool) → same_join y.0 x.0 ≡ b → b ≡ false
    other y g true same =
        let name : d.0 ≡ e.0 = spelled_ready d.0 d.1 y g ∙ ap (λ (j : JoinNo). ready_name.spell j) (same_join-true y.0 x.0 same) ∙ sym (spelled_ready e.0 e.1 x f) in
        absurd (not_below_itself e.0 (subst (λ (n : List ℕ). T (is_lt (text_cmp e.0 n))) name (first (is_lt (text_cmp e.0 d.0)) (below_all text_cmp e.0 es) low)))
    other y g false same = refl

    go : (o : Option (JoinNo × ReadyPart)) → ready_in d.0 d.1 ≡ o → has_join x.0 (joins_of (filter_map (λ (c : Entry). ready_noted (ready_in c.0 c.1)) es)) ≡ false
        → has_join x.0 (joins_of (cons_option (ready_noted o) (filter_map (λ (c : Entry). ready_noted (ready_in c.0 c.1)) es))) ≡ false
    go None g rest = rest
    go (Some y) g rest = ap (λ (b : Bool). b || has_join x.0 (joins_of (filter_map (λ (c : Entry). ready_noted (ready_in c.0 c.1)) es))) (other y g (same_join y.0 x.0) refl) ∙ rest

apart_each : (es : List Entry) → T (map.is_sorted text_cmp es) → are_joins_apart (joins_of (filter_map (λ (e : Entry). ready_noted (ready_in e.0 e.1)) es)) ≡ true
apart_each [] sorted = refl
apart_each (e ∷ es) sorted = go (ready_in e.0 e.1) refl (apart_each es (second (below_all text_cmp e.0 es) (map.is_sorted text_cmp es) sorted))
  where
    go : (o : Option (JoinNo × ReadyPart)) → ready_in e.0 e.1 ≡ o → are_joins_apart (joins_of (filter_map (λ (d : Entry). ready_noted (ready_in d.0 d.1)) es)) ≡ true
        → are_joins_apart (joins_of (cons_option (ready_noted o) (filter_map (λ (d : Entry). ready_noted (ready_in d.0 d.1)) es))) ≡ true
    go None f rest = rest
    go (Some x) f rest =
        ap (λ (b : Bool). not b && are_joins_apart (joins_of (filter_map (λ (d : Entry). ready_noted (ready_in d.0 d.1)) es)))
        (none_later e x f es (first (below_all text_cmp e.0 es) (map.is_sorted text_cmp es) sorted))
        ∙ rest

pub joins_apart : (notes : Notes) → are_joins_apart (joins_of (ready_kept notes)) ≡ true
joins_apart notes = apart_each (map.entries notes) (entries_sorted notes)
