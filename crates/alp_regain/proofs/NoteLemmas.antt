-- notes that are read one by one by their names
use Rattle.std.specs.Prelude.{Bool, true, false, ◌||◌, Option, None, Some, is_some, map as list_map}
use Rattle.std.specs.List.{list_any, filter_map, cons_option}
use Rattle.std.specs.Option.{option_to_list, option_and_then}
use Rattle.std.specs.FinMap as map
use Rattle.std.specs.FinMap.{get-entries, entries_sorted, find, contains_key-keys}
use Rattle.std.specs.Ordering.{eq_by_cmp, is_eq}
use Rattle.std.specs.Cmp.{tied_itself}
use Rattle.std.specs.Cmp.Lexicographic.{nat_list_cmp_total}
use Rattle.std.specs.declared.cmp.Ordering.{Ordering}
use Rattle.std.specs.declared.cmp.Ordering.TheVariants.{Less, Equal, Greater}
use Rattle.std.proofs.Common.{◌≡◌, ℕ, List, [], ◌∷◌, ◌++◌, append_assoc, refl, sym, ◌∙◌, ap, subst}
use Rattle.std.proofs.Math.Dec.{T}
use Rattle.std.proofs.lemmas.Map.Lookups.{exact_bytes}
use Rattle.alp_base.specs.Notes.{Notes, text_cmp}
use Rattle.alp_base.specs.declared.ids.JoinNo.{JoinNo}
use Rattle.alp_fields.specs.ReadyNote.{ready_in}
use Rattle.alp_fields.specs.DecisionNote.{decision_in}
use Rattle.alp_fields.specs.declared.ready_note.ReadyPart.{ReadyPart}
use Rattle.alp_vault.specs.Volumes.{AreServerNotes}
use Rattle.alp_journal.specs.Opening.{ReadyNote, ready_noted, decision_noted, ready_kept, decisions_kept}
use Rattle.alp_queue.proofs.SortedLemmas.{find-here}
use Rattle.alp_regain.specs.Notes.{part_note, parts_under, decisions_under, is_good, are_good}
use Rattle.alp_regain.proofs.ListLemmas.{both}

-- ---- each of the notes is there under its name

abbrev pub Entry : Type 0
Entry = List ℕ × List ℕ

module _ (notes : Notes) where
  pub there : (before after : List Entry) (e : Entry) → before ++ e ∷ after ≡ map.entries notes → map.get notes e.0 ≡ Some e.1
  there before after e split =
      let sorted : T (map.is_sorted text_cmp (before ++ e ∷ after)) = subst (λ (es : List Entry). T (map.is_sorted text_cmp es)) (sym split) (entries_sorted notes) in
      get-entries notes e.0 ∙ ap (find text_cmp e.0) (sym split) ∙ find-here nat_list_cmp_total e.0 before e after sorted (tied_itself nat_list_cmp_total e.0)

  pub next : (before after : List Entry) (e : Entry) → before ++ e ∷ after ≡ map.entries notes → (before ++ e ∷ []) ++ after ≡ map.entries notes
  next before after e split = append_assoc before (e ∷ []) after ∙ split

  -- what is read under each name is what each note keeps
  module _ {Y : Type 0} (f : List ℕ → List ℕ → Option Y) where
    read : (before after : List Entry) → before ++ after ≡ map.entries notes
        → filter_map (λ name. option_and_then (f name) (map.get notes name)) (list_map (λ (e : Entry). e.0) after) ≡ filter_map (λ (e : Entry). f e.0 e.1) after
    read before [] split = refl
    read before (e ∷ after) split =
        ap (λ (o : Option (List ℕ)). cons_option (option_and_then (f e.0) o) (filter_map (λ name. option_and_then (f name) (map.get notes name)) (list_map (λ (x : Entry). x.0) after)))
        (there before after e split)
        ∙ ap (cons_option (f e.0 e.1)) (read (before ++ e ∷ []) after (next before after e split))

-- the part of each note in the words of a journal
noted_each : (es : List Entry) → list_map part_note (filter_map (λ (e : Entry). ready_in e.0 e.1) es) ≡ filter_map (λ (e : Entry). ready_noted (ready_in e.0 e.1)) es
noted_each [] = refl
noted_each (e ∷ es) = go (ready_in e.0 e.1) (noted_each es)
  where
    go : (o : Option (JoinNo × ReadyPart))
        → list_map part_note (filter_map (λ (x : Entry). ready_in x.0 x.1) es) ≡ filter_map (λ (x : Entry). ready_noted (ready_in x.0 x.1)) es
        → list_map part_note (cons_option o (filter_map (λ (x : Entry). ready_in x.0 x.1) es)) ≡ cons_option (ready_noted o) (filter_map (λ (x : Entry). ready_noted (ready_in x.0 x.1)) es)
    go None rest = rest
    go (Some x) rest = ap (λ (ns : List ReadyNote). part_note x ∷ ns) rest

pub parts_kept : (notes : Notes) → list_map part_note (parts_under notes (map.keys notes)) ≡ ready_kept notes
parts_kept notes = ap (λ (xs : List (JoinNo × ReadyPart)). list_map part_note xs) (read notes ready_in [] (map.entries notes) refl) ∙ noted_each (map.entries notes)

pub all_decisions : (notes : Notes) → decisions_under notes (map.keys notes) ≡ decisions_kept notes
all_decisions notes = read notes (λ name value. decision_noted (decision_in name value)) [] (map.entries notes) refl

-- ---- the format of each

tied_text : (a b : List ℕ) → eq_by_cmp text_cmp a b ≡ true → text_cmp a b ≡ Equal
tied_text a b e = go (text_cmp a b) refl e
  where
    go : (o : Ordering) → text_cmp a b ≡ o → is_eq o ≡ true → o ≡ Equal
    go Less h f = cc
    go Equal h f = refl
    go Greater h f = cc

module _ (server servers : ℕ) (notes : Notes) where
  named : (name : List ℕ) (ns : List (List ℕ)) → are_good server servers notes ns ≡ true → list_any (eq_by_cmp text_cmp name) ns ≡ true → is_good server servers name (map.get notes name) ≡ true
  named name [] all any = cc
  named name (n ∷ ns) all any = go (eq_by_cmp text_cmp name n) refl any (named name ns (both all).1)
    where
      go : (t : Bool) → eq_by_cmp text_cmp name n ≡ t → (t || list_any (eq_by_cmp text_cmp name) ns) ≡ true
          → (list_any (eq_by_cmp text_cmp name) ns ≡ true → is_good server servers name (map.get notes name) ≡ true) → is_good server servers name (map.get notes name) ≡ true
      go true e h rest = ap (λ (x : List ℕ). is_good server servers x (map.get notes x)) (exact_bytes name n (tied_text name n e)) ∙ (both all).0
      go false e h rest = rest h

  pub good_notes : are_good server servers notes (map.keys notes) ≡ true → AreServerNotes server servers notes
  good_notes all name value there = ap (is_good server servers name) (sym there) ∙ named name (map.keys notes) all (sym (contains_key-keys notes name) ∙ ap is_some there)

  good_one : (name : List ℕ) → AreServerNotes server servers notes → (o : Option (List ℕ)) → map.get notes name ≡ o → is_good server servers name o ≡ true
  good_one name are None e = refl
  good_one name are (Some value) e = are name value e

  pub each_good : (name : List ℕ) → AreServerNotes server servers notes → is_good server servers name (map.get notes name) ≡ true
  each_good name are = good_one name are (map.get notes name) refl

-- ---- one name after the other

-- what is read so far, and what the names that are left keep, is what all keep
pub read_on : {Y : Type 0} (ys all : List Y) (o : Option Y) (rest : List Y) → ys ++ cons_option o rest ≡ all → (ys ++ option_to_list o) ++ rest ≡ all
read_on ys all None rest h = append_assoc ys [] rest ∙ h
read_on ys all (Some y) rest h = append_assoc ys (y ∷ []) rest ∙ h
