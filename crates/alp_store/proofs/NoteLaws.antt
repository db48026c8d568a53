-- notes that are looked at one by one
use Rattle.std.specs.Prelude.{Bool, true, false, ◌&&◌, ◌||◌, is_some}
use Rattle.std.specs.List.{list_all, list_any}
use Rattle.std.specs.FinMap as map
use Rattle.std.specs.FinMap.{contains_key-keys}
use Rattle.std.specs.Ordering.{eq_by_cmp, is_eq}
use Rattle.std.specs.declared.cmp.Ordering.{Ordering}
use Rattle.std.specs.declared.cmp.Ordering.TheVariants.{Less, Equal, Greater}
use Rattle.std.proofs.Common.{◌≡◌, ℕ, List, [], ◌∷◌, refl, sym, ◌∙◌, ap}
use Rattle.std.proofs.lemmas.Map.Lookups.{exact_bytes}
use Rattle.alp_base.specs.Notes.{Notes, text_cmp}
use Rattle.alp_vault.specs.Volumes.{AreServerNotes}
use Rattle.alp_store.specs.Notes.{is_good}

both : (a b : Bool) → a && b ≡ true → (a ≡ true) × (b ≡ true)
both true b h = (refl, h)
both false b h = cc

tied_text : (a b : List ℕ) → eq_by_cmp text_cmp a b ≡ true → text_cmp a b ≡ Equal
tied_text a b e = go (text_cmp a b) refl e
  where
    go : (o : Ordering) → text_cmp a b ≡ o → is_eq o ≡ true → o ≡ Equal
    go Less h f = cc
    go Equal h f = refl
    go Greater h f = cc

-- each of these names is good among the notes
abbrev pub all_good : (server servers : ℕ) → Notes → List (List ℕ) → Bool
all_good server servers notes names = list_all (λ n. is_good server servers n (map.get notes n)) names

module _ (server servers : ℕ) (notes : Notes) where
  named : (name : List ℕ) (ns : List (List ℕ)) → all_good server servers notes ns ≡ true → list_any (eq_by_cmp text_cmp name) ns ≡ true → is_good server servers name (map.get notes name) ≡ true
  named name [] all any = cc
  named name (n ∷ ns) all any = go (eq_by_cmp text_cmp name n) refl any (named name ns parts.1)
    where
      parts : (is_good server servers n (map.get notes n) ≡ true) × (all_good server servers notes ns ≡ true)
      parts = both (is_good server servers n (map.get notes n)) (all_good server servers notes ns) all

      go : (t : Bool) → eq_by_cmp text_cmp name n ≡ t → (t || list_any (eq_by_cmp text_cmp name) ns) ≡ true
          → (list_any (eq_by_cmp text_cmp name) ns ≡ true → is_good server servers name (map.get notes name) ≡ true) → is_good server servers name (map.get notes name) ≡ true
      go true e h rest = ap (λ (x : List ℕ). is_good server servers x (map.get notes x)) (exact_bytes name n (tied_text name n e)) ∙ parts.0
      go false e h rest = rest h

  -- all names are good, so all notes are in the format
  pub good_notes : all_good server servers notes (map.keys notes) ≡ true → AreServerNotes server servers notes
  good_notes all name value there =
      ap (is_good server servers name) (sym there) ∙ named name (map.keys notes) all (sym (contains_key-keys notes name) ∙ ap is_some there)
