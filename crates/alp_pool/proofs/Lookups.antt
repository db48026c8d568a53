-- Look-ups after the changes of a cache.
use Rattle.std.specs.Prelude.{IsOk, Result, Ok, Err, Bool, true, false, cond, is_some, Option, None, Some, nat_eq, slice_set, ◌↔◌}
use Rattle.std.specs.List.{IsDistinct}
use Rattle.std.specs.Option.{option_map, option_map_or}
use Rattle.std.specs.Map.{lookup, lookup_entry, remove_entry, keys_of}
use Rattle.std.specs.Cmp.{nat_eq_equiv}
use Rattle.std.proofs.Common.{◌≡◌, ◌≢◌, ◌<◌, ℕ, zero, suc, ◌-◌, List, [], ◌∷◌, length, take, refl, sym, ◌∙◌, ap}
use Rattle.std.proofs.lemmas.Bool.{eqb-true}
use Rattle.std.proofs.lemmas.List.{get_or-set_same, get_or-set_other}
use Rattle.std.proofs.lemmas.Map.{lookup-remove_entry}
use Rattle.lru.specs.LruCache.{LruCache, promoted, put_entries}
use Rattle.lru.proofs.CallerLemmas.{Contains-lookup_entry}
use Rattle.alp_disk.specs.Disk.{Image, page}
use Rattle.alp_pool.specs.Buffers.{Buffers, IsResident, AreBuffersOf}

lookup-entry : (test : ℕ → Bool) (es : Buffers) → lookup test es ≡ option_map (λ e. e.1) (lookup_entry test es)
lookup-entry test [] = refl
lookup-entry test (e ∷ es) = go (test e.0) (lookup-entry test es)
  where
    go : (t : Bool) → lookup test es ≡ option_map (λ (x : ℕ × List ℕ). x.1) (lookup_entry test es) → cond t (Some e.1) (lookup test es) ≡ option_map (λ (x : ℕ × List ℕ). x.1) (cond t (Some e) (lookup_entry test es))
    go true h = refl
    go false h = h

one : (k : ℕ) (x y : ℕ) → nat_eq k x ≡ true → nat_eq k y ≡ nat_eq x y
one k x y h = ap (λ (z : ℕ). nat_eq z y) (eqb-true k x h)

-- an entry that goes to the front, with this value
pub moved : (k q : ℕ) (es : Buffers) (e : ℕ × List ℕ) (v : List ℕ) → IsDistinct nat_eq (keys_of es) → lookup_entry (nat_eq k) es ≡ Some e
    → lookup (nat_eq q) ((e.0, v) ∷ remove_entry (nat_eq k) es) ≡ cond (nat_eq q k) (Some v) (lookup (nat_eq q) es)
moved k q es e v distinct there =
    let key : k ≡ e.0 = eqb-true k e.0 (Contains-lookup_entry (nat_eq k) es e there).1 in
    ap (λ (x : ℕ). cond (nat_eq q x) (Some v) (lookup (nat_eq q) (remove_entry (nat_eq k) es))) (sym key)
    ∙ ap (cond (nat_eq q k) (Some v)) (lookup-remove_entry nat_eq_equiv (nat_eq k) (one k) q es distinct)
    ∙ go (nat_eq q k) refl
  where
    go : (t : Bool) → nat_eq q k ≡ t → cond t (Some v) (cond (nat_eq k q) None (lookup (nat_eq q) es)) ≡ cond t (Some v) (lookup (nat_eq q) es)
    go true h = refl
    go false h = ap (λ (t : Bool). cond t None (lookup (nat_eq q) es)) (nat_eq_equiv.symm k q ∙ h)

-- what counts as used holds the same
pub lookup-promoted : (k q : ℕ) (es : Buffers) → IsDistinct nat_eq (keys_of es) → lookup (nat_eq q) (promoted (nat_eq k) es) ≡ lookup (nat_eq q) es
lookup-promoted k q es distinct = go (lookup_entry (nat_eq k) es) refl
  where
    same : (e : ℕ × List ℕ) → lookup_entry (nat_eq k) es ≡ Some e → (t : Bool) → nat_eq q k ≡ t → cond t (Some e.1) (lookup (nat_eq q) es) ≡ lookup (nat_eq q) es
    same e there true h = sym (ap (λ (x : ℕ). lookup (nat_eq x) es) (eqb-true q k h) ∙ lookup-entry (nat_eq k) es ∙ ap (option_map (λ (x : ℕ × List ℕ). x.1)) there)
    same e there false h = refl

    go : (o : Option (ℕ × List ℕ)) → lookup_entry (nat_eq k) es ≡ o → lookup (nat_eq q) (option_map_or (λ e. e ∷ remove_entry (nat_eq k) es) o es) ≡ lookup (nat_eq q) es
    go None h = refl
    go (Some e) h = moved k q es e e.1 distinct h ∙ same e h (nat_eq q k) refl

in_front : (q n : ℕ) (es : Buffers) (b : List ℕ) → lookup (nat_eq q) (take n es) ≡ Some b → lookup (nat_eq q) es ≡ Some b
in_front q zero es b h = cc
in_front q (suc n) [] b h = h
in_front q (suc n) (e ∷ es) b h = go (nat_eq q e.0) (in_front q n es b) h
  where
    go : (t : Bool) → (lookup (nat_eq q) (take n es) ≡ Some b → lookup (nat_eq q) es ≡ Some b) → cond t (Some e.1) (lookup (nat_eq q) (take n es)) ≡ Some b → cond t (Some e.1) (lookup (nat_eq q) es) ≡ Some b
    go true rest x = x
    go false rest x = rest x

-- A page that gets a buffer pushes another out, or none: the buffers stay in step.
pub buffers-put : (pages : Image) (c : LruCache ℕ (List ℕ)) (k : ℕ) (v : List ℕ) → IsDistinct nat_eq (keys_of c.entries) → v ≡ page pages k → AreBuffersOf pages c.entries → AreBuffersOf pages (put_entries nat_eq c k v)
buffers-put pages c k v distinct right old q b = go (lookup_entry (nat_eq k) c.entries) refl
  where
    there : (t : Bool) → nat_eq q k ≡ t → cond t (Some v) (lookup (nat_eq q) c.entries) ≡ Some b → b ≡ page pages q
    there true h x = let same : v ≡ b = cc in sym same ∙ right ∙ ap (page pages) (sym (eqb-true q k h))
    there false h x = old q b x

    new : (t : Bool) → nat_eq q k ≡ t → cond t (Some v) (lookup (nat_eq q) (take (c.cap - 1) c.entries)) ≡ Some b → b ≡ page pages q
    new true h x = let same : v ≡ b = cc in sym same ∙ right ∙ ap (page pages) (sym (eqb-true q k h))
    new false h x = old q b (in_front q (c.cap - 1) c.entries b x)

    go : (o : Option (ℕ × List ℕ)) → lookup_entry (nat_eq k) c.entries ≡ o → lookup (nat_eq q) (option_map_or (λ e. (e.0, v) ∷ remove_entry (nat_eq k) c.entries) o ((k, v) ∷ take (c.cap - 1) c.entries)) ≡ Some b → b ≡ page pages q
    go None h x = new (nat_eq q k) refl x
    go (Some e) h x = there (nat_eq q k) refl (sym (moved k q c.entries e v distinct h) ∙ x)

-- one that had a buffer has its new page there, and the others are the same
pub lookup-put : (c : LruCache ℕ (List ℕ)) (k q : ℕ) (v : List ℕ) → IsDistinct nat_eq (keys_of c.entries) → IsResident k c.entries → lookup (nat_eq q) (put_entries nat_eq c k v) ≡ cond (nat_eq q k) (Some v) (lookup (nat_eq q) c.entries)
lookup-put c k q v distinct held = go (lookup_entry (nat_eq k) c.entries) refl
  where
    go : (o : Option (ℕ × List ℕ)) → lookup_entry (nat_eq k) c.entries ≡ o → lookup (nat_eq q) (option_map_or (λ e. (e.0, v) ∷ remove_entry (nat_eq k) c.entries) o ((k, v) ∷ take (c.cap - 1) c.entries)) ≡ cond (nat_eq q k) (Some v) (lookup (nat_eq q) c.entries)
    go None h = let none : lookup (nat_eq k) c.entries ≡ None = lookup-entry (nat_eq k) c.entries ∙ ap (option_map (λ (x : ℕ × List ℕ). x.1)) h in let no : is_some (lookup (nat_eq k) c.entries) ≡ false = ap is_some none in cc
    go (Some e) h = moved k q c.entries e v distinct h

module _ (pages : Image) (k : ℕ) (v : List ℕ) (low : k < length pages) where
  -- the other pages are as before
  other : (q : ℕ) → q ≢ k → page (slice_set pages k v) q ≡ page pages q
  other q ne = get_or-set_other pages k q _ _ ne

  here : page (slice_set pages k v) k ≡ v
  here = get_or-set_same pages k _ _ low

  -- the page of a buffer changes, and its buffer with it
  pub buffers-renewed : (c : LruCache ℕ (List ℕ)) → IsDistinct nat_eq (keys_of c.entries) → IsResident k c.entries → AreBuffersOf pages c.entries → AreBuffersOf (slice_set pages k v) (put_entries nat_eq c k v)
  buffers-renewed c distinct held old q b is = go (nat_eq q k) refl (sym (lookup-put c k q v distinct held) ∙ is)
    where
      go : (t : Bool) → nat_eq q k ≡ t → cond t (Some v) (lookup (nat_eq q) c.entries) ≡ Some b → b ≡ page (slice_set pages k v) q
      go true h x = let same : v ≡ b = cc in sym same ∙ sym here ∙ ap (page (slice_set pages k v)) (sym (eqb-true q k h))
      go false h x = old q b x ∙ sym (other q (λ e. let yes : nat_eq q k ≡ true = ap (λ (z : ℕ). nat_eq z k) e ∙ nat_eq_equiv.refl k in cc))

  -- a page without a buffer changes, and no buffer does
  pub buffers-still : (es : Buffers) → is_some (lookup (nat_eq k) es) ≡ false → AreBuffersOf pages es → AreBuffersOf (slice_set pages k v) es
  buffers-still es none old q b is = old q b is ∙ sym (other q (λ e. let some : is_some (lookup (nat_eq k) es) ≡ true = ap (λ (z : ℕ). is_some (lookup (nat_eq z) es)) (sym e) ∙ ap is_some is in cc))

-- the same pages have buffers
pub resident-renewed : (c : LruCache ℕ (List ℕ)) (k : ℕ) (v : List ℕ) → IsDistinct nat_eq (keys_of c.entries) → IsResident k c.entries → (q : ℕ) → IsResident q (put_entries nat_eq c k v) ↔ IsResident q c.entries
resident-renewed c k v distinct held q = go (nat_eq q k) refl
  where
    go : (t : Bool) → nat_eq q k ≡ t → IsResident q (put_entries nat_eq c k v) ↔ IsResident q c.entries
    go true h =
        let yes : is_some (lookup (nat_eq q) (put_entries nat_eq c k v)) ≡ true = ap is_some (lookup-put c k q v distinct held ∙ ap (λ (t : Bool). cond t (Some v) (lookup (nat_eq q) c.entries)) h) in
        let before : is_some (lookup (nat_eq q) c.entries) ≡ true = ap (λ (z : ℕ). is_some (lookup (nat_eq z) c.entries)) (eqb-true q k h) ∙ held in
        (λ _. before, λ _. yes)
    go false h =
        let same : is_some (lookup (nat_eq q) (put_entries nat_eq c k v)) ≡ is_some (lookup (nat_eq q) c.entries) = ap is_some (lookup-put c k q v distinct held ∙ ap (λ (t : Bool). cond t (Some v) (lookup (nat_eq q) c.entries)) h) in
        (λ now. sym same ∙ now, λ was. same ∙ was)

pub not_err : {T E : Type 0} (r : Result T E) (e : E) → IsOk r → r ≡ Err e → ⊥
not_err (Ok x) e ok is = cc
not_err (Err x) e ok is = cc
