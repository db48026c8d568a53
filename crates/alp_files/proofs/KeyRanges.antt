-- pages of a file whose numbers lie between two
use Rattle.std.specs.Prelude.{Option, None, Some, true, false, ◌&&◌, nat_le, IfSome, IfNone, IsSome, is_some}
use Rattle.std.specs.declared.cmp.Ordering.{Ordering}
use Rattle.std.specs.declared.cmp.Ordering.TheVariants.{Less, Equal, Greater}
use Rattle.std.specs.Ordering.{nat_cmp, is_gt, ordering_then, ordering_reverse}
use Rattle.std.specs.FinMap as map
use Rattle.std.specs.BTreeMap.Range.{IsLeBy}
use Rattle.std.proofs.Common.{◌≡◌, ℕ, ◌≤◌, refl, sym, ◌∙◌, ap, subst, arith}
use Rattle.alp_base.specs.declared.ids.FileId.{FileId}
use Rattle.alp_base.specs.declared.key.Key.{Key}
use Rattle.alp_base.specs.declared.key.Key.TheVariants.{Leader, PageOf, OwnerOf}
use Rattle.alp_base.specs.Keys.{key_cmp}
use Rattle.alp_base.specs.KeyLaws.{keys_total, file_cmp, exact_files}
use Rattle.alp_base.proofs.NameLemmas.{and_left, and_right}
use Rattle.alp_files.specs.Cells.{Cells, View, same_file}
use Rattle.alp_files.specs.Counts.{APageStands, page_up_to}
use Rattle.alp_files.proofs.SameLemmas.{same_file-true, same_file-itself}
use Rattle.std.proofs.lemmas.Bool.{and_from}

alike : (f : FileId) → file_cmp f f ≡ Equal
alike f = self_equal (file_cmp f f) (keys_total.antisymm (Leader f) (Leader f))
  where
    self_equal : (r : Ordering) → r ≡ ordering_reverse r → r ≡ Equal
    self_equal Less e = cc
    self_equal Equal e = refl
    self_equal Greater e = cc

nat_up : (a b : ℕ) → is_gt (nat_cmp a b) ≡ false → a ≤ b
nat_up a b h = grind arith

nat_back : (a b : ℕ) → a ≤ b → is_gt (nat_cmp a b) ≡ false
nat_back a b h = grind arith

-- numbers decide between pages of one file
pub page_after : (f : FileId) (a n : ℕ) → IsLeBy key_cmp (PageOf f a) (PageOf f n) → a ≤ n
page_after f a n h = nat_up a n (ap (λ (r : Ordering). is_gt (ordering_then r (nat_cmp a n))) (sym (alike f)) ∙ h)

pub after_page : (f : FileId) (a n : ℕ) → a ≤ n → IsLeBy key_cmp (PageOf f a) (PageOf f n)
after_page f a n h = ap (λ (r : Ordering). is_gt (ordering_then r (nat_cmp a n))) (alike f) ∙ nat_back a n h

-- a key between pages of one file is one of its pages
one_file : (f g : FileId) (a j n : ℕ) → IsLeBy key_cmp (PageOf f a) (PageOf g j) → IsLeBy key_cmp (PageOf g j) (PageOf f n) → f ≡ g
one_file f g a j n low high = go (file_cmp f g) (file_cmp g f) refl refl (keys_total.antisymm (Leader f) (Leader g))
  where
    go : (r s : Ordering) → file_cmp f g ≡ r → file_cmp g f ≡ s → file_cmp f g ≡ ordering_reverse (file_cmp g f) → f ≡ g
    go Equal s p q e = exact_files f g p
    go Greater s p q e =
        let wrong : true ≡ false = ap (λ (r : Ordering). is_gt (ordering_then r (nat_cmp a j))) (sym p) ∙ low in cc
    go Less Greater p q e =
        let wrong : true ≡ false = ap (λ (r : Ordering). is_gt (ordering_then r (nat_cmp j n))) (sym q) ∙ high in cc
    go Less Less p q e = let wrong : Less ≡ Greater = sym p ∙ e ∙ ap ordering_reverse q in cc
    go Less Equal p q e = let wrong : Less ≡ Equal = sym p ∙ e ∙ ap ordering_reverse q in cc

some_cell : {X : Type 0} (o : Option X) → is_some o ≡ true → (x : X) × (o ≡ Some x)
some_cell None h = cc
some_cell (Some x) h = (x, refl)

pub page_there : (m : Cells) (v : View) → map.get m ≡ v → (k : Option Key) (f : FileId) (first last : ℕ)
    → IfSome k (λ (q : Key). IsLeBy key_cmp (PageOf f first) q × IsSome (v q)) → page_up_to k f last ≡ true → APageStands m f first last
page_there m v same None f first last h t = cc
page_there m v same (Some (Leader g)) f first last h t = cc
page_there m v same (Some (OwnerOf name)) f first last h t = cc
page_there m v same (Some (PageOf g n)) f first last h t =
    let file : f ≡ g = same_file-true f g (and_left _ _ t) in
    let least : first ≤ n = page_after f first n (subst (λ (x : FileId). IsLeBy key_cmp (PageOf f first) (PageOf x n)) (sym file) h.0) in
    let top : nat_le n last ≡ true = and_right (same_file f g) (nat_le n last) t in
    let below : n ≤ last = grind (arith, top) in
    let cell = some_cell (v (PageOf g n)) h.1 in
    record { number = n; within = (least, below); page = cell.0; stands = ap (λ (x : FileId). map.get m (PageOf x n)) file ∙ ap (λ (w : View). w (PageOf g n)) same ∙ cell.1 }

none_or : {X : Type 0} (o : Option X) → (is_some o ≡ true → ⊥) → o ≡ None
none_or None h = refl
none_or (Some x) h = absurd (h refl)

pub no_page : (v : View) (k : Option Key) (f : FileId) (first last : ℕ)
    → IfSome k (λ (q : Key). IsLeBy key_cmp (PageOf f first) q × IsSome (v q))
    → IfSome k (λ (q : Key). (r : Key) → IsLeBy key_cmp (PageOf f first) r → IsSome (v r) → IsLeBy key_cmp q r)
    → IfNone k ((r : Key) → IsLeBy key_cmp (PageOf f first) r → v r ≡ None)
    → page_up_to k f last ≡ false → (n : ℕ) → first ≤ n → n ≤ last → v (PageOf f n) ≡ None
no_page v None f first last found least none t n low high = none (PageOf f n) (after_page f first n low)
no_page v (Some (Leader g)) f first last found least none t n low high = let wrong : true ≡ false = found.0 in cc
no_page v (Some (OwnerOf name)) f first last found least none t n low high =
    none_or _ (λ is. let wrong : true ≡ false = least (PageOf f n) (after_page f first n low) is in cc)
no_page v (Some (PageOf g j)) f first last found least none t n low high = none_or _ (λ is.
    let up : IsLeBy key_cmp (PageOf g j) (PageOf f n) = least (PageOf f n) (after_page f first n low) is in
    let file : f ≡ g = one_file f g first j n found.0 up in
    let below : j ≤ n = page_after f j n (subst (λ (x : FileId). IsLeBy key_cmp (PageOf x j) (PageOf f n)) (sym file) up) in
    let fits : nat_le j last ≡ true = grind (arith, below, high) in
    let there : (same_file f g && nat_le j last) ≡ true = and_from _ _ (ap (same_file f) (sym file) ∙ same_file-itself f) fits in
    let wrong : true ≡ false = sym there ∙ t in cc)
