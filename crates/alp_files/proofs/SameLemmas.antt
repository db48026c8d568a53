-- what the tests of names, of file ids and of keys tell
use Rattle.std.specs.Prelude.{Bool, true, false, ◌&&◌, ◌==◌}
use Rattle.std.specs.Ordering.{eq_by_cmp}
use Rattle.std.specs.Cmp.{eq_by_cmp_equiv}
use Rattle.std.specs.Cmp.Lexicographic.{same_text, nat_list_eq_equiv}
use Rattle.std.proofs.Common.{◌≡◌, ℕ, List, refl, sym, ◌∙◌, ap, eq-eqb}
use Rattle.std.proofs.lemmas.Bool.{eqb-true, and_from}
use Rattle.std.proofs.lemmas.Map.Views.{tells_apart}
use Rattle.alp_base.specs.declared.ids.FileId.{FileId}
use Rattle.alp_base.specs.declared.key.Key.{Key}
use Rattle.alp_base.specs.declared.key.Key.TheVariants.{Leader, PageOf, OwnerOf}
use Rattle.alp_base.specs.Keys.{key_cmp}
use Rattle.alp_base.specs.KeyLaws.{keys_total, exact_keys}
use Rattle.alp_base.proofs.NameLemmas.{and_left, and_right}
use Rattle.alp_files.specs.Cells.{same_name, same_file}

pub same_name-true : (a b : List ℕ) → same_name a b ≡ true → a ≡ b
same_name-true a b e = same_text a b (sym e)

pub same_name-itself : (a : List ℕ) → same_name a a ≡ true
same_name-itself a = nat_list_eq_equiv.refl a

pub same_name-false : (a b : List ℕ) → same_name a b ≡ false → a ≡ b → ⊥
same_name-false a b e same = let yes : same_name a b ≡ true = ap (same_name a) (sym same) ∙ same_name-itself a in cc

pub other_name : (a b : List ℕ) → (a ≡ b → ⊥) → same_name a b ≡ false
other_name a b apart = go (same_name a b) refl
  where
    go : (t : Bool) → same_name a b ≡ t → t ≡ false
    go true e = absurd (apart (same_name-true a b e))
    go false e = refl

pub same_file-true : (f g : FileId) → same_file f g ≡ true → f ≡ g
same_file-true f g e =
    let first_two : (f.server == g.server && f.epoch == g.epoch) ≡ true = and_left _ _ e in
    let server : f.server ≡ g.server = eqb-true _ _ (and_left _ _ first_two) in
    let epoch : f.epoch ≡ g.epoch = eqb-true _ _ (and_right _ _ first_two) in
    let counter : f.counter ≡ g.counter = eqb-true _ _ (and_right _ _ e) in
    λ i. record { server = server i; epoch = epoch i; counter = counter i }

pub same_file-itself : (f : FileId) → same_file f f ≡ true
same_file-itself f = and_from _ _ (and_from _ _ (eq-eqb f.server f.server refl) (eq-eqb f.epoch f.epoch refl)) (eq-eqb f.counter f.counter refl)

pub same_key-true : (k q : Key) → eq_by_cmp key_cmp k q ≡ true → k ≡ q
same_key-true k q e = tells_apart exact_keys k q e

pub same_key-itself : (k : Key) → eq_by_cmp key_cmp k k ≡ true
same_key-itself k = (eq_by_cmp_equiv keys_total).refl k

-- ---- what a key names

pub name_in : Key → List ℕ → List ℕ
name_in (Leader f) other = other
name_in (PageOf f n) other = other
name_in (OwnerOf name) other = name

pub file_in : Key → FileId → FileId
file_in (Leader f) other = f
file_in (PageOf f n) other = f
file_in (OwnerOf name) other = other

pub page_no_in : Key → ℕ
page_no_in (Leader f) = 0
page_no_in (PageOf f n) = n
page_no_in (OwnerOf name) = 0

pub same_owner_key : (a b : List ℕ) → eq_by_cmp key_cmp (OwnerOf a) (OwnerOf b) ≡ true → a ≡ b
unfolding name_in
same_owner_key a b e = ap (λ k. name_in k a) (same_key-true (OwnerOf a) (OwnerOf b) e)

pub same_leader_key : (f g : FileId) → eq_by_cmp key_cmp (Leader f) (Leader g) ≡ true → f ≡ g
unfolding file_in
same_leader_key f g e = ap (λ k. file_in k f) (same_key-true (Leader f) (Leader g) e)

pub same_page_key : (f g : FileId) (i n : ℕ) → eq_by_cmp key_cmp (PageOf f i) (PageOf g n) ≡ true → (f ≡ g) × (i ≡ n)
unfolding file_in page_no_in
same_page_key f g i n e = let same = same_key-true (PageOf f i) (PageOf g n) e in (ap (λ k. file_in k f) same, ap page_no_in same)
