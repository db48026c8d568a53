-- The test whether two nodes are one.
use Rattle.std.specs.Prelude.{Bool, true, false}
use Rattle.std.specs.Ordering.{eq_by_cmp}
use Rattle.std.proofs.Common.{◌≡◌, ℕ, refl, ◌∙◌, ap, eq-eqb}
use Rattle.std.proofs.lemmas.Bool.{eqb-true, and_from}
use Rattle.alp_base.specs.declared.ids.FileId.{FileId}
use Rattle.alp_base.specs.declared.key.Key.{Key}
use Rattle.alp_base.specs.declared.key.Key.TheVariants.{Leader, PageOf}
use Rattle.alp_base.specs.Keys.{key_cmp}
use Rattle.alp_base.proofs.NameLemmas.{and_left, and_right}
use Rattle.alp_files.proofs.SameLemmas.{same_file-true, same_file-itself, same_leader_key, same_page_key, same_key-itself}
use Rattle.alp_files.specs.Cells.{same_file}
use Rattle.alp_pages.specs.Nodes.{Node, LeaderOf, IndexOf, DataOf, same_node}
use Rattle.alp_pages.proofs.NamingLaws.{Tells}

pub same_leader : (f g : FileId) → same_node (LeaderOf f) (LeaderOf g) ≡ true → f ≡ g
same_leader f g e = same_file-true f g e

pub same_index : (f g : FileId) (a b : ℕ) → same_node (IndexOf f a) (IndexOf g b) ≡ true → (f ≡ g) × (a ≡ b)
same_index f g a b e = (same_file-true f g (and_left _ _ e), eqb-true a b (and_right _ _ e))

pub same_data : (f g : FileId) (i n : ℕ) → same_node (DataOf f i) (DataOf g n) ≡ true → (f ≡ g) × (i ≡ n)
same_data f g i n e = (same_file-true f g (and_left _ _ e), eqb-true i n (and_right _ _ e))

pub same_node-true : (a b : Node) → same_node a b ≡ true → a ≡ b
same_node-true (LeaderOf f) (LeaderOf g) e = ap LeaderOf (same_leader f g e)
same_node-true (LeaderOf f) (IndexOf g b) e = cc
same_node-true (LeaderOf f) (DataOf g n) e = cc
same_node-true (IndexOf f a) (LeaderOf g) e = cc
same_node-true (IndexOf f a) (IndexOf g b) e = let same = same_index f g a b e in λ i. IndexOf (same.0 i) (same.1 i)
same_node-true (IndexOf f a) (DataOf g n) e = cc
same_node-true (DataOf f i) (LeaderOf g) e = cc
same_node-true (DataOf f i) (IndexOf g b) e = cc
same_node-true (DataOf f i) (DataOf g n) e = let same = same_data f g i n e in λ j. DataOf (same.0 j) (same.1 j)

pub same_node-itself : (a : Node) → same_node a a ≡ true
same_node-itself (LeaderOf f) = same_file-itself f
same_node-itself (IndexOf f a) = and_from _ _ (same_file-itself f) (eq-eqb a a refl)
same_node-itself (DataOf f n) = and_from _ _ (same_file-itself f) (eq-eqb n n refl)

pub nodes_tell : Tells same_node
nodes_tell = record { equal = same_node-true; itself = same_node-itself }

-- ---- the tests of nodes are those of their keys

pub leaders_alike : (f g : FileId) → same_file f g ≡ eq_by_cmp key_cmp (Leader f) (Leader g)
leaders_alike f g = go (same_file f g) refl (eq_by_cmp key_cmp (Leader f) (Leader g)) refl
  where
    go : (t : Bool) → same_file f g ≡ t → (u : Bool) → eq_by_cmp key_cmp (Leader f) (Leader g) ≡ u → t ≡ u
    go true e true d = refl
    go false e false d = refl
    go true e false d =
        let same : f ≡ g = same_file-true f g e in
        let yes : eq_by_cmp key_cmp (Leader f) (Leader g) ≡ true = ap (λ (x : FileId). eq_by_cmp key_cmp (Leader x) (Leader g)) same ∙ same_key-itself (Leader g) in cc
    go false e true d =
        let same : f ≡ g = same_leader_key f g d in
        let yes : same_file f g ≡ true = ap (λ (x : FileId). same_file x g) same ∙ same_file-itself g in cc

pub pages_alike : (f g : FileId) (j n : ℕ) → same_node (DataOf f j) (DataOf g n) ≡ eq_by_cmp key_cmp (PageOf f j) (PageOf g n)
pages_alike f g j n = go (same_node (DataOf f j) (DataOf g n)) refl (eq_by_cmp key_cmp (PageOf f j) (PageOf g n)) refl
  where
    go : (t : Bool) → same_node (DataOf f j) (DataOf g n) ≡ t → (u : Bool) → eq_by_cmp key_cmp (PageOf f j) (PageOf g n) ≡ u → t ≡ u
    go true e true d = refl
    go false e false d = refl
    go true e false d =
        let same = same_data f g j n e in
        let key : PageOf f j ≡ PageOf g n = λ i. PageOf (same.0 i) (same.1 i) in
        let yes : eq_by_cmp key_cmp (PageOf f j) (PageOf g n) ≡ true = ap (λ (k : Key). eq_by_cmp key_cmp k (PageOf g n)) key ∙ same_key-itself (PageOf g n) in cc
    go false e true d =
        let same = same_page_key f g j n d in
        let yes : same_node (DataOf f j) (DataOf g n) ≡ true = and_from _ _ (ap (λ (x : FileId). same_file x g) same.0 ∙ same_file-itself g) (eq-eqb j n same.1) in cc
