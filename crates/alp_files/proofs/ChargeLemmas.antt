-- what owners are charged after each edit, where each cell is of its key's kind
use Rattle.std.specs.Prelude.{cond, Bool, true, false, ◌&&◌, nat_le, Option, None, Some}
use Rattle.std.specs.FinMap as map
use Rattle.std.specs.Ordering.{eq_by_cmp}
use Rattle.std.proofs.Common.{◌≡◌, ℕ, ◌+◌, List, refl, sym, ◌∙◌, ap, arith}
use Rattle.alp_base.specs.declared.ids.FileId.{FileId}
use Rattle.alp_base.specs.declared.key.Key.{Key}
use Rattle.alp_base.specs.declared.key.Key.TheVariants.{Leader, PageOf, OwnerOf}
use Rattle.alp_base.specs.Keys.{key_cmp}
use Rattle.alp_base.specs.KeyLaws.{keys_total, exact_keys}
use Rattle.alp_base.specs.declared.cell.Cell.{Cell}
use Rattle.alp_base.specs.declared.cell.Cell.TheVariants as cell
use Rattle.alp_base.specs.declared.cell.Props.{Props}
use Rattle.alp_base.specs.declared.cell.OwnerRecord.{OwnerRecord}
use Rattle.alp_files.specs.Cells.{Cells, View, same_file, same_name}
use Rattle.alp_files.specs.Edits.{Drop, Cut, Put, is_in_file, is_past, edit_map}
use Rattle.alp_files.specs.Files.{IsOfKind, cost, charge_of}
use Rattle.alp_files.proofs.SumLemmas.{weight_at, sum-insert, sum-retain_keys, sum_of-nothing, sum_of-single}
use Rattle.alp_files.proofs.SameLemmas.{same_name-itself, other_name, same_file-true, same_file-itself, same_key-itself}

-- each cell is of its key's kind
abbrev pub AreKinds : View → Type 0
AreKinds m = (k : Key) (c : Cell) → m k ≡ Some c → IsOfKind k c

-- what costs an owner at a key
abbrev pub cost_in : List ℕ → Option Cell → ℕ
cost_in owner None = 0
cost_in owner (Some c) = cost owner c

pub cost-own : (owner : List ℕ) (p : Props) → p.owner ≡ owner → cost owner (cell.Leader p) ≡ p.size
cost-own owner p e = ap (λ (b : Bool). cond b p.size 0) (ap (same_name p.owner) (sym e) ∙ same_name-itself p.owner)

pub cost-other : (owner : List ℕ) (p : Props) → (p.owner ≡ owner → ⊥) → cost owner (cell.Leader p) ≡ 0
cost-other owner p apart = ap (λ (b : Bool). cond b p.size 0) (other_name p.owner owner apart)

weight-cost : (owner : List ℕ) (k : Key) (c : Option Cell) → weight_at (λ (e : Key × Cell). cost owner e.1) k c ≡ cost_in owner c
weight-cost owner k None = refl
weight-cost owner k (Some c) = refl

pub charge-put : (m : Cells) (k : Key) (c : Cell) (owner : List ℕ) → charge_of (edit_map (Put k c) m) owner + cost_in owner (map.get m k) ≡ charge_of m owner + cost owner c
charge-put m k c owner =
    let old : weight_at (λ (e : Key × Cell). cost owner e.1) k (map.get m k) ≡ cost_in owner (map.get m k) = weight-cost owner k (map.get m k) in
    omega (arith, old, sum-insert keys_total exact_keys (λ e. cost owner e.1) m k c)

-- what stands at an owner's key or a page's costs nothing
at_owner : (m : Cells) → AreKinds (map.get m) → (name owner : List ℕ) → cost_in owner (map.get m (OwnerOf name)) ≡ 0
at_owner m kinds name owner = go (map.get m (OwnerOf name)) refl
  where
    go : (c : Option Cell) → map.get m (OwnerOf name) ≡ c → cost_in owner c ≡ 0
    go None e = refl
    go (Some (cell.Leader p)) e = absurd (kinds (OwnerOf name) (cell.Leader p) e)
    go (Some (cell.Page bytes)) e = refl
    go (Some (cell.Owner o)) e = refl

at_page : (m : Cells) → AreKinds (map.get m) → (f : FileId) (n : ℕ) (owner : List ℕ) → cost_in owner (map.get m (PageOf f n)) ≡ 0
at_page m kinds f n owner = go (map.get m (PageOf f n)) refl
  where
    go : (c : Option Cell) → map.get m (PageOf f n) ≡ c → cost_in owner c ≡ 0
    go None e = refl
    go (Some (cell.Leader p)) e = absurd (kinds (PageOf f n) (cell.Leader p) e)
    go (Some (cell.Page bytes)) e = refl
    go (Some (cell.Owner o)) e = refl

pub charge-owner : (m : Cells) → AreKinds (map.get m) → (name : List ℕ) (r : OwnerRecord) (owner : List ℕ) → charge_of (edit_map (Put (OwnerOf name) (cell.Owner r)) m) owner ≡ charge_of m owner
charge-owner m kinds name r owner = omega (arith, charge-put m (OwnerOf name) (cell.Owner r) owner, at_owner m kinds name owner)

pub charge-page : (m : Cells) → AreKinds (map.get m) → (f : FileId) (n : ℕ) (bytes owner : List ℕ) → charge_of (edit_map (Put (PageOf f n) (cell.Page bytes)) m) owner ≡ charge_of m owner
charge-page m kinds f n bytes owner = omega (arith, charge-put m (PageOf f n) (cell.Page bytes) owner, at_page m kinds f n owner)

-- ---- a file that goes, and pages that go

nothing : (b : Bool) → cond {A = ℕ} b 0 0 ≡ 0
nothing true = refl
nothing false = refl

-- of a file's cells its leader alone costs
leader_alone : (owner : List ℕ) (f : FileId) (k : Key) (c : Cell) → IsOfKind k c → eq_by_cmp key_cmp (Leader f) k ≡ false → cond (is_in_file f k) (cost owner c) 0 ≡ 0
leader_alone owner f (Leader g) c kind other = go (same_file f g) refl
  where
    go : (b : Bool) → same_file f g ≡ b → cond b (cost owner c) 0 ≡ 0
    go true e =
        let yes : eq_by_cmp key_cmp (Leader f) (Leader g) ≡ true = ap (λ (h : FileId). eq_by_cmp key_cmp (Leader f) (Leader h)) (sym (same_file-true f g e)) ∙ same_key-itself (Leader f) in cc
    go false e = refl
leader_alone owner f (PageOf g n) (cell.Page bytes) kind other = nothing (same_file f g)
leader_alone owner f (PageOf g n) (cell.Leader p) kind other = absurd kind
leader_alone owner f (PageOf g n) (cell.Owner o) kind other = absurd kind
leader_alone owner f (OwnerOf name) c kind other = refl

weight-file : (owner : List ℕ) (f : FileId) (c : Option Cell) → weight_at (λ (e : Key × Cell). cond (is_in_file f e.0) (cost owner e.1) 0) (Leader f) c ≡ cost_in owner c
weight-file owner f None = refl
weight-file owner f (Some c) = ap (λ (b : Bool). cond b (cost owner c) 0) (same_file-itself f)

pub charge-drop : (m : Cells) → AreKinds (map.get m) → (f : FileId) (owner : List ℕ) → charge_of (edit_map (Drop f) m) owner + cost_in owner (map.get m (Leader f)) ≡ charge_of m owner
charge-drop m kinds f owner =
    let gone = sum_of-single keys_total exact_keys (λ (e : Key × Cell). cond (is_in_file f e.0) (cost owner e.1) 0) (Leader f) m (λ k c is other. leader_alone owner f k c (kinds k c is) other) in
    omega (arith, gone, weight-file owner f (map.get m (Leader f)), sum-retain_keys keys_total exact_keys (λ (e : Key × Cell). cost owner e.1) m (is_in_file f))

-- pages cost nothing
pages_free : (owner : List ℕ) (f : FileId) (n : ℕ) (k : Key) (c : Cell) → IsOfKind k c → cond (is_past f n k) (cost owner c) 0 ≡ 0
pages_free owner f n (Leader g) c kind = refl
pages_free owner f n (PageOf g i) (cell.Page bytes) kind = nothing (same_file f g && nat_le n i)
pages_free owner f n (PageOf g i) (cell.Leader p) kind = absurd kind
pages_free owner f n (PageOf g i) (cell.Owner o) kind = absurd kind
pages_free owner f n (OwnerOf name) c kind = refl

pub charge-cut : (m : Cells) → AreKinds (map.get m) → (f : FileId) (n : ℕ) (owner : List ℕ) → charge_of (edit_map (Cut f n) m) owner ≡ charge_of m owner
charge-cut m kinds f n owner =
    let gone = sum_of-nothing keys_total exact_keys (λ (e : Key × Cell). cond (is_past f n e.0) (cost owner e.1) 0) m (λ k c is. pages_free owner f n k c (kinds k c is)) in
    omega (arith, gone, sum-retain_keys keys_total exact_keys (λ (e : Key × Cell). cost owner e.1) m (is_past f n))
