-- what each edit keeps of well-formed files
use Rattle.std.specs.Prelude.{cond, Bool, true, false, ◌&&◌, nat_le, Option, None, Some, ◌⊎◌}
use Rattle.std.specs.Option.{unwrap_or}
use Rattle.std.specs.Ordering.{eq_by_cmp}
use Rattle.std.proofs.Common.{◌≡◌, ℕ, ◌<◌, List, [], ◌∷◌, refl, sym, ◌∙◌, ap, subst, inl, inr}
use Rattle.std.proofs.lemmas.Bool.{leb-false}
use Rattle.alp_base.specs.declared.ids.FileId.{FileId}
use Rattle.alp_base.specs.declared.key.Key.{Key}
use Rattle.alp_base.specs.declared.key.Key.TheVariants.{Leader, PageOf, OwnerOf}
use Rattle.alp_base.specs.Keys.{key_cmp}
use Rattle.alp_base.specs.declared.cell.Cell.{Cell}
use Rattle.alp_base.specs.declared.cell.Cell.TheVariants as cell
use Rattle.alp_base.specs.declared.cell.Props.{Props}
use Rattle.alp_base.specs.declared.cell.OwnerRecord.{OwnerRecord}
use Rattle.alp_files.specs.Cells.{View, same_file}
use Rattle.alp_files.specs.Edits.{Drop, Cut, Put, is_in_file, is_past, after}
use Rattle.alp_files.specs.Files.{IsOfKind, AreFiles}
use Rattle.alp_files.proofs.SameLemmas.{same_key-true, same_leader_key, same_page_key, same_file-itself}

-- the owner of that name is there
abbrev pub HasOwner : View → List ℕ → Type 0
HasOwner m name = (o : OwnerRecord) × (m (OwnerOf name) ≡ Some (cell.Owner o))

-- the pages that are there lie below the size
abbrev pub ArePagesBelow : View → FileId → ℕ → Type 0
ArePagesBelow m f size = (n : ℕ) (c : Cell) → m (PageOf f n) ≡ Some c → n < size

pub same-some : {A : Type 0} (x y : A) → Some x ≡ Some y → x ≡ y
same-some x y e = ap (λ o. unwrap_or o x) e

-- what is found after a put was put or was there
put_or_there : (b : Bool) (c d : Cell) (old : Option Cell) → cond b (Some c) old ≡ Some d → ((b ≡ true) × (c ≡ d)) ⊎ ((b ≡ false) × (old ≡ Some d))
put_or_there true c d old h = inl (refl, same-some c d h)
put_or_there false c d old h = inr (refl, h)

-- what is found after others went was there
not_gone : (b : Bool) (d : Cell) (old : Option Cell) → cond b None old ≡ Some d → (b ≡ false) × (old ≡ Some d)
not_gone true d old h = cc
not_gone false d old h = (refl, h)

props_or : Props → Cell → Props
props_or p (cell.Leader q) = q
props_or p (cell.Page bytes) = p
props_or p (cell.Owner o) = p

same-leader : (p q : Props) → cell.Leader p ≡ cell.Leader q → p ≡ q
unfolding props_or
same-leader p q h = ap (props_or p) h

put-kinds : (m : View) → AreFiles m → (k : Key) (c : Cell) → IsOfKind k c → (q : Key) (d : Cell) → after (Put k c ∷ []) m q ≡ Some d → IsOfKind q d
put-kinds m s k c is q d h = elim (put_or_there (eq_by_cmp key_cmp q k) c d (m q) h) [
  | inl a ↦ subst (λ (x : Key). IsOfKind x d) (sym (same_key-true q k a.0)) (subst (IsOfKind k) a.1 is)
  | inr a ↦ s.kinds q d a.1
]

owner-stays : (m : View) (name : List ℕ) (r : OwnerRecord) (owner : List ℕ) → HasOwner m owner → HasOwner (after (Put (OwnerOf name) (cell.Owner r) ∷ []) m) owner
owner-stays m name r owner h = go (eq_by_cmp key_cmp (OwnerOf owner) (OwnerOf name))
  where
    go : (b : Bool) → (x : OwnerRecord) × (cond b (Some (cell.Owner r)) (m (OwnerOf owner)) ≡ Some (cell.Owner x))
    go true = (r, refl)
    go false = h

pub files-put_owner : (m : View) (name : List ℕ) (r : OwnerRecord) → r.name ≡ name → AreFiles m → AreFiles (after (Put (OwnerOf name) (cell.Owner r) ∷ []) m)
files-put_owner m name r is s = record {
  kinds = put-kinds m s (OwnerOf name) (cell.Owner r) is;
  owned = λ f p h. owner-stays m name r p.owner (s.owned f p h);
  paged = λ f n c h. s.paged f n c h;
}

pub files-put_leader : (m : View) (f : FileId) (p : Props) → HasOwner m p.owner → ArePagesBelow m f p.size → AreFiles m → AreFiles (after (Put (Leader f) (cell.Leader p) ∷ []) m)
files-put_leader m f p owner pages s = record {
  kinds = put-kinds m s (Leader f) (cell.Leader p) tt;
  owned = λ g q h. elim (put_or_there (eq_by_cmp key_cmp (Leader g) (Leader f)) (cell.Leader p) (cell.Leader q) (m (Leader g)) h) [
    | inl a ↦ subst (λ (x : Props). HasOwner m x.owner) (same-leader p q a.1) owner
    | inr a ↦ s.owned g q a.1
  ];
  paged = λ g n c h. one g n c h (eq_by_cmp key_cmp (Leader g) (Leader f)) refl;
}
  where
    one : (g : FileId) (n : ℕ) (c : Cell) → m (PageOf g n) ≡ Some c → (b : Bool) → eq_by_cmp key_cmp (Leader g) (Leader f) ≡ b
        → (q : Props) × (cond b (Some (cell.Leader p)) (m (Leader g)) ≡ Some (cell.Leader q)) × (n < q.size)
    one g n c h true e = (p, refl, pages n c (ap (λ (x : FileId). m (PageOf x n)) (sym (same_leader_key g f e)) ∙ h))
    one g n c h false e = s.paged g n c h

pub files-put_page : (m : View) (f : FileId) (i : ℕ) (bytes : List ℕ) (p : Props) → m (Leader f) ≡ Some (cell.Leader p) → i < p.size → AreFiles m → AreFiles (after (Put (PageOf f i) (cell.Page bytes) ∷ []) m)
files-put_page m f i bytes p here less s = record {
  kinds = put-kinds m s (PageOf f i) (cell.Page bytes) tt;
  owned = λ g q h. s.owned g q h;
  paged = λ g n c h. elim (put_or_there (eq_by_cmp key_cmp (PageOf g n) (PageOf f i)) (cell.Page bytes) c (m (PageOf g n)) h) [
    | inl a ↦
        let same : (g ≡ f) × (n ≡ i) = same_page_key g f n i a.0 in
        (p, ap (λ (x : FileId). m (Leader x)) same.0 ∙ here, subst (λ (x : ℕ). x < p.size) (sym same.1) less)
    | inr a ↦ s.paged g n c a.1
  ];
}

pub files-drop : (m : View) (f : FileId) → AreFiles m → AreFiles (after (Drop f ∷ []) m)
files-drop m f s = record {
  kinds = λ k c h. s.kinds k c (not_gone (is_in_file f k) c (m k) h).1;
  owned = λ g p h. s.owned g p (not_gone (same_file f g) (cell.Leader p) (m (Leader g)) h).1;
  paged = λ g n c h.
      let stays : (same_file f g ≡ false) × (m (PageOf g n) ≡ Some c) = not_gone (same_file f g) c (m (PageOf g n)) h in
      let there = s.paged g n c stays.1 in
      (there.0, ap (λ (b : Bool). cond b None (m (Leader g))) stays.0 ∙ there.1, there.2);
}

pub files-cut : (m : View) (f : FileId) (n : ℕ) → AreFiles m → AreFiles (after (Cut f n ∷ []) m)
files-cut m f n s = record {
  kinds = λ k c h. s.kinds k c (not_gone (is_past f n k) c (m k) h).1;
  owned = λ g p h. s.owned g p h;
  paged = λ g i c h. s.paged g i c (not_gone (is_past f n (PageOf g i)) c (m (PageOf g i)) h).1;
}

-- no page is left at or past a cut
pub cut-below : (m : View) (f : FileId) (n : ℕ) → ArePagesBelow (after (Cut f n ∷ []) m) f n
cut-below m f n i c h = go (same_file f f) (nat_le n i) (same_file-itself f) refl h
  where
    go : (a b : Bool) → a ≡ true → nat_le n i ≡ b → cond (a && b) None (m (PageOf f i)) ≡ Some c → i < n
    go true true e le h = cc
    go true false e le h = leb-false n i le
    go false b e le h = cc

-- ---- what well-formed files have

pub has-name : (m : View) → AreFiles m → (name : List ℕ) (o : OwnerRecord) → m (OwnerOf name) ≡ Some (cell.Owner o) → o.name ≡ name
has-name m s name o is = s.kinds (OwnerOf name) (cell.Owner o) is

pub below-size : (m : View) → AreFiles m → (f : FileId) (p : Props) → m (Leader f) ≡ Some (cell.Leader p) → ArePagesBelow m f p.size
below-size m s f p here n c is =
    let there = s.paged f n c is in
    let same : there.0 ≡ p = same-leader there.0 p (same-some (cell.Leader there.0) (cell.Leader p) (sym there.1 ∙ here)) in
    subst (λ (x : Props). n < x.size) same there.2

-- a file without a leader has no page
pub no-pages : (m : View) → AreFiles m → (f : FileId) (size : ℕ) → m (Leader f) ≡ None → ArePagesBelow m f size
no-pages m s f size none n c is =
    let there = s.paged f n c is in
    let wrong : Some (cell.Leader there.0) ≡ None = sym there.1 ∙ none in cc
