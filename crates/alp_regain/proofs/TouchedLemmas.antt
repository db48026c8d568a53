-- what is seen through intents is well formed just where what they put is good
use Rattle.std.specs.Prelude.{cond, Bool, true, false, ◌||◌, ◌⊎◌, Option, None, Some}
use Rattle.std.specs.Option.{option_or}
use Rattle.std.specs.FinMap as map
use Rattle.std.proofs.Common.{◌≡◌, ℕ, ◌≤◌, ◌<◌, List, inl, inr, ⊎_elim, refl, sym, ◌∙◌, ap, arith}
use Rattle.std.proofs.lemmas.Bool.{cases_lt}
use Rattle.alp_base.specs.declared.cell.Cell.{Cell}
use Rattle.alp_base.specs.declared.cell.Cell.TheVariants as cell
use Rattle.alp_base.specs.declared.cell.OwnerRecord.{OwnerRecord}
use Rattle.alp_base.specs.declared.cell.Props.{Props}
use Rattle.alp_base.specs.declared.ids.FileId.{FileId}
use Rattle.alp_base.specs.declared.key.Key.{Key}
use Rattle.alp_base.specs.declared.key.Key.TheVariants.{Leader, PageOf, OwnerOf}
use Rattle.alp_files.specs.Cells.{Cells, View}
use Rattle.alp_files.specs.Files.{AreFiles, IsOfKind}
use Rattle.alp_files.specs.Needs.{Intents, through, is_gone, is_cut}
use Rattle.alp_files.proofs.SameLemmas.{same_name-true}
use Rattle.alp_vault.specs.Volumes.{fits_key}
use Rattle.alp_calls.specs.Parts.{AllFit}
use Rattle.alp_regain.specs.Touched.{EndsAt, AreGoodPuts, AreFilesJustSo}

pub kind_of_fit : (k : Key) (c : Cell) → fits_key k c ≡ true → IsOfKind k c
kind_of_fit (Leader f) (cell.Leader p) h = tt
kind_of_fit (Leader f) (cell.Page bytes) h = cc
kind_of_fit (Leader f) (cell.Owner o) h = cc
kind_of_fit (PageOf f n) (cell.Leader p) h = cc
kind_of_fit (PageOf f n) (cell.Page bytes) h = tt
kind_of_fit (PageOf f n) (cell.Owner o) h = cc
kind_of_fit (OwnerOf name) (cell.Leader p) h = cc
kind_of_fit (OwnerOf name) (cell.Page bytes) h = cc
kind_of_fit (OwnerOf name) (cell.Owner o) h = same_name-true o.name name h

no_leader_there : (f : FileId) (c : Cell) → fits_key (Leader f) c ≡ true → (p : Props) × (c ≡ cell.Leader p)
no_leader_there f (cell.Leader p) h = (p, refl)
no_leader_there f (cell.Page bytes) h = cc
no_leader_there f (cell.Owner o) h = cc

owner_there : (name : List ℕ) (c : Cell) → fits_key (OwnerOf name) c ≡ true → (o : OwnerRecord) × (c ≡ cell.Owner o)
owner_there name (cell.Leader p) h = cc
owner_there name (cell.Page bytes) h = cc
owner_there name (cell.Owner o) h = (o, refl)

neither_gone : (a b : Bool) → (a || b) ≡ false → a ≡ false
neither_gone true b h = cc
neither_gone false b h = refl

props_or : Props → Option Cell → Props
props_or d (Some (cell.Leader p)) = p
props_or d (Some (cell.Page bytes)) = d
props_or d (Some (cell.Owner o)) = d
props_or d None = d

same_leader : (p q : Props) (o : Option Cell) → o ≡ Some (cell.Leader p) → o ≡ Some (cell.Leader q) → p ≡ q
unfolding props_or
same_leader p q o e f = ap (props_or p) (sym e ∙ f)

module _ (i : Intents) (m : Cells) (files : AreFiles (map.get m)) (fit : AllFit i.puts) where
  abbrev v : View
  v = through i (map.get m)

  put_seen : (k : Key) (c : Cell) → map.get i.puts k ≡ Some c → v k ≡ Some c
  put_seen k c e = ap (λ (o : Option Cell). option_or o (cond (is_gone i k) None (map.get m k))) e

  left_seen : (k : Key) → map.get i.puts k ≡ None → is_gone i k ≡ false → v k ≡ map.get m k
  left_seen k e g =
      ap (λ (o : Option Cell). option_or o (cond (is_gone i k) None (map.get m k))) e ∙ ap (λ (b : Bool). cond {A = Option Cell} b None (map.get m k)) g

  -- what is seen was put, or lies below and did not go
  abbrev IsFrom : Key → Cell → Type 0
  IsFrom k c = (map.get i.puts k ≡ Some c) ⊎ ((map.get i.puts k ≡ None) × (is_gone i k ≡ false) × (map.get m k ≡ Some c))

  seen : (k : Key) (c : Cell) → v k ≡ Some c → IsFrom k c
  seen k c h = go (map.get i.puts k) refl h
    where
      below : map.get i.puts k ≡ None → (b : Bool) → is_gone i k ≡ b → cond {A = Option Cell} b None (map.get m k) ≡ Some c → IsFrom k c
      below e true g h = cc
      below e false g h = inr (e, g, h)

      go : (o : Option Cell) → map.get i.puts k ≡ o → option_or o (cond (is_gone i k) None (map.get m k)) ≡ Some c → IsFrom k c
      go (Some x) e h = inl (e ∙ h)
      go None e h = below e (is_gone i k) refl h

  owner_seen : (name : List ℕ) (o : OwnerRecord) → map.get m (OwnerOf name) ≡ Some (cell.Owner o) → (r : OwnerRecord) × (v (OwnerOf name) ≡ Some (cell.Owner r))
  owner_seen name o here = go (map.get i.puts (OwnerOf name)) refl
    where
      go : (x : Option Cell) → map.get i.puts (OwnerOf name) ≡ x → (r : OwnerRecord) × (v (OwnerOf name) ≡ Some (cell.Owner r))
      go None e = (o, left_seen (OwnerOf name) e refl ∙ here)
      go (Some c) e =
          let is = owner_there name c (fit (OwnerOf name) c e) in
          (is.0, put_seen (OwnerOf name) c e ∙ ap (λ (d : Cell). Some d) is.1)

  module _ (good : AreGoodPuts i m) where
    page_put : (f : FileId) (n : ℕ) (c : Cell) → map.get i.puts (PageOf f n) ≡ Some c → (p : Props) × (v (Leader f) ≡ Some (cell.Leader p)) × (n < p.size)
    page_put f n (cell.Page bytes) e = good (PageOf f n) (cell.Page bytes) e
    page_put f n (cell.Leader p) e = absurd (kind_of_fit (PageOf f n) (cell.Leader p) (fit (PageOf f n) (cell.Leader p) e))
    page_put f n (cell.Owner o) e = absurd (kind_of_fit (PageOf f n) (cell.Owner o) (fit (PageOf f n) (cell.Owner o) e))

    page_left : (f : FileId) (n : ℕ) (c : Cell) → v (PageOf f n) ≡ Some c → is_gone i (PageOf f n) ≡ false → map.get m (PageOf f n) ≡ Some c
        → (p : Props) × (v (Leader f) ≡ Some (cell.Leader p)) × (n < p.size)
    page_left f n c h stays below = go (map.get i.puts (Leader f)) refl
      where
        old : (p : Props) × (map.get m (Leader f) ≡ Some (cell.Leader p)) × (n < p.size)
        old = files.paged f n c below

        within : (q : Props) → map.get i.puts (Leader f) ≡ Some (cell.Leader q) → n < q.size
        within q e = ⊎_elim (λ (less : n < q.size). less) (λ (past : q.size ≤ n). (let wrong : None ≡ Some c = sym ((good (Leader f) (cell.Leader q) e).1 n past) ∙ h in cc)) (cases_lt n q.size)

        go : (x : Option Cell) → map.get i.puts (Leader f) ≡ x → (p : Props) × (v (Leader f) ≡ Some (cell.Leader p)) × (n < p.size)
        go None e = (old.0, left_seen (Leader f) e (neither_gone (map.contains_key i.drops f) (is_cut (map.get i.cuts f) n) stays) ∙ old.1, old.2)
        go (Some x) e =
            let is = no_leader_there f x (fit (Leader f) x e) in
            let put : map.get i.puts (Leader f) ≡ Some (cell.Leader is.0) = e ∙ ap (λ (d : Cell). Some d) is.1 in
            (is.0, put_seen (Leader f) (cell.Leader is.0) put, within is.0 put)

    pub files_so : AreFiles v
    files_so = record {
      kinds = λ k c h. ⊎_elim (λ a. kind_of_fit k c (fit k c a)) (λ b. files.kinds k c b.2) (seen k c h);
      owned = λ f p h. ⊎_elim (λ a. (good (Leader f) (cell.Leader p) a).0) (λ b. (let o = files.owned f p b.2 in owner_seen p.owner o.0 o.1)) (seen (Leader f) (cell.Leader p) h);
      paged = λ f n c h. ⊎_elim (λ a. page_put f n c a) (λ b. page_left f n c h b.1 b.2) (seen (PageOf f n) c h);
    }

  module _ (well : AreFiles v) where
    ends : (f : FileId) (p : Props) → v (Leader f) ≡ Some (cell.Leader p) → EndsAt v f p.size
    ends f p here n past = go (v (PageOf f n)) refl
      where
        go : (o : Option Cell) → v (PageOf f n) ≡ o → o ≡ None
        go None e = refl
        go (Some c) e =
            let page = well.paged f n c e in
            absurd (omega (arith, page.2, past, ap (λ (q : Props). q.size) (same_leader p page.0 (v (Leader f)) here page.1)))

    pub only_so : AreGoodPuts i m
    only_so (Leader f) (cell.Leader p) e = let here : v (Leader f) ≡ Some (cell.Leader p) = put_seen (Leader f) (cell.Leader p) e in (well.owned f p here, ends f p here)
    only_so (Leader f) (cell.Page bytes) e = tt
    only_so (Leader f) (cell.Owner o) e = tt
    only_so (PageOf f n) (cell.Leader p) e = tt
    only_so (PageOf f n) (cell.Page bytes) e = well.paged f n (cell.Page bytes) (put_seen (PageOf f n) (cell.Page bytes) e)
    only_so (PageOf f n) (cell.Owner o) e = tt
    only_so (OwnerOf name) (cell.Leader p) e = tt
    only_so (OwnerOf name) (cell.Page bytes) e = tt
    only_so (OwnerOf name) (cell.Owner o) e = tt

pub files_just_so : (i : Intents) (m : Cells) → AreFiles (map.get m) → AllFit i.puts → AreFilesJustSo i m
files_just_so i m files fit = record { so = λ good. files_so i m files fit good; only = λ well. only_so i m files fit well }
