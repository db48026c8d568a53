-- Pages that stand have leaders: what follows, and what keeps it so.
use Rattle.std.specs.Prelude.{Bool, true, false, cond, ◌&&◌, nat_le, is_some, Option, None, Some, option_map}
use Rattle.std.specs.FinMap as map
use Rattle.std.specs.Ordering.{eq_by_cmp}
use Rattle.std.proofs.Common.{◌≡◌, ℕ, ◌<◌, ◌≤◌, List, [], ◌∷◌, refl, sym, ◌∙◌, ap, subst, arith}
use Rattle.alp_base.specs.declared.ids.FileId.{FileId}
use Rattle.alp_base.specs.declared.key.Key.{Key}
use Rattle.alp_base.specs.declared.key.Key.TheVariants.{Leader, PageOf, OwnerOf}
use Rattle.alp_base.specs.Keys.{key_cmp}
use Rattle.alp_base.specs.declared.cell.Cell.{Cell}
use Rattle.alp_files.specs.Cells.{View, same_file}
use Rattle.alp_files.specs.Edits.{Cut, Drop, Put, after, is_past}
use Rattle.alp_files.proofs.SameLemmas.{same_file-true}
use Rattle.alp_volume.specs.declared.catalog.Catalog.{Catalog}
use Rattle.alp_volume.specs.Drafts.{HasNoneFrom, HaveLeaders, IsDraft}
use Rattle.alp_volume.specs.Known.{leader_of}
use Rattle.alp_pages.specs.Pages.{Pages}

none_there : (o : Option Cell) → is_some o ≡ false → o ≡ None
none_there None h = refl
none_there (Some x) h = cc

-- no page has a number that is too high
pub none_past : (m : View) (f : FileId) → HaveLeaders m → HasNoneFrom f 4096 m
none_past m f have n late = go (m (PageOf f n)) refl
  where
    go : (o : Option Cell) → m (PageOf f n) ≡ o → o ≡ None
    go None e = refl
    go (Some x) e = let low = (have f n (ap is_some e)).0 in absurd (omega (arith, low))

-- a file that memory does not have has no leader, and no page
pub no_leader : (home : ℕ) (at : Pages) (m : View) (c : Catalog) → IsDraft home at m c → (f : FileId) → map.get c.files f ≡ None → m (Leader f) ≡ None
no_leader home at m c d f none = none_there (m (Leader f)) (sym (d.spells.shape.leaders f) ∙ ap is_some (sym (d.knows.leaders f) ∙ ap (option_map leader_of) none))

pub no_pages : (home : ℕ) (at : Pages) (m : View) (c : Catalog) → IsDraft home at m c → HaveLeaders m → (f : FileId) → map.get c.files f ≡ None → HasNoneFrom f 0 m
no_pages home at m c d have f none n late = go (m (PageOf f n)) refl
  where
    go : (o : Option Cell) → m (PageOf f n) ≡ o → o ≡ None
    go None e = refl
    go (Some x) e =
        let leader = (have f n (ap is_some e)).1 in
        let wrong : false ≡ true = sym (ap is_some (no_leader home at m c d f none)) ∙ leader in
        cc

-- ---- drops

-- a drop of what is not there takes nothing away
pub drop_nothing : (m : View) (f : FileId) → m (Leader f) ≡ None → HasNoneFrom f 0 m → after (Drop f ∷ []) m ≡ m
drop_nothing m f leader none = λ i q. at_key q i
  where
    at_leader : (g : FileId) (t : Bool) → same_file f g ≡ t → cond t None (m (Leader g)) ≡ m (Leader g)
    at_leader g true e = sym (ap (λ (x : FileId). m (Leader x)) (sym (same_file-true f g e)) ∙ leader)
    at_leader g false e = refl

    at_page : (g : FileId) (n : ℕ) (t : Bool) → same_file f g ≡ t → cond t None (m (PageOf g n)) ≡ m (PageOf g n)
    at_page g n true e = sym (ap (λ (x : FileId). m (PageOf x n)) (sym (same_file-true f g e)) ∙ none n (omega arith))
    at_page g n false e = refl

    at_key : (q : Key) → after (Drop f ∷ []) m q ≡ m q
    at_key (Leader g) = at_leader g (same_file f g) refl
    at_key (PageOf g n) = at_page g n (same_file f g) refl
    at_key (OwnerOf o) = refl

-- a drop takes what a cut before it took
pub drop_after_cut : (m : View) (f : FileId) (from : ℕ) → after (Drop f ∷ []) (after (Cut f from ∷ []) m) ≡ after (Drop f ∷ []) m
drop_after_cut m f from = λ i q. at_key q i
  where
    at_page : (g : FileId) (n : ℕ) (t u : Bool) → cond t None (cond (t && u) None (m (PageOf g n))) ≡ cond t None (m (PageOf g n))
    at_page g n true u = refl
    at_page g n false u = refl

    at_key : (q : Key) → after (Drop f ∷ []) (after (Cut f from ∷ []) m) q ≡ after (Drop f ∷ []) m q
    at_key (Leader g) = refl
    at_key (PageOf g n) = at_page g n (same_file f g) (nat_le from n)
    at_key (OwnerOf o) = refl

-- ---- what keeps it so

pub cut_keeps : (m : View) (f : FileId) (from : ℕ) → HaveLeaders m → HaveLeaders (after (Cut f from ∷ []) m)
cut_keeps m f from have g n h = go (is_past f from (PageOf g n)) h
  where
    go : (t : Bool) → is_some (cond t None (m (PageOf g n))) ≡ true → (n < 4096) × (is_some (m (Leader g)) ≡ true)
    go true h = cc
    go false h = have g n h

pub drop_keeps : (m : View) (f : FileId) → HaveLeaders m → HaveLeaders (after (Drop f ∷ []) m)
drop_keeps m f have g n h = go (same_file f g) h
  where
    go : (t : Bool) → is_some (cond t None (m (PageOf g n))) ≡ true → (n < 4096) × (is_some (cond t None (m (Leader g))) ≡ true)
    go true h = cc
    go false h = have g n h
