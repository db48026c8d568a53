-- Whether the files of a volume were given by a server.
use Rattle.std.specs.Prelude.{Bool, true, false, ◌&&◌, ◌||◌, ◌==◌, nat_le, Option, None, Some, is_some, option_map}
use Rattle.std.specs.List.{list_any, list_all}
use Rattle.std.specs.Ordering.{eq_by_cmp}
use Rattle.std.specs.FinMap as map
use Rattle.std.specs.FinMap.{contains_key-keys}
use Rattle.std.proofs.Common.{◌≡◌, ◌≤◌, ℕ, List, [], ◌∷◌, refl, sym, ◌∙◌, ap, eq-eqb}
use Rattle.std.proofs.lemmas.Bool.{eqb-true, leb-true, le-leb, and_from}
use Rattle.std.proofs.lemmas.Cmp.{eq_by_cmp_equiv}
use Rattle.std.proofs.lemmas.Map.Views.{tells_apart}
use Rattle.alp_base.specs.KeyLaws.{file_cmp, exact_files}
use Rattle.alp_base.specs.declared.ids.FileId.{FileId}
use Rattle.alp_base.specs.declared.key.Key.TheVariants.{Leader}
use Rattle.alp_fields.proofs.FormLaws.{and_parts}
use Rattle.alp_base.specs.declared.cell.Cell.{Cell}
use Rattle.alp_files.specs.Cells.{Cells}
use Rattle.alp_pages.specs.Pages.{Pages}
use Rattle.alp_pages.specs.Volume.{StandFor}
use Rattle.alp_volume.specs.Known.{Knows, leader_of}
use Rattle.alp_volume.specs.declared.catalog.Catalog.{Catalog}
use Rattle.alp_tables.proofs.Tables.{files_total}

abbrev same : FileId → FileId → Bool
same = eq_by_cmp file_cmp

-- it passes each test that all of the list pass
all_at : (p : FileId → Bool) (f : FileId) (ks : List FileId) → list_all p ks ≡ true → list_any (same f) ks ≡ true → p f ≡ true
all_at p f [] all any = cc
all_at p f (k ∷ ks) all any = go (same f k) refl any (all_at p f ks parts.1)
  where
    parts : (p k ≡ true) × (list_all p ks ≡ true)
    parts = and_parts (p k) (list_all p ks) all

    go : (t : Bool) → same f k ≡ t → (t || list_any (same f) ks) ≡ true → (list_any (same f) ks ≡ true → p f ≡ true) → p f ≡ true
    go true e h rest = ap p (tells_apart exact_files f k e) ∙ parts.0
    go false e h rest = rest h

later : {x : Bool} (t : Bool) → x ≡ true → (t || x) ≡ true
later true e = refl
later false e = e

all_from : (p : FileId → Bool) (ks : List FileId) → ((f : FileId) → list_any (same f) ks ≡ true → p f ≡ true) → list_all p ks ≡ true
all_from p [] h = refl
all_from p (k ∷ ks) h = and_from (p k) (list_all p ks) (h k (ap (λ (t : Bool). t || list_any (same k) ks) ((eq_by_cmp_equiv files_total).refl k))) (all_from p ks (λ f e. h f (later (same f k) e)))

mapped : {X Y : Type 0} (g : X → Y) (o : Option X) → is_some (option_map g o) ≡ is_some o
mapped g None = refl
mapped g (Some x) = refl

there : {X : Type 0} (o : Option X) → is_some o ≡ true → (x : X) × (o ≡ Some x)
there None e = cc
there (Some x) e = (x, refl)

module _ (server epoch : ℕ) (home : ℕ) (at : Pages) (m : Cells) (stands : StandFor home at m) (c : Catalog) (knows : Knows home stands.volume c) where
  abbrev given : FileId → Bool
  given f = f.server == server && nat_le f.epoch epoch

  -- memory has just the files that stand
  listed : (f : FileId) → is_some (map.get m (Leader f)) ≡ list_any (same f) (map.keys c.files)
  listed f = sym (stands.spells.shape.leaders f) ∙ sym (ap is_some (knows.leaders f)) ∙ mapped leader_of (map.get c.files f) ∙ contains_key-keys c.files f

  pub all_given : list_all (λ (f : FileId). f.server == server && nat_le f.epoch epoch) (map.keys c.files) ≡ true → (f : FileId) (x : Cell) → map.get m (Leader f) ≡ Some x → (f.server ≡ server) × (f.epoch ≤ epoch)
  all_given all f x is =
      let yes = all_at given f (map.keys c.files) all (sym (listed f) ∙ ap is_some is) in
      let parts = and_parts (f.server == server) (nat_le f.epoch epoch) yes in
      (eqb-true f.server server parts.0, leb-true f.epoch epoch parts.1)

  pub not_given : list_all (λ (f : FileId). f.server == server && nat_le f.epoch epoch) (map.keys c.files) ≡ false → ((f : FileId) (x : Cell) → map.get m (Leader f) ≡ Some x → (f.server ≡ server) × (f.epoch ≤ epoch)) → ⊥
  not_given none each =
      let all : list_all given (map.keys c.files) ≡ true = all_from given (map.keys c.files) (λ f e. (
      let x = there (map.get m (Leader f)) (listed f ∙ e) in
      let own = each f x.0 x.1 in
      and_from (f.server == server) (nat_le f.epoch epoch) (eq-eqb f.server server own.0) (le-leb f.epoch epoch own.1)
      )) in
      cc
