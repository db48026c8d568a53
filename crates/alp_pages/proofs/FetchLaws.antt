-- What pages say of a page of a file is what the cells have.
use Rattle.std.specs.Prelude.{true, false, is_some, Option, None, Some, option_map, ◌==◌, slice_index_or}
use Rattle.std.proofs.Common.{◌≡◌, ℕ, ◌<◌, ◌+◌, ◌*◌, ◌/◌, ◌%◌, List, refl, sym, ◌∙◌, ap, arith, eq-eqb}
use Rattle.std.proofs.lemmas.Bool.{cond-true, cond-false}
use Rattle.alp_base.specs.declared.ids.FileId.{FileId}
use Rattle.alp_base.specs.declared.key.Key.TheVariants.{PageOf}
use Rattle.alp_base.specs.declared.cell.Cell.TheVariants as cell
use Rattle.alp_files.specs.Cells.{View}
use Rattle.alp_pages.specs.Naming.{IsNaming, number_or_0}
use Rattle.alp_pages.specs.Nodes.{Node, LeaderOf, IndexOf, DataOf}
use Rattle.alp_pages.specs.Pages.{Pages}
use Rattle.alp_pages.specs.Rows.{SpellsRow}
use Rattle.alp_pages.specs.Volume.{Volume, Spells, nodes, row_of_node}
use Rattle.alp_pages.specs.Fetch.{named_in, named_by, place_of_index, place_of_page}
use Rattle.alp_pages.proofs.NamingLaws.{eqb_other}

-- a row that names the place of a node
pub row_names : (row : List ℕ) (j : ℕ) (o : Option ℕ) → slice_index_or row j 0 ≡ number_or_0 o → ((p : ℕ) → o ≡ Some p → 0 < p) → named_in (Some row) j ≡ o
row_names row j None says above = cond-true (slice_index_or row j 0 == 0) None (Some (slice_index_or row j 0)) (eq-eqb _ 0 says)
row_names row j (Some p) says above =
    let some = above p refl in
    cond-false (slice_index_or row j 0 == 0) None (Some (slice_index_or row j 0)) (eqb_other (slice_index_or row j 0) 0 (λ z. omega (arith, says, z, some))) ∙ ap Some says

pub is_none : {A : Type 0} (o : Option A) → is_some o ≡ false → o ≡ None
is_none None h = refl
is_none (Some x) h = cc

pub there_is : {A : Type 0} (o : Option A) → is_some o ≡ true → (x : A) × (o ≡ Some x)
there_is None h = cc
there_is (Some x) h = (x, refl)

-- what the page of a node names is where its children stand
pub names_child : (home : ℕ) (v : Volume) → IsNaming 257 home v.places → (bytes : List ℕ) (k : Node) → SpellsRow nodes v.places bytes k → (j : ℕ) → j < nodes.width k
    → named_in (row_of_node k bytes) j ≡ v.places.of (nodes.child k j)
names_child home v is bytes k spells j few =
    ap (λ (r : Option (List ℕ)). named_in r j) spells.reads
    ∙ row_names spells.row j (v.places.of (nodes.child k j)) (spells.says j few) (λ p h. (let least = is.least (nodes.child k j) p h in omega arith))

module _ (home : ℕ) (at : Pages) (v : Volume) (m : View) (f : FileId) (n p : ℕ) (s : Spells home at v m) (here : v.places.of (LeaderOf f) ≡ Some p) (few : n < 4096) where
  pub index_named : place_of_index at f p n ≡ v.places.of (IndexOf f (n / 128))
  index_named = names_child home v s.shape.places (at p) (LeaderOf f) (s.rows (LeaderOf f) p here) (n / 128) (omega arith)

  by_index : (o : Option ℕ) → v.places.of (IndexOf f (n / 128)) ≡ o → named_by at (IndexOf f (n / 128)) o (n % 128) ≡ v.places.of (DataOf f n)
  by_index None h = sym (go (v.places.of (DataOf f n)) refl)
    where
      go : (o : Option ℕ) → v.places.of (DataOf f n) ≡ o → o ≡ None
      go None e = refl
      go (Some d) e = let yes = s.shape.block f n d e in let no : is_some (v.places.of (IndexOf f (n / 128))) ≡ false = ap is_some h in cc
  by_index (Some i) h =
      let number : 128 * (n / 128) + n % 128 ≡ n = omega arith in
      names_child home v s.shape.places (at i) (IndexOf f (n / 128)) (s.rows (IndexOf f (n / 128)) i h) (n % 128) (omega arith) ∙ ap (λ (x : ℕ). v.places.of (DataOf f x)) number

  pub page_named : place_of_page at f p n ≡ v.places.of (DataOf f n)
  page_named = ap (λ (o : Option ℕ). named_by at (IndexOf f (n / 128)) o (n % 128)) index_named ∙ by_index (v.places.of (IndexOf f (n / 128))) refl

  pub page_there : (o : Option ℕ) → v.places.of (DataOf f n) ≡ o → option_map (λ (d : ℕ). cell.Page (at d)) o ≡ m (PageOf f n)
  page_there None e = sym (is_none (m (PageOf f n)) (sym (s.shape.pages f n) ∙ ap is_some e))
  page_there (Some d) e = sym (s.pages f n d e)

  -- the cell is the page at the place that the pages name
  pub fetched : option_map (λ (d : ℕ). cell.Page (at d)) (place_of_page at f p n) ≡ m (PageOf f n)
  fetched = page_there (place_of_page at f p n) (sym page_named)

  -- ---- what each step of a fetch tells, by what was read

  pub no_index : {o : Option ℕ} → o ≡ named_by at (LeaderOf f) (Some p) (n / 128) → o ≡ None → None ≡ m (PageOf f n)
  no_index is none =
      let told : place_of_index at f p n ≡ None = sym is ∙ none in
      ap (λ (i : Option ℕ). option_map (λ (d : ℕ). cell.Page (at d)) (named_by at (IndexOf f (n / 128)) i (n % 128))) (sym told) ∙ fetched

  module _ (i : ℕ) (is : Some i ≡ named_by at (LeaderOf f) (Some p) (n / 128)) where
    index_here : v.places.of (IndexOf f (n / 128)) ≡ Some i
    index_here = sym (is ∙ index_named)

    page_here : named_by at (IndexOf f (n / 128)) (Some i) (n % 128) ≡ v.places.of (DataOf f n)
    page_here = by_index (Some i) index_here

    pub index_within : i < home
    index_within = s.shape.places.most (IndexOf f (n / 128)) i index_here

    pub no_page : {o : Option ℕ} → o ≡ named_by at (IndexOf f (n / 128)) (Some i) (n % 128) → o ≡ None → None ≡ m (PageOf f n)
    no_page there none = page_there None (sym (sym none ∙ there ∙ page_here))

    module _ (d : ℕ) (there : Some d ≡ named_by at (IndexOf f (n / 128)) (Some i) (n % 128)) where
      pub page_within : d < home
      page_within = s.shape.places.most (DataOf f n) d (sym (there ∙ page_here))

      pub the_page : Some (cell.Page (at d)) ≡ m (PageOf f n)
      the_page = page_there (Some d) (sym (there ∙ page_here))
