-- A file's pages from a number on go.
use Rattle.std.specs.Prelude.{Bool, true, false, cond, is_some, Option, None, Some, option_map}
use Rattle.std.proofs.Common.{◌≡◌, ℕ, ◌+◌, ◌/◌, ◌%◌, List, [], ◌∷◌, refl, sym, ◌∙◌, ap, arith}
use Rattle.std.proofs.lemmas.Bool.{cond-false}
use Rattle.alp_base.specs.declared.ids.FileId.{FileId}
use Rattle.alp_base.specs.declared.key.Key.TheVariants.{PageOf}
use Rattle.alp_fields.specs.Forms.{whole}
use Rattle.alp_base.specs.declared.cell.Cell.TheVariants as cell
use Rattle.alp_files.specs.Cells.{View}
use Rattle.alp_files.specs.Edits.{Cut, after, is_past}
use Rattle.alp_pages.specs.Naming.{number_or_0, without}
use Rattle.alp_pages.specs.Nodes.{Node, LeaderOf, IndexOf, DataOf}
use Rattle.alp_pages.specs.Pages.{Pages, entry, part_of, read_row}
use Rattle.alp_pages.specs.Volume.{Volume, Spells, entry_for}
use Rattle.alp_pages.specs.Changes.{IsCutOff, volume_cut}
use Rattle.alp_pages.proofs.NamingLaws.{without-is}

module _ (home : ℕ) (at new : Pages) (v : Volume) (m : View) (s : Spells home at v m) (f : FileId) (from : ℕ) (gone : Node → Bool) (cut : IsCutOff at new v f from gone) where
  kept_of : (t : Bool) (o : Option ℕ) (x : ℕ) → cond t None o ≡ Some x → (t ≡ false) × (o ≡ Some x)
  kept_of true o x h = cc
  kept_of false o x h = (refl, h)

  stays : (k : Node) → gone k ≡ false → (without gone v.places).of k ≡ v.places.of k
  stays k e = cond-false (gone k) None (v.places.of k) e

  some_page : (g : FileId) (n : ℕ) → is_some ((without gone v.places).of (DataOf g n)) ≡ is_some (after (Cut f from ∷ []) m (PageOf g n))
  some_page g n = ap (λ (t : Bool). is_some (cond t None (v.places.of (DataOf g n)))) (cut.data_ g n) ∙ go (is_past f from (PageOf g n))
    where
      go : (t : Bool) → is_some (cond t None (v.places.of (DataOf g n))) ≡ is_some (cond t None (m (PageOf g n)))
      go true = refl
      go false = s.shape.pages g n

  -- leaders stand where they stood
  entries_same : (o : Option FileId) → option_map (entry_for v) o ≡ option_map (entry_for (volume_cut gone v)) o
  entries_same None = refl
  entries_same (Some g) = ap (λ (x : Option ℕ). Some (record { file = g; place = number_or_0 x })) (sym (stays (LeaderOf g) (cut.files g)))

  pub pages_cut : Spells home new (volume_cut gone v) (after (Cut f from ∷ []) m)
  pages_cut = record {
    shape = record {
      slots = s.shape.slots;
      rows = s.shape.rows;
      places = without-is gone v.places s.shape.places;
      files = s.shape.files;
      owners = s.shape.owners;
      leaders = λ g. ap is_some (stays (LeaderOf g) (cut.files g)) ∙ s.shape.leaders g;
      pages = some_page;
      block = λ g n p h. (
          let k = kept_of (gone (DataOf g n)) (v.places.of (DataOf g n)) p h in
          ap is_some (stays (IndexOf g (n / 128)) (cut.block g n p k.0 k.1)) ∙ s.shape.block g n p k.1
          );
      page = λ g b p h. (
          let k = kept_of (gone (IndexOf g b)) (v.places.of (IndexOf g b)) p h in
          let n = cut.page g b p k.0 k.1 in
          (n.0, n.1, ap is_some (stays (DataOf g n.0) n.3) ∙ n.2)
          );
    };
    header = cut.low 0 (omega arith) ∙ s.header;
    directory = λ slot few. ap (λ (b : List ℕ). whole entry (part_of 16 (slot % 32) b)) (cut.low (1 + slot / 32) (omega arith)) ∙ s.directory slot few ∙ ap Some (entries_same (v.slots.at slot));
    owners = λ row few. ap (λ (b : List ℕ). read_row (part_of 256 (row % 2) b)) (cut.low (129 + row / 2) (omega arith)) ∙ s.owners row few;
    rows = λ k p h. (let kept = kept_of (gone k) (v.places.of k) p h in cut.rows k p kept.0 kept.1);
    leaders = λ g p h. (let kept = kept_of (gone (LeaderOf g)) (v.places.of (LeaderOf g)) p h in s.leaders g p kept.1 ∙ sym (cut.leaders g p kept.1));
    pages = λ g n p h. (
        let kept = kept_of (gone (DataOf g n)) (v.places.of (DataOf g n)) p h in
        cond-false (is_past f from (PageOf g n)) None (m (PageOf g n)) (sym (cut.data_ g n) ∙ kept.0) ∙ s.pages g n p kept.1 ∙ ap (λ (b : List ℕ). Some (cell.Page b)) (sym (cut.pages g n p kept.0 kept.1))
        );
  }
