-- Pages that are alike below the end of the volume stand for the same cells.
use Rattle.std.specs.Prelude.{Some, option_map, ◌/◌, ◌%◌, ◌+◌}
use Rattle.std.proofs.Common.{◌≡◌, ◌≤◌, ◌<◌, ℕ, List, sym, ◌∙◌, ap, subst, arith}
use Rattle.alp_files.specs.Cells.{Cells}
use Rattle.alp_fields.specs.Forms.{whole}
use Rattle.alp_base.specs.declared.cell.Cell.TheVariants as cell
use Rattle.alp_pages.specs.Leader.{leader_page}
use Rattle.alp_pages.specs.Nodes.{Node, DataOf, LeaderOf}
use Rattle.alp_pages.specs.Pages.{Pages, entry, part_of, read_row}
use Rattle.alp_pages.specs.Rows.{SpellsRow}
use Rattle.alp_pages.specs.Volume.{StandFor, nodes, props_cell}

module _ (home : ℕ) (a b : Pages) (m : Cells) (least : 257 ≤ home) (same : (q : ℕ) → q < home → b q ≡ a q) (standing : StandFor home a m) where
  below : (k : Node) (p : ℕ) → standing.volume.places.of k ≡ Some p → b p ≡ a p
  below k p e = same p (standing.spells.shape.places.most k p e)

  pub stands_alike : StandFor home b m
  stands_alike = record {
    volume = standing.volume;
    spells = record {
      shape = standing.spells.shape;
      header = same 0 (omega arith) ∙ standing.spells.header;
      directory = λ slot low. ap (λ (bytes : List ℕ). whole entry (part_of 16 (slot % 32) bytes)) (same (1 + slot / 32) (omega arith)) ∙ standing.spells.directory slot low;
      owners = λ row low. ap (λ (bytes : List ℕ). read_row (part_of 256 (row % 2) bytes)) (same (129 + row / 2) (omega arith)) ∙ standing.spells.owners row low;
      rows = λ k p e. subst (λ (bytes : List ℕ). SpellsRow nodes standing.volume.places bytes k) (sym (below k p e)) (standing.spells.rows k p e);
      leaders = λ f p e. standing.spells.leaders f p e ∙ ap (λ (bytes : List ℕ). option_map props_cell (whole leader_page bytes)) (sym (below (LeaderOf f) p e));
      pages = λ f n p e. standing.spells.pages f n p e ∙ ap (λ (bytes : List ℕ). Some (cell.Page bytes)) (sym (below (DataOf f n) p e));
    };
    sound = standing.sound;
  }
