-- A page that nothing names may hold anything.
use Rattle.std.specs.Prelude.{false, None, Some, option_map, ◌==◌}
use Rattle.std.specs.FinMap as map
use Rattle.std.proofs.Common.{◌≡◌, ℕ, ◌<◌, ◌≤◌, ◌+◌, ◌/◌, ◌%◌, List, refl, sym, ◌∙◌, ap, arith, eq-eqb}
use Rattle.std.proofs.lemmas.Bool.{cond-true, cond-false}
use Rattle.alp_base.specs.declared.cell.Cell.TheVariants as cell
use Rattle.alp_files.specs.Cells.{View, Cells}
use Rattle.alp_fields.specs.Forms.{whole}
use Rattle.alp_pages.specs.Leader.{leader_page}
use Rattle.alp_pages.specs.Nodes.{Node, LeaderOf, DataOf}
use Rattle.alp_pages.specs.Pages.{Pages, written, entry, entry_in, part_of, read_row, row_in}
use Rattle.alp_pages.specs.Volume.{Volume, Spells, StandFor, nodes, props_cell}
use Rattle.alp_pages.proofs.NamingLaws.{eqb_other, fresh}

pub written_same : (p : ℕ) (bytes : List ℕ) (at : Pages) → written p bytes at p ≡ bytes
written_same p bytes at = cond-true (p == p) bytes (at p) (eq-eqb p p refl)

pub written_other : (p : ℕ) (bytes : List ℕ) (at : Pages) (q : ℕ) → (q == p) ≡ false → written p bytes at q ≡ at q
written_other p bytes at q e = cond-false (q == p) bytes (at q) e

-- a page in front of the home places of nodes stays
pub low_page : (p : ℕ) (bytes : List ℕ) (at : Pages) → 257 ≤ p → (q : ℕ) → q < 257 → written p bytes at q ≡ at q
low_page p bytes at least q low = written_other p bytes at q (eqb_other q p (λ e. omega arith))

pub low_entries : (p : ℕ) (bytes : List ℕ) (at : Pages) → 257 ≤ p → (slot : ℕ) → slot < 4096 → entry_in (written p bytes at) slot ≡ entry_in at slot
low_entries p bytes at least slot few = ap (λ (page : List ℕ). whole entry (part_of 16 (slot % 32) page)) (low_page p bytes at least (1 + slot / 32) (omega arith))

pub low_rows : (p : ℕ) (bytes : List ℕ) (at : Pages) → 257 ≤ p → (row : ℕ) → row < 256 → row_in (written p bytes at) row ≡ row_in at row
low_rows p bytes at least row few = ap (λ (page : List ℕ). read_row (part_of 256 (row % 2) page)) (low_page p bytes at least (129 + row / 2) (omega arith))

module _ (home : ℕ) (at : Pages) (v : Volume) (m : View) (s : Spells home at v m) (p : ℕ) (bytes : List ℕ) (least : 257 ≤ p) (free : v.places.at p ≡ None) where
  same_page : (k : Node) (q : ℕ) → v.places.of k ≡ Some q → written p bytes at q ≡ at q
  same_page k q h = written_other p bytes at q (fresh s.shape.places k p q free h)

  pub unnamed : Spells home (written p bytes at) v m
  unnamed = record {
    shape = s.shape;
    header = low_page p bytes at least 0 (omega arith) ∙ s.header;
    directory = λ slot few. low_entries p bytes at least slot few ∙ s.directory slot few;
    owners = λ row few. low_rows p bytes at least row few ∙ s.owners row few;
    rows = λ k q h. (let old = s.rows k q h in record { row = old.row; reads = ap (nodes.row_of k) (same_page k q h) ∙ old.reads; says = old.says });
    leaders = λ f q h. s.leaders f q h ∙ ap (λ (b : List ℕ). option_map props_cell (whole leader_page b)) (sym (same_page (LeaderOf f) q h));
    pages = λ f n q h. s.pages f n q h ∙ ap (λ (b : List ℕ). Some (cell.Page b)) (sym (same_page (DataOf f n) q h));
  }

pub unnamed_stands : (home : ℕ) (at : Pages) (m : Cells) (stands : StandFor home at m) (p : ℕ) (bytes : List ℕ) → 257 ≤ p → stands.volume.places.at p ≡ None → StandFor home (written p bytes at) m
unnamed_stands home at m stands p bytes least free =
    record { volume = stands.volume; spells = unnamed home at stands.volume (map.get m) stands.spells p bytes least free; sound = stands.sound }
