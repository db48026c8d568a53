-- What a leader that is read has: a size within the limit, and 32 index places.
use Rattle.std.specs.Prelude.{IfSome, Bool, true, false, cond, Option, None, Some}
use Rattle.std.proofs.Common.{◌≡◌, ℕ, ◌≤◌, List, [], length, refl, sym, ◌∙◌, ap}
use Rattle.std.proofs.lemmas.Bool.{leb-true}
use Rattle.alp_base.specs.declared.ids.FileId.{FileId}
use Rattle.alp_fields.specs.Forms.{whole}
use Rattle.alp_fields.proofs.FormLaws.{whole_spelled}
use Rattle.alp_files.specs.Cells.{same_file}
use Rattle.alp_files.proofs.SameLemmas.{same_file-true}
use Rattle.alp_pages.specs.Leader.{leader_page, leader_body, leader_fields, sized_numbers, tail}
use Rattle.alp_pages.specs.declared.leader.Leader.{Leader}
use Rattle.alp_pages.proofs.LeaderForm.{leader_page_law}
use Rattle.alp_pages.specs.Nodes.{Node, LeaderOf, IndexOf, DataOf}
use Rattle.alp_pages.specs.Volume.{row_of_leader, row_of_node, width_of}
use Rattle.alp_pages.proofs.IndexLaws.{index_length}

pub leader_size : (bytes : List ℕ) (l : Leader) → whole leader_page bytes ≡ Some l → l.props.size ≤ 4096
unfolding leader_page leader_body leader_fields sized_numbers
leader_size bytes l e = leb-true _ _ (whole_spelled leader_page leader_page_law bytes l e).1.1.0.0.1.0.1

pub leader_places : (bytes : List ℕ) (l : Leader) → whole leader_page bytes ≡ Some l → length l.index ≡ 32
unfolding leader_page leader_body leader_fields tail
leader_places bytes l e = (whole_spelled leader_page leader_page_law bytes l e).1.1.0.0.1.1.1.1.0

-- the leader whose row a page has
pub record ReadsLeader (f : FileId) (bytes row : List ℕ) : Type 0 where
  pub leader : Leader
  pub reads : whole leader_page bytes ≡ Some leader
  pub file : leader.file ≡ f
  pub row_is : leader.index ≡ row

pub reads_leader : (f : FileId) (bytes row : List ℕ) → row_of_node (LeaderOf f) bytes ≡ Some row → ReadsLeader f bytes row
reads_leader f bytes row h = go (whole leader_page bytes) refl h
  where
    of : (l : Leader) → whole leader_page bytes ≡ Some l → (t : Bool) → same_file l.file f ≡ t → cond t (Some l.index) None ≡ Some row → ReadsLeader f bytes row
    of l e true d r = record { leader = l; reads = e; file = same_file-true l.file f d; row_is = (let one : l.index ≡ row = cc in one) }
    of l e false d r = cc

    go : (o : Option Leader) → whole leader_page bytes ≡ o → row_of_leader f o ≡ Some row → ReadsLeader f bytes row
    go None e r = cc
    go (Some l) e r = of l e (same_file l.file f) refl r

-- a row is as long as its node is wide
pub row_length : (k : Node) (bytes row : List ℕ) → row_of_node k bytes ≡ Some row → length row ≡ width_of k
row_length (LeaderOf f) bytes row h = let r = reads_leader f bytes row h in ap length (sym r.row_is) ∙ leader_places bytes r.leader r.reads
row_length (IndexOf f b) bytes row h = index_length bytes row h
row_length (DataOf f n) bytes row h = let none : [] ≡ row = cc in ap length (sym none)

pub some_size : (bytes : List ℕ) (o : Option Leader) → o ≡ whole leader_page bytes → IfSome o (λ l. l.props.size ≤ 4096)
some_size bytes None e = tt
some_size bytes (Some l) e = leader_size bytes l (sym e)
