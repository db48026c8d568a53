-- Leaders and index pages that are judged as they are read.
use Rattle.std.specs.Prelude.{Bool, true, false, not, cond, ◌&&◌, is_some, Option, None, Some, slice_index_or}
use Rattle.std.specs.FinMap as map
use Rattle.std.proofs.Common.{◌≡◌, ℕ, List, [], ◌∷◌, refl, sym, ◌∙◌, ap, subst, arith}
use Rattle.std.proofs.lemmas.Bool.{cond-true, cond-false}
use Rattle.alp_base.specs.declared.ids.FileId.{FileId}
use Rattle.alp_fields.specs.Forms.{whole}
use Rattle.alp_files.specs.Cells.{same_file}
use Rattle.alp_files.proofs.SameLemmas.{same_file-true, same_file-itself}
use Rattle.alp_pages.specs.declared.leader.Leader.{Leader}
use Rattle.alp_pages.specs.Leader.{leader_page}
use Rattle.alp_pages.specs.Nodes.{LeaderOf, IndexOf}
use Rattle.alp_pages.specs.Pages.{Pages}
use Rattle.alp_pages.specs.Volume.{row_of_leader, row_of_node}
use Rattle.alp_pages.specs.Damage.{Name, NodePage, has_owner, is_owned, is_right_node, is_within, are_new, added, names_of, names_in, row_there, is_right}
use Rattle.alp_volume.specs.Reached.{AreOwners, Owners}
use Rattle.alp_volume.proofs.RowLaws.{has_owner_is}

module _ (home : ℕ) (at : Pages) (names : List Name) (file : FileId) (place : ℕ) (l : Leader) (reads : whole leader_page (at place) ≡ Some l) where
  row_if : row_of_node (LeaderOf file) (at place) ≡ cond (same_file l.file file) (Some l.index) None
  row_if = ap (row_of_leader file) reads

  -- the row of a leader that is the file's
  pub own_row : l.file ≡ file → row_of_node (LeaderOf file) (at place) ≡ Some l.index
  own_row own = row_if ∙ cond-true (same_file l.file file) (Some l.index) None (ap (λ (x : FileId). same_file x file) own ∙ same_file-itself file)

  right_is : (o : Option (List ℕ)) → row_of_node (LeaderOf file) (at place) ≡ o
      → is_right home at names (NodePage (LeaderOf file) 32 place) ≡ (has_owner at 256 l.props.owner && is_within 32 o && are_new home names (names_of (LeaderOf file) (row_there o)))
  right_is o e =
      ap (λ (x : Option Leader). is_owned at x && is_within 32 (row_of_node (LeaderOf file) (at place)) && are_new home names (names_of (LeaderOf file) (row_there (row_of_node (LeaderOf file) (at place))))) reads
      ∙ ap (λ (x : Option (List ℕ)). has_owner at 256 l.props.owner && is_within 32 x && are_new home names (names_of (LeaderOf file) (row_there x))) e

  pub names_are : l.file ≡ file → names_in at (NodePage (LeaderOf file) 32 place) ≡ names_of (LeaderOf file) l.index
  names_are own = ap (λ (o : Option (List ℕ)). names_of (LeaderOf file) (row_there o)) (own_row own)

  pub other_file : (l.file ≡ file → ⊥) → false ≡ is_right home at names (NodePage (LeaderOf file) 32 place)
  other_file other = go (same_file l.file file) refl
    where
      none : (a b : Bool) → (a && false && b) ≡ false
      none true b = refl
      none false b = refl

      go : (t : Bool) → same_file l.file file ≡ t → false ≡ is_right home at names (NodePage (LeaderOf file) 32 place)
      go true e = absurd (other (same_file-true l.file file e))
      go false e = sym (right_is None (row_if ∙ cond-false (same_file l.file file) (Some l.index) None e) ∙ none (has_owner at 256 l.props.owner) (are_new home names (names_of (LeaderOf file) [])))

  module _ (owners : Owners) (rows : List Bool) (owned : AreOwners at 256 owners rows) where
    pub no_owner : map.get owners l.props.owner ≡ None → false ≡ is_right home at names (NodePage (LeaderOf file) 32 place)
    no_owner none = sym (
        right_is (row_of_node (LeaderOf file) (at place)) refl
        ∙ ap (λ (b : Bool). b && is_within 32 (row_of_node (LeaderOf file) (at place)) && are_new home names (names_of (LeaderOf file) (row_there (row_of_node (LeaderOf file) (at place))))) (has_owner_is at 256 owners rows owned l.props.owner ∙ ap is_some none)
        )

    pub row_judged : l.file ≡ file → (r : ℕ) → map.get owners l.props.owner ≡ Some r → (b : Bool) → b ≡ (is_within 32 (Some l.index) && are_new home names (names_of (LeaderOf file) l.index)) → b ≡ is_right home at names (NodePage (LeaderOf file) 32 place)
    row_judged own r there b is = is ∙ sym (
        right_is (Some l.index) (own_row own)
        ∙ ap (λ (b : Bool). b && is_within 32 (Some l.index) && are_new home names (names_of (LeaderOf file) l.index)) (has_owner_is at 256 owners rows owned l.props.owner ∙ ap is_some there)
        )
