-- Which nodes the pages of one file name.
use Rattle.std.specs.Prelude.{Bool, true, false, not, cond, ◌&&◌, ◌||◌, ◌==◌, Option, None, Some, Result, Ok, Err, IfOk, slice_index, slice_index_or}
use Rattle.std.specs.List.{cons_option, enumerate_from, filter_map}
use Rattle.std.specs.Option.{option_to_list}
use Rattle.std.proofs.Common.{◌≡◌, ℕ, zero, suc, ◌+◌, ◌-◌, ◌*◌, ◌/◌, ◌<◌, ◌≤◌, List, [], ◌∷◌, ◌++◌, drop, length, inl, inr, refl, sym, ◌∙◌, ap, subst, arith, eq-eqb, add-one, drop-cons}
use Rattle.std.proofs.lemmas.Bool.{cond-true, cond-false}
use Rattle.alp_base.specs.declared.ids.FileId.{FileId}
use Rattle.alp_fields.specs.Forms.{whole}
use Rattle.alp_files.specs.Cells.{same_file}
use Rattle.alp_files.proofs.SameLemmas.{same_file-true}
use Rattle.alp_base.specs.declared.faults.VaultFault.{VaultFault}
use Rattle.alp_pages.specs.declared.leader.Leader.{Leader}
use Rattle.alp_pages.specs.Leader.{leader_page}
use Rattle.alp_pages.specs.Nodes.{Node, LeaderOf, IndexOf, DataOf, same_node}
use Rattle.alp_pages.specs.Pages.{Pages, index_page}
use Rattle.alp_pages.specs.Volume.{child_of, row_of_node}
use Rattle.alp_pages.specs.Damage.{Part, NodePage, Name, is_owned, is_within, are_new, size_of, parts_of, has_node, added, child_name, names_of, names_in, row_there, index_part, is_right, first_wrong, names_after, place_of}
use Rattle.alp_volume.specs.Reached.{IsParent, AreFresh, AreMarks, IsJudged, blocks_from}
use Rattle.alp_pages.proofs.NamingLaws.{eqb_other}
use Rattle.alp_pages.proofs.NodeTests.{same_node-itself}
use Rattle.alp_pages.proofs.IndexLaws.{index_length}
use Rattle.alp_volume.proofs.MarkLaws.{children_apart}
use Rattle.alp_pages.proofs.Members.{at_or_past}

-- a node that a row does not name
pub added_other : (q k : Node) (names : List Name) (i : ℕ) (row : List ℕ) → ((j : ℕ) → i ≤ j → j < i + length row → same_node q (child_of k j) ≡ false) → has_node q (added names (filter_map (child_name k) (enumerate_from i row))) ≡ has_node q names
added_other q k names i [] other = refl
added_other q k names i (p ∷ ps) other = go (p == 0) (λ ns. added_other q k ns (i + 1) ps (λ j low high. other j (omega arith) (omega arith)))
  where
    go : (t : Bool) → ((ns : List Name) → has_node q (added ns (filter_map (child_name k) (enumerate_from (i + 1) ps))) ≡ has_node q ns)
        → has_node q (added names (cons_option (cond t None (Some (child_of k i, p))) (filter_map (child_name k) (enumerate_from (i + 1) ps)))) ≡ has_node q names
    go true later = later names
    go false later = later ((child_of k i, p) ∷ names) ∙ ap (λ (b : Bool). b || has_node q names) (other i (omega arith) (omega arith))

-- a child is named where the row has its place
added_own : (k : Node) → IsParent k → (names : List Name) (i b : ℕ) (row : List ℕ) → i ≤ b → has_node (child_of k b) names ≡ false → has_node (child_of k b) (added names (filter_map (child_name k) (enumerate_from i row))) ≡ not (slice_index_or row (b - i) 0 == 0)
added_own k parent names i b [] low fresh = fresh
added_own k parent names i b (p ∷ ps) low fresh = elim (at_or_past i b low) [
  | inl e ↦ here e (p == 0) refl
  | inr more ↦ there more (p == 0) (λ ns few. added_own k parent ns (i + 1) b ps more few)
]
  where
    here : i ≡ b → (t : Bool) → (p == 0) ≡ t → has_node (child_of k b) (added names (cons_option (cond t None (Some (child_of k i, p))) (filter_map (child_name k) (enumerate_from (i + 1) ps)))) ≡ not (slice_index_or (p ∷ ps) (b - i) 0 == 0)
    here e true d =
        added_other (child_of k b) k names (i + 1) ps (λ j lo hi. children_apart k parent j b (omega arith)) ∙ fresh
        ∙ sym (ap (λ (n : ℕ). not (slice_index_or (p ∷ ps) n 0 == 0)) (let z : b - i ≡ 0 = omega arith in z) ∙ ap not d)
    here e false d =
        added_other (child_of k b) k ((child_of k i, p) ∷ names) (i + 1) ps (λ j lo hi. children_apart k parent j b (omega arith))
        ∙ ap (λ (x : Bool). x || has_node (child_of k b) names) (ap (λ (n : ℕ). same_node (child_of k b) (child_of k n)) e ∙ same_node-itself (child_of k b))
        ∙ sym (ap (λ (n : ℕ). not (slice_index_or (p ∷ ps) n 0 == 0)) (let z : b - i ≡ 0 = omega arith in z) ∙ ap not d)

    shift : i + 1 ≤ b → not (slice_index_or ps (b - (i + 1)) 0 == 0) ≡ not (slice_index_or (p ∷ ps) (b - i) 0 == 0)
    shift more = ap (λ (n : ℕ). not (slice_index_or (p ∷ ps) n 0 == 0)) (let z : suc (b - (i + 1)) ≡ b - i = omega arith in z)

    there : i + 1 ≤ b → (t : Bool) → ((ns : List Name) → has_node (child_of k b) ns ≡ false → has_node (child_of k b) (added ns (filter_map (child_name k) (enumerate_from (i + 1) ps))) ≡ not (slice_index_or ps (b - (i + 1)) 0 == 0))
        → has_node (child_of k b) (added names (cons_option (cond t None (Some (child_of k i, p))) (filter_map (child_name k) (enumerate_from (i + 1) ps)))) ≡ not (slice_index_or (p ∷ ps) (b - i) 0 == 0)
    there more true later = later names fresh ∙ shift more
    there more false later = later ((child_of k i, p) ∷ names) (ap (λ (x : Bool). x || has_node (child_of k b) names) (children_apart k parent i b (omega arith)) ∙ fresh) ∙ shift more

pub named_child : (k : Node) → IsParent k → (names : List Name) (b : ℕ) (row : List ℕ) → has_node (child_of k b) names ≡ false → has_node (child_of k b) (added names (names_of k row)) ≡ not (slice_index_or row b 0 == 0)
named_child k parent names b row fresh = added_own k parent names 0 b row (omega arith) fresh ∙ ap (λ (n : ℕ). not (slice_index_or row n 0 == 0)) (let z : b - 0 ≡ b = omega arith in z)

-- ---- index pages

module _ (at : Pages) (f : FileId) (size : ℕ) where
  -- a node that is no page of the file
  pub blocks_other : (q : Node) → ((b j : ℕ) → same_node q (child_of (IndexOf f b) j) ≡ false) → (names : List Name) (es : List (ℕ × ℕ)) → has_node q (names_after at names (filter_map (index_part f size) es)) ≡ has_node q names
  blocks_other q other names [] = refl
  blocks_other q other names (e ∷ es) = go (e.1 == 0) (λ ns. blocks_other q other ns es)
    where
      go : (t : Bool) → ((ns : List Name) → has_node q (names_after at ns (filter_map (index_part f size) es)) ≡ has_node q ns)
          → has_node q (names_after at names (cons_option (cond t None (Some (NodePage (IndexOf f e.0) (size - 128 * e.0) e.1))) (filter_map (index_part f size) es))) ≡ has_node q names
      go true later = later names
      go false later =
          later (added names (names_of (IndexOf f e.0) (row_there (whole index_page (at e.1)))))
          ∙ added_other q (IndexOf f e.0) names 0 (row_there (whole index_page (at e.1))) (λ j lo hi. other e.0 j)

  row_short : (page : List ℕ) → length (row_there (whole index_page page)) ≤ 128
  row_short page = go (whole index_page page) refl
    where
      go : (o : Option (List ℕ)) → whole index_page page ≡ o → length (row_there o) ≤ 128
      go None e = omega arith
      go (Some row) e = omega (arith, index_length page row e)

  -- the pages of later blocks are not named yet
  pub later_block : (names : List Name) (b p : ℕ) → ((n : ℕ) → b ≤ n / 128 → has_node (DataOf f n) names ≡ false) → (n : ℕ) → b + 1 ≤ n / 128 → has_node (DataOf f n) (names_after at names (option_to_list (index_part f size (b, p)))) ≡ false
  later_block names b p later n more = go (p == 0)
    where
      none : (a : Bool) → (a && false) ≡ false
      none true = refl
      none false = refl

      go : (t : Bool) → has_node (DataOf f n) (names_after at names (option_to_list (cond t None (Some (NodePage (IndexOf f b) (size - 128 * b) p))))) ≡ false
      go true = later n (omega arith)
      go false =
          added_other (DataOf f n) (IndexOf f b) names 0 (row_there (whole index_page (at p))) (λ j lo hi.
          ap (λ (t : Bool). same_file f f && t) (eqb_other n (128 * b + j) (λ e. (let few = row_short (at p) in let eq : n ≡ 128 * b + j = e in omega arith))) ∙ none (same_file f f))
          ∙ later n (omega arith)

-- the blocks of a row, one after the other
pub blocks_step : (f : FileId) (size : ℕ) (row : List ℕ) (b : ℕ) → b < length row → blocks_from f size row b ≡ option_to_list (index_part f size (b, slice_index row b)) ++ blocks_from f size row (b + 1)
blocks_step f size row b low =
    ap (λ es. filter_map (index_part f size) es) (ap (enumerate_from b) (drop-cons row b 0 low ∙ ap (λ (n : ℕ). slice_index row b ∷ drop n row) (sym (add-one b))))
    ∙ joined (index_part f size (b, slice_index row b)) (blocks_from f size row (b + 1))
  where
    joined : (o : Option Part) (ps : List Part) → cons_option o ps ≡ option_to_list o ++ ps
    joined None ps = refl
    joined (Some p) ps = refl

past_end : (row : List ℕ) (i : ℕ) → length row ≤ i → drop i row ≡ []
past_end [] zero h = refl
past_end [] (suc i) h = refl
past_end (x ∷ xs) zero h = absurd (omega arith)
past_end (x ∷ xs) (suc i) h = past_end xs i (omega arith)

pub blocks_end : (f : FileId) (size : ℕ) (row : List ℕ) (b : ℕ) → length row ≤ b → blocks_from f size row b ≡ []
blocks_end f size row b all = ap (λ xs. filter_map (index_part f size) (enumerate_from b xs)) (past_end row b all)

-- a block's index page may name the pages of the block
pub fresh_block : (names : List Name) (f : FileId) (b : ℕ) → ((n : ℕ) → b ≤ n / 128 → has_node (DataOf f n) names ≡ false) → AreFresh (IndexOf f b) names
fresh_block names f b later = record { parent = tt; children = λ j. later (128 * b + j) (omega arith) }

-- ---- one part

pub one_right : (home : ℕ) (at : Pages) (names : List Name) (part : Part) → is_right home at names part ≡ true → first_wrong home at names (part ∷ []) ≡ None
one_right home at names part h = cond-true (is_right home at names part) None (Some (place_of part)) h

pub one_wrong : (home : ℕ) (at : Pages) (names : List Name) (part : Part) → is_right home at names part ≡ false → first_wrong home at names (part ∷ []) ≡ Some (place_of part)
one_wrong home at names part h = cond-false (is_right home at names part) None (Some (place_of part)) h

module _ (home : ℕ) (at : Pages) (names : List Name) (f : FileId) (size b p limit : ℕ) (ne : p ≡ 0 → ⊥) (limit_is : limit ≡ size - 128 * b) where
  part_is : index_part f size (b, p) ≡ Some (NodePage (IndexOf f b) limit p)
  part_is = cond-false (p == 0) None (Some (NodePage (IndexOf f b) (size - 128 * b) p)) (eqb_other p 0 ne) ∙ ap (λ (n : ℕ). Some (NodePage (IndexOf f b) n p)) (sym limit_is)

  pub block_right : (places : List Bool) → is_right home at names (NodePage (IndexOf f b) limit p) ≡ true → AreMarks home (added names (names_in at (NodePage (IndexOf f b) limit p))) places
      → IsJudged home at names (option_to_list (index_part f size (b, p))) (λ ns. AreMarks home ns places) None
  block_right places right marks =
      subst (λ (o : Option Part). IsJudged home at names (option_to_list o) (λ ns. AreMarks home ns places) None) (sym part_is) (one_right home at names (NodePage (IndexOf f b) limit p) right, marks)

  pub block_wrong : (places : List Bool) → is_right home at names (NodePage (IndexOf f b) limit p) ≡ false → IsJudged home at names (option_to_list (index_part f size (b, p))) (λ ns. AreMarks home ns places) (Some p)
  block_wrong places wrong =
      subst (λ (o : Option Part). first_wrong home at names (option_to_list o) ≡ Some p) (sym part_is) (one_wrong home at names (NodePage (IndexOf f b) limit p) wrong)

-- ---- the parts of a file

pub first_stops : (home : ℕ) (at : Pages) (names : List Name) (part : Part) (rest : List Part) → is_right home at names part ≡ false → first_wrong home at names (part ∷ rest) ≡ Some (place_of part)
first_stops home at names part rest h = cond-false (is_right home at names part) (first_wrong home at (added names (names_in at part)) rest) (Some (place_of part)) h

pub first_passes : (home : ℕ) (at : Pages) (names : List Name) (part : Part) (rest : List Part) (P : List Name → Type 0) (o : Option ℕ) → is_right home at names part ≡ true → IsJudged home at (added names (names_in at part)) rest P o → IsJudged home at names (part ∷ rest) P o
first_passes home at names part rest P None h j = (cond-true (is_right home at names part) (first_wrong home at (added names (names_in at part)) rest) (Some (place_of part)) h ∙ j.0, j.1)
first_passes home at names part rest P (Some p) h j = cond-true (is_right home at names part) (first_wrong home at (added names (names_in at part)) rest) (Some (place_of part)) h ∙ j

and_none : (a b : Bool) → a ≡ false → (a && b) ≡ false
and_none true b h = cc
and_none false b h = refl

pub no_leader : (home : ℕ) (at : Pages) (names : List Name) (f : FileId) (place : ℕ) → whole leader_page (at place) ≡ None → is_right home at names (NodePage (LeaderOf f) 32 place) ≡ false
no_leader home at names f place none =
    and_none (is_owned at (whole leader_page (at place)) && is_within 32 (row_of_node (LeaderOf f) (at place))) (are_new home names (names_in at (NodePage (LeaderOf f) 32 place)))
    (and_none (is_owned at (whole leader_page (at place))) (is_within 32 (row_of_node (LeaderOf f) (at place))) (ap (is_owned at) none))

-- the pages that a leader names are no pages of data
pub leader_no_data : (f g : FileId) (names : List Name) (row : List ℕ) (n : ℕ) → has_node (DataOf g n) (added names (names_of (LeaderOf f) row)) ≡ has_node (DataOf g n) names
leader_no_data f g names row n = added_other (DataOf g n) (LeaderOf f) names 0 row (λ j lo hi. refl)

module _ (at : Pages) (f : FileId) (names : List Name) (place : ℕ) where
  abbrev pub file_row : List ℕ
  file_row = row_there (row_of_node (LeaderOf f) (at place))

  abbrev pub file_names : List Name
  file_names = names_after at names (parts_of at (Some (record { file = f; place = place })))

  pub leaders_stay : (g : FileId) → has_node (LeaderOf g) file_names ≡ has_node (LeaderOf g) names
  leaders_stay g =
      blocks_other at f (size_of (whole leader_page (at place))) (LeaderOf g) (λ b j. refl) (added names (names_of (LeaderOf f) file_row)) (enumerate_from 0 file_row)
      ∙ added_other (LeaderOf g) (LeaderOf f) names 0 file_row (λ j lo hi. refl)

  apart : (g : FileId) → (g ≡ f → ⊥) → same_file g f ≡ false
  apart g other = go (same_file g f) refl
    where
      go : (t : Bool) → same_file g f ≡ t → t ≡ false
      go true e = absurd (other (same_file-true g f e))
      go false e = refl

  pub others_index : (g : FileId) → (g ≡ f → ⊥) → (b : ℕ) → has_node (IndexOf g b) file_names ≡ has_node (IndexOf g b) names
  others_index g other b =
      blocks_other at f (size_of (whole leader_page (at place))) (IndexOf g b) (λ c j. refl) (added names (names_of (LeaderOf f) file_row)) (enumerate_from 0 file_row)
      ∙ added_other (IndexOf g b) (LeaderOf f) names 0 file_row (λ j lo hi. and_none (same_file g f) (b == j) (apart g other))

  pub others_pages : (g : FileId) → (g ≡ f → ⊥) → (n : ℕ) → has_node (DataOf g n) file_names ≡ has_node (DataOf g n) names
  others_pages g other n =
      blocks_other at f (size_of (whole leader_page (at place))) (DataOf g n) (λ b j. and_none (same_file g f) (n == 128 * b + j) (apart g other)) (added names (names_of (LeaderOf f) file_row)) (enumerate_from 0 file_row)
      ∙ leader_no_data f g names file_row n

  pub own_index : (b : ℕ) → has_node (IndexOf f b) names ≡ false → has_node (IndexOf f b) file_names ≡ not (slice_index_or file_row b 0 == 0)
  own_index b fresh =
      blocks_other at f (size_of (whole leader_page (at place))) (IndexOf f b) (λ c j. refl) (added names (names_of (LeaderOf f) file_row)) (enumerate_from 0 file_row)
      ∙ named_child (LeaderOf f) tt names b file_row fresh

pub result_passes : (home : ℕ) (at : Pages) (names : List Name) (part : Part) (rest : List Part) (P : List Name → Type 0) (r : Result (Option ℕ) VaultFault) → is_right home at names part ≡ true → IfOk r (IsJudged home at (added names (names_in at part)) rest P) → IfOk r (IsJudged home at names (part ∷ rest) P)
result_passes home at names part rest P (Ok o) h j = first_passes home at names part rest P o h j
result_passes home at names part rest P (Err e) h j = tt

-- the index pages of a leader that was read
pub blocks_are : (at : Pages) (f : FileId) (place : ℕ) (l : Leader) → whole leader_page (at place) ≡ Some l → row_of_node (LeaderOf f) (at place) ≡ Some l.index
    → filter_map (index_part f (size_of (whole leader_page (at place)))) (enumerate_from 0 (row_there (row_of_node (LeaderOf f) (at place)))) ≡ blocks_from f l.props.size l.index 0
blocks_are at f place l reads row_is = λ i. filter_map (index_part f (size_of (reads i))) (enumerate_from 0 (row_there (row_is i)))
