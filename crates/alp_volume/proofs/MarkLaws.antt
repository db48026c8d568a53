-- Places that are marked as they are named: a place is free just where a name of it is new.
use Rattle.std.specs.Prelude.{Bool, true, false, not, cond, ◌&&◌, ◌||◌, ◌==◌, nat_le, nat_lt, Option, None, Some, slice_index_or, slice_set, slice_index}
use Rattle.std.specs.List.{list_all, filter_map, enumerate_from, cons_option}
use Rattle.std.specs.Option.{option_to_list}
use Rattle.std.proofs.Common.{◌≡◌, ℕ, zero, suc, ◌+◌, ◌<◌, ◌≤◌, List, [], ◌∷◌, drop, length, inl, inr, refl, sym, ◌∙◌, ap, subst, arith, eq-eqb, ◌*◌, add-one, drop-cons}
use Rattle.std.proofs.lemmas.Bool.{eqb-true, cond-true, cond-false, leb-true, ltb-true, ltb-false, lt-ltb}
use Rattle.std.proofs.lemmas.List.{get_or-set_same, get_or-set_other, get_or_past, length-set}
use Rattle.alp_fields.proofs.FormLaws.{and_parts}
use Rattle.alp_files.specs.Cells.{same_file}
use Rattle.alp_pages.specs.Nodes.{Node, LeaderOf, IndexOf, DataOf, same_node}
use Rattle.alp_pages.specs.Volume.{child_of}
use Rattle.alp_pages.specs.Damage.{Name, has_node, has_place, is_new, are_new, added, child_name, names_of, is_below, is_within}
use Rattle.alp_volume.specs.Reached.{AreMarks, AreFresh, IsParent}
use Rattle.alp_pages.proofs.NamingLaws.{eqb_other}
use Rattle.alp_tables.proofs.FreeLaws.{free_within}

-- ---- tests

new_test : (a b n c : Bool) → n ≡ false → (a && b && not n && not c) ≡ not (not (a && b && not c))
new_test a b true c h = cc
new_test true true false true h = refl
new_test true true false false h = refl
new_test true false false c h = refl
new_test false b false c h = refl

old_test : (a b n c : Bool) → n ≡ true → (a && b && not n && not c) ≡ false
old_test a b false c h = cc
old_test true true true c h = refl
old_test true false true c h = refl
old_test false b true c h = refl

taken_test : (a b : Bool) → not (a && b && not true) ≡ true
taken_test true true = refl
taken_test true false = refl
taken_test false b = refl

and_true : (a : Bool) → (a && true) ≡ a
and_true true = refl
and_true false = refl

-- what a test answers, by what follows of each answer
pub answered : (r t : Bool) → (r ≡ true → t ≡ false) → (r ≡ false → t ≡ true) → r ≡ not t
answered true true one two = let wrong = one refl in cc
answered true false one two = refl
answered false true one two = refl
answered false false one two = let wrong = two refl in cc

-- ---- marks and names

pub new_by : (home : ℕ) (names : List Name) (taken : List Bool) (k : Node) (p : ℕ) → AreMarks home names taken → has_node k names ≡ false → is_new home names (k, p) ≡ not (slice_index_or taken p true)
new_by home names taken k p marks fresh = new_test (nat_le 257 p) (nat_lt p home) (has_node k names) (has_place p names) fresh ∙ ap not (sym (marks.says p))

pub old_by : (home : ℕ) (names : List Name) (k : Node) (p : ℕ) → has_node k names ≡ true → is_new home names (k, p) ≡ false
old_by home names k p there = old_test (nat_le 257 p) (nat_lt p home) (has_node k names) (has_place p names) there

pub marked : (home : ℕ) (names : List Name) (taken : List Bool) (k : Node) (p : ℕ) → AreMarks home names taken → slice_index_or taken p true ≡ false → AreMarks home ((k, p) ∷ names) (slice_set taken p true)
marked home names taken k p marks free = record { long = length-set taken p true ∙ marks.long; says = λ q. go q (p == q) refl }
  where
    go : (q : ℕ) (t : Bool) → (p == q) ≡ t → slice_index_or (slice_set taken p true) q true ≡ not (nat_le 257 q && nat_lt q home && not (t || has_place q names))
    go q true e =
        let same : p ≡ q = eqb-true p q e in
        ap (λ (x : ℕ). slice_index_or (slice_set taken p true) x true) (sym same) ∙ get_or-set_same taken p true true (free_within taken p free) ∙ sym (taken_test (nat_le 257 q) (nat_lt q home))
    go q false e = get_or-set_other taken p q true true (λ s. let yes : (p == q) ≡ true = eq-eqb p q (sym s) in cc) ∙ marks.says q

-- ---- rows of places

cons_new : (home : ℕ) (names : List Name) (o : Option Name) (xs : List Name) → are_new home names (cons_option o xs) ≡ (are_new home names (option_to_list o) && are_new home (added names (option_to_list o)) xs)
cons_new home names None xs = refl
cons_new home names (Some x) xs = ap (λ (b : Bool). b && are_new home (x ∷ names) xs) (sym (and_true (is_new home names x)))

cons_added : (names : List Name) (o : Option Name) (xs : List Name) → added names (cons_option o xs) ≡ added (added names (option_to_list o)) xs
cons_added names None xs = refl
cons_added names (Some x) xs = refl

and_false : (a : Bool) → (a && false) ≡ false
and_false true = refl
and_false false = refl

pub children_apart : (k : Node) → IsParent k → (i j : ℕ) → (i ≡ j → ⊥) → same_node (child_of k j) (child_of k i) ≡ false
children_apart (LeaderOf f) is i j ne = ap (λ (b : Bool). same_file f f && b) (eqb_other j i (λ e. ne (sym e))) ∙ and_false (same_file f f)
children_apart (IndexOf f b) is i j ne = ap (λ (t : Bool). same_file f f && t) (eqb_other (128 * b + j) (128 * b + i) (λ e. ne (omega arith))) ∙ and_false (same_file f f)
children_apart (DataOf f n) is i j ne = absurd is

-- the others stay as they were
still_fresh : (k : Node) → IsParent k → (names : List Name) (i p j : ℕ) → (i ≡ j → ⊥) → has_node (child_of k j) names ≡ false → has_node (child_of k j) (added names (option_to_list (child_name k (i, p)))) ≡ false
still_fresh k is names i p j ne h = go (p == 0)
  where
    go : (t : Bool) → has_node (child_of k j) (added names (option_to_list (cond t None (Some (child_of k i, p))))) ≡ false
    go true = h
    go false = ap (λ (b : Bool). b || has_node (child_of k j) names) (children_apart k is i j ne) ∙ h

-- how far a row is marked
pub record RowLeft (home limit : ℕ) (names : List Name) (k : Node) (row : List ℕ) (i : ℕ) (taken : List Bool) : Type 0 where
  pub before : List Name
  pub within : list_all (is_below limit) (enumerate_from 0 row) ≡ list_all (is_below limit) (enumerate_from i (drop i row))
  pub new : are_new home names (names_of k row) ≡ are_new home before (filter_map (child_name k) (enumerate_from i (drop i row)))
  pub named : added names (names_of k row) ≡ added before (filter_map (child_name k) (enumerate_from i (drop i row)))
  pub marks : AreMarks home before taken
  pub fresh : (j : ℕ) → i ≤ j → has_node (child_of k j) before ≡ false

pub row_begins : (home limit : ℕ) (names : List Name) (k : Node) (row : List ℕ) (taken : List Bool) → AreMarks home names taken → AreFresh k names → RowLeft home limit names k row 0 taken
row_begins home limit names k row taken marks fresh = record { before = names; within = refl; new = refl; named = refl; marks = marks; fresh = λ j low. fresh.children j }

module _ (home limit : ℕ) (names : List Name) (k : Node) (row : List ℕ) (i : ℕ) (taken : List Bool) (left : RowLeft home limit names k row i taken) (parent : IsParent k) (low : i < length row) where
  abbrev one : ℕ × ℕ
  one = (i, slice_index row i)

  rest_is : enumerate_from i (drop i row) ≡ one ∷ enumerate_from (i + 1) (drop (i + 1) row)
  rest_is = ap (enumerate_from i) (drop-cons row i 0 low ∙ ap (λ (n : ℕ). slice_index row i ∷ drop n row) (sym (add-one i)))

  within_is : list_all (is_below limit) (enumerate_from 0 row) ≡ (is_below limit one && list_all (is_below limit) (enumerate_from (i + 1) (drop (i + 1) row)))
  within_is = left.within ∙ ap (list_all (is_below limit)) rest_is

  new_is : are_new home names (names_of k row) ≡ (are_new home left.before (option_to_list (child_name k one)) && are_new home (added left.before (option_to_list (child_name k one))) (filter_map (child_name k) (enumerate_from (i + 1) (drop (i + 1) row))))
  new_is = left.new ∙ ap (λ es. are_new home left.before (filter_map (child_name k) es)) rest_is ∙ cons_new home left.before (child_name k one) (filter_map (child_name k) (enumerate_from (i + 1) (drop (i + 1) row)))

  pub row_more : (new : List Bool) → true ≡ (is_below limit one && are_new home left.before (option_to_list (child_name k one))) → AreMarks home (added left.before (option_to_list (child_name k one))) new → RowLeft home limit names k row (i + 1) new
  row_more new right marks =
      let parts = and_parts (is_below limit one) (are_new home left.before (option_to_list (child_name k one))) (sym right) in
      record {
        before = added left.before (option_to_list (child_name k one));
        within = within_is ∙ ap (λ (b : Bool). b && list_all (is_below limit) (enumerate_from (i + 1) (drop (i + 1) row))) parts.0;
        new = new_is ∙ ap (λ (b : Bool). b && are_new home (added left.before (option_to_list (child_name k one))) (filter_map (child_name k) (enumerate_from (i + 1) (drop (i + 1) row)))) parts.1;
        named = left.named ∙ ap (λ es. added left.before (filter_map (child_name k) es)) rest_is ∙ cons_added left.before (child_name k one) (filter_map (child_name k) (enumerate_from (i + 1) (drop (i + 1) row)));
        marks = marks;
        fresh = λ j more. still_fresh k parent left.before i (slice_index row i) j (omega arith) (left.fresh j (omega arith));
      }

  pub row_stops : false ≡ (is_below limit one && are_new home left.before (option_to_list (child_name k one))) → false ≡ (is_within limit (Some row) && are_new home names (names_of k row))
  row_stops wrong = go (is_below limit one) (are_new home left.before (option_to_list (child_name k one))) refl refl wrong
    where
      go : (a b : Bool) → is_below limit one ≡ a → are_new home left.before (option_to_list (child_name k one)) ≡ b → false ≡ (a && b) → false ≡ (is_within limit (Some row) && are_new home names (names_of k row))
      go true true e d h = cc
      go true false e d h =
          sym (ap (λ (b : Bool). is_within limit (Some row) && b) (new_is ∙ ap (λ (b : Bool). b && are_new home (added left.before (option_to_list (child_name k one))) (filter_map (child_name k) (enumerate_from (i + 1) (drop (i + 1) row)))) d) ∙ and_false (is_within limit (Some row)))
      go false b e d h =
          sym (ap (λ (t : Bool). t && are_new home names (names_of k row)) (within_is ∙ ap (λ (t : Bool). t && list_all (is_below limit) (enumerate_from (i + 1) (drop (i + 1) row))) e))

-- at the end of the row
past_end : (row : List ℕ) (i : ℕ) → length row ≤ i → drop i row ≡ []
past_end [] zero h = refl
past_end [] (suc i) h = refl
past_end (x ∷ xs) zero h = absurd (omega arith)
past_end (x ∷ xs) (suc i) h = past_end xs i (omega arith)

pub row_done : (home limit : ℕ) (names : List Name) (k : Node) (row : List ℕ) (i : ℕ) (taken : List Bool) → RowLeft home limit names k row i taken → length row ≤ i → true ≡ (is_within limit (Some row) && are_new home names (names_of k row))
row_done home limit names k row i taken left all =
    let none : drop i row ≡ [] = past_end row i all in
    let one : is_within limit (Some row) ≡ true = left.within ∙ ap (λ (xs : List ℕ). list_all (is_below limit) (enumerate_from i xs)) none in
    let two : are_new home names (names_of k row) ≡ true = left.new ∙ ap (λ (xs : List ℕ). are_new home left.before (filter_map (child_name k) (enumerate_from i xs))) none in
    sym (ap (λ (b : Bool). b && are_new home names (names_of k row)) one ∙ two)

pub row_marked : (home limit : ℕ) (names : List Name) (k : Node) (row : List ℕ) (i : ℕ) (taken : List Bool) → RowLeft home limit names k row i taken → length row ≤ i → AreMarks home (added names (names_of k row)) taken
row_marked home limit names k row i taken left all =
    let none : drop i row ≡ [] = past_end row i all in
    let end : added names (names_of k row) ≡ left.before = left.named ∙ ap (λ (xs : List ℕ). added left.before (filter_map (child_name k) (enumerate_from i xs))) none in
    subst (λ (ns : List Name). AreMarks home ns taken) (sym end) left.marks

-- ---- one place

pub one_none : (home limit : ℕ) (names : List Name) (k : Node) (j p : ℕ) → p ≡ 0 → true ≡ (is_below limit (j, p) && are_new home names (option_to_list (child_name k (j, p))))
one_none home limit names k j p e =
    let yes : (p == 0) ≡ true = eq-eqb p 0 e in
    sym (ap (λ (t : Bool). (t || nat_lt j limit) && are_new home names (option_to_list (cond t None (Some (child_of k j, p))))) yes)

pub one_past : (home limit : ℕ) (names : List Name) (k : Node) (j p : ℕ) → (p ≡ 0 → ⊥) → limit ≤ j → false ≡ (is_below limit (j, p) && are_new home names (option_to_list (child_name k (j, p))))
one_past home limit names k j p ne past =
    let no : (p == 0) ≡ false = eqb_other p 0 ne in
    let late : nat_lt j limit ≡ false = not_below j limit past in
    sym (ap (λ (t : Bool). t && are_new home names (option_to_list (child_name k (j, p)))) (ap (λ (t : Bool). t || nat_lt j limit) no ∙ late))
  where
    not_below : (a b : ℕ) → b ≤ a → nat_lt a b ≡ false
    not_below a b h = go (nat_lt a b) refl
      where
        go : (t : Bool) → nat_lt a b ≡ t → t ≡ false
        go true e = let wrong : a < b = ltb-true a b e in absurd (omega arith)
        go false e = refl

pub one_is : (home limit : ℕ) (names : List Name) (taken : List Bool) (k : Node) (j p : ℕ) → AreMarks home names taken → has_node (child_of k j) names ≡ false → (p ≡ 0 → ⊥) → j < limit
    → not (slice_index_or taken p true) ≡ (is_below limit (j, p) && are_new home names (option_to_list (child_name k (j, p))))
one_is home limit names taken k j p marks fresh ne low =
    let no : (p == 0) ≡ false = eqb_other p 0 ne in
    let early : nat_lt j limit ≡ true = lt-ltb j limit low in
    sym (new_by home names taken (child_of k j) p marks fresh)
    ∙ sym (and_true (is_new home names (child_of k j, p)))
    ∙ sym (ap (λ (t : Bool). (t || nat_lt j limit) && are_new home names (option_to_list (cond t None (Some (child_of k j, p))))) no ∙ ap (λ (t : Bool). t && (is_new home names (child_of k j, p) && true)) early)

pub one_added : (home : ℕ) (names : List Name) (taken : List Bool) (k : Node) (j p : ℕ) → AreMarks home names taken → (p ≡ 0 → ⊥) → slice_index_or taken p true ≡ false → AreMarks home (added names (option_to_list (child_name k (j, p)))) (slice_set taken p true)
one_added home names taken k j p marks ne free =
    let no : (p == 0) ≡ false = eqb_other p 0 ne in
    subst (λ (t : Bool). AreMarks home (added names (option_to_list (cond t None (Some (child_of k j, p))))) (slice_set taken p true)) (sym no) (marked home names taken (child_of k j) p marks free)

pub none_added : (home : ℕ) (names : List Name) (taken : List Bool) (k : Node) (j p : ℕ) → AreMarks home names taken → p ≡ 0 → AreMarks home (added names (option_to_list (child_name k (j, p)))) taken
none_added home names taken k j p marks e =
    let yes : (p == 0) ≡ true = eq-eqb p 0 e in
    subst (λ (t : Bool). AreMarks home (added names (option_to_list (cond t None (Some (child_of k j, p))))) taken) (sym yes) marks
