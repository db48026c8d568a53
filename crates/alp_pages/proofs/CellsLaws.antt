-- The cells that pages without damage stand for, as a map, and what it has at each key.
use Rattle.std.specs.Prelude.{Bool, true, false, cond, ◌==◌, Option, None, Some, option_map, sum_by, map as list_map}
use Rattle.std.specs.Option.{option_and_then, option_to_list}
use Rattle.std.specs.List.{cons_option, flat_map, filter_map, range_with_len, enumerate_from}
use Rattle.std.specs.Ordering.{eq_by_cmp}
use Rattle.std.specs.FinMap as map
use Rattle.std.specs.FinMap.{get-insert, get-empty, len-entries, len-empty}
use Rattle.std.proofs.Common.{◌≡◌, ℕ, zero, suc, ◌+◌, ◌-◌, ◌*◌, List, [], ◌∷◌, ◌++◌, length, refl, sym, ◌∙◌, ap, subst, arith}
use Rattle.std.proofs.lemmas.List.Sums.{sum_by-cons, sum_by-append}
use Rattle.alp_base.specs.declared.ids.FileId.{FileId}
use Rattle.alp_base.specs.declared.key.Key.{Key}
use Rattle.alp_base.specs.declared.key.Key.TheVariants.{Leader, PageOf, OwnerOf}
use Rattle.alp_base.specs.Keys.{key_cmp}
use Rattle.alp_base.specs.KeyLaws.{keys_total}
use Rattle.alp_fields.specs.Forms.{whole}
use Rattle.alp_fields.proofs.FormLaws.{and_parts}
use Rattle.alp_base.specs.declared.cell.Cell.{Cell}
use Rattle.alp_base.specs.declared.cell.Cell.TheVariants as cell
use Rattle.alp_base.specs.declared.cell.Props.{Props}
use Rattle.alp_base.specs.declared.cell.OwnerRecord.{OwnerRecord}
use Rattle.alp_files.specs.Cells.{Cells, no_props, same_name}
use Rattle.alp_files.specs.Files.{IsOfKind, cost, charge_of}
use Rattle.alp_files.proofs.ChargeLemmas.{AreKinds, cost_in, charge-put, charge-owner, charge-page}
use Rattle.alp_files.proofs.SameLemmas.{same_name-true, same_name-itself, same_owner_key, same_key-itself, same_key-true}
use Rattle.alp_pages.specs.declared.leader.Leader.{Leader as LeaderRecord}
use Rattle.alp_pages.specs.Leader.{leader_page}
use Rattle.alp_pages.specs.declared.entry.Entry.{Entry}
use Rattle.alp_pages.specs.Nodes.{Node, LeaderOf, IndexOf, DataOf, same_node}
use Rattle.alp_pages.specs.Pages.{Pages, entry_in, row_in}
use Rattle.alp_pages.specs.Volume.{child_of, row_of_node}
use Rattle.alp_pages.specs.Damage.{Part, Header, Slot, OwnerRow, NodePage, Name, entry_there, owner_there, row_there, leader_at, leader_name, child_name, names_in, parts_of, parts, cost_of, charge_in, are_new, added, index_part, size_of, names_after}
use Rattle.alp_pages.proofs.NodeTests.{leaders_alike, pages_alike}
use Rattle.alp_pages.proofs.NamesLaws.{places_by, AreRight, new_parts, no_node}
use Rattle.alp_pages.proofs.SearchLaws.{is_here, find_below}

abbrev is_key : Key → Key → Bool
is_key = eq_by_cmp key_cmp

abbrev pub props_or : Option LeaderRecord → Props
props_or None = no_props
props_or (Some l) = l.props

-- what stands at a leader's place, and at a page's
abbrev pub leader_cell : Pages → ℕ → Cell
leader_cell at p = cell.Leader (props_or (whole leader_page (at p)))

abbrev pub page_cell : Pages → ℕ → Cell
page_cell at p = cell.Page (at p)

abbrev with_node : Pages → Node → ℕ → Cells → Cells
with_node at (LeaderOf f) p m = map.insert m (Leader f) (leader_cell at p)
with_node at (IndexOf f b) p m = m
with_node at (DataOf f n) p m = map.insert m (PageOf f n) (page_cell at p)

abbrev pub file_cells : Pages → List Name → Cells
file_cells at [] = map.empty
file_cells at (x ∷ xs) = with_node at x.0 x.1 (file_cells at xs)

abbrev with_owner : Option OwnerRecord → Cells → Cells
with_owner None m = m
with_owner (Some o) m = map.insert m (OwnerOf o.name) (cell.Owner o)

abbrev pub with_owners : Pages → ℕ → Cells → Cells
with_owners at zero m = m
with_owners at (suc r) m = with_owner (owner_there (row_in at r)) (with_owners at r m)

-- ---- what stands at each key

leader_got : (at : Pages) (xs : List Name) (f : FileId) → map.get (file_cells at xs) (Leader f) ≡ option_map (leader_cell at) ((places_by xs).of (LeaderOf f))
leader_got at [] f = get-empty key_cmp (Leader f)
leader_got at ((IndexOf g b, p) ∷ xs) f = leader_got at xs f
leader_got at ((DataOf g n, p) ∷ xs) f = get-insert keys_total (file_cells at xs) (PageOf g n) (page_cell at p) (Leader f) ∙ leader_got at xs f
leader_got at ((LeaderOf g, p) ∷ xs) f =
    get-insert keys_total (file_cells at xs) (Leader g) (leader_cell at p) (Leader f)
    ∙ ap (λ (t : Bool). cond t (Some (leader_cell at p)) (map.get (file_cells at xs) (Leader f))) (sym (leaders_alike f g))
    ∙ go (same_node (LeaderOf f) (LeaderOf g)) (leader_got at xs f)
  where
    go : (t : Bool) → map.get (file_cells at xs) (Leader f) ≡ option_map (leader_cell at) ((places_by xs).of (LeaderOf f))
        → cond t (Some (leader_cell at p)) (map.get (file_cells at xs) (Leader f)) ≡ option_map (leader_cell at) (cond t (Some p) ((places_by xs).of (LeaderOf f)))
    go true rest = refl
    go false rest = rest

page_got : (at : Pages) (xs : List Name) (f : FileId) (n : ℕ) → map.get (file_cells at xs) (PageOf f n) ≡ option_map (page_cell at) ((places_by xs).of (DataOf f n))
page_got at [] f n = get-empty key_cmp (PageOf f n)
page_got at ((IndexOf g b, p) ∷ xs) f n = page_got at xs f n
page_got at ((LeaderOf g, p) ∷ xs) f n = get-insert keys_total (file_cells at xs) (Leader g) (leader_cell at p) (PageOf f n) ∙ page_got at xs f n
page_got at ((DataOf g j, p) ∷ xs) f n =
    get-insert keys_total (file_cells at xs) (PageOf g j) (page_cell at p) (PageOf f n)
    ∙ ap (λ (t : Bool). cond t (Some (page_cell at p)) (map.get (file_cells at xs) (PageOf f n))) (sym (pages_alike f g n j))
    ∙ go (same_node (DataOf f n) (DataOf g j)) (page_got at xs f n)
  where
    go : (t : Bool) → map.get (file_cells at xs) (PageOf f n) ≡ option_map (page_cell at) ((places_by xs).of (DataOf f n))
        → cond t (Some (page_cell at p)) (map.get (file_cells at xs) (PageOf f n)) ≡ option_map (page_cell at) (cond t (Some p) ((places_by xs).of (DataOf f n)))
    go true rest = refl
    go false rest = rest

no_owner_got : (at : Pages) (xs : List Name) (o : List ℕ) → map.get (file_cells at xs) (OwnerOf o) ≡ None
no_owner_got at [] o = get-empty key_cmp (OwnerOf o)
no_owner_got at ((IndexOf g b, p) ∷ xs) o = no_owner_got at xs o
no_owner_got at ((LeaderOf g, p) ∷ xs) o = get-insert keys_total (file_cells at xs) (Leader g) (leader_cell at p) (OwnerOf o) ∙ no_owner_got at xs o
no_owner_got at ((DataOf g j, p) ∷ xs) o = get-insert keys_total (file_cells at xs) (PageOf g j) (page_cell at p) (OwnerOf o) ∙ no_owner_got at xs o

-- owners are beside files
with_owner_leader : (r : Option OwnerRecord) (m : Cells) (f : FileId) → map.get (with_owner r m) (Leader f) ≡ map.get m (Leader f)
with_owner_leader None m f = refl
with_owner_leader (Some o) m f = get-insert keys_total m (OwnerOf o.name) (cell.Owner o) (Leader f)

with_owner_page : (r : Option OwnerRecord) (m : Cells) (f : FileId) (n : ℕ) → map.get (with_owner r m) (PageOf f n) ≡ map.get m (PageOf f n)
with_owner_page None m f n = refl
with_owner_page (Some o) m f n = get-insert keys_total m (OwnerOf o.name) (cell.Owner o) (PageOf f n)

owners_leader : (at : Pages) (n : ℕ) (m : Cells) (f : FileId) → map.get (with_owners at n m) (Leader f) ≡ map.get m (Leader f)
owners_leader at zero m f = refl
owners_leader at (suc r) m f = with_owner_leader (owner_there (row_in at r)) (with_owners at r m) f ∙ owners_leader at r m f

owners_page : (at : Pages) (r : ℕ) (m : Cells) (f : FileId) (n : ℕ) → map.get (with_owners at r m) (PageOf f n) ≡ map.get m (PageOf f n)
owners_page at zero m f n = refl
owners_page at (suc r) m f n = with_owner_page (owner_there (row_in at r)) (with_owners at r m) f n ∙ owners_page at r m f n

-- the name in a row, and its cell
abbrev pub row_name : Pages → ℕ → Option (List ℕ)
row_name at r = option_map (λ (o : OwnerRecord). o.name) (owner_there (row_in at r))

abbrev pub row_cell : Pages → ℕ → Option Cell
row_cell at r = option_map cell.Owner (owner_there (row_in at r))

owners_alike : (a b : List ℕ) → same_name a b ≡ is_key (OwnerOf a) (OwnerOf b)
owners_alike a b = go (same_name a b) refl (is_key (OwnerOf a) (OwnerOf b)) refl
  where
    go : (t : Bool) → same_name a b ≡ t → (u : Bool) → is_key (OwnerOf a) (OwnerOf b) ≡ u → t ≡ u
    go true e true d = refl
    go false e false d = refl
    go true e false d = let same : a ≡ b = same_name-true a b e in let yes : is_key (OwnerOf a) (OwnerOf b) ≡ true = ap (λ (x : List ℕ). is_key (OwnerOf x) (OwnerOf b)) same ∙ same_key-itself (OwnerOf b) in cc
    go false e true d = let same : a ≡ b = same_owner_key a b d in let yes : same_name a b ≡ true = ap (λ (x : List ℕ). same_name x b) same ∙ same_name-itself b in cc

owner_got : (at : Pages) (n : ℕ) (m : Cells) (o : List ℕ) → map.get m (OwnerOf o) ≡ None → map.get (with_owners at n m) (OwnerOf o) ≡ option_and_then (row_cell at) (find_below same_name (row_name at) o n)
owner_got at zero m o none = none
owner_got at (suc r) m o none = go (owner_there (row_in at r)) refl (owner_got at r m o none)
  where
    go : (x : Option OwnerRecord) → owner_there (row_in at r) ≡ x → map.get (with_owners at r m) (OwnerOf o) ≡ option_and_then (row_cell at) (find_below same_name (row_name at) o r)
        → map.get (with_owner x (with_owners at r m)) (OwnerOf o)
        ≡ option_and_then (row_cell at) (cond (is_here same_name o (option_map (λ (y : OwnerRecord). y.name) x)) (Some r) (find_below same_name (row_name at) o r))
    go None e rest = rest
    go (Some x) e rest =
        get-insert keys_total (with_owners at r m) (OwnerOf x.name) (cell.Owner x) (OwnerOf o)
        ∙ ap (λ (t : Bool). cond t (Some (cell.Owner x)) (map.get (with_owners at r m) (OwnerOf o))) (sym (owners_alike o x.name))
        ∙ either (same_name o x.name)
      where
        either : (t : Bool) → cond t (Some (cell.Owner x)) (map.get (with_owners at r m) (OwnerOf o)) ≡ option_and_then (row_cell at) (cond t (Some r) (find_below same_name (row_name at) o r))
        either true = ap (option_map cell.Owner) (sym e)
        either false = rest

-- the cells of pages whose names are these
abbrev pub cells_of : Pages → List Name → Cells
cells_of at xs = with_owners at 256 (file_cells at xs)

pub got_leader : (at : Pages) (xs : List Name) (f : FileId) → map.get (cells_of at xs) (Leader f) ≡ option_map (leader_cell at) ((places_by xs).of (LeaderOf f))
got_leader at xs f = owners_leader at 256 (file_cells at xs) f ∙ leader_got at xs f

pub got_page : (at : Pages) (xs : List Name) (f : FileId) (n : ℕ) → map.get (cells_of at xs) (PageOf f n) ≡ option_map (page_cell at) ((places_by xs).of (DataOf f n))
got_page at xs f n = owners_page at 256 (file_cells at xs) f n ∙ page_got at xs f n

pub got_owner : (at : Pages) (xs : List Name) (o : List ℕ) → map.get (cells_of at xs) (OwnerOf o) ≡ option_and_then (row_cell at) (find_below same_name (row_name at) o 256)
got_owner at xs o = owner_got at 256 (file_cells at xs) o (no_owner_got at xs o)

-- ---- what they cost

kinds_put : (m : Cells) (k : Key) (c : Cell) → IsOfKind k c → AreKinds (map.get m) → AreKinds (map.get (map.insert m k c))
kinds_put m k c is kinds q d h = go (is_key q k) refl (sym (get-insert keys_total m k c q) ∙ h)
  where
    go : (t : Bool) → is_key q k ≡ t → cond t (Some c) (map.get m q) ≡ Some d → IsOfKind q d
    go true e r =
        let key : k ≡ q = sym (same_key-true q k e) in
        let same : c ≡ d = cc in
        subst (λ (x : Cell). IsOfKind q x) same (subst (λ (x : Key). IsOfKind x c) key is)
    go false e r = kinds q d r

empty_kinds : AreKinds (map.get (map.empty {X = Cell} {R = key_cmp}))
empty_kinds k c h = let none : map.get (map.empty {X = Cell} {R = key_cmp}) k ≡ None = get-empty key_cmp k in cc

node_kinds : (at : Pages) (k : Node) (p : ℕ) (m : Cells) → AreKinds (map.get m) → AreKinds (map.get (with_node at k p m))
node_kinds at (LeaderOf f) p m h = kinds_put m (Leader f) (leader_cell at p) tt h
node_kinds at (IndexOf f b) p m h = h
node_kinds at (DataOf f n) p m h = kinds_put m (PageOf f n) (page_cell at p) tt h

file_kinds : (at : Pages) (xs : List Name) → AreKinds (map.get (file_cells at xs))
file_kinds at [] = empty_kinds
file_kinds at (x ∷ xs) = node_kinds at x.0 x.1 (file_cells at xs) (file_kinds at xs)

owner_kinds : (r : Option OwnerRecord) (m : Cells) → AreKinds (map.get m) → AreKinds (map.get (with_owner r m))
owner_kinds None m h = h
owner_kinds (Some o) m h = kinds_put m (OwnerOf o.name) (cell.Owner o) refl h

owners_kinds : (at : Pages) (n : ℕ) (m : Cells) → AreKinds (map.get m) → AreKinds (map.get (with_owners at n m))
owners_kinds at zero m h = h
owners_kinds at (suc r) m h = owner_kinds (owner_there (row_in at r)) (with_owners at r m) (owners_kinds at r m h)

-- each cell is of its key's kind
pub cells_kinds : (at : Pages) (xs : List Name) → AreKinds (map.get (cells_of at xs))
cells_kinds at xs = owners_kinds at 256 (file_cells at xs) (file_kinds at xs)

owner_costs : (r : Option OwnerRecord) (m : Cells) (name : List ℕ) → AreKinds (map.get m) → charge_of (with_owner r m) name ≡ charge_of m name
owner_costs None m name h = refl
owner_costs (Some o) m name h = charge-owner m h o.name o name

owners_cost : (at : Pages) (n : ℕ) (m : Cells) (name : List ℕ) → AreKinds (map.get m) → charge_of (with_owners at n m) name ≡ charge_of m name
owners_cost at zero m name h = refl
owners_cost at (suc r) m name h = owner_costs (owner_there (row_in at r)) (with_owners at r m) name (owners_kinds at r m h) ∙ owners_cost at r m name h

-- what a name costs
abbrev node_cost : Pages → List ℕ → Node → ℕ → ℕ
node_cost at name (LeaderOf f) p = cost name (leader_cell at p)
node_cost at name (IndexOf f b) p = 0
node_cost at name (DataOf f n) p = 0

abbrev name_cost : Pages → List ℕ → Name → ℕ
name_cost at name x = node_cost at name x.0 x.1

-- each is named once
abbrev AreFresh : List Name → Type 0
AreFresh [] = Unit {0}
AreFresh (x ∷ xs) = ((places_by xs).of x.0 ≡ None) × AreFresh xs

charge_empty : (name : List ℕ) → charge_of (map.empty {X = Cell} {R = key_cmp}) name ≡ 0
charge_empty name = ap (sum_by (λ (e : Key × Cell). cost name e.1)) (nothing (map.entries (map.empty {X = Cell} {R = key_cmp})) (sym (len-entries (map.empty {X = Cell} {R = key_cmp})) ∙ len-empty key_cmp Cell))
  where
    nothing : (es : List (Key × Cell)) → length es ≡ 0 → es ≡ []
    nothing [] e = refl
    nothing (x ∷ xs) e = absurd (omega arith)

node_costs : (at : Pages) (k : Node) (p : ℕ) (xs : List Name) (name : List ℕ) → (places_by xs).of k ≡ None → charge_of (with_node at k p (file_cells at xs)) name ≡ node_cost at name k p + charge_of (file_cells at xs) name
node_costs at (IndexOf f b) p xs name none = omega arith
node_costs at (DataOf f n) p xs name none = omega (arith, charge-page (file_cells at xs) (file_kinds at xs) f n (at p) name)
node_costs at (LeaderOf f) p xs name none =
    let nothing : cost_in name (map.get (file_cells at xs) (Leader f)) ≡ 0 = ap (cost_in name) (leader_got at xs f ∙ ap (option_map (leader_cell at)) none) in
    omega (arith, nothing, charge-put (file_cells at xs) (Leader f) (leader_cell at p) name)

files_cost : (at : Pages) (xs : List Name) (name : List ℕ) → AreFresh xs → charge_of (file_cells at xs) name ≡ sum_by (name_cost at name) xs
files_cost at [] name fresh = charge_empty name
files_cost at (x ∷ xs) name fresh = omega (arith, node_costs at x.0 x.1 xs name fresh.0, files_cost at xs name fresh.1, sum_by-cons (name_cost at name) x xs)

-- ---- and the sum over the directory

fresh_added : (home : ℕ) (before xs : List Name) → AreFresh before → are_new home before xs ≡ true → AreFresh (added before xs)
fresh_added home before [] fresh h = fresh
fresh_added home before (x ∷ xs) fresh h =
    let both = and_parts _ _ h in
    fresh_added home (x ∷ before) xs (no_node x.0 before (new_parts home before x both.0).node, fresh) both.1

pub fresh_after : (home : ℕ) (at : Pages) (before : List Name) (ps : List Part) → AreFresh before → AreRight home at before ps → AreFresh (names_after at before ps)
fresh_after home at before [] fresh h = fresh
fresh_after home at before (part ∷ rest) fresh h = fresh_after home at (added before (names_in at part)) rest (fresh_added home before (names_in at part) fresh (and_parts _ _ h.0).1) h.1

sum_added : (g : Name → ℕ) (before xs : List Name) → sum_by g (added before xs) ≡ sum_by g before + sum_by g xs
sum_added g before [] = omega arith
sum_added g before (x ∷ xs) = omega (arith, sum_added g (x ∷ before) xs, sum_by-cons g x before, sum_by-cons g x xs)

sum_after : (g : Name → ℕ) (at : Pages) (before : List Name) (ps : List Part) → sum_by g (names_after at before ps) ≡ sum_by g before + sum_by (λ part. sum_by g (names_in at part)) ps
sum_after g at before [] = omega arith
sum_after g at before (part ∷ rest) =
    omega (arith, sum_after g at (added before (names_in at part)) rest, sum_added g before (names_in at part), sum_by-cons (λ (p : Part). sum_by g (names_in at p)) part rest)

module _ (at : Pages) (name : List ℕ) where
  abbrev part_cost : Part → ℕ
  part_cost part = sum_by (name_cost at name) (names_in at part)

  child_free : (k : Node) (j p : ℕ) → node_cost at name (child_of k j) p ≡ 0
  child_free (LeaderOf f) j p = refl
  child_free (IndexOf f b) j p = refl
  child_free (DataOf f n) j p = refl

  names_free : (k : Node) (xs : List (ℕ × ℕ)) → sum_by (name_cost at name) (filter_map (child_name k) xs) ≡ 0
  names_free k [] = refl
  names_free k (x ∷ xs) = go (x.1 == 0) (names_free k xs)
    where
      go : (t : Bool) → sum_by (name_cost at name) (filter_map (child_name k) xs) ≡ 0 → sum_by (name_cost at name) (cons_option (cond {A = Option Name} t None (Some (child_of k x.0, x.1))) (filter_map (child_name k) xs)) ≡ 0
      go true rest = rest
      go false rest = omega (arith, child_free k x.0 x.1, rest, sum_by-cons (name_cost at name) (child_of k x.0, x.1) (filter_map (child_name k) xs))

  -- no page of a node names a leader
  page_free : (k : Node) (limit p : ℕ) → part_cost (NodePage k limit p) ≡ 0
  page_free k limit p = names_free k (enumerate_from 0 (row_there (row_of_node k (at p))))

  indices_free : (f : FileId) (size : ℕ) (xs : List (ℕ × ℕ)) → sum_by part_cost (filter_map (index_part f size) xs) ≡ 0
  indices_free f size [] = refl
  indices_free f size (x ∷ xs) = go (x.1 == 0) (indices_free f size xs)
    where
      go : (t : Bool) → sum_by part_cost (filter_map (index_part f size) xs) ≡ 0 → sum_by part_cost (cons_option (cond {A = Option Part} t None (Some (NodePage (IndexOf f x.0) (size - 128 * x.0) x.1))) (filter_map (index_part f size) xs)) ≡ 0
      go true rest = rest
      go false rest =
          omega (arith, page_free (IndexOf f x.0) (size - 128 * x.0) x.1, rest, sum_by-cons part_cost (NodePage (IndexOf f x.0) (size - 128 * x.0) x.1) (filter_map (index_part f size) xs))

  parts_free : (o : Option Entry) → sum_by part_cost (parts_of at o) ≡ 0
  parts_free None = refl
  parts_free (Some e) =
      let others : List Part = filter_map (index_part e.file (size_of (whole leader_page (at e.place)))) (enumerate_from 0 (row_there (row_of_node (LeaderOf e.file) (at e.place)))) in
      omega (
        arith,
        page_free (LeaderOf e.file) 32 e.place,
        indices_free e.file (size_of (whole leader_page (at e.place))) (enumerate_from 0 (row_there (row_of_node (LeaderOf e.file) (at e.place)))),
        sum_by-cons part_cost (NodePage (LeaderOf e.file) 32 e.place) others,
      )

  -- an entry costs what its leader does
  cost_or : (o : Option LeaderRecord) → cost name (cell.Leader (props_or o)) ≡ cost_of name o
  cost_or (Some l) = refl
  cost_or None = nothing (same_name [] name)
    where
      nothing : (t : Bool) → cond {A = ℕ} t 0 0 ≡ 0
      nothing true = refl
      nothing false = refl

  slot_cost : (o : Option Entry) → sum_by (name_cost at name) (option_to_list (leader_name o)) ≡ cost_of name (leader_at at o)
  slot_cost None = refl
  slot_cost (Some e) = omega (arith, cost_or (whole leader_page (at e.place)), sum_by-cons (name_cost at name) (LeaderOf e.file, e.place) [])

  sum_map : (g : Part → ℕ) (f : ℕ → Part) (h : ℕ → ℕ) → ((s : ℕ) → g (f s) ≡ h s) → (xs : List ℕ) → sum_by g (list_map f xs) ≡ sum_by h xs
  sum_map g f h same [] = refl
  sum_map g f h same (x ∷ xs) = omega (arith, same x, sum_map g f h same xs, sum_by-cons g (f x) (list_map f xs), sum_by-cons h x xs)

  sum_flat : (f : ℕ → List Part) → ((s : ℕ) → sum_by part_cost (f s) ≡ 0) → (xs : List ℕ) → sum_by part_cost (flat_map f xs) ≡ 0
  sum_flat f none [] = refl
  sum_flat f none (x ∷ xs) = omega (arith, none x, sum_flat f none xs, sum_by-append part_cost (f x) (flat_map f xs))

  sum_none : (xs : List ℕ) → sum_by (λ (s : ℕ). 0) xs ≡ 0
  sum_none [] = refl
  sum_none (x ∷ xs) = omega (arith, sum_none xs, sum_by-cons (λ (s : ℕ). 0) x xs)

  abbrev entry_cost : ℕ → ℕ
  entry_cost s = cost_of name (leader_at at (entry_there (entry_in at s)))

  three_sums : (slots rows pages : List Part) (n : ℕ) → sum_by part_cost slots ≡ n → sum_by part_cost rows ≡ 0 → sum_by part_cost pages ≡ 0 → sum_by part_cost (Header ∷ (slots ++ (rows ++ pages))) ≡ n
  three_sums slots rows pages n one two three =
      omega (arith, one, two, three, sum_by-cons part_cost Header (slots ++ (rows ++ pages)), sum_by-append part_cost slots (rows ++ pages), sum_by-append part_cost rows pages)

  rows_free : (xs : List ℕ) → sum_by part_cost (list_map OwnerRow xs) ≡ 0
  rows_free xs = sum_map part_cost OwnerRow (λ s. 0) (λ s. refl) xs ∙ sum_none xs

  parts_cost : sum_by part_cost (parts at) ≡ charge_in at name
  unfolding parts charge_in
  parts_cost = three_sums (list_map Slot (range_with_len 0 4096)) (list_map OwnerRow (range_with_len 0 256)) (flat_map (λ s. parts_of at (entry_there (entry_in at s))) (range_with_len 0 4096))
      (sum_by entry_cost (range_with_len 0 4096)) (sum_map part_cost Slot entry_cost (λ s. slot_cost (entry_there (entry_in at s))) (range_with_len 0 4096)) (rows_free (range_with_len 0 256))
      (sum_flat (λ s. parts_of at (entry_there (entry_in at s))) (λ s. parts_free (entry_there (entry_in at s))) (range_with_len 0 4096))

  -- the cells cost what the leaders do that the directory names
  pub cells_cost : (home : ℕ) → AreRight home at [] (parts at) → charge_of (cells_of at (names_after at [] (parts at))) name ≡ charge_in at name
  cells_cost home right =
      let names : List Name = names_after at [] (parts at) in
      omega (
        arith,
        owners_cost at 256 (file_cells at names) name (file_kinds at names),
        files_cost at names name (fresh_after home at [] (parts at) tt right),
        sum_after (name_cost at name) at [] (parts at),
        parts_cost,
      )
