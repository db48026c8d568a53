-- The pages of a volume in the order in which damage is named, and the first of them that is outside the grammar.
use Rattle.std.specs.Prelude.{ℕ, ◌+◌, ◌-◌, ◌*◌, ◌/◌, Bool, true, false, not, ◌&&◌, ◌||◌, ◌==◌, nat_le, nat_lt, nat_eq, sum_by, List, [], ◌∷◌, ◌++◌, is_some, map as list_map, Option, None, Some, if◌then◌else◌}
use Rattle.std.specs.List.{list_any, list_all, flat_map, filter_map, range_with_len, enumerate_from}
use Rattle.std.specs.Option.{option_to_list}
use Rattle.std.specs.Cmp.Lexicographic.{pointwise}
use Rattle.alp_base.specs.declared.ids.FileId.{FileId}
use Rattle.alp_fields.specs.Forms.{whole}
use Rattle.alp_base.specs.declared.cell.OwnerRecord.{OwnerRecord}
use Rattle.alp_files.specs.Cells.{same_name}
use Rattle.alp_files.specs.Files.{cost}
use Rattle.alp_pages.specs.declared.leader.Leader.{Leader}
use Rattle.alp_pages.specs.Leader.{leader_page}
use Rattle.alp_pages.specs.declared.entry.Entry.{Entry}
use Rattle.alp_pages.specs.Nodes.{Node, LeaderOf, IndexOf, DataOf, same_node}
use Rattle.alp_pages.specs.Pages.{Pages, header_page, entry_in, row_in}
use Rattle.alp_pages.specs.Volume.{child_of, row_of_node, props_cell}

-- ---- what single entries and pages say, as far as they are in the grammar

abbrev pub entry_there : Option (Option Entry) → Option Entry
entry_there None = None
entry_there (Some e) = e

abbrev pub owner_there : Option (Option OwnerRecord) → Option OwnerRecord
owner_there None = None
owner_there (Some o) = o

abbrev pub leader_at : Pages → Option Entry → Option Leader
leader_at pages None = None
leader_at pages (Some e) = whole leader_page (pages e.place)

abbrev pub row_there : Option (List ℕ) → List ℕ
row_there None = []
row_there (Some row) = row

-- ---- what is judged, one part after the other

-- The header, an entry of the directory, a row of the owners' pages, or the page of a node at its place. The row of
-- places on that page names none from the limit on.
pub data Part : Type 0 where
  Header : Part
  Slot : (slot : ℕ) → Part
  OwnerRow : (row : ℕ) → Part
  NodePage : Node → (limit place : ℕ) → Part

-- the page that a part is on
abbrev pub place_of : Part → ℕ
place_of Header = 0
place_of (Slot slot) = 1 + slot / 32
place_of (OwnerRow row) = 129 + row / 2
place_of (NodePage k limit place) = place

-- a node and the place that a page gives it
abbrev pub Name : Type 0
Name = Node × ℕ

abbrev pub leader_name : Option Entry → Option Name
leader_name None = None
leader_name (Some e) = Some (LeaderOf e.file, e.place)

abbrev pub child_name : Node → ℕ × ℕ → Option Name
child_name k x = if x.1 == 0 then None else Some (child_of k x.0, x.1)

-- the places that a row of a node names
abbrev pub names_of : Node → List ℕ → List Name
names_of k row = filter_map (child_name k) (enumerate_from 0 row)

-- the places that a part names, in order
abbrev pub names_in : Pages → Part → List Name
names_in pages Header = []
names_in pages (Slot slot) = option_to_list (leader_name (entry_there (entry_in pages slot)))
names_in pages (OwnerRow row) = []
names_in pages (NodePage k limit place) = names_of k (row_there (row_of_node k (pages place)))

abbrev pub size_of : Option Leader → ℕ
size_of None = 0
size_of (Some l) = l.props.size

-- the index page of a block, which names no page from the size on
abbrev pub index_part : FileId → ℕ → ℕ × ℕ → Option Part
index_part f size x = if x.1 == 0 then None else Some (NodePage (IndexOf f x.0) (size - 128 * x.0) x.1)

-- a file's leader and its index pages
abbrev pub parts_of : Pages → Option Entry → List Part
parts_of pages None = []
parts_of pages (Some e) =
    NodePage (LeaderOf e.file) 32 e.place
    ∷ filter_map (index_part e.file (size_of (whole leader_page (pages e.place)))) (enumerate_from 0 (row_there (row_of_node (LeaderOf e.file) (pages e.place))))

-- Header, directory, owners, and then for each entry of the directory the leader with its index pages.
unfoldable pub parts : Pages → List Part
parts pages =
    Header
    ∷ (list_map Slot (range_with_len 0 4096)
    ++ (list_map OwnerRow (range_with_len 0 256) ++ flat_map (λ s. parts_of pages (entry_there (entry_in pages s))) (range_with_len 0 4096)))

-- ---- whether a part is in the grammar, after those before it

abbrev pub has_node : Node → List Name → Bool
has_node k names = list_any (λ x. same_node k x.0) names

abbrev pub has_place : ℕ → List Name → Bool
has_place p names = list_any (λ x. x.1 == p) names

-- a name that is new: its place lies in the volume, and neither its node nor its place was named before
abbrev pub is_new : ℕ → List Name → Name → Bool
is_new home before x = nat_le 257 x.1 && nat_lt x.1 home && not (has_node x.0 before) && not (has_place x.1 before)

abbrev pub are_new : ℕ → List Name → List Name → Bool
are_new home before [] = true
are_new home before (x ∷ xs) = is_new home before x && are_new home (x ∷ before) xs

-- the names before and these, the last one first
abbrev pub added : List Name → List Name → List Name
added before [] = before
added before (x ∷ xs) = added (x ∷ before) xs

-- what a leader costs an owner
abbrev pub cost_of : List ℕ → Option Leader → ℕ
cost_of name None = 0
cost_of name (Some l) = cost name (props_cell l)

-- the sizes of the leaders that name the owner, as far as they can be read
unfoldable pub charge_in : Pages → List ℕ → ℕ
charge_in pages name = sum_by (λ s. cost_of name (leader_at pages (entry_there (entry_in pages s)))) (range_with_len 0 4096)

abbrev pub is_named : List ℕ → Option OwnerRecord → Bool
is_named name None = false
is_named name (Some o) = same_name o.name name

-- whether one of so many rows from the first on has an owner of the name
abbrev pub has_owner : Pages → ℕ → List ℕ → Bool
has_owner pages count name = list_any (λ r. is_named name (owner_there (row_in pages r))) (range_with_len 0 count)

-- a row is unused, or its owner stands in no row before it and is charged for the sizes
abbrev pub is_right_row : Pages → ℕ → Option (Option OwnerRecord) → Bool
is_right_row pages row None = false
is_right_row pages row (Some None) = true
is_right_row pages row (Some (Some o)) = not (has_owner pages row o.name) && o.charge == charge_in pages o.name

-- the owner of a leader stands in some row
abbrev pub is_owned : Pages → Option Leader → Bool
is_owned pages None = false
is_owned pages (Some l) = has_owner pages 256 l.props.owner

abbrev pub is_right_node : Pages → Node → ℕ → Bool
is_right_node pages (LeaderOf f) place = is_owned pages (whole leader_page (pages place))
is_right_node pages (IndexOf f b) place = true
is_right_node pages (DataOf f n) place = true

-- no place is named from the limit on
abbrev pub is_below : ℕ → ℕ × ℕ → Bool
is_below limit x = x.1 == 0 || nat_lt x.0 limit

abbrev pub is_within : ℕ → Option (List ℕ) → Bool
is_within limit None = false
is_within limit (Some row) = list_all (is_below limit) (enumerate_from 0 row)

-- what a part says by itself
abbrev pub is_read : Pages → Part → Bool
is_read pages Header = pointwise nat_eq (pages 0) header_page
is_read pages (Slot slot) = is_some (entry_in pages slot)
is_read pages (OwnerRow row) = is_right_row pages row (row_in pages row)
is_read pages (NodePage k limit place) = is_right_node pages k place && is_within limit (row_of_node k (pages place))

abbrev pub is_right : ℕ → Pages → List Name → Part → Bool
is_right home pages before part = is_read pages part && are_new home before (names_in pages part)

-- ---- the first that is not

abbrev pub first_wrong : ℕ → Pages → List Name → List Part → Option ℕ
first_wrong home pages before [] = None
first_wrong home pages before (part ∷ rest) =
    if is_right home pages before part then first_wrong home pages (added before (names_in pages part)) rest else Some (place_of part)

-- the names after these parts
abbrev pub names_after : Pages → List Name → List Part → List Name
names_after pages before [] = before
names_after pages before (part ∷ rest) = names_after pages (added before (names_in pages part)) rest

-- the first home page outside the grammar, where there is one
unfoldable pub damage_of : ℕ → Pages → Option ℕ
damage_of home pages = first_wrong home pages [] (parts pages)
