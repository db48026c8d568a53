-- A leader page in bytes.
use Rattle.std.specs.Prelude.{ℕ, ◌+◌, ◌-◌, ◌*◌, Bool, ◌==◌, nat_le, List}
use Rattle.alp_fields.specs.Forms.{Form, pair, mapped, checked, sized, repeated, zeros_behind, u8, u32}
use Rattle.alp_fields.specs.Fields.{file_id, named_field, name_field_bytes, list_field, list_field_bytes}
use Rattle.alp_base.specs.Pages.{page_bytes}
use Rattle.alp_fields.specs.declared.rows.TheConstants.{U32_BYTES}
use Rattle.alp_base.specs.declared.ids.FileId.{FileId}
use Rattle.alp_base.specs.declared.lists.TheConstants.{PAGES_PER_FILE}
use Rattle.alp_fields.specs.PropsField.{Numbers, numbers, numbers_of}
use Rattle.alp_pages.specs.declared.leader.Leader.{Leader}
use Rattle.alp_pages.specs.declared.leader.TheConstants.{INDEX_PLACES}

-- ---- the formats

-- the format of a leader with this size and these lists: one today
abbrev pub format_for : ℕ → List (List ℕ) → List (List ℕ) → ℕ
format_for size read modify = 1

-- the format that a leader has
abbrev pub format_of : Leader → ℕ
format_of l = format_for l.props.size l.props.read l.props.modify

-- whether there is a format of that number
abbrev pub is_format : ℕ → Bool
is_format n = n == 1

-- the number of a format, in one byte
unfoldable pub format_no : Form ℕ
format_no = checked is_format u8

-- ---- format 1

-- the file and its owner and name
abbrev pub HeadParts : Type 0
HeadParts = FileId × (List ℕ × List ℕ)

-- those that a leader has
abbrev pub head_of : Leader → HeadParts
head_of l = (l.file, (l.props.owner, l.props.name))

-- one behind the other
unfoldable pub head : Form HeadParts
head = pair file_id (pair named_field named_field)

-- the bytes of the id and the two names
abbrev pub head_bytes : ℕ
head_bytes = 9 + name_field_bytes + name_field_bytes

-- whether a file may be as large as the numbers say
abbrev pub is_size : Numbers → Bool
is_size n = nat_le n.1.1.1.0 PAGES_PER_FILE

-- the numbers, of a file that may be so large
unfoldable pub sized_numbers : Form Numbers
sized_numbers = checked is_size numbers

-- the bytes of a u16, two u64 and two u32
abbrev pub numbers_bytes : ℕ
numbers_bytes = 26

-- who may read and who may change the file, and where its index pages are
abbrev pub TailParts : Type 0
TailParts = List (List ℕ) × (List (List ℕ) × List ℕ)

-- those that a leader has
abbrev pub tail_of : Leader → TailParts
tail_of l = (l.props.read, (l.props.modify, l.index))

-- one behind the other
unfoldable pub tail : Form TailParts
tail = pair list_field (pair list_field (repeated u32 INDEX_PLACES))

-- the bytes of the two lists and the places
abbrev pub tail_bytes : ℕ
tail_bytes = list_field_bytes + list_field_bytes + INDEX_PLACES * U32_BYTES

-- all of the fields
abbrev pub LeaderParts : Type 0
LeaderParts = HeadParts × (Numbers × TailParts)

-- the leader that has these fields, and the fields of a leader
abbrev pub leader_of : LeaderParts → Leader
leader_of x = record {
  file = x.0.0;
  props = record {
    owner = x.0.1.0;
    name = x.0.1.1;
    type_no = x.1.0.0;
    create_time = x.1.0.1.0;
    byte_length = x.1.0.1.1.0;
    size = x.1.0.1.1.1.0;
    high_water = x.1.0.1.1.1.1;
    read = x.1.1.0;
    modify = x.1.1.1.0;
  };
  index = x.1.1.1.1;
}

abbrev pub parts_of : Leader → LeaderParts
parts_of l = (head_of l, (numbers_of l.props, tail_of l))

-- the fields of a leader, one behind the other
unfoldable pub leader_fields : Form Leader
leader_fields = mapped leader_of parts_of (pair head (pair sized_numbers tail))

-- the bytes of all of them
abbrev pub leader_fields_bytes : ℕ
leader_fields_bytes = head_bytes + numbers_bytes + tail_bytes

-- the fields, and zeros to the end of the page, all behind the format
unfoldable pub leader_body : Form Leader
leader_body = zeros_behind (page_bytes - (1 + leader_fields_bytes)) leader_fields

-- ---- the page

-- whether the leader has that format
abbrev pub has_format : ℕ → Leader → Bool
has_format n l = format_of l == n

-- the format that the leader has, and the leader in that format
unfoldable pub leader_page : Form Leader
leader_page = sized format_no (λ n. checked (has_format n) leader_body) format_of
