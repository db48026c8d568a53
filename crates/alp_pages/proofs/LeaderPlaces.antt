-- The parts of a leader page put one behind the other.
use Rattle.std.proofs.Common.{◌≡◌, ℕ, ◌+◌, ◌-◌, ◌≤◌, List, length, replicate, refl, arith}
use Rattle.std.proofs.lemmas.Bool.{le-leb}
use Rattle.alp_base.specs.Pages.{page_bytes}
use Rattle.alp_base.specs.declared.lists.TheConstants.{PAGES_PER_FILE}
use Rattle.alp_fields.specs.Forms.{IsSet, pair, repeated, u8, u16, u32, u64}
use Rattle.alp_base.specs.Pages.{overwritten}
use Rattle.alp_fields.specs.Fields.{file_id, named_field, name_field_bytes, list_field, list_field_bytes}
use Rattle.alp_fields.proofs.FixedLaws.{u8_length, u16_length, u32_length, u64_length, file_id_length, named_field_length, list_field_length}
use Rattle.alp_fields.proofs.PlaceLemmas.{set_pair, set_mapped, set_zeros_behind}
use Rattle.alp_fields.specs.PropsField.{Numbers, numbers, numbers_of}
use Rattle.alp_pages.specs.declared.leader.Leader.{Leader}
use Rattle.alp_pages.specs.declared.leader.TheConstants.{INDEX_PLACES}
use Rattle.alp_pages.specs.Leader.{format_of, format_no, HeadParts, head, head_of, head_bytes, sized_numbers, numbers_bytes, TailParts, tail, tail_of, leader_of, parts_of, leader_fields, leader_fields_bytes, leader_body, leader_page}
use Rattle.alp_pages.proofs.LeaderForm.{head_length, numbers_length, fields_length}

pub head_set : (x : HeadParts) (at : ℕ) (old one two new : List ℕ) → at + head_bytes ≤ length old → length one ≡ length old
    → IsSet file_id x.0 at old one → IsSet named_field x.1.0 (at + 9) one two → IsSet named_field x.1.1 (at + 9 + name_field_bytes) two new → IsSet head x at old new
unfolding head
head_set x at old one two new room same file owner name =
    set_pair file_id (pair named_field named_field) x.0 x.1 at (at + 9) old one new (omega arith) (omega (arith, file_id_length x.0)) file
    (set_pair named_field named_field x.1.0 x.1.1 (at + 9) (at + 9 + name_field_bytes) one two new (omega arith) (omega (arith, named_field_length x.1.0 owner.fits)) owner name)

numbers_are_set : (n : Numbers) (at : ℕ) (old one two three four new : List ℕ) → at + numbers_bytes ≤ length old → length one ≡ length old → length two ≡ length old → length three ≡ length old
    → IsSet u16 n.0 at old one → IsSet u64 n.1.0 (at + 2) one two → IsSet u64 n.1.1.0 (at + 10) two three → IsSet u32 n.1.1.1.0 (at + 18) three four → IsSet u32 n.1.1.1.1 (at + 22) four new → IsSet numbers n at old new
unfolding numbers
numbers_are_set n at old one two three four new room same-1 same-2 same-3 type time bytes size water =
    set_pair u16 (pair u64 (pair u64 (pair u32 u32))) n.0 n.1 at (at + 2) old one new (omega arith) (omega (arith, u16_length n.0)) type
    (set_pair u64 (pair u64 (pair u32 u32)) n.1.0 n.1.1 (at + 2) (at + 10) one two new (omega arith) (omega (arith, u64_length n.1.0)) time
    (set_pair u64 (pair u32 u32) n.1.1.0 n.1.1.1 (at + 10) (at + 18) two three new (omega arith) (omega (arith, u64_length n.1.1.0)) bytes
    (set_pair u32 u32 n.1.1.1.0 n.1.1.1.1 (at + 18) (at + 22) three four new (omega arith) (omega (arith, u32_length n.1.1.1.0)) size water)))

pub numbers_set : (n : Numbers) (at : ℕ) (old one two three four new : List ℕ) → n.1.1.1.0 ≤ PAGES_PER_FILE → at + numbers_bytes ≤ length old → length one ≡ length old → length two ≡ length old → length three ≡ length old
    → IsSet u16 n.0 at old one → IsSet u64 n.1.0 (at + 2) one two → IsSet u64 n.1.1.0 (at + 10) two three → IsSet u32 n.1.1.1.0 (at + 18) three four → IsSet u32 n.1.1.1.1 (at + 22) four new → IsSet sized_numbers n at old new
unfolding sized_numbers
numbers_set n at old one two three four new small room same-1 same-2 same-3 type time bytes size water =
    let done : IsSet numbers n at old new = numbers_are_set n at old one two three four new room same-1 same-2 same-3 type time bytes size water in
    record { set = done.set; fits = (done.fits, le-leb n.1.1.1.0 PAGES_PER_FILE small) }

pub tail_set : (x : TailParts) (at : ℕ) (old one two new : List ℕ) → at + list_field_bytes ≤ length old → length one ≡ length old
    → IsSet list_field x.0 at old one → IsSet list_field x.1.0 (at + list_field_bytes) one two → IsSet (repeated u32 INDEX_PLACES) x.1.1 (at + list_field_bytes + list_field_bytes) two new → IsSet tail x at old new
unfolding tail
tail_set x at old one two new room same read modify index =
    set_pair list_field (pair list_field (repeated u32 INDEX_PLACES)) x.0 x.1 at (at + list_field_bytes) old one new (omega arith) (omega (arith, list_field_length x.0 read.fits)) read
    (set_pair list_field (repeated u32 INDEX_PLACES) x.1.0 x.1.1 (at + list_field_bytes) (at + list_field_bytes + list_field_bytes) one two new (omega arith) (omega (arith, list_field_length x.1.0 modify.fits)) modify index)

fields_set : (l : Leader) (at : ℕ) (old one two new : List ℕ) → at + head_bytes ≤ length old → length one ≡ length old
    → IsSet head (head_of l) at old one → IsSet sized_numbers (numbers_of l.props) (at + head_bytes) one two → IsSet tail (tail_of l) (at + head_bytes + numbers_bytes) two new → IsSet leader_fields l at old new
unfolding leader_fields
fields_set l at old one two new room same front middle behind =
    set_mapped leader_of parts_of (pair head (pair sized_numbers tail)) l at old new
    (set_pair head (pair sized_numbers tail) (head_of l) (numbers_of l.props, tail_of l) at (at + head_bytes) old one new (omega arith) (omega (arith, head_length (head_of l) front.fits)) front
    (set_pair sized_numbers tail (numbers_of l.props) (tail_of l) (at + head_bytes) (at + head_bytes + numbers_bytes) one two new (omega arith) (omega (arith, numbers_length (numbers_of l.props))) middle behind))

pub body_set : (l : Leader) (at : ℕ) (old one two three new : List ℕ) → at + head_bytes ≤ length old → length one ≡ length old
    → IsSet head (head_of l) at old one → IsSet sized_numbers (numbers_of l.props) (at + head_bytes) one two → IsSet tail (tail_of l) (at + head_bytes + numbers_bytes) two three
    → new ≡ overwritten three (at + leader_fields_bytes) (replicate (page_bytes - (1 + leader_fields_bytes)) 0) → IsSet leader_body l at old new
unfolding leader_body
body_set l at old one two three new room same front middle behind zeros =
    let fields : IsSet leader_fields l at old three = fields_set l at old one two three room same front middle behind in
    set_zeros_behind leader_fields l (page_bytes - (1 + leader_fields_bytes)) at (at + leader_fields_bytes) old three new (omega arith) (omega (arith, fields_length l fields.fits)) fields zeros

pub page_set : (l : Leader) (old mid new : List ℕ) → IsSet u8 (format_of l) 0 old mid → IsSet leader_body l 1 mid new → IsSet leader_page l 0 old new
unfolding leader_page format_no
page_set l old mid new format body =
    let both : IsSet (pair u8 leader_body) (format_of l, l) 0 old new =
    set_pair u8 leader_body (format_of l) l 0 1 old mid new (omega arith) (omega (arith, u8_length (format_of l))) format body in
    record { set = both.set; fits = ((both.fits.0, refl), (both.fits.1, refl)) }

-- the places are all of what stands behind the reference
pub places_set : (given index : List ℕ) (at : ℕ) (old new : List ℕ) → given ≡ index → length given ≡ INDEX_PLACES → IsSet (repeated u32 (length given)) given at old new → IsSet (repeated u32 INDEX_PLACES) index at old new
places_set given index at old new same long done = rw (← same, ← long) done
