-- The laws of leader pages, and how long their parts are.
use Rattle.std.proofs.Common.{◌≡◌, ℕ, ◌+◌, ◌-◌, ◌*◌, List, ◌++◌, length, replicate, refl, ap, ◌∙◌, arith, length-append}
use Rattle.std.specs.List.{flat_map}
use Rattle.std.proofs.lemmas.List.{length-replicate}
use Rattle.std.proofs.lemmas.Bool.{eqb-true}
use Rattle.alp_base.specs.Pages.{page_bytes}
use Rattle.alp_fields.specs.Forms.{IsForm, HasLength, checked, u8, u16, u32, u64}
use Rattle.alp_fields.specs.Fields.{file_id, named_field, list_field}
use Rattle.alp_fields.proofs.FormLaws.{pair_law, mapped_law, checked_law, sized_law, repeated_law, zeros_behind_law}
use Rattle.alp_fields.proofs.FieldLaws.{u8_law, u16_law, u32_law, u64_law, file_id_law}
use Rattle.alp_fields.proofs.FixedLaws.{named_field_law, list_field_law, u8_length, u16_length, u32_length, u64_length, file_id_length, named_field_length, list_field_length, repeated_length}
use Rattle.alp_fields.specs.PropsField.{Numbers, numbers}
use Rattle.alp_pages.specs.declared.leader.TheConstants.{INDEX_PLACES}
use Rattle.alp_pages.specs.Leader.{format_of, is_format, format_no, has_format, head, head_bytes, is_size, sized_numbers, numbers_bytes, tail, tail_bytes, head_of, tail_of, leader_of, parts_of, leader_fields, leader_fields_bytes, leader_body, leader_page}

-- ---- the laws of the parts

head_law : IsForm head
unfolding head
head_law = pair_law file_id _ file_id_law (pair_law named_field named_field named_field_law named_field_law)

numbers_law : IsForm numbers
unfolding numbers
numbers_law = pair_law u16 _ u16_law (pair_law u64 _ u64_law (pair_law u64 _ u64_law (pair_law u32 u32 u32_law u32_law)))

sized_numbers_law : IsForm sized_numbers
unfolding sized_numbers
sized_numbers_law = checked_law is_size numbers numbers_law

tail_law : IsForm tail
unfolding tail
tail_law = pair_law list_field _ list_field_law (pair_law list_field _ list_field_law (repeated_law u32 INDEX_PLACES u32_law))

fields_law : IsForm leader_fields
unfolding leader_fields
fields_law = mapped_law leader_of parts_of _ (λ v. refl) (λ x. refl)
    (pair_law head _ head_law (pair_law sized_numbers tail sized_numbers_law tail_law))

body_law : IsForm leader_body
unfolding leader_body
body_law = zeros_behind_law (page_bytes - (1 + leader_fields_bytes)) leader_fields fields_law

format_law : IsForm format_no
unfolding format_no
format_law = checked_law is_format u8 u8_law

pub leader_page_law : IsForm leader_page
unfolding leader_page
leader_page_law = sized_law format_no (λ n. checked (has_format n) leader_body) format_of format_law
    (λ n. checked_law (has_format n) leader_body body_law) (λ n l fits. eqb-true (format_of l) n fits.1)

-- ---- lengths

pub head_length : HasLength head head_bytes
unfolding head
head_length x fits =
    omega (
      arith,
      length-append (file_id.spell x.0) (named_field.spell x.1.0 ++ named_field.spell x.1.1),
      length-append (named_field.spell x.1.0) (named_field.spell x.1.1),
      file_id_length x.0,
      named_field_length x.1.0 fits.1.0,
      named_field_length x.1.1 fits.1.1,
    )

pub numbers_length : (n : Numbers) → length (sized_numbers.spell n) ≡ numbers_bytes
unfolding sized_numbers numbers
numbers_length n =
    let water : List ℕ = u32.spell n.1.1.1.1 in
    let size : List ℕ = u32.spell n.1.1.1.0 ++ water in
    let bytes : List ℕ = u64.spell n.1.1.0 ++ size in
    let time : List ℕ = u64.spell n.1.0 ++ bytes in
    omega (
      arith,
      length-append (u16.spell n.0) time,
      length-append (u64.spell n.1.0) bytes,
      length-append (u64.spell n.1.1.0) size,
      length-append (u32.spell n.1.1.1.0) water,
      u16_length n.0,
      u64_length n.1.0,
      u64_length n.1.1.0,
      u32_length n.1.1.1.0,
      u32_length n.1.1.1.1,
    )

pub tail_length : HasLength tail tail_bytes
unfolding tail
tail_length x fits =
    let places : List ℕ = flat_map u32.spell x.1.1 in
    let places_are : length places ≡ INDEX_PLACES * 4 =
    repeated_length u32 4 (λ v ok. u32_length v) x.1.1 fits.1.1.1 ∙ ap (λ (n : ℕ). n * 4) fits.1.1.0 in
    omega (
      arith,
      length-append (list_field.spell x.0) (list_field.spell x.1.0 ++ places),
      length-append (list_field.spell x.1.0) places,
      list_field_length x.0 fits.0,
      list_field_length x.1.0 fits.1.0,
      places_are,
    )

pub fields_length : HasLength leader_fields leader_fields_bytes
unfolding leader_fields
fields_length l fits =
    let behind : List ℕ = tail.spell (tail_of l) in
    let numbers_here : List ℕ = sized_numbers.spell ((parts_of l).1.0) in
    omega (
      arith,
      length-append (head.spell (head_of l)) (numbers_here ++ behind),
      length-append numbers_here behind,
      head_length (head_of l) fits.0,
      numbers_length ((parts_of l).1.0),
      tail_length (tail_of l) fits.1.1,
    )

pub body_length : HasLength leader_body (page_bytes - 1)
unfolding leader_body
body_length l fits =
    let unused : ℕ = page_bytes - (1 + leader_fields_bytes) in
    omega (arith, length-append (leader_fields.spell l) (replicate unused 0), fields_length l fits.0, length-replicate {A = ℕ} unused 0)

format_length : (n : ℕ) → length (format_no.spell n) ≡ 1
unfolding format_no
format_length n = u8_length n

pub leader_page_length : HasLength leader_page page_bytes
unfolding leader_page
leader_page_length l fits =
    omega (arith, length-append (format_no.spell (format_of l)) (leader_body.spell l), format_length (format_of l), body_length l fits.1.0)
