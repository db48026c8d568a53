-- how long the notes of ready parts and of decisions are
use Rattle.std.specs.Prelude.{true, ◌&&◌, nat_le, flat_map}
use Rattle.std.specs.List.{AllByRecursion}
use Rattle.std.proofs.Common.{◌≡◌, ℕ, suc, ◌+◌, ◌*◌, ◌≤◌, List, [], ◌∷◌, ◌++◌, length, length-append, refl, arith}
use Rattle.std.proofs.lemmas.Bool.{leb-true, and_parts}
use Rattle.std.proofs.Math.Nat.{suc-mul}
use Rattle.alp_base.specs.declared.cell.Cell.{Cell}
use Rattle.alp_base.specs.declared.cell.Cell.TheVariants as cell
use Rattle.alp_base.specs.declared.cell.Props.{Props}
use Rattle.alp_base.specs.declared.change.Change.{Change}
use Rattle.alp_base.specs.declared.ids.FileId.{FileId}
use Rattle.alp_base.specs.declared.ids.JoinNo.{JoinNo}
use Rattle.alp_base.specs.declared.ids.TransId.{TransId}
use Rattle.alp_base.specs.declared.key.Key.{Key}
use Rattle.alp_base.specs.declared.key.Key.TheVariants.{Leader, PageOf, OwnerOf}
use Rattle.alp_base.specs.declared.key.Resource.{Resource}
use Rattle.alp_base.specs.declared.key.Resource.TheVariants.{Whole, Leaf}
use Rattle.alp_base.proofs.NameLemmas as names
use Rattle.alp_modes.specs.declared.Mode.{Mode}
use Rattle.alp_modes.specs.declared.Mode.TheVariants.{IntendRead, IntendWrite, Read, Update, ReadIntendWrite, Write}
use Rattle.alp_fields.specs.ChangeField.{spell_cell, FitsCellAt, placed, cut, change_form}
use Rattle.alp_fields.specs.DecisionNote.{decision_form, joins, part_count}
use Rattle.alp_fields.specs.Fields.{trans_id, join_no, file_id, key, spell_key, FitsKey, resource, spell_resource, FitsResource, name, list, list_count, page}
use Rattle.alp_fields.specs.Forms.{Form, u8, u16, u32, u64}
use Rattle.alp_fields.specs.ModeField.{mode, spell_mode}
use Rattle.alp_fields.specs.OwnerField.{owner_record}
use Rattle.alp_fields.specs.PropsField.{props, numbers, numbers_of}
use Rattle.alp_fields.specs.ReadyNote.{ready_form, lock}
use Rattle.alp_fields.specs.Rising.{rising}
use Rattle.alp_fields.specs.declared.decision_note.Decision.{Decision}
use Rattle.alp_fields.specs.declared.ready_note.ReadyPart.{ReadyPart}
use Rattle.alp_fields.proofs.FixedLaws.{u8_length, u16_length, u32_length, u64_length, id_parts_length, file_id_length}
use Rattle.alp_fields.proofs.OwnerFieldLaw.{owner_record_length}
use Rattle.alp_vault.specs.Volumes.{changed_cells}

-- ---- fields

trans_length : (t : TransId) → length (trans_id.spell t) ≡ 9
unfolding trans_id
trans_length t = id_parts_length (t.server, (t.epoch, t.counter))

join_length : (j : JoinNo) → length (join_no.spell j) ≡ 9
unfolding join_no
join_length j = id_parts_length (j.server, (j.epoch, j.counter))

name_most : (n : List ℕ) → name.Fits n → length (name.spell n) ≤ 25
unfolding name
name_most n fits = omega (arith, length-append (u8.spell (length n)) n, u8_length (length n), names.name_length n fits.1)

key_most : (k : Key) → FitsKey k → length (spell_key k) ≤ 26
key_most (Leader f) fits = omega (arith, file_id_length f)
key_most (PageOf f n) fits = omega (arith, length-append (file_id.spell f) (u32.spell n), file_id_length f, u32_length n)
key_most (OwnerOf n) fits = omega (arith, name_most n fits)

resource_most : (r : Resource) → FitsResource r → length (spell_resource r) ≤ 26
resource_most (Whole f) fits = omega (arith, file_id_length f)
resource_most (Leaf k) fits = key_most k fits

mode_length : (m : Mode) → length (spell_mode m) ≡ 1
mode_length IntendRead = refl
mode_length IntendWrite = refl
mode_length Read = refl
mode_length Update = refl
mode_length ReadIntendWrite = refl
mode_length Write = refl

lock_most : (x : Resource × Mode) → lock.Fits x → length (lock.spell x) ≤ 27
unfolding lock resource mode
lock_most x fits = omega (arith, length-append (spell_resource x.0) (spell_mode x.1), resource_most x.0 fits.0, mode_length x.1)

-- ---- several in a row

repeated_most : {A : Type 0} (a : Form A) (k : ℕ) → ((v : A) → a.Fits v → length (a.spell v) ≤ k) → (vs : List A) → AllByRecursion a.Fits vs → length (flat_map a.spell vs) ≤ length vs * k
repeated_most a k most [] fits = omega arith
repeated_most a k most (v ∷ vs) fits =
    let first : length (a.spell v) ≤ k = most v fits.0 in
    let rest : length (flat_map a.spell vs) ≤ length vs * k = repeated_most a k most vs fits.1 in
    let both : length (a.spell v ++ flat_map a.spell vs) ≡ length (a.spell v) + length (flat_map a.spell vs) = length-append (a.spell v) (flat_map a.spell vs) in
    let times : suc (length vs) * k ≡ length vs * k + k = suc-mul (length vs) k in
    omega (arith, first, rest, both, times)

rising_most : {A : Type 0} (a : Form A) (k : ℕ) → ((v : A) → a.Fits v → length (a.spell v) ≤ k) → (vs : List A) → (rising a).Fits vs → length ((rising a).spell vs) ≤ 2 + length vs * k
rising_most a k most vs fits =
    omega (arith, length-append (u16.spell (length vs)) (flat_map a.spell vs), u16_length (length vs), repeated_most a k most vs fits.0.1.1)

-- ---- cells

names_most : (ns : List (List ℕ)) → AllByRecursion name.Fits ns → length (flat_map name.spell ns) ≤ length ns * 25
names_most ns fits = repeated_most name 25 name_most ns fits

list_most : (ns : List (List ℕ)) → list.Fits ns → length (list.spell ns) ≤ 101
unfolding list list_count
list_most ns fits =
    let few : length ns ≤ 4 = leb-true (length ns) 4 fits.0.1 in
    omega (arith, length-append (u8.spell (length ns)) (flat_map name.spell ns), u8_length (length ns), names_most ns fits.1.1, few)

numbers_length : (p : Props) → length (numbers.spell (numbers_of p)) ≡ 26
unfolding numbers
numbers_length p = simp (length-append, u16_length, u64_length, u32_length) refl

props_most : (p : Props) → props.Fits p → length (props.spell p) ≤ 278
unfolding props
props_most p fits =
    let whole : length (props.spell p) ≡ length (name.spell p.owner ++ (name.spell p.name ++ (numbers.spell (numbers_of p) ++ (list.spell p.read ++ list.spell p.modify)))) = refl in
    omega (
      arith,
      whole,
      length-append (name.spell p.owner) (name.spell p.name ++ (numbers.spell (numbers_of p) ++ (list.spell p.read ++ list.spell p.modify))),
      length-append (name.spell p.name) (numbers.spell (numbers_of p) ++ (list.spell p.read ++ list.spell p.modify)),
      length-append (numbers.spell (numbers_of p)) (list.spell p.read ++ list.spell p.modify),
      length-append (list.spell p.read) (list.spell p.modify),
      name_most p.owner fits.0,
      name_most p.name fits.1.0,
      numbers_length p,
      list_most p.read fits.1.1.1.0,
      list_most p.modify fits.1.1.1.1,
    )

page_length : (bytes : List ℕ) → page.Fits bytes → length (page.spell bytes) ≡ 512
unfolding page
page_length bytes fits = fits

cell_most : (k : Key) (c : Cell) → FitsCellAt k c → length (spell_cell c) ≤ 512
cell_most (Leader f) (cell.Leader p) fits = omega (arith, props_most p fits)
cell_most (Leader f) (cell.Page bytes) fits = absurd fits
cell_most (Leader f) (cell.Owner o) fits = absurd fits
cell_most (PageOf f n) (cell.Leader p) fits = absurd fits
cell_most (PageOf f n) (cell.Page bytes) fits = omega (arith, page_length bytes fits)
cell_most (PageOf f n) (cell.Owner o) fits = absurd fits
cell_most (OwnerOf n) (cell.Leader p) fits = absurd fits
cell_most (OwnerOf n) (cell.Page bytes) fits = absurd fits
cell_most (OwnerOf n) (cell.Owner o) fits = omega (arith, owner_record_length o fits)

placed_most : (x : Key × Cell) → placed.Fits x → length (placed.spell x) ≤ 538
unfolding placed key
placed_most x fits = omega (arith, length-append (spell_key x.0) (spell_cell x.1), key_most x.0 fits.0, cell_most x.0 x.1 fits.1)

cut_most : (x : FileId × ℕ) → cut.Fits x → length (cut.spell x) ≤ 538
unfolding cut
cut_most x fits = omega (arith, length-append (file_id.spell x.0) (u32.spell x.1), file_id_length x.0, u32_length x.1)

drop_most : (f : FileId) → file_id.Fits f → length (file_id.spell f) ≤ 538
drop_most f fits = omega (arith, file_id_length f)

change_most : (c : Change) → change_form.Fits c → length (change_form.spell c) ≤ 6 + changed_cells c * 538
unfolding change_form
change_most c fits =
    let drops : length ((rising file_id).spell c.drops) ≤ 2 + length c.drops * 538 = rising_most file_id 538 drop_most c.drops fits.0 in
    let cuts : length ((rising cut).spell c.cuts) ≤ 2 + length c.cuts * 538 = rising_most cut 538 cut_most c.cuts fits.1.0 in
    let puts : length ((rising placed).spell c.puts) ≤ 2 + length c.puts * 538 = rising_most placed 538 placed_most c.puts fits.1.1 in
    let whole : length (change_form.spell c) ≡ length ((rising file_id).spell c.drops ++ ((rising cut).spell c.cuts ++ (rising placed).spell c.puts)) = refl in
    omega (arith, whole, drops, cuts, puts, length-append ((rising file_id).spell c.drops) ((rising cut).spell c.cuts ++ (rising placed).spell c.puts), length-append ((rising cut).spell c.cuts) ((rising placed).spell c.puts))

-- ---- notes

-- a ready part's note, by how many locks it has and how many cells it changes
pub ready_most : (p : ReadyPart) → ready_form.Fits p → length (ready_form.spell p) ≤ 26 + length p.locks * 27 + changed_cells p.change * 538
unfolding ready_form
ready_most p fits =
    let locks : length ((rising lock).spell p.locks) ≤ 2 + length p.locks * 27 = rising_most lock 27 lock_most p.locks fits.1.1.1.0 in
    let change : length (change_form.spell p.change) ≤ 6 + changed_cells p.change * 538 = change_most p.change fits.1.1.1.1 in
    let whole : length (ready_form.spell p) ≡ length (trans_id.spell p.trans ++ (u64.spell p.ts ++ (u8.spell p.client ++ ((rising lock).spell p.locks ++ change_form.spell p.change)))) = refl in
    omega (
      arith,
      whole,
      locks,
      change,
      trans_length p.trans,
      u64_length p.ts,
      u8_length p.client,
      length-append (trans_id.spell p.trans) (u64.spell p.ts ++ (u8.spell p.client ++ ((rising lock).spell p.locks ++ change_form.spell p.change))),
      length-append (u64.spell p.ts) (u8.spell p.client ++ ((rising lock).spell p.locks ++ change_form.spell p.change)),
      length-append (u8.spell p.client) ((rising lock).spell p.locks ++ change_form.spell p.change),
      length-append ((rising lock).spell p.locks) (change_form.spell p.change),
    )

-- a decision's
pub decision_most : (d : Decision) → decision_form.Fits d → length (decision_form.spell d) ≤ 72
unfolding decision_form joins part_count
decision_most d fits =
    let few : length d.joins ≤ 7 = leb-true (length d.joins) 7 (and_parts (nat_le 1 (length d.joins)) (nat_le (length d.joins) 7) fits.1.0.1).1 in
    let parts : length (flat_map join_no.spell d.joins) ≤ length d.joins * 9 = repeated_most join_no 9 (λ j h. let whole : length (decision_form.spell d) ≡ length (u64.spell d.ts ++ (u8.spell (length d.joins) ++ flat_map join_no.spell d.joins)) = refl in
    omega (arith, whole, join_length j)) d.joins fits.1.1.1 in
    omega (arith, few, parts, u64_length d.ts, u8_length (length d.joins), length-append (u64.spell d.ts) (u8.spell (length d.joins) ++ flat_map join_no.spell d.joins), length-append (u8.spell (length d.joins)) (flat_map join_no.spell d.joins))
