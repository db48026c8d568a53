-- The laws of batches: one spelling each, its length, and where the bytes of an image stand.
use Rattle.std.proofs.Common.{◌≡◌, ◌<◌, ℕ, zero, suc, ◌+◌, ◌*◌, List, [], ◌∷◌, ◌++◌, length, take, drop, Option, Some, None, refl, sym, ap, ◌∙◌, append_assoc, arith, length-append}
use Rattle.std.specs.Prelude.{◌^◌, slice_get, IfOk, IfSome, Result, Ok, Err}
use Rattle.std.specs.List.{flat_map, AllByRecursion}
use Rattle.std.proofs.lemmas.List.{take_at, drop_at, drop-drop}
use Rattle.alp_base.specs.declared.bytes.NoteChange.{NoteChange}
use Rattle.alp_fields.specs.Forms.{IsForm, HasLength, pair, sized, repeated, bytes_of, read_choice, u8, u16, u32}
use Rattle.alp_fields.specs.Fields.{page}
use Rattle.alp_fields.proofs.FormLaws.{pair_law, mapped_law, checked_law, sized_law, repeated_law, repeated_size, bytes_law, bytes_size}
use Rattle.alp_fields.proofs.FieldLaws.{u8_law, u16_law, u32_law, page_law, variant_reads, variant_back, tag_back, tagged_law}
use Rattle.alp_fields.proofs.FixedLaws.{u8_length, u16_length, u32_length, repeated_length}
use Rattle.alp_fields.specs.Rising.{is_rising}
use Rattle.alp_batch.specs.declared.batch.PageImage.{PageImage}
use Rattle.alp_batch.specs.declared.batch.Batch.{Batch}
use Rattle.alp_batch.specs.Batch.{image, page_below, images, note_name, note_value, ends_note, puts_note, spell_valued, FitsValued, note_readers, note, name_below, notes, batch, IsShortValue, IsShort, IsBatch, valued_length, note_length, notes_length, batch_length}

-- ---- one spelling each

pub image_law : IsForm image
unfolding image
image_law = mapped_law _ _ (pair u32 page) (λ v. refl) (λ x. refl) (pair_law u32 page u32_law page_law)

pub images_law : IsForm images
unfolding images
images_law = checked_law (is_rising page_below) (sized u16 (repeated image) length) (sized_law u16 (repeated image) length u16_law (λ n. repeated_law image n image_law) (repeated_size image))

pub note_name_law : IsForm note_name
unfolding note_name
note_name_law = sized_law u8 bytes_of length u8_law bytes_law bytes_size

pub note_value_law : IsForm note_value
unfolding note_value
note_value_law = sized_law u32 bytes_of length u32_law bytes_law bytes_size

named_value_law : IsForm (pair note_name note_value)
named_value_law = pair_law note_name note_value note_name_law note_value_law

valued_back : (name : List ℕ) (value : Option (List ℕ)) (rest : List ℕ) → FitsValued name value → read_choice note_readers (spell_valued name value ++ rest) ≡ Some (record { name = name; value = value }, rest)
valued_back name None rest fits = tag_back note_readers 0 (note_name.spell name ++ rest) (omega arith) ∙ variant_back ends_note note_name note_name_law name rest fits
valued_back name (Some value) rest fits = tag_back note_readers 1 ((note_name.spell name ++ note_value.spell value) ++ rest) (omega arith) ∙ variant_back puts_note (pair note_name note_value) named_value_law (name, value) rest fits

pub note_law : IsForm note
unfolding note
note_law = tagged_law (λ n. spell_valued n.name n.value) (λ n. FitsValued n.name n.value) note_readers (λ n rest fits. valued_back n.name n.value rest fits) (
  variant_reads (λ n. spell_valued n.name n.value) (λ n. FitsValued n.name n.value) 0 ends_note note_name note_name_law (λ v. refl) (λ v fits. fits),
  (
    variant_reads (λ n. spell_valued n.name n.value) (λ n. FitsValued n.name n.value) 1 puts_note (pair note_name note_value) named_value_law (λ v. refl) (λ v fits. fits),
    tt,
  ),
)

pub notes_law : IsForm notes
unfolding notes
notes_law = checked_law (is_rising name_below) (sized u16 (repeated note) length) (sized_law u16 (repeated note) length u16_law (λ n. repeated_law note n note_law) (repeated_size note))

pub batch_law : IsForm batch
unfolding batch
batch_law = mapped_law _ _ (pair images notes) (λ v. refl) (λ x. refl) (pair_law images notes images_law notes_law)

-- ---- how long

image_length : HasLength image 516
unfolding image page
image_length v fits = omega (arith, length-append (u32.spell v.at) v.page, u32_length v.at, fits.1)

images_length : (vs : List PageImage) → images.Fits vs → length (images.spell vs) ≡ 2 + 516 * length vs
unfolding images
images_length vs fits = omega (arith, length-append (u16.spell (length vs)) (flat_map image.spell vs), u16_length (length vs), repeated_length image 516 image_length vs fits.0.1.1)

name_length : (name : List ℕ) → length (note_name.spell name) ≡ 1 + length name
unfolding note_name
name_length name = omega (arith, length-append (u8.spell (length name)) name, u8_length (length name))

value_length : (value : List ℕ) → length (note_value.spell value) ≡ 4 + length value
unfolding note_value
value_length value = omega (arith, length-append (u32.spell (length value)) value, u32_length (length value))

valued_is : (name : List ℕ) (value : Option (List ℕ)) → length (spell_valued name value) ≡ 2 + length name + valued_length value
valued_is name None = omega (arith, name_length name)
valued_is name (Some value) = omega (arith, name_length name, value_length value, length-append (note_name.spell name) (note_value.spell value))

note_is : (n : NoteChange) → length (note.spell n) ≡ note_length n
unfolding note
note_is n = valued_is n.name n.value

changes_are : (ns : List NoteChange) → length (flat_map note.spell ns) ≡ notes_length ns
changes_are [] = refl
changes_are (n ∷ ns) = omega (arith, length-append (note.spell n) (flat_map note.spell ns), note_is n, changes_are ns)

notes_are : (ns : List NoteChange) → length (notes.spell ns) ≡ 2 + notes_length ns
unfolding notes
notes_are ns = omega (arith, length-append (u16.spell (length ns)) (flat_map note.spell ns), u16_length (length ns), changes_are ns)

pub batch_is : (b : Batch) → batch.Fits b → length (batch.spell b) ≡ batch_length b
unfolding batch
batch_is b fits = omega (arith, length-append (images.spell b.images) (notes.spell b.notes), images_length b.images fits.0, notes_are b.notes)

-- ---- what fits is a batch

short_valued : (name : List ℕ) (value : Option (List ℕ)) → FitsValued name value → (length name < 2 ^ 8) × IsShortValue value
unfolding note_name note_value u8 u32
short_valued name None fits = (fits.0, tt)
short_valued name (Some value) fits = (fits.0.0, fits.1.0)

all_short : (ns : List NoteChange) → AllByRecursion note.Fits ns → AllByRecursion IsShort ns
unfolding note
all_short [] fits = tt
all_short (n ∷ ns) fits = (short_valued n.name n.value fits.0, all_short ns fits.1)

pub is_batch : (b : Batch) → batch.Fits b → IsBatch b
unfolding batch images notes u16
is_batch b fits = record {
  few_images = fits.0.0.0;
  pages_rise = fits.0.1;
  few_notes = fits.1.0.0;
  names_rise = fits.1.1;
  short = all_short b.notes fits.1.0.1.1;
}

-- ---- where the bytes of an image stand

later : (n : ℕ) (front rest : List ℕ) (k : ℕ) → length front ≡ k → drop (k + n) (front ++ rest) ≡ drop n rest
later n front rest k long = sym (drop-drop n k (front ++ rest)) ∙ ap (λ (l : List ℕ). drop n l) (drop_at front rest k long)

image_bytes : (v : PageImage) (rest : List ℕ) → image.Fits v → take 512 (drop 4 (image.spell v ++ rest)) ≡ v.page
unfolding image page
image_bytes v rest fits =
    ap (λ (l : List ℕ). take 512 (drop 4 l)) (append_assoc (u32.spell v.at) v.page rest) ∙ ap (λ (l : List ℕ). take 512 l) (drop_at (u32.spell v.at) (v.page ++ rest) 4 (u32_length v.at)) ∙ take_at v.page rest 512 fits.1

each_image : (vs : List PageImage) (i : ℕ) (one : PageImage) (rest : List ℕ) → AllByRecursion image.Fits vs → slice_get vs i ≡ Some one → take 512 (drop (4 + 516 * i) (flat_map image.spell vs ++ rest)) ≡ one.page
each_image [] i one rest fits is = absurd cc
each_image (v ∷ vs) zero one rest fits is = ap (λ (l : List ℕ). take 512 (drop 4 l)) (append_assoc (image.spell v) (flat_map image.spell vs) rest) ∙ image_bytes v (flat_map image.spell vs ++ rest) fits.0 ∙ ap (λ (w : PageImage). w.page) (some_item v one is)
  where
    some_item : (x y : PageImage) → Some x ≡ Some y → x ≡ y
    some_item x y e = cc
each_image (v ∷ vs) (suc i) one rest fits is =
    let n : 4 + 516 * suc i ≡ 516 + (4 + 516 * i) = omega arith in
    ap (λ (k : ℕ). take 512 (drop k ((image.spell v ++ flat_map image.spell vs) ++ rest))) n
    ∙ ap (λ (l : List ℕ). take 512 (drop (516 + (4 + 516 * i)) l)) (append_assoc (image.spell v) (flat_map image.spell vs) rest)
    ∙ ap (λ (l : List ℕ). take 512 l) (later (4 + 516 * i) (image.spell v) (flat_map image.spell vs ++ rest) 516 (image_length v fits.0))
    ∙ each_image vs i one rest fits.1 is

pub placed_image : (b : Batch) (i : ℕ) (one : PageImage) → batch.Fits b → slice_get b.images i ≡ Some one → take 512 (drop (6 + 516 * i) (batch.spell b)) ≡ one.page
unfolding batch images
placed_image b i one fits is =
    let n : 6 + 516 * i ≡ 2 + (4 + 516 * i) = omega arith in
    ap (λ (k : ℕ). take 512 (drop k ((u16.spell (length b.images) ++ flat_map image.spell b.images) ++ notes.spell b.notes))) n
    ∙ ap (λ (l : List ℕ). take 512 (drop (2 + (4 + 516 * i)) l)) (append_assoc (u16.spell (length b.images)) (flat_map image.spell b.images) (notes.spell b.notes))
    ∙ ap (λ (l : List ℕ). take 512 l) (later (4 + 516 * i) (u16.spell (length b.images)) (flat_map image.spell b.images ++ notes.spell b.notes) 2 (u16_length (length b.images)))
    ∙ each_image b.images i one (notes.spell b.notes) fits.0.0.1.1 is

-- ---- of an answer that want of memory may keep away

pub found_is : {T E : Type 0} (P Q : T → Type 0) → ((v : T) → P v → Q v) → (answer : Result (Option T) E) → IfOk answer (λ found. IfSome found P) → IfOk answer (λ found. IfSome found Q)
found_is P Q implies (Ok None) given = tt
found_is P Q implies (Ok (Some v)) given = implies v given
found_is P Q implies (Err e) given = tt
