-- The laws of the forms of fields.
use Rattle.std.proofs.Common.{◌≡◌, ℕ, zero, suc, ◌*◌, ◌/◌, ◌<◌, ◌^◌, Bool, true, false, cond, ◌&&◌, List, [], ◌∷◌, ◌++◌, length, get_or, take, drop, Some, refl, sym, ap, subst, ◌∙◌, arith, ◌⊎◌, inl, inr}
use Rattle.std.specs.Prelude.{nat_lt, ◌==◌}
use Rattle.std.specs.List.{list_all, AllByRecursion}
use Rattle.std.specs.Int.{Width, w16, w32, w64, byte_len, byte_at, bytes_high_first, to_be_bytes, from_be_bytes}
use Rattle.std.proofs.lemmas.List.{take_at, drop_at, take-append-drop}
use Rattle.std.proofs.lemmas.Bool.{eqb-true, eq-eqb, ltb-true, lt-ltb}
use Rattle.std.proofs.lemmas.Nat.{mod_below, be_bytes_2, be_bytes_4, be_bytes_8, from_be_bytes-to_be_bytes_2, from_be_bytes-to_be_bytes_4, from_be_bytes-to_be_bytes_8}
use Rattle.alp_base.specs.declared.choices.Choice.{Choice}
use Rattle.alp_base.specs.declared.choices.Choice.TheVariants.{Fail, Wait}
use Rattle.alp_base.specs.declared.choices.Access.{Access}
use Rattle.alp_base.specs.declared.choices.Access.TheVariants.{ReadOnly, Change}
use Rattle.alp_base.specs.declared.key.Key.{Key}
use Rattle.alp_base.specs.declared.key.Key.TheVariants.{Leader, PageOf, OwnerOf}
use Rattle.alp_base.specs.declared.key.Resource.{Resource}
use Rattle.alp_base.specs.declared.key.Resource.TheVariants.{Whole, Leaf}
use Rattle.alp_fields.specs.Forms.{Form, IsForm, number_of, u8, u16, u32, u64, read_byte, pair, checked, sized, repeated, bytes_of, just, variant, Reader, Readers, read_tagged, read_choice, tagged, marked}
use Rattle.alp_fields.specs.Fields.{id_parts, file_id, trans_id, join_no, is_time, stamp, is_some_count, some_count, run, name, is_list_count, list_count, list, page, pages, spell_choice, choice_readers, choice, spell_access, access_readers, access, spell_flag, flag_readers, flag, spell_key, FitsKey, key_readers, key, spell_resource, FitsResource, resource_readers, resource}
use Rattle.alp_base.specs.Names.{is_name}
use Rattle.alp_base.specs.Pages.{page_bytes}
use Rattle.alp_fields.proofs.FormLaws.{Spells, step_some, guard_some, some_is, and_parts, pair_law, mapped_law, checked_law, sized_law, repeated_law, repeated_size, bytes_law, bytes_size}

-- ---- numbers

abbrev IsBytes : List ℕ → Type 0
IsBytes bytes = (i : ℕ) → get_or bytes i 0 < 256

abbrev are_bytes : List ℕ → Bool
are_bytes bs = list_all (λ b. nat_lt b 256) bs

all_bytes : (bs : List ℕ) → are_bytes bs ≡ true → IsBytes bs
all_bytes [] e i = omega arith
all_bytes (b ∷ bs) e zero = ltb-true b 256 (and_parts (nat_lt b 256) (are_bytes bs) e).0
all_bytes (b ∷ bs) e (suc i) = all_bytes bs (and_parts (nat_lt b 256) (are_bytes bs) e).1 i

byte_below : (i n : ℕ) → byte_at i n < 256
byte_below zero n = mod_below n 256 (omega arith)
byte_below (suc i) n = mod_below (n / 256 ^ suc i) 256 (omega arith)

spelled_bytes : (k n : ℕ) → are_bytes (bytes_high_first k n) ≡ true
spelled_bytes zero n = refl
spelled_bytes (suc k) n = rw (lt-ltb (byte_at k n) 256 (byte_below k n)) (spelled_bytes k n)

-- what std says of a width
record IsWide (w : Width) : Type 0 where
  len : (n : ℕ) → length (to_be_bytes w n) ≡ byte_len w
  back : (bytes : List ℕ) → length bytes ≡ byte_len w → IsBytes bytes → to_be_bytes w (from_be_bytes w bytes) ≡ bytes
  again : (n : ℕ) → n < 2 ^ (8 * byte_len w) → from_be_bytes w (to_be_bytes w n) ≡ n
  below : (bytes : List ℕ) → IsBytes bytes → from_be_bytes w bytes < 2 ^ (8 * byte_len w)

wide16 : IsWide w16
wide16 = record {
  len = λ n. refl;
  back = λ bytes len fits. be_bytes_2 bytes _ len fits refl;
  again = λ n lt. from_be_bytes-to_be_bytes_2 n lt;
  below = λ bytes fits. omega (arith, fits 0, fits 1);
}

wide32 : IsWide w32
wide32 = record {
  len = λ n. refl;
  back = λ bytes len fits. be_bytes_4 bytes _ len fits refl;
  again = λ n lt. from_be_bytes-to_be_bytes_4 n lt;
  below = λ bytes fits. omega (arith, fits 0, fits 1, fits 2, fits 3);
}

wide64 : IsWide w64
wide64 = record {
  len = λ n. refl;
  back = λ bytes len fits. be_bytes_8 bytes _ len fits refl;
  again = λ n lt. from_be_bytes-to_be_bytes_8 n lt;
  below = λ bytes fits. omega (arith, fits 0, fits 1, fits 2, fits 3, fits 4, fits 5, fits 6, fits 7);
}

number_law : (w : Width) → IsWide w → IsForm (number_of w)
number_law w wide = record {
  back = λ n rest fits.
      let front : take (byte_len w) (to_be_bytes w n ++ rest) ≡ to_be_bytes w n = take_at (to_be_bytes w n) rest (byte_len w) (wide.len n) in
      let behind : drop (byte_len w) (to_be_bytes w n ++ rest) ≡ rest = drop_at (to_be_bytes w n) rest (byte_len w) (wide.len n) in
      let test : (length (to_be_bytes w n) == byte_len w && are_bytes (to_be_bytes w n)) ≡ true = rw (eq-eqb _ _ (wide.len n)) (spelled_bytes (byte_len w) n) in
      rw (front, behind, test, wide.again n fits) refl;
  spelled = λ bytes n rest e.
      let front : List ℕ = take (byte_len w) bytes in
      let q = guard_some (length front == byte_len w && are_bytes front) (from_be_bytes w front, drop (byte_len w) bytes) (n, rest) e in
      let tests = and_parts (length front == byte_len w) (are_bytes front) q.0 in
      let fits = all_bytes front tests.1 in
      let again : to_be_bytes w (from_be_bytes w front) ≡ front = wide.back front (eqb-true (length front) (byte_len w) tests.0) fits in
      subst (Spells (number_of w) bytes) q.1 (sym (take-append-drop (byte_len w) bytes) ∙ ap (λ (bs : List ℕ). bs ++ drop (byte_len w) bytes) (sym again), wide.below front fits);
}

byte_spelled : (bytes : List ℕ) (n : ℕ) (rest : List ℕ) → read_byte bytes ≡ Some (n, rest) → (bytes ≡ n ∷ rest) × (n < 256)
byte_spelled [] n rest e = absurd cc
byte_spelled (b ∷ bs) n rest e =
    let q = guard_some (nat_lt b 256) (b, bs) (n, rest) e in
    let P : ℕ × List ℕ → Type 0 = λ x. (b ∷ bs ≡ x.0 ∷ x.1) × (x.0 < 256) in
    subst P q.1 (refl, ltb-true b 256 q.0)

pub u8_law : IsForm u8
unfolding u8
u8_law = record {
  back = λ n rest fits. rw (lt-ltb n 256 fits) refl;
  spelled = byte_spelled;
}

pub u16_law : IsForm u16
unfolding u16
u16_law = number_law w16 wide16

pub u32_law : IsForm u32
unfolding u32
u32_law = number_law w32 wide32

pub u64_law : IsForm u64
unfolding u64
u64_law = number_law w64 wide64

-- ---- choices by tag

-- a reader reads, behind the tag, what the spelling has there
abbrev pub ReadsTagged : {T : Type 0} → (T → List ℕ) → (T → Type 0) → ℕ × Reader T → Type 0
ReadsTagged {T} spell Fits choice = (bytes : List ℕ) (v : T) (rest : List ℕ) → choice.1 bytes ≡ Some (v, rest) → (choice.0 ∷ bytes ≡ spell v ++ rest) × Fits v

pub just_reads : {T : Type 0} (spell : T → List ℕ) (Fits : T → Type 0) (tag : ℕ) (v : T) → spell v ≡ tag ∷ [] → Fits v → ReadsTagged spell Fits (tag, just v)
just_reads {T} spell Fits tag v is fits bytes w rest e =
    let P : T × List ℕ → Type 0 = λ x. (tag ∷ bytes ≡ spell x.0 ++ x.1) × Fits x.0 in
    subst P (some_is (v, bytes) (w, rest) e) (ap (λ (bs : List ℕ). bs ++ bytes) (sym is), fits)

pub variant_reads : {A T : Type 0} (spell : T → List ℕ) (Fits : T → Type 0) (tag : ℕ) (into : A → T) (a : Form A) → IsForm a → ((v : A) → spell (into v) ≡ tag ∷ a.spell v) → ((v : A) → a.Fits v → Fits (into v)) → ReadsTagged spell Fits (tag, variant into a)
variant_reads {A} {T} spell Fits tag into a la is fits bytes w rest e =
    let p = step_some (a.read bytes) (λ x. Some (into x.0, x.1)) (w, rest) e in
    let front = la.spelled bytes p.0.0 p.0.1 p.1 in
    let P : T × List ℕ → Type 0 = λ x. (tag ∷ bytes ≡ spell x.0 ++ x.1) × Fits x.0 in
    let made : T × List ℕ = (into p.0.0, p.0.1) in
    subst P (some_is made (w, rest) p.2)
    (ap (λ (bs : List ℕ). tag ∷ bs) front.0 ∙ ap (λ (bs : List ℕ). bs ++ p.0.1) (sym (is p.0.0)), fits p.0.0 front.1)

pub variant_back : {A T : Type 0} (into : A → T) (a : Form A) → IsForm a → (v : A) (rest : List ℕ) → a.Fits v → variant into a (a.spell v ++ rest) ≡ Some (into v, rest)
variant_back into a la v rest fits = rw (la.back v rest fits) refl

chosen : {X : Type 0} (b : Bool) (x y z : X) → cond b x y ≡ z → ((b ≡ true) × (x ≡ z)) ⊎ ((b ≡ false) × (y ≡ z))
chosen true x y z e = inl (refl, e)
chosen false x y z e = inr (refl, e)

tagged_reads : {T : Type 0} (spell : T → List ℕ) (Fits : T → Type 0) (choices : Readers T) → AllByRecursion (ReadsTagged spell Fits) choices
    → (tag : ℕ) (bytes : List ℕ) (v : T) (rest : List ℕ) → read_tagged choices tag bytes ≡ Some (v, rest) → (tag ∷ bytes ≡ spell v ++ rest) × Fits v
tagged_reads spell Fits [] all tag bytes v rest e = absurd cc
tagged_reads {T} spell Fits (choice ∷ choices) all tag bytes v rest e =
    elim (chosen (tag == choice.0) (choice.1 bytes) (read_tagged choices tag bytes) (Some (v, rest)) e) [
      | inl here ↦ subst (λ (k : ℕ). (k ∷ bytes ≡ spell v ++ rest) × Fits v) (sym (eqb-true tag choice.0 here.0)) (all.0 bytes v rest here.1)
      | inr there ↦ tagged_reads spell Fits choices all.1 tag bytes v rest there.1
    ]

pub u8_spell : (n : ℕ) → u8.spell n ≡ n ∷ []
unfolding u8
u8_spell n = refl

pub u8_fits : (n : ℕ) → n < 256 → u8.Fits n
unfolding u8
u8_fits n lt = lt

-- the tag in front is read, and then its reader reads
pub tag_back : {T : Type 0} (choices : Readers T) (tag : ℕ) (bytes : List ℕ) → tag < 256 → read_choice choices (tag ∷ bytes) ≡ read_tagged choices tag bytes
tag_back choices tag bytes lt =
    let one : u8.read (tag ∷ bytes) ≡ Some (tag, bytes) = ap (λ (bs : List ℕ). u8.read (bs ++ bytes)) (sym (u8_spell tag)) ∙ u8_law.back tag bytes (u8_fits tag lt) in
    rw one refl

pub tagged_law : {T : Type 0} (spell : T → List ℕ) (Fits : T → Type 0) (choices : Readers T) → ((v : T) (rest : List ℕ) → Fits v → read_choice choices (spell v ++ rest) ≡ Some (v, rest))
    → AllByRecursion (ReadsTagged spell Fits) choices → IsForm (tagged spell Fits choices)
tagged_law spell Fits choices back reads = record {
  back = back;
  spelled = λ bytes v rest e.
      let p = step_some (u8.read bytes) (λ tag. read_tagged choices tag.0 tag.1) (v, rest) e in
      let front = u8_law.spelled bytes p.0.0 p.0.1 p.1 in
      let whole = tagged_reads spell Fits choices reads p.0.0 p.0.1 v rest p.2 in
      (front.0 ∙ ap (λ (bs : List ℕ). bs ++ p.0.1) (u8_spell p.0.0) ∙ whole.0, whole.1);
}

pub marked_law : {T : Type 0} (mark : ℕ) (a : Form T) → mark < 256 → IsForm a → IsForm (marked mark a)
marked_law {T} mark a lt la = tagged_law (λ (v : T). mark ∷ a.spell v) a.Fits ((mark, a.read) ∷ [])
    (λ v rest fits. tag_back ((mark, a.read) ∷ []) mark (a.spell v ++ rest) lt ∙ rw (eq-eqb mark mark refl, la.back v rest fits) refl)
    ((λ bytes v rest e. (ap (λ (bs : List ℕ). mark ∷ bs) (la.spelled bytes v rest e).0, (la.spelled bytes v rest e).1)), tt)

-- ---- ids, stamps and runs

id_parts_law : IsForm id_parts
id_parts_law = pair_law u8 (pair u32 u32) u8_law (pair_law u32 u32 u32_law u32_law)

pub file_id_law : IsForm file_id
unfolding file_id
file_id_law = mapped_law _ _ id_parts (λ v. refl) (λ x. refl) id_parts_law

pub trans_id_law : IsForm trans_id
unfolding trans_id
trans_id_law = mapped_law _ _ id_parts (λ v. refl) (λ x. refl) id_parts_law

pub join_no_law : IsForm join_no
unfolding join_no
join_no_law = mapped_law _ _ id_parts (λ v. refl) (λ x. refl) id_parts_law

pub stamp_law : IsForm stamp
unfolding stamp
stamp_law = mapped_law _ _ (pair (checked is_time u64) trans_id) (λ v. refl) (λ x. refl) (pair_law (checked is_time u64) trans_id (checked_law is_time u64 u64_law) trans_id_law)

pub some_count_law : IsForm some_count
unfolding some_count
some_count_law = checked_law is_some_count u8 u8_law

pub run_law : IsForm run
unfolding run
run_law = mapped_law _ _ (pair u32 some_count) (λ v. refl) (λ x. refl) (pair_law u32 some_count u32_law some_count_law)

-- ---- names, lists and pages

pub name_law : IsForm name
unfolding name
name_law = checked_law is_name (sized u8 bytes_of length) (sized_law u8 bytes_of length u8_law bytes_law bytes_size)

pub list_law : IsForm list
unfolding list list_count
list_law = sized_law list_count (repeated name) length (checked_law is_list_count u8 u8_law) (λ n. repeated_law name n name_law) (λ n vs fits. repeated_size name n vs fits)

pub page_law : IsForm page
unfolding page
page_law = bytes_law page_bytes

pub pages_law : IsForm pages
unfolding pages
pages_law = sized_law some_count (repeated page) length some_count_law (λ n. repeated_law page n page_law) (λ n vs fits. repeated_size page n vs fits)

-- ---- choices of two

pub choice_law : IsForm choice
unfolding choice
choice_law = tagged_law spell_choice (λ _. Unit {0}) choice_readers back (just_reads spell_choice (λ _. Unit {0}) 0 Fail refl tt, (just_reads spell_choice (λ _. Unit {0}) 1 Wait refl tt, tt))
  where
    back : (v : Choice) (rest : List ℕ) → Unit {0} → read_choice choice_readers (spell_choice v ++ rest) ≡ Some (v, rest)
    back Fail rest fits = tag_back choice_readers 0 rest (omega arith)
    back Wait rest fits = tag_back choice_readers 1 rest (omega arith)

pub access_law : IsForm access
unfolding access
access_law = tagged_law spell_access (λ _. Unit {0}) access_readers back (just_reads spell_access (λ _. Unit {0}) 0 ReadOnly refl tt, (just_reads spell_access (λ _. Unit {0}) 1 Change refl tt, tt))
  where
    back : (v : Access) (rest : List ℕ) → Unit {0} → read_choice access_readers (spell_access v ++ rest) ≡ Some (v, rest)
    back ReadOnly rest fits = tag_back access_readers 0 rest (omega arith)
    back Change rest fits = tag_back access_readers 1 rest (omega arith)

pub flag_law : IsForm flag
unfolding flag
flag_law = tagged_law spell_flag (λ _. Unit {0}) flag_readers back (just_reads spell_flag (λ _. Unit {0}) 0 false refl tt, (just_reads spell_flag (λ _. Unit {0}) 1 true refl tt, tt))
  where
    back : (v : Bool) (rest : List ℕ) → Unit {0} → read_choice flag_readers (spell_flag v ++ rest) ≡ Some (v, rest)
    back false rest fits = tag_back flag_readers 0 rest (omega arith)
    back true rest fits = tag_back flag_readers 1 rest (omega arith)

-- ---- keys and resources

place_law : IsForm (pair file_id u32)
place_law = pair_law file_id u32 file_id_law u32_law

pub key_law : IsForm key
unfolding key
key_law = tagged_law spell_key FitsKey key_readers back (
  variant_reads spell_key FitsKey 1 Leader file_id file_id_law (λ v. refl) (λ v fits. fits),
  (
    variant_reads spell_key FitsKey 2 (λ x. PageOf x.0 x.1) (pair file_id u32) place_law (λ v. refl) (λ v fits. fits),
    (variant_reads spell_key FitsKey 3 OwnerOf name name_law (λ v. refl) (λ v fits. fits), tt),
  ),
)
  where
    back : (v : Key) (rest : List ℕ) → FitsKey v → read_choice key_readers (spell_key v ++ rest) ≡ Some (v, rest)
    back (Leader file) rest fits = tag_back key_readers 1 (file_id.spell file ++ rest) (omega arith) ∙ variant_back Leader file_id file_id_law file rest fits
    back (PageOf file n) rest fits = tag_back key_readers 2 ((file_id.spell file ++ u32.spell n) ++ rest) (omega arith) ∙ variant_back (λ x. PageOf x.0 x.1) (pair file_id u32) place_law (file, n) rest fits
    back (OwnerOf owner) rest fits = tag_back key_readers 3 (name.spell owner ++ rest) (omega arith) ∙ variant_back OwnerOf name name_law owner rest fits

pub resource_law : IsForm resource
unfolding resource
resource_law = tagged_law spell_resource FitsResource resource_readers back (
  variant_reads spell_resource FitsResource 0 Whole file_id file_id_law (λ v. refl) (λ v fits. fits),
  (
    variant_reads spell_resource FitsResource 1 (λ f. Leaf (Leader f)) file_id file_id_law (λ v. refl) (λ v fits. fits),
    (
      variant_reads spell_resource FitsResource 2 (λ x. Leaf (PageOf x.0 x.1)) (pair file_id u32) place_law (λ v. refl) (λ v fits. fits),
      (variant_reads spell_resource FitsResource 3 (λ n. Leaf (OwnerOf n)) name name_law (λ v. refl) (λ v fits. fits), tt),
    ),
  ),
)
  where
    back : (v : Resource) (rest : List ℕ) → FitsResource v → read_choice resource_readers (spell_resource v ++ rest) ≡ Some (v, rest)
    back (Whole file) rest fits = tag_back resource_readers 0 (file_id.spell file ++ rest) (omega arith) ∙ variant_back Whole file_id file_id_law file rest fits
    back (Leaf (Leader file)) rest fits = tag_back resource_readers 1 (file_id.spell file ++ rest) (omega arith) ∙ variant_back (λ f. Leaf (Leader f)) file_id file_id_law file rest fits
    back (Leaf (PageOf file n)) rest fits = tag_back resource_readers 2 ((file_id.spell file ++ u32.spell n) ++ rest) (omega arith) ∙ variant_back (λ x. Leaf (PageOf x.0 x.1)) (pair file_id u32) place_law (file, n) rest fits
    back (Leaf (OwnerOf owner)) rest fits = tag_back resource_readers 3 (name.spell owner ++ rest) (omega arith) ∙ variant_back (λ n. Leaf (OwnerOf n)) name name_law owner rest fits
