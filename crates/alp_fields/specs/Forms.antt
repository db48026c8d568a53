-- Forms: how values are spelled as bytes, and how they are read from the front of bytes.
use Rattle.std.specs.Prelude.{◌≡◌, ℕ, zero, suc, ◌*◌, ◌<◌, ◌^◌, Bool, true, ◌&&◌, ◌==◌, nat_lt, nat_le, List, [], ◌∷◌, ◌++◌, length, take, drop, replicate, Option, Some, None, if◌then◌else◌}
use Rattle.alp_base.specs.Pages.{overwritten}
use Rattle.std.specs.List.{flat_map, list_all, AllByRecursion}
use Rattle.std.specs.Int.{Width, w16, w32, w64, byte_len, to_be_bytes, from_be_bytes}

-- A form of the values of T: the bytes that spell a value, which values have a spelling, and what is read
-- from the front of bytes, with the bytes that follow it. Nothing is read where no spelling stands in front.
pub record Form (T : Type 0) : Type 1 where
  pub spell : T → List ℕ
  pub Fits : T → Type 0
  pub read : List ℕ → Option (T × List ℕ)

-- the laws of a form: what is spelled is read back whatever follows, and what is read was so spelled
pub record IsForm {T : Type 0} (form : Form T) : Type 0 where
  pub back : (v : T) (rest : List ℕ) → form.Fits v → form.read (form.spell v ++ rest) ≡ Some (v, rest)
  pub spelled : (bytes : List ℕ) (v : T) (rest : List ℕ) → form.read bytes ≡ Some (v, rest) → (bytes ≡ form.spell v ++ rest) × form.Fits v

-- each spelling has this length
abbrev pub HasLength : {T : Type 0} → Form T → ℕ → Type 0
HasLength {T} form n = (v : T) → form.Fits v → length (form.spell v) ≡ n

-- ---- what functions say of a form

-- A reader at old answered this and stands at new: the value and what follows it, or nothing where none is read.
abbrev pub IsRead : {T : Type 0} → Form T → List ℕ → List ℕ → Option T → Type 0
IsRead form old new None = form.read old ≡ None
IsRead form old new (Some v) = form.read old ≡ Some (v, new)

-- A writer appended the spelling of the value, which is one that is read back.
pub record IsWritten {T : Type 0} (form : Form T) (v : T) (old new : List ℕ) : Type 0 where
  pub appended : new ≡ old ++ form.spell v
  pub fits : form.Fits v

-- what was read, if nothing follows it
abbrev pub ended : {T : Type 0} → Option (T × List ℕ) → Option T
ended None = None
ended (Some x) = if length x.1 == 0 then Some x.0 else None

-- new is old with something or nothing behind it
abbrev pub Extends : List ℕ → List ℕ → Type 0
Extends old new = take (length old) new ≡ old

-- A writer put the spelling of the value, which is one that is read back, at that place.
pub record IsSet {T : Type 0} (form : Form T) (v : T) (at : ℕ) (old new : List ℕ) : Type 0 where
  pub set : new ≡ overwritten old at (form.spell v)
  pub fits : form.Fits v

-- the value that all of the bytes spell, if they spell one
abbrev pub whole : {T : Type 0} → Form T → List ℕ → Option T
whole form bytes = ended (form.read bytes)

-- ---- forms of parts

-- what is read next, if something was read
infixl 10 ◌>>=◌
abbrev pub ◌>>=◌ : {A B : Type 0} → Option (A × List ℕ) → (A × List ℕ → Option (B × List ℕ)) → Option (B × List ℕ)
None >>= next = None
(Some x) >>= next = next x

-- one, and then the other
abbrev pub pair : {A B : Type 0} → Form A → Form B → Form (A × B)
pair {A} {B} a b = record {
  spell = λ v. a.spell v.0 ++ b.spell v.1;
  Fits = λ v. a.Fits v.0 × b.Fits v.1;
  read = λ bytes. do
    x ← a.read bytes
    y ← b.read x.1
    Some ((x.0, y.0), y.1);
}

-- the same bytes for other values, which correspond one to one
abbrev pub mapped : {A T : Type 0} → (A → T) → (T → A) → Form A → Form T
mapped into out a = record {
  spell = λ v. a.spell (out v);
  Fits = λ v. a.Fits (out v);
  read = λ bytes. do
    x ← a.read bytes
    Some (into x.0, x.1);
}

-- only the values that pass the test
abbrev pub checked : {A : Type 0} → (A → Bool) → Form A → Form A
checked test a = record {
  spell = a.spell;
  Fits = λ v. a.Fits v × (test v ≡ true);
  read = λ bytes. do
    x ← a.read bytes
    if test x.0 then Some x else None;
}

-- a number that says what follows, and then that
abbrev pub sized : {A : Type 0} → Form ℕ → (ℕ → Form A) → (A → ℕ) → Form A
sized number body size = record {
  spell = λ v. number.spell (size v) ++ (body (size v)).spell v;
  Fits = λ v. number.Fits (size v) × (body (size v)).Fits v;
  read = λ bytes. do
    n ← number.read bytes
    (body n.0).read n.1;
}

-- n in a row
abbrev pub read_repeated : {A : Type 0} → Form A → ℕ → List ℕ → Option (List A × List ℕ)
read_repeated a zero bytes = Some ([], bytes)
read_repeated a (suc n) bytes = do
  x ← a.read bytes
  xs ← read_repeated a n x.1
  Some (x.0 ∷ xs.0, xs.1)

abbrev pub repeated : {A : Type 0} → Form A → ℕ → Form (List A)
repeated a n = record {
  spell = flat_map a.spell;
  Fits = λ vs. (length vs ≡ n) × AllByRecursion a.Fits vs;
  read = read_repeated a n;
}

-- n zeros, which say nothing
abbrev pub zeros_of : ℕ → Form (Unit {0})
zeros_of n = record {
  spell = λ _. replicate n 0;
  Fits = λ _. Unit {0};
  read = λ bytes. if nat_le n (length bytes) && list_all (λ b. b == 0) (take n bytes) then Some (tt, drop n bytes) else None;
}

-- that, and n zeros behind it
abbrev pub zeros_behind : {A : Type 0} → ℕ → Form A → Form A
zeros_behind n a = mapped (λ x. x.0) (λ v. (v, tt)) (pair a (zeros_of n))

-- ---- forms of bytes and numbers

-- n bytes, whatever they are
abbrev pub bytes_of : ℕ → Form (List ℕ)
bytes_of n = record {
  spell = λ v. v;
  Fits = λ v. length v ≡ n;
  read = λ bytes. if nat_le n (length bytes) then Some (take n bytes, drop n bytes) else None;
}

-- a number of some width, its highest byte first
abbrev pub number_of : Width → Form ℕ
number_of w = record {
  spell = to_be_bytes w;
  Fits = λ n. n < 2 ^ (8 * byte_len w);
  read = λ bytes. let front = take (byte_len w) bytes in
      if length front == byte_len w && list_all (λ b. nat_lt b 256) front then Some (from_be_bytes w front, drop (byte_len w) bytes) else None;
}

-- ---- numbers: their bytes, the highest first

abbrev pub read_byte : List ℕ → Option (ℕ × List ℕ)
read_byte [] = None
read_byte (b ∷ rest) = if nat_lt b (2 ^ 8) then Some (b, rest) else None

unfoldable pub u8 : Form ℕ
u8 = record { spell = λ n. n ∷ []; Fits = λ n. n < 2 ^ 8; read = read_byte }

unfoldable pub u16 : Form ℕ
u16 = number_of w16

unfoldable pub u32 : Form ℕ
u32 = number_of w32

unfoldable pub u64 : Form ℕ
u64 = number_of w64

-- ---- choices: a tag in front, and what goes with it

abbrev pub Reader : Type 0 → Type 0
Reader T = List ℕ → Option (T × List ℕ)

-- the readers of the values of a type, each with its tag
abbrev pub Readers : Type 0 → Type 0
Readers T = List (ℕ × Reader T)

-- the reader of a variant that is its tag alone
abbrev pub just : {T : Type 0} → T → Reader T
just v bytes = Some (v, bytes)

-- the reader of a variant that has a value behind its tag
abbrev pub variant : {A T : Type 0} → (A → T) → Form A → Reader T
variant into a bytes = do
  x ← a.read bytes
  Some (into x.0, x.1)

-- the reader that goes with the tag
abbrev pub read_tagged : {T : Type 0} → Readers T → ℕ → Reader T
read_tagged [] tag bytes = None
read_tagged (reader ∷ readers) tag bytes = if tag == reader.0 then reader.1 bytes else read_tagged readers tag bytes

-- a tag, and what its reader reads
abbrev pub read_choice : {T : Type 0} → Readers T → Reader T
read_choice readers bytes = do
  tag ← u8.read bytes
  read_tagged readers tag.0 tag.1

-- values that are told apart by their tags: their spellings, and the readers by tag
abbrev pub tagged : {T : Type 0} → (T → List ℕ) → (T → Type 0) → Readers T → Form T
tagged spell Fits readers = record { spell = spell; Fits = Fits; read = read_choice readers }

-- Two spellings with whatever behind them are one, and one value's: no value has two, no two values share one,
-- and none begins a longer one.
abbrev pub SpellsOnce : {T : Type 0} → Form T → Type 0
SpellsOnce {T} form = (v w : T) (rest others : List ℕ) → form.Fits v → form.Fits w → form.spell v ++ rest ≡ form.spell w ++ others → (v ≡ w) × (rest ≡ others)

-- a byte that is always the same, and then the value
abbrev pub marked : {T : Type 0} → ℕ → Form T → Form T
marked mark a = tagged (λ v. mark ∷ a.spell v) a.Fits ((mark, a.read) ∷ [])
