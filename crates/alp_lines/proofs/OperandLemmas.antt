-- what is known of the operands of a line
use Rattle.std.specs.Prelude.{nat_le, ◌==◌, ◌%◌, ◌&&◌, Bool, Option, None, Some, IfSome, cond, codes}
use Rattle.std.specs.List.{list_all}
use Rattle.std.proofs.Common.{◌≡◌, ℕ, ◌-◌, ◌<◌, ◌≤◌, ◌^◌, List, [], ◌∷◌, length, true, false, refl, sym, subst, arith}
use Rattle.std.proofs.lemmas.Bool.{leb-true, and_parts}
use Rattle.alp_base.specs.Names.{is_between, is_name}
use Rattle.alp_base.specs.declared.choices.Choice.{Choice}
use Rattle.alp_base.specs.declared.lists.TheConstants.{NAMES_PER_LIST}
use Rattle.alp_modes.specs.declared.Mode.{Mode}
use Rattle.alp_modes.specs.declared.Mode.TheVariants as mode
use Rattle.alp_tokens.specs.Words.{◌>>=◌, when, says, parts_at}
use Rattle.alp_tokens.specs.Numbers.{is_numeral, value_from, number_of, within, word16_of, word32_of, word64_of}
use Rattle.alp_tokens.specs.Names.{name_of, names_of, list_of, text_of}
use Rattle.alp_tokens.specs.declared.names.TheConstants.{TEXT_BYTES}
use Rattle.alp_lines.specs.Hex.{is_hex_digit, pairs_of, hex_of}
use Rattle.alp_lines.specs.Operands.{run_of, choice_of, everyone, its_owner, access_of, is_page_mode, page_mode_of, reading_of, change_of}
use Rattle.alp_lines.specs.Forms.{IsRunOfPages, IsPageMode, IsText, IsChange}
use Rattle.alp_lines.specs.declared.limits.TheConstants.{RUN_MOST}

-- ---- what holds of a value, where there is one

-- of a value that hangs on another
pub then : {A B : Type 0} (P : B → Type 0) (o : Option A) (f : A → Option B) → ((a : A) → IfSome (f a) P) → IfSome (o >>= f) P
then P None f h = tt
then P (Some a) f h = h a

-- of a value that hangs on another of which something holds
pub then_of : {A B : Type 0} (Q : A → Type 0) (P : B → Type 0) (o : Option A) (f : A → Option B) → IfSome o Q → ((a : A) → Q a → IfSome (f a) P) → IfSome (o >>= f) P
then_of Q P None f q h = tt
then_of Q P (Some a) f q h = h a q

-- of a value that hangs on another, which hangs on a third
in_turn : {A B C : Type 0} (P : C → Type 0) (o : Option A) (g : A → Option B) (f : B → Option C) → IfSome (o >>= λ a. g a >>= f) P → IfSome ((o >>= g) >>= f) P
in_turn P None g f h = tt
in_turn P (Some a) g f h = h

-- of one of two
pub either : {A : Type 0} (P : A → Type 0) (b : Bool) (x y : Option A) → IfSome x P → IfSome y P → IfSome (cond b x y) P
either P true x y p q = p
either P false x y p q = q

-- of a value that is there where a test holds
pub where_true : {A : Type 0} (P : A → Type 0) (b : Bool) (x : A) → (b ≡ true → P x) → IfSome (when b x) P
where_true P true x h = h refl
where_true P false x h = tt

-- ---- operands

number_small : (most : ℕ) (w : List ℕ) → IfSome (number_of most w) (λ n. n ≤ most)
unfolding number_of
number_small most w = where_true _ (is_numeral w && nat_le (value_from 0 w) most) (value_from 0 w) (λ h. leb-true _ _ (and_parts (is_numeral w) _ h).1)

-- a number of 32 bits
abbrev pub IsSmall : ℕ → Type 0
IsSmall n = n < 2 ^ 32

pub word32_small : (w : List ℕ) → IfSome (word32_of w) IsSmall
word32_small w = go (word32_of w) (number_small (2 ^ 32 - 1) w)
  where
    go : (o : Option ℕ) → IfSome o (λ n. n ≤ 2 ^ 32 - 1) → IfSome o IsSmall
    go None h = tt
    go (Some n) h = omega arith

-- and one of 64 bits
abbrev pub IsPick : ℕ → Type 0
IsPick n = n < 2 ^ 64

pub word64_small : (w : List ℕ) → IfSome (word64_of w) IsPick
word64_small w = go (word64_of w) (number_small (2 ^ 64 - 1) w)
  where
    go : (o : Option ℕ) → IfSome o (λ n. n ≤ 2 ^ 64 - 1) → IfSome o IsPick
    go None h = tt
    go (Some n) h = omega arith

-- a number of a range
pub record IsWithin (low high n : ℕ) : Type 0 where
  pub least : low ≤ n
  pub most : n ≤ high

pub within_range : (low high : ℕ) (w : List ℕ) → IfSome (within low high w) (IsWithin low high)
unfolding within
within_range low high w =
    then_of (λ n. n ≤ high) (IsWithin low high) (number_of high w) _ (number_small high w) (λ n most. where_true (IsWithin low high) (nat_le low n) n (λ h. record { least = leb-true low n h; most = most }))

pub run_formed : (first count : List ℕ) → IfSome (run_of first count) IsRunOfPages
unfolding run_of
run_formed first count = then IsRunOfPages (word32_of first) _ (λ f. then_of (IsWithin 1 RUN_MOST) IsRunOfPages (within 1 RUN_MOST count) _ (within_range 1 RUN_MOST count) (λ n h. record { some = h.least; few = h.most }))

pub text_formed : (w : List ℕ) → IfSome (text_of w) IsText
unfolding text_of
text_formed w = where_true IsText (nat_le 1 (length w) && nat_le (length w) TEXT_BYTES && list_all (is_between 33 126) w) w (λ h.
    let both = and_parts (nat_le 1 (length w) && nat_le (length w) TEXT_BYTES) _ h in
    let ends = and_parts (nat_le 1 (length w)) _ both.0 in
    record { some = leb-true _ _ ends.0; short = leb-true _ _ ends.1 })

-- bytes of which there are some
abbrev pub IsBytes : List ℕ → Type 0
IsBytes bytes = 0 < length bytes

pairs_some : (w : List ℕ) → 2 ≤ length w → IsBytes (pairs_of w)
pairs_some [] h = omega (arith, h)
pairs_some (a ∷ []) h = omega (arith, h)
pairs_some (a ∷ b ∷ more) h = omega arith

pub hex_some : (w : List ℕ) → IfSome (hex_of w) IsBytes
unfolding hex_of
hex_some w = where_true IsBytes (nat_le 2 (length w) && length w % 2 == 0 && list_all is_hex_digit w) (pairs_of w) (λ h.
    let both = and_parts (nat_le 2 (length w) && length w % 2 == 0) _ h in
    let ends = and_parts (nat_le 2 (length w)) _ both.0 in
    pairs_some w (leb-true _ _ ends.0))

-- a list has not too many names
abbrev pub IsFew : List (List ℕ) → Type 0
IsFew names = length names ≤ NAMES_PER_LIST

few_names : (ws : List (List ℕ)) → IfSome (names_of ws) IsFew
unfolding names_of
few_names ws = where_true IsFew (nat_le (length ws) NAMES_PER_LIST && list_all is_name ws) ws (λ h. leb-true _ _ (and_parts (nat_le (length ws) NAMES_PER_LIST) _ h).0)

pub list_few : (w : List ℕ) → IfSome (list_of w) IsFew
unfolding list_of
list_few w = either IsFew (says w (codes "-")) (Some []) (names_of (parts_at 44 w)) (omega arith) (few_names (parts_at 44 w))

-- what hangs on lists and a choice
pub admitted : {B : Type 0} (P : B → Type 0) (end : List (List ℕ)) (f : List (List ℕ) × List (List ℕ) × Choice → Option B)
    → ((read modify : List (List ℕ)) (wish : Choice) → IsFew read → IsFew modify → IfSome (f (read, modify, wish)) P) → IfSome (access_of end >>= f) P
unfolding access_of
admitted P [] f h = in_turn P (choice_of []) _ f (then P (choice_of []) _ (λ wish. h everyone its_owner wish (omega arith) (omega arith)))
admitted P (w ∷ []) f h = in_turn P (choice_of (w ∷ [])) _ f (then P (choice_of (w ∷ [])) _ (λ wish. h everyone its_owner wish (omega arith) (omega arith)))
admitted P (a ∷ b ∷ end) f h =
    in_turn P (list_of a) _ f (then_of IsFew P (list_of a) _ (list_few a) (λ r read.
    in_turn P (list_of b) _ f (then_of IsFew P (list_of b) _ (list_few b) (λ m modify.
    in_turn P (choice_of end) _ f (then P (choice_of end) _ (λ wish. h r m wish read modify))))))

pub page_mode_formed : (w : List ℕ) → IfSome (page_mode_of w) IsPageMode
unfolding page_mode_of
page_mode_formed w =
    either IsPageMode (says w (codes "r")) _ _ tt
    (either IsPageMode (says w (codes "u")) _ _ tt
    (either IsPageMode (says w (codes "w")) _ None tt tt))

-- what hangs on a mode of pages and a choice
pub read_so : {B : Type 0} (P : B → Type 0) (end : List (List ℕ)) (f : Mode × Choice → Option B) → ((m : Mode) (wish : Choice) → IsPageMode m → IfSome (f (m, wish)) P) → IfSome (reading_of end >>= f) P
unfolding reading_of
read_so P [] f h = in_turn P (choice_of []) _ f (then P (choice_of []) _ (λ wish. h mode.Read wish tt))
read_so P (w ∷ end) f h = go (is_page_mode w)
  where
    go : (b : Bool) → IfSome (cond b (page_mode_of w >>= λ m. choice_of end >>= λ c. Some (m, c)) (choice_of (w ∷ end) >>= λ c. Some (mode.Read, c)) >>= f) P
    go true = in_turn P (page_mode_of w) _ f (then_of IsPageMode P (page_mode_of w) _ (page_mode_formed w) (λ m fit. in_turn P (choice_of end) _ f (then P (choice_of end) _ (λ wish. h m wish fit))))
    go false = in_turn P (choice_of (w ∷ end)) _ f (then P (choice_of (w ∷ end)) _ (λ wish. h mode.Read wish tt))

pub change_formed : (property value : List ℕ) → IfSome (change_of property value) IsChange
unfolding change_of
change_formed property value =
    either IsChange (says property (codes "owner")) _ _ (then IsChange (name_of value) _ (λ n. tt))
    (either IsChange (says property (codes "name")) _ _ (then IsChange (name_of value) _ (λ n. tt))
    (either IsChange (says property (codes "type")) _ _ (then IsChange (word16_of value) _ (λ n. tt))
    (either IsChange (says property (codes "bytes")) _ _ (then IsChange (word64_of value) _ (λ n. tt))
    (either IsChange (says property (codes "read")) _ _ (then_of IsFew IsChange (list_of value) _ (list_few value) (λ l few. few))
    (either IsChange (says property (codes "modify")) _ None (then_of IsFew IsChange (list_of value) _ (list_few value) (λ l few. few)) tt)))))
