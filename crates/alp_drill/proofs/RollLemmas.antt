-- what is made in turn, step by step
use Rattle.std.specs.Prelude.{flat_map, get_or}
use Rattle.std.specs.List.{range_with_len, All}
use Rattle.std.proofs.Common.{◌≡◌, ℕ, zero, suc, ◌+◌, ◌<◌, List, [], ◌∷◌, ◌++◌, map, length, refl, sym, ◌∙◌, ap, arith, add-one, append_assoc, append-nil}
use Rattle.std.proofs.lemmas.List.Concat.{flat_map-append}
use Rattle.std.proofs.lemmas.List.FromFn.{map-range_with_len_more}
use Rattle.alp_lines.specs.declared.line.Line.{Line}
use Rattle.alp_drill.specs.declared.dice.Dice.{Dice}
use Rattle.alp_drill.specs.Adds.{Adds}
use Rattle.alp_drill.specs.Rolls.{in_turn, both}
use Rattle.alp_drill.specs.Storms.{as_one}

module _ {X Y : Type 0} (make : X → Dice → List Y × Dice) where
  -- one more at the end
  pub in_turn_push : (xs : List X) (x : X) (dice : Dice)
      → in_turn make (xs ++ x ∷ []) dice ≡ ((in_turn make xs dice).0 ++ (make x (in_turn make xs dice).1).0, (make x (in_turn make xs dice).1).1)
  in_turn_push [] x dice = ap (λ (l : List Y). (l, (make x dice).1)) (append-nil (make x dice).0)
  in_turn_push (w ∷ xs) x dice =
      let first = make w dice in
      let others = in_turn make xs first.1 in
      let last = make x others.1 in
      ap (λ (p : List Y × Dice). (first.0 ++ p.0, p.1)) (in_turn_push xs x first.1)
      ∙ ap (λ (l : List Y). (l, last.1)) (sym (append_assoc first.0 others.0 last.0))

range_push : (a n j : ℕ) → a + n ≡ j → range_with_len a (suc n) ≡ range_with_len a n ++ j ∷ []
range_push a zero j same = ap (λ k. k ∷ []) (omega (arith, same))
range_push a (suc n) j same = ap (λ l. a ∷ l) (range_push (a + 1) n j (omega (arith, same)))

pub range_more : (a n j : ℕ) → a + n ≡ j → range_with_len a (n + 1) ≡ range_with_len a n ++ j ∷ []
range_more a n j same = ap (range_with_len a) (add-one n) ∙ range_push a n j same

pub in_turn_more : {Y : Type 0} (make : ℕ → Dice → List Y × Dice) (i : ℕ) (dice : Dice)
    → in_turn make (range_with_len 0 (i + 1)) dice
    ≡ ((in_turn make (range_with_len 0 i) dice).0 ++ (make i (in_turn make (range_with_len 0 i) dice).1).0, (make i (in_turn make (range_with_len 0 i) dice).1).1)
in_turn_more make i dice =
    ap (λ l. in_turn make l dice) (range_more 0 i i (omega arith)) ∙ in_turn_push make (range_with_len 0 i) i dice

-- ---- lines behind lines

pub adds_then : (before mid after : List Line) (first last : Dice) (told : List Line × Dice) (make : Dice → List Line × Dice)
    → Adds before mid first told → Adds mid after last (make first) → Adds before after last (told.0 ++ (make told.1).0, (make told.1).1)
adds_then before mid after first last told make one other = record {
  lines = other.lines ∙ ap (λ l. l ++ (make first).0) one.lines ∙ append_assoc before told.0 (make first).0
      ∙ ap (λ (d : Dice). before ++ (told.0 ++ (make d).0)) one.dice;
  dice = other.dice ∙ ap (λ (d : Dice). (make d).1) one.dice;
}

pub adds_both : (before mid after : List Line) (start first last : Dice) (one other : Dice → List Line × Dice)
    → Adds before mid first (one start) → Adds mid after last (other first) → Adds before after last (both one other start)
adds_both before mid after start first last one other = adds_then before mid after first last (one start) other

pub adds_turn : (make : ℕ → Dice → List Line × Dice) (i : ℕ) (before mid after : List Line) (start first last : Dice)
    → Adds before mid first (in_turn make (range_with_len 0 i) start) → Adds mid after last (make i first)
    → Adds before after last (in_turn make (range_with_len 0 (i + 1)) start)
adds_turn make i before mid after start first last one other =
    let both = adds_then before mid after first last (in_turn make (range_with_len 0 i) start) (make i) one other in
    let more = in_turn_more make i start in
    record {
      lines = both.lines ∙ ap (λ (p : List Line × Dice). before ++ p.0) (sym more);
      dice = both.dice ∙ ap (λ (p : List Line × Dice). p.1) (sym more);
    }

-- some lines that nothing is rolled for, and then more
pub adds_front : (before mid after front : List Line) (last : Dice) (told : List Line × Dice)
    → mid ≡ before ++ front → Adds mid after last told → Adds before after last (front ++ told.0, told.1)
adds_front before mid after front last told one other = record {
  lines = other.lines ∙ ap (λ l. l ++ told.0) one ∙ append_assoc before front told.0;
  dice = other.dice;
}

pub two_lines : (before mid after : List Line) (a b : Line) → mid ≡ before ++ a ∷ [] → after ≡ mid ++ b ∷ [] → after ≡ before ++ (a ∷ b ∷ [])
two_lines before mid after a b one other = other ∙ ap (λ l. l ++ b ∷ []) one ∙ append_assoc before (a ∷ []) (b ∷ [])

-- ---- a line for each number, and lines for each number

pub mapped_more : (line : ℕ → Line) (a i j : ℕ) (before mid after front : List Line) → a + i ≡ j
    → mid ≡ before ++ (front ++ map line (range_with_len a i)) → after ≡ mid ++ line j ∷ [] → after ≡ before ++ (front ++ map line (range_with_len a (i + 1)))
mapped_more line a i j before mid after front same so_far here =
    let there = map line (range_with_len a i) in
    here ∙ ap (λ l. l ++ line j ∷ []) so_far ∙ append_assoc before (front ++ there) (line j ∷ [])
    ∙ ap (λ l. before ++ l) (append_assoc front there (line j ∷ []) ∙ ap (λ l. front ++ l) (sym (map-range_with_len_more line a i j same)))

flat_more : (lines : ℕ → List Line) (a i j : ℕ) → a + i ≡ j → flat_map lines (range_with_len a (i + 1)) ≡ flat_map lines (range_with_len a i) ++ lines j
flat_more lines a i j same =
    ap (flat_map lines) (range_more a i j same) ∙ flat_map-append lines (range_with_len a i) (j ∷ [])
    ∙ ap (λ l. flat_map lines (range_with_len a i) ++ l) (append-nil (lines j))

pub flat_mapped_more : (lines : ℕ → List Line) (a i j : ℕ) (before mid after front : List Line) → a + i ≡ j
    → mid ≡ before ++ (front ++ flat_map lines (range_with_len a i)) → after ≡ mid ++ lines j → after ≡ before ++ (front ++ flat_map lines (range_with_len a (i + 1)))
flat_mapped_more lines a i j before mid after front same so_far here =
    let there = flat_map lines (range_with_len a i) in
    here ∙ ap (λ l. l ++ lines j) so_far ∙ append_assoc before (front ++ there) (lines j)
    ∙ ap (λ l. before ++ l) (append_assoc front there (lines j) ∙ ap (λ l. front ++ l) (sym (flat_more lines a i j same)))

-- what stands in front, what is in the middle, and a last line
pub closed : (before mid after front there : List Line) (last : Line) → mid ≡ before ++ (front ++ there) → after ≡ mid ++ last ∷ [] → after ≡ before ++ (front ++ (there ++ last ∷ []))
closed before mid after front there last so_far here =
    here ∙ ap (λ l. l ++ last ∷ []) so_far ∙ append_assoc before (front ++ there) (last ∷ []) ∙ ap (λ l. before ++ l) (append_assoc front there (last ∷ []))

-- three parts after what stands before
pub three_parts : (before a b c one two three : List Line) → one ≡ before ++ a → two ≡ one ++ b → three ≡ two ++ c → three ≡ before ++ (a ++ (b ++ c))
three_parts before a b c one two three e f g =
    g ∙ ap (λ l. l ++ c) (f ∙ ap (λ l. l ++ b) e)
    ∙ append_assoc (before ++ a) b c ∙ append_assoc before a (b ++ c)

-- what is made part by part is what is made at once
module _ {X : Type 0} (make : X → Dice → List Line × Dice) where
  pub in_parts : (xs : List X) (dice : Dice)
      → (flat_map (λ (t : List Line). t) (in_turn (λ x. as_one (make x)) xs dice).0 ≡ (in_turn make xs dice).0) × ((in_turn (λ x. as_one (make x)) xs dice).1 ≡ (in_turn make xs dice).1)
  in_parts [] dice = (refl, refl)
  in_parts (x ∷ xs) dice =
      let rest = in_parts xs (make x dice).1 in
      (ap (λ (l : List Line). (make x dice).0 ++ l) rest.0, rest.1)
