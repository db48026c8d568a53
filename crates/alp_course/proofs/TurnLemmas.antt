-- The turns of a script's lines are those that the lists of the clients have.
use Rattle.std.specs.Prelude.{◌==◌, true, false, Bool, cond, filter, Option, None, Some}
use Rattle.std.specs.List.{AllByRecursion}
use Rattle.std.proofs.Common.{inl, inr, ◌≡◌, ℕ, ◌+◌, ◌<◌, ◌≤◌, List, [], ◌∷◌, ◌++◌, refl, sym, ◌∙◌, ap, subst, arith, append_assoc, append-nil}
use Rattle.std.proofs.lemmas.Bool.Decides.{eqb_tells}
use Rattle.std.proofs.lemmas.Bool.{ne_eqb}
use Rattle.alp_journal.specs.declared.log.Item.{Item}
use Rattle.alp_history.specs.RunLogs.{Lists}
use Rattle.alp_lines.specs.Named.{client_named}
use Rattle.alp_script.specs.Accepted.{RisesFrom}
use Rattle.alp_script.specs.declared.numbered.NumberedLine.{NumberedLine}
use Rattle.alp_session.specs.Crowd.{Crowd}
use Rattle.alp_course.specs.Courses.{Occurrence}
use Rattle.alp_course.specs.Plays.{PlaysOwn, PlaysLine, Plays}
use Rattle.alp_course.specs.Turns.{Turn, own_in, turn_of, turns_of}
use Rattle.alp_course.proofs.PlayLemmas.{own_append}

-- the items of earlier lines, of this line, and of later ones
abbrev AreBefore : ℕ → List Item → Type 0
AreBefore n xs = AllByRecursion (λ (x : Item). x.line < n) xs

abbrev AreAt : ℕ → List Item → Type 0
AreAt n xs = AllByRecursion (λ (x : Item). x.line ≡ n) xs

abbrev AreFrom : ℕ → List Item → Type 0
AreFrom n xs = AllByRecursion (λ (x : Item). n ≤ x.line) xs

filter_none : (n : ℕ) (xs : List Item) → AllByRecursion (λ (x : Item). x.line ≡ n → ⊥) xs → filter (λ (x : Item). x.line == n) xs ≡ []
filter_none n [] h = refl
filter_none n (x ∷ xs) h = ap (λ (b : Bool). cond b (x ∷ filter (λ (y : Item). y.line == n) xs) (filter (λ (y : Item). y.line == n) xs)) (ne_eqb x.line n h.0) ∙ filter_none n xs h.1

filter_all : (n : ℕ) (xs : List Item) → AreAt n xs → filter (λ (x : Item). x.line == n) xs ≡ xs
filter_all n [] h = refl
filter_all n (x ∷ xs) h = elim (eqb_tells x.line n) [
  | inl is ↦ ap (λ (b : Bool). cond b (x ∷ filter (λ (y : Item). y.line == n) xs) (filter (λ (y : Item). y.line == n) xs)) is.0 ∙ ap (λ (ys : List Item). x ∷ ys) (filter_all n xs h.1)
  | inr away ↦ absurd (away.1 h.0)
]

filter_append : (p : Item → Bool) (xs ys : List Item) → filter p (xs ++ ys) ≡ filter p xs ++ filter p ys
filter_append p [] ys = refl
filter_append p (x ∷ xs) ys = elim (p x) as (λ b. cond b (x ∷ filter p (xs ++ ys)) (filter p (xs ++ ys)) ≡ cond b (x ∷ filter p xs) (filter p xs) ++ filter p ys) [
  | true ↦ ap (λ (zs : List Item). x ∷ zs) (filter_append p xs ys)
  | false ↦ filter_append p xs ys
]

all_map : (P Q : Item → Type 0) → ((x : Item) → P x → Q x) → (xs : List Item) → AllByRecursion P xs → AllByRecursion Q xs
all_map P Q f [] h = tt
all_map P Q f (x ∷ xs) h = (f x h.0, all_map P Q f xs h.1)

all_append : (P : Item → Type 0) (xs ys : List Item) → AllByRecursion P xs → AllByRecursion P ys → AllByRecursion P (xs ++ ys)
all_append P [] ys h k = k
all_append P (x ∷ xs) ys h k = (h.0, all_append P xs ys h.1 k)

-- what stands between is just what has the number
between : (n : ℕ) (front own rest : List Item) → AreBefore n front → AreAt n own → AreFrom (n + 1) rest → filter (λ (x : Item). x.line == n) (front ++ own ++ rest) ≡ own
between n front own rest before at from =
    filter_append (λ (x : Item). x.line == n) (front ++ own) rest
    ∙ (λ i. filter_append (λ (x : Item). x.line == n) front own i ++ filter_none n rest (all_map (λ (x : Item). n + 1 ≤ x.line) (λ (x : Item). x.line ≡ n → ⊥) (λ x h is. absurd (omega (arith, h, is))) rest from) i)
    ∙ append-nil (filter (λ (x : Item). x.line == n) front ++ filter (λ (x : Item). x.line == n) own)
    ∙ (λ i. filter_none n front (all_map (λ (x : Item). x.line < n) (λ (x : Item). x.line ≡ n → ⊥) (λ x h is. absurd (omega (arith, h, is))) front before) i ++ filter_all n own at i)

-- the items of a line's turn
own_from : (servers : ℕ) (c d : Crowd) (l : NumberedLine) (o : Option ℕ) (own : List Turn) (mine : List Occurrence) (k : ℕ) → PlaysOwn servers c l o own mine d → AreAt l.number (own_in k own)
own_from servers c d l None own mine k h = subst (λ (ts : List Turn). AreAt l.number (own_in k ts)) (sym h.0) tt
own_from servers c d l (Some client) own mine k h =
    let (xs, t, is, at, sends) = h in
    subst (λ (ts : List Turn). AreAt l.number (own_in k ts)) (sym is)
    (all_append (λ (x : Item). x.line ≡ l.number) (cond (client == k) xs []) [] (elim (client == k) as (λ b. AreAt l.number (cond b xs [])) [ true ↦ at | false ↦ tt ]) tt)

line_from : (servers : ℕ) (c d : Crowd) (l : NumberedLine) (own : List Turn) (mine : List Occurrence) (k : ℕ) → PlaysLine servers c l own mine d → AreAt l.number (own_in k own)
line_from servers c d l own mine k h = own_from servers c d l (client_named l.line) own h.by_line k h.plays

-- those of all turns have the numbers of their lines
turns_from : (servers n : ℕ) (c d : Crowd) (ls : List NumberedLine) (turns : List Turn) (hs : List Occurrence) (k : ℕ) → RisesFrom n ls → Plays servers c ls turns hs d → AreFrom n (own_in k turns)
turns_from servers n c d [] turns hs k rises plays = subst (λ (ts : List Turn). AreFrom n (own_in k ts)) (sym plays.0) tt
turns_from servers n c d (l ∷ ls) turns hs k rises plays =
    let (own, others, mine, theirs, mid, is, are, one, rest) = plays in
    let here : AreFrom n (own_in k own) = all_map (λ (x : Item). x.line ≡ l.number) (λ (x : Item). n ≤ x.line) (λ x e. (let low : n ≤ l.number = rises.0 in omega (arith, low, e))) (own_in k own) (line_from servers c mid l own mine k one) in
    let later : AreFrom n (own_in k others) = all_map (λ (x : Item). l.number + 1 ≤ x.line) (λ (x : Item). n ≤ x.line) (λ x e. (let low : n ≤ l.number = rises.0 in omega (arith, low, e))) (own_in k others) (turns_from servers (l.number + 1) mid d ls others theirs k rises.2 rest) in
    subst (λ (ts : List Turn). AreFrom n (own_in k ts)) (sym is) (subst (AreFrom n) (sym (own_append k own others)) (all_append (λ (x : Item). n ≤ x.line) (own_in k own) (own_in k others) here later))

-- a line's turn is read off the lists, in which it stands behind earlier ones and before later ones
turn_is : (servers : ℕ) (c d : Crowd) (l : NumberedLine) (o : Option ℕ) (own others : List Turn) (mine : List Occurrence) (lists front : Lists) → PlaysOwn servers c l o own mine d → ((k : ℕ) → AreBefore l.number (front k)) → ((k : ℕ) → AreFrom (l.number + 1) (own_in k others))
    → ((k : ℕ) → lists k ≡ front k ++ own_in k (own ++ others)) → own ≡ turn_of l.number o lists
turn_is servers c d l None own others mine lists front h before from is = h.0
turn_is servers c d l (Some client) own others mine lists front h before from is =
    let (xs, t, one, at, sends) = h in
    let own_is : own_in client own ≡ xs = ap (own_in client) one ∙ elim (eqb_tells client client) [
      | inl e ↦ ap (λ (b : Bool). cond b xs [] ++ []) e.0 ∙ append-nil xs
      | inr away ↦ absurd (away.1 refl)
    ] in
    let all : lists client ≡ front client ++ xs ++ own_in client others =
    is client ∙ ap (λ (ys : List Item). front client ++ ys) (own_append client own others ∙ ap (λ (ys : List Item). ys ++ own_in client others) own_is) ∙ sym (append_assoc (front client) xs (own_in client others)) in
    one ∙ ap (λ (ys : List Item). record { line = l.number; client = client; items = ys } ∷ [])
    (sym (ap (filter (λ (x : Item). x.line == l.number)) all ∙ between l.number (front client) xs (own_in client others) (before client) at (from client)))

turns_are_from : (servers n : ℕ) (c d : Crowd) (ls : List NumberedLine) (turns : List Turn) (hs : List Occurrence) (lists front : Lists) → RisesFrom n ls → Plays servers c ls turns hs d → ((k : ℕ) → AreBefore n (front k)) → ((k : ℕ) → lists k ≡ front k ++ own_in k turns)
    → turns ≡ turns_of ls lists
turns_are_from servers n c d [] turns hs lists front rises plays before is = plays.0
turns_are_from servers n c d (l ∷ ls) turns hs lists front rises plays before is =
    let (own, others, mine, theirs, mid, split, are, one, rest) = plays in
    let low : n ≤ l.number = rises.0 in
    let up : (k : ℕ) → AreBefore l.number (front k) = (λ k. all_map (λ (x : Item). x.line < n) (λ (x : Item). x.line < l.number) (λ x e. omega (arith, e, low)) (front k) (before k)) in
    let here : own ≡ turn_of l.number (client_named l.line) lists =
    turn_is servers c mid l (client_named l.line) own others one.by_line lists front one.plays up (λ k. turns_from servers (l.number + 1) mid d ls others theirs k rises.2 rest) (λ k. is k ∙ ap (λ (ts : List Turn). front k ++ own_in k ts) split) in
    let later : others ≡ turns_of ls lists =
    turns_are_from servers (l.number + 1) mid d ls others theirs lists (λ k. front k ++ own_in k own) rises.2 rest
    (λ k. all_append (λ (x : Item). x.line < l.number + 1) (front k) (own_in k own) (all_map (λ (x : Item). x.line < l.number) (λ (x : Item). x.line < l.number + 1) (λ x e. omega (arith, e)) (front k) (up k))
    (all_map (λ (x : Item). x.line ≡ l.number) (λ (x : Item). x.line < l.number + 1) (λ x e. omega (arith, e)) (own_in k own) (line_from servers c mid l own mine k one)))
    (λ k. is k ∙ ap (λ (ts : List Turn). front k ++ own_in k ts) split ∙ ap (λ (ys : List Item). front k ++ ys) (own_append k own others) ∙ sym (append_assoc (front k) (own_in k own) (own_in k others))) in
    split ∙ (λ i. here i ++ later i)

pub turns_are : (servers : ℕ) (c d : Crowd) (ls : List NumberedLine) (turns : List Turn) (hs : List Occurrence) (lists : Lists) → RisesFrom 1 ls → Plays servers c ls turns hs d → ((k : ℕ) → lists k ≡ own_in k turns) → turns ≡ turns_of ls lists
turns_are servers c d ls turns hs lists rises plays is = turns_are_from servers 1 c d ls turns hs lists (λ k. []) rises plays (λ k. tt) is
