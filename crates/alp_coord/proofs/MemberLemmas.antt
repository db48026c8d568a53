-- what parts have said, as a coordinator keeps it and as a journal tells it
use Rattle.std.specs.Prelude.{cond, Bool, true, false, not, ◌==◌, ◌&&◌, ◌||◌, max, nat_lt, slice_set, Option, None, Some, is_some, map as list_map}
use Rattle.std.specs.List.{list_any, list_all, position, position_or_len}
use Rattle.std.proofs.lemmas.Bool.{eqb-true, ltb-true, ltb-false}
use Rattle.std.proofs.Common.{◌≡◌, ℕ, zero, suc, ◌+◌, ◌<◌, ◌≤◌, List, [], ◌∷◌, ◌++◌, length, take, drop, set, get_or, refl, sym, ◌∙◌, ap, subst, arith}
use Rattle.std.proofs.lemmas.List.Folds.{list_any-append}
use Rattle.alp_base.specs.declared.ids.JoinNo.{JoinNo}
use Rattle.alp_journal.specs.Ids.{same_join, has_join, has_server}
use Rattle.alp_journal.specs.Coordinator.{Vote, voted, with_vote, has_all}
use Rattle.alp_journal.specs.Laws.{latest_vote}
use Rattle.alp_journal.proofs.IdLemmas.{same_join-true}
use Rattle.alp_coord.specs.declared.members.Member.{Member}
use Rattle.alp_coord.specs.Members.{joins, vote_in, votes, done_in, dones, are_none, later, latest_of, takes_part, has_said, have_all_said, have_all_said_with, silent, saying, having_said, hushed}

-- ---- who takes part

pub takes_part-joins : (j : JoinNo) (ms : List Member) → takes_part j ms ≡ has_join j (joins ms)
takes_part-joins j [] = refl
takes_part-joins j (m ∷ ms) = ap (λ (b : Bool). same_join m.join j || b) (takes_part-joins j ms)

pub has_server-joins : (server : ℕ) (ms : List Member) → list_any (λ (m : Member). m.join.server == server) ms ≡ has_server server (joins ms)
has_server-joins server [] = refl
has_server-joins server (m ∷ ms) = ap (λ (b : Bool). m.join.server == server || b) (has_server-joins server ms)

pub joins-append : (ms : List Member) (j : JoinNo) → joins (ms ++ silent j ∷ []) ≡ joins ms ++ j ∷ []
joins-append [] j = refl
joins-append (m ∷ ms) j = ap (λ (js : List JoinNo). m.join ∷ js) (joins-append ms j)

pub joins-silent : (js : List JoinNo) → joins (list_map silent js) ≡ js
joins-silent [] = refl
joins-silent (j ∷ js) = ap (λ (ks : List JoinNo). j ∷ ks) (joins-silent js)

pub dones-silent : (js : List JoinNo) → dones (list_map silent js) ≡ []
dones-silent [] = refl
dones-silent (j ∷ js) = dones-silent js

pub joins-hushed : (ms : List Member) → joins (hushed ms) ≡ joins ms
joins-hushed [] = refl
joins-hushed (m ∷ ms) = ap (λ (js : List JoinNo). m.join ∷ js) (joins-hushed ms)

pub votes-hushed : (ms : List Member) → votes (hushed ms) ≡ []
votes-hushed [] = refl
votes-hushed (m ∷ ms) = votes-hushed ms

pub dones-hushed : (ms : List Member) → dones (hushed ms) ≡ []
dones-hushed [] = refl
dones-hushed (m ∷ ms) = dones-hushed ms

-- ---- what they have said

voted_one : (j k : JoinNo) (said : Option ℕ) → voted j (vote_in k said) ≡ (is_some said && same_join k j)
voted_one j k None = refl
voted_one j k (Some ts) = go (same_join k j)
  where
    go : (b : Bool) → (b || false) ≡ b
    go true = refl
    go false = refl

pub voted-votes : (j : JoinNo) (ms : List Member) → voted j (votes ms) ≡ has_said j ms
voted-votes j [] = refl
voted-votes j (m ∷ ms) =
    list_any-append (λ (v : Vote). same_join v.0 j) (vote_in m.join m.said) (votes ms)
    ∙ (λ i. voted_one j m.join m.said i || voted-votes j ms i)

done_one : (j k : JoinNo) (said : Option ℕ) → has_join j (done_in k said) ≡ (is_some said && same_join k j)
done_one j k None = refl
done_one j k (Some ts) = go (same_join k j)
  where
    go : (b : Bool) → (b || false) ≡ b
    go true = refl
    go false = refl

pub has_join-dones : (j : JoinNo) (ms : List Member) → has_join j (dones ms) ≡ has_said j ms
has_join-dones j [] = refl
has_join-dones j (m ∷ ms) =
    list_any-append (λ (k : JoinNo). same_join k j) (done_in m.join m.said) (dones ms)
    ∙ (λ i. done_one j m.join m.said i || has_join-dones j ms i)

-- each of the joins passes a test, and each of the parts
all_joins : (p : JoinNo → Bool) (q : Member → Bool) → ((m : Member) → p m.join ≡ q m) → (ms : List Member) → list_all p (joins ms) ≡ list_all q ms
all_joins p q same [] = refl
all_joins p q same (m ∷ ms) = λ i. same m i && all_joins p q same ms i

pub all-voted : (ms : List Member) → list_all (λ k. voted k (votes ms)) (joins ms) ≡ have_all_said ms
all-voted ms = all_joins (λ k. voted k (votes ms)) (λ (m : Member). has_said m.join ms) (λ m. voted-votes m.join ms) ms

pub all-done : (ms : List Member) → has_all (dones ms) (joins ms) ≡ have_all_said ms
all-done ms = all_joins (λ k. has_join k (dones ms)) (λ (m : Member). has_said m.join ms) (λ m. has_join-dones m.join ms) ms

pub all-done_with : (j : JoinNo) (ms : List Member) → has_all (j ∷ dones ms) (joins ms) ≡ have_all_said_with j ms
all-done_with j ms =
    all_joins (λ k. same_join j k || has_join k (dones ms)) (λ (m : Member). same_join j m.join || has_said m.join ms) (λ m. ap (λ (b : Bool). same_join j m.join || b) (has_join-dones m.join ms)) ms

-- ---- a vote more

or_false : (b : Bool) → (b || false) ≡ b
or_false true = refl
or_false false = refl

or_swap : (a b : Bool) → (a || (b || false)) ≡ (b || a)
or_swap true true = refl
or_swap true false = refl
or_swap false true = refl
or_swap false false = refl

pub voted-with_vote : (j k : JoinNo) (ts : ℕ) (vs : List Vote) → voted k (with_vote j ts vs) ≡ (same_join j k || voted k vs)
voted-with_vote j k ts vs = go (voted j vs) refl
  where
    here : (b : Bool) → same_join j k ≡ b → voted j vs ≡ true → voted k vs ≡ (b || voted k vs)
    here false e is = refl
    here true e is = ap (λ (x : JoinNo). voted x vs) (sym (same_join-true j k e)) ∙ is

    go : (b : Bool) → voted j vs ≡ b → voted k (cond {A = List Vote} b vs (vs ++ (j, ts) ∷ [])) ≡ (same_join j k || voted k vs)
    go true is = here (same_join j k) refl is
    go false is = list_any-append (λ (v : Vote). same_join v.0 k) vs ((j, ts) ∷ []) ∙ or_swap (voted k vs) (same_join j k)

pub all-voted_with : (j : JoinNo) (ts : ℕ) (ms : List Member) → list_all (λ k. voted k (with_vote j ts (votes ms))) (joins ms) ≡ have_all_said_with j ms
all-voted_with j ts ms =
    all_joins (λ k. voted k (with_vote j ts (votes ms))) (λ (m : Member). same_join j m.join || has_said m.join ms)
    (λ m. voted-with_vote j m.join ts (votes ms) ∙ ap (λ (b : Bool). same_join j m.join || b) (voted-votes m.join ms)) ms

-- ---- the latest

pub latest-append : (n ts : ℕ) (j : JoinNo) (vs : List Vote) → latest_vote n (vs ++ (j, ts) ∷ []) ≡ max (latest_vote n vs) ts
latest-append n ts j [] = refl
latest-append n ts j (v ∷ vs) = latest-append (max n v.1) ts j vs

max_turned : (a b c : ℕ) → max (max a b) c ≡ max (max a c) b
max_turned a b c = omega arith

pub latest-max : (n ts : ℕ) (vs : List Vote) → latest_vote (max n ts) vs ≡ max (latest_vote n vs) ts
latest-max n ts [] = refl
latest-max n ts (v ∷ vs) = ap (λ (x : ℕ). latest_vote x vs) (max_turned n ts v.1) ∙ latest-max (max n v.1) ts vs

pub latest-votes : (n : ℕ) (ms : List Member) → latest_of n ms ≡ latest_vote n (votes ms)
latest-votes n [] = refl
latest-votes n (m ∷ ms) = go m.said (λ x. latest-votes x ms)
  where
    go : (said : Option ℕ) → ((x : ℕ) → latest_of x ms ≡ latest_vote x (votes ms)) → latest_of (later n said) ms ≡ latest_vote n (vote_in m.join said ++ votes ms)
    go None h = h n
    go (Some ts) h = h (max n ts)

-- with a vote more, by one that has not voted and by one that has
pub latest-new : (j : JoinNo) (ts n : ℕ) (ms : List Member) → has_said j ms ≡ false → latest_vote n (with_vote j ts (votes ms)) ≡ max (latest_vote n (votes ms)) ts
latest-new j ts n ms new =
    ap (λ (b : Bool). latest_vote n (cond {A = List Vote} b (votes ms) (votes ms ++ (j, ts) ∷ []))) (voted-votes j ms ∙ new) ∙ latest-append n ts j (votes ms)

pub latest-again : (j : JoinNo) (ts n : ℕ) (ms : List Member) → has_said j ms ≡ true → latest_vote n (with_vote j ts (votes ms)) ≡ latest_vote n (votes ms)
latest-again j ts n ms again = ap (λ (b : Bool). latest_vote n (cond {A = List Vote} b (votes ms) (votes ms ++ (j, ts) ∷ []))) (voted-votes j ms ∙ again)

-- ---- one says something

pub joins-saying : (j : JoinNo) (ts : ℕ) (ms : List Member) → joins (saying j ts ms) ≡ joins ms
joins-saying j ts [] = refl
joins-saying j ts (m ∷ ms) = go (same_join m.join j) (joins-saying j ts ms)
  where
    go : (b : Bool) → joins (saying j ts ms) ≡ joins ms → joins (cond {A = List Member} b (record m { said = Some ts } ∷ ms) (m ∷ saying j ts ms)) ≡ m.join ∷ joins ms
    go true h = refl
    go false h = ap (λ (js : List JoinNo). m.join ∷ js) h

pub joins-having_said : (j : JoinNo) (ts : ℕ) (ms : List Member) → joins (having_said j ts ms) ≡ joins ms
joins-having_said j ts ms = go (has_said j ms)
  where
    go : (b : Bool) → joins (cond {A = List Member} b ms (saying j ts ms)) ≡ joins ms
    go true = refl
    go false = joins-saying j ts ms

or_parts : (a b : Bool) → (a || b) ≡ false → (a ≡ false) × (b ≡ false)
or_parts true b h = cc
or_parts false b h = (refl, h)

and_none : (a b : Bool) → (a && b) ≡ false → b ≡ true → a ≡ false
and_none true b h is = cc
and_none false b h is = refl

or_middle : (a b c : Bool) → (a || (b || c)) ≡ (b || (a || c))
or_middle true true c = refl
or_middle true false c = refl
or_middle false true c = refl
or_middle false false c = refl

-- the one that spoke has said something, and of the others all is as before
pub said-saying : (j k : JoinNo) (ts : ℕ) (ms : List Member) → takes_part j ms ≡ true → has_said k (saying j ts ms) ≡ (same_join j k || has_said k ms)
said-saying j k ts [] its = cc
said-saying j k ts (m ∷ ms) its = go (same_join m.join j) refl its (said-saying j k ts ms)
  where
    here : (a b c : Bool) → (a ≡ true → b ≡ true) → (b ≡ true → a ≡ true) → (said : Bool) → (a || c) ≡ (b || ((said && a) || c))
    here true true c to back said = refl
    here false false c to back true = refl
    here false false c to back false = refl
    here true false c to back said = let wrong : false ≡ true = to refl in cc
    here false true c to back said = let wrong : false ≡ true = back refl in cc

    go : (b : Bool) → same_join m.join j ≡ b → (b || takes_part j ms) ≡ true → (takes_part j ms ≡ true → has_said k (saying j ts ms) ≡ (same_join j k || has_said k ms))
        → has_said k (cond {A = List Member} b (record m { said = Some ts } ∷ ms) (m ∷ saying j ts ms)) ≡ (same_join j k || ((is_some m.said && same_join m.join k) || has_said k ms))
    go true e i h =
        let same : m.join ≡ j = same_join-true m.join j e in
        let alike : same_join m.join k ≡ same_join j k = ap (λ (x : JoinNo). same_join x k) same in
        here (same_join m.join k) (same_join j k) (has_said k ms) (λ is. sym alike ∙ is) (λ is. alike ∙ is) (is_some m.said)
    go false e i h =
        ap (λ (b : Bool). (is_some m.said && same_join m.join k) || b) (h i) ∙ or_middle (is_some m.said && same_join m.join k) (same_join j k) (has_said k ms)

pub said-having_said : (j k : JoinNo) (ts : ℕ) (ms : List Member) → takes_part j ms ≡ true → has_said k (having_said j ts ms) ≡ (same_join j k || has_said k ms)
said-having_said j k ts ms its = go (has_said j ms) refl
  where
    here : (b : Bool) → same_join j k ≡ b → has_said j ms ≡ true → has_said k ms ≡ (b || has_said k ms)
    here false e is = refl
    here true e is = ap (λ (x : JoinNo). has_said x ms) (sym (same_join-true j k e)) ∙ is

    go : (b : Bool) → has_said j ms ≡ b → has_said k (cond {A = List Member} b ms (saying j ts ms)) ≡ (same_join j k || has_said k ms)
    go true is = here (same_join j k) refl is
    go false is = said-saying j k ts ms its

-- the latest vote with that of one that has not voted
pub latest-saying : (j : JoinNo) (ts n : ℕ) (ms : List Member) → takes_part j ms ≡ true → has_said j ms ≡ false → latest_vote n (votes (saying j ts ms)) ≡ max (latest_vote n (votes ms)) ts
latest-saying j ts n [] its new = cc
latest-saying j ts n (m ∷ ms) its new = go (same_join m.join j) refl its (λ x i. latest-saying j ts x ms i parts.1)
  where
    parts : ((is_some m.said && same_join m.join j) ≡ false) × (has_said j ms ≡ false)
    parts = or_parts (is_some m.said && same_join m.join j) (has_said j ms) new

    was : (said : Option ℕ) → is_some said ≡ false → latest_vote n ((m.join, ts) ∷ votes ms) ≡ max (latest_vote n (vote_in m.join said ++ votes ms)) ts
    was None e = latest-max n ts (votes ms)
    was (Some x) e = cc

    other : (said : Option ℕ) → ((x : ℕ) → latest_vote x (votes (saying j ts ms)) ≡ max (latest_vote x (votes ms)) ts)
        → latest_vote n (vote_in m.join said ++ votes (saying j ts ms)) ≡ max (latest_vote n (vote_in m.join said ++ votes ms)) ts
    other None h = h n
    other (Some x) h = h (max n x)

    go : (b : Bool) → same_join m.join j ≡ b → (b || takes_part j ms) ≡ true → ((x : ℕ) → takes_part j ms ≡ true → latest_vote x (votes (saying j ts ms)) ≡ max (latest_vote x (votes ms)) ts)
        → latest_vote n (votes (cond {A = List Member} b (record m { said = Some ts } ∷ ms) (m ∷ saying j ts ms))) ≡ max (latest_vote n (vote_in m.join m.said ++ votes ms)) ts
    go true e i h = was m.said (and_none (is_some m.said) (same_join m.join j) parts.0 e)
    go false e i h = other m.said (λ x. h x i)

-- what is kept of a vote is what a journal says of it
pub latest-having_said : (j : JoinNo) (ts n : ℕ) (ms : List Member) → takes_part j ms ≡ true → latest_vote n (votes (having_said j ts ms)) ≡ latest_vote n (with_vote j ts (votes ms))
latest-having_said j ts n ms its = go (has_said j ms) refl
  where
    go : (b : Bool) → has_said j ms ≡ b → latest_vote n (votes (cond {A = List Member} b ms (saying j ts ms))) ≡ latest_vote n (with_vote j ts (votes ms))
    go true is = sym (latest-again j ts n ms is)
    go false is = latest-saying j ts n ms its is ∙ sym (latest-new j ts n ms is)

pub voted-having_said : (j k : JoinNo) (ts : ℕ) (ms : List Member) → takes_part j ms ≡ true → voted k (votes (having_said j ts ms)) ≡ voted k (with_vote j ts (votes ms))
voted-having_said j k ts ms its =
    voted-votes k (having_said j ts ms) ∙ said-having_said j k ts ms its ∙ ap (λ (b : Bool). same_join j k || b) (sym (voted-votes k ms)) ∙ sym (voted-with_vote j k ts (votes ms))

pub done-having_said : (j k : JoinNo) (ts : ℕ) (ms : List Member) → takes_part j ms ≡ true → has_join k (dones (having_said j ts ms)) ≡ has_join k (j ∷ dones ms)
done-having_said j k ts ms its =
    has_join-dones k (having_said j ts ms) ∙ said-having_said j k ts ms its ∙ ap (λ (b : Bool). same_join j k || b) (sym (has_join-dones k ms))

-- ---- where one stands

pub saying-nowhere : (j : JoinNo) (ts : ℕ) (ms : List Member) → takes_part j ms ≡ false → saying j ts ms ≡ ms
saying-nowhere j ts [] none = refl
saying-nowhere j ts (m ∷ ms) none =
    let parts = or_parts (same_join m.join j) (takes_part j ms) none in
    ap (λ (b : Bool). cond {A = List Member} b (record m { said = Some ts } ∷ ms) (m ∷ saying j ts ms)) parts.0 ∙ ap (λ (ns : List Member). m ∷ ns) (saying-nowhere j ts ms parts.1)

pub saying-at : (j : JoinNo) (ts : ℕ) (ms : List Member) → position_or_len (λ (m : Member). same_join m.join j) ms < length ms → saying j ts ms ≡ slice_set ms (position_or_len (λ (m : Member). same_join m.join j) ms) (record { join = j; said = Some ts })
saying-at j ts [] within = absurd (omega (arith, within))
saying-at j ts (m ∷ ms) within = go (same_join m.join j) refl within (saying-at j ts ms)
  where
    at : ℕ
    at = position_or_len (λ (n : Member). same_join n.join j) ms

    go : (b : Bool) → same_join m.join j ≡ b → cond {A = ℕ} (not b) (1 + at) 0 < suc (length ms) → (at < length ms → saying j ts ms ≡ slice_set ms at (record { join = j; said = Some ts }))
        → cond {A = List Member} b (record m { said = Some ts } ∷ ms) (m ∷ saying j ts ms) ≡ slice_set (m ∷ ms) (cond {A = ℕ} (not b) (1 + at) 0) (record { join = j; said = Some ts })
    go true e low h = λ i. (record { join = same_join-true m.join j e i; said = Some ts }) ∷ ms
    go false e low h =
        let one : suc at ≡ 1 + at = omega arith in
        subst (λ (n : ℕ). m ∷ saying j ts ms ≡ slice_set (m ∷ ms) n (record { join = j; said = Some ts })) one (ap (λ (ns : List Member). m ∷ ns) (h (omega (arith, low))))

-- where none stands, none takes part
pub nowhere-none : (j : JoinNo) (ms : List Member) → length ms ≤ position_or_len (λ (m : Member). same_join m.join j) ms → takes_part j ms ≡ false
nowhere-none j [] high = refl
nowhere-none j (m ∷ ms) high = go (same_join m.join j) high (nowhere-none j ms)
  where
    at : ℕ
    at = position_or_len (λ (n : Member). same_join n.join j) ms

    go : (b : Bool) → suc (length ms) ≤ cond {A = ℕ} (not b) (1 + at) 0 → (length ms ≤ at → takes_part j ms ≡ false) → (b || takes_part j ms) ≡ false
    go true low h = absurd (omega (arith, low))
    go false low h = h (omega (arith, low))

-- where the first stands, if one does
pub place_within : (p : Member → Bool) (ms : List Member) (i : ℕ) → position p ms ≡ Some i → (i ≡ position_or_len p ms) × (position_or_len p ms < length ms)
place_within p ms i is = go (nat_lt (position_or_len p ms) (length ms)) refl is
  where
    go : (b : Bool) → nat_lt (position_or_len p ms) (length ms) ≡ b → cond {A = Option ℕ} b (Some (position_or_len p ms)) None ≡ Some i → (i ≡ position_or_len p ms) × (position_or_len p ms < length ms)
    go true e k = (cc, ltb-true (position_or_len p ms) (length ms) e)
    go false e k = cc

pub place_none : (p : Member → Bool) (ms : List Member) → position p ms ≡ None → length ms ≤ position_or_len p ms
place_none p ms is = go (nat_lt (position_or_len p ms) (length ms)) refl is
  where
    go : (b : Bool) → nat_lt (position_or_len p ms) (length ms) ≡ b → cond {A = Option ℕ} b (Some (position_or_len p ms)) None ≡ None → length ms ≤ position_or_len p ms
    go true e k = cc
    go false e k = ltb-false (position_or_len p ms) (length ms) e

pub none-length : (ms : List Member) → (length ms == 0) ≡ are_none ms
none-length [] = refl
none-length (m ∷ ms) = go (length (m ∷ ms) == 0) refl
  where
    go : (b : Bool) → (length (m ∷ ms) == 0) ≡ b → b ≡ false
    go true e = (let none : length (m ∷ ms) ≡ 0 = eqb-true (length (m ∷ ms)) 0 e in absurd (omega (arith, none)))
    go false e = refl

-- ---- all are hushed, one by one

pub hushed-step : (ms : List Member) (i : ℕ) (d : Member) → i < length ms → set (hushed (take i ms) ++ drop i ms) i (record { join = (get_or (hushed (take i ms) ++ drop i ms) i d).join; said = None }) ≡ hushed (take (i + 1) ms) ++ drop (i + 1) ms
hushed-step [] i d low = absurd (omega (arith, low))
hushed-step (m ∷ ms) zero d low = refl
hushed-step (m ∷ ms) (suc i) d low =
    let one : suc (i + 1) ≡ suc i + 1 = omega arith in
    subst (λ (n : ℕ). set (hushed (take (suc i) (m ∷ ms)) ++ drop (suc i) (m ∷ ms)) (suc i) (record { join = (get_or (hushed (take (suc i) (m ∷ ms)) ++ drop (suc i) (m ∷ ms)) (suc i) d).join; said = None }) ≡ hushed (take n (m ∷ ms)) ++ drop n (m ∷ ms)) one
    (ap (λ (ns : List Member). silent m.join ∷ ns) (hushed-step ms i d (omega (arith, low))))
