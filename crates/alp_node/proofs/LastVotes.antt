-- the last vote from elsewhere: what is known of its transaction, and what becomes of that as it is heard and decided
use Rattle.std.specs.Prelude.{cond, Bool, true, false, ◌&&◌, max, Option, None, Some}
use Rattle.std.specs.List.{list_all}
use Rattle.std.proofs.lemmas.Bool.{and_parts}
use Rattle.std.proofs.Common.{◌≡◌, ℕ, ◌+◌, ◌^◌, ◌≤◌, List, [], ◌∷◌, ◌++◌, refl, sym, ◌∙◌, ap, subst, arith}
use Rattle.alp_base.specs.declared.ids.JoinNo.{JoinNo}
use Rattle.alp_base.specs.declared.ids.Stamp.{Stamp}
use Rattle.alp_base.specs.declared.ids.TransId.{TransId}
use Rattle.alp_journal.specs.Coordinator.{Fate, Undrawn, Running, Finishing, Committed, Forgotten, Ended, Vote, decision_in, fate_after, has_votes, joins_of, votes_in, voted, with_vote}
use Rattle.alp_journal.specs.Coordinator as fate
use Rattle.alp_journal.specs.Deeds.{Decides, Finishes, Hears}
use Rattle.alp_journal.specs.Ids.{has_join, same_trans}
use Rattle.alp_journal.specs.Laws.{latest_vote}
use Rattle.alp_journal.specs.Messages.{has_all_votes}
use Rattle.alp_journal.proofs.IdLemmas.{same_trans-itself, same_trans-true}
use Rattle.alp_coord.specs.declared.answers.Ballot.{Ballot}
use Rattle.alp_coord.specs.declared.answers.Ballot.TheVariants as ballot
use Rattle.alp_coord.specs.declared.coordinator.Coordinator.{Coordinator}
use Rattle.alp_coord.specs.Coordinators.{IsAlong, Comes, ComesLike, ballot_of, fate_in}
use Rattle.alp_coord.specs.Likeness.{IsFateOf, IsLike}
use Rattle.alp_coord.specs.Likeness as like
use Rattle.alp_coord.proofs.LikeLemmas.{like-joins, like-votes}
use Rattle.alp_coord.proofs.TieLemmas.{known-after, known-ballot}
use Rattle.alp_node.specs.Noted.{decision_kept}
use Rattle.alp_node.specs.Transactions.{AreDecidedBy, IsCoordinatorBy}
use Rattle.alp_node.proofs.EarlyLemmas.{latest-last, latest-with}
use Rattle.alp_node.proofs.LapseLemmas.{IsFinishingSo, finishing_told}
use Rattle.alp_node.proofs.TransactionLemmas.{LetsGo, lets_decide, run_along}

-- ---- the times of votes

latest_from : (n : ℕ) (vs : List Vote) → latest_vote n vs ≡ max n (latest_vote 0 vs)
latest_from n [] = omega arith
latest_from n (v ∷ vs) =
    let here : latest_vote (max n v.1) vs ≡ max (max n v.1) (latest_vote 0 vs) = latest_from (max n v.1) vs in
    let there : latest_vote (max 0 v.1) vs ≡ max (max 0 v.1) (latest_vote 0 vs) = latest_from (max 0 v.1) vs in
    omega (arith, here, there)

-- ---- with it all have voted

last_parts : (j : JoinNo) (ts least latest : ℕ) (client : ℕ) (js : List JoinNo) (vs : List Vote) → ballot_of j ts least (Finishing client js vs) ≡ ballot.Last latest → (has_all_votes j ts js vs ≡ true) × (latest ≡ latest_vote least (with_vote j ts vs))
last_parts j ts least latest client js vs e = go (has_join j js) refl (list_all (λ i. voted i (with_vote j ts vs)) js) refl e
  where
    time_in : Ballot → ℕ
    time_in (ballot.Last n) = n
    time_in b = 0

    go : (b : Bool) → has_join j js ≡ b → (d : Bool) → list_all (λ i. voted i (with_vote j ts vs)) js ≡ d
        → cond {A = Ballot} b (cond {A = Ballot} d (ballot.Last (latest_vote least (with_vote j ts vs))) ballot.Kept) ballot.Dropped ≡ ballot.Last latest → (has_all_votes j ts js vs ≡ true) × (latest ≡ latest_vote least (with_vote j ts vs))
    go true f true g e = ((λ i. f i && g i), ap time_in (sym e))
    go true f false g e = let wrong : ballot.Kept ≡ ballot.Last latest = e in cc
    go false f d g e = let wrong : ballot.Dropped ≡ ballot.Last latest = e in cc

-- its transaction is finishing, with joins
pub record IsLast (j : JoinNo) (ts least latest : ℕ) (f : Fate) : Type 0 where
  pub client : ℕ
  pub first : JoinNo
  pub rest : List JoinNo
  pub votes : List Vote
  pub is : f ≡ Finishing client (first ∷ rest) votes
  pub all : has_all_votes j ts (first ∷ rest) votes ≡ true
  pub time : latest ≡ latest_vote least (with_vote j ts votes)

pub is_last : (j : JoinNo) (ts least latest : ℕ) (f : Fate) → ballot_of j ts least f ≡ ballot.Last latest → IsLast j ts least latest f
is_last j ts least latest Undrawn e = absurd (let wrong : ballot.Dropped ≡ ballot.Last latest = e in cc)
is_last j ts least latest (Running c js) e = absurd (let wrong : ballot.Dropped ≡ ballot.Last latest = e in cc)
is_last j ts least latest (Finishing c [] vs) e = absurd (let wrong : ballot.Dropped ≡ ballot.Last latest = e in cc)
is_last j ts least latest (Finishing c (i ∷ is) vs) e = (let p = last_parts j ts least latest c (i ∷ is) vs e in record { client = c; first = i; rest = is; votes = vs; is = refl; all = p.0; time = p.1 })
is_last j ts least latest (Committed s js ds) e = absurd (let wrong : ballot.Dropped ≡ ballot.Last latest = e in cc)
is_last j ts least latest (Forgotten s js) e = absurd (let wrong : ballot.Dropped ≡ ballot.Last latest = e in cc)
is_last j ts least latest (Ended c) e = absurd (let wrong : ballot.Dropped ≡ ballot.Last latest = e in cc)

module _ (j : JoinNo) (ts least latest : ℕ) (f : Fate) (o : IsLast j ts least latest f) where
  -- it is one of the parts
  pub its_join : has_join j (joins_of f) ≡ true
  its_join = ap (λ (x : Fate). has_join j (joins_of x)) o.is ∙ (and_parts (has_join j (o.first ∷ o.rest)) (list_all (λ i. voted i (with_vote j ts o.votes)) (o.first ∷ o.rest)) o.all).0

  pub all_voted : list_all (λ i. voted i (with_vote j ts o.votes)) (o.first ∷ o.rest) ≡ true
  all_voted = (and_parts (has_join j (o.first ∷ o.rest)) (list_all (λ i. voted i (with_vote j ts o.votes)) (o.first ∷ o.rest)) o.all).1

  pub latest_above : least ≤ latest
  latest_above = (let from : latest_vote least (with_vote j ts o.votes) ≡ max least (latest_vote 0 (with_vote j ts o.votes)) = latest_from least (with_vote j ts o.votes) in let time : latest ≡ latest_vote least (with_vote j ts o.votes) = o.time in omega (arith, from, time))

  pub none_later : latest_vote 0 (with_vote j ts o.votes) ≤ latest
  none_later = (let from : latest_vote least (with_vote j ts o.votes) ≡ max least (latest_vote 0 (with_vote j ts o.votes)) = latest_from least (with_vote j ts o.votes) in let time : latest ≡ latest_vote least (with_vote j ts o.votes) = o.time in omega (arith, from, time))

  pub latest_low : latest_vote 0 o.votes ≤ 2 ^ 62 → ts ≤ 2 ^ 62 → least ≤ 2 ^ 62 → latest ≤ 2 ^ 62
  latest_low before now end =
      let from : latest_vote least (with_vote j ts o.votes) ≡ max least (latest_vote 0 (with_vote j ts o.votes)) = latest_from least (with_vote j ts o.votes) in
      let time : latest ≡ latest_vote least (with_vote j ts o.votes) = o.time in
      let low : latest_vote 0 (with_vote j ts o.votes) ≤ 2 ^ 62 = latest-with (voted j o.votes) o.votes (j, ts) before now in
      omega (arith, from, time, low, end)

  -- it is no later than one may be behind the votes that the transaction had
  pub latest_timely : (clock : ℕ) → least ≡ clock + 1 → latest ≤ max clock (latest_vote ts o.votes) + 1
  latest_timely clock is =
      let from : latest_vote least (with_vote j ts o.votes) ≡ max least (latest_vote 0 (with_vote j ts o.votes)) = latest_from least (with_vote j ts o.votes) in
      let time : latest ≡ latest_vote least (with_vote j ts o.votes) = o.time in
      let seen : latest_vote ts o.votes ≡ max ts (latest_vote 0 o.votes) = latest_from ts o.votes in
      let low : latest_vote 0 (with_vote j ts o.votes) ≤ max ts (latest_vote 0 o.votes) = go (voted j o.votes) in
      omega (arith, from, time, seen, low, is)
    where
      go : (b : Bool) → latest_vote 0 (cond {A = List Vote} b o.votes (o.votes ++ (j, ts) ∷ [])) ≤ max ts (latest_vote 0 o.votes)
      go true = omega arith
      go false = (let same : latest_vote 0 (o.votes ++ (j, ts) ∷ []) ≡ max (latest_vote 0 o.votes) ts = latest-last 0 o.votes (j, ts) in omega (arith, same))

-- the journal says so too
pub last_told : (epoch : ℕ) (t : TransId) (j : JoinNo) (ts least latest : ℕ) (known told : Fate) (o : IsLast j ts least latest known) → IsFateOf epoch t known told → ballot_of j ts least known ≡ ballot.Last latest
    → (vs : List Vote) × (told ≡ Finishing o.client (o.first ∷ o.rest) vs) × (has_all_votes j ts (o.first ∷ o.rest) vs ≡ true) × (latest ≡ latest_vote least (with_vote j ts vs))
last_told epoch t j ts least latest known told o h last =
    let s : IsFinishingSo o.client (o.first ∷ o.rest) told = finishing_told epoch t known told o.client (o.first ∷ o.rest) o.votes h o.is in
    let p = last_parts j ts least latest o.client (o.first ∷ o.rest) s.votes (ap (ballot_of j ts least) (sym s.is) ∙ sym (known-ballot epoch t j ts least known told h) ∙ last) in
    (s.votes, s.is, p.0, p.1)

-- ---- it is heard, and then decided

like_decided : (stamp : Stamp) (client : ℕ) (js : List JoinNo) (vs : List Vote) (f g : Fate) → IsLike f g → g ≡ Finishing client js vs → fate.decided stamp js f ≡ Committed stamp js []
like_decided stamp client js vs f g (like.same x) e = ap (fate.decided stamp js) e
like_decided stamp client js vs _ _ (like.finishing c ks ws xs h) e = refl
like_decided stamp client js vs _ _ (like.committed s ks ds es h) e = let wrong : Committed s ks es ≡ Finishing client js vs = e in cc

like_finishing : (client : ℕ) (js : List JoinNo) (vs : List Vote) (f g : Fate) → IsLike f g → g ≡ Finishing client js vs → fate.finishing f ≡ f
like_finishing client js vs f g (like.same x) e = ap fate.finishing e ∙ sym e
like_finishing client js vs _ _ (like.finishing c ks ws xs h) e = refl
like_finishing client js vs _ _ (like.committed s ks ds es h) e = refl

like_times : (n : ℕ) (f g : Fate) → IsLike f g → latest_vote n (votes_in f) ≡ latest_vote n (votes_in g)
like_times n f g (like.same x) = refl
like_times n _ _ (like.finishing c ks ws xs h) = h.latest n
like_times n _ _ (like.committed s ks ds es h) = refl

module _ (before mid : Coordinator) (t : TransId) (j : JoinNo) (ts least latest : ℕ) (o : IsLast j ts least latest (fate_in before t)) (hears : ComesLike (Hears t j ts) before mid) where
  -- what it is like then
  heard_at : IsLike (fate_in mid t) (Finishing o.client (o.first ∷ o.rest) (with_vote j ts o.votes))
  heard_at =
      subst (IsLike (fate_in mid t)) (ap (λ (b : Bool). cond {A = Fate} b (fate.heard j ts (fate_in before t)) (fate_in before t)) (same_trans-itself t) ∙ ap (fate.heard j ts) o.is) (hears t)

  pub heard_all : has_votes (fate_in mid t) ≡ true
  heard_all = like-votes (fate_in mid t) (Finishing o.client (o.first ∷ o.rest) (with_vote j ts o.votes)) heard_at ∙ all_voted j ts least latest (fate_in before t) o

  pub heard_late : latest_vote 0 (votes_in (fate_in mid t)) ≤ latest
  heard_late =
      let same : latest_vote 0 (votes_in (fate_in mid t)) ≡ latest_vote 0 (with_vote j ts o.votes) = like_times 0 (fate_in mid t) (Finishing o.client (o.first ∷ o.rest) (with_vote j ts o.votes)) heard_at in
      let late : latest_vote 0 (with_vote j ts o.votes) ≤ latest = none_later j ts least latest (fate_in before t) o in
      omega (arith, same, late)

  pub heard_joins : joins_of (fate_in mid t) ≡ o.first ∷ o.rest
  heard_joins = like-joins (fate_in mid t) (Finishing o.client (o.first ∷ o.rest) (with_vote j ts o.votes)) heard_at

  -- one that finishes does so still
  still_finishing : Comes (Finishes t) mid mid
  still_finishing u = go (same_trans t u) refl
    where
      go : (b : Bool) → same_trans t u ≡ b → fate_in mid u ≡ cond {A = Fate} b (fate.finishing (fate_in mid u)) (fate_in mid u)
      go true e =
          subst (λ (v : TransId). fate_in mid v ≡ fate.finishing (fate_in mid v)) (same_trans-true t u e)
          (sym (like_finishing o.client (o.first ∷ o.rest) (with_vote j ts o.votes) (fate_in mid t) (Finishing o.client (o.first ∷ o.rest) (with_vote j ts o.votes)) heard_at refl))
      go false e = refl

  module _ (after : Coordinator) (decides : Comes (Decides (record { ts = latest; trans = t }) (joins_of (fate_in mid t))) mid after) where
    abbrev stamp : Stamp
    stamp = record { ts = latest; trans = t }

    pub decided_so : Comes (Decides (record { ts = latest; trans = t }) (o.first ∷ o.rest)) mid after
    decided_so = subst (λ (js : List JoinNo). Comes (Decides (record { ts = latest; trans = t }) js) mid after) heard_joins decides

    -- it runs no more
    pub last_lets : (clock : ℕ) → IsAlong mid after → clock ≤ latest → AreDecidedBy clock mid → LetsGo mid after t latest
    last_lets clock along le times = lets_decide mid mid after t (o.first ∷ o.rest) clock latest (record { server_same = refl; epoch_same = refl; count_same = refl }) still_finishing along decided_so le times

    -- its decision is kept, and those of others as before
    pub last_kept : decision_kept (fate_in after t) ≡ Some (record { ts = latest; joins = o.first ∷ o.rest })
    last_kept =
        ap decision_kept (decided_so t ∙ ap (λ (b : Bool). cond {A = Fate} b (fate.decided stamp (o.first ∷ o.rest) (fate_in mid t)) (fate_in mid t)) (same_trans-itself t)
        ∙ like_decided stamp o.client (o.first ∷ o.rest) (with_vote j ts o.votes) (fate_in mid t) (Finishing o.client (o.first ∷ o.rest) (with_vote j ts o.votes)) heard_at refl)

    pub others_kept : (u : TransId) → (u ≡ t → ⊥) → decision_kept (fate_in mid u) ≡ decision_kept (fate_in after u)
    others_kept u other = go (same_trans t u) refl ∙ sym (ap decision_kept (decided_so u))
      where
        go : (b : Bool) → same_trans t u ≡ b → decision_kept (fate_in mid u) ≡ decision_kept (cond {A = Fate} b (fate.decided stamp (o.first ∷ o.rest) (fate_in mid u)) (fate_in mid u))
        go true e = absurd (other (sym (same_trans-true t u e)))
        go false e = refl

    -- as the journal says it
    pub last_by : (server epoch count : ℕ) (fates : TransId → Fate) → IsAlong before mid → IsAlong mid after → IsCoordinatorBy server epoch count fates before
        → IsCoordinatorBy server epoch count (λ u. cond {A = Fate} (same_trans t u) (fate.decided (record { ts = latest; trans = t }) (o.first ∷ o.rest) (fate.heard j ts (fates u))) (fates u)) after
    last_by server epoch count fates first second h = record {
      run = run_along server epoch count mid after (run_along server epoch count before mid h.run first) second;
      fates = λ u. subst (IsFateOf epoch u (fate_in after u)) (twice (same_trans t u) (fates u))
          (known-after epoch (Decides stamp (o.first ∷ o.rest)) u (fate_in mid u) (fate_in after u) (fate_after (Hears t j ts) u (fates u)) refl
          (known-after epoch (Hears t j ts) u (fate_in before u) (fate_in mid u) (fates u) refl (h.fates u) (hears u))
          (subst (IsLike (fate_in after u)) (decided_so u) (like.same (fate_in after u))));
    }
      where
        twice : (b : Bool) (f : Fate) → cond {A = Fate} b (fate.decided stamp (o.first ∷ o.rest) (cond {A = Fate} b (fate.heard j ts f) f)) (cond {A = Fate} b (fate.heard j ts f) f) ≡ cond {A = Fate} b (fate.decided stamp (o.first ∷ o.rest) (fate.heard j ts f)) f
        twice true f = refl
        twice false f = refl

-- where it is heard behind the write
pub hears_from : (before was mid : Coordinator) (t : TransId) (j : JoinNo) (ts least latest : ℕ) → IsLast j ts least latest (fate_in before t) → was ≡ before → (has_join j (joins_of (fate_in was t)) ≡ true → ComesLike (Hears t j ts) was mid) → ComesLike (Hears t j ts) before mid
hears_from before was mid t j ts least latest o same heard =
    subst (λ (x : Coordinator). ComesLike (Hears t j ts) x mid) same (heard (subst (λ (x : Coordinator). has_join j (joins_of (fate_in x t)) ≡ true) (sym same) (its_join j ts least latest (fate_in before t) o)))

-- what is decided was before, or is so now
pub last_decided : (s u : Stamp) (js ks : List JoinNo) (j : JoinNo) (ts : ℕ) (b : Bool) (f : Fate) → decision_in (cond {A = Fate} b (fate.decided s js (fate.heard j ts f)) f) ≡ Some (u, ks) → (P : Type 0) → (decision_in f ≡ Some (u, ks) → P) → (s ≡ u → P) → P
last_decided s u js ks j ts false f is P before now = before is
last_decided s u js ks j ts true (Finishing client ls vs) is P before now = now (ap (λ (o : Option (Stamp × List JoinNo)). stamp_in o) is)
  where
    stamp_in : Option (Stamp × List JoinNo) → Stamp
    stamp_in None = s
    stamp_in (Some x) = x.0
last_decided s u js ks j ts true Undrawn is P before now = before is
last_decided s u js ks j ts true (Running client ls) is P before now = before is
last_decided s u js ks j ts true (Committed v ls ds) is P before now = before is
last_decided s u js ks j ts true (Forgotten v ls) is P before now = before is
last_decided s u js ks j ts true (Ended c) is P before now = before is
