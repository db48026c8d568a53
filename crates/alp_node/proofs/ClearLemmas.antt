-- whose calls go as a transaction begins: those of dead parts, and those of what was decided
use Rattle.std.specs.Prelude.{cond, Bool, true, false, not, ◌==◌, ◌&&◌, ◌||◌, filter, find, Option, None, Some, is_some, is_none, IsSome}
use Rattle.std.specs.List.{AllByRecursion}
use Rattle.std.proofs.Common.{◌≡◌, ℕ, List, [], ◌∷◌, refl, sym, ◌∙◌, ap, subst, inl, inr, eq-eqb}
use Rattle.std.proofs.lemmas.Bool.{eqb-true}
use Rattle.alp_base.specs.declared.ids.JoinNo.{JoinNo}
use Rattle.alp_base.specs.declared.ids.Stamp.{Stamp}
use Rattle.alp_base.specs.declared.ids.TransId.{TransId}
use Rattle.alp_files.proofs.FilesLemmas.{same-some}
use Rattle.alp_files.specs.declared.refusal.Cause.{Cause}
use Rattle.alp_vault.specs.Contents.{Contents}
use Rattle.alp_journal.specs.Account.{Account, state_of, IsSettled, IsFateOf as IsToldFate, IsJoined, IsPartAs, IsPartOf, IsFinishOf, IsKnown}
use Rattle.alp_journal.specs.Along.{Where}
use Rattle.alp_journal.specs.Coordinator.{Fate, Undrawn, Running, Finishing, Committed, Forgotten, Ended, client_of, decision_in}
use Rattle.alp_journal.specs.Desk.{Waiting, part_trans, is_on, without}
use Rattle.alp_journal.specs.Holder.{Life}
use Rattle.alp_journal.specs.Ids.{same_trans}
use Rattle.alp_journal.specs.Participant.{Phase, live_in}
use Rattle.alp_journal.specs.State.{is_this, is_whose, join_for, has_part as has_part_said}
use Rattle.alp_journal.proofs.BeginCalls.{is_buried, unburied, is_decided, undecided, not_dead}
use Rattle.alp_journal.proofs.PartLemmas.{WaitsAs, each_waits}
use Rattle.alp_journal.proofs.StandLemmas.{pair_of, join_live, join_none, live_undecided, undecided_far, far_of_live, live_of_open, whose_own, no_own_join, own_server}
use Rattle.alp_journal.proofs.WaitLemmas.{file_part}
use Rattle.alp_coord.specs.Coordinators.{fate_in}
use Rattle.alp_coord.specs.Likeness.{IsLike, same, finishing, committed, is_over, IsLikeOld, standing, nothing, IsFateOf}
use Rattle.alp_coord.specs.declared.coordinator.Coordinator.{Coordinator}
use Rattle.alp_worker.specs.declared.joins.Joins.{Joins}
use Rattle.alp_worker.specs.declared.live.LiveJoin.{LiveJoin}
use Rattle.alp_worker.specs.Lives.{number_in, part_of}
use Rattle.alp_worker.proofs.WalkLemmas.{part_number}
use Rattle.alp_node.specs.ServerState.{IsAs}
use Rattle.alp_node.specs.Waits.{outlives, without_dead, has_part, stays, live_calls, waiting, waiting_calls}
use Rattle.alp_node.specs.declared.server_state.ServerState.{ServerState}
use Rattle.alp_node.specs.declared.waits.WaitingCall.{WaitingCall}
use Rattle.alp_node.proofs.BesideLemmas.{AreNamed, part_named, filter_told}

-- ---- who has a part

-- the client of what runs is the same
pub client_same : (epoch : ℕ) (t : TransId) (known told : Fate) → IsFateOf epoch t known told → client_of known ≡ client_of told
client_same epoch t known told h = go (t.epoch == epoch) h
  where
    like : (f g : Fate) → IsLike f g → client_of f ≡ client_of g
    like _ _ (same f) = refl
    like _ _ (finishing c js vs ws k) = refl
    like _ _ (committed s js ds es k) = refl

    over : (f : Fate) → is_over f ≡ true → None ≡ client_of f
    over Undrawn e = refl
    over (Running c js) e = let wrong : false ≡ true = e in cc
    over (Finishing c js vs) e = let wrong : false ≡ true = e in cc
    over (Committed s js ds) e = refl
    over (Forgotten s js) e = refl
    over (Ended c) e = refl

    old : (f g : Fate) → IsLikeOld f g → client_of f ≡ client_of g
    old _ _ (standing s j js ds es k) = refl
    old _ _ (nothing f e) = over f e

    go : (b : Bool) → Where b (IsLike known told) (IsLikeOld known told) → client_of known ≡ client_of told
    go true k = like known told k
    go false k = old known told k

pub has_part_told : (a : Account) (c : Coordinator) (js : Joins) (client : ℕ) (t : TransId) → IsFateOf a.ids.epoch t (fate_in c t) (a.fates t) → number_in (part_of client t js.lives) ≡ join_for (state_of a) client t
    → has_part client c js t ≡ has_part_said (state_of a) client t
has_part_told a c js client t like number = λ i. is_this client (client_same a.ids.epoch t (fate_in c t) (a.fates t) like i) || (there (part_of client t js.lives) ∙ ap (λ (x : Option JoinNo). is_some x) number) i
  where
    there : (x : Option LiveJoin) → is_some x ≡ is_some (number_in x)
    there None = refl
    there (Some l) = refl

-- ---- whose call waits has one just where its transaction is not decided

module _ (a : Account) (client : ℕ) (q : IsSettled a) where
  either_right : (b : Bool) {d : Bool} → d ≡ true → (b || d) ≡ true
  either_right true e = refl
  either_right false e = e

  own_has : (u : TransId) → client_of (a.fates u) ≡ Some client → has_part_said (state_of a) client u ≡ true
  own_has u is = ap (λ (x : Option ℕ). is_this client x || is_some (join_for (state_of a) client u)) is ∙ ap (λ (b : Bool). b || is_some (join_for (state_of a) client u)) (eq-eqb client client refl)

  join_has : (u : TransId) (j : JoinNo) → is_whose client u (live_in (a.phases j)) ≡ true → has_part_said (state_of a) client u ≡ true
  join_has u j live = either_right (is_this client (client_of (a.fates u))) (ap (λ (x : Option JoinNo). is_some x) (join_live a q.stands client u j live))

  live_has : (u : TransId) (l : Life) → a.holder.lives u ≡ Some l → l.client ≡ client → has_part_said (state_of a) client u ≡ true
  live_has u l live own = go l.join (pair_of a q.stands u l live)
    where
      its : (j : JoinNo) (p : Phase) → IsJoined u l p → is_whose client u (live_in p) ≡ true
      its j p h = elim h [
        | inl x ↦ ap (λ (y : Phase). is_whose client u (live_in y)) x.0 ∙ ap (λ (n : ℕ). same_trans u u && n == client) own ∙ whose_own client u
        | inr x ↦ ap (λ (y : Phase). is_whose client u (live_in y)) x.1 ∙ ap (λ (n : ℕ). same_trans u u && n == client) own ∙ whose_own client u
      ]

      go : (x : Option JoinNo) → IsPartAs u a.phases l (a.fates u) x → has_part_said (state_of a) client u ≡ true
      go None h = own_has u (h.0 ∙ ap Some own)
      go (Some j) h = join_has u j (its j (a.phases j) h.0)

  decided_none : (u : TransId) (f : Fate) → a.fates u ≡ f → client_of f ≡ None → IsKnown a.holder.server a.ids.epoch a.ids.transactions a.begun u → has_part_said (state_of a) client u ≡ false
  decided_none u f is over known =
      (λ i. is_this client (client_of (is i)) || is_some (join_none a q.stands client u (no_own_join a q.stands u (own_server a.holder.server a.ids.epoch a.ids.transactions u known.0) client) i)) ∙ ap (λ (x : Option ℕ). is_this client x || false) over

  -- a call of the client that is of no dead part
  stays_told : (w : Waiting) → is_buried a client w ≡ false → w.client ≡ client → (u : TransId) → part_trans w.call ≡ Some u → WaitsAs a w → has_part_said (state_of a) client u ≡ not (is_some (decision_in (a.fates u)))
  stays_told w off own u of (WaitsAs.file t on p) = by (a.holder.lives t) refl p
    where
      one : t ≡ u
      one = same-some t u (sym (file_part w.call t on) ∙ of)

      by : (x : Option Life) → a.holder.lives t ≡ x → IsPartOf w.client x (a.dead w.client t) → has_part_said (state_of a) client u ≡ not (is_some (decision_in (a.fates u)))
      by None e p = absurd (not_dead a client w t (file_part w.call t on) off own p)
      by (Some l) e p =
          let live : a.holder.lives u ≡ Some l = ap a.holder.lives (sym one) ∙ e in
          live_has u l live (sym p ∙ own) ∙ sym (ap (λ (x : Option (Stamp × List JoinNo)). not (is_some x)) (live_undecided a q.stands u l live))
  stays_told w off own u of (WaitsAs.join t on p) = elim p [
    | inl x ↦ (
        let one : t ≡ u = same-some t u (sym on ∙ of) in
        let live : is_whose client u (live_in (a.phases x.0)) ≡ true = (λ i. is_whose (sym own i) (sym one i) (live_in (a.phases x.0))) ∙ live_of_open w.client t (a.phases x.0) x.1 in
        join_has u x.0 live
        ∙ sym (ap (λ (y : Option (Stamp × List JoinNo)). not (is_some y)) (undecided_far a.servers a.holder.server a.ids.epoch a.ids.transactions a.begun u (a.fates u)
        (far_of_live a.servers a.holder.server a.ids.epoch a.ids.joins a.joined x.0 client u (a.phases x.0) live (q.stands.phases x.0)) (q.stands.fates u)))
        )
    | inr d ↦ absurd (not_dead a client w t on off own d)
  ]
  stays_told w off own u of (WaitsAs.finish t on p) = by (a.fates u) refl (q.stands.fates u) (subst (λ (v : TransId). IsFinishOf w.client (a.fates v) (a.dead w.client v)) (same-some t u (sym on ∙ of)) p)
    where
      told : IsSome (a.dead w.client u) → has_part_said (state_of a) client u ≡ not (is_some (decision_in (a.fates u)))
      told d = absurd (not_dead a client w u of off own d)

      by : (f : Fate) → a.fates u ≡ f → IsToldFate a.servers a.holder.server a.ids.epoch a.ids.transactions a.begun u f → IsFinishOf w.client f (a.dead w.client u) → has_part_said (state_of a) client u ≡ not (is_some (decision_in (a.fates u)))
      by Undrawn e k h = told h
      by (Running c js) e k h = told h
      by (Finishing c js vs) e k h = own_has u (ap client_of e ∙ ap Some (h ∙ own)) ∙ ap (λ (f : Fate). not (is_some (decision_in f))) (sym e)
      by (Committed s js ds) e k h = decided_none u (Committed s js ds) e refl k.0 ∙ ap (λ (f : Fate). not (is_some (decision_in f))) (sym e)
      by (Forgotten s js) e k h = decided_none u (Forgotten s js) e refl k.0 ∙ ap (λ (f : Fate). not (is_some (decision_in f))) (sym e)
      by (Ended c) e k h = told h

-- what runs is told just so
pub running_told : (epoch : ℕ) (t : TransId) (known told : Fate) (client : ℕ) (js : List JoinNo) → IsFateOf epoch t known told → known ≡ Running client js → told ≡ Running client js
running_told epoch t known told client js h is = go (t.epoch == epoch) h is
  where
    like : (f g : Fate) → IsLike f g → f ≡ Running client js → g ≡ Running client js
    like _ _ (same f) e = e
    like _ _ (finishing c ks vs ws k) e = let wrong : Finishing c ks vs ≡ Running client js = e in cc
    like _ _ (committed s ks ds es k) e = let wrong : Committed s ks ds ≡ Running client js = e in cc

    old : (f g : Fate) → IsLikeOld f g → f ≡ Running client js → g ≡ Running client js
    old _ _ (standing s j ks ds es k) e = let wrong : Committed s (j ∷ ks) ds ≡ Running client js = e in cc
    old _ _ (nothing f over) e = let wrong : Undrawn ≡ Running client js = e in cc

    go : (b : Bool) → Where b (IsLike known told) (IsLikeOld known told) → known ≡ Running client js → told ≡ Running client js
    go true k e = like known told k e
    go false k e = old known told k e

-- ---- so the same calls go

module _ {V : Type 0} (a : Account) (held : Contents) (k : ServerState V) (client : ℕ) (h : IsAs a held k) where
  -- the client has a part of a transaction then just where it had, but of the one that begins
  abbrev pub KeepsParts : Coordinator → List WaitingCall → Type 0
  KeepsParts c ws = AllByRecursion (λ (v : WaitingCall). has_part client c k.joins v.trans ≡ has_part client k.coordinator k.joins v.trans) ws

  abbrev IsPart : WaitingCall → Type 0
  IsPart v = WaitsAs a (waiting v)

  part_kept : (t : TransId) → has_part client k.coordinator k.joins t ≡ has_part_said (state_of a) client t
  part_kept t = has_part_told a k.coordinator k.joins client t (h.coordinator.fates t) (part_number client t a.holder.server a.ids.epoch a.ids.joins a.phases a.joined k.joins h.joins)

  -- as it is of no dead part
  stays_alike : (c : Coordinator) (v : WaitingCall) → part_trans v.call ≡ Some v.trans → IsPart v → has_part client c k.joins v.trans ≡ has_part client k.coordinator k.joins v.trans → is_buried a client (waiting v) ≡ false → not (is_decided a client (waiting v)) ≡ stays client c k.joins v
  stays_alike c v of waits stays_so off = ap (λ (x : Option TransId). not (v.client == client && is_on (λ t. is_some (decision_in (a.fates t))) x)) of ∙ go (v.client == client) refl
    where
      go : (b : Bool) → (v.client == client) ≡ b → not (b && is_some (decision_in (a.fates v.trans))) ≡ (not b || has_part client c k.joins v.trans)
      go false e = refl
      go true e = sym (stays_so ∙ part_kept v.trans ∙ stays_told a client h.quiet.settled (waiting v) off (eqb-true v.client client e) v.trans of waits)

  abbrev off_of : WaitingCall → Type 0
  off_of v = not (is_buried a client (waiting v)) ≡ outlives client k.dead v

  undecided_calls : (c : Coordinator) (ws : List WaitingCall) → AreNamed ws → AllByRecursion (WaitsAs a) (waiting_calls ws) → KeepsParts c ws → AllByRecursion off_of ws
      → without (is_decided a client) (without (is_buried a client) (waiting_calls ws)) ≡ waiting_calls (live_calls client c k.joins (without_dead client k.dead ws))
  undecided_calls c [] named waits stays_so off = refl
  undecided_calls c (v ∷ vs) named waits stays_so off = first (is_buried a client (waiting v)) refl (outlives client k.dead v) off.0 (undecided_calls c vs named.1 waits.1 stays_so.1 off.1)
    where
      rest_said : List Waiting
      rest_said = without (is_buried a client) (waiting_calls vs)

      rest_kept : List WaitingCall
      rest_kept = without_dead client k.dead vs

      second : (d e : Bool) → not d ≡ e → without (is_decided a client) rest_said ≡ waiting_calls (live_calls client c k.joins rest_kept)
          → cond {A = List Waiting} (not d) (waiting v ∷ without (is_decided a client) rest_said) (without (is_decided a client) rest_said) ≡ waiting_calls (cond {A = List WaitingCall} e (v ∷ live_calls client c k.joins rest_kept) (live_calls client c k.joins rest_kept))
      second true false f rest = rest
      second false true f rest = ap (λ (ws : List Waiting). waiting v ∷ ws) rest
      second true true f rest = let wrong : false ≡ true = f in cc
      second false false f rest = let wrong : true ≡ false = f in cc

      first : (b : Bool) → is_buried a client (waiting v) ≡ b → (o : Bool) → not b ≡ o → without (is_decided a client) rest_said ≡ waiting_calls (live_calls client c k.joins rest_kept)
          → without (is_decided a client) (cond {A = List Waiting} (not b) (waiting v ∷ rest_said) rest_said) ≡ waiting_calls (live_calls client c k.joins (cond {A = List WaitingCall} o (v ∷ rest_kept) rest_kept))
      first true is false f rest = rest
      first false is true f rest = second (is_decided a client (waiting v)) (stays client c k.joins v) (stays_alike c v (part_named v named.0) waits.0 stays_so.0 is) rest
      first true is true f rest = let wrong : false ≡ true = f in cc
      first false is false f rest = let wrong : true ≡ false = f in cc

  pub cleared_told : (c : Coordinator) → AreNamed k.waits → KeepsParts c k.waits → AllByRecursion off_of k.waits → undecided a client ≡ waiting_calls (live_calls client c k.joins (without_dead client k.dead k.waits))
  cleared_told c named stays_so off =
      ap (λ (ws : List Waiting). without (is_decided a client) (without (is_buried a client) ws)) h.waits
      ∙ undecided_calls c k.waits named (subst (AllByRecursion (WaitsAs a)) h.waits (each_waits a h.quiet.settled.tells)) stays_so off
