-- what a client has of a transaction, as the server and as its journal say it
use Rattle.std.specs.Prelude.{cond, Bool, true, false, ◌==◌, ◌&&◌, ◌||◌, find, Option, None, Some, is_some, is_none, IsSome, ◌⊎◌}
use Rattle.std.specs.Option.{option_and_then}
use Rattle.std.specs.FinMap as map
use Rattle.std.proofs.Common.{◌≡◌, ℕ, List, [], ◌∷◌, refl, sym, ◌∙◌, ap, subst, inl, inr, eq-eqb}
use Rattle.std.proofs.lemmas.Bool.{eqb-true, and_parts}
use Rattle.alp_base.specs.declared.ids.JoinNo.{JoinNo}
use Rattle.alp_base.specs.declared.ids.TransId.{TransId}
use Rattle.alp_files.specs.declared.refusal.Cause.{Cause}
use Rattle.alp_files.specs.declared.refusal.Cause.TheVariants as cause
use Rattle.alp_files.specs.declared.refusal.Refusal.{Refusal}
use Rattle.alp_files.specs.declared.refusal.Refusal.TheVariants as refusal
use Rattle.alp_files.specs.declared.reply.Reply.{Reply}
use Rattle.alp_files.specs.declared.reply.Reply.TheVariants as reply
use Rattle.alp_journal.specs.Answered.{is_read_fault}
use Rattle.alp_vault.specs.Contents.{Contents}
use Rattle.alp_journal.specs.Account.{Account, state_of, IsSettled, HasWaits}
use Rattle.alp_journal.specs.Along.{Where}
use Rattle.alp_journal.specs.Answers.{Part, NoPart, AtJoining, AtWork, AtFinish, AtReady, AtEnd, ended_part, own_part, phase_part, join_part, part_at, at_part, part_refusal}
use Rattle.alp_journal.specs.Coordinator.{Fate, Vote, Undrawn, Running, Finishing, Committed, Forgotten, Ended, client_of}
use Rattle.alp_journal.specs.Deeds.{Deed, Finishes, Ends}
use Rattle.alp_journal.specs.Desk.{Desk, Waiting, waiting_of, is_of_part}
use Rattle.alp_journal.specs.Holder.{Life}
use Rattle.alp_journal.specs.Ids.{same_trans}
use Rattle.alp_journal.specs.Messages.{Mail, to_each, on_finish}
use Rattle.alp_journal.specs.declared.message.Message.TheVariants as msg
use Rattle.alp_journal.specs.Moves.{finishes, ends_by}
use Rattle.alp_journal.specs.Participant.{Phase, Unseen, Joining, Active, Ready, Applied, Over, live_in}
use Rattle.alp_journal.specs.State.{is_whose, join_for}
use Rattle.alp_journal.proofs.IdLemmas.{same_trans-true}
use Rattle.alp_journal.proofs.PartLemmas.{IsAtWork, at_work_open}
use Rattle.alp_journal.proofs.WaitLemmas.{found-passes}
use Rattle.alp_coord.specs.Coordinators.{fate_in}
use Rattle.alp_coord.specs.Likeness.{IsLike, same, finishing, committed, is_over, IsLikeOld, standing as stands, nothing, IsFateOf}
use Rattle.alp_worker.specs.declared.live.LiveJoin.{LiveJoin}
use Rattle.alp_worker.specs.declared.live.Stage.{Stage}
use Rattle.alp_worker.specs.declared.live.Stage.TheVariants as stage
use Rattle.alp_worker.specs.Lives.{is_open, is_part, join_at, live_at, part_of}
use Rattle.alp_worker.proofs.WalkLemmas.{part_phase}
use Rattle.alp_node.specs.Dead.{cause_in}
use Rattle.alp_node.specs.Paired.{is_in, ActsFor, IsItsJoin, IsPartOf, IsPairedWith}
use Rattle.alp_node.specs.ServerState.{IsAs, IsReady}
use Rattle.alp_node.specs.Halts.{says_shut}
use Rattle.alp_node.specs.Turns.{IsInSession}
use Rattle.alp_node.specs.Standings.{ended_standing, own_standing, stage_standing, joined_standing, standing_of, refusal_at}
use Rattle.alp_node.specs.Waits.{has_waiting}
use Rattle.alp_node.specs.declared.lives.Live.{Live}
use Rattle.alp_node.specs.declared.served.Standing.{Standing}
use Rattle.alp_node.specs.declared.served.Standing.TheVariants as standing
use Rattle.alp_node.specs.declared.server_state.ServerState.{ServerState}
use Rattle.alp_node.proofs.BesideLemmas.{AreNamed, idle_told, IsBusy, busy_told}
use Rattle.alp_node.proofs.NotedLemmas.{HasNoVoter, found_at}
use Rattle.alp_node.proofs.PairedLemmas.{own_unjoined, own_client, running_part}

-- the part that the journal says
abbrev pub IsPartFor : Standing → Part → Type 0
IsPartFor standing.Unknown p = p ≡ NoPart
IsPartFor standing.Joining p = p ≡ AtJoining
IsPartFor standing.Work p = p ≡ AtWork
IsPartFor standing.Finishing p = (p ≡ AtFinish) ⊎ (p ≡ AtReady)
IsPartFor (standing.Ended c) p = p ≡ AtEnd c

ended_for : (dead : Option Cause) → IsPartFor (ended_standing dead) (ended_part dead)
ended_for None = refl
ended_for (Some c) = refl

-- ---- of this server's own

module _ (client : ℕ) (dead : Option Cause) where
  runs_for : (b : Bool) → IsPartFor (cond {A = Standing} b standing.Work standing.Unknown) (cond {A = Part} b AtWork NoPart)
  runs_for true = refl
  runs_for false = refl

  finishes_for : (b : Bool) → IsPartFor (cond {A = Standing} b standing.Finishing standing.Unknown) (cond {A = Part} b AtFinish NoPart)
  finishes_for true = inl refl
  finishes_for false = refl

  same_for : (f : Fate) → IsPartFor (own_standing client dead f) (own_part client dead f)
  same_for Undrawn = ended_for dead
  same_for (Running c js) = runs_for (c == client)
  same_for (Finishing c js vs) = finishes_for (c == client)
  same_for (Committed s js ds) = ended_for dead
  same_for (Forgotten s js) = ended_for dead
  same_for (Ended c) = ended_for dead

  like_for : (f g : Fate) → IsLike f g → IsPartFor (own_standing client dead f) (own_part client dead g)
  like_for _ _ (same f) = same_for f
  like_for _ _ (finishing c js vs ws k) = finishes_for (c == client)
  like_for _ _ (committed s js ds es k) = ended_for dead

  over_for : (f : Fate) → is_over f ≡ true → IsPartFor (ended_standing dead) (own_part client dead f)
  over_for Undrawn over = ended_for dead
  over_for (Running c js) over = let wrong : false ≡ true = over in cc
  over_for (Finishing c js vs) over = let wrong : false ≡ true = over in cc
  over_for (Committed s js ds) over = ended_for dead
  over_for (Forgotten s js) over = ended_for dead
  over_for (Ended c) over = ended_for dead

  old_for : (f g : Fate) → IsLikeOld f g → IsPartFor (own_standing client dead f) (own_part client dead g)
  old_for _ _ (stands s j js ds es k) = ended_for dead
  old_for _ _ (nothing f over) = over_for f over

  own_for : (epoch : ℕ) (t : TransId) (known told : Fate) → IsFateOf epoch t known told → IsPartFor (own_standing client dead known) (own_part client dead told)
  own_for epoch t known told h = go (t.epoch == epoch) h
    where
      go : (b : Bool) → Where b (IsLike known told) (IsLikeOld known told) → IsPartFor (own_standing client dead known) (own_part client dead told)
      go true k = like_for known told k
      go false k = old_for known told k

  -- ---- of another server's

  joined_for : (t : TransId) (j : JoinNo) (p : Phase) → is_whose client t (live_in p) ≡ true → IsPartFor (joined_standing dead (live_at j p)) (phase_part p)
  joined_for t j Unseen h = let wrong : false ≡ true = h in cc
  joined_for t j (Joining u c who) h = refl
  joined_for t j (Active u c who) h = refl
  joined_for t j (Ready u c ts) h = inr refl
  joined_for t j (Applied u stamp) h = let wrong : false ≡ true = h in cc
  joined_for t j Over h = let wrong : false ≡ true = h in cc

-- ---- of a server that keeps what its journal says

module _ {V : Type 0} (a : Account) (held : Contents) (k : ServerState V) (client : ℕ) (t : TransId) (h : IsAs a held k) where
  abbrev dead : Option Cause
  dead = cause_in k.dead client t

  part_kept : part_of client t k.joins.lives ≡ option_and_then (λ j. live_at j (a.phases j)) (join_for (state_of a) client t)
  part_kept = part_phase client t a.holder.server a.ids.epoch a.ids.joins a.phases a.joined k.joins h.joins

  pub standing_told : IsPartFor (standing_of k client t) (part_at (state_of a) client t)
  standing_told =
      subst (λ (n : ℕ). IsPartFor (standing_of k client t) (cond {A = Part} (t.server == n) (own_part client (a.dead client t) (a.fates t)) (join_part (state_of a) (a.dead client t) (join_for (state_of a) client t)))) (sym h.server)
      (subst (λ (d : Option Cause). IsPartFor (standing_of k client t) (cond {A = Part} (t.server == k.server) (own_part client d (a.fates t)) (join_part (state_of a) d (join_for (state_of a) client t)))) (sym (h.dead client t)) (go (t.server == k.server)))
    where
      far : (x : Option JoinNo) → join_for (state_of a) client t ≡ x → IsPartFor (joined_standing dead (part_of client t k.joins.lives)) (join_part (state_of a) dead x)
      far None e = subst (λ (y : Option LiveJoin). IsPartFor (joined_standing dead y) (ended_part dead)) (sym (part_kept ∙ ap (option_and_then (λ j. live_at j (a.phases j))) e)) (ended_for dead)
      far (Some j) e = subst (λ (y : Option LiveJoin). IsPartFor (joined_standing dead y) (phase_part (a.phases j))) (sym (part_kept ∙ ap (option_and_then (λ j. live_at j (a.phases j))) e))
          (joined_for client dead t j (a.phases j) (found-passes (λ i. is_whose client t (live_in (a.phases i))) a.joined j e))

      go : (b : Bool) → IsPartFor (cond {A = Standing} b (own_standing client dead (fate_in k.coordinator t)) (joined_standing dead (part_of client t k.joins.lives))) (cond {A = Part} b (own_part client dead (a.fates t)) (join_part (state_of a) dead (join_for (state_of a) client t)))
      go true = own_for client dead a.ids.epoch t (fate_in k.coordinator t) (a.fates t) (h.coordinator.fates t)
      go false = far (join_for (state_of a) client t) refl

  pub part_told : (s : Standing) → standing_of k client t ≡ s → IsPartFor s (part_at (state_of a) client t)
  part_told s is = subst (λ (x : Standing). IsPartFor x (part_at (state_of a) client t)) is standing_told

  -- another call of the part waits where the journal says so
  pub busy_same : AreNamed k.waits → has_waiting client t k.waits ≡ is_some (waiting_of (state_of a).desk client t)
  busy_same named = go (has_waiting client t k.waits) refl
    where
      go : (b : Bool) → has_waiting client t k.waits ≡ b → b ≡ is_some (waiting_of (state_of a).desk client t)
      go false e = sym (ap (λ (x : Option Waiting). is_some x) (idle_told a client t k.waits h.waits named e))
      go true e = sym (ap (λ (x : Option Waiting). is_some x) ((busy_told a client t k.waits h.waits named e).waits))

  -- so a call of it is refused as it is to be
  pub refusal_told : AreNamed k.waits → refusal_at (has_waiting client t k.waits) (standing_of k client t) ≡ part_refusal (state_of a) client t
  refusal_told named = go (has_waiting client t k.waits) (standing_of k client t) (part_at (state_of a) client t) standing_told ∙ ap (λ (b : Bool). at_part b (part_at (state_of a) client t)) (busy_same named)
    where
      go : (b : Bool) (s : Standing) (p : Part) → IsPartFor s p → refusal_at b s ≡ at_part b p
      go b standing.Unknown p is = sym (ap (at_part b) is)
      go b standing.Joining p is = sym (ap (at_part b) is)
      go b standing.Work p is = sym (ap (at_part b) is)
      go b standing.Finishing p is = elim is [ inl e ↦ sym (ap (at_part b) e) | inr e ↦ sym (ap (at_part b) e) ]
      go b (standing.Ended c) p is = sym (ap (at_part b) is)

  -- a part at work did not vote
  pub unvoted_told : standing_of k client t ≡ standing.Work → (life : Life) → a.holder.lives t ≡ Some life → IsAtWork a t life
  unvoted_told is life live = at_work_open a h.quiet.settled.stands t life live client (part_told standing.Work is)

-- whoever asks to be let in waits for it
pub joining_waits : (a : Account) (client : ℕ) (t : TransId) → IsSettled a → part_at (state_of a) client t ≡ AtJoining → IsSome (waiting_of (state_of a).desk client t)
joining_waits a client t q is = go (t.server == a.holder.server) is
  where
    ended : (d : Option Cause) → ended_part d ≡ AtJoining → ⊥
    ended None e = let wrong : NoPart ≡ AtJoining = e in cc
    ended (Some c) e = let wrong : AtEnd c ≡ AtJoining = e in cc

    runs : (b : Bool) → cond {A = Part} b AtWork NoPart ≡ AtJoining → ⊥
    runs true e = let wrong : AtWork ≡ AtJoining = e in cc
    runs false e = let wrong : NoPart ≡ AtJoining = e in cc

    ends : (b : Bool) → cond {A = Part} b AtFinish NoPart ≡ AtJoining → ⊥
    ends true e = let wrong : AtFinish ≡ AtJoining = e in cc
    ends false e = let wrong : NoPart ≡ AtJoining = e in cc

    own : (f : Fate) → own_part client (a.dead client t) f ≡ AtJoining → ⊥
    own Undrawn e = ended (a.dead client t) e
    own (Running c js) e = runs (c == client) e
    own (Finishing c js vs) e = ends (c == client) e
    own (Committed s js ds) e = ended (a.dead client t) e
    own (Forgotten s js) e = ended (a.dead client t) e
    own (Ended c) e = ended (a.dead client t) e

    at : (p : Phase) → is_whose client t (live_in p) ≡ true → phase_part p ≡ AtJoining → HasWaits a.waits p → IsSome (waiting_of (state_of a).desk client t)
    at (Joining u c who) mine e h =
        let both = and_parts (same_trans u t) (c == client) mine in
        subst (λ (v : TransId). IsSome (find (is_of_part client v) a.waits)) (same_trans-true u t both.0) (subst (λ (n : ℕ). IsSome (find (is_of_part n u) a.waits)) (eqb-true c client both.1) h)
    at (Active u c who) mine e h = let wrong : AtWork ≡ AtJoining = e in cc
    at (Ready u c ts) mine e h = let wrong : AtReady ≡ AtJoining = e in cc
    at Unseen mine e h = let wrong : NoPart ≡ AtJoining = e in cc
    at (Applied u stamp) mine e h = let wrong : NoPart ≡ AtJoining = e in cc
    at Over mine e h = let wrong : NoPart ≡ AtJoining = e in cc

    far : (x : Option JoinNo) → join_for (state_of a) client t ≡ x → join_part (state_of a) (a.dead client t) x ≡ AtJoining → IsSome (waiting_of (state_of a).desk client t)
    far None f e = absurd (ended (a.dead client t) e)
    far (Some j) f e = at (a.phases j) (found-passes (λ i. is_whose client t (live_in (a.phases i))) a.joined j f) e (q.tells.joining j)

    go : (b : Bool) → cond {A = Part} b (own_part client (a.dead client t) (a.fates t)) (join_part (state_of a) (a.dead client t) (join_for (state_of a) client t)) ≡ AtJoining → IsSome (waiting_of (state_of a).desk client t)
    go true e = absurd (own (a.fates t) e)
    go false e = far (join_for (state_of a) client t) refl e

-- ---- a Finish ends nothing where the client has no part at work

pub record EndsNone (client : ℕ) (t : TransId) (commit : Bool) (desk : Desk) (r : Reply) (f : Fate) : Type 0 where
  pub deeds : finishes desk client t commit r f ≡ []
  pub mail : (idle : Bool) → on_finish t commit client idle f ≡ []

others_running : (client c : ℕ) (t : TransId) (commit : Bool) (desk : Desk) (r : Reply) (js : List JoinNo) → (c == client) ≡ false → EndsNone client t commit desk r (Running c js)
others_running client c t true desk r js away = record {
  deeds = ap (λ (b : Bool). cond {A = List Deed} (b && is_none (waiting_of desk client t)) (Finishes t ∷ ends_by t client r) []) away;
  mail = λ idle. ap (λ (b : Bool). cond {A = List Mail} (b && idle) (to_each (msg.Ask t) js) []) away;
}
others_running client c t false desk r js away = record {
  deeds = ap (λ (b : Bool). cond {A = List Deed} b (Ends t client cause.Asked ∷ []) []) away;
  mail = λ idle. ap (λ (b : Bool). cond {A = List Mail} b (to_each (λ (j : JoinNo). msg.Abort t j cause.Asked) js) []) away;
}

pub ends_none : (client : ℕ) (t : TransId) (commit : Bool) (desk : Desk) (r : Reply) (d : Option Cause) (f : Fate) → (own_part client d f ≡ AtWork → ⊥) → EndsNone client t commit desk r f
ends_none client t true desk r d Undrawn none = record { deeds = refl; mail = λ b. refl }
ends_none client t false desk r d Undrawn none = record { deeds = refl; mail = λ b. refl }
ends_none client t commit desk r d (Running c js) none = others_running client c t commit desk r js (go (c == client) refl)
  where
    go : (x : Bool) → (c == client) ≡ x → x ≡ false
    go false e = refl
    go true e = absurd (none (ap (λ (y : Bool). cond {A = Part} y AtWork NoPart) e))
ends_none client t true desk r d (Finishing c js vs) none = record { deeds = refl; mail = λ b. refl }
ends_none client t false desk r d (Finishing c js vs) none = record { deeds = refl; mail = λ b. refl }
ends_none client t true desk r d (Committed x js ds) none = record { deeds = refl; mail = λ b. refl }
ends_none client t false desk r d (Committed x js ds) none = record { deeds = refl; mail = λ b. refl }
ends_none client t true desk r d (Forgotten x js) none = record { deeds = refl; mail = λ b. refl }
ends_none client t false desk r d (Forgotten x js) none = record { deeds = refl; mail = λ b. refl }
ends_none client t true desk r d (Ended c) none = record { deeds = refl; mail = λ b. refl }
ends_none client t false desk r d (Ended c) none = record { deeds = refl; mail = λ b. refl }

-- where a part ended, or is unknown, none works
pub ended_idle : (d : Option Cause) → ended_part d ≡ AtWork → ⊥
ended_idle None e = let wrong : NoPart ≡ AtWork = e in cc
ended_idle (Some c) e = let wrong : AtEnd c ≡ AtWork = e in cc

-- what is finishing is so for its client
pub own_finishes : (client : ℕ) (d : Option Cause) (f : Fate) → own_part client d f ≡ AtFinish → (js : List JoinNo) × (vs : List Vote) × (f ≡ Finishing client js vs)
own_finishes client d f e = go f e
  where
    none : (x : Option Cause) → ended_part x ≡ AtFinish → ⊥
    none None e = let wrong : NoPart ≡ AtFinish = e in cc
    none (Some c) e = let wrong : AtEnd c ≡ AtFinish = e in cc

    runs : (b : Bool) → cond {A = Part} b AtWork NoPart ≡ AtFinish → ⊥
    runs true e = let wrong : AtWork ≡ AtFinish = e in cc
    runs false e = let wrong : NoPart ≡ AtFinish = e in cc

    its : (n : ℕ) (js : List JoinNo) (vs : List Vote) (b : Bool) → (n == client) ≡ b → cond {A = Part} b AtFinish NoPart ≡ AtFinish → (ks : List JoinNo) × (ws : List Vote) × (Finishing n js vs ≡ Finishing client ks ws)
    its n js vs true is e = (js, vs, ap (λ (m : ℕ). Finishing m js vs) (eqb-true n client is))
    its n js vs false is e = let wrong : NoPart ≡ AtFinish = e in cc

    go : (f : Fate) → own_part client d f ≡ AtFinish → (js : List JoinNo) × (vs : List Vote) × (f ≡ Finishing client js vs)
    go Undrawn e = absurd (none d e)
    go (Running c js) e = absurd (runs (c == client) e)
    go (Finishing c js vs) e = its c js vs (c == client) refl e
    go (Committed s js ds) e = absurd (none d e)
    go (Forgotten s js) e = absurd (none d e)
    go (Ended c) e = absurd (none d e)

-- a part of a transaction of this server does not ask to be let in, and is not ready
pub own_not_ready : (client : ℕ) (d : Option Cause) (f : Fate) → own_part client d f ≡ AtReady → ⊥
own_not_ready client d f e = go f e
  where
    none : (x : Option Cause) → ended_part x ≡ AtReady → ⊥
    none None e = let wrong : NoPart ≡ AtReady = e in cc
    none (Some c) e = let wrong : AtEnd c ≡ AtReady = e in cc

    runs : (b : Bool) → cond {A = Part} b AtWork NoPart ≡ AtReady → ⊥
    runs true e = let wrong : AtWork ≡ AtReady = e in cc
    runs false e = let wrong : NoPart ≡ AtReady = e in cc

    ends : (b : Bool) → cond {A = Part} b AtFinish NoPart ≡ AtReady → ⊥
    ends true e = let wrong : AtFinish ≡ AtReady = e in cc
    ends false e = let wrong : NoPart ≡ AtReady = e in cc

    go : (f : Fate) → own_part client d f ≡ AtReady → ⊥
    go Undrawn e = none d e
    go (Running c js) e = runs (c == client) e
    go (Finishing c js vs) e = ends (c == client) e
    go (Committed s js ds) e = none d e
    go (Forgotten s js) e = none d e
    go (Ended c) e = none d e

pub own_not_joining : (client : ℕ) (d : Option Cause) (f : Fate) → own_standing client d f ≡ standing.Joining → ⊥
own_not_joining client d f e = go f e
  where
    none : (x : Option Cause) → ended_standing x ≡ standing.Joining → ⊥
    none None e = let wrong : standing.Unknown ≡ standing.Joining = e in cc
    none (Some c) e = let wrong : standing.Ended c ≡ standing.Joining = e in cc

    runs : (b : Bool) → cond {A = Standing} b standing.Work standing.Unknown ≡ standing.Joining → ⊥
    runs true e = let wrong : standing.Work ≡ standing.Joining = e in cc
    runs false e = let wrong : standing.Unknown ≡ standing.Joining = e in cc

    ends : (b : Bool) → cond {A = Standing} b standing.Finishing standing.Unknown ≡ standing.Joining → ⊥
    ends true e = let wrong : standing.Finishing ≡ standing.Joining = e in cc
    ends false e = let wrong : standing.Unknown ≡ standing.Joining = e in cc

    go : (f : Fate) → own_standing client d f ≡ standing.Joining → ⊥
    go Undrawn e = none d e
    go (Running c js) e = runs (c == client) e
    go (Finishing c js vs) e = ends (c == client) e
    go (Committed s js ds) e = none d e
    go (Forgotten s js) e = none d e
    go (Ended c) e = none d e

-- ---- a part at work, whatever the vault tells

-- it is live and the client's, acts for a principal, and did not vote
pub record WorksHere {V : Type 0} (k : ServerState V) (client : ℕ) (t : TransId) : Type 0 where
  pub live : Live
  pub there : map.get k.lives t ≡ Some live
  pub own : live.client ≡ client
  pub caller : is_some live.who ≡ true
  pub unvoted : HasNoVoter k.joins.lives t

not_ended_work : (d : Option Cause) → ended_standing d ≡ standing.Work → ⊥
not_ended_work None e = let wrong : standing.Unknown ≡ standing.Work = e in cc
not_ended_work (Some c) e = let wrong : standing.Ended c ≡ standing.Work = e in cc

-- a transaction of this server at work runs for its client
pub own_works : (client : ℕ) (d : Option Cause) (f : Fate) → own_standing client d f ≡ standing.Work → (js : List JoinNo) × (f ≡ Running client js)
own_works client d Undrawn e = absurd (not_ended_work d e)
own_works client d (Running c js) e = go (c == client) refl e
  where
    go : (b : Bool) → (c == client) ≡ b → cond {A = Standing} b standing.Work standing.Unknown ≡ standing.Work → (ks : List JoinNo) × (Running c js ≡ Running client ks)
    go true is f = (js, ap (λ (n : ℕ). Running n js) (eqb-true c client is))
    go false is f = let wrong : standing.Unknown ≡ standing.Work = f in cc
own_works client d (Finishing c js vs) e = go (c == client) e
  where
    go : (b : Bool) → cond {A = Standing} b standing.Finishing standing.Unknown ≡ standing.Work → (ks : List JoinNo) × (Finishing c js vs ≡ Running client ks)
    go true f = let wrong : standing.Finishing ≡ standing.Work = f in cc
    go false f = let wrong : standing.Unknown ≡ standing.Work = f in cc
own_works client d (Committed s js ds) e = absurd (not_ended_work d e)
own_works client d (Forgotten s js) e = absurd (not_ended_work d e)
own_works client d (Ended c) e = absurd (not_ended_work d e)

-- that of a join was let in
pub stage_works : (s : Stage) → stage_standing s ≡ standing.Work → (who : List ℕ) × (s ≡ stage.Active who)
stage_works (stage.Joining who) e = let wrong : standing.Joining ≡ standing.Work = e in cc
stage_works (stage.Active who) e = (who, refl)
stage_works (stage.Ready ts) e = let wrong : standing.Finishing ≡ standing.Work = e in cc

-- in this server's words
pub standing_here : {V : Type 0} (k : ServerState V) (client : ℕ) (t : TransId) (s : Standing) → t.server ≡ k.server → standing_of k client t ≡ s → own_standing client (cause_in k.dead client t) (fate_in k.coordinator t) ≡ s
standing_here k client t s own is =
    sym (ap (λ (b : Bool). cond {A = Standing} b (own_standing client (cause_in k.dead client t) (fate_in k.coordinator t)) (joined_standing (cause_in k.dead client t) (part_of client t k.joins.lives))) (eq-eqb t.server k.server own)) ∙ is

module _ {V : Type 0} (n : ℕ) (serves : Bool) (k : ServerState V) (h : IsReady n serves k) (client : ℕ) (t : TransId) where
  same_number : (i j : JoinNo) → Some i ≡ Some j → i ≡ j
  same_number i j e = cc

  same_join_of : (x y : LiveJoin) → Some x ≡ Some y → x ≡ y
  same_join_of x y e = cc

  same_live : (x y : Live) → Some x ≡ Some y → x ≡ y
  same_live x y e = cc

  -- of a join that works
  module _ (y : LiveJoin) (at : join_at k.joins.lives y.join ≡ Some y) (its : y.trans ≡ t) (mine : y.client ≡ client) (who : List ℕ) (active : y.stage ≡ stage.Active who) where
    abbrev HasIt : Type 0
    HasIt = (l : Live) × (map.get k.lives y.trans ≡ Some l) × (l.join ≡ Some y.join)

    part : HasIt
    part = h.paired.joins y.join y at (ap is_in active)

    there : map.get k.lives t ≡ Some part.0
    there = ap (map.get k.lives) (sym its) ∙ part.1

    pair : IsItsJoin t part.0 (Some y)
    pair = subst (IsItsJoin t part.0) at ((subst (IsPartOf k.joins t part.0 (fate_in k.coordinator t)) part.2 (subst (IsPairedWith k.joins t (fate_in k.coordinator t)) there (h.paired.parts t))).1)

    acts : (s : Stage) → s ≡ stage.Active who → ActsFor s part.0.who → part.0.who ≡ Some who
    acts s is q = subst (λ (x : Stage). ActsFor x part.0.who) is q

    none_voted : HasNoVoter k.joins.lives t
    none_voted j x is voted = go (same_trans x.trans t) refl
      where
        inside : (s : Stage) → is_open s ≡ false → is_in s ≡ true
        inside (stage.Joining who) e = let wrong : true ≡ false = e in cc
        inside (stage.Active who) e = refl
        inside (stage.Ready ts) e = refl

        go : (b : Bool) → same_trans x.trans t ≡ b → b ≡ false
        go false e = refl
        go true e =
            let other = h.paired.joins j x is (inside x.stage voted) in
            let one : other.0 ≡ part.0 = same_live other.0 part.0 (sym other.1 ∙ ap (map.get k.lives) (same_trans-true x.trans t e) ∙ there) in
            let number : j ≡ y.join = same_number j y.join (sym other.2 ∙ ap (λ (l : Live). l.join) one ∙ part.2) in
            let same : x ≡ y = same_join_of x y (sym is ∙ ap (join_at k.joins.lives) number ∙ at) in
            let wrong : true ≡ false = sym (ap (λ (z : LiveJoin). is_open z.stage) same ∙ ap is_open active) ∙ voted in
            cc

    pub join_works : WorksHere k client t
    join_works = record { live = part.0; there = there; own = sym pair.1 ∙ mine; caller = ap is_some (acts y.stage active pair.3); unvoted = none_voted }

  pub works_here : standing_of k client t ≡ standing.Work → WorksHere k client t
  works_here is = go (t.server == k.server) refl is
    where
      far : (x : Option LiveJoin) → part_of client t k.joins.lives ≡ x → joined_standing (cause_in k.dead client t) x ≡ standing.Work → WorksHere k client t
      far None e s = absurd (not_ended_work (cause_in k.dead client t) s)
      far (Some y) e s =
          let found = found_at (is_part client t) k.joins.lives y h.joins.once e in
          let both = and_parts (same_trans y.trans t) (y.client == client) found.1 in
          let stage_is = stage_works y.stage s in
          join_works y found.0 (same_trans-true y.trans t both.0) (eqb-true y.client client both.1) stage_is.0 stage_is.1

      here : t.server ≡ k.server → (js : List JoinNo) → fate_in k.coordinator t ≡ Running client js → WorksHere k client t
      here own js runs =
          let p = running_part k.servers k.server k.coordinator k.joins k.lives h.paired t client (ap client_of runs) in
          record { live = p.0; there = p.1; own = p.2; caller = p.4; unvoted = λ j x at voted. own_unjoined k.servers k.server k.coordinator k.joins k.lives h.paired t own j x at }

      go : (b : Bool) → (t.server == k.server) ≡ b
          → cond {A = Standing} b (own_standing client (cause_in k.dead client t) (fate_in k.coordinator t)) (joined_standing (cause_in k.dead client t) (part_of client t k.joins.lives)) ≡ standing.Work → WorksHere k client t
      go true e s = (let runs = own_works client (cause_in k.dead client t) (fate_in k.coordinator t) s in here (eqb-true t.server k.server e) runs.0 runs.1)
      go false e s = far (part_of client t k.joins.lives) refl s

-- an end that is to be told is among the dead
ended_cause : (d : Option Cause) (c : Cause) → ended_standing d ≡ standing.Ended c → d ≡ Some c
ended_cause None c e = let wrong : standing.Unknown ≡ standing.Ended c = e in cc
ended_cause (Some x) c e = ap cause_of e
  where
    cause_of : Standing → Option Cause
    cause_of (standing.Ended y) = Some y
    cause_of s = Some x

own_cause : (client : ℕ) (d : Option Cause) (f : Fate) (c : Cause) → own_standing client d f ≡ standing.Ended c → d ≡ Some c
own_cause client d Undrawn c e = ended_cause d c e
own_cause client d (Running m js) c e = go (m == client) e
  where
    go : (b : Bool) → cond {A = Standing} b standing.Work standing.Unknown ≡ standing.Ended c → d ≡ Some c
    go true e = let wrong : standing.Work ≡ standing.Ended c = e in cc
    go false e = let wrong : standing.Unknown ≡ standing.Ended c = e in cc
own_cause client d (Finishing m js vs) c e = go (m == client) e
  where
    go : (b : Bool) → cond {A = Standing} b standing.Finishing standing.Unknown ≡ standing.Ended c → d ≡ Some c
    go true e = let wrong : standing.Finishing ≡ standing.Ended c = e in cc
    go false e = let wrong : standing.Unknown ≡ standing.Ended c = e in cc
own_cause client d (Committed x js ds) c e = ended_cause d c e
own_cause client d (Forgotten x js) c e = ended_cause d c e
own_cause client d (Ended why) c e = ended_cause d c e

stage_cause : (s : Stage) (c : Cause) → stage_standing s ≡ standing.Ended c → ⊥
stage_cause (stage.Joining who) c e = let wrong : standing.Joining ≡ standing.Ended c = e in cc
stage_cause (stage.Active who) c e = let wrong : standing.Work ≡ standing.Ended c = e in cc
stage_cause (stage.Ready ts) c e = let wrong : standing.Finishing ≡ standing.Ended c = e in cc

pub ended_told : {V : Type 0} (k : ServerState V) (client : ℕ) (t : TransId) (c : Cause) → standing_of k client t ≡ standing.Ended c → cause_in k.dead client t ≡ Some c
ended_told k client t c is = go (t.server == k.server) (part_of client t k.joins.lives) is
  where
    go : (b : Bool) (x : Option LiveJoin) → cond {A = Standing} b (own_standing client (cause_in k.dead client t) (fate_in k.coordinator t)) (joined_standing (cause_in k.dead client t) x) ≡ standing.Ended c → cause_in k.dead client t ≡ Some c
    go true x e = own_cause client (cause_in k.dead client t) (fate_in k.coordinator t) c e
    go false None e = ended_cause (cause_in k.dead client t) c e
    go false (Some j) e = absurd (stage_cause j.stage c e)

-- what is not refused at once is at work, and no other call of it waits
pub work_idle : (b : Bool) (s : Standing) → refusal_at b s ≡ None → (s ≡ standing.Work) × (b ≡ false)
work_idle false standing.Work e = (refl, refl)
work_idle true standing.Work e = let wrong : Some refusal.NotYet ≡ None = e in cc
work_idle b standing.Unknown e = let wrong : Some refusal.UnknownTrans ≡ None = e in cc
work_idle b standing.Joining e = let wrong : Some refusal.NotYet ≡ None = e in cc
work_idle b standing.Finishing e = let wrong : Some refusal.Finishing ≡ None = e in cc
work_idle b (standing.Ended c) e = let wrong : Some (refusal.Aborted c) ≡ None = e in cc

-- and what is refused so shows no fault, and the session keeps it
abbrev IsCalmly : Refusal → Type 0
IsCalmly g = ((is_read_fault (Some (reply.Refused g)) || says_shut (Some (reply.Refused g))) ≡ false) × IsInSession (reply.Refused g)

same_refusal : (f g : Refusal) → Some f ≡ Some g → f ≡ g
same_refusal f g e = cc

pub refused_calm : (b : Bool) (s : Standing) (f : Refusal) → refusal_at b s ≡ Some f → IsCalmly f
refused_calm b standing.Unknown f e = subst IsCalmly (same_refusal refusal.UnknownTrans f e) (refl, tt)
refused_calm b standing.Joining f e = subst IsCalmly (same_refusal refusal.NotYet f e) (refl, tt)
refused_calm true standing.Work f e = subst IsCalmly (same_refusal refusal.NotYet f e) (refl, tt)
refused_calm false standing.Work f e = let wrong : None ≡ Some f = e in cc
refused_calm b standing.Finishing f e = subst IsCalmly (same_refusal refusal.Finishing f e) (refl, tt)
refused_calm b (standing.Ended c) f e = subst IsCalmly (same_refusal (refusal.Aborted c) f e) (refl, tt)

-- the live part is the client's and at work
abbrev pub IsWorking : {V : Type 0} → ServerState V → ℕ → TransId → Live → Type 0
IsWorking k client t l = (l.client ≡ client) × (standing_of k client t ≡ standing.Work)

-- the part at work is this one
pub works_own : {V : Type 0} (n : ℕ) (serves : Bool) (k : ServerState V) (client : ℕ) (t : TransId) (l : Live) → IsReady n serves k → standing_of k client t ≡ standing.Work → map.get k.lives t ≡ Some l → (l.client ≡ client) × (is_some l.who ≡ true)
works_own n serves k client t l h is there =
    let w : WorksHere k client t = works_here n serves k h client t is in
    let one : w.live ≡ l = same w.live l (sym w.there ∙ there) in
    (ap (λ (x : Live). x.client) (sym one) ∙ w.own, ap (λ (x : Live). is_some x.who) (sym one) ∙ w.caller)
  where
    same : (x y : Live) → Some x ≡ Some y → x ≡ y
    same x y e = cc

-- a part of this server's own that ended is not live
pub ended_gone : {V : Type 0} (n : ℕ) (serves : Bool) (k : ServerState V) (client : ℕ) (t : TransId) (c : Cause) → IsReady n serves k → t.server ≡ k.server → standing_of k client t ≡ standing.Ended c → map.get k.lives t ≡ None
ended_gone n serves k client t c h own is = go (map.get k.lives t) refl
  where
    runs : (b : Bool) → cond {A = Standing} b standing.Work standing.Unknown ≡ standing.Ended c → ⊥
    runs true e = let wrong : standing.Work ≡ standing.Ended c = e in cc
    runs false e = let wrong : standing.Unknown ≡ standing.Ended c = e in cc

    ends : (b : Bool) → cond {A = Standing} b standing.Finishing standing.Unknown ≡ standing.Ended c → ⊥
    ends true e = let wrong : standing.Finishing ≡ standing.Ended c = e in cc
    ends false e = let wrong : standing.Unknown ≡ standing.Ended c = e in cc

    never : (f : Fate) (m : ℕ) → client_of f ≡ Some m → own_standing client (cause_in k.dead client t) f ≡ standing.Ended c → ⊥
    never (Running d js) m r e = runs (d == client) e
    never (Finishing d js vs) m r e = ends (d == client) e
    never Undrawn m r e = let wrong : None ≡ Some m = r in cc
    never (Committed s js ds) m r e = let wrong : None ≡ Some m = r in cc
    never (Forgotten s js) m r e = let wrong : None ≡ Some m = r in cc
    never (Ended d) m r e = let wrong : None ≡ Some m = r in cc

    go : (x : Option Live) → map.get k.lives t ≡ x → x ≡ None
    go None e = refl
    go (Some l) e = absurd (never (fate_in k.coordinator t) l.client (own_client k.servers k.server k.coordinator k.joins k.lives h.paired t l e own).0 (standing_here k client t (standing.Ended c) own is))
