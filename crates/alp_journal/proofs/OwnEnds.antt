-- parts of transactions of this server that end without effect: as their client asks, and by this server's own vote
use Rattle.std.specs.Prelude.{cond, Bool, true, false, is_none, is_some, ◌&&◌, ◌==◌, Option, None, Some, IsSome, if◌then◌else◌}
use Rattle.std.specs.List.{AllByRecursion}
use Rattle.std.specs.List.Sorted.{IsPermutation}
use Rattle.std.proofs.lemmas.List.{append-nil}
use Rattle.std.proofs.lemmas.List.Sorted.{IsPermutation-refl}
use Rattle.std.proofs.Common.{inl, inr, ◌≡◌, ℕ, ◌+◌, List, [], ◌∷◌, ◌++◌, refl, sym, ◌∙◌, ap, subst, eq-eqb, arith}
use Rattle.alp_base.specs.declared.ids.JoinNo.{JoinNo}
use Rattle.alp_base.specs.declared.ids.TransId.{TransId}
use Rattle.alp_files.proofs.FilesLemmas.{same-some}
use Rattle.alp_files.specs.declared.call.Call.TheVariants as call
use Rattle.alp_files.specs.declared.reply.Reply.{Reply}
use Rattle.alp_files.specs.declared.reply.Reply.TheVariants as reply
use Rattle.alp_files.specs.declared.refusal.Refusal.TheVariants as refusal
use Rattle.alp_files.specs.declared.refusal.Cause.{Cause}
use Rattle.alp_files.specs.declared.refusal.Cause.TheVariants as cause
use Rattle.alp_files.specs.declared.refusal.Why.{Why}
use Rattle.alp_journal.specs.declared.act.Act.{Act}
use Rattle.alp_journal.specs.declared.act.Act.TheVariants as act
use Rattle.alp_journal.specs.declared.event.Event.{Event}
use Rattle.alp_journal.specs.declared.message.Message.{Message}
use Rattle.alp_journal.specs.declared.message.Message.TheVariants as msg
use Rattle.alp_journal.specs.Along.{Where}
use Rattle.alp_journal.specs.Ids.{same_trans, is_drawn}
use Rattle.alp_journal.specs.Deeds.{Deed, Ends, Releases, Finishes}
use Rattle.alp_journal.specs.Coordinator.{Fate, Undrawn, Running, Finishing, Committed, Forgotten, Ended, client_of, is_running, has_votes}
use Rattle.alp_journal.specs.Coordinator as fate
use Rattle.alp_journal.specs.Holder.{Holder, Life, with_life}
use Rattle.alp_journal.specs.Desk.{Session, Waiting, is_of_part, waiting_of}
use Rattle.alp_journal.specs.Counts.{lock_set}
use Rattle.alp_journal.specs.State.{State, Ids, state_deed, is_trans_drawn}
use Rattle.alp_journal.specs.Moves.{finishes, call_now}
use Rattle.alp_journal.specs.Laws.{IsLawfulDeed, IsHolding, SaysRight, MayAbort, is_for, ended_by, grants_of}
use Rattle.alp_journal.specs.Messages.{Mail, to_each, on_finish, why_not_own}
use Rattle.alp_journal.specs.Answered.{is_all_done, IsWalk, in_turn}
use Rattle.alp_journal.specs.Answers.{Part, part_at, at_part, finish_reply, voted_reply, First}
use Rattle.alp_journal.specs.Account.{Account, state_of, IsKnown, IsFateOf, Stands, Tells, IsSettled, IsQuiet, IsFinishOf, HasNoCall, granted_calls, with_granted, grant_acts, sent_acts, Leads}
use Rattle.alp_journal.proofs.IdLemmas.{same_trans-true, same_trans-itself}
use Rattle.alp_journal.proofs.WaitLemmas.{without-given}
use Rattle.alp_journal.proofs.StandLemmas.{moved_all, known_running, running_of, paired_set, held_set, no_own_join, own_unheld, own_here, own_pair, own_of_running, pair_of}
use Rattle.alp_journal.proofs.PartLemmas.{own_at_work}
use Rattle.alp_journal.proofs.QuietLemmas.{none_tried, agree_without, has_ended, ended_moved, ended_told, AreOfParts, parts-told, others-on, with_session_of, quiet_told, forgotten_part, quiet_forgotten}
use Rattle.alp_journal.proofs.GivenLemmas.{LivedBefore}
use Rattle.alp_journal.proofs.CallLemmas.{AreAddressed, call_entry}
use Rattle.alp_journal.proofs.RefusedCalls.{counted_as, without_dead}
use Rattle.alp_journal.proofs.LetGoLemmas.{IsGivenOn, GoesOn, let_go_quiet, finish_event, no_file_call, finish_leads}

-- ---- a message to each part

-- each goes to the server that drew the join
pub each-addressed : (f : JoinNo → Message) → ((j : JoinNo) → AreAddressed ((j.server, f j) ∷ [])) → (js : List JoinNo) → AreAddressed (to_each f js)
each-addressed f to [] = refl
each-addressed f to (j ∷ js) = ap (λ (x : Bool). is_for j.server (f j) && x) (each-addressed f to js) ∙ to j

pub aborts-addressed : (t : TransId) (c : Cause) (js : List JoinNo) → AreAddressed (to_each (λ (j : JoinNo). msg.Abort t j c) js)
aborts-addressed t c js = each-addressed (λ (j : JoinNo). msg.Abort t j c) (λ j. ap (λ (b : Bool). b && true) (eq-eqb j.server j.server refl)) js

-- what is said of a transaction that ended in this epoch is why
pub aborts-said : (e : Event) (x : State) (t : TransId) (c : Cause) (js : List JoinNo) → is_trans_drawn x t ≡ true → x.fates t ≡ Ended c → t.epoch ≡ x.ids.epoch → AllByRecursion (SaysRight e x) (sent_acts (to_each (λ (j : JoinNo). msg.Abort t j c) js))
aborts-said e x t c [] drawn over now = tt
aborts-said e x t c (j ∷ js) drawn over now = (
  (drawn, subst (MayAbort x t c) (sym over) (ap (λ (b : Bool). cond {A = Cause} b c (cause.Lost x.ids.epoch)) (sym (eq-eqb t.epoch x.ids.epoch now)))),
  aborts-said e x t c js drawn over now,
)

-- ---- a live part ends

-- who lives on is another
pub lived_on : (h : Holder) (t : TransId) → LivedBefore h (with_life h t None)
lived_on h t u k is = go (same_trans u t) is
  where
    go : (b : Bool) → cond {A = Option Life} b None (h.lives u) ≡ Some k → (j : Life) × (h.lives u ≡ Some j)
    go true e = let wrong : None ≡ Some k = e in cc
    go false e = (k, e)

-- who runs ends
pub ended_is : (c : Cause) (f : Fate) (owner : ℕ) → client_of f ≡ Some owner → fate.ended c f ≡ Ended c
ended_is c Undrawn owner h = let wrong : None ≡ Some owner = h in cc
ended_is c (Running n js) owner h = refl
ended_is c (Finishing n js vs) owner h = refl
ended_is c (Committed stamp js ds) owner h = let wrong : None ≡ Some owner = h in cc
ended_is c (Forgotten stamp js) owner h = let wrong : None ≡ Some owner = h in cc
ended_is c (Ended d) owner h = let wrong : None ≡ Some owner = h in cc

-- whoever is to be told stays so
pub told-more : (b : Bool) (c : Cause) (x : Option Cause) → IsSome x → IsSome (cond {A = Option Cause} b (Some c) x)
told-more true c x h = refl
told-more false c x h = h

pub finish-more : (client : ℕ) (f : Fate) (x y : Option Cause) → (IsSome x → IsSome y) → IsFinishOf client f x → IsFinishOf client f y
finish-more client Undrawn x y more h = more h
finish-more client (Running c js) x y more h = more h
finish-more client (Finishing c js vs) x y more h = h
finish-more client (Committed stamp js ds) x y more h = tt
finish-more client (Forgotten stamp js) x y more h = tt
finish-more client (Ended c) x y more h = more h

module _ (a : Account) (owner : ℕ) (t : TransId) (l : Life) (c : Cause) where
  -- its locks are let go, and its client is to be told
  abbrev pub part_ended : Account
  part_ended = record a {
    holder = with_life a.holder t None;
    fates = λ u. if same_trans t u then fate.ended c (a.fates u) else a.fates u;
    dead = λ d u. if d == owner && same_trans u t then Some c else a.dead d u;
    locked = lock_set a.locked t [];
  }

  -- the part is of a transaction of this server that runs for this client, or is finishing
  pub record IsOwn : Type 0 where
    pub settled : IsSettled a
    pub live : a.holder.lives t ≡ Some l
    pub part : l.join ≡ None
    pub its : l.client ≡ owner

  -- one that runs is
  pub own_of : IsSettled a → a.holder.lives t ≡ Some l → {js : List JoinNo} → a.fates t ≡ Running owner js → IsOwn
  own_of q live {js} runs =
      let none : l.join ≡ None = own_of_running t a.phases l (a.fates t) (ap is_running runs) (pair_of a q.stands t l live) in
      record { settled = q; live = live; part = none; its = same-some l.client owner (sym (own_pair a q.stands t l live none).0 ∙ ap client_of runs) }

  pub runs_as : IsOwn → client_of (a.fates t) ≡ Some owner
  runs_as o = (own_pair a o.settled.stands t l o.live o.part).0 ∙ ap Some o.its

  pub here_as : IsOwn → t.server ≡ a.holder.server
  here_as o = own_here a o.settled.stands t l o.live o.part

  pub known_as : IsOwn → IsKnown a.holder.server a.ids.epoch a.ids.transactions a.begun t
  known_as o = known_running a.servers a.holder.server a.ids.epoch a.ids.transactions a.begun t (a.fates t) (running_of (a.fates t) owner (runs_as o)) (o.settled.stands.fates t)

  -- it is of this epoch
  pub now_as : IsOwn → t.epoch ≡ a.ids.epoch
  now_as o = go (a.fates t) (runs_as o) (o.settled.stands.fates t)
    where
      go : (f : Fate) → client_of f ≡ Some owner → IsFateOf a.servers a.holder.server a.ids.epoch a.ids.transactions a.begun t f → t.epoch ≡ a.ids.epoch
      go Undrawn h k = let wrong : None ≡ Some owner = h in cc
      go (Running n js) h k = k.1
      go (Finishing n js vs) h k = k.1
      go (Committed stamp js ds) h k = let wrong : None ≡ Some owner = h in cc
      go (Forgotten stamp js) h k = let wrong : None ≡ Some owner = h in cc
      go (Ended d) h k = let wrong : None ≡ Some owner = h in cc

  pub fate_ended : IsOwn → part_ended.fates t ≡ Ended c
  fate_ended o = ap (λ (b : Bool). cond {A = Fate} b (fate.ended c (a.fates t)) (a.fates t)) (same_trans-itself t) ∙ ended_is c (a.fates t) owner (runs_as o)

  pub stands_ended : IsOwn → Stands part_ended
  stands_ended o =
      let q : Stands a = o.settled.stands in
      let over : fate.ended c (a.fates t) ≡ Ended c = ended_is c (a.fates t) owner (runs_as o) in
      record {
        agree = agree_without a.holder.lives t q.agree;
        paired = paired_set a.phases a.holder.lives a.fates t None (fate.ended c) q.paired (ap is_running over);
        held = λ j. held_set a.holder.lives t None j (a.phases j) (own_unheld a q t (here_as o) j) (q.held j);
        votes = moved_all (λ u f. has_votes f ≡ false) a.fates t (fate.ended c) (λ u away. q.votes u) (ap has_votes over);
        forgets = moved_all (λ u f. is_all_done f ≡ false) a.fates t (fate.ended c) (λ u away. q.forgets u) (ap is_all_done over);
        fates = moved_all (IsFateOf a.servers a.holder.server a.ids.epoch a.ids.transactions a.begun) a.fates t (fate.ended c) (λ u away. q.fates u)
            (subst (IsFateOf a.servers a.holder.server a.ids.epoch a.ids.transactions a.begun t) (sym over) (known_as o));
        begun = q.begun;
        known = q.known;
        phases = q.phases;
        joined = q.joined;
        single = q.single;
        order = q.order;
      }

  -- a Finish of it that waits is to be told of the end
  finish_then : IsOwn → (client : ℕ) (u : TransId) → IsFinishOf client (a.fates u) (a.dead client u) → IsFinishOf client (part_ended.fates u) (part_ended.dead client u)
  finish_then o client u h = go (same_trans t u) refl
    where
      by : (f : Fate) → client_of f ≡ Some owner → IsFinishOf client f (a.dead client t) → IsSome (cond {A = Option Cause} (client == owner && same_trans t t) (Some c) (a.dead client t))
      by Undrawn r h = let wrong : None ≡ Some owner = r in cc
      by (Running n js) r h = told-more (client == owner && same_trans t t) c (a.dead client t) h
      by (Finishing n js vs) r h =
          let same : client ≡ owner = sym h ∙ same-some n owner r in
          ap (λ (b : Bool). is_some (cond {A = Option Cause} (b && same_trans t t) (Some c) (a.dead client t))) (eq-eqb client owner same)
          ∙ ap (λ (b : Bool). is_some (cond {A = Option Cause} b (Some c) (a.dead client t))) (same_trans-itself t)
      by (Committed stamp js ds) r h = let wrong : None ≡ Some owner = r in cc
      by (Forgotten stamp js) r h = let wrong : None ≡ Some owner = r in cc
      by (Ended d) r h = let wrong : None ≡ Some owner = r in cc

      at_t : IsFinishOf client (a.fates t) (a.dead client t) → IsFinishOf client (fate.ended c (a.fates t)) (part_ended.dead client t)
      at_t k = subst (λ (f : Fate). IsFinishOf client f (part_ended.dead client t)) (sym (ended_is c (a.fates t) owner (runs_as o))) (by (a.fates t) (runs_as o) k)

      go : (b : Bool) → same_trans t u ≡ b → IsFinishOf client (cond {A = Fate} b (fate.ended c (a.fates u)) (a.fates u)) (part_ended.dead client u)
      go true e = subst (λ (v : TransId). IsFinishOf client (fate.ended c (a.fates v)) (part_ended.dead client v)) (same_trans-true t u e) (at_t (subst (λ (v : TransId). IsFinishOf client (a.fates v) (a.dead client v)) (sym (same_trans-true t u e)) h))
      go false e = finish-more client (a.fates u) (a.dead client u) (part_ended.dead client u) (told-more (client == owner && same_trans u t) c (a.dead client u)) h

  pub settled_ended : IsOwn → IsSettled part_ended
  settled_ended o =
      let q : Tells a = o.settled.tells in
      record {
        stands = stands_ended o;
        tells = record {
          ended = ended_told a.holder.server a.dead part_ended.fates a.phases owner t c (ended_moved a.holder.server a.dead a.fates a.phases t (fate.ended c) q.ended (λ d. refl)) (λ here. fate_ended o) (no_own_join a o.settled.stands t (here_as o) owner);
          parts = subst (λ (n : ℕ). AreOfParts part_ended.holder.lives (λ d u. cond {A = Option Cause} (d == n && same_trans u t) (Some c) (a.dead d u)) a.waits) o.its (parts-told a.holder.lives a.dead t l c o.live a.waits q.parts);
          others = others-on a.fates part_ended.fates a.phases a.phases a.dead part_ended.dead
              (λ client u h. elim h [ inl x ↦ inl x | inr d ↦ inr (told-more (client == owner && same_trans u t) c (a.dead client u) d) ]) (λ client u h. finish_then o client u h) a.waits q.others;
          came = q.came;
          apart = q.apart;
          joining = q.joining;
          finishing = moved_all (HasNoCall a.waits) a.fates t (fate.ended c) (λ u away. q.finishing u) (subst (HasNoCall a.waits t) (sym (ended_is c (a.fates t) owner (runs_as o))) tt);
        };
      }

  -- nothing but the part's end comes of it
  pub ends_lawful : {ev : Event} {s : State} → IsLawfulDeed ev s (Ends t owner c)
  ends_lawful = record { counts = tt; view = tt; locks = tt; running = tt; registration = tt; vote = tt; decision = tt; application = tt; forgetting = tt }

  -- its locks go as it has ended
  pub releases_lawful : {ev : Event} (s : State) → s.holder ≡ a.holder → a.holder.lives t ≡ Some l → s.fates t ≡ Ended c → ((j : JoinNo) → IsHolding t (s.phases j) → ⊥) → IsLawfulDeed ev s (Releases t)
  releases_lawful s same live over unheld = record {
    counts = tt;
    view = tt;
    locks = (subst (λ (x : Option Life). IsSome x) (sym (ap (λ (h : Holder). h.lives t) same ∙ live)) refl, has_ended t s (Ended c) over refl unheld);
    running = tt;
    registration = tt;
    vote = tt;
    decision = tt;
    application = tt;
    forgetting = tt;
  }

  -- ---- what such an end is owed

  begun_two : a.begun ++ [] ++ [] ≡ a.begun
  begun_two = append-nil (a.begun ++ []) ∙ append-nil a.begun

  joined_two : a.joined ++ [] ++ [] ≡ a.joined
  joined_two = append-nil (a.joined ++ []) ∙ append-nil a.joined

  pub ends_goes : (ev : Event) → ((u : TransId) (n : ℕ) → call_now ev u n ≡ None) → IsOwn → a.pending ≡ [] → (ts : List TransId) → IsWalk part_ended.holder (in_turn part_ended.holder a.waits) ts
      → GoesOn a part_ended ev (act.Released t ∷ []) (Ends t owner c ∷ Releases t ∷ []) ts
  ends_goes ev no_call o none ts walk = record {
    before = o.settled;
    none_tried = none;
    settled = settled_ended o;
    was = lived_on a.holder t;
    waits = refl;
    walk = walk;
    no_call = no_call;
    reached = λ i. state_of (record part_ended { begun = begun_two i; joined = joined_two i });
    deeds = (ends_lawful, (releases_lawful (state_deed (state_of a) (Ends t owner c)) refl o.live (fate_ended o) (own_unheld a o.settled.stands t (here_as o)), tt));
    stops = refl;
    release = λ rest. refl;
    first = λ rest. refl;
    released = refl;
    none_granted = (refl, refl);
    said = λ x. (tt, tt);
    regained = refl;
    sent = refl;
  }

  -- with a deed before it that moves just the fate, and where that does not count
  module _ (d : Deed) (move : Fate → Fate) where
    abbrev moved_first : State
    moved_first = record (state_of a) { fates = λ u. if same_trans t u then move (a.fates u) else a.fates u; begun = a.begun ++ []; joined = a.joined ++ [] }

    begun_three : a.begun ++ [] ++ [] ++ [] ≡ a.begun
    begun_three = append-nil (a.begun ++ [] ++ []) ∙ begun_two

    joined_three : a.joined ++ [] ++ [] ++ [] ≡ a.joined
    joined_three = append-nil (a.joined ++ [] ++ []) ∙ joined_two

    over_moved : ((f : Fate) → fate.ended c (move f) ≡ fate.ended c f) → (b : Bool) (f : Fate) → cond {A = Fate} b (fate.ended c (cond {A = Fate} b (move f) f)) (cond {A = Fate} b (move f) f) ≡ cond {A = Fate} b (fate.ended c f) f
    over_moved same true f = same f
    over_moved same false f = refl

    pub after_goes : (ev : Event) → ((u : TransId) (n : ℕ) → call_now ev u n ≡ None) → state_deed (state_of a) d ≡ moved_first → IsLawfulDeed ev (state_of a) d → ended_by (state_of a) d ≡ [] → grants_of d ≡ [] → ((f : Fate) → fate.ended c (move f) ≡ fate.ended c f)
        → IsOwn → a.pending ≡ [] → (ts : List TransId) → IsWalk part_ended.holder (in_turn part_ended.holder a.waits) ts → GoesOn a part_ended ev (act.Released t ∷ []) (d ∷ Ends t owner c ∷ Releases t ∷ []) ts
    after_goes ev no_call first lawful no_end no_grant same o none ts walk = record {
      before = o.settled;
      none_tried = none;
      settled = settled_ended o;
      was = lived_on a.holder t;
      waits = refl;
      walk = walk;
      no_call = no_call;
      reached = ap (λ (s : State). state_deed (state_deed s (Ends t owner c)) (Releases t)) first
          ∙ (λ i. state_of (record part_ended { fates = λ u. over_moved same (same_trans t u) (a.fates u) i; begun = begun_three i; joined = joined_three i }));
      deeds = (
        lawful,
        (
          ends_lawful,
          (
            releases_lawful (state_deed (state_deed (state_of a) d) (Ends t owner c)) (ap (λ (s : State). (state_deed s (Ends t owner c)).holder) first) o.live
                (ap (λ (s : State). (state_deed s (Ends t owner c)).fates t) first ∙ over_moved same (same_trans t t) (a.fates t) ∙ fate_ended o)
                (subst (λ (s : State). (j : JoinNo) → IsHolding t ((state_deed s (Ends t owner c)).phases j) → ⊥) (sym first) (own_unheld a o.settled.stands t (here_as o))),
            tt,
          ),
        ),
      );
      stops = refl;
      release = λ rest. refl;
      first = λ rest. refl;
      released = ap (λ (us : List TransId). us ++ t ∷ []) (sym no_end);
      none_granted = (refl, ap (λ (us : List TransId). us ++ []) no_grant);
      said = λ x. (tt, tt);
      regained = refl;
      sent = refl;
    }

-- ---- as its client asks, and by this server's own vote

module _ (a : Account) (client number : ℕ) (w : Session) (t : TransId) (l : Life) (c : Cause) where
  abbrev told : Reply
  told = reply.Refused (refusal.Aborted c)

  -- it is gone, with its locks, and nothing of it is to be told
  abbrev pub with_end : Account
  with_end = record (without_dead a client number w t (counted_as a client number w told)) {
    holder = with_life a.holder t None;
    fates = λ u. if same_trans t u then fate.ended c (a.fates u) else a.fates u;
    locked = lock_set a.locked t [];
  }

  -- and what it held is given on
  abbrev pub with_end_given : List TransId → Account
  with_end_given ts = with_granted with_end (granted_calls a.waits ts)

  abbrev ended : Account
  ended = part_ended a client t l c

  abbrev ended_given : List TransId → Account
  ended_given ts = with_granted ended (granted_calls a.waits ts)

  abbrev told_given : List TransId → Account
  told_given ts = forgotten_part client t (with_session_of (ended_given ts) client (record w { last = number; reply = told }))

  -- its dead part is forgotten at once, and its waiting call
  undone : (b : Bool) (x y : Option Cause) → cond {A = Option Cause} b None (cond {A = Option Cause} b x y) ≡ cond {A = Option Cause} b None y
  undone true x y = refl
  undone false x y = refl

  forgets : (ts : List TransId) → told_given ts ≡ with_end_given ts
  forgets ts = λ i. record (with_end_given ts) {
    dead = λ d u. undone (d == client && same_trans u t) (Some c) (a.dead d u) i;
    waits = without-given (is_of_part client t) (λ v b. refl) (granted_calls a.waits ts) a.waits i;
  }

  told_quiet : (ts : List TransId) → IsOwn a client t l c → a.sessions client ≡ Some w → number ≡ w.last + 1 → IsQuiet (ended_given ts) → IsQuiet (with_end_given ts)
  told_quiet ts o there turn q =
      subst IsQuiet (forgets ts) (quiet_forgotten client t (with_session_of (ended_given ts) client (record w { last = number; reply = told })) (no_own_join a o.settled.stands t (here_as a client t l c o) client) refl
      (quiet_told (ended_given ts) client w (record w { last = number; reply = told }) there (omega (arith, turn)) q))

  -- the parts of other servers are told
  abbrev aborts : List JoinNo → List Mail
  aborts js = to_each (λ (j : JoinNo). msg.Abort t j cause.Asked) js

  pub abort_leads : c ≡ cause.Asked → IsQuiet a → a.is_down ≡ false → a.sessions client ≡ Some w → number ≡ w.last + 1 → a.holder.lives t ≡ Some l → (js : List JoinNo) → a.fates t ≡ Running client js
      → (ts : List TransId) → IsWalk with_end.holder (in_turn with_end.holder a.waits) ts
      → Leads false a (call_entry a client number w (call.Finish t false) told ((act.Released t ∷ grant_acts ts) ++ sent_acts (aborts js))) (with_end_given ts)
  abort_leads asked q up there turn live js runs ts walk =
      let own : IsOwn a client t l c = own_of a client t l c q.settled live runs in
      let here : t.server ≡ a.holder.server = here_as a client t l c own in
      let mine : (client == client) ≡ true = eq-eqb client client refl in
      let front : List Act = act.Released t ∷ [] in
      let back : List Deed = Ends t client c ∷ Releases t ∷ [] in
      let ev : Event = finish_event a ended client number w t false told in
      let goes : GoesOn a ended ev front back ts = ends_goes a client t l c ev (no_file_call a ended client number w t false told) own (none_tried a q up) ts walk in
      finish_leads a ended client number w t false told false front back ts (aborts js) (with_end_given ts) (record {
        goes = goes;
        running = up;
        there = there;
        turn = turn;
        sessions = refl;
        now = refl;
        brings = ap (λ (f : Fate). finishes (state_of a).desk client t false told f ++ Releases t ∷ []) runs ∙ ap (λ (b : Bool). cond {A = List Deed} b (Ends t client cause.Asked ∷ []) [] ++ Releases t ∷ []) mine
            ∙ ap (λ (x : Cause). Ends t client x ∷ Releases t ∷ []) (sym asked);
        drawn = refl;
        left = ap state_of (forgets ts);
        says = λ x g. subst (λ (y : Cause). AllByRecursion (SaysRight ev x) (sent_acts (to_each (λ (j : JoinNo). msg.Abort t j y) js))) asked
            (aborts-said ev x t c js (drawn_then x g own) (ap (λ (f : TransId → Fate). f t) g.fates ∙ fate_ended a client t l c own) (now_as a client t l c own ∙ ap (λ (i : Ids). i.epoch) (sym g.ids)));
        addressed = aborts-addressed t cause.Asked js;
        quiet = told_quiet ts own there turn (let_go_quiet a ended ev front back ts goes);
        tells = tt;
        mail = subst (λ (ms : List Mail). IsPermutation ms (aborts js)) (sym (ap (on_finish t false client (is_none (waiting_of (state_of a).desk client t))) runs ∙ ap (λ (b : Bool). cond {A = List Mail} b (aborts js) []) mine)) (IsPermutation-refl (aborts js));
        answer = subst (λ (b : Bool). Where b (First (at_part false (part_at (state_of a) client t)) told (told ≡ reply.Refused (refusal.Aborted cause.Asked))) (told ≡ reply.Refused refusal.UnknownTrans)) (sym (eq-eqb t.server a.holder.server here))
            (subst (λ (p : Part). First (at_part false p) told (told ≡ reply.Refused (refusal.Aborted cause.Asked))) (sym (own_at_work a t client here runs)) (ap (λ (x : Cause). reply.Refused (refusal.Aborted x)) asked));
      })
    where
      drawn_then : (x : State) → IsGivenOn a ended x → IsOwn a client t l c → is_trans_drawn x t ≡ true
      drawn_then x g own = (λ i. is_drawn (g.server i) (g.ids i).epoch (g.ids i).transactions t.server t.epoch t.counter) ∙ (known_as a client t l c own).0

  pub against_leads : (failed : Bool) (why : Why) → c ≡ cause.Voted a.holder.server why → IsQuiet a → a.is_down ≡ false → a.sessions client ≡ Some w → number ≡ w.last + 1
      → a.holder.lives t ≡ Some l → a.fates t ≡ Running client [] → waiting_of (state_of a).desk client t ≡ None → why_not_own failed (state_of a) t ≡ Some why
      → (ts : List TransId) → IsWalk with_end.holder (in_turn with_end.holder a.waits) ts
      → Leads failed a (call_entry a client number w (call.Finish t true) told ((act.Released t ∷ grant_acts ts) ++ [])) (with_end_given ts)
  against_leads failed why voted q up there turn live runs idle not ts walk =
      let own : IsOwn a client t l c = own_of a client t l c q.settled live runs in
      let here : t.server ≡ a.holder.server = here_as a client t l c own in
      let mine : (client == client) ≡ true = eq-eqb client client refl in
      let front : List Act = act.Released t ∷ [] in
      let back : List Deed = Finishes t ∷ Ends t client c ∷ Releases t ∷ [] in
      let ev : Event = finish_event a ended client number w t true told in
      let goes : GoesOn a ended ev front back ts = after_goes a client t l c (Finishes t) fate.finishing ev (no_file_call a ended client number w t true told) refl
      (record { counts = tt; view = tt; locks = tt; running = tt; registration = tt; vote = tt; decision = tt; application = tt; forgetting = tt }) refl refl finishing_ended own (none_tried a q up) ts walk in
      finish_leads a ended client number w t true told failed front back ts [] (with_end_given ts) (record {
        goes = goes;
        running = up;
        there = there;
        turn = turn;
        sessions = refl;
        now = refl;
        brings = ap (λ (f : Fate). finishes (state_of a).desk client t true told f ++ Releases t ∷ []) runs
            ∙ ap (λ (b : Bool). cond {A = List Deed} (b && is_none (waiting_of (state_of a).desk client t)) (Finishes t ∷ Ends t client c ∷ []) [] ++ Releases t ∷ []) mine
            ∙ ap (λ (x : Option Waiting). cond {A = List Deed} (is_none x) (Finishes t ∷ Ends t client c ∷ []) [] ++ Releases t ∷ []) idle;
        drawn = refl;
        left = ap state_of (forgets ts);
        says = λ x g. tt;
        addressed = refl;
        quiet = told_quiet ts own there turn (let_go_quiet a ended ev front back ts goes);
        tells = tt;
        mail = subst (λ (ms : List Mail). IsPermutation ms []) (sym (ap (on_finish t true client (is_none (waiting_of (state_of a).desk client t))) runs ∙ ap (λ (b : Bool). cond {A = List Mail} (b && is_none (waiting_of (state_of a).desk client t)) [] []) mine
            ∙ ap (λ (x : Option Waiting). cond {A = List Mail} (is_none x) [] []) idle)) (IsPermutation-refl []);
        answer = subst (λ (b : Bool). Where b (First (at_part (true && is_some (waiting_of (state_of a).desk client t)) (part_at (state_of a) client t)) told (told ≡ finish_reply failed (state_of a) t (a.fates t))) (told ≡ reply.Refused refusal.UnknownTrans))
            (sym (eq-eqb t.server a.holder.server here))
            (subst (λ (x : Option Waiting). First (at_part (true && is_some x) (part_at (state_of a) client t)) told (told ≡ finish_reply failed (state_of a) t (a.fates t))) (sym idle)
            (subst (λ (p : Part). First (at_part false p) told (told ≡ finish_reply failed (state_of a) t (a.fates t))) (sym (own_at_work a t client here runs))
            (ap (λ (x : Cause). reply.Refused (refusal.Aborted x)) voted ∙ ap (voted_reply (state_of a) t) (sym not) ∙ ap (finish_reply failed (state_of a) t) (sym runs))));
      })
    where
      finishing_ended : (f : Fate) → fate.ended c (fate.finishing f) ≡ fate.ended c f
      finishing_ended Undrawn = refl
      finishing_ended (Running n js) = refl
      finishing_ended (Finishing n js vs) = refl
      finishing_ended (Committed stamp js ds) = refl
      finishing_ended (Forgotten stamp js) = refl
      finishing_ended (Ended d) = refl
