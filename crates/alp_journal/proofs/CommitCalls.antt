-- commits of transactions without joins
use Rattle.std.specs.Prelude.{cond, Bool, true, false, is_none, is_some, ◌&&◌, ◌==◌, max, Option, None, Some, IsSome, if◌then◌else◌}
use Rattle.std.specs.List.{AllByRecursion}
use Rattle.std.specs.List.Sorted.{IsPermutation}
use Rattle.std.specs.FinMap.Entries as entries
use Rattle.std.specs.FinMap.Entries.{put, find-put}
use Rattle.std.specs.Ordering.{is_eq}
use Rattle.std.specs.declared.cmp.Ordering.{Ordering}
use Rattle.std.proofs.lemmas.List.{append-nil}
use Rattle.std.proofs.lemmas.List.Sorted.{IsPermutation-refl}
use Rattle.std.proofs.Common.{◌≡◌, ℕ, ◌+◌, List, [], ◌∷◌, ◌++◌, refl, sym, ◌∙◌, ap, subst, eq-eqb, arith, le_refl}
use Rattle.alp_base.specs.declared.ids.JoinNo.{JoinNo}
use Rattle.alp_base.specs.declared.ids.TransId.{TransId}
use Rattle.alp_base.specs.declared.ids.Stamp.{Stamp}
use Rattle.alp_files.specs.Edits.{Edit, edits_map}
use Rattle.alp_files.specs.History.{Decided}
use Rattle.alp_files.specs.declared.call.Call.TheVariants as call
use Rattle.alp_files.specs.declared.reply.Reply.{Reply}
use Rattle.alp_files.specs.declared.reply.Reply.TheVariants as reply
use Rattle.alp_files.specs.declared.refusal.Refusal.TheVariants as refusal
use Rattle.alp_files.specs.declared.refusal.Cause.TheVariants as cause
use Rattle.alp_journal.specs.declared.act.Act.{Act}
use Rattle.alp_journal.specs.declared.act.Act.TheVariants as act
use Rattle.alp_journal.specs.declared.event.Event.{Event}
use Rattle.alp_journal.specs.declared.event.Event.TheVariants as event
use Rattle.alp_journal.specs.Along.{Where}
use Rattle.alp_journal.specs.Ids.{same_trans, stamp_cmp}
use Rattle.alp_journal.specs.Deeds.{Deed, Releases, Finishes, Decides}
use Rattle.alp_journal.specs.Coordinator.{Fate, Running, Finishing, Committed, is_running, has_votes}
use Rattle.alp_journal.specs.Coordinator as fate
use Rattle.alp_journal.specs.Holder.{Holder, Life, with_life, commits, emptied}
use Rattle.alp_journal.specs.Desk.{Session, Waiting, waiting_of}
use Rattle.alp_journal.specs.Counts.{lock_set}
use Rattle.alp_journal.specs.State.{State, state_deed}
use Rattle.alp_journal.specs.Moves.{finishes}
use Rattle.alp_journal.specs.Laws.{IsLawfulDeed, IsHolding}
use Rattle.alp_journal.specs.Messages.{Mail, on_finish, why_not_own}
use Rattle.alp_journal.specs.Answered.{is_all_done, IsWalk, in_turn}
use Rattle.alp_journal.specs.Answers.{Part, part_at, at_part, finish_reply, voted_reply, First}
use Rattle.alp_journal.specs.Account.{Account, state_of, IsFateOf, Stands, Tells, IsSettled, IsQuiet, IsFinishOf, HasNoCall, is_on_trans, granted_calls, with_granted, grant_acts, Leads}
use Rattle.alp_journal.proofs.IdLemmas.{same_trans-itself}
use Rattle.alp_journal.proofs.StampLemmas.{stamps_total, itself}
use Rattle.alp_journal.proofs.TurnLemmas.{given-frame}
use Rattle.alp_journal.proofs.StandLemmas.{moved_all, paired_set, held_set, own_unheld, own_pair}
use Rattle.alp_journal.proofs.PartLemmas.{own_at_work}
use Rattle.alp_journal.proofs.QuietLemmas.{none_tried, agree_without, has_ended, ended_moved, parts-gone, others-on, finish-moved, none-on, quiet_told}
use Rattle.alp_journal.proofs.CallLemmas.{call_entry}
use Rattle.alp_journal.proofs.RefusedCalls.{counted_as}
use Rattle.alp_journal.proofs.LetGoLemmas.{GoesOn, let_go_quiet, no_file_call, finish_leads}
use Rattle.alp_journal.proofs.OwnEnds.{lived_on, IsOwn, own_of, here_as, known_as, now_as}

twice : {A : Type 0} (b : Bool) (x y z : A) → cond {A = A} b x (cond {A = A} b y z) ≡ cond {A = A} b x z
twice true x y z = refl
twice false x y z = refl

module _ (a : Account) (client number : ℕ) (w : Session) (t : TransId) (l : Life) where
  abbrev pub commit_stamp : Stamp
  commit_stamp = record { ts = a.holder.clock + 1; trans = t }

  -- its intents are cells and its place is that of its stamp; it holds nothing any more
  abbrev pub with_commit : Account
  with_commit = record (counted_as a client number w (reply.Committed commit_stamp)) {
    holder = with_life (record a.holder {
      cells = edits_map l.edits a.holder.cells;
      clock = max a.holder.clock (a.holder.clock + 1);
      kept = max a.holder.clock (a.holder.clock + 1);
      applied = put stamp_cmp commit_stamp (record { stamp = commit_stamp; who = l.who; calls = l.calls }) a.holder.applied;
      left = put stamp_cmp commit_stamp l.edits a.holder.left;
    }) t None;
    fates = λ u. if same_trans t u then fate.decided commit_stamp [] (fate.finishing (a.fates u)) else a.fates u;
    locked = lock_set a.locked t [];
  }

  -- ---- what its deeds make of the state

  abbrev finishing_state : State
  finishing_state = state_deed (state_of a) (Finishes t)

  abbrev deciding_holder : Option Life → Holder
  deciding_holder x = commits a.holder commit_stamp x

  moved : (b : Bool) (f : Fate) → cond {A = Fate} b (fate.decided commit_stamp [] (cond {A = Fate} b (fate.finishing f) f)) (cond {A = Fate} b (fate.finishing f) f) ≡ cond {A = Fate} b (fate.decided commit_stamp [] (fate.finishing f)) f
  moved true f = refl
  moved false f = refl

  early_none : (b : Bool) → b ≡ false
      → with_life (record a.holder {
        cells = edits_map l.edits a.holder.cells;
        clock = max a.holder.clock (a.holder.clock + 1);
        kept = max a.holder.clock (a.holder.clock + 1);
        applied = cond {A = List (Stamp × Decided)} b a.holder.applied (put stamp_cmp commit_stamp (record { stamp = commit_stamp; who = l.who; calls = l.calls }) a.holder.applied);
        left = cond {A = List (Stamp × List Edit)} b a.holder.left (put stamp_cmp commit_stamp l.edits a.holder.left);
        lives = λ u. cond {A = Option Life} (same_trans u t) (Some (emptied l)) (a.holder.lives u);
      }) t None ≡ with_commit.holder
  early_none b e =
      (λ i. with_life (record a.holder {
        cells = edits_map l.edits a.holder.cells;
        clock = max a.holder.clock (a.holder.clock + 1);
        kept = max a.holder.clock (a.holder.clock + 1);
        applied = cond {A = List (Stamp × Decided)} (e i) a.holder.applied (put stamp_cmp commit_stamp (record { stamp = commit_stamp; who = l.who; calls = l.calls }) a.holder.applied);
        left = cond {A = List (Stamp × List Edit)} (e i) a.holder.left (put stamp_cmp commit_stamp l.edits a.holder.left);
        lives = λ u. cond {A = Option Life} (same_trans u t) (Some (emptied l)) (a.holder.lives u);
      }) t None)
      ∙ (λ i. record with_commit.holder { lives = λ u. twice {A = Option Life} (same_trans u t) None (Some (emptied l)) (a.holder.lives u) i })

  -- the state as it has let go
  abbrev pub committed : Account
  committed = record a { holder = with_commit.holder; fates = with_commit.fates; locked = with_commit.locked }

  over : a.fates t ≡ Running client [] → fate.decided commit_stamp [] (fate.finishing (a.fates t)) ≡ Committed commit_stamp [] []
  over runs = ap (λ (f : Fate). fate.decided commit_stamp [] (fate.finishing f)) runs

  stands_committed : IsOwn a client t l cause.Asked → a.fates t ≡ Running client [] → Stands committed
  stands_committed o runs =
      let q : Stands a = o.settled.stands in
      let move : Fate → Fate = λ f. fate.decided commit_stamp [] (fate.finishing f) in
      record {
        agree = agree_without a.holder.lives t q.agree;
        paired = paired_set a.phases a.holder.lives a.fates t None (λ f. fate.decided commit_stamp [] (fate.finishing f)) q.paired (ap is_running (over runs));
        held = λ j. held_set a.holder.lives t None j (a.phases j) (own_unheld a q t (here_as a client t l cause.Asked o) j) (q.held j);
        votes = moved_all (λ u f. has_votes f ≡ false) a.fates t (λ f. fate.decided commit_stamp [] (fate.finishing f)) (λ u away. q.votes u) (ap has_votes (over runs));
        forgets = moved_all (λ u f. is_all_done f ≡ false) a.fates t (λ f. fate.decided commit_stamp [] (fate.finishing f)) (λ u away. q.forgets u) (ap is_all_done (over runs));
        fates = moved_all (IsFateOf a.servers a.holder.server a.ids.epoch a.ids.transactions a.begun) a.fates t (λ f. fate.decided commit_stamp [] (fate.finishing f)) (λ u away. q.fates u)
            (subst (IsFateOf a.servers a.holder.server a.ids.epoch a.ids.transactions a.begun t) (sym (over runs)) (known_as a client t l cause.Asked o, refl));
        begun = q.begun;
        known = q.known;
        phases = q.phases;
        joined = q.joined;
        single = q.single;
        order = le_refl (max a.holder.clock (a.holder.clock + 1));
      }

  settled_committed : IsOwn a client t l cause.Asked → a.fates t ≡ Running client [] → AllByRecursion (λ v. is_on_trans t v ≡ false) a.waits → IsSettled committed
  settled_committed o runs off =
      let q : Tells a = o.settled.tells in
      record {
        stands = stands_committed o runs;
        tells = record {
          ended = ended_moved a.holder.server a.dead a.fates a.phases t (λ f. fate.decided commit_stamp [] (fate.finishing f)) q.ended (λ d. refl);
          parts = parts-gone a.holder.lives a.dead t None a.waits off q.parts;
          others = others-on a.fates committed.fates a.phases a.phases a.dead a.dead (λ n u h. h)
              (finish-moved a.dead a.fates t (λ f. fate.decided commit_stamp [] (fate.finishing f)) (λ n h. subst (λ (f : Fate). IsFinishOf n f (a.dead n t)) (sym (over runs)) tt)) a.waits q.others;
          came = q.came;
          apart = q.apart;
          joining = q.joining;
          finishing = moved_all (HasNoCall a.waits) a.fates t (λ f. fate.decided commit_stamp [] (fate.finishing f)) (λ u away. q.finishing u) (subst (HasNoCall a.waits t) (sym (over runs)) tt);
        };
      }

  -- at its turn the fate is that of a transaction that its client finished
  finishing_fate : a.fates t ≡ Running client [] → finishing_state.fates t ≡ Finishing client [] []
  finishing_fate runs = ap (λ (b : Bool). cond {A = Fate} b (fate.finishing (a.fates t)) (a.fates t)) (same_trans-itself t) ∙ ap fate.finishing runs

  abbrev ev : Event
  ev = event.Call client a.ids.epoch number (call.Finish t true)

  -- it may be decided
  pub decides_lawful : a.fates t ≡ Running client [] → t.server ≡ a.holder.server → t.epoch ≡ a.ids.epoch → a.holder.lives t ≡ Some l → l.vote ≡ None → waiting_of (state_of a).desk client t ≡ None
      → IsLawfulDeed ev finishing_state (Decides commit_stamp [])
  decides_lawful runs here now live active none = record {
    counts = tt;
    view = tt;
    locks = tt;
    running = tt;
    registration = tt;
    vote = tt;
    decision = record {
      client = client;
      votes = [];
      asked = refl;
      own = here;
      now = now;
      finishing = finishing_fate runs;
      voted = ap has_votes (finishing_fate runs);
      time = refl;
      idle = λ v is. (let wrong : None ≡ Some v = sym none ∙ is in cc);
      live = (l, live, active);
    };
    application = tt;
    forgetting = tt;
  }

  pub finishes_lawful : IsLawfulDeed ev (state_of a) (Finishes t)
  finishes_lawful = record { counts = tt; view = tt; locks = tt; running = tt; registration = tt; vote = tt; decision = tt; application = tt; forgetting = tt }

  decided_fate : a.fates t ≡ Running client [] → (state_deed finishing_state (Decides commit_stamp [])).fates t ≡ Committed commit_stamp [] []
  decided_fate runs = moved (same_trans t t) (a.fates t) ∙ ap (λ (b : Bool). cond {A = Fate} b (fate.decided commit_stamp [] (fate.finishing (a.fates t))) (a.fates t)) (same_trans-itself t)
      ∙ ap (λ (f : Fate). fate.decided commit_stamp [] (fate.finishing f)) runs

  releases_lawful : a.fates t ≡ Running client [] → a.holder.lives t ≡ Some l → ((j : JoinNo) → IsHolding t (a.phases j) → ⊥) → IsLawfulDeed ev (state_deed finishing_state (Decides commit_stamp [])) (Releases t)
  releases_lawful runs live unheld = record {
    counts = tt;
    view = tt;
    locks = (
      subst (λ (x : Option Life). IsSome ((deciding_holder x).lives t)) (sym live)
          (subst (λ (b : Bool). IsSome (cond {A = Option Life} b (Some (emptied l)) (a.holder.lives t))) (sym (same_trans-itself t)) refl),
      has_ended t (state_deed finishing_state (Decides commit_stamp [])) (Committed commit_stamp [] []) (decided_fate runs) refl unheld,
    );
    running = tt;
    registration = tt;
    vote = tt;
    decision = tt;
    application = tt;
    forgetting = tt;
  }

  begun_same : a.begun ++ [] ++ [] ++ [] ≡ a.begun
  begun_same = append-nil (a.begun ++ [] ++ []) ∙ append-nil (a.begun ++ []) ∙ append-nil a.begun

  joined_same : a.joined ++ [] ++ [] ++ [] ≡ a.joined
  joined_same = append-nil (a.joined ++ [] ++ []) ∙ append-nil (a.joined ++ []) ∙ append-nil a.joined

  told_fate : a.fates t ≡ Running client [] → with_commit.fates t ≡ Committed commit_stamp [] []
  told_fate runs = ap (λ (b : Bool). cond {A = Fate} b (fate.decided commit_stamp [] (fate.finishing (a.fates t))) (a.fates t)) (same_trans-itself t) ∙ ap (λ (f : Fate). fate.decided commit_stamp [] (fate.finishing f)) runs

  -- ---- a commit

  -- what it held is given on
  abbrev pub with_commit_given : List TransId → Account
  with_commit_given ts = with_granted with_commit (granted_calls a.waits ts)

  pub commit_leads : IsQuiet a → a.is_down ≡ false → a.sessions client ≡ Some w → number ≡ w.last + 1 → a.holder.lives t ≡ Some l → a.fates t ≡ Running client []
      → waiting_of (state_of a).desk client t ≡ None → why_not_own false (state_of a) t ≡ None → (ts : List TransId) → IsWalk with_commit.holder (in_turn with_commit.holder a.waits) ts
      → Leads false a (call_entry a client number w (call.Finish t true) (reply.Committed commit_stamp) ((act.Decided commit_stamp [] ∷ act.Released t ∷ grant_acts ts) ++ [])) (with_commit_given ts)
  commit_leads q up there turn live runs idle may ts walk =
      let r : Reply = reply.Committed commit_stamp in
      let mine_own : IsOwn a client t l cause.Asked = own_of a client t l cause.Asked q.settled live runs in
      let own : l.client ≡ client = mine_own.its in
      let pair = own_pair a q.settled.stands t l live mine_own.part in
      let here : t.server ≡ a.holder.server = here_as a client t l cause.Asked mine_own in
      let now : t.epoch ≡ a.ids.epoch = now_as a client t l cause.Asked mine_own in
      let mine : (client == client) ≡ true = eq-eqb client client refl in
      let x : Decided = record { stamp = commit_stamp; who = l.who; calls = l.calls } in
      let holders : with_life (commits a.holder commit_stamp (a.holder.lives t)) t None ≡ with_commit.holder = ap (λ (y : Option Life). with_life (commits a.holder commit_stamp y) t None) live ∙ early_none l.is_early pair.2 in
      let front : List Act = act.Decided commit_stamp [] ∷ act.Released t ∷ [] in
      let back : List Deed = Finishes t ∷ Decides commit_stamp [] ∷ Releases t ∷ [] in
      let goes : GoesOn a committed ev front back ts = record {
        before = q.settled;
        none_tried = none_tried a q up;
        settled = settled_committed mine_own runs (none-on a.holder.lives a.dead client t l live own a.waits q.settled.tells.parts idle);
        was = lived_on a.holder t;
        waits = refl;
        walk = walk;
        no_call = no_file_call a committed client number w t true r;
        reached = λ i. state_of (record committed { holder = holders i; fates = λ u. moved (same_trans t u) (a.fates u) i; begun = begun_same i; joined = joined_same i });
        deeds = (finishes_lawful, (decides_lawful runs here now live pair.1 idle, (releases_lawful runs live (own_unheld a q.settled.stands t here), tt)));
        stops = refl;
        release = λ rest. refl;
        first = λ rest. refl;
        released = refl;
        none_granted = (refl, refl);
        said = λ y. (tt, (tt, tt));
        regained = refl;
        sent = refl;
      } in
      finish_leads a committed client number w t true r false front back ts [] (with_commit_given ts) (record {
        goes = goes;
        running = up;
        there = there;
        turn = turn;
        sessions = refl;
        now = refl;
        brings = ap (λ (f : Fate). finishes (state_of a).desk client t true r f ++ Decides commit_stamp [] ∷ Releases t ∷ []) runs
            ∙ ap (λ (b : Bool). cond {A = List Deed} (b && is_none (waiting_of (state_of a).desk client t)) (Finishes t ∷ []) [] ++ Decides commit_stamp [] ∷ Releases t ∷ []) mine
            ∙ ap (λ (y : Option Waiting). cond {A = List Deed} (is_none y) (Finishes t ∷ []) [] ++ Decides commit_stamp [] ∷ Releases t ∷ []) idle;
        drawn = refl;
        left = refl;
        says = λ y g. tt;
        addressed = refl;
        quiet = quiet_told (with_granted committed (granted_calls a.waits ts)) client w (record w { last = number; reply = r }) there (omega (arith, turn)) (let_go_quiet a committed ev front back ts goes);
        tells = (
          [],
          ap fate.decision_in (told_fate runs),
          (
            x,
            ap (λ (h : Holder). entries.find stamp_cmp commit_stamp h.applied) (given-frame (granted_calls a.waits ts) with_commit.holder)
                ∙ find-put stamp_cmp stamps_total commit_stamp commit_stamp x a.holder.applied
                ∙ ap (λ (o : Ordering). cond {A = Option Decided} (is_eq o) (Some x) (entries.find stamp_cmp commit_stamp a.holder.applied)) (itself commit_stamp),
          ),
        );
        mail = subst (λ (ms : List Mail). IsPermutation ms []) (sym (ap (on_finish t true client (is_none (waiting_of (state_of a).desk client t))) runs ∙ ap (λ (b : Bool). cond {A = List Mail} (b && is_none (waiting_of (state_of a).desk client t)) [] []) mine
            ∙ ap (λ (y : Option Waiting). cond {A = List Mail} (is_none y) [] []) idle)) (IsPermutation-refl []);
        answer = subst (λ (b : Bool). Where b (First (at_part (true && is_some (waiting_of (state_of a).desk client t)) (part_at (state_of a) client t)) r (r ≡ finish_reply false (state_of a) t (a.fates t))) (r ≡ reply.Refused refusal.UnknownTrans))
            (sym (eq-eqb t.server a.holder.server here))
            (subst (λ (y : Option Waiting). First (at_part (true && is_some y) (part_at (state_of a) client t)) r (r ≡ finish_reply false (state_of a) t (a.fates t))) (sym idle)
            (subst (λ (p : Part). First (at_part false p) r (r ≡ finish_reply false (state_of a) t (a.fates t))) (sym (own_at_work a t client here runs))
            (ap (voted_reply (state_of a) t) (sym may) ∙ ap (finish_reply false (state_of a) t) (sym runs))));
      })
