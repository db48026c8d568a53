-- votes that arrive at the server of a transaction: with the last one it is decided, or ends by this server's own
use Rattle.std.specs.Prelude.{cond, Bool, true, false, not, ◌&&◌, ◌||◌, ◌==◌, max, Option, None, Some, IsSome, if◌then◌else◌}
use Rattle.std.specs.List.{list_all, AllByRecursion}
use Rattle.std.specs.List.Sorted.{IsPermutation}
use Rattle.std.specs.Option.{option_or}
use Rattle.std.specs.FinMap.Entries.{put}
use Rattle.std.proofs.lemmas.Bool.{and_parts, or_left, or_right}
use Rattle.std.proofs.lemmas.List.{append-nil}
use Rattle.std.proofs.lemmas.List.Sorted.{IsPermutation-refl}
use Rattle.std.proofs.Common.{◌≡◌, ℕ, ◌+◌, ◌≤◌, List, [], ◌∷◌, ◌++◌, refl, sym, ◌∙◌, ap, subst, eq-eqb, le_refl}
use Rattle.alp_base.specs.declared.ids.JoinNo.{JoinNo}
use Rattle.alp_base.specs.declared.ids.Stamp.{Stamp}
use Rattle.alp_base.specs.declared.ids.TransId.{TransId}
use Rattle.alp_files.specs.Edits.{Edit, edits_map}
use Rattle.alp_files.specs.History.{Decided}
use Rattle.alp_files.proofs.FilesLemmas.{same-some}
use Rattle.alp_files.specs.declared.refusal.Why.{Why}
use Rattle.alp_files.specs.declared.refusal.Cause.{Cause}
use Rattle.alp_files.specs.declared.refusal.Cause.TheVariants as cause
use Rattle.alp_journal.specs.declared.act.Act.{Act}
use Rattle.alp_journal.specs.declared.act.Act.TheVariants as act
use Rattle.alp_journal.specs.declared.event.Event.{Event}
use Rattle.alp_journal.specs.declared.event.Event.TheVariants as event
use Rattle.alp_journal.specs.declared.message.Message.{Message}
use Rattle.alp_journal.specs.declared.message.Message.TheVariants as msg
use Rattle.alp_journal.specs.Ids.{same_trans, same_join, has_join, stamp_cmp, is_drawn}
use Rattle.alp_journal.specs.Deeds.{Deed, Hears, Decides, Ends, Releases}
use Rattle.alp_journal.specs.Coordinator.{Fate, Vote, Undrawn, Running, Finishing, Committed, Forgotten, Ended, client_of, is_running, has_votes, voted, with_vote, decision_in}
use Rattle.alp_journal.specs.Coordinator as fate
use Rattle.alp_journal.specs.Holder.{Life, with_life, emptied, commits}
use Rattle.alp_journal.specs.Desk.{Waiting, file_trans, part_trans, is_of, is_of_part, waiting_of}
use Rattle.alp_journal.specs.Counts.{lock_set}
use Rattle.alp_journal.specs.State.{State, Ids, state_deed}
use Rattle.alp_journal.specs.Moves.{first_sent, abort_in, hears, ends_for}
use Rattle.alp_journal.specs.Laws.{SaysRight, HasDecision, latest_vote}
use Rattle.alp_journal.specs.Messages.{Mail, to_each, to_others, on_ready, own_vote, on_votes, has_all_votes, why_not_own}
use Rattle.alp_journal.specs.Answered.{is_all_done, IsWalk, in_turn}
use Rattle.alp_journal.specs.Account.{Account, state_of, is_other, AreVotes, IsFateOf, Stands, IsSettled, IsQuiet, IsFinishOf, HasNoCall, is_on_trans, granted_calls, with_granted, grant_acts, sent_acts, Leads}
use Rattle.alp_journal.proofs.IdLemmas.{same_trans-itself}
use Rattle.alp_journal.proofs.WaitLemmas.{found-is, file_part}
use Rattle.alp_journal.proofs.StandLemmas.{same_join-itself, moved_fate, moved_all, own_pair, own_unheld}
use Rattle.alp_journal.proofs.MoveLemmas.{stands_fated, stands_over}
use Rattle.alp_journal.proofs.DeskLemmas.{tells_fated}
use Rattle.alp_journal.proofs.QuietLemmas.{none_tried, parts-gone, has_ended, ended_moved, others-on, finish-moved}
use Rattle.alp_journal.proofs.CallLemmas.{no_mail}
use Rattle.alp_journal.proofs.LetGoLemmas.{GoesOn}
use Rattle.alp_journal.proofs.ArrivalLemmas.{arrive_entry, arrive_leads, says_leads, leaves_leads}
use Rattle.alp_journal.proofs.OwnEnds.{each-addressed, aborts-said, aborts-addressed, lived_on, part_ended, IsOwn, here_as, known_as, now_as, fate_ended, after_goes}
use Rattle.alp_journal.proofs.RegisterSteps.{quiet_beside}

-- ---- to each part

-- all go to other servers of the run
pub others-each : (a : Account) (f : JoinNo → Message) (js : List JoinNo) → list_all (λ (j : JoinNo). is_other a.servers a.holder.server j.server) js ≡ true → to_others (state_of a) (to_each f js) ≡ to_each f js
others-each a f [] h = refl
others-each a f (j ∷ js) h =
    let both = and_parts (is_other a.servers a.holder.server j.server) (list_all (λ (k : JoinNo). is_other a.servers a.holder.server k.server) js) h in
    (λ i. cond {A = List Mail} (both.0 i) ((j.server, f j) ∷ others-each a f js both.1 i) (others-each a f js both.1 i))

-- no grant is the word of an end, nor is a commit
first-behind : (f : Message → Option Cause) (ts : List TransId) (acts : List Act) → first_sent f (grant_acts ts ++ acts) ≡ first_sent f acts
first-behind f [] acts = refl
first-behind f (t ∷ ts) acts = first-behind f ts acts

no-abort : (t : TransId) (stamp : Stamp) (js : List JoinNo) → first_sent (abort_in t) (sent_acts (to_each (λ (k : JoinNo). msg.Commit t k stamp) js)) ≡ None
no-abort t stamp [] = refl
no-abort t stamp (j ∷ js) = no-abort t stamp js

an-abort : (t : TransId) (c : Cause) (js : List JoinNo) (j : JoinNo) → has_join j js ≡ true → first_sent (abort_in t) (sent_acts (to_each (λ (k : JoinNo). msg.Abort t k c) js)) ≡ Some c
an-abort t c [] j h = let wrong : false ≡ true = h in cc
an-abort t c (k ∷ js) j h = ap (λ (b : Bool). option_or (cond {A = Option Cause} b (Some c) None) (first_sent (abort_in t) (sent_acts (to_each (λ (i : JoinNo). msg.Abort t i c) js)))) (same_trans-itself t)

-- a commit is said to each of the decision's joins
commits-said : (e : Event) (y : State) (t : TransId) (stamp : Stamp) (all js : List JoinNo) → decision_in (y.fates t) ≡ Some (stamp, all) → ((k : JoinNo) → has_join k js ≡ true → has_join k all ≡ true)
    → AllByRecursion (SaysRight e y) (sent_acts (to_each (λ (k : JoinNo). msg.Commit t k stamp) js))
commits-said e y t stamp all [] is of = tt
commits-said e y t stamp all (j ∷ js) is of = (
  subst (HasDecision stamp j) (sym is) (refl, of j (or_left (same_join j j) (has_join j js) (same_join-itself j))),
  commits-said e y t stamp all js is (λ k h. of k (or_right (same_join j k) (has_join k js) h)),
)

module _ (a : Account) (from : ℕ) (t : TransId) (j : JoinNo) (ts : ℕ) where
  -- it is none of a transaction that is finishing
  pub ready_passed_leads : IsQuiet a → a.is_down ≡ false → ((acts : List Act) → hears (state_of a) acts t j ts (a.fates t) ≡ []) → on_ready (state_of a) (state_of a) t j ts (why_not_own false (state_of a) t) (a.fates t) ≡ [] → Leads false a (arrive_entry a from (msg.Ready t j ts) []) a
  ready_passed_leads q up none silent = says_leads a from (msg.Ready t j ts) false []
      (record { quiet = q; up = up; brought = none []; said = tt; mail = subst (λ (ms : List Mail). IsPermutation (to_others (state_of a) ms) []) (sym silent) (IsPermutation-refl []); addressed = refl; applied = tt })

  module _ (client : ℕ) (js : List JoinNo) (vs : List Vote) where
    heard_is : a.fates t ≡ Finishing client js vs → fate.heard j ts (a.fates t) ≡ Finishing client js (with_vote j ts vs)
    heard_is is = ap (fate.heard j ts) is

    hears_is : (acts : List Act) (c : Option Cause) → a.fates t ≡ Finishing client js vs → has_join j js ≡ true → first_sent (abort_in t) acts ≡ c → hears (state_of a) acts t j ts (a.fates t) ≡ Hears t j ts ∷ ends_for t client c
    hears_is acts c is its first = ap (hears (state_of a) acts t j ts) is ∙ ap (λ (b : Bool). cond {A = List Deed} b (Hears t j ts ∷ ends_for t client (first_sent (abort_in t) acts)) []) its ∙ ap (λ (x : Option Cause). Hears t j ts ∷ ends_for t client x) first

    known : IsSettled a → a.fates t ≡ Finishing client js vs → IsFateOf a.servers a.holder.server a.ids.epoch a.ids.transactions a.begun t (Finishing client js vs)
    known q is = subst (IsFateOf a.servers a.holder.server a.ids.epoch a.ids.transactions a.begun t) is (q.stands.fates t)

    -- each vote is of a join
    votes_with : has_join j js ≡ true → AreVotes js vs → AreVotes js (with_vote j ts vs)
    votes_with its h = go (voted j vs)
      where
        more : (ws : List Vote) → AreVotes js ws → AreVotes js (ws ++ (j, ts) ∷ [])
        more [] h = ap (λ (b : Bool). b && true) its
        more (v ∷ ws) h =
            let both = and_parts (has_join v.0 js) (list_all (λ (x : Vote). has_join x.0 js) ws) h in
            ap (λ (b : Bool). b && list_all (λ (x : Vote). has_join x.0 js) (ws ++ (j, ts) ∷ [])) both.0 ∙ more ws both.1

        go : (b : Bool) → AreVotes js (cond {A = List Vote} b vs (vs ++ (j, ts) ∷ []))
        go true = h
        go false = more vs h

    -- ---- it is kept

    abbrev pub with_heard : Account
    with_heard = record a { fates = λ u. if same_trans t u then fate.heard j ts (a.fates u) else a.fates u }

    not_all : has_join j js ≡ true → has_all_votes j ts js vs ≡ false → has_votes (Finishing client js (with_vote j ts vs)) ≡ false
    not_all its more = ap (λ (b : Bool). b && list_all (λ k. voted k (with_vote j ts vs)) js) (sym its) ∙ more

    pub ready_kept_leads : IsQuiet a → a.is_down ≡ false → a.fates t ≡ Finishing client js vs → has_join j js ≡ true → has_all_votes j ts js vs ≡ false → Leads false a (arrive_entry a from (msg.Ready t j ts) []) with_heard
    ready_kept_leads q up is its more =
        let now : fate.heard j ts (a.fates t) ≡ Finishing client js (with_vote j ts vs) = heard_is is in
        let of = known q.settled is in
        arrive_leads a from (msg.Ready t j ts) false [] (Hears t j ts ∷ []) with_heard (record {
          up = refl;
          running = up;
          brought = ap (λ (ds : List Deed). ds ++ [] ++ []) (hears_is [] None is its refl);
          left = λ i. state_of (record with_heard { begun = append-nil a.begun i; joined = append-nil a.joined i; is_down = sym up i; pending = sym (none_tried a q up) i });
          drawn = refl;
          deeds = (record { counts = tt; view = tt; locks = tt; running = tt; registration = tt; vote = tt; decision = tt; application = tt; forgetting = tt }, tt);
          released = refl;
          granted = refl;
          said = tt;
          regained = refl;
          quiet = quiet_beside a with_heard refl refl (none_tried a q up) (record {
            stands = stands_fated a q.settled.stands t (fate.heard j ts) (ap client_of now ∙ sym (ap client_of is)) (ap is_running now ∙ sym (ap is_running is)) (ap has_votes now ∙ not_all its more) (ap is_all_done now)
                (subst (IsFateOf a.servers a.holder.server a.ids.epoch a.ids.transactions a.begun t) (sym now) (of.0, of.1, of.2, votes_with its of.3));
            tells = tells_fated a q.settled.tells t (fate.heard j ts) (λ c. refl) (λ n h. subst (λ (f : Fate). IsFinishOf n f (a.dead n t)) (sym now) (subst (λ (f : Fate). IsFinishOf n f (a.dead n t)) is h))
                (subst (HasNoCall a.waits t) (sym now) (subst (HasNoCall a.waits t) is (q.settled.tells.finishing t)));
          }) q;
          mail = no_mail [] (ap (λ (f : Fate). to_others (state_of a) (on_ready (state_of a) (state_of with_heard) t j ts (why_not_own false (state_of a) t) f)) is
              ∙ ap (λ (b : Bool). to_others (state_of a) (cond {A = List Mail} b (own_vote (state_of a) (state_of with_heard) t js (why_not_own false (state_of a) t)) [])) more) refl;
          applied = tt;
          turns = tt;
        })

    -- ---- the last one

    module _ (l : Life) where
      pub own : {c : Cause} → IsQuiet a → a.fates t ≡ Finishing client js vs → a.holder.lives t ≡ Some l → l.join ≡ None → IsOwn a client t l c
      own q is live part = record { settled = q.settled; live = live; part = part; its = same-some l.client client (sym (own_pair a q.settled.stands t l live part).0 ∙ ap client_of is) }

      -- the time that all votes and the clock allow
      abbrev pub decision_stamp : Stamp
      decision_stamp = record { ts = latest_vote (a.holder.clock + 1) (with_vote j ts vs); trans = t }

      -- the parts of other servers are told
      abbrev pub commit_mails : List Mail
      commit_mails = to_each (λ (k : JoinNo). msg.Commit t k decision_stamp) js

      -- its intents are cells, and it takes its place among the transactions
      abbrev pub with_decision : Account
      with_decision = record a {
        holder = with_life (record a.holder {
          cells = edits_map l.edits a.holder.cells;
          clock = max a.holder.clock (latest_vote (a.holder.clock + 1) (with_vote j ts vs));
          kept = max a.holder.clock (latest_vote (a.holder.clock + 1) (with_vote j ts vs));
          applied = put stamp_cmp decision_stamp (record { stamp = decision_stamp; who = l.who; calls = l.calls }) a.holder.applied;
          left = put stamp_cmp decision_stamp l.edits a.holder.left;
        }) t None;
        fates = λ u. if same_trans t u then fate.decided decision_stamp js (fate.heard j ts (a.fates u)) else a.fates u;
        locked = lock_set a.locked t [];
        is_down = false;
        pending = [];
      }

      abbrev pub with_decision_given : List TransId → Account
      with_decision_given us = with_granted with_decision (granted_calls a.waits us)

      abbrev deciding : Account
      deciding = record a { holder = with_decision.holder; fates = with_decision.fates; locked = with_decision.locked }

      decided_is : a.fates t ≡ Finishing client js vs → fate.decided decision_stamp js (fate.heard j ts (a.fates t)) ≡ Committed decision_stamp js []
      decided_is is = ap (λ (f : Fate). fate.decided decision_stamp js (fate.heard j ts f)) is

      stands_open : (ks : List JoinNo) → has_join j ks ≡ true → is_all_done (Committed decision_stamp ks []) ≡ false
      stands_open [] h = refl
      stands_open (k ∷ ks) h = refl

      decide_settled : IsQuiet a → a.fates t ≡ Finishing client js vs → has_join j js ≡ true → a.holder.lives t ≡ Some l → l.join ≡ None → IsSettled deciding
      decide_settled q is its live part =
          let o : IsOwn a client t l cause.Asked = own q is live part in
          let now : fate.decided decision_stamp js (fate.heard j ts (a.fates t)) ≡ Committed decision_stamp js [] = decided_is is in
          let s : Stands (record a { holder = with_decision.holder; fates = with_decision.fates }) =
          stands_over a q.settled.stands t (edits_map l.edits a.holder.cells) (max a.holder.clock decision_stamp.ts) (max a.holder.clock decision_stamp.ts) (put stamp_cmp decision_stamp (record { stamp = decision_stamp; who = l.who; calls = l.calls }) a.holder.applied)
          (put stamp_cmp decision_stamp l.edits a.holder.left) (le_refl (max a.holder.clock decision_stamp.ts)) (here_as a client t l cause.Asked o) (λ f. fate.decided decision_stamp js (fate.heard j ts f))
          (ap is_running now) (ap has_votes now) (ap is_all_done now ∙ stands_open js its) (subst (IsFateOf a.servers a.holder.server a.ids.epoch a.ids.transactions a.begun t) (sym now) (known_as a client t l cause.Asked o, refl)) in
          record {
            stands = record { agree = s.agree; paired = s.paired; held = s.held; votes = s.votes; forgets = s.forgets; fates = s.fates; begun = s.begun; known = s.known; phases = s.phases; joined = s.joined; single = s.single; order = s.order };
            tells = record {
              ended = ended_moved a.holder.server a.dead a.fates a.phases t (λ f. fate.decided decision_stamp js (fate.heard j ts f)) q.settled.tells.ended (λ c. refl);
              parts = parts-gone a.holder.lives a.dead t None a.waits (off_files q is) q.settled.tells.parts;
              others = others-on a.fates deciding.fates a.phases a.phases a.dead a.dead (λ n u h. h)
                  (finish-moved a.dead a.fates t (λ f. fate.decided decision_stamp js (fate.heard j ts f)) (λ n h. subst (λ (f : Fate). IsFinishOf n f (a.dead n t)) (sym now) tt)) a.waits q.settled.tells.others;
              came = q.settled.tells.came;
              apart = q.settled.tells.apart;
              joining = q.settled.tells.joining;
              finishing = moved_all (HasNoCall a.waits) a.fates t (λ f. fate.decided decision_stamp js (fate.heard j ts f)) (λ u away. q.settled.tells.finishing u) (subst (HasNoCall a.waits t) (sym now) tt);
            };
          }
        where
          off_files : IsQuiet a → a.fates t ≡ Finishing client js vs → AllByRecursion (λ w. is_on_trans t w ≡ false) a.waits
          off_files q is = subst (HasNoCall a.waits t) is (q.settled.tells.finishing t)

      -- ---- what its deeds make of the state

      twice_gone : (b : Bool) (x y : Option Life) → cond {A = Option Life} b None (cond {A = Option Life} b x y) ≡ cond {A = Option Life} b None y
      twice_gone true x y = refl
      twice_gone false x y = refl

      twice_moved : (b : Bool) (f : Fate) → cond {A = Fate} b (fate.decided decision_stamp js (cond {A = Fate} b (fate.heard j ts f) f)) (cond {A = Fate} b (fate.heard j ts f) f) ≡ cond {A = Fate} b (fate.decided decision_stamp js (fate.heard j ts f)) f
      twice_moved true f = refl
      twice_moved false f = refl

      holder_then : a.holder.lives t ≡ Some l → l.is_early ≡ false → with_life (commits a.holder decision_stamp (a.holder.lives t)) t None ≡ with_decision.holder
      holder_then live late = ap (λ (x : Option Life). with_life (commits a.holder decision_stamp x) t None) live
          ∙ (λ i. with_life (record a.holder {
            cells = edits_map l.edits a.holder.cells;
            clock = max a.holder.clock decision_stamp.ts;
            kept = max a.holder.clock decision_stamp.ts;
            applied = cond {A = List (Stamp × Decided)} (late i) a.holder.applied (put stamp_cmp decision_stamp (record { stamp = decision_stamp; who = l.who; calls = l.calls }) a.holder.applied);
            left = cond {A = List (Stamp × List Edit)} (late i) a.holder.left (put stamp_cmp decision_stamp l.edits a.holder.left);
            lives = λ u. cond {A = Option Life} (same_trans u t) (Some (emptied l)) (a.holder.lives u);
          }) t None)
          ∙ (λ i. record with_decision.holder { lives = λ u. twice_gone (same_trans u t) (Some (emptied l)) (a.holder.lives u) i })

      begun_three : a.begun ++ [] ++ [] ++ [] ≡ a.begun
      begun_three = append-nil (a.begun ++ [] ++ []) ∙ append-nil (a.begun ++ []) ∙ append-nil a.begun

      joined_three : a.joined ++ [] ++ [] ++ [] ≡ a.joined
      joined_three = append-nil (a.joined ++ [] ++ []) ∙ append-nil (a.joined ++ []) ∙ append-nil a.joined

      abbrev hearing : State
      hearing = state_deed (state_of a) (Hears t j ts)

      pub hearing_fate : a.fates t ≡ Finishing client js vs → hearing.fates t ≡ Finishing client js (with_vote j ts vs)
      hearing_fate is = moved_fate a.fates t (fate.heard j ts) ∙ heard_is is

      -- no call on its files waits
      pub idle_then : IsQuiet a → a.fates t ≡ Finishing client js vs → (w : Waiting) → waiting_of (state_of a).desk client t ≡ Some w → file_trans w.call ≡ None
      idle_then q is w found = go (file_trans w.call) refl
        where
          it : (is_of_part client t w ≡ true) × (is_on_trans t w ≡ false)
          it = found-is (λ v. is_on_trans t v ≡ false) (is_of_part client t) a.waits w found (subst (HasNoCall a.waits t) is (q.settled.tells.finishing t))

          go : (x : Option TransId) → file_trans w.call ≡ x → x ≡ None
          go None e = refl
          go (Some u) e =
              let mine : is_of t (part_trans w.call) ≡ true = (and_parts (w.client == client) (is_of t (part_trans w.call)) it.0).1 in
              let wrong : true ≡ false = sym mine ∙ ap (is_of t) (file_part w.call u e) ∙ ap (is_of t) (sym e) ∙ it.1 in
              cc

      pub decide_leads : IsQuiet a → a.is_down ≡ false → a.fates t ≡ Finishing client js vs → has_all_votes j ts js vs ≡ true → a.holder.lives t ≡ Some l → l.join ≡ None → why_not_own false (state_of a) t ≡ None
          → (us : List TransId) → IsWalk with_decision.holder (in_turn with_decision.holder a.waits) us
          → Leads false a (arrive_entry a from (msg.Ready t j ts) (((act.Decided decision_stamp js ∷ act.Released t ∷ []) ++ grant_acts us) ++ sent_acts commit_mails)) (with_decision_given us)
      decide_leads q up is all live part may us walk =
          let ev : Event = event.Arrive from (msg.Ready t j ts) in
          let both = and_parts (has_join j js) (list_all (λ k. voted k (with_vote j ts vs)) js) all in
          let o : IsOwn a client t l cause.Asked = own q is live part in
          let here : t.server ≡ a.holder.server = here_as a client t l cause.Asked o in
          let pair = own_pair a q.settled.stands t l live part in
          let of = known q.settled is in
          let front : List Act = act.Decided decision_stamp js ∷ act.Released t ∷ [] in
          let back : List Deed = Hears t j ts ∷ Decides decision_stamp js ∷ Releases t ∷ [] in
          let acts : List Act = (front ++ grant_acts us) ++ sent_acts commit_mails in
          let now : deciding.fates t ≡ Committed decision_stamp js [] = moved_fate a.fates t (λ f. fate.decided decision_stamp js (fate.heard j ts f)) ∙ decided_is is in
          let mid : State = state_deed hearing (Decides decision_stamp js) in
          let goes : GoesOn a deciding ev front back us = record {
            before = q.settled;
            none_tried = none_tried a q up;
            settled = decide_settled q is both.0 live part;
            was = lived_on a.holder t;
            waits = refl;
            walk = walk;
            no_call = λ u n. refl;
            reached = λ i. state_of (record deciding { holder = holder_then live pair.2 i; fates = λ u. twice_moved (same_trans t u) (a.fates u) i; begun = begun_three i; joined = joined_three i });
            deeds = (
              record { counts = tt; view = tt; locks = tt; running = tt; registration = tt; vote = tt; decision = tt; application = tt; forgetting = tt },
              (
                record {
                  counts = tt;
                  view = tt;
                  locks = tt;
                  running = tt;
                  registration = tt;
                  vote = tt;
                  decision = record {
                    client = client;
                    votes = with_vote j ts vs;
                    asked = refl;
                    own = here;
                    now = now_as a client t l cause.Asked o;
                    finishing = hearing_fate is;
                    voted = ap has_votes (hearing_fate is) ∙ both.1;
                    time = refl;
                    idle = λ w found. idle_then q is w found;
                    live = (l, live, pair.1);
                  };
                  application = tt;
                  forgetting = tt;
                },
                (
                  record {
                    counts = tt;
                    view = tt;
                    locks = (
                      subst (λ (x : Option Life). IsSome ((commits a.holder decision_stamp x).lives t)) (sym live) (subst (λ (b : Bool). IsSome (cond {A = Option Life} b (Some (emptied l)) (a.holder.lives t))) (sym (same_trans-itself t)) refl),
                      has_ended t mid (Committed decision_stamp js []) (twice_moved (same_trans t t) (a.fates t) ∙ now) refl (own_unheld a q.settled.stands t here),
                    );
                    running = tt;
                    registration = tt;
                    vote = tt;
                    decision = tt;
                    application = tt;
                    forgetting = tt;
                  },
                  tt,
                ),
              ),
            );
            stops = refl;
            release = λ rest. refl;
            first = λ rest. refl;
            released = refl;
            none_granted = (refl, refl);
            said = λ x. (tt, (tt, tt));
            regained = refl;
            sent = refl;
          } in
          let first : first_sent (abort_in t) acts ≡ None = first-after us commit_mails ∙ no-abort t decision_stamp js in
          leaves_leads a from (msg.Ready t j ts) false deciding (with_decision_given us) front back us commit_mails (record {
            goes = goes;
            running = up;
            brings = ap (λ (ds : List Deed). ds ++ Decides decision_stamp js ∷ Releases t ∷ []) (hears_is acts None is both.0 first);
            drawn = refl;
            left = refl;
            says = λ y g. commits-said ev y t decision_stamp js js (ap (λ (f : TransId → Fate). decision_in (f t)) g.fates ∙ ap decision_in now) (λ k h. h);
            addressed = each-addressed (λ (k : JoinNo). msg.Commit t k decision_stamp) (λ k. ap (λ (b : Bool). b && true) (eq-eqb k.server k.server refl)) js;
            mail = subst (λ (ms : List Mail). IsPermutation ms commit_mails)
                (sym (ap (λ (f : Fate). to_others (state_of a) (on_ready (state_of a) (state_of (with_decision_given us)) t j ts (why_not_own false (state_of a) t) f)) is
                ∙ ap (λ (b : Bool). to_others (state_of a) (cond {A = List Mail} b (own_vote (state_of a) (state_of (with_decision_given us)) t js (why_not_own false (state_of a) t)) [])) all
                ∙ ap (λ (x : Option Why). to_others (state_of a) (own_vote (state_of a) (state_of (with_decision_given us)) t js x)) may
                ∙ ap (λ (f : Fate). to_others (state_of a) (on_votes t f)) now ∙ others-each a (λ (k : JoinNo). msg.Commit t k decision_stamp) js of.2.0)) (IsPermutation-refl commit_mails);
            applied = tt;
          })
        where
          first-after : (us : List TransId) (ms : List Mail) → first_sent (abort_in t) (((act.Decided decision_stamp js ∷ act.Released t ∷ []) ++ grant_acts us) ++ sent_acts ms) ≡ first_sent (abort_in t) (sent_acts ms)
          first-after us ms = first-behind (abort_in t) us (sent_acts ms)

      -- ---- and this server is against it

      module _ (failed : Bool) (w : Why) where
        abbrev own_cause : Cause
        own_cause = cause.Voted a.holder.server w

        -- the transaction ends, and its client is to be told
        abbrev pub with_own_no : Account
        with_own_no = record (part_ended a client t l (cause.Voted a.holder.server w)) { is_down = false; pending = [] }

        abbrev pub with_own_no_given : List TransId → Account
        with_own_no_given us = with_granted with_own_no (granted_calls a.waits us)

        abbrev pub own_aborts : List Mail
        own_aborts = to_each (λ (k : JoinNo). msg.Abort t k (cause.Voted a.holder.server w)) js

        heard_ended : (f : Fate) → fate.ended own_cause (fate.heard j ts f) ≡ fate.ended own_cause f
        heard_ended Undrawn = refl
        heard_ended (Running n ks) = refl
        heard_ended (Finishing n ks ws) = refl
        heard_ended (Committed stamp ks ds) = refl
        heard_ended (Forgotten stamp ks) = refl
        heard_ended (Ended d) = refl

        pub own_no_leads : IsQuiet a → a.is_down ≡ false → a.fates t ≡ Finishing client js vs → has_all_votes j ts js vs ≡ true → a.holder.lives t ≡ Some l → l.join ≡ None → why_not_own failed (state_of a) t ≡ Some w
            → (us : List TransId) → IsWalk with_own_no.holder (in_turn with_own_no.holder a.waits) us
            → Leads failed a (arrive_entry a from (msg.Ready t j ts) ((act.Released t ∷ grant_acts us) ++ sent_acts own_aborts)) (with_own_no_given us)
        own_no_leads q up is all live part not us walk =
            let ev : Event = event.Arrive from (msg.Ready t j ts) in
            let both = and_parts (has_join j js) (list_all (λ k. voted k (with_vote j ts vs)) js) all in
            let o : IsOwn a client t l own_cause = own q is live part in
            let of = known q.settled is in
            let ended : Account = part_ended a client t l own_cause in
            let front : List Act = act.Released t ∷ [] in
            let back : List Deed = Hears t j ts ∷ Ends t client own_cause ∷ Releases t ∷ [] in
            let acts : List Act = (front ++ grant_acts us) ++ sent_acts own_aborts in
            let goes : GoesOn a ended ev front back us = after_goes a client t l own_cause (Hears t j ts) (fate.heard j ts) ev (λ u n. refl) refl
            (record { counts = tt; view = tt; locks = tt; running = tt; registration = tt; vote = tt; decision = tt; application = tt; forgetting = tt }) refl refl heard_ended o (none_tried a q up) us walk in
            let first : first_sent (abort_in t) acts ≡ Some own_cause = first-behind (abort_in t) us (sent_acts own_aborts) ∙ an-abort t own_cause js j both.0 in
            leaves_leads a from (msg.Ready t j ts) failed ended (with_own_no_given us) front back us own_aborts (record {
              goes = goes;
              running = up;
              brings = ap (λ (ds : List Deed). ds ++ Releases t ∷ []) (hears_is acts (Some own_cause) is both.0 first);
              drawn = refl;
              left = refl;
              says = λ y g. aborts-said ev y t own_cause js ((λ i. is_drawn (g.server i) (g.ids i).epoch (g.ids i).transactions t.server t.epoch t.counter) ∙ (known_as a client t l own_cause o).0)
                  (ap (λ (f : TransId → Fate). f t) g.fates ∙ fate_ended a client t l own_cause o) (now_as a client t l own_cause o ∙ ap (λ (i : Ids). i.epoch) (sym g.ids));
              addressed = aborts-addressed t own_cause js;
              mail = subst (λ (ms : List Mail). IsPermutation ms own_aborts)
                  (sym (ap (λ (f : Fate). to_others (state_of a) (on_ready (state_of a) (state_of (with_own_no_given us)) t j ts (why_not_own failed (state_of a) t) f)) is
                  ∙ ap (λ (b : Bool). to_others (state_of a) (cond {A = List Mail} b (own_vote (state_of a) (state_of (with_own_no_given us)) t js (why_not_own failed (state_of a) t)) [])) all
                  ∙ ap (λ (x : Option Why). to_others (state_of a) (own_vote (state_of a) (state_of (with_own_no_given us)) t js x)) not
                  ∙ others-each a (λ (k : JoinNo). msg.Abort t k own_cause) js of.2.0)) (IsPermutation-refl own_aborts);
              applied = tt;
            })
