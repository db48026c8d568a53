-- votes and ends that arrive at the server of a transaction
use Rattle.std.specs.Prelude.{cond, Bool, true, false, ◌&&◌, ◌||◌, ◌==◌, nat_lt, nat_le, Option, None, Some, if◌then◌else◌}
use Rattle.std.specs.List.Sorted.{IsPermutation}
use Rattle.std.proofs.lemmas.Bool.{and_parts, ltb-true}
use Rattle.std.proofs.lemmas.List.{append-nil}
use Rattle.std.proofs.lemmas.List.Sorted.{IsPermutation-refl}
use Rattle.std.proofs.Common.{inl, inr, ◌⊎◌, ◌≡◌, ℕ, ◌+◌, ◌<◌, ◌≤◌, List, [], ◌∷◌, ◌++◌, refl, sym, ◌∙◌, ap, subst, eq-eqb}
use Rattle.alp_base.specs.declared.ids.JoinNo.{JoinNo}
use Rattle.alp_base.specs.declared.ids.Stamp.{Stamp}
use Rattle.alp_base.specs.declared.ids.TransId.{TransId}
use Rattle.alp_files.proofs.FilesLemmas.{same-some}
use Rattle.alp_files.specs.declared.refusal.Why.{Why}
use Rattle.alp_files.specs.declared.refusal.Cause.{Cause}
use Rattle.alp_files.specs.declared.refusal.Cause.TheVariants as cause
use Rattle.alp_journal.specs.declared.act.Act.{Act}
use Rattle.alp_journal.specs.declared.act.Act.TheVariants as act
use Rattle.alp_journal.specs.declared.event.Event.{Event}
use Rattle.alp_journal.specs.declared.event.Event.TheVariants as event
use Rattle.alp_journal.specs.declared.message.Message.{Message}
use Rattle.alp_journal.specs.declared.message.Message.TheVariants as msg
use Rattle.alp_journal.specs.Ids.{same_trans, has_join, is_drawn}
use Rattle.alp_journal.specs.Deeds.{Deed, Acknowledges, Forgets, Ends, Releases}
use Rattle.alp_journal.specs.Coordinator.{Fate, Vote, Undrawn, Running, Finishing, Committed, Forgotten, Ended, client_of, is_running, has_votes, has_all, decision_in}
use Rattle.alp_journal.specs.Coordinator as fate
use Rattle.alp_journal.specs.Holder.{Life}
use Rattle.alp_journal.specs.State.{Ids, state_deed, is_trans_drawn, is_other_server}
use Rattle.alp_journal.specs.Moves.{refuses, acknowledges}
use Rattle.alp_journal.specs.Laws.{MaySay, MayAbort, HasDecision}
use Rattle.alp_journal.specs.Messages.{Mail, to_each, to_others, on_inquire, on_no, lost_or, commit_to}
use Rattle.alp_journal.specs.Answered.{is_all_done, IsWalk, in_turn}
use Rattle.alp_journal.specs.Account.{Account, state_of, IsFateOf, IsSettled, IsQuiet, IsFinishOf, HasNoCall, granted_calls, with_granted, grant_acts, sent_acts, Leads}
use Rattle.alp_journal.proofs.IdLemmas.{or-true}
use Rattle.alp_journal.proofs.StandLemmas.{undrawn_older, moved_fate, own_pair}
use Rattle.alp_journal.proofs.MoveLemmas.{stands_fated}
use Rattle.alp_journal.proofs.DeskLemmas.{tells_fated}
use Rattle.alp_journal.proofs.QuietLemmas.{none_tried}
use Rattle.alp_journal.proofs.CallLemmas.{AreAddressed, no_mail}
use Rattle.alp_journal.proofs.LetGoLemmas.{GoesOn}
use Rattle.alp_journal.proofs.ArrivalLemmas.{arrive_entry, arrive_leads, says_leads, leaves_leads}
use Rattle.alp_journal.proofs.OwnEnds.{aborts-said, aborts-addressed, part_ended, IsOwn, known_as, now_as, fate_ended, ends_goes}
use Rattle.alp_journal.proofs.RegisterSteps.{quiet_beside}
use Rattle.alp_journal.proofs.DecideSteps.{others-each}

-- ---- a part has applied a decision

module _ (a : Account) (from : ℕ) (t : TransId) (j : JoinNo) where
  -- it is none of a decision that stands
  pub done_passed_leads : IsQuiet a → a.is_down ≡ false → acknowledges t j (a.fates t) ≡ [] → Leads false a (arrive_entry a from (msg.Done t j) []) a
  done_passed_leads q up none = says_leads a from (msg.Done t j) false [] (record { quiet = q; up = up; brought = none; said = tt; mail = IsPermutation-refl []; addressed = refl; applied = tt })

  module _ (stamp : Stamp) (js ds : List JoinNo) where
    acknowledged_is : a.fates t ≡ Committed stamp js ds → has_join j js ≡ true → acknowledges t j (a.fates t) ≡ Acknowledges t j ∷ []
    acknowledged_is is its = ap (acknowledges t j) is ∙ ap (λ (b : Bool). cond {A = List Deed} b (Acknowledges t j ∷ []) []) its

    -- it is kept who has done it
    abbrev pub with_done : Account
    with_done = record a { fates = λ u. if same_trans t u then fate.acknowledged j (a.fates u) else a.fates u }

    -- a decision with joins is not to be forgotten while one of them has not done it
    pub undone : (ks es : List JoinNo) → has_join j ks ≡ true → is_all_done (Committed stamp ks es) ≡ has_all es ks
    undone [] es its = let wrong : false ≡ true = its in cc
    undone (k ∷ ks) es its = refl

    known : IsSettled a → a.fates t ≡ Committed stamp js ds → IsFateOf a.servers a.holder.server a.ids.epoch a.ids.transactions a.begun t (Committed stamp js ds)
    known q is = subst (IsFateOf a.servers a.holder.server a.ids.epoch a.ids.transactions a.begun t) is (q.stands.fates t)

    pub done_leads : IsQuiet a → a.is_down ≡ false → a.fates t ≡ Committed stamp js ds → has_join j js ≡ true → has_all (j ∷ ds) js ≡ false → Leads false a (arrive_entry a from (msg.Done t j) []) with_done
    done_leads q up is its more =
        let now : fate.acknowledged j (a.fates t) ≡ Committed stamp js (j ∷ ds) = ap (fate.acknowledged j) is in
        arrive_leads a from (msg.Done t j) false [] (Acknowledges t j ∷ []) with_done (record {
          up = refl;
          running = up;
          brought = ap (λ (xs : List Deed). xs ++ [] ++ []) (acknowledged_is is its);
          left = λ i. state_of (record with_done { begun = append-nil a.begun i; joined = append-nil a.joined i; is_down = sym up i; pending = sym (none_tried a q up) i });
          drawn = refl;
          deeds = (record { counts = tt; view = tt; locks = tt; running = tt; registration = tt; vote = tt; decision = tt; application = tt; forgetting = tt }, tt);
          released = refl;
          granted = refl;
          said = tt;
          regained = refl;
          quiet = quiet_beside a with_done refl refl (none_tried a q up) (record {
            stands = stands_fated a q.settled.stands t (fate.acknowledged j) (ap client_of now ∙ sym (ap client_of is)) (ap is_running now ∙ sym (ap is_running is)) (ap has_votes now) (ap is_all_done now ∙ undone js (j ∷ ds) its ∙ more)
                (subst (IsFateOf a.servers a.holder.server a.ids.epoch a.ids.transactions a.begun t) (sym now) (known q.settled is));
            tells = tells_fated a q.settled.tells t (fate.acknowledged j) (λ c. refl) (λ n h. subst (λ (f : Fate). IsFinishOf n f (a.dead n t)) (sym now) tt) (subst (HasNoCall a.waits t) (sym now) tt);
          }) q;
          mail = no_mail [] refl refl;
          applied = tt;
          turns = tt;
        })

    -- the last one: it is forgotten
    abbrev pub with_forgotten_at : Account
    with_forgotten_at = record a { fates = λ u. if same_trans t u then fate.forgotten (fate.acknowledged j (a.fates u)) else a.fates u }

    twice_moved : (b : Bool) (f : Fate) → cond {A = Fate} b (fate.forgotten (cond {A = Fate} b (fate.acknowledged j f) f)) (cond {A = Fate} b (fate.acknowledged j f) f) ≡ cond {A = Fate} b (fate.forgotten (fate.acknowledged j f)) f
    twice_moved true f = refl
    twice_moved false f = refl

    forgot_is : a.fates t ≡ Committed stamp js ds → has_all (j ∷ ds) js ≡ true → fate.forgotten (fate.acknowledged j (a.fates t)) ≡ Forgotten stamp js
    forgot_is is all = ap (λ (f : Fate). fate.forgotten (fate.acknowledged j f)) is ∙ ap (λ (b : Bool). cond {A = Fate} b (Forgotten stamp js) (Committed stamp js (j ∷ ds))) all

    pub forget_leads : IsQuiet a → a.is_down ≡ false → a.fates t ≡ Committed stamp js ds → has_join j js ≡ true → has_all (j ∷ ds) js ≡ true → Leads false a (arrive_entry a from (msg.Done t j) (act.Forgot t ∷ [])) with_forgotten_at
    forget_leads q up is its all =
        let now : fate.forgotten (fate.acknowledged j (a.fates t)) ≡ Forgotten stamp js = forgot_is is all in
        let mid : (state_deed (state_of a) (Acknowledges t j)).fates t ≡ Committed stamp js (j ∷ ds) = moved_fate a.fates t (fate.acknowledged j) ∙ ap (fate.acknowledged j) is in
        arrive_leads a from (msg.Done t j) false (act.Forgot t ∷ []) (Acknowledges t j ∷ Forgets t ∷ []) with_forgotten_at (record {
          up = refl;
          running = up;
          brought = ap (λ (xs : List Deed). xs ++ (Forgets t ∷ []) ++ []) (acknowledged_is is its);
          left = λ i. state_of (record with_forgotten_at {
            fates = λ u. twice_moved (same_trans t u) (a.fates u) i;
            begun = (append-nil (a.begun ++ []) ∙ append-nil a.begun) i;
            joined = (append-nil (a.joined ++ []) ∙ append-nil a.joined) i;
            is_down = sym up i;
            pending = sym (none_tried a q up) i;
          });
          drawn = refl;
          deeds = (
            record { counts = tt; view = tt; locks = tt; running = tt; registration = tt; vote = tt; decision = tt; application = tt; forgetting = tt },
            (
              record {
                counts = tt;
                view = tt;
                locks = tt;
                running = tt;
                registration = tt;
                vote = tt;
                decision = tt;
                application = tt;
                forgetting = record {
                  from = from;
                  join = j;
                  stamp = stamp;
                  joins = js;
                  before = ds;
                  told = refl;
                  committed = mid;
                  its = its;
                  missing = sym (undone js ds its) ∙ ap is_all_done (sym is) ∙ q.settled.stands.forgets t;
                  all = all;
                };
              },
              tt,
            ),
          );
          released = refl;
          granted = refl;
          said = (tt, tt);
          regained = refl;
          quiet = quiet_beside a with_forgotten_at refl refl (none_tried a q up) (record {
            stands = stands_fated a q.settled.stands t (λ f. fate.forgotten (fate.acknowledged j f)) (ap client_of now ∙ sym (ap client_of is)) (ap is_running now ∙ sym (ap is_running is)) (ap has_votes now) (ap is_all_done now)
                (subst (IsFateOf a.servers a.holder.server a.ids.epoch a.ids.transactions a.begun t) (sym now) (known q.settled is));
            tells = tells_fated a q.settled.tells t (λ f. fate.forgotten (fate.acknowledged j f)) (λ c. refl) (λ n h. subst (λ (f : Fate). IsFinishOf n f (a.dead n t)) (sym now) tt) (subst (HasNoCall a.waits t) (sym now) tt);
          }) q;
          mail = no_mail (act.Forgot t ∷ []) refl refl;
          applied = tt;
          turns = tt;
        })

-- ---- how a transaction ended

module _ (a : Account) (from : ℕ) (t : TransId) (j : JoinNo) where
  -- nothing is known of it, or nothing that is for another server
  pub inquire_silent_leads : IsQuiet a → a.is_down ≡ false → to_others (state_of a) (cond {A = List Mail} (is_trans_drawn (state_of a) t) (on_inquire (state_of a) t j (a.fates t)) []) ≡ [] → Leads false a (arrive_entry a from (msg.Inquire t j) []) a
  inquire_silent_leads q up none = says_leads a from (msg.Inquire t j) false [] (record { quiet = q; up = up; brought = refl; said = tt; mail = subst (λ (ms : List Mail). IsPermutation ms []) (sym none) (IsPermutation-refl []); addressed = refl; applied = tt })

  abbrev first_of : Message → List Mail → Message
  first_of x [] = x
  first_of x (y ∷ ys) = y.1

  same_mail : (x y : Message) → ◌≡◌ {A = List Mail} ((j.server, x) ∷ []) ((j.server, y) ∷ []) → x ≡ y
  same_mail x y e = ap (first_of x) e

  -- what is said is so, and to the join
  pub record IsWord (m : Message) : Type 0 where
    pub may : MaySay (event.Arrive from (msg.Inquire t j)) (state_of a) m
    pub addressed : AreAddressed ((j.server, m) ∷ [])

  to_it : AreAddressed ((j.server, msg.Abort t j cause.Asked) ∷ [])
  to_it = ap (λ (b : Bool). b && true) (eq-eqb j.server j.server refl)

  its_word : is_trans_drawn (state_of a) t ≡ true → (a.fates t ≡ Undrawn → t.epoch < a.ids.epoch) → ((t.epoch == a.ids.epoch) ≡ false → t.epoch < a.ids.epoch) → (f : Fate) → a.fates t ≡ f → (m : Message) → on_inquire (state_of a) t j f ≡ (j.server, m) ∷ [] → IsWord m
  its_word drawn past older f e m is = by f e is
    where
      lost : (f : Fate) → a.fates t ≡ f → (t.epoch < a.ids.epoch → MayAbort (state_of a) t (cause.Lost a.ids.epoch) f) → t.epoch < a.ids.epoch → ◌≡◌ {A = List Mail} ((j.server, msg.Abort t j (cause.Lost a.ids.epoch)) ∷ []) ((j.server, m) ∷ []) → IsWord m
      lost f e may before is = subst IsWord (same_mail (msg.Abort t j (cause.Lost a.ids.epoch)) m is) (record { may = (drawn, subst (MayAbort (state_of a) t (cause.Lost a.ids.epoch)) (sym e) (may before)); addressed = to_it })

      none : ◌≡◌ {A = List Mail} [] ((j.server, m) ∷ []) → IsWord m
      none is = absurd (let wrong : ◌≡◌ {A = List Mail} [] ((j.server, m) ∷ []) = is in cc)

      commit : (f : Fate) → a.fates t ≡ f → (stamp : Stamp) (js : List JoinNo) → decision_in f ≡ Some (stamp, js) → (b : Bool) → has_join j js ≡ b → cond {A = List Mail} b ((j.server, msg.Commit t j stamp) ∷ []) [] ≡ (j.server, m) ∷ [] → IsWord m
      commit f e stamp js has false g is = none is
      commit f e stamp js has true g is = subst IsWord (same_mail (msg.Commit t j stamp) m is)
          (record { may = subst (λ (x : Option (Stamp × List JoinNo)). HasDecision stamp j x) (sym (ap decision_in e ∙ has)) (refl, g); addressed = to_it })

      by : (f : Fate) → a.fates t ≡ f → on_inquire (state_of a) t j f ≡ (j.server, m) ∷ [] → IsWord m
      by Undrawn e is = lost Undrawn e (λ b. (b, refl)) (past e) is
      by (Running c js) e is = none is
      by (Finishing c js vs) e is = none is
      by (Committed stamp [] ds) e is = go (t.epoch == a.ids.epoch) refl is
        where
          go : (b : Bool) → (t.epoch == a.ids.epoch) ≡ b → cond {A = List Mail} b [] ((j.server, msg.Abort t j (cause.Lost a.ids.epoch)) ∷ []) ≡ (j.server, m) ∷ [] → IsWord m
          go true g is = none is
          go false g is = lost (Committed stamp [] ds) e (λ b. (b, refl)) (older g) is
      by (Committed stamp (k ∷ js) ds) e is = commit (Committed stamp (k ∷ js) ds) e stamp (k ∷ js) refl (has_join j (k ∷ js)) refl is
      by (Forgotten stamp js) e is = go (t.epoch == a.ids.epoch) refl is
        where
          go : (b : Bool) → (t.epoch == a.ids.epoch) ≡ b → cond {A = List Mail} b (commit_to t j stamp js) ((j.server, msg.Abort t j (cause.Lost a.ids.epoch)) ∷ []) ≡ (j.server, m) ∷ [] → IsWord m
          go true g is = commit (Forgotten stamp js) e stamp js refl (has_join j js) refl is
          go false g is = lost (Forgotten stamp js) e (λ b. (b, refl)) (older g) is
      by (Ended c) e is = subst IsWord (same_mail (msg.Abort t j (lost_or (state_of a) t c)) m is) (record { may = (drawn, subst (MayAbort (state_of a) t (lost_or (state_of a) t c)) (sym e) refl); addressed = to_it })

  -- what was drawn here in no other epoch than an older one
  older_then : is_trans_drawn (state_of a) t ≡ true → (t.epoch == a.ids.epoch) ≡ false → t.epoch < a.ids.epoch
  older_then drawn other =
      let whole = and_parts (t.server == a.holder.server && nat_lt 0 t.epoch && nat_lt 0 t.counter) (nat_lt t.epoch a.ids.epoch || (t.epoch == a.ids.epoch && nat_le t.counter a.ids.transactions)) drawn in
      elim (or-true (nat_lt t.epoch a.ids.epoch) (t.epoch == a.ids.epoch && nat_le t.counter a.ids.transactions) whole.1) [
        | inl older ↦ ltb-true t.epoch a.ids.epoch older
        | inr same ↦ absurd (let wrong : true ≡ false = sym (and_parts (t.epoch == a.ids.epoch) (nat_le t.counter a.ids.transactions) same).0 ∙ other in cc)
      ]

  -- it is told, where it ended
  pub inquire_leads : (m : Message) → IsQuiet a → a.is_down ≡ false → is_trans_drawn (state_of a) t ≡ true → is_other_server (state_of a) j.server ≡ true
      → on_inquire (state_of a) t j (a.fates t) ≡ (j.server, m) ∷ [] → Leads false a (arrive_entry a from (msg.Inquire t j) (act.Sent j.server m ∷ [])) a
  inquire_leads m q up drawn far is =
      let past : a.fates t ≡ Undrawn → t.epoch < a.ids.epoch = λ new. undrawn_older a.servers a.holder.server a.ids.epoch a.ids.transactions a.begun t (a.fates t) q.settled.stands.known drawn new (q.settled.stands.fates t) in
      let word : IsWord m = its_word drawn past (older_then drawn) (a.fates t) refl m is in
      says_leads a from (msg.Inquire t j) false ((j.server, m) ∷ []) (record {
        quiet = q;
        up = up;
        brought = refl;
        said = (word.may, tt);
        mail = subst (λ (ms : List Mail). IsPermutation ms ((j.server, m) ∷ []))
            (sym (ap (λ (b : Bool). to_others (state_of a) (cond {A = List Mail} b (on_inquire (state_of a) t j (a.fates t)) [])) drawn ∙ ap (to_others (state_of a)) is ∙ ap (λ (b : Bool). cond {A = List Mail} b ((j.server, m) ∷ []) []) far)) (IsPermutation-refl ((j.server, m) ∷ []));
        addressed = word.addressed;
        applied = tt;
      })

-- ---- a part votes against a commit

module _ (a : Account) (from : ℕ) (t : TransId) (j : JoinNo) (w : Why) where
  -- it is none of a transaction that is finishing
  pub no_passed_leads : IsQuiet a → a.is_down ≡ false → refuses t j (cause.Voted j.server w) (a.fates t) ≡ [] → on_no t j w (a.fates t) ≡ [] → Leads false a (arrive_entry a from (msg.No t j w) []) a
  no_passed_leads q up none silent = says_leads a from (msg.No t j w) false []
      (record { quiet = q; up = up; brought = none; said = tt; mail = subst (λ (ms : List Mail). IsPermutation (to_others (state_of a) ms) []) (sym silent) (IsPermutation-refl []); addressed = refl; applied = tt })

  module _ (client : ℕ) (js : List JoinNo) (vs : List Vote) (l : Life) where
    abbrev against : Cause
    against = cause.Voted j.server w

    -- the transaction ends, and its client is to be told
    abbrev pub with_no : Account
    with_no = record (part_ended a client t l (cause.Voted j.server w)) { is_down = false; pending = [] }

    -- and what it held is given on
    abbrev pub with_no_given : List TransId → Account
    with_no_given ts = with_granted with_no (granted_calls a.waits ts)

    -- the parts of other servers are told
    abbrev pub no_aborts : List Mail
    no_aborts = to_each (λ (k : JoinNo). msg.Abort t k (cause.Voted j.server w)) js

    pub no_leads : IsQuiet a → a.is_down ≡ false → a.fates t ≡ Finishing client js vs → has_join j js ≡ true → a.holder.lives t ≡ Some l → l.join ≡ None
        → (ts : List TransId) → IsWalk with_no.holder (in_turn with_no.holder a.waits) ts → Leads false a (arrive_entry a from (msg.No t j w) ((act.Released t ∷ grant_acts ts) ++ sent_acts no_aborts)) (with_no_given ts)
    no_leads q up is its live part ts walk =
        let ev : Event = event.Arrive from (msg.No t j w) in
        let ended : Account = part_ended a client t l against in
        let own : IsOwn a client t l against = record { settled = q.settled; live = live; part = part; its = its_client q is live part } in
        let front : List Act = act.Released t ∷ [] in
        let back : List Deed = Ends t client against ∷ Releases t ∷ [] in
        let goes : GoesOn a ended ev front back ts = ends_goes a client t l against ev (λ u n. refl) own (none_tried a q up) ts walk in
        leaves_leads a from (msg.No t j w) false ended (with_no_given ts) front back ts no_aborts (record {
          goes = goes;
          running = up;
          brings = ap (λ (f : Fate). refuses t j against f ++ Releases t ∷ []) is ∙ ap (λ (b : Bool). cond {A = List Deed} b (Ends t client against ∷ []) [] ++ Releases t ∷ []) its;
          drawn = refl;
          left = refl;
          says = λ y g. aborts-said ev y t against js ((λ i. is_drawn (g.server i) (g.ids i).epoch (g.ids i).transactions t.server t.epoch t.counter) ∙ (known_as a client t l against own).0)
              (ap (λ (f : TransId → Fate). f t) g.fates ∙ fate_ended a client t l against own) (now_as a client t l against own ∙ ap (λ (i : Ids). i.epoch) (sym g.ids));
          addressed = aborts-addressed t against js;
          mail = subst (λ (ms : List Mail). IsPermutation ms no_aborts)
              (sym (ap (λ (f : Fate). to_others (state_of a) (on_no t j w f)) is ∙ ap (λ (b : Bool). to_others (state_of a) (cond {A = List Mail} b no_aborts [])) its ∙ others-each a (λ (k : JoinNo). msg.Abort t k against) js (subst (IsFateOf a.servers a.holder.server a.ids.epoch a.ids.transactions a.begun t) is (q.settled.stands.fates t)).2.0)) (IsPermutation-refl no_aborts);
          applied = tt;
        })
      where
        its_client : IsQuiet a → a.fates t ≡ Finishing client js vs → a.holder.lives t ≡ Some l → l.join ≡ None → l.client ≡ client
        its_client q is live part = same-some l.client client (sym (own_pair a q.settled.stands t l live part).0 ∙ ap client_of is)
