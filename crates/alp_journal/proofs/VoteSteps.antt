-- votes for a commit: that of a part, the last one at its server, and the part that is applied then
use Rattle.std.specs.Prelude.{cond, Bool, true, false, ◌&&◌, ◌||◌, ◌==◌, max, is_some, is_none, Option, None, Some, IsSome, if◌then◌else◌}
use Rattle.std.specs.List.{AllByRecursion}
use Rattle.std.specs.List.Sorted.{IsPermutation}
use Rattle.std.specs.FinMap.Entries.{put}
use Rattle.std.proofs.lemmas.List.{append-nil}
use Rattle.std.proofs.lemmas.List.Sorted.{IsPermutation-refl}
use Rattle.std.proofs.Common.{inl, inr, ◌≡◌, ℕ, ◌+◌, ◌≤◌, List, [], ◌∷◌, ◌++◌, refl, sym, ◌∙◌, ap, subst, eq-eqb, le_refl}
use Rattle.alp_base.specs.declared.ids.JoinNo.{JoinNo}
use Rattle.alp_base.specs.declared.ids.Stamp.{Stamp}
use Rattle.alp_base.specs.declared.ids.TransId.{TransId}
use Rattle.alp_files.specs.Edits.{Edit, edits_map}
use Rattle.alp_files.specs.Locks.{IsMore}
use Rattle.alp_files.proofs.FilesLemmas.{same-some}
use Rattle.alp_files.specs.declared.refusal.Why.{Why}
use Rattle.alp_files.specs.declared.refusal.Why.TheVariants as why
use Rattle.alp_files.specs.declared.refusal.Cause.TheVariants as cause
use Rattle.alp_journal.specs.declared.act.Act.{Act}
use Rattle.alp_journal.specs.declared.act.Act.TheVariants as act
use Rattle.alp_journal.specs.declared.event.Event.{Event}
use Rattle.alp_journal.specs.declared.event.Event.TheVariants as event
use Rattle.alp_journal.specs.declared.message.Message.TheVariants as msg
use Rattle.alp_journal.specs.Ids.{same_trans, same_join, stamp_cmp, is_drawn}
use Rattle.alp_journal.specs.Deeds.{Deed, Readies, Applies, Releases}
use Rattle.alp_journal.specs.Coordinator.{is_running, voted}
use Rattle.alp_journal.specs.Participant.{Phase, Active, Ready, Applied, live_in, open_in}
use Rattle.alp_journal.specs.Participant as phase
use Rattle.alp_journal.specs.Holder.{Life, with_life, readies, emptied, commits, in_history}
use Rattle.alp_journal.specs.Desk.{Waiting, is_of_part, waiting_of}
use Rattle.alp_journal.specs.Counts.{lock_set, ready_sum}
use Rattle.alp_journal.specs.State.{State, state_deed, is_join_drawn, is_other_server, is_whose}
use Rattle.alp_journal.specs.Moves.{if_its, quits_for}
use Rattle.alp_journal.specs.Laws.{IsHolding}
use Rattle.alp_journal.specs.Messages.{Mail, to_others, on_ask, unknown_join, vote_on, on_commit, clock_end, first_why, no_room, weights, greatest, all_ready, why_not}
use Rattle.alp_journal.specs.Answered.{IsWalk, in_turn}
use Rattle.alp_journal.specs.Account.{Account, state_of, IsPhaseOf, Stands, Tells, IsSettled, IsQuiet, HasTried, HasWaits, is_on_trans, granted_calls, with_granted, grant_acts, sent_acts, Leads}
use Rattle.alp_journal.proofs.IdLemmas.{same_trans-itself, same_join-true}
use Rattle.alp_journal.proofs.WaitLemmas.{none-found, found-none}
use Rattle.alp_journal.proofs.TurnLemmas.{turns-set}
use Rattle.alp_journal.proofs.StandLemmas.{moved_phase, life_of, pair_of, join_part_is}
use Rattle.alp_journal.proofs.PartLemmas.{IsAtWork, active_at_work}
use Rattle.alp_journal.proofs.MoveLemmas.{IsSpent, spent_applied, stands_gone, stands_voted}
use Rattle.alp_journal.proofs.DeskLemmas.{tells_voted}
use Rattle.alp_journal.proofs.QuietLemmas.{none_tried, parts-kept, parts-gone, none-on, has_ended, others-on}
use Rattle.alp_journal.proofs.CallLemmas.{IsMail, mail_behind}
use Rattle.alp_journal.proofs.LetGoLemmas.{GoesOn}
use Rattle.alp_journal.proofs.ArrivalLemmas.{arrive_entry, arrive_leads, says_leads, leaves_leads}
use Rattle.alp_journal.proofs.OwnEnds.{lived_on}
use Rattle.alp_journal.proofs.JoinEnds.{IsEnding, fewer_ended, waits_then, unheld_then}

-- ---- who votes for a commit

-- no call of its part waits
idle_by : (failed waits is_end : Bool) (full : Option Why) → first_why failed waits is_end full ≡ None → waits ≡ false
idle_by failed true is_end full is = let wrong : Some why.Waiting ≡ None = is in cc
idle_by failed false is_end full is = refl

none_of : {A : Type 0} (x : Option A) → is_some x ≡ false → x ≡ None
none_of None e = refl
none_of (Some y) e = let wrong : true ≡ false = e in cc

module _ (a : Account) (from : ℕ) (t : TransId) (j : JoinNo) (client : ℕ) (who : List ℕ) (l : Life) where
  abbrev ready_mail : List Mail
  ready_mail = (t.server, msg.Ready t j (a.holder.clock + 1)) ∷ []

  abbrev voter : Life
  voter = record l { vote = Some (a.holder.clock + 1) }

  -- the part has voted for the time after the clock
  abbrev pub with_ready : Account
  with_ready = record a {
    holder = with_life a.holder t (Some (record l { vote = Some (a.holder.clock + 1) }));
    phases = λ k. if same_join j k then phase.readied (a.holder.clock + 1) (a.phases k) else a.phases k;
  }

  pub idle : why_not false (state_of a) client t ≡ None → waiting_of (state_of a).desk client t ≡ None
  idle may = none_of (waiting_of (state_of a).desk client t) (idle_by false (is_some (waiting_of (state_of a).desk client t)) (a.holder.clock == clock_end)
      (no_room a.sizes.area (ready_sum (weights (state_of a) (all_ready (state_of a))) (greatest (state_of a) (all_ready (state_of a)))) (ready_sum (weights (state_of a) (t ∷ all_ready (state_of a))) (greatest (state_of a) (t ∷ all_ready (state_of a))))) may)

  pub ask_votes_leads : IsQuiet a → a.is_down ≡ false → a.phases j ≡ Active t client who → a.holder.lives t ≡ Some l → l.client ≡ client → why_not false (state_of a) client t ≡ None
      → Leads false a (arrive_entry a from (msg.Ask t j) (act.Readied t j (a.holder.clock + 1) ∷ sent_acts ready_mail)) with_ready
  ask_votes_leads q up active live own may =
      let ts : ℕ = a.holder.clock + 1 in
      let acts : List Act = act.Readied t j ts ∷ sent_acts ready_mail in
      let far : is_other_server (state_of a) t.server ≡ true = (subst (IsPhaseOf a.servers a.holder.server a.ids.epoch a.ids.joins a.joined j) active (q.settled.stands.phases j)).1 in
      let works : IsAtWork a t l = active_at_work a q.settled.stands t l live j client who active in
      let now : phase.readied ts (a.phases j) ≡ Ready t client ts = ap (phase.readied ts) active in
      let off : AllByRecursion (λ w. is_of_part client t w ≡ false) a.waits = none-found (is_of_part client t) a.waits (idle may) in
      let moved : Tells (record a { phases = with_ready.phases }) = tells_voted a q.settled.tells j (phase.readied ts) t client (ap live_in now ∙ sym (ap live_in active)) (ap open_in active) off (subst (HasWaits a.waits) (sym now) off) in
      let stood : Stands (record a { holder = with_ready.holder; phases = with_ready.phases }) = stands_voted a q.settled.stands j t client who ts l active live in
      arrive_leads a from (msg.Ask t j) false acts (Readies j t ts ∷ []) with_ready (record {
        up = refl;
        running = up;
        brought = ap (λ (p : Phase). if_its t (open_in p) (λ n. quits_for j t n None) ++ (Readies j t ts ∷ []) ++ []) active ∙ none_quits (same_trans t t);
        left = λ i. state_of (record with_ready { holder = readies a.holder t ts (live i); begun = append-nil a.begun i; joined = append-nil a.joined i; is_down = sym up i; pending = sym (none_tried a q up) i });
        drawn = refl;
        deeds = (
          record {
            counts = tt;
            view = tt;
            locks = tt;
            running = tt;
            registration = tt;
            vote = record { from = from; client = client; who = who; asked = refl; active = active; idle = idle may; time = refl; live = (l, live, works.vote) };
            decision = tt;
            application = tt;
            forgetting = tt;
          },
          tt,
        );
        released = refl;
        granted = refl;
        said = (tt, ((client, moved_phase a.phases j (phase.readied ts) ∙ now), tt));
        regained = refl;
        quiet = record {
          settled = record {
            stands = stood;
            tells = record {
              ended = moved.ended;
              parts = parts-kept a.holder.lives a.dead t l voter live refl a.waits moved.parts;
              others = moved.others;
              came = moved.came;
              apart = moved.apart;
              joining = moved.joining;
              finishing = moved.finishing;
            };
          };
          turns = turns-set (state_of a) (state_of with_ready) t voter refl (λ u. refl) (λ k at. subst (λ (y : Life). IsMore y.held l.held) (same-some l k (sym live ∙ at)) (λ r m i. i)) a.waits
              (none-on a.holder.lives a.dead client t l live own a.waits q.settled.tells.parts (idle may)) q.turns;
          tried = HasTried.nothing (none_tried a q up);
        };
        mail = subst (λ (ms : List Mail). IsMail ms acts)
            (sym (ap (λ (p : Phase). to_others (state_of a) (on_ask false (state_of a) t j p)) active
            ∙ ap (λ (b : Bool). to_others (state_of a) (cond {A = List Mail} b ((t.server, vote_on (state_of a) t j client (why_not false (state_of a) client t)) ∷ []) (unknown_join (state_of a) t j))) (same_trans-itself t)
            ∙ ap (λ (x : Option Why). to_others (state_of a) ((t.server, vote_on (state_of a) t j client x) ∷ [])) may ∙ ap (λ (b : Bool). cond {A = List Mail} b ready_mail []) far))
            (mail_behind ready_mail (act.Readied t j ts ∷ []) ready_mail refl (ap (λ (b : Bool). b && true) (eq-eqb t.server t.server refl)) (IsPermutation-refl ready_mail));
        applied = tt;
        turns = tt;
      })
    where
      none_quits : (b : Bool) → cond {A = List Deed} b [] [] ++ (Readies j t (a.holder.clock + 1) ∷ []) ++ [] ≡ Readies j t (a.holder.clock + 1) ∷ []
      none_quits true = refl
      none_quits false = refl

-- ---- a part is told to commit

module _ (a : Account) (from : ℕ) (t : TransId) (j : JoinNo) where
  abbrev done_mail : List Mail
  done_mail = (t.server, msg.Done t j) ∷ []

  -- it is not live any more: it is done
  pub commit_done_leads : (stamp : Stamp) → IsQuiet a → a.is_down ≡ false → is_join_drawn (state_of a) j ≡ true → live_in (a.phases j) ≡ None → is_other_server (state_of a) t.server ≡ true
      → Leads false a (arrive_entry a from (msg.Commit t j stamp) (sent_acts done_mail)) a
  commit_done_leads stamp q up drawn over far = says_leads a from (msg.Commit t j stamp) false done_mail (record {
    quiet = q;
    up = up;
    brought = refl;
    said = ((from, stamp, refl, drawn, over), tt);
    mail = subst (λ (ms : List Mail). IsPermutation ms done_mail)
        (sym ((λ i. to_others (state_of a) (cond {A = List Mail} (drawn i && is_none (over i)) done_mail [])) ∙ ap (λ (b : Bool). cond {A = List Mail} b done_mail []) far)) (IsPermutation-refl done_mail);
    addressed = ap (λ (b : Bool). b && true) (eq-eqb t.server t.server refl);
    applied = λ client ts of ready. (let wrong : None ≡ Some (t, client) = sym over ∙ ap live_in ready in cc);
  })

  -- nothing is to be said, and no part of it is ready for that stamp
  pub commit_passed_leads : (stamp : Stamp) → IsQuiet a → a.is_down ≡ false → to_others (state_of a) (on_commit (state_of a) (state_of a) t j) ≡ [] → ((client ts : ℕ) → stamp.trans ≡ t → a.phases j ≡ Ready t client ts → ⊥)
      → Leads false a (arrive_entry a from (msg.Commit t j stamp) []) a
  commit_passed_leads stamp q up silent none = says_leads a from (msg.Commit t j stamp) false [] (record {
    quiet = q;
    up = up;
    brought = refl;
    said = tt;
    mail = subst (λ (ms : List Mail). IsPermutation ms []) (sym silent) (IsPermutation-refl []);
    addressed = refl;
    applied = λ client ts of ready. absurd (none client ts of ready);
  })

  module _ (client ts time : ℕ) (l : Life) where
    abbrev pub apply_stamp : Stamp
    apply_stamp = record { ts = time; trans = t }

    -- its intents are cells, it takes its place among the transactions, and is gone
    abbrev pub with_apply : Account
    with_apply = record a {
      holder = with_life (record a.holder {
        cells = edits_map l.edits a.holder.cells;
        clock = max a.holder.clock time;
        kept = max a.holder.clock time;
        applied = in_history apply_stamp l a.holder.applied;
        left = if l.is_early then a.holder.left else put stamp_cmp apply_stamp l.edits a.holder.left;
      }) t None;
      phases = λ k. if same_join j k then phase.applied apply_stamp (a.phases k) else a.phases k;
      locked = lock_set a.locked t [];
      is_down = false;
      pending = [];
    }

    abbrev pub with_apply_given : List TransId → Account
    with_apply_given ts = with_granted with_apply (granted_calls a.waits ts)

    abbrev applying : Account
    applying = record a { holder = with_apply.holder; phases = with_apply.phases; locked = with_apply.locked }

    is_applied : a.phases j ≡ Ready t client ts → phase.applied apply_stamp (a.phases j) ≡ Applied t apply_stamp
    is_applied ready = ap (phase.applied apply_stamp) ready ∙ ap (λ (b : Bool). cond {A = Phase} b (Applied t apply_stamp) (Ready t client ts)) (same_trans-itself t)

    applies : IsSettled a → a.phases j ≡ Ready t client ts → IsEnding a j t client (phase.applied apply_stamp)
    applies q ready = record {
      settled = q;
      its = ap live_in ready;
      spent = subst IsSpent (sym (is_applied ready)) (spent_applied t apply_stamp);
      of = subst (IsPhaseOf a.servers a.holder.server a.ids.epoch a.ids.joins a.joined j) (sym (is_applied ready)) ((subst (IsPhaseOf a.servers a.holder.server a.ids.epoch a.ids.joins a.joined j) ready (q.stands.phases j)).0);
      waits = λ ws. subst (HasWaits ws) (sym (is_applied ready)) tt;
    }

    holds : a.phases j ≡ Ready t client ts → IsHolding t (a.phases j)
    holds ready = subst (IsHolding t) (sym ready) refl

    -- what is known of the part
    pub record IsVoted : Type 0 where
      pub vote : l.vote ≡ Some ts
      pub its : l.client ≡ client

    pub voted_as : IsSettled a → a.phases j ≡ Ready t client ts → a.holder.lives t ≡ Some l → IsVoted
    voted_as q ready live =
        let (m, there, of) = life_of a q.stands t j (holds ready) in
        let mine : l.join ≡ Some j = ap (λ (x : Life). x.join) (same-some l m (sym live ∙ there)) ∙ of in
        elim (join_part_is t a.phases l (a.fates t) j mine (pair_of a q.stands t l live)).0 [
          | inl x ↦ absurd (let wrong : Ready t client ts ≡ Active t l.client l.who = sym ready ∙ x.0 in cc)
          | inr x ↦ as_it (x.0) (sym ready ∙ x.1) x.2
        ]
      where
        as_it : (n : ℕ) → Ready t client ts ≡ Ready t l.client n → l.vote ≡ Some n → IsVoted
        as_it n same voted = record { vote = voted ∙ ap Some (ts_of n same); its = client_as n same }
          where
            ts_of : (n : ℕ) → Ready t client ts ≡ Ready t l.client n → n ≡ ts
            ts_of n e = cc

            client_as : (n : ℕ) → Ready t client ts ≡ Ready t l.client n → l.client ≡ client
            client_as n e = cc

    off_files : IsSettled a → a.phases j ≡ Ready t client ts → a.holder.lives t ≡ Some l → AllByRecursion (λ w. is_on_trans t w ≡ false) a.waits
    off_files q ready live = none-on a.holder.lives a.dead client t l live (IsVoted.its (voted_as q ready live)) a.waits q.tells.parts (found-none (is_of_part client t) a.waits (subst (HasWaits a.waits) ready (q.tells.joining j)))

    apply_settled : IsSettled a → a.phases j ≡ Ready t client ts → a.holder.lives t ≡ Some l → IsSettled applying
    apply_settled q ready live =
        let o : IsEnding a j t client (phase.applied apply_stamp) = applies q ready in
        let s : Stands (record a { holder = with_apply.holder; phases = with_apply.phases }) =
        stands_gone a q.stands t (edits_map l.edits a.holder.cells) (max a.holder.clock time) (max a.holder.clock time) (in_history apply_stamp l a.holder.applied) (cond {A = List (Stamp × List Edit)} l.is_early a.holder.left (put stamp_cmp apply_stamp l.edits a.holder.left))
        (le_refl (max a.holder.clock time)) j (holds ready) (phase.applied apply_stamp) o.spent o.of in
        record {
          stands = record { agree = s.agree; paired = s.paired; held = s.held; votes = s.votes; forgets = s.forgets; fates = s.fates; begun = s.begun; known = s.known; phases = s.phases; joined = s.joined; single = s.single; order = s.order };
          tells = record {
            ended = fewer_ended a j t client (phase.applied apply_stamp) o;
            parts = parts-gone a.holder.lives a.dead t None a.waits (off_files q ready live) q.tells.parts;
            others = others-on a.fates a.fates a.phases with_apply.phases a.dead a.dead (λ n u h. elim h [ inl x ↦ inl (x.0, still n u x.0 x.1 (same_join j x.0) refl) | inr d ↦ inr d ]) (λ n u h. h) a.waits q.tells.others;
            came = q.tells.came;
            apart = q.tells.apart;
            joining = waits_then a j t client (phase.applied apply_stamp) o;
            finishing = q.tells.finishing;
          };
        }
      where
        still : (n : ℕ) (u : TransId) (k : JoinNo) → is_whose n u (open_in (a.phases k)) ≡ true → (b : Bool) → same_join j k ≡ b → is_whose n u (open_in (with_apply.phases k)) ≡ true
        still n u k h false e = ap (λ (b : Bool). is_whose n u (open_in (cond {A = Phase} b (phase.applied apply_stamp (a.phases k)) (a.phases k)))) e ∙ h
        still n u k h true e =
            let wrong : false ≡ true = ap (λ (p : Phase). is_whose n u (open_in p)) (sym ready) ∙ ap (λ (i : JoinNo). is_whose n u (open_in (a.phases i))) (same_join-true j k e) ∙ h in
            cc

    begun_two : a.begun ++ [] ++ [] ≡ a.begun
    begun_two = append-nil (a.begun ++ []) ∙ append-nil a.begun

    joined_two : a.joined ++ [] ++ [] ≡ a.joined
    joined_two = append-nil (a.joined ++ []) ∙ append-nil a.joined

    twice_gone : (b : Bool) (x y : Option Life) → cond {A = Option Life} b None (cond {A = Option Life} b x y) ≡ cond {A = Option Life} b None y
    twice_gone true x y = refl
    twice_gone false x y = refl

    emptied_then : a.holder.lives t ≡ Some l → with_life (commits a.holder apply_stamp (a.holder.lives t)) t None ≡ with_apply.holder
    emptied_then live = ap (λ (x : Option Life). with_life (commits a.holder apply_stamp x) t None) live
        ∙ (λ i. record with_apply.holder { lives = λ u. twice_gone (same_trans u t) (Some (emptied l)) (a.holder.lives u) i })

    pub apply_leads : IsQuiet a → a.is_down ≡ false → a.phases j ≡ Ready t client ts → a.holder.lives t ≡ Some l → (us : List TransId) → IsWalk with_apply.holder (in_turn with_apply.holder a.waits) us
        → Leads false a (arrive_entry a from (msg.Commit t j apply_stamp) (((act.Applied j apply_stamp ∷ act.Released t ∷ []) ++ grant_acts us) ++ sent_acts done_mail)) (with_apply_given us)
    apply_leads q up ready live us walk =
        let ev : Event = event.Arrive from (msg.Commit t j apply_stamp) in
        let front : List Act = act.Applied j apply_stamp ∷ act.Released t ∷ [] in
        let back : List Deed = Applies j apply_stamp ∷ Releases t ∷ [] in
        let known : IsPhaseOf a.servers a.holder.server a.ids.epoch a.ids.joins a.joined j (Ready t client ts) = subst (IsPhaseOf a.servers a.holder.server a.ids.epoch a.ids.joins a.joined j) ready (q.settled.stands.phases j) in
        let far : is_other_server (state_of a) t.server ≡ true = known.1 in
        let drawn : is_join_drawn (state_of a) j ≡ true = known.0.0 in
        let now : applying.phases j ≡ Applied t apply_stamp = moved_phase a.phases j (phase.applied apply_stamp) ∙ is_applied ready in
        let mid : State = state_deed (state_of a) (Applies j apply_stamp) in
        let goes : GoesOn a applying ev front back us = record {
          before = q.settled;
          none_tried = none_tried a q up;
          settled = apply_settled q.settled ready live;
          was = lived_on a.holder t;
          waits = refl;
          walk = walk;
          no_call = λ u n. refl;
          reached = λ i. state_of (record applying { holder = emptied_then live i; begun = begun_two i; joined = joined_two i });
          deeds = (
            record {
              counts = tt;
              view = tt;
              locks = tt;
              running = tt;
              registration = tt;
              vote = tt;
              decision = tt;
              application = record { from = from; client = client; ts = ts; told = refl; ready = ready; elsewhere = far; live = (l, live, IsVoted.vote (voted_as q.settled ready live)) };
              forgetting = tt;
            },
            (
              record {
                counts = tt;
                view = tt;
                locks = (
                  subst (λ (x : Option Life). IsSome ((commits a.holder apply_stamp x).lives t)) (sym live) (subst (λ (b : Bool). IsSome (cond {A = Option Life} b (Some (emptied l)) (a.holder.lives t))) (sym (same_trans-itself t)) refl),
                  has_ended t mid (a.fates t) refl (over q live) (unheld_then a j t client (phase.applied apply_stamp) cause.Asked l (Applies j apply_stamp) a.holder (applies q.settled ready) (holds ready)),
                );
                running = tt;
                registration = tt;
                vote = tt;
                decision = tt;
                application = tt;
                forgetting = tt;
              },
              tt,
            ),
          );
          stops = refl;
          release = λ rest. refl;
          first = λ rest. refl;
          released = refl;
          none_granted = (refl, refl);
          said = λ x. (tt, (tt, tt));
          regained = refl;
          sent = refl;
        } in
        leaves_leads a from (msg.Commit t j apply_stamp) false applying (with_apply_given us) front back us done_mail (record {
          goes = goes;
          running = up;
          brings = refl;
          drawn = refl;
          left = refl;
          says = λ y g. ((from, apply_stamp, refl, (λ i. is_drawn (g.server i) (g.ids i).epoch (g.ids i).joins j.server j.epoch j.counter) ∙ drawn, ap (λ (f : JoinNo → Phase). live_in (f j)) g.phases ∙ ap live_in now), tt);
          addressed = ap (λ (b : Bool). b && true) (eq-eqb t.server t.server refl);
          mail = subst (λ (ms : List Mail). IsPermutation ms done_mail)
              (sym ((λ i. to_others (state_of a) (cond {A = List Mail} (drawn i && is_none (live_in (now i))) done_mail [])) ∙ ap (λ (b : Bool). cond {A = List Mail} b done_mail []) far)) (IsPermutation-refl done_mail);
          applied = λ n m of at. now;
        })
      where
        over : IsQuiet a → a.holder.lives t ≡ Some l → is_running (a.fates t) ≡ false
        over q live =
            let (m, there, of) = life_of a q.settled.stands t j (holds_of q) in
            (join_part_is t a.phases m (a.fates t) j of (pair_of a q.settled.stands t m there)).1
          where
            holds_of : IsQuiet a → IsHolding t (a.phases j)
            holds_of q = holds ready
