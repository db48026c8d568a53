-- a part at its worker is asked for its vote, and hears of the end
use Rattle.std.specs.Prelude.{cond, Bool, true, false, not, ◌&&◌, ◌||◌, ◌==◌, Option, None, Some, IsSome, if◌then◌else◌}
use Rattle.std.specs.List.Sorted.{IsPermutation}
use Rattle.std.specs.Option.{option_or}
use Rattle.std.proofs.lemmas.List.{append-nil}
use Rattle.std.proofs.lemmas.List.Sorted.{IsPermutation-refl}
use Rattle.std.proofs.Common.{◌≡◌, ℕ, ◌+◌, ◌≤◌, List, [], ◌∷◌, ◌++◌, refl, sym, ◌∙◌, ap, subst, eq-eqb}
use Rattle.alp_base.specs.declared.ids.JoinNo.{JoinNo}
use Rattle.alp_base.specs.declared.ids.TransId.{TransId}
use Rattle.alp_files.specs.declared.refusal.Why.{Why}
use Rattle.alp_files.specs.declared.refusal.Why.TheVariants as why
use Rattle.alp_files.specs.declared.refusal.Cause.{Cause}
use Rattle.alp_files.specs.declared.refusal.Cause.TheVariants as cause
use Rattle.alp_journal.specs.declared.act.Act.{Act}
use Rattle.alp_journal.specs.declared.act.Act.TheVariants as act
use Rattle.alp_journal.specs.declared.event.Event.{Event}
use Rattle.alp_journal.specs.declared.event.Event.TheVariants as event
use Rattle.alp_journal.specs.declared.message.Message.{Message}
use Rattle.alp_journal.specs.declared.message.Message.TheVariants as msg
use Rattle.alp_journal.specs.Ids.{same_trans, same_join}
use Rattle.alp_journal.specs.Deeds.{Deed, Quits, Aborts, Releases}
use Rattle.alp_journal.specs.Participant.{Phase, Unseen, Joining, Active, Ready, Applied, Over, live_in, open_in}
use Rattle.alp_journal.specs.Participant as phase
use Rattle.alp_journal.specs.Holder.{Holder, Life, is_part, lapsed, emptied}
use Rattle.alp_journal.specs.Desk.{Waiting, file_trans}
use Rattle.alp_journal.specs.State.{is_join_drawn, is_other_server}
use Rattle.alp_journal.specs.Moves.{if_its, quits_for, first_sent, no_in}
use Rattle.alp_journal.specs.Laws.{IsHolding, ended_join}
use Rattle.alp_journal.specs.Messages.{Mail, to_others, on_ask, unknown_join, vote_on, why_not}
use Rattle.alp_journal.specs.Answered.{IsWalk, in_turn}
use Rattle.alp_journal.specs.Account.{Account, state_of, IsPhaseOf, Stands, IsSettled, IsQuiet, IsPartOf, IsOfPart, HasWaits, granted_calls, with_granted, grant_acts, sent_acts, Leads}
use Rattle.alp_journal.proofs.IdLemmas.{same_trans-itself, same_join-true}
use Rattle.alp_journal.proofs.MadeIds.{all-map}
use Rattle.alp_journal.proofs.StandLemmas.{same_join-itself, pair_of, join_part_is, holding_of}
use Rattle.alp_journal.proofs.MoveLemmas.{IsSpent, spent_over, stands_quit}
use Rattle.alp_journal.proofs.QuietLemmas.{none_tried, AreOfParts}
use Rattle.alp_journal.proofs.CallLemmas.{AreAddressed, IsMail, no_mail, mail_behind}
use Rattle.alp_journal.proofs.LetGoLemmas.{GoesOn}
use Rattle.alp_journal.proofs.ArrivalLemmas.{arrive_entry, arrive_leads, says_leads, leaves_leads}
use Rattle.alp_journal.proofs.OwnEnds.{told-more}
use Rattle.alp_journal.proofs.RegisterSteps.{quiet_beside}
use Rattle.alp_journal.proofs.JoinEnds.{IsEnding, told_ended, told_others, waits_then, join_ended, IsEndedBy, join_ended_goes}

-- ---- what is told of more, and what is said behind grants

-- each call of a part is of it still where more is to be told
pub parts-more : (lives : TransId → Option Life) (dead told : ℕ → TransId → Option Cause) → ((n : ℕ) (u : TransId) → IsSome (dead n u) → IsSome (told n u)) → (ws : List Waiting) → AreOfParts lives dead ws → AreOfParts lives told ws
parts-more lives dead told more ws h = all-map (λ (w : Waiting). IsOfPart lives dead w (file_trans w.call)) (λ (w : Waiting). IsOfPart lives told w (file_trans w.call)) (λ w p. one w (file_trans w.call) p) ws h
  where
    by : (w : Waiting) (u : TransId) (x : Option Life) → IsPartOf w.client x (dead w.client u) → IsPartOf w.client x (told w.client u)
    by w u None p = more w.client u p
    by w u (Some l) p = p

    one : (w : Waiting) (x : Option TransId) → IsOfPart lives dead w x → IsOfPart lives told w x
    one w None p = tt
    one w (Some u) p = by w u (lives u) p

-- grants say nothing
first-behind : (f : Message → Option Cause) (ts : List TransId) (acts : List Act) → first_sent f (grant_acts ts ++ acts) ≡ first_sent f acts
first-behind f [] acts = refl
first-behind f (t ∷ ts) acts = first-behind f ts acts

module _ (a : Account) (from : ℕ) (t : TransId) (j : JoinNo) where
  -- one to the server of the transaction
  one_to : (m : Message) → is_other_server (state_of a) t.server ≡ true → to_others (state_of a) ((t.server, m) ∷ []) ≡ (t.server, m) ∷ []
  one_to m far = ap (λ (b : Bool). cond {A = List Mail} b ((t.server, m) ∷ []) []) far

  addressed_to : (m : Message) → AreAddressed ((t.server, msg.Done t j) ∷ [])
  addressed_to m = ap (λ (b : Bool). b && true) (eq-eqb t.server t.server refl)

  -- the join is live, and of another transaction, or it is not live
  abbrev pub IsNotIts : Type 0
  IsNotIts = (x : TransId × ℕ) → live_in (a.phases j) ≡ Some x → same_trans x.0 t ≡ false

  not_open : IsNotIts → (next : ℕ → List Deed) → if_its t (open_in (a.phases j)) next ≡ []
  not_open none next = go (a.phases j) (λ x e. none x e)
    where
      at : (u : TransId) (c : ℕ) → same_trans u t ≡ false → if_its t (Some (u, c)) next ≡ []
      at u c e = ap (λ (b : Bool). cond {A = List Deed} b (next c) []) e

      go : (p : Phase) → ((x : TransId × ℕ) → live_in p ≡ Some x → same_trans x.0 t ≡ false) → if_its t (open_in p) next ≡ []
      go Unseen h = refl
      go (Joining u c who) h = at u c (h (u, c) refl)
      go (Active u c who) h = at u c (h (u, c) refl)
      go (Ready u c ts) h = refl
      go (Applied u stamp) h = refl
      go Over h = refl

  not_live : IsNotIts → (next : ℕ → List Deed) → if_its t (live_in (a.phases j)) next ≡ []
  not_live none next = go (live_in (a.phases j)) refl
    where
      go : (x : Option (TransId × ℕ)) → live_in (a.phases j) ≡ x → if_its t (live_in (a.phases j)) next ≡ []
      go None e = ap (λ (y : Option (TransId × ℕ)). if_its t y next) e
      go (Some x) e = ap (λ (y : Option (TransId × ℕ)). if_its t y next) e ∙ ap (λ (b : Bool). cond {A = List Deed} b (next x.1) []) (none x e)

  not_asked : (failed : Bool) → IsNotIts → on_ask failed (state_of a) t j (a.phases j) ≡ unknown_join (state_of a) t j
  not_asked failed none = go (a.phases j) (λ x e. none x e)
    where
      go : (p : Phase) → ((x : TransId × ℕ) → live_in p ≡ Some x → same_trans x.0 t ≡ false) → on_ask failed (state_of a) t j p ≡ unknown_join (state_of a) t j
      go Unseen h = refl
      go (Joining u c who) h = ap (λ (b : Bool). cond {A = List Mail} b ((t.server, msg.No t j why.Waiting) ∷ []) (unknown_join (state_of a) t j)) (h (u, c) refl)
      go (Active u c who) h = ap (λ (b : Bool). cond {A = List Mail} b ((t.server, vote_on (state_of a) t j c (why_not failed (state_of a) c t)) ∷ []) (unknown_join (state_of a) t j)) (h (u, c) refl)
      go (Ready u c ts) h = ap (λ (b : Bool). cond {A = List Mail} b ((t.server, msg.Ready t j ts) ∷ []) (unknown_join (state_of a) t j)) (h (u, c) refl)
      go (Applied u stamp) h = refl
      go Over h = refl

  -- ---- asked for its vote

  -- the join is not here: it is against the commit, where it was drawn here
  pub ask_unknown_leads : IsQuiet a → a.is_down ≡ false → IsNotIts → is_join_drawn (state_of a) j ≡ true → is_other_server (state_of a) t.server ≡ true
      → Leads false a (arrive_entry a from (msg.Ask t j) (act.Sent t.server (msg.No t j why.UnknownJoin) ∷ [])) a
  ask_unknown_leads q up none drawn far = says_leads a from (msg.Ask t j) false ((t.server, msg.No t j why.UnknownJoin) ∷ []) (record {
    quiet = q;
    up = up;
    brought = not_open none (λ client. quits_for j t client (first_sent (no_in a.holder.server j) (act.Sent t.server (msg.No t j why.UnknownJoin) ∷ [])));
    said = (tt, tt);
    mail = subst (λ (ms : List Mail). IsPermutation ms ((t.server, msg.No t j why.UnknownJoin) ∷ []))
        (sym (ap (to_others (state_of a)) (not_asked false none ∙ ap (λ (b : Bool). cond {A = List Mail} b ((t.server, msg.No t j why.UnknownJoin) ∷ []) []) drawn) ∙ one_to (msg.No t j why.UnknownJoin) far)) (IsPermutation-refl ((t.server, msg.No t j why.UnknownJoin) ∷ []));
    addressed = addressed_to (msg.Done t j);
    applied = tt;
  })

  -- else nothing is said
  pub ask_silent_leads : IsQuiet a → a.is_down ≡ false → IsNotIts → to_others (state_of a) (unknown_join (state_of a) t j) ≡ [] → Leads false a (arrive_entry a from (msg.Ask t j) []) a
  ask_silent_leads q up none silent = says_leads a from (msg.Ask t j) false [] (record {
    quiet = q;
    up = up;
    brought = not_open none (λ client. quits_for j t client None);
    said = tt;
    mail = subst (λ (ms : List Mail). IsPermutation ms []) (sym (ap (to_others (state_of a)) (not_asked false none) ∙ silent)) (IsPermutation-refl []);
    addressed = refl;
    applied = tt;
  })

  -- a join that has voted says so again
  pub ask_again_leads : (client ts : ℕ) → IsQuiet a → a.is_down ≡ false → a.phases j ≡ Ready t client ts → Leads false a (arrive_entry a from (msg.Ask t j) (act.Sent t.server (msg.Ready t j ts) ∷ [])) a
  ask_again_leads client ts q up ready = says_leads a from (msg.Ask t j) false ((t.server, msg.Ready t j ts) ∷ []) (record {
    quiet = q;
    up = up;
    brought = ap (λ (p : Phase). if_its t (open_in p) (λ client. quits_for j t client (first_sent (no_in a.holder.server j) (act.Sent t.server (msg.Ready t j ts) ∷ [])))) ready;
    said = ((client, ready), tt);
    mail = subst (λ (ms : List Mail). IsPermutation ms ((t.server, msg.Ready t j ts) ∷ []))
        (sym (ap (λ (p : Phase). to_others (state_of a) (on_ask false (state_of a) t j p)) ready ∙ ap (λ (b : Bool). to_others (state_of a) (cond {A = List Mail} b ((t.server, msg.Ready t j ts) ∷ []) (unknown_join (state_of a) t j))) (same_trans-itself t) ∙ one_to (msg.Ready t j ts) far)) (IsPermutation-refl ((t.server, msg.Ready t j ts) ∷ []));
    addressed = addressed_to (msg.Done t j);
    applied = tt;
  })
    where
      far : is_other_server (state_of a) t.server ≡ true
      far = (subst (IsPhaseOf a.servers a.holder.server a.ids.epoch a.ids.joins a.joined j) ready (q.settled.stands.phases j)).1

  -- ---- one that asks to be let in is over

  module _ (client : ℕ) (who : List ℕ) (c : Cause) where
    -- it is over, and its client is to be told
    abbrev pub with_quit : Account
    with_quit = record a {
      phases = λ k. if same_join j k then phase.quit (a.phases k) else a.phases k;
      dead = λ d u. if d == client && same_trans u t then Some c else a.dead d u;
    }

    quits : IsSettled a → a.phases j ≡ Joining t client who → IsEnding a j t client phase.quit
    quits q asks = record {
      settled = q;
      its = ap live_in asks;
      spent = subst IsSpent (sym (ap phase.quit asks)) spent_over;
      of = subst (IsPhaseOf a.servers a.holder.server a.ids.epoch a.ids.joins a.joined j) (sym (ap phase.quit asks)) ((subst (IsPhaseOf a.servers a.holder.server a.ids.epoch a.ids.joins a.joined j) asks (q.stands.phases j)).0);
      waits = λ ws. subst (HasWaits ws) (sym (ap phase.quit asks)) tt;
    }

    pub quit_settled : IsSettled a → a.phases j ≡ Joining t client who → IsSettled with_quit
    quit_settled q asks =
        let o : IsEnding a j t client phase.quit = quits q asks in
        let s : Stands (record a { phases = with_quit.phases }) = stands_quit a q.stands j t client who asks phase.quit o.spent o.of in
        record {
          stands = record { agree = s.agree; paired = s.paired; held = s.held; votes = s.votes; forgets = s.forgets; fates = s.fates; begun = s.begun; known = s.known; phases = s.phases; joined = s.joined; single = s.single; order = s.order };
          tells = record {
            ended = told_ended a j t client phase.quit c o;
            parts = parts-more a.holder.lives a.dead with_quit.dead (λ n u d. told-more (n == client && same_trans u t) c (a.dead n u) d) a.waits q.tells.parts;
            others = told_others a j t client phase.quit c o;
            came = q.tells.came;
            apart = q.tells.apart;
            joining = waits_then a j t client phase.quit o;
            finishing = q.tells.finishing;
          };
        }

  -- it is against the commit while it asks to be let in, and is over
  abbrev waiting_cause : Cause
  waiting_cause = cause.Voted a.holder.server why.Waiting

  pub ask_joining_leads : (client : ℕ) (who : List ℕ) → IsQuiet a → a.is_down ≡ false → a.phases j ≡ Joining t client who
      → Leads false a (arrive_entry a from (msg.Ask t j) (act.Sent t.server (msg.No t j why.Waiting) ∷ [])) (with_quit client who (cause.Voted a.holder.server why.Waiting))
  ask_joining_leads client who q up asks =
      let acts : List Act = act.Sent t.server (msg.No t j why.Waiting) ∷ [] in
      let m : Account = with_quit client who waiting_cause in
      let far : is_other_server (state_of a) t.server ≡ true = (subst (IsPhaseOf a.servers a.holder.server a.ids.epoch a.ids.joins a.joined j) asks (q.settled.stands.phases j)).1 in
      arrive_leads a from (msg.Ask t j) false acts (Quits j t client (Some waiting_cause) ∷ []) m (record {
        up = refl;
        running = up;
        brought = ap (λ (p : Phase). if_its t (open_in p) (λ n. quits_for j t n (first_sent (no_in a.holder.server j) acts)) ++ [] ++ []) asks
            ∙ ap (λ (b : Bool). cond {A = List Deed} b (quits_for j t client (first_sent (no_in a.holder.server j) acts)) [] ++ [] ++ []) (same_trans-itself t)
            ∙ ap (λ (b : Bool). quits_for j t client (option_or (cond {A = Option Cause} b (Some waiting_cause) None) None) ++ [] ++ []) (same_join-itself j);
        left = λ i. state_of (record m { begun = append-nil a.begun i; joined = append-nil a.joined i; is_down = sym up i; pending = sym (none_tried a q up) i });
        drawn = refl;
        deeds = (record { counts = tt; view = tt; locks = tt; running = tt; registration = tt; vote = tt; decision = tt; application = tt; forgetting = tt }, tt);
        released = sym (ap (λ (p : Phase). ended_join t p ++ []) asks);
        granted = refl;
        said = (tt, tt);
        regained = refl;
        quiet = quiet_beside a m refl refl (none_tried a q up) (quit_settled client who waiting_cause q.settled asks) q;
        mail = subst (λ (ms : List Mail). IsMail ms acts)
            (sym (ap (λ (p : Phase). to_others (state_of a) (on_ask false (state_of a) t j p)) asks ∙ ap (λ (b : Bool). to_others (state_of a) (cond {A = List Mail} b ((t.server, msg.No t j why.Waiting) ∷ []) (unknown_join (state_of a) t j))) (same_trans-itself t) ∙ one_to (msg.No t j why.Waiting) far))
            (mail_behind ((t.server, msg.No t j why.Waiting) ∷ []) [] ((t.server, msg.No t j why.Waiting) ∷ []) refl (addressed_to (msg.Done t j)) (IsPermutation-refl ((t.server, msg.No t j why.Waiting) ∷ [])));
        applied = tt;
        turns = tt;
      })

  -- ---- it hears of the end

  -- it is not its own: nothing comes of it
  pub abort_passed_leads : (c : Cause) → IsQuiet a → a.is_down ≡ false → IsNotIts → Leads false a (arrive_entry a from (msg.Abort t j c) []) a
  abort_passed_leads c q up none = says_leads a from (msg.Abort t j c) false [] (record { quiet = q; up = up; brought = not_live none (λ client. Aborts j t client c ∷ []); said = tt; mail = IsPermutation-refl []; addressed = refl; applied = tt })

  -- one that asks to be let in is over
  pub abort_joining_leads : (c : Cause) (client : ℕ) (who : List ℕ) → IsQuiet a → a.is_down ≡ false → a.phases j ≡ Joining t client who
      → Leads false a (arrive_entry a from (msg.Abort t j c) []) (with_quit client who c)
  abort_joining_leads c client who q up asks =
      let m : Account = with_quit client who c in
      arrive_leads a from (msg.Abort t j c) false [] (Aborts j t client c ∷ []) m (record {
        up = refl;
        running = up;
        brought = ap (λ (p : Phase). if_its t (live_in p) (λ n. Aborts j t n c ∷ []) ++ [] ++ []) asks ∙ ap (λ (b : Bool). cond {A = List Deed} b (Aborts j t client c ∷ []) [] ++ [] ++ []) (same_trans-itself t);
        left = λ i. state_of (record m {
          holder = record a.holder { lives = λ u. as_was q.settled asks u (same_trans u t) refl i };
          phases = λ k. over_at k (same_join j k) refl i;
          begun = append-nil a.begun i;
          joined = append-nil a.joined i;
          is_down = sym up i;
          pending = sym (none_tried a q up) i;
        });
        drawn = refl;
        deeds = (record { counts = tt; view = tt; locks = tt; running = tt; registration = tt; vote = tt; decision = tt; application = tt; forgetting = tt }, tt);
        released = sym (ap (λ (p : Phase). ended_join t p ++ []) asks);
        granted = refl;
        said = tt;
        regained = refl;
        quiet = quiet_beside a m refl refl (none_tried a q up) (quit_settled client who c q.settled asks) q;
        mail = no_mail [] refl refl;
        applied = tt;
        turns = tt;
      })
    where
      -- another join's part stays
      as_was : IsSettled a → a.phases j ≡ Joining t client who → (u : TransId) (b : Bool) → same_trans u t ≡ b → cond {A = Option Life} b (lapsed j (a.holder.lives u)) (a.holder.lives u) ≡ a.holder.lives u
      as_was q asks u false e = refl
      as_was q asks u true e = go (a.holder.lives u) refl
        where
          by : (l : Life) → a.holder.lives u ≡ Some l → (x : Option JoinNo) → l.join ≡ x → cond {A = Life} (is_part j x) (emptied l) l ≡ l
          by l live None f = refl
          by l live (Some k) f = its (same_join k j) refl
            where
              its : (d : Bool) → same_join k j ≡ d → cond {A = Life} d (emptied l) l ≡ l
              its false g = refl
              its true g =
                  let holds : IsHolding u (a.phases k) = holding_of u l (a.phases k) (join_part_is u a.phases l (a.fates u) k f (pair_of a q.stands u l live)).0 in
                  absurd (subst (IsHolding u) (ap a.phases (same_join-true k j g) ∙ asks) holds)

          go : (x : Option Life) → a.holder.lives u ≡ x → lapsed j x ≡ x
          go None f = refl
          go (Some l) f = ap Some (by l f l.join refl)

      over_at : (k : JoinNo) (b : Bool) → same_join j k ≡ b → cond {A = Phase} b (phase.aborted t (a.phases k)) (a.phases k) ≡ cond {A = Phase} b (phase.quit (a.phases k)) (a.phases k)
      over_at k false e = refl
      over_at k true e =
          let at : a.phases k ≡ Joining t client who = ap a.phases (sym (same_join-true j k e)) ∙ asks in
          ap (phase.aborted t) at ∙ ap (λ (b : Bool). cond {A = Phase} b Over (Joining t client who)) (same_trans-itself t) ∙ sym (ap phase.quit at)

  -- ---- one that holds its part is over

  module _ (client : ℕ) (l : Life) (c : Cause) where
    -- of one that was let in, or has voted
    abbrev pub with_abort : Account
    with_abort = record (join_ended a j t client (phase.aborted t) c l (Aborts j t client c) (record a.holder { lives = λ u. if same_trans u t then lapsed j (a.holder.lives u) else a.holder.lives u })) { is_down = false; pending = [] }

    abbrev pub with_abort_given : List TransId → Account
    with_abort_given ts = with_granted with_abort (granted_calls a.waits ts)

    abbrev lapsing : Holder
    lapsing = record a.holder { lives = λ u. cond {A = Option Life} (same_trans u t) (lapsed j (a.holder.lives u)) (a.holder.lives u) }

    aborted_over : (p : Phase) → IsHolding t p → phase.aborted t p ≡ Over
    aborted_over Unseen h = absurd h
    aborted_over (Joining u n who) h = absurd h
    aborted_over (Active u n who) h = ap (λ (b : Bool). cond {A = Phase} b Over (Active u n who)) (ap (same_trans t) h ∙ same_trans-itself t)
    aborted_over (Ready u n ts) h = ap (λ (b : Bool). cond {A = Phase} b Over (Ready u n ts)) (ap (same_trans t) h ∙ same_trans-itself t)
    aborted_over (Applied u stamp) h = absurd h
    aborted_over Over h = absurd h

    aborts : IsSettled a → live_in (a.phases j) ≡ Some (t, client) → IsHolding t (a.phases j) → IsEnding a j t client (phase.aborted t)
    aborts q its h = record {
      settled = q;
      its = its;
      spent = subst IsSpent (sym (aborted_over (a.phases j) h)) spent_over;
      of = subst (IsPhaseOf a.servers a.holder.server a.ids.epoch a.ids.joins a.joined j) (sym (aborted_over (a.phases j) h)) (known (a.phases j) h (q.stands.phases j));
      waits = λ ws. subst (HasWaits ws) (sym (aborted_over (a.phases j) h)) tt;
    }
      where
        known : (p : Phase) → IsHolding t p → IsPhaseOf a.servers a.holder.server a.ids.epoch a.ids.joins a.joined j p → IsPhaseOf a.servers a.holder.server a.ids.epoch a.ids.joins a.joined j Over
        known Unseen h k = absurd h
        known (Joining u n who) h k = absurd h
        known (Active u n who) h k = k.0
        known (Ready u n ts) h k = k.0
        known (Applied u stamp) h k = absurd h
        known Over h k = absurd h

    ended_by_it : (ev : Event) → a.holder.lives t ≡ Some l → l.join ≡ Some j → IsEndedBy a j t client (phase.aborted t) c l (Aborts j t client c) lapsing ev
    ended_by_it ev live mine = record {
      first = refl;
      gone = λ i. record a.holder { lives = λ u. twice_gone (same_trans u t) (lapsed j (a.holder.lives u)) (a.holder.lives u) i };
      there = subst (λ (b : Bool). IsSome (cond {A = Option Life} b (lapsed j (a.holder.lives t)) (a.holder.lives t))) (sym (same_trans-itself t)) (subst (λ (x : Option Life). IsSome (lapsed j x)) (sym live) refl);
      lawful = record { counts = tt; view = tt; locks = tt; running = tt; registration = tt; vote = tt; decision = tt; application = tt; forgetting = tt };
      ends = refl;
      grants_none = refl;
    }
      where
        twice_gone : (b : Bool) (x y : Option Life) → cond {A = Option Life} b None (cond {A = Option Life} b x y) ≡ cond {A = Option Life} b None y
        twice_gone true x y = refl
        twice_gone false x y = refl

    pub abort_leads : IsQuiet a → a.is_down ≡ false → live_in (a.phases j) ≡ Some (t, client) → IsHolding t (a.phases j) → a.holder.lives t ≡ Some l → l.join ≡ Some j → l.client ≡ client
        → (ts : List TransId) → IsWalk with_abort.holder (in_turn with_abort.holder a.waits) ts → Leads false a (arrive_entry a from (msg.Abort t j c) ((act.Released t ∷ grant_acts ts) ++ [])) (with_abort_given ts)
    abort_leads q up its h live mine own ts walk =
        let ev : Event = event.Arrive from (msg.Abort t j c) in
        let ended : Account = join_ended a j t client (phase.aborted t) c l (Aborts j t client c) lapsing in
        let front : List Act = act.Released t ∷ [] in
        let back : List Deed = Aborts j t client c ∷ Releases t ∷ [] in
        let goes : GoesOn a ended ev front back ts = join_ended_goes a j t client (phase.aborted t) c l (Aborts j t client c) lapsing ev (λ u n. refl) (aborts q.settled its h) (ended_by_it ev live mine) h live own (none_tried a q up) ts walk in
        leaves_leads a from (msg.Abort t j c) false ended (with_abort_given ts) front back ts [] (record {
          goes = goes;
          running = up;
          brings = ap (λ (x : Option (TransId × ℕ)). if_its t x (λ n. Aborts j t n c ∷ []) ++ Releases t ∷ []) its ∙ ap (λ (b : Bool). cond {A = List Deed} b (Aborts j t client c ∷ []) [] ++ Releases t ∷ []) (same_trans-itself t);
          drawn = refl;
          left = refl;
          says = λ y g. tt;
          addressed = refl;
          mail = IsPermutation-refl [];
          applied = tt;
        })

    -- ---- it votes against the commit

    -- of one that was let in
    abbrev pub with_against : Account
    with_against = record (join_ended a j t client phase.quit c l (Quits j t client (Some c)) a.holder) { is_down = false; pending = [] }

    abbrev pub with_against_given : List TransId → Account
    with_against_given ts = with_granted with_against (granted_calls a.waits ts)

    pub quits_active : (who : List ℕ) → IsSettled a → a.phases j ≡ Active t client who → IsEnding a j t client phase.quit
    quits_active who q active = record {
      settled = q;
      its = ap live_in active;
      spent = subst IsSpent (sym (ap phase.quit active)) spent_over;
      of = subst (IsPhaseOf a.servers a.holder.server a.ids.epoch a.ids.joins a.joined j) (sym (ap phase.quit active)) ((subst (IsPhaseOf a.servers a.holder.server a.ids.epoch a.ids.joins a.joined j) active (q.stands.phases j)).0);
      waits = λ ws. subst (HasWaits ws) (sym (ap phase.quit active)) tt;
    }

    pub ask_against_leads : (failed : Bool) (w : Why) (who : List ℕ) → c ≡ cause.Voted a.holder.server w → IsQuiet a → a.is_down ≡ false → a.phases j ≡ Active t client who → a.holder.lives t ≡ Some l → l.client ≡ client → why_not failed (state_of a) client t ≡ Some w
        → (ts : List TransId) → IsWalk with_against.holder (in_turn with_against.holder a.waits) ts
        → Leads failed a (arrive_entry a from (msg.Ask t j) ((act.Released t ∷ grant_acts ts) ++ sent_acts ((t.server, msg.No t j w) ∷ []))) (with_against_given ts)
    ask_against_leads failed w who voted q up active live own not ts walk =
        let ev : Event = event.Arrive from (msg.Ask t j) in
        let d : Deed = Quits j t client (Some c) in
        let ended : Account = join_ended a j t client phase.quit c l d a.holder in
        let front : List Act = act.Released t ∷ [] in
        let back : List Deed = d ∷ Releases t ∷ [] in
        let ms : List Mail = (t.server, msg.No t j w) ∷ [] in
        let acts : List Act = (front ++ grant_acts ts) ++ sent_acts ms in
        let far : is_other_server (state_of a) t.server ≡ true = (subst (IsPhaseOf a.servers a.holder.server a.ids.epoch a.ids.joins a.joined j) active (q.settled.stands.phases j)).1 in
        let holds : IsHolding t (a.phases j) = subst (IsHolding t) (sym active) refl in
        let goes : GoesOn a ended ev front back ts = join_ended_goes a j t client phase.quit c l d a.holder ev (λ u n. refl) (quits_active who q.settled active) (record {
          first = refl;
          gone = refl;
          there = subst (λ (x : Option Life). IsSome x) (sym live) refl;
          lawful = record { counts = tt; view = tt; locks = tt; running = tt; registration = tt; vote = tt; decision = tt; application = tt; forgetting = tt };
          ends = refl;
          grants_none = refl;
        }) holds live own (none_tried a q up) ts walk in
        let first : first_sent (no_in a.holder.server j) acts ≡ Some c = first-behind (no_in a.holder.server j) ts (sent_acts ms) ∙ ap (λ (b : Bool). option_or (cond {A = Option Cause} b (Some (cause.Voted a.holder.server w)) None) None) (same_join-itself j) ∙ ap (λ (x : Cause). Some x) (sym voted) in
        leaves_leads a from (msg.Ask t j) failed ended (with_against_given ts) front back ts ms (record {
          goes = goes;
          running = up;
          brings = ap (λ (p : Phase). if_its t (open_in p) (λ n. quits_for j t n (first_sent (no_in a.holder.server j) acts)) ++ Releases t ∷ []) active
              ∙ ap (λ (b : Bool). cond {A = List Deed} b (quits_for j t client (first_sent (no_in a.holder.server j) acts)) [] ++ Releases t ∷ []) (same_trans-itself t)
              ∙ ap (λ (x : Option Cause). quits_for j t client x ++ Releases t ∷ []) first;
          drawn = refl;
          left = refl;
          says = λ y g. (tt, tt);
          addressed = addressed_to (msg.Done t j);
          mail = subst (λ (xs : List Mail). IsPermutation xs ms)
              (sym (ap (λ (p : Phase). to_others (state_of a) (on_ask failed (state_of a) t j p)) active ∙ ap (λ (b : Bool). to_others (state_of a) (cond {A = List Mail} b ((t.server, vote_on (state_of a) t j client (why_not failed (state_of a) client t)) ∷ []) (unknown_join (state_of a) t j))) (same_trans-itself t)
              ∙ ap (λ (x : Option Why). to_others (state_of a) ((t.server, vote_on (state_of a) t j client x) ∷ [])) not ∙ one_to (msg.No t j w) far)) (IsPermutation-refl ms);
          applied = tt;
        })
