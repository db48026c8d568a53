-- a client finishes a transaction that has joins: each is asked for its vote, and the Finish waits
use Rattle.std.specs.Prelude.{cond, Bool, true, false, ◌&&◌, ◌==◌, is_none, is_some, flat_map, Option, None, Some, IsSome, if◌then◌else◌}
use Rattle.std.specs.List.{AllByRecursion}
use Rattle.std.specs.List.Sorted.{IsPermutation}
use Rattle.std.proofs.lemmas.Bool.{and_parts}
use Rattle.std.proofs.lemmas.List.{append-nil}
use Rattle.std.proofs.lemmas.List.Sorted.{IsPermutation-refl}
use Rattle.std.proofs.Common.{◌≡◌, ℕ, ◌+◌, List, [], ◌∷◌, ◌++◌, refl, sym, ◌∙◌, ap, subst, eq-eqb, le_refl}
use Rattle.alp_base.specs.declared.ids.JoinNo.{JoinNo}
use Rattle.alp_base.specs.declared.ids.TransId.{TransId}
use Rattle.alp_files.specs.declared.call.Call.{Call}
use Rattle.alp_files.specs.declared.call.Call.TheVariants as call
use Rattle.alp_files.specs.declared.reply.Reply.{Reply}
use Rattle.alp_files.specs.declared.reply.Reply.TheVariants as reply
use Rattle.alp_files.specs.declared.refusal.Refusal.TheVariants as refusal
use Rattle.alp_files.specs.declared.refusal.Cause.{Cause}
use Rattle.alp_files.specs.declared.refusal.Cause.TheVariants as cause
use Rattle.alp_journal.specs.declared.event.Event.{Event}
use Rattle.alp_journal.specs.declared.event.Event.TheVariants as event
use Rattle.alp_journal.specs.declared.message.Message.TheVariants as msg
use Rattle.alp_journal.specs.Along.{Where}
use Rattle.alp_journal.specs.Ids.{same_trans}
use Rattle.alp_journal.specs.Deeds.{Deed, Finishes}
use Rattle.alp_journal.specs.Coordinator.{Fate, Running, Finishing, Ended, client_of, is_running, has_votes}
use Rattle.alp_journal.specs.Coordinator as fate
use Rattle.alp_journal.specs.Participant.{Ready}
use Rattle.alp_journal.specs.Holder.{Life}
use Rattle.alp_journal.specs.Desk.{Desk, Session, Waiting, file_trans, is_of_part, waiting_of, finished, with_session}
use Rattle.alp_journal.specs.State.{State, state_deed}
use Rattle.alp_journal.specs.Moves.{finishes, act_deeds, is_stop}
use Rattle.alp_journal.specs.Laws.{IsBlocked, IsHolding, SaysRight, drawn_by, released_by, granted_by, regained_by}
use Rattle.alp_journal.specs.Messages.{Mail, to_each, on_finish}
use Rattle.alp_journal.specs.Answered.{is_all_done, is_release}
use Rattle.alp_journal.specs.Answers.{Part, part_at, at_part, finish_reply, First}
use Rattle.alp_journal.specs.Account.{Account, state_of, IsFateOf, Stands, Tells, IsQuiet, HasTried, IsFinishOf, HasCome, HasNoCall, sent_acts, Leads}
use Rattle.alp_journal.proofs.IdLemmas.{same_trans-true, all-append}
use Rattle.alp_journal.proofs.MadeIds.{all-map}
use Rattle.alp_journal.proofs.WaitLemmas.{none-found}
use Rattle.alp_journal.proofs.TurnLemmas.{blocked-as}
use Rattle.alp_journal.proofs.StandLemmas.{moved_fate, own_unheld}
use Rattle.alp_journal.proofs.PartLemmas.{own_at_work}
use Rattle.alp_journal.proofs.MoveLemmas.{stands_fated}
use Rattle.alp_journal.proofs.DeskLemmas.{tells_waiting, tells_fated, came-before}
use Rattle.alp_journal.proofs.QuietLemmas.{none-on, stands_as}
use Rattle.alp_journal.proofs.CallLemmas.{IsMail, mail_behind, call_entry, new_call, call_leads}
use Rattle.alp_journal.proofs.RefusedCalls.{counted_as, counted_quiet}
use Rattle.alp_journal.proofs.LetGoLemmas.{none-sent, no-mail-is}
use Rattle.alp_journal.proofs.ArrivalLemmas.{no_release}
use Rattle.alp_journal.proofs.OwnEnds.{each-addressed, IsOwn, own_of, here_as}

-- nothing is said wrong by a question
asks-said : (e : Event) (x : State) (t : TransId) (js : List JoinNo) → AllByRecursion (SaysRight e x) (sent_acts (to_each (msg.Ask t) js))
asks-said e x t [] = tt
asks-said e x t (j ∷ js) = (tt, asks-said e x t js)

module _ (a : Account) (client number : ℕ) (w : Session) (t : TransId) (l : Life) (j : JoinNo) (js : List JoinNo) where
  abbrev not_yet : Reply
  not_yet = reply.Refused refusal.NotYet

  abbrev finish_call : Call
  finish_call = call.Finish t true

  abbrev finish_waiter : Waiting
  finish_waiter = record { client = client; number = number; call = call.Finish t true; is_granted = false }

  -- each part is asked for its vote
  abbrev pub asks_each : List Mail
  asks_each = to_each (msg.Ask t) (j ∷ js)

  -- the transaction is finishing, and the call waits
  abbrev pub with_finish : Account
  with_finish = record (counted_as a client number w (reply.Refused refusal.NotYet)) {
    fates = λ u. if same_trans t u then fate.finishing (a.fates u) else a.fates u;
    waits = a.waits ++ (record { client = client; number = number; call = call.Finish t true; is_granted = false }) ∷ [];
  }

  abbrev finishing_of : Fate
  finishing_of = Finishing client (j ∷ js) []

  -- all that is known
  pub record AsksOwes : Type 0 where
    pub quiet : IsQuiet a
    pub up : a.is_down ≡ false
    pub there : a.sessions client ≡ Some w
    pub turn : number ≡ w.last + 1
    pub live : a.holder.lives t ≡ Some l
    pub runs : a.fates t ≡ Running client (j ∷ js)
    pub idle : waiting_of (state_of a).desk client t ≡ None

  own : AsksOwes → IsOwn a client t l cause.Asked
  own o = own_of a client t l cause.Asked o.quiet.settled o.live o.runs

  is_finishing : AsksOwes → fate.finishing (a.fates t) ≡ finishing_of
  is_finishing o = ap fate.finishing o.runs

  finish_stands : AsksOwes → Stands (record a { fates = with_finish.fates })
  finish_stands o =
      let q : Stands a = o.quiet.settled.stands in
      let of : IsFateOf a.servers a.holder.server a.ids.epoch a.ids.transactions a.begun t (Running client (j ∷ js)) = subst (IsFateOf a.servers a.holder.server a.ids.epoch a.ids.transactions a.begun t) o.runs (q.fates t) in
      stands_fated a q t fate.finishing (ap client_of (is_finishing o) ∙ sym (ap client_of o.runs)) (ap is_running (is_finishing o) ∙ sym (ap is_running o.runs)) (ap has_votes (is_finishing o)) (ap is_all_done (is_finishing o))
      (subst (IsFateOf a.servers a.holder.server a.ids.epoch a.ids.transactions a.begun t) (sym (is_finishing o)) (of.0, of.1, of.2, refl))

  finish_tells : AsksOwes → Tells with_finish
  finish_tells o =
      let before : Tells (counted_as a client number w not_yet) = (counted_quiet a client number w not_yet o.quiet o.there o.turn).settled.tells in
      tells_waiting (record (counted_as a client number w not_yet) { fates = with_finish.fates }) finish_waiter
      (tells_fated (counted_as a client number w not_yet) before t fate.finishing (λ c. refl) (λ n h. absurd (none_told o n (subst (λ (f : Fate). IsFinishOf n f (a.dead n t)) o.runs h)))
      (subst (HasNoCall a.waits t) (sym (is_finishing o)) (none-on a.holder.lives a.dead client t l o.live (own o).its a.waits o.quiet.settled.tells.parts o.idle)))
      (record {
        trans = t;
        named = refl;
        files = refl;
        off = none-found (is_of_part client t) a.waits o.idle;
        later = came-before a.sessions client number w a.waits o.there o.turn o.quiet.settled.tells.came;
        came = subst (λ (b : Bool). HasCome number (cond {A = Option Session} b (Some (record w { last = number; reply = not_yet })) (a.sessions client))) (sym (eq-eqb client client refl)) (le_refl number);
        other = subst (λ (f : Fate). IsFinishOf client f (a.dead client t)) (sym (moved_fate a.fates t fate.finishing ∙ is_finishing o)) refl;
        unready = λ k u d ts is. unready o k u d ts is (client == d && same_trans t u) refl;
      })
    where
      none_told : AsksOwes → (n : ℕ) → IsSome (a.dead n t) → ⊥
      none_told o n h = go (a.dead n t) refl h
        where
          go : (x : Option Cause) → a.dead n t ≡ x → IsSome x → ⊥
          go None e k = let wrong : false ≡ true = k in cc
          go (Some c) e k =
              let ended : a.fates t ≡ Ended c = (o.quiet.settled.tells.ended n t c e).0 (here_as a client t l cause.Asked (own o)) in
              let wrong : Running client (j ∷ js) ≡ Ended c = sym o.runs ∙ ended in
              cc

      unready : AsksOwes → (k : JoinNo) (u : TransId) (d ts : ℕ) → a.phases k ≡ Ready u d ts → (b : Bool) → (client == d && same_trans t u) ≡ b → b ≡ false
      unready o k u d ts is false e = refl
      unready o k u d ts is true e =
          let one : t ≡ u = same_trans-true t u (and_parts (client == d) (same_trans t u) e).1 in
          absurd (own_unheld a o.quiet.settled.stands t (here_as a client t l cause.Asked (own o)) k (subst (IsHolding t) (sym is) (sym one)))

  finish_quiet : AsksOwes → IsQuiet with_finish
  finish_quiet o = record {
    settled = record { stands = stands_as (record a { fates = with_finish.fates }) with_finish.sessions with_finish.waits a.dead false [] (finish_stands o); tells = finish_tells o };
    turns = all-append (λ (v : Waiting). IsBlocked (state_of with_finish) v (file_trans v.call)) a.waits (finish_waiter ∷ [])
        (all-map (λ (v : Waiting). IsBlocked (state_of a) v (file_trans v.call)) (λ (v : Waiting). IsBlocked (state_of with_finish) v (file_trans v.call)) (λ v b. blocked-as (state_of a) (state_of with_finish) v (file_trans v.call) refl b) a.waits o.quiet.turns) (tt, tt);
    tried = HasTried.nothing refl;
  }

  pub finish_asks_leads : AsksOwes → Leads false a (call_entry a client number w (call.Finish t true) (reply.Refused refusal.NotYet) (sent_acts asks_each)) with_finish
  finish_asks_leads o =
      let s : State = state_of a in
      let r : Reply = not_yet in
      let here : t.server ≡ a.holder.server = here_as a client t l cause.Asked (own o) in
      let mine : (client == client) ≡ true = eq-eqb client client refl in
      let ds : List Deed = Finishes t ∷ [] in
      let after : State = state_deed s (Finishes t) in
      let d : Desk = with_session s.desk client (Some (record w { last = number; reply = r })) in
      let ev : Event = event.Call client a.ids.epoch number finish_call in
      let none : flat_map (act_deeds s ev) (sent_acts asks_each) ≡ [] = none-sent (act_deeds s ev) [] asks_each (λ m. refl) in
      let asked : on_finish t true client (is_none (waiting_of s.desk client t)) (a.fates t) ≡ asks_each =
      ap (on_finish t true client (is_none (waiting_of s.desk client t))) o.runs ∙ ap (λ (b : Bool). cond {A = List Mail} (b && is_none (waiting_of s.desk client t)) asks_each []) mine
      ∙ ap (λ (x : Option Waiting). cond {A = List Mail} (is_none x) asks_each []) o.idle in
      call_leads a client number w false finish_call r (sent_acts asks_each) ds with_finish o.there o.turn (record {
        plain = λ m. refl;
        greets = λ e h. h;
        up = no-mail-is is_stop (λ m. refl) asks_each;
        running = o.up;
        brought = ap (λ (f : Fate). finishes s.desk client t true r f ++ flat_map (act_deeds s ev) (sent_acts asks_each) ++ []) o.runs
            ∙ ap (λ (b : Bool). cond {A = List Deed} (b && is_none (waiting_of s.desk client t)) ds [] ++ flat_map (act_deeds s ev) (sent_acts asks_each) ++ []) mine
            ∙ ap (λ (x : Option Waiting). cond {A = List Deed} (is_none x) ds [] ++ flat_map (act_deeds s ev) (sent_acts asks_each) ++ []) o.idle
            ∙ ap (λ (xs : List Deed). ds ++ xs ++ []) none;
        new = new_call a client number w o.there o.turn;
        there = o.there;
        left = ap (λ (x : Option Waiting). record after {
          desk = finished (cond {A = Desk} (is_some x) d (record d { waits = a.waits ++ finish_waiter ∷ [] })) client t r;
          is_down = false;
          pending = [];
        }) o.idle
            ∙ (λ i. state_of (record with_finish { begun = append-nil a.begun i; joined = append-nil a.joined i }));
        drawn = none-sent drawn_by [] asks_each (λ m. refl);
        deeds = (record { counts = tt; view = tt; locks = tt; running = tt; registration = tt; vote = tt; decision = tt; application = tt; forgetting = tt }, tt);
        released = none-sent released_by [] asks_each (λ m. refl);
        granted = none-sent granted_by [] asks_each (λ m. refl);
        said = asks-said ev (state_of with_finish) t (j ∷ js);
        tells = tt;
        regained = no-mail-is regained_by (λ m. refl) asks_each;
        quiet = finish_quiet o;
        answer = subst (λ (b : Bool). Where b (First (at_part (true && is_some (waiting_of s.desk client t)) (part_at s client t)) r (r ≡ finish_reply false s t (a.fates t))) (r ≡ reply.Refused refusal.UnknownTrans))
            (sym (eq-eqb t.server a.holder.server here))
            (subst (λ (x : Option Waiting). First (at_part (true && is_some x) (part_at s client t)) r (r ≡ finish_reply false s t (a.fates t))) (sym o.idle)
            (subst (λ (p : Part). First (at_part false p) r (r ≡ finish_reply false s t (a.fates t))) (sym (own_at_work a t client here o.runs)) (ap (finish_reply false s t) (sym o.runs))));
        mail = subst (λ (ms : List Mail). IsMail ms (sent_acts asks_each)) (sym asked) (mail_behind asks_each [] asks_each refl (each-addressed (msg.Ask t) (λ k. ap (λ (b : Bool). b && true) (eq-eqb k.server k.server refl)) (j ∷ js)) (IsPermutation-refl asks_each));
        turns = no_release a (call_entry a client number w finish_call r (sent_acts asks_each)) (no-mail-is is_release (λ m. refl) asks_each);
        grants = tt;
      })
