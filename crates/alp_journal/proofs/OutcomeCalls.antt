-- questions for the outcome of a transaction
use Rattle.std.specs.Prelude.{cond, Bool, true, false, ◌==◌, Some}
use Rattle.std.proofs.lemmas.Bool.{ne_eqb}
use Rattle.std.proofs.Common.{◌≡◌, ℕ, ◌+◌, ◌<◌, List, [], ◌∷◌, refl, sym, ◌∙◌, ap, subst, eq-eqb, arith}
use Rattle.alp_base.specs.declared.ids.JoinNo.{JoinNo}
use Rattle.alp_base.specs.declared.ids.TransId.{TransId}
use Rattle.alp_base.specs.declared.ids.Stamp.{Stamp}
use Rattle.alp_files.specs.declared.call.Call.TheVariants as call
use Rattle.alp_files.specs.declared.reply.Reply.{Reply}
use Rattle.alp_files.specs.declared.reply.Reply.TheVariants as reply
use Rattle.alp_files.specs.declared.reply.Ended.{Ended as Ending}
use Rattle.alp_files.specs.declared.reply.Ended.TheVariants as ending
use Rattle.alp_files.specs.declared.refusal.Refusal.TheVariants as refusal
use Rattle.alp_files.specs.declared.refusal.Cause.{Cause}
use Rattle.alp_journal.specs.Along.{Where}
use Rattle.alp_journal.specs.Coordinator.{Fate, Undrawn, Running, Finishing, Committed, Forgotten, Ended, is_running}
use Rattle.alp_journal.specs.Desk.{Session}
use Rattle.alp_journal.specs.State.{is_trans_drawn}
use Rattle.alp_journal.specs.Laws.{ending_of}
use Rattle.alp_journal.specs.Account.{Account, state_of, IsQuiet, Leads}
use Rattle.alp_journal.proofs.CallLemmas.{no_mail, call_entry, new_call, call_leads}
use Rattle.alp_journal.proofs.RefusedCalls.{counted_as, counted_quiet}

module _ (a : Account) (client number : ℕ) (w : Session) (t : TransId) where
  -- ---- the id was not drawn here

  pub outcome_unknown_leads : IsQuiet a → a.is_down ≡ false → a.sessions client ≡ Some w → number ≡ w.last + 1 → is_trans_drawn (state_of a) t ≡ false
      → Leads false a (call_entry a client number w (call.Outcome t) (reply.Refused refusal.UnknownTrans) []) (counted_as a client number w (reply.Refused refusal.UnknownTrans))
  outcome_unknown_leads q up there turn strange =
      let r : Reply = reply.Refused refusal.UnknownTrans in
      call_leads a client number w false (call.Outcome t) r [] [] (counted_as a client number w r) there turn (record {
        plain = λ m. refl;
        greets = λ e h. h;
        up = refl;
        running = up;
        brought = refl;
        new = new_call a client number w there turn;
        there = there;
        left = refl;
        drawn = refl;
        deeds = tt;
        released = refl;
        granted = refl;
        said = tt;
        tells = tt;
        regained = refl;
        quiet = counted_quiet a client number w r q there turn;
        answer = subst (λ (b : Bool). Where b (r ≡ reply.Ended (ending_of (state_of a) t (a.fates t))) (r ≡ reply.Refused refusal.UnknownTrans)) (sym strange) refl;
        mail = no_mail [] refl refl;
        turns = tt;
        grants = tt;
      })

  -- ---- it was

  -- the call changes no transaction's end
  ending_stays : (r : Reply) (f : Fate) → ending_of (state_of a) t f ≡ ending_of (state_of (counted_as a client number w r)) t f
  ending_stays r Undrawn = refl
  ending_stays r (Running c js) = refl
  ending_stays r (Finishing c js vs) = refl
  ending_stays r (Committed stamp [] ds) = refl
  ending_stays r (Committed stamp (j ∷ js) ds) = refl
  ending_stays r (Forgotten stamp js) = refl
  ending_stays r (Ended c) = refl

  -- as the fate says
  pub outcome_leads : (x : Ending) → IsQuiet a → a.is_down ≡ false → a.sessions client ≡ Some w → number ≡ w.last + 1 → is_trans_drawn (state_of a) t ≡ true → ending_of (state_of a) t (a.fates t) ≡ x
      → Leads false a (call_entry a client number w (call.Outcome t) (reply.Ended x) []) (counted_as a client number w (reply.Ended x))
  outcome_leads x q up there turn drawn is =
      let r : Reply = reply.Ended x in
      call_leads a client number w false (call.Outcome t) r [] [] (counted_as a client number w r) there turn (record {
        plain = λ m. refl;
        greets = λ e h. h;
        up = refl;
        running = up;
        brought = refl;
        new = new_call a client number w there turn;
        there = there;
        left = refl;
        drawn = refl;
        deeds = tt;
        released = refl;
        granted = refl;
        said = tt;
        tells = (drawn, sym is ∙ ending_stays r (a.fates t));
        regained = refl;
        quiet = counted_quiet a client number w r q there turn;
        answer = subst (λ (b : Bool). Where b (r ≡ reply.Ended (ending_of (state_of a) t (a.fates t))) (r ≡ reply.Refused refusal.UnknownTrans)) (sym drawn) (ap (λ (y : Ending). reply.Ended y) (sym is));
        mail = no_mail [] refl refl;
        turns = tt;
        grants = tt;
      })

  -- it runs, or is finishing
  pub outcome_running_leads : IsQuiet a → a.is_down ≡ false → a.sessions client ≡ Some w → number ≡ w.last + 1 → is_trans_drawn (state_of a) t ≡ true → is_running (a.fates t) ≡ true
      → Leads false a (call_entry a client number w (call.Outcome t) (reply.Ended ending.Running) []) (counted_as a client number w (reply.Ended ending.Running))
  outcome_running_leads q up there turn drawn runs = outcome_leads ending.Running q up there turn drawn (its (a.fates t) runs)
    where
      its : (f : Fate) → is_running f ≡ true → ending_of (state_of a) t f ≡ ending.Running
      its Undrawn h = let wrong : false ≡ true = h in cc
      its (Running c js) h = refl
      its (Finishing c js vs) h = refl
      its (Committed stamp js ds) h = let wrong : false ≡ true = h in cc
      its (Forgotten stamp js) h = let wrong : false ≡ true = h in cc
      its (Ended c) h = let wrong : false ≡ true = h in cc

  -- its decision stands for its joins, of this epoch or an older one
  pub outcome_standing_leads : (stamp : Stamp) (j : JoinNo) (js ds : List JoinNo) → IsQuiet a → a.is_down ≡ false → a.sessions client ≡ Some w → number ≡ w.last + 1 → is_trans_drawn (state_of a) t ≡ true → a.fates t ≡ Committed stamp (j ∷ js) ds
      → Leads false a (call_entry a client number w (call.Outcome t) (reply.Ended (ending.Committed stamp)) []) (counted_as a client number w (reply.Ended (ending.Committed stamp)))
  outcome_standing_leads stamp j js ds q up there turn drawn is = outcome_leads (ending.Committed stamp) q up there turn drawn (ap (ending_of (state_of a) t) is)

  -- it was decided in this epoch, and is forgotten
  pub outcome_forgotten_leads : (stamp : Stamp) (js : List JoinNo) → IsQuiet a → a.is_down ≡ false → a.sessions client ≡ Some w → number ≡ w.last + 1 → is_trans_drawn (state_of a) t ≡ true → t.epoch ≡ a.ids.epoch → a.fates t ≡ Forgotten stamp js
      → Leads false a (call_entry a client number w (call.Outcome t) (reply.Ended (ending.Committed stamp)) []) (counted_as a client number w (reply.Ended (ending.Committed stamp)))
  outcome_forgotten_leads stamp js q up there turn drawn now is =
      outcome_leads (ending.Committed stamp) q up there turn drawn (ap (ending_of (state_of a) t) is ∙ ap (λ (b : Bool). cond {A = Ending} b (ending.Committed stamp) ending.Unknown) (eq-eqb t.epoch a.ids.epoch now))

  -- it was decided in this epoch
  pub outcome_committed_leads : (stamp : Stamp) (js ds : List JoinNo) → IsQuiet a → a.is_down ≡ false → a.sessions client ≡ Some w → number ≡ w.last + 1 → is_trans_drawn (state_of a) t ≡ true → t.epoch ≡ a.ids.epoch
      → a.fates t ≡ Committed stamp js ds
      → Leads false a (call_entry a client number w (call.Outcome t) (reply.Ended (ending.Committed stamp)) []) (counted_as a client number w (reply.Ended (ending.Committed stamp)))
  outcome_committed_leads stamp js ds q up there turn drawn now is = outcome_leads (ending.Committed stamp) q up there turn drawn (ap (ending_of (state_of a) t) is ∙ its js)
    where
      its : (js : List JoinNo) → ending_of (state_of a) t (Committed stamp js ds) ≡ ending.Committed stamp
      its [] = ap (λ (b : Bool). cond {A = Ending} b (ending.Committed stamp) ending.Unknown) (eq-eqb t.epoch a.ids.epoch now)
      its (j ∷ js) = refl

  -- it ended in this epoch
  pub outcome_aborted_leads : (c : Cause) → IsQuiet a → a.is_down ≡ false → a.sessions client ≡ Some w → number ≡ w.last + 1 → is_trans_drawn (state_of a) t ≡ true → t.epoch ≡ a.ids.epoch → a.fates t ≡ Ended c
      → Leads false a (call_entry a client number w (call.Outcome t) (reply.Ended ending.Aborted) []) (counted_as a client number w (reply.Ended ending.Aborted))
  outcome_aborted_leads c q up there turn drawn now is =
      outcome_leads ending.Aborted q up there turn drawn (ap (ending_of (state_of a) t) is ∙ ap (λ (b : Bool). cond {A = Ending} b ending.Aborted ending.Unknown) (eq-eqb t.epoch a.ids.epoch now))

  -- of an older epoch nothing is known, unless its decision stands
  abbrev pub IsPast : Fate → Type 0
  IsPast (Committed stamp js ds) = js ≡ []
  IsPast (Running c js) = ⊥
  IsPast (Finishing c js vs) = ⊥
  IsPast f = Unit {0}

  pub outcome_older_leads : IsQuiet a → a.is_down ≡ false → a.sessions client ≡ Some w → number ≡ w.last + 1 → is_trans_drawn (state_of a) t ≡ true → t.epoch < a.ids.epoch → IsPast (a.fates t)
      → Leads false a (call_entry a client number w (call.Outcome t) (reply.Ended ending.Unknown) []) (counted_as a client number w (reply.Ended ending.Unknown))
  outcome_older_leads q up there turn drawn older past =
      outcome_leads ending.Unknown q up there turn drawn (its (a.fates t) past)
    where
      away : (t.epoch == a.ids.epoch) ≡ false
      away = ne_eqb t.epoch a.ids.epoch (λ same. omega (arith, same, older))

      its : (f : Fate) → IsPast f → ending_of (state_of a) t f ≡ ending.Unknown
      its Undrawn h = refl
      its (Running c js) h = absurd h
      its (Finishing c js vs) h = absurd h
      its (Committed stamp js ds) h =
          ap (λ (ks : List JoinNo). ending_of (state_of a) t (Committed stamp ks ds)) h ∙ ap (λ (b : Bool). cond {A = Ending} b (ending.Committed stamp) ending.Unknown) away
      its (Forgotten stamp js) h = ap (λ (b : Bool). cond {A = Ending} b (ending.Committed stamp) ending.Unknown) away
      its (Ended c) h = ap (λ (b : Bool). cond {A = Ending} b ending.Aborted ending.Unknown) away
