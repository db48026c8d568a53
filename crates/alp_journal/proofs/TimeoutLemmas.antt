-- time runs out for a transaction of this server
use Rattle.std.specs.Prelude.{cond, Bool, true, false, ◌&&◌, ◌==◌, flat_map, Option, None, Some, if◌then◌else◌}
use Rattle.std.specs.List.{list_any, AllByRecursion}
use Rattle.std.specs.List.Sorted.{IsPermutation}
use Rattle.std.proofs.lemmas.List.Sorted.{IsPermutation-refl}
use Rattle.std.proofs.Common.{◌≡◌, ℕ, List, [], ◌∷◌, ◌++◌, refl, sym, ◌∙◌, ap, subst, eq-eqb}
use Rattle.alp_base.specs.declared.ids.JoinNo.{JoinNo}
use Rattle.alp_base.specs.declared.ids.TransId.{TransId}
use Rattle.alp_files.specs.declared.reply.Reply.{Reply}
use Rattle.alp_files.specs.declared.reply.Reply.TheVariants as reply
use Rattle.alp_files.specs.declared.refusal.Refusal.TheVariants as refusal
use Rattle.alp_files.specs.declared.refusal.Cause.TheVariants as cause
use Rattle.alp_journal.specs.declared.act.Act.{Act}
use Rattle.alp_journal.specs.declared.act.Act.TheVariants as act
use Rattle.alp_journal.specs.declared.event.Event.{Event}
use Rattle.alp_journal.specs.declared.event.Event.TheVariants as event
use Rattle.alp_journal.specs.declared.entry.Entry.{Entry}
use Rattle.alp_journal.specs.declared.message.Message.TheVariants as msg
use Rattle.alp_journal.specs.Along.{Along, Where, state_after}
use Rattle.alp_journal.specs.Ids.{same_trans, is_drawn}
use Rattle.alp_journal.specs.Deeds.{Deed, Ends, Quits, Releases}
use Rattle.alp_journal.specs.Coordinator.{Fate, Undrawn, Running, Finishing, Committed, Forgotten, Ended, is_running, joins_of}
use Rattle.alp_journal.specs.Coordinator as fate
use Rattle.alp_journal.specs.Participant.{open_in}
use Rattle.alp_journal.specs.Holder.{Life, with_life}
use Rattle.alp_journal.specs.Counts.{lock_set}
use Rattle.alp_journal.specs.State.{State, state_deed, is_whose}
use Rattle.alp_journal.specs.Halts.{HaltsRight}
use Rattle.alp_journal.specs.Moves.{is_stop, tried, told, halted, next, if_its, times_out_here, times_out_join, event_deeds, act_deeds}
use Rattle.alp_journal.specs.Laws.{IsLawfulDeed, DoLivesAgree, ReleasesEnded, WaitsInTurn, IsStopped, TellsStop, SaysRight, drawn_by, granted_by, released_by, ended_by, grants_of, regained_by}
use Rattle.alp_journal.specs.Messages.{Mail, to_each, on_timeout, due, sent_by}
use Rattle.alp_journal.specs.Answered.{CountsVotes, ForgetsDone, IsWalk, GivesOn, in_turn}
use Rattle.alp_journal.specs.Account.{Account, state_of, Stands, IsQuiet, granted_calls, with_granted, grant_acts, grant_deeds, sent_acts, Leads}
use Rattle.alp_journal.proofs.StandLemmas.{far_of_live, live_of_open, not_both_servers}
use Rattle.alp_journal.proofs.QuietLemmas.{quiet_up, none_tried}
use Rattle.alp_journal.proofs.CallLemmas.{IsMail, no_mail, quiet_votes, quiet_forgets}
use Rattle.alp_journal.proofs.LetGoLemmas.{IsGivenOn, given_then, GoesOn, let_go_quiet, let_go_reached, let_go_lawful, let_go_brought, let_go_released, let_go_granted, let_go_said, let_go_none, let_go_drawn, let_go_mail, let_go_turns}
use Rattle.alp_journal.proofs.OwnEnds.{aborts-said, aborts-addressed, part_ended, IsOwn, runs_as, here_as, known_as, now_as, fate_ended, ends_goes}

-- ---- time runs out

module _ (a : Account) (t : TransId) where
  abbrev pub timeout_entry : List Act → Entry
  timeout_entry acts = record { event = event.Timeout t; reply = None; acts = acts }

  -- a timeout's entry that brings these deeds
  pub timeout_so : (acts : List Act) (ds : List Deed) (m : Account) → list_any is_stop acts ≡ false → a.is_down ≡ false → flat_map drawn_by acts ≡ [] → tried (state_of a) (timeout_entry acts) ≡ ds
      → record (state_after state_deed (state_of a) ds) { is_down = false; pending = [] } ≡ state_of m → Along state_deed (IsLawfulDeed (event.Timeout t)) (state_of a) ds
      → flat_map released_by acts ≡ flat_map (ended_by (state_of a)) ds → flat_map granted_by acts ≡ flat_map grants_of ds → AllByRecursion (SaysRight (event.Timeout t) (state_of m)) acts
      → list_any regained_by acts ≡ false → IsQuiet m → IsMail (on_timeout t (a.fates t)) acts → GivesOn (state_of a) (timeout_entry acts) → Leads false a (timeout_entry acts) m
  timeout_so acts ds m up running drawn brought left lawful released granted said regained quiet mail turns =
      let s : State = state_of a in
      let e : Entry = timeout_entry acts in
      let ev : Event = event.Timeout t in
      let leaves : next s e ≡ state_of m = ap (λ (b : Bool). cond {A = State} b (halted s e) (told s e)) up ∙ ap (λ (xs : List Deed). record (state_after state_deed s xs) { is_down = false; pending = [] }) brought ∙ left in
      record {
        leaves = leaves;
        lawful = record {
          drawn = drawn;
          sessions = ap (λ (b : Bool). cond {A = Option Reply} b (Some (reply.Refused refusal.Down)) None) (sym up);
          deeds = subst (Along state_deed (IsLawfulDeed ev) s) (sym brought) lawful;
          agree = subst (λ (x : State). DoLivesAgree x.holder.lives) (sym leaves) quiet.settled.stands.agree;
          released = subst (λ (b : Bool). Where b (Unit {0}) (ReleasesEnded s e × WaitsInTurn (next s e))) (sym up)
              ((released ∙ ap (flat_map (ended_by s)) (sym brought), granted ∙ ap (flat_map grants_of) (sym brought)), subst WaitsInTurn (sym leaves) quiet.turns);
          sent = mail.last;
          said = subst (λ (x : State). AllByRecursion (SaysRight ev x) acts) (sym leaves) said;
          told = tt;
          restart = (regained, running);
          stopped = subst (λ (b : Bool). Where b (IsStopped acts × TellsStop ev None) (Unit {0})) (sym up) tt;
        };
        answered = record {
          answered = either (list_any is_stop acts);
          sent = subst (λ (b : Bool). Where b (Unit {0}) (IsPermutation (due false s (next s e) ev None) (flat_map sent_by acts))) (sym up) mail.all;
          ticks = tt;
          applied = either (list_any is_stop acts);
          votes = subst (λ (b : Bool). Where b (Unit {0}) (CountsVotes (next s e))) (sym up) (subst CountsVotes (sym leaves) (quiet_votes m quiet));
          forgets = subst (λ (b : Bool). Where b (Unit {0}) (ForgetsDone (next s e))) (sym up) (subst ForgetsDone (sym leaves) (quiet_forgets m quiet));
          turns = turns;
          grants = either (list_any is_stop acts);
          halted = subst (λ (b : Bool). Where b (HaltsRight s e) (Unit {0})) (sym up) tt;
        };
        quiet = quiet;
      }
    where
      either : (b : Bool) → Where b (Unit {0}) (Unit {0})
      either true = tt
      either false = tt

  -- where it does not run nothing comes of it
  abbrev pub as_it_was : Account
  as_it_was = record a { is_down = false; pending = [] }

  pub not_running : (f : Fate) → is_running f ≡ false → (fate.client_of f ≡ None) × (on_timeout t f ≡ [])
  not_running Undrawn h = (refl, refl)
  not_running (Running client joins) h = let wrong : true ≡ false = h in cc
  not_running (Finishing client joins votes) h = let wrong : true ≡ false = h in cc
  not_running (Committed stamp joins done) h = (refl, refl)
  not_running (Forgotten stamp joins) h = (refl, refl)
  not_running (Ended c) h = (refl, refl)

  -- no join that did not vote is of it
  abbrev pub HasNoOpen : Type 0
  HasNoOpen = (j : JoinNo) (x : TransId × ℕ) → open_in (a.phases j) ≡ Some x → same_trans x.0 t ≡ false

  none_out : HasNoOpen → (js : List JoinNo) → flat_map (times_out_join (state_of a) t) js ≡ []
  none_out none [] = refl
  none_out none (j ∷ js) = ap (λ (ds : List Deed). ds ++ flat_map (times_out_join (state_of a) t) js) (go (open_in (a.phases j)) refl) ∙ none_out none js
    where
      go : (x : Option (TransId × ℕ)) → open_in (a.phases j) ≡ x → times_out_join (state_of a) t j ≡ []
      go None e = ap (λ (x : Option (TransId × ℕ)). if_its t x (λ client. Quits j t client (Some cause.TimedOut) ∷ [])) e
      go (Some x) e = ap (λ (y : Option (TransId × ℕ)). if_its t y (λ client. Quits j t client (Some cause.TimedOut) ∷ [])) e
          ∙ ap (λ (b : Bool). cond {A = List Deed} b (Quits j t x.1 (Some cause.TimedOut) ∷ []) []) (none j x e)

  -- none is, of a transaction of this server
  own_none_open : Stands a → t.server ≡ a.holder.server → HasNoOpen
  own_none_open q here j x e = go (same_trans x.0 t) refl
    where
      go : (b : Bool) → same_trans x.0 t ≡ b → b ≡ false
      go false f = refl
      go true f =
          let opens : is_whose x.1 t (open_in (a.phases j)) ≡ true = ap (is_whose x.1 t) e ∙ ap (λ (b : Bool). b && x.1 == x.1) f ∙ eq-eqb x.1 x.1 refl in
          absurd (not_both_servers a.servers a.holder.server t.server (far_of_live a.servers a.holder.server a.ids.epoch a.ids.joins a.joined j x.1 t (a.phases j) (live_of_open x.1 t (a.phases j) opens) (q.phases j)) here)

  pub idle_leads : IsQuiet a → a.is_down ≡ false → is_running (a.fates t) ≡ false → HasNoOpen → Leads false a (timeout_entry []) as_it_was
  idle_leads q up none opens =
      let over = not_running (a.fates t) none in
      timeout_so [] [] as_it_was refl up refl ((λ i. (times_out_here t (over.0 i) ++ none_out opens a.joined i) ++ [] ++ [])) refl tt refl refl tt refl (quiet_up a q) (no_mail [] over.1 refl) tt

  -- else its part ends, and its client is to be told
  module _ (l : Life) where
    abbrev pub with_timeout : Account
    with_timeout = record a {
      holder = with_life a.holder t None;
      fates = λ u. if same_trans t u then fate.ended cause.TimedOut (a.fates u) else a.fates u;
      dead = λ d u. if d == l.client && same_trans u t then Some cause.TimedOut else a.dead d u;
      locked = lock_set a.locked t [];
      is_down = false;
      pending = [];
    }

    -- and what it held is given on
    abbrev pub with_timeout_given : List TransId → Account
    with_timeout_given ts = with_granted with_timeout (granted_calls a.waits ts)

    abbrev ended : Account
    ended = part_ended a l.client t l cause.TimedOut

    -- the parts of other servers are told
    abbrev pub late_aborts : List Mail
    late_aborts = to_each (λ (j : JoinNo). msg.Abort t j cause.TimedOut) (joins_of (a.fates t))

    on_late : (f : Fate) → fate.client_of f ≡ Some l.client → on_timeout t f ≡ to_each (λ (j : JoinNo). msg.Abort t j cause.TimedOut) (joins_of f)
    on_late Undrawn h = refl
    on_late (Running client joins) h = refl
    on_late (Finishing client joins votes) h = refl
    on_late (Committed stamp joins done) h = let wrong : None ≡ Some l.client = h in cc
    on_late (Forgotten stamp joins) h = let wrong : None ≡ Some l.client = h in cc
    on_late (Ended c) h = refl

    pub timeout_leads : IsQuiet a → a.is_down ≡ false → a.holder.lives t ≡ Some l → l.join ≡ None → (ts : List TransId) → IsWalk with_timeout.holder (in_turn with_timeout.holder a.waits) ts
        → Leads false a (timeout_entry ((act.Released t ∷ grant_acts ts) ++ sent_acts late_aborts)) (with_timeout_given ts)
    timeout_leads q up live part ts walk =
        let own : IsOwn a l.client t l cause.TimedOut = record { settled = q.settled; live = live; part = part; its = refl } in
        let runs : fate.client_of (a.fates t) ≡ Some l.client = runs_as a l.client t l cause.TimedOut own in
        let front : List Act = act.Released t ∷ [] in
        let back : List Deed = Ends t l.client cause.TimedOut ∷ Releases t ∷ [] in
        let ev : Event = event.Timeout t in
        let acts : List Act = (front ++ grant_acts ts) ++ sent_acts late_aborts in
        let goes : GoesOn a ended ev front back ts = ends_goes a l.client t l cause.TimedOut ev (λ u n. refl) own (none_tried a q up) ts walk in
        let brings : event_deeds (state_of a) ev None acts ++ flat_map (act_deeds (state_of a) ev) front ≡ back =
        (λ i. (times_out_here t (runs i) ++ none_out (own_none_open q.settled.stands (here_as a l.client t l cause.TimedOut own)) a.joined i) ++ Releases t ∷ []) in
        timeout_so acts (back ++ grant_deeds (granted_calls a.waits ts)) (with_timeout_given ts)
        (let_go_none a ended ev front back ts goes is_stop late_aborts (λ u. refl) (λ x. refl) refl) up (let_go_drawn a ended ev front back ts goes late_aborts [] refl)
        (let_go_brought a ended ev front back ts goes (event_deeds (state_of a) ev None acts) late_aborts brings)
        (ap (λ (s : State). record s { is_down = false; pending = [] }) (let_go_reached a ended ev front back ts goes))
        (let_go_lawful a ended ev front back ts goes)
        (let_go_released a ended ev front back ts goes late_aborts)
        (let_go_granted a ended ev front back ts goes late_aborts)
        (let_go_said a ended ev front back ts goes (state_of (with_timeout_given ts)) late_aborts (say own (given_then a ended ev front back ts goes)))
        (let_go_none a ended ev front back ts goes regained_by late_aborts (λ u. refl) (λ x. refl) refl)
        (quiet_up (with_granted ended (granted_calls a.waits ts)) (let_go_quiet a ended ev front back ts goes))
        (let_go_mail a ended ev front back ts goes (on_timeout t (a.fates t)) late_aborts (aborts-addressed t cause.TimedOut (joins_of (a.fates t)))
        (subst (λ (ms : List Mail). IsPermutation ms late_aborts) (sym (on_late (a.fates t) runs)) (IsPermutation-refl late_aborts)))
        (let_go_turns a ended ev front back ts goes (timeout_entry acts) late_aborts refl refl brings)
      where
        say : IsOwn a l.client t l cause.TimedOut → IsGivenOn a ended (state_of (with_granted ended (granted_calls a.waits ts))) → AllByRecursion (SaysRight (event.Timeout t) (state_of (with_timeout_given ts))) (sent_acts late_aborts)
        say own g = aborts-said (event.Timeout t) (state_of (with_timeout_given ts)) t cause.TimedOut (joins_of (a.fates t))
            ((λ i. is_drawn (g.server i) a.ids.epoch a.ids.transactions t.server t.epoch t.counter) ∙ (known_as a l.client t l cause.TimedOut own).0) (fate_ended a l.client t l cause.TimedOut own) (now_as a l.client t l cause.TimedOut own)
