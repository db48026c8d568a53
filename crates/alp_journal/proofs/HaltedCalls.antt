-- calls at which the device of a server stopped or failed
use Rattle.std.specs.Prelude.{cond, Bool, true, false, is_none, ◌&&◌, ◌||◌, ◌==◌, flat_map, Option, None, Some}
use Rattle.std.specs.List.{list_any, AllByRecursion}
use Rattle.std.specs.List.Sorted.{IsPermutation}
use Rattle.std.proofs.Common.{inl, inr, ◌≡◌, ◌⊎◌, ℕ, ◌+◌, List, [], ◌∷◌, ◌++◌, refl, sym, ◌∙◌, ap, subst, eq-eqb}
use Rattle.alp_base.specs.declared.ids.TransId.{TransId}
use Rattle.alp_base.specs.declared.ids.Stamp.{Stamp}
use Rattle.alp_files.specs.declared.call.Call.{Call}
use Rattle.alp_files.specs.declared.call.Call.TheVariants as call
use Rattle.alp_files.specs.declared.reply.Reply.{Reply}
use Rattle.alp_files.specs.declared.reply.Reply.TheVariants as reply
use Rattle.alp_files.specs.declared.refusal.Refusal.{Refusal}
use Rattle.alp_files.specs.declared.refusal.Refusal.TheVariants as refusal
use Rattle.alp_files.specs.declared.refusal.Why.{Why}
use Rattle.alp_files.specs.declared.refusal.Why.TheVariants as why
use Rattle.alp_files.specs.declared.refusal.Cause.{Cause}
use Rattle.alp_files.specs.declared.refusal.Cause.TheVariants as cause
use Rattle.alp_journal.specs.declared.act.Act.{Act}
use Rattle.alp_journal.specs.declared.act.Act.TheVariants as act
use Rattle.alp_journal.specs.declared.event.Event.{Event}
use Rattle.alp_journal.specs.declared.event.Event.TheVariants as event
use Rattle.alp_journal.specs.declared.entry.Entry.{Entry}
use Rattle.alp_journal.specs.Along.{Along, Where}
use Rattle.alp_journal.specs.Deeds.{Deed, Finishes, Decides}
use Rattle.alp_journal.specs.Coordinator.{Fate, Running}
use Rattle.alp_journal.specs.Holder.{Life}
use Rattle.alp_journal.specs.Desk.{Session, Waiting, file_trans, waiting_of, waiting_at}
use Rattle.alp_journal.specs.Counts.{ready_sum}
use Rattle.alp_journal.specs.State.{State, state_deed}
use Rattle.alp_journal.specs.Halts.{HaltsRight, written, by_call, by_finish, decides, is_some_act, writes, may_read, may_read_for, is_part_alive, is_part_at_work, is_performed_now}
use Rattle.alp_journal.specs.Moves.{call_of, finishes, is_new, is_stop, tried, told, halted, next, call_deeds, answered, done_of, done_by}
use Rattle.alp_journal.specs.Laws.{IsLawfulDeed, KeepsSessions, CallsOn, DoLivesAgree, ReleasesEnded, WaitsInTurn, IsStopped, TellsStop, SaysRight, drawn_by, granted_by, regained_by, sends_last}
use Rattle.alp_journal.specs.Messages.{clock_end, no_room, first_why, weights, all_ready, applying, why_not_own, due, sent_by}
use Rattle.alp_journal.specs.Answered.{is_release, CountsVotes, ForgetsDone, IsWalk, in_turn, at_release, GrantsAtOnce}
use Rattle.alp_journal.specs.Answers.{part_refusal, AnswersCall}
use Rattle.alp_journal.specs.Account.{Account, state_of, IsQuiet, HasTried, Leads}
use Rattle.alp_journal.proofs.StandLemmas.{own_pair}
use Rattle.alp_journal.proofs.QuietLemmas.{quiet_down}
use Rattle.alp_journal.proofs.CallLemmas.{call_entry, new_call, call_tried, calls_on}
use Rattle.alp_journal.proofs.RefusedCalls.{IsFileCall, file_call}
use Rattle.alp_journal.proofs.OwnEnds.{IsOwn, own_of, here_as, now_as}
use Rattle.alp_journal.proofs.CommitCalls.{commit_stamp, decides_lawful, finishes_lawful}

cond_same : {A : Type 0} (b : Bool) (x : A) → cond {A = A} b x x ≡ x
cond_same true x = refl
cond_same false x = refl

-- who votes for a commit has a clock that is not at its end
vote_within : (s : State) (t : TransId) → why_not_own false s t ≡ None → (s.holder.clock == clock_end) ≡ false
vote_within s t may = go (s.holder.clock == clock_end) (no_room s.sizes.area (ready_sum (weights s (all_ready s)) 0) (ready_sum (weights s (all_ready s)) (applying s t))) may
  where
    go : (b : Bool) (full : Option Why) → first_why false false b full ≡ None → b ≡ false
    go true full is = let wrong : Some why.ClockEnd ≡ None = is in cc
    go false full is = refl

module _ (a : Account) (client number : ℕ) (w : Session) where
  -- the server is down, and what was tried is to be seen at the restart
  abbrev pub with_halt : Entry → Account
  with_halt e = record a { is_down = true; pending = tried (state_of a) e }

  -- what is owed of a halted call
  pub record HaltOwes (c : Call) (acts : List Act) : Type 0 where
    pub greets : (e : Entry) → CallsOn (state_of a) a.ids.epoch number e (a.sessions client) → KeepsSessions (state_of a) e (event.Call client a.ids.epoch number c)
    pub stops : list_any is_stop acts ≡ true
    pub drawn : flat_map drawn_by acts ≡ []
    pub deeds : Along state_deed (IsLawfulDeed (event.Call client a.ids.epoch number c)) (state_of a) (tried (state_of a) (call_entry a client number w c (reply.Refused refusal.Down) acts))
    pub sent : sends_last acts ≡ true
    pub said : (m : State) → AllByRecursion (SaysRight (event.Call client a.ids.epoch number c) m) acts
    pub regained : list_any regained_by acts ≡ false
    pub stopped : IsStopped acts
    pub released : list_any is_release acts ≡ false
    pub halted : HaltsRight (state_of a) (call_entry a client number w c (reply.Refused refusal.Down) acts)
    pub tried : HasTried (with_halt (call_entry a client number w c (reply.Refused refusal.Down) acts))

  pub halt_leads : (c : Call) (acts : List Act) → IsQuiet a → a.is_down ≡ false → a.sessions client ≡ Some w → number ≡ w.last + 1 → HaltOwes c acts
      → Leads false a (call_entry a client number w c (reply.Refused refusal.Down) acts) (with_halt (call_entry a client number w c (reply.Refused refusal.Down) acts))
  halt_leads c acts q up there turn o =
      let s : State = state_of a in
      let r : Reply = reply.Refused refusal.Down in
      let e : Entry = call_entry a client number w c r acts in
      let ev : Event = event.Call client a.ids.epoch number c in
      let leaves : next s e ≡ state_of (with_halt e) = ap (λ (b : Bool). cond {A = State} b (halted s e) (told s e)) o.stops in
      record {
        leaves = leaves;
        lawful = record {
          drawn = o.drawn ∙ sym (cond_same {A = List TransId} (is_new s client a.ids.epoch number) []);
          sessions = o.greets e (calls_on a client number w c r acts there turn);
          deeds = o.deeds;
          agree = subst (λ (x : State). DoLivesAgree x.holder.lives) (sym leaves) q.settled.stands.agree;
          released = subst (λ (b : Bool). Where b (Unit {0}) (ReleasesEnded s e × WaitsInTurn (next s e))) (sym o.stops) tt;
          sent = o.sent;
          said = o.said (next s e);
          told = either (is_new s client a.ids.epoch number);
          restart = (o.regained, up);
          stopped = subst (λ (b : Bool). Where b (IsStopped acts × TellsStop ev (Some r)) (Unit {0})) (sym o.stops) (o.stopped, refl);
        };
        answered = record {
          answered = subst (λ (b : Bool). Where b (Unit {0}) (AnswersCall false s ev (Some r))) (sym o.stops) tt;
          sent = subst (λ (b : Bool). Where b (Unit {0}) (IsPermutation (due false s (next s e) ev (Some r)) (flat_map sent_by acts))) (sym o.stops) tt;
          ticks = tt;
          applied = either (list_any is_stop acts);
          votes = subst (λ (b : Bool). Where b (Unit {0}) (CountsVotes (next s e))) (sym o.stops) tt;
          forgets = subst (λ (b : Bool). Where b (Unit {0}) (ForgetsDone (next s e))) (sym o.stops) tt;
          turns = subst (λ (b : Bool). Where b (IsWalk (at_release s e) (in_turn (at_release s e) a.waits) (flat_map granted_by acts)) (Unit {0})) (sym o.released) tt;
          grants = subst (λ (b : Bool). Where b (Unit {0}) (GrantsAtOnce false s e ev (Some r))) (sym o.stops) tt;
          halted = subst (λ (b : Bool). Where b (HaltsRight s e) (Unit {0})) (sym o.stops) o.halted;
        };
        quiet = quiet_down a true (tried s e) q o.tried;
      }
    where
      either : (b : Bool) → Where b (Unit {0}) (Unit {0})
      either true = tt
      either false = tt

  -- what a call brings that is no Finish and is answered so
  abbrev IsStop : Act → Type 0
  IsStop x = (x ≡ act.Stopped) ⊎ (x ≡ act.Failed)

  -- in a file call nothing would have been written; it is stopped as it reads
  pub file_halt_leads : (t : TransId) (c : Call) → IsQuiet a → a.is_down ≡ false → a.sessions client ≡ Some w → number ≡ w.last + 1 → file_trans c ≡ Some t → part_refusal (state_of a) client t ≡ None
      → Leads false a (call_entry a client number w c (reply.Refused refusal.Down) (act.Stopped ∷ [])) (with_halt (call_entry a client number w c (reply.Refused refusal.Down) (act.Stopped ∷ [])))
  file_halt_leads t c q up there turn of works =
      halt_leads c (act.Stopped ∷ []) q up there turn (record {
        greets = is.greets;
        stops = refl;
        drawn = refl;
        deeds = subst (Along state_deed (IsLawfulDeed ev) (state_of a)) (sym (call_tried a client number w c (reply.Refused refusal.Down) (act.Stopped ∷ []) there turn ∙ none)) tt;
        tried = HasTried.nothing (call_tried a client number w c (reply.Refused refusal.Down) (act.Stopped ∷ []) there turn ∙ none);
        sent = refl;
        said = λ m. (tt, tt);
        regained = refl;
        stopped = refl;
        released = refl;
        halted = inl (record { reaches = reads; acts = ap (λ (ws : List Act). ws ++ act.Stopped ∷ []) (sym no_write) });
      })
    where
      ev : Event
      ev = event.Call client a.ids.epoch number c

      is : IsFileCall a client number w t c (reply.Refused refusal.Down)
      is = file_call a client number w t c (reply.Refused refusal.Down) of

      none : call_deeds (state_of a) client c (reply.Refused refusal.Down) ++ [] ++ done_of (state_of a) (reply.Refused refusal.Down) (answered (state_of a) client c) ≡ []
      none = ap (λ (ds : List Deed). ds ++ [] ++ done_of (state_of a) (reply.Refused refusal.Down) (answered (state_of a) client c)) is.deeds ∙ ap (done_of (state_of a) (reply.Refused refusal.Down)) is.own
          ∙ ap (done_by (state_of a) c (reply.Refused refusal.Down)) of

      no_write : written (state_of a) (event.Call client a.ids.epoch number c) ≡ []
      no_write = ap (λ (b : Bool). cond {A = List Act} b (by_call (state_of a) client c) []) (new_call a client number w there turn) ∙ is.needs_none

      reads : (writes (state_of a) (event.Call client a.ids.epoch number c) || may_read (state_of a) (event.Call client a.ids.epoch number c)) ≡ true
      reads =
          ap (λ (ws : List Act). (is_some_act ws || false) || (is_new (state_of a) client a.ids.epoch number && may_read_for (state_of a) client c)) no_write
          ∙ ap (λ (b : Bool). b && may_read_for (state_of a) client c) (new_call a client number w there turn)
          ∙ is.reads ∙ ap (is_part_at_work (state_of a) client) of ∙ ap (λ (x : Option Refusal). is_none x) works

  -- and so is a collect of a call that is granted
  pub collect_halt_leads : (n : ℕ) (v : Waiting) (t : TransId) → IsQuiet a → a.is_down ≡ false → a.sessions client ≡ Some w → number ≡ w.last + 1 → waiting_at (state_of a).desk client n ≡ Some v → file_trans v.call ≡ Some t
      → v.is_granted ≡ true → a.dead client t ≡ None
      → Leads false a (call_entry a client number w (call.Collect n) (reply.Refused refusal.Down) (act.Stopped ∷ [])) (with_halt (call_entry a client number w (call.Collect n) (reply.Refused refusal.Down) (act.Stopped ∷ [])))
  collect_halt_leads n v t q up there turn found named granted alive =
      halt_leads (call.Collect n) (act.Stopped ∷ []) q up there turn (record {
        greets = λ e h. h;
        stops = refl;
        drawn = refl;
        deeds = subst (Along state_deed (IsLawfulDeed ev) (state_of a)) (sym (call_tried a client number w (call.Collect n) (reply.Refused refusal.Down) (act.Stopped ∷ []) there turn ∙ none)) tt;
        tried = HasTried.nothing (call_tried a client number w (call.Collect n) (reply.Refused refusal.Down) (act.Stopped ∷ []) there turn ∙ none);
        sent = refl;
        said = λ m. (tt, tt);
        regained = refl;
        stopped = refl;
        released = refl;
        halted = inl (record { reaches = reads; acts = ap (λ (ws : List Act). ws ++ act.Stopped ∷ []) (sym no_write) });
      })
    where
      ev : Event
      ev = event.Call client a.ids.epoch number (call.Collect n)

      none : done_of (state_of a) (reply.Refused refusal.Down) (call_of (waiting_at (state_of a).desk client n)) ≡ []
      none = ap (λ (x : Option Waiting). done_of (state_of a) (reply.Refused refusal.Down) (call_of x)) found ∙ ap (done_by (state_of a) v.call (reply.Refused refusal.Down)) named

      no_write : written (state_of a) ev ≡ []
      no_write = cond_same {A = List Act} (is_new (state_of a) client a.ids.epoch number) []

      reads : (writes (state_of a) ev || may_read (state_of a) ev) ≡ true
      reads =
          ap (λ (ws : List Act). (is_some_act ws || false) || (is_new (state_of a) client a.ids.epoch number && is_performed_now (state_of a) client (waiting_at (state_of a).desk client n))) no_write
          ∙ ap (λ (b : Bool). b && is_performed_now (state_of a) client (waiting_at (state_of a).desk client n)) (new_call a client number w there turn)
          ∙ ap (is_performed_now (state_of a) client) found ∙ ap (λ (b : Bool). b && is_part_alive (state_of a) client (file_trans v.call)) granted
          ∙ ap (is_part_alive (state_of a) client) named ∙ ap (λ (x : Option Cause). is_none x) alive

  -- in a commit the decision would
  module _ (t : TransId) (l : Life) where
    commit_brought : a.fates t ≡ Running client [] → waiting_of (state_of a).desk client t ≡ None
        → finishes (state_of a).desk client t true (reply.Refused refusal.Down) (a.fates t) ++ (Decides (commit_stamp a client number w t l) [] ∷ []) ++ [] ≡ Finishes t ∷ Decides (commit_stamp a client number w t l) [] ∷ []
    commit_brought runs idle = ap (λ (f : Fate). finishes (state_of a).desk client t true (reply.Refused refusal.Down) f ++ (Decides (commit_stamp a client number w t l) [] ∷ []) ++ []) runs
        ∙ ap (λ (b : Bool). cond {A = List Deed} (b && is_none (waiting_of (state_of a).desk client t)) (Finishes t ∷ []) [] ++ (Decides (commit_stamp a client number w t l) [] ∷ []) ++ []) (eq-eqb client client refl)
        ∙ ap (λ (y : Option Waiting). cond {A = List Deed} (is_none y) (Finishes t ∷ []) [] ++ (Decides (commit_stamp a client number w t l) [] ∷ []) ++ []) idle

    commit_written : a.sessions client ≡ Some w → number ≡ w.last + 1 → a.fates t ≡ Running client [] → waiting_of (state_of a).desk client t ≡ None → why_not_own false (state_of a) t ≡ None
        → written (state_of a) (event.Call client a.ids.epoch number (call.Finish t true)) ≡ act.Decided (commit_stamp a client number w t l) [] ∷ []
    commit_written there turn runs idle may =
        ap (λ (b : Bool). cond {A = List Act} b (by_finish (state_of a) client t (a.fates t)) []) (new_call a client number w there turn)
        ∙ ap (by_finish (state_of a) client t) runs
        ∙ ap (λ (b : Bool). cond {A = List Act} (b && is_none (waiting_of (state_of a).desk client t)) (decides t (a.holder.clock + 1) [] (why_not_own false (state_of a) t)) []) (eq-eqb client client refl)
        ∙ ap (λ (y : Option Waiting). cond {A = List Act} (is_none y) (decides t (a.holder.clock + 1) [] (why_not_own false (state_of a) t)) []) idle
        ∙ ap (decides t (a.holder.clock + 1) []) may

    pub commit_halt_leads : (x : Act) → IsStop x → IsQuiet a → a.is_down ≡ false → a.sessions client ≡ Some w → number ≡ w.last + 1
        → a.holder.lives t ≡ Some l → a.fates t ≡ Running client [] → waiting_of (state_of a).desk client t ≡ None → why_not_own false (state_of a) t ≡ None
        → Leads false a (call_entry a client number w (call.Finish t true) (reply.Refused refusal.Down) (act.Decided (commit_stamp a client number w t l) [] ∷ x ∷ []))
        (with_halt (call_entry a client number w (call.Finish t true) (reply.Refused refusal.Down) (act.Decided (commit_stamp a client number w t l) [] ∷ x ∷ [])))
    commit_halt_leads x which q up there turn live runs idle may = go x which
      where
        stamp : Stamp
        stamp = commit_stamp a client number w t l

        mine : IsOwn a client t l cause.Asked
        mine = own_of a client t l cause.Asked q.settled live runs

        unvoted : l.vote ≡ None
        unvoted = (own_pair a q.settled.stands t l live mine.part).1

        here : t.server ≡ a.holder.server
        here = here_as a client t l cause.Asked mine

        now : t.epoch ≡ a.ids.epoch
        now = now_as a client t l cause.Asked mine

        lawful : (y : Act) → tried (state_of a) (call_entry a client number w (call.Finish t true) (reply.Refused refusal.Down) (act.Decided (commit_stamp a client number w t l) [] ∷ y ∷ [])) ≡ Finishes t ∷ Decides (commit_stamp a client number w t l) [] ∷ []
            → Along state_deed (IsLawfulDeed (event.Call client a.ids.epoch number (call.Finish t true))) (state_of a)
            (tried (state_of a) (call_entry a client number w (call.Finish t true) (reply.Refused refusal.Down) (act.Decided (commit_stamp a client number w t l) [] ∷ y ∷ [])))
        lawful y is = subst (Along state_deed (IsLawfulDeed (event.Call client a.ids.epoch number (call.Finish t true))) (state_of a)) (sym is)
            (finishes_lawful a client number w t l, (decides_lawful a client number w t l runs here now live unvoted idle, tt))

        as_tried : (y : Act) → tried (state_of a) (call_entry a client number w (call.Finish t true) (reply.Refused refusal.Down) (act.Decided (commit_stamp a client number w t l) [] ∷ y ∷ [])) ≡ Finishes t ∷ Decides (commit_stamp a client number w t l) [] ∷ []
            → HasTried (with_halt (call_entry a client number w (call.Finish t true) (reply.Refused refusal.Down) (act.Decided (commit_stamp a client number w t l) [] ∷ y ∷ [])))
        as_tried y is = HasTried.commit (record { stamp = stamp; life = l; tried = is; down = refl; time = refl; within = vote_within (state_of a) t may; own = here; now = now; live = live; own_part = mine.part; runs = runs ∙ ap (λ (n : ℕ). Running n []) (sym mine.its) })

        go : (x : Act) → IsStop x → Leads false a (call_entry a client number w (call.Finish t true) (reply.Refused refusal.Down) (act.Decided (commit_stamp a client number w t l) [] ∷ x ∷ []))
            (with_halt (call_entry a client number w (call.Finish t true) (reply.Refused refusal.Down) (act.Decided (commit_stamp a client number w t l) [] ∷ x ∷ [])))
        go x (inl e) = subst (λ (y : Act). Leads false a (call_entry a client number w (call.Finish t true) (reply.Refused refusal.Down) (act.Decided (commit_stamp a client number w t l) [] ∷ y ∷ []))
            (with_halt (call_entry a client number w (call.Finish t true) (reply.Refused refusal.Down) (act.Decided (commit_stamp a client number w t l) [] ∷ y ∷ [])))) (sym e)
            (halt_leads (call.Finish t true) (act.Decided (commit_stamp a client number w t l) [] ∷ act.Stopped ∷ []) q up there turn (record {
              greets = λ n h. h;
              stops = refl;
              drawn = refl;
              tried = as_tried act.Stopped (call_tried a client number w (call.Finish t true) (reply.Refused refusal.Down) (act.Decided (commit_stamp a client number w t l) [] ∷ act.Stopped ∷ []) there turn ∙ commit_brought runs idle);
              deeds = lawful act.Stopped (call_tried a client number w (call.Finish t true) (reply.Refused refusal.Down) (act.Decided (commit_stamp a client number w t l) [] ∷ act.Stopped ∷ []) there turn ∙ commit_brought runs idle);
              sent = refl;
              said = λ m. (tt, (tt, tt));
              regained = refl;
              stopped = (refl, refl);
              released = refl;
              halted = inl (record {
                reaches = ap (λ (ws : List Act). (is_some_act ws || false) || may_read (state_of a) (event.Call client a.ids.epoch number (call.Finish t true))) (commit_written there turn runs idle may);
                acts = ap (λ (ws : List Act). ws ++ act.Stopped ∷ []) (sym (commit_written there turn runs idle may));
              });
            }))
        go x (inr e) = subst (λ (y : Act). Leads false a (call_entry a client number w (call.Finish t true) (reply.Refused refusal.Down) (act.Decided (commit_stamp a client number w t l) [] ∷ y ∷ []))
            (with_halt (call_entry a client number w (call.Finish t true) (reply.Refused refusal.Down) (act.Decided (commit_stamp a client number w t l) [] ∷ y ∷ [])))) (sym e)
            (halt_leads (call.Finish t true) (act.Decided (commit_stamp a client number w t l) [] ∷ act.Failed ∷ []) q up there turn (record {
              greets = λ n h. h;
              stops = refl;
              drawn = refl;
              tried = as_tried act.Failed (call_tried a client number w (call.Finish t true) (reply.Refused refusal.Down) (act.Decided (commit_stamp a client number w t l) [] ∷ act.Failed ∷ []) there turn ∙ commit_brought runs idle);
              deeds = lawful act.Failed (call_tried a client number w (call.Finish t true) (reply.Refused refusal.Down) (act.Decided (commit_stamp a client number w t l) [] ∷ act.Failed ∷ []) there turn ∙ commit_brought runs idle);
              sent = refl;
              said = λ m. (tt, (tt, tt));
              regained = refl;
              stopped = (refl, refl);
              released = refl;
              halted = inr (record {
                reaches = ap (λ (ws : List Act). is_some_act ws || false) (commit_written there turn runs idle may);
                acts = ap (λ (ws : List Act). ws ++ act.Failed ∷ []) (sym (commit_written there turn runs idle may));
              });
            }))
