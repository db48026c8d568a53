-- file calls that are refused, and Finishes of parts that are not live
use Rattle.std.specs.Prelude.{cond, Bool, true, false, ◌&&◌, ◌==◌, is_none, is_some, Some, if◌then◌else◌}
use Rattle.std.proofs.lemmas.Bool.{eqb-true}
use Rattle.std.proofs.Common.{◌≡◌, ℕ, ◌+◌, List, [], ◌++◌, refl, sym, ◌∙◌, ap, subst, eq-eqb, arith}
use Rattle.alp_base.specs.declared.ids.JoinNo.{JoinNo}
use Rattle.alp_base.specs.declared.ids.TransId.{TransId}
use Rattle.alp_files.specs.declared.call.Call.{Call}
use Rattle.alp_files.specs.declared.call.Call.TheVariants as call
use Rattle.alp_files.specs.declared.reply.Reply.{Reply}
use Rattle.alp_files.specs.declared.reply.Reply.TheVariants as reply
use Rattle.alp_files.specs.declared.refusal.Refusal.{Refusal}
use Rattle.alp_files.specs.declared.refusal.Refusal.TheVariants as refusal
use Rattle.alp_files.specs.declared.refusal.Cause.{Cause}
use Rattle.alp_files.specs.declared.refusal.Cause.TheVariants as cause
use Rattle.alp_journal.specs.Along.{Where}
use Rattle.alp_journal.specs.declared.event.Event.TheVariants as event
use Rattle.alp_journal.specs.declared.entry.Entry.{Entry}
use Rattle.alp_journal.specs.declared.message.Message.TheVariants as msg
use Rattle.alp_journal.specs.Deeds.{Deed}
use Rattle.alp_journal.specs.Coordinator.{Fate, Vote, Undrawn, Running, Finishing, Committed, Forgotten, Ended}
use Rattle.alp_journal.specs.Desk.{Desk, Session, Waiting, file_trans, waiting_of, is_not_yet, begins_if, finished, waits_after, with_session}
use Rattle.alp_journal.specs.State.{has_part}
use Rattle.alp_journal.specs.Moves.{call_deeds, finishes, answered, done_by, done_of}
use Rattle.alp_journal.specs.Laws.{CallsOn, KeepsSessions}
use Rattle.alp_journal.specs.Messages.{Mail, on_call, on_finish, to_each}
use Rattle.alp_journal.specs.Halts.{by_call, may_read_for, is_part_at_work}
use Rattle.alp_journal.specs.Answered.{GrantsFor}
use Rattle.alp_journal.specs.Answers.{Part, NoPart, AtFinish, own_part, part_at, at_part, finish_reply, First, IsFileOf, IsFinishAnswer, IsFileCollectedOf, IsCollectedOf, IsAnswer}
use Rattle.alp_journal.specs.Account.{Account, state_of, IsQuiet, Leads}
use Rattle.alp_journal.proofs.StandLemmas.{no_own_join}
use Rattle.alp_journal.proofs.PartLemmas.{own_part_at}
use Rattle.alp_journal.proofs.CallLemmas.{no_mail, call_entry, new_call, IsCounted, call_leads}
use Rattle.alp_journal.proofs.QuietLemmas.{quiet_told, forgotten_part, quiet_forgotten}

-- nobody is asked for a vote where a call waits
fewer_asked : (t : TransId) (commit : Bool) (client : ℕ) (b : Bool) (f : Fate) → on_finish t commit client true f ≡ [] → on_finish t commit client b f ≡ []
fewer_asked t commit client true f h = h
fewer_asked t false client false f h = same f h
  where
    same : (f : Fate) → on_finish t false client true f ≡ [] → on_finish t false client false f ≡ []
    same (Running c js) h = h
    same Undrawn h = refl
    same (Finishing c js vs) h = refl
    same (Committed stamp js ds) h = refl
    same (Forgotten stamp js) h = refl
    same (Ended c) h = refl
fewer_asked t true client false f h = none f
  where
    none_of : (b : Bool) (ms : List Mail) → cond {A = List Mail} (b && false) ms [] ≡ []
    none_of true ms = refl
    none_of false ms = refl

    none : (f : Fate) → on_finish t true client false f ≡ []
    none (Running c js) = none_of (c == client) (to_each (msg.Ask t) js)
    none Undrawn = refl
    none (Finishing c js vs) = refl
    none (Committed stamp js ds) = refl
    none (Forgotten stamp js) = refl
    none (Ended c) = refl

-- ---- a call that is answered with another session's state

module _ (a : Account) (client number : ℕ) (w : Session) where
  -- the session counts the call, whose reply is kept
  abbrev pub counted_as : Reply → Account
  counted_as r = record a { sessions = λ c. if c == client then Some (record w { last = number; reply = r }) else a.sessions c; is_down = false; pending = [] }

  pub counted_quiet : (r : Reply) → IsQuiet a → a.sessions client ≡ Some w → number ≡ w.last + 1 → IsQuiet (counted_as r)
  counted_quiet r q there turn = quiet_told a client w (record w { last = number; reply = r }) there (omega (arith, turn)) q

  -- ---- a file call that is refused and not performed

  -- what holds of a file call, whichever it is
  pub record IsFileCall (t : TransId) (c : Call) (r : Reply) : Type 0 where
    pub named : file_trans c ≡ Some t
    pub plain : IsCounted a client number w c r
    pub greets : (e : Entry) → CallsOn (state_of a) a.ids.epoch number e (a.sessions client) → KeepsSessions (state_of a) e (event.Call client a.ids.epoch number c)
    pub deeds : call_deeds (state_of a) client c r ≡ []
    pub own : answered (state_of a) client c ≡ Some c
    pub leaves : (d : Desk) (live : TransId → Bool) → waits_after d live client number c r ≡ begins_if (is_not_yet r) d client number c
    pub mail : on_call (state_of a) client c r ≡ []
    pub answer : (failed : Bool) → IsFileOf failed (state_of a) client c r (file_trans c) → IsAnswer failed (state_of a) client c r
    pub collects : (failed : Bool) (v : Waiting) (x : Reply) → IsFileCollectedOf failed (state_of a) client v x (file_trans c) → IsCollectedOf failed (state_of a) client v x c
    pub needs_none : by_call (state_of a) client c ≡ []
    pub reads : may_read_for (state_of a) client c ≡ is_part_at_work (state_of a) client (file_trans c)

  pub file_call : (t : TransId) (c : Call) (r : Reply) → file_trans c ≡ Some t → IsFileCall t c r
  file_call t (call.CreateFile u start choice) r of = record { named = of; plain = λ m. refl; greets = λ e h. h; deeds = refl; own = refl; leaves = λ d live. refl; mail = refl; answer = λ failed h. h; collects = λ failed v x h. h; needs_none = refl; reads = refl }
  file_call t (call.OpenFile u f x mode choice) r of = record { named = of; plain = λ m. refl; greets = λ e h. h; deeds = refl; own = refl; leaves = λ d live. refl; mail = refl; answer = λ failed h. h; collects = λ failed v x h. h; needs_none = refl; reads = refl }
  file_call t (call.CloseFile u n) r of = record { named = of; plain = λ m. refl; greets = λ e h. h; deeds = refl; own = refl; leaves = λ d live. refl; mail = refl; answer = λ failed h. h; collects = λ failed v x h. h; needs_none = refl; reads = refl }
  file_call t (call.DeleteFile u n choice) r of = record { named = of; plain = λ m. refl; greets = λ e h. h; deeds = refl; own = refl; leaves = λ d live. refl; mail = refl; answer = λ failed h. h; collects = λ failed v x h. h; needs_none = refl; reads = refl }
  file_call t (call.ReadPages u n run mode choice) r of = record { named = of; plain = λ m. refl; greets = λ e h. h; deeds = refl; own = refl; leaves = λ d live. refl; mail = refl; answer = λ failed h. h; collects = λ failed v x h. h; needs_none = refl; reads = refl }
  file_call t (call.WritePages u n run pages choice) r of = record { named = of; plain = λ m. refl; greets = λ e h. h; deeds = refl; own = refl; leaves = λ d live. refl; mail = refl; answer = λ failed h. h; collects = λ failed v x h. h; needs_none = refl; reads = refl }
  file_call t (call.LockPages u n run mode choice) r of = record { named = of; plain = λ m. refl; greets = λ e h. h; deeds = refl; own = refl; leaves = λ d live. refl; mail = refl; answer = λ failed h. h; collects = λ failed v x h. h; needs_none = refl; reads = refl }
  file_call t (call.SetSize u n size choice) r of = record { named = of; plain = λ m. refl; greets = λ e h. h; deeds = refl; own = refl; leaves = λ d live. refl; mail = refl; answer = λ failed h. h; collects = λ failed v x h. h; needs_none = refl; reads = refl }
  file_call t (call.ReadProps u n) r of = record { named = of; plain = λ m. refl; greets = λ e h. h; deeds = refl; own = refl; leaves = λ d live. refl; mail = refl; answer = λ failed h. h; collects = λ failed v x h. h; needs_none = refl; reads = refl }
  file_call t (call.WriteProps u n change choice) r of = record { named = of; plain = λ m. refl; greets = λ e h. h; deeds = refl; own = refl; leaves = λ d live. refl; mail = refl; answer = λ failed h. h; collects = λ failed v x h. h; needs_none = refl; reads = refl }
  file_call t (call.ReadOwner u name choice) r of = record { named = of; plain = λ m. refl; greets = λ e h. h; deeds = refl; own = refl; leaves = λ d live. refl; mail = refl; answer = λ failed h. h; collects = λ failed v x h. h; needs_none = refl; reads = refl }
  file_call t (call.MakeOwner u name quota create choice) r of = record { named = of; plain = λ m. refl; greets = λ e h. h; deeds = refl; own = refl; leaves = λ d live. refl; mail = refl; answer = λ failed h. h; collects = λ failed v x h. h; needs_none = refl; reads = refl }
  file_call t (call.SetQuota u name quota choice) r of = record { named = of; plain = λ m. refl; greets = λ e h. h; deeds = refl; own = refl; leaves = λ d live. refl; mail = refl; answer = λ failed h. h; collects = λ failed v x h. h; needs_none = refl; reads = refl }
  file_call t (call.Hello name) r of = cc
  file_call t (call.Begin seen) r of = cc
  file_call t (call.Join u) r of = cc
  file_call t (call.Finish u commit) r of = cc
  file_call t (call.Outcome u) r of = cc
  file_call t (call.Collect n) r of = cc

  pub refused_leads : (failed : Bool) (t : TransId) (c : Call) (f : Refusal) → IsQuiet a → a.is_down ≡ false → a.sessions client ≡ Some w → number ≡ w.last + 1 → file_trans c ≡ Some t
      → is_not_yet (reply.Refused f) ≡ false → done_by (state_of a) c (reply.Refused f) (Some t) ≡ [] → IsFileOf failed (state_of a) client c (reply.Refused f) (Some t) → GrantsFor failed (state_of a) client c (reply.Refused f) [] (Some t)
      → Leads failed a (call_entry a client number w c (reply.Refused f) []) (counted_as (reply.Refused f))
  refused_leads failed t c f q up there turn of now none why grants =
      let r : Reply = reply.Refused f in
      let is : IsFileCall t c r = file_call t c r of in
      call_leads a client number w failed c r [] [] (counted_as r) there turn (record {
        plain = is.plain;
        greets = is.greets;
        up = refl;
        running = up;
        brought = ap (λ (ds : List Deed). ds ++ [] ++ done_of (state_of a) r (answered (state_of a) client c)) is.deeds ∙ ap (done_of (state_of a) r) is.own ∙ ap (done_by (state_of a) c r) of ∙ none;
        new = new_call a client number w there turn;
        there = there;
        left = ap (λ (d : Desk). record (state_of a) { desk = d; is_down = false; pending = [] }) (
            is.leaves (with_session (state_of a).desk client (Some (record w { last = number; reply = r }))) (has_part (state_of a) client)
            ∙ ap (λ (b : Bool). begins_if b (with_session (state_of a).desk client (Some (record w { last = number; reply = r }))) client number c) now);
        drawn = refl;
        deeds = tt;
        released = refl;
        granted = refl;
        said = tt;
        tells = tt;
        regained = refl;
        quiet = counted_quiet r q there turn;
        answer = is.answer failed (subst (IsFileOf failed (state_of a) client c r) (sym of) why);
        mail = no_mail [] is.mail refl;
        turns = tt;
        grants = subst (GrantsFor failed (state_of a) client c r []) (sym of) grants;
      })

  -- ---- a Finish that ends no live part

  -- the part is not known any more, and its waiting call goes with it
  abbrev pub without_dead : TransId → Account → Account
  without_dead t m = forgotten_part client t m

  finish_owes : (t : TransId) (commit : Bool) (f : Refusal) (m : Account) → IsQuiet m → a.is_down ≡ false → a.sessions client ≡ Some w → number ≡ w.last + 1
      → finishes (state_of a).desk client t commit (reply.Refused f) (a.fates t) ≡ [] → on_finish t commit client true (a.fates t) ≡ [] → is_not_yet (reply.Refused f) ≡ false
      → IsFinishAnswer false (state_of a) client t commit (reply.Refused f)
      → record (state_of a) { desk = finished (with_session (state_of a).desk client (Some (record w { last = number; reply = reply.Refused f }))) client t (reply.Refused f); is_down = false; pending = [] } ≡ state_of m
      → Leads false a (call_entry a client number w (call.Finish t commit) (reply.Refused f) []) m
  finish_owes t commit f m after up there turn deeds mail now why left =
      call_leads a client number w false (call.Finish t commit) (reply.Refused f) [] [] m there turn (record {
        plain = λ x. refl;
        greets = λ e h. h;
        up = refl;
        running = up;
        brought = ap (λ (ds : List Deed). ds ++ [] ++ []) deeds;
        new = new_call a client number w there turn;
        there = there;
        left = ap (λ (b : Bool). record (state_of a) {
          desk = finished (begins_if b (with_session (state_of a).desk client (Some (record w { last = number; reply = reply.Refused f }))) client number (call.Finish t commit)) client t (reply.Refused f);
          is_down = false;
          pending = [];
        }) now ∙ left;
        drawn = refl;
        deeds = tt;
        released = refl;
        granted = refl;
        said = tt;
        tells = tt;
        regained = refl;
        quiet = after;
        answer = why;
        mail = no_mail [] (fewer_asked t commit client (is_none (waiting_of (state_of a).desk client t)) (a.fates t) mail) refl;
        turns = tt;
        grants = tt;
      })

  -- nothing is known of it
  pub unknown_finish_leads : (t : TransId) (commit : Bool) → IsQuiet a → a.is_down ≡ false → a.sessions client ≡ Some w → number ≡ w.last + 1
      → finishes (state_of a).desk client t commit (reply.Refused refusal.UnknownTrans) (a.fates t) ≡ [] → on_finish t commit client true (a.fates t) ≡ []
      → IsFinishAnswer false (state_of a) client t commit (reply.Refused refusal.UnknownTrans)
      → Leads false a (call_entry a client number w (call.Finish t commit) (reply.Refused refusal.UnknownTrans) []) (counted_as (reply.Refused refusal.UnknownTrans))
  unknown_finish_leads t commit q up there turn deeds mail why =
      finish_owes t commit refusal.UnknownTrans (counted_as (reply.Refused refusal.UnknownTrans)) (counted_quiet (reply.Refused refusal.UnknownTrans) q there turn) up there turn deeds mail refl why refl

  -- only the server of a transaction tells of its end
  finish_here : (t : TransId) (commit : Bool) (c : Cause) → IsFinishAnswer false (state_of a) client t commit (reply.Refused (refusal.Aborted c)) → t.server ≡ a.holder.server
  finish_here t commit c why = go (t.server == a.holder.server) refl why
    where
      go : (b : Bool) → (t.server == a.holder.server) ≡ b
          → Where b (First (at_part (commit && is_some (waiting_of (state_of a).desk client t)) (part_at (state_of a) client t)) (reply.Refused (refusal.Aborted c)) (reply.Refused (refusal.Aborted c) ≡ (if commit then finish_reply false (state_of a) t (a.fates t) else reply.Refused (refusal.Aborted cause.Asked))))
          (reply.Refused (refusal.Aborted c) ≡ reply.Refused refusal.UnknownTrans) → t.server ≡ a.holder.server
      go true e h = eqb-true t.server a.holder.server e
      go false e h = let wrong : reply.Refused (refusal.Aborted c) ≡ reply.Refused refusal.UnknownTrans = h in cc

  -- it ended before, and its client is told why
  pub dead_finish_leads : (t : TransId) (commit : Bool) (c : Cause) → IsQuiet a → a.is_down ≡ false → a.sessions client ≡ Some w → number ≡ w.last + 1
      → finishes (state_of a).desk client t commit (reply.Refused (refusal.Aborted c)) (a.fates t) ≡ [] → on_finish t commit client true (a.fates t) ≡ []
      → IsFinishAnswer false (state_of a) client t commit (reply.Refused (refusal.Aborted c))
      → Leads false a (call_entry a client number w (call.Finish t commit) (reply.Refused (refusal.Aborted c)) []) (without_dead t (counted_as (reply.Refused (refusal.Aborted c))))
  dead_finish_leads t commit c q up there turn deeds mail why =
      finish_owes t commit (refusal.Aborted c) (without_dead t (counted_as (reply.Refused (refusal.Aborted c)))) (quiet_forgotten client t (counted_as (reply.Refused (refusal.Aborted c))) (no_own_join a q.settled.stands t (finish_here t commit c why) client) refl (counted_quiet (reply.Refused (refusal.Aborted c)) q there turn)) up there turn deeds mail refl why refl

  -- its client finishes it already, and waits for the votes
  pub finishing_finish_leads : (t : TransId) (commit : Bool) (js : List JoinNo) (vs : List Vote) → IsQuiet a → a.is_down ≡ false → a.sessions client ≡ Some w → number ≡ w.last + 1
      → t.server ≡ a.holder.server → a.fates t ≡ Finishing client js vs
      → Leads false a (call_entry a client number w (call.Finish t commit) (reply.Refused refusal.Finishing) []) (counted_as (reply.Refused refusal.Finishing))
  finishing_finish_leads t commit js vs q up there turn here is =
      let r : Reply = reply.Refused refusal.Finishing in
      finish_owes t commit refusal.Finishing (counted_as r) (counted_quiet r q there turn) up there turn
      (ap (finishes (state_of a).desk client t commit r) is ∙ none commit) (ap (on_finish t commit client true) is ∙ silent commit) refl
      (subst (λ (b : Bool). Where b (First (at_part (commit && is_some (waiting_of (state_of a).desk client t)) (part_at (state_of a) client t)) r (r ≡ (if commit then finish_reply false (state_of a) t (a.fates t) else reply.Refused (refusal.Aborted cause.Asked)))) (r ≡ reply.Refused refusal.UnknownTrans))
      (sym (eq-eqb t.server a.holder.server here))
      (subst (λ (p : Part). First (at_part (commit && is_some (waiting_of (state_of a).desk client t)) p) r (r ≡ (if commit then finish_reply false (state_of a) t (a.fates t) else reply.Refused (refusal.Aborted cause.Asked))))
      (sym (own_part_at a t client here ∙ ap (own_part client (a.dead client t)) is ∙ ap (λ (b : Bool). cond {A = Part} b AtFinish NoPart) (eq-eqb client client refl))) refl)) refl
    where
      none : (b : Bool) → finishes (state_of a).desk client t b (reply.Refused refusal.Finishing) (Finishing client js vs) ≡ []
      none true = refl
      none false = refl

      silent : (b : Bool) → on_finish t b client true (Finishing client js vs) ≡ []
      silent true = refl
      silent false = refl
