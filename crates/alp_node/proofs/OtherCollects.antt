-- Joins and Finishes that are collected
use Rattle.std.specs.Prelude.{cond, Bool, true, false, not, ◌==◌, ◌&&◌, ◌||◌, find, IsTrue, Ok, Option, None, Some, is_some, is_none, IsSome}
use Rattle.std.specs.List.{AllByRecursion}
use Rattle.std.specs.Option.{option_map}
use Rattle.std.specs.FinMap.Entries as entries
use Rattle.std.proofs.Common.{inl, inr, ◌≡◌, ℕ, List, [], ◌∷◌, refl, sym, ◌∙◌, ap, subst, eq-eqb}
use Rattle.std.proofs.lemmas.Bool.{eqb-true, and_parts}
use Rattle.alp_base.specs.declared.ids.JoinNo.{JoinNo}
use Rattle.alp_base.specs.declared.ids.Stamp.{Stamp}
use Rattle.alp_base.specs.declared.ids.TransId.{TransId}
use Rattle.alp_files.specs.History.{Decided}
use Rattle.alp_files.specs.declared.call.Call.{Call}
use Rattle.alp_files.specs.declared.call.Call.TheVariants as call
use Rattle.alp_files.specs.declared.refusal.Cause.{Cause}
use Rattle.alp_files.specs.declared.refusal.Refusal.TheVariants as refusal
use Rattle.alp_files.specs.declared.reply.Ended.{Ended as Ending}
use Rattle.alp_files.specs.declared.reply.Ended.TheVariants as ending
use Rattle.alp_files.specs.declared.reply.Reply.{Reply}
use Rattle.alp_files.specs.declared.reply.Reply.TheVariants as reply
use Rattle.alp_vault.specs.Contents.{Contents}
use Rattle.alp_vault.specs.declared.vault.Vault.{Ghosts}
use Rattle.alp_journal.specs.declared.event.Event.TheVariants as event
use Rattle.alp_journal.specs.Account.{Account, state_of, Leads, IsQuiet, IsFateOf as IsToldFate}
use Rattle.alp_journal.specs.Answered.{is_read_fault}
use Rattle.alp_journal.specs.Answers.{Part, NoPart, AtJoining, AtWork, AtFinish, AtReady, AtEnd, part_at, join_collected, finish_collected}
use Rattle.alp_journal.specs.Coordinator.{Fate, Undrawn, Running, Finishing, Committed, Forgotten, Ended, decision_in}
use Rattle.alp_journal.specs.Desk.{Session, Waiting, file_trans, part_trans, waiting_at, without}
use Rattle.alp_journal.specs.Ids.{stamp_cmp, is_drawn}
use Rattle.alp_journal.specs.Laws.{ending_of}
use Rattle.alp_journal.specs.State.{is_trans_drawn}
use Rattle.alp_journal.proofs.CallLemmas.{call_entry}
use Rattle.alp_journal.proofs.CollectCalls.{uncollected}
use Rattle.alp_journal.proofs.CollectJoins.{OtherOwes, collect_joined_leads, collect_join_waits_leads, collect_join_dead_leads, collect_finish_waits_leads, collect_finish_dead_leads, collect_decided_leads}
use Rattle.alp_journal.proofs.MadeIds.{all-map}
use Rattle.alp_journal.proofs.RefusedCalls.{counted_as}
use Rattle.alp_journal.proofs.WaitLemmas.{IsOnly, each-only}
use Rattle.alp_coord.specs.Coordinators.{count_of, is_known}
use Rattle.alp_locks.proofs.SoundLemmas.{each-filter, each-more}
use Rattle.alp_turns.specs.Queues.{request_at, queue_of}
use Rattle.alp_turns.proofs.MoveLemmas.{GoesIdle, queue_without}
use Rattle.alp_node.specs.Dead.{cause_in}
use Rattle.alp_node.specs.Halts.{says_shut}
use Rattle.alp_node.specs.Outcomes.{stamp_if}
use Rattle.alp_node.specs.ServerState.{IsAs, IsReady, IsWaitingAs}
use Rattle.alp_node.specs.Standings.{standing_of}
use Rattle.alp_node.specs.Steps.{Stepped, IsStep, IsTurn, counted_in, told_answer, refused_answer}
use Rattle.alp_node.specs.Turns.{HasTurned, IsKeepable}
use Rattle.alp_node.specs.Waits.{waiting, waiting_calls, is_at, is_other_at, call_at, finish_trans, join_trans, without_other_at, IsCurrent, IsNamed, IsCallBy, IsWaitingCall}
use Rattle.alp_node.specs.declared.answer.Answer.{Answer}
use Rattle.alp_node.specs.declared.lock_counts.LockCounts.{LockCounts}
use Rattle.alp_node.specs.declared.served.Standing.{Standing}
use Rattle.alp_node.specs.declared.served.Standing.TheVariants as standing
use Rattle.alp_node.specs.declared.server_state.ServerState.{ServerState}
use Rattle.alp_node.specs.declared.sessions.CallOrder.TheVariants as order
use Rattle.alp_node.specs.declared.sessions.Turn.{Turn}
use Rattle.alp_node.specs.declared.waits.WaitingCall.{WaitingCall}
use Rattle.alp_node.proofs.BesideLemmas.{AreNamed, at_told, filter_told}
use Rattle.alp_node.proofs.FinishLemmas.{turn_session, counts_as}
use Rattle.alp_node.proofs.KeptLemmas.{session_of, session_then, sessions_as, stands_timely, stepped_so}
use Rattle.alp_node.proofs.MapLemmas.{places_set}
use Rattle.alp_node.proofs.NoteCalls.{call_notes}
use Rattle.alp_node.proofs.OutcomeLemmas.{outcome_of, ending_here, ending_said, known_is}
use Rattle.alp_node.proofs.ReadyLemmas.{counted_ready, without_other_ready}
use Rattle.alp_node.proofs.StandingLemmas.{IsPartFor, part_told, ended_told}
use Rattle.alp_node.proofs.StepLemmas.{plain_step}
use Rattle.alp_node.proofs.WaitLemmas.{find_each, named_all}

-- ---- which call it is

pub finish_is : (t : TransId) (c : Call) → finish_trans c ≡ Some t → (commit : Bool) × (c ≡ call.Finish t commit)
finish_is t (call.Finish u commit) e = (commit, ap (λ (x : Option TransId). call.Finish (or_else x) commit) e)
  where
    or_else : Option TransId → TransId
    or_else None = t
    or_else (Some v) = v
finish_is t c e = let wrong : None ≡ Some t = e in cc

pub join_is : (t : TransId) (c : Call) → join_trans c ≡ Some t → c ≡ call.Join t
join_is t (call.Join u) e = ap (λ (x : Option TransId). call.Join (or_else x)) e
  where
    or_else : Option TransId → TransId
    or_else None = t
    or_else (Some v) = v
join_is t c e = let wrong : None ≡ Some t = e in cc

-- ---- what a Finish is answered

module _ {V : Type 0} (a : Account) (held : Contents) (k : ServerState V) (t : TransId) (h : IsAs a held k) (now : t.epoch ≡ k.epoch) where
  of_now : (t.epoch == a.ids.epoch) ≡ true
  of_now = eq-eqb t.epoch a.ids.epoch (now ∙ sym h.epoch)

  abbrev told_ending : Fate → Ending
  told_ending f = ending_of (state_of a) t f

  stamp_same : (p q : Stamp × List JoinNo) → Some p ≡ Some q → p.0 ≡ q.0
  stamp_same p q e = ap (λ (o : Option (Stamp × List JoinNo)). first o) e
    where
      first : Option (Stamp × List JoinNo) → Stamp
      first None = p.0
      first (Some z) = z.0

  committed_now : (stamp : Stamp) (js : List JoinNo) (f : Fate) → decision_in f ≡ Some (stamp, js) → told_ending f ≡ ending.Committed stamp
  committed_now stamp js (Committed x [] ds) e = ap (λ (b : Bool). cond {A = Ending} b (ending.Committed x) ending.Unknown) of_now ∙ ap ending.Committed (stamp_same (x, []) (stamp, js) e)
  committed_now stamp js (Committed x (i ∷ is) ds) e = ap ending.Committed (stamp_same (x, i ∷ is) (stamp, js) e)
  committed_now stamp js (Forgotten x ks) e = ap (λ (b : Bool). cond {A = Ending} b (ending.Committed x) ending.Unknown) of_now ∙ ap ending.Committed (stamp_same (x, ks) (stamp, js) e)
  committed_now stamp js Undrawn e = let wrong : None ≡ Some (stamp, js) = e in cc
  committed_now stamp js (Running c ks) e = let wrong : None ≡ Some (stamp, js) = e in cc
  committed_now stamp js (Finishing c ks vs) e = let wrong : None ≡ Some (stamp, js) = e in cc
  committed_now stamp js (Ended c) e = let wrong : None ≡ Some (stamp, js) = e in cc

  -- it is told committed where it is decided
  pub decided_told : (stamp : Stamp) → ending_here k t ≡ ending.Committed stamp → (js : List JoinNo) × (decision_in (a.fates t) ≡ Some (stamp, js))
  decided_told stamp e = go (a.fates t) refl (ending_said a held k t h ∙ e)
    where
      either : (b : Bool) (x : Stamp) → cond {A = Ending} b (ending.Committed x) ending.Unknown ≡ ending.Committed stamp → x ≡ stamp
      either true x e = same e
        where
          same : ending.Committed x ≡ ending.Committed stamp → x ≡ stamp
          same e = cc
      either false x e = let wrong : ending.Unknown ≡ ending.Committed stamp = e in cc

      go : (f : Fate) → a.fates t ≡ f → told_ending f ≡ ending.Committed stamp → (js : List JoinNo) × (decision_in (a.fates t) ≡ Some (stamp, js))
      go (Committed x [] ds) is e = ([], ap decision_in is ∙ ap (λ (y : Stamp). Some (y, [])) (either (t.epoch == a.ids.epoch) x e))
      go (Committed x (j ∷ js) ds) is e = (j ∷ js, ap decision_in is ∙ ap (λ (y : Stamp). Some (y, j ∷ js)) (same e))
        where
          same : ending.Committed x ≡ ending.Committed stamp → x ≡ stamp
          same e = cc
      go (Forgotten x js) is e = (js, ap decision_in is ∙ ap (λ (y : Stamp). Some (y, js)) (either (t.epoch == a.ids.epoch) x e))
      go Undrawn is e = let wrong : ending.Unknown ≡ ending.Committed stamp = e in cc
      go (Running c js) is e = let wrong : ending.Running ≡ ending.Committed stamp = e in cc
      go (Finishing c js vs) is e = let wrong : ending.Running ≡ ending.Committed stamp = e in cc
      go (Ended c) is e = absurd (never (t.epoch == a.ids.epoch) e)
        where
          never : (b : Bool) → cond {A = Ending} b ending.Aborted ending.Unknown ≡ ending.Committed stamp → ⊥
          never true e = let wrong : ending.Aborted ≡ ending.Committed stamp = e in cc
          never false e = let wrong : ending.Unknown ≡ ending.Committed stamp = e in cc

  -- and where it is not told so, it is not
  undecided : ((stamp : Stamp) → outcome_of k t ≡ Some (ending.Committed stamp) → ⊥) → (stamp : Stamp) (js : List JoinNo) → decision_in (a.fates t) ≡ Some (stamp, js) → ⊥
  undecided none stamp js is =
      none stamp (ap (λ (b : Bool). cond {A = Option Ending} b (Some (ending_here k t)) None) (sym (known_is a held k t h) ∙ drawn (a.fates t) is (h.quiet.settled.stands.fates t)) ∙ ap Some (sym (ending_said a held k t h) ∙ committed_now stamp js (a.fates t) is))
    where
      drawn : (f : Fate) → decision_in f ≡ Some (stamp, js) → IsToldFate a.servers a.holder.server a.ids.epoch a.ids.transactions a.begun t f → is_trans_drawn (state_of a) t ≡ true
      drawn (Committed x ks ds) e q = q.0.0
      drawn (Forgotten x ks) e q = q.0.0
      drawn Undrawn e q = let wrong : None ≡ Some (stamp, js) = e in cc
      drawn (Running c ks) e q = let wrong : None ≡ Some (stamp, js) = e in cc
      drawn (Finishing c ks vs) e q = let wrong : None ≡ Some (stamp, js) = e in cc
      drawn (Ended c) e q = let wrong : None ≡ Some (stamp, js) = e in cc

  -- then its client is told its end, or has to wait
  pub uncommitted_told : ((stamp : Stamp) → outcome_of k t ≡ Some (ending.Committed stamp) → ⊥) → (d : Option Cause) (r : Reply) → finish_collected d Undrawn ≡ r → finish_collected d (a.fates t) ≡ r
  uncommitted_told none d r is = go (a.fates t) d (undecided none) is
    where
      go : (f : Fate) (d : Option Cause) → ((stamp : Stamp) (js : List JoinNo) → decision_in f ≡ Some (stamp, js) → ⊥) → finish_collected d Undrawn ≡ r → finish_collected d f ≡ r
      go (Committed x js ds) d never is = absurd (never x js refl)
      go (Forgotten x js) d never is = absurd (never x js refl)
      go Undrawn d never is = is
      go (Running c js) None never is = is
      go (Running c js) (Some y) never is = is
      go (Finishing c js vs) None never is = is
      go (Finishing c js vs) (Some y) never is = is
      go (Ended c) None never is = is
      go (Ended c) (Some y) never is = is

-- ---- as the journal tells it

module _ {V : Type 0} (a : Account) (before now : ℕ) (held : Contents) (k : ServerState V) (turn : Turn) (n : ℕ) (w : WaitingCall) (m : ℕ) (on : Bool) (ready : IsReady m on k) (found : call_at turn.client n k.waits ≡ Some w) (counts : w.counts ≡ None) (files : file_trans w.call ≡ None) where
  abbrev is_it : Waiting → Bool
  is_it u = u.client == turn.client && u.number == n

  pub call_is : IsWaitingCall k.server k.epoch k.given (count_of k.coordinator) k.sizes k.lives w
  call_is = (find_each (IsWaitingCall k.server k.epoch k.given (count_of k.coordinator) k.sizes k.lives) (is_at turn.client n) k.waits w found ready.waits.calls).0

  module _ (h : IsAs a held k) (is : IsTurn k.sessions turn) (up : k.is_down ≡ false) where
    abbrev s : Session
    s = session_of turn is

    owes : OtherOwes a turn.client turn.number s n (waiting w)
    owes = record {
      quiet = h.quiet;
      up = h.down ∙ up;
      there = turn_session a held k turn h is;
      turn = is.number;
      found = at_told a turn.client n k.waits h.waits ∙ ap (option_map waiting) found;
      files = files;
    }

    abbrev Refuses : Reply → Answer → Type 0
    Refuses r x = Stepped a before now held (record k { sessions = counted_in k.sessions turn r }) (event.Call turn.client k.epoch turn.number (call.Collect n)) x

    -- it waits on
    stays : (r : Reply) (x : Answer) → Leads false a (call_entry a turn.client turn.number s (call.Collect n) r []) (counted_as a turn.client turn.number s r) → x ≡ told_answer (Some r) [] → Refuses r x
    stays r x leads so =
        stepped_so a before now held held k (record k { sessions = counted_in k.sessions turn r }) turn.client turn.number s (call.Collect n) false r [] (counted_as a turn.client turn.number s r) x so h leads
        (counts_as a held k turn r h is up) (λ e. cc) (stands_timely a.holder.clock 0 k.clock h.clock)

    -- ---- it goes

    named : AreNamed k.waits
    named = named_all k.server k.epoch k.given (count_of k.coordinator) k.sizes k.lives k.waits ready.waits.calls

    each_one : AllByRecursion (IsOnly a.waits) a.waits
    each_one = each-only a.waits h.quiet.settled.tells.apart

    same_waiting : (u v : Waiting) → Some u ≡ Some v → u ≡ v
    same_waiting u v e = cc

    its : (u : Waiting) → IsOnly a.waits u → is_it u ≡ true → u ≡ waiting w
    its u only e =
        let both = and_parts (u.client == turn.client) (u.number == n) e in
        same_waiting u (waiting w) (sym only.by_number ∙ (λ i. find (λ (v : Waiting). v.client == eqb-true u.client turn.client both.0 i && v.number == eqb-true u.number n both.1 i) a.waits) ∙ owes.found)

    -- the only call of that number is no file call
    no_file : (u : WaitingCall) → IsNamed u → waiting u ≡ waiting w → is_none u.counts ≡ true
    no_file u name same = go u.counts name
      where
        go : (x : Option LockCounts) → IsCallBy u.call u.trans x → is_none x ≡ true
        go None e = refl
        go (Some z) e = let wrong : Some u.trans ≡ None = sym e ∙ ap (λ (v : Waiting). file_trans v.call) same ∙ files in cc

    left_same : without is_it a.waits ≡ waiting_calls (without_other_at turn.client n k.waits)
    left_same = ap (without is_it) h.waits ∙ filter_told (λ (u : Waiting). not (is_it u)) (λ (u : WaitingCall). not (is_other_at turn.client n u)) k.waits (each k.waits named (subst (AllByRecursion (IsOnly a.waits)) h.waits each_one))
      where
        alike : (u : WaitingCall) → IsNamed u → IsOnly a.waits (waiting u) → (b : Bool) → is_it (waiting u) ≡ b → not b ≡ not (b && is_none u.counts)
        alike u name only false e = refl
        alike u name only true e = sym (ap not (no_file u name (its (waiting u) only e)))

        one : (u : WaitingCall) → IsNamed u → IsOnly a.waits (waiting u) → not (is_it (waiting u)) ≡ not (is_other_at turn.client n u)
        one u name only = alike u name only (is_it (waiting u)) refl

        each : (ws : List WaitingCall) → AreNamed ws → AllByRecursion (IsOnly a.waits) (waiting_calls ws) → AllByRecursion (λ (u : WaitingCall). not (is_it (waiting u)) ≡ not (is_other_at turn.client n u)) ws
        each [] name all = tt
        each (u ∷ us) name all = (one u name.0 all.0, each us name.1 all.1)

    left_queue : queue_of a.holder k.locks.held (without is_it a.waits) ≡ queue_of a.holder k.locks.held a.waits
    left_queue = queue_without a.holder k.locks.held is_it a.waits (all-map (IsOnly a.waits) (GoesIdle a.holder k.locks.held is_it) (λ u only. idle u only) a.waits each_one)
      where
        idle : (u : Waiting) → IsOnly a.waits u → GoesIdle a.holder k.locks.held is_it u
        idle u only e = ap (request_at a.holder k.locks.held u) (ap (λ (v : Waiting). file_trans v.call) (its u only e) ∙ files)

    abbrev told_then : Reply → Account
    told_then r = record (counted_as a turn.client turn.number s r) { waits = uncollected a turn.client turn.number s n }

    abbrev kept_then : Reply → ServerState V
    kept_then r = record k { waits = without_other_at turn.client n k.waits; sessions = counted_in k.sessions turn r }

    goes_as : (r : Reply) → Leads false a (call_entry a turn.client turn.number s (call.Collect n) r []) (told_then r) → IsAs (told_then r) held (kept_then r)
    goes_as r leads =
        let c : IsAs (counted_as a turn.client turn.number s r) held (record k { sessions = counted_in k.sessions turn r }) = counts_as a held k turn r h is up in
        record {
          server = h.server;
          servers = h.servers;
          sizes = h.sizes;
          epoch = h.epoch;
          clock = h.clock;
          cells = h.cells;
          sized = h.sized;
          notes = λ up. call_notes false a (told_then r) turn.client turn.number s (call.Collect n) r [] h.quiet leads refl held.notes (h.notes up);
          places = c.places;
          sessions = c.sessions;
          dead = h.dead;
          waits = left_same;
          queue = h.queue ∙ sym left_queue;
          asked = each-filter (IsWaitingAs a.holder a.locked) (λ (u : WaitingCall). not (is_other_at turn.client n u)) k.waits h.asked;
          lives = h.lives;
          room = h.room;
          unborn = h.unborn;
          coordinator = h.coordinator;
          decided = h.decided;
          joins = h.joins;
          files = h.files;
          made = h.made;
          born = h.born;
          earlier = h.earlier;
          quiet = leads.quiet;
          down = c.down;
        }

    goes : (r : Reply) (x : Answer) → Leads false a (call_entry a turn.client turn.number s (call.Collect n) r []) (told_then r) → x ≡ told_answer (Some r) [] → Stepped a before now held (kept_then r) (event.Call turn.client k.epoch turn.number (call.Collect n)) x
    goes r x leads so =
        stepped_so a before now held held k (kept_then r) turn.client turn.number s (call.Collect n) false r [] (told_then r) x so h leads (goes_as r leads) (λ e. cc) (stands_timely a.holder.clock 0 k.clock h.clock)

    -- ---- a Join

    module _ (t : TransId) (joins : join_trans w.call ≡ Some t) where
      pub joined_stepped : (x : Answer) → standing_of k turn.client t ≡ standing.Work → x ≡ told_answer (Some reply.Joined) [] → Stepped a before now held (kept_then reply.Joined) (event.Call turn.client k.epoch turn.number (call.Collect n)) x
      joined_stepped x works so = goes reply.Joined x (collect_joined_leads a turn.client turn.number s n (waiting w) t (join_is t w.call joins) owes (part_told a held k turn.client t h standing.Work works)) so

      pub join_dead_stepped : (c : Cause) (x : Answer) → standing_of k turn.client t ≡ standing.Ended c → x ≡ refused_answer (refusal.Aborted c) [] → Refuses (reply.Refused (refusal.Aborted c)) x
      join_dead_stepped c x gone so =
          stays (reply.Refused (refusal.Aborted c)) x
          (collect_join_dead_leads a turn.client turn.number s n (waiting w) t (join_is t w.call joins) c owes (h.dead turn.client t ∙ ended_told k turn.client t c gone) (part_told a held k turn.client t h (standing.Ended c) gone)) so

      waits_for : (st : Standing) (p : Part) → IsPartFor st p → (st ≡ standing.Work → ⊥) → ((c : Cause) → st ≡ standing.Ended c → ⊥) → join_collected p ≡ reply.Refused refusal.NotYet
      waits_for standing.Unknown p is work ended = ap join_collected is
      waits_for standing.Joining p is work ended = ap join_collected is
      waits_for standing.Finishing p (inl is) work ended = ap join_collected is
      waits_for standing.Finishing p (inr is) work ended = ap join_collected is
      waits_for standing.Work p is work ended = absurd (work refl)
      waits_for (standing.Ended c) p is work ended = absurd (ended c refl)

      pub join_waits_stepped : (st : Standing) (x : Answer) → standing_of k turn.client t ≡ st → (st ≡ standing.Work → ⊥) → ((c : Cause) → st ≡ standing.Ended c → ⊥) → x ≡ refused_answer refusal.NotYet [] → Refuses (reply.Refused refusal.NotYet) x
      join_waits_stepped st x stands work ended so =
          stays (reply.Refused refusal.NotYet) x
          (collect_join_waits_leads a turn.client turn.number s n (waiting w) t (join_is t w.call joins) owes (waits_for st (part_at (state_of a) turn.client t) (part_told a held k turn.client t h st stands) work ended)) so

    -- ---- a Finish

    module _ (t : TransId) (finishes : finish_trans w.call ≡ Some t) where
      f : (commit : Bool) × (w.call ≡ call.Finish t commit)
      f = finish_is t w.call finishes

      current : t.epoch ≡ k.epoch
      current = subst (IsCurrent k.epoch) f.1 call_is.current

      pub committed_stepped : (stamp : Stamp) (x : Answer) → ending_here k t ≡ ending.Committed stamp → x ≡ told_answer (Some (reply.Committed stamp)) [] → Stepped a before now held (kept_then (reply.Committed stamp)) (event.Call turn.client k.epoch turn.number (call.Collect n)) x
      committed_stepped stamp x e so =
          let decided = decided_told a held k t h current stamp e in
          let applied = some_of (entries.find stamp_cmp stamp a.holder.applied) (h.decided t stamp decided.0 (current ∙ sym h.epoch) decided.1) in
          goes (reply.Committed stamp) x (collect_decided_leads a turn.client turn.number s n (waiting w) t f.0 f.1 stamp decided.0 applied.0 owes decided.1 applied.1) so
        where
          some_of : (y : Option Decided) → is_some y ≡ true → (d : Decided) × (y ≡ Some d)
          some_of None e = let wrong : false ≡ true = e in cc
          some_of (Some d) e = (d, refl)

      pub finish_dead_stepped : (c : Cause) (x : Answer) → ((stamp : Stamp) → outcome_of k t ≡ Some (ending.Committed stamp) → ⊥) → cause_in k.dead turn.client t ≡ Some c → x ≡ refused_answer (refusal.Aborted c) [] → Refuses (reply.Refused (refusal.Aborted c)) x
      finish_dead_stepped c x none dead so =
          let told : a.dead turn.client t ≡ Some c = h.dead turn.client t ∙ dead in
          stays (reply.Refused (refusal.Aborted c)) x
          (collect_finish_dead_leads a turn.client turn.number s n (waiting w) t f.0 f.1 c owes told
          (uncommitted_told a held k t h current none (a.dead turn.client t) (reply.Refused (refusal.Aborted c)) (ap (λ (d : Option Cause). finish_collected d Undrawn) told))) so

      pub finish_waits_stepped : (x : Answer) → ((stamp : Stamp) → outcome_of k t ≡ Some (ending.Committed stamp) → ⊥) → cause_in k.dead turn.client t ≡ None → x ≡ refused_answer refusal.NotYet [] → Refuses (reply.Refused refusal.NotYet) x
      finish_waits_stepped x none dead so =
          stays (reply.Refused refusal.NotYet) x
          (collect_finish_waits_leads a turn.client turn.number s n (waiting w) t f.0 f.1 owes
          (uncommitted_told a held k t h current none (a.dead turn.client t) (reply.Refused refusal.NotYet) (ap (λ (d : Option Cause). finish_collected d Undrawn) (h.dead turn.client t ∙ dead)))) so

-- ---- a step by which the call waits no more

pub collected_step : {V : Type 0} (G : Ghosts V) (k new : ServerState V) (turn : Turn) (number : ℕ) (r : Reply) (x : Answer) → IsTurn k.sessions turn → k.is_down ≡ false → IsKeepable k.clock r → (is_read_fault (Some r) || says_shut (Some r)) ≡ false
    → new ≡ record k { waits = without_other_at turn.client number k.waits; sessions = counted_in k.sessions turn r } → x ≡ told_answer (Some r) []
    → (IsTrue (G.tells k.vault) → (a : Account) → IsAs a (G.held k.vault) k
    → Stepped a (G.faults k.vault) (G.faults k.vault) (G.held k.vault) (record k { waits = without_other_at turn.client number k.waits; sessions = counted_in k.sessions turn r }) (event.Call turn.client k.epoch turn.number (call.Collect number)) x)
    → HasTurned (Some order.Next) k (record k { waits = without_other_at turn.client number k.waits; sessions = counted_in k.sessions turn r }) (event.Call turn.client k.epoch turn.number (call.Collect number)) (Some r)
    → IsStep G k new (event.Call turn.client k.epoch turn.number (call.Collect number)) (Ok x)
collected_step {V} G k new turn number r x is up keeps quiet kept so steps turned =
    let after : ServerState V = record k { waits = without_other_at turn.client number k.waits; sessions = counted_in k.sessions turn r } in
    subst (λ (y : ServerState V). IsStep G k y (event.Call turn.client k.epoch turn.number (call.Collect number)) (Ok x)) (sym kept)
    (plain_step G k after turn (call.Collect number) x r [] refl refl refl refl refl up up (λ notes h. h) quiet so refl (λ before now allowance. tt)
    (λ m h. counted_ready m (G.serves k.vault) (record k { waits = without_other_at turn.client number k.waits }) turn r is keeps (without_other_ready m (G.serves k.vault) k turn.client number h))
    steps turned)

-- ---- the stamp of a decision

pub stamp_some : (x : Option Ending) (stamp : Stamp) → stamp_if x ≡ Some stamp → x ≡ Some (ending.Committed stamp)
stamp_some None stamp e = let wrong : None ≡ Some stamp = e in cc
stamp_some (Some (ending.Committed s)) stamp e = ap (λ (o : Option Stamp). Some (ending.Committed (or_else o))) e
  where
    or_else : Option Stamp → Stamp
    or_else None = s
    or_else (Some z) = z
stamp_some (Some ending.Running) stamp e = let wrong : None ≡ Some stamp = e in cc
stamp_some (Some ending.Aborted) stamp e = let wrong : None ≡ Some stamp = e in cc
stamp_some (Some ending.Unknown) stamp e = let wrong : None ≡ Some stamp = e in cc

pub stamp_none : (x : Option Ending) → stamp_if x ≡ None → (stamp : Stamp) → x ≡ Some (ending.Committed stamp) → ⊥
stamp_none x none stamp e = no (sym (ap stamp_if e) ∙ none)
  where
    no : Some stamp ≡ None → ⊥
    no e = cc
