-- calls that are collected: which one it is, what is left where it goes, and what is answered where it is not performed
use Rattle.std.specs.Prelude.{cond, Bool, true, false, not, ◌&&◌, ◌||◌, ◌==◌, find, is_some, IsSome, Option, None, Some}
use Rattle.std.specs.List.{AllByRecursion}
use Rattle.std.specs.Option.{option_map}
use Rattle.std.specs.FinMap as map
use Rattle.std.proofs.Common.{inl, inr, ◌⊎◌, ◌≡◌, ℕ, List, [], ◌∷◌, refl, sym, ◌∙◌, ap, subst, eq-eqb}
use Rattle.std.proofs.lemmas.Bool.{eqb-true, and_parts}
use Rattle.alp_base.specs.Causes.{Rose}
use Rattle.alp_base.specs.declared.ids.JoinNo.{JoinNo}
use Rattle.alp_base.specs.declared.ids.TransId.{TransId}
use Rattle.alp_base.proofs.NameLemmas.{and_left, and_right}
use Rattle.alp_files.specs.declared.call.Call.TheVariants as call
use Rattle.alp_files.specs.declared.reply.Reply.{Reply}
use Rattle.alp_files.specs.declared.reply.Reply.TheVariants as reply
use Rattle.alp_files.specs.declared.refusal.Refusal.TheVariants as refusal
use Rattle.alp_files.specs.declared.refusal.Cause.{Cause}
use Rattle.alp_locks.proofs.SoundLemmas.{each-filter, each-more}
use Rattle.alp_vault.specs.Contents.{Contents}
use Rattle.alp_journal.specs.declared.act.Act.TheVariants as act
use Rattle.alp_journal.specs.declared.entry.Entry.{Entry}
use Rattle.alp_journal.specs.declared.event.Event.TheVariants as event
use Rattle.alp_journal.specs.Account.{Account, state_of, Stands, IsPartOf, IsOfPart, IsJoined, HasWaits, HasNoCall, HasNoJoin, is_on_trans}
use Rattle.alp_journal.specs.Answers.{Part, NoPart, AtJoining, AtWork, AtFinish, AtReady, AtEnd, own_part, phase_part, join_part, part_at}
use Rattle.alp_journal.specs.Coordinator.{Fate, Undrawn, Running, Finishing, Committed, Forgotten, Ended, client_of}
use Rattle.alp_journal.specs.Participant.{Joining, live_in}
use Rattle.alp_journal.specs.Counts.{request_in}
use Rattle.alp_journal.specs.Desk.{Session, Waiting, file_trans, part_trans, waiting_at, is_of_part, without, is_of as is_of_trans}
use Rattle.alp_journal.specs.State.{is_whose, join_for}
use Rattle.alp_journal.specs.Holder.{Life}
use Rattle.alp_journal.specs.Ids.{same_trans}
use Rattle.alp_journal.specs.Moves.{tried}
use Rattle.alp_journal.proofs.CollectCalls.{uncollected, collect_none_leads, collect_waits_leads, collect_dead_leads, collect_refused_leads, its_join, none_dead, not_joining}
use Rattle.alp_journal.proofs.RefusedCalls.{counted_as}
use Rattle.alp_journal.proofs.HaltedCalls.{with_halt, collect_halt_leads}
use Rattle.alp_journal.proofs.CallLemmas.{call_entry}
use Rattle.alp_journal.proofs.IdLemmas.{same_trans-itself, same_trans-true}
use Rattle.alp_journal.proofs.MadeIds.{all-map}
use Rattle.alp_journal.proofs.PartLemmas.{own_at_work, own_part_at, far_part_at, joined_part_at}
use Rattle.alp_journal.proofs.QuietLemmas.{KeepsJoins, none_tried, quiet_without}
use Rattle.alp_journal.proofs.StandLemmas.{own_pair, own_here, pair_of, join_part_is, far_of_live, not_own_server}
use Rattle.alp_journal.proofs.WaitLemmas.{IsOnly, each-only, found-is, found-none, file_part}
use Rattle.alp_turns.specs.Queues.{request_if, request_for, request_at, queue_of}
use Rattle.alp_turns.proofs.MoveLemmas.{GoesIdle, queue_without}
use Rattle.alp_node.specs.ServerState.{IsAs, IsReady, IsLife, IsAskedAs, IsWaitingAs}
use Rattle.alp_coord.specs.Coordinators.{count_of}
use Rattle.alp_node.specs.Steps.{Stepped, IsTurn, counted_in, refused_answer}
use Rattle.alp_node.specs.Standings.{standing_of}
use Rattle.alp_node.specs.Waits.{waiting, waiting_calls, is_of, is_file_on, is_at, call_at, without_calls_of, asks_for, IsCallBy, IsNamed, IsFileCall, IsWaitingCall, IsOfOther, AreApart}
use Rattle.alp_node.specs.declared.answer.Answer.{Answer}
use Rattle.alp_node.specs.declared.lives.Live.{Live}
use Rattle.alp_node.specs.declared.lock_counts.LockCounts.{LockCounts}
use Rattle.alp_node.specs.declared.served.Standing.{Standing}
use Rattle.alp_node.specs.declared.served.Standing.TheVariants as standing
use Rattle.alp_node.specs.declared.server_state.ServerState.{ServerState}
use Rattle.alp_node.specs.declared.sessions.Turn.{Turn}
use Rattle.alp_node.specs.declared.waits.WaitingCall.{WaitingCall}
use Rattle.alp_node.proofs.HaltLemmas.{halted_as}
use Rattle.alp_node.proofs.FinishLemmas.{turn_session, counts_as}
use Rattle.alp_node.proofs.KeptLemmas.{session_of, stands_timely, stepped_so, IsLive, live_there}
use Rattle.alp_node.proofs.NotedLemmas.{notes_on}
use Rattle.alp_node.proofs.StandingLemmas.{IsPartFor, standing_told, ended_told}
use Rattle.alp_node.proofs.BesideLemmas.{AreNamed, AreOthers, counted_named, part_named, at_told, filter_told}
use Rattle.alp_node.proofs.WaitLemmas.{each_so, find_each, counts_there, file_counts, file_at, named_all}

-- ---- the call of a number

same_call : (u w : WaitingCall) → Some u ≡ Some w → u ≡ w
same_call u w e = cc

same_waiting : (u w : Waiting) → Some u ≡ Some w → u ≡ w
same_waiting u w e = cc

same_id : (u w : TransId) → Some u ≡ Some w → u ≡ w
same_id u w e = cc

both : (a b : Bool) → a ≡ true → b ≡ true → (a && b) ≡ true
both true b e f = f
both false b e f = cc

-- a file call on the transaction of this one is this one
abbrev pub IsAlone : WaitingCall → WaitingCall → Type 0
IsAlone w u = is_file_on w.trans u ≡ true → u ≡ w

-- so are all the others where this is a file call
pub only_of : (client n : ℕ) (w : WaitingCall) (ws : List WaitingCall) → is_some w.counts ≡ true → AreApart ws → call_at client n ws ≡ Some w → AllByRecursion (IsAlone w) ws
only_of client n w [] some apart found = tt
only_of client n w (v ∷ vs) some apart found = go (is_at client n v) found (only_of client n w vs some apart.1)
  where
    behind : v ≡ w → (u : WaitingCall) → IsOfOther v u → IsAlone w u
    behind is u o e =
        let as_it : (is_some v.counts && is_file_on v.trans u) ≡ (is_some w.counts && is_file_on w.trans u) = ap (λ (x : WaitingCall). is_some x.counts && is_file_on x.trans u) is in
        let holds : (is_some w.counts && is_file_on w.trans u) ≡ true = (λ i. some i && e i) in
        let wrong : true ≡ false = sym (as_it ∙ holds) ∙ o in
        cc

    others : v ≡ w → (us : List WaitingCall) → AllByRecursion (IsOfOther v) us → AllByRecursion (IsAlone w) us
    others is [] all = tt
    others is (u ∷ us) all = (behind is u all.0, others is us all.1)

    before : IsOfOther v w → IsAlone w v
    before o e =
        let at : same_trans w.trans v.trans ≡ true = ap (same_trans w.trans) (file_at w.trans v e) ∙ same_trans-itself w.trans in
        let holds : (is_some v.counts && is_file_on v.trans w) ≡ true = (λ i. file_counts w.trans v e i && (some i && at i)) in
        let wrong : true ≡ false = sym holds ∙ o in
        cc

    go : (b : Bool) → cond {A = Option WaitingCall} b (Some v) (call_at client n vs) ≡ Some w → (call_at client n vs ≡ Some w → AllByRecursion (IsAlone w) vs) → AllByRecursion (IsAlone w) (v ∷ vs)
    go true is rest = let same : v ≡ w = same_call v w is in ((λ e. same), others same vs apart.0)
    go false is rest = (before (find_each (IsOfOther v) (is_at client n) vs w is apart.0).0, rest is)

-- ---- whatever the vault tells

module _ {V : Type 0} (k : ServerState V) (client n : ℕ) (w : WaitingCall) (m : ℕ) (on : Bool) (ready : IsReady m on k) (found : call_at client n k.waits ≡ Some w) (file : is_some w.counts ≡ true) where
  abbrev Called : WaitingCall → Type 0
  Called u = IsWaitingCall k.server k.epoch k.given (count_of k.coordinator) k.sizes k.lives u

  its : Called w × (is_at client n w ≡ true)
  its = find_each Called (is_at client n) k.waits w found ready.waits.calls

  pub call_is : IsWaitingCall k.server k.epoch k.given (count_of k.coordinator) k.sizes k.lives w
  call_is = its.0

  pub its_client : w.client ≡ client
  its_client = eqb-true w.client client (and_left (w.client == client) (w.number == n) its.1)

  pub its_number : w.number ≡ n
  its_number = eqb-true w.number n (and_right (w.client == client) (w.number == n) its.1)

  pub its_counts : (z : LockCounts) × (w.counts ≡ Some z)
  its_counts = counts_there w.counts file

  pub file_is : IsFileCall k.server k.epoch k.given (count_of k.coordinator) k.sizes k.lives w its_counts.0
  file_is = call_is.file its_counts.0 its_counts.1

  pub named_file : file_trans w.call ≡ Some w.trans
  named_file = counted_named w its_counts.0 its_counts.1 call_is.named

  pub trans_only : AllByRecursion (IsAlone w) k.waits
  trans_only = only_of client n w k.waits file ready.waits.apart found

  its_part : is_of client w.trans w ≡ true
  its_part = both (w.client == client) (same_trans w.trans w.trans) (eq-eqb w.client client its_client) (same_trans-itself w.trans)

  -- those that are left are of other transactions
  pub left_off : AreOthers w.trans (without_calls_of client w.trans k.waits)
  left_off = each k.waits trans_only
    where
      each : (ws : List WaitingCall) → AllByRecursion (IsAlone w) ws → AreOthers w.trans (without_calls_of client w.trans ws)
      each [] only = tt
      each (u ∷ us) only = go (is_of client w.trans u) refl (each us only.1)
        where
          away : is_of client w.trans u ≡ false → (b : Bool) → is_file_on w.trans u ≡ b → b ≡ false
          away other false e = refl
          away other true e = let wrong : true ≡ false = sym its_part ∙ ap (is_of client w.trans) (sym (only.0 e)) ∙ other in cc

          go : (b : Bool) → is_of client w.trans u ≡ b → AreOthers w.trans (without_calls_of client w.trans us)
              → AreOthers w.trans (cond {A = List WaitingCall} (not b) (u ∷ without_calls_of client w.trans us) (without_calls_of client w.trans us))
          go true e rest = rest
          go false e rest = (away e (is_file_on w.trans u) refl, rest)

  -- and none of its transaction asks, where it has its locks
  pub none_asks : w.is_granted ≡ true → asks_for k.waits w.trans ≡ false
  none_asks granted = each k.waits trans_only
    where
      each : (ws : List WaitingCall) → AllByRecursion (IsAlone w) ws → asks_for ws w.trans ≡ false
      each [] only = refl
      each (u ∷ us) only = (λ i. go (is_file_on w.trans u) refl i || each us only.1 i)
        where
          go : (b : Bool) → is_file_on w.trans u ≡ b → (b && not u.is_granted) ≡ false
          go false e = refl
          go true e = ap (λ (x : WaitingCall). not x.is_granted) (only.0 e) ∙ ap not granted

-- ---- as the journal tells it

-- a part that works or has ended is in no other state
not_other : (p : Part) → (p ≡ AtWork) ⊎ ((c : Cause) × (p ≡ AtEnd c)) → (s : Standing) → IsPartFor s p → (s ≡ standing.Work) ⊎ ((c : Cause) × (s ≡ standing.Ended c))
not_other p is standing.Work h = inl refl
not_other p is (standing.Ended c) h = inr (c, refl)
not_other p (inl e) standing.Unknown h = let wrong : NoPart ≡ AtWork = sym h ∙ e in cc
not_other p (inr e) standing.Unknown h = let wrong : NoPart ≡ AtEnd e.0 = sym h ∙ e.1 in cc
not_other p (inl e) standing.Joining h = let wrong : AtJoining ≡ AtWork = sym h ∙ e in cc
not_other p (inr e) standing.Joining h = let wrong : AtJoining ≡ AtEnd e.0 = sym h ∙ e.1 in cc
not_other p (inl e) standing.Finishing (inl h) = let wrong : AtFinish ≡ AtWork = sym h ∙ e in cc
not_other p (inl e) standing.Finishing (inr h) = let wrong : AtReady ≡ AtWork = sym h ∙ e in cc
not_other p (inr e) standing.Finishing (inl h) = let wrong : AtFinish ≡ AtEnd e.0 = sym h ∙ e.1 in cc
not_other p (inr e) standing.Finishing (inr h) = let wrong : AtReady ≡ AtEnd e.0 = sym h ∙ e.1 in cc

module _ {V : Type 0} (a : Account) (held : Contents) (k : ServerState V) (client n : ℕ) (w : WaitingCall) (m : ℕ) (on : Bool) (ready : IsReady m on k) (found : call_at client n k.waits ≡ Some w) (file : is_some w.counts ≡ true) (h : IsAs a held k) where
  abbrev is_it : Waiting → Bool
  is_it u = u.client == client && u.number == n

  pub found_here : waiting_at (state_of a).desk client n ≡ Some (waiting w)
  found_here = at_told a client n k.waits h.waits ∙ ap (option_map waiting) found

  -- its part, if that ended
  pub dead_why : (c : Cause) → standing_of k client w.trans ≡ standing.Ended c → a.dead client w.trans ≡ Some c
  dead_why c e = h.dead client w.trans ∙ ended_told k client w.trans c e

  its_name : file_trans w.call ≡ Some w.trans
  its_name = named_file k client n w m on ready found file

  its_owner : w.client ≡ client
  its_owner = its_client k client n w m on ready found file

  part_of_it : IsPartOf client (a.holder.lives w.trans) (a.dead client w.trans)
  part_of_it = subst (λ (d : ℕ). IsPartOf d (a.holder.lives w.trans) (a.dead d w.trans)) its_owner
      (subst (IsOfPart a.holder.lives a.dead (waiting w)) its_name
      (found-is (λ (u : Waiting). IsOfPart a.holder.lives a.dead u (file_trans u.call)) is_it a.waits (waiting w) found_here h.quiet.settled.tells.parts).1)

  -- a part of it that lives is at work
  works : (l : Life) → a.holder.lives w.trans ≡ Some l → client ≡ l.client → part_at (state_of a) client w.trans ≡ AtWork
  works l live mine = go l.join refl
    where
      q : Stands a
      q = h.quiet.settled.stands

      is_on : is_on_trans w.trans (waiting w) ≡ true
      is_on = ap (is_of_trans w.trans) its_name ∙ same_trans-itself w.trans

      is_its : is_of_part l.client w.trans (waiting w) ≡ true
      is_its = (λ i. eq-eqb w.client l.client (its_owner ∙ mine) i && is_of_trans w.trans (file_part w.call w.trans its_name i)) ∙ same_trans-itself w.trans

      same_client : (c d : ℕ) → Some c ≡ Some d → c ≡ d
      same_client c d e = cc

      own : (f : Fate) → a.fates w.trans ≡ f → client_of f ≡ Some l.client → w.trans.server ≡ a.holder.server → part_at (state_of a) client w.trans ≡ AtWork
      own (Running c js) is runs here = own_at_work a w.trans client {js = js} here (is ∙ ap (λ (d : ℕ). Running d js) (same_client c l.client runs ∙ sym mine))
      own (Finishing c js vs) is runs here =
          let none : AllByRecursion (λ (u : Waiting). is_on_trans w.trans u ≡ false) a.waits = subst (HasNoCall a.waits w.trans) is (h.quiet.settled.tells.finishing w.trans) in
          let wrong : true ≡ false = sym is_on ∙ (found-is (λ (u : Waiting). is_on_trans w.trans u ≡ false) is_it a.waits (waiting w) found_here none).1 in
          cc
      own Undrawn is runs here = let wrong : None ≡ Some l.client = runs in cc
      own (Committed x js ds) is runs here = let wrong : None ≡ Some l.client = runs in cc
      own (Forgotten x js) is runs here = let wrong : None ≡ Some l.client = runs in cc
      own (Ended c) is runs here = let wrong : None ≡ Some l.client = runs in cc

      joined : (j : JoinNo) → l.join ≡ Some j → IsJoined w.trans l (a.phases j) → part_at (state_of a) client w.trans ≡ AtWork
      joined j of (inl active) =
          let whose : is_whose client w.trans (live_in (a.phases j)) ≡ true = ap (λ (d : ℕ). is_whose d w.trans (live_in (a.phases j))) mine ∙ its_join a q w.trans l live j of in
          let far = far_of_live a.servers a.holder.server a.ids.epoch a.ids.joins a.joined j client w.trans (a.phases j) whose (q.phases j) in
          joined_part_at a w.trans client j q (not_own_server a.servers a.holder.server w.trans.server far) whose ∙ ap phase_part active.0
      joined j of (inr voted) =
          let none : AllByRecursion (λ (u : Waiting). is_of_part l.client w.trans u ≡ false) a.waits = subst (HasWaits a.waits) voted.1 (h.quiet.settled.tells.joining j) in
          let wrong : true ≡ false = sym is_its ∙ (found-is (λ (u : Waiting). is_of_part l.client w.trans u ≡ false) is_it a.waits (waiting w) found_here none).1 in
          cc

      go : (x : Option JoinNo) → l.join ≡ x → part_at (state_of a) client w.trans ≡ AtWork
      go None of = own (a.fates w.trans) refl (own_pair a q w.trans l live of).0 (own_here a q w.trans l live of)
      go (Some j) of = joined j of (join_part_is w.trans a.phases l (a.fates w.trans) j of (pair_of a q w.trans l live)).0

  -- one that ended is to be told of
  ends : (c : Cause) → a.dead client w.trans ≡ Some c → part_at (state_of a) client w.trans ≡ AtEnd c
  ends c dead = go (w.trans.server == a.holder.server) refl
    where
      over : (w.trans.server ≡ a.holder.server → a.fates w.trans ≡ Ended c) × HasNoJoin a.phases client w.trans
      over = h.quiet.settled.tells.ended client w.trans c dead

      none : join_for (state_of a) client w.trans ≡ None
      none = found-none (λ (j : JoinNo). is_whose client w.trans (live_in (a.phases j))) a.joined (each_so (λ (j : JoinNo). is_whose client w.trans (live_in (a.phases j)) ≡ false) over.1 a.joined)

      go : (b : Bool) → (w.trans.server == a.holder.server) ≡ b → part_at (state_of a) client w.trans ≡ AtEnd c
      go true e =
          let own : w.trans.server ≡ a.holder.server = eqb-true w.trans.server a.holder.server e in
          own_part_at a w.trans client own ∙ (λ i. own_part client (dead i) (over.0 own i))
      go false e = far_part_at a w.trans client e ∙ (λ i. join_part (state_of a) (dead i) (none i))

  its_part_at : (part_at (state_of a) client w.trans ≡ AtWork) ⊎ ((c : Cause) × (part_at (state_of a) client w.trans ≡ AtEnd c))
  its_part_at = lives (a.holder.lives w.trans) refl part_of_it
    where
      gone : (d : Option Cause) → a.dead client w.trans ≡ d → IsSome d → (part_at (state_of a) client w.trans ≡ AtWork) ⊎ ((c : Cause) × (part_at (state_of a) client w.trans ≡ AtEnd c))
      gone None e some = let wrong : false ≡ true = some in cc
      gone (Some c) e some = inr (c, ends c e)

      lives : (x : Option Life) → a.holder.lives w.trans ≡ x → IsPartOf client x (a.dead client w.trans) → (part_at (state_of a) client w.trans ≡ AtWork) ⊎ ((c : Cause) × (part_at (state_of a) client w.trans ≡ AtEnd c))
      lives None e p = gone (a.dead client w.trans) refl p
      lives (Some l) e p = inl (works l e p)

  -- so it stands here
  pub known_standing : (standing_of k client w.trans ≡ standing.Work) ⊎ ((c : Cause) × (standing_of k client w.trans ≡ standing.Ended c))
  known_standing = not_other (part_at (state_of a) client w.trans) its_part_at (standing_of k client w.trans) (standing_told a held k client w.trans h)

  -- a part that lives is not dead
  pub its_life_client : (l : Live) → map.get k.lives w.trans ≡ Some l → (life : Life) → IsLife a.holder.cells k.locks.held (a.locked w.trans) w.trans l life → life.client ≡ client
  its_life_client l there life mine = mine.client ∙ sym ((file_is k client n w m on ready found file).limits l there).its ∙ its_owner

  pub none_ended : (l : Live) → map.get k.lives w.trans ≡ Some l → a.dead client w.trans ≡ None
  none_ended l there =
      let y : IsLive a.holder.cells k.locks.held (a.locked w.trans) w.trans l (a.holder.lives w.trans) = live_there a.holder.cells k.locks.held (a.locked w.trans) w.trans (map.get k.lives w.trans) (a.holder.lives w.trans) l there (h.lives w.trans) in
      none_dead a w.trans y.life h.quiet.settled y.is client (its_life_client l there y.life y.alike)

  -- ---- it is the only one of its number, and of its part

  pub all_named : AreNamed k.waits
  all_named = named_all k.server k.epoch k.given (count_of k.coordinator) k.sizes k.lives k.waits ready.waits.calls

  each_one : AllByRecursion (IsOnly a.waits) a.waits
  each_one = each-only a.waits h.quiet.settled.tells.apart

  this_one : IsOnly a.waits (waiting w)
  this_one = (found-is (IsOnly a.waits) is_it a.waits (waiting w) found_here each_one).1

  -- what is told alike is kept alike
  same_of : (u : WaitingCall) → IsNamed u → IsAlone w u → waiting u ≡ waiting w → u ≡ w
  same_of u named only is = go u.counts refl named
    where
      call_is : file_trans u.call ≡ Some w.trans
      call_is = ap (λ (v : Waiting). file_trans v.call) is ∙ its_name

      go : (x : Option LockCounts) → u.counts ≡ x → IsCallBy u.call u.trans x → u ≡ w
      go None e named = let wrong : None ≡ Some w.trans = sym named.0 ∙ call_is in cc
      go (Some z) e named =
          let of : u.trans ≡ w.trans = same_id u.trans w.trans (sym named ∙ call_is) in
          only (λ i. is_some (e i) && (ap (λ (t : TransId). same_trans t w.trans) of ∙ same_trans-itself w.trans) i)

  abbrev IsAlike : WaitingCall → Type 0
  IsAlike u = is_at client n u ≡ is_of client w.trans u

  its_at : is_at client n w ≡ true
  its_at = (its k client n w m on ready found file).1

  its_of : is_of client w.trans w ≡ true
  its_of = its_part k client n w m on ready found file

  alike : (b d : Bool) → (b ≡ true → d ≡ true) → (d ≡ true → b ≡ true) → b ≡ d
  alike true d f g = sym (f refl)
  alike false true f g = g refl
  alike false false f g = refl

  each_alike : AllByRecursion IsAlike k.waits
  each_alike = each k.waits all_named (trans_only k client n w m on ready found file) (subst (AllByRecursion (IsOnly a.waits)) h.waits each_one)
    where
      one : (u : WaitingCall) → IsNamed u → IsAlone w u → IsOnly a.waits (waiting u) → IsAlike u
      one u named only it = alike (is_at client n u) (is_of client w.trans u) number part
        where
          number : is_at client n u ≡ true → is_of client w.trans u ≡ true
          number e =
              let here : u.client ≡ client = eqb-true u.client client (and_left (u.client == client) (u.number == n) e) in
              let at : u.number ≡ n = eqb-true u.number n (and_right (u.client == client) (u.number == n) e) in
              let is : waiting u ≡ waiting w = same_waiting (waiting u) (waiting w) (sym it.by_number ∙ (λ i. find (λ (v : Waiting). v.client == here i && v.number == at i) a.waits) ∙ found_here) in
              ap (is_of client w.trans) (same_of u named only is) ∙ its_of

          part : is_of client w.trans u ≡ true → is_at client n u ≡ true
          part e =
              let here : u.client ≡ client = eqb-true u.client client (and_left (u.client == client) (same_trans u.trans w.trans) e) in
              let of : u.trans ≡ w.trans = same_trans-true u.trans w.trans (and_right (u.client == client) (same_trans u.trans w.trans) e) in
              let first : find (is_of_part client w.trans) a.waits ≡ Some (waiting u) = (λ i. find (is_of_part (sym here i) (sym of i)) a.waits) ∙ it.by_own u.trans (part_named u named) in
              let second : find (is_of_part client w.trans) a.waits ≡ Some (waiting w) = ap (λ (d : ℕ). find (is_of_part d w.trans) a.waits) (sym its_owner) ∙ this_one.by_own w.trans (file_part w.call w.trans its_name) in
              ap (is_at client n) (same_of u named only (same_waiting (waiting u) (waiting w) (sym first ∙ second))) ∙ its_at

      each : (ws : List WaitingCall) → AreNamed ws → AllByRecursion (IsAlone w) ws → AllByRecursion (IsOnly a.waits) (waiting_calls ws) → AllByRecursion IsAlike ws
      each [] named only all = tt
      each (u ∷ us) named only all = (one u named.0 only.0 all.0, each us named.1 only.1 all.1)

  -- ---- what is left where it goes

  -- the journal leaves just those that the server leaves
  pub left_same : without is_it a.waits ≡ waiting_calls (without_calls_of client w.trans k.waits)
  left_same = ap (without is_it) h.waits ∙ filter_told (λ (u : Waiting). not (is_it u)) (λ (u : WaitingCall). not (is_of client w.trans u)) k.waits
      (each-more IsAlike (λ (u : WaitingCall). not (is_it (waiting u)) ≡ not (is_of client w.trans u)) (λ u same. ap not same) k.waits each_alike)

  -- and asks what was asked, since it has its locks
  pub left_queue : w.is_granted ≡ true → k.locks.waiting ≡ queue_of a.holder k.locks.held (without is_it a.waits)
  left_queue granted = h.queue ∙ sym (queue_without a.holder k.locks.held is_it a.waits (all-map (IsOnly a.waits) (GoesIdle a.holder k.locks.held is_it) (λ u only. idle u only) a.waits each_one))
    where
      asks_none : request_at a.holder k.locks.held (waiting w) (file_trans w.call) ≡ []
      asks_none = go (file_trans w.call)
        where
          life : (t : TransId) (x : Option Life) → request_for a.holder k.locks.held (waiting w) t x ≡ []
          life t None = refl
          life t (Some l) = ap (λ (b : Bool). request_if (not b && w.client == l.client) k.locks.held t (request_in a.holder w.call (Some l))) granted

          go : (x : Option TransId) → request_at a.holder k.locks.held (waiting w) x ≡ []
          go None = refl
          go (Some t) = life t (a.holder.lives t)

      idle : (u : Waiting) → IsOnly a.waits u → GoesIdle a.holder k.locks.held is_it u
      idle u only e =
          let here : u.client ≡ client = eqb-true u.client client (and_left (u.client == client) (u.number == n) e) in
          let at : u.number ≡ n = eqb-true u.number n (and_right (u.client == client) (u.number == n) e) in
          let is : u ≡ waiting w = same_waiting u (waiting w) (sym only.by_number ∙ (λ i. find (λ (v : Waiting). v.client == here i && v.number == at i) a.waits) ∙ found_here) in
          ap (λ (v : Waiting). request_at a.holder k.locks.held v (file_trans v.call)) is ∙ asks_none

  -- no Join that is waited for goes with it, where its part is at work
  keeps : (life : Life) → a.holder.lives w.trans ≡ Some life → life.client ≡ client → KeepsJoins a.phases is_it a.waits
  keeps life live mine j u owner who asks =
      all-map (IsOnly a.waits) (λ (x : Waiting). is_of_part owner u x ≡ true → is_it x ≡ false) (λ x only of. go x only of (is_it x) refl) a.waits each_one
    where
      go : (x : Waiting) → IsOnly a.waits x → is_of_part owner u x ≡ true → (b : Bool) → is_it x ≡ b → b ≡ false
      go x only of false e = refl
      go x only of true e =
          let here : x.client ≡ client = eqb-true x.client client (and_left (x.client == client) (x.number == n) e) in
          let at : x.number ≡ n = eqb-true x.number n (and_right (x.client == client) (x.number == n) e) in
          let is : x ≡ waiting w = same_waiting x (waiting w) (sym only.by_number ∙ (λ i. find (λ (v : Waiting). v.client == here i && v.number == at i) a.waits) ∙ found_here) in
          let its_of_part = and_parts (x.client == owner) (is_of_trans u (part_trans x.call)) of in
          let trans : w.trans ≡ u = same_trans-true w.trans u (ap (is_of_trans u) (sym (ap (λ (v : Waiting). part_trans v.call) is ∙ file_part w.call w.trans its_name)) ∙ its_of_part.1) in
          absurd (not_joining a h.quiet.settled.stands w.trans life live j client who mine (asks ∙ (λ i. Joining (sym trans i) ((sym (eqb-true x.client owner its_of_part.0) ∙ here) i) who)))

  -- what the part will have locked, and what it holds
  pub its_asked : (z : LockCounts) (life : Life) → w.counts ≡ Some z → a.holder.lives w.trans ≡ Some life → IsAskedAs a.holder a.locked w z life
  its_asked z life counted live = (find_each (IsWaitingAs a.holder a.locked) (is_at client n) k.waits w found h.asked).0 z life counted live

  -- the server where the call is gone
  abbrev pub server_left : ServerState V
  server_left = record k { waits = without_calls_of client w.trans k.waits }

  pub left_as : k.is_down ≡ false → w.is_granted ≡ true → (life : Life) → a.holder.lives w.trans ≡ Some life → life.client ≡ client → IsAs (record a { waits = without is_it a.waits }) held server_left
  left_as up granted life live mine = record {
    server = h.server;
    servers = h.servers;
    sizes = h.sizes;
    epoch = h.epoch;
    clock = h.clock;
    cells = h.cells;
    sized = h.sized;
    notes = λ on. notes_on (state_of a) (state_of (record a { waits = without is_it a.waits })) a.ids.epoch held.notes refl refl refl (λ t. refl) (λ j x q. q) (h.notes on);
    places = h.places;
    sessions = h.sessions;
    dead = h.dead;
    waits = left_same;
    queue = left_queue granted;
    asked = each-filter (IsWaitingAs a.holder a.locked) (λ (u : WaitingCall). not (is_of client w.trans u)) k.waits h.asked;
    lives = h.lives;
    room = h.room;
    unborn = h.unborn;
    coordinator = h.coordinator;
    decided = h.decided;
    joins = h.joins;
    files = h.files;
    made = h.made;
    born = h.born;
    earlier = h.earlier;
    quiet = quiet_without is_it a (keeps life live mine) (none_tried a h.quiet (h.down ∙ up)) h.quiet;
    down = h.down;
  }

-- ---- what is answered

module _ {V : Type 0} (a : Account) (before now : ℕ) (held : Contents) (k : ServerState V) (turn : Turn) (n : ℕ) where
  -- no call of that number waits
  pub collect_none_stepped : (x : Answer) → IsAs a held k → IsTurn k.sessions turn → k.is_down ≡ false → call_at turn.client n k.waits ≡ None → x ≡ refused_answer refusal.UnknownTrans []
      → Stepped a before now held (record k { sessions = counted_in k.sessions turn (reply.Refused refusal.UnknownTrans) }) (event.Call turn.client k.epoch turn.number (call.Collect n)) x
  collect_none_stepped x h is up none so =
      let s : Session = session_of turn is in
      let r : Reply = reply.Refused refusal.UnknownTrans in
      stepped_so a before now held held k (record k { sessions = counted_in k.sessions turn r }) turn.client turn.number s (call.Collect n) false r [] (counted_as a turn.client turn.number s r) x so h
      (collect_none_leads a turn.client turn.number s n h.quiet (h.down ∙ up) (turn_session a held k turn h is) is.number (at_told a turn.client n k.waits h.waits ∙ ap (option_map waiting) none))
      (counts_as a held k turn r h is up) (λ e. cc) (stands_timely a.holder.clock 0 k.clock h.clock)

  module _ (w : WaitingCall) (m : ℕ) (on : Bool) (ready : IsReady m on k) (found : call_at turn.client n k.waits ≡ Some w) (file : is_some w.counts ≡ true) where
    -- its part ended
    pub collect_dead_stepped : (c : Cause) (x : Answer) → IsAs a held k → IsTurn k.sessions turn → k.is_down ≡ false → standing_of k turn.client w.trans ≡ standing.Ended c → x ≡ refused_answer (refusal.Aborted c) []
        → Stepped a before now held (record k { sessions = counted_in k.sessions turn (reply.Refused (refusal.Aborted c)) }) (event.Call turn.client k.epoch turn.number (call.Collect n)) x
    collect_dead_stepped c x h is up gone so =
        let s : Session = session_of turn is in
        let r : Reply = reply.Refused (refusal.Aborted c) in
        stepped_so a before now held held k (record k { sessions = counted_in k.sessions turn r }) turn.client turn.number s (call.Collect n) false r [] (counted_as a turn.client turn.number s r) x so h
        (collect_dead_leads a turn.client turn.number s n (waiting w) w.trans c h.quiet (h.down ∙ up) (turn_session a held k turn h is) is.number (found_here a held k turn.client n w m on ready found file h)
        (named_file k turn.client n w m on ready found file) (dead_why a held k turn.client n w m on ready found file h c gone))
        (counts_as a held k turn r h is up) (λ e. cc) (stands_timely a.holder.clock 0 k.clock h.clock)

    -- it has not its locks yet
    pub collect_waits_stepped : (l : Live) (x : Answer) → IsAs a held k → IsTurn k.sessions turn → k.is_down ≡ false → map.get k.lives w.trans ≡ Some l → w.is_granted ≡ false → x ≡ refused_answer refusal.NotYet []
        → Stepped a before now held (record k { sessions = counted_in k.sessions turn (reply.Refused refusal.NotYet) }) (event.Call turn.client k.epoch turn.number (call.Collect n)) x
    collect_waits_stepped l x h is up there wait so =
        let s : Session = session_of turn is in
        let r : Reply = reply.Refused refusal.NotYet in
        stepped_so a before now held held k (record k { sessions = counted_in k.sessions turn r }) turn.client turn.number s (call.Collect n) false r [] (counted_as a turn.client turn.number s r) x so h
        (collect_waits_leads a turn.client turn.number s n (waiting w) w.trans h.quiet (h.down ∙ up) (turn_session a held k turn h is) is.number (found_here a held k turn.client n w m on ready found file h)
        (named_file k turn.client n w m on ready found file) wait (none_ended a held k turn.client n w m on ready found file h l there))
        (counts_as a held k turn r h is up) (λ e. cc) (stands_timely a.holder.clock 0 k.clock h.clock)

    -- the vault was stopped
    pub collect_halt_stepped : (then : Contents) (v : V) (l : Live) (x : Answer) → IsAs a held k → IsTurn k.sessions turn → k.is_down ≡ false → map.get k.lives w.trans ≡ Some l → w.is_granted ≡ true → x ≡ refused_answer refusal.Down (act.Stopped ∷ [])
        → Stepped a before now then (record k { is_down = true; vault = v }) (event.Call turn.client k.epoch turn.number (call.Collect n)) x
    collect_halt_stepped then v l x h is up there granted so =
        let s : Session = session_of turn is in
        let e : Entry = call_entry a turn.client turn.number s (call.Collect n) (reply.Refused refusal.Down) (act.Stopped ∷ []) in
        let leads = collect_halt_leads a turn.client turn.number s n (waiting w) w.trans h.quiet (h.down ∙ up) (turn_session a held k turn h is) is.number (found_here a held k turn.client n w m on ready found file h)
        (named_file k turn.client n w m on ready found file) granted (none_ended a held k turn.client n w m on ready found file h l there) in
        stepped_so a before now held then k (record k { is_down = true; vault = v }) turn.client turn.number s (call.Collect n) false (reply.Refused refusal.Down) (act.Stopped ∷ []) (with_halt a turn.client turn.number s e) x so h
        leads (halted_as a (with_halt a turn.client turn.number s e) held then k v (tried (state_of a) e) refl leads.quiet h) (λ q. cc) (stands_timely a.holder.clock 0 k.clock h.clock)

    -- a read of it failed, and it waits no more
    pub collect_fault_stepped : (l : Live) (x : Answer) → IsAs a held k → IsTurn k.sessions turn → k.is_down ≡ false → Rose before now → map.get k.lives w.trans ≡ Some l → w.is_granted ≡ true → x ≡ refused_answer refusal.ReadFault []
        → Stepped a before now held (record k { sessions = counted_in k.sessions turn (reply.Refused refusal.ReadFault); waits = without_calls_of turn.client w.trans k.waits }) (event.Call turn.client k.epoch turn.number (call.Collect n)) x
    collect_fault_stepped l x h is up rose there granted so =
        let s : Session = session_of turn is in
        let r : Reply = reply.Refused refusal.ReadFault in
        let y : IsLive a.holder.cells k.locks.held (a.locked w.trans) w.trans l (a.holder.lives w.trans) = live_there a.holder.cells k.locks.held (a.locked w.trans) w.trans (map.get k.lives w.trans) (a.holder.lives w.trans) l there (h.lives w.trans) in
        stepped_so a before now held held k (record k { sessions = counted_in k.sessions turn r; waits = without_calls_of turn.client w.trans k.waits }) turn.client turn.number s (call.Collect n) true r []
        (record (counted_as a turn.client turn.number s r) { waits = uncollected a turn.client turn.number s n }) x so h
        (collect_refused_leads a turn.client turn.number s n (waiting w) w.trans y.life true refusal.ReadFault h.quiet (h.down ∙ up) (turn_session a held k turn h is) is.number (found_here a held k turn.client n w m on ready found file h)
        (named_file k turn.client n w m on ready found file) granted y.is refl refl (inl (refl, refl)))
        (counts_as (record a { waits = uncollected a turn.client turn.number s n }) held (server_left a held k turn.client n w m on ready found file h) turn r (left_as a held k turn.client n w m on ready found file h up granted y.life y.is (its_life_client a held k turn.client n w m on ready found file h l there y.life y.alike)) is up) (λ e. (rose, refl))
        (stands_timely a.holder.clock 0 k.clock h.clock)
