-- calls that wait, beside a part that goes on: what they ask and where they stand is as it was
use Rattle.std.specs.Prelude.{cond, Bool, true, false, not, ◌&&◌, ◌||◌, ◌==◌, find, filter, is_some, Option, None, Some}
use Rattle.std.specs.List.{AllByRecursion, list_any}
use Rattle.std.specs.Option.{option_map}
use Rattle.std.specs.FinMap as map
use Rattle.std.proofs.Common.{inr, ◌≡◌, ℕ, List, [], ◌∷◌, length, refl, sym, ◌∙◌, ap, subst}
use Rattle.alp_base.specs.declared.ids.TransId.{TransId}
use Rattle.alp_base.specs.declared.key.Resource.{Resource}
use Rattle.alp_files.specs.declared.call.Call.{Call}
use Rattle.alp_files.specs.declared.call.Call.TheVariants as call
use Rattle.alp_files.specs.Cells.{Cells}
use Rattle.alp_files.specs.Edits.{edits_map}
use Rattle.alp_files.specs.Locks.{Need, needs_of, request_of, HoldsEach}
use Rattle.alp_queue.specs.Rises.{Held}
use Rattle.alp_queue.specs.declared.waiter.Waiter.{Waiter}
use Rattle.alp_locks.specs.Tables.{Holders, held_of}
use Rattle.alp_locks.specs.Asks.{waiter_of}
use Rattle.alp_locks.proofs.SoundLemmas.{each-more, each-both}
use Rattle.alp_journal.specs.Ids.{same_trans}
use Rattle.alp_journal.specs.Account.{Account, state_of}
use Rattle.alp_journal.specs.Holder.{Holder, Life}
use Rattle.alp_journal.specs.Desk.{Waiting, file_trans, part_trans, is_of, is_of_part, waiting_of, waiting_at}
use Rattle.alp_journal.specs.Counts.{Locked, request_in, with_resources}
use Rattle.alp_journal.specs.Answered.{is_conversion, is_conversion_of, rises_on}
use Rattle.alp_turns.specs.Queues.{request_for, request_at, queue_of}
use Rattle.alp_turns.proofs.MoveLemmas.{AsksAlike, TurnsAlike, queue_kept}
use Rattle.alp_node.specs.ServerState.{IsAskedAs, IsWaitingAs}
use Rattle.alp_node.specs.Waits.{waiting, waiting_calls, has_waiting, call_at, IsCallBy, IsNamed}
use Rattle.alp_node.specs.Waits as node
use Rattle.alp_node.specs.declared.lock_counts.LockCounts.{LockCounts}
use Rattle.alp_node.specs.declared.waits.WaitingCall.{WaitingCall}

-- ---- file calls, and the others

-- a file call that is not on this transaction is of another
pub file_away : (w : WaitingCall) (n : LockCounts) (t : TransId) → w.counts ≡ Some n → node.is_file_on t w ≡ false → same_trans w.trans t ≡ false
file_away w n t counted off = sym (ap (λ (x : Option LockCounts). is_some x && same_trans w.trans t) counted) ∙ off

-- a file call is of the part of its transaction
file_part : (c : Call) (t : TransId) → file_trans c ≡ Some t → part_trans c ≡ Some t
file_part (call.Join u) t e = cc
file_part (call.Finish u commit) t e = cc
file_part c t e = e

-- and so is each call
pub part_named : (w : WaitingCall) → IsNamed w → part_trans w.call ≡ Some w.trans
part_named w h = go w.counts h
  where
    go : (x : Option LockCounts) → IsCallBy w.call w.trans x → part_trans w.call ≡ Some w.trans
    go None k = k.1
    go (Some n) k = file_part w.call w.trans k

-- a file call has counts
pub file_named : (t : TransId) (w : WaitingCall) → IsNamed w → is_of t (file_trans w.call) ≡ node.is_file_on t w
file_named t w h = go w.counts h
  where
    go : (x : Option LockCounts) → IsCallBy w.call w.trans x → is_of t (file_trans w.call) ≡ (is_some x && same_trans w.trans t)
    go None k = ap (is_of t) k.0
    go (Some n) k = ap (is_of t) k

pub counted_named : (w : WaitingCall) (n : LockCounts) → w.counts ≡ Some n → IsNamed w → file_trans w.call ≡ Some w.trans
counted_named w n counted h = subst (IsCallBy w.call w.trans) counted h

pub part_alike : (client : ℕ) (t : TransId) (w : WaitingCall) → IsNamed w → is_of_part client t (waiting w) ≡ node.is_of client t w
part_alike client t w h = ap (λ (x : Option TransId). w.client == client && is_of t x) (part_named w h)

-- ---- one part goes on

module _ (h then : Holder) (parts others : Holders) (t : TransId) (cells : then.cells ≡ h.cells) (lives : (u : TransId) → same_trans u t ≡ false → then.lives u ≡ h.lives u) (held : (u : TransId) → same_trans u t ≡ false → held_of others u ≡ held_of parts u) where
  -- a part that is as it was asks for a call what it asked
  pub asked_same : (c : Call) (l : Life) → request_in then c (Some l) ≡ request_in h c (Some l)
  asked_same c l = ap (λ (m : Cells). request_of l.held (needs_of (map.get (edits_map l.edits m)) l.own c)) cells

  asks_so : (w : Waiting) → is_of t (file_trans w.call) ≡ false → AsksAlike h then parts others w
  asks_so w away = go (file_trans w.call) away
    where
      same : (u : TransId) → same_trans u t ≡ false → (x : Option Life) → request_for then others w u x ≡ request_for h parts w u x
      same u e None = refl
      same u e (Some l) =
          ap (λ (y : Held). cond {A = List Waiter} (not w.is_granted && w.client == l.client) (waiter_of y u (request_in then w.call (Some l)) ∷ []) []) (held u e)
          ∙ ap (λ (ns : List Need). cond {A = List Waiter} (not w.is_granted && w.client == l.client) (waiter_of (held_of parts u) u ns ∷ []) []) (asked_same w.call l)

      go : (x : Option TransId) → is_of t x ≡ false → request_at then others w x ≡ request_at h parts w x
      go None e = refl
      go (Some u) e = ap (request_for then others w u) (lives u e) ∙ same u e (h.lives u)

  turns_so : (w : Waiting) → is_of t (file_trans w.call) ≡ false → TurnsAlike h then parts others w
  turns_so w away = inr (go (file_trans w.call) away)
    where
      same : (x : Option Life) → is_conversion_of then w x ≡ is_conversion_of h w x
      same None = refl
      same (Some l) = ap (list_any (λ (n : Need). rises_on l.held n && is_some (l.held n.0))) (asked_same w.call l)

      go : (x : Option TransId) → is_of t x ≡ false → is_conversion then w x ≡ is_conversion h w x
      go None e = refl
      go (Some u) e = ap (is_conversion_of then w) (lives u e) ∙ same (h.lives u)

  -- the queue of calls of others stands
  pub queue_beside : (ws : List Waiting) → AllByRecursion (λ (w : Waiting). is_of t (file_trans w.call) ≡ false) ws → queue_of then others ws ≡ queue_of h parts ws
  queue_beside ws away =
      queue_kept h then parts others ws (each-more (λ (w : Waiting). is_of t (file_trans w.call) ≡ false) (AsksAlike h then parts others) asks_so ws away)
      (each-more (λ (w : Waiting). is_of t (file_trans w.call) ≡ false) (TurnsAlike h then parts others) turns_so ws away)

  -- and so does what they count
  pub asked_beside : (locked now : Locked) → ((u : TransId) → same_trans u t ≡ false → now u ≡ locked u) → (ws : List WaitingCall) → AllByRecursion (λ (w : WaitingCall). node.is_file_on t w ≡ false) ws
      → AllByRecursion (IsWaitingAs h locked) ws → AllByRecursion (IsWaitingAs then now) ws
  asked_beside locked now rs ws = each-both (λ (w : WaitingCall). node.is_file_on t w ≡ false) (IsWaitingAs h locked) (IsWaitingAs then now) one ws
    where
      one : (w : WaitingCall) → node.is_file_on t w ≡ false → IsWaitingAs h locked w → IsWaitingAs then now w
      one w off o n l counted is =
          let away : same_trans w.trans t ≡ false = file_away w n t counted off in
          let x : IsAskedAs h locked w n l = o n l counted (sym (lives w.trans away) ∙ is) in
          record {
            asked = x.asked ∙ ap (λ (ns : List Need). length (with_resources ns (locked w.trans))) (sym (asked_same w.call l)) ∙ ap (λ (qs : List Resource). length (with_resources (request_in then w.call (Some l)) qs)) (sym (rs w.trans away));
            made = x.made;
            covered = λ g. subst (λ (m : Cells). HoldsEach l.held (needs_of (map.get (edits_map l.edits m)) l.own w.call)) (sym cells) (x.covered g);
          }

-- ---- the server's calls, as the journal tells them

-- its calls are those of their transactions
abbrev pub AreNamed : List WaitingCall → Type 0
AreNamed ws = AllByRecursion IsNamed ws

-- each is a file call
abbrev pub AreFileCalls : List WaitingCall → Type 0
AreFileCalls ws = AllByRecursion (λ (w : WaitingCall). is_some w.counts ≡ true) ws

-- none is a file call of this transaction
abbrev pub AreOthers : TransId → List WaitingCall → Type 0
AreOthers t ws = AllByRecursion (λ (w : WaitingCall). node.is_file_on t w ≡ false) ws

-- and none is of the client's part
pub record HasNoCall (client : ℕ) (t : TransId) (ws : List WaitingCall) : Type 0 where
  pub others : AreOthers t ws
  pub idle : has_waiting client t ws ≡ false

pub others_told : (t : TransId) (ws : List WaitingCall) → AreNamed ws → AreOthers t ws → AllByRecursion (λ (w : Waiting). is_of t (file_trans w.call) ≡ false) (waiting_calls ws)
others_told t [] named away = tt
others_told t (w ∷ ws) named away = (file_named t w named.0 ∙ away.0, others_told t ws named.1 away.1)

-- who has no call that waits has none in the journal
pub none_told : (client : ℕ) (t : TransId) (ws : List WaitingCall) → AreNamed ws → has_waiting client t ws ≡ false → find (is_of_part client t) (waiting_calls ws) ≡ None
none_told client t [] named idle = refl
none_told client t (w ∷ ws) named idle =
    ap (λ (b : Bool). cond {A = Option Waiting} b (Some (waiting w)) (find (is_of_part client t) (waiting_calls ws))) (part_alike client t w named.0 ∙ left (node.is_of client t w) (has_waiting client t ws) idle)
    ∙ none_told client t ws named.1 (right (node.is_of client t w) (has_waiting client t ws) idle)
  where
    left : (b c : Bool) → (b || c) ≡ false → b ≡ false
    left false c e = refl
    left true c e = let wrong : true ≡ false = e in cc

    right : (b c : Bool) → (b || c) ≡ false → c ≡ false
    right false c e = e
    right true c e = let wrong : true ≡ false = e in cc

pub idle_told : (a : Account) (client : ℕ) (t : TransId) (ws : List WaitingCall) → a.waits ≡ waiting_calls ws → AreNamed ws → has_waiting client t ws ≡ false → waiting_of (state_of a).desk client t ≡ None
idle_told a client t ws is named idle = ap (find (is_of_part client t)) is ∙ none_told client t ws named idle

-- who has one has it there
pub record IsBusy (a : Account) (client : ℕ) (t : TransId) : Type 0 where
  pub call : Waiting
  pub waits : waiting_of (state_of a).desk client t ≡ Some call

pub busy_told : (a : Account) (client : ℕ) (t : TransId) (ws : List WaitingCall) → a.waits ≡ waiting_calls ws → AreNamed ws → has_waiting client t ws ≡ true → IsBusy a client t
busy_told a client t ws is named has = let found = some_told ws named has in record { call = found.0; waits = ap (find (is_of_part client t)) is ∙ found.1 }
  where
    some_told : (vs : List WaitingCall) → AreNamed vs → has_waiting client t vs ≡ true → (v : Waiting) × (find (is_of_part client t) (waiting_calls vs) ≡ Some v)
    some_told [] named e = cc
    some_told (w ∷ vs) named e = go (node.is_of client t w) (part_alike client t w named.0) e (some_told vs named.1)
      where
        go : (b : Bool) → is_of_part client t (waiting w) ≡ b → (b || has_waiting client t vs) ≡ true → (has_waiting client t vs ≡ true → (v : Waiting) × (find (is_of_part client t) (waiting_calls vs) ≡ Some v))
            → (v : Waiting) × (cond {A = Option Waiting} (is_of_part client t (waiting w)) (Some (waiting w)) (find (is_of_part client t) (waiting_calls vs)) ≡ Some v)
        go true f has_one rest = (waiting w, ap (λ (b : Bool). cond {A = Option Waiting} b (Some (waiting w)) (find (is_of_part client t) (waiting_calls vs))) f)
        go false f has_one rest = let found = rest has_one in (found.0, ap (λ (b : Bool). cond {A = Option Waiting} b (Some (waiting w)) (find (is_of_part client t) (waiting_calls vs))) f ∙ found.1)

-- a call by its number
pub find_told : (p : Waiting → Bool) (ws : List WaitingCall) → find p (waiting_calls ws) ≡ option_map waiting (find (λ w. p (waiting w)) ws)
find_told p [] = refl
find_told p (w ∷ ws) = go (p (waiting w)) (find_told p ws)
  where
    go : (b : Bool) → find p (waiting_calls ws) ≡ option_map waiting (find (λ w. p (waiting w)) ws)
        → cond {A = Option Waiting} b (Some (waiting w)) (find p (waiting_calls ws)) ≡ option_map waiting (cond {A = Option WaitingCall} b (Some w) (find (λ w. p (waiting w)) ws))
    go true e = refl
    go false e = e

pub at_told : (a : Account) (client number : ℕ) (ws : List WaitingCall) → a.waits ≡ waiting_calls ws → waiting_at (state_of a).desk client number ≡ option_map waiting (call_at client number ws)
at_told a client number ws is = ap (find (λ (w : Waiting). w.client == client && w.number == number)) is ∙ find_told (λ (w : Waiting). w.client == client && w.number == number) ws

-- calls that stay
pub filter_told : (p : Waiting → Bool) (q : WaitingCall → Bool) (ws : List WaitingCall) → AllByRecursion (λ (w : WaitingCall). p (waiting w) ≡ q w) ws → filter p (waiting_calls ws) ≡ waiting_calls (filter q ws)
filter_told p q [] same = refl
filter_told p q (w ∷ ws) same = ap (λ (b : Bool). cond {A = List Waiting} b (waiting w ∷ filter p (waiting_calls ws)) (filter p (waiting_calls ws))) same.0 ∙ go (q w) (filter_told p q ws same.1)
  where
    go : (b : Bool) → filter p (waiting_calls ws) ≡ waiting_calls (filter q ws) → cond {A = List Waiting} b (waiting w ∷ filter p (waiting_calls ws)) (filter p (waiting_calls ws)) ≡ waiting_calls (cond {A = List WaitingCall} b (w ∷ filter q ws) (filter q ws))
    go true e = ap (λ (vs : List Waiting). waiting w ∷ vs) e
    go false e = e
