-- a file call: what it asks, and how it is refused before it is performed
use Rattle.std.specs.Prelude.{cond, Bool, true, false, not, ◌==◌, Option, None, Some, is_some}
use Rattle.std.specs.List.{list_any}
use Rattle.std.specs.Option.{option_or}
use Rattle.std.specs.FinMap as map
use Rattle.std.proofs.Common.{inl, inr, ◌⊎◌, ◌≡◌, ℕ, ◌+◌, ◌<◌, List, [], ◌∷◌, length, refl, sym, ◌∙◌, ap, subst, arith}
use Rattle.alp_base.specs.declared.allowance.Allowance.{Allowance}
use Rattle.alp_base.specs.declared.ids.TransId.{TransId}
use Rattle.alp_base.specs.declared.key.Resource.{Resource}
use Rattle.alp_files.specs.Act.{Own}
use Rattle.alp_files.specs.Cells.{View}
use Rattle.alp_files.specs.Holdings.{Holding}
use Rattle.alp_files.specs.declared.call.Call.{Call}
use Rattle.alp_files.specs.declared.call.Call.TheVariants as call
use Rattle.alp_files.specs.declared.reply.Reply.{Reply}
use Rattle.alp_files.specs.declared.reply.Reply.TheVariants as reply
use Rattle.alp_files.specs.declared.refusal.Refusal.{Refusal}
use Rattle.alp_files.specs.declared.refusal.Refusal.TheVariants as refusal
use Rattle.alp_files.specs.Locks.{Need, request_of}
use Rattle.alp_locks.specs.Tables.{Holders, holding, held_of}
use Rattle.alp_locks.specs.Asks.{blocker, risen}
use Rattle.alp_locks.specs.Sound.{IsSound}
use Rattle.alp_vault.specs.Contents.{Contents}
use Rattle.alp_trans.specs.Parts.{own_of}
use Rattle.alp_calls.specs.Parts.{seen}
use Rattle.alp_journal.specs.declared.act.Act.{Act}
use Rattle.alp_journal.specs.declared.act.Act.TheVariants as act
use Rattle.alp_journal.specs.declared.event.Event.TheVariants as event
use Rattle.alp_journal.specs.Counts.{request_in, with_resources}
use Rattle.alp_journal.specs.Desk.{file_trans, waiting_of}
use Rattle.alp_journal.specs.Holder.{Life, view_in}
use Rattle.alp_journal.specs.Moves.{is_stop}
use Rattle.alp_journal.specs.Answers.{First, IsLocked, shape_refusal, lock_refusal, locks_then, more_locks, choice_of}
use Rattle.alp_journal.specs.Answered.{asks, rises_on}
use Rattle.alp_journal.specs.Account.{Account, state_of}
use Rattle.alp_base.specs.declared.choices.Choice.{Choice}
use Rattle.alp_base.specs.declared.choices.Choice.TheVariants as choice
use Rattle.alp_node.specs.Halts.{HaveCauses}
use Rattle.alp_node.specs.Asks.{asks_of, plan_of, acts_of}
use Rattle.alp_node.specs.Calls.{IsServedCall}
use Rattle.alp_node.specs.Covers.{AreHeld}
use Rattle.alp_node.specs.Dead.{cause_in}
use Rattle.alp_node.specs.Rooms.{IsWithin}
use Rattle.alp_node.specs.Shapes.{shape_of, fresh_on, counts_then, too_locked, is_wait, may_wait}
use Rattle.alp_node.specs.ServerState.{IsAs, IsCaller, IsLife}
use Rattle.alp_node.specs.Standings.{standing_of}
use Rattle.alp_node.specs.Steps.{Stepped, IsTurn, counted_in, refused_answer}
use Rattle.alp_node.specs.declared.answer.Answer.{Answer as Handed}
use Rattle.alp_node.specs.declared.lives.Live.{Live}
use Rattle.alp_node.specs.declared.lock_counts.LockCounts.{LockCounts}
use Rattle.alp_node.specs.declared.server_state.ServerState.{ServerState}
use Rattle.alp_node.specs.declared.served.Standing.TheVariants as standing
use Rattle.alp_node.specs.declared.sessions.Turn.{Turn}
use Rattle.alp_node.proofs.CallLemmas.{sees}
use Rattle.alp_node.proofs.ConflictLemmas.{least_holder, none_risen, rises_as}
use Rattle.alp_node.proofs.CountedLemmas.{IsCountRefusal}
use Rattle.alp_node.proofs.KeptLemmas.{IsLive, live_there}
use Rattle.alp_node.proofs.LockCountLemmas.{count_all, held_same}
use Rattle.alp_node.proofs.StandingLemmas.{unvoted_told}
use Rattle.alp_node.proofs.RoomLemmas.{none_locked}
use Rattle.alp_node.proofs.ServedLemmas.{first_stepped, refused_stepped, work_why, work_grants}
use Rattle.alp_node.proofs.ShapeLemmas.{IsShut, shape_cases, count_none_done, too_locked_is}

-- no act of it stops the server
pub acts_up : (t : TransId) (ns : List Need) → list_any is_stop (acts_of t ns) ≡ false
acts_up t ns = go (length ns == 0)
  where
    go : (e : Bool) → list_any is_stop (cond {A = List Act} e [] (act.Granted t ∷ [])) ≡ false
    go true = refl
    go false = refl

pub acts_caused : (before now : ℕ) (allowance : Allowance) (t : TransId) (ns : List Need) → HaveCauses before now allowance (acts_of t ns)
acts_caused before now allowance t ns = go (length ns == 0)
  where
    go : (e : Bool) → HaveCauses before now allowance (cond {A = List Act} e [] (act.Granted t ∷ []))
    go true = tt
    go false = tt

-- a call that asks for locks chooses what to do where another is in its way
pub asks_choice : (held : Holding) (m : View) (own : Own) (c : Call) → IsServedCall c → ((x : Choice) × (choice_of c ≡ Some x)) ⊎ (asks_of held m own c ≡ [])
asks_choice held m own (call.CreateFile t start x) is = inl (x, refl)
asks_choice held m own (call.OpenFile t f a mode x) is = inl (x, refl)
asks_choice held m own (call.CloseFile t n) is = inr refl
asks_choice held m own (call.DeleteFile t n x) is = inl (x, refl)
asks_choice held m own (call.ReadPages t n r mode x) is = inl (x, refl)
asks_choice held m own (call.WritePages t n r pages x) is = inl (x, refl)
asks_choice held m own (call.LockPages t n r mode x) is = inl (x, refl)
asks_choice held m own (call.SetSize t n size x) is = inl (x, refl)
asks_choice held m own (call.ReadProps t n) is = inr refl
asks_choice held m own (call.WriteProps t n change x) is = inl (x, refl)
asks_choice held m own (call.ReadOwner t name x) is = inl (x, refl)
asks_choice held m own (call.MakeOwner t name quota create x) is = inl (x, refl)
asks_choice held m own (call.SetQuota t name quota x) is = inl (x, refl)
asks_choice held m own c is = (let wrong : false ≡ true = is in cc)

-- it fails, or it waits
pub chosen : (c : Call) (b : Bool) (x : Choice) → choice_of c ≡ Some x → may_wait c ≡ b → choice_of c ≡ Some (cond {A = Choice} b choice.Wait choice.Fail)
chosen c true choice.Wait is may = is
chosen c true choice.Fail is may = let wrong : false ≡ true = sym (ap is_wait is) ∙ may in cc
chosen c false choice.Wait is may = let wrong : true ≡ false = sym (ap is_wait is) ∙ may in cc
chosen c false choice.Fail is may = is

-- nobody is in the way of nothing
pub none_asked_free : (locks : Holders) (t : TransId) (holder : TransId) → blocker locks t (risen (held_of locks t) []) ≡ Some holder → ⊥
none_asked_free locks t holder e =
    let none : risen (held_of locks t) [] ≡ [] = none_risen (held_of locks t) [] tt (risen (held_of locks t) []) refl in
    let wrong : None ≡ Some holder = sym (ap (blocker locks t) none) ∙ e in
    cc

-- ---- what it asks

module _ {V : Type 0} (a : Account) (held : Contents) (k : ServerState V) (t : TransId) (l : Live) (c : Call) (ns : List Need) (life : Life) (h : IsAs a held k) (up : k.is_down ≡ false) (mine : IsLife a.holder.cells k.locks.held (a.locked t) t l life) (caller : IsCaller l life)
    (served : IsServedCall c) (told : ns ≡ asks_of (holding k.locks.held t) (seen held.cells l.part) (own_of l.part) c) where
  -- how many resources it has locked then
  abbrev pub counts : LockCounts
  counts = counts_then l.locks (holding k.locks.held t) ns c

  abbrev pub locked_then : List Resource
  locked_then = with_resources (request_in a.holder c (Some life)) (a.locked t)

  -- what the journal's laws ask is what is asked of the table
  pub lock_request : request_in a.holder c (Some life) ≡ ns
  lock_request = (λ i. asks_of (λ q. mine.held q i) (sym (sees a held k t (a.locked t) l life h up mine) i) (sym caller.own i) c) ∙ sym told

  -- it asks for nothing, or has a choice
  pub lock_choice : ((x : Choice) × (choice_of c ≡ Some x)) ⊎ (ns ≡ [])
  lock_choice = go (asks_choice life.held (view_in a.holder life) life.own c served)
    where
      go : ((x : Choice) × (choice_of c ≡ Some x)) ⊎ (asks_of life.held (view_in a.holder life) life.own c ≡ []) → ((x : Choice) × (choice_of c ≡ Some x)) ⊎ (ns ≡ [])
      go (inl chooses) = inl chooses
      go (inr none) = inr (sym lock_request ∙ none)

  pub lock_asks : asks a.holder life c ≡ not (length (risen (held_of k.locks.held t) ns) == 0)
  lock_asks =
      ap (list_any (rises_on life.held)) lock_request ∙ ap (λ (x : Holding). list_any (rises_on x) ns) (λ i q. mine.held q i) ∙ rises_as (held_of k.locks.held t) ns

  pub lock_known : AreHeld (holding k.locks.held t) (a.locked t)
  lock_known = held_same life.held (holding k.locks.held t) (a.locked t) mine.held mine.known

  pub asked_locks : length locked_then ≡ counts.asked
  asked_locks =
      ap (λ (ms : List Need). length (with_resources ms (a.locked t))) lock_request ∙ count_all (holding k.locks.held t) ns (a.locked t) lock_known ∙ ap (λ (n : ℕ). n + fresh_on (holding k.locks.held t) ns) (sym mine.count)

  pub made_locks : counts.made ≡ locks_then (state_of a) t life c
  made_locks = ap (λ (m : ℕ). m + more_locks c) (sym asked_locks)

  -- too many are what the journal says are too many
  pub told_locks : lock_refusal (state_of a) t life c ≡ too_locked k.sizes.area l.part.counts.cells counts.made
  told_locks = λ i. too_locked (h.sizes i).area (sym mine.counts.cells i) (sym made_locks i)

  -- neither its shape nor its locks refuse it
  pub not_refused : shape_refusal (state_of a) life c ≡ None → too_locked k.sizes.area l.part.counts.cells counts.made ≡ None → option_or (shape_refusal (state_of a) life c) (lock_refusal (state_of a) t life c) ≡ None
  not_refused shape few = λ i. option_or (shape i) ((told_locks ∙ few) i)

  -- one that is refused for its open asks for nothing
  module _ (raised : 0 < k.epoch) (shut : IsShut a held k h raised t l life caller c) where
    pub shut_none : ns ≡ []
    shut_none = sym lock_request ∙ ap (request_of life.held) shut.none

    shut_counts : counts.made ≡ l.locks
    shut_counts = ap (λ (ms : List Need). l.locks + fresh_on (holding k.locks.held t) ms + more_locks c) shut_none ∙ ap (λ (m : ℕ). l.locks + 0 + m) shut.less ∙ add_nothing l.locks
      where
        add_nothing : (m : ℕ) → m + 0 + 0 ≡ m
        add_nothing m = omega arith

    -- so its locks are no more than before
    pub shut_few : IsWithin k.sizes l → too_locked k.sizes.area l.part.counts.cells counts.made ≡ None
    shut_few within = ap (too_locked k.sizes.area l.part.counts.cells) shut_counts ∙ none_locked k.sizes.area l.part.counts.cells l.locks within.locks within.log

    pub shut_first : option_or (shape_refusal (state_of a) life c) (lock_refusal (state_of a) t life c) ≡ Some shut.refusal
    shut_first = ap (λ (x : Option Refusal). option_or x (lock_refusal (state_of a) t life c)) shut.first

-- ---- it is refused

module _ {V : Type 0} (a : Account) (before now : ℕ) (held : Contents) (k : ServerState V) (turn : Turn) (t : TransId) (l : Live) (c : Call) (ns : List Need) where
  abbrev then_counts : LockCounts
  then_counts = counts_then l.locks (holding k.locks.held t) ns c

  -- it would leave too many locks
  pub locks_stepped : (f : Refusal) (x : Handed) → IsAs a held k → 0 < k.epoch → IsTurn k.sessions turn → k.is_down ≡ false → map.get k.lives t ≡ Some l → standing_of k turn.client t ≡ standing.Work → waiting_of (state_of a).desk turn.client t ≡ None → IsWithin k.sizes l → IsServedCall c
      → ns ≡ asks_of (holding k.locks.held t) (seen held.cells l.part) (own_of l.part) c → shape_of k.server k.epoch k.given (length l.part.opens.items) c ≡ None → too_locked k.sizes.area l.part.counts.cells then_counts.made ≡ Some f → file_trans c ≡ Some t
      → x ≡ refused_answer f []
      → Stepped a before now held (record k { sessions = counted_in k.sessions turn (reply.Refused f) }) (event.Call turn.client k.epoch turn.number c) x
  locks_stepped f x h raised is up there works idle within served told shape many of so =
      let y : IsLive a.holder.cells k.locks.held (a.locked t) t l (a.holder.lives t) = live_there a.holder.cells k.locks.held (a.locked t) t (map.get k.lives t) (a.holder.lives t) l there (h.lives t) in
      let counted : IsCountRefusal f = too_locked_is k.sizes.area l.part.counts.cells then_counts.made f many in
      let caller : IsCaller l y.life = y.alike.calls (unvoted_told a held k turn.client t h works y.life y.is).vote in
      first_stepped a before now held k turn t c f y.life x h is up of works idle y.is
      (go y.life y.alike caller (shape_cases a held k h raised t l y.life caller c served shape)) counted.now (count_none_done a t c f counted) so
    where
      go : (life : Life) (mine : IsLife a.holder.cells k.locks.held (a.locked t) t l life) (caller : IsCaller l life) → (shape_refusal (state_of a) life c ≡ None) ⊎ IsShut a held k h raised t l life caller c
          → option_or (shape_refusal (state_of a) life c) (lock_refusal (state_of a) t life c) ≡ Some f
      go life mine caller (inl passes) = λ i. option_or (passes i) ((told_locks a held k t l c ns life h up mine caller served told ∙ many) i)
      go life mine caller (inr shut) = (let wrong : None ≡ Some f = sym (shut_few a held k t l c ns life h up mine caller served told raised shut within) ∙ many in cc)

  -- another is in its way
  pub conflict_stepped : (holder : TransId) (x : Handed) → IsAs a held k → 0 < k.epoch → IsTurn k.sessions turn → k.is_down ≡ false → map.get k.lives t ≡ Some l → standing_of k turn.client t ≡ standing.Work → waiting_of (state_of a).desk turn.client t ≡ None → may_wait c ≡ false → IsServedCall c
      → ns ≡ asks_of (holding k.locks.held t) (seen held.cells l.part) (own_of l.part) c → shape_of k.server k.epoch k.given (length l.part.opens.items) c ≡ None → too_locked k.sizes.area l.part.counts.cells then_counts.made ≡ None → file_trans c ≡ Some t → IsSound k.locks
      → blocker k.locks.held t (plan_of k.locks t ns).rises ≡ Some holder
      → x ≡ refused_answer (refusal.LockConflict holder) []
      → Stepped a before now held (record k { sessions = counted_in k.sessions turn (reply.Refused (refusal.LockConflict holder)) }) (event.Call turn.client k.epoch turn.number c) x
  conflict_stepped holder x h raised is up there works idle never served told shape few of sound named so =
      let y : IsLive a.holder.cells k.locks.held (a.locked t) t l (a.holder.lives t) = live_there a.holder.cells k.locks.held (a.locked t) t (map.get k.lives t) (a.holder.lives t) l there (h.lives t) in
      let r : Reply = reply.Refused (refusal.LockConflict holder) in
      let caller : IsCaller l y.life = y.alike.calls (unvoted_told a held k turn.client t h works y.life y.is).vote in
      let none : option_or (shape_refusal (state_of a) y.life c) (lock_refusal (state_of a) t y.life c) ≡ None =
      not_refused a held k t l c ns y.life h up y.alike caller served told (open_there y.life y.alike caller (shape_cases a held k h raised t l y.life caller c served shape)) few in
      refused_stepped a before now held k turn t c false (refusal.LockConflict holder) x h is up (λ e. cc) of refl refl
      (work_why a before now held k turn t c false r y.life h works idle y.is
      (inr (subst (λ (z : Option Refusal). First z r (IsLocked (state_of a) t y.life c r)) (sym none)
      (IsLocked.conflict holder (fails (lock_choice a held k t l c ns y.life h up y.alike caller served told)) (least_holder a held k t l y.life c ns h y.alike (lock_request a held k t l c ns y.life h up y.alike caller served told) sound.agreeing holder named)))))
      (work_grants a before now held k turn t c false r y.life [] h works idle y.is (sym (one_or_none (is_some (option_or (shape_refusal (state_of a) y.life c) (lock_refusal (state_of a) t y.life c))) [] refl))) so
    where
      no_need : ns ≡ [] → ⊥
      no_need none = none_asked_free k.locks.held t holder (subst (λ (ms : List Need). blocker k.locks.held t (plan_of k.locks t ms).rises ≡ Some holder) none named)

      open_there : (life : Life) (mine : IsLife a.holder.cells k.locks.held (a.locked t) t l life) (caller : IsCaller l life) → (shape_refusal (state_of a) life c ≡ None) ⊎ IsShut a held k h raised t l life caller c → shape_refusal (state_of a) life c ≡ None
      open_there life mine caller (inl passes) = passes
      open_there life mine caller (inr shut) = absurd (no_need (shut_none a held k t l c ns life h up mine caller served told raised shut))

      fails : ((x : Choice) × (choice_of c ≡ Some x)) ⊎ (ns ≡ []) → choice_of c ≡ Some choice.Fail
      fails (inl chooses) = chosen c false chooses.0 chooses.1 never
      fails (inr none) = absurd (no_need none)

      one_or_none : (b : Bool) (ts : List TransId) → ts ≡ [] → cond {A = List TransId} b [] ts ≡ []
      one_or_none true ts none = refl
      one_or_none false ts none = none
