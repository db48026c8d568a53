-- file calls that are refused before they are looked at
use Rattle.std.specs.Prelude.{cond, Bool, true, false, Option, None, Some, is_some, IsSome}
use Rattle.std.specs.Option.{option_or}
use Rattle.std.proofs.Common.{inl, inr, ◌≡◌, ℕ, List, [], refl, sym, ◌∙◌, ap, subst}
use Rattle.alp_base.specs.declared.ids.TransId.{TransId}
use Rattle.alp_files.specs.declared.call.Call.{Call}
use Rattle.alp_files.specs.declared.reply.Reply.{Reply}
use Rattle.alp_files.specs.declared.reply.Reply.TheVariants as reply
use Rattle.alp_files.specs.declared.refusal.Refusal.{Refusal}
use Rattle.alp_files.specs.declared.refusal.Refusal.TheVariants as refusal
use Rattle.alp_vault.specs.Contents.{Contents}
use Rattle.alp_base.specs.Causes.{Rose}
use Rattle.alp_journal.specs.declared.event.Event.TheVariants as event
use Rattle.alp_journal.specs.Desk.{Waiting, file_trans, is_not_yet, waiting_of}
use Rattle.alp_journal.specs.Holder.{Life, new_life}
use Rattle.alp_journal.specs.Moves.{done_by}
use Rattle.alp_journal.specs.Answers.{part_at, at_part, part_refusal, First, OrFault, IsFileOf, IsFileAnswer, IsLocked, shape_refusal, lock_refusal}
use Rattle.alp_journal.specs.Answered.{GrantsFor, grants_by, grants_if, asks, is_read_fault}
use Rattle.alp_journal.specs.Account.{Account, state_of}
use Rattle.alp_journal.proofs.RefusedCalls.{counted_as, refused_leads}
use Rattle.alp_journal.proofs.WaitingCalls.{busy_leads}
use Rattle.alp_files.proofs.FilesLemmas.{same-some}
use Rattle.alp_journal.specs.Desk.{Session}
use Rattle.alp_node.specs.ServerState.{IsAs}
use Rattle.alp_node.specs.Standings.{standing_of, refusal_at}
use Rattle.alp_node.specs.Waits.{has_waiting}
use Rattle.alp_node.specs.Steps.{Stepped, IsTurn, counted_in, seen_in, refused_answer}
use Rattle.alp_node.specs.declared.answer.Answer.{Answer}
use Rattle.alp_node.specs.declared.served.Standing.{Standing}
use Rattle.alp_node.specs.declared.served.Standing.TheVariants as standing
use Rattle.alp_node.specs.declared.server_state.ServerState.{ServerState}
use Rattle.alp_node.specs.declared.sessions.Turn.{Turn}
use Rattle.alp_node.proofs.FinishLemmas.{turn_session, counts_as}
use Rattle.alp_node.proofs.KeptLemmas.{session_of, stands_timely, stepped_so}
use Rattle.alp_node.proofs.StandingLemmas.{part_told, refusal_told, busy_same, joining_waits}
use Rattle.alp_node.proofs.BesideLemmas.{AreNamed}

module _ {V : Type 0} (a : Account) (before now : ℕ) (held : Contents) (k : ServerState V) (turn : Turn) (t : TransId) (c : Call) where
  -- a file call is refused, and nothing comes about
  pub refused_stepped : (failed : Bool) (f : Refusal) (x : Answer) → IsAs a held k → IsTurn k.sessions turn → k.is_down ≡ false → (failed ≡ true → Rose before now × (is_read_fault (Some (reply.Refused f)) ≡ true)) → file_trans c ≡ Some t → is_not_yet (reply.Refused f) ≡ false
      → done_by (state_of a) c (reply.Refused f) (Some t) ≡ [] → IsFileOf failed (state_of a) turn.client c (reply.Refused f) (Some t) → GrantsFor failed (state_of a) turn.client c (reply.Refused f) [] (Some t)
      → x ≡ refused_answer f []
      → Stepped a before now held (record k { sessions = counted_in k.sessions turn (reply.Refused f) }) (event.Call turn.client k.epoch turn.number c) x
  refused_stepped failed f x h is up rose named later none why grants so =
      let w : Session = session_of turn is in
      stepped_so a before now held held k (record k { sessions = counted_in k.sessions turn (reply.Refused f) }) turn.client turn.number w c failed (reply.Refused f) [] (counted_as a turn.client turn.number w (reply.Refused f)) x so h
      (refused_leads a turn.client turn.number w failed t c f h.quiet (h.down ∙ up) (turn_session a held k turn h is) is.number named later none why grants) (counts_as a held k turn (reply.Refused f) h is up) rose
      (stands_timely a.holder.clock (seen_in (event.Call turn.client k.epoch turn.number c)) k.clock h.clock)

  part_why : (f : Refusal) → part_refusal (state_of a) turn.client t ≡ Some f → IsFileOf false (state_of a) turn.client c (reply.Refused f) (Some t)
  part_why f is = subst (λ (x : Option Refusal). First x (reply.Refused f) (OrFault false (reply.Refused f) (IsFileAnswer (state_of a) t c (reply.Refused f) (a.holder.lives t)))) (sym is) refl

  part_grants : (f : Refusal) → part_refusal (state_of a) turn.client t ≡ Some f → GrantsFor false (state_of a) turn.client c (reply.Refused f) [] (Some t)
  part_grants f is = inr (sym (ap (λ (x : Option Refusal). cond {A = List TransId} (is_some x) [] (grants_if (state_of a) t c (reply.Refused f) (a.holder.lives t))) is))

  -- the part refuses it at once, for good or as another call of it waits
  for_good : (f : Refusal) (x : Answer) → IsAs a held k → IsTurn k.sessions turn → k.is_down ≡ false → file_trans c ≡ Some t → part_refusal (state_of a) turn.client t ≡ Some f → is_not_yet (reply.Refused f) ≡ false → done_by (state_of a) c (reply.Refused f) (Some t) ≡ []
      → x ≡ refused_answer f []
      → Stepped a before now held (record k { sessions = counted_in k.sessions turn (reply.Refused f) }) (event.Call turn.client k.epoch turn.number c) x
  for_good f x h is up named told later none so = refused_stepped false f x h is up (λ e. cc) named later none (part_why f told) (part_grants f told) so

  as_busy : (v : Waiting) (x : Answer) → IsAs a held k → IsTurn k.sessions turn → k.is_down ≡ false → file_trans c ≡ Some t → part_refusal (state_of a) turn.client t ≡ Some refusal.NotYet → waiting_of (state_of a).desk turn.client t ≡ Some v
      → x ≡ refused_answer refusal.NotYet []
      → Stepped a before now held (record k { sessions = counted_in k.sessions turn (reply.Refused refusal.NotYet) }) (event.Call turn.client k.epoch turn.number c) x
  as_busy v x h is up named told waits so =
      let w : Session = session_of turn is in
      stepped_so a before now held held k (record k { sessions = counted_in k.sessions turn (reply.Refused refusal.NotYet) }) turn.client turn.number w c false (reply.Refused refusal.NotYet) [] (counted_as a turn.client turn.number w (reply.Refused refusal.NotYet)) x so h
      (busy_leads a turn.client turn.number w t (new_life None turn.client []) c v h.quiet (h.down ∙ up) (turn_session a held k turn h is) is.number told named waits)
      (counts_as a held k turn (reply.Refused refusal.NotYet) h is up) (λ e. cc) (stands_timely a.holder.clock (seen_in (event.Call turn.client k.epoch turn.number c)) k.clock h.clock)

  -- whoever asks to be let in waits for it
  its_waiter : IsSome (waiting_of (state_of a).desk turn.client t) → (v : Waiting) × (waiting_of (state_of a).desk turn.client t ≡ Some v)
  its_waiter some = go (waiting_of (state_of a).desk turn.client t) refl some
    where
      go : (x : Option Waiting) → waiting_of (state_of a).desk turn.client t ≡ x → IsSome x → (v : Waiting) × (waiting_of (state_of a).desk turn.client t ≡ Some v)
      go None e s = let wrong : false ≡ true = s in cc
      go (Some v) e s = (v, e)

  abbrev Refuses : Refusal → Answer → Type 0
  Refuses f x = Stepped a before now held (record k { sessions = counted_in k.sessions turn (reply.Refused f) }) (event.Call turn.client k.epoch turn.number c) x

  pub at_once_stepped : (f : Refusal) (x : Answer) → IsAs a held k → IsTurn k.sessions turn → k.is_down ≡ false → AreNamed k.waits → file_trans c ≡ Some t → refusal_at (has_waiting turn.client t k.waits) (standing_of k turn.client t) ≡ Some f
      → x ≡ refused_answer f []
      → Stepped a before now held (record k { sessions = counted_in k.sessions turn (reply.Refused f) }) (event.Call turn.client k.epoch turn.number c) x
  at_once_stepped f x h is up given named at so = go (has_waiting turn.client t k.waits) (standing_of k turn.client t) refl refl at
    where
      told : part_refusal (state_of a) turn.client t ≡ Some f
      told = sym (refusal_told a held k turn.client t h given) ∙ at

      busy : f ≡ refusal.NotYet → IsSome (waiting_of (state_of a).desk turn.client t) → Refuses f x
      busy is_f some =
          let v = its_waiter some in
          subst (λ (g : Refusal). Stepped a before now held (record k { sessions = counted_in k.sessions turn (reply.Refused g) }) (event.Call turn.client k.epoch turn.number c) x) (sym is_f)
          (as_busy v.0 x h is up named (told ∙ ap Some is_f) v.1 (so ∙ ap (λ (g : Refusal). refused_answer g []) is_f))

      good : (g : Refusal) → g ≡ f → is_not_yet (reply.Refused g) ≡ false → done_by (state_of a) c (reply.Refused g) (Some t) ≡ [] → Refuses f x
      good g is_f later none = for_good f x h is up named told (subst (λ (y : Refusal). is_not_yet (reply.Refused y) ≡ false) is_f later) (subst (λ (y : Refusal). done_by (state_of a) c (reply.Refused y) (Some t) ≡ []) is_f none) so

      go : (b : Bool) (s : Standing) → has_waiting turn.client t k.waits ≡ b → standing_of k turn.client t ≡ s → refusal_at b s ≡ Some f → Refuses f x
      go b standing.Unknown waits stands e = good refusal.UnknownTrans (same-some refusal.UnknownTrans f e) refl refl
      go b (standing.Ended why) waits stands e = good (refusal.Aborted why) (same-some (refusal.Aborted why) f e) refl refl
      go b standing.Finishing waits stands e = good refusal.Finishing (same-some refusal.Finishing f e) refl refl
      go b standing.Joining waits stands e = busy (sym (same-some refusal.NotYet f e)) (joining_waits a turn.client t h.quiet.settled (part_told a held k turn.client t h standing.Joining stands))
      go true standing.Work waits stands e = busy (sym (same-some refusal.NotYet f e)) (sym (busy_same a held k turn.client t h given) ∙ waits)
      go false standing.Work waits stands e = let wrong : None ≡ Some f = e in cc

  -- a part at work of which no call waits refuses nothing at once
  at_work : IsAs a held k → standing_of k turn.client t ≡ standing.Work → waiting_of (state_of a).desk turn.client t ≡ None → part_refusal (state_of a) turn.client t ≡ None
  at_work h own idle = ap (λ (x : Option Waiting). at_part (is_some x) (part_at (state_of a) turn.client t)) idle ∙ ap (at_part false) (part_told a held k turn.client t h standing.Work own)

  -- a call of a part at work, by what the part is answered
  pub work_why : (failed : Bool) (r : Reply) (life : Life) → IsAs a held k → standing_of k turn.client t ≡ standing.Work → waiting_of (state_of a).desk turn.client t ≡ None → a.holder.lives t ≡ Some life
      → OrFault failed r (IsFileAnswer (state_of a) t c r (Some life)) → IsFileOf failed (state_of a) turn.client c r (Some t)
  work_why failed r life h own idle live why =
      let none : part_refusal (state_of a) turn.client t ≡ None = at_work h own idle in
      subst (λ (x : Option Refusal). First x r (OrFault failed r (IsFileAnswer (state_of a) t c r (a.holder.lives t)))) (sym none)
      (subst (λ (x : Option Life). OrFault failed r (IsFileAnswer (state_of a) t c r x)) (sym live) why)

  pub work_grants : (failed : Bool) (r : Reply) (life : Life) (ts : List TransId) → IsAs a held k → standing_of k turn.client t ≡ standing.Work → waiting_of (state_of a).desk turn.client t ≡ None → a.holder.lives t ≡ Some life
      → ts ≡ grants_if (state_of a) t c r (Some life) → GrantsFor failed (state_of a) turn.client c r ts (Some t)
  work_grants failed r life ts h own idle live are =
      let none : part_refusal (state_of a) turn.client t ≡ None = at_work h own idle in
      inr (are ∙ ap (grants_if (state_of a) t c r) (sym live) ∙ sym (ap (λ (x : Option Refusal). cond {A = List TransId} (is_some x) [] (grants_if (state_of a) t c r (a.holder.lives t))) none))

  -- a read of the vault failed
  pub fault_stepped : (life : Life) (x : Answer) → IsAs a held k → IsTurn k.sessions turn → k.is_down ≡ false → Rose before now → file_trans c ≡ Some t → standing_of k turn.client t ≡ standing.Work → waiting_of (state_of a).desk turn.client t ≡ None
      → a.holder.lives t ≡ Some life → x ≡ refused_answer refusal.ReadFault []
      → Stepped a before now held (record k { sessions = counted_in k.sessions turn (reply.Refused refusal.ReadFault) }) (event.Call turn.client k.epoch turn.number c) x
  fault_stepped life x h is up rose named own idle live so =
      refused_stepped true refusal.ReadFault x h is up (λ e. (rose, refl)) named refl refl (work_why true (reply.Refused refusal.ReadFault) life h own idle live (inl (refl, refl))) (inl (refl, refl, refl)) so

  -- it is refused before its locks are looked at
  pub first_stepped : (f : Refusal) (life : Life) (x : Answer) → IsAs a held k → IsTurn k.sessions turn → k.is_down ≡ false → file_trans c ≡ Some t → standing_of k turn.client t ≡ standing.Work → waiting_of (state_of a).desk turn.client t ≡ None
      → a.holder.lives t ≡ Some life → option_or (shape_refusal (state_of a) life c) (lock_refusal (state_of a) t life c) ≡ Some f → is_not_yet (reply.Refused f) ≡ false → done_by (state_of a) c (reply.Refused f) (Some t) ≡ []
      → x ≡ refused_answer f []
      → Stepped a before now held (record k { sessions = counted_in k.sessions turn (reply.Refused f) }) (event.Call turn.client k.epoch turn.number c) x
  first_stepped f life x h is up named own idle live first later none so =
      refused_stepped false f x h is up (λ e. cc) named later none
      (work_why false (reply.Refused f) life h own idle live (inr (subst (λ (z : Option Refusal). First z (reply.Refused f) (IsLocked (state_of a) t life c (reply.Refused f))) (sym first) refl)))
      (work_grants false (reply.Refused f) life [] h own idle live (sym (ap (λ (z : Option Refusal). cond {A = List TransId} (is_some z) [] (grants_by (asks a.holder life c) t (reply.Refused f))) first))) so
