-- A transaction of two servers, played: messages are repeated and lost, and the worker starts again while it is ready.
use Rattle.std.specs.Prelude.{codes, true, false, unwrap_or, length}
use Rattle.std.specs.FinMap as map
use Rattle.std.proofs.Common.{◌≡◌, List, [], ◌∷◌, Option, None, Some, refl, sym, ap, inl, inr}
use Rattle.alp_base.specs.declared.ids.TransId.{TransId}
use Rattle.alp_files.specs.declared.call.Call.TheVariants as call
use Rattle.alp_files.specs.declared.reply.Reply.TheVariants as reply
use Rattle.alp_files.specs.declared.refusal.Refusal.TheVariants as refusal
use Rattle.alp_files.specs.declared.refusal.Cause.TheVariants as cause
use Rattle.alp_journal.specs.declared.act.Act.TheVariants as act
use Rattle.alp_journal.specs.declared.event.Event.TheVariants as event
use Rattle.alp_journal.specs.declared.message.Message.TheVariants as msg
use Rattle.alp_journal.specs.declared.entry.Entry.{Entry}
use Rattle.alp_history.specs.Examples.{trans, join, stamp, new, calls, arrives, first_up, vote, done, worker_up, ask, restarts}
use Rattle.alp_journal.specs.Along.{state_after}
use Rattle.alp_journal.specs.Deeds.{Releases, Hears, Decides}
use Rattle.alp_journal.specs.Coordinator.{Finishing, Committed, Forgotten, Ended, has_votes}
use Rattle.alp_journal.specs.Participant.{Active, Ready, Applied, Over}
use Rattle.alp_journal.specs.Holder.{Life, new_life}
use Rattle.alp_journal.specs.Desk.{Waiting, file_trans}
use Rattle.alp_journal.specs.State.{State, opened, state_deed}
use Rattle.alp_journal.specs.Moves.{tried, next}
use Rattle.alp_files.specs.declared.refusal.Why.TheVariants as why
use Rattle.alp_journal.specs.Messages.{Mail, due, on_ready}
use Rattle.alp_journal.specs.Halts.{HaltsRight}
use Rattle.alp_journal.specs.Answers.{part_refusal}
use Rattle.alp_journal.specs.Laws.{ReleasesEnded, SaysRight, MayReady, MayDecide}

abbrev file_in : Option Waiting → Option TransId
file_in None = None
file_in (Some w) = file_trans w.call

-- the part that lives
abbrev pub life_at : State → TransId → Life
life_at s t = unwrap_or (s.holder.lives t) (new_life None 0 [])

-- ---- the coordinator

abbrev pub before_vote : State
before_vote = state_after next (opened (new 1)) first_up

-- it waits for the vote
one_finishing : before_vote.fates trans ≡ Finishing 1 (join ∷ []) []
one_finishing = refl

no_vote_yet : has_votes (before_vote.fates trans) ≡ false
no_vote_yet = refl

-- with the vote it is decided
vote_deeds : tried before_vote vote ≡ Hears trans join 1 ∷ Decides stamp (join ∷ []) ∷ Releases trans ∷ []
vote_deeds = refl

vote_released : ReleasesEnded before_vote vote
vote_released = (refl, refl)

-- the decision needs the vote
pub decided_right : MayDecide (vote.event) (state_deed before_vote (Hears trans join 1)) stamp (join ∷ [])
decided_right = record { client = 1; votes = (join, 1) ∷ []; asked = refl; own = refl; now = refl; finishing = refl; voted = refl; time = refl; idle = λ w h. sym (ap file_in h); live = (life_at (state_deed before_vote (Hears trans join 1)) trans, refl, refl) }

-- the second coming of the vote, once it is decided, brings nothing
again_nothing : tried (next before_vote vote) (arrives 2 (msg.Ready trans join 1) []) ≡ []
again_nothing = refl

abbrev pub after_done : State
after_done = next (next before_vote vote) done

forgotten : after_done.fates trans ≡ Forgotten stamp (join ∷ [])
forgotten = refl

-- a Done before all have done it would not do: with another join it stays
clock_then : after_done.holder.clock ≡ 1
clock_then = refl

-- the commit may be said, and an abort may not
may_commit : SaysRight (vote.event) (next before_vote vote) (act.Sent 2 (msg.Commit trans join stamp))
may_commit = (refl, refl)

may_not_abort : SaysRight (vote.event) (next before_vote vote) (act.Sent 2 (msg.Abort trans join cause.Asked)) → ⊥
may_not_abort h = h.1

-- ---- the worker

abbrev pub before_ask : State
before_ask = state_after next (opened (new 2)) worker_up

joined_then : before_ask.phases join ≡ Active trans 1 (codes "Admin")
joined_then = refl

waits_no_more : before_ask.desk.waits ≡ []
waits_no_more = refl

pub votes_right : MayReady (ask.event) before_ask join trans 1
votes_right = record { from = 1; client = 1; who = codes "Admin"; asked = refl; active = refl; idle = refl; time = refl; live = (life_at before_ask trans, refl, refl) }

abbrev ready_again : State
ready_again = next (next before_ask ask) (restarts 2 0 (join ∷ []) [])

-- a ready part outlives a restart with its locks; the session does not
ready_still : ready_again.phases join ≡ Ready trans 1 1
ready_still = refl

locked_still : (life_at ready_again trans).held ≡ (life_at before_ask trans).held
locked_still = refl

no_session : ready_again.desk.sessions 1 ≡ None
no_session = refl

-- ---- a stop inside the write of the commit

abbrev pub commit_stops : Entry
commit_stops = arrives 1 (msg.Commit trans join stamp) (act.Applied join stamp ∷ act.Stopped ∷ [])

abbrev pub stopped : State
stopped = next (next before_ask ask) commit_stops

-- it names what its write held; a stop that hides that is refused, and so is one that names what would not be written
names_write : HaltsRight (next before_ask ask) commit_stops
names_write = inl (record { reaches = refl; acts = refl })

hides_write : HaltsRight (next before_ask ask) (arrives 1 (msg.Commit trans join stamp) (act.Stopped ∷ [])) → ⊥
hides_write h = elim h [ inl e ↦ (let wrong : act.Stopped ∷ [] ≡ act.Applied join stamp ∷ act.Stopped ∷ [] = e.acts in cc) | inr e ↦ (let wrong : act.Stopped ∷ [] ≡ act.Applied join stamp ∷ act.Failed ∷ [] = e.acts in cc) ]

writes_nothing : HaltsRight before_ask (arrives 1 (msg.Commit trans join stamp) (act.Applied join stamp ∷ act.Stopped ∷ [])) → ⊥
writes_nothing h = elim h [ inl e ↦ (let wrong : false ≡ true = e.reaches in cc) | inr e ↦ (let wrong : false ≡ true = e.reaches in cc) ]

-- a step that neither writes nor reads does not stop
stops_idly : HaltsRight before_ask (record { event = event.Tick; reply = None; acts = act.Stopped ∷ [] }) → ⊥
stops_idly h = elim h [ inl e ↦ (let wrong : false ≡ true = e.reaches in cc) | inr e ↦ (let wrong : false ≡ true = e.reaches in cc) ]

nothing_yet : stopped.holder.cells ≡ map.empty
nothing_yet = refl

-- where the join is found ready, it was not applied; else it was, and the clock is kept with it
not_applied : (next stopped (restarts 2 0 (join ∷ []) [])).phases join ≡ Ready trans 1 1
not_applied = refl

was_applied : (next stopped (restarts 2 1 [] [])).phases join ≡ Applied trans stamp
was_applied = refl

clock_kept : (next stopped (restarts 2 1 [] [])).holder.clock ≡ 1
clock_kept = refl

applied_once : length (next stopped (restarts 2 1 [] [])).holder.applied ≡ 1
applied_once = refl

-- ---- a worker that lost its part

abbrev lost : State
lost = next before_ask (restarts 2 0 [] [])

lost_over : lost.phases join ≡ Over
lost_over = refl

-- asked then, it votes against it
lost_no : SaysRight (event.Arrive 1 (msg.Ask trans join)) lost (act.Sent 1 (msg.Ready trans join 1)) → ⊥
lost_no h = (let wrong : Over ≡ Ready trans h.0 1 = h.1 in cc)

-- ---- a decision that stops

abbrev vote_stops : Entry
vote_stops = arrives 2 (msg.Ready trans join 1) (act.Decided stamp (join ∷ []) ∷ act.Stopped ∷ [])

abbrev torn : State
torn = next before_vote vote_stops

-- the clock that is found tells which
decided_then : (next torn (restarts 2 1 [] (stamp ∷ []))).fates trans ≡ Committed stamp (join ∷ []) []
decided_then = refl

lost_then : (next torn (restarts 2 0 [] [])).fates trans ≡ Ended (cause.Lost 2)
lost_then = refl

-- ---- what is sent

abbrev asked : Entry
asked = calls 1 4 (call.Finish trans true) (reply.Refused refusal.NotYet) (act.Sent 2 (msg.Ask trans join) ∷ [])

abbrev mail : State → Entry → List Mail
mail s e = due false s (next s e) e.event e.reply

-- with room for it the decision is told, and without it the abort
vote_mail : on_ready before_vote (next before_vote vote) trans join 1 None (before_vote.fates trans) ≡ (2, msg.Commit trans join stamp) ∷ []
vote_mail = refl

abbrev full : Entry
full = arrives 2 (msg.Ready trans join 1) (act.Released trans ∷ act.Sent 2 (msg.Abort trans join (cause.Voted 1 why.ClockEnd)) ∷ [])

ended_by_vote : (next before_vote full).fates trans ≡ Ended (cause.Voted 1 why.ClockEnd)
ended_by_vote = refl

full_mail : on_ready before_vote (next before_vote full) trans join 1 (Some why.ClockEnd) (before_vote.fates trans) ≡ (2, msg.Abort trans join (cause.Voted 1 why.ClockEnd)) ∷ []
full_mail = refl

-- a part that lost its join votes against it, and one that is ready says its vote again
lost_mail : mail lost (arrives 1 (msg.Ask trans join) []) ≡ (1, msg.No trans join why.UnknownJoin) ∷ []
lost_mail = refl

again_mail : mail (next before_ask ask) (arrives 1 (msg.Ask trans join) []) ≡ (1, msg.Ready trans join 1) ∷ []
again_mail = refl

abbrev ticks : Entry
ticks = record { event = event.Tick; reply = None; acts = [] }

-- a tick says again what was not answered
tick_coordinator : mail (next before_vote vote) ticks ≡ (2, msg.Commit trans join stamp) ∷ []
tick_coordinator = refl

tick_worker : mail (next before_ask ask) ticks ≡ (1, msg.Inquire trans join) ∷ []
tick_worker = refl

tick_forgotten : mail after_done ticks ≡ []
tick_forgotten = refl

-- an inquiry about what was decided is answered in its epoch, and after a restart while the decision stands
inquire_now : mail after_done (arrives 2 (msg.Inquire trans join) []) ≡ (2, msg.Commit trans join stamp) ∷ []
inquire_now = refl

inquire_lost : mail (next torn (restarts 2 0 [] [])) (arrives 2 (msg.Inquire trans join) []) ≡ (2, msg.Abort trans join (cause.Lost 2)) ∷ []
inquire_lost = refl

inquire_forgotten : mail (next after_done (restarts 2 1 [] [])) (arrives 2 (msg.Inquire trans join) []) ≡ (2, msg.Abort trans join (cause.Lost 2)) ∷ []
inquire_forgotten = refl

-- a call on a part that is finished, and one of a session that is gone
finished_call : part_refusal before_vote 1 trans ≡ Some refusal.Finishing
finished_call = refl

lost_call : part_refusal lost 1 trans ≡ Some refusal.UnknownTrans
lost_call = refl
