-- the journal of server 2 with a worker that lost its part is lawful
use Rattle.std.specs.FinMap as map
use Rattle.std.specs.Prelude.{codes, unwrap_or, slice_get, drop, None}
use Rattle.std.proofs.Common.{◌≡◌, ℕ, List, [], ◌∷◌, refl, sym, ap, subst, inl}
use Rattle.alp_base.specs.Keys.{key_cmp}
use Rattle.alp_base.specs.declared.ids.JoinNo.{JoinNo}
use Rattle.alp_base.specs.declared.ids.TransId.{TransId}
use Rattle.alp_base.specs.declared.key.Key.TheVariants.{OwnerOf}
use Rattle.alp_base.specs.declared.key.Resource.TheVariants.{Leaf}
use Rattle.alp_modes.specs.declared.Mode.TheVariants.{Read}
use Rattle.alp_files.specs.Act.{Answer, no_opens, refused}
use Rattle.alp_files.proofs.CoverLemmas.{granted-holds}
use Rattle.alp_journal.specs.declared.event.Event.{Event}
use Rattle.alp_journal.specs.declared.entry.Entry.{Entry}
use Rattle.alp_journal.specs.Along.{Along}
use Rattle.alp_journal.specs.Deeds.{Grants, Decides, Finishes}
use Rattle.alp_journal.specs.Holder.{no_locks, answer_in}
use Rattle.alp_journal.specs.State.{State, state_deed}
use Rattle.alp_journal.specs.Moves.{next}
use Rattle.alp_journal.specs.Laws.{IsLawfulEntry, IsLawful, DoLivesAgree}
use Rattle.alp_history.specs.Examples.{trans, join, new}
use Rattle.alp_history.specs.RightLog.{reads, does}
use Rattle.alp_history.specs.RightJournals.{hello, missed_done, afterwards, again, afterwards_stamp, rejoined_two}
use Rattle.alp_history.proofs.Worked.{life_at}
use Rattle.alp_history.proofs.Quotas.{ann}
use Rattle.alp_history.proofs.Owners.{missed}
use Rattle.alp_history.proofs.Steps.{lives_there, performed, closed, call_next}
use Rattle.alp_history.proofs.Named.{Only, only_deed, only_next, alone}
use Rattle.alp_history.proofs.NamedEnds.{ready_found, stamps_found, no_file_call}
use Rattle.alp_journal.specs.Desk.{waiting_of}
use Rattle.alp_history.proofs.LawfulDeeds.{begins, joins, finishes, decides, quits}
use Rattle.alp_history.proofs.LawfulEntries.{by_laws, call_alone, then_released}
use Rattle.alp_files.specs.declared.refusal.Refusal.TheVariants as refusal
use Rattle.alp_history.proofs.WorkerUp.{at_5, known_5 as first_known, worker_up_then}

abbrev ts : List TransId
ts = trans ∷ afterwards ∷ []

abbrev js : List JoinNo
js = join ∷ again ∷ []

abbrev entry : ℕ → Entry
entry i = unwrap_or (slice_get rejoined_two i) (hello 1 0)

abbrev event_of : ℕ → Event
event_of i = (entry i).event

-- the state before each entry behind those; what a call was answered is written out
known_5 : Only ts js at_5
known_5 = first_known (afterwards ∷ []) (again ∷ [])

abbrev at_6 : State
at_6 = next at_5 (entry 5)

known_6 : Only ts js at_6
known_6 = only_next ts js at_5 (entry 5) refl known_5

entry_5 : IsLawfulEntry at_5 (entry 5)
entry_5 = by_laws at_5 (entry 5) refl refl refl tt
    (alone ts js trans at_6 known_6 refl)
    tt (tt, tt) tt ((refl, record { clock = refl; once = refl; ready = ready_found ts js (at_5) (known_5) ([]) refl (refl, (refl, tt)); decided = stamps_found ts js (at_5) (known_5) ([]) refl ((λ n. refl), ((λ n. refl), tt)) }), refl) tt

abbrev at_7 : State
at_7 = next at_6 (entry 6)

known_7 : Only ts js at_7
known_7 = only_next ts js at_6 (entry 6) refl known_6

entry_6 : IsLawfulEntry at_6 (entry 6)
entry_6 = by_laws at_6 (entry 6) refl refl (refl, refl) tt
    (alone ts js trans at_7 known_7 refl)
    ((refl, refl), tt) tt tt (refl, refl) tt

abbrev at_8 : State
at_8 = next at_7 (entry 7)

known_8 : Only ts js at_8
known_8 = only_next ts js at_7 (entry 7) refl known_7

entry_7 : IsLawfulEntry at_7 (entry 7)
entry_7 = by_laws at_7 (entry 7) refl refl refl tt
    (alone ts js trans at_8 known_8 refl)
    ((refl, refl), tt) tt tt (refl, refl) tt

abbrev at_9 : State
at_9 = next at_8 (entry 8)

known_9 : Only ts js at_9
known_9 = only_next ts js at_8 (entry 8) refl known_8

entry_8 : IsLawfulEntry at_8 (entry 8)
entry_8 = by_laws at_8 (entry 8) refl refl refl (joins (event_of 8) at_8 again trans 1 (codes "Admin") (refl, refl), tt)
    (alone ts js trans at_9 known_9 refl)
    ((refl, refl), (tt, tt)) (tt, tt) tt (refl, refl) tt

abbrev at_10 : State
at_10 = next at_9 (entry 9)

known_10 : Only ts js at_10
known_10 = only_next ts js at_9 (entry 9) refl known_9

entry_9 : IsLawfulEntry at_9 (entry 9)
entry_9 = by_laws at_9 (entry 9) refl refl refl (quits (event_of 9) at_9 again trans 1 None, tt)
    (alone ts js trans at_10 known_10 refl)
    ((refl, refl), tt) tt tt (refl, refl) tt

abbrev at_11 : State
at_11 = next at_10 (entry 10)

known_11 : Only ts js at_11
known_11 = only_next ts js at_10 (entry 10) refl known_10

entry_10 : IsLawfulEntry at_10 (entry 10)
entry_10 = by_laws at_10 (entry 10) refl refl refl tt
    (alone ts js trans at_11 known_11 refl)
    ((refl, refl), tt) tt tt (refl, refl) tt

abbrev at_12 : State
at_12 = next at_11 (entry 11)

known_12 : Only ts js at_12
known_12 = only_next ts js at_11 (entry 11) refl known_11

entry_11 : IsLawfulEntry at_11 (entry 11)
entry_11 = by_laws at_11 (entry 11) refl refl refl tt
    (alone ts js trans at_12 known_12 refl)
    ((refl, refl), tt) (tt, tt) tt (refl, refl) tt

abbrev at_13 : State
at_13 = next at_12 (entry 12)

known_13 : Only ts js at_13
known_13 = only_next ts js at_12 (entry 12) refl known_12

entry_12 : IsLawfulEntry at_12 (entry 12)
entry_12 = by_laws at_12 (entry 12) refl refl refl tt
    (alone ts js trans at_13 known_13 refl)
    ((refl, refl), tt) tt tt (refl, refl) tt

abbrev at_14 : State
at_14 = next at_13 (entry 13)

known_14 : Only ts js at_14
known_14 = only_next ts js at_13 (entry 13) refl known_13

entry_13 : IsLawfulEntry at_13 (entry 13)
entry_13 = by_laws at_13 (entry 13) refl refl refl (begins (event_of 13) at_13 afterwards 1 (codes "Admin") 0 refl, tt)
    (alone ts js afterwards at_14 known_14 refl)
    ((refl, refl), tt) (tt, tt) tt (refl, refl) tt

abbrev granted_14 : State
granted_14 = state_deed at_14 (Grants afterwards (reads afterwards))

answer_14 : answer_in granted_14.holder (life_at granted_14 afterwards) (missed_done afterwards) ≡ refused no_opens refusal.UnknownOwner
answer_14 = missed granted_14.holder (life_at granted_14 afterwards) afterwards (record { edits = refl; own = refl; who = refl }) (map.get-empty key_cmp ann)

abbrev at_15 : State
at_15 = closed (entry 14) (performed granted_14 afterwards (missed_done afterwards) (life_at granted_14 afterwards) (refused no_opens refusal.UnknownOwner))

same_15 : next at_14 (entry 14) ≡ at_15
same_15 = call_next at_14 (entry 14) afterwards (reads afterwards) (missed_done afterwards) (life_at granted_14 afterwards) (refused no_opens refusal.UnknownOwner) refl refl (lives_there granted_14 afterwards refl) answer_14

known_15 : Only ts js at_15
known_15 = subst (Only ts js) same_15 (only_next ts js at_14 (entry 14) refl known_14)

entry_14 : IsLawfulEntry at_14 (entry 14)
entry_14 = by_laws at_14 (entry 14) refl refl refl (call_alone ts js at_14 known_14 (event_of 14) afterwards (reads afterwards) (missed_done afterwards) refl refl refl refl refl (inl refl) (
  life_at granted_14 afterwards,
  lives_there granted_14 afterwards refl,
  record { client = refl; active = refl; formed = (tt, tt, tt); right = ap (λ (a : Answer). a.reply) answer_14; locked = granted-holds no_locks ((Leaf (OwnerOf (codes "ann")), Read) ∷ []) },
))
    (subst (λ (s : State). DoLivesAgree s.holder.lives) (sym same_15) (alone ts js afterwards at_15 known_15 refl))
    ((refl, refl), tt) (tt, tt) tt (refl, refl) tt

abbrev finished_15 : State
finished_15 = state_deed at_15 (Finishes afterwards)

abbrev at_16 : State
at_16 = next at_15 (entry 15)

known_16 : Only ts js at_16
known_16 = only_next ts js at_15 (entry 15) refl known_15

entry_15 : IsLawfulEntry at_15 (entry 15)
entry_15 = by_laws at_15 (entry 15) refl refl refl (
  finishes (event_of 15) at_15 afterwards,
  then_released ts js finished_15 (only_deed ts js at_15 known_15 (Finishes afterwards) refl) (event_of 15) (Decides afterwards_stamp []) afterwards refl refl refl ((λ h. h), ((λ h. h), tt))
      (decides (event_of 15) finished_15 afterwards_stamp []
      (record { client = 1; votes = []; asked = refl; own = refl; now = refl; finishing = refl; voted = refl; time = refl; idle = no_file_call (waiting_of finished_15.desk 1 afterwards) refl; live = (life_at finished_15 afterwards, lives_there finished_15 afterwards refl, refl) })),
)
    (alone ts js afterwards at_16 known_16 refl)
    ((refl, refl), tt) (tt, (tt, tt)) ([], refl, (does afterwards_stamp (missed_done afterwards), refl)) (refl, refl) tt

from_15 : Along next IsLawfulEntry at_15 (drop 15 rejoined_two)
from_15 = (entry_15, tt)

pub lawful : IsLawful (new 2) rejoined_two
lawful = worker_up_then (drop 5 rejoined_two) (entry_5, (entry_6, (entry_7, (entry_8, (entry_9, (entry_10, (entry_11, (entry_12, (entry_13, (entry_14, subst (λ (s : State). Along next IsLawfulEntry s (drop 15 rejoined_two)) (sym same_15) from_15))))))))))
