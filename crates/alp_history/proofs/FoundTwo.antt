-- the journal of server 2 with a decision that is cut off, and found made at the restart is lawful
use Rattle.std.specs.Prelude.{unwrap_or, slice_get, drop}
use Rattle.std.proofs.Common.{ℕ, List, [], ◌∷◌, refl}
use Rattle.alp_base.specs.declared.ids.JoinNo.{JoinNo}
use Rattle.alp_base.specs.declared.ids.TransId.{TransId}
use Rattle.alp_journal.specs.declared.event.Event.{Event}
use Rattle.alp_journal.specs.declared.entry.Entry.{Entry}
use Rattle.alp_journal.specs.Deeds.{Applies}
use Rattle.alp_journal.specs.State.{State}
use Rattle.alp_journal.specs.Moves.{next}
use Rattle.alp_journal.specs.Laws.{IsLawfulEntry, IsLawful}
use Rattle.alp_history.specs.Examples.{trans, join, stamp, new}
use Rattle.alp_history.specs.RightJournals.{hello, found_two}
use Rattle.alp_history.proofs.Worked.{life_at}
use Rattle.alp_history.proofs.Steps.{lives_there}
use Rattle.alp_history.proofs.Named.{Only, only_next, alone}
use Rattle.alp_history.proofs.LawfulDeeds.{applies}
use Rattle.alp_history.proofs.LawfulEntries.{by_laws, then_released}
use Rattle.alp_history.proofs.WorkerUp.{at_6, known_6 as first_known, voted_then}

abbrev ts : List TransId
ts = trans ∷ []

abbrev js : List JoinNo
js = join ∷ []

abbrev entry : ℕ → Entry
entry i = unwrap_or (slice_get found_two i) (hello 1 0)

abbrev event_of : ℕ → Event
event_of i = (entry i).event

-- the state before each entry behind those
known_6 : Only ts js at_6
known_6 = first_known [] []

abbrev at_7 : State
at_7 = next at_6 (entry 6)

known_7 : Only ts js at_7
known_7 = only_next ts js at_6 (entry 6) refl known_6

entry_6 : IsLawfulEntry at_6 (entry 6)
entry_6 = by_laws at_6 (entry 6) refl refl refl tt
    (alone ts js trans at_7 known_7 refl)
    ((refl, refl), tt) (tt, tt) tt (refl, refl) tt

abbrev at_8 : State
at_8 = next at_7 (entry 7)

known_8 : Only ts js at_8
known_8 = only_next ts js at_7 (entry 7) refl known_7

entry_7 : IsLawfulEntry at_7 (entry 7)
entry_7 = by_laws at_7 (entry 7) refl refl refl (then_released ts js at_7 known_7 (event_of 7) (Applies join stamp) trans refl refl refl ((λ h. h), tt)
    (applies (event_of 7) at_7 join stamp (record { from = 1; client = 1; ts = 1; told = refl; ready = refl; elsewhere = refl; live = (life_at at_7 trans, lives_there at_7 trans refl, refl) })))
    (alone ts js trans at_8 known_8 refl)
    ((refl, refl), tt) (tt, (tt, ((1, stamp, refl, refl, refl), tt))) tt (refl, refl) tt

abbrev at_9 : State
at_9 = next at_8 (entry 8)

known_9 : Only ts js at_9
known_9 = only_next ts js at_8 (entry 8) refl known_8

entry_8 : IsLawfulEntry at_8 (entry 8)
entry_8 = by_laws at_8 (entry 8) refl refl refl tt
    (alone ts js trans at_9 known_9 refl)
    ((refl, refl), tt) ((1, stamp, refl, refl, refl), tt) tt (refl, refl) tt

pub lawful : IsLawful (new 2) found_two
lawful = voted_then (drop 6 found_two) (entry_6, (entry_7, (entry_8, tt)))
