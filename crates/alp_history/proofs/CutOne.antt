-- the journal of server 1 with a decision that is cut off, and found not made is lawful
use Rattle.std.specs.Prelude.{unwrap_or, slice_get, drop, take}
use Rattle.std.proofs.Common.{ℕ, List, [], ◌∷◌, refl}
use Rattle.alp_base.specs.declared.ids.JoinNo.{JoinNo}
use Rattle.alp_base.specs.declared.ids.TransId.{TransId}
use Rattle.alp_journal.specs.declared.event.Event.{Event}
use Rattle.alp_journal.specs.declared.entry.Entry.{Entry}
use Rattle.alp_journal.specs.Deeds.{Hears}
use Rattle.alp_journal.specs.State.{State, state_deed}
use Rattle.alp_journal.specs.Moves.{next}
use Rattle.alp_journal.specs.Laws.{IsLawfulEntry, IsLawful}
use Rattle.alp_history.specs.Examples.{trans, join, stamp, new}
use Rattle.alp_history.specs.RightJournals.{hello, cut_one}
use Rattle.alp_history.proofs.Worked.{life_at}
use Rattle.alp_history.proofs.Steps.{lives_there}
use Rattle.alp_history.proofs.Named.{Only, only_deed, only_next, alone}
use Rattle.alp_history.proofs.NamedEnds.{ready_found, stamps_found, no_file_call}
use Rattle.alp_journal.specs.Desk.{waiting_of}
use Rattle.alp_history.proofs.LawfulDeeds.{hears, decides}
use Rattle.alp_history.proofs.LawfulEntries.{by_laws}
use Rattle.alp_history.proofs.FirstUp.{at_5, known_5 as first_known, finish_then}

abbrev ts : List TransId
ts = trans ∷ []

abbrev js : List JoinNo
js = []

abbrev entry : ℕ → Entry
entry i = unwrap_or (slice_get cut_one i) (hello 1 0)

abbrev event_of : ℕ → Event
event_of i = (entry i).event

-- the state before each entry behind those
known_5 : Only ts js at_5
known_5 = first_known [] js

abbrev heard_5 : State
heard_5 = state_deed at_5 (Hears trans join 1)

abbrev at_6 : State
at_6 = next at_5 (entry 5)

known_6 : Only ts js at_6
known_6 = only_next ts js at_5 (entry 5) refl known_5

entry_5 : IsLawfulEntry at_5 (entry 5)
entry_5 = by_laws at_5 (entry 5) refl refl refl (
  hears (event_of 5) at_5 trans join 1,
  (
    (decides (event_of 5) heard_5 stamp (join ∷ [])
        (record { client = 1; votes = (join, 1) ∷ []; asked = refl; own = refl; now = refl; finishing = refl; voted = refl; time = refl; idle = no_file_call (waiting_of heard_5.desk 1 trans) refl; live = (life_at heard_5 trans, lives_there heard_5 trans refl, refl) })),
    tt,
  ),
)
    (alone ts js trans at_6 known_6 refl)
    tt (tt, (tt, tt)) tt (refl, refl) ((refl, refl), refl)

abbrev at_7 : State
at_7 = next at_6 (entry 6)

known_7 : Only ts js at_7
known_7 = only_next ts js at_6 (entry 6) refl known_6

entry_6 : IsLawfulEntry at_6 (entry 6)
entry_6 = by_laws at_6 (entry 6) refl refl refl tt
    (alone ts js trans at_7 known_7 refl)
    tt (tt, tt) tt ((refl, record { clock = refl; once = refl; ready = ready_found ts js (state_deed at_6 (Hears trans join 1)) (only_deed ts js at_6 known_6 (Hears trans join 1) refl) ([]) refl tt; decided = stamps_found ts js (state_deed at_6 (Hears trans join 1)) (only_deed ts js at_6 known_6 (Hears trans join 1) refl) ([]) refl ((λ n. refl), tt) }), refl) tt

abbrev at_8 : State
at_8 = next at_7 (entry 7)

known_8 : Only ts js at_8
known_8 = only_next ts js at_7 (entry 7) refl known_7

entry_7 : IsLawfulEntry at_7 (entry 7)
entry_7 = by_laws at_7 (entry 7) refl refl refl tt
    (alone ts js trans at_8 known_8 refl)
    ((refl, refl), tt) tt tt (refl, refl) tt

abbrev at_9 : State
at_9 = next at_8 (entry 8)

known_9 : Only ts js at_9
known_9 = only_next ts js at_8 (entry 8) refl known_8

entry_8 : IsLawfulEntry at_8 (entry 8)
entry_8 = by_laws at_8 (entry 8) refl refl refl tt
    (alone ts js trans at_9 known_9 refl)
    ((refl, refl), tt) ((refl, refl), tt) tt (refl, refl) tt

pub lawful : IsLawful (new 1) cut_one
lawful = finish_then (drop 5 cut_one) (entry_5, (entry_6, (entry_7, (entry_8, tt))))

-- up to the restart
pub up_to_restart : IsLawful (new 1) (take 7 cut_one)
up_to_restart = finish_then (drop 5 (take 7 cut_one)) (entry_5, (entry_6, tt))
