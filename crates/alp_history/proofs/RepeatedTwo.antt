-- the journal of server 2 with lost and repeated messages is lawful
use Rattle.std.specs.Prelude.{codes, unwrap_or, slice_get, drop}
use Rattle.std.proofs.Common.{ℕ, List, [], ◌∷◌, refl}
use Rattle.alp_base.specs.declared.ids.JoinNo.{JoinNo}
use Rattle.alp_base.specs.declared.ids.TransId.{TransId}
use Rattle.alp_journal.specs.declared.event.Event.{Event}
use Rattle.alp_journal.specs.declared.entry.Entry.{Entry}
use Rattle.alp_journal.specs.Deeds.{Hears, Decides, Applies, Acknowledges}
use Rattle.alp_journal.specs.State.{State, state_deed}
use Rattle.alp_journal.specs.Moves.{next}
use Rattle.alp_journal.specs.Laws.{IsLawfulEntry, IsLawful}
use Rattle.alp_history.specs.Examples.{trans, join, stamp, new}
use Rattle.alp_history.specs.RightJournals.{hello, second, second_join, second_stamp, repeated_two}
use Rattle.alp_history.proofs.Worked.{life_at}
use Rattle.alp_history.proofs.Steps.{lives_there}
use Rattle.alp_history.proofs.Named.{Only, only_deed, only_next, alone}
use Rattle.alp_history.proofs.NamedEnds.{no_file_call}
use Rattle.alp_journal.specs.Desk.{waiting_of}
use Rattle.alp_history.proofs.LawfulDeeds.{begins, applies, registers, finishes, hears, decides, acknowledges, forgets}
use Rattle.alp_history.proofs.LawfulEntries.{by_laws, then_released}
use Rattle.alp_history.proofs.WorkerUp.{at_6, known_6 as first_known, voted_then}

abbrev ts : List TransId
ts = trans ∷ second ∷ []

abbrev js : List JoinNo
js = join ∷ []

abbrev entry : ℕ → Entry
entry i = unwrap_or (slice_get repeated_two i) (hello 1 0)

abbrev event_of : ℕ → Event
event_of i = (entry i).event

-- the state before each entry behind those
known_6 : Only ts js at_6
known_6 = first_known (second ∷ []) []

abbrev at_7 : State
at_7 = next at_6 (entry 6)

known_7 : Only ts js at_7
known_7 = only_next ts js at_6 (entry 6) refl known_6

entry_6 : IsLawfulEntry at_6 (entry 6)
entry_6 = by_laws at_6 (entry 6) refl refl refl tt
    (alone ts js trans at_7 known_7 refl)
    ((refl, refl), tt) ((1, refl), tt) tt (refl, refl) tt

abbrev at_8 : State
at_8 = next at_7 (entry 7)

known_8 : Only ts js at_8
known_8 = only_next ts js at_7 (entry 7) refl known_7

entry_7 : IsLawfulEntry at_7 (entry 7)
entry_7 = by_laws at_7 (entry 7) refl refl refl (then_released ts js at_7 known_7 (event_of 7) (Applies join stamp) trans refl refl refl ((λ h. h), tt)
    (applies (event_of 7) at_7 join stamp (record { from = 1; client = 1; ts = 1; told = refl; ready = refl; elsewhere = refl; live = (life_at at_7 trans, lives_there at_7 trans refl, refl) })))
    (alone ts js trans at_8 known_8 refl)
    ((refl, refl), tt) (tt, (tt, ((1, stamp, refl, refl, refl), tt))) tt (refl, refl) tt

abbrev at_9 : State
at_9 = next at_8 (entry 8)

known_9 : Only ts js at_9
known_9 = only_next ts js at_8 (entry 8) refl known_8

entry_8 : IsLawfulEntry at_8 (entry 8)
entry_8 = by_laws at_8 (entry 8) refl refl refl (begins (event_of 8) at_8 second 1 (codes "Admin") 1 refl, tt)
    (alone ts js second at_9 known_9 refl)
    ((refl, refl), tt) (tt, tt) tt (refl, refl) tt

abbrev at_10 : State
at_10 = next at_9 (entry 9)

known_10 : Only ts js at_10
known_10 = only_next ts js at_9 (entry 9) refl known_9

entry_9 : IsLawfulEntry at_9 (entry 9)
entry_9 = by_laws at_9 (entry 9) refl refl refl (registers (event_of 9) at_9 second second_join (record { from = 1; client = 1; joins = []; asked = refl; runs = refl; first = refl; elsewhere = refl }), tt)
    (alone ts js second at_10 known_10 refl)
    ((refl, refl), tt) (tt, (refl, tt)) tt (refl, refl) tt

abbrev at_11 : State
at_11 = next at_10 (entry 10)

known_11 : Only ts js at_11
known_11 = only_next ts js at_10 (entry 10) refl known_10

entry_10 : IsLawfulEntry at_10 (entry 10)
entry_10 = by_laws at_10 (entry 10) refl refl refl (finishes (event_of 10) at_10 second, tt)
    (alone ts js second at_11 known_11 refl)
    ((refl, refl), (tt, tt)) (tt, tt) tt (refl, refl) tt

abbrev heard_11 : State
heard_11 = state_deed at_11 (Hears second second_join 2)

abbrev at_12 : State
at_12 = next at_11 (entry 11)

known_12 : Only ts js at_12
known_12 = only_next ts js at_11 (entry 11) refl known_11

entry_11 : IsLawfulEntry at_11 (entry 11)
entry_11 = by_laws at_11 (entry 11) refl refl refl (
  hears (event_of 11) at_11 second second_join 2,
  then_released ts js heard_11 (only_deed ts js at_11 known_11 (Hears second second_join 2) refl) (event_of 11) (Decides second_stamp (second_join ∷ [])) second refl refl refl ((λ h. h), tt)
      (decides (event_of 11) heard_11 second_stamp (second_join ∷ [])
      (record { client = 1; votes = (second_join, 2) ∷ []; asked = refl; own = refl; now = refl; finishing = refl; voted = refl; time = refl; idle = no_file_call (waiting_of heard_11.desk 1 second) refl; live = (life_at heard_11 second, lives_there heard_11 second refl, refl) })),
)
    (alone ts js second at_12 known_12 refl)
    ((refl, refl), (tt, tt)) (tt, (tt, ((refl, refl), tt))) tt (refl, refl) tt

abbrev at_13 : State
at_13 = next at_12 (entry 12)

known_13 : Only ts js at_13
known_13 = only_next ts js at_12 (entry 12) refl known_12

entry_12 : IsLawfulEntry at_12 (entry 12)
entry_12 = by_laws at_12 (entry 12) refl refl refl (
  acknowledges (event_of 12) at_12 second second_join,
  (forgets (event_of 12) (state_deed at_12 (Acknowledges second second_join)) second (record { from = 1; join = second_join; stamp = second_stamp; joins = second_join ∷ []; before = []; told = refl; committed = refl; its = refl; missing = refl; all = refl }), tt),
)
    (alone ts js second at_13 known_13 refl)
    ((refl, refl), (tt, tt)) (tt, tt) tt (refl, refl) tt

abbrev at_14 : State
at_14 = next at_13 (entry 13)

known_14 : Only ts js at_14
known_14 = only_next ts js at_13 (entry 13) refl known_13

entry_13 : IsLawfulEntry at_13 (entry 13)
entry_13 = by_laws at_13 (entry 13) refl refl refl tt
    (alone ts js second at_14 known_14 refl)
    ((refl, refl), tt) tt (second_join ∷ [], refl, (record { stamp = second_stamp; who = codes "Admin"; calls = [] }, refl)) (refl, refl) tt

pub lawful : IsLawful (new 2) repeated_two
lawful = voted_then (drop 6 repeated_two) (entry_6, (entry_7, (entry_8, (entry_9, (entry_10, (entry_11, (entry_12, (entry_13, tt))))))))
