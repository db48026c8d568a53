-- the journal of server 1 with a worker that lost its part is lawful
use Rattle.std.specs.Prelude.{codes, unwrap_or, slice_get}
use Rattle.std.proofs.Common.{ℕ, List, [], ◌∷◌, refl}
use Rattle.alp_base.specs.declared.ids.JoinNo.{JoinNo}
use Rattle.alp_base.specs.declared.ids.TransId.{TransId}
use Rattle.alp_journal.specs.declared.event.Event.{Event}
use Rattle.alp_journal.specs.declared.entry.Entry.{Entry}
use Rattle.alp_journal.specs.Deeds.{Ends}
use Rattle.alp_journal.specs.State.{State, opened}
use Rattle.alp_journal.specs.Moves.{next}
use Rattle.alp_journal.specs.Laws.{IsLawfulEntry, IsLawful}
use Rattle.alp_history.specs.Examples.{trans, join, new}
use Rattle.alp_history.specs.RightJournals.{hello, rejoined_one}
use Rattle.alp_history.proofs.Named.{Only, only_next, alone}
use Rattle.alp_history.proofs.LawfulDeeds.{begins, registers, finishes, ends}
use Rattle.alp_history.proofs.LawfulEntries.{by_laws, then_released}
use Rattle.alp_files.specs.declared.refusal.Cause.TheVariants as cause
use Rattle.alp_files.specs.declared.refusal.Why.TheVariants as why

abbrev ts : List TransId
ts = trans ∷ []

abbrev js : List JoinNo
js = []

abbrev entry : ℕ → Entry
entry i = unwrap_or (slice_get rejoined_one i) (hello 1 0)

abbrev event_of : ℕ → Event
event_of i = (entry i).event

-- the state before each entry; what a call was answered is written out
abbrev at_0 : State
at_0 = opened (new 1)

known_0 : Only ts js at_0
known_0 = record { lives = λ u k. refl; fates = λ u k. refl; phases = λ j k. refl }

abbrev at_1 : State
at_1 = next at_0 (entry 0)

known_1 : Only ts js at_1
known_1 = only_next ts js at_0 (entry 0) refl known_0

entry_0 : IsLawfulEntry at_0 (entry 0)
entry_0 = by_laws at_0 (entry 0) refl refl refl tt
    (alone ts js trans at_1 known_1 refl)
    ((refl, refl), tt) tt tt (refl, refl) tt

abbrev at_2 : State
at_2 = next at_1 (entry 1)

known_2 : Only ts js at_2
known_2 = only_next ts js at_1 (entry 1) refl known_1

entry_1 : IsLawfulEntry at_1 (entry 1)
entry_1 = by_laws at_1 (entry 1) refl refl refl (begins (event_of 1) at_1 trans 1 (codes "Admin") 0 refl, tt)
    (alone ts js trans at_2 known_2 refl)
    ((refl, refl), tt) (tt, tt) tt (refl, refl) tt

abbrev at_3 : State
at_3 = next at_2 (entry 2)

known_3 : Only ts js at_3
known_3 = only_next ts js at_2 (entry 2) refl known_2

entry_2 : IsLawfulEntry at_2 (entry 2)
entry_2 = by_laws at_2 (entry 2) refl refl refl (registers (event_of 2) at_2 trans join (record { from = 2; client = 1; joins = []; asked = refl; runs = refl; first = refl; elsewhere = refl }), tt)
    (alone ts js trans at_3 known_3 refl)
    ((refl, refl), tt) (tt, (refl, tt)) tt (refl, refl) tt

abbrev at_4 : State
at_4 = next at_3 (entry 3)

known_4 : Only ts js at_4
known_4 = only_next ts js at_3 (entry 3) refl known_3

entry_3 : IsLawfulEntry at_3 (entry 3)
entry_3 = by_laws at_3 (entry 3) refl refl refl tt
    (alone ts js trans at_4 known_4 refl)
    ((refl, refl), tt) (tt, tt) tt (refl, refl) tt

abbrev at_5 : State
at_5 = next at_4 (entry 4)

known_5 : Only ts js at_5
known_5 = only_next ts js at_4 (entry 4) refl known_4

entry_4 : IsLawfulEntry at_4 (entry 4)
entry_4 = by_laws at_4 (entry 4) refl refl refl (finishes (event_of 4) at_4 trans, tt)
    (alone ts js trans at_5 known_5 refl)
    ((refl, refl), (tt, tt)) (tt, tt) tt (refl, refl) tt

abbrev at_6 : State
at_6 = next at_5 (entry 5)

known_6 : Only ts js at_6
known_6 = only_next ts js at_5 (entry 5) refl known_5

entry_5 : IsLawfulEntry at_5 (entry 5)
entry_5 = by_laws at_5 (entry 5) refl refl refl (then_released ts js at_5 known_5 (event_of 5) (Ends trans 1 (cause.Voted 2 why.UnknownJoin)) trans refl refl refl tt (ends (event_of 5) at_5 trans 1 (cause.Voted 2 why.UnknownJoin)))
    (alone ts js trans at_6 known_6 refl)
    ((refl, refl), (tt, tt)) (tt, ((refl, refl), tt)) tt (refl, refl) tt

abbrev at_7 : State
at_7 = next at_6 (entry 6)

known_7 : Only ts js at_7
known_7 = only_next ts js at_6 (entry 6) refl known_6

entry_6 : IsLawfulEntry at_6 (entry 6)
entry_6 = by_laws at_6 (entry 6) refl refl refl tt
    (alone ts js trans at_7 known_7 refl)
    ((refl, refl), (tt, tt)) tt tt (refl, refl) tt

pub lawful : IsLawful (new 1) rejoined_one
lawful = (entry_0, (entry_1, (entry_2, (entry_3, (entry_4, (entry_5, (entry_6, tt)))))))
