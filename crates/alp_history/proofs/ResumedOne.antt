-- the journal of server 1 in the log that goes on is lawful
use Rattle.std.specs.Prelude.{cond, unwrap_or, slice_get}
use Rattle.std.proofs.Common.{ℕ, List, [], ◌∷◌, refl, ap}
use Rattle.alp_base.specs.declared.ids.JoinNo.{JoinNo}
use Rattle.alp_base.specs.declared.ids.TransId.{TransId}
use Rattle.alp_journal.specs.declared.event.Event.{Event}
use Rattle.alp_journal.specs.declared.entry.Entry.{Entry}
use Rattle.alp_journal.specs.Deeds.{Acknowledges}
use Rattle.alp_journal.specs.Coordinator.{Committed, Undrawn}
use Rattle.alp_journal.specs.State.{State, opened, state_deed}
use Rattle.alp_journal.specs.Moves.{next}
use Rattle.alp_journal.specs.Laws.{IsLawfulEntry, IsLawful}
use Rattle.alp_history.specs.Examples.{trans, join, stamp}
use Rattle.alp_history.specs.RightJournals.{hello}
use Rattle.alp_history.specs.ResumedLog.{opening_one, resumed_one}
use Rattle.alp_history.proofs.Named.{Only, only_next, alone, apart}
use Rattle.alp_history.proofs.LawfulDeeds.{acknowledges, forgets}
use Rattle.alp_history.proofs.LawfulEntries.{by_laws}

abbrev ts : List TransId
ts = trans ∷ []

abbrev js : List JoinNo
js = join ∷ []

abbrev entry : ℕ → Entry
entry i = unwrap_or (slice_get resumed_one i) (hello 1 0)

abbrev event_of : ℕ → Event
event_of i = (entry i).event

-- the state before each entry; what a call was answered is written out
abbrev at_0 : State
at_0 = opened opening_one

known_0 : Only ts js at_0
known_0 = record { lives = λ u k. refl; fates = λ u k. ap (λ b. cond b (Committed stamp (join ∷ []) []) Undrawn) (apart ts js trans u refl k); phases = λ j k. refl }

abbrev at_1 : State
at_1 = next at_0 (entry 0)

known_1 : Only ts js at_1
known_1 = only_next ts js at_0 (entry 0) refl known_0

entry_0 : IsLawfulEntry at_0 (entry 0)
entry_0 = by_laws at_0 (entry 0) refl refl refl tt
    (alone ts js trans at_1 known_1 refl)
    ((refl, refl), tt) ((refl, refl), tt) tt (refl, refl) tt

abbrev at_2 : State
at_2 = next at_1 (entry 1)

known_2 : Only ts js at_2
known_2 = only_next ts js at_1 (entry 1) refl known_1

entry_1 : IsLawfulEntry at_1 (entry 1)
entry_1 = by_laws at_1 (entry 1) refl refl refl (
  acknowledges (event_of 1) at_1 trans join,
  (forgets (event_of 1) (state_deed at_1 (Acknowledges trans join)) trans (record { from = 2; join = join; stamp = stamp; joins = join ∷ []; before = []; told = refl; committed = refl; its = refl; missing = refl; all = refl }), tt),
)
    (alone ts js trans at_2 known_2 refl)
    ((refl, refl), tt) (tt, tt) tt (refl, refl) tt

pub lawful : IsLawful opening_one resumed_one
lawful = (entry_0, (entry_1, tt))
