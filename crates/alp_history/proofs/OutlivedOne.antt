-- the journal of server 1 with a lock that outlives a restart is lawful
use Rattle.std.specs.FinMap as map
use Rattle.std.specs.Prelude.{codes, unwrap_or, slice_get, drop}
use Rattle.std.proofs.Common.{◌≡◌, ℕ, List, [], ◌∷◌, refl, sym, ap, subst, inl}
use Rattle.alp_base.specs.Keys.{key_cmp}
use Rattle.alp_base.specs.declared.ids.JoinNo.{JoinNo}
use Rattle.alp_base.specs.declared.ids.TransId.{TransId}
use Rattle.alp_base.specs.declared.key.Key.TheVariants.{OwnerOf}
use Rattle.alp_base.specs.declared.key.Resource.TheVariants.{Leaf}
use Rattle.alp_modes.specs.declared.Mode.TheVariants.{Write}
use Rattle.alp_files.specs.Edits.{Put}
use Rattle.alp_files.specs.Act.{Answer, no_opens, replied}
use Rattle.alp_files.proofs.CoverLemmas.{granted-holds}
use Rattle.alp_journal.specs.declared.event.Event.{Event}
use Rattle.alp_journal.specs.declared.entry.Entry.{Entry}
use Rattle.alp_journal.specs.Along.{Along}
use Rattle.alp_journal.specs.Deeds.{Grants, Hears, Decides, Acknowledges}
use Rattle.alp_journal.specs.Holder.{no_locks, answer_in}
use Rattle.alp_journal.specs.State.{State, opened, state_deed}
use Rattle.alp_journal.specs.Moves.{next}
use Rattle.alp_journal.specs.Laws.{IsLawfulEntry, IsLawful, DoLivesAgree}
use Rattle.alp_history.specs.Examples.{trans, join, new}
use Rattle.alp_history.specs.RightLog.{owner_with, does}
use Rattle.alp_history.specs.RightJournals.{hello, makes, made_done, later_stamp, outlived_one}
use Rattle.alp_history.proofs.Worked.{life_at}
use Rattle.alp_history.proofs.Quotas.{ann}
use Rattle.alp_history.proofs.Owners.{made}
use Rattle.alp_history.proofs.Steps.{lives_there, performed, closed, call_next}
use Rattle.alp_history.proofs.Named.{Only, only_deed, only_next, alone}
use Rattle.alp_history.proofs.NamedEnds.{no_file_call}
use Rattle.alp_journal.specs.Desk.{waiting_of}
use Rattle.alp_history.proofs.LawfulDeeds.{begins, registers, finishes, hears, decides, acknowledges, forgets}
use Rattle.alp_history.proofs.LawfulEntries.{by_laws, call_alone, then_released}
use Rattle.alp_base.specs.declared.cell.Cell.TheVariants as cell
use Rattle.alp_files.specs.declared.reply.Reply.TheVariants as reply

abbrev ts : List TransId
ts = trans ∷ []

abbrev js : List JoinNo
js = []

abbrev entry : ℕ → Entry
entry i = unwrap_or (slice_get outlived_one i) (hello 1 0)

abbrev event_of : ℕ → Event
event_of i = (entry i).event

-- the state before each entry; what a call was answered is written out
abbrev at_0 : State
at_0 = opened (new 1)

known_0 : Only ts js at_0
known_0 = record { lives = λ u k. refl; fates = λ u k. refl; phases = λ j k. refl }

abbrev at_1 : State
at_1 = next at_0 (entry 0)

known_1 : Only ts js at_1
known_1 = only_next ts js at_0 (entry 0) refl known_0

entry_0 : IsLawfulEntry at_0 (entry 0)
entry_0 = by_laws at_0 (entry 0) refl refl refl tt
    (alone ts js trans at_1 known_1 refl)
    ((refl, refl), tt) tt tt (refl, refl) tt

abbrev at_2 : State
at_2 = next at_1 (entry 1)

known_2 : Only ts js at_2
known_2 = only_next ts js at_1 (entry 1) refl known_1

entry_1 : IsLawfulEntry at_1 (entry 1)
entry_1 = by_laws at_1 (entry 1) refl refl refl (begins (event_of 1) at_1 trans 1 (codes "Admin") 1 refl, tt)
    (alone ts js trans at_2 known_2 refl)
    ((refl, refl), tt) (tt, tt) tt (refl, refl) tt

abbrev at_3 : State
at_3 = next at_2 (entry 2)

known_3 : Only ts js at_3
known_3 = only_next ts js at_2 (entry 2) refl known_2

entry_2 : IsLawfulEntry at_2 (entry 2)
entry_2 = by_laws at_2 (entry 2) refl refl refl (registers (event_of 2) at_2 trans join (record { from = 2; client = 1; joins = []; asked = refl; runs = refl; first = refl; elsewhere = refl }), tt)
    (alone ts js trans at_3 known_3 refl)
    ((refl, refl), tt) (tt, (refl, tt)) tt (refl, refl) tt

abbrev granted_3 : State
granted_3 = state_deed at_3 (Grants trans (makes trans 5))

answer_3 : answer_in granted_3.holder (life_at granted_3 trans) (made_done trans 5) ≡ replied no_opens reply.Plain (Put (OwnerOf (codes "ann")) (cell.Owner (owner_with 5)) ∷ [])
answer_3 = made granted_3.holder (life_at granted_3 trans) trans 5 (record { edits = refl; own = refl; who = refl }) (map.get-empty key_cmp ann)

abbrev at_4 : State
at_4 = closed (entry 3) (performed granted_3 trans (made_done trans 5) (life_at granted_3 trans) (replied no_opens reply.Plain (Put (OwnerOf (codes "ann")) (cell.Owner (owner_with 5)) ∷ [])))

same_4 : next at_3 (entry 3) ≡ at_4
same_4 = call_next at_3 (entry 3) trans (makes trans 5) (made_done trans 5) (life_at granted_3 trans) (replied no_opens reply.Plain (Put (OwnerOf (codes "ann")) (cell.Owner (owner_with 5)) ∷ [])) refl refl (lives_there granted_3 trans refl) answer_3

known_4 : Only ts js at_4
known_4 = subst (Only ts js) same_4 (only_next ts js at_3 (entry 3) refl known_3)

entry_3 : IsLawfulEntry at_3 (entry 3)
entry_3 = by_laws at_3 (entry 3) refl refl refl (call_alone ts js at_3 known_3 (event_of 3) trans (makes trans 5) (made_done trans 5) refl refl refl refl refl (inl refl) (
  life_at granted_3 trans,
  lives_there granted_3 trans refl,
  record { client = refl; active = refl; formed = (tt, tt, tt); right = ap (λ (a : Answer). a.reply) answer_3; locked = granted-holds no_locks ((Leaf (OwnerOf (codes "ann")), Write) ∷ []) },
))
    (subst (λ (s : State). DoLivesAgree s.holder.lives) (sym same_4) (alone ts js trans at_4 known_4 refl))
    ((refl, refl), tt) (tt, tt) tt (refl, refl) tt

abbrev at_5 : State
at_5 = next at_4 (entry 4)

known_5 : Only ts js at_5
known_5 = only_next ts js at_4 (entry 4) refl known_4

entry_4 : IsLawfulEntry at_4 (entry 4)
entry_4 = by_laws at_4 (entry 4) refl refl refl (finishes (event_of 4) at_4 trans, tt)
    (alone ts js trans at_5 known_5 refl)
    ((refl, refl), (tt, tt)) (tt, tt) tt (refl, refl) tt

abbrev heard_5 : State
heard_5 = state_deed at_5 (Hears trans join 2)

abbrev at_6 : State
at_6 = next at_5 (entry 5)

known_6 : Only ts js at_6
known_6 = only_next ts js at_5 (entry 5) refl known_5

entry_5 : IsLawfulEntry at_5 (entry 5)
entry_5 = by_laws at_5 (entry 5) refl refl refl (
  hears (event_of 5) at_5 trans join 2,
  then_released ts js heard_5 (only_deed ts js at_5 known_5 (Hears trans join 2) refl) (event_of 5) (Decides later_stamp (join ∷ [])) trans refl refl refl tt
      (decides (event_of 5) heard_5 later_stamp (join ∷ [])
      (record { client = 1; votes = (join, 2) ∷ []; asked = refl; own = refl; now = refl; finishing = refl; voted = refl; time = refl; idle = no_file_call (waiting_of heard_5.desk 1 trans) refl; live = (life_at heard_5 trans, lives_there heard_5 trans refl, refl) })),
)
    (alone ts js trans at_6 known_6 refl)
    ((refl, refl), (tt, tt)) (tt, (tt, ((refl, refl), tt))) tt (refl, refl) tt

abbrev at_7 : State
at_7 = next at_6 (entry 6)

known_7 : Only ts js at_7
known_7 = only_next ts js at_6 (entry 6) refl known_6

entry_6 : IsLawfulEntry at_6 (entry 6)
entry_6 = by_laws at_6 (entry 6) refl refl refl (
  acknowledges (event_of 6) at_6 trans join,
  (forgets (event_of 6) (state_deed at_6 (Acknowledges trans join)) trans (record { from = 2; join = join; stamp = later_stamp; joins = join ∷ []; before = []; told = refl; committed = refl; its = refl; missing = refl; all = refl }), tt),
)
    (alone ts js trans at_7 known_7 refl)
    ((refl, refl), (tt, tt)) (tt, tt) tt (refl, refl) tt

abbrev at_8 : State
at_8 = next at_7 (entry 7)

known_8 : Only ts js at_8
known_8 = only_next ts js at_7 (entry 7) refl known_7

entry_7 : IsLawfulEntry at_7 (entry 7)
entry_7 = by_laws at_7 (entry 7) refl refl refl tt
    (alone ts js trans at_8 known_8 refl)
    ((refl, refl), tt) tt (join ∷ [], refl, (does later_stamp (made_done trans 5), refl)) (refl, refl) tt

from_4 : Along next IsLawfulEntry at_4 (drop 4 outlived_one)
from_4 = (entry_4, (entry_5, (entry_6, (entry_7, tt))))

pub lawful : IsLawful (new 1) outlived_one
lawful = (entry_0, (entry_1, (entry_2, (entry_3, subst (λ (s : State). Along next IsLawfulEntry s (drop 4 outlived_one)) (sym same_4) from_4))))
