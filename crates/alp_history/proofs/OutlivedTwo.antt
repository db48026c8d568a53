-- the journal of server 2 with a lock that outlives a restart is lawful
use Rattle.std.specs.FinMap as map
use Rattle.std.specs.Prelude.{codes, unwrap_or, slice_get, drop}
use Rattle.std.proofs.Common.{◌≡◌, ℕ, List, [], ◌∷◌, refl, sym, ap, subst, inl, inr}
use Rattle.alp_base.specs.Keys.{key_cmp}
use Rattle.alp_base.specs.declared.ids.JoinNo.{JoinNo}
use Rattle.alp_base.specs.declared.ids.TransId.{TransId}
use Rattle.alp_base.specs.declared.key.Key.TheVariants.{OwnerOf}
use Rattle.alp_base.specs.declared.key.Resource.TheVariants.{Leaf}
use Rattle.alp_modes.specs.declared.Mode.TheVariants.{Read, Write}
use Rattle.alp_files.specs.Edits.{Put}
use Rattle.alp_files.specs.Act.{Answer, no_opens, replied}
use Rattle.alp_files.proofs.CoverLemmas.{granted-holds}
use Rattle.alp_journal.specs.declared.event.Event.{Event}
use Rattle.alp_journal.specs.declared.entry.Entry.{Entry}
use Rattle.alp_journal.specs.Along.{Along}
use Rattle.alp_journal.specs.Deeds.{Grants, Decides, Applies, Finishes}
use Rattle.alp_journal.specs.Holder.{no_locks, answer_in}
use Rattle.alp_journal.specs.State.{State, opened, state_deed}
use Rattle.alp_journal.specs.Moves.{next}
use Rattle.alp_journal.specs.Laws.{IsLawfulEntry, IsLawful, DoLivesAgree}
use Rattle.alp_history.specs.Examples.{trans, join, new}
use Rattle.alp_history.specs.RightLog.{owner_with, sets, reads, set_done, found_done, does}
use Rattle.alp_history.specs.RightJournals.{hello, makes, made_done, afterwards, last_stamp, earlier, earlier_stamp, later_stamp, outlived_two}
use Rattle.alp_history.proofs.Worked.{life_at}
use Rattle.alp_history.proofs.Quotas.{ann, quota_seen}
use Rattle.alp_history.proofs.Owners.{made, found, set}
use Rattle.alp_history.proofs.Steps.{lives_there, performed, closed, call_next}
use Rattle.alp_history.proofs.Named.{Only, only_deed, only_next, alone}
use Rattle.alp_history.proofs.NamedEnds.{ready_found, stamps_found, no_file_call}
use Rattle.alp_journal.specs.Desk.{waiting_of}
use Rattle.alp_history.proofs.LawfulDeeds.{begins, joins, enters, readies, applies, finishes, decides}
use Rattle.alp_history.proofs.LawfulEntries.{by_laws, call_alone, then_released, second_bare}
use Rattle.alp_base.specs.declared.cell.Cell.TheVariants as cell
use Rattle.alp_files.specs.declared.reply.Reply.TheVariants as reply

abbrev ts : List TransId
ts = earlier ∷ trans ∷ afterwards ∷ []

abbrev js : List JoinNo
js = join ∷ []

abbrev entry : ℕ → Entry
entry i = unwrap_or (slice_get outlived_two i) (hello 1 0)

abbrev event_of : ℕ → Event
event_of i = (entry i).event

-- the state before each entry; what a call was answered is written out
abbrev at_0 : State
at_0 = opened (new 2)

known_0 : Only ts js at_0
known_0 = record { lives = λ u k. refl; fates = λ u k. refl; phases = λ j k. refl }

abbrev at_1 : State
at_1 = next at_0 (entry 0)

known_1 : Only ts js at_1
known_1 = only_next ts js at_0 (entry 0) refl known_0

entry_0 : IsLawfulEntry at_0 (entry 0)
entry_0 = by_laws at_0 (entry 0) refl refl refl tt
    (alone ts js earlier at_1 known_1 refl)
    ((refl, refl), tt) tt tt (refl, refl) tt

abbrev at_2 : State
at_2 = next at_1 (entry 1)

known_2 : Only ts js at_2
known_2 = only_next ts js at_1 (entry 1) refl known_1

entry_1 : IsLawfulEntry at_1 (entry 1)
entry_1 = by_laws at_1 (entry 1) refl refl refl (begins (event_of 1) at_1 earlier 1 (codes "Admin") 0 refl, tt)
    (alone ts js earlier at_2 known_2 refl)
    ((refl, refl), tt) (tt, tt) tt (refl, refl) tt

abbrev granted_2 : State
granted_2 = state_deed at_2 (Grants earlier (makes earlier 9))

answer_2 : answer_in granted_2.holder (life_at granted_2 earlier) (made_done earlier 9) ≡ replied no_opens reply.Plain (Put (OwnerOf (codes "ann")) (cell.Owner (owner_with 9)) ∷ [])
answer_2 = made granted_2.holder (life_at granted_2 earlier) earlier 9 (record { edits = refl; own = refl; who = refl }) (map.get-empty key_cmp ann)

abbrev at_3 : State
at_3 = closed (entry 2) (performed granted_2 earlier (made_done earlier 9) (life_at granted_2 earlier) (replied no_opens reply.Plain (Put (OwnerOf (codes "ann")) (cell.Owner (owner_with 9)) ∷ [])))

same_3 : next at_2 (entry 2) ≡ at_3
same_3 = call_next at_2 (entry 2) earlier (makes earlier 9) (made_done earlier 9) (life_at granted_2 earlier) (replied no_opens reply.Plain (Put (OwnerOf (codes "ann")) (cell.Owner (owner_with 9)) ∷ [])) refl refl (lives_there granted_2 earlier refl) answer_2

known_3 : Only ts js at_3
known_3 = subst (Only ts js) same_3 (only_next ts js at_2 (entry 2) refl known_2)

entry_2 : IsLawfulEntry at_2 (entry 2)
entry_2 = by_laws at_2 (entry 2) refl refl refl (call_alone ts js at_2 known_2 (event_of 2) earlier (makes earlier 9) (made_done earlier 9) refl refl refl refl refl (inl refl) (
  life_at granted_2 earlier,
  lives_there granted_2 earlier refl,
  record { client = refl; active = refl; formed = (tt, tt, tt); right = ap (λ (a : Answer). a.reply) answer_2; locked = granted-holds no_locks ((Leaf (OwnerOf (codes "ann")), Write) ∷ []) },
))
    (subst (λ (s : State). DoLivesAgree s.holder.lives) (sym same_3) (alone ts js earlier at_3 known_3 refl))
    ((refl, refl), tt) (tt, tt) tt (refl, refl) tt

abbrev finished_3 : State
finished_3 = state_deed at_3 (Finishes earlier)

abbrev at_4 : State
at_4 = next at_3 (entry 3)

known_4 : Only ts js at_4
known_4 = only_next ts js at_3 (entry 3) refl known_3

entry_3 : IsLawfulEntry at_3 (entry 3)
entry_3 = by_laws at_3 (entry 3) refl refl refl (
  finishes (event_of 3) at_3 earlier,
  then_released ts js finished_3 (only_deed ts js at_3 known_3 (Finishes earlier) refl) (event_of 3) (Decides earlier_stamp []) earlier refl refl refl ((λ h. h), tt)
      (decides (event_of 3) finished_3 earlier_stamp []
      (record { client = 1; votes = []; asked = refl; own = refl; now = refl; finishing = refl; voted = refl; time = refl; idle = no_file_call (waiting_of finished_3.desk 1 earlier) refl; live = (life_at finished_3 earlier, lives_there finished_3 earlier refl, refl) })),
)
    (alone ts js earlier at_4 known_4 refl)
    ((refl, refl), tt) (tt, (tt, tt)) ([], refl, (does earlier_stamp (made_done earlier 9), refl)) (refl, refl) tt

abbrev at_5 : State
at_5 = next at_4 (entry 4)

known_5 : Only ts js at_5
known_5 = only_next ts js at_4 (entry 4) refl known_4

entry_4 : IsLawfulEntry at_4 (entry 4)
entry_4 = by_laws at_4 (entry 4) refl refl refl (joins (event_of 4) at_4 join trans 1 (codes "Admin") (refl, refl), tt)
    (alone ts js trans at_5 known_5 refl)
    ((refl, refl), (tt, tt)) (tt, tt) tt (refl, refl) tt

abbrev at_6 : State
at_6 = next at_5 (entry 5)

known_6 : Only ts js at_6
known_6 = only_next ts js at_5 (entry 5) refl known_5

entry_5 : IsLawfulEntry at_5 (entry 5)
entry_5 = by_laws at_5 (entry 5) refl refl refl (enters (event_of 5) at_5 join trans 1 (codes "Admin"), tt)
    (alone ts js trans at_6 known_6 refl)
    ((refl, refl), (tt, tt)) tt tt (refl, refl) tt

abbrev at_7 : State
at_7 = next at_6 (entry 6)

known_7 : Only ts js at_7
known_7 = only_next ts js at_6 (entry 6) refl known_6

entry_6 : IsLawfulEntry at_6 (entry 6)
entry_6 = by_laws at_6 (entry 6) refl refl refl tt
    (alone ts js trans at_7 known_7 refl)
    ((refl, refl), tt) tt tt (refl, refl) tt

abbrev granted_7 : State
granted_7 = state_deed at_7 (Grants trans (reads trans))

answer_7 : answer_in granted_7.holder (life_at granted_7 trans) (found_done trans 9) ≡ replied no_opens (reply.Owner (owner_with 9)) []
answer_7 = found granted_7.holder (life_at granted_7 trans) trans 9 (record { edits = refl; own = refl; who = refl }) (quota_seen 9)

abbrev at_8 : State
at_8 = closed (entry 7) (performed granted_7 trans (found_done trans 9) (life_at granted_7 trans) (replied no_opens (reply.Owner (owner_with 9)) []))

same_8 : next at_7 (entry 7) ≡ at_8
same_8 = call_next at_7 (entry 7) trans (reads trans) (found_done trans 9) (life_at granted_7 trans) (replied no_opens (reply.Owner (owner_with 9)) []) refl refl (lives_there granted_7 trans refl) answer_7

known_8 : Only ts js at_8
known_8 = subst (Only ts js) same_8 (only_next ts js at_7 (entry 7) refl known_7)

entry_7 : IsLawfulEntry at_7 (entry 7)
entry_7 = by_laws at_7 (entry 7) refl refl refl (call_alone ts js at_7 known_7 (event_of 7) trans (reads trans) (found_done trans 9) refl refl refl refl refl (inr (join, 1, codes "Admin", refl)) (
  life_at granted_7 trans,
  lives_there granted_7 trans refl,
  record { client = refl; active = refl; formed = (tt, tt, tt); right = ap (λ (a : Answer). a.reply) answer_7; locked = granted-holds no_locks ((Leaf (OwnerOf (codes "ann")), Read) ∷ []) },
))
    (subst (λ (s : State). DoLivesAgree s.holder.lives) (sym same_8) (alone ts js trans at_8 known_8 refl))
    ((refl, refl), tt) (tt, tt) tt (refl, refl) tt

abbrev at_9 : State
at_9 = next at_8 (entry 8)

known_9 : Only ts js at_9
known_9 = only_next ts js at_8 (entry 8) refl known_8

entry_8 : IsLawfulEntry at_8 (entry 8)
entry_8 = by_laws at_8 (entry 8) refl refl refl (readies (event_of 8) at_8 join trans 2 (record { from = 1; client = 1; who = codes "Admin"; asked = refl; active = refl; idle = refl; time = refl; live = (life_at at_8 trans, lives_there at_8 trans refl, refl) }), tt)
    (alone ts js trans at_9 known_9 refl)
    ((refl, refl), tt) (tt, ((1, refl), tt)) tt (refl, refl) tt

abbrev at_10 : State
at_10 = next at_9 (entry 9)

known_10 : Only ts js at_10
known_10 = only_next ts js at_9 (entry 9) refl known_9

entry_9 : IsLawfulEntry at_9 (entry 9)
entry_9 = by_laws at_9 (entry 9) refl refl refl tt
    (alone ts js trans at_10 known_10 refl)
    tt (tt, tt) tt ((refl, record { clock = refl; once = refl; ready = ready_found ts js (at_9) (known_9) (join ∷ []) refl (refl, tt); decided = stamps_found ts js (at_9) (known_9) ([]) refl ((λ n. refl), ((λ n. refl), ((λ n. refl), tt))) }), refl) tt

abbrev at_11 : State
at_11 = next at_10 (entry 10)

known_11 : Only ts js at_11
known_11 = only_next ts js at_10 (entry 10) refl known_10

entry_10 : IsLawfulEntry at_10 (entry 10)
entry_10 = by_laws at_10 (entry 10) refl refl refl tt
    (alone ts js trans at_11 known_11 refl)
    ((refl, refl), tt) tt tt (refl, refl) tt

abbrev at_12 : State
at_12 = next at_11 (entry 11)

known_12 : Only ts js at_12
known_12 = only_next ts js at_11 (entry 11) refl known_11

entry_11 : IsLawfulEntry at_11 (entry 11)
entry_11 = by_laws at_11 (entry 11) refl refl refl (begins (event_of 11) at_11 afterwards 2 (codes "Admin") 0 refl, tt)
    (second_bare ts js trans afterwards at_12 known_12 refl refl)
    ((refl, refl), tt) (tt, tt) tt (refl, refl) tt

abbrev at_13 : State
at_13 = next at_12 (entry 12)

known_13 : Only ts js at_13
known_13 = only_next ts js at_12 (entry 12) refl known_12

entry_12 : IsLawfulEntry at_12 (entry 12)
entry_12 = by_laws at_12 (entry 12) refl refl refl tt
    (second_bare ts js trans afterwards at_13 known_13 refl refl)
    ((refl, refl), tt) tt tt (refl, refl) tt

abbrev at_14 : State
at_14 = next at_13 (entry 13)

known_14 : Only ts js at_14
known_14 = only_next ts js at_13 (entry 13) refl known_13

entry_13 : IsLawfulEntry at_13 (entry 13)
entry_13 = by_laws at_13 (entry 13) refl refl refl (then_released ts js at_13 known_13 (event_of 13) (Applies join later_stamp) trans refl refl refl ((λ h. h), tt)
    (applies (event_of 13) at_13 join later_stamp (record { from = 1; client = 1; ts = 2; told = refl; ready = refl; elsewhere = refl; live = (life_at at_13 trans, lives_there at_13 trans refl, refl) })))
    (alone ts js afterwards at_14 known_14 refl)
    ((refl, refl), tt) (tt, (tt, ((1, later_stamp, refl, refl, refl), tt))) tt (refl, refl) tt

abbrev granted_14 : State
granted_14 = state_deed at_14 (Grants afterwards (sets afterwards 3))

answer_14 : answer_in granted_14.holder (life_at granted_14 afterwards) (set_done afterwards 3) ≡ replied no_opens reply.Plain (Put (OwnerOf (codes "ann")) (cell.Owner (owner_with 3)) ∷ [])
answer_14 = set granted_14.holder (life_at granted_14 afterwards) afterwards 9 3 (record { edits = refl; own = refl; who = refl }) (quota_seen 9)

abbrev at_15 : State
at_15 = closed (entry 14) (performed granted_14 afterwards (set_done afterwards 3) (life_at granted_14 afterwards) (replied no_opens reply.Plain (Put (OwnerOf (codes "ann")) (cell.Owner (owner_with 3)) ∷ [])))

same_15 : next at_14 (entry 14) ≡ at_15
same_15 = call_next at_14 (entry 14) afterwards (sets afterwards 3) (set_done afterwards 3) (life_at granted_14 afterwards) (replied no_opens reply.Plain (Put (OwnerOf (codes "ann")) (cell.Owner (owner_with 3)) ∷ [])) refl refl (lives_there granted_14 afterwards refl) answer_14

known_15 : Only ts js at_15
known_15 = subst (Only ts js) same_15 (only_next ts js at_14 (entry 14) refl known_14)

entry_14 : IsLawfulEntry at_14 (entry 14)
entry_14 = by_laws at_14 (entry 14) refl refl refl (call_alone ts js at_14 known_14 (event_of 14) afterwards (sets afterwards 3) (set_done afterwards 3) refl refl refl refl refl (inl refl) (
  life_at granted_14 afterwards,
  lives_there granted_14 afterwards refl,
  record { client = refl; active = refl; formed = (tt, tt, tt); right = ap (λ (a : Answer). a.reply) answer_14; locked = granted-holds no_locks ((Leaf (OwnerOf (codes "ann")), Write) ∷ []) },
))
    (subst (λ (s : State). DoLivesAgree s.holder.lives) (sym same_15) (alone ts js afterwards at_15 known_15 refl))
    ((refl, refl), tt) (tt, tt) tt (refl, refl) tt

abbrev finished_15 : State
finished_15 = state_deed at_15 (Finishes afterwards)

abbrev at_16 : State
at_16 = next at_15 (entry 15)

known_16 : Only ts js at_16
known_16 = only_next ts js at_15 (entry 15) refl known_15

entry_15 : IsLawfulEntry at_15 (entry 15)
entry_15 = by_laws at_15 (entry 15) refl refl refl (
  finishes (event_of 15) at_15 afterwards,
  then_released ts js finished_15 (only_deed ts js at_15 known_15 (Finishes afterwards) refl) (event_of 15) (Decides last_stamp []) afterwards refl refl refl ((λ h. h), tt)
      (decides (event_of 15) finished_15 last_stamp []
      (record { client = 2; votes = []; asked = refl; own = refl; now = refl; finishing = refl; voted = refl; time = refl; idle = no_file_call (waiting_of finished_15.desk 2 afterwards) refl; live = (life_at finished_15 afterwards, lives_there finished_15 afterwards refl, refl) })),
)
    (alone ts js afterwards at_16 known_16 refl)
    ((refl, refl), tt) (tt, (tt, tt)) ([], refl, (does last_stamp (set_done afterwards 3), refl)) (refl, refl) tt

from_15 : Along next IsLawfulEntry at_15 (drop 15 outlived_two)
from_15 = (entry_15, tt)

from_8 : Along next IsLawfulEntry at_8 (drop 8 outlived_two)
from_8 = (entry_8, (entry_9, (entry_10, (entry_11, (entry_12, (entry_13, (entry_14, subst (λ (s : State). Along next IsLawfulEntry s (drop 15 outlived_two)) (sym same_15) from_15)))))))

from_3 : Along next IsLawfulEntry at_3 (drop 3 outlived_two)
from_3 = (entry_3, (entry_4, (entry_5, (entry_6, (entry_7, subst (λ (s : State). Along next IsLawfulEntry s (drop 8 outlived_two)) (sym same_8) from_8)))))

pub lawful : IsLawful (new 2) outlived_two
lawful = (entry_0, (entry_1, (entry_2, subst (λ (s : State). Along next IsLawfulEntry s (drop 3 outlived_two)) (sym same_3) from_3)))
