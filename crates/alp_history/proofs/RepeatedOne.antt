-- the journal of server 1 with lost and repeated messages is lawful
use Rattle.std.specs.Prelude.{codes, unwrap_or, slice_get, drop}
use Rattle.std.proofs.Common.{◌≡◌, ℕ, List, [], ◌∷◌, refl, sym, ap, subst, inr}
use Rattle.alp_base.specs.declared.ids.JoinNo.{JoinNo}
use Rattle.alp_base.specs.declared.ids.TransId.{TransId}
use Rattle.alp_base.specs.declared.key.Key.TheVariants.{OwnerOf}
use Rattle.alp_base.specs.declared.key.Resource.TheVariants.{Leaf}
use Rattle.alp_modes.specs.declared.Mode.TheVariants.{Read}
use Rattle.alp_files.specs.Act.{Answer, no_opens, replied}
use Rattle.alp_files.proofs.CoverLemmas.{granted-holds}
use Rattle.alp_journal.specs.declared.event.Event.{Event}
use Rattle.alp_journal.specs.declared.entry.Entry.{Entry}
use Rattle.alp_journal.specs.Along.{Along}
use Rattle.alp_journal.specs.Deeds.{Grants, Hears, Decides, Applies, Acknowledges}
use Rattle.alp_journal.specs.Holder.{no_locks, answer_in}
use Rattle.alp_journal.specs.State.{State, state_deed}
use Rattle.alp_journal.specs.Moves.{next}
use Rattle.alp_journal.specs.Laws.{IsLawfulEntry, IsLawful, DoLivesAgree}
use Rattle.alp_history.specs.Examples.{trans, join, stamp, new}
use Rattle.alp_history.specs.RightLog.{owner_with, reads, found_done, does}
use Rattle.alp_history.specs.RightJournals.{hello, made_done, second, second_join, second_stamp, repeated_one}
use Rattle.alp_history.proofs.Worked.{life_at}
use Rattle.alp_history.proofs.Quotas.{quota_seen}
use Rattle.alp_history.proofs.Owners.{found}
use Rattle.alp_history.proofs.Steps.{lives_there, performed, closed, call_next}
use Rattle.alp_history.proofs.Named.{Only, only_deed, only_next, alone}
use Rattle.alp_history.proofs.NamedEnds.{no_file_call}
use Rattle.alp_journal.specs.Desk.{waiting_of}
use Rattle.alp_history.proofs.LawfulDeeds.{joins, enters, readies, applies, hears, decides, acknowledges, forgets}
use Rattle.alp_history.proofs.LawfulEntries.{by_laws, call_alone, then_released}
use Rattle.alp_files.specs.declared.reply.Reply.TheVariants as reply
use Rattle.alp_history.proofs.FirstUp.{at_6, known_6 as first_known, first_up_then}

abbrev ts : List TransId
ts = trans ∷ second ∷ []

abbrev js : List JoinNo
js = second_join ∷ []

abbrev entry : ℕ → Entry
entry i = unwrap_or (slice_get repeated_one i) (hello 1 0)

abbrev event_of : ℕ → Event
event_of i = (entry i).event

-- the state before each entry behind those; what a call was answered is written out
known_6 : Only ts js at_6
known_6 = first_known (second ∷ []) js

abbrev heard_6 : State
heard_6 = state_deed at_6 (Hears trans join 1)

abbrev at_7 : State
at_7 = next at_6 (entry 6)

known_7 : Only ts js at_7
known_7 = only_next ts js at_6 (entry 6) refl known_6

entry_6 : IsLawfulEntry at_6 (entry 6)
entry_6 = by_laws at_6 (entry 6) refl refl refl (
  hears (event_of 6) at_6 trans join 1,
  then_released ts js heard_6 (only_deed ts js at_6 known_6 (Hears trans join 1) refl) (event_of 6) (Decides stamp (join ∷ [])) trans refl refl refl ((λ h. h), tt)
      (decides (event_of 6) heard_6 stamp (join ∷ [])
      (record { client = 1; votes = (join, 1) ∷ []; asked = refl; own = refl; now = refl; finishing = refl; voted = refl; time = refl; idle = no_file_call (waiting_of heard_6.desk 1 trans) refl; live = (life_at heard_6 trans, lives_there heard_6 trans refl, refl) })),
)
    (alone ts js trans at_7 known_7 refl)
    ((refl, refl), (tt, tt)) (tt, (tt, ((refl, refl), tt))) tt (refl, refl) tt

abbrev at_8 : State
at_8 = next at_7 (entry 7)

known_8 : Only ts js at_8
known_8 = only_next ts js at_7 (entry 7) refl known_7

entry_7 : IsLawfulEntry at_7 (entry 7)
entry_7 = by_laws at_7 (entry 7) refl refl refl tt
    (alone ts js trans at_8 known_8 refl)
    ((refl, refl), tt) tt (join ∷ [], refl, (does stamp (made_done trans 9), refl)) (refl, refl) tt

abbrev at_9 : State
at_9 = next at_8 (entry 8)

known_9 : Only ts js at_9
known_9 = only_next ts js at_8 (entry 8) refl known_8

entry_8 : IsLawfulEntry at_8 (entry 8)
entry_8 = by_laws at_8 (entry 8) refl refl refl tt
    (alone ts js trans at_9 known_9 refl)
    ((refl, refl), tt) ((refl, refl), tt) tt (refl, refl) tt

abbrev at_10 : State
at_10 = next at_9 (entry 9)

known_10 : Only ts js at_10
known_10 = only_next ts js at_9 (entry 9) refl known_9

entry_9 : IsLawfulEntry at_9 (entry 9)
entry_9 = by_laws at_9 (entry 9) refl refl refl tt
    (alone ts js trans at_10 known_10 refl)
    ((refl, refl), tt) tt tt (refl, refl) tt

abbrev at_11 : State
at_11 = next at_10 (entry 10)

known_11 : Only ts js at_11
known_11 = only_next ts js at_10 (entry 10) refl known_10

entry_10 : IsLawfulEntry at_10 (entry 10)
entry_10 = by_laws at_10 (entry 10) refl refl refl (
  acknowledges (event_of 10) at_10 trans join,
  (forgets (event_of 10) (state_deed at_10 (Acknowledges trans join)) trans (record { from = 2; join = join; stamp = stamp; joins = join ∷ []; before = []; told = refl; committed = refl; its = refl; missing = refl; all = refl }), tt),
)
    (alone ts js trans at_11 known_11 refl)
    ((refl, refl), tt) (tt, tt) tt (refl, refl) tt

abbrev at_12 : State
at_12 = next at_11 (entry 11)

known_12 : Only ts js at_12
known_12 = only_next ts js at_11 (entry 11) refl known_11

entry_11 : IsLawfulEntry at_11 (entry 11)
entry_11 = by_laws at_11 (entry 11) refl refl refl tt
    (alone ts js trans at_12 known_12 refl)
    ((refl, refl), tt) tt tt (refl, refl) tt

abbrev at_13 : State
at_13 = next at_12 (entry 12)

known_13 : Only ts js at_13
known_13 = only_next ts js at_12 (entry 12) refl known_12

entry_12 : IsLawfulEntry at_12 (entry 12)
entry_12 = by_laws at_12 (entry 12) refl refl refl (joins (event_of 12) at_12 second_join second 1 (codes "Admin") (refl, refl), tt)
    (alone ts js second at_13 known_13 refl)
    ((refl, refl), (tt, tt)) (tt, tt) tt (refl, refl) tt

abbrev at_14 : State
at_14 = next at_13 (entry 13)

known_14 : Only ts js at_14
known_14 = only_next ts js at_13 (entry 13) refl known_13

entry_13 : IsLawfulEntry at_13 (entry 13)
entry_13 = by_laws at_13 (entry 13) refl refl refl (enters (event_of 13) at_13 second_join second 1 (codes "Admin"), tt)
    (alone ts js second at_14 known_14 refl)
    ((refl, refl), (tt, tt)) tt tt (refl, refl) tt

abbrev at_15 : State
at_15 = next at_14 (entry 14)

known_15 : Only ts js at_15
known_15 = only_next ts js at_14 (entry 14) refl known_14

entry_14 : IsLawfulEntry at_14 (entry 14)
entry_14 = by_laws at_14 (entry 14) refl refl refl tt
    (alone ts js second at_15 known_15 refl)
    ((refl, refl), tt) tt tt (refl, refl) tt

abbrev granted_15 : State
granted_15 = state_deed at_15 (Grants second (reads second))

answer_15 : answer_in granted_15.holder (life_at granted_15 second) (found_done second 9) ≡ replied no_opens (reply.Owner (owner_with 9)) []
answer_15 = found granted_15.holder (life_at granted_15 second) second 9 (record { edits = refl; own = refl; who = refl }) (quota_seen 9)

abbrev at_16 : State
at_16 = closed (entry 15) (performed granted_15 second (found_done second 9) (life_at granted_15 second) (replied no_opens (reply.Owner (owner_with 9)) []))

same_16 : next at_15 (entry 15) ≡ at_16
same_16 = call_next at_15 (entry 15) second (reads second) (found_done second 9) (life_at granted_15 second) (replied no_opens (reply.Owner (owner_with 9)) []) refl refl (lives_there granted_15 second refl) answer_15

known_16 : Only ts js at_16
known_16 = subst (Only ts js) same_16 (only_next ts js at_15 (entry 15) refl known_15)

entry_15 : IsLawfulEntry at_15 (entry 15)
entry_15 = by_laws at_15 (entry 15) refl refl refl (call_alone ts js at_15 known_15 (event_of 15) second (reads second) (found_done second 9) refl refl refl refl refl (inr (second_join, 1, codes "Admin", refl)) (
  life_at granted_15 second,
  lives_there granted_15 second refl,
  record { client = refl; active = refl; formed = (tt, tt, tt); right = ap (λ (a : Answer). a.reply) answer_15; locked = granted-holds no_locks ((Leaf (OwnerOf (codes "ann")), Read) ∷ []) },
))
    (subst (λ (s : State). DoLivesAgree s.holder.lives) (sym same_16) (alone ts js second at_16 known_16 refl))
    ((refl, refl), tt) (tt, tt) tt (refl, refl) tt

abbrev at_17 : State
at_17 = next at_16 (entry 16)

known_17 : Only ts js at_17
known_17 = only_next ts js at_16 (entry 16) refl known_16

entry_16 : IsLawfulEntry at_16 (entry 16)
entry_16 = by_laws at_16 (entry 16) refl refl refl (readies (event_of 16) at_16 second_join second 2 (record { from = 2; client = 1; who = codes "Admin"; asked = refl; active = refl; idle = refl; time = refl; live = (life_at at_16 second, lives_there at_16 second refl, refl) }), tt)
    (alone ts js second at_17 known_17 refl)
    ((refl, refl), tt) (tt, ((1, refl), tt)) tt (refl, refl) tt

abbrev at_18 : State
at_18 = next at_17 (entry 17)

known_18 : Only ts js at_18
known_18 = only_next ts js at_17 (entry 17) refl known_17

entry_17 : IsLawfulEntry at_17 (entry 17)
entry_17 = by_laws at_17 (entry 17) refl refl refl (then_released ts js at_17 known_17 (event_of 17) (Applies second_join second_stamp) second refl refl refl ((λ h. h), tt)
    (applies (event_of 17) at_17 second_join second_stamp (record { from = 2; client = 1; ts = 2; told = refl; ready = refl; elsewhere = refl; live = (life_at at_17 second, lives_there at_17 second refl, refl) })))
    (alone ts js second at_18 known_18 refl)
    ((refl, refl), tt) (tt, (tt, ((2, second_stamp, refl, refl, refl), tt))) tt (refl, refl) tt

from_16 : Along next IsLawfulEntry at_16 (drop 16 repeated_one)
from_16 = (entry_16, (entry_17, tt))

pub lawful : IsLawful (new 1) repeated_one
lawful = first_up_then (drop 6 repeated_one) (entry_6, (entry_7, (entry_8, (entry_9, (entry_10, (entry_11, (entry_12, (entry_13, (entry_14, (entry_15, subst (λ (s : State). Along next IsLawfulEntry s (drop 16 repeated_one)) (sym same_16) from_16))))))))))
