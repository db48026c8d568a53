-- the journal of server 1 in the right log is lawful
use Rattle.std.specs.FinMap as map
use Rattle.std.specs.Prelude.{codes, unwrap_or, slice_get, drop, take}
use Rattle.std.specs.FinMap.{get-insert}
use Rattle.std.proofs.Common.{◌≡◌, ℕ, List, [], ◌∷◌, refl, sym, ap, subst, ◌∙◌, inl, inr}
use Rattle.alp_base.specs.KeyLaws.{keys_total}
use Rattle.alp_base.specs.declared.ids.JoinNo.{JoinNo}
use Rattle.alp_base.specs.declared.ids.TransId.{TransId}
use Rattle.alp_base.specs.declared.key.Key.TheVariants.{OwnerOf}
use Rattle.alp_base.specs.declared.key.Resource.TheVariants.{Leaf}
use Rattle.alp_modes.specs.declared.Mode.TheVariants.{Read, Write}
use Rattle.alp_files.specs.Edits.{Put}
use Rattle.alp_files.specs.Act.{Answer, no_opens, replied}
use Rattle.alp_files.proofs.CoverLemmas.{granted-holds}
use Rattle.alp_journal.specs.declared.event.Event.{Event}
use Rattle.alp_journal.specs.declared.entry.Entry.{Entry}
use Rattle.alp_journal.specs.Along.{Along, state_after}
use Rattle.alp_journal.specs.Deeds.{Grants, Hears, Decides, Applies, Finishes, Acknowledges}
use Rattle.alp_journal.specs.Holder.{no_locks, answer_in}
use Rattle.alp_journal.specs.State.{State, opened, state_deed}
use Rattle.alp_journal.specs.Moves.{next}
use Rattle.alp_journal.specs.Laws.{IsLawfulEntry, IsLawful, DoLivesAgree}
use Rattle.alp_history.specs.Examples.{trans, join, stamp}
use Rattle.alp_history.specs.RightLog.{owner_with, with_quota, opening, second, second_join, second_stamp, third, third_stamp, sets, reads, hello, set_done, found_done, does, one}
use Rattle.alp_history.proofs.Worked.{life_at}
use Rattle.alp_history.proofs.Quotas.{ann, quota_seen, put_quota}
use Rattle.alp_history.proofs.Owners.{found, set}
use Rattle.alp_history.proofs.Steps.{lives_there, performed, closed, call_next}
use Rattle.alp_history.proofs.Named.{Only, only_deed, only_next, alone}
use Rattle.alp_history.proofs.NamedEnds.{ready_found, stamps_found, or_false, and_false, no_file_call}
use Rattle.alp_journal.specs.Desk.{waiting_of}
use Rattle.alp_history.proofs.LawfulDeeds.{begins, joins, enters, readies, applies, registers, finishes, hears, decides, acknowledges, forgets}
use Rattle.alp_history.proofs.LawfulEntries.{by_laws, call_alone, then_released}
use Rattle.alp_base.specs.declared.cell.Cell.TheVariants as cell
use Rattle.alp_files.specs.declared.reply.Reply.TheVariants as reply

abbrev ts : List TransId
ts = trans ∷ second ∷ third ∷ []

abbrev js : List JoinNo
js = second_join ∷ []

abbrev entry : ℕ → Entry
entry i = unwrap_or (slice_get one i) (hello 0)

abbrev event_of : ℕ → Event
event_of i = (entry i).event

-- the state before each entry; what a call was answered is written out
abbrev at_0 : State
at_0 = opened (opening 1)

known_0 : Only ts js at_0
known_0 = record { lives = λ u k. refl; fates = λ u k. refl; phases = λ j k. refl }

abbrev at_1 : State
at_1 = next at_0 (entry 0)

known_1 : Only ts js at_1
known_1 = only_next ts js at_0 (entry 0) refl known_0

entry_0 : IsLawfulEntry at_0 (entry 0)
entry_0 = by_laws at_0 (entry 0) refl refl refl tt
    (alone ts js trans at_1 known_1 refl)
    ((refl, refl), tt) tt tt (refl, refl) tt

abbrev at_2 : State
at_2 = next at_1 (entry 1)

known_2 : Only ts js at_2
known_2 = only_next ts js at_1 (entry 1) refl known_1

entry_1 : IsLawfulEntry at_1 (entry 1)
entry_1 = by_laws at_1 (entry 1) refl refl refl (begins (event_of 1) at_1 trans 1 (codes "Admin") 0 refl, tt)
    (alone ts js trans at_2 known_2 refl)
    ((refl, refl), tt) (tt, tt) tt (refl, refl) tt

abbrev granted_2 : State
granted_2 = state_deed at_2 (Grants trans (sets trans 5))

answer_2 : answer_in granted_2.holder (life_at granted_2 trans) (set_done trans 5) ≡ replied no_opens reply.Plain (Put (OwnerOf (codes "ann")) (cell.Owner (owner_with 5)) ∷ [])
answer_2 = set granted_2.holder (life_at granted_2 trans) trans 9 5 (record { edits = refl; own = refl; who = refl }) (quota_seen 9)

abbrev at_3 : State
at_3 = closed (entry 2) (performed granted_2 trans (set_done trans 5) (life_at granted_2 trans) (replied no_opens reply.Plain (Put (OwnerOf (codes "ann")) (cell.Owner (owner_with 5)) ∷ [])))

same_3 : next at_2 (entry 2) ≡ at_3
same_3 = call_next at_2 (entry 2) trans (sets trans 5) (set_done trans 5) (life_at granted_2 trans) (replied no_opens reply.Plain (Put (OwnerOf (codes "ann")) (cell.Owner (owner_with 5)) ∷ [])) refl refl (lives_there granted_2 trans refl) answer_2

known_3 : Only ts js at_3
known_3 = subst (Only ts js) same_3 (only_next ts js at_2 (entry 2) refl known_2)

entry_2 : IsLawfulEntry at_2 (entry 2)
entry_2 = by_laws at_2 (entry 2) refl refl refl (call_alone ts js at_2 known_2 (event_of 2) trans (sets trans 5) (set_done trans 5) refl refl refl refl refl (inl refl) (
  life_at granted_2 trans,
  lives_there granted_2 trans refl,
  record { client = refl; active = refl; formed = (tt, tt, tt); right = ap (λ (a : Answer). a.reply) answer_2; locked = granted-holds no_locks ((Leaf (OwnerOf (codes "ann")), Write) ∷ []) },
))
    (subst (λ (s : State). DoLivesAgree s.holder.lives) (sym same_3) (alone ts js trans at_3 known_3 refl))
    ((refl, refl), tt) (tt, tt) tt (refl, refl) tt

abbrev at_4 : State
at_4 = next at_3 (entry 3)

known_4 : Only ts js at_4
known_4 = only_next ts js at_3 (entry 3) refl known_3

entry_3 : IsLawfulEntry at_3 (entry 3)
entry_3 = by_laws at_3 (entry 3) refl refl refl (registers (event_of 3) at_3 trans join (record { from = 2; client = 1; joins = []; asked = refl; runs = refl; first = refl; elsewhere = refl }), tt)
    (alone ts js trans at_4 known_4 refl)
    ((refl, refl), tt) (tt, (refl, tt)) tt (refl, refl) tt

abbrev at_5 : State
at_5 = next at_4 (entry 4)

known_5 : Only ts js at_5
known_5 = only_next ts js at_4 (entry 4) refl known_4

entry_4 : IsLawfulEntry at_4 (entry 4)
entry_4 = by_laws at_4 (entry 4) refl refl refl (finishes (event_of 4) at_4 trans, tt)
    (alone ts js trans at_5 known_5 refl)
    ((refl, refl), (tt, tt)) (tt, tt) tt (refl, refl) tt

abbrev heard_5 : State
heard_5 = state_deed at_5 (Hears trans join 1)

abbrev at_6 : State
at_6 = next at_5 (entry 5)

known_6 : Only ts js at_6
known_6 = only_next ts js at_5 (entry 5) refl known_5

entry_5 : IsLawfulEntry at_5 (entry 5)
entry_5 = by_laws at_5 (entry 5) refl refl refl (
  hears (event_of 5) at_5 trans join 1,
  then_released ts js heard_5 (only_deed ts js at_5 known_5 (Hears trans join 1) refl) (event_of 5) (Decides stamp (join ∷ [])) trans refl refl refl ((λ h. h), tt)
      (decides (event_of 5) heard_5 stamp (join ∷ [])
      (record { client = 1; votes = (join, 1) ∷ []; asked = refl; own = refl; now = refl; finishing = refl; voted = refl; time = refl; idle = no_file_call (waiting_of heard_5.desk 1 trans) refl; live = (life_at heard_5 trans, lives_there heard_5 trans refl, refl) })),
)
    (alone ts js trans at_6 known_6 refl)
    ((refl, refl), (tt, tt)) (tt, (tt, ((refl, refl), tt))) tt (refl, refl) tt

abbrev at_7 : State
at_7 = next at_6 (entry 6)

known_7 : Only ts js at_7
known_7 = only_next ts js at_6 (entry 6) refl known_6

entry_6 : IsLawfulEntry at_6 (entry 6)
entry_6 = by_laws at_6 (entry 6) refl refl refl tt
    (alone ts js trans at_7 known_7 refl)
    tt (tt, tt) tt ((refl, record { clock = refl; once = refl; ready = ready_found ts js (at_6) (known_6) ([]) refl (refl, tt); decided = stamps_found ts js (at_6) (known_6) (stamp ∷ []) refl ((λ n. or_false _), ((λ n. or_false _ ∙ and_false _), ((λ n. or_false _ ∙ and_false _), tt))) }), refl) tt

abbrev at_8 : State
at_8 = next at_7 (entry 7)

known_8 : Only ts js at_8
known_8 = only_next ts js at_7 (entry 7) refl known_7

entry_7 : IsLawfulEntry at_7 (entry 7)
entry_7 = by_laws at_7 (entry 7) refl refl refl tt
    (alone ts js trans at_8 known_8 refl)
    ((refl, refl), tt) ((refl, refl), tt) tt (refl, refl) tt

abbrev at_9 : State
at_9 = next at_8 (entry 8)

known_9 : Only ts js at_9
known_9 = only_next ts js at_8 (entry 8) refl known_8

entry_8 : IsLawfulEntry at_8 (entry 8)
entry_8 = by_laws at_8 (entry 8) refl refl refl tt
    (alone ts js trans at_9 known_9 refl)
    ((refl, refl), tt) tt tt (refl, refl) tt

abbrev at_10 : State
at_10 = next at_9 (entry 9)

known_10 : Only ts js at_10
known_10 = only_next ts js at_9 (entry 9) refl known_9

entry_9 : IsLawfulEntry at_9 (entry 9)
entry_9 = by_laws at_9 (entry 9) refl refl refl tt
    (alone ts js trans at_10 known_10 refl)
    ((refl, refl), tt) tt (refl, refl) (refl, refl) tt

abbrev at_11 : State
at_11 = next at_10 (entry 10)

known_11 : Only ts js at_11
known_11 = only_next ts js at_10 (entry 10) refl known_10

entry_10 : IsLawfulEntry at_10 (entry 10)
entry_10 = by_laws at_10 (entry 10) refl refl refl (joins (event_of 10) at_10 second_join second 1 (codes "Admin") (refl, refl), tt)
    (alone ts js second at_11 known_11 refl)
    ((refl, refl), (tt, tt)) (tt, tt) tt (refl, refl) tt

abbrev at_12 : State
at_12 = next at_11 (entry 11)

known_12 : Only ts js at_12
known_12 = only_next ts js at_11 (entry 11) refl known_11

entry_11 : IsLawfulEntry at_11 (entry 11)
entry_11 = by_laws at_11 (entry 11) refl refl refl (enters (event_of 11) at_11 second_join second 1 (codes "Admin"), tt)
    (alone ts js second at_12 known_12 refl)
    ((refl, refl), (tt, tt)) tt tt (refl, refl) tt

abbrev at_13 : State
at_13 = next at_12 (entry 12)

known_13 : Only ts js at_13
known_13 = only_next ts js at_12 (entry 12) refl known_12

entry_12 : IsLawfulEntry at_12 (entry 12)
entry_12 = by_laws at_12 (entry 12) refl refl refl tt
    (alone ts js second at_13 known_13 refl)
    ((refl, refl), tt) tt tt (refl, refl) tt

abbrev granted_13 : State
granted_13 = state_deed at_13 (Grants second (reads second))

answer_13 : answer_in granted_13.holder (life_at granted_13 second) (found_done second 5) ≡ replied no_opens (reply.Owner (owner_with 5)) []
answer_13 = found granted_13.holder (life_at granted_13 second) second 5 (record { edits = refl; own = refl; who = refl }) (get-insert keys_total (with_quota 9) ann (cell.Owner (owner_with 5)) ann)

abbrev at_14 : State
at_14 = closed (entry 13) (performed granted_13 second (found_done second 5) (life_at granted_13 second) (replied no_opens (reply.Owner (owner_with 5)) []))

same_14 : next at_13 (entry 13) ≡ at_14
same_14 = call_next at_13 (entry 13) second (reads second) (found_done second 5) (life_at granted_13 second) (replied no_opens (reply.Owner (owner_with 5)) []) refl refl (lives_there granted_13 second refl) answer_13

known_14 : Only ts js at_14
known_14 = subst (Only ts js) same_14 (only_next ts js at_13 (entry 13) refl known_13)

entry_13 : IsLawfulEntry at_13 (entry 13)
entry_13 = by_laws at_13 (entry 13) refl refl refl (call_alone ts js at_13 known_13 (event_of 13) second (reads second) (found_done second 5) refl refl refl refl refl (inr (second_join, 1, codes "Admin", refl)) (
  life_at granted_13 second,
  lives_there granted_13 second refl,
  record { client = refl; active = refl; formed = (tt, tt, tt); right = ap (λ (a : Answer). a.reply) answer_13; locked = granted-holds no_locks ((Leaf (OwnerOf (codes "ann")), Read) ∷ []) },
))
    (subst (λ (s : State). DoLivesAgree s.holder.lives) (sym same_14) (alone ts js second at_14 known_14 refl))
    ((refl, refl), tt) (tt, tt) tt (refl, refl) tt

abbrev at_15 : State
at_15 = next at_14 (entry 14)

known_15 : Only ts js at_15
known_15 = only_next ts js at_14 (entry 14) refl known_14

entry_14 : IsLawfulEntry at_14 (entry 14)
entry_14 = by_laws at_14 (entry 14) refl refl refl (readies (event_of 14) at_14 second_join second 2 (record { from = 2; client = 1; who = codes "Admin"; asked = refl; active = refl; idle = refl; time = refl; live = (life_at at_14 second, lives_there at_14 second refl, refl) }), tt)
    (alone ts js second at_15 known_15 refl)
    ((refl, refl), tt) (tt, ((1, refl), tt)) tt (refl, refl) tt

abbrev at_16 : State
at_16 = next at_15 (entry 15)

known_16 : Only ts js at_16
known_16 = only_next ts js at_15 (entry 15) refl known_15

entry_15 : IsLawfulEntry at_15 (entry 15)
entry_15 = by_laws at_15 (entry 15) refl refl refl (then_released ts js at_15 known_15 (event_of 15) (Applies second_join second_stamp) second refl refl refl ((λ h. h), tt)
    (applies (event_of 15) at_15 second_join second_stamp (record { from = 2; client = 1; ts = 2; told = refl; ready = refl; elsewhere = refl; live = (life_at at_15 second, lives_there at_15 second refl, refl) })))
    (alone ts js second at_16 known_16 refl)
    ((refl, refl), tt) (tt, (tt, ((2, second_stamp, refl, refl, refl), tt))) tt (refl, refl) tt

abbrev at_17 : State
at_17 = next at_16 (entry 16)

known_17 : Only ts js at_17
known_17 = only_next ts js at_16 (entry 16) refl known_16

entry_16 : IsLawfulEntry at_16 (entry 16)
entry_16 = by_laws at_16 (entry 16) refl refl refl (begins (event_of 16) at_16 third 1 (codes "Admin") 1 refl, tt)
    (alone ts js third at_17 known_17 refl)
    ((refl, refl), tt) (tt, tt) tt (refl, refl) tt

abbrev granted_17 : State
granted_17 = state_deed at_17 (Grants third (sets third 8))

answer_17 : answer_in granted_17.holder (life_at granted_17 third) (set_done third 8) ≡ replied no_opens reply.Plain (Put (OwnerOf (codes "ann")) (cell.Owner (owner_with 8)) ∷ [])
answer_17 = set granted_17.holder (life_at granted_17 third) third 5 8 (record { edits = refl; own = refl; who = refl }) (get-insert keys_total (with_quota 9) ann (cell.Owner (owner_with 5)) ann)

abbrev at_18 : State
at_18 = closed (entry 17) (performed granted_17 third (set_done third 8) (life_at granted_17 third) (replied no_opens reply.Plain (Put (OwnerOf (codes "ann")) (cell.Owner (owner_with 8)) ∷ [])))

same_18 : next at_17 (entry 17) ≡ at_18
same_18 = call_next at_17 (entry 17) third (sets third 8) (set_done third 8) (life_at granted_17 third) (replied no_opens reply.Plain (Put (OwnerOf (codes "ann")) (cell.Owner (owner_with 8)) ∷ [])) refl refl (lives_there granted_17 third refl) answer_17

known_18 : Only ts js at_18
known_18 = subst (Only ts js) same_18 (only_next ts js at_17 (entry 17) refl known_17)

entry_17 : IsLawfulEntry at_17 (entry 17)
entry_17 = by_laws at_17 (entry 17) refl refl refl (call_alone ts js at_17 known_17 (event_of 17) third (sets third 8) (set_done third 8) refl refl refl refl refl (inl refl) (
  life_at granted_17 third,
  lives_there granted_17 third refl,
  record { client = refl; active = refl; formed = (tt, tt, tt); right = ap (λ (a : Answer). a.reply) answer_17; locked = granted-holds no_locks ((Leaf (OwnerOf (codes "ann")), Write) ∷ []) },
))
    (subst (λ (s : State). DoLivesAgree s.holder.lives) (sym same_18) (alone ts js third at_18 known_18 refl))
    ((refl, refl), tt) (tt, tt) tt (refl, refl) tt

abbrev finished_18 : State
finished_18 = state_deed at_18 (Finishes third)

abbrev at_19 : State
at_19 = next at_18 (entry 18)

known_19 : Only ts js at_19
known_19 = only_next ts js at_18 (entry 18) refl known_18

entry_18 : IsLawfulEntry at_18 (entry 18)
entry_18 = by_laws at_18 (entry 18) refl refl refl (
  finishes (event_of 18) at_18 third,
  then_released ts js finished_18 (only_deed ts js at_18 known_18 (Finishes third) refl) (event_of 18) (Decides third_stamp []) third refl refl refl ((λ h. h), tt)
      (decides (event_of 18) finished_18 third_stamp []
      (record { client = 1; votes = []; asked = refl; own = refl; now = refl; finishing = refl; voted = refl; time = refl; idle = no_file_call (waiting_of finished_18.desk 1 third) refl; live = (life_at finished_18 third, lives_there finished_18 third refl, refl) })),
)
    (alone ts js third at_19 known_19 refl)
    ((refl, refl), tt) (tt, (tt, tt)) ([], refl, (does third_stamp (set_done third 8), refl)) (refl, refl) tt

abbrev at_20 : State
at_20 = next at_19 (entry 19)

known_20 : Only ts js at_20
known_20 = only_next ts js at_19 (entry 19) refl known_19

-- the frame comes again, and once more
entry_19 : IsLawfulEntry at_19 (entry 19)
entry_19 = by_laws at_19 (entry 19) refl refl (refl, refl) tt
    (alone ts js third at_20 known_20 refl)
    ((refl, refl), tt) tt tt (refl, refl) tt

abbrev at_21 : State
at_21 = next at_20 (entry 20)

known_21 : Only ts js at_21
known_21 = only_next ts js at_20 (entry 20) refl known_20

entry_20 : IsLawfulEntry at_20 (entry 20)
entry_20 = by_laws at_20 (entry 20) refl refl (refl, refl) tt
    (alone ts js third at_21 known_21 refl)
    ((refl, refl), tt) tt tt (refl, refl) tt

abbrev at_22 : State
at_22 = next at_21 (entry 21)

known_22 : Only ts js at_22
known_22 = only_next ts js at_21 (entry 21) refl known_21

entry_21 : IsLawfulEntry at_21 (entry 21)
entry_21 = by_laws at_21 (entry 21) refl refl refl (
  acknowledges (event_of 21) at_21 trans join,
  (forgets (event_of 21) (state_deed at_21 (Acknowledges trans join)) trans (record { from = 2; join = join; stamp = stamp; joins = join ∷ []; before = []; told = refl; committed = refl; its = refl; missing = refl; all = refl }), tt),
)
    (alone ts js third at_22 known_22 refl)
    ((refl, refl), tt) (tt, tt) tt (refl, refl) tt

from_18 : Along next IsLawfulEntry at_18 (drop 18 one)
from_18 = (entry_18, (entry_19, (entry_20, (entry_21, tt))))

from_14 : Along next IsLawfulEntry at_14 (drop 14 one)
from_14 = (entry_14, (entry_15, (entry_16, (entry_17, subst (λ (s : State). Along next IsLawfulEntry s (drop 18 one)) (sym same_18) from_18))))

from_3 : Along next IsLawfulEntry at_3 (drop 3 one)
from_3 = (entry_3, (entry_4, (entry_5, (entry_6, (entry_7, (entry_8, (entry_9, (entry_10, (entry_11, (entry_12, (entry_13, subst (λ (s : State). Along next IsLawfulEntry s (drop 14 one)) (sym same_14) from_14)))))))))))

-- up to the first vote, and up to the question for its own
pub up_to_vote : IsLawful (opening 1) (take 5 one)
up_to_vote = (entry_0, (entry_1, (entry_2, subst (λ (s : State). Along next IsLawfulEntry s (drop 3 (take 5 one))) (sym same_3) (entry_3, (entry_4, tt)))))

pub up_to_question : IsLawful (opening 1) (take 14 one)
up_to_question = (
  entry_0,
  (
    entry_1,
    (
      entry_2,
      subst (λ (s : State). Along next IsLawfulEntry s (drop 3 (take 14 one))) (sym same_3)
          (entry_3, (entry_4, (entry_5, (entry_6, (entry_7, (entry_8, (entry_9, (entry_10, (entry_11, (entry_12, (entry_13, tt))))))))))),
    ),
  ),
)

pub lawful : IsLawful (opening 1) one
lawful = (entry_0, (entry_1, (entry_2, subst (λ (s : State). Along next IsLawfulEntry s (drop 3 one)) (sym same_3) from_3)))

last : state_after next (opened (opening 1)) one ≡ at_22
last = ap (λ (s : State). state_after next s (drop 3 one)) same_3 ∙ ap (λ (s : State). state_after next s (drop 14 one)) same_14 ∙ ap (λ (s : State). state_after next s (drop 18 one)) same_18

pub cells_last : (state_after next (opened (opening 1)) one).holder.cells ≡ with_quota 8
cells_last =
    ap (λ (s : State). s.holder.cells) last
    ∙ put_quota (map.insert (with_quota 9) ann (cell.Owner (owner_with 5))) 5 8 (put_quota (with_quota 9) 9 5 refl)
