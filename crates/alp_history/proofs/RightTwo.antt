-- the journal of server 2 in the right log is lawful
use Rattle.std.specs.FinMap as map
use Rattle.std.specs.Prelude.{codes, unwrap_or, slice_get, drop}
use Rattle.std.specs.FinMap.{get-insert}
use Rattle.std.proofs.Common.{◌≡◌, ℕ, List, [], ◌∷◌, ◌++◌, refl, sym, ap, subst, ◌∙◌, inl, inr}
use Rattle.alp_base.specs.KeyLaws.{keys_total}
use Rattle.alp_base.specs.declared.ids.JoinNo.{JoinNo}
use Rattle.alp_base.specs.declared.ids.TransId.{TransId}
use Rattle.alp_base.specs.declared.key.Key.TheVariants.{OwnerOf}
use Rattle.alp_base.specs.declared.key.Resource.TheVariants.{Leaf}
use Rattle.alp_modes.specs.declared.Mode.TheVariants.{Write}
use Rattle.alp_files.specs.Edits.{Put}
use Rattle.alp_files.specs.Act.{Answer, no_opens, replied}
use Rattle.alp_files.proofs.CoverLemmas.{granted-holds}
use Rattle.alp_journal.specs.declared.event.Event.{Event}
use Rattle.alp_journal.specs.declared.entry.Entry.{Entry}
use Rattle.alp_journal.specs.Along.{Along, state_after}
use Rattle.alp_journal.specs.Deeds.{Grants, Hears, Decides, Applies, Acknowledges}
use Rattle.alp_journal.specs.Holder.{no_locks, answer_in}
use Rattle.alp_journal.specs.State.{State, opened, state_deed}
use Rattle.alp_journal.specs.Moves.{next}
use Rattle.alp_journal.specs.Laws.{IsLawfulEntry, IsLawful, DoLivesAgree}
use Rattle.alp_history.specs.Examples.{trans, join, stamp}
use Rattle.alp_history.specs.RightLog.{owner_with, with_quota, opening, second, second_join, second_stamp, sets, hello, set_done, two_votes, two}
use Rattle.alp_history.proofs.Worked.{life_at}
use Rattle.alp_history.proofs.Quotas.{ann, quota_seen, put_quota}
use Rattle.alp_history.proofs.Owners.{set}
use Rattle.alp_history.proofs.Steps.{lives_there, performed, closed, call_next}
use Rattle.alp_history.proofs.Named.{Only, only_deed, only_next, alone}
use Rattle.alp_history.proofs.NamedEnds.{ready_found, stamps_found, no_file_call}
use Rattle.alp_journal.specs.Desk.{waiting_of}
use Rattle.alp_history.proofs.LawfulDeeds.{begins, joins, enters, readies, applies, registers, finishes, hears, decides, acknowledges, forgets}
use Rattle.alp_history.proofs.LawfulEntries.{by_laws, call_alone, then_released}
use Rattle.alp_base.specs.declared.cell.Cell.TheVariants as cell
use Rattle.alp_files.specs.declared.reply.Reply.TheVariants as reply

abbrev pub ts : List TransId
ts = trans ∷ second ∷ []

abbrev pub js : List JoinNo
js = join ∷ []

abbrev pub entry : ℕ → Entry
entry i = unwrap_or (slice_get two i) (hello 0)

abbrev pub event_of : ℕ → Event
event_of i = (entry i).event

-- the state before each entry; what a call was answered is written out
abbrev pub at_0 : State
at_0 = opened (opening 2)

known_0 : Only ts js at_0
known_0 = record { lives = λ u k. refl; fates = λ u k. refl; phases = λ j k. refl }

abbrev pub at_1 : State
at_1 = next at_0 (entry 0)

known_1 : Only ts js at_1
known_1 = only_next ts js at_0 (entry 0) refl known_0

entry_0 : IsLawfulEntry at_0 (entry 0)
entry_0 = by_laws at_0 (entry 0) refl refl refl tt
    (alone ts js trans at_1 known_1 refl)
    ((refl, refl), tt) tt tt (refl, refl) tt

abbrev pub at_2 : State
at_2 = next at_1 (entry 1)

known_2 : Only ts js at_2
known_2 = only_next ts js at_1 (entry 1) refl known_1

entry_1 : IsLawfulEntry at_1 (entry 1)
entry_1 = by_laws at_1 (entry 1) refl refl refl (joins (event_of 1) at_1 join trans 1 (codes "Admin") (refl, refl), tt)
    (alone ts js trans at_2 known_2 refl)
    ((refl, refl), (tt, tt)) (tt, tt) tt (refl, refl) tt

abbrev pub at_3 : State
at_3 = next at_2 (entry 2)

known_3 : Only ts js at_3
known_3 = only_next ts js at_2 (entry 2) refl known_2

entry_2 : IsLawfulEntry at_2 (entry 2)
entry_2 = by_laws at_2 (entry 2) refl refl refl (enters (event_of 2) at_2 join trans 1 (codes "Admin"), tt)
    (alone ts js trans at_3 known_3 refl)
    ((refl, refl), (tt, tt)) tt tt (refl, refl) tt

abbrev pub at_4 : State
at_4 = next at_3 (entry 3)

known_4 : Only ts js at_4
known_4 = only_next ts js at_3 (entry 3) refl known_3

entry_3 : IsLawfulEntry at_3 (entry 3)
entry_3 = by_laws at_3 (entry 3) refl refl refl tt
    (alone ts js trans at_4 known_4 refl)
    ((refl, refl), tt) tt tt (refl, refl) tt

abbrev pub granted_4 : State
granted_4 = state_deed at_4 (Grants trans (sets trans 5))

answer_4 : answer_in granted_4.holder (life_at granted_4 trans) (set_done trans 5) ≡ replied no_opens reply.Plain (Put (OwnerOf (codes "ann")) (cell.Owner (owner_with 5)) ∷ [])
answer_4 = set granted_4.holder (life_at granted_4 trans) trans 9 5 (record { edits = refl; own = refl; who = refl }) (quota_seen 9)

abbrev pub at_5 : State
at_5 = closed (entry 4) (performed granted_4 trans (set_done trans 5) (life_at granted_4 trans) (replied no_opens reply.Plain (Put (OwnerOf (codes "ann")) (cell.Owner (owner_with 5)) ∷ [])))

same_5 : next at_4 (entry 4) ≡ at_5
same_5 = call_next at_4 (entry 4) trans (sets trans 5) (set_done trans 5) (life_at granted_4 trans) (replied no_opens reply.Plain (Put (OwnerOf (codes "ann")) (cell.Owner (owner_with 5)) ∷ [])) refl refl (lives_there granted_4 trans refl) answer_4

known_5 : Only ts js at_5
known_5 = subst (Only ts js) same_5 (only_next ts js at_4 (entry 4) refl known_4)

entry_4 : IsLawfulEntry at_4 (entry 4)
entry_4 = by_laws at_4 (entry 4) refl refl refl (call_alone ts js at_4 known_4 (event_of 4) trans (sets trans 5) (set_done trans 5) refl refl refl refl refl (inr (join, 1, codes "Admin", refl)) (
  life_at granted_4 trans,
  lives_there granted_4 trans refl,
  record { client = refl; active = refl; formed = (tt, tt, tt); right = ap (λ (a : Answer). a.reply) answer_4; locked = granted-holds no_locks ((Leaf (OwnerOf (codes "ann")), Write) ∷ []) },
))
    (subst (λ (s : State). DoLivesAgree s.holder.lives) (sym same_5) (alone ts js trans at_5 known_5 refl))
    ((refl, refl), tt) (tt, tt) tt (refl, refl) tt

abbrev pub at_6 : State
at_6 = next at_5 (entry 5)

known_6 : Only ts js at_6
known_6 = only_next ts js at_5 (entry 5) refl known_5

entry_5 : IsLawfulEntry at_5 (entry 5)
entry_5 = by_laws at_5 (entry 5) refl refl refl (readies (event_of 5) at_5 join trans 1 (record { from = 1; client = 1; who = codes "Admin"; asked = refl; active = refl; idle = refl; time = refl; live = (life_at at_5 trans, lives_there at_5 trans refl, refl) }), tt)
    (alone ts js trans at_6 known_6 refl)
    ((refl, refl), tt) (tt, ((1, refl), tt)) tt (refl, refl) tt

abbrev pub at_7 : State
at_7 = next at_6 (entry 6)

pub known_7 : Only ts js at_7
known_7 = only_next ts js at_6 (entry 6) refl known_6

entry_6 : IsLawfulEntry at_6 (entry 6)
entry_6 = by_laws at_6 (entry 6) refl refl refl tt
    (alone ts js trans at_7 known_7 refl)
    tt (tt, tt) tt ((refl, record { clock = refl; once = refl; ready = ready_found ts js (at_6) (known_6) (join ∷ []) refl (refl, tt); decided = stamps_found ts js (at_6) (known_6) ([]) refl ((λ n. refl), ((λ n. refl), tt)) }), refl) tt

abbrev at_8 : State
at_8 = next at_7 (entry 7)

known_8 : Only ts js at_8
known_8 = only_next ts js at_7 (entry 7) refl known_7

entry_7 : IsLawfulEntry at_7 (entry 7)
entry_7 = by_laws at_7 (entry 7) refl refl refl (then_released ts js at_7 known_7 (event_of 7) (Applies join stamp) trans refl refl refl ((λ h. h), tt)
    (applies (event_of 7) at_7 join stamp (record { from = 1; client = 1; ts = 1; told = refl; ready = refl; elsewhere = refl; live = (life_at at_7 trans, lives_there at_7 trans refl, refl) })))
    (alone ts js trans at_8 known_8 refl)
    ((refl, refl), tt) (tt, (tt, ((1, stamp, refl, refl, refl), tt))) tt (refl, refl) tt

abbrev at_9 : State
at_9 = next at_8 (entry 8)

known_9 : Only ts js at_9
known_9 = only_next ts js at_8 (entry 8) refl known_8

entry_8 : IsLawfulEntry at_8 (entry 8)
entry_8 = by_laws at_8 (entry 8) refl refl refl tt
    (alone ts js trans at_9 known_9 refl)
    ((refl, refl), tt) tt tt (refl, refl) tt

abbrev at_10 : State
at_10 = next at_9 (entry 9)

known_10 : Only ts js at_10
known_10 = only_next ts js at_9 (entry 9) refl known_9

entry_9 : IsLawfulEntry at_9 (entry 9)
entry_9 = by_laws at_9 (entry 9) refl refl refl (begins (event_of 9) at_9 second 1 (codes "Admin") 0 refl, tt)
    (alone ts js second at_10 known_10 refl)
    ((refl, refl), tt) (tt, tt) tt (refl, refl) tt

abbrev granted_10 : State
granted_10 = state_deed at_10 (Grants second (sets second 7))

answer_10 : answer_in granted_10.holder (life_at granted_10 second) (set_done second 7) ≡ replied no_opens reply.Plain (Put (OwnerOf (codes "ann")) (cell.Owner (owner_with 7)) ∷ [])
answer_10 = set granted_10.holder (life_at granted_10 second) second 5 7 (record { edits = refl; own = refl; who = refl }) (get-insert keys_total (with_quota 9) ann (cell.Owner (owner_with 5)) ann)

abbrev at_11 : State
at_11 = closed (entry 10) (performed granted_10 second (set_done second 7) (life_at granted_10 second) (replied no_opens reply.Plain (Put (OwnerOf (codes "ann")) (cell.Owner (owner_with 7)) ∷ [])))

same_11 : next at_10 (entry 10) ≡ at_11
same_11 = call_next at_10 (entry 10) second (sets second 7) (set_done second 7) (life_at granted_10 second) (replied no_opens reply.Plain (Put (OwnerOf (codes "ann")) (cell.Owner (owner_with 7)) ∷ [])) refl refl (lives_there granted_10 second refl) answer_10

known_11 : Only ts js at_11
known_11 = subst (Only ts js) same_11 (only_next ts js at_10 (entry 10) refl known_10)

entry_10 : IsLawfulEntry at_10 (entry 10)
entry_10 = by_laws at_10 (entry 10) refl refl refl (call_alone ts js at_10 known_10 (event_of 10) second (sets second 7) (set_done second 7) refl refl refl refl refl (inl refl) (
  life_at granted_10 second,
  lives_there granted_10 second refl,
  record { client = refl; active = refl; formed = (tt, tt, tt); right = ap (λ (a : Answer). a.reply) answer_10; locked = granted-holds no_locks ((Leaf (OwnerOf (codes "ann")), Write) ∷ []) },
))
    (subst (λ (s : State). DoLivesAgree s.holder.lives) (sym same_11) (alone ts js second at_11 known_11 refl))
    ((refl, refl), tt) (tt, tt) tt (refl, refl) tt

abbrev at_12 : State
at_12 = next at_11 (entry 11)

known_12 : Only ts js at_12
known_12 = only_next ts js at_11 (entry 11) refl known_11

entry_11 : IsLawfulEntry at_11 (entry 11)
entry_11 = by_laws at_11 (entry 11) refl refl refl (registers (event_of 11) at_11 second second_join (record { from = 1; client = 1; joins = []; asked = refl; runs = refl; first = refl; elsewhere = refl }), tt)
    (alone ts js second at_12 known_12 refl)
    ((refl, refl), tt) (tt, (refl, tt)) tt (refl, refl) tt

abbrev at_13 : State
at_13 = next at_12 (entry 12)

known_13 : Only ts js at_13
known_13 = only_next ts js at_12 (entry 12) refl known_12

entry_12 : IsLawfulEntry at_12 (entry 12)
entry_12 = by_laws at_12 (entry 12) refl refl refl (finishes (event_of 12) at_12 second, tt)
    (alone ts js second at_13 known_13 refl)
    ((refl, refl), (tt, tt)) (tt, tt) tt (refl, refl) tt

abbrev heard_13 : State
heard_13 = state_deed at_13 (Hears second second_join 2)

abbrev at_14 : State
at_14 = next at_13 (entry 13)

known_14 : Only ts js at_14
known_14 = only_next ts js at_13 (entry 13) refl known_13

entry_13 : IsLawfulEntry at_13 (entry 13)
entry_13 = by_laws at_13 (entry 13) refl refl refl (
  hears (event_of 13) at_13 second second_join 2,
  then_released ts js heard_13 (only_deed ts js at_13 known_13 (Hears second second_join 2) refl) (event_of 13) (Decides second_stamp (second_join ∷ [])) second refl refl refl ((λ h. h), tt)
      (decides (event_of 13) heard_13 second_stamp (second_join ∷ [])
      (record { client = 1; votes = (second_join, 2) ∷ []; asked = refl; own = refl; now = refl; finishing = refl; voted = refl; time = refl; idle = no_file_call (waiting_of heard_13.desk 1 second) refl; live = (life_at heard_13 second, lives_there heard_13 second refl, refl) })),
)
    (alone ts js second at_14 known_14 refl)
    ((refl, refl), (tt, tt)) (tt, (tt, ((refl, refl), tt))) tt (refl, refl) tt

abbrev at_15 : State
at_15 = next at_14 (entry 14)

known_15 : Only ts js at_15
known_15 = only_next ts js at_14 (entry 14) refl known_14

entry_14 : IsLawfulEntry at_14 (entry 14)
entry_14 = by_laws at_14 (entry 14) refl refl refl (
  acknowledges (event_of 14) at_14 second second_join,
  (forgets (event_of 14) (state_deed at_14 (Acknowledges second second_join)) second (record { from = 1; join = second_join; stamp = second_stamp; joins = second_join ∷ []; before = []; told = refl; committed = refl; its = refl; missing = refl; all = refl }), tt),
)
    (alone ts js second at_15 known_15 refl)
    ((refl, refl), (tt, tt)) (tt, tt) tt (refl, refl) tt

abbrev at_16 : State
at_16 = next at_15 (entry 15)

known_16 : Only ts js at_16
known_16 = only_next ts js at_15 (entry 15) refl known_15

entry_15 : IsLawfulEntry at_15 (entry 15)
entry_15 = by_laws at_15 (entry 15) refl refl refl tt
    (alone ts js second at_16 known_16 refl)
    ((refl, refl), (tt, tt)) tt tt (refl, refl) tt

abbrev at_17 : State
at_17 = next at_16 (entry 16)

known_17 : Only ts js at_17
known_17 = only_next ts js at_16 (entry 16) refl known_16

entry_16 : IsLawfulEntry at_16 (entry 16)
entry_16 = by_laws at_16 (entry 16) refl refl refl tt
    (alone ts js second at_17 known_17 refl)
    ((refl, refl), (tt, tt)) ((1, stamp, refl, refl, refl), tt) tt (refl, refl) tt

from_11 : Along next IsLawfulEntry at_11 (drop 11 two)
from_11 = (entry_11, (entry_12, (entry_13, (entry_14, (entry_15, (entry_16, tt))))))

-- what may follow once it voted and started again
pub voted_then : (rest : List Entry) → Along next IsLawfulEntry at_7 rest → IsLawful (opening 2) (two_votes ++ rest)
voted_then rest h = (entry_0, (entry_1, (entry_2, (entry_3, (entry_4, subst (λ (s : State). Along next IsLawfulEntry s (entry 5 ∷ entry 6 ∷ rest)) (sym same_5) (entry_5, (entry_6, h)))))))

pub lawful : IsLawful (opening 2) two
lawful = voted_then (drop 7 two) (entry_7, (entry_8, (entry_9, (entry_10, subst (λ (s : State). Along next IsLawfulEntry s (drop 11 two)) (sym same_11) from_11))))

last : state_after next (opened (opening 2)) two ≡ at_17
last = ap (λ (s : State). state_after next s (drop 5 two)) same_5 ∙ ap (λ (s : State). state_after next s (drop 11 two)) same_11

pub cells_last : (state_after next (opened (opening 2)) two).holder.cells ≡ with_quota 7
cells_last =
    ap (λ (s : State). s.holder.cells) last
    ∙ put_quota (map.insert (with_quota 9) ann (cell.Owner (owner_with 5))) 5 7 (put_quota (with_quota 9) 9 5 refl)
