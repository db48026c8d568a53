-- the journal of server 2 in the log that goes on is lawful
use Rattle.std.specs.Prelude.{codes, cond, unwrap_or, slice_get, drop, None, Some}
use Rattle.std.specs.FinMap.{get-insert}
use Rattle.std.proofs.Common.{◌≡◌, ℕ, List, [], ◌∷◌, refl, sym, ap, subst, ◌∙◌, inl}
use Rattle.alp_base.specs.KeyLaws.{keys_total}
use Rattle.alp_base.specs.declared.ids.JoinNo.{JoinNo}
use Rattle.alp_base.specs.declared.ids.TransId.{TransId}
use Rattle.alp_base.specs.declared.key.Key.TheVariants.{OwnerOf}
use Rattle.alp_base.specs.declared.key.Resource.TheVariants.{Leaf}
use Rattle.alp_modes.specs.declared.Mode.TheVariants.{Read}
use Rattle.alp_files.specs.Act.{Answer, no_opens, replied}
use Rattle.alp_files.proofs.CoverLemmas.{granted-holds}
use Rattle.alp_journal.specs.declared.event.Event.{Event}
use Rattle.alp_journal.specs.declared.entry.Entry.{Entry}
use Rattle.alp_journal.specs.Along.{Along, state_after}
use Rattle.alp_journal.specs.Deeds.{Grants, Decides, Applies, Finishes}
use Rattle.alp_journal.specs.Participant.{Ready, Unseen}
use Rattle.alp_journal.specs.Holder.{no_locks, answer_in, early_life}
use Rattle.alp_journal.specs.Desk.{waiting_of}
use Rattle.alp_journal.specs.State.{State, opened, state_deed}
use Rattle.alp_journal.specs.Moves.{next}
use Rattle.alp_journal.specs.Laws.{IsLawfulEntry, IsLawful, DoLivesAgree}
use Rattle.alp_history.specs.Examples.{trans, join, stamp}
use Rattle.alp_history.specs.RightLog.{owner_with, with_quota, reads, found_done, does}
use Rattle.alp_history.specs.RightJournals.{hello, afterwards}
use Rattle.alp_history.specs.ResumedLog.{opening_two, left_ready, reading_stamp, resumed_two}
use Rattle.alp_history.proofs.Worked.{life_at}
use Rattle.alp_history.proofs.Quotas.{ann, put_quota}
use Rattle.alp_history.proofs.Owners.{found}
use Rattle.alp_history.proofs.Steps.{lives_there, performed, closed, call_next}
use Rattle.alp_history.proofs.Named.{Only, only_deed, only_next, alone, apart, apart_join}
use Rattle.alp_history.proofs.NamedEnds.{no_file_call}
use Rattle.alp_history.proofs.LawfulDeeds.{begins, applies, finishes, decides}
use Rattle.alp_history.proofs.LawfulEntries.{by_laws, call_alone, then_released}
use Rattle.alp_base.specs.declared.cell.Cell.TheVariants as cell
use Rattle.alp_files.specs.declared.reply.Reply.TheVariants as reply

abbrev ts : List TransId
ts = trans ∷ afterwards ∷ []

abbrev js : List JoinNo
js = join ∷ []

abbrev entry : ℕ → Entry
entry i = unwrap_or (slice_get resumed_two i) (hello 1 0)

abbrev event_of : ℕ → Event
event_of i = (entry i).event

-- the state before each entry; what a call was answered is written out
abbrev at_0 : State
at_0 = opened opening_two

known_0 : Only ts js at_0
known_0 = record { lives = λ u k. ap (λ b. cond b (Some (early_life left_ready)) None) (apart ts js trans u refl k); fates = λ u k. refl; phases = λ j k. ap (λ b. cond b (Ready trans 1 1) Unseen) (apart_join ts js join j refl k) }

abbrev at_1 : State
at_1 = next at_0 (entry 0)

known_1 : Only ts js at_1
known_1 = only_next ts js at_0 (entry 0) refl known_0

entry_0 : IsLawfulEntry at_0 (entry 0)
entry_0 = by_laws at_0 (entry 0) refl refl refl tt
    (alone ts js trans at_1 known_1 refl)
    ((refl, refl), tt) (tt, tt) tt (refl, refl) tt

abbrev at_2 : State
at_2 = next at_1 (entry 1)

known_2 : Only ts js at_2
known_2 = only_next ts js at_1 (entry 1) refl known_1

entry_1 : IsLawfulEntry at_1 (entry 1)
entry_1 = by_laws at_1 (entry 1) refl refl refl (then_released ts js at_1 known_1 (event_of 1) (Applies join stamp) trans refl refl refl ((λ h. h), tt)
    (applies (event_of 1) at_1 join stamp (record { from = 1; client = 1; ts = 1; told = refl; ready = refl; elsewhere = refl; live = (life_at at_1 trans, lives_there at_1 trans refl, refl) })))
    (alone ts js trans at_2 known_2 refl)
    ((refl, refl), tt) (tt, (tt, ((1, stamp, refl, refl, refl), tt))) tt (refl, refl) tt

abbrev at_3 : State
at_3 = next at_2 (entry 2)

known_3 : Only ts js at_3
known_3 = only_next ts js at_2 (entry 2) refl known_2

entry_2 : IsLawfulEntry at_2 (entry 2)
entry_2 = by_laws at_2 (entry 2) refl refl refl tt
    (alone ts js trans at_3 known_3 refl)
    ((refl, refl), tt) tt tt (refl, refl) tt

abbrev at_4 : State
at_4 = next at_3 (entry 3)

known_4 : Only ts js at_4
known_4 = only_next ts js at_3 (entry 3) refl known_3

entry_3 : IsLawfulEntry at_3 (entry 3)
entry_3 = by_laws at_3 (entry 3) refl refl refl (begins (event_of 3) at_3 afterwards 1 (codes "Admin") 0 refl, tt)
    (alone ts js afterwards at_4 known_4 refl)
    ((refl, refl), tt) (tt, tt) tt (refl, refl) tt

abbrev granted_4 : State
granted_4 = state_deed at_4 (Grants afterwards (reads afterwards))

answer_4 : answer_in granted_4.holder (life_at granted_4 afterwards) (found_done afterwards 5) ≡ replied no_opens (reply.Owner (owner_with 5)) []
answer_4 = found granted_4.holder (life_at granted_4 afterwards) afterwards 5 (record { edits = refl; own = refl; who = refl }) (get-insert keys_total (with_quota 9) ann (cell.Owner (owner_with 5)) ann)

abbrev at_5 : State
at_5 = closed (entry 4) (performed granted_4 afterwards (found_done afterwards 5) (life_at granted_4 afterwards) (replied no_opens (reply.Owner (owner_with 5)) []))

same_5 : next at_4 (entry 4) ≡ at_5
same_5 = call_next at_4 (entry 4) afterwards (reads afterwards) (found_done afterwards 5) (life_at granted_4 afterwards) (replied no_opens (reply.Owner (owner_with 5)) []) refl refl (lives_there granted_4 afterwards refl) answer_4

known_5 : Only ts js at_5
known_5 = subst (Only ts js) same_5 (only_next ts js at_4 (entry 4) refl known_4)

entry_4 : IsLawfulEntry at_4 (entry 4)
entry_4 = by_laws at_4 (entry 4) refl refl refl (call_alone ts js at_4 known_4 (event_of 4) afterwards (reads afterwards) (found_done afterwards 5) refl refl refl refl refl (inl refl) (
  life_at granted_4 afterwards,
  lives_there granted_4 afterwards refl,
  record { client = refl; active = refl; formed = (tt, tt, tt); right = ap (λ (a : Answer). a.reply) answer_4; locked = granted-holds no_locks ((Leaf (OwnerOf (codes "ann")), Read) ∷ []) },
))
    (subst (λ (s : State). DoLivesAgree s.holder.lives) (sym same_5) (alone ts js afterwards at_5 known_5 refl))
    ((refl, refl), tt) (tt, tt) tt (refl, refl) tt

abbrev finished_5 : State
finished_5 = state_deed at_5 (Finishes afterwards)

abbrev at_6 : State
at_6 = next at_5 (entry 5)

known_6 : Only ts js at_6
known_6 = only_next ts js at_5 (entry 5) refl known_5

entry_5 : IsLawfulEntry at_5 (entry 5)
entry_5 = by_laws at_5 (entry 5) refl refl refl (
  finishes (event_of 5) at_5 afterwards,
  then_released ts js finished_5 (only_deed ts js at_5 known_5 (Finishes afterwards) refl) (event_of 5) (Decides reading_stamp []) afterwards refl refl refl ((λ h. h), tt)
      (decides (event_of 5) finished_5 reading_stamp []
      (record { client = 1; votes = []; asked = refl; own = refl; now = refl; finishing = refl; voted = refl; time = refl; idle = no_file_call (waiting_of finished_5.desk 1 afterwards) refl; live = (life_at finished_5 afterwards, lives_there finished_5 afterwards refl, refl) })),
)
    (alone ts js afterwards at_6 known_6 refl)
    ((refl, refl), tt) (tt, (tt, tt)) ([], refl, (does reading_stamp (found_done afterwards 5), refl)) (refl, refl) tt

from_5 : Along next IsLawfulEntry at_5 (drop 5 resumed_two)
from_5 = (entry_5, tt)

pub lawful : IsLawful opening_two resumed_two
lawful = (entry_0, (entry_1, (entry_2, (entry_3, (entry_4, subst (λ (s : State). Along next IsLawfulEntry s (drop 5 resumed_two)) (sym same_5) from_5)))))

last : state_after next (opened opening_two) resumed_two ≡ at_6
last = ap (λ (s : State). state_after next s (drop 5 resumed_two)) same_5

pub cells_last : (state_after next (opened opening_two) resumed_two).holder.cells ≡ with_quota 5
cells_last = ap (λ (s : State). s.holder.cells) last ∙ put_quota (with_quota 9) 9 5 refl
