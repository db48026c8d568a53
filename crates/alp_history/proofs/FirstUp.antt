-- server 1 as it begins a transaction that makes an owner, lets another server's join in, and is finished: it is lawful, whatever
-- lawful entries follow
use Rattle.std.specs.FinMap as map
use Rattle.std.specs.Prelude.{codes, unwrap_or, slice_get, take}
use Rattle.std.proofs.Common.{◌≡◌, ℕ, List, [], ◌∷◌, ◌++◌, refl, sym, ap, subst, inl}
use Rattle.alp_base.specs.Keys.{key_cmp}
use Rattle.alp_base.specs.declared.ids.JoinNo.{JoinNo}
use Rattle.alp_base.specs.declared.ids.TransId.{TransId}
use Rattle.alp_base.specs.declared.key.Key.TheVariants.{OwnerOf}
use Rattle.alp_base.specs.declared.key.Resource.TheVariants.{Leaf}
use Rattle.alp_modes.specs.declared.Mode.TheVariants.{Write}
use Rattle.alp_files.specs.Edits.{Put}
use Rattle.alp_files.specs.Act.{Answer, no_opens, replied}
use Rattle.alp_files.proofs.CoverLemmas.{granted-holds}
use Rattle.alp_journal.specs.declared.event.Event.{Event}
use Rattle.alp_journal.specs.declared.entry.Entry.{Entry}
use Rattle.alp_journal.specs.Along.{Along}
use Rattle.alp_journal.specs.Deeds.{Grants}
use Rattle.alp_journal.specs.Holder.{no_locks, answer_in}
use Rattle.alp_journal.specs.State.{State, opened, state_deed}
use Rattle.alp_journal.specs.Moves.{next}
use Rattle.alp_journal.specs.Laws.{IsLawfulEntry, IsLawful, DoLivesAgree}
use Rattle.alp_history.specs.Examples.{trans, join, new, first_up}
use Rattle.alp_history.specs.RightLog.{owner_with}
use Rattle.alp_history.specs.RightJournals.{hello, makes, made_done}
use Rattle.alp_history.proofs.Worked.{life_at}
use Rattle.alp_history.proofs.Quotas.{ann}
use Rattle.alp_history.proofs.Owners.{made}
use Rattle.alp_history.proofs.Steps.{lives_there, performed, closed, call_next}
use Rattle.alp_history.proofs.Named.{Only, only_next, alone}
use Rattle.alp_history.proofs.LawfulDeeds.{begins, registers, finishes}
use Rattle.alp_history.proofs.LawfulEntries.{by_laws, call_alone}
use Rattle.alp_base.specs.declared.cell.Cell.TheVariants as cell
use Rattle.alp_files.specs.declared.reply.Reply.TheVariants as reply

abbrev entry : ℕ → Entry
entry i = unwrap_or (slice_get first_up i) (hello 1 0)

abbrev event_of : ℕ → Event
event_of i = (entry i).event

-- the state before each entry; what a call was answered is written out
abbrev pub at_0 : State
at_0 = opened (new 1)

abbrev pub at_1 : State
at_1 = next at_0 (entry 0)

abbrev pub at_2 : State
at_2 = next at_1 (entry 1)

abbrev pub granted_2 : State
granted_2 = state_deed at_2 (Grants trans (makes trans 9))

answer_2 : answer_in granted_2.holder (life_at granted_2 trans) (made_done trans 9) ≡ replied no_opens reply.Plain (Put (OwnerOf (codes "ann")) (cell.Owner (owner_with 9)) ∷ [])
answer_2 = made granted_2.holder (life_at granted_2 trans) trans 9 (record { edits = refl; own = refl; who = refl }) (map.get-empty key_cmp ann)

abbrev pub at_3 : State
at_3 = closed (entry 2) (performed granted_2 trans (made_done trans 9) (life_at granted_2 trans) (replied no_opens reply.Plain (Put (OwnerOf (codes "ann")) (cell.Owner (owner_with 9)) ∷ [])))

pub same_3 : next at_2 (entry 2) ≡ at_3
same_3 = call_next at_2 (entry 2) trans (makes trans 9) (made_done trans 9) (life_at granted_2 trans) (replied no_opens reply.Plain (Put (OwnerOf (codes "ann")) (cell.Owner (owner_with 9)) ∷ [])) refl refl (lives_there granted_2 trans refl) answer_2

abbrev pub at_4 : State
at_4 = next at_3 (entry 3)

abbrev pub at_5 : State
at_5 = next at_4 (entry 4)

abbrev pub at_6 : State
at_6 = next at_5 (entry 5)

-- and knows of no others than it names
module _ (more : List TransId) (js : List JoinNo) where
  pub known_0 : Only (trans ∷ more) js at_0
  known_0 = record { lives = λ u k. refl; fates = λ u k. refl; phases = λ j k. refl }

  pub known_1 : Only (trans ∷ more) js at_1
  known_1 = only_next (trans ∷ more) js at_0 (entry 0) refl known_0

  pub known_2 : Only (trans ∷ more) js at_2
  known_2 = only_next (trans ∷ more) js at_1 (entry 1) refl known_1

  pub known_3 : Only (trans ∷ more) js at_3
  known_3 = subst (Only (trans ∷ more) js) same_3 (only_next (trans ∷ more) js at_2 (entry 2) refl known_2)

  pub known_4 : Only (trans ∷ more) js at_4
  known_4 = only_next (trans ∷ more) js at_3 (entry 3) refl known_3

  pub known_5 : Only (trans ∷ more) js at_5
  known_5 = only_next (trans ∷ more) js at_4 (entry 4) refl known_4

  pub known_6 : Only (trans ∷ more) js at_6
  known_6 = only_next (trans ∷ more) js at_5 (entry 5) refl known_5

pub entry_0 : IsLawfulEntry at_0 (entry 0)
entry_0 = by_laws at_0 (entry 0) refl refl refl tt
    (alone (trans ∷ []) [] trans at_1 (known_1 [] []) refl)
    ((refl, refl), tt) tt tt (refl, refl) tt

pub entry_1 : IsLawfulEntry at_1 (entry 1)
entry_1 = by_laws at_1 (entry 1) refl refl refl (begins (event_of 1) at_1 trans 1 (codes "Admin") 0 refl, tt)
    (alone (trans ∷ []) [] trans at_2 (known_2 [] []) refl)
    ((refl, refl), tt) (tt, tt) tt (refl, refl) tt

pub entry_2 : IsLawfulEntry at_2 (entry 2)
entry_2 = by_laws at_2 (entry 2) refl refl refl (call_alone (trans ∷ []) [] at_2 (known_2 [] []) (event_of 2) trans (makes trans 9) (made_done trans 9) refl refl refl refl refl (inl refl) (
  life_at granted_2 trans,
  lives_there granted_2 trans refl,
  record { client = refl; active = refl; formed = (tt, tt, tt); right = ap (λ (a : Answer). a.reply) answer_2; locked = granted-holds no_locks ((Leaf (OwnerOf (codes "ann")), Write) ∷ []) },
))
    (subst (λ (s : State). DoLivesAgree s.holder.lives) (sym same_3) (alone (trans ∷ []) [] trans at_3 (known_3 [] []) refl))
    ((refl, refl), tt) (tt, tt) tt (refl, refl) tt

pub entry_3 : IsLawfulEntry at_3 (entry 3)
entry_3 = by_laws at_3 (entry 3) refl refl refl (registers (event_of 3) at_3 trans join (record { from = 2; client = 1; joins = []; asked = refl; runs = refl; first = refl; elsewhere = refl }), tt)
    (alone (trans ∷ []) [] trans at_4 (known_4 [] []) refl)
    ((refl, refl), tt) (tt, (refl, tt)) tt (refl, refl) tt

pub entry_4 : IsLawfulEntry at_4 (entry 4)
entry_4 = by_laws at_4 (entry 4) refl refl refl (finishes (event_of 4) at_4 trans, tt)
    (alone (trans ∷ []) [] trans at_5 (known_5 [] []) refl)
    ((refl, refl), (tt, tt)) (tt, tt) tt (refl, refl) tt

pub entry_5 : IsLawfulEntry at_5 (entry 5)
entry_5 = by_laws at_5 (entry 5) refl refl refl tt
    (alone (trans ∷ []) [] trans at_6 (known_6 [] []) refl)
    ((refl, refl), (tt, tt)) tt tt (refl, refl) tt

-- what may follow: once the owner is made, once it is finished, and once a call is refused for that
pub owner_then : (rest : List Entry) → Along next IsLawfulEntry at_3 rest → IsLawful (new 1) (take 3 first_up ++ rest)
owner_then rest h = (entry_0, (entry_1, (entry_2, subst (λ (s : State). Along next IsLawfulEntry s rest) (sym same_3) h)))

pub finish_then : (rest : List Entry) → Along next IsLawfulEntry at_5 rest → IsLawful (new 1) (take 5 first_up ++ rest)
finish_then rest h = owner_then (entry 3 ∷ entry 4 ∷ rest) (entry_3, (entry_4, h))

pub first_up_then : (rest : List Entry) → Along next IsLawfulEntry at_6 rest → IsLawful (new 1) (first_up ++ rest)
first_up_then rest h = finish_then (entry 5 ∷ rest) (entry_5, h)
