-- the journal of server 1 that makes a file is lawful
use Rattle.std.specs.FinMap as map
use Rattle.std.specs.Prelude.{codes, cond, unwrap_or, slice_get, Option, None, Some}
use Rattle.std.specs.FinMap.{get-insert}
use Rattle.std.proofs.Common.{◌≡◌, ℕ, ◌≤◌, List, [], ◌∷◌, ◌++◌, refl, sym, ap, ◌∙◌, inl, arith}
use Rattle.alp_base.specs.Keys.{key_cmp}
use Rattle.alp_base.specs.KeyLaws.{keys_total}
use Rattle.alp_base.specs.declared.ids.JoinNo.{JoinNo}
use Rattle.alp_base.specs.declared.ids.TransId.{TransId}
use Rattle.alp_base.specs.declared.key.Key.TheVariants.{Leader, OwnerOf}
use Rattle.alp_base.specs.declared.key.Resource.TheVariants.{Leaf}
use Rattle.alp_base.specs.declared.choices.Choice.TheVariants as choice
use Rattle.alp_modes.specs.declared.Mode.TheVariants.{Write}
use Rattle.alp_base.specs.declared.cell.Cell.{Cell}
use Rattle.alp_base.specs.declared.cell.Cell.TheVariants as cell
use Rattle.alp_files.specs.declared.call.Call.{Call}
use Rattle.alp_files.specs.declared.call.Call.TheVariants as call
use Rattle.alp_files.specs.declared.reply.Reply.TheVariants as reply
use Rattle.alp_files.specs.Act.{Answer, no_opens, no_answer, unless, owner_of, create_tests, created_file, is_new}
use Rattle.alp_files.specs.Locks.{page_limit}
use Rattle.alp_files.specs.History.{PerformedCall}
use Rattle.alp_files.proofs.CoverLemmas.{granted-holds}
use Rattle.alp_journal.specs.declared.event.Event.{Event}
use Rattle.alp_journal.specs.declared.entry.Entry.{Entry}
use Rattle.alp_journal.specs.Deeds.{Grants, Performs}
use Rattle.alp_journal.specs.Holder.{Holder, Life, no_locks, answer_in}
use Rattle.alp_journal.specs.State.{State, opened, state_deed}
use Rattle.alp_journal.specs.Moves.{next}
use Rattle.alp_journal.specs.Laws.{IsLawfulEntry, IsLawful}
use Rattle.alp_history.specs.Examples.{trans}
use Rattle.alp_history.specs.RightLog.{owner_with, opening}
use Rattle.alp_history.specs.WrongJournals.{hello, begun, first_file, start, creates}
use Rattle.alp_history.proofs.Worked.{life_at}
use Rattle.alp_history.proofs.Quotas.{ann, IsFresh, answer_fresh, quota_seen}
use Rattle.alp_history.proofs.Places.{some-same}
use Rattle.alp_history.proofs.Steps.{lives_there}
use Rattle.alp_history.proofs.Named.{Only, only_deed, only_next, alone}
use Rattle.alp_history.proofs.LawfulDeeds.{begins, grants, performs_so}
use Rattle.alp_history.proofs.LawfulEntries.{by_laws}

abbrev ts : List TransId
ts = trans ∷ []

abbrev js : List JoinNo
js = []

abbrev entry : ℕ → Entry
entry i = unwrap_or (slice_get (begun ++ creates first_file ∷ []) i) hello

abbrev event_of : ℕ → Event
event_of i = (entry i).event

abbrev make : Call
make = call.CreateFile trans start choice.Fail

abbrev make_done : PerformedCall
make_done = record { call = make; reply = reply.Created first_file 1 }

-- ---- what the call is answered

abbrev create_with : ℕ → Option Cell → Option Cell → Answer
create_with n oc lc = unless no_opens (create_tests (codes "Admin") start oc) (cond (is_new n [] first_file lc) (created_file no_opens start (owner_of oc) first_file) (no_answer no_opens))

no_leader : map.get ((opening 1).cells) (Leader first_file) ≡ None
no_leader = get-insert keys_total map.empty ann (cell.Owner (owner_with 9)) (Leader first_file) ∙ map.get-empty key_cmp (Leader first_file)

create_right : (h : Holder) (l : Life) → h.server ≡ 1 → IsFresh l → map.get h.cells ann ≡ Some (cell.Owner (owner_with 9)) → map.get h.cells (Leader first_file) ≡ None
    → (answer_in h l make_done).reply ≡ Some (reply.Created first_file 1)
create_right h l home f owner leader = ap (λ (a : Answer). a.reply) (answer_fresh h l make_done f ∙ (λ i. create_with (home i) (owner i) (leader i)))

fits : 3 ≤ page_limit
unfolding page_limit
fits = omega arith

-- ---- the entries

abbrev at_0 : State
at_0 = opened (opening 1)

known_0 : Only ts js at_0
known_0 = record { lives = λ u k. refl; fates = λ u k. refl; phases = λ j k. refl }

abbrev at_1 : State
at_1 = next at_0 (entry 0)

known_1 : Only ts js at_1
known_1 = only_next ts js at_0 (entry 0) refl known_0

entry_0 : IsLawfulEntry at_0 (entry 0)
entry_0 = by_laws at_0 (entry 0) refl refl refl tt
    (alone ts js trans at_1 known_1 refl)
    ((refl, refl), tt) tt tt (refl, refl) tt

abbrev at_2 : State
at_2 = next at_1 (entry 1)

known_2 : Only ts js at_2
known_2 = only_next ts js at_1 (entry 1) refl known_1

entry_1 : IsLawfulEntry at_1 (entry 1)
entry_1 = by_laws at_1 (entry 1) refl refl refl (begins (event_of 1) at_1 trans 1 (codes "Admin") 0 refl, tt)
    (alone ts js trans at_2 known_2 refl)
    ((refl, refl), tt) (tt, tt) tt (refl, refl) tt

abbrev granted_2 : State
granted_2 = state_deed at_2 (Grants trans make)

known_granted : Only ts js granted_2
known_granted = only_deed ts js at_2 known_2 (Grants trans make) refl

abbrev at_3 : State
at_3 = next at_2 (entry 2)

known_3 : Only ts js at_3
known_3 = only_next ts js at_2 (entry 2) refl known_2

entry_2 : IsLawfulEntry at_2 (entry 2)
entry_2 = by_laws at_2 (entry 2) refl refl refl (
  grants (event_of 2) at_2 trans make (λ l h. ap (λ (x : Life). x.vote) (sym (some-same (life_at at_2 trans) l h)), alone ts js trans granted_2 known_granted refl) (inl refl),
  (
    performs_so (event_of 2) granted_2 trans make_done (λ f h. sym (some-same first_file f h)) (
      life_at granted_2 trans,
      lives_there granted_2 trans refl,
      record {
        client = refl;
        active = refl;
        formed = (tt, fits, tt);
        right = create_right granted_2.holder (life_at granted_2 trans) refl (record { edits = refl; own = refl; who = refl }) (quota_seen 9) no_leader;
        locked = granted-holds no_locks ((Leaf (OwnerOf (codes "ann")), Write) ∷ []);
      },
    ) (alone ts js trans (state_deed granted_2 (Performs trans make_done)) (only_deed ts js granted_2 known_granted (Performs trans make_done) refl) refl) (inl refl),
    tt,
  ),
)
    (alone ts js trans at_3 known_3 refl)
    ((refl, refl), tt) (tt, tt) tt (refl, refl) tt

pub lawful : IsLawful (opening 1) (begun ++ creates first_file ∷ [])
lawful = (entry_0, (entry_1, (entry_2, tt)))
