-- the journal of server 1 with a call that waits is lawful
use Rattle.std.specs.FinMap as map
use Rattle.std.specs.Prelude.{codes, true, false, unwrap_or, slice_get, drop, take, Some, IsTrue}
use Rattle.std.proofs.Common.{◌≡◌, ℕ, List, [], ◌∷◌, refl, sym, ap, subst, ◌∙◌, inl}
use Rattle.alp_base.specs.Keys.{key_cmp}
use Rattle.alp_base.specs.declared.ids.JoinNo.{JoinNo}
use Rattle.alp_base.specs.declared.ids.TransId.{TransId}
use Rattle.alp_base.specs.declared.key.Key.TheVariants.{OwnerOf}
use Rattle.alp_base.specs.declared.key.Resource.TheVariants.{Leaf}
use Rattle.alp_modes.specs.declared.Mode.TheVariants.{Read}
use Rattle.alp_files.specs.Act.{Answer, no_opens, refused}
use Rattle.alp_files.proofs.CoverLemmas.{granted-holds}
use Rattle.alp_journal.specs.declared.event.Event.{Event}
use Rattle.alp_journal.specs.declared.entry.Entry.{Entry}
use Rattle.alp_journal.specs.Deeds.{Grants, Performs, Releases, Ends}
use Rattle.alp_journal.specs.Holder.{Life, no_locks, answer_in, held_for}
use Rattle.alp_history.proofs.Places.{some-same}
use Rattle.alp_modes.specs.Modes.{agree}
use Rattle.alp_files.specs.Holdings.{agree_held}
use Rattle.alp_journal.specs.State.{State, state_deed}
use Rattle.alp_journal.specs.Moves.{next}
use Rattle.alp_journal.specs.Laws.{IsLawfulEntry, IsLawful, IsFree}
use Rattle.alp_history.specs.Examples.{trans, new}
use Rattle.alp_history.specs.RightJournals.{hello, waiting, waits_for, waits_one}
use Rattle.alp_history.proofs.Worked.{life_at}
use Rattle.alp_history.proofs.Quotas.{ann}
use Rattle.alp_history.proofs.Owners.{missed_waiting}
use Rattle.alp_history.proofs.Steps.{lives_there}
use Rattle.alp_history.proofs.Named.{Only, only_deed, only_next, alone}
use Rattle.alp_history.proofs.NamedEnds.{no_vote}
use Rattle.alp_history.proofs.LawfulDeeds.{begins, ends, grants, performs, releases}
use Rattle.alp_history.proofs.LawfulEntries.{by_laws, second_bare}
use Rattle.alp_files.specs.declared.reply.Reply.TheVariants as reply
use Rattle.alp_files.specs.declared.refusal.Refusal.TheVariants as refusal
use Rattle.alp_files.specs.declared.refusal.Cause.TheVariants as cause
use Rattle.alp_history.proofs.FirstUp.{at_3, known_3 as first_known, owner_then}

abbrev ts : List TransId
ts = trans ∷ waiting ∷ []

abbrev js : List JoinNo
js = []

abbrev entry : ℕ → Entry
entry i = unwrap_or (slice_get waits_one i) (hello 1 0)

abbrev event_of : ℕ → Event
event_of i = (entry i).event

-- the state before each entry behind those
known_3 : Only ts js at_3
known_3 = first_known (waiting ∷ []) js

abbrev pub at_4 : State
at_4 = next at_3 (entry 3)

known_4 : Only ts js at_4
known_4 = only_next ts js at_3 (entry 3) refl known_3

pub entry_3 : IsLawfulEntry at_3 (entry 3)
entry_3 = by_laws at_3 (entry 3) refl refl refl tt
    (alone ts js trans at_4 known_4 refl)
    ((refl, refl), tt) tt tt (refl, refl) tt

abbrev pub at_5 : State
at_5 = next at_4 (entry 4)

known_5 : Only ts js at_5
known_5 = only_next ts js at_4 (entry 4) refl known_4

pub entry_4 : IsLawfulEntry at_4 (entry 4)
entry_4 = by_laws at_4 (entry 4) refl refl refl (begins (event_of 4) at_4 waiting 2 (codes "Admin") 0 refl, tt)
    (second_bare ts js trans waiting at_5 known_5 refl refl)
    ((refl, refl), tt) (tt, tt) tt (refl, refl) tt

abbrev pub at_6 : State
at_6 = next at_5 (entry 5)

known_6 : Only ts js at_6
known_6 = only_next ts js at_5 (entry 5) refl known_5

-- the owner is held for change
disagree_5 : IsTrue (agree_held ((life_at at_6 trans).held (Leaf (OwnerOf (codes "ann")))) (held_for at_6.holder (life_at at_6 waiting) waits_for (Leaf (OwnerOf (codes "ann"))))) → ⊥
unfolding agree
disagree_5 h = let wrong : false ≡ true = h in cc

blocked_5 : false ≡ false → (l : Life) → at_6.holder.lives waiting ≡ Some l → 2 ≡ l.client → IsFree at_6.holder waiting l waits_for → ⊥
blocked_5 g l h its free =
    disagree_5 (subst (λ (x : Life). IsFree at_6.holder waiting x waits_for) (some-same l (life_at at_6 waiting) (sym h ∙ lives_there at_6 waiting refl)) free
    trans (life_at at_6 trans) (lives_there at_6 trans refl) refl (Leaf (OwnerOf (codes "ann"))))

pub entry_5 : IsLawfulEntry at_5 (entry 5)
entry_5 = by_laws at_5 (entry 5) refl refl refl tt
    (second_bare ts js trans waiting at_6 known_6 refl refl)
    ((refl, refl), (blocked_5, tt)) tt tt (refl, refl) tt

abbrev ended_6 : State
ended_6 = state_deed at_6 (Ends trans 1 cause.Asked)

abbrev freed_6 : State
freed_6 = state_deed ended_6 (Releases trans)

known_freed_6 : Only ts js freed_6
known_freed_6 = only_deed ts js ended_6 (only_deed ts js at_6 known_6 (Ends trans 1 cause.Asked) refl) (Releases trans) refl

abbrev at_7 : State
at_7 = next at_6 (entry 6)

known_7 : Only ts js at_7
known_7 = only_next ts js at_6 (entry 6) refl known_6

entry_6 : IsLawfulEntry at_6 (entry 6)
entry_6 = by_laws at_6 (entry 6) refl refl refl (
  ends (event_of 6) at_6 trans 1 cause.Asked,
  (
    releases (event_of 6) ended_6 trans (refl, (refl, λ j h. h)),
    (
      grants (event_of 6) freed_6 waiting waits_for
          (no_vote (freed_6.holder.lives waiting) refl, alone ts js waiting (state_deed freed_6 (Grants waiting waits_for)) (only_deed ts js freed_6 known_freed_6 (Grants waiting waits_for) refl) refl) (inl refl),
      tt,
    ),
  ),
)
    (alone ts js waiting at_7 known_7 refl)
    ((refl, refl), ((λ g l h free. (let wrong : true ≡ false = g in cc)), tt)) (tt, (tt, tt)) tt (refl, refl) tt

answer_7 : answer_in at_7.holder (life_at at_7 waiting) (record { call = waits_for; reply = reply.Refused refusal.UnknownOwner }) ≡ refused no_opens refusal.UnknownOwner
answer_7 = missed_waiting at_7.holder (life_at at_7 waiting) waiting (record { edits = refl; own = refl; who = refl }) (map.get-empty key_cmp ann)

abbrev at_8 : State
at_8 = next at_7 (entry 7)

known_8 : Only ts js at_8
known_8 = only_next ts js at_7 (entry 7) refl known_7

entry_7 : IsLawfulEntry at_7 (entry 7)
entry_7 = by_laws at_7 (entry 7) refl refl refl (
  performs (event_of 7) at_7 waiting (record { call = waits_for; reply = reply.Refused refusal.UnknownOwner }) refl
      (life_at at_7 waiting, lives_there at_7 waiting refl, record { client = refl; active = refl; formed = (tt, tt, tt); right = ap (λ (a : Answer). a.reply) answer_7; locked = granted-holds no_locks ((Leaf (OwnerOf (codes "ann")), Read) ∷ []) })
      (alone ts js waiting (state_deed at_7 (Performs waiting (record { call = waits_for; reply = reply.Refused refusal.UnknownOwner })))
      (only_deed ts js at_7 known_7 (Performs waiting (record { call = waits_for; reply = reply.Refused refusal.UnknownOwner })) refl) refl)
      (inl refl),
  tt,
)
    (alone ts js waiting at_8 known_8 refl)
    ((refl, refl), tt) tt tt (refl, refl) tt

pub lawful : IsLawful (new 1) waits_one
lawful = owner_then (drop 3 waits_one) (entry_3, (entry_4, (entry_5, (entry_6, (entry_7, tt)))))

-- up to the end of the first part
pub up_to_end : IsLawful (new 1) (take 7 waits_one)
up_to_end = owner_then (drop 3 (take 7 waits_one)) (entry_3, (entry_4, (entry_5, (entry_6, tt))))
