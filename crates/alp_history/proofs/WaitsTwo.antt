-- two calls wait for what a part holds: as it ends the one that came first is given its lock first
use Rattle.std.specs.Prelude.{codes, true, false, unwrap_or, slice_get, drop, Bool, cond, Option, None, Some, IsTrue}
use Rattle.std.specs.Ordering.{eq_by_cmp}
use Rattle.std.proofs.Common.{◌≡◌, ℕ, List, [], ◌∷◌, ◌++◌, refl, sym, ap, subst, inl, arith}
use Rattle.alp_base.specs.declared.ids.JoinNo.{JoinNo}
use Rattle.alp_base.specs.declared.ids.TransId.{TransId}
use Rattle.alp_base.specs.declared.key.Key.TheVariants.{OwnerOf}
use Rattle.alp_base.specs.declared.key.Resource.{Resource}
use Rattle.alp_base.specs.declared.key.Resource.TheVariants.{Leaf}
use Rattle.alp_base.specs.declared.choices.Choice.TheVariants as choice
use Rattle.alp_base.specs.Orders.{resource_cmp}
use Rattle.alp_modes.specs.Modes.{agree}
use Rattle.alp_modes.specs.declared.Mode.{Mode}
use Rattle.alp_modes.specs.declared.Mode.TheVariants.{Read}
use Rattle.alp_files.specs.Holdings.{agree_held}
use Rattle.alp_files.specs.declared.call.Call.{Call}
use Rattle.alp_files.specs.declared.call.Call.TheVariants as call
use Rattle.alp_files.specs.declared.refusal.Cause.TheVariants as cause
use Rattle.alp_journal.specs.declared.act.Act.TheVariants as act
use Rattle.alp_journal.specs.declared.event.Event.{Event}
use Rattle.alp_journal.specs.declared.entry.Entry.{Entry}
use Rattle.alp_journal.specs.Along.{state_after}
use Rattle.alp_journal.specs.Deeds.{Deed, Grants, Releases, Ends}
use Rattle.alp_journal.specs.Desk.{Waiting}
use Rattle.alp_journal.specs.Holder.{held_for}
use Rattle.alp_journal.specs.State.{State, opened, state_deed}
use Rattle.alp_journal.specs.Moves.{next}
use Rattle.alp_journal.specs.Laws.{IsLawfulEntry, IsLawful, IsFree}
use Rattle.alp_journal.specs.Answered.{GivesOn, IsWalk, IsWaitingFor}
use Rattle.alp_history.specs.Examples.{trans, new}
use Rattle.alp_history.specs.WrongJournals.{hello, second_trans, third_trans, two_wait, ends}
use Rattle.alp_history.proofs.Worked.{life_at}
use Rattle.alp_history.proofs.Steps.{lives_there}
use Rattle.alp_history.proofs.Named.{Only, only_deed, only_next}
use Rattle.alp_history.proofs.NamedEnds.{no_vote}
use Rattle.alp_history.proofs.NamedPairs.{pairs_agree, free_of, blocked_by, first_is_given, IsReleased, gives_on, gives_back}
use Rattle.alp_history.proofs.LawfulDeeds.{begins, grants, releases}
use Rattle.alp_history.proofs.LawfulDeeds as deeds
use Rattle.alp_history.proofs.LawfulEntries.{by_laws, agree_none}
use Rattle.alp_history.proofs.FirstUp.{at_3, same_3, known_3 as first_known, owner_then}
use Rattle.alp_history.proofs.WaitsOne as one

abbrev ts : List TransId
ts = trans ∷ second_trans ∷ third_trans ∷ []

abbrev js : List JoinNo
js = []

abbrev entry : ℕ → Entry
entry i = unwrap_or (slice_get two_wait i) hello

abbrev event_of : ℕ → Event
event_of i = (entry i).event

abbrev reads : TransId → Call
reads t = call.ReadOwner t (codes "ann") choice.Wait

abbrev ann : Resource
ann = Leaf (OwnerOf (codes "ann"))

-- the states between those entries
known_3 : Only ts js at_3
known_3 = first_known (second_trans ∷ third_trans ∷ []) js

known_4 : Only ts js one.at_4
known_4 = only_next ts js at_3 (entry 3) refl known_3

known_5 : Only ts js one.at_5
known_5 = only_next ts js one.at_4 (entry 4) refl known_4

known_6 : Only ts js one.at_6
known_6 = only_next ts js one.at_5 (entry 5) refl known_5

abbrev at_7 : State
at_7 = next one.at_6 (entry 6)

known_7 : Only ts js at_7
known_7 = only_next ts js one.at_6 (entry 6) refl known_6

abbrev at_8 : State
at_8 = next at_7 (entry 7)

known_8 : Only ts js at_8
known_8 = only_next ts js at_7 (entry 7) refl known_7

abbrev at_9 : State
at_9 = next at_8 (entry 8)

known_9 : Only ts js at_9
known_9 = only_next ts js at_8 (entry 8) refl known_8

-- ---- they wait

-- the owner is held for change
apart_7 : agree_held ((life_at at_7 trans).held ann) (held_for at_7.holder (life_at at_7 second_trans) (reads second_trans) ann) ≡ false
unfolding agree
apart_7 = refl

apart_8 : agree_held ((life_at at_8 trans).held ann) (held_for at_8.holder (life_at at_8 second_trans) (reads second_trans) ann) ≡ false
unfolding agree
apart_8 = refl

apart_9 : agree_held ((life_at at_9 trans).held ann) (held_for at_9.holder (life_at at_9 second_trans) (reads second_trans) ann) ≡ false
unfolding agree
apart_9 = refl

third_apart : agree_held ((life_at at_9 trans).held ann) (held_for at_9.holder (life_at at_9 third_trans) (reads third_trans) ann) ≡ false
unfolding agree
third_apart = refl

entry_6 : IsLawfulEntry one.at_6 (entry 6)
entry_6 = by_laws one.at_6 (entry 6) refl refl refl tt
    (pairs_agree ts js at_7 known_7 ((λ r. agree_none _ _ refl, (λ r. agree_none _ _ refl, tt)), ((λ r. refl, tt), (tt, tt))))
    ((refl, refl), ((λ g l is its. blocked_by at_7.holder trans second_trans (life_at at_7 trans) (life_at at_7 second_trans) (reads second_trans) ann (lives_there at_7 trans refl) (lives_there at_7 second_trans refl) refl apart_7 l is), tt)) tt tt (refl, refl) tt

entry_7 : IsLawfulEntry at_7 (entry 7)
entry_7 = by_laws at_7 (entry 7) refl refl refl (begins (event_of 7) at_7 third_trans 3 (codes "Admin") 0 refl, tt)
    (pairs_agree ts js at_8 known_8 ((λ r. agree_none _ _ refl, (λ r. agree_none _ _ refl, tt)), ((λ r. refl, tt), (tt, tt))))
    ((refl, refl), ((λ g l is its. blocked_by at_8.holder trans second_trans (life_at at_8 trans) (life_at at_8 second_trans) (reads second_trans) ann (lives_there at_8 trans refl) (lives_there at_8 second_trans refl) refl apart_8 l is), tt)) (tt, tt) tt (refl, refl) tt

entry_8 : IsLawfulEntry at_8 (entry 8)
entry_8 = by_laws at_8 (entry 8) refl refl refl tt
    (pairs_agree ts js at_9 known_9 ((λ r. agree_none _ _ refl, (λ r. agree_none _ _ refl, tt)), ((λ r. refl, tt), (tt, tt)))) (
      (refl, refl),
      (
        (λ g l is its. blocked_by at_9.holder trans second_trans (life_at at_9 trans) (life_at at_9 second_trans) (reads second_trans) ann (lives_there at_9 trans refl) (lives_there at_9 second_trans refl) refl apart_9 l is),
        ((λ g l is its. blocked_by at_9.holder trans third_trans (life_at at_9 trans) (life_at at_9 third_trans) (reads third_trans) ann (lives_there at_9 trans refl) (lives_there at_9 third_trans refl) refl third_apart l is), tt),
      ),
    ) tt tt (refl, refl) tt

-- ---- the first part ends

abbrev right : Entry
right = ends (act.Released trans ∷ act.Granted second_trans ∷ act.Granted third_trans ∷ [])

abbrev wrong : Entry
wrong = ends (act.Released trans ∷ act.Granted third_trans ∷ act.Granted second_trans ∷ [])

abbrev ended : State
ended = state_deed at_9 (Ends trans 1 cause.Asked)

abbrev freed : State
freed = state_deed ended (Releases trans)

known_freed : Only ts js freed
known_freed = only_deed ts js ended (only_deed ts js at_9 known_9 (Ends trans 1 cause.Asked) refl) (Releases trans) refl

-- two that read it agree
both_read : (b : Bool) → IsTrue (agree_held (cond {A = Option Mode} b (Some Read) None) (cond {A = Option Mode} b (Some Read) None))
unfolding agree
both_read true = refl
both_read false = refl

-- one of them is given it, and then the other
abbrev given_to : TransId → State → State
given_to t s = state_deed s (Grants t (reads t))

known_given : (t : TransId) → (s : State) → Only ts js s → Only ts js (given_to second_trans s) × Only ts js (given_to third_trans s)
known_given t s known = (only_deed ts js s known (Grants second_trans (reads second_trans)) refl, only_deed ts js s known (Grants third_trans (reads third_trans)) refl)

abbrev second_given : State
second_given = given_to second_trans freed

abbrev third_given : State
third_given = given_to third_trans freed

known_second : Only ts js second_given
known_second = (known_given trans freed known_freed).0

known_third : Only ts js third_given
known_third = (known_given trans freed known_freed).1

entry_9 : IsLawfulEntry at_9 right
entry_9 = by_laws at_9 right refl refl refl (
  deeds.ends right.event at_9 trans 1 cause.Asked,
  (
    releases right.event ended trans (refl, (refl, λ j h. h)),
    (
      grants right.event freed second_trans (reads second_trans)
          (no_vote (freed.holder.lives second_trans) refl, pairs_agree ts js second_given known_second ((λ r. refl, (λ r. refl, tt)), ((λ r. agree_none _ _ refl, tt), (tt, tt)))) (inl refl),
      (
        grants right.event second_given third_trans (reads third_trans) (
          no_vote (second_given.holder.lives third_trans) refl,
          pairs_agree ts js (given_to third_trans second_given) (known_given trans second_given known_second).1 ((λ r. refl, (λ r. refl, tt)), ((λ r. both_read (eq_by_cmp resource_cmp r ann), tt), (tt, tt))),
        ) (inl refl),
        tt,
      ),
    ),
  ),
)
    (pairs_agree ts js (next at_9 right) (only_next ts js at_9 right refl known_9) ((λ r. refl, (λ r. refl, tt)), ((λ r. both_read (eq_by_cmp resource_cmp r ann), tt), (tt, tt))))
    ((refl, refl), ((λ g l h free. (let no : true ≡ false = g in cc)), ((λ g l h free. (let no : true ≡ false = g in cc)), tt))) (tt, (tt, (tt, tt))) tt (refl, refl) tt

entry_wrong : IsLawfulEntry at_9 wrong
entry_wrong = by_laws at_9 wrong refl refl refl (
  deeds.ends wrong.event at_9 trans 1 cause.Asked,
  (
    releases wrong.event ended trans (refl, (refl, λ j h. h)),
    (
      grants wrong.event freed third_trans (reads third_trans)
          (no_vote (freed.holder.lives third_trans) refl, pairs_agree ts js third_given known_third ((λ r. refl, (λ r. refl, tt)), ((λ r. refl, tt), (tt, tt)))) (inl refl),
      (
        grants wrong.event third_given second_trans (reads second_trans) (
          no_vote (third_given.holder.lives second_trans) refl,
          pairs_agree ts js (given_to second_trans third_given) (known_given trans third_given known_third).0 ((λ r. refl, (λ r. refl, tt)), ((λ r. both_read (eq_by_cmp resource_cmp r ann), tt), (tt, tt))),
        ) (inl refl),
        tt,
      ),
    ),
  ),
)
    (pairs_agree ts js (next at_9 wrong) (only_next ts js at_9 wrong refl known_9) ((λ r. refl, (λ r. refl, tt)), ((λ r. both_read (eq_by_cmp resource_cmp r ann), tt), (tt, tt))))
    ((refl, refl), ((λ g l h free. (let no : true ≡ false = g in cc)), ((λ g l h free. (let no : true ≡ false = g in cc)), tt))) (tt, (tt, (tt, tt))) tt (refl, refl) tt

pub lawful : IsLawful (new 1) (two_wait ++ right ∷ [])
lawful = owner_then (drop 3 (two_wait ++ right ∷ [])) (one.entry_3, (one.entry_4, (one.entry_5, (entry_6, (entry_7, (entry_8, (entry_9, tt)))))))

pub lawful_too : IsLawful (new 1) (two_wait ++ wrong ∷ [])
lawful_too = owner_then (drop 3 (two_wait ++ wrong ∷ [])) (one.entry_3, (one.entry_4, (one.entry_5, (entry_6, (entry_7, (entry_8, (entry_wrong, tt)))))))

-- ---- whose turn it is

abbrev second_waits : Waiting
second_waits = record { client = 2; number = 3; call = reads second_trans; is_granted = false }

abbrev third_waits : Waiting
third_waits = record { client = 3; number = 3; call = reads third_trans; is_granted = false }

second_is : IsWaitingFor freed.holder second_waits second_trans (life_at freed second_trans)
second_is = record { call = refl; ungranted = refl; live = lives_there freed second_trans refl; its = refl }

second_free : IsFree freed.holder second_trans (life_at freed second_trans) (reads second_trans)
second_free = free_of ts js freed known_freed second_trans (life_at freed second_trans) (reads second_trans)
    ((λ other r. refl), ((λ other. (let no : true ≡ false = other in absurd (let none : ⊥ = cc in none))), ((λ other r. refl), tt)))

third_is : IsWaitingFor second_given.holder third_waits third_trans (life_at second_given third_trans)
third_is = record { call = refl; ungranted = refl; live = lives_there second_given third_trans refl; its = refl }

third_free : IsFree second_given.holder third_trans (life_at second_given third_trans) (reads third_trans)
third_free = free_of ts js second_given known_second third_trans (life_at second_given third_trans) (reads third_trans)
    ((λ other r. refl), ((λ other r. both_read (eq_by_cmp resource_cmp r ann)), ((λ other. (let no : true ≡ false = other in absurd (let none : ⊥ = cc in none))), tt)))

abbrev up_to_release : List Deed
up_to_release = Ends trans 1 cause.Asked ∷ Releases trans ∷ []

released_right : IsReleased at_9 right up_to_release (second_waits ∷ third_waits ∷ []) (second_waits ∷ third_waits ∷ []) (second_trans ∷ third_trans ∷ [])
released_right = record { releases = refl; deeds = refl; waits = refl; order = refl; grants = refl }

released_wrong : IsReleased at_9 wrong up_to_release (second_waits ∷ third_waits ∷ []) (second_waits ∷ third_waits ∷ []) (third_trans ∷ second_trans ∷ [])
released_wrong = record { releases = refl; deeds = refl; waits = refl; order = refl; grants = refl }

given_there : GivesOn at_9 right
given_there = gives_on at_9 right up_to_release (second_waits ∷ third_waits ∷ []) (second_waits ∷ third_waits ∷ []) (second_trans ∷ third_trans ∷ []) released_right
    (IsWalk.takes freed.holder second_waits (third_waits ∷ []) (third_trans ∷ []) second_trans (life_at freed second_trans) second_is second_free
    (IsWalk.takes second_given.holder third_waits [] [] third_trans (life_at second_given third_trans) third_is third_free (IsWalk.ends (given_to third_trans second_given).holder)))

pub given : GivesOn (state_after next (opened (new 1)) two_wait) right
given = subst (λ (s : State). GivesOn (state_after next s (drop 3 two_wait)) right) (sym same_3) given_there

away : second_trans ≡ third_trans → ⊥
away same = let no : 2 ≡ 3 = ap (λ (t : TransId). t.counter) same in omega (arith, no)

ungiven_there : GivesOn at_9 wrong → ⊥
ungiven_there h =
    first_is_given freed.holder second_waits (third_waits ∷ []) second_trans third_trans (second_trans ∷ []) (life_at freed second_trans) second_is second_free away
    (gives_back at_9 wrong up_to_release (second_waits ∷ third_waits ∷ []) (second_waits ∷ third_waits ∷ []) (third_trans ∷ second_trans ∷ []) released_wrong h)

pub ungiven : GivesOn (state_after next (opened (new 1)) two_wait) wrong → ⊥
ungiven h = ungiven_there (subst (λ (s : State). GivesOn (state_after next s (drop 3 two_wait)) wrong) same_3 h)
