-- what a tick says again is so, and goes to the server that it is for
use Rattle.std.specs.Prelude.{true, false, not, ◌==◌, ◌&&◌, ◌||◌, filter, flat_map, Some}
use Rattle.std.specs.List.{list_all, AllByRecursion}
use Rattle.std.specs.List.Sorted.{IsPermutation}
use Rattle.std.proofs.lemmas.Bool.{and_from, or_left, or_right}
use Rattle.std.proofs.lemmas.List.Elements.{All-from_recursion, recursion_from_All}
use Rattle.std.proofs.lemmas.List.Sorted.{All-permutation}
use Rattle.std.proofs.Common.{◌≡◌, List, [], ◌∷◌, ◌++◌, refl, sym, ap, subst, eq-eqb}
use Rattle.alp_base.specs.declared.ids.JoinNo.{JoinNo}
use Rattle.alp_base.specs.declared.ids.Stamp.{Stamp}
use Rattle.alp_base.specs.declared.ids.TransId.{TransId}
use Rattle.alp_journal.specs.declared.event.Event.TheVariants as event
use Rattle.alp_journal.specs.declared.message.Message.TheVariants as msg
use Rattle.alp_journal.specs.Ids.{same_join, has_join}
use Rattle.alp_journal.specs.Coordinator.{Fate, Undrawn, Running, Finishing, Committed, Forgotten, Ended, voted, decision_in}
use Rattle.alp_journal.specs.Participant.{Phase, Unseen, Joining, Active, Ready, Applied, Over}
use Rattle.alp_journal.specs.State.{is_other_server}
use Rattle.alp_journal.specs.Laws.{HasDecision, MaySay, is_for}
use Rattle.alp_journal.specs.Messages.{Mail, to_each, to_others, register_again, inquire_again, ask_again, commit_again, on_tick, are_in_order}
use Rattle.alp_journal.specs.Account.{Account, state_of, IsQuiet, Leads}
use Rattle.alp_journal.proofs.IdLemmas.{all-append, all-filter}
use Rattle.alp_journal.proofs.MadeIds.{all-map}
use Rattle.alp_journal.proofs.StandLemmas.{same_join-itself}
use Rattle.alp_journal.proofs.CallLemmas.{AreAddressed}
use Rattle.alp_journal.proofs.TickLemmas.{tick_entry, tick_leads}

all-flat : {A B : Type 0} (P : B → Type 0) (f : A → List B) → ((x : A) → AllByRecursion P (f x)) → (xs : List A) → AllByRecursion P (flat_map f xs)
all-flat P f each [] = tt
all-flat P f each (x ∷ xs) = all-append P (f x) (flat_map f xs) (each x) (all-flat P f each xs)

-- each of a list is among it
all-has : (js : List JoinNo) → AllByRecursion (λ j. has_join j js ≡ true) js
all-has [] = tt
all-has (j ∷ js) = (
  or_left (same_join j j) (has_join j js) (same_join-itself j),
  all-map (λ k. has_join k js ≡ true) (λ k. has_join k (j ∷ js) ≡ true) (λ k h. or_right (same_join j k) (has_join k js) h) js (all-has js),
)

module _ (a : Account) where
  -- it is so, and for that server
  abbrev pub IsRight : Mail → Type 0
  IsRight m = (is_for m.0 m.1 ≡ true) × MaySay event.Tick (state_of a) m.1

  registers : (j : JoinNo) (p : Phase) → AllByRecursion IsRight (register_again j p)
  registers j Unseen = tt
  registers j (Joining t client who) = ((eq-eqb t.server t.server refl, tt), tt)
  registers j (Active t client who) = tt
  registers j (Ready t client ts) = tt
  registers j (Applied t stamp) = tt
  registers j Over = tt

  inquires : (j : JoinNo) (p : Phase) → AllByRecursion IsRight (inquire_again j p)
  inquires j Unseen = tt
  inquires j (Joining t client who) = tt
  inquires j (Active t client who) = tt
  inquires j (Ready t client ts) = ((eq-eqb t.server t.server refl, tt), tt)
  inquires j (Applied t stamp) = tt
  inquires j Over = tt

  asks_each : (t : TransId) (js : List JoinNo) → AllByRecursion IsRight (to_each (msg.Ask t) js)
  asks_each t [] = tt
  asks_each t (j ∷ js) = ((eq-eqb j.server j.server refl, tt), asks_each t js)

  asks : (t : TransId) (f : Fate) → AllByRecursion IsRight (ask_again t f)
  asks t Undrawn = tt
  asks t (Running c js) = tt
  asks t (Finishing c js vs) = asks_each t (filter (λ j. not (voted j vs)) js)
  asks t (Committed stamp js ds) = tt
  asks t (Forgotten stamp js) = tt
  asks t (Ended c) = tt

  commits_each : (t : TransId) (stamp : Stamp) (ks js : List JoinNo) → decision_in (a.fates t) ≡ Some (stamp, ks) → AllByRecursion (λ j. has_join j ks ≡ true) js → AllByRecursion IsRight (to_each (λ j. msg.Commit t j stamp) js)
  commits_each t stamp ks [] is h = tt
  commits_each t stamp ks (j ∷ js) is h = ((eq-eqb j.server j.server refl, subst (HasDecision stamp j) (sym is) (refl, h.0)), commits_each t stamp ks js is h.1)

  commits : (t : TransId) (f : Fate) → a.fates t ≡ f → AllByRecursion IsRight (commit_again t f)
  commits t Undrawn is = tt
  commits t (Running c js) is = tt
  commits t (Finishing c js vs) is = tt
  commits t (Committed stamp js ds) is = commits_each t stamp js (filter (λ j. not (has_join j ds)) js) (ap decision_in is) (all-filter (λ j. has_join j js ≡ true) (λ j. not (has_join j ds)) js (all-has js))
  commits t (Forgotten stamp js) is = tt
  commits t (Ended c) is = tt

  -- all that a tick is to say again
  pub tick_right : AllByRecursion IsRight (to_others (state_of a) (on_tick (state_of a)))
  tick_right =
      let rs : List Mail = flat_map (λ j. register_again j (a.phases j)) a.joined in
      let as_ : List Mail = flat_map (λ t. ask_again t (a.fates t)) a.begun in
      let cs : List Mail = flat_map (λ t. commit_again t (a.fates t)) a.begun in
      let is : List Mail = flat_map (λ j. inquire_again j (a.phases j)) a.joined in
      all-filter IsRight (λ (m : Mail). is_other_server (state_of a) m.0) (rs ++ as_ ++ cs ++ is)
      (all-append IsRight (rs ++ as_ ++ cs) is
      (all-append IsRight (rs ++ as_) cs
      (all-append IsRight rs as_ (all-flat IsRight (λ j. register_again j (a.phases j)) (λ j. registers j (a.phases j)) a.joined) (all-flat IsRight (λ t. ask_again t (a.fates t)) (λ t. asks t (a.fates t)) a.begun))
      (all-flat IsRight (λ t. commit_again t (a.fates t)) (λ t. commits t (a.fates t) refl) a.begun))
      (all-flat IsRight (λ j. inquire_again j (a.phases j)) (λ j. inquires j (a.phases j)) a.joined))

  -- in whatever order they are said
  ticks_right : (ms : List Mail) → IsPermutation (to_others (state_of a) (on_tick (state_of a))) ms → AllByRecursion IsRight ms
  ticks_right ms all = recursion_from_All IsRight ms (All-permutation IsRight (to_others (state_of a) (on_tick (state_of a))) ms all (All-from_recursion IsRight (to_others (state_of a) (on_tick (state_of a))) tick_right))

  are_addressed : (ms : List Mail) → AllByRecursion IsRight ms → AreAddressed ms
  are_addressed [] h = refl
  are_addressed (m ∷ ms) h = and_from (is_for m.0 m.1) (list_all (λ (x : Mail). is_for x.0 x.1) ms) h.0.0 (are_addressed ms h.1)

  -- a tick says them again, in their order
  pub ticks_lead : IsQuiet a → a.is_down ≡ false → (ms : List Mail) → IsPermutation (to_others (state_of a) (on_tick (state_of a))) ms → are_in_order ms ≡ true → Leads false a (tick_entry a ms) a
  ticks_lead q up ms all order =
      let right : AllByRecursion IsRight ms = ticks_right ms all in
      tick_leads a q up ms all order (are_addressed ms right) (all-map IsRight (λ (m : Mail). MaySay event.Tick (state_of a) m.1) (λ m h. h.1) ms right)
