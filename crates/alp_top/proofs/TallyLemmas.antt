-- what the entries of a journal count is what its state says: how many transactions it began, and how many of its own it committed
use Rattle.std.specs.Prelude.{true, false, Bool, cond, ◌||◌, ◌==◌, not, ◌&&◌, nat_le, nat_lt, max, filter, flat_map, Option, None, Some, is_some, slice_get}
use Rattle.std.specs.List.{list_any, AllByRecursion}
use Rattle.std.specs.declared.cmp.Ordering.{Ordering}
use Rattle.std.specs.declared.cmp.Ordering.TheVariants.{Less, Equal, Greater}
use Rattle.std.specs.FinMap.Entries.{put, by_order}
use Rattle.std.proofs.Common.{inl, inr, ◌⊎◌, ◌≡◌, ℕ, suc, ◌+◌, ◌-◌, ◌<◌, ◌≤◌, ◌^◌, List, [], ◌∷◌, ◌++◌, length, take, get_or, length-append, append-nil, refl, sym, ◌∙◌, ap, subst, arith, eq-eqb}
use Rattle.std.proofs.lemmas.Bool.{or_parts, and_parts}
use Rattle.std.proofs.lemmas.Bool.Decides.{eqb_tells}
use Rattle.std.proofs.lemmas.List.{take_more, length-map}
use Rattle.std.proofs.Math.Nat.{le-max_left, le-max_right}
use Rattle.std.proofs.lemmas.Grind.{flat_map-append}
use Rattle.alp_base.specs.declared.ids.JoinNo.{JoinNo}
use Rattle.alp_base.specs.declared.ids.Stamp.{Stamp}
use Rattle.alp_base.specs.declared.ids.TransId.{TransId}
use Rattle.alp_files.specs.History.{PerformedCall, Decided}
use Rattle.alp_files.specs.declared.call.Call.{Call}
use Rattle.alp_files.specs.declared.call.Call.TheVariants as call
use Rattle.alp_files.specs.declared.refusal.Cause.{Cause}
use Rattle.alp_files.specs.declared.reply.Reply.{Reply}
use Rattle.alp_files.specs.declared.reply.Reply.TheVariants as reply
use Rattle.alp_journal.specs.Account.{AreEarlier}
use Rattle.alp_journal.specs.Along.{Along, Where, state_after}
use Rattle.alp_journal.specs.Answered.{FitsJournal, entries_limit}
use Rattle.alp_journal.specs.Coordinator.{Fate, Finishing, decided, decision_in}
use Rattle.alp_journal.specs.Deeds.{Deed, Begins, Enters, Aborts, Grants, Performs, Releases, Readies, Applies, Hears, Decides, Forgets, Restarts}
use Rattle.alp_journal.specs.Holder.{Holder, Life, with_life, new_life, grants, performs, readies, lapsed, is_part, emptied, in_history, commits, if_ready, holder_after, lives_noted}
use Rattle.alp_journal.specs.Ids.{same_trans, stamp_cmp, has_join}
use Rattle.alp_journal.specs.Laws.{drawn_by, begun_in, begun_new, latest_vote, DecidesAt, MayDecide, TellsIn, TellsDecided, IsFound, Regains, regained_by, IsStopped, TellsStop, IsLawfulDeed, IsLawfulEntry, IsLawful}
use Rattle.alp_journal.specs.Moves.{is_new, abort_in, first_sent, ends_for, hears, event_deeds, asks_for, grants_to, begins_at, is_effective, resolved, act_deeds, done_deeds, is_stop, stops, tried, did, told, halted, next}
use Rattle.alp_journal.specs.Opening.{ReadyNote, DecisionNote, Start}
use Rattle.alp_journal.specs.State.{State, state_deed, begun_by, opened, is_other_server}
use Rattle.alp_journal.specs.declared.act.Act.{Act}
use Rattle.alp_journal.specs.declared.act.Act.TheVariants as act
use Rattle.alp_journal.specs.declared.entry.Entry.{Entry}
use Rattle.alp_journal.specs.declared.event.Event.{Event}
use Rattle.alp_journal.specs.declared.event.Event.TheVariants as event
use Rattle.alp_journal.specs.declared.message.Message.TheVariants as msg
use Rattle.alp_journal.proofs.FoundLemmas.{found_after, found-append, IsAside, aside_found, aside_after, event_aside, none_performed, holders-after}
use Rattle.alp_journal.proofs.HeldLemmas.{latest-after}
use Rattle.alp_journal.proofs.IdLemmas.{same_trans-true, same_trans-itself, all-append}
use Rattle.alp_journal.proofs.Origins.{IsEventFrom, event-from, all-cond}
use Rattle.alp_journal.proofs.StampLemmas.{put-last, AreEarlier-push}
use Rattle.alp_history.specs.Log.{IsIn}
use Rattle.alp_history.proofs.CommitEntries.{IsPerforming, done-performs}
use Rattle.alp_history.proofs.EachServer.{note-of}
use Rattle.alp_history.proofs.Fates.{decision-stays}
use Rattle.alp_history.proofs.Logs.{server-stays}
use Rattle.alp_history.proofs.Places.{some-same}
use Rattle.alp_top.specs.Tallies.{one_more, sum_of, none_seen, with_act, seen_from, no_tally, is_made, with_seen, tally_from, tally_in}
use Rattle.alp_top.specs.declared.tally.Seen.{Seen}
use Rattle.alp_top.specs.declared.tally.Tally.{Tally}

-- ---- a server's own transactions among those that it applied

abbrev pub own_count : ℕ → List (Stamp × Decided) → ℕ
own_count n [] = 0
own_count n (x ∷ xs) = cond (x.0.trans.server == n) (own_count n xs + 1) (own_count n xs)

pub own_length : (n : ℕ) (xs : List (Stamp × Decided)) → length (filter (λ (x : Stamp × Decided). x.0.trans.server == n) xs) ≡ own_count n xs
own_length n [] = refl
own_length n (x ∷ xs) = go (x.0.trans.server == n) (own_length n xs)
  where
    go : (b : Bool) → length (filter (λ (x : Stamp × Decided). x.0.trans.server == n) xs) ≡ own_count n xs
        → length (cond b (x ∷ filter (λ (x : Stamp × Decided). x.0.trans.server == n) xs) (filter (λ (x : Stamp × Decided). x.0.trans.server == n) xs)) ≡ cond b (own_count n xs + 1) (own_count n xs)
    go true is = omega (arith, is)
    go false is = is

-- one of its own behind the others
own_push : (n : ℕ) (xs : List (Stamp × Decided)) (x : Stamp × Decided) → (x.0.trans.server == n) ≡ true → own_count n (xs ++ x ∷ []) ≡ own_count n xs + 1
own_push n [] x is = ap (λ (b : Bool). cond b (0 + 1) 0) is
own_push n (y ∷ ys) x is = go (y.0.trans.server == n) (own_push n ys x is)
  where
    go : (b : Bool) → own_count n (ys ++ x ∷ []) ≡ own_count n ys + 1 → cond b (own_count n (ys ++ x ∷ []) + 1) (own_count n (ys ++ x ∷ [])) ≡ cond b (own_count n ys + 1) (own_count n ys) + 1
    go true more = ap (λ (k : ℕ). k + 1) more
    go false more = more

-- one of another server, at its stamp
own_put : (n : ℕ) (k : Stamp) (d : Decided) (xs : List (Stamp × Decided)) → (k.trans.server == n) ≡ false → own_count n (put stamp_cmp k d xs) ≡ own_count n xs
own_put n k d [] other = ap (λ (b : Bool). cond b (0 + 1) 0) other
own_put n k d (x ∷ xs) other = go (stamp_cmp k x.0) (own_put n k d xs other)
  where
    go : (o : Ordering) → own_count n (put stamp_cmp k d xs) ≡ own_count n xs → own_count n (by_order o ((k, d) ∷ x ∷ xs) ((x.0, d) ∷ xs) (x ∷ put stamp_cmp k d xs)) ≡ own_count n (x ∷ xs)
    go Less rest = ap (λ (b : Bool). cond b (own_count n (x ∷ xs) + 1) (own_count n (x ∷ xs))) other
    go Equal rest = refl
    go Greater rest = ap (λ (m : ℕ). cond (x.0.trans.server == n) (m + 1) m) rest

unlike : (a b : ℕ) → (a ≡ b → ⊥) → (a == b) ≡ false
unlike a b other = elim (eqb_tells a b) [ inl same ↦ absurd (other same.1) | inr away ↦ away.0 ]

earlier_put : (m : ℕ) (k : Stamp) (d : Decided) (xs : List (Stamp × Decided)) → AreEarlier m xs → k.ts ≤ m → AreEarlier m (put stamp_cmp k d xs)
earlier_put m k d [] h le = (le, tt)
earlier_put m k d (x ∷ xs) h le = go (stamp_cmp k x.0) (earlier_put m k d xs h.1 le)
  where
    go : (o : Ordering) → AreEarlier m (put stamp_cmp k d xs) → AreEarlier m (by_order o ((k, d) ∷ x ∷ xs) ((x.0, d) ∷ xs) (x ∷ put stamp_cmp k d xs))
    go Less rest = (le, h)
    go Equal rest = (h.0, h.1)
    go Greater rest = (h.0, rest)

earlier_up : (m n : ℕ) (ds : List (Stamp × Decided)) → m ≤ n → AreEarlier m ds → AreEarlier n ds
earlier_up m n [] le h = tt
earlier_up m n (d ∷ ds) le h = ((let low : d.0.ts ≤ m = h.0 in omega (arith, low, le)), earlier_up m n ds le h.1)

-- a part that is another one now
put_life : (l m : Life) → l.is_early ≡ false → (k : Life) → ◌≡◌ {A = Option Life} (Some m) (Some k) → m.is_early ≡ l.is_early → k.is_early ≡ false
put_life l m early k is same = ap (λ (x : Life). x.is_early) (sym (some-same m k is)) ∙ same ∙ early

lapsed_early : (j : JoinNo) (o : Option Life) (k : Life) → ((l : Life) → o ≡ Some l → l.is_early ≡ false) → lapsed j o ≡ Some k → k.is_early ≡ false
lapsed_early j None k was is = (let wrong : None ≡ Some k = is in cc)
lapsed_early j (Some l) k was is = go (is_part j l.join) is
  where
    go : (b : Bool) → ◌≡◌ {A = Option Life} (Some (cond b (emptied l) l)) (Some k) → k.is_early ≡ false
    go true is = ap (λ (x : Life). x.is_early) (sym (some-same (emptied l) k is))
    go false is = ap (λ (x : Life). x.is_early) (sym (some-same l k is)) ∙ was l refl

-- another server than this
other_server : (s : State) (m : ℕ) → is_other_server s m ≡ true → m ≡ s.holder.server → ⊥
other_server s m is same =
    let parts = and_parts (nat_lt 0 m && nat_lt m (s.servers + 1)) (not (m == s.holder.server)) is in
    let wrong : false ≡ true = sym (ap not (eq-eqb m s.holder.server same)) ∙ parts.1 in
    cc

-- ---- deeds of which nothing is counted, and those that count

-- the stamps that they decide
abbrev decides_in : Deed → List Stamp
decides_in (Decides stamp js) = stamp ∷ []
decides_in d = []

abbrev IsNoRestart : Deed → Type 0
IsNoRestart (Restarts epoch clock) = ⊥
IsNoRestart d = Unit {0}

-- it begins nothing, decides nothing and starts no epoch
abbrev IsQuietDeed : Deed → Type 0
IsQuietDeed (Begins t client who seen) = ⊥
IsQuietDeed (Decides stamp js) = ⊥
IsQuietDeed (Restarts epoch clock) = ⊥
IsQuietDeed d = Unit {0}

quiet_begun : (d : Deed) → IsQuietDeed d → begun_by d ≡ []
quiet_begun (Begins t client who seen) h = absurd h
quiet_begun d h = refl

quiet_decides : (d : Deed) → IsQuietDeed d → decides_in d ≡ []
quiet_decides (Decides stamp js) h = absurd h
quiet_decides d h = refl

quiet_starts : (d : Deed) → IsQuietDeed d → IsNoRestart d
quiet_starts (Restarts epoch clock) h = absurd h
quiet_starts d h = tt

quiet_all_begun : (ds : List Deed) → AllByRecursion IsQuietDeed ds → flat_map begun_by ds ≡ []
quiet_all_begun [] h = refl
quiet_all_begun (d ∷ ds) h = λ i. quiet_begun d h.0 i ++ quiet_all_begun ds h.1 i

quiet_all_decides : (ds : List Deed) → AllByRecursion IsQuietDeed ds → flat_map decides_in ds ≡ []
quiet_all_decides [] h = refl
quiet_all_decides (d ∷ ds) h = λ i. quiet_decides d h.0 i ++ quiet_all_decides ds h.1 i

all_of : {A : Type 0} (P Q : A → Type 0) → ((x : A) → P x → Q x) → (xs : List A) → AllByRecursion P xs → AllByRecursion Q xs
all_of P Q f [] h = tt
all_of P Q f (x ∷ xs) h = (f x h.0, all_of P Q f xs h.1)

-- what an event brings about by itself begins and decides nothing, nor does a call that is performed
event_quiet : (s : State) (x : Event) (d : Deed) → IsEventFrom s x d → IsQuietDeed d
event_quiet s x (Begins t client who seen) h = h
event_quiet s x (Decides stamp js) h = h
event_quiet s x (Restarts epoch clock) h = h
event_quiet s x d h = tt

performed_quiet : (d : Deed) → IsPerforming d → IsQuietDeed d
performed_quiet (Performs t c) h = tt
performed_quiet d h = absurd h

events_quiet : (s : State) (x : Event) (r : Option Reply) (acts : List Act) → AllByRecursion IsQuietDeed (event_deeds s x r acts)
events_quiet s x r acts = all_of (IsEventFrom s x) IsQuietDeed (event_quiet s x) (event_deeds s x r acts) (event-from s x r acts)

done_quiet : (s : State) (x : Event) (r : Option Reply) → AllByRecursion IsQuietDeed (done_deeds s x r)
done_quiet s x r = all_of IsPerforming IsQuietDeed performed_quiet (done_deeds s x r) (done-performs s x r)

-- ---- what acts bring about

-- the stamps that acts decide
abbrev decided_by : Act → List Stamp
decided_by (act.Decided stamp js) = stamp ∷ []
decided_by a = []

-- what a Begin draws begins
abbrev begun_if : Event → List TransId → List TransId
begun_if (event.Call client epoch number (call.Begin seen)) ts = ts
begun_if x ts = []

begun_if_both : (x : Event) (ts us : List TransId) → begun_if x ts ++ begun_if x us ≡ begun_if x (ts ++ us)
begun_if_both (event.Call client epoch number (call.Begin seen)) ts us = refl
begun_if_both (event.Call client epoch number c) ts us = refl
begun_if_both (event.Arrive from m) ts us = refl
begun_if_both (event.Timeout t) ts us = refl
begun_if_both event.Tick ts us = refl
begun_if_both event.Force ts us = refl
begun_if_both event.Restart ts us = refl

begun_if_none : (x : Event) → begun_if x [] ≡ []
begun_if_none (event.Call client epoch number (call.Begin seen)) = refl
begun_if_none (event.Call client epoch number c) = refl
begun_if_none (event.Arrive from m) = refl
begun_if_none (event.Timeout t) = refl
begun_if_none event.Tick = refl
begun_if_none event.Force = refl
begun_if_none event.Restart = refl

at_begun : (s : State) (x : Event) (t : TransId) → flat_map begun_by (begins_at s x t) ≡ begun_if x (t ∷ [])
at_begun s (event.Call client epoch number (call.Begin seen)) t = refl
at_begun s (event.Call client epoch number c) t = refl
at_begun s (event.Arrive from m) t = refl
at_begun s (event.Timeout u) t = refl
at_begun s event.Tick t = refl
at_begun s event.Force t = refl
at_begun s event.Restart t = refl

at_decides : (s : State) (x : Event) (t : TransId) → flat_map decides_in (begins_at s x t) ≡ []
at_decides s (event.Call client epoch number (call.Begin seen)) t = refl
at_decides s (event.Call client epoch number c) t = refl
at_decides s (event.Arrive from m) t = refl
at_decides s (event.Timeout u) t = refl
at_decides s event.Tick t = refl
at_decides s event.Force t = refl
at_decides s event.Restart t = refl

at_starts : (s : State) (x : Event) (t : TransId) → AllByRecursion IsNoRestart (begins_at s x t)
at_starts s (event.Call client epoch number (call.Begin seen)) t = (tt, tt)
at_starts s (event.Call client epoch number c) t = tt
at_starts s (event.Arrive from m) t = tt
at_starts s (event.Timeout u) t = tt
at_starts s event.Tick t = tt
at_starts s event.Force t = tt
at_starts s event.Restart t = tt

grants_quiet : (t : TransId) (o : Option Call) → AllByRecursion IsQuietDeed (grants_to t o)
grants_quiet t None = tt
grants_quiet t (Some c) = (tt, tt)

-- of one act
record IsOfAct (s : State) (x : Event) (a : Act) : Type 0 where
  begun : flat_map begun_by (act_deeds s x a) ≡ begun_if x (drawn_by a)
  decides : flat_map decides_in (act_deeds s x a) ≡ decided_by a
  starts : AllByRecursion IsNoRestart (act_deeds s x a)

quiet_act : (s : State) (x : Event) (a : Act) → drawn_by a ≡ [] → decided_by a ≡ [] → AllByRecursion IsQuietDeed (act_deeds s x a) → IsOfAct s x a
quiet_act s x a none nothing quiet = record {
  begun = quiet_all_begun (act_deeds s x a) quiet ∙ sym (ap (begun_if x) none ∙ begun_if_none x);
  decides = quiet_all_decides (act_deeds s x a) quiet ∙ sym nothing;
  starts = all_of IsQuietDeed IsNoRestart quiet_starts (act_deeds s x a) quiet;
}

act_is : (s : State) (x : Event) (a : Act) → regained_by a ≡ false → IsOfAct s x a
act_is s x (act.Granted t) none = quiet_act s x (act.Granted t) refl refl (grants_quiet t (asks_for s x t (s.holder.lives t)))
act_is s x (act.Drawn t) none = record { begun = at_begun s x t; decides = at_decides s x t; starts = at_starts s x t }
act_is s x (act.Registered t j) none = quiet_act s x (act.Registered t j) refl refl (tt, tt)
act_is s x (act.Readied t j ts) none = quiet_act s x (act.Readied t j ts) refl refl (tt, tt)
act_is s x (act.Decided stamp js) none = record { begun = sym (begun_if_none x); decides = refl; starts = (tt, tt) }
act_is s x (act.Applied j stamp) none = quiet_act s x (act.Applied j stamp) refl refl (tt, tt)
act_is s x (act.Released t) none = quiet_act s x (act.Released t) refl refl (tt, tt)
act_is s x (act.Forgot t) none = quiet_act s x (act.Forgot t) refl refl (tt, tt)
act_is s x (act.Sent to m) none = quiet_act s x (act.Sent to m) refl refl tt
act_is s x act.Stopped none = quiet_act s x act.Stopped refl refl tt
act_is s x act.Failed none = quiet_act s x act.Failed refl refl tt
act_is s x (act.Regained epoch clock ready stamps) none = (let wrong : true ≡ false = none in cc)

record AreOfActs (s : State) (x : Event) (acts : List Act) : Type 0 where
  begun : flat_map begun_by (flat_map (act_deeds s x) acts) ≡ begun_if x (flat_map drawn_by acts)
  decides : flat_map decides_in (flat_map (act_deeds s x) acts) ≡ flat_map decided_by acts
  starts : AllByRecursion IsNoRestart (flat_map (act_deeds s x) acts)

acts_are : (s : State) (x : Event) (acts : List Act) → list_any regained_by acts ≡ false → AreOfActs s x acts
acts_are s x [] none = record { begun = sym (begun_if_none x); decides = refl; starts = tt }
acts_are s x (a ∷ acts) none =
    let parts = or_parts (regained_by a) (list_any regained_by acts) none in
    let one : IsOfAct s x a = act_is s x a parts.0 in
    let more : AreOfActs s x acts = acts_are s x acts parts.1 in
    record {
      begun = flat_map-append begun_by (act_deeds s x a) (flat_map (act_deeds s x) acts) ∙ (λ i. one.begun i ++ more.begun i) ∙ begun_if_both x (drawn_by a) (flat_map drawn_by acts);
      decides = flat_map-append decides_in (act_deeds s x a) (flat_map (act_deeds s x) acts) ∙ (λ i. one.decides i ++ more.decides i);
      starts = all-append IsNoRestart (act_deeds s x a) (flat_map (act_deeds s x) acts) one.starts more.starts;
    }

-- ---- all that an entry tries

module _ (s : State) (x : Event) (r : Option Reply) (acts : List Act) (none : list_any regained_by acts ≡ false) where
  abbrev all_deeds : List Deed
  all_deeds = event_deeds s x r acts ++ flat_map (act_deeds s x) acts ++ done_deeds s x r

  tried_begun : flat_map begun_by all_deeds ≡ begun_if x (flat_map drawn_by acts)
  tried_begun =
      flat_map-append begun_by (event_deeds s x r acts ++ flat_map (act_deeds s x) acts) (done_deeds s x r)
      ∙ (λ i. flat_map-append begun_by (event_deeds s x r acts) (flat_map (act_deeds s x) acts) i ++ quiet_all_begun (done_deeds s x r) (done_quiet s x r) i)
      ∙ (λ i. (quiet_all_begun (event_deeds s x r acts) (events_quiet s x r acts) i ++ (acts_are s x acts none).begun i) ++ []) ∙ append-nil (begun_if x (flat_map drawn_by acts))

  tried_decides : flat_map decides_in all_deeds ≡ flat_map decided_by acts
  tried_decides =
      flat_map-append decides_in (event_deeds s x r acts ++ flat_map (act_deeds s x) acts) (done_deeds s x r)
      ∙ (λ i. flat_map-append decides_in (event_deeds s x r acts) (flat_map (act_deeds s x) acts) i ++ quiet_all_decides (done_deeds s x r) (done_quiet s x r) i)
      ∙ (λ i. (quiet_all_decides (event_deeds s x r acts) (events_quiet s x r acts) i ++ (acts_are s x acts none).decides i) ++ []) ∙ append-nil (flat_map decided_by acts)

  tried_starts : AllByRecursion IsNoRestart all_deeds
  tried_starts =
      all-append IsNoRestart (event_deeds s x r acts ++ flat_map (act_deeds s x) acts) (done_deeds s x r)
      (all-append IsNoRestart (event_deeds s x r acts) (flat_map (act_deeds s x) acts) (all_of IsQuietDeed IsNoRestart quiet_starts (event_deeds s x r acts) (events_quiet s x r acts)) (acts_are s x acts none).starts)
      (all_of IsQuietDeed IsNoRestart quiet_starts (done_deeds s x r) (done_quiet s x r))

-- ---- at most one transaction begins, and at most one is decided

one_begun : (r : Option Reply) → length (begun_in r) ≤ 1
one_begun (Some (reply.Begun t)) = omega arith
one_begun None = omega arith
one_begun (Some r) = omega arith

few_if : (b : Bool) (r : Option Reply) → length (cond b (begun_in r) []) ≤ 1
few_if true r = one_begun r
few_if false r = omega arith

few_new : (s : State) (x : Event) (r : Option Reply) → length (begun_new s x r) ≤ 1
few_new s (event.Call client epoch number c) r = few_if (is_new s client epoch number) r
few_new s (event.Arrive from m) r = omega arith
few_new s (event.Timeout t) r = omega arith
few_new s event.Tick r = omega arith
few_new s event.Force r = omega arith
few_new s event.Restart r = omega arith

-- only a Begin is told that a transaction began
none_told : (m : State) (c : Call) (b : Bool) (r : Option Reply) → ((client epoch number : ℕ) (t : TransId) → begun_if (event.Call client epoch number c) (t ∷ []) ≡ []) → (b ≡ true → (q : Reply) → r ≡ Some q → TellsIn m c q) → cond b (begun_in r) [] ≡ []
none_told m c false r none tells = refl
none_told m c true None none tells = refl
none_told m c true (Some (reply.Begun t)) none tells = absurd (no_begin c none (tells refl (reply.Begun t) refl))
  where
    no_begin : (c : Call) → ((client epoch number : ℕ) (u : TransId) → begun_if (event.Call client epoch number c) (u ∷ []) ≡ []) → TellsIn m c (reply.Begun t) → ⊥
    no_begin (call.Begin seen) none told = (let wrong : t ∷ [] ≡ [] = none 0 0 0 t in cc)
    no_begin c none told = told
none_told m c true (Some r) none tells = refl

-- what is drawn begins: all else than a Begin draws nothing
drawn_begun : (s : State) (x : Event) (r : Option Reply) (acts : List Act) → IsLawfulEntry s (record { event = x; reply = r; acts = acts }) → begun_if x (flat_map drawn_by acts) ≡ flat_map drawn_by acts
drawn_begun s (event.Call client epoch number (call.Begin seen)) r acts law = refl
drawn_begun s (event.Call client epoch number c) r acts law = sym (law.drawn ∙ none_told (next s made) c (is_new s client epoch number) r (λ k e n t. refl) tells)
  where
    made : Entry
    made = record { event = event.Call client epoch number c; reply = r; acts = acts }

    tells : is_new s client epoch number ≡ true → (q : Reply) → r ≡ Some q → TellsIn (next s made) c q
    tells new q is = subst (λ (b : Bool). Where b (TellsIn (next s made) c q) (Unit {0})) new (subst (λ (o : Option Reply). TellsDecided s (next s made) (event.Call client epoch number c) o) is law.told)
drawn_begun s (event.Arrive from m) r acts law = sym law.drawn
drawn_begun s (event.Timeout t) r acts law = sym law.drawn
drawn_begun s event.Tick r acts law = sym law.drawn
drawn_begun s event.Force r acts law = sym law.drawn
drawn_begun s event.Restart r acts law = sym law.drawn

-- what is decided is not decided again
decides_over : (x : Event) (u : TransId) (y : Stamp × List JoinNo) → ((t : TransId) → DecidesAt t x → u ≡ t) → (ds : List Deed) (m : State) → Along state_deed (IsLawfulDeed x) m ds → decision_in (m.fates u) ≡ Some y → flat_map decides_in ds ≡ []
decides_over x u y only [] m law over = refl
decides_over x u y only (Decides stamp js ∷ ds) m law over =
    let may : MayDecide x m stamp js = law.0.decision in
    let same : u ≡ stamp.trans = only stamp.trans may.asked in
    let wrong : None ≡ Some y = sym (ap decision_in (ap m.fates same ∙ may.finishing)) ∙ over in
    cc
decides_over x u y only (d ∷ ds) m law over = decides_over x u y only ds (state_deed m d) law.1 (decision-stays y d u (m.fates u) over)

decides_same : (x : Event) (a b : TransId) → DecidesAt a x → DecidesAt b x → a ≡ b
decides_same (event.Call client epoch number (call.Finish u commit)) a b one two = sym one ∙ two
decides_same (event.Arrive from (msg.Ready u j ts)) a b one two = sym one ∙ two
decides_same x a b one two = absurd one

few_decides : (x : Event) (ds : List Deed) (m : State) → Along state_deed (IsLawfulDeed x) m ds → length (flat_map decides_in ds) ≤ 1
few_decides x [] m law = omega arith
few_decides x (Decides stamp js ∷ ds) m law =
    let may : MayDecide x m stamp js = law.0.decision in
    let over : decision_in ((state_deed m (Decides stamp js)).fates stamp.trans) ≡ Some (stamp, js) =
    ap (λ (b : Bool). decision_in (cond b (decided stamp js (m.fates stamp.trans)) (m.fates stamp.trans))) (same_trans-itself stamp.trans) ∙ ap (λ (f : Fate). decision_in (decided stamp js f)) may.finishing in
    let rest : flat_map decides_in ds ≡ [] = decides_over x stamp.trans (stamp, js) (λ t at. decides_same x stamp.trans t may.asked at) ds (state_deed m (Decides stamp js)) law.1 over in
    let long : length (flat_map decides_in ds) ≡ 0 = ap (λ (xs : List Stamp). length xs) rest in
    omega (arith, long)
few_decides x (d ∷ ds) m law = few_decides x ds (state_deed m d) law.1

-- ---- what the acts of an entry count

seen_begun : (z : Seen) (acts : List Act) → z.begun + length (flat_map drawn_by acts) ≤ 2 ^ 32 - 1 → (seen_from z acts).begun ≡ z.begun + length (flat_map drawn_by acts)
seen_begun z [] low = omega arith
seen_begun z (act.Drawn t ∷ acts) low =
    let one : one_more z.begun ≡ z.begun + 1 = omega (arith, low) in
    seen_begun (with_act z (act.Drawn t)) acts (omega (arith, one, low)) ∙ omega (arith, one)
seen_begun z (act.Sent to m ∷ acts) low = seen_begun z acts low
seen_begun z (act.Granted t ∷ acts) low = seen_begun z acts low
seen_begun z (act.Registered t j ∷ acts) low = seen_begun z acts low
seen_begun z (act.Readied t j ts ∷ acts) low = seen_begun z acts low
seen_begun z (act.Decided x js ∷ acts) low = seen_begun (with_act z (act.Decided x js)) acts low
seen_begun z (act.Applied j x ∷ acts) low = seen_begun z acts low
seen_begun z (act.Released t ∷ acts) low = seen_begun z acts low
seen_begun z (act.Forgot t ∷ acts) low = seen_begun z acts low
seen_begun z (act.Regained a b c d ∷ acts) low = seen_begun (with_act z (act.Regained a b c d)) acts low
seen_begun z (act.Stopped ∷ acts) low = seen_begun (with_act z act.Stopped) acts low
seen_begun z (act.Failed ∷ acts) low = seen_begun (with_act z act.Failed) acts low

seen_committed : (z : Seen) (acts : List Act) → z.committed + length (flat_map decided_by acts) ≤ 2 ^ 32 - 1 → (seen_from z acts).committed ≡ z.committed + length (flat_map decided_by acts)
seen_committed z [] low = omega arith
seen_committed z (act.Decided x js ∷ acts) low =
    let one : one_more z.committed ≡ z.committed + 1 = omega (arith, low) in
    seen_committed (with_act z (act.Decided x js)) acts (omega (arith, one, low)) ∙ omega (arith, one)
seen_committed z (act.Drawn t ∷ acts) low = seen_committed (with_act z (act.Drawn t)) acts low
seen_committed z (act.Sent to m ∷ acts) low = seen_committed z acts low
seen_committed z (act.Granted t ∷ acts) low = seen_committed z acts low
seen_committed z (act.Registered t j ∷ acts) low = seen_committed z acts low
seen_committed z (act.Readied t j ts ∷ acts) low = seen_committed z acts low
seen_committed z (act.Applied j x ∷ acts) low = seen_committed z acts low
seen_committed z (act.Released t ∷ acts) low = seen_committed z acts low
seen_committed z (act.Forgot t ∷ acts) low = seen_committed z acts low
seen_committed z (act.Regained a b c d ∷ acts) low = seen_committed (with_act z (act.Regained a b c d)) acts low
seen_committed z (act.Stopped ∷ acts) low = seen_committed (with_act z act.Stopped) acts low
seen_committed z (act.Failed ∷ acts) low = seen_committed (with_act z act.Failed) acts low

-- the device stopped or failed where an act says so
seen_stops : (z : Seen) (acts : List Act) → (seen_from z acts).stops ≡ (z.stops || list_any is_stop acts)
seen_stops z [] = none z.stops
  where
    none : (b : Bool) → b ≡ (b || false)
    none true = refl
    none false = refl
seen_stops z (act.Stopped ∷ acts) = seen_stops (with_act z act.Stopped) acts ∙ more z.stops (list_any is_stop acts)
  where
    more : (b c : Bool) → (true || c) ≡ (b || (true || c))
    more true c = refl
    more false c = refl
seen_stops z (act.Failed ∷ acts) = seen_stops (with_act z act.Failed) acts ∙ more z.stops (list_any is_stop acts)
  where
    more : (b c : Bool) → (true || c) ≡ (b || (true || c))
    more true c = refl
    more false c = refl
seen_stops z (act.Drawn t ∷ acts) = seen_stops (with_act z (act.Drawn t)) acts
seen_stops z (act.Decided x js ∷ acts) = seen_stops (with_act z (act.Decided x js)) acts
seen_stops z (act.Sent to m ∷ acts) = seen_stops z acts
seen_stops z (act.Granted t ∷ acts) = seen_stops z acts
seen_stops z (act.Registered t j ∷ acts) = seen_stops z acts
seen_stops z (act.Readied t j ts ∷ acts) = seen_stops z acts
seen_stops z (act.Applied j x ∷ acts) = seen_stops z acts
seen_stops z (act.Released t ∷ acts) = seen_stops z acts
seen_stops z (act.Forgot t ∷ acts) = seen_stops z acts
seen_stops z (act.Regained a b c d ∷ acts) = seen_stops (with_act z (act.Regained a b c d)) acts

-- no clock was found where no act regains one
seen_found : (z : Seen) (acts : List Act) → list_any regained_by acts ≡ false → (seen_from z acts).found ≡ z.found
seen_found z [] none = refl
seen_found z (act.Regained a b c d ∷ acts) none = (let wrong : true ≡ false = (or_parts true (list_any regained_by acts) none).0 in cc)
seen_found z (act.Drawn t ∷ acts) none = seen_found (with_act z (act.Drawn t)) acts none
seen_found z (act.Decided x js ∷ acts) none = seen_found (with_act z (act.Decided x js)) acts none
seen_found z (act.Stopped ∷ acts) none = seen_found (with_act z act.Stopped) acts none
seen_found z (act.Failed ∷ acts) none = seen_found (with_act z act.Failed) acts none
seen_found z (act.Sent to m ∷ acts) none = seen_found z acts none
seen_found z (act.Granted t ∷ acts) none = seen_found z acts none
seen_found z (act.Registered t j ∷ acts) none = seen_found z acts none
seen_found z (act.Readied t j ts ∷ acts) none = seen_found z acts none
seen_found z (act.Applied j x ∷ acts) none = seen_found z acts none
seen_found z (act.Released t ∷ acts) none = seen_found z acts none
seen_found z (act.Forgot t ∷ acts) none = seen_found z acts none

-- where it decides, an event shows nothing of it at the holder by itself
ends_aside : (t : TransId) (client : ℕ) (o : Option Cause) → AllByRecursion IsAside (ends_for t client o)
ends_aside t client None = tt
ends_aside t client (Some c) = (λ h. refl, tt)

hears_aside : (s : State) (acts : List Act) (t : TransId) (j : JoinNo) (ts : ℕ) (f : Fate) → AllByRecursion IsAside (hears s acts t j ts f)
hears_aside s acts t j ts (Finishing client js vs) =
    all-cond IsAside (has_join j js) (Hears t j ts ∷ ends_for t client (first_sent (abort_in t) acts)) [] (λ h. refl, ends_aside t client (first_sent (abort_in t) acts)) tt
hears_aside s acts t j ts f = tt

decides_aside : (s : State) (x : Event) (r : Option Reply) (acts : List Act) (t : TransId) → DecidesAt t x → AllByRecursion IsAside (event_deeds s x r acts)
decides_aside s (event.Call client epoch number (call.Finish u commit)) r acts t at = event_aside s (event.Call client epoch number (call.Finish u commit)) r acts tt
decides_aside s (event.Arrive from (msg.Ready u j ts)) r acts t at = hears_aside s acts u j ts (s.fates u)
decides_aside s x r acts t at = absurd at

-- what the event brings about, and what it performs, is not found
around : (s : State) (x : Event) (r : Option Reply) (acts : List Act) → AllByRecursion IsAside (event_deeds s x r acts) → (ready : List JoinNo) (clock : ℕ) (stamps : List Stamp)
    → found_after s.holder ready clock stamps (event_deeds s x r acts ++ flat_map (act_deeds s x) acts ++ done_deeds s x r) ≡ found_after s.holder ready clock stamps (flat_map (act_deeds s x) acts)
around s x r acts aside ready clock stamps =
    found-append ready clock stamps (event_deeds s x r acts ++ flat_map (act_deeds s x) acts) (done_deeds s x r) s.holder
    ∙ ap (λ (h : Holder). found_after h ready clock stamps (done_deeds s x r))
    (found-append ready clock stamps (event_deeds s x r acts) (flat_map (act_deeds s x) acts) s.holder
    ∙ ap (λ (h : Holder). found_after h ready clock stamps (flat_map (act_deeds s x) acts)) (aside_found ready clock stamps (event_deeds s x r acts) s.holder aside))
    ∙ ap (λ (ds : List Deed). state_after holder_after (found_after s.holder ready clock stamps (flat_map (act_deeds s x) acts)) ds) (none_performed ready clock stamps s x r)

-- the law at the first deed behind others
law_behind : (x : Event) (xs ys zs : List Deed) (d : Deed) (s : State) → Along state_deed (IsLawfulDeed x) s ((xs ++ d ∷ ys) ++ zs) → IsLawfulDeed x (state_after state_deed s xs) d
law_behind x [] ys zs d s law = law.0
law_behind x (z ∷ xs) ys zs d s law = law_behind x xs ys zs d (state_deed s z) law.1

server_after : (ds : List Deed) (s : State) → (state_after state_deed s ds).holder.server ≡ s.holder.server
server_after [] s = refl
server_after (d ∷ ds) s = server_after ds (state_deed s d) ∙ server-stays d s.holder

stop_none : (a : Act) (s : State) (x : Event) → is_stop a ≡ true → act_deeds s x a ++ [] ≡ []
stop_none act.Stopped s x is = refl
stop_none act.Failed s x is = refl
stop_none a s x is = (let wrong : false ≡ true = is in cc)

stop_seen : (b : Act) (z : Seen) → is_stop b ≡ true → (with_act z b).tried ≡ z.tried
stop_seen act.Stopped z is = refl
stop_seen act.Failed z is = refl
stop_seen b z is = (let wrong : false ≡ true = is in cc)

-- ---- the count and the state

abbrev count_of : Option ℕ → ℕ
count_of None = 0
count_of (Some time) = 1

count_few : (o : Option ℕ) → count_of o ≤ 1
count_few None = omega arith
count_few (Some time) = omega arith

made_none : (o : Option ℕ) → is_made o None ≡ false
made_none None = refl
made_none (Some time) = refl

-- the tally behind an entry, by whether it stopped and whether a commit was found made
abbrev tally_by : Bool → Bool → Tally → Seen → Tally
tally_by stops made t z =
    cond stops (record t { tried = z.tried }) (record { begun = sum_of t.begun z.begun; committed = cond made (one_more (sum_of t.committed z.committed)) (sum_of t.committed z.committed); tried = None })

-- it fits, from this place on
abbrev FitsFrom : ℕ → List Entry → Type 0
FitsFrom at es = (i : ℕ) (e : Entry) → slice_get es i ≡ Some e → (e.event ≡ event.Restart) ⊎ (at + i < entries_limit)

-- ---- the server with this number

module _ (n : ℕ) where
  -- no part of a transaction of its own is of an earlier run, and what was applied has times that the clock of a restart has come to
  record IsPlain (h : Holder) : Type 0 where
    here : h.server ≡ n
    clear : (t : TransId) (l : Life) → h.lives t ≡ Some l → t.server ≡ n → l.is_early ≡ false
    order : h.kept ≤ h.clock
    earlier : AreEarlier h.kept h.applied

  -- and as many of its own are applied as before
  record IsCalmed (h g : Holder) : Type 0 where
    plain : IsPlain g
    same : own_count n g.applied ≡ own_count n h.applied

  calmed_same : (h : Holder) → IsPlain h → IsCalmed h h
  calmed_same h p = record { plain = p; same = refl }

  calmed_then : (h g k : Holder) → IsCalmed h g → IsCalmed g k → IsCalmed h k
  calmed_then h g k a b = record { plain = b.plain; same = b.same ∙ a.same }

  plain_life : (h : Holder) (t : TransId) (o : Option Life) → IsPlain h → ((l : Life) → o ≡ Some l → t.server ≡ n → l.is_early ≡ false) → IsPlain (with_life h t o)
  plain_life h t o p new = record { here = p.here; clear = λ u l is own. go u l (same_trans u t) refl is own; order = p.order; earlier = p.earlier }
    where
      go : (u : TransId) (l : Life) (b : Bool) → same_trans u t ≡ b → cond {A = Option Life} b o (h.lives u) ≡ Some l → u.server ≡ n → l.is_early ≡ false
      go u l true e is own = new l is (ap (λ (x : TransId). x.server) (sym (same_trans-true u t e)) ∙ own)
      go u l false e is own = p.clear u l is own

  grant_calm : (h : Holder) (t : TransId) (c : Call) (o : Option Life) → h.lives t ≡ o → IsPlain h → IsCalmed h (grants h t c o)
  grant_calm h t c None is p = calmed_same h p
  grant_calm h t c (Some l) is p = record { plain = plain_life h t _ p (λ k new own. put_life l _ (p.clear t l is own) k new refl); same = refl }

  perform_calm : (h : Holder) (t : TransId) (d : PerformedCall) (o : Option Life) → h.lives t ≡ o → IsPlain h → IsCalmed h (performs h t d o)
  perform_calm h t d None is p = calmed_same h p
  perform_calm h t d (Some l) is p = record { plain = plain_life _ t _ (record { here = p.here; clear = p.clear; order = p.order; earlier = p.earlier }) (λ k new own. put_life l _ (p.clear t l is own) k new refl); same = refl }

  ready_calm : (h : Holder) (t : TransId) (ts : ℕ) (o : Option Life) → h.lives t ≡ o → IsPlain h → IsCalmed h (readies h t ts o)
  ready_calm h t ts None is p = calmed_same h p
  ready_calm h t ts (Some l) is p = record { plain = plain_life h t _ p (λ k new own. put_life l _ (p.clear t l is own) k new refl); same = refl }

  abort_calm : (h : Holder) (j : JoinNo) (t : TransId) (client : ℕ) (c : Cause) → IsPlain h → IsCalmed h (holder_after h (Aborts j t client c))
  abort_calm h j t client c p = record { plain = record { here = p.here; clear = λ u k is own. go u k own (same_trans u t) is; order = p.order; earlier = p.earlier }; same = refl }
    where
      go : (u : TransId) (k : Life) → u.server ≡ n → (b : Bool) → cond {A = Option Life} b (lapsed j (h.lives u)) (h.lives u) ≡ Some k → k.is_early ≡ false
      go u k own true is = lapsed_early j (h.lives u) k (λ l at. p.clear u l at own) is
      go u k own false is = p.clear u k is own

  begin_calm : (h : Holder) (t : TransId) (client : ℕ) (who : List ℕ) (seen : ℕ) → IsPlain h → IsCalmed h (holder_after h (Begins t client who seen))
  begin_calm h t client who seen p = record {
    plain = plain_life (record h { clock = max h.clock seen }) t (Some (new_life None client who))
        (record { here = p.here; clear = p.clear; order = (let low : h.kept ≤ h.clock = p.order in omega (arith, low, le-max_left h.clock seen)); earlier = p.earlier })
        (λ k new own. ap (λ (x : Life). x.is_early) (sym (some-same (new_life None client who) k new)));
    same = refl;
  }

  -- a part of another server's transaction is applied
  apply_calm : (h : Holder) (stamp : Stamp) (o : Option Life) → (stamp.trans.server ≡ n → ⊥) → IsPlain h → IsCalmed h (commits h stamp o)
  apply_calm h stamp None other p = calmed_same h p
  apply_calm h stamp (Some l) other p =
      let d : Decided = record { stamp = stamp; who = l.who; calls = l.calls } in
      let old : h.kept ≤ h.clock = p.order in
      let up : AreEarlier (max h.clock stamp.ts) h.applied = earlier_up h.kept (max h.clock stamp.ts) h.applied (omega (arith, old, le-max_left h.clock stamp.ts)) p.earlier in
      record {
        plain = plain_life _ stamp.trans (Some (emptied l)) (record {
          here = p.here;
          clear = p.clear;
          order = omega arith;
          earlier = early l.is_early (max h.clock stamp.ts) d up (le-max_right h.clock stamp.ts);
        }) (λ k new own. absurd (other own));
        same = still l.is_early d;
      }
    where
      early : (b : Bool) (m : ℕ) (d : Decided) → AreEarlier m h.applied → stamp.ts ≤ m → AreEarlier m (cond b h.applied (put stamp_cmp stamp d h.applied))
      early true m d up low = up
      early false m d up low = earlier_put m stamp d h.applied up low

      still : (b : Bool) (d : Decided) → own_count n (cond b h.applied (put stamp_cmp stamp d h.applied)) ≡ own_count n h.applied
      still true d = refl
      still false d = own_put n stamp d h.applied (unlike stamp.trans.server n other)

  -- it decides nothing here, and applies none of this server's own
  abbrev IsTame : Deed → Type 0
  IsTame (Decides stamp js) = ⊥
  IsTame (Applies j stamp) = stamp.trans.server ≡ n → ⊥
  IsTame (Restarts epoch clock) = ⊥
  IsTame d = Unit {0}

  tame_calm : (h : Holder) (d : Deed) → IsTame d → IsPlain h → IsCalmed h (holder_after h d)
  tame_calm h (Begins t client who seen) tame p = begin_calm h t client who seen p
  tame_calm h (Enters j t client who) tame p =
      record { plain = plain_life h t (Some (new_life (Some j) client who)) p (λ k new own. ap (λ (l : Life). l.is_early) (sym (some-same (new_life (Some j) client who) k new))); same = refl }
  tame_calm h (Aborts j t client c) tame p = abort_calm h j t client c p
  tame_calm h (Grants t c) tame p = grant_calm h t c (h.lives t) refl p
  tame_calm h (Performs t d) tame p = perform_calm h t d (h.lives t) refl p
  tame_calm h (Releases t) tame p = record { plain = plain_life h t None p (λ l is own. (let wrong : None ≡ Some l = is in cc)); same = refl }
  tame_calm h (Readies j t ts) tame p = ready_calm h t ts (h.lives t) refl p
  tame_calm h (Applies j stamp) tame p = apply_calm h stamp (h.lives stamp.trans) tame p
  tame_calm h (Decides stamp js) tame p = absurd tame
  tame_calm h (Restarts epoch clock) tame p = absurd tame
  tame_calm h d tame p = calmed_same h p

  -- also of those that a restart finds made
  tame_found : (ready : List JoinNo) (clock : ℕ) (stamps : List Stamp) (ds : List Deed) (h : Holder) → AllByRecursion IsTame ds → IsPlain h → IsCalmed h (found_after h ready clock stamps ds)
  tame_found ready clock stamps [] h tame p = calmed_same h p
  tame_found ready clock stamps (d ∷ ds) h tame p = go (is_effective ready clock stamps d) (tame_calm h d tame.0 p) (λ g q. tame_found ready clock stamps ds g tame.1 q)
    where
      go : (b : Bool) → IsCalmed h (holder_after h d) → ((g : Holder) → IsPlain g → IsCalmed g (found_after g ready clock stamps ds))
          → IsCalmed h (state_after holder_after h (cond {A = List Deed} b (d ∷ filter (is_effective ready clock stamps) ds) (filter (is_effective ready clock stamps) ds)))
      go true one more = calmed_then h (holder_after h d) (found_after (holder_after h d) ready clock stamps ds) one (more (holder_after h d) one.plain)
      go false one more = more h p

  -- ---- a transaction of its own is committed

  record HasCommitted (h g : Holder) : Type 0 where
    plain : IsPlain g
    more : own_count n g.applied ≡ own_count n h.applied + 1

  commit_more : (h : Holder) (stamp : Stamp) (l : Life) → IsPlain h → h.lives stamp.trans ≡ Some l → stamp.trans.server ≡ n → h.clock < stamp.ts → HasCommitted h (commits h stamp (Some l))
  commit_more h stamp l p is own late =
      let d : Decided = record { stamp = stamp; who = l.who; calls = l.calls } in
      let old : h.kept ≤ h.clock = p.order in
      let early : l.is_early ≡ false = p.clear stamp.trans l is own in
      let applied : in_history stamp l h.applied ≡ h.applied ++ (stamp, d) ∷ [] =
      (λ i. cond (early i) h.applied (put stamp_cmp stamp d h.applied)) ∙ put-last h.applied stamp d h.kept p.earlier (omega (arith, old, late)) in
      record {
        plain = plain_life _ stamp.trans (Some (emptied l)) (record {
          here = p.here;
          clear = p.clear;
          order = omega arith;
          earlier = earlier_up stamp.ts (max h.clock stamp.ts) (in_history stamp l h.applied) (le-max_right h.clock stamp.ts)
              (subst (AreEarlier stamp.ts) (sym applied) (AreEarlier-push h.applied stamp d h.kept p.earlier (omega (arith, old, late))));
        }) (λ k new here. ap (λ (x : Life). x.is_early) (sym (some-same (emptied l) k new)));
        more = ap (own_count n) applied ∙ own_push n h.applied (stamp, d) (eq-eqb stamp.trans.server n own);
      }

  -- ---- deeds, one after the other

  -- so many transactions more began, and so many more are applied
  record Grows (s m : State) (begun committed : ℕ) : Type 0 where
    plain : IsPlain m.holder
    begun_more : length m.begun ≡ length s.begun + begun
    committed_more : own_count n m.holder.applied ≡ own_count n s.holder.applied + committed

  grows_calm : (s : State) (d : Deed) → IsCalmed s.holder (holder_after s.holder d) → Grows s (state_deed s d) (length (begun_by d)) 0
  grows_calm s d c = record { plain = c.plain; begun_more = length-append s.begun (begun_by d); committed_more = c.same ∙ omega arith }

  decided_grows : (x : Event) (s : State) (stamp : Stamp) (js : List JoinNo) → IsPlain s.holder → MayDecide x s stamp js → Grows s (state_deed s (Decides stamp js)) 0 1
  decided_grows x s stamp js p may =
      let (l, is, unvoted) = may.live in
      let late : s.holder.clock < stamp.ts = (let time : stamp.ts ≡ latest_vote (s.holder.clock + 1) may.votes = may.time in omega (arith, time, latest-after (s.holder.clock + 1) may.votes)) in
      let done : HasCommitted s.holder (commits s.holder stamp (Some l)) = commit_more s.holder stamp l p is (may.own ∙ p.here) late in
      let same : holder_after s.holder (Decides stamp js) ≡ commits s.holder stamp (Some l) = ap (commits s.holder stamp) is in
      record {
        plain = subst IsPlain (sym same) done.plain;
        begun_more = length-append s.begun [] ∙ omega arith;
        committed_more = ap (λ (h : Holder). own_count n h.applied) same ∙ done.more;
      }

  deed_grows : (x : Event) (s : State) (d : Deed) → IsLawfulDeed x s d → IsNoRestart d → IsPlain s.holder → Grows s (state_deed s d) (length (begun_by d)) (length (decides_in d))
  deed_grows x s (Decides stamp js) law none p = decided_grows x s stamp js p law.decision
  deed_grows x s (Applies j stamp) law none p = grows_calm s (Applies j stamp) (tame_calm s.holder (Applies j stamp) (λ own. other_server s stamp.trans.server law.application.elsewhere (own ∙ sym p.here)) p)
  deed_grows x s (Restarts epoch clock) law none p = absurd none
  deed_grows x s d law none p = grows_calm s d (tame_calm s.holder d tt p)

  grows_then : (s m z : State) (a b c d : ℕ) → Grows s m a b → Grows m z c d → Grows s z (a + c) (b + d)
  grows_then s m z a b c d h k = record {
    plain = k.plain;
    begun_more = (let one : length m.begun ≡ length s.begun + a = h.begun_more in let two : length z.begun ≡ length m.begun + c = k.begun_more in omega (arith, one, two));
    committed_more = (let one : own_count n m.holder.applied ≡ own_count n s.holder.applied + b = h.committed_more in let two : own_count n z.holder.applied ≡ own_count n m.holder.applied + d = k.committed_more in omega (arith, one, two));
  }

  deeds_grow : (x : Event) (ds : List Deed) (s : State) → Along state_deed (IsLawfulDeed x) s ds → AllByRecursion IsNoRestart ds → IsPlain s.holder → Grows s (state_after state_deed s ds) (length (flat_map begun_by ds)) (length (flat_map decides_in ds))
  deeds_grow x [] s law none p = record { plain = p; begun_more = omega arith; committed_more = omega arith }
  deeds_grow x (d ∷ ds) s law none p =
      let one : Grows s (state_deed s d) (length (begun_by d)) (length (decides_in d)) = deed_grows x s d law.0 none.0 p in
      let all : Grows s (state_after state_deed s (d ∷ ds)) (length (begun_by d) + length (flat_map begun_by ds)) (length (decides_in d) + length (flat_map decides_in ds)) =
      grows_then s (state_deed s d) (state_after state_deed s (d ∷ ds)) (length (begun_by d)) (length (decides_in d)) (length (flat_map begun_by ds)) (length (flat_map decides_in ds)) one (deeds_grow x ds (state_deed s d) law.1 none.1 one.plain) in
      subst (λ (m : ℕ). Grows s (state_after state_deed s (d ∷ ds)) m (length (decides_in d ++ flat_map decides_in ds))) (sym (length-append (begun_by d) (flat_map begun_by ds)))
      (subst (λ (m : ℕ). Grows s (state_after state_deed s (d ∷ ds)) (length (begun_by d) + length (flat_map begun_by ds)) m) (sym (length-append (decides_in d) (flat_map decides_in ds))) all)

  -- ---- what a server tried as it went down

  -- a restart finds nothing of it made that counts
  abbrev FindsNone : State → Type 0
  FindsNone s = (ready : List JoinNo) (clock : ℕ) (stamps : List Stamp) → IsCalmed s.holder (found_after s.holder ready clock stamps s.pending)

  -- or a commit of its own, where its clock has come to the time
  record FindsCommit (s : State) (time : ℕ) : Type 0 where
    stamp : Stamp
    life : Life
    is : stamp.ts ≡ time
    own : stamp.trans.server ≡ n
    late : s.holder.clock < stamp.ts
    live : s.holder.lives stamp.trans ≡ Some life
    found : (ready : List JoinNo) (clock : ℕ) (stamps : List Stamp) → found_after s.holder ready clock stamps s.pending ≡ cond (nat_le time clock) (commits s.holder stamp (Some life)) s.holder

  abbrev FindsFor : State → Option ℕ → Type 0
  FindsFor s None = FindsNone s
  FindsFor s (Some time) = FindsCommit s time

  event_tame : (s : State) (x : Event) (d : Deed) → IsEventFrom s x d → IsTame d
  event_tame s x (Decides stamp js) h = h
  event_tame s x (Applies j stamp) h = absurd h
  event_tame s x (Restarts epoch clock) h = h
  event_tame s x d h = tt

  performed_tame : (d : Deed) → IsPerforming d → IsTame d
  performed_tame (Performs t c) h = tt
  performed_tame d h = absurd h

  -- nothing that an entry tried counts where its acts do not
  tried_tame : (s : State) (x : Event) (r : Option Reply) (acts : List Act) → AllByRecursion IsTame (flat_map (act_deeds s x) acts) → AllByRecursion IsTame (event_deeds s x r acts ++ flat_map (act_deeds s x) acts ++ done_deeds s x r)
  tried_tame s x r acts tame =
      all-append IsTame (event_deeds s x r acts ++ flat_map (act_deeds s x) acts) (done_deeds s x r)
      (all-append IsTame (event_deeds s x r acts) (flat_map (act_deeds s x) acts) (all_of (IsEventFrom s x) IsTame (event_tame s x) (event_deeds s x r acts) (event-from s x r acts)) tame)
      (all_of IsPerforming IsTame performed_tame (done_deeds s x r) (done-performs s x r))

  finds_none : (s : State) (x : Event) (r : Option Reply) (acts : List Act) → IsPlain s.holder → AllByRecursion IsTame (flat_map (act_deeds s x) acts) → FindsNone (halted s (record { event = x; reply = r; acts = acts }))
  finds_none s x r acts p tame ready clock stamps = tame_found ready clock stamps (event_deeds s x r acts ++ flat_map (act_deeds s x) acts ++ done_deeds s x r) s.holder (tried_tame s x r acts tame) p

  -- a write before the stop
  module _ (s : State) (x : Event) (r : Option Reply) (a b : Act) (p : IsPlain s.holder) (stop : is_stop b ≡ true)
      (law : Along state_deed (IsLawfulDeed x) s (event_deeds s x r (a ∷ b ∷ []) ++ flat_map (act_deeds s x) (a ∷ b ∷ []) ++ done_deeds s x r)) where
    abbrev before_write : State
    before_write = state_after state_deed s (event_deeds s x r (a ∷ b ∷ []))

    write_law : (d : Deed) → act_deeds s x a ≡ d ∷ [] → IsLawfulDeed x before_write d
    write_law d is =
        law_behind x (event_deeds s x r (a ∷ b ∷ [])) (act_deeds s x b ++ []) (done_deeds s x r) d s
        (subst (λ (ds : List Deed). Along state_deed (IsLawfulDeed x) s ((event_deeds s x r (a ∷ b ∷ []) ++ (ds ++ (act_deeds s x b ++ []))) ++ done_deeds s x r)) is law)

    -- behind it nothing else stands
    only_write : (d : Deed) → act_deeds s x a ≡ d ∷ [] → flat_map (act_deeds s x) (a ∷ b ∷ []) ≡ d ∷ []
    only_write d is = λ i. is i ++ stop_none b s x stop i

    write_none : (d : Deed) → act_deeds s x a ≡ d ∷ [] → IsTame d → FindsNone (halted s (record { event = x; reply = r; acts = a ∷ b ∷ [] }))
    write_none d is tame = finds_none s x r (a ∷ b ∷ []) p (subst (AllByRecursion IsTame) (sym (only_write d is)) (tame, tt))

    applied_away : (j : JoinNo) (stamp : Stamp) → act_deeds s x a ≡ Applies j stamp ∷ [] → stamp.trans.server ≡ n → ⊥
    applied_away j stamp is own =
        other_server before_write stamp.trans.server (write_law (Applies j stamp) is).application.elsewhere (own ∙ sym p.here ∙ sym (server_after (event_deeds s x r (a ∷ b ∷ [])) s))

    commit_finds : (stamp : Stamp) (js : List JoinNo) → act_deeds s x a ≡ Decides stamp js ∷ [] → FindsCommit (halted s (record { event = x; reply = r; acts = a ∷ b ∷ [] })) stamp.ts
    commit_finds stamp js is =
        let may : MayDecide x before_write stamp js = (write_law (Decides stamp js) is).decision in
        let aside : AllByRecursion IsAside (event_deeds s x r (a ∷ b ∷ [])) = decides_aside s x r (a ∷ b ∷ []) stamp.trans may.asked in
        let same_before : before_write.holder ≡ s.holder = aside_after (event_deeds s x r (a ∷ b ∷ [])) s aside in
        let (l, live, unvoted) = may.live in
        let here : s.holder.lives stamp.trans ≡ Some l = ap (λ (h : Holder). h.lives stamp.trans) (sym same_before) ∙ live in
        let clock_is : before_write.holder.clock ≡ s.holder.clock = ap (λ (h : Holder). h.clock) same_before in
        record {
          stamp = stamp;
          life = l;
          is = refl;
          own = may.own ∙ ap (λ (h : Holder). h.server) same_before ∙ p.here;
          late = (let time : stamp.ts ≡ latest_vote (before_write.holder.clock + 1) may.votes = may.time in omega (arith, time, clock_is, latest-after (before_write.holder.clock + 1) may.votes));
          live = here;
          found = λ ready clock stamps.
              around s x r (a ∷ b ∷ []) aside ready clock stamps ∙ ap (λ (ds : List Deed). found_after s.holder ready clock stamps ds) (only_write (Decides stamp js) is)
              ∙ by_clock stamp js (nat_le stamp.ts clock) ∙ ap (λ (o : Option Life). cond (nat_le stamp.ts clock) (commits s.holder stamp o) s.holder) here;
        }
      where
        by_clock : (stamp : Stamp) (js : List JoinNo) (c : Bool) → state_after holder_after s.holder (cond c (Decides stamp js ∷ []) []) ≡ cond c (commits s.holder stamp (s.holder.lives stamp.trans)) s.holder
        by_clock stamp js true = refl
        by_clock stamp js false = refl

  -- the entry in which it went down
  halted_finds : (s : State) (x : Event) (r : Option Reply) (acts : List Act) → IsPlain s.holder → Along state_deed (IsLawfulDeed x) s (event_deeds s x r acts ++ flat_map (act_deeds s x) acts ++ done_deeds s x r) → IsStopped acts
      → FindsFor (halted s (record { event = x; reply = r; acts = acts })) (seen_from none_seen acts).tried
  halted_finds s x r [] p law stopped = absurd stopped
  halted_finds s x r (a ∷ []) p law stopped =
      subst (FindsFor (halted s (record { event = x; reply = r; acts = a ∷ [] }))) (sym (stop_seen a none_seen stopped))
      (finds_none s x r (a ∷ []) p (subst (AllByRecursion IsTame) (sym (stop_none a s x stopped)) tt))
  halted_finds s x r (act.Decided stamp js ∷ b ∷ []) p law stopped =
      subst (FindsFor (halted s (record { event = x; reply = r; acts = act.Decided stamp js ∷ b ∷ [] }))) (sym (stop_seen b (with_act none_seen (act.Decided stamp js)) stopped.1))
      (commit_finds s x r (act.Decided stamp js) b p stopped.1 law stamp js refl)
  halted_finds s x r (act.Readied t j ts ∷ b ∷ []) p law stopped =
      subst (FindsFor (halted s (record { event = x; reply = r; acts = act.Readied t j ts ∷ b ∷ [] }))) (sym (stop_seen b none_seen stopped.1)) (write_none s x r (act.Readied t j ts) b p stopped.1 law (Readies j t ts) refl tt)
  halted_finds s x r (act.Applied j stamp ∷ b ∷ []) p law stopped =
      subst (FindsFor (halted s (record { event = x; reply = r; acts = act.Applied j stamp ∷ b ∷ [] }))) (sym (stop_seen b none_seen stopped.1))
      (write_none s x r (act.Applied j stamp) b p stopped.1 law (Applies j stamp) refl (applied_away s x r (act.Applied j stamp) b p stopped.1 law j stamp refl))
  halted_finds s x r (act.Forgot t ∷ b ∷ []) p law stopped =
      subst (FindsFor (halted s (record { event = x; reply = r; acts = act.Forgot t ∷ b ∷ [] }))) (sym (stop_seen b none_seen stopped.1)) (write_none s x r (act.Forgot t) b p stopped.1 law (Forgets t) refl tt)
  halted_finds s x r (w ∷ b ∷ []) p law stopped = (let wrong : false ≡ true = stopped.0 in cc)
  halted_finds s x r (a ∷ b ∷ c ∷ acts) p law stopped = absurd stopped

  -- ---- what is counted behind an entry

  module _ (noted : ℕ) where
    -- behind so many entries that are no restarts; at the opening so many transactions of earlier runs were known
    record IsTallied (s : State) (t : Tally) (steps : ℕ) : Type 0 where
      plain : IsPlain s.holder
      finds : FindsFor s t.tried
      begun : t.begun + noted ≡ length s.begun
      committed : t.committed ≡ own_count n s.holder.applied
      few : t.begun ≤ steps
      little : t.committed + count_of t.tried ≤ steps
      most : steps ≤ 65536

    -- these numbers are those
    retally : (s : State) (steps a b c d : ℕ) → a ≡ b → c ≡ d → IsTallied s (record { begun = a; committed = c; tried = None }) steps → IsTallied s (record { begun = b; committed = d; tried = None }) steps
    retally s steps a b c d one two h =
        subst (λ (m : ℕ). IsTallied s (record { begun = b; committed = m; tried = None }) steps) two (subst (λ (m : ℕ). IsTallied s (record { begun = m; committed = c; tried = None }) steps) one h)

    module _ (s : State) (t : Tally) (steps : ℕ) (h : IsTallied s t steps) where
      -- ---- one entry more that is no restart

      module _ (x : Event) (r : Option Reply) (acts : List Act) (law : IsLawfulEntry s (record { event = x; reply = r; acts = acts })) (none : list_any regained_by acts ≡ false)
          (deeds : Along state_deed (IsLawfulDeed x) s (tried s (record { event = x; reply = r; acts = acts }))) (low : steps < 65536) where
        abbrev made_now : Entry
        made_now = record { event = x; reply = r; acts = acts }

        abbrev seen_now : Seen
        seen_now = seen_from none_seen acts

        drawn_few : length (flat_map drawn_by acts) ≤ 1
        drawn_few = (let long : length (flat_map drawn_by acts) ≡ length (begun_new s x r) = ap (λ (ts : List TransId). length ts) law.drawn in omega (arith, long, few_new s x r))

        decided_few : length (flat_map decided_by acts) ≤ 1
        decided_few =
            let long : length (flat_map decides_in (tried s made_now)) ≡ length (flat_map decided_by acts) = ap (λ (ts : List Stamp). length ts) (tried_decides s x r acts none) in
            let few : length (flat_map decides_in (tried s made_now)) ≤ 1 = few_decides x (tried s made_now) s deeds in
            omega (arith, long, few)

        tallied_stop : stops made_now ≡ true → IsTallied (halted s made_now) (record t { tried = seen_now.tried }) (steps + 1)
        tallied_stop stop = record {
          plain = h.plain;
          finds = halted_finds s x r acts h.plain deeds (subst (λ (b : Bool). Where b (IsStopped acts × TellsStop x r) (Unit {0})) stop law.stopped).0;
          begun = h.begun;
          committed = h.committed;
          few = (let up : t.begun ≤ steps = h.few in omega (arith, up));
          little = (let up : t.committed + count_of t.tried ≤ steps = h.little in omega (arith, up, count_few seen_now.tried));
          most = omega (arith, low);
        }

        grown : Grows s (did s made_now) (length (flat_map drawn_by acts)) (length (flat_map decided_by acts))
        grown =
            subst (λ (m : ℕ). Grows s (did s made_now) m (length (flat_map decided_by acts))) (ap (λ (ts : List TransId). length ts) (tried_begun s x r acts none ∙ drawn_begun s x r acts law))
            (subst (λ (m : ℕ). Grows s (did s made_now) (length (flat_map begun_by (tried s made_now))) m) (ap (λ (ts : List Stamp). length ts) (tried_decides s x r acts none))
            (deeds_grow x (tried s made_now) s deeds (tried_starts s x r acts none) h.plain))

        seen_more : seen_now.begun ≡ length (flat_map drawn_by acts)
        seen_more = seen_begun none_seen acts (omega (arith, drawn_few)) ∙ omega arith

        seen_done : seen_now.committed ≡ length (flat_map decided_by acts)
        seen_done = seen_committed none_seen acts (omega (arith, decided_few)) ∙ omega arith

        tallied_go : IsTallied (told s made_now) (record { begun = sum_of t.begun seen_now.begun; committed = sum_of t.committed seen_now.committed; tried = None }) (steps + 1)
        tallied_go =
            let one : length (did s made_now).begun ≡ length s.begun + length (flat_map drawn_by acts) = grown.begun_more in
            let two : own_count n (did s made_now).holder.applied ≡ own_count n s.holder.applied + length (flat_map decided_by acts) = grown.committed_more in
            let was : t.begun + noted ≡ length s.begun = h.begun in
            let had : t.committed ≡ own_count n s.holder.applied = h.committed in
            let up : t.begun ≤ steps = h.few in
            let most : t.committed + count_of t.tried ≤ steps = h.little in
            record {
              plain = grown.plain;
              finds = λ ready clock stamps. calmed_same (told s made_now).holder grown.plain;
              begun = omega (arith, one, was, up, low, seen_more, drawn_few);
              committed = omega (arith, two, had, most, low, seen_done, decided_few);
              few = omega (arith, up, low, seen_more, drawn_few);
              little = omega (arith, most, low, seen_done, decided_few);
              most = omega (arith, low);
            }

        tallied_by : (b : Bool) → stops made_now ≡ b → IsTallied (cond b (halted s made_now) (told s made_now)) (with_seen t seen_now) (steps + 1)
        tallied_by true stop =
            subst (λ (b : Bool). IsTallied (halted s made_now) (tally_by b (is_made t.tried seen_now.found) t seen_now) (steps + 1)) (sym (seen_stops none_seen acts ∙ stop)) (tallied_stop stop)
        tallied_by false goes =
            subst (λ (b : Bool). IsTallied (told s made_now) (tally_by b (is_made t.tried seen_now.found) t seen_now) (steps + 1)) (sym (seen_stops none_seen acts ∙ goes))
            (subst (λ (b : Bool). IsTallied (told s made_now) (tally_by false b t seen_now) (steps + 1)) (sym (ap (is_made t.tried) (seen_found none_seen acts none) ∙ made_none t.tried)) tallied_go)

        tallied_entry : IsTallied (next s made_now) (with_seen t seen_now) (steps + 1)
        tallied_entry = tallied_by (stops made_now) refl

      -- ---- a restart

      module _ (r : Option Reply) (epoch clock : ℕ) (ready : List JoinNo) (stamps : List Stamp) (law : (epoch ≡ s.ids.epoch + 1) × IsFound (state_after state_deed s (resolved s ready clock stamps)) clock ready stamps) where
        abbrev again : Entry
        again = record { event = event.Restart; reply = r; acts = act.Regained epoch clock ready stamps ∷ [] }

        abbrev found_then : State
        found_then = state_after state_deed s (resolved s ready clock stamps)

        found_holder : found_then.holder ≡ found_after s.holder ready clock stamps s.pending
        found_holder = holders-after (resolved s ready clock stamps) s

        effective_begun : (d : Deed) → is_effective ready clock stamps d ≡ true → begun_by d ≡ []
        effective_begun (Begins u client who seen) is = (let wrong : false ≡ true = is in cc)
        effective_begun d is = refl

        -- what is found began nothing
        found_begun : (ds : List Deed) (z : State) → (state_after state_deed z (filter (is_effective ready clock stamps) ds)).begun ≡ z.begun
        found_begun [] z = refl
        found_begun (d ∷ ds) z = go (is_effective ready clock stamps d) refl (found_begun ds)
          where
            go : (b : Bool) → is_effective ready clock stamps d ≡ b → ((y : State) → (state_after state_deed y (filter (is_effective ready clock stamps) ds)).begun ≡ y.begun)
                → (state_after state_deed z (cond b (d ∷ filter (is_effective ready clock stamps) ds) (filter (is_effective ready clock stamps) ds))).begun ≡ z.begun
            go true is more = more (state_deed z d) ∙ ap (λ (ts : List TransId). z.begun ++ ts) (effective_begun d is) ∙ append-nil z.begun
            go false is more = more z

        -- all deeds of the entry
        again_did : (ds : List Deed) (z : State) → state_after state_deed z (((ds ++ Restarts epoch clock ∷ []) ++ []) ++ []) ≡ state_deed (state_after state_deed z ds) (Restarts epoch clock)
        again_did [] z = refl
        again_did (d ∷ ds) z = again_did ds (state_deed z d)

        ready_early : (o : Option Life) (l : Life) → ((k : Life) → o ≡ Some k → k.is_early ≡ false) → if_ready o ≡ Some l → l.is_early ≡ false
        ready_early None l was is = (let wrong : None ≡ Some l = is in cc)
        ready_early (Some k) l was is = by_vote (is_some k.vote) is
          where
            by_vote : (b : Bool) → cond {A = Option Life} b (Some k) None ≡ Some l → l.is_early ≡ false
            by_vote true is = ap (λ (x : Life). x.is_early) (sym (some-same k l is)) ∙ was k refl
            by_vote false is = (let wrong : None ≡ Some l = is in cc)

        -- behind it, where so many are committed
        tallied_found : (m : ℕ) → IsPlain found_then.holder → own_count n found_then.holder.applied ≡ m → m ≤ steps → IsTallied (told s again) (record { begun = t.begun; committed = m; tried = None }) steps
        tallied_found m plain many up =
            let all : did s again ≡ state_deed found_then (Restarts epoch clock) = again_did (resolved s ready clock stamps) s in
            let after : IsPlain (did s again).holder = subst (λ (z : State). IsPlain z.holder) (sym all) (record {
              here = plain.here;
              clear = λ u l is own. ready_early (found_then.holder.lives u) l (λ k at. plain.clear u k at own) is;
              order = omega arith;
              earlier = subst (λ (k : ℕ). AreEarlier k found_then.holder.applied) (sym law.1.clock) plain.earlier;
            }) in
            record {
              plain = after;
              finds = λ ready clock stamps. calmed_same (told s again).holder after;
              begun = h.begun ∙ ap (λ (ts : List TransId). length ts) (sym (found_begun s.pending s) ∙ sym (append-nil found_then.begun)) ∙ ap (λ (z : State). length z.begun) (sym all);
              committed = sym many ∙ ap (λ (z : State). own_count n z.holder.applied) (sym all);
              few = h.few;
              little = omega (arith, up);
              most = h.most;
            }

        -- nothing more is committed then
        tallied_same : IsCalmed s.holder found_then.holder → IsTallied (told s again) (record { begun = sum_of t.begun 0; committed = sum_of t.committed 0; tried = None }) steps
        tallied_same calm =
            let low : t.begun ≤ steps = h.few in
            let most : steps ≤ 65536 = h.most in
            let little : t.committed + count_of t.tried ≤ steps = h.little in
            retally (told s again) steps t.begun (sum_of t.begun 0) t.committed (sum_of t.committed 0) (omega (arith, low, most)) (omega (arith, little, most))
            (tallied_found t.committed calm.plain (calm.same ∙ sym h.committed) (omega (arith, little)))

        by_time : (time : ℕ) → t.tried ≡ Some time → FindsCommit s time → (b : Bool) → nat_le time clock ≡ b
            → IsTallied (told s again) (record { begun = sum_of t.begun 0; committed = cond b (one_more (sum_of t.committed 0)) (sum_of t.committed 0); tried = None }) steps
        by_time time is finds false late =
            let same : found_then.holder ≡ s.holder = found_holder ∙ finds.found ready clock stamps ∙ ap (λ (b : Bool). cond b (commits s.holder finds.stamp (Some finds.life)) s.holder) late in
            tallied_same (subst (IsCalmed s.holder) (sym same) (calmed_same s.holder h.plain))
        by_time time is finds true come =
            let same : found_then.holder ≡ commits s.holder finds.stamp (Some finds.life) = found_holder ∙ finds.found ready clock stamps ∙ ap (λ (b : Bool). cond b (commits s.holder finds.stamp (Some finds.life)) s.holder) come in
            let done : HasCommitted s.holder (commits s.holder finds.stamp (Some finds.life)) = commit_more s.holder finds.stamp finds.life h.plain finds.live finds.own finds.late in
            let low : t.begun ≤ steps = h.few in
            let most : steps ≤ 65536 = h.most in
            let one : count_of t.tried ≡ 1 = ap count_of is in
            let little : t.committed + count_of t.tried ≤ steps = h.little in
            let had : t.committed ≡ own_count n s.holder.applied = h.committed in
            let more : own_count n (commits s.holder finds.stamp (Some finds.life)).applied ≡ own_count n s.holder.applied + 1 = done.more in
            let many : own_count n found_then.holder.applied ≡ own_count n (commits s.holder finds.stamp (Some finds.life)).applied = ap (λ (g : Holder). own_count n g.applied) same in
            retally (told s again) steps t.begun (sum_of t.begun 0) (t.committed + 1) (one_more (sum_of t.committed 0)) (omega (arith, low, most)) (omega (arith, little, one, most))
            (tallied_found (t.committed + 1) (subst IsPlain (sym same) done.plain) (omega (arith, many, more, had)) (omega (arith, little, one)))

        -- by what was tried before
        by_tried : (o : Option ℕ) → t.tried ≡ o → FindsFor s o
            → IsTallied (told s again) (record { begun = sum_of t.begun 0; committed = cond (is_made o (Some clock)) (one_more (sum_of t.committed 0)) (sum_of t.committed 0); tried = None }) steps
        by_tried None is finds = tallied_same (subst (IsCalmed s.holder) (sym found_holder) (finds ready clock stamps))
        by_tried (Some time) is finds = by_time time is finds (nat_le time clock) refl

        tallied_again : IsTallied (next s again) (with_seen t (seen_from none_seen (act.Regained epoch clock ready stamps ∷ []))) steps
        tallied_again = by_tried t.tried refl h.finds

      -- ---- any entry

      -- so many are no restarts then
      record IsNextTally (e : Entry) (at : ℕ) : Type 0 where
        most_now : ℕ
        within : most_now ≤ at + 1
        tallied : IsTallied (next s e) (with_seen t (seen_from none_seen e.acts)) most_now

      next_step : (x : Event) (r : Option Reply) (acts : List Act) (at : ℕ) → IsLawfulEntry s (record { event = x; reply = r; acts = acts }) → list_any regained_by acts ≡ false
          → Along state_deed (IsLawfulDeed x) s (tried s (record { event = x; reply = r; acts = acts })) → steps ≤ at → at < 65536 → IsNextTally (record { event = x; reply = r; acts = acts }) at
      next_step x r acts at law none deeds up low = record { most_now = steps + 1; within = omega (arith, up); tallied = tallied_entry x r acts law none deeds (omega (arith, up, low)) }

      next_restart : (r : Option Reply) (acts : List Act) (at : ℕ) → Regains s acts → steps ≤ at → IsNextTally (record { event = event.Restart; reply = r; acts = acts }) at
      next_restart r (act.Regained epoch clock ready stamps ∷ []) at law up = record { most_now = steps; within = omega (arith, up); tallied = tallied_again r epoch clock ready stamps law }
      next_restart r [] at law up = absurd law
      next_restart r (act.Regained epoch clock ready stamps ∷ a ∷ acts) at law up = absurd law
      next_restart r (act.Sent to m ∷ acts) at law up = absurd law
      next_restart r (act.Granted u ∷ acts) at law up = absurd law
      next_restart r (act.Drawn u ∷ acts) at law up = absurd law
      next_restart r (act.Registered u j ∷ acts) at law up = absurd law
      next_restart r (act.Readied u j ts ∷ acts) at law up = absurd law
      next_restart r (act.Decided x js ∷ acts) at law up = absurd law
      next_restart r (act.Applied j x ∷ acts) at law up = absurd law
      next_restart r (act.Released u ∷ acts) at law up = absurd law
      next_restart r (act.Forgot u ∷ acts) at law up = absurd law
      next_restart r (act.Stopped ∷ acts) at law up = absurd law
      next_restart r (act.Failed ∷ acts) at law up = absurd law

      next_tally : (x : Event) (r : Option Reply) (acts : List Act) (at : ℕ) → IsLawfulEntry s (record { event = x; reply = r; acts = acts }) → (x ≡ event.Restart) ⊎ (at < 65536) → steps ≤ at → IsNextTally (record { event = x; reply = r; acts = acts }) at
      next_tally event.Restart r acts at law fits up = next_restart r acts at law.restart.0 up
      next_tally (event.Call client epoch number c) r acts at law (inl is) up = (let wrong : event.Call client epoch number c ≡ event.Restart = is in cc)
      next_tally (event.Call client epoch number c) r acts at law (inr low) up = next_step (event.Call client epoch number c) r acts at law law.restart.0 law.deeds up low
      next_tally (event.Arrive from m) r acts at law (inl is) up = (let wrong : event.Arrive from m ≡ event.Restart = is in cc)
      next_tally (event.Arrive from m) r acts at law (inr low) up = next_step (event.Arrive from m) r acts at law law.restart.0 law.deeds up low
      next_tally (event.Timeout u) r acts at law (inl is) up = (let wrong : event.Timeout u ≡ event.Restart = is in cc)
      next_tally (event.Timeout u) r acts at law (inr low) up = next_step (event.Timeout u) r acts at law law.restart.0 law.deeds up low
      next_tally event.Tick r acts at law (inl is) up = (let wrong : event.Tick ≡ event.Restart = is in cc)
      next_tally event.Tick r acts at law (inr low) up = next_step event.Tick r acts at law law.restart.0 law.deeds up low
      next_tally event.Force r acts at law (inl is) up = (let wrong : event.Force ≡ event.Restart = is in cc)
      next_tally event.Force r acts at law (inr low) up = next_step event.Force r acts at law law.restart.0 law.deeds up low

    -- ---- a journal

    record AreTallied (s : State) (t : Tally) : Type 0 where
      steps : ℕ
      tallied : IsTallied s t steps

    all_tallied : (es : List Entry) (s : State) (t : Tally) (steps at : ℕ) → Along next IsLawfulEntry s es → FitsFrom at es → IsTallied s t steps → steps ≤ at → AreTallied (state_after next s es) (tally_from t es)
    all_tallied [] s t steps at law fits h up = record { steps = steps; tallied = h }
    all_tallied (e ∷ es) s t steps at law fits h up =
        let more : IsNextTally s t steps h e at = next_tally s t steps h e.event e.reply e.acts at law.0 (first (fits 0 e refl)) up in
        all_tallied es (next s e) (with_seen t (seen_from none_seen e.acts)) more.most_now (at + 1) law.1 (λ i f is. later i f (fits (suc i) f is)) more.tallied more.within
      where
        first : (e.event ≡ event.Restart) ⊎ (at + 0 < entries_limit) → (e.event ≡ event.Restart) ⊎ (at < 65536)
        first (inl is) = inl is
        first (inr low) = inr (omega (arith, low))

        later : (i : ℕ) (f : Entry) → (f.event ≡ event.Restart) ⊎ (at + suc i < entries_limit) → (f.event ≡ event.Restart) ⊎ (at + 1 + i < entries_limit)
        later i f (inl is) = inl is
        later i f (inr low) = inr (omega (arith, low))

fits_first : (es : List Entry) → FitsJournal es → FitsFrom 0 es
fits_first es fits i e is = go (fits i e is)
  where
    go : (e.event ≡ event.Restart) ⊎ (i < entries_limit) → (e.event ≡ event.Restart) ⊎ (0 + i < entries_limit)
    go (inl restart) = inl restart
    go (inr low) = inr (omega (arith, low))

module _ (o : Start) (away : (r : ReadyNote) → IsIn r o.ready → r.trans.server ≡ o.server → ⊥) where
  none_early : (t : TransId) (l : Life) → lives_noted o.ready t ≡ Some l → t.server ≡ o.server → l.is_early ≡ false
  none_early t l is own = (let (r, there, its, life) = note-of o.ready t l is in absurd (away r there (ap (λ (u : TransId). u.server) its ∙ own)))

  opened_plain : IsPlain o.server (opened o).holder
  opened_plain = record { here = refl; clear = none_early; order = omega arith; earlier = tt }

  none_tallied : IsTallied o.server (length o.decisions) (opened o) no_tally 0
  none_tallied = record {
    plain = opened_plain;
    finds = λ ready clock stamps. calmed_same o.server (opened o).holder opened_plain;
    begun = omega (arith, length-map o.decisions (λ (d : DecisionNote). d.stamp.trans));
    committed = refl;
    few = omega arith;
    little = omega arith;
    most = omega arith;
  }

-- what is counted is what the state has, and the numbers are small
pub record IsCounted (o : Start) (s : State) (t : Tally) : Type 0 where
  pub begun : t.begun + length o.decisions ≡ length s.begun
  pub committed : t.committed ≡ own_count o.server s.holder.applied
  pub few : t.begun ≤ 65536
  pub little : t.committed ≤ 65536

-- what the journal of a server counts that opened with no ready part of its own transactions
pub tally_is : (o : Start) (es : List Entry) → ((r : ReadyNote) → IsIn r o.ready → r.trans.server ≡ o.server → ⊥) → IsLawful o es → FitsJournal es → IsCounted o (state_after next (opened o) es) (tally_in es)
tally_is o es away law fits =
    let all : AreTallied o.server (length o.decisions) (state_after next (opened o) es) (tally_in es) = all_tallied o.server (length o.decisions) es (opened o) no_tally 0 0 law (fits_first es fits) (none_tallied o away) (omega arith) in
    let few : (tally_in es).begun ≤ all.steps = all.tallied.few in
    let little : (tally_in es).committed + count_of (tally_in es).tried ≤ all.steps = all.tallied.little in
    let most : all.steps ≤ 65536 = all.tallied.most in
    record { begun = all.tallied.begun; committed = all.tallied.committed; few = omega (arith, few, most); little = omega (arith, little, most) }

-- ---- one more

seen_append : (z : Seen) (xs ys : List Act) → seen_from z (xs ++ ys) ≡ seen_from (seen_from z xs) ys
seen_append z [] ys = refl
seen_append z (a ∷ xs) ys = seen_append (with_act z a) xs ys

pub seen_push : (acts : List Act) (i : ℕ) (a : Act) → i < length acts → a ≡ get_or acts i a → seen_from none_seen (take (i + 1) acts) ≡ with_act (seen_from none_seen (take i acts)) a
seen_push acts i a h is = ap (seen_from none_seen) (take_more acts i a h ∙ ap (λ (x : Act). take i acts ++ x ∷ []) (sym is)) ∙ seen_append none_seen (take i acts) (a ∷ [])

tally_append : (t : Tally) (es fs : List Entry) → tally_from t (es ++ fs) ≡ tally_from (tally_from t es) fs
tally_append t [] fs = refl
tally_append t (e ∷ es) fs = tally_append (with_seen t (seen_from none_seen e.acts)) es fs

pub tally_push : (es : List Entry) (i : ℕ) (e : Entry) → i < length es → e ≡ get_or es i e → tally_in (take (i + 1) es) ≡ with_seen (tally_in (take i es)) (seen_from none_seen e.acts)
tally_push es i e h is = ap tally_in (take_more es i e h ∙ ap (λ (x : Entry). take i es ++ x ∷ []) (sym is)) ∙ tally_append no_tally (take i es) (e ∷ [])
