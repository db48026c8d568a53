-- what one turn of a worker tells
use Rattle.std.specs.Prelude.{◌⊎◌, Some, Result, Ok, Err, IfOk, IfErr}
use Rattle.std.specs.List.{list_any}
use Rattle.std.proofs.Common.{inl, inr, ◌≡◌, ℕ, ◌+◌, ◌<◌, ◌≤◌, List, [], ◌∷◌, ◌++◌, length, take, true, refl, sym, ap, ◌∙◌, subst, arith, length-append}
use mathlib.Core.List.{IsPrefix}
use lib.ListN.{length-map}
use Rattle.alp_journal.specs.Answered.{entries_limit}
use Rattle.alp_journal.specs.declared.event.Event.{Event}
use Rattle.alp_monitor.specs.History.{entries_in, entry_of, turns_of, AddsAtMostOne}
use Rattle.alp_monitor.specs.Passes.{IsHeld, IsSamePass, IsOutside, base_of_pass, number, front, turns, first_base}
use Rattle.alp_monitor.specs.declared.monitor.Monitor.{Monitor}
use Rattle.alp_monitor.specs.declared.monitor.Pass.{Pass}
use Rattle.alp_carrier.specs.Takes.{IsLater}
use Rattle.alp_storm.proofs.Fronts.{begins_through, same_entries, all_entries, same_some}
use Rattle.alp_storm.specs.Logs.{Log, IsMadeOf, HasAnswered, HasFailed, EndsStep, has_failed, shows_fault}
use Rattle.alp_storm.specs.Turns.{WasMade, WasAnswered, IsIdle, IsBroken, HasTaken, EndsTurn, Took}
use Rattle.alp_storm.specs.declared.fault.StormFault.{StormFault}
use Rattle.alp_storm.specs.declared.fault.StormFault.TheVariants as fault
use Rattle.alp_storm.specs.declared.host.Answer.{Answer}

module _ {S B E : Type 0} (base_of : S → B) (m : Monitor S B E) where
  -- a pass before, inside and after a turn
  pub later_turn : (p q r : Pass S B E) → IsHeld base_of m (number p) p → IsSamePass p q → IsPrefix (front p) (front q) → IsSamePass q r → IsOutside r → IsPrefix (front q) (front r) → IsLater base_of m p r
  later_turn p q r h one begins_one two outside begins_two = record {
    held = record { ready = record { own = two.table ∙ (one.table ∙ h.ready.own); outside = outside; number_is = two.number ∙ one.number }; base = two.base ∙ (one.base ∙ h.base) };
    begins = begins_through (front p) (front q) (front r) begins_one begins_two;
  }

  pub base_there : (p : Pass S B E) (y : S) → IsHeld base_of m (number p) p → base_of_pass p ≡ Some (base_of y) → base_of y ≡ first_base base_of m
  base_there p y h e = same_some (base_of y) (first_base base_of m) (sym e ∙ h.base)

module _ {B E : Type 0} (log : Log B E) (b : B) where
  -- a step adds one entry at most
  pub adds_one : (e : Event) (r : Result Answer StormFault) (before now : List E) → ((a : Answer) → r ≡ Ok a → HasAnswered log b before now e a) → ((f : StormFault) → r ≡ Err f → EndsStep log b before now e f) → AddsAtMostOne before now
  adds_one e (Ok a) before now ok err = (let h = ok a refl in inr (h.few, (h.entry, h.now_is)))
  adds_one e (Err (fault.DiskFault server)) before now ok err = elim (err (fault.DiskFault server) refl).1 [
    | inl h ↦ inr (h.few, (h.entry, h.now_is))
    | inr h ↦ inl h.0
  ]
  adds_one e (Err fault.OutOfMemory) before now ok err = inl (err fault.OutOfMemory refl)
  adds_one e (Err (fault.JournalFull server)) before now ok err = inl (err (fault.JournalFull server) refl).1
  adds_one e (Err (fault.NoServer server)) before now ok err = absurd (err (fault.NoServer server) refl)
  adds_one e (Err fault.BadFrame) before now ok err = absurd (err fault.BadFrame refl)

module _ {S B E : Type 0} (base_of : S → B) (log : Log B E) (m : Monitor S B E) (e : Event) (d p q : Pass S B E) (b : B) (before now : List E)
    (later : IsLater base_of m d q) (base : b ≡ first_base base_of m) (same : turns p ≡ turns d) (was : before ≡ entries_in (front p)) (numbered : number q ≡ number p) (begins : IsPrefix (front p) (front q))
    (none : now ≡ entries_in (front p) → front q ≡ front p) (entry : (x : E) → now ≡ entries_in (front p) ++ x ∷ [] → front q ≡ front p ++ (number p, x) ∷ [])
    (one : (x : E) → now ≡ entries_in (front p) ++ x ∷ [] → turns q ≡ turns p ++ (length (front p), x) ∷ []) where
  there : before ≡ take (length (front p)) (entries_in (front q))
  there = was ∙ (sym (all_entries (front p)) ∙ same_entries (front p) (front q) (length (front p)) begins (omega arith))

  added : (x : E) → now ≡ before ++ x ∷ [] → now ≡ entries_in (front p) ++ x ∷ []
  added x is = is ∙ ap (λ l. l ++ x ∷ []) was

  within : (x : E) → now ≡ before ++ x ∷ [] → length (front p) < length (front q)
  within x is = let n = ap length (entry x (added x is)) ∙ length-append (front p) ((number p, x) ∷ []) in omega (arith, n)

  long : length before ≡ length (front p)
  long = ap length was ∙ length-map (front p) entry_of

  idle : now ≡ before → IsIdle base_of log m d q
  idle is = record { later = later; none = (ap (λ k. turns_of k (front q)) numbered ∙ ap (turns_of (number p)) (none (is ∙ was))) ∙ same }

  made : (x : E) → now ≡ before ++ x ∷ [] → IsMadeOf log b before e x → WasMade log (first_base base_of m) (front q) e (length (front p), x)
  made x is h = record { within = within x is; made = subst (λ (y : B × List E). IsMadeOf log y.0 y.1 e x) (λ i. (base i, there i)) h }

  turned : (x : E) → now ≡ before ++ x ∷ [] → turns q ≡ turns d ++ (length (front p), x) ∷ []
  turned x is = one x (added x is) ∙ ap (λ l. l ++ (length (front p), x) ∷ []) same

  taken : (a : Answer) → HasAnswered log b before now e a → HasTaken base_of log m e d q a
  taken a h = record {
    later = later;
    turn = (length (front p), h.entry);
    one = turned h.entry h.now_is;
    was = record {
      was = made h.entry h.now_is h.made;
      reply_is = h.reply_is;
      calm = h.calm;
      place_is = h.place_is ∙ (λ i. log.since (base i) + long i);
      epoch_is = h.epoch_is ∙ ap log.epoch base;
      sendable = h.sendable;
    };
  }

  broken : HasFailed log b before now e → IsBroken base_of log m e d q
  broken h = record { later = later; turn = (length (front p), h.entry); one = turned h.entry h.now_is; was = made h.entry h.now_is h.made; shows = h.shows }

  -- what the pass saw then
  seen : now ≡ before → before ≡ entries_in (front q)
  seen is = was ∙ ap entries_in (sym (none (is ∙ was)))

  ends : (f : StormFault) → EndsStep log b before now e f → EndsTurn base_of log m e d q f
  ends (fault.DiskFault server) h = (
    h.0 ∙ ap log.server base,
    elim h.1 [
      | inl x ↦ inl (broken x)
      | inr x ↦ inr (idle x.0, sym (λ i. has_failed log (base i) (seen x.0 i)) ∙ x.1)
    ],
  )
  ends (fault.JournalFull server) h = (
    h.0 ∙ ap log.server base,
    idle h.1,
    subst (λ n. entries_limit ≤ n) (λ i. log.since (base i) + (ap length (seen h.1) ∙ length-map (front q) entry_of) i) h.2,
  )
  ends fault.OutOfMemory h = idle h
  ends (fault.NoServer server) h = absurd h
  ends fault.BadFrame h = absurd h

  pub took : (r : Result Answer StormFault) → ((a : Answer) → r ≡ Ok a → HasAnswered log b before now e a) → ((f : StormFault) → r ≡ Err f → EndsStep log b before now e f) → Took base_of log m e d q r
  took (Ok a) ok err = taken a (ok a refl)
  took (Err f) ok err = ends f (err f refl)

-- what holds of a result, by its value
module _ {T F : Type 0} where
  pub ok_of : (P : T → Type 0) (r : Result T F) → IfOk r P → (a : T) → r ≡ Ok a → P a
  ok_of P (Ok x) h a is = subst P (same_ok x a is) h
    where
      same_ok : (x y : T) → ◌≡◌ {A = Result T F} (Ok x) (Ok y) → x ≡ y
      same_ok x y e = cc
  ok_of P (Err f) h a is = (let wrong : ◌≡◌ {A = Result T F} (Err f) (Ok a) = is in cc)

  pub err_of : (P : F → Type 0) (r : Result T F) → IfErr r P → (f : F) → r ≡ Err f → P f
  err_of P (Err x) h f is = subst P (same_err x f is) h
    where
      same_err : (x y : F) → ◌≡◌ {A = Result T F} (Err x) (Err y) → x ≡ y
      same_err x y e = cc
  err_of P (Ok a) h f is = (let wrong : ◌≡◌ {A = Result T F} (Ok a) (Err f) = is in cc)
