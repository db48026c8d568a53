-- What was brought, one turn after the other.
use Rattle.std.proofs.Common.{◌≡◌, ℕ, ◌+◌, ◌≤◌, List, [], ◌++◌, length, sym, ap, ◌∙◌, subst, arith, length-append}
use mathlib.Core.List.{IsPrefix, append-nil, append_assoc}
use Rattle.alp_monitor.specs.Passes.{IsHeld, number, turns, front, first_base}
use Rattle.alp_monitor.specs.declared.monitor.Monitor.{Monitor}
use Rattle.alp_monitor.specs.declared.monitor.Pass.{Pass}
use Rattle.alp_carrier.specs.Sights.{Sight, IsArrival}
use Rattle.alp_carrier.specs.Takes.{IsLater}
use Rattle.alp_carrier.specs.Brings.{IsPrevented, Came, IsMissed, AreBrought, nothing, one_came, one_missed, Brings, counted}
use Rattle.alp_carrier.specs.declared.steps.Delivery.{Delivery}
use Rattle.alp_carrier.specs.declared.taken.Taken.{Taken}
use Rattle.alp_carrier.proofs.Fronts.{begins_itself, begins_through, not_longer, same_entries}

module _ {B E : Type 0} (sight : Sight B E) (b : B) (from : ℕ) where
  came_longer : (f g : List (ℕ × E)) (x : Taken) (t : ℕ × E) → IsPrefix f g → Came sight b from x f t → Came sight b from x g t
  came_longer f g x t p c =
      let low : t.0 ≤ length f = (let w = c.within in omega (arith, w)) in
      record {
        within = (let w = c.within in let n = not_longer f g (t.0 + 1) p (omega (arith, w)) in omega (arith, n));
        brought = subst (λ (es : List E). IsArrival sight b from x.message x.seen es t.1) (same_entries f g t.0 p low) c.brought;
      }

  abbrev missed_longer : (f g : List (ℕ × E)) (x : Taken) → IsPrefix f g → IsMissed sight b from x f → IsMissed sight b from x g
  missed_longer f g x p m = record {
    after = m.after;
    within = not_longer f g m.after p m.within;
    why = subst (λ (es : List E). IsPrevented sight b from x es) (same_entries f g m.after p m.within) m.why;
  }

  -- from a later place on is from an earlier one on
  brought_from : (g : List (ℕ × E)) (k n : ℕ) (ys : List Taken) (us : List (ℕ × E)) → k ≤ n → AreBrought sight b from g n ys us → AreBrought sight b from g k ys us
  brought_from g k n ys us low (nothing j) = nothing k
  brought_from g k n ys us low (one_came j x t zs vs above c more) = one_came k x t zs vs (omega (arith, low, above)) c more
  brought_from g k n ys us low (one_missed j x zs vs m above more) = one_missed k x zs vs m (omega (arith, low, above)) more

  -- first these, up to the end of the shorter history, and then those
  pub brought_both : (f g : List (ℕ × E)) (k : ℕ) (xs ys : List Taken) (ts us : List (ℕ × E)) → IsPrefix f g → k ≤ length f → AreBrought sight b from f k xs ts → AreBrought sight b from g (length f) ys us → AreBrought sight b from g k (xs ++ ys) (ts ++ us)
  brought_both f g k xs ys ts us p low (nothing j) other = brought_from g j (length f) ys us low other
  brought_both f g k xs ys ts us p low (one_came j x t zs vs above c more) other =
      one_came j x t (zs ++ ys) (vs ++ us) above (came_longer f g x t p c) (brought_both f g (t.0 + 1) zs ys vs us p (let w = c.within in omega (arith, w)) more other)
  brought_both f g k xs ys ts us p low (one_missed j x zs vs m above more) other = one_missed j x (zs ++ ys) (vs ++ us) (missed_longer f g x p m) above (brought_both f g m.after zs ys vs us p m.within more other)

counted_both : (a n m : ℕ) → counted (counted a n) m ≡ counted a (n + m)
counted_both a n m = omega arith

module _ {S B E : Type 0} (base_of : S → B) (m : Monitor S B E) where
  pub still_later : (p : Pass S B E) → IsHeld base_of m (number p) p → IsLater base_of m p p
  still_later p h = record { held = h; begins = begins_itself (front p) }

  pub later_through : (p q r : Pass S B E) → IsLater base_of m p q → IsLater base_of m q r → IsLater base_of m p r
  later_through p q r one two = record {
    held = subst (λ k. IsHeld base_of m k r) one.held.ready.number_is two.held;
    begins = begins_through (front p) (front q) (front r) one.begins two.begins;
  }

  pub held_itself : (p q : Pass S B E) → IsLater base_of m p q → IsHeld base_of m (number q) q
  held_itself p q l = subst (λ k. IsHeld base_of m k q) (sym l.held.ready.number_is) l.held

module _ {S B E : Type 0} (base_of : S → B) (sight : Sight B E) (m : Monitor S B E) (from : ℕ) where
  pub brings_none : (d : Delivery S B E) → IsHeld base_of m (number d.pass) d.pass → Brings base_of sight m from d d []
  brings_none d h = record {
    later = still_later base_of m d.pass h;
    more = [];
    turns_are = sym (append-nil (turns d.pass));
    brought = nothing (length (front d.pass));
    missed = 0;
    missed_is = omega arith;
    lost_is = omega arith;
  }

  -- first these, and then those
  pub brings_both : (d e f : Delivery S B E) (xs ys : List Taken) → Brings base_of sight m from d e xs → Brings base_of sight m from e f ys → Brings base_of sight m from d f (xs ++ ys)
  brings_both d e f xs ys one two =
      let low : length (front d.pass) ≤ length (front e.pass) = not_longer (front d.pass) (front e.pass) (length (front d.pass)) one.later.begins (omega arith) in
      record {
        later = later_through base_of m d.pass e.pass f.pass one.later two.later;
        more = one.more ++ two.more;
        turns_are = two.turns_are ∙ (ap (λ ts. ts ++ two.more) one.turns_are ∙ append_assoc (turns d.pass) one.more two.more);
        brought = brought_both sight (first_base base_of m) from (front e.pass) (front f.pass) (length (front d.pass)) xs ys one.more two.more two.later.begins low one.brought two.brought;
        missed = one.missed + two.missed;
        missed_is = (let a = one.missed_is in let b = two.missed_is in let more = length-append one.more two.more in let all = length-append xs ys in omega (arith, a, b, more, all));
        lost_is = two.lost_is ∙ (ap (λ i. counted i two.missed) one.lost_is ∙ counted_both d.lost one.missed two.missed);
      }
