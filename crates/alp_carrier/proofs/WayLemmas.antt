-- How a carrier goes on.
use Rattle.std.proofs.Common.{◌≡◌, ◌≢◌, ◌⊎◌, ℕ, ◌+◌, ◌≤◌, [], ◌∷◌, ◌++◌, length, None, true, false, sym, ap, ◌∙◌, subst, ⊎_elim, inl, inr, arith}
use Rattle.std.specs.Prelude.{IfSome, option_to_list}
use Rattle.alp_monitor.specs.History.{entries_in}
use Rattle.alp_monitor.specs.Passes.{IsHeld, number, front, turns, first_base}
use Rattle.alp_monitor.specs.declared.monitor.Monitor.{Monitor}
use Rattle.alp_monitor.specs.declared.monitor.Pass.{Pass}
use Rattle.alp_journal.specs.declared.message.Envelope.{Envelope}
use Rattle.alp_carrier.specs.Sights.{Sight, IsShown}
use Rattle.alp_carrier.specs.Plans.{dice_of, roll, fate_of, brought_by, delayed_by, plan_step, plan_steps}
use Rattle.alp_carrier.specs.Takes.{IsLater, addressed_to, sent_before, last_before, AreTaken}
use Rattle.alp_carrier.specs.Brings.{Brings}
use Rattle.alp_carrier.specs.OnWay.{unlost, IsReadyToGo, HasRolled, Finishes, IsOnWay, GoesOn}
use Rattle.alp_carrier.specs.Carries.{HasCarried}
use Rattle.alp_carrier.specs.declared.carrying.Carried.{Carried}
use Rattle.alp_carrier.specs.declared.carrying.Way.{Way}
use Rattle.alp_carrier.specs.declared.plan.Fate.{Fate}
use Rattle.alp_carrier.specs.declared.route.Route.{Route}
use Rattle.alp_carrier.specs.declared.taken.Taken.{Taken}
use Rattle.alp_carrier.proofs.BringLemmas.{still_later, later_through, held_itself, brings_none, brings_both}
use Rattle.alp_carrier.proofs.PlanLemmas.{steps_after, some_by}
use Rattle.alp_carrier.proofs.TakeLemmas.{taken_longer, taken_other, taken_one, drop_all}

module _ {S B E : Type 0} (base_of : S → B) (sight : Sight B E) (m : Monitor S B E) (from : ℕ) (x : Taken) where
  pub has_rolled : (f : Fate) (before now : Way S B E) → sight.is_timely x.message → f ≡ fate_of (roll before.dice).0 → now.sender ≡ before.sender → now.next ≡ before.next → now.dice ≡ (roll before.dice).1 → now.delayed ≡ delayed_by f x
      → Brings base_of sight m from before.delivery now.delivery (brought_by f x ++ option_to_list before.delayed) → HasRolled base_of sight m from x before now
  has_rolled f before now timely fate sender next_is dice delayed brings = record {
    sender = sender;
    next_is = next_is;
    dice = dice;
    delayed = delayed ∙ ap (λ g. delayed_by g x) fate;
    timely = subst (λ o. IfSome o (λ y. sight.is_timely y.message)) (sym delayed) (some_by (λ y. sight.is_timely y.message) f x timely);
    brings = subst (λ g. Brings base_of sight m from before.delivery now.delivery (brought_by g x ++ option_to_list before.delayed)) fate brings;
  }

module _ {S B E : Type 0} (base_of : S → B) (sight : Sight B E) (r : Route S B E) where
  -- nothing stands at the next place
  pub goes_nowhere : (w : Way S B E) (p : Pass S B E) → IsReadyToGo base_of sight r w → IsLater base_of r.from.now w.sender p → turns p ≡ turns w.sender → length (sent_before base_of sight r.from.now p) ≤ w.next → GoesOn base_of sight r w (record w { sender = p }) false
  goes_nowhere w p ready later looks all = record {
    ready = record { sender = held_itself base_of r.from.now w.sender p later; receiver = ready.receiver; delayed = ready.delayed };
    all = λ none. all;
    on = λ seed s q way. record {
      sends = later_through base_of r.from.now s w.sender p way.sends later;
      looks = looks ∙ way.looks;
      taken = way.taken;
      are_taken = taken_longer base_of sight r.from.now r.pair w.sender p w.next way.taken later.begins way.are_taken;
      brings = way.brings;
      dice = way.dice;
      delayed = way.delayed;
    };
  }

  took_some : {P : Type 0} → true ≡ false → P
  took_some e = absurd (let f : true ≡ false = e in cc)

  -- a message to another server does
  pub goes_past : (w : Way S B E) (p : Pass S B E) (e : Envelope) → IsReadyToGo base_of sight r w → IsLater base_of r.from.now w.sender p → turns p ≡ turns w.sender → e.to ≢ r.pair.to → IsShown sight (first_base base_of r.from.now) (entries_in (front p)) w.next e
      → GoesOn base_of sight r w (record w { sender = p; next = w.next + 1 }) true
  goes_past w p e ready later looks other shown = record {
    ready = record { sender = held_itself base_of r.from.now w.sender p later; receiver = ready.receiver; delayed = ready.delayed };
    all = λ none. took_some none;
    on = λ seed s q way. record {
      sends = later_through base_of r.from.now s w.sender p way.sends later;
      looks = looks ∙ way.looks;
      taken = way.taken;
      are_taken = taken_other base_of sight r.from.now r.pair p w.next way.taken e other shown (taken_longer base_of sight r.from.now r.pair w.sender p w.next way.taken later.begins way.are_taken);
      brings = way.brings;
      dice = way.dice;
      delayed = way.delayed;
    };
  }

  -- a message to the receiver does, and its roll was made
  pub goes_by_roll : (w v now : Way S B E) (p : Pass S B E) (e : Envelope) (seen : ℕ) → IsReadyToGo base_of sight r w → IsLater base_of r.from.now w.sender p → turns p ≡ turns w.sender → v ≡ record w { sender = p; next = w.next + 1 } → e.to ≡ r.pair.to
      → seen ≡ last_before base_of sight r.from.now p → IsShown sight (first_base base_of r.from.now) (entries_in (front p)) w.next e → HasRolled base_of sight r.to.now r.pair.from (record { message = e.message; seen = seen }) v now → GoesOn base_of sight r w now true
  goes_by_roll w v now p e seen ready later looks here is seen_is shown had =
      let x : Taken = record { message = e.message; seen = seen } in
      let at_sender : now.sender ≡ p = had.sender ∙ ap (λ (u : Way S B E). u.sender) here in
      let at_next : now.next ≡ w.next + 1 = had.next_is ∙ ap (λ (u : Way S B E). u.next) here in
      let brings : Brings base_of sight r.to.now r.pair.from w.delivery now.delivery (plan_step (w.dice, w.delayed) x).0 =
      subst (λ (u : Way S B E). Brings base_of sight r.to.now r.pair.from u.delivery now.delivery (plan_step (u.dice, u.delayed) x).0) here had.brings in
      let dice : now.dice ≡ (plan_step (w.dice, w.delayed) x).1.0 = had.dice ∙ ap (λ (u : Way S B E). (plan_step (u.dice, u.delayed) x).1.0) here in
      let delayed : now.delayed ≡ (plan_step (w.dice, w.delayed) x).1.1 = had.delayed ∙ ap (λ (u : Way S B E). (plan_step (u.dice, u.delayed) x).1.1) here in
      record {
        ready = record {
          sender = subst (λ q. IsHeld base_of r.from.now (number q) q) (sym at_sender) (held_itself base_of r.from.now w.sender p later);
          receiver = held_itself base_of r.to.now w.delivery.pass now.delivery.pass brings.later;
          delayed = had.timely;
        };
        all = λ none. took_some none;
        on = λ seed s q way.
            let lay : (w.dice, w.delayed) ≡ (plan_steps (dice_of seed, None) way.taken).1 = λ i. (way.dice i, way.delayed i) in
            let after = steps_after (dice_of seed, None) way.taken x in
            record {
              sends = subst (λ u. IsLater base_of r.from.now s u) (sym at_sender) (later_through base_of r.from.now s w.sender p way.sends later);
              looks = ap turns at_sender ∙ (looks ∙ way.looks);
              taken = way.taken ++ x ∷ [];
              are_taken = subst (λ (y : Pass S B E × ℕ). AreTaken base_of sight r.from.now r.pair y.1 y.0 (way.taken ++ x ∷ [])) (λ i. (sym at_sender i, sym at_next i))
                  (taken_one base_of sight r.from.now r.pair p w.next seen way.taken e is seen_is shown (taken_longer base_of sight r.from.now r.pair w.sender p w.next way.taken later.begins way.are_taken));
              brings = subst (λ l. Brings base_of sight r.to.now r.pair.from (unlost q) now.delivery l) (sym (ap (λ y. y.0) after))
                  (brings_both base_of sight r.to.now r.pair.from (unlost q) w.delivery now.delivery (plan_steps (dice_of seed, None) way.taken).0 (plan_step (plan_steps (dice_of seed, None) way.taken).1 x).0 way.brings
                  (subst (λ y. Brings base_of sight r.to.now r.pair.from w.delivery now.delivery (plan_step y x).0) lay brings));
              dice = dice ∙ (ap (λ y. (plan_step y x).1.0) lay ∙ sym (ap (λ y. y.1.0) after));
              delayed = delayed ∙ (ap (λ y. (plan_step y x).1.1) lay ∙ sym (ap (λ y. y.1.1) after));
            };
      }

  pub starts : (seed : ℕ) (w : Way S B E) (s q : Pass S B E) → IsHeld base_of r.from.now (number s) s → IsHeld base_of r.to.now (number q) q → r.pair.first ≤ length (sent_before base_of sight r.from.now s) → w.sender ≡ s → w.delivery ≡ unlost q → w.next ≡ r.pair.first
      → w.dice ≡ dice_of seed → w.delayed ≡ None → IsOnWay base_of sight r seed s q w
  starts seed w s q hs hq first sender delivery next_is dice delayed = record {
    sends = subst (λ u. IsLater base_of r.from.now s u) (sym sender) (still_later base_of r.from.now s hs);
    looks = ap turns sender;
    taken = [];
    are_taken = subst (λ (y : Pass S B E × ℕ). AreTaken base_of sight r.from.now r.pair y.1 y.0 []) (λ i. (sym sender i, sym next_is i))
        (record { from_first = omega arith; within = first; are = sym (ap (addressed_to r.pair.to) (drop_all (sent_before base_of sight r.from.now s) r.pair.first)); seen = (let low : r.pair.first ≤ r.pair.first = omega arith in low) });
    brings = subst (λ d. Brings base_of sight r.to.now r.pair.from (unlost q) d []) (sym delivery) (brings_none base_of sight r.to.now r.pair.from (unlost q) hq);
    dice = dice;
    delayed = delayed;
  }

  pub ends_so : (seed : ℕ) (s q : Pass S B E) (w : Way S B E) (c : Carried S B E) → IsOnWay base_of sight r seed s q w → (w.next ≡ 4294967295) ⊎ (length (sent_before base_of sight r.from.now w.sender) ≤ w.next) → Finishes base_of sight r.to.now r.pair.from w c
      → HasCarried base_of sight r seed s q c
  ends_so seed s q w c way ended e =
      let are : AreTaken base_of sight r.from.now r.pair c.next c.sender way.taken =
      subst (λ (y : Pass S B E × ℕ). AreTaken base_of sight r.from.now r.pair y.1 y.0 way.taken) (λ i. (sym e.sender i, sym e.next_is i)) way.are_taken in
      record {
        sends = subst (λ u. IsLater base_of r.from.now s u) (sym e.sender) way.sends;
        looks = ap turns e.sender ∙ way.looks;
        taken = way.taken;
        are_taken = are;
        ended = ⊎_elim (λ (full : w.next ≡ 4294967295). inl (e.next_is ∙ full)) (λ (all : length (sent_before base_of sight r.from.now w.sender) ≤ w.next). inr
            (let low = are.within in
            let same : length (sent_before base_of sight r.from.now c.sender) ≡ length (sent_before base_of sight r.from.now w.sender) = ap (λ p. length (sent_before base_of sight r.from.now p)) e.sender in
            let next_is = e.next_is in
            omega (arith, low, same, next_is, all))) ended;
        brings = brings_both base_of sight r.to.now r.pair.from (unlost q) w.delivery (record { pass = c.receiver; lost = c.lost }) (plan_steps (dice_of seed, None) way.taken).0 (option_to_list (plan_steps (dice_of seed, None) way.taken).1.1) way.brings
            (subst (λ o. Brings base_of sight r.to.now r.pair.from w.delivery (record { pass = c.receiver; lost = c.lost }) (option_to_list o)) way.delayed e.brings);
      }
