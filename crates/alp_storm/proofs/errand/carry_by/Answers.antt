use Rattle.std.proofs.Common.{rules, ◌≡◌, ◌<◌, ◌≤◌, ◌+◌, length, ap, ◌∙◌, sym, subst, refl, slice_index_or, arith, Some, List, ℕ, set}
use Rattle.alp_monitor.specs.declared.monitor.Monitor.{Monitor}
use Rattle.alp_monitor.specs.declared.monitor.Pass.{Pass}
use Rattle.std.specs.Prelude.{slice_get}
use Rattle.std.specs.List.{insert, remove}
use Rattle.alp_monitor.specs.Passes.{IsHeld, number}
use Rattle.alp_carrier.specs.Takes.{sent_before}
use Rattle.alp_storm.proofs.Lists.{get_of_or}
use Rattle.alp_storm.proofs.Sets.{put_two, put_back, take_two}
use Rattle.alp_storm.proofs.RingLemmas.{held_as}
use Rattle.alp_storm.proofs.errand.carry_by.Goals.{After-index-scene-to}
use Rattle.alp_storm.proofs.errand.carry_by.Goals as goal

-- what is known where the carrier starts
record Here (g : _) (c : goal.After-index-scene-to g) : Type 0 where
  low : c.index_of-from.result < c.index_of-to.result → c.if-from-to.at ≡ c.index_of-from.result
  high : c.index_of-to.result < c.index_of-from.result → c.if-from-to.at + 1 ≡ c.index_of-from.result
  from_low : c.index_of-from.result < length c.args.scene.now.monitors.now
  to_low : c.index_of-to.result < length c.args.scene.now.monitors.now
  apart : c.index_of-from.result ≡ c.index_of-to.result → ⊥
  a : slice_get c.args.scene.now.monitors.now c.index_of-from.result ≡ Some c.index-scene-from.result
  b : slice_get c.args.scene.now.monitors.now c.index_of-to.result ≡ Some c.index-scene-to.result
  receiver : slice_get c.args.ring.items c.index_of-to.result ≡ Some c.remove-receiver.result
  sender : slice_get c.args.ring.items c.index_of-from.result ≡ Some c.remove-sender.result

here : (g : _) (c : goal.After-index-scene-to g) → Here g c
here g c =
    let f = c.index_of-from.ensures in
    let t = c.index_of-to.ensures in
    let long = c.requires.ring.1.long in
    let fits = c.requires.fits in
    let fs = fits.sender.1 in
    let ts = fits.receiver.1 in
    let from_low : c.index_of-from.result < length c.args.scene.now.monitors.now = omega (arith, f, fs) in
    let to_low : c.index_of-to.result < length c.args.scene.now.monitors.now = omega (arith, t, ts) in
    let apart : c.index_of-from.result ≡ c.index_of-to.result → ⊥ = λ e. fits.apart (omega (arith, f, t, e)) in
    let low : c.index_of-from.result < c.index_of-to.result → c.if-from-to.at ≡ c.index_of-from.result = λ l. search rules in
    let high : c.index_of-to.result < c.index_of-from.result → c.if-from-to.at + 1 ≡ c.index_of-from.result = λ l. search rules in
    let short : c.if-from-to.at < length c.remove-receiver.new.self.items = search rules in
    let left : slice_get c.remove-receiver.new.self.items c.if-from-to.at ≡ Some c.remove-sender.result = get_of_or c.remove-receiver.new.self.items c.if-from-to.at c.remove-sender.result short c.remove-sender.ensures.value in
    record {
      low = low;
      high = high;
      from_low = from_low;
      to_low = to_low;
      apart = apart;
      a = get_of_or c.args.scene.now.monitors.now c.index_of-from.result c.index-scene-from.result from_low c.index-scene-from.is;
      b = get_of_or c.args.scene.now.monitors.now c.index_of-to.result c.index-scene-to.result to_low c.index-scene-to.is;
      receiver = get_of_or c.args.ring.items c.index_of-to.result c.remove-receiver.result (omega (arith, long, to_low)) c.remove-receiver.ensures.value;
      sender = sym (take_two c.args.ring.items c.index_of-from.result c.index_of-to.result c.if-from-to.at (omega (arith, long, to_low)) apart low high) ∙ (ap (λ l. slice_get l c.if-from-to.at) (sym c.remove-receiver.ensures.items) ∙ left);
    }

pub carry_along-sender-requires-clause-sender : goal.carry_along-sender-requires-clause-sender
carry_along-sender-requires-clause-sender g c =
    let (k, ring) = c.requires.ring in
    let h = here g (goal.at.carry_along-sender-requires-clause-sender g c).After-index-scene-to in
    subst (λ (m : Monitor g.row.S.Denot g.row.S-Base.Denot g.row.S-Entry.Denot). IsHeld g.S.Story.base m (number c.remove-sender.result) c.remove-sender.result) c.index-scene-from.is
    (held_as g.S.Story.base c.index-scene-from.result k c.remove-sender.result (ring.held c.index_of-from.result c.index-scene-from.result c.remove-sender.result h.a h.sender))

pub carry_along-sender-requires-clause-receiver : goal.carry_along-sender-requires-clause-receiver
carry_along-sender-requires-clause-receiver g c =
    let (k, ring) = c.requires.ring in
    let h = here g (goal.at.carry_along-sender-requires-clause-receiver g c).After-index-scene-to in
    subst (λ (m : Monitor g.row.S.Denot g.row.S-Base.Denot g.row.S-Entry.Denot). IsHeld g.S.Story.base m (number c.remove-receiver.result) c.remove-receiver.result) c.index-scene-to.is
    (held_as g.S.Story.base c.index-scene-to.result k c.remove-receiver.result (ring.held c.index_of-to.result c.index-scene-to.result c.remove-receiver.result h.b h.receiver))

pub carry_along-sender-requires-clause-first : goal.carry_along-sender-requires-clause-first
carry_along-sender-requires-clause-first g c =
    let h = here g (goal.at.carry_along-sender-requires-clause-first g c).After-index-scene-to in
    subst (λ (m : Monitor g.row.S.Denot g.row.S-Base.Denot g.row.S-Entry.Denot). c.args.pair.first ≤ length (sent_before g.S.Story.base g.S.Station.sight m c.remove-sender.result)) c.index-scene-from.is
    (c.requires.first c.index_of-from.result c.index-scene-from.result c.remove-sender.result c.index_of-from.ensures h.a h.sender)

pub returns : goal.returns
returns g c =
    let at = (goal.at.returns g c).After-index-scene-to in
    let h = here g at in
    let long = c.requires.ring.1.long in
    let fl = h.from_low in
    let tl = h.to_low in
    let s = c.carry_along-sender.result.sender in
    let r = c.carry_along-sender.result.receiver in
    let out = c.remove-receiver.ensures.items in
    let short : c.if-from-to.at < length c.remove-receiver.new.self.items = search rules in
    let one : c.put.new.list.items ≡ set (remove c.args.ring.items c.index_of-to.result) c.if-from-to.at s =
    c.put.ensures.items ∙ (ap (λ l. insert l c.if-from-to.at s) c.remove-sender.ensures.items ∙ (put_back c.remove-receiver.new.self.items c.if-from-to.at s short ∙ ap (λ l. set l c.if-from-to.at s) out)) in
    let two : c.put-2.new.list.items ≡ set (set c.args.ring.items c.index_of-from.result s) c.index_of-to.result r =
    c.put-2.ensures.items ∙ (ap (λ (l : List (Pass g.row.S.Denot g.row.S-Base.Denot g.row.S-Entry.Denot)). insert l c.index_of-to.result r) one
    ∙ put_two c.args.ring.items c.index_of-from.result c.index_of-to.result c.if-from-to.at s r (omega (arith, long, fl)) (omega (arith, long, tl)) h.apart h.low h.high) in (
      refl,
      record {
        here = c.index_of-from.result;
        there = c.index_of-to.result;
        here_is = c.index_of-from.ensures;
        there_is = c.index_of-to.ensures;
        sends = slice_index_or c.args.scene.now.monitors.now c.index_of-from.result c.index-scene-from.result;
        receives = slice_index_or c.args.scene.now.monitors.now c.index_of-to.result c.index-scene-to.result;
        sends_is = h.a ∙ ap Some c.index-scene-from.is;
        receives_is = h.b ∙ ap Some c.index-scene-to.is;
        sender = c.remove-sender.result;
        receiver = c.remove-receiver.result;
        sender_is = h.sender;
        receiver_is = h.receiver;
        carried = c.carry_along-sender.result;
        next_is = refl;
        lost_is = refl;
        ring_is = two;
        did = c.carry_along-sender.ensures;
      },
    )
