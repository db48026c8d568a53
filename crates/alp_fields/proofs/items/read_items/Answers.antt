use Rattle.std.proofs.Common.{◌≡◌, ◌≤◌, ◌-◌, ℕ, List, length, take, sym, subst, arith}
use Rattle.alp_fields.specs.Forms.{IsRead}
use Rattle.alp_fields.proofs.RepeatLemmas.{ends, is_done}
use Rattle.alp_fields.proofs.ItemLemmas.{rest_shorter, read_goes_on}
use Rattle.alp_fields.proofs.items.read_items.Goals as goal

pub taken-bytes-requires : goal.taken-bytes-requires
taken-bytes-requires g c =
    let form = g.T.Item.form in
    subst (λ (bs : List ℕ). length c.read.new.reader ≤ length bs) (sym c.rest-before.ensures)
    (rest_shorter form c.requires c.loop.reader c.read.new.reader c.in-Some.next (subst (IsRead form c.loop.reader c.read.new.reader) c.in-Some.is c.in_ok-next.ensures))

pub returns-in_default-clause-read : goal.returns-in_default-clause-read
returns-in_default-clause-read g c =
    let form = g.T.Item.form in
    ends form c.args.count c.loop.counter c.loop.items.items c.loop.reader c.args.reader.now c.loop-test.true
    (subst (IsRead form c.loop.reader c.read.new.reader) c.in_default.is c.in_ok-next.ensures) c.loop.invariant.repeats

pub loop-preserved : goal.loop-preserved
loop-preserved g c =
    let form = g.T.Item.form in
    let bytes = c.taken-bytes.result.now in
    let is = subst (λ (bs : List ℕ). bytes ≡ take (length bs - length c.read.new.reader) bs) c.rest-before.ensures c.taken-bytes.ensures in
    rw (c.in_ok-push.ensures.items, c.rise_on-rises.ensures)
    (read_goes_on form c.requires c.args.count c.loop.counter c.loop.items.items c.loop.reader c.args.reader.now c.read.new.reader c.loop.rises c.loop.last.now bytes c.in-Some.next c.loop-test.true
    (subst (IsRead form c.loop.reader c.read.new.reader) c.in-Some.is c.in_ok-next.ensures) is c.loop.invariant)

pub returns-clause-read : goal.returns-clause-read
returns-clause-read g c = is_done g.T.Item.form c.args.count c.loop.counter c.loop.items.items c.loop.reader c.args.reader.now (omega (arith, c.loop-test.false)) c.loop.invariant.repeats

pub returns-clause-rises : goal.returns-clause-rises
returns-clause-rises g c = c.loop.invariant.rises_as
