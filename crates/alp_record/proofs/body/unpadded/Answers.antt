use Rattle.alp_record.proofs.Bodies.{zeros_stand, unpadded_is}
use Rattle.alp_record.proofs.body.unpadded.Goals as goal

pub returns-then-not-are_zeros : goal.returns-then-not-are_zeros
returns-then-not-are_zeros c body long is =
    let yes = c.are_zeros.ensures.1 (zeros_stand c.deref.result.now c.args.bytes.items body c.args.size c.deref.ensures.value long is) in
    let no = c.if-not-are_zeros.true in
    absurd cc

pub returns : goal.returns
returns c = rw c.truncate.ensures.items (unpadded_is c.deref.result.now c.args.bytes.items c.args.size c.deref.ensures.value c.requires (c.are_zeros.ensures.0 c.if-not-are_zeros.false))
