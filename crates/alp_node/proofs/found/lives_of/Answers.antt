use Rattle.std.proofs.Common.{◌≡◌, true, false, List, sym, subst}
use Rattle.alp_regain.specs.declared.part.RegainedPart.{RegainedPart}
use Rattle.alp_node.proofs.FoundLives.{AreTaken, none_taken, taken_new, taken_part, taken_few, taken_on, all_taken, emptied}
use Rattle.alp_node.proofs.found.lives_of.Goals as goal

wrong : false ≡ true → ⊥
wrong e = cc

pub loop-one-init : goal.loop-one-init
loop-one-init c = subst (AreTaken c.args.parts.items c.args.parts.items) (sym c.new-lives.ensures) (none_taken c.args.parts.items)

pub restore-requires-clause-new : goal.restore-requires-clause-new
restore-requires-clause-new c = taken_new c.args.parts.items c.loop-one.parts.items c.pop.new.self.items c.in-Some.one c.loop-one.lives c.requires.live c.requires.few c.loop-one.invariant c.in-Some.ensures.items

pub restore-requires-clause-few : goal.restore-requires-clause-few
restore-requires-clause-few c = taken_few c.args.parts.items c.loop-one.parts.items c.pop.new.self.items c.in-Some.one c.loop-one.lives c.requires.live c.requires.few c.loop-one.invariant c.in-Some.ensures.items

pub restore-requires-clause-part : goal.restore-requires-clause-part
restore-requires-clause-part c = taken_part c.args.parts.items c.loop-one.parts.items c.pop.new.self.items c.in-Some.one c.loop-one.lives c.requires.live c.requires.few c.loop-one.invariant c.in-Some.ensures.items

pub loop-one-preserved : goal.loop-one-preserved
loop-one-preserved c =
    subst (AreTaken c.args.parts.items c.pop.new.self.items) (sym c.in_ok-restore.ensures.ok)
    (taken_on c.args.parts.items c.loop-one.parts.items c.pop.new.self.items c.in-Some.one c.loop-one.lives c.requires.live c.requires.few c.loop-one.invariant c.in-Some.ensures.items)

pub returns : goal.returns
returns c =
    all_taken c.args.parts.items c.loop-one.lives
    (subst (λ (xs : List RegainedPart). AreTaken c.args.parts.items xs c.loop-one.lives) (emptied c.loop-one.parts.items c.loop-one.parts.len c.loop-one.parts.ok.0 (λ some. wrong (c.in_default.ensures.variant.1 some))) c.loop-one.invariant)
