use Rattle.std.specs.Prelude.{Bool}
use Rattle.std.proofs.Common.{subst}
use Rattle.alp_files.specs.Cells.{Cells}
use Rattle.alp_vault.specs.Contents.{Contents}
use Rattle.alp_calls.specs.Parts.{Settled, Answered}
use Rattle.alp_calls.proofs.SettleLemmas.{answered_so, when_ok}
use Rattle.alp_calls.proofs.performing.perform.Goals as goal

pub returns-clause-answered : goal.returns-clause-answered
returns-clause-answered g c =
    let held : Cells = (g.V.Vault.held c.args.vault.now).cells in
    let tells : Bool = g.V.Vault.tells c.args.vault.now in
    let left = c.in_ok-said.ensures.looked.0 in
    when_ok c.settle.result
    (λ r. Settled (g.V.Vault.tells c.say.new.vault) (g.V.Vault.held c.say.new.vault).cells c.args.part.now c.settle.new.part c.args.room c.in_ok-said.said r)
    (λ r. Answered tells held c.args.part.now c.settle.new.part c.args.who c.args.id c.args.call.now c.args.room r)
    c.settle.ensures.settled
    (λ r h. answered_so tells held c.args.part.now c.settle.new.part c.args.who c.args.id c.args.call.now c.args.room c.in_ok-said.said r
    c.in_ok-said.ensures.right c.in_ok-said.ensures.id c.in_ok-said.ensures.proper c.in_ok-said.ensures.opens c.in_ok-said.ensures.pages
    (subst (λ (b : Bool). Settled b held c.args.part.now c.settle.new.part c.args.room c.in_ok-said.said r) left.same.telling
    (subst (λ (x : Contents). Settled (g.V.Vault.tells c.say.new.vault) x.cells c.args.part.now c.settle.new.part c.args.room c.in_ok-said.said r) left.contents h)))
