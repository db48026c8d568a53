use Rattle.std.proofs.Common.{◌≡◌, false, not, is_some, ap, sym, ◌∙◌}
use Rattle.std.specs.FinMap as map
use Rattle.alp_locks.proofs.HeldLemmas.{insert-held, held-none, some-copied}
use Rattle.alp_locks.proofs.holders.Holders.enter.Goals as goal

pub returns-then-is_some-clause-ok : goal.returns-then-is_some-clause-ok
returns-then-is_some-clause-ok c =
    sym (insert-held c.args.self.now c.args.trans (ap is_some (sym c.get.ensures) ∙ some-copied c.get.result ∙ sym c.is_some.ensures ∙ c.if-is_some.true))

pub returns-then-is_some-clause-fresh : goal.returns-then-is_some-clause-fresh
returns-then-is_some-clause-fresh c =
    sym (ap not (ap is_some (sym c.get.ensures) ∙ some-copied c.get.result ∙ sym c.is_some.ensures ∙ c.if-is_some.true))

pub returns-clause-ok : goal.returns-clause-ok
returns-clause-ok c =
    let unknown : is_some (map.get c.args.self.now c.args.trans) ≡ false = ap is_some (sym c.get.ensures) ∙ some-copied c.get.result ∙ sym c.is_some.ensures ∙ c.if-is_some.false in
    c.in_ok-put.ensures.ok ∙ ap (map.insert c.args.self.now c.args.trans) (c.new.ensures ∙ sym (held-none c.args.self.now c.args.trans unknown))

pub returns-clause-fresh : goal.returns-clause-fresh
returns-clause-fresh c =
    sym (ap not (ap is_some (sym c.get.ensures) ∙ some-copied c.get.result ∙ sym c.is_some.ensures ∙ c.if-is_some.false))
