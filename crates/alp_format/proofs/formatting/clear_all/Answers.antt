use Rattle.std.proofs.Common.{IsTrue, sym, subst, arith}
use Rattle.alp_disk.proofs.Moments.{adds_weaker, adds_more}
use Rattle.alp_record.proofs.Bodies.{on_ok}
use Rattle.alp_format.proofs.Formats.{front_after, both_after, is_cleared}
use Rattle.alp_format.proofs.formatting.clear_all.Goals as goal

pub returns-in_err-clear-clause-crash : goal.returns-in_err-clear-clause-crash
returns-in_err-clear-clause-crash g c = λ x left. front_after c.args.sizes _ _ x (c.clear.ensures.crash x left) (omega arith)

pub returns-in_err-clear-clause-any_moment : goal.returns-in_err-clear-clause-any_moment
returns-in_err-clear-clause-any_moment g c = adds_weaker g.D.Disk.left_since _ _ _ _ c.clear.ensures.any_moment (λ x after. front_after c.args.sizes _ _ x after (omega arith))

pub returns-clause-crash : goal.returns-clause-crash
returns-clause-crash g c = λ x left. both_after c.args.sizes _ _ _ c.clear.ensures.crash (omega arith) x (c.clear-2.ensures.crash x left)

pub returns-clause-any_moment : goal.returns-clause-any_moment
returns-clause-any_moment g c =
    adds_more g.D.Disk.left_since _ _ _ _ _
    (adds_weaker g.D.Disk.left_since _ _ _ _ c.clear.ensures.any_moment (λ x after. front_after c.args.sizes _ _ x after (omega arith)))
    c.clear-2.ensures.any_moment
    (λ x after. both_after c.args.sizes _ _ _ c.clear.ensures.crash (omega arith) x after)

pub returns-clause-cleared : goal.returns-clause-cleared
returns-clause-cleared g c told =
    let told2 = subst IsTrue (sym c.clear.ensures.tells) told in
    on_ok c.clear-2.result _ _
    (λ back. is_cleared c.args.sizes _ _ _ _ _ c.requires (c.in_ok-clear.ensures.written told) back (omega arith))
    (c.clear-2.ensures.written told2)
