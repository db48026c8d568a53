use Rattle.std.specs.FinMap as map
use Rattle.std.specs.Option.{option_copied_mut}
use Rattle.std.proofs.Common.{ap, sym, ◌∙◌}
use Rattle.alp_coord.specs.declared.course.Course.{Course}
use Rattle.alp_coord.specs.Courses.{turned}
use Rattle.alp_coord.proofs.WriteLemmas.{written, missing, some_is}
use Rattle.alp_coord.proofs.courses.Courses.turn.Goals as goal

pub returns-in_default : goal.returns-in_default
returns-in_default c =
    ap (λ n. map.from_entries n.entries) c.get_mut.follows.holds-at-none ∙ c.self.view_is
    ∙ missing c.self.inside.courses.entries c.args.self.now c.args.trans.now (turned c.args.stage) c.self.view_is (sym c.get_mut.ensures.value ∙ ap option_copied_mut c.in_default.is)

pub returns : goal.returns
returns c =
    let w : Course = record { client = c.in-Some.course.now.client; stage = c.args.stage; members = c.hush.new.self } in
    written c.self.inside.courses.entries (c.get_mut.follows.lender w).entries c.args.self.now c.args.trans.now c.in-Some.course.now w (turned c.args.stage) c.self.view_is (sym c.in-Some.ensures.value)
    ((c.get_mut.follows.holds w).3 (some_is _ c.in-Some.course.now (sym c.in-Some.ensures.value))).0 (λ i. record { client = c.in-Some.course.now.client; stage = c.args.stage; members = c.hush.ensures i })
