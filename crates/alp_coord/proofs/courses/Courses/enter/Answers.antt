use Rattle.std.specs.FinMap as map
use Rattle.std.specs.Option.{option_copied_mut}
use Rattle.std.proofs.Common.{ap, sym, ◌∙◌}
use Rattle.alp_coord.specs.declared.course.Course.{Course}
use Rattle.alp_coord.specs.Courses.{entered}
use Rattle.alp_coord.proofs.WriteLemmas.{written, unwritten, missing, some_is, on_err}
use Rattle.alp_coord.proofs.courses.Courses.enter.Goals as goal

pub returns-in_default : goal.returns-in_default
returns-in_default c =
    record {
      ok = ap (λ n. map.from_entries n.entries) c.get_mut.follows.holds-at-none ∙ c.self.view_is
          ∙ missing c.self.inside.courses.entries c.args.self.now c.args.trans.now (entered c.args.join) c.self.view_is (sym c.get_mut.ensures.value ∙ ap option_copied_mut c.in_default.is);
      err = tt;
    }

pub returns-in_err-add-clause-err : goal.returns-in_err-add-clause-err
returns-in_err-add-clause-err c =
    let w : Course = record { client = c.in-Some.course.now.client; stage = c.in-Some.course.now.stage; members = c.add.new.self } in
    on_err c.from_residual.result (unwritten c.self.inside.courses.entries (c.get_mut.follows.lender w).entries c.args.self.now c.args.trans.now c.in-Some.course.now w c.self.view_is (sym c.in-Some.ensures.value)
    ((c.get_mut.follows.holds w).3 (some_is _ c.in-Some.course.now (sym c.in-Some.ensures.value))).0
    (λ i. record { client = c.in-Some.course.now.client; stage = c.in-Some.course.now.stage; members = c.in_err-add.ensures.err i }))

pub returns-clause-ok : goal.returns-clause-ok
returns-clause-ok c =
    let w : Course = record { client = c.in-Some.course.now.client; stage = c.in-Some.course.now.stage; members = c.add.new.self } in
    written c.self.inside.courses.entries (c.get_mut.follows.lender w).entries c.args.self.now c.args.trans.now c.in-Some.course.now w (entered c.args.join) c.self.view_is (sym c.in-Some.ensures.value)
    ((c.get_mut.follows.holds w).3 (some_is _ c.in-Some.course.now (sym c.in-Some.ensures.value))).0
    (λ i. record { client = c.in-Some.course.now.client; stage = c.in-Some.course.now.stage; members = c.in_ok-add.ensures.ok i })
