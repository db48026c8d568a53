use Rattle.std.specs.Prelude.{cond, Bool, true, false, ◌==◌, ◌&&◌, Option, None, Some}
use Rattle.std.specs.Option.{option_copied}
use Rattle.std.specs.FinMap as map
use Rattle.std.proofs.Common.{◌≡◌, ℕ, List, [], ◌∷◌, ◌++◌, refl, ap, sym, subst, ◌∙◌}
use Rattle.alp_base.specs.declared.ids.TransId.{TransId}
use Rattle.alp_coord.specs.declared.course.Course.{Course}
use Rattle.alp_coord.specs.declared.begun.Settled.{Settled}
use Rattle.alp_coord.specs.declared.coordinator.Coordinator.{Coordinator}
use Rattle.alp_files.specs.declared.reply.Ended.{Ended as Ending}
use Rattle.alp_coord.specs.Coordinators.{fate_in, ending_at}
use Rattle.alp_coord.proofs.FateLemmas.{fate_none}
use Rattle.alp_coord.proofs.WordLemmas.{ending-decided, ending-running}
use Rattle.alp_coord.proofs.coordinator.Coordinator.outcome.Goals as goal

pub returns-then-not-is_known : goal.returns-then-not-is_known
returns-then-not-is_known c =
    let s = c.args.self.now in
    let t = c.args.trans.now in
    sym (ap (λ (b : Bool). cond {A = Option Ending} b (Some (ending_at s.epoch t (fate_in s t))) None) (sym c.is_known.ensures ∙ c.if-not-is_known.true))

pub returns-in_default : goal.returns-in_default
returns-in_default c =
    let s = c.args.self.now in
    let t = c.args.trans.now in
    ap (λ (e : Ending). Some e) (c.outcome_settled.ensures ∙ sym (ap (ending_at s.epoch t) (fate_none s t (sym c.course.ensures ∙ ap option_copied c.in_default.is))))
    ∙ sym (ap (λ (b : Bool). cond {A = Option Ending} b (Some (ending_at s.epoch t (fate_in s t))) None) (sym c.is_known.ensures ∙ c.if-not-is_known.false))

pub returns-in_default-time : goal.returns-in_default-time
returns-in_default-time c =
    let s = c.args.self.now in
    let t = c.args.trans.now in
    ap (λ (e : Ending). Some e) (sym (ending-running s t c.in-Some.course.now (sym c.course.ensures ∙ ap option_copied c.in-Some.is) (sym c.time.ensures ∙ c.in_default-time.is)))
    ∙ sym (ap (λ (b : Bool). cond {A = Option Ending} b (Some (ending_at s.epoch t (fate_in s t))) None) (sym c.is_known.ensures ∙ c.if-not-is_known.false))

pub returns : goal.returns
returns c =
    let s = c.args.self.now in
    let t = c.args.trans.now in
    ap (λ (e : Ending). Some e) (c.committed.ensures ∙ sym (ending-decided s t c.in-Some.course.now c.in-Some-time.ts (sym c.course.ensures ∙ ap option_copied c.in-Some.is) (sym c.time.ensures ∙ c.in-Some-time.is)))
    ∙ sym (ap (λ (b : Bool). cond {A = Option Ending} b (Some (ending_at s.epoch t (fate_in s t))) None) (sym c.is_known.ensures ∙ c.if-not-is_known.false))
