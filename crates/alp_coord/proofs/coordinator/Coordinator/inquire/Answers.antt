use Rattle.std.specs.Prelude.{cond, Bool, true, false, ◌==◌, ◌&&◌, Option, None, Some}
use Rattle.std.specs.Option.{option_copied}
use Rattle.std.specs.FinMap as map
use Rattle.std.proofs.Common.{◌≡◌, ℕ, List, [], ◌∷◌, ◌++◌, refl, ap, sym, subst, ◌∙◌}
use Rattle.alp_base.specs.declared.ids.TransId.{TransId}
use Rattle.alp_coord.specs.declared.course.Course.{Course}
use Rattle.alp_coord.specs.declared.begun.Settled.{Settled}
use Rattle.alp_coord.specs.declared.coordinator.Coordinator.{Coordinator}
use Rattle.alp_journal.specs.declared.message.Message.{Message}
use Rattle.alp_coord.specs.Coordinators.{fate_in, inquiry_of}
use Rattle.alp_coord.proofs.FateLemmas.{fate_none}
use Rattle.alp_coord.proofs.WordLemmas.{inquiry-course}
use Rattle.alp_coord.proofs.coordinator.Coordinator.inquire.Goals as goal

pub returns-then-not-is_known : goal.returns-then-not-is_known
returns-then-not-is_known c =
    let s = c.args.self.now in
    let t = c.args.trans.now in
    sym (ap (λ (b : Bool). cond {A = Option Message} b (inquiry_of s.epoch t c.args.join.now (fate_in s t)) None) (sym c.is_known.ensures ∙ c.if-not-is_known.true))

pub returns-in-Some : goal.returns-in-Some
returns-in-Some c =
    let s = c.args.self.now in
    let t = c.args.trans.now in
    c.inquiry.ensures ∙ sym (inquiry-course s t c.args.join.now c.in-Some.course.now (sym c.course.ensures ∙ ap option_copied c.in-Some.is))
    ∙ sym (ap (λ (b : Bool). cond {A = Option Message} b (inquiry_of s.epoch t c.args.join.now (fate_in s t)) None) (sym c.is_known.ensures ∙ c.if-not-is_known.false))

pub returns-in-None : goal.returns-in-None
returns-in-None c =
    let s = c.args.self.now in
    let t = c.args.trans.now in
    c.inquire_settled.ensures ∙ sym (ap (inquiry_of s.epoch t c.args.join.now) (fate_none s t (sym c.course.ensures ∙ ap option_copied c.in-None.is)))
    ∙ sym (ap (λ (b : Bool). cond {A = Option Message} b (inquiry_of s.epoch t c.args.join.now (fate_in s t)) None) (sym c.is_known.ensures ∙ c.if-not-is_known.false))
