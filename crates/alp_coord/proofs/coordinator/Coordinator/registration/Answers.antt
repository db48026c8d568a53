use Rattle.std.specs.Prelude.{cond, Bool, true, false, ◌==◌, ◌&&◌, Option, None, Some}
use Rattle.std.specs.Option.{option_copied}
use Rattle.std.specs.FinMap as map
use Rattle.std.proofs.Common.{◌≡◌, ℕ, List, [], ◌∷◌, ◌++◌, refl, ap, sym, subst, ◌∙◌}
use Rattle.alp_base.specs.declared.ids.TransId.{TransId}
use Rattle.alp_coord.specs.declared.course.Course.{Course}
use Rattle.alp_coord.specs.declared.begun.Settled.{Settled}
use Rattle.alp_coord.specs.declared.coordinator.Coordinator.{Coordinator}
use Rattle.alp_journal.specs.Coordinator.{Fate}
use Rattle.alp_coord.specs.declared.answers.Registration.{Registration}
use Rattle.alp_coord.specs.declared.answers.Registration.TheVariants as registration
use Rattle.alp_coord.specs.Courses.{fate_of}
use Rattle.alp_coord.specs.Coordinators.{fate_in, is_other, registration_of}
use Rattle.alp_coord.proofs.FateLemmas.{fate_course}
use Rattle.alp_coord.proofs.MoveLemmas.{registration_none}
use Rattle.alp_coord.proofs.coordinator.Coordinator.registration.Goals as goal

pub returns-then-not-is_known : goal.returns-then-not-is_known
returns-then-not-is_known c =
    let s = c.args.self.now in
    let t = c.args.trans.now in
    let j = c.args.join.now in
    sym (ap (λ (b : Bool). cond {A = Registration} b (registration_of (is_other s.server c.args.servers j.server) j c.args.client (fate_in s t)) registration.Silence) (sym c.is_known.ensures ∙ c.if-not-is_known.true))

pub returns-in-Some : goal.returns-in-Some
returns-in-Some c =
    let s = c.args.self.now in
    let t = c.args.trans.now in
    let j = c.args.join.now in
    let d = c.in-Some.course.now in
    c.registration_of.ensures t
    ∙ ap (λ (o : Bool). registration_of o j c.args.client (fate_of t d)) c.is_other-other.ensures
    ∙ ap (registration_of (is_other s.server c.args.servers j.server) j c.args.client) (sym (fate_course s t d (sym c.course.ensures ∙ ap option_copied c.in-Some.is)))
    ∙ sym (ap (λ (b : Bool). cond {A = Registration} b (registration_of (is_other s.server c.args.servers j.server) j c.args.client (fate_in s t)) registration.Silence) (sym c.is_known.ensures ∙ c.if-not-is_known.false))

pub returns-in-None : goal.returns-in-None
returns-in-None c =
    let s = c.args.self.now in
    let t = c.args.trans.now in
    let j = c.args.join.now in
    sym (registration_none s t (is_other s.server c.args.servers j.server) j c.args.client (sym c.course.ensures ∙ ap option_copied c.in-None.is))
    ∙ sym (ap (λ (b : Bool). cond {A = Registration} b (registration_of (is_other s.server c.args.servers j.server) j c.args.client (fate_in s t)) registration.Silence) (sym c.is_known.ensures ∙ c.if-not-is_known.false))
