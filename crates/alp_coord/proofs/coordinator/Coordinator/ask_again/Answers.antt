use Rattle.std.specs.Prelude.{cond, Bool, true, false, ◌==◌, ◌&&◌, Option, None, Some}
use Rattle.std.specs.Option.{option_copied}
use Rattle.std.specs.FinMap as map
use Rattle.std.proofs.Common.{◌≡◌, ℕ, List, [], ◌∷◌, ◌++◌, refl, ap, sym, subst, ◌∙◌}
use Rattle.alp_base.specs.declared.ids.TransId.{TransId}
use Rattle.alp_coord.specs.declared.course.Course.{Course}
use Rattle.alp_coord.specs.declared.begun.Settled.{Settled}
use Rattle.alp_coord.specs.declared.coordinator.Coordinator.{Coordinator}
use Rattle.alp_journal.specs.declared.message.Envelope.{Envelope}
use Rattle.alp_journal.specs.declared.message.Message.TheVariants as msg
use Rattle.alp_journal.specs.Messages.{ask_again}
use Rattle.std.proofs.lemmas.Result.{on_ok_weaker}
use Rattle.alp_coord.specs.declared.members.Member.{Member}
use Rattle.alp_coord.specs.Coordinators.{course_in, fate_in, again_to}
use Rattle.alp_coord.proofs.WordLemmas.{asks-finishing, none-asks, other-asks, nothing-more}
use Rattle.alp_coord.proofs.coordinator.Coordinator.ask_again.Goals as goal

pub returns-in_default : goal.returns-in_default
returns-in_default c =
    let s = c.args.self.now in
    let t = c.args.trans.now in
    nothing-more s.server c.args.servers c.args.out.now.items (ask_again t (fate_in s t)) (none-asks s t (sym c.course.ensures ∙ ap option_copied c.in_default.is))

pub returns-then-not-is_finishing : goal.returns-then-not-is_finishing
returns-then-not-is_finishing c =
    let s = c.args.self.now in
    let t = c.args.trans.now in
    nothing-more s.server c.args.servers c.args.out.now.items (ask_again t (fate_in s t))
    (other-asks s t c.in-Some.course.now (sym c.course.ensures ∙ ap option_copied c.in-Some.is) (sym c.is_finishing.ensures ∙ c.if-not-is_finishing.true))

pub returns : goal.returns
returns c =
    let s = c.args.self.now in
    let t = c.args.trans.now in
    let d = c.in-Some.course.now in
    let is : course_in s t ≡ Some d = sym c.course.ensures ∙ ap option_copied c.in-Some.is in
    on_ok_weaker c.ask_members.result
    (λ (e : c.ask_members.new.out.items ≡ c.args.out.now.items ++ again_to s.server c.args.servers (msg.Ask t) c.as_slice-members.result.now c.as_slice-members.result.now). e ∙ ap (λ (es : List Envelope). c.args.out.now.items ++ es)
    (ap (λ (ms : List Member). again_to s.server c.args.servers (msg.Ask t) ms ms) c.as_slice-members.ensures ∙ asks-finishing s t d s.server c.args.servers is (sym c.is_finishing.ensures ∙ c.if-not-is_finishing.false)))
    c.ask_members.ensures
