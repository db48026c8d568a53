use Rattle.std.specs.Prelude.{Some}
use Rattle.std.proofs.Common.{◌≡◌, refl, sym, ap, ◌∙◌}
use Rattle.alp_files.specs.declared.call.Call.TheVariants as call
use Rattle.alp_files.specs.declared.refusal.Refusal.TheVariants as refusal
use Rattle.alp_coord.specs.Coordinators.{fate_in}
use Rattle.alp_node.specs.Dead.{cause_in}
use Rattle.alp_node.specs.declared.served.Standing.TheVariants as standing
use Rattle.alp_node.proofs.FinishLemmas.{elsewhere_stepped, unknown_stepped, finishing_stepped}
use Rattle.alp_node.proofs.StandingLemmas.{standing_here, own_not_joining}
use Rattle.alp_node.proofs.StepLemmas.{refused_step}
use Rattle.alp_node.proofs.server_state.ServerState.finish.Goals as goal

pub returns-then-trans-self : goal.returns-then-trans-self
returns-then-trans-self g c =
    let k = c.args.self.now in
    let G = g.V.Vault in
    let turn = c.args.turn.now in
    refused_step G k c.refuse.new.self turn (call.Finish c.args.trans c.args.commit) c.refuse.result refusal.UnknownTrans refl c.requires.turn c.requires.up c.refuse.ensures.kept c.refuse.ensures.answer
    (λ told a h. elsewhere_stepped a (G.faults k.vault) (G.faults k.vault) (G.held k.vault) k turn c.args.trans c.args.commit c.refuse.result h c.requires.turn c.requires.up c.if-trans-self.true c.refuse.ensures.answer)
    tt

pub returns-in-Unknown : goal.returns-in-Unknown
returns-in-Unknown g c =
    let k = c.args.self.now in
    let G = g.V.Vault in
    let turn = c.args.turn.now in
    let refuse = c.refuse-in-Unknown in
    refused_step G k refuse.new.self turn (call.Finish c.args.trans c.args.commit) refuse.result refusal.UnknownTrans refl c.requires.turn c.requires.up refuse.ensures.kept refuse.ensures.answer
    (λ told a h. unknown_stepped a (G.faults k.vault) (G.faults k.vault) (G.held k.vault) k turn c.args.trans c.args.commit refuse.result h c.requires.turn c.requires.up c.if-trans-self.false (sym c.standing.ensures ∙ c.in-Unknown.is) refuse.ensures.answer)
    tt

pub returns-in-Finishing : goal.returns-in-Finishing
returns-in-Finishing g c =
    let k = c.args.self.now in
    let G = g.V.Vault in
    let turn = c.args.turn.now in
    let refuse = c.refuse-in-Finishing in
    refused_step G k refuse.new.self turn (call.Finish c.args.trans c.args.commit) refuse.result refusal.Finishing refl c.requires.turn c.requires.up refuse.ensures.kept refuse.ensures.answer
    (λ told a h. finishing_stepped a (G.faults k.vault) (G.faults k.vault) (G.held k.vault) k turn c.args.trans c.args.commit refuse.result h c.requires.turn c.requires.up c.if-trans-self.false (sym c.standing.ensures ∙ c.in-Finishing.is) refuse.ensures.answer)
    tt

-- a transaction of this server's own asks nobody to be let in
pub unreachable-requires : goal.unreachable-requires
unreachable-requires g c =
    let k = c.args.self.now in
    let turn = c.args.turn.now in
    let t = c.args.trans in
    absurd (own_not_joining turn.client (cause_in k.dead turn.client t) (fate_in k.coordinator t) (standing_here k turn.client t standing.Joining c.if-trans-self.false (sym c.standing.ensures ∙ c.in-Joining.is)))
