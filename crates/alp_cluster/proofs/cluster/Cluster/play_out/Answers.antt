use Rattle.std.specs.Prelude.{Vec}
use Rattle.std.specs.Global.{Global}
use Rattle.std.proofs.Common.{◌<◌, ◌≤◌, ◌^◌, ℕ, length, sym, ◌∙◌, subst, arith}
use Rattle.std.proofs.lemmas.Result.{on_ok_weaker}
use Rattle.alp_journal.specs.declared.log.Item.{Item}
use Rattle.alp_script.specs.Accepted.{servers_said}
use Rattle.alp_course.specs.Settles.{IsSettling}
use Rattle.alp_cluster.specs.Runs.{HasPlayedOut, HasEndedEarly, HasEndedSo, StopNone}
use Rattle.alp_cluster.proofs.DidLemmas.{calm_both, gone_both, all_where, all_handed}
use Rattle.alp_cluster.proofs.GoneLemmas.{end_on, end_map, handed_on}
use Rattle.alp_cluster.proofs.LeftLemmas.{end_opened, end_calm, calm_then}
use Rattle.alp_cluster.proofs.LoopLemmas.{did_count, some_count}
use Rattle.alp_cluster.proofs.RunLemmas.{end_ended, end_ended_so, played_out}
use Rattle.alp_cluster.proofs.cluster.Cluster.play_out.Goals as goal

pub returns-in_err-play-clause-gone : goal.returns-in_err-play-clause-gone
returns-in_err-play-clause-gone g c =
    all_handed g.V.Vault (StopNone c.args.lines.now) c.args.self.now.parties.stations c.play.new.self.parties.stations c.in_err-play.field-0.0 c.from_residual.result c.in_err-play.ensures.gone
    (handed_on c.in_err-play.field-0.0 c.from_residual.result c.from_residual.ensures.0 c.from_residual.ensures.1)

pub returns-in_err-play-clause-ended : goal.returns-in_err-play-clause-ended
returns-in_err-play-clause-ended g c =
    end_on c.in_err-play.field-0.0 c.from_residual.result _ _ (handed_on c.in_err-play.field-0.0 c.from_residual.result c.from_residual.ensures.0 c.from_residual.ensures.1) (λ f h. h) c.in_err-play.ensures.ended

pub returns-in_err-play-clause-printed : goal.returns-in_err-play-clause-printed
returns-in_err-play-clause-printed g c =
    end_on c.in_err-play.field-0.0 c.from_residual.result _ _ (handed_on c.in_err-play.field-0.0 c.from_residual.result c.from_residual.ensures.0 c.from_residual.ensures.1) (λ f h. h) c.in_err-play.ensures.printed

pub returns-in_err-play-clause-left : goal.returns-in_err-play-clause-left
returns-in_err-play-clause-left g c =
    end_on c.in_err-play.field-0.0 c.from_residual.result _ _ (handed_on c.in_err-play.field-0.0 c.from_residual.result c.from_residual.ensures.0 c.from_residual.ensures.1) (λ f h. h) c.in_err-play.ensures.left

pub returns-in_err-play-clause-calm_left : goal.returns-in_err-play-clause-calm_left
returns-in_err-play-clause-calm_left g c =
    end_on c.in_err-play.field-0.0 c.from_residual.result _ _ (handed_on c.in_err-play.field-0.0 c.from_residual.result c.from_residual.ensures.0 c.from_residual.ensures.1) (λ f h. h) c.in_err-play.ensures.calm_left

pub settle-requires : goal.settle-requires
settle-requires g c = record { on = c.in_ok-play.ensures.played.step.on }

pub returns-clause-gone : goal.returns-clause-gone
returns-clause-gone g c =
    let a = c.args.self.now.parties.stations in
    let b = c.play.new.self.parties.stations in
    let z = c.settle.new.self.parties.stations in
    gone_both g.V.Vault (StopNone c.args.lines.now) a b z _ c.settle.result c.in_ok-play.ensures.played.step.on c.in_ok-play.ensures.gone
    (all_where g.V.Vault (Unit {0}) (StopNone c.args.lines.now) b z c.settle.result (λ e. tt {0}) c.settle.ensures.gone)

pub returns-clause-ended : goal.returns-clause-ended
returns-clause-ended g c =
    let q = c.play.new.self in
    let few : length c.args.lines.now ≤ 200000 = c.requires.accepted.few in
    let short : length c.args.lines.now < 2 ^ 29 = omega (arith, few) in
    end_map c.settle.result _ _
    (λ f d. subst (λ (vs : Vec (Vec Item Global) Global). HasEndedEarly g.V.Vault (servers_said c.args.lines.now) c.args.lines.now f c.settle.new.self.parties.stations vs.items) (sym c.settle.ensures.lists)
    (end_ended g.V.Vault (servers_said c.args.lines.now) c.args.lines.now q.parties.clients q.parties.stations c.settle.new.self.parties.stations q.lists.items q.text.items c.in_ok-play.ensures.played f short
    (some_count g.V.Vault IsSettling (length q.parties.stations.all.items) (servers_said c.args.lines.now) f q.parties.stations c.settle.new.self.parties.stations c.in_ok-play.ensures.played.count d))) c.settle.ensures.ended

pub returns-clause-printed : goal.returns-clause-printed
returns-clause-printed g c =
    let q = c.play.new.self in
    let few : length c.args.lines.now ≤ 200000 = c.requires.accepted.few in
    let short : length c.args.lines.now < 2 ^ 29 = omega (arith, few) in
    end_map c.settle.result _ _
    (λ f d. subst (λ (vs : Vec (Vec Item Global) Global). HasEndedSo g.V.Vault (servers_said c.args.lines.now) c.args.lines.now f c.settle.new.self.parties.stations vs.items c.settle.new.self.text.items) (sym c.settle.ensures.lists)
    (subst (λ (t : Vec ℕ Global). HasEndedSo g.V.Vault (servers_said c.args.lines.now) c.args.lines.now f c.settle.new.self.parties.stations q.lists.items t.items) (sym c.settle.ensures.text)
    (end_ended_so g.V.Vault (servers_said c.args.lines.now) c.args.lines.now q.parties.clients q.parties.stations c.settle.new.self.parties.stations q.lists.items q.text.items c.in_ok-play.ensures.played f short
    (some_count g.V.Vault IsSettling (length q.parties.stations.all.items) (servers_said c.args.lines.now) f q.parties.stations c.settle.new.self.parties.stations c.in_ok-play.ensures.played.count d)))) c.settle.ensures.ended

pub returns-clause-left : goal.returns-clause-left
returns-clause-left g c =
    end_map c.settle.result _ _
    (λ f d. end_opened g.V.Vault f d.due d.at_end c.settle.new.self.parties.stations d.left ∙ d.goes.later.openings ∙ c.in_ok-play.ensures.openings) c.settle.ensures.ended

pub returns-clause-calm_left : goal.returns-clause-calm_left
returns-clause-calm_left g c =
    let a = c.args.self.now.parties.stations in
    let b = c.play.new.self.parties.stations in
    let z = c.settle.new.self.parties.stations in
    end_map c.settle.result _ _
    (λ f d. calm_then g.V.Vault f a b z c.in_ok-play.ensures.calm (calm_then g.V.Vault f b d.at_end z d.goes.later.calm (end_calm g.V.Vault f d.due d.at_end z d.left))) c.settle.ensures.ended

pub returns-clause-calm : goal.returns-clause-calm
returns-clause-calm g c =
    on_ok_weaker c.settle.result (λ d. calm_both g.V.Vault c.args.self.now.parties.stations c.play.new.self.parties.stations c.settle.new.self.parties.stations c.in_ok-play.ensures.calm d.goes.later.calm) c.settle.ensures.settled

pub returns-clause-openings : goal.returns-clause-openings
returns-clause-openings g c = on_ok_weaker c.settle.result (λ d. d.goes.later.openings ∙ c.in_ok-play.ensures.openings) c.settle.ensures.settled

pub returns-clause-played : goal.returns-clause-played
returns-clause-played g c =
    let q = c.play.new.self in
    let z = c.settle.new.self in
    let servers = servers_said c.args.lines.now in
    let few : length c.args.lines.now ≤ 200000 = c.requires.accepted.few in
    let short : length c.args.lines.now < 2 ^ 29 = omega (arith, few) in
    on_ok_weaker c.settle.result
    (λ d.
    subst (λ (vs : Vec (Vec Item Global) Global). HasPlayedOut g.V.Vault servers c.args.lines.now z.parties.stations vs.items z.text.items) (sym c.settle.ensures.lists)
    (subst (λ (t : Vec ℕ Global). HasPlayedOut g.V.Vault servers c.args.lines.now z.parties.stations q.lists.items t.items) (sym c.settle.ensures.text)
    (played_out g.V.Vault servers c.args.lines.now q.parties.clients q.parties.stations z.parties.stations q.lists.items q.text.items c.in_ok-play.ensures.played short
    (did_count g.V.Vault IsSettling (length q.parties.stations.all.items) servers q.parties.stations z.parties.stations c.in_ok-play.ensures.played.count d))))
    c.settle.ensures.settled
