use Rattle.std.specs.Prelude.{◌≡◌, false}
use Rattle.std.proofs.Common.{ℕ, length, sym, subst}
use Rattle.std.proofs.lemmas.Result.{on_ok_weaker}
use Rattle.alp_session.specs.Crowd.{Crowd}
use Rattle.alp_course.specs.Carries.{CarriesIf}
use Rattle.alp_cluster.specs.Runs.{is_stop_line}
use Rattle.alp_cluster.specs.Steps.{Adds}
use Rattle.alp_cluster.proofs.CarryLemmas.{count_later}
use Rattle.alp_cluster.proofs.DidLemmas.{gone_both, all_handed, all_where}
use Rattle.alp_cluster.proofs.GoneLemmas.{end_on, end_map, handed_on}
use Rattle.alp_cluster.proofs.LineLemmas.{adds, adds_some, adds_begun}
use Rattle.alp_cluster.proofs.LoopLemmas.{did_count, some_count}
use Rattle.alp_cluster.proofs.cluster.Cluster.play_step.Goals as goal

pub returns-in_err-play_line-clause-gone : goal.returns-in_err-play_line-clause-gone
returns-in_err-play_line-clause-gone g c =
    all_handed g.V.Vault (is_stop_line c.args.line.now.line ≡ false) c.args.self.now.parties.stations c.play_line.new.self.parties.stations c.in_err-play_line.field-0.0 c.from_residual.result c.in_err-play_line.ensures.gone
    (handed_on c.in_err-play_line.field-0.0 c.from_residual.result c.from_residual.ensures.0 c.from_residual.ensures.1)

pub returns-in_err-play_line-clause-ended : goal.returns-in_err-play_line-clause-ended
returns-in_err-play_line-clause-ended g c =
    let p = c.args.self.now.parties in
    end_on c.in_err-play_line.field-0.0 c.from_residual.result _ _ (handed_on c.in_err-play_line.field-0.0 c.from_residual.result c.from_residual.ensures.0 c.from_residual.ensures.1)
    (λ f h. (let (known, begins) = h in (known, adds_begun g.V.Vault f (length p.stations.all.items) p.clients known p.stations c.play_line.new.self.parties.stations c.args.line.now c.args.self.now.lists.items c.play_line.new.self.lists.items c.args.self.now.text.items c.play_line.new.self.text.items begins))) c.in_err-play_line.ensures.ended

pub carry_behind-requires : goal.carry_behind-requires
carry_behind-requires g c = record { on = c.in_ok-play_line.ensures.adds.step.on }

pub returns-clause-gone : goal.returns-clause-gone
returns-clause-gone g c =
    let a = c.args.self.now.parties.stations in
    let b = c.play_line.new.self.parties.stations in
    let z = c.carry_behind.new.self.stations in
    gone_both g.V.Vault (is_stop_line c.args.line.now.line ≡ false) a b z _ c.carry_behind.result c.in_ok-play_line.ensures.adds.step.on c.in_ok-play_line.ensures.gone
    (all_where g.V.Vault (Unit {0}) (is_stop_line c.args.line.now.line ≡ false) b z c.carry_behind.result (λ e. tt {0}) c.carry_behind.ensures.gone)

pub returns-clause-ended : goal.returns-clause-ended
returns-clause-ended g c =
    let p = c.args.self.now.parties in
    let q = c.play_line.new.self in
    let n = length p.stations.all.items in
    end_map c.carry_behind.result _ _
    (λ f d. (
      q.parties.clients,
      adds_some g.V.Vault n p.clients q.parties.clients p.stations q.parties.stations c.args.line.now c.args.self.now.lists.items q.lists.items c.args.self.now.text.items q.text.items c.in_ok-play_line.ensures.adds f c.carry_behind.new.self.stations
          (some_count g.V.Vault (λ (k : ℕ). CarriesIf k q.parties.clients.settings.collects) (length q.parties.stations.all.items) n f q.parties.stations c.carry_behind.new.self.stations
          (count_later g.V.Vault p.stations q.parties.stations c.in_ok-play_line.ensures.adds.goes.later) d),
    ))
    c.carry_behind.ensures.ended

pub returns-clause-adds : goal.returns-clause-adds
returns-clause-adds g c =
    let p = c.args.self.now.parties in
    let q = c.play_line.new.self in
    let z = c.carry_behind.new.self in
    let n = length p.stations.all.items in
    on_ok_weaker c.carry_behind.result
    (λ d.
    subst (λ (x : Crowd). Adds g.V.Vault n p.clients x p.stations z.stations c.args.line.now c.args.self.now.lists.items q.lists.items c.args.self.now.text.items q.text.items) (sym c.carry_behind.ensures.clients)
    (adds g.V.Vault n p.clients q.parties.clients p.stations q.parties.stations c.args.line.now c.args.self.now.lists.items q.lists.items c.args.self.now.text.items q.text.items c.in_ok-play_line.ensures.adds z.stations
    (did_count g.V.Vault (λ (k : ℕ). CarriesIf k q.parties.clients.settings.collects) (length q.parties.stations.all.items) n q.parties.stations z.stations (count_later g.V.Vault p.stations q.parties.stations c.in_ok-play_line.ensures.adds.goes.later) d)))
    c.carry_behind.ensures.did
