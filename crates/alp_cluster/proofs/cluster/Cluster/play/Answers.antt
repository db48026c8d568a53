use Rattle.std.specs.Prelude.{Ok, Err, true, false}
use Rattle.std.proofs.Common.{◌≡◌, ◌<◌, ◌≤◌, ◌+◌, ◌^◌, ℕ, List, [], ◌∷◌, ◌++◌, take, drop, length, sym, subst, ◌∙◌, refl, arith}
use Rattle.std.proofs.lemmas.List.{take_all}
use Rattle.alp_lines.specs.Forms.{IsForm}
use Rattle.alp_script.specs.Accepted.{servers_said}
use Rattle.alp_script.specs.Order.{names_ours}
use Rattle.alp_script.specs.declared.numbered.NumberedLine.{NumberedLine}
use Rattle.alp_cluster.specs.Runs.{HasPlayed, StopNone, is_stop_line}
use Rattle.alp_cluster.specs.Steps.{Adds, AddsSome}
use Rattle.alp_cluster.proofs.DidLemmas.{calm_none, calm_both, gone_none, gone_both, all_where, all_on}
use Rattle.alp_cluster.proofs.GoneLemmas.{end_on, handed_on}
use Rattle.alp_cluster.proofs.LeftLemmas.{split_at, end_opened, end_calm, calm_then}
use Rattle.alp_cluster.proofs.RunLemmas.{front_at, front_long, at_place, played_more, line_ended, line_ended_so}
use Rattle.alp_cluster.proofs.cluster.Cluster.play.Goals as goal

pub loop-line-init : goal.loop-line-init
loop-line-init g c = record { played = c.requires.new; gone = gone_none g.V.Vault (StopNone c.args.lines.now) c.args.self.now.parties.stations (tt {0}); openings = refl; calm = calm_none g.V.Vault c.args.self.now.parties.stations }

pub play_step-requires-clause-step : goal.play_step-requires-clause-step
play_step-requires-clause-step g c = c.loop-line.invariant.played.step

pub play_step-requires-clause-form : goal.play_step-requires-clause-form
play_step-requires-clause-form g c = at_place (λ (l : NumberedLine). IsForm l.line) c.args.lines.now c.loop-line.line-index c.line-item.result c.requires.accepted.forms c.loop-line-test.true c.line-item.is

pub play_step-requires-clause-ours : goal.play_step-requires-clause-ours
play_step-requires-clause-ours g c =
    subst (λ (n : ℕ). names_ours n c.line-item.result.line ≡ true) (sym c.loop-line.invariant.played.count)
    (at_place (λ (l : NumberedLine). names_ours (servers_said c.args.lines.now) l.line ≡ true) c.args.lines.now c.loop-line.line-index c.line-item.result c.requires.accepted.ours c.loop-line-test.true c.line-item.is)

pub play_step-requires-clause-places : goal.play_step-requires-clause-places
play_step-requires-clause-places g c = c.loop-line.invariant.played.places

pub returns-in_err-play_step-clause-gone : goal.returns-in_err-play_step-clause-gone
returns-in_err-play_step-clause-gone g c =
    let a = c.args.self.now.parties.stations in
    let b = c.loop-line.self.parties.stations in
    let z = c.play_step.new.self.parties.stations in
    let none : StopNone c.args.lines.now → is_stop_line c.line-item.result.line ≡ false =
    (λ all. at_place (λ (l : NumberedLine). is_stop_line l.line ≡ false) c.args.lines.now c.loop-line.line-index c.line-item.result all c.loop-line-test.true c.line-item.is) in
    all_on g.V.Vault (StopNone c.args.lines.now) a b z (tt {0}) c.in_err-play_step.field-0.0 c.from_residual.result c.loop-line.invariant.played.step.on c.loop-line.invariant.gone
    (all_where g.V.Vault (is_stop_line c.line-item.result.line ≡ false) (StopNone c.args.lines.now) b z (Err c.in_err-play_step.field-0.0) none c.in_err-play_step.ensures.gone)
    (handed_on c.in_err-play_step.field-0.0 c.from_residual.result c.from_residual.ensures.0 c.from_residual.ensures.1)

pub returns-in_err-play_step-clause-ended : goal.returns-in_err-play_step-clause-ended
returns-in_err-play_step-clause-ended g c =
    let i : ℕ = c.loop-line.line-index in
    let ls : List NumberedLine = c.args.lines.now in
    let q = c.loop-line.self in
    let z = c.play_step.new.self.parties.stations in
    let l = c.line-item.result in
    let front : take (i + 1) ls ≡ take i ls ++ l ∷ [] = front_at ls i l c.loop-line-test.true c.line-item.is in
    let few : length ls ≤ 200000 = c.requires.accepted.few in
    let long : length (take i ls) ≤ length ls = front_long ls i in
    let short : length (take i ls) < 2 ^ 29 = omega (arith, few, long) in
    end_on c.in_err-play_step.field-0.0 c.from_residual.result _ _ (handed_on c.in_err-play_step.field-0.0 c.from_residual.result c.from_residual.ensures.0 c.from_residual.ensures.1)
    (λ f h.
    let (known, some) = h in
    line_ended g.V.Vault (servers_said ls) (take i ls) q.parties.clients q.parties.stations z q.lists.items q.text.items c.loop-line.invariant.played ls l (drop (i + 1) ls) known f c.play_step.new.self.lists.items c.play_step.new.self.text.items (split_at ls i l front) short
    (subst (λ (n : ℕ). AddsSome g.V.Vault f n q.parties.clients known q.parties.stations z l q.lists.items c.play_step.new.self.lists.items q.text.items c.play_step.new.self.text.items) c.loop-line.invariant.played.count some))
    c.in_err-play_step.ensures.ended

pub returns-in_err-play_step-clause-printed : goal.returns-in_err-play_step-clause-printed
returns-in_err-play_step-clause-printed g c =
    let i : ℕ = c.loop-line.line-index in
    let ls : List NumberedLine = c.args.lines.now in
    let q = c.loop-line.self in
    let z = c.play_step.new.self.parties.stations in
    let l = c.line-item.result in
    let front : take (i + 1) ls ≡ take i ls ++ l ∷ [] = front_at ls i l c.loop-line-test.true c.line-item.is in
    let few : length ls ≤ 200000 = c.requires.accepted.few in
    let long : length (take i ls) ≤ length ls = front_long ls i in
    let short : length (take i ls) < 2 ^ 29 = omega (arith, few, long) in
    end_on c.in_err-play_step.field-0.0 c.from_residual.result _ _ (handed_on c.in_err-play_step.field-0.0 c.from_residual.result c.from_residual.ensures.0 c.from_residual.ensures.1)
    (λ f h.
    let (known, some) = h in
    line_ended_so g.V.Vault (servers_said ls) (take i ls) q.parties.clients q.parties.stations z q.lists.items q.text.items c.loop-line.invariant.played ls l (drop (i + 1) ls) known f c.play_step.new.self.lists.items c.play_step.new.self.text.items (split_at ls i l front) short
    (subst (λ (n : ℕ). AddsSome g.V.Vault f n q.parties.clients known q.parties.stations z l q.lists.items c.play_step.new.self.lists.items q.text.items c.play_step.new.self.text.items) c.loop-line.invariant.played.count some))
    c.in_err-play_step.ensures.ended

pub returns-in_err-play_step-clause-left : goal.returns-in_err-play_step-clause-left
returns-in_err-play_step-clause-left g c =
    end_on c.in_err-play_step.field-0.0 c.from_residual.result _ _ (handed_on c.in_err-play_step.field-0.0 c.from_residual.result c.from_residual.ensures.0 c.from_residual.ensures.1)
    (λ f h.
    let (known, some) = h in
    end_opened g.V.Vault f some.due some.at_end c.play_step.new.self.parties.stations some.left ∙ some.goes.later.openings ∙ c.loop-line.invariant.openings)
    c.in_err-play_step.ensures.ended

pub returns-in_err-play_step-clause-calm_left : goal.returns-in_err-play_step-clause-calm_left
returns-in_err-play_step-clause-calm_left g c =
    let a = c.args.self.now.parties.stations in
    let q = c.loop-line.self.parties.stations in
    let z = c.play_step.new.self.parties.stations in
    end_on c.in_err-play_step.field-0.0 c.from_residual.result _ _ (handed_on c.in_err-play_step.field-0.0 c.from_residual.result c.from_residual.ensures.0 c.from_residual.ensures.1)
    (λ f h.
    let (known, some) = h in
    calm_then g.V.Vault f a q z c.loop-line.invariant.calm (calm_then g.V.Vault f q some.at_end z some.goes.later.calm (end_calm g.V.Vault f some.due some.at_end z some.left)))
    c.in_err-play_step.ensures.ended

pub loop-line-preserved : goal.loop-line-preserved
loop-line-preserved g c =
    let i : ℕ = c.loop-line.line-index in
    let ls : List NumberedLine = c.args.lines.now in
    let a = c.args.self.now.parties.stations in
    let q = c.loop-line.self in
    let z = c.play_step.new.self in
    let l = c.line-item.result in
    let more = c.in_ok-play_step.ensures.adds in
    let none : StopNone ls → is_stop_line l.line ≡ false = (λ all. at_place (λ (k : NumberedLine). is_stop_line k.line ≡ false) ls i l all c.loop-line-test.true c.line-item.is) in
    record {
      played =
          subst (λ (js : List NumberedLine). HasPlayed g.V.Vault (servers_said ls) js z.parties.clients z.parties.stations z.lists.items z.text.items) (sym (front_at ls i l c.loop-line-test.true c.line-item.is))
          (played_more g.V.Vault (servers_said ls) (take i ls) q.parties.clients q.parties.stations z.parties.stations q.lists.items q.text.items c.loop-line.invariant.played l z.parties.clients z.lists.items z.text.items
          (subst (λ (n : ℕ). Adds g.V.Vault n q.parties.clients z.parties.clients q.parties.stations z.parties.stations l q.lists.items z.lists.items q.text.items z.text.items) c.loop-line.invariant.played.count more));
      gone = gone_both g.V.Vault (StopNone ls) a q.parties.stations z.parties.stations (tt {0}) (Ok (tt {0})) c.loop-line.invariant.played.step.on c.loop-line.invariant.gone
          (all_where g.V.Vault (is_stop_line l.line ≡ false) (StopNone ls) q.parties.stations z.parties.stations (Ok (tt {0})) none c.in_ok-play_step.ensures.gone);
      openings = more.goes.later.openings ∙ c.loop-line.invariant.openings;
      calm = calm_both g.V.Vault a q.parties.stations z.parties.stations c.loop-line.invariant.calm more.goes.later.calm;
    }

pub returns-clause-played : goal.returns-clause-played
returns-clause-played g c =
    let q = c.loop-line.self in
    subst (λ (js : List NumberedLine). HasPlayed g.V.Vault (servers_said c.args.lines.now) js q.parties.clients q.parties.stations q.lists.items q.text.items) (take_all c.loop-line.line-index c.args.lines.now c.loop-line-test.false) c.loop-line.invariant.played

pub returns-clause-calm : goal.returns-clause-calm
returns-clause-calm g c = c.loop-line.invariant.calm
