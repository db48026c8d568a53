use Rattle.std.specs.Prelude.{cond, Bool, true, false, ◌==◌, ◌&&◌, Option, None, Some}
use Rattle.std.specs.Option.{option_copied}
use Rattle.std.specs.FinMap as map
use Rattle.std.proofs.Common.{◌≡◌, ℕ, ◌-◌, List, [], ◌∷◌, ◌++◌, refl, ap, sym, subst, ◌∙◌}
use Rattle.alp_base.specs.declared.ids.TransId.{TransId}
use Rattle.alp_coord.specs.declared.course.Course.{Course}
use Rattle.alp_coord.specs.declared.begun.Settled.{Settled}
use Rattle.alp_coord.specs.declared.coordinator.Coordinator.{Coordinator}
use Rattle.alp_journal.specs.Deeds.{Ends}
use Rattle.alp_coord.specs.declared.begun.Settled.TheVariants as settled
use Rattle.alp_coord.specs.Coordinators.{Comes, IsAlong}
use Rattle.alp_coord.proofs.MapLemmas.{length_set}
use Rattle.alp_coord.proofs.MoveLemmas.{early_at, end_open, end_fates, end_still}
use Rattle.alp_coord.proofs.coordinator.Coordinator.end.Goals as goal

pub settle-requires : goal.settle-requires
settle-requires c =
    let s = c.args.self.now in
    let t = c.args.trans.now in
    let a = early_at s t (sym c.is_early.ensures ∙ c.if-not-is_early.false) in
    end_open s t a.place a.there a.early

pub returns-then-not-is_early-clause-ended : goal.returns-then-not-is_early-clause-ended
returns-then-not-is_early-clause-ended c client = end_still c.args.self.now c.args.trans.now c.args.cause client (sym c.is_early.ensures ∙ c.if-not-is_early.true)

pub returns-clause-along : goal.returns-clause-along
returns-clause-along c =
    let s = c.args.self.now in
    let t = c.args.trans.now in
    subst (λ (k : Coordinator). IsAlong s k) (sym c.settle.ensures) (record { server_same = refl; epoch_same = refl; count_same = length_set s.begun (t.counter - 1) (settled.Ended c.args.cause) })

pub returns-clause-ended : goal.returns-clause-ended
returns-clause-ended c client =
    let s = c.args.self.now in
    let t = c.args.trans.now in
    subst (λ (k : Coordinator). Comes (Ends t client c.args.cause) s k) (sym c.settle.ensures) (end_fates s t c.args.cause client (early_at s t (sym c.is_early.ensures ∙ c.if-not-is_early.false)))
