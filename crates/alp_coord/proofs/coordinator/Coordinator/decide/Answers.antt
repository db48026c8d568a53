use Rattle.std.specs.Prelude.{cond, Bool, true, false, ◌==◌, ◌&&◌, Option, None, Some}
use Rattle.std.specs.Option.{option_copied}
use Rattle.std.specs.FinMap as map
use Rattle.std.proofs.Common.{◌≡◌, ℕ, ◌-◌, List, [], ◌∷◌, ◌++◌, refl, ap, sym, subst, ◌∙◌}
use Rattle.alp_base.specs.declared.ids.TransId.{TransId}
use Rattle.alp_coord.specs.declared.course.Course.{Course}
use Rattle.alp_coord.specs.declared.begun.Settled.{Settled}
use Rattle.alp_coord.specs.declared.coordinator.Coordinator.{Coordinator}
use Rattle.alp_journal.specs.Coordinator.{joins_of}
use Rattle.alp_journal.specs.Deeds.{Decides}
use Rattle.alp_coord.specs.declared.begun.Settled.TheVariants as settled
use Rattle.alp_coord.specs.declared.course.Stage.TheVariants as stage
use Rattle.alp_coord.specs.Courses.{CourseMap}
use Rattle.alp_coord.specs.Coordinators.{fate_in, Comes, IsAlong, settle_in}
use Rattle.alp_coord.proofs.MapLemmas.{length_set}
use Rattle.alp_coord.proofs.MoveLemmas.{finishing_at, open_there, voted_finishing, decide_fates, alone_fates, no_joins_of}
use Rattle.alp_coord.proofs.coordinator.Coordinator.decide.Goals as goal

pub settle-requires : goal.settle-requires
settle-requires c =
    let s = c.args.self.now in
    let t = c.args.trans.now in
    open_there s t stage.Finishing (finishing_at s t (voted_finishing s t c.requires.voted)) refl

pub returns-then-are_none-clause-decided : goal.returns-then-are_none-clause-decided
returns-then-are_none-clause-decided c =
    let s = c.args.self.now in
    let t = c.args.trans.now in
    subst (λ (k : Coordinator). Comes (Decides (record { ts = c.args.ts; trans = t }) (joins_of (fate_in s t))) s k) (sym c.settle.ensures)
    (alone_fates s t c.args.ts (finishing_at s t (voted_finishing s t c.requires.voted)) (no_joins_of (fate_in s t) c.members.result.now c.members.ensures (sym c.are_none.ensures ∙ c.if-are_none.true)))

pub returns-then-are_none-clause-along : goal.returns-then-are_none-clause-along
returns-then-are_none-clause-along c =
    let s = c.args.self.now in
    let t = c.args.trans.now in
    subst (λ (k : Coordinator). IsAlong s k) (sym c.settle.ensures) (record { server_same = refl; epoch_same = refl; count_same = length_set s.begun (t.counter - 1) (settled.Committed c.args.ts) })

pub returns-clause-decided : goal.returns-clause-decided
returns-clause-decided c =
    let s = c.args.self.now in
    let t = c.args.trans.now in
    subst (λ (m : CourseMap). Comes (Decides (record { ts = c.args.ts; trans = t }) (joins_of (fate_in s t))) s (record s { courses = m })) (sym c.turn.ensures)
    (decide_fates s t c.args.ts (finishing_at s t (voted_finishing s t c.requires.voted)))
