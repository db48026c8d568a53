use Rattle.std.specs.Prelude.{cond, Bool, true, false, ◌==◌, ◌&&◌, Option, None, Some}
use Rattle.std.specs.Option.{option_copied}
use Rattle.std.specs.FinMap as map
use Rattle.std.proofs.Common.{◌≡◌, ℕ, List, [], ◌∷◌, ◌++◌, refl, ap, sym, subst, ◌∙◌}
use Rattle.alp_base.specs.declared.ids.TransId.{TransId}
use Rattle.alp_coord.specs.declared.course.Course.{Course}
use Rattle.alp_coord.specs.declared.begun.Settled.{Settled}
use Rattle.alp_coord.specs.declared.coordinator.Coordinator.{Coordinator}
use Rattle.std.proofs.Common.{◌+◌, length, length-append}
use Rattle.alp_journal.specs.Deeds.{Begins}
use Rattle.alp_coord.specs.declared.begun.Settled.TheVariants as settled
use Rattle.alp_coord.specs.declared.course.Stage.TheVariants as stage
use Rattle.alp_coord.specs.Courses.{begun_course}
use Rattle.alp_coord.specs.Coordinators.{IsOf, Comes, next_id}
use Rattle.alp_coord.proofs.FateLemmas.{begin_fates, with_begun}
use Rattle.alp_coord.proofs.coordinator.Coordinator.begin.Goals as goal

pub returns-clause-id : goal.returns-clause-id
returns-clause-id c =
    let k = c.args.self.now in
    λ i. record { server = k.server; epoch = k.epoch; counter = c.len-count.ensures i + 1 }

pub returns-clause-one : goal.returns-clause-one
returns-clause-one c =
    let k = c.args.self.now in
    subst (λ (y : Coordinator). IsOf k.server k.epoch (length k.begun + 1) y) (sym c.in_ok-enter.ensures.ok) (record { server_same = refl; epoch_same = refl; count_same = length-append k.begun (settled.Open ∷ []) })

pub returns-clause-begun : goal.returns-clause-begun
returns-clause-begun c who seen =
    let k = c.args.self.now in
    let after : c.enter.new.self ≡ with_begun k (begun_course c.args.client) =
    c.in_ok-enter.ensures.ok
    ∙ (λ i. record k {
      begun = k.begun ++ settled.Open ∷ [];
      courses = map.insert k.courses (record { server = k.server; epoch = k.epoch; counter = c.len-count.ensures i + 1 }) (record { client = c.args.client; stage = stage.Running; members = c.new.ensures i });
    }) in
    subst (λ (y : Coordinator). Comes (Begins (next_id k) c.args.client who seen) k y) (sym after) (λ u. begin_fates k c.args.client u)
