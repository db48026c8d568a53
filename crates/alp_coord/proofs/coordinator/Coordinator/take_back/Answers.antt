use Rattle.std.specs.Prelude.{cond, Bool, true, false, ◌==◌, ◌&&◌, Option, None, Some}
use Rattle.std.specs.Option.{option_copied}
use Rattle.std.specs.FinMap as map
use Rattle.std.proofs.Common.{◌≡◌, ℕ, List, [], ◌∷◌, ◌++◌, refl, ap, sym, subst, ◌∙◌}
use Rattle.alp_base.specs.declared.ids.TransId.{TransId}
use Rattle.alp_coord.specs.declared.course.Course.{Course}
use Rattle.alp_coord.specs.declared.begun.Settled.{Settled}
use Rattle.alp_coord.specs.declared.coordinator.Coordinator.{Coordinator}
use Rattle.std.proofs.Common.{◌-◌, length}
use Rattle.alp_coord.specs.Coordinators.{IsOf, fate_in, id_at}
use Rattle.alp_coord.proofs.MapLemmas.{split_last}
use Rattle.alp_coord.proofs.FateLemmas.{taken_fates, without_last}
use Rattle.alp_coord.proofs.coordinator.Coordinator.take_back.Goals as goal

pub returns-clause-run : goal.returns-clause-run
returns-clause-run c =
    let k = c.args.self.now in
    let r = split_last k.begun c.requires.some in
    record { server_same = refl; epoch_same = refl; count_same = ap (λ (xs : List Settled). length xs) (c.pop.ensures r.before r.last r.is) ∙ r.count }

pub returns-clause-taken : goal.returns-clause-taken
returns-clause-taken c u =
    let k = c.args.self.now in
    let r = split_last k.begun c.requires.some in
    let gone = c.remove.ensures.after ∙ ap (λ (n : ℕ). map.remove k.courses (id_at k n)) c.len-count.ensures in
    let after : (record k { begun = c.pop.new.self; courses = c.remove.new.self }) ≡ without_last k r.before = λ i. record k { begun = c.pop.ensures r.before r.last r.is i; courses = gone i } in
    ap (λ (y : Coordinator). fate_in y u) after ∙ taken_fates k r.before r.last r.is u
