use Rattle.std.proofs.Common.{rules, ◌≡◌, ◌+◌, ◌++◌, ◌∷◌, [], length, ◌<◌, ◌≤◌, ◌-◌, slice_index_or, ap, ◌∙◌, sym, arith}
use Rattle.std.proofs.lemmas.List.{get_or-set_other}
use Rattle.std.specs.Vec.{vec_len, vec_capacity}
use Rattle.alp_storm.proofs.Closes.{or_longer, or_last}
use Rattle.alp_storm.proofs.Spreading.{Gets, gets_more}
use Rattle.std.proofs.lemmas.List.{get_or_default}
use Rattle.alp_monitor.specs.declared.monitor.Pass.{Pass}
use Rattle.alp_storm.specs.declared.errand.Errand.{Errand}
use Rattle.alp_storm.proofs.opening.spread.Goals as goal

pub returns-clause-each : goal.returns-clause-each
returns-clause-each g c k d p low = let i = c.loop-left.invariant in let l : k < vec_len c.args.errands.now = search rules in let n : c.loop-left.left ≤ k = search rules in i.6 k d p n l

pub loop-left-preserved : goal.loop-left-preserved
loop-left-preserved g c =
    let i = c.loop-left.invariant in
    let some = c.loop-left-test.true in
    let parts = c.take_last-pass.ensures.items in
    let left_is : (c.loop-left.left - 1) + 1 ≡ c.loop-left.left = omega (arith, some) in
    let long : length c.take_last-pass.new.self.items ≡ c.loop-left.left - 1 = search rules in
    let low : c.loop-left.left - 1 < length c.loop-left.errands.items = search rules in
    let push = c.push_reserved.ensures in
    let j0 = c.index_mut-errand.result.now in
    let value : j0 ≡ slice_index_or c.loop-left.errands.items (c.loop-left.left - 1) j0 = c.index_mut-errand.ensures.value in
    let base : (d : Errand g.row.S.Denot g.row.S-Base.Denot g.row.S-Entry.Denot) → j0 ≡ slice_index_or c.args.errands.now.items (c.loop-left.left - 1) d = λ d. value ∙ (get_or_default c.loop-left.errands.items (c.loop-left.left - 1) j0 d low ∙ i.5 (c.loop-left.left - 1) d (omega (arith, some))) in
    let pass : (p : Pass g.row.S.Denot g.row.S-Base.Denot g.row.S-Entry.Denot) → c.take_last-pass.result ≡ slice_index_or c.args.room.now.items (c.loop-left.left - 1) p = λ p. sym (or_last c.take_last-pass.new.self.items c.take_last-pass.result (c.loop-left.left - 1) p (sym long)) ∙ (ap (λ x. slice_index_or x (c.loop-left.left - 1) p) (sym parts) ∙ i.4 (c.loop-left.left - 1) p (omega (arith, some))) in (
      search rules,
      search rules,
      search rules,
      search rules,
      (λ k p l. sym (or_longer c.take_last-pass.new.self.items (c.take_last-pass.result ∷ []) k p (omega (arith, l, long))) ∙ (ap (λ x. slice_index_or x k p) (sym parts) ∙ i.4 k p (omega (arith, l)))),
      (λ k d l. get_or-set_other c.loop-left.errands.items (c.loop-left.left - 1) k _ d (λ e. omega (arith, e, l)) ∙ i.5 k d (omega (arith, l))),
      gets_more c.args.errands.now.items c.loop-left.errands.items c.args.room.now.items (vec_len c.args.errands.now) (c.loop-left.left - 1) _ low (λ d p. (push.items ∙ ap (λ (x : Errand g.row.S.Denot g.row.S-Base.Denot g.row.S-Entry.Denot × Pass g.row.S.Denot g.row.S-Base.Denot g.row.S-Entry.Denot). x.0.ring.items ++ x.1 ∷ []) (λ t. (base d t, pass p t)), ap (λ (x : Errand g.row.S.Denot g.row.S-Base.Denot g.row.S-Entry.Denot). x.task) (base d), push.capacity ∙ ap (λ (x : Errand g.row.S.Denot g.row.S-Base.Denot g.row.S-Entry.Denot). vec_capacity x.ring) (base d))) (λ k d p at. i.6 k d p (omega (arith, at, some))),
    )
