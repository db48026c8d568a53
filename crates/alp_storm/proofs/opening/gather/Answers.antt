use Rattle.std.proofs.Common.{rules, ◌≡◌, ◌+◌, ◌<◌, ◌≤◌, length, slice_index_or, ap, ◌∙◌, sym, arith}
use Rattle.std.proofs.lemmas.List.{get_or-set_other, get_or_default}
use Rattle.std.specs.Vec.{vec_len}
use Rattle.alp_monitor.specs.declared.monitor.Pass.{Pass}
use Rattle.alp_storm.specs.declared.errand.Errand.{Errand}
use Rattle.alp_storm.proofs.Closes.{gives_more}
use Rattle.alp_storm.proofs.opening.gather.Goals as goal

pub returns-clause-each : goal.returns-clause-each
returns-clause-each g c k d p low = (let i = c.loop-number.invariant in let l : k < c.loop-number.number = search rules in i.4 k d p l)

pub loop-number-preserved : goal.loop-number-preserved
loop-number-preserved g c =
    let i = c.loop-number.invariant in
    let low : c.loop-number.number < length c.loop-number.errands.items = search rules in
    let long : length c.loop-number.room.items ≡ c.loop-number.number = search rules in
    let j0 = c.index_mut-errand.result.now in
    let base : (d : Errand g.row.S.Denot g.row.S-Base.Denot g.row.S-Entry.Denot) → j0 ≡ slice_index_or c.args.errands.now.items c.loop-number.number d =
    λ d. c.index_mut-errand.ensures.value ∙ (get_or_default c.loop-number.errands.items c.loop-number.number j0 d low ∙ i.3 c.loop-number.number d (omega arith)) in (
      search rules,
      search rules,
      search rules,
      (λ k d l. get_or-set_other c.loop-number.errands.items c.loop-number.number k _ d (λ e. omega (arith, e, l)) ∙ i.3 k d (omega (arith, l))),
      gives_more c.args.errands.now.items c.loop-number.errands.items c.loop-number.room.items c.push_reserved.new.self.items c.loop-number.number _ c.take_last.result low long c.push_reserved.ensures.items
          (λ d. (ap (λ (x : Errand g.row.S.Denot g.row.S-Base.Denot g.row.S-Entry.Denot). x.ring.items) (sym (base d)) ∙ c.take_last.ensures.items, ap (λ (x : Errand g.row.S.Denot g.row.S-Base.Denot g.row.S-Entry.Denot). x.task) (base d))) i.4,
    )
