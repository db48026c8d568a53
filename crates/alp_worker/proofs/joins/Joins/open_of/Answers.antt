use Rattle.std.specs.Prelude.{flat_map, map as list_map}
use Rattle.std.specs.List.Sorted.{IsPermutation}
use Rattle.std.proofs.Common.{List, ap, sym, subst, ◌∙◌}
use Rattle.alp_journal.specs.Moves.{times_out_join}
use Rattle.alp_worker.specs.Walks.{timed_out, open_of}
use Rattle.alp_worker.specs.declared.live.LiveJoin.{LiveJoin}
use Rattle.alp_worker.proofs.WalkLemmas.{open_parts}
use Rattle.alp_worker.proofs.joins.Joins.open_of.Goals as goal

pub returns-clause-journal : goal.returns-clause-journal
returns-clause-journal c s h =
    subst (λ (ls : List LiveJoin). IsPermutation (flat_map (times_out_join s c.args.trans.now) s.joined) (list_map timed_out ls)) (sym (c.in_ok-open.ensures ∙ ap (open_of c.args.trans.now) c.as_slice.ensures))
    (open_parts c.args.trans.now s.holder.server s.ids.epoch s.ids.joins s.phases s.joined c.args.self.now h)
