use Rattle.std.proofs.Common.{sym, subst, false}
use Rattle.alp_disk.specs.Disk.{Image}
use Rattle.alp_disk.specs.Pending.{MayLeave, words_of}
use Rattle.alp_disk.specs.PendingLaws.{read_is_left}
use Rattle.alp_disk.proofs.Replays.{alternated_is_left, filled_is_left}
use Rattle.alp_disk.proofs.outcomes.crash.Goals as goal

pub returns-in-1-clause-left : goal.returns-in-1-clause-left
returns-in-1-clause-left c n is = subst (λ (i : Image). MayLeave n c.args.stable.now.items c.args.pending.now.items i) (sym c.keep_all.ensures) (read_is_left n _ c.args.pending.now.items is)

pub returns-in-2-clause-left : goal.returns-in-2-clause-left
returns-in-2-clause-left c n is = subst (λ (i : Image). MayLeave n c.args.stable.now.items c.args.pending.now.items i) (sym c.keep_every_other.ensures) (alternated_is_left n false _ c.args.pending.now.items is)

pub returns-in_default-clause-left : goal.returns-in_default-clause-left
returns-in_default-clause-left c n is = subst (λ (i : Image). MayLeave n c.args.stable.now.items c.args.pending.now.items i) (sym c.fill_all.ensures) (filled_is_left n (words_of c.args.pick) _ c.args.pending.now.items is)
