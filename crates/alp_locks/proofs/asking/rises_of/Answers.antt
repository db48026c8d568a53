use Rattle.std.proofs.Common.{◌≡◌, List, ap, ◌∙◌}
use Rattle.std.proofs.lemmas.Result.{IfOk-weaker}
use Rattle.alp_base.specs.declared.key.Resource.{Resource}
use Rattle.alp_modes.specs.declared.Mode.{Mode}
use Rattle.alp_queue.specs.Rises.{Held}
use Rattle.alp_locks.specs.Tables.{held_of}
use Rattle.alp_locks.specs.Asks.{risen}
use Rattle.alp_locks.specs.Wanted.{rising_in}
use Rattle.alp_locks.proofs.RiseLemmas.{rising-all}
use Rattle.alp_locks.proofs.asking.rises_of.Goals as goal

pub returns : goal.returns
returns c =
    IfOk-weaker c.rising_of.result (λ n. n ≡ rising_in c.as_slice.result.now) (λ n. n ≡ risen (held_of c.args.holders.now c.args.trans.now) c.args.needs.now)
    (λ n is. is ∙ ap rising_in (c.as_slice.ensures.value ∙ c.in_ok-all.ensures) ∙ rising-all c.in_ok-held.held c.args.needs.now ∙ ap (λ (h : Held). risen h c.args.needs.now) c.in_ok-held.ensures)
    c.rising_of.ensures
