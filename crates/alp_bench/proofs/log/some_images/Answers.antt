use Rattle.std.proofs.Common.{◌≡◌, ◌+◌, true, List, sym, subst, arith}
use Rattle.std.specs.List.{AllByRecursion}
use Rattle.alp_batch.specs.Batch.{page_below}
use Rattle.alp_fields.specs.Rising.{is_rising}
use Rattle.alp_batch.specs.declared.batch.PageImage.{PageImage}
use Rattle.alp_wal.specs.State.{IsBelow}
use Rattle.alp_bench.proofs.Batches.{rising-push, below-push}
use Rattle.alp_bench.proofs.log.some_images.Goals as goal

pub loop-at-preserved : goal.loop-at-preserved
loop-at-preserved c =
    let image : PageImage = record { at = c.loop-at.at; page = c.in_ok-page.page } in
    let before = c.loop-at.invariant in
    let images = c.loop-at.images.items in
    let pushed = c.in_ok-push.ensures.items in
    record {
      count = omega (arith, before.count, c.in_ok-push.ensures.len);
      rise = subst (λ (l : List PageImage). is_rising page_below l ≡ true) (sym pushed) (rising-push images image before.rise before.below);
      below = subst (λ (l : List PageImage). AllByRecursion (IsBelow (c.loop-at.at + 1)) l) (sym pushed) (below-push c.loop-at.at (c.loop-at.at + 1) images image (omega arith) before.below (omega arith));
    }
