use Rattle.std.specs.List.{AllByRecursion}
use Rattle.std.specs.FinMap as map
use Rattle.std.proofs.Common.{◌≤◌, ℕ, List, sym, ap, subst}
use Rattle.alp_base.specs.Notes.{notes_after}
use Rattle.alp_base.specs.declared.faults.Sizes.{Sizes}
use Rattle.alp_batch.specs.Batch.{IsBatch}
use Rattle.alp_batch.specs.declared.batch.Batch.{Batch}
use Rattle.alp_batch.specs.declared.batch.PageImage.{PageImage}
use Rattle.alp_pool.specs.Pools.{log_of}
use Rattle.alp_wal.specs.Live.{BothFit}
use Rattle.alp_wal.specs.State.{IsBelow}
use Rattle.alp_wal.specs.Wal.{anchor_of, notes_of}
use Rattle.alp_store.specs.Batches.{batch_of}
use Rattle.alp_store.proofs.BatchLaws.{is_batch, few_after, both_fit}
use Rattle.alp_store.proofs.PutLaws.{nothing_put}
use Rattle.alp_store.proofs.commit.put_plan.Goals as goal

pub returns-in-Err-clause-put : goal.returns-in-Err-clause-put
returns-in-Err-clause-put g c = nothing_put g.D.Disk g.met.D.Disk.only_now (log_of c.args.pages.now) (batch_of c.args.draft.now.pages c.args.notes.now) (λ told. c.knows.ensures.known told c.requires.alive)

pub returns-then-not-all_below-clause-put : goal.returns-then-not-all_below-clause-put
returns-then-not-all_below-clause-put g c = nothing_put g.D.Disk g.met.D.Disk.only_now (log_of c.args.pages.now) (batch_of c.args.draft.now.pages c.args.notes.now) (λ told. c.knows.ensures.known told c.requires.alive)

pub put-requires-clause-batch : goal.put-requires-clause-batch
put-requires-clause-batch g c =
    let w = log_of c.args.pages.now in
    subst IsBatch (sym c.in-Ok.ensures) (is_batch (anchor_of w).server (anchor_of w).servers (anchor_of w).sizes.area (notes_of w) c.requires.loggable.0 c.args.draft.now.pages c.args.notes.now c.requires.loggable.1)

pub put-requires-clause-suits : goal.put-requires-clause-suits
put-requires-clause-suits g c =
    let w = log_of c.args.pages.now in
    record {
      inside = subst (λ (t : ℕ × List PageImage). AllByRecursion (IsBelow t.0) t.1) (λ i. (ap (λ (s : Sizes). s.home) c.sizes.ensures i, c.as_slice.ensures i)) (c.all_below.ensures.0 c.if-not-all_below.false);
      few = subst (λ (b : Batch). map.len (notes_after b.notes (notes_of w)) ≤ 65535) (sym c.in-Ok.ensures)
          (few_after (anchor_of w).server (anchor_of w).servers (anchor_of w).sizes.area (notes_of w) c.requires.loggable.0 c.args.draft.now.pages c.args.notes.now c.requires.loggable.1);
    }

pub put-requires-clause-fits : goal.put-requires-clause-fits
put-requires-clause-fits g c =
    let w = log_of c.args.pages.now in
    subst (λ (b : Batch). BothFit (anchor_of w).sizes.area (notes_of w) b) (sym c.in-Ok.ensures)
    (both_fit (anchor_of w).server (anchor_of w).servers (anchor_of w).sizes.area (notes_of w) c.requires.loggable.0 c.args.draft.now.pages c.args.notes.now c.requires.loggable.1)
