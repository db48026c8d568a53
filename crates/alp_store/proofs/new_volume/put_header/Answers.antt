use Rattle.std.proofs.Common.{sym, subst, arith}
use Rattle.alp_batch.specs.Batch.{IsBatch}
use Rattle.alp_batch.specs.declared.batch.Batch.{Batch}
use Rattle.alp_pool.specs.Pools.{log_of}
use Rattle.alp_wal.specs.Live.{BothFit}
use Rattle.alp_wal.specs.State.{Suits}
use Rattle.alp_wal.specs.Wal.{anchor_of, notes_of}
use Rattle.alp_store.specs.Starts.{header_batch}
use Rattle.alp_store.proofs.NewLaws.{header_is_batch, header_suits, header_fits}
use Rattle.alp_store.proofs.PutLaws.{nothing_put}
use Rattle.alp_store.proofs.new_volume.put_header.Goals as goal

pub returns-in_default : goal.returns-in_default
returns-in_default g c = nothing_put g.D.Disk g.met.D.Disk.only_now (log_of c.args.pages.now) header_batch (λ told. c.knows.ensures.known told c.requires.alive)

pub put-requires-clause-batch : goal.put-requires-clause-batch
put-requires-clause-batch g c = subst IsBatch (sym c.in-Ok.ensures) header_is_batch

pub put-requires-clause-suits : goal.put-requires-clause-suits
put-requires-clause-suits g c =
    let w = log_of c.args.pages.now in
    subst (λ (b : Batch). Suits (anchor_of w).sizes.home (notes_of w) b) (sym c.in-Ok.ensures) (header_suits (anchor_of w).sizes.home (notes_of w) (omega (arith, c.knows.ensures.log.anchor.sizes.least_home)) c.requires.none)

pub put-requires-clause-fits : goal.put-requires-clause-fits
put-requires-clause-fits g c =
    let w = log_of c.args.pages.now in
    subst (λ (b : Batch). BothFit (anchor_of w).sizes.area (notes_of w) b) (sym c.in-Ok.ensures) (header_fits (anchor_of w).sizes.area (notes_of w) c.knows.ensures.log.anchor.sizes.least_area c.requires.none)
