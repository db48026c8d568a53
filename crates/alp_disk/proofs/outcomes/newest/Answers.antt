use Rattle.std.proofs.Common.{List, [], ◌∷◌, ◌++◌, take, sym, ◌∙◌, ap, arith}
use Rattle.std.proofs.lemmas.List.{take_more}
use Rattle.alp_disk.specs.Disk.{page}
use Rattle.alp_disk.specs.Pending.{replay}
use Rattle.alp_disk.specs.declared.pending_write.PendingWrite.{PendingWrite}
use Rattle.alp_disk.proofs.Replays.{length-replay, page-replay_push}
use Rattle.alp_disk.proofs.outcomes.newest.Goals as goal

pub loop-write-preserved : goal.loop-write-preserved
loop-write-preserved c =
    let image = c.args.stable.now.items in
    let done : List PendingWrite = take c.loop-write.write-index c.deref-write-items.result.now in
    let more = take_more c.deref-write-items.result.now c.loop-write.write-index c.write-item.result c.loop-write-test.true ∙ ap (λ (w : PendingWrite). done ++ w ∷ []) (sym c.write-item.is) in
    c.overlay.ensures (replay image done) (omega (arith, length-replay image done, c.requires)) c.loop-write.invariant
    ∙ sym (page-replay_push image done c.write-item.result c.args.at) ∙ ap (λ (ws : List PendingWrite). page (replay image ws) c.args.at) (sym more)
