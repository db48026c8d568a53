use Rattle.std.proofs.Common.{refl}
use Rattle.alp_vault.specs.MemVault.{held_by}
use Rattle.alp_vault.specs.Volumes.{IsVolumeOf}
use Rattle.alp_store_tests.proofs.RoomLemmas.{room_for_few}
use Rattle.alp_store_tests.proofs.tests.memory.commit.Goals as goal

pub commit-requires-clause-room : goal.commit-requires-clause-room
commit-requires-clause-room c =
    let v = c.args.vault.now in
    let volume : IsVolumeOf v.sizes (held_by v).cells = c.knows.ensures.fitting (held_by v) refl (c.knows.ensures.as_held refl c.requires.serves) in
    room_for_few v.sizes (held_by v).cells c.args.change.now c.knows.ensures.limits.home_least volume (c.can_take.ensures c.if-not-can_take.false).puts
    (c.are_few.ensures c.if-not-are_few.false) (c.requires.change.sound volume.sound)
