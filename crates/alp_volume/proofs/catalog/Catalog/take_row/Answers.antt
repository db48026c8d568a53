use Rattle.std.proofs.Common.{◌≡◌, ◌<◌, ℕ, subst}
use Rattle.alp_volume.specs.declared.undo.Undo.TheVariants as undo
use Rattle.alp_volume.proofs.DraftLaws.{new_name, owner_sized}
use Rattle.alp_tables.proofs.FreeLaws.{free_within}
use Rattle.alp_volume.proofs.UndoLaws.{led_on, owner_came}
use Rattle.alp_volume.proofs.catalog.Catalog.take_row.Goals as goal

pub returns-clause-back : goal.returns-clause-back
returns-clause-back c first led =
    let row = c.in-Some.row in
    let fresh = c.add.ensures.added (new_name c.args.self.now c.args.owner c.add.result c.add.ensures.new c.requires.new) in
    led_on c.args.undos.now.items c.reserve.new.self.items c.push_reserved.new.self.items (undo.OwnerCame c.args.owner row) (record c.args.self.now { owners = c.add.new.self; rows = c.take.new.self }) first c.in_ok-reserve.ensures.items c.push_reserved.ensures.items
    (owner_came c.args.undos.now.items c.args.self.now c.args.owner row c.add.new.self c.take.new.self c.requires.new fresh c.in-Some.ensures.free c.in-Some.ensures.lowest c.in-Some.ensures.taken first led)

pub returns-clause-sized : goal.returns-clause-sized
returns-clause-sized c home sized =
    let row = c.in-Some.row in
    let fresh = c.add.ensures.added (new_name c.args.self.now c.args.owner c.add.result c.add.ensures.new c.requires.new) in
    let low : row < 256 = subst (λ (n : ℕ). row < n) sized.rows (free_within c.args.self.now.rows row c.in-Some.ensures.free) in
    owner_sized home c.args.self.now c.args.owner row sized low c.add.new.self c.take.new.self fresh c.in-Some.ensures.taken
