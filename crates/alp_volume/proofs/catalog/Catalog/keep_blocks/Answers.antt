use Rattle.std.specs.Prelude.{Some}
use Rattle.std.specs.FinMap as map
use Rattle.std.proofs.Common.{◌≡◌, refl, sym, ◌∙◌}
use Rattle.alp_volume.specs.declared.undo.Undo.TheVariants as undo
use Rattle.alp_volume.proofs.SizedLaws.{entry_sized}
use Rattle.alp_volume.proofs.UndoLaws.{led_on, file_kept}
use Rattle.alp_volume.proofs.catalog.Catalog.keep_blocks.Goals as goal

pub returns-clause-back : goal.returns-clause-back
returns-clause-back c first led =
    let f = c.args.file in
    let x = c.in-Some.kept in
    let there : map.get c.args.self.now.files f ≡ Some x = sym c.get.ensures ∙ c.in-Some.is in
    led_on c.args.undos.now.items c.reserve.new.self.items c.push_reserved.new.self.items (undo.FileKept f x) (record c.args.self.now { files = c.put.new.self }) first c.in_ok-reserve.ensures.items c.push_reserved.ensures.items
    (file_kept c.args.undos.now.items c.args.self.now f x (record x { blocks = c.args.blocks }) c.put.new.self there c.put.ensures first led)

pub returns-clause-sized : goal.returns-clause-sized
returns-clause-sized c home sized =
    let f = c.args.file in
    let x = c.in-Some.kept in
    let there : map.get c.args.self.now.files f ≡ Some x = sym c.get.ensures ∙ c.in-Some.is in
    let low = sized.files f x there in
    entry_sized home c.args.self.now f (record x { blocks = c.args.blocks }) sized low.0 low.1 c.put.new.self c.args.self.now.slots c.put.ensures refl
