use Rattle.std.specs.Prelude.{Some, is_some, slice_index_or, true, false}
use Rattle.std.specs.FinMap as map
use Rattle.std.proofs.Common.{◌≡◌, ◌<◌, length, sym, ◌∙◌, ap, arith}
use Rattle.std.proofs.lemmas.List.{length-set}
use Rattle.alp_volume.specs.declared.undo.Undo.TheVariants as undo
use Rattle.alp_volume.proofs.SizedLaws.{removed_sized}
use Rattle.alp_volume.proofs.UndoLaws.{led_on, file_went}
use Rattle.alp_volume.proofs.catalog.Catalog.free_entry.Goals as goal

pub returns-clause-back : goal.returns-clause-back
returns-clause-back c first led =
    let f = c.args.file in
    let x = c.in-Some.kept in
    let there : map.get c.args.self.now.files f ≡ Some x = sym c.get.ensures ∙ c.in-Some.is in
    let within : x.slot < length c.args.self.now.slots = omega (arith, c.len.ensures, c.if-kept-len.false) in
    let taken : slice_index_or c.args.self.now.slots x.slot true ≡ true = sym c.is_taken.ensures ∙ c.if-not-is_taken.false in
    led_on c.args.undos.now.items c.reserve.new.self.items c.push_reserved.new.self.items (undo.FileWent f x) (record c.args.self.now { files = c.remove.new.self; slots = c.release.new.self }) first c.in_ok-reserve.ensures.items c.push_reserved.ensures.items
    (file_went c.args.undos.now.items c.args.self.now f x c.remove.new.self c.release.new.self there c.remove.ensures.gone (c.remove.ensures.few (ap is_some there)) within taken c.release.ensures first led)

pub returns-clause-sized : goal.returns-clause-sized
returns-clause-sized c home sized =
    removed_sized home c.args.self.now c.args.file sized c.remove.new.self c.release.new.self c.remove.ensures.gone (ap length c.release.ensures ∙ length-set c.args.self.now.slots c.in-Some.kept.slot false)
