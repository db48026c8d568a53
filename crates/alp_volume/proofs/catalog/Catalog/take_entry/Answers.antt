use Rattle.std.specs.Prelude.{Option, not, is_some, true}
use Rattle.std.proofs.Common.{◌≡◌, ◌<◌, ℕ, length, sym, ◌∙◌, ap, subst}
use Rattle.std.proofs.lemmas.List.{length-set}
use Rattle.alp_volume.specs.declared.undo.Undo.TheVariants as undo
use Rattle.alp_tables.specs.declared.file_slot.FileSlot.{FileSlot}
use Rattle.alp_tables.proofs.FreeLaws.{free_within}
use Rattle.alp_volume.proofs.SizedLaws.{entry_sized}
use Rattle.alp_volume.proofs.UndoLaws.{led_on, file_came}
use Rattle.alp_volume.proofs.catalog.Catalog.take_entry.Goals as goal

pub returns-clause-back : goal.returns-clause-back
returns-clause-back c first led =
    let f = c.args.file in
    let x : FileSlot = record { slot = c.in-Some.slot; place = c.args.place; blocks = 0 } in
    let fresh : c.add.result ≡ true = c.add.ensures.new ∙ ap (λ (o : Option FileSlot). not (is_some o)) c.requires.new in
    led_on c.args.undos.now.items c.reserve.new.self.items c.push_reserved.new.self.items (undo.FileCame f c.in-Some.slot) (record c.args.self.now { files = c.add.new.self; slots = c.take.new.self }) first c.in_ok-reserve.ensures.items c.push_reserved.ensures.items
    (file_came c.args.undos.now.items c.args.self.now f x c.add.new.self c.take.new.self c.requires.new (c.add.ensures.added fresh) c.in-Some.ensures.free c.in-Some.ensures.lowest c.in-Some.ensures.taken first led)

pub returns-clause-sized : goal.returns-clause-sized
returns-clause-sized c home within sized =
    let f = c.args.file in
    let x : FileSlot = record { slot = c.in-Some.slot; place = c.args.place; blocks = 0 } in
    let fresh : c.add.result ≡ true = c.add.ensures.new ∙ ap (λ (o : Option FileSlot). not (is_some o)) c.requires.new in
    let few : c.in-Some.slot < 4096 = subst (λ (n : ℕ). c.in-Some.slot < n) sized.slots (free_within c.args.self.now.slots c.in-Some.slot c.in-Some.ensures.free) in
    entry_sized home c.args.self.now f x sized few within c.add.new.self c.take.new.self (c.add.ensures.added fresh) (ap length c.in-Some.ensures.taken ∙ length-set c.args.self.now.slots c.in-Some.slot true)
