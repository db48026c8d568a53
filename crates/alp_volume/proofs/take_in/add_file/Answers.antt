use Rattle.alp_volume.proofs.ListLaws.{few_more, added_listed}
use Rattle.alp_volume.proofs.SizedLaws.{file_sized, places_sized}
use Rattle.alp_tables.proofs.Tables.{files_total}
use Rattle.alp_volume.proofs.take_in.add_file.Goals as goal

pub returns-clause-listed : goal.returns-clause-listed
returns-clause-listed c home at names here marks listed ok =
    added_listed home at names c.args.slot c.args.entry here c.args.catalog.now.places marks c.args.catalog.now.files c.args.catalog.now.slots listed c.requires.slot (c.mark.ensures.yes c.if-not-mark.false).0
    c.add.new.self c.add.result ok c.add.ensures.new c.add.ensures.added c.mark-2.new.self c.mark-2.result c.mark-2.ensures.yes (λ e. (c.mark-2.ensures.no e).0)

pub returns-clause-few : goal.returns-clause-few
returns-clause-few c = few_more files_total c.args.catalog.now.files c.add.new.self _ _ c.add.result c.add.ensures.added c.add.ensures.same

pub returns-then-not-mark-clause-sized : goal.returns-then-not-mark-clause-sized
returns-then-not-mark-clause-sized c home sized = places_sized home c.args.catalog.now sized c.mark.new.self c.mark.ensures.long c.mark.ensures.stay

pub returns-clause-sized : goal.returns-clause-sized
returns-clause-sized c home sized =
    file_sized home c.args.catalog.now c.args.entry.file (record { slot = c.args.slot; place = c.args.entry.place; blocks = 0 }) sized c.requires.slot (c.mark.ensures.yes c.if-not-mark.false).0 c.mark.new.self c.mark-2.new.self c.mark.ensures.long c.mark.ensures.stay c.mark-2.ensures.long
    c.add.new.self c.add.result c.add.ensures.added c.add.ensures.same
