use Rattle.std.specs.Prelude.{Some, None}
use Rattle.std.proofs.Common.{rules, sym, ◌∙◌, ap, ◌≡◌}
use Rattle.alp_pages.specs.Pages.{entry_in}
use Rattle.alp_volume.proofs.ListLaws.{none_listed}
use Rattle.alp_volume.proofs.take_in.add_entry.Goals as goal

pub returns-in-Some-None-clause-listed : goal.returns-in-Some-None-clause-listed
returns-in-Some-None-clause-listed c home at names found marks listed _ =
    none_listed home at names c.args.slot (let e : c.args.found.now ≡ Some None = search rules in sym found ∙ e) c.args.catalog.now.files c.args.catalog.now.slots listed

pub returns-in-Some-Some-clause-marked : goal.returns-in-Some-Some-clause-marked
returns-in-Some-Some-clause-marked c home at names found marks ok = c.add_file.ensures.marked home at names (let e : c.args.found.now ≡ Some (Some c.in-Some-Some.entry) = search rules in sym found ∙ e) marks ok
