use Rattle.std.specs.Prelude.{Some, false}
use Rattle.std.specs.FinMap as map
use Rattle.std.proofs.Common.{◌≡◌, ◌∙◌, ◌+◌, ◌/◌, ℕ, sym, ap}
use Rattle.std.proofs.lemmas.Result.{on_ok_weaker}
use Rattle.alp_volume.specs.declared.catalog.Catalog.{Catalog}
use Rattle.alp_volume.specs.Drafts.{Changed}
use Rattle.alp_volume.specs.Undone.{with_place, with_slot, without_file}
use Rattle.alp_volume.proofs.cut_file.free_file.Goals as goal

pub returns-clause-sized : goal.returns-clause-sized
returns-clause-sized c home sized = c.free_entry.ensures.sized home (c.free_place.ensures.sized home sized)

pub returns-in_err-free_entry-clause-sized : goal.returns-in_err-free_entry-clause-sized
returns-in_err-free_entry-clause-sized c home sized = c.free_entry.ensures.sized home (c.free_place.ensures.sized home sized)

pub returns-in_err-write-clause-sized : goal.returns-in_err-write-clause-sized
returns-in_err-write-clause-sized c home sized = c.free_entry.ensures.sized home (c.free_place.ensures.sized home sized)

pub returns-clause-freed : goal.returns-clause-freed
returns-clause-freed c x there slot least within =
    let freed : c.free_place.new.self ≡ with_place c.args.place false c.args.catalog.now = c.in_ok-free_place.ensures.freed least within in
    let gone = c.in_ok-free_entry.ensures.freed x (ap (λ (k : Catalog). map.get k.files c.args.file) freed ∙ there) in
    gone ∙ ap (λ (n : ℕ). with_slot n false (without_file c.args.file c.free_place.new.self)) slot ∙ ap (λ (k : Catalog). with_slot c.args.slot false (without_file c.args.file k)) freed
