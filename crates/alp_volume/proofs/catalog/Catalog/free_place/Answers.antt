use Rattle.std.specs.Prelude.{Bool, slice_index_or, slice_set, true, false}
use Rattle.std.proofs.Common.{◌≡◌, ◌<◌, List, length, sym, ◌∙◌, ap, arith}
use Rattle.std.proofs.lemmas.List.{set-get_or}
use Rattle.alp_volume.specs.declared.undo.Undo.TheVariants as undo
use Rattle.alp_volume.proofs.UndoLaws.{led_on, place_freed}
use Rattle.alp_volume.proofs.catalog.Catalog.free_place.Goals as goal

pub returns-clause-back : goal.returns-clause-back
returns-clause-back c first led =
    let p = c.args.place in
    let within : p < length c.args.self.now.places = omega (arith, c.len.ensures, c.if-place-len.false) in
    let taken : slice_index_or c.args.self.now.places p true ≡ true = sym c.is_taken.ensures ∙ c.if-not-is_taken.false in
    led_on c.args.undos.now.items c.reserve.new.self.items c.push_reserved.new.self.items (undo.PlaceFreed p) (record c.args.self.now { places = c.release.new.self }) first c.in_ok-reserve.ensures.items c.push_reserved.ensures.items
    (place_freed c.args.undos.now.items c.args.self.now p c.release.new.self within taken c.release.ensures first led)

pub returns-then-not-is_taken-clause-freed : goal.returns-then-not-is_taken-clause-freed
returns-then-not-is_taken-clause-freed c least within =
    let free : slice_index_or c.args.self.now.places c.args.place true ≡ false = sym c.is_taken.ensures ∙ c.if-not-is_taken.true in
    ap (λ (xs : List Bool). record c.args.self.now { places = xs }) (sym (ap (slice_set c.args.self.now.places c.args.place) (sym free) ∙ set-get_or c.args.self.now.places c.args.place true))
