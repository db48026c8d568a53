use Rattle.std.specs.Prelude.{not}
use Rattle.std.specs.List.{filter}
use Rattle.std.proofs.Common.{◌≡◌, ◌++◌}
use Rattle.alp_volume.specs.Parts.{was_free}
use Rattle.alp_volume.proofs.images.part.Given as goal

abbrev pub invariant-loop-image : goal.invariant-loop-image
invariant-loop-image l = record {
  new : l.new.items ++ filter (λ e. was_free l.before l.places e.0) l.image-iterator.rest.items ≡ filter (λ e. was_free l.before l.places e.0) l.fn.images.items;
  others : l.others.items ++ filter (λ e. not (was_free l.before l.places e.0)) l.image-iterator.rest.items ≡ filter (λ e. not (was_free l.before l.places e.0)) l.fn.images.items;
}
