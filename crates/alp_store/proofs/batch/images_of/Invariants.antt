use Rattle.std.specs.Prelude.{map as list_map}
use Rattle.std.proofs.Common.{◌≡◌, ◌++◌}
use Rattle.alp_store.specs.Batches.{image_of}
use Rattle.alp_store.proofs.batch.images_of.Given as goal

abbrev pub invariant-loop-at : goal.invariant-loop-at
invariant-loop-at l = l.images.items ++ list_map image_of l.at-iterator.rest.items ≡ list_map image_of l.fn.pages.items
