use Rattle.std.proofs.Common.{refl}
use Rattle.std.proofs.lemmas.Option.{slice_get_read}
use Rattle.alp_bench_monitor.proofs.counter.count_turns.Goals as goal

pub map_vec-requires-after_bounds : goal.map_vec-requires-after_bounds
map_vec-requires-after_bounds g c κs within i pass below is =
    let fresh = c.in-Ok.ensures.passes i pass (slice_get_read c.in-Ok.passes.items _ i pass refl below is) in
    (fresh.own, fresh.outside)
