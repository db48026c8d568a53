-- A depot as contracts see it.
use Rattle.std.specs.Prelude.{Bool, List}
use Rattle.alp_carrier_tests.specs.declared.record.Record.{Record}

pub record DepotState : Type 0 where
  pub is_open : Bool
  pub records : List Record

abbrev pub is_open_of : DepotState → Bool
is_open_of s = s.is_open
