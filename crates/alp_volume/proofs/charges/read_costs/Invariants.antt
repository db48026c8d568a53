use Rattle.std.specs.Prelude.{IsTrue, Ok, sum_by}
use Rattle.std.proofs.Common.{◌≡◌, ◌≤◌, ◌+◌, ℕ, List, length}
use Rattle.alp_pages.specs.Damage.{charge_in}
use Rattle.alp_volume.specs.Reached.{AreWithin, charge_from}
use Rattle.alp_tables.specs.Costs.{cost_to}
use Rattle.alp_pages.specs.Reading.{HasRead}
use Rattle.alp_volume.proofs.charges.read_costs.Given as goal

abbrev pub invariant-loop-slot : goal.invariant-loop-slot
invariant-loop-slot g l = record {
  read : HasRead {T = Unit {0}} g.R.PageReader.ReadOn g.R.PageReader.faults g.R.PageReader.allowance l.fn.reader l.reader (Ok tt);
  few : length l.costs.items ≤ l.slot;
  room : 4096 ≤ l.costs.cap;
  told : (name : List ℕ) → IsTrue (g.R.PageReader.tells l.fn.reader) → AreWithin l.home (g.R.PageReader.pages l.fn.reader) → charge_in (g.R.PageReader.pages l.fn.reader) name ≡ sum_by (cost_to name) l.costs.items + charge_from (g.R.PageReader.pages l.fn.reader) l.slot name;
}
