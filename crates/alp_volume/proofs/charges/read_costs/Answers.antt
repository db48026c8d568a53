use Rattle.std.specs.Prelude.{Bool, IsTrue, Ok, Option, Some, None, sum_by, option_map, ◌++◌}
use Rattle.std.specs.Option.{option_to_list}
use Rattle.std.proofs.Common.{◌≡◌, ◌∙◌, ℕ, ◌+◌, List, [], ◌∷◌, ◌≤◌, length, length-append, refl, sym, ap, subst, arith, zero-add, add-zero, add_assoc}
use Rattle.std.proofs.lemmas.List.Sums.{sum_by-append}
use Rattle.alp_tables.specs.declared.cost.Cost.{Cost}
use Rattle.alp_pages.specs.Pages.{Pages, entry_in}
use Rattle.alp_pages.specs.Damage.{charge_in, cost_of, leader_at, entry_there}
use Rattle.alp_volume.specs.Reached.{AreWithin, cost_in, charge_from}
use Rattle.alp_tables.specs.Costs.{cost_to}
use Rattle.alp_volume.proofs.LoopLaws.{charge_step, charge_end, charge_all, costs_option, read_none, read_then, read_ok}
use Rattle.alp_volume.proofs.charges.read_costs.Goals as goal

few_option : (xs : List Cost) (o : Option Cost) → length (xs ++ option_to_list o) ≤ length xs + 1
few_option xs None = omega (arith, length-append xs [])
few_option xs (Some x) = omega (arith, length-append xs (x ∷ []))

pub loop-slot-init : goal.loop-slot-init
loop-slot-init g c = record {
  read = read_none g.met.R.PageReader.still c.args.reader.now;
  few = rw c.in-Ok.ensures.items (omega arith);
  room = omega (arith, c.in-Ok.ensures.exact);
  told = λ name tells within. charge_all (g.R.PageReader.pages c.args.reader.now) name ∙ sym (zero-add _) ∙ ap (λ xs. sum_by (cost_to name) xs + charge_from (g.R.PageReader.pages c.args.reader.now) 0 name) (sym c.in-Ok.ensures.items);
}

pub loop-slot-preserved : goal.loop-slot-preserved
loop-slot-preserved g c =
    let r0 = c.args.reader.now in
    let r1 = c.loop-slot.reader in
    let inv = c.loop-slot.invariant in
    let same : g.R.PageReader.pages r1 ≡ g.R.PageReader.pages r0 = g.met.R.PageReader.same_pages r0 r1 inv.read.on in
    let telling : g.R.PageReader.tells r1 ≡ g.R.PageReader.tells r0 = g.met.R.PageReader.same_tells r0 r1 inv.read.on in
    record {
      read = read_ok g.met.R.PageReader.then_on r0 c.read_cost.new.reader c.in_ok-cost.cost tt (read_then g.met.R.PageReader.then_on r0 r1 c.read_cost.new.reader tt (Ok c.in_ok-cost.cost) inv.read c.in_ok-cost.ensures.read);
      few = rw c.add_cost.ensures.added (omega (arith, inv.few, few_option c.loop-slot.costs.items c.in_ok-cost.cost));
      room = omega (arith, inv.room, c.add_cost.ensures.room);
      told = λ name tells within.
          let at = g.R.PageReader.pages r0 in
          let s = c.loop-slot.slot in
          let found : c.in_ok-cost.cost ≡ option_map cost_in (leader_at at (entry_there (entry_in at s))) =
          c.in_ok-cost.ensures.cost (subst (λ (b : Bool). IsTrue b) (sym telling) tells) (subst (AreWithin c.args.home) (sym same) within) ∙ ap (λ (x : Pages). option_map cost_in (leader_at x (entry_there (entry_in x s)))) same in
          let one : sum_by (cost_to name) (option_to_list c.in_ok-cost.cost) ≡ cost_of name (leader_at at (entry_there (entry_in at s))) = ap (λ o. sum_by (cost_to name) (option_to_list o)) found ∙ costs_option name (leader_at at (entry_there (entry_in at s))) in
          let all : sum_by (cost_to name) c.add_cost.new.costs.items ≡ sum_by (cost_to name) c.loop-slot.costs.items + sum_by (cost_to name) (option_to_list c.in_ok-cost.cost) = ap (sum_by (cost_to name)) c.add_cost.ensures.added ∙ sum_by-append (cost_to name) c.loop-slot.costs.items (option_to_list c.in_ok-cost.cost) in
          let old = inv.told name tells within in
          let step = charge_step at s name c.loop-slot-test.true in
          omega (arith, old, step, all, one);
    }

pub returns-clause-costs : goal.returns-clause-costs
returns-clause-costs g c tells within name =
    let at = g.R.PageReader.pages c.args.reader.now in
    let old = c.loop-slot.invariant.told name tells within in
    let none = charge_end at c.loop-slot.slot name (omega arith) in
    omega (arith, old, none)
