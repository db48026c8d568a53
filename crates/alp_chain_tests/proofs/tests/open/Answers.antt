use Rattle.std.proofs.Common.{◌≡◌, ℕ, None, sym, ap, subst, arith}
use Rattle.std.specs.FinMap as map
use Rattle.alp_modes.specs.declared.Mode.TheVariants.{IntendWrite, Read}
use Rattle.alp_chain.specs.declared.node.NodeView.{NodeView}
use Rattle.alp_chain.specs.Chains.{Chains}
use Rattle.alp_chain_tests.proofs.FreeLemmas.{IsUnused, unused-none, unused-kept, unused-not, unused-spans, unused-free}
use Rattle.alp_chain_tests.proofs.tests.open.Goals as goal

-- no node stands on a resource after one was added to another
unused_after : (r k : ℕ) (w : NodeView) (c d : Chains) → d.nodes ≡ map.insert c.nodes k w → (r ≡ w.resource → ⊥) → IsUnused r c.nodes → IsUnused r d.nodes
unused_after r k w c d is other unused = subst (IsUnused r) (sym is) (unused-kept r c.nodes k w other unused)

pub add-requires-clause-whole : goal.add-requires-clause-whole
add-requires-clause-whole c n = unused-not 1 c.new-chains.result.nodes n (unused-none 1 c.new-chains.result.nodes (ap (λ (h : Chains). h.nodes) c.new-chains.ensures.empty))

pub add-requires-clause-first : goal.add-requires-clause-first
add-requires-clause-first c n = unused-not 1 c.new-chains.result.nodes n (unused-none 1 c.new-chains.result.nodes (ap (λ (h : Chains). h.nodes) c.new-chains.ensures.empty))

pub add-requires-2-clause-whole : goal.add-requires-2-clause-whole
add-requires-2-clause-whole c n =
    unused-not 2 c.add.new.self.nodes n
    (unused_after 2 c.in_ok-add.field-0 (record { resource = 1; trans = 7; mode = IntendWrite; span = None }) c.new-chains.result c.add.new.self (ap (λ (h : Chains). h.nodes) c.in_ok-add.ensures.ok) (λ e. absurd (omega (arith, e)))
    (unused-none 2 c.new-chains.result.nodes (ap (λ (h : Chains). h.nodes) c.new-chains.ensures.empty)))

pub add-requires-2-clause-first : goal.add-requires-2-clause-first
add-requires-2-clause-first c n =
    unused-not 2 c.add.new.self.nodes n
    (unused_after 2 c.in_ok-add.field-0 (record { resource = 1; trans = 7; mode = IntendWrite; span = None }) c.new-chains.result c.add.new.self (ap (λ (h : Chains). h.nodes) c.in_ok-add.ensures.ok) (λ e. absurd (omega (arith, e)))
    (unused-none 2 c.new-chains.result.nodes (ap (λ (h : Chains). h.nodes) c.new-chains.ensures.empty)))

pub returns-clause-spans : goal.returns-clause-spans
returns-clause-spans c =
    unused-spans 3 c.add-2.new.self.nodes
    (unused_after 3 c.in_ok-add-2.field-0 (record { resource = 2; trans = 7; mode = Read; span = None }) c.add.new.self c.add-2.new.self (ap (λ (h : Chains). h.nodes) c.in_ok-add-2.ensures.ok) (λ e. absurd (omega (arith, e)))
    (unused_after 3 c.in_ok-add.field-0 (record { resource = 1; trans = 7; mode = IntendWrite; span = None }) c.new-chains.result c.add.new.self (ap (λ (h : Chains). h.nodes) c.in_ok-add.ensures.ok) (λ e. absurd (omega (arith, e)))
    (unused-none 3 c.new-chains.result.nodes (ap (λ (h : Chains). h.nodes) c.new-chains.ensures.empty))))

pub returns-clause-free : goal.returns-clause-free
returns-clause-free c t =
    unused-free 3 t 999 c.add-2.new.self.nodes
    (unused_after 3 c.in_ok-add-2.field-0 (record { resource = 2; trans = 7; mode = Read; span = None }) c.add.new.self c.add-2.new.self (ap (λ (h : Chains). h.nodes) c.in_ok-add-2.ensures.ok) (λ e. absurd (omega (arith, e)))
    (unused_after 3 c.in_ok-add.field-0 (record { resource = 1; trans = 7; mode = IntendWrite; span = None }) c.new-chains.result c.add.new.self (ap (λ (h : Chains). h.nodes) c.in_ok-add.ensures.ok) (λ e. absurd (omega (arith, e)))
    (unused-none 3 c.new-chains.result.nodes (ap (λ (h : Chains). h.nodes) c.new-chains.ensures.empty))))
