use Rattle.std.specs.Prelude.{Bool, true, false, not, ◌&&◌, ◌==◌, is_none, is_some, slice_get, IsTrue, Option}
use Rattle.std.specs.FinMap as map
use Rattle.std.proofs.Common.{◌≡◌, refl, sym, ◌∙◌, ap, subst, eq-eqb}
use Rattle.std.proofs.lemmas.Bool.{ne_eqb}
use Rattle.alp_base.specs.declared.ids.TransId.{TransId}
use Rattle.alp_node.specs.NodeStates.{NodeState}
use Rattle.alp_node.specs.Nodes.{start_in, state_of}
use Rattle.alp_node.specs.Opens.{IsRestOf}
use Rattle.alp_node.proofs.RestLemmas.{rest_said}
use Rattle.alp_node.proofs.node.Node.is_settled.Goals as goal

turned : (s b : Bool) → s ≡ not b → b ≡ not s
turned s true e = sym (ap not e)
turned s false e = sym (ap not e)

counts_not : (b y : Bool) → b ≡ false → (b && y) ≡ b
counts_not true y e = let wrong : true ≡ false = e in cc
counts_not false y e = refl

abbrev first_of : {V : Type 0} → NodeState V → Option TransId
first_of n = slice_get (map.keys n.kept.lives) 0

pub returns-then-counted-eq0 : goal.returns-then-counted-eq0
returns-then-counted-eq0 g c =
    let G = g.V.Vault in
    let n : NodeState g.row.V.Denot = record { opening = c.self.inside.opening; kept = c.self.inside.kept; journal = c.self.inside.journal } in
    let none : c.is_none.result ≡ is_none c.least.result = turned (is_some c.least.result) c.is_none.result c.is_none.ensures in
    subst (λ (m : NodeState g.row.V.Denot). IsTrue (G.tells m.kept.vault) → IsRestOf c.is_none.result (state_of (start_in G m) m.journal)) c.self.view_is
    (λ told. subst (λ (b : Bool). IsRestOf b (state_of (start_in G n) n.journal)) (ap (λ (b : Bool). b && is_none c.least.result) (eq-eqb c.counted-counted.result 0 c.if-counted-eq0.true) ∙ sym none)
    (rest_said G n c.counted-counted.result c.least.result c.self.invariant c.counted-counted.ensures c.least.ensures.least told))

pub returns-else-counted-eq0 : goal.returns-else-counted-eq0
returns-else-counted-eq0 g c =
    let G = g.V.Vault in
    let n : NodeState g.row.V.Denot = record { opening = c.self.inside.opening; kept = c.self.inside.kept; journal = c.self.inside.journal } in
    subst (λ (m : NodeState g.row.V.Denot). IsTrue (G.tells m.kept.vault) → IsRestOf (c.counted-counted.result == 0) (state_of (start_in G m) m.journal)) c.self.view_is
    (λ told. subst (λ (b : Bool). IsRestOf b (state_of (start_in G n) n.journal)) (counts_not (c.counted-counted.result == 0) (is_none (first_of n)) (ne_eqb c.counted-counted.result 0 c.if-counted-eq0.false))
    (rest_said G n c.counted-counted.result (first_of n) c.self.invariant c.counted-counted.ensures refl told))
