use Rattle.std.specs.Prelude.{cond, Bool, true, false, not, is_some, if◌then◌else◌}
use Rattle.std.proofs.Common.{◌≡◌, ℕ, ◌+◌, List, [], ◌∷◌, ◌++◌, take, refl, sym, ◌∙◌, ap, arith}
use Rattle.std.proofs.lemmas.List.{take_more}
use Rattle.alp_files.specs.Locks.{Need, joined}
use Rattle.alp_locks.specs.Tables.{holding}
use Rattle.alp_node.specs.Shapes.{fresh_on}
use Rattle.alp_node.proofs.LockCountLemmas.{fresh_push}
use Rattle.alp_node.proofs.server_state.ServerState.fresh.Goals as goal

-- what counts is what is not there
counted : (b : Bool) → ◌≡◌ {A = ℕ} (if not b then 1 else 0) (cond b 0 1)
counted true = refl
counted false = refl

one : (b : Bool) → ◌≡◌ {A = ℕ} (cond b 0 1 + cond b 1 0) 1
one true = refl
one false = refl

pub loop-i-preserved : goal.loop-i-preserved
loop-i-preserved g c =
    let ns : List Need = c.args.needs.now in
    let n : Need = c.index-needs-i.result in
    let held = holding c.args.self.now.locks.held c.args.trans in
    let there : Bool = is_some (joined held (take c.loop-i.i ns) n.0) in
    let more : take (c.loop-i.i + 1) ns ≡ take c.loop-i.i ns ++ n ∷ [] =
    take_more ns c.loop-i.i n c.loop-i-test.true ∙ ap (λ (x : Need). take c.loop-i.i ns ++ x ∷ []) (sym c.index-needs-i.is) in
    let adds : c.one_if-count.result ≡ cond there 0 1 =
    c.one_if-count.ensures ∙ ap (λ (b : Bool). if b then 1 else 0) c.is_fresh.ensures ∙ counted there in
    let count : c.loop-i.count + c.one_if-count.result ≡ fresh_on held (take (c.loop-i.i + 1) ns) =
    (λ k. c.loop-i.invariant.count k + adds k) ∙ sym (fresh_push held (take c.loop-i.i ns) n) ∙ ap (λ (l : List Need). fresh_on held l) (sym more) in
    record {
      count = count;
      few = omega (arith, c.loop-i.invariant.few, adds, one there);
    }
