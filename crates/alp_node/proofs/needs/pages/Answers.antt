use Rattle.std.specs.Prelude.{Bool, true, false, nat_lt}
use Rattle.std.proofs.lemmas.Bool.{ltb-false, ltb-true}
use Rattle.std.proofs.Common.{◌≡◌, ℕ, ◌+◌, ◌-◌, ◌<◌, ◌≤◌, List, [], ◌∷◌, ◌++◌, append-nil, refl, ◌∙◌, ap, sym}
use Rattle.alp_base.specs.declared.key.Key.TheVariants.{PageOf}
use Rattle.alp_base.specs.declared.key.Resource.TheVariants.{Leaf}
use Rattle.alp_files.specs.Locks.{Need, page_needs}
use Rattle.alp_node.proofs.PageLemmas.{pages_step, pages_past}
use Rattle.alp_node.proofs.needs.pages.Goals as goal

not_less : (m n : ℕ) → (m < n → ⊥) → n ≤ m
not_less m n wrong = go (nat_lt m n) refl
  where
    go : (b : Bool) → nat_lt m n ≡ b → n ≤ m
    go true e = absurd (wrong (ltb-true m n e))
    go false e = ltb-false m n e

pub returns-in_default-checked_add : goal.returns-in_default-checked_add
returns-in_default-checked_add c =
    let high : 4294967296 ≤ c.args.run.now.first + c.loop-i.i = not_less (c.args.run.now.first + c.loop-i.i) 4294967296 (c.in_default-checked_add.ensures) in
    sym (append-nil c.loop-i.needs.items)
    ∙ ap (λ (ns : List Need). c.loop-i.needs.items ++ ns) (sym (pages_past c.args.file (c.args.run.now.first + c.loop-i.i) (c.args.run.now.count - c.loop-i.i) c.args.mode high)) ∙ c.loop-i.invariant

pub loop-i-preserved : goal.loop-i-preserved
loop-i-preserved c =
    let rest : List Need = page_needs c.args.file (c.args.run.now.first + (c.loop-i.i + 1)) (c.args.run.now.count - (c.loop-i.i + 1)) c.args.mode in
    ap (λ (ns : List Need). ns ++ rest) c.in_ok-push-2.ensures.items
    ∙ ap (λ (n : ℕ). (c.loop-i.needs.items ++ (Leaf (PageOf c.args.file n), c.args.mode) ∷ []) ++ rest) c.in-Some-checked_add.ensures.1
    ∙ pages_step c.loop-i.needs.items c.args.file c.args.run.now.first c.args.run.now.count c.loop-i.i c.args.mode c.loop-i-test.true c.in-Some-checked_add.ensures.0 ∙ c.loop-i.invariant
