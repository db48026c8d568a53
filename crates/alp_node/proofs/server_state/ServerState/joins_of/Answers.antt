use Rattle.std.specs.Prelude.{None, suc}
use Rattle.std.proofs.Common.{◌≡◌, ℕ, ◌+◌, List, [], ◌∷◌, ◌++◌, append_assoc, drop, drop-cons, slice_index_or, refl, ap, sym, arith, ◌∙◌}
use Rattle.alp_base.specs.declared.ids.JoinNo.{JoinNo}
use Rattle.alp_coord.specs.Members.{joins}
use Rattle.alp_coord.specs.declared.members.Member.{Member}
use Rattle.alp_node.proofs.server_state.ServerState.joins_of.Goals as goal

pub loop-member-preserved : goal.loop-member-preserved
loop-member-preserved g c =
    let ms : List Member = c.members-members.result.now in
    let i : ℕ = c.loop-member.member-index in
    let none : Member = record { join = record { server = 0; epoch = 0; counter = 0 }; said = None } in
    let m : Member = slice_index_or ms i none in
    let one : suc i ≡ i + 1 = omega arith in
    let next : drop i ms ≡ m ∷ drop (i + 1) ms = drop-cons ms i none c.loop-member-test.true ∙ ap (λ (n : ℕ). m ∷ drop n ms) one in
    ap (λ (xs : List JoinNo). xs ++ joins (drop (i + 1) ms)) c.in_ok-push.ensures.items ∙ append_assoc c.loop-member.joins.items (m.join ∷ []) (joins (drop (i + 1) ms))
    ∙ ap (λ (xs : List Member). c.loop-member.joins.items ++ joins xs) (sym next) ∙ c.loop-member.invariant
