use Rattle.std.specs.Prelude.{suc, map as list_map}
use Rattle.std.proofs.Common.{◌≡◌, ℕ, ◌+◌, ◌≤◌, List, [], ◌∷◌, ◌++◌, append_assoc, append-nil, drop, drop-cons, length, length-append, slice_index_or, refl, ap, sym, arith, ◌∙◌}
use Rattle.std.proofs.lemmas.List.{length-map}
use Rattle.alp_base.specs.declared.ids.TransId.{TransId}
use Rattle.alp_worker.specs.Walks.{ready_in}
use Rattle.alp_worker.specs.declared.room.PartSize.{PartSize}
use Rattle.alp_node.specs.Noted.{size_in}
use Rattle.alp_node.specs.Totals.{LiveMap}
use Rattle.alp_node.proofs.VoteLemmas.{ready_few}
use Rattle.alp_node.proofs.server_state.ServerState.ready_sum.Goals as goal

pub loop-trans-preserved : goal.loop-trans-preserved
loop-trans-preserved g c =
    let lives : LiveMap = c.args.self.now.lives in
    let ts : List TransId = c.as_slice-trans-items.result.now in
    let i : ℕ = c.loop-trans.trans-index in
    let none : TransId = record { server = 0; epoch = 0; counter = 0 } in
    let t : TransId = slice_index_or ts i none in
    let one : suc i ≡ i + 1 = omega arith in
    let next : drop i ts ≡ t ∷ drop (i + 1) ts = drop-cons ts i none c.loop-trans-test.true ∙ ap (λ (n : ℕ). t ∷ drop n ts) one in
    ap (λ (xs : List PartSize). xs ++ list_map (size_in lives) (drop (i + 1) ts)) (c.in_ok-push.ensures.items ∙ ap (λ (x : PartSize). c.loop-trans.sizes.items ++ x ∷ []) c.size_of.ensures)
    ∙ append_assoc c.loop-trans.sizes.items (size_in lives t ∷ []) (list_map (size_in lives) (drop (i + 1) ts))
    ∙ ap (λ (xs : List TransId). c.loop-trans.sizes.items ++ list_map (size_in lives) xs) (sym next) ∙ c.loop-trans.invariant

pub of-requires : goal.of-requires
of-requires g c =
    let k = c.args.self.now in
    let ts : List TransId = c.as_slice-trans-items.result.now in
    let sizes : List PartSize = c.loop-trans.sizes.items in
    let rest : List PartSize = list_map (size_in k.lives) (drop c.loop-trans.trans-index ts) in
    let all : length (sizes ++ rest) ≡ length (list_map (size_in k.lives) ts) = ap (λ (xs : List PartSize). length xs) c.loop-trans.invariant in
    let both : length (sizes ++ rest) ≡ length sizes + length rest = length-append sizes rest in
    let mapped : length (list_map (size_in k.lives) ts) ≡ length ts = length-map ts (size_in k.lives) in
    let now : length c.as_slice.result.now ≡ length sizes = ap (λ (xs : List PartSize). length xs) c.as_slice.ensures.value in
    let few : length ts ≡ length (ready_in k.joins.lives) = ap (λ (xs : List TransId). length xs) (c.as_slice-trans-items.ensures.value ∙ c.in_ok-ready.ensures.same) in
    let joined : length (ready_in k.joins.lives) ≤ length k.joins.lives = ready_few k.joins.lives in
    let most = c.requires.2.most in
    omega (arith, all, both, mapped, now, few, joined, most)
