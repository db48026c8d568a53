use Rattle.std.specs.Prelude.{vec_capacity, suc}
use Rattle.std.proofs.Common.{◌≡◌, ℕ, ◌+◌, ◌<◌, ◌++◌, List, [], ◌∷◌, append-nil, append_assoc, drop, drop-cons, drop_of_length-le, length, length-append, refl, sym, ap, ◌∙◌, arith}
use Rattle.alp_worker.specs.declared.live.LiveJoin.{LiveJoin}
use Rattle.alp_node.specs.Timeouts.{deads_of}
use Rattle.alp_node.specs.declared.dead.DeadPart.{DeadPart}
use Rattle.alp_node.proofs.dead.add_each.Goals as goal

pub loop-live-init : goal.loop-live-init
loop-live-init c = (refl, omega arith, refl)

pub push_reserved-requires : goal.push_reserved-requires
push_reserved-requires c = omega (arith, c.loop-live.invariant.1, c.loop-live.invariant.2, c.loop-live-test.true, c.requires.room)

pub loop-live-preserved : goal.loop-live-preserved
loop-live-preserved c =
    let ls : List LiveJoin = c.args.joins.now in
    let i : ℕ = c.loop-live.live-index in
    let l : LiveJoin = c.live-item.result in
    let one : suc i ≡ i + 1 = omega arith in
    let next : drop i ls ≡ l ∷ drop (i + 1) ls = drop-cons ls i l c.loop-live-test.true ∙ (λ d. sym c.live-item.is d ∷ drop (one d) ls) in
    let d : DeadPart = record { client = l.client; trans = c.args.trans; cause = c.args.cause } in
    let pushed : c.push_reserved.new.self.items ≡ c.loop-live.parts.items ++ d ∷ [] = c.push_reserved.ensures.items in (
      ap (λ (xs : List DeadPart). xs ++ deads_of c.args.trans c.args.cause (drop (i + 1) ls)) pushed
          ∙ append_assoc c.loop-live.parts.items (d ∷ []) (deads_of c.args.trans c.args.cause (drop (i + 1) ls))
          ∙ ap (λ (xs : List LiveJoin). c.loop-live.parts.items ++ deads_of c.args.trans c.args.cause xs) (sym next) ∙ c.loop-live.invariant.0,
      omega (arith, ap length pushed, length-append c.loop-live.parts.items (d ∷ []), c.loop-live.invariant.1),
      c.push_reserved.ensures.capacity ∙ c.loop-live.invariant.2,
    )

pub returns : goal.returns
returns c =
    record { said = sym (append-nil c.loop-live.parts.items) ∙ ap (λ (xs : List LiveJoin). c.loop-live.parts.items ++ deads_of c.args.trans c.args.cause xs) (sym (drop_of_length-le c.args.joins.now c.loop-live-test.false)) ∙ c.loop-live.invariant.0 }
