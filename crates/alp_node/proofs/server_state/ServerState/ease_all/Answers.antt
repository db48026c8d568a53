use Rattle.std.specs.Prelude.{suc}
use Rattle.std.specs.FinMap as map
use Rattle.std.proofs.Common.{◌≡◌, ℕ, ◌+◌, List, ◌∷◌, drop, drop-cons, slice_index_or, refl, ap, sym, arith, ◌∙◌}
use Rattle.alp_base.specs.declared.ids.TransId.{TransId}
use Rattle.alp_base.specs.declared.key.Key.{Key}
use Rattle.alp_calls.specs.Parts.{IsPart}
use Rattle.alp_node.specs.Eases.{eased_if, eased}
use Rattle.alp_node.specs.Totals.{LiveMap}
use Rattle.alp_node.specs.declared.lives.Live.{Live}
use Rattle.alp_node.specs.declared.server_state.ServerState.{ServerState}
use Rattle.alp_node.proofs.EaseLemmas.{if_length, each_if, eased_part}
use Rattle.alp_node.proofs.TotalLemmas.{few_totals}
use Rattle.alp_node.proofs.server_state.ServerState.ease_all.Goals as goal

pub ease-requires-clause-few : goal.ease-requires-clause-few
ease-requires-clause-few g c = few_totals c.loop-trans.self.lives c.loop-trans.invariant.most c.loop-trans.invariant.parts

pub ease-requires-clause-part : goal.ease-requires-clause-part
ease-requires-clause-part g c l there = c.loop-trans.invariant.parts _ l there

pub loop-trans-preserved : goal.loop-trans-preserved
loop-trans-preserved g c =
    let k = c.loop-trans.self in
    let ts : List TransId = c.args.others.now in
    let bs : List Key = c.args.blocks.now in
    let i : ℕ = c.loop-trans.trans-index in
    let t : TransId = slice_index_or ts i (record { server = 0; epoch = 0; counter = 0 }) in
    let one : suc i ≡ i + 1 = omega arith in
    let next : drop i ts ≡ t ∷ drop (i + 1) ts = drop-cons ts i (record { server = 0; epoch = 0; counter = 0 }) c.loop-trans-test.true ∙ ap (λ (n : ℕ). t ∷ drop n ts) one in
    let lives : c.ease.new.self.lives ≡ eased_if bs k.lives t (map.get k.lives t) = ap (λ (y : ServerState _). y.lives) c.ease.ensures in
    record {
      rest = ap (λ (y : ServerState _). record y { lives = eased bs y.lives (drop (i + 1) ts) }) c.ease.ensures ∙ ap (λ (xs : List TransId). record k { lives = eased bs k.lives xs }) (sym next) ∙ c.loop-trans.invariant.rest;
      most = (let same : map.len c.ease.new.self.lives ≡ map.len k.lives = ap (λ (m : LiveMap). map.len m) lives ∙ if_length bs k.lives t (map.get k.lives t) refl in omega (arith, same, c.loop-trans.invariant.most));
      parts = λ u x there. each_if bs (λ (l : Live). IsPart l.part) (eased_part bs) k.lives t u (c.loop-trans.invariant.parts u) x (sym (ap (λ (m : LiveMap). map.get m u) lives) ∙ there);
    }
