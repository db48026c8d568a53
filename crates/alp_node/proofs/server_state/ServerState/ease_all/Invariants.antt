use Rattle.std.specs.FinMap as map
use Rattle.std.proofs.Common.{◌≡◌, ◌≤◌, drop}
use Rattle.std.specs.Prelude.{Some}
use Rattle.alp_base.specs.declared.ids.TransId.{TransId}
use Rattle.alp_calls.specs.Parts.{IsPart}
use Rattle.alp_node.specs.Eases.{eased}
use Rattle.alp_node.specs.declared.lives.Live.{Live}
use Rattle.alp_node.proofs.server_state.ServerState.ease_all.Given as goal

abbrev pub invariant-loop-trans : goal.invariant-loop-trans
invariant-loop-trans g l = record {
  rest : (record l.self { lives = eased l.blocks l.self.lives (drop l.trans-index l.others) }) ≡ (record l.initial.self { lives = eased l.blocks l.initial.self.lives l.others });
  most : map.len l.self.lives ≤ 64;
  parts : (t : TransId) (x : Live) → map.get l.self.lives t ≡ Some x → IsPart x.part;
}
