use Rattle.std.specs.FinMap as map
use Rattle.std.proofs.Common.{ap, sym, ◌∙◌}
use Rattle.alp_vault.specs.Volumes.{fit_keys}
use Rattle.alp_calls.proofs.FitLemmas.{fit_entries}
use Rattle.alp_node.proofs.server_state.ServerState.blocks_of.Goals as goal

pub blocks_of-requires-clause-fit : goal.blocks_of-requires-clause-fit
blocks_of-requires-clause-fit g c =
    ap fit_keys (c.as_slice.ensures.value ∙ c.in_ok-puts.ensures.entries ∙ ap map.entries c.puts.ensures)
    ∙ fit_entries c.in-Some.live.now.part.intents.puts (c.requires.part c.in-Some.live.now (sym c.in-Some.ensures)).fit
