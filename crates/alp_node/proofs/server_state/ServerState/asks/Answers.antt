use Rattle.std.proofs.Common.{ap, sym, ◌∙◌, subst}
use Rattle.alp_files.specs.Cells.{Cells}
use Rattle.alp_files.specs.Holdings.{Holding}
use Rattle.alp_files.specs.Locks.{request_of}
use Rattle.alp_locks.specs.Tables.{holding}
use Rattle.alp_trans.specs.Parts.{own_of}
use Rattle.alp_calls.specs.Parts.{seen}
use Rattle.alp_calls.specs.declared.finding.OpenedFile.{OpenedFile}
use Rattle.std.specs.Prelude.{Option}
use Rattle.alp_node.specs.Asks.{IsAsked, needs_on}
use Rattle.alp_node.specs.declared.lives.Live.{Live}
use Rattle.alp_node.proofs.AskLemmas.{needs_found}
use Rattle.alp_node.proofs.KeptLemmas.{same_live}
use Rattle.alp_node.proofs.server_state.ServerState.asks.Goals as goal

pub found_open-requires-clause-fit : goal.found_open-requires-clause-fit
found_open-requires-clause-fit g c = (c.requires.part c.in-Some.live.now (sym c.in-Some.ensures)).fit

pub returns-clause-asked : goal.returns-clause-asked
returns-clause-asked g c l there =
    let G = g.V.Vault in
    let k = c.args.self.now in
    let t = c.args.trans in
    let call = c.args.call.now in
    let cells : Cells = (G.held k.vault).cells in
    let held : Holding = holding k.locks.held t in
    let live : Live = c.in-Some.live.now in
    subst (λ (x : Live). IsAsked (G.tells k.vault) cells held x.part call c.in_ok-asked.asked) (same_live live l (c.in-Some.ensures ∙ there)) (record {
      found = c.in_ok-found.found;
      stands = c.in_ok-found.ensures.stands;
      is = c.in_ok-asked.ensures ∙ ap (request_of held) (c.as_slice.ensures.value ∙ c.in_ok-needs.ensures);
      told = λ told. ap (λ (x : Option OpenedFile). needs_on x call) (c.in_ok-found.ensures.found told) ∙ needs_found (seen cells live.part) (own_of live.part) call;
    })
