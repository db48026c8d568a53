use Rattle.std.proofs.Common.{◌≡◌, [], ◌∷◌, ◌++◌, sym, ◌∙◌, subst}
use Rattle.alp_node.specs.Downs.{HasBegunEpoch, entry_again}
use Rattle.alp_node.specs.Found.{HasBegun}
use Rattle.alp_node.proofs.RaiseLemmas.{no_epoch, no_room}
use Rattle.alp_node.proofs.down.enter_epoch.Goals as goal

pub returns-then-last-eq4294967295-clause-epoch : goal.returns-then-last-eq4294967295-clause-epoch
returns-then-last-eq4294967295-clause-epoch g c = no_epoch g.V.Vault c.args.of.0 c.args.of.1 c.args.last c.args.vault c.requires.rests c.requires.free c.if-last-eq4294967295.true

pub returns-in_default-clause-epoch : goal.returns-in_default-clause-epoch
returns-in_default-clause-epoch g c = no_room g.V.Vault c.args.of.0 c.args.of.1 c.args.last c.args.vault c.requires.rests c.requires.free

pub returns-in-Ok-begin_epoch-clause-epoch : goal.returns-in-Ok-begin_epoch-clause-epoch
returns-in-Ok-begin_epoch-clause-epoch g c =
    let G = g.V.Vault in
    let x = c.in-Ok-begin_epoch in
    let k = c.begun-state.result.0 in
    let same : x.vault ≡ k.vault = sym c.begun-state.ensures.kept.vault in
    let before = c.in-Ok.ensures.place.0 in
    record {
      clock = x.clock;
      all = x.found;
      begun = subst (λ (v : g.row.V.Denot). HasBegunEpoch G c.args.of.0 c.args.of.1 c.args.last c.args.vault v x.clock x.found) same x.ensures;
      state = subst (λ (v : g.row.V.Denot). HasBegun (G.volume v) c.args.of.0 c.args.of.1 x.clock x.found v k) same c.begun-state.ensures.kept;
      journal = c.fill.ensures c.args.journal.now before c.in-Ok.ensures.place.1 ∙ (λ i. c.args.journal.now ++ entry_again x.clock (c.begun-state.ensures.listed.0 i) (c.begun-state.ensures.listed.1 i) ∷ []);
    }

pub returns-in-Err-clause-journal : goal.returns-in-Err-clause-journal
returns-in-Err-clause-journal g c = c.take_back.ensures.taken c.args.journal.now c.in-Ok.ensures.place.0 c.in-Ok.ensures.place.1
