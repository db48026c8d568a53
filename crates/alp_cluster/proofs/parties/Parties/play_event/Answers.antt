use Rattle.std.proofs.Common.{length, ◌∙◌, ap}
use Rattle.std.proofs.lemmas.Result.{on_ok_weaker}
use Rattle.alp_session.specs.Crowd.{Crowd}
use Rattle.alp_session.specs.Crowds.{declares}
use Rattle.alp_cluster.proofs.GoneLemmas.{end_map}
use Rattle.alp_cluster.proofs.OtherLemmas.{adds_events, adds_some_events}
use Rattle.alp_cluster.proofs.parties.Parties.play_event.Goals as goal

pub returns-clause-ended : goal.returns-clause-ended
returns-clause-ended g c =
    let s = c.args.self.now in
    end_map c.play_other-played.result _ _
    (λ f d. adds_some_events g.V.Vault (length s.stations.all.items) s.clients c.declares.new.self s.stations c.play_other-played.new.self.stations c.args.line.now f
    (c.declares.ensures ∙ ap (λ (x : Crowd). declares x c.args.line.now) c.play_other-played.ensures.clients) d) c.play_other-played.ensures.ended

pub returns-clause-adds : goal.returns-clause-adds
returns-clause-adds g c =
    let s = c.args.self.now in
    on_ok_weaker c.play_other-played.result
    (λ d. adds_events g.V.Vault (length s.stations.all.items) s.clients c.declares.new.self s.stations c.play_other-played.new.self.stations c.args.line.now
    (c.declares.ensures ∙ ap (λ (x : Crowd). declares x c.args.line.now) c.play_other-played.ensures.clients) d) c.play_other-played.ensures.did
