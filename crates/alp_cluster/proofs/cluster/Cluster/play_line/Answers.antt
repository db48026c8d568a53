use Rattle.std.proofs.Common.{length, sym, ◌∙◌}
use Rattle.std.proofs.lemmas.Result.{on_ok_weaker}
use Rattle.alp_script.proofs.OrderLemmas.{ours-client}
use Rattle.alp_cluster.proofs.DidLemmas.{all_where}
use Rattle.alp_cluster.proofs.GoneLemmas.{end_map}
use Rattle.alp_cluster.proofs.LineLemmas.{plays_other, begins_other}
use Rattle.alp_cluster.proofs.cluster.Cluster.play_line.Goals as goal

pub play_own-requires-clause-client : goal.play_own-requires-clause-client
play_own-requires-clause-client g c = ours-client (length c.args.self.now.parties.stations.all.items) c.args.line.now.line c.in-Some.client c.requires.ours (sym c.client.ensures ∙ c.in-Some.is)

pub play_own-requires-clause-named : goal.play_own-requires-clause-named
play_own-requires-clause-named g c = sym c.client.ensures ∙ c.in-Some.is

pub returns-in-Some-clause-gone : goal.returns-in-Some-clause-gone
returns-in-Some-clause-gone g c = all_where g.V.Vault (Unit {0}) _ c.args.self.now.parties.stations c.play_own.new.self.parties.stations c.play_own.result (λ e. tt {0}) c.play_own.ensures.gone

pub play_event-requires-clause-event : goal.play_event-requires-clause-event
play_event-requires-clause-event g c = sym c.client.ensures ∙ c.in-None.is

pub returns-in-None-clause-ended : goal.returns-in-None-clause-ended
returns-in-None-clause-ended g c =
    let p = c.args.self.now.parties in
    let q = c.play_event.new.self in
    end_map c.play_event.result _ _
    (λ f h. (q.clients, begins_other g.V.Vault (length p.stations.all.items) p.clients q.clients p.stations q.stations c.args.line.now (sym c.client.ensures ∙ c.in-None.is) c.requires.step f c.args.self.now.lists.items c.args.self.now.text.items h)) c.play_event.ensures.ended

pub returns-in-None-clause-adds : goal.returns-in-None-clause-adds
returns-in-None-clause-adds g c =
    let p = c.args.self.now.parties in
    let q = c.play_event.new.self in
    on_ok_weaker c.play_event.result
    (λ h. plays_other g.V.Vault (length p.stations.all.items) p.clients q.clients p.stations q.stations c.args.line.now (sym c.client.ensures ∙ c.in-None.is) c.requires.step c.args.self.now.lists.items c.args.self.now.text.items h) c.play_event.ensures.adds
