use Rattle.std.proofs.Common.{◌≡◌, List, slice_index_or, ◌∙◌, ap}
use Rattle.alp_session.specs.Clients.{new_client}
use Rattle.alp_session.specs.Crowd.{Crowd}
use Rattle.alp_session.specs.Crowds.{with_client, left_crowd}
use Rattle.alp_session.specs.declared.client.Client.{Client}
use Rattle.alp_session.proofs.CrowdLemmas.{new_at}
use Rattle.alp_session.proofs.clients.Clients.lend.Goals as goal

pub returns-clause-left : goal.returns-clause-left
returns-clause-left c =
    let there : c.swap.new.y ≡ new_client =
    c.swap.ensures.y_after
    ∙ new_at c.args.number c.index_mut.result.now c.requires
    (c.index_mut.ensures.value ∙ ap (λ (ps : List Client). slice_index_or ps c.args.number c.index_mut.result.now) c.in_ok-places.ensures) in
    let v : Crowd = record { words = c.self.inside.words; places = c.self.inside.places.items; settings = c.self.inside.settings } in
    ap (λ (d : Client). with_client v v.words c.args.number d) there ∙ ap (λ (x : Crowd). left_crowd x c.args.number) c.self.view_is
