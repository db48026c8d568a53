use Rattle.std.proofs.Common.{◌≤◌, List, [], ◌++◌, length, refl, sym, ◌∙◌, ap, subst, arith}
use Rattle.std.proofs.lemmas.Result.{on_ok_weaker}
use Rattle.alp_journal.specs.declared.log.Item.{Item}
use Rattle.alp_session.specs.Crowd.{Crowd}
use Rattle.alp_session.specs.Crowds.{at_line}
use Rattle.alp_session.specs.declared.waiting.Next.TheVariants as next
use Rattle.alp_cluster.specs.Clients.{InStep}
use Rattle.alp_cluster.specs.Steps.{DidLine, DidOfLine}
use Rattle.alp_cluster.specs.declared.fault.RunFault.TheVariants as fault
use Rattle.alp_cluster.proofs.DidLemmas.{gone_wanting}
use Rattle.alp_cluster.proofs.GoneLemmas.{end_map, end_any, handed_on}
use Rattle.alp_cluster.proofs.LineLemmas.{at_step, next_wanting, plays_item, begins_item, lists_now, no_items, list_there, set_many}
use Rattle.alp_cluster.proofs.cluster.Cluster.play_own.Goals as goal

pub at_line-requires : goal.at_line-requires
at_line-requires g c = c.requires.client.1

pub returns-in_err-at_line-clause-gone : goal.returns-in_err-at_line-clause-gone
returns-in_err-at_line-clause-gone g c =
    rw (handed_on fault.OutOfMemory c.from_residual.result c.from_residual.ensures.0 c.from_residual.ensures.1) (gone_wanting g.V.Vault (Unit {0}) c.args.self.now.parties.stations)

pub returns-in_err-at_line-clause-ended : goal.returns-in_err-at_line-clause-ended
returns-in_err-at_line-clause-ended g c =
    let p = c.args.self.now.parties in
    let n = length p.stations.all.items in
    let k = c.args.client in
    let lists = c.args.self.now.lists.items in
    let known : Crowd = at_line p.clients k c.args.line.now.line in
    end_any fault.OutOfMemory c.from_residual.result _ (handed_on fault.OutOfMemory c.from_residual.result c.from_residual.ensures.0 c.from_residual.ensures.1) (
      known,
      begins_item g.V.Vault n p.clients known p.stations p.stations c.args.line.now k c.requires.named c.requires.client.1 c.requires.step.places [] (omega arith) fault.OutOfMemory lists lists c.args.self.now.text.items c.args.self.now.text.items refl (no_items c.args.line.now k lists) refl
          (next_wanting g.V.Vault n known p.stations k c.args.line.now next.Call c.requires.step.on),
    )

pub index_mut-requires : goal.index_mut-requires
index_mut-requires g c = omega (arith, c.requires.client.1, c.requires.places)

pub play_own-requires-clause-step : goal.play_own-requires-clause-step
play_own-requires-clause-step g c =
    let p = c.args.self.now.parties in
    subst (λ (x : Crowd). InStep g.V.Vault x p.stations) (sym c.in_ok-at_line.ensures.ok) (at_step g.V.Vault p.clients p.stations c.args.client c.args.line.now.line c.requires.client.1 c.requires.step)

pub returns-clause-ended : goal.returns-clause-ended
returns-clause-ended g c =
    let s = c.args.self.now in
    let p = s.parties in
    let n = length p.stations.all.items in
    let small : c.args.client ≤ 16 = c.requires.client.1 in
    end_map c.play_own.result _ _
    (λ f some.
    let (xs, known, few, items, told, did) = some in (
      known,
      begins_item g.V.Vault n p.clients known p.stations c.play_own.new.self.stations c.args.line.now c.args.client c.requires.named small c.requires.step.places xs few f s.lists.items _ s.text.items c.play_own.new.text.items
          (set_many s.lists.items c.args.client c.play_own.new.items)
          (lists_now g.V.Vault n p.clients known p.stations c.play_own.new.self.stations c.args.line.now c.args.client c.requires.named small c.requires.step.places xs few s.lists.items c.play_own.new.items c.requires.places
          (items ∙ ap (λ (ys : List Item). ys ++ xs) (sym (list_there s.lists.items c.args.client c.index_mut.result.now c.index_mut.result.now (omega (arith, small, c.requires.places)) c.index_mut.ensures.value))))
          told
          (subst (λ (x : Crowd). DidOfLine g.V.Vault f n x known p.stations c.play_own.new.self.stations c.args.client c.args.line.now next.Call xs) c.in_ok-at_line.ensures.ok did),
    ))
    c.play_own.ensures.ended

pub returns-clause-adds : goal.returns-clause-adds
returns-clause-adds g c =
    let s = c.args.self.now in
    let p = s.parties in
    let q = c.play_own.new.self in
    let n = length p.stations.all.items in
    let small : c.args.client ≤ 16 = c.requires.client.1 in
    on_ok_weaker c.play_own.result
    (λ own.
    let (xs, t, few, items, text, did) = own in
    plays_item g.V.Vault n p.clients q.clients p.stations q.stations c.args.line.now c.args.client c.requires.named small c.requires.step.places xs few t s.lists.items c.play_own.new.items s.text.items c.play_own.new.text.items c.requires.places
    (items ∙ ap (λ (ys : List Item). ys ++ xs) (sym (list_there s.lists.items c.args.client c.index_mut.result.now c.index_mut.result.now (omega (arith, small, c.requires.places)) c.index_mut.ensures.value)))
    text
    (subst (λ (x : Crowd). DidLine g.V.Vault n x q.clients p.stations q.stations c.args.client c.args.line.now next.Call xs t) c.in_ok-at_line.ensures.ok did))
    c.play_own.ensures.did
