use Rattle.std.specs.Prelude.{List}
use Rattle.std.proofs.Common.{◌≡◌, ◌++◌, ◌∷◌, [], refl, sym, ap, ◌∙◌, subst}
use Rattle.alp_journal.specs.Deeds.{Ends}
use Rattle.alp_coord.specs.Coordinators.{IsAlong, Comes}
use Rattle.alp_coord.specs.declared.coordinator.Coordinator.{Coordinator}
use Rattle.alp_node.specs.Releases.{let_go}
use Rattle.alp_node.specs.declared.dead.DeadPart.{DeadPart}
use Rattle.alp_node.specs.declared.server_state.ServerState.{ServerState}
use Rattle.alp_node.proofs.EndingLemmas.{let_go_aside}
use Rattle.alp_node.proofs.PairedLemmas.{few_live}
use Rattle.alp_node.proofs.ReleaseLemmas.{let_go_of}
use Rattle.alp_node.proofs.server_state.ServerState.lapse.Goals as goal

pub release-requires-clause-most : goal.release-requires-clause-most
release-requires-clause-most g c = few_live c.requires.ready.0 (g.V.Vault.serves c.args.self.now.vault) c.args.self.now c.requires.ready.2

pub release-requires-clause-part : goal.release-requires-clause-part
release-requires-clause-part g c t l there = (c.requires.ready.2.within t l there).part

pub returns-clause-kept : goal.returns-clause-kept
returns-clause-kept g c =
    let k = c.args.self.now in
    let t = c.args.trans in
    let dead : List DeadPart = k.dead ++ (record { client = c.args.client; trans = t; cause = c.args.cause }) ∷ [] in
    ap (λ (s : ServerState _). record s { coordinator = c.end.new.self })
    (c.release.ensures.after ∙ ap (λ (ds : List DeadPart). let_go (record k { dead = ds }) t) c.in_ok-add.ensures.ok ∙ let_go_aside k t dead)

-- the coordinator is as before until then
pub returns-clause-along : goal.returns-clause-along
returns-clause-along g c =
    let k = c.args.self.now in
    let same : c.release.new.self.coordinator ≡ k.coordinator = ap (λ (s : ServerState _). s.coordinator) c.release.ensures.after ∙ ap (λ (s : ServerState _). s.coordinator) (let_go_of (record k { dead = c.add.new.self }) c.args.trans) in
    subst (λ (z : Coordinator). IsAlong z c.end.new.self) same c.end.ensures.along

pub returns-clause-ends : goal.returns-clause-ends
returns-clause-ends g c n =
    let k = c.args.self.now in
    let same : c.release.new.self.coordinator ≡ k.coordinator = ap (λ (s : ServerState _). s.coordinator) c.release.ensures.after ∙ ap (λ (s : ServerState _). s.coordinator) (let_go_of (record k { dead = c.add.new.self }) c.args.trans) in
    subst (λ (z : Coordinator). Comes (Ends c.args.trans n c.args.cause) z c.end.new.self) same (c.end.ensures.ended n)
