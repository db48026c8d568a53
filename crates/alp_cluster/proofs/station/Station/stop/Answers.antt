use Rattle.std.specs.Prelude.{true, false, cond, Bool, Ok, Some}
use Rattle.std.proofs.Common.{◌≡◌, refl, sym, ◌∙◌, ap, subst}
use Rattle.alp_node.specs.NodeStates.{NodeState}
use Rattle.alp_cluster.specs.Servers.{IsOn, HasStopSet}
use Rattle.alp_cluster.specs.Station.{standing}
use Rattle.alp_cluster.proofs.RestartLemmas.{stop_gone}
use Rattle.alp_cluster.proofs.StationLemmas.{one_of, leaves_server, stop_went}
use Rattle.alp_cluster.proofs.station.Station.stop.Goals as goal

-- ---- it is down

pub returns-then-is_down-clause-gone : goal.returns-then-is_down-clause-gone
returns-then-is_down-clause-gone g c =
    let (n, keeps) = c.requires.stands in
    let is : c.args.self.now.server ≡ standing c.in-Some-Up.node = c.in-Some-Up.is ∙ ap Some c.in-Some-Up.field-0-is in
    let on : IsOn g.V.Vault c.in-Some-Up.node = subst (λ (z : NodeState _). IsOn g.V.Vault z) (one_of c.args.self.now.server n c.in-Some-Up.node keeps.stands is) keeps.on in
    let set : HasStopSet g.V.Vault c.args.calls c.in-Some-Up.node c.in-Some-Up.node = record { kept = on.kept; same = record { telling = refl; sizes = refl; number = refl; of_all = refl }; faults = refl; rest = refl; down = λ e. refl; allowance = λ up. (let wrong : true ≡ false = sym (sym c.is_down.ensures ∙ c.if-is_down.true) ∙ up in cc) } in
    leaves_server g.V.Vault {T = Unit {0}} ⊥ c.args.self.now (standing c.in-Some-Up.node) c.in-Some-Up.node c.in-Some-Up.node.kept.vault (Ok tt) is refl (stop_gone g.V.Vault c.args.calls c.in-Some-Up.node c.in-Some-Up.node on set ⊥ tt (λ p. p))

pub returns-then-is_down-clause-went : goal.returns-then-is_down-clause-went
returns-then-is_down-clause-went g c = λ n keeps tells.
    let is : c.args.self.now.server ≡ standing c.in-Some-Up.node = c.in-Some-Up.is ∙ ap Some c.in-Some-Up.field-0-is in
    let same : c.in-Some-Up.node ≡ n = one_of c.args.self.now.server c.in-Some-Up.node n is keeps.stands in
    let down : n.kept.is_down ≡ true = ap (λ (z : NodeState _). z.kept.is_down) (sym same) ∙ sym c.is_down.ensures ∙ c.if-is_down.true in
    let set : HasStopSet g.V.Vault c.args.calls n n = record { kept = keeps.on.kept; same = record { telling = refl; sizes = refl; number = refl; of_all = refl }; faults = refl; rest = refl; down = λ e. refl; allowance = λ up. (let wrong : true ≡ false = sym down ∙ up in cc) } in
    stop_went g.V.Vault c.args.calls tells c.args.self.now (record { server = standing c.in-Some-Up.node; ranks = c.args.self.now.ranks; is_fused = c.args.self.now.is_fused }) n n keeps set (ap standing same)
    (sym (ap (λ (b : Bool). cond b c.args.self.now.is_fused true) down)) refl

-- ---- it is up

pub returns-clause-gone : goal.returns-clause-gone
returns-clause-gone g c =
    let (n, keeps) = c.requires.stands in
    let is : c.args.self.now.server ≡ standing c.in-Some-Up.node = c.in-Some-Up.is ∙ ap Some c.in-Some-Up.field-0-is in
    let same : c.in-Some-Up.node ≡ n = one_of c.args.self.now.server c.in-Some-Up.node n is keeps.stands in
    let up : c.in-Some-Up.node.kept.is_down ≡ false = sym c.is_down.ensures ∙ c.if-is_down.false in
    let set : HasStopSet g.V.Vault c.args.calls c.in-Some-Up.node c.stop_after.new.self = record {
      kept = c.knows.ensures;
      same = c.stop_after.ensures.same;
      faults = c.stop_after.ensures.faults;
      rest = c.stop_after.ensures.kept;
      down = λ is. (let wrong : true ≡ false = sym is ∙ up in cc);
      allowance = λ e. c.stop_after.ensures.allowance;
    } in
    leaves_server g.V.Vault {T = Unit {0}} ⊥ c.args.self.now (standing c.stop_after.new.self) c.in-Some-Up.node c.stop_after.new.self.kept.vault (Ok tt) is refl
    (stop_gone g.V.Vault c.args.calls c.in-Some-Up.node c.stop_after.new.self (subst (λ (z : NodeState _). IsOn g.V.Vault z) (sym same) keeps.on) set ⊥ tt (λ p. p))

pub returns-clause-went : goal.returns-clause-went
returns-clause-went g c = λ n keeps tells.
    let is : c.args.self.now.server ≡ standing c.in-Some-Up.node = c.in-Some-Up.is ∙ ap Some c.in-Some-Up.field-0-is in
    let same : n ≡ c.in-Some-Up.node = one_of c.args.self.now.server n c.in-Some-Up.node keeps.stands is in
    let up : c.in-Some-Up.node.kept.is_down ≡ false = sym c.is_down.ensures ∙ c.if-is_down.false in
    let set : HasStopSet g.V.Vault c.args.calls c.in-Some-Up.node c.stop_after.new.self = record {
      kept = c.knows.ensures;
      same = c.stop_after.ensures.same;
      faults = c.stop_after.ensures.faults;
      rest = c.stop_after.ensures.kept;
      down = λ is. (let wrong : true ≡ false = sym is ∙ up in cc);
      allowance = λ e. c.stop_after.ensures.allowance;
    } in
    stop_went g.V.Vault c.args.calls tells c.args.self.now _ n c.stop_after.new.self keeps (subst (λ (z : NodeState _). HasStopSet g.V.Vault c.args.calls z c.stop_after.new.self) (sym same) set) refl
    (sym (ap (λ (z : NodeState _). cond z.kept.is_down c.args.self.now.is_fused true) same ∙ ap (λ (b : Bool). cond b c.args.self.now.is_fused true) up)) refl

pub returns-then-is_down-clause-sets : goal.returns-then-is_down-clause-sets
returns-then-is_down-clause-sets g c = λ n keeps.
    let is : c.args.self.now.server ≡ standing c.in-Some-Up.node = c.in-Some-Up.is ∙ ap Some c.in-Some-Up.field-0-is in
    let same : c.in-Some-Up.node ≡ n = one_of c.args.self.now.server c.in-Some-Up.node n is keeps.stands in
    let down : n.kept.is_down ≡ true = ap (λ (z : NodeState _). z.kept.is_down) (sym same) ∙ sym c.is_down.ensures ∙ c.if-is_down.true in
    let set : HasStopSet g.V.Vault c.args.calls n n = record { kept = keeps.on.kept; same = record { telling = refl; sizes = refl; number = refl; of_all = refl }; faults = refl; rest = refl; down = λ e. refl; allowance = λ up. (let wrong : true ≡ false = sym down ∙ up in cc) } in
    (n, ap standing same, set)

pub returns-clause-sets : goal.returns-clause-sets
returns-clause-sets g c = λ n keeps.
    let is : c.args.self.now.server ≡ standing c.in-Some-Up.node = c.in-Some-Up.is ∙ ap Some c.in-Some-Up.field-0-is in
    let same : n ≡ c.in-Some-Up.node = one_of c.args.self.now.server n c.in-Some-Up.node keeps.stands is in
    let up : c.in-Some-Up.node.kept.is_down ≡ false = sym c.is_down.ensures ∙ c.if-is_down.false in
    let set : HasStopSet g.V.Vault c.args.calls c.in-Some-Up.node c.stop_after.new.self = record {
      kept = c.knows.ensures;
      same = c.stop_after.ensures.same;
      faults = c.stop_after.ensures.faults;
      rest = c.stop_after.ensures.kept;
      down = λ is. (let wrong : true ≡ false = sym is ∙ up in cc);
      allowance = λ e. c.stop_after.ensures.allowance;
    } in
    (c.stop_after.new.self, refl, subst (λ (z : NodeState _). HasStopSet g.V.Vault c.args.calls z c.stop_after.new.self) (sym same) set)
