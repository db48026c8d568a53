use Rattle.std.specs.Prelude.{cond, None, Some}
use Rattle.std.specs.FinMap as map
use Rattle.std.proofs.Common.{◌≡◌, ◌+◌, ◌-◌, sym, ap, subst, ◌∙◌, arith}
use Rattle.alp_files.proofs.UndoLemmas.{when_ok, when_err}
use Rattle.alp_base.specs.declared.ids.TransId.{TransId}
use Rattle.alp_journal.specs.Ids.{same_trans}
use Rattle.alp_journal.specs.Coordinator.{Fate, Undrawn}
use Rattle.alp_journal.specs.Deeds.{Begins}
use Rattle.alp_coord.specs.declared.coordinator.Coordinator.{Coordinator}
use Rattle.alp_coord.specs.Coordinators.{IsOf, IsAlong, Comes, Keeps, server_of, epoch_of, count_of, last_id, next_id, fate_in}
use Rattle.alp_node.specs.Releases.{with_trans}
use Rattle.alp_node.specs.declared.lives.Live.{Live}
use Rattle.alp_node.specs.declared.server_state.ServerState.{ServerState}
use Rattle.alp_node.proofs.PairedLemmas.{next_new}
use Rattle.alp_node.proofs.TransactionLemmas.{taken_back}
use Rattle.alp_node.proofs.server_state.ServerState.draw.Goals as goal

pub begin-requires : goal.begin-requires
begin-requires g c = omega (arith, c.requires.ready.1, c.requires.ready.2.drawn)

pub enter-requires-clause-new : goal.enter-requires-clause-new
enter-requires-clause-new g c =
    let k = c.args.self.now in
    ap (map.get k.lives) c.in_ok-trans.ensures.id ∙ next_new k.servers k.server k.coordinator k.joins k.lives c.requires.ready.2.paired c.requires.ready.2.seat.0

pub enter-requires-clause-idle : goal.enter-requires-clause-idle
enter-requires-clause-idle g c = c.new.ensures.counts

pub take_back-requires-clause-some : goal.take_back-requires-clause-some
take_back-requires-clause-some g c =
    let k = c.args.self.now in
    let as_was : c.enter.new.self ≡ record k { coordinator = c.begin.new.self } = when_err c.enter.result _ c.enter.ensures.err (sym c.if-is_err.ensures.value) in
    let count : count_of (c.enter.new.self).coordinator ≡ count_of k.coordinator + 1 = ap (λ (y : ServerState _). count_of y.coordinator) as_was ∙ c.in_ok-trans.ensures.one.count_same in
    omega (arith, count)

pub take_back-requires-clause-few : goal.take_back-requires-clause-few
take_back-requires-clause-few g c =
    let k = c.args.self.now in
    let as_was : c.enter.new.self ≡ record k { coordinator = c.begin.new.self } = when_err c.enter.result _ c.enter.ensures.err (sym c.if-is_err.ensures.value) in
    let count : count_of (c.enter.new.self).coordinator ≡ count_of k.coordinator + 1 = ap (λ (y : ServerState _). count_of y.coordinator) as_was ∙ c.in_ok-trans.ensures.one.count_same in
    omega (arith, count, c.requires.ready.1, c.requires.ready.2.drawn)

pub returns-then-is_err-clause-err : goal.returns-then-is_err-clause-err
returns-then-is_err-clause-err g c =
    let k = c.args.self.now in
    let z : Coordinator = c.take_back.new.self in
    let as_was : c.enter.new.self ≡ record k { coordinator = c.begin.new.self } = when_err c.enter.result _ c.enter.ensures.err (sym c.if-is_err.ensures.value) in
    let was : (c.enter.new.self).coordinator ≡ c.begin.new.self = ap (λ (y : ServerState _). y.coordinator) as_was in
    let run : IsOf (server_of c.begin.new.self) (epoch_of c.begin.new.self) (count_of c.begin.new.self - 1) z = subst (λ (x : Coordinator). IsOf (server_of x) (epoch_of x) (count_of x - 1) z) was c.take_back.ensures.run in
    let taken : (t : TransId) → fate_in z t ≡ cond {A = Fate} (same_trans (last_id c.begin.new.self) t) Undrawn (fate_in c.begin.new.self t) =
    subst (λ (x : Coordinator). (t : TransId) → fate_in z t ≡ cond {A = Fate} (same_trans (last_id x) t) Undrawn (fate_in x t)) was c.take_back.ensures.taken in
    let back : IsAlong k.coordinator z × Keeps k.coordinator z = taken_back c.args.turn.now.client k.coordinator c.begin.new.self z c.in_ok-trans.ensures.one c.in_ok-trans.ensures.begun run taken in
    record { kept = ap (λ (y : ServerState _). record y { coordinator = z }) as_was; along = back.0; same = back.1 }

pub returns-clause-drawn : goal.returns-clause-drawn
returns-clause-drawn g c =
    let k = c.args.self.now in
    let turn = c.args.turn.now in
    let t : TransId = c.in_ok-trans.trans in
    let id : t ≡ next_id k.coordinator = c.in_ok-trans.ensures.id in
    let l : Live = record { client = turn.client; who = Some turn.who; part = c.new.result; locks = 0; join = None } in
    let entered : c.enter.new.self ≡ with_trans (record k { coordinator = c.begin.new.self }) t l = when_ok c.enter.result _ c.enter.ensures.ok (sym c.if-is_err.ensures.value) in
    let is : (c.enter.new.self).coordinator ≡ c.begin.new.self = ap (λ (y : ServerState _). y.coordinator) entered in
    record {
      part = c.new.result;
      own = c.new.ensures.own;
      intents = c.new.ensures.intents;
      counts = c.new.ensures.counts;
      id = id;
      kept = entered ∙ ap (λ (x : Coordinator). record (with_trans k t l) { coordinator = x }) (sym is);
      one = subst (IsOf (server_of k.coordinator) (epoch_of k.coordinator) (count_of k.coordinator + 1)) (sym is) c.in_ok-trans.ensures.one;
      begun = λ who seen. subst (λ (x : Coordinator). Comes (Begins t turn.client who seen) k.coordinator x) (sym is)
          (subst (λ (u : TransId). Comes (Begins u turn.client who seen) k.coordinator c.begin.new.self) (sym id) (c.in_ok-trans.ensures.begun who seen));
    }
