use Rattle.std.specs.FinMap as map
use Rattle.std.proofs.Common.{◌≡◌, ◌+◌, ◌≤◌, List, ◌∷◌, ◌++◌, drop, length, vec_capacity, ap, sym, arith, ◌∙◌}
use Rattle.alp_base.specs.declared.ids.TransId.{TransId}
use Rattle.alp_calls.specs.Parts.{IsPart}
use Rattle.alp_locks.specs.Tables.{Table}
use Rattle.alp_node.specs.Releases.{granted_one, woken_taken, grant_acts}
use Rattle.alp_node.specs.declared.lives.Live.{Live}
use Rattle.alp_node.specs.declared.server_state.ServerState.{ServerState}
use Rattle.alp_node.proofs.LockedLemmas.{granted_locks, granted_length, granted_each, woken_step, first_is, acts_step, room_step}
use Rattle.alp_node.proofs.TotalLemmas.{few_totals}
use Rattle.alp_node.proofs.server_state.ServerState.give.Goals as goal

pub grant-requires-clause-few : goal.grant-requires-clause-few
grant-requires-clause-few g c = few_totals c.loop-woken.self.lives c.loop-woken.invariant.most c.loop-woken.invariant.parts

pub grant-requires-clause-part : goal.grant-requires-clause-part
grant-requires-clause-part g c l there = c.loop-woken.invariant.parts c.in-Some.woken l there

pub loop-woken-preserved : goal.loop-woken-preserved
loop-woken-preserved g c =
    let k = c.loop-woken.self in
    let t : TransId = c.in-Some.woken in
    let ts : List TransId = drop 1 k.locks.woken in
    let first : k.locks.woken ≡ t ∷ ts = first_is k.locks.woken t c.in-Some.ensures.taken in
    let left : Table = record (k.locks) { woken = ts } in
    let then : c.grant.new.self ≡ granted_one (record k { locks = left }) t = c.grant.ensures ∙ ap (λ (x : Table). granted_one (record k { locks = x }) t) c.in-Some.ensures.left in
    let woken : c.grant.new.self.locks.woken ≡ ts = ap (λ (y : ServerState _). y.locks.woken) then ∙ ap (λ (x : Table). x.woken) (granted_locks (record k { locks = left }) t) in
    record {
      after = ap woken_taken then ∙ woken_step k t ts first ∙ c.loop-woken.invariant.after;
      acts = ap (λ (us : List TransId). c.push_reserved.new.self.items ++ grant_acts us) woken ∙ acts_step c.loop-woken.acts.items c.push_reserved.new.self.items t k.locks.woken ts first c.push_reserved.ensures.items ∙ c.loop-woken.invariant.acts;
      capacity = c.push_reserved.ensures.capacity ∙ c.loop-woken.invariant.capacity;
      room = (
          let room : length c.push_reserved.new.self.items + length ts ≤ vec_capacity c.loop-woken.acts = room_step c.loop-woken.acts.items c.push_reserved.new.self.items t k.locks.woken ts (vec_capacity c.loop-woken.acts) first c.push_reserved.ensures.items c.loop-woken.invariant.room in
          let same : vec_capacity c.push_reserved.new.self ≡ vec_capacity c.loop-woken.acts = c.push_reserved.ensures.capacity in
          let few : length c.grant.new.self.locks.woken ≡ length ts = ap length woken in
          omega (arith, room, same, few));
      most = (let same : map.len c.grant.new.self.lives ≡ map.len k.lives = ap (λ (y : ServerState _). map.len y.lives) then ∙ granted_length (record k { locks = left }) t in omega (arith, same, c.loop-woken.invariant.most));
      parts = λ u x there. granted_each (record k { locks = left }) t (λ (l : Live). IsPart l.part) (λ l n h. h) c.loop-woken.invariant.parts u x (sym (ap (λ (y : ServerState _). map.get y.lives u) then) ∙ there);
    }
