use Rattle.std.proofs.Common.{rules, ◌≡◌, ◌<◌, ◌≤◌, ◌++◌, ◌∷◌, [], length, ap, ◌∙◌, sym, subst, refl, arith, Some}
use Rattle.std.specs.Prelude.{slice_get, Vec}
use Rattle.std.specs.Global.{Global}
use Rattle.alp_monitor.specs.declared.monitor.Monitor.{Monitor}
use Rattle.alp_storm.specs.declared.errand.Errand.{Errand}
use Rattle.alp_storm.specs.Storms.{AreClosed, HaveTasks}
use Rattle.std.specs.Vec.{vec_len, vec_capacity}
use Rattle.alp_storm.proofs.Lists.{get_last}
use Rattle.alp_storm.proofs.Closes.{tasks_through}
use Rattle.alp_storm.proofs.Spreading.{space_of, one_more, as_before, still_before, tasks_spread}
use Rattle.alp_storm.proofs.opening.+open_all.Goals as goal

pub returns-in-Err-clause-err : goal.returns-in-Err-clause-err
returns-in-Err-clause-err g t c =
    let e = c.in-Err.ensures.err in
    let last = c.in-Some.ensures.items in
    let none = c.requires.empty (length c.pop.new.self.items) c.in-Some.state (ap (λ l. slice_get l (length c.pop.new.self.items)) last ∙ get_last c.pop.new.self.items c.in-Some.state (length c.pop.new.self.items) refl) in
    (search rules, still_before g.S.Story.base g.S.Story.entries c.pop.new.self.items c.args.states.now.items c.push_reserved.new.self.items c.open_all.new.states.items c.in-Some.state e.1 (search rules) last c.push_reserved.ensures.items none)

pub open_one-requires-clause-empty : goal.open_one-requires-clause-empty
open_one-requires-clause-empty g t c =
    c.requires.empty (length c.pop.new.self.items) c.in-Some.state (ap (λ l. slice_get l (length c.pop.new.self.items)) c.in-Some.ensures.items ∙ get_last c.pop.new.self.items c.in-Some.state (length c.pop.new.self.items) refl)

pub open_one-requires-clause-errands : goal.open_one-requires-clause-errands
open_one-requires-clause-errands g t c =
    let o = c.in_default-open_all.ensures.ok in
    (space_of g.S.Story.base c.args.servers c.open_all.new.monitors.items c.open_all.new.errands.items o.open_are (let l = o.monitors_long in search rules), search rules, search rules)

pub returns-in_default-open_one-clause-ok : goal.returns-in_default-open_one-clause-ok
returns-in_default-open_one-clause-ok g t c =
    let o = c.in_default-open_all.ensures.ok in
    let k = c.in_default-open_one.ensures.ok in
    let jl : vec_len c.open_all.new.errands ≡ length c.open_all.new.errands.items = search rules in
    let kl = k.9.2 in
    one_more g.S.Story.base g.S.Story.entries c.args.servers c.pop.new.self.items c.args.states.now.items c.open_all.new.monitors.items c.open_one.new.monitors.items c.open_all.new.rooms.items c.open_one.new.rooms.items c.args.errands.now.items c.open_all.new.errands.items c.open_one.new.errands.items c.in-Some.state k.0 k.1 k.2
    o (search rules) c.in-Some.ensures.items k.3 k.4 k.5 k.6 (search rules) (k.7 ∙ jl) (k.8 ∙ jl) (k.9.0, k.9.1, omega (arith, jl, kl)) k.10

pub returns-clause-err : goal.returns-clause-err
returns-clause-err g t c =
    let o = c.in_default-open_all.ensures.ok in
    let e = c.in-Err-open_one.ensures.err in
    let last = c.in-Some.ensures.items in
    let none = c.requires.empty (length c.pop.new.self.items) c.in-Some.state (ap (λ l. slice_get l (length c.pop.new.self.items)) last ∙ get_last c.pop.new.self.items c.in-Some.state (length c.pop.new.self.items) refl) in
    let closed = subst (λ (x : Vec (Monitor g.row.S.Denot g.row.S-Base.Denot g.row.S-Entry.Denot) Global). AreClosed g.S.Story.base g.S.Story.entries x.items c.open_all.new.errands.items c.close_all.new.states.items) e.1
    (subst (λ (x : Vec (Errand g.row.S.Denot g.row.S-Base.Denot g.row.S-Entry.Denot) Global). AreClosed g.S.Story.base g.S.Story.entries c.open_one.new.monitors.items x.items c.close_all.new.states.items) e.3 c.close_all.ensures.closed) in
    let wis : c.push_reserved-2.new.self.items ≡ c.close_all.new.states.items ++ c.in-Some.state ∷ [] = c.push_reserved-2.ensures.items ∙ ap (λ y. c.close_all.new.states.items ++ y ∷ []) e.0 in
    (search rules, as_before g.S.Story.base g.S.Story.entries c.args.servers c.pop.new.self.items c.args.states.now.items c.push_reserved-2.new.self.items c.close_all.new.states.items c.in-Some.state c.open_all.new.monitors.items c.open_all.new.rooms.items c.args.errands.now.items c.open_all.new.errands.items o closed (search rules) last wis none)

pub returns-in_default-open_one-clause-tasks : goal.returns-in_default-open_one-clause-tasks
returns-in_default-open_one-clause-tasks g t c =
    let o = c.in_default-open_all.ensures.ok in
    let k = c.in_default-open_one.ensures.ok in
    let jl : vec_len c.open_all.new.errands ≡ length c.open_all.new.errands.items = search rules in
    tasks_through c.args.errands.now.items c.open_all.new.errands.items c.open_one.new.errands.items (search rules) o.tasks (tasks_spread c.open_all.new.errands.items c.open_one.new.errands.items k.1 k.5 (k.7 ∙ jl))

pub returns-clause-tasks : goal.returns-clause-tasks
returns-clause-tasks g t c =
    let o = c.in_default-open_all.ensures.ok in
    let e = c.in-Err-open_one.ensures.err in
    tasks_through c.args.errands.now.items c.open_all.new.errands.items c.close_all.new.errands.items (search rules) o.tasks
    (subst (λ (x : Vec (Errand g.row.S.Denot g.row.S-Base.Denot g.row.S-Entry.Denot) Global). HaveTasks x.items c.close_all.new.errands.items) e.3 c.close_all.ensures.tasks)
