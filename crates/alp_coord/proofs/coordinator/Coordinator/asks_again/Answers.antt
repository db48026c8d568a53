use Rattle.std.specs.Prelude.{cond, Bool, true, false, ◌==◌, ◌&&◌, Option, None, Some}
use Rattle.std.specs.Option.{option_copied}
use Rattle.std.specs.FinMap as map
use Rattle.std.proofs.Common.{◌≡◌, ℕ, List, [], ◌∷◌, ◌++◌, refl, ap, sym, subst, ◌∙◌}
use Rattle.alp_base.specs.declared.ids.TransId.{TransId}
use Rattle.alp_coord.specs.declared.course.Course.{Course}
use Rattle.alp_coord.specs.declared.begun.Settled.{Settled}
use Rattle.alp_coord.specs.declared.coordinator.Coordinator.{Coordinator}
use Rattle.std.specs.Prelude.{flat_map, map as list_map}
use Rattle.std.specs.List.Sorted.{IsStrictlySortedBy}
use Rattle.alp_base.specs.Orders.{trans_cmp}
use Rattle.alp_journal.specs.declared.message.Envelope.{Envelope}
use Rattle.alp_journal.specs.Messages.{Mail, ask_again}
use Rattle.alp_coord.specs.Coordinators.{fate_in, open_ids, enveloped, to_run}
use Rattle.alp_coord.proofs.WordLemmas.{envelopes-all}
use Rattle.alp_coord.proofs.coordinator.Coordinator.asks_again.Goals as goal

pub returns-clause-said : goal.returns-clause-said
returns-clause-said c =
    let s = c.args.self.now in
    let f : TransId → List Mail = λ t. ask_again t (fate_in s t) in
    c.in_ok-ask_all.ensures
    ∙ ap (λ (es : List Envelope). c.args.out.now.items ++ es)
    (ap (λ (ts : List TransId). flat_map (λ t. list_map enveloped (to_run s.server c.args.servers (f t))) ts) (c.as_slice.ensures.value ∙ c.in_ok-ids.ensures.ids)
    ∙ envelopes-all s.server c.args.servers f (open_ids s))

pub returns-clause-rising : goal.returns-clause-rising
returns-clause-rising c = subst (λ (ts : List TransId). IsStrictlySortedBy trans_cmp ts) c.in_ok-ids.ensures.ids c.in_ok-ids.ensures.rising
