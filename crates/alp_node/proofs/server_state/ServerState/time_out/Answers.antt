use Rattle.std.specs.Prelude.{flat_map, map as list_map}
use Rattle.std.proofs.Common.{◌≡◌, List, sym, ap, ◌∙◌, subst}
use Rattle.std.specs.List.Sorted.{IsPermutation}
use Rattle.alp_journal.specs.Moves.{times_out_join}
use Rattle.alp_worker.specs.Walks.{timed_out}
use Rattle.alp_worker.specs.declared.live.LiveJoin.{LiveJoin}
use Rattle.alp_node.specs.Timeouts.{has_active}
use Rattle.alp_node.proofs.server_state.ServerState.time_out.Goals as goal

pub time_out_own-requires-clause-runs : goal.time_out_own-requires-clause-runs
time_out_own-requires-clause-runs g c = sym c.client.ensures ∙ c.in-Some.is

pub time_out_active-requires-clause-late : goal.time_out_active-requires-clause-late
time_out_active-requires-clause-late g c = c.as_slice-then-has_active.ensures.value ∙ c.in_ok-late.ensures.same

pub time_out_active-requires-clause-told : goal.time_out_active-requires-clause-told
time_out_active-requires-clause-told g c s h =
    subst (λ (xs : List LiveJoin). IsPermutation (flat_map (times_out_join s c.args.trans) s.joined) (list_map timed_out xs)) (sym c.as_slice-then-has_active.ensures.value) (c.in_ok-late.ensures.journal s h)

pub time_out_active-requires-clause-active : goal.time_out_active-requires-clause-active
time_out_active-requires-clause-active g c = ap has_active (c.as_slice-then-has_active.ensures.value ∙ sym c.as_slice.ensures.value) ∙ sym c.has_active.ensures ∙ c.if-has_active.true

pub time_out_asking-requires-clause-foreign : goal.time_out_asking-requires-clause-foreign
time_out_asking-requires-clause-foreign g c = sym c.client.ensures ∙ c.in_default.is

pub time_out_asking-requires-clause-late : goal.time_out_asking-requires-clause-late
time_out_asking-requires-clause-late g c = c.as_slice-2.ensures.value ∙ c.in_ok-late.ensures.same

pub time_out_asking-requires-clause-told : goal.time_out_asking-requires-clause-told
time_out_asking-requires-clause-told g c s h =
    subst (λ (xs : List LiveJoin). IsPermutation (flat_map (times_out_join s c.args.trans) s.joined) (list_map timed_out xs)) (sym c.as_slice-2.ensures.value) (c.in_ok-late.ensures.journal s h)

pub time_out_asking-requires-clause-asking : goal.time_out_asking-requires-clause-asking
time_out_asking-requires-clause-asking g c = ap has_active (c.as_slice-2.ensures.value ∙ sym c.as_slice.ensures.value) ∙ sym c.has_active.ensures ∙ c.if-has_active.false
