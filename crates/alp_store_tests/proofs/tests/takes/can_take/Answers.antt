use Rattle.std.proofs.Common.{◌+◌, ◌*◌, ◌≤◌, sym, ap, subst, ◌∙◌}
use Rattle.alp_base.specs.declared.faults.Sizes.{Sizes}
use Rattle.alp_vault.specs.Volumes.{changed_cells, fit_keys}
use Rattle.alp_store_tests.proofs.TakeLemmas.{can_commit}
use Rattle.alp_store_tests.proofs.tests.takes.can_take.Goals as goal

pub returns : goal.returns
returns g c = λ yes.
    let volume : Sizes = g.V.Vault.volume c.args.vault.now in
    let clock = c.requires.clock in
    let room : 6 * changed_cells c.args.change.now + 30 ≤ volume.area =
    subst (λ (s : Sizes). 6 * changed_cells c.args.change.now + 30 ≤ s.area) c.sizes.ensures (c.log_has_room.ensures c.if-not-log_has_room.false) in
    can_commit volume (g.V.Vault.server c.args.vault.now) (g.V.Vault.servers c.args.vault.now) (g.V.Vault.held c.args.vault.now).notes c.args.change.now clock.0 c.args.notes.now
    c.requires.once clock.1 clock.2
    (ap fit_keys (sym c.as_slice.ensures) ∙ sym c.fit_keys.ensures ∙ c.if-not-fit_keys.false)
    (c.are_server_notes.ensures.good yes) room
