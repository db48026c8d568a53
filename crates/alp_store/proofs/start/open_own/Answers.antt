use Rattle.std.proofs.Common.{◌≤◌, ℕ, refl, ◌∙◌, ap, subst, inr, arith}
use Rattle.alp_store.specs.Shelves.{shelf_log}
use Rattle.alp_store.proofs.ForeignLaws.{tells_on, is_foreign, still_counts}
use Rattle.alp_store.proofs.start.open_own.Goals as goal

pub returns-in-Ok-true-clause-own : goal.returns-in-Ok-true-clause-own
returns-in-Ok-true-clause-own g c told =
    let e = c.in_ok-shelf.ensures in
    c.in-Ok-true.ensures.yes (tells_on g.D.Disk c.args.disk c.args.server c.args.servers (shelf_log c.in_ok-shelf.shelf) e.below e.named.0 e.named.1 told) c.in-Ok-true.field-0-test

pub returns-in-Ok-true-clause-notes : goal.returns-in-Ok-true-clause-notes
returns-in-Ok-true-clause-notes g c = c.in-Ok-true.ensures.notes c.in-Ok-true.field-0-test

pub returns-in-Ok-true-clause-counts : goal.returns-in-Ok-true-clause-counts
returns-in-Ok-true-clause-counts g c told =
    let e = c.in_ok-shelf.ensures in
    still_counts g.D.Disk c.args.disk c.args.server c.args.servers (shelf_log c.in_ok-shelf.shelf) e.below e.named.0 e.named.1 e.shelf.alive c.knows.ensures.known told

pub returns-in-Ok-false-clause-why_not : goal.returns-in-Ok-false-clause-why_not
returns-in-Ok-false-clause-why_not g c told =
    let e = c.in_ok-shelf.ensures in
    let w = shelf_log c.in_ok-shelf.shelf in
    inr (
      refl,
      is_foreign g.D.Disk c.args.disk c.args.server c.args.servers w e.below e.named.0 e.named.1 (e.holds told)
          (c.in-Ok-false.ensures.other (tells_on g.D.Disk c.args.disk c.args.server c.args.servers w e.below e.named.0 e.named.1 told) c.in-Ok-false.field-0-test),
    )

pub returns-in-Ok-false-clause-cause : goal.returns-in-Ok-false-clause-cause
returns-in-Ok-false-clause-cause g c =
    let still = ap g.D.Disk.faults c.disk_under.ensures ∙ c.in_ok-shelf.ensures.cause.still in
    record {
      later = subst (λ (n : ℕ). n ≤ g.D.Disk.faults c.disk_under.result) still (omega arith);
      still = still;
      cause = record { failed = λ e. cc; stopped = λ e. cc };
    }
