use Rattle.std.proofs.Common.{◌≡◌, ◌≤◌, IsTrue, sym, ◌∙◌, ap, subst, arith}
use Rattle.std.specs.Prelude.{Result, Err}
use Rattle.std.proofs.lemmas.Result.{err_from_is_err_and}
use Rattle.alp_base.specs.declared.faults.VaultFault.{VaultFault}
use Rattle.alp_base.specs.declared.faults.VaultFault.TheVariants.{Damaged}
use Rattle.alp_disk.specs.Disk.{Image}
use Rattle.alp_disk.proofs.Moments.{adds_more}
use Rattle.alp_anchor.specs.declared.anchor.Anchor.{Anchor}
use Rattle.alp_wal.specs.Live.{AreWithin}
use Rattle.alp_wal.specs.Reading.{area_first, area_end}
use Rattle.alp_wal.specs.declared.found.Found.{Found}
use Rattle.alp_wal.specs.Mount.{Finds, IsBad}
use Rattle.alp_wal.proofs.mounting.replay.Goals as goal

pub returns-then-not-branch-clause-finds : goal.returns-then-not-branch-clause-finds
returns-then-not-branch-clause-finds g c told =
    subst (λ (f : Found). Finds (g.D.Disk.seen c.args.disk.now) c.args.found.now.anchor f) (sym (c.in_ok-step.ensures.stays c.if-not-branch.true)) (c.loop.invariant.finds told)

pub loop-preserved : goal.loop-preserved
loop-preserved g c =
    let before = c.loop.invariant in
    let step = c.in_ok-step.ensures in
    let yes = c.if-not-branch.false in
    let new = c.step.new.found in
    record {
      finds = λ told.
          let told2 = subst IsTrue (sym before.tells) told in
          let now = subst (λ (t : Image × Anchor). Finds t.0 t.1 c.loop.found) (λ i. (sym before.seen i, sym before.anchor i)) (before.finds told) in
          subst (λ (t : Image × Anchor). Finds t.0 t.1 new) (λ i. (before.seen i, before.anchor i)) (step.more told2 now yes);
      grown = omega (arith, before.grown, step.grows yes);
      inside = subst (λ (a : Anchor). new.end ≤ area_end a) before.anchor step.inside;
      anchor = step.anchor ∙ before.anchor;
      index = step.index ∙ before.index;
      live = step.live;
      within = subst (λ (a : Anchor). AreWithin (area_first a) new.end new.notes.notes) before.anchor step.within;
      tells = step.tells ∙ before.tells;
      size = step.size ∙ before.size;
      seen = step.seen ∙ before.seen;
      crash = λ i left. before.crash i (step.crash i left);
      time = adds_more g.D.Disk.left_since _ _ _ _ _ before.time step.time (λ i left. before.crash i left);
      allowance = step.allowance ∙ before.allowance;
      faults = step.still ∙ before.faults;
    }

err_once : {T E : Type 0} (x y : E) → ◌≡◌ {A = Result T E} (Err x) (Err y) → x ≡ y
err_once x y e = cc

pub returns-in_err-step-clause-bad : goal.returns-in_err-step-clause-bad
returns-in_err-step-clause-bad g c told place is =
    let before = c.loop.invariant in
    let told2 = subst IsTrue (sym before.tells) told in
    let now = subst (λ (t : Image × Anchor). Finds t.0 t.1 c.loop.found) (λ i. (sym before.seen i, sym before.anchor i)) (before.finds told) in
    let p = err_from_is_err_and c.from_residual.result c.from_residual.ensures.1 in
    let damaged : p.0 ≡ Damaged place = err_once p.0 (Damaged place) (sym p.1 ∙ is) in
    let fault = sym p.2 ∙ damaged in
    subst (λ (t : Image × Anchor). IsBad t.0 t.1 place) (λ i. (before.seen i, before.anchor i)) (c.in_err-step.ensures.bad told2 now place (ap (λ (e : VaultFault). Err e) fault))
