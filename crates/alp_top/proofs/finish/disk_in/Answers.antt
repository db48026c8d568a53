use Rattle.std.specs.Prelude.{IsTrue}
use Rattle.std.proofs.Common.{◌≡◌, refl, sym, ap, subst}
use Rattle.alp_store.specs.Told.{contents_of}
use Rattle.alp_top.proofs.BeginLemmas.{holds_by}
use Rattle.alp_top.proofs.finish.disk_in.Goals as goal

pub returns : goal.returns
returns g c =
    let D = g.D.Disk in
    let a = c.into_disk.result in
    let last = c.into_disk.ensures in
    record {
      telling = ap D.tells last.disk;
      sized = sym last.sized.total;
      faults = ap D.faults last.disk;
      files = λ told serves. c.knows.ensures.fitting _ told (c.knows.ensures.as_held told serves);
      holds = λ told serves. holds_by _ _ _ _ _ _ _ _ (D.seen a) (contents_of D c.args.vault.log) refl refl (ap D.size (sym last.disk)) refl (last.holds (subst IsTrue (sym (ap D.tells last.disk)) told) serves);
      only = λ told serves. last.left (subst IsTrue (sym (ap D.tells last.disk)) told) serves;
      whole = λ told image may.
          let (x, holds) = last.whole (subst IsTrue (sym (ap D.tells last.disk)) told) image may in (
            x,
            holds_by _ _ _ _ _ _ _ _ image x refl refl (ap D.size (sym last.disk)) refl holds,
            record { image = image; left = subst (λ q. D.may_leave q image) last.disk may; holds = holds },
          );
      read = λ told. g.met.D.Disk.as_read a (subst IsTrue (sym (ap D.tells last.disk)) told);
    }
