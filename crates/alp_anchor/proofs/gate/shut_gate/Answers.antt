use Rattle.std.proofs.Common.{IsTrue, [], ◌∷◌, sym, ◌∙◌, ap, subst}
use Rattle.alp_disk.specs.Disk.{with_bytes}
use Rattle.alp_anchor.proofs.Gates.{on_ok_both, is_closed}
use Rattle.alp_anchor.proofs.gate.shut_gate.Goals as goal

pub returns-clause-closed : goal.returns-clause-closed
returns-clause-closed g c told =
    let told2 = subst IsTrue (sym c.read.ensures.tells) told in
    on_ok_both c.write_synced.result _ _ _
    (λ put only. is_closed _ _ _ c.args.at _ (g.met.D.Disk.is_image c.args.disk.now told) c.requires.at only (put ∙ ap (λ i. with_bytes i c.args.at 0 (0 ∷ [])) c.read.ensures.seen))
    (c.write_synced.ensures.written told2) (c.write_synced.ensures.durable told2)
