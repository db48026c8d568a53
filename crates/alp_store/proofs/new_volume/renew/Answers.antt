use Rattle.std.specs.Prelude.{IsTrue}
use Rattle.std.proofs.Common.{sym, subst}
use Rattle.alp_store.proofs.RenewLaws.{no_anchor}
use Rattle.alp_store.proofs.new_volume.renew.Goals as goal

pub returns-clause-blank : goal.returns-clause-blank
returns-clause-blank g c told =
    let there = subst IsTrue (sym c.write_span.ensures.tells) told in
    no_anchor g.D.Disk c.args.disk.now c.write_span.new.disk c.sync.new.self (c.in_ok-write_span.ensures.written told) c.sync.ensures.seen (c.in_ok-sync.ensures.durable there)
