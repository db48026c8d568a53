use Rattle.std.proofs.Common.{◌≡◌, refl}
use Rattle.alp_top.proofs.finish.report.Goals as goal

pub returns : goal.returns
returns g c = record {
  servers = refl;
  clients = refl;
  summary = record { servers = c.as_slice.result; committed = c.args.rests.committed; aborted = c.saturating_sub.result };
  helds = c.as_slice.ensures.value;
  committed = refl;
  aborted = c.saturating_sub.ensures;
  report = c.in_ok-put_summary.ensures;
}
