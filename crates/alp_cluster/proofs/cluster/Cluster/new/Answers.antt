use Rattle.std.proofs.Common.{[]}
use Rattle.alp_cluster.proofs.cluster.Cluster.new.Goals as goal

pub returns : goal.returns
returns g c = record {
  stations = rw c.new-all.ensures.items (tt {0});
  clients = c.in_ok-clients.ensures;
  untaken = c.in_ok-posts.ensures.none;
  table = (c.in_ok-posts.ensures.fits (λ n. [])).table;
  many = c.in_ok-lists.ensures.many;
  empty = c.in_ok-lists.ensures.empty;
  blank = c.new-text.ensures.items;
}
