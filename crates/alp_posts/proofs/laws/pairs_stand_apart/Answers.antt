use Rattle.alp_posts.proofs.TableLemmas.{same_post, other_post, still_table}
use Rattle.alp_posts.proofs.laws.pairs_stand_apart.Goals as goal

pub returns-clause-same : goal.returns-clause-same
returns-clause-same c p from to x table servers = same_post p from to x table servers

pub returns-clause-other : goal.returns-clause-other
returns-clause-other c p from to f t x servers others apart = other_post p from to f t x servers others apart

pub returns-clause-table : goal.returns-clause-table
returns-clause-table c p from to x table servers is = still_table p from to x table servers is
