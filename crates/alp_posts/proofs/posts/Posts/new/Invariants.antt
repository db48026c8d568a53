use Rattle.alp_posts.proofs.TableLemmas.{IsNew}
use Rattle.alp_posts.proofs.posts.Posts.new.Given as goal

abbrev pub invariant-loop-place : goal.invariant-loop-place
invariant-loop-place l = IsNew l.place l.walks.items
