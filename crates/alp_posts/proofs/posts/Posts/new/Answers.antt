use Rattle.std.proofs.Common.{◌≡◌, subst, arith}
use Rattle.alp_posts.proofs.TableLemmas.{IsNew, new_fits}
use Rattle.alp_posts.proofs.posts.Posts.new.Goals as goal

pub returns-clause-fits : goal.returns-clause-fits
returns-clause-fits c journals =
    let at_end : c.loop-place.place ≡ 64 = omega arith in
    new_fits journals c.loop-place.walks.items (subst (λ n. IsNew n c.loop-place.walks.items) at_end c.loop-place.invariant)
