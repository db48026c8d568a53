use Rattle.std.proofs.Common.{List, refl, sym, ◌∙◌, subst, arith}
use Rattle.alp_batch.specs.declared.batch.PageImage.{PageImage}
use Rattle.alp_pool.specs.Pools.{buffers_of}
use Rattle.alp_pool.proofs.Renewing.{Renewed, begin_renewing, renew_one, none_left, end_renewing}
use Rattle.alp_pool.proofs.pool.Pool.renew_all.Goals as goal

pub loop-next-init : goal.loop-next-init
loop-next-init g c = record {
  log = refl;
  capacity = refl;
  resident = λ q. (λ r. r, λ r. r);
  renewed = λ pages below held.
      subst (λ (l : List PageImage). Renewed pages c.args.images.items (buffers_of c.args.self.now) l) (sym c.into_iter-next-iterator.ensures.into_iter_gives.0)
      (begin_renewing pages c.args.images.items (buffers_of c.args.self.now) below held);
}

pub loop-next-preserved : goal.loop-next-preserved
loop-next-preserved g c =
    let before = c.loop-next.invariant in
    let renew = c.renew.ensures in
    record {
      log = renew.log ∙ before.log;
      capacity = renew.capacity ∙ before.capacity;
      resident = λ q. (λ now. (before.resident q).0 ((renew.resident q).0 now), λ was. (renew.resident q).1 ((before.resident q).1 was));
      renewed = λ pages below held.
          renew_one pages c.args.images.items (buffers_of c.loop-next.self) (buffers_of c.renew.new.self) c.in-Some.next c.next.new.self.rest.items (λ mid low old. renew.buffers mid low old)
          (subst (λ (l : List PageImage). Renewed pages c.args.images.items (buffers_of c.loop-next.self) l) c.in-Some.ensures.steps.0 (before.renewed pages below held));
    }

pub returns-clause-buffers : goal.returns-clause-buffers
returns-clause-buffers g c pages below held =
    end_renewing pages c.args.images.items (buffers_of c.loop-next.self) c.loop-next.next-iterator.rest.items (none_left c.loop-next.next-iterator.rest.items (omega (arith, c.in-None.ensures.steps.0, c.loop-next.next-iterator.rest.ok))) (c.loop-next.invariant.renewed pages below held)
