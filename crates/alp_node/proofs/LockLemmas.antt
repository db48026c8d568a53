-- calls that ask for locks: what the table grants is what the journal grants
use Rattle.std.specs.Prelude.{cond, Bool, true, false, Option, None}
use Rattle.std.specs.Ordering.{eq_by_cmp}
use Rattle.std.specs.Cmp.{eq_by_cmp_equiv}
use Rattle.std.proofs.Common.{◌≡◌, List, [], ◌∷◌, refl, ◌∙◌, ap}
use Rattle.alp_base.specs.declared.ids.TransId.{TransId}
use Rattle.alp_base.specs.declared.key.Resource.{Resource}
use Rattle.alp_modes.specs.declared.Mode.{Mode}
use Rattle.alp_modes.specs.declared.Mode.TheVariants.{Read, Write}
use Rattle.alp_modes.specs.Modes.{covers_of}
use Rattle.alp_base.specs.Orders.{resource_cmp, resources_total}
use Rattle.alp_files.specs.Holdings.{join_held, held_by, DoAgree}
use Rattle.alp_queue.specs.declared.waiter.Waiter.{Waiter}
use Rattle.alp_locks.specs.Tables.{Table, held_of, holding}
use Rattle.alp_locks.specs.Asks.{blocker, with_granted}
use Rattle.alp_locks.specs.Sound.{IsSound, IsPrepared}
use Rattle.alp_locks.proofs.FreeLemmas.{held-other}
use Rattle.alp_locks.proofs.LawLemmas.{all-of-plan}
use Rattle.alp_locks.proofs.PlanLemmas.{granted-waiting}
use Rattle.alp_locks.proofs.SoundLemmas.{grant-sound}
use Rattle.alp_queue.specs.Order.{waits}
use Rattle.alp_journal.specs.Ids.{same_trans}
use Rattle.alp_journal.proofs.IdLemmas.{same_trans-itself}
use Rattle.alp_node.proofs.MapLemmas.{tied_same}
use Rattle.alp_node.proofs.ReadyLemmas.{turned}

-- ---- modes

pub itself : (q : Resource) → eq_by_cmp resource_cmp q q ≡ true
itself q = (eq_by_cmp_equiv resources_total).refl q

pub read_covers : covers_of Read Read ≡ true
unfolding covers_of
read_covers = refl

pub write_covers : covers_of Write Write ≡ true
unfolding covers_of
write_covers = refl

-- ---- what is granted

module _ (locks : Table) (w : Waiter) where
  abbrev pub taken : Table
  taken = with_granted locks w.trans w.rises w.after

  -- the asker has what it asked for
  pub taken_own : IsPrepared locks.held w → (q : Resource) → holding taken.held w.trans q ≡ join_held (holding locks.held w.trans q) (held_by w.needs q)
  taken_own ready q =
      all-of-plan locks w w.trans q ready
      ∙ ap (λ (b : Bool). cond {A = Option Mode} b (join_held (holding locks.held w.trans q) (held_by w.needs q)) (holding locks.held w.trans q)) (tied_same w.trans w.trans ∙ same_trans-itself w.trans)

  -- the others' locks are as they were, and so are those who wait
  pub taken_beside : (u : TransId) → same_trans u w.trans ≡ false → held_of taken.held u ≡ held_of locks.held u
  taken_beside u away = go w.rises
    where
      go : (rises : List (Resource × Mode)) → held_of (with_granted locks w.trans rises w.after).held u ≡ held_of locks.held u
      go [] = refl
      go (n ∷ ns) = held-other locks.held w.trans w.after u (tied_same u w.trans ∙ away)

  pub taken_waiting : taken.waiting ≡ locks.waiting
  taken_waiting = granted-waiting locks w.trans w.rises w.after

  -- and the others what they had
  pub taken_other : IsPrepared locks.held w → (u : TransId) (q : Resource) → same_trans u w.trans ≡ false → holding taken.held u q ≡ holding locks.held u q
  taken_other ready u q away =
      all-of-plan locks w u q ready
      ∙ ap (λ (b : Bool). cond {A = Option Mode} b (join_held (holding locks.held u q) (held_by w.needs q)) (holding locks.held u q)) (tied_same u w.trans ∙ away)

  -- locks agree still
  pub taken_agrees : IsPrepared locks.held w → IsSound locks → blocker locks.held w.trans w.rises ≡ None → waits locks.waiting w.trans ≡ false → (u : TransId) → same_trans u w.trans ≡ false
      → DoAgree (holding taken.held w.trans) (holding taken.held u)
  taken_agrees ready sound free alone u away =
      (grant-sound locks w ready sound free alone).agreeing w.trans u (tied_same w.trans u ∙ turned u w.trans away)
