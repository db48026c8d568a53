-- how a vault begins the next epoch, and what a crash leaves of it
use Rattle.std.specs.Prelude.{Bool, false, IsTrue, Option, None, Some, unwrap_or, Result, Ok, Err, MatchResult}
use Rattle.std.specs.FinMap as map
use Rattle.std.proofs.Common.{◌≡◌, inl, inr, ⊎_elim, ℕ, ◌+◌, ◌<◌, ◌≤◌, List, refl, sym, ◌∙◌, ap, subst, arith}
use Rattle.alp_base.specs.Allowances.{Spends}
use Rattle.alp_base.specs.Causes.{Rose}
use Rattle.alp_base.specs.Crashes.{NoMore, Adds}
use Rattle.alp_base.specs.Faults.{HasFaultCause, IsCountKept, IsOfVolume}
use Rattle.alp_base.specs.declared.allowance.Allowance.{Allowance}
use Rattle.alp_base.specs.declared.allowance.Allowance.TheVariants.{Free, Spent}
use Rattle.alp_base.specs.declared.faults.Sizes.{Sizes}
use Rattle.alp_base.specs.declared.faults.VaultFault.{VaultFault}
use Rattle.alp_base.specs.declared.faults.VaultFault.TheVariants as vault_fault
use Rattle.alp_fields.specs.Forms.{whole}
use Rattle.alp_fields.specs.ClockNote.{clock_name, clock_form, clock_in, clock_kept, no_clock}
use Rattle.alp_fields.specs.declared.clock_note.ClockNote.{ClockNote}
use Rattle.alp_fields.proofs.ClockLemmas.{clock_within}
use Rattle.alp_calls.specs.Looks.{IsLeft, Looks}
use Rattle.alp_vault.specs.Contents.{Contents}
use Rattle.alp_vault.specs.Vault.{IsSameVault}
use Rattle.alp_vault.specs.declared.vault.Vault.{Ghosts}
use Rattle.alp_regain.specs.Together.{clock_before, AreNotesTogether, AreTogether}
use Rattle.alp_node.specs.Downs.{IsLeftOrRaised, HasRegained, IsNext, HasNextCause, HasRaiseCause, IsRecovered, IsUnrecovered, IsPoweredOff, HasBegunEpoch, HasNotBegun, next_clock}
use Rattle.alp_node.specs.Durable.{Leaves, Besides}
use Rattle.alp_node.specs.Found.{FindsAll, GoApart, WasNotFound, look_in}
use Rattle.alp_node.specs.Halts.{Ends}
use Rattle.alp_node.specs.Starts.{PutsClock, with_clock}
use Rattle.alp_node.specs.declared.found.Found.{Found}
use Rattle.alp_node.specs.declared.start.StartFault.{StartFault}
use Rattle.alp_node.specs.declared.start.StartFault.TheVariants as start_fault
use Rattle.alp_node.specs.declared.stored.StoreFault.{StoreFault}
use Rattle.alp_node.specs.declared.stored.StoreFault.TheVariants as store_fault
use Rattle.alp_node.proofs.StartLemmas.{before_less, unreadable, found_of}
use Rattle.alp_node.proofs.StoreLemmas.{ends_later}

-- an allowance that is none is not spent
pub still_free : (old new : Allowance) → old ≡ Free → Spends old new → new ≡ Free
still_free old new is spends = subst (λ (a : Allowance). Spends a new) is spends

-- ---- the note that is found

-- a note that cannot be read goes with none
pub not_read : {V : Type 0} (G : Ghosts V) (last : ℕ) (v : V) (value : List ℕ) → map.get (G.held v).notes clock_name ≡ Some value → whole clock_form value ≡ None → HasNextCause G last v start_fault.BadNote
not_read G last v value there none = record {
  told = λ told together. unreadable (G.server v) (G.servers v) (G.held v).notes value there none together.notes_alone.format;
  alone = λ no alone. unreadable (G.server v) (G.servers v) (G.held v).notes value there none alone.format;
}

-- and one that is read has the clock
pub next_noted : {V : Type 0} (G : Ghosts V) (last : ℕ) (v : V) (value : List ℕ) (kept : ClockNote) → map.get (G.held v).notes clock_name ≡ Some value → whole clock_form value ≡ Some kept
    → IsNext G last v (record { epoch = last + 1; clock = kept.clock })
next_noted G last v value kept there is =
    let same : clock_kept (G.held v).notes ≡ kept = ap clock_in there ∙ ap (λ (o : Option ClockNote). unwrap_or o no_clock) is in
    record { next = λ i. record { epoch = last + 1; clock = (sym same i).clock }; within = clock_within value kept is }

-- what was noted was noted before that epoch
pub next_later : (last : ℕ) (held : Contents) (clock : ClockNote) → clock ≡ next_clock last held → (clock_before clock.epoch held.notes).epoch < clock.epoch
next_later last held clock next = before_less (clock_kept held.notes).epoch clock.epoch (let at : clock.epoch ≡ last + 1 = ap (λ (c : ClockNote). c.epoch) next in omega (arith, at))

-- ---- a look, and one write

module _ {V : Type 0} (G : Ghosts V) (server servers last : ℕ) (old : V) where
  -- a vault that was not written
  pub idle_leaves : Leaves G old old (IsLeftOrRaised G server servers last old)
  idle_leaves = record { crash = λ c here. inl here; time = record { each = λ start c was. inl was } }

  -- one that was looked at
  pub looked_leaves : (mid : V) → IsLeft G old mid → Leaves G old mid (IsLeftOrRaised G server servers last old)
  looked_leaves mid left = record {
    crash = λ c here. inl (left.crash c here);
    time = record { each = λ start c was. ⊎_elim (λ before. inl before) (λ now. inr (inl now)) (left.time.each start c was) };
  }

  -- one that was written once behind that
  pub written_leaves : (mid new : V) (k : ClockNote) → last < 4294967295 → IsLeft G old mid → G.may_leave old (G.held old) → k ≡ next_clock last (G.held old) → AreNotesTogether server servers k.epoch (G.volume old).area (G.held old).notes
      → Leaves G mid new (Besides G mid (λ c. c ≡ with_clock (G.held mid) k)) → Leaves G old new (IsLeftOrRaised G server servers last old)
  written_leaves mid new k low left as_held next alone h = record {
    crash = λ c here. seen c (h.crash c here);
    time = record {
      each = λ start c was. ⊎_elim
          (λ before. ⊎_elim (λ older. inl older) (λ now. inr (inl now)) (left.time.each start c before))
          (λ now. inr (seen c now)) (h.time.each start c was);
    };
  }
    where
      seen : (c : Contents) → Besides G mid (λ x. x ≡ with_clock (G.held mid) k) c → IsLeftOrRaised G server servers last old c
      seen c (inl before) = inl (left.crash c before)
      seen c (inr (inl same)) = inl (subst (G.may_leave old) (sym (same ∙ left.contents)) as_held)
      seen c (inr (inr is)) = inr (
        G.held old,
        low,
        as_held,
        subst (λ (e : ℕ). AreNotesTogether server servers e (G.volume old).area (G.held old).notes) (ap (λ (x : ClockNote). x.epoch) next) alone,
        is ∙ (λ i. with_clock (left.contents i) (next i)),
      )

-- ---- a recovery, and what comes behind it

apart_as : (t u : Bool) (a b c d e : ℕ) (s z : Sizes) (held : Contents) → t ≡ u → a ≡ b → c ≡ d → s ≡ z → GoApart t a c e s held → GoApart u b d e z held
apart_as t u a b c d e s z held one two three four h =
    subst (λ (x : Bool). GoApart x b d e z held) one (subst (λ (x : ℕ). GoApart t x d e z held) two (subst (λ (x : ℕ). GoApart t a x e z held) three (subst (λ (x : Sizes). GoApart t a c e x held) four h)))

module _ {V : Type 0} (G : Ghosts V) (server servers last : ℕ) (old mid : V) (same : IsSameVault G.tells G.volume G.server G.servers old mid) (no_more : NoMore (G.may_leave old) (G.may_leave mid)) where
  widen : (c : Contents) → IsLeftOrRaised G server servers last mid c → IsLeftOrRaised G server servers last old c
  widen c (inl before) = inl (no_more c before)
  widen c (inr (found, low, before, notes, is)) = inr (found, low, no_more found before, subst (λ (s : Sizes). AreNotesTogether server servers (last + 1) s.area found.notes) same.sizes notes, is)

  pub both_leave : (new : V) → Adds G.left_since old mid (G.may_leave mid) → Leaves G mid new (IsLeftOrRaised G server servers last mid) → Leaves G old new (IsLeftOrRaised G server servers last old)
  both_leave new first then = record {
    crash = λ c here. widen c (then.crash c here);
    time = record {
      each = λ start c was.
          ⊎_elim (λ before. ⊎_elim (λ older. inl older) (λ here. inr (inl (no_more c here))) (first.each start c before)) (λ now. inr (widen c now)) (then.time.each start c was);
    };
  }

  pub both_caused : (new : V) (f : StartFault) → last < 4294967295 → G.faults mid ≡ G.faults old → HasRaiseCause G last mid new f → HasRaiseCause G last old new f
  both_caused new (start_fault.Vault f) low counted h = (
    subst (λ (n : ℕ). HasFaultCause n (G.faults new) (G.allowance new) f) counted h.0,
    (λ told. h.1 (subst IsTrue (sym same.telling) told)),
    subst (λ (n : ℕ). n ≤ G.faults new) counted h.2,
    (λ memory. h.3 memory ∙ counted),
  )
  both_caused new start_fault.BadNote low counted h = (
    h.0 ∙ counted,
    λ told. (
        let bad = h.1 (subst IsTrue (sym same.telling) told) in
        (bad.0, no_more bad.0 bad.1, apart_as (G.tells mid) (G.tells old) (G.server mid) (G.server old) (G.servers mid) (G.servers old) (last + 1) (G.volume mid) (G.volume old) bad.0 same.telling same.number same.of_all same.sizes bad.2)
        ),
  )
  both_caused new start_fault.EpochEnd low counted h = (let end : last ≡ 4294967295 = h.0 in absurd (omega (arith, end, low)))

-- the recovery was refused
module _ {V : Type 0} (G : Ghosts V) (server servers last : ℕ) (old new : V) where
  pub refused_leaves : NoMore (G.may_leave old) (G.may_leave new) → Adds G.left_since old new (G.may_leave old) → Leaves G old new (IsLeftOrRaised G server servers last old)
  refused_leaves no_more adds = record {
    crash = λ c here. inl (no_more c here);
    time = record { each = λ start c was. ⊎_elim (λ before. inl before) (λ here. inr (inl here)) (adds.each start c was) };
  }

  pub refused_caused : (f : VaultFault) → HasFaultCause (G.faults old) (G.faults new) (G.allowance new) f → (IsTrue (G.tells old) → IsOfVolume f) → G.faults old ≤ G.faults new → IsCountKept (G.faults old) (G.faults new) f
      → HasRaiseCause G last old new (start_fault.Vault f)
  refused_caused f cause volume later still = (cause, volume, later, (λ memory. subst (IsCountKept (G.faults old) (G.faults new)) memory still))

-- ---- each step whole

-- what no call changes stays where there was none, and two calls do not change it
never_changed : {V : Type 0} (G : Ghosts V) (v : V) → IsSameVault G.tells G.volume G.server G.servers v v
never_changed G v = record { telling = refl; sizes = refl; number = refl; of_all = refl }

same_twice : {V : Type 0} (G : Ghosts V) (old mid new : V) → IsSameVault G.tells G.volume G.server G.servers old mid → IsSameVault G.tells G.volume G.server G.servers mid new → IsSameVault G.tells G.volume G.server G.servers old new
same_twice G old mid new h k = record { telling = k.telling ∙ h.telling; sizes = k.sizes ∙ h.sizes; number = k.number ∙ h.number; of_all = k.of_all ∙ h.of_all }

-- want of memory has a cause in itself
memory_cause : {V : Type 0} (G : Ghosts V) (last : ℕ) (old new : V) → G.faults new ≡ G.faults old → HasRaiseCause G last old new (start_fault.Vault vault_fault.OutOfMemory)
memory_cause G last old new same = (record { failed = λ e. cc; stopped = λ e. cc }, (λ told. tt), omega (arith, same), (λ e. same))

-- a vault that was not touched, and does not serve
pub not_touched : {V : Type 0} (G : Ghosts V) (server servers last : ℕ) (old : V) (f : StartFault) → G.serves old ≡ false → G.allowance old ≡ Free → HasRaiseCause G last old old f → HasNotBegun G server servers last old old f
not_touched G server servers last old f rests free cause = record {
  rests = rests;
  same = never_changed G old;
  free = free;
  cause = cause;
  back = record { mid = old; same = never_changed G old; crash = λ told. idle_leaves G server servers last old; back = inl refl };
}

pub untouched_memory : {V : Type 0} (G : Ghosts V) (last : ℕ) (old : V) → HasRaiseCause G last old old (start_fault.Vault vault_fault.OutOfMemory)
untouched_memory G last old = memory_cause G last old old refl

-- a vault that serves is powered off: it came back from a call through which nothing was written
module _ {V : Type 0} (G : Ghosts V) (server servers last : ℕ) (old mid new : V) (same : IsSameVault G.tells G.volume G.server G.servers old mid) (leaves : IsTrue (G.tells old) → Leaves G old mid (IsLeftOrRaised G server servers last old)) (off : IsPoweredOff G 0 mid new) where
  pub off_begun : (f : StartFault) → IsTrue (G.serves mid) → HasRaiseCause G last old new f → HasNotBegun G server servers last old new f
  off_begun f serving cause = record {
    rests = off.rests;
    same = same_twice G old mid new same off.same;
    free = off.free;
    cause = cause;
    back = record { mid = mid; same = same; crash = leaves; back = inr (serving, off) };
  }

-- there is no note to begin with
pub no_next : {V : Type 0} (G : Ghosts V) (server servers last : ℕ) (old new : V) (f : StartFault) → IsTrue (G.serves old) → (IsTrue (G.tells old) → G.may_leave old (G.held old)) → IsPoweredOff G 0 old new → HasNextCause G last old f → HasNotBegun G server servers last old new f
no_next G server servers last old new f serving as_held off why = off_begun G server servers last old old new (never_changed G old) (λ told. idle_leaves G server servers last old) off f serving (go f why)
  where
    go : (f : StartFault) → HasNextCause G last old f → HasRaiseCause G last old new f
    go (start_fault.Vault f) is = subst (λ (x : VaultFault). HasRaiseCause G last old new (start_fault.Vault x)) (sym is) (memory_cause G last old new off.faults)
    go start_fault.BadNote bad = (off.faults, λ told. (G.held old, as_held told, bad))
    go start_fault.EpochEnd is = absurd is

-- nothing was found in the notes
pub not_found : {V : Type 0} (G : Ghosts V) (server servers last epoch : ℕ) (old mid new : V) (f : StartFault) → epoch ≡ last + 1 → G.server old ≡ server → G.servers old ≡ servers → G.allowance old ≡ Free → (IsTrue (G.tells old) → G.may_leave old (G.held old)) → IsPoweredOff G 0 mid new
    → Looks G old mid (look_in {T = Found} (Err f)) → WasNotFound (G.tells old) server servers epoch (G.volume old) (G.held old) f → HasNotBegun G server servers last old new f
not_found G server servers last epoch old mid new f at number of_all free as_held off looked why =
    go f looked (found_of (G.tells old) (G.server old) (G.servers old) server servers epoch (last + 1) (G.volume old) (G.held old) f number of_all at why)
  where
    ended : (g : StartFault) → IsLeft G old mid → IsTrue (G.serves mid) → HasRaiseCause G last old new g → HasNotBegun G server servers last old new g
    ended g left serving cause = off_begun G server servers last old mid new left.same (λ told. looked_leaves G server servers last old mid left) off g serving cause

    spent_not : (a : Allowance) → a ≡ Spent → a ≡ Free → ⊥
    spent_not a s f = by (sym s ∙ f)
      where
        by : Spent ≡ Free → ⊥
        by wrong = cc

    go : (g : StartFault) → Looks G old mid (look_in {T = Found} (Err g)) → WasNotFound (G.tells old) (G.server old) (G.servers old) (last + 1) (G.volume old) (G.held old) g → HasNotBegun G server servers last old new g
    go (start_fault.Vault vault_fault.Failed) l h = ended (start_fault.Vault vault_fault.Failed) l.0 l.1 (
      record { failed = λ e. subst (Rose (G.faults old)) (sym off.faults) l.2; stopped = λ e. cc },
      (λ told. tt),
      (let more : G.faults old ≤ G.faults mid = l.0.later in omega (arith, more, off.faults)),
      (λ e. cc),
    )
    go (start_fault.Vault vault_fault.Stopped) l h = absurd (spent_not (G.allowance mid) l.2 (l.0.allowed ∙ free))
    go (start_fault.Vault vault_fault.OutOfMemory) l h = ended (start_fault.Vault vault_fault.OutOfMemory) l.0 l.1 (memory_cause G last old new (off.faults ∙ l.2))
    go (start_fault.Vault (vault_fault.NotAVolume found)) l h = absurd h
    go (start_fault.Vault (vault_fault.Damaged place)) l h = absurd h
    go start_fault.BadNote l h = ended start_fault.BadNote l.0 l.1 (off.faults ∙ l.2, λ told. (G.held old, as_held told, h))
    go start_fault.EpochEnd l h = absurd h

-- ---- the note is put behind the look

module _ {V : Type 0} (G : Ghosts V) (server servers last : ℕ) (old mid new : V) (clock : ClockNote) (low : last < 4294967295) (next : IsNext G last old clock) (as_held : IsTrue (G.tells old) → G.may_leave old (G.held old)) (left : IsLeft G old mid) (count : G.faults mid ≡ G.faults old) (free : G.allowance old ≡ Free)
    (alone : AreNotesTogether server servers clock.epoch (G.volume old).area (G.held old).notes) where
  told_mid : IsTrue (G.tells old) → IsTrue (G.tells mid)
  told_mid told = subst IsTrue (sym left.same.telling) told

  put_leaves : (r : Result (Unit {0}) StoreFault) → PutsClock G mid new clock r → IsTrue (G.tells old) → Leaves G old new (IsLeftOrRaised G server servers last old)
  put_leaves r put told = written_leaves G server servers last old mid new clock low left (as_held told) next.next alone (put.leaves (told_mid told))

  put_same : (r : Result (Unit {0}) StoreFault) → PutsClock G mid new clock r → IsSameVault G.tells G.volume G.server G.servers old new
  put_same r put = same_twice G old mid new left.same put.same

  put_free : (r : Result (Unit {0}) StoreFault) → PutsClock G mid new clock r → G.allowance new ≡ Free
  put_free r put = still_free (G.allowance mid) (G.allowance new) (left.allowed ∙ free) put.spends

  -- it is put
  pub raised_whole : (f : Found) → FindsAll (G.tells old) (G.held old).cells server clock.epoch (G.held old).notes f → (IsTrue (G.tells old) → AreTogether server servers clock.epoch (G.volume old) (G.held old).cells (G.held old).notes) → PutsClock G mid new clock (Ok tt)
      → HasBegunEpoch G server servers last old new clock f
  raised_whole f finds together put = record {
    low = low;
    found = G.held old;
    serving = put.ended.0;
    next = next.next;
    within = next.within;
    alone = alone;
    finds = finds;
    notes = notes_now;
    regained = λ told. (
        let cells : (G.held new).cells ≡ (G.held old).cells = put.cells (told_mid told) ∙ ap (λ (c : Contents). c.cells) left.contents in
        record { left = as_held told; together = together told; held = (λ i. record { cells = cells i; notes = notes_now i }) }
        );
    same = put_same (Ok tt) put;
    free = put_free (Ok tt) put;
    counted = put.ended.1 ∙ count;
    crash = put_leaves (Ok tt) put;
  }
    where
      notes_now : (G.held new).notes ≡ (with_clock (G.held old) clock).notes
      notes_now = put.notes ∙ ap (λ (c : Contents). map.insert c.notes clock_name (clock_form.spell clock)) left.contents

  -- the write failed or was stopped
  pub not_raised : (s : StoreFault) (f : VaultFault) → PutsClock G mid new clock (Err s) → G.serves new ≡ false → (f ≡ vault_fault.Failed → s ≡ store_fault.Failed) → (f ≡ vault_fault.Stopped → s ≡ store_fault.Stopped) → (f ≡ vault_fault.OutOfMemory → s ≡ store_fault.OutOfMemory) → IsOfVolume f
      → HasNotBegun G server servers last old new (start_fault.Vault f)
  not_raised s f put rests failed stopped memory volume = record {
    rests = rests;
    same = put_same (Err s) put;
    free = put_free (Err s) put;
    cause = (
      record {
        failed = λ e. subst (λ (n : ℕ). Rose n (G.faults new)) count (ended_as store_fault.Failed (failed e)).1;
        stopped = λ e. (ended_as store_fault.Stopped (stopped e)).1;
      },
      (λ told. volume),
      subst (λ (n : ℕ). n ≤ G.faults new) count (ends_later G mid new s put.ended),
      (λ e. (ended_as store_fault.OutOfMemory (memory e)).1.faults ∙ count),
    );
    back = record { mid = new; same = put_same (Err s) put; crash = put_leaves (Err s) put; back = inl refl };
  }
    where
      ended_as : (x : StoreFault) → s ≡ x → Ends {T = Unit {0}} G mid new (Err x)
      ended_as x is = subst (λ (y : StoreFault). Ends {T = Unit {0}} G mid new (Err y)) is put.ended

  -- there was no memory for it, and the vault is powered off
  pub not_written : (off : V) (s : StoreFault) → s ≡ store_fault.OutOfMemory → PutsClock G mid new clock (Err s) → IsPoweredOff G 0 new off → HasNotBegun G server servers last old off (start_fault.Vault vault_fault.OutOfMemory)
  not_written off s is put rested =
      let ended : Ends {T = Unit {0}} G mid new (Err store_fault.OutOfMemory) = subst (λ (y : StoreFault). Ends {T = Unit {0}} G mid new (Err y)) is put.ended in
      off_begun G server servers last old new off (put_same (Err s) put) (put_leaves (Err s) put) rested (start_fault.Vault vault_fault.OutOfMemory) ended.0 (memory_cause G last old off (rested.faults ∙ ended.1.faults ∙ count))

-- ---- recovered, and raised or not

pub begun_whole : {V : Type 0} (G : Ghosts V) (server servers last : ℕ) (old mid new : V) (clock : ClockNote) (f : Found) → IsRecovered G old mid → HasBegunEpoch G server servers last mid new clock f → HasBegunEpoch G server servers last old new clock f
begun_whole G server servers last old mid new clock f r h = record {
  low = h.low;
  found = h.found;
  serving = h.serving;
  next = h.next;
  within = h.within;
  alone = subst (λ (s : Sizes). AreNotesTogether server servers clock.epoch s.area h.found.notes) r.same.sizes h.alone;
  finds = subst (λ (t : Bool). FindsAll t h.found.cells server clock.epoch h.found.notes f) r.same.telling h.finds;
  notes = h.notes;
  regained = λ told. (
      let x : HasRegained G server servers mid new h.found clock = h.regained (subst IsTrue (sym r.same.telling) told) in
      record { left = r.no_more h.found x.left; together = subst (λ (s : Sizes). AreTogether server servers clock.epoch s h.found.cells h.found.notes) r.same.sizes x.together; held = x.held }
      );
  same = same_twice G old mid new r.same h.same;
  free = h.free;
  counted = h.counted ∙ r.counted;
  crash = λ told. both_leave G server servers last old mid r.same r.no_more new r.time (h.crash (subst IsTrue (sym r.same.telling) told));
}

pub not_begun_whole : {V : Type 0} (G : Ghosts V) (server servers last : ℕ) (old mid new : V) (f : StartFault) → last < 4294967295 → IsRecovered G old mid → HasNotBegun G server servers last mid new f → HasNotBegun G server servers last old new f
not_begun_whole G server servers last old mid new f low r h = record {
  rests = h.rests;
  same = same_twice G old mid new r.same h.same;
  free = h.free;
  cause = both_caused G server servers last old mid r.same r.no_more new f low r.counted h.cause;
  back = record {
    mid = h.back.mid;
    same = same_twice G old mid h.back.mid r.same h.back.same;
    crash = λ told. both_leave G server servers last old mid r.same r.no_more h.back.mid r.time (h.back.crash (subst IsTrue (sym r.same.telling) told));
    back = h.back.back;
  };
}

pub unrecovered_whole : {V : Type 0} (G : Ghosts V) (server servers last : ℕ) (old new : V) (f : VaultFault) → IsUnrecovered G old new f → HasNotBegun G server servers last old new (start_fault.Vault f)
unrecovered_whole G server servers last old new f h = record {
  rests = h.rests;
  same = h.same;
  free = h.free;
  cause = refused_caused G server servers last old new f h.cause h.volume h.later h.still;
  back = record { mid = new; same = h.same; crash = λ told. refused_leaves G server servers last old new h.no_more h.time; back = inl refl };
}

-- it is recovered, or not
pub recovered_now : {V : Type 0} (G : Ghosts V) (old new : V) → IsTrue (G.serves new) → (IsTrue (G.tells old) → G.may_leave old (G.held new)) → NoMore (G.may_leave old) (G.may_leave new) → Adds G.left_since old new (G.may_leave new)
    → IsSameVault G.tells G.volume G.server G.servers old new → G.allowance old ≡ Free → Spends (G.allowance old) (G.allowance new) → G.faults new ≡ G.faults old → IsRecovered G old new
recovered_now G old new serving left no_more time same free spends counted = record {
  serving = serving;
  left = left;
  no_more = no_more;
  time = time;
  same = same;
  free = still_free (G.allowance old) (G.allowance new) free spends;
  counted = counted;
}

pub not_recovered : {V : Type 0} (G : Ghosts V) (old new : V) (f : VaultFault) → G.serves new ≡ false → NoMore (G.may_leave old) (G.may_leave new) → Adds G.left_since old new (G.may_leave old) → IsSameVault G.tells G.volume G.server G.servers old new
    → G.allowance old ≡ Free → Spends (G.allowance old) (G.allowance new) → G.faults old ≤ G.faults new → HasFaultCause (G.faults old) (G.faults new) (G.allowance new) f → IsCountKept (G.faults old) (G.faults new) f → (IsTrue (G.tells old) → IsOfVolume f)
    → IsUnrecovered G old new f
not_recovered G old new f rests no_more time same free spends later cause still volume = record {
  rests = rests;
  no_more = no_more;
  time = time;
  same = same;
  free = still_free (G.allowance old) (G.allowance new) free spends;
  cause = cause;
  later = later;
  still = still;
  volume = volume;
}

-- whatever comes behind it
pub raise_whole : {V : Type 0} (G : Ghosts V) (server servers last : ℕ) (old mid : V) (r : Result (V × ClockNote × Found) (V × StartFault)) → last < 4294967295 → IsRecovered G old mid
    → MatchResult r (λ x. HasBegunEpoch G server servers last mid x.0 x.1 x.2) (λ e. HasNotBegun G server servers last mid e.0 e.1) → MatchResult r (λ x. HasBegunEpoch G server servers last old x.0 x.1 x.2) (λ e. HasNotBegun G server servers last old e.0 e.1)
raise_whole G server servers last old mid (Ok x) low recovered h = begun_whole G server servers last old mid x.0 x.1 x.2 recovered h
raise_whole G server servers last old mid (Err e) low recovered h = not_begun_whole G server servers last old mid e.0 e.1 low recovered h

-- there was no memory for the entry, or there is no next epoch
pub no_room : {V : Type 0} (G : Ghosts V) (server servers last : ℕ) (old : V) → G.serves old ≡ false → G.allowance old ≡ Free → HasNotBegun G server servers last old old (start_fault.Vault vault_fault.OutOfMemory)
no_room G server servers last old rests free = not_touched G server servers last old (start_fault.Vault vault_fault.OutOfMemory) rests free (untouched_memory G last old)

pub no_epoch : {V : Type 0} (G : Ghosts V) (server servers last : ℕ) (old : V) → G.serves old ≡ false → G.allowance old ≡ Free → last ≡ 4294967295 → HasNotBegun G server servers last old old start_fault.EpochEnd
no_epoch G server servers last old rests free end = not_touched G server servers last old start_fault.EpochEnd rests free (end, refl)
