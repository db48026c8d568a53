use Rattle.std.proofs.Common.{◌≡◌, ◌≤◌, inl, refl, sym, ◌∙◌, ap, subst}
use Rattle.alp_base.specs.Crashes.{LeavesOnly}
use Rattle.alp_disk.proofs.Moments.{leaves_only, nothing_added}
use Rattle.alp_batch.specs.declared.batch.Batch.{Batch}
use Rattle.alp_record.proofs.Bodies.{on_ok}
use Rattle.alp_base.specs.Notes.{Notes}
use Rattle.alp_wal.specs.State.{State, Suits, applied}
use Rattle.alp_wal.specs.Live.{AreLive, notes_pages, BothFit}
use Rattle.alp_wal.specs.Reading.{home_pages}
use Rattle.alp_wal.specs.Wal.{shown, disk_of, anchor_of, end_of, index_of, notes_of, is_dead, state_of, BeforeOrAfter}
use Rattle.alp_wal.specs.Calls.{HasCommitted, HasNotCommitted}
use Rattle.alp_wal.proofs.Outcomes.{becomes_from, becomes_stays, on_error, committed_as, stays_as}
use Rattle.alp_wal.proofs.Commits.{crash_before, known_kept, not_both, on_err}
use Rattle.alp_wal.proofs.wal.Wal.commit.Goals as goal

pub returns-then-not-both_fit-clause-before_or_after : goal.returns-then-not-both_fit-clause-before_or_after
returns-then-not-both_fit-clause-before_or_after g c told alive =
    let l = g.D.Disk.left_since in
    let old = c.args.self.now in
    let known = c.requires.known told alive in
    let n = g.D.Disk.size (disk_of old) in
    let image = g.D.Disk.seen (disk_of old) in
    let P = BeforeOrAfter (anchor_of old).server (anchor_of old).servers n (state_of old image) c.args.batch.now in
    leaves_only l _ _ P (λ x was. crash_before n (anchor_of old) image known.bodies (state_of old image) c.args.batch.now (g.D.Disk.may_leave (disk_of old)) known.by known.durable x (g.met.D.Disk.only_now (disk_of old) x was)) (nothing_added l (disk_of old) P)

pub returns-in_err-prepared-clause-before_or_after : goal.returns-in_err-prepared-clause-before_or_after
returns-in_err-prepared-clause-before_or_after g c told alive =
    let l = g.D.Disk.left_since in
    let old = c.args.self.now in
    let known = c.requires.known told alive in
    let n = g.D.Disk.size (disk_of old) in
    let image = g.D.Disk.seen (disk_of old) in
    let P = BeforeOrAfter (anchor_of old).server (anchor_of old).servers n (state_of old image) c.args.batch.now in
    leaves_only l _ _ P (λ x was. crash_before n (anchor_of old) image known.bodies (state_of old image) c.args.batch.now (g.D.Disk.may_leave (disk_of old)) known.by known.durable x (g.met.D.Disk.only_now (disk_of old) x was)) (nothing_added l (disk_of old) P)

pub returns-in_err-prepared-clause-log : goal.returns-in_err-prepared-clause-log
returns-in_err-prepared-clause-log g c =
    let log = c.requires.log in
    let same = sym c.prepare.ensures.same in
    record {
      anchor = log.anchor;
      index = log.index;
      notes = subst AreLive same log.notes;
      fits = subst (λ (e : Notes). notes_pages e ≤ (anchor_of c.args.self.now).sizes.area) same log.fits;
      begun = log.begun;
      inside = log.inside;
    }

pub returns-in_err-prepared-clause-known : goal.returns-in_err-prepared-clause-known
returns-in_err-prepared-clause-known g c told alive = known_kept refl refl (λ x left. left) refl refl (sym c.prepare.ensures.same) refl (c.requires.known told alive)

pub store-requires-clause-log : goal.store-requires-clause-log
store-requires-clause-log g c =
    let log = c.requires.log in
    let same = sym c.prepare.ensures.same in
    record {
      anchor = log.anchor;
      index = log.index;
      notes = subst AreLive same log.notes;
      fits = subst (λ (e : Notes). notes_pages e ≤ (anchor_of c.args.self.now).sizes.area) same log.fits;
      begun = log.begun;
      inside = log.inside;
    }

pub store-requires-clause-known : goal.store-requires-clause-known
store-requires-clause-known g c told = known_kept refl refl (λ x left. left) refl refl (sym c.prepare.ensures.same) refl (c.requires.known told c.if-self.false)

pub store-requires-clause-suits : goal.store-requires-clause-suits
store-requires-clause-suits g c =
    subst (λ (t : Notes × Batch). Suits (anchor_of c.args.self.now).sizes.home t.0 t.1) (λ i. (sym c.prepare.ensures.same i, sym c.in_ok-prepared.ensures.batch i)) c.requires.suits

pub store-requires-clause-both : goal.store-requires-clause-both
store-requires-clause-both g c =
    subst (λ (t : Notes × Batch). BothFit (anchor_of c.args.self.now).sizes.area t.0 t.1) (λ i. (sym c.prepare.ensures.same i, sym c.in_ok-prepared.ensures.batch i)) (c.both_fit.ensures.0 c.if-not-both_fit.false)

pub returns-clause-before_or_after : goal.returns-clause-before_or_after
returns-clause-before_or_after g c told alive =
    let old = c.args.self.now in
    let image = g.D.Disk.seen (disk_of old) in
    let same = c.prepare.ensures.same in
    let shows : ◌≡◌ {A = State} (record { pages = shown (home_pages image (anchor_of old)) (index_of old); notes = c.prepare.new.notes.notes }) (state_of old image) = λ i. record { pages = shown (home_pages image (anchor_of old)) (index_of old); notes = same i } in
    subst (λ (t : State × Batch). LeavesOnly g.D.Disk.left_since (disk_of old) (disk_of c.store.new.self) (BeforeOrAfter (anchor_of old).server (anchor_of old).servers (g.D.Disk.size (disk_of old)) t.0 t.1))
    (λ i. (shows i, c.in_ok-prepared.ensures.batch i)) (c.store.ensures.before_or_after told)

pub returns-in_err-prepared-clause-becomes : goal.returns-in_err-prepared-clause-becomes
returns-in_err-prepared-clause-becomes g c told =
    let old = c.args.self.now in
    let image = g.D.Disk.seen (disk_of old) in
    let same = c.prepare.ensures.same in
    let shows : ◌≡◌ {A = State} (record { pages = shown (home_pages image (anchor_of old)) (index_of old); notes = c.prepare.new.notes.notes }) (state_of old image) = λ i. record { pages = shown (home_pages image (anchor_of old)) (index_of old); notes = same i } in
    becomes_stays c.from_residual.result _ _ _ c.from_residual.ensures.0 shows

pub returns-clause-becomes : goal.returns-clause-becomes
returns-clause-becomes g c told =
    let old = c.args.self.now in
    let image = g.D.Disk.seen (disk_of old) in
    let same = c.prepare.ensures.same in
    let shows : ◌≡◌ {A = State} (record { pages = shown (home_pages image (anchor_of old)) (index_of old); notes = c.prepare.new.notes.notes }) (state_of old image) = λ i. record { pages = shown (home_pages image (anchor_of old)) (index_of old); notes = same i } in
    becomes_from c.store.result _ _ _ _ _ shows (λ i. applied (shows i) (c.in_ok-prepared.ensures.batch i)) (c.store.ensures.becomes told)

pub returns-in_err-prepared-clause-stays : goal.returns-in_err-prepared-clause-stays
returns-in_err-prepared-clause-stays g c = on_error c.from_residual.result _ (record {
  volume = record { server = refl; servers = refl; sizes = refl };
  notes = c.prepare.ensures.same;
  fitting = λ fits. (refl, refl, refl);
  over = λ over. inl (refl, refl, refl);
})

pub returns-clause-made : goal.returns-clause-made
returns-clause-made g c = on_ok c.store.result _ _ (λ (made : HasCommitted _ _ _). committed_as _ _ _ _ _ refl refl refl c.prepare.ensures.same c.in_ok-prepared.ensures.batch made) c.store.ensures.made

pub returns-clause-stays : goal.returns-clause-stays
returns-clause-stays g c = on_err c.store.result _ _ (λ (stays : HasNotCommitted _ _ _). stays_as _ _ _ _ _ refl refl refl c.prepare.ensures.same c.in_ok-prepared.ensures.batch stays) c.store.ensures.stays

pub returns-clause-cause : goal.returns-clause-cause
returns-clause-cause g c =
    let log = c.store.ensures.cause.log in
    record {
      log = record {
        later = log.later;
        failed = log.failed;
        stopped = log.stopped;
        no_fault = log.no_fault;
        dead_if_failed = log.dead_if_failed;
        dead_if_stopped = log.dead_if_stopped;
        alive = log.alive;
        dead = (λ dead. absurd (not_both (log.dead.0 dead) c.if-self.false), λ dead. absurd (not_both dead c.if-self.false));
        dead_stays = λ dead. absurd (not_both (log.dead.0 dead) c.if-self.false);
      };
      full = λ alive. (λ full. absurd (c.store.ensures.cause.never_full full), λ no. absurd (no (c.both_fit.ensures.0 c.if-not-both_fit.false)));
      full_stays = λ full. absurd (c.store.ensures.cause.never_full full);
      memory = λ want.
          let same = c.store.ensures.cause.memory want in
          record {
            disk = ap (λ w. disk_of w) same;
            anchor = ap (λ w. anchor_of w) same;
            index = ap (λ w. index_of w) same;
            notes = ap (λ w. notes_of w) same ∙ c.prepare.ensures.same;
            end = ap (λ w. end_of w) same;
            dead = ap (λ w. is_dead w) same;
          };
    }
