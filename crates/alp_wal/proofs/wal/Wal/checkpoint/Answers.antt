use Rattle.std.proofs.Common.{◌≡◌, ◌≤◌, ℕ, List, [], ◌∷◌, length, IsTrue, refl, sym, ◌∙◌, ap, subst, arith, None}
use Rattle.std.specs.Prelude.{Option}
use Rattle.std.proofs.lemmas.List.{length-replicate}
use Rattle.alp_disk.proofs.Moments.{adds_weaker, leaves_only, nothing_added}
use Rattle.alp_anchor.specs.Anchor.{IsSound}
use Rattle.alp_anchor.specs.declared.anchor.Anchor.{Anchor}
use Rattle.alp_record.specs.Record.{body_pages, next_of, behind}
use Rattle.alp_notes.specs.Held.{Held}
use Rattle.alp_wal.specs.State.{State}
use Rattle.alp_wal.specs.Live.{AreLive, notes_pages}
use Rattle.alp_wal.specs.Reading.{area_first, area_end, home_pages, Reads}
use Rattle.alp_wal.specs.Home.{Index}
use Rattle.alp_wal.specs.Wal.{shown, no_index, Logs, disk_of, anchor_of, index_of, notes_of, state_of}
use Rattle.alp_wal.specs.Checkpoint.{turned}
use Rattle.alp_wal.proofs.Lives.{notes_again}
use Rattle.alp_wal.proofs.Turns.{turned_sound}
use Rattle.alp_wal.proofs.Checkpoints.{reads_at, moving_reads, moving_shows, moved_by, moved_logs, moved_state}
use Rattle.alp_wal.proofs.Commits.{reads_by_of, log_kept, not_both, same_volume, shown_at_last}
use Rattle.alp_wal.proofs.wal.Wal.checkpoint.Goals as goal

pub move_log-requires-clause-room : goal.move_log-requires-clause-room
move_log-requires-clause-room g c = omega (arith, ap body_pages (ap length c.as_slice.ensures ∙ c.in_ok-body.ensures.long), c.requires.log.fits)

pub move_log-requires-clause-counts : goal.move_log-requires-clause-counts
move_log-requires-clause-counts g c told = (c.requires.known told c.if-self.false).by.counts

pub move_log-requires-clause-known : goal.move_log-requires-clause-known
move_log-requires-clause-known g c told = (c.requires.known told c.if-self.false).durable

pub returns-in_err-body-clause-any_moment : goal.returns-in_err-body-clause-any_moment
returns-in_err-body-clause-any_moment g c told alive =
    let l = g.D.Disk.left_since in
    let old = c.args.self.now in
    let known = c.requires.known told alive in
    let n = g.D.Disk.size (disk_of old) in
    let image = g.D.Disk.seen (disk_of old) in
    let a = anchor_of old in
    leaves_only l _ _ (λ x. Reads a.server a.servers n x (state_of old image)) (λ x was. reads_at n a image known.bodies (state_of old image) (g.D.Disk.may_leave (disk_of old)) known.by known.durable x (g.met.D.Disk.only_now (disk_of old) x was))
    (nothing_added l (disk_of old) _)

pub returns-in_err-move_log-clause-any_moment : goal.returns-in_err-move_log-clause-any_moment
returns-in_err-move_log-clause-any_moment g c told alive =
    let l = g.D.Disk.left_since in
    let old = c.args.self.now in
    let log = c.requires.log in
    let known = c.requires.known told alive in
    let n = g.D.Disk.size (disk_of old) in
    let image = g.D.Disk.seen (disk_of old) in
    let a = anchor_of old in
    leaves_only l _ _ (λ x. Reads a.server a.servers n x (state_of old image)) (λ x was. reads_at n a image known.bodies (state_of old image) (g.D.Disk.may_leave (disk_of old)) known.by known.durable x (g.met.D.Disk.only_now (disk_of old) x was))
    (adds_weaker l _ _ _ _ (c.move_log.ensures.any_moment told)
    (moving_reads n a image (index_of old) (notes_of old) known.bodies log.anchor (omega (arith, known.ends, log.inside)) known.logged known.by c.as_slice.result.now (c.as_slice.ensures ∙ c.in_ok-body.ensures.spelled) c.in_ok-body.ensures.fits log.notes.few (notes_again (notes_of old))))

pub returns-clause-any_moment : goal.returns-clause-any_moment
returns-clause-any_moment g c told alive =
    let l = g.D.Disk.left_since in
    let old = c.args.self.now in
    let log = c.requires.log in
    let known = c.requires.known told alive in
    let n = g.D.Disk.size (disk_of old) in
    let image = g.D.Disk.seen (disk_of old) in
    let a = anchor_of old in
    leaves_only l _ _ (λ x. Reads a.server a.servers n x (state_of old image)) (λ x was. reads_at n a image known.bodies (state_of old image) (g.D.Disk.may_leave (disk_of old)) known.by known.durable x (g.met.D.Disk.only_now (disk_of old) x was))
    (adds_weaker l _ _ _ _ (c.move_log.ensures.any_moment told)
    (moving_reads n a image (index_of old) (notes_of old) known.bodies log.anchor (omega (arith, known.ends, log.inside)) known.logged known.by c.as_slice.result.now (c.as_slice.ensures ∙ c.in_ok-body.ensures.spelled) c.in_ok-body.ensures.fits log.notes.few (notes_again (notes_of old))))

pub returns-in_err-move_log-clause-log : goal.returns-in_err-move_log-clause-log
returns-in_err-move_log-clause-log g c =
    let moved = c.move_log.ensures in
    let err = c.in_err-move_log.ensures in
    log_kept (sym moved.size) (sym err.stays_anchor) (sym err.stays_index) (sym moved.notes) (sym err.stays_end) c.requires.log

pub returns-in_err-move_log-clause-known : goal.returns-in_err-move_log-clause-known
returns-in_err-move_log-clause-known g c told alive = absurd (not_both c.in_err-move_log.ensures.halted alive)

pub returns-in_err-move_log-clause-volume : goal.returns-in_err-move_log-clause-volume
returns-in_err-move_log-clause-volume g c = same_volume (anchor_of c.args.self.now) (anchor_of c.move_log.new.self) c.in_err-move_log.ensures.stays_anchor

pub returns-clause-volume : goal.returns-clause-volume
returns-clause-volume g c =
    let same = c.in_ok-move_log.ensures.anchor in
    record { server = ap (λ (a : Anchor). a.server) same; servers = ap (λ (a : Anchor). a.servers) same; sizes = ap (λ (a : Anchor). a.sizes) same }

pub returns-clause-turned : goal.returns-clause-turned
returns-clause-turned g c =
    let ok = c.in_ok-move_log.ensures in
    (ok.anchor, ok.index ∙ ap (λ k. no_index k) c.requires.log.index, omega (arith, ap area_end ok.anchor, ok.end, ap body_pages (ap length c.as_slice.ensures ∙ c.in_ok-body.ensures.long), c.requires.log.fits))

pub returns-clause-log : goal.returns-clause-log
returns-clause-log g c =
    let old = c.args.self.now in
    let new = c.move_log.new.self in
    let log = c.requires.log in
    let moved = c.move_log.ensures in
    let ok = c.in_ok-move_log.ensures in
    let n = g.D.Disk.size (disk_of old) in
    let pages = ap body_pages (ap length c.as_slice.ensures ∙ c.in_ok-body.ensures.long) in
    record {
      anchor = subst (λ (t : ℕ × Anchor). IsSound t.0 t.1) (λ i. (sym moved.size i, sym ok.anchor i)) (turned_sound n (anchor_of old) log.anchor);
      index = ap length ok.index ∙ length-replicate {A = Option (List ℕ)} (length (index_of old)) None ∙ log.index ∙ ap (λ (a : Anchor). a.sizes.home) (sym ok.anchor);
      notes = subst (λ (h : Held). AreLive h.notes) (sym moved.notes) log.notes;
      fits = subst (λ (t : Held × Anchor). notes_pages t.0.notes ≤ t.1.sizes.area) (λ i. (sym moved.notes i, sym ok.anchor i)) log.fits;
      begun = omega (arith, ap area_first ok.anchor, ok.end);
      inside = omega (arith, ap area_end ok.anchor, ok.end, pages, log.fits);
    }

pub returns-clause-same : goal.returns-clause-same
returns-clause-same g c told =
    let old = c.args.self.now in
    let new = c.move_log.new.self in
    let log = c.requires.log in
    let known = c.requires.known told c.if-self.false in
    let ok = c.in_ok-move_log.ensures in
    let n = g.D.Disk.size (disk_of old) in
    let image = g.D.Disk.seen (disk_of old) in
    let seen = g.D.Disk.seen (disk_of new) in
    let a = anchor_of old in
    let index : index_of new ≡ no_index a.sizes.home = ok.index ∙ ap (λ k. no_index k) log.index in
    let notes : notes_of new ≡ notes_of old = ap (λ (h : Held). h.notes) c.move_log.ensures.notes in
    let anchor : anchor_of new ≡ turned a = ok.anchor in
    let shows : ◌≡◌ {A = State} (state_of new seen) (record { pages = shown (home_pages seen (turned a)) (no_index a.sizes.home); notes = notes_of old }) = λ i. record { pages = shown (home_pages seen (anchor i)) (index i); notes = notes i } in
    shows ∙ moved_state n a image (index_of old) (notes_of old) known.bodies log.anchor (omega (arith, known.ends, log.inside)) known.logged known.by c.as_slice.result.now (c.as_slice.ensures ∙ c.in_ok-body.ensures.spelled) c.in_ok-body.ensures.fits log.notes.few (notes_again (notes_of old)) seen (ok.moved told)

pub returns-clause-known : goal.returns-clause-known
returns-clause-known g c told_now alive_now =
    let old = c.args.self.now in
    let new = c.move_log.new.self in
    let told = subst IsTrue c.move_log.ensures.tells told_now in
    let log = c.requires.log in
    let known = c.requires.known told c.if-self.false in
    let ok = c.in_ok-move_log.ensures in
    let n = g.D.Disk.size (disk_of old) in
    let image = g.D.Disk.seen (disk_of old) in
    let seen = g.D.Disk.seen (disk_of new) in
    let a = anchor_of old in
    let body = c.as_slice.result.now in
    let spelled = c.as_slice.ensures ∙ c.in_ok-body.ensures.spelled in
    let inside : behind (area_first a) known.bodies ≤ area_end a = omega (arith, known.ends, log.inside) in
    let again = notes_again (notes_of old) in
    let index : index_of new ≡ no_index a.sizes.home = ok.index ∙ ap (λ k. no_index k) log.index in
    let by = moved_by n a image (index_of old) (notes_of old) known.bodies log.anchor inside known.logged known.by body spelled c.in_ok-body.ensures.fits log.notes.few again seen (ok.moved told) in
    record {
      bodies = body ∷ [];
      ends = ap (λ (x : Anchor). next_of (area_first x) body) ok.anchor ∙ sym ok.end;
      by = reads_by_of (body ∷ []) (sym c.move_log.ensures.size) refl (sym ok.anchor) (sym (returns-clause-same g c told)) by;
      logged = subst (λ (t : Anchor × Index). Logs (no_index t.0.sizes.home) (body ∷ []) t.1) (λ i. (sym ok.anchor i, sym index i))
          (moved_logs n a image (index_of old) (notes_of old) known.bodies log.anchor inside known.logged known.by body spelled c.in_ok-body.ensures.fits log.notes.few again);
      durable = ok.durable told;
    }

pub returns-in_err-move_log-clause-same : goal.returns-in_err-move_log-clause-same
returns-in_err-move_log-clause-same g c told =
    let l = g.D.Disk.left_since in
    let old = c.args.self.now in
    let new = c.move_log.new.self in
    let a = anchor_of old in
    let log = c.requires.log in
    let known = c.requires.known told c.if-self.false in
    let n = g.D.Disk.size (disk_of old) in
    let image = g.D.Disk.seen (disk_of old) in
    let seen = g.D.Disk.seen (disk_of new) in
    let err = c.in_err-move_log.ensures in
    let now = g.met.D.Disk.counts_now (disk_of old) (disk_of new) seen (g.met.D.Disk.as_read (disk_of new) (subst IsTrue (sym c.move_log.ensures.tells) told)) in
    let last = shown_at_last l (disk_of old) (disk_of new) image seen _ (c.move_log.ensures.any_moment told) (λ x was. known.durable x (g.met.D.Disk.only_now (disk_of old) x was)) now in
    let shows = moving_shows n a image (index_of old) (notes_of old) known.bodies log.anchor (omega (arith, known.ends, log.inside)) known.logged c.as_slice.result.now seen last in
    let moved : shown (home_pages seen (anchor_of new)) (index_of new) ≡ shown (home_pages seen a) (index_of old) = λ i. shown (home_pages seen (err.stays_anchor i)) (err.stays_index i) in
    let pages = moved ∙ shows in
    let notes = ap (λ (h : Held). h.notes) c.move_log.ensures.notes in
    λ i. record { pages = pages i; notes = notes i }
