use Rattle.std.proofs.Common.{◌≡◌, ◌++◌, ℕ, [], ◌∷◌, length, IsTrue, refl, sym, ◌∙◌, ap, subst, arith}
use Rattle.std.specs.List.{AllByRecursion}
use Rattle.alp_base.specs.Crashes.{Adds, Only}
use Rattle.std.specs.FinMap as map
use Rattle.alp_disk.proofs.Moments.{adds_weaker, leaves_only}
use Rattle.alp_anchor.specs.Anchor.{IsSound}
use Rattle.alp_anchor.specs.declared.anchor.Anchor.{Anchor}
use Rattle.alp_batch.specs.Batch.{IsShort, batch_length}
use Rattle.alp_batch.proofs.BatchLaws.{batch_is, is_batch}
use Rattle.alp_record.specs.Record.{body_pages, next_of, behind}
use Rattle.alp_record.proofs.Adds.{behind_push}
use Rattle.alp_base.specs.Notes.{Notes, notes_after}
use Rattle.alp_notes.specs.Held.{Held}
use Rattle.alp_wal.specs.State.{State, IsBelow}
use Rattle.alp_wal.specs.Live.{puts, notes_pages}
use Rattle.alp_wal.specs.Reading.{Applies, area_first, area_end, home_pages}
use Rattle.alp_wal.specs.Home.{Index}
use Rattle.alp_wal.specs.Wal.{shown, indexed, no_index, Logs, disk_of, anchor_of, end_of, index_of, notes_of, state_of, BeforeOrAfter}
use Rattle.alp_wal.specs.Prepared.{batch_of}
use Rattle.alp_wal.proofs.States.{length-indexed, bare_kept}
use Rattle.alp_wal.proofs.Lives.{fits_next, short_after}
use Rattle.alp_wal.proofs.Checkpoints.{logs_push}
use Rattle.alp_wal.proofs.Commits.{state_after, reads_after, crash_before, crash_leaves, reads_by_of, shown_at_last, adding_others}
use Rattle.alp_wal.proofs.Outcomes.{becomes_stays}
use Rattle.alp_wal.proofs.wal.Wal.put.Goals as goal

pub append-requires-clause-fits : goal.append-requires-clause-fits
append-requires-clause-fits g c =
    let long : length c.as_slice.result.now ≡ batch_length (batch_of c.args.prepared) = ap length (c.as_slice.ensures ∙ c.requires.ready.spelled) ∙ batch_is (batch_of c.args.prepared) c.requires.ready.fits in
    omega (arith, ap body_pages long, c.requires.fits)

pub returns-in_err-append-clause-before_or_after : goal.returns-in_err-append-clause-before_or_after
returns-in_err-append-clause-before_or_after g c told =
    let l = g.D.Disk.left_since in
    let old = c.args.self.now in
    let b = batch_of c.args.prepared in
    let log = c.requires.log in
    let known = c.requires.known told in
    let n = g.D.Disk.size (disk_of old) in
    let image = g.D.Disk.seen (disk_of old) in
    let body = c.as_slice.result.now in
    let applies : Applies (anchor_of old).sizes.home (state_of old image) body b = record { spelled = c.as_slice.ensures ∙ c.requires.ready.spelled; fits = c.requires.ready.fits; suits = c.requires.suits } in
    let P = BeforeOrAfter (anchor_of old).server (anchor_of old).servers n (state_of old image) b in
    leaves_only l _ _ P (λ x was. crash_before n (anchor_of old) image known.bodies (state_of old image) b (g.D.Disk.may_leave (disk_of old)) known.by known.durable x (g.met.D.Disk.only_now (disk_of old) x was))
    (adds_weaker l _ _ _ P (c.append.ensures.any_moment told)
    (λ x adding. crash_leaves n (anchor_of old) image (end_of old) log.anchor log.begun log.inside (state_of old image) known.bodies known.ends known.by body b applies x adding))

pub returns-clause-before_or_after : goal.returns-clause-before_or_after
returns-clause-before_or_after g c told =
    let l = g.D.Disk.left_since in
    let old = c.args.self.now in
    let b = batch_of c.args.prepared in
    let log = c.requires.log in
    let known = c.requires.known told in
    let n = g.D.Disk.size (disk_of old) in
    let image = g.D.Disk.seen (disk_of old) in
    let body = c.as_slice.result.now in
    let applies : Applies (anchor_of old).sizes.home (state_of old image) body b = record { spelled = c.as_slice.ensures ∙ c.requires.ready.spelled; fits = c.requires.ready.fits; suits = c.requires.suits } in
    let P = BeforeOrAfter (anchor_of old).server (anchor_of old).servers n (state_of old image) b in
    leaves_only l _ _ P (λ x was. crash_before n (anchor_of old) image known.bodies (state_of old image) b (g.D.Disk.may_leave (disk_of old)) known.by known.durable x (g.met.D.Disk.only_now (disk_of old) x was))
    (subst (λ d. Adds l (disk_of old) d P) (sym c.settle.ensures.disk)
    (adds_weaker l _ _ _ P (c.append.ensures.any_moment told)
    (λ x adding. crash_leaves n (anchor_of old) image (end_of old) log.anchor log.begun log.inside (state_of old image) known.bodies known.ends known.by body b applies x adding)))

pub returns-clause-becomes : goal.returns-clause-becomes
returns-clause-becomes g c told =
    let old = c.args.self.now in
    let settled = c.settle.ensures in
    let log = c.requires.log in
    let n = g.D.Disk.size (disk_of old) in
    let image = g.D.Disk.seen (disk_of old) in
    let new = g.D.Disk.seen (disk_of c.append.new.self) in
    let b = batch_of c.args.prepared in
    let added = c.in_ok-append.ensures.added told in
    let below : AllByRecursion (IsBelow (length (index_of old))) b.images = subst (λ (k : ℕ). AllByRecursion (IsBelow k) b.images) (sym log.index) c.requires.suits.inside in
    let seen : g.D.Disk.seen (disk_of c.settle.new.self) ≡ new = ap g.D.Disk.seen settled.disk in
    let anchor : anchor_of c.settle.new.self ≡ anchor_of old = settled.anchor ∙ c.append.ensures.anchor in
    let index : index_of c.settle.new.self ≡ indexed (index_of old) b.images = settled.index ∙ ap (λ (x : Index). indexed x b.images) c.append.ensures.index in
    let notes : notes_of c.settle.new.self ≡ notes_after b.notes (notes_of old) = settled.notes ∙ ap (λ (x : Notes). notes_after b.notes x) (ap (λ (h : Held). h.notes) c.append.ensures.notes) in
    let shows : ◌≡◌ {A = State} (state_of c.settle.new.self (g.D.Disk.seen (disk_of c.settle.new.self))) (record { pages = shown (home_pages new (anchor_of old)) (indexed (index_of old) b.images); notes = notes_after b.notes (notes_of old) }) =
    λ i. record { pages = shown (home_pages (seen i) (anchor i)) (index i); notes = notes i } in
    shows ∙ state_after n (anchor_of old) image (end_of old) log.anchor log.begun log.inside new (index_of old) (notes_of old) b added.others below

pub returns-clause-known : goal.returns-clause-known
returns-clause-known g c told_now alive_now =
    let old = c.args.self.now in
    let q = c.append.new.self in
    let s = c.settle.new.self in
    let b = batch_of c.args.prepared in
    let settled = c.settle.ensures in
    let log = c.requires.log in
    let told_q = subst (λ d. IsTrue (g.D.Disk.tells d)) settled.disk told_now in
    let told = subst IsTrue c.append.ensures.tells told_q in
    let known = c.requires.known told in
    let n = g.D.Disk.size (disk_of old) in
    let image = g.D.Disk.seen (disk_of old) in
    let new = g.D.Disk.seen (disk_of q) in
    let body = c.as_slice.result.now in
    let spelled = c.as_slice.ensures ∙ c.requires.ready.spelled in
    let applies : Applies (anchor_of old).sizes.home (state_of old image) body b = record { spelled = spelled; fits = c.requires.ready.fits; suits = c.requires.suits } in
    let by = reads_after n (anchor_of old) image (end_of old) log.anchor log.begun log.inside (state_of old image) known.bodies known.ends known.by body b applies new (c.in_ok-append.ensures.added told) in
    let anchor : anchor_of s ≡ anchor_of old = settled.anchor ∙ c.append.ensures.anchor in
    let index : index_of s ≡ indexed (index_of old) b.images = settled.index ∙ ap (λ (x : Index). indexed x b.images) c.append.ensures.index in
    let size : n ≡ g.D.Disk.size (disk_of s) = sym (ap g.D.Disk.size settled.disk ∙ c.append.ensures.size) in
    let end : end_of s ≡ next_of (end_of old) body = settled.end ∙ c.in_ok-append.ensures.end in
    let more : Logs (index_of old) (body ∷ []) (indexed (index_of old) b.images) = (b, spelled, c.requires.ready.fits, refl) in
    record {
      bodies = known.bodies ++ body ∷ [];
      ends = ap (λ (a : Anchor). behind (area_first a) (known.bodies ++ body ∷ [])) anchor ∙ behind_push (area_first (anchor_of old)) known.bodies body ∙ ap (λ k. next_of k body) known.ends ∙ sym end;
      by = reads_by_of (known.bodies ++ body ∷ []) size (sym (ap g.D.Disk.seen settled.disk)) (sym anchor) (sym (returns-clause-becomes g c told)) by;
      logged = subst (λ (t : Anchor × Index). Logs (no_index t.0.sizes.home) (known.bodies ++ body ∷ []) t.1) (λ k. (sym anchor k, sym index k))
          (logs_push (no_index (anchor_of old).sizes.home) (index_of old) (indexed (index_of old) b.images) known.bodies body known.logged more);
      durable = subst (λ d. Only (g.D.Disk.seen d) (g.D.Disk.may_leave d)) (sym settled.disk) (c.in_ok-append.ensures.durable told);
    }

pub returns-clause-log : goal.returns-clause-log
returns-clause-log g c =
    let old = c.args.self.now in
    let s = c.settle.new.self in
    let b = batch_of c.args.prepared in
    let settled = c.settle.ensures in
    let log = c.requires.log in
    let anchor : anchor_of s ≡ anchor_of old = settled.anchor ∙ c.append.ensures.anchor in
    let size : g.D.Disk.size (disk_of s) ≡ g.D.Disk.size (disk_of old) = ap g.D.Disk.size settled.disk ∙ c.append.ensures.size in
    let end : end_of s ≡ next_of (end_of old) c.as_slice.result.now = settled.end ∙ c.in_ok-append.ensures.end in
    let long : length c.as_slice.result.now ≡ batch_length b = ap length (c.as_slice.ensures ∙ c.requires.ready.spelled) ∙ batch_is b c.requires.ready.fits in
    let notes : notes_of s ≡ notes_after b.notes (notes_of old) = settled.notes ∙ ap (λ (x : Notes). notes_after b.notes x) (ap (λ (h : Held). h.notes) c.append.ensures.notes) in
    let pages = ap body_pages long in
    let first = ap area_first anchor in
    let last = ap area_end anchor in
    let area = ap (λ (a : Anchor). a.sizes.area) anchor in
    let fit = fits_next (anchor_of old).sizes.area (notes_of old) b c.requires.both in
    record {
      anchor = subst (λ n. IsSound n (anchor_of s)) (sym size) (subst (IsSound (g.D.Disk.size (disk_of old))) (sym anchor) log.anchor);
      index = ap length settled.index ∙ length-indexed (index_of c.append.new.self) b.images ∙ ap length c.append.ensures.index ∙ log.index ∙ ap (λ (a : Anchor). a.sizes.home) (sym anchor);
      notes = record {
        few = omega (arith, ap (λ (e : Notes). map.len e) notes, c.requires.suits.few);
        short = subst (λ (e : Notes). AllByRecursion IsShort (puts (map.entries e))) (sym notes) (short_after b.notes (notes_of old) (is_batch b c.requires.ready.fits).short log.notes.short);
      };
      fits = omega (arith, ap notes_pages notes, area, fit);
      begun = omega (arith, end, first, log.begun);
      inside = omega (arith, end, last, pages, c.requires.fits, log.inside);
    }

pub returns-clause-made : goal.returns-clause-made
returns-clause-made g c =
    let old = c.args.self.now in
    let b = batch_of c.args.prepared in
    let long : length c.as_slice.result.now ≡ batch_length b = ap length (c.as_slice.ensures ∙ c.requires.ready.spelled) ∙ batch_is b c.requires.ready.fits in
    let anchor : anchor_of c.settle.new.self ≡ anchor_of old = c.settle.ensures.anchor ∙ c.append.ensures.anchor in
    record {
      anchor = anchor;
      room = omega (arith, ap body_pages long, ap area_end anchor, c.settle.ensures.end, c.in_ok-append.ensures.end, c.requires.fits, c.requires.log.inside);
      index = c.settle.ensures.index ∙ ap (λ (x : Index). indexed x b.images) c.append.ensures.index;
    }

pub returns-in_err-append-clause-becomes : goal.returns-in_err-append-clause-becomes
returns-in_err-append-clause-becomes g c told =
    let l = g.D.Disk.left_since in
    let old = c.args.self.now in
    let q = c.append.new.self in
    let a = anchor_of old in
    let log = c.requires.log in
    let known = c.requires.known told in
    let n = g.D.Disk.size (disk_of old) in
    let image = g.D.Disk.seen (disk_of old) in
    let seen = g.D.Disk.seen (disk_of q) in
    let now = g.met.D.Disk.counts_now (disk_of old) (disk_of q) seen (g.met.D.Disk.as_read (disk_of q) (subst IsTrue (sym c.append.ensures.tells) told)) in
    let last = shown_at_last l (disk_of old) (disk_of q) image seen _ (c.append.ensures.any_moment told) (λ x was. known.durable x (g.met.D.Disk.only_now (disk_of old) x was)) now in
    let others = adding_others a.generation (area_end a) (end_of old) c.as_slice.result.now image seen last in
    let home : home_pages seen (anchor_of q) ≡ home_pages image a = ap (λ (x : Anchor). home_pages seen x) c.append.ensures.anchor ∙ ap (λ (s : State). s.pages) (bare_kept n a image seen (end_of old) log.anchor others log.inside) in
    let index = c.append.ensures.index in
    let notes = ap (λ (h : Held). h.notes) c.append.ensures.notes in
    let same : ◌≡◌ {A = State} (state_of q seen) (state_of old image) = λ i. record { pages = shown (home i) (index i); notes = notes i } in
    becomes_stays c.from_residual.result _ _ _ c.from_residual.ensures.0 same
