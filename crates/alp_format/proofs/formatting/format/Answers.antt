use Rattle.std.proofs.Common.{◌≡◌, ◌≤◌, ℕ, [], length, sym, ◌∙◌, ap, subst, arith}
use Rattle.alp_base.specs.Crashes.{Only}
use Rattle.alp_anchor.specs.Anchor.{IsSound}
use Rattle.alp_anchor.specs.declared.anchor.Anchor.{Anchor}
use Rattle.alp_notes.specs.Held.{Held}
use Rattle.alp_wal.specs.Live.{AreLive, notes_pages}
use Rattle.alp_wal.specs.Reading.{area_first, area_end}
use Rattle.alp_wal.specs.Wal.{anchor_of, end_of, no_index}
use Rattle.alp_wal.proofs.Lives.{none_fit}
use Rattle.alp_wal.proofs.Commits.{reads_by_of}
use Rattle.alp_format.specs.Format.{first_anchor}
use Rattle.alp_format.proofs.Formats.{shows_blank}
use Rattle.alp_format.proofs.formatting.format.Goals as goal

pub returns-clause-blank : goal.returns-clause-blank
returns-clause-blank g c told =
    let over = c.over.ensures in
    let bare = c.in-Ok.ensures in
    shows_blank (g.D.Disk.size c.args.disk) c.over.result (g.D.Disk.seen c.establish.new.disk) _ (first_anchor c.args.server c.args.servers c.args.sizes)
    (ap g.D.Disk.seen over.disk) (over.anchor ∙ bare.anchor) (over.index ∙ bare.empty) (ap (λ (h : Held). h.notes) over.notes ∙ bare.none) (c.in-Ok-establish.ensures.blank told)

pub returns-clause-known : goal.returns-clause-known
returns-clause-known g c told =
    let over = c.over.ensures in
    let bare = c.in-Ok.ensures in
    let anchor : anchor_of c.over.result ≡ first_anchor c.args.server c.args.servers c.args.sizes = over.anchor ∙ bare.anchor in
    let size = ap g.D.Disk.size over.disk ∙ c.establish.ensures.size in
    record {
      bodies = [];
      ends = ap area_first anchor ∙ sym (over.end ∙ bare.end);
      by = reads_by_of [] (sym size) (ap g.D.Disk.seen (sym over.disk)) (sym anchor) (sym (returns-clause-blank g c told)) (c.in-Ok-establish.ensures.blank told);
      logged = ap (λ (a : Anchor). no_index a.sizes.home) anchor ∙ sym (over.index ∙ bare.empty);
      durable = subst (λ d. Only (g.D.Disk.seen d) (g.D.Disk.may_leave d)) (sym over.disk) (c.in-Ok-establish.ensures.durable told);
    }

pub returns-clause-log : goal.returns-clause-log
returns-clause-log g c =
    let over = c.over.ensures in
    let bare = c.in-Ok.ensures in
    let a = first_anchor c.args.server c.args.servers c.args.sizes in
    let anchor : anchor_of c.over.result ≡ a = over.anchor ∙ bare.anchor in
    let size = ap g.D.Disk.size over.disk ∙ c.establish.ensures.size in
    let end : end_of c.over.result ≡ area_first a = over.end ∙ bare.end in
    let sound : IsSound (g.D.Disk.size c.args.disk) a = record { page = omega arith; area = omega arith; generation = omega arith; sizes = c.requires } in
    record {
      anchor = subst (λ (t : ℕ × Anchor). IsSound t.0 t.1) (λ i. (sym size i, sym anchor i)) sound;
      index = ap length over.index ∙ bare.index ∙ ap (λ (b : Anchor). b.sizes.home) (sym anchor);
      notes = subst (λ (h : Held). AreLive h.notes) (sym over.notes) bare.live;
      fits = subst (λ (t : Held × Anchor). notes_pages t.0.notes ≤ t.1.sizes.area) (λ i. (sym over.notes i, sym anchor i)) (none_fit c.args.sizes.area c.in-Ok.found.notes.notes bare.none c.requires.least_area);
      begun = omega (arith, end, ap area_first anchor);
      inside = omega (arith, end, ap area_end anchor, c.requires.least_area);
    }

pub returns-clause-none : goal.returns-clause-none
returns-clause-none g c = ap (λ (h : Held). h.notes) c.over.ensures.notes ∙ c.in-Ok.ensures.none
