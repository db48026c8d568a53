use Rattle.std.proofs.Common.{◌≤◌, ℕ, length, sym, ◌∙◌, ap, subst}
use Rattle.alp_anchor.specs.Anchor.{IsSound}
use Rattle.alp_anchor.specs.declared.anchor.Anchor.{Anchor}
use Rattle.alp_notes.specs.Held.{Held}
use Rattle.alp_wal.specs.Live.{AreLive, notes_pages}
use Rattle.alp_wal.specs.Reading.{area_first, area_end}
use Rattle.alp_wal.proofs.Lives.{fits_within}
use Rattle.alp_wal.proofs.mounting.mount.Goals as goal

pub returns-in-Ok-clause-log : goal.returns-in-Ok-clause-log
returns-in-Ok-clause-log g c =
    let over = c.over.ensures in
    let f = c.in-Ok.found in
    let found = c.in-Ok.ensures in
    let size = ap g.D.Disk.size over.disk ∙ c.recover.ensures.below.size in
    record {
      anchor = subst (λ (t : ℕ × Anchor). IsSound t.0 t.1) (λ i. (sym size i, sym over.anchor i)) found.sound;
      index = ap length over.index ∙ found.index ∙ ap (λ (a : Anchor). a.sizes.home) (sym over.anchor);
      notes = subst (λ (h : Held). AreLive h.notes) (sym over.notes) found.live;
      fits = subst (λ (t : Held × Anchor). notes_pages t.0.notes ≤ t.1.sizes.area) (λ i. (sym over.notes i, sym over.anchor i))
          (fits_within (area_first f.anchor) f.end f.anchor.sizes.area f.notes.notes found.within found.inside found.sound.sizes.least_area);
      begun = subst (λ (t : Anchor × ℕ). area_first t.0 ≤ t.1) (λ i. (sym over.anchor i, sym over.end i)) found.begun;
      inside = subst (λ (t : Anchor × ℕ). t.1 ≤ area_end t.0) (λ i. (sym over.anchor i, sym over.end i)) found.inside;
    }
