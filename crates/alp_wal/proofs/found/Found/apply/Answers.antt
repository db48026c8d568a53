use Rattle.std.proofs.Common.{◌≡◌, sym, ◌∙◌, subst, arith}
use Rattle.std.specs.List.{AllByRecursion}
use Rattle.std.specs.FinMap as map
use Rattle.std.proofs.lemmas.Bool.{leb-true}
use Rattle.alp_batch.specs.Batch.{IsShort}
use Rattle.alp_base.specs.Notes.{Notes, notes_after}
use Rattle.alp_wal.specs.Live.{puts}
use Rattle.alp_wal.proofs.Lives.{short_after}
use Rattle.alp_wal.proofs.found.Found.apply.Goals as goal

pub returns-clause-live : goal.returns-clause-live
returns-clause-live c few =
    let old = c.args.self.now.notes.notes in
    let same = c.make_room.ensures.same in
    let copied = c.in_ok-changes.ensures.copied ∙ c.as_slice-3.ensures in
    let notes : c.apply.new.self.notes ≡ notes_after c.args.batch.now.notes old = c.apply.ensures ∙ (λ i. notes_after (copied i) (same i)) in
    record {
      few = omega (arith, c.len.ensures, leb-true c.len.result 65535 few);
      short = subst (λ (e : Notes). AllByRecursion IsShort (puts (map.entries e))) (sym notes) (short_after c.args.batch.now.notes old c.requires.batch.short c.requires.live.short);
    }
