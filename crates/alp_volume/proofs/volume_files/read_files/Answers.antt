use Rattle.std.specs.Prelude.{Bool, IsTrue, Ok, Some, None, Option, ◌++◌}
use Rattle.std.proofs.Common.{◌≡◌, ◌∙◌, ℕ, ◌+◌, ◌≤◌, List, length, refl, sym, ap, subst, arith}
use Rattle.alp_vault.specs.declared.limits.TheConstants.{HEAD_PAGES}
use Rattle.alp_pages.specs.Pages.{Pages, entry_in}
use Rattle.alp_pages.specs.Damage.{Part, Name, entry_there, parts_of}
use Rattle.alp_volume.specs.Reached.{AreListed, AreMarks, AreNamed, AreOwners, IsJudged, files_from}
use Rattle.alp_volume.proofs.LoopLaws.{Along, along_begins, along_segment, along_segment_stops, along_done, files_step, files_end, read_none, read_then, read_ok}
use Rattle.alp_volume.proofs.volume_files.read_files.Goals as goal

pub loop-slot-init : goal.loop-slot-init
loop-slot-init g c = record {
  read = read_none g.met.R.PageReader.still c.args.reader.now;
  others = (refl, refl, refl);
  long = refl;
  sized = λ home sized. sized;
  told = λ home names tells marks listed owned named. (names, along_begins home (g.R.PageReader.pages c.args.reader.now) names (files_from (g.R.PageReader.pages c.args.reader.now) 0), marks, listed, named);
}

pub read_file-requires-clause-head : goal.read_file-requires-clause-head
read_file-requires-clause-head g c = subst (λ (n : ℕ). HEAD_PAGES ≤ n) (sym (g.met.R.PageReader.same_home c.args.reader.now c.loop-slot.reader c.loop-slot.invariant.read.on)) c.requires.head

pub read_file-requires-clause-long : goal.read_file-requires-clause-long
read_file-requires-clause-long g c = c.loop-slot.invariant.long ∙ c.requires.long ∙ sym (g.met.R.PageReader.same_home c.args.reader.now c.loop-slot.reader c.loop-slot.invariant.read.on)

pub loop-slot-preserved : goal.loop-slot-preserved
loop-slot-preserved g c =
    let r0 = c.args.reader.now in
    let r1 = c.loop-slot.reader in
    let inv = c.loop-slot.invariant in
    let same : g.R.PageReader.pages r1 ≡ g.R.PageReader.pages r0 = g.met.R.PageReader.same_pages r0 r1 inv.read.on in
    let telling : g.R.PageReader.tells r1 ≡ g.R.PageReader.tells r0 = g.met.R.PageReader.same_tells r0 r1 inv.read.on in
    record {
      read = read_ok g.met.R.PageReader.then_on r0 c.read_file.new.reader c.in_ok-wrong.field-0 tt (read_then g.met.R.PageReader.then_on r0 r1 c.read_file.new.reader tt (Ok c.in_ok-wrong.field-0) inv.read c.in_ok-wrong.ensures.read);
      others = (c.read_file.ensures.others.0 ∙ inv.others.0, c.read_file.ensures.others.1 ∙ inv.others.1, c.read_file.ensures.others.2 ∙ inv.others.2);
      long = c.read_file.ensures.long ∙ inv.long;
      sized = λ home sized. c.read_file.ensures.sized home (inv.sized home sized);
      told = λ home names tells marks listed owned named.
          let t = inv.told home names tells marks listed owned named in
          let at = g.R.PageReader.pages r0 in
          let s = c.loop-slot.slot in
          let P = λ (ns : List Name). AreMarks home ns c.read_file.new.catalog.places × AreListed home at 4096 ns c.read_file.new.catalog.files c.read_file.new.catalog.slots × AreNamed (s + 1) ns c.read_file.new.catalog.files in
          let told = subst (λ (x : Bool). IsTrue x) (sym telling) tells in
          let listed1 = subst (λ (x : Pages). AreListed home x 4096 t.0 c.loop-slot.catalog.files c.loop-slot.catalog.slots) (sym same) t.3 in
          let owned1 = subst (λ (x : Pages). AreOwners x 256 c.loop-slot.catalog.owners c.loop-slot.catalog.rows) (sym same) (rw (inv.others.0, inv.others.1) owned) in
          let judged = c.in_ok-wrong.ensures.judged home t.0 told t.2 listed1 owned1 t.4 in
          let here = subst (λ (x : Pages). IsJudged home x t.0 (parts_of x (entry_there (entry_in x s))) (λ ns. AreMarks home ns c.read_file.new.catalog.places × AreListed home x 4096 ns c.read_file.new.catalog.files c.read_file.new.catalog.slots × AreNamed (s + 1) ns c.read_file.new.catalog.files) c.in_ok-wrong.field-0) same judged in
          let along = subst (λ (ps : List Part). Along home at names (files_from at 0) ps t.0) (files_step at s c.loop-slot-test.true) t.1 in
          let right = subst (λ (o : Option ℕ). IsJudged home at t.0 (parts_of at (entry_there (entry_in at s))) P o) c.in_default.is here in (
            _,
            along_segment home at names (files_from at 0) (parts_of at (entry_there (entry_in at s))) (files_from at (s + 1)) t.0 along right.0,
            right.1.0,
            right.1.1,
            right.1.2,
          );
    }

pub returns-in-Some-clause-judged : goal.returns-in-Some-clause-judged
returns-in-Some-clause-judged g c home names tells marks listed owned named =
    let r0 = c.args.reader.now in
    let r1 = c.loop-slot.reader in
    let inv = c.loop-slot.invariant in
    let same : g.R.PageReader.pages r1 ≡ g.R.PageReader.pages r0 = g.met.R.PageReader.same_pages r0 r1 inv.read.on in
    let telling : g.R.PageReader.tells r1 ≡ g.R.PageReader.tells r0 = g.met.R.PageReader.same_tells r0 r1 inv.read.on in
    let t = inv.told home names tells marks listed owned named in
    let at = g.R.PageReader.pages r0 in
    let s = c.loop-slot.slot in
    let P = λ (ns : List Name). AreMarks home ns c.read_file.new.catalog.places × AreListed home at 4096 ns c.read_file.new.catalog.files c.read_file.new.catalog.slots × AreNamed (s + 1) ns c.read_file.new.catalog.files in
    let told = subst (λ (x : Bool). IsTrue x) (sym telling) tells in
    let listed1 = subst (λ (x : Pages). AreListed home x 4096 t.0 c.loop-slot.catalog.files c.loop-slot.catalog.slots) (sym same) t.3 in
    let owned1 = subst (λ (x : Pages). AreOwners x 256 c.loop-slot.catalog.owners c.loop-slot.catalog.rows) (sym same) (rw (inv.others.0, inv.others.1) owned) in
    let judged = c.in_ok-wrong.ensures.judged home t.0 told t.2 listed1 owned1 t.4 in
    let here = subst (λ (x : Pages). IsJudged home x t.0 (parts_of x (entry_there (entry_in x s))) (λ ns. AreMarks home ns c.read_file.new.catalog.places × AreListed home x 4096 ns c.read_file.new.catalog.files c.read_file.new.catalog.slots × AreNamed (s + 1) ns c.read_file.new.catalog.files) c.in_ok-wrong.field-0) same judged in
    let along = subst (λ (ps : List Part). Along home at names (files_from at 0) ps t.0) (files_step at s c.loop-slot-test.true) t.1 in
    let wrong = subst (λ (o : Option ℕ). IsJudged home at t.0 (parts_of at (entry_there (entry_in at s))) P o) c.in-Some.is here in
    along_segment_stops home at names (files_from at 0) (parts_of at (entry_there (entry_in at s))) (files_from at (s + 1)) t.0 c.in-Some.wrong along wrong

pub returns-clause-judged : goal.returns-clause-judged
returns-clause-judged g c home names tells marks listed owned named =
    let at = g.R.PageReader.pages c.args.reader.now in
    let t = c.loop-slot.invariant.told home names tells marks listed owned named in
    let end : c.loop-slot.slot ≡ 4096 = omega arith in
    let done = along_done home at names (files_from at 0) t.0 (subst (λ (ps : List Part). Along home at names (files_from at 0) ps t.0) (files_end at c.loop-slot.slot (omega arith)) t.1) in (
      done.0,
      subst (λ (ns : List Name). AreMarks home ns c.loop-slot.catalog.places × AreListed home at 4096 ns c.loop-slot.catalog.files c.loop-slot.catalog.slots × AreNamed 4096 ns c.loop-slot.catalog.files) (sym done.1)
          (t.2, t.3, subst (λ (n : ℕ). AreNamed n t.0 c.loop-slot.catalog.files) end t.4),
    )

pub returns-in_err-wrong-clause-sized : goal.returns-in_err-wrong-clause-sized
returns-in_err-wrong-clause-sized g c home sized = c.read_file.ensures.sized home (c.loop-slot.invariant.sized home sized)

pub returns-in-Some-clause-sized : goal.returns-in-Some-clause-sized
returns-in-Some-clause-sized g c home sized = c.read_file.ensures.sized home (c.loop-slot.invariant.sized home sized)
