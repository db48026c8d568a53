use Rattle.std.specs.Prelude.{Bool, IsTrue, Ok, Some, None, true, false}
use Rattle.std.proofs.Common.{◌≡◌, ◌∙◌, ◌∷◌, ℕ, ◌+◌, List, refl, sym, ap, subst, arith}
use Rattle.alp_pages.specs.Pages.{Pages, entry_in}
use Rattle.alp_pages.specs.Damage.{Part, Slot, Name, first_wrong, names_after}
use Rattle.alp_volume.specs.Reached.{AreListed, AreMarks, slots_from}
use Rattle.alp_volume.proofs.LoopLaws.{Along, along_begins, along_more, along_stops, along_done, slots_step, slots_end, read_none, read_then, read_ok}
use Rattle.alp_volume.proofs.directory.read_directory.Goals as goal

pub loop-slot-init : goal.loop-slot-init
loop-slot-init g c = record {
  read = read_none g.met.R.PageReader.still c.args.reader.now;
  few = omega (arith, c.requires.empty);
  others = (refl, refl);
  long = refl;
  sized = λ home sized. sized;
  told = λ home names tells marks listed. (names, along_begins home (g.R.PageReader.pages c.args.reader.now) names (slots_from 0), marks, listed);
}

pub loop-slot-preserved : goal.loop-slot-preserved
loop-slot-preserved g c =
    let r0 = c.args.reader.now in
    let r1 = c.loop-slot.reader in
    let inv = c.loop-slot.invariant in
    let same : g.R.PageReader.pages r1 ≡ g.R.PageReader.pages r0 = g.met.R.PageReader.same_pages r0 r1 inv.read.on in
    let telling : g.R.PageReader.tells r1 ≡ g.R.PageReader.tells r0 = g.met.R.PageReader.same_tells r0 r1 inv.read.on in
    record {
      read = read_ok g.met.R.PageReader.then_on r0 c.read_slot.new.reader c.in_ok-found.found tt (read_then g.met.R.PageReader.then_on r0 r1 c.read_slot.new.reader tt (Ok c.in_ok-found.found) inv.read c.in_ok-found.ensures.read);
      few = omega (arith, inv.few, c.add_entry.ensures.few);
      others = (c.add_entry.ensures.others.0 ∙ inv.others.0, c.add_entry.ensures.others.1 ∙ inv.others.1);
      long = c.add_entry.ensures.long ∙ inv.long;
      sized = λ home sized. c.add_entry.ensures.sized home (inv.sized home sized);
      told = λ home names tells marks listed.
          let t = inv.told home names tells marks listed in
          let at = g.R.PageReader.pages r0 in
          let found : c.in_ok-found.found ≡ entry_in at c.loop-slot.slot = c.in_ok-found.ensures.entry (subst (λ (b : Bool). IsTrue b) (sym telling) tells) ∙ ap (λ (x : Pages). entry_in x c.loop-slot.slot) same in
          let right = sym (c.add_entry.ensures.judged home at t.0 found t.2 t.3) ∙ c.if-not-add_entry.false in (
            _,
            along_more home at names (slots_from 0) (Slot c.loop-slot.slot) (slots_from (c.loop-slot.slot + 1)) t.0 (subst (λ (ps : List Part). Along home at names (slots_from 0) ps t.0) (slots_step c.loop-slot.slot c.loop-slot-test.true) t.1) right,
            c.add_entry.ensures.marked home at t.0 found t.2 c.if-not-add_entry.false,
            c.add_entry.ensures.listed home at t.0 found t.2 t.3 c.if-not-add_entry.false,
          );
    }

pub returns-then-not-add_entry-clause-judged : goal.returns-then-not-add_entry-clause-judged
returns-then-not-add_entry-clause-judged g c home names tells marks listed =
    let r0 = c.args.reader.now in
    let r1 = c.loop-slot.reader in
    let inv = c.loop-slot.invariant in
    let same : g.R.PageReader.pages r1 ≡ g.R.PageReader.pages r0 = g.met.R.PageReader.same_pages r0 r1 inv.read.on in
    let telling : g.R.PageReader.tells r1 ≡ g.R.PageReader.tells r0 = g.met.R.PageReader.same_tells r0 r1 inv.read.on in
    let t = inv.told home names tells marks listed in
    let at = g.R.PageReader.pages r0 in
    let found : c.in_ok-found.found ≡ entry_in at c.loop-slot.slot = c.in_ok-found.ensures.entry (subst (λ (b : Bool). IsTrue b) (sym telling) tells) ∙ ap (λ (x : Pages). entry_in x c.loop-slot.slot) same in
    along_stops home at names (slots_from 0) (Slot c.loop-slot.slot) (slots_from (c.loop-slot.slot + 1)) t.0 (subst (λ (ps : List Part). Along home at names (slots_from 0) ps t.0) (slots_step c.loop-slot.slot c.loop-slot-test.true) t.1)
    (sym (c.add_entry.ensures.judged home at t.0 found t.2 t.3) ∙ c.if-not-add_entry.true)

pub returns-clause-judged : goal.returns-clause-judged
returns-clause-judged g c home names tells marks listed =
    let at = g.R.PageReader.pages c.args.reader.now in
    let t = c.loop-slot.invariant.told home names tells marks listed in
    let end : c.loop-slot.slot ≡ 4096 = omega arith in
    let done = along_done home at names (slots_from 0) t.0 (subst (λ (ps : List Part). Along home at names (slots_from 0) ps t.0) (slots_end c.loop-slot.slot (omega arith)) t.1) in (
      done.0,
      subst (λ (ns : List Name). AreMarks home ns c.loop-slot.catalog.places × AreListed home at 4096 ns c.loop-slot.catalog.files c.loop-slot.catalog.slots) (sym done.1)
          (t.2, subst (λ (n : ℕ). AreListed home at n t.0 c.loop-slot.catalog.files c.loop-slot.catalog.slots) end t.3),
    )

pub returns-then-not-add_entry-clause-sized : goal.returns-then-not-add_entry-clause-sized
returns-then-not-add_entry-clause-sized g c home sized = c.add_entry.ensures.sized home (c.loop-slot.invariant.sized home sized)
