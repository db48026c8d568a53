use Rattle.std.specs.Prelude.{Bool, IsTrue}
use Rattle.std.proofs.Common.{◌≡◌, ◌∙◌, ◌++◌, List, ℕ, sym, ap, subst}
use Rattle.alp_base.specs.declared.key.Key.{Key}
use Rattle.alp_base.specs.declared.cell.Cell.{Cell}
use Rattle.alp_files.specs.Cells.{View}
use Rattle.alp_files.specs.Changes.{edits_of}
use Rattle.alp_files.specs.Edits.{after}
use Rattle.alp_files.specs.Undo.{puts_of}
use Rattle.alp_files.proofs.EditLemmas.{after-append}
use Rattle.alp_pages.specs.Changes.{cuts_of, drops_of}
use Rattle.alp_volume.specs.Drafts.{AreBelow, ArePaged, IsDraft, laid}
use Rattle.alp_volume.specs.Known.{IsCatalog}
use Rattle.alp_pages.specs.Pages.{Pages}
use Rattle.alp_volume.proofs.PlanLaws.{below_all}
use Rattle.alp_volume.proofs.change.make_change.Goals as goal

pub make_puts-requires-clause-sized : goal.make_puts-requires-clause-sized
make_puts-requires-clause-sized g c = subst (λ (n : ℕ). IsCatalog n c.make_room.new.catalog) (sym (g.met.R.PageReader.same_home c.args.reader.now c.make_room.new.reader c.in_ok-make_room.ensures.read.on)) c.make_room.ensures.sized

pub returns-in_err-make_puts-clause-sized : goal.returns-in_err-make_puts-clause-sized
returns-in_err-make_puts-clause-sized g c = subst (λ (n : ℕ). IsCatalog n c.make_puts.new.catalog) (g.met.R.PageReader.same_home c.args.reader.now c.make_room.new.reader c.in_ok-make_room.ensures.read.on) c.make_puts.ensures.sized

pub returns-then-not-are_below-clause-sized : goal.returns-then-not-are_below-clause-sized
returns-then-not-are_below-clause-sized g c = subst (λ (n : ℕ). IsCatalog n c.make_puts.new.catalog) (g.met.R.PageReader.same_home c.args.reader.now c.make_room.new.reader c.in_ok-make_room.ensures.read.on) c.make_puts.ensures.sized

pub returns-clause-sized : goal.returns-clause-sized
returns-clause-sized g c = subst (λ (n : ℕ). IsCatalog n c.make_puts.new.catalog) (g.met.R.PageReader.same_home c.args.reader.now c.make_room.new.reader c.in_ok-make_room.ensures.read.on) c.make_puts.ensures.sized

pub returns-clause-below : goal.returns-clause-below
returns-clause-below g c =
    let home = g.met.R.PageReader.same_home c.args.reader.now c.make_room.new.reader c.in_ok-make_room.ensures.read.on in
    subst (λ (n : ℕ). AreBelow n c.make_puts.new.draft.pages) (c.len.ensures ∙ c.make_puts.ensures.sized.places ∙ home)
    (below_all c.len.result _ (sym c.are_below.ensures ∙ c.if-not-are_below.false))

pub returns-clause-made : goal.returns-clause-made
returns-clause-made g c m tells d have paged =
    let r0 = c.args.reader.now in
    let r1 = c.make_room.new.reader in
    let change = c.args.change.now in
    let same : g.R.PageReader.pages r1 ≡ g.R.PageReader.pages r0 = g.met.R.PageReader.same_pages r0 r1 c.in_ok-make_room.ensures.read.on in
    let same_home : g.R.PageReader.home r1 ≡ g.R.PageReader.home r0 = g.met.R.PageReader.same_home r0 r1 c.in_ok-make_room.ensures.read.on in
    let told : IsTrue (g.R.PageReader.tells r1) = subst (λ (t : Bool). IsTrue t) (sym (g.met.R.PageReader.same_tells r0 r1 c.in_ok-make_room.ensures.read.on)) tells in
    let mid = after (cuts_of change.cuts) (after (drops_of change.drops) m) in
    let puts = c.as_slice.result.now in
    let parts : after (edits_of change) m ≡ after (puts_of puts) mid =
    after-append (drops_of change.drops) (cuts_of change.cuts ++ puts_of change.puts) m ∙ after-append (cuts_of change.cuts) (puts_of change.puts) (after (drops_of change.drops) m)
    ∙ ap (λ (ps : List (Key × Cell)). after (puts_of ps) mid) (sym c.as_slice.ensures) in
    let made = c.in_ok-make_room.ensures.cut m tells d have in
    let here = subst (λ (n : ℕ). IsDraft n (laid c.make_room.new.draft.pages (g.R.PageReader.pages r1)) mid c.make_room.new.catalog) (sym same_home)
    (subst (λ (y : Pages). IsDraft (g.R.PageReader.home r0) (laid c.make_room.new.draft.pages y) mid c.make_room.new.catalog) (sym same) made.0) in
    subst (λ (v : View). IsDraft (g.R.PageReader.home r0) (laid c.make_puts.new.draft.pages (g.R.PageReader.pages r0)) v c.make_puts.new.catalog) (sym parts)
    (subst (λ (n : ℕ). IsDraft n (laid c.make_puts.new.draft.pages (g.R.PageReader.pages r0)) (after (puts_of puts) mid) c.make_puts.new.catalog) same_home
    (subst (λ (y : Pages). IsDraft (g.R.PageReader.home r1) (laid c.make_puts.new.draft.pages y) (after (puts_of puts) mid) c.make_puts.new.catalog) same (c.in_ok-make_puts.ensures.put mid told here made.1 (subst ArePaged parts paged))))
