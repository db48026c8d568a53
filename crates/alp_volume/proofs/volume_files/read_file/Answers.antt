use Rattle.std.specs.Prelude.{Bool, IsTrue, Some, None, Option, IfOk, ◌≤◌}
use Rattle.std.specs.FinMap as map
use Rattle.std.proofs.Common.{◌≡◌, ◌∙◌, ◌+◌, ℕ, List, refl, sym, ap, subst, arith}
use Rattle.alp_pages.specs.declared.entry.Entry.{Entry}
use Rattle.alp_tables.specs.declared.file_slot.FileSlot.{FileSlot}
use Rattle.alp_pages.specs.Nodes.{LeaderOf}
use Rattle.alp_pages.specs.Pages.{Pages, entry_in}
use Rattle.alp_pages.specs.Volume.{row_of_node}
use Rattle.alp_pages.specs.Damage.{Name, entry_there, parts_of, row_there}
use Rattle.alp_volume.specs.Reached.{AreListed, AreMarks, AreNamed, AreOwners, IsJudged, IsKept}
use Rattle.alp_volume.proofs.FileSteps.{is_there, no_file_more, none_judged, file_judged}
use Rattle.alp_volume.proofs.volume_files.read_file.Goals as goal

pub returns-in_default-clause-judged : goal.returns-in_default-clause-judged
returns-in_default-clause-judged g c home names tells marks listed owned named =
    let at = g.R.PageReader.pages c.args.reader.now in
    let none : entry_there (entry_in at c.args.slot) ≡ None = ap entry_there (sym (c.in_ok-found.ensures.entry tells) ∙ c.in_default.is) in
    none_judged home at names (entry_there (entry_in at c.args.slot)) none (λ ns. AreMarks home ns c.args.catalog.now.places × AreListed home at 4096 ns c.args.catalog.now.files c.args.catalog.now.slots × AreNamed (c.args.slot + 1) ns c.args.catalog.now.files)
    (marks, listed, no_file_more home at names c.args.catalog.now.files c.args.catalog.now.slots listed c.args.slot none named)

pub returns-in_default-found-clause-judged : goal.returns-in_default-found-clause-judged
returns-in_default-found-clause-judged g c home names tells marks listed owned named =
    let at = g.R.PageReader.pages c.args.reader.now in
    let none : entry_there (entry_in at c.args.slot) ≡ None = ap entry_there (sym (c.in_ok-found.ensures.entry tells) ∙ c.in-Some.is) ∙ c.in_default-found.is in
    none_judged home at names (entry_there (entry_in at c.args.slot)) none (λ ns. AreMarks home ns c.args.catalog.now.places × AreListed home at 4096 ns c.args.catalog.now.files c.args.catalog.now.slots × AreNamed (c.args.slot + 1) ns c.args.catalog.now.files)
    (marks, listed, no_file_more home at names c.args.catalog.now.files c.args.catalog.now.slots listed c.args.slot none named)

pub returns-then-entry-len-clause-judged : goal.returns-then-entry-len-clause-judged
returns-then-entry-len-clause-judged g c home names tells marks listed owned named =
    let at = g.R.PageReader.pages c.args.reader.now in
    let e = c.in-Some-found.entry in
    let here : entry_there (entry_in at c.args.slot) ≡ Some e = ap entry_there (sym (c.in_ok-found.ensures.entry tells) ∙ c.in-Some.is) ∙ c.in-Some-found.is in
    let there = is_there home at names c.args.catalog.now.files c.args.catalog.now.slots listed c.args.slot e c.requires.slot here in
    absurd (omega (arith, there.within, marks.long, c.len.ensures, c.if-entry-len.true))

pub returns-clause-judged : goal.returns-clause-judged
returns-clause-judged g c home names tells marks listed owned named =
    let r0 = c.args.reader.now in
    let r1 = c.read_slot.new.reader in
    let at = g.R.PageReader.pages r0 in
    let same : g.R.PageReader.pages r1 ≡ at = g.met.R.PageReader.same_pages r0 r1 c.in_ok-found.ensures.read.on in
    let told : IsTrue (g.R.PageReader.tells r1) = subst (λ (t : Bool). IsTrue t) (sym (g.met.R.PageReader.same_tells r0 r1 c.in_ok-found.ensures.read.on)) tells in
    let e = c.in-Some-found.entry in
    let here : entry_there (entry_in at c.args.slot) ≡ Some e = ap entry_there (sym (c.in_ok-found.ensures.entry tells) ∙ c.in-Some.is) ∙ c.in-Some-found.is in
    let there = is_there home at names c.args.catalog.now.files c.args.catalog.now.slots listed c.args.slot e c.requires.slot here in
    let owned1 = subst (λ (x : Pages). AreOwners x 256 c.args.catalog.now.owners c.args.catalog.now.rows) (sym same) owned in
    let judged = c.read_entry_file.ensures.judged home names told marks (named.later e.file there.found there.is (omega (arith, there.slot_is))) owned1 in
    let judged0 = subst (λ (x : Pages). IfOk c.read_entry_file.result (IsJudged home x names (parts_of x (Some e)) (λ ns. AreMarks home ns c.read_entry_file.new.catalog.places))) same judged in
    let kept = c.read_entry_file.ensures.kept there.found told there.is in
    let kept0 = subst (λ (x : Pages). IfOk c.read_entry_file.result (λ o. o ≡ None → (y : FileSlot) × (c.read_entry_file.new.catalog.files ≡ map.insert c.args.catalog.now.files e.file y) × IsKept there.found y (row_there (row_of_node (LeaderOf e.file) (x e.place))))) same kept in
    subst (λ (ss : List Bool). IfOk c.read_entry_file.result (IsJudged home at names (parts_of at (entry_there (entry_in at c.args.slot))) (λ ns. AreMarks home ns c.read_entry_file.new.catalog.places × AreListed home at 4096 ns c.read_entry_file.new.catalog.files ss × AreNamed (c.args.slot + 1) ns c.read_entry_file.new.catalog.files)))
    (sym c.read_entry_file.ensures.others.2)
    (file_judged home at names c.args.catalog.now.files c.args.catalog.now.slots listed c.args.slot e named there here c.read_entry_file.new.catalog.places c.read_entry_file.new.catalog.files c.read_entry_file.result judged0 kept0)
