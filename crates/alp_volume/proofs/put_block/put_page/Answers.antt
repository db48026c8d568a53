use Rattle.std.specs.Prelude.{Bool, IsTrue, Some, None, OnOk, slice_index}
use Rattle.std.specs.FinMap as map
use Rattle.std.proofs.Common.{◌≡◌, ◌∙◌, ◌<◌, ◌/◌, ◌∷◌, [], ℕ, refl, sym, ap, subst, arith}
use Rattle.alp_base.specs.declared.key.Key.TheVariants.{PageOf}
use Rattle.alp_fields.specs.Forms.{whole}
use Rattle.alp_base.specs.declared.cell.Cell.TheVariants as cell
use Rattle.alp_files.specs.Edits.{Put, after}
use Rattle.alp_pages.specs.Leader.{leader_page}
use Rattle.alp_volume.specs.Drafts.{IsDraft, laid}
use Rattle.alp_volume.specs.Known.{IsCatalog}
use Rattle.alp_pages.specs.Nodes.{IndexOf}
use Rattle.alp_pages.specs.Pages.{Pages}
use Rattle.alp_volume.proofs.KnowsLaws.{leader_there, row_names, unplaced}
use Rattle.alp_pages.proofs.UniqueLaws.{number}
use Rattle.alp_volume.proofs.put_block.put_page.Goals as goal
use Rattle.alp_volume.proofs.put_block.put_page.Goals.{in-Ok, in-Err}

pub returns-then-index_at-eq0-clause-put : goal.returns-then-index_at-eq0-clause-put
returns-then-index_at-eq0-clause-put g c m tells d has =
    let home = g.R.PageReader.home c.args.reader.now in
    let base = g.R.PageReader.pages c.args.reader.now in
    let f = c.args.file in
    let x = c.in-Some.kept in
    let l = c.in-Some-2.leader in
    let at = laid c.args.draft.now.pages base in
    let there : map.get c.args.catalog.now.files f ≡ Some x = sym c.get.ensures ∙ c.in-Some.is in
    let reads : whole leader_page (at x.place) ≡ Some l = sym (c.in_ok-leader.ensures.leader tells) ∙ c.in-Some-2.is in
    let near : c.args.number / 128 < 32 = omega (arith, c.requires.number) in
    let none : d.volume.places.of (IndexOf f (c.args.number / 128)) ≡ None =
    unplaced home at d.volume m d.spells (IndexOf f (c.args.number / 128))
    (sym (row_names home at d.volume m d.spells f x.place (leader_there home d.volume c.args.catalog.now d.knows f x there) l reads (c.args.number / 128) near) ∙ sym c.at-index_at.ensures ∙ c.if-index_at-eq0.true) in
    elim c.match-put_pages.branch [
      | in-Ok w ↦ subst (λ r. OnOk r (IsDraft home (laid c.put_pages.new.draft.pages base) (after (Put (PageOf f c.args.number) (cell.Page c.args.page) ∷ []) m) c.put_pages.new.catalog)) (sym w.result-is) (w.in-Ok.ensures.put home base m d x c.requires.sized there refl reads none)
      | in-Err w ↦ subst (λ r. OnOk r (IsDraft home (laid c.put_pages.new.draft.pages base) (after (Put (PageOf f c.args.number) (cell.Page c.args.page) ∷ []) m) c.put_pages.new.catalog)) (sym w.result-is) tt
    ]

pub returns-then-index_at-eq0-clause-sized : goal.returns-then-index_at-eq0-clause-sized
returns-then-index_at-eq0-clause-sized g c = c.put_pages.ensures.sized (g.R.PageReader.home c.args.reader.now) c.requires.sized

pub returns-clause-put : goal.returns-clause-put
returns-clause-put g c m tells d0 has =
    let r0 = c.args.reader.now in
    let r1 = c.draft_leader.new.reader in
    let home = g.R.PageReader.home r0 in
    let base = g.R.PageReader.pages r1 in
    let same : base ≡ g.R.PageReader.pages r0 = g.met.R.PageReader.same_pages r0 r1 c.in_ok-leader.ensures.read.on in
    let told : IsTrue (g.R.PageReader.tells r1) = subst (λ (t : Bool). IsTrue t) (sym (g.met.R.PageReader.same_tells r0 r1 c.in_ok-leader.ensures.read.on)) tells in
    let d : IsDraft home (laid c.args.draft.now.pages base) m c.args.catalog.now = subst (λ (y : Pages). IsDraft home (laid c.args.draft.now.pages y) m c.args.catalog.now) (sym same) d0 in
    let f = c.args.file in
    let x = c.in-Some.kept in
    let l = c.in-Some-2.leader in
    let at = laid c.args.draft.now.pages base in
    let there : map.get c.args.catalog.now.files f ≡ Some x = sym c.get.ensures ∙ c.in-Some.is in
    let reads : whole leader_page (at x.place) ≡ Some l = ap (λ (y : Pages). whole leader_page (laid c.args.draft.now.pages y x.place)) same ∙ sym (c.in_ok-leader.ensures.leader tells) ∙ c.in-Some-2.is in
    let near : c.args.number / 128 < 32 = omega (arith, c.requires.number) in
    let here : d.volume.places.of (IndexOf f (c.args.number / 128)) ≡ Some c.at-index_at.result =
    number (d.volume.places.of (IndexOf f (c.args.number / 128))) c.at-index_at.result
    (sym (row_names home at d.volume m d.spells f x.place (leader_there home d.volume c.args.catalog.now d.knows f x there) l reads (c.args.number / 128) near) ∙ sym c.at-index_at.ensures) (omega (arith, c.if-index_at-eq0.false)) in
    let same_home : home ≡ g.R.PageReader.home r1 = sym (g.met.R.PageReader.same_home r0 r1 c.in_ok-leader.ensures.read.on) in
    subst (λ (y : Pages). OnOk c.put_in_block.result (IsDraft home (laid c.put_in_block.new.draft.pages y) (after (Put (PageOf f c.args.number) (cell.Page c.args.page) ∷ []) m) c.put_in_block.new.catalog)) same (c.put_in_block.ensures.put home m f d same_home told here)

pub returns-clause-sized : goal.returns-clause-sized
returns-clause-sized g c = subst (λ (n : ℕ). IsCatalog n c.put_in_block.new.catalog) (g.met.R.PageReader.same_home c.args.reader.now c.draft_leader.new.reader c.in_ok-leader.ensures.read.on) c.put_in_block.ensures.sized
