use Rattle.std.specs.Prelude.{Bool, true, false, not, ◌==◌, Option, None, Some, OnOk, Result, Ok, Err, option_map, slice_index, slice_set}
use Rattle.std.specs.Int.{bit_at}
use Rattle.std.specs.FinMap as map
use Rattle.std.proofs.Common.{◌≡◌, ◌∙◌, ◌+◌, ◌*◌, ◌<◌, ◌∷◌, [], List, ℕ, length, refl, sym, ap, subst, arith}
use Rattle.std.proofs.lemmas.Result.{on_ok_weaker}
use Rattle.alp_fields.specs.Forms.{whole}
use Rattle.alp_files.specs.Cells.{View}
use Rattle.alp_files.specs.Edits.{Cut, after}
use Rattle.alp_pages.specs.declared.leader.Leader.{Leader}
use Rattle.alp_pages.specs.Leader.{leader_page}
use Rattle.alp_volume.specs.declared.catalog.Catalog.{Catalog}
use Rattle.alp_tables.specs.declared.file_slot.FileSlot.{FileSlot}
use Rattle.alp_pages.specs.Counted.{bit}
use Rattle.alp_volume.specs.Drafts.{Changed, IsCutting, laid}
use Rattle.alp_volume.specs.Known.{leader_of}
use Rattle.alp_pages.specs.Pages.{Pages, index_page, has_a_place, written}
use Rattle.alp_volume.specs.Undone.{with_file, with_place}
use Rattle.alp_volume.proofs.CutDraft.{a_place, freeable, index_bounds}
use Rattle.alp_volume.proofs.CutRow.{cutting_left, cutting_all}
use Rattle.alp_volume.proofs.LaidLaws.{laid_put}
use Rattle.alp_volume.proofs.SheetLaws.{beside_put}
use Rattle.alp_volume.proofs.cut_block.cut_row.Goals as goal

both : {T E : Type 0} (r : Result T E) (P Q : Type 0) → OnOk r P → OnOk r Q → OnOk r (P × Q)
both (Ok x) P Q p q = (p, q)
both (Err x) P Q p q = tt

has_slot : (o : Option FileSlot) (place : ℕ) → option_map leader_of o ≡ Some place → (x : FileSlot) × (o ≡ Some x)
has_slot None place h = cc
has_slot (Some x) place h = (x, refl)

pub returns-then-is_used-clause-cut : goal.returns-then-is_used-clause-cut
returns-then-is_used-clause-cut c home base m sized cutting none reads0 some0 =
    let old = c.args.draft.now.pages in
    let catalog = c.args.catalog.now in
    let f = c.args.file in
    let l = c.args.leader.now in
    let at = laid old base in
    let i = c.at.result in
    let index_is = sym c.at.ensures in
    let some : i ≡ 0 → ⊥ = λ z. some0 (sym c.at.ensures ∙ z) in
    let reads : whole index_page (at i) ≡ Some c.args.row.now = ap (λ (q : ℕ). whole index_page (at q)) c.at.ensures ∙ reads0 in
    let free = c.in_ok-free_slots.ensures in
    let left = c.free_slots.new.row in
    let freed = free.places (freeable home at m catalog f c.args.leader_at l cutting sized c.args.block c.args.first c.requires.block c.requires.first none i index_is some c.args.row.now reads) in
    let has : has_a_place left ≡ true = sym c.is_used.ensures ∙ c.if-is_used.true in
    let made = cutting_left home at m catalog f c.args.leader_at l cutting sized c.args.block c.args.first c.requires.block c.requires.first none i index_is some c.args.row.now reads left free.kept free.none c.free_slots.new.catalog.places c.free_slots.ensures.all freed c.page.result c.page.ensures has in
    on_ok_weaker c.write.result
    (λ w. subst (λ (k : Catalog). IsCutting home (laid c.write.new.self.pages base) (after (Cut f (128 * c.args.block + c.args.first) ∷ []) m) k f c.args.leader_at l) (sym c.free_slots.ensures.only)
    (subst (λ (y : Pages). IsCutting home y (after (Cut f (128 * c.args.block + c.args.first) ∷ []) m) (record catalog { places = c.free_slots.new.catalog.places }) f c.args.leader_at l) (sym (ap (λ (s : Changed). laid s base) w ∙ laid_put old base i c.page.result)) made))
    c.write.ensures.ok

pub returns-clause-cut : goal.returns-clause-cut
returns-clause-cut c home base m sized cutting none reads some =
    let old = c.args.draft.now.pages in
    let catalog = c.args.catalog.now in
    let f = c.args.file in
    let l = c.args.leader.now in
    let place = c.args.leader_at in
    let block = c.args.block in
    let at = laid old base in
    let row = c.args.row.now in
    let i = slice_index l.index block in
    let free = c.in_ok-free_slots.ensures in
    let mid = c.free_slots.new.catalog in
    let left = c.free_slots.new.row in
    let freed = free.places (freeable home at m catalog f place l cutting sized block c.args.first c.requires.block c.requires.first none i refl some row reads) in
    let empty : has_a_place left ≡ false = sym c.is_used.ensures ∙ c.if-is_used.false in
    let there = has_slot (map.get catalog.files f) place (cutting.draft.knows.leaders f ∙ cutting.there) in
    let x = there.0 in
    let there_mid : map.get mid.files f ≡ Some x = ap (λ (k : Catalog). map.get k.files f) c.free_slots.ensures.only ∙ there.1 in
    let bounds = index_bounds home at m catalog f place l cutting sized block c.args.first c.requires.block c.requires.first none i refl some row reads in
    let within : i < length mid.places = omega (arith, c.free_slots.ensures.all, bounds.1) in
    let fi = c.free_index.ensures in
    on_ok_weaker c.free_index.result
    (λ w.
    let lbytes = w.0.0 in
    let spelled : whole leader_page lbytes ≡ Some (record l { index = slice_set l.index block 0 }) = w.0.1 ∙ ap Some fi.leader in
    let bits = subst (λ (k : Leader). (b : ℕ) → b < 32 → bit_at w.1.0 b ≡ bit (not (slice_index k.index b == 0))) fi.leader w.1.1 in
    let made = cutting_all home at m catalog f place l cutting sized block c.args.first c.requires.block c.requires.first none i refl some row reads left free.kept free.none mid.places c.free_slots.ensures.all freed empty lbytes spelled x there.1 w.1.0 bits in
    let now : c.free_index.new.catalog ≡ with_file f (record x { blocks = w.1.0 }) (with_place i false (record catalog { places = mid.places })) = w.1.2 ∙ ap (λ (k : Catalog). with_file f (record x { blocks = w.1.0 }) (with_place i false k)) c.free_slots.ensures.only in
    subst (λ (k : Leader). IsCutting home (laid c.free_index.new.draft.pages base) (after (Cut f (128 * block + c.args.first) ∷ []) m) c.free_index.new.catalog f place k) (sym fi.leader)
    (subst (λ (k : Catalog). IsCutting home (laid c.free_index.new.draft.pages base) (after (Cut f (128 * block + c.args.first) ∷ []) m) k f place (record l { index = slice_set l.index block 0 })) (sym now)
    (subst (λ (y : Pages). IsCutting home y (after (Cut f (128 * block + c.args.first) ∷ []) m) (with_file f (record x { blocks = w.1.0 }) (with_place i false (record catalog { places = mid.places }))) f place (record l { index = slice_set l.index block 0 }))
    (sym (ap (λ (s : Changed). laid s base) w.0.2 ∙ laid_put old base place lbytes)) made)))
    (both c.free_index.result _ _ fi.written (fi.freed x there_mid bounds.0 within))

pub returns-clause-sized : goal.returns-clause-sized
returns-clause-sized c home sized = c.free_index.ensures.sized home (c.free_slots.ensures.sized home sized)

pub returns-then-is_used-clause-few : goal.returns-then-is_used-clause-few
returns-then-is_used-clause-few c all =
    let j = a_place c.free_slots.new.row (sym c.is_used.ensures ∙ c.if-is_used.true) in
    absurd (j.2 (c.in_ok-free_slots.ensures.none j.0 (omega arith)))

pub returns-then-is_used-clause-some : goal.returns-then-is_used-clause-some
returns-then-is_used-clause-some c = beside_put c.write.result c.args.draft.now.pages c.write.new.self.pages c.args.leader_at c.at.result c.page.result c.write.ensures.ok c.write.ensures.err
