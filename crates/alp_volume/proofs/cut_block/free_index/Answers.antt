use Rattle.std.specs.Prelude.{Some, false}
use Rattle.std.specs.FinMap as map
use Rattle.std.proofs.Common.{◌≡◌, ◌∙◌, sym, ap, subst}
use Rattle.std.proofs.lemmas.Result.{on_ok_weaker}
use Rattle.alp_volume.specs.declared.catalog.Catalog.{Catalog}
use Rattle.alp_volume.specs.Undone.{with_file, with_place}
use Rattle.alp_volume.proofs.SheetLaws.{beside_after}
use Rattle.alp_volume.proofs.cut_block.free_index.Goals as goal

pub returns-in_err-keep_blocks-clause-sized : goal.returns-in_err-keep_blocks-clause-sized
returns-in_err-keep_blocks-clause-sized c home sized = c.keep_blocks.ensures.sized home (c.free_place.ensures.sized home sized)

pub returns-clause-sized : goal.returns-clause-sized
returns-clause-sized c home sized = c.keep_blocks.ensures.sized home (c.free_place.ensures.sized home sized)

pub returns-clause-freed : goal.returns-clause-freed
returns-clause-freed c x there least within =
    let i = c.at-index_at.result in
    let freed : c.free_place.new.self ≡ with_place i false c.args.catalog.now = c.in_ok-free_place.ensures.freed (rw c.at-index_at.ensures least) (rw c.at-index_at.ensures within) in
    let at : c.free_place.new.self ≡ with_place c.at-index_at.result false c.args.catalog.now = freed in
    let kept = c.in_ok-keep_blocks.ensures.kept x (ap (λ (k : Catalog). map.get k.files c.args.file) freed ∙ there) in
    on_ok_weaker c.write.result
    (λ w. (c.blocks_of.result, c.blocks_of.ensures, kept ∙ ap (with_file c.args.file (record x { blocks = c.blocks_of.result })) (freed ∙ ap (λ n. with_place n false c.args.catalog.now) c.at-index_at.ensures)))
    c.write.ensures.ok

pub returns-clause-few : goal.returns-clause-few
returns-clause-few c = beside_after c.write.result c.args.draft.now.pages c.write.new.self.pages c.args.leader_at c.leader_page_of.result c.write.ensures.ok c.write.ensures.err
