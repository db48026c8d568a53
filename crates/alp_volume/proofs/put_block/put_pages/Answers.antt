use Rattle.std.specs.Prelude.{Some, true, false, not, ◌==◌, slice_index, slice_index_or, slice_set}
use Rattle.std.specs.Int.{bit_at}
use Rattle.std.specs.FinMap as map
use Rattle.std.proofs.Common.{◌≡◌, ◌∙◌, ◌<◌, ◌/◌, ◌%◌, List, ℕ, sym, ap, subst}
use Rattle.std.proofs.lemmas.Result.{on_ok_weaker}
use Rattle.alp_fields.specs.Forms.{whole}
use Rattle.alp_pages.specs.declared.leader.Leader.{Leader}
use Rattle.alp_pages.specs.Leader.{leader_page}
use Rattle.alp_volume.specs.declared.catalog.Catalog.{Catalog}
use Rattle.alp_pages.specs.Counted.{bit}
use Rattle.alp_volume.specs.Drafts.{Changed, laid}
use Rattle.alp_volume.specs.Undone.{with_file, with_place}
use Rattle.alp_volume.proofs.BlockDraft.{block_made}
use Rattle.alp_volume.proofs.put_block.put_pages.Goals as goal

pub returns-in_err-place-clause-sized : goal.returns-in_err-place-clause-sized
returns-in_err-place-clause-sized c home sized = c.take_place-2.ensures.sized home (c.take_place.ensures.sized home sized)

pub returns-in_err-keep_blocks-clause-sized : goal.returns-in_err-keep_blocks-clause-sized
returns-in_err-keep_blocks-clause-sized c home sized = c.keep_blocks.ensures.sized home (c.take_place-2.ensures.sized home (c.take_place.ensures.sized home sized))

pub returns-in_err-share-clause-sized : goal.returns-in_err-share-clause-sized
returns-in_err-share-clause-sized c home sized = c.keep_blocks.ensures.sized home (c.take_place-2.ensures.sized home (c.take_place.ensures.sized home sized))

pub returns-in_err-write-clause-sized : goal.returns-in_err-write-clause-sized
returns-in_err-write-clause-sized c home sized = c.keep_blocks.ensures.sized home (c.take_place-2.ensures.sized home (c.take_place.ensures.sized home sized))

pub returns-clause-sized : goal.returns-clause-sized
returns-clause-sized c home sized = c.keep_blocks.ensures.sized home (c.take_place-2.ensures.sized home (c.take_place.ensures.sized home sized))

pub returns-clause-put : goal.returns-clause-put
returns-clause-put c home base m d x sized there place reads none =
    let old = c.args.draft.now.pages in
    let catalog = c.args.catalog.now in
    let f = c.args.file in
    let n = c.args.number in
    let l = c.args.leader.now in
    let i = c.in_ok-index_at.index_at in
    let p = c.in_ok-place.place in
    let here : c.take_place-2.new.self ≡ with_place p true (with_place i true catalog) = c.in_ok-place.ensures.taken ∙ ap (with_place p true) c.in_ok-index_at.ensures.taken in
    let free_p : slice_index_or (slice_set catalog.places i true) p true ≡ false = ap (λ (k : Catalog). slice_index_or k.places p true) (sym c.in_ok-index_at.ensures.taken) ∙ c.in_ok-place.ensures.free in
    let read_there : whole leader_page (laid old base x.place) ≡ Some l = ap (λ (q : ℕ). whole leader_page (laid old base q)) place ∙ reads in
    let spelled : whole leader_page c.leader_page_of.result ≡ Some (record l { index = slice_set l.index (n / 128) i }) = c.leader_page_of.ensures ∙ ap (λ (xs : List ℕ). Some (record l { index = xs })) c.set.ensures in
    let bits = subst (λ (xs : List ℕ). (b : ℕ) → b < 32 → bit_at c.blocks_of.result b ≡ bit (not (slice_index xs b == 0))) c.set.ensures c.blocks_of.ensures in
    let kept : c.keep_blocks.new.self ≡ with_file f (record x { blocks = c.blocks_of.result }) (with_place p true (with_place i true catalog)) =
    c.in_ok-keep_blocks.ensures.kept x (ap (λ (k : Catalog). map.get k.files f) here ∙ there) ∙ ap (with_file f (record x { blocks = c.blocks_of.result })) here in
    let pages : c.write.new.self.pages ≡ map.insert (map.insert old p c.args.page) i c.first_index-index.result = c.in_ok-write.ensures.ok ∙ ap (λ (s : Changed). map.insert s i c.first_index-index.result) c.in_ok-share.ensures.ok in
    on_ok_weaker c.write-2.result
    (λ w. block_made home base old m catalog d sized f n c.requires.number x there l read_there none i p c.in_ok-index_at.ensures.free free_p c.args.page c.first_index-index.result c.leader_page_of.result c.first_index-index.ensures spelled c.write-2.new.self.pages
    (w ∙ ap (λ (s : Changed). map.insert s c.args.leader_at c.leader_page_of.result) pages ∙ ap (λ (q : ℕ). map.insert (map.insert (map.insert old p c.args.page) i c.first_index-index.result) q c.leader_page_of.result) (sym place)) c.blocks_of.result bits c.keep_blocks.new.self kept)
    c.write-2.ensures.ok
