use Rattle.std.specs.Prelude.{Some, slice_index_or}
use Rattle.std.specs.FinMap as map
use Rattle.std.proofs.Common.{◌≡◌, ◌+◌, ◌/◌, List, ℕ, refl, ap, subst, ◌∙◌}
use Rattle.alp_pages.specs.declared.leader.Leader.{Leader}
use Rattle.alp_pages.specs.Changes.{HasSlot}
use Rattle.alp_volume.specs.Drafts.{Changed, laid}
use Rattle.alp_volume.proofs.FileDraft.{file_made}
use Rattle.alp_pages.proofs.IndexLaws.{no_places}
use Rattle.alp_volume.proofs.put_file.put_new_leader.Goals as goal

pub returns-in_default-clause-sized : goal.returns-in_default-clause-sized
returns-in_default-clause-sized g c = c.take_file.ensures.sized (g.R.PageReader.home c.args.reader.now) c.requires.sized

pub returns-in_err-entries-clause-sized : goal.returns-in_err-entries-clause-sized
returns-in_err-entries-clause-sized g c = c.take_file.ensures.sized (g.R.PageReader.home c.args.reader.now) c.requires.sized

pub returns-in-Ok-write_file-clause-sized : goal.returns-in-Ok-write_file-clause-sized
returns-in-Ok-write_file-clause-sized g c = c.take_file.ensures.sized (g.R.PageReader.home c.args.reader.now) c.requires.sized

pub returns-in-Ok-write_file-clause-put : goal.returns-in-Ok-write_file-clause-put
returns-in-Ok-write_file-clause-put g c m tells d none =
    let home = g.R.PageReader.home c.args.reader.now in
    let base = g.R.PageReader.pages c.args.reader.now in
    let old = c.args.draft.now.pages in
    let f = c.args.file in
    let p = c.in-Ok.place in
    let slot = c.in-Ok.slot in
    let dir = c.in_ok-entries.entries in
    let has = subst (λ (s : Changed). HasSlot (laid s base) dir slot (Some (record { file = f; place = p }))) c.take_file.ensures.pages (c.in_ok-entries.ensures.page tells) in
    let w = c.in-Ok-write_file.ensures.written in
    let l : Leader = record { file = f; props = c.args.props; index = c.new.result } in
    let empty : (j : ℕ) → slice_index_or c.new.result j 0 ≡ 0 = λ j. ap (λ (xs : List ℕ). slice_index_or xs j 0) c.new.ensures ∙ no_places 32 j in
    file_made home base old m c.args.catalog.now d c.requires.sized f c.requires.new p slot c.in-Ok.ensures.place c.in-Ok.ensures.slot none dir w.0 l has w.1 refl empty c.write_file.new.draft.pages
    (w.2 ∙ ap (λ (s : Changed). map.insert (map.insert s p w.0) (1 + slot / 32) dir) c.take_file.ensures.pages) c.take_file.new.catalog c.in-Ok.ensures.taken

pub returns-clause-sized : goal.returns-clause-sized
returns-clause-sized g c = c.take_file.ensures.sized (g.R.PageReader.home c.args.reader.now) c.requires.sized
