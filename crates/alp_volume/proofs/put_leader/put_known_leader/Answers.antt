use Rattle.std.specs.Prelude.{Some}
use Rattle.std.proofs.Common.{◌≡◌, ◌∙◌, ◌∷◌, [], sym, ap}
use Rattle.alp_base.specs.declared.key.Key.TheVariants.{Leader}
use Rattle.alp_fields.specs.Forms.{whole}
use Rattle.alp_base.specs.declared.cell.Cell.TheVariants as cell
use Rattle.alp_files.specs.Edits.{Put, after}
use Rattle.alp_pages.specs.declared.leader.Leader.{Leader as LeaderRecord}
use Rattle.alp_pages.specs.Leader.{leader_page}
use Rattle.alp_volume.specs.Drafts.{laid}
use Rattle.alp_pages.specs.Nodes.{LeaderOf}
use Rattle.alp_pages.specs.Volume.{row_of_leader, row_of_node}
use Rattle.alp_pages.proofs.ChangeLaws.{leader_put}
use Rattle.alp_volume.proofs.DraftLaws.{put_laid}
use Rattle.alp_volume.proofs.put_leader.put_known_leader.Goals as goal

pub returns-in-Ok-clause-put : goal.returns-in-Ok-clause-put
returns-in-Ok-clause-put g c home m catalog f d tells there =
    let base = g.R.PageReader.pages c.args.reader.now in
    let old = c.args.draft.now.pages in
    let bytes = c.leader_page_of.result in
    let l : LeaderRecord = record { file = c.in-Some.old.file; props = c.args.props; index = c.in-Some.old.index } in
    let reads : whole leader_page bytes ≡ Some l = c.leader_page_of.ensures in
    let before : whole leader_page (laid old base c.args.at) ≡ Some c.in-Some.old = sym (c.in_ok-old.ensures.leader tells) ∙ c.in-Some.is in
    let row : row_of_node (LeaderOf f) bytes ≡ row_of_node (LeaderOf f) (laid old base c.args.at) = ap (row_of_leader f) reads ∙ sym (ap (row_of_leader f) before) in
    put_laid home old c.write.new.self.pages base c.args.at bytes (after (Put (Leader f) (cell.Leader c.args.props) ∷ []) m) catalog c.in-Ok.ensures.ok
    (record { volume = d.volume; spells = leader_put home (laid old base) d.volume m d.spells f c.args.at there bytes l reads row; knows = d.knows })
