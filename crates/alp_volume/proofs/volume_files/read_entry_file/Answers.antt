use Rattle.std.specs.Prelude.{Bool, IsTrue, Some, None, Option, IfOk, true, false}
use Rattle.std.proofs.Common.{◌≡◌, ◌∙◌, ◌∷◌, ℕ, List, sym, ap, subst}
use Rattle.std.specs.List.{filter_map, enumerate_from}
use Rattle.alp_fields.specs.Forms.{whole}
use Rattle.alp_pages.specs.Leader.{leader_page}
use Rattle.alp_pages.specs.Nodes.{LeaderOf}
use Rattle.alp_pages.specs.Pages.{Pages}
use Rattle.alp_pages.specs.Volume.{row_of_node}
use Rattle.alp_pages.specs.Damage.{Part, NodePage, Name, is_right, row_there, added, names_in, index_part, size_of}
use Rattle.alp_volume.specs.Reached.{AreFresh, AreMarks, IsJudged, blocks_from}
use Rattle.alp_volume.proofs.LeaderParts.{own_row}
use Rattle.alp_volume.proofs.SizedLaws.{places_sized}
use Rattle.alp_volume.proofs.FileNames.{leader_no_data, result_passes, blocks_are}
use Rattle.alp_volume.proofs.volume_files.read_entry_file.Goals as goal

pub returns-clause-judged : goal.returns-clause-judged
returns-clause-judged g c home names tells marks unread owned =
    let r0 = c.args.reader.now in
    let r1 = c.read_leader.new.reader in
    let at = g.R.PageReader.pages r0 in
    let f = c.args.entry.file in
    let place = c.args.entry.place in
    let l = c.in-Some.leader in
    let same : g.R.PageReader.pages r1 ≡ at = g.met.R.PageReader.same_pages r0 r1 c.in_ok-leader.ensures.read.on in
    let told : IsTrue (g.R.PageReader.tells r1) = subst (λ (t : Bool). IsTrue t) (sym (g.met.R.PageReader.same_tells r0 r1 c.in_ok-leader.ensures.read.on)) tells in
    let reads : whole leader_page (at place) ≡ Some l = sym (c.in_ok-leader.ensures.leader tells) ∙ c.in-Some.is in
    let own = c.add_leader.ensures.own c.if-not-add_leader.false in
    let row = own_row home at names f place l reads own in
    let fresh : AreFresh (LeaderOf f) names = record { parent = tt; children = λ j. unread.index j } in
    let right : is_right home at names (NodePage (LeaderOf f) 32 place) ≡ true = sym (c.add_leader.ensures.judged home at names place reads marks fresh owned) ∙ c.if-not-add_leader.false in
    let marks1 = c.add_leader.ensures.marked home at names place reads marks fresh c.if-not-add_leader.false in
    let names1 : List Name = added names (names_in at (NodePage (LeaderOf f) 32 place)) in
    let judged = c.read_blocks.ensures.judged home names1 f told marks1 (λ n. leader_no_data f f names (row_there (row_of_node (LeaderOf f) (at place))) n ∙ unread.pages n) in
    let here = subst (λ (x : Pages). IfOk c.read_blocks.result (IsJudged home x names1 (blocks_from f l.props.size l.index 0) (λ ns. AreMarks home ns c.read_blocks.new.places))) same judged in
    let parts = subst (λ (ps : List Part). IfOk c.read_blocks.result (IsJudged home at names1 ps (λ ns. AreMarks home ns c.read_blocks.new.places))) (sym (blocks_are at f place l reads row)) here in
    result_passes home at names (NodePage (LeaderOf f) 32 place) (filter_map (index_part f (size_of (whole leader_page (at place)))) (enumerate_from 0 (row_there (row_of_node (LeaderOf f) (at place))))) (λ ns. AreMarks home ns c.read_blocks.new.places) c.read_blocks.result right parts

pub returns-clause-sized : goal.returns-clause-sized
returns-clause-sized g c home sized = places_sized home c.add_leader.new.catalog (c.add_leader.ensures.sized home sized) c.read_blocks.new.places c.read_blocks.ensures.long c.read_blocks.ensures.stay
