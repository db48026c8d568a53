use Rattle.std.specs.Prelude.{Bool, IsTrue, Ok, Some, None, Option, ◌++◌, slice_index, false}
use Rattle.std.specs.Option.{option_to_list}
use Rattle.std.proofs.Common.{◌≡◌, ◌∙◌, ℕ, ◌+◌, ◌/◌, List, refl, sym, ap, subst, arith}
use Rattle.alp_base.specs.declared.ids.FileId.{FileId}
use Rattle.alp_pages.specs.Nodes.{DataOf}
use Rattle.alp_pages.specs.Pages.{Pages}
use Rattle.alp_pages.specs.Damage.{Part, Name, index_part, has_node, first_wrong, names_after}
use Rattle.alp_volume.specs.Reached.{AreMarks, IsJudged, blocks_from}
use Rattle.alp_volume.proofs.LoopLaws.{Along, along_begins, along_segment, along_segment_stops, along_done, read_none, read_then, read_ok}
use Rattle.alp_volume.proofs.FileNames.{blocks_step, blocks_end, fresh_block, later_block}
use Rattle.alp_volume.proofs.file_pages.read_blocks.Goals as goal

pub loop-block-init : goal.loop-block-init
loop-block-init g c = record {
  read = read_none g.met.R.PageReader.still c.args.reader.now;
  long = refl;
  stay = λ p taken. taken;
  told = λ home names f tells marks none. (names, along_begins home (g.R.PageReader.pages c.args.reader.now) names (blocks_from f c.args.size c.args.index.now 0), marks, λ n low. none n);
}

pub loop-block-preserved : goal.loop-block-preserved
loop-block-preserved g c =
    let r0 = c.args.reader.now in
    let r1 = c.loop-block.reader in
    let inv = c.loop-block.invariant in
    let same : g.R.PageReader.pages r1 ≡ g.R.PageReader.pages r0 = g.met.R.PageReader.same_pages r0 r1 inv.read.on in
    let telling : g.R.PageReader.tells r1 ≡ g.R.PageReader.tells r0 = g.met.R.PageReader.same_tells r0 r1 inv.read.on in
    record {
      read = read_ok g.met.R.PageReader.then_on r0 c.read_block.new.reader c.in_ok-wrong.field-0 tt (read_then g.met.R.PageReader.then_on r0 r1 c.read_block.new.reader tt (Ok c.in_ok-wrong.field-0) inv.read c.in_ok-wrong.ensures.read);
      long = c.read_block.ensures.long ∙ inv.long;
      stay = λ p taken. c.read_block.ensures.stay p (inv.stay p taken);
      told = λ home names f tells marks none.
          let t = inv.told home names f tells marks none in
          let at = g.R.PageReader.pages r0 in
          let b = c.loop-block.block in
          let row = c.args.index.now in
          let size = c.args.size in
          let judged = c.in_ok-wrong.ensures.judged home t.0 f (subst (λ (x : Bool). IsTrue x) (sym telling) tells) t.2 (fresh_block t.0 f b t.3) in
          let there = subst (λ (p : ℕ). IsJudged home (g.R.PageReader.pages r1) t.0 (option_to_list (index_part f size (b, p))) (λ ns. AreMarks home ns c.read_block.new.places) c.in_ok-wrong.field-0) c.at-place.ensures judged in
          let here = subst (λ (x : Pages). IsJudged home x t.0 (option_to_list (index_part f size (b, slice_index row b))) (λ ns. AreMarks home ns c.read_block.new.places) c.in_ok-wrong.field-0) same there in
          let along = subst (λ (ps : List Part). Along home at names (blocks_from f size row 0) ps t.0) (blocks_step f size row b (omega (arith, c.requires.row))) t.1 in
          let right = subst (λ (o : Option ℕ). IsJudged home at t.0 (option_to_list (index_part f size (b, slice_index row b))) (λ ns. AreMarks home ns c.read_block.new.places) o) c.in_default.is here in (
            _,
            along_segment home at names (blocks_from f size row 0) (option_to_list (index_part f size (b, slice_index row b))) (blocks_from f size row (b + 1)) t.0 along right.0,
            right.1,
            later_block at f size t.0 b (slice_index row b) t.3,
          );
    }

pub returns-in-Some-clause-judged : goal.returns-in-Some-clause-judged
returns-in-Some-clause-judged g c home names f tells marks none =
    let r0 = c.args.reader.now in
    let r1 = c.loop-block.reader in
    let inv = c.loop-block.invariant in
    let same : g.R.PageReader.pages r1 ≡ g.R.PageReader.pages r0 = g.met.R.PageReader.same_pages r0 r1 inv.read.on in
    let telling : g.R.PageReader.tells r1 ≡ g.R.PageReader.tells r0 = g.met.R.PageReader.same_tells r0 r1 inv.read.on in
    let t = inv.told home names f tells marks none in
    let at = g.R.PageReader.pages r0 in
    let b = c.loop-block.block in
    let row = c.args.index.now in
    let size = c.args.size in
    let judged = c.in_ok-wrong.ensures.judged home t.0 f (subst (λ (x : Bool). IsTrue x) (sym telling) tells) t.2 (fresh_block t.0 f b t.3) in
    let there = subst (λ (p : ℕ). IsJudged home (g.R.PageReader.pages r1) t.0 (option_to_list (index_part f size (b, p))) (λ ns. AreMarks home ns c.read_block.new.places) c.in_ok-wrong.field-0) c.at-place.ensures judged in
    let here = subst (λ (x : Pages). IsJudged home x t.0 (option_to_list (index_part f size (b, slice_index row b))) (λ ns. AreMarks home ns c.read_block.new.places) c.in_ok-wrong.field-0) same there in
    let along = subst (λ (ps : List Part). Along home at names (blocks_from f size row 0) ps t.0) (blocks_step f size row b (omega (arith, c.requires.row))) t.1 in
    let wrong = subst (λ (o : Option ℕ). IsJudged home at t.0 (option_to_list (index_part f size (b, slice_index row b))) (λ ns. AreMarks home ns c.read_block.new.places) o) c.in-Some.is here in
    along_segment_stops home at names (blocks_from f size row 0) (option_to_list (index_part f size (b, slice_index row b))) (blocks_from f size row (b + 1)) t.0 c.in-Some.wrong along wrong

pub returns-clause-judged : goal.returns-clause-judged
returns-clause-judged g c home names f tells marks none =
    let at = g.R.PageReader.pages c.args.reader.now in
    let t = c.loop-block.invariant.told home names f tells marks none in
    let done = along_done home at names (blocks_from f c.args.size c.args.index.now 0) t.0 (subst (λ (ps : List Part). Along home at names (blocks_from f c.args.size c.args.index.now 0) ps t.0) (blocks_end f c.args.size c.args.index.now c.loop-block.block (omega (arith, c.requires.row))) t.1) in
    (done.0, subst (λ (ns : List Name). AreMarks home ns c.loop-block.places) (sym done.1) t.2)
