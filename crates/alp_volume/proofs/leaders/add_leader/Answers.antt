use Rattle.std.specs.Prelude.{Bool, true, false, ◌&&◌, Some, None, Option}
use Rattle.std.specs.FinMap as map
use Rattle.std.proofs.Common.{◌≡◌, rules, List, ℕ, refl, sym, ◌∙◌, ap, subst, arith}
use Rattle.alp_pages.specs.Nodes.{LeaderOf}
use Rattle.alp_pages.specs.Damage.{Name, added, is_within, are_new, names_of}
use Rattle.alp_volume.specs.Reached.{AreMarks}
use Rattle.alp_volume.proofs.LeaderParts.{no_owner, row_judged, names_are}
use Rattle.alp_volume.proofs.SizedLaws.{blocks_sized, places_sized}
use Rattle.alp_volume.proofs.leaders.add_leader.Goals as goal

pub returns-in_default-clause-judged : goal.returns-in_default-clause-judged
returns-in_default-clause-judged c home at names place reads marks fresh owned =
    let none : map.get c.args.catalog.now.owners c.args.leader.now.props.owner ≡ None = search rules in
    no_owner home at names c.args.file place c.args.leader.now reads c.args.catalog.now.owners c.args.catalog.now.rows owned none

pub returns-clause-judged : goal.returns-clause-judged
returns-clause-judged c home at names place reads marks fresh owned =
    let own : c.args.leader.now.file ≡ c.args.file = search rules in
    let there : map.get c.args.catalog.now.owners c.args.leader.now.props.owner ≡ Some c.in-Some.field-0 = search rules in
    row_judged home at names c.args.file place c.args.leader.now reads c.args.catalog.now.owners c.args.catalog.now.rows owned own c.in-Some.field-0 there true
    (sym c.if-not-mark_row.false ∙ c.mark_row.ensures.judged home names (LeaderOf c.args.file) marks fresh ∙ ap (λ (xs : List ℕ). is_within 32 (Some xs) && are_new home names (names_of (LeaderOf c.args.file) xs)) c.as_slice.ensures.same)

pub returns-clause-marked : goal.returns-clause-marked
returns-clause-marked c home at names place reads marks fresh _ =
    let own : c.args.leader.now.file ≡ c.args.file = search rules in
    let is = ap (names_of (LeaderOf c.args.file)) c.as_slice.ensures.same ∙ sym (names_are home at names c.args.file place c.args.leader.now reads own) in
    subst (λ (xs : List Name). AreMarks home (added names xs) c.mark_row.new.places) is (c.mark_row.ensures.marked home names (LeaderOf c.args.file) marks fresh c.if-not-mark_row.false)

pub returns-then-not-mark_row-clause-sized : goal.returns-then-not-mark_row-clause-sized
returns-then-not-mark_row-clause-sized c home sized = places_sized home c.args.catalog.now sized c.mark_row.new.places c.mark_row.ensures.long c.mark_row.ensures.stay

pub returns-clause-sized : goal.returns-clause-sized
returns-clause-sized c home sized =
    blocks_sized home c.args.catalog.now c.args.file sized c.args.leader.now.index c.keep_blocks.new.files c.keep_blocks.ensures.kept c.keep_blocks.ensures.absent c.mark_row.new.places c.mark_row.ensures.long c.mark_row.ensures.stay
