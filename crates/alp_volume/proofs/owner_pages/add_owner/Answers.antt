use Rattle.std.specs.Prelude.{Some, None}
use Rattle.std.specs.Cmp.Lexicographic.{nat_list_cmp_total}
use Rattle.std.proofs.Common.{◌≡◌, rules, sym, ◌∙◌, ap, arith}
use Rattle.alp_pages.specs.Pages.{row_in}
use Rattle.alp_volume.proofs.ListLaws.{few_more}
use Rattle.alp_volume.proofs.SizedLaws.{owner_taken_sized}
use Rattle.alp_volume.proofs.RowLaws.{right_row, wrong_charge, none_owned, added_owned}
use Rattle.alp_volume.proofs.owner_pages.add_owner.Goals as goal

pub returns-in_default-found-clause-owned : goal.returns-in_default-found-clause-owned
returns-in_default-found-clause-owned c at found owned _ =
    let e : c.args.found ≡ Some None = search rules in
    none_owned at c.args.row c.args.catalog.now.owners c.args.catalog.now.rows owned (sym found ∙ e)

pub returns-clause-judged : goal.returns-clause-judged
returns-clause-judged c at found costs owned =
    let o = c.in-Some-found.owner in
    let e : c.args.found ≡ Some (Some o) = search rules in
    right_row at c.args.row c.args.catalog.now.owners c.args.catalog.now.rows owned o c.args.costs.now (sym found ∙ e) costs (omega (arith, c.from.ensures, c.charge_of.ensures, c.if-from-charge_of.false)) c.add.result c.add.ensures.new

pub returns-clause-owned : goal.returns-clause-owned
returns-clause-owned c at found owned ok =
    let o = c.in-Some-found.owner in
    let e : c.args.found ≡ Some (Some o) = search rules in
    added_owned at c.args.row c.args.catalog.now.owners c.args.catalog.now.rows owned o (sym found ∙ e) c.requires.row c.add.new.self c.add.result ok c.add.ensures.new c.add.ensures.added
    c.mark.new.self c.mark.result c.mark.ensures.yes (λ x. (c.mark.ensures.no x).0)

pub returns-clause-few : goal.returns-clause-few
returns-clause-few c = few_more nat_list_cmp_total c.args.catalog.now.owners c.add.new.self _ _ c.add.result c.add.ensures.added c.add.ensures.same

pub returns-clause-sized : goal.returns-clause-sized
returns-clause-sized c home sized =
    owner_taken_sized home c.args.catalog.now c.in-Some-found.owner.name c.args.row sized c.requires.row c.mark.new.self c.mark.ensures.long c.add.new.self c.add.result c.add.ensures.added c.add.ensures.same
