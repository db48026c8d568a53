use Rattle.std.specs.Prelude.{None}
use Rattle.std.proofs.Common.{◌≡◌, List, ap, sym, ◌∙◌, arith}
use Rattle.std.proofs.lemmas.Result.{IfOk-weaker}
use Rattle.alp_files.specs.Changes.{edits_of}
use Rattle.alp_files.specs.Holdings.{held_by}
use Rattle.alp_files.specs.Locks.{Need}
use Rattle.alp_locks.specs.Asks.{with_regained}
use Rattle.alp_locks.specs.Tables.{Table, holding}
use Rattle.alp_regain.proofs.ListLemmas.{both, neither}
use Rattle.alp_regain.proofs.LiveLemmas.{own_holding, counted_in, good_held}
use Rattle.alp_regain.proofs.parts.locks_of.Goals as goal

pub returns-then-not-are_good_locks-clause-bad : goal.returns-then-not-are_good_locks-clause-bad
returns-then-not-are_good_locks-clause-bad c = λ bad agree good.
    let held : holding c.take_locks.new.table.held c.args.kept.now.trans ≡ held_by c.args.kept.now.locks =
    ap (λ (t : Table). holding t.held c.args.kept.now.trans) (c.in_ok-take_locks.ensures.after ∙ ap (λ (ns : List Need). with_regained c.args.table.now c.args.kept.now.trans ns None) c.as_slice.ensures)
    ∙ own_holding c.args.table.now c.args.kept.now.trans c.args.kept.now.locks c.requires.unknown in
    neither (sym (good_held (holding c.take_locks.new.table.held c.args.kept.now.trans) c.args.kept.now.locks (edits_of c.args.kept.now.change) held) ∙ sym c.are_good_locks.ensures ∙ c.if-not-are_good_locks.true) good.intended good.covered

pub returns-clause-count : goal.returns-clause-count
returns-clause-count c =
    let after : c.take_locks.new.table ≡ with_regained c.args.table.now c.args.kept.now.trans c.args.kept.now.locks None =
    c.in_ok-take_locks.ensures.after ∙ ap (λ (ns : List Need). with_regained c.args.table.now c.args.kept.now.trans ns None) c.as_slice.ensures in
    IfOk-weaker c.count_locks.result _ _ (λ n h. h.0 ∙ counted_in c.args.table.now c.args.kept.now.trans c.args.kept.now.locks c.requires.unknown c.take_locks.new.table after) c.count_locks.ensures.count

pub returns-clause-good : goal.returns-clause-good
returns-clause-good c =
    let after : c.take_locks.new.table ≡ with_regained c.args.table.now c.args.kept.now.trans c.args.kept.now.locks None =
    c.in_ok-take_locks.ensures.after ∙ ap (λ (ns : List Need). with_regained c.args.table.now c.args.kept.now.trans ns None) c.as_slice.ensures in
    let held : holding c.take_locks.new.table.held c.args.kept.now.trans ≡ held_by c.args.kept.now.locks =
    ap (λ (t : Table). holding t.held c.args.kept.now.trans) after ∙ own_holding c.args.table.now c.args.kept.now.trans c.args.kept.now.locks c.requires.unknown in
    let all = both (sym (good_held (holding c.take_locks.new.table.held c.args.kept.now.trans) c.args.kept.now.locks (edits_of c.args.kept.now.change) held) ∙ sym c.are_good_locks.ensures ∙ c.if-not-are_good_locks.false) in
    IfOk-weaker c.count_locks.result _ _ (λ n h. record {
      intended = all.0;
      covered = all.1;
      few = omega (arith, h.0, h.1, counted_in c.args.table.now c.args.kept.now.trans c.args.kept.now.locks c.requires.unknown c.take_locks.new.table after);
    }) c.count_locks.ensures.count

pub returns-clause-bad : goal.returns-clause-bad
returns-clause-bad c = λ bad agree good.
    let after : c.take_locks.new.table ≡ with_regained c.args.table.now c.args.kept.now.trans c.args.kept.now.locks None =
    c.in_ok-take_locks.ensures.after ∙ ap (λ (ns : List Need). with_regained c.args.table.now c.args.kept.now.trans ns None) c.as_slice.ensures in
    omega (arith, c.count_locks.ensures.bad bad, good.few, counted_in c.args.table.now c.args.kept.now.trans c.args.kept.now.locks c.requires.unknown c.take_locks.new.table after)
