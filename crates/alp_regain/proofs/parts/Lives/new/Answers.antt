use Rattle.std.specs.FinMap as map
use Rattle.std.specs.FinMap.{get-empty}
use Rattle.std.proofs.Common.{List, [], ap, sym, subst, ◌∙◌}
use Rattle.alp_base.specs.Orders.{trans_cmp}
use Rattle.alp_locks.specs.Tables.{Table}
use Rattle.alp_regain.specs.Regained.{ArePartsOf}
use Rattle.alp_regain.specs.declared.part.RegainedPart.{RegainedPart}
use Rattle.alp_regain.proofs.parts.Lives.new.Goals as goal

pub returns : goal.returns
returns c = λ tells m server epoch. record {
  parts = subst (λ (ps : List RegainedPart). ArePartsOf tells m server epoch ps []) (sym c.new.ensures.items) tt;
  locks = record {
    sound = c.new-2.ensures.sound;
    waiting = ap (λ (t : Table). t.waiting) c.new-2.ensures.empty;
    woken = ap (λ (t : Table). t.woken) c.new-2.ensures.empty;
    held = tt;
    known = tt;
    others = λ u none. ap (λ (t : Table). map.get t.held u) c.new-2.ensures.empty ∙ get-empty trans_cmp u;
  };
  apart = tt;
}
