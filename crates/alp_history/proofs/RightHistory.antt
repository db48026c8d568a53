-- the history of the right log, as it is written out
use Rattle.std.specs.Prelude.{List, [], Bool}
use Rattle.std.proofs.Common.{◌≡◌, refl, ap, ◌∙◌}
use Rattle.alp_base.specs.declared.ids.JoinNo.{JoinNo}
use Rattle.alp_journal.specs.Along.{state_after}
use Rattle.alp_journal.specs.Opening.{ReadyNote}
use Rattle.alp_journal.specs.State.{State, opened}
use Rattle.alp_journal.specs.Moves.{next}
use Rattle.alp_history.specs.Log.{held, ready_in, is_decided_in}
use Rattle.alp_history.specs.RightLog.{opening, one, two, right, IsHistoryOfRight}
use Rattle.alp_history.proofs.RightOne.{cells_last as one_last}
use Rattle.alp_history.proofs.RightTwo.{cells_last as two_last}
use Rattle.alp_history.proofs.RightProper.{proper}
use Rattle.alp_history.proofs.Merged.{history}

-- where no part is ready the run ends in the cells
pub ends : (f : JoinNo → Bool) (s : State) → ready_in s ≡ [] → held f (ready_in s) s.holder.cells ≡ s.holder.cells
ends f s h = ap (λ (rs : List ReadyNote). held f rs s.holder.cells) h

pub written : IsHistoryOfRight
written = record {
  order = refl;
  first_does = refl;
  second_does = refl;
  third_does = refl;
  starts_one = refl;
  starts_two = refl;
  ends_one = ends (is_decided_in right) (state_after next (opened (opening 1)) one) refl ∙ one_last;
  ends_two = ends (is_decided_in right) (state_after next (opened (opening 2)) two) refl ∙ two_last;
  thread = history right proper;
}
