-- A disk that is made new again.
use Rattle.std.specs.Prelude.{replicate}
use Rattle.std.proofs.Common.{◌≡◌, ◌≤◌, ℕ, sym, ◌∙◌, ap, subst, arith}
use Rattle.alp_anchor.specs.Anchor.{AreSizesOf}
use Rattle.alp_base.specs.Crashes.{Only}
use Rattle.alp_base.specs.declared.faults.Sizes.{Sizes}
use Rattle.alp_disk.specs.Disk.{Image, page}
use Rattle.alp_disk.specs.Runs.{Holds}
use Rattle.alp_disk.specs.declared.disk.Disk.{Ghosts}
use Rattle.alp_format.proofs.Formats.{zeros_at}
use Rattle.alp_store.specs.Starts.{IsNew, HasNoAnchor}

-- zeros were written over both anchors, and synced
pub no_anchor : {D : Type 0} (g : Ghosts D) (was written now : D) → Holds 0 2 (replicate 1024 0) (g.seen was) (g.seen written) → g.seen now ≡ g.seen written → Only (g.seen written) (g.may_leave now) → HasNoAnchor g now
no_anchor g was written now holds same durable = record {
  first = ap (λ (x : Image). page x 0) same ∙ holds.each 0 (omega arith) ∙ zeros_at 2 0 (omega arith);
  second = ap (λ (x : Image). page x 1) same ∙ holds.each 1 (omega arith) ∙ zeros_at 2 1 (omega arith);
  durable = subst (λ (x : Image). Only x (g.may_leave now)) (sym same) durable;
}

-- so it is new for sizes that make it up
pub new_again : {D : Type 0} (g : Ghosts D) (sizes : Sizes) (disk : D) → AreSizesOf (g.size disk) sizes → HasNoAnchor g disk → IsNew sizes (g.size disk) (g.seen disk)
new_again g sizes disk sized none = record { size = sym sized.total; first = none.first; second = none.second }
