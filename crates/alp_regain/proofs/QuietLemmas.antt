-- faults that leave a vault as it was, and looks from one vault on to the next
use Rattle.std.specs.Prelude.{Bool, IsTrue}
use Rattle.std.proofs.Common.{refl, sym, subst}
use Rattle.alp_files.specs.Cells.{Cells}
use Rattle.alp_vault.specs.Contents.{Contents}
use Rattle.alp_vault.specs.declared.vault.Vault.{Ghosts}
use Rattle.alp_calls.specs.Looks.{IsLeft, Looks}
use Rattle.alp_calls.specs.declared.fault.CallFault.TheVariants.{Failed, Stopped, OutOfMemory}
use Rattle.alp_calls.proofs.LookLemmas.{left_same}
use Rattle.alp_regain.specs.Faults.{fault_in, IsOfNoDevice}
use Rattle.alp_regain.specs.declared.fault.RegainFault.{RegainFault}
use Rattle.alp_regain.specs.declared.fault.RegainFault.TheVariants.{BadNote, Vault}

module _ {V : Type 0} (G : Ghosts V) where
  pub quiet_looks : (v : V) → IsTrue (G.serves v) → (f : RegainFault) → IsOfNoDevice f → Looks G v v (fault_in f)
  quiet_looks v serving BadNote quiet = (left_same G v, serving, refl)
  quiet_looks v serving (Vault Failed) quiet = absurd quiet
  quiet_looks v serving (Vault Stopped) quiet = absurd quiet
  quiet_looks v serving (Vault OutOfMemory) quiet = (left_same G v, serving, refl)

  -- what is so of what was held is so of what is held now
  pub looked_on : (old mid : V) → IsLeft G old mid → (P : Bool → Cells → Type 0) → P (G.tells old) (G.held old).cells → P (G.tells mid) (G.held mid).cells
  looked_on old mid left P h = subst (λ (b : Bool). P b (G.held mid).cells) (sym left.same.telling) (subst (λ (x : Contents). P (G.tells old) x.cells) (sym left.contents) h)
