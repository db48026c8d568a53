-- what a call leaves of a vault that it only looks at
use Rattle.std.specs.Prelude.{Result, Ok, Err}
use Rattle.std.proofs.Common.{◌≡◌, ◌≢◌, ℕ, refl, sym, ◌∙◌, subst}
use Rattle.alp_base.specs.Causes.{Rose}
use Rattle.alp_base.specs.Crashes.{NoMore}
use Rattle.alp_base.specs.Faults.{HasVaultCause}
use Rattle.alp_base.specs.declared.allowance.Allowance.TheVariants.{Free}
use Rattle.alp_base.specs.declared.faults.VaultFault.{VaultFault}
use Rattle.alp_base.specs.declared.faults.VaultFault.TheVariants as vault_fault
use Rattle.alp_vault.specs.Vault.{IsSameVault}
use Rattle.alp_vault.specs.declared.vault.Vault.{Ghosts}
use Rattle.alp_cluster.specs.Servers.{HasGoneBy}
use Rattle.alp_cluster.specs.declared.fault.RunFault.{RunFault}
use Rattle.alp_cluster.specs.declared.fault.RunFault.TheVariants as fault
use Rattle.alp_cluster.proofs.GoneLemmas.{fault_rose}
use Rattle.alp_top.specs.Looks.{HasLooked}

-- ---- one look

module _ {V : Type 0} (G : Ghosts V) (server : ℕ) (u v : V) (same : IsSameVault G.tells G.volume G.server G.servers u v) (allowance : G.allowance v ≡ G.allowance u) where
  pub seen_gone : {T U : Type 0} (x : T) (y : U) → HasVaultCause {T = T} (G.faults u) (G.faults v) (G.allowance v) (Ok x) → HasGoneBy {T = U} G (λ s. s ≡ server) (Unit {0}) u v (Ok y)
  seen_gone x y h = record { same = same; later = h.later; failed = tt; told = λ e. tt; free = λ p free. allowance ∙ free; counted = λ p free. h.still }

  pub wanting_gone : {T U : Type 0} → HasVaultCause {T = T} (G.faults u) (G.faults v) (G.allowance v) (Err vault_fault.OutOfMemory) → HasGoneBy {T = U} G (λ s. s ≡ server) (Unit {0}) u v (Err fault.OutOfMemory)
  wanting_gone h = record { same = same; later = h.later; failed = tt; told = λ e. tt; free = λ p free. allowance ∙ free; counted = λ p free. h.still }

  pub failed_gone : {T U : Type 0} (f : VaultFault) → HasVaultCause {T = T} (G.faults u) (G.faults v) (G.allowance v) (Err f) → (f ≡ vault_fault.OutOfMemory → ⊥) → G.allowance u ≡ Free → G.server u ≡ server
      → HasGoneBy {T = U} G (λ s. s ≡ server) (Unit {0}) u v (Err (fault.DiskFault server))
  failed_gone f h other free here =
      let rose : Rose (G.faults u) (G.faults v) = fault_rose (G.faults u) (G.faults v) (G.allowance v) f h.cause h.volume (allowance ∙ free) other in
      record { same = same; later = h.later; failed = (refl, λ is. rose); told = λ e. tt; free = λ p e. allowance ∙ e; counted = λ p e. (λ is. rose, λ away. absurd (away (sym here))) }

-- ---- one behind the other

module _ {V : Type 0} (G : Ghosts V) where
  pub looked_err : {T U : Type 0} (u v w : V) (f : RunFault) → G.held v ≡ G.held u → G.allowance v ≡ G.allowance u → NoMore (G.may_leave u) (G.may_leave v) → HasLooked {T = T} G v w (Err f) → HasLooked {T = U} G u w (Err f)
  looked_err u v w f held allowance crash h = record { held = h.held ∙ held; crash = λ c may. crash c (h.crash c may); allowance = h.allowance ∙ allowance; serves = tt; ends = h.ends }

  -- a fault that is handed on
  pub looked_on : {T U : Type 0} (u v w : V) (f : RunFault) (r : Result U RunFault) → G.held v ≡ G.held u → G.allowance v ≡ G.allowance u → NoMore (G.may_leave u) (G.may_leave v) → HasLooked {T = T} G v w (Err f) → r ≡ Err f → HasLooked {T = U} G u w r
  looked_on {U = U} u v w f r held allowance crash h is = subst (λ (q : Result U RunFault). HasLooked {T = U} G u w q) (sym is) (looked_err u v w f held allowance crash h)

  -- memory was wanting
  pub looked_wanting : {U : Type 0} (u v : V) (r : Result U RunFault) → G.held v ≡ G.held u → G.allowance v ≡ G.allowance u → NoMore (G.may_leave u) (G.may_leave v) → r ≡ Err fault.OutOfMemory → HasLooked {T = U} G u v r
  looked_wanting {U = U} u v r held allowance crash is = subst (λ (q : Result U RunFault). HasLooked {T = U} G u v q) (sym is) (record { held = held; crash = crash; allowance = allowance; serves = tt; ends = tt })
