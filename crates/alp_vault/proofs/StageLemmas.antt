-- stages of a vault in memory
use Rattle.std.specs.Prelude.{true, false, ℕ, Bool, ◌%◌, ◌==◌, if◌then◌else◌}
use Rattle.std.proofs.Common.{◌≡◌, refl, inl, inr}
use Rattle.alp_base.specs.Crashes.{Only}
use Rattle.alp_vault.specs.Contents.{Contents}
use Rattle.alp_vault.specs.declared.stage.Pending.{Pending}
use Rattle.alp_vault.specs.declared.stage.Stage.{Stage}
use Rattle.alp_vault.specs.declared.stage.Stage.TheVariants.{Serving, Stopped, Torn, Made}
use Rattle.alp_vault.specs.Stages.{is_serving, held_at, after_of, fallen_by, MayLeave}
use Rattle.alp_vault.specs.Vault.{IsOneOf}

pub held-serving : (s : Stage) (now : Contents) → is_serving s ≡ true → held_at s now ≡ now
held-serving Serving now h = refl
held-serving Stopped now h = cc
held-serving (Torn p) now h = cc
held-serving (Made p) now h = cc

alone : (now : Contents) → ∥ ((c : Contents) × (c ≡ now) × Only c (λ d. d ≡ now)) ∥₁
alone now = ∣ (now, refl, λ d is. is) ∣₁

-- a crash leaves one of the outcomes, and nothing half made
pub fallen_left : (pick : ℕ) (s : Stage) (now : Contents) → IsOneOf (MayLeave s now) (MayLeave (fallen_by pick s) now)
fallen_left pick Serving now = record { was = λ c left. left; alone = alone now }
fallen_left pick Stopped now = record { was = λ c left. left; alone = alone now }
fallen_left pick (Made p) now = record { was = λ c left. left; alone = alone (after_of p now) }
fallen_left pick (Torn p) now = go (pick % 2 == 1)
  where
    go : (odd : Bool) → IsOneOf (MayLeave (Torn p) now) (MayLeave (if odd then Made p else Stopped) now)
    go true = record { was = λ c left. inr left; alone = alone (after_of p now) }
    go false = record { was = λ c left. inl left; alone = alone now }
