-- Which anchor is read, and why none is.
use Rattle.std.specs.Prelude.{◌≡◌, ◌≢◌, ◌⊎◌, ◌≤◌, ℕ, List, take, Option, Some, None, Result, Ok, Err, MatchResult, IsErrOf}
use Rattle.alp_base.specs.Causes.{Rose}
use Rattle.alp_base.specs.declared.faults.Halt.TheVariants.{Failed, Stopped}
use Rattle.alp_base.specs.declared.allowance.Allowance.{Allowance}
use Rattle.alp_base.specs.declared.allowance.Allowance.TheVariants.{Spent}
use Rattle.alp_disk.specs.Disk.{Image, page}
use Rattle.alp_anchor.specs.Anchor.{IsSound, IsOwn, after}
use Rattle.alp_anchor.specs.declared.anchor.Anchor.{Anchor}
use Rattle.alp_anchor.specs.declared.fault.AnchorFault.{AnchorFault}
use Rattle.alp_anchor.specs.declared.fault.AnchorFault.TheVariants.{Halted, NotAVolume, Damaged}

-- no open anchor of the page names this server
abbrev pub NoneOwn : ℕ → ℕ → ℕ → List ℕ → Type 0
NoneOwn server servers n p = (a : Anchor) → IsOwn server servers n p a → ⊥

-- two open anchors that name this server, neither the other's successor
pub record Disagree (server servers n : ℕ) (image : Image) : Type 0 where
  pub first : Anchor
  pub second : Anchor
  pub first_is : IsOwn server servers n (page image 0) first
  pub second_is : IsOwn server servers n (page image 1) second
  pub not_before : first.generation ≢ after second.generation
  pub not_after : second.generation ≢ after first.generation

-- why no anchor counts
abbrev pub WhyNot : ℕ → ℕ → ℕ → Image → AnchorFault → Type 0
WhyNot server servers n image (Halted halt) = Unit {0}
WhyNot server servers n image (NotAVolume found) = (found ≡ take 24 (page image 0)) × NoneOwn server servers n (page image 0) × NoneOwn server servers n (page image 1)
WhyNot server servers n image (Damaged place) = (place ≡ 1) × Disagree server servers n image

-- the device halted
abbrev pub IsHalted : AnchorFault → Type 0
IsHalted (Halted halt) = Unit {0}
IsHalted (NotAVolume found) = ⊥
IsHalted (Damaged place) = ⊥

-- The anchor that was read is this one; none was read only where the device halted.
abbrev pub ReadsAs : Anchor → Result Anchor AnchorFault → Type 0
ReadsAs a (Ok b) = b ≡ a
ReadsAs a (Err e) = IsHalted e

-- an anchor of this server and this number of servers
pub record IsOf (server servers n : ℕ) (a : Anchor) : Type 0 where
  pub sound : IsSound n a
  pub server_is : a.server ≡ server
  pub servers_is : a.servers ≡ servers

-- the count of faults moves only where the device halted
abbrev pub IsCountKept : ℕ → ℕ → AnchorFault → Type 0
IsCountKept before now (Halted halt) = Unit {0}
IsCountKept before now (NotAVolume found) = now ≡ before
IsCountKept before now (Damaged place) = now ≡ before

-- why the device halted: it failed where the count of faults rose, and was stopped where the allowance is spent then
pub record HasAnchorCause (before now : ℕ) (allowance : Allowance) (result : Result Anchor AnchorFault) : Type 0 where
  pub later : before ≤ now
  pub still : MatchResult result (λ _. now ≡ before) (IsCountKept before now)
  pub failed : IsErrOf result (Halted Failed) → Rose before now
  pub stopped : IsErrOf result (Halted Stopped) → allowance ≡ Spent

-- the other anchor, where there is one, has the generation before
abbrev pub Newer : Anchor → Option Anchor → Type 0
Newer a None = Unit {0}
Newer a (Some b) = a.generation ≡ after b.generation

-- one of the two counts
abbrev pub Chosen : Option Anchor → Option Anchor → Anchor → Type 0
Chosen first second a = ((first ≡ Some a) × Newer a second) ⊎ ((second ≡ Some a) × Newer a first)

-- none of the two counts
abbrev pub NoneChosen : Option Anchor → Option Anchor → List ℕ → AnchorFault → Type 0
NoneChosen (Some a) (Some b) found e = (e ≡ Damaged 1) × (a.generation ≢ after b.generation) × (b.generation ≢ after a.generation)
NoneChosen None None found e = e ≡ NotAVolume found
NoneChosen (Some a) None found e = ⊥
NoneChosen None (Some b) found e = ⊥
