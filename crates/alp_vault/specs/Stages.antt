-- What a vault in memory holds, where a commit was stopped in its midst.
use Rattle.std.specs.Prelude.{◌≡◌, ◌<◌, ◌^◌, ◌%◌, ◌==◌, ℕ, Bool, true, false, if◌then◌else◌}
use Rattle.std.specs.Coded.{Unit-prop}
use Rattle.std.proofs.Common.{inl, inr, refl, sym, subst, arith}
use Rattle.alp_files.specs.Cells.{Cells}
use Rattle.alp_files.specs.Edits.{edits_map}
use Rattle.alp_base.specs.declared.faults.Sizes.{Sizes}
use Rattle.alp_vault.specs.Contents.{Contents}
use Rattle.alp_files.specs.Changes.{edits_of}
use Rattle.alp_vault.specs.Contents.{made}
use Rattle.alp_vault.specs.Volumes.{IsVolumeOf, IsVolumeOf-prop}
use Rattle.alp_base.specs.Crashes.{Either}
use Rattle.alp_vault.specs.declared.stage.Pending.{Pending}
use Rattle.alp_vault.specs.declared.stage.Stage.{Stage}
use Rattle.alp_vault.specs.declared.stage.Stage.TheVariants.{Serving, Stopped, Torn, Made}

-- what is held after the commit
abbrev pub after_of : Pending → Contents → Contents
after_of p now = made p.change p.notes.items now

-- the volume has room for what the commit makes that was stopped
abbrev pub IsFit : Sizes → Stage → Cells → Type 0
IsFit sizes Serving m = Unit {0}
IsFit sizes Stopped m = Unit {0}
IsFit sizes (Torn p) m = IsVolumeOf sizes (edits_map (edits_of p.change) m)
IsFit sizes (Made p) m = IsVolumeOf sizes (edits_map (edits_of p.change) m)

pub IsFit-prop : (sizes : Sizes) (s : Stage) (m : Cells) → IsProp (IsFit sizes s m)
IsFit-prop sizes Serving m = Unit-prop
IsFit-prop sizes Stopped m = Unit-prop
IsFit-prop sizes (Torn p) m = IsVolumeOf-prop sizes (edits_map (edits_of p.change) m)
IsFit-prop sizes (Made p) m = IsVolumeOf-prop sizes (edits_map (edits_of p.change) m)

abbrev pub is_serving : Stage → Bool
is_serving Serving = true
is_serving Stopped = false
is_serving (Torn p) = false
is_serving (Made p) = false

-- what is held, where these are the contents in memory
abbrev pub held_at : Stage → Contents → Contents
held_at Serving now = now
held_at Stopped now = now
held_at (Torn p) now = now
held_at (Made p) now = after_of p now

-- An odd pick of a crash leaves the commit made that was stopped.
abbrev pub fallen_by : ℕ → Stage → Stage
fallen_by pick Serving = Stopped
fallen_by pick Stopped = Stopped
fallen_by pick (Torn p) = if pick % 2 == 1 then Made p else Stopped
fallen_by pick (Made p) = Made p

-- what a crash may leave
abbrev pub MayLeave : Stage → Contents → Contents → Type 0
MayLeave Serving now c = c ≡ now
MayLeave Stopped now c = c ≡ now
MayLeave (Torn p) now c = Either now (after_of p now) c
MayLeave (Made p) now c = c ≡ after_of p now

-- ---- the laws of a vault in memory

pub no_faults : 0 < 2 ^ 64
no_faults = omega arith

pub volume_left : (sizes : Sizes) (s : Stage) (now c : Contents) → IsVolumeOf sizes now.cells → IsFit sizes s now.cells → MayLeave s now c → IsVolumeOf sizes c.cells
volume_left sizes Serving now c is fit left = subst (λ (x : Contents). IsVolumeOf sizes x.cells) (sym left) is
volume_left sizes Stopped now c is fit left = subst (λ (x : Contents). IsVolumeOf sizes x.cells) (sym left) is
volume_left sizes (Torn p) now c is fit (inl left) = subst (λ (x : Contents). IsVolumeOf sizes x.cells) (sym left) is
volume_left sizes (Torn p) now c is fit (inr left) = subst (λ (x : Contents). IsVolumeOf sizes x.cells) (sym left) fit
volume_left sizes (Made p) now c is fit left = subst (λ (x : Contents). IsVolumeOf sizes x.cells) (sym left) fit

pub held_left : (s : Stage) (now : Contents) → MayLeave s now (held_at s now)
held_left Serving now = refl
held_left Stopped now = refl
held_left (Torn p) now = inl refl
held_left (Made p) now = refl

pub settled_left : (s : Stage) (now : Contents) → is_serving s ≡ true → (c : Contents) → MayLeave s now c → c ≡ held_at s now
settled_left Serving now h c left = left
settled_left Stopped now h c left = cc
settled_left (Torn p) now h c left = cc
settled_left (Made p) now h c left = cc
