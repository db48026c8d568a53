-- what a transaction holds, and what that comes to on each leaf
use Rattle.std.specs.Prelude.{◌≡◌, Bool, true, false, cond, List, [], ◌∷◌, Option, None, Some, IsTrue}
use Rattle.std.specs.Option.{option_and_then}
use Rattle.std.specs.Ordering.{eq_by_cmp}
use Rattle.alp_base.specs.declared.ids.FileId.{FileId}
use Rattle.alp_base.specs.declared.key.Key.{Key}
use Rattle.alp_base.specs.declared.key.Key.TheVariants.{Leader, PageOf, OwnerOf}
use Rattle.alp_base.specs.declared.key.Resource.{Resource}
use Rattle.alp_base.specs.declared.key.Resource.TheVariants.{Whole, Leaf}
use Rattle.alp_modes.specs.declared.Mode.{Mode}
use Rattle.alp_modes.specs.declared.Mode.TheVariants.{IntendRead, IntendWrite, Read, Update, ReadIntendWrite, Write}
use Rattle.alp_modes.specs.Modes.{agree, covers_of, join_of, leaf_of}
use Rattle.alp_base.specs.Orders.{resource_cmp}

-- on each resource a mode, or none
abbrev pub Holding : Type 0
Holding = Resource → Option Mode

-- what two modes come to, either of which may be missing
abbrev pub join_held : Option Mode → Option Mode → Option Mode
join_held None b = b
join_held (Some a) None = Some a
join_held (Some a) (Some b) = Some (join_of a b)

-- a missing mode agrees with each
abbrev pub agree_held : Option Mode → Option Mode → Bool
agree_held None b = true
agree_held (Some a) None = true
agree_held (Some a) (Some b) = agree a b

-- a missing mode covers none
abbrev pub covers_held : Option Mode → Mode → Bool
covers_held None b = false
covers_held (Some a) b = covers_of a b

-- what a list of resources and modes comes to on each resource
abbrev pub held_by : List (Resource × Mode) → Holding
held_by [] r = None
held_by (n ∷ ns) r = cond (eq_by_cmp resource_cmp r n.0) (join_held (Some n.1) (held_by ns r)) (held_by ns r)

-- the file that a leaf is in; an owner's record is in none
abbrev pub file_of : Key → Option FileId
file_of (Leader f) = Some f
file_of (PageOf f n) = Some f
file_of (OwnerOf name) = None

-- what is held on a leaf's file gives the leaf
abbrev pub given_to : Holding → Key → Option Mode
given_to held k = option_and_then leaf_of (option_and_then (λ f. held (Whole f)) (file_of k))

-- a leaf's own lock, joined with what its file gives
abbrev pub mode_on : Holding → Key → Option Mode
mode_on held k = join_held (held (Leaf k)) (given_to held k)

-- the least mode to hold on a file beside a lock on a leaf of it
unfoldable pub intention_of : Mode → Mode
intention_of IntendRead = IntendRead
intention_of Read = IntendRead
intention_of IntendWrite = IntendWrite
intention_of Update = IntendWrite
intention_of ReadIntendWrite = IntendWrite
intention_of Write = IntendWrite

-- whoever locks a leaf has at least that intention on its file
abbrev pub IsIntended : Holding → Type 0
IsIntended held = (k : Key) (f : FileId) (m : Mode) → file_of k ≡ Some f → held (Leaf k) ≡ Some m → IsTrue (covers_held (held (Whole f)) (intention_of m))

-- two transactions' locks on each resource agree
abbrev pub DoAgree : Holding → Holding → Type 0
DoAgree a b = (r : Resource) → IsTrue (agree_held (a r) (b r))

-- and so do their modes on each leaf
abbrev pub DoAgreeOnLeaves : Holding → Holding → Type 0
DoAgreeOnLeaves a b = (k : Key) → IsTrue (agree_held (mode_on a k) (mode_on b k))

-- agreement of locks is agreement on leaves, where both have their intentions
abbrev pub IsAgreementOfLeaves : Type 0
IsAgreementOfLeaves = (a b : Holding) → DoAgree a b → IsIntended a → IsIntended b → DoAgreeOnLeaves a b
