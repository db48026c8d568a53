-- what is held lets its holder read and write
use Rattle.std.specs.Prelude.{true, false, Option, None, Some, IsTrue}
use Rattle.std.specs.List.{AllByRecursion}
use Rattle.std.specs.Option.{option_and_then}
use Rattle.std.proofs.Common.{◌≡◌, List, [], ◌∷◌, refl, sym, ◌∙◌, subst}
use Rattle.alp_base.specs.declared.key.Key.{Key}
use Rattle.alp_base.specs.declared.key.Resource.{Resource}
use Rattle.alp_base.specs.declared.key.Resource.TheVariants.{Whole, Leaf}
use Rattle.alp_modes.specs.declared.Mode.{Mode}
use Rattle.alp_modes.specs.declared.Mode.TheVariants.{Read, Write}
use Rattle.alp_modes.specs.Modes.{agree, covers_of, leaf_of}
use Rattle.alp_files.specs.Holdings.{Holding, join_held, agree_held, covers_held, file_of, given_to, mode_on, DoAgreeOnLeaves}
use Rattle.alp_modes.proofs.ModeLemmas.{covering-order, join-least, at-each, at-both, implied, implied-is}
use Rattle.alp_files.proofs.HoldingLemmas.{agree-turned}
use Rattle.alp_files.specs.Locks.{Need, HoldsOn, HoldsEach, Reads, Writes}

-- what a need lets: to write a file is to read and write each leaf of it
abbrev pub Lets : (R W : Key → Type 0) → Resource → Mode → Type 0
Lets R W (Whole f) m = IsTrue (covers_of m Write) → (k : Key) → file_of k ≡ Some f → R k × W k
Lets R W (Leaf k) m = (IsTrue (covers_of m Read) → R k) × (IsTrue (covers_of m Write) → W k)

abbrev pub LetsEach : (R W : Key → Type 0) → List Need → Type 0
LetsEach R W ns = AllByRecursion (λ n. Lets R W n.0 n.1) ns

pub writes-all : IsTrue (covers_of Write Write)
unfolding covers_of
writes-all = refl

pub reads-all : IsTrue (covers_of Read Read)
unfolding covers_of
reads-all = refl

pub writes-read : IsTrue (covers_of Write Read)
unfolding covers_of
writes-read = refl

through-held : (o : Option Mode) (a b : Mode) → IsTrue (covers_held o a) → IsTrue (covers_of a b) → IsTrue (covers_held o b)
through-held None a b h k = cc
through-held (Some c) a b h k = covering-order.through c a b h k

-- a file's lock that covers Write gives Write
gives-write : (m : Mode) → IsTrue (covers_of m Write) → IsTrue (covers_held (leaf_of m) Write)
unfolding covers_of leaf_of
gives-write m h = implied-is (covers_of m Write) (covers_held (leaf_of m) Write) (at-each (λ x. implied (covers_of x Write) (covers_held (leaf_of x) Write)) refl m) h

given-write : (o : Option Mode) → IsTrue (covers_held o Write) → IsTrue (covers_held (option_and_then leaf_of o) Write)
given-write None h = cc
given-write (Some m) h = gives-write m h

joined-right : (a b : Option Mode) (m : Mode) → IsTrue (covers_held b m) → IsTrue (covers_held (join_held a b) m)
joined-right None b m h = h
joined-right (Some a) None m h = cc
joined-right (Some a) (Some b) m h = covering-order.through _ b m (join-least.right a b) h

pub writes-is-reads : (held : Holding) (k : Key) → Writes held k → Reads held k
writes-is-reads held k w = through-held (mode_on held k) Write Read w writes-read

lets : (held : Holding) (r : Resource) (m : Mode) → HoldsOn held r m → Lets (Reads held) (Writes held) r m
lets held (Whole f) m h = λ w k in_file.
    let whole : IsTrue (covers_held (held (Whole f)) Write) = through-held (held (Whole f)) m Write h w in
    let given : IsTrue (covers_held (given_to held k) Write) =
    subst (λ x. IsTrue (covers_held (option_and_then leaf_of (option_and_then (λ g. held (Whole g)) x)) Write)) (sym in_file) (given-write (held (Whole f)) whole) in
    let writes : Writes held k = joined-right (held (Leaf k)) (given_to held k) Write given in
    (writes-is-reads held k writes, writes)
lets held (Leaf k) m h = (λ r. through-held (mode_on held k) m Read h r, λ w. through-held (mode_on held k) m Write h w)

pub lets-each : (held : Holding) (ns : List Need) → HoldsEach held ns → LetsEach (Reads held) (Writes held) ns
lets-each held [] h = tt
lets-each held (n ∷ ns) h = (lets held n.0 n.1 h.0, lets-each held ns h.1)

-- ---- parts whose locks agree

read-or-write : (a b : Mode) → IsTrue (covers_of a Write) → IsTrue (covers_of b Read) → agree a b ≡ true → false ≡ true
unfolding agree covers_of
read-or-write a b w r h =
    implied-is (agree a b) false
    (implied-is (covers_of b Read) (implied (agree a b) false)
    (implied-is (covers_of a Write) (implied (covers_of b Read) (implied (agree a b) false))
    (at-both (λ x y. implied (covers_of x Write) (implied (covers_of y Read) (implied (agree x y) false))) refl a b) w) r) h

apart-held : (a b : Option Mode) → IsTrue (covers_held a Write) → IsTrue (covers_held b Read) → IsTrue (agree_held a b) → ⊥
apart-held None b w r h = cc
apart-held (Some a) None w r h = cc
apart-held (Some a) (Some b) w r h = let wrong : false ≡ true = read-or-write a b w r h in cc

-- what one may write, the other may not read
pub apart : (a b : Holding) → DoAgreeOnLeaves a b → (k : Key) → Writes a k → Reads b k → ⊥
apart a b h k w r = apart-held (mode_on a k) (mode_on b k) w r (h k)

-- the agreement of leaves, seen from the other
pub leaves-turned : (a b : Holding) → DoAgreeOnLeaves a b → DoAgreeOnLeaves b a
leaves-turned a b h k = agree-turned (mode_on b k) (mode_on a k) ∙ h k
