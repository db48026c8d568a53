-- doubly linked lists by index: each node names its neighbours
use Rattle.std.specs.Prelude.{◌≡◌, ℕ, ◌+◌, ◌<◌, ◌≤◌, not, cond, eqb, List, [], ◌∷◌, Option, None, Some}
use Rattle.std.specs.List.{filter}
use Prim.Native.Nat.{zero, suc}
use Rattle.alp_chain.specs.declared.links.Links.{Links}
use Rattle.alp_chain.specs.declared.links.Ends.{Ends}

-- ---- lists of numbers

-- how often a number stands in a list
abbrev pub times : ℕ → List ℕ → ℕ
times n [] = 0
times n (x ∷ xs) = cond (eqb n x) 1 0 + times n xs

-- the list without a number
abbrev pub without : ℕ → List ℕ → List ℕ
without n xs = filter (λ x. not (eqb n x)) xs

-- the first of a list, or what follows it
abbrev pub first_or : List ℕ → Option ℕ → Option ℕ
first_or [] a = a
first_or (x ∷ xs) a = Some x

-- the last of a list, or what comes before it
abbrev pub last_or : Option ℕ → List ℕ → Option ℕ
last_or b [] = b
last_or b (x ∷ xs) = last_or (Some x) xs

-- ---- links

abbrev pub between : Option ℕ → Option ℕ → Links
between b a = record { before = b; next = a }

-- each node of a list names its neighbours, where those outside are given
abbrev pub AreLinked : (ℕ → Links) → Option ℕ → List ℕ → Option ℕ → Type 0
AreLinked f b [] a = Unit {0}
AreLinked f b (x ∷ xs) a = (f x ≡ between b (first_or xs a)) × AreLinked f (Some x) xs a

-- the nodes that are met on the way from one, in at most so many steps
abbrev pub walk : ℕ → (ℕ → Links) → Option ℕ → List ℕ
walk zero f o = []
walk (suc d) f None = []
walk (suc d) f (Some x) = x ∷ walk d f (f x).next

-- the ends of a list that has a node
abbrev pub ends_between : Option ℕ → Option ℕ → Option Ends
ends_between None l = None
ends_between (Some f) None = None
ends_between (Some f) (Some l) = Some (record { first = f; last = l })

abbrev pub ends_of : List ℕ → Option Ends
ends_of xs = ends_between (first_or xs None) (last_or None xs)

-- The links and the ends show these lists of nodes below d: each node names its neighbours on its list, stands there once
-- and on no other.
pub record Shows (d : ℕ) (f : ℕ → Links) (heads : ℕ → Option Ends) (lists : ℕ → List ℕ) : Type 0 where
  pub linked : (k : ℕ) → AreLinked f None (lists k) None
  pub ends : (k : ℕ) → heads k ≡ ends_of (lists k)
  pub once : (k n : ℕ) → times n (lists k) ≤ 1
  pub apart : (j k n : ℕ) → 1 ≤ times n (lists j) → 1 ≤ times n (lists k) → j ≡ k
  pub within : (k n : ℕ) → 1 ≤ times n (lists k) → n < d

-- ---- changes of links

abbrev pub with_next : (ℕ → Links) → Option ℕ → Option ℕ → ℕ → Links
with_next f None a m = f m
with_next f (Some n) a m = cond (eqb m n) (between (f n).before a) (f m)

abbrev pub with_before : (ℕ → Links) → Option ℕ → Option ℕ → ℕ → Links
with_before f None b m = f m
with_before f (Some n) b m = cond (eqb m n) (between b (f n).next) (f m)

-- a node is put after the last one
abbrev pub pushed : (ℕ → Links) → Option ℕ → ℕ → ℕ → Links
pushed f last n m = cond (eqb m n) (between last None) (with_next f last (Some n) m)

-- the neighbours of a node are made neighbours of one another
abbrev pub bridged : (ℕ → Links) → Links → ℕ → Links
bridged f l = with_before (with_next f l.before l.next) l.next l.before

-- the ends that are left without a node between such neighbours
abbrev pub first_left : Option ℕ → Option ℕ → ℕ → Option ℕ
first_left None a f = a
first_left (Some b) a f = Some f

abbrev pub last_left : Option ℕ → Option ℕ → ℕ → Option ℕ
last_left b None l = b
last_left b (Some a) l = Some l

abbrev pub ends_left : Links → Ends → Option Ends
ends_left l e = ends_between (first_left l.before l.next e.first) (last_left l.before l.next e.last)
