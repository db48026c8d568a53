-- a mode that covers all that is held tells where nobody can be in the way
use Rattle.std.proofs.Common.{◌≡◌, Bool, true, false, not, List, [], ◌∷◌, Option, None, Some, cond, refl, sym, ap, subst, ◌∙◌}
use Rattle.std.specs.Bool.{IsTrue}
use Rattle.std.specs.Option.{option_or}
use Rattle.std.specs.Ordering.{eq_by_cmp}
use Rattle.std.specs.FinMap.{find}
use Rattle.alp_base.specs.declared.key.Resource.{Resource}
use Rattle.alp_modes.specs.declared.Mode.{Mode}
use Rattle.alp_modes.specs.Modes.{agree, join_of}
use Rattle.alp_modes.proofs.ModeLemmas.{agreement-symmetric, kept-below, covering-order, join-least}
use Rattle.alp_base.specs.Orders.{resource_cmp}
use Rattle.alp_queue.specs.Reach.{reach_with, reach_of, reaches, IsReach, disagrees_with}

not-false : (b : Bool) → not b ≡ false → IsTrue b
not-false true h = refl
not-false false h = cc

reach-itself : (a : Option Mode) (m : Mode) → IsTrue (reaches (Some (reach_with a m)) m)
reach-itself None m = covering-order.itself m
reach-itself (Some a) m = join-least.right a m

reach-rises : (a : Option Mode) (n m : Mode) → IsTrue (reaches a m) → IsTrue (reaches (Some (reach_with a n)) m)
reach-rises None n m h = cc
reach-rises (Some a) n m h = covering-order.through (join_of a n) a m (join-least.left a n) h

-- what was covered is covered still
reach-stays : (a : Option Mode) (es : List (Resource × Mode)) (m : Mode) → IsTrue (reaches a m) → IsTrue (reaches (reach_of a es) m)
reach-stays a [] m h = h
reach-stays a (e ∷ es) m h = reach-stays (Some (reach_with a e.1)) es m (reach-rises a e.1 m h)

-- and so is each that came to it
reach-covers : (a : Option Mode) (es : List (Resource × Mode)) (r : Resource) (m : Mode) → find resource_cmp r es ≡ Some m → IsTrue (reaches (reach_of a es) m)
reach-covers a [] r m h = cc
reach-covers a (e ∷ es) r m h = go (eq_by_cmp resource_cmp r e.0) (reach-covers (Some (reach_with a e.1)) es r m) h
  where
    Reached : Option Mode → Type 0
    Reached None = IsTrue true
    Reached (Some x) = IsTrue (reaches (Some (reach_with a e.1)) x)

    go : (b : Bool) → (find resource_cmp r es ≡ Some m → IsTrue (reaches (reach_of (Some (reach_with a e.1)) es) m))
        → cond b (Some e.1) (find resource_cmp r es) ≡ Some m → IsTrue (reaches (reach_of (Some (reach_with a e.1)) es) m)
    go true later g = reach-stays (Some (reach_with a e.1)) es m (subst Reached g (reach-itself a e.1))
    go false later g = later g

-- where these come to what was held
pub reach-with-all : (a : Option Mode) (es : List (Resource × Mode)) (before after : Resource → Option Mode) → IsReach a before
    → ((r : Resource) → after r ≡ option_or (find resource_cmp r es) (before r)) → IsReach (reach_of a es) after
reach-with-all a es before after h same r m g = go (find resource_cmp r es) refl (sym (same r) ∙ g)
  where
    go : (o : Option Mode) → find resource_cmp r es ≡ o → option_or o (before r) ≡ Some m → IsTrue (reaches (reach_of a es) m)
    go None e k = reach-stays a es m (h r m k)
    go (Some x) e k = reach-covers a es r m (e ∙ k)

-- what agrees with a mode agrees with all that it covers
pub reach-agrees : (a : Option Mode) (held : Resource → Option Mode) (m : Mode) → IsReach a held → disagrees_with m a ≡ false → (r : Resource) → disagrees_with m (held r) ≡ false
reach-agrees a held m h k r = go (held r) refl
  where
    agreeing : (o : Option Mode) (x : Mode) → IsTrue (reaches o x) → disagrees_with m o ≡ false → IsTrue (agree x m)
    agreeing None x g j = cc
    agreeing (Some y) x g j = agreement-symmetric x m ∙ kept-below m y x (agreement-symmetric m y ∙ not-false (agree y m) j) g

    go : (o : Option Mode) → held r ≡ o → disagrees_with m o ≡ false
    go None e = refl
    go (Some x) e = ap not (agreeing a x (h r x e) k)
