-- agreement of locks is agreement on leaves
use Rattle.std.proofs.Common.{◌≡◌, Bool, true, false, cond, List, [], ◌∷◌, ◌++◌, Option, None, Some, refl, sym, ap, ◌∙◌}
use Rattle.std.specs.Bool.{IsTrue}
use Rattle.std.specs.Option.{option_and_then}
use Rattle.std.specs.Ordering.{eq_by_cmp}
use Rattle.alp_base.specs.declared.key.Key.TheVariants.{Leader, PageOf, OwnerOf}
use Rattle.alp_base.specs.declared.key.Resource.{Resource}
use Rattle.alp_base.specs.declared.key.Resource.TheVariants.{Whole, Leaf}
use Rattle.alp_modes.specs.declared.Mode.{Mode}
use Rattle.alp_base.specs.Orders.{resource_cmp}
use Rattle.alp_modes.specs.Modes.{agree, covers_of, leaf_of}
use Rattle.alp_files.specs.Holdings.{join_held, agree_held, covers_held, held_by, intention_of, IsAgreementOfLeaves}
use Rattle.alp_modes.proofs.ModeLemmas.{agreement-symmetric, agreement-joint, implied, implied-is, at-both, at-all, and-true, join-assoc}

-- what two files' locks that agree give agrees
gives-agreement : (a b : Mode) → IsTrue (agree a b) → IsTrue (agree_held (leaf_of a) (leaf_of b))
unfolding agree leaf_of
gives-agreement a b h = implied-is (agree a b) (agree_held (leaf_of a) (leaf_of b)) (at-both (λ x y. implied (agree x y) (agree_held (leaf_of x) (leaf_of y))) refl a b) h

-- a leaf's lock agrees with what a file's lock gives that agrees with the intention beside the leaf's
intends-agreement : (m a b : Mode) → IsTrue (covers_of a (intention_of m)) → IsTrue (agree a b) → IsTrue (agree_held (Some m) (leaf_of b))
unfolding agree covers_of leaf_of intention_of
intends-agreement m a b h k =
    implied-is (agree a b) (agree_held (Some m) (leaf_of b))
    (implied-is (covers_of a (intention_of m)) (implied (agree a b) (agree_held (Some m) (leaf_of b)))
    (at-all (λ x y z. implied (covers_of y (intention_of x)) (implied (agree y z) (agree_held (Some x) (leaf_of z)))) refl m a b) h)
    k

pub agree-turned : (a b : Option Mode) → agree_held a b ≡ agree_held b a
agree-turned None None = refl
agree-turned None (Some b) = refl
agree-turned (Some a) None = refl
agree-turned (Some a) (Some b) = agreement-symmetric a b

-- what agrees with both agrees with what they come to
agree-joined : (a b c : Option Mode) → IsTrue (agree_held a b) → IsTrue (agree_held a c) → IsTrue (agree_held a (join_held b c))
agree-joined None b c h k = refl
agree-joined (Some a) None c h k = k
agree-joined (Some a) (Some b) None h k = h
agree-joined (Some a) (Some b) (Some c) h k = agreement-joint a b c ∙ and-true (agree a b) (agree a c) h k

-- of two transactions, the one's leaf lock and the other's file lock
leaf-with-given : (m f g : Option Mode) → ((x : Mode) → m ≡ Some x → IsTrue (covers_held f (intention_of x))) → IsTrue (agree_held f g) → IsTrue (agree_held m (option_and_then leaf_of g))
leaf-with-given None f g h k = refl
leaf-with-given (Some m) f None h k = refl
leaf-with-given (Some m) None (Some g) h k = let wrong : false ≡ true = h m refl in cc
leaf-with-given (Some m) (Some f) (Some g) h k = intends-agreement m f g (h m refl) k

given-with-given : (f g : Option Mode) → IsTrue (agree_held f g) → IsTrue (agree_held (option_and_then leaf_of f) (option_and_then leaf_of g))
given-with-given None g h = refl
given-with-given (Some f) None h = agree-turned (leaf_of f) None
given-with-given (Some f) (Some g) h = gives-agreement f g h

-- of a leaf's own locks and its file's, for both transactions
pub leaves-of-locks : (l m f g : Option Mode)
    → ((x : Mode) → l ≡ Some x → IsTrue (covers_held f (intention_of x)))
    → ((x : Mode) → m ≡ Some x → IsTrue (covers_held g (intention_of x)))
    → IsTrue (agree_held l m) → IsTrue (agree_held f g)
    → IsTrue (agree_held (join_held l (option_and_then leaf_of f)) (join_held m (option_and_then leaf_of g)))
leaves-of-locks l m f g i j h k =
    agree-joined (join_held l (option_and_then leaf_of f)) m (option_and_then leaf_of g)
    (agree-turned (join_held l (option_and_then leaf_of f)) m
    ∙ agree-joined m l (option_and_then leaf_of f) (agree-turned m l ∙ h) (leaf-with-given m g f j (agree-turned g f ∙ k)))
    (agree-turned (join_held l (option_and_then leaf_of f)) (option_and_then leaf_of g)
    ∙ agree-joined (option_and_then leaf_of g) l (option_and_then leaf_of f)
    (agree-turned (option_and_then leaf_of g) l ∙ leaf-with-given l f g i k)
    (agree-turned (option_and_then leaf_of g) (option_and_then leaf_of f) ∙ given-with-given f g k))

pub none-right : (a : Option Mode) → join_held a None ≡ a
none-right None = refl
none-right (Some a) = refl

pub agreement-of-leaves : IsAgreementOfLeaves
agreement-of-leaves a b h i j (Leader f) = leaves-of-locks (a (Leaf (Leader f))) (b (Leaf (Leader f))) (a (Whole f)) (b (Whole f)) (λ x e. i (Leader f) f x refl e) (λ x e. j (Leader f) f x refl e) (h (Leaf (Leader f))) (h (Whole f))
agreement-of-leaves a b h i j (PageOf f n) = leaves-of-locks (a (Leaf (PageOf f n))) (b (Leaf (PageOf f n))) (a (Whole f)) (b (Whole f)) (λ x e. i (PageOf f n) f x refl e) (λ x e. j (PageOf f n) f x refl e) (h (Leaf (PageOf f n))) (h (Whole f))
agreement-of-leaves a b h i j (OwnerOf n) =
    ap (λ x. agree_held x (join_held (b (Leaf (OwnerOf n))) None)) (none-right (a (Leaf (OwnerOf n))))
    ∙ ap (agree_held (a (Leaf (OwnerOf n)))) (none-right (b (Leaf (OwnerOf n)))) ∙ h (Leaf (OwnerOf n))

pub join_held-assoc : (a b c : Option Mode) → join_held (join_held a b) c ≡ join_held a (join_held b c)
join_held-assoc None b c = refl
join_held-assoc (Some a) None c = refl
join_held-assoc (Some a) (Some b) None = refl
join_held-assoc (Some a) (Some b) (Some c) = ap Some (join-assoc a b c)

first-of : (t : Bool) (m : Mode) (a b : Option Mode) → cond t (join_held (Some m) (join_held a b)) (join_held a b) ≡ join_held (cond t (join_held (Some m) a) a) b
first-of true m a b = sym (join_held-assoc (Some m) a b)
first-of false m a b = refl

-- what two lists come to is what both come to together
pub held_by-append : (ns ms : List (Resource × Mode)) (r : Resource) → held_by (ns ++ ms) r ≡ join_held (held_by ns r) (held_by ms r)
held_by-append [] ms r = refl
held_by-append (n ∷ ns) ms r =
    ap (λ o. cond (eq_by_cmp resource_cmp r n.0) (join_held (Some n.1) o) o) (held_by-append ns ms r)
    ∙ first-of (eq_by_cmp resource_cmp r n.0) n.1 (held_by ns r) (held_by ms r)
