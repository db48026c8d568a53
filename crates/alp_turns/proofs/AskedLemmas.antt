-- what was granted is not asked again
use Rattle.std.specs.Prelude.{cond, Bool, true, false, Option, None, Some, is_some}
use Rattle.std.specs.List.{AllByRecursion}
use Rattle.std.specs.Ordering.{eq_by_cmp}
use Rattle.std.specs.Cmp.{eq_by_cmp_equiv}
use Rattle.std.proofs.Common.{◌≡◌, List, [], ◌∷◌, ◌++◌, refl, sym, ◌∙◌, ap}
use Rattle.alp_base.specs.declared.key.Resource.{Resource}
use Rattle.alp_base.specs.declared.key.Resource.TheVariants.{Whole, Leaf}
use Rattle.alp_base.specs.Orders.{resource_cmp, resources_total}
use Rattle.alp_modes.specs.declared.Mode.{Mode}
use Rattle.alp_files.specs.Holdings.{Holding, join_held, covers_held, held_by, file_of, given_to}
use Rattle.alp_files.specs.Locks.{Need, IsMore, joined, wholes_of, asked_on, asked_each, request_of, granted, intention_on}
use Rattle.alp_modes.specs.Modes.{join_of}
use Rattle.alp_modes.proofs.ModeLemmas.{covering-order, join-least}
use Rattle.alp_files.proofs.CoverLemmas.{left-above, right-above, more-given, granted-more}

-- ---- each need of a list is held where the list is

abbrev IsHeldIn : Holding → Need → Type 0
IsHeldIn held n = is_some (held n.0) ≡ true

some_left : (m : Mode) (x : Option Mode) → is_some (join_held (Some m) x) ≡ true
some_left m None = refl
some_left m (Some y) = refl

some_right : (x y : Option Mode) → is_some y ≡ true → is_some (join_held x y) ≡ true
some_right None y e = e
some_right (Some a) None e = refl
some_right (Some a) (Some b) e = refl

each_more : (a b : Holding) (ns : List Need) → ((r : Resource) → is_some (a r) ≡ true → is_some (b r) ≡ true) → AllByRecursion (IsHeldIn a) ns → AllByRecursion (IsHeldIn b) ns
each_more a b [] more all = tt
each_more a b (n ∷ ns) more all = (more n.0 all.0, each_more a b ns more all.1)

own_each : (ns : List Need) → AllByRecursion (IsHeldIn (held_by ns)) ns
own_each [] = tt
own_each (n ∷ ns) = (
  ap (λ (b : Bool). is_some (cond {A = Option Mode} b (join_held (Some n.1) (held_by ns n.0)) (held_by ns n.0))) ((eq_by_cmp_equiv resources_total).refl n.0) ∙ some_left n.1 (held_by ns n.0),
  each_more (held_by ns) (held_by (n ∷ ns)) ns (λ r e. more (eq_by_cmp resource_cmp r n.0) r e) (own_each ns),
)
  where
    more : (b : Bool) (r : Resource) → is_some (held_by ns r) ≡ true → is_some (cond {A = Option Mode} b (join_held (Some n.1) (held_by ns r)) (held_by ns r)) ≡ true
    more true r e = some_left n.1 (held_by ns r)
    more false r e = e

-- ---- with more locks no other resources are asked

each_joined : (P : Need → Type 0) (xs ys : List Need) → AllByRecursion P xs → AllByRecursion P ys → AllByRecursion P (xs ++ ys)
each_joined P [] ys a b = b
each_joined P (x ∷ xs) ys a b = (a.0, each_joined P xs ys a.1 b)

each_parts : (P : Need → Type 0) (xs ys : List Need) → AllByRecursion P (xs ++ ys) → AllByRecursion P xs × AllByRecursion P ys
each_parts P [] ys a = (tt, a)
each_parts P (x ∷ xs) ys a = let rest = each_parts P xs ys a.1 in ((a.0, rest.0), rest.1)

module _ (a b : Holding) (more : IsMore a b) (P : Need → Type 0) where
  fewer_on : (r : Resource) (m : Mode) → AllByRecursion P (asked_on a r m) → AllByRecursion P (asked_on b r m)
  fewer_on (Whole f) m all = all
  fewer_on (Leaf k) m all = go (covers_held (given_to a k) m) refl (covers_held (given_to b k) m) refl all
    where
      asks : List Need
      asks = (Leaf k, m) ∷ intention_on (file_of k) m

      go : (x : Bool) → covers_held (given_to a k) m ≡ x → (y : Bool) → covers_held (given_to b k) m ≡ y → AllByRecursion P (cond {A = List Need} x [] asks) → AllByRecursion P (cond {A = List Need} y [] asks)
      go x e true f h = tt
      go false e false f h = h
      go true e false f h = let wrong : true ≡ false = sym (more-given a b more k m e) ∙ f in cc

  fewer_each : (ns : List Need) → AllByRecursion P (asked_each a ns) → AllByRecursion P (asked_each b ns)
  fewer_each [] all = tt
  fewer_each (n ∷ ns) all =
      let both = each_parts P (asked_on a n.0 n.1) (asked_each a ns) all in
      each_joined P (asked_on b n.0 n.1) (asked_each b ns) (fewer_on n.0 n.1 both.0) (fewer_each ns both.1)

-- joined with the same
abbrev Above : Option Mode → Option Mode → Type 0
Above a b = (m : Mode) → covers_held a m ≡ true → covers_held b m ≡ true

joined_above : (a b c : Option Mode) → Above a c → Above b c → Above (join_held a b) c
joined_above None b c f g m h = g m h
joined_above (Some a) None c f g m h = f m h
joined_above (Some a) (Some b) None f g m h = let wrong : false ≡ true = f a (covering-order.itself a) in cc
joined_above (Some a) (Some b) (Some c) f g m h = covering-order.through c (join_of a b) m (join-least.least a b c (f a (covering-order.itself a)) (g b (covering-order.itself b))) h

joined_alike : (a b : Holding) → IsMore a b → (ns : List Need) → IsMore (joined a ns) (joined b ns)
joined_alike a b more ns r =
    joined_above (a r) (held_by ns r) (join_held (b r) (held_by ns r)) (λ m e. left-above (b r) (held_by ns r) m (more r m e)) (right-above (b r) (held_by ns r))

-- what is held by a grant is all that would be asked again
pub asked_again : (held : Holding) (ns : List Need) → AllByRecursion (λ (n : Need). is_some (granted held ns n.0) ≡ true) (request_of (granted held ns) ns)
asked_again held ns =
    fewer_each (joined held (wholes_of ns)) (joined (granted held ns) (wholes_of ns)) (joined_alike held (granted held ns) (granted-more held ns) (wholes_of ns)) (IsHeldIn (granted held ns)) ns
    (each_more (held_by (request_of held ns)) (granted held ns) (request_of held ns) (λ r e. some_right (held r) (held_by (request_of held ns) r) e) (own_each (request_of held ns)))
