-- what is granted covers the locks of the call, keeps the intentions, and covers all that was covered before
use Rattle.std.specs.Prelude.{cond, Bool, true, false, Option, None, Some, IsTrue}
use Rattle.std.specs.Option.{option_and_then}
use Rattle.std.specs.FinMap as map
use Rattle.std.specs.Ordering.{eq_by_cmp}
use Rattle.std.specs.Cmp.{eq_by_cmp_equiv}
use Rattle.std.proofs.Common.{◌≡◌, ℕ, List, [], ◌∷◌, ◌++◌, refl, sym, ◌∙◌, ap, subst, append-nil, append_assoc}
use Rattle.std.proofs.lemmas.Map.Views.{tells_apart}
use Rattle.alp_base.specs.declared.ids.FileId.{FileId}
use Rattle.alp_base.specs.declared.key.Key.{Key}
use Rattle.alp_base.specs.declared.key.Resource.{Resource}
use Rattle.alp_base.specs.declared.key.Resource.TheVariants.{Whole, Leaf}
use Rattle.alp_modes.specs.declared.Mode.{Mode}
use Rattle.alp_modes.specs.declared.Mode.TheVariants.{Write}
use Rattle.alp_modes.specs.Modes.{covers_of, join_of, leaf_of}
use Rattle.alp_files.specs.Holdings.{Holding, join_held, covers_held, held_by, file_of, given_to, mode_on, intention_of, IsIntended}
use Rattle.alp_base.specs.Orders.{resource_cmp, resources_total, exact_resources}
use Rattle.alp_modes.proofs.ModeLemmas.{covering-order, join-least, at-all, implied, implied-is}
use Rattle.alp_files.proofs.HoldingLemmas.{held_by-append}
use Rattle.alp_files.specs.Cells.{View}
use Rattle.alp_files.specs.Edits.{Edit}
use Rattle.alp_files.specs.Act.{Own, id_in}
use Rattle.alp_files.specs.History.{PerformedCall, Standing, answer_to, step, steps}
use Rattle.alp_files.specs.Locks.{Need, joined, whole_of, wholes_of, intention_on, asked_on, asked_each, request_of, granted, with_made, needs_made, needs_of, needs_done, HoldsOn, HoldsEach, IsMore, AreCovered}
use Rattle.alp_files.specs.Apart.{changes}
use Rattle.alp_files.proofs.FilesLemmas.{same-some}

-- ---- more covers as much

abbrev Above : Option Mode → Option Mode → Type 0
Above a b = (m : Mode) → IsTrue (covers_held a m) → IsTrue (covers_held b m)

joined-above : (a b c : Option Mode) → Above a c → Above b c → Above (join_held a b) c
joined-above None b c f g m h = g m h
joined-above (Some a) None c f g m h = f m h
joined-above (Some a) (Some b) None f g m h = let wrong : false ≡ true = f a (covering-order.itself a) in cc
joined-above (Some a) (Some b) (Some c) f g m h = covering-order.through c (join_of a b) m (join-least.least a b c (f a (covering-order.itself a)) (g b (covering-order.itself b))) h

pub left-above : (a b : Option Mode) → Above a (join_held a b)
left-above None b m h = cc
left-above (Some a) None m h = h
left-above (Some a) (Some b) m h = covering-order.through (join_of a b) a m (join-least.left a b) h

pub right-above : (a b : Option Mode) → Above b (join_held a b)
right-above None b m h = h
right-above (Some a) None m h = cc
right-above (Some a) (Some b) m h = covering-order.through (join_of a b) b m (join-least.right a b) h

-- a greater lock on a file gives its leaves as much
gives-above : (a b m : Mode) → IsTrue (covers_of b a) → IsTrue (covers_held (leaf_of a) m) → IsTrue (covers_held (leaf_of b) m)
unfolding covers_of leaf_of
gives-above a b m h k =
    implied-is (covers_held (leaf_of a) m) (covers_held (leaf_of b) m)
    (implied-is (covers_of b a) (implied (covers_held (leaf_of a) m) (covers_held (leaf_of b) m))
    (at-all (λ x y z. implied (covers_of y x) (implied (covers_held (leaf_of x) z) (covers_held (leaf_of y) z))) refl a b m) h)
    k

given-above : (a b : Option Mode) → Above a b → Above (option_and_then leaf_of a) (option_and_then leaf_of b)
given-above None b f m h = cc
given-above (Some a) None f m h = let wrong : false ≡ true = f a (covering-order.itself a) in cc
given-above (Some a) (Some b) f m h = gives-above a b m (f a (covering-order.itself a)) h

pub more-given : (a b : Holding) → IsMore a b → (k : Key) → Above (given_to a k) (given_to b k)
more-given a b more k = go (file_of k)
  where
    go : (f : Option FileId) → Above (option_and_then leaf_of (option_and_then (λ g. a (Whole g)) f)) (option_and_then leaf_of (option_and_then (λ g. b (Whole g)) f))
    go None m h = h
    go (Some f) m h = given-above (a (Whole f)) (b (Whole f)) (more (Whole f)) m h

pub more-on-leaf : (a b : Holding) → IsMore a b → (k : Key) → Above (mode_on a k) (mode_on b k)
more-on-leaf a b more k = joined-above (a (Leaf k)) (given_to a k) (mode_on b k)
    (λ m h. left-above (b (Leaf k)) (given_to b k) m (more (Leaf k) m h))
    (λ m h. right-above (b (Leaf k)) (given_to b k) m (more-given a b more k m h))

holds-more : (a b : Holding) → IsMore a b → (r : Resource) (m : Mode) → HoldsOn a r m → HoldsOn b r m
holds-more a b more (Whole f) m h = more (Whole f) m h
holds-more a b more (Leaf k) m h = more-on-leaf a b more k m h

pub holds-each-more : (a b : Holding) → IsMore a b → (ns : List Need) → HoldsEach a ns → HoldsEach b ns
holds-each-more a b more [] h = tt
holds-each-more a b more (n ∷ ns) h = (holds-more a b more n.0 n.1 h.0, holds-each-more a b more ns h.1)

pub covered-more : (a b : Holding) → IsMore a b → (server : ℕ) (s : Standing) (who : List ℕ) (ds : List PerformedCall) → AreCovered a server s who ds → AreCovered b server s who ds
covered-more a b more server s who [] h = tt
covered-more a b more server s who (d ∷ ds) h = (holds-each-more a b more (needs_done (map.get s.files) s.own d) h.0, covered-more a b more server (step server s who d) who ds h.1)

pub joined-more : (held : Holding) (ns : List Need) → IsMore held (joined held ns)
joined-more held ns r m h = left-above (held r) (held_by ns r) m h

-- ---- what is granted

-- a mode in a list is covered by what the list comes to
first-held : (n : Need) (ns : List Need) → IsTrue (covers_held (held_by (n ∷ ns) n.0) n.1)
first-held n ns =
    subst (λ (b : Bool). IsTrue (covers_held (cond b (join_held (Some n.1) (held_by ns n.0)) (held_by ns n.0)) n.1)) (sym ((eq_by_cmp_equiv resources_total).refl n.0))
    (left-above (Some n.1) (held_by ns n.0) n.1 (covering-order.itself n.1))

by-left : (ns ms : List Need) (r : Resource) → Above (held_by ns r) (held_by (ns ++ ms) r)
by-left ns ms r m h = subst (λ (o : Option Mode). IsTrue (covers_held o m)) (sym (held_by-append ns ms r)) (left-above (held_by ns r) (held_by ms r) m h)

by-right : (ns ms : List Need) (r : Resource) → Above (held_by ms r) (held_by (ns ++ ms) r)
by-right ns ms r m h = subst (λ (o : Option Mode). IsTrue (covers_held o m)) (sym (held_by-append ns ms r)) (right-above (held_by ns r) (held_by ms r) m h)

-- with the whole files of a request all is asked that they give
wholes-first : (held : Holding) (r : Resource) (m : Mode) (q : Resource) → Above (held_by (whole_of r m) q) (held_by (asked_on held r m) q)
wholes-first held (Whole f) m q x h = h
wholes-first held (Leaf k) m q x h = cc

pub wholes-asked : (held : Holding) (ns : List Need) (q : Resource) → Above (held_by (wholes_of ns) q) (held_by (asked_each held ns) q)
wholes-asked held [] q m h = h
wholes-asked held (n ∷ ns) q m h =
    joined-above (held_by (whole_of n.0 n.1) q) (held_by (wholes_of ns) q) (held_by (asked_on held n.0 n.1 ++ asked_each held ns) q)
    (λ x k. by-left (asked_on held n.0 n.1) (asked_each held ns) q x (wholes-first held n.0 n.1 q x k))
    (λ x k. by-right (asked_on held n.0 n.1) (asked_each held ns) q x (wholes-asked held ns q x k))
    m (subst (λ (o : Option Mode). IsTrue (covers_held o m)) (held_by-append (whole_of n.0 n.1) (wholes_of ns) q) h)

-- what is asked for one need makes it held
asked-holds : (judged after : Holding) → IsMore judged after → (r : Resource) (m : Mode) → ((q : Resource) → Above (held_by (asked_on judged r m) q) (after q)) → HoldsOn after r m
asked-holds judged after more (Whole f) m is = is (Whole f) m (first-held (Whole f, m) [])
asked-holds judged after more (Leaf k) m is = go (covers_held (given_to judged k) m) refl is
  where
    go : (b : Bool) → covers_held (given_to judged k) m ≡ b → ((q : Resource) → Above (held_by (cond b [] ((Leaf k, m) ∷ intention_on (file_of k) m)) q) (after q)) → HoldsOn after (Leaf k) m
    go true e is = right-above (after (Leaf k)) (given_to after k) m (more-given judged after more k m e)
    go false e is = left-above (after (Leaf k)) (given_to after k) m (is (Leaf k) m (first-held (Leaf k, m) (intention_on (file_of k) m)))

asked-each-holds : (judged after : Holding) → IsMore judged after → (ns : List Need) → ((q : Resource) → Above (held_by (asked_each judged ns) q) (after q)) → HoldsEach after ns
asked-each-holds judged after more [] is = tt
asked-each-holds judged after more (n ∷ ns) is = (
  asked-holds judged after more n.0 n.1 (λ q m h. is q m (by-left (asked_on judged n.0 n.1) (asked_each judged ns) q m h)),
  asked-each-holds judged after more ns (λ q m h. is q m (by-right (asked_on judged n.0 n.1) (asked_each judged ns) q m h)),
)

-- what is granted covers what is needed
pub granted-holds : (held : Holding) (ns : List Need) → HoldsEach (granted held ns) ns
granted-holds held ns = asked-each-holds (joined held (wholes_of ns)) (granted held ns)
    (λ q. joined-above (held q) (held_by (wholes_of ns) q) (granted held ns q)
    (λ m h. left-above (held q) (held_by (request_of held ns) q) m h)
    (λ m h. right-above (held q) (held_by (request_of held ns) q) m (wholes-asked (joined held (wholes_of ns)) ns q m h)))
    ns (λ q m h. right-above (held q) (held_by (request_of held ns) q) m h)

pub granted-more : (held : Holding) (ns : List Need) → IsMore held (granted held ns)
granted-more held ns = joined-more held (request_of held ns)

-- ---- the intentions

-- whoever holds a leaf so has its intention on the file
abbrev Intends : Option Mode → Option Mode → Type 0
Intends l f = (m : Mode) → l ≡ Some m → IsTrue (covers_held f (intention_of m))

joint-intention : (a b c : Mode) → IsTrue (covers_of c (intention_of a)) → IsTrue (covers_of c (intention_of b)) → IsTrue (covers_of c (intention_of (join_of a b)))
unfolding covers_of join_of intention_of
joint-intention a b c h k =
    implied-is (covers_of c (intention_of b)) (covers_of c (intention_of (join_of a b)))
    (implied-is (covers_of c (intention_of a)) (implied (covers_of c (intention_of b)) (covers_of c (intention_of (join_of a b))))
    (at-all (λ x y z. implied (covers_of z (intention_of x)) (implied (covers_of z (intention_of y)) (covers_of z (intention_of (join_of x y))))) refl a b c) h)
    k

joint-held : (a b : Mode) (o : Option Mode) → IsTrue (covers_held o (intention_of a)) → IsTrue (covers_held o (intention_of b)) → IsTrue (covers_held o (intention_of (join_of a b)))
joint-held a b None h k = cc
joint-held a b (Some c) h k = joint-intention a b c h k

intends-joined : (a b f g : Option Mode) → Intends a f → Intends b g → Intends (join_held a b) (join_held f g)
intends-joined None b f g i j m e = right-above f g (intention_of m) (j m e)
intends-joined (Some a) None f g i j m e = left-above f g (intention_of m) (i m e)
intends-joined (Some a) (Some b) f g i j m e =
    subst (λ (x : Mode). IsTrue (covers_held (join_held f g) (intention_of x))) (same-some (join_of a b) m e)
    (joint-held a b (join_held f g) (left-above f g (intention_of a) (i a refl)) (right-above f g (intention_of b) (j b refl)))

intended-joined : (a b : Holding) → IsIntended a → IsIntended b → IsIntended (λ r. join_held (a r) (b r))
intended-joined a b i j k f m in_file is = intends-joined (a (Leaf k)) (b (Leaf k)) (a (Whole f)) (b (Whole f)) (λ x e. i k f x in_file e) (λ x e. j k f x in_file e) m is

-- an intention is on a file
no-leaf : (o : Option FileId) (m : Mode) (k : Key) → held_by (intention_on o m) (Leaf k) ≡ None
no-leaf None m k = refl
no-leaf (Some f) m k = refl

leaf_in : Resource → Key → Key
leaf_in (Whole f) other = other
leaf_in (Leaf k) other = k

same-leaf : (q k : Key) → eq_by_cmp resource_cmp (Leaf q) (Leaf k) ≡ true → q ≡ k
unfolding leaf_in
same-leaf q k e = ap (λ r. leaf_in r q) (tells_apart exact_resources (Leaf q) (Leaf k) e)

leaf-with-intention : (k : Key) (m : Mode) → IsIntended (held_by ((Leaf k, m) ∷ intention_on (file_of k) m))
leaf-with-intention k m q f x in_file is = go (eq_by_cmp resource_cmp (Leaf q) (Leaf k)) refl is
  where
    intended : file_of k ≡ Some f → m ≡ x → IsTrue (covers_held (held_by ((Leaf k, m) ∷ intention_on (file_of k) m) (Whole f)) (intention_of x))
    intended there same =
        by-right ((Leaf k, m) ∷ []) (intention_on (file_of k) m) (Whole f) (intention_of x)
        (subst (λ (o : Option FileId). IsTrue (covers_held (held_by (intention_on o m) (Whole f)) (intention_of x))) (sym there)
        (subst (λ (y : Mode). IsTrue (covers_held (held_by ((Whole f, intention_of m) ∷ []) (Whole f)) (intention_of y))) same (first-held (Whole f, intention_of m) [])))

    go : (b : Bool) → eq_by_cmp resource_cmp (Leaf q) (Leaf k) ≡ b → cond b (join_held (Some m) (held_by (intention_on (file_of k) m) (Leaf q))) (held_by (intention_on (file_of k) m) (Leaf q)) ≡ Some x
        → IsTrue (covers_held (held_by ((Leaf k, m) ∷ intention_on (file_of k) m) (Whole f)) (intention_of x))
    go true e is =
        intended (ap file_of (sym (same-leaf q k e)) ∙ in_file)
        (same-some m x (ap (join_held (Some m)) (sym (no-leaf (file_of k) m q)) ∙ is))
    go false e is = let wrong : None ≡ Some x = sym (no-leaf (file_of k) m q) ∙ is in cc

asked-intended : (held : Holding) (r : Resource) (m : Mode) → IsIntended (held_by (asked_on held r m))
asked-intended held (Whole f) m = λ k g x in_file is. (let wrong : None ≡ Some x = is in cc)
asked-intended held (Leaf l) m = go (covers_held (given_to held l) m)
  where
    go : (b : Bool) → IsIntended (held_by (cond b [] ((Leaf l, m) ∷ intention_on (file_of l) m)))
    go true = λ k f x in_file is. (let wrong : None ≡ Some x = is in cc)
    go false = leaf-with-intention l m

asked-each-intended : (held : Holding) (ns : List Need) → IsIntended (held_by (asked_each held ns))
asked-each-intended held [] k f m in_file is = let wrong : None ≡ Some m = is in cc
asked-each-intended held (n ∷ ns) k f m in_file is =
    subst (λ (o : Option Mode). IsTrue (covers_held o (intention_of m))) (sym (held_by-append (asked_on held n.0 n.1) (asked_each held ns) (Whole f)))
    (intended-joined (held_by (asked_on held n.0 n.1)) (held_by (asked_each held ns)) (asked-intended held n.0 n.1) (asked-each-intended held ns) k f m in_file
    (sym (held_by-append (asked_on held n.0 n.1) (asked_each held ns) (Leaf k)) ∙ is))

-- what is granted has its intentions beside it
pub granted-intended : (held : Holding) (ns : List Need) → IsIntended held → IsIntended (granted held ns)
granted-intended held ns h = intended-joined held (held_by (request_of held ns)) h (asked-each-intended (joined held (wholes_of ns)) ns)

-- ---- a new file

made-intended : (id : Option FileId) → IsIntended (held_by (needs_made id))
made-intended None k f m in_file is = let wrong : None ≡ Some m = is in cc
made-intended (Some g) k f m in_file is = let wrong : None ≡ Some m = is in cc

pub with_made-intended : (held : Holding) (id : Option FileId) → IsIntended held → IsIntended (with_made held id)
with_made-intended held id h = intended-joined held (held_by (needs_made id)) h (made-intended id)

with_made-holds : (held : Holding) (id : Option FileId) (ns : List Need) → HoldsEach (with_made held id) ns → HoldsEach (with_made held id) (needs_made id ++ ns)
with_made-holds held None ns h = h
with_made-holds held (Some f) ns h = (right-above (held (Whole f)) (held_by ((Whole f, Write) ∷ []) (Whole f)) Write (first-held (Whole f, Write) []), h)

-- where a call's locks are held, they are with those of the file that it makes
pub done-holds : (held : Holding) (m : View) (own : Own) (d : PerformedCall) → HoldsEach held (needs_of m own d.call) → HoldsEach (with_made held (id_in d.reply)) (needs_done m own d)
done-holds held m own d h =
    with_made-holds held (id_in d.reply) (needs_of m own d.call)
    (holds-each-more held (with_made held (id_in d.reply)) (joined-more held (needs_made (id_in d.reply))) (needs_of m own d.call) h)

-- ---- one call more

pub covered-push : (held : Holding) (server : ℕ) (s : Standing) (who : List ℕ) (ds : List PerformedCall) (d : PerformedCall) → AreCovered held server s who ds
    → HoldsEach held (needs_done (map.get (steps server s who ds).files) (steps server s who ds).own d) → AreCovered held server s who (ds ++ d ∷ [])
covered-push held server s who [] d h g = (g, tt)
covered-push held server s who (x ∷ ds) d h g = (h.0, covered-push held server (step server s who x) who ds d h.1 g)

pub changes-push : (server : ℕ) (s : Standing) (who : List ℕ) (ds : List PerformedCall) (d : PerformedCall) → changes server s who (ds ++ d ∷ []) ≡ changes server s who ds ++ (answer_to server (steps server s who ds) who d).edits
changes-push server s who [] d = append-nil (answer_to server s who d).edits
changes-push server s who (x ∷ ds) d =
    ap (λ (es : List Edit). (answer_to server s who x).edits ++ es) (changes-push server (step server s who x) who ds d)
    ∙ sym (append_assoc (answer_to server s who x).edits (changes server (step server s who x) who ds) (answer_to server (steps server (step server s who x) who ds) who d).edits)
