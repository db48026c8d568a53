-- locks as a note lists them: how many there are, what they intend, and what they let write
use Rattle.std.specs.Prelude.{cond, Bool, true, false, ◌||◌, Option, None, Some, is_some}
use Rattle.std.specs.List.{list_all}
use Rattle.std.specs.Option.{option_and_then}
use Rattle.std.specs.FinMap as map
use Rattle.std.specs.FinMap.{get-empty, get-insert, len-insert, len-empty, len-entries}
use Rattle.std.specs.Ordering.{eq_by_cmp}
use Rattle.std.proofs.Common.{◌≡◌, ◌+◌, List, [], ◌∷◌, ◌++◌, length, length-append, refl, sym, ◌∙◌, ap, arith}
use Rattle.std.proofs.lemmas.Map.Views.{tells_apart}
use Rattle.std.proofs.lemmas.List.Folds.{list_any-append}
use Rattle.alp_base.specs.Orders.{resource_cmp, resources_total, exact_resources}
use Rattle.alp_base.specs.declared.ids.FileId.{FileId}
use Rattle.alp_base.specs.declared.key.Key.{Key}
use Rattle.alp_base.specs.declared.key.Resource.{Resource}
use Rattle.alp_base.specs.declared.key.Resource.TheVariants.{Whole, Leaf}
use Rattle.alp_modes.specs.declared.Mode.{Mode}
use Rattle.alp_modes.specs.declared.Mode.TheVariants.{IntendRead, IntendWrite, Read, Update, ReadIntendWrite, Write}
use Rattle.alp_modes.specs.Modes.{covers_of, join_of, leaf_of}
use Rattle.alp_modes.proofs.ModeLemmas.{at-all, implied, implied-is}
use Rattle.alp_files.specs.Apart.{IsWithin}
use Rattle.alp_files.specs.Edits.{Edit, Drop, Cut, Put}
use Rattle.alp_files.specs.Holdings.{Holding, join_held, covers_held, held_by, file_of, intention_of, IsIntended}
use Rattle.alp_files.specs.Locks.{Need, Writes}
use Rattle.alp_files.proofs.FilesLemmas.{same-some}
use Rattle.alp_queue.specs.Rises.{Held}
use Rattle.alp_locks.specs.Asks.{raised, joined}
use Rattle.alp_journal.specs.Counts.{has_resource, with_resources}
use Rattle.alp_regain.specs.Named.{has_intention, is_beside_intention, is_covered}
use Rattle.alp_regain.proofs.ListLemmas.{both}

-- ---- how many resources are locked

-- a map knows just these resources
abbrev Knows : Held → List Resource → Type 0
Knows h rs = (r : Resource) → has_resource r rs ≡ map.contains_key h r

or_false : (b : Bool) → (b || false) ≡ b
or_false true = refl
or_false false = refl

knows_put : (h : Held) (rs : List Resource) (q : Resource) (v : Mode) → Knows h rs → Knows (map.insert h q v) (cond (has_resource q rs) rs (rs ++ q ∷ []))
knows_put h rs q v knows r = inner ∙ sym (ap is_some (get-insert resources_total h q v r))
  where
    inner : has_resource r (cond (has_resource q rs) rs (rs ++ q ∷ [])) ≡ is_some (cond (eq_by_cmp resource_cmp r q) (Some v) (map.get h r))
    inner = go (has_resource q rs) refl (eq_by_cmp resource_cmp r q) refl
      where
        go : (a : Bool) → has_resource q rs ≡ a → (b : Bool) → eq_by_cmp resource_cmp r q ≡ b → has_resource r (cond a rs (rs ++ q ∷ [])) ≡ is_some (cond b (Some v) (map.get h r))
        go true here true same = ap (λ (x : Resource). has_resource x rs) (tells_apart exact_resources r q same) ∙ here
        go true here false other = knows r
        go false new true same =
            list_any-append (λ (x : Resource). eq_by_cmp resource_cmp r x) rs (q ∷ []) ∙ ap (λ (b : Bool). has_resource r rs || (b || false)) same ∙ at_end (has_resource r rs)
          where
            at_end : (b : Bool) → (b || (true || false)) ≡ true
            at_end true = refl
            at_end false = refl
        go false new false other =
            list_any-append (λ (x : Resource). eq_by_cmp resource_cmp r x) rs (q ∷ []) ∙ ap (λ (b : Bool). has_resource r rs || (b || false)) other ∙ or_false (has_resource r rs) ∙ knows r

length_put : (h : Held) (rs : List Resource) (q : Resource) (v : Mode) → Knows h rs → length rs ≡ map.len h → length (cond (has_resource q rs) rs (rs ++ q ∷ [])) ≡ map.len (map.insert h q v)
length_put h rs q v knows same = go (has_resource q rs) refl ∙ sym (len-insert resources_total h q v ∙ ap (λ (b : Bool). cond b (map.len h) (map.len h + 1)) (sym (knows q)))
  where
    go : (a : Bool) → has_resource q rs ≡ a → length (cond a rs (rs ++ q ∷ [])) ≡ cond a (map.len h) (map.len h + 1)
    go true here = same
    go false new = omega (arith, length-append rs (q ∷ []), same)

counted_from : (h : Held) (rs : List Resource) (ns : List Need) → Knows h rs → length rs ≡ map.len h → length (with_resources ns rs) ≡ map.len (joined h ns)
counted_from h rs [] knows same = same
counted_from h rs (n ∷ ns) knows same =
    counted_from (map.insert h n.0 (raised (map.get h n.0) n.1)) (cond (has_resource n.0 rs) rs (rs ++ n.0 ∷ [])) ns (knows_put h rs n.0 (raised (map.get h n.0) n.1) knows)
    (length_put h rs n.0 (raised (map.get h n.0) n.1) knows same)

-- a table counts each resource once
pub counted : (ns : List Need) → length (map.entries (joined map.empty ns)) ≡ length (with_resources ns [])
counted ns =
    sym (len-entries (joined map.empty ns))
    ∙ sym (counted_from map.empty [] ns (λ r. sym (ap is_some (get-empty resource_cmp r))) (sym (len-empty resource_cmp Mode)))

-- ---- intentions

joint : (a b c : Mode) → covers_of c (intention_of a) ≡ true → covers_of c (intention_of b) ≡ true → covers_of c (intention_of (join_of a b)) ≡ true
unfolding covers_of join_of intention_of
joint a b c h k =
    implied-is (covers_of c (intention_of b)) (covers_of c (intention_of (join_of a b)))
    (implied-is (covers_of c (intention_of a)) (implied (covers_of c (intention_of b)) (covers_of c (intention_of (join_of a b))))
    (at-all (λ x y z. implied (covers_of z (intention_of x)) (implied (covers_of z (intention_of y)) (covers_of z (intention_of (join_of x y))))) refl a b c) h)
    k

joint_held : (a b : Mode) (o : Option Mode) → covers_held o (intention_of a) ≡ true → covers_held o (intention_of b) ≡ true → covers_held o (intention_of (join_of a b)) ≡ true
joint_held a b None h k = cc
joint_held a b (Some c) h k = joint a b c h k

intended_from : (held : Holding) (ns : List Need) → list_all (λ l. is_beside_intention held l.0 l.1) ns ≡ true → (k : Key) (f : FileId) (m : Mode) → file_of k ≡ Some f
    → held_by ns (Leaf k) ≡ Some m
    → covers_held (held (Whole f)) (intention_of m) ≡ true
intended_from held [] all k f m in_file is = cc
intended_from held (n ∷ ns) all k f m in_file is = go (λ x e. intended_from held ns (both all).1 k f x in_file e) (eq_by_cmp resource_cmp (Leaf k) n.0) refl is
  where
    own : Leaf k ≡ n.0 → covers_held (held (Whole f)) (intention_of n.1) ≡ true
    own same =
        ap (λ (o : Option FileId). has_intention held o n.1) (sym in_file) ∙ ap (λ (r : Resource). is_beside_intention held r n.1) same ∙ (both all).0

    over : ((x : Mode) → held_by ns (Leaf k) ≡ Some x → covers_held (held (Whole f)) (intention_of x) ≡ true) → Leaf k ≡ n.0
        → (o : Option Mode) → held_by ns (Leaf k) ≡ o → join_held (Some n.1) o ≡ Some m → covers_held (held (Whole f)) (intention_of m) ≡ true
    over rest same None e is = ap (λ (x : Mode). covers_held (held (Whole f)) (intention_of x)) (sym (same-some n.1 m is)) ∙ own same
    over rest same (Some b) e is =
        ap (λ (x : Mode). covers_held (held (Whole f)) (intention_of x)) (sym (same-some (join_of n.1 b) m is))
        ∙ joint_held n.1 b (held (Whole f)) (own same) (rest b e)

    go : ((x : Mode) → held_by ns (Leaf k) ≡ Some x → covers_held (held (Whole f)) (intention_of x) ≡ true)
        → (t : Bool) → eq_by_cmp resource_cmp (Leaf k) n.0 ≡ t → cond t (join_held (Some n.1) (held_by ns (Leaf k))) (held_by ns (Leaf k)) ≡ Some m → covers_held (held (Whole f)) (intention_of m) ≡ true
    go rest true same h = over rest (tells_apart exact_resources (Leaf k) n.0 same) (held_by ns (Leaf k)) refl h
    go rest false other h = rest m h

pub are_intended : (ns : List Need) → list_all (λ l. is_beside_intention (held_by ns) l.0 l.1) ns ≡ true → IsIntended (held_by ns)
are_intended ns all k f m in_file is = intended_from (held_by ns) ns all k f m in_file is

-- ---- what may be written

-- a file that is locked to be written lets each of its leaves be written
whole_gives : (o x : Option Mode) → covers_held o Write ≡ true → covers_held (join_held x (option_and_then leaf_of o)) Write ≡ true
unfolding covers_of leaf_of join_of
whole_gives None x h = cc
whole_gives (Some IntendRead) x h = cc
whole_gives (Some IntendWrite) x h = cc
whole_gives (Some Read) x h = cc
whole_gives (Some Update) x h = cc
whole_gives (Some ReadIntendWrite) x h = cc
whole_gives (Some Write) None h = refl
whole_gives (Some Write) (Some IntendRead) h = refl
whole_gives (Some Write) (Some IntendWrite) h = refl
whole_gives (Some Write) (Some Read) h = refl
whole_gives (Some Write) (Some Update) h = refl
whole_gives (Some Write) (Some ReadIntendWrite) h = refl
whole_gives (Some Write) (Some Write) h = refl

all_of_file : (held : Holding) (f : FileId) → covers_held (held (Whole f)) Write ≡ true → (k : Key) → file_of k ≡ Some f → Writes held k
all_of_file held f h k in_file =
    ap (λ (o : Option FileId). covers_held (join_held (held (Leaf k)) (option_and_then leaf_of (option_and_then (λ g. held (Whole g)) o))) Write) in_file
    ∙ whole_gives (held (Whole f)) (held (Leaf k)) h

pub are_within : (held : Holding) (es : List Edit) → list_all (is_covered held) es ≡ true → IsWithin (Writes held) es
are_within held [] all = tt
are_within held (Drop f ∷ es) all = (λ k in_file. all_of_file held f (both all).0 k in_file, are_within held es (both all).1)
are_within held (Cut f n ∷ es) all = (λ k in_file. all_of_file held f (both all).0 k in_file, are_within held es (both all).1)
are_within held (Put k c ∷ es) all = ((both all).0, are_within held es (both all).1)
