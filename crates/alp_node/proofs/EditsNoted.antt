-- what a note's change may write is what its part may, whose edits come to the same
use Rattle.std.specs.Prelude.{cond, max, Bool, true, false, not, ◌&&◌, ◌||◌, IsTrue, Option, None, Some, is_some, map as list_map}
use Rattle.std.specs.List.{list_all, AllByRecursion}
use Rattle.std.specs.Option.{option_and_then}
use Rattle.std.specs.FinMap as map
use Rattle.std.specs.FinMap.{get-empty, get-insert, get-remove}
use Rattle.std.specs.Cmp.{eq_by_cmp_equiv}
use Rattle.std.specs.Ordering.{eq_by_cmp}
use Rattle.std.proofs.Common.{◌≡◌, ℕ, suc, ◌+◌, ◌≤◌, List, [], ◌∷◌, ◌++◌, length, length-append, refl, sym, ◌∙◌, ap, subst, arith}
use Rattle.std.proofs.lemmas.List.{length-map}
use Rattle.std.proofs.lemmas.Map.Views.{tells_apart}
use Rattle.alp_base.specs.KeyLaws.{file_cmp, keys_total, exact_keys, exact_files}
use Rattle.alp_base.specs.Keys.{key_cmp}
use Rattle.alp_base.specs.Orders.{resource_cmp, exact_resources}
use Rattle.alp_base.specs.declared.cell.Cell.{Cell}
use Rattle.alp_base.specs.declared.change.Change.{Change}
use Rattle.alp_base.specs.declared.ids.FileId.{FileId}
use Rattle.alp_base.specs.declared.key.Key.{Key}
use Rattle.alp_base.specs.declared.key.Key.TheVariants.{Leader, PageOf, OwnerOf}
use Rattle.alp_base.specs.declared.key.Resource.{Resource}
use Rattle.alp_base.specs.declared.key.Resource.TheVariants.{Whole, Leaf}
use Rattle.alp_modes.specs.Modes.{covers_of, leaf_of}
use Rattle.alp_modes.specs.declared.Mode.{Mode}
use Rattle.alp_modes.specs.declared.Mode.TheVariants.{IntendRead, IntendWrite, Read, Update, ReadIntendWrite, Write}
use Rattle.alp_files.specs.Apart.{IsWithin}
use Rattle.alp_files.specs.Cells.{Cells, same_file}
use Rattle.alp_files.specs.Changes.{edits_of}
use Rattle.alp_files.specs.Edits.{Edit, Drop, Cut, Put, is_in_file, is_past}
use Rattle.alp_files.specs.Holdings.{Holding, covers_held, join_held, held_by, file_of, given_to, mode_on, intention_of, IsIntended}
use Rattle.alp_files.specs.Locks.{Need, Writes}
use Rattle.alp_files.specs.Needs.{Intents, no_intents, intend, intents_from, intents_of, cut_from}
use Rattle.alp_files.specs.Undo.{puts_of}
use Rattle.alp_files.proofs.IntentLemmas.{files_total, intents_from-append, dropped_too, kept, same_id}
use Rattle.alp_files.proofs.SameLemmas.{same_key-true, same_file-true, same_file-itself}
use Rattle.alp_vault.specs.Volumes.{changed_cells}
use Rattle.alp_regain.specs.Named.{is_own, is_own_key, is_own_edit, is_covered}
use Rattle.alp_regain.proofs.ListLemmas.{all_of_change}

-- ---- what edits come to

or_true : (b : Bool) → (b || true) ≡ true
or_true true = refl
or_true false = refl

some_either : {X : Type 0} (b : Bool) (x : X) (o : Option X) → is_some (cond b (Some x) o) ≡ (b || is_some o)
some_either true x o = refl
some_either false x o = refl

cut_put : (i : Intents) (f g : FileId) (n : ℕ) → map.contains_key (map.insert i.cuts f n) g ≡ (same_file f g || map.contains_key i.cuts g)
cut_put i f g n = ap is_some (get-insert files_total i.cuts f n g) ∙ some_either (eq_by_cmp file_cmp g f) n (map.get i.cuts g) ∙ ap (λ (b : Bool). b || map.contains_key i.cuts g) (same_id f g)

put_put : (m : Cells) (k q : Key) (c : Cell) → map.contains_key (map.insert m k c) q ≡ (eq_by_cmp key_cmp q k || map.contains_key m q)
put_put m k q c = ap is_some (get-insert keys_total m k c q) ∙ some_either (eq_by_cmp key_cmp q k) c (map.get m q)

key_itself : (k : Key) → eq_by_cmp key_cmp k k ≡ true
key_itself k = (eq_by_cmp_equiv keys_total).refl k

-- a file that goes is gone for good
drops_stay : (es : List Edit) (i : Intents) (f : FileId) → map.contains_key i.drops f ≡ true → map.contains_key (intents_from i es).drops f ≡ true
drops_stay [] i f h = h
drops_stay (Drop g ∷ es) i f h = drops_stay es (intend (Drop g) i) f (dropped_too i g f ∙ ap (λ (b : Bool). same_file g f || b) h ∙ or_true (same_file g f))
drops_stay (Cut g n ∷ es) i f h = drops_stay es (intend (Cut g n) i) f h
drops_stay (Put k c ∷ es) i f h = drops_stay es (intend (Put k c) i) f h

-- a cut stays behind cuts and puts, and a put behind puts
cuts_behind_puts : (ps : List (Key × Cell)) (i : Intents) (f : FileId) → map.contains_key i.cuts f ≡ true → map.contains_key (intents_from i (puts_of ps)).cuts f ≡ true
cuts_behind_puts [] i f h = h
cuts_behind_puts (p ∷ ps) i f h = cuts_behind_puts ps (intend (Put p.0 p.1) i) f h

cuts_stay : (cs : List (FileId × ℕ)) (ps : List (Key × Cell)) (i : Intents) (f : FileId) → map.contains_key i.cuts f ≡ true → map.contains_key (intents_from i (list_map (λ (x : FileId × ℕ). Cut x.0 x.1) cs ++ puts_of ps)).cuts f ≡ true
cuts_stay [] ps i f h = cuts_behind_puts ps i f h
cuts_stay (x ∷ cs) ps i f h =
    cuts_stay cs ps (intend (Cut x.0 x.1) i) f (cut_put i x.0 f (cut_from i.cuts x.0 x.1) ∙ ap (λ (b : Bool). same_file x.0 f || b) h ∙ or_true (same_file x.0 f))

puts_stay : (ps : List (Key × Cell)) (i : Intents) (k : Key) → map.contains_key i.puts k ≡ true → map.contains_key (intents_from i (puts_of ps)).puts k ≡ true
puts_stay [] i k h = h
puts_stay (p ∷ ps) i k h = puts_stay ps (intend (Put p.0 p.1) i) k (put_put i.puts p.0 k p.1 ∙ ap (λ (b : Bool). eq_by_cmp key_cmp k p.0 || b) h ∙ or_true (eq_by_cmp key_cmp k p.0))

-- ---- what may be written, by what is intended

pub record AreWithin (W : Key → Type 0) (i : Intents) : Type 0 where
  pub drops : (f : FileId) → map.contains_key i.drops f ≡ true → (k : Key) → file_of k ≡ Some f → W k
  pub cuts : (f : FileId) → map.contains_key i.cuts f ≡ true → (k : Key) → file_of k ≡ Some f → W k
  pub puts : (k : Key) → map.contains_key i.puts k ≡ true → W k

module _ (W : Key → Type 0) where
  none_within : AreWithin W no_intents
  none_within = record {
    drops = λ f is. (let wrong : false ≡ true = sym (ap is_some (get-empty {X = Unit {0}} file_cmp f)) ∙ is in cc);
    cuts = λ f is. (let wrong : false ≡ true = sym (ap is_some (get-empty {X = ℕ} file_cmp f)) ∙ is in cc);
    puts = λ k is. (let wrong : false ≡ true = sym (ap is_some (get-empty {X = Cell} key_cmp k)) ∙ is in cc);
  }

  -- one of two
  of_either : (a b : Bool) → (a || b) ≡ true → {P : Type 0} → (a ≡ true → P) → (b ≡ true → P) → P
  of_either true b h f g = f refl
  of_either false b h f g = g h

  still_put : (i : Intents) (p : Key → Bool) (k : Key) → map.contains_key (map.retain_keys i.puts p) k ≡ true → map.contains_key i.puts k ≡ true
  still_put i p k h = go (p k) (sym (ap is_some (kept p i.puts k)) ∙ h)
    where
      go : (b : Bool) → is_some (cond b (map.get i.puts k) None) ≡ true → map.contains_key i.puts k ≡ true
      go true e = e
      go false e = let wrong : false ≡ true = e in cc

  still_cut : (i : Intents) (f g : FileId) → map.contains_key (map.remove i.cuts f) g ≡ true → map.contains_key i.cuts g ≡ true
  still_cut i f g h = go (eq_by_cmp file_cmp g f) (sym (ap is_some (get-remove files_total i.cuts f g)) ∙ h)
    where
      go : (b : Bool) → is_some (cond b None (map.get i.cuts g)) ≡ true → map.contains_key i.cuts g ≡ true
      go true e = let wrong : false ≡ true = e in cc
      go false e = e

  one_within : (e : Edit) (i : Intents) → AreWithin W i → IsWithin W (e ∷ []) → AreWithin W (intend e i)
  one_within (Drop f) i h w = record {
    drops = λ g is k at. of_either (same_file f g) (map.contains_key i.drops g) (sym (dropped_too i f g) ∙ is) (λ same. w.0 k (at ∙ ap (λ (x : FileId). Some x) (sym (same_file-true f g same)))) (λ was. h.drops g was k at);
    cuts = λ g is k at. h.cuts g (still_cut i f g is) k at;
    puts = λ k is. h.puts k (still_put i (λ q. not (is_in_file f q)) k is);
  }
  one_within (Cut f n) i h w = record {
    drops = h.drops;
    cuts = λ g is k at. of_either (same_file f g) (map.contains_key i.cuts g) (sym (cut_put i f g (cut_from i.cuts f n)) ∙ is) (λ same. w.0 k (at ∙ ap (λ (x : FileId). Some x) (sym (same_file-true f g same)))) (λ was. h.cuts g was k at);
    puts = λ k is. h.puts k (still_put i (λ q. not (is_past f n q)) k is);
  }
  one_within (Put q c) i h w = record {
    drops = h.drops;
    cuts = h.cuts;
    puts = λ k is. of_either (eq_by_cmp key_cmp k q) (map.contains_key i.puts k) (sym (put_put i.puts q k c) ∙ is) (λ same. subst W (sym (same_key-true k q same)) w.0) (λ was. h.puts k was);
  }

  within_from : (es : List Edit) (i : Intents) → AreWithin W i → IsWithin W es → AreWithin W (intents_from i es)
  within_from [] i h w = h
  within_from (Drop f ∷ es) i h w = within_from es (intend (Drop f) i) (one_within (Drop f) i h (w.0, tt)) w.1
  within_from (Cut f n ∷ es) i h w = within_from es (intend (Cut f n) i) (one_within (Cut f n) i h (w.0, tt)) w.1
  within_from (Put k c ∷ es) i h w = within_from es (intend (Put k c) i) (one_within (Put k c) i h (w.0, tt)) w.1

  pub within_intents : (es : List Edit) → IsWithin W es → AreWithin W (intents_of es)
  within_intents es w = within_from es no_intents none_within w

-- ---- a whole file

abbrev page_in : Resource → ℕ
page_in (Whole f) = 0
page_in (Leaf (Leader f)) = 0
page_in (Leaf (PageOf f n)) = n
page_in (Leaf (OwnerOf name)) = 0

-- no page from this number on is locked
abbrev bound : List Need → ℕ
bound [] = 0
bound (n ∷ ns) = max (suc (page_in n.0)) (bound ns)

none_beyond : (ns : List Need) (f : FileId) (m : ℕ) → bound ns ≤ m → held_by ns (Leaf (PageOf f m)) ≡ None
none_beyond [] f m less = refl
none_beyond (n ∷ ns) f m less = go (eq_by_cmp resource_cmp (Leaf (PageOf f m)) n.0) refl (none_beyond ns f m (omega (arith, less)))
  where
    go : (b : Bool) → eq_by_cmp resource_cmp (Leaf (PageOf f m)) n.0 ≡ b → held_by ns (Leaf (PageOf f m)) ≡ None → cond {A = Option Mode} b (join_held (Some n.1) (held_by ns (Leaf (PageOf f m)))) (held_by ns (Leaf (PageOf f m))) ≡ None
    go false e rest = rest
    go true e rest = (let same : m ≡ page_in n.0 = ap page_in (tells_apart exact_resources (Leaf (PageOf f m)) n.0 e) in absurd (omega (arith, same, less)))

-- a leaf that only the file gives
given_write : (o : Option Mode) → covers_held (option_and_then leaf_of o) Write ≡ true → covers_held o Write ≡ true
unfolding covers_of leaf_of
given_write None h = h
given_write (Some IntendRead) h = h
given_write (Some IntendWrite) h = h
given_write (Some Read) h = h
given_write (Some Update) h = h
given_write (Some ReadIntendWrite) h = h
given_write (Some Write) h = refl

-- who may write all pages of a file has locked the file
whole_locked : (ns : List Need) (f : FileId) → ((k : Key) → file_of k ≡ Some f → Writes (held_by ns) k) → covers_held (held_by ns (Whole f)) Write ≡ true
whole_locked ns f all =
    given_write (held_by ns (Whole f)) (ap (λ (o : Option Mode). covers_held (join_held o (option_and_then leaf_of (held_by ns (Whole f)))) Write) (sym (none_beyond ns f (bound ns) (omega arith))) ∙ all (PageOf f (bound ns)) refl)

-- ---- the change of a note

pub all_listed : {X : Type 0} (p : X → Bool) (xs : List X) → AllByRecursion (λ x. p x ≡ true) xs → list_all p xs ≡ true
all_listed p [] h = refl
all_listed p (x ∷ xs) h = ap (λ (b : Bool). b && list_all p xs) h.0 ∙ all_listed p xs h.1

module _ (ns : List Need) (i : Intents) (h : AreWithin (Writes (held_by ns)) i) where
  drops_covered : (fs : List FileId) (j : Intents) (es : List Edit) → intents_from j (list_map Drop fs ++ es) ≡ i → AllByRecursion (λ f. is_covered (held_by ns) (Drop f) ≡ true) fs
  drops_covered [] j es is = tt
  drops_covered (f ∷ fs) j es is = (
    whole_locked ns f (h.drops f (ap (λ (x : Intents). map.contains_key x.drops f) (sym is) ∙ drops_stay (list_map Drop fs ++ es) (intend (Drop f) j) f (dropped_too j f f ∙ ap (λ (b : Bool). b || map.contains_key j.drops f) (same_file-itself f)))),
    drops_covered fs (intend (Drop f) j) es is,
  )

  cuts_covered : (cs : List (FileId × ℕ)) (j : Intents) (ps : List (Key × Cell)) → intents_from j (list_map (λ (x : FileId × ℕ). Cut x.0 x.1) cs ++ puts_of ps) ≡ i → AllByRecursion (λ (x : FileId × ℕ). is_covered (held_by ns) (Cut x.0 x.1) ≡ true) cs
  cuts_covered [] j ps is = tt
  cuts_covered (x ∷ cs) j ps is = (
    whole_locked ns x.0 (h.cuts x.0 (ap (λ (y : Intents). map.contains_key y.cuts x.0) (sym is)
        ∙ cuts_stay cs ps (intend (Cut x.0 x.1) j) x.0 (cut_put j x.0 x.0 (cut_from j.cuts x.0 x.1) ∙ ap (λ (b : Bool). b || map.contains_key j.cuts x.0) (same_file-itself x.0)))),
    cuts_covered cs (intend (Cut x.0 x.1) j) ps is,
  )

  puts_covered : (ps : List (Key × Cell)) (j : Intents) → intents_from j (puts_of ps) ≡ i → AllByRecursion (λ (x : Key × Cell). is_covered (held_by ns) (Put x.0 x.1) ≡ true) ps
  puts_covered [] j is = tt
  puts_covered (x ∷ ps) j is = (
    h.puts x.0 (ap (λ (y : Intents). map.contains_key y.puts x.0) (sym is) ∙ puts_stay ps (intend (Put x.0 x.1) j) x.0 (put_put j.puts x.0 x.0 x.1 ∙ ap (λ (b : Bool). b || map.contains_key j.puts x.0) (key_itself x.0))),
    puts_covered ps (intend (Put x.0 x.1) j) is,
  )

  pub change_covered : (c : Change) → intents_of (edits_of c) ≡ i → list_all (is_covered (held_by ns)) (edits_of c) ≡ true
  change_covered c is =
      let cut : List Edit = list_map (λ (x : FileId × ℕ). Cut x.0 x.1) c.cuts in
      let dropped : Intents = intents_from no_intents (list_map Drop c.drops) in
      let one : intents_from dropped (cut ++ puts_of c.puts) ≡ i = sym (intents_from-append no_intents (list_map Drop c.drops) (cut ++ puts_of c.puts)) ∙ is in
      let two : intents_from (intents_from dropped cut) (puts_of c.puts) ≡ i = sym (intents_from-append dropped cut (puts_of c.puts)) ∙ one in
      all_of_change (is_covered (held_by ns)) c
      ∙ (λ z. all_listed (λ f. is_covered (held_by ns) (Drop f)) c.drops (drops_covered c.drops no_intents (cut ++ puts_of c.puts) is) z
      && (all_listed (λ (x : FileId × ℕ). is_covered (held_by ns) (Cut x.0 x.1)) c.cuts (cuts_covered c.cuts dropped c.puts one) z
      && all_listed (λ (x : Key × Cell). is_covered (held_by ns) (Put x.0 x.1)) c.puts (puts_covered c.puts (intents_from dropped cut) two) z))

-- ---- files of the server

module _ (server epoch : ℕ) (held : Holding) (intended : IsIntended held) (own : (f : FileId) (m : Mode) → held (Whole f) ≡ Some m → is_own server epoch f ≡ true) where
  -- a mode that covers another is there
  own_covered : (f : FileId) (m : Mode) (o : Option Mode) → held (Whole f) ≡ o → covers_held o m ≡ true → is_own server epoch f ≡ true
  own_covered f m None e h = let wrong : false ≡ true = h in cc
  own_covered f m (Some n) e h = own f n e

  pub own_leaf : (k : Key) (m : Mode) → held (Leaf k) ≡ Some m → is_own_key server epoch k ≡ true
  own_leaf (Leader f) m e = own_covered f (intention_of m) (held (Whole f)) refl (intended (Leader f) f m refl e)
  own_leaf (PageOf f n) m e = own_covered f (intention_of m) (held (Whole f)) refl (intended (PageOf f n) f m refl e)
  own_leaf (OwnerOf name) m e = refl

  own_in : (k : Key) (f : FileId) → file_of k ≡ Some f → (is_own server epoch f ≡ true → is_own_key server epoch k ≡ true) → (o : Option Mode) → held (Leaf k) ≡ o → (p : Option Mode) → held (Whole f) ≡ p → covers_held (join_held o (option_and_then leaf_of p)) Write ≡ true → is_own_key server epoch k ≡ true
  own_in k f at go (Some m) e p w h = own_leaf k m e
  own_in k f at go None e (Some n) w h = go (own f n w)
  own_in k f at go None e None w h = let wrong : false ≡ true = h in cc

  own_written : (k : Key) → Writes held k → is_own_key server epoch k ≡ true
  own_written (Leader f) h = own_in (Leader f) f refl (λ is. is) (held (Leaf (Leader f))) refl (held (Whole f)) refl h
  own_written (PageOf f n) h = own_in (PageOf f n) f refl (λ is. is) (held (Leaf (PageOf f n))) refl (held (Whole f)) refl h
  own_written (OwnerOf name) h = refl

  own_edit : (e : Edit) → is_covered held e ≡ true → is_own_edit server epoch e ≡ true
  own_edit (Drop f) h = own_covered f Write (held (Whole f)) refl h
  own_edit (Cut f n) h = own_covered f Write (held (Whole f)) refl h
  own_edit (Put k c) h = own_written k h

  pub own_edits : (es : List Edit) → list_all (is_covered held) es ≡ true → list_all (is_own_edit server epoch) es ≡ true
  own_edits [] h = refl
  own_edits (e ∷ es) h = go (is_covered held e) refl h (λ g. own_edits es g)
    where
      go : (b : Bool) → is_covered held e ≡ b → (b && list_all (is_covered held) es) ≡ true → (list_all (is_covered held) es ≡ true → list_all (is_own_edit server epoch) es ≡ true) → list_all (is_own_edit server epoch) (e ∷ es) ≡ true
      go true f g rest = ap (λ (b : Bool). b && list_all (is_own_edit server epoch) es) (own_edit e f) ∙ rest g
      go false f g rest = let wrong : false ≡ true = g in cc

-- as many edits as cells and files
pub change_length : (c : Change) → length (edits_of c) ≡ changed_cells c
change_length c =
    omega (
      arith,
      length-append (list_map Drop c.drops) (list_map (λ (x : FileId × ℕ). Cut x.0 x.1) c.cuts ++ puts_of c.puts),
      length-append (list_map (λ (x : FileId × ℕ). Cut x.0 x.1) c.cuts) (puts_of c.puts),
      length-map c.drops Drop,
      length-map c.cuts (λ (x : FileId × ℕ). Cut x.0 x.1),
      length-map c.puts (λ (x : Key × Cell). Put x.0 x.1),
    )
