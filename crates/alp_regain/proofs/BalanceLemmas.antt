-- owners are charged for what intents put and take away just where they are so looked at one by one
use Rattle.std.specs.Prelude.{cond, Bool, true, false, ◌&&◌, ◌||◌, ◌⊎◌, Option, None, Some, is_some, unwrap_or, sum_by, map as list_map}
use Rattle.std.specs.List.{list_all, list_any}
use Rattle.std.specs.Option.{option_or}
use Rattle.std.specs.Ordering.{eq_by_cmp}
use Rattle.std.specs.FinMap as map
use Rattle.std.specs.FinMap.{find, get-entries, get-insert, get-empty, same_map, contains_key-keys}
use Rattle.std.proofs.Common.{◌≡◌, ℕ, ◌+◌, List, [], ◌∷◌, ◌++◌, inl, inr, ⊎_elim, refl, sym, ◌∙◌, ap, arith, eq-eqb}
use Rattle.std.proofs.lemmas.Bool.{eqb-true}
use Rattle.std.proofs.lemmas.List.Sums.{sum_by-cons}
use Rattle.alp_base.specs.Keys.{key_cmp}
use Rattle.alp_base.specs.KeyLaws.{file_cmp, keys_total, exact_keys}
use Rattle.alp_base.specs.declared.cell.Cell.{Cell}
use Rattle.alp_base.specs.declared.cell.Cell.TheVariants as cell
use Rattle.alp_base.specs.declared.cell.OwnerRecord.{OwnerRecord}
use Rattle.alp_base.specs.declared.ids.FileId.{FileId}
use Rattle.alp_base.specs.declared.key.Key.{Key}
use Rattle.alp_base.specs.declared.key.Key.TheVariants.{Leader, PageOf, OwnerOf}
use Rattle.alp_files.specs.Cells.{Cells, View, same_name, owner_in}
use Rattle.alp_files.specs.Files.{IsOfKind, cost, charge_of, AreCharged}
use Rattle.alp_files.specs.Needs.{Intents, through}
use Rattle.alp_files.specs.Sound.{AreSound}
use Rattle.alp_files.proofs.IntentLemmas.{kept}
use Rattle.alp_files.proofs.SameLemmas.{same_key-true, same_name-true}
use Rattle.alp_files.proofs.SoundEdits.{uncharged}
use Rattle.alp_trans.specs.Counting.{with_intents}
use Rattle.alp_trans.specs.Parts.{change_of}
use Rattle.alp_calls.specs.Parts.{AllFit}
use Rattle.alp_calls.proofs.IntentCounts.{get-left, get-with}
use Rattle.alp_regain.specs.Balance.{files_put, touched_in, with_leader, leaders_with, owner_named, charge_in, adds_up, is_even, is_even_for, are_even, is_balanced}
use Rattle.alp_regain.specs.Sums.{Charges, charge_at, AreChargesOf}
use Rattle.alp_regain.specs.Touched.{is_touched, charge_lost}
use Rattle.alp_regain.proofs.ChargeLemmas.{charges_follow}
use Rattle.alp_regain.proofs.ListLemmas.{both}
use Rattle.alp_regain.proofs.TouchedLemmas.{kind_of_fit}

-- ---- leaders that are gathered

is_among : List FileId → Key → Bool
is_among [] k = false
is_among (f ∷ fs) k = eq_by_cmp key_cmp k (Leader f) || is_among fs k

among_both : (fs gs : List FileId) (k : Key) → is_among (fs ++ gs) k ≡ (is_among fs k || is_among gs k)
unfolding is_among
among_both [] gs k = refl
among_both (f ∷ fs) gs k = ap (λ (b : Bool). eq_by_cmp key_cmp k (Leader f) || b) (among_both fs gs k) ∙ regroup (eq_by_cmp key_cmp k (Leader f)) (is_among fs k) (is_among gs k)
  where
    regroup : (a b c : Bool) → (a || (b || c)) ≡ ((a || b) || c)
    regroup true b c = refl
    regroup false b c = refl

module _ (m : Cells) where
  with_at : (f : FileId) (below : Cells) (k : Key) → map.get (with_leader f (map.get m (Leader f)) below) k ≡ option_or (cond (eq_by_cmp key_cmp k (Leader f)) (map.get m k) None) (map.get below k)
  with_at f below k = go (map.get m (Leader f)) refl (eq_by_cmp key_cmp k (Leader f)) refl
    where
      there : (o : Option Cell) → map.get m (Leader f) ≡ o → eq_by_cmp key_cmp k (Leader f) ≡ true → map.get m k ≡ o
      there o e h = ap (λ (q : Key). map.get m q) (same_key-true k (Leader f) h) ∙ e

      put : (c : Cell) → map.get m (Leader f) ≡ Some c → (t : Bool) → eq_by_cmp key_cmp k (Leader f) ≡ t → cond t (Some c) (map.get below k) ≡ option_or (cond t (map.get m k) None) (map.get below k)
      put c e true h = ap (λ (o : Option Cell). option_or o (map.get below k)) (sym (there (Some c) e h))
      put c e false h = refl

      go : (o : Option Cell) → map.get m (Leader f) ≡ o → (t : Bool) → eq_by_cmp key_cmp k (Leader f) ≡ t → map.get (with_leader f o below) k ≡ option_or (cond t (map.get m k) None) (map.get below k)
      go None e true h = ap (λ (o : Option Cell). option_or o (map.get below k)) (sym (there None e h))
      go None e false h = refl
      go (Some c) e t h = get-insert keys_total below (Leader f) c k ∙ ap (λ (b : Bool). cond b (Some c) (map.get below k)) h ∙ put c e t h

  leaders_at : (fs : List FileId) (below : Cells) (k : Key) → map.get (leaders_with m fs below) k ≡ option_or (cond (is_among fs k) (map.get m k) None) (map.get below k)
  unfolding is_among
  leaders_at [] below k = refl
  leaders_at (f ∷ fs) below k =
      leaders_at fs (with_leader f (map.get m (Leader f)) below) k
      ∙ ap (option_or (cond (is_among fs k) (map.get m k) None)) (with_at f below k)
      ∙ join (eq_by_cmp key_cmp k (Leader f)) (is_among fs k) (map.get m k) (map.get below k)
    where
      join : (a t : Bool) (o p : Option Cell) → option_or (cond t o None) (option_or (cond a o None) p) ≡ option_or (cond (a || t) o None) p
      join true true (Some x) p = refl
      join true true None p = refl
      join true false o p = refl
      join false t o p = refl

-- ---- those that are touched

among_files : (g : FileId) (fs : List FileId) → is_among fs (Leader g) ≡ list_any (eq_by_cmp file_cmp g) fs
unfolding is_among
among_files g [] = refl
among_files g (f ∷ fs) = ap (λ (b : Bool). eq_by_cmp file_cmp g f || b) (among_files g fs)

among_put : (g : FileId) (es : List (Key × Cell)) → is_among (files_put es) (Leader g) ≡ list_any (eq_by_cmp key_cmp (Leader g)) (list_map (λ (e : Key × Cell). e.0) es)
unfolding is_among
among_put g [] = refl
among_put g ((Leader f, c) ∷ es) = ap (λ (b : Bool). eq_by_cmp key_cmp (Leader g) (Leader f) || b) (among_put g es)
among_put g ((PageOf f n, c) ∷ es) = among_put g es
among_put g ((OwnerOf name, c) ∷ es) = among_put g es

page_among : (g : FileId) (n : ℕ) (fs : List FileId) → is_among fs (PageOf g n) ≡ false
unfolding is_among
page_among g n [] = refl
page_among g n (f ∷ fs) = page_among g n fs

owner_among : (name : List ℕ) (fs : List FileId) → is_among fs (OwnerOf name) ≡ false
unfolding is_among
owner_among name [] = refl
owner_among name (f ∷ fs) = owner_among name fs

among_touched : (i : Intents) (k : Key) → is_among (touched_in (change_of i)) k ≡ is_touched i k
among_touched i (Leader g) =
    among_both (map.keys i.drops) (files_put (map.entries i.puts)) (Leader g)
    ∙ (λ j. (among_files g (map.keys i.drops) ∙ sym (contains_key-keys i.drops g)) j || (among_put g (map.entries i.puts) ∙ sym (contains_key-keys i.puts (Leader g))) j)
    ∙ turn (map.contains_key i.drops g) (map.contains_key i.puts (Leader g))
  where
    turn : (a b : Bool) → (a || b) ≡ (b || a)
    turn true true = refl
    turn true false = refl
    turn false true = refl
    turn false false = refl
among_touched i (PageOf g n) = page_among g n (touched_in (change_of i))
among_touched i (OwnerOf name) = owner_among name (touched_in (change_of i))

pub touched_same : (i : Intents) (m : Cells) → leaders_with m (touched_in (change_of i)) map.empty ≡ map.retain_keys m (is_touched i)
touched_same i m = same_map keys_total exact_keys (leaders_with m (touched_in (change_of i)) map.empty) (map.retain_keys m (is_touched i)) (λ k.
    leaders_at m (touched_in (change_of i)) map.empty k
    ∙ (λ j. option_or (cond (among_touched i k j) (map.get m k) None) (get-empty {X = Cell} key_cmp k j))
    ∙ alone (cond (is_touched i k) (map.get m k) None)
    ∙ sym (kept (is_touched i) m k))
  where
    alone : (o : Option Cell) → option_or o None ≡ o
    alone None = refl
    alone (Some c) = refl

-- what is seen through intents is what is there with them
pub with_view : (i : Intents) (m : Cells) → map.get (with_intents i m) ≡ through i (map.get m)
with_view i m = λ j q. (get-with i m q ∙ ap (option_or (map.get i.puts q)) (get-left i m q)) j

-- a test of all entries is one of what stands at each key
at_found : (p : Key × Cell → Bool) (k : Key) (c : Cell) (es : List (Key × Cell)) → list_all p es ≡ true → find key_cmp k es ≡ Some c → p (k, c) ≡ true
at_found p k c [] all here = cc
at_found p k c (e ∷ es) all here = go (eq_by_cmp key_cmp k e.0) refl (at_found p k c es (both all).1) here
  where
    same : Some e.1 ≡ Some c → e.1 ≡ c
    same h = cc

    go : (b : Bool) → eq_by_cmp key_cmp k e.0 ≡ b → (find key_cmp k es ≡ Some c → p (k, c) ≡ true) → cond b (Some e.1) (find key_cmp k es) ≡ Some c → p (k, c) ≡ true
    go true t rest h = (λ j. p (same_key-true k e.0 t j, sym (same h) j)) ∙ (both all).0
    go false t rest h = rest h

pub at_entry : (p : Key × Cell → Bool) (m : Cells) (k : Key) (c : Cell) → list_all p (map.entries m) ≡ true → map.get m k ≡ Some c → p (k, c) ≡ true
at_entry p m k c all here = at_found p k c (map.entries m) all (sym (get-entries m k) ∙ here)

-- ---- owner by owner

module _ (i : Intents) (m : Cells) (lost put : List ℕ → ℕ) where
  all_even : ((name : List ℕ) → is_even i m lost put name ≡ true) → (es : List (Key × Cell)) → are_even i m lost put es ≡ true
  all_even each [] = refl
  all_even each (e ∷ es) = ap (λ (b : Bool). b && are_even i m lost put es) (one (owner_named e.1)) ∙ all_even each es
    where
      one : (o : Option (List ℕ)) → is_even_for i m lost put o ≡ true
      one None = refl
      one (Some name) = each name

  -- the owner is one of theirs, or they cost it nothing
  found : (name : List ℕ) (es : List (Key × Cell)) → are_even i m lost put es ≡ true → (is_even i m lost put name ≡ true) ⊎ (sum_by (λ (e : Key × Cell). cost name e.1) es ≡ 0)
  found name [] all = inr refl
  found name (e ∷ es) all = go e.1 (sum_by-cons (λ (x : Key × Cell). cost name x.1) e es) (both all).0 (found name es (both all).1)
    where
      go : (c : Cell) → sum_by (λ (x : Key × Cell). cost name x.1) (e ∷ es) ≡ cost name c + sum_by (λ (x : Key × Cell). cost name x.1) es → is_even_for i m lost put (owner_named c) ≡ true
          → (is_even i m lost put name ≡ true) ⊎ (sum_by (λ (x : Key × Cell). cost name x.1) es ≡ 0)
          → (is_even i m lost put name ≡ true) ⊎ (sum_by (λ (x : Key × Cell). cost name x.1) (e ∷ es) ≡ 0)
      go c sum head (inl even) = inl even
      go (cell.Page bytes) sum head (inr none) = (let free : cost name (cell.Page bytes) ≡ 0 = refl in inr (omega (arith, sum, free, none)))
      go (cell.Owner o) sum head (inr none) = (let free : cost name (cell.Owner o) ≡ 0 = refl in inr (omega (arith, sum, free, none)))
      go (cell.Leader p) sum head (inr none) = by (same_name p.owner name) refl
        where
          by : (b : Bool) → same_name p.owner name ≡ b → (is_even i m lost put name ≡ true) ⊎ (sum_by (λ (x : Key × Cell). cost name x.1) (e ∷ es) ≡ 0)
          by true t = inl (ap (is_even i m lost put) (sym (same_name-true p.owner name t)) ∙ head)
          by false t = (let free : cost name (cell.Leader p) ≡ 0 = ap (λ (b : Bool). cond {A = ℕ} b p.size 0) t in inr (omega (arith, sum, free, none)))

-- ---- charged just so

module _ (i : Intents) (m : Cells) (sound : AreSound m) (fit : AllFit i.puts) where
  abbrev w : Cells
  w = with_intents i m

  abbrev lost : List ℕ → ℕ
  lost = charge_lost i m

  abbrev put : List ℕ → ℕ
  put = charge_of i.puts

  abbrev below : List ℕ → ℕ
  below name = unwrap_or (charge_in (map.get m (OwnerOf name))) 0

  law : (name : List ℕ) → charge_of w name + lost name ≡ charge_of m name + put name
  law name = charges_follow i m sound.0.kinds fit name

  below_is : (name : List ℕ) → below name ≡ charge_of m name
  below_is name = go (map.get m (OwnerOf name)) refl
    where
      go : (o : Option Cell) → map.get m (OwnerOf name) ≡ o → unwrap_or (charge_in o) 0 ≡ charge_of m name
      go None e = sym (uncharged m sound name (ap (λ (c : Option Cell). is_some (owner_in c)) e))
      go (Some (cell.Leader p)) e = absurd (sound.0.kinds (OwnerOf name) (cell.Leader p) e)
      go (Some (cell.Page bytes)) e = absurd (sound.0.kinds (OwnerOf name) (cell.Page bytes) e)
      go (Some (cell.Owner o)) e = sound.1 name o e

  from_even : (name : List ℕ) (o : OwnerRecord) → through i (map.get m) (OwnerOf name) ≡ Some (cell.Owner o) → is_even i m lost put name ≡ true → o.charge ≡ charge_of w name
  from_even name o here even =
      let adds : adds_up (Some o.charge) (below name) (lost name) (put name) ≡ true = ap (λ (c : Option Cell). adds_up (charge_in c) (below name) (lost name) (put name)) (sym here) ∙ even in
      let same : o.charge + lost name ≡ below name + put name = eqb-true (o.charge + lost name) (below name + put name) adds in
      omega (arith, same, below_is name, law name)

  module _ (balanced : is_balanced i m ≡ true) where
    puts_even : are_even i m lost put (map.entries i.puts) ≡ true
    puts_even = (both balanced).1

    -- where nothing of the owner is touched or put, it is charged what it was
    quiet : (name : List ℕ) (o : OwnerRecord) → through i (map.get m) (OwnerOf name) ≡ Some (cell.Owner o) → lost name ≡ 0 → put name ≡ 0 → o.charge ≡ charge_of w name
    quiet name o here no_loss no_put = go (map.get i.puts (OwnerOf name)) refl
      where
        named : (c : Cell) → IsOfKind (OwnerOf name) c → is_even_for i m lost put (owner_named c) ≡ true → is_even i m lost put name ≡ true
        named (cell.Leader p) kind even = absurd kind
        named (cell.Page bytes) kind even = absurd kind
        named (cell.Owner r) kind even = ap (is_even i m lost put) (sym kind) ∙ even

        go : (x : Option Cell) → map.get i.puts (OwnerOf name) ≡ x → o.charge ≡ charge_of w name
        go (Some c) e =
            from_even name o here
            (named c (kind_of_fit (OwnerOf name) c (fit (OwnerOf name) c e)) (at_entry (λ (x : Key × Cell). is_even_for i m lost put (owner_named x.1)) i.puts (OwnerOf name) c puts_even e))
        go None e =
            let there : map.get m (OwnerOf name) ≡ Some (cell.Owner o) = sym (ap (λ (x : Option Cell). option_or x (map.get m (OwnerOf name))) e) ∙ here in
            omega (arith, sound.1 name o there, law name, no_loss, no_put)

    pub charged_by : AreCharged w
    charged_by name o here =
        let seen : through i (map.get m) (OwnerOf name) ≡ Some (cell.Owner o) = sym (ap (λ (v : View). v (OwnerOf name)) (with_view i m)) ∙ here in
        ⊎_elim (λ (even : is_even i m lost put name ≡ true). from_even name o seen even)
        (λ (no_loss : sum_by (λ (e : Key × Cell). cost name e.1) (map.entries (map.retain_keys m (is_touched i))) ≡ 0).
        ⊎_elim (λ (even : is_even i m lost put name ≡ true). from_even name o seen even)
        (λ (no_put : sum_by (λ (e : Key × Cell). cost name e.1) (map.entries i.puts) ≡ 0). quiet name o seen no_loss no_put)
        (found i m lost put name (map.entries i.puts) puts_even))
        (found i m lost put name (map.entries (map.retain_keys m (is_touched i))) (both balanced).0)

  module _ (charged : AreCharged w) where
    each_even : (name : List ℕ) → is_even i m lost put name ≡ true
    each_even name = go (through i (map.get m) (OwnerOf name)) refl
      where
        go : (c : Option Cell) → through i (map.get m) (OwnerOf name) ≡ c → adds_up (charge_in c) (below name) (lost name) (put name) ≡ true
        go None e = refl
        go (Some (cell.Leader p)) e = refl
        go (Some (cell.Page bytes)) e = refl
        go (Some (cell.Owner o)) e =
            let is : o.charge ≡ charge_of w name = charged name o (ap (λ (v : View). v (OwnerOf name)) (with_view i m) ∙ e) in
            eq-eqb (o.charge + lost name) (below name + put name) (omega (arith, is, below_is name, law name))

    pub balanced_by : is_balanced i m ≡ true
    balanced_by =
        (λ j. all_even i m lost put each_even (map.entries (map.retain_keys m (is_touched i))) j && all_even i m lost put each_even (map.entries i.puts) j)

-- ---- by the sums that were made

-- what these charges tell is what the intents tell
pub balanced_from : (i : Intents) (m : Cells) (lost put : Charges) (es : List (Key × Cell)) → es ≡ map.entries (leaders_with m (touched_in (change_of i)) map.empty) → AreChargesOf lost es → AreChargesOf put (map.entries i.puts)
    → (are_even i m (charge_at lost) (charge_at put) es && are_even i m (charge_at lost) (charge_at put) (map.entries i.puts)) ≡ is_balanced i m
balanced_from i m lost put es is less more =
    let these : es ≡ map.entries (map.retain_keys m (is_touched i)) = is ∙ ap (λ (x : Cells). map.entries x) (touched_same i m) in
    let down : (name : List ℕ) → charge_at lost name ≡ charge_lost i m name = λ name. less name ∙ ap (sum_by (λ (e : Key × Cell). cost name e.1)) these in
    (λ j. are_even i m (λ name. down name j) (λ name. more name j) (these j) && are_even i m (λ name. down name j) (λ name. more name j) (map.entries i.puts))
