-- Pages without damage stand for the cells that are told of them, and these are a volume.
use Rattle.std.specs.Prelude.{Bool, true, false, ◌||◌, ◌&&◌, ◌-◌, is_some, option_map, Option, None, Some, sum_by, map as list_map}
use Rattle.std.specs.List.{list_any, filter_map, AllByRecursion}
use Rattle.std.specs.Ordering.{eq_by_cmp, is_eq, is_lt}
use Rattle.std.specs.declared.cmp.Ordering.{Ordering}
use Rattle.std.specs.declared.cmp.Ordering.TheVariants.{Less, Equal, Greater}
use Rattle.std.specs.FinMap as map
use Rattle.std.specs.FinMap.{contains_key-keys, entries_sorted}
use Rattle.std.specs.FinMap.Entries.{below_all}
use Rattle.std.proofs.Math.Dec.{T}
use Rattle.std.proofs.Common.{◌≡◌, ◌≤◌, ◌<◌, ◌+◌, ℕ, zero, suc, List, [], ◌∷◌, length, refl, sym, ◌∙◌, ap, subst, arith}
use Rattle.std.proofs.lemmas.List.Sums.{sum_by-cons}
use Rattle.alp_base.specs.Keys.{key_cmp}
use Rattle.alp_base.specs.declared.faults.Sizes.{Sizes}
use Rattle.alp_base.specs.declared.ids.FileId.{FileId}
use Rattle.alp_base.specs.declared.key.Key.{Key}
use Rattle.alp_base.specs.declared.key.Key.TheVariants.{Leader, PageOf, OwnerOf}
use Rattle.alp_fields.specs.Forms.{whole}
use Rattle.alp_base.specs.declared.cell.Cell.{Cell}
use Rattle.alp_base.specs.declared.cell.Cell.TheVariants as cell
use Rattle.alp_base.specs.declared.cell.Props.{Props}
use Rattle.alp_files.specs.Cells.{Cells, same_file, same_name}
use Rattle.alp_files.specs.Counts.{file_count_of, files_at, name_at, owner_count_of, used_of}
use Rattle.alp_files.proofs.SameLemmas.{same_file-true, same_file-itself, same_name-true, same_name-itself, same_key-itself, same_owner_key}
use Rattle.alp_pages.specs.declared.leader.Leader.{Leader as LeaderRecord}
use Rattle.alp_pages.specs.Leader.{leader_page}
use Rattle.alp_pages.specs.Counted.{AreApart, bit, count_below, is_among}
use Rattle.alp_pages.specs.Damage.{parts, damage_of}
use Rattle.alp_pages.specs.Naming.{Naming, IsNaming}
use Rattle.alp_pages.specs.Nodes.{Node, LeaderOf}
use Rattle.alp_pages.specs.Pages.{Pages}
use Rattle.alp_pages.specs.Volume.{StandFor, props_cell}
use Rattle.alp_pages.proofs.CountLaws.{count-names}
use Rattle.alp_pages.proofs.FetchLaws.{there_is}
use Rattle.alp_pages.proofs.LeaderLaws.{leader_size}
use Rattle.alp_pages.proofs.NamesLaws.{none_wrong}
use Rattle.alp_pages.proofs.NamingLaws.{Tells}
use Rattle.alp_pages.proofs.NodeLaws.{taken-used, shaped_held}
use Rattle.alp_pages.proofs.NodeTests.{leaders_alike}
use Rattle.alp_pages.proofs.OrderLaws.{standing_undamaged}
use Rattle.alp_pages.proofs.StandLaws.{stands}
use Rattle.alp_pages.proofs.UniqueLaws.{one_map}
use Rattle.alp_vault.specs.Volumes.{IsVolumeOf}
use Rattle.alp_store.specs.Told.{cells_on}

-- ---- what is told

pub told_stands : (home : ℕ) (at : Pages) → damage_of home at ≡ None → StandFor home at (cells_on at)
unfolding cells_on damage_of
told_stands home at h = stands home at (none_wrong home at [] (parts at) h)

pub told_is : (home : ℕ) (at : Pages) (m : Cells) → StandFor home at m → cells_on at ≡ m
told_is home at m standing = one_map home at (cells_on at) m (told_stands home at (standing_undamaged home at m standing)) standing

-- ---- places

few_below : (g : ℕ → Bool) (n : ℕ) → count_below g n ≤ n
few_below g zero = omega arith
few_below g (suc n) = one (g n) (few_below g n)
  where
    one : (t : Bool) → count_below g n ≤ n → bit t + count_below g n ≤ suc n
    one true h = omega arith
    one false h = omega arith

-- nothing stands in front of the first place
behind : (g : ℕ → Bool) → ((p : ℕ) → p < 257 → g p ≡ false) → (n : ℕ) → 257 ≤ n → count_below g n + 257 ≤ n
behind g low n least = subst (λ (x : ℕ). count_below g x + 257 ≤ x) (from n least) (more (n - 257))
  where
    from : (n : ℕ) → 257 ≤ n → 257 + (n - 257) ≡ n
    from n h = omega arith

    none : (n : ℕ) → n ≤ 257 → count_below g n ≡ 0
    none zero few = refl
    none (suc n) few = let one : bit (g n) ≡ 0 = ap bit (low n (omega arith)) in omega (arith, one, none n (omega arith))

    next : (k : ℕ) → suc (257 + k) ≡ 257 + suc k
    next k = omega arith

    step : (k : ℕ) (t : Bool) → count_below g (257 + k) + 257 ≤ 257 + k → bit t + count_below g (257 + k) + 257 ≤ suc (257 + k)
    step k true h = omega arith
    step k false h = omega arith

    more : (k : ℕ) → count_below g (257 + k) + 257 ≤ 257 + k
    more zero = omega (arith, none 257 (omega arith))
    more (suc k) = subst (λ (x : ℕ). count_below g x + 257 ≤ x) (next k) (step k (g (257 + k)) (more k))

-- ---- names that stand apart

abbrev is_key : Key → Key → Bool
is_key = eq_by_cmp key_cmp

first : (a b : Bool) → T (a && b) → T a
first true b h = tt
first false b h = absurd h

second : (a b : Bool) → T (a && b) → T b
second true b h = h
second false b h = absurd h

below_any : (k : Key) (es : List (Key × Cell)) → T (below_all key_cmp k es) → list_any (is_key k) (list_map (λ (e : Key × Cell). e.0) es) ≡ false
below_any k [] h = refl
below_any k (e ∷ es) h = go (key_cmp k e.0) refl (below_any k es (second _ _ h))
  where
    go : (r : Ordering) → key_cmp k e.0 ≡ r → list_any (is_key k) (list_map (λ (e : Key × Cell). e.0) es) ≡ false → (is_key k e.0 || list_any (is_key k) (list_map (λ (e : Key × Cell). e.0) es)) ≡ false
    go Less p rest = ap (λ (o : Ordering). is_eq o || list_any (is_key k) (list_map (λ (e : Key × Cell). e.0) es)) p ∙ rest
    go Equal p rest = absurd (subst (λ (o : Ordering). T (is_lt o)) p (first _ _ h))
    go Greater p rest = ap (λ (o : Ordering). is_eq o || list_any (is_key k) (list_map (λ (e : Key × Cell). e.0) es)) p ∙ rest

sorted_apart : (es : List (Key × Cell)) → T (map.is_sorted key_cmp es) → AreApart is_key (list_map (λ (e : Key × Cell). e.0) es)
sorted_apart [] h = tt
sorted_apart (e ∷ es) h = (below_any e.0 es (first _ _ h), sorted_apart es (second _ _ h))

later : {x : Bool} (t : Bool) → x ≡ true → (t || x) ≡ true
later true e = refl
later false e = e

files_in : List Key → List FileId
files_in [] = []
files_in (Leader f ∷ ks) = f ∷ files_in ks
files_in (PageOf f n ∷ ks) = files_in ks
files_in (OwnerOf o ∷ ks) = files_in ks

any_file : (f : FileId) (ks : List Key) → list_any (same_file f) (files_in ks) ≡ list_any (is_key (Leader f)) ks
unfolding files_in
any_file f [] = refl
any_file f (Leader g ∷ ks) = ap (λ (t : Bool). t || list_any (same_file f) (files_in ks)) (leaders_alike f g) ∙ ap (λ (t : Bool). is_key (Leader f) (Leader g) || t) (any_file f ks)
any_file f (PageOf g n ∷ ks) = any_file f ks
any_file f (OwnerOf o ∷ ks) = any_file f ks

files_apart : (ks : List Key) → AreApart is_key ks → AreApart same_file (files_in ks)
unfolding files_in
files_apart [] h = tt
files_apart (Leader g ∷ ks) h = (any_file g ks ∙ h.0, files_apart ks h.1)
files_apart (PageOf g j ∷ ks) h = files_apart ks h.1
files_apart (OwnerOf o ∷ ks) h = files_apart ks h.1

files_named : (of : FileId → Option ℕ) (ks : List Key) → ((f : FileId) → list_any (is_key (Leader f)) ks ≡ true → is_some (of f) ≡ true) → AllByRecursion (λ (f : FileId). (p : ℕ) × (of f ≡ Some p)) (files_in ks)
unfolding files_in
files_named of [] h = tt
files_named of (Leader g ∷ ks) h = (there_is (of g) (h g (ap (λ (t : Bool). t || list_any (is_key (Leader g)) ks) (same_key-itself (Leader g)))), files_named of ks (λ f e. h f (later (is_key (Leader f) (Leader g)) e)))
files_named of (PageOf g j ∷ ks) h = files_named of ks (λ f e. h f (later (is_key (Leader f) (PageOf g j)) e))
files_named of (OwnerOf o ∷ ks) h = files_named of ks (λ f e. h f (later (is_key (Leader f) (OwnerOf o)) e))

files_count : (es : List (Key × Cell)) → sum_by (λ (e : Key × Cell). files_at e.0) es ≡ length (files_in (list_map (λ (e : Key × Cell). e.0) es))
unfolding files_in
files_count [] = refl
files_count ((Leader f, c) ∷ es) = let rest = files_count es in omega (arith, rest, sum_by-cons (λ (e : Key × Cell). files_at e.0) (Leader f, c) es)
files_count ((PageOf f n, c) ∷ es) = let rest = files_count es in omega (arith, rest, sum_by-cons (λ (e : Key × Cell). files_at e.0) (PageOf f n, c) es)
files_count ((OwnerOf o, c) ∷ es) = let rest = files_count es in omega (arith, rest, sum_by-cons (λ (e : Key × Cell). files_at e.0) (OwnerOf o, c) es)

owners_alike : (o n : List ℕ) → same_name o n ≡ is_key (OwnerOf o) (OwnerOf n)
owners_alike o n = go (same_name o n) refl (is_key (OwnerOf o) (OwnerOf n)) refl
  where
    go : (t : Bool) → same_name o n ≡ t → (u : Bool) → is_key (OwnerOf o) (OwnerOf n) ≡ u → t ≡ u
    go true e true d = refl
    go false e false d = refl
    go true e false d =
        let same : o ≡ n = same_name-true o n e in
        let yes : is_key (OwnerOf o) (OwnerOf n) ≡ true = ap (λ (x : List ℕ). is_key (OwnerOf x) (OwnerOf n)) same ∙ same_key-itself (OwnerOf n) in cc
    go false e true d =
        let same : o ≡ n = same_owner_key o n d in
        let yes : same_name o n ≡ true = ap (λ (x : List ℕ). same_name x n) same ∙ same_name-itself n in cc

any_owner : (o : List ℕ) (ks : List Key) → list_any (same_name o) (filter_map name_at ks) ≡ list_any (is_key (OwnerOf o)) ks
any_owner o [] = refl
any_owner o (Leader g ∷ ks) = any_owner o ks
any_owner o (PageOf g n ∷ ks) = any_owner o ks
any_owner o (OwnerOf n ∷ ks) = ap (λ (t : Bool). t || list_any (same_name o) (filter_map name_at ks)) (owners_alike o n) ∙ ap (λ (t : Bool). is_key (OwnerOf o) (OwnerOf n) || t) (any_owner o ks)

owners_apart : (ks : List Key) → AreApart is_key ks → AreApart same_name (filter_map name_at ks)
owners_apart [] h = tt
owners_apart (Leader g ∷ ks) h = owners_apart ks h.1
owners_apart (PageOf g j ∷ ks) h = owners_apart ks h.1
owners_apart (OwnerOf o ∷ ks) h = (any_owner o ks ∙ h.0, owners_apart ks h.1)

owners_named : (of : List ℕ → Option ℕ) (ks : List Key) → ((o : List ℕ) → list_any (is_key (OwnerOf o)) ks ≡ true → is_some (of o) ≡ true) → AllByRecursion (λ (o : List ℕ). (p : ℕ) × (of o ≡ Some p)) (filter_map name_at ks)
owners_named of [] h = tt
owners_named of (Leader g ∷ ks) h = owners_named of ks (λ o e. h o (later (is_key (OwnerOf o) (Leader g)) e))
owners_named of (PageOf g j ∷ ks) h = owners_named of ks (λ o e. h o (later (is_key (OwnerOf o) (PageOf g j)) e))
owners_named of (OwnerOf n ∷ ks) h = (there_is (of n) (h n (ap (λ (t : Bool). t || list_any (is_key (OwnerOf n)) ks) (same_key-itself (OwnerOf n)))), owners_named of ks (λ o e. h o (later (is_key (OwnerOf o) (OwnerOf n)) e)))

-- no more names than numbers
few_named : {K : Type 0} {same : K → K → Bool} → Tells same → (low high : ℕ) (nm : Naming K) → IsNaming low high nm → (ks : List K) → AreApart same ks → AllByRecursion (λ (k : K). (p : ℕ) × (nm.of k ≡ Some p)) ks → length ks ≤ high
few_named {K} {same} tells low high nm is ks apart_ named = omega (arith, count-names tells nm is ks apart_ named, few_below (λ p. is_among same ks (nm.at p)) high)

-- ---- a volume

module _ (s : Sizes) (at : Pages) (m : Cells) (least : 257 ≤ s.home) (standing : StandFor s.home at m) where
  keys_apart : AreApart is_key (map.keys m)
  keys_apart = sorted_apart (map.entries m) (entries_sorted m)

  nowhere : (p : ℕ) → p < 257 → is_some (standing.volume.places.at p) ≡ false
  nowhere p low = go (standing.volume.places.at p) refl
    where
      go : (o : Option Node) → standing.volume.places.at p ≡ o → is_some o ≡ false
      go None e = refl
      go (Some k) e = let high = standing.spells.shape.places.least k p (standing.spells.shape.places.back p k e) in absurd (omega (arith, low, high))

  places : used_of m + 257 ≤ s.home
  places = omega (arith, taken-used s.home standing.volume m standing.spells.shape.places (shaped_held s.home standing.volume m standing.spells.shape), behind (λ p. is_some (standing.volume.places.at p)) nowhere s.home least)

  files : file_count_of m ≤ 4096
  files = omega (
    arith,
    files_count (map.entries m),
    few_named (record { equal = same_file-true; itself = same_file-itself }) 0 4096 standing.volume.slots standing.spells.shape.slots (files_in (map.keys m)) (files_apart (map.keys m) keys_apart)
        (files_named standing.volume.slots.of (map.keys m) (λ f e. standing.spells.shape.files f ∙ contains_key-keys m (Leader f) ∙ e)),
  )

  owners : owner_count_of m ≤ 256
  owners = few_named (record { equal = same_name-true; itself = same_name-itself }) 0 256 standing.volume.rows standing.spells.shape.rows (filter_map name_at (map.keys m)) (owners_apart (map.keys m) keys_apart)
      (owners_named standing.volume.rows.of (map.keys m) (λ o e. standing.spells.shape.owners o ∙ contains_key-keys m (OwnerOf o) ∙ e))

  sizes : (f : FileId) (p : Props) → map.get m (Leader f) ≡ Some (cell.Leader p) → p.size ≤ 4096
  sizes f p h =
      let q = there_is (standing.volume.places.of (LeaderOf f)) (standing.spells.shape.leaders f ∙ ap is_some h) in
      go (at q.0) (whole leader_page (at q.0)) refl (sym (standing.spells.leaders f q.0 q.1) ∙ h)
    where
      go : (bytes : List ℕ) (o : Option LeaderRecord) → whole leader_page bytes ≡ o → option_map props_cell o ≡ Some (cell.Leader p) → p.size ≤ 4096
      go bytes None e is = cc
      go bytes (Some l) e is = let same : l.props ≡ p = cc in subst (λ (x : Props). x.size ≤ 4096) same (leader_size bytes l e)

  pub standing_volume : IsVolumeOf s m
  standing_volume = record { sound = standing.sound; fits = record { places = places; files = files; owners = owners; sizes = sizes } }
