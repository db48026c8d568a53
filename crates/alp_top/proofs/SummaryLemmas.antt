-- owners are charged for all pages: what is counted of the owners is what the files come to
use Rattle.std.specs.Prelude.{true, false, Bool, cond, Some, sum, sum_by, flat_map, map as list_map, codes}
use Rattle.std.specs.Fmt.{decimal}
use Rattle.std.specs.List.{filter_map}
use Rattle.std.specs.Ordering.{eq_by_cmp}
use Rattle.std.specs.FinMap as map
use Rattle.std.proofs.Common.{◌≡◌, ℕ, ◌+◌, ◌-◌, List, [], ◌∷◌, ◌++◌, length, refl, sym, ◌∙◌, ap, arith}
use Rattle.std.proofs.lemmas.List.Sums.{sum_by-cons}
use Rattle.alp_base.specs.Keys.{key_cmp}
use Rattle.alp_base.specs.KeyLaws.{keys_total, exact_keys}
use Rattle.alp_base.specs.declared.key.Key.{Key}
use Rattle.alp_base.specs.declared.key.Key.TheVariants.{Leader, PageOf, OwnerOf}
use Rattle.alp_files.specs.Cells.{Cells, size_in, sizes_of, owner_in, owners_of, same_name}
use Rattle.alp_files.specs.Counts.{files_at, file_count_of}
use Rattle.alp_files.specs.Files.{IsOfKind, AreFiles, cost, charge_of}
use Rattle.alp_files.specs.Sound.{AreSound}
use Rattle.alp_base.specs.declared.cell.Cell.{Cell}
use Rattle.alp_base.specs.declared.cell.Cell.TheVariants as cell
use Rattle.alp_base.specs.declared.cell.OwnerRecord.{OwnerRecord}
use Rattle.alp_base.specs.declared.cell.Props.{Props}
use Rattle.alp_files.proofs.SameLemmas.{same_name-itself, other_name, same_key-itself}
use Rattle.alp_files.proofs.SumLemmas.{sum_of, weight_at, sum_of-nothing, sum_of-single}
use Rattle.alp_report.specs.Reports.{files_text, owners_text, server_text, owned_by}
use Rattle.alp_report.specs.Sections.{charges_of, held_text, owned_text}
use Rattle.alp_report.specs.declared.summary.Held.{Held}
use Rattle.alp_top.specs.Endings.{AreCellsOf}

abbrev Entry : Type 0
Entry = Key × Cell

-- ---- two weights that are alike at each entry

plus : (v w : Entry → ℕ) (es : List Entry) → sum_by (λ (e : Entry). v e + w e) es ≡ sum_by v es + sum_by w es
plus v w [] = refl
plus v w (e ∷ es) = omega (arith, sum_by-cons (λ (x : Entry). v x + w x) e es, sum_by-cons v e es, sum_by-cons w e es, plus v w es)

same_sum : (v w : Entry → ℕ) (es : List Entry) → ((e : Entry) → v e ≡ w e) → sum_by v es ≡ sum_by w es
same_sum v w [] alike = refl
same_sum v w (e ∷ es) alike = omega (arith, sum_by-cons v e es, sum_by-cons w e es, alike e, same_sum v w es alike)

agree : (v w : Entry → ℕ) (m : Cells) → ((k : Key) (c : Cell) → map.get m k ≡ Some c → v (k, c) ≡ w (k, c)) → sum_of v m ≡ sum_of w m
agree v w m alike =
    let es : List Entry = map.entries m in
    let more : sum_of (λ (e : Entry). v e - w e) m ≡ 0 = sum_of-nothing keys_total exact_keys (λ (e : Entry). v e - w e) m (λ k c is. omega (arith, alike k c is)) in
    let less : sum_of (λ (e : Entry). w e - v e) m ≡ 0 = sum_of-nothing keys_total exact_keys (λ (e : Entry). w e - v e) m (λ k c is. omega (arith, alike k c is)) in
    omega (
      arith,
      more,
      less,
      plus v (λ (e : Entry). w e - v e) es,
      plus w (λ (e : Entry). v e - w e) es,
      same_sum (λ (e : Entry). v e + (w e - v e)) (λ (e : Entry). w e + (v e - w e)) es (λ e. omega arith),
    )

-- ---- files

abbrev size_at : Cell → ℕ
size_at (cell.Leader p) = p.size
size_at (cell.Page bytes) = 0
size_at (cell.Owner o) = 0

abbrev one_at : Cell → ℕ
one_at (cell.Leader p) = 1
one_at (cell.Page bytes) = 0
one_at (cell.Owner o) = 0

many_sizes : (es : List Entry) → length (filter_map size_in (list_map (λ (e : Entry). e.1) es)) ≡ sum_by (λ (e : Entry). one_at e.1) es
many_sizes [] = refl
many_sizes ((k, cell.Leader p) ∷ es) = omega (arith, many_sizes es, sum_by-cons (λ (e : Entry). one_at e.1) (k, cell.Leader p) es)
many_sizes ((k, cell.Page bytes) ∷ es) = omega (arith, many_sizes es, sum_by-cons (λ (e : Entry). one_at e.1) (k, cell.Page bytes) es)
many_sizes ((k, cell.Owner o) ∷ es) = omega (arith, many_sizes es, sum_by-cons (λ (e : Entry). one_at e.1) (k, cell.Owner o) es)

all_sizes : (es : List Entry) → sum (filter_map size_in (list_map (λ (e : Entry). e.1) es)) ≡ sum_by (λ (e : Entry). size_at e.1) es
all_sizes [] = refl
all_sizes ((k, cell.Leader p) ∷ es) =
    omega (arith, all_sizes es, sum_by-cons (λ (n : ℕ). n) p.size (filter_map size_in (list_map (λ (e : Entry). e.1) es)), sum_by-cons (λ (e : Entry). size_at e.1) (k, cell.Leader p) es)
all_sizes ((k, cell.Page bytes) ∷ es) = omega (arith, all_sizes es, sum_by-cons (λ (e : Entry). size_at e.1) (k, cell.Page bytes) es)
all_sizes ((k, cell.Owner o) ∷ es) = omega (arith, all_sizes es, sum_by-cons (λ (e : Entry). size_at e.1) (k, cell.Owner o) es)

one_file : (k : Key) (c : Cell) → IsOfKind k c → files_at k ≡ one_at c
one_file (Leader f) (cell.Leader p) kind = refl
one_file (Leader f) (cell.Page bytes) kind = absurd kind
one_file (Leader f) (cell.Owner o) kind = absurd kind
one_file (PageOf f n) (cell.Leader p) kind = absurd kind
one_file (PageOf f n) (cell.Page bytes) kind = refl
one_file (PageOf f n) (cell.Owner o) kind = absurd kind
one_file (OwnerOf name) (cell.Leader p) kind = absurd kind
one_file (OwnerOf name) (cell.Page bytes) kind = absurd kind
one_file (OwnerOf name) (cell.Owner o) kind = refl

-- each file has a size
pub file_count : (m : Cells) → AreSound m → file_count_of m ≡ length (sizes_of m)
file_count m sound = agree (λ (e : Entry). files_at e.0) (λ (e : Entry). one_at e.1) m (λ k c is. one_file k c (sound.0.kinds k c is)) ∙ sym (many_sizes (map.entries m))

-- ---- owners

abbrev charge_at : Cell → ℕ
charge_at (cell.Leader p) = 0
charge_at (cell.Page bytes) = 0
charge_at (cell.Owner o) = o.charge

all_charges : (es : List Entry) → charges_of (filter_map (λ c. owner_in (Some c)) (list_map (λ (e : Entry). e.1) es)) ≡ sum_by (λ (e : Entry). charge_at e.1) es
all_charges [] = refl
all_charges ((k, cell.Owner o) ∷ es) =
    omega (arith, all_charges es, sum_by-cons (λ (r : OwnerRecord). r.charge) o (filter_map (λ c. owner_in (Some c)) (list_map (λ (e : Entry). e.1) es)), sum_by-cons (λ (e : Entry). charge_at e.1) (k, cell.Owner o) es)
all_charges ((k, cell.Page bytes) ∷ es) = omega (arith, all_charges es, sum_by-cons (λ (e : Entry). charge_at e.1) (k, cell.Page bytes) es)
all_charges ((k, cell.Leader p) ∷ es) = omega (arith, all_charges es, sum_by-cons (λ (e : Entry). charge_at e.1) (k, cell.Leader p) es)

-- what one cell costs the owner in another
abbrev costs : Entry → Entry → ℕ
costs (k, cell.Leader p) f = 0
costs (k, cell.Page bytes) f = 0
costs (k, cell.Owner o) f = cost o.name f.1

sum_none : (es : List Entry) → sum_by (λ (e : Entry). 0) es ≡ 0
sum_none [] = refl
sum_none (e ∷ es) = omega (arith, sum_by-cons (λ (x : Entry). 0) e es, sum_none es)

-- the sums in either order
swap_sums : (g : Entry → Entry → ℕ) (es fs : List Entry) → sum_by (λ (e : Entry). sum_by (g e) fs) es ≡ sum_by (λ (f : Entry). sum_by (λ (e : Entry). g e f) es) fs
swap_sums g [] fs = sym (sum_none fs)
swap_sums g (e ∷ es) fs =
    sum_by-cons (λ (x : Entry). sum_by (g x) fs) e es ∙ ap (λ (n : ℕ). sum_by (g e) fs + n) (swap_sums g es fs)
    ∙ sym (plus (g e) (λ (f : Entry). sum_by (λ (x : Entry). g x f) es) fs)
    ∙ sym (same_sum (λ (f : Entry). sum_by (λ (x : Entry). g x f) (e ∷ es)) (λ (f : Entry). g e f + sum_by (λ (x : Entry). g x f) es) fs (λ f. sum_by-cons (λ (x : Entry). g x f) e es))

module _ (m : Cells) (sound : AreSound m) where
  files : AreFiles (map.get m)
  files = sound.0

  -- an owner's record has what its files cost
  charged : (k : Key) (c : Cell) → IsOfKind k c → map.get m k ≡ Some c → charge_at c ≡ sum_by (costs (k, c)) (map.entries m)
  charged k (cell.Leader p) kind is = sym (sum_none (map.entries m))
  charged k (cell.Page bytes) kind is = sym (sum_none (map.entries m))
  charged (OwnerOf name) (cell.Owner o) kind is = sound.1 name o is ∙ ap (charge_of m) (sym kind)
  charged (Leader f) (cell.Owner o) kind is = absurd kind
  charged (PageOf f n) (cell.Owner o) kind is = absurd kind

  -- of all owners a file costs its own alone
  others : (p : Props) (k : Key) (c : Cell) → IsOfKind k c → eq_by_cmp key_cmp (OwnerOf p.owner) k ≡ false → (f : Key) → costs (k, c) (f, cell.Leader p) ≡ 0
  others p (Leader g) (cell.Leader q) kind other f = refl
  others p (Leader g) (cell.Page bytes) kind other f = refl
  others p (Leader g) (cell.Owner o) kind other f = absurd kind
  others p (PageOf g n) (cell.Leader q) kind other f = refl
  others p (PageOf g n) (cell.Page bytes) kind other f = refl
  others p (PageOf g n) (cell.Owner o) kind other f = absurd kind
  others p (OwnerOf name) (cell.Leader q) kind other f = refl
  others p (OwnerOf name) (cell.Page bytes) kind other f = refl
  others p (OwnerOf name) (cell.Owner o) kind other f =
      ap (λ (b : Bool). cond b p.size 0) (other_name p.owner o.name
      (λ same. (let yes : eq_by_cmp key_cmp (OwnerOf p.owner) (OwnerOf name) ≡ true = ap (λ (n : List ℕ). eq_by_cmp key_cmp (OwnerOf p.owner) (OwnerOf n)) (sym (same ∙ kind)) ∙ same_key-itself (OwnerOf p.owner) in cc)))

  none_costs : (k : Key) (bytes : List ℕ) (e : Entry) → costs e (k, cell.Page bytes) ≡ 0
  none_costs k bytes (q, cell.Leader p) = refl
  none_costs k bytes (q, cell.Page b) = refl
  none_costs k bytes (q, cell.Owner o) = refl

  no_owner_costs : (k : Key) (r : OwnerRecord) (e : Entry) → costs e (k, cell.Owner r) ≡ 0
  no_owner_costs k r (q, cell.Leader p) = refl
  no_owner_costs k r (q, cell.Page b) = refl
  no_owner_costs k r (q, cell.Owner o) = refl

  -- a cell costs its size, all owners together
  sized : (k : Key) (c : Cell) → IsOfKind k c → map.get m k ≡ Some c → sum_by (λ (e : Entry). costs e (k, c)) (map.entries m) ≡ size_at c
  sized k (cell.Page bytes) kind is = same_sum (λ (e : Entry). costs e (k, cell.Page bytes)) (λ (e : Entry). 0) (map.entries m) (none_costs k bytes) ∙ sum_none (map.entries m)
  sized k (cell.Owner r) kind is = same_sum (λ (e : Entry). costs e (k, cell.Owner r)) (λ (e : Entry). 0) (map.entries m) (no_owner_costs k r) ∙ sum_none (map.entries m)
  sized (Leader f) (cell.Leader p) kind is =
      let (o, there) = files.owned f p is in
      sum_of-single keys_total exact_keys (λ (e : Entry). costs e (Leader f, cell.Leader p)) (OwnerOf p.owner) m (λ k c at other. others p k c (files.kinds k c at) other (Leader f))
      ∙ ap (weight_at (λ (e : Entry). costs e (Leader f, cell.Leader p)) (OwnerOf p.owner)) there
      ∙ ap (λ (b : Bool). cond b p.size 0) (ap (same_name p.owner) (files.kinds (OwnerOf p.owner) (cell.Owner o) there) ∙ same_name-itself p.owner)
  sized (PageOf f n) (cell.Leader p) kind is = absurd kind
  sized (OwnerOf name) (cell.Leader p) kind is = absurd kind

  -- all that the owners are charged is all that the files have
  pub charges_are_sizes : charges_of (owners_of m) ≡ sum (sizes_of m)
  charges_are_sizes =
      let es : List Entry = map.entries m in
      all_charges es
      ∙ agree (λ (e : Entry). charge_at e.1) (λ (e : Entry). sum_by (costs e) es) m (λ k c is. charged k c (files.kinds k c is) is)
      ∙ swap_sums costs es es
      ∙ agree (λ (f : Entry). sum_by (λ (e : Entry). costs e f) es) (λ (f : Entry). size_at f.1) m (λ k c is. sized k c (files.kinds k c is) is)
      ∙ sym (all_sizes es)

-- what is printed of a server is of the cells that it holds
pub held_is : (d : Held) (m : Cells) → AreCellsOf m d → held_text d ≡ server_text (record { server = d.server; epoch = d.epoch; clock = d.clock; cells = m })
held_is d m is =
    let as_many : d.files ≡ length (sizes_of m) = is.files ∙ file_count m is.sound in
    let pages : charges_of d.owners.items ≡ sum (sizes_of m) = ap charges_of is.owners ∙ charges_are_sizes m is.sound in
    (λ i. codes "server " ++ decimal d.server ++ codes " epoch " ++ decimal d.epoch ++ codes " clock " ++ decimal d.clock ++ files_text (as_many i) (pages i))

pub owned_is : (d : Held) (m : Cells) → AreCellsOf m d → owned_text d ≡ owned_by (record { server = d.server; epoch = d.epoch; clock = d.clock; cells = m })
owned_is d m is = ap (owners_text d.server) is.owners
