-- what live parts come to together, as they begin, change and end
use Rattle.std.specs.Prelude.{cond, Bool, true, false, Option, None, Some, sum_by}
use Rattle.std.specs.FinMap as map
use Rattle.std.specs.FinMap.{same_map, get-empty, len-entries}
use Rattle.std.proofs.Common.{◌≡◌, ℕ, ◌+◌, ◌-◌, ◌*◌, ◌≤◌, List, [], ◌∷◌, length, refl, sym, ◌∙◌, ap, subst, arith}
use Rattle.std.proofs.lemmas.List.Sums.{sum_by-cons}
use Rattle.alp_base.specs.declared.faults.Sizes.{Sizes}
use Rattle.alp_base.specs.declared.ids.TransId.{TransId}
use Rattle.alp_base.specs.Orders.{trans_cmp, transactions_total, exact_transactions}
use Rattle.alp_calls.specs.Parts.{IsPart}
use Rattle.alp_files.specs.Cells.{Cells}
use Rattle.alp_files.specs.Counts.{used_of, file_count_of, owner_count_of}
use Rattle.alp_vault.specs.declared.limits.TheConstants.{FILES_PER_SERVER, OWNERS_PER_SERVER, HEAD_PAGES}
use Rattle.alp_files.proofs.SumLemmas.{weight_at, sum-insert, sum_of-nothing}
use Rattle.alp_journal.specs.Ids.{same_trans}
use Rattle.alp_journal.proofs.IdLemmas.{same_trans-true}
use Rattle.alp_trans.specs.Counting.{no_counts}
use Rattle.alp_trans.specs.declared.counts.Counts.{Counts}
use Rattle.alp_node.specs.Totals.{LiveMap, total, totals_of, no_totals, with_part, without_part, AreFewTotals, HaveRoom}
use Rattle.alp_node.specs.declared.lives.Live.{Live}
use Rattle.alp_node.specs.declared.totals.Totals.{Totals}
use Rattle.alp_node.proofs.CountLemmas.{taken}
use Rattle.alp_node.proofs.MapLemmas.{get_gone}

-- ---- one number of all

module _ (f : Live → ℕ) (m : LiveMap) (t : TransId) where
  -- another in place of one
  swapped : (old new : Live) → map.get m t ≡ Some old → total f (map.insert m t new) ≡ total f m - f old + f new
  swapped old new there =
      let put = sum-insert transactions_total exact_transactions (λ (e : TransId × Live). f e.1) m t new in
      let was : weight_at (λ (e : TransId × Live). f e.1) t (map.get m t) ≡ f old = ap (weight_at (λ (e : TransId × Live). f e.1) t) there in
      omega (arith, put, was, taken f m t old there)

  -- each is part of it
  pub among : (old : Live) → map.get m t ≡ Some old → f old ≤ total f m
  among old there = omega (arith, taken f m t old there)

  gone : (old : Live) → map.get m t ≡ Some old → total f (map.remove m t) ≡ total f m - f old
  gone old there = omega (arith, taken f m t old there)

  pub added : (new : Live) → map.get m t ≡ None → total f (map.insert m t new) ≡ total f m + f new
  added new none =
      let put = sum-insert transactions_total exact_transactions (λ (e : TransId × Live). f e.1) m t new in
      let was : weight_at (λ (e : TransId × Live). f e.1) t (map.get m t) ≡ 0 = ap (weight_at (λ (e : TransId × Live). f e.1) t) none in
      omega (arith, put, was)

-- where nobody is taken out all stay
pub none_gone : (m : LiveMap) (t : TransId) → map.get m t ≡ None → map.remove m t ≡ m
none_gone m t none = same_map transactions_total exact_transactions _ _ (λ u. get_gone m t u ∙ go u (same_trans u t) refl)
  where
    go : (u : TransId) (b : Bool) → same_trans u t ≡ b → cond {A = Option Live} b None (map.get m u) ≡ map.get m u
    go u true e = sym (ap (map.get m) (same_trans-true u t e) ∙ none)
    go u false e = refl

-- ---- all three

abbrev places : Live → ℕ
places l = l.part.counts.places

abbrev files : Live → ℕ
files l = l.part.counts.files

abbrev owners : Live → ℕ
owners l = l.part.counts.owners

pub swapped_totals : (m : LiveMap) (t : TransId) (old new : Live) → map.get m t ≡ Some old → totals_of (map.insert m t new) ≡ with_part (without_part (totals_of m) old.part.counts) new.part.counts
swapped_totals m t old new there = λ i. record { places = swapped places m t old new there i; files = swapped files m t old new there i; owners = swapped owners m t old new there i }

pub gone_totals : (m : LiveMap) (t : TransId) (old : Live) → map.get m t ≡ Some old → totals_of (map.remove m t) ≡ without_part (totals_of m) old.part.counts
gone_totals m t old there = λ i. record { places = gone places m t old there i; files = gone files m t old there i; owners = gone owners m t old there i }

-- a part that did nothing yet adds nothing
pub added_totals : (m : LiveMap) (t : TransId) (new : Live) → map.get m t ≡ None → new.part.counts ≡ no_counts → totals_of (map.insert m t new) ≡ totals_of m
added_totals m t new none idle = λ i. record { places = more places (ap (λ (n : Counts). n.places) idle) i; files = more files (ap (λ (n : Counts). n.files) idle) i; owners = more owners (ap (λ (n : Counts). n.owners) idle) i }
  where
    more : (f : Live → ℕ) → f new ≡ 0 → total f (map.insert m t new) ≡ total f m
    more f zero_so = omega (arith, added f m t new none, zero_so)

-- one that an earlier run left adds what it comes to
pub restored_totals : (m : LiveMap) (t : TransId) (new : Live) → map.get m t ≡ None → totals_of (map.insert m t new) ≡ with_part (totals_of m) new.part.counts
restored_totals m t new none = λ i. record { places = added places m t new none i; files = added files m t new none i; owners = added owners m t new none i }

abbrev no_lives : LiveMap
no_lives = map.empty

pub empty_totals : totals_of no_lives ≡ no_totals
empty_totals = λ i. record { places = none places i; files = none files i; owners = none owners i }
  where
    none : (f : Live → ℕ) → total f no_lives ≡ 0
    none f = sum_of-nothing transactions_total exact_transactions (λ (e : TransId × Live). f e.1) no_lives (λ t l is. let wrong : None ≡ Some l = sym (get-empty trans_cmp t) ∙ is in cc)

-- ---- how much it may be

most_of : (f : Live → ℕ) (b : ℕ) (es : List (TransId × Live)) → sum_by (λ (e : TransId × Live). f e.1) es ≤ b * length es + sum_by (λ (e : TransId × Live). f e.1 - b) es
most_of f b [] = omega arith
most_of f b (e ∷ es) = omega (arith, most_of f b es, sum_by-cons (λ (e : TransId × Live). f e.1) e es, sum_by-cons (λ (e : TransId × Live). f e.1 - b) e es)

total_most : (f : Live → ℕ) (b : ℕ) (m : LiveMap) → ((t : TransId) (l : Live) → map.get m t ≡ Some l → f l ≤ b) → total f m ≤ b * map.len m
total_most f b m low =
    let over : sum_by (λ (e : TransId × Live). f e.1 - b) (map.entries m) ≡ 0 = sum_of-nothing transactions_total exact_transactions (λ (e : TransId × Live). f e.1 - b) m (λ t l is. (let le : f l ≤ b = low t l is in omega (arith, le))) in
    let many : b * length (map.entries m) ≡ b * map.len m = ap (λ (n : ℕ). b * n) (sym (len-entries m)) in
    omega (arith, most_of f b (map.entries m), over, many)

pub few_totals : (m : LiveMap) → map.len m ≤ 64 → ((t : TransId) (l : Live) → map.get m t ≡ Some l → IsPart l.part) → AreFewTotals (totals_of m)
few_totals m few parts = record {
  places = omega (arith, few, total_most places 512 m (λ t l is. (let p : IsPart l.part = parts t l is in omega (arith, p.few.places, p.most))));
  files = omega (arith, few, total_most files 512 m (λ t l is. (let p : IsPart l.part = parts t l is in omega (arith, p.few.files, p.most))));
  owners = omega (arith, few, total_most owners 512 m (λ t l is. (let p : IsPart l.part = parts t l is in omega (arith, p.few.owners, p.most))));
}

-- ---- room

-- where one is taken out there is room still
pub gone_room : (s : Sizes) (m : Cells) (lives : LiveMap) (t : TransId) → HaveRoom s m (totals_of lives) → HaveRoom s m (totals_of (map.remove lives t))
gone_room s m lives t h = go (map.get lives t) refl
  where
    less : Totals → Type 0
    less x = (x.places ≤ (totals_of lives).places) × (x.files ≤ (totals_of lives).files) × (x.owners ≤ (totals_of lives).owners)

    room_of : (x : Totals) → less x → HaveRoom s m x
    room_of x le = record { places = omega (arith, h.places, le.0); files = omega (arith, h.files, le.1); owners = omega (arith, h.owners, le.2) }

    go : (o : Option Live) → map.get lives t ≡ o → HaveRoom s m (totals_of (map.remove lives t))
    go None e = subst (λ (x : LiveMap). HaveRoom s m (totals_of x)) (sym (none_gone lives t e)) h
    go (Some l) e = subst (HaveRoom s m) (sym (gone_totals lives t l e)) (room_of (without_part (totals_of lives) l.part.counts) (omega arith, omega arith, omega arith))

-- and where one begins that did nothing yet
pub added_room : (s : Sizes) (m : Cells) (lives : LiveMap) (t : TransId) (new : Live) → map.get lives t ≡ None → new.part.counts ≡ no_counts → HaveRoom s m (totals_of lives) → HaveRoom s m (totals_of (map.insert lives t new))
added_room s m lives t new none idle h = subst (HaveRoom s m) (sym (added_totals lives t new none idle)) h

-- where a part comes to more for which there is room
pub record AreRoomed (s : Sizes) (m : Cells) (t : Totals) (old new : Counts) : Type 0 where
  pub places : used_of m + (t.places - old.places + new.places) + HEAD_PAGES ≤ s.home
  pub files : file_count_of m + (t.files - old.files + new.files) ≤ FILES_PER_SERVER
  pub owners : owner_count_of m + (t.owners - old.owners + new.owners) ≤ OWNERS_PER_SERVER

pub swapped_room : (s : Sizes) (m : Cells) (lives : LiveMap) (t : TransId) (old new : Live) → map.get lives t ≡ Some old → AreRoomed s m (totals_of lives) old.part.counts new.part.counts → HaveRoom s m (totals_of (map.insert lives t new))
swapped_room s m lives t old new there h = subst (HaveRoom s m) (sym (swapped_totals lives t old new there)) (record { places = h.places; files = h.files; owners = h.owners })

-- or to as much as before
pub same_room : (s : Sizes) (m : Cells) (lives : LiveMap) (t : TransId) (old new : Live) → map.get lives t ≡ Some old → new.part.counts ≡ old.part.counts → HaveRoom s m (totals_of lives) → HaveRoom s m (totals_of (map.insert lives t new))
same_room s m lives t old new there same h =
    swapped_room s m lives t old new there (subst (AreRoomed s m (totals_of lives) old.part.counts) (sym same) (record {
      places = omega (arith, h.places, among places lives t old there);
      files = omega (arith, h.files, among files lives t old there);
      owners = omega (arith, h.owners, among owners lives t old there);
    }))

-- a part that did nothing in place of one
pub blank_few : (m : LiveMap) (t : TransId) (old new : Live) → map.get m t ≡ Some old → new.part.counts ≡ no_counts → AreFewTotals (totals_of m) → AreFewTotals (totals_of (map.insert m t new))
blank_few m t old new there idle h = subst AreFewTotals (sym (swapped_totals m t old new there)) (record {
  places = (let none : new.part.counts.places ≡ 0 = ap (λ (n : Counts). n.places) idle in omega (arith, h.places, none));
  files = (let none : new.part.counts.files ≡ 0 = ap (λ (n : Counts). n.files) idle in omega (arith, h.files, none));
  owners = (let none : new.part.counts.owners ≡ 0 = ap (λ (n : Counts). n.owners) idle in omega (arith, h.owners, none));
})
