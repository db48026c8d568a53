-- Judging parts one after the other, and reading one after the other.
use Rattle.std.specs.Prelude.{Bool, true, false, cond, IsTrue, Option, None, Some, Result, Ok, Err, option_map, sum_by, map as list_map}
use Rattle.std.specs.List.{range_with_len, flat_map}
use Rattle.std.specs.Option.{option_to_list}
use Rattle.std.proofs.Common.{◌≡◌, ℕ, zero, suc, ◌+◌, ◌-◌, ◌<◌, ◌≤◌, List, [], ◌∷◌, ◌++◌, refl, sym, ◌∙◌, ap, subst, arith, zero-add}
use Rattle.std.proofs.lemmas.List.Sums.{sum_by-cons}
use Rattle.std.proofs.lemmas.Bool.{cond-true, cond-false}
use Rattle.alp_base.specs.declared.allowance.Allowance.{Allowance}
use Rattle.alp_base.specs.declared.faults.VaultFault.{VaultFault}
use Rattle.alp_base.specs.Faults.{HasVaultCause}
use Rattle.alp_pages.specs.declared.leader.Leader.{Leader}
use Rattle.alp_pages.specs.Pages.{Pages, entry_in}
use Rattle.alp_pages.specs.Damage.{Part, Header, Slot, OwnerRow, Name, parts, parts_of, entry_there, leader_at, cost_of, charge_in, names_in, added, is_right, first_wrong, place_of, names_after}
use Rattle.alp_volume.specs.Reached.{slots_from, rows_from, files_from, charge_from, cost_in}
use Rattle.alp_tables.specs.Costs.{cost_to}
use Rattle.alp_pages.specs.Reading.{HasRead}

-- ---- parts

-- so far all parts are in the grammar, these are left, and these are the names
pub record Along (home : ℕ) (at : Pages) (names : List Name) (whole rest : List Part) (now : List Name) : Type 0 where
  pub wrong : first_wrong home at names whole ≡ first_wrong home at now rest
  pub after : names_after at names whole ≡ names_after at now rest

module _ (home : ℕ) (at : Pages) (names : List Name) (whole : List Part) where
  pub along_begins : Along home at names whole whole names
  along_begins = record { wrong = refl; after = refl }

  pub along_more : (part : Part) (rest : List Part) (now : List Name) → Along home at names whole (part ∷ rest) now → is_right home at now part ≡ true → Along home at names whole rest (added now (names_in at part))
  along_more part rest now along right = record {
    wrong = along.wrong ∙ cond-true (is_right home at now part) (first_wrong home at (added now (names_in at part)) rest) (Some (place_of part)) right;
    after = along.after;
  }

  pub along_stops : (part : Part) (rest : List Part) (now : List Name) → Along home at names whole (part ∷ rest) now → is_right home at now part ≡ false → first_wrong home at names whole ≡ Some (place_of part)
  along_stops part rest now along wrong = along.wrong ∙ cond-false (is_right home at now part) (first_wrong home at (added now (names_in at part)) rest) (Some (place_of part)) wrong

  segment : (seg rest : List Part) (now : List Name) → first_wrong home at now seg ≡ None → first_wrong home at now (seg ++ rest) ≡ first_wrong home at (names_after at now seg) rest
  segment [] rest now h = refl
  segment (part ∷ seg) rest now h = go (is_right home at now part) h (segment seg rest (added now (names_in at part)))
    where
      go : (t : Bool) → cond t (first_wrong home at (added now (names_in at part)) seg) (Some (place_of part)) ≡ None
          → (first_wrong home at (added now (names_in at part)) seg ≡ None → first_wrong home at (added now (names_in at part)) (seg ++ rest) ≡ first_wrong home at (names_after at (added now (names_in at part)) seg) rest)
          → cond t (first_wrong home at (added now (names_in at part)) (seg ++ rest)) (Some (place_of part)) ≡ first_wrong home at (names_after at (added now (names_in at part)) seg) rest
      go true e later = later e
      go false e later = cc

  segment_names : (seg rest : List Part) (now : List Name) → names_after at now (seg ++ rest) ≡ names_after at (names_after at now seg) rest
  segment_names [] rest now = refl
  segment_names (part ∷ seg) rest now = segment_names seg rest (added now (names_in at part))

  segment_wrong : (seg rest : List Part) (now : List Name) (p : ℕ) → first_wrong home at now seg ≡ Some p → first_wrong home at now (seg ++ rest) ≡ Some p
  segment_wrong [] rest now p h = cc
  segment_wrong (part ∷ seg) rest now p h = go (is_right home at now part) h (segment_wrong seg rest (added now (names_in at part)) p)
    where
      go : (t : Bool) → cond t (first_wrong home at (added now (names_in at part)) seg) (Some (place_of part)) ≡ Some p
          → (first_wrong home at (added now (names_in at part)) seg ≡ Some p → first_wrong home at (added now (names_in at part)) (seg ++ rest) ≡ Some p)
          → cond t (first_wrong home at (added now (names_in at part)) (seg ++ rest)) (Some (place_of part)) ≡ Some p
      go true e later = later e
      go false e later = e

  pub along_segment : (seg rest : List Part) (now : List Name) → Along home at names whole (seg ++ rest) now → first_wrong home at now seg ≡ None → Along home at names whole rest (names_after at now seg)
  along_segment seg rest now along right = record { wrong = along.wrong ∙ segment seg rest now right; after = along.after ∙ segment_names seg rest now }

  pub along_segment_stops : (seg rest : List Part) (now : List Name) (p : ℕ) → Along home at names whole (seg ++ rest) now → first_wrong home at now seg ≡ Some p → first_wrong home at names whole ≡ Some p
  along_segment_stops seg rest now p along wrong = along.wrong ∙ segment_wrong seg rest now p wrong

  pub along_done : (now : List Name) → Along home at names whole [] now → (first_wrong home at names whole ≡ None) × (names_after at names whole ≡ now)
  along_done now along = (along.wrong, along.after)

-- one number more of a range
range_step : (s n : ℕ) → s < n → range_with_len s (n - s) ≡ s ∷ range_with_len (s + 1) (n - (s + 1))
range_step s n low = let e : n - s ≡ suc (n - (s + 1)) = omega arith in ap (range_with_len s) e

range_end : (s n : ℕ) → n ≤ s → range_with_len s (n - s) ≡ []
range_end s n all = let e : n - s ≡ 0 = omega arith in ap (range_with_len s) e

pub slots_step : (s : ℕ) → s < 4096 → slots_from s ≡ Slot s ∷ slots_from (s + 1)
unfolding slots_from
slots_step s low = ap (list_map Slot) (range_step s 4096 low)

pub slots_end : (s : ℕ) → 4096 ≤ s → slots_from s ≡ []
unfolding slots_from
slots_end s all = ap (list_map Slot) (range_end s 4096 all)

pub rows_step : (r : ℕ) → r < 256 → rows_from r ≡ OwnerRow r ∷ rows_from (r + 1)
unfolding rows_from
rows_step r low = ap (list_map OwnerRow) (range_step r 256 low)

pub rows_end : (r : ℕ) → 256 ≤ r → rows_from r ≡ []
unfolding rows_from
rows_end r all = ap (list_map OwnerRow) (range_end r 256 all)

pub files_step : (at : Pages) (s : ℕ) → s < 4096 → files_from at s ≡ parts_of at (entry_there (entry_in at s)) ++ files_from at (s + 1)
unfolding files_from
files_step at s low = ap (flat_map (λ x. parts_of at (entry_there (entry_in at x)))) (range_step s 4096 low)

pub files_end : (at : Pages) (s : ℕ) → 4096 ≤ s → files_from at s ≡ []
unfolding files_from
files_end at s all = ap (flat_map (λ x. parts_of at (entry_there (entry_in at x)))) (range_end s 4096 all)

pub charge_step : (at : Pages) (s : ℕ) (name : List ℕ) → s < 4096 → charge_from at s name ≡ cost_of name (leader_at at (entry_there (entry_in at s))) + charge_from at (s + 1) name
unfolding charge_from
charge_step at s name low = ap (sum_by (λ x. cost_of name (leader_at at (entry_there (entry_in at x))))) (range_step s 4096 low) ∙ sum_by-cons (λ x. cost_of name (leader_at at (entry_there (entry_in at x)))) s (range_with_len (s + 1) (4096 - (s + 1)))

pub charge_end : (at : Pages) (s : ℕ) (name : List ℕ) → 4096 ≤ s → charge_from at s name ≡ 0
unfolding charge_from
charge_end at s name all = ap (sum_by (λ x. cost_of name (leader_at at (entry_there (entry_in at x))))) (range_end s 4096 all)

pub charge_all : (at : Pages) (name : List ℕ) → charge_in at name ≡ charge_from at 0 name
unfolding charge_in charge_from
charge_all at name = refl

-- what a leader costs, as a cost
pub costs_option : (name : List ℕ) (o : Option Leader) → sum_by (cost_to name) (option_to_list (option_map cost_in o)) ≡ cost_of name o
costs_option name None = refl
costs_option name (Some l) = zero-add (cost_to name (cost_in l))

pub parts_are : (at : Pages) → parts at ≡ Header ∷ (slots_from 0 ++ (rows_from 0 ++ files_from at 0))
unfolding parts slots_from rows_from files_from
parts_are at = refl

-- ---- readers

-- nothing is read
pub read_none : {R : Type 0} {ReadOn : R → R → Type 0} {faults : R → ℕ} {allowance : R → Allowance} (still : (a : R) → ReadOn a a) (a : R) → HasRead {T = Unit {0}} ReadOn faults allowance a a (Ok tt)
read_none still a = record { on = still a; cause = record { later = omega arith; still = refl; cause = tt; volume = tt }; fault = tt }

module _ {R : Type 0} {ReadOn : R → R → Type 0} {faults : R → ℕ} {allowance : R → Allowance} (then_on : (a b c : R) → ReadOn a b → ReadOn b c → ReadOn a c) where
  -- a read that went well, and then another
  pub read_then : {T U : Type 0} (a b c : R) (x : U) (result : Result T VaultFault) → HasRead ReadOn faults allowance a b (Ok x) → HasRead ReadOn faults allowance b c result → HasRead ReadOn faults allowance a c result
  read_then a b c x result one two = record {
    on = then_on a b c one.on two.on;
    cause = subst (λ (n : ℕ). HasVaultCause n (faults c) (allowance c) result) one.cause.still two.cause;
    fault = two.fault;
  }

  -- what the call gives does not matter
  pub read_ok : {T U : Type 0} (a b : R) (x : U) (y : T) → HasRead ReadOn faults allowance a b (Ok x) → HasRead ReadOn faults allowance a b (Ok y)
  read_ok a b x y one = record { on = one.on; cause = record { later = one.cause.later; still = one.cause.still; cause = one.cause.cause; volume = one.cause.volume }; fault = one.fault }

  pub read_err : {T U : Type 0} (a b : R) (e : VaultFault) → HasRead {T = U} ReadOn faults allowance a b (Err e) → HasRead {T = T} ReadOn faults allowance a b (Err e)
  read_err a b e one = record { on = one.on; cause = record { later = one.cause.later; still = one.cause.still; cause = one.cause.cause; volume = one.cause.volume }; fault = one.fault }
