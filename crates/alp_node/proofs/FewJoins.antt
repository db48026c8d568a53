-- joins of other servers, one of each, are fewer than the servers
use Rattle.std.specs.Prelude.{cond, Bool, true, false, not, ◌&&◌, ◌||◌, ◌==◌, filter, nat_lt, zero, suc}
use Rattle.std.specs.List.{list_all, AllByRecursion}
use Rattle.std.proofs.lemmas.Bool.{and_parts, eqb-true, le-leb, ltb-true, not-true, or_parts}
use Rattle.std.proofs.Common.{◌≡◌, ℕ, ◌+◌, ◌<◌, ◌≤◌, List, [], ◌∷◌, length, refl, sym, ◌∙◌, ap, arith, eq-eqb}
use Rattle.alp_base.specs.declared.ids.JoinNo.{JoinNo}
use Rattle.alp_journal.specs.Account.{is_other, are_servers_apart, AreJoins}
use Rattle.alp_journal.specs.Ids.{has_server}
use Rattle.alp_vault.specs.Volumes.{is_another}

-- ---- without those of one server

abbrev away_from : ℕ → JoinNo → Bool
away_from n j = not (j.server == n)

none_lost : (n : ℕ) (js : List JoinNo) → has_server n js ≡ false → length (filter (away_from n) js) ≡ length js
none_lost n [] none = refl
none_lost n (j ∷ js) none =
    let both = or_parts (j.server == n) (has_server n js) none in
    ap (λ (b : Bool). length (cond {A = List JoinNo} (not b) (j ∷ filter (away_from n) js) (filter (away_from n) js))) both.0 ∙ ap suc (none_lost n js both.1)

one_lost : (n : ℕ) (js : List JoinNo) → are_servers_apart js ≡ true → length js ≤ 1 + length (filter (away_from n) js)
one_lost n [] apart = omega arith
one_lost n (j ∷ js) apart =
    let both = and_parts (not (has_server j.server js)) (are_servers_apart js) apart in
    go (j.server == n) refl (not-true (has_server j.server js) both.0) (one_lost n js both.1)
  where
    go : (b : Bool) → (j.server == n) ≡ b → has_server j.server js ≡ false → length js ≤ 1 + length (filter (away_from n) js) → length (j ∷ js) ≤ 1 + length (cond {A = List JoinNo} (not b) (j ∷ filter (away_from n) js) (filter (away_from n) js))
    go true e none rest =
        let same : length (filter (away_from n) js) ≡ length js = none_lost n js (ap (λ (m : ℕ). has_server m js) (sym (eqb-true j.server n e)) ∙ none) in
        omega (arith, same)
    go false e none rest = omega (arith, rest)

none_there : (p : JoinNo → Bool) (n : ℕ) (js : List JoinNo) → has_server n js ≡ false → has_server n (filter p js) ≡ false
none_there p n [] none = refl
none_there p n (j ∷ js) none = (let both = or_parts (j.server == n) (has_server n js) none in go (p j) both.0 (none_there p n js both.1))
  where
    go : (b : Bool) → (j.server == n) ≡ false → has_server n (filter p js) ≡ false → has_server n (cond {A = List JoinNo} b (j ∷ filter p js) (filter p js)) ≡ false
    go true e rest = λ i. e i || rest i
    go false e rest = rest

still_apart : (p : JoinNo → Bool) (js : List JoinNo) → are_servers_apart js ≡ true → are_servers_apart (filter p js) ≡ true
still_apart p [] apart = refl
still_apart p (j ∷ js) apart =
    let both = and_parts (not (has_server j.server js)) (are_servers_apart js) apart in
    go (p j) (not-true (has_server j.server js) both.0) (still_apart p js both.1)
  where
    go : (b : Bool) → has_server j.server js ≡ false → are_servers_apart (filter p js) ≡ true → are_servers_apart (cond {A = List JoinNo} b (j ∷ filter p js) (filter p js)) ≡ true
    go true none rest = λ i. not (none_there p j.server js none i) && rest i
    go false none rest = rest

-- ---- so many

abbrev IsUpTo : ℕ → JoinNo → Type 0
IsUpTo m j = (0 < j.server) × (j.server ≤ m)

still_below : (m : ℕ) (js : List JoinNo) → AllByRecursion (IsUpTo (suc m)) js → AllByRecursion (IsUpTo m) (filter (away_from (suc m)) js)
still_below m [] all = tt
still_below m (j ∷ js) all = go (j.server == suc m) refl all.0 (still_below m js all.1)
  where
    go : (b : Bool) → (j.server == suc m) ≡ b → IsUpTo (suc m) j → AllByRecursion (IsUpTo m) (filter (away_from (suc m)) js) → AllByRecursion (IsUpTo m) (cond {A = List JoinNo} (not b) (j ∷ filter (away_from (suc m)) js) (filter (away_from (suc m)) js))
    go true e it rest = rest
    go false e it rest = ((it.0, below it.1 (other j.server (suc m) e)), rest)
      where
        other : (x y : ℕ) → (x == y) ≡ false → x ≡ y → ⊥
        other x y e same = let wrong : true ≡ false = sym (itself x) ∙ ap (λ (z : ℕ). x == z) same ∙ e in cc
          where
            itself : (x : ℕ) → (x == x) ≡ true
            itself x = eq-eqb x x refl

        below : {x : ℕ} → x ≤ suc m → (x ≡ suc m → ⊥) → x ≤ m
        below le apart = omega (arith, le, apart)

few_apart : (m : ℕ) (js : List JoinNo) → are_servers_apart js ≡ true → AllByRecursion (IsUpTo m) js → length js ≤ m
few_apart zero [] apart all = omega arith
few_apart zero (j ∷ js) apart all = absurd (let low : 0 < j.server = all.0.0 in let high : j.server ≤ 0 = all.0.1 in omega (arith, low, high))
few_apart (suc m) js apart all =
    let most : length (filter (away_from (suc m)) js) ≤ m = few_apart m (filter (away_from (suc m)) js) (still_apart (away_from (suc m)) js apart) (still_below m js all) in
    let lost : length js ≤ 1 + length (filter (away_from (suc m)) js) = one_lost (suc m) js apart in
    omega (arith, most, lost)

-- ---- joins of other servers

each_below : (servers here : ℕ) (js : List JoinNo) → list_all (λ (j : JoinNo). is_other servers here j.server) js ≡ true → AllByRecursion (IsUpTo servers) js × (has_server here js ≡ false)
each_below servers here [] all = (tt, refl)
each_below servers here (j ∷ js) all =
    let both = and_parts (is_other servers here j.server) (list_all (λ (i : JoinNo). is_other servers here i.server) js) all in
    let whole = and_parts (nat_lt 0 j.server && nat_lt j.server (servers + 1)) (not (j.server == here)) both.0 in
    let within = and_parts (nat_lt 0 j.server) (nat_lt j.server (servers + 1)) whole.0 in
    let low : 0 < j.server = ltb-true 0 j.server within.0 in
    let high : j.server < servers + 1 = ltb-true j.server (servers + 1) within.1 in
    let rest = each_below servers here js both.1 in
    (((low, omega (arith, high)), rest.0), (λ i. not-true (j.server == here) whole.1 i || rest.1 i))

pub few_joins : (servers here : ℕ) (js : List JoinNo) → AreJoins servers here js → 1 ≤ here → here ≤ servers → length js + 1 ≤ servers
few_joins servers here js joins first among =
    let each = each_below servers here js joins.0 in
    let mine : JoinNo = record { server = here; epoch = 0; counter = 0 } in
    let most : length (mine ∷ js) ≤ servers = few_apart servers (mine ∷ js) (λ i. not (each.1 i) && joins.1 i) ((omega (arith, first), among), each.0) in
    omega (arith, most)

-- another server by both counts
pub others_another : (servers here : ℕ) (js : List JoinNo) → list_all (λ (j : JoinNo). is_other servers here j.server) js ≡ true → list_all (λ (j : JoinNo). is_another here servers j.server) js ≡ true
others_another servers here [] all = refl
others_another servers here (j ∷ js) all =
    let both = and_parts (is_other servers here j.server) (list_all (λ (i : JoinNo). is_other servers here i.server) js) all in
    λ i. one both.0 i && others_another servers here js both.1 i
  where
    one : is_other servers here j.server ≡ true → is_another here servers j.server ≡ true
    one e =
        let whole = and_parts (nat_lt 0 j.server && nat_lt j.server (servers + 1)) (not (j.server == here)) e in
        let within = and_parts (nat_lt 0 j.server) (nat_lt j.server (servers + 1)) whole.0 in
        let low : 0 < j.server = ltb-true 0 j.server within.0 in
        let high : j.server < servers + 1 = ltb-true j.server (servers + 1) within.1 in
        (λ i. (le-leb 1 j.server (omega (arith, low)) i && le-leb j.server servers (omega (arith, high)) i) && whole.1 i)
