-- one thread's history on all servers is one on each
use Rattle.std.specs.Prelude.{Bool, true, false, cond, ◌==◌}
use Rattle.std.proofs.Common.{◌≡◌, ℕ, List, [], ◌∷◌, ◌++◌, refl, sym, ap, subst, ◌∙◌, eq-eqb}
use Rattle.std.proofs.lemmas.Bool.{eqb-true}
use Rattle.alp_files.specs.History.{Standing, Decided, AreRight, steps, begun}
use Rattle.alp_files.specs.History as one
use Rattle.alp_history.specs.Log.{Log, Decision, Standings, Share, shares_of, with_standing, AreSharesRight, after_shares, IsSerial, serial_end}

-- what the shares are at one server, in their order
abbrev pub on : ℕ → List Share → List Decided
on n [] = []
on n (x ∷ xs) = cond (x.0 == n) (x.1 ∷ on n xs) (on n xs)

-- each reply is right at each server by itself, and those of the rest too
abbrev IsRightEach : Standings → List Share → (ℕ → List Decided) → Type 0
IsRightEach at xs rest = (n : ℕ) → one.IsSerial n (at n) (on n xs ++ rest n)

same-turned : (a b : ℕ) (c : Bool) → (a == b) ≡ c → (b == a) ≡ c
same-turned a b true e = eq-eqb b a (sym (eqb-true a b e))
same-turned a b false e = other (b == a) refl
  where
    other : (c : Bool) → (b == a) ≡ c → c ≡ false
    other false f = refl
    other true f = let wrong : true ≡ false = sym (eq-eqb a b (sym (eqb-true b a f))) ∙ e in cc

-- where a share leads
abbrev led : Standings → Share → Standings
led at x = with_standing at x.0 (steps x.0 (begun (at x.0)) x.1.who x.1.calls)

-- the server of a share sees it, and no other does
share-head : (at : Standings) (x : Share) (xs : List Share) (rest : ℕ → List Decided) → IsRightEach at (x ∷ xs) rest → AreRight x.0 (begun (at x.0)) x.1.who x.1.calls
share-head at x xs rest h = go (x.0 == x.0) (eq-eqb x.0 x.0 refl) (h x.0)
  where
    go : (b : Bool) → b ≡ true → one.IsSerial x.0 (at x.0) (cond b (x.1 ∷ on x.0 xs) (on x.0 xs) ++ rest x.0) → AreRight x.0 (begun (at x.0)) x.1.who x.1.calls
    go true e k = k.0
    go false e k = cc

share-rest : (at : Standings) (x : Share) (xs : List Share) (rest : ℕ → List Decided) → IsRightEach at (x ∷ xs) rest → IsRightEach (led at x) xs rest
share-rest at x xs rest h n = go (x.0 == n) refl (h n)
  where
    go : (b : Bool) → (x.0 == n) ≡ b → one.IsSerial n (at n) (cond b (x.1 ∷ on n xs) (on n xs) ++ rest n)
        → one.IsSerial n (cond (n == x.0) (steps x.0 (begun (at x.0)) x.1.who x.1.calls) (at n)) (on n xs ++ rest n)
    go true e k =
        let is : x.0 ≡ n = eqb-true x.0 n e in
        subst (λ c. one.IsSerial n (cond c (steps x.0 (begun (at x.0)) x.1.who x.1.calls) (at n)) (on n xs ++ rest n)) (sym (same-turned x.0 n true e))
        (subst (λ m. one.IsSerial n (steps m (begun (at m)) x.1.who x.1.calls) (on n xs ++ rest n)) (sym is) k.1)
    go false e k = subst (λ c. one.IsSerial n (cond c (steps x.0 (begun (at x.0)) x.1.who x.1.calls) (at n)) (on n xs ++ rest n)) (sym (same-turned x.0 n false e)) k

shares-right : (at : Standings) (xs : List Share) (rest : ℕ → List Decided) → IsRightEach at xs rest → AreSharesRight at xs × ((n : ℕ) → one.IsSerial n (after_shares at xs n) (rest n))
shares-right at [] rest h = (tt, h)
shares-right at (x ∷ xs) rest h =
    let more = shares-right (led at x) xs rest (share-rest at x xs rest h) in
    ((share-head at x xs rest h, more.0), more.1)

-- and leads to the same
share-end : (at : Standings) (x : Share) (n : ℕ) (ds : List Decided) (b : Bool) → (x.0 == n) ≡ b → one.serial_end n (led at x n) ds ≡ one.serial_end n (at n) (cond b (x.1 ∷ ds) ds)
share-end at x n ds true e =
    let is : x.0 ≡ n = eqb-true x.0 n e in
    ap (λ c. one.serial_end n (cond c (steps x.0 (begun (at x.0)) x.1.who x.1.calls) (at n)) ds) (same-turned x.0 n true e)
    ∙ ap (λ m. one.serial_end n (steps m (begun (at m)) x.1.who x.1.calls) ds) is
share-end at x n ds false e = ap (λ c. one.serial_end n (cond c (steps x.0 (begun (at x.0)) x.1.who x.1.calls) (at n)) ds) (same-turned x.0 n false e)

pub shares-end : (at : Standings) (xs : List Share) (n : ℕ) → after_shares at xs n ≡ one.serial_end n (at n) (on n xs)
shares-end at [] n = refl
shares-end at (x ∷ xs) n = shares-end (led at x) xs n ∙ share-end at x n (on n xs) (x.0 == n) refl

module _ (log : Log) where
  -- what all decisions are at one server
  abbrev pub all_on : ℕ → List Decision → List Decided
  all_on n [] = []
  all_on n (d ∷ ds) = on n (shares_of log d) ++ all_on n ds

  -- one thread's history on each server is one on all
  pub severally : (at : Standings) (ds : List Decision) → ((n : ℕ) → one.IsSerial n (at n) (all_on n ds)) → IsSerial log at ds
  severally at [] h = tt
  severally at (d ∷ ds) h =
      let x = shares-right at (shares_of log d) (λ n. all_on n ds) h in
      (x.0, severally (after_shares at (shares_of log d)) ds x.1)

  end-append : (n : ℕ) (s : Standing) (xs ys : List Decided) → one.serial_end n s (xs ++ ys) ≡ one.serial_end n (one.serial_end n s xs) ys
  end-append n s [] ys = refl
  end-append n s (x ∷ xs) ys = end-append n (steps n (begun s) x.who x.calls) xs ys

  pub severally-end : (at : Standings) (ds : List Decision) (n : ℕ) → serial_end log at ds n ≡ one.serial_end n (at n) (all_on n ds)
  severally-end at [] n = refl
  severally-end at (d ∷ ds) n =
      severally-end (after_shares at (shares_of log d)) ds n
      ∙ ap (λ s. one.serial_end n s (all_on n ds)) (shares-end at (shares_of log d) n)
      ∙ sym (end-append n (at n) (on n (shares_of log d)) (all_on n ds))
