-- joins of a transaction that did not vote, as they go: who is among them, and who stays
use Rattle.std.specs.Prelude.{cond, Bool, true, false, not, ◌==◌, ◌&&◌, ◌||◌, find, filter, Option, None, Some}
use Rattle.std.specs.List.{list_any, AllByRecursion}
use Rattle.std.proofs.lemmas.Bool.{and_parts, and_from, or_left, or_right, eqb-true}
use Rattle.std.proofs.Common.{◌≡◌, ℕ, List, [], ◌∷◌, refl, sym, ◌∙◌, ap, subst}
use Rattle.alp_base.specs.declared.ids.JoinNo.{JoinNo}
use Rattle.alp_base.specs.declared.ids.TransId.{TransId}
use Rattle.alp_journal.specs.Ids.{same_join, same_trans}
use Rattle.alp_journal.proofs.IdLemmas.{same_join-true, same_trans-true}
use Rattle.alp_worker.specs.declared.joins.Joins.{Joins}
use Rattle.alp_worker.specs.declared.live.LiveJoin.{LiveJoin}
use Rattle.alp_worker.specs.declared.live.Stage.{Stage}
use Rattle.alp_worker.specs.declared.live.Stage.TheVariants as stage
use Rattle.alp_worker.specs.Joins.{with_quit}
use Rattle.alp_worker.specs.Lives.{is_at, is_open, join_at, AreOnce}
use Rattle.alp_worker.specs.Walks.{is_open_of, open_of}
use Rattle.alp_worker.proofs.LiveLemmas.{same_join-itself}
use Rattle.alp_node.specs.Timeouts.{is_active, has_active, quitted_all}
use Rattle.alp_node.proofs.JoinMoves.{same_some, found_number}
use Rattle.alp_node.proofs.NotedLemmas.{found_at, all_found}

-- ---- lists

module _ {X : Type 0} where
  filter_twice : (p q : X → Bool) (xs : List X) → filter p (filter q xs) ≡ filter (λ x. q x && p x) xs
  filter_twice p q [] = refl
  filter_twice p q (x ∷ xs) = go (q x) (filter_twice p q xs)
    where
      go : (b : Bool) → filter p (filter q xs) ≡ filter (λ y. q y && p y) xs → filter p (cond {A = List X} b (x ∷ filter q xs) (filter q xs)) ≡ cond {A = List X} (b && p x) (x ∷ filter (λ y. q y && p y) xs) (filter (λ y. q y && p y) xs)
      go true e = ap (λ (ys : List X). cond {A = List X} (p x) (x ∷ ys) ys) e
      go false e = e

  filter_same : (p q : X → Bool) (xs : List X) → AllByRecursion (λ x. p x ≡ q x) xs → filter p xs ≡ filter q xs
  filter_same p q [] h = refl
  filter_same p q (x ∷ xs) h = λ i. cond {A = List X} (h.0 i) (x ∷ filter_same p q xs h.1 i) (filter_same p q xs h.1 i)

  filter_all : (xs : List X) → filter (λ x. true) xs ≡ xs
  filter_all [] = refl
  filter_all (x ∷ xs) = ap (λ (ys : List X). x ∷ ys) (filter_all xs)

  pub any_filter : (p q : X → Bool) (xs : List X) → list_any q (filter p xs) ≡ list_any (λ x. p x && q x) xs
  any_filter p q [] = refl
  any_filter p q (x ∷ xs) = go (p x) (any_filter p q xs)
    where
      go : (b : Bool) → list_any q (filter p xs) ≡ list_any (λ y. p y && q y) xs → list_any q (cond {A = List X} b (x ∷ filter p xs) (filter p xs)) ≡ ((b && q x) || list_any (λ y. p y && q y) xs)
      go true e = ap (λ (c : Bool). q x || c) e
      go false e = e

  -- where one passes one is found
  pub found_any : (p : X → Bool) (xs : List X) → list_any p xs ≡ true → (x : X) × (find p xs ≡ Some x)
  found_any p [] h = absurd (let wrong : false ≡ true = h in cc)
  found_any p (x ∷ xs) h = go (p x) h (found_any p xs)
    where
      go : (b : Bool) → (b || list_any p xs) ≡ true → (list_any p xs ≡ true → (y : X) × (find p xs ≡ Some y)) → (y : X) × (cond {A = Option X} b (Some x) (find p xs) ≡ Some y)
      go true e rest = (x, refl)
      go false e rest = rest e

-- one passes that is found by its number
pub any_there : (p : LiveJoin → Bool) (ls : List LiveJoin) (j : JoinNo) (y : LiveJoin) → join_at ls j ≡ Some y → p y ≡ true → list_any p ls ≡ true
any_there p [] j y e so = absurd (let wrong : ◌≡◌ {A = Option LiveJoin} None (Some y) = e in cc)
any_there p (l ∷ ls) j y e so = go (is_at j l) e (any_there p ls j y)
  where
    go : (b : Bool) → cond {A = Option LiveJoin} b (Some l) (join_at ls j) ≡ Some y → (join_at ls j ≡ Some y → p y ≡ true → list_any p ls ≡ true) → (p l || list_any p ls) ≡ true
    go true e rest = or_left (p l) (list_any p ls) (ap p (same_some l y e) ∙ so)
    go false e rest = or_right (p l) (list_any p ls) (rest e so)

-- ---- who passes is found as before

abbrev pub kept_if : (LiveJoin → Bool) → Option LiveJoin → Option LiveJoin
kept_if p None = None
kept_if p (Some l) = cond {A = Option LiveJoin} (p l) (Some l) None

module _ (p : LiveJoin → Bool) where
  pub filter_at : (ls : List LiveJoin) → AreOnce ls → (i : JoinNo) → join_at (filter p ls) i ≡ kept_if p (join_at ls i)
  filter_at [] once i = refl
  filter_at (l ∷ ls) once i = go (p l) refl (same_join i l.join) refl (filter_at ls once.1 i)
    where
      go : (c : Bool) → p l ≡ c → (b : Bool) → same_join i l.join ≡ b → join_at (filter p ls) i ≡ kept_if p (join_at ls i)
          → join_at (cond {A = List LiveJoin} c (l ∷ filter p ls) (filter p ls)) i ≡ kept_if p (cond {A = Option LiveJoin} b (Some l) (join_at ls i))
      go true e true f rest = ap (λ (x : Bool). cond {A = Option LiveJoin} x (Some l) (join_at (filter p ls) i)) f ∙ sym (ap (λ (x : Bool). cond {A = Option LiveJoin} x (Some l) None) e)
      go true e false f rest = ap (λ (x : Bool). cond {A = Option LiveJoin} x (Some l) (join_at (filter p ls) i)) f ∙ rest
      go false e true f rest = rest ∙ ap (kept_if p) (ap (join_at ls) (same_join-true i l.join f) ∙ once.0) ∙ sym (ap (λ (x : Bool). cond {A = Option LiveJoin} x (Some l) None) e)
      go false e false f rest = rest

  pub was_left : (ls : List LiveJoin) → AreOnce ls → (i : JoinNo) (x : LiveJoin) → join_at (filter p ls) i ≡ Some x → (join_at ls i ≡ Some x) × (p x ≡ true)
  was_left ls once i x e = go (join_at ls i) refl (sym (filter_at ls once i) ∙ e)
    where
      go : (o : Option LiveJoin) → join_at ls i ≡ o → kept_if p o ≡ Some x → (join_at ls i ≡ Some x) × (p x ≡ true)
      go None is f = absurd (let wrong : ◌≡◌ {A = Option LiveJoin} None (Some x) = f in cc)
      go (Some y) is f = inner (p y) refl f
        where
          inner : (b : Bool) → p y ≡ b → cond {A = Option LiveJoin} b (Some y) None ≡ Some x → (join_at ls i ≡ Some x) × (p x ≡ true)
          inner true so g = (is ∙ g, ap p (sym (same_some y x g)) ∙ so)
          inner false so g = absurd (let wrong : ◌≡◌ {A = Option LiveJoin} None (Some x) = g in cc)

  pub still_left : (ls : List LiveJoin) → AreOnce ls → (i : JoinNo) (y : LiveJoin) → join_at ls i ≡ Some y → p y ≡ true → join_at (filter p ls) i ≡ Some y
  still_left ls once i y e so = filter_at ls once i ∙ ap (kept_if p) e ∙ ap (λ (b : Bool). cond {A = Option LiveJoin} b (Some y) None) so

-- ---- all that did not vote are over

either_not : (a b : Bool) → (not a && not b) ≡ not (a || b)
either_not true b = refl
either_not false b = refl

quitted_as : (k : Joins) (xs : List LiveJoin) → quitted_all k xs ≡ record k { lives = filter (λ (l : LiveJoin). not (list_any (λ (x : LiveJoin). is_at x.join l && is_open l.stage) xs)) k.lives }
quitted_as k [] = λ i. record k { lives = sym (filter_all k.lives) i }
quitted_as k (x ∷ xs) =
    quitted_as (with_quit k x.join) xs
    ∙ (λ i. record k {
      lives = (filter_twice (λ (l : LiveJoin). not (list_any (λ (z : LiveJoin). is_at z.join l && is_open l.stage) xs)) (λ (l : LiveJoin). not (is_at x.join l && is_open l.stage)) k.lives
          ∙ (λ d. filter (λ (l : LiveJoin). either_not (is_at x.join l && is_open l.stage) (list_any (λ (z : LiveJoin). is_at z.join l && is_open l.stage) xs) d) k.lives)) i;
    })

module _ (t : TransId) where
  -- one that is there goes where it is of the transaction and did not vote
  gone_is : (ls : List LiveJoin) → AreOnce ls → (j : JoinNo) (l : LiveJoin) → join_at ls j ≡ Some l → list_any (λ (x : LiveJoin). is_at x.join l && is_open l.stage) (open_of t ls) ≡ is_open_of t l
  gone_is ls once j l there = go (is_open_of t l) refl
    where
      none : is_open_of t l ≡ false → (b : Bool) → list_any (λ (x : LiveJoin). is_at x.join l && is_open l.stage) (open_of t ls) ≡ b → b ≡ false
      none e false f = refl
      none e true f =
          let found = found_any (λ (x : LiveJoin). is_open_of t x && (is_at x.join l && is_open l.stage)) ls (sym (any_filter (is_open_of t) (λ (x : LiveJoin). is_at x.join l && is_open l.stage) ls) ∙ f) in
          let x : LiveJoin = found.0 in
          let at = found_at (λ (z : LiveJoin). is_open_of t z && (is_at z.join l && is_open l.stage)) ls x once found.1 in
          let both = and_parts (is_open_of t x) (is_at x.join l && is_open l.stage) at.1 in
          let its : same_join x.join l.join ≡ true = (and_parts (is_at x.join l) (is_open l.stage) both.1).0 in
          let same : x ≡ l = same_some x l (sym at.0 ∙ ap (join_at ls) (same_join-true x.join l.join its ∙ sym (found_number ls j l there)) ∙ there) in
          let wrong : true ≡ false = sym both.0 ∙ ap (is_open_of t) same ∙ e in
          cc

      go : (b : Bool) → is_open_of t l ≡ b → list_any (λ (x : LiveJoin). is_at x.join l && is_open l.stage) (open_of t ls) ≡ b
      go true e =
          any_filter (is_open_of t) (λ (x : LiveJoin). is_at x.join l && is_open l.stage) ls
          ∙ any_there (λ (x : LiveJoin). is_open_of t x && (is_at x.join l && is_open l.stage)) ls j l there
          (and_from (is_open_of t l) (is_at l.join l && is_open l.stage) e (and_from (is_at l.join l) (is_open l.stage) (same_join-itself l.join) (and_parts (is_open l.stage) (same_trans l.trans t) e).0))
      go false e = none e (list_any (λ (x : LiveJoin). is_at x.join l && is_open l.stage) (open_of t ls)) refl

  pub joins_left_as : (k : Joins) → AreOnce k.lives → (xs : List LiveJoin) → xs ≡ open_of t k.lives → quitted_all k xs ≡ record k { lives = filter (λ (l : LiveJoin). not (is_open_of t l)) k.lives }
  joins_left_as k once xs are =
      ap (quitted_all k) are ∙ quitted_as k (open_of t k.lives)
      ∙ (λ i. record k {
        lives = filter_same (λ (l : LiveJoin). not (list_any (λ (x : LiveJoin). is_at x.join l && is_open l.stage) (open_of t k.lives))) (λ (l : LiveJoin). not (is_open_of t l)) k.lives
            (all_found (λ (l : LiveJoin). not (list_any (λ (x : LiveJoin). is_at x.join l && is_open l.stage) (open_of t k.lives)) ≡ not (is_open_of t l)) k.lives once (λ j l there. ap not (gone_is k.lives once j l there))) i;
      })

  -- ---- who is among them

  -- one of this client
  pub record IsLateOf (ls : List LiveJoin) (client : ℕ) : Type 0 where
    pub one : LiveJoin
    pub there : join_at ls one.join ≡ Some one
    pub early : is_open one.stage ≡ true
    pub trans : one.trans ≡ t
    pub own : one.client ≡ client

  pub late_of : (ls : List LiveJoin) → AreOnce ls → (client : ℕ) → list_any (λ (x : LiveJoin). client == x.client) (open_of t ls) ≡ true → IsLateOf ls client
  late_of ls once client e =
      let found = found_any (λ (x : LiveJoin). is_open_of t x && client == x.client) ls (sym (any_filter (is_open_of t) (λ (x : LiveJoin). client == x.client) ls) ∙ e) in
      let x : LiveJoin = found.0 in
      let at = found_at (λ (z : LiveJoin). is_open_of t z && client == z.client) ls x once found.1 in
      let both = and_parts (is_open_of t x) (client == x.client) at.1 in
      let opened = and_parts (is_open x.stage) (same_trans x.trans t) both.0 in
      record { one = x; there = at.0; early = opened.0; trans = same_trans-true x.trans t opened.1; own = sym (eqb-true client x.client both.1) }

  -- one that was let in
  pub record IsLateActive (ls : List LiveJoin) : Type 0 where
    pub one : LiveJoin
    pub there : join_at ls one.join ≡ Some one
    pub trans : one.trans ≡ t
    pub in_ : is_active one.stage ≡ true

  pub late_active : (ls : List LiveJoin) → AreOnce ls → has_active (open_of t ls) ≡ true → IsLateActive ls
  late_active ls once e =
      let found = found_any (λ (x : LiveJoin). is_open_of t x && is_active x.stage) ls (sym (any_filter (is_open_of t) (λ (x : LiveJoin). is_active x.stage) ls) ∙ e) in
      let x : LiveJoin = found.0 in
      let at = found_at (λ (z : LiveJoin). is_open_of t z && is_active z.stage) ls x once found.1 in
      let both = and_parts (is_open_of t x) (is_active x.stage) at.1 in
      record { one = x; there = at.0; trans = same_trans-true x.trans t (and_parts (is_open x.stage) (same_trans x.trans t) both.0).1; in_ = both.1 }

  -- where none was let in none is
  pub none_active : (ls : List LiveJoin) → has_active (open_of t ls) ≡ false → (j : JoinNo) (y : LiveJoin) → join_at ls j ≡ Some y → is_open_of t y ≡ true → is_active y.stage ≡ false
  none_active ls none j y there opens = go (is_active y.stage) refl
    where
      go : (b : Bool) → is_active y.stage ≡ b → b ≡ false
      go false e = refl
      go true e =
          let some : has_active (open_of t ls) ≡ true =
          any_filter (is_open_of t) (λ (x : LiveJoin). is_active x.stage) ls ∙ any_there (λ (x : LiveJoin). is_open_of t x && is_active x.stage) ls j y there (and_from (is_open_of t y) (is_active y.stage) opens e) in
          let wrong : true ≡ false = sym some ∙ none in
          cc
