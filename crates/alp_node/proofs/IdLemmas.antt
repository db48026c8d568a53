-- which files were given an id
use Rattle.std.specs.Prelude.{suc, zero, Bool, true, false, ◌&&◌, ◌||◌, ◌==◌, nat_lt, nat_le}
use Rattle.std.specs.List.{AllByRecursion}
use Rattle.std.proofs.Common.{inl, inr, ◌⊎◌, ◌≡◌, ℕ, ◌<◌, ◌≤◌, List, [], ◌∷◌, ◌++◌, subst, refl, sym, ◌∙◌, ap, arith, eq-eqb}
use Rattle.std.proofs.lemmas.Bool.{eqb-true, leb-true, le-leb}
use Rattle.alp_base.proofs.NameLemmas.{and_left, and_right}
use Rattle.std.proofs.lemmas.Bool.Decides.{leb_tells}
use Rattle.std.proofs.Math.Dec.{leb}
use Rattle.alp_base.specs.declared.ids.FileId.{FileId}
use Rattle.alp_files.specs.Cells.{has_file, same_file}
use Rattle.alp_files.proofs.SameLemmas.{same_file-true, same_file-itself}
use Rattle.alp_vault.specs.Contents.{Contents}
use Rattle.alp_journal.specs.Ids.{is_drawn}
use Rattle.alp_journal.specs.State.{is_file_drawn}
use Rattle.alp_journal.specs.Account.{Account, state_of}
use Rattle.alp_node.specs.Asks.{is_given}
use Rattle.alp_node.specs.ServerState.{IsAs, ids_to}
use Rattle.alp_node.specs.declared.server_state.ServerState.{ServerState}

-- no id beyond the count was given
pub none_beyond : (server epoch n m : ℕ) → n < m → has_file (record { server = server; epoch = epoch; counter = m }) (ids_to server epoch n) ≡ false
none_beyond server epoch zero m low = refl
none_beyond server epoch (suc n) m low =
    go (none_beyond server epoch n m (omega (arith, low))) (same_file (record { server = server; epoch = epoch; counter = suc n }) (record { server = server; epoch = epoch; counter = m })) refl
  where
    go : has_file (record { server = server; epoch = epoch; counter = m }) (ids_to server epoch n) ≡ false → (b : Bool)
        → same_file (record { server = server; epoch = epoch; counter = suc n }) (record { server = server; epoch = epoch; counter = m }) ≡ b
        → (b || has_file (record { server = server; epoch = epoch; counter = m }) (ids_to server epoch n)) ≡ false
    go below false e = below
    go below true e = let one : suc n ≡ m = ap (λ (f : FileId). f.counter) (same_file-true (record { server = server; epoch = epoch; counter = suc n }) (record { server = server; epoch = epoch; counter = m }) e) in absurd (omega (arith, low, one))

or_right : (a b : Bool) → b ≡ true → (a || b) ≡ true
or_right true b h = refl
or_right false b h = h

-- an id of this server and epoch up to the count was given
pub one_of_ids : (server epoch n m : ℕ) → 0 < m → m ≤ n → has_file (record { server = server; epoch = epoch; counter = m }) (ids_to server epoch n) ≡ true
one_of_ids server epoch zero m some low = absurd (omega (arith, some, low))
one_of_ids server epoch (suc n) m some low = go (leb_tells m n) (one_of_ids server epoch n m some)
  where
    go : ((leb m n ≡ true) × (m ≤ n)) ⊎ ((leb m n ≡ false) × (n < m)) → (m ≤ n → has_file (record { server = server; epoch = epoch; counter = m }) (ids_to server epoch n) ≡ true)
        → has_file (record { server = server; epoch = epoch; counter = m }) (ids_to server epoch (suc n)) ≡ true
    go (inl below) before = or_right (same_file (record { server = server; epoch = epoch; counter = suc n }) (record { server = server; epoch = epoch; counter = m })) _ (before below.1)
    go (inr beyond) before =
        let is : m ≡ suc n = omega (arith, low, beyond.1) in
        ap (λ (x : ℕ). same_file (record { server = server; epoch = epoch; counter = suc n }) (record { server = server; epoch = epoch; counter = x }) || has_file (record { server = server; epoch = epoch; counter = m }) (ids_to server epoch n)) is
        ∙ ap (λ (b : Bool). b || has_file (record { server = server; epoch = epoch; counter = m }) (ids_to server epoch n)) (same_file-itself (record { server = server; epoch = epoch; counter = suc n }))

among_ids : (server epoch n : ℕ) (f : FileId) → has_file f (ids_to server epoch n) ≡ true → (f.epoch == epoch && nat_le f.counter n) ≡ true
among_ids server epoch zero f e = let wrong : false ≡ true = e in cc
among_ids server epoch (suc n) f e = go (among_ids server epoch n f) (same_file (record { server = server; epoch = epoch; counter = suc n }) f) refl e
  where
    go : (has_file f (ids_to server epoch n) ≡ true → (f.epoch == epoch && nat_le f.counter n) ≡ true) → (b : Bool) → same_file (record { server = server; epoch = epoch; counter = suc n }) f ≡ b
        → (b || has_file f (ids_to server epoch n)) ≡ true → (f.epoch == epoch && nat_le f.counter (suc n)) ≡ true
    go before true is e =
        let one : record { server = server; epoch = epoch; counter = suc n } ≡ f = same_file-true (record { server = server; epoch = epoch; counter = suc n }) f is in
        let counter : suc n ≡ f.counter = ap (λ (g : FileId). g.counter) one in
        ap (λ (b : Bool). b && nat_le f.counter (suc n)) (eq-eqb f.epoch epoch (sym (ap (λ (g : FileId). g.epoch) one))) ∙ le-leb f.counter (suc n) (omega (arith, counter))
    go before false is e =
        let h : (f.epoch == epoch && nat_le f.counter n) ≡ true = before e in
        let low : f.counter ≤ n = leb-true f.counter n (and_right _ _ h) in
        ap (λ (b : Bool). b && nat_le f.counter (suc n)) (and_left _ _ h) ∙ le-leb f.counter (suc n) (omega (arith, low))

-- all that is said of one that was made here
among_all : (server epoch n : ℕ) (f : FileId) → has_file f (ids_to server epoch n) ≡ true → (f.server ≡ server) × (0 < f.counter)
among_all server epoch zero f e = let wrong : false ≡ true = e in cc
among_all server epoch (suc n) f e = go (among_all server epoch n f) (same_file (record { server = server; epoch = epoch; counter = suc n }) f) refl e
  where
    go : (has_file f (ids_to server epoch n) ≡ true → (f.server ≡ server) × (0 < f.counter)) → (b : Bool) → same_file (record { server = server; epoch = epoch; counter = suc n }) f ≡ b
        → (b || has_file f (ids_to server epoch n)) ≡ true → (f.server ≡ server) × (0 < f.counter)
    go before true is e =
        let one : record { server = server; epoch = epoch; counter = suc n } ≡ f = same_file-true (record { server = server; epoch = epoch; counter = suc n }) f is in
        let counter : suc n ≡ f.counter = ap (λ (g : FileId). g.counter) one in
        (sym (ap (λ (g : FileId). g.server) one), omega (arith, counter))
    go before false is e = before e

or_cases : (x y : Bool) → (x || y) ≡ true → (x ≡ true) ⊎ (y ≡ true)
or_cases true y h = inl refl
or_cases false y h = inr h

four : (a b c d : Bool) → a ≡ true → b ≡ true → c ≡ true → d ≡ true → (a && b && c && d) ≡ true
four a b c d e f g h = (λ i. e i && f i && g i && h i)

module _ (server epoch count : ℕ) (f : FileId) where
  abbrev recent : ℕ → Bool
  recent n = nat_lt f.epoch epoch || (f.epoch == epoch && nat_le f.counter n)

  more_recent : (m n : ℕ) → m ≤ n → recent m ≡ true → recent n ≡ true
  more_recent m n le h = go (nat_lt f.epoch epoch) (or_cases (nat_lt f.epoch epoch) (f.epoch == epoch && nat_le f.counter m) h)
    where
      go : (b : Bool) → (b ≡ true) ⊎ ((f.epoch == epoch && nat_le f.counter m) ≡ true) → (b || (f.epoch == epoch && nat_le f.counter n)) ≡ true
      go true which = refl
      go false (inl e) = cc
      go false (inr e) = (let low : f.counter ≤ m = leb-true f.counter m (and_right _ _ e) in (λ i. and_left (f.epoch == epoch) (nat_le f.counter m) e i && le-leb f.counter n (omega (arith, low, le)) i))

  -- what the journal tells as given the counts tell too
  drawn_given : 0 < epoch → (is_drawn server epoch 0 f.server f.epoch f.counter || has_file f (ids_to server epoch count)) ≡ true → is_given server epoch count f ≡ true
  drawn_given some h = go (or_cases (is_drawn server epoch 0 f.server f.epoch f.counter) (has_file f (ids_to server epoch count)) h)
    where
      go : (is_drawn server epoch 0 f.server f.epoch f.counter ≡ true) ⊎ (has_file f (ids_to server epoch count) ≡ true) → is_given server epoch count f ≡ true
      go (inl e) = (λ i. and_left (f.server == server && nat_lt 0 f.epoch && nat_lt 0 f.counter) (recent 0) e i && more_recent 0 count (omega arith) (and_right (f.server == server && nat_lt 0 f.epoch && nat_lt 0 f.counter) (recent 0) e) i)
      go (inr e) =
          let now = among_ids server epoch count f e in
          let all = among_all server epoch count f e in
          let at : f.epoch ≡ epoch = eqb-true f.epoch epoch (and_left _ _ now) in
          four (f.server == server) (nat_lt 0 f.epoch) (nat_lt 0 f.counter) (recent count) (eq-eqb f.server server all.0) (le-leb 1 f.epoch (omega (arith, at, some))) (le-leb 1 f.counter (omega (arith, all.1)))
          (later (nat_lt f.epoch epoch) now)
        where
          later : (b : Bool) → (f.epoch == epoch && nat_le f.counter count) ≡ true → (b || (f.epoch == epoch && nat_le f.counter count)) ≡ true
          later true e = refl
          later false e = e

  -- and the other way round
  given_drawn : is_given server epoch count f ≡ true → (is_drawn server epoch 0 f.server f.epoch f.counter || has_file f (ids_to server epoch count)) ≡ true
  given_drawn h = go (or_cases (nat_lt f.epoch epoch) (f.epoch == epoch && nat_le f.counter count) (and_right (f.server == server && nat_lt 0 f.epoch && nat_lt 0 f.counter) (recent count) h))
    where
      first : (f.server == server && nat_lt 0 f.epoch && nat_lt 0 f.counter) ≡ true
      first = and_left (f.server == server && nat_lt 0 f.epoch && nat_lt 0 f.counter) (recent count) h

      go : (nat_lt f.epoch epoch ≡ true) ⊎ ((f.epoch == epoch && nat_le f.counter count) ≡ true) → (is_drawn server epoch 0 f.server f.epoch f.counter || has_file f (ids_to server epoch count)) ≡ true
      go (inl e) = (λ i. (first i && (e i || (f.epoch == epoch && nat_le f.counter 0))) || has_file f (ids_to server epoch count))
      go (inr e) =
          let two : (f.server == server && nat_lt 0 f.epoch) ≡ true = and_left _ _ first in
          let at : f.server ≡ server = eqb-true f.server server (and_left _ _ two) in
          let some : 0 < f.counter = leb-true 1 f.counter (and_right _ _ first) in
          or_right (is_drawn server epoch 0 f.server f.epoch f.counter) (has_file f (ids_to server epoch count))
          ((λ i. has_file (record { server = at i; epoch = eqb-true f.epoch epoch (and_left _ _ e) i; counter = f.counter }) (ids_to server epoch count))
          ∙ one_of_ids server epoch count f.counter some (leb-true f.counter count (and_right _ _ e)))

-- what was made in older epochs is told as drawn anyway
module _ (server epoch : ℕ) (f : FileId) where
  found_drawn : (early : List FileId) → AllByRecursion (λ (g : FileId). is_drawn server epoch 0 g.server g.epoch g.counter ≡ true) early → has_file f early ≡ true → is_drawn server epoch 0 f.server f.epoch f.counter ≡ true
  found_drawn [] old e = let wrong : false ≡ true = e in cc
  found_drawn (g ∷ gs) old e = go (same_file g f) refl e (found_drawn gs old.1)
    where
      go : (b : Bool) → same_file g f ≡ b → (b || has_file f gs) ≡ true → (has_file f gs ≡ true → is_drawn server epoch 0 f.server f.epoch f.counter ≡ true) → is_drawn server epoch 0 f.server f.epoch f.counter ≡ true
      go true is e rest = subst (λ (x : FileId). is_drawn server epoch 0 x.server x.epoch x.counter ≡ true) (same_file-true g f is) old.0
      go false is e rest = rest e

  pub early_drawn : (fs early : List FileId) → AllByRecursion (λ (g : FileId). is_drawn server epoch 0 g.server g.epoch g.counter ≡ true) early
      → (is_drawn server epoch 0 f.server f.epoch f.counter || has_file f (fs ++ early)) ≡ (is_drawn server epoch 0 f.server f.epoch f.counter || has_file f fs)
  early_drawn [] early old = go (is_drawn server epoch 0 f.server f.epoch f.counter) refl (has_file f early) refl
    where
      go : (b : Bool) → is_drawn server epoch 0 f.server f.epoch f.counter ≡ b → (c : Bool) → has_file f early ≡ c → (b || c) ≡ (b || false)
      go true e c is = refl
      go false e false is = refl
      go false e true is = let wrong : true ≡ false = sym (found_drawn early old is) ∙ e in cc
  early_drawn (g ∷ gs) early old = go (is_drawn server epoch 0 f.server f.epoch f.counter) (same_file g f) (early_drawn gs early old)
    where
      go : (b c : Bool) → (b || has_file f (gs ++ early)) ≡ (b || has_file f gs) → (b || (c || has_file f (gs ++ early))) ≡ (b || (c || has_file f gs))
      go true c h = refl
      go false true h = refl
      go false false h = h

module _ {V : Type 0} (a : Account) (held : Contents) (k : ServerState V) (f : FileId) where
  told_as : IsAs a held k → is_file_drawn (state_of a) f ≡ (is_drawn k.server k.epoch 0 f.server f.epoch f.counter || has_file f (ids_to k.server k.epoch k.given))
  told_as h =
      ap (λ (fs : List FileId). is_drawn a.holder.server a.ids.epoch 0 f.server f.epoch f.counter || has_file f fs) h.made.all
      ∙ early_drawn a.holder.server a.ids.epoch f (ids_to a.holder.server a.ids.epoch k.given) h.made.early h.made.old
      ∙ (λ i. is_drawn (h.server i) (h.epoch i) 0 f.server f.epoch f.counter || has_file f (ids_to (h.server i) (h.epoch i) k.given))

  -- an id that was never given was not drawn
  pub unknown_file : IsAs a held k → 0 < k.epoch → is_given k.server k.epoch k.given f ≡ false → is_file_drawn (state_of a) f ≡ false
  unknown_file h some none = go (is_file_drawn (state_of a) f) refl
    where
      go : (b : Bool) → is_file_drawn (state_of a) f ≡ b → b ≡ false
      go false e = refl
      go true e = let wrong : true ≡ false = sym (drawn_given k.server k.epoch k.given f some (sym (told_as h) ∙ e)) ∙ none in cc

  -- one that was given was drawn
  pub known_file : IsAs a held k → is_given k.server k.epoch k.given f ≡ true → is_file_drawn (state_of a) f ≡ true
  known_file h given = told_as h ∙ given_drawn k.server k.epoch k.given f given
