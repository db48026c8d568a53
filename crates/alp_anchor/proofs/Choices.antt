-- The fields of an anchor page, and which page's anchor counts.
use Rattle.std.proofs.Common.{◌≡◌, ◌⊎◌, inl, inr, ⊎_elim, ℕ, ◌-◌, ◌<◌, ◌^◌, List, [], ◌∷◌, slice_index, take, refl, sym, ◌∙◌, ap, subst, arith, Option, Some, None, Result, Ok, Err}
use Rattle.std.specs.Prelude.{MatchOption, IfOk, IfErr}
use Rattle.std.specs.Int.{w16, w32, from_be_bytes}
use Rattle.std.proofs.lemmas.Nat.{from_be_bytes-to_be_bytes_4, from_be_bytes-to_be_bytes_2}
use Rattle.std.proofs.lemmas.Bool.{cases_eq}
use Rattle.alp_disk.specs.Disk.{Image, page}
use Rattle.alp_anchor.specs.Anchor.{open_anchor, after, IsSound, IsOpen, IsOwn, Counts}
use Rattle.alp_anchor.specs.Read.{Newer, Chosen, NoneChosen, WhyNot, IsHalted, ReadsAs, IsOf}
use Rattle.alp_anchor.specs.declared.anchor.Anchor.{Anchor}
use Rattle.alp_anchor.specs.declared.fault.AnchorFault.{AnchorFault}
use Rattle.alp_anchor.specs.declared.fault.AnchorFault.TheVariants.{Halted, NotAVolume, Damaged}
use Rattle.alp_anchor.proofs.Anchors.{same_generation}

abbrev at : List ℕ → ℕ → ℕ
at p i = slice_index p i

module _ (p : List ℕ) (b : Anchor) (n : ℕ) (is : IsOpen n p b) where
  pub generation_is : from_be_bytes w32 (at p 8 ∷ at p 9 ∷ at p 10 ∷ at p 11 ∷ []) ≡ b.generation
  unfolding open_anchor
  generation_is = ap (λ (l : List ℕ). from_be_bytes w32 (at l 8 ∷ at l 9 ∷ at l 10 ∷ at l 11 ∷ [])) is.bytes ∙ from_be_bytes-to_be_bytes_4 b.generation is.sound.generation

  pub area_pages_are : from_be_bytes w16 (at p 16 ∷ at p 17 ∷ []) ≡ b.sizes.area
  unfolding open_anchor
  area_pages_are = ap (λ (l : List ℕ). from_be_bytes w16 (at l 16 ∷ at l 17 ∷ [])) is.bytes ∙ from_be_bytes-to_be_bytes_2 b.sizes.area (omega (arith, is.sound.sizes.most_area))

  pub home_is : from_be_bytes w32 (at p 18 ∷ at p 19 ∷ at p 20 ∷ at p 21 ∷ []) ≡ b.sizes.home
  unfolding open_anchor
  home_is = ap (λ (l : List ℕ). from_be_bytes w32 (at l 18 ∷ at l 19 ∷ at l 20 ∷ at l 21 ∷ [])) is.bytes ∙ from_be_bytes-to_be_bytes_4 b.sizes.home (omega (arith, is.sound.sizes.most_home))

  pub bytes_are : (at p 12 ≡ b.area) × (at p 13 ≡ b.server) × (at p 14 ≡ b.servers)
  unfolding open_anchor
  bytes_are = (ap (λ (l : List ℕ). at l 12) is.bytes, ap (λ (l : List ℕ). at l 13) is.bytes, ap (λ (l : List ℕ). at l 14) is.bytes)

-- The page number is not written.
pub same_bytes : (a : Anchor) (k : ℕ) → open_anchor (record a { page = k }) ≡ open_anchor a
unfolding open_anchor
same_bytes a k = refl

-- a page names one server
pub same_names : (n : ℕ) (p : List ℕ) (a b : Anchor) → IsOpen n p a → IsOpen n p b → (a.server ≡ b.server) × (a.servers ≡ b.servers)
same_names n p a b is_a is_b =
    let of_a = bytes_are p a n is_a in
    let of_b = bytes_are p b n is_b in
    (sym of_a.1 ∙ of_b.1, sym of_a.2 ∙ of_b.2)

-- ---- which of two anchors counts

module _ (server servers n : ℕ) where
  -- what was found in a page
  abbrev pub FoundIn : ℕ → List ℕ → Option Anchor → Type 0
  FoundIn k p found = MatchOption found ((b : Anchor) → IsOwn server servers n p b → ⊥) (λ a. IsOwn server servers n p a × (a.page ≡ k))

  renamed : (p q : List ℕ) (a b : Anchor) → IsOwn server servers n p a → IsOwn a.server a.servers n q b → IsOwn server servers n q b
  renamed p q a b own is = record { is_open = is.is_open; server_is = is.server_is ∙ own.server_is; servers_is = is.servers_is ∙ own.servers_is }

  newer_counts : (k : ℕ) (image : Image) (a : Anchor) (other : Option Anchor) → IsOwn server servers n (page image k) a → a.page ≡ k → FoundIn (1 - k) (page image (1 - k)) other → Newer a other → Counts n image a
  newer_counts k image a None own at_k found newer = record {
    is_open = subst (λ j. IsOpen n (page image j) a) (sym at_k) own.is_open;
    newest = λ b is_b. absurd (found b (renamed _ _ a b own (subst (λ j. IsOwn a.server a.servers n (page image (1 - j)) b) at_k is_b)));
  }
  newer_counts k image a (Some c) own at_k found newer = record {
    is_open = subst (λ j. IsOpen n (page image j) a) (sym at_k) own.is_open;
    newest = λ b is_b. newer ∙ ap after (same_generation n _ c b found.0.is_open (subst (λ j. IsOpen n (page image (1 - j)) b) at_k is_b.is_open));
  }

  pub chosen_counts : (image : Image) (first second : Option Anchor) (a : Anchor) → FoundIn 0 (page image 0) first → FoundIn 1 (page image 1) second → Chosen first second a → Counts n image a
  chosen_counts image first second a found_0 found_1 (inl (is, newer)) = let f = subst (FoundIn 0 (page image 0)) is found_0 in newer_counts 0 image a second f.0 f.1 found_1 newer
  chosen_counts image first second a found_0 found_1 (inr (is, newer)) = let f = subst (FoundIn 1 (page image 1)) is found_1 in newer_counts 1 image a first f.0 f.1 found_0 newer

  pub chosen_own : (p q : List ℕ) (first second : Option Anchor) (a : Anchor) → FoundIn 0 p first → FoundIn 1 q second → Chosen first second a → IsOf server servers n a
  chosen_own p q first second a one two (inl (is, newer)) = let own = (subst (FoundIn 0 p) is one).0 in record { sound = own.is_open.sound; server_is = own.server_is; servers_is = own.servers_is }
  chosen_own p q first second a one two (inr (is, newer)) = let own = (subst (FoundIn 1 q) is two).0 in record { sound = own.is_open.sound; server_is = own.server_is; servers_is = own.servers_is }

  pub none_counts : (image : Image) (first second : Option Anchor) (found : List ℕ) (e : AnchorFault) → found ≡ take 24 (page image 0) → FoundIn 0 (page image 0) first → FoundIn 1 (page image 1) second → NoneChosen first second found e → WhyNot server servers n image e
  none_counts image None None found e front found_0 found_1 is = subst (WhyNot server servers n image) (sym is) (front, found_0, found_1)
  none_counts image (Some a) (Some b) found e front found_0 found_1 none =
      subst (WhyNot server servers n image) (sym none.0) (refl, record { first = a; second = b; first_is = found_0.0; second_is = found_1.0; not_before = none.1; not_after = none.2 })
  none_counts image None (Some b) found e front found_0 found_1 none = absurd none
  none_counts image (Some a) None found e front found_0 found_1 none = absurd none

pub found_as : (server servers k n m : ℕ) (p q : List ℕ) (found : Option Anchor) → m ≡ n → p ≡ q → FoundIn server servers m k p found → FoundIn server servers n k q found
found_as server servers k n m p q found size same is = subst (λ j. FoundIn server servers j k q found) size (subst (λ (r : List ℕ). FoundIn server servers m k r found) same is)

pub not_halted : (first second : Option Anchor) (found : List ℕ) (e : AnchorFault) → NoneChosen first second found e → (h : _) → e ≡ Halted h → ⊥
not_halted None None found e is h same = grind arith
not_halted (Some a) (Some b) found e none h same = grind arith
not_halted None (Some b) found e none h same = none
not_halted (Some a) None found e none h same = none

pub ok_map : {T E : Type 0} (r : Result T E) (P Q : T → Type 0) → ((a : T) → P a → Q a) → IfOk r P → IfOk r Q
ok_map (Ok a) P Q f h = f a h
ok_map (Err e) P Q f h = tt

pub err_map : {T E : Type 0} (r : Result T E) (P Q : E → Type 0) → ((e : E) → P e → Q e) → IfErr r P → IfErr r Q
err_map (Ok a) P Q f h = tt
err_map (Err e) P Q f h = f e h

-- ---- one anchor counts

same_page : (n : ℕ) (p : List ℕ) (a b : Anchor) → IsOpen n p a → IsOpen n p b → a.page ≡ b.page → a ≡ b
same_page n p a b is_a is_b page_is =
    let generation = sym (generation_is p a n is_a) ∙ generation_is p b n is_b in
    let area = sym (area_pages_are p a n is_a) ∙ area_pages_are p b n is_b in
    let home = sym (home_is p a n is_a) ∙ home_is p b n is_b in
    let of_a = bytes_are p a n is_a in
    let of_b = bytes_are p b n is_b in
    let used = sym of_a.0 ∙ of_b.0 in
    let names = same_names n p a b is_a is_b in
    λ i. record { page = page_is i; generation = generation i; area = used i; server = names.0 i; servers = names.1 i; sizes = record { home = home i; area = area i } }

-- two generations are not each the other's successor
no_cycle : (g h : ℕ) → g < 2 ^ 32 → h < 2 ^ 32 → g ≡ after h → h ≡ after g → ⊥
no_cycle g h small_g small_h one two = omega (arith, small_g, small_h, one, two)

pub counts_once : (n : ℕ) (image : Image) (a b : Anchor) → Counts n image a → Counts n image b → a.server ≡ b.server → a.servers ≡ b.servers → a ≡ b
counts_once n image a b is_a is_b server servers = elim (cases_eq a.page b.page) [
  | inl same ↦ same_page n (page image a.page) a b is_a.is_open (subst (λ k. IsOpen n (page image k) b) (sym same) is_b.is_open) same
  | inr other ↦
      let b_there : b.page ≡ 1 - a.page = omega (arith, other, is_a.is_open.sound.page, is_b.is_open.sound.page) in
      let a_there : a.page ≡ 1 - b.page = omega (arith, other, is_a.is_open.sound.page, is_b.is_open.sound.page) in
      let a_newer = is_a.newest b (record { is_open = subst (λ k. IsOpen n (page image k) b) b_there is_b.is_open; server_is = sym server; servers_is = sym servers }) in
      let b_newer = is_b.newest a (record { is_open = subst (λ k. IsOpen n (page image k) a) a_there is_a.is_open; server_is = server; servers_is = servers }) in
      absurd (no_cycle a.generation b.generation is_a.is_open.sound.generation is_b.is_open.sound.generation a_newer b_newer)
]

-- ---- an anchor that counts is read

module _ (server servers n : ℕ) (image : Image) (a : Anchor) (counts : Counts n image a) (server_is : a.server ≡ server) (servers_is : a.servers ≡ servers) where
  own_at : (k : ℕ) → a.page ≡ k → IsOwn server servers n (page image k) a
  own_at k at_k = subst (λ j. IsOwn server servers n (page image j) a) at_k (record { is_open = counts.is_open; server_is = server_is; servers_is = servers_is })

  newer_than : (k : ℕ) (b : Anchor) → 1 - a.page ≡ k → IsOwn server servers n (page image k) b → a.generation ≡ after b.generation
  newer_than k b other is = counts.newest b (subst (λ j. IsOwn a.server a.servers n (page image j) b) (sym other) (record { is_open = is.is_open; server_is = is.server_is ∙ sym server_is; servers_is = is.servers_is ∙ sym servers_is }))

  -- the pages of two anchors
  first_or_second : (a.page ≡ 0) ⊎ (a.page ≡ 1)
  first_or_second = elim (cases_eq a.page 0) [
    | inl first ↦ inl first
    | inr other ↦ inr (omega (arith, other, counts.is_open.sound.page))
  ]

  no_cause : (e : AnchorFault) → WhyNot server servers n image e → IsHalted e
  no_cause (Halted halt) why = tt
  no_cause (NotAVolume found) why = ⊎_elim (λ first. why.1 a (own_at 0 first)) (λ second. why.2 a (own_at 1 second)) first_or_second
  no_cause (Damaged place) why =
      let d = why.1 in
      ⊎_elim
      (λ first. d.not_before (sym (same_generation n _ a d.first (own_at 0 first).is_open d.first_is.is_open) ∙ newer_than 1 d.second (ap (λ k. 1 - k) first) d.second_is))
      (λ second. d.not_after (sym (same_generation n _ a d.second (own_at 1 second).is_open d.second_is.is_open) ∙ newer_than 0 d.first (ap (λ k. 1 - k) second) d.first_is))
      first_or_second

  pub reads_as : (r : Result Anchor AnchorFault) → IfOk r (Counts n image) → IfOk r (IsOf server servers n) → IfErr r (WhyNot server servers n image) → ReadsAs a r
  reads_as (Ok b) is own why = counts_once n image b a is counts (own.server_is ∙ sym server_is) (own.servers_is ∙ sym servers_is)
  reads_as (Err e) is own why = no_cause e why
