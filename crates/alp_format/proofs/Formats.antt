-- What formatting leaves, at each moment and at the end.
use Rattle.std.proofs.Common.{◌≡◌, inl, inr, ⊎_elim, ◌<◌, ◌≤◌, ◌+◌, ◌-◌, ◌*◌, ℕ, zero, suc, List, [], ◌∷◌, take, drop, slice_index, refl, sym, ap, ◌∙◌, arith}
use Rattle.std.specs.Prelude.{replicate}
use Rattle.std.proofs.lemmas.List.{take-replicate, drop-replicate}
use Rattle.std.specs.FinMap as map
use Rattle.alp_base.specs.Pages.{zero_page}
use Rattle.alp_base.specs.declared.faults.Sizes.{Sizes}
use Rattle.alp_disk.specs.Disk.{Image, page, SameBut}
use Rattle.alp_base.specs.Crashes.{Follows, After}
use Rattle.alp_disk.specs.Gates.{IsClosed}
use Rattle.alp_disk.specs.Runs.{SameOutside, Holds}
use Rattle.alp_anchor.specs.Anchor.{AreSizesOf, IsSound, open_anchor}
use Rattle.alp_anchor.specs.declared.anchor.Anchor.{Anchor}
use Rattle.alp_anchor.specs.Gate.{Opening}
use Rattle.alp_anchor.proofs.Anchors.{gate_of_open}
use Rattle.alp_wal.specs.State.{State}
use Rattle.alp_wal.specs.Reading.{pages_from, home_pages, home_first, area_first, ReadsBy}
use Rattle.alp_wal.specs.Wal.{shown, no_index, anchor_of, index_of, notes_of, state_of}
use Rattle.alp_wal.specs.declared.wal.Wal.{Wal}
use Rattle.alp_format.specs.Format.{blank_state, SameAreas, IsCleared, Formatting}
use Rattle.alp_wal.proofs.States.{shown_bare}

-- a page of a run of zeros
pub zeros_at : (n k : ℕ) → k < n → take 512 (drop (512 * k) (replicate (512 * n) 0)) ≡ zero_page
zeros_at n k low = ap (λ (l : List ℕ). take 512 l) (drop-replicate (512 * k) (512 * n) 0) ∙ take-replicate 512 (512 * n - 512 * k) 0 (omega (arith, low))

-- ---- what is touched

module _ (sizes : Sizes) where
  same_front : (m : ℕ) (a b : Image) → SameOutside 0 m a b → m ≤ 3 → SameAreas sizes a b
  same_front m a b same few q above below = same.behind q (omega (arith, above, few))

  pub front_after : (m : ℕ) (left : Image → Type 0) (c : Image) → After (SameOutside 0 m) left c → m ≤ 3 → After (SameAreas sizes) left c
  front_after m left c (d, was, same) few = (d, was, same_front m d c same few)

  pub both_after : (m : ℕ) (left mid : Image → Type 0) → Follows (SameOutside 0 m) left mid → m ≤ 3 → (c : Image) → After (SameOutside (2 + 2 * sizes.area) sizes.home) mid c → After (SameAreas sizes) left c
  both_after m left mid front few c (e, mid_left, same) =
      let before = front e mid_left in
      (before.0, before.1, λ q above below. same.before q below ∙ same_front m before.0 e before.2 few q above below)

  pub is_cleared : (n m : ℕ) (a b c : Image) → AreSizesOf n sizes → Holds 0 m (replicate (512 * m) 0) a b → Holds (2 + 2 * sizes.area) sizes.home (replicate (512 * sizes.home) 0) b c → 3 ≤ m → IsCleared sizes c
  is_cleared n m a b c ok front back enough = record {
    gates = λ q low. back.outside.before q (omega (arith, low, ok.least_area)) ∙ ap (λ (k : ℕ). page b k) (omega arith) ∙ front.each q (omega (arith, low, enough)) ∙ zeros_at m q (omega (arith, low, enough));
    home = λ k low. back.each k low ∙ zeros_at sizes.home k low;
  }

-- ---- a new volume

zeros_closed : (p : List ℕ) → p ≡ zero_page → IsClosed p
zeros_closed p zeros gate = let e : 0 ≡ 165 = sym (ap (λ (l : List ℕ). slice_index l 0) zeros) ∙ gate in omega (arith, e)

home_zeros : (c : Image) (first n : ℕ) → ((k : ℕ) → k < n → page c (first + k) ≡ zero_page) → pages_from c first n ≡ replicate n zero_page
home_zeros c first zero all = refl
home_zeros c first (suc n) all =
    let here : page c first ≡ zero_page = ap (λ (k : ℕ). page c k) (omega arith) ∙ all 0 (omega arith) in
    ap (λ (p : List ℕ). p ∷ pages_from c (first + 1) n) here
    ∙ ap (λ (l : Image). zero_page ∷ l) (home_zeros c (first + 1) n (λ k low. ap (λ (i : ℕ). page c i) (omega arith) ∙ all (k + 1) (omega (arith, low))))

module _ (n : ℕ) (a : Anchor) (sound : IsSound n a) (page_is : a.page ≡ 0) (area_is : a.area ≡ 0) (cleared : Image) (is : IsCleared a.sizes cleared) where
  pub new_volume : (c : Image) → SameBut 0 cleared c → page c 0 ≡ open_anchor a → ReadsBy n c a [] (blank_state a.sizes.home)
  new_volume c same whole =
      let second : page c (1 - a.page) ≡ zero_page = ap (λ (k : ℕ). page c (1 - k)) page_is ∙ same 1 (λ e. omega (arith, e)) ∙ is.gates 1 (omega arith) in
      let first : area_first a ≡ 2 = omega (arith, ap (λ (k : ℕ). k * a.sizes.area) area_is) in
      let header : page c (area_first a) ≡ zero_page = ap (λ (k : ℕ). page c k) first ∙ same 2 (λ e. omega (arith, e)) ∙ is.gates 2 (omega arith) in
      record {
        counts = record {
          is_open = record { bytes = ap (λ (k : ℕ). page c k) page_is ∙ whole; sound = sound };
          newest = λ b own. absurd (zeros_closed _ second (gate_of_open n _ b own.is_open));
        };
        records = record { stand = tt; ends = inr (zeros_closed _ header) };
        leads = ap (λ (l : Image). record { pages = l; notes = map.empty }) (home_zeros c (home_first a) a.sizes.home (λ k low. same (home_first a + k) (λ e. omega (arith, e)) ∙ is.home k low));
      }

  pub opening_leaves : (left : Image → Type 0) → After (SameAreas a.sizes) left cleared → (c : Image) → Opening 0 (open_anchor a) cleared c → Formatting a.server a.servers n a.sizes left c
  opening_leaves left (d, was, same) c opening = ⊎_elim
      (λ shut. inl (d, was, λ q above below. opening.others q (λ e. omega (arith, above, e)) ∙ same q above below))
      (λ whole. inr (record { anchor = a; bodies = []; server_is = refl; servers_is = refl; by = new_volume c opening.others whole }))
      opening.whole

-- what a log without images and notes holds
pub shows_blank : {D : Type 0} (n : ℕ) (w : Wal D) (image seen : Image) (a : Anchor) → seen ≡ image → anchor_of w ≡ a → index_of w ≡ no_index a.sizes.home → notes_of w ≡ map.empty → ReadsBy n image a [] (blank_state a.sizes.home)
    → state_of w seen ≡ blank_state a.sizes.home
shows_blank n w image seen a same anchor index notes by =
    let shows : shown (home_pages seen (anchor_of w)) (index_of w) ≡ shown (home_pages image a) (no_index a.sizes.home) = λ i. shown (home_pages (same i) (anchor i)) (index i) in
    let pages = shows ∙ shown_bare (home_pages image a) a.sizes.home in
    ◌∙◌ {A = State} (λ i. record { pages = pages i; notes = notes i }) by.leads
