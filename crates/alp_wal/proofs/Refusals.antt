-- Why a disk is not mounted: never of one with a reading, and damage in one place.
use Rattle.std.proofs.Common.{◌≡◌, inl, inr, ◌⊎◌, ℕ, List, [], ◌∷◌, refl, sym, ◌∙◌, ap, subst, arith}
use Rattle.std.specs.Prelude.{Err}
use Rattle.alp_base.specs.declared.faults.VaultFault.{VaultFault}
use Rattle.alp_base.specs.declared.faults.VaultFault.TheVariants.{Failed, Stopped, OutOfMemory, NotAVolume, Damaged}
use Rattle.alp_disk.specs.Disk.{Image}
use Rattle.alp_anchor.specs.declared.anchor.Anchor.{Anchor}
use Rattle.alp_anchor.specs.declared.fault.AnchorFault.TheVariants as anchor
use Rattle.alp_anchor.specs.Anchor.{Counts}
use Rattle.alp_anchor.specs.Read.{Disagree}
use Rattle.alp_anchor.proofs.Choices.{counts_once, reads_as}
use Rattle.alp_batch.specs.declared.batch.Batch.{Batch}
use Rattle.alp_record.specs.Record.{RecordAt, Stand, behind, next_of, IsEnd, IsDamaged}
use Rattle.alp_record.proofs.Readings.{body_once, no_end}
use Rattle.alp_wal.specs.State.{State, applied}
use Rattle.alp_wal.specs.Reading.{Applies, Leads, area_first, area_end, bare, Reads}
use Rattle.alp_wal.specs.Mount.{IsBad, AppliesNot, IsOfDisk, WhyNotMounted}
use Rattle.alp_wal.proofs.Readings.{batch_once}

module _ (image : Image) (generation end home : ℕ) where
  -- why no record applies at a place
  abbrev Why : ℕ → State → Type 0
  Why at state = IsDamaged image generation end at ⊎ ((body : List ℕ) × RecordAt image generation end at body × AppliesNot home state body)

  -- where the records end nothing is bad
  not_at_end : (at : ℕ) (state : State) → IsEnd image end at → Why at state → ⊥
  not_at_end at state (inl past) (inl damaged) = omega (arith, past, damaged.inside)
  not_at_end at state (inr closed) (inl damaged) = closed damaged.open_gate
  not_at_end at state ends (inr (body, here, never)) = no_end image generation end at body here ends

  -- nor is a record that applies
  not_applied : (at : ℕ) (state : State) (body : List ℕ) (b : Batch) → RecordAt image generation end at body → Applies home state body b → Why at state → ⊥
  not_applied at state body b here applies (inl damaged) = damaged.none body here
  not_applied at state body b here applies (inr (other, there, never)) = never b (subst (λ (l : List ℕ). Applies home state l b) (body_once image generation end at body other here there) applies)

  -- bodies that lead on from one state at one place
  both : (at : ℕ) (x y : List ℕ) (first : State) (b c : Batch) → RecordAt image generation end at x → RecordAt image generation end at y → Applies home first x b → Applies home first y c → (x ≡ y) × (b ≡ c)
  both at x y first b c here there is_x is_y =
      let same = body_once image generation end at x y here there in
      (same, batch_once b c is_x.fits is_y.fits (sym is_x.spelled ∙ same ∙ is_y.spelled))

  read_not_bad : (at : ℕ) (xs ys : List (List ℕ)) (first state last : State) → Stand image generation end at xs → Stand image generation end at ys → IsEnd image end (behind at ys)
      → Leads home first xs state → Leads home first ys last → Why (behind at xs) state → ⊥
  read_not_bad at [] [] first state last stand_x stand_y ends is last_is why = not_at_end at state ends why
  read_not_bad at [] (y ∷ ys) first state last stand_x stand_y ends is leads why = not_applied at state y leads.0 stand_y.0 (subst (λ (s : State). Applies home s y leads.0) is leads.1) why
  read_not_bad at (x ∷ xs) [] first state last stand_x stand_y ends leads last_is why = no_end image generation end at x stand_x.0 ends
  read_not_bad at (x ∷ xs) (y ∷ ys) first state last stand_x stand_y ends lead_x lead_y why =
      let same = both at x y first lead_x.0 lead_y.0 stand_x.0 stand_y.0 lead_x.1 lead_y.1 in
      read_not_bad (next_of at x) xs ys (applied first lead_x.0) state last stand_x.1 (subst (λ (l : List ℕ). Stand image generation end (next_of at l) ys) (sym same.0) stand_y.1)
      (subst (λ (l : List ℕ). IsEnd image end (behind (next_of at l) ys)) (sym same.0) ends) lead_x.2 (subst (λ (b : Batch). Leads home (applied first b) ys last) (sym same.1) lead_y.2) why

  bad_once : (at : ℕ) (xs ys : List (List ℕ)) (first s t : State) → Stand image generation end at xs → Stand image generation end at ys → Leads home first xs s → Leads home first ys t → Why (behind at xs) s → Why (behind at ys) t
      → behind at xs ≡ behind at ys
  bad_once at [] [] first s t stand_x stand_y is_s is_t why_x why_y = refl
  bad_once at [] (y ∷ ys) first s t stand_x stand_y is_s leads why_x why_y = absurd (not_applied at s y leads.0 stand_y.0 (subst (λ (u : State). Applies home u y leads.0) is_s leads.1) why_x)
  bad_once at (x ∷ xs) [] first s t stand_x stand_y leads is_t why_x why_y = absurd (not_applied at t x leads.0 stand_x.0 (subst (λ (u : State). Applies home u x leads.0) is_t leads.1) why_y)
  bad_once at (x ∷ xs) (y ∷ ys) first s t stand_x stand_y lead_x lead_y why_x why_y =
      let same = both at x y first lead_x.0 lead_y.0 stand_x.0 stand_y.0 lead_x.1 lead_y.1 in
      let rest = bad_once (next_of at x) xs ys (applied first lead_x.0) s t stand_x.1 (subst (λ (l : List ℕ). Stand image generation end (next_of at l) ys) (sym same.0) stand_y.1) lead_x.2
      (subst (λ (b : Batch). Leads home (applied first b) ys t) (sym same.1) lead_y.2) why_x (subst (λ (l : List ℕ). Why (behind (next_of at l) ys) t) (sym same.0) why_y) in
      rest ∙ ap (λ (l : List ℕ). behind (next_of at l) ys) same.0

-- what is bad under an anchor
bad_in_one_place : (image : Image) (a : Anchor) (p q : ℕ) → IsBad image a p → IsBad image a q → p ≡ q
bad_in_one_place image a p q one two =
    let x = one.before in
    let y = two.before in
    sym x.here
    ∙ bad_once image a.generation (area_end a) a.sizes.home (area_first a) x.bodies y.bodies (bare image a) one.state two.state x.stand y.stand x.leads y.leads
    (subst (λ k. Why image a.generation (area_end a) a.sizes.home k one.state) (sym x.here) one.why) (subst (λ k. Why image a.generation (area_end a) a.sizes.home k two.state) (sym y.here) two.why)
    ∙ y.here

module _ (server servers n : ℕ) (image : Image) where
  -- anchors that count do not disagree
  not_disagree : (a : Anchor) → Counts n image a → a.server ≡ server → a.servers ≡ servers → Disagree server servers n image → ⊥
  not_disagree a counts s ss disagree = reads_as server servers n image a counts s ss (Err (anchor.Damaged 1)) tt tt (refl, disagree)

  pub read_is_mounted : (state : State) (fault : VaultFault) → Reads server servers n image state → IsOfDisk fault → WhyNotMounted server servers n image fault → ⊥
  read_is_mounted state (NotAVolume found) r own why = reads_as server servers n image r.anchor r.by.counts r.server_is r.servers_is (Err (anchor.NotAVolume found)) tt tt why
  read_is_mounted state (Damaged place) r own (inl (one, disagree)) = not_disagree r.anchor r.by.counts r.server_is r.servers_is disagree
  read_is_mounted state (Damaged place) r own (inr (a, counts, s, ss, bad)) =
      let same : a ≡ r.anchor = counts_once n image a r.anchor counts r.by.counts (s ∙ sym r.server_is) (ss ∙ sym r.servers_is) in
      let b = subst (λ (x : Anchor). IsBad image x place) same bad in
      let x = b.before in
      let c = r.anchor in
      read_not_bad image c.generation (area_end c) c.sizes.home (area_first c) x.bodies r.bodies (bare image c) b.state state x.stand r.by.records.stand r.by.records.ends x.leads r.by.leads
      (subst (λ k. Why image c.generation (area_end c) c.sizes.home k b.state) (sym x.here) b.why)
  read_is_mounted state Failed r own why = own
  read_is_mounted state Stopped r own why = own
  read_is_mounted state OutOfMemory r own why = own

  pub no_volume_is_not_damaged : (found : List ℕ) (p : ℕ) → WhyNotMounted server servers n image (NotAVolume found) → WhyNotMounted server servers n image (Damaged p) → ⊥
  no_volume_is_not_damaged found p none (inl one) = none.1 one.1.first one.1.first_is
  no_volume_is_not_damaged found p none (inr (a, counts, s, ss, bad)) = reads_as server servers n image a counts s ss (Err (anchor.NotAVolume found)) tt tt none

  pub damage_is_in_one_place : (p q : ℕ) → WhyNotMounted server servers n image (Damaged p) → WhyNotMounted server servers n image (Damaged q) → p ≡ q
  damage_is_in_one_place p q (inl one) (inl two) = one.0 ∙ sym two.0
  damage_is_in_one_place p q (inl one) (inr (a, counts, s, ss, bad)) = absurd (not_disagree a counts s ss one.1)
  damage_is_in_one_place p q (inr (a, counts, s, ss, bad)) (inl two) = absurd (not_disagree a counts s ss two.1)
  damage_is_in_one_place p q (inr (a, counts_a, sa, ssa, bad_a)) (inr (b, counts_b, sb, ssb, bad_b)) =
      let same : b ≡ a = counts_once n image b a counts_b counts_a (sb ∙ sym sa) (ssb ∙ sym ssa) in
      bad_in_one_place image a p q bad_a (subst (λ (x : Anchor). IsBad image x q) same bad_b)
