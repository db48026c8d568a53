-- The bytes of an anchor page, and which anchor counts after a crash.
use Rattle.std.proofs.Common.{◌≡◌, ◌≢◌, inl, inr, ⊎_elim, ℕ, ◌-◌, List, [], ◌∷◌, get_or, take, drop, slice_index, refl, sym, ◌∙◌, ap, subst, arith}
use Rattle.std.specs.Int.{w16, w32, to_be_bytes, from_be_bytes}
use Rattle.std.proofs.lemmas.Nat.{from_be_bytes-to_be_bytes_4}
use Rattle.alp_base.specs.Pages.{page_of}
use Rattle.alp_disk.specs.Disk.{Image, page, SameBut}
use Rattle.alp_anchor.specs.Gate.{Closing, Opening, Opened}
use Rattle.alp_anchor.specs.Anchor.{open_anchor, after, IsSound, IsOpen, Counts, next_anchor, Switching, Switched}
use Rattle.alp_anchor.specs.declared.anchor.Anchor.{Anchor}
use Rattle.alp_disk.proofs.GateLemmas.{opened}

pub anchor_bytes : (anchor : Anchor) (g a h : List ℕ) → g ≡ to_be_bytes w32 anchor.generation → a ≡ to_be_bytes w16 anchor.sizes.area → h ≡ to_be_bytes w32 anchor.sizes.home
    → page_of (165 ∷ 65 ∷ 76 ∷ 80 ∷ 73 ∷ 78 ∷ 69 ∷ 49 ∷ get_or g 0 0 ∷ get_or g 1 0 ∷ get_or g 2 0 ∷ get_or g 3 0 ∷ anchor.area ∷ anchor.server ∷ anchor.servers ∷ 0 ∷ get_or a 0 0 ∷ get_or a 1 0 ∷ get_or h 0 0 ∷ get_or h 1 0 ∷ get_or h 2 0 ∷ get_or h 3 0 ∷ []) ≡ open_anchor anchor
unfolding open_anchor
anchor_bytes anchor g a h g_is a_is h_is = λ i. page_of (165 ∷ 65 ∷ 76 ∷ 80 ∷ 73 ∷ 78 ∷ 69 ∷ 49 ∷ get_or (g_is i) 0 0 ∷ get_or (g_is i) 1 0 ∷ get_or (g_is i) 2 0 ∷ get_or (g_is i) 3 0 ∷ anchor.area ∷ anchor.server ∷ anchor.servers ∷ 0 ∷ get_or (a_is i) 0 0 ∷ get_or (a_is i) 1 0 ∷ get_or (h_is i) 0 0 ∷ get_or (h_is i) 1 0 ∷ get_or (h_is i) 2 0 ∷ get_or (h_is i) 3 0 ∷ [])

pub open_anchor_gate : (a : Anchor) → slice_index (open_anchor a) 0 ≡ 165
unfolding open_anchor
open_anchor_gate a = refl

pub gate_of_open : (n : ℕ) (p : List ℕ) (a : Anchor) → IsOpen n p a → slice_index p 0 ≡ 165
gate_of_open n p a is = ap (λ (l : List ℕ). slice_index l 0) is.bytes ∙ open_anchor_gate a

-- a page spells one generation
pub same_generation : (n : ℕ) (p : List ℕ) (a b : Anchor) → IsOpen n p a → IsOpen n p b → a.generation ≡ b.generation
unfolding open_anchor
same_generation n p a b is_a is_b =
    let bytes : to_be_bytes w32 a.generation ≡ to_be_bytes w32 b.generation = ap (λ (l : List ℕ). take 4 (drop 8 l)) (sym is_a.bytes ∙ is_b.bytes) in
    sym (from_be_bytes-to_be_bytes_4 a.generation is_a.sound.generation) ∙ ap (from_be_bytes w32) bytes ∙ from_be_bytes-to_be_bytes_4 b.generation is_b.sound.generation

-- ---- a switch from an old anchor, which counts in each outcome

module _ (n : ℕ) (old : Anchor) (area : ℕ) (sound : IsSound n old) (other_area : area ≡ 1 - old.area) (may_leave : Image → Type 0) (seen : Image) (counts : (c : Image) → may_leave c → Counts n c old) (as_read : may_leave seen) where
  abbrev other : ℕ
  other = 1 - old.page

  apart : old.page ≢ other
  apart same = omega (arith, same, sound.page)

  back : 1 - other ≡ old.page
  back = omega (arith, sound.page)

  next_sound : IsSound n (next_anchor old area)
  next_sound = record {
    page = omega arith;
    area = omega (arith, other_area);
    generation = omega arith;
    sizes = sound.sizes;
  }

  still_open : (c : Image) → SameBut other seen c → IsOpen n (page c old.page) old
  still_open c same = let was = counts seen as_read in record { bytes = same old.page apart ∙ was.is_open.bytes; sound = sound }

  pub closing_crash : (c : Image) → Closing other may_leave seen c → Switching n old area may_leave seen c
  closing_crash c (inl before) = inl (counts c before, (c, before, λ q ne. refl))
  closing_crash c (inr torn) = inl (
    record {
      is_open = still_open c torn.1.others;
      newest = λ b is. (counts seen as_read).newest b (record {
        is_open = record { bytes = was_same (gate_of_open n _ b is.is_open) ∙ is.is_open.bytes; sound = is.is_open.sound };
        server_is = is.server_is;
        servers_is = is.servers_is;
      });
    },
    (seen, as_read, torn.1.others),
  )
    where
      was_same : slice_index (page c other) 0 ≡ 165 → page seen other ≡ page c other
      was_same gate = opened _ torn.0 ∙ ap (λ (l : List ℕ). 165 ∷ l) (sym torn.1.after) ∙ sym (opened _ gate)

  new_counts : (c : Image) → SameBut other seen c → page c other ≡ open_anchor (next_anchor old area) → Counts n c (next_anchor old area)
  new_counts c others whole = record {
    is_open = record { bytes = whole; sound = next_sound };
    newest = λ b is. ap after (same_generation n _ old b (still_open c others) (subst (λ k. IsOpen n (page c k) b) back is.is_open));
  }

  pub opening_crash : (closed : Image) (c : Image) → SameBut other seen closed → Opening other (open_anchor (next_anchor old area)) closed c → Switching n old area may_leave seen c
  opening_crash closed c same opening = ⊎_elim
      (λ shut. inl (record { is_open = still_open c others; newest = λ b is. absurd (shut (gate_of_open n _ b is.is_open)) }, (seen, as_read, others)))
      (λ whole. inr (new_counts c others whole, others))
      opening.whole
    where
      others : SameBut other seen c
      others q ne = opening.others q ne ∙ same q ne

  pub is_switched : (closed new : Image) (left : Image → Type 0) → SameBut other seen closed → Opened other (open_anchor (next_anchor old area)) closed new left → Switched n old area seen new left
  is_switched closed new left same opened =
      let others : SameBut other seen new = λ q ne. opened.others q ne ∙ same q ne in
      record { counts = new_counts new others opened.whole; others = others; durable = opened.durable }
