-- The gate of a page, and the bytes behind it.
use Rattle.std.proofs.Common.{◌≡◌, ℕ, ◌+◌, List, [], ◌∷◌, ◌++◌, length, get_or, take, drop, slice_index, refl, sym, ◌∙◌, ap, arith}
use Rattle.std.proofs.lemmas.List.{get_or-take, drop_all, append-nil}
use Rattle.alp_base.specs.Pages.{overwritten}
use Rattle.alp_disk.specs.Disk.{Image, page, Torn}
use Rattle.alp_disk.specs.Gates.{IsClosed}

pub overwritten_gate : (p : List ℕ) (gate : ℕ) → overwritten p 0 (gate ∷ []) ≡ gate ∷ drop 1 p
overwritten_gate p gate = refl

pub overwritten_rest : (p rest : List ℕ) → length p ≡ 1 + length rest → overwritten p 1 rest ≡ take 1 p ++ rest
overwritten_rest p rest same = ap (λ (l : List ℕ). take 1 p ++ (rest ++ l)) (drop_all (1 + length rest) p (omega (arith, same))) ∙ ap (λ (l : List ℕ). take 1 p ++ l) (append-nil rest)

pub opened : (p : List ℕ) → slice_index p 0 ≡ 165 → p ≡ 165 ∷ drop 1 p
opened [] gate = absurd (omega (arith, gate))
opened (g ∷ rest) gate = ap (λ (k : ℕ). k ∷ rest) gate

-- a write behind the gate of a page leaves it closed
pub still_closed : (at n : ℕ) (old c : Image) → Torn at 1 n old c → IsClosed (page old at) → IsClosed (page c at)
still_closed at n old c torn closed one = closed (sym (get_or-take 1 (page old at) 0 0 (omega arith)) ∙ sym (ap (λ (l : List ℕ). get_or l 0 0) torn.before) ∙ get_or-take 1 (page c at) 0 0 (omega arith) ∙ one)
