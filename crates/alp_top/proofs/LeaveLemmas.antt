-- disks that are given back one after the other, the last one first
use Rattle.std.specs.Prelude.{Bool, IsTrue, Option, Some}
use Rattle.std.proofs.Common.{◌≡◌, ℕ, suc, ◌+◌, ◌≤◌, List, [], ◌∷◌, ◌++◌, length, length-append, append_assoc, append-nil, refl, sym, ◌∙◌, ap, subst, arith}
use Rattle.alp_disk.specs.declared.disk.Disk.{Ghosts}
use Rattle.alp_vault.specs.declared.vault.Vault.{Ghosts as VaultGhosts}
use Rattle.alp_course.specs.Courses.{IsOneOf}
use Rattle.alp_cluster.specs.Station.{HasVault}
use Rattle.alp_cluster.specs.declared.station.Station.{Station}
use Rattle.alp_top.specs.Disks.{IsGivenAt, IsHeld, AreHeld, IsServerRight, IsLeftAt, AreLeftBy}
use Rattle.alp_top.specs.Pairs.{ArePaired}
use Rattle.alp_top.proofs.PairLemmas.{paired_map}

-- the last one of several
pub held_last : {V : Type 0} (G : VaultGhosts V) (tells : Bool) (ss : List (Station V)) (s : Station V) → AreHeld G tells (ss ++ s ∷ []) → AreHeld G tells ss × IsHeld G tells s
held_last G tells [] s h = (tt, h.0)
held_last G tells (x ∷ ss) s h = (let (more, last) = held_last G tells ss s h.1 in ((h.0, more), last))

-- these places were changed
abbrev pub IsBetween : (low high n : ℕ) → Type 0
IsBetween low high n = (low ≤ n) × (n ≤ high)

-- those behind the ones that are left are given back
pub record Leaving {V D : Type 0} (G : VaultGhosts V) (g : Ghosts D) (tells : Bool) (all left : List (Station V)) (before now : ℕ → Option D) : Type 0 where
  pub done : List (Station V)
  pub are : all ≡ left ++ done
  pub disks : List D
  pub each : ArePaired (IsLeftAt G g tells now) (length left + 1) done disks
  pub same : IsTrue tells → (n : ℕ) → (IsBetween (length left + 1) (length all) n → ⊥) → now n ≡ before n
  pub held : AreHeld G tells left

module _ {V D : Type 0} (G : VaultGhosts V) (g : Ghosts D) (tells : Bool) (all : List (Station V)) (before : ℕ → Option D) where
  pub leaving_none : AreHeld G tells all → Leaving G g tells all all before before
  leaving_none held = record { done = []; are = sym (append-nil all); disks = []; each = tt; same = λ told n out. refl; held = held }

  pub leaving_more : (left rest : List (Station V)) (s : Station V) (v : V) (now after : ℕ → Option D) → Leaving G g tells all left before now → left ≡ rest ++ s ∷ [] → HasVault s.server v → IsServerRight G s.server → IsGivenAt G g tells now after (length rest + 1) v
      → Leaving G g tells all rest before after
  leaving_more left rest s v now after h is has known given =
      let long : length left ≡ length rest + 1 = ap (λ (xs : List (Station V)). length xs) is ∙ length-append rest (s ∷ []) in
      record {
        done = s ∷ h.done;
        are = h.are ∙ ap (λ (xs : List (Station V)). xs ++ h.done) is ∙ append_assoc rest (s ∷ []) h.done;
        disks = given.device ∷ h.disks;
        each = (
          record { vault = v; its = has; known = known; back = given.back; there = λ told. (given.filled told).here },
          paired_map (IsLeftAt G g tells now) (IsLeftAt G g tells after) (length rest + 1 + 1) h.done h.disks
              (λ m x d low one. record { vault = one.vault; its = one.its; known = one.known; back = one.back; there = λ told. (given.filled told).others m (λ same. omega (arith, low, same)) ∙ one.there told })
              (subst (λ (m : ℕ). ArePaired (IsLeftAt G g tells now) m h.done h.disks) (ap (λ (m : ℕ). m + 1) long) h.each),
        );
        same = λ told n out.
            (given.filled told).others n (λ same. out (let most : length left ≤ length all = many_left left h.done h.are in (omega (arith, same), omega (arith, same, long, most))))
            ∙ h.same told n (λ in_them. (let low : length left + 1 ≤ n = in_them.0 in out (omega (arith, low, long), in_them.1)));
        held = (held_last G tells rest s (subst (AreHeld G tells) is h.held)).0;
      }
    where
      many_left : (left done : List (Station V)) → all ≡ left ++ done → length left ≤ length all
      many_left left done are = (let sum : length all ≡ length left + length done = ap (λ (xs : List (Station V)). length xs) are ∙ length-append left done in omega (arith, sum))

  pub all_left : (left : List (Station V)) (now : ℕ → Option D) → Leaving G g tells all left before now → left ≡ [] → AreLeftBy G g tells all before now
  all_left left now h none =
      let whole : h.done ≡ all = sym (h.are ∙ ap (λ (xs : List (Station V)). xs ++ h.done) none) in
      let zero_is : length left ≡ 0 = ap (λ (xs : List (Station V)). length xs) none in
      record {
        disks = h.disks;
        each =
            subst (λ (xs : List (Station V)). ArePaired (IsLeftAt G g tells now) 1 xs h.disks) whole
            (subst (λ (m : ℕ). ArePaired (IsLeftAt G g tells now) m h.done h.disks) (ap (λ (m : ℕ). m + 1) zero_is) h.each);
        others = λ told n out. h.same told n (λ in_them. out (record { first = (let low : length left + 1 ≤ n = in_them.0 in omega (arith, low)); last = in_them.1 }));
      }
