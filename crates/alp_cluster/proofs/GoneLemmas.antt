-- calls on a vault that may fail, one after the other, and what ended them
use Rattle.std.specs.Prelude.{IsTrue, Result, Ok, Err, min}
use Rattle.std.specs.Result.{IsErr, IsErrAnd}
use Rattle.std.proofs.Common.{◌≡◌, ℕ, ◌+◌, ◌-◌, ◌^◌, ◌≤◌, refl, sym, ◌∙◌, ap, subst, arith}
use Rattle.alp_base.specs.Causes.{Rose}
use Rattle.alp_base.specs.Allowances.{Spends}
use Rattle.alp_base.specs.Faults.{HasFaultCause, IsOfVolume}
use Rattle.alp_base.specs.declared.faults.VaultFault.{VaultFault}
use Rattle.alp_base.specs.declared.faults.VaultFault.TheVariants as vault_fault
use Rattle.alp_base.specs.declared.allowance.Allowance.{Allowance}
use Rattle.alp_base.specs.declared.allowance.Allowance.TheVariants.{Free, Left, Spent}
use Rattle.alp_node.specs.declared.start.StartFault.TheVariants as start_fault
use Rattle.alp_vault.specs.declared.vault.Vault.{Ghosts}
use Rattle.alp_cluster.specs.Fills.{OnEnd, OnEndBy}
use Rattle.alp_cluster.specs.Servers.{HasGoneBy, HasGone, IsFailure, IsToldFault, AreCountedIn}
use Rattle.alp_cluster.specs.declared.fault.RunFault.{RunFault}
use Rattle.alp_cluster.specs.declared.fault.RunFault.TheVariants as fault

pub stays_free : (a b : Allowance) → Spends a b → a ≡ Free → b ≡ Free
stays_free Free b h e = h
stays_free (Left k) b h e = cc
stays_free Spent b h e = cc

-- a vault that nobody stops gave no answer, though memory was there: its device failed
pub fault_rose : (before now : ℕ) (allowance : Allowance) (f : VaultFault) → HasFaultCause before now allowance f → IsOfVolume f → allowance ≡ Free → (f ≡ vault_fault.OutOfMemory → ⊥) → Rose before now
fault_rose before now allowance vault_fault.Failed h volume free other = h.failed refl
fault_rose before now allowance vault_fault.Stopped h volume free other = let wrong : Free ≡ Spent = sym free ∙ h.stopped refl in cc
fault_rose before now allowance vault_fault.OutOfMemory h volume free other = absurd (other refl)
fault_rose before now allowance (vault_fault.NotAVolume found) h volume free other = absurd volume
fault_rose before now allowance (vault_fault.Damaged place) h volume free other = absurd volume

-- a fault that is handed on
pub handed_on : {U : Type 0} (f : RunFault) (r : Result U RunFault) → IsErr r → IsErrAnd r (λ e. e ≡ f) → r ≡ Err f
handed_on f (Ok x) is same = cc
handed_on f (Err e) is same = ap Err same

-- a count that rose later rose since before too
rose_since : (a b c : ℕ) → a ≤ b → Rose b c → Rose a c
rose_since a b c up rose = (let wide : min (a + 1) (2 ^ 64 - 1) ≤ min (b + 1) (2 ^ 64 - 1) = omega (arith, up) in omega (arith, wide, rose))

failure_since : {T : Type 0} (N : ℕ → Type 0) (here : ℕ) (a b c : ℕ) (r : Result T RunFault) → a ≤ b → IsFailure N here r b c → IsFailure N here r a c
failure_since N here a b c (Ok x) up h = tt
failure_since N here a b c (Err (fault.DiskFault server)) up h = (h.0, λ is. rose_since a b c up (h.1 is))
failure_since N here a b c (Err fault.OutOfMemory) up h = tt
failure_since N here a b c (Err fault.JournalFull) up h = tt
failure_since N here a b c (Err (fault.Start server (start_fault.Vault vault_fault.Failed))) up h = (h.0, λ is. rose_since a b c up (h.1 is))
failure_since N here a b c (Err (fault.Start server (start_fault.Vault vault_fault.Stopped))) up h = h
failure_since N here a b c (Err (fault.Start server (start_fault.Vault vault_fault.OutOfMemory))) up h = h
failure_since N here a b c (Err (fault.Start server (start_fault.Vault (vault_fault.NotAVolume found)))) up h = h
failure_since N here a b c (Err (fault.Start server (start_fault.Vault (vault_fault.Damaged place)))) up h = h
failure_since N here a b c (Err (fault.Start server start_fault.BadNote)) up h = h
failure_since N here a b c (Err (fault.Start server start_fault.EpochEnd)) up h = h

failure_of : (T U : Type 0) (N : ℕ → Type 0) (here a b : ℕ) (f : RunFault) → IsFailure {T = T} N here (Err f) a b → IsFailure {T = U} N here (Err f) a b
failure_of T U N here a b (fault.DiskFault server) h = h
failure_of T U N here a b fault.OutOfMemory h = tt
failure_of T U N here a b fault.JournalFull h = tt
failure_of T U N here a b (fault.Start server f) h = h

-- one that may be named may be named among more
failure_among : {T : Type 0} (N M : ℕ → Type 0) (here a b : ℕ) (r : Result T RunFault) → ((n : ℕ) → N n → M n) → IsFailure N here r a b → IsFailure M here r a b
failure_among N M here a b (Ok x) make h = tt
failure_among N M here a b (Err (fault.DiskFault server)) make h = (make server h.0, h.1)
failure_among N M here a b (Err fault.OutOfMemory) make h = tt
failure_among N M here a b (Err fault.JournalFull) make h = tt
failure_among N M here a b (Err (fault.Start server f)) make h = (make server h.0, h.1)

told_of : (T U : Type 0) (here : ℕ) (f : RunFault) → IsToldFault {T = T} here (Err f) → IsToldFault {T = U} here (Err f)
told_of T U here (fault.DiskFault server) h = tt
told_of T U here fault.OutOfMemory h = tt
told_of T U here fault.JournalFull h = tt
told_of T U here (fault.Start server f) h = h

module _ {V : Type 0} (G : Ghosts V) (N : ℕ → Type 0) where
  -- nothing was done
  pub gone_nothing : {T : Type 0} (P : Type 0) (v : V) (r : Result T RunFault) → IsFailure N (G.server v) r (G.faults v) (G.faults v) → IsToldFault (G.server v) r → AreCountedIn (G.server v) r (G.faults v) (G.faults v) → HasGoneBy G N P v v r
  gone_nothing P v r failed told counted = record { same = record { telling = refl; sizes = refl; number = refl; of_all = refl }; later = omega arith; failed = failed; told = λ e. told; free = λ p e. e; counted = λ p e. counted }

  -- one call went well, and then the next came to this
  pub gone_then : {T U : Type 0} (P Q R : Type 0) (u v w : V) (x : T) (r : Result U RunFault) → (R → P) → (R → Q) → HasGoneBy {T = T} G N P u v (Ok x) → HasGoneBy G N Q v w r → HasGoneBy G N R u w r
  gone_then {T = T} {U = U} P Q R u v w x r first second h k = record {
    same = record { telling = k.same.telling ∙ h.same.telling; sizes = k.same.sizes ∙ h.same.sizes; number = k.same.number ∙ h.same.number; of_all = k.same.of_all ∙ h.same.of_all };
    later = omega (arith, h.later, k.later);
    failed = failure_since N (G.server u) (G.faults u) (G.faults v) (G.faults w) r h.later (subst (λ (n : ℕ). IsFailure N n r (G.faults v) (G.faults w)) h.same.number k.failed);
    told = λ e. subst (λ (n : ℕ). IsToldFault n r) h.same.number (k.told (subst IsTrue (sym h.same.telling) e));
    free = λ p e. k.free (second p) (h.free (first p) e);
    counted = λ p e. subst (λ (n : ℕ). AreCountedIn (G.server u) r n (G.faults w)) (h.counted (first p) e) (subst (λ (n : ℕ). AreCountedIn n r (G.faults v) (G.faults w)) h.same.number (k.counted (second p) (h.free (first p) e)));
  }

  pub gone_both : {T U : Type 0} (P : Type 0) (u v w : V) (x : T) (r : Result U RunFault) → HasGoneBy {T = T} G N P u v (Ok x) → HasGoneBy G N P v w r → HasGoneBy G N P u w r
  gone_both P u v w x r h k = gone_then P P P u v w x r (λ p. p) (λ p. p) h k

  -- a call came to this, and what is made of it is no other fault
  pub gone_err : {T U : Type 0} (P : Type 0) (u v : V) (f : RunFault) → HasGoneBy {T = T} G N P u v (Err f) → HasGoneBy {T = U} G N P u v (Err f)
  gone_err {T = T} {U = U} P u v f h = record { same = h.same; later = h.later; failed = failure_of T U N (G.server u) (G.faults u) (G.faults v) f h.failed; told = λ e. told_of T U (G.server u) f (h.told e); free = h.free; counted = h.counted }

  pub gone_ok : {T U : Type 0} (P : Type 0) (u v : V) (x : T) (y : U) → HasGoneBy {T = T} G N P u v (Ok x) → HasGoneBy {T = U} G N P u v (Ok y)
  gone_ok P u v x y h = record { same = h.same; later = h.later; failed = tt; told = λ e. tt; free = h.free; counted = h.counted }

  -- it went well, and then memory was wanting
  pub gone_memory : {T U : Type 0} (P : Type 0) (u v : V) (x : T) → HasGoneBy {T = T} G N P u v (Ok x) → HasGoneBy {T = U} G N P u v (Err fault.OutOfMemory)
  gone_memory P u v x h = record { same = h.same; later = h.later; failed = tt; told = λ e. tt; free = h.free; counted = h.counted }

  -- what holds where more is given holds where that is
  pub gone_where : {T : Type 0} (P Q : Type 0) (u v : V) (r : Result T RunFault) → (Q → P) → HasGoneBy G N P u v r → HasGoneBy G N Q u v r
  gone_where P Q u v r make h = record { same = h.same; later = h.later; failed = h.failed; told = h.told; free = λ p e. h.free (make p) e; counted = λ p e. h.counted (make p) e }

  -- the fault of a call is handed on
  pub gone_handed : {T U : Type 0} (P : Type 0) (u v : V) (f : RunFault) (r : Result U RunFault) → HasGoneBy {T = T} G N P u v (Err f) → r ≡ Err f → HasGoneBy {T = U} G N P u v r
  gone_handed {U = U} P u v f r h is = subst (λ (q : Result U RunFault). HasGoneBy {T = U} G N P u v q) (sym is) (gone_err P u v f h)

  -- one call went well, and the fault of the next is handed on
  pub gone_on : {T U W : Type 0} (P : Type 0) (u v w : V) (x : T) (f : RunFault) (r : Result W RunFault) → HasGoneBy {T = T} G N P u v (Ok x) → HasGoneBy {T = U} G N P v w (Err f) → r ≡ Err f → HasGoneBy {T = W} G N P u w r
  gone_on {W = W} P u v w x f r h k is = subst (λ (q : Result W RunFault). HasGoneBy {T = W} G N P u w q) (sym is) (gone_both P u v w x (Err f) h (gone_err P v w f k))

pub gone_among : {V T : Type 0} (G : Ghosts V) (N M : ℕ → Type 0) (P : Type 0) (u v : V) (r : Result T RunFault) → ((n : ℕ) → N n → M n) → HasGoneBy G N P u v r → HasGoneBy G M P u v r
gone_among G N M P u v r make h = record { same = h.same; later = h.later; failed = failure_among N M (G.server u) (G.faults u) (G.faults v) r make h.failed; told = h.told; free = h.free; counted = h.counted }

-- ---- of one server alone

module _ {V : Type 0} (G : Ghosts V) where
  pub one_nothing : {T : Type 0} (P : Type 0) (v : V) (r : Result T RunFault) → IsFailure (λ m. m ≡ G.server v) (G.server v) r (G.faults v) (G.faults v) → IsToldFault (G.server v) r → AreCountedIn (G.server v) r (G.faults v) (G.faults v) → HasGone G P v v r
  one_nothing P v r failed told counted = gone_nothing G (λ m. m ≡ G.server v) P v r failed told counted

  pub one_ok : {T U : Type 0} (P : Type 0) (u v : V) (x : T) (y : U) → HasGone {T = T} G P u v (Ok x) → HasGone {T = U} G P u v (Ok y)
  one_ok P u v x y h = gone_ok G (λ m. m ≡ G.server u) P u v x y h

  pub one_memory : {T U : Type 0} (P : Type 0) (u v : V) (x : T) → HasGone {T = T} G P u v (Ok x) → HasGone {T = U} G P u v (Err fault.OutOfMemory)
  one_memory {T} {U} P u v x h = gone_memory G (λ m. m ≡ G.server u) {T = T} {U = U} P u v x h

  pub one_err : {T U : Type 0} (P : Type 0) (u v : V) (f : RunFault) → HasGone {T = T} G P u v (Err f) → HasGone {T = U} G P u v (Err f)
  one_err {T} {U} P u v f h = gone_err G (λ m. m ≡ G.server u) P u v f h

  pub one_handed : {T U : Type 0} (P : Type 0) (u v : V) (f : RunFault) (r : Result U RunFault) → HasGone {T = T} G P u v (Err f) → r ≡ Err f → HasGone {T = U} G P u v r
  one_handed {T} {U} P u v f r h is = gone_handed G (λ m. m ≡ G.server u) P u v f r h is

-- ---- the fault that ended a call

end_by_map : (f : RunFault) (P Q : RunFault → Type 0) → ((g : RunFault) → P g → Q g) → OnEndBy f P → OnEndBy f Q
end_by_map (fault.DiskFault server) P Q make h = make (fault.DiskFault server) h
end_by_map fault.OutOfMemory P Q make h = make fault.OutOfMemory h
end_by_map fault.JournalFull P Q make h = make fault.JournalFull h
end_by_map (fault.Start server f) P Q make h = make (fault.Start server f) h

pub end_map : {T : Type 0} (r : Result T RunFault) (P Q : RunFault → Type 0) → ((g : RunFault) → P g → Q g) → OnEnd r P → OnEnd r Q
end_map (Ok x) P Q make h = tt
end_map (Err f) P Q make h = end_by_map f P Q make h

-- a fault that is handed on is the same
pub end_on : {U : Type 0} (f : RunFault) (r : Result U RunFault) (P Q : RunFault → Type 0) → r ≡ Err f → ((g : RunFault) → P g → Q g) → OnEndBy f P → OnEnd {T = U} r Q
end_on {U = U} f r P Q is make h = subst (λ (q : Result U RunFault). OnEnd {T = U} q Q) (sym is) (end_by_map f P Q make h)

-- what holds of a fault holds where it ended the call
end_by_any : (e : RunFault) (P : RunFault → Type 0) → P e → OnEndBy e P
end_by_any (fault.DiskFault server) P h = h
end_by_any fault.OutOfMemory P h = h
end_by_any fault.JournalFull P h = h
end_by_any (fault.Start server f) P h = h

pub end_any : {T : Type 0} (e : RunFault) (r : Result T RunFault) (P : RunFault → Type 0) → r ≡ Err e → P e → OnEnd r P
end_any {T = T} e r P is h = subst (λ (q : Result T RunFault). OnEnd q P) (sym is) (end_by_any e P h)
