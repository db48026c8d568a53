-- ids that were drawn in older epochs
use Rattle.std.specs.Prelude.{Bool, true, false, ◌==◌, ◌&&◌, ◌||◌, nat_lt, nat_le}
use Rattle.std.specs.List.{AllByRecursion}
use Rattle.std.proofs.Common.{◌≡◌, ℕ, zero, suc, ◌+◌, ◌<◌, ◌≤◌, List, ◌++◌, refl, sym, ap, subst, arith, eq-eqb}
use Rattle.std.proofs.lemmas.Bool.{lt-ltb, ltb-true, leb-true, eqb-true}
use Rattle.alp_base.proofs.NameLemmas.{and_left, and_right}
use Rattle.alp_base.specs.declared.ids.FileId.{FileId}
use Rattle.alp_base.specs.declared.ids.TransId.{TransId}
use Rattle.alp_locks.proofs.SoundLemmas.{each-more}
use Rattle.alp_journal.specs.Ids.{is_drawn}
use Rattle.alp_journal.specs.Coordinator.{Fate, Undrawn, Running, Finishing, Committed, Forgotten, Ended}
use Rattle.alp_journal.specs.Account.{IsFateOf as IsToldFate}
use Rattle.alp_journal.proofs.IdLemmas.{all-append}
use Rattle.alp_node.specs.ServerState.{AreMade, ids_to}

-- ---- ids of older epochs

ids_drawn : (server epoch n : ℕ) → 0 < epoch → AllByRecursion (λ (f : FileId). is_drawn server (epoch + 1) 0 f.server f.epoch f.counter ≡ true) (ids_to server epoch n)
ids_drawn server epoch zero some = tt
ids_drawn server epoch (suc n) some = (
  (λ i. eq-eqb server server refl i && lt-ltb 0 epoch some i && lt-ltb 0 (suc n) (omega arith) i && (lt-ltb epoch (epoch + 1) (omega arith) i || (epoch == epoch + 1 && nat_le (suc n) 0))),
  ids_drawn server epoch n some,
)

older_drawn : (server epoch : ℕ) (f : FileId) → is_drawn server epoch 0 f.server f.epoch f.counter ≡ true → is_drawn server (epoch + 1) 0 f.server f.epoch f.counter ≡ true
older_drawn server epoch f h =
    let low : f.epoch < epoch + 1 = near (nat_lt f.epoch epoch) refl (and_right (f.server == server && nat_lt 0 f.epoch && nat_lt 0 f.counter) (nat_lt f.epoch epoch || (f.epoch == epoch && nat_le f.counter 0)) h) in
    λ i. and_left (f.server == server && nat_lt 0 f.epoch && nat_lt 0 f.counter) (nat_lt f.epoch epoch || (f.epoch == epoch && nat_le f.counter 0)) h i && (lt-ltb f.epoch (epoch + 1) low i || (f.epoch == epoch + 1 && nat_le f.counter 0))
  where
    near : (b : Bool) → nat_lt f.epoch epoch ≡ b → (b || (f.epoch == epoch && nat_le f.counter 0)) ≡ true → f.epoch < epoch + 1
    near true e h = (let less : f.epoch < epoch = ltb-true f.epoch epoch e in omega (arith, less))
    near false e h = (let same : f.epoch ≡ epoch = eqb-true f.epoch epoch (and_left (f.epoch == epoch) (nat_le f.counter 0) h) in omega (arith, same))

pub made_again : (server epoch n : ℕ) (made : List FileId) → 0 < epoch → AreMade server epoch n made → AreMade server (epoch + 1) 0 made
made_again server epoch n made some h = record {
  early = made;
  old = subst (AllByRecursion (λ (f : FileId). is_drawn server (epoch + 1) 0 f.server f.epoch f.counter ≡ true)) (sym h.all)
      (all-append (λ (f : FileId). is_drawn server (epoch + 1) 0 f.server f.epoch f.counter ≡ true) (ids_to server epoch n) h.early (ids_drawn server epoch n some)
      (each-more (λ (f : FileId). is_drawn server epoch 0 f.server f.epoch f.counter ≡ true) (λ (f : FileId). is_drawn server (epoch + 1) 0 f.server f.epoch f.counter ≡ true) (older_drawn server epoch) h.early h.old));
  all = refl;
}

-- in the epoch that begins none was drawn
pub none_drawn : (server epoch : ℕ) (t : TransId) → t.epoch ≡ epoch → is_drawn server epoch 0 t.server t.epoch t.counter ≡ true → ⊥
none_drawn server epoch t now e = go (nat_lt t.epoch epoch) refl (and_right (t.server == server && nat_lt 0 t.epoch && nat_lt 0 t.counter) (nat_lt t.epoch epoch || (t.epoch == epoch && nat_le t.counter 0)) e)
  where
    some : 0 < t.counter
    some = ltb-true 0 t.counter (and_right (t.server == server && nat_lt 0 t.epoch) (nat_lt 0 t.counter) (and_left (t.server == server && nat_lt 0 t.epoch && nat_lt 0 t.counter) (nat_lt t.epoch epoch || (t.epoch == epoch && nat_le t.counter 0)) e))

    go : (b : Bool) → nat_lt t.epoch epoch ≡ b → (b || (t.epoch == epoch && nat_le t.counter 0)) ≡ true → ⊥
    go true f h = (let less : t.epoch < epoch = ltb-true t.epoch epoch f in absurd (omega (arith, less, now)))
    go false f h = (let low : t.counter ≤ 0 = leb-true t.counter 0 (and_right (t.epoch == epoch) (nat_le t.counter 0) h) in absurd (omega (arith, low, some)))

pub unsaid : (servers server epoch : ℕ) (begun : List TransId) (t : TransId) (f : Fate) → t.epoch ≡ epoch → IsToldFate servers server epoch 0 begun t f → f ≡ Undrawn
unsaid servers server epoch begun t Undrawn now h = refl
unsaid servers server epoch begun t (Running c js) now h = absurd (none_drawn server epoch t now h.0.0)
unsaid servers server epoch begun t (Finishing c js vs) now h = absurd (none_drawn server epoch t now h.0.0)
unsaid servers server epoch begun t (Committed stamp js ds) now h = absurd (none_drawn server epoch t now h.0.0)
unsaid servers server epoch begun t (Forgotten stamp js) now h = absurd (none_drawn server epoch t now h.0.0)
unsaid servers server epoch begun t (Ended c) now h = absurd (none_drawn server epoch t now h.0)
