-- the ids that were given to files, by the count of them
use Rattle.std.specs.Prelude.{Bool, true, false, ◌||◌, Option, None, Some}
use Rattle.std.specs.List.{AllByRecursion}
use Rattle.std.specs.Option.{option_to_list}
use Rattle.std.proofs.Common.{◌≡◌, ℕ, ◌+◌, ◌<◌, ◌≤◌, List, [], ◌∷◌, ◌++◌, length, refl, ap, arith, inl, inr, ◌⊎◌}
use Rattle.alp_base.specs.declared.ids.FileId.{FileId}
use Rattle.alp_base.specs.declared.ids.TransId.{TransId}
use Rattle.alp_files.specs.Cells.{same_file, has_file}
use Rattle.alp_files.specs.Act.{id_in}
use Rattle.alp_files.specs.History.{PerformedCall}
use Rattle.alp_files.proofs.SameLemmas.{same_file-true}
use Rattle.alp_journal.specs.Deeds.{Deed, Begins, Joins, Enters, Quits, Aborts, Grants, Performs, Releases, Readies, Applies, Registers, Finishes, Hears, Decides, Ends, Acknowledges, Forgets, Restarts}
use Rattle.alp_journal.specs.Holder.{Holder, Life, holder_after, commits, grants, performs, readies}
use Rattle.alp_journal.specs.State.{Ids, ids_after}

pub all-map : {X : Type 0} (P Q : X → Type 0) → ((x : X) → P x → Q x) → (xs : List X) → AllByRecursion P xs → AllByRecursion Q xs
all-map P Q f [] h = tt
all-map P Q f (x ∷ xs) h = (f x h.0, all-map P Q f xs h.1)

-- in an earlier epoch, or in this one with a number that was reached
abbrev pub WasMade : Ids → FileId → Type 0
WasMade s f = (f.epoch < s.epoch) ⊎ ((f.epoch ≡ s.epoch) × (f.counter ≤ s.files))

pub was-after : (d : Deed) (s : Ids) (f : FileId) → ((epoch clock : ℕ) → d ≡ Restarts epoch clock → s.epoch < epoch) → WasMade s f → WasMade (ids_after s d) f
was-after (Performs t x) s f up w = elim w [ inl l ↦ inl l | inr l ↦ inr (l.0, (let b : f.counter ≤ s.files = l.1 in omega (arith, b))) ]
was-after (Restarts epoch clock) s f up w =
    let u : s.epoch < epoch = up epoch clock refl in elim w [ inl l ↦ inl (omega (arith, l, u)) | inr l ↦ (let e : f.epoch ≡ s.epoch = l.0 in inl (omega (arith, e, u))) ]
was-after (Begins t c w n) s f up h = h
was-after (Joins j t c w) s f up h = h
was-after d s f up h = h

pub made-fresh : (s : Ids) (f : FileId) (made : List FileId) → f.epoch ≡ s.epoch → f.counter ≡ s.files + 1 → AllByRecursion (WasMade s) made → has_file f made ≡ false
made-fresh s f [] e c h = refl
made-fresh s f (g ∷ gs) e c h = go (same_file g f) refl (made-fresh s f gs e c h.1)
  where
    no : g ≡ f → WasMade s g → ⊥
    no same w =
        let a : g.epoch ≡ f.epoch = ap (λ x. x.epoch) same in
        let b : g.counter ≡ f.counter = ap (λ x. x.counter) same in
        elim w [ inl l ↦ omega (arith, l, a, e) | inr l ↦ (let m : g.counter ≤ s.files = l.1 in omega (arith, m, b, c)) ]

    go : (b : Bool) → same_file g f ≡ b → has_file f gs ≡ false → (b || has_file f gs) ≡ false
    go true is rest = absurd (no (same_file-true g f is) h.0)
    go false is rest = rest

-- the ids that were made are below the count, a new one too
pub made-after : (s : Ids) (h : Holder) (d : Deed) → ((epoch clock : ℕ) → d ≡ Restarts epoch clock → s.epoch < epoch)
    → ((t : TransId) (x : PerformedCall) → d ≡ Performs t x → (f : FileId) → id_in x.reply ≡ Some f → (f.epoch ≡ s.epoch) × (f.counter ≡ s.files + 1))
    → AllByRecursion (WasMade s) h.made → AllByRecursion (WasMade (ids_after s d)) (holder_after h d).made
made-after s h d up new g = go d refl (all-map (WasMade s) (WasMade (ids_after s d)) (λ f. was-after d s f up) h.made g)
  where
    ids : (x : PerformedCall) → ((f : FileId) → id_in x.reply ≡ Some f → (f.epoch ≡ s.epoch) × (f.counter ≡ s.files + 1)) → (o : Option FileId) → id_in x.reply ≡ o → (made : List FileId)
        → AllByRecursion (WasMade (record s { files = s.files + length (option_to_list o) })) made → AllByRecursion (WasMade (record s { files = s.files + length (option_to_list o) })) (option_to_list o ++ made)
    ids x n None e made k = k
    ids x n (Some f) e made k = (let is = n f e in let c : f.counter ≡ s.files + 1 = is.1 in inr (is.0, omega (arith, c)), k)

    go : (c : Deed) → d ≡ c → AllByRecursion (WasMade (ids_after s c)) h.made → AllByRecursion (WasMade (ids_after s c)) (holder_after h c).made
    go (Performs t x) e k = one (h.lives t)
      where
        one : (l : Option Life) → AllByRecursion (WasMade (ids_after s (Performs t x))) (performs h t x l).made
        one None = k
        one (Some l) = ids x (new t x e) (id_in x.reply) refl h.made k
    go (Grants t c) e k = one (h.lives t)
      where
        one : (l : Option Life) → AllByRecursion (WasMade s) (grants h t c l).made
        one None = k
        one (Some l) = k
    go (Readies j t ts) e k = one (h.lives t)
      where
        one : (l : Option Life) → AllByRecursion (WasMade s) (readies h t ts l).made
        one None = k
        one (Some l) = k
    go (Decides x js) e k = one (h.lives x.trans)
      where
        one : (l : Option Life) → AllByRecursion (WasMade s) (commits h x l).made
        one None = k
        one (Some l) = k
    go (Applies j x) e k = one (h.lives x.trans)
      where
        one : (l : Option Life) → AllByRecursion (WasMade s) (commits h x l).made
        one None = k
        one (Some l) = k
    go (Begins t c w n) e k = k
    go (Joins j t c w) e k = k
    go (Enters j t c w) e k = k
    go (Quits j t c w) e k = k
    go (Aborts j t c w) e k = k
    go (Releases t) e k = k
    go (Registers t j) e k = k
    go (Finishes t) e k = k
    go (Hears t j ts) e k = k
    go (Ends t c w) e k = k
    go (Acknowledges t j) e k = k
    go (Forgets t) e k = k
    go (Restarts n w) e k = k
