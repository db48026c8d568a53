-- files that are to come: those of later epochs of a server, and those of this one beyond the count
use Rattle.std.specs.Prelude.{cond, Bool, true, false, None, Some}
use Rattle.std.specs.Ordering.{eq_by_cmp}
use Rattle.std.proofs.lemmas.Map.Views.{tells_apart}
use Rattle.std.proofs.Common.{◌≡◌, ◌⊎◌, inl, inr, ⊎_elim, ℕ, ◌+◌, ◌<◌, ◌≤◌, List, [], ◌∷◌, refl, sym, ap, subst, arith}
use Rattle.alp_base.specs.declared.ids.FileId.{FileId}
use Rattle.alp_base.specs.declared.key.Key.{Key}
use Rattle.alp_base.specs.declared.key.Key.TheVariants.{Leader, PageOf, OwnerOf}
use Rattle.alp_base.specs.Keys.{key_cmp}
use Rattle.alp_base.specs.KeyLaws.{exact_keys}
use Rattle.alp_files.specs.Act.{Own, Answer, refused, unless, no_answer, create_tests, created_file, is_new, owner_of, answer}
use Rattle.alp_files.specs.Born.{IsUnborn, count_after}
use Rattle.alp_files.specs.Cells.{View}
use Rattle.alp_files.specs.Edits.{edits_at, after}
use Rattle.alp_files.specs.declared.call.Call.{Call}
use Rattle.alp_files.specs.declared.call.Call.TheVariants as call
use Rattle.alp_base.specs.declared.cell.Cell.{Cell}
use Rattle.alp_base.specs.declared.cell.Cell.TheVariants as cell
use Rattle.alp_base.specs.declared.cell.Props.{Props}
use Rattle.alp_files.specs.declared.refusal.Refusal.{Refusal}
use Rattle.alp_files.specs.declared.reply.Reply.{Reply}
use Rattle.alp_files.specs.declared.reply.Reply.TheVariants as reply
use Rattle.alp_files.proofs.BornLemmas.{unborn_kept}
use Rattle.alp_calls.specs.Parts.{GivesOnly}
use Rattle.alp_node.specs.ServerState.{IsToCome, SeesNoneToCome}

-- the next one is to come
pub next_to_come : (server epoch count : ℕ) → IsToCome server epoch count (record { server = server; epoch = epoch; counter = count + 1 })
next_to_come server epoch count = (refl, inr (refl, omega arith))

-- what is to come past a greater count was before
pub comes_later : (server epoch m n : ℕ) (f : FileId) → m ≤ n → IsToCome server epoch n f → IsToCome server epoch m f
comes_later server epoch m n f le comes = (comes.0, ⊎_elim (λ later. inl later) (λ now. inr (now.0, higher now.1)) comes.1)
  where
    higher : n < f.counter → m < f.counter
    higher high = omega (arith, le, high)

-- and what is to come in the next epoch is to come in this one
pub comes_after : (server epoch count : ℕ) (f : FileId) → IsToCome server (epoch + 1) 0 f → IsToCome server epoch count f
comes_after server epoch count f comes = (comes.0, ⊎_elim (λ later. inl (past later.0, later.1)) (λ now. inl (next now.0, now.1)) comes.1)
  where
    past : epoch + 1 < f.epoch → epoch < f.epoch
    past high = omega (arith, high)

    next : f.epoch ≡ epoch + 1 → epoch < f.epoch
    next at = omega (arith, at)

-- ---- what a call puts

epoch_in : Key → ℕ
epoch_in (Leader f) = f.epoch
epoch_in (PageOf f n) = 0
epoch_in (OwnerOf name) = 0

module _ (server epoch count late : ℕ) (later : epoch < late) (made : List FileId) (m : View) (who : List ℕ) (own : Own) (h : IsUnborn server late m 0) where
  none_unless : (ts : List (Bool × Refusal)) (a : Answer) → IsUnborn server late (after a.edits m) 0 → IsUnborn server late (after (unless own ts a).edits m) 0
  none_unless [] a k = k
  none_unless (t ∷ ts) a k = elim (t.0) as (λ b. IsUnborn server late (after (cond b (refused own t.1) (unless own ts a)).edits m) 0) [ true ↦ h | false ↦ none_unless ts a k ]

  -- the file that is made is of this epoch
  none_created : (start : Props) (f : FileId) → f.epoch ≡ epoch → IsUnborn server late (after (created_file own start (owner_of (m (OwnerOf start.owner))) f).edits m) 0
  unfolding epoch_in
  none_created start f at n high =
      let q : Key = Leader (record { server = server; epoch = late; counter = n }) in
      let c : Cell = cell.Leader (record start { byte_length = 0; high_water = 0 }) in
      let go : (b : Bool) → eq_by_cmp key_cmp q (Leader f) ≡ b → cond b (Some c) (m q) ≡ None = λ b. elim b as (λ x. eq_by_cmp key_cmp q (Leader f) ≡ x → cond x (Some c) (m q) ≡ None) [
        | true ↦ λ e. (let same : late ≡ f.epoch = ap epoch_in (tells_apart exact_keys q (Leader f) e) in absurd (omega (arith, same, at, later)))
        | false ↦ λ e. h n high
      ] in
      go (eq_by_cmp key_cmp q (Leader f)) refl

  none_made : (start : Props) (f : FileId) → f.epoch ≡ epoch
      → IsUnborn server late (after (unless own (create_tests who start (m (OwnerOf start.owner))) (cond (is_new server made f (m (Leader f))) (created_file own start (owner_of (m (OwnerOf start.owner))) f) (no_answer own))).edits m) 0
  none_made start f at =
      none_unless (create_tests who start (m (OwnerOf start.owner))) (cond (is_new server made f (m (Leader f))) (created_file own start (owner_of (m (OwnerOf start.owner))) f) (no_answer own))
      (elim (is_new server made f (m (Leader f))) as (λ b. IsUnborn server late (after (cond b (created_file own start (owner_of (m (OwnerOf start.owner))) f) (no_answer own)).edits m) 0) [
        | true ↦ none_created start f at
        | false ↦ h
      ])

  -- a reply that gives no id
  by_other : (c : Call) (r : Reply) → ((f : FileId) (n : ℕ) → r ≡ reply.Created f n → ⊥) → count_after 0 r ≡ 0 → IsUnborn server late (after (answer server made m who own c r).edits m) 0
  by_other c r none same = subst (IsUnborn server late (after (answer server made m who own c r).edits m)) same (unborn_kept server late 0 made m who own c r h (λ f n is. absurd (none f n is)))

  by_plain : (c : Call) → IsUnborn server late (after (answer server made m who own c reply.Plain).edits m) 0
  by_plain c = by_other c reply.Plain (λ f n is. cc) refl

  -- no file of a later epoch is seen behind a call
  none_later : (c : Call) (r : Reply) → GivesOnly (record { server = server; epoch = epoch; counter = count + 1 }) r → IsUnborn server late (after (answer server made m who own c r).edits m) 0
  none_later (call.CreateFile t start choice) (reply.Created f n) only = none_made start f (ap (λ (g : FileId). g.epoch) (only f n refl))
  none_later (call.CreateFile t start choice) (reply.Welcome e) only = by_plain (call.CreateFile t start choice)
  none_later (call.CreateFile t start choice) (reply.Begun u) only = by_plain (call.CreateFile t start choice)
  none_later (call.CreateFile t start choice) reply.Joined only = by_plain (call.CreateFile t start choice)
  none_later (call.CreateFile t start choice) (reply.Opened n) only = by_plain (call.CreateFile t start choice)
  none_later (call.CreateFile t start choice) reply.Plain only = by_plain (call.CreateFile t start choice)
  none_later (call.CreateFile t start choice) (reply.Pages ps) only = by_plain (call.CreateFile t start choice)
  none_later (call.CreateFile t start choice) (reply.Props p) only = by_plain (call.CreateFile t start choice)
  none_later (call.CreateFile t start choice) (reply.Owner o) only = by_plain (call.CreateFile t start choice)
  none_later (call.CreateFile t start choice) (reply.Committed x) only = by_plain (call.CreateFile t start choice)
  none_later (call.CreateFile t start choice) (reply.Ended e) only = by_plain (call.CreateFile t start choice)
  none_later (call.CreateFile t start choice) (reply.Refused f) only = by_plain (call.CreateFile t start choice)
  none_later (call.OpenFile t f access mode choice) r only = by_plain (call.OpenFile t f access mode choice)
  none_later (call.CloseFile t n) r only = by_plain (call.CloseFile t n)
  none_later (call.DeleteFile t n choice) r only = by_plain (call.DeleteFile t n choice)
  none_later (call.ReadPages t n run mode choice) r only = by_plain (call.ReadPages t n run mode choice)
  none_later (call.WritePages t n run pages choice) r only = by_plain (call.WritePages t n run pages choice)
  none_later (call.LockPages t n run mode choice) r only = by_plain (call.LockPages t n run mode choice)
  none_later (call.SetSize t n size choice) r only = by_plain (call.SetSize t n size choice)
  none_later (call.ReadProps t n) r only = by_plain (call.ReadProps t n)
  none_later (call.WriteProps t n change choice) r only = by_plain (call.WriteProps t n change choice)
  none_later (call.ReadOwner t name choice) r only = by_plain (call.ReadOwner t name choice)
  none_later (call.MakeOwner t name quota create choice) r only = by_plain (call.MakeOwner t name quota create choice)
  none_later (call.SetQuota t name quota choice) r only = by_plain (call.SetQuota t name quota choice)
  none_later (call.Hello name) r only = by_plain (call.Hello name)
  none_later (call.Begin seen) r only = by_plain (call.Begin seen)
  none_later (call.Join t) r only = by_plain (call.Join t)
  none_later (call.Finish t commit) r only = by_plain (call.Finish t commit)
  none_later (call.Outcome t) r only = by_plain (call.Outcome t)
  none_later (call.Collect n) r only = by_plain (call.Collect n)

-- after a call no file is seen that is to come then
pub to_come_kept : (server epoch count : ℕ) (made : List FileId) (m : View) (who : List ℕ) (own : Own) (c : Call) (r : Reply)
    → SeesNoneToCome server epoch count m → GivesOnly (record { server = server; epoch = epoch; counter = count + 1 }) r
    → (f : FileId) → IsToCome server epoch (count_after count r) f → edits_at (answer server made m who own c r).edits (Leader f) (m (Leader f)) ≡ None
to_come_kept server epoch count made m who own c r none only f comes = go comes.1
  where
    here : f.server ≡ server
    here = comes.0

    go : ((epoch < f.epoch) × (0 < f.counter)) ⊎ ((f.epoch ≡ epoch) × (count_after count r < f.counter)) → edits_at (answer server made m who own c r).edits (Leader f) (m (Leader f)) ≡ None
    go (inl later) =
        let same : record { server = server; epoch = f.epoch; counter = f.counter } ≡ f = λ i. record { server = sym here i; epoch = f.epoch; counter = f.counter } in
        subst (λ (g : FileId). edits_at (answer server made m who own c r).edits (Leader g) (m (Leader g)) ≡ None) same
        (none_later server epoch count f.epoch later.0 made m who own (λ n high. none (record { server = server; epoch = f.epoch; counter = n }) (refl, inl (later.0, high))) c r only f.counter later.1)
    go (inr now) =
        let same : record { server = server; epoch = epoch; counter = f.counter } ≡ f = λ i. record { server = sym here i; epoch = sym (now.0) i; counter = f.counter } in
        subst (λ (g : FileId). edits_at (answer server made m who own c r).edits (Leader g) (m (Leader g)) ≡ None) same
        (unborn_kept server epoch count made m who own c r (λ n high. none (record { server = server; epoch = epoch; counter = n }) (refl, inr (refl, high))) only f.counter now.1)
