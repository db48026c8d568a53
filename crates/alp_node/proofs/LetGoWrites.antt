-- behind the one write of an event the part lets go, and others are granted: what the vault has stands, and so do the notes
use Rattle.std.specs.Prelude.{cond, Bool, true, false, flat_map, Option, None, Some}
use Rattle.std.specs.List.{list_any, AllByRecursion}
use Rattle.std.proofs.Common.{◌≡◌, ℕ, ◌+◌, ◌≤◌, List, [], ◌∷◌, ◌++◌, suc, length, refl, sym, ◌∙◌, ap, subst, arith}
use Rattle.alp_base.specs.Notes.{Notes}
use Rattle.alp_base.specs.declared.ids.TransId.{TransId}
use Rattle.alp_journal.specs.declared.act.Act.{Act}
use Rattle.alp_journal.specs.declared.event.Event.{Event}
use Rattle.alp_journal.specs.declared.entry.Entry.{Entry}
use Rattle.alp_journal.specs.Account.{Account, state_of, grant_acts, sent_acts}
use Rattle.alp_journal.specs.Along.{Along, state_after}
use Rattle.alp_journal.specs.Deeds.{Deed, Releases}
use Rattle.alp_journal.specs.Laws.{IsLawfulDeed}
use Rattle.alp_journal.specs.Messages.{Mail}
use Rattle.alp_journal.specs.Moves.{act_deeds, grants_to, asks_for, did, told, halted, next, stops, tried}
use Rattle.alp_journal.specs.State.{State, state_deed}
use Rattle.alp_locks.specs.Releases.{released}
use Rattle.alp_locks.proofs.WalkLemmas.{released-length}
use Rattle.alp_vault.specs.Contents.{Contents}
use Rattle.alp_node.specs.Durable.{AreNotesOf, IsStoredBy, IsSaidBy}
use Rattle.alp_node.specs.Releases.{granted_behind}
use Rattle.alp_node.specs.declared.server_state.ServerState.{ServerState}
use Rattle.alp_node.proofs.CommitNotes.{grants_cells, notes_told}
use Rattle.alp_node.proofs.NoteLaw.{AreVoted, IsUnkept, acts_free, behind, deeds_say, is_write, notes_along}

module _ (s : State) (e : Event) where
  -- what is said behind grants brings nothing
  pub sent_brings : (ms : List Mail) → flat_map (act_deeds s e) (sent_acts ms) ≡ []
  sent_brings [] = refl
  sent_brings (m ∷ ms) = sent_brings ms

  pub grants_bring : (ts : List TransId) (more : List Act) → flat_map (act_deeds s e) more ≡ [] → flat_map (act_deeds s e) (grant_acts ts ++ more) ≡ flat_map (act_deeds s e) (grant_acts ts)
  grants_bring [] more none = none
  grants_bring (t ∷ ts) more none = ap (λ (ds : List Deed). grants_to t (asks_for s e t (s.holder.lives t)) ++ ds) (grants_bring ts more none)

  -- the part's locks go, and who waited has them
  abbrev pub lets : TransId → List TransId → List Deed
  lets t ts = Releases t ∷ flat_map (act_deeds s e) (grant_acts ts)

  no_write : (ts : List TransId) → list_any is_write (grant_acts ts) ≡ false
  no_write [] = refl
  no_write (t ∷ ts) = no_write ts

  lets_free : (t : TransId) (ts : List TransId) → AllByRecursion IsUnkept (lets t ts)
  lets_free t ts = (tt, acts_free s e (grant_acts ts) (no_write ts))

  pub lets_cells : (t : TransId) (ts : List TransId) (m : State) → (state_after state_deed m (lets t ts)).holder.cells ≡ m.holder.cells
  lets_cells t ts m = grants_cells s e ts (state_deed m (Releases t))

  pub lets_notes : (t : TransId) (ts : List TransId) (m : State) (epoch : ℕ) (notes : Notes) → AreVoted m → Along state_deed (IsLawfulDeed e) m (lets t ts) → AreNotesOf m epoch notes → AreNotesOf (state_after state_deed m (lets t ts)) epoch notes
  lets_notes t ts m epoch notes voted law h = notes_along m (state_after state_deed m (lets t ts)) epoch notes (deeds_say e (lets t ts) m (behind (lets t ts) (lets_free t ts) m) law voted) h

-- what an entry that went on said is what stands behind it
pub said_notes : (a m : Account) (e : Entry) (c : Contents) → stops e ≡ false → next (state_of a) e ≡ state_of m → IsSaidBy (state_of a) e c → AreNotesOf (state_of m) a.ids.epoch c.notes
said_notes a m e c on leaves said = notes_told (state_of a) (state_of m) e a.ids.epoch c.notes on leaves said.notes

pub said_cells : (a m : Account) (e : Entry) (c : Contents) → stops e ≡ false → next (state_of a) e ≡ state_of m → IsSaidBy (state_of a) e c → c.cells ≡ m.holder.cells
said_cells a m e c on leaves said =
    let last : told (state_of a) e ≡ state_of m = sym (ap (λ (b : Bool). cond {A = State} b (halted (state_of a) e) (told (state_of a) e)) on) ∙ leaves in
    said.cells ∙ ap (λ (z : State). z.holder.cells) last

-- no more are granted than waited
pub granted_few : {V : Type 0} (k : ServerState V) (t : TransId) → k.locks.woken ≡ [] → length (grant_acts (granted_behind k t)) ≤ length k.locks.waiting
granted_few k t none =
    let all : length (released k.locks t).waiting + length (released k.locks t).woken ≤ length k.locks.waiting + length k.locks.woken = released-length k.locks t in
    let zero : length k.locks.woken ≡ 0 = ap (λ (ts : List TransId). length ts) none in
    let same : length (grant_acts (granted_behind k t)) ≡ length (granted_behind k t) = as_many (granted_behind k t) in
    omega (arith, all, zero, same)
  where
    as_many : (ts : List TransId) → length (grant_acts ts) ≡ length ts
    as_many [] = refl
    as_many (u ∷ us) = ap suc (as_many us)
