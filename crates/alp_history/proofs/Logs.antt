-- what every entry of a server keeps holds at each place of its journal
use Rattle.std.specs.Prelude.{Bool, true, false, cond, ◌==◌, Option, None, Some, unwrap_or, find, ltb}
use Rattle.std.proofs.Common.{◌≡◌, ℕ, suc, ◌+◌, ◌<◌, ◌≤◌, List, [], ◌∷◌, slice_get, length, refl, sym, ap, subst, arith, inl, inr, ◌⊎◌, le_of_lt, le_of_eq}
use Rattle.std.proofs.lemmas.Bool.Decides.{nat_tests}
use Rattle.std.proofs.Math.Nat.{eq-or-lt_of_le}
use Rattle.std.proofs.lemmas.Bool.{eqb-true}
use Rattle.alp_base.specs.declared.ids.TransId.{TransId}
use Rattle.alp_base.specs.declared.ids.Stamp.{Stamp}
use Rattle.alp_files.specs.declared.call.Call.{Call}
use Rattle.alp_files.specs.History.{PerformedCall}
use Rattle.alp_journal.specs.declared.act.Act.TheVariants as act
use Rattle.alp_journal.specs.declared.message.Message.{Message}
use Rattle.alp_journal.specs.declared.entry.Entry.{Entry}
use Rattle.alp_journal.specs.Along.{state_after}
use Rattle.alp_journal.specs.Deeds.{Deed, Begins, Joins, Enters, Quits, Aborts, Grants, Performs, Releases, Readies, Applies, Registers, Finishes, Hears, Decides, Ends, Acknowledges, Forgets, Restarts}
use Rattle.alp_journal.specs.Holder.{Holder, Life, holder_after, grants, performs, readies, commits}
use Rattle.alp_journal.specs.Desk.{Desk}
use Rattle.alp_journal.specs.State.{State, state_deed, opened}
use Rattle.alp_journal.specs.Moves.{next}
use Rattle.alp_journal.specs.Laws.{IsLawfulEntry, SaysRight, MaySay}
use Rattle.alp_history.specs.Log.{ServerLog, Log, nobody, journal_of, opening_of, rank_at, state_at, final, WasSent, IsLinked, AreLawful}
use Rattle.alp_history.proofs.Places.{at-suc, along-at, keeps-from, take-all, all-in}
use Rattle.alp_journal.proofs.Origins.{IsFrom}
use Rattle.alp_history.proofs.Entries.{Stands, entry-keeps}
use Rattle.alp_history.proofs.Rights.{IsRightDeed, IsRightEntry, right-entry}

lt_or_le : (a b : ℕ) → (a < b) ⊎ (b ≤ a)
lt_or_le a b = go (ltb a b) refl
  where
    go : (x : Bool) → ltb a b ≡ x → (a < b) ⊎ (b ≤ a)
    go true e = inl (grind (arith, nat_tests, e))
    go false e = inr (grind (arith, nat_tests, e))

lt-not-le : (a b : ℕ) → a < b → b ≤ a → ⊥
lt-not-le a b h k = omega (arith, h, k)

-- the log of a server is of that server
found-server : (n : ℕ) (xs : List ServerLog) → (unwrap_or (find (λ (x : ServerLog). x.opening.server == n) xs) (nobody n)).opening.server ≡ n
found-server n [] = refl
found-server n (x ∷ xs) = go (x.opening.server == n) refl (found-server n xs)
  where
    go : (b : Bool) → (x.opening.server == n) ≡ b → (unwrap_or (find (λ (x : ServerLog). x.opening.server == n) xs) (nobody n)).opening.server ≡ n
        → (unwrap_or (cond {A = Option ServerLog} b (Some x) (find (λ (x : ServerLog). x.opening.server == n) xs)) (nobody n)).opening.server ≡ n
    go true e h = eqb-true x.opening.server n e
    go false e h = h

pub opening-server : (log : Log) (n : ℕ) → (opening_of log n).server ≡ n
opening-server log n = found-server n log.servers

-- a server keeps its number
pub server-stays : (d : Deed) (s : Holder) → (holder_after s d).server ≡ s.server
server-stays d s = go d
  where
    g : (t : TransId) (c : Call) (l : Option Life) → (grants s t c l).server ≡ s.server
    g t c None = refl
    g t c (Some l) = refl

    p : (t : TransId) (x : PerformedCall) (l : Option Life) → (performs s t x l).server ≡ s.server
    p t x None = refl
    p t x (Some l) = refl

    r : (t : TransId) (ts : ℕ) (l : Option Life) → (readies s t ts l).server ≡ s.server
    r t ts None = refl
    r t ts (Some l) = refl

    c : (x : Stamp) (l : Option Life) → (commits s x l).server ≡ s.server
    c x None = refl
    c x (Some l) = refl

    go : (d : Deed) → (holder_after s d).server ≡ s.server
    go (Begins t client who seen) = refl
    go (Joins j t client who) = refl
    go (Enters j t client who) = refl
    go (Quits j t client x) = refl
    go (Aborts j t client x) = refl
    go (Grants t x) = g t x (s.lives t)
    go (Performs t x) = p t x (s.lives t)
    go (Releases t) = refl
    go (Readies j t ts) = r t ts (s.lives t)
    go (Applies j x) = c x (s.lives x.trans)
    go (Registers t j) = refl
    go (Finishes t) = refl
    go (Hears t j ts) = refl
    go (Decides x js) = c x (s.lives x.trans)
    go (Ends t client x) = refl
    go (Acknowledges t j) = refl
    go (Forgets t) = refl
    go (Restarts epoch clock) = refl

module _ (log : Log) (lawful : AreLawful log) (linked : IsLinked log) where
  pub lawful-at : (n i : ℕ) (e : Entry) → slice_get (journal_of log n) i ≡ Some e → IsRightEntry (state_at log n i) e
  lawful-at n i e h = right-entry (state_at log n i) e (along-at next IsLawfulEntry (opened (opening_of log n)) (journal_of log n) i e (lawful n) h)

  pub state-suc : (n i : ℕ) (e : Entry) → slice_get (journal_of log n) i ≡ Some e → state_at log n (suc i) ≡ next (state_at log n i) e
  state-suc n i e h = at-suc next (opened (opening_of log n)) (journal_of log n) i e h

  pub last : (n : ℕ) → state_at log n (length (journal_of log n)) ≡ final log n
  last n = ap (state_after next (opened (opening_of log n))) (take-all (journal_of log n))

  -- what was sent is so after the entry that sent it
  pub said : (n to : ℕ) (m : Message) (rank : ℕ) (w : WasSent log n to m rank) → MaySay (w.entry).event (state_at log n (suc w.place)) m
  said n to m rank w =
      subst (λ s. MaySay (w.entry).event s m) (sym (state-suc n w.place w.entry w.stands))
      (all-in (SaysRight (w.entry).event (next (state_at log n w.place) w.entry)) (w.entry).acts (act.Sent to m) (lawful-at n w.place w.entry w.stands).said w.sent)

  pub rank-le : (n i k : ℕ) (e f : Entry) → slice_get (journal_of log n) i ≡ Some e → slice_get (journal_of log n) k ≡ Some f → i ≤ k → rank_at log n i ≤ rank_at log n k
  rank-le n i k e f a b l = elim (eq-or-lt_of_le l) [ inl same ↦ le_of_eq (ap (rank_at log n) same) | inr less ↦ le_of_lt (linked.rising n i k e f a b less) ]

  pub rank-lt : (n i k : ℕ) (e f : Entry) → slice_get (journal_of log n) i ≡ Some e → slice_get (journal_of log n) k ≡ Some f → rank_at log n i < rank_at log n k → i < k
  rank-lt n i k e f a b l = elim (lt_or_le i k) [ inl less ↦ less | inr more ↦ absurd (let m : rank_at log n k ≤ rank_at log n i = rank-le n k i f e b a more in lt-not-le (rank_at log n i) (rank_at log n k) l m) ]

  module _ (Right : Deed → Type 0) (Q : State → Type 0) (keep : (s : State) (d : Deed) → Right d → Q s → Q (state_deed s d))
      (still : (s : State) (desk : Desk) (down : Bool) (pending : List Deed) → Q s → Q (record s { desk = desk; is_down = down; pending = pending })) where
    -- from a place to another one
    pub stands-from : (n from to : ℕ)
        → ((i : ℕ) (e : Entry) → from ≤ i → i < to → slice_get (journal_of log n) i ≡ Some e → (m : State) (d : Deed) → Q m → IsRightDeed e.event m d → IsFrom (state_at log n i) e.event d → Right d)
        → ((i : ℕ) (e : Entry) (epoch clock : ℕ) → Q (state_at log n i) → epoch ≡ (state_at log n i).ids.epoch + 1 → Right (Restarts epoch clock))
        → Stands Right Q keep still (state_at log n from) → (i : ℕ) → from ≤ i → i ≤ to → i ≤ length (journal_of log n) → Stands Right Q keep still (state_at log n i)
    stands-from n from to right starts h =
        keeps-from next (Stands Right Q keep still) (opened (opening_of log n)) (journal_of log n) from to
        (λ i e a b at s. entry-keeps Right Q keep still (state_at log n i) e (lawful-at n i e at) (right i e a b at) (λ epoch clock l. starts i e epoch clock s.0 l) s) h
