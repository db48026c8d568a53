-- what each server of a log applied is one thread's history, at each place of its journal
use Rattle.std.specs.Prelude.{Bool, true, false, cond, not, ◌&&◌, Option, Some}
use Rattle.std.specs.FinMap as map
use Rattle.std.proofs.Common.{◌≡◌, ℕ, ◌≤◌, List, [], ◌∷◌, slice_get, refl, sym, ap, subst, ◌∙◌, arith, inl, inr, le_refl}
use Rattle.alp_base.specs.declared.ids.TransId.{TransId}
use Rattle.alp_base.specs.declared.ids.Stamp.{Stamp}
use Rattle.alp_files.specs.Holdings.{DoAgree}
use Rattle.alp_files.specs.Cells.{Cells}
use Rattle.alp_files.specs.Edits.{Edit, Drop, Cut, Put}
use Rattle.alp_files.specs.History.{IsSerial, serial_end, starting}
use Rattle.alp_files.proofs.FilesLemmas.{same-some}
use Rattle.alp_files.proofs.LookLemmas.{PutsSized}
use Rattle.alp_files.specs.Locks.{Reads}
use Rattle.alp_files.specs.Apart.{DoShowSame}
use Rattle.alp_journal.specs.declared.act.Act.{Act}
use Rattle.alp_journal.specs.declared.event.Event.{Event}
use Rattle.alp_journal.specs.declared.event.Event.TheVariants as event
use Rattle.alp_files.specs.declared.reply.Reply.{Reply}
use Rattle.alp_journal.specs.declared.entry.Entry.{Entry}
use Rattle.alp_journal.specs.Ids.{same_trans, same_join}
use Rattle.alp_journal.specs.Opening.{ReadyNote}
use Rattle.alp_journal.specs.Participant.{Ready, phase_noted, is_ready}
use Rattle.alp_journal.specs.Holder.{Life, holder_opened, lives_noted, early_life, commits}
use Rattle.alp_journal.specs.State.{State, opened, state_deed}
use Rattle.alp_journal.specs.Moves.{next}
use Rattle.alp_history.specs.Log.{Log, journal_of, opening_of, state_at, final, IsIn, held, is_noted, IsSoundOpening, PutsAreSized}
use Rattle.alp_history.specs.Theorems.{IsProper, begun_on, IsOneThreadAt, EachServer}
use Rattle.alp_history.proofs.Places.{at, keeps-from}
use Rattle.alp_journal.proofs.IdLemmas.{same_trans-true}
use Rattle.alp_journal.proofs.OneServer.{IsGoodEarly, IsHeld, in_order, one_thread, reads_kept}
use Rattle.alp_history.proofs.Logs.{lawful-at, last}
use Rattle.alp_history.proofs.Agreed.{size, home-at, told-at}
use Rattle.alp_history.proofs.Starts.{held-same, held-none}
use Rattle.alp_history.proofs.Linked.{IsLinkedUp, same_join-self, linked-opened}
use Rattle.alp_history.proofs.Turned.{is_left, is_spent, Began}
use Rattle.alp_history.proofs.HeldAlong.{Along_, Resolves, plain-entry, restart-entry, IsSameCore, Knows}
use Rattle.alp_base.specs.declared.ids.JoinNo.{JoinNo}
use Rattle.alp_journal.specs.Deeds.{Deed}
use Rattle.alp_journal.specs.Holding.{MayDo}
use Rattle.alp_history.proofs.Phases.{IsSeen}
use Rattle.alp_history.proofs.Rights.{IsRightEntry}

puts-sized : (es : List Edit) → PutsAreSized es → PutsSized es
puts-sized [] h = tt
puts-sized (Put k c ∷ es) h = (h.0, puts-sized es h.1)
puts-sized (Drop f ∷ es) h = puts-sized es h
puts-sized (Cut f n ∷ es) h = puts-sized es h

-- a part at the opening is that of a note
pub note-of : (rs : List ReadyNote) (t : TransId) (l : Life) → lives_noted rs t ≡ Some l → (r : ReadyNote) × IsIn r rs × (r.trans ≡ t) × (early_life r ≡ l)
note-of [] t l h = cc
note-of (r ∷ rs) t l h = go (same_trans r.trans t) refl h (λ k. note-of rs t l k)
  where
    go : (b : Bool) → same_trans r.trans t ≡ b → cond {A = Option Life} b (Some (early_life r)) (lives_noted rs t) ≡ Some l
        → (lives_noted rs t ≡ Some l → (q : ReadyNote) × IsIn q rs × (q.trans ≡ t) × (early_life q ≡ l)) → (q : ReadyNote) × IsIn q (r ∷ rs) × (q.trans ≡ t) × (early_life q ≡ l)
    go true e k rest = (r, inl refl, same_trans-true r.trans t e, same-some (early_life r) l k)
    go false e k rest = (let x = rest k in (x.0, inr x.1, x.2, x.3))

module _ (log : Log) (proper : IsProper log) where
  abbrev sound : (n : ℕ) → IsSoundOpening log n
  sound n = proper.sound n

  -- a note's join is ready at the opening
  noted-ready : (rs : List ReadyNote) (r : ReadyNote) → IsIn r rs → is_ready (phase_noted rs r.join) ≡ true
  noted-ready [] r i = absurd i
  noted-ready (x ∷ rs) r (inl e) = ap (λ (b : Bool). is_ready (cond b (Ready x.trans x.client x.ts) (phase_noted rs r.join))) (ap (λ (y : ReadyNote). same_join x.join y.join) e ∙ same_join-self x.join)
  noted-ready (x ∷ rs) r (inr i) = go (same_join x.join r.join) (noted-ready rs r i)
    where
      go : (b : Bool) → is_ready (phase_noted rs r.join) ≡ true → is_ready (cond b (Ready x.trans x.client x.ts) (phase_noted rs r.join)) ≡ true
      go true h = refl
      go false h = h

  began-there : (n : ℕ) → Began log proper n (is_left log proper (phase_noted (opening_of log n).ready)) (opening_of log n).cells
  began-there n = (nothing-spent, held-same (is_left log proper (phase_noted (opening_of log n).ready)) (is_noted log) (opening_of log n).ready (λ r i. ap (λ b. is_noted log r.join && b) (noted-ready (opening_of log n).ready r i) ∙ and-true (is_noted log r.join)) (opening_of log n).cells)
    where
      and-true : (b : Bool) → (b && true) ≡ b
      and-true true = refl
      and-true false = refl

      none-spent : (b : Bool) → (b && not b) ≡ false
      none-spent true = refl
      none-spent false = refl

      nothing-spent : held (is_spent log proper (is_left log proper (phase_noted (opening_of log n).ready))) (opening_of log n).ready (opening_of log n).cells ≡ (opening_of log n).cells
      nothing-spent =
          held-none (is_spent log proper (is_left log proper (phase_noted (opening_of log n).ready))) (opening_of log n).ready
          (λ r i. ap (λ b. is_noted log r.join && not (is_noted log r.join && b)) (noted-ready (opening_of log n).ready r i) ∙ ap (λ b. is_noted log r.join && not b) (and-true (is_noted log r.join)) ∙ none-spent (is_noted log r.join)) (opening_of log n).cells

  opened_held : (n : ℕ) → IsHeld (Began log proper n (is_left log proper (phase_noted (opening_of log n).ready))) (holder_opened (opening_of log n))
  opened_held n = record {
    base = (opening_of log n).cells;
    from = began-there n;
    base_sized = (sound n).sizes;
    parts = [];
    ids = [];
    list = refl;
    left_so = refl;
    good = tt;
    files = refl;
    alike = λ f. refl;
    sized = (sound n).sizes;
    rising = tt;
    below = tt;
    order = le_refl (opening_of log n).clock;
    given = λ f none. refl;
    live = λ t l is.
        (let x = note-of (opening_of log n).ready t l is in
        let s = (sound n).ready x.0 x.1 in
        inl (subst (IsGoodEarly []) x.3 (record { early = refl; voted = refl; within = s.covered; puts = puts-sized (x.0).edits (s.sized); intended = s.intended; away = tt })));
    agree = λ t u k l a b away.
        (let x = note-of (opening_of log n).ready t k a in
        let y = note-of (opening_of log n).ready u l b in
        subst (λ (z : Life). DoAgree z.held l.held) x.3 (subst (λ (z : Life). DoAgree (early_life x.0).held z.held) y.3
        ((sound n).agree x.0 y.0 x.1 y.1 (ap (λ z. same_trans z (y.0).trans) x.2 ∙ ap (same_trans t) y.2 ∙ away))));
  }

module _ (log : Log) (proper : IsProper log) (X : ℕ → State → Type 0)
    (core : (n : ℕ) (s m : State) → IsSameCore s m → X n s → X n m)
    (step : (n : ℕ) (m : State) (d : Deed) → IsHeld (Began log proper n (is_left log proper m.phases)) m.holder → m.holder.server ≡ n → ((j : JoinNo) → IsSeen (m.phases j) ≡ true → j.server ≡ n) → MayDo m.holder d → Knows log proper n m d → IsLinkedUp log proper n (state_deed m d) → X n m → X n (state_deed m d)) where
  abbrev pub Place : ℕ → State → Type 0
  Place n s = Along_ log proper X core step n s × Resolves log proper X core step n s s.pending

  opened_along : (n : ℕ) → X n (state_at log n 0) → Along_ log proper X core step n (state_at log n 0)
  opened_along n x =
      let home = home-at log proper n 0 (omega arith) in
      record { held = opened_held log proper n; linked = linked-opened log proper n; here = home.0; seen = home.1; applied = tt; told = (told-at log proper n 0 (omega arith)).0; made = tt; beside = x }

  entry-place : (n i : ℕ) (e : Entry) → slice_get (journal_of log n) i ≡ Some e → Place n (state_at log n i) → Place n (next (state_at log n i) e)
  entry-place n i e at h = go e.event e.reply e.acts at (lawful-at log proper.lawful proper.linked n i e at)
    where
      go : (x : Event) (r : Option Reply) (acts : List Act) → slice_get (journal_of log n) i ≡ Some (record { event = x; reply = r; acts = acts }) → IsRightEntry (state_at log n i) (record { event = x; reply = r; acts = acts })
          → Place n (next (state_at log n i) (record { event = x; reply = r; acts = acts }))
      go event.Restart r acts at law = restart-entry log proper X core step n i r acts at law.restart.0 h.1
      go (event.Call client epoch number c) r acts at law = plain-entry log proper X core step n i (event.Call client epoch number c) r acts at law.deeds law.restart.0 law.stopped h.0
      go (event.Arrive from m) r acts at law = plain-entry log proper X core step n i (event.Arrive from m) r acts at law.deeds law.restart.0 law.stopped h.0
      go (event.Timeout t) r acts at law = plain-entry log proper X core step n i (event.Timeout t) r acts at law.deeds law.restart.0 law.stopped h.0
      go event.Tick r acts at law = plain-entry log proper X core step n i event.Tick r acts at law.deeds law.restart.0 law.stopped h.0
      go event.Force r acts at law = plain-entry log proper X core step n i event.Force r acts at law.deeds law.restart.0 law.stopped h.0

  pub place-from : (n from i : ℕ) → from ≤ i → i ≤ size log proper n → Place n (state_at log n from) → Place n (state_at log n i)
  place-from n from i a le start = keeps-from next (Place n) (opened (opening_of log n)) (journal_of log n) from i (λ k e a b at h. entry-place n k e at h) start i a (omega arith) le

  pub place-at : (n i : ℕ) → i ≤ size log proper n → X n (state_at log n 0) → Place n (state_at log n i)
  place-at n i le x = place-from n 0 i (omega arith) le (opened_along n x, λ p o. opened_along n x)

module _ (log : Log) (proper : IsProper log) where
  abbrev pub Nothing_ : ℕ → State → Type 0
  Nothing_ n s = Unit {0}

  pub plain-at : (n i : ℕ) → i ≤ size log proper n → Place log proper Nothing_ (λ n s m c x. tt) (λ n m d a b c e f g h. tt) n (state_at log n i)
  plain-at n i le = place-at log proper Nothing_ (λ n s m c x. tt) (λ n m d a b c e f g h. tt) n i le tt

  -- what holds of each server at the end
  pub along-end : (n : ℕ) → Along_ log proper Nothing_ (λ n s m c x. tt) (λ n m d a b c e f g h. tt) n (final log n)
  along-end n = subst (Along_ log proper Nothing_ (λ n s m c x. tt) (λ n m d a b c e f g h. tt) n) (last log proper.lawful proper.linked n) (plain-at n (size log proper n) (omega arith)).0

  -- at the end of the log the applied transactions of each server are one thread's history, in the order of their stamps
  pub each-server : (n : ℕ) → IsOneThreadAt log n
  each-server n =
      let h = (along-end n).held in
      let one = one_thread (Began log proper n (is_left log proper (final log n).phases)) (final log n).holder h in
      let base : h.base ≡ begun_on log n = sym (h.from).0 ∙ held-same (is_spent log proper (is_left log proper (final log n).phases)) (λ j. is_noted log j && not (is_ready ((final log n).phases j))) (opening_of log n).ready (λ r i. spent (is_noted log r.join) (is_ready ((final log n).phases r.join))) (opening_of log n).cells in
      record {
        replies = subst (λ (m : Cells). IsSerial (final log n).holder.server (starting m) (in_order (final log n).holder)) base one.0;
        files = subst (λ (m : Cells). (serial_end (final log n).holder.server (starting m) (in_order (final log n).holder)).files ≡ (final log n).holder.cells) base one.1;
        begins = ap (held (λ j. is_noted log j && is_ready ((final log n).phases j)) (opening_of log n).ready) (sym base) ∙ (h.from).1;
      }
    where
      spent : (b c : Bool) → (b && not (b && c)) ≡ (b && not c)
      spent true c = refl
      spent false c = refl

  -- while a part may read a leaf at a server, no commit of another part changes the cell there
  pub reads-stay : (n i : ℕ) → i ≤ size log proper n → (x : Stamp) (l m : Life) (u : TransId) → (state_at log n i).holder.lives x.trans ≡ Some l → (state_at log n i).holder.lives u ≡ Some m → same_trans u x.trans ≡ false
      → DoShowSame (Reads m.held) (map.get (state_at log n i).holder.cells) (map.get (commits (state_at log n i).holder x (Some l)).cells)
  reads-stay n i le x l m u a b away = reads_kept (Began log proper n (is_left log proper (state_at log n i).phases)) (state_at log n i).holder (((plain-at n i le).0).held) x l u m a b away

pub each_server : EachServer
each_server log proper n = each-server log proper n
