-- what each deed keeps, each entry keeps, a stopped one and a restart too
use Rattle.std.specs.Prelude.{Bool, true, false, cond, filter, Option}
use Rattle.std.specs.List.{AllByRecursion}
use Rattle.std.proofs.Common.{◌≡◌, ℕ, ◌+◌, List, [], ◌∷◌, ◌++◌, refl}
use Rattle.alp_base.specs.declared.ids.JoinNo.{JoinNo}
use Rattle.alp_base.specs.declared.ids.Stamp.{Stamp}
use Rattle.alp_files.specs.declared.reply.Reply.{Reply}
use Rattle.alp_journal.specs.declared.act.Act.{Act}
use Rattle.alp_journal.specs.declared.act.Act.TheVariants as act
use Rattle.alp_journal.specs.declared.event.Event.{Event}
use Rattle.alp_journal.specs.declared.event.Event.TheVariants as event
use Rattle.alp_journal.specs.declared.entry.Entry.{Entry}
use Rattle.alp_journal.specs.Along.{state_after, Along}
use Rattle.alp_journal.specs.Deeds.{Deed, Begins, Joins, Enters, Quits, Aborts, Grants, Performs, Releases, Readies, Applies, Registers, Finishes, Hears, Decides, Ends, Acknowledges, Forgets, Restarts}
use Rattle.alp_journal.specs.Desk.{Desk}
use Rattle.alp_journal.specs.State.{State, state_deed}
use Rattle.alp_journal.specs.Moves.{is_effective, resolved, stops, tried, did, told, halted, next}
use Rattle.alp_journal.specs.Laws.{Regains}
use Rattle.alp_journal.proofs.IdLemmas.{all-append}
use Rattle.alp_journal.proofs.Origins.{IsFrom, tried-from}
use Rattle.alp_history.proofs.Rights.{IsRightDeed, IsRightEntry}

-- what a restart may find done
abbrev pub is_open : Deed → Bool
is_open (Readies j t ts) = true
is_open (Applies j x) = true
is_open (Aborts j t client c) = true
is_open (Decides x js) = true
is_open (Forgets t) = true
is_open (Finishes t) = true
is_open (Hears t j ts) = true
is_open (Acknowledges t j) = true
is_open d = false

pub effective-open : (ready : List JoinNo) (clock : ℕ) (stamps : List Stamp) (d : Deed) → is_effective ready clock stamps d ≡ true → is_open d ≡ true
effective-open ready clock stamps (Readies j t ts) h = refl
effective-open ready clock stamps (Applies j x) h = refl
effective-open ready clock stamps (Aborts j t client c) h = refl
effective-open ready clock stamps (Decides x js) h = refl
effective-open ready clock stamps (Forgets t) h = refl
effective-open ready clock stamps (Finishes t) h = refl
effective-open ready clock stamps (Hears t j ts) h = refl
effective-open ready clock stamps (Acknowledges t j) h = refl
effective-open ready clock stamps (Begins t c w n) h = cc
effective-open ready clock stamps (Joins j t c w) h = cc
effective-open ready clock stamps (Enters j t c w) h = cc
effective-open ready clock stamps (Quits j t c w) h = cc
effective-open ready clock stamps (Grants t c) h = cc
effective-open ready clock stamps (Performs t x) h = cc
effective-open ready clock stamps (Releases t) h = cc
effective-open ready clock stamps (Registers t j) h = cc
effective-open ready clock stamps (Ends t c w) h = cc
effective-open ready clock stamps (Restarts n m) h = cc

module _ (Right : Deed → Type 0) (Q : State → Type 0) (keep : (s : State) (d : Deed) → Right d → Q s → Q (state_deed s d))
    (still : (s : State) (desk : Desk) (down : Bool) (pending : List Deed) → Q s → Q (record s { desk = desk; is_down = down; pending = pending })) where
  -- and what a stopped entry may have brought about is such that it keeps it
  abbrev pub MayBeRight : Deed → Type 0
  MayBeRight d = is_open d ≡ true → Right d

  abbrev pub Stands : State → Type 0
  Stands s = Q s × AllByRecursion MayBeRight s.pending

  may-be : (ds : List Deed) → AllByRecursion Right ds → AllByRecursion MayBeRight ds
  may-be [] r = tt
  may-be (d ∷ ds) r = ((λ e. r.0), may-be ds r.1)

  found : (ready : List JoinNo) (clock : ℕ) (stamps : List Stamp) (ds : List Deed) → AllByRecursion MayBeRight ds → AllByRecursion Right (filter (is_effective ready clock stamps) ds)
  found ready clock stamps [] h = tt
  found ready clock stamps (d ∷ ds) h = go (is_effective ready clock stamps d) refl (found ready clock stamps ds h.1)
    where
      go : (b : Bool) → is_effective ready clock stamps d ≡ b → AllByRecursion Right (filter (is_effective ready clock stamps) ds)
          → AllByRecursion Right (cond b (d ∷ filter (is_effective ready clock stamps) ds) (filter (is_effective ready clock stamps) ds))
      go true e k = (h.0 (effective-open ready clock stamps d e), k)
      go false e k = k

  pub fold : (ds : List Deed) (s : State) → AllByRecursion Right ds → Q s → Q (state_after state_deed s ds)
  fold [] s r q = q
  fold (d ∷ ds) s r q = fold ds (state_deed s d) r.1 (keep s d r.0 q)

  rights : (e : Event) (before : State) (right : (s : State) (d : Deed) → Q s → IsRightDeed e s d → IsFrom before e d → Right d)
      → (ds : List Deed) (s : State) → Along state_deed (IsRightDeed e) s ds → AllByRecursion (IsFrom before e) ds → Q s → AllByRecursion Right ds
  rights e before right [] s law from q = tt
  rights e before right (d ∷ ds) s law from q =
      let r : Right d = right s d q law.0 from.0 in
      (r, rights e before right ds (state_deed s d) law.1 from.1 (keep s d r q))

  plain : (s : State) (e : Entry) → AllByRecursion Right (tried s e) → Q s → Stands (next s e)
  plain s e r q = go (stops e)
    where
      go : (b : Bool) → Stands (cond b (halted s e) (told s e))
      go true = (still s s.desk true (tried s e) q, may-be (tried s e) r)
      go false = (still (did s e) (told s e).desk false [] (fold (tried s e) s r q), tt)

  again : (s : State) (r : Option Reply) (acts : List Act) → ((epoch clock : ℕ) → epoch ≡ s.ids.epoch + 1 → Right (Restarts epoch clock)) → Regains s acts → Stands s
      → Stands (next s (record { event = event.Restart; reply = r; acts = acts }))
  again s r (act.Regained epoch clock ready stamps ∷ []) right law h =
      let last : AllByRecursion Right (Restarts epoch clock ∷ []) = (right epoch clock law.0, tt) in
      let all : AllByRecursion Right (resolved s ready clock stamps ++ Restarts epoch clock ∷ []) =
      all-append Right (resolved s ready clock stamps) (Restarts epoch clock ∷ []) (found ready clock stamps s.pending h.1) last in
      let e : Entry = record { event = event.Restart; reply = r; acts = act.Regained epoch clock ready stamps ∷ [] } in
      plain s e (all-append Right ((resolved s ready clock stamps ++ Restarts epoch clock ∷ []) ++ []) [] (all-append Right (resolved s ready clock stamps ++ Restarts epoch clock ∷ []) [] all tt) tt) h.0
  again s r [] right law h = absurd law
  again s r (act.Regained epoch clock ready stamps ∷ a ∷ acts) right law h = absurd law
  again s r (act.Sent to m ∷ acts) right law h = absurd law
  again s r (act.Granted t ∷ acts) right law h = absurd law
  again s r (act.Drawn t ∷ acts) right law h = absurd law
  again s r (act.Registered t j ∷ acts) right law h = absurd law
  again s r (act.Readied t j ts ∷ acts) right law h = absurd law
  again s r (act.Decided x js ∷ acts) right law h = absurd law
  again s r (act.Applied j x ∷ acts) right law h = absurd law
  again s r (act.Released t ∷ acts) right law h = absurd law
  again s r (act.Forgot t ∷ acts) right law h = absurd law
  again s r (act.Stopped ∷ acts) right law h = absurd law
  again s r (act.Failed ∷ acts) right law h = absurd law

  -- what an entry needs: each of its deeds brings what is right, and a restart too
  pub entry-keeps : (s : State) (e : Entry) → IsRightEntry s e → ((m : State) (d : Deed) → Q m → IsRightDeed e.event m d → IsFrom s e.event d → Right d)
      → ((epoch clock : ℕ) → epoch ≡ s.ids.epoch + 1 → Right (Restarts epoch clock)) → Stands s → Stands (next s e)
  entry-keeps s e law right starts h = go e.event e.reply e.acts law right
    where
      go : (x : Event) (r : Option Reply) (acts : List Act) → IsRightEntry s (record { event = x; reply = r; acts = acts })
          → ((m : State) (d : Deed) → Q m → IsRightDeed x m d → IsFrom s x d → Right d) → Stands (next s (record { event = x; reply = r; acts = acts }))
      go event.Restart r acts law right = again s r acts starts law.restart.0 h
      go (event.Call client epoch number c) r acts law right =
          let x : Event = event.Call client epoch number c in
          let e : Entry = record { event = x; reply = r; acts = acts } in
          plain s e (rights x s right (tried s e) s law.deeds (tried-from s x r acts law.restart.0) h.0) h.0
      go (event.Arrive from m) r acts law right =
          let x : Event = event.Arrive from m in
          let e : Entry = record { event = x; reply = r; acts = acts } in
          plain s e (rights x s right (tried s e) s law.deeds (tried-from s x r acts law.restart.0) h.0) h.0
      go (event.Timeout t) r acts law right =
          let x : Event = event.Timeout t in
          let e : Entry = record { event = x; reply = r; acts = acts } in
          plain s e (rights x s right (tried s e) s law.deeds (tried-from s x r acts law.restart.0) h.0) h.0
      go event.Tick r acts law right =
          let e : Entry = record { event = event.Tick; reply = r; acts = acts } in
          plain s e (rights event.Tick s right (tried s e) s law.deeds (tried-from s event.Tick r acts law.restart.0) h.0) h.0
      go event.Force r acts law right =
          let e : Entry = record { event = event.Force; reply = r; acts = acts } in
          plain s e (rights event.Force s right (tried s e) s law.deeds (tried-from s event.Force r acts law.restart.0) h.0) h.0
