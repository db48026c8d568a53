-- the reply that a session keeps was given to its last number
use Rattle.std.specs.Prelude.{Bool, true, false, cond, ◌==◌, ◌&&◌, Option, None, Some, is_some}
use Rattle.std.proofs.Common.{◌≡◌, ℕ, ◌+◌, ◌≤◌, List, [], ◌∷◌, ◌++◌, refl, sym, ap, subst, ◌∙◌, arith, inl, inr, ◌⊎◌}
use Rattle.std.proofs.lemmas.Bool.{eqb-true, and_parts}
use Rattle.alp_base.specs.declared.ids.TransId.{TransId}
use Rattle.alp_files.specs.declared.call.Call.{Call}
use Rattle.alp_files.specs.declared.call.Call.TheVariants as call
use Rattle.alp_files.specs.declared.reply.Reply.{Reply}
use Rattle.alp_journal.specs.declared.event.Event.{Event}
use Rattle.alp_journal.specs.declared.event.Event.TheVariants as event
use Rattle.alp_journal.specs.declared.entry.Entry.{Entry}
use Rattle.alp_journal.specs.Along.{state_after}
use Rattle.alp_history.proofs.Places.{some-same}
use Rattle.alp_journal.specs.Deeds.{Deed, Begins, Joins, Enters, Quits, Aborts, Grants, Performs, Releases, Readies, Applies, Registers, Finishes, Hears, Decides, Ends, Acknowledges, Forgets, Restarts}
use Rattle.alp_journal.specs.Desk.{Desk, Session, Waiting, without_waits, with_dead, is_of_part, waits_after, with_session, begins_if, begins_waiting, waiting_of, part_trans, is_not_yet, is_unknown, is_aborted, is_dead_call, waiting_at, buried, finished, collected}
use Rattle.alp_journal.specs.State.{State, state_deed, has_part}
use Rattle.alp_journal.specs.Moves.{is_new, follows, stops, tried, did, told, halted, next, greeted, counted, desk_told}

abbrev Kept : Type 0
Kept = ℕ → Option Session

same-if : (k : Kept) (b : Bool) (x y : Desk) → x.sessions ≡ k → y.sessions ≡ k → (cond b x y).sessions ≡ k
same-if k true x y p q = p
same-if k false x y p q = q

begins : (b : Bool) (d : Desk) (client number : ℕ) (c : Call) → (begins_if b d client number c).sessions ≡ d.sessions
begins false d client number c = refl
begins true d client number c = go (part_trans c)
  where
    go : (t : Option TransId) → (begins_waiting d client number c t).sessions ≡ d.sessions
    go None = refl
    go (Some t) = same-if d.sessions (is_some (waiting_of d client t)) d (record d { waits = d.waits ++ (record { client = client; number = number; call = c; is_granted = false }) ∷ [] }) refl refl

finishes-same : (d : Desk) (client : ℕ) (t : TransId) (r : Reply) → (finished d client t r).sessions ≡ d.sessions
finishes-same d client t r = same-if d.sessions (is_aborted r) (without_waits (with_dead d client t None) (is_of_part client t)) d refl refl

collects-same : (d : Desk) (client n : ℕ) → (collected d client n).sessions ≡ d.sessions
collects-same d client n = same-if d.sessions (is_dead_call d client (waiting_at d client n)) d (without_waits d (λ (w : Waiting). w.client == client && w.number == n)) refl refl

-- what an answer leaves of waits and dead parts is no matter of sessions
pub waits-same : (d : Desk) (p : TransId → Bool) (client number : ℕ) (c : Call) (r : Reply) → (waits_after d p client number c r).sessions ≡ d.sessions
waits-same d p client number (call.Begin seen) r = refl
waits-same d p client number (call.Join t) r =
    same-if d.sessions (is_unknown r) d (begins_if (is_not_yet r) (buried d client) client number (call.Join t)) refl (begins (is_not_yet r) (buried d client) client number (call.Join t))
waits-same d p client number (call.Finish t commit) r =
    finishes-same (begins_if (is_not_yet r) d client number (call.Finish t commit)) client t r ∙ begins (is_not_yet r) d client number (call.Finish t commit)
waits-same d p client number (call.Collect n) r = same-if d.sessions (is_not_yet r) d (collected d client n) refl (collects-same d client n)
waits-same d p client number (call.Hello name) r = begins (is_not_yet r) d client number (call.Hello name)
waits-same d p client number (call.CreateFile t start c) r = begins (is_not_yet r) d client number (call.CreateFile t start c)
waits-same d p client number (call.OpenFile t f a m c) r = begins (is_not_yet r) d client number (call.OpenFile t f a m c)
waits-same d p client number (call.CloseFile t n) r = begins (is_not_yet r) d client number (call.CloseFile t n)
waits-same d p client number (call.DeleteFile t n c) r = begins (is_not_yet r) d client number (call.DeleteFile t n c)
waits-same d p client number (call.ReadPages t n u m c) r = begins (is_not_yet r) d client number (call.ReadPages t n u m c)
waits-same d p client number (call.WritePages t n u ps c) r = begins (is_not_yet r) d client number (call.WritePages t n u ps c)
waits-same d p client number (call.LockPages t n u m c) r = begins (is_not_yet r) d client number (call.LockPages t n u m c)
waits-same d p client number (call.SetSize t n z c) r = begins (is_not_yet r) d client number (call.SetSize t n z c)
waits-same d p client number (call.ReadProps t n) r = begins (is_not_yet r) d client number (call.ReadProps t n)
waits-same d p client number (call.WriteProps t n x c) r = begins (is_not_yet r) d client number (call.WriteProps t n x c)
waits-same d p client number (call.ReadOwner t o c) r = begins (is_not_yet r) d client number (call.ReadOwner t o c)
waits-same d p client number (call.MakeOwner t o q l c) r = begins (is_not_yet r) d client number (call.MakeOwner t o q l c)
waits-same d p client number (call.SetQuota t o q c) r = begins (is_not_yet r) d client number (call.SetQuota t o q c)
waits-same d p client number (call.Outcome t) r = begins (is_not_yet r) d client number (call.Outcome t)

-- ---- deeds keep sessions and the epoch, or end all sessions

abbrev pub IsHere : State → State → ℕ → Session → Type 0
IsHere s m client w = (s.desk.sessions client ≡ Some w) × (m.ids.epoch ≡ s.ids.epoch)

kept-deed : (s : State) (d : Deed) (client : ℕ) (w : Session) → (state_deed s d).desk.sessions client ≡ Some w → IsHere s (state_deed s d) client w
kept-deed s (Begins t c u n) client w h = (h, refl)
kept-deed s (Joins j t c u) client w h = (h, refl)
kept-deed s (Enters j t c u) client w h = (h, refl)
kept-deed s (Quits j t c None) client w h = (h, refl)
kept-deed s (Quits j t c (Some x)) client w h = (h, refl)
kept-deed s (Aborts j t c x) client w h = (h, refl)
kept-deed s (Grants t x) client w h = (h, refl)
kept-deed s (Performs t x) client w h = (h, refl)
kept-deed s (Releases t) client w h = (h, refl)
kept-deed s (Readies j t ts) client w h = (h, refl)
kept-deed s (Applies j x) client w h = (h, refl)
kept-deed s (Registers t j) client w h = (h, refl)
kept-deed s (Finishes t) client w h = (h, refl)
kept-deed s (Hears t j ts) client w h = (h, refl)
kept-deed s (Decides x js) client w h = (h, refl)
kept-deed s (Ends t c x) client w h = (h, refl)
kept-deed s (Acknowledges t j) client w h = (h, refl)
kept-deed s (Forgets t) client w h = (h, refl)
kept-deed s (Restarts epoch clock) client w h = (let wrong : None ≡ Some w = h in cc)

kept-deeds : (ds : List Deed) (s : State) (client : ℕ) (w : Session) → (state_after state_deed s ds).desk.sessions client ≡ Some w → IsHere s (state_after state_deed s ds) client w
kept-deeds [] s client w h = (h, refl)
kept-deeds (d ∷ ds) s client w h =
    let rest = kept-deeds ds (state_deed s d) client w h in
    let one = kept-deed s d client w rest.0 in
    (one.0, rest.1 ∙ one.1)

-- ---- an entry

-- the entry is of the session's last number, and gave the reply that is kept
pub record IsLast (s n : State) (x : Event) (r : Option Reply) (client : ℕ) (w : Session) : Type 0 where
  pub epoch : ℕ
  pub number : ℕ
  pub made : Call
  pub called : x ≡ event.Call client epoch number made
  pub replied : r ≡ Some w.reply
  pub last : number ≡ w.last
  -- a call that was new, in this epoch, or a greeting
  pub new : ((is_new s client epoch number ≡ true) × (epoch ≡ n.ids.epoch)) ⊎ ((name : List ℕ) × (made ≡ call.Hello name))
  pub positive : 1 ≤ w.last

-- a session that stands after the event stood before, in the same epoch, or the event is of its last number
abbrev pub IsOfSession : State → State → Event → Option Reply → ℕ → Session → Type 0
IsOfSession s n x r client w = IsHere s n client w ⊎ IsLast s n x r client w

module _ (s m : State) (client : ℕ) (w : Session) (kept : (c : ℕ) (v : Session) → m.desk.sessions c ≡ Some v → IsHere s m c v) where
  keep : (x : Event) (r : Option Reply) → m.desk.sessions client ≡ Some w → IsOfSession s m x r client w
  keep x r h = inl (kept client w h)

  greets : (c epoch number : ℕ) (name : List ℕ) (r : Reply) (o : Option Session) → (greeted m.desk c epoch number name r o).sessions client ≡ Some w
      → IsOfSession s m (event.Call c epoch number (call.Hello name)) (Some r) client w
  greets c epoch number name r (Some v) h = keep (event.Call c epoch number (call.Hello name)) (Some r) h
  greets c epoch number name r None h = first (epoch == 0 && number == 1) refl h
    where
      x : Event
      x = event.Call c epoch number (call.Hello name)

      v : Session
      v = record { who = name; last = 1; reply = r }

      mine : (b : Bool) → (client == c) ≡ b → (epoch == 0 && number == 1) ≡ true → cond {A = Option Session} b (Some v) (m.desk.sessions client) ≡ Some w → IsOfSession s m x (Some r) client w
      mine false e t h = keep x (Some r) h
      mine true e t h = inr (record {
        epoch = epoch;
        number = number;
        made = call.Hello name;
        called = ap (λ k. event.Call k epoch number (call.Hello name)) (sym (eqb-true client c e));
        replied = ap (λ (u : Session). Some u.reply) (some-same v w h);
        last = eqb-true number 1 (and_parts (epoch == 0) (number == 1) t).1 ∙ ap (λ (u : Session). u.last) (some-same v w h);
        new = inr (name, refl);
        positive = (let one : 1 ≡ w.last = ap (λ (u : Session). u.last) (some-same v w h) in omega (arith, one));
      })

      first : (b : Bool) → (epoch == 0 && number == 1) ≡ b → (cond {A = Desk} b (with_session m.desk c (Some v)) m.desk).sessions client ≡ Some w → IsOfSession s m x (Some r) client w
      first false t h = keep x (Some r) h
      first true t h = mine (client == c) refl t h

  calls : (c epoch number : ℕ) (made : Call) (r : Reply) (b : Bool) → is_new m c epoch number ≡ b
      → (cond {A = Desk} b (counted m.desk (has_part m c) c number made r (m.desk.sessions c)) m.desk).sessions client ≡ Some w → IsOfSession s m (event.Call c epoch number made) (Some r) client w
  calls c epoch number made r false n h = keep (event.Call c epoch number made) (Some r) h
  calls c epoch number made r true n h = go (m.desk.sessions c) refl h
    where
      x : Event
      x = event.Call c epoch number made

      mine : (v : Session) → m.desk.sessions c ≡ Some v → (b : Bool) → (client == c) ≡ b
          → cond {A = Option Session} b (Some (record v { last = number; reply = r })) (m.desk.sessions client) ≡ Some w → IsOfSession s m x (Some r) client w
      mine v is false e h = keep x (Some r) h
      mine v is true e h =
          let u : Session = record v { last = number; reply = r } in
          let here = kept c v is in
          let now : follows m.ids.epoch epoch number (Some v) ≡ true = subst (λ o. follows m.ids.epoch epoch number o ≡ true) is n in
          let was : is_new s c epoch number ≡ true = (λ i. follows (sym here.1 i) epoch number (here.0 i)) ∙ now in
          let same : client ≡ c = eqb-true client c e in
          inr (record {
            epoch = epoch;
            number = number;
            made = made;
            called = ap (λ k. event.Call k epoch number made) (sym same);
            replied = ap (λ (y : Session). Some y.reply) (some-same u w h);
            last = ap (λ (y : Session). y.last) (some-same u w h);
            positive = (
                let a : number ≡ w.last = ap (λ (y : Session). y.last) (some-same u w h) in
                let b : number ≡ v.last + 1 = eqb-true number (v.last + 1) (and_parts (epoch == m.ids.epoch) (number == v.last + 1) now).1 in
                omega (arith, a, b)
                );
            new = inl (subst (λ k. is_new s k epoch number ≡ true) (sym same) was, eqb-true epoch m.ids.epoch (and_parts (epoch == m.ids.epoch) (number == v.last + 1) now).0);
          })

      go : (o : Option Session) → m.desk.sessions c ≡ o → (counted m.desk (has_part m c) c number made r o).sessions client ≡ Some w → IsOfSession s m x (Some r) client w
      go None is h = keep x (Some r) h
      go (Some v) is h =
          let u : Desk = with_session m.desk c (Some (record v { last = number; reply = r })) in
          mine v is (client == c) refl (ap (λ (k : Kept). k client) (sym (waits-same u (has_part m c) c number made r)) ∙ h)

  -- a call that is not answered leaves the desk
  silent : (c epoch number : ℕ) (made : Call) → (desk_told m (event.Call c epoch number made) None).sessions client ≡ Some w → m.desk.sessions client ≡ Some w
  silent c epoch number (call.Hello a) h = h
  silent c epoch number (call.Begin a) h = h
  silent c epoch number (call.Join a) h = h
  silent c epoch number (call.CreateFile a b d) h = h
  silent c epoch number (call.OpenFile a b d f g) h = h
  silent c epoch number (call.CloseFile a b) h = h
  silent c epoch number (call.DeleteFile a b d) h = h
  silent c epoch number (call.ReadPages a b d f g) h = h
  silent c epoch number (call.WritePages a b d f g) h = h
  silent c epoch number (call.LockPages a b d f g) h = h
  silent c epoch number (call.SetSize a b d f) h = h
  silent c epoch number (call.ReadProps a b) h = h
  silent c epoch number (call.WriteProps a b d f) h = h
  silent c epoch number (call.ReadOwner a b d) h = h
  silent c epoch number (call.MakeOwner a b d f g) h = h
  silent c epoch number (call.SetQuota a b d f) h = h
  silent c epoch number (call.Finish a b) h = h
  silent c epoch number (call.Outcome a) h = h
  silent c epoch number (call.Collect a) h = h

  answered : (x : Event) (r : Option Reply) → (desk_told m x r).sessions client ≡ Some w → IsOfSession s m x r client w
  answered (event.Call c epoch number made) None h = keep (event.Call c epoch number made) None (silent c epoch number made h)
  answered (event.Call c epoch number (call.Hello name)) (Some r) h = greets c epoch number name r (m.desk.sessions c) h
  answered (event.Call c epoch number (call.Begin seen)) (Some r) h = calls c epoch number (call.Begin seen) r (is_new m c epoch number) refl h
  answered (event.Call c epoch number (call.Join t)) (Some r) h = calls c epoch number (call.Join t) r (is_new m c epoch number) refl h
  answered (event.Call c epoch number (call.CreateFile t a o)) (Some r) h = calls c epoch number (call.CreateFile t a o) r (is_new m c epoch number) refl h
  answered (event.Call c epoch number (call.OpenFile t f a d o)) (Some r) h = calls c epoch number (call.OpenFile t f a d o) r (is_new m c epoch number) refl h
  answered (event.Call c epoch number (call.CloseFile t n)) (Some r) h = calls c epoch number (call.CloseFile t n) r (is_new m c epoch number) refl h
  answered (event.Call c epoch number (call.DeleteFile t n o)) (Some r) h = calls c epoch number (call.DeleteFile t n o) r (is_new m c epoch number) refl h
  answered (event.Call c epoch number (call.ReadPages t n u d o)) (Some r) h = calls c epoch number (call.ReadPages t n u d o) r (is_new m c epoch number) refl h
  answered (event.Call c epoch number (call.WritePages t n u p o)) (Some r) h = calls c epoch number (call.WritePages t n u p o) r (is_new m c epoch number) refl h
  answered (event.Call c epoch number (call.LockPages t n u d o)) (Some r) h = calls c epoch number (call.LockPages t n u d o) r (is_new m c epoch number) refl h
  answered (event.Call c epoch number (call.SetSize t n z o)) (Some r) h = calls c epoch number (call.SetSize t n z o) r (is_new m c epoch number) refl h
  answered (event.Call c epoch number (call.ReadProps t n)) (Some r) h = calls c epoch number (call.ReadProps t n) r (is_new m c epoch number) refl h
  answered (event.Call c epoch number (call.WriteProps t n d o)) (Some r) h = calls c epoch number (call.WriteProps t n d o) r (is_new m c epoch number) refl h
  answered (event.Call c epoch number (call.ReadOwner t a o)) (Some r) h = calls c epoch number (call.ReadOwner t a o) r (is_new m c epoch number) refl h
  answered (event.Call c epoch number (call.MakeOwner t a q l o)) (Some r) h = calls c epoch number (call.MakeOwner t a q l o) r (is_new m c epoch number) refl h
  answered (event.Call c epoch number (call.SetQuota t a q o)) (Some r) h = calls c epoch number (call.SetQuota t a q o) r (is_new m c epoch number) refl h
  answered (event.Call c epoch number (call.Finish t b)) (Some r) h = calls c epoch number (call.Finish t b) r (is_new m c epoch number) refl h
  answered (event.Call c epoch number (call.Outcome t)) (Some r) h = calls c epoch number (call.Outcome t) r (is_new m c epoch number) refl h
  answered (event.Call c epoch number (call.Collect n)) (Some r) h = calls c epoch number (call.Collect n) r (is_new m c epoch number) refl h
  answered (event.Arrive from a) r h = keep (event.Arrive from a) r h
  answered (event.Timeout t) r h = keep (event.Timeout t) r h
  answered event.Tick r h = keep event.Tick r h
  answered event.Force r h = keep event.Force r h
  answered event.Restart r h = keep event.Restart r h

pub session-after : (s : State) (e : Entry) (client : ℕ) (w : Session) → (next s e).desk.sessions client ≡ Some w → IsOfSession s (next s e) e.event e.reply client w
session-after s e client w h = go (stops e) h
  where
    -- the epoch is the one after the deeds, whatever the answer does to the desk
    as_told : IsOfSession s (did s e) e.event e.reply client w → IsOfSession s (told s e) e.event e.reply client w
    as_told r = elim r [
      | inl k ↦ inl k
      | inr l ↦ inr (record { epoch = l.epoch; number = l.number; made = l.made; called = l.called; replied = l.replied; last = l.last; new = l.new; positive = l.positive })
    ]

    go : (b : Bool) → (cond b (halted s e) (told s e)).desk.sessions client ≡ Some w → IsOfSession s (cond b (halted s e) (told s e)) e.event e.reply client w
    go true h = inl (h, refl)
    go false h = as_told (answered s (did s e) client w (kept-deeds (tried s e) s) e.event e.reply h)
