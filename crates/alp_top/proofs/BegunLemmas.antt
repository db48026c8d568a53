-- an entry that tells that a transaction began names one of this run
use Rattle.std.specs.Prelude.{true, false, not, Bool, cond, ◌==◌, ◌&&◌, ◌≤◌, filter, flat_map, Option, None, Some, IsSome, slice_get}
use Rattle.std.proofs.Common.{inl, inr, ◌≡◌, ℕ, zero, suc, ◌+◌, List, [], ◌∷◌, ◌++◌, refl, sym, ◌∙◌, ap, subst, arith}
use Rattle.alp_base.specs.declared.ids.JoinNo.{JoinNo}
use Rattle.alp_base.specs.declared.ids.Stamp.{Stamp}
use Rattle.alp_base.specs.declared.ids.TransId.{TransId}
use Rattle.alp_files.specs.declared.call.Call.{Call}
use Rattle.alp_files.specs.declared.call.Call.TheVariants as call
use Rattle.alp_files.specs.declared.refusal.Refusal.TheVariants as refusal
use Rattle.alp_files.specs.declared.reply.Reply.{Reply}
use Rattle.alp_files.specs.declared.reply.Reply.TheVariants as reply
use Rattle.alp_files.specs.History.{PerformedCall}
use Rattle.alp_journal.specs.Along.{Along, Where, state_after}
use Rattle.alp_journal.specs.Deeds.{Deed, Begins, Restarts}
use Rattle.alp_journal.specs.Deeds as deed
use Rattle.alp_journal.specs.Desk.{Session}
use Rattle.alp_journal.specs.Holder.{Holder, Life, holder_after, grants, performs, readies, commits}
use Rattle.alp_journal.specs.Laws.{drawn_by, begun_in, CountsOn, Repeats, Greets, CallsOn, stale, TellsIn, TellsDecided, IsLawfulDeed, IsLawfulEntry, IsLawful, Regains}
use Rattle.alp_journal.specs.Moves.{is_new, follows, event_deeds, act_deeds, done_deeds, is_effective, resolved, stops, tried, told, halted, next, next_trans, principal}
use Rattle.alp_journal.specs.Opening.{Start}
use Rattle.alp_journal.specs.State.{State, state_deed, opened}
use Rattle.alp_journal.specs.declared.act.Act.{Act}
use Rattle.alp_journal.specs.declared.act.Act.TheVariants as act
use Rattle.alp_journal.specs.declared.entry.Entry.{Entry}
use Rattle.alp_journal.specs.declared.event.Event.{Event}
use Rattle.alp_journal.specs.declared.event.Event.TheVariants as event
use Rattle.alp_history.specs.Log.{IsIn}
use Rattle.alp_history.proofs.Linked.{in-left, in-right}
use Rattle.alp_history.proofs.Sessions.{IsOfSession, session-after}

-- ---- what is of this run

-- a reply that tells of a transaction tells of one that this server began, in this run
abbrev pub TellsYoung : Start → Option Reply → Type 0
TellsYoung o (Some (reply.Begun t)) = (t.server ≡ o.server) × (o.epoch ≤ t.epoch)
TellsYoung o r = Unit {0}

-- a state that has come of the opening: no session keeps another reply
record IsYoung (o : Start) (s : State) : Type 0 where
  server : s.holder.server ≡ o.server
  epoch : o.epoch ≤ s.ids.epoch
  kept : (client : ℕ) (w : Session) → s.desk.sessions client ≡ Some w → TellsYoung o (Some w.reply)

-- ---- deeds

grants_server : (h : Holder) (t : TransId) (c : Call) (l : Option Life) → (grants h t c l).server ≡ h.server
grants_server h t c None = refl
grants_server h t c (Some l) = refl

performs_server : (h : Holder) (t : TransId) (d : PerformedCall) (l : Option Life) → (performs h t d l).server ≡ h.server
performs_server h t d None = refl
performs_server h t d (Some l) = refl

readies_server : (h : Holder) (t : TransId) (ts : ℕ) (l : Option Life) → (readies h t ts l).server ≡ h.server
readies_server h t ts None = refl
readies_server h t ts (Some l) = refl

commits_server : (h : Holder) (stamp : Stamp) (l : Option Life) → (commits h stamp l).server ≡ h.server
commits_server h stamp None = refl
commits_server h stamp (Some l) = refl

deed_server : (h : Holder) (d : Deed) → (holder_after h d).server ≡ h.server
deed_server h (deed.Begins t client who seen) = refl
deed_server h (deed.Enters j t client who) = refl
deed_server h (deed.Grants t c) = grants_server h t c (h.lives t)
deed_server h (deed.Performs t d) = performs_server h t d (h.lives t)
deed_server h (deed.Releases t) = refl
deed_server h (deed.Readies j t ts) = readies_server h t ts (h.lives t)
deed_server h (deed.Aborts j t client c) = refl
deed_server h (deed.Decides stamp js) = commits_server h stamp (h.lives stamp.trans)
deed_server h (deed.Applies j stamp) = commits_server h stamp (h.lives stamp.trans)
deed_server h (deed.Restarts epoch clock) = refl
deed_server h d = refl

-- an epoch that a restart begins is no older
abbrev StartsYoung : Start → Deed → Type 0
StartsYoung o (Restarts epoch clock) = o.epoch ≤ epoch
StartsYoung o d = Unit {0}

deed_epoch : (o : Start) (s : State) (d : Deed) → StartsYoung o d → o.epoch ≤ s.ids.epoch → o.epoch ≤ (state_deed s d).ids.epoch
deed_epoch o s (Restarts epoch clock) starts h = starts
deed_epoch o s d starts h = h

-- the server and the epoch
record IsOnwards (o : Start) (s : State) : Type 0 where
  server : s.holder.server ≡ o.server
  epoch : o.epoch ≤ s.ids.epoch

onwards_deed : (o : Start) (s : State) (d : Deed) → StartsYoung o d → IsOnwards o s → IsOnwards o (state_deed s d)
onwards_deed o s d starts h = record { server = deed_server s.holder d ∙ h.server; epoch = deed_epoch o s d starts h.epoch }

-- a lawful deed begins the next epoch, if it begins one
lawful_starts : (o : Start) (s : State) (d : Deed) → IsOnwards o s → CountsOn s d → StartsYoung o d
lawful_starts o s (Restarts epoch clock) h counts = (let low : o.epoch ≤ s.ids.epoch = h.epoch in let is : epoch ≡ s.ids.epoch + 1 = counts in omega (arith, low, is))
lawful_starts o s d h counts = tt

onwards_along : (o : Start) (x : Event) (ds : List Deed) (s : State) → Along state_deed (IsLawfulDeed x) s ds → IsOnwards o s → IsOnwards o (state_after state_deed s ds)
onwards_along o x [] s law h = h
onwards_along o x (d ∷ ds) s law h = onwards_along o x ds (state_deed s d) law.1 (onwards_deed o s d (lawful_starts o s d h law.0.counts) h)

-- what a restart finds made begins no epoch
effective_starts : (o : Start) (ready : List JoinNo) (clock : ℕ) (stamps : List Stamp) (d : Deed) → is_effective ready clock stamps d ≡ true → StartsYoung o d
effective_starts o ready clock stamps (Restarts epoch time) h = (let wrong : false ≡ true = h in cc)
effective_starts o ready clock stamps d h = tt

onwards_found : (o : Start) (ready : List JoinNo) (clock : ℕ) (stamps : List Stamp) (ds : List Deed) (s : State) → IsOnwards o s → IsOnwards o (state_after state_deed s (filter (is_effective ready clock stamps) ds))
onwards_found o ready clock stamps [] s h = h
onwards_found o ready clock stamps (d ∷ ds) s h = go (is_effective ready clock stamps d) refl (onwards_found o ready clock stamps ds)
  where
    go : (b : Bool) → is_effective ready clock stamps d ≡ b → ((m : State) → IsOnwards o m → IsOnwards o (state_after state_deed m (filter (is_effective ready clock stamps) ds))) → IsOnwards o (state_after state_deed s (cond b (d ∷ filter (is_effective ready clock stamps) ds) (filter (is_effective ready clock stamps) ds)))
    go true is more = more (state_deed s d) (onwards_deed o s d (effective_starts o ready clock stamps d is) h)
    go false is more = more s h

onwards_append : (o : Start) (s : State) (ds : List Deed) (epoch clock : ℕ) → o.epoch ≤ epoch → IsOnwards o (state_after state_deed s ds) → IsOnwards o (state_after state_deed s (((ds ++ Restarts epoch clock ∷ []) ++ []) ++ []))
onwards_append o s [] epoch clock low h = onwards_deed o s (Restarts epoch clock) low h
onwards_append o s (d ∷ ds) epoch clock low h = onwards_append o (state_deed s d) ds epoch clock low h

-- ---- an entry

onwards_if : (o : Start) (s : State) (e : Entry) (b : Bool) → IsOnwards o s → IsOnwards o (state_after state_deed s (tried s e)) → IsOnwards o (cond b (halted s e) (told s e))
onwards_if o s e true h more = record { server = h.server; epoch = h.epoch }
onwards_if o s e false h more = record { server = more.server; epoch = more.epoch }

onwards_restart : (o : Start) (s : State) (r : Option Reply) (acts : List Act) → Regains s acts → IsOnwards o s → IsOnwards o (state_after state_deed s (tried s (record { event = event.Restart; reply = r; acts = acts })))
onwards_restart o s r (act.Regained epoch clock ready stamps ∷ []) law h =
    onwards_append o s (resolved s ready clock stamps) epoch clock (let low : o.epoch ≤ s.ids.epoch = h.epoch in let is : epoch ≡ s.ids.epoch + 1 = law.0 in omega (arith, low, is))
    (onwards_found o ready clock stamps s.pending s h)
onwards_restart o s r [] law h = absurd law
onwards_restart o s r (act.Regained epoch clock ready stamps ∷ a ∷ acts) law h = absurd law
onwards_restart o s r (act.Sent to m ∷ acts) law h = absurd law
onwards_restart o s r (act.Granted t ∷ acts) law h = absurd law
onwards_restart o s r (act.Drawn t ∷ acts) law h = absurd law
onwards_restart o s r (act.Registered t j ∷ acts) law h = absurd law
onwards_restart o s r (act.Readied t j ts ∷ acts) law h = absurd law
onwards_restart o s r (act.Decided x js ∷ acts) law h = absurd law
onwards_restart o s r (act.Applied j x ∷ acts) law h = absurd law
onwards_restart o s r (act.Released t ∷ acts) law h = absurd law
onwards_restart o s r (act.Forgot t ∷ acts) law h = absurd law
onwards_restart o s r (act.Stopped ∷ acts) law h = absurd law
onwards_restart o s r (act.Failed ∷ acts) law h = absurd law

onwards_tried : (o : Start) (s : State) (x : Event) (r : Option Reply) (acts : List Act) → IsLawfulEntry s (record { event = x; reply = r; acts = acts }) → IsOnwards o s → IsOnwards o (state_after state_deed s (tried s (record { event = x; reply = r; acts = acts })))
onwards_tried o s event.Restart r acts law h = onwards_restart o s r acts law.restart.0 h
onwards_tried o s (event.Call client epoch number c) r acts law h = onwards_along o (event.Call client epoch number c) (tried s (record { event = event.Call client epoch number c; reply = r; acts = acts })) s law.deeds h
onwards_tried o s (event.Arrive from m) r acts law h = onwards_along o (event.Arrive from m) (tried s (record { event = event.Arrive from m; reply = r; acts = acts })) s law.deeds h
onwards_tried o s (event.Timeout t) r acts law h = onwards_along o (event.Timeout t) (tried s (record { event = event.Timeout t; reply = r; acts = acts })) s law.deeds h
onwards_tried o s event.Tick r acts law h = onwards_along o event.Tick (tried s (record { event = event.Tick; reply = r; acts = acts })) s law.deeds h
onwards_tried o s event.Force r acts law h = onwards_along o event.Force (tried s (record { event = event.Force; reply = r; acts = acts })) s law.deeds h

onwards_entry : (o : Start) (s : State) (e : Entry) → IsLawfulEntry s e → IsOnwards o s → IsOnwards o (next s e)
onwards_entry o s e law h = onwards_if o s e (stops e) h (onwards_tried o s e.event e.reply e.acts law h)

-- ---- a transaction that a new call is told of

abbrev first_of : TransId → List TransId → TransId
first_of u [] = u
first_of u (t ∷ ts) = t

drawn_in : (acts : List Act) (t : TransId) → flat_map drawn_by acts ≡ t ∷ [] → IsIn (act.Drawn t) acts
drawn_in [] t h = (let wrong : [] ≡ t ∷ [] = h in cc)
drawn_in (act.Drawn u ∷ acts) t h = inl (ap act.Drawn (sym (ap (first_of u) h)))
drawn_in (act.Sent to m ∷ acts) t h = inr (drawn_in acts t h)
drawn_in (act.Granted u ∷ acts) t h = inr (drawn_in acts t h)
drawn_in (act.Registered u j ∷ acts) t h = inr (drawn_in acts t h)
drawn_in (act.Readied u j ts ∷ acts) t h = inr (drawn_in acts t h)
drawn_in (act.Decided x js ∷ acts) t h = inr (drawn_in acts t h)
drawn_in (act.Applied j x ∷ acts) t h = inr (drawn_in acts t h)
drawn_in (act.Released u ∷ acts) t h = inr (drawn_in acts t h)
drawn_in (act.Forgot u ∷ acts) t h = inr (drawn_in acts t h)
drawn_in (act.Regained a b c d ∷ acts) t h = inr (drawn_in acts t h)
drawn_in (act.Stopped ∷ acts) t h = inr (drawn_in acts t h)
drawn_in (act.Failed ∷ acts) t h = inr (drawn_in acts t h)

in_flat : {A B : Type 0} (f : A → List B) (xs : List A) (x : A) (y : B) → IsIn x xs → IsIn y (f x) → IsIn y (flat_map f xs)
in_flat f [] x y i k = absurd i
in_flat f (z ∷ xs) x y (inl e) k = in-left y (f z) (flat_map f xs) (subst (λ w. IsIn y (f w)) e k)
in_flat f (z ∷ xs) x y (inr m) k = in-right y (f z) (flat_map f xs) (in_flat f xs x y m k)

-- a begin among lawful deeds is of the next id
begin_young : (o : Start) (x : Event) (ds : List Deed) (s : State) (t : TransId) (client : ℕ) (who : List ℕ) (seen : ℕ) → Along state_deed (IsLawfulDeed x) s ds → IsOnwards o s → IsIn (Begins t client who seen) ds → (t.server ≡ o.server) × (o.epoch ≤ t.epoch)
begin_young o x [] s t client who seen law h i = absurd i
begin_young o x (d ∷ ds) s t client who seen law h (inl is) =
    let next_is : t ≡ next_trans s = subst (CountsOn s) (sym is) law.0.counts in
    let epoch : t.epoch ≡ s.ids.epoch = ap (λ (u : TransId). u.epoch) next_is in
    let low : o.epoch ≤ s.ids.epoch = h.epoch in
    (ap (λ (u : TransId). u.server) next_is ∙ h.server, omega (arith, epoch, low))
begin_young o x (d ∷ ds) s t client who seen law h (inr more) = begin_young o x ds (state_deed s d) t client who seen law.1 (onwards_deed o s d (lawful_starts o s d h law.0.counts) h) more

module _ (o : Start) (s : State) (client epoch number : ℕ) (c : Call) (r : Option Reply) (acts : List Act) (law : IsLawfulEntry s (record { event = event.Call client epoch number c; reply = r; acts = acts })) (h : IsOnwards o s) (new : is_new s client epoch number ≡ true) where
  abbrev made : Entry
  made = record { event = event.Call client epoch number c; reply = r; acts = acts }

  -- only a Begin is told so
  begin_told : (t : TransId) → r ≡ Some (reply.Begun t) → (seen : Stamp) × (c ≡ call.Begin seen)
  begin_told t is = go c tells
    where
      tells : TellsIn (next s made) c (reply.Begun t)
      tells =
          subst (λ (b : Bool). Where b (TellsIn (next s made) c (reply.Begun t)) (Unit {0})) new
          (subst (λ (q : Option Reply). TellsDecided s (next s made) (event.Call client epoch number c) q) is law.told)

      go : (c : Call) → TellsIn (next s made) c (reply.Begun t) → (seen : Stamp) × (c ≡ call.Begin seen)
      go (call.Begin seen) told = (seen, refl)
      go c told = absurd told

  new_young : (t : TransId) → r ≡ Some (reply.Begun t) → (t.server ≡ o.server) × (o.epoch ≤ t.epoch)
  new_young t is =
      let (seen, begins) = begin_told t is in
      let drawn : flat_map drawn_by acts ≡ t ∷ [] = law.drawn ∙ (λ i. cond (new i) (begun_in r) []) ∙ ap begun_in is in
      let there : IsIn (act.Drawn t) acts = drawn_in acts t drawn in
      let deed_is : IsIn (Begins t client (principal s client) seen.ts) (act_deeds s (event.Call client epoch number (call.Begin seen)) (act.Drawn t)) = inl refl in
      let among : IsIn (Begins t client (principal s client) seen.ts) (flat_map (act_deeds s (event.Call client epoch number c)) acts) =
      subst (λ (x : Call). IsIn (Begins t client (principal s client) seen.ts) (flat_map (act_deeds s (event.Call client epoch number x)) acts)) (sym begins)
      (in_flat (act_deeds s (event.Call client epoch number (call.Begin seen))) acts (act.Drawn t) (Begins t client (principal s client) seen.ts) there deed_is) in
      begin_young o (event.Call client epoch number c) (tried s made) s t client (principal s client) seen.ts law.deeds h
      (in-left (Begins t client (principal s client) seen.ts) (event_deeds s (event.Call client epoch number c) r acts ++ flat_map (act_deeds s (event.Call client epoch number c)) acts) (done_deeds s (event.Call client epoch number c) r)
      (in-right (Begins t client (principal s client) seen.ts) (event_deeds s (event.Call client epoch number c) r acts) (flat_map (act_deeds s (event.Call client epoch number c)) acts) among))

  by_reply : (q : Option Reply) → r ≡ q → TellsYoung o q
  by_reply None is = tt
  by_reply (Some (reply.Begun t)) is = new_young t is
  by_reply (Some q) is = tt

-- ---- what an entry tells

same_young : (o : Start) (p q : Option Reply) → p ≡ q → TellsYoung o q → TellsYoung o p
same_young o p q is h = subst (TellsYoung o) (sym is) h

module _ (o : Start) (s : State) (e : Entry) (kept : (client : ℕ) (w : Session) → s.desk.sessions client ≡ Some w → TellsYoung o (Some w.reply)) where
  greets_young : (client epoch number : ℕ) (w : Option Session) → s.desk.sessions client ≡ w → Greets s epoch number e w → TellsYoung o e.reply
  greets_young client epoch number None is law = go (epoch == 0 && number == 1) law
    where
      go : (b : Bool) → Where b (e.reply ≡ Some (reply.Welcome s.ids.epoch)) (Repeats None e) → TellsYoung o e.reply
      go true law = same_young o e.reply (Some (reply.Welcome s.ids.epoch)) law tt
      go false law = same_young o e.reply None law.0 tt
  greets_young client epoch number (Some w) is law = go (epoch == 0 && number == 1 && w.last == 1) law
    where
      go : (b : Bool) → Where b (Repeats (Some w.reply) e) (Repeats None e) → TellsYoung o e.reply
      go true law = same_young o e.reply (Some w.reply) law.0 (kept client w is)
      go false law = same_young o e.reply None law.0 tt

  calls_young : (client epoch number : ℕ) (w : Option Session) → s.desk.sessions client ≡ w → CallsOn s epoch number e w → (is_new s client epoch number ≡ true → TellsYoung o e.reply) → TellsYoung o e.reply
  calls_young client epoch number None is law new = same_young o e.reply (stale s) law.0 tt
  calls_young client epoch number (Some w) is law new = by_epoch (epoch == s.ids.epoch) refl law
    where
      by_next : (b : Bool) → (epoch == s.ids.epoch) ≡ true → (number == (w.last + 1)) ≡ b → Where b (IsSome e.reply) (Repeats None e) → TellsYoung o e.reply
      by_next true now is_next law = new (ap (λ (x : Option Session). follows s.ids.epoch epoch number x) is ∙ (λ i. now i && is_next i))
      by_next false now is_next law = same_young o e.reply None law.0 tt

      by_last : (b : Bool) → (epoch == s.ids.epoch) ≡ true → Where b (Repeats (Some w.reply) e) (Where (number == (w.last + 1)) (IsSome e.reply) (Repeats None e)) → TellsYoung o e.reply
      by_last true now law = same_young o e.reply (Some w.reply) law.0 (kept client w is)
      by_last false now law = by_next (number == (w.last + 1)) now refl law

      by_epoch : (b : Bool) → (epoch == s.ids.epoch) ≡ b → Where (not b) (Repeats (stale s) e) (Where (number == w.last) (Repeats (Some w.reply) e) (Where (number == (w.last + 1)) (IsSome e.reply) (Repeats None e))) → TellsYoung o e.reply
      by_epoch true now law = by_last (number == w.last) now law
      by_epoch false now law = same_young o e.reply (stale s) law.0 tt

told_young : (o : Start) (s : State) (x : Event) (r : Option Reply) (acts : List Act) → IsLawfulEntry s (record { event = x; reply = r; acts = acts }) → IsYoung o s → TellsYoung o r
told_young o s x r acts law h = go x law
  where
    on : IsOnwards o s
    on = record { server = h.server; epoch = h.epoch }

    quiet : (b : Bool) → r ≡ cond b (Some (reply.Refused refusal.Down)) None → TellsYoung o r
    quiet true is = same_young o r (Some (reply.Refused refusal.Down)) is tt
    quiet false is = same_young o r None is tt

    calls : (client epoch number : ℕ) (c : Call) (law : IsLawfulEntry s (record { event = event.Call client epoch number c; reply = r; acts = acts })) → CallsOn s epoch number (record { event = event.Call client epoch number c; reply = r; acts = acts }) (s.desk.sessions client) → TellsYoung o r
    calls client epoch number c law on_session =
        calls_young o s (record { event = event.Call client epoch number c; reply = r; acts = acts }) h.kept client epoch number (s.desk.sessions client) refl on_session (λ new. by_reply o s client epoch number c r acts law on new r refl)

    go : (x : Event) → IsLawfulEntry s (record { event = x; reply = r; acts = acts }) → TellsYoung o r
    go (event.Call client epoch number (call.Hello name)) law = greets_young o s (record { event = event.Call client epoch number (call.Hello name); reply = r; acts = acts }) h.kept client epoch number (s.desk.sessions client) refl law.sessions
    go (event.Call client epoch number c) law = calls client epoch number c law law.sessions
    go (event.Arrive from m) law = quiet (stops (record { event = event.Arrive from m; reply = r; acts = acts })) law.sessions
    go (event.Timeout t) law = quiet (stops (record { event = event.Timeout t; reply = r; acts = acts })) law.sessions
    go event.Tick law = quiet (stops (record { event = event.Tick; reply = r; acts = acts })) law.sessions
    go event.Force law = quiet (stops (record { event = event.Force; reply = r; acts = acts })) law.sessions
    go event.Restart law = quiet (stops (record { event = event.Restart; reply = r; acts = acts })) law.sessions

young_next : (o : Start) (s : State) (e : Entry) → IsLawfulEntry s e → IsYoung o s → IsYoung o (next s e)
young_next o s e law h =
    let more : IsOnwards o (next s e) = onwards_entry o s e law (record { server = h.server; epoch = h.epoch }) in
    record { server = more.server; epoch = more.epoch; kept = λ client w is. of_session client w (session-after s e client w is) }
  where
    of_session : (client : ℕ) (w : Session) → IsOfSession s (next s e) e.event e.reply client w → TellsYoung o (Some w.reply)
    of_session client w (inl old) = h.kept client w old.0
    of_session client w (inr now) = same_young o (Some w.reply) e.reply (sym now.replied) (told_young o s e.event e.reply e.acts law h)

-- ---- a journal

young_at : (o : Start) (es : List Entry) (s : State) (i : ℕ) (e : Entry) → Along next IsLawfulEntry s es → IsYoung o s → slice_get es i ≡ Some e → TellsYoung o e.reply
young_at o [] s i e law h at = (let wrong : None ≡ Some e = at in cc)
young_at o (x ∷ es) s zero e law h at = (let same : x ≡ e = cc in subst (λ (z : Entry). TellsYoung o z.reply) same (told_young o s x.event x.reply x.acts law.0 h))
young_at o (x ∷ es) s (suc i) e law h at = young_at o es (next s x) i e law.1 (young_next o s x law.0 h) at

young_first : (o : Start) → IsYoung o (opened o)
young_first o = record { server = refl; epoch = omega arith; kept = λ client w is. (let wrong : None ≡ Some w = is in cc) }

pub begun_of_run : (o : Start) (es : List Entry) → IsLawful o es → (i : ℕ) (e : Entry) (t : TransId) → slice_get es i ≡ Some e → e.reply ≡ Some (reply.Begun t) → (t.server ≡ o.server) × (o.epoch ≤ t.epoch)
begun_of_run o es law i e t at is = subst (TellsYoung o) is (young_at o es (opened o) i e law (young_first o) at)
