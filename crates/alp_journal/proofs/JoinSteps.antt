-- a client joins another server's transaction here: the join is drawn, and asks to be let in
use Rattle.std.specs.Prelude.{cond, Bool, true, false, not, ◌&&◌, ◌||◌, ◌==◌, flat_map, is_some, nat_le, Option, None, Some, IsSome, if◌then◌else◌}
use Rattle.std.specs.List.{AllByRecursion}
use Rattle.std.specs.List.Sorted.{IsPermutation}
use Rattle.std.proofs.lemmas.Bool.{and_parts, eqb-true, not-true}
use Rattle.std.proofs.lemmas.List.{append-nil}
use Rattle.std.proofs.lemmas.List.Sorted.{IsPermutation-refl}
use Rattle.std.proofs.Common.{inl, inr, ◌≡◌, ℕ, ◌+◌, ◌<◌, ◌≤◌, List, [], ◌∷◌, ◌++◌, refl, sym, ◌∙◌, ap, subst, eq-eqb, arith, le_refl}
use Rattle.alp_base.specs.declared.ids.JoinNo.{JoinNo}
use Rattle.alp_base.specs.declared.ids.TransId.{TransId}
use Rattle.alp_files.specs.declared.call.Call.TheVariants as call
use Rattle.alp_files.specs.declared.reply.Reply.{Reply}
use Rattle.alp_files.specs.declared.reply.Reply.TheVariants as reply
use Rattle.alp_files.specs.declared.refusal.Refusal.{Refusal}
use Rattle.alp_files.specs.declared.refusal.Refusal.TheVariants as refusal
use Rattle.alp_files.specs.declared.refusal.Cause.{Cause}
use Rattle.alp_files.specs.declared.refusal.What.TheVariants as what
use Rattle.alp_files.proofs.FilesLemmas.{same-some}
use Rattle.alp_journal.specs.declared.message.Message.TheVariants as msg
use Rattle.alp_journal.specs.Along.{Where}
use Rattle.alp_journal.specs.Ids.{same_trans, same_join}
use Rattle.alp_journal.specs.Deeds.{Deed, Joins}
use Rattle.alp_journal.specs.Coordinator.{Fate, Undrawn, Running, Finishing, Committed, Forgotten, Ended, client_of}
use Rattle.alp_journal.specs.Participant.{Phase, Unseen, Joining, Active, Ready, Applied, Over, live_in, open_in}
use Rattle.alp_journal.specs.Participant as phase
use Rattle.alp_journal.specs.Holder.{Life}
use Rattle.alp_journal.specs.Desk.{Desk, Session, Waiting, file_trans, part_trans, is_of, is_of_part, waiting_of, buried, with_session}
use Rattle.alp_journal.specs.State.{State, state_deed, has_part, is_this, is_whose, is_other_server}
use Rattle.alp_journal.specs.Moves.{who_is, joins_here, next_join, principal}
use Rattle.alp_journal.specs.Laws.{IsBlocked}
use Rattle.alp_journal.specs.Messages.{Mail, asks_to_join}
use Rattle.alp_journal.specs.Answers.{is_no_part, phase_part, part_at, count_of_transactions, too_many, First, join_reply}
use Rattle.alp_journal.specs.Account.{Account, state_of, is_other, IsFateOf, IsPhaseOf, Stands, Tells, IsSettled, IsQuiet, HasTried, IsPartOf, IsOfPart, IsFinishOf, IsOther, HasCome, AreTwo, HasWaits, HasNoJoin, sent_acts, Leads}
use Rattle.alp_journal.proofs.IdLemmas.{same_trans-true, same_trans-itself, same_join-true, all-append, all-filter}
use Rattle.alp_journal.proofs.MadeIds.{all-map}
use Rattle.alp_journal.proofs.WaitLemmas.{turned, passing, all-both, found-none, apart-last, file_part}
use Rattle.alp_journal.proofs.TurnLemmas.{blocked-as}
use Rattle.alp_journal.proofs.StandLemmas.{next_undrawn, moved_each, moved_phase, whose_own, live_of_open, not_own_server, not_both_servers, own_server, own_here, join_none}
use Rattle.alp_journal.proofs.PartLemmas.{WaitsAs, each_waits, joined_part_at}
use Rattle.alp_journal.proofs.MoveLemmas.{stands_drawn}
use Rattle.alp_journal.proofs.DeskLemmas.{found-last, came-before}
use Rattle.alp_journal.proofs.QuietLemmas.{other-on, came_on, later-come, stands_as, waits-last, calls-last}
use Rattle.alp_journal.proofs.CallLemmas.{IsMail, no_mail, mail_behind, call_entry, new_call, call_leads}
use Rattle.alp_journal.proofs.BeginCalls.{is_buried, unburied, not_dead, tells_unburied, with_buried_as, buried_quiet}
use Rattle.alp_journal.proofs.CollectCalls.{its_join}

-- ---- a client that has no part of it

-- the next join was not seen
pub next_unseen : (a : Account) → Stands a → a.phases (next_join (state_of a)) ≡ Unseen
next_unseen a q = go (a.phases (next_join (state_of a))) (q.phases (next_join (state_of a)))
  where
    go : (p : Phase) → IsPhaseOf a.servers a.holder.server a.ids.epoch a.ids.joins a.joined (next_join (state_of a)) p → p ≡ Unseen
    go Unseen h = refl
    go (Joining t c who) h = absurd (next_undrawn a.holder.server a.ids.epoch a.ids.joins h.0.0)
    go (Active t c who) h = absurd (next_undrawn a.holder.server a.ids.epoch a.ids.joins h.0.0)
    go (Ready t c ts) h = absurd (next_undrawn a.holder.server a.ids.epoch a.ids.joins h.0.0)
    go (Applied t stamp) h = absurd (next_undrawn a.holder.server a.ids.epoch a.ids.joins h.0)
    go Over h = absurd (next_undrawn a.holder.server a.ids.epoch a.ids.joins h.0)

live_part : (client : ℕ) (t : TransId) (p : Phase) → is_whose client t (live_in p) ≡ true → is_no_part (phase_part p) ≡ false
live_part client t Unseen h = let wrong : false ≡ true = h in cc
live_part client t (Joining u c who) h = refl
live_part client t (Active u c who) h = refl
live_part client t (Ready u c ts) h = refl
live_part client t (Applied u stamp) h = let wrong : false ≡ true = h in cc
live_part client t Over h = let wrong : false ≡ true = h in cc

-- it has no live join either, where the transaction is of another server
pub none_joined : (a : Account) (client : ℕ) (t : TransId) → Stands a → is_other a.servers a.holder.server t.server ≡ true → is_no_part (part_at (state_of a) client t) ≡ true → HasNoJoin a.phases client t
none_joined a client t q far none j = go (is_whose client t (live_in (a.phases j))) refl
  where
    go : (b : Bool) → is_whose client t (live_in (a.phases j)) ≡ b → b ≡ false
    go false e = refl
    go true e =
        let wrong : true ≡ false = sym none ∙ ap is_no_part (joined_part_at a t client j q (not_own_server a.servers a.holder.server t.server far) e) ∙ live_part client t (a.phases j) e in
        cc

module _ (a : Account) (client number : ℕ) (w : Session) (t : TransId) where
  -- all that is known where one is drawn
  pub record DrawOwes : Type 0 where
    pub quiet : IsQuiet a
    pub up : a.is_down ≡ false
    pub there : a.sessions client ≡ Some w
    pub turn : number ≡ w.last + 1
    pub raised : 0 < a.ids.epoch
    pub none : is_no_part (part_at (state_of a) client t) ≡ true
    pub far : is_other_server (state_of a) t.server ≡ true

  abbrev join_waiter : Waiting
  join_waiter = record { client = client; number = number; call = call.Join t; is_granted = false }

  -- the transaction's server is asked
  abbrev pub register_mail : List Mail
  register_mail = (t.server, msg.Register t (next_join (state_of a)) client) ∷ []

  -- the client's dead parts go, the join asks to be let in, and the call waits for it
  abbrev pub with_join : Account
  with_join = record (with_buried_as a client number w (reply.Refused refusal.NotYet)) {
    ids = record a.ids { joins = a.ids.joins + 1 };
    phases = λ k. if same_join (next_join (state_of a)) k then phase.drawn t client w.who (a.phases k) else a.phases k;
    joined = a.joined ++ next_join (state_of a) ∷ [];
    waits = unburied a client ++ join_waiter ∷ [];
  }

  unjoined : DrawOwes → HasNoJoin a.phases client t
  unjoined o = none_joined a client t o.quiet.settled.stands o.far o.none

  -- no call of the part waits but of a dead one
  off_part : DrawOwes → (v : Waiting) → is_buried a client v ≡ false → WaitsAs a v → is_of_part client t v ≡ false
  off_part o v off h = go (is_of_part client t v) refl
    where
      q : IsSettled a
      q = o.quiet.settled

      here_not : t.server ≡ a.holder.server → ⊥
      here_not here = not_both_servers a.servers a.holder.server t.server o.far here

      wrong_one : v.client ≡ client → (u : TransId) → u ≡ t → WaitsAs a v → part_trans v.call ≡ Some u → ⊥
      wrong_one own u same (WaitsAs.file s of p) named = by (a.holder.lives s) refl p
        where
          one : s ≡ t
          one = same-some s u (sym (file_part v.call s of) ∙ named) ∙ same

          part : (l : Life) → a.holder.lives t ≡ Some l → l.client ≡ client → (x : Option JoinNo) → l.join ≡ x → ⊥
          part l live mine None e = here_not (own_here a q.stands t l live e)
          part l live mine (Some j) e = let wrong : false ≡ true = sym (unjoined o j) ∙ ap (λ (n : ℕ). is_whose n t (live_in (a.phases j))) (sym mine) ∙ its_join a q.stands t l live j e in cc

          by : (x : Option Life) → a.holder.lives s ≡ x → IsPartOf v.client x (a.dead v.client s) → ⊥
          by None e p = not_dead a client v s (file_part v.call s of) off own p
          by (Some l) e p = part l (ap a.holder.lives (sym one) ∙ e) (sym p ∙ own) l.join refl
      wrong_one own u same (WaitsAs.join s of p) named = elim p [
        | inl x ↦ (
            let one : s ≡ t = same-some s u (sym of ∙ named) ∙ same in
            let wrong : false ≡ true = sym (unjoined o x.0) ∙ (λ i. is_whose (sym own i) (sym one i) (live_in (a.phases x.0))) ∙ live_of_open v.client s (a.phases x.0) x.1 in
            cc
            )
        | inr d ↦ not_dead a client v s of off own d
      ]
      wrong_one own u same (WaitsAs.finish s of p) named = by (a.fates s) refl (q.stands.fates s) p
        where
          one : s ≡ t
          one = same-some s u (sym of ∙ named) ∙ same

          at : s.server ≡ a.holder.server → ⊥
          at here = here_not (ap (λ (x : TransId). x.server) (sym one) ∙ here)

          dead : IsSome (a.dead v.client s) → ⊥
          dead d = not_dead a client v s of off own d

          by : (f : Fate) → a.fates s ≡ f → IsFateOf a.servers a.holder.server a.ids.epoch a.ids.transactions a.begun s f → IsFinishOf v.client f (a.dead v.client s) → ⊥
          by Undrawn e k h = dead h
          by (Running c js) e k h = dead h
          by (Finishing c js vs) e k h = at (own_server a.holder.server a.ids.epoch a.ids.transactions s k.0.0)
          by (Committed stamp js ds) e k h = at (own_server a.holder.server a.ids.epoch a.ids.transactions s k.0.0)
          by (Forgotten stamp js) e k h = at (own_server a.holder.server a.ids.epoch a.ids.transactions s k.0.0)
          by (Ended c) e k h = dead h

      named_of : (x : Option TransId) → part_trans v.call ≡ x → is_of t x ≡ true → v.client ≡ client → ⊥
      named_of None e m own = let wrong : false ≡ true = m in cc
      named_of (Some u) e m own = wrong_one own u (same_trans-true u t m) h e

      go : (b : Bool) → is_of_part client t v ≡ b → b ≡ false
      go false e = refl
      go true e = (let both = and_parts (v.client == client) (is_of t (part_trans v.call)) e in absurd (named_of (part_trans v.call) refl both.1 (eqb-true v.client client both.0)))

  off_all : DrawOwes → AllByRecursion (λ v. is_of_part client t v ≡ false) (unburied a client)
  off_all o = all-both (λ v. not (is_buried a client v) ≡ true) (WaitsAs a) (λ v. is_of_part client t v ≡ false) (λ v n h. off_part o v (not-true (is_buried a client v) n) h) (unburied a client)
      (passing (λ v. not (is_buried a client v)) a.waits) (all-filter (WaitsAs a) (λ v. not (is_buried a client v)) a.waits (each_waits a o.quiet.settled.tells))

  has_none : DrawOwes → has_part (state_of a) client t ≡ false
  has_none o = (λ i. is_this client (client_of (a.fates t)) || is_some (join_none a o.quiet.settled.stands client t (unjoined o) i)) ∙ ap (λ (b : Bool). b || false) (nobody (a.fates t) (o.quiet.settled.stands.fates t))
    where
      away : t.server ≡ a.holder.server → is_this client (client_of (a.fates t)) ≡ false
      away here = absurd (not_both_servers a.servers a.holder.server t.server o.far here)

      nobody : (f : Fate) → IsFateOf a.servers a.holder.server a.ids.epoch a.ids.transactions a.begun t f → is_this client (client_of f) ≡ false
      nobody Undrawn h = refl
      nobody (Running c js) h = absurd (not_both_servers a.servers a.holder.server t.server o.far (own_server a.holder.server a.ids.epoch a.ids.transactions t h.0.0))
      nobody (Finishing c js vs) h = absurd (not_both_servers a.servers a.holder.server t.server o.far (own_server a.holder.server a.ids.epoch a.ids.transactions t h.0.0))
      nobody (Committed stamp js ds) h = refl
      nobody (Forgotten stamp js) h = refl
      nobody (Ended c) h = refl

  -- ---- what is so then

  join_tells : DrawOwes → Tells with_join
  join_tells o =
      let q : IsSettled a = o.quiet.settled in
      let j : JoinNo = next_join (state_of a) in
      let new : a.phases j ≡ Unseen = next_unseen a q.stands in
      let told : Tells (record a { dead = with_join.dead; waits = unburied a client }) = tells_unburied a client q in
      let now : with_join.phases j ≡ Joining t client w.who = moved_phase a.phases j (phase.drawn t client w.who) ∙ ap (phase.drawn t client w.who) new in
      record {
        ended = λ d u c is. ((told.ended d u c is).0, λ k. none_then o d u c is k (same_join j k) refl);
        parts = all-append (λ (v : Waiting). IsOfPart a.holder.lives with_join.dead v (file_trans v.call)) (unburied a client) (join_waiter ∷ []) told.parts (tt, tt);
        others = all-append (λ (v : Waiting). IsOther a.fates with_join.phases with_join.dead v.client v.call) (unburied a client) (join_waiter ∷ [])
            (all-map (λ (v : Waiting). IsOther a.fates a.phases with_join.dead v.client v.call) (λ (v : Waiting). IsOther a.fates with_join.phases with_join.dead v.client v.call)
            (λ v h. other-on a.fates a.fates a.phases with_join.phases with_join.dead with_join.dead v.client v.call (λ u of k. elim k [ inl x ↦ inl (x.0, still o v.client u x.0 x.1 (same_join j x.0) refl) | inr d ↦ inr d ]) (λ u of k. k) h) (unburied a client) told.others)
            (inl (j, ap (λ (p : Phase). is_whose client t (open_in p)) now ∙ whose_own client t), tt);
        came = all-append (λ (v : Waiting). HasCome v.number (with_join.sessions v.client)) (unburied a client) (join_waiter ∷ [])
            (came_on a.sessions client (record w { last = number; reply = reply.Refused refusal.NotYet }) (later-come a.sessions client w (record w { last = number; reply = reply.Refused refusal.NotYet }) o.there (let turn : number ≡ w.last + 1 = o.turn in omega (arith, turn))) (unburied a client) told.came)
            (subst (λ (b : Bool). HasCome number (cond {A = Option Session} b (Some (record w { last = number; reply = reply.Refused refusal.NotYet })) (a.sessions client))) (sym (eq-eqb client client refl)) (le_refl number), tt);
        apart = apart-last (unburied a client) join_waiter told.apart (all-both (λ v. is_of_part client t v ≡ false) (λ (v : Waiting). (client == v.client && number == v.number) ≡ false) (λ v. AreTwo v join_waiter)
            (λ v off later. (λ u of. refl, later, λ u of. part v off u of (client == v.client) refl)) (unburied a client) (off_all o) (came-before a.sessions client number w (unburied a client) o.there o.turn told.came));
        joining = moved_each (λ k p. HasWaits (unburied a client ++ join_waiter ∷ []) p) a.phases j (phase.drawn t client w.who)
            (λ k away. waits-last (unburied a client) join_waiter (a.phases k) (λ u d ts is. unready o k u d ts is (client == d) (same_trans t u) refl refl) (told.joining k))
            (subst (λ (p : Phase). HasWaits (unburied a client ++ join_waiter ∷ []) (phase.drawn t client w.who p)) (sym new)
            (found-last (is_of_part client t) (unburied a client) join_waiter (ap (λ (b : Bool). b && same_trans t t) (eq-eqb client client refl) ∙ same_trans-itself t)));
        finishing = λ u. calls-last (unburied a client) join_waiter u (a.fates u) (λ d js vs is. refl) (told.finishing u);
      }
    where
      part : (v : Waiting) → is_of_part client t v ≡ false → (u : TransId) → part_trans v.call ≡ Some u → (b : Bool) → (client == v.client) ≡ b → (b && same_trans t u) ≡ false
      part v off u of false e = refl
      part v off u of true e =
          turned t u ∙ sym (ap (is_of t) of) ∙ ap (λ (b : Bool). b && is_of t (part_trans v.call)) (sym (eq-eqb v.client client (sym (eqb-true client v.client e)))) ∙ off

      none_then : DrawOwes → (d : ℕ) (u : TransId) (c : Cause) → with_join.dead d u ≡ Some c → (k : JoinNo) (b : Bool) → same_join (next_join (state_of a)) k ≡ b → is_whose d u (live_in (cond {A = Phase} b (phase.drawn t client w.who (a.phases k)) (a.phases k))) ≡ false
      none_then o d u c is k false e = ((tells_unburied a client o.quiet.settled).ended d u c is).1 k
      none_then o d u c is k true e =
          ap (λ (i : JoinNo). is_whose d u (live_in (phase.drawn t client w.who (a.phases i)))) (sym (same_join-true (next_join (state_of a)) k e))
          ∙ ap (λ (p : Phase). is_whose d u (live_in (phase.drawn t client w.who p))) (next_unseen a o.quiet.settled.stands) ∙ other (same_trans t u) (client == d) refl
        where
          other : (x y : Bool) → (client == d) ≡ y → (x && y) ≡ false
          other false y f = refl
          other true false f = refl
          other true true f =
              let gone : None ≡ Some c = ap (λ (b : Bool). cond {A = Option Cause} b None (a.dead d u)) (sym (eq-eqb d client (sym (eqb-true client d f)))) ∙ is in
              let wrong : None ≡ Some c = gone in
              cc

      still : DrawOwes → (n : ℕ) (u : TransId) (k : JoinNo) → is_whose n u (open_in (a.phases k)) ≡ true → (b : Bool) → same_join (next_join (state_of a)) k ≡ b → is_whose n u (open_in (with_join.phases k)) ≡ true
      still o n u k h false e = ap (λ (b : Bool). is_whose n u (open_in (cond {A = Phase} b (phase.drawn t client w.who (a.phases k)) (a.phases k)))) e ∙ h
      still o n u k h true e =
          let wrong : false ≡ true = ap (λ (p : Phase). is_whose n u (open_in p)) (sym (next_unseen a o.quiet.settled.stands)) ∙ ap (λ (i : JoinNo). is_whose n u (open_in (a.phases i))) (same_join-true (next_join (state_of a)) k e) ∙ h in
          cc

      unready : DrawOwes → (k : JoinNo) (u : TransId) (d ts : ℕ) → a.phases k ≡ Ready u d ts → (x y : Bool) → (client == d) ≡ x → same_trans t u ≡ y → (x && y) ≡ false
      unready o k u d ts is false y e f = refl
      unready o k u d ts is true false e f = refl
      unready o k u d ts is true true e f =
          let wrong : false ≡ true = sym (unjoined o k) ∙ ap (λ (p : Phase). is_whose client t (live_in p)) (is ∙ (λ i. Ready (sym (same_trans-true t u f) i) (sym (eqb-true client d e) i) ts)) ∙ whose_own client t in
          cc

  join_quiet : DrawOwes → IsQuiet with_join
  join_quiet o = record {
    settled = record {
      stands = stands_as (record a { ids = with_join.ids; phases = with_join.phases; joined = with_join.joined }) with_join.sessions with_join.waits with_join.dead false []
          (stands_drawn a o.quiet.settled.stands o.raised t client w.who o.far (unjoined o) (next_unseen a o.quiet.settled.stands));
      tells = join_tells o;
    };
    turns = all-append (λ (v : Waiting). IsBlocked (state_of with_join) v (file_trans v.call)) (unburied a client) (join_waiter ∷ [])
        (all-map (λ (v : Waiting). IsBlocked (state_of a) v (file_trans v.call)) (λ (v : Waiting). IsBlocked (state_of with_join) v (file_trans v.call)) (λ v b. blocked-as (state_of a) (state_of with_join) v (file_trans v.call) refl b) (unburied a client)
        (all-filter (λ (v : Waiting). IsBlocked (state_of a) v (file_trans v.call)) (λ v. not (is_buried a client v)) a.waits o.quiet.turns)) (tt, tt);
    tried = HasTried.nothing refl;
  }

  -- ---- the call

  -- a join is drawn, and its call waits
  pub join_drawn_leads : DrawOwes → too_many (state_of a) ≡ None → Leads false a (call_entry a client number w (call.Join t) (reply.Refused refusal.NotYet) (sent_acts register_mail)) with_join
  join_drawn_leads o few =
      let s : State = state_of a in
      let r : Reply = reply.Refused refusal.NotYet in
      let j : JoinNo = next_join s in
      let ds : List Deed = Joins j t client w.who ∷ [] in
      let after : State = state_deed s (Joins j t client w.who) in
      let d : Desk = buried (with_session s.desk client (Some (record w { last = number; reply = r }))) client in
      let drawn : joins_here s client t ≡ ds = ap (λ (b : Bool). cond {A = List Deed} b [] (Joins j t client (principal s client) ∷ [])) (has_none o) ∙ ap (λ (x : Option Session). Joins j t client (who_is x) ∷ []) o.there in
      let idle : waiting_of d client t ≡ None = found-none (is_of_part client t) (unburied a client) (off_all o) in
      call_leads a client number w false (call.Join t) r (sent_acts register_mail) ds with_join o.there o.turn (record {
        plain = λ m. refl;
        greets = λ e h. h;
        up = refl;
        running = o.up;
        brought = ap (λ (xs : List Deed). xs ++ [] ++ []) drawn;
        new = new_call a client number w o.there o.turn;
        there = o.there;
        left = ap (λ (x : Option Waiting). record after { desk = cond {A = Desk} (is_some x) d (record d { waits = d.waits ++ join_waiter ∷ [] }); is_down = false; pending = [] }) idle
            ∙ (λ i. state_of (record with_join { begun = append-nil a.begun i }));
        drawn = refl;
        deeds = (record { counts = (refl, o.far); view = tt; locks = tt; running = tt; registration = tt; vote = tt; decision = tt; application = tt; forgetting = tt }, tt);
        released = refl;
        granted = refl;
        said = (tt, tt);
        tells = tt;
        regained = refl;
        quiet = join_quiet o;
        answer = subst (λ (b : Bool). Where (b && not (is_other_server s t.server)) (r ≡ reply.Refused refusal.UnknownTrans)
            (Where b (First (too_many s) r (r ≡ reply.Refused refusal.NotYet)) (r ≡ join_reply (is_some (waiting_of s.desk client t)) (part_at s client t)))) (sym o.none)
            (subst (λ (b : Bool). Where (not b) (r ≡ reply.Refused refusal.UnknownTrans) (First (too_many s) r (r ≡ reply.Refused refusal.NotYet))) (sym o.far)
            (subst (λ (x : Option Refusal). First x r (r ≡ reply.Refused refusal.NotYet)) (sym few) refl));
        mail = subst (λ (ms : List Mail). IsMail ms (sent_acts register_mail)) (sym (ap (flat_map asks_to_join) drawn)) (mail_behind register_mail [] register_mail refl (ap (λ (b : Bool). b && true) (eq-eqb t.server t.server refl)) (IsPermutation-refl register_mail));
        turns = tt;
        grants = tt;
      })

  -- too many transactions are live: none is drawn, and the client's dead parts go
  pub join_refused_leads : (f : Refusal) → DrawOwes → too_many (state_of a) ≡ Some f → Leads false a (call_entry a client number w (call.Join t) (reply.Refused f) []) (with_buried_as a client number w (reply.Refused f))
  join_refused_leads f o many = go f many (many_is f many)
    where
      many_is : (f : Refusal) → too_many (state_of a) ≡ Some f → f ≡ refusal.TooMany what.Transactions 64
      many_is f e = by (nat_le 64 (count_of_transactions (state_of a))) e
        where
          by : (b : Bool) → cond {A = Option Refusal} b (Some (refusal.TooMany what.Transactions 64)) None ≡ Some f → f ≡ refusal.TooMany what.Transactions 64
          by true e = same-some f (refusal.TooMany what.Transactions 64) (sym e)
          by false e = let wrong : None ≡ Some f = e in cc

      go : (f : Refusal) → too_many (state_of a) ≡ Some f → f ≡ refusal.TooMany what.Transactions 64 → Leads false a (call_entry a client number w (call.Join t) (reply.Refused f) []) (with_buried_as a client number w (reply.Refused f))
      go f many is = subst (λ (g : Refusal). Leads false a (call_entry a client number w (call.Join t) (reply.Refused g) []) (with_buried_as a client number w (reply.Refused g))) (sym is)
          (call_leads a client number w false (call.Join t) (reply.Refused (refusal.TooMany what.Transactions 64)) [] [] (with_buried_as a client number w (reply.Refused (refusal.TooMany what.Transactions 64))) o.there o.turn (record {
            plain = λ m. refl;
            greets = λ e h. h;
            up = refl;
            running = o.up;
            brought = refl;
            new = new_call a client number w o.there o.turn;
            there = o.there;
            left = refl;
            drawn = refl;
            deeds = tt;
            released = refl;
            granted = refl;
            said = tt;
            tells = tt;
            regained = refl;
            quiet = buried_quiet a client number w (reply.Refused (refusal.TooMany what.Transactions 64)) o.quiet o.there o.turn;
            answer = subst (λ (b : Bool). Where (b && not (is_other_server (state_of a) t.server)) (reply.Refused (refusal.TooMany what.Transactions 64) ≡ reply.Refused refusal.UnknownTrans)
                (Where b (First (too_many (state_of a)) (reply.Refused (refusal.TooMany what.Transactions 64)) (reply.Refused (refusal.TooMany what.Transactions 64) ≡ reply.Refused refusal.NotYet)) (reply.Refused (refusal.TooMany what.Transactions 64) ≡ join_reply (is_some (waiting_of (state_of a).desk client t)) (part_at (state_of a) client t)))) (sym o.none)
                (subst (λ (b : Bool). Where (not b) (reply.Refused (refusal.TooMany what.Transactions 64) ≡ reply.Refused refusal.UnknownTrans) (First (too_many (state_of a)) (reply.Refused (refusal.TooMany what.Transactions 64)) (reply.Refused (refusal.TooMany what.Transactions 64) ≡ reply.Refused refusal.NotYet))) (sym o.far)
                (subst (λ (x : Option Refusal). First x (reply.Refused (refusal.TooMany what.Transactions 64)) (reply.Refused (refusal.TooMany what.Transactions 64) ≡ reply.Refused refusal.NotYet)) (sym (many ∙ ap Some is)) refl));
            mail = no_mail [] refl refl;
            turns = tt;
            grants = tt;
          }))
