-- joins of a client that has a part of the transaction already, and those of a transaction of which nobody gets one here
use Rattle.std.specs.Prelude.{cond, Bool, true, false, not, ◌&&◌, ◌==◌, find, flat_map, is_some, nat_lt, Option, None, Some, IsSome}
use Rattle.std.proofs.lemmas.Bool.{and_parts, eqb-true, ltb-true}
use Rattle.std.proofs.Common.{◌≡◌, ℕ, ◌+◌, ◌<◌, List, [], ◌∷◌, ◌++◌, refl, sym, ◌∙◌, ap, subst, eq-eqb, arith}
use Rattle.alp_base.specs.declared.ids.JoinNo.{JoinNo}
use Rattle.alp_base.specs.declared.ids.TransId.{TransId}
use Rattle.alp_files.specs.declared.call.Call.TheVariants as call
use Rattle.alp_files.specs.declared.reply.Reply.{Reply}
use Rattle.alp_files.specs.declared.reply.Reply.TheVariants as reply
use Rattle.alp_files.specs.declared.refusal.Refusal.TheVariants as refusal
use Rattle.alp_files.specs.declared.refusal.Cause.{Cause}
use Rattle.alp_journal.specs.Along.{Where}
use Rattle.alp_journal.specs.Ids.{same_trans}
use Rattle.alp_journal.specs.Deeds.{Deed, Joins}
use Rattle.alp_journal.specs.Coordinator.{Fate, Undrawn, Running, Finishing, Committed, Forgotten, Ended, client_of}
use Rattle.alp_journal.specs.Holder.{Life}
use Rattle.alp_journal.specs.Desk.{Desk, Session, Waiting, part_trans, is_of, is_on, is_of_part, waiting_of, is_not_yet, is_unknown, begins_if, buried, with_session}
use Rattle.alp_journal.specs.State.{State, has_part, is_other_server}
use Rattle.alp_journal.specs.Moves.{joins_here, next_join, principal}
use Rattle.alp_journal.specs.Laws.{TellsIn, begun_in}
use Rattle.alp_journal.specs.Messages.{asks_to_join}
use Rattle.alp_journal.specs.Answers.{Part, NoPart, AtJoining, AtWork, AtFinish, AtReady, AtEnd, own_part, ended_part, join_part, join_reply, is_no_part, part_at, too_many, First}
use Rattle.alp_journal.specs.Account.{Account, state_of, is_other, IsPartAs, IsPaired, Stands, IsQuiet, Leads}
use Rattle.alp_journal.proofs.IdLemmas.{same_trans-true}
use Rattle.alp_journal.proofs.WaitLemmas.{find-kept, all-of}
use Rattle.alp_journal.proofs.StandLemmas.{running_of, join_none}
use Rattle.alp_journal.proofs.PartLemmas.{own_part_at, far_part_at, part_has, part_not_dead, no_near_join}
use Rattle.alp_journal.proofs.CallLemmas.{no_mail, call_entry, new_call, call_leads}
use Rattle.alp_journal.proofs.RefusedCalls.{counted_as, counted_quiet}
use Rattle.alp_journal.proofs.BeginCalls.{is_buried, with_buried_as, buried_quiet}

none_ended : (d : Option Cause) → is_no_part (ended_part d) ≡ true
none_ended None = refl
none_ended (Some c) = refl

module _ (a : Account) (client : ℕ) (t : TransId) where
  -- the client has no live part of it here
  abbrev pub HasNoLife : Type 0
  HasNoLife = (l : Life) → a.holder.lives t ≡ Some l → l.client ≡ client → ⊥

  no_own : (f : Fate) → a.fates t ≡ f → Stands a → HasNoLife → is_no_part (own_part client (a.dead client t) f) ≡ true
  no_own f is q none = by f is
    where
      -- whoever runs has its part
      lives_on : (c : ℕ) → client_of (a.fates t) ≡ Some c → (c == client) ≡ true → ⊥
      lives_on c runs e = go (a.holder.lives t) refl (q.paired t)
        where
          part : (l : Life) → a.holder.lives t ≡ Some l → (x : Option JoinNo) → IsPartAs t a.phases l (a.fates t) x → ⊥
          part l live None h = none l live (some_same l.client c (sym h.0 ∙ runs) ∙ eqb-true c client e)
            where
              some_same : (m n : ℕ) → Some m ≡ Some n → m ≡ n
              some_same m n e = cc
          part l live (Some j) h = let wrong : true ≡ false = sym (running_of (a.fates t) c runs) ∙ h.1 in cc

          go : (x : Option Life) → a.holder.lives t ≡ x → IsPaired t a.phases x (a.fates t) → ⊥
          go None e h = let wrong : true ≡ false = sym (running_of (a.fates t) c runs) ∙ h in cc
          go (Some l) e h = part l e l.join h

      at : (c : ℕ) (p : Part) → client_of (a.fates t) ≡ Some c → (b : Bool) → (c == client) ≡ b → is_no_part (cond {A = Part} b p NoPart) ≡ true
      at c p runs true e = absurd (lives_on c runs e)
      at c p runs false e = refl

      by : (f : Fate) → a.fates t ≡ f → is_no_part (own_part client (a.dead client t) f) ≡ true
      by Undrawn e = none_ended (a.dead client t)
      by (Running c js) e = at c AtWork (ap client_of e) (c == client) refl
      by (Finishing c js vs) e = at c AtFinish (ap client_of e) (c == client) refl
      by (Committed stamp js ds) e = none_ended (a.dead client t)
      by (Forgotten stamp js) e = none_ended (a.dead client t)
      by (Ended c) e = none_ended (a.dead client t)

  pub no_part : Stands a → HasNoLife → is_other a.servers a.holder.server t.server ≡ false → is_no_part (part_at (state_of a) client t) ≡ true
  no_part q none near = go (t.server == a.holder.server) refl
    where
      go : (b : Bool) → (t.server == a.holder.server) ≡ b → is_no_part (part_at (state_of a) client t) ≡ true
      go true e = ap is_no_part (own_part_at a t client (eqb-true t.server a.holder.server e)) ∙ no_own (a.fates t) refl q none
      go false e = ap is_no_part (far_part_at a t client e ∙ ap (join_part (state_of a) (a.dead client t)) (join_none a q client t (no_near_join a q t near client))) ∙ none_ended (a.dead client t)

  -- where there is one server, no other is of the run
  pub no_other : (n : ℕ) → a.servers ≡ 1 → a.holder.server ≡ 1 → is_other_server (state_of a) n ≡ false
  no_other n few first = go (nat_lt 0 n) (nat_lt n (a.servers + 1)) refl refl
    where
      go : (b d : Bool) → nat_lt 0 n ≡ b → nat_lt n (a.servers + 1) ≡ d → (b && d && not (n == a.holder.server)) ≡ false
      go false d e f = refl
      go true false e f = refl
      go true true e f =
          let low : 0 < n = ltb-true 0 n e in
          let high : n < a.servers + 1 = ltb-true n (a.servers + 1) f in
          ap not (eq-eqb n a.holder.server (omega (arith, low, high, few, first)))

-- what a Join is answered that makes no part
pub record IsJoinReply (r : Reply) : Type 0 where
  pub known : is_unknown r ≡ false
  pub none : [] ≡ begun_in (Some r)
  pub tells : (m : State) (t : TransId) → TellsIn m (call.Join t) r

join_reply_is : (b : Bool) (p : Part) → IsJoinReply (join_reply b p)
join_reply_is true AtWork = record { known = refl; none = refl; tells = λ m t. tt }
join_reply_is false AtWork = record { known = refl; none = refl; tells = λ m t. tt }
join_reply_is b AtFinish = record { known = refl; none = refl; tells = λ m t. tt }
join_reply_is b AtReady = record { known = refl; none = refl; tells = λ m t. tt }
join_reply_is b NoPart = record { known = refl; none = refl; tells = λ m t. tt }
join_reply_is b AtJoining = record { known = refl; none = refl; tells = λ m t. tt }
join_reply_is b (AtEnd c) = record { known = refl; none = refl; tells = λ m t. tt }

module _ (a : Account) (client number : ℕ) (w : Session) (t : TransId) where
  -- ---- the client has no part of it here, and gets none

  pub join_unknown_leads : IsQuiet a → a.is_down ≡ false → a.sessions client ≡ Some w → number ≡ w.last + 1 → is_other_server (state_of a) t.server ≡ false → HasNoLife a client t
      → Leads false a (call_entry a client number w (call.Join t) (reply.Refused refusal.UnknownTrans) []) (counted_as a client number w (reply.Refused refusal.UnknownTrans))
  join_unknown_leads q up there turn near none =
      let s : State = state_of a in
      let r : Reply = reply.Refused refusal.UnknownTrans in
      let part : Part = part_at s client t in
      call_leads a client number w false (call.Join t) r [] [] (counted_as a client number w r) there turn (record {
        plain = λ m. refl;
        greets = λ e h. h;
        up = refl;
        running = up;
        brought = refl;
        new = new_call a client number w there turn;
        there = there;
        left = refl;
        drawn = refl;
        deeds = tt;
        released = refl;
        granted = refl;
        said = tt;
        tells = tt;
        regained = refl;
        quiet = counted_quiet a client number w r q there turn;
        answer = subst (λ (b : Bool). Where b (r ≡ reply.Refused refusal.UnknownTrans)
            (Where (is_no_part part) (First (too_many s) r (r ≡ reply.Refused refusal.NotYet)) (r ≡ join_reply (is_some (waiting_of s.desk client t)) part)))
            (sym (λ i. no_part a client t q.settled.stands none near i && not (near i))) refl;
        mail = no_mail [] refl refl;
        turns = tt;
        grants = tt;
      })

  -- ---- the client has a part of it here

  -- all that is known then
  pub record JoinOwes : Type 0 where
    pub quiet : IsQuiet a
    pub up : a.is_down ≡ false
    pub there : a.sessions client ≡ Some w
    pub turn : number ≡ w.last + 1
    pub part : is_no_part (part_at (state_of a) client t) ≡ false

  -- its waiting call is of no dead part
  stays : JoinOwes → (v : Waiting) → is_of_part client t v ≡ true → not (is_buried a client v) ≡ true
  stays o v of =
      let both = and_parts (v.client == client) (is_of t (part_trans v.call)) of in
      ap (λ (b : Bool). not (b && is_on (λ u. is_some (a.dead client u)) (part_trans v.call))) both.0 ∙ alive (part_trans v.call) both.1
    where
      alive : (x : Option TransId) → is_of t x ≡ true → not (is_on (λ u. is_some (a.dead client u)) x) ≡ true
      alive None e = let wrong : false ≡ true = e in cc
      alive (Some u) e = ap (λ (v : TransId). not (is_some (a.dead client v))) (same_trans-true u t e) ∙ ap not (part_not_dead a client t o.quiet.settled o.part)

  -- it is told how it stands with the part; where that is not yet, a call of the part waits
  pub join_known_leads : JoinOwes → (r : Reply) → r ≡ join_reply (is_some (waiting_of (state_of a).desk client t)) (part_at (state_of a) client t) → (is_not_yet r ≡ true → IsSome (waiting_of (state_of a).desk client t))
      → Leads false a (call_entry a client number w (call.Join t) r []) (with_buried_as a client number w r)
  join_known_leads o r is waits =
      let s : State = state_of a in
      let has : has_part s client t ≡ true = part_has a client t o.part in
      let none : joins_here s client t ≡ [] = ap (λ (b : Bool). cond {A = List Deed} b [] (Joins (next_join s) t client (principal s client) ∷ [])) has in
      let brings : (b : Bool) → cond {A = List Deed} b (joins_here s client t) [] ≡ [] = λ b. go_none b (joins_here s client t) none in
      let d : Desk = buried (with_session s.desk client (Some (record w { last = number; reply = r }))) client in
      let of : IsJoinReply r = subst IsJoinReply (sym is) (join_reply_is (is_some (waiting_of s.desk client t)) (part_at s client t)) in
      call_leads a client number w false (call.Join t) r [] [] (with_buried_as a client number w r) o.there o.turn (record {
        plain = λ m. refl;
        greets = λ e h. h;
        up = refl;
        running = o.up;
        brought = ap (λ (ds : List Deed). ds ++ [] ++ []) (brings (is_not_yet r));
        new = new_call a client number w o.there o.turn;
        there = o.there;
        left = ap (λ (b : Bool). record s {
          desk = cond {A = Desk} b (with_session s.desk client (Some (record w { last = number; reply = r }))) (begins_if (is_not_yet r) d client number (call.Join t));
          is_down = false;
          pending = [];
        }) of.known
            ∙ ap (λ (x : Desk). record s { desk = x; is_down = false; pending = [] }) (still r o waits d refl (is_not_yet r) refl);
        drawn = of.none;
        deeds = tt;
        released = refl;
        granted = refl;
        said = tt;
        tells = of.tells (state_of (with_buried_as a client number w r)) t;
        regained = refl;
        quiet = buried_quiet a client number w r o.quiet o.there o.turn;
        answer = subst (λ (b : Bool). Where (b && not (is_other_server s t.server)) (r ≡ reply.Refused refusal.UnknownTrans)
            (Where b (First (too_many s) r (r ≡ reply.Refused refusal.NotYet)) (r ≡ join_reply (is_some (waiting_of s.desk client t)) (part_at s client t)))) (sym o.part) is;
        mail = no_mail [] (ap (flat_map asks_to_join) (brings (is_not_yet r))) refl;
        turns = tt;
        grants = tt;
      })
    where
      go_none : (b : Bool) (ds : List Deed) → ds ≡ [] → cond {A = List Deed} b ds [] ≡ []
      go_none true ds e = e
      go_none false ds e = refl

      some_waits : (d : Desk) (x : Option Waiting) → IsSome x → cond {A = Desk} (is_some x) d (record d { waits = d.waits ++ (record { client = client; number = number; call = call.Join t; is_granted = false }) ∷ [] }) ≡ d
      some_waits d None h = let wrong : false ≡ true = h in cc
      some_waits d (Some v) h = refl

      still : (r : Reply) → JoinOwes → (is_not_yet r ≡ true → IsSome (waiting_of (state_of a).desk client t)) → (d : Desk) → d ≡ buried (with_session (state_of a).desk client (Some (record w { last = number; reply = r }))) client
          → (b : Bool) → is_not_yet r ≡ b → begins_if b d client number (call.Join t) ≡ d
      still r o waits d same false e = refl
      still r o waits d same true e = some_waits d (waiting_of d client t) (subst (λ (x : Option Waiting). IsSome x)
          (sym (ap (λ (x : Desk). waiting_of x client t) same ∙ find-kept (is_of_part client t) (λ x. not (is_buried a client x)) a.waits (all-of (λ x. is_of_part client t x ≡ true → not (is_buried a client x) ≡ true) (stays o) a.waits))) (waits e))

  -- ---- the transaction runs here for the client

  own_owes : IsQuiet a → a.is_down ≡ false → a.sessions client ≡ Some w → number ≡ w.last + 1 → part_at (state_of a) client t ≡ AtWork → JoinOwes
  own_owes q up there turn works = record { quiet = q; up = up; there = there; turn = turn; part = ap is_no_part works }

  -- a call of the part waits, or is not collected
  pub join_busy_leads : (v : Waiting) → IsQuiet a → a.is_down ≡ false → a.sessions client ≡ Some w → number ≡ w.last + 1 → part_at (state_of a) client t ≡ AtWork → waiting_of (state_of a).desk client t ≡ Some v
      → Leads false a (call_entry a client number w (call.Join t) (reply.Refused refusal.NotYet) []) (with_buried_as a client number w (reply.Refused refusal.NotYet))
  join_busy_leads v q up there turn works waits =
      join_known_leads (own_owes q up there turn works) (reply.Refused refusal.NotYet) (λ i. join_reply (is_some (sym waits i)) (sym works i)) (λ yet. subst (λ (x : Option Waiting). IsSome x) (sym waits) refl)

  -- none does
  pub join_leads : IsQuiet a → a.is_down ≡ false → a.sessions client ≡ Some w → number ≡ w.last + 1 → part_at (state_of a) client t ≡ AtWork → waiting_of (state_of a).desk client t ≡ None
      → Leads false a (call_entry a client number w (call.Join t) reply.Joined []) (with_buried_as a client number w reply.Joined)
  join_leads q up there turn works idle =
      join_known_leads (own_owes q up there turn works) reply.Joined (λ i. join_reply (is_some (sym idle i)) (sym works i)) (λ yet. (let wrong : false ≡ true = yet in cc))
