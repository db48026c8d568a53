-- calls that are collected
use Rattle.std.specs.Prelude.{cond, Bool, true, false, not, ◌&&◌, ◌||◌, ◌==◌, find, is_some, Option, None, Some}
use Rattle.std.specs.List.{AllByRecursion}
use Rattle.std.proofs.lemmas.Bool.{and_parts, eqb-true, not-true}
use Rattle.std.proofs.lemmas.List.{append-nil}
use Rattle.std.proofs.Common.{inl, inr, ◌≡◌, ℕ, ◌+◌, List, [], ◌∷◌, refl, sym, ◌∙◌, ap, subst}
use Rattle.alp_base.specs.declared.ids.FileId.{FileId}
use Rattle.alp_base.specs.declared.ids.JoinNo.{JoinNo}
use Rattle.alp_base.specs.declared.ids.TransId.{TransId}
use Rattle.alp_files.specs.Act.{id_in}
use Rattle.alp_files.specs.Holdings.{DoAgree}
use Rattle.alp_files.specs.Locks.{needs_of, with_made, HoldsEach, IsFormed}
use Rattle.alp_files.specs.Passing.{is_passing, IsFileReply}
use Rattle.alp_files.proofs.FilesLemmas.{same-some}
use Rattle.alp_files.specs.declared.call.Call.{Call}
use Rattle.alp_files.specs.declared.call.Call.TheVariants as call
use Rattle.alp_files.specs.declared.reply.Reply.{Reply}
use Rattle.alp_files.specs.declared.reply.Reply.TheVariants as reply
use Rattle.alp_files.specs.declared.refusal.Refusal.{Refusal}
use Rattle.alp_files.specs.declared.refusal.Refusal.TheVariants as refusal
use Rattle.alp_files.specs.declared.refusal.Cause.{Cause}
use Rattle.alp_journal.specs.declared.event.Event.TheVariants as event
use Rattle.alp_journal.specs.Along.{Where}
use Rattle.alp_journal.specs.Ids.{same_trans}
use Rattle.alp_journal.specs.Deeds.{Deed, Performs}
use Rattle.alp_journal.specs.Coordinator.{Ended, is_running}
use Rattle.alp_journal.specs.Participant.{Phase, Joining, Active, Ready, live_in}
use Rattle.alp_journal.specs.Holder.{Life, view_in, answer_in, performs}
use Rattle.alp_journal.specs.Desk.{Desk, Session, Waiting, file_trans, part_trans, is_of, is_of_part, is_on, is_dead, is_dead_call, waiting_at, without, is_not_yet, collected, with_session}
use Rattle.alp_journal.specs.State.{State, state_deed, is_whose}
use Rattle.alp_journal.specs.Moves.{call_of, next_file, is_of_no_file, done_by, done_of}
use Rattle.alp_journal.specs.Answers.{OrFault, IsThreads, IsFileCollected, IsFileCollectedOf, IsCollected}
use Rattle.alp_journal.specs.Account.{Account, state_of, IsJoined, Stands, IsSettled, IsQuiet, IsPartOf, IsOfPart, is_on_trans, Leads}
use Rattle.alp_journal.proofs.IdLemmas.{same_trans-true, all-filter}
use Rattle.alp_journal.proofs.MadeIds.{all-map}
use Rattle.alp_journal.proofs.WaitLemmas.{all-both, passing, all-stay, found-is, none-found, file_part, on-is, IsOnly, each-only}
use Rattle.alp_journal.proofs.StandLemmas.{running_of, join_part_is, pair_of, own_pair, own_here, whose, whose_own, far_of_live, not_both_servers}
use Rattle.alp_journal.proofs.QuietLemmas.{KeepsJoins, none_tried, quiet_without}
use Rattle.alp_journal.proofs.GivenLemmas.{IsOpenFor, IsOpenCall, open_calls}
use Rattle.alp_journal.proofs.CallLemmas.{no_mail, call_entry, new_call, call_leads}
use Rattle.alp_journal.proofs.RefusedCalls.{counted_as, counted_quiet, IsFileCall, file_call}
use Rattle.alp_journal.proofs.FileCalls.{IsOwnReply, own_reply, with_call, call_quiet, performs_lawful}

-- a live part's client has its join, where it has one
pub its_join : (a : Account) (q : Stands a) (t : TransId) (l : Life) → a.holder.lives t ≡ Some l → (j : JoinNo) → l.join ≡ Some j → is_whose l.client t (live_in (a.phases j)) ≡ true
its_join a q t l live j of = elim (join_part_is t a.phases l (a.fates t) j of (pair_of a q t l live)).0 [
  | inl x ↦ ap (λ (y : Phase). is_whose l.client t (live_in y)) x.0 ∙ whose_own l.client t
  | inr x ↦ ap (λ (y : Phase). is_whose l.client t (live_in y)) x.1 ∙ whose_own l.client t
]

-- its client is not to be told of the end of a live part
pub none_dead : (a : Account) (t : TransId) (l : Life) → IsSettled a → a.holder.lives t ≡ Some l → (client : ℕ) → l.client ≡ client → a.dead client t ≡ None
none_dead a t l q live client own = go (a.dead client t) refl
  where
    over : (c : Cause) → a.dead client t ≡ Some c → (x : Option JoinNo) → l.join ≡ x → ⊥
    over c e None of =
        let ended : a.fates t ≡ Ended c = (q.tells.ended client t c e).0 (own_here a q.stands t l live of) in
        let wrong : false ≡ true = ap is_running (sym ended) ∙ running_of (a.fates t) l.client (own_pair a q.stands t l live of).0 in
        cc
    over c e (Some j) of =
        let wrong : false ≡ true = sym ((q.tells.ended client t c e).1 j) ∙ ap (λ (m : ℕ). is_whose m t (live_in (a.phases j))) (sym own) ∙ its_join a q.stands t l live j of in
        cc

    go : (x : Option Cause) → a.dead client t ≡ x → x ≡ None
    go None e = refl
    go (Some c) e = absurd (over c e l.join refl)

-- nor does it ask to be let in
pub not_joining : (a : Account) (q : Stands a) (t : TransId) (l : Life) → a.holder.lives t ≡ Some l → (j : JoinNo) (client : ℕ) (who : List ℕ) → l.client ≡ client → a.phases j ≡ Joining t client who → ⊥
not_joining a q t l live j client who own is = go l.join refl
  where
    asks : is_whose client t (live_in (a.phases j)) ≡ true
    asks = ap (λ (p : Phase). is_whose client t (live_in p)) is ∙ whose_own client t

    none : (k : JoinNo) → IsJoined t l (a.phases k) → j ≡ k → ⊥
    none k h same = elim h [
      | inl x ↦ (let wrong : Joining t client who ≡ Active t l.client l.who = sym is ∙ ap a.phases same ∙ x.0 in cc)
      | inr x ↦ (let wrong : Joining t client who ≡ Ready t l.client x.0 = sym is ∙ ap a.phases same ∙ x.1 in cc)
    ]

    go : (x : Option JoinNo) → l.join ≡ x → ⊥
    go None of = not_both_servers a.servers a.holder.server t.server (far_of_live a.servers a.holder.server a.ids.epoch a.ids.joins a.joined j client t (a.phases j) asks (q.phases j)) (own_here a q t l live of)
    go (Some k) of =
        let mine : is_whose client t (live_in (a.phases k)) ≡ true = ap (λ (m : ℕ). is_whose m t (live_in (a.phases k))) (sym own) ∙ its_join a q t l live k of in
        none k (join_part_is t a.phases l (a.fates t) k of (pair_of a q t l live)).0 (q.single j k (t, client) (whose client t (live_in (a.phases j)) asks) (whose client t (live_in (a.phases k)) mine))

module _ (a : Account) (client number : ℕ) (w : Session) (n : ℕ) where
  abbrev collect : Call
  collect = call.Collect n

  abbrev is_it : Waiting → Bool
  is_it u = u.client == client && u.number == n

  -- those that wait on
  abbrev pub uncollected : List Waiting
  uncollected = without is_it a.waits

  abbrev with_reply : Reply → Desk
  with_reply r = with_session (state_of a).desk client (Some (record w { last = number; reply = r }))

  -- ---- no call of that number waits

  pub collect_none_leads : IsQuiet a → a.is_down ≡ false → a.sessions client ≡ Some w → number ≡ w.last + 1 → waiting_at (state_of a).desk client n ≡ None
      → Leads false a (call_entry a client number w collect (reply.Refused refusal.UnknownTrans) []) (counted_as a client number w (reply.Refused refusal.UnknownTrans))
  collect_none_leads q up there turn none =
      let s : State = state_of a in
      let r : Reply = reply.Refused refusal.UnknownTrans in
      call_leads a client number w false collect r [] [] (counted_as a client number w r) there turn (record {
        plain = λ m. refl;
        greets = λ e h. h;
        up = refl;
        running = up;
        brought = ap (λ (x : Option Waiting). done_of s r (call_of x)) none;
        new = new_call a client number w there turn;
        there = there;
        left = ap (λ (x : Option Waiting). record s { desk = cond {A = Desk} (is_dead_call (with_reply r) client x) (with_reply r) (record (with_reply r) { waits = uncollected }); is_down = false; pending = [] }) none
            ∙ ap (λ (ws : List Waiting). record s { desk = record (with_reply r) { waits = ws }; is_down = false; pending = [] }) (all-stay is_it a.waits (none-found is_it a.waits none));
        drawn = refl;
        deeds = tt;
        released = refl;
        granted = refl;
        said = tt;
        tells = tt;
        regained = refl;
        quiet = counted_quiet a client number w r q there turn;
        answer = subst (IsCollected false s client r) (sym none) refl;
        mail = no_mail [] refl refl;
        turns = tt;
        grants = tt;
      })

  -- ---- one does

  module _ (v : Waiting) (t : TransId) where
    its : waiting_at (state_of a).desk client n ≡ Some v → v.client ≡ client
    its found = let is = found-is (λ u. Unit {0}) is_it a.waits v found (each_unit a.waits) in eqb-true v.client client (and_parts (v.client == client) (v.number == n) is.0).0
      where
        each_unit : (ws : List Waiting) → AllByRecursion (λ u. Unit {0}) ws
        each_unit [] = tt
        each_unit (u ∷ us) = (tt, each_unit us)

    part_of : IsSettled a → waiting_at (state_of a).desk client n ≡ Some v → file_trans v.call ≡ Some t → IsPartOf client (a.holder.lives t) (a.dead client t)
    part_of q found named =
        let is = found-is (λ (u : Waiting). IsOfPart a.holder.lives a.dead u (file_trans u.call)) is_it a.waits v found q.tells.parts in
        subst (λ (m : ℕ). IsPartOf m (a.holder.lives t) (a.dead m t)) (its found) (subst (IsOfPart a.holder.lives a.dead v) named is.1)

    -- whether its part is dead
    dead_call : (r : Reply) → waiting_at (state_of a).desk client n ≡ Some v → file_trans v.call ≡ Some t → is_dead_call (with_reply r) client (waiting_at (state_of a).desk client n) ≡ is_some (a.dead client t)
    dead_call r found named = ap (is_dead_call (with_reply r) client) found ∙ ap (is_on (is_dead (with_reply r) client)) (file_part v.call t named)

    answer_so : (failed : Bool) (r : Reply) → waiting_at (state_of a).desk client n ≡ Some v → file_trans v.call ≡ Some t → IsFileCollected failed (state_of a) t v r (a.dead client t) (a.holder.lives t)
        → IsCollected failed (state_of a) client r (waiting_at (state_of a).desk client n)
    answer_so failed r found named is = subst (IsCollected failed (state_of a) client r) (sym found)
        (IsFileCall.collects (file_call a client number w t v.call r named) failed v r (subst (IsFileCollectedOf failed (state_of a) client v r) (sym named) is))

    -- what the collect brings
    brings : (r : Reply) (ds : List Deed) → waiting_at (state_of a).desk client n ≡ Some v → file_trans v.call ≡ Some t → done_by (state_of a) v.call r (Some t) ≡ ds → done_of (state_of a) r (call_of (waiting_at (state_of a).desk client n)) ≡ ds
    brings r ds found named is = ap (λ (x : Option Waiting). done_of (state_of a) r (call_of x)) found ∙ ap (done_by (state_of a) v.call r) named ∙ is

    -- ---- its locks are not granted

    pub collect_waits_leads : IsQuiet a → a.is_down ≡ false → a.sessions client ≡ Some w → number ≡ w.last + 1 → waiting_at (state_of a).desk client n ≡ Some v → file_trans v.call ≡ Some t → v.is_granted ≡ false → a.dead client t ≡ None
        → Leads false a (call_entry a client number w collect (reply.Refused refusal.NotYet) []) (counted_as a client number w (reply.Refused refusal.NotYet))
    collect_waits_leads q up there turn found named wait alive =
        let s : State = state_of a in
        let r : Reply = reply.Refused refusal.NotYet in
        call_leads a client number w false collect r [] [] (counted_as a client number w r) there turn (record {
          plain = λ m. refl;
          greets = λ e h. h;
          up = refl;
          running = up;
          brought = brings r [] found named refl;
          new = new_call a client number w there turn;
          there = there;
          left = refl;
          drawn = refl;
          deeds = tt;
          released = refl;
          granted = refl;
          said = tt;
          tells = tt;
          regained = refl;
          quiet = counted_quiet a client number w r q there turn;
          answer = answer_so false r found named (subst (λ (x : Option Cause). IsFileCollected false s t v r x (a.holder.lives t)) (sym alive)
              (live (a.holder.lives t) (subst (IsPartOf client (a.holder.lives t)) alive (part_of q.settled found named))));
          mail = no_mail [] refl refl;
          turns = tt;
          grants = tt;
        })
      where
        live : (x : Option Life) → IsPartOf client x None → IsFileCollected false (state_of a) t v (reply.Refused refusal.NotYet) None x
        live None p = let wrong : false ≡ true = p in cc
        live (Some l) p =
            subst (λ (b : Bool). Where b (OrFault false (reply.Refused refusal.NotYet) (IsThreads (state_of a) t l v.call (reply.Refused refusal.NotYet))) (reply.Refused refusal.NotYet ≡ reply.Refused refusal.NotYet)) (sym wait) refl

    -- ---- its part is dead

    pub collect_dead_leads : (c : Cause) → IsQuiet a → a.is_down ≡ false → a.sessions client ≡ Some w → number ≡ w.last + 1 → waiting_at (state_of a).desk client n ≡ Some v → file_trans v.call ≡ Some t → a.dead client t ≡ Some c
        → Leads false a (call_entry a client number w collect (reply.Refused (refusal.Aborted c)) []) (counted_as a client number w (reply.Refused (refusal.Aborted c)))
    collect_dead_leads c q up there turn found named dead =
        let s : State = state_of a in
        let r : Reply = reply.Refused (refusal.Aborted c) in
        call_leads a client number w false collect r [] [] (counted_as a client number w r) there turn (record {
          plain = λ m. refl;
          greets = λ e h. h;
          up = refl;
          running = up;
          brought = brings r [] found named refl;
          new = new_call a client number w there turn;
          there = there;
          left = ap (λ (b : Bool). record s { desk = cond {A = Desk} b (with_reply r) (record (with_reply r) { waits = uncollected }); is_down = false; pending = [] })
              (dead_call r found named ∙ ap (λ (x : Option Cause). is_some x) dead);
          drawn = refl;
          deeds = tt;
          released = refl;
          granted = refl;
          said = tt;
          tells = tt;
          regained = refl;
          quiet = counted_quiet a client number w r q there turn;
          answer = answer_so false r found named (subst (λ (x : Option Cause). IsFileCollected false s t v r x (a.holder.lives t)) (sym dead) refl);
          mail = no_mail [] refl refl;
          turns = tt;
          grants = tt;
        })

    -- ---- its locks are granted

    module _ (l : Life) where
      own_client : IsSettled a → a.holder.lives t ≡ Some l → waiting_at (state_of a).desk client n ≡ Some v → file_trans v.call ≡ Some t → l.client ≡ client
      own_client q live found named = sym (subst (λ (x : Option Life). IsPartOf client x (a.dead client t)) live (part_of q found named))

      is_alive : (r : Reply) → IsSettled a → a.holder.lives t ≡ Some l → waiting_at (state_of a).desk client n ≡ Some v → file_trans v.call ≡ Some t → is_dead_call (with_reply r) client (waiting_at (state_of a).desk client n) ≡ false
      is_alive r q live found named = dead_call r found named ∙ ap (λ (x : Option Cause). is_some x) (none_dead a t l q live client (own_client q live found named))

      granted_answer : (failed : Bool) (r : Reply) → IsSettled a → a.holder.lives t ≡ Some l → waiting_at (state_of a).desk client n ≡ Some v → file_trans v.call ≡ Some t → v.is_granted ≡ true
          → OrFault failed r (IsThreads (state_of a) t l v.call r) → IsCollected failed (state_of a) client r (waiting_at (state_of a).desk client n)
      granted_answer failed r q live found named granted why = answer_so failed r found named
          (subst (λ (x : Option Cause). IsFileCollected failed (state_of a) t v r x (a.holder.lives t)) (sym (none_dead a t l q live client (own_client q live found named)))
          (subst (IsFileCollected failed (state_of a) t v r None) (sym live)
          (subst (λ (b : Bool). Where b (OrFault failed r (IsThreads (state_of a) t l v.call r)) (r ≡ reply.Refused refusal.NotYet)) (sym granted) why)))

      -- no Join that is waited for goes as it is collected
      keeps_others : IsSettled a → a.holder.lives t ≡ Some l → waiting_at (state_of a).desk client n ≡ Some v → file_trans v.call ≡ Some t → KeepsJoins a.phases is_it a.waits
      keeps_others q live found named j u owner who is =
          all-map (IsOnly a.waits) (λ x. is_of_part owner u x ≡ true → is_it x ≡ false) (λ x only of. go x only of (is_it x) refl) a.waits (each-only a.waits q.tells.apart)
        where
          go : (x : Waiting) → IsOnly a.waits x → is_of_part owner u x ≡ true → (b : Bool) → is_it x ≡ b → b ≡ false
          go x only of false e = refl
          go x only of true e =
              let numbers = and_parts (x.client == client) (x.number == n) e in
              let same : x ≡ v = same-some x v (sym only.by_number ∙ (λ i. find (λ (y : Waiting). y.client == eqb-true x.client client numbers.0 i && y.number == eqb-true x.number n numbers.1 i) a.waits) ∙ found) in
              let its = and_parts (x.client == owner) (is_of u (part_trans x.call)) of in
              let trans : t ≡ u = same_trans-true t u (ap (is_of u) (sym (ap (λ (y : Waiting). part_trans y.call) same ∙ file_part v.call t named)) ∙ its.1) in
              absurd (not_joining a q.stands t l live j client who (own_client q live found named)
              (is ∙ (λ i. Joining (sym trans i) ((sym (eqb-true x.client owner its.0) ∙ eqb-true x.client client numbers.0) i) who)))

      -- the counts refuse it, or a read failed
      pub collect_refused_leads : (failed : Bool) (f : Refusal) → IsQuiet a → a.is_down ≡ false → a.sessions client ≡ Some w → number ≡ w.last + 1 → waiting_at (state_of a).desk client n ≡ Some v → file_trans v.call ≡ Some t
          → v.is_granted ≡ true → a.holder.lives t ≡ Some l → is_not_yet (reply.Refused f) ≡ false → done_by (state_of a) v.call (reply.Refused f) (Some t) ≡ [] → OrFault failed (reply.Refused f) (IsThreads (state_of a) t l v.call (reply.Refused f))
          → Leads failed a (call_entry a client number w collect (reply.Refused f) []) (record (counted_as a client number w (reply.Refused f)) { waits = uncollected })
      collect_refused_leads failed f q up there turn found named granted live now none why =
          let s : State = state_of a in
          let r : Reply = reply.Refused f in
          call_leads a client number w failed collect r [] [] (record (counted_as a client number w r) { waits = uncollected }) there turn (record {
            plain = λ m. refl;
            greets = λ e h. h;
            up = refl;
            running = up;
            brought = brings r [] found named none;
            new = new_call a client number w there turn;
            there = there;
            left = ap (λ (b : Bool). record s { desk = cond {A = Desk} b (with_reply r) (collected (with_reply r) client n); is_down = false; pending = [] }) now
                ∙ ap (λ (b : Bool). record s { desk = cond {A = Desk} b (with_reply r) (record (with_reply r) { waits = uncollected }); is_down = false; pending = [] }) (is_alive r q.settled live found named);
            drawn = refl;
            deeds = tt;
            released = refl;
            granted = refl;
            said = tt;
            tells = tt;
            regained = refl;
            quiet = quiet_without is_it (counted_as a client number w r) (keeps_others q.settled live found named) refl (counted_quiet a client number w r q there turn);
            answer = granted_answer failed r q.settled live found named granted why;
            mail = no_mail [] refl refl;
            turns = tt;
            grants = tt;
          })

      -- ---- and it is performed

      module _ (r : Reply) where
        -- all that is owed of it
        pub record CollectOwes (failed : Bool) : Type 0 where
          pub quiet : IsQuiet a
          pub up : a.is_down ≡ false
          pub there : a.sessions client ≡ Some w
          pub turn : number ≡ w.last + 1
          pub found : waiting_at (state_of a).desk client n ≡ Some v
          pub granted : v.is_granted ≡ true
          pub live : a.holder.lives t ≡ Some l
          pub named : file_trans v.call ≡ Some t
          pub formed : IsFormed v.call
          pub kind : IsFileReply r
          pub passes : is_passing r ≡ false
          pub given : is_of_no_file (state_of a) v.call r ≡ false
          pub right : (answer_in a.holder l (record { call = v.call; reply = r })).reply ≡ Some r
          pub next_id : (f : FileId) → id_in r ≡ Some f → f ≡ next_file (state_of a)
          pub locked : HoldsEach l.held (needs_of (view_in a.holder l) l.own v.call)
          pub agree : (u : TransId) (k : Life) → a.holder.lives u ≡ Some k → same_trans u t ≡ false → DoAgree (with_made l.held (id_in r)) k.held
          pub why : OrFault failed r (IsThreads (state_of a) t l v.call r)

        -- no other call of its transaction waits
        only_it : IsSettled a → waiting_at (state_of a).desk client n ≡ Some v → file_trans v.call ≡ Some t → AllByRecursion (λ u. is_on_trans t u ≡ false) uncollected
        only_it q found named =
            all-both (λ u. not (is_it u) ≡ true) (IsOnly a.waits) (λ u. is_on_trans t u ≡ false) (λ u o only. go u (not-true (is_it u) o) only (is_on_trans t u) refl) uncollected
            (passing (λ u. not (is_it u)) a.waits) (all-filter (IsOnly a.waits) (λ u. not (is_it u)) a.waits all)
          where
            all : AllByRecursion (IsOnly a.waits) a.waits
            all = each-only a.waits q.tells.apart

            go : (u : Waiting) → is_it u ≡ false → IsOnly a.waits u → (b : Bool) → is_on_trans t u ≡ b → is_on_trans t u ≡ false
            go u o only false e = e
            go u o only true e =
                let mine = found-is (IsOnly a.waits) is_it a.waits v found all in
                let same : u ≡ v = same-some u v (sym (only.by_trans t (on-is t u e)) ∙ mine.1.by_trans t named) in
                let wrong : false ≡ true = sym o ∙ ap is_it same ∙ mine.0 in
                cc

        abbrev pub with_collected : Account
        with_collected = record (with_call a client number w t l v.call r l.held (a.locked t)) { waits = uncollected }

        pub collected_leads : (failed : Bool) → CollectOwes failed → Leads failed a (call_entry a client number w collect r []) with_collected
        collected_leads failed o =
            let s : State = state_of a in
            let deed : Deed = Performs t (record { call = v.call; reply = r }) in
            let after : State = state_deed s deed in
            let reply_is : IsOwnReply r = own_reply r o.kind in
            let opens : IsOpenFor a t = (found-is (IsOpenCall a) is_it a.waits v o.found (open_calls a o.quiet.settled)).1 t l o.named o.live in
            let own : client ≡ l.client = subst (λ (x : Option Life). IsPartOf client x (a.dead client t)) o.live (part_of o.quiet.settled o.found o.named) in
            let then_quiet : IsQuiet with_collected = call_quiet a client number w t l v.call r l.held (a.locked t) uncollected (quiet_without is_it a (keeps_others o.quiet.settled o.live o.found o.named) (none_tried a o.quiet o.up) o.quiet) (only_it o.quiet.settled o.found o.named) o.there o.turn o.live
            (λ q x h. h) o.agree in
            call_leads a client number w failed collect r [] (deed ∷ []) with_collected o.there o.turn (record {
              plain = λ m. refl;
              greets = λ e h. h;
              up = refl;
              running = o.up;
              brought = brings r (deed ∷ []) o.found o.named (λ i. cond {A = List Deed} (o.passes i || o.given i) [] (deed ∷ []));
              new = new_call a client number w o.there o.turn;
              there = o.there;
              left = ap (λ (b : Bool). record after { desk = cond {A = Desk} b (with_reply r) (collected (with_reply r) client n); is_down = false; pending = [] }) reply_is.now
                  ∙ ap (λ (b : Bool). record after { desk = cond {A = Desk} b (with_reply r) (record (with_reply r) { waits = uncollected }); is_down = false; pending = [] }) (is_alive r o.quiet.settled o.live o.found o.named)
                  ∙ (λ i. state_of (record with_collected { holder = performs a.holder t (record { call = v.call; reply = r }) (o.live i); begun = append-nil a.begun i; joined = append-nil a.joined i }));
              drawn = reply_is.none;
              deeds = (
                performs_lawful a client number w t l v.call r (event.Call client a.ids.epoch number collect) (ap (λ (m : ℕ). Some m) own) opens.0 (opens.1 l o.live) o.live o.formed o.right o.next_id o.locked then_quiet.settled.stands.agree,
                tt,
              );
              released = refl;
              granted = refl;
              said = tt;
              tells = reply_is.tells (state_of with_collected) collect;
              regained = refl;
              quiet = then_quiet;
              answer = granted_answer failed r o.quiet.settled o.live o.found o.named o.granted o.why;
              mail = no_mail [] refl refl;
              turns = tt;
              grants = tt;
            })
