-- calls that begin to wait, and calls of parts that wait
use Rattle.std.specs.Prelude.{cond, Bool, true, false, ◌&&◌, ◌==◌, is_some, is_none, Option, None, Some, IsSome}
use Rattle.std.specs.Option.{option_or}
use Rattle.std.proofs.lemmas.Bool.{eqb-true, ne_eqb, and_parts}
use Rattle.std.proofs.Common.{inl, inr, ◌≡◌, ℕ, ◌+◌, ◌≤◌, List, [], ◌∷◌, ◌++◌, refl, sym, ◌∙◌, ap, subst, eq-eqb, arith, le_refl}
use Rattle.alp_base.specs.declared.ids.JoinNo.{JoinNo}
use Rattle.alp_base.specs.declared.ids.TransId.{TransId}
use Rattle.alp_base.specs.declared.choices.Choice.TheVariants as choice
use Rattle.alp_files.proofs.FilesLemmas.{same-some}
use Rattle.alp_files.specs.declared.call.Call.{Call}
use Rattle.alp_files.specs.declared.call.Call.TheVariants as call
use Rattle.alp_files.specs.declared.reply.Reply.{Reply}
use Rattle.alp_files.specs.declared.reply.Reply.TheVariants as reply
use Rattle.alp_files.specs.declared.refusal.Refusal.{Refusal}
use Rattle.alp_files.specs.declared.refusal.Refusal.TheVariants as refusal
use Rattle.alp_files.specs.declared.refusal.Cause.{Cause}
use Rattle.alp_journal.specs.declared.message.Message.TheVariants as msg
use Rattle.alp_journal.specs.Along.{Where}
use Rattle.alp_journal.specs.Deeds.{Deed, Finishes}
use Rattle.alp_journal.specs.Coordinator.{Fate, Vote, Running, Finishing, is_running}
use Rattle.alp_journal.specs.Participant.{Phase, Active, Ready}
use Rattle.alp_journal.specs.Holder.{Life}
use Rattle.alp_journal.specs.Desk.{Desk, Session, Waiting, file_trans, part_trans, waiting_of, is_of, is_of_part, begins_waiting, finished, with_session}
use Rattle.alp_journal.specs.State.{State, has_part}
use Rattle.alp_journal.specs.Moves.{finishes, ends_by, answered, done_by, done_of}
use Rattle.alp_journal.specs.Laws.{IsFree, IsBlocked, IsHolding}
use Rattle.alp_journal.specs.Messages.{Mail, on_finish, to_each}
use Rattle.alp_journal.specs.Answers.{Part, NoPart, AtWork, AtFinish, own_part, part_at, at_part, part_refusal, First, OrFault, IsFileOf, IsFileAnswer, IsLocked, choice_of, finish_reply, shape_refusal, lock_refusal}
use Rattle.alp_journal.specs.Answered.{GrantsFor, grants_now, grants_if, grants_by, asks}
use Rattle.alp_journal.specs.Account.{Account, state_of, Stands, IsQuiet, HasTried, IsPartOf, IsOfPart, IsOther, HasCome, AreTwo, is_on_trans, Leads}
use Rattle.alp_journal.proofs.IdLemmas.{same_trans-true, all-append}
use Rattle.alp_journal.proofs.MadeIds.{all-map}
use Rattle.alp_journal.proofs.WaitLemmas.{turned, none-found, all-both, file_part, apart-last}
use Rattle.alp_journal.proofs.TurnLemmas.{blocked-as}
use Rattle.alp_journal.proofs.StandLemmas.{pair_of, life_of, join_part_is, running_here}
use Rattle.alp_journal.proofs.PartLemmas.{own_part_at, own_at_work, IsAtWork, at_work_open}
use Rattle.alp_journal.proofs.QuietLemmas.{waits-last, calls-last, none-on, stands_as, came_on, later-come}
use Rattle.alp_journal.proofs.CallLemmas.{no_mail, call_entry, new_call, call_leads}
use Rattle.alp_journal.proofs.RefusedCalls.{counted_as, counted_quiet, IsFileCall, file_call}

-- a call on files is none of the others
file_other : (fates : TransId → Fate) (phases : JoinNo → Phase) (dead : ℕ → TransId → Option Cause) (client : ℕ) (c : Call) (t : TransId) → file_trans c ≡ Some t → IsOther fates phases dead client c
file_other fates phases dead client (call.Join u) t of = let wrong : None ≡ Some t = of in cc
file_other fates phases dead client (call.Finish u commit) t of = let wrong : None ≡ Some t = of in cc
file_other fates phases dead client c t of = subst (λ (x : Option TransId). IsSome x) (sym of) refl

-- a part that did not vote is of no join that did
pub ready_idle : (a : Account) (q : Stands a) (t : TransId) (l : Life) (j : JoinNo) (client ts : ℕ) → a.holder.lives t ≡ Some l → l.vote ≡ None → a.phases j ≡ Ready t client ts → ⊥
ready_idle a q t l j client ts live unvoted ready =
    let (k, there, of) = life_of a q t j (subst (IsHolding t) (sym ready) refl) in
    let mine : l.join ≡ Some j = ap (λ (x : Life). x.join) (same-some l k (sym live ∙ there)) ∙ of in
    let pair = join_part_is t a.phases l (a.fates t) j mine (pair_of a q t l live) in
    elim pair.0 [
      | inl x ↦ (let wrong : Ready t client ts ≡ Active t l.client l.who = sym ready ∙ x.0 in cc)
      | inr x ↦ (let wrong : None ≡ Some x.0 = sym unvoted ∙ x.2 in cc)
    ]

-- nor is one at work of a transaction that is finishing
pub not_finishing : (a : Account) (q : Stands a) (t : TransId) (client d : ℕ) (js : List JoinNo) (vs : List Vote) → part_at (state_of a) client t ≡ AtWork → a.fates t ≡ Finishing d js vs → ⊥
not_finishing a q t client d js vs works is =
    let at : part_at (state_of a) client t ≡ cond {A = Part} (d == client) AtFinish NoPart = own_part_at a t client (running_here a q t (ap is_running is)) ∙ ap (own_part client (a.dead client t)) is in
    go (d == client) (sym works ∙ at)
  where
    go : (b : Bool) → AtWork ≡ cond {A = Part} b AtFinish NoPart → ⊥
    go true e = let wrong : AtWork ≡ AtFinish = e in cc
    go false e = let wrong : AtWork ≡ NoPart = e in cc

module _ (a : Account) (client number : ℕ) (w : Session) (t : TransId) (l : Life) where
  abbrev not_yet : Reply
  not_yet = reply.Refused refusal.NotYet

  pub idle_part : (x : Option Waiting) → waiting_of (state_of a).desk client t ≡ x → part_at (state_of a) client t ≡ AtWork → part_refusal (state_of a) client t ≡ at_part (is_some x) AtWork
  idle_part x is works = ap (λ (y : Option Waiting). at_part (is_some y) (part_at (state_of a) client t)) is ∙ ap (at_part (is_some x)) works

  -- ---- a file call

  module _ (c : Call) where
    abbrev waiter : Waiting
    waiter = record { client = client; number = number; call = c; is_granted = false }

    -- it waits behind all others
    abbrev pub with_wait : Account
    with_wait = record (counted_as a client number w not_yet) { waits = a.waits ++ waiter ∷ [] }

    wait_quiet : (q : IsQuiet a) → part_at (state_of a) client t ≡ AtWork → a.sessions client ≡ Some w → number ≡ w.last + 1 → a.holder.lives t ≡ Some l → l.client ≡ client → file_trans c ≡ Some t → waiting_of (state_of a).desk client t ≡ None
        → (IsFree a.holder t l c → ⊥) → IsQuiet with_wait
    wait_quiet q at_work there turn live own named idle taken = record {
      settled = record {
        stands = stands_as a with_wait.sessions with_wait.waits a.dead false [] q.settled.stands;
        tells = record {
          ended = q.settled.tells.ended;
          parts = all-append (λ (v : Waiting). IsOfPart a.holder.lives a.dead v (file_trans v.call)) a.waits (waiter ∷ []) q.settled.tells.parts
              (subst (IsOfPart a.holder.lives a.dead waiter) (sym named) (subst (λ (x : Option Life). IsPartOf client x (a.dead client t)) (sym live) (sym own)), tt);
          others = all-append (λ (v : Waiting). IsOther a.fates a.phases a.dead v.client v.call) a.waits (waiter ∷ []) q.settled.tells.others (file_other a.fates a.phases a.dead client c t named, tt);
          came = all-append (λ (v : Waiting). HasCome v.number (with_wait.sessions v.client)) a.waits (waiter ∷ [])
              (came_on a.sessions client (record w { last = number; reply = not_yet }) (later-come a.sessions client w (record w { last = number; reply = not_yet }) there (omega (arith, turn))) a.waits q.settled.tells.came)
              (subst (λ (b : Bool). HasCome number (cond {A = Option Session} b (Some (record w { last = number; reply = not_yet })) (a.sessions client))) (sym (eq-eqb client client refl)) (le_refl number), tt);
          apart = apart-last a.waits waiter q.settled.tells.apart
              (all-both (λ (v : Waiting). (is_on_trans t v ≡ false) × (is_of_part client t v ≡ false)) (λ (v : Waiting). HasCome v.number (a.sessions v.client)) (λ v. AreTwo v waiter) (λ v o h. two v o.0 o.1 h) a.waits
              (all-both (λ v. is_on_trans t v ≡ false) (λ v. is_of_part client t v ≡ false) (λ (v : Waiting). (is_on_trans t v ≡ false) × (is_of_part client t v ≡ false)) (λ v o p. (o, p)) a.waits
              (none-on a.holder.lives a.dead client t l live own a.waits q.settled.tells.parts idle) (none-found (is_of_part client t) a.waits idle)) q.settled.tells.came);
          joining = λ j. waits-last a.waits waiter (a.phases j) (λ u d ts is. of_ready j u d ts is (is_of_part d u waiter) refl) (q.settled.tells.joining j);
          finishing = λ u. calls-last a.waits waiter u (a.fates u) (λ d js vs is. of_finishing u d js vs is (is_on_trans u waiter) refl) (q.settled.tells.finishing u);
        };
      };
      tried = HasTried.nothing refl;
      turns = all-append (λ (v : Waiting). IsBlocked (state_of with_wait) v (file_trans v.call)) a.waits (waiter ∷ [])
          (all-map (λ (v : Waiting). IsBlocked (state_of a) v (file_trans v.call)) (λ (v : Waiting). IsBlocked (state_of with_wait) v (file_trans v.call)) (λ v b. blocked-as (state_of a) (state_of with_wait) v (file_trans v.call) refl b) a.waits q.turns)
          (subst (IsBlocked (state_of with_wait) waiter) (sym named) (λ wait k at its free. taken (subst (λ (y : Life). IsFree a.holder t y c) (same-some k l (sym at ∙ live)) free)), tt);
    }
      where
        works : IsAtWork a t l
        works = at_work_open a q.settled.stands t l live client at_work

        later : (v : Waiting) → HasCome v.number (a.sessions v.client) → (b : Bool) → (client == v.client) ≡ b → (b && number == v.number) ≡ false
        later v h false e = refl
        later v h true e =
            let before : v.number ≤ w.last = subst (HasCome v.number) (ap a.sessions (sym (eqb-true client v.client e)) ∙ there) h in
            ne_eqb number v.number (λ same. omega (arith, before, turn, same))

        part : (v : Waiting) → is_of_part client t v ≡ false → (u : TransId) → part_trans v.call ≡ Some u → (b : Bool) → (client == v.client) ≡ b → (b && is_of u (part_trans c)) ≡ false
        part v o u of false e = refl
        part v o u of true e =
            ap (is_of u) (file_part c t named) ∙ turned t u ∙ sym (ap (is_of t) of)
            ∙ ap (λ (b : Bool). b && is_of t (part_trans v.call)) (sym (eq-eqb v.client client (sym (eqb-true client v.client e)))) ∙ o

        two : (v : Waiting) → is_on_trans t v ≡ false → is_of_part client t v ≡ false → HasCome v.number (a.sessions v.client) → AreTwo v waiter
        two v o p h = (λ u of. ap (is_of u) named ∙ turned t u ∙ sym (ap (is_of t) of) ∙ o, later v h (client == v.client) refl, λ u of. part v p u of (client == v.client) refl)

        -- its part did not vote, and is not finishing
        of_ready : (j : JoinNo) (u : TransId) (d ts : ℕ) → a.phases j ≡ Ready u d ts → (b : Bool) → is_of_part d u waiter ≡ b → is_of_part d u waiter ≡ false
        of_ready j u d ts is false e = e
        of_ready j u d ts is true e =
            let both = and_parts (client == d) (is_of u (part_trans c)) e in
            let same : t ≡ u = same_trans-true t u (ap (is_of u) (sym (file_part c t named)) ∙ both.1) in
            absurd (ready_idle a q.settled.stands t l j d ts live works.vote (is ∙ (λ i. Ready (sym same i) d ts)))

        of_finishing : (u : TransId) (d : ℕ) (js : List JoinNo) (vs : List Vote) → a.fates u ≡ Finishing d js vs → (b : Bool) → is_on_trans u waiter ≡ b → is_on_trans u waiter ≡ false
        of_finishing u d js vs is false e = e
        of_finishing u d js vs is true e =
            let same : t ≡ u = same_trans-true t u (ap (is_of u) (sym named) ∙ e) in
            absurd (not_finishing a q.settled.stands t client d js vs at_work (ap a.fates same ∙ is))

    pub waits_leads : IsQuiet a → a.is_down ≡ false → a.sessions client ≡ Some w → number ≡ w.last + 1 → part_at (state_of a) client t ≡ AtWork → a.holder.lives t ≡ Some l → l.client ≡ client → file_trans c ≡ Some t
        → waiting_of (state_of a).desk client t ≡ None → option_or (shape_refusal (state_of a) l c) (lock_refusal (state_of a) t l c) ≡ None → choice_of c ≡ Some choice.Wait → (IsFree a.holder t l c → ⊥)
        → Leads false a (call_entry a client number w c not_yet []) with_wait
    waits_leads q up there turn at_work live own named idle passed chosen taken =
        let s : State = state_of a in
        let is : IsFileCall a client number w t c not_yet = file_call a client number w t c not_yet named in
        let d : Desk = with_session s.desk client (Some (record w { last = number; reply = not_yet })) in
        let works : part_refusal s client t ≡ None = idle_part None idle at_work in
        let why : IsFileOf false s client c not_yet (Some t) =
        subst (λ (x : Option Refusal). First x not_yet (OrFault false not_yet (IsFileAnswer s t c not_yet (a.holder.lives t)))) (sym works)
        (inr (subst (IsFileAnswer s t c not_yet) (sym live) (subst (λ (x : Option Refusal). First x not_yet (IsLocked s t l c not_yet)) (sym passed) (IsLocked.waits chosen taken)))) in
        let none : grants_now s client t c not_yet ≡ [] =
        ap (λ (x : Option Refusal). cond {A = List TransId} (is_some x) [] (grants_if s t c not_yet (a.holder.lives t))) works ∙ ap (grants_if s t c not_yet) live
        ∙ ap (λ (x : Option Refusal). cond {A = List TransId} (is_some x) [] (grants_by (asks a.holder l c) t not_yet)) passed in
        call_leads a client number w false c not_yet [] [] with_wait there turn (record {
          plain = is.plain;
          greets = is.greets;
          up = refl;
          running = up;
          brought = ap (λ (ds : List Deed). ds ++ [] ++ done_of s not_yet (answered s client c)) is.deeds ∙ ap (done_of s not_yet) is.own ∙ ap (done_by s c not_yet) named;
          new = new_call a client number w there turn;
          there = there;
          left = ap (λ (x : Desk). record s { desk = x; is_down = false; pending = [] }) (
              is.leaves d (has_part s client) ∙ ap (begins_waiting d client number c) (file_part c t named)
              ∙ ap (λ (x : Option Waiting). cond {A = Desk} (is_some x) d (record d { waits = a.waits ++ waiter ∷ [] })) idle);
          drawn = refl;
          deeds = tt;
          released = refl;
          granted = refl;
          said = tt;
          tells = tt;
          regained = refl;
          quiet = wait_quiet q at_work there turn live own named idle taken;
          answer = is.answer false (subst (IsFileOf false s client c not_yet) (sym named) why);
          mail = no_mail [] is.mail refl;
          turns = tt;
          grants = subst (GrantsFor false s client c not_yet []) (sym named) (inr (sym none));
        })

    -- ---- a call of the part waits, or is not collected

    pub busy_leads : (v : Waiting) → IsQuiet a → a.is_down ≡ false → a.sessions client ≡ Some w → number ≡ w.last + 1 → part_refusal (state_of a) client t ≡ Some refusal.NotYet → file_trans c ≡ Some t
        → waiting_of (state_of a).desk client t ≡ Some v → Leads false a (call_entry a client number w c not_yet []) (counted_as a client number w not_yet)
    busy_leads v q up there turn works named waits =
        let s : State = state_of a in
        let is : IsFileCall a client number w t c not_yet = file_call a client number w t c not_yet named in
        let d : Desk = with_session s.desk client (Some (record w { last = number; reply = not_yet })) in
        call_leads a client number w false c not_yet [] [] (counted_as a client number w not_yet) there turn (record {
          plain = is.plain;
          greets = is.greets;
          up = refl;
          running = up;
          brought = ap (λ (ds : List Deed). ds ++ [] ++ done_of s not_yet (answered s client c)) is.deeds ∙ ap (done_of s not_yet) is.own ∙ ap (done_by s c not_yet) named;
          new = new_call a client number w there turn;
          there = there;
          left = ap (λ (x : Desk). record s { desk = x; is_down = false; pending = [] }) (
              is.leaves d (has_part s client) ∙ ap (begins_waiting d client number c) (file_part c t named)
              ∙ ap (λ (x : Option Waiting). cond {A = Desk} (is_some x) d (record d { waits = a.waits ++ waiter ∷ [] })) waits);
          drawn = refl;
          deeds = tt;
          released = refl;
          granted = refl;
          said = tt;
          tells = tt;
          regained = refl;
          quiet = counted_quiet a client number w not_yet q there turn;
          answer = is.answer false (subst (IsFileOf false s client c not_yet) (sym named)
              (subst (λ (x : Option Refusal). First x not_yet (OrFault false not_yet (IsFileAnswer s t c not_yet (a.holder.lives t)))) (sym works) refl));
          mail = no_mail [] is.mail refl;
          turns = tt;
          grants = subst (GrantsFor false s client c not_yet []) (sym named)
              (inr (sym (ap (λ (x : Option Refusal). cond {A = List TransId} (is_some x) [] (grants_if s t c not_yet (a.holder.lives t))) works)));
        })

  -- ---- a Finish with commit of such a part

  abbrev commit_call : Call
  commit_call = call.Finish t true

  pub busy_finish_leads : (v : Waiting) → IsQuiet a → a.is_down ≡ false → a.sessions client ≡ Some w → number ≡ w.last + 1 → t.server ≡ a.holder.server → {js : List JoinNo} → a.fates t ≡ Running client js
      → waiting_of (state_of a).desk client t ≡ Some v → Leads false a (call_entry a client number w commit_call not_yet []) (counted_as a client number w not_yet)
  busy_finish_leads v q up there turn here {js} runs waits =
      let s : State = state_of a in
      let d : Desk = with_session s.desk client (Some (record w { last = number; reply = not_yet })) in
      let mine : (client == client) ≡ true = eq-eqb client client refl in
      call_leads a client number w false commit_call not_yet [] [] (counted_as a client number w not_yet) there turn (record {
        plain = λ m. refl;
        greets = λ e h. h;
        up = refl;
        running = up;
        brought = ap (λ (f : Fate). finishes s.desk client t true not_yet f ++ [] ++ []) runs
            ∙ ap (λ (b : Bool). cond {A = List Deed} (b && is_none (waiting_of s.desk client t)) (Finishes t ∷ ends_by t client not_yet) [] ++ [] ++ []) mine
            ∙ ap (λ (x : Option Waiting). cond {A = List Deed} (is_none x) (Finishes t ∷ ends_by t client not_yet) [] ++ [] ++ []) waits;
        new = new_call a client number w there turn;
        there = there;
        left = ap (λ (x : Option Waiting). record s {
          desk = finished (cond {A = Desk} (is_some x) d (record d { waits = a.waits ++ (record { client = client; number = number; call = commit_call; is_granted = false }) ∷ [] })) client t not_yet;
          is_down = false;
          pending = [];
        }) waits;
        drawn = refl;
        deeds = tt;
        released = refl;
        granted = refl;
        said = tt;
        tells = tt;
        regained = refl;
        quiet = counted_quiet a client number w not_yet q there turn;
        answer = subst (λ (b : Bool). Where b (First (at_part (true && is_some (waiting_of s.desk client t)) (part_at s client t)) not_yet (not_yet ≡ finish_reply false s t (a.fates t))) (not_yet ≡ reply.Refused refusal.UnknownTrans))
            (sym (eq-eqb t.server a.holder.server here))
            (subst (λ (x : Option Waiting). First (at_part (true && is_some x) (part_at s client t)) not_yet (not_yet ≡ finish_reply false s t (a.fates t))) (sym waits)
            (subst (λ (p : Part). First (at_part true p) not_yet (not_yet ≡ finish_reply false s t (a.fates t))) (sym (own_at_work a t client here runs)) refl));
        mail = no_mail [] (
            ap (λ (x : Option Waiting). on_finish t true client (is_none x) (a.fates t)) waits ∙ ap (on_finish t true client false) runs ∙ ap (λ (b : Bool). cond {A = List Mail} (b && false) (to_each (msg.Ask t) js) []) mine) refl;
        turns = tt;
        grants = tt;
      })
