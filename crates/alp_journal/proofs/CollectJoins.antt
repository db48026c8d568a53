-- a Join or a Finish that waits is collected
use Rattle.std.specs.Prelude.{cond, Bool, true, false, ◌&&◌, ◌||◌, ◌==◌, find, is_some, Option, None, Some}
use Rattle.std.specs.FinMap.Entries as entries
use Rattle.std.proofs.lemmas.Bool.{and_parts, eqb-true}
use Rattle.std.proofs.Common.{◌≡◌, ℕ, ◌+◌, List, [], ◌∷◌, ◌++◌, refl, sym, ◌∙◌, ap, subst}
use Rattle.alp_base.specs.declared.ids.JoinNo.{JoinNo}
use Rattle.alp_base.specs.declared.ids.Stamp.{Stamp}
use Rattle.alp_base.specs.declared.ids.TransId.{TransId}
use Rattle.alp_files.proofs.FilesLemmas.{same-some}
use Rattle.alp_files.specs.History.{Decided}
use Rattle.alp_files.specs.declared.call.Call.{Call}
use Rattle.alp_files.specs.declared.call.Call.TheVariants as call
use Rattle.alp_files.specs.declared.reply.Reply.{Reply}
use Rattle.alp_files.specs.declared.reply.Reply.TheVariants as reply
use Rattle.alp_files.specs.declared.refusal.Refusal.TheVariants as refusal
use Rattle.alp_files.specs.declared.refusal.Cause.{Cause}
use Rattle.alp_journal.specs.Ids.{same_trans, stamp_cmp}
use Rattle.alp_journal.specs.Coordinator.{Fate, Undrawn, Running, Finishing, Committed, Forgotten, Ended, decision_in}
use Rattle.alp_journal.specs.Participant.{Phase, Joining, live_in}
use Rattle.alp_journal.specs.Desk.{Desk, Session, Waiting, file_trans, part_trans, is_of, is_of_part, is_on, is_dead, is_dead_call, waiting_at, is_not_yet, collected, with_session}
use Rattle.alp_journal.specs.State.{State, is_whose}
use Rattle.alp_journal.specs.Moves.{call_of, done_by, done_of}
use Rattle.alp_journal.specs.Laws.{TellsIn, begun_in}
use Rattle.alp_journal.specs.Answers.{AtJoining, AtWork, AtEnd, is_no_part, phase_part, part_at, join_collected, finish_collected, IsCollectedOf, IsCollected}
use Rattle.alp_journal.specs.Account.{Account, state_of, is_other, IsFateOf, Stands, IsSettled, IsQuiet, Leads}
use Rattle.alp_journal.proofs.IdLemmas.{same_trans-true}
use Rattle.alp_journal.proofs.MadeIds.{all-map}
use Rattle.alp_journal.proofs.WaitLemmas.{found-passes, IsOnly, each-only}
use Rattle.alp_journal.proofs.StandLemmas.{whose_own, far_of_live, not_own_server, not_both_servers, own_server}
use Rattle.alp_journal.proofs.PartLemmas.{joined_part_at, part_not_dead}
use Rattle.alp_journal.proofs.QuietLemmas.{KeepsJoins, quiet_without}
use Rattle.alp_journal.proofs.CallLemmas.{no_mail, call_entry, new_call, call_leads}
use Rattle.alp_journal.proofs.RefusedCalls.{counted_as, counted_quiet}
use Rattle.alp_journal.proofs.CollectCalls.{uncollected}

module _ (a : Account) (client number : ℕ) (w : Session) (n : ℕ) (v : Waiting) where
  abbrev collect : Call
  collect = call.Collect n

  abbrev is_it : Waiting → Bool
  is_it u = u.client == client && u.number == n

  abbrev with_reply : Reply → Desk
  with_reply r = with_session (state_of a).desk client (Some (record w { last = number; reply = r }))

  -- what is known of the call
  pub record OtherOwes : Type 0 where
    pub quiet : IsQuiet a
    pub up : a.is_down ≡ false
    pub there : a.sessions client ≡ Some w
    pub turn : number ≡ w.last + 1
    pub found : waiting_at (state_of a).desk client n ≡ Some v
    pub files : file_trans v.call ≡ None

  its : OtherOwes → v.client ≡ client
  its o = eqb-true v.client client (and_parts (v.client == client) (v.number == n) (found-passes is_it a.waits v o.found)).0

  brings : OtherOwes → (r : Reply) → done_of (state_of a) r (call_of (waiting_at (state_of a).desk client n)) ≡ []
  brings o r = ap (λ (x : Option Waiting). done_of (state_of a) r (call_of x)) o.found ∙ ap (λ (x : Option TransId). done_by (state_of a) v.call r x) o.files

  -- it waits on: the answer is that it does, or is the end of a dead part
  pub other_stays_leads : OtherOwes → (r : Reply) → [] ≡ begun_in (Some r) → TellsIn (state_of (counted_as a client number w r)) collect r → (is_not_yet r || is_on (is_dead (state_of a).desk client) (part_trans v.call)) ≡ true
      → IsCollectedOf false (state_of a) client v r v.call → Leads false a (call_entry a client number w collect r []) (counted_as a client number w r)
  other_stays_leads o r none tells stays why =
      let s : State = state_of a in
      call_leads a client number w false collect r [] [] (counted_as a client number w r) o.there o.turn (record {
        plain = λ m. refl;
        greets = λ e h. h;
        up = refl;
        running = o.up;
        brought = brings o r;
        new = new_call a client number w o.there o.turn;
        there = o.there;
        left = ap (λ (x : Option Waiting). record s { desk = cond {A = Desk} (is_not_yet r) (with_reply r) (cond {A = Desk} (is_dead_call (with_reply r) client x) (with_reply r) (record (with_reply r) { waits = uncollected a client number w n })); is_down = false; pending = [] }) o.found
            ∙ ap (λ (x : Desk). record s { desk = x; is_down = false; pending = [] }) (either (is_not_yet r) (is_on (is_dead (state_of a).desk client) (part_trans v.call)) (with_reply r) (record (with_reply r) { waits = uncollected a client number w n }) stays);
        drawn = none;
        deeds = tt;
        released = refl;
        granted = refl;
        said = tt;
        tells = tells;
        regained = refl;
        quiet = counted_quiet a client number w r o.quiet o.there o.turn;
        answer = subst (IsCollected false s client r) (sym o.found) why;
        mail = no_mail [] refl refl;
        turns = tt;
        grants = tt;
      })
    where
      either : (b d : Bool) (x y : Desk) → (b || d) ≡ true → cond {A = Desk} b x (cond {A = Desk} d x y) ≡ x
      either true d x y h = refl
      either false true x y h = refl
      either false false x y h = let wrong : false ≡ true = h in cc

  -- it goes with its answer
  pub other_goes_leads : OtherOwes → (r : Reply) → [] ≡ begun_in (Some r) → TellsIn (state_of (record (counted_as a client number w r) { waits = uncollected a client number w n })) collect r → is_not_yet r ≡ false
      → is_on (is_dead (state_of a).desk client) (part_trans v.call) ≡ false → KeepsJoins a.phases is_it a.waits → IsCollectedOf false (state_of a) client v r v.call
      → Leads false a (call_entry a client number w collect r []) (record (counted_as a client number w r) { waits = uncollected a client number w n })
  other_goes_leads o r none tells now alive keeps why =
      let s : State = state_of a in
      call_leads a client number w false collect r [] [] (record (counted_as a client number w r) { waits = uncollected a client number w n }) o.there o.turn (record {
        plain = λ m. refl;
        greets = λ e h. h;
        up = refl;
        running = o.up;
        brought = brings o r;
        new = new_call a client number w o.there o.turn;
        there = o.there;
        left = ap (λ (b : Bool). record s { desk = cond {A = Desk} b (with_reply r) (collected (with_reply r) client n); is_down = false; pending = [] }) now
            ∙ ap (λ (x : Option Waiting). record s { desk = cond {A = Desk} (is_dead_call (with_reply r) client x) (with_reply r) (record (with_reply r) { waits = uncollected a client number w n }); is_down = false; pending = [] }) o.found
            ∙ ap (λ (b : Bool). record s { desk = cond {A = Desk} b (with_reply r) (record (with_reply r) { waits = uncollected a client number w n }); is_down = false; pending = [] }) alive;
        drawn = none;
        deeds = tt;
        released = refl;
        granted = refl;
        said = tt;
        tells = tells;
        regained = refl;
        quiet = quiet_without is_it (counted_as a client number w r) keeps refl (counted_quiet a client number w r o.quiet o.there o.turn);
        answer = subst (IsCollected false s client r) (sym o.found) why;
        mail = no_mail [] refl refl;
        turns = tt;
        grants = tt;
      })

  -- the only call of that number is this one, so where it is of no join that asks all that do keep theirs
  keeps_none : OtherOwes → (t : TransId) → part_trans v.call ≡ Some t → ((j : JoinNo) (who : List ℕ) → a.phases j ≡ Joining t client who → ⊥) → KeepsJoins a.phases is_it a.waits
  keeps_none o t named none j u owner who is = all-map (IsOnly a.waits) (λ x. is_of_part owner u x ≡ true → is_it x ≡ false) (λ x only of. go x only of (is_it x) refl) a.waits (each-only a.waits o.quiet.settled.tells.apart)
    where
      go : (x : Waiting) → IsOnly a.waits x → is_of_part owner u x ≡ true → (b : Bool) → is_it x ≡ b → b ≡ false
      go x only of false e = refl
      go x only of true e =
          let numbers = and_parts (x.client == client) (x.number == n) e in
          let same : x ≡ v = same-some x v (sym only.by_number ∙ (λ i. find (λ (y : Waiting). y.client == eqb-true x.client client numbers.0 i && y.number == eqb-true x.number n numbers.1 i) a.waits) ∙ o.found) in
          let mine = and_parts (x.client == owner) (is_of u (part_trans x.call)) of in
          let trans : t ≡ u = same_trans-true t u (ap (is_of u) (sym (ap (λ (y : Waiting). part_trans y.call) same ∙ named)) ∙ mine.1) in
          absurd (none j who (is ∙ (λ i. Joining (sym trans i) ((sym (eqb-true x.client owner mine.0) ∙ eqb-true x.client client numbers.0) i) who)))

  -- ---- a Join

  module _ (t : TransId) (joins : v.call ≡ call.Join t) where
    -- it was let in
    pub collect_joined_leads : OtherOwes → part_at (state_of a) client t ≡ AtWork → Leads false a (call_entry a client number w collect reply.Joined []) (record (counted_as a client number w reply.Joined) { waits = uncollected a client number w n })
    collect_joined_leads o works = other_goes_leads o reply.Joined refl tt refl
        (ap (λ (c : Call). is_on (is_dead (state_of a).desk client) (part_trans c)) joins ∙ part_not_dead a client t o.quiet.settled (ap is_no_part works))
        (keeps_none o t (ap part_trans joins) not_asking)
        (subst (IsCollectedOf false (state_of a) client v reply.Joined) (sym joins) (ap join_collected (sym works)))
      where
        not_asking : (j : JoinNo) (who : List ℕ) → a.phases j ≡ Joining t client who → ⊥
        not_asking j who is =
            let q : Stands a = o.quiet.settled.stands in
            let live : is_whose client t (live_in (a.phases j)) ≡ true = ap (λ (p : Phase). is_whose client t (live_in p)) is ∙ whose_own client t in
            let far : is_other a.servers a.holder.server t.server ≡ true = far_of_live a.servers a.holder.server a.ids.epoch a.ids.joins a.joined j client t (a.phases j) live (q.phases j) in
            let wrong : AtWork ≡ AtJoining = sym works ∙ joined_part_at a t client j q (not_own_server a.servers a.holder.server t.server far) live ∙ ap phase_part is in
            cc

    -- it asks still, or its part does not work more
    pub collect_join_waits_leads : OtherOwes → join_collected (part_at (state_of a) client t) ≡ reply.Refused refusal.NotYet → Leads false a (call_entry a client number w collect (reply.Refused refusal.NotYet) []) (counted_as a client number w (reply.Refused refusal.NotYet))
    collect_join_waits_leads o is = other_stays_leads o (reply.Refused refusal.NotYet) refl tt refl (subst (IsCollectedOf false (state_of a) client v (reply.Refused refusal.NotYet)) (sym joins) (sym is))

    -- it is over
    pub collect_join_dead_leads : (c : Cause) → OtherOwes → a.dead client t ≡ Some c → part_at (state_of a) client t ≡ AtEnd c → Leads false a (call_entry a client number w collect (reply.Refused (refusal.Aborted c)) []) (counted_as a client number w (reply.Refused (refusal.Aborted c)))
    collect_join_dead_leads c o dead is = other_stays_leads o (reply.Refused (refusal.Aborted c)) refl tt (ap (λ (x : Call). is_on (is_dead (state_of a).desk client) (part_trans x)) joins ∙ ap (λ (x : Option Cause). is_some x) dead)
        (subst (IsCollectedOf false (state_of a) client v (reply.Refused (refusal.Aborted c))) (sym joins) (ap join_collected (sym is)))

  -- ---- a Finish

  module _ (t : TransId) (commit : Bool) (finishes : v.call ≡ call.Finish t commit) where
    -- its votes are not all there
    pub collect_finish_waits_leads : OtherOwes → finish_collected (a.dead client t) (a.fates t) ≡ reply.Refused refusal.NotYet → Leads false a (call_entry a client number w collect (reply.Refused refusal.NotYet) []) (counted_as a client number w (reply.Refused refusal.NotYet))
    collect_finish_waits_leads o is = other_stays_leads o (reply.Refused refusal.NotYet) refl tt refl (subst (IsCollectedOf false (state_of a) client v (reply.Refused refusal.NotYet)) (sym finishes) (sym is))

    -- its transaction has ended
    pub collect_finish_dead_leads : (c : Cause) → OtherOwes → a.dead client t ≡ Some c → finish_collected (a.dead client t) (a.fates t) ≡ reply.Refused (refusal.Aborted c)
        → Leads false a (call_entry a client number w collect (reply.Refused (refusal.Aborted c)) []) (counted_as a client number w (reply.Refused (refusal.Aborted c)))
    collect_finish_dead_leads c o dead is = other_stays_leads o (reply.Refused (refusal.Aborted c)) refl tt (ap (λ (x : Call). is_on (is_dead (state_of a).desk client) (part_trans x)) finishes ∙ ap (λ (x : Option Cause). is_some x) dead)
        (subst (IsCollectedOf false (state_of a) client v (reply.Refused (refusal.Aborted c))) (sym finishes) (sym is))

    -- it was decided, in this run
    pub collect_decided_leads : (stamp : Stamp) (js : List JoinNo) (x : Decided) → OtherOwes → decision_in (a.fates t) ≡ Some (stamp, js) → entries.find stamp_cmp stamp a.holder.applied ≡ Some x
        → Leads false a (call_entry a client number w collect (reply.Committed stamp) []) (record (counted_as a client number w (reply.Committed stamp)) { waits = uncollected a client number w n })
    collect_decided_leads stamp js x o is kept = go (a.fates t) refl is
      where
        q : IsSettled a
        q = o.quiet.settled

        decided : (f : Fate) → a.fates t ≡ f → stamp.trans ≡ t → t.server ≡ a.holder.server → finish_collected (a.dead client t) f ≡ reply.Committed stamp → ((c : Cause) → f ≡ Ended c → ⊥)
            → Leads false a (call_entry a client number w collect (reply.Committed stamp) []) (record (counted_as a client number w (reply.Committed stamp)) { waits = uncollected a client number w n })
        decided f e own here says no_end = other_goes_leads o (reply.Committed stamp) refl (js, ap (λ (u : TransId). decision_in (a.fates u)) own ∙ is, (x, kept)) refl
            (ap (λ (c : Call). is_on (is_dead (state_of a).desk client) (part_trans c)) finishes ∙ alive (a.dead client t) refl)
            (keeps_none o t (ap part_trans finishes) (λ j who asks. not_both_servers a.servers a.holder.server t.server
            (far_of_live a.servers a.holder.server a.ids.epoch a.ids.joins a.joined j client t (a.phases j) (ap (λ (p : Phase). is_whose client t (live_in p)) asks ∙ whose_own client t) (q.stands.phases j)) here))
            (subst (IsCollectedOf false (state_of a) client v (reply.Committed stamp)) (sym finishes) (sym (ap (finish_collected (a.dead client t)) e ∙ says)))
          where
            alive : (d : Option Cause) → a.dead client t ≡ d → is_some (a.dead client t) ≡ false
            alive None g = ap (λ (y : Option Cause). is_some y) g
            alive (Some c) g = absurd (no_end c (sym e ∙ (q.tells.ended client t c g).0 here))

        go : (f : Fate) → a.fates t ≡ f → decision_in f ≡ Some (stamp, js)
            → Leads false a (call_entry a client number w collect (reply.Committed stamp) []) (record (counted_as a client number w (reply.Committed stamp)) { waits = uncollected a client number w n })
        go (Committed y ks ds) e h =
            let of = subst (IsFateOf a.servers a.holder.server a.ids.epoch a.ids.transactions a.begun t) e (q.stands.fates t) in
            let both : ◌≡◌ {A = Stamp × List JoinNo} (y, ks) (stamp, js) = same-some (y, ks) (stamp, js) h in
            let one : y ≡ stamp = ap (λ (z : Stamp × List JoinNo). z.0) both in
            decided (Committed y ks ds) e (ap (λ (z : Stamp). z.trans) (sym one) ∙ of.1) (own_server a.holder.server a.ids.epoch a.ids.transactions t of.0.0) (ap (λ (z : Stamp). reply.Committed z) one) (λ c g. (let wrong : Committed y ks ds ≡ Ended c = g in cc))
        go (Forgotten y ks) e h =
            let of = subst (IsFateOf a.servers a.holder.server a.ids.epoch a.ids.transactions a.begun t) e (q.stands.fates t) in
            let both : ◌≡◌ {A = Stamp × List JoinNo} (y, ks) (stamp, js) = same-some (y, ks) (stamp, js) h in
            let one : y ≡ stamp = ap (λ (z : Stamp × List JoinNo). z.0) both in
            decided (Forgotten y ks) e (ap (λ (z : Stamp). z.trans) (sym one) ∙ of.1) (own_server a.holder.server a.ids.epoch a.ids.transactions t of.0.0) (ap (λ (z : Stamp). reply.Committed z) one) (λ c g. (let wrong : Forgotten y ks ≡ Ended c = g in cc))
        go Undrawn e h = let wrong : ◌≡◌ {A = Option (Stamp × List JoinNo)} None (Some (stamp, js)) = h in cc
        go (Running c ks) e h = let wrong : ◌≡◌ {A = Option (Stamp × List JoinNo)} None (Some (stamp, js)) = h in cc
        go (Finishing c ks vs) e h = let wrong : ◌≡◌ {A = Option (Stamp × List JoinNo)} None (Some (stamp, js)) = h in cc
        go (Ended c) e h = let wrong : ◌≡◌ {A = Option (Stamp × List JoinNo)} None (Some (stamp, js)) = h in cc
