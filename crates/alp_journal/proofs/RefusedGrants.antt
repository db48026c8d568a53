-- a file call has its locks, and is refused under them
use Rattle.std.specs.Prelude.{cond, Bool, true, false, ◌&&◌, ◌||◌, Option, None, Some}
use Rattle.std.specs.List.{AllByRecursion}
use Rattle.std.specs.Option.{option_or}
use Rattle.std.proofs.lemmas.List.{append-nil}
use Rattle.std.proofs.Common.{◌≡◌, ℕ, ◌+◌, List, [], ◌∷◌, ◌++◌, refl, sym, ◌∙◌, ap, subst, eq-eqb, arith}
use Rattle.alp_base.specs.declared.ids.TransId.{TransId}
use Rattle.alp_files.specs.Locks.{needs_of, IsMore}
use Rattle.alp_files.proofs.CoverLemmas.{granted-more}
use Rattle.alp_files.proofs.FilesLemmas.{same-some}
use Rattle.alp_files.specs.Passing.{is_passing_refusal}
use Rattle.alp_files.specs.declared.call.Call.{Call}
use Rattle.alp_files.specs.declared.reply.Reply.{Reply}
use Rattle.alp_files.specs.declared.reply.Reply.TheVariants as reply
use Rattle.alp_files.specs.declared.refusal.Refusal.{Refusal}
use Rattle.alp_journal.specs.declared.act.Act.TheVariants as act
use Rattle.alp_journal.specs.declared.event.Event.{Event}
use Rattle.alp_journal.specs.declared.event.Event.TheVariants as event
use Rattle.alp_journal.specs.Deeds.{Deed, Grants, Performs}
use Rattle.alp_journal.specs.Holder.{Life, with_life, view_in, grants, held_for}
use Rattle.alp_journal.specs.Desk.{Session, Waiting, file_trans, waiting_of, is_of, is_not_yet, begins_if, with_session}
use Rattle.alp_journal.specs.Counts.{lock_set, with_resources, request_in}
use Rattle.alp_journal.specs.State.{State, state_deed, has_part}
use Rattle.alp_journal.specs.Moves.{act_deeds, grants_to, ungranted, call_now, asks_for, is_of_no_file, answered, done_by, done_of}
use Rattle.alp_journal.specs.Laws.{IsFree, DoLivesAgree}
use Rattle.alp_journal.specs.Answers.{AtWork, part_at, IsFileOf}
use Rattle.alp_journal.specs.Answered.{GrantsFor}
use Rattle.alp_journal.specs.Account.{Account, state_of, IsQuiet, HasTried, is_on_trans, Leads}
use Rattle.alp_journal.proofs.IdLemmas.{same_trans-itself}
use Rattle.alp_journal.proofs.WaitLemmas.{none-granted}
use Rattle.alp_journal.proofs.TurnLemmas.{turns-set}
use Rattle.alp_journal.proofs.StandLemmas.{part-like, paired_kept, held_kept, pair_of}
use Rattle.alp_journal.proofs.PartLemmas.{IsAtWork, at_work_open}
use Rattle.alp_journal.proofs.QuietLemmas.{parts-kept, none-on, came_on, later-come}
use Rattle.alp_journal.proofs.GivenLemmas.{agree-granted}
use Rattle.alp_journal.proofs.CallLemmas.{no_mail, call_entry, new_call, call_leads}
use Rattle.alp_journal.proofs.RefusedCalls.{counted_as, IsFileCall, file_call}

module _ (a : Account) (client number : ℕ) (w : Session) (t : TransId) (l : Life) (c : Call) (f : Refusal) where
  abbrev under : Life
  under = record l { held = held_for a.holder l c }

  -- the part keeps the locks, and nothing else comes about
  abbrev pub with_locks : Account
  with_locks = record (counted_as a client number w (reply.Refused f)) {
    holder = with_life a.holder t (Some under);
    locked = lock_set a.locked t (with_resources (request_in a.holder c (Some l)) (a.locked t));
  }

  locks_quiet : IsQuiet a → a.sessions client ≡ Some w → number ≡ w.last + 1 → a.holder.lives t ≡ Some l → AllByRecursion (λ v. is_on_trans t v ≡ false) a.waits → IsFree a.holder t l c → IsQuiet with_locks
  locks_quiet q there turn live off free = record {
    settled = record {
      stands = record {
        agree = subst (λ (x : Option Life). DoLivesAgree (grants a.holder t c x).lives) live (agree-granted a.holder t l c live free q.settled.stands.agree);
        paired = paired_kept a.phases a.holder.lives a.fates t (Some under) q.settled.stands.paired (part-like t a.phases l under (a.fates t) refl refl refl refl refl (pair_of a q.settled.stands t l live));
        held = λ j. held_kept a.holder.lives t l under live refl j (a.phases j) (q.settled.stands.held j);
        votes = q.settled.stands.votes;
        forgets = q.settled.stands.forgets;
        fates = q.settled.stands.fates;
        begun = q.settled.stands.begun;
        known = q.settled.stands.known;
        phases = q.settled.stands.phases;
        joined = q.settled.stands.joined;
        single = q.settled.stands.single;
        order = q.settled.stands.order;
      };
      tells = record {
        ended = q.settled.tells.ended;
        parts = parts-kept a.holder.lives a.dead t l under live refl a.waits q.settled.tells.parts;
        others = q.settled.tells.others;
        came = came_on a.sessions client (record w { last = number; reply = reply.Refused f }) (later-come a.sessions client w (record w { last = number; reply = reply.Refused f }) there (omega (arith, turn))) a.waits q.settled.tells.came;
        apart = q.settled.tells.apart;
        joining = q.settled.tells.joining;
        finishing = q.settled.tells.finishing;
      };
    };
    tried = HasTried.nothing refl;
    turns = turns-set (state_of a) (state_of with_locks) t under refl (λ u. refl)
        (λ k at. subst (λ (y : Life). IsMore y.held under.held) (same-some l k (sym live ∙ at)) (granted-more l.held (needs_of (view_in a.holder l) l.own c))) a.waits off q.turns;
  }

  pub refused_granted_leads : (failed : Bool) → IsQuiet a → a.is_down ≡ false → a.sessions client ≡ Some w → number ≡ w.last + 1 → part_at (state_of a) client t ≡ AtWork → a.holder.lives t ≡ Some l → l.client ≡ client → file_trans c ≡ Some t → waiting_of (state_of a).desk client t ≡ None
      → is_passing_refusal f ≡ true → is_not_yet (reply.Refused f) ≡ false → IsFree a.holder t l c → IsFileOf failed (state_of a) client c (reply.Refused f) (Some t)
      → GrantsFor failed (state_of a) client c (reply.Refused f) (t ∷ []) (Some t) → Leads failed a (call_entry a client number w c (reply.Refused f) (act.Granted t ∷ [])) with_locks
  refused_granted_leads failed q up there turn at_work live own named idle passes now free why grants_so =
      let s : State = state_of a in
      let r : Reply = reply.Refused f in
      let is : IsFileCall a client number w t c r = file_call a client number w t c r named in
      let ev : Event = event.Call client a.ids.epoch number c in
      let works : IsAtWork a t l = at_work_open a q.settled.stands t l live client at_work in
      let off : AllByRecursion (λ v. is_on_trans t v ≡ false) a.waits = none-on a.holder.lives a.dead client t l live own a.waits q.settled.tells.parts idle in
      let after : State = state_deed s (Grants t c) in
      let asked : act_deeds s ev (act.Granted t) ≡ Grants t c ∷ [] =
      ap (λ (x : Option Life). grants_to t (asks_for s ev t x)) live
      ∙ ap (λ (x : Option Waiting). grants_to t (option_or (ungranted x) (call_now ev t l.client))) (ap (λ (n : ℕ). waiting_of s.desk n t) own ∙ idle)
      ∙ ap (λ (b : Bool). grants_to t (cond {A = Option Call} (b && is_of t (file_trans c)) (Some c) None)) (eq-eqb client l.client (sym own))
      ∙ ap (λ (x : Option TransId). grants_to t (cond {A = Option Call} (is_of t x) (Some c) None)) named
      ∙ ap (λ (b : Bool). grants_to t (cond {A = Option Call} b (Some c) None)) (same_trans-itself t) in
      let none : done_of s r (answered s client c) ≡ [] =
      ap (done_of s r) is.own ∙ ap (done_by s c r) named ∙ ap (λ (b : Bool). cond {A = List Deed} (b || is_of_no_file s c r) [] (Performs t (record { call = c; reply = r }) ∷ [])) passes in
      call_leads a client number w failed c r (act.Granted t ∷ []) (Grants t c ∷ []) with_locks there turn (record {
        plain = is.plain;
        greets = is.greets;
        up = refl;
        running = up;
        brought = ap (λ (ds : List Deed). ds ++ (act_deeds s ev (act.Granted t) ++ []) ++ done_of s r (answered s client c)) is.deeds
            ∙ ap (λ (ds : List Deed). (ds ++ []) ++ done_of s r (answered s client c)) asked ∙ ap (λ (ds : List Deed). Grants t c ∷ ds) none;
        new = new_call a client number w there turn;
        there = there;
        left = (λ i. record after {
          desk = is.leaves (with_session after.desk client (Some (record w { last = number; reply = r }))) (has_part after client) i;
          is_down = false;
          pending = [];
        })
            ∙ (λ i. record after { desk = begins_if (now i) (with_session after.desk client (Some (record w { last = number; reply = r }))) client number c; is_down = false; pending = [] })
            ∙ (λ i. state_of (record with_locks {
              holder = grants a.holder t c (live i);
              waits = none-granted t a.waits off i;
              locked = lock_set a.locked t (with_resources (request_in a.holder c (live i)) (a.locked t));
              begun = append-nil a.begun i;
              joined = append-nil a.joined i;
            }));
        drawn = refl;
        deeds = (
          record {
            counts = tt;
            view = tt;
            locks = (λ x at. subst (λ (y : Life). y.vote ≡ None) (same-some l x (sym live ∙ at)) works.vote, agree-granted a.holder t l c live free q.settled.stands.agree);
            running = works.opens;
            registration = tt;
            vote = tt;
            decision = tt;
            application = tt;
            forgetting = tt;
          },
          tt,
        );
        released = refl;
        granted = refl;
        said = (tt, tt);
        tells = tt;
        regained = refl;
        quiet = locks_quiet q there turn live off free;
        answer = is.answer failed (subst (IsFileOf failed s client c r) (sym named) why);
        mail = no_mail (act.Granted t ∷ []) is.mail refl;
        turns = tt;
        grants = subst (GrantsFor failed s client c r (t ∷ [])) (sym named) grants_so;
      })
