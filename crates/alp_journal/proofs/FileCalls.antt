-- file calls that are performed
use Rattle.std.specs.Prelude.{cond, Bool, true, false, ◌&&◌, ◌||◌, is_some, Option, None, Some, length}
use Rattle.std.specs.List.{AllByRecursion}
use Rattle.std.specs.Option.{option_to_list, option_or}
use Rattle.std.proofs.lemmas.List.{append-nil}
use Rattle.std.proofs.Common.{◌≡◌, ℕ, ◌+◌, List, [], ◌∷◌, ◌++◌, refl, sym, ◌∙◌, ap, subst, eq-eqb, arith}
use Rattle.alp_base.specs.declared.ids.FileId.{FileId}
use Rattle.alp_base.specs.declared.ids.TransId.{TransId}
use Rattle.alp_base.specs.declared.key.Resource.{Resource}
use Rattle.alp_files.specs.Holdings.{Holding, DoAgree}
use Rattle.alp_files.proofs.HoldingLemmas.{agree-turned}
use Rattle.alp_files.proofs.CoverLemmas.{granted-more, joined-more}
use Rattle.alp_files.proofs.FilesLemmas.{same-some}
use Rattle.alp_files.specs.Act.{id_in}
use Rattle.alp_files.specs.History.{PerformedCall}
use Rattle.alp_files.specs.Locks.{needs_of, needs_made, with_made, HoldsEach, IsFormed, IsMore}
use Rattle.alp_files.specs.Passing.{is_passing, is_passing_refusal, IsFileReply}
use Rattle.alp_files.specs.declared.call.Call.{Call}
use Rattle.alp_files.specs.declared.reply.Reply.{Reply}
use Rattle.alp_files.specs.declared.reply.Reply.TheVariants as reply
use Rattle.alp_files.specs.declared.refusal.Refusal.{Refusal}
use Rattle.alp_files.specs.declared.refusal.Refusal.TheVariants as refusal
use Rattle.alp_journal.specs.declared.act.Act.TheVariants as act
use Rattle.alp_journal.specs.declared.event.Event.{Event}
use Rattle.alp_journal.specs.declared.event.Event.TheVariants as event
use Rattle.alp_journal.specs.Ids.{same_trans}
use Rattle.alp_journal.specs.Deeds.{Deed, Grants, Performs}
use Rattle.alp_journal.specs.Holder.{Holder, Life, with_life, view_in, answer_in, held_for, after_done, grants, performs}
use Rattle.alp_journal.specs.Desk.{Session, Waiting, file_trans, waiting_of, is_of, is_not_yet, begins_if, with_session}
use Rattle.alp_journal.specs.Counts.{Locked, lock_set, with_resources, request_in}
use Rattle.alp_journal.specs.State.{State, state_deed, has_part}
use Rattle.alp_journal.specs.Moves.{next_file, act_deeds, grants_to, ungranted, call_now, asks_for, is_of_no_file, answered, done_by, done_of}
use Rattle.alp_journal.specs.Laws.{client_of, IsLawfulDeed, IsFree, IsOpenPart, DoLivesAgree, TellsIn, begun_in}
use Rattle.alp_journal.specs.Answers.{Part, NoPart, AtJoining, AtWork, AtFinish, AtReady, AtEnd, part_at, at_part, First, OrFault, IsFileOf, IsFileAnswer}
use Rattle.alp_journal.specs.Answered.{GrantsFor}
use Rattle.alp_journal.specs.Account.{Account, state_of, IsQuiet, HasTried, is_on_trans, Leads}
use Rattle.alp_journal.proofs.IdLemmas.{same_trans-itself}
use Rattle.alp_journal.proofs.WaitLemmas.{none-granted}
use Rattle.alp_journal.proofs.TurnLemmas.{turns-set}
use Rattle.alp_journal.proofs.StandLemmas.{part-like, paired_kept, held_kept, pair_of}
use Rattle.alp_journal.proofs.PartLemmas.{IsAtWork, at_work_open}
use Rattle.alp_journal.proofs.QuietLemmas.{agree_set, parts-kept, none-on, came_on, later-come}
use Rattle.alp_journal.proofs.CallLemmas.{no_mail, call_entry, new_call, call_leads}
use Rattle.alp_journal.proofs.RefusedCalls.{counted_as, IsFileCall, file_call}

-- ---- what a thread is answered

not_yet_refusal : (f : Refusal) → is_passing_refusal f ≡ false → is_not_yet (reply.Refused f) ≡ false
not_yet_refusal refusal.NotYet h = cc
not_yet_refusal refusal.BadFrame h = refl
not_yet_refusal (refusal.StaleSession epoch) h = refl
not_yet_refusal refusal.UnknownTrans h = refl
not_yet_refusal refusal.Finishing h = refl
not_yet_refusal refusal.UnknownOpen h = refl
not_yet_refusal refusal.UnknownFile h = refl
not_yet_refusal refusal.UnknownOwner h = refl
not_yet_refusal refusal.OwnerExists h = refl
not_yet_refusal refusal.ReadOnlyOpen h = refl
not_yet_refusal (refusal.AccessDenied list) h = refl
not_yet_refusal (refusal.NoSuchPage size) h = refl
not_yet_refusal (refusal.QuotaExceeded charge asked quota) h = refl
not_yet_refusal (refusal.VolumeFull left asked) h = refl
not_yet_refusal (refusal.LogFull room asked) h = refl
not_yet_refusal (refusal.TooMany what limit) h = refl
not_yet_refusal (refusal.LockConflict holder) h = refl
not_yet_refusal (refusal.Aborted cause) h = refl
not_yet_refusal refusal.ReadFault h = refl
not_yet_refusal refusal.Down h = refl
not_yet_refusal refusal.OutOfMemory h = refl
not_yet_refusal refusal.JournalFull h = refl

-- it is not that the call waits, and begins nothing and tells no stamp
pub record IsOwnReply (r : Reply) : Type 0 where
  pub now : is_not_yet r ≡ false
  pub none : [] ≡ begun_in (Some r)
  pub tells : (m : State) (c : Call) → TellsIn m c r

pub own_reply : (r : Reply) → IsFileReply r → IsOwnReply r
own_reply (reply.Refused f) h = record { now = not_yet_refusal f h; none = refl; tells = λ m c. tt }
own_reply (reply.Created f n) h = record { now = refl; none = refl; tells = λ m c. tt }
own_reply (reply.Opened n) h = record { now = refl; none = refl; tells = λ m c. tt }
own_reply reply.Plain h = record { now = refl; none = refl; tells = λ m c. tt }
own_reply (reply.Pages ps) h = record { now = refl; none = refl; tells = λ m c. tt }
own_reply (reply.Props p) h = record { now = refl; none = refl; tells = λ m c. tt }
own_reply (reply.Owner o) h = record { now = refl; none = refl; tells = λ m c. tt }
own_reply (reply.Welcome n) h = absurd h
own_reply (reply.Begun t) h = absurd h
own_reply reply.Joined h = absurd h
own_reply (reply.Committed k) h = absurd h
own_reply (reply.Ended k) h = absurd h

twice : {A : Type 0} (b : Bool) (x y z : A) → cond {A = A} b x (cond {A = A} b y z) ≡ cond {A = A} b x z
twice true x y z = refl
twice false x y z = refl

module _ (a : Account) (client number : ℕ) (w : Session) (t : TransId) (l : Life) (c : Call) (r : Reply) where
  abbrev pub done : PerformedCall
  done = record { call = c; reply = r }

  -- the part as it is behind the call, where it was performed under these locks
  abbrev pub life_after : Holding → Life
  life_after under = after_done (record l { held = under }) done (answer_in a.holder l done)

  -- the call is performed under these locks, with these resources locked
  abbrev pub with_call : Holding → List Resource → Account
  with_call under locks = record (counted_as a client number w r) {
    ids = record a.ids { files = a.ids.files + length (option_to_list (id_in r)) };
    holder = with_life (record a.holder { made = option_to_list (id_in r) ++ a.holder.made }) t (Some (life_after under));
    locked = lock_set a.locked t (with_resources (needs_made (id_in r)) locks);
  }

  -- all that is owed of a call that is performed
  pub record PerformOwes (failed : Bool) (under : Holding) (granted : List TransId) : Type 0 where
    pub quiet : IsQuiet a
    pub up : a.is_down ≡ false
    pub there : a.sessions client ≡ Some w
    pub turn : number ≡ w.last + 1
    pub live : a.holder.lives t ≡ Some l
    pub own : l.client ≡ client
    pub named : file_trans c ≡ Some t
    pub formed : IsFormed c
    pub kind : IsFileReply r
    pub passes : is_passing r ≡ false
    pub given : is_of_no_file (state_of a) c r ≡ false
    pub right : (answer_in a.holder l done).reply ≡ Some r
    pub next_id : (f : FileId) → id_in r ≡ Some f → f ≡ next_file (state_of a)
    pub locked : HoldsEach under (needs_of (view_in a.holder l) l.own c)
    pub agree : (u : TransId) (k : Life) → a.holder.lives u ≡ Some k → same_trans u t ≡ false → DoAgree (with_made under (id_in r)) k.held
    pub why : IsFileOf failed (state_of a) client c r (Some t)
    pub grants : GrantsFor failed (state_of a) client c r granted (Some t)

  -- others are quiet beside the call, whichever of those that waited wait on
  pub call_quiet : (under : Holding) (locks : List Resource) (ws : List Waiting) → IsQuiet (record a { waits = ws }) → AllByRecursion (λ v. is_on_trans t v ≡ false) ws → a.sessions client ≡ Some w → number ≡ w.last + 1
      → a.holder.lives t ≡ Some l → IsMore l.held under → ((u : TransId) (k : Life) → a.holder.lives u ≡ Some k → same_trans u t ≡ false → DoAgree (with_made under (id_in r)) k.held)
      → IsQuiet (record (with_call under locks) { waits = ws })
  call_quiet under locks ws q off there turn live above agrees = record {
    settled = record {
      stands = record {
        agree = agree_set a.holder.lives t (Some (life_after under)) q.settled.stands.agree (λ x is u k away at. subst (λ (y : Life). DoAgree y.held k.held) (same-some (life_after under) x is) (agrees u k at away));
        paired = paired_kept a.phases a.holder.lives a.fates t (Some (life_after under)) q.settled.stands.paired
            (part-like t a.phases l (life_after under) (a.fates t) refl refl refl refl refl (pair_of (record a { waits = ws }) q.settled.stands t l live));
        held = λ j. held_kept a.holder.lives t l (life_after under) live refl j (a.phases j) (q.settled.stands.held j);
        votes = q.settled.stands.votes;
        forgets = q.settled.stands.forgets;
        fates = q.settled.stands.fates;
        begun = q.settled.stands.begun;
        known = q.settled.stands.known;
        phases = q.settled.stands.phases;
        joined = q.settled.stands.joined;
        single = q.settled.stands.single;
        order = q.settled.stands.order;
      };
      tells = record {
        ended = q.settled.tells.ended;
        parts = parts-kept a.holder.lives a.dead t l (life_after under) live refl ws q.settled.tells.parts;
        others = q.settled.tells.others;
        came = came_on a.sessions client (record w { last = number; reply = r }) (later-come a.sessions client w (record w { last = number; reply = r }) there (omega (arith, turn))) ws q.settled.tells.came;
        apart = q.settled.tells.apart;
        joining = q.settled.tells.joining;
        finishing = q.settled.tells.finishing;
      };
    };
    tried = HasTried.nothing refl;
    turns = turns-set (state_of (record a { waits = ws })) (state_of (record (with_call under locks) { waits = ws })) t (life_after under) refl (λ u. refl)
        (λ k at. subst (λ (y : Life). IsMore y.held (with_made under (id_in r))) (same-some l k (sym live ∙ at)) (λ q m c. joined-more under (needs_made (id_in r)) q m (above q m c))) ws off q.turns;
  }

  -- only a part at work is answered anything else than that it is not
  works_of : (failed : Bool) → IsFileOf failed (state_of a) client c r (Some t) → is_passing r ≡ false → part_at (state_of a) client t ≡ AtWork
  works_of failed why passes = go (is_some (waiting_of (state_of a).desk client t)) (part_at (state_of a) client t) refl why
    where
      passing : (f : Refusal) → r ≡ reply.Refused f → is_passing (reply.Refused f) ≡ true → ⊥
      passing f is so = let wrong : true ≡ false = sym so ∙ sym (ap is_passing is) ∙ passes in cc

      go : (b : Bool) (p : Part) → part_at (state_of a) client t ≡ p → First (at_part b p) r (OrFault failed r (IsFileAnswer (state_of a) t c r (a.holder.lives t))) → part_at (state_of a) client t ≡ AtWork
      go b NoPart e is = absurd (passing refusal.UnknownTrans is refl)
      go b AtJoining e is = absurd (passing refusal.NotYet is refl)
      go b AtWork e is = e
      go b AtFinish e is = absurd (passing refusal.Finishing is refl)
      go b AtReady e is = absurd (passing refusal.Finishing is refl)
      go b (AtEnd d) e is = absurd (passing (refusal.Aborted d) is refl)

  -- a part whose call waits is answered that, and nothing else
  idle_of : (failed : Bool) → IsFileOf failed (state_of a) client c r (Some t) → is_passing r ≡ false → waiting_of (state_of a).desk client t ≡ None
  idle_of failed why passes = go (waiting_of (state_of a).desk client t) refl
    where
      busy : (p : Part) → First (at_part true p) r (OrFault failed r (IsFileAnswer (state_of a) t c r (a.holder.lives t))) → ⊥
      busy NoPart is = let wrong : true ≡ false = sym (ap is_passing is) ∙ passes in cc
      busy AtJoining is = let wrong : true ≡ false = sym (ap is_passing is) ∙ passes in cc
      busy AtWork is = let wrong : true ≡ false = sym (ap is_passing is) ∙ passes in cc
      busy AtFinish is = let wrong : true ≡ false = sym (ap is_passing is) ∙ passes in cc
      busy AtReady is = let wrong : true ≡ false = sym (ap is_passing is) ∙ passes in cc
      busy (AtEnd d) is = let wrong : true ≡ false = sym (ap is_passing is) ∙ passes in cc

      go : (x : Option Waiting) → waiting_of (state_of a).desk client t ≡ x → waiting_of (state_of a).desk client t ≡ None
      go None e = e
      go (Some v) e = absurd (busy (part_at (state_of a) client t) (subst (λ (x : Option Waiting). First (at_part (is_some x) (part_at (state_of a) client t)) r (OrFault failed r (IsFileAnswer (state_of a) t c r (a.holder.lives t)))) e why))

  -- no call of its transaction waits
  off_of : {failed : Bool} {under : Holding} {granted : List TransId} → PerformOwes failed under granted → AllByRecursion (λ v. is_on_trans t v ≡ false) a.waits
  off_of {failed} o = none-on a.holder.lives a.dead client t l o.live o.own a.waits o.quiet.settled.tells.parts (idle_of failed o.why o.passes)

  -- what it performs
  performed_deeds : file_trans c ≡ Some t → is_passing r ≡ false → is_of_no_file (state_of a) c r ≡ false → done_of (state_of a) r (answered (state_of a) client c) ≡ Performs t done ∷ []
  performed_deeds named passes given =
      ap (done_of (state_of a) r) (IsFileCall.own (file_call a client number w t c r named)) ∙ ap (done_by (state_of a) c r) named
      ∙ (λ i. cond {A = List Deed} (passes i || given i) [] (Performs t done ∷ []))

  -- under the locks that it holds
  pub performs_lawful : (e : Event) → client_of e ≡ Some l.client → IsOpenPart (state_of a) t → l.vote ≡ None → a.holder.lives t ≡ Some l → IsFormed c → (answer_in a.holder l done).reply ≡ Some r
      → ((f : FileId) → id_in r ≡ Some f → f ≡ next_file (state_of a)) → HoldsEach l.held (needs_of (view_in a.holder l) l.own c) → DoLivesAgree (with_call l.held (a.locked t)).holder.lives → IsLawfulDeed e (state_of a) (Performs t done)
  performs_lawful e own opens unvoted live formed right next_id held agree = record {
    counts = next_id;
    view = (l, live, record { client = own; active = unvoted; formed = formed; right = right; locked = held });
    locks = subst (λ (x : Option Life). DoLivesAgree (performs a.holder t done x).lives) (sym live) agree;
    running = opens;
    registration = tt;
    vote = tt;
    decision = tt;
    application = tt;
    forgetting = tt;
  }

  -- ---- without a lock that rises

  pub performed_leads : (failed : Bool) → PerformOwes failed l.held [] → Leads failed a (call_entry a client number w c r []) (with_call l.held (a.locked t))
  performed_leads failed o =
      let s : State = state_of a in
      let is : IsFileCall a client number w t c r = file_call a client number w t c r o.named in
      let reply_is : IsOwnReply r = own_reply r o.kind in
      let works : IsAtWork a t l = at_work_open a o.quiet.settled.stands t l o.live client (works_of failed o.why o.passes) in
      let m : Account = with_call l.held (a.locked t) in
      let then_quiet : IsQuiet m = call_quiet l.held (a.locked t) a.waits o.quiet (off_of o) o.there o.turn o.live (λ q x h. h) o.agree in
      call_leads a client number w failed c r [] (Performs t done ∷ []) m o.there o.turn (record {
        plain = is.plain;
        greets = is.greets;
        up = refl;
        running = o.up;
        brought = ap (λ (ds : List Deed). ds ++ [] ++ done_of s r (answered s client c)) is.deeds ∙ performed_deeds o.named o.passes o.given;
        new = new_call a client number w o.there o.turn;
        there = o.there;
        left = (λ i. record (state_deed s (Performs t done)) {
          desk = is.leaves (with_session s.desk client (Some (record w { last = number; reply = r }))) (has_part (state_deed s (Performs t done)) client) i;
          is_down = false;
          pending = [];
        })
            ∙ (λ i. record (state_deed s (Performs t done)) { desk = begins_if (reply_is.now i) (with_session s.desk client (Some (record w { last = number; reply = r }))) client number c; is_down = false; pending = [] })
            ∙ (λ i. state_of (record m { holder = performs a.holder t done (o.live i); begun = append-nil a.begun i; joined = append-nil a.joined i }));
        drawn = reply_is.none;
        deeds = (performs_lawful (event.Call client a.ids.epoch number c) (ap (λ (n : ℕ). Some n) (sym o.own)) works.opens works.vote o.live o.formed o.right o.next_id o.locked then_quiet.settled.stands.agree, tt);
        released = refl;
        granted = refl;
        said = tt;
        tells = reply_is.tells (state_of m) c;
        regained = refl;
        quiet = then_quiet;
        answer = is.answer failed (subst (IsFileOf failed s client c r) (sym o.named) o.why);
        mail = no_mail [] is.mail refl;
        turns = tt;
        grants = subst (GrantsFor failed s client c r []) (sym o.named) o.grants;
      })

  -- ---- with locks that are granted at once

  abbrev pub under_grant : Holding
  under_grant = held_for a.holder l c

  abbrev pub locks_granted : List Resource
  locks_granted = with_resources (request_in a.holder c (Some l)) (a.locked t)

  abbrev granting : State
  granting = state_deed (state_of a) (Grants t c)

  -- the holder in its two steps
  abbrev lives_granted : TransId → Option Life
  lives_granted = λ u. cond {A = Option Life} (same_trans u t) (Some (record l { held = held_for a.holder l c })) (a.holder.lives u)

  granted_holder : a.holder.lives t ≡ Some l → performs (grants a.holder t c (a.holder.lives t)) t done ((grants a.holder t c (a.holder.lives t)).lives t)
      ≡ with_life (record a.holder { made = option_to_list (id_in r) ++ a.holder.made }) t (Some (life_after under_grant))
  granted_holder live =
      ap (λ (x : Option Life). performs (grants a.holder t c x) t done ((grants a.holder t c x).lives t)) live
      ∙ ap (performs (grants a.holder t c (Some l)) t done) (ap (λ (b : Bool). cond {A = Option Life} b (Some (record l { held = under_grant })) (a.holder.lives t)) (same_trans-itself t))
      ∙ (λ i. record a.holder { made = option_to_list (id_in r) ++ a.holder.made; lives = λ u. twice {A = Option Life} (same_trans u t) (Some (life_after under_grant)) (Some (record l { held = under_grant })) (a.holder.lives u) i })

  granted_locked : a.holder.lives t ≡ Some l
      → ◌≡◌ {A = Locked} (lock_set (lock_set a.locked t (with_resources (request_in a.holder c (a.holder.lives t)) (a.locked t))) t
      (with_resources (needs_made (id_in r)) (lock_set a.locked t (with_resources (request_in a.holder c (a.holder.lives t)) (a.locked t)) t)))
      (lock_set a.locked t (with_resources (needs_made (id_in r)) locks_granted))
  granted_locked live =
      ap (λ (x : Option Life). lock_set (lock_set a.locked t (with_resources (request_in a.holder c x) (a.locked t))) t (with_resources (needs_made (id_in r)) (lock_set a.locked t (with_resources (request_in a.holder c x) (a.locked t)) t))) live
      ∙ ap (λ (b : Bool). lock_set (lock_set a.locked t locks_granted) t (with_resources (needs_made (id_in r)) (cond {A = List Resource} b locks_granted (a.locked t)))) (same_trans-itself t)
      ∙ (λ i u. twice {A = List Resource} (same_trans u t) (with_resources (needs_made (id_in r)) locks_granted) locks_granted (a.locked u) i)

  pub granted_leads : (failed : Bool) → IsFree a.holder t l c → PerformOwes failed under_grant (t ∷ []) → Leads failed a (call_entry a client number w c r (act.Granted t ∷ [])) (with_call under_grant locks_granted)
  granted_leads failed free o =
      let s : State = state_of a in
      let is : IsFileCall a client number w t c r = file_call a client number w t c r o.named in
      let reply_is : IsOwnReply r = own_reply r o.kind in
      let works : IsAtWork a t l = at_work_open a o.quiet.settled.stands t l o.live client (works_of failed o.why o.passes) in
      let m : Account = with_call under_grant locks_granted in
      let off : AllByRecursion (λ v. is_on_trans t v ≡ false) a.waits = off_of o in
      let idle : waiting_of s.desk client t ≡ None = idle_of failed o.why o.passes in
      let then_quiet : IsQuiet m = call_quiet under_grant locks_granted a.waits o.quiet off o.there o.turn o.live (granted-more l.held (needs_of (view_in a.holder l) l.own c)) o.agree in
      let ev : Event = event.Call client a.ids.epoch number c in
      let asked : act_deeds s ev (act.Granted t) ≡ Grants t c ∷ [] =
      ap (λ (x : Option Life). grants_to t (asks_for s ev t x)) o.live
      ∙ ap (λ (x : Option Waiting). grants_to t (option_or (ungranted x) (call_now ev t l.client))) (ap (λ (n : ℕ). waiting_of s.desk n t) o.own ∙ idle)
      ∙ ap (λ (b : Bool). grants_to t (cond {A = Option Call} (b && is_of t (file_trans c)) (Some c) None)) (eq-eqb client l.client (sym o.own))
      ∙ ap (λ (x : Option TransId). grants_to t (cond {A = Option Call} (is_of t x) (Some c) None)) o.named
      ∙ ap (λ (b : Bool). grants_to t (cond {A = Option Call} b (Some c) None)) (same_trans-itself t) in
      let after : State = state_deed granting (Performs t done) in
      let lives_then : granting.holder.lives t ≡ Some (record l { held = under_grant }) =
      ap (λ (x : Option Life). (grants a.holder t c x).lives t) o.live ∙ ap (λ (b : Bool). cond {A = Option Life} b (Some (record l { held = under_grant })) (a.holder.lives t)) (same_trans-itself t) in
      let agree_granted : DoLivesAgree lives_granted =
      agree_set a.holder.lives t (Some (record l { held = under_grant })) o.quiet.settled.stands.agree
      (λ x is u k away there. subst (λ (y : Life). DoAgree y.held k.held) (same-some (record l { held = under_grant }) x is) (λ q. agree-turned (under_grant q) (k.held q) ∙ free u k there away q)) in
      call_leads a client number w failed c r (act.Granted t ∷ []) (Grants t c ∷ Performs t done ∷ []) m o.there o.turn (record {
        plain = is.plain;
        greets = is.greets;
        up = refl;
        running = o.up;
        brought = ap (λ (ds : List Deed). ds ++ (act_deeds s ev (act.Granted t) ++ []) ++ done_of s r (answered s client c)) is.deeds
            ∙ ap (λ (ds : List Deed). (ds ++ []) ++ done_of s r (answered s client c)) asked ∙ ap (λ (ds : List Deed). Grants t c ∷ ds) (performed_deeds o.named o.passes o.given);
        new = new_call a client number w o.there o.turn;
        there = o.there;
        left = (λ i. record after {
          desk = is.leaves (with_session after.desk client (Some (record w { last = number; reply = r }))) (has_part after client) i;
          is_down = false;
          pending = [];
        })
            ∙ (λ i. record after { desk = begins_if (reply_is.now i) (with_session after.desk client (Some (record w { last = number; reply = r }))) client number c; is_down = false; pending = [] })
            ∙ (λ i. state_of (record m { holder = granted_holder o.live i; waits = none-granted t a.waits off i; locked = granted_locked o.live i; begun = (append-nil (a.begun ++ []) ∙ append-nil a.begun) i; joined = (append-nil (a.joined ++ []) ∙ append-nil a.joined) i }));
        drawn = reply_is.none;
        deeds = (
          record {
            counts = tt;
            view = tt;
            locks = (λ x at. subst (λ (y : Life). y.vote ≡ None) (same-some l x (sym o.live ∙ at)) works.vote, subst (λ (x : Option Life). DoLivesAgree (grants a.holder t c x).lives) (sym o.live) agree_granted);
            running = works.opens;
            registration = tt;
            vote = tt;
            decision = tt;
            application = tt;
            forgetting = tt;
          },
          (
            record {
              counts = λ f e. o.next_id f e ∙ ap (λ (x : Option Life). file_of (grants a.holder t c x).server) (sym o.live);
              view = (record l { held = under_grant }, lives_then, record { client = ap (λ (n : ℕ). Some n) (sym o.own); active = works.vote; formed = o.formed; right = grant_right o.live o.right; locked = grant_locked o.live o.locked });
              locks = subst (λ (h : Holder). DoLivesAgree h.lives) (sym (granted_holder o.live)) (then_quiet.settled.stands.agree);
              running = works.opens;
              registration = tt;
              vote = tt;
              decision = tt;
              application = tt;
              forgetting = tt;
            },
            tt,
          ),
        );
        released = refl;
        granted = refl;
        said = (tt, tt);
        tells = reply_is.tells (state_of m) c;
        regained = refl;
        quiet = then_quiet;
        answer = is.answer failed (subst (IsFileOf failed s client c r) (sym o.named) o.why);
        mail = no_mail (act.Granted t ∷ []) is.mail refl;
        turns = tt;
        grants = subst (GrantsFor failed s client c r (t ∷ [])) (sym o.named) o.grants;
      })
    where
      file_of : ℕ → FileId
      file_of server = record { server = server; epoch = a.ids.epoch; counter = a.ids.files + 1 }

      -- what the part sees does not hang on its locks
      grant_right : a.holder.lives t ≡ Some l → (answer_in a.holder l done).reply ≡ Some r → (answer_in granting.holder (record l { held = under_grant }) done).reply ≡ Some r
      grant_right live right = subst (λ (x : Option Life). (answer_in (grants a.holder t c x) (record l { held = under_grant }) done).reply ≡ Some r) (sym live) right

      grant_locked : a.holder.lives t ≡ Some l → HoldsEach under_grant (needs_of (view_in a.holder l) l.own c) → HoldsEach under_grant (needs_of (view_in granting.holder (record l { held = under_grant })) l.own c)
      grant_locked live held = subst (λ (x : Option Life). HoldsEach under_grant (needs_of (view_in (grants a.holder t c x) (record l { held = under_grant })) l.own c)) (sym live) held
