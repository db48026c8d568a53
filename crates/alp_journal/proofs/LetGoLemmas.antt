-- a step lets go what a part held: its own acts come first, then what is given on, and then what is sent
use Rattle.std.specs.Prelude.{cond, Bool, true, false, ◌&&◌, ◌||◌, ◌==◌, flat_map, Option, None, Some}
use Rattle.std.specs.List.{list_any, AllByRecursion}
use Rattle.std.specs.List.Sorted.{IsPermutation}
use Rattle.std.proofs.lemmas.List.{append-nil, append_assoc}
use Rattle.std.proofs.Common.{◌≡◌, ℕ, ◌+◌, List, [], ◌∷◌, ◌++◌, refl, sym, ◌∙◌, ap, subst}
use Rattle.alp_base.specs.declared.ids.TransId.{TransId}
use Rattle.alp_files.specs.declared.call.Call.{Call}
use Rattle.alp_files.specs.declared.call.Call.TheVariants as call
use Rattle.alp_files.specs.declared.reply.Reply.{Reply}
use Rattle.alp_journal.specs.declared.act.Act.{Act}
use Rattle.alp_journal.specs.declared.act.Act.TheVariants as act
use Rattle.alp_journal.specs.declared.event.Event.{Event}
use Rattle.alp_journal.specs.declared.event.Event.TheVariants as event
use Rattle.alp_journal.specs.declared.entry.Entry.{Entry}
use Rattle.alp_journal.specs.Along.{Along, Where, state_after}
use Rattle.alp_journal.specs.Deeds.{Deed}
use Rattle.alp_journal.specs.Holder.{Holder}
use Rattle.alp_journal.specs.Desk.{Session, Waiting}
use Rattle.alp_journal.specs.State.{State, state_deed}
use Rattle.alp_journal.specs.Moves.{is_new, event_deeds, act_deeds, call_deeds, call_now, is_stop}
use Rattle.alp_journal.specs.Laws.{IsLawfulDeed, SaysRight, TellsIn, drawn_by, begun_in, released_by, granted_by, grants_of, ended_by, regained_by}
use Rattle.alp_journal.specs.Messages.{Mail, on_call, sent_by}
use Rattle.alp_journal.specs.Answers.{IsAnswer}
use Rattle.alp_journal.specs.Answered.{is_release, to_release, at_release, in_turn, IsWalk, GivesOn}
use Rattle.alp_journal.specs.Account.{Account, state_of, IsSettled, IsQuiet, granted_calls, with_granted, grant_acts, grant_deeds, sent_acts, Leads}
use Rattle.alp_journal.proofs.IdLemmas.{all-append}
use Rattle.alp_journal.proofs.TurnLemmas.{given-frame}
use Rattle.alp_journal.proofs.GivenLemmas.{none-by-grants, no-grant-is, acts-grant, grants-end-none, grants-say, LivedBefore, asked-given, state-given, lawful-walk, quiet-given, granted-all}
use Rattle.alp_journal.proofs.CallLemmas.{flat-append, AreAddressed, IsMail, mail_behind, call_entry, new_call, after_call, call_leads}

-- ---- one list behind another

pub any-append : {A : Type 0} (p : A → Bool) (xs ys : List A) → list_any p xs ≡ false → list_any p ys ≡ false → list_any p (xs ++ ys) ≡ false
any-append p [] ys first later = later
any-append p (x ∷ xs) ys first later = go (p x) first (any-append p xs ys)
  where
    go : (b : Bool) → (b || list_any p xs) ≡ false → (list_any p xs ≡ false → list_any p ys ≡ false → list_any p (xs ++ ys) ≡ false) → (b || list_any p (xs ++ ys)) ≡ false
    go true e rest = e
    go false e rest = rest e later

pub state-append : (ds es : List Deed) (s : State) → state_after state_deed s (ds ++ es) ≡ state_after state_deed (state_after state_deed s ds) es
state-append [] es s = refl
state-append (d ∷ ds) es s = state-append ds es (state_deed s d)

pub along-append : (law : State → Deed → Type 0) (ds es : List Deed) (s : State) → Along state_deed law s ds → Along state_deed law (state_after state_deed s ds) es → Along state_deed law s (ds ++ es)
along-append law [] es s h k = k
along-append law (d ∷ ds) es s h k = (h.0, along-append law ds es (state_deed s d) h.1 k)

-- behind acts that grant nothing
pub granted-behind : (front : List Act) (ts : List TransId) → flat_map granted_by front ≡ [] → flat_map granted_by (front ++ grant_acts ts) ≡ ts
granted-behind front ts none = flat-append granted_by front (grant_acts ts) ∙ ap (λ us. us ++ flat_map granted_by (grant_acts ts)) none ∙ acts-grant ts

pub none-behind : {B : Type 0} (f : Act → List B) (front : List Act) (ts : List TransId) (bs : List B) → ((t : TransId) → f (act.Granted t) ≡ []) → flat_map f front ≡ bs → flat_map f (front ++ grant_acts ts) ≡ bs
none-behind f front ts bs none is = flat-append f front (grant_acts ts) ∙ ap (λ cs. cs ++ flat_map f (grant_acts ts)) is ∙ ap (λ cs. bs ++ cs) (none-by-grants f none ts) ∙ append-nil bs

pub no-one-behind : (p : Act → Bool) (front : List Act) (ts : List TransId) → ((t : TransId) → p (act.Granted t) ≡ false) → list_any p front ≡ false → list_any p (front ++ grant_acts ts) ≡ false
no-one-behind p front ts none is = any-append p front (grant_acts ts) is (no-grant-is p none ts)

-- messages bring nothing about, and are none of the other acts
none-by-mails : {B : Type 0} (f : Act → List B) → ((m : Mail) → f (act.Sent m.0 m.1) ≡ []) → (ms : List Mail) → flat_map f (sent_acts ms) ≡ []
none-by-mails f none [] = refl
none-by-mails f none (m ∷ ms) = ap (λ bs. bs ++ flat_map f (sent_acts ms)) (none m) ∙ none-by-mails f none ms

pub none-sent : {B : Type 0} (f : Act → List B) (acts : List Act) (ms : List Mail) → ((m : Mail) → f (act.Sent m.0 m.1) ≡ []) → flat_map f (acts ++ sent_acts ms) ≡ flat_map f acts
none-sent f acts ms none = flat-append f acts (sent_acts ms) ∙ ap (λ bs. flat_map f acts ++ bs) (none-by-mails f none ms) ∙ append-nil (flat_map f acts)

pub no-mail-is : (p : Act → Bool) → ((m : Mail) → p (act.Sent m.0 m.1) ≡ false) → (ms : List Mail) → list_any p (sent_acts ms) ≡ false
no-mail-is p none [] = refl
no-mail-is p none (m ∷ ms) = ap (λ (b : Bool). b || list_any p (sent_acts ms)) (none m) ∙ no-mail-is p none ms

-- what is let go is given on along the walk
pub gives_on : (s : State) (e : Entry) (h : Holder) (ts : List TransId) → list_any is_release e.acts ≡ true → at_release s e ≡ h → flat_map granted_by e.acts ≡ ts → IsWalk h (in_turn h s.desk.waits) ts → GivesOn s e
gives_on s e h ts release at granted walk =
    subst (λ (b : Bool). Where b (IsWalk (at_release s e) (in_turn (at_release s e) s.desk.waits) (flat_map granted_by e.acts)) (Unit {0})) (sym release)
    (subst (λ (x : Holder). IsWalk x (in_turn x s.desk.waits) (flat_map granted_by e.acts)) (sym at) (subst (IsWalk h (in_turn h s.desk.waits)) (sym granted) walk))

-- ---- the deeds of such an entry

-- What its own deeds leave, what is granted then, and what is sent behind that.
module _ (a b : Account) where
  abbrev pub given_on : List TransId → Account
  given_on ts = with_granted b (granted_calls a.waits ts)

  -- it is as that state, but for who holds what and who waits
  pub record IsGivenOn (x : State) : Type 0 where
    pub server : x.holder.server ≡ b.holder.server
    pub ids : x.ids ≡ b.ids
    pub fates : x.fates ≡ b.fates
    pub phases : x.phases ≡ b.phases

  pub record GoesOn (e : Event) (front : List Act) (back : List Deed) (ts : List TransId) : Type 0 where
    pub before : IsSettled a
    pub none_tried : b.pending ≡ []
    pub settled : IsSettled b
    pub was : LivedBefore a.holder b.holder
    pub waits : b.waits ≡ a.waits
    pub walk : IsWalk b.holder (in_turn b.holder a.waits) ts
    pub no_call : (u : TransId) (owner : ℕ) → call_now e u owner ≡ None
    pub reached : state_after state_deed (state_of a) back ≡ state_of b
    pub deeds : Along state_deed (IsLawfulDeed e) (state_of a) back
    pub stops : list_any is_stop front ≡ false
    pub release : (rest : List Act) → list_any is_release (front ++ rest) ≡ true
    pub first : (rest : List Act) → to_release (front ++ rest) ≡ front
    pub released : flat_map released_by front ≡ flat_map (ended_by (state_of a)) back
    pub none_granted : (flat_map granted_by front ≡ []) × (flat_map grants_of back ≡ [])
    pub said : (x : State) → AllByRecursion (SaysRight e x) front
    pub regained : list_any regained_by front ≡ false
    pub sent : flat_map sent_by front ≡ []

  module _ (e : Event) (front : List Act) (back : List Deed) (ts : List TransId) (o : GoesOn e front back ts) where
    abbrev pub given_deeds : List Deed
    given_deeds = grant_deeds (granted_calls a.waits ts)

    abbrev acts_with : List Mail → List Act
    acts_with ms = (front ++ grant_acts ts) ++ sent_acts ms

    walk_then : IsWalk b.holder (in_turn b.holder b.waits) ts
    walk_then = subst (λ (ws : List Waiting). IsWalk b.holder (in_turn b.holder ws) ts) (sym o.waits) o.walk

    pub let_go_quiet : IsQuiet (given_on ts)
    let_go_quiet = subst (λ (ws : List Waiting). IsQuiet (with_granted b (granted_calls ws ts))) o.waits (quiet-given b ts o.settled walk_then o.none_tried)

    pub let_go_reached : state_after state_deed (state_of a) (back ++ given_deeds) ≡ state_of (given_on ts)
    let_go_reached = state-append back given_deeds (state_of a) ∙ ap (λ (s : State). state_after state_deed s given_deeds) o.reached ∙ state-given (granted_calls a.waits ts) b

    pub let_go_lawful : Along state_deed (IsLawfulDeed e) (state_of a) (back ++ given_deeds)
    let_go_lawful = along-append (IsLawfulDeed e) back given_deeds (state_of a) o.deeds (subst (λ (s : State). Along state_deed (IsLawfulDeed e) s given_deeds) (sym o.reached)
        (subst (λ (ws : List Waiting). Along state_deed (IsLawfulDeed e) (state_of b) (grant_deeds (granted_calls ws ts))) o.waits (lawful-walk b ts o.settled walk_then e)))

    -- with what its event brings by itself
    pub let_go_brought : (ds : List Deed) (ms : List Mail) → ds ++ flat_map (act_deeds (state_of a) e) front ≡ back → ds ++ flat_map (act_deeds (state_of a) e) (acts_with ms) ++ [] ≡ back ++ given_deeds
    let_go_brought ds ms is =
        let own : List Deed = flat_map (act_deeds (state_of a) e) front in
        let on : List Deed = flat_map (act_deeds (state_of a) e) (grant_acts ts) in
        append-nil (ds ++ flat_map (act_deeds (state_of a) e) (acts_with ms))
        ∙ ap (λ (xs : List Deed). ds ++ xs) (flat-append (act_deeds (state_of a) e) (front ++ grant_acts ts) (sent_acts ms) ∙ ap (λ (xs : List Deed). flat_map (act_deeds (state_of a) e) (front ++ grant_acts ts) ++ xs) (none-by-mails (act_deeds (state_of a) e) (λ m. refl) ms)
        ∙ append-nil (flat_map (act_deeds (state_of a) e) (front ++ grant_acts ts)) ∙ flat-append (act_deeds (state_of a) e) front (grant_acts ts))
        ∙ sym (append_assoc ds own on) ∙ ap (λ (xs : List Deed). xs ++ on) is ∙ ap (λ (xs : List Deed). back ++ xs) (asked-given a e o.no_call b.holder ts o.before o.was o.walk)

    pub let_go_released : (ms : List Mail) → flat_map released_by (acts_with ms) ≡ flat_map (ended_by (state_of a)) (back ++ given_deeds)
    let_go_released ms =
        none-sent released_by (front ++ grant_acts ts) ms (λ m. refl) ∙ none-behind released_by front ts (flat_map (ended_by (state_of a)) back) (λ u. refl) o.released
        ∙ sym (flat-append (ended_by (state_of a)) back given_deeds ∙ ap (λ us. flat_map (ended_by (state_of a)) back ++ us) (grants-end-none (state_of a) (granted_calls a.waits ts)) ∙ append-nil (flat_map (ended_by (state_of a)) back))

    pub granted_then : (ms : List Mail) → flat_map granted_by (acts_with ms) ≡ ts
    granted_then ms = none-sent granted_by (front ++ grant_acts ts) ms (λ m. refl) ∙ granted-behind front ts o.none_granted.0

    pub let_go_granted : (ms : List Mail) → flat_map granted_by (acts_with ms) ≡ flat_map grants_of (back ++ given_deeds)
    let_go_granted ms =
        granted_then ms ∙ sym (acts-grant ts) ∙ subst (λ (ws : List Waiting). flat_map granted_by (grant_acts ts) ≡ flat_map grants_of (grant_deeds (granted_calls ws ts))) o.waits (granted-all b ts o.settled walk_then)
        ∙ sym (flat-append grants_of back given_deeds ∙ ap (λ us. us ++ flat_map grants_of given_deeds) o.none_granted.1)

    pub let_go_said : (x : State) (ms : List Mail) → AllByRecursion (SaysRight e x) (sent_acts ms) → AllByRecursion (SaysRight e x) (acts_with ms)
    let_go_said x ms say = all-append (SaysRight e x) (front ++ grant_acts ts) (sent_acts ms) (all-append (SaysRight e x) front (grant_acts ts) (o.said x) (grants-say e x ts)) say

    pub let_go_none : (p : Act → Bool) (ms : List Mail) → ((t : TransId) → p (act.Granted t) ≡ false) → ((m : Mail) → p (act.Sent m.0 m.1) ≡ false) → list_any p front ≡ false → list_any p (acts_with ms) ≡ false
    let_go_none p ms grants mails is = any-append p (front ++ grant_acts ts) (sent_acts ms) (no-one-behind p front ts grants is) (no-mail-is p mails ms)

    pub let_go_drawn : (ms : List Mail) (us : List TransId) → flat_map drawn_by front ≡ us → flat_map drawn_by (acts_with ms) ≡ us
    let_go_drawn ms us is = none-sent drawn_by (front ++ grant_acts ts) ms (λ m. refl) ∙ none-behind drawn_by front ts us (λ u. refl) is

    pub let_go_mail : (due ms : List Mail) → AreAddressed ms → IsPermutation due ms → IsMail due (acts_with ms)
    let_go_mail due ms to all = mail_behind due (front ++ grant_acts ts) ms (none-behind sent_by front ts [] (λ u. refl) o.sent) to all

    pub let_go_turns : (entry : Entry) (ms : List Mail) → entry.acts ≡ acts_with ms → entry.event ≡ e → event_deeds (state_of a) e entry.reply (acts_with ms) ++ flat_map (act_deeds (state_of a) e) front ≡ back → GivesOn (state_of a) entry
    let_go_turns entry ms acts ev is =
        gives_on (state_of a) entry b.holder ts (ap (list_any is_release) (acts ∙ assoc) ∙ o.release (grant_acts ts ++ sent_acts ms))
        (
        (λ i. (state_after state_deed (state_of a) (event_deeds (state_of a) (ev i) entry.reply (acts i) ++ flat_map (act_deeds (state_of a) (ev i)) (to_release ((acts ∙ assoc) i)))).holder)
        ∙ ap (λ (xs : List Act). (state_after state_deed (state_of a) (event_deeds (state_of a) e entry.reply (acts_with ms) ++ flat_map (act_deeds (state_of a) e) xs)).holder) (o.first (grant_acts ts ++ sent_acts ms))
        ∙ ap (λ (ds : List Deed). (state_after state_deed (state_of a) ds).holder) is ∙ ap (λ (s : State). s.holder) o.reached)
        (ap (flat_map granted_by) acts ∙ granted_then ms) o.walk
      where
        assoc : acts_with ms ≡ front ++ (grant_acts ts ++ sent_acts ms)
        assoc = append_assoc front (grant_acts ts) (sent_acts ms)

    -- what is so for who is as the state then, is so then
    pub given_then : IsGivenOn (state_of (given_on ts))
    given_then = record { server = ap (λ (h : Holder). h.server) (given-frame (granted_calls a.waits ts) b.holder); ids = refl; fates = refl; phases = refl }

  -- ---- a Finish

  module _ (client number : ℕ) (w : Session) (t : TransId) (commit : Bool) (r : Reply) where
    abbrev finish : Call
    finish = call.Finish t commit

    abbrev pub finish_event : Event
    finish_event = event.Call client a.ids.epoch number finish

    pub no_file_call : (u : TransId) (owner : ℕ) → call_now finish_event u owner ≡ None
    no_file_call u owner = go (client == owner)
      where
        go : (b : Bool) → cond {A = Option Call} (b && false) (Some finish) None ≡ None
        go true = refl
        go false = refl

    -- what is owed beside
    pub record FinishOwes (failed : Bool) (front : List Act) (back : List Deed) (ts : List TransId) (ms : List Mail) (m : Account) : Type 0 where
      pub goes : GoesOn finish_event front back ts
      pub running : a.is_down ≡ false
      pub there : a.sessions client ≡ Some w
      pub turn : number ≡ w.last + 1
      pub sessions : b.sessions ≡ a.sessions
      pub now : b.ids.epoch ≡ a.ids.epoch
      pub brings : call_deeds (state_of a) client finish r ++ flat_map (act_deeds (state_of a) finish_event) front ≡ back
      pub drawn : flat_map drawn_by front ≡ begun_in (Some r)
      pub left : after_call a client number w (state_of (given_on ts)) finish r ≡ state_of m
      pub says : (x : State) → IsGivenOn x → AllByRecursion (SaysRight finish_event x) (sent_acts ms)
      pub addressed : AreAddressed ms
      pub quiet : IsQuiet m
      pub tells : TellsIn (state_of m) finish r
      pub mail : IsPermutation (on_call (state_of a) client finish r) ms
      pub answer : IsAnswer failed (state_of a) client finish r

    pub finish_leads : (failed : Bool) (front : List Act) (back : List Deed) (ts : List TransId) (ms : List Mail) (m : Account) → FinishOwes failed front back ts ms m
        → Leads failed a (call_entry a client number w finish r ((front ++ grant_acts ts) ++ sent_acts ms)) m
    finish_leads failed front back ts ms m o =
        let g : GoesOn finish_event front back ts = o.goes in
        let ev : Event = finish_event in
        let acts : List Act = (front ++ grant_acts ts) ++ sent_acts ms in
        let reached : state_after state_deed (state_of a) (back ++ grant_deeds (granted_calls a.waits ts)) ≡ state_of (given_on ts) = let_go_reached ev front back ts g in
        let given : IsGivenOn (state_of (given_on ts)) = given_then ev front back ts g in
        call_leads a client number w failed finish r acts (back ++ grant_deeds (granted_calls a.waits ts)) m o.there o.turn (record {
          plain = λ x. refl;
          greets = λ e k. k;
          up = let_go_none ev front back ts g is_stop ms (λ u. refl) (λ x. refl) g.stops;
          running = o.running;
          brought = let_go_brought ev front back ts g (call_deeds (state_of a) client finish r) ms o.brings;
          new = subst (λ (s : State). is_new s client a.ids.epoch number ≡ true) (sym reached) (new_then o.now (subst (λ (f : ℕ → Option Session). f client ≡ Some w) (sym o.sessions) o.there) o.turn);
          there = subst (λ (s : State). s.desk.sessions client ≡ Some w) (sym reached) (subst (λ (f : ℕ → Option Session). f client ≡ Some w) (sym o.sessions) o.there);
          left = ap (λ (s : State). after_call a client number w s finish r) reached ∙ o.left;
          drawn = let_go_drawn ev front back ts g ms (begun_in (Some r)) o.drawn;
          deeds = let_go_lawful ev front back ts g;
          released = let_go_released ev front back ts g ms;
          granted = let_go_granted ev front back ts g ms;
          said = let_go_said ev front back ts g (state_of m) ms (o.says (state_of m) (record {
            server = ap (λ (s : State). s.holder.server) (sym o.left) ∙ given.server;
            ids = ap (λ (s : State). s.ids) (sym o.left);
            fates = ap (λ (s : State). s.fates) (sym o.left);
            phases = ap (λ (s : State). s.phases) (sym o.left);
          }));
          tells = o.tells;
          regained = let_go_none ev front back ts g regained_by ms (λ u. refl) (λ x. refl) g.regained;
          quiet = o.quiet;
          answer = o.answer;
          mail = let_go_mail ev front back ts g (on_call (state_of a) client finish r) ms o.addressed o.mail;
          turns = let_go_turns ev front back ts g (call_entry a client number w finish r acts) ms refl refl (
              ap (λ (b : Bool). cond {A = List Deed} b (call_deeds (state_of a) client finish r) [] ++ flat_map (act_deeds (state_of a) finish_event) front) (new_call a client number w o.there o.turn) ∙ o.brings);
          grants = tt;
        })
      where
        new_then : b.ids.epoch ≡ a.ids.epoch → (given_on ts).sessions client ≡ Some w → number ≡ w.last + 1 → is_new (state_of (given_on ts)) client a.ids.epoch number ≡ true
        new_then now there turn = ap (λ (n : ℕ). is_new (state_of (given_on ts)) client n number) (sym now) ∙ new_call (given_on ts) client number w there turn
