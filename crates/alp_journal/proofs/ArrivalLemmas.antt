-- entries of a message that arrives
use Rattle.std.specs.Prelude.{cond, Bool, true, false, ◌&&◌, flat_map, Option, None, Some}
use Rattle.std.specs.List.{list_any, AllByRecursion}
use Rattle.std.specs.List.Sorted.{IsPermutation}
use Rattle.std.proofs.lemmas.List.{append-nil}
use Rattle.std.proofs.Common.{◌≡◌, ℕ, List, [], ◌∷◌, ◌++◌, refl, sym, ◌∙◌, ap, subst}
use Rattle.alp_base.specs.declared.ids.TransId.{TransId}
use Rattle.alp_files.specs.declared.reply.Reply.{Reply}
use Rattle.alp_files.specs.declared.reply.Reply.TheVariants as reply
use Rattle.alp_files.specs.declared.refusal.Refusal.TheVariants as refusal
use Rattle.alp_journal.specs.declared.act.Act.{Act}
use Rattle.alp_journal.specs.declared.event.Event.{Event}
use Rattle.alp_journal.specs.declared.event.Event.TheVariants as event
use Rattle.alp_journal.specs.declared.message.Message.{Message}
use Rattle.alp_journal.specs.declared.entry.Entry.{Entry}
use Rattle.alp_journal.specs.Along.{Along, Where, state_after}
use Rattle.alp_journal.specs.Deeds.{Deed}
use Rattle.alp_journal.specs.State.{State, state_deed}
use Rattle.alp_journal.specs.Halts.{HaltsRight}
use Rattle.alp_journal.specs.Moves.{is_stop, tried, told, halted, next, message_deeds, act_deeds}
use Rattle.alp_journal.specs.Laws.{IsLawfulDeed, DoLivesAgree, ReleasesEnded, WaitsInTurn, IsStopped, TellsStop, SaysRight, drawn_by, granted_by, released_by, ended_by, grants_of, regained_by}
use Rattle.alp_journal.specs.Messages.{Mail, on_message, to_others, due, sent_by}
use Rattle.alp_journal.specs.Answered.{AppliesTold, CountsVotes, ForgetsDone, is_release, at_release, in_turn, IsWalk, GivesOn}
use Rattle.alp_journal.specs.Account.{Account, state_of, IsQuiet, granted_calls, grant_acts, grant_deeds, sent_acts, Leads}
use Rattle.alp_journal.proofs.QuietLemmas.{none_tried, quiet_up}
use Rattle.alp_journal.proofs.CallLemmas.{AreAddressed, IsMail, mail_behind, quiet_votes, quiet_forgets}
use Rattle.alp_journal.proofs.LetGoLemmas.{none-sent, no-mail-is, IsGivenOn, given_on, given_then, GoesOn, let_go_quiet, let_go_reached, let_go_lawful, let_go_brought, let_go_released, let_go_granted, let_go_said, let_go_none, let_go_drawn, let_go_mail, let_go_turns}

-- where nothing is let go nothing is given on
pub no_release : (a : Account) (e : Entry) → list_any is_release e.acts ≡ false → GivesOn (state_of a) e
no_release a e none = subst (λ (b : Bool). Where b (IsWalk (at_release (state_of a) e) (in_turn (at_release (state_of a) e) a.waits) (flat_map granted_by e.acts)) (Unit {0})) (sym none) tt

module _ (a : Account) (from : ℕ) (x : Message) where
  abbrev pub arrive_entry : List Act → Entry
  arrive_entry acts = record { event = event.Arrive from x; reply = None; acts = acts }

  abbrev pub arriving : Event
  arriving = event.Arrive from x

  -- what is owed of an entry that brings these deeds
  pub record ArriveOwes (failed : Bool) (acts : List Act) (ds : List Deed) (m : Account) : Type 0 where
    pub up : list_any is_stop acts ≡ false
    pub running : a.is_down ≡ false
    pub brought : message_deeds (state_of a) acts x ++ flat_map (act_deeds (state_of a) arriving) acts ++ [] ≡ ds
    pub left : record (state_after state_deed (state_of a) ds) { is_down = false; pending = [] } ≡ state_of m
    pub drawn : flat_map drawn_by acts ≡ []
    pub deeds : Along state_deed (IsLawfulDeed arriving) (state_of a) ds
    pub released : flat_map released_by acts ≡ flat_map (ended_by (state_of a)) ds
    pub granted : flat_map granted_by acts ≡ flat_map grants_of ds
    pub said : AllByRecursion (SaysRight arriving (state_of m)) acts
    pub regained : list_any regained_by acts ≡ false
    pub quiet : IsQuiet m
    pub mail : IsMail (to_others (state_of a) (on_message failed (state_of a) (state_of m) x)) acts
    pub applied : AppliesTold (state_of a) (state_of m) arriving
    pub turns : GivesOn (state_of a) (arrive_entry acts)

  pub arrive_leads : (failed : Bool) (acts : List Act) (ds : List Deed) (m : Account) → ArriveOwes failed acts ds m → Leads failed a (arrive_entry acts) m
  arrive_leads failed acts ds m o =
      let s : State = state_of a in
      let e : Entry = arrive_entry acts in
      let ev : Event = arriving in
      let done : tried s e ≡ ds = o.brought in
      let leaves : next s e ≡ state_of m = ap (λ (b : Bool). cond {A = State} b (halted s e) (told s e)) o.up ∙ ap (λ (xs : List Deed). record (state_after state_deed s xs) { is_down = false; pending = [] }) done ∙ o.left in
      record {
        leaves = leaves;
        lawful = record {
          drawn = o.drawn;
          sessions = ap (λ (b : Bool). cond {A = Option Reply} b (Some (reply.Refused refusal.Down)) None) (sym o.up);
          deeds = subst (Along state_deed (IsLawfulDeed ev) s) (sym done) o.deeds;
          agree = subst (λ (y : State). DoLivesAgree y.holder.lives) (sym leaves) o.quiet.settled.stands.agree;
          released = subst (λ (b : Bool). Where b (Unit {0}) (ReleasesEnded s e × WaitsInTurn (next s e))) (sym o.up)
              ((o.released ∙ ap (flat_map (ended_by s)) (sym done), o.granted ∙ ap (flat_map grants_of) (sym done)), subst WaitsInTurn (sym leaves) o.quiet.turns);
          sent = o.mail.last;
          said = subst (λ (y : State). AllByRecursion (SaysRight ev y) acts) (sym leaves) o.said;
          told = tt;
          restart = (o.regained, o.running);
          stopped = subst (λ (b : Bool). Where b (IsStopped acts × TellsStop ev None) (Unit {0})) (sym o.up) tt;
        };
        answered = record {
          answered = either (list_any is_stop acts);
          sent = subst (λ (b : Bool). Where b (Unit {0}) (IsPermutation (due failed s (next s e) ev None) (flat_map sent_by acts))) (sym o.up)
              (subst (λ (y : State). IsPermutation (to_others s (on_message failed s y x)) (flat_map sent_by acts)) (sym leaves) o.mail.all);
          ticks = tt;
          applied = subst (λ (b : Bool). Where b (Unit {0}) (AppliesTold s (next s e) ev)) (sym o.up) (subst (λ (y : State). AppliesTold s y ev) (sym leaves) o.applied);
          votes = subst (λ (b : Bool). Where b (Unit {0}) (CountsVotes (next s e))) (sym o.up) (subst CountsVotes (sym leaves) (quiet_votes m o.quiet));
          forgets = subst (λ (b : Bool). Where b (Unit {0}) (ForgetsDone (next s e))) (sym o.up) (subst ForgetsDone (sym leaves) (quiet_forgets m o.quiet));
          turns = o.turns;
          grants = either (list_any is_stop acts);
          halted = subst (λ (b : Bool). Where b (HaltsRight s e) (Unit {0})) (sym o.up) tt;
        };
        quiet = o.quiet;
      }
    where
      either : (b : Bool) → Where b (Unit {0}) (Unit {0})
      either true = tt
      either false = tt

  -- ---- where only messages are sent

  -- all that is owed then
  pub record SaysOwes (failed : Bool) (ms : List Mail) : Type 0 where
    pub quiet : IsQuiet a
    pub up : a.is_down ≡ false
    pub brought : message_deeds (state_of a) (sent_acts ms) x ≡ []
    pub said : AllByRecursion (SaysRight arriving (state_of a)) (sent_acts ms)
    pub mail : IsPermutation (to_others (state_of a) (on_message failed (state_of a) (state_of a) x)) ms
    pub addressed : AreAddressed ms
    pub applied : AppliesTold (state_of a) (state_of a) arriving

  -- nothing comes about
  pub says_leads : (failed : Bool) (ms : List Mail) → SaysOwes failed ms → Leads failed a (arrive_entry (sent_acts ms)) a
  says_leads failed ms o = arrive_leads failed (sent_acts ms) [] a (record {
    up = no-mail-is is_stop (λ m. refl) ms;
    running = o.up;
    brought = append-nil (message_deeds (state_of a) (sent_acts ms) x ++ flat_map (act_deeds (state_of a) arriving) (sent_acts ms)) ∙ (λ i. o.brought i ++ none-sent (act_deeds (state_of a) arriving) [] ms (λ m. refl) i);
    left = λ i. state_of (record a { is_down = sym o.up i; pending = sym (none_tried a o.quiet o.up) i });
    drawn = none-sent drawn_by [] ms (λ m. refl);
    deeds = tt;
    released = none-sent released_by [] ms (λ m. refl);
    granted = none-sent granted_by [] ms (λ m. refl);
    said = o.said;
    regained = no-mail-is regained_by (λ m. refl) ms;
    quiet = o.quiet;
    mail = mail_behind (to_others (state_of a) (on_message failed (state_of a) (state_of a) x)) [] ms refl o.addressed o.mail;
    applied = o.applied;
    turns = silent_turns ms;
  })
    where
      silent_turns : (ms : List Mail) → GivesOn (state_of a) (arrive_entry (sent_acts ms))
      silent_turns ms = no_release a (arrive_entry (sent_acts ms)) (no-mail-is is_release (λ m. refl) ms)

  -- ---- where a part lets go

  pub record LeavesOwes (failed : Bool) (b m : Account) (front : List Act) (back : List Deed) (ts : List TransId) (ms : List Mail) : Type 0 where
    pub goes : GoesOn a b arriving front back ts
    pub running : a.is_down ≡ false
    pub brings : message_deeds (state_of a) ((front ++ grant_acts ts) ++ sent_acts ms) x ++ flat_map (act_deeds (state_of a) arriving) front ≡ back
    pub drawn : flat_map drawn_by front ≡ []
    pub left : record (given_on a b ts) { is_down = false; pending = [] } ≡ m
    pub says : (y : State) → IsGivenOn a b y → AllByRecursion (SaysRight arriving y) (sent_acts ms)
    pub addressed : AreAddressed ms
    pub mail : IsPermutation (to_others (state_of a) (on_message failed (state_of a) (state_of m) x)) ms
    pub applied : AppliesTold (state_of a) (state_of m) arriving

  pub leaves_leads : (failed : Bool) (b m : Account) (front : List Act) (back : List Deed) (ts : List TransId) (ms : List Mail) → LeavesOwes failed b m front back ts ms
      → Leads failed a (arrive_entry ((front ++ grant_acts ts) ++ sent_acts ms)) m
  leaves_leads failed b m front back ts ms o =
      let g : GoesOn a b arriving front back ts = o.goes in
      let acts : List Act = (front ++ grant_acts ts) ++ sent_acts ms in
      let given : IsGivenOn a b (state_of (given_on a b ts)) = given_then a b arriving front back ts g in
      arrive_leads failed acts (back ++ grant_deeds (granted_calls a.waits ts)) m (record {
        up = let_go_none a b arriving front back ts g is_stop ms (λ u. refl) (λ y. refl) g.stops;
        running = o.running;
        brought = let_go_brought a b arriving front back ts g (message_deeds (state_of a) acts x) ms o.brings;
        left = ap (λ (s : State). record s { is_down = false; pending = [] }) (let_go_reached a b arriving front back ts g) ∙ ap state_of o.left;
        drawn = let_go_drawn a b arriving front back ts g ms [] o.drawn;
        deeds = let_go_lawful a b arriving front back ts g;
        released = let_go_released a b arriving front back ts g ms;
        granted = let_go_granted a b arriving front back ts g ms;
        said = let_go_said a b arriving front back ts g (state_of m) ms (o.says (state_of m) (subst (λ (y : Account). IsGivenOn a b (state_of y)) o.left (record { server = given.server; ids = given.ids; fates = given.fates; phases = given.phases })));
        regained = let_go_none a b arriving front back ts g regained_by ms (λ u. refl) (λ y. refl) g.regained;
        quiet = subst IsQuiet o.left (quiet_up (given_on a b ts) (let_go_quiet a b arriving front back ts g));
        mail = let_go_mail a b arriving front back ts g (to_others (state_of a) (on_message failed (state_of a) (state_of m) x)) ms o.addressed o.mail;
        applied = o.applied;
        turns = let_go_turns a b arriving front back ts g (arrive_entry acts) ms refl refl o.brings;
      })
