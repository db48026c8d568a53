-- ticks, in which what was not answered is said again, and forced writes, of which nothing comes
use Rattle.std.specs.Prelude.{cond, Bool, true, false, flat_map, Option, None, Some}
use Rattle.std.specs.List.{list_any, AllByRecursion}
use Rattle.std.specs.List.Sorted.{IsPermutation}
use Rattle.std.proofs.lemmas.List.Sorted.{IsPermutation-refl}
use Rattle.std.proofs.Common.{◌≡◌, List, [], ◌∷◌, ◌++◌, refl, sym, ◌∙◌, ap, subst}
use Rattle.alp_files.specs.declared.reply.Reply.{Reply}
use Rattle.alp_files.specs.declared.reply.Reply.TheVariants as reply
use Rattle.alp_files.specs.declared.refusal.Refusal.TheVariants as refusal
use Rattle.alp_journal.specs.declared.act.Act.{Act}
use Rattle.alp_journal.specs.declared.act.Act.TheVariants as act
use Rattle.alp_journal.specs.declared.event.Event.{Event}
use Rattle.alp_journal.specs.declared.event.Event.TheVariants as event
use Rattle.alp_journal.specs.declared.entry.Entry.{Entry}
use Rattle.alp_journal.specs.Along.{Along, Where, state_after}
use Rattle.alp_journal.specs.Deeds.{Deed}
use Rattle.alp_journal.specs.State.{State, state_deed}
use Rattle.alp_journal.specs.Moves.{is_stop, tried, told, halted, next, act_deeds}
use Rattle.alp_journal.specs.Laws.{IsLawfulDeed, DoLivesAgree, ReleasesEnded, WaitsInTurn, IsStopped, TellsStop, SaysRight, MaySay, drawn_by, released_by, granted_by, grants_of, ended_by, regained_by}
use Rattle.alp_journal.specs.Messages.{Mail, on_tick, to_others, are_in_order, sent_by}
use Rattle.alp_journal.specs.Halts.{HaltsRight}
use Rattle.alp_journal.specs.Answered.{CountsVotes, ForgetsDone, is_release, at_release, in_turn, IsWalk}
use Rattle.alp_journal.specs.Account.{Account, state_of, IsQuiet, sent_acts, Leads}
use Rattle.alp_journal.proofs.QuietLemmas.{none_tried}
use Rattle.alp_journal.proofs.CallLemmas.{AreAddressed, IsMail, mail_behind, mails-sent, quiet_votes, quiet_forgets}
use Rattle.alp_journal.proofs.LetGoLemmas.{none-sent, no-mail-is}

-- ---- the entries

-- of an event without a reply and acts
abbrev pub bare_entry : Event → Entry
bare_entry e = record { event = e; reply = None; acts = [] }

module _ (a : Account) where
  as_before : IsQuiet a → a.is_down ≡ false → record (state_of a) { is_down = false; pending = [] } ≡ state_of a
  as_before q up = λ i. state_of (record a { is_down = sym up i; pending = sym (none_tried a q up) i })

  -- of a tick that says these again
  abbrev pub tick_entry : List Mail → Entry
  tick_entry ms = record { event = event.Tick; reply = None; acts = sent_acts ms }

  -- messages that each say what is so, and go to the server that they are for
  abbrev pub AreSaid : List Mail → Type 0
  AreSaid ms = AllByRecursion (λ (m : Mail). MaySay event.Tick (state_of a) m.1) ms

  none-by : {B : Type 0} (f : Act → List B) (ms : List Mail) → ((m : Mail) → f (act.Sent m.0 m.1) ≡ []) → flat_map f (sent_acts ms) ≡ []
  none-by f ms none = none-sent f [] ms none

  say : (ms : List Mail) → AreSaid ms → AllByRecursion (SaysRight event.Tick (state_of a)) (sent_acts ms)
  say [] h = tt
  say (m ∷ ms) h = (h.0, say ms h.1)

  -- what was not answered is said again, in its order
  pub tick_leads : IsQuiet a → a.is_down ≡ false → (ms : List Mail) → IsPermutation (to_others (state_of a) (on_tick (state_of a))) ms → are_in_order ms ≡ true → AreAddressed ms → AreSaid ms → Leads false a (tick_entry ms) a
  tick_leads q up ms due_all order to said =
      let s : State = state_of a in
      let e : Entry = tick_entry ms in
      let quiet_now : list_any is_stop (sent_acts ms) ≡ false = no-mail-is is_stop (λ m. refl) ms in
      let none : tried s e ≡ [] = ap (λ (ds : List Deed). ds ++ []) (none-by (act_deeds s event.Tick) ms (λ m. refl)) in
      let leaves : next s e ≡ s = ap (λ (b : Bool). cond {A = State} b (halted s e) (told s e)) quiet_now ∙ ap (λ (ds : List Deed). record (state_after state_deed s ds) { is_down = false; pending = [] }) none ∙ as_before q up in
      let mail : IsMail (to_others s (on_tick s)) (sent_acts ms) = mail_behind (to_others s (on_tick s)) [] ms refl to due_all in
      record {
        leaves = leaves;
        lawful = record {
          drawn = none-by drawn_by ms (λ m. refl);
          sessions = ap (λ (b : Bool). cond {A = Option Reply} b (Some (reply.Refused refusal.Down)) None) (sym quiet_now);
          deeds = subst (Along state_deed (IsLawfulDeed event.Tick) s) (sym none) tt;
          agree = subst (λ (x : State). DoLivesAgree x.holder.lives) (sym leaves) q.settled.stands.agree;
          released = subst (λ (b : Bool). Where b (Unit {0}) (ReleasesEnded s e × WaitsInTurn (next s e))) (sym quiet_now)
              ((none-by released_by ms (λ m. refl) ∙ ap (flat_map (ended_by s)) (sym none), none-by granted_by ms (λ m. refl) ∙ ap (flat_map grants_of) (sym none)), subst WaitsInTurn (sym leaves) q.turns);
          sent = mail.last;
          said = subst (λ (x : State). AllByRecursion (SaysRight event.Tick x) (sent_acts ms)) (sym leaves) (say ms said);
          told = tt;
          restart = (no-mail-is regained_by (λ m. refl) ms, up);
          stopped = subst (λ (b : Bool). Where b (IsStopped (sent_acts ms) × TellsStop event.Tick None) (Unit {0})) (sym quiet_now) tt;
        };
        answered = record {
          answered = either (list_any is_stop (sent_acts ms));
          sent = subst (λ (b : Bool). Where b (Unit {0}) (IsPermutation (to_others s (on_tick s)) (flat_map sent_by (sent_acts ms)))) (sym quiet_now) mail.all;
          ticks = ap are_in_order (mails-sent ms) ∙ order;
          applied = either (list_any is_stop (sent_acts ms));
          votes = subst (λ (b : Bool). Where b (Unit {0}) (CountsVotes (next s e))) (sym quiet_now) (subst CountsVotes (sym leaves) (quiet_votes a q));
          forgets = subst (λ (b : Bool). Where b (Unit {0}) (ForgetsDone (next s e))) (sym quiet_now) (subst ForgetsDone (sym leaves) (quiet_forgets a q));
          turns = subst (λ (b : Bool). Where b (IsWalk (at_release s e) (in_turn (at_release s e) a.waits) (flat_map granted_by (sent_acts ms))) (Unit {0})) (sym (no-mail-is is_release (λ m. refl) ms)) tt;
          grants = either (list_any is_stop (sent_acts ms));
          halted = subst (λ (b : Bool). Where b (HaltsRight s e) (Unit {0})) (sym quiet_now) tt;
        };
        quiet = q;
      }
    where
      either : (b : Bool) → Where b (Unit {0}) (Unit {0})
      either true = tt
      either false = tt

  pub force_leads : IsQuiet a → a.is_down ≡ false → Leads false a (bare_entry event.Force) a
  force_leads q up =
      let s : State = state_of a in
      let e : Entry = bare_entry event.Force in
      let leaves : next s e ≡ s = as_before q up in
      record {
        leaves = leaves;
        lawful = record {
          drawn = refl;
          sessions = refl;
          deeds = tt;
          agree = q.settled.stands.agree;
          released = ((refl, refl), subst WaitsInTurn (sym leaves) q.turns);
          sent = refl;
          said = tt;
          told = tt;
          restart = (refl, up);
          stopped = tt;
        };
        answered = record {
          answered = tt;
          sent = IsPermutation-refl [];
          ticks = tt;
          applied = tt;
          votes = subst CountsVotes (sym leaves) (quiet_votes a q);
          forgets = subst ForgetsDone (sym leaves) (quiet_forgets a q);
          turns = tt;
          grants = tt;
          halted = tt;
        };
        quiet = q;
      }
