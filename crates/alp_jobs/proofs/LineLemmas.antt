-- the lines that are left, and the servers that they speak of
use Rattle.std.specs.Prelude.{Bool, true, false, ◌&&◌, cond, Option, None, Some, IfSome, if◌then◌else◌}
use Rattle.std.specs.List.{list_all, AllByRecursion}
use Rattle.std.specs.Option.{option_map}
use Rattle.std.proofs.Common.{◌≡◌, ℕ, List, [], ◌∷◌, refl, sym, ◌∙◌, ap, subst}
use Rattle.alp_base.specs.declared.ids.TransId.{TransId}
use Rattle.alp_journal.specs.declared.log.Item.{Item}
use Rattle.alp_lines.specs.declared.line.Line.{Line}
use Rattle.alp_lines.specs.declared.line.Line.TheVariants as line
use Rattle.alp_session.specs.Clients.{first_of}
use Rattle.alp_session.specs.Crowd.{Crowd}
use Rattle.alp_session.specs.Crowds.{client_at, hears, times_out}
use Rattle.alp_session.specs.Heard.{due_in}
use Rattle.alp_session.specs.Ours.{IsServer, GivesOf, SpeaksOf, WaitsThere, IsClientOf, IsCrowdOf}
use Rattle.alp_session.specs.declared.frames.Addressed.{Addressed}
use Rattle.alp_session.specs.declared.waiting.Next.{Next}
use Rattle.alp_session.specs.declared.waiting.Next.TheVariants as next
use Rattle.alp_session.specs.declared.waiting.Waiting.{Waiting}
use Rattle.alp_session.proofs.OursLemmas.{asks_ours, hears_ours, line_ours}
use Rattle.alp_jobs.specs.Deeds.{waits_on}
use Rattle.alp_jobs.specs.Does.{asked_at, tick_due, after_tick, after_reply, stage_after}
use Rattle.alp_jobs.specs.Jobs.{frame_due, timeout_due, is_coming, is_lost, after_frame, stage_ticked, after_tick_given, after_timeout, at_its_line, giving_up, at_next, gone_on, with_room}
use Rattle.alp_jobs.specs.Lines.{has_lines, KeepsLines, IsJobOf, TellsOf}
use Rattle.alp_jobs.specs.States.{JobState}
use Rattle.alp_jobs.specs.declared.stage.Stage.{Stage}
use Rattle.alp_jobs.specs.declared.stage.Stage.TheVariants as stage

left_true : (a b : Bool) → (a && b) ≡ true → a ≡ true
left_true true b is = refl
left_true false b is = is

right_true : (a b : Bool) → (a && b) ≡ true → b ≡ true
right_true true b is = is
right_true false b is = let wrong : false ≡ true = is in cc

both_true : (a b : Bool) → a ≡ true → b ≡ true → (a && b) ≡ true
both_true a b one two = λ i. one i && two i

if_state : (P : JobState → Type 0) (b : Bool) (x y : JobState) → P x → P y → P (cond b x y)
if_state P true x y p q = p
if_state P false x y p q = q

-- ---- what holds of all lines

module _ (p : Line → Bool) (j : JobState) (given_up : p (line.Abort j.number) ≡ true) (all : has_lines p j ≡ true) where
  abbrev others_all : Bool
  others_all = list_all (λ (ls : List Line). list_all p ls) j.others

  here : p j.line ≡ true
  here = left_true (p j.line) (list_all p j.rest && others_all) all

  in_rest : list_all p j.rest ≡ true
  in_rest = left_true (list_all p j.rest) others_all (right_true (p j.line) (list_all p j.rest && others_all) all)

  in_others : others_all ≡ true
  in_others = right_true (list_all p j.rest) others_all (right_true (p j.line) (list_all p j.rest && others_all) all)

  next_lines : (ls : List Line) (ts : List (List Line)) → list_all p ls ≡ true → list_all (λ (xs : List Line). list_all p xs) ts ≡ true → has_lines p (at_next j ls ts) ≡ true
  next_lines (l ∷ ls) ts rest more = both_true (p l) (list_all p ls && others_all) (left_true (p l) (list_all p ls) rest) (both_true (list_all p ls) others_all (right_true (p l) (list_all p ls) rest) in_others)
  next_lines [] (ls ∷ ts) rest more =
      both_true (p j.line) (list_all p ls && list_all (λ (xs : List Line). list_all p xs) ts) here
      (both_true (list_all p ls) (list_all (λ (xs : List Line). list_all p xs) ts) (left_true (list_all p ls) (list_all (λ (xs : List Line). list_all p xs) ts) more)
      (right_true (list_all p ls) (list_all (λ (xs : List Line). list_all p xs) ts) more))
  next_lines [] [] rest more = all

  gone_all : has_lines p (gone_on j) ≡ true
  gone_all =
      if_state (λ (x : JobState). has_lines p x ≡ true) (is_coming j.stage) (at_its_line j) (if is_lost j.way then giving_up j else at_next j j.rest j.others) all
      (if_state (λ (x : JobState). has_lines p x ≡ true) (is_lost j.way) (giving_up j) (at_next j j.rest j.others) (both_true (p (line.Abort j.number)) (true && others_all) given_up in_others) (next_lines j.rest j.others in_rest in_others))

pub gone_lines : (j : JobState) → KeepsLines j (gone_on j)
gone_lines j p given_up all = gone_all p j given_up all

-- ---- the servers that are spoken of

tick_after : (n : ℕ) (s : Stage) (x : Item) (m : Next) → IsServer n x.server → IfSome (tick_due (stage_after s x m)) (IsServer n)
tick_after n s x m is = go (waits_on x)
  where
    go : (b : Bool) → IfSome (tick_due (cond b (stage.Ticking x.server (after_tick s m)) (stage.Asking (after_reply s m)))) (IsServer n)
    go true = is
    go false = tt

tick_gone : (n : ℕ) (s : Stage) → IfSome (tick_due (stage_ticked s)) (IsServer n)
tick_gone n stage.Coming = tt
tick_gone n (stage.Asking m) = tt
tick_gone n (stage.Ticking server after) = tt
tick_gone n stage.Last = tt

module _ (n : ℕ) (j : JobState) (ours : IsJobOf n j) where
  -- its frame goes to one of them
  pub frame_ours : (frame : Addressed) → frame_due j ≡ Some frame → IsServer n frame.server
  frame_ours frame due = asks_ours n j.crowd j.number j.line (asked_at j.stage) frame ours.crowd ours.at_line due

  pub tick_ours : (server : ℕ) → tick_due j.stage ≡ Some server → IsServer n server
  tick_ours server due = subst (λ (o : Option ℕ). IfSome o (IsServer n)) due ours.ticks

  same_number : (a b : ℕ) → ◌≡◌ {A = Option ℕ} (Some a) (Some b) → a ≡ b
  same_number a b e = cc

  waiting_ours : (ws : List Waiting) (t : Option TransId) (server : ℕ) (trans : TransId) → AllByRecursion (WaitsThere n) ws → due_in (first_of ws) t ≡ Some (server, trans) → IsServer n server
  waiting_ours [] t server trans all due = let wrong : ◌≡◌ {A = Option (ℕ × TransId)} None (Some (server, trans)) = due in absurd (cc)
  waiting_ours (w ∷ ws) None server trans all due = let wrong : ◌≡◌ {A = Option (ℕ × TransId)} None (Some (server, trans)) = due in absurd (cc)
  waiting_ours (w ∷ ws) (Some t) server trans all due = subst (IsServer n) (same_server w.server t due) all.0
    where
      same_server : (a : ℕ) (u : TransId) → ◌≡◌ {A = Option (ℕ × TransId)} (Some (a, u)) (Some (server, trans)) → a ≡ server
      same_server a u e = same_number a server (ap (λ (o : Option (ℕ × TransId)). option_map (λ (x : ℕ × TransId). x.0) o) e)

  out_ours : (m : Next) (server : ℕ) (trans : TransId) → times_out j.crowd j.number m ≡ Some (server, trans) → IsServer n server
  out_ours next.TimeOut server trans due = waiting_ours (client_at j.crowd j.number).waiting (client_at j.crowd j.number).trans server trans (ours.crowd.each j.number).2 due
  out_ours next.Call server trans due = let wrong : ◌≡◌ {A = Option (ℕ × TransId)} None (Some (server, trans)) = due in absurd (cc)
  out_ours next.Collect server trans due = let wrong : ◌≡◌ {A = Option (ℕ × TransId)} None (Some (server, trans)) = due in absurd (cc)
  out_ours next.Over server trans due = let wrong : ◌≡◌ {A = Option (ℕ × TransId)} None (Some (server, trans)) = due in absurd (cc)

  pub timeout_ours : (server : ℕ) (trans : TransId) → timeout_due j ≡ Some (server, trans) → IsServer n server
  timeout_ours server trans due = out_ours (asked_at j.stage) server trans due

  -- it stays so
  pub sent_ours : (frame : Addressed) (x : Item) → frame_due j ≡ Some frame → x.server ≡ frame.server → TellsOf n x → IsJobOf n (after_frame j frame x)
  sent_ours frame x due there tells = record {
    crowd = hears_ours n j.crowd j.number j.line (asked_at j.stage) frame x.reply ours.crowd (frame_ours frame due) tells;
    at_line = ours.at_line;
    in_transaction = ours.in_transaction;
    in_others = ours.in_others;
    ticks = tick_after n j.stage x (hears j.crowd j.number j.line (asked_at j.stage) frame x.reply).1 (subst (IsServer n) (sym there) (frame_ours frame due));
  }

  pub ticked_ours : IsJobOf n (after_tick_given j)
  ticked_ours = record { crowd = ours.crowd; at_line = ours.at_line; in_transaction = ours.in_transaction; in_others = ours.in_others; ticks = tick_gone n j.stage }

  pub timed_ours : IsJobOf n (after_timeout j)
  timed_ours = record { crowd = ours.crowd; at_line = ours.at_line; in_transaction = ours.in_transaction; in_others = ours.in_others; ticks = tt }

  pub room_ours : IsJobOf n (with_room j)
  room_ours = record { crowd = ours.crowd; at_line = ours.at_line; in_transaction = ours.in_transaction; in_others = ours.in_others; ticks = ours.ticks }

  next_ours : (ls : List Line) (ts : List (List Line)) → AllByRecursion (SpeaksOf n) ls → AllByRecursion (AllByRecursion (SpeaksOf n)) ts → IsJobOf n (at_next j ls ts)
  next_ours (l ∷ ls) ts rest others = record { crowd = ours.crowd; at_line = rest.0; in_transaction = rest.1; in_others = ours.in_others; ticks = tt }
  next_ours [] (ls ∷ ts) rest others = record { crowd = ours.crowd; at_line = ours.at_line; in_transaction = others.0; in_others = others.1; ticks = ours.ticks }
  next_ours [] [] rest others = ours

  pub gone_ours : IsJobOf n (gone_on j)
  gone_ours =
      if_state (IsJobOf n) (is_coming j.stage) (at_its_line j) (if is_lost j.way then giving_up j else at_next j j.rest j.others)
      (record { crowd = line_ours n j.crowd j.number j.line ours.crowd ours.at_line; at_line = ours.at_line; in_transaction = ours.in_transaction; in_others = ours.in_others; ticks = tt })
      (if_state (IsJobOf n) (is_lost j.way) (giving_up j) (at_next j j.rest j.others) (record { crowd = ours.crowd; at_line = tt; in_transaction = tt; in_others = ours.in_others; ticks = tt }) (next_ours j.rest j.others ours.in_transaction ours.in_others))
