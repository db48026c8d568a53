-- why a worker stops whose lines are a client's own
use Rattle.std.specs.Prelude.{Bool, true, false, ◌&&◌, Option, None, Some}
use Rattle.std.specs.FinMap as map
use Rattle.std.specs.List.{list_all, AllByRecursion}
use Rattle.std.specs.Option.{option_map}
use Rattle.std.proofs.Common.{◌≡◌, ◌⊎◌, ℕ, ◌+◌, ◌<◌, ◌≤◌, List, [], ◌∷◌, ◌++◌, length, inl, inr, refl, sym, ap, ◌∙◌, subst, arith}
use Rattle.alp_base.specs.declared.ids.TransId.{TransId}
use Rattle.alp_journal.specs.declared.event.Event.{Event}
use Rattle.alp_journal.specs.declared.event.Event.TheVariants as event
use Rattle.alp_journal.specs.declared.log.Item.{Item}
use Rattle.alp_lines.specs.declared.line.Line.{Line}
use Rattle.alp_lines.specs.declared.line.Line.TheVariants as line
use Rattle.alp_rpc.specs.declared.frame.Request.{Request}
use Rattle.alp_session.specs.Calls.{server_for}
use Rattle.alp_session.specs.Crowd.{Crowd}
use Rattle.alp_session.specs.Crowds.{asks, client_at, request_next}
use Rattle.alp_session.specs.Frames.{request_for, request_of, frame_of, addressed}
use Rattle.alp_session.specs.Maps.{WordMap}
use Rattle.alp_session.specs.Ours.{IsServer}
use Rattle.alp_session.specs.declared.client.Client.{Client}
use Rattle.alp_session.specs.declared.frames.Addressed.{Addressed}
use Rattle.alp_session.specs.declared.waiting.Next.{Next}
use Rattle.alp_session.specs.declared.waiting.Next.TheVariants as next
use Rattle.alp_jobs.specs.Deeds.{Deed, sends, gives_tick, gives_timeout}
use Rattle.alp_jobs.specs.Does.{asked_at}
use Rattle.alp_jobs.specs.Lines.{has_lines, is_asking, IsJobOf, TellsOf, GivesIn}
use Rattle.alp_jobs.specs.States.{JobState}
use Rattle.alp_jobs.proofs.LineLemmas.{frame_ours, tick_ours, timeout_ours}
use Rattle.alp_monitor.specs.declared.monitor.Monitor.{Monitor}
use Rattle.alp_monitor.specs.declared.monitor.Pass.{Pass}
use Rattle.alp_storm.specs.Logs.{Log}
use Rattle.alp_storm.specs.Works.{item_of, items_of, HasDue, HasBadFrame, HasStopped, IsBack}
use Rattle.alp_storm.specs.Causes.{IsOfServers, StopForServers}
use Rattle.alp_storm.specs.declared.fault.StormFault.{StormFault}
use Rattle.alp_storm.specs.declared.fault.StormFault.TheVariants as fault

left_true : (a b : Bool) → (a && b) ≡ true → a ≡ true
left_true true b is = refl
left_true false b is = is

-- ---- a line that asks has no frame without a request

none_sent : (server : ℕ) (o : Option Request) (frame : Addressed) → o ≡ None → option_map (addressed server) o ≡ Some frame → ⊥
none_sent server o frame none some = (let wrong : None ≡ Some frame = ap (λ (x : Option Request). option_map (addressed server) x) (sym none) ∙ some in cc)

line_asks : (words : WordMap) (k : ℕ) (c : Client) (l : Line) (frame : Addressed) → is_asking l ≡ true → request_of words k c l ≡ None → frame_of words k c l ≡ Some frame → ⊥
line_asks words k c (line.Repeat client) frame asking none some = (let wrong : false ≡ true = asking in cc)
line_asks words k c (line.Old client) frame asking none some = (let wrong : false ≡ true = asking in cc)
line_asks words k c (line.Raw client server bytes) frame asking none some = (let wrong : false ≡ true = asking in cc)
line_asks words k c l frame asking none some = none_sent (server_for words c l) (request_for words k c l) frame none some

asks_anew : (c : Crowd) (k : ℕ) (l : Line) (n : Next) (frame : Addressed) → is_asking l ≡ true → request_next c k l n ≡ None → asks c k l n ≡ Some frame → ⊥
asks_anew c k l next.Call frame asking none some = line_asks c.words k (client_at c k) l frame asking none some
asks_anew c k l next.Collect frame asking none some = line_asks c.words k (client_at c k) (line.Collect k) frame refl none some
asks_anew c k l next.TimeOut frame asking none some = (let wrong : None ≡ Some frame = some in cc)
asks_anew c k l next.Over frame asking none some = (let wrong : None ≡ Some frame = some in cc)

no_bad : (j : JobState) → has_lines is_asking j ≡ true → HasBadFrame j → ⊥
no_bad j all h =
    asks_anew j.crowd j.number j.line (asked_at j.stage) h.frame
    (left_true (is_asking j.line) (list_all is_asking j.rest && list_all (λ (ls : List Line). list_all is_asking ls) j.others) all) h.unasked h.due

-- ---- what is due goes to a server of the run

out_of : (n server : ℕ) → (server ≡ 0) ⊎ (n < server) → IsServer n server → ⊥
out_of n server (inl zero_is) ours = (let one : 1 ≤ server = ours.0 in omega (arith, zero_is, one))
out_of n server (inr far) ours = (let last : server ≤ n = ours.1 in omega (arith, far, last))

due_ours : (n : ℕ) (j : JobState) (server : ℕ) (e : Event) → IsJobOf n j → HasDue j server e → IsServer n server
due_ours n j server (event.Call client epoch number asked) ours h = subst (IsServer n) h.there (frame_ours n j ours h.frame h.due)
due_ours n j server (event.Timeout t) ours h = timeout_ours n j ours server t h
due_ours n j server event.Tick ours h = tick_ours n j ours server h
due_ours n j server e ours h = absurd h

-- ---- what was told

last_part : (P : Item → Type 0) (xs ys : List Item) → AllByRecursion P (xs ++ ys) → AllByRecursion P ys
last_part P [] ys all = all
last_part P (x ∷ xs) ys all = last_part P xs ys all.1

first_part : (P : Item → Type 0) (xs ys : List Item) → AllByRecursion P (xs ++ ys) → AllByRecursion P xs
first_part P [] ys all = tt
first_part P (x ∷ xs) ys all = (all.0, first_part P xs ys all.1)

deed_gives : (n : ℕ) (d : Deed) → AllByRecursion (TellsOf n) (item_of d) → GivesIn n d
deed_gives n (sends x) all = all.0
deed_gives n (gives_tick server) all = tt
deed_gives n (gives_timeout server t) all = tt

all_give : (n : ℕ) (ds : List Deed) → AllByRecursion (TellsOf n) (items_of ds) → AllByRecursion (GivesIn n) ds
all_give n [] all = tt
all_give n (d ∷ ds) all = (deed_gives n d (first_part (TellsOf n) (item_of d) (items_of ds) all), all_give n ds (last_part (TellsOf n) (item_of d) (items_of ds) all))

module _ {S B E : Type 0} (base_of : S → B) (log : Log B E) where
  still_ours : (ms : List (Monitor S B E)) (k : ℕ) (f : StormFault) (job now : JobState) (ring ring_now : List (Pass S B E)) → (h : HasStopped base_of log ms k f job ring now ring_now) → now ≡ h.mid → IsJobOf (length ms) job → AllByRecursion (TellsOf (length ms)) now.items
      → IsJobOf (length ms) h.mid
  still_ours ms k f job now ring ring_now h still ours told =
      h.worked.ours (length ms) ours
      (all_give (length ms) h.worked.deeds (last_part (TellsOf (length ms)) job.items (items_of h.worked.deeds) (subst (AllByRecursion (TellsOf (length ms))) (ap (λ (j : JobState). j.items) still ∙ h.worked.items_are) told)))

  pub for_servers : StopForServers base_of log
  for_servers ms k (fault.DiskFault server) job now ring ring_now h asking ours told = tt
  for_servers ms k (fault.JournalFull server) job now ring ring_now h asking ours told = tt
  for_servers ms k fault.OutOfMemory job now ring ring_now h asking ours told = tt
  for_servers ms k (fault.NoServer server) job now ring ring_now h asking ours told =
      let (still, same, none, there) = h.why in
      out_of (length ms) server none (due_ours (length ms) h.mid server there.asked (still_ours ms k (fault.NoServer server) job now ring ring_now h still ours told) there.due)
  for_servers ms k fault.BadFrame job now ring ring_now h asking ours told =
      let (still, same, bad) = h.why in
      no_bad h.mid (h.worked.lines is_asking refl asking) bad
