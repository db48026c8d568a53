-- a worker on its way: one deed more, or none
use Rattle.std.specs.Prelude.{slice_get, ◌⊎◌, ◌==◌, Bool, true, false, cond, Option, Some, Result, Ok, Err, IfOk, IfErr, IfSome, if◌then◌else◌}
use Rattle.std.proofs.Common.{inl, inr, ◌≡◌, ◌≢◌, ℕ, ◌+◌, ◌<◌, ◌≤◌, List, [], ◌∷◌, ◌++◌, length, take, set, refl, sym, ap, ◌∙◌, subst, arith, eq-eqb, ne_eqb}
use Rattle.std.specs.List.{AllByRecursion}
use mathlib.Core.List.{IsPrefix, append-nil, append_assoc}
use Rattle.alp_files.specs.declared.reply.Reply.{Reply}
use Rattle.alp_rpc.specs.Replies as replies
use Rattle.alp_journal.specs.declared.entry.Entry.{Entry}
use Rattle.alp_journal.specs.declared.event.Event.{Event}
use Rattle.alp_journal.specs.declared.log.Item.{Item}
use Rattle.alp_lines.specs.declared.line.Line.TheVariants as line
use Rattle.alp_lines.specs.declared.line.Line.{Line}
use Rattle.alp_session.specs.Crowd.{Crowd}
use Rattle.alp_session.specs.Crowds.{client_at}
use Rattle.alp_session.specs.Frames.{IsReady}
use Rattle.alp_jobs.specs.Deeds.{Deed, sends, gives_tick, gives_timeout}
use Rattle.alp_jobs.specs.Jobs.{DoesRest, Does, GoesOn}
use Rattle.alp_jobs.specs.Lines.{has_lines, KeepsLines, IsJobOf, GivesIn}
use Rattle.alp_jobs.specs.States.{JobState}
use Rattle.alp_monitor.specs.History.{entries_in}
use Rattle.alp_monitor.specs.Passes.{IsHeld, front, turns, first_base}
use Rattle.alp_monitor.specs.declared.monitor.Monitor.{Monitor}
use Rattle.alp_monitor.specs.declared.monitor.Pass.{Pass}
use Rattle.alp_carrier.specs.Takes.{IsLater}
use Rattle.alp_storm.proofs.Fronts.{begins_through, not_longer, same_entries, get_within}
use Rattle.alp_storm.specs.Logs.{Log, IsMadeOf}
use Rattle.alp_storm.specs.Turns.{WasMade, WasAnswered, IsIdle, IsBroken, HasTaken, EndsTurn, Took}
use Rattle.alp_storm.specs.Rings.{IsRing, IsTurned, StandsAt}
use Rattle.alp_storm.specs.Works.{server_of, deeds_at, item_of, items_of, IsEventOf, IsItemOf, IsTurnOf, AreTurnsOf, Takes, TakeAll, HasWorked, HasDue, HasTurned, EndsDue, WantsMemory, before_turn, in_turn, behind_turn, EndsWork, HasStopped, WorksOn, StopsIn}
use Rattle.alp_storm.specs.declared.fault.StormFault.{StormFault}
use Rattle.alp_storm.specs.declared.fault.StormFault.TheVariants as fault
use Rattle.alp_storm.specs.declared.host.Answer.{Answer}
use Rattle.alp_storm.proofs.Lists.{same_some}
use Rattle.alp_storm.proofs.Sets.{get_set, set_same, set_other}
use Rattle.alp_storm.proofs.RingLemmas.{eq_or, later_same, ring_turned}

-- ---- deeds of one server

if-deeds : (b : Bool) (d : Deed) (xs ys : List Deed) → (if b then d ∷ (xs ++ ys) else xs ++ ys) ≡ (if b then d ∷ xs else xs) ++ ys
if-deeds true d xs ys = refl
if-deeds false d xs ys = refl

deeds_both : (n : ℕ) (xs ys : List Deed) → deeds_at n (xs ++ ys) ≡ deeds_at n xs ++ deeds_at n ys
deeds_both n [] ys = refl
deeds_both n (x ∷ xs) ys = ap (λ (l : List Deed). if server_of x == n then x ∷ l else l) (deeds_both n xs ys) ∙ if-deeds (server_of x == n) x (deeds_at n xs) (deeds_at n ys)

deeds_here : (n : ℕ) (xs : List Deed) (d : Deed) → server_of d ≡ n → deeds_at n (xs ++ d ∷ []) ≡ deeds_at n xs ++ d ∷ []
deeds_here n xs d is = deeds_both n xs (d ∷ []) ∙ ap (λ (b : Bool). deeds_at n xs ++ (if b then d ∷ [] else [])) (eq-eqb (server_of d) n is)

deeds_away : (n : ℕ) (xs : List Deed) (d : Deed) → server_of d ≢ n → deeds_at n (xs ++ d ∷ []) ≡ deeds_at n xs
deeds_away n xs d ne = deeds_both n xs (d ∷ []) ∙ (ap (λ (b : Bool). deeds_at n xs ++ (if b then d ∷ [] else [])) (ne_eqb (server_of d) n ne) ∙ append-nil (deeds_at n xs))

items_both : (xs ys : List Deed) → items_of (xs ++ ys) ≡ items_of xs ++ items_of ys
items_both [] ys = refl
items_both (x ∷ xs) ys = ap (λ l. item_of x ++ l) (items_both xs ys) ∙ sym (append_assoc (item_of x) (items_of xs) (items_of ys))

items_one : (xs : List Deed) (d : Deed) → items_of (xs ++ d ∷ []) ≡ items_of xs ++ item_of d
items_one xs d = items_both xs (d ∷ []) ∙ ap (λ l. items_of xs ++ l) (append-nil (item_of d))

-- one more at a server that there is
one_within : (servers : ℕ) (ds : List Deed) (d : Deed) → AllByRecursion (λ (x : Deed). (1 ≤ server_of x) × (server_of x ≤ servers)) ds → (1 ≤ server_of d) × (server_of d ≤ servers)
    → AllByRecursion (λ (x : Deed). (1 ≤ server_of x) × (server_of x ≤ servers)) (ds ++ d ∷ [])
one_within servers [] d all one = (one, tt)
one_within servers (x ∷ ds) d all one = (all.0, one_within servers ds d all.1 one)

-- one more that gives ids of the run
all_first : (P : Deed → Type 0) (ds : List Deed) (d : Deed) → AllByRecursion P (ds ++ d ∷ []) → AllByRecursion P ds
all_first P [] d all = tt
all_first P (x ∷ ds) d all = (all.0, all_first P ds d all.1)

all_last : (P : Deed → Type 0) (ds : List Deed) (d : Deed) → AllByRecursion P (ds ++ d ∷ []) → P d
all_last P [] d all = all.0
all_last P (x ∷ ds) d all = all_last P ds d all.1

-- ---- turns

module _ {B E : Type 0} (log : Log B E) (b : B) (f g : List (ℕ × E)) (begins : IsPrefix f g) where
  made_longer : (e : Event) (t : ℕ × E) → WasMade log b f e t → WasMade log b g e t
  made_longer e t w = record {
    within = (let l = w.within in let m = not_longer f g (t.0 + 1) begins (omega (arith, l)) in omega (arith, m));
    made = subst (λ (es : List E). IsMadeOf log b es e t.1) (same_entries f g t.0 begins (let l = w.within in omega (arith, l))) w.made;
  }

  turn_longer : (d : Deed) (t : ℕ × E) → IsTurnOf log b f d t → IsTurnOf log b g d t
  turn_longer d t w = record { what = w.what; what_is = w.what_is; was = made_longer w.what t w.was; item = w.item; calm = w.calm }

  turns_longer : (ds : List Deed) (ts : List (ℕ × E)) → AreTurnsOf log b f ds ts → AreTurnsOf log b g ds ts
  turns_longer [] [] h = tt
  turns_longer (d ∷ ds) (t ∷ ts) h = (turn_longer d t h.0, turns_longer ds ts h.1)
  turns_longer [] (t ∷ ts) h = absurd h
  turns_longer (d ∷ ds) [] h = absurd h

module _ {B E : Type 0} (log : Log B E) (b : B) (g : List (ℕ × E)) where
  turns_more : (ds : List Deed) (ts : List (ℕ × E)) (d : Deed) (t : ℕ × E) → AreTurnsOf log b g ds ts → IsTurnOf log b g d t → AreTurnsOf log b g (ds ++ d ∷ []) (ts ++ t ∷ [])
  turns_more [] [] d t h one = (one, tt)
  turns_more (x ∷ ds) (y ∷ ts) d t h one = (h.0, turns_more ds ts d t h.1 one)
  turns_more [] (y ∷ ts) d t h one = absurd h
  turns_more (x ∷ ds) [] d t h one = absurd h

-- the item of a deed, by what the server answered
item_as : (d : Deed) (r s : Option Reply) (place at : ℕ) → IsItemOf d r place → s ≡ r → place ≡ at → IsItemOf d s at
item_as (sends x) r s place at h same is = (h.0 ∙ sym same, h.1 ∙ ap Some is, h.2)
item_as (gives_tick server) r s place at h same is = tt
item_as (gives_timeout server t) r s place at h same is = tt

module _ {S B E : Type 0} (base_of : S → B) (log : Log B E) (m : Monitor S B E) where
  -- one deed more at this monitor
  takes_more : (ds : List Deed) (d : Deed) (e : Event) (a : Answer) (p q r : Pass S B E) → IsEventOf a.epoch d e → IsItemOf d a.reply a.place → Takes base_of log m ds p q → HasTaken base_of log m e q r a → Takes base_of log m (ds ++ d ∷ []) p r
  takes_more ds d e a p q r event item old h = record {
    later = record { held = subst (λ n. IsHeld base_of m n r) old.later.held.ready.number_is h.later.held; begins = begins_through (front p) (front q) (front r) old.later.begins h.later.begins };
    more = old.more ++ h.turn ∷ [];
    turns_are = h.one ∙ (ap (λ l. l ++ h.turn ∷ []) old.turns_are ∙ append_assoc (turns p) old.more (h.turn ∷ []));
    deeds_are = turns_more log (first_base base_of m) (front r) ds old.more d h.turn (turns_longer log (first_base base_of m) (front q) (front r) h.later.begins ds old.more old.deeds_are) (record {
      what = e;
      what_is = subst (λ n. IsEventOf n d e) h.was.epoch_is event;
      was = h.was.was;
      item = item_as d a.reply (log.entry h.turn.1).reply a.place (log.since (first_base base_of m) + h.turn.0) item h.was.reply_is h.was.place_is;
      calm = h.was.calm;
    });
  }

module _ {S B E : Type 0} (base_of : S → B) (log : Log B E) (ms : List (Monitor S B E)) where
  -- and so at all
  take_all_more : (ds : List Deed) (d : Deed) (e : Event) (a : Answer) (ps qs rs : List (Pass S B E)) → IsEventOf a.epoch d e → IsItemOf d a.reply a.place → HasTurned base_of log ms (server_of d) e qs rs a → TakeAll base_of log ms ds ps qs → TakeAll base_of log ms (ds ++ d ∷ []) ps rs
  take_all_more ds d e a ps qs rs event item h all i m p r m_is p_is r_is = go (eq_or i h.place)
    where
      go : (i ≡ h.place) ⊎ (i ≢ h.place) → Takes base_of log m (deeds_at (i + 1) (ds ++ d ∷ [])) p r
      go (inl is) =
          let t = h.turned in
          let m_same : t.monitor ≡ m = same_some t.monitor m (sym t.monitor_is ∙ (ap (λ x. slice_get ms x) (sym is) ∙ m_is)) in
          let low = get_within qs h.place t.old t.old_is in
          let r_same : t.new ≡ r = same_some t.new r (sym (ap (λ (l : List (Pass S B E)). slice_get l h.place) t.now_is ∙ set_same qs h.place t.new low) ∙ (ap (λ x. slice_get rs x) (sym is) ∙ r_is)) in
          let went : HasTaken base_of log m e t.old r a = subst (λ (x : Monitor S B E × Pass S B E). HasTaken base_of log x.0 e t.old x.1 a) (λ j. (m_same j, r_same j)) t.went in
          let before : Takes base_of log m (deeds_at (i + 1) ds) p t.old = all i m p t.old m_is p_is (ap (λ x. slice_get qs x) is ∙ t.old_is) in
          subst (λ (x : List Deed). Takes base_of log m x p r) (sym (deeds_here (i + 1) ds d (h.stands.from_one ∙ ap (λ n. n + 1) (sym is))))
          (takes_more base_of log m (deeds_at (i + 1) ds) d e a p t.old r event item before went)
      go (inr ne) =
          let t = h.turned in
          let old : slice_get qs i ≡ Some r = sym (ap (λ (l : List (Pass S B E)). slice_get l i) t.now_is ∙ set_other qs h.place i t.new ne) ∙ r_is in
          subst (λ (x : List Deed). Takes base_of log m x p r) (sym (deeds_away (i + 1) ds d (λ is. ne (let f = h.stands.from_one in omega (arith, f, is))))) (all i m p r m_is p_is old)

  module _ (k : ℕ) where
    taken_later : (e : Event) (a : Answer) (m : Monitor S B E) (p q : Pass S B E) → HasTaken base_of log m e p q a → IsLater base_of m p q
    taken_later e a m p q h = h.later

    lines_on : (old job now : JobState) → job.number ≡ old.number → KeepsLines old job → KeepsLines job now → KeepsLines old now
    lines_on old job now number before behind p given_up all = behind p (subst (λ (n : ℕ). p (line.Abort n) ≡ true) (sym number) given_up) (before p given_up all)

    -- a worker after one deed more
    pub one_more : (d : Deed) (e : Event) (a : Answer) (job now : JobState) (qs rs : List (Pass S B E)) → IsEventOf a.epoch d e → IsItemOf d a.reply a.place → HasTurned base_of log ms (server_of d) e qs rs a → Does job d now → now.items ≡ job.items ++ item_of d
        → now.number ≡ job.number → KeepsLines job now → ((n : ℕ) → IsJobOf n job → GivesIn n d → IsJobOf n now)
        → (IsReady job.number (client_at job.crowd job.number) → IsReady now.number (client_at now.crowd now.number)) → WorksOn base_of log ms k job qs now rs
    one_more d e a job now qs rs event item h does items number lines ours ready old first w = record {
      ring_is = ring_turned base_of ms k h.place (λ m p q. HasTaken base_of log m e p q a) qs rs (taken_later e a) h.turned w.ring_is;
      ready = ready w.ready;
      number_is = number ∙ w.number_is;
      deeds = w.deeds ++ d ∷ [];
      did = λ ds c rest. subst (λ (l : List Deed). DoesRest old l c) (sym (append_assoc w.deeds (d ∷ []) ds)) (w.did (d ∷ ds) c (does ds c rest));
      took = take_all_more w.deeds d e a first qs rs event item h w.took;
      within = one_within (length ms) w.deeds d w.within (let one : server_of d ≡ h.place + 1 = h.stands.from_one in omega (arith, one), h.stands.to_last);
      items_are = items ∙ (ap (λ l. l ++ item_of d) w.items_are ∙ (append_assoc old.items (items_of w.deeds) (item_of d) ∙ ap (λ l. old.items ++ l) (sym (items_one w.deeds d))));
      lines = lines_on old job now w.number_is w.lines lines;
      ours = λ n is gives. ours n (w.ours n is (all_first (GivesIn n) w.deeds d gives)) (all_last (GivesIn n) w.deeds d gives);
    }

    -- and after none
    pub none_more : (job now : JobState) (qs : List (Pass S B E)) → GoesOn job now → now.items ≡ job.items → now.number ≡ job.number → KeepsLines job now → ((n : ℕ) → IsJobOf n job → IsJobOf n now)
        → (IsReady job.number (client_at job.crowd job.number) → IsReady now.number (client_at now.crowd now.number)) → WorksOn base_of log ms k job qs now qs
    none_more job now qs goes items number lines ours ready old first w = record {
      ring_is = w.ring_is;
      ready = ready w.ready;
      number_is = number ∙ w.number_is;
      deeds = w.deeds;
      did = λ ds c rest. w.did ds c (goes ds c rest);
      took = w.took;
      within = w.within;
      items_are = items ∙ w.items_are;
      lines = lines_on old job now w.number_is w.lines lines;
      ours = λ n is gives. ours n (w.ours n is gives);
    }

    -- a worker that did nothing yet
    pub begun : (job : JobState) (ps : List (Pass S B E)) → IsRing base_of ms k ps → IsReady job.number (client_at job.crowd job.number) → HasWorked base_of log ms k job ps job ps
    begun job ps ring ready = record {
      ring_is = ring;
      ready = ready;
      number_is = refl;
      deeds = [];
      did = λ ds d rest. rest;
      took = λ i m p q m_is p_is q_is. subst (λ (x : Pass S B E). Takes base_of log m [] p x) (same_some p q (sym p_is ∙ q_is)) (record {
        later = later_same base_of m k p (ring.held i m p m_is p_is);
        more = [];
        turns_are = sym (append-nil (turns p));
        deeds_are = tt;
      });
      within = tt;
      items_are = sym (append-nil job.items);
      lines = λ p given_up all. all;
      ours = λ n is gives. is;
    }

    -- a worker that stops where it is
    pub stops_here : (f : StormFault) (job now : JobState) (qs rs : List (Pass S B E)) → IsRing base_of ms k rs → EndsWork base_of log ms f job qs now rs → StopsIn base_of log ms k f job qs now rs
    stops_here f job now qs rs ring why old first w = record { mid = job; before = qs; worked = w; ring_is = ring; why = why }

-- ---- how a turn ends a worker's way

same_err : (f g : StormFault) → ◌≡◌ {A = Result Answer StormFault} (Err f) (Err g) → f ≡ g
same_err f g e = cc

module _ {S B E : Type 0} (base_of : S → B) (log : Log B E) (ms : List (Monitor S B E)) (i : ℕ) (e : Event) (ps qs : List (Pass S B E)) where
  ended_later : (m : Monitor S B E) (f : StormFault) (p q : Pass S B E) → EndsTurn base_of log m e p q f → IsLater base_of m p q
  ended_later m (fault.DiskFault server) p q h = elim h.1 [ inl x ↦ x.later | inr x ↦ x.0.later ]
  ended_later m (fault.JournalFull server) p q h = h.1.later
  ended_later m fault.OutOfMemory p q h = h.later
  ended_later m (fault.NoServer server) p q h = absurd h
  ended_later m fault.BadFrame p q h = absurd h

  took_later : (r : Result Answer StormFault) (m : Monitor S B E) (p q : Pass S B E) → Took base_of log m e p q r → IsLater base_of m p q
  took_later (Ok a) m p q h = h.later
  took_later (Err f) m p q h = ended_later m f p q h

  pub ring_took : (k : ℕ) (r : Result Answer StormFault) → IsTurned base_of ms i (λ m p q. Took base_of log m e p q r) ps qs → IsRing base_of ms k ps → IsRing base_of ms k qs
  ring_took k r t ring = ring_turned base_of ms k i (λ m p q. Took base_of log m e p q r) ps qs (took_later r) t ring

  module _ (job now : JobState) (still : now ≡ job) (due : HasDue job (i + 1) e) where
    ended_due : (f : StormFault) → IsTurned base_of ms i (λ m p q. EndsTurn base_of log m e p q f) ps qs → EndsDue base_of log ms f job ps qs
    ended_due f t = record { place = i; asked = e; due = due; ended = t }

    turn_ended : (r : Result Answer StormFault) (f : StormFault) → r ≡ Err f → IsTurned base_of ms i (λ m p q. Took base_of log m e p q r) ps qs → EndsWork base_of log ms f job ps now qs
    turn_ended (Ok a) f is t = cc
    turn_ended (Err (fault.DiskFault server)) f is t = subst (λ (x : StormFault). EndsWork base_of log ms x job ps now qs) (same_err (fault.DiskFault server) f is) (still, ended_due (fault.DiskFault server) t)
    turn_ended (Err (fault.JournalFull server)) f is t = subst (λ (x : StormFault). EndsWork base_of log ms x job ps now qs) (same_err (fault.JournalFull server) f is) (still, ended_due (fault.JournalFull server) t)
    turn_ended (Err fault.OutOfMemory) f is t = subst (λ (x : StormFault). EndsWork base_of log ms x job ps now qs) (same_err fault.OutOfMemory f is) (in_turn still (ended_due fault.OutOfMemory t))
    turn_ended (Err (fault.NoServer server)) f is t = absurd t.went
    turn_ended (Err fault.BadFrame) f is t = absurd t.went

-- a turn at the server of a number that was answered, or was not
module _ {S B E : Type 0} (base_of : S → B) (log : Log B E) (ms : List (Monitor S B E)) (server i : ℕ) (e : Event) (ps qs : List (Pass S B E)) where
  pub ok_turn : (r : Result Answer StormFault) → StandsAt (length ms) server i → IsTurned base_of ms i (λ m p q. Took base_of log m e p q r) ps qs → IfOk r (HasTurned base_of log ms server e ps qs)
  ok_turn (Ok a) stands t = record { place = i; stands = stands; turned = t }
  ok_turn (Err f) stands t = tt

  pub err_turn : (job now : JobState) → now ≡ job → (r : Result Answer StormFault) → StandsAt (length ms) server i → HasDue job server e → IsTurned base_of ms i (λ m p q. Took base_of log m e p q r) ps qs → IfErr r (λ f. EndsWork base_of log ms f job ps now qs)
  err_turn job now still (Ok a) stands due t = tt
  err_turn job now still (Err f) stands due t = turn_ended base_of log ms i e ps qs job now still (subst (λ (n : ℕ). HasDue job n e) stands.from_one due) (Err f) f refl t

  -- there is no server of that number
  pub no_turn : (job now : JobState) → now ≡ job → (server ≡ 0) ⊎ (length ms < server) → HasDue job server e → EndsWork base_of log ms (fault.NoServer server) job ps now ps
  no_turn job now still none due = (still, refl, none, record { asked = e; due = due })
