-- whole lines, and what they leave of clients, lists and servers
use Rattle.std.specs.Prelude.{◌==◌, true, false, Bool, cond, Option, None, Some, map as list_map, slice_set, slice_index_or, Vec}
use Rattle.std.specs.Global.{Global}
use Rattle.std.proofs.Common.{inl, inr, ◌⊎◌, ◌<◌, ◌≡◌, ◌≢◌, ℕ, zero, suc, ◌≤◌, ◌+◌, ◌-◌, ◌^◌, List, [], ◌∷◌, ◌++◌, length, take, drop, refl, sym, ◌∙◌, ap, subst, arith, append_assoc, append-nil, length-append}
use Rattle.std.proofs.lemmas.Bool.Decides.{eqb_tells, leb_tells}
use Rattle.std.proofs.lemmas.List.{set_past}
use Rattle.std.proofs.Math.Dec.{leb}
use Rattle.std.proofs.Math.Seq.{take-length}
use Rattle.alp_files.specs.declared.reply.Reply.{Reply}
use Rattle.alp_base.specs.declared.ids.TransId.{TransId}
use Rattle.alp_journal.specs.declared.log.Item.{Item}
use Rattle.alp_journal.specs.declared.log.Mark.TheVariants as mark
use Rattle.alp_lines.specs.declared.line.Line.{Line}
use Rattle.alp_script.specs.declared.numbered.NumberedLine.{NumberedLine}
use Rattle.alp_lines.specs.Named.{client_named}
use Rattle.alp_lines.specs.declared.line.Line.TheVariants as line
use Rattle.alp_history.specs.Items as items
use Rattle.alp_history.specs.RunLogs.{item_of}
use Rattle.alp_session.specs.Maps.{WordMap}
use Rattle.alp_session.specs.declared.client.Client.{Client}
use Rattle.alp_session.specs.declared.frames.Addressed.{Addressed}
use Rattle.alp_session.specs.Ahead.{ahead, IsOnItsWay}
use Rattle.alp_session.specs.Heard.{heard, words_heard, words_at, begins}
use Rattle.alp_session.specs.Frames.{mark_of}
use Rattle.alp_session.specs.declared.waiting.Next.{Next}
use Rattle.alp_session.specs.declared.waiting.Next.TheVariants as next
use Rattle.alp_session.specs.declared.waiting.Settings.{Settings}
use Rattle.alp_session.specs.Crowd.{Crowd}
use Rattle.alp_session.specs.Crowds.{client_at, with_client, asks, hears, at_line, declares, times_out}
use Rattle.alp_session.proofs.AheadLemmas.{first_few, hears_fewer}
use Rattle.alp_session.proofs.CrowdLemmas.{at_same, at_other, as_many}
use Rattle.alp_vault.specs.declared.vault.Vault.{Ghosts}
use Rattle.alp_course.specs.Courses.{Occurrence, at}
use Rattle.alp_course.specs.Happens.{sent_it, timed_out}
use Rattle.alp_course.specs.Languages.{Just}
use Rattle.alp_course.specs.Carries.{CarriesIf}
use Rattle.alp_course.specs.Plays.{Due, to_send, to_come, untold, IsCut, CarriesAt, Sends, SendsMore, timeouts_due, PlaysOwn, BeginsOwn}
use Rattle.alp_course.specs.Turns.{Turn, lists_in, own_in, turns_text}
use Rattle.alp_course.proofs.LanguageLemmas.{then_word}
use Rattle.alp_cluster.specs.Clients.{States, IsInStep, InStep, HasSaid}
use Rattle.alp_cluster.specs.Stations.{AreOn, AreLater, Go, Did, DidSome, state_at}
use Rattle.alp_cluster.specs.Steps.{IsOwnNext, Exchanged, SaysOn, SayOn, DidLine, DidOfLine, AddsEvents, AddsSomeEvents, PlaysOn, Adds, AddsSome, BeginsOn, ExchangesNone}
use Rattle.alp_cluster.specs.declared.fault.RunFault.{RunFault}
use Rattle.alp_cluster.specs.declared.fault.RunFault.TheVariants as fault
use Rattle.alp_cluster.specs.declared.stations.Stations.{Stations}
use Rattle.alp_cluster.proofs.DidLemmas.{later_none, go_none, go_then, none_further}
use Rattle.alp_cluster.proofs.ExchangeLemmas.{in_step_later}
use Rattle.alp_cluster.proofs.KnowLemmas.{SameKnown, same_known}
use Rattle.alp_cluster.proofs.OwnLemmas.{step_later}
use Rattle.alp_cluster.proofs.SaidLemmas.{said_later}

-- ---- what comes behind a frame

-- a line with a frame of its own may come to a collect, and another is over
own_any : (l : Line) (n : Next) → mark_of l ≡ mark.Own → IsOwnNext l n
own_any l next.Call own = tt
own_any l next.Collect own = own
own_any l next.TimeOut own = tt
own_any l next.Over own = tt

heard_own_next : (words : WordMap) (s : Settings) (d : Client) (l : Line) (n : Next) (frame : Addressed) (r : Option Reply) → IsOwnNext l (heard words s d l n frame r).1
heard_own_next words s d (line.Repeat k) n frame r = tt
heard_own_next words s d (line.Old k) n frame r = tt
heard_own_next words s d (line.Raw k server bytes) n frame r = tt
heard_own_next words s d l n frame r = own_any l (heard words s d l n frame r).1 refl

-- of a client among the others
module _ (c new : Crowd) (k : ℕ) (l : Line) (now : Next) (frame : Addressed) (r : Option Reply) (behind : Next) (e : hears c k l now frame r ≡ (new, behind)) where
  behind_is : behind ≡ (heard c.words c.settings (client_at c k) l now frame r).1
  behind_is = ap (λ (p : Crowd × Next). p.1) (sym e)

  pub own_behind : IsOwnNext l behind
  own_behind = subst (IsOwnNext l) (sym behind_is) (heard_own_next c.words c.settings (client_at c k) l now frame r)

  -- what one client hears is no matter of the others
  pub others_stay : (j : ℕ) → (j ≡ k → ⊥) → client_at new j ≡ client_at c j
  others_stay j away =
      let d : Client = client_at c k in
      ap (λ (p : Crowd × Next). client_at p.0 j) (sym e) ∙ at_other c (words_heard c.words d l now frame.server r) k j (heard c.words c.settings d l now frame r).0 away

  -- there is less to come behind each frame
  pub fewer_behind : length c.places ≡ 17 → k ≤ 16 → IsOnItsWay c.words (client_at c k) l now → asks c k l now ≡ Some frame
      → IsOnItsWay new.words (client_at new k) l behind × (ahead new.words (client_at new k) l behind < ahead c.words (client_at c k) l now)
  fewer_behind places small way asked =
      subst (λ (p : Crowd × Next). IsOnItsWay p.0.words (client_at p.0 k) l p.1 × (ahead p.0.words (client_at p.0 k) l p.1 < ahead c.words (client_at c k) l now)) e
      (hears_fewer c k l now frame r (omega (arith, places, small)) way asked)

-- a whole line has at most five
pub few_line : (words : WordMap) (c : Client) (l : Line) (n : ℕ) → n ≤ ahead words c l next.Call → n ≤ 5
few_line words c l n few = omega (arith, few, first_few words c l)

-- what stands behind what was there before
drop_front : (a xs : List Item) → drop (length a) (a ++ xs) ≡ xs
drop_front [] xs = refl
drop_front (x ∷ a) xs = drop_front a xs

pub behind_front : (a xs ys : List Item) (k : ℕ) → ys ≡ a ++ xs → k ≡ length a → take (length ys - k) (drop k ys) ≡ xs
behind_front a xs ys k is long =
    let rest : length (a ++ xs) - length a ≡ length xs = omega (arith, length-append a xs) in
    (λ i. take (length (is i) - long i) (drop (long i) (is i))) ∙ (λ i. take (rest i) (drop_front a xs i)) ∙ take-length xs

-- ---- one thing that was to come

-- nothing of it came
pub one_cut : (x : Occurrence) (hs : List Occurrence) (due : Due) → IsCut (Just (x ∷ [])) hs due → (hs ≡ []) × (due ≡ to_come x)
one_cut x [] due cut = (let same : cut.coming ∷ cut.rest ≡ x ∷ [] = cut.all in let first : cut.coming ≡ x = cc in (refl, cut.is ∙ ap to_come first))
one_cut x (y ∷ []) due cut = (let wrong : y ∷ cut.coming ∷ cut.rest ≡ x ∷ [] = cut.all in cc)
one_cut x (y ∷ z ∷ hs) due cut = (let wrong : y ∷ z ∷ (hs ++ cut.coming ∷ cut.rest) ≡ x ∷ [] = cut.all in cc)

-- what was said stays said as the servers go on
pub said_goes : {V : Type 0} (G : Ghosts V) (a b : Stations V) (c : Crowd) → AreLater G a b → (j : ℕ) (front : List items.Item) → HasSaid (state_at a) j (client_at c j) front → HasSaid (state_at b) j (client_at c j) front
said_goes G a b c later j front said = said_later (state_at a) (state_at b) j (client_at c j) (client_at c j) front (λ n x. later.reached n j x) (λ n. refl) refl refl refl said

-- ---- the items of a line

module _ {V : Type 0} (G : Ghosts V) (servers : ℕ) (c : Crowd) (a b : Stations V) (k : ℕ) (l : NumberedLine) (now : Next) (carried : Did G (CarriesAt servers c now) a b) where
  -- what was said before messages were carried
  said_carried : (front : List items.Item) → HasSaid (state_at a) k (client_at c k) front → HasSaid (state_at b) k (client_at c k) front
  said_carried front said = said_goes G a b c carried.goes.later k front said

  module _ (d e : Crowd) (m z : Stations V) (frame : Addressed) (behind : Next) (x : Item) (xs : List Item) (asked : asks c k l.line now ≡ Some frame) (h : Exchanged G c d b m k l now frame behind x) where
    longer : (front : List items.Item) (n : ℕ) → length front + suc n + 4 < 2 ^ 32 → length (front ++ item_of x ∷ []) + n + 4 < 2 ^ 32
    longer front n short = (let one : length (front ++ item_of x ∷ []) ≡ length front + 1 = length-append front (item_of x ∷ []) in omega (arith, short, one))

    one_said : (y : Stations V) → SaysOn d e m y k xs → SaysOn c e a y k (x ∷ xs)
    one_said y rest = λ front short said. subst (HasSaid (state_at y) k (client_at e k)) (append_assoc front (item_of x ∷ []) (list_map item_of xs))
        (rest (front ++ item_of x ∷ []) (longer front (length xs) short) (h.said front (omega (arith, short)) (said_carried front said)))

    -- a frame of a line, and what comes behind it
    pub more_line : (t : Option (ℕ × TransId)) → DidLine G servers d e m z k l behind xs t → DidLine G servers c e a z k l now (x ∷ xs) t
    more_line t rest = record {
      step = rest.step;
      hs = carried.hs ++ at x.server (sent_it k x) ∷ rest.hs;
      goes = go_then G carried.hs (at x.server (sent_it k x) ∷ rest.hs) a b z carried.goes (go_then G (at x.server (sent_it k x) ∷ []) rest.hs b m z h.goes rest.goes);
      number = (h.number, rest.number);
      sends = (
        frame,
        rest.hs,
        asked,
        h.sent,
        then_word (CarriesAt servers c now) (Just (at x.server (sent_it k x) ∷ rest.hs)) carried.hs (at x.server (sent_it k x) ∷ rest.hs) carried.word refl,
        subst (λ (q : Crowd × Next). Sends servers q.0 k l.line q.1 xs t rest.hs e) (sym h.heard) rest.sends,
      );
      said = one_said z rest.said;
      others = λ j away. rest.others j away ∙ others_stay c d k l.line now frame x.reply behind h.heard j away;
    }

    -- and there is more to come
    pub more_some : (f : RunFault) → DidOfLine G f servers d e m z k l behind xs → DidOfLine G f servers c e a z k l now (x ∷ xs)
    more_some f rest = record {
      at_end = rest.at_end;
      hs = carried.hs ++ at x.server (sent_it k x) ∷ rest.hs;
      due = rest.due;
      goes = go_then G carried.hs (at x.server (sent_it k x) ∷ rest.hs) a b rest.at_end carried.goes (go_then G (at x.server (sent_it k x) ∷ []) rest.hs b m rest.at_end h.goes rest.goes);
      ends = rest.ends;
      left = rest.left;
      number = (h.number, rest.number);
      sends = (
        frame,
        rest.hs,
        asked,
        h.sent,
        then_word (CarriesAt servers c now) (Just (at x.server (sent_it k x) ∷ rest.hs)) carried.hs (at x.server (sent_it k x) ∷ rest.hs) carried.word refl,
        subst (λ (q : Crowd × Next). SendsMore servers q.0 k l.line q.1 xs rest.hs rest.due e) (sym h.heard) rest.sends,
      );
      said = one_said rest.at_end rest.said;
      others = λ j away. rest.others j away ∙ others_stay c d k l.line now frame x.reply behind h.heard j away;
    }

  -- nothing is said
  none_said : (y : Stations V) → AreLater G b y → SaysOn c c a y k []
  none_said y later = λ front short said. subst (HasSaid (state_at y) k (client_at c k)) (sym (append-nil front)) (said_goes G b y c later k front (said_carried front said))

  -- there was no memory for its next frame
  pub asks_wanting : AreOn G b → DidOfLine G fault.OutOfMemory servers c c a b k l now []
  asks_wanting on = record {
    at_end = b;
    hs = carried.hs;
    due = untold;
    goes = carried.goes;
    ends = tt;
    left = none_further G b;
    number = tt;
    sends = (inr (inr (refl, inr (inl carried.word))), refl);
    said = none_said b (later_none G b on);
    others = λ j away. refl;
  }

  -- a line behind its last frame
  pub ended_line : (z : Stations V) → InStep G c b → asks c k l.line now ≡ None → Did G (Just (timeouts_due (times_out c k now))) b z → DidLine G servers c c a z k l now [] (times_out c k now)
  ended_line z step none timed = record {
    step = in_step_later G c b z step timed.goes.later;
    hs = carried.hs ++ timed.hs;
    goes = go_then G carried.hs timed.hs a b z carried.goes timed.goes;
    number = tt;
    sends = (then_word (CarriesAt servers c now) (Just (timeouts_due (times_out c k now))) carried.hs timed.hs carried.word timed.word, none, refl, refl);
    said = none_said z timed.goes.later;
    others = λ j away. refl;
  }

  -- a frame was to go out
  pub send_some : (f : RunFault) (z : Stations V) (frame : Addressed) → asks c k l.line now ≡ Some frame → InStep G c b → ExchangesNone G f k frame b z → DidOfLine G f servers c c a z k l now []
  send_some f z frame asked step h = record {
    at_end = b;
    hs = carried.hs;
    due = to_send k frame;
    goes = carried.goes;
    ends = h.ends;
    left = h.left;
    number = tt;
    sends = (inr (inl (carried.word, inl (frame, asked, refl))), refl);
    said = none_said b (later_none G b step.on);
    others = λ j away. refl;
  }

  -- a transaction was to time out
  pub timed_some : (f : RunFault) (z : Stations V) (t : ℕ × TransId) → times_out c k now ≡ Some t → DidSome G (Just (timeouts_due (Some t))) f b z → DidOfLine G f servers c c a z k l now []
  timed_some f z t due h =
      let (nothing, is) = one_cut (at t.0 (timed_out t.1)) h.hs h.due h.cut in
      record {
        at_end = h.at_end;
        hs = carried.hs;
        due = h.due;
        goes = subst (λ (hs : List Occurrence). Go G hs a h.at_end) (ap (λ (js : List Occurrence). carried.hs ++ js) nothing ∙ append-nil carried.hs) (go_then G carried.hs h.hs a b h.at_end carried.goes h.goes);
        ends = h.ends;
        left = h.left;
        number = tt;
        sends = (inr (inl (carried.word, inr (t, due, is))), refl);
        said = none_said h.at_end h.goes.later;
        others = λ j away. refl;
      }

-- there was no memory for what comes next
pub next_wanting : {V : Type 0} (G : Ghosts V) (servers : ℕ) (c : Crowd) (s : Stations V) (k : ℕ) (l : NumberedLine) (now : Next) → AreOn G s → DidOfLine G fault.OutOfMemory servers c c s s k l now []
next_wanting G servers c s k l now on = record {
  at_end = s;
  hs = [];
  due = untold;
  goes = go_none G s on;
  ends = tt;
  left = none_further G s;
  number = tt;
  sends = (inr (inr (refl, inl refl)), refl);
  said = λ front short said. subst (HasSaid (state_at s) k (client_at c k)) (sym (append-nil front)) said;
  others = λ j away. refl;
}

-- all of the line was sent, and then memory was wanting
sends_whole : (servers k : ℕ) (l : Line) (c d : Crowd) (n : Next) (xs : List Item) (t : Option (ℕ × TransId)) (hs : List Occurrence) → Sends servers c k l n xs t hs d → SendsMore servers c k l n xs hs untold d
sends_whole servers k l c d n [] t hs h =
    let (word, asked, is, known) = h in
    (inr (inr (refl, inr (inr (subst (λ (o : Option (ℕ × TransId)). Sends servers c k l n [] o hs c) is (word, asked, is, refl))))), known)
sends_whole servers k l c d n (x ∷ xs) t hs h =
    let (frame, rest, asked, of_frame, now, more) = h in
    (frame, rest, asked, of_frame, now, sends_whole servers k l (hears c k l n frame x.reply).0 d (hears c k l n frame x.reply).1 xs t rest more)

pub line_wanting : {V : Type 0} (G : Ghosts V) (servers : ℕ) (c d : Crowd) (a b : Stations V) (k : ℕ) (l : NumberedLine) (now : Next) (xs : List Item) (t : Option (ℕ × TransId)) → DidLine G servers c d a b k l now xs t → DidOfLine G fault.OutOfMemory servers c d a b k l now xs
line_wanting G servers c d a b k l now xs t h = record {
  at_end = b;
  hs = h.hs;
  due = untold;
  goes = h.goes;
  ends = tt;
  left = none_further G b;
  number = h.number;
  sends = sends_whole servers k l.line c d now xs t h.hs h.sends;
  said = h.said;
  others = h.others;
}

-- messages were to be carried
pub carry_some : {V : Type 0} (G : Ghosts V) (servers : ℕ) (c : Crowd) (a z : Stations V) (k : ℕ) (l : NumberedLine) (now : Next) (f : RunFault) → DidSome G (CarriesAt servers c now) f a z → DidOfLine G f servers c c a z k l now []
carry_some G servers c a z k l now f h = record {
  at_end = h.at_end;
  hs = h.hs;
  due = h.due;
  goes = h.goes;
  ends = h.ends;
  left = h.left;
  number = tt;
  sends = (inl h.cut, refl);
  said = λ front short said. subst (HasSaid (state_at h.at_end) k (client_at c k)) (sym (append-nil front)) (said_goes G a h.at_end c h.goes.later k front said);
  others = λ j away. refl;
}

-- ---- a line begins, or declares

begins_known : (c : Client) (l : Line) → SameKnown c (begins c l)
begins_known c (line.Begin k server) = record { session = λ n. refl; told = refl; begun = refl; frames = refl }
begins_known c l = same_known c

-- one client is another now that knows the same of all that is asked
pub still_step : {V : Type 0} (G : Ghosts V) (c : Crowd) (s : Stations V) (words : WordMap) (k : ℕ) (d : Client) → k < length c.places → SameKnown (client_at c k) d → InStep G c s → InStep G (with_client c words k d) s
still_step G c s words k d here same step = record {
  on = step.on;
  places = as_many c words k d ∙ step.places;
  each = λ j. go j (eqb_tells j k);
}
  where
    go : (j : ℕ) → (((j == k) ≡ true) × (j ≡ k)) ⊎ (((j == k) ≡ false) × (j ≢ k)) → IsInStep (state_at s) j (client_at (with_client c words k d) j)
    go j (inl is) =
        subst (λ (i : ℕ). IsInStep (state_at s) i (client_at (with_client c words k d) i)) (sym is.1)
        (subst (λ (x : Client). IsInStep (state_at s) k x) (sym (at_same c words k d here)) (step_later (state_at s) (state_at s) k (client_at c k) d (λ n a h. h) same.session same.told same.frames (step.each k)))
    go j (inr away) = subst (λ (x : Client). IsInStep (state_at s) j x) (sym (at_other c words k j d away.1)) (step.each j)

pub at_step : {V : Type 0} (G : Ghosts V) (c : Crowd) (s : Stations V) (k : ℕ) (l : Line) → k ≤ 16 → InStep G c s → InStep G (at_line c k l) s
at_step G c s k l small step =
    still_step G c s (words_at c.words l) k (begins (client_at c k) l) (omega (arith, small, step.places)) (begins_known (client_at c k) l) step

-- past the last place nothing changes
past_step : {V : Type 0} (G : Ghosts V) (c : Crowd) (s : Stations V) (k : ℕ) (d : Client) → length c.places ≤ k → InStep G c s → InStep G (with_client c c.words k d) s
past_step G c s k d past step = subst (λ (xs : List Client). InStep G (record c { places = xs }) s) (sym (set_past c.places k d past)) step

-- what is set for all clients is no matter of that
set_step : {V : Type 0} (G : Ghosts V) (c : Crowd) (s : Stations V) (set : Settings) → InStep G c s → InStep G (record c { settings = set }) s
set_step G c s set step = record { on = step.on; places = step.places; each = step.each }

pub declared_step : {V : Type 0} (G : Ghosts V) (c : Crowd) (s : Stations V) (l : Line) → InStep G c s → InStep G (declares c l) s
declared_step G c s (line.Client k name) step = go (leb_tells (length c.places) k)
  where
    d : Client
    d = record (client_at c k) { name = name }

    go : ((leb (length c.places) k ≡ true) × (length c.places ≤ k)) ⊎ ((leb (length c.places) k ≡ false) × (k < length c.places)) → InStep G (with_client c c.words k d) s
    go (inl past) = past_step G c s k d past.1 step
    go (inr here) = still_step G c s c.words k d here.1 (record { session = λ n. refl; told = refl; begun = refl; frames = refl }) step
declared_step G c s (line.Patience count) step = set_step G c s (record c.settings { patience = count }) step
declared_step G c s (line.Auto on) step = set_step G c s (record c.settings { collects = on }) step
declared_step G c s l step = step

-- what a client knows has it said as much
said_known : {V : Type 0} (s : States V) (k : ℕ) (c d : Client) (front : List items.Item) → SameKnown c d → HasSaid s k c front → HasSaid s k d front
said_known s k c d front same said = said_later s s k c d front (λ n a h. h) same.session same.told same.begun same.frames said

-- the client of a line has said what it had, and so have all others
pub said_at_line : {V : Type 0} (s : States V) (c : Crowd) (k : ℕ) (l : Line) → length c.places ≡ 17 → k ≤ 16 → (j : ℕ) (front : List items.Item) → HasSaid s j (client_at c j) front → HasSaid s j (client_at (at_line c k l) j) front
said_at_line s c k l places small j front said = go (eqb_tells j k)
  where
    d : Client
    d = begins (client_at c k) l

    go : (((j == k) ≡ true) × (j ≡ k)) ⊎ (((j == k) ≡ false) × (j ≢ k)) → HasSaid s j (client_at (at_line c k l) j) front
    go (inl is) =
        subst (λ (i : ℕ). HasSaid s i (client_at (at_line c k l) i) front) (sym is.1)
        (subst (λ (z : Client). HasSaid s k z front) (sym (at_same c (words_at c.words l) k d (omega (arith, places, small))))
        (said_known s k (client_at c k) d front (begins_known (client_at c k) l) (subst (λ (i : ℕ). HasSaid s i (client_at c i) front) is.1 said)))
    go (inr away) = subst (λ (z : Client). HasSaid s j z front) (sym (at_other c (words_at c.words l) k j d away.1)) said

pub said_declared : {V : Type 0} (s : States V) (c : Crowd) (l : Line) → (j : ℕ) (front : List items.Item) → HasSaid s j (client_at c j) front → HasSaid s j (client_at (declares c l) j) front
said_declared s c (line.Client k name) j front said = go (leb_tells (length c.places) k)
  where
    d : Client
    d = record (client_at c k) { name = name }

    one : (((j == k) ≡ true) × (j ≡ k)) ⊎ (((j == k) ≡ false) × (j ≢ k)) → k < length c.places → HasSaid s j (client_at (with_client c c.words k d) j) front
    one (inl is) here =
        subst (λ (i : ℕ). HasSaid s i (client_at (with_client c c.words k d) i) front) (sym is.1)
        (subst (λ (z : Client). HasSaid s k z front) (sym (at_same c c.words k d here))
        (said_known s k (client_at c k) d front (record { session = λ n. refl; told = refl; begun = refl; frames = refl }) (subst (λ (i : ℕ). HasSaid s i (client_at c i) front) is.1 said)))
    one (inr away) here = subst (λ (z : Client). HasSaid s j z front) (sym (at_other c c.words k j d away.1)) said

    go : ((leb (length c.places) k ≡ true) × (length c.places ≤ k)) ⊎ ((leb (length c.places) k ≡ false) × (k < length c.places)) → HasSaid s j (client_at (with_client c c.words k d) j) front
    go (inl past) = subst (λ (xs : List Client). HasSaid s j (client_at (record c { places = xs }) j) front) (sym (set_past c.places k d past.1)) said
    go (inr here) = one (eqb_tells j k) here.1
said_declared s c (line.Patience count) j front said = said
said_declared s c (line.Auto on) j front said = said
said_declared s c l j front said = said

-- ---- what a line adds

-- a line that is no client's
module _ {V : Type 0} (G : Ghosts V) (servers : ℕ) (c d : Crowd) (a b : Stations V) (l : NumberedLine) (none : client_named l.line ≡ None) (step : InStep G c a) where
  -- nobody says anything
  quiet : (y : Stations V) → AreLater G a y → d ≡ declares c l.line → SayOn c d a y []
  quiet y later declared = λ k front short said. subst (HasSaid (state_at y) k (client_at d k)) (sym (append-nil front))
      (subst (λ (z : Crowd). HasSaid (state_at y) k (client_at z k) front) (sym declared) (said_declared (state_at y) c l.line k front (said_goes G a y c later k front said)))

  pub plays_other : (lists : List (Vec Item Global)) (text : List ℕ) → AddsEvents G servers c d a b l.line → PlaysOn G servers c d a b l lists lists text text
  plays_other lists text h = record {
    step = subst (λ (z : Crowd). InStep G z b) (sym h.declared) (declared_step G c b l.line (in_step_later G c a b step h.goes.later));
    turns = [];
    hs = h.hs;
    goes = h.goes;
    plays = subst (λ (o : Option ℕ). PlaysOwn servers c l o [] h.hs d) (sym none) (refl, h.gives, h.declared);
    places = refl;
    lists = λ k. sym (append-nil (lists_in lists k));
    few = λ k. omega arith;
    said = quiet b h.goes.later h.declared;
    text = sym (append-nil text);
  }

  pub begins_other : (f : RunFault) (lists : List (Vec Item Global)) (text : List ℕ) → AddsSomeEvents G f servers c d a b l.line → BeginsOn G f servers c d a b l lists lists text text
  begins_other f lists text h = record {
    turns = [];
    at_end = h.at_end;
    hs = h.hs;
    due = h.due;
    goes = h.goes;
    ends = h.ends;
    left = h.left;
    begins = subst (λ (o : Option ℕ). BeginsOwn servers c l o [] h.hs h.due d) (sym none) (refl, h.begins, h.declared);
    places = refl;
    lists = λ k. sym (append-nil (lists_in lists k));
    one = omega arith;
    few = λ k. omega arith;
    said = quiet h.at_end h.goes.later h.declared;
    text = refl;
  }

-- the list at a place is the client's
pub list_there : (vs : List (Vec Item Global)) (k : ℕ) (v d : Vec Item Global) → k < length vs → v ≡ slice_index_or vs k d → lists_in vs k ≡ v.items
list_there [] k v d h is = absurd (omega (arith, h))
list_there (x ∷ vs) zero v d h is = ap (λ (y : Vec Item Global). y.items) (sym is)
list_there (x ∷ vs) (suc k) v d h is = list_there vs k v d (omega (arith, h)) is

-- a list that is put at a place is the client's there, and no other's
set_same : (vs : List (Vec Item Global)) (k : ℕ) (v : Vec Item Global) → k < length vs → lists_in (slice_set vs k v) k ≡ v.items
set_same [] k v h = absurd (omega (arith, h))
set_same (x ∷ vs) zero v h = refl
set_same (x ∷ vs) (suc k) v h = set_same vs k v (omega (arith, h))

set_other : (vs : List (Vec Item Global)) (k : ℕ) (v : Vec Item Global) (j : ℕ) → (j ≡ k → ⊥) → lists_in (slice_set vs k v) j ≡ lists_in vs j
set_other [] k v j h = refl
set_other (x ∷ vs) zero v zero h = absurd (h refl)
set_other (x ∷ vs) zero v (suc j) h = refl
set_other (x ∷ vs) (suc k) v zero h = refl
set_other (x ∷ vs) (suc k) v (suc j) h = set_other vs k v j (λ e. h (ap suc e))

pub set_many : (vs : List (Vec Item Global)) (k : ℕ) (v : Vec Item Global) → length (slice_set vs k v) ≡ length vs
set_many [] k v = refl
set_many (x ∷ vs) zero v = refl
set_many (x ∷ vs) (suc k) v = ap suc (set_many vs k v)

-- the turn of a client's line
abbrev pub turn_at : NumberedLine → ℕ → List Item → Turn
turn_at l k xs = record { line = l.number; client = k; items = xs }

own_same : (l : NumberedLine) (k : ℕ) (xs : List Item) → own_in k (turn_at l k xs ∷ []) ≡ xs
own_same l k xs = elim (eqb_tells k k) [
  | inl is ↦ ap (λ (b : Bool). cond b xs [] ++ []) is.0 ∙ append-nil xs
  | inr away ↦ absurd (away.1 refl)
]

own_other : (l : NumberedLine) (k j : ℕ) (xs : List Item) → (j ≡ k → ⊥) → own_in j (turn_at l k xs ∷ []) ≡ []
own_other l k j xs away = elim (eqb_tells k j) [
  | inl is ↦ absurd (away (sym is.1))
  | inr other ↦ ap (λ (b : Bool). cond b xs [] ++ []) other.0
]

-- behind it each client has said what it had, and this one the items of the turn
pub said_turn : {V : Type 0} (G : Ghosts V) (a b : Stations V) (c d : Crowd) (l : NumberedLine) (k : ℕ) (xs : List Item) → AreLater G a b → length xs ≤ 5 → SaysOn c d a b k xs → ((j : ℕ) → j ≢ k → client_at d j ≡ client_at c j) → SayOn c d a b (turn_at l k xs ∷ [])
said_turn G a b c d l k xs later few own others j front short said = go (eqb_tells j k)
  where
    go : (((j == k) ≡ true) × (j ≡ k)) ⊎ (((j == k) ≡ false) × (j ≢ k)) → HasSaid (state_at b) j (client_at d j) (front ++ list_map item_of (own_in j (turn_at l k xs ∷ [])))
    go (inl same) =
        subst (λ (i : ℕ). HasSaid (state_at b) i (client_at d i) (front ++ list_map item_of (own_in i (turn_at l k xs ∷ [])))) (sym same.1)
        (subst (λ (ys : List Item). HasSaid (state_at b) k (client_at d k) (front ++ list_map item_of ys)) (sym (own_same l k xs))
        (own front (omega (arith, short, few)) (subst (λ (i : ℕ). HasSaid (state_at a) i (client_at c i) front) same.1 said)))
    go (inr away) =
        subst (λ (ys : List Item). HasSaid (state_at b) j (client_at d j) (front ++ list_map item_of ys)) (sym (own_other l k j xs away.1))
        (subst (HasSaid (state_at b) j (client_at d j)) (sym (append-nil front))
        (subst (λ (z : Client). HasSaid (state_at b) j z front) (sym (others j away.1)) (said_goes G a b c later j front said)))

pub few_turn : (l : NumberedLine) (k : ℕ) (xs : List Item) → length xs ≤ 5 → (j : ℕ) → length (own_in j (turn_at l k xs ∷ [])) ≤ 5
few_turn l k xs few j = go (eqb_tells j k)
  where
    go : (((j == k) ≡ true) × (j ≡ k)) ⊎ (((j == k) ≡ false) × (j ≢ k)) → length (own_in j (turn_at l k xs ∷ [])) ≤ 5
    go (inl same) = subst (λ (i : ℕ). length (own_in i (turn_at l k xs ∷ [])) ≤ 5) (sym same.1) (subst (λ (ys : List Item). length ys ≤ 5) (sym (own_same l k xs)) few)
    go (inr away) = subst (λ (ys : List Item). length ys ≤ 5) (sym (own_other l k j xs away.1)) (omega arith)

-- at the line the others stand as before
pub at_others : (c : Crowd) (k : ℕ) (l : Line) → (j : ℕ) → j ≢ k → client_at (at_line c k l) j ≡ client_at c j
at_others c k l j away = at_other c (words_at c.words l) k j (begins (client_at c k) l) away

-- the line of a client
module _ {V : Type 0} (G : Ghosts V) (servers : ℕ) (c d : Crowd) (a b : Stations V) (l : NumberedLine) (k : ℕ) (named : client_named l.line ≡ Some k) (small : k ≤ 16) (places : length c.places ≡ 17) (xs : List Item) (few : length xs ≤ 5) where
  -- what it said before the line
  from_line : (y : Stations V) → SayOn (at_line c k l.line) d a y (turn_at l k xs ∷ []) → SayOn c d a y (turn_at l k xs ∷ [])
  from_line y says = λ j front short said. says j front short (said_at_line (state_at a) c k l.line places small j front said)

  module _ (lists : List (Vec Item Global)) (v : Vec Item Global) (many : length lists ≡ 17) (is : v.items ≡ lists_in lists k ++ xs) where
    left : (j : ℕ) → (((j == k) ≡ true) × (j ≡ k)) ⊎ (((j == k) ≡ false) × (j ≢ k)) → lists_in (slice_set lists k v) j ≡ lists_in lists j ++ own_in j (turn_at l k xs ∷ [])
    left j (inl same) =
        ap (lists_in (slice_set lists k v)) same.1 ∙ set_same lists k v (omega (arith, small, many)) ∙ is
        ∙ (λ i. lists_in lists k ++ sym (own_same l k xs) i) ∙ ap (λ (i : ℕ). lists_in lists i ++ own_in i (turn_at l k xs ∷ [])) (sym same.1)
    left j (inr away) = set_other lists k v j away.1 ∙ sym (append-nil (lists_in lists j)) ∙ ap (λ (ys : List Item). lists_in lists j ++ ys) (sym (own_other l k j xs away.1))

    pub lists_now : (j : ℕ) → lists_in (slice_set lists k v) j ≡ lists_in lists j ++ own_in j (turn_at l k xs ∷ [])
    lists_now j = left j (eqb_tells j k)

  pub plays_item : (t : Option (ℕ × TransId)) (lists : List (Vec Item Global)) (v : Vec Item Global) (text now : List ℕ) → length lists ≡ 17 → v.items ≡ lists_in lists k ++ xs → now ≡ text ++ turns_text (turn_at l k xs ∷ [])
      → DidLine G servers (at_line c k l.line) d a b k l next.Call xs t → PlaysOn G servers c d a b l lists (slice_set lists k v) text now
  plays_item t lists v text now many is told did = record {
    step = did.step;
    turns = turn_at l k xs ∷ [];
    hs = did.hs;
    goes = did.goes;
    plays = subst (λ (o : Option ℕ). PlaysOwn servers c l o (turn_at l k xs ∷ []) did.hs d) (sym named) (xs, t, refl, did.number, did.sends);
    places = set_many lists k v;
    lists = lists_now lists v many is;
    few = few_turn l k xs few;
    said = from_line b (said_turn G a b (at_line c k l.line) d l k xs did.goes.later few did.said did.others);
    text = told;
  }

  pub begins_item : (f : RunFault) (lists now : List (Vec Item Global)) (text told : List ℕ) → length now ≡ length lists → ((j : ℕ) → lists_in now j ≡ lists_in lists j ++ own_in j (turn_at l k xs ∷ [])) → told ≡ text → DidOfLine G f servers (at_line c k l.line) d a b k l next.Call xs
      → BeginsOn G f servers c d a b l lists now text told
  begins_item f lists now text told many are same h = record {
    turns = turn_at l k xs ∷ [];
    at_end = h.at_end;
    hs = h.hs;
    due = h.due;
    goes = h.goes;
    ends = h.ends;
    left = h.left;
    begins = subst (λ (o : Option ℕ). BeginsOwn servers c l o (turn_at l k xs ∷ []) h.hs h.due d) (sym named) (xs, refl, h.number, h.sends);
    places = many;
    lists = are;
    one = omega arith;
    few = few_turn l k xs few;
    said = from_line h.at_end (said_turn G a h.at_end (at_line c k l.line) d l k xs h.goes.later few h.said h.others);
    text = same;
  }

-- a line that sent nothing has no item
pub no_items : (l : NumberedLine) (k : ℕ) (lists : List (Vec Item Global)) (j : ℕ) → lists_in lists j ≡ lists_in lists j ++ own_in j (turn_at l k [] ∷ [])
no_items l k lists j = sym (append-nil (lists_in lists j)) ∙ ap (λ (ys : List Item). lists_in lists j ++ ys) (sym (nothing (eqb_tells j k)))
  where
    nothing : (((j == k) ≡ true) × (j ≡ k)) ⊎ (((j == k) ≡ false) × (j ≢ k)) → own_in j (turn_at l k [] ∷ []) ≡ []
    nothing (inl same) = ap (λ (i : ℕ). own_in i (turn_at l k [] ∷ [])) same.1 ∙ own_same l k []
    nothing (inr away) = own_other l k j [] away.1

-- ---- and what is carried behind it

module _ {V : Type 0} (G : Ghosts V) (servers : ℕ) (c d : Crowd) (a b : Stations V) (l : NumberedLine) (lists now : List (Vec Item Global)) (text printed : List ℕ) (h : PlaysOn G servers c d a b l lists now text printed) where
  said_behind : (y : Stations V) → AreLater G b y → SayOn c d a y h.turns
  said_behind y later = λ k front short said. said_goes G b y d later k (front ++ list_map item_of (own_in k h.turns)) (h.said k front short said)

  pub adds : (z : Stations V) → Did G (CarriesIf servers d.settings.collects) b z → Adds G servers c d a z l lists now text printed
  adds z carried = record {
    step = in_step_later G d b z h.step carried.goes.later;
    turns = h.turns;
    hs = h.hs ++ carried.hs;
    goes = go_then G h.hs carried.hs a b z h.goes carried.goes;
    plays = record { by_line = h.hs; carried = carried.hs; are = refl; plays = h.plays; carries = carried.word };
    places = h.places;
    lists = h.lists;
    few = h.few;
    said = said_behind z carried.goes.later;
    text = h.text;
  }

  pub adds_some : (f : RunFault) (z : Stations V) → DidSome G (CarriesIf servers d.settings.collects) f b z → AddsSome G f servers c d a z l lists now text printed
  adds_some f z cut = record {
    turns = h.turns;
    at_end = cut.at_end;
    hs = h.hs ++ cut.hs;
    due = cut.due;
    goes = go_then G h.hs cut.hs a b cut.at_end h.goes cut.goes;
    ends = cut.ends;
    left = cut.left;
    begins = inr (h.hs, cut.hs, refl, h.plays, cut.cut);
    places = h.places;
    lists = h.lists;
    few = h.few;
    said = said_behind cut.at_end cut.goes.later;
    text = record { told = h.turns; untold = []; are = sym (append-nil h.turns); few = omega arith; text = h.text };
  }

-- a line that is not over
pub adds_begun : {V : Type 0} (G : Ghosts V) (f : RunFault) (servers : ℕ) (c d : Crowd) (a b : Stations V) (l : NumberedLine) (lists now : List (Vec Item Global)) (text told : List ℕ) → BeginsOn G f servers c d a b l lists now text told → AddsSome G f servers c d a b l lists now text told
adds_begun G f servers c d a b l lists now text told h = record {
  turns = h.turns;
  at_end = h.at_end;
  hs = h.hs;
  due = h.due;
  goes = h.goes;
  ends = h.ends;
  left = h.left;
  begins = inl h.begins;
  places = h.places;
  lists = h.lists;
  few = h.few;
  said = h.said;
  text = record { told = []; untold = h.turns; are = refl; few = h.one; text = h.text ∙ sym (append-nil text) };
}
