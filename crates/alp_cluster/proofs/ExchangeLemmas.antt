-- a client sends, the server answers, and all stay in step
use Rattle.std.specs.Prelude.{◌==◌, true, false, Bool, Option, None, Some, IfSome, Ok, IfOk}
use Rattle.std.specs.FinMap as map
use Rattle.std.specs.Option.{option_map}
use Rattle.std.proofs.Common.{inl, inr, ◌⊎◌, ◌≡◌, ◌≢◌, ℕ, ◌≤◌, List, [], ◌∷◌, ◌++◌, length, append-nil, refl, sym, ◌∙◌, ap, subst, arith}
use Rattle.std.proofs.lemmas.Bool.Decides.{eqb_tells}
use Rattle.std.proofs.lemmas.Result.{IfOk-weaker}
use Rattle.alp_fields.specs.Forms.{whole}
use Rattle.alp_files.specs.declared.reply.Reply.{Reply}
use Rattle.alp_lines.specs.declared.line.Line.{Line}
use Rattle.alp_lines.specs.Forms.{IsForm}
use Rattle.alp_script.specs.declared.numbered.NumberedLine.{NumberedLine}
use Rattle.alp_journal.specs.declared.entry.Entry.{Entry}
use Rattle.alp_journal.specs.declared.log.Item.{Item}
use Rattle.alp_journal.specs.declared.log.Mark.{Mark}
use Rattle.alp_journal.specs.declared.log.Mark.TheVariants as mark
use Rattle.alp_journal.specs.declared.log.Sent.{Sent}
use Rattle.alp_journal.specs.declared.log.Sent.TheVariants as sent
use Rattle.alp_history.specs.Items as items
use Rattle.alp_history.specs.RunLogs.{item_of, sent_of}
use Rattle.alp_history.specs.RunLogs as runs
use Rattle.alp_rpc.specs.Frames.{request}
use Rattle.alp_rpc.specs.declared.frame.Request.{Request}
use Rattle.alp_session.specs.Maps.{WordMap}
use Rattle.alp_session.specs.declared.client.Client.{Client}
use Rattle.alp_session.specs.declared.frames.Addressed.{Addressed}
use Rattle.alp_session.specs.declared.greeted.Greeted.{Greeted}
use Rattle.alp_session.specs.declared.waiting.Next.{Next}
use Rattle.alp_session.specs.declared.waiting.Next.TheVariants as next
use Rattle.alp_session.specs.declared.waiting.Settings.{Settings}
use Rattle.alp_session.specs.Calls.{asking_for}
use Rattle.alp_session.specs.Frames.{request_in, mark_of, read_as, told_by}
use Rattle.alp_session.specs.Heard.{heard, heard_own, heard_again, keeps, words_heard}
use Rattle.alp_session.specs.Crowd.{Crowd}
use Rattle.alp_session.specs.Crowds.{client_at, with_client, request_next, asks, hears}
use Rattle.alp_session.proofs.CrowdLemmas.{at_same, at_other, as_many}
use Rattle.alp_node.specs.NodeStates.{NodeState}
use Rattle.alp_vault.specs.declared.vault.Vault.{Ghosts}
use Rattle.alp_cluster.specs.Exchanges.{event_of, place_for, IsAsked, IsTurnedAway, IsHanded, TellsReply}
use Rattle.alp_cluster.specs.Goes.{IsLater, GoesBy}
use Rattle.alp_cluster.specs.Handings.{item_made, AreHanded}
use Rattle.alp_cluster.specs.Stations.{AreLater, state_at}
use Rattle.alp_cluster.specs.declared.stations.Stations.{Stations}
use Rattle.alp_course.specs.Happens.{sent_it, Takes, Happens, handed_for}
use Rattle.alp_cluster.specs.Servers.{IsOn, IsFree, stand_of}
use Rattle.alp_cluster.specs.Clients.{States, come_in, IsInStep, InStep, HasSaid, IsShort}
use Rattle.alp_cluster.specs.Steps.{IsOwnNext, Exchanged}
use Rattle.alp_cluster.specs.declared.exchange.Handed.{Handed}
use Rattle.alp_cluster.proofs.CallLemmas.{asked_line, IsOwn, IsAgain, IsAsIs, IsSent, own_frame, frame_again, bytes_as_are, own_asked, sent_here}
use Rattle.alp_cluster.proofs.GoLemmas.{StepMade, step_made, Made, later_same}
use Rattle.alp_cluster.proofs.HeardLemmas.{Hears, hears_of}
use Rattle.alp_cluster.proofs.OwnLemmas.{Hands, GoOn, step_later, greeting_hands, call_hands, again_hands}
use Rattle.alp_cluster.proofs.SaidLemmas.{item_at, said_raw}

-- ---- all clients stay in step

module _ {V : Type 0} (G : Ghosts V) (c : Crowd) (before after : Stations V) (words : WordMap) (k : ℕ) (d : Client) (step : InStep G c before) (small : k ≤ 16) (later : AreLater G before after) (mine : IsInStep (state_at after) k d) where
  each_in_step : (j : ℕ) → IsInStep (state_at after) j (client_at (with_client c words k d) j)
  each_in_step j = go (eqb_tells j k)
    where
      go : (((j == k) ≡ true) × (j ≡ k)) ⊎ (((j == k) ≡ false) × (j ≢ k)) → IsInStep (state_at after) j (client_at (with_client c words k d) j)
      go (inl same) =
          subst (λ (i : ℕ). IsInStep (state_at after) i (client_at (with_client c words k d) i)) (sym same.1)
          (subst (λ (x : Client). IsInStep (state_at after) k x) (sym (at_same c words k d (omega (arith, step.places, small)))) mine)
      go (inr other) =
          subst (λ (x : Client). IsInStep (state_at after) j x) (sym (at_other c words k j d other.1))
          (step_later (state_at before) (state_at after) j (client_at c j) (client_at c j) (λ n a. later.reached n j a) (λ n. refl) refl refl (step.each j))

  pub with_one : InStep G (with_client c words k d) after
  with_one = record { on = later.on; places = as_many c words k d ∙ step.places; each = each_in_step }

-- where nobody is told anything
pub in_step_later : {V : Type 0} (G : Ghosts V) (c : Crowd) (before after : Stations V) → InStep G c before → AreLater G before after → InStep G c after
in_step_later G c before after step later = record {
  on = later.on;
  places = step.places;
  each = λ j. step_later (state_at before) (state_at after) j (client_at c j) (client_at c j) (λ n a. later.reached n j a) (λ n. refl) refl refl (step.each j);
}

-- ---- what comes of a frame at the server

-- what the server made of it
pub record IsServed {V : Type 0} (G : Ghosts V) (n m : NodeState V) (k server : ℕ) (h : Handed) : Type 0 where
  pub later : IsLater G n m
  pub told : TellsReply h
  pub goes : (line : ℕ) (w : Mark) (f tells : Bool) → IsFree G f n → GoesBy G f f (λ v es x. Happens tells v (sent_it k (item_made line server w h)) es x) n m

module _ {V : Type 0} (G : Ghosts V) (n m : NodeState V) (k server : ℕ) (h : Handed) (on : IsOn G n) (here : server ≡ n.kept.server) where
  -- the bytes that are handed back tell the reply
  tells_reply : (epoch client number : ℕ) → IfOk h.bytes (λ b. b ≡ handed_for epoch client number h.reply) → told_by (handed_for epoch client number h.reply) ≡ h.reply → TellsReply h
  tells_reply epoch client number bytes told = IfOk-weaker h.bytes _ _ (λ b is. ap told_by is ∙ told) bytes

  -- it is a call
  call_takes : (line : ℕ) (w : Mark) (f b : Bool) (q : Request) (es : List Entry) → n.kept.is_down ≡ b → told_by (handed_for n.kept.epoch q.client q.number h.reply) ≡ h.reply → h.place ≡ place_for b (length n.journal)
      → Made G n m f b (event_of q) h.reply es → Takes (stand_of G f n) k (item_made line server w h) b (sent.Call q.client q.epoch q.number q.call) es (stand_of G f m)
  call_takes line w f true q es down told place made = record { none = made.0; place = place; reply = made.1; told = told }
  call_takes line w f false q es up told place made = record {
    made = made.0;
    place = place;
    reply = made.1;
    told = ap (λ (r : Option Reply). told_by (handed_for n.kept.epoch q.client q.number r)) made.1 ∙ told;
  }

  asked_served : (q : Request) → IsAsked G n m q h → IsServed G n m k server h
  asked_served q a =
      let s : StepMade G n m (event_of q) h.reply = step_made G n m (event_of q) h.reply on a.served a.steps in
      record {
        later = s.later;
        told = tells_reply n.kept.epoch q.client q.number a.bytes a.told;
        goes = λ line w f tells free. record {
          later = s.later;
          free = s.free f free;
          entries = s.entries;
          journal = s.journal;
          made = (
            here,
            subst (λ (x : Sent). Takes (stand_of G f n) k (item_made line server w h) n.kept.is_down x s.entries (stand_of G f m)) (sym a.sent)
                (call_takes line w f n.kept.is_down q s.entries refl a.told a.place (s.made f free)),
          );
        };
      }

  away_served : (frame : List ℕ) → IsTurnedAway n m k frame h → IsServed G n m k server h
  away_served frame a = subst (λ (z : NodeState V). IsServed G n z k server h) (sym a.still) (record {
    later = later_same G n on;
    told = tells_reply n.kept.epoch k 1 a.bytes a.told;
    goes = λ line w f tells free. record {
      later = later_same G n on;
      free = free;
      entries = [];
      journal = sym (append-nil n.journal);
      made = (
        here,
        subst (λ (x : Sent). Takes (stand_of G f n) k (item_made line server w h) n.kept.is_down x [] (stand_of G f n)) (sym a.sent)
            (record { none = (refl, refl); place = a.place; reply = a.reply; told = a.told }),
      );
    };
  })

  pub handed_served : (frame : List ℕ) (o : Option Request) → IsHanded G n m k frame o h → IsServed G n m k server h
  handed_served frame None a = away_served frame a
  handed_served frame (Some q) a = asked_served q a

-- ---- what comes of it for the client

-- its item, as its list has it, and what it knows then
record IsOfClient {V : Type 0} (s t : States V) (words : WordMap) (settings : Settings) (k : ℕ) (d : Client) (l : Line) (now : Next) (frame : Addressed) (w : Mark) (h : Handed) : Type 0 where
  step : IsInStep t k (heard words settings d l now frame h.reply).0
  said : (xs : List items.Item) (line : ℕ) → IsShort xs → HasSaid s k d xs → HasSaid t k (heard words settings d l now frame h.reply).0 (xs ++ item_of (item_made line frame.server w h) ∷ [])

module _ {V : Type 0} (G : Ghosts V) (n m : NodeState V) (s t : States V) (words : WordMap) (settings : Settings) (k : ℕ) (d : Client) (l : Line) (now : Next) (frame : Addressed) (w : Mark) (h : Handed) (was : s frame.server ≡ Some n.kept) (now_is : t frame.server ≡ Some m.kept) (on_all : GoOn s t k)
    (on : IsOn G n) (step : IsInStep s k d) (form : IsForm l) (marks : w ≡ mark_of l) (handed : IsHanded G n m k frame.bytes (whole request frame.bytes) h) where
  -- it spells this request
  asked_as : (q : Request) → whole request frame.bytes ≡ Some q → IsAsked G n m q h
  asked_as q is = subst (λ (o : Option Request). IsHanded G n m k frame.bytes o h) is handed

  item_is : (mk : Mark) (x : items.Mark) (q : Request) → w ≡ mk → runs.mark_of mk ≡ x → q.client ≡ k → IsAsked G n m q h → (line : ℕ) → item_of (item_made line frame.server w h) ≡ item_at frame.server x k q.epoch q.number q.call h.reply h.place
  item_is mk x q marked is client a line =
      let sent_is : sent_of h.sent ≡ Some (record { client = k; epoch = q.epoch; number = q.number; call = q.call }) = ap sent_of a.sent ∙ ap (λ (j : ℕ). Some (record { client = j; epoch = q.epoch; number = q.number; call = q.call })) client in
      (λ i. record { server = frame.server; mark = (ap runs.mark_of marked ∙ is) i; sent = sent_is i; reply = h.reply; place = h.place })

  of_hands : (x : items.Mark) (q : Request) (e : Client) → (heard words settings d l now frame h.reply).0 ≡ e → ((line : ℕ) → item_of (item_made line frame.server w h) ≡ item_at frame.server x k q.epoch q.number q.call h.reply h.place)
      → Hands s t k d e (item_at frame.server x k q.epoch q.number q.call h.reply h.place) → IsOfClient s t words settings k d l now frame w h
  of_hands x q e is item hands = record {
    step = subst (IsInStep t k) (sym is) hands.step;
    said = λ xs line short said. subst (λ (i : items.Item). HasSaid t k (heard words settings d l now frame h.reply).0 (xs ++ i ∷ [])) (sym (item line))
        (subst (λ (z : Client). HasSaid t k z (xs ++ item_at frame.server x k q.epoch q.number q.call h.reply h.place ∷ [])) (sym is) (hands.said xs short said));
  }

  -- its own frame, by what it takes for its session
  abbrev asks_by : IsOwn words settings k d l now frame → Option Greeted → Request
  asks_by own o = request_in k d (asked_line k l now) o own.call

  own_by : (own : IsOwn words settings k d l now frame) (o : Option Greeted) → map.get d.sessions frame.server ≡ o → IsAsked G n m (asks_by own o) h → whole request frame.bytes ≡ Some (asks_by own o)
      → Hands s t k d (keeps (heard_own words settings d frame.server o l now h.reply).0 frame) (item_at frame.server items.Own k (asks_by own o).epoch (asks_by own o).number (asks_by own o).call h.reply h.place)
  own_by own None is a spelled =
      greeting_hands frame.server s t n.kept m.kept was now_is k d now frame h.place on_all step own.asked refl (ap (option_map come_in) is) spelled h.reply (hears_of G n m (asks_by own None) h.reply on a.served a.steps)
  own_by own (Some g) is a spelled =
      call_hands frame.server s t n.kept m.kept was now_is k d words settings l now frame h.place own.call (asking_for g.joined d.trans (asked_line k l now) next.Call) on_all step own.asked refl form own.is g (ap (option_map come_in) is) h.reply
      (hears_of G n m (asks_by own (Some g)) h.reply on a.served a.steps) spelled

  own_client : IsOwn words settings k d l now frame → IsOfClient s t words settings k d l now frame w h
  own_client own =
      let o : Option Greeted = map.get d.sessions frame.server in
      let q : Request = asks_by own o in
      let a : IsAsked G n m q h = asked_as q own.spelled in
      of_hands items.Own q (keeps (heard_own words settings d frame.server o l now h.reply).0 frame) (ap (λ (p : Client × Next). p.0) (own.hears h.reply)) (item_is mark.Own items.Own q (marks ∙ own.mark) refl (own_asked k d (asked_line k l now) o own.call) a)
      (own_by own o refl a own.spelled)

  again_client : IsAgain s words settings k d l now frame → IsOfClient s t words settings k d l now frame w h
  again_client old =
      let q : Request = old.again in
      let a : IsAsked G n m q h = asked_as q old.spelled in
      let heard_it : Hears n.kept m.kept q h.reply = hears_of G n m q h.reply on a.served a.steps in
      of_hands items.Repeated q (heard_again d frame.server h.reply) (ap (λ (p : Client × Next). p.0) (old.hears h.reply)) (item_is mark.Repeated items.Repeated q (marks ∙ old.mark) refl old.client a)
      (again_hands frame.server s t k d q h.reply h.place on_all step heard_it.times old.past old.known old.client)

  raw_client : IsAsIs words settings d l now frame → IsOfClient s t words settings k d l now frame w h
  raw_client raw =
      let is : (heard words settings d l now frame h.reply).0 ≡ d = ap (λ (p : Client × Next). p.0) (raw.hears h.reply) in
      let marked : runs.mark_of w ≡ items.Raw = ap runs.mark_of (marks ∙ raw.mark) in
      record {
        step = subst (IsInStep t k) (sym is) (step_later s t k d d on_all (λ j. refl) refl refl step);
        said = λ xs line short said. subst (λ (z : Client). HasSaid t k z (xs ++ item_of (item_made line frame.server w h) ∷ [])) (sym is)
            (subst (λ (x : items.Mark). HasSaid t k d (xs ++ (record { server = frame.server; mark = x; sent = sent_of h.sent; reply = h.reply; place = h.place }) ∷ [])) (sym marked)
            (said_raw s t k d xs frame.server (sent_of h.sent) h.reply h.place on_all said));
      }

  of_client : IsSent s words settings k d l now frame → IsOfClient s t words settings k d l now frame w h
  of_client (own_frame own) = own_client own
  of_client (frame_again old) = again_client old
  of_client (bytes_as_are raw) = raw_client raw

-- ---- all of it

sent_is : {V : Type 0} (G : Ghosts V) (n m : NodeState V) (k : ℕ) (frame : List ℕ) (h : Handed) (o : Option Request) → IsHanded G n m k frame o h → h.sent ≡ read_as frame o
sent_is G n m k frame h None a = a.sent
sent_is G n m k frame h (Some q) a = a.sent

module _ {V : Type 0} (G : Ghosts V) (c : Crowd) (before after : Stations V) (k : ℕ) (l : NumberedLine) (now : Next) (frame : Addressed) (h : Handed) (step : InStep G c before) (small : k ≤ 16) (form : IsForm l.line) (asked : asks c k l.line now ≡ Some frame)
    (fits : IfSome (request_next c k l.line now) request.Fits) (owns : IsOwnNext l.line now) (a : AreHanded G frame.server k frame.bytes h before after) where
  -- the bytes that the client is handed tell the reply
  pub told_here : (b : Option (List ℕ)) → h.bytes ≡ Ok b → told_by b ≡ h.reply
  told_here b is = subst (λ r. IfOk r (λ (x : Option (List ℕ)). told_by x ≡ h.reply)) is (handed_served G a.was a.is k frame.server h a.on (sym a.number) frame.bytes (whole request frame.bytes) a.handed).told

  pub exchanged : (new : Crowd) (behind : Next) (w : Mark) → (new, behind) ≡ hears c k l.line now frame h.reply → w ≡ mark_of l.line → Exchanged G c new before after k l now frame behind (item_made l.number frame.server w h)
  exchanged new behind w knows marks =
      let d : Client = client_at c k in
      let goes = a.goes l.number w in
      let later : AreLater G before after = goes.later in
      let kind : IsSent (state_at before) c.words c.settings k d l.line now frame = sent_here (state_at before) c k l.line now frame (step.each k).frames (step.each k).past asked fits owns in
      let mine : IsOfClient (state_at before) (state_at after) c.words c.settings k d l.line now frame w h =
      of_client G a.was a.is (state_at before) (state_at after) c.words c.settings k d l.line now frame w h a.stood a.stands (λ n x. later.reached n k x) a.on (step.each k) form marks a.handed kind in
      let words : WordMap = words_heard c.words d l.line now frame.server h.reply in
      let e : Client = (heard c.words c.settings d l.line now frame h.reply).0 in
      let left : new ≡ with_client c words k e = ap (λ (p : Crowd × Next). p.0) knows in
      let client_is : client_at new k ≡ e = ap (λ (z : Crowd). client_at z k) left ∙ at_same c words k e (omega (arith, step.places, small)) in
      record {
        step = subst (λ (z : Crowd). InStep G z after) (sym left) (with_one G c before after words k e step small later mine.step);
        goes = goes;
        number = refl;
        sent = record { server = refl; mark = marks; sent = sent_is G a.was a.is k frame.bytes h (whole request frame.bytes) a.handed };
        heard = sym knows;
        said = λ xs short said. subst (λ (z : Client). HasSaid (state_at after) k z (xs ++ item_of (item_made l.number frame.server w h) ∷ [])) (sym client_is) (mine.said xs l.number short said);
      }
