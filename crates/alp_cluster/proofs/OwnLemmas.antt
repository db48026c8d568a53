-- what comes of a frame for its client: it stays in step with the servers, and its list goes on
use Rattle.std.specs.Prelude.{true, false, Bool, Option, None, Some, IfSome}
use Rattle.std.specs.FinMap as map
use Rattle.std.specs.List.{AllByRecursion}
use Rattle.std.specs.Option.{option_map}
use Rattle.std.proofs.Common.{inl, inr, ◌⊎◌, ◌≡◌, ℕ, ◌+◌, ◌<◌, ◌≤◌, ◌^◌, List, [], ◌∷◌, ◌++◌, refl, sym, ◌∙◌, ap, subst, arith}
use Rattle.alp_base.specs.declared.ids.Stamp.{Stamp}
use Rattle.alp_base.specs.declared.ids.TransId.{TransId}
use Rattle.alp_fields.specs.Forms.{whole}
use Rattle.alp_files.specs.declared.call.Call.{Call}
use Rattle.alp_files.specs.declared.call.Call.TheVariants as call
use Rattle.alp_files.specs.declared.reply.Reply.{Reply}
use Rattle.alp_files.specs.declared.reply.Reply.TheVariants as reply
use Rattle.alp_files.specs.declared.reply.Ended.TheVariants as ended
use Rattle.alp_files.specs.declared.refusal.Refusal.TheVariants as refusal
use Rattle.alp_lines.specs.declared.line.Line.{Line}
use Rattle.alp_lines.specs.Forms.{IsForm}
use Rattle.alp_history.specs.Items.{Item, Own, Repeated, stamps_in, stamps_of_reply}
use Rattle.alp_history.specs.Handed.{HasSeenBy}
use Rattle.alp_rpc.specs.Frames.{request}
use Rattle.alp_rpc.specs.declared.frame.Request.{Request}
use Rattle.alp_session.specs.Maps.{WordMap}
use Rattle.alp_session.specs.declared.client.Client.{Client}
use Rattle.alp_session.specs.declared.asking.Asking.{Asking}
use Rattle.alp_session.specs.declared.frames.Addressed.{Addressed}
use Rattle.alp_session.specs.declared.greeted.Greeted.{Greeted}
use Rattle.alp_session.specs.declared.frames.Frames.{Frames}
use Rattle.alp_session.specs.declared.waiting.Next.{Next}
use Rattle.alp_session.specs.declared.waiting.Settings.{Settings}
use Rattle.alp_session.specs.Calls.{call_by, asking_for, call_asked}
use Rattle.alp_session.specs.Frames.{number_after, IsRequestOf}
use Rattle.alp_session.specs.Heard.{greeted, answered, counted, heard_own, heard_again, keeps}
use Rattle.alp_session.proofs.FrameLemmas.{again_stays, own_stays, kept_as, kept_more}
use Rattle.alp_node.specs.Turns.{TellsUpTo, is_greeting}
use Rattle.alp_node.specs.declared.server_state.ServerState.{ServerState}
use Rattle.std.specs.Prelude.{◌≢◌}
use Rattle.std.proofs.lemmas.Bool.{cases_eq}
use Rattle.alp_cluster.specs.Come.{Come, IsReached}
use Rattle.alp_cluster.specs.Stations.{IsReachedBy}
use Rattle.alp_cluster.specs.Clients.{States, session_of, IsWithin, HasReached, come_in, IsPastRequest, IsPastCall, SpellsPast, KeepsPast, IsInStep, IsOwnTurn, AsksOfTold, SpellsOfTold, HasSentFor, HasSaid, IsShort}
use Rattle.alp_cluster.proofs.AskLemmas.{line_no_greeting, line_has_seen, line_asks_of, asked_in}
use Rattle.alp_cluster.proofs.CallLemmas.{asked_line, asked_form}
use Rattle.alp_cluster.proofs.ComeLemmas.{come_by_has, own_turn, again_turn, after_small, after_most, within_more, below_more, up_to_self}
use Rattle.alp_cluster.proofs.HeardLemmas.{Hears, Greets, welcome, silent, is_down, greets, own_reached}
use Rattle.alp_cluster.proofs.KnowLemmas.{Knows, asked_at, answered_knows, again_knows, counted_session, counted_elsewhere}
use Rattle.alp_cluster.proofs.PlaceLemmas.{put_there, put_elsewhere}
use Rattle.alp_cluster.proofs.SaidLemmas.{KnowsOf, item_at, said_more}

-- the client is in step then, and its list has the item more
pub record Hands {V : Type 0} (s t : States V) (k : ℕ) (c d : Client) (x : Item) : Type 0 where
  pub step : IsInStep t k d
  pub said : (xs : List Item) → IsShort xs → HasSaid s k c xs → HasSaid t k d (xs ++ x ∷ [])

-- what servers had come to they have come to still
abbrev pub GoOn : {V : Type 0} → (s t : States V) → ℕ → Type 0
GoOn s t k = (j : ℕ) (a : Come) → IsReachedBy (s j) k a → IsReachedBy (t j) k a

-- ---- frames that may be sent again

same_request : (a b : Request) → ◌≡◌ {A = Option Request} (Some a) (Some b) → a ≡ b
same_request a b e = cc

-- what is within one session is within the other
abbrev Carries : {V : Type 0} → Option (ServerState V) → ℕ → Option Come → Option Come → Type 0
Carries s k a b = (x : Come) → IsWithin a x → IsReachedBy s k x → IsWithin b x

-- a frame that spells a request that is past at its server
abbrev IsPastAt : {V : Type 0} → States V → ℕ → Client → Option Addressed → Type 0
IsPastAt s k c f = IfSome f (λ z. SpellsPast (s z.server) k (session_of z.server c) z.bytes)

past_call : {V : Type 0} (s t : Option (ServerState V)) (k : ℕ) (a b : Option Come) (on : (x : Come) → IsReachedBy s k x → IsReachedBy t k x) (carries : Carries s k a b) (x : Come) (c : Call) → IsPastCall s k a x c → IsPastCall t k b x c
past_call s t k a b on carries x (call.Hello name) h = tt
past_call s t k a b on carries x c h = (h.0, carries x h.1 h.2, on x h.2)

module _ {V : Type 0} (s t : States V) (k : ℕ) (c d : Client) (on : GoOn s t k) (carries : (j : ℕ) → Carries (s j) k (session_of j c) (session_of j d)) where
  past_on : (o : Option Addressed) → IsPastAt s k c o → IsPastAt t k d o
  past_on None h = tt
  past_on (Some f) h = λ r e. past_call (s f.server) (t f.server) k (session_of f.server c) (session_of f.server d) (on f.server) (carries f.server) (record { epoch = r.epoch; number = r.number }) r.call (h r e)

  pub keeps_past : d.frames ≡ c.frames → KeepsPast s k c → KeepsPast t k d
  keeps_past frames h = record {
    last = subst (λ (f : Frames). IsPastAt t k d f.last) (sym frames) (past_on c.frames.last h.last);
    before = subst (λ (f : Frames). IsPastAt t k d f.before) (sym frames) (past_on c.frames.before h.before);
  }

has_reached : {V : Type 0} (s t : Option (ServerState V)) (k : ℕ) (o : Option Come) → ((a : Come) → IsReachedBy s k a → IsReachedBy t k a) → HasReached s k o → HasReached t k o
has_reached s t k None on h = tt
has_reached s t k (Some g) on h = (h.0, h.1, on g h.2)

-- a client that nothing is said to stays in step as the servers go on
pub step_later : {V : Type 0} (s t : States V) (k : ℕ) (c d : Client) → GoOn s t k → ((j : ℕ) → session_of j d ≡ session_of j c) → d.told ≡ c.told → d.frames ≡ c.frames → IsInStep s k c → IsInStep t k d
step_later s t k c d on session told frames h = record {
  session = λ j. subst (HasReached (t j) k) (sym (session j)) (has_reached (s j) (t j) k (session_of j c) (on j) (h.session j));
  told = (let same : d.told.ts ≡ c.told.ts = ap (λ (x : Stamp). x.ts) told in omega (arith, same, h.told));
  frames = kept_as k c d frames h.frames;
  past = keeps_past s t k c d on (λ j x within reached. subst (λ (o : Option Come). IsWithin o x) (sym (session j)) within) frames h.past;
}

spells_one : {V : Type 0} (t : Option (ServerState V)) (k : ℕ) (o : Option Come) (frame : List ℕ) (q : Request) → whole request frame ≡ Some q → IsPastRequest t k o q → SpellsPast t k o frame
spells_one t k o frame q is past r e = subst (IsPastRequest t k o) (same_request q r (sym is ∙ e)) past

spells_of : (xs : List Item) (frame : List ℕ) (q : Request) → whole request frame ≡ Some q → AsksOfTold xs q.call → SpellsOfTold xs frame
spells_of xs frame q is of r e = subst (λ (z : Request). AsksOfTold xs z.call) (same_request q r (sym is ∙ e)) of

-- ---- a frame of its own

-- What the client `d` knows behind the answer of a server, before it keeps the frame.
record OwnStep {V : Type 0} (n : ℕ) (s t : States V) (k : ℕ) (c d : Client) (q : Request) (r : Option Reply) : Type 0 where
  carries : Carries (s n) k (session_of n c) (session_of n d)
  session : HasReached (t n) k (session_of n d)
  elsewhere : (j : ℕ) → j ≢ n → session_of j d ≡ session_of j c
  low : d.told.ts ≤ 2 ^ 62
  past : IsPastRequest (t n) k (session_of n d) q
  turn : (a : Come) (i : ℕ) → i + 4 < 2 ^ 32 → HasSentFor i (session_of n c) → IsWithin (session_of n c) a → IsOwnTurn a (record { epoch = q.epoch; number = q.number }) q.call
  mine : is_greeting q.call ≡ false → IsWithin (session_of n d) (record { epoch = q.epoch; number = q.number }) × IsReachedBy (t n) k (record { epoch = q.epoch; number = q.number })
  many : (i : ℕ) → HasSentFor i (session_of n c) → HasSentFor (i + 1) (session_of n d)
  told : c.told.ts ≤ d.told.ts
  stamps : AllByRecursion (λ (x : Stamp). x.ts ≤ d.told.ts) (stamps_of_reply r)
  seen : (all : List Stamp) → AllByRecursion (λ (x : Stamp). x.ts ≤ c.told.ts) all → HasSeenBy all q.call
  begun : (d.begun ≡ c.begun) ⊎ ((u : TransId) × (r ≡ Some (reply.Begun u)) × (d.begun ≡ Some u))
  asks : (xs : List Item) → KnowsOf c xs → AsksOfTold xs q.call
  frames : d.frames ≡ c.frames

-- of all servers, where it is so of one
at_each : (n : ℕ) (P : ℕ → Type 0) → P n → ((j : ℕ) → j ≢ n → P j) → (j : ℕ) → P j
at_each n P here elsewhere j = elim (cases_eq j n) [
  | inl same ↦ subst P (sym same) here
  | inr away ↦ elsewhere j away
]

own_hands : {V : Type 0} (n : ℕ) (s t : States V) (k : ℕ) (c d : Client) (epoch number : ℕ) (x : Call) (r : Option Reply) (frame : Addressed) (place : Option ℕ) → GoOn s t k → IsInStep s k c → IsRequestOf k frame.bytes → frame.server ≡ n
    → whole request frame.bytes ≡ Some (record { client = k; epoch = epoch; number = number; call = x }) → OwnStep n s t k c d (record { client = k; epoch = epoch; number = number; call = x }) r
    → Hands s t k c (keeps d frame) (item_at n Own k epoch number x r place)
own_hands n s t k c d epoch number x r frame place on h own at spelled o =
    let q : Request = record { client = k; epoch = epoch; number = number; call = x } in
    let b : Come = record { epoch = epoch; number = number } in
    let carries : (j : ℕ) → Carries (s j) k (session_of j c) (session_of j d) =
    at_each n (λ j. Carries (s j) k (session_of j c) (session_of j d)) o.carries (λ j away y within reached. subst (λ (z : Option Come). IsWithin z y) (sym (o.elsewhere j away)) within) in
    let old : KeepsPast t k d = keeps_past s t k c d on carries o.frames h.past in
    record {
      step = record {
        session = at_each n (λ j. HasReached (t j) k (session_of j d)) o.session (λ j away. subst (HasReached (t j) k) (sym (o.elsewhere j away)) (has_reached (s j) (t j) k (session_of j c) (on j) (h.session j)));
        told = o.low;
        frames = kept_more k c d frame o.frames h.frames own;
        past = record { last = subst (λ (j : ℕ). SpellsPast (t j) k (session_of j d) frame.bytes) (sym at) (spells_one (t n) k (session_of n d) frame.bytes q spelled o.past); before = old.last };
      };
      said = λ xs short said. said_more n s t Own k c (keeps d frame) epoch number x r place xs
          (record {
            turn = λ a i small many within reached. (refl, o.turn a i small many within);
            within = λ a within reached. come_by_has (IsWithin (session_of n d)) a b x (o.carries a within reached) (λ other. (o.mine other).0);
            reached = λ a within reached. come_by_has (IsReachedBy (t n) k) a b x (on n a reached) (λ other. (o.mine other).1);
            many = o.many;
            elsewhere = o.elsewhere;
            later = on;
            told = o.told;
            stamps = o.stamps;
            seen = o.seen;
            begun = o.begun;
            last = λ zs knows. spells_of zs frame.bytes q spelled (o.asks zs knows);
            before = λ zs knows. subst (λ (f : Frames). IfSome f.last (λ z. SpellsOfTold zs z.bytes)) (sym o.frames) knows.last;
            outcome = o.asks;
          })
          short said;
    }

-- ---- a greeting

module _ {V : Type 0} (n : ℕ) (s t : States V) (s0 t0 : ServerState V) (was : s n ≡ Some s0) (now_is : t n ≡ Some t0) (k : ℕ) (c : Client) (now : Next) (frame : Addressed) (place : Option ℕ) (on : GoOn s t k) (step : IsInStep s k c) (own : IsRequestOf k frame.bytes) (at : frame.server ≡ n)
    (none : session_of n c ≡ None) (spelled : whole request frame.bytes ≡ Some (record { client = k; epoch = 0; number = 1; call = call.Hello c.name })) where
  -- nothing is learned
  unanswered : (r : Option Reply) → stamps_of_reply r ≡ [] → OwnStep n s t k c c (record { client = k; epoch = 0; number = 1; call = call.Hello c.name }) r
  unanswered r no_stamps = record {
    carries = λ x within reached. within;
    session = subst (HasReached (t n) k) (sym none) tt;
    elsewhere = λ j away. refl;
    low = step.told;
    past = tt;
    turn = λ a i small many within. refl;
    mine = λ other. (let wrong : true ≡ false = other in cc);
    many = λ i h. subst (HasSentFor (i + 1)) (sym none) tt;
    told = omega arith;
    stamps = subst (AllByRecursion (λ (x : Stamp). x.ts ≤ c.told.ts)) (sym no_stamps) tt;
    seen = λ all low. tt;
    begun = inl refl;
    asks = λ xs knows. tt;
    frames = refl;
  }

  -- or the session begins
  abbrev begins_at : ℕ → Client
  begins_at epoch = record c { sessions = map.insert c.sessions n (record { epoch = epoch; last = 1; joined = None }) }

  begun_session : (epoch : ℕ) → session_of n (begins_at epoch) ≡ Some (record { epoch = epoch; number = 1 })
  begun_session epoch = ap (option_map come_in) (put_there n c.sessions (record { epoch = epoch; last = 1; joined = None }))

  welcomed : (epoch : ℕ) → 0 < epoch → IsReached t0 k (record { epoch = epoch; number = 1 }) → ((a : Come) → IsReached s0 k a → IsWithin (Some (record { epoch = epoch; number = 1 })) a)
      → OwnStep n s t k c (begins_at epoch) (record { client = k; epoch = 0; number = 1; call = call.Hello c.name }) (Some (reply.Welcome epoch))
  welcomed epoch some reached up =
      let is = begun_session epoch in
      record {
        carries = λ x within old. subst (λ (o : Option Come). IsWithin o x) (sym is) (up x (subst (λ (o : Option (ServerState V)). IsReachedBy o k x) was old));
        session = subst (HasReached (t n) k) (sym is) (some, omega arith, subst (λ (o : Option (ServerState V)). IsReachedBy o k (record { epoch = epoch; number = 1 })) (sym now_is) reached);
        elsewhere = λ j away. ap (option_map come_in) (put_elsewhere n j c.sessions (record { epoch = epoch; last = 1; joined = None }) away);
        low = step.told;
        past = tt;
        turn = λ a i small many within. refl;
        mine = λ other. (let wrong : true ≡ false = other in cc);
        many = λ i h. subst (HasSentFor (i + 1)) (sym is) (omega arith);
        told = omega arith;
        stamps = tt;
        seen = λ all low. tt;
        begun = inl refl;
        asks = λ xs knows. tt;
        frames = refl;
      }

  pub greeting_hands : (r : Option Reply) → Hears s0 t0 (record { client = k; epoch = 0; number = 1; call = call.Hello c.name }) r → Hands s t k c (keeps (greeted c n now r).0 frame) (item_at n Own k 0 1 (call.Hello c.name) r place)
  greeting_hands r h = go (greets s0 t0 k c.name r h)
    where
      P : Option Reply → Type 0
      P q = Hands s t k c (keeps (greeted c n now q).0 frame) (item_at n Own k 0 1 (call.Hello c.name) q place)

      go : Greets s0 t0 k r → P r
      go (welcome is reached up) = subst P (sym is) (own_hands n s t k c (begins_at s0.epoch) 0 1 (call.Hello c.name) (Some (reply.Welcome s0.epoch)) frame place on step own at spelled (welcomed s0.epoch h.raised reached up))
      go (silent is) = subst P (sym is) (own_hands n s t k c c 0 1 (call.Hello c.name) None frame place on step own at spelled (unanswered None refl))
      go (is_down is) = subst P (sym is) (own_hands n s t k c c 0 1 (call.Hello c.name) (Some (reply.Refused refusal.Down)) frame place on step own at spelled (unanswered (Some (reply.Refused refusal.Down)) refl))

-- ---- a call of what the client takes for its session

-- the stamps of an answer are those whose times it tells
told_within : (clock : ℕ) (r : Reply) → TellsUpTo clock r → AllByRecursion (λ (x : Stamp). x.ts ≤ clock) (stamps_in r)
told_within clock (reply.Committed x) h = (h, tt)
told_within clock (reply.Ended (ended.Committed x)) h = (h, tt)
told_within clock (reply.Ended e) h = tt
told_within clock r h = tt

-- the session is that, or none
within_kept : (o : Option Come) (g a : Come) → (o ≡ Some g) ⊎ (o ≡ None) → IsWithin (Some g) a → IsWithin o a
within_kept o g a (inl is) h = subst (λ (x : Option Come). IsWithin x a) (sym is) h
within_kept o g a (inr is) h = subst (λ (x : Option Come). IsWithin x a) (sym is) tt

reached_kept : {V : Type 0} (t : Option (ServerState V)) (k : ℕ) (o : Option Come) (g : Come) → (o ≡ Some g) ⊎ (o ≡ None) → HasReached t k (Some g) → HasReached t k o
reached_kept t k o g (inl is) h = subst (HasReached t k) (sym is) h
reached_kept t k o g (inr is) h = subst (HasReached t k) (sym is) tt

sent_kept : (n : ℕ) (o : Option Come) (g : Come) → (o ≡ Some g) ⊎ (o ≡ None) → g.number ≤ n → HasSentFor n o
sent_kept n o g (inl is) h = subst (HasSentFor n) (sym is) h
sent_kept n o g (inr is) h = subst (HasSentFor n) (sym is) tt

past_other : {V : Type 0} (t : Option (ServerState V)) (k : ℕ) (o : Option Come) (a : Come) (c : Call) → (is_greeting c ≡ false → (0 < a.epoch) × IsWithin o a × IsReachedBy t k a) → IsPastCall t k o a c
past_other t k o a (call.Hello name) h = tt
past_other t k o a c h = h refl

-- what a client makes of an answer to a call at a server, where it is told one
record Told (n : ℕ) (c d : Client) (g : Come) (r : Option Reply) : Type 0 where
  session : (session_of n d ≡ Some g) ⊎ (session_of n d ≡ None)
  elsewhere : (j : ℕ) → j ≢ n → session_of j d ≡ session_of j c
  before : c.told.ts ≤ d.told.ts
  stamps : AllByRecursion (λ (x : Stamp). x.ts ≤ d.told.ts) (stamps_of_reply r)
  low : d.told.ts ≤ 2 ^ 62
  begun : (d.begun ≡ c.begun) ⊎ ((u : TransId) × (r ≡ Some (reply.Begun u)) × (d.begun ≡ Some u))

-- the session as it is behind the call
abbrev behind : Greeted → Come
behind g = record { epoch = g.epoch; number = number_after g.last }

counted_behind : (n : ℕ) (c d : Client) (g : Greeted) → session_of n c ≡ Some (come_in g) → (session_of n d ≡ session_of n c) ⊎ (session_of n d ≡ None)
    → (session_of n (counted d n (number_after g.last)) ≡ Some (behind g)) ⊎ (session_of n (counted d n (number_after g.last)) ≡ None)
counted_behind n c d g has (inl is) = inl (counted_session n d (number_after g.last) ∙ ap (option_map (λ (a : Come). record a { number = number_after g.last })) (is ∙ has))
counted_behind n c d g has (inr is) = inr (counted_session n d (number_after g.last) ∙ ap (option_map (λ (a : Come). record a { number = number_after g.last })) is)

knows_told : (n : ℕ) (c d : Client) (g : Greeted) (r : Reply) → session_of n c ≡ Some (come_in g) → c.told.ts ≤ 2 ^ 62 → TellsUpTo (2 ^ 62) r → Knows n c d r → Told n c (counted d n (number_after g.last)) (behind g) (Some r)
knows_told n c d g r has low times k = record {
  session = counted_behind n c d g has k.session;
  elsewhere = λ j away. counted_elsewhere n j d (number_after g.last) away ∙ k.others j away;
  before = k.before;
  stamps = k.stamps;
  low = k.within (2 ^ 62) low (told_within (2 ^ 62) r times);
  begun = elim k.begun [ inl is ↦ inl is | inr is ↦ inr (is.0, ap Some is.1, is.2) ];
}

answered_told : (n : ℕ) (words : WordMap) (s : Settings) (c : Client) (g : Greeted) (l : Line) (now : Next) (a : Asking) (r : Option Reply) → session_of n c ≡ Some (come_in g) → c.told.ts ≤ 2 ^ 62 → IfSome r (TellsUpTo (2 ^ 62))
    → Told n c (counted (answered words c (asked_at n (number_after g.last) now s) l a r).0 n (number_after g.last)) (behind g) r
answered_told n words s c g l now a None has low times = record {
  session = counted_behind n c c g has (inl refl);
  elsewhere = λ j away. counted_elsewhere n j c (number_after g.last) away;
  before = omega arith;
  stamps = tt;
  low = low;
  begun = inl refl;
}
answered_told n words s c g l now a (Some r) has low times =
    knows_told n c (answered words c (asked_at n (number_after g.last) now s) l a (Some r)).0 g r has low times (answered_knows n (number_after g.last) now s words c l a r)

module _ {V : Type 0} (n : ℕ) (s t : States V) (s0 t0 : ServerState V) (was : s n ≡ Some s0) (now_is : t n ≡ Some t0) (k : ℕ) (c : Client) (words : WordMap) (settings : Settings) (l : Line) (now : Next) (frame : Addressed) (place : Option ℕ) (y : Call) (a : Asking) (on : GoOn s t k)
    (step : IsInStep s k c) (own : IsRequestOf k frame.bytes) (at : frame.server ≡ n) (form : IsForm l) (asked : call_by words c (asked_line k l now) ≡ Some y) where
  -- what it sends
  abbrev x : Call
  x = call_asked a y

  no_greeting : is_greeting x ≡ false
  no_greeting = asked_in a y (λ z. is_greeting z ≡ false) (λ u. refl) (line_no_greeting words c (asked_line k l now) y (asked_form k l now form) asked)

  -- what it knows behind the answer
  abbrev then_in : Greeted → Option Reply → Client
  then_in g r = (heard_own words settings c n (Some g) l now r).0

  call_step : (g : Greeted) → session_of n c ≡ Some (come_in g) → (r : Option Reply) → Hears s0 t0 (record { client = k; epoch = g.epoch; number = number_after g.last; call = x }) r
      → OwnStep n s t k c (then_in g r) (record { client = k; epoch = g.epoch; number = number_after g.last; call = x }) r
  call_step g has r h =
      let d : Client = then_in g r in
      let k0 : Told n c d (behind g) r = answered_told n words settings c g l now (asking_for g.joined c.trans l now) r has step.told h.times in
      let known : HasReached (s n) k (Some (come_in g)) = subst (HasReached (s n) k) has (step.session n) in
      let b : Come = record { epoch = g.epoch; number = number_after g.last } in
      let there : IsReachedBy (t n) k b =
      subst (λ (o : Option (ServerState V)). IsReachedBy o k b) (sym now_is) (own_reached s0 t0 k g x r h no_greeting (subst (λ (o : Option (ServerState V)). IsReachedBy o k (come_in g)) was known.2)) in
      let inside : IsWithin (session_of n d) b = within_kept (session_of n d) (behind g) b k0.session (up_to_self b) in
      record {
        carries = λ z within reached. within_kept (session_of n d) (behind g) z k0.session (within_more g z known.1 (subst (λ (o : Option Come). IsWithin o z) has within));
        session = reached_kept (t n) k (session_of n d) (behind g) k0.session (known.0, after_small g.last, there);
        elsewhere = k0.elsewhere;
        low = k0.low;
        past = past_other (t n) k (session_of n d) b x (λ other. (known.0, inside, there));
        turn = λ z i small many within. own_turn z b x no_greeting known.0
            (below_more g z (let few : g.last ≤ i = subst (HasSentFor i) has many in omega (arith, few, small)) (subst (λ (o : Option Come). IsWithin o z) has within));
        mine = λ other. (inside, there);
        many = λ i many. sent_kept (i + 1) (session_of n d) (behind g) k0.session (let few : g.last ≤ i = subst (HasSentFor i) has many in let most : number_after g.last ≤ g.last + 1 = after_most g.last in omega (arith, few, most));
        told = k0.before;
        stamps = k0.stamps;
        seen = λ all low. asked_in a y (HasSeenBy all) (λ u. tt) (line_has_seen words c (asked_line k l now) y all (asked_form k l now form) asked low);
        begun = k0.begun;
        asks = λ xs knows. asked_in a y (AsksOfTold xs) (λ u. tt) (line_asks_of words c (asked_line k l now) y xs (asked_form k l now form) asked knows.begun);
        frames = own_stays words settings c n (Some g) l now r;
      }

  pub call_hands : (g : Greeted) → session_of n c ≡ Some (come_in g) → (r : Option Reply) → Hears s0 t0 (record { client = k; epoch = g.epoch; number = number_after g.last; call = x }) r
      → whole request frame.bytes ≡ Some (record { client = k; epoch = g.epoch; number = number_after g.last; call = x })
      → Hands s t k c (keeps (then_in g r) frame) (item_at n Own k g.epoch (number_after g.last) x r place)
  call_hands g has r h spelled = own_hands n s t k c (then_in g r) g.epoch (number_after g.last) x r frame place on step own at spelled (call_step g has r h)

-- ---- a frame that is sent again

module _ {V : Type 0} (n : ℕ) (s t : States V) (k : ℕ) (c : Client) (q : Request) (r : Option Reply) (place : Option ℕ) (on : GoOn s t k) (step : IsInStep s k c) (times : IfSome r (TellsUpTo (2 ^ 62))) (past : IsPastRequest (s n) k (session_of n c) q)
    (known : (xs : List Item) → KnowsOf c xs → AsksOfTold xs q.call) where
  -- what the client knows then
  record Again (d : Client) : Type 0 where
    session : (session_of n d ≡ session_of n c) ⊎ (session_of n d ≡ None)
    elsewhere : (j : ℕ) → j ≢ n → session_of j d ≡ session_of j c
    before : c.told.ts ≤ d.told.ts
    stamps : AllByRecursion (λ (x : Stamp). x.ts ≤ d.told.ts) (stamps_of_reply r)
    low : d.told.ts ≤ 2 ^ 62
    begun : (d.begun ≡ c.begun) ⊎ ((u : TransId) × (r ≡ Some (reply.Begun u)) × (d.begun ≡ Some u))

  again_told : (o : Option Reply) → r ≡ o → Again (heard_again c n o)
  again_told None is = record { session = inl refl; elsewhere = λ j away. refl; before = omega arith; stamps = subst (λ (y : Option Reply). AllByRecursion (λ (x : Stamp). x.ts ≤ c.told.ts) (stamps_of_reply y)) (sym is) tt; low = step.told; begun = inl refl }
  again_told (Some y) is =
      let k0 : Knows n c (heard_again c n (Some y)) y = again_knows n c y in
      record {
        session = k0.session;
        elsewhere = k0.others;
        before = k0.before;
        stamps = subst (λ (z : Option Reply). AllByRecursion (λ (x : Stamp). x.ts ≤ (heard_again c n (Some y)).told.ts) (stamps_of_reply z)) (sym is) k0.stamps;
        low = k0.within (2 ^ 62) step.told (told_within (2 ^ 62) y (subst (λ (z : Option Reply). IfSome z (TellsUpTo (2 ^ 62))) is times));
        begun = elim k0.begun [ inl same ↦ inl same | inr now ↦ inr (now.0, is ∙ ap Some now.1, now.2) ];
      }

  within_again : (d : Client) (a : Come) → ((session_of n d) ≡ (session_of n c)) ⊎ ((session_of n d) ≡ None) → IsWithin (session_of n c) a → IsWithin (session_of n d) a
  within_again d a (inl is) h = subst (λ (o : Option Come). IsWithin o a) (sym is) h
  within_again d a (inr is) h = subst (λ (o : Option Come). IsWithin o a) (sym is) tt

  session_again : (d : Client) → ((session_of n d) ≡ (session_of n c)) ⊎ ((session_of n d) ≡ None) → HasReached (t n) k (session_of n d)
  session_again d (inl is) = subst (HasReached (t n) k) (sym is) (has_reached (s n) (t n) k (session_of n c) (on n) (step.session n))
  session_again d (inr is) = subst (HasReached (t n) k) (sym is) tt

  many_again : (i : ℕ) (d : Client) → ((session_of n d) ≡ (session_of n c)) ⊎ ((session_of n d) ≡ None) → HasSentFor i (session_of n c) → HasSentFor (i + 1) (session_of n d)
  many_again i d (inl is) h = subst (HasSentFor (i + 1)) (sym is) (go (session_of n c) h)
    where
      go : (o : Option Come) → HasSentFor i o → HasSentFor (i + 1) o
      go None h = tt
      go (Some g) h = omega (arith, h)
  many_again i d (inr is) h = subst (HasSentFor (i + 1)) (sym is) tt

  abbrev its : Come
  its = record { epoch = q.epoch; number = q.number }

  past_parts : (x : Call) → q.call ≡ x → is_greeting x ≡ false → (0 < q.epoch) × IsWithin (session_of n c) its × IsReachedBy (s n) k its
  past_parts (call.Hello name) is other = cc
  past_parts x is other = go x (subst (IsPastCall (s n) k (session_of n c) its) is past) other
    where
      go : (x : Call) → IsPastCall (s n) k (session_of n c) its x → is_greeting x ≡ false → (0 < q.epoch) × IsWithin (session_of n c) its × IsReachedBy (s n) k its
      go (call.Hello name) h other = cc
      go x h other = h

  pub again_hands : q.client ≡ k → Hands s t k c (heard_again c n r) (item_at n Repeated k q.epoch q.number q.call r place)
  again_hands client =
      let d : Client = heard_again c n r in
      let k0 : Again d = again_told r refl in
      let frames : d.frames ≡ c.frames = again_stays c n r in
      let carries : (j : ℕ) → Carries (s j) k (session_of j c) (session_of j d) =
      at_each n (λ j. Carries (s j) k (session_of j c) (session_of j d)) (λ a within reached. within_again d a k0.session within) (λ j away y within reached. subst (λ (z : Option Come). IsWithin z y) (sym (k0.elsewhere j away)) within) in
      record {
        step = record {
          session = at_each n (λ j. HasReached (t j) k (session_of j d)) (session_again d k0.session)
              (λ j away. subst (HasReached (t j) k) (sym (k0.elsewhere j away)) (has_reached (s j) (t j) k (session_of j c) (on j) (step.session j)));
          told = k0.low;
          frames = kept_as k c d frames step.frames;
          past = keeps_past s t k c d on carries frames step.past;
        };
        said = λ xs short said. said_more n s t Repeated k c d q.epoch q.number q.call r place xs
            (record {
              turn = λ a i small many within reached. (refl, again_turn its q.call (λ other. (past_parts q.call refl other).0));
              within = λ a within reached. come_by_has (IsWithin (session_of n d)) a its q.call (within_again d a k0.session within) (λ other. within_again d its k0.session (past_parts q.call refl other).1);
              reached = λ a within reached. come_by_has (IsReachedBy (t n) k) a its q.call (on n a reached) (λ other. on n its (past_parts q.call refl other).2);
              many = λ i many. many_again i d k0.session many;
              elsewhere = k0.elsewhere;
              later = on;
              told = k0.before;
              stamps = k0.stamps;
              seen = λ all low. tt;
              begun = k0.begun;
              last = λ zs knows. subst (λ (f : Frames). IfSome f.last (λ z. SpellsOfTold zs z.bytes)) (sym frames) knows.last;
              before = λ zs knows. subst (λ (f : Frames). IfSome f.before (λ z. SpellsOfTold zs z.bytes)) (sym frames) knows.before;
              outcome = known;
            })
            short said;
      }
