-- a server keeps what its journal says: what holds of each part of it
use Rattle.std.specs.Prelude.{cond, Bool, true, false, ◌==◌, max, Option, None, Some, is_some}
use Rattle.std.specs.FinMap.Entries as entries
use Rattle.std.proofs.Common.{◌≡◌, ℕ, ◌+◌, ◌≤◌, List, [], ◌∷◌, length, refl, sym, ◌∙◌, ap, subst, arith}
use Rattle.alp_base.specs.declared.ids.TransId.{TransId}
use Rattle.alp_base.specs.declared.ids.Stamp.{Stamp}
use Rattle.alp_base.specs.declared.key.Resource.{Resource}
use Rattle.alp_files.specs.Cells.{Cells}
use Rattle.alp_files.specs.History.{Decided}
use Rattle.alp_files.specs.declared.call.Call.{Call}
use Rattle.alp_files.specs.declared.refusal.Cause.{Cause}
use Rattle.alp_files.specs.declared.reply.Reply.{Reply}
use Rattle.alp_locks.specs.Tables.{Holders, holding}
use Rattle.alp_vault.specs.Contents.{Contents}
use Rattle.alp_journal.specs.declared.act.Act.{Act}
use Rattle.alp_journal.specs.declared.event.Event.TheVariants as event
use Rattle.alp_base.specs.Causes.{Rose}
use Rattle.alp_journal.specs.Coordinator.{Fate, Undrawn, Running, Finishing, Committed, Forgotten, Ended, decision_in}
use Rattle.alp_journal.specs.Coordinator as fate
use Rattle.alp_journal.specs.Ids.{same_trans, stamp_cmp}
use Rattle.alp_journal.specs.Holder.{Life}
use Rattle.alp_journal.specs.Answered.{is_read_fault}
use Rattle.alp_journal.specs.Account.{Account, Leads, AreEarlier}
use Rattle.alp_journal.proofs.IdLemmas.{same_trans-true}
use Rattle.alp_journal.proofs.CallLemmas.{call_entry}
use Rattle.alp_coord.specs.declared.coordinator.Coordinator.{Coordinator}
use Rattle.alp_coord.specs.Coordinators.{IsAlong, Keeps}
use Rattle.alp_node.specs.Sessions.{session_at, with_session}
use Rattle.alp_base.specs.declared.ids.JoinNo.{JoinNo}
use Rattle.alp_node.specs.ServerState.{IsLife, IsAlike, IsAs, AreApplied}
use Rattle.alp_node.specs.Steps.{Stepped, IsOf, IsTimely, IsTurn, told_answer, entry_of}
use Rattle.alp_node.specs.declared.answer.Answer.{Answer}
use Rattle.alp_node.specs.declared.server_state.ServerState.{ServerState}
use Rattle.alp_node.specs.declared.lives.Live.{Live}
use Rattle.alp_journal.specs.Desk.{Session}
use Rattle.alp_node.specs.declared.sessions.Sessions.{Sessions}
use Rattle.alp_node.specs.declared.sessions.Turn.{Turn}
use Rattle.alp_node.proofs.MapLemmas.{session_kept}
use Rattle.alp_node.proofs.TransactionLemmas.{kept_by}

-- ---- what holds of lives

-- other locks that come to the same
pub alike_under : (cells : Cells) (locks new : Holders) (rs : List Resource) (t : TransId) (l : Option Live) (life : Option Life) → ((r : Resource) → holding new t r ≡ holding locks t r) → IsAlike cells locks rs t l life → IsAlike cells new rs t l life
alike_under cells locks new rs t None None same h = λ r. same r ∙ h r
alike_under cells locks new rs t (Some l) (Some life) same h =
    record { client = h.client; join = h.join; intents = h.intents; held = λ r. h.held r ∙ sym (same r); calls = h.calls; counts = h.counts; within = h.within; intended = h.intended; sized = h.sized; count = h.count; known = h.known }
alike_under cells locks new rs t None (Some life) same h = absurd h
alike_under cells locks new rs t (Some l) None same h = absurd h

-- who is not kept holds nothing
pub none_held : (cells : Cells) (locks : Holders) (rs : List Resource) (t : TransId) (l : Option Live) (life : Option Life) → l ≡ None → IsAlike cells locks rs t l life → (r : Resource) → holding locks t r ≡ None
none_held cells locks rs t None None is h = h
none_held cells locks rs t None (Some life) is h = absurd h
none_held cells locks rs t (Some l) life is h = let wrong : Some l ≡ None = is in cc

pub none_live : (cells : Cells) (locks : Holders) (rs : List Resource) (t : TransId) (l : Option Live) (life : Option Life) → l ≡ None → IsAlike cells locks rs t l life → life ≡ None
none_live cells locks rs t None None is h = refl
none_live cells locks rs t None (Some life) is h = absurd h
none_live cells locks rs t (Some l) life is h = let wrong : Some l ≡ None = is in cc

-- the life of a transaction that is kept
pub record IsLive (cells : Cells) (locks : Holders) (rs : List Resource) (t : TransId) (l : Live) (x : Option Life) : Type 0 where
  pub life : Life
  pub is : x ≡ Some life
  pub alike : IsLife cells locks rs t l life

pub same_live : (a b : Live) → Some a ≡ Some b → a ≡ b
same_live a b e = cc

pub live_there : (cells : Cells) (locks : Holders) (rs : List Resource) (t : TransId) (o : Option Live) (x : Option Life) (l : Live) → o ≡ Some l → IsAlike cells locks rs t o x → IsLive cells locks rs t l x
live_there cells locks rs t None x l is h = let wrong : None ≡ Some l = is in cc
live_there cells locks rs t (Some m) None l is h = absurd h
live_there cells locks rs t (Some m) (Some life) l is h = record { life = life; is = refl; alike = subst (λ (y : Live). IsLife cells locks rs t y life) (same_live m l is) h }

-- of each transaction but one all is as it was, and that one is so
pub alike_set : (cells : Cells) (locks new : Holders) (locked : TransId → List Resource) (t : TransId) (o : Option Live) (x : Option Life) (rs : List Resource) (lives : TransId → Option Live) (kept : TransId → Option Life)
    → ((u : TransId) → IsAlike cells locks (locked u) u (lives u) (kept u)) → ((u : TransId) (r : Resource) → same_trans u t ≡ false → holding new u r ≡ holding locks u r) → IsAlike cells new rs t o x
    → (u : TransId) → IsAlike cells new (cond {A = List Resource} (same_trans u t) rs (locked u)) u (cond {A = Option Live} (same_trans u t) o (lives u)) (cond {A = Option Life} (same_trans u t) x (kept u))
alike_set cells locks new locked t o x rs lives kept all same this u = go (same_trans u t) refl
  where
    go : (b : Bool) → same_trans u t ≡ b → IsAlike cells new (cond {A = List Resource} b rs (locked u)) u (cond {A = Option Live} b o (lives u)) (cond {A = Option Life} b x (kept u))
    go true e = subst (λ (v : TransId). IsAlike cells new rs v o x) (sym (same_trans-true u t e)) this
    go false e = alike_under cells locks new (locked u) u (lives u) (kept u) (λ r. same u r e) (all u)

-- of each life but one all is as it was, and that one is so
pub each_set : (P : Life → Type 0) (t : TransId) (x : Option Life) (lives : TransId → Option Life) → ((u : TransId) (l : Life) → lives u ≡ Some l → P l) → ((l : Life) → x ≡ Some l → P l)
    → (u : TransId) (l : Life) → cond {A = Option Life} (same_trans u t) x (lives u) ≡ Some l → P l
each_set P t x lives all this u l = go (same_trans u t)
  where
    go : (b : Bool) → cond {A = Option Life} b x (lives u) ≡ Some l → P l
    go true is = this l is
    go false is = all u l is

-- times that go no further go no further than a later one
pub earlier_more : (m n : ℕ) (ds : List (Stamp × Decided)) → m ≤ n → AreEarlier m ds → AreEarlier n ds
earlier_more m n [] le h = tt
earlier_more m n (d ∷ ds) le h = ((let low : d.0.ts ≤ m = h.0 in omega arith), earlier_more m n ds le h.1)

-- a live transaction of the client
pub of_client : (client : ℕ) (x : Option Live) → IsOf client x → (l : Live) × (x ≡ Some l) × (l.client ≡ client)
of_client client None h = absurd h
of_client client (Some l) h = (l, refl, h)

-- a clock that stands is no later than it may be
pub stands_timely : (before seen now : ℕ) → before ≡ now → now ≤ max before seen + 1
stands_timely before seen now same = omega arith

-- ---- what was decided

-- it is applied still where no decision comes
pub applied_fated : (a m : Account) → m.ids.epoch ≡ a.ids.epoch → m.holder.applied ≡ a.holder.applied → ((t : TransId) → decision_in (m.fates t) ≡ decision_in (a.fates t)) → AreApplied a → AreApplied m
applied_fated a m epoch applied same h t stamp js now is = ap (λ (xs : List (Stamp × Decided)). is_some (entries.find stamp_cmp stamp xs)) applied ∙ h t stamp js (now ∙ epoch) (sym (same t) ∙ is)

-- what begins or ends is not decided
pub begun_decision : (b : Bool) (client : ℕ) (f : Fate) → decision_in (cond {A = Fate} b (fate.begun client f) f) ≡ decision_in f
begun_decision false client f = refl
begun_decision true client Undrawn = refl
begun_decision true client (Running c js) = refl
begun_decision true client (Finishing c js vs) = refl
begun_decision true client (Committed s js ds) = refl
begun_decision true client (Forgotten s js) = refl
begun_decision true client (Ended c) = refl

pub ended_decision : (b : Bool) (why : Cause) (f : Fate) → decision_in (cond {A = Fate} b (fate.ended why f) f) ≡ decision_in f
ended_decision false why f = refl
ended_decision true why Undrawn = refl
ended_decision true why (Running c js) = refl
ended_decision true why (Finishing c js vs) = refl
ended_decision true why (Committed s js ds) = refl
ended_decision true why (Forgotten s js) = refl
ended_decision true why (Ended c) = refl

pub finishing_decision : (b : Bool) (f : Fate) → decision_in (cond {A = Fate} b (fate.finishing f) f) ≡ decision_in f
finishing_decision false f = refl
finishing_decision true Undrawn = refl
finishing_decision true (Running c js) = refl
finishing_decision true (Finishing c js vs) = refl
finishing_decision true (Committed s js ds) = refl
finishing_decision true (Forgotten s js) = refl
finishing_decision true (Ended c) = refl

-- ---- what holds of sessions

-- the session whose next call it is, and the same with that call counted
abbrev pub session_of : {sessions : Sessions} (turn : Turn) → IsTurn sessions turn → Session
session_of turn is = record { who = turn.who; last = is.last; reply = is.kept }

abbrev pub session_then : Turn → Reply → Session
session_then turn r = record { who = turn.who; last = turn.number; reply = r }

-- the sessions where one is another now
pub sessions_as : (sessions : ℕ → Option Session) (kept : Sessions) (client : ℕ) (w : Session) → ((c : ℕ) → sessions c ≡ session_at kept c) → length kept.places ≡ 17 → client ≤ 16
    → (c : ℕ) → cond {A = Option Session} (c == client) (Some w) (sessions c) ≡ session_at (with_session kept client w) c
sessions_as sessions kept client w all full le c = ap (cond {A = Option Session} (c == client) (Some w)) (all c) ∙ sym (session_kept kept client w c full le)

-- ---- all of it

-- with another vault that holds the same
pub as_with : {V : Type 0} (a : Account) (held then : Contents) (k : ServerState V) (v : V) → then ≡ held → IsAs a held k → IsAs a then (record k { vault = v })
as_with a held then k v same h = subst (λ (x : Contents). IsAs a x (record k { vault = v })) (sym same) (record {
  server = h.server;
  sizes = h.sizes;
  epoch = h.epoch;
  clock = h.clock;
  cells = h.cells;
  sized = h.sized;
  notes = h.notes;
  places = h.places;
  sessions = h.sessions;
  dead = h.dead;
  lives = h.lives;
  room = h.room;
  unborn = h.unborn;
  coordinator = h.coordinator;
  decided = h.decided;
  servers = h.servers;
  joins = h.joins;
  files = h.files;
  made = h.made;
  born = h.born;
  earlier = h.earlier;
  waits = h.waits;
  queue = h.queue;
  asked = h.asked;
  quiet = h.quiet;
  down = h.down;
})

-- with a coordinator that goes on so and keeps what it did
pub as_back : {V : Type 0} (a : Account) (held : Contents) (k : ServerState V) (c : Coordinator) → IsAlong k.coordinator c → Keeps k.coordinator c → IsAs a held k → IsAs a held (record k { coordinator = c })
as_back a held k c along keeps h = record {
  server = h.server;
  sizes = h.sizes;
  epoch = h.epoch;
  clock = h.clock;
  cells = h.cells;
  sized = h.sized;
  notes = h.notes;
  places = h.places;
  sessions = h.sessions;
  dead = h.dead;
  lives = h.lives;
  room = h.room;
  unborn = h.unborn;
  coordinator = kept_by a.holder.server a.ids.epoch a.ids.transactions a.fates k.coordinator c along keeps h.coordinator;
  decided = h.decided;
  servers = h.servers;
  joins = h.joins;
  files = h.files;
  made = h.made;
  born = h.born;
  earlier = h.earlier;
  waits = h.waits;
  queue = h.queue;
  asked = h.asked;
  quiet = h.quiet;
  down = h.down;
}

-- a new call's entry and its answer
module _ {V : Type 0} (a : Account) (before now : ℕ) (held then : Contents) (k new : ServerState V) (client number : ℕ) (w : Session) (c : Call) where
  pub stepped_so : (failed : Bool) (r : Reply) (acts : List Act) (m : Account) (x : Answer) → x ≡ told_answer (Some r) acts → IsAs a held k → Leads failed a (call_entry a client number w c r acts) m
      → IsAs m then new → (failed ≡ true → Rose before now × (is_read_fault (Some r) ≡ true)) → IsTimely a.fates a.holder.clock (event.Call client k.epoch number c) new.clock → Stepped a before now then new (event.Call client k.epoch number c) x
  stepped_so failed r acts m x is h leads kept rose timely = record {
    failed = failed;
    next = m;
    leads = subst (λ (y : Answer). Leads failed a (entry_of (event.Call client k.epoch number c) y) m) (sym is)
        (subst (λ (n : ℕ). Leads failed a (record { event = event.Call client n number c; reply = Some r; acts = acts }) m) h.epoch leads);
    rose = λ e. (let q = rose e in (q.0, ap (λ (y : Answer). is_read_fault y.kept) is ∙ q.1));
    kept = kept;
    clock = timely;
  }
