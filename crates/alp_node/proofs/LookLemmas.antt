-- file calls that only looked, and those that their vault did not answer
use Rattle.std.specs.Prelude.{cond, Bool, true, false, IsTrue, is_some, Option, None, Some, Result, Ok}
use Rattle.std.specs.List.{list_all, AllByRecursion}
use Rattle.std.specs.Result.{IsErr}
use Rattle.std.specs.FinMap as map
use Rattle.std.proofs.Common.{◌≡◌, ℕ, ◌+◌, ◌≤◌, List, [], ◌∷◌, length, refl, sym, ◌∙◌, ap, subst, arith, le_refl}
use Rattle.alp_base.specs.Causes.{Rose}
use Rattle.alp_base.specs.declared.allowance.Allowance.TheVariants.{Spent}
use Rattle.alp_base.specs.declared.ids.FileId.{FileId}
use Rattle.alp_base.specs.declared.ids.TransId.{TransId}
use Rattle.alp_base.specs.declared.memory.OutOfMemory.{OutOfMemory}
use Rattle.alp_files.specs.Act.{Own}
use Rattle.alp_files.specs.Born.{count_after}
use Rattle.alp_files.specs.Cells.{Cells}
use Rattle.alp_files.specs.declared.call.Call.{Call}
use Rattle.alp_files.specs.declared.open.Open.{Open}
use Rattle.alp_files.specs.declared.reply.Reply.{Reply}
use Rattle.alp_files.specs.declared.reply.Reply.TheVariants as reply
use Rattle.alp_files.specs.declared.refusal.Refusal.TheVariants as refusal
use Rattle.alp_vault.specs.declared.vault.Vault.{Ghosts}
use Rattle.alp_calls.specs.Looks.{Looks, IsLeft}
use Rattle.alp_calls.specs.Parts.{IsAsBefore, IsPart, Answered}
use Rattle.alp_calls.specs.declared.fault.CallFault.{CallFault}
use Rattle.alp_calls.specs.declared.fault.CallFault.TheVariants as call_fault
use Rattle.alp_trans.specs.declared.part.Part.{Part}
use Rattle.alp_trans.specs.declared.counts.Counts.{Counts}
use Rattle.alp_journal.specs.Ids.{same_trans}
use Rattle.alp_journal.specs.Desk.{file_trans, waiting_of}
use Rattle.alp_journal.specs.declared.act.Act.TheVariants as act
use Rattle.alp_journal.specs.declared.event.Event.TheVariants as event
use Rattle.alp_journal.specs.Account.{Account, state_of}
use Rattle.alp_journal.proofs.IdLemmas.{same_trans-true}
use Rattle.alp_calls.specs.declared.limits.Room.{Room}
use Rattle.alp_node.specs.Calls.{name_in}
use Rattle.alp_coord.specs.Coordinators.{count_of}
use Rattle.alp_node.specs.Asks.{is_given}
use Rattle.alp_node.specs.Rooms.{IsRoomOf, IsWithin}
use Rattle.alp_node.specs.Totals.{LiveMap}
use Rattle.alp_node.proofs.WithinLemmas.{within_same}
use Rattle.alp_node.specs.Dead.{cause_in}
use Rattle.alp_node.specs.ServerState.{IsAs, IsReady}
use Rattle.alp_node.specs.Standings.{standing_of}
use Rattle.alp_node.specs.Steps.{IsStep, IsRefused, IsDown, IsTurn, IsOf, counted_in, refused_answer}
use Rattle.alp_node.specs.declared.answer.Answer.{Answer}
use Rattle.alp_node.specs.declared.lives.Live.{Live}
use Rattle.alp_node.specs.declared.waits.WaitingCall.{WaitingCall}
use Rattle.alp_node.specs.Waits.{is_file_on}
use Rattle.alp_node.specs.declared.lock_counts.LockCounts.{LockCounts}
use Rattle.alp_node.proofs.WaitLemmas.{IsLikePart, IsLikeThen, like_itself, waiting_parts, each_so, file_on}
use Rattle.alp_node.specs.declared.server_state.ServerState.{ServerState}
use Rattle.alp_node.specs.declared.sessions.Turn.{Turn}
use Rattle.alp_node.specs.declared.served.Standing.TheVariants as standing
use Rattle.alp_node.proofs.CallLemmas.{part_still}
use Rattle.alp_node.proofs.HaltLemmas.{file_halt_stepped}
use Rattle.alp_node.proofs.GivenLemmas.{IsCounted, counts_fault, counts_down, reply_given, wanting}
use Rattle.alp_node.proofs.KeptLemmas.{IsLive, live_there, same_live, as_with}
use Rattle.alp_node.proofs.MapLemmas.{put_there, get_put}
use Rattle.alp_node.proofs.ReadyLemmas.{joins_later, counted_ready, ready_with, down_ready}
use Rattle.alp_node.specs.Noted.{HasReadyRoom}
use Rattle.alp_node.proofs.NotedLemmas.{HasNoVoter, voters_put, room_on, noted_on}
use Rattle.alp_node.proofs.PairedLemmas.{theirs_put, paired_on, alive_on}
use Rattle.alp_node.proofs.TurnLemmas.{counts_refused}
use Rattle.alp_node.proofs.SeatLemmas.{KeepsNotes, left_seated, left_noted, left_step}
use Rattle.alp_node.proofs.ServedLemmas.{fault_stepped}

-- a file more is made at most
pub count_same : (count : ℕ) (r : Reply) → count_after count r ≤ count + 1
count_same count (reply.Created f n) = omega arith
count_same count r = omega arith

-- what is told is told
pub answered_told : (b : Bool) (cells : Cells) (l : Live) (p : Part) (id : FileId) (c : Call) (room : Room) (r : Reply) → IsTrue b → Answered b cells l.part p (name_in l.who) id c room r → Answered true cells l.part p (name_in l.who) id c room r
answered_told b cells l p id c room r told given = subst (λ (x : Bool). Answered x cells l.part p (name_in l.who) id c room r) told given

pub room_told : {V : Type 0} (b : Bool) (cells : Cells) (k : ServerState V) (locks : ℕ) (room : Room) → IsTrue b → IsRoomOf b cells k locks room → IsRoomOf true cells k locks room
room_told b cells k locks room told of = subst (λ (x : Bool). IsRoomOf x cells k locks room) told of

-- ---- a server stays ready

module _ {V : Type 0} (n : ℕ) (before serves : Bool) (k : ServerState V) (t : TransId) (l : Live) (p : Part) (b : ℕ) (v : V) where
  abbrev pub part_kept : ServerState V
  part_kept = record k { lives = map.insert k.lives t (record l { part = p; locks = b }); vault = v }

  -- a part that is another now
  pub part_ready : (m : ℕ) → IsTrue serves → k.is_down ≡ false → HasNoVoter k.joins.lives t → map.get k.lives t ≡ Some l → p.last ≤ m → n ≤ m → list_all (λ (o : Open). is_given k.server k.epoch k.given o.file) p.opens.items ≡ true
      → IsWithin k.sizes (record l { part = p; locks = b }) → AllByRecursion (λ (w : WaitingCall). is_file_on t w ≡ true → IsLikePart l (record l { part = p; locks = b })) k.waits → IsReady n before k → IsReady m serves part_kept
  part_ready m on up unvoted there low le given fresh like h = record {
    serving = λ _. on;
    halted = λ down. (let wrong : false ≡ true = sym up ∙ down in cc);
    sound = h.sound;
    taken = h.taken;
    waits = waiting_parts k.server k.epoch k.given k.given (le_refl k.given) (count_of k.coordinator) k.sizes k.lives (map.insert k.lives t (record l { part = p; locks = b })) k.waits k.locks.waiting (all_like k.waits like) live_so h.waits;
    known = λ u x is. known_so u (same_trans u t) refl x (sym (get_put k.lives t (record l { part = p; locks = b }) u) ∙ is);
    joins = joins_later k.server k.epoch n m k.joins le h.joins;
    paired = paired_on k.servers k.server k.coordinator k.joins k.lives (map.insert k.lives t (record l { part = p; locks = b })) (theirs_put k.lives t l (record l { part = p; locks = b }) there refl) h.paired;
    idle = h.idle;
    opens = λ u x is. opens_so u (same_trans u t) x (sym (get_put k.lives t (record l { part = p; locks = b }) u) ∙ is);
    opened = λ u x is. opened_so u (same_trans u t) x (sym (get_put k.lives t (record l { part = p; locks = b }) u) ∙ is);
    alive = alive_on k.servers k.server k.coordinator k.joins k.lives (map.insert k.lives t (record l { part = p; locks = b })) (theirs_put k.lives t l (record l { part = p; locks = b }) there refl) k.dead h.alive;
    places = h.places;
    calls = λ c w is. (let before_now : w.last ≤ n = h.calls c w is in omega arith);
    replies = h.replies;
    drawn = omega (arith, h.drawn, le);
    given = omega (arith, h.given, le);
    most = h.most;
    fits = subst (HasReadyRoom k.sizes) (sym (room_on k.lives (map.insert k.lives t (record l { part = p; locks = b })) k.joins.lives h.joins.once (voters_put k.lives t (record l { part = p; locks = b }) k.joins.lives unvoted))) h.fits;
    within = λ u x is. within_so u (same_trans u t) x (sym (get_put k.lives t (record l { part = p; locks = b }) u) ∙ is);
    sized = h.sized;
    clock = h.clock;
    raised = h.raised;
    fated = h.fated;
    last = h.last;
    unheld = h.unheld;
    seat = h.seat;
    times = h.times;
  }
    where
      all_like : (ws : List WaitingCall) → AllByRecursion (λ (w : WaitingCall). is_file_on t w ≡ true → IsLikePart l (record l { part = p; locks = b })) ws
          → AllByRecursion (IsLikeThen k.lives (map.insert k.lives t (record l { part = p; locks = b }))) ws
      all_like [] each = tt
      all_like (w ∷ ws) each = ((λ z counted x is. was z counted (same_trans w.trans t) refl x (sym (get_put k.lives t (record l { part = p; locks = b }) w.trans) ∙ is)), all_like ws each.1)
        where
          was : (z : LockCounts) → w.counts ≡ Some z → (e : Bool) → same_trans w.trans t ≡ e → (x : Live) → cond {A = Option Live} e (Some (record l { part = p; locks = b })) (map.get k.lives w.trans) ≡ Some x → (y : Live) × (map.get k.lives w.trans ≡ Some y) × IsLikePart y x
          was z counted true e x is = (l, ap (map.get k.lives) (same_trans-true w.trans t e) ∙ there, subst (IsLikePart l) (same_live (record l { part = p; locks = b }) x is) (each.0 (file_on t w z counted e)))
          was z counted false e x is = (x, is, like_itself x)

      live_so : (u : TransId) → is_some (map.get k.lives u) ≡ true → is_some (map.get (map.insert k.lives t (record l { part = p; locks = b })) u) ≡ true
      live_so u live = ap is_some (get_put k.lives t (record l { part = p; locks = b }) u) ∙ either_live (same_trans u t) live
        where
          either_live : (e : Bool) → is_some (map.get k.lives u) ≡ true → is_some (cond {A = Option Live} e (Some (record l { part = p; locks = b })) (map.get k.lives u)) ≡ true
          either_live true f = refl
          either_live false f = f

      at_t : (u : TransId) → same_trans u t ≡ true → map.get k.lives u ≡ Some l
      at_t u e = ap (map.get k.lives) (same_trans-true u t e) ∙ there

      known_so : (u : TransId) (e : Bool) → same_trans u t ≡ e → (x : Live) → cond {A = Option Live} e (Some (record l { part = p; locks = b })) (map.get k.lives u) ≡ Some x → is_some (map.get k.locks.held u) ≡ true
      known_so u true e x is = h.known u l (at_t u e)
      known_so u false e x is = h.known u x is

      within_so : (u : TransId) (e : Bool) (x : Live) → cond {A = Option Live} e (Some (record l { part = p; locks = b })) (map.get k.lives u) ≡ Some x → IsWithin k.sizes x
      within_so u true x is = subst (IsWithin k.sizes) (same_live (record l { part = p; locks = b }) x is) fresh
      within_so u false x is = h.within u x is

      opens_so : (u : TransId) (e : Bool) (x : Live) → cond {A = Option Live} e (Some (record l { part = p; locks = b })) (map.get k.lives u) ≡ Some x → x.part.last ≤ m
      opens_so u true x is = subst (λ (y : Live). y.part.last ≤ m) (same_live (record l { part = p; locks = b }) x is) low
      opens_so u false x is = (let before_now : x.part.last ≤ n = h.opens u x is in omega arith)

      opened_so : (u : TransId) (e : Bool) (x : Live) → cond {A = Option Live} e (Some (record l { part = p; locks = b })) (map.get k.lives u) ≡ Some x → list_all (λ (o : Open). is_given k.server k.epoch k.given o.file) x.part.opens.items ≡ true
      opened_so u true x is = subst (λ (y : Live). list_all (λ (o : Open). is_given k.server k.epoch k.given o.file) y.part.opens.items ≡ true) (same_live (record l { part = p; locks = b }) x is) given
      opened_so u false x is = h.opened u x is

-- ---- no answer

module _ {V : Type 0} (G : Ghosts V) (k : ServerState V) (m : LiveMap) (v : V) where
  -- the server with other parts, and its vault as a look left it
  abbrev pub looked : ServerState V
  looked = record k { lives = m; vault = v }

  -- nothing of that shows: it is as the journal says, it is as ready, and the client's part is there
  pub record IsUnseen (turn : Turn) (t : TransId) : Type 0 where
    pub part : Live
    pub there : map.get m t ≡ Some part
    pub own : part.client ≡ turn.client
    pub kept : (a : Account) → IsAs a (G.held k.vault) k → IsAs a (G.held v) looked
    pub ready : (n : ℕ) (on : Bool) → IsTrue on → IsReady n (G.serves k.vault) k → IsReady n on looked
    pub noted : KeepsNotes k looked

  module _ (turn : Turn) (t : TransId) (c : Call) (unseen : IsUnseen turn t) (left : IsLeft G k.vault v) (is : IsTurn k.sessions turn) (up : k.is_down ≡ false) (named : file_trans c ≡ Some t) (calm : (a : Account) → IsAs a (G.held k.vault) k → waiting_of (state_of a).desk turn.client t ≡ None) (works : standing_of k turn.client t ≡ standing.Work) where
    -- a read failed: the call is refused, and the server goes on
    failed_step : IsTrue (G.serves v) → Rose (G.faults k.vault) (G.faults v)
        → IsStep G k (record looked { sessions = counted_in k.sessions turn (reply.Refused refusal.ReadFault) }) (event.Call turn.client k.epoch turn.number c) (Ok (refused_answer refusal.ReadFault []))
    failed_step on rose =
        left_step G k (record looked { sessions = counted_in k.sessions turn (reply.Refused refusal.ReadFault) }) refl refl refl refl left (event.Call turn.client k.epoch turn.number c) (refused_answer refusal.ReadFault []) up unseen.noted
        (λ told a h. (
        let then : IsAs a (G.held v) looked = unseen.kept a h in
        let y : IsLive a.holder.cells k.locks.held (a.locked t) t unseen.part (a.holder.lives t) = live_there a.holder.cells k.locks.held (a.locked t) t (map.get m t) (a.holder.lives t) unseen.part unseen.there (then.lives t) in
        fault_stepped a (G.faults k.vault) (G.faults v) (G.held v) looked turn t c y.life (refused_answer refusal.ReadFault []) then is up rose named works (calm a h) y.is refl))
        (reply_given (G.faults k.vault) (G.faults v) (G.allowance v) k.is_down (reply.Refused refusal.ReadFault) [] (refused_answer refusal.ReadFault []) refl
        (subst (λ (b : Bool). IsCounted (G.faults k.vault) (G.faults v) b (Some (reply.Refused refusal.ReadFault))) (sym up) (counts_fault (G.faults k.vault) (G.faults v) (Some (reply.Refused refusal.ReadFault)) refl refl left.later rose)) up tt)
        (λ n h. counted_ready n (G.serves v) looked turn (reply.Refused refusal.ReadFault) is (record { inside = tt; times = tt }) (unseen.ready n (G.serves v) on h))
        (λ on. counts_refused k (record looked { sessions = counted_in k.sessions turn (reply.Refused refusal.ReadFault) }) turn is c refusal.ReadFault tt refl refl)

    -- the vault was stopped: the server is down
    stopped_step : G.serves v ≡ false → G.allowance v ≡ Spent → IsStep G k (record looked { is_down = true }) (event.Call turn.client k.epoch turn.number c) (Ok (refused_answer refusal.Down (act.Stopped ∷ [])))
    stopped_step off spent =
        left_step G k (record looked { is_down = true }) refl refl refl refl left (event.Call turn.client k.epoch turn.number c) (refused_answer refusal.Down (act.Stopped ∷ [])) up unseen.noted
        (λ told a h. file_halt_stepped a (G.faults k.vault) (G.faults v) (G.held v) (G.held v) looked turn t v c (refused_answer refusal.Down (act.Stopped ∷ [])) (unseen.kept a h) is up named works (calm a h) refl)
        (reply_given (G.faults k.vault) (G.faults v) (G.allowance v) true (reply.Refused refusal.Down) (act.Stopped ∷ []) (refused_answer refusal.Down (act.Stopped ∷ [])) refl
        (counts_down (G.faults k.vault) (G.faults v) left.later) refl (spent, tt))
        (λ n h. down_ready n true (G.serves v) looked v off (unseen.ready n true refl h))
        (λ on. cc)

    -- memory was wanting
    wanting_step : (r : Result Answer OutOfMemory) → IsErr r → IsTrue (G.serves v) → G.faults v ≡ G.faults k.vault → IsStep G k looked (event.Call turn.client k.epoch turn.number c) r
    wanting_step r err on faults =
        wanting G k looked (event.Call turn.client k.epoch turn.number c) r err
        (record { kept = unseen.kept; ready = λ n h. unseen.ready n (G.serves v) on h; up = refl; sessions = refl; clock = refl; vault = record { held = left.contents; faults = faults; allowance = left.allowed } })
        (left_noted G k looked refl refl refl refl left up unseen.noted) (left_seated G k looked refl refl refl refl left) left

  -- whatever the fault was
  pub without_step : (N new : ServerState V) (turn : Turn) (t : TransId) (c : Call) (fault : CallFault) (r : Result Answer OutOfMemory) → N ≡ looked → Looks G k.vault v (Some fault) → IsTurn k.sessions turn → k.is_down ≡ false → file_trans c ≡ Some t → ((a : Account) → IsAs a (G.held k.vault) k → waiting_of (state_of a).desk turn.client t ≡ None) → standing_of k turn.client t ≡ standing.Work → IsUnseen turn t
      → (fault ≡ call_fault.Failed → IsRefused N new turn refusal.ReadFault r) → (fault ≡ call_fault.Stopped → IsDown N new (act.Stopped ∷ []) r) → (fault ≡ call_fault.OutOfMemory → (new ≡ N) × IsErr r)
      → IsStep G k new (event.Call turn.client k.epoch turn.number c) r
  without_step N new turn t c call_fault.Failed r is_looked look is up named calm works unseen failed stopped memory =
      let x : IsRefused N new turn refusal.ReadFault r = failed refl in
      let is_new : new ≡ record looked { sessions = counted_in k.sessions turn (reply.Refused refusal.ReadFault) } = x.kept ∙ ap (λ (y : ServerState V). record y { sessions = counted_in y.sessions turn (reply.Refused refusal.ReadFault) }) is_looked in
      subst (λ (y : ServerState V). IsStep G k y (event.Call turn.client k.epoch turn.number c) r) (sym is_new)
      (subst (IsStep G k (record looked { sessions = counted_in k.sessions turn (reply.Refused refusal.ReadFault) }) (event.Call turn.client k.epoch turn.number c)) (sym x.answer) (failed_step turn t c unseen look.0 is up named calm works look.1 look.2))
  without_step N new turn t c call_fault.Stopped r is_looked look is up named calm works unseen failed stopped memory =
      let x : IsDown N new (act.Stopped ∷ []) r = stopped refl in
      let is_new : new ≡ record looked { is_down = true } = x.kept ∙ ap (λ (y : ServerState V). record y { is_down = true }) is_looked in
      subst (λ (y : ServerState V). IsStep G k y (event.Call turn.client k.epoch turn.number c) r) (sym is_new)
      (subst (IsStep G k (record looked { is_down = true }) (event.Call turn.client k.epoch turn.number c)) (sym x.answer) (stopped_step turn t c unseen look.0 is up named calm works look.1 look.2))
  without_step N new turn t c call_fault.OutOfMemory r is_looked look is up named calm works unseen failed stopped memory =
      let x = memory refl in
      subst (λ (y : ServerState V). IsStep G k y (event.Call turn.client k.epoch turn.number c) r) (sym (x.0 ∙ is_looked)) (wanting_step turn t c unseen look.0 is up named calm works r x.1 look.1 look.2)

-- ---- looks that show nothing

module _ {V : Type 0} (G : Ghosts V) (k : ServerState V) (turn : Turn) (t : TransId) (l : Live) (v : V) (there : map.get k.lives t ≡ Some l) (own : l.client ≡ turn.client) (left : IsLeft G k.vault v) (up : k.is_down ≡ false) (unvoted : HasNoVoter k.joins.lives t) where
  -- no part was touched
  pub look_unseen : IsUnseen G k k.lives v turn t
  look_unseen = record {
    part = l;
    there = there;
    own = own;
    kept = λ a h. as_with a (G.held k.vault) (G.held v) k v left.contents h;
    ready = λ n on serving h. ready_with n (G.serves k.vault) on k v serving up h;
    noted = λ notes h. h;
  }

  -- or one that stands as before
  pub part_unseen : (p : Part) → IsPart p → IsAsBefore l.part p → IsUnseen G k (map.insert k.lives t (record l { part = p; locks = l.locks })) v turn t
  part_unseen p sound same = record {
    part = record l { part = p; locks = l.locks };
    there = put_there k.lives t (record l { part = p; locks = l.locks });
    own = own;
    kept = λ a h. part_still a (G.held k.vault) k t l p l.locks v (G.held v) h left.contents there same refl;
    ready = λ n on serving h. (
        let last = ap (λ (w : Own). w.last) same.1 in
        let low : p.last ≤ n = (let was : l.part.last ≤ n = h.opens t l there in omega (arith, last)) in
        part_ready n (G.serves k.vault) on k t l p l.locks v n serving up unvoted there low (le_refl n)
        (ap (λ (w : Own). list_all (λ (o : Open). is_given k.server k.epoch k.given o.file) w.opens) same.1 ∙ h.opened t l there) (within_same k.sizes l p sound same (h.within t l there))
        (each_so (λ (w : WaitingCall). is_file_on t w ≡ true → IsLikePart l (record l { part = p; locks = l.locks })) (λ w e. record { client = refl; opens = ap (λ (w : Own). length w.opens) same.1; cells = ap (λ (n : Counts). n.cells) same.2 }) k.waits) h);
    noted = λ notes h. noted_on k.lives (map.insert k.lives t (record l { part = p; locks = l.locks })) k.server k.servers k.epoch k.joins k.coordinator notes (voters_put k.lives t (record l { part = p; locks = l.locks }) k.joins.lives unvoted) h;
  }

-- a look that brought no answer leaves the vault too
pub looks_left : {V : Type 0} (G : Ghosts V) (old new : V) (fault : CallFault) → Looks G old new (Some fault) → IsLeft G old new
looks_left G old new call_fault.Failed h = h.0
looks_left G old new call_fault.Stopped h = h.0
looks_left G old new call_fault.OutOfMemory h = h.0
