-- steps by which a transaction without parts on other servers is decided
use Rattle.std.specs.Prelude.{Bool, true, false, max, sum_by, IsTrue, Option, None, Some, Result, Ok, Err}
use Rattle.std.specs.List.{list_any}
use Rattle.std.specs.Result.{IsErr}
use Rattle.std.specs.FinMap as map
use Rattle.std.proofs.Common.{◌⊎◌, ◌≡◌, ℕ, ◌+◌, ◌*◌, ◌^◌, ◌<◌, ◌≤◌, List, [], ◌∷◌, ◌++◌, refl, sym, ◌∙◌, ap, subst, arith, le_refl, inl, inr}
use Rattle.alp_base.specs.Notes.{Notes, notes_after}
use Rattle.alp_base.specs.declared.bytes.NoteChange.{NoteChange}
use Rattle.alp_base.specs.declared.ids.Stamp.{Stamp}
use Rattle.alp_base.specs.declared.ids.TransId.{TransId}
use Rattle.alp_base.specs.declared.key.Key.{Key}
use Rattle.alp_base.specs.declared.memory.OutOfMemory.{OutOfMemory}
use Rattle.alp_fields.specs.ClockNote.{clock_form}
use Rattle.alp_fields.specs.declared.clock_note.ClockNote.{ClockNote}
use Rattle.alp_files.specs.declared.call.Call.TheVariants as call
use Rattle.alp_files.specs.declared.refusal.Refusal.TheVariants as refusal
use Rattle.alp_files.specs.declared.reply.Reply.TheVariants as reply
use Rattle.alp_trans.specs.declared.part.Part.{Part}
use Rattle.alp_calls.proofs.LookLemmas.{left_same}
use Rattle.alp_vault.specs.Contents.{Contents}
use Rattle.alp_vault.specs.Volumes.{AreNoteChanges, noted_bytes}
use Rattle.alp_vault.specs.declared.vault.Vault.{Ghosts}
use Rattle.alp_vault.proofs.VolumeLemmas.{clock_length}
use Rattle.alp_journal.specs.declared.act.Act.{Act}
use Rattle.alp_journal.specs.declared.act.Act.TheVariants as act
use Rattle.alp_journal.specs.declared.event.Event.{Event}
use Rattle.alp_journal.specs.declared.event.Event.TheVariants as event
use Rattle.alp_journal.specs.Account.{Account, state_of}
use Rattle.alp_journal.specs.Coordinator.{Running, joins_of}
use Rattle.alp_journal.specs.Deeds.{Finishes, Decides}
use Rattle.alp_journal.specs.Desk.{waiting_of}
use Rattle.alp_journal.specs.Messages.{why_not_own}
use Rattle.alp_journal.specs.Moves.{is_stop}
use Rattle.alp_coord.specs.declared.coordinator.Coordinator.{Coordinator}
use Rattle.alp_coord.specs.Coordinators.{Comes, fate_in}
use Rattle.alp_worker.specs.Rooms.{applying_of}
use Rattle.alp_node.specs.Dead.{cause_in}
use Rattle.alp_node.specs.Durable.{NoOther, IsWritten}
use Rattle.alp_node.specs.Eases.{eased}
use Rattle.alp_node.specs.Halts.{Ends, HaveCauses}
use Rattle.alp_node.specs.Noted.{AreNoted, AreNotesFor, size_in, size_of}
use Rattle.alp_node.specs.Releases.{granted_behind, grant_acts, let_go}
use Rattle.alp_node.specs.ServerState.{IsAs, IsReady}
use Rattle.alp_node.specs.Standings.{standing_of}
use Rattle.alp_node.specs.Steps.{IsNoted, IsStep, IsTurn, counted_in, refused_answer, told_answer}
use Rattle.alp_node.specs.Turns.{HasTurned}
use Rattle.alp_node.specs.Votes.{own_why}
use Rattle.alp_node.specs.Waits.{has_waiting}
use Rattle.alp_node.specs.Writes.{HasDecided, HasHalted, HasLogFor, HasMade, HasNone, IsPending, Writes, decision_changes}
use Rattle.alp_node.specs.declared.answer.Answer.{Answer}
use Rattle.alp_node.specs.declared.decide.Pending.{Pending}
use Rattle.alp_node.specs.declared.lives.Live.{Live}
use Rattle.alp_node.specs.declared.served.Standing.TheVariants as standing
use Rattle.alp_node.specs.declared.server_state.ServerState.{ServerState}
use Rattle.alp_node.specs.declared.sessions.CallOrder.TheVariants as order
use Rattle.alp_node.specs.declared.sessions.Turn.{Turn}
use Rattle.alp_node.specs.declared.stored.StoreFault.{StoreFault}
use Rattle.alp_node.specs.declared.stored.StoreFault.TheVariants as fault
use Rattle.alp_node.proofs.ClockLaws.{time_fits}
use Rattle.alp_node.proofs.CommitLemmas.{commit_halt_stepped, commit_leaves, commit_stepped, halt_leaves, own_early, own_log, waits_none}
use Rattle.alp_node.proofs.CommitNotes.{alone_decided, clock_changes, noted_clock}
use Rattle.alp_node.proofs.EaseLemmas.{eased_ready, eased_sizes}
use Rattle.alp_node.proofs.GivenLemmas.{counts_none, reply_given}
use Rattle.alp_node.proofs.KeptLemmas.{as_with}
use Rattle.alp_node.proofs.LogLemmas.{commit_room, notes_few}
use Rattle.alp_node.proofs.NotedLemmas.{noted_decided, noted_on, voters_same, voters_then}
use Rattle.alp_node.proofs.ReadyLemmas.{counted_ready, own_lets, ready_with}
use Rattle.alp_node.proofs.ReleaseLemmas.{grants_caused, grants_go_on, let_go_of, let_go_ready, let_go_voters, let_gone}
use Rattle.alp_node.proofs.SeatLemmas.{left_leaves, spends_nothing}
use Rattle.alp_node.proofs.StandingLemmas.{own_works, standing_here}
use Rattle.alp_node.proofs.StepLemmas.{down_step}
use Rattle.alp_node.proofs.TransactionLemmas.{LetsGo, lets_decide}
use Rattle.alp_node.proofs.TurnLemmas.{counts_on}

-- ---- a vault that nobody asked

pub writes_none : {V : Type 0} (G : Ghosts V) (v : V) (p : Part) (changes : List NoteChange) → IsTrue (G.serves v) → Writes G v v p changes (Err fault.OutOfMemory)
writes_none G v p changes on = record {
  same = (left_same G v).same;
  cells = λ told. tt;
  notes = tt;
  leaves = λ told. left_leaves G v v (IsWritten p.intents changes (G.held v)) (left_same G v);
  memory = λ told is. left_leaves G v v NoOther (left_same G v);
  spends = spends_nothing (G.allowance v);
  ended = (on, record { held = refl; faults = refl; allowance = refl });
}

-- memory was wanting
pub none_step : {V : Type 0} (G : Ghosts V) (k new : ServerState V) (p : Pending) (l : Live) (e : Event) (f : OutOfMemory) → map.get k.lives p.stamp.trans ≡ Some l → k.is_down ≡ false → HasNone G k new p → IsStep G k new e (Err f)
none_step G k new p l e f there up none =
    let v = new.vault in
    let w : Writes G k.vault v l.part p.notes.items (Err fault.OutOfMemory) = none.writes l there in
    subst (λ (y : ServerState _). IsStep G k y e (Err f)) (sym none.kept) (record {
      stepped = λ told a h. tt;
      given = tt;
      ready = λ n h. tt;
      noted = λ h on. subst (λ (c : Contents). AreNotesFor k c.notes) (sym w.ended.1.held) (h on);
      still = record {
        kept = λ a h. as_with a (G.held k.vault) (G.held v) k v w.ended.1.held h;
        ready = λ n h. ready_with n (G.serves k.vault) (G.serves v) k v w.ended.0 up h;
        up = refl;
        sessions = refl;
        clock = refl;
        vault = w.ended.1;
      };
      seat = record { server = refl; servers = refl; sizes = refl; epoch = refl; same = w.same; spends = w.spends };
      turned = λ on. tt;
      leaves = λ told a h. w.memory told refl;
    })

err_of : {T E : Type 0} (r : Result T E) → IsErr r → (f : E) × (r ≡ Err f)
err_of (Err f) e = (f, refl)
err_of (Ok x) e = let wrong : false ≡ true = e in cc

pub none_result : {V : Type 0} (G : Ghosts V) (k new : ServerState V) (p : Pending) (l : Live) (e : Event) (r : Result Answer OutOfMemory) → map.get k.lives p.stamp.trans ≡ Some l → k.is_down ≡ false → HasNone G k new p → IsErr r → IsStep G k new e r
none_result G k new p l e r there up none err =
    let q = err_of r err in
    subst (λ (x : Result Answer OutOfMemory). IsStep G k new e x) (sym q.1) (none_step G k new p l e q.0 there up none)

-- ---- what is written, and what stands then

module _ {V : Type 0} (n : ℕ) (serves : Bool) (k : ServerState V) (t : TransId) (l : Live) (h : IsReady n serves k) (may : own_why k t ≡ None) (there : map.get k.lives t ≡ Some l) where
  abbrev pub alone_stamp : Stamp
  alone_stamp = record { ts = k.clock + 1; trans = t }

  abbrev alone_clock : ClockNote
  alone_clock = record { epoch = k.epoch; clock = k.clock + 1 }

  clock_fits : clock_form.Fits alone_clock
  clock_fits = time_fits alone_clock h.last (let early : k.clock < 2 ^ 62 = own_early k t may in omega (arith, early))

  module _ (notes : Notes) (are : AreNotesFor k notes) where
    pub alone_changes : AreNoteChanges k.server k.servers notes (decision_changes k.epoch alone_stamp [])
    alone_changes =
        clock_changes k.server k.servers notes alone_clock are.format (noted_clock k.server k.servers k.epoch (k.clock + 1) k.lives k.joins k.coordinator notes clock_fits are).format
        (notes_few k.server k.servers k.epoch k.lives k.joins k.coordinator notes are h.most)

    pub alone_log : HasLogFor notes k.sizes l (decision_changes k.epoch alone_stamp [])
    alone_log =
        let apply : applying_of (size_in k.lives t) ≡ 4 * l.part.counts.cells + 4 = ap (λ (o : Option Live). applying_of (size_of o)) there in
        let short : sum_by (λ (c : NoteChange). noted_bytes c.name c.value) (decision_changes k.epoch alone_stamp []) ≤ 128 = omega (arith, clock_length alone_clock) in
        commit_room k.server k.servers k.epoch k.lives k.joins k.coordinator notes are h.most k.sizes.area (applying_of (size_in k.lives t)) l.part.counts.cells (sum_by (λ (c : NoteChange). noted_bytes c.name c.value) (decision_changes k.epoch alone_stamp []))
        (own_log k t may) (omega (arith, apply)) (h.within t l there).part.most short

    -- the notes are of what is kept then
    pub alone_noted : (mid z : Coordinator) (blocks : List Key) → t.server ≡ k.server → joins_of (fate_in k.coordinator t) ≡ [] → Comes (Finishes t) k.coordinator mid → Comes (Decides alone_stamp (joins_of (fate_in mid t))) mid z
        → AreNoted k.server k.servers k.epoch (eased blocks (let_go k t).lives (map.keys k.lives)) k.joins z (notes_after (decision_changes k.epoch alone_stamp []) notes)
    alone_noted mid z blocks own alone finished decided =
        noted_clock k.server k.servers k.epoch (k.clock + 1) (eased blocks (let_go k t).lives (map.keys k.lives)) k.joins z notes clock_fits
        (noted_decided k.server k.servers k.epoch (eased blocks (let_go k t).lives (map.keys k.lives)) k.joins k.coordinator z notes (alone_decided k.coordinator mid z alone_stamp finished decided alone)
        (noted_on k.lives (eased blocks (let_go k t).lives (map.keys k.lives)) k.server k.servers k.epoch k.joins k.coordinator notes
        (voters_then k.lives (let_go k t).lives (eased blocks (let_go k t).lives (map.keys k.lives)) k.joins.lives (let_go_voters n serves k t h own)
        (voters_same (let_go k t).lives (eased blocks (let_go k t).lives (map.keys k.lives)) k.joins.lives (eased_sizes blocks (let_go k t).lives (map.keys k.lives)))) are))

  pub alone_ready : (turn : Turn) (after : Bool) (v : V) (z : Coordinator) (blocks : List Key) → LetsGo k.coordinator z t (k.clock + 1) → IsTrue after → k.is_down ≡ false → IsTurn k.sessions turn → t.server ≡ k.server
      → IsReady (n + 1) after (record (let_go k t) { lives = eased blocks (let_go k t).lives (map.keys k.lives); sessions = counted_in k.sessions turn (reply.Committed alone_stamp); clock = k.clock + 1; coordinator = z; vault = v })
  alone_ready turn after v z blocks lets on up is own =
      let early : k.clock < 2 ^ 62 = own_early k t may in
      eased_ready (n + 1) after (record (let_go k t) { sessions = counted_in k.sessions turn (reply.Committed alone_stamp); clock = k.clock + 1; coordinator = z; vault = v }) blocks (map.keys k.lives)
      (subst (λ (y : ServerState V). IsReady (n + 1) after y)
      (ap (λ (y : ServerState V). record y { sessions = counted_in k.sessions turn (reply.Committed alone_stamp); clock = k.clock + 1; coordinator = z; vault = v }) (sym (let_go_of k t)))
      (ready_with (n + 1) serves after (record (let_gone n k t z k.joins (k.clock + 1)) { sessions = counted_in k.sessions turn (reply.Committed alone_stamp) }) v on up
      (counted_ready n serves (let_gone n k t z k.joins (k.clock + 1)) turn (reply.Committed alone_stamp) is (record { inside = tt; times = le_refl (k.clock + 1) })
      (let_go_ready n k t z k.joins serves (k.clock + 1) (omega arith) (omega (arith, early)) (own_lets n serves k t z (k.clock + 1) lets own h) h))))

-- ---- the steps

-- a part at work of a transaction that has no others
pub alone_runs : {V : Type 0} (k : ServerState V) (client : ℕ) (t : TransId) → t.server ≡ k.server → standing_of k client t ≡ standing.Work → joins_of (fate_in k.coordinator t) ≡ [] → fate_in k.coordinator t ≡ Running client []
alone_runs k client t here works alone =
    let runs = own_works client (cause_in k.dead client t) (fate_in k.coordinator t) (standing_here k client t standing.Work here works) in
    runs.1 ∙ ap (Running client) (sym (ap joins_of runs.1) ∙ alone)

module _ {V : Type 0} (G : Ghosts V) (n : ℕ) (k : ServerState V) (turn : Turn) (t : TransId) (l : Live) (ready : IsReady n (G.serves k.vault) k) (is : IsTurn k.sessions turn) (up : k.is_down ≡ false) (here : t.server ≡ k.server) (there : map.get k.lives t ≡ Some l)
    (own : l.client ≡ turn.client) (runs : fate_in k.coordinator t ≡ Running turn.client []) (idle : has_waiting turn.client t k.waits ≡ false) (may : own_why k t ≡ None)
    (journal : (a : Account) (held : Contents) → IsAs a held k → why_not_own false (state_of a) t ≡ own_why k t) where
  abbrev stamp : Stamp
  stamp = record { ts = k.clock + 1; trans = t }

  abbrev finish_event : Event
  finish_event = event.Call turn.client k.epoch turn.number (call.Finish t true)

  none_waits : (a : Account) → IsAs a (G.held k.vault) k → waiting_of (state_of a).desk turn.client t ≡ None
  none_waits a h = waits_none a (G.held k.vault) k turn.client t l n (G.serves k.vault) h ready there own idle

  module _ (p : Pending) (pends : IsPending k stamp [] p) where
    its_live : map.get k.lives p.stamp.trans ≡ Some l
    its_live = ap (λ (s : Stamp). map.get k.lives s.trans) pends.stamp ∙ there

    -- ---- the server went down in it

    -- the vault is off, and that has its cause
    record IsHalt (v : V) (shown : Act) : Type 0 where
      off : G.serves v ≡ false
      later : G.faults k.vault ≤ G.faults v
      stop : (shown ≡ act.Stopped) ⊎ (shown ≡ act.Failed)
      stops : list_any is_stop (act.Decided stamp [] ∷ shown ∷ []) ≡ true
      causes : HaveCauses (G.faults k.vault) (G.faults v) (G.allowance v) (act.Decided stamp [] ∷ shown ∷ [])

    is_halt : (v : V) (why : StoreFault) (shown : Act) → ((why ≡ fault.Failed) × (shown ≡ act.Failed)) ⊎ ((why ≡ fault.Stopped) × (shown ≡ act.Stopped)) → Ends {T = Unit {0}} G k.vault v (Err why) → IsHalt v shown
    is_halt v why shown of ends = elim of [
      | inl f ↦ (let e : Ends {T = Unit {0}} G k.vault v (Err fault.Failed) = subst (λ (x : StoreFault). Ends {T = Unit {0}} G k.vault v (Err x)) f.0 ends in
          subst (IsHalt v) (sym f.1) (record { off = e.0; later = e.2; stop = inr refl; stops = refl; causes = (e.1, tt) }))
      | inr s ↦ (let e : Ends {T = Unit {0}} G k.vault v (Err fault.Stopped) = subst (λ (x : StoreFault). Ends {T = Unit {0}} G k.vault v (Err x)) s.0 ends in
          subst (IsHalt v) (sym s.1) (record { off = e.0; later = e.2; stop = inl refl; stops = refl; causes = (e.1, tt) }))
    ]

    pub halted_step : (new : ServerState V) (acts : List Act) (x : Answer) → HasHalted G k new p acts → x ≡ refused_answer refusal.Down acts → IsStep G k new finish_event (Ok x)
    halted_step new acts x down so =
        let v = new.vault in
        let w : Writes G k.vault v l.part (decision_changes k.epoch stamp []) (Err down.why) = subst (λ (ns : List NoteChange). Writes G k.vault v l.part ns (Err down.why)) pends.notes (down.writes l its_live) in
        let z : Act = down.shown in
        let halt : IsHalt v z = is_halt v down.why z down.of w.ended in
        let said : acts ≡ act.Decided stamp [] ∷ z ∷ [] = down.said ∙ ap (λ (xs : List Act). xs ++ z ∷ []) pends.halted in
        let tells : x ≡ refused_answer refusal.Down (act.Decided stamp [] ∷ z ∷ []) = so ∙ ap (refused_answer refusal.Down) said in
        let early : k.clock < 2 ^ 62 = own_early k t may in
        down_step G k new v turn (call.Finish t true) x (act.Decided stamp [] ∷ z ∷ []) w.same w.spends halt.off halt.later down.kept tells halt.stops halt.causes
        (λ told a h. commit_halt_stepped a (G.faults k.vault) (G.faults v) (G.held k.vault) (G.held v) k turn t v z l n (G.serves k.vault) halt.stop h ready is up early here there runs (none_waits a h) (journal a (G.held k.vault) h ∙ may) x tells)
        (λ told a h. halt_leaves a (G.faults k.vault) (G.faults v) (G.held k.vault) (G.held v) k turn t v z l n (G.serves k.vault) halt.stop h ready is up early here there runs (none_waits a h) (journal a (G.held k.vault) h ∙ may) x tells G refl (w.leaves told))

    -- ---- it is decided

    module _ (dec new : ServerState V) (acts : List Act) (x : Answer) (d : HasDecided G k dec p acts) (counts : new ≡ record dec { sessions = counted_in dec.sessions turn (reply.Committed stamp) }) (so : x ≡ told_answer (Some (reply.Committed stamp)) acts) where
      abbrev vault_then : V
      vault_then = d.made.vault

      abbrev coordinator_then : Coordinator
      coordinator_then = dec.coordinator

      part : HasMade (G.tells k.vault) (G.held k.vault).cells k d.made t
      part = subst (λ (s : Stamp). HasMade (G.tells k.vault) (G.held k.vault).cells k d.made s.trans) pends.stamp d.part

      w : Writes G k.vault vault_then l.part (decision_changes k.epoch stamp []) (Ok tt)
      w = subst (λ (ns : List NoteChange). Writes G k.vault vault_then l.part ns (Ok tt)) pends.notes (d.writes l its_live)

      finished : Comes (Finishes t) k.coordinator d.mid
      finished = subst (λ (s : Stamp). Comes (Finishes s.trans) k.coordinator d.mid) pends.stamp d.finished

      decided : Comes (Decides stamp (joins_of (fate_in d.mid t))) d.mid coordinator_then
      decided = subst (λ (s : Stamp). Comes (Decides s (joins_of (fate_in d.mid s.trans))) d.mid coordinator_then) pends.stamp d.decided

      abbrev acts_then : List Act
      acts_then = act.Decided stamp [] ∷ act.Released t ∷ grant_acts (granted_behind k t)

      tells : x ≡ told_answer (Some (reply.Committed stamp)) acts_then
      tells = so ∙ ap (told_answer (Some (reply.Committed stamp))) (d.said ∙ (λ i. pends.acts i ++ grant_acts (granted_behind k (pends.stamp i).trans)))

      abbrev after : ServerState V
      after = record (let_go k t) {
        lives = eased part.blocks (let_go k t).lives (map.keys k.lives);
        sessions = counted_in k.sessions turn (reply.Committed stamp);
        clock = k.clock + 1;
        coordinator = coordinator_then;
        vault = vault_then;
      }

      kept : new ≡ after
      kept =
          let greater : max k.clock (k.clock + 1) ≡ k.clock + 1 = omega arith in
          let clock : max k.clock p.stamp.ts ≡ k.clock + 1 = ap (λ (s : Stamp). max k.clock s.ts) pends.stamp ∙ greater in
          counts
          ∙ ap (λ (y : ServerState V). record y { sessions = counted_in y.sessions turn (reply.Committed stamp) })
          (d.kept ∙ (λ i. record (part.kept i) { clock = clock i; coordinator = coordinator_then }))
          ∙ (λ i. record after { sessions = counted_in (let_go_of k t i).sessions turn (reply.Committed stamp) })

      still_up : (let_go k t).is_down ≡ false
      still_up = ap (λ (y : ServerState V). y.is_down) (let_go_of k t) ∙ up

      lets : (m : ℕ) → IsReady m (G.serves k.vault) k → LetsGo k.coordinator coordinator_then t (k.clock + 1)
      lets m h = lets_decide k.coordinator d.mid coordinator_then t (joins_of (fate_in d.mid t)) k.clock (k.clock + 1) d.first finished d.second decided (omega arith) h.times

      noted_then : IsNoted G k → IsNoted G after
      noted_then h on =
          subst (λ (y : ServerState V). AreNoted y.server y.servers y.epoch (eased part.blocks (let_go k t).lives (map.keys k.lives)) y.joins coordinator_then (G.held vault_then).notes) (sym (let_go_of k t))
          (subst (AreNoted k.server k.servers k.epoch (eased part.blocks (let_go k t).lives (map.keys k.lives)) k.joins coordinator_then) (sym w.notes)
          (alone_noted n (G.serves k.vault) k t l ready may there (G.held k.vault).notes (h up) d.mid coordinator_then part.blocks here (ap joins_of runs) finished decided))

      pub made_step : IsStep G k new finish_event (Ok x)
      made_step = subst (λ (y : ServerState V). IsStep G k y finish_event (Ok x)) (sym kept) (record {
        stepped = λ told a h.
            commit_stepped a (G.faults k.vault) (G.faults vault_then) (G.held k.vault) (G.held vault_then) k turn t l vault_then d.mid coordinator_then n (G.serves k.vault) h ready is up (own_early k t may) here there runs (none_waits a h) (journal a (G.held k.vault) h ∙ may)
            d.first finished d.second decided x tells part.blocks (part.opened told l there) (w.cells told) w.notes;
        given =
            reply_given (G.faults k.vault) (G.faults vault_then) (G.allowance vault_then) (let_go k t).is_down (reply.Committed stamp) acts_then x tells (counts_none (G.faults k.vault) (G.faults vault_then) (let_go k t).is_down (Some (reply.Committed stamp)) refl w.ended.1 still_up)
            (still_up ∙ sym (grants_go_on (granted_behind k t))) (grants_caused (G.faults k.vault) (G.faults vault_then) (G.allowance vault_then) (granted_behind k t));
        ready = λ m h. alone_ready m (G.serves k.vault) k t l h may there turn (G.serves vault_then) vault_then coordinator_then part.blocks (lets m h) w.ended.0 up is here;
        noted = noted_then;
        still = tt;
        seat = record {
          server = ap (λ (y : ServerState V). y.server) (let_go_of k t);
          servers = ap (λ (y : ServerState V). y.servers) (let_go_of k t);
          sizes = ap (λ (y : ServerState V). y.sizes) (let_go_of k t);
          epoch = ap (λ (y : ServerState V). y.epoch) (let_go_of k t);
          same = w.same;
          spends = w.spends;
        };
        turned = λ on. subst (λ (y : Answer). HasTurned (Some order.Next) k after finish_event y.kept) (sym tells) (counts_on k after turn is (call.Finish t true) (reply.Committed stamp) tt (omega arith) (omega arith) tt refl);
        leaves = λ told a h.
            commit_leaves a (G.faults k.vault) (G.faults vault_then) (G.held k.vault) (G.held vault_then) k turn t l vault_then d.mid coordinator_then n (G.serves k.vault) h ready is up (own_early k t may) here there runs (none_waits a h) (journal a (G.held k.vault) h ∙ may)
            d.first finished d.second decided x tells G refl (w.leaves told);
      })
