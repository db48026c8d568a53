-- what a call of a live part comes to
use Rattle.std.specs.Prelude.{suc, cond, Bool, true, false, Option, None, Some, Result, Ok, Err, IfOk, OnErr}
use Rattle.std.specs.List.{AllByRecursion}
use Rattle.std.specs.FinMap as map
use Rattle.std.proofs.Common.{◌≡◌, ℕ, ◌+◌, ◌≤◌, List, [], ◌∷◌, ◌++◌, length, append_assoc, refl, sym, ◌∙◌, ap, subst, arith}
use Rattle.alp_base.specs.declared.ids.FileId.{FileId}
use Rattle.alp_base.specs.declared.ids.TransId.{TransId}
use Rattle.std.specs.Option.{option_to_list}
use Rattle.alp_base.specs.declared.key.Resource.{Resource}
use Rattle.alp_base.specs.declared.key.Key.{Key}
use Rattle.alp_base.specs.declared.key.Key.TheVariants.{Leader}
use Rattle.alp_files.specs.Apart.{IsWithin, OpensRead}
use Rattle.alp_files.specs.Holdings.{Holding, IsIntended}
use Rattle.alp_files.specs.Act.{Own, Answer, answer, id_in}
use Rattle.alp_files.specs.Born.{count_after}
use Rattle.alp_files.proofs.EditLemmas.{edits_at-append}
use Rattle.alp_files.proofs.IntentLemmas.{through_of, intents_from-append}
use Rattle.alp_files.proofs.FilesLemmas.{same-some}
use Rattle.alp_files.specs.Edits.{Edit, edits_at, after}
use Rattle.alp_files.specs.Needs.{Intents, no_intents, intents_from, through}
use Rattle.alp_files.specs.Locks.{Reads, Writes, with_made}
use Rattle.alp_files.proofs.HistoryLemmas.{get-edits_map}
use Rattle.alp_locks.specs.Tables.{Table, held_of, holding}
use Rattle.alp_vault.specs.Contents.{Contents}
use Rattle.alp_files.specs.Locks.{needs_made}
use Rattle.alp_journal.specs.Ids.{same_trans}
use Rattle.alp_journal.specs.Holder.{Life, view_in, answer_in}
use Rattle.alp_journal.specs.Counts.{lock_set, with_resources}
use Rattle.alp_journal.specs.Desk.{Session, Waiting, file_trans, is_of}
use Rattle.alp_journal.specs.Account.{Account, state_of, IsQuiet}
use Rattle.alp_journal.proofs.IdLemmas.{same_trans-true}
use Rattle.alp_journal.proofs.FileCalls.{with_call, life_after}
use Rattle.alp_files.specs.declared.call.Call.{Call}
use Rattle.alp_files.specs.declared.reply.Reply.{Reply}
use Rattle.alp_files.specs.declared.reply.Reply.TheVariants as reply
use Rattle.alp_files.specs.Cells.{Cells, View}
use Rattle.alp_calls.specs.declared.fault.CallFault.{CallFault}
use Rattle.alp_calls.specs.declared.limits.Room.{Room}
use Rattle.alp_calls.specs.Parts.{seen, Performs, GivesOnly, IsAsBefore, IsPart, IsRight, Answered}
use Rattle.alp_files.specs.declared.refusal.Refusal.{Refusal}
use Rattle.alp_trans.specs.Counting.{AreCountsOf}
use Rattle.alp_trans.specs.Parts.{own_of}
use Rattle.alp_trans.specs.declared.counts.Counts.{Counts}
use Rattle.alp_trans.specs.declared.part.Part.{Part}
use Rattle.alp_calls.specs.Looks.{Looks, fault_in}
use Rattle.alp_vault.specs.declared.vault.Vault.{Ghosts}
use Rattle.alp_journal.specs.declared.act.Act.{Act}
use Rattle.alp_node.specs.Calls.{name_in, given_of, IsAnswerTo, Outcome, Performed, next_file}
use Rattle.alp_node.specs.declared.answer.Given.{Given}
use Rattle.alp_node.specs.Covers.{AreHeld, AreSizedEdits}
use Rattle.alp_node.specs.Rooms.{IsRoomOf, locks_given}
use Rattle.alp_node.specs.Totals.{LiveMap, totals_of}
use Rattle.alp_node.specs.declared.lock_counts.LockCounts.{LockCounts}
use Rattle.alp_node.proofs.TotalLemmas.{AreRoomed, same_room, swapped_room}
use Rattle.alp_node.specs.Durable.{AreNotesOf}
use Rattle.alp_node.specs.ServerState.{IsCaller, IsLife, IsAlike, IsAs, IsToCome, SeesNoneToCome, PutNoneBeyond, AreMade, ids_to}
use Rattle.alp_node.proofs.ToComeLemmas.{next_to_come, comes_later, to_come_kept}
use Rattle.alp_node.specs.Steps.{IsTurn, counted_in}
use Rattle.alp_node.specs.declared.sessions.Turn.{Turn}
use Rattle.alp_node.specs.declared.server_state.ServerState.{ServerState}
use Rattle.alp_node.specs.declared.lives.Live.{Live}
use Rattle.alp_node.proofs.BesideLemmas.{AreNamed, AreOthers, others_told, queue_beside, asked_beside}
use Rattle.alp_node.proofs.MapLemmas.{put_twice, get_put, places_set}
use Rattle.alp_node.proofs.KeptLemmas.{IsLive, session_of, session_then, live_there, same_live, alike_set, each_set, sessions_as}

outcome_of : (tells : Bool) (cells : Cells) (id : FileId) (l : Live) (p : Part) (c : Call) (room : Room) (acts : List Act) (given : Result Reply CallFault) (r : Result Given CallFault) → IfOk given (Answered tells cells l.part p (name_in l.who) id c room) → OnErr given (IsAsBefore l.part p)
    → IsAnswerTo given acts r → Outcome tells cells id l p c room acts r
outcome_of tells cells id l p c room acts (Ok g) (Ok x) done err to = record { is = to ∙ ap (λ (y : Given). given_of y.reply acts) (sym to); given = subst (λ (y : Given). Answered tells cells l.part p (name_in l.who) id c room y.reply) (sym to) done }
outcome_of tells cells id l p c room acts (Ok g) (Err e) done err to = done.reads to.1
outcome_of tells cells id l p c room acts (Err f) (Ok x) done err to = let wrong : Ok x ≡ Err f = to in cc
outcome_of tells cells id l p c room acts (Err f) (Err e) done err to = err

-- the vault was looked at as that was given
pub looked_answer : {V : Type 0} (G : Ghosts V) (old new : V) (acts : List Act) (given : Result Reply CallFault) (r : Result Given CallFault) → IsAnswerTo given acts r → Looks G old new (fault_in given) → Looks G old new (fault_in r)
looked_answer G old new acts (Ok g) (Ok x) to look = look
looked_answer G old new acts (Ok g) (Err e) to look = subst (λ (f : CallFault). Looks G old new (Some f)) (sym to.0) look
looked_answer G old new acts (Err f) r to look = subst (λ (y : Result Given CallFault). Looks G old new (fault_in y)) (sym to) look

-- the part was taken out, performed the call, and was put back
pub performed_so : {V : Type 0} (tells : Bool) (cells : Cells) (old : ServerState V) (v : V) (t : TransId) (l found blank : Live) (p : Part) (c : Call) (n : LockCounts) (room : Room) (locks : ℕ) (acts : List Act) (given : Result Reply CallFault) (r : Result Given CallFault) (taken lives : LiveMap) (id : FileId)
    → id ≡ next_file old → IsRoomOf tells cells old n.made room → IsPart p → locks ≡ locks_given found.locks n r
    → map.get old.lives t ≡ Some l → map.get old.lives t ≡ Some found → taken ≡ map.insert old.lives t blank → lives ≡ map.insert taken t (record found { part = p; locks = locks })
    → IfOk given (Answered tells cells found.part p (name_in found.who) id c room) → OnErr given (IsAsBefore found.part p) → IsAnswerTo given acts r → Performed tells cells old (record old { lives = lives; vault = v }) t l c n acts r
performed_so tells cells old v t l found blank p c n room locks acts given r taken lives id next of part counted there was out back done err to =
    let same : found ≡ l = same_live found l (sym was ∙ there) in
    let put : lives ≡ map.insert old.lives t (record found { part = p; locks = locks_given found.locks n r }) =
    back ∙ ap (λ (m : LiveMap). map.insert m t (record found { part = p; locks = locks })) out ∙ put_twice old.lives t blank (record found { part = p; locks = locks })
    ∙ ap (λ (x : ℕ). map.insert old.lives t (record found { part = p; locks = x })) counted in
    subst (λ (x : Live). Performed tells cells old (record old { lives = lives; vault = v }) t x c n acts r) same (record {
      part = p;
      sound = part;
      room = room;
      left = of;
      kept = ap (λ (m : LiveMap). record old { lives = m; vault = v }) put;
      outcome = subst (λ (x : FileId). Outcome tells cells x found p c room acts r) next (outcome_of tells cells id found p c room acts given r done err to);
    })

-- ---- what a part sees, and its next file

module _ {V : Type 0} (a : Account) (held : Contents) (k : ServerState V) where
  -- through its intents a live part sees what the journal says that it sees
  pub sees : (t : TransId) (rs : List Resource) (l : Live) (life : Life) → IsAs a held k → k.is_down ≡ false → IsLife a.holder.cells k.locks.held rs t l life → seen held.cells l.part ≡ view_in a.holder life
  sees t rs l life h up is =
      ap (λ (i : Intents). through i (map.get held.cells)) is.intents ∙ through_of life.edits (map.get held.cells) ∙ ap (λ (c : Cells). after life.edits (map.get c)) (h.cells up) ∙ sym (get-edits_map life.edits a.holder.cells)

  -- a part gave what the journal says that a thread is answered
  pub right_as : (t : TransId) (l : Live) (p : Part) (c : Call) (r : Reply) (life : Life) (rs : List Resource) (later : Counts) (refused : Option Refusal) → IsAs a held k → k.is_down ≡ false → IsLife a.holder.cells k.locks.held rs t l life → IsCaller l life
      → IsRight held.cells l.part p later refused r (answer k.server [] (seen held.cells l.part) (name_in l.who) (own_of l.part) c r) → IsRight a.holder.cells l.part p later refused r (answer_in a.holder life (record { call = c; reply = r }))
  right_as t l p c r life rs later refused h up is caller first =
      let same : answer k.server [] (seen held.cells l.part) (name_in l.who) (own_of l.part) c r ≡ answer a.holder.server [] (view_in a.holder life) life.who life.own c r =
      ap (λ (m : ℕ). answer m [] (seen held.cells l.part) (name_in l.who) (own_of l.part) c r) (sym h.server)
      ∙ ap (λ (x : View). answer a.holder.server [] x (name_in l.who) (own_of l.part) c r) (sees t rs l life h up is)
      ∙ ap (λ (x : List ℕ). answer a.holder.server [] (view_in a.holder life) x (own_of l.part) c r) (ap name_in caller.who)
      ∙ ap (λ (x : Own). answer a.holder.server [] (view_in a.holder life) life.who x c r) caller.own in
      subst (λ (m : Cells). IsRight m l.part p later refused r (answer_in a.holder life (record { call = c; reply = r }))) (h.cells up) (subst (λ (x : Answer). IsRight held.cells l.part p later refused r x) same first)

  -- the next file is new to each
  pub unseen : (t : TransId) (l : Live) → IsAs a held k → k.is_down ≡ false → map.get k.lives t ≡ Some l → seen held.cells l.part (Leader (next_file k)) ≡ None
  unseen t l h up there =
      let x : IsLive a.holder.cells k.locks.held (a.locked t) t l (a.holder.lives t) = live_there a.holder.cells k.locks.held (a.locked t) t (map.get k.lives t) (a.holder.lives t) l there (h.lives t) in
      let at : ℕ → ℕ → Key = λ server epoch. Leader (record { server = server; epoch = epoch; counter = k.given + 1 }) in
      let next : Leader (next_file k) ≡ at a.holder.server a.ids.epoch = λ i. at (sym h.server i) (sym h.epoch i) in
      ap (seen held.cells l.part) next
      ∙ ap (λ (v : View). v (at a.holder.server a.ids.epoch)) (sees t (a.locked t) l x.life h up x.alike ∙ get-edits_map x.life.edits a.holder.cells)
      ∙ ap (edits_at x.life.edits (at a.holder.server a.ids.epoch)) (h.born (record { server = a.holder.server; epoch = a.ids.epoch; counter = k.given + 1 }) (next_to_come a.holder.server a.ids.epoch k.given))
      ∙ h.unborn t x.life x.is (record { server = a.holder.server; epoch = a.ids.epoch; counter = k.given + 1 }) (next_to_come a.holder.server a.ids.epoch k.given)

  -- a part that stands as before, in a server that does
  pub part_still : (t : TransId) (l : Live) (p : Part) (n : ℕ) (v : V) (then : Contents) → IsAs a held k → then ≡ held → map.get k.lives t ≡ Some l → IsAsBefore l.part p → n ≡ l.locks
      → IsAs a then (record k { lives = map.insert k.lives t (record l { part = p; locks = n }); vault = v })
  part_still t l p n v then h same there before locks =
      subst (λ (c : Contents). IsAs a c (record k { lives = map.insert k.lives t (record l { part = p; locks = n }); vault = v })) (sym same) (record {
        server = h.server;
        servers = h.servers;
        sizes = h.sizes;
        epoch = h.epoch;
        clock = h.clock;
        cells = h.cells;
        sized = h.sized;
        notes = h.notes;
        places = h.places;
        sessions = h.sessions;
        dead = h.dead;
        lives = λ u. subst (λ (x : Option Live). IsAlike a.holder.cells k.locks.held (a.locked u) u x (a.holder.lives u)) (sym (get_put k.lives t (record l { part = p; locks = n }) u)) (go u (same_trans u t) refl);
        room = same_room k.sizes a.holder.cells k.lives t l (record l { part = p; locks = n }) there before.2 h.room;
        unborn = h.unborn;
        coordinator = h.coordinator;
        decided = h.decided;
        joins = h.joins;
        files = h.files;
        made = h.made;
        born = h.born;
        earlier = h.earlier;
        waits = h.waits;
        queue = h.queue;
        asked = h.asked;
        quiet = h.quiet;
        down = h.down;
      })
    where
      go : (u : TransId) (e : Bool) → same_trans u t ≡ e → IsAlike a.holder.cells k.locks.held (a.locked u) u (cond {A = Option Live} e (Some (record l { part = p; locks = n })) (map.get k.lives u)) (a.holder.lives u)
      go u false e = h.lives u
      go u true e =
          let one : t ≡ u = sym (same_trans-true u t e) in
          let x : IsLive a.holder.cells k.locks.held (a.locked u) u l (a.holder.lives u) = live_there a.holder.cells k.locks.held (a.locked u) u (map.get k.lives u) (a.holder.lives u) l (sym (ap (map.get k.lives) one) ∙ there) (h.lives u) in
          subst (λ (y : Option Life). IsAlike a.holder.cells k.locks.held (a.locked u) u (Some (record l { part = p; locks = n })) y) (sym x.is) (record {
            client = x.alike.client;
            join = x.alike.join;
            intents = before.0 ∙ x.alike.intents;
            held = x.alike.held;
            calls = λ unvoted. (let o : IsCaller l x.life = x.alike.calls unvoted in record { who = o.who; own = before.1 ∙ o.own; opens = o.opens });
            counts = subst (AreCountsOf a.holder.cells x.life.edits) (sym before.2) x.alike.counts;
            within = x.alike.within;
            intended = x.alike.intended;
            sized = x.alike.sized;
            count = locks ∙ x.alike.count;
            known = x.alike.known;
          })

-- ---- a call that a part performed

-- all of it is within the locks
pub record IsUnder (held : Holding) (w : Own) (es : List Edit) : Type 0 where
  pub opens : OpensRead (Reads held) w.opens
  pub within : IsWithin (Writes held) es
  pub intended : IsIntended held
  pub sized : AreSizedEdits es

-- ---- what the counts come to

pub count_grows : (count : ℕ) (r : Reply) → count ≤ count_after count r
count_grows count (reply.Created f n) = omega arith
count_grows count (reply.Welcome e) = omega arith
count_grows count (reply.Begun u) = omega arith
count_grows count reply.Joined = omega arith
count_grows count (reply.Opened n) = omega arith
count_grows count reply.Plain = omega arith
count_grows count (reply.Pages ps) = omega arith
count_grows count (reply.Props x) = omega arith
count_grows count (reply.Owner x) = omega arith
count_grows count (reply.Committed x) = omega arith
count_grows count (reply.Ended e) = omega arith
count_grows count (reply.Refused f) = omega arith

suc-is : (n : ℕ) → suc n ≡ n + 1
suc-is n = omega arith

-- the next id is given to the file that was made
made_ids : (server epoch count : ℕ) (r : Reply) → GivesOnly (record { server = server; epoch = epoch; counter = count + 1 }) r
    → option_to_list (id_in r) ++ ids_to server epoch count ≡ ids_to server epoch (count_after count r)
made_ids server epoch count (reply.Created f n) only =
    ap (λ (g : FileId). g ∷ ids_to server epoch count) (only f n refl)
    ∙ ap (λ (m : ℕ). (record { server = server; epoch = epoch; counter = m }) ∷ ids_to server epoch count) (sym (suc-is count)) ∙ ap (ids_to server epoch) (suc-is count)
made_ids server epoch count (reply.Welcome e) only = refl
made_ids server epoch count (reply.Begun u) only = refl
made_ids server epoch count reply.Joined only = refl
made_ids server epoch count (reply.Opened n) only = refl
made_ids server epoch count reply.Plain only = refl
made_ids server epoch count (reply.Pages ps) only = refl
made_ids server epoch count (reply.Props x) only = refl
made_ids server epoch count (reply.Owner x) only = refl
made_ids server epoch count (reply.Committed x) only = refl
made_ids server epoch count (reply.Ended e) only = refl
made_ids server epoch count (reply.Refused f) only = refl

made_now : (server epoch count : ℕ) (r : Reply) (made : List FileId) → GivesOnly (record { server = server; epoch = epoch; counter = count + 1 }) r → AreMade server epoch count made
    → AreMade server epoch (count_after count r) (option_to_list (id_in r) ++ made)
made_now server epoch count r made only h = record {
  early = h.early;
  old = h.old;
  all = ap (λ (fs : List FileId). option_to_list (id_in r) ++ fs) h.all ∙ sym (append_assoc (option_to_list (id_in r)) (ids_to server epoch count) h.early)
      ∙ ap (λ (fs : List FileId). fs ++ h.early) (made_ids server epoch count r only);
}

-- and counted
pub files_now : (count : ℕ) (r : Reply) → count + length (option_to_list (id_in r)) ≡ count_after count r
files_now count (reply.Created f n) = refl
files_now count (reply.Welcome e) = omega arith
files_now count (reply.Begun u) = omega arith
files_now count reply.Joined = omega arith
files_now count (reply.Opened n) = omega arith
files_now count reply.Plain = omega arith
files_now count (reply.Pages ps) = omega arith
files_now count (reply.Props x) = omega arith
files_now count (reply.Owner x) = omega arith
files_now count (reply.Committed x) = omega arith
files_now count (reply.Ended e) = omega arith
files_now count (reply.Refused f) = omega arith

module _ {V : Type 0} (a : Account) (held : Contents) (k : ServerState V) (turn : Turn) (t : TransId) (l : Live) (p : Part) (c : Call) (r : Reply) (n : ℕ) (locks : Table) (v : V) (life : Life) where
  abbrev pub done_kept : ServerState V
  done_kept = record k { sessions = counted_in k.sessions turn r; given = count_after k.given r; lives = map.insert k.lives t (record l { part = p; locks = n }); locks = locks; vault = v }

  abbrev pub gave : Answer
  gave = answer_in a.holder life (record { call = c; reply = r })

  next_same : IsAs a held k → next_file k ≡ record { server = a.holder.server; epoch = a.ids.epoch; counter = k.given + 1 }
  next_same h = λ i. record { server = sym h.server i; epoch = sym h.epoch i; counter = k.given + 1 }

  -- no file that is to come is in what the part saw
  view_unborn : IsAs a held k → a.holder.lives t ≡ Some life → SeesNoneToCome a.holder.server a.ids.epoch k.given (view_in a.holder life)
  view_unborn h is f comes =
      ap (λ (x : View). x (Leader f)) (get-edits_map life.edits a.holder.cells) ∙ ap (edits_at life.edits (Leader f)) (h.born f comes) ∙ h.unborn t life is f comes

  -- nor do its edits put one
  gave_unborn : IsAs a held k → a.holder.lives t ≡ Some life → GivesOnly (next_file k) r → PutNoneBeyond a.holder.server a.ids.epoch (count_after k.given r) (life.edits ++ gave.edits)
  gave_unborn h is only f comes =
      let q : Key = Leader f in
      let before : IsToCome a.holder.server a.ids.epoch k.given f = comes_later a.holder.server a.ids.epoch k.given (count_after k.given r) f (count_grows k.given r) comes in
      let seen_none : view_in a.holder life q ≡ None = view_unborn h is f before in
      let only_so : GivesOnly (record { server = a.holder.server; epoch = a.ids.epoch; counter = k.given + 1 }) r = subst (λ (g : FileId). GivesOnly g r) (next_same h) only in
      edits_at-append life.edits gave.edits q None ∙ ap (edits_at gave.edits q) (h.unborn t life is f before) ∙ ap (edits_at gave.edits q) (sym seen_none)
      ∙ to_come_kept a.holder.server a.ids.epoch k.given [] (view_in a.holder life) life.who life.own c r (view_unborn h is) only_so f comes

  module _ (under : Holding) (rs : List Resource) where
    abbrev pub after_call : Session → Account
    after_call w = with_call a turn.client turn.number w t life c r under rs

    pub done_as : (then : Contents) (h : IsAs a held k) → then ≡ held → (is : IsTurn k.sessions turn) → k.is_down ≡ false → map.get k.lives t ≡ Some l → a.holder.lives t ≡ Some life → IsLife a.holder.cells k.locks.held (a.locked t) t l life → GivesOnly (next_file k) r
        → Performs l.part p gave r → ((q : Resource) → with_made under (id_in r) q ≡ holding locks.held t q)
        → ((u : TransId) (q : Resource) → same_trans u t ≡ false → holding locks.held u q ≡ holding k.locks.held u q)
        → IsUnder (with_made under (id_in r)) gave.own (life.edits ++ gave.edits) → AreCountsOf a.holder.cells (life.edits ++ gave.edits) p.counts
        → n ≡ length (with_resources (needs_made (id_in r)) rs) → AreHeld (with_made under (id_in r)) (with_resources (needs_made (id_in r)) rs) → AreRoomed k.sizes a.holder.cells (totals_of k.lives) l.part.counts p.counts
        → AreNamed k.waits → AreOthers t k.waits → locks.waiting ≡ k.locks.waiting → ((u : TransId) → same_trans u t ≡ false → held_of locks.held u ≡ held_of k.locks.held u)
        → (AreNotesOf (state_of a) a.ids.epoch held.notes → AreNotesOf (state_of (after_call (session_of turn is))) a.ids.epoch held.notes) → IsQuiet (after_call (session_of turn is)) → IsAs (after_call (session_of turn is)) then done_kept
    done_as then h same is up there live mine only done holds others kept counts count known roomed named away waiting beside noted quiet =
        let w : Session = session_of turn is in
        let new : Life = life_after a turn.client turn.number w t life c r under in
        let now : List Resource = with_resources (needs_made (id_in r)) rs in
        subst (λ (x : Contents). IsAs (after_call w) x done_kept) (sym same) (record {
          server = h.server;
          servers = h.servers;
          sizes = h.sizes;
          epoch = h.epoch;
          clock = h.clock;
          cells = h.cells;
          sized = h.sized;
          notes = λ on. noted (h.notes on);
          places = places_set k.sessions turn.client (session_then turn r) h.places;
          sessions = sessions_as a.sessions k.sessions turn.client (session_then turn r) h.sessions h.places is.client;
          dead = h.dead;
          lives = λ u. subst (λ (x : Option Live). IsAlike a.holder.cells locks.held (lock_set a.locked t now u) u x (cond {A = Option Life} (same_trans u t) (Some new) (a.holder.lives u))) (sym (get_put k.lives t (record l { part = p; locks = n }) u))
              (alike_set a.holder.cells k.locks.held locks.held a.locked t (Some (record l { part = p; locks = n })) (Some new) now (map.get k.lives) a.holder.lives h.lives others (record {
                client = mine.client;
                join = mine.join;
                intents = done.view ∙ ap (λ (i : Intents). intents_from i gave.edits) mine.intents ∙ sym (intents_from-append no_intents life.edits gave.edits);
                held = holds;
                calls = λ unvoted. record { who = (mine.calls unvoted).who; own = done.own; opens = kept.opens };
                counts = counts;
                within = kept.within;
                intended = kept.intended;
                sized = kept.sized;
                count = count;
                known = known;
              }) u);
          room = swapped_room k.sizes a.holder.cells k.lives t l (record l { part = p; locks = n }) there roomed;
          unborn = each_set (λ x. PutNoneBeyond a.holder.server a.ids.epoch (count_after k.given r) x.edits) t (Some new) a.holder.lives
              (λ u x at f comes. h.unborn u x at f (comes_later a.holder.server a.ids.epoch k.given (count_after k.given r) f (count_grows k.given r) comes))
              (λ x at. subst (λ (y : Life). PutNoneBeyond a.holder.server a.ids.epoch (count_after k.given r) y.edits) (same-some new x at) (gave_unborn h live only));
          coordinator = h.coordinator;
          decided = h.decided;
          joins = h.joins;
          files = ap (λ (m : ℕ). m + length (option_to_list (id_in r))) h.files ∙ files_now k.given r;
          made = made_now a.holder.server a.ids.epoch k.given r a.holder.made (subst (λ (f : FileId). GivesOnly f r) (next_same h) only) h.made;
          born = λ f comes. h.born f (comes_later a.holder.server a.ids.epoch k.given (count_after k.given r) f (count_grows k.given r) comes);
          earlier = h.earlier;
          waits = h.waits;
          queue = waiting ∙ h.queue ∙ sym (queue_beside a.holder (after_call w).holder k.locks.held locks.held t refl (λ u apart. ap (λ (b : Bool). cond {A = Option Life} b (Some new) (a.holder.lives u)) apart) beside a.waits
              (subst (AllByRecursion (λ (x : Waiting). is_of t (file_trans x.call) ≡ false)) (sym h.waits) (others_told t k.waits named away)));
          asked = asked_beside a.holder (after_call w).holder k.locks.held locks.held t refl (λ u apart. ap (λ (b : Bool). cond {A = Option Life} b (Some new) (a.holder.lives u)) apart) beside a.locked (lock_set a.locked t now)
              (λ u apart. ap (λ (b : Bool). cond {A = List Resource} b now (a.locked u)) apart) k.waits away h.asked;
          quiet = quiet;
          down = sym up;
        })
