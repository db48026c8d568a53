-- a decision of one of a server's own transactions, without parts on other servers: its notes get the clock, and say the rest as before
use Rattle.std.specs.Prelude.{Bool, true, false, cond, ◌&&◌, ◌==◌, max, flat_map, Option, None, Some, is_some}
use Rattle.std.specs.List.{AllByRecursion}
use Rattle.std.specs.Ordering.{is_eq}
use Rattle.std.specs.declared.cmp.Ordering.{Ordering}
use Rattle.std.specs.FinMap as map
use Rattle.std.specs.FinMap.{get-insert}
use Rattle.std.specs.Cmp.Lexicographic.{nat_list_cmp_total}
use Rattle.std.specs.FinMap.Entries as entries
use Rattle.std.specs.FinMap.Entries.{put, find-put}
use Rattle.std.proofs.Common.{◌≡◌, ℕ, ◌≤◌, List, [], ◌∷◌, ◌++◌, refl, sym, ap, subst, ◌∙◌, arith}
use Rattle.alp_base.specs.Notes.{Notes, noted}
use Rattle.alp_base.specs.declared.ids.JoinNo.{JoinNo}
use Rattle.alp_base.specs.declared.ids.Stamp.{Stamp}
use Rattle.alp_base.specs.declared.ids.TransId.{TransId}
use Rattle.alp_fields.specs.ClockNote.{clock_name, clock_form, clock_kept}
use Rattle.alp_fields.specs.declared.clock_note.ClockNote.{ClockNote}
use Rattle.alp_fields.specs.declared.decision_note.Decision.{Decision as DecisionKept}
use Rattle.alp_fields.specs.declared.ready_note.ReadyPart.{ReadyPart}
use Rattle.alp_files.specs.History.{Decided}
use Rattle.alp_files.specs.declared.call.Call.{Call}
use Rattle.alp_journal.specs.declared.event.Event.{Event}
use Rattle.alp_journal.specs.declared.entry.Entry.{Entry}
use Rattle.alp_journal.specs.Account.{grant_acts}
use Rattle.alp_journal.specs.Along.{Along, state_after}
use Rattle.alp_journal.specs.Coordinator.{Fate, Undrawn, Running, Finishing, Committed, Forgotten, Ended, decision_in, joins_of}
use Rattle.alp_journal.specs.Coordinator as fate
use Rattle.alp_journal.specs.Deeds.{Deed, Finishes, Decides, Grants}
use Rattle.alp_journal.specs.Holder.{Holder, Life, commits, emptied, grants}
use Rattle.alp_journal.specs.Ids.{same_trans, stamp_cmp}
use Rattle.alp_journal.specs.Laws.{IsLawfulDeed}
use Rattle.alp_journal.specs.Moves.{act_deeds, asks_for, did, grants_to, halted, next, stops, told}
use Rattle.alp_journal.specs.Participant.{Ready}
use Rattle.alp_journal.specs.State.{State, state_deed}
use Rattle.alp_journal.proofs.StampLemmas.{stamps_total, itself}
use Rattle.alp_coord.specs.declared.coordinator.Coordinator.{Coordinator}
use Rattle.alp_coord.specs.Coordinators.{Comes, fate_in}
use Rattle.alp_ready.specs.NoteLooks.{Keeps, ready_at}
use Rattle.alp_ready.proofs.NoteViews.{put_clock}
use Rattle.alp_vault.specs.Volumes.{AreNoteChanges, AreServerNotes}
use Rattle.alp_worker.specs.declared.joins.Joins.{Joins}
use Rattle.alp_worker.specs.Lives.{join_at}
use Rattle.alp_node.specs.Durable.{AreNotesOf, IsReadyNote}
use Rattle.alp_node.specs.Noted.{AreNoted, IsNotedJoin, decision_kept}
use Rattle.alp_node.specs.Totals.{LiveMap}
use Rattle.alp_node.specs.Writes.{clock_put}
use Rattle.alp_node.proofs.NotedLemmas.{ready_on}
use Rattle.alp_node.proofs.NoteLaw.{AreVoted, IsUnkept, IsVoted, apart, behind, deed_says, deed_voted, deeds_say, finishing_kept, notes_along}

-- ---- a decision

-- without parts on other servers it has no note
pub alone_kept : (stamp : Stamp) (b : Bool) (f : Fate) → decision_kept (cond {A = Fate} b (fate.decided stamp [] f) f) ≡ decision_kept f
alone_kept stamp false f = refl
alone_kept stamp true Undrawn = refl
alone_kept stamp true (Running client js) = refl
alone_kept stamp true (Finishing client js vs) = refl
alone_kept stamp true (Committed s js ds) = refl
alone_kept stamp true (Forgotten s js) = refl
alone_kept stamp true (Ended c) = refl

module _ (s : State) (stamp : Stamp) (l : Life) (voted : AreVoted s) (here : (stamp.trans.server == s.holder.server) ≡ true) (live : s.holder.lives stamp.trans ≡ Some l) where
  abbrev clock_then : ℕ
  clock_then = max s.holder.clock stamp.ts

  abbrev decided_state : State
  decided_state = state_deed s (Decides stamp [])

  -- those that voted are of other servers
  away : (j : JoinNo) (t : TransId) (client ts : ℕ) → s.phases j ≡ Ready t client ts → same_trans t stamp.trans ≡ false
  away j t client ts is =
      apart (λ (w : TransId). (w.server == s.holder.server) ≡ false) stamp.trans t (IsVoted.away (voted j t client ts is)) (λ e. let wrong : true ≡ false = sym here ∙ e in cc) (same_trans t stamp.trans) refl

  of_other : (t : TransId) (o : Option Life) → same_trans t stamp.trans ≡ false → (commits s.holder stamp o).lives t ≡ s.holder.lives t
  of_other t None e = refl
  of_other t (Some k) e = ap (λ (b : Bool). cond {A = Option Life} b (Some (emptied k)) (s.holder.lives t)) e

  same_server : (o : Option Life) → (commits s.holder stamp o).server ≡ s.holder.server
  same_server None = refl
  same_server (Some k) = refl

  stays : (j : JoinNo) (t : TransId) (client ts : ℕ) → s.phases j ≡ Ready t client ts → decided_state.holder.lives t ≡ s.holder.lives t
  stays j t client ts is = of_other t (s.holder.lives stamp.trans) (away j t client ts is)

  pub decided_voted : AreVoted decided_state
  decided_voted j t client ts is =
      let v : IsVoted s j t ts = voted j t client ts is in
      record { life = v.life; live = stays j t client ts is ∙ v.live; vote = v.vote; join = v.join; away = ap (λ (n : ℕ). t.server == n) (same_server (s.holder.lives stamp.trans)) ∙ v.away }

  pub decided_notes : (epoch : ℕ) (notes : Notes) → clock_form.Fits (record { epoch = epoch; clock = clock_then }) → s.holder.kept ≤ s.holder.clock → AreNotesOf s epoch notes
      → AreNotesOf decided_state epoch (noted clock_name (Some (clock_form.spell (record { epoch = epoch; clock = clock_then }))) notes)
  decided_notes epoch notes fits order h =
      let before : Keeps s.holder.server s.servers (record { epoch = epoch; clock = s.holder.kept }) (λ j. IsReadyNote s.holder.lives (s.phases j)) (λ t. decision_kept (s.fates t)) notes =
      record { clock = h.clock; ready = h.ready; decided = h.decided; format = h.format } in
      let now : ClockNote = record { epoch = epoch; clock = clock_then } in
      let then : Notes = noted clock_name (Some (clock_form.spell now)) notes in
      let k : Keeps s.holder.server s.servers now (λ j. IsReadyNote s.holder.lives (s.phases j)) (λ t. decision_kept (s.fates t)) then =
      put_clock s.holder.server s.servers (record { epoch = epoch; clock = s.holder.kept }) (λ j. IsReadyNote s.holder.lives (s.phases j)) (λ t. decision_kept (s.fates t)) notes before now fits in
      record {
        clock = k.clock ∙ ap (λ (o : Option Life). record { epoch = epoch; clock = (commits s.holder stamp o).kept }) (sym live);
        ready = λ j named. ready_on s.holder.lives decided_state.holder.lives (s.phases j) (ready_at then j) (stays j) (k.ready j named);
        decided = λ t named. k.decided t named ∙ sym (alone_kept stamp (same_trans stamp.trans t) (s.fates t));
        fit = h.fit;
        fit_decided = λ t is. h.fit_decided t (ap (λ (o : Option DecisionKept). is_some o) (sym (alone_kept stamp (same_trans stamp.trans t) (s.fates t))) ∙ is);
        timely = λ t d is. subst (λ (o : Option Life). d.ts ≤ (commits s.holder stamp o).kept) (sym live) (let low : d.ts ≤ s.holder.kept = h.timely t d (sym (alone_kept stamp (same_trans stamp.trans t) (s.fates t)) ∙ is) in omega (arith, low, order));
        format = subst (λ (n : ℕ). AreServerNotes n s.servers then) (sym (same_server (s.holder.lives stamp.trans))) k.format;
      }

-- ---- what is tried of it

module _ (x : Event) (s : State) (t : TransId) (time : ℕ) (l : Life) (rest : List Deed) (voted : AreVoted s) (here : (t.server == s.holder.server) ≡ true) (live : s.holder.lives t ≡ Some l) (free : AllByRecursion IsUnkept rest)
    (law : Along state_deed (IsLawfulDeed x) s (Finishes t ∷ Decides (record { ts = time; trans = t }) [] ∷ rest)) where
  abbrev pub stamp_of : Stamp
  stamp_of = record { ts = time; trans = t }

  abbrev pub noted_then : (epoch : ℕ) → Notes → Notes
  noted_then epoch notes = noted clock_name (Some (clock_form.spell (record { epoch = epoch; clock = max s.holder.clock time }))) notes

  pub commit_notes : (epoch : ℕ) (notes : Notes) → clock_form.Fits (record { epoch = epoch; clock = max s.holder.clock time }) → s.holder.kept ≤ s.holder.clock → AreNotesOf s epoch notes
      → AreNotesOf (state_after state_deed s (Finishes t ∷ Decides stamp_of [] ∷ rest)) epoch (noted_then epoch notes)
  commit_notes epoch notes fits order h =
      let first : State = state_deed s (Finishes t) in
      let second : State = state_deed first (Decides stamp_of []) in
      let first_voted : AreVoted first = deed_voted x s (Finishes t) tt law.0 voted in
      let first_notes : AreNotesOf first epoch notes = notes_along s first epoch notes (deed_says x s (Finishes t) tt law.0 voted) h in
      notes_along second (state_after state_deed second rest) epoch (noted_then epoch notes)
      (deeds_say x rest second (behind rest free second) law.1.1 (decided_voted first stamp_of l first_voted here live))
      (decided_notes first stamp_of l first_voted here live epoch notes fits order first_notes)

-- what was told says of notes what was done
pub notes_told : (s m : State) (e : Entry) (epoch : ℕ) (notes : Notes) → stops e ≡ false → next s e ≡ m → AreNotesOf (did s e) epoch notes → AreNotesOf m epoch notes
notes_told s m e epoch notes on leads h =
    let so : AreNotesOf (told s e) epoch notes = record { clock = h.clock; ready = h.ready; decided = h.decided; fit = h.fit; fit_decided = h.fit_decided; timely = h.timely; format = h.format } in
    subst (λ (z : State). AreNotesOf z epoch notes) (sym (ap (λ (b : Bool). cond {A = State} b (halted s e) (told s e)) on) ∙ leads) so

-- grants leave the cells
pub grants_cells : (s : State) (e : Event) (ts : List TransId) (m : State) → (state_after state_deed m (flat_map (act_deeds s e) (grant_acts ts))).holder.cells ≡ m.holder.cells
grants_cells s e [] m = refl
grants_cells s e (t ∷ ts) m = go (asks_for s e t (s.holder.lives t)) (grants_cells s e ts)
  where
    kept : (h : Holder) (c : Call) (z : Option Life) → (grants h t c z).cells ≡ h.cells
    kept h c None = refl
    kept h c (Some l) = refl

    go : (x : Option Call) → ((n : State) → (state_after state_deed n (flat_map (act_deeds s e) (grant_acts ts))).holder.cells ≡ n.holder.cells)
        → (state_after state_deed m (grants_to t x ++ flat_map (act_deeds s e) (grant_acts ts))).holder.cells ≡ m.holder.cells
    go None rest = rest m
    go (Some c) rest = rest (state_deed m (Grants t c)) ∙ kept m.holder c (m.holder.lives t)

-- ---- what was decided is applied

-- what is there stays
pub put_there : (s u : Stamp) (x : Decided) (xs : List (Stamp × Decided)) → is_some (entries.find stamp_cmp s xs) ≡ true → is_some (entries.find stamp_cmp s (put stamp_cmp u x xs)) ≡ true
put_there s u x xs h = ap (λ (o : Option Decided). is_some o) (find-put stamp_cmp stamps_total s u x xs) ∙ go (is_eq (stamp_cmp s u))
  where
    go : (b : Bool) → is_some (cond {A = Option Decided} b (Some x) (entries.find stamp_cmp s xs)) ≡ true
    go true = refl
    go false = h

pub put_found : (s : Stamp) (x : Decided) (xs : List (Stamp × Decided)) → is_some (entries.find stamp_cmp s (put stamp_cmp s x xs)) ≡ true
put_found s x xs =
    ap (λ (o : Option Decided). is_some o) (find-put stamp_cmp stamps_total s s x xs) ∙ ap (λ (o : Ordering). is_some (cond {A = Option Decided} (is_eq o) (Some x) (entries.find stamp_cmp s xs))) (itself s)

-- what was decided before, or just now
pub decided_now : (s u : Stamp) (js : List JoinNo) (b : Bool) (f : Fate) → decision_in (cond {A = Fate} b (fate.decided s [] (fate.finishing f)) f) ≡ Some (u, js) → (P : Type 0) → (decision_in f ≡ Some (u, js) → P) → (s ≡ u → P) → P
decided_now s u js false f is P before now = before is
decided_now s u js true (Running client ks) is P before now = now (ap (λ (o : Option (Stamp × List JoinNo)). stamp_in o) is)
  where
    stamp_in : Option (Stamp × List JoinNo) → Stamp
    stamp_in None = s
    stamp_in (Some x) = x.0
decided_now s u js true (Finishing client ks vs) is P before now = now (ap (λ (o : Option (Stamp × List JoinNo)). stamp_in o) is)
  where
    stamp_in : Option (Stamp × List JoinNo) → Stamp
    stamp_in None = s
    stamp_in (Some x) = x.0
decided_now s u js true Undrawn is P before now = before is
decided_now s u js true (Committed v ks ds) is P before now = before is
decided_now s u js true (Forgotten v ks) is P before now = before is
decided_now s u js true (Ended c) is P before now = before is

-- ---- by what the server keeps

-- the clock is put, and the rest stands
pub noted_clock : (server servers now clock : ℕ) (lives : LiveMap) (joins : Joins) (c : Coordinator) (notes : Notes) → clock_form.Fits (record { epoch = now; clock = clock }) → AreNoted server servers now lives joins c notes
    → AreNoted server servers now lives joins c (noted clock_name (Some (clock_form.spell (record { epoch = now; clock = clock }))) notes)
noted_clock server servers now clock lives joins c notes fits h =
    let part : JoinNo → Option ReadyPart → Type 0 = λ j. IsNotedJoin lives (join_at joins.lives j) in
    let before : Keeps server servers (clock_kept notes) part (λ t. decision_kept (fate_in c t)) notes = record { clock = refl; ready = h.ready; decided = h.decided; format = h.format } in
    let k : Keeps server servers (record { epoch = now; clock = clock }) part (λ t. decision_kept (fate_in c t)) (noted clock_name (Some (clock_form.spell (record { epoch = now; clock = clock }))) notes) =
    put_clock server servers (clock_kept notes) part (λ t. decision_kept (fate_in c t)) notes before (record { epoch = now; clock = clock }) fits in
    record { epoch = ap (λ (n : ClockNote). n.epoch) k.clock; ready = k.ready; decided = k.decided; format = k.format }

-- it may be put
pub clock_changes : (server servers : ℕ) (notes : Notes) (c : ClockNote) → AreServerNotes server servers notes → AreServerNotes server servers (noted clock_name (Some (clock_form.spell c)) notes) → map.len notes ≤ 129
    → AreNoteChanges server servers notes (clock_put c ∷ [])
clock_changes server servers notes c before after few = record {
  before = before;
  after = after;
  each = ap (λ (b : Bool). b && true) (after clock_name (clock_form.spell c) (get-insert nat_list_cmp_total notes clock_name (clock_form.spell c) clock_name));
  rise = refl;
  few = omega (arith, few);
}

-- where one finishes that has no parts on other servers, it is decided without
pub alone_mid : (c mid : Coordinator) (t : TransId) → Comes (Finishes t) c mid → joins_of (fate_in c t) ≡ [] → joins_of (fate_in mid t) ≡ []
alone_mid c mid t comes none = ap joins_of (comes t) ∙ go (same_trans t t) (fate_in c t) ∙ none
  where
    go : (b : Bool) (f : Fate) → joins_of (cond {A = Fate} b (fate.finishing f) f) ≡ joins_of f
    go false f = refl
    go true Undrawn = refl
    go true (Running client js) = refl
    go true (Finishing client js vs) = refl
    go true (Committed s js ds) = refl
    go true (Forgotten s js) = refl
    go true (Ended why) = refl

-- and has no note
pub alone_decided : (c mid z : Coordinator) (s : Stamp) → Comes (Finishes s.trans) c mid → Comes (Decides s (joins_of (fate_in mid s.trans))) mid z → joins_of (fate_in c s.trans) ≡ [] → (u : TransId) → decision_kept (fate_in z u) ≡ decision_kept (fate_in c u)
alone_decided c mid z s first second none u =
    ap decision_kept (second u)
    ∙ ap (λ (js : List JoinNo). decision_kept (cond {A = Fate} (same_trans s.trans u) (fate.decided s js (fate_in mid u)) (fate_in mid u))) (alone_mid c mid s.trans first none)
    ∙ alone_kept s (same_trans s.trans u) (fate_in mid u) ∙ ap decision_kept (first u) ∙ go (same_trans s.trans u) (fate_in c u)
  where
    go : (b : Bool) (f : Fate) → decision_kept (cond {A = Fate} b (fate.finishing f) f) ≡ decision_kept f
    go false f = refl
    go true f = finishing_kept f
