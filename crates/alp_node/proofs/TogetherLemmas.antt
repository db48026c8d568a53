-- what a server keeps goes together, so that a restart takes it, of which its vault has what the journal says or what it tried
use Rattle.std.specs.Prelude.{cond, Bool, true, false, not, ◌&&◌, ◌||◌, ◌==◌, nat_le, nat_lt, sum_by, flat_map, Option, None, Some, is_some, map as list_map}
use Rattle.std.specs.List.{list_all, AllByRecursion}
use Rattle.std.specs.FinMap as map
use Rattle.std.specs.FinMap.{get-entries}
use Rattle.std.specs.FinMap.Entries.{find}
use Rattle.std.specs.Ordering.{eq_by_cmp}
use Rattle.std.proofs.Common.{◌≡◌, inl, inr, ℕ, ◌+◌, ◌-◌, ◌<◌, ◌≤◌, List, [], ◌∷◌, ◌++◌, append-nil, length, refl, sym, ◌∙◌, ap, subst, arith}
use Rattle.std.proofs.lemmas.Bool.{and_parts, eqb-true, ltb-true, le-leb, or_parts, not-true}
use Rattle.std.proofs.lemmas.List.{length-map}
use Rattle.std.proofs.lemmas.Map.Views.{tells_apart}
use Rattle.alp_base.specs.Notes.{Notes}
use Rattle.alp_base.specs.Orders.{trans_cmp, exact_transactions}
use Rattle.alp_base.specs.declared.faults.Sizes.{Sizes}
use Rattle.alp_base.specs.declared.ids.FileId.{FileId}
use Rattle.alp_base.specs.declared.ids.JoinNo.{JoinNo}
use Rattle.alp_base.specs.declared.ids.TransId.{TransId}
use Rattle.alp_base.specs.declared.key.Resource.{Resource}
use Rattle.alp_base.specs.declared.key.Resource.TheVariants.{Whole, Leaf}
use Rattle.alp_fields.specs.ClockNote.{clock_kept}
use Rattle.alp_fields.specs.ReadyNote.{ready_name}
use Rattle.alp_fields.specs.declared.clock_note.ClockNote.{ClockNote}
use Rattle.alp_fields.specs.declared.decision_note.Decision.{Decision}
use Rattle.alp_fields.specs.declared.ready_note.ReadyPart.{ReadyPart}
use Rattle.alp_files.specs.Apart.{IsWithin as MayWrite}
use Rattle.alp_files.specs.Cells.{Cells}
use Rattle.alp_files.specs.Changes.{edits_of}
use Rattle.alp_files.specs.Edits.{Edit, edits_map}
use Rattle.alp_files.specs.Holdings.{Holding, held_by, DoAgree, IsIntended}
use Rattle.alp_files.specs.Locks.{Writes}
use Rattle.alp_files.specs.Needs.{Intents, intents_of, changed, changed_by, need_of, made_of, is_leader, is_owner}
use Rattle.alp_files.specs.Sound.{AreSound}
use Rattle.alp_files.proofs.FilesLemmas.{same-some}
use Rattle.alp_files.proofs.HistoryLemmas.{edits_map-append}
use Rattle.alp_files.proofs.SumLemmas.{sum_of as sum_in}
use Rattle.alp_modes.specs.declared.Mode.{Mode}
use Rattle.alp_locks.specs.Tables.{Holders, held_of, holding}
use Rattle.alp_vault.specs.Contents.{Contents}
use Rattle.alp_vault.specs.Volumes.{changed_cells, AreServerNotes}
use Rattle.alp_trans.specs.Counting.{AreCountsOf, with_intents}
use Rattle.alp_trans.specs.declared.counts.Counts.{Counts}
use Rattle.alp_calls.specs.Parts.{AllFit}
use Rattle.alp_calls.proofs.IntentCounts.{with_all}
use Rattle.alp_coord.specs.Coordinators.{counted_of}
use Rattle.alp_ready.specs.NoteLooks.{ready_at}
use Rattle.alp_worker.specs.Lives.{is_at, join_at, phase_of, phase_in}
use Rattle.alp_worker.specs.Walks.{ready_in}
use Rattle.alp_worker.specs.declared.live.LiveJoin.{LiveJoin}
use Rattle.alp_worker.specs.declared.live.Stage.{Stage}
use Rattle.alp_worker.specs.declared.live.Stage.TheVariants as stage
use Rattle.alp_worker.specs.declared.room.PartSize.{PartSize}
use Rattle.alp_journal.specs.Account.{Account, has_trans}
use Rattle.alp_journal.specs.Counts.{with_resources}
use Rattle.alp_journal.specs.Holder.{Life, no_locks}
use Rattle.alp_journal.specs.Ids.{same_trans, same_join, has_join, is_drawn}
use Rattle.alp_journal.specs.Laws.{are_joins_apart}
use Rattle.alp_journal.specs.Messages.{trans_ready}
use Rattle.alp_journal.specs.Opening.{ReadyNote, DecisionNote, ready_kept, decisions_kept}
use Rattle.alp_journal.specs.Participant.{Ready}
use Rattle.alp_journal.specs.State.{State}
use Rattle.alp_journal.proofs.IdLemmas.{same_trans-true, same_trans-itself}
use Rattle.alp_journal.proofs.OpenedLemmas.{ready_trans, decided_trans}
use Rattle.alp_journal.proofs.StandLemmas.{same_join-itself}
use Rattle.alp_regain.specs.Named.{is_drawn_by, is_decided_by, is_own, is_covered}
use Rattle.alp_regain.specs.Notes.{part_note}
use Rattle.alp_regain.specs.Owners.{joins_of}
use Rattle.alp_regain.specs.Together.{IsPartNote, AreTwo, AreApart, clock_before, size_of, log_sum, HaveRoomTogether, AreSoundTogether, AreTogether}
use Rattle.alp_regain.proofs.ChangeLemmas.{same_counts}
use Rattle.alp_regain.proofs.OwnerLemmas.{joins_apart}
use Rattle.alp_node.specs.Covers.{AreHeld}
use Rattle.alp_node.specs.Durable.{IsReadyNote, AreNotesOf, IsStoredBy}
use Rattle.alp_node.specs.Noted.{decision_kept, size_in, size_of as live_size}
use Rattle.alp_node.specs.ServerState.{IsLife, IsAlike, IsAs, IsReady}
use Rattle.alp_node.specs.Sessions.{IsClient}
use Rattle.alp_node.specs.SoundLives.{edits_in, all_edits, AreSoundLives}
use Rattle.alp_node.specs.Totals.{LiveMap, totals_of, HaveRoom}
use Rattle.alp_node.specs.declared.lives.Live.{Live}
use Rattle.alp_node.specs.declared.server_state.ServerState.{ServerState}
use Rattle.alp_node.proofs.CountedLocks.{as_many}
use Rattle.alp_node.proofs.EditsNoted.{within_intents, change_covered, own_edits, all_listed, change_length}
use Rattle.alp_node.proofs.FoundAs.{IsNoteKept, note_kept}
use Rattle.alp_node.proofs.FoundNotes.{Has, each_has, all_has, IsReadyAt, ready_stands, IsDecisionAt, decision_stands, ready_apart, decided_apart}
use Rattle.alp_node.proofs.LiveSums.{apart_once}
use Rattle.alp_node.proofs.LockCountLemmas.{held_then}
use Rattle.alp_node.proofs.LocksNoted.{modes_all, intended_all, own_all}
use Rattle.alp_node.proofs.MapLemmas.{tied_same}
use Rattle.alp_node.proofs.PairedLemmas.{within, counted_list, joined_list, joined_there, length_joined}
use Rattle.alp_node.proofs.TakeLemmas.{has_behind, HaveOwn, sum_less, log_less}

-- ---- ids

drawn_by : (here now last s e c : ℕ) → is_drawn here now last s e c ≡ true → is_drawn_by now e c ≡ true
drawn_by here now last s e c h =
    let one = and_parts (s == here && nat_lt 0 e && nat_lt 0 c) (nat_lt e now || (e == now && nat_le c last)) h in
    let two = and_parts (s == here && nat_lt 0 e) (nat_lt 0 c) one.0 in
    let three = and_parts (s == here) (nat_lt 0 e) two.0 in
    let epoch : 0 < e = ltb-true 0 e three.1 in
    let counter : 0 < c = ltb-true 0 c two.1 in
    λ i. le-leb 1 e (omega (arith, epoch)) i && (le-leb 1 c (omega (arith, counter)) i && le-leb e now (low (nat_lt e now) refl one.1) i)
  where
    low : (b : Bool) → nat_lt e now ≡ b → (b || (e == now && nat_le c last)) ≡ true → e ≤ now
    low true is g = (let less : e < now = ltb-true e now is in omega (arith, less))
    low false is g = (let same : e ≡ now = eqb-true e now (and_parts (e == now) (nat_le c last) g).0 in omega (arith, same))

-- ---- lists

-- an item of which a list has the id
module _ {X : Type 0} (f : X → TransId) where
  pub named : (xs : List X) (t : TransId) → has_trans t (list_map f xs) ≡ true → (x : X) × Has x xs × (f x ≡ t)
  named [] t h = let wrong : false ≡ true = h in cc
  named (x ∷ xs) t h = go (same_trans (f x) t) refl h (λ e. named xs t e)
    where
      go : (b : Bool) → same_trans (f x) t ≡ b → (b || has_trans t (list_map f xs)) ≡ true → (has_trans t (list_map f xs) ≡ true → (y : X) × Has y xs × (f y ≡ t)) → (y : X) × Has y (x ∷ xs) × (f y ≡ t)
      go true e g rest = (x, inl refl, same_trans-true (f x) t e)
      go false e g rest = (let y = rest g in (y.0, inr y.1, y.2))

entry_in : {X : Type 0} (es : List (TransId × X)) (t : TransId) (x : X) → find trans_cmp t es ≡ Some x → Has (t, x) es
entry_in [] t x is = let wrong : None ≡ Some x = is in cc
entry_in {X} (e ∷ es) t x is = go (eq_by_cmp trans_cmp t e.0) refl is (λ h. entry_in es t x h)
  where
    go : (b : Bool) → eq_by_cmp trans_cmp t e.0 ≡ b → cond {A = Option X} b (Some e.1) (find trans_cmp t es) ≡ Some x → (find trans_cmp t es ≡ Some x → Has (t, x) es) → Has (t, x) (e ∷ es)
    go true same at rest = inl (λ i. (sym (tells_apart exact_transactions t e.0 same) i, same-some e.1 x at i))
    go false other at rest = inr (rest at)

pub entry_there : {X : Type 0} (m : map.FinMap trans_cmp X) (t : TransId) (x : X) → map.get m t ≡ Some x → Has (t, x) (map.entries m)
entry_there m t x is = entry_in (map.entries m) t x (sym (get-entries m t) ∙ is)

-- a join that voted is among those that did
pub voter_there : (ls : List LiveJoin) (j : JoinNo) (x : LiveJoin) (ts : ℕ) → join_at ls j ≡ Some x → x.stage ≡ stage.Ready ts → Has x.trans (ready_in ls)
voter_there [] j x ts is voted = let wrong : None ≡ Some x = is in cc
voter_there (l ∷ ls) j x ts is voted = go (is_at j l) is (λ e. voter_there ls j x ts e voted)
  where
    first : (s : Stage) → s ≡ stage.Ready ts → Has x.trans (trans_ready (phase_in x.trans x.client s) ++ ready_in ls)
    first s e = subst (λ (y : Stage). Has x.trans (trans_ready (phase_in x.trans x.client y) ++ ready_in ls)) (sym e) (inl refl)

    go : (b : Bool) → cond {A = Option LiveJoin} b (Some l) (join_at ls j) ≡ Some x → (join_at ls j ≡ Some x → Has x.trans (ready_in ls)) → Has x.trans (trans_ready (phase_of l) ++ ready_in ls)
    go true e more = subst (λ (y : LiveJoin). Has x.trans (trans_ready (phase_of y) ++ ready_in ls)) (sym (same-some l x e)) (first x.stage voted)
    go false e more = has_behind x.trans (trans_ready (phase_of l)) (ready_in ls) (more e)

-- notes that keep apart have each its own
own_notes : {B : Type 0} (R : ReadyNote → B → Type 0) → ((n m : ReadyNote) (b : B) → R n b → R m b → n.trans ≡ m.trans) → (ns : List ReadyNote) → AreApart ns → HaveOwn R ns
own_notes R same [] apart = tt
own_notes {B} R same (n ∷ ns) apart = (not_two, own_notes R same ns apart.1)
  where
    not_two : (m : ReadyNote) (b : B) → Has m ns → R n b → R m b → ⊥
    not_two m b has x y =
        let t : AreTwo n m = each_has (AreTwo n) ns m apart.0 has in
        let wrong : true ≡ false = sym (tied_same m.trans m.trans ∙ same_trans-itself m.trans) ∙ ap (λ (u : TransId). eq_by_cmp trans_cmp u m.trans) (sym (same n m b x y)) ∙ t.apart in
        cc

apart_join : (j : JoinNo) (ns : List ReadyNote) → has_join j (joins_of ns) ≡ false → (m : ReadyNote) → Has m ns → same_join m.join j ≡ false
apart_join j [] none m has = absurd has
apart_join j (n ∷ ns) none m (inl is) = ap (λ (x : ReadyNote). same_join x.join j) (sym is) ∙ (or_parts (same_join n.join j) (has_join j (joins_of ns)) none).0
apart_join j (n ∷ ns) none m (inr has) = apart_join j ns (or_parts (same_join n.join j) (has_join j (joins_of ns)) none).1 m has

-- ---- one thing of a note

-- the live part by its life
pub kept_there : (cells : Cells) (locks : Holders) (rs : List Resource) (t : TransId) (o : Option Live) (x : Option Life) (y : Life) → x ≡ Some y → IsAlike cells locks rs t o x → (l : Live) × (o ≡ Some l) × IsLife cells locks rs t l y
kept_there cells locks rs t None None y is h = let wrong : None ≡ Some y = is in cc
kept_there cells locks rs t (Some l) None y is h = absurd h
kept_there cells locks rs t None (Some z) y is h = absurd h
kept_there cells locks rs t (Some l) (Some z) y is h = (l, refl, subst (IsLife cells locks rs t l) (same-some z y is) h)

-- what comes to the same makes the same of files
same_map_of : (m : Cells) (es fs : List Edit) → intents_of es ≡ intents_of fs → edits_map es m ≡ edits_map fs m
same_map_of m es fs e = sym (with_all es m) ∙ ap (λ (i : Intents). with_intents i m) e ∙ with_all fs m

-- ---- a state that is made of what stands

-- it needs no more than these
pub record NeedsNoMore (m : Cells) (es : List Edit) (n : Counts) : Type 0 where
  pub places : need_of m es ≤ n.places
  pub files : made_of is_leader m es ≤ n.files
  pub owners : made_of is_owner m es ≤ n.owners

pub needs_counted : (m : Cells) (es : List Edit) (n : Counts) → AreCountsOf m es n → NeedsNoMore m es n
needs_counted m es n h = record { places = omega (arith, h.places); files = omega (arith, h.files); owners = omega (arith, h.owners) }

needs_same : (m : Cells) (es fs : List Edit) (n : Counts) → intents_of es ≡ intents_of fs → NeedsNoMore m es n → NeedsNoMore m fs n
needs_same m es fs n same h =
    let own : Counts = record { cells = changed es; places = need_of m es; files = made_of is_leader m es; owners = made_of is_owner m es } in
    let k : AreCountsOf m fs own = same_counts m es fs own same (record { cells = refl; places = refl; files = refl; owners = refl }) in
    record { places = omega (arith, k.places, h.places); files = omega (arith, k.files, h.files); owners = omega (arith, k.owners, h.owners) }

-- A part that is ready in that state: it lives and its join is here, and it holds and intends what it does. It is among those for which
-- there is room.
pub record IsReadyThere {V : Type 0} (a : Account) (k : ServerState V) (left : State) (lives : TransId → Option Life) (kept : LiveMap) (voters : List TransId) (sizes : TransId → PartSize) (j : JoinNo) (t : TransId) (client : ℕ) : Type 0 where
  pub life : Life
  pub there : a.holder.lives t ≡ Some life
  pub its : life.join ≡ Some j
  pub now : Life
  pub left_now : left.holder.lives t ≡ Some now
  pub still : lives t ≡ Some now
  pub held : now.held ≡ life.held
  pub edits : now.edits ≡ life.edits
  pub live : Live
  pub at : map.get k.lives t ≡ Some live
  pub stays : map.get kept t ≡ Some live
  pub alike : IsLife a.holder.cells k.locks.held (a.locked t) t live life
  pub joined : LiveJoin
  pub found : join_at k.joins.lives j ≡ Some joined
  pub trans : joined.trans ≡ t
  pub whose : joined.client ≡ client
  pub drawn : is_drawn a.holder.server a.ids.epoch a.ids.joins j.server j.epoch j.counter ≡ true
  pub needs : NeedsNoMore left.holder.cells life.edits live.part.counts
  pub voter : Has t voters
  pub size : sizes t ≡ size_in k.lives t

-- a decision in it is of a transaction that was drawn and counts here
abbrev pub IsDecidedThere : {V : Type 0} → Account → ServerState V → TransId → Type 0
IsDecidedThere a k t = (is_drawn a.holder.server a.ids.epoch a.ids.transactions t.server t.epoch t.counter ≡ true) × (has_trans t (counted_list k.coordinator) ≡ true)

-- It is of the same server. The volume has room for the parts that stay, and the log for those that are ready, and with what they intend the
-- files are sound. Ready parts and decisions are of what is here.
pub record IsMade {V : Type 0} (a : Account) (k : ServerState V) (left : State) : Type 0 where
  pub server : left.holder.server ≡ a.holder.server
  pub among : left.servers ≡ a.servers
  pub lives : TransId → Option Life
  pub sound : AreSoundLives left.holder.cells lives
  pub kept : LiveMap
  pub room : HaveRoom k.sizes left.holder.cells (totals_of kept)
  pub voters : List TransId
  pub sizes : TransId → PartSize
  pub fits : log_sum (list_map sizes voters) ≤ k.sizes.area
  pub ready : (j : JoinNo) (t : TransId) (client ts : ℕ) → left.phases j ≡ Ready t client ts → IsReadyThere a k left lives kept voters sizes j t client
  pub decided : (t : TransId) (d : Decision) → decision_kept (left.fates t) ≡ Some d → IsDecidedThere a k t

-- ---- all of it

module _ {V : Type 0} (a : Account) (held : Contents) (k : ServerState V) (steps : ℕ) (serves : Bool) (h : IsAs a held k) (r : IsReady steps serves k)
    (near : ℕ) (late : a.ids.epoch ≤ near) (left : State) (made : IsMade a k left) (c : Contents) (stored : IsStoredBy near left c) where
  abbrev notes : Notes
  notes = c.notes

  abbrev server : ℕ
  server = a.holder.server

  abbrev epoch : ℕ
  epoch = a.ids.epoch

  abbrev cells : Cells
  cells = left.holder.cells

  said : AreNotesOf left near c.notes
  said = stored.notes

  -- ---- the part of a note

  abbrev IsReadyIn : JoinNo → TransId → ℕ → Type 0
  IsReadyIn j t client = IsReadyThere a k left made.lives made.kept made.voters made.sizes j t client

  record IsOfPart (j : JoinNo) (p : ReadyPart) : Type 0 where
    pub here : IsReadyIn j p.trans p.client
    pub locked : held_by p.locks ≡ here.life.held
    pub intents : intents_of (edits_of p.change) ≡ intents_of here.life.edits
    pub once : length p.locks ≡ length (with_resources p.locks [])
    pub cells : changed_cells p.change ≡ changed (edits_of p.change)

  part_of : (j : JoinNo) (p : ReadyPart) → ready_name.Fits j → ready_at notes j ≡ Some p → IsOfPart j p
  part_of j p fits at =
      let nk : IsNoteKept left.holder.lives (left.phases j) p = note_kept left.holder.lives (left.phases j) p (subst (IsReadyNote left.holder.lives (left.phases j)) at (said.ready j fits)) in
      let x : IsReadyIn j p.trans p.client = made.ready j p.trans p.client p.ts nk.phase_is in
      let same : nk.life ≡ x.now = same-some nk.life x.now (sym nk.live ∙ x.left_now) in
      let noted : held_by p.locks ≡ nk.life.held = λ i q. nk.kept.held q i in
      record {
        here = x;
        locked = noted ∙ ap (λ (l : Life). l.held) same ∙ x.held;
        intents = nk.kept.intents ∙ ap (λ (l : Life). intents_of l.edits) same ∙ ap (λ (es : List Edit). intents_of es) x.edits;
        once = nk.kept.once;
        cells = nk.kept.cells;
      }

  module _ (j : JoinNo) (p : ReadyPart) (y : IsOfPart j p) where
    abbrev x : IsReadyIn j p.trans p.client
    x = y.here

    -- a part has as many locks as its note lists
    locks_same : length (with_resources p.locks []) ≡ x.live.locks
    locks_same =
        let all : AreHeld (held_by p.locks) (with_resources p.locks []) = held_then no_locks p.locks [] (λ q. refl, tt) in
        let one : sum_in (λ (e : Resource × Mode). 1) (held_of k.locks.held p.trans) ≡ length (with_resources p.locks []) =
        as_many (with_resources p.locks []) (held_of k.locks.held p.trans) (λ q. all.0 q ∙ ap (λ (f : Holding). is_some (f q)) y.locked ∙ ap is_some (x.alike.held q)) all.1 in
        let two : sum_in (λ (e : Resource × Mode). 1) (held_of k.locks.held p.trans) ≡ length (a.locked p.trans) =
        as_many (a.locked p.trans) (held_of k.locks.held p.trans) (λ q. x.alike.known.0 q ∙ ap is_some (x.alike.held q)) x.alike.known.1 in
        sym one ∙ two ∙ sym x.alike.count

    changed_same : changed (edits_of p.change) ≡ x.live.part.counts.cells
    changed_same = ap changed_by y.intents ∙ sym x.alike.counts.cells

    part_intended : IsIntended (held_by p.locks)
    part_intended = subst IsIntended (sym y.locked) x.alike.intended

    -- what is held is what the note lists
    held_is : (q : Resource) → holding k.locks.held p.trans q ≡ held_by p.locks q
    held_is q = sym (x.alike.held q) ∙ ap (λ (g : Holding). g q) (sym y.locked)

    part_own : (f : FileId) (m : Mode) → held_by p.locks (Whole f) ≡ Some m → is_own server epoch f ≡ true
    part_own f m e = (λ i. is_own (h.server i) (h.epoch i) f) ∙ (r.unheld p.trans).tidy.own f m (held_is (Whole f) ∙ e)

    part_covered : list_all (is_covered (held_by p.locks)) (edits_of p.change) ≡ true
    part_covered =
        let may : MayWrite (Writes (held_by p.locks)) x.life.edits = subst (λ (g : Holding). MayWrite (Writes g) x.life.edits) (sym y.locked) x.alike.within in
        change_covered p.locks (intents_of x.life.edits) (within_intents (Writes (held_by p.locks)) x.life.edits may) p.change y.intents

    part_good : IsPartNote a.holder.server a.ids.epoch (part_note (j, p))
    part_good =
        let limits = r.within p.trans x.live x.at in
        let fit : AllFit (intents_of x.life.edits).puts = subst (λ (i : Intents). AllFit i.puts) x.alike.intents limits.part.fit in
        let most : x.live.part.counts.cells ≤ 256 = limits.part.most in
        let few : x.live.locks ≤ 1024 = limits.locks in
        record {
          modes = modes_all p.locks y.once (λ q m e. (r.unheld p.trans).tidy.modes q m (held_is (Leaf q) ∙ e));
          locks = record {
            intended = intended_all p.locks y.once part_intended;
            covered = part_covered;
            few = omega (arith, locks_same, few);
          };
          locked = own_all p.locks y.once part_intended a.holder.server a.ids.epoch part_own;
          edited = own_edits a.holder.server a.ids.epoch (held_by p.locks) part_intended part_own (edits_of p.change) part_covered;
          join = drawn_by a.holder.server a.ids.epoch a.ids.joins j.server j.epoch j.counter x.drawn;
          client = subst (λ (n : ℕ). IsClient n) x.whose (r.joins.clients j x.joined x.found);
          cells = omega (arith, changed_same, most);
          once = record {
            locks = y.once;
            edits = change_length p.change ∙ y.cells;
          };
          fit = subst (λ (i : Intents). AllFit i.puts) (sym y.intents) fit;
        }

    part_size : size_of (part_note (j, p)) ≡ made.sizes p.trans
    part_size =
        (λ i. record { cells = changed_same i; locks = locks_same i })
        ∙ ap live_size (sym x.at) ∙ sym x.size

    part_needs : NeedsNoMore left.holder.cells (edits_of p.change) x.live.part.counts
    part_needs = needs_same left.holder.cells x.life.edits (edits_of p.change) x.live.part.counts (sym y.intents) x.needs

  -- ---- each note

  record IsOfNote (n : ReadyNote) : Type 0 where
    pub part : ReadyPart
    pub same : part_note (n.join, part) ≡ n
    pub whole : IsOfPart n.join part

  of_note : (n : ReadyNote) → Has n (ready_kept c.notes) → IsOfNote n
  of_note n has = (let s : IsReadyAt c.notes n = ready_stands c.notes n has in record { part = s.part; same = s.same; whole = part_of n.join s.part s.named s.at })

  note_good : (n : ReadyNote) → Has n (ready_kept c.notes) → IsPartNote a.holder.server a.ids.epoch n
  note_good n has = (let s : IsOfNote n = of_note n has in subst (IsPartNote a.holder.server a.ids.epoch) s.same (part_good n.join s.part s.whole))

  -- its life, and what is kept of it
  record IsNoteLife (n : ReadyNote) : Type 0 where
    pub life : Life
    pub there : a.holder.lives n.trans ≡ Some life
    pub its : life.join ≡ Some n.join
    pub now : Life
    pub still : made.lives n.trans ≡ Some now
    pub locked : held_by n.locks ≡ now.held
    pub intents : intents_of n.edits ≡ intents_of now.edits
    pub live : Live
    pub stays : map.get made.kept n.trans ≡ Some live
    pub needs : NeedsNoMore left.holder.cells n.edits live.part.counts
    pub voter : Has n.trans made.voters
    pub size : size_of n ≡ made.sizes n.trans
    pub joined : LiveJoin
    pub found : join_at k.joins.lives n.join ≡ Some joined
    pub trans : joined.trans ≡ n.trans

  life_noted : (n : ReadyNote) → Has n (ready_kept c.notes) → IsNoteLife n
  life_noted n has =
      let s : IsOfNote n = of_note n has in
      let y : IsOfPart n.join s.part = s.whole in
      let x : IsReadyIn n.join s.part.trans s.part.client = y.here in
      subst IsNoteLife s.same (record {
        life = x.life;
        there = x.there;
        its = x.its;
        now = x.now;
        still = x.still;
        locked = y.locked ∙ sym x.held;
        intents = y.intents ∙ ap (λ (es : List Edit). intents_of es) (sym x.edits);
        live = x.live;
        stays = x.stays;
        needs = part_needs n.join s.part y;
        voter = x.voter;
        size = part_size n.join s.part y;
        joined = x.joined;
        found = x.found;
        trans = x.trans;
      })

  -- ---- two of them

  abbrev AmongNotes : List ReadyNote → Type 0
  AmongNotes ns = (n : ReadyNote) → Has n ns → Has n (ready_kept c.notes)

  two_notes : (n m : ReadyNote) → IsNoteLife n → IsNoteLife m → same_join m.join n.join ≡ false → AreTwo n m
  two_notes n m x y other = record { apart = tied_same n.trans m.trans ∙ away; agree = agreeing }
    where
      one_life : n.trans ≡ m.trans → x.life ≡ y.life
      one_life e = same-some x.life y.life (sym x.there ∙ ap a.holder.lives e ∙ y.there)

      one_join : n.trans ≡ m.trans → m.join ≡ n.join
      one_join e = same-some m.join n.join (sym y.its ∙ ap (λ (z : Life). z.join) (sym (one_life e)) ∙ x.its)

      differ : (b : Bool) → same_trans n.trans m.trans ≡ b → b ≡ false
      differ false e = refl
      differ true e = let wrong : true ≡ false = sym (same_join-itself n.join) ∙ ap (λ (i : JoinNo). same_join i n.join) (sym (one_join (same_trans-true n.trans m.trans e))) ∙ other in cc

      away : same_trans n.trans m.trans ≡ false
      away = differ (same_trans n.trans m.trans) refl

      agreeing : DoAgree (held_by n.locks) (held_by m.locks)
      agreeing = subst (λ (g : Holding). DoAgree g (held_by m.locks)) (sym x.locked) (subst (DoAgree x.now.held) (sym y.locked) (made.sound.agree n.trans m.trans x.now y.now x.still y.still away))

  apart_from : (ns : List ReadyNote) → AmongNotes ns → are_joins_apart (joins_of ns) ≡ true → AreApart ns
  apart_from [] among once = tt
  apart_from (n ∷ ns) among once =
      let both = and_parts (not (has_join n.join (joins_of ns))) (are_joins_apart (joins_of ns)) once in (
        all_has (AreTwo n) ns (λ m has. two_notes n m (life_noted n (among n (inl refl))) (life_noted m (among m (inr has))) (apart_join n.join ns (not-true (has_join n.join (joins_of ns)) both.0) m has)),
        apart_from ns (λ m has. among m (inr has)) both.1,
      )

  pub notes_apart : AreApart (ready_kept c.notes)
  notes_apart = apart_from (ready_kept c.notes) (λ n has. has) (joins_apart c.notes)

  -- ---- decisions

  low_epoch : (clock_before (a.ids.epoch + 1) c.notes).epoch ≡ a.ids.epoch
  low_epoch = (let same : (clock_kept c.notes).epoch ≡ near = ap (λ (z : ClockNote). z.epoch) said.clock in omega (arith, same, late))

  decided_at : (d : DecisionNote) → IsDecisionAt c.notes d → IsDecidedThere a k d.stamp.trans
  decided_at d s = made.decided d.stamp.trans s.decision (sym (said.decided d.stamp.trans s.named) ∙ s.at)

  decision_good : (d : DecisionNote) → Has d (decisions_kept c.notes) → is_decided_by (clock_before (a.ids.epoch + 1) c.notes) d.stamp ≡ true
  decision_good d has =
      let s : IsDecisionAt c.notes d = decision_stands c.notes d has in
      let there : IsDecidedThere a k d.stamp.trans = decided_at d s in
      let time : s.decision.ts ≤ left.holder.kept = said.timely d.stamp.trans s.decision (sym (said.decided d.stamp.trans s.named) ∙ s.at) in
      let clock : (clock_kept c.notes).clock ≡ left.holder.kept = ap (λ (z : ClockNote). z.clock) said.clock in
      let early : d.stamp.ts ≤ (clock_kept c.notes).clock = omega (arith, time, clock, s.ts) in
      ap (λ (e : ℕ). is_drawn_by e d.stamp.trans.epoch d.stamp.trans.counter && nat_le d.stamp.ts (clock_kept c.notes).clock) low_epoch
      ∙ (λ i. drawn_by a.holder.server a.ids.epoch a.ids.transactions d.stamp.trans.server d.stamp.trans.epoch d.stamp.trans.counter there.0 i && le-leb d.stamp.ts (clock_kept c.notes).clock early i)

  -- ---- how many

  ready_few : length (ready_kept c.notes) ≤ length k.joins.lives
  ready_few =
      let all : length (ready_trans (ready_kept c.notes)) ≤ length (joined_list k.joins.lives) =
      within (ready_trans (ready_kept c.notes)) (joined_list k.joins.lives) (apart_once (ready_trans (ready_kept c.notes)) (ready_apart (ready_kept c.notes) notes_apart)) (λ t here. there t here) in
      omega (arith, all, length_joined k.joins.lives, length-map (ready_kept c.notes) (λ (n : ReadyNote). n.trans))
    where
      there : (t : TransId) → has_trans t (ready_trans (ready_kept c.notes)) ≡ true → has_trans t (joined_list k.joins.lives) ≡ true
      there t here =
          let n = named (λ (m : ReadyNote). m.trans) (ready_kept c.notes) t here in
          let x : IsNoteLife n.0 = life_noted n.0 n.1 in
          subst (λ (u : TransId). has_trans u (joined_list k.joins.lives) ≡ true) (x.trans ∙ n.2) (joined_there n.0.join x.joined k.joins.lives x.found)

  decided_few : length (decisions_kept c.notes) ≤ counted_of k.coordinator
  decided_few =
      let all : length (decided_trans (decisions_kept c.notes)) ≤ length (counted_list k.coordinator) =
      within (decided_trans (decisions_kept c.notes)) (counted_list k.coordinator) (apart_once (decided_trans (decisions_kept c.notes)) (decided_apart c.notes)) (λ t here. there t here) in
      omega (arith, all, length-map (decisions_kept c.notes) (λ (d : DecisionNote). d.stamp.trans))
    where
      there : (t : TransId) → has_trans t (decided_trans (decisions_kept c.notes)) ≡ true → has_trans t (counted_list k.coordinator) ≡ true
      there t here =
          let d = named (λ (e : DecisionNote). e.stamp.trans) (decisions_kept c.notes) t here in
          subst (λ (u : TransId). has_trans u (counted_list k.coordinator) ≡ true) d.2 (decided_at d.0 (decision_stands c.notes d.0 d.1)).1

  -- ---- how much

  abbrev IsVoter : ReadyNote → TransId → Type 0
  IsVoter n t = (n.trans ≡ t) × (size_of n ≡ made.sizes t)

  log_fits : log_sum (list_map size_of (ready_kept c.notes)) ≤ a.sizes.area
  log_fits =
      let most : log_sum (list_map made.sizes made.voters) ≤ k.sizes.area = made.fits in
      let less : log_sum (list_map size_of (ready_kept c.notes)) ≤ log_sum (list_map made.sizes made.voters) =
      log_less IsVoter size_of made.sizes (λ n t v. v.1) (ready_kept c.notes) made.voters (λ n has. voter n (life_noted n has)) (own_notes IsVoter (λ n m t v w. v.0 ∙ sym w.0) (ready_kept c.notes) notes_apart) in
      omega (arith, most, less, ap (λ (s : Sizes). s.area) h.sizes)
    where
      voter : (n : ReadyNote) → IsNoteLife n → (t : TransId) × Has t made.voters × IsVoter n t
      voter n x = (n.trans, x.voter, (refl, x.size))

  abbrev IsCounted : ReadyNote → TransId × Live → Type 0
  IsCounted n e = (n.trans ≡ e.0) × NeedsNoMore left.holder.cells n.edits e.1.part.counts

  counted_own : HaveOwn IsCounted (ready_kept c.notes)
  counted_own = own_notes IsCounted (λ n m e v w. v.0 ∙ sym w.0) (ready_kept c.notes) notes_apart

  counted_each : (n : ReadyNote) → Has n (ready_kept c.notes) → (e : TransId × Live) × Has e (map.entries made.kept) × IsCounted n e
  counted_each n has = (let x : IsNoteLife n = life_noted n has in ((n.trans, x.live), entry_there made.kept n.trans x.live x.stays, (refl, x.needs)))

  less_of : (f : ReadyNote → ℕ) (g : TransId × Live → ℕ) → ((n : ReadyNote) (e : TransId × Live) → IsCounted n e → f n ≤ g e) → sum_by f (ready_kept c.notes) ≤ sum_by g (map.entries made.kept)
  less_of f g less = sum_less IsCounted f g less (ready_kept c.notes) (map.entries made.kept) counted_each counted_own

  rooms : HaveRoomTogether a.sizes left.holder.cells (ready_kept c.notes)
  rooms =
      let places : sum_by (λ (n : ReadyNote). need_of left.holder.cells n.edits) (ready_kept c.notes) ≤ sum_by (λ (e : TransId × Live). e.1.part.counts.places) (map.entries made.kept) =
      less_of (λ n. need_of left.holder.cells n.edits) (λ e. e.1.part.counts.places) (λ n e z. z.1.places) in
      let files : sum_by (λ (n : ReadyNote). made_of is_leader left.holder.cells n.edits) (ready_kept c.notes) ≤ sum_by (λ (e : TransId × Live). e.1.part.counts.files) (map.entries made.kept) =
      less_of (λ n. made_of is_leader left.holder.cells n.edits) (λ e. e.1.part.counts.files) (λ n e z. z.1.files) in
      let owners : sum_by (λ (n : ReadyNote). made_of is_owner left.holder.cells n.edits) (ready_kept c.notes) ≤ sum_by (λ (e : TransId × Live). e.1.part.counts.owners) (map.entries made.kept) =
      less_of (λ n. made_of is_owner left.holder.cells n.edits) (λ e. e.1.part.counts.owners) (λ n e z. z.1.owners) in
      record {
        places = omega (arith, places, made.room.places, ap (λ (s : Sizes). s.home) h.sizes);
        files = omega (arith, files, made.room.files);
        owners = omega (arith, owners, made.room.owners);
      }

  -- ---- files

  one_sound : (n : ReadyNote) → IsNoteLife n → AreSound (edits_map n.edits left.holder.cells)
  one_sound n x =
      let same : edits_map (edits_in (made.lives n.trans) ++ []) left.holder.cells ≡ edits_map n.edits left.holder.cells =
      ap (λ (es : List Edit). edits_map es left.holder.cells) (append-nil (edits_in (made.lives n.trans)) ∙ ap edits_in x.still) ∙ same_map_of left.holder.cells x.now.edits n.edits (sym x.intents) in
      subst AreSound same (made.sound.sound (n.trans ∷ []) refl)

  all_noted : (ns : List ReadyNote) (m : Cells) → AmongNotes ns → edits_map (all_edits made.lives (ready_trans ns)) m ≡ edits_map (flat_map (λ (n : ReadyNote). n.edits) ns) m
  all_noted [] m among = refl
  all_noted (n ∷ ns) m among =
      let x : IsNoteLife n = life_noted n (among n (inl refl)) in
      edits_map-append (edits_in (made.lives n.trans)) (all_edits made.lives (ready_trans ns)) m
      ∙ ap (λ (c : Cells). edits_map (all_edits made.lives (ready_trans ns)) c) (ap (λ (es : List Edit). edits_map es m) (ap edits_in x.still) ∙ same_map_of m x.now.edits n.edits (sym x.intents))
      ∙ all_noted ns (edits_map n.edits m) (λ o has. among o (inr has))
      ∙ sym (edits_map-append n.edits (flat_map (λ (o : ReadyNote). o.edits) ns) m)

  files_sound : AreSoundTogether left.holder.cells (ready_kept c.notes)
  files_sound = record {
    each = all_has (λ (n : ReadyNote). AreSound (edits_map n.edits left.holder.cells)) (ready_kept c.notes) (λ n has. one_sound n (life_noted n has));
    all = subst AreSound (all_noted (ready_kept c.notes) left.holder.cells (λ n has. has)) (made.sound.sound (ready_trans (ready_kept c.notes)) (ready_apart (ready_kept c.notes) notes_apart));
  }

  -- ---- together

  pub keeps_together : AreTogether a.holder.server a.servers (a.ids.epoch + 1) a.sizes c.cells c.notes
  keeps_together =
      subst (λ (z : Cells). AreTogether a.holder.server a.servers (a.ids.epoch + 1) a.sizes z c.notes) (sym stored.cells)
      (record {
        notes_alone = record {
          format = subst (λ (n : ℕ). AreServerNotes n a.servers c.notes) made.server (subst (λ (n : ℕ). AreServerNotes left.holder.server n c.notes) made.among said.format);
          parts = subst (λ (e : ℕ). AllByRecursion (IsPartNote a.holder.server e) (ready_kept c.notes)) (sym low_epoch) (all_has (IsPartNote a.holder.server a.ids.epoch) (ready_kept c.notes) note_good);
          decided = all_listed (λ (d : DecisionNote). is_decided_by (clock_before (a.ids.epoch + 1) c.notes) d.stamp) (decisions_kept c.notes)
              (all_has (λ (d : DecisionNote). is_decided_by (clock_before (a.ids.epoch + 1) c.notes) d.stamp ≡ true) (decisions_kept c.notes) decision_good);
          apart = notes_apart;
          few = omega (arith, ready_few, decided_few, r.most);
          log = log_fits;
        };
        room = rooms;
        sound = files_sound;
      })
