-- a server that keeps what it found is ready, whatever its vault tells, and its notes are those of what it keeps
use Rattle.std.specs.Prelude.{cond, max, Bool, true, false, not, ◌&&◌, ◌||◌, ◌==◌, nat_le, filter, is_some, Option, None, Some, unwrap_or, IsTrue, sum_by, map as list_map}
use Rattle.std.specs.List.{list_all, AllByRecursion}
use Rattle.std.specs.FinMap as map
use Rattle.std.specs.FinMap.{get-empty}
use Rattle.std.specs.Ordering.{eq_by_cmp}
use Rattle.std.specs.Option.{option_or}
use Rattle.std.proofs.Common.{◌≡◌, ◌⊎◌, inl, inr, ℕ, suc, ◌+◌, ◌<◌, ◌≤◌, ◌^◌, List, [], ◌∷◌, ◌++◌, length, length-append, append_assoc, append-nil, refl, sym, ◌∙◌, ap, subst, arith}
use Rattle.std.proofs.lemmas.Bool.{eqb-true, leb-true, and_parts, not-true, or_parts}
use Rattle.std.proofs.lemmas.List.{length-map}
use Rattle.std.proofs.lemmas.Map.Views.{tells_apart}
use Rattle.alp_base.specs.Notes.{Notes, noted}
use Rattle.alp_base.specs.Orders.{trans_cmp, resource_cmp, exact_transactions, exact_resources}
use Rattle.alp_base.specs.declared.bytes.NoteChange.{NoteChange}
use Rattle.alp_base.specs.declared.change.Change.{Change}
use Rattle.alp_base.specs.declared.faults.Sizes.{Sizes}
use Rattle.alp_base.specs.declared.ids.FileId.{FileId}
use Rattle.alp_base.specs.declared.ids.JoinNo.{JoinNo}
use Rattle.alp_base.specs.declared.ids.Stamp.{Stamp}
use Rattle.alp_base.specs.declared.ids.TransId.{TransId}
use Rattle.alp_base.specs.declared.key.Key.{Key}
use Rattle.alp_base.specs.declared.key.Resource.{Resource}
use Rattle.alp_base.specs.declared.key.Resource.TheVariants.{Whole}
use Rattle.alp_base.specs.declared.cell.Cell.{Cell}
use Rattle.alp_fields.specs.ClockNote.{clock_name, clock_form, clock_kept}
use Rattle.alp_fields.specs.ReadyNote.{ready_name}
use Rattle.alp_fields.specs.DecisionNote.{decision_name}
use Rattle.alp_fields.specs.declared.clock_note.ClockNote.{ClockNote}
use Rattle.alp_fields.specs.declared.decision_note.Decision.{Decision}
use Rattle.alp_fields.specs.declared.ready_note.ReadyPart.{ReadyPart as NotedPart}
use Rattle.alp_fields.proofs.FormLaws.{some_is}
use Rattle.alp_files.specs.Act.{Own, no_opens}
use Rattle.alp_files.specs.Cells.{Cells}
use Rattle.alp_files.specs.Changes.{edits_of}
use Rattle.alp_files.specs.Edits.{Edit, Drop, Cut, Put}
use Rattle.alp_files.specs.Undo.{puts_of}
use Rattle.alp_files.specs.Holdings.{held_by, join_held}
use Rattle.alp_files.specs.Locks.{Need}
use Rattle.alp_files.specs.Needs.{changed, changed_by}
use Rattle.alp_files.specs.declared.open.Open.{Open}
use Rattle.alp_modes.specs.declared.Mode.{Mode}
use Rattle.alp_queue.specs.Rises.{Held}
use Rattle.alp_queue.specs.declared.waiter.Waiter.{Waiter}
use Rattle.alp_locks.specs.Tables.{Table, holding}
use Rattle.alp_vault.proofs.VolumeLemmas.{clock_length}
use Rattle.alp_vault.specs.Volumes.{changed_cells, AreNoteChanges, record_pages, live_bytes, commit_bytes, noted_bytes}
use Rattle.alp_calls.specs.Parts.{IsPart}
use Rattle.alp_trans.specs.Parts.{own_of}
use Rattle.alp_ready.specs.NoteLooks.{Keeps, ready_at, decision_at}
use Rattle.alp_ready.proofs.NoteViews.{put_clock}
use Rattle.alp_coord.specs.Coordinators.{IsOf, fate_in, counted_of, remembered}
use Rattle.alp_coord.specs.Likeness.{IsLike, same, IsLikeOld, standing, nothing, IsFateOf}
use Rattle.alp_coord.specs.declared.coordinator.Coordinator.{Coordinator}
use Rattle.alp_worker.specs.Again.{is_other}
use Rattle.alp_worker.specs.Joins.{AreJoinsOf, is_drawn_in}
use Rattle.alp_worker.specs.Lives.{live_at, join_at}
use Rattle.alp_worker.specs.Regained.{part_noted, live_noted, with_part, with_parts}
use Rattle.alp_worker.specs.Rooms.{sum_of}
use Rattle.alp_worker.specs.Walks.{ready_in}
use Rattle.alp_worker.specs.declared.joins.Joins.{Joins}
use Rattle.alp_worker.specs.declared.live.LiveJoin.{LiveJoin}
use Rattle.alp_worker.specs.declared.live.Stage.TheVariants as stage
use Rattle.alp_worker.specs.declared.regain.ReadyPart.{ReadyPart}
use Rattle.alp_worker.specs.declared.room.PartSize.{PartSize}
use Rattle.alp_worker.proofs.LiveLemmas.{at_pushed}
use Rattle.alp_journal.specs.Along.{Where}
use Rattle.alp_journal.specs.Answers.{is_counted}
use Rattle.alp_journal.specs.Counts.{log_need, with_resources, ready_sum}
use Rattle.alp_journal.specs.Coordinator.{Fate, Undrawn, Committed, client_of, decision_in, fate_noted}
use Rattle.alp_journal.specs.Desk.{Session}
use Rattle.alp_journal.specs.Ids.{same_join, has_join, is_drawn}
use Rattle.alp_journal.specs.Laws.{are_joins_apart}
use Rattle.alp_journal.specs.Opening.{Start, ReadyNote, DecisionNote, ready_kept, decisions_kept}
use Rattle.alp_journal.specs.Participant.{Phase, Unseen, Ready, phase_noted}
use Rattle.alp_journal.specs.State.{opened}
use Rattle.alp_journal.proofs.OpenedLemmas.{opened_on, opened_stands}
use Rattle.alp_regain.specs.Named.{is_own, is_own_resource, is_drawn_by}
use Rattle.alp_regain.specs.Notes.{part_note}
use Rattle.alp_regain.specs.Owners.{joins_of}
use Rattle.alp_regain.specs.Regained.{IsPartOf, ArePartsOf, HoldsNoted, IsKnownTo, AreLocksOf, has_note_of}
use Rattle.alp_regain.specs.Rooms.{FitsLogAlone}
use Rattle.alp_regain.specs.Together.{clock_before, IsPartNote, AreNotesTogether, size_of, log_sum}
use Rattle.alp_regain.specs.declared.part.RegainedPart.{RegainedPart}
use Rattle.alp_regain.proofs.OwnerLemmas.{joins_apart}
use Rattle.alp_regain.proofs.RoomLemmas.{each_fits}
use Rattle.alp_node.specs.Found.{live_of, lives_of, IsFoundIn}
use Rattle.alp_node.specs.Asks.{is_given, IsTidyHeld}
use Rattle.alp_node.specs.Noted.{AreNoted, IsNotedJoin, IsNoteOf, HasSize, decision_kept, size_in, ready_room, size_of as size_of_live}
use Rattle.alp_node.specs.Paired.{ArePaired, IsPairedWith, IsItsJoin}
use Rattle.alp_node.specs.Rooms.{IsWithin}
use Rattle.alp_node.specs.ServerState.{AreJoinsHere, IsReady}
use Rattle.alp_node.specs.Sessions.{no_sessions, session_at, IsClient}
use Rattle.alp_node.specs.Totals.{LiveMap}
use Rattle.alp_node.specs.Transactions.{AreDecidedBy}
use Rattle.alp_node.specs.Waits.{IsOfCalls}
use Rattle.alp_node.specs.Writes.{clock_put}
use Rattle.alp_node.specs.declared.lives.Live.{Live}
use Rattle.alp_node.specs.declared.server_state.ServerState.{ServerState}
use Rattle.alp_node.proofs.CommitNotes.{clock_changes}
use Rattle.alp_node.proofs.EarlyLemmas.{early_gone}
use Rattle.alp_node.proofs.FoundLives.{IsFoundLive, live_note, note_live, lives_or}
use Rattle.alp_node.proofs.FoundNotes.{Has, each_has, IsReadyAt, ready_stands, ready_has, decision_has, IsPhaseNoted, phase_or, IsFateNoted, fate_or, phase_of, one_join}
use Rattle.alp_node.proofs.FoundStart.{opening, part_of_note, decided_drawn, decided_time, drawn_epoch, join_drawn, trans_away, notes_agree, joins_noted_so, decided_said, vote_time}
use Rattle.alp_node.proofs.LogLemmas.{notes_few, small_room}
use Rattle.alp_node.proofs.MapLemmas.{tied_same}
use Rattle.alp_node.proofs.StartLemmas.{no_session}
use Rattle.alp_node.proofs.TransactionLemmas.{count_told}
use Rattle.alp_node.proofs.HeldHere.{tidy_same, tidy_none, tidy_needs, tidy_noted}

-- ---- lists

edits_length : (c : Change) → length (edits_of c) ≡ changed_cells c
edits_length c =
    omega (
      arith,
      length-append (list_map Drop c.drops) (list_map (λ (x : FileId × ℕ). Cut x.0 x.1) c.cuts ++ puts_of c.puts),
      length-append (list_map (λ (x : FileId × ℕ). Cut x.0 x.1) c.cuts) (puts_of c.puts),
      length-map c.drops Drop,
      length-map c.cuts (λ (x : FileId × ℕ). Cut x.0 x.1),
      length-map c.puts (λ (x : Key × Cell). Put x.0 x.1),
    )

filter_few : {A : Type 0} (p : A → Bool) (xs : List A) → length (filter p xs) ≤ length xs
filter_few p [] = omega arith
filter_few {A} p (x ∷ xs) = go (p x) (filter_few p xs)
  where
    go : (b : Bool) → length (filter p xs) ≤ length xs → length (cond {A = List A} b (x ∷ filter p xs) (filter p xs)) ≤ suc (length xs)
    go true few = omega (arith, few)
    go false few = omega (arith, few)

-- ---- the joins, in the order of the notes

abbrev joined : ReadyNote → LiveJoin
joined n = live_noted (part_noted n)

none_at : (j : JoinNo) (ls : List LiveJoin) (n : ReadyNote) → join_at ls j ≡ None → same_join j n.join ≡ false → join_at (ls ++ joined n ∷ []) j ≡ None
none_at j ls n none other =
    at_pushed ls (joined n) j ∙ ap (λ (o : Option LiveJoin). option_or o (cond {A = Option LiveJoin} (same_join j n.join) (Some (joined n)) None)) none
    ∙ ap (λ (b : Bool). cond {A = Option LiveJoin} b (Some (joined n)) None) other

apart_join : (j : JoinNo) (ns : List ReadyNote) → has_join j (joins_of ns) ≡ false → (m : ReadyNote) → Has m ns → same_join m.join j ≡ false
apart_join j [] none m has = absurd has
apart_join j (n ∷ ns) none m (inl is) = ap (λ (x : ReadyNote). same_join x.join j) (sym is) ∙ (or_parts (same_join n.join j) (has_join j (joins_of ns)) none).0
apart_join j (n ∷ ns) none m (inr has) = apart_join j ns (or_parts (same_join n.join j) (has_join j (joins_of ns)) none).1 m has

grown : (ls : List LiveJoin) (ns : List ReadyNote) → are_joins_apart (joins_of ns) ≡ true → ((n : ReadyNote) → Has n ns → join_at ls n.join ≡ None) → with_parts ls (list_map part_noted ns) ≡ ls ++ list_map joined ns
grown ls [] apart none = sym (append-nil ls)
grown ls (n ∷ ns) apart none =
    let both = and_parts (not (has_join n.join (joins_of ns))) (are_joins_apart (joins_of ns)) apart in
    let pushed : with_part ls (part_noted n) ≡ ls ++ joined n ∷ [] = ap (λ (o : Option LiveJoin). cond {A = List LiveJoin} (is_some o) ls (ls ++ joined n ∷ [])) (none n (inl refl)) in
    ap (λ (xs : List LiveJoin). with_parts xs (list_map part_noted ns)) pushed
    ∙ grown (ls ++ joined n ∷ []) ns both.1 (λ m has. none_at m.join ls n (none m (inr has)) (apart_join n.join ns (not-true (has_join n.join (joins_of ns)) both.0) m has))
    ∙ append_assoc ls (joined n ∷ []) (list_map joined ns)

ready_sizes : (lives : LiveMap) (ns : List ReadyNote) → ((n : ReadyNote) → Has n ns → size_in lives n.trans ≡ size_of n) → list_map (size_in lives) (ready_in (list_map joined ns)) ≡ list_map size_of ns
ready_sizes lives [] each = refl
ready_sizes lives (n ∷ ns) each = λ i. each n (inl refl) i ∷ ready_sizes lives ns (λ m has. each m (inr has)) i

-- ---- locks on files of older epochs

not_own : (server before epoch n : ℕ) → before < epoch → is_own server before (record { server = server; epoch = epoch; counter = n }) ≡ true → ⊥
not_own server before epoch n less is = (let low : epoch ≤ before = leb-true epoch before (and_parts (server == server) (nat_le epoch before) is).1 in absurd (omega (arith, low, less)))

none_locked_on : (server before epoch c : ℕ) → before < epoch → (ns : List Need) → list_all (λ n. is_own_resource server before n.0) ns ≡ true → held_by ns (Whole (record { server = server; epoch = epoch; counter = c })) ≡ None
none_locked_on server before epoch c less [] own = refl
none_locked_on server before epoch c less (n ∷ ns) own =
    let both = and_parts (is_own_resource server before n.0) (list_all (λ m. is_own_resource server before m.0) ns) own in
    go (eq_by_cmp resource_cmp r n.0) refl both.0 (none_locked_on server before epoch c less ns both.1)
  where
    r : Resource
    r = Whole (record { server = server; epoch = epoch; counter = c })

    go : (b : Bool) → eq_by_cmp resource_cmp r n.0 ≡ b → is_own_resource server before n.0 ≡ true → held_by ns r ≡ None → cond {A = Option Mode} b (join_held (Some n.1) (held_by ns r)) (held_by ns r) ≡ None
    go false e its rest = rest
    go true e its rest = absurd (not_own server before epoch c less (ap (is_own_resource server before) (tells_apart exact_resources r n.0 e) ∙ its))

-- ---- decisions

client_remembered : (ds : List DecisionNote) (t : TransId) → client_of (remembered (fate_noted ds t)) ≡ None
client_remembered ds t = go (fate_or ds t)
  where
    by : (s : Stamp) (js : List JoinNo) → client_of (remembered (Committed s js [])) ≡ None
    by s [] = refl
    by s (j ∷ js) = refl

    go : (fate_noted ds t ≡ Undrawn) ⊎ IsFateNoted ds t (fate_noted ds t) → client_of (remembered (fate_noted ds t)) ≡ None
    go (inl none) = ap (λ (f : Fate). client_of (remembered f)) none
    go (inr x) = ap (λ (f : Fate). client_of (remembered f)) x.says ∙ by x.note.stamp x.note.joins

module _ (tells : Bool) (server servers area : ℕ) (sizes : Sizes) (epoch clock : ℕ) (cells : Cells) (notes : Notes) (h : AreNotesTogether server servers epoch area notes) (later : (clock_before epoch notes).epoch < epoch)
    (l : LiveMap) (t : Table) (k : Joins) (c : Coordinator) (f : IsFoundIn tells cells server epoch notes l t k c) where
  abbrev o : Start
  o = opening server servers area sizes epoch clock cells notes h later

  abbrev told : TransId → Fate
  told u = fate_noted (decisions_kept notes) u

  pub known_is : (u : TransId) → fate_in c u ≡ cond {A = Fate} (u.epoch == epoch) Undrawn (remembered (told u))
  known_is u = f.finds u ∙ (λ i. cond {A = Fate} (u.epoch == f.run.epoch_same i) Undrawn (remembered (told u)))

  -- what was decided is of an older epoch
  past : (u : TransId) → (u.epoch == epoch) ≡ true → IsFateNoted (decisions_kept notes) u (told u) → ⊥
  past u now x =
      let low : x.note.stamp.trans.epoch ≤ (clock_before epoch notes).epoch = drawn_epoch (clock_before epoch notes).epoch x.note.stamp.trans.epoch x.note.stamp.trans.counter (decided_drawn server servers area sizes epoch clock cells notes h later x.note x.has) in
      let at : x.note.stamp.trans.epoch ≡ u.epoch = ap (λ (v : TransId). v.epoch) x.of in
      absurd (omega (arith, low, at, later, eqb-true u.epoch epoch now))

  pub fates_like : (u : TransId) → IsFateOf epoch u (fate_in c u) (told u)
  fates_like u = subst (λ (x : Fate). IsFateOf epoch u x (told u)) (sym (known_is u)) (go (u.epoch == epoch) refl (fate_or (decisions_kept notes) u))
    where
      old : (s : Stamp) (js : List JoinNo) → IsLikeOld (remembered (Committed s js [])) (Committed s js [])
      old s [] = nothing (Committed s [] []) refl
      old s (j ∷ js) = standing s j js [] [] (record { who = λ i. refl })

      go : (b : Bool) → (u.epoch == epoch) ≡ b → (told u ≡ Undrawn) ⊎ IsFateNoted (decisions_kept notes) u (told u) → Where b (IsLike (cond {A = Fate} b Undrawn (remembered (told u))) (told u)) (IsLikeOld (cond {A = Fate} b Undrawn (remembered (told u))) (told u))
      go true e (inl none) = subst (IsLike Undrawn) (sym none) (same Undrawn)
      go true e (inr x) = absurd (past u e x)
      go false e (inl none) = subst (λ (x : Fate). IsLikeOld (remembered x) x) (sym none) (nothing Undrawn refl)
      go false e (inr x) = subst (λ (y : Fate). IsLikeOld (remembered y) y) (sym x.says) (old x.note.stamp x.note.joins)

  no_client : (u : TransId) → client_of (fate_in c u) ≡ None
  no_client u = ap client_of (known_is u) ∙ go (u.epoch == epoch)
    where
      go : (b : Bool) → client_of (cond {A = Fate} b Undrawn (remembered (told u))) ≡ None
      go true = refl
      go false = client_remembered (decisions_kept notes) u

  kept_same : (u : TransId) → decision_kept (fate_in c u) ≡ decision_kept (told u)
  kept_same u = ap decision_kept (known_is u) ∙ go (u.epoch == epoch) refl (fate_or (decisions_kept notes) u)
    where
      by : (s : Stamp) (js : List JoinNo) → decision_kept (remembered (Committed s js [])) ≡ decision_kept (Committed s js [])
      by s [] = refl
      by s (j ∷ js) = refl

      go : (b : Bool) → (u.epoch == epoch) ≡ b → (told u ≡ Undrawn) ⊎ IsFateNoted (decisions_kept notes) u (told u) → decision_kept (cond {A = Fate} b Undrawn (remembered (told u))) ≡ decision_kept (told u)
      go true e (inl none) = sym (ap decision_kept none)
      go true e (inr x) = absurd (past u e x)
      go false e (inl none) = ap (λ (y : Fate). decision_kept (remembered y)) none ∙ sym (ap decision_kept none)
      go false e (inr x) = ap (λ (y : Fate). decision_kept (remembered y)) x.says ∙ by x.note.stamp x.note.joins ∙ sym (ap decision_kept x.says)

  decided_times : (clock_kept notes).clock ≤ clock → AreDecidedBy clock c
  decided_times low u s js is = go (u.epoch == epoch) refl (fate_or (decisions_kept notes) u) (sym (ap decision_in (known_is u)) ∙ is)
    where
      by : (z : Stamp) (is_js : List JoinNo) → decision_in (remembered (Committed z is_js [])) ≡ Some (s, js) → z ≡ s
      by z [] e = let wrong : None ≡ Some (s, js) = e in cc
      by z (j ∷ ks) e = ap (λ (p : Stamp × List JoinNo). p.0) (some_is (z, j ∷ ks) (s, js) e)

      go : (b : Bool) → (u.epoch == epoch) ≡ b → (told u ≡ Undrawn) ⊎ IsFateNoted (decisions_kept notes) u (told u) → decision_in (cond {A = Fate} b Undrawn (remembered (told u))) ≡ Some (s, js) → s.ts ≤ clock
      go true e x at = let wrong : None ≡ Some (s, js) = at in cc
      go false e (inl none) at = let wrong : None ≡ Some (s, js) = sym (ap (λ (y : Fate). decision_in (remembered y)) none) ∙ at in cc
      go false e (inr x) at =
          let one : x.note.stamp ≡ s = by x.note.stamp x.note.joins (sym (ap (λ (y : Fate). decision_in (remembered y)) x.says) ∙ at) in
          let time : x.note.stamp.ts ≤ (clock_kept notes).clock = decided_time server servers area sizes epoch clock cells notes h later x.note x.has in
          omega (arith, ap (λ (y : Stamp). y.ts) one, time, low)

  -- ---- joins

  pub joins_are : AreJoinsOf (opened o) k
  joins_are = f.opens o refl refl refl (joins_noted_so server servers area sizes epoch clock cells notes h later)

  -- a live join is that of a note
  pub record IsOfNote (j : JoinNo) (x : LiveJoin) : Type 0 where
    pub note : ReadyNote
    pub has : Has note (ready_kept notes)
    pub of : note.join ≡ j
    pub is : x ≡ record { join = j; trans = note.trans; client = note.client; stage = stage.Ready note.ts }

  pub join_noted : (j : JoinNo) (x : LiveJoin) → join_at k.lives j ≡ Some x → IsOfNote j x
  join_noted j x is = go (phase_or (ready_kept notes) j)
    where
      at : live_at j (phase_noted (ready_kept notes) j) ≡ Some x
      at = sym (joins_are.live j) ∙ is

      go : (phase_noted (ready_kept notes) j ≡ Unseen) ⊎ IsPhaseNoted (ready_kept notes) j (phase_noted (ready_kept notes) j) → IsOfNote j x
      go (inl none) = let wrong : None ≡ Some x = sym (ap (live_at j) none) ∙ at in cc
      go (inr n) = record { note = n.note; has = n.has; of = n.of; is = some_is x (record { join = j; trans = n.note.trans; client = n.note.client; stage = stage.Ready n.note.ts }) (sym at ∙ ap (live_at j) n.says) }

  pub note_joined : (n : ReadyNote) → Has n (ready_kept notes) → join_at k.lives n.join ≡ Some (record { join = n.join; trans = n.trans; client = n.client; stage = stage.Ready n.ts })
  note_joined n has = joins_are.live n.join ∙ ap (live_at n.join) (phase_of notes n has)

  lives_are : (u : TransId) (x : Live) → map.get l u ≡ Some x → IsFoundLive tells cells server (clock_before epoch notes).epoch (ready_kept notes) u x
  lives_are u x is = live_note tells cells server (clock_before epoch notes).epoch f.parts (ready_kept notes) f.of u x (sym (ap (λ (m : LiveMap). map.get m u) f.lives) ∙ is)

  pub part_live : (n : ReadyNote) → Has n (ready_kept notes) → (p : RegainedPart) × (map.get l n.trans ≡ Some (live_of p)) × IsPartOf tells cells server (clock_before epoch notes).epoch p n
  part_live n has =
      let q = note_live tells cells server (clock_before epoch notes).epoch f.parts (ready_kept notes) f.of h.apart n has in
      (q.0, ap (λ (m : LiveMap). map.get m n.trans) f.lives ∙ q.1, q.2)

  pub paired : ArePaired servers server c k l
  paired = record {
    parts = λ u. part_of u (map.get l u) refl;
    joins = λ j x is going. (
        let n : IsOfNote j x = join_noted j x is in
        let p = part_live n.note n.has in
        let its : x.trans ≡ n.note.trans = ap (λ (y : LiveJoin). y.trans) n.is in
        (live_of p.0, ap (map.get l) its ∙ p.1, ap (λ (i : JoinNo). Some i) (p.2.join ∙ n.of))
        );
    others = λ j x is. (let n : IsOfNote j x = join_noted j x is in ap (λ (y : LiveJoin). is_other servers server y.trans.server) n.is ∙ trans_away server servers area sizes epoch clock cells notes h later n.note n.has);
    own = λ u client is. (let wrong : None ≡ Some client = sym (no_client u) ∙ is in cc);
  }
    where
      part_of : (u : TransId) (x : Option Live) → map.get l u ≡ x → IsPairedWith k u (fate_in c u) x
      part_of u None is = no_client u
      part_of u (Some y) is =
          let q : IsFoundLive tells cells server (clock_before epoch notes).epoch (ready_kept notes) u y = lives_are u y is in
          let joined_at : join_at k.lives q.part.join ≡ Some (record { join = q.note.join; trans = q.note.trans; client = q.note.client; stage = stage.Ready q.note.ts }) = ap (join_at k.lives) q.of.join ∙ note_joined q.note q.has in
          subst (λ (z : Live). IsPairedWith k u (fate_in c u) (Some z)) (sym q.is) (
            no_client u,
            subst (λ (z : Option LiveJoin). IsItsJoin u (live_of q.part) z) (sym joined_at) (q.trans, sym q.of.client, refl, tt),
          )

  -- ---- what the notes say of it

  live_size : (n : ReadyNote) → Has n (ready_kept notes) → size_in l n.trans ≡ size_of n
  live_size n has =
      let p = part_live n has in
      ap size_of_live p.1 ∙ (λ i. record { cells = (p.2.part.cells ∙ ap changed_by p.2.intents) i; locks = p.2.locks i })

  note_size : (j : JoinNo) (p : NotedPart) → Has (part_note (j, p)) (ready_kept notes) → HasSize (size_in l p.trans) p
  note_size j p has =
      let once = (part_of_note server servers area sizes epoch clock cells notes h later (part_note (j, p)) has).once in
      let size : size_in l p.trans ≡ size_of (part_note (j, p)) = live_size (part_note (j, p)) has in
      record {
        locks = once.locks ∙ ap (λ (n : PartSize). n.locks) (sym size);
        cells = sym (edits_length p.change) ∙ once.edits ∙ ap (λ (n : PartSize). n.cells) (sym size);
      }

  joins_said : (j : JoinNo) → ready_name.Fits j → (x : Option NotedPart) → ready_at notes j ≡ x → IsNotedJoin l (live_at j (phase_noted (ready_kept notes) j)) x
  joins_said j fits (Some p) is =
      let has : Has (part_note (j, p)) (ready_kept notes) = ready_has notes j p fits is in
      subst (λ (q : Phase). IsNotedJoin l (live_at j q) (Some p)) (sym (phase_of notes (part_note (j, p)) has)) (record { trans = refl; client = refl; ts = refl; size = note_size j p has })
  joins_said j fits None is = go (phase_or (ready_kept notes) j)
    where
      go : (phase_noted (ready_kept notes) j ≡ Unseen) ⊎ IsPhaseNoted (ready_kept notes) j (phase_noted (ready_kept notes) j) → IsNotedJoin l (live_at j (phase_noted (ready_kept notes) j)) None
      go (inl none) = subst (λ (q : Phase). IsNotedJoin l (live_at j q) None) (sym none) refl
      go (inr x) =
          let s : IsReadyAt notes x.note = ready_stands notes x.note x.has in
          let wrong : Some s.part ≡ None = sym s.at ∙ ap (ready_at notes) x.of ∙ is in
          cc

  found_keeps : Keeps server servers (clock_kept notes) (λ j. IsNotedJoin l (join_at k.lives j)) (λ u. decision_kept (fate_in c u)) notes
  found_keeps = record {
    clock = refl;
    ready = λ j fits. subst (λ (x : Option LiveJoin). IsNotedJoin l x (ready_at notes j)) (sym (joins_are.live j)) (joins_said j fits (ready_at notes j) refl);
    decided = λ u fits. decided_said server servers area sizes epoch clock cells notes h later u fits (decision_at notes u) refl ∙ sym (kept_same u);
    format = h.format;
  }

  pub found_noted : AreNoted server servers (clock_kept notes).epoch l k c notes
  found_noted = record { epoch = refl; ready = found_keeps.ready; decided = found_keeps.decided; format = h.format }

  abbrev notes_then : Notes
  notes_then = noted clock_name (Some (clock_form.spell (record { epoch = epoch; clock = clock }))) notes

  pub raised_noted : clock_form.Fits (record { epoch = epoch; clock = clock }) → AreNoted server servers epoch l k c notes_then
  raised_noted fits =
      let n : Keeps server servers (record { epoch = epoch; clock = clock }) (λ j. IsNotedJoin l (join_at k.lives j)) (λ u. decision_kept (fate_in c u)) notes_then =
      put_clock server servers (clock_kept notes) (λ j. IsNotedJoin l (join_at k.lives j)) (λ u. decision_kept (fate_in c u)) notes found_keeps (record { epoch = epoch; clock = clock }) fits in
      record { epoch = ap (λ (x : ClockNote). x.epoch) n.clock; ready = n.ready; decided = n.decided; format = n.format }

  -- ---- how many, and how much

  joins_listed : k.lives ≡ list_map joined (ready_kept notes)
  joins_listed = ap (λ (x : Joins). x.lives) f.joins ∙ grown [] (ready_kept notes) (joins_apart notes) (λ n has. refl)

  pub counted_most : counted_of c + length k.lives ≤ 64
  counted_most =
      let decided : length (filter (λ u. is_counted (told u)) (list_map (λ (d : DecisionNote). d.stamp.trans) (decisions_kept notes))) ≡ counted_of c =
      count_told (opened_on o) (opened_stands o (notes_agree server servers area sizes epoch clock cells notes h later)) c (record { run = f.run; fates = fates_like }) in
      let few = filter_few (λ u. is_counted (told u)) (list_map (λ (d : DecisionNote). d.stamp.trans) (decisions_kept notes)) in
      omega (
        arith,
        decided,
        few,
        length-map (decisions_kept notes) (λ (d : DecisionNote). d.stamp.trans),
        ap (λ (ls : List LiveJoin). length ls) joins_listed,
        length-map (ready_kept notes) joined,
        h.few,
      )

  rooms : ready_room l k.lives ≡ sum_of (list_map size_of (ready_kept notes))
  rooms = ap (λ (ls : List LiveJoin). ready_room l ls) joins_listed ∙ ap sum_of (ready_sizes l (ready_kept notes) live_size)

  pub log_fits : ready_sum (ready_room l k.lives).weights (ready_room l k.lives).greatest ≤ area
  log_fits = subst (λ n. ready_sum n.weights n.greatest ≤ area) (sym rooms) h.log

  -- the clock may be raised
  pub raise_changes : clock_form.Fits (record { epoch = epoch; clock = clock }) → AreNoteChanges server servers notes (clock_put (record { epoch = epoch; clock = clock }) ∷ [])
  raise_changes fits = clock_changes server servers notes (record { epoch = epoch; clock = clock }) h.format (raised_noted fits).format (notes_few server servers (clock_kept notes).epoch l k c notes found_noted counted_most)

  pub raise_room : record_pages (live_bytes notes) + record_pages (commit_bytes 0 (clock_put (record { epoch = epoch; clock = clock }) ∷ [])) ≤ area
  raise_room =
      small_room server servers (clock_kept notes).epoch l k c notes found_noted counted_most area (ready_room l k.lives).greatest (sum_by (λ (n : NoteChange). noted_bytes n.name n.value) (clock_put (record { epoch = epoch; clock = clock }) ∷ []))
      log_fits (omega (arith, clock_length (record { epoch = epoch; clock = clock })))

  within_limits : (u : TransId) (x : Live) → map.get l u ≡ Some x → sizes.area ≡ area → IsWithin sizes x
  within_limits u x is its =
      let q : IsFoundLive tells cells server (clock_before epoch notes).epoch (ready_kept notes) u x = lives_are u x is in
      let n : IsPartNote server (clock_before epoch notes).epoch q.note = part_of_note server servers area sizes epoch clock cells notes h later q.note q.has in
      let alone : log_need (changed q.note.edits) (length (with_resources q.note.locks [])) ≤ area = each_has (FitsLogAlone area) (ready_kept notes) q.note (each_fits (ready_kept notes) area h.log) q.has in
      subst (IsWithin sizes) (sym q.is) (record {
        part = q.of.part;
        locks = omega (arith, q.of.locks, n.locks.few);
        log = subst (λ (m : ℕ). log_need m q.part.locks ≤ sizes.area) (sym (q.of.part.cells ∙ ap changed_by q.of.intents))
            (subst (λ (m : ℕ). log_need (changed q.note.edits) m ≤ sizes.area) (sym q.of.locks) (subst (λ (m : ℕ). log_need (changed q.note.edits) (length (with_resources q.note.locks [])) ≤ m) (sym its) alone));
      })

  -- ---- locks

  none_known : (u : TransId) → map.get l u ≡ None → map.get t.held u ≡ None
  none_known u none = f.locks.others u (go (has_note_of u (ready_kept notes)) refl)
    where
      there : (ns : List ReadyNote) → has_note_of u ns ≡ true → (n : ReadyNote) × Has n ns × (n.trans ≡ u)
      there [] has = let wrong : false ≡ true = has in cc
      there (n ∷ ns) has = by (eq_by_cmp trans_cmp u n.trans) refl has (λ more. there ns more)
        where
          by : (b : Bool) → eq_by_cmp trans_cmp u n.trans ≡ b → (b || has_note_of u ns) ≡ true → (has_note_of u ns ≡ true → (m : ReadyNote) × Has m ns × (m.trans ≡ u)) → (m : ReadyNote) × Has m (n ∷ ns) × (m.trans ≡ u)
          by true e more rest = (n, inl refl, sym (tells_apart exact_transactions u n.trans e))
          by false e more rest = (let m = rest more in (m.0, inr m.1, m.2))

      go : (b : Bool) → has_note_of u (ready_kept notes) ≡ b → b ≡ false
      go false e = refl
      go true e =
          let n = there (ready_kept notes) e in
          let p = part_live n.0 n.1 in
          let wrong : None ≡ Some (live_of p.0) = sym none ∙ sym (ap (map.get l) n.2) ∙ p.1 in
          cc

  pub none_held : (u : TransId) → map.get l u ≡ None → (r : Resource) → holding t.held u r ≡ None
  none_held u none r = ap (λ (x : Option Held). map.get (unwrap_or x map.empty) r) (none_known u none) ∙ get-empty resource_cmp r

  pub note_held : (n : ReadyNote) → Has n (ready_kept notes) → (r : Resource) → holding t.held n.trans r ≡ held_by n.locks r
  note_held n has = each_has (HoldsNoted t) (ready_kept notes) n f.locks.held has

  unheld : (u : TransId) (n : ℕ) → holding t.held u (Whole (record { server = server; epoch = epoch; counter = n })) ≡ None
  unheld u n = go (map.get l u) refl
    where
      go : (x : Option Live) → map.get l u ≡ x → holding t.held u (Whole (record { server = server; epoch = epoch; counter = n })) ≡ None
      go None is = none_held u is (Whole (record { server = server; epoch = epoch; counter = n }))
      go (Some x) is =
          let q : IsFoundLive tells cells server (clock_before epoch notes).epoch (ready_kept notes) u x = lives_are u x is in
          ap (λ (v : TransId). holding t.held v (Whole (record { server = server; epoch = epoch; counter = n }))) (sym q.trans)
          ∙ note_held q.note q.has (Whole (record { server = server; epoch = epoch; counter = n }))
          ∙ none_locked_on server (clock_before epoch notes).epoch epoch n later q.note.locks (part_of_note server servers area sizes epoch clock cells notes h later q.note q.has).locked

  held_tidy : (u : TransId) → IsTidyHeld server epoch (holding t.held u)
  held_tidy u = go (map.get l u) refl
    where
      go : (x : Option Live) → map.get l u ≡ x → IsTidyHeld server epoch (holding t.held u)
      go None is = tidy_none server epoch (holding t.held u) (none_held u is)
      go (Some x) is =
          let q : IsFoundLive tells cells server (clock_before epoch notes).epoch (ready_kept notes) u x = lives_are u x is in
          let p : IsPartNote server (clock_before epoch notes).epoch q.note = part_of_note server servers area sizes epoch clock cells notes h later q.note q.has in
          tidy_same server epoch (held_by q.note.locks) (holding t.held u) (λ r. ap (λ (v : TransId). holding t.held v r) (sym q.trans) ∙ note_held q.note q.has r)
          (tidy_needs server epoch q.note.locks (tidy_noted server epoch (clock_before epoch notes).epoch (omega (arith, later)) q.note.locks p.modes p.locked))

  known_live : (u : TransId) (x : Live) → map.get l u ≡ Some x → is_some (map.get t.held u) ≡ true
  known_live u x is =
      let q : IsFoundLive tells cells server (clock_before epoch notes).epoch (ready_kept notes) u x = lives_are u x is in
      ap (λ (v : TransId). is_some (map.get t.held v)) (sym q.trans) ∙ each_has (IsKnownTo t) (ready_kept notes) q.note f.locks.known q.has

  nothing_open : (u : TransId) (x : Live) → map.get l u ≡ Some x → own_of x.part ≡ no_opens
  nothing_open u x is =
      let q : IsFoundLive tells cells server (clock_before epoch notes).epoch (ready_kept notes) u x = lives_are u x is in
      ap (λ (y : Live). own_of y.part) q.is ∙ q.of.own

  -- ---- it is ready

  abbrev pub found_kept : {V : Type 0} → ServerState V → ServerState V
  found_kept old = record old {
    server = server;
    servers = servers;
    sizes = sizes;
    epoch = epoch;
    clock = clock;
    given = 0;
    coordinator = c;
    joins = k;
    sessions = no_sessions;
    lives = l;
    dead = [];
    waits = [];
    locks = t;
    is_down = false;
  }

  pub found_ready : {V : Type 0} (steps : ℕ) (serves : Bool) (old : ServerState V) → IsTrue serves → sizes.area ≡ area → 64 ≤ sizes.area → (clock_kept notes).clock ≤ clock → clock ≤ 2 ^ 62 → epoch < 2 ^ 32 → IsReady steps serves (found_kept old)
  found_ready steps serves old up its least low within last = record {
    serving = λ _. up;
    halted = λ down. (let wrong : false ≡ true = down in cc);
    sound = f.locks.sound;
    taken = f.locks.woken;
    waits = record { calls = tt; apart = tt; queued = subst (λ (ws : List Waiter). AllByRecursion (IsOfCalls server epoch 0 l []) ws) (sym f.locks.waiting) tt };
    known = known_live;
    seat = (f.run.server_same, f.run.epoch_same);
    joins = record {
      server = joins_are.server;
      epoch = joins_are.current;
      drawn = le_zero steps joins_are.count;
      numbered = λ j x is. (
          let n : IsOfNote j x = join_noted j x is in
          (λ i. is_drawn (joins_are.server i) (joins_are.current i) (joins_are.count i) j.server j.epoch j.counter) ∙ ap (λ (y : JoinNo). is_drawn server epoch 0 y.server y.epoch y.counter) (sym n.of)
          ∙ join_drawn server servers area sizes epoch clock cells notes h later n.note n.has
          );
      clients = λ j x is. (
          let n : IsOfNote j x = join_noted j x is in
          subst (λ (y : LiveJoin). IsClient y.client) (sym n.is) (part_of_note server servers area sizes epoch clock cells notes h later n.note n.has).client
          );
      once = joins_are.once;
      single = joins_are.single;
      times = λ j x ts is voted. (
          let n : IsOfNote j x = join_noted j x is in
          let same : stage.Ready n.note.ts ≡ stage.Ready ts = sym (ap (λ (y : LiveJoin). y.stage) n.is) ∙ voted in
          let time : n.note.ts ≤ 2 ^ 62 = vote_time server servers area sizes epoch clock cells notes h later n.note n.has in
          omega (arith, time, voted_time n.note.ts ts same)
          );
    };
    paired = paired;
    idle = λ j x is voted. refl;
    opens = λ u x is. (let none : x.part.last ≡ 0 = ap (λ (w : Own). w.last) (nothing_open u x is) in omega (arith, none));
    opened = λ u x is. ap (λ (w : Own). list_all (λ (z : Open). is_given server epoch 0 z.file) w.opens) (nothing_open u x is);
    alive = record { parts = λ u x is. refl; joins = λ j x is. refl };
    places = refl;
    calls = λ client w is. (let wrong : None ≡ Some w = sym (no_session client) ∙ is in cc);
    replies = λ client w is. (let wrong : None ≡ Some w = sym (no_session client) ∙ is in cc);
    drawn = le_zero steps f.run.count_same;
    times = decided_times low;
    fated = λ u. early_gone servers server (fate_in c u) (no_client u);
    given = omega arith;
    most = counted_most;
    fits = omega (arith, log_fits, its);
    within = λ u x is. within_limits u x is its;
    sized = least;
    clock = within;
    raised = omega (arith, later);
    last = last;
    unheld = λ u. (record { unmade = λ n high. unheld u n; tidy = held_tidy u });
  }
    where
      le_zero : {n : ℕ} (m : ℕ) → n ≡ 0 → n ≤ m
      le_zero m is = omega (arith, is)

      voted_time : (a b : ℕ) → stage.Ready a ≡ stage.Ready b → a ≡ b
      voted_time a b e = cc
