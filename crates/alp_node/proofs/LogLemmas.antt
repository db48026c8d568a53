-- the log has room for what a server writes: its notes take no more than what its parts weigh and a few pages
use Rattle.std.specs.Prelude.{Bool, true, false, cond, ◌==◌, ◌&&◌, ◌||◌, nat_eq, filter, flat_map, Option, None, Some, is_some, map as list_map}
use Rattle.std.specs.Option.{option_and_then}
use Rattle.std.specs.FinMap as map
use Rattle.std.proofs.Common.{◌≡◌, ℕ, suc, ◌+◌, ◌*◌, ◌/◌, ◌≤◌, ◌<◌, ◌^◌, max, List, [], ◌∷◌, ◌++◌, length, length-append, refl, sym, ◌∙◌, ap, subst, arith, inl, inr}
use Rattle.std.proofs.lemmas.Bool.{and_parts}
use Rattle.alp_base.specs.Notes.{Notes}
use Rattle.alp_base.specs.declared.ids.JoinNo.{JoinNo}
use Rattle.alp_base.specs.declared.ids.TransId.{TransId}
use Rattle.alp_fields.specs.Forms.{whole}
use Rattle.alp_fields.specs.ClockNote.{clock_name, clock_form, is_clock_note}
use Rattle.alp_fields.specs.declared.clock_note.ClockNote.{ClockNote}
use Rattle.alp_fields.specs.ReadyNote.{ready_name, ready_form, ready_with}
use Rattle.alp_fields.specs.declared.ready_note.ReadyPart.{ReadyPart}
use Rattle.alp_fields.specs.DecisionNote.{decision_name, decision_form, decision_in, decision_with}
use Rattle.alp_fields.specs.declared.decision_note.Decision.{Decision}
use Rattle.alp_fields.proofs.FormLaws.{whole_spelled}
use Rattle.alp_fields.proofs.ReadyNoteLaw.{ready_name_law, ready_law, ready_name_length}
use Rattle.alp_fields.proofs.DecisionNoteLaw.{decision_name_law, decision_law, decision_name_length}
use Rattle.alp_vault.specs.Volumes.{is_ready_on, is_decision_of, is_server_note, put_bytes, live_bytes, record_pages, changed_cells}
use Rattle.alp_vault.proofs.VolumeLemmas.{clock_length}
use Rattle.alp_files.proofs.SameLemmas.{same_name-true}
use Rattle.std.specs.Cmp.Lexicographic.{pointwise}
use Rattle.alp_journal.specs.Answers.{is_counted}
use Rattle.alp_journal.specs.Coordinator.{Fate, Undrawn, Running, Finishing, Committed, Forgotten, Ended}
use Rattle.alp_journal.specs.Counts.{weight}
use Rattle.alp_journal.specs.Ids.{same_trans}
use Rattle.alp_journal.proofs.IdLemmas.{same_trans-true, same_join-true}
use Rattle.alp_journal.specs.Messages.{trans_ready}
use Rattle.alp_coord.specs.declared.coordinator.Coordinator.{Coordinator}
use Rattle.alp_coord.specs.Coordinators.{fate_in, open_ids, counted_of}
use Rattle.alp_coord.specs.Ticks.{has_trans}
use Rattle.alp_ready.specs.NoteLooks.{ready_at, decision_at}
use Rattle.alp_ready.proofs.NoteRoom.{HasBound, total_of, bound_left, bound_right, total_both, few_notes, live_most, parts_bounds, decided_bounds, server_bounds}
use Rattle.alp_ready.proofs.NoteSizes.{ready_most, decision_most}
use Rattle.alp_worker.specs.declared.joins.Joins.{Joins}
use Rattle.alp_worker.specs.declared.live.LiveJoin.{LiveJoin}
use Rattle.alp_worker.specs.declared.live.Stage.{Stage}
use Rattle.alp_worker.specs.declared.live.Stage.TheVariants as stage
use Rattle.alp_worker.specs.Lives.{is_at, is_open, join_at, phase_in, phase_of}
use Rattle.alp_worker.specs.Rooms.{applying_of, sum_of}
use Rattle.alp_worker.specs.Walks.{ready_in}
use Rattle.alp_node.specs.Noted.{AreNoted, IsNotedAs, IsNotedJoin, IsNoteOf, decision_kept, size_in, ready_room}
use Rattle.alp_node.specs.Totals.{LiveMap}
use Rattle.alp_node.proofs.ClockLaws.{time_law}
use Rattle.alp_node.proofs.FatedLemmas.{closed_uncounted}
use Rattle.alp_node.proofs.JoinMoves.{same_some}

-- ---- parts that voted, by their joins and sizes

abbrev pub voted_parts : LiveMap → List LiveJoin → List (JoinNo × (ℕ × ℕ))
voted_parts lives ls = flat_map (λ (l : LiveJoin). cond {A = List (JoinNo × (ℕ × ℕ))} (is_open l.stage) [] ((l.join, ((size_in lives l.trans).cells, (size_in lives l.trans).locks)) ∷ [])) ls

part_there : (lives : LiveMap) (ls : List LiveJoin) (j : JoinNo) (l : LiveJoin) (name : List ℕ) (n : ℕ) → join_at ls j ≡ Some l → is_open l.stage ≡ false → name ≡ ready_name.spell j → n ≤ 42 + (size_in lives l.trans).locks * 27 + (size_in lives l.trans).cells * 538
    → HasBound (parts_bounds (voted_parts lives ls)) name n
part_there lives [] j l name n at voted named few = let wrong : None ≡ Some l = at in cc
part_there lives (x ∷ xs) j l name n at voted named few = go (is_at j x) refl at (λ behind. part_there lives xs j l name n behind voted named few)
  where
    rest : (b : Bool) (ys : List (JoinNo × (ℕ × ℕ))) (p : JoinNo × (ℕ × ℕ)) → HasBound (parts_bounds ys) name n → HasBound (parts_bounds (cond {A = List (JoinNo × (ℕ × ℕ))} b [] (p ∷ []) ++ ys)) name n
    rest true ys p h = h
    rest false ys p h = inr h

    go : (b : Bool) → is_at j x ≡ b → cond {A = Option LiveJoin} b (Some x) (join_at xs j) ≡ Some l → (join_at xs j ≡ Some l → HasBound (parts_bounds (voted_parts lives xs)) name n) → HasBound (parts_bounds (voted_parts lives (x ∷ xs))) name n
    go true is at behind =
        let same : x ≡ l = same_some x l at in
        let shut : is_open x.stage ≡ false = ap (λ (y : LiveJoin). is_open y.stage) same ∙ voted in
        let its : j ≡ x.join = same_join-true j x.join is in
        subst (λ (b : Bool). HasBound (parts_bounds (cond {A = List (JoinNo × (ℕ × ℕ))} b [] ((x.join, ((size_in lives x.trans).cells, (size_in lives x.trans).locks)) ∷ []) ++ voted_parts lives xs)) name n) (sym shut)
        (inl (named ∙ ap ready_name.spell its, subst (λ (y : LiveJoin). n ≤ 42 + (size_in lives y.trans).locks * 27 + (size_in lives y.trans).cells * 538) (sym same) few))
    go false is at behind = rest (is_open x.stage) (voted_parts lives xs) (x.join, ((size_in lives x.trans).cells, (size_in lives x.trans).locks)) (behind at)

-- ---- decisions

trans_there : (ts : List TransId) (t : TransId) (name : List ℕ) (n : ℕ) → has_trans t ts ≡ true → name ≡ decision_name.spell t → n ≤ 88 → (p : TransId → Bool) → p t ≡ true → HasBound (decided_bounds (filter p ts)) name n
trans_there [] t name n h named few p on = let wrong : false ≡ true = h in cc
trans_there (u ∷ us) t name n h named few p on = go (same_trans u t) refl h (λ more. trans_there us t name n more named few p on)
  where
    rest : (b : Bool) → HasBound (decided_bounds (filter p us)) name n → HasBound (decided_bounds (cond {A = List TransId} b (u ∷ filter p us) (filter p us))) name n
    rest true h = inr h
    rest false h = h

    go : (b : Bool) → same_trans u t ≡ b → (b || has_trans t us) ≡ true → (has_trans t us ≡ true → HasBound (decided_bounds (filter p us)) name n) → HasBound (decided_bounds (filter p (u ∷ us))) name n
    go true is h behind =
        let same : t ≡ u = sym (same_trans-true u t is) in
        subst (λ (b : Bool). HasBound (decided_bounds (cond {A = List TransId} b (u ∷ filter p us) (filter p us))) name n) (sym on ∙ ap p same) (inl (named ∙ ap decision_name.spell same, few))
    go false is h behind = rest (p u) (behind h)

-- a decision that is kept counts
kept_counts : (f : Fate) (d : Decision) → decision_kept f ≡ Some d → is_counted f ≡ true
kept_counts (Committed stamp (j ∷ js) done) d e = refl
kept_counts (Committed stamp [] done) d e = let wrong : None ≡ Some d = e in cc
kept_counts Undrawn d e = let wrong : None ≡ Some d = e in cc
kept_counts (Running c js) d e = refl
kept_counts (Finishing c js vs) d e = refl
kept_counts (Forgotten s js) d e = let wrong : None ≡ Some d = e in cc
kept_counts (Ended c) d e = let wrong : None ≡ Some d = e in cc

counted_open : (c : Coordinator) (t : TransId) → is_counted (fate_in c t) ≡ true → has_trans t (open_ids c) ≡ true
counted_open c t on = go (has_trans t (open_ids c)) refl
  where
    go : (b : Bool) → has_trans t (open_ids c) ≡ b → b ≡ true
    go true e = refl
    go false e = let wrong : false ≡ true = sym (closed_uncounted c t e) ∙ on in cc

-- ---- each note

module _ (server servers epoch : ℕ) (lives : LiveMap) (joins : Joins) (c : Coordinator) (notes : Notes) (h : AreNoted server servers epoch lives joins c notes) where
  abbrev pub counted_ids : List TransId
  counted_ids = filter (λ t. is_counted (fate_in c t)) (open_ids c)

  abbrev pub note_bounds : List (List ℕ × ℕ)
  note_bounds = server_bounds (voted_parts lives joins.lives) counted_ids

  -- of a part that voted
  ready_note : (name value : List ℕ) (j : JoinNo) (p : ReadyPart) → map.get notes name ≡ Some value → whole ready_name name ≡ Some j → whole ready_form value ≡ Some p → HasBound note_bounds name (put_bytes (name, value))
  ready_note name value j p is named read =
      let spelled = whole_spelled ready_name ready_name_law name j named in
      let valued = whole_spelled ready_form ready_law value p read in
      let at : ready_at notes j ≡ Some p = ap (λ (n : List ℕ). option_and_then (λ v. whole ready_form v) (map.get notes n)) (sym spelled.0) ∙ ap (option_and_then (λ v. whole ready_form v)) is ∙ read in
      inr (bound_left (parts_bounds (voted_parts lives joins.lives)) (decided_bounds counted_ids) name (put_bytes (name, value)) (go (join_at joins.lives j) refl (subst (IsNotedJoin lives (join_at joins.lives j)) at (h.ready j spelled.1)) spelled.0 valued))
    where
      sized : (l : LiveJoin) (ts : ℕ) → IsNoteOf lives l ts p → name ≡ ready_name.spell j → (value ≡ ready_form.spell p) × ready_form.Fits p → put_bytes (name, value) ≤ 42 + (size_in lives l.trans).locks * 27 + (size_in lives l.trans).cells * 538
      sized l ts n named valued =
          let long : length name ≡ 10 = ap (λ (bs : List ℕ). length bs) named ∙ ready_name_length j in
          let body : length value ≡ length (ready_form.spell p) = ap (λ (bs : List ℕ). length bs) valued.0 in
          let most : length (ready_form.spell p) ≤ 26 + length p.locks * 27 + changed_cells p.change * 538 = ready_most p valued.1 in
          omega (arith, long, body, most, n.size.locks, n.size.cells)

      by : (l : LiveJoin) → join_at joins.lives j ≡ Some l → (s : Stage) → l.stage ≡ s → IsNotedAs lives l s (Some p) → name ≡ ready_name.spell j → (value ≡ ready_form.spell p) × ready_form.Fits p → HasBound (parts_bounds (voted_parts lives joins.lives)) name (put_bytes (name, value))
      by l at (stage.Ready ts) e n named valued = part_there lives joins.lives j l name (put_bytes (name, value)) at (ap is_open e) named (sized l ts n named valued)
      by l at (stage.Joining who) e n named valued = let wrong : Some p ≡ None = n in cc
      by l at (stage.Active who) e n named valued = let wrong : Some p ≡ None = n in cc

      go : (o : Option LiveJoin) → join_at joins.lives j ≡ o → IsNotedJoin lives o (Some p) → name ≡ ready_name.spell j → (value ≡ ready_form.spell p) × ready_form.Fits p → HasBound (parts_bounds (voted_parts lives joins.lives)) name (put_bytes (name, value))
      go None at n named valued = let wrong : Some p ≡ None = n in cc
      go (Some l) at n named valued = by l at l.stage refl n named valued

  decided_note : (name value : List ℕ) (t : TransId) (d : Decision) → map.get notes name ≡ Some value → whole decision_name name ≡ Some t → whole decision_form value ≡ Some d → HasBound note_bounds name (put_bytes (name, value))
  decided_note name value t d is named read =
      let spelled = whole_spelled decision_name decision_name_law name t named in
      let valued = whole_spelled decision_form decision_law value d read in
      let at : decision_at notes t ≡ Some d = ap (λ (n : List ℕ). option_and_then (λ v. whole decision_form v) (map.get notes n)) (sym spelled.0) ∙ ap (option_and_then (λ v. whole decision_form v)) is ∙ read in
      let kept : decision_kept (fate_in c t) ≡ Some d = sym (h.decided t spelled.1) ∙ at in
      let on : is_counted (fate_in c t) ≡ true = kept_counts (fate_in c t) d kept in
      let long : length name ≡ 10 = ap (λ (bs : List ℕ). length bs) spelled.0 ∙ decision_name_length t in
      let body : length value ≡ length (decision_form.spell d) = ap (λ (bs : List ℕ). length bs) valued.0 in
      let most : length (decision_form.spell d) ≤ 72 = decision_most d valued.1 in
      inr (bound_right (parts_bounds (voted_parts lives joins.lives)) (decided_bounds counted_ids) name (put_bytes (name, value)) (trans_there (open_ids c) t name (put_bytes (name, value)) (counted_open c t on) spelled.0 (omega (arith, long, body, most)) (λ u. is_counted (fate_in c u)) on))

  pub each_note : (name value : List ℕ) → map.get notes name ≡ Some value → HasBound note_bounds name (put_bytes (name, value))
  each_note name value is =
      go (is_clock_note name value) refl (whole ready_name name) refl (whole ready_form value) refl (whole decision_name name) refl (whole decision_form value) refl (h.format name value is)
    where
      clock : is_clock_note name value ≡ true → HasBound note_bounds name (put_bytes (name, value))
      clock e =
          let alone : name ≡ clock_name = same_name-true name clock_name (and_parts (pointwise nat_eq name clock_name) (is_some (whole clock_form value)) e).0 in
          let long : length name ≡ 1 = ap (λ (bs : List ℕ). length bs) alone in
          inl (alone, clocked (whole clock_form value) refl long (and_parts (pointwise nat_eq name clock_name) (is_some (whole clock_form value)) e).1)
        where
          clocked : (o : Option ClockNote) → whole clock_form value ≡ o → length name ≡ 1 → is_some o ≡ true → put_bytes (name, value) ≤ 19
          clocked None e long on = let wrong : false ≡ true = on in cc
          clocked (Some n) e long on =
              let body : length value ≡ length (clock_form.spell n) = ap (λ (bs : List ℕ). length bs) (whole_spelled clock_form time_law value n e).0 in
              omega (arith, long, body, clock_length n)

      go : (k : Bool) → is_clock_note name value ≡ k → (oj : Option JoinNo) → whole ready_name name ≡ oj → (op : Option ReadyPart) → whole ready_form value ≡ op → (ot : Option TransId) → whole decision_name name ≡ ot → (od : Option Decision) → whole decision_form value ≡ od
          → (k || (is_ready_on server servers (ready_with oj op) || is_decision_of server servers (decision_with ot od))) ≡ true → HasBound note_bounds name (put_bytes (name, value))
      go true e oj ej op ep ot et od ed on = clock e
      go false e (Some j) ej (Some p) ep ot et od ed on = ready_note name value j p is ej ep
      go false e None ej op ep (Some t) et (Some d) ed on = decided_note name value t d is et ed
      go false e (Some j) ej None ep (Some t) et (Some d) ed on = decided_note name value t d is et ed
      go false e None ej op ep None et od ed on = let wrong : false ≡ true = on in cc
      go false e None ej op ep (Some t) et None ed on = let wrong : false ≡ true = on in cc
      go false e (Some j) ej None ep None et od ed on = let wrong : false ≡ true = on in cc
      go false e (Some j) ej None ep (Some t) et None ed on = let wrong : false ≡ true = on in cc

-- ---- together

-- the notes of parts come to no more than these weigh
weighed : (lives : LiveMap) (ls : List LiveJoin) → total_of (parts_bounds (voted_parts lives ls)) ≤ 512 * (ready_room lives ls).weights
weighed lives [] = omega arith
weighed lives (l ∷ ls) = go l.stage (weighed lives ls)
  where
    one : (c k : ℕ) → 42 + k * 27 + c * 538 ≤ 512 * weight c k
    one c k = omega arith

    go : (s : Stage) → total_of (parts_bounds (voted_parts lives ls)) ≤ 512 * (ready_room lives ls).weights
        → total_of (parts_bounds (cond {A = List (JoinNo × (ℕ × ℕ))} (is_open s) [] ((l.join, ((size_in lives l.trans).cells, (size_in lives l.trans).locks)) ∷ []) ++ voted_parts lives ls)) ≤ 512 * (sum_of (list_map (size_in lives) (trans_ready (phase_in l.trans l.client s) ++ ready_in ls))).weights
    go (stage.Joining who) h = h
    go (stage.Active who) h = h
    go (stage.Ready ts) h = (let first : 42 + (size_in lives l.trans).locks * 27 + (size_in lives l.trans).cells * 538 ≤ 512 * weight (size_in lives l.trans).cells (size_in lives l.trans).locks = one (size_in lives l.trans).cells (size_in lives l.trans).locks in omega (arith, first, h))

voted_few : (lives : LiveMap) (ls : List LiveJoin) → length (voted_parts lives ls) ≤ length ls
voted_few lives [] = omega arith
voted_few lives (l ∷ ls) = go (is_open l.stage) (voted_few lives ls)
  where
    go : (b : Bool) → length (voted_parts lives ls) ≤ length ls → length (cond {A = List (JoinNo × (ℕ × ℕ))} b [] ((l.join, ((size_in lives l.trans).cells, (size_in lives l.trans).locks)) ∷ []) ++ voted_parts lives ls) ≤ suc (length ls)
    go true h = omega (arith, h)
    go false h = omega (arith, h)

decided_total : (ts : List TransId) → total_of (decided_bounds ts) ≡ 88 * length ts
decided_total [] = refl
decided_total (t ∷ ts) = (let rest : total_of (decided_bounds ts) ≡ 88 * length ts = decided_total ts in omega (arith, rest))

-- each part that voted may be applied within the greatest of them
pub one_of_greatest : (lives : LiveMap) (ls : List LiveJoin) (j : JoinNo) (l : LiveJoin) → join_at ls j ≡ Some l → is_open l.stage ≡ false → applying_of (size_in lives l.trans) ≤ (ready_room lives ls).greatest
one_of_greatest lives [] j l at voted = let wrong : None ≡ Some l = at in cc
one_of_greatest lives (x ∷ xs) j l at voted = go (is_at j x) x.stage refl at (λ behind. one_of_greatest lives xs j l behind voted)
  where
    go : (b : Bool) (s : Stage) → x.stage ≡ s → cond {A = Option LiveJoin} b (Some x) (join_at xs j) ≡ Some l → (join_at xs j ≡ Some l → applying_of (size_in lives l.trans) ≤ (ready_room lives xs).greatest)
        → applying_of (size_in lives l.trans) ≤ (sum_of (list_map (size_in lives) (trans_ready (phase_in x.trans x.client s) ++ ready_in xs))).greatest
    go true (stage.Ready ts) e at behind = (let same : applying_of (size_in lives x.trans) ≡ applying_of (size_in lives l.trans) = ap (λ (y : LiveJoin). applying_of (size_in lives y.trans)) (same_some x l at) in omega (arith, same))
    go true (stage.Joining who) e at behind = let wrong : true ≡ false = ap is_open (sym e) ∙ ap (λ (y : LiveJoin). is_open y.stage) (same_some x l at) ∙ voted in cc
    go true (stage.Active who) e at behind = let wrong : true ≡ false = ap is_open (sym e) ∙ ap (λ (y : LiveJoin). is_open y.stage) (same_some x l at) ∙ voted in cc
    go false (stage.Ready ts) e at behind = (let rest : applying_of (size_in lives l.trans) ≤ (ready_room lives xs).greatest = behind at in omega (arith, rest))
    go false (stage.Joining who) e at behind = behind at
    go false (stage.Active who) e at behind = behind at

module _ (server servers epoch : ℕ) (lives : LiveMap) (joins : Joins) (c : Coordinator) (notes : Notes) (h : AreNoted server servers epoch lives joins c notes) (few : counted_of c + length joins.lives ≤ 64) where
  pub notes_live : live_bytes notes ≤ 23 + 512 * (ready_room lives joins.lives).weights + 5632
  notes_live =
      let bounds = note_bounds server servers epoch lives joins c notes h in
      let all : live_bytes notes ≤ 4 + total_of bounds = live_most bounds notes (each_note server servers epoch lives joins c notes h) in
      omega (arith, all, total_both (parts_bounds (voted_parts lives joins.lives)) (decided_bounds (counted_ids server servers epoch lives joins c notes h)), weighed lives joins.lives, decided_total (counted_ids server servers epoch lives joins c notes h), few)

  pub notes_few : map.len notes ≤ 129
  notes_few =
      let bounds = note_bounds server servers epoch lives joins c notes h in
      let all : map.len notes ≤ length bounds = few_notes bounds notes (each_note server servers epoch lives joins c notes h) in
      omega (arith, all, lengths (voted_parts lives joins.lives) (counted_ids server servers epoch lives joins c notes h), voted_few lives joins.lives, few)
    where
      parts_length : (ps : List (JoinNo × (ℕ × ℕ))) → length (parts_bounds ps) ≡ length ps
      parts_length [] = refl
      parts_length (p ∷ ps) = ap suc (parts_length ps)

      ids_length : (ts : List TransId) → length (decided_bounds ts) ≡ length ts
      ids_length [] = refl
      ids_length (t ∷ ts) = ap suc (ids_length ts)

      lengths : (ps : List (JoinNo × (ℕ × ℕ))) (ts : List TransId) → length (server_bounds ps ts) ≡ 1 + length ps + length ts
      lengths ps ts = omega (arith, length-append (parts_bounds ps) (decided_bounds ts), parts_length ps, ids_length ts)

  -- a commit of so many cells with short changes of notes, where the votes left room for it
  pub commit_room : (area greatest cells noted : ℕ) → 24 + (ready_room lives joins.lives).weights + greatest ≤ area → 4 * cells + 4 ≤ greatest → cells ≤ 256 → noted ≤ 128
      → record_pages (live_bytes notes) + record_pages (4 + 516 * (4 * cells) + noted) ≤ area
  commit_room area greatest cells noted room apply most short = omega (arith, notes_live, room, apply, most, short)

  -- no cells are changed
  pub small_room : (area greatest noted : ℕ) → 24 + (ready_room lives joins.lives).weights + greatest ≤ area → noted ≤ 128 → record_pages (live_bytes notes) + record_pages (4 + 516 * (4 * 0) + noted) ≤ area
  small_room area greatest noted room short = omega (arith, notes_live, room, short)

  -- the note of a vote, where that left room for it
  pub vote_room : (area greatest cells locks noted : ℕ) → 24 + (weight cells locks + (ready_room lives joins.lives).weights) + greatest ≤ area → noted ≤ 42 + locks * 27 + cells * 538
      → record_pages (live_bytes notes) + record_pages (4 + 516 * (4 * 0) + noted) ≤ area
  vote_room area greatest cells locks noted room short = omega (arith, notes_live, room, short)
