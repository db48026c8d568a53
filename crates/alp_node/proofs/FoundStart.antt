-- what a server is opened on, by the notes that it found: they agree, and say just what the opening says
use Rattle.std.specs.Prelude.{cond, Bool, true, false, not, ◌&&◌, ◌||◌, ◌==◌, nat_lt, nat_le, filter, is_some, Option, None, Some, IsTrue, map as list_map}
use Rattle.std.specs.List.{list_all, AllByRecursion}
use Rattle.std.specs.FinMap as map
use Rattle.std.specs.Ordering.{eq_by_cmp}
use Rattle.std.proofs.Common.{◌≡◌, ◌⊎◌, inl, inr, ⊎_elim, ℕ, ◌+◌, ◌<◌, ◌≤◌, ◌^◌, List, [], ◌∷◌, length, refl, sym, ◌∙◌, ap, subst, arith, eq-eqb}
use Rattle.std.proofs.lemmas.Bool.{lt-ltb, leb-true, eqb-true, and_parts}
use Rattle.alp_base.specs.Notes.{Notes, noted}
use Rattle.alp_base.specs.Orders.{trans_cmp}
use Rattle.alp_base.specs.declared.faults.Sizes.{Sizes}
use Rattle.alp_base.specs.declared.ids.JoinNo.{JoinNo}
use Rattle.alp_base.specs.declared.ids.TransId.{TransId}
use Rattle.alp_fields.specs.ClockNote.{clock_name, clock_form, clock_kept}
use Rattle.alp_fields.specs.DecisionNote.{decision_name}
use Rattle.alp_fields.specs.ReadyNote.{ready_name}
use Rattle.alp_fields.specs.declared.clock_note.ClockNote.{ClockNote}
use Rattle.alp_fields.specs.declared.decision_note.Decision.{Decision}
use Rattle.alp_fields.specs.declared.ready_note.ReadyPart.{ReadyPart as NotedPart}
use Rattle.alp_fields.proofs.DecisionNoteLaw.{decision_fits}
use Rattle.alp_fields.proofs.ReadyNoteLaw.{ready_fits}
use Rattle.alp_files.specs.Cells.{Cells}
use Rattle.alp_files.specs.Holdings.{held_by, DoAgree}
use Rattle.alp_files.proofs.FilesLemmas.{same-some}
use Rattle.alp_files.proofs.HoldingLemmas.{agree-turned}
use Rattle.alp_ready.specs.NoteLooks.{Keeps, ready_at, decision_at}
use Rattle.alp_ready.proofs.NoteViews.{put_clock}
use Rattle.alp_vault.specs.Volumes.{is_another}
use Rattle.alp_journal.specs.Ids.{same_trans, same_join, has_join, is_drawn}
use Rattle.alp_journal.specs.Opening.{Start, ReadyNote, DecisionNote, ready_kept, decisions_kept}
use Rattle.alp_journal.specs.Coordinator.{Fate, Undrawn, Committed, fate_noted}
use Rattle.alp_journal.specs.Participant.{Phase, Unseen, Ready, is_ready, phase_noted}
use Rattle.alp_journal.specs.Holder.{Life, early_life, lives_noted}
use Rattle.alp_journal.specs.Laws.{DoLivesAgree, are_joins_apart}
use Rattle.alp_journal.specs.Account.{Account, state_of, is_other, IsQuiet, Stands}
use Rattle.alp_journal.proofs.IdLemmas.{same_trans-true, same_trans-itself}
use Rattle.alp_journal.proofs.OpenedLemmas.{DoNotesAgree, IsReadyNote as IsReadyOf, IsDecisionNote as IsDecisionOf, opened_on, opened_stands, opened_quiet}
use Rattle.alp_regain.specs.Named.{is_drawn_by, is_decided_by}
use Rattle.alp_regain.specs.Notes.{part_note}
use Rattle.alp_regain.specs.Owners.{joins_of, IsReadyHere, IsDecidedHere}
use Rattle.alp_regain.specs.Together.{clock_before, IsPartNote, AreTwo, AreApart, AreNotesTogether}
use Rattle.alp_regain.proofs.OwnerLemmas.{joins_apart, are_ready_here, are_decided_here}
use Rattle.alp_worker.specs.Lives.{is_part, AreSingle}
use Rattle.alp_worker.specs.Regained.{part_noted, live_noted, AreNoted}
use Rattle.alp_worker.specs.declared.live.LiveJoin.{LiveJoin}
use Rattle.alp_worker.specs.declared.regain.ReadyPart.{ReadyPart}
use Rattle.alp_node.specs.Durable.{IsKeptOf, IsKeptIf, IsReadyNote, AreNotesOf}
use Rattle.alp_node.specs.Noted.{decision_kept}
use Rattle.alp_node.proofs.FoundNotes.{Has, each_has, all_has, IsReadyAt, ready_stands, ready_has, IsDecisionAt, decision_stands, decision_has, IsPhaseNoted, phase_or, IsLifeNoted, life_or, IsFateNoted, fate_or, phase_of, life_of, fate_of, ready_apart, decided_apart}
use Rattle.alp_node.proofs.MapLemmas.{tied_same}
use Rattle.alp_node.proofs.EditsNoted.{change_length}

-- ---- ids

pub drawn_before : (server now later s e c : ℕ) → s ≡ server → is_drawn_by now e c ≡ true → now < later → is_drawn server later 0 s e c ≡ true
drawn_before server now later s e c is h less =
    let first = and_parts (nat_le 1 e) (nat_le 1 c && nat_le e now) h in
    let second = and_parts (nat_le 1 c) (nat_le e now) first.1 in
    let epoch : 1 ≤ e = leb-true 1 e first.0 in
    let counter : 1 ≤ c = leb-true 1 c second.0 in
    let low : e ≤ now = leb-true e now second.1 in
    λ i. eq-eqb s server is i && lt-ltb 0 e (omega (arith, epoch)) i && lt-ltb 0 c (omega (arith, counter)) i && (lt-ltb e later (omega (arith, low, less)) i || (e == later && nat_le c 0))

pub drawn_epoch : (now e c : ℕ) → is_drawn_by now e c ≡ true → e ≤ now
drawn_epoch now e c h = leb-true e now (and_parts (nat_le 1 c) (nat_le e now) (and_parts (nat_le 1 e) (nat_le 1 c && nat_le e now) h).1).1

pub other_of : (server servers n : ℕ) → is_another server servers n ≡ true → is_other servers server n ≡ true
other_of server servers n h =
    let first = and_parts (nat_le 1 n && nat_le n servers) (not (n == server)) h in
    let second = and_parts (nat_le 1 n) (nat_le n servers) first.0 in
    let some : 1 ≤ n = leb-true 1 n second.0 in
    let among : n ≤ servers = leb-true n servers second.1 in
    λ i. lt-ltb 0 n (omega (arith, some)) i && lt-ltb n (servers + 1) (omega (arith, among)) i && first.1 i

-- ---- locks that agree

-- what all pass each passes
each_passes : {A : Type 0} (p : A → Bool) (xs : List A) → list_all p xs ≡ true → AllByRecursion (λ x. p x ≡ true) xs
each_passes p [] h = tt
each_passes p (x ∷ xs) h = (let both = and_parts (p x) (list_all p xs) h in (both.0, each_passes p xs both.1))

pub two_agree : (ns : List ReadyNote) → AreApart ns → (n m : ReadyNote) → Has n ns → Has m ns → same_trans n.trans m.trans ≡ false → DoAgree (held_by n.locks) (held_by m.locks)
two_agree [] apart n m hn hm other = absurd hn
two_agree (o ∷ ns) apart n m (inl a) (inl b) other =
    let wrong : true ≡ false = sym (same_trans-itself m.trans) ∙ ap (λ (x : ReadyNote). same_trans x.trans m.trans) (sym b ∙ a) ∙ other in
    cc
two_agree (o ∷ ns) apart n m (inl a) (inr h) other = subst (λ (x : ReadyNote). DoAgree (held_by x.locks) (held_by m.locks)) a (each_has (AreTwo o) ns m apart.0 h).agree
two_agree (o ∷ ns) apart n m (inr h) (inl b) other =
    subst (λ (x : ReadyNote). DoAgree (held_by n.locks) (held_by x.locks)) b
    (λ r. agree-turned (held_by n.locks r) (held_by o.locks r) ∙ (each_has (AreTwo o) ns n apart.0 h).agree r)
two_agree (o ∷ ns) apart n m (inr h) (inr k) other = two_agree ns apart.1 n m h k other

pub lives_agree : (ns : List ReadyNote) → AreApart ns → DoLivesAgree (lives_noted ns)
lives_agree ns apart t u k l at to away = go (life_or ns t) (life_or ns u)
  where
    go : (lives_noted ns t ≡ None) ⊎ IsLifeNoted ns t (lives_noted ns t) → (lives_noted ns u ≡ None) ⊎ IsLifeNoted ns u (lives_noted ns u) → DoAgree k.held l.held
    go (inl none) b = let wrong : None ≡ Some k = sym none ∙ at in cc
    go (inr x) (inl none) = let wrong : None ≡ Some l = sym none ∙ to in cc
    go (inr x) (inr y) =
        let one : early_life x.note ≡ k = same-some (early_life x.note) k (sym x.says ∙ at) in
        let two : early_life y.note ≡ l = same-some (early_life y.note) l (sym y.says ∙ to) in
        subst (λ (z : Life). DoAgree z.held l.held) one
        (subst (λ (z : Life). DoAgree (held_by x.note.locks) z.held) two (two_agree ns apart x.note y.note x.has y.has ((λ i. same_trans (x.of i) (y.of i)) ∙ away)))

-- ---- a client has one part

none_part : (client : ℕ) (t : TransId) (n : ReadyNote) (ns : List ReadyNote) → n.trans ≡ t → AllByRecursion (AreTwo n) ns → filter (is_part client t) (list_map live_noted (list_map part_noted ns)) ≡ []
none_part client t n [] at two = refl
none_part client t n (m ∷ ns) at two =
    ap (λ (b : Bool). cond {A = List LiveJoin} b (live_noted (part_noted m) ∷ filter (is_part client t) (list_map live_noted (list_map part_noted ns))) (filter (is_part client t) (list_map live_noted (list_map part_noted ns))))
    (go (same_trans m.trans t) refl) ∙ none_part client t n ns at two.1
  where
    go : (b : Bool) → same_trans m.trans t ≡ b → (b && m.client == client) ≡ false
    go false e = refl
    go true e =
        let one : n.trans ≡ m.trans = at ∙ sym (same_trans-true m.trans t e) in
        let wrong : true ≡ false = sym (tied_same m.trans m.trans ∙ same_trans-itself m.trans) ∙ ap (λ (u : TransId). eq_by_cmp trans_cmp u m.trans) (sym one) ∙ two.0.apart in
        cc

notes_single : (ns : List ReadyNote) → AreApart ns → AreSingle (list_map live_noted (list_map part_noted ns))
notes_single [] apart client t = omega arith
notes_single (n ∷ ns) apart client t = go (same_trans n.trans t) refl (n.client == client) (notes_single ns apart.1 client t)
  where
    rest : List LiveJoin
    rest = filter (is_part client t) (list_map live_noted (list_map part_noted ns))

    go : (b : Bool) → same_trans n.trans t ≡ b → (d : Bool) → length rest ≤ 1 → length (cond {A = List LiveJoin} (b && d) (live_noted (part_noted n) ∷ rest) rest) ≤ 1
    go false e d few = few
    go true e false few = few
    go true e true few = (let none : length rest ≡ 0 = ap (λ (xs : List LiveJoin). length xs) (none_part client t n ns (same_trans-true n.trans t e) apart.0) in omega (arith, none))

-- ---- lists of what is noted

mapped : {A B : Type 0} (P : B → Type 0) (f : A → B) (xs : List A) → AllByRecursion (λ (x : A). P (f x)) xs → AllByRecursion P (list_map f xs)
mapped P f [] h = tt
mapped P f (x ∷ xs) h = (h.0, mapped P f xs h.1)

part_joins : (ns : List ReadyNote) → list_map (λ (p : ReadyPart). p.join) (list_map part_noted ns) ≡ joins_of ns
part_joins [] = refl
part_joins (n ∷ ns) = ap (λ (js : List JoinNo). n.join ∷ js) (part_joins ns)

-- ---- the opening

module _ (server servers area : ℕ) (sizes : Sizes) (epoch clock : ℕ) (cells : Cells) (notes : Notes) (h : AreNotesTogether server servers epoch area notes) (later : (clock_before epoch notes).epoch < epoch) where
  abbrev pub opening : Start
  opening = record { server = server; servers = servers; sizes = sizes; epoch = epoch; clock = clock; cells = cells; ready = ready_kept notes; decisions = decisions_kept notes }

  pub ready_of_server : (n : ReadyNote) → Has n (ready_kept notes) → IsReadyHere server servers n
  ready_of_server n has = each_has (IsReadyHere server servers) (ready_kept notes) n (are_ready_here server servers notes h.format) has

  pub decided_of_server : (d : DecisionNote) → Has d (decisions_kept notes) → IsDecidedHere server servers d
  decided_of_server d has = each_has (IsDecidedHere server servers) (decisions_kept notes) d (are_decided_here server servers notes h.format) has

  pub part_of_note : (n : ReadyNote) → Has n (ready_kept notes) → IsPartNote server (clock_before epoch notes).epoch n
  part_of_note n has = each_has (IsPartNote server (clock_before epoch notes).epoch) (ready_kept notes) n h.parts has

  decided_by : (d : DecisionNote) → Has d (decisions_kept notes) → is_decided_by (clock_before epoch notes) d.stamp ≡ true
  decided_by d has = each_has (λ (x : DecisionNote). is_decided_by (clock_before epoch notes) x.stamp ≡ true) (decisions_kept notes) d (each_passes (λ (x : DecisionNote). is_decided_by (clock_before epoch notes) x.stamp) (decisions_kept notes) h.decided) has

  pub decided_drawn : (d : DecisionNote) → Has d (decisions_kept notes) → is_drawn_by (clock_before epoch notes).epoch d.stamp.trans.epoch d.stamp.trans.counter ≡ true
  decided_drawn d has = (and_parts (is_drawn_by (clock_before epoch notes).epoch d.stamp.trans.epoch d.stamp.trans.counter) (nat_le d.stamp.ts (clock_kept notes).clock) (decided_by d has)).0

  pub decided_time : (d : DecisionNote) → Has d (decisions_kept notes) → d.stamp.ts ≤ (clock_kept notes).clock
  decided_time d has = leb-true d.stamp.ts (clock_kept notes).clock (and_parts (is_drawn_by (clock_before epoch notes).epoch d.stamp.trans.epoch d.stamp.trans.counter) (nat_le d.stamp.ts (clock_kept notes).clock) (decided_by d has)).1

  pub join_drawn : (n : ReadyNote) → Has n (ready_kept notes) → is_drawn server epoch 0 n.join.server n.join.epoch n.join.counter ≡ true
  join_drawn n has = drawn_before server (clock_before epoch notes).epoch epoch n.join.server n.join.epoch n.join.counter (ready_of_server n has).here (part_of_note n has).join later

  pub trans_away : (n : ReadyNote) → Has n (ready_kept notes) → is_other servers server n.trans.server ≡ true
  trans_away n has = other_of server servers n.trans.server (ready_of_server n has).elsewhere

  pub notes_agree : DoNotesAgree opening
  notes_agree = record {
    agree = lives_agree (ready_kept notes) h.apart;
    ready = all_has (IsReadyOf opening) (ready_kept notes) (λ n has. (join_drawn n has, trans_away n has));
    joins = joins_apart notes;
    trans = ready_apart (ready_kept notes) h.apart;
    decisions = all_has (IsDecisionOf opening) (decisions_kept notes) (λ d has. drawn_before server (clock_before epoch notes).epoch epoch d.stamp.trans.server d.stamp.trans.epoch d.stamp.trans.counter (decided_of_server d has).here (decided_drawn d has) later);
    decided = decided_apart notes;
  }

  pub quiet : IsQuiet (opened_on opening)
  quiet = opened_quiet opening notes_agree

  pub joins_noted_so : AreNoted server epoch (list_map part_noted (ready_kept notes))
  joins_noted_so = record {
    raised = omega (arith, later);
    numbered =
        mapped (λ (p : ReadyPart). is_drawn server epoch 0 p.join.server p.join.epoch p.join.counter ≡ true) part_noted (ready_kept notes)
        (all_has (λ (n : ReadyNote). is_drawn server epoch 0 n.join.server n.join.epoch n.join.counter ≡ true) (ready_kept notes) join_drawn);
    once = ap are_joins_apart (part_joins (ready_kept notes)) ∙ joins_apart notes;
    single = notes_single (ready_kept notes) h.apart;
  }

  -- ---- the notes say just that

  ready_said : (j : JoinNo) → ready_name.Fits j → (x : Option NotedPart) → ready_at notes j ≡ x → IsReadyNote (lives_noted (ready_kept notes)) (phase_noted (ready_kept notes) j) x
  ready_said j fits (Some p) is =
      let has : Has (part_note (j, p)) (ready_kept notes) = ready_has notes j p fits is in
      let kept : IsKeptOf (early_life (part_note (j, p))) p =
      (let its : IsPartNote server (clock_before epoch notes).epoch (part_note (j, p)) = part_of_note (part_note (j, p)) has in record { held = λ r. refl; intents = refl; once = its.once.locks; cells = sym (change_length p.change) ∙ its.once.edits }) in
      subst (λ (q : Phase). IsReadyNote (lives_noted (ready_kept notes)) q (Some p)) (sym (phase_of notes (part_note (j, p)) has))
      (refl, refl, refl, subst (λ (y : Option Life). IsKeptIf y p) (sym (life_of (ready_kept notes) h.apart (part_note (j, p)) has)) kept)
  ready_said j fits None is = go (phase_or (ready_kept notes) j)
    where
      go : (phase_noted (ready_kept notes) j ≡ Unseen) ⊎ IsPhaseNoted (ready_kept notes) j (phase_noted (ready_kept notes) j) → IsReadyNote (lives_noted (ready_kept notes)) (phase_noted (ready_kept notes) j) None
      go (inl none) = subst (λ (q : Phase). IsReadyNote (lives_noted (ready_kept notes)) q None) (sym none) refl
      go (inr x) =
          let s : IsReadyAt notes x.note = ready_stands notes x.note x.has in
          let wrong : Some s.part ≡ None = sym s.at ∙ ap (ready_at notes) x.of ∙ is in
          cc

  kept_some : (t : TransId) (d : Decision) → 1 ≤ length d.joins → decision_kept (Committed (record { ts = d.ts; trans = t }) d.joins []) ≡ Some d
  kept_some t d some = go d.joins refl some
    where
      go : (js : List JoinNo) → d.joins ≡ js → 1 ≤ length js → decision_kept (Committed (record { ts = d.ts; trans = t }) js []) ≡ Some (record { ts = d.ts; joins = js })
      go [] e few = absurd (omega (arith, few))
      go (j ∷ js) e few = refl

  pub decided_said : (t : TransId) → decision_name.Fits t → (x : Option Decision) → decision_at notes t ≡ x → x ≡ decision_kept (fate_noted (decisions_kept notes) t)
  decided_said t fits (Some d) is =
      let n : DecisionNote = record { stamp = record { ts = d.ts; trans = t }; joins = d.joins } in
      let has : Has n (decisions_kept notes) = decision_has notes t d fits is in
      sym (ap decision_kept (fate_of notes n has) ∙ kept_some t d (decided_of_server n has).some)
  decided_said t fits None is = go (fate_or (decisions_kept notes) t)
    where
      go : (fate_noted (decisions_kept notes) t ≡ Undrawn) ⊎ IsFateNoted (decisions_kept notes) t (fate_noted (decisions_kept notes) t) → None ≡ decision_kept (fate_noted (decisions_kept notes) t)
      go (inl none) = sym (ap decision_kept none)
      go (inr x) =
          let s : IsDecisionAt notes x.note = decision_stands notes x.note x.has in
          let wrong : Some s.decision ≡ None = sym s.at ∙ ap (decision_at notes) x.of ∙ is in
          cc

  pub opening_keeps : Keeps server servers (clock_kept notes) (λ j. IsReadyNote (lives_noted (ready_kept notes)) (phase_noted (ready_kept notes) j)) (λ t. decision_kept (fate_noted (decisions_kept notes) t)) notes
  opening_keeps = record {
    clock = refl;
    ready = λ j fits. ready_said j fits (ready_at notes j) refl;
    decided = λ t fits. decided_said t fits (decision_at notes t) refl;
    format = h.format;
  }

  pub opening_fits : (j : JoinNo) → is_ready (phase_noted (ready_kept notes) j) ≡ true → ready_name.Fits j
  opening_fits j is = go (phase_or (ready_kept notes) j)
    where
      go : (phase_noted (ready_kept notes) j ≡ Unseen) ⊎ IsPhaseNoted (ready_kept notes) j (phase_noted (ready_kept notes) j) → ready_name.Fits j
      go (inl none) = let wrong : false ≡ true = sym (ap is_ready none) ∙ is in cc
      go (inr x) = subst ready_name.Fits x.of (ready_stands notes x.note x.has).named

  pub opening_decided_fits : (t : TransId) → is_some (decision_kept (fate_noted (decisions_kept notes) t)) ≡ true → decision_name.Fits t
  opening_decided_fits t is = go (fate_or (decisions_kept notes) t)
    where
      go : (fate_noted (decisions_kept notes) t ≡ Undrawn) ⊎ IsFateNoted (decisions_kept notes) t (fate_noted (decisions_kept notes) t) → decision_name.Fits t
      go (inl none) = let wrong : false ≡ true = sym (ap (λ (f : Fate). is_some (decision_kept f)) none) ∙ is in cc
      go (inr x) = subst decision_name.Fits x.of (decision_stands notes x.note x.has).named

  -- times of votes
  pub vote_time : (n : ReadyNote) → Has n (ready_kept notes) → n.ts ≤ 2 ^ 62
  vote_time n has =
      let s : IsReadyAt notes n = ready_stands notes n has in
      let time : s.part.ts ≤ 2 ^ 62 = (ready_fits s.part s.fits).time in
      let same : s.part.ts ≡ n.ts = ap (λ (x : ReadyNote). x.ts) s.same in
      omega (arith, time, same)
