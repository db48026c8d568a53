-- a decision with parts on other servers: its notes get the clock and one of the decision, and say the rest as before
use Rattle.std.specs.Prelude.{Bool, true, false, cond, ◌&&◌, ◌==◌, max, sum_by, Option, None, Some, is_some}
use Rattle.std.specs.List.{list_all}
use Rattle.std.specs.FinMap as map
use Rattle.std.specs.FinMap.{get-insert}
use Rattle.std.specs.Cmp.{eq_by_cmp_equiv}
use Rattle.std.specs.Cmp.Lexicographic.{nat_list_cmp_total}
use Rattle.std.proofs.Common.{◌≡◌, ◌⊎◌, inl, inr, ℕ, ◌≤◌, List, [], ◌∷◌, refl, sym, ap, subst, ◌∙◌, arith}
use Rattle.alp_base.specs.Notes.{Notes, noted}
use Rattle.alp_base.specs.declared.bytes.NoteChange.{NoteChange}
use Rattle.alp_base.specs.declared.ids.JoinNo.{JoinNo}
use Rattle.alp_base.specs.declared.ids.Stamp.{Stamp}
use Rattle.alp_base.specs.declared.ids.TransId.{TransId}
use Rattle.alp_fields.specs.Forms.{whole}
use Rattle.alp_fields.specs.Rising.{text_below}
use Rattle.alp_fields.specs.ClockNote.{clock_name, clock_form, clock_kept}
use Rattle.alp_fields.specs.declared.clock_note.ClockNote.{ClockNote}
use Rattle.alp_fields.specs.DecisionNote.{decision_in, decision_name, decision_form, decision_noted, decision_with}
use Rattle.alp_fields.specs.declared.decision_note.Decision.{Decision}
use Rattle.alp_fields.specs.declared.ready_note.ReadyPart.{ReadyPart}
use Rattle.alp_fields.proofs.FormLaws.{whole_spelled}
use Rattle.alp_fields.proofs.DecisionNoteLaw.{decision_name_law, decision_name_length}
use Rattle.alp_journal.specs.Coordinator.{Fate, Undrawn, Running, Finishing, Committed, Forgotten, Ended, decided}
use Rattle.alp_journal.specs.Deeds.{Decides}
use Rattle.alp_journal.specs.Holder.{Life, commits}
use Rattle.alp_journal.specs.Ids.{same_trans}
use Rattle.alp_journal.specs.State.{State, state_deed}
use Rattle.alp_journal.proofs.IdLemmas.{same_trans-itself, same_trans-true}
use Rattle.alp_coord.specs.declared.coordinator.Coordinator.{Coordinator}
use Rattle.alp_coord.specs.Coordinators.{fate_in}
use Rattle.alp_ready.specs.NoteLooks.{Keeps}
use Rattle.alp_ready.proofs.NoteSizes.{decision_most}
use Rattle.alp_ready.proofs.NoteViews.{put_decision}
use Rattle.alp_vault.specs.Volumes.{AreNoteChanges, AreServerNotes, is_another, noted_bytes}
use Rattle.alp_vault.proofs.VolumeLemmas.{clock_length}
use Rattle.alp_worker.specs.declared.joins.Joins.{Joins}
use Rattle.alp_worker.specs.Lives.{join_at}
use Rattle.alp_node.specs.Durable.{AreNotesOf, IsReadyNote}
use Rattle.alp_node.specs.Noted.{AreNoted, IsNotedJoin, decision_kept}
use Rattle.alp_node.specs.Totals.{LiveMap}
use Rattle.alp_node.specs.Writes.{FitDecision, clock_put}
use Rattle.alp_node.proofs.CommitNotes.{decided_notes, decided_voted}
use Rattle.alp_node.proofs.NoteLaw.{AreVoted, IsVoted}
use Rattle.alp_files.proofs.FilesLemmas.{same-some}

-- what is read back has a name that is spelled so
pub named_from : (t : TransId) (d : Decision) (name value : List ℕ) → decision_in name value ≡ Some (t, d) → decision_name.Fits t
named_from t d name value back = go (whole decision_name name) refl (whole decision_form value) back
  where
    trans_of : Option (TransId × Decision) → TransId
    trans_of None = t
    trans_of (Some x) = x.0

    go : (x : Option TransId) → whole decision_name name ≡ x → (y : Option Decision) → decision_with x y ≡ Some (t, d) → decision_name.Fits t
    go None e y at = absurd (let wrong : None ≡ Some (t, d) = at in cc)
    go (Some u) e None at = absurd (let wrong : None ≡ Some (t, d) = at in cc)
    go (Some u) e (Some z) at = subst decision_name.Fits (ap trans_of at) (whole_spelled decision_name decision_name_law name u e).1

-- a decision that has a note, where it has parts elsewhere
pub fit_decision : (stamp : Stamp) (js : List JoinNo) → decision_form.Fits (record { ts = stamp.ts; joins = js }) → decision_name.Fits stamp.trans → FitDecision stamp js
fit_decision stamp [] fits named = tt
fit_decision stamp (j ∷ js) fits named = (fits, named)

-- ---- what may be written

found_put : (notes : Notes) (name value : List ℕ) → map.get (map.insert notes name value) name ≡ Some value
found_put notes name value = get-insert nat_list_cmp_total notes name value name ∙ ap (λ (b : Bool). cond {A = Option (List ℕ)} b (Some value) (map.get notes name)) ((eq_by_cmp_equiv nat_list_cmp_total).refl name)

-- the name of the clock is before that of a decision
clock_before : (t : TransId) → text_below clock_name (decision_name.spell t) ≡ true
unfolding decision_name
clock_before t = refl

pub decide_changes : (server servers : ℕ) (notes : Notes) (c : ClockNote) (t : TransId) (d : Decision) → AreServerNotes server servers notes → AreServerNotes server servers (noted clock_name (Some (clock_form.spell c)) notes)
    → AreServerNotes server servers (noted (decision_name.spell t) (Some (decision_form.spell d)) (noted clock_name (Some (clock_form.spell c)) notes)) → map.len notes ≤ 129 → AreNoteChanges server servers notes (clock_put c ∷ decision_noted t d ∷ [])
decide_changes server servers notes c t d before mid after few = record {
  before = before;
  after = after;
  each = λ i. mid clock_name (clock_form.spell c) (found_put notes clock_name (clock_form.spell c)) i
      && (after (decision_name.spell t) (decision_form.spell d) (found_put (noted clock_name (Some (clock_form.spell c)) notes) (decision_name.spell t) (decision_form.spell d)) i && true);
  rise = ap (λ (b : Bool). b && true) (clock_before t);
  few = omega (arith, few);
}

pub decide_short : (c : ClockNote) (t : TransId) (d : Decision) → decision_form.Fits d → sum_by (λ (n : NoteChange). noted_bytes n.name n.value) (clock_put c ∷ decision_noted t d ∷ []) ≤ 128
decide_short c t d fits = omega (arith, clock_length c, decision_name_length t, decision_most d fits)

-- ---- by what the journal says

module _ (s : State) (t : TransId) (time : ℕ) (js : List JoinNo) (l : Life) (voted : AreVoted s) (here : (t.server == s.holder.server) ≡ true) (live : s.holder.lives t ≡ Some l) where
  abbrev stamp : Stamp
  stamp = record { ts = time; trans = t }

  abbrev alone : State
  alone = state_deed s (Decides (record { ts = time; trans = t }) [])

  abbrev then : State
  then = state_deed s (Decides (record { ts = time; trans = t }) js)

  pub put_voted : AreVoted (state_deed s (Decides (record { ts = time; trans = t }) js))
  put_voted j u client ts is =
      let v : IsVoted alone j u ts = decided_voted s stamp l voted here live j u client ts is in
      record { life = v.life; live = v.live; vote = v.vote; join = v.join; away = v.away }

  other_same : (u : TransId) → (u ≡ t → ⊥) → decision_kept (alone.fates u) ≡ decision_kept (then.fates u)
  other_same u other = go (same_trans t u) refl
    where
      go : (b : Bool) → same_trans t u ≡ b → decision_kept (cond {A = Fate} b (decided stamp [] (s.fates u)) (s.fates u)) ≡ decision_kept (cond {A = Fate} b (decided stamp js (s.fates u)) (s.fates u))
      go true e = absurd (other (sym (same_trans-true t u e)))
      go false e = refl

  -- the clock stands, and the decision has its note
  pub put_notes : (d : Decision) (epoch : ℕ) (notes : Notes) → decision_name.Fits t → decision_form.Fits d → list_all (λ (j : JoinNo). is_another s.holder.server s.servers j.server) d.joins ≡ true → t.server ≡ s.holder.server
      → decision_kept (decided (record { ts = time; trans = t }) js (s.fates t)) ≡ Some d → clock_form.Fits (record { epoch = epoch; clock = max s.holder.clock time }) → s.holder.kept ≤ s.holder.clock → AreNotesOf s epoch notes
      → AreNotesOf (state_deed s (Decides (record { ts = time; trans = t }) js)) epoch (noted (decision_name.spell t) (Some (decision_form.spell d)) (noted clock_name (Some (clock_form.spell (record { epoch = epoch; clock = max s.holder.clock time }))) notes))
  put_notes d epoch notes named fits far own kept clocked order h =
      let mid : Notes = noted clock_name (Some (clock_form.spell (record { epoch = epoch; clock = max s.holder.clock time }))) notes in
      let first : AreNotesOf alone epoch mid = decided_notes s stamp l voted here live epoch notes clocked order h in
      let part : JoinNo → Option ReadyPart → Type 0 = λ j. IsReadyNote alone.holder.lives (alone.phases j) in
      let before : Keeps alone.holder.server s.servers (record { epoch = epoch; clock = alone.holder.kept }) part (λ u. decision_kept (alone.fates u)) mid =
      record { clock = first.clock; ready = first.ready; decided = first.decided; format = first.format } in
      let k : Keeps alone.holder.server s.servers (record { epoch = epoch; clock = alone.holder.kept }) part (λ u. decision_kept (then.fates u)) (noted (decision_name.spell t) (Some (decision_form.spell d)) mid) =
      put_decision alone.holder.server s.servers (record { epoch = epoch; clock = alone.holder.kept }) part (λ u. decision_kept (alone.fates u)) mid before (λ u. decision_kept (then.fates u)) t named other_same d fits (own ∙ sym (same_server (s.holder.lives t)))
      (subst (λ (n : ℕ). list_all (λ (j : JoinNo). is_another n s.servers j.server) d.joins ≡ true) (sym (same_server (s.holder.lives t))) far)
      (ap (λ (b : Bool). decision_kept (cond {A = Fate} b (decided stamp js (s.fates t)) (s.fates t))) (same_trans-itself t) ∙ kept) in
      record { clock = k.clock; ready = k.ready; decided = k.decided; fit = first.fit; fit_decided = fit_now first; timely = λ u x is. timely_now order h u x (same_trans t u) is; format = k.format }
    where
      -- a decision that is made has its own time
      time_of : (f : Fate) (x : Decision) → decision_kept (decided stamp js f) ≡ Some x → (x.ts ≡ time) ⊎ (decision_kept f ≡ Some x)
      time_of Undrawn x is = inr is
      time_of (Running client ks) x is = inr is
      time_of (Finishing client ks vs) x is = made js is
        where
          made : (zs : List JoinNo) → decision_kept (Committed stamp zs []) ≡ Some x → (x.ts ≡ time) ⊎ (decision_kept (Finishing client ks vs) ≡ Some x)
          made [] e = let wrong : None ≡ Some x = e in cc
          made (z ∷ zs) e = inl (ap (λ (y : Decision). y.ts) (sym (same-some (record { ts = time; joins = z ∷ zs }) x e)))
      time_of (Committed s ks ds) x is = inr is
      time_of (Forgotten s ks) x is = inr is
      time_of (Ended c) x is = inr is

      timely_now : s.holder.kept ≤ s.holder.clock → AreNotesOf s epoch notes → (u : TransId) (x : Decision) (b : Bool) → decision_kept (cond {A = Fate} b (decided stamp js (s.fates u)) (s.fates u)) ≡ Some x → x.ts ≤ (commits s.holder stamp (s.holder.lives t)).kept
      timely_now low was u x b is = subst (λ (o : Option Life). x.ts ≤ (commits s.holder stamp o).kept) (sym live) (go b is)
        where
          old : decision_kept (s.fates u) ≡ Some x → x.ts ≤ max s.holder.clock time
          old e = (let early : x.ts ≤ s.holder.kept = was.timely u x e in omega (arith, early, low))

          go : (b : Bool) → decision_kept (cond {A = Fate} b (decided stamp js (s.fates u)) (s.fates u)) ≡ Some x → x.ts ≤ max s.holder.clock time
          go true e = elim (time_of (s.fates u) x e) [
            | inl same ↦ omega (arith, same)
            | inr before ↦ old before
          ]
          go false e = old e

      fit_now : AreNotesOf alone epoch (noted clock_name (Some (clock_form.spell (record { epoch = epoch; clock = max s.holder.clock time }))) notes) → (u : TransId) → is_some (decision_kept (then.fates u)) ≡ true → decision_name.Fits u
      fit_now first u is = go (same_trans t u) refl
        where
          go : (b : Bool) → same_trans t u ≡ b → decision_name.Fits u
          go true e = subst decision_name.Fits (same_trans-true t u e) named
          go false e = first.fit_decided u (ap (λ (f : Option Decision). is_some f) (ap (λ (b : Bool). decision_kept (cond {A = Fate} b (decided stamp [] (s.fates u)) (s.fates u))) e ∙ sym (ap (λ (b : Bool). decision_kept (cond {A = Fate} b (decided stamp js (s.fates u)) (s.fates u))) e)) ∙ is)

      same_server : (o : Option Life) → (commits s.holder stamp o).server ≡ s.holder.server
      same_server None = refl
      same_server (Some x) = refl

-- ---- by what the server keeps

pub put_noted : (server servers now : ℕ) (lives : LiveMap) (joins : Joins) (before after : Coordinator) (t : TransId) (d : Decision) (notes : Notes) → decision_name.Fits t → decision_form.Fits d → t.server ≡ server
    → list_all (λ (j : JoinNo). is_another server servers j.server) d.joins ≡ true → ((u : TransId) → (u ≡ t → ⊥) → decision_kept (fate_in before u) ≡ decision_kept (fate_in after u)) → decision_kept (fate_in after t) ≡ Some d
    → AreNoted server servers now lives joins before notes → AreNoted server servers now lives joins after (noted (decision_name.spell t) (Some (decision_form.spell d)) notes)
put_noted server servers now lives joins before after t d notes named fits own far others this h =
    let part : JoinNo → Option ReadyPart → Type 0 = λ j. IsNotedJoin lives (join_at joins.lives j) in
    let was : Keeps server servers (clock_kept notes) part (λ u. decision_kept (fate_in before u)) notes = record { clock = refl; ready = h.ready; decided = h.decided; format = h.format } in
    let k : Keeps server servers (clock_kept notes) part (λ u. decision_kept (fate_in after u)) (noted (decision_name.spell t) (Some (decision_form.spell d)) notes) =
    put_decision server servers (clock_kept notes) part (λ u. decision_kept (fate_in before u)) notes was (λ u. decision_kept (fate_in after u)) t named others d fits own far this in
    record { epoch = ap (λ (n : ClockNote). n.epoch) k.clock ∙ h.epoch; ready = k.ready; decided = k.decided; format = k.format }

-- they are in the format of the server then, whatever becomes of the transaction
pub put_format : (server servers now : ℕ) (lives : LiveMap) (joins : Joins) (c : Coordinator) (t : TransId) (d : Decision) (notes : Notes) → decision_name.Fits t → decision_form.Fits d → t.server ≡ server
    → list_all (λ (j : JoinNo). is_another server servers j.server) d.joins ≡ true → AreNoted server servers now lives joins c notes → AreServerNotes server servers (noted (decision_name.spell t) (Some (decision_form.spell d)) notes)
put_format server servers now lives joins c t d notes named fits own far h =
    let part : JoinNo → Option ReadyPart → Type 0 = λ j. IsNotedJoin lives (join_at joins.lives j) in
    let then : TransId → Option Decision = λ u. cond {A = Option Decision} (same_trans t u) (Some d) (decision_kept (fate_in c u)) in
    let was : Keeps server servers (clock_kept notes) part (λ u. decision_kept (fate_in c u)) notes = record { clock = refl; ready = h.ready; decided = h.decided; format = h.format } in
    let k : Keeps server servers (clock_kept notes) part then (noted (decision_name.spell t) (Some (decision_form.spell d)) notes) =
    put_decision server servers (clock_kept notes) part (λ u. decision_kept (fate_in c u)) notes was then t named (λ u other. go u other (same_trans t u) refl) d fits own far
    (ap (λ (b : Bool). cond {A = Option Decision} b (Some d) (decision_kept (fate_in c t))) (same_trans-itself t)) in
    k.format
  where
    go : (u : TransId) → (u ≡ t → ⊥) → (b : Bool) → same_trans t u ≡ b → decision_kept (fate_in c u) ≡ cond {A = Option Decision} b (Some d) (decision_kept (fate_in c u))
    go u other true e = absurd (other (sym (same_trans-true t u e)))
    go u other false e = refl
