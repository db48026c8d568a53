use Rattle.std.specs.Prelude.{true, None, Ok, Err, List, Some}
use Rattle.std.proofs.Common.{◌≡◌, ℕ, ◌+◌, ◌<◌, ◌++◌, ◌∷◌, [], length, refl, sym, ap, ◌∙◌, subst, arith}
use Rattle.alp_base.specs.declared.bytes.NoteChange.{NoteChange}
use Rattle.alp_coord.specs.declared.coordinator.Coordinator.{Coordinator}
use Rattle.alp_coord.specs.Coordinators.{ComesLike, IsAlong, fate_in}
use Rattle.alp_fields.specs.DecisionNote.{decision_ended}
use Rattle.alp_journal.specs.declared.act.Act.{Act}
use Rattle.alp_journal.specs.declared.act.Act.TheVariants as act
use Rattle.alp_journal.specs.declared.event.Event.TheVariants as event
use Rattle.alp_journal.specs.declared.message.Message.TheVariants as msg
use Rattle.alp_journal.specs.Coordinator.{Fate, joins_of}
use Rattle.alp_journal.specs.Deeds.{Acknowledges}
use Rattle.alp_journal.specs.Ids.{has_join}
use Rattle.alp_vault.specs.Volumes.{AreNoteChanges}
use Rattle.alp_node.specs.Noting.{HasNoted, HasRoomFor}
use Rattle.alp_node.specs.Steps.{IsStepAs, told_answer}
use Rattle.alp_node.specs.Writes.{Writes}
use Rattle.alp_node.specs.declared.server_state.ServerState.{ServerState}
use Rattle.alp_node.proofs.ForgetSteps.{IsLastDone, forget_come, forget_room, forget_stop, last_receipt, may_forget}
use Rattle.alp_node.proofs.WriteSteps.{fallen_step, has_fallen, written_step}
use Rattle.alp_node.proofs.server_state.ServerState.forget.Goals as goal

pub note-requires-clause-serving : goal.note-requires-clause-serving
note-requires-clause-serving g c = c.requires.ready.2.serving c.requires.up

pub note-requires-clause-changes : goal.note-requires-clause-changes
note-requires-clause-changes g c =
    let k = c.args.self.now in
    let G = g.V.Vault in
    subst (AreNoteChanges k.server k.servers (G.held k.vault).notes) (sym (c.as_slice.ensures.value ∙ c.in_ok-notes.ensures.notes))
    (may_forget G k 0 c.args.trans c.args.join c.requires.last c.requires.up c.requires.ready c.in_ok-notes.ensures.fits (G.held k.vault).notes (c.requires.noted c.requires.up))

pub note-requires-clause-log : goal.note-requires-clause-log
note-requires-clause-log g c =
    let k = c.args.self.now in
    let G = g.V.Vault in
    subst (HasRoomFor (G.held k.vault).notes k.sizes) (sym (c.as_slice.ensures.value ∙ c.in_ok-notes.ensures.notes))
    (forget_room G k 0 c.args.trans c.args.join c.requires.last c.requires.up c.requires.ready c.in_ok-notes.ensures.fits (G.held k.vault).notes (c.requires.noted c.requires.up))

pub fallen-requires : goal.fallen-requires
fallen-requires g c =
    (let one : length c.push_reserved.new.self.items ≡ 1 = ap (λ (xs : List Act). length xs) (c.push_reserved.ensures.items ∙ ap (λ (xs : List Act). xs ++ act.Forgot c.args.trans ∷ []) c.in_ok-acts.ensures.items) in
    let room = c.in_ok-acts.ensures.capacity in
    let same = c.push_reserved.ensures.capacity in
    record { room = omega (arith, one, room, same) })

-- the server went down in it
pub returns-in-Err : goal.returns-in-Err
returns-in-Err g c from =
    let k = c.args.self.now in
    let G = g.V.Vault in
    let t = c.args.trans in
    let j = c.args.join in
    let v = c.note.new.self.vault in
    let n : HasNoted G k.vault v c.as_slice.result.now (Err c.in-Err.fault) = c.in-Err.ensures.writes in
    let w : Writes G k.vault v n.part (decision_ended t ∷ []) (Err c.in-Err.fault) = subst (λ (cs : List NoteChange). Writes G k.vault v n.part cs (Err c.in-Err.fault)) (c.as_slice.ensures.value ∙ c.in_ok-notes.ensures.notes) n.writes in
    let said : c.push_reserved.new.self.items ≡ act.Forgot t ∷ [] = c.push_reserved.ensures.items ∙ ap (λ (xs : List Act). xs ++ act.Forgot t ∷ []) c.in_ok-acts.ensures.items in
    fallen_step G k v n.part (decision_ended t ∷ []) c.requires.up from (msg.Done t j) (act.Forgot t ∷ []) c.in-Err.fault c.fallen.new.self c.fallen.result
    (forget_stop G k from t j c.requires.last c.requires.up c.requires.ready c.in_ok-notes.ensures.fits n.part n.idle v) w
    (has_fallen G k v n.part (decision_ended t ∷ []) c.requires.up from (msg.Done t j) (act.Forgot t ∷ []) c.note.new.self c.fallen.new.self c.push_reserved.new.self.items c.in-Err.fault c.fallen.result c.in-Err.ensures.kept said c.fallen.ensures.failed c.fallen.ensures.stopped c.fallen.ensures.memory)

-- its note ended
pub returns : goal.returns
returns g c from =
    let k = c.args.self.now in
    let G = g.V.Vault in
    let t = c.args.trans in
    let j = c.args.join in
    let v = c.note.new.self.vault in
    let n : HasNoted G k.vault v c.as_slice.result.now (Ok tt) = c.in-Ok.ensures.writes in
    let w : Writes G k.vault v n.part (decision_ended t ∷ []) (Ok tt) = subst (λ (cs : List NoteChange). Writes G k.vault v n.part cs (Ok tt)) (c.as_slice.ensures.value ∙ c.in_ok-notes.ensures.notes) n.writes in
    let said : c.push_reserved.new.self.items ≡ act.Forgot t ∷ [] = c.push_reserved.ensures.items ∙ ap (λ (xs : List Act). xs ++ act.Forgot t ∷ []) c.in_ok-acts.ensures.items in
    let so : c.silence.result ≡ told_answer None (act.Forgot t ∷ []) = c.silence.ensures ∙ ap (told_answer None) (c.new.ensures ∙ said) in
    let mid : Coordinator = c.acknowledge.new.self in
    let z : Coordinator = c.forget.new.self in
    let was : c.note.new.self.coordinator ≡ k.coordinator = ap (λ (s : ServerState _). s.coordinator) c.in-Ok.ensures.kept in
    let o : IsLastDone j (fate_in k.coordinator t) = last_receipt j (fate_in k.coordinator t) c.requires.last in
    let its : has_join j (joins_of (fate_in c.note.new.self.coordinator t)) ≡ true = ap (λ (x : Coordinator). has_join j (joins_of (fate_in x t))) was ∙ ap (λ (f : Fate). has_join j (joins_of f)) o.is ∙ o.its in
    let e = event.Arrive from (msg.Done t j) in
    subst (λ (s : ServerState _). IsStepAs G None k (record s { coordinator = z }) e (Ok c.silence.result)) (sym c.in-Ok.ensures.kept)
    (written_step G k v n.part (decision_ended t ∷ []) c.requires.up (record k { coordinator = z; vault = v }) e c.silence.result (act.Forgot t ∷ []) w
    (forget_come G k from t j c.requires.last c.requires.up c.requires.ready c.in_ok-notes.ensures.fits mid z (subst (λ (x : Coordinator). IsAlong x mid) was c.acknowledge.ensures.along)
    (subst (λ (x : Coordinator). ComesLike (Acknowledges t j) x mid) was (c.acknowledge.ensures.kept its)) c.forget.ensures.along c.forget.ensures.forgotten n.part n.idle v w c.silence.result so))
