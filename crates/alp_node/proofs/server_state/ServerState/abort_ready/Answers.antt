use Rattle.std.specs.Prelude.{None, Ok, Err, List, Some}
use Rattle.std.specs.FinMap as map
use Rattle.std.proofs.Common.{◌≡◌, ℕ, ◌+◌, ◌≤◌, ◌<◌, ◌++◌, ◌∷◌, [], length, refl, sym, ap, ◌∙◌, subst, arith}
use Rattle.alp_base.specs.declared.bytes.NoteChange.{NoteChange}
use Rattle.alp_fields.specs.ReadyNote.{ready_ended}
use Rattle.alp_journal.specs.declared.act.Act.{Act}
use Rattle.alp_journal.specs.declared.act.Act.TheVariants as act
use Rattle.alp_journal.specs.declared.event.Event.TheVariants as event
use Rattle.alp_journal.specs.declared.message.Message.TheVariants as msg
use Rattle.alp_vault.specs.Volumes.{AreNoteChanges}
use Rattle.alp_worker.specs.Joins.{AreJoinsOf, with_aborted}
use Rattle.alp_worker.specs.Lives.{join_at}
use Rattle.alp_worker.specs.declared.joins.Joins.{Joins}
use Rattle.alp_worker.specs.declared.live.LiveJoin.{LiveJoin}
use Rattle.alp_worker.specs.declared.live.Stage.TheVariants as stage
use Rattle.alp_node.specs.Noting.{HasNoted, HasRoomFor}
use Rattle.alp_node.specs.Releases.{grant_acts, granted_behind, let_go}
use Rattle.alp_node.specs.Steps.{IsStepAs, told_answer}
use Rattle.alp_node.specs.Writes.{Writes}
use Rattle.alp_node.specs.declared.dead.DeadPart.{DeadPart}
use Rattle.alp_node.specs.declared.server_state.ServerState.{ServerState}
use Rattle.alp_node.proofs.AbortReady.{abort_changes, abort_come, abort_room, abort_stop, abort_then}
use Rattle.alp_node.proofs.CommitLemmas.{let_go_vault}
use Rattle.alp_node.proofs.EndingLemmas.{let_go_aside}
use Rattle.alp_node.proofs.JoinedLemmas.{IsFound, join_found}
use Rattle.alp_node.proofs.PairedLemmas.{few_live}
use Rattle.alp_node.proofs.ReleaseLemmas.{let_go_of}
use Rattle.alp_node.proofs.WriteSteps.{fallen_step, has_fallen, written_step}
use Rattle.alp_node.proofs.server_state.ServerState.abort_ready.Goals as goal

pub note-requires-clause-serving : goal.note-requires-clause-serving
note-requires-clause-serving g c = c.requires.ready.2.serving c.requires.up

pub note-requires-clause-on : goal.note-requires-clause-on
note-requires-clause-on g c = record { server = c.requires.on.server; servers = c.requires.on.servers; sizes = c.requires.on.sizes }

pub note-requires-clause-changes : goal.note-requires-clause-changes
note-requires-clause-changes g c =
    let k = c.args.self.now in
    let G = g.V.Vault in
    let t = c.args.trans in
    let j = c.args.join in
    let x : LiveJoin = record { join = j; trans = t; client = c.args.client; stage = stage.Ready c.requires.voted.0 } in
    let there : join_at k.joins.lives j ≡ Some x = (join_found t (join_at k.joins.lives j) x c.requires.voted.1).there in
    subst (AreNoteChanges k.server k.servers (G.held k.vault).notes) (sym (c.as_slice.ensures.value ∙ c.in_ok-notes.ensures.notes))
    (abort_changes G k 0 j t c.args.client c.requires.voted.0 there c.requires.up c.requires.ready c.args.cause (G.held k.vault).notes c.in_ok-notes.ensures.fits (c.requires.noted c.requires.up))

pub note-requires-clause-log : goal.note-requires-clause-log
note-requires-clause-log g c =
    let k = c.args.self.now in
    let G = g.V.Vault in
    let t = c.args.trans in
    let j = c.args.join in
    let x : LiveJoin = record { join = j; trans = t; client = c.args.client; stage = stage.Ready c.requires.voted.0 } in
    let there : join_at k.joins.lives j ≡ Some x = (join_found t (join_at k.joins.lives j) x c.requires.voted.1).there in
    subst (HasRoomFor (G.held k.vault).notes k.sizes) (sym (c.as_slice.ensures.value ∙ c.in_ok-notes.ensures.notes))
    (abort_room G k 0 j t c.args.client c.requires.voted.0 there c.requires.up c.requires.ready c.args.cause (G.held k.vault).notes (c.requires.noted c.requires.up))

pub fallen-requires : goal.fallen-requires
fallen-requires g c = (let none : length c.in_ok-halted.halted.items ≡ 0 = ap (λ (xs : List Act). length xs) c.in_ok-halted.ensures.items in let room = c.in_ok-halted.ensures.capacity in record { room = omega (arith, none, room) })

pub release-requires-clause-none : goal.release-requires-clause-none
release-requires-clause-none g c = ap (λ (s : ServerState _). s.locks.woken) c.in-Ok.ensures.kept ∙ c.requires.ready.2.taken

pub release-requires-clause-room : goal.release-requires-clause-room
release-requires-clause-room g c =
    let k = c.args.self.now in
    let one : length c.in_ok-acts.acts.items ≡ 1 = ap (λ (xs : List Act). length xs) c.in_ok-acts.ensures.acts in
    let same : length c.note.new.self.locks.waiting ≡ length k.locks.waiting = ap (λ (s : ServerState _). length s.locks.waiting) c.in-Ok.ensures.kept in
    let room = c.in_ok-acts.ensures.room in
    omega (arith, one, same, room)

pub release-requires-clause-most : goal.release-requires-clause-most
release-requires-clause-most g c =
    let k = c.args.self.now in
    subst (λ (s : ServerState _). map.len s.lives ≤ 64) (sym c.in-Ok.ensures.kept) (few_live c.requires.ready.0 (g.V.Vault.serves k.vault) k c.requires.ready.2)

pub release-requires-clause-part : goal.release-requires-clause-part
release-requires-clause-part g c u l there = (c.requires.ready.2.within u l (sym (ap (λ (s : ServerState _). map.get s.lives u) c.in-Ok.ensures.kept) ∙ there)).part

-- the server went down in it
pub returns-in-Err : goal.returns-in-Err
returns-in-Err g c from =
    let k = c.args.self.now in
    let G = g.V.Vault in
    let t = c.args.trans in
    let j = c.args.join in
    let why = c.args.cause in
    let v = c.note.new.self.vault in
    let x : LiveJoin = record { join = j; trans = t; client = c.args.client; stage = stage.Ready c.requires.voted.0 } in
    let there : join_at k.joins.lives j ≡ Some x = (join_found t (join_at k.joins.lives j) x c.requires.voted.1).there in
    let n : HasNoted G k.vault v c.as_slice.result.now (Err c.in-Err.fault) = c.in-Err.ensures.writes in
    let w : Writes G k.vault v n.part (ready_ended j ∷ []) (Err c.in-Err.fault) = subst (λ (cs : List NoteChange). Writes G k.vault v n.part cs (Err c.in-Err.fault)) (c.as_slice.ensures.value ∙ c.in_ok-notes.ensures.notes) n.writes in
    let last : DeadPart = record { client = c.args.client; trans = t; cause = why } in
    let back : c.take_back.new.self ≡ k.dead = c.take_back.ensures k.dead last (ap (λ (s : ServerState _). s.dead) c.in-Err.ensures.kept ∙ c.in_ok-add.ensures.ok) in
    let mid : ServerState g.row.V.Denot = record c.note.new.self { dead = c.take_back.new.self } in
    let same : mid ≡ record k { vault = v } = (λ i. record (c.in-Err.ensures.kept i) { dead = back i }) in
    fallen_step G k v n.part (ready_ended j ∷ []) c.requires.up from (msg.Abort t j why) [] c.in-Err.fault c.fallen.new.self c.fallen.result
    (abort_stop G k from j t c.args.client c.requires.voted.0 there c.requires.up c.requires.ready why n.part n.idle c.in_ok-notes.ensures.fits v) w
    (has_fallen G k v n.part (ready_ended j ∷ []) c.requires.up from (msg.Abort t j why) [] mid c.fallen.new.self c.in_ok-halted.halted.items c.in-Err.fault c.fallen.result same c.in_ok-halted.ensures.items c.fallen.ensures.failed c.fallen.ensures.stopped c.fallen.ensures.memory)

-- its note ended
pub returns : goal.returns
returns g c from =
    let k = c.args.self.now in
    let G = g.V.Vault in
    let t = c.args.trans in
    let j = c.args.join in
    let why = c.args.cause in
    let v = c.note.new.self.vault in
    let x : LiveJoin = record { join = j; trans = t; client = c.args.client; stage = stage.Ready c.requires.voted.0 } in
    let there : join_at k.joins.lives j ≡ Some x = (join_found t (join_at k.joins.lives j) x c.requires.voted.1).there in
    let n : HasNoted G k.vault v c.as_slice.result.now (Ok tt) = c.in-Ok.ensures.writes in
    let w : Writes G k.vault v n.part (ready_ended j ∷ []) (Ok tt) = subst (λ (cs : List NoteChange). Writes G k.vault v n.part cs (Ok tt)) (c.as_slice.ensures.value ∙ c.in_ok-notes.ensures.notes) n.writes in
    let dead : List DeadPart = k.dead ++ (record { client = c.args.client; trans = t; cause = why }) ∷ [] in
    let noted : c.note.new.self ≡ record k { dead = dead; vault = v } = c.in-Ok.ensures.kept ∙ ap (λ (ds : List DeadPart). record k { dead = ds; vault = v }) c.in_ok-add.ensures.ok in
    let same : c.release.new.self ≡ record (let_go k t) { dead = dead; vault = v } =
    c.release.ensures.after ∙ ap (λ (s : ServerState _). let_go s t) noted ∙ let_go_aside (record k { vault = v }) t dead ∙ ap (λ (s : ServerState _). record s { dead = dead }) (let_go_vault k v t) in
    let joins_same : c.release.new.self.joins ≡ k.joins = ap (λ (s : ServerState _). s.joins) same ∙ ap (λ (s : ServerState _). s.joins) (let_go_of k t) in
    let so : c.silence.result ≡ told_answer None (act.Released t ∷ grant_acts (granted_behind k t)) =
    c.silence.ensures ∙ ap (told_answer None) (c.new.ensures ∙ c.release.ensures.acts ∙ ap (λ (s : ServerState _). c.in_ok-acts.acts.items ++ grant_acts (granted_behind s t)) noted ∙ ap (λ (acts : List Act). acts ++ grant_acts (granted_behind k t)) c.in_ok-acts.ensures.acts) in
    let js : Joins = c.abort.new.self in
    let e = event.Arrive from (msg.Abort t j why) in
    subst (λ (s : ServerState _). IsStepAs G None k (record s { joins = js }) e (Ok c.silence.result)) (sym same)
    (written_step G k v n.part (ready_ended j ∷ []) c.requires.up (record (let_go k t) { dead = dead; joins = js; vault = v }) e c.silence.result (act.Released t ∷ grant_acts (granted_behind k t)) w
    (abort_come G k from j t c.args.client c.requires.voted.0 there c.requires.up c.requires.ready why n.part n.idle c.in_ok-notes.ensures.fits v js (c.abort.ensures.same ∙ ap (λ (xs : Joins). with_aborted xs j t) joins_same)
    (λ s h. c.abort.ensures.deed s c.args.client why (subst (AreJoinsOf s) (sym joins_same) h)) w c.silence.result so))
