use Rattle.std.specs.Prelude.{None, Ok, Err, List, Some}
use Rattle.std.specs.FinMap as map
use Rattle.std.specs.FinMap.{entries_sorted}
use Rattle.std.proofs.Common.{◌≡◌, ℕ, ◌+◌, ◌≤◌, ◌<◌, ◌^◌, ◌++◌, ◌∷◌, [], length, refl, sym, ap, ◌∙◌, subst, arith}
use Rattle.alp_base.specs.declared.bytes.NoteChange.{NoteChange}
use Rattle.alp_base.specs.declared.key.Resource.{Resource}
use Rattle.alp_journal.specs.declared.act.Act.{Act}
use Rattle.alp_journal.specs.declared.act.Act.TheVariants as act
use Rattle.alp_journal.specs.declared.event.Event.TheVariants as event
use Rattle.alp_journal.specs.declared.message.Message.TheVariants as msg
use Rattle.alp_locks.specs.Tables.{held_of}
use Rattle.alp_modes.specs.declared.Mode.{Mode}
use Rattle.alp_ready.specs.NoteOrder.{AreRising}
use Rattle.alp_vault.specs.Volumes.{AreNoteChanges}
use Rattle.alp_worker.specs.Joins.{AreJoinsOf, with_readied}
use Rattle.alp_worker.specs.Lives.{join_at}
use Rattle.alp_worker.specs.declared.joins.Joins.{Joins}
use Rattle.alp_worker.specs.declared.live.LiveJoin.{LiveJoin}
use Rattle.alp_worker.specs.declared.live.Stage.TheVariants as stage
use Rattle.alp_node.specs.Noting.{HasNoted, HasRoomFor, IsVoteNote}
use Rattle.alp_node.specs.Says.{said_to}
use Rattle.alp_node.specs.Steps.{IsStepAs, told_answer}
use Rattle.alp_node.specs.Writes.{Writes}
use Rattle.alp_node.specs.declared.lives.Live.{Live}
use Rattle.alp_node.specs.declared.server_state.ServerState.{ServerState}
use Rattle.alp_node.proofs.JoinMoves.{same_some}
use Rattle.alp_node.proofs.JoinedLemmas.{IsFound, join_found}
use Rattle.alp_node.proofs.VoteForSteps.{allowed, differ_step, may_note, note_room, vote_come, vote_part, vote_stop}
use Rattle.alp_node.proofs.WriteSteps.{fallen_step, has_fallen, written_step}
use Rattle.alp_node.proofs.server_state.ServerState.vote_for.Goals as goal

pub unreachable-requires : goal.unreachable-requires
unreachable-requires g c =
    let k = c.args.self.now in
    let G = g.V.Vault in
    let t = c.args.trans in
    let j = c.args.join in
    let client = c.args.client in
    let who = c.requires.active.0 in
    let x : LiveJoin = record { join = j; trans = t; client = client; stage = stage.Active who } in
    let there : join_at k.joins.lives j ≡ Some x = (join_found t (join_at k.joins.lives j) x c.requires.active.1).there in
    let p : (l : Live) × (map.get k.lives t ≡ Some l) × (l.join ≡ Some j) = vote_part G k 0 j t client who there c.requires.up c.requires.ready c.requires.may c.requires.told in
    let wrong : None ≡ Some p.0 = c.in_default.ensures ∙ p.1 in
    cc

pub returns-then-len-live : goal.returns-then-len-live
returns-then-len-live g c from =
    let k = c.args.self.now in
    let G = g.V.Vault in
    let t = c.args.trans in
    let j = c.args.join in
    let client = c.args.client in
    let who = c.requires.active.0 in
    let x : LiveJoin = record { join = j; trans = t; client = client; stage = stage.Active who } in
    let there : join_at k.joins.lives j ≡ Some x = (join_found t (join_at k.joins.lives j) x c.requires.active.1).there in
    let p : (l : Live) × (map.get k.lives t ≡ Some l) × (l.join ≡ Some j) = vote_part G k from j t client who there c.requires.up c.requires.ready c.requires.may c.requires.told in
    let same : c.in-Some.live.now ≡ p.0 = same_some c.in-Some.live.now p.0 (c.in-Some.ensures ∙ p.1) in
    differ_step G k from j t client who there c.requires.up c.requires.ready c.requires.may c.requires.told c.silence.result (λ e. c.if-len-live.true (c.len.ensures ∙ c.in_ok-locks.locks.ok.0 ∙ ap (λ (xs : List (Resource × Mode)). length xs) c.in_ok-locks.ensures ∙ e ∙ ap (λ (l : Live). l.locks) (sym same))) c.silence.ensures

pub ready_notes-requires-clause-part : goal.ready_notes-requires-clause-part
ready_notes-requires-clause-part g c = (c.requires.ready.2.within c.args.trans c.in-Some.live.now (sym c.in-Some.ensures)).part

pub ready_notes-requires-clause-few : goal.ready_notes-requires-clause-few
ready_notes-requires-clause-few g c =
    let l : Live = c.in-Some.live.now in
    let so_many : length c.in_ok-locks.locks.items ≡ l.locks = sym (c.len.ensures ∙ c.in_ok-locks.locks.ok.0) ∙ c.if-len-live.false in
    let most : l.locks ≤ 1024 = (c.requires.ready.2.within c.args.trans l (sym c.in-Some.ensures)).locks in
    omega (arith, so_many, most)

pub ready_notes-requires-clause-rising : goal.ready_notes-requires-clause-rising
ready_notes-requires-clause-rising g c = subst AreRising (sym c.in_ok-locks.ensures) (entries_sorted (held_of c.args.self.now.locks.held c.args.trans))

pub note-requires-clause-changes : goal.note-requires-clause-changes
note-requires-clause-changes g c =
    let k = c.args.self.now in
    let G = g.V.Vault in
    let t = c.args.trans in
    let j = c.args.join in
    let client = c.args.client in
    let who = c.requires.active.0 in
    let x : LiveJoin = record { join = j; trans = t; client = client; stage = stage.Active who } in
    let there : join_at k.joins.lives j ≡ Some x = (join_found t (join_at k.joins.lives j) x c.requires.active.1).there in
    let p : (l : Live) × (map.get k.lives t ≡ Some l) × (l.join ≡ Some j) = vote_part G k 0 j t client who there c.requires.up c.requires.ready c.requires.may c.requires.told in
    let same : c.in-Some.live.now ≡ p.0 = same_some c.in-Some.live.now p.0 (c.in-Some.ensures ∙ p.1) in
    let n : IsVoteNote j t client (k.clock + 1) p.0.part c.in_ok-locks.locks.items c.in_ok-notes.notes.items = subst (λ (l : Live). IsVoteNote j t client (k.clock + 1) l.part c.in_ok-locks.locks.items c.in_ok-notes.notes.items) same c.in_ok-notes.ensures in
    let counted : length c.in_ok-locks.locks.items ≡ p.0.locks = sym (c.len.ensures ∙ c.in_ok-locks.locks.ok.0) ∙ c.if-len-live.false ∙ ap (λ (l : Live). l.locks) same in
    subst (AreNoteChanges k.server k.servers (G.held k.vault).notes) (sym c.as_slice.ensures.value) (may_note G k 0 j t client who there c.requires.up c.requires.ready c.requires.may c.requires.told c.in_ok-locks.locks.items c.in_ok-notes.notes.items n c.in_ok-locks.ensures counted (G.held k.vault).notes (c.requires.noted c.requires.up))

pub note-requires-clause-log : goal.note-requires-clause-log
note-requires-clause-log g c =
    let k = c.args.self.now in
    let G = g.V.Vault in
    let t = c.args.trans in
    let j = c.args.join in
    let client = c.args.client in
    let who = c.requires.active.0 in
    let x : LiveJoin = record { join = j; trans = t; client = client; stage = stage.Active who } in
    let there : join_at k.joins.lives j ≡ Some x = (join_found t (join_at k.joins.lives j) x c.requires.active.1).there in
    let p : (l : Live) × (map.get k.lives t ≡ Some l) × (l.join ≡ Some j) = vote_part G k 0 j t client who there c.requires.up c.requires.ready c.requires.may c.requires.told in
    let same : c.in-Some.live.now ≡ p.0 = same_some c.in-Some.live.now p.0 (c.in-Some.ensures ∙ p.1) in
    let n : IsVoteNote j t client (k.clock + 1) p.0.part c.in_ok-locks.locks.items c.in_ok-notes.notes.items = subst (λ (l : Live). IsVoteNote j t client (k.clock + 1) l.part c.in_ok-locks.locks.items c.in_ok-notes.notes.items) same c.in_ok-notes.ensures in
    let counted : length c.in_ok-locks.locks.items ≡ p.0.locks = sym (c.len.ensures ∙ c.in_ok-locks.locks.ok.0) ∙ c.if-len-live.false ∙ ap (λ (l : Live). l.locks) same in
    subst (HasRoomFor (G.held k.vault).notes k.sizes) (sym c.as_slice.ensures.value) (note_room G k 0 j t client who there c.requires.up c.requires.ready c.requires.may c.requires.told c.in_ok-locks.locks.items c.in_ok-notes.notes.items n c.in_ok-locks.ensures counted (G.held k.vault).notes (c.requires.noted c.requires.up))

pub fallen-requires : goal.fallen-requires
fallen-requires g c =
    (let one : length c.push_reserved.new.self.items ≡ 1 = ap (λ (xs : List Act). length xs) (c.push_reserved.ensures.items ∙ ap (λ (xs : List Act). xs ++ act.Readied c.args.trans c.args.join (c.args.self.now.clock + 1) ∷ []) c.in_ok-acts.ensures.items) in
    let room = c.in_ok-acts.ensures.capacity in
    let more = c.push_reserved.ensures.capacity in
    record { room = omega (arith, one, room, more) })

pub say-requires : goal.say-requires
say-requires g c =
    (let one : length c.push_reserved.new.self.items ≡ 1 = ap (λ (xs : List Act). length xs) (c.push_reserved.ensures.items ∙ ap (λ (xs : List Act). xs ++ act.Readied c.args.trans c.args.join (c.args.self.now.clock + 1) ∷ []) c.in_ok-acts.ensures.items) in
    let room = c.in_ok-acts.ensures.capacity in
    let more = c.push_reserved.ensures.capacity in
    record { room = omega (arith, one, room, more) })

-- the server went down in it
pub returns-in-Err : goal.returns-in-Err
returns-in-Err g c from =
    let k = c.args.self.now in
    let G = g.V.Vault in
    let t = c.args.trans in
    let j = c.args.join in
    let client = c.args.client in
    let who = c.requires.active.0 in
    let x : LiveJoin = record { join = j; trans = t; client = client; stage = stage.Active who } in
    let there : join_at k.joins.lives j ≡ Some x = (join_found t (join_at k.joins.lives j) x c.requires.active.1).there in
    let p : (l : Live) × (map.get k.lives t ≡ Some l) × (l.join ≡ Some j) = vote_part G k from j t client who there c.requires.up c.requires.ready c.requires.may c.requires.told in
    let same : c.in-Some.live.now ≡ p.0 = same_some c.in-Some.live.now p.0 (c.in-Some.ensures ∙ p.1) in
    let n : IsVoteNote j t client (k.clock + 1) p.0.part c.in_ok-locks.locks.items c.in_ok-notes.notes.items = subst (λ (l : Live). IsVoteNote j t client (k.clock + 1) l.part c.in_ok-locks.locks.items c.in_ok-notes.notes.items) same c.in_ok-notes.ensures in
    let counted : length c.in_ok-locks.locks.items ≡ p.0.locks = sym (c.len.ensures ∙ c.in_ok-locks.locks.ok.0) ∙ c.if-len-live.false ∙ ap (λ (l : Live). l.locks) same in
    let v = c.note.new.self.vault in
    let h : HasNoted G k.vault v c.as_slice.result.now (Err c.in-Err.fault) = c.in-Err.ensures.writes in
    let changes : List NoteChange = c.in_ok-notes.notes.items in
    let w : Writes G k.vault v h.part changes (Err c.in-Err.fault) = subst (λ (cs : List NoteChange). Writes G k.vault v h.part cs (Err c.in-Err.fault)) c.as_slice.ensures.value h.writes in
    let said : c.push_reserved.new.self.items ≡ act.Readied t j (k.clock + 1) ∷ [] = c.push_reserved.ensures.items ∙ ap (λ (xs : List Act). xs ++ act.Readied t j (k.clock + 1) ∷ []) c.in_ok-acts.ensures.items in
    fallen_step G k v h.part changes c.requires.up from (msg.Ask t j) (act.Readied t j (k.clock + 1) ∷ []) c.in-Err.fault c.fallen.new.self c.fallen.result (vote_stop G k from j t client who there c.requires.up c.requires.ready c.requires.may c.requires.told c.in_ok-locks.locks.items c.in_ok-notes.notes.items n c.in_ok-locks.ensures counted h.part h.idle v) w
    (has_fallen G k v h.part changes c.requires.up from (msg.Ask t j) (act.Readied t j (k.clock + 1) ∷ []) c.note.new.self c.fallen.new.self c.push_reserved.new.self.items c.in-Err.fault c.fallen.result c.in-Err.ensures.kept said c.fallen.ensures.failed c.fallen.ensures.stopped c.fallen.ensures.memory)

-- it has voted
pub returns : goal.returns
returns g c from =
    let k = c.args.self.now in
    let G = g.V.Vault in
    let t = c.args.trans in
    let j = c.args.join in
    let client = c.args.client in
    let who = c.requires.active.0 in
    let x : LiveJoin = record { join = j; trans = t; client = client; stage = stage.Active who } in
    let there : join_at k.joins.lives j ≡ Some x = (join_found t (join_at k.joins.lives j) x c.requires.active.1).there in
    let p : (l : Live) × (map.get k.lives t ≡ Some l) × (l.join ≡ Some j) = vote_part G k from j t client who there c.requires.up c.requires.ready c.requires.may c.requires.told in
    let same : c.in-Some.live.now ≡ p.0 = same_some c.in-Some.live.now p.0 (c.in-Some.ensures ∙ p.1) in
    let n : IsVoteNote j t client (k.clock + 1) p.0.part c.in_ok-locks.locks.items c.in_ok-notes.notes.items = subst (λ (l : Live). IsVoteNote j t client (k.clock + 1) l.part c.in_ok-locks.locks.items c.in_ok-notes.notes.items) same c.in_ok-notes.ensures in
    let counted : length c.in_ok-locks.locks.items ≡ p.0.locks = sym (c.len.ensures ∙ c.in_ok-locks.locks.ok.0) ∙ c.if-len-live.false ∙ ap (λ (l : Live). l.locks) same in
    let v = c.note.new.self.vault in
    let h : HasNoted G k.vault v c.as_slice.result.now (Ok tt) = c.in-Ok.ensures.writes in
    let changes : List NoteChange = c.in_ok-notes.notes.items in
    let w : Writes G k.vault v h.part changes (Ok tt) = subst (λ (cs : List NoteChange). Writes G k.vault v h.part cs (Ok tt)) c.as_slice.ensures.value h.writes in
    let said : c.push_reserved.new.self.items ≡ act.Readied t j (k.clock + 1) ∷ [] = c.push_reserved.ensures.items ∙ ap (λ (xs : List Act). xs ++ act.Readied t j (k.clock + 1) ∷ []) c.in_ok-acts.ensures.items in
    let kept : c.note.new.self ≡ record k { vault = v } = c.in-Ok.ensures.kept in
    let js : Joins = c.ready.new.self in
    let joins_same : c.note.new.self.joins ≡ k.joins = ap (λ (s : ServerState _). s.joins) kept in
    let says : said_to (record c.note.new.self { joins = js }) t.server (msg.Ready t j (k.clock + 1)) ≡ said_to k t.server (msg.Ready t j (k.clock + 1)) = ap (λ (s : ServerState _). said_to s t.server (msg.Ready t j (k.clock + 1))) kept in
    let so : c.silence-2.result ≡ told_answer None (act.Readied t j (k.clock + 1) ∷ said_to k t.server (msg.Ready t j (k.clock + 1))) = c.silence-2.ensures ∙ ap (told_answer None) (c.new.ensures ∙ c.say.ensures ∙ (λ i. said i ++ says i)) in
    subst (λ (s : ServerState _). IsStepAs G None k (record s { joins = js }) (event.Arrive from (msg.Ask t j)) (Ok c.silence-2.result)) (sym kept)
    (written_step G k v h.part changes c.requires.up (record k { joins = js; vault = v }) (event.Arrive from (msg.Ask t j)) c.silence-2.result (act.Readied t j (k.clock + 1) ∷ said_to k t.server (msg.Ready t j (k.clock + 1))) w
    (vote_come G k from j t client who there c.requires.up c.requires.ready c.requires.may c.requires.told c.in_ok-locks.locks.items c.in_ok-notes.notes.items n c.in_ok-locks.ensures counted h.part h.idle v js (c.ready.ensures.same ∙ ap (λ (q : Joins). with_readied q j (k.clock + 1)) joins_same)
    (λ s u q. c.ready.ensures.deed s u (subst (AreJoinsOf s) (sym joins_same) q)) w c.silence-2.result so))
