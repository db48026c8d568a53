use Rattle.std.specs.Prelude.{IsTrue, None, Ok, Err, List, Some, max}
use Rattle.std.specs.FinMap as map
use Rattle.std.proofs.Common.{◌≡◌, ℕ, ◌+◌, ◌≤◌, ◌<◌, ◌^◌, ◌++◌, ◌∷◌, [], length, refl, sym, ap, ◌∙◌, subst, arith}
use Rattle.alp_base.specs.declared.bytes.NoteChange.{NoteChange}
use Rattle.alp_base.specs.declared.ids.Stamp.{Stamp}
use Rattle.alp_base.specs.declared.key.Key.{Key}
use Rattle.alp_fields.specs.declared.clock_note.ClockNote.{ClockNote}
use Rattle.alp_fields.specs.ReadyNote.{ready_ended}
use Rattle.alp_journal.specs.declared.act.Act.{Act}
use Rattle.alp_journal.specs.declared.act.Act.TheVariants as act
use Rattle.alp_journal.specs.declared.event.Event.TheVariants as event
use Rattle.alp_journal.specs.declared.message.Message.TheVariants as msg
use Rattle.alp_journal.specs.Deeds.{Applies}
use Rattle.alp_journal.specs.State.{state_deed}
use Rattle.alp_vault.specs.Volumes.{AreNoteChanges}
use Rattle.alp_worker.specs.Joins.{AreJoinsOf, with_applied}
use Rattle.alp_worker.specs.declared.joins.Joins.{Joins}
use Rattle.alp_node.specs.Eases.{eased}
use Rattle.alp_node.specs.Releases.{grant_acts, granted_behind, let_go}
use Rattle.alp_node.specs.Says.{said_to}
use Rattle.alp_node.specs.Steps.{IsStepAs, told_answer}
use Rattle.alp_node.specs.Writes.{HasLogFor, HasMade, Writes, clock_put}
use Rattle.alp_node.specs.declared.lives.Live.{Live}
use Rattle.alp_node.specs.declared.server_state.ServerState.{ServerState}
use Rattle.alp_node.proofs.ApplySteps.{apply_come, apply_log, apply_part, apply_stop, apply_then, apply_written, may_apply}
use Rattle.alp_node.proofs.LetGoWrites.{granted_few}
use Rattle.alp_node.proofs.ReleaseLemmas.{let_go_of}
use Rattle.alp_node.proofs.WriteSteps.{fallen_step, has_fallen, written_step}
use Rattle.alp_node.proofs.server_state.ServerState.apply.Goals as goal

pub applied_notes-requires : goal.applied_notes-requires
applied_notes-requires g c = record { time = (let low : c.args.stamp.ts ≤ 2 ^ 62 = c.requires.time in let before : c.args.self.now.clock ≤ 2 ^ 62 = c.requires.ready.2.clock in let same = c.max.ensures in omega (arith, low, before, same)) }

pub make-requires-clause-live : goal.make-requires-clause-live
make-requires-clause-live g c none =
    let k = c.args.self.now in
    let p = apply_part g.V.Vault k 0 c.args.join c.args.trans c.requires.voted.0 c.requires.voted.1 c.args.stamp.ts c.requires.voted.2 c.requires.up c.requires.ready c.requires.time in
    let wrong : None ≡ Some p.0 = sym none ∙ p.1 in
    cc

pub make-requires-clause-changes : goal.make-requires-clause-changes
make-requires-clause-changes g c =
    let k = c.args.self.now in
    let G = g.V.Vault in
    let notes_are : c.as_slice.result.now ≡ clock_put (record { epoch = k.epoch; clock = max k.clock c.args.stamp.ts }) ∷ ready_ended c.args.join ∷ [] =
    c.as_slice.ensures.value ∙ c.in_ok-notes.ensures.notes ∙ ap (λ (n : ℕ). clock_put (record { epoch = k.epoch; clock = n }) ∷ ready_ended c.args.join ∷ []) c.max.ensures in
    subst (AreNoteChanges k.server k.servers (G.held k.vault).notes) (sym notes_are)
    (may_apply G k 0 c.args.join c.args.trans c.requires.voted.0 c.requires.voted.1 c.args.stamp.ts c.requires.voted.2 c.requires.up c.requires.ready c.requires.time (G.held k.vault).notes c.in_ok-notes.ensures.fits (c.requires.noted c.requires.up))

pub make-requires-clause-log : goal.make-requires-clause-log
make-requires-clause-log g c l at =
    let k = c.args.self.now in
    let G = g.V.Vault in
    let notes_are : c.as_slice.result.now ≡ clock_put (record { epoch = k.epoch; clock = max k.clock c.args.stamp.ts }) ∷ ready_ended c.args.join ∷ [] =
    c.as_slice.ensures.value ∙ c.in_ok-notes.ensures.notes ∙ ap (λ (n : ℕ). clock_put (record { epoch = k.epoch; clock = n }) ∷ ready_ended c.args.join ∷ []) c.max.ensures in
    subst (HasLogFor (G.held k.vault).notes k.sizes l) (sym notes_are)
    (apply_log G k 0 c.args.join c.args.trans c.requires.voted.0 c.requires.voted.1 c.args.stamp.ts c.requires.voted.2 c.requires.up c.requires.ready c.requires.time (G.held k.vault).notes (c.requires.noted c.requires.up) l at)

pub make-requires-clause-room : goal.make-requires-clause-room
make-requires-clause-room g c =
    let k = c.args.self.now in
    let t = c.args.trans in
    let first : c.push_reserved-2.new.self.items ≡ act.Applied c.args.join c.args.stamp ∷ act.Released t ∷ [] =
    c.push_reserved-2.ensures.items ∙ ap (λ (xs : List Act). xs ++ act.Released t ∷ []) (c.push_reserved.ensures.items ∙ ap (λ (xs : List Act). xs ++ act.Applied c.args.join c.args.stamp ∷ []) c.in_ok-acts.ensures.items) in
    let two : length c.push_reserved-2.new.self.items ≡ 2 = ap (λ (xs : List Act). length xs) first in
    omega (arith, two, c.in_ok-acts.ensures.capacity, c.push_reserved.ensures.capacity, c.push_reserved-2.ensures.capacity, c.waiters.ensures.count)

pub fallen-requires : goal.fallen-requires
fallen-requires g c =
    (let one : length c.push_reserved-3.new.self.items ≡ 1 = ap (λ (xs : List Act). length xs) (c.push_reserved-3.ensures.items ∙ ap (λ (xs : List Act). xs ++ act.Applied c.args.join c.args.stamp ∷ []) c.in_ok-halted.ensures.items) in
    let room = c.in_ok-halted.ensures.capacity in
    let same = c.push_reserved-3.ensures.capacity in
    record { room = omega (arith, one, room, same) })

pub say-requires : goal.say-requires
say-requires g c =
    let k = c.args.self.now in
    let t = c.args.trans in
    let first : c.push_reserved-2.new.self.items ≡ act.Applied c.args.join c.args.stamp ∷ act.Released t ∷ [] =
    c.push_reserved-2.ensures.items ∙ ap (λ (xs : List Act). xs ++ act.Released t ∷ []) (c.push_reserved.ensures.items ∙ ap (λ (xs : List Act). xs ++ act.Applied c.args.join c.args.stamp ∷ []) c.in_ok-acts.ensures.items) in
    let all : length c.make.new.acts.items ≡ length (grant_acts (granted_behind k t)) + 2 = ap (λ (xs : List Act). length xs) (c.in-Ok.ensures.acts ∙ ap (λ (xs : List Act). xs ++ grant_acts (granted_behind k t)) first) ∙ omega arith in
    let few : length (grant_acts (granted_behind k t)) ≤ length k.locks.waiting = granted_few k t c.requires.ready.2.taken in
    record { room = omega (arith, all, few, c.in_ok-acts.ensures.capacity, c.push_reserved.ensures.capacity, c.push_reserved-2.ensures.capacity, c.waiters.ensures.count, c.in-Ok.ensures.capacity) }

-- the server went down in it
pub returns-in-Err : goal.returns-in-Err
returns-in-Err g c from =
    let k = c.args.self.now in
    let G = g.V.Vault in
    let t = c.args.trans in
    let j = c.args.join in
    let time = c.args.stamp.ts in
    let v = c.make.new.self.vault in
    let stamp : Stamp = record { ts = time; trans = t } in
    let named : c.args.stamp ≡ stamp = (λ i. record { ts = time; trans = c.requires.of i }) in
    let p : (l : Live) × (map.get k.lives t ≡ Some l) × (l.join ≡ Some j) = apply_part G k from j t c.requires.voted.0 c.requires.voted.1 time c.requires.voted.2 c.requires.up c.requires.ready c.requires.time in
    let notes_are : c.as_slice.result.now ≡ clock_put (record { epoch = k.epoch; clock = max k.clock time }) ∷ ready_ended j ∷ [] =
    c.as_slice.ensures.value ∙ c.in_ok-notes.ensures.notes ∙ ap (λ (n : ℕ). clock_put (record { epoch = k.epoch; clock = n }) ∷ ready_ended j ∷ []) c.max.ensures in
    let w : Writes G k.vault v p.0.part (clock_put (record { epoch = k.epoch; clock = max k.clock time }) ∷ ready_ended j ∷ []) (Err c.in-Err.fault) = subst (λ (cs : List NoteChange). Writes G k.vault v p.0.part cs (Err c.in-Err.fault)) notes_are (c.in-Err.ensures.writes p.0 p.1) in
    let said : c.push_reserved-3.new.self.items ≡ act.Applied j stamp ∷ [] =
    c.push_reserved-3.ensures.items ∙ ap (λ (xs : List Act). xs ++ act.Applied j c.args.stamp ∷ []) c.in_ok-halted.ensures.items ∙ ap (λ (s : Stamp). act.Applied j s ∷ []) named in
    subst (λ (s : Stamp). IsStepAs G None k c.fallen.new.self (event.Arrive from (msg.Commit t j s)) c.fallen.result) (sym named)
    (fallen_step G k v p.0.part (clock_put (record { epoch = k.epoch; clock = max k.clock time }) ∷ ready_ended j ∷ []) c.requires.up from (msg.Commit t j stamp) (act.Applied j stamp ∷ []) c.in-Err.fault c.fallen.new.self c.fallen.result
    (apply_stop G k from j t c.requires.voted.0 c.requires.voted.1 time c.requires.voted.2 c.requires.up c.requires.ready c.requires.time c.in_ok-notes.ensures.fits v) w
    (has_fallen G k v p.0.part (clock_put (record { epoch = k.epoch; clock = max k.clock time }) ∷ ready_ended j ∷ []) c.requires.up from (msg.Commit t j stamp) (act.Applied j stamp ∷ []) c.make.new.self c.fallen.new.self c.push_reserved-3.new.self.items c.in-Err.fault c.fallen.result c.in-Err.ensures.none said
    c.fallen.ensures.failed c.fallen.ensures.stopped c.fallen.ensures.memory))

-- it is applied
pub returns : goal.returns
returns g c from =
    let k = c.args.self.now in
    let G = g.V.Vault in
    let t = c.args.trans in
    let j = c.args.join in
    let time = c.args.stamp.ts in
    let made = c.make.new.self in
    let v = c.make.new.self.vault in
    let stamp : Stamp = record { ts = time; trans = t } in
    let named : c.args.stamp ≡ stamp = (λ i. record { ts = time; trans = c.requires.of i }) in
    let p : (l : Live) × (map.get k.lives t ≡ Some l) × (l.join ≡ Some j) = apply_part G k from j t c.requires.voted.0 c.requires.voted.1 time c.requires.voted.2 c.requires.up c.requires.ready c.requires.time in
    let changes : List NoteChange = clock_put (record { epoch = k.epoch; clock = max k.clock time }) ∷ ready_ended j ∷ [] in
    let notes_are : c.as_slice.result.now ≡ clock_put (record { epoch = k.epoch; clock = max k.clock time }) ∷ ready_ended j ∷ [] =
    c.as_slice.ensures.value ∙ c.in_ok-notes.ensures.notes ∙ ap (λ (n : ℕ). clock_put (record { epoch = k.epoch; clock = n }) ∷ ready_ended j ∷ []) c.max.ensures in
    let w : Writes G k.vault v p.0.part (clock_put (record { epoch = k.epoch; clock = max k.clock time }) ∷ ready_ended j ∷ []) (Ok tt) = subst (λ (cs : List NoteChange). Writes G k.vault v p.0.part cs (Ok tt)) notes_are (c.in-Ok.ensures.writes p.0 p.1) in
    let m : HasMade (G.tells k.vault) (G.held k.vault).cells k made t = c.in-Ok.ensures.made in
    let js : Joins = c.apply.new.self in
    let joins_same : made.joins ≡ k.joins = ap (λ (s : ServerState _). s.joins) m.kept ∙ ap (λ (s : ServerState _). s.joins) (let_go_of k t) in
    let js_is : js ≡ with_applied k.joins j t = c.apply.ensures.same ∙ (λ i. with_applied (joins_same i) j (c.requires.of i)) in
    let last : ServerState g.row.V.Denot = record made { clock = c.max.result; joins = js } in
    let new : ServerState g.row.V.Denot = record (let_go k t) { lives = eased m.blocks (let_go k t).lives (map.keys k.lives); clock = max k.clock time; coordinator = k.coordinator; joins = js; vault = v } in
    let same : last ≡ new = (λ i. record (m.kept i) { clock = c.max.ensures i; joins = js })
    ∙ (λ i. record (let_go k t) { lives = eased m.blocks (let_go k t).lives (map.keys k.lives); clock = max k.clock time; coordinator = ap (λ (s : ServerState _). s.coordinator) (let_go_of k t) i; joins = js; vault = v }) in
    let first : c.push_reserved-2.new.self.items ≡ act.Applied j stamp ∷ act.Released t ∷ [] =
    c.push_reserved-2.ensures.items ∙ ap (λ (xs : List Act). xs ++ act.Released t ∷ []) (c.push_reserved.ensures.items ∙ ap (λ (xs : List Act). xs ++ act.Applied j c.args.stamp ∷ []) c.in_ok-acts.ensures.items) ∙ ap (λ (s : Stamp). act.Applied j s ∷ act.Released t ∷ []) named in
    let says : said_to last t.server (msg.Done t j) ≡ said_to k t.server (msg.Done t j) = ap (λ (s : ServerState _). said_to s t.server (msg.Done t j)) same ∙ ap (λ (s : ServerState _). said_to s t.server (msg.Done t j)) (let_go_of k t) in
    let acts : c.say.new.acts.items ≡ (act.Applied j stamp ∷ act.Released t ∷ grant_acts (granted_behind k t)) ++ said_to k t.server (msg.Done t j) =
    c.say.ensures ∙ (λ i. c.in-Ok.ensures.acts i ++ says i) ∙ ap (λ (xs : List Act). (xs ++ grant_acts (granted_behind k t)) ++ said_to k t.server (msg.Done t j)) first in
    let so : c.silence.result ≡ told_answer None ((act.Applied j stamp ∷ act.Released t ∷ grant_acts (granted_behind k t)) ++ said_to k t.server (msg.Done t j)) = c.silence.ensures ∙ ap (told_answer None) (c.new.ensures ∙ acts) in
    subst (λ (s : ServerState _). IsStepAs G None k s (event.Arrive from (msg.Commit t j c.args.stamp)) (Ok c.silence.result)) (sym same)
    (subst (λ (s : Stamp). IsStepAs G None k new (event.Arrive from (msg.Commit t j s)) (Ok c.silence.result)) (sym named)
    (written_step G k v p.0.part changes c.requires.up new (event.Arrive from (msg.Commit t j stamp)) c.silence.result ((act.Applied j stamp ∷ act.Released t ∷ grant_acts (granted_behind k t)) ++ said_to k t.server (msg.Done t j)) w
    (apply_come G k from j t c.requires.voted.0 c.requires.voted.1 time c.requires.voted.2 c.requires.up c.requires.ready c.requires.time c.in_ok-notes.ensures.fits v js js_is
    (λ s h. subst (λ (x : Stamp). AreJoinsOf (state_deed s (Applies j x)) js) named (c.apply.ensures.deed s (subst (AreJoinsOf s) (sym joins_same) h))) m.blocks m.opened w c.silence.result so)))
