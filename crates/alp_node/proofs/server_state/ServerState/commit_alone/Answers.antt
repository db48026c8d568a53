use Rattle.std.specs.Prelude.{true, None, Some}
use Rattle.std.specs.FinMap as map
use Rattle.std.proofs.Common.{◌≡◌, ℕ, ◌+◌, ◌^◌, ◌<◌, ◌≤◌, List, [], length, refl, sym, ap, ◌∙◌, subst, arith}
use Rattle.alp_base.specs.declared.ids.Stamp.{Stamp}
use Rattle.alp_files.specs.declared.refusal.Refusal.TheVariants as refusal
use Rattle.alp_files.specs.declared.reply.Reply.TheVariants as reply
use Rattle.alp_vault.specs.Volumes.{AreNoteChanges}
use Rattle.alp_files.specs.declared.call.Call.TheVariants as call
use Rattle.alp_journal.specs.declared.act.Act.{Act}
use Rattle.alp_journal.specs.declared.event.Event.TheVariants as event
use Rattle.alp_journal.specs.Coordinator.{Fate, Running, has_votes, votes_in}
use Rattle.alp_journal.specs.Coordinator as fate
use Rattle.alp_journal.specs.Laws.{latest_vote}
use Rattle.alp_coord.specs.Coordinators.{fate_in}
use Rattle.alp_node.specs.Steps.{refused_answer, told_answer}
use Rattle.alp_node.specs.Writes.{HasLogFor, IsPending, WasDecided}
use Rattle.alp_node.specs.declared.decide.Decided.{Decided}
use Rattle.alp_node.specs.declared.lives.Live.{Live}
use Rattle.alp_node.specs.declared.server_state.ServerState.{ServerState}
use Rattle.alp_node.proofs.AloneCommits.{alone_changes, alone_log, alone_runs, halted_step, made_step, none_result}
use Rattle.alp_node.proofs.CommitLemmas.{own_early}
use Rattle.alp_node.proofs.StandingLemmas.{WorksHere, works_here}
use Rattle.alp_node.proofs.server_state.ServerState.commit_alone.Goals as goal

pub decision-requires-clause-time : goal.decision-requires-clause-time
decision-requires-clause-time g c = (let early : c.args.self.now.clock < 2 ^ 62 = own_early c.args.self.now c.args.trans c.requires.may in omega (arith, early))

pub decide-requires-clause-live : goal.decide-requires-clause-live
decide-requires-clause-live g c none =
    let k = c.args.self.now in
    let mine : WorksHere k c.args.turn.now.client c.args.trans = works_here c.requires.ready.0 (g.V.Vault.serves k.vault) k c.requires.ready.2 c.args.turn.now.client c.args.trans c.requires.works in
    let wrong : None ≡ Some mine.live = sym none ∙ ap (λ (s : Stamp). map.get k.lives s.trans) c.in_ok-pending.ensures.stamp ∙ mine.there in
    cc

pub decide-requires-clause-voted : goal.decide-requires-clause-voted
decide-requires-clause-voted g c =
    let k = c.args.self.now in
    let runs : fate_in k.coordinator c.args.trans ≡ Running c.args.turn.now.client [] = alone_runs k c.args.turn.now.client c.args.trans c.requires.here c.requires.works c.requires.alone in
    ap (λ (s : Stamp). has_votes (fate.finishing (fate_in k.coordinator s.trans))) c.in_ok-pending.ensures.stamp ∙ ap (λ (f : Fate). has_votes (fate.finishing f)) runs

pub decide-requires-clause-late : goal.decide-requires-clause-late
decide-requires-clause-late g c =
    let k = c.args.self.now in
    let runs : fate_in k.coordinator c.args.trans ≡ Running c.args.turn.now.client [] = alone_runs k c.args.turn.now.client c.args.trans c.requires.here c.requires.works c.requires.alone in
    let none : latest_vote 0 (votes_in (fate.finishing (fate_in k.coordinator c.in_ok-pending.pending.stamp.trans))) ≡ 0 =
    ap (λ (s : Stamp). latest_vote 0 (votes_in (fate.finishing (fate_in k.coordinator s.trans)))) c.in_ok-pending.ensures.stamp ∙ ap (λ (f : Fate). latest_vote 0 (votes_in (fate.finishing f))) runs in
    omega (arith, none)

pub decide-requires-clause-changes : goal.decide-requires-clause-changes
decide-requires-clause-changes g c =
    let k = c.args.self.now in
    let G = g.V.Vault in
    let t = c.args.trans in
    let mine : WorksHere k c.args.turn.now.client t = works_here c.requires.ready.0 (G.serves k.vault) k c.requires.ready.2 c.args.turn.now.client t c.requires.works in
    subst (AreNoteChanges k.server k.servers (G.held k.vault).notes) (sym c.in_ok-pending.ensures.notes)
    (alone_changes c.requires.ready.0 (G.serves k.vault) k t mine.live c.requires.ready.2 c.requires.may mine.there (G.held k.vault).notes (c.requires.noted c.requires.up))

pub decide-requires-clause-log : goal.decide-requires-clause-log
decide-requires-clause-log g c l at =
    let k = c.args.self.now in
    let G = g.V.Vault in
    let t = c.args.trans in
    subst (HasLogFor (G.held k.vault).notes k.sizes l) (sym c.in_ok-pending.ensures.notes)
    (alone_log c.requires.ready.0 (G.serves k.vault) k t l c.requires.ready.2 c.requires.may (sym (ap (λ (s : Stamp). map.get k.lives s.trans) c.in_ok-pending.ensures.stamp) ∙ at) (G.held k.vault).notes (c.requires.noted c.requires.up))

pub decide-requires-clause-room : goal.decide-requires-clause-room
decide-requires-clause-room g c =
    let two : length c.in_ok-pending.pending.acts.items ≡ 2 = ap (λ (xs : List Act). length xs) c.in_ok-pending.ensures.acts in
    let room = c.in_ok-pending.ensures.room in
    omega (arith, two, room)

pub decide-requires-clause-place : goal.decide-requires-clause-place
decide-requires-clause-place g c =
    let one : length c.in_ok-pending.pending.halted.items ≡ 1 = ap (λ (xs : List Act). length xs) c.in_ok-pending.ensures.halted in
    let place = c.in_ok-pending.ensures.place in
    omega (arith, one, place)

-- the server went down in it
pub returns-in-Halted : goal.returns-in-Halted
returns-in-Halted g c =
    let k = c.args.self.now in
    let G = g.V.Vault in
    let t = c.args.trans in
    let turn = c.args.turn.now in
    let mine : WorksHere k turn.client t = works_here c.requires.ready.0 (G.serves k.vault) k c.requires.ready.2 turn.client t c.requires.works in
    halted_step G c.requires.ready.0 k turn t mine.live c.requires.ready.2 c.requires.turn c.requires.up c.requires.here mine.there mine.own (alone_runs k turn.client t c.requires.here c.requires.works c.requires.alone) c.requires.idle c.requires.may c.requires.journal
    c.in_ok-pending.pending c.in_ok-pending.ensures c.decide.new.self c.in-Halted.acts.items c.refused.result (subst (λ (d : Decided). WasDecided G k c.decide.new.self c.in_ok-pending.pending d) c.in-Halted.is c.in_ok-acts.ensures.made) (c.refused.ensures ∙ ap (refused_answer refusal.Down) c.new.ensures)

-- it is decided
pub returns : goal.returns
returns g c =
    let k = c.args.self.now in
    let G = g.V.Vault in
    let t = c.args.trans in
    let turn = c.args.turn.now in
    let mine : WorksHere k turn.client t = works_here c.requires.ready.0 (G.serves k.vault) k c.requires.ready.2 turn.client t c.requires.works in
    let stamp : Stamp = record { ts = k.clock + 1; trans = t } in
    let dec = c.decide.new.self in
    let new : ServerState g.row.V.Denot = record dec { sessions = c.count.new.self } in
    made_step G c.requires.ready.0 k turn t mine.live c.requires.ready.2 c.requires.turn c.requires.up c.requires.here mine.there mine.own (alone_runs k turn.client t c.requires.here c.requires.works c.requires.alone) c.requires.idle c.requires.may c.requires.journal
    c.in_ok-pending.pending c.in_ok-pending.ensures dec new c.in-Made.acts.items c.committed.result (subst (λ (d : Decided). WasDecided G k c.decide.new.self c.in_ok-pending.pending d) c.in-Made.is c.in_ok-acts.ensures.made) (λ i. record dec { sessions = c.count.ensures i }) (c.committed.ensures ∙ ap (told_answer (Some (reply.Committed stamp))) c.new-2.ensures)

pub returns-in_err-acts : goal.returns-in_err-acts
returns-in_err-acts g c =
    let k = c.args.self.now in
    let G = g.V.Vault in
    let t = c.args.trans in
    let turn = c.args.turn.now in
    let mine : WorksHere k turn.client t = works_here c.requires.ready.0 (G.serves k.vault) k c.requires.ready.2 turn.client t c.requires.works in
    let e = event.Call turn.client k.epoch turn.number (call.Finish t true) in
    none_result G k c.decide.new.self c.in_ok-pending.pending mine.live e c.from_residual-in_err-acts.result (ap (λ (s : Stamp). map.get k.lives s.trans) c.in_ok-pending.ensures.stamp ∙ mine.there) c.requires.up c.in_err-acts.ensures.none c.from_residual-in_err-acts.ensures.0
