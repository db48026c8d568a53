use Rattle.std.specs.Prelude.{IsTrue, Result}
use Rattle.std.proofs.Common.{◌≡◌, ℕ, ◌+◌, ◌≤◌, List, [], refl, sym, ap, ◌∙◌, subst}
use Rattle.alp_base.specs.declared.bytes.NoteChange.{NoteChange}
use Rattle.alp_base.specs.declared.faults.Sizes.{Sizes}
use Rattle.alp_calls.proofs.PartLaws.{part_begins, same_change}
use Rattle.alp_files.specs.Changes.{edits_of}
use Rattle.alp_files.specs.Edits.{edits_map}
use Rattle.alp_files.specs.Needs.{Intents, no_intents}
use Rattle.alp_trans.specs.Parts.{change_of}
use Rattle.alp_trans.specs.declared.counts.Counts.{Counts}
use Rattle.alp_vault.specs.Volumes.{AreNoteChanges, IsVolumeOf, commit_bytes, live_bytes, record_pages}
use Rattle.alp_node.specs.Noting.{HasRoomFor}
use Rattle.alp_node.proofs.server_state.ServerState.note.Goals as goal

pub store-requires-clause-part : goal.store-requires-clause-part
store-requires-clause-part g c = part_begins c.new-part.result c.new-part.ensures.intents c.new-part.ensures.counts

pub store-requires-clause-noted : goal.store-requires-clause-noted
store-requires-clause-noted g c =
    let k = c.args.self.now in
    let G = g.V.Vault in
    subst (λ (n : ℕ). AreNoteChanges n (G.servers k.vault) (G.held k.vault).notes c.args.notes.now) (sym c.requires.on.server)
    (subst (λ (n : ℕ). AreNoteChanges k.server n (G.held k.vault).notes c.args.notes.now) (sym c.requires.on.servers) c.requires.changes)

pub store-requires-clause-log : goal.store-requires-clause-log
store-requires-clause-log g c =
    let k = c.args.self.now in
    let notes = (g.V.Vault.held k.vault).notes in
    subst (λ (n : Counts). record_pages (live_bytes notes) + record_pages (commit_bytes n.cells c.args.notes.now) ≤ (g.V.Vault.volume k.vault).area) (sym c.new-part.ensures.counts)
    (subst (λ (s : Sizes). HasRoomFor notes s c.args.notes.now) c.requires.on.sizes c.requires.log)

pub store-requires-clause-room : goal.store-requires-clause-room
store-requires-clause-room g c told =
    let k = c.args.self.now in
    let G = g.V.Vault in
    subst (IsVolumeOf (G.volume k.vault)) (sym (same_change (G.held k.vault).cells c.new-part.result [] c.new-part.ensures.intents))
    (c.knows.ensures.fitting (G.held k.vault) told (c.knows.ensures.as_held told c.requires.serving))

pub returns-clause-writes : goal.returns-clause-writes
returns-clause-writes g c = record {
  part = c.new-part.result;
  idle = c.new-part.ensures.intents;
  writes = record {
    same = c.store.ensures.kept;
    cells = c.store.ensures.cells;
    notes = c.store.ensures.notes;
    leaves = c.store.ensures.leaves;
    memory = c.store.ensures.memory;
    spends = c.store.ensures.allowance;
    ended = c.store.ensures.ended;
  };
}
