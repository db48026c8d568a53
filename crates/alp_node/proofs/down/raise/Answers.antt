use Rattle.std.specs.Prelude.{Err}
use Rattle.std.proofs.Common.{◌≡◌, ℕ, ◌+◌, ◌≤◌, [], ◌∷◌, arith, refl, ap, sym, ◌∙◌, subst}
use Rattle.alp_base.specs.declared.faults.Sizes.{Sizes}
use Rattle.alp_base.specs.declared.faults.VaultFault.TheVariants as vault_fault
use Rattle.alp_calls.specs.Looks.{IsLeft}
use Rattle.alp_fields.specs.ClockNote.{clock_form}
use Rattle.alp_fields.specs.declared.clock_note.ClockNote.{ClockNote}
use Rattle.alp_vault.specs.Contents.{Contents}
use Rattle.alp_vault.specs.Volumes.{AreNoteChanges, record_pages, live_bytes, commit_bytes}
use Rattle.alp_node.specs.Starts.{PutsClock}
use Rattle.alp_node.specs.Writes.{clock_put}
use Rattle.alp_node.specs.declared.stored.StoreFault.{StoreFault}
use Rattle.alp_node.specs.declared.stored.StoreFault.TheVariants as store_fault
use Rattle.alp_node.proofs.ClockLaws.{time_fits}
use Rattle.alp_node.proofs.FoundReady.{raise_changes, raise_room}
use Rattle.alp_node.proofs.RaiseLemmas.{no_next, not_found, raised_whole, not_raised, not_written, next_later}
use Rattle.alp_node.proofs.down.raise.Goals as goal

pub find_all-requires : goal.find_all-requires
find_all-requires g c = record { serving = c.requires.serving }

pub put_clock-requires-clause-serving : goal.put_clock-requires-clause-serving
put_clock-requires-clause-serving g c = c.in-Ok-find_all.ensures.looked.1

pub put_clock-requires-clause-time : goal.put_clock-requires-clause-time
put_clock-requires-clause-time g c = c.in-Ok.ensures.within

pub put_clock-requires-clause-noted : goal.put_clock-requires-clause-noted
put_clock-requires-clause-noted g c =
    let G = g.V.Vault in
    let old = c.args.vault in
    let held : Contents = G.held old in
    let k : ClockNote = c.in-Ok.clock in
    let e = c.in-Ok-find_all.ensures in
    let left : IsLeft G old c.find_all.new.vault = e.looked.0 in
    let at : k.epoch ≡ c.args.last + 1 = ap (λ (x : ClockNote). x.epoch) c.in-Ok.ensures.next in
    let low = c.requires.low in
    let fits : clock_form.Fits k = time_fits k (omega (arith, at, low)) c.in-Ok.ensures.within in
    let own : AreNoteChanges c.args.of.0 c.args.of.1 held.notes (clock_put k ∷ []) =
    raise_changes (G.tells old) c.args.of.0 c.args.of.1 (G.volume old).area (G.volume old) k.epoch k.clock held.cells held.notes e.notes (next_later c.args.last held k c.in-Ok.ensures.next) c.in-Ok-find_all.found.lives c.in-Ok-find_all.found.locks
    c.in-Ok-find_all.found.joins c.in-Ok-find_all.found.coordinator e.found.found fits in
    subst (λ (x : Contents). AreNoteChanges (G.server c.find_all.new.vault) (G.servers c.find_all.new.vault) x.notes (clock_put k ∷ [])) (sym left.contents)
    (subst (λ (n : ℕ). AreNoteChanges (G.server c.find_all.new.vault) n held.notes (clock_put k ∷ [])) (sym (left.same.of_all ∙ c.requires.number.1))
    (subst (λ (n : ℕ). AreNoteChanges n c.args.of.1 held.notes (clock_put k ∷ [])) (sym (left.same.number ∙ c.requires.number.0)) own))

pub put_clock-requires-clause-log : goal.put_clock-requires-clause-log
put_clock-requires-clause-log g c =
    let G = g.V.Vault in
    let old = c.args.vault in
    let held : Contents = G.held old in
    let k : ClockNote = c.in-Ok.clock in
    let e = c.in-Ok-find_all.ensures in
    let left : IsLeft G old c.find_all.new.vault = e.looked.0 in
    subst (λ (x : Contents). record_pages (live_bytes x.notes) + record_pages (commit_bytes 0 (clock_put k ∷ [])) ≤ (G.volume c.find_all.new.vault).area) (sym left.contents)
    (subst (λ (s : Sizes). record_pages (live_bytes held.notes) + record_pages (commit_bytes 0 (clock_put k ∷ [])) ≤ s.area) (sym left.same.sizes)
    (raise_room (G.tells old) c.args.of.0 c.args.of.1 (G.volume old).area (G.volume old) k.epoch k.clock held.cells held.notes e.notes (next_later c.args.last held k c.in-Ok.ensures.next) c.in-Ok-find_all.found.lives c.in-Ok-find_all.found.locks
    c.in-Ok-find_all.found.joins c.in-Ok-find_all.found.coordinator e.found.found))

pub returns-in-Err : goal.returns-in-Err
returns-in-Err g c = no_next g.V.Vault c.args.of.0 c.args.of.1 c.args.last c.args.vault c.rested.result c.in-Err.fault c.requires.serving (λ told. c.knows.ensures.as_held told c.requires.serving) c.rested.ensures c.in-Err.ensures

pub returns-in-Err-find_all : goal.returns-in-Err-find_all
returns-in-Err-find_all g c =
    not_found g.V.Vault c.args.of.0 c.args.of.1 c.args.last c.in-Ok.clock.epoch c.args.vault c.find_all.new.vault c.rested-in-Err-find_all.result c.in-Err-find_all.fault (ap (λ (x : ClockNote). x.epoch) c.in-Ok.ensures.next) c.requires.number.0 c.requires.number.1 c.requires.free
    (λ told. c.knows.ensures.as_held told c.requires.serving) c.rested-in-Err-find_all.ensures c.in-Err-find_all.ensures.looked c.in-Err-find_all.ensures.cause

pub returns-in-Err-OutOfMemory : goal.returns-in-Err-OutOfMemory
returns-in-Err-OutOfMemory g c =
    let G = g.V.Vault in
    let old = c.args.vault in
    let e = c.in-Ok-find_all.ensures in
    let left : IsLeft G old c.find_all.new.vault = e.looked.0 in
    not_written G c.args.of.0 c.args.of.1 c.args.last old c.find_all.new.vault c.put_clock.new.vault c.in-Ok.clock c.requires.low c.in-Ok.ensures (λ told. c.knows.ensures.as_held told c.requires.serving) left e.looked.2 c.requires.free e.notes
    c.rested-in-Err-OutOfMemory.result c.in-Err-OutOfMemory.field-0 c.in-Err-OutOfMemory.field-0-is c.in-Err-OutOfMemory.ensures c.rested-in-Err-OutOfMemory.ensures

pub returns-in-Err-Failed : goal.returns-in-Err-Failed
returns-in-Err-Failed g c =
    let G = g.V.Vault in
    let old = c.args.vault in
    let e = c.in-Ok-find_all.ensures in
    let left : IsLeft G old c.find_all.new.vault = e.looked.0 in
    let put : PutsClock G c.find_all.new.vault c.put_clock.new.vault c.in-Ok.clock (Err store_fault.Failed) =
    subst (λ (f : StoreFault). PutsClock G c.find_all.new.vault c.put_clock.new.vault c.in-Ok.clock (Err f)) c.in-Err-Failed.field-0-is c.in-Err-Failed.ensures in
    not_raised G c.args.of.0 c.args.of.1 c.args.last old c.find_all.new.vault c.put_clock.new.vault c.in-Ok.clock c.requires.low c.in-Ok.ensures (λ told. c.knows.ensures.as_held told c.requires.serving) left e.looked.2 c.requires.free e.notes
    store_fault.Failed vault_fault.Failed put put.ended.0 (λ e. refl) (λ e. cc) (λ e. cc) tt

pub returns : goal.returns
returns g c =
    let G = g.V.Vault in
    let old = c.args.vault in
    let e = c.in-Ok-find_all.ensures in
    let left : IsLeft G old c.find_all.new.vault = e.looked.0 in
    let put : PutsClock G c.find_all.new.vault c.put_clock.new.vault c.in-Ok.clock (Err store_fault.Stopped) =
    subst (λ (f : StoreFault). PutsClock G c.find_all.new.vault c.put_clock.new.vault c.in-Ok.clock (Err f)) c.in-Err-Stopped.field-0-is c.in-Err-Stopped.ensures in
    not_raised G c.args.of.0 c.args.of.1 c.args.last old c.find_all.new.vault c.put_clock.new.vault c.in-Ok.clock c.requires.low c.in-Ok.ensures (λ told. c.knows.ensures.as_held told c.requires.serving) left e.looked.2 c.requires.free e.notes
    store_fault.Stopped vault_fault.Stopped put put.ended.0 (λ e. cc) (λ e. refl) (λ e. cc) tt

pub returns-in-Ok-put_clock : goal.returns-in-Ok-put_clock
returns-in-Ok-put_clock g c =
    let G = g.V.Vault in
    let old = c.args.vault in
    let e = c.in-Ok-find_all.ensures in
    let left : IsLeft G old c.find_all.new.vault = e.looked.0 in
    raised_whole G c.args.of.0 c.args.of.1 c.args.last old c.find_all.new.vault c.put_clock.new.vault c.in-Ok.clock c.requires.low c.in-Ok.ensures (λ told. c.knows.ensures.as_held told c.requires.serving) left e.looked.2 c.requires.free e.notes
    c.in-Ok-find_all.found e.found e.together c.in-Ok-put_clock.ensures
