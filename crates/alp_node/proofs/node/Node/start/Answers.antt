use Rattle.std.specs.Prelude.{Ok, Err, IsTrue}
use Rattle.std.specs.FinMap as map
use Rattle.std.proofs.Common.{◌≡◌, ℕ, ◌+◌, [], ◌∷◌, ◌<◌, ◌^◌, ◌≤◌, sym, ◌∙◌, ap, subst}
use Rattle.alp_base.specs.Crashes.{Only}
use Rattle.alp_base.specs.declared.faults.Sizes.{Sizes}
use Rattle.alp_calls.specs.Looks.{IsLeft, Looks, fault_in}
use Rattle.alp_fields.specs.ClockNote.{clock_name, clock_form, clock_kept}
use Rattle.alp_fields.specs.declared.clock_note.ClockNote.{ClockNote}
use Rattle.alp_base.specs.Allowances.{Spends}
use Rattle.alp_vault.specs.Vault.{IsSameVault}
use Rattle.alp_node.specs.declared.found.Found.{Found}
use Rattle.alp_vault.specs.Contents.{Contents}
use Rattle.alp_vault.specs.Volumes.{AreNoteChanges, record_pages, live_bytes, commit_bytes}
use Rattle.alp_node.specs.Found.{HasBegun, look_in}
use Rattle.alp_regain.specs.Together.{AreNotesTogether, AreTogether}
use Rattle.alp_node.specs.Durable.{Leaves}
use Rattle.alp_node.specs.Starts.{HasRaised, epoch_after, IsKeptOrRaised, PutsClock}
use Rattle.alp_node.specs.Writes.{clock_put}
use Rattle.alp_node.proofs.ClockLaws.{time_fits}
use Rattle.alp_node.proofs.FoundReady.{raise_changes, raise_room}
use Rattle.alp_node.proofs.StartLemmas.{before_less, raised_some, raised_next, raised_within, raised_last, kept_leaves, looked_leaves, raised_leaves, looks_left, left_spends, look_cause, look_memory, look_noted, found_of, put_cause, put_memory}
use Rattle.alp_node.proofs.StartMade.{start_consistent, start_new}
use Rattle.alp_node.proofs.node.Node.start.Goals as goal

pub put_clock-requires-clause-serving : goal.put_clock-requires-clause-serving
put_clock-requires-clause-serving g c = c.in-Ok-find_all.ensures.looked.1

pub put_clock-requires-clause-time : goal.put_clock-requires-clause-time
put_clock-requires-clause-time g c = raised_within (g.V.Vault.held c.args.vault) c.in-Ok.clock c.in-Ok.ensures.clock

pub put_clock-requires-clause-noted : goal.put_clock-requires-clause-noted
put_clock-requires-clause-noted g c =
    let G = g.V.Vault in
    let old = c.args.vault in
    let held : Contents = G.held old in
    let k : ClockNote = c.in-Ok.clock in
    let e = c.in-Ok-find_all.ensures in
    let left : IsLeft G old c.find_all.new.vault = e.looked.0 in
    let next = c.in-Ok.ensures.clock in
    let fits : clock_form.Fits k = time_fits k (raised_last held k next) (raised_within held k next) in
    let own : AreNoteChanges c.args.server c.args.servers held.notes (clock_put k ∷ []) =
    raise_changes (G.tells old) c.args.server c.args.servers (G.volume old).area (G.volume old) k.epoch k.clock held.cells held.notes e.notes (before_less (clock_kept held.notes).epoch k.epoch (raised_some held k next)) c.in-Ok-find_all.found.lives c.in-Ok-find_all.found.locks
    c.in-Ok-find_all.found.joins c.in-Ok-find_all.found.coordinator e.found.found fits in
    subst (λ (x : Contents). AreNoteChanges (G.server c.find_all.new.vault) (G.servers c.find_all.new.vault) x.notes (clock_put k ∷ [])) (sym left.contents)
    (subst (λ (n : ℕ). AreNoteChanges (G.server c.find_all.new.vault) n held.notes (clock_put k ∷ [])) (sym (left.same.of_all ∙ c.requires.server.1))
    (subst (λ (n : ℕ). AreNoteChanges n c.args.servers held.notes (clock_put k ∷ [])) (sym (left.same.number ∙ c.requires.server.0)) own))

pub put_clock-requires-clause-log : goal.put_clock-requires-clause-log
put_clock-requires-clause-log g c =
    let G = g.V.Vault in
    let old = c.args.vault in
    let held : Contents = G.held old in
    let k : ClockNote = c.in-Ok.clock in
    let e = c.in-Ok-find_all.ensures in
    let left : IsLeft G old c.find_all.new.vault = e.looked.0 in
    let next = c.in-Ok.ensures.clock in
    subst (λ (x : Contents). record_pages (live_bytes x.notes) + record_pages (commit_bytes 0 (clock_put k ∷ [])) ≤ (G.volume c.find_all.new.vault).area) (sym left.contents)
    (subst (λ (s : Sizes). record_pages (live_bytes held.notes) + record_pages (commit_bytes 0 (clock_put k ∷ [])) ≤ s.area) (sym left.same.sizes)
    (raise_room (G.tells old) c.args.server c.args.servers (G.volume old).area (G.volume old) k.epoch k.clock held.cells held.notes e.notes (before_less (clock_kept held.notes).epoch k.epoch (raised_some held k next)) c.in-Ok-find_all.found.lives c.in-Ok-find_all.found.locks
    c.in-Ok-find_all.found.joins c.in-Ok-find_all.found.coordinator e.found.found))

pub find_all-requires : goal.find_all-requires
find_all-requires g c = record { serving = c.requires.serving }

pub invariant_of-result : goal.invariant_of-result
invariant_of-result g c =
    let G = g.V.Vault in
    let old = c.args.vault in
    let mid = c.find_all.new.vault in
    let v = c.put_clock.new.vault in
    let w = c.begun-kept.result.0.vault in
    let e = c.in-Ok-find_all.ensures in
    let b = c.begun-kept.ensures.kept in
    let same : v ≡ w = sym b.vault in
    let put : PutsClock G mid v c.in-Ok.clock (Ok tt) = c.in_default.ensures in
    start_consistent G c.args.server c.args.servers old mid c.in-Ok.clock c.in-Ok-find_all.found (record { opening = record { vault = c.of.result }; kept = c.begun-kept.result.0; journal = c.new.result }) e.looked.0 c.in-Ok.ensures.clock e.notes e.found
    (subst (λ (x : g.row.V.Denot). PutsClock G mid x c.in-Ok.clock (Ok tt)) same put)
    (subst (λ (x : g.row.V.Denot). HasBegun (G.volume x) c.args.server c.args.servers c.in-Ok.clock c.in-Ok-find_all.found x c.begun-kept.result.0) same b) c.of.ensures c.new.ensures c.requires.server.0 c.requires.server.1
    c.knows.ensures.limits.area_least (subst (λ (x : g.row.V.Denot). IsTrue (G.serves x)) same put.ended.0) e.together (λ told. c.knows.ensures.fitting (G.held old) told (c.knows.ensures.as_held told c.requires.serving)) c.requires.given
    (subst (λ (x : g.row.V.Denot). IsTrue (G.tells x) → Only (G.held x) (G.may_leave x)) same (λ tells. c.knows-2.ensures.settled tells put.ended.0))

pub returns-clause-raised : goal.returns-clause-raised
returns-clause-raised g c =
    let G = g.V.Vault in
    let old = c.args.vault in
    let e = c.in-Ok-find_all.ensures in
    let b = c.begun-kept.ensures.kept in
    let k : ClockNote = c.in-Ok.clock in
    let left : IsLeft G old c.find_all.new.vault = e.looked.0 in
    let put : PutsClock G c.find_all.new.vault c.put_clock.new.vault k (Ok tt) = c.in_default.ensures in
    let after : k.epoch ≡ epoch_after (G.held old) = raised_next (G.held old) k c.in-Ok.ensures.clock in
    let stands : k ≡ record { epoch = c.begun-kept.result.0.epoch; clock = c.begun-kept.result.0.clock } = (λ i. record { epoch = sym b.epoch i; clock = sym b.time i }) in
    subst (HasRaised (G.tells old) (G.server old) (G.servers old) (G.volume old) (G.held old) (G.held c.begun-kept.result.0.vault)) stands
    (subst (λ (x : g.row.V.Denot). HasRaised (G.tells old) (G.server old) (G.servers old) (G.volume old) (G.held old) (G.held x) k) (sym b.vault)
    (record {
      alone = subst (λ (n : ℕ). AreNotesTogether n (G.servers old) (epoch_after (G.held old)) (G.volume old).area (G.held old).notes) (sym c.requires.server.0)
          (subst (λ (n : ℕ). AreNotesTogether c.args.server n (epoch_after (G.held old)) (G.volume old).area (G.held old).notes) (sym c.requires.server.1)
          (subst (λ (n : ℕ). AreNotesTogether c.args.server c.args.servers n (G.volume old).area (G.held old).notes) after e.notes));
      together = λ told. subst (λ (n : ℕ). AreTogether n (G.servers old) (epoch_after (G.held old)) (G.volume old) (G.held old).cells (G.held old).notes) (sym c.requires.server.0)
          (subst (λ (n : ℕ). AreTogether c.args.server n (epoch_after (G.held old)) (G.volume old) (G.held old).cells (G.held old).notes) (sym c.requires.server.1)
          (subst (λ (n : ℕ). AreTogether c.args.server c.args.servers n (G.volume old) (G.held old).cells (G.held old).notes) after (e.together told)));
      next = c.in-Ok.ensures.clock;
      cells = λ told. put.cells (subst IsTrue (sym left.same.telling) told) ∙ ap (λ (x : Contents). x.cells) left.contents;
      notes = put.notes ∙ ap (λ (x : Contents). map.insert x.notes clock_name (clock_form.spell k)) left.contents;
    }))

pub returns-clause-new : goal.returns-clause-new
returns-clause-new g c =
    let G = g.V.Vault in
    let old = c.args.vault in
    let mid = c.find_all.new.vault in
    let v = c.put_clock.new.vault in
    let w = c.begun-kept.result.0.vault in
    let e = c.in-Ok-find_all.ensures in
    let b = c.begun-kept.ensures.kept in
    let same : v ≡ w = sym b.vault in
    let put : PutsClock G mid v c.in-Ok.clock (Ok tt) = c.in_default.ensures in
    start_new G c.args.server c.args.servers old mid c.in-Ok.clock c.in-Ok-find_all.found (record { opening = record { vault = c.of.result }; kept = c.begun-kept.result.0; journal = c.new.result }) e.looked.0 c.in-Ok.ensures.clock e.notes e.found
    (subst (λ (x : g.row.V.Denot). PutsClock G mid x c.in-Ok.clock (Ok tt)) same put)
    (subst (λ (x : g.row.V.Denot). HasBegun (G.volume x) c.args.server c.args.servers c.in-Ok.clock c.in-Ok-find_all.found x c.begun-kept.result.0) same b) c.of.ensures c.new.ensures c.requires.server.0 c.requires.server.1

pub returns-clause-crash : goal.returns-clause-crash
returns-clause-crash g c told =
    let G = g.V.Vault in
    let old = c.args.vault in
    let e = c.in-Ok-find_all.ensures in
    let left : IsLeft G old c.find_all.new.vault = e.looked.0 in
    let put : PutsClock G c.find_all.new.vault c.put_clock.new.vault c.in-Ok.clock (Ok tt) = c.in_default.ensures in
    subst (λ (x : g.row.V.Denot). Leaves G old x (IsKeptOrRaised (G.held old))) (sym c.begun-kept.ensures.kept.vault)
    (raised_leaves G old (c.knows.ensures.settled told c.requires.serving) c.find_all.new.vault c.put_clock.new.vault c.in-Ok.clock left c.in-Ok.ensures.clock (put.leaves (subst IsTrue (sym left.same.telling) told)))

pub returns-clause-same : goal.returns-clause-same
returns-clause-same g c =
    let G = g.V.Vault in
    let left : IsLeft G c.args.vault c.find_all.new.vault = c.in-Ok-find_all.ensures.looked.0 in
    let put : PutsClock G c.find_all.new.vault c.put_clock.new.vault c.in-Ok.clock (Ok tt) = c.in_default.ensures in
    subst (IsSameVault G.tells G.volume G.server G.servers c.args.vault) (sym c.begun-kept.ensures.kept.vault) (record {
      telling = put.same.telling ∙ left.same.telling;
      sizes = put.same.sizes ∙ left.same.sizes;
      number = put.same.number ∙ left.same.number;
      of_all = put.same.of_all ∙ left.same.of_all;
    })

pub returns-clause-allowance : goal.returns-clause-allowance
returns-clause-allowance g c =
    let G = g.V.Vault in
    let put : PutsClock G c.find_all.new.vault c.put_clock.new.vault c.in-Ok.clock (Ok tt) = c.in_default.ensures in
    subst (λ (x : g.row.V.Denot). Spends (G.allowance c.args.vault) (G.allowance x)) (sym c.begun-kept.ensures.kept.vault)
    (left_spends G c.args.vault c.find_all.new.vault (G.allowance c.put_clock.new.vault) c.in-Ok-find_all.ensures.looked.0 put.spends)

pub returns-clause-counted : goal.returns-clause-counted
returns-clause-counted g c =
    let G = g.V.Vault in
    let put : PutsClock G c.find_all.new.vault c.put_clock.new.vault c.in-Ok.clock (Ok tt) = c.in_default.ensures in
    ap G.faults c.begun-kept.ensures.kept.vault ∙ put.ended.1 ∙ c.in-Ok-find_all.ensures.looked.2

pub returns-in-Err-clause-crash : goal.returns-in-Err-clause-crash
returns-in-Err-clause-crash g c told = kept_leaves g.V.Vault c.args.vault (c.knows.ensures.settled told c.requires.serving)

pub returns-in-Err-find_all-clause-crash : goal.returns-in-Err-find_all-clause-crash
returns-in-Err-find_all-clause-crash g c told =
    let G = g.V.Vault in
    looked_leaves G c.args.vault (c.knows.ensures.settled told c.requires.serving) c.find_all.new.vault (looks_left G c.args.vault c.find_all.new.vault (look_in {T = Found} (Err c.in-Err-find_all.fault)) c.in-Err-find_all.ensures.looked)

pub returns-in-Err-find_all-clause-cause : goal.returns-in-Err-find_all-clause-cause
returns-in-Err-find_all-clause-cause g c =
    let G = g.V.Vault in
    let old = c.args.vault in
    look_cause G old c.find_all.new.vault c.in-Err-find_all.fault
    (found_of (G.tells old) (G.server old) (G.servers old) c.args.server c.args.servers c.in-Ok.clock.epoch (epoch_after (G.held old)) (G.volume old) (G.held old) c.in-Err-find_all.fault c.requires.server.0 c.requires.server.1 (raised_next (G.held old) c.in-Ok.clock c.in-Ok.ensures.clock)
    c.in-Err-find_all.ensures.cause)
    c.in-Err-find_all.ensures.looked

pub returns-in-Err-put_clock-clause-cause : goal.returns-in-Err-put_clock-clause-cause
returns-in-Err-put_clock-clause-cause g c =
    let G = g.V.Vault in
    let looked = c.in-Ok-find_all.ensures.looked in
    let put : PutsClock G c.find_all.new.vault c.put_clock.new.vault c.in-Ok.clock (Err c.in-Err-put_clock.fault) = c.in-Err-put_clock.ensures in
    let by = put_cause G c.args.vault c.find_all.new.vault c.put_clock.new.vault looked.0 looked.2 c.in-Err-put_clock.fault c.vault_fault.result c.vault_fault.ensures.failed c.vault_fault.ensures.stopped put.ended in
    (by.0, c.vault_fault.ensures.volume, by.1)
