use Rattle.std.specs.Prelude.{Ok, Err, Option, IsTrue}
use Rattle.std.specs.List.{filter_map, cons_option}
use Rattle.std.proofs.Common.{◌≡◌, ℕ, [], ◌++◌, refl, sym, ◌∙◌, ap, subst, append-nil}
use Rattle.std.proofs.lemmas.List.{take_all}
use Rattle.std.specs.FinMap as map
use Rattle.alp_base.specs.declared.key.Key.TheVariants.{OwnerOf}
use Rattle.alp_files.specs.Cells.{Cells, owner_in}
use Rattle.alp_base.specs.declared.cell.OwnerRecord.{OwnerRecord}
use Rattle.alp_vault.specs.Contents.{Contents}
use Rattle.alp_cluster.specs.declared.fault.RunFault.TheVariants as fault
use Rattle.alp_cluster.proofs.GoneLemmas.{gone_nothing, gone_both, gone_ok, gone_on, gone_memory, handed_on}
use Rattle.alp_top.proofs.LookLemmas.{looked_on, looked_wanting}
use Rattle.alp_top.proofs.OwnerLemmas.{at_name, next_record, records_by_names}
use Rattle.alp_top.proofs.owners.owner_records.Goals as goal
use Rattle.alp_top.proofs.owners.owner_records.Goals.{in-Some+in_ok-push, in_default}

-- ---- before the first name

pub returns-in_err-names-clause-gone : goal.returns-in_err-names-clause-gone
returns-in_err-names-clause-gone g c =
    rw (handed_on fault.OutOfMemory c.from_residual.result c.from_residual.ensures.0 c.from_residual.ensures.1) (gone_nothing g.V.Vault (λ (s : ℕ). s ≡ c.args.server) (Unit {0}) c.args.vault.now (Err fault.OutOfMemory) tt tt refl)

pub returns-in_err-names-clause-looked : goal.returns-in_err-names-clause-looked
returns-in_err-names-clause-looked g c =
    looked_wanting g.V.Vault c.args.vault.now c.args.vault.now c.from_residual.result refl refl (λ x may. may) (handed_on fault.OutOfMemory c.from_residual.result c.from_residual.ensures.0 c.from_residual.ensures.1)

pub returns-in_err-records-clause-gone : goal.returns-in_err-records-clause-gone
returns-in_err-records-clause-gone g c =
    rw (handed_on fault.OutOfMemory c.from_residual-in_err-records.result c.from_residual-in_err-records.ensures.0 c.from_residual-in_err-records.ensures.1) (gone_nothing g.V.Vault (λ (s : ℕ). s ≡ c.args.server) (Unit {0}) c.args.vault.now (Err fault.OutOfMemory) tt tt refl)

pub returns-in_err-records-clause-looked : goal.returns-in_err-records-clause-looked
returns-in_err-records-clause-looked g c =
    looked_wanting g.V.Vault c.args.vault.now c.args.vault.now c.from_residual-in_err-records.result refl refl (λ x may. may) (handed_on fault.OutOfMemory c.from_residual-in_err-records.result c.from_residual-in_err-records.ensures.0 c.from_residual-in_err-records.ensures.1)

pub loop-name-init : goal.loop-name-init
loop-name-init g c = record {
  found = λ told. c.in_ok-records.ensures.items;
  gone = gone_nothing g.V.Vault (λ (s : ℕ). s ≡ c.args.server) (Unit {0}) c.args.vault.now (Ok 0) tt tt refl;
  server = c.requires.server;
  held = refl;
  crash = λ x may. may;
  allowance = refl;
  serves = c.requires.serving;
}

-- ---- a name

pub returns-in_err-record-clause-gone : goal.returns-in_err-record-clause-gone
returns-in_err-record-clause-gone g c =
    gone_on g.V.Vault (λ (s : ℕ). s ≡ c.args.server) (Unit {0}) c.args.vault.now c.loop-name.vault c.owner_record.new.vault 0 c.in_err-record.field-0.0 c.from_residual-in_err-record.result c.loop-name.invariant.gone c.in_err-record.ensures.gone
    (handed_on c.in_err-record.field-0.0 c.from_residual-in_err-record.result c.from_residual-in_err-record.ensures.0 c.from_residual-in_err-record.ensures.1)

pub returns-in_err-record-clause-looked : goal.returns-in_err-record-clause-looked
returns-in_err-record-clause-looked g c =
    looked_on g.V.Vault c.args.vault.now c.loop-name.vault c.owner_record.new.vault c.in_err-record.field-0.0 c.from_residual-in_err-record.result c.loop-name.invariant.held c.loop-name.invariant.allowance c.loop-name.invariant.crash c.in_err-record.ensures.looked
    (handed_on c.in_err-record.field-0.0 c.from_residual-in_err-record.result c.from_residual-in_err-record.ensures.0 c.from_residual-in_err-record.ensures.1)

pub returns-in_err-push-clause-gone : goal.returns-in_err-push-clause-gone
returns-in_err-push-clause-gone g c =
    rw (handed_on fault.OutOfMemory c.from_residual-in_err-push.result c.from_residual-in_err-push.ensures.0 c.from_residual-in_err-push.ensures.1)
    (gone_memory g.V.Vault (λ (s : ℕ). s ≡ c.args.server) {T = ℕ} (Unit {0}) c.args.vault.now c.owner_record.new.vault 0
    (gone_both g.V.Vault (λ (s : ℕ). s ≡ c.args.server) (Unit {0}) c.args.vault.now c.loop-name.vault c.owner_record.new.vault 0 (Ok 0) c.loop-name.invariant.gone (gone_ok g.V.Vault (λ (s : ℕ). s ≡ c.args.server) (Unit {0}) c.loop-name.vault c.owner_record.new.vault _ 0 c.in_ok-record.ensures.gone)))

pub returns-in_err-push-clause-looked : goal.returns-in_err-push-clause-looked
returns-in_err-push-clause-looked g c =
    looked_wanting g.V.Vault c.args.vault.now c.owner_record.new.vault c.from_residual-in_err-push.result (c.in_ok-record.ensures.looked.held ∙ c.loop-name.invariant.held) (c.in_ok-record.ensures.looked.allowance ∙ c.loop-name.invariant.allowance)
    (λ x may. c.loop-name.invariant.crash x (c.in_ok-record.ensures.looked.crash x may))
    (handed_on fault.OutOfMemory c.from_residual-in_err-push.result c.from_residual-in_err-push.ensures.0 c.from_residual-in_err-push.ensures.1)

pub loop-name-preserved : goal.loop-name-preserved
loop-name-preserved g c =
    let before = c.loop-name.invariant in
    let one = c.in_ok-record.ensures in
    let more : c.match-branch-4.records.items ≡ c.loop-name.records.items ++ cons_option c.in_ok-record.field-0 [] = elim c.match-branch-4.branch [
      | in-Some+in_ok-push w ↦ ap (λ v. v.items) w.records-is ∙ w.in_ok-push.ensures.items ∙ ap (λ (o : Option OwnerRecord). c.loop-name.records.items ++ cons_option o []) (sym w.in-Some.is)
      | in_default w ↦ ap (λ v. v.items) w.records-is ∙ sym (append-nil c.loop-name.records.items) ∙ ap (λ (o : Option OwnerRecord). c.loop-name.records.items ++ cons_option o []) (sym w.in_default.is)
    ] in
    record {
      found = λ told.
          next_record (g.V.Vault.held c.args.vault.now).cells c.deref-name-items.result.now c.loop-name.name-index c.name-item.result c.loop-name.records.items c.match-branch-4.records.items c.in_ok-record.field-0 c.loop-name-test.true c.name-item.is
          (before.found told)
          (one.record (subst IsTrue (sym before.gone.same.telling) told) ∙ ap (λ (x : Contents). owner_in (map.get x.cells (OwnerOf c.name-item.result))) before.held)
          more;
      gone = gone_both g.V.Vault (λ (s : ℕ). s ≡ c.args.server) (Unit {0}) c.args.vault.now c.loop-name.vault c.owner_record.new.vault 0 (Ok 0) before.gone (gone_ok g.V.Vault (λ (s : ℕ). s ≡ c.args.server) (Unit {0}) c.loop-name.vault c.owner_record.new.vault _ 0 one.gone);
      server = one.gone.same.number ∙ before.server;
      held = one.looked.held ∙ before.held;
      crash = λ x may. before.crash x (one.looked.crash x may);
      allowance = one.looked.allowance ∙ before.allowance;
      serves = one.looked.serves;
    }

-- ---- all names

pub returns-clause-gone : goal.returns-clause-gone
returns-clause-gone g c = gone_ok g.V.Vault (λ (s : ℕ). s ≡ c.args.server) (Unit {0}) c.args.vault.now c.loop-name.vault 0 _ c.loop-name.invariant.gone

pub returns-clause-looked : goal.returns-clause-looked
returns-clause-looked g c = record { held = c.loop-name.invariant.held; crash = c.loop-name.invariant.crash; allowance = c.loop-name.invariant.allowance; serves = c.loop-name.invariant.serves; ends = tt }

pub returns-clause-owners : goal.returns-clause-owners
returns-clause-owners g c told =
    let m : Cells = (g.V.Vault.held c.args.vault.now).cells in
    c.loop-name.invariant.found told
    ∙ ap (filter_map (at_name m)) (take_all c.loop-name.name-index c.deref-name-items.result.now c.loop-name-test.false ∙ c.deref-name-items.ensures.value ∙ c.in_ok-names.ensures ∙ c.owners.ensures told)
    ∙ sym (records_by_names m (c.knows.ensures.fitting _ told (c.knows.ensures.as_held told c.requires.serving)).sound)
