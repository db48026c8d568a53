use Rattle.std.proofs.Common.{◌≡◌, ◌∙◌, List, ℕ, Bool, ap, arith, sym, subst, if◌then◌else◌}
use Rattle.std.specs.List.{insert}
use Rattle.std.specs.List.Sorted.{IsStrictlySortedBy}
use Rattle.alp_base.specs.Notes.{text_cmp}
use Rattle.alp_notes.specs.Rows.{IsAt, IsPlace}
use Rattle.alp_notes.proofs.Searches.{rising-insert}
use Rattle.alp_vault.proofs.OwnerLemmas.{with-at, with-place}
use Rattle.alp_vault.proofs.owners.add_name.Goals as goal

pub place_of-requires : goal.place_of-requires
place_of-requires c = subst (IsStrictlySortedBy text_cmp) (sym c.as_slice.ensures.value) c.requires.rising

pub returns-in-Ok-clause-added : goal.returns-in-Ok-clause-added
returns-in-Ok-clause-added c =
    sym (with-at c.args.name c.args.names.now.items c.in-Ok.field-0 (subst (λ (ns : List (List ℕ)). IsAt c.args.name ns c.in-Ok.field-0) c.as_slice.ensures.value c.in-Ok.ensures.found))

pub returns-in-Err-clause-added : goal.returns-in-Err-clause-added
returns-in-Err-clause-added c =
    c.insert.ensures.items
    ∙ ap (λ (b : Bool). if b then insert c.args.names.now.items c.in-Err.at c.args.name else c.args.names.now.items) (c.insert.ensures.succeeds (omega (arith, c.requires.room, c.args.names.now.ok)))
    ∙ sym (with-place c.args.name c.args.names.now.items c.in-Err.at (subst (λ (ns : List (List ℕ)). IsPlace c.args.name ns c.in-Err.at) c.as_slice.ensures.value c.in-Err.ensures.absent))

pub returns-in-Err-clause-rising : goal.returns-in-Err-clause-rising
returns-in-Err-clause-rising c =
    let names : c.insert.new.self.items ≡ insert c.args.names.now.items c.in-Err.at c.args.name = c.insert.ensures.items
    ∙ ap (λ (b : Bool). if b then insert c.args.names.now.items c.in-Err.at c.args.name else c.args.names.now.items) (c.insert.ensures.succeeds (omega (arith, c.requires.room, c.args.names.now.ok))) in
    subst (IsStrictlySortedBy text_cmp) (sym names)
    (rising-insert c.args.name c.args.names.now.items c.in-Err.at (subst (λ (ns : List (List ℕ)). IsPlace c.args.name ns c.in-Err.at) c.as_slice.ensures.value c.in-Err.ensures.absent) c.requires.rising)
