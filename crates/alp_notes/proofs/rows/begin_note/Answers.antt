use Rattle.std.proofs.Common.{◌≡◌, ◌∙◌, ap, arith, Bool, if◌then◌else◌}
use Rattle.std.specs.List.{insert}
use Rattle.alp_notes.proofs.RowLemmas.{insert_row}
use Rattle.alp_notes.proofs.rows.begin_note.Goals as goal

pub returns-clause-rows : goal.returns-clause-rows
returns-clause-rows c =
    let names : c.insert.new.self.items ≡ insert c.args.names.now.items c.args.at c.args.name = c.insert.ensures.items ∙ ap (λ (b : Bool). if b then insert c.args.names.now.items c.args.at c.args.name else c.args.names.now.items) (c.insert.ensures.succeeds (omega (arith, c.requires.room.0, c.args.names.now.ok))) in
    let values : c.insert-2.new.self.items ≡ insert c.args.values.now.items c.args.at c.args.value = c.insert-2.ensures.items ∙ ap (λ (b : Bool). if b then insert c.args.values.now.items c.args.at c.args.value else c.args.values.now.items) (c.insert-2.ensures.succeeds (omega (arith, c.requires.room.1, c.args.values.now.ok))) in
    rw (names, values) (insert_row c.args.names.now.items c.args.values.now.items c.args.name c.args.value c.args.at c.requires.rows c.requires.at).rows

pub returns-clause-begun : goal.returns-clause-begun
returns-clause-begun c =
    let names : c.insert.new.self.items ≡ insert c.args.names.now.items c.args.at c.args.name = c.insert.ensures.items ∙ ap (λ (b : Bool). if b then insert c.args.names.now.items c.args.at c.args.name else c.args.names.now.items) (c.insert.ensures.succeeds (omega (arith, c.requires.room.0, c.args.names.now.ok))) in
    let values : c.insert-2.new.self.items ≡ insert c.args.values.now.items c.args.at c.args.value = c.insert-2.ensures.items ∙ ap (λ (b : Bool). if b then insert c.args.values.now.items c.args.at c.args.value else c.args.values.now.items) (c.insert-2.ensures.succeeds (omega (arith, c.requires.room.1, c.args.values.now.ok))) in
    rw (names, values) (insert_row c.args.names.now.items c.args.values.now.items c.args.name c.args.value c.args.at c.requires.rows c.requires.at).shows
