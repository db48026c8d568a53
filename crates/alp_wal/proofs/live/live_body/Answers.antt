use Rattle.std.proofs.Common.{◌≡◌, [], length, sym, ◌∙◌, ap, subst, arith}
use Rattle.std.specs.Prelude.{zip, IfOk, OnOk}
use Rattle.std.specs.FinMap as map
use Rattle.alp_batch.specs.declared.batch.Batch.{Batch}
use Rattle.alp_batch.specs.Batch.{batch, IsBatch, batch_length}
use Rattle.alp_batch.specs.Values.{puts, values_batch}
use Rattle.alp_wal.specs.Live.{notes_batch}
use Rattle.alp_wal.proofs.Lives.{is_batch_of, length-names, length-values, zip_parts}
use Rattle.alp_wal.proofs.live.live_body.Goals as goal

pub encode_values-requires-clause-paired : goal.encode_values-requires-clause-paired
encode_values-requires-clause-paired c =
    let es = map.entries c.args.notes.now.notes in
    omega (arith, ap length c.names.ensures, ap length c.values.ensures, length-names es, length-values es)

pub encode_values-requires-clause-batch : goal.encode_values-requires-clause-batch
encode_values-requires-clause-batch c =
    let pairs = (λ i. zip (c.names.ensures i) (c.values.ensures i)) ∙ zip_parts (map.entries c.args.notes.now.notes) in
    subst (λ (b : Batch). IsBatch b) (λ i. record { images = []; notes = puts (sym pairs i) }) (is_batch_of c.args.notes.now.notes c.requires)

pub returns-clause-spelled : goal.returns-clause-spelled
returns-clause-spelled c =
    let pairs = (λ i. zip (c.names.ensures i) (c.values.ensures i)) ∙ zip_parts (map.entries c.args.notes.now.notes) in
    let same : values_batch c.names.result.now c.values.result.now ≡ notes_batch c.args.notes.now.notes = λ i. record { images = []; notes = puts (pairs i) } in
    subst (λ (b : Batch). IfOk c.encode_values.result (λ body. body ≡ batch.spell b)) same c.encode_values.ensures.spelled

pub returns-clause-fits : goal.returns-clause-fits
returns-clause-fits c =
    let pairs = (λ i. zip (c.names.ensures i) (c.values.ensures i)) ∙ zip_parts (map.entries c.args.notes.now.notes) in
    let same : values_batch c.names.result.now c.values.result.now ≡ notes_batch c.args.notes.now.notes = λ i. record { images = []; notes = puts (pairs i) } in
    subst (λ (b : Batch). OnOk c.encode_values.result (batch.Fits b)) same c.encode_values.ensures.fits

pub returns-clause-long : goal.returns-clause-long
returns-clause-long c =
    let pairs = (λ i. zip (c.names.ensures i) (c.values.ensures i)) ∙ zip_parts (map.entries c.args.notes.now.notes) in
    let same : values_batch c.names.result.now c.values.result.now ≡ notes_batch c.args.notes.now.notes = λ i. record { images = []; notes = puts (pairs i) } in
    subst (λ (b : Batch). IfOk c.encode_values.result (λ body. length body ≡ batch_length b)) same c.encode_values.ensures.long
