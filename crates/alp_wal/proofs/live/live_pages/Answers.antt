use Rattle.std.proofs.Common.{◌≡◌, ◌+◌, List, [], ℕ, length, sym, ◌∙◌, ap, subst, arith}
use Rattle.std.specs.Prelude.{zip}
use Rattle.std.specs.List.{AllByRecursion}
use Rattle.std.specs.FinMap as map
use Rattle.std.specs.FinMap.{len-entries}
use Rattle.alp_batch.specs.declared.batch.Batch.{Batch}
use Rattle.alp_batch.specs.Batch.{IsShort}
use Rattle.alp_batch.specs.Values.{puts, values_batch}
use Rattle.alp_record.specs.Record.{body_pages}
use Rattle.alp_wal.specs.Live.{notes_batch, batch_pages}
use Rattle.alp_wal.proofs.Lives.{length-names, length-values, zip_parts}
use Rattle.alp_wal.proofs.live.live_pages.Goals as goal

pub values_length-requires-clause-paired : goal.values_length-requires-clause-paired
values_length-requires-clause-paired c =
    let es = map.entries c.args.notes.now.notes in
    omega (arith, ap length c.names.ensures, ap length c.values.ensures, length-names es, length-values es)

pub values_length-requires-clause-few : goal.values_length-requires-clause-few
values_length-requires-clause-few c = omega (arith, ap length c.names.ensures, length-names (map.entries c.args.notes.now.notes), len-entries c.args.notes.now.notes, c.requires.few)

pub values_length-requires-clause-short : goal.values_length-requires-clause-short
values_length-requires-clause-short c =
    let pairs = (λ i. zip (c.names.ensures i) (c.values.ensures i)) ∙ zip_parts (map.entries c.args.notes.now.notes) in
    subst (λ (es : List (List ℕ × List ℕ)). AllByRecursion IsShort (puts es)) (sym pairs) c.requires.short

pub returns-clause-pages : goal.returns-clause-pages
returns-clause-pages c =
    let pairs = (λ i. zip (c.names.ensures i) (c.values.ensures i)) ∙ zip_parts (map.entries c.args.notes.now.notes) in
    let same : values_batch c.names.result.now c.values.result.now ≡ notes_batch c.args.notes.now.notes = λ i. record { images = []; notes = puts (pairs i) } in
    c.pages_wanted.ensures ∙ (λ i. 1 + body_pages (c.values_length.ensures.sum i)) ∙ ap (λ (b : Batch). batch_pages b) same
