use Rattle.std.specs.Prelude.{None, true, Bool}
use Rattle.std.proofs.Common.{◌≡◌, ◌+◌, ◌≤◌, List, [], ◌∷◌, length, drop, refl, sym, ap, ◌∙◌, subst, arith}
use Rattle.std.proofs.Math.ListN.{drop_of_length-le}
use Rattle.std.proofs.lemmas.List.{at_drop_more, length-map}
use Rattle.alp_base.specs.declared.key.Key.{Key}
use Rattle.alp_base.specs.declared.cell.Cell.{Cell}
use Rattle.alp_files.specs.Cells.{Cells}
use Rattle.alp_files.specs.Edits.{Edit, Put}
use Rattle.alp_files.specs.Needs.{Intents, intents_from}
use Rattle.alp_files.specs.Undo.{puts_of}
use Rattle.alp_trans.specs.declared.counts.Counts.{Counts}
use Rattle.alp_trans.specs.declared.counts.Sight.{Sight}
use Rattle.alp_calls.specs.Sights.{IsSight, IsRaised}
use Rattle.alp_vault.specs.Contents.{Contents}
use Rattle.alp_vault.specs.Volumes.{fit_keys}
use Rattle.alp_calls.proofs.CountingLemmas.{Counting, counting_begins, counting_goes_on, counting_ends}
use Rattle.alp_calls.proofs.LookLemmas.{left_same, looks_then}
use Rattle.alp_calls.proofs.FitLemmas.{one_fits}
use Rattle.alp_calls.proofs.counting.count_puts.Goals as goal

-- nothing is left to count
ends : (tells : Bool) (held : Cells) (i : Intents) (more : Cells) (start n : Counts) (puts rest : List (Key × Cell)) → rest ≡ [] → Counting tells held i more start n (puts_of puts) (puts_of rest)
    → IsRaised tells held i (intents_from i (puts_of puts)) start n × (n.cells ≤ start.cells + length puts)
ends tells held i more start n puts rest none h =
    let all : Counting tells held i more start n (puts_of puts) [] = subst (λ (xs : List (Key × Cell)). Counting tells held i more start n (puts_of puts) (puts_of xs)) none h in
    (counting_ends tells held i more start n (puts_of puts) all, omega (arith, all.most, length-map puts (λ (p : Key × Cell). Put p.0 p.1)))

pub loop-put-init : goal.loop-put-init
loop-put-init g c = record {
  left = (left_same g.V.Vault c.args.vault.now, c.requires.serving, refl);
  fit = c.requires.fit;
  counting = counting_begins (g.V.Vault.tells c.args.vault.now) (g.V.Vault.held c.args.vault.now).cells c.args.ahead.now c.new-more.result c.args.start (puts_of c.args.puts.now) c.new-more.ensures c.requires.few;
}

pub loop-put-preserved : goal.loop-put-preserved
loop-put-preserved g c =
    let left = c.loop-put.invariant.left in
    let rest : List (Key × Cell) = drop (c.loop-put.put-index + 1) c.args.puts.now in
    let held : Cells = (g.V.Vault.held c.args.vault.now).cells in
    let intents : Intents = c.args.ahead.now in
    let start : Counts = c.args.start in
    let tells : Bool = g.V.Vault.tells c.args.vault.now in
    let all : List Edit = puts_of c.args.puts.now in
    let item : Key × Cell = c.put-item.result in
    let fits : fit_keys (item ∷ rest) ≡ true =
    ap (λ (x : Key × Cell). fit_keys (x ∷ rest)) c.put-item.is
    ∙ sym (at_drop_more fit_keys c.args.puts.now c.loop-put.put-index item c.loop-put-test.true) ∙ c.loop-put.invariant.fit in
    let before : Counting tells held intents c.loop-put.more start c.loop-put.counts all (puts_of (item ∷ rest)) =
    subst (λ (xs : List (Key × Cell)). Counting tells held intents c.loop-put.more start c.loop-put.counts all (puts_of xs))
    (at_drop_more (λ (xs : List (Key × Cell)). xs) c.args.puts.now c.loop-put.put-index item c.loop-put-test.true
    ∙ ap (λ (x : Key × Cell). x ∷ rest) (sym c.put-item.is)) c.loop-put.invariant.counting in
    let s : Sight = c.in_ok-counts.ensures.counted.0 in
    let seen : IsSight tells c.loop-put.more intents held item.0 s =
    subst (λ (b : Bool). IsSight b c.loop-put.more intents held item.0 s) left.0.same.telling
    (subst (λ (x : Contents). IsSight (g.V.Vault.tells c.loop-put.vault) c.loop-put.more intents x.cells item.0 s) left.0.contents c.in_ok-counts.ensures.counted.1) in
    record {
      left = looks_then g.V.Vault c.args.vault.now c.loop-put.vault c.count_put.new.vault None left c.in_ok-counts.ensures.looked;
      fit = (one_fits item rest fits).1;
      counting = counting_goes_on tells held intents c.loop-put.more c.count_put.new.more start c.loop-put.counts all (puts_of rest) item.0 item.1 s c.in_ok-counts.counts
          before seen c.in_ok-counts.ensures.counted.2 c.in_ok-counts.ensures.more;
    }

pub returns-clause-counted : goal.returns-clause-counted
returns-clause-counted g c =
    (ends (g.V.Vault.tells c.args.vault.now) (g.V.Vault.held c.args.vault.now).cells c.args.ahead.now c.loop-put.more c.args.start c.loop-put.counts c.args.puts.now
    (drop c.loop-put.put-index c.args.puts.now) (drop_of_length-le c.args.puts.now c.loop-put-test.false) c.loop-put.invariant.counting).0

pub returns-clause-most : goal.returns-clause-most
returns-clause-most g c =
    (ends (g.V.Vault.tells c.args.vault.now) (g.V.Vault.held c.args.vault.now).cells c.args.ahead.now c.loop-put.more c.args.start c.loop-put.counts c.args.puts.now
    (drop c.loop-put.put-index c.args.puts.now) (drop_of_length-le c.args.puts.now c.loop-put-test.false) c.loop-put.invariant.counting).1
