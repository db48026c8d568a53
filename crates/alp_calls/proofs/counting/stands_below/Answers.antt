use Rattle.std.specs.Prelude.{IsTrue, is_some, true, Option, None, Some}
use Rattle.std.specs.FinMap as map
use Rattle.std.proofs.Common.{◌≡◌, ℕ, ◌-◌, ◌<◌, ◌≤◌, refl, sym, ◌∙◌, ap, subst, arith}
use Rattle.alp_base.specs.declared.ids.FileId.{FileId}
use Rattle.alp_base.specs.declared.key.Key.TheVariants.{PageOf}
use Rattle.alp_base.specs.declared.cell.Cell.{Cell}
use Rattle.alp_files.specs.Cells.{Cells}
use Rattle.alp_files.specs.Counts.{APageStands}
use Rattle.alp_vault.specs.Contents.{Contents}
use Rattle.alp_calls.proofs.counting.stands_below.Goals as goal

there : (o : Option Cell) → is_some o ≡ true → (d : Cell) × (o ≡ Some d)
there None e = cc
there (Some d) e = (d, refl)

stands : (held : Cells) (f : FileId) (first end n : ℕ) (o : Option Cell) → first ≤ n → n < end → is_some o ≡ true → o ≡ map.get held (PageOf f n)
    → (first < end) × APageStands held f first (end - 1)
stands held f first end n o low high some is =
    let page = there o some in
    (omega (arith, low, high), record { number = n; within = (low, omega (arith, high)); page = page.0; stands = sym is ∙ page.1 })

pub returns-then-is_some-clause-page : goal.returns-then-is_some-clause-page
returns-then-is_some-clause-page g c = λ told yes.
    let left = c.loop-number.invariant.left in
    stands (g.V.Vault.held c.args.vault.now).cells c.args.file c.args.first c.args.end c.loop-number.number c.in_ok-page.page
    c.loop-number.auto.number c.loop-number-test.true (sym c.is_some.ensures ∙ c.if-is_some.true)
    (c.in_ok-page.ensures.cell (subst IsTrue (sym left.0.same.telling) told) ∙ ap (λ (h : Contents). map.get h.cells (PageOf c.args.file c.loop-number.number)) left.0.contents)
