use Rattle.std.specs.Prelude.{IsTrue, Some, None}
use Rattle.std.specs.FinMap as map
use Rattle.std.proofs.Common.{◌≡◌, ℕ, ◌+◌, ◌-◌, List, [], ◌∷◌, ◌++◌, ap, ◌∙◌, sym, subst}
use Rattle.alp_vault.specs.Contents.{Contents}
use Rattle.alp_base.specs.declared.key.Key.TheVariants.{PageOf}
use Rattle.alp_files.specs.Cells.{View, pages_at, page_in}
use Rattle.alp_files.specs.Needs.{through}
use Rattle.alp_files.proofs.EditLemmas.{pages_at-step}
use Rattle.alp_calls.proofs.LookLemmas.{looks_then}
use Rattle.alp_calls.proofs.look.pages_of.Goals as goal

pub returns-in-Err-clause-looked : goal.returns-in-Err-clause-looked
returns-in-Err-clause-looked g c =
    looks_then g.V.Vault
    c.args.vault.now c.loop-i.vault c.push_page.new.vault (Some c.in-Err.fault) c.loop-i.invariant.0 c.in-Err.ensures.looked

pub loop-i-preserved : goal.loop-i-preserved
loop-i-preserved g c =
    let left = c.loop-i.invariant.0.0 in (
      looks_then g.V.Vault
          c.args.vault.now c.loop-i.vault c.push_page.new.vault None c.loop-i.invariant.0 c.in_default.ensures.looked,
      λ told.
          let m : View = through c.args.intents.now (map.get (g.V.Vault.held c.args.vault.now).cells) in
          let rest : List (List ℕ) = pages_at m c.args.file (c.args.run.first + (c.loop-i.i + 1)) (c.args.run.count - (c.loop-i.i + 1)) in
          let next : c.push_page.new.pages.items ≡ c.loop-i.pages.items ++ page_in (m (PageOf c.args.file (c.args.run.first + c.loop-i.i))) ∷ [] =
          c.in_default.ensures.page (subst IsTrue (sym left.same.telling) told)
          ∙ ap (λ (h : Contents). c.loop-i.pages.items ++ page_in (through c.args.intents.now (map.get h.cells) (PageOf c.args.file (c.args.run.first + c.loop-i.i))) ∷ []) left.contents in
          ap (λ (ps : List (List ℕ)). ps ++ rest) next
          ∙ pages_at-step c.loop-i.pages.items m c.args.file c.args.run.first c.args.run.count c.loop-i.i c.loop-i-test.true
          ∙ c.loop-i.invariant.1 told,
      c.in_default.ensures.one ∙ ap (λ (n : ℕ). n + 1) c.loop-i.invariant.2,
    )
