use Rattle.std.specs.Prelude.{cond, Bool}
use Rattle.std.specs.FinMap as map
use Rattle.std.proofs.Common.{ℕ, ◌+◌, ap, sym, ◌∙◌}
use Rattle.alp_files.specs.Needs.{Intents, intend, marks_of}
use Rattle.alp_trans.specs.declared.gone.Gone.{Gone}
use Rattle.alp_trans.specs.declared.gone.Gone.TheVariants as gone
use Rattle.alp_trans.specs.Parts.{gone_edit, file_gone}
use Rattle.alp_trans.proofs.AheadLemmas.{marks_dropped, marks_cut}
use Rattle.alp_trans.proofs.intents.Intents.marks_with.Goals as goal

pub returns-in-File : goal.returns-in-File
returns-in-File c =
    sym (marks_dropped c.args.self.now c.in-File.field-0)
    ∙ ap (λ (g : Gone). marks_of (intend (gone_edit g) c.args.self.now) (file_gone g)) (sym c.in-File.is)

pub returns-in-Pages : goal.returns-in-Pages
returns-in-Pages c =
    ap (λ (n : ℕ). n + 1) (c.one_if.ensures ∙ ap (λ (b : Bool). cond {A = ℕ} b 1 0) (c.contains.ensures ∙ ap (λ (i : Intents). map.contains_key i.drops c.in-Pages.file) c.self.view_is))
    ∙ sym (marks_cut c.args.self.now c.in-Pages.file c.in-Pages.field-1)
    ∙ ap (λ (g : Gone). marks_of (intend (gone_edit g) c.args.self.now) (file_gone g)) (sym c.in-Pages.is)
