use Rattle.std.specs.Prelude.{map as list_map}
use Rattle.std.proofs.Common.{◌≡◌, ℕ, drop}
use Rattle.alp_base.specs.declared.ids.FileId.{FileId}
use Rattle.alp_files.specs.Edits.{Cut}
use Rattle.alp_files.specs.Needs.{intents_from}
use Rattle.alp_regain.proofs.changes.cut_files.Given as goal

abbrev pub invariant-loop-cut : goal.invariant-loop-cut
invariant-loop-cut l = intents_from l.intents (list_map (λ (p : FileId × ℕ). Cut p.0 p.1) (drop l.cut-index l.cuts)) ≡ intents_from l.initial.intents (list_map (λ (p : FileId × ℕ). Cut p.0 p.1) l.cuts)
