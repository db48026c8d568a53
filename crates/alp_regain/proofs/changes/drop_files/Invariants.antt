use Rattle.std.specs.Prelude.{map as list_map}
use Rattle.std.proofs.Common.{◌≡◌, drop}
use Rattle.alp_files.specs.Edits.{Drop}
use Rattle.alp_files.specs.Needs.{intents_from}
use Rattle.alp_regain.proofs.changes.drop_files.Given as goal

abbrev pub invariant-loop-file : goal.invariant-loop-file
invariant-loop-file l = intents_from l.intents (list_map Drop (drop l.file-index l.files)) ≡ intents_from l.initial.intents (list_map Drop l.files)
