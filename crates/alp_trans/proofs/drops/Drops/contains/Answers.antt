use Rattle.std.specs.FinMap as map
use Rattle.std.proofs.Common.{ap, sym, ◌∙◌}
use Rattle.alp_files.specs.Needs.{Files}
use Rattle.alp_trans.proofs.FileSets.{has_files}
use Rattle.alp_trans.proofs.drops.Drops.contains.Goals as goal

pub returns : goal.returns
returns c = c.contains.ensures ∙ sym (has_files c.self.inside.files.keys c.args.file.now) ∙ ap (λ (d : Files). map.contains_key d c.args.file.now) c.self.view_is
