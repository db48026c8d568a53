use Rattle.std.proofs.Common.{sym, ◌∙◌, ap, subst, arith}
use Rattle.alp_base.specs.declared.faults.Sizes.{Sizes}
use Rattle.alp_files.specs.Edits.{edits_map}
use Rattle.alp_files.specs.Changes.{edits_of}
use Rattle.alp_vault.specs.Contents.{Contents}
use Rattle.alp_vault.specs.Volumes.{IsVolumeOf}
use Rattle.alp_server_tests.proofs.tests.vault.commit_owner.Goals as goal

pub commit-requires-clause-serving : goal.commit-requires-clause-serving
commit-requires-clause-serving c = c.stop_after.ensures.serves ∙ c.requires.serves

pub commit-requires-clause-room : goal.commit-requires-clause-room
commit-requires-clause-room c =
    let sizes : Sizes = c.stop_after.new.self.sizes in
    subst (λ (x : Contents). IsVolumeOf sizes (edits_map (edits_of c.in_ok-change.change) x.cells)) (sym (c.stop_after.ensures.held ∙ c.requires.empty))
    (c.in_ok-change.ensures.room sizes (omega (arith, ap (λ (s : Sizes). s.home) (c.stop_after.ensures.kept.sizes ∙ c.requires.sizes))))
