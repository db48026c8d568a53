use Rattle.alp_volume.proofs.SheetLaws.{len_after}
use Rattle.alp_volume.proofs.draft.Draft.write.Goals as goal

pub returns-clause-few : goal.returns-clause-few
returns-clause-few c = len_after c.put.result c.args.self.now.pages c.put.new.self c.args.at _ c.put.ensures.ok c.put.ensures.err
