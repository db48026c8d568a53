use Rattle.std.proofs.lemmas.Result.{on_ok_weaker}
use Rattle.alp_volume.proofs.DraftLaws.{known_owner}
use Rattle.alp_volume.proofs.put_owner.put_known_owner.Goals as goal

pub returns-clause-put : goal.returns-clause-put
returns-clause-put g c home m catalog tells draft there =
    on_ok_weaker c.write_row.result
    (λ w. known_owner home (g.R.PageReader.pages c.args.reader.now) c.args.draft.now.pages c.write_row.new.draft.pages m c.args.row c.args.owner.now w.0 w.1 w.2 catalog draft there)
    (c.write_row.ensures.written tells)
