use Rattle.std.specs.FinMap as map
use Rattle.std.specs.Prelude.{ℕ, min, unwrap_or, Option}
use Rattle.std.proofs.Common.{◌≡◌, ap, ◌∙◌}
use Rattle.alp_base.specs.KeyLaws.{exact_files}
use Rattle.alp_base.proofs.TreeLemmas.{put_at}
use Rattle.alp_files.specs.Needs.{CutFiles, cut_from}
use Rattle.alp_files.proofs.IntentLemmas.{files_total}
use Rattle.alp_trans.proofs.cuts.Cuts.add.Goals as goal

pub returns-clause-ok : goal.returns-clause-ok
returns-clause-ok c =
    let least : c.min.result ≡ cut_from c.args.self.now c.args.file c.args.first =
    c.min.ensures ∙ ap (min c.args.first) (c.unwrap_or-before.ensures ∙ ap (λ (o : Option ℕ). unwrap_or o c.args.first) c.first.ensures) in
    put_at files_total exact_files c.self.inside.firsts.entries c.insert.new.self.entries c.args.file c.min.result c.in_ok-insert.ensures.updates.0
    ∙ (λ i. map.insert (c.self.view_is i) c.args.file (least i))
