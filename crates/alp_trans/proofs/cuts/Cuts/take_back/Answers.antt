use Rattle.std.specs.FinMap as map
use Rattle.std.proofs.Common.{ap, sym, ◌∙◌}
use Rattle.alp_base.specs.KeyLaws.{exact_files}
use Rattle.alp_base.proofs.TreeLemmas.{put_at, remove_at, get_at}
use Rattle.alp_files.specs.Needs.{CutFiles}
use Rattle.alp_files.proofs.IntentLemmas.{files_total}
use Rattle.alp_files.proofs.PutBack.{put_back, taken_away, err_then}
use Rattle.alp_files.proofs.UndoLemmas.{on_ok}
use Rattle.alp_trans.proofs.cuts.Cuts.take_back.Goals as goal

pub returns-in-Some : goal.returns-in-Some
returns-in-Some c d n before put =
    put_back files_total exact_files d c.args.self.now (map.from_entries c.insert.new.self.entries) c.args.file n c.in-Some.first (sym c.in-Some.is ∙ before) put
    c.insert.result
    (on_ok c.insert.result _ _ c.insert.ensures.updates (λ u.
    put_at files_total exact_files c.self.inside.firsts.entries c.insert.new.self.entries c.args.file c.in-Some.first u.0
    ∙ ap (λ (x : CutFiles). map.insert x c.args.file c.in-Some.first) c.self.view_is))
    (err_then c.insert.result _ _ c.insert.ensures.absent (λ none.
    ap (λ (x : CutFiles). map.get x c.args.file) (sym c.self.view_is) ∙ get_at files_total exact_files c.self.inside.firsts.entries c.args.file ∙ none))

pub returns-in-None : goal.returns-in-None
returns-in-None c d n before put =
    remove_at files_total exact_files c.self.inside.firsts.entries c.remove.new.self.entries c.args.file c.remove.ensures.updates.0
    ∙ ap (λ (x : CutFiles). map.remove x c.args.file) (c.self.view_is ∙ put)
    ∙ taken_away files_total exact_files d c.args.file n (sym c.in-None.is ∙ before)
