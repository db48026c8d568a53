use Rattle.std.specs.FinMap as map
use Rattle.std.proofs.Common.{ap, sym, ◌∙◌}
use Rattle.alp_session.specs.Maps.{WordMap}
use Rattle.alp_base.proofs.TreeLemmas.{put_at, get_at}
use Rattle.alp_files.proofs.UndoLemmas.{on_err}
use Rattle.alp_session.proofs.MapLemmas.{nat_list_cmp_total, exact_bytes}
use Rattle.alp_session.proofs.memory.Words.bind.Goals as goal

pub returns-in_err-stood-clause-absent : goal.returns-in_err-stood-clause-absent
returns-in_err-stood-clause-absent c =
    on_err c.from_residual.result _
    (ap (λ (m : WordMap). map.get m c.args.word) (sym c.self.view_is) ∙ get_at nat_list_cmp_total exact_bytes c.self.inside.meanings.entries c.args.word ∙ c.in_err-stood.ensures.absent)

pub returns-clause-ok : goal.returns-clause-ok
returns-clause-ok c =
    put_at nat_list_cmp_total exact_bytes c.self.inside.meanings.entries c.insert.new.self.entries c.args.word c.args.meaning c.in_ok-stood.ensures.updates.0
    ∙ ap (λ (m : WordMap). map.insert m c.args.word c.args.meaning) c.self.view_is

pub returns-clause-stood : goal.returns-clause-stood
returns-clause-stood c =
    c.in_ok-stood.ensures.old
    ∙ sym (get_at nat_list_cmp_total exact_bytes c.self.inside.meanings.entries c.args.word)
    ∙ ap (λ (m : WordMap). map.get m c.args.word) c.self.view_is
