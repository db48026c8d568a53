use Rattle.std.proofs.Common.{None, sym, ◌∙◌, ap, arith}
use Rattle.std.specs.Prelude.{slice_index_or}
use Rattle.std.proofs.lemmas.List.{get_or_past, get_or_read}
use Rattle.alp_wal.specs.Home.{Index}
use Rattle.alp_wal.proofs.index.ImageIndex.get.Goals as goal

pub returns-then-at-len : goal.returns-then-at-len
returns-then-at-len c =
    let same = ap (λ (x : Index). slice_index_or x c.args.at None) c.self.view_is in
    sym (sym same ∙ get_or_past c.self.inside.images.items c.args.at None (omega (arith, c.len.ensures)))

pub returns-in-Some : goal.returns-in-Some
returns-in-Some c =
    let same = ap (λ (x : Index). slice_index_or x c.args.at None) c.self.view_is in
    let read = get_or_read c.self.inside.images.items c.args.at c.index.result.now (omega (arith, c.len.ensures)) c.index.ensures None in
    sym c.in-Some.is ∙ read ∙ same

pub returns-in-None : goal.returns-in-None
returns-in-None c =
    let same = ap (λ (x : Index). slice_index_or x c.args.at None) c.self.view_is in
    let read = get_or_read c.self.inside.images.items c.args.at c.index.result.now (omega (arith, c.len.ensures)) c.index.ensures None in
    sym c.in-None.is ∙ read ∙ same
