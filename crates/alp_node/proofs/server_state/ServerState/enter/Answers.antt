use Rattle.std.specs.FinMap as map
use Rattle.std.proofs.Common.{◌≡◌, sym, ap, ◌∙◌}
use Rattle.alp_files.proofs.UndoLemmas.{when_ok, when_err}
use Rattle.alp_node.specs.Totals.{LiveMap}
use Rattle.alp_node.proofs.MapLemmas.{put_gone}
use Rattle.alp_node.proofs.server_state.ServerState.enter.Goals as goal

-- there is no room for its locks
pub returns-then-is_err : goal.returns-then-is_err
returns-then-is_err g c =
    let k = c.args.self.now in
    let t = c.args.trans in
    let lives : c.remove.new.self ≡ k.lives = c.remove.ensures ∙ ap (λ (m : LiveMap). map.remove m t) c.in_ok-add.ensures.ok ∙ put_gone k.lives t c.args.live c.requires.new in
    let locks : c.enter.new.self ≡ k.locks = when_err c.enter.result _ c.enter.ensures.err (sym c.if-is_err.ensures.value) in
    record { ok = tt; err = λ i. record k { lives = lives i; locks = locks i } }

pub returns : goal.returns
returns g c =
    let k = c.args.self.now in
    let locks = when_ok c.enter.result _ c.enter.ensures.after (sym c.if-is_err.ensures.value) in
    record { ok = λ i. record k { lives = c.in_ok-add.ensures.ok i; locks = locks i }; err = tt }
