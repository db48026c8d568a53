use Rattle.std.proofs.Common.{◌∙◌}
use Rattle.alp_anchor.proofs.Anchors.{anchor_bytes}
use Rattle.alp_anchor.proofs.spelling.anchor_page.Goals as goal

pub returns : goal.returns
returns c = c.beginning.ensures ∙ anchor_bytes c.args.anchor.now _ _ _ c.to_be_bytes-g.ensures c.to_be_bytes-a.ensures c.to_be_bytes-h.ensures
