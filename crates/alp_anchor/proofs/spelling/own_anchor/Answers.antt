use Rattle.std.proofs.Common.{◌∙◌}
use Rattle.alp_anchor.proofs.Choices.{same_names}
use Rattle.alp_anchor.proofs.spelling.own_anchor.Goals as goal

pub returns-then-anchor-server : goal.returns-then-anchor-server
returns-then-anchor-server c b is = c.if-anchor-server.true ((same_names _ _ _ _ c.in_ok-anchor.ensures.0 is.is_open).0 ∙ is.server_is)

pub returns-then-anchor-servers : goal.returns-then-anchor-servers
returns-then-anchor-servers c b is = c.if-anchor-servers.true ((same_names _ _ _ _ c.in_ok-anchor.ensures.0 is.is_open).1 ∙ is.servers_is)
