use Rattle.alp_session.specs.Ahead.{ahead}
use Rattle.alp_session.specs.Crowds.{client_at}
use Rattle.alp_cluster.proofs.parties.Parties.+send_line.Given as goal

abbrev pub decreases-send_line : goal.decreases-send_line
decreases-send_line g l = ahead l.self.now.clients.words (client_at l.self.now.clients l.client) l.line.now.line l.next
