use Rattle.alp_history.proofs.EachServer.{each_server}
use Rattle.alp_history.proofs.agreement.each_server_is_one_thread.Goals as goal

pub returns : goal.returns
returns c = each_server
