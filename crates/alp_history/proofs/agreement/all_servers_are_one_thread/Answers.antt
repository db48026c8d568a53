use Rattle.alp_history.proofs.Merged.{history}
use Rattle.alp_history.proofs.agreement.all_servers_are_one_thread.Goals as goal

pub returns : goal.returns
returns c = history
