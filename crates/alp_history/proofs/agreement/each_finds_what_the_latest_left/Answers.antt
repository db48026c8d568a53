use Rattle.alp_history.proofs.Latest.{latest-of-all}
use Rattle.alp_history.proofs.agreement.each_finds_what_the_latest_left.Goals as goal

pub returns : goal.returns
returns c = latest-of-all
