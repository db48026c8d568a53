use Rattle.alp_regain.proofs.RoomLemmas.{each_fits}
use Rattle.alp_regain.proofs.laws.ready_parts_fit_the_log.Goals as goal

pub returns : goal.returns
returns c = λ ns area fits. each_fits ns area fits
