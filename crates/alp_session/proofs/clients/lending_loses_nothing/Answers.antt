use Rattle.alp_session.proofs.CrowdLemmas.{lent_at, lent_back, taken_other}
use Rattle.alp_session.proofs.clients.lending_loses_nothing.Goals as goal

pub returns-clause-back : goal.returns-clause-back
returns-clause-back c crowd k few = lent_back crowd k few

pub returns-clause-lent : goal.returns-clause-lent
returns-clause-lent c crowd k few = lent_at crowd k few

pub returns-clause-others : goal.returns-clause-others
returns-clause-others c crowd lent k j apart = taken_other crowd lent k j apart
