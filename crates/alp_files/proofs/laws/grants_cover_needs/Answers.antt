use Rattle.alp_files.specs.Locks.{needs_made}
use Rattle.alp_files.proofs.CoverLemmas.{granted-holds, granted-more, granted-intended, done-holds, joined-more, with_made-intended}
use Rattle.alp_files.proofs.laws.grants_cover_needs.Goals as goal

pub returns-clause-needs : goal.returns-clause-needs
returns-clause-needs c = granted-holds

pub returns-clause-more : goal.returns-clause-more
returns-clause-more c = granted-more

pub returns-clause-intended : goal.returns-clause-intended
returns-clause-intended c = granted-intended

pub returns-clause-made : goal.returns-clause-made
returns-clause-made c = done-holds

pub returns-clause-made_more : goal.returns-clause-made_more
returns-clause-made_more c held id = joined-more held (needs_made id)

pub returns-clause-made_intended : goal.returns-clause-made_intended
returns-clause-made_intended c = with_made-intended
