use Rattle.alp_calls.proofs.CountLaws.{changed_after, used_after, files_after, owners_after}
use Rattle.alp_calls.proofs.laws.counts_come_to_what_there_is.Goals as goal

pub returns-clause-places : goal.returns-clause-places
returns-clause-places c = used_after

pub returns-clause-files : goal.returns-clause-files
returns-clause-files c = files_after

pub returns-clause-owners : goal.returns-clause-owners
returns-clause-owners c = owners_after

pub returns-clause-cells : goal.returns-clause-cells
returns-clause-cells c = changed_after
