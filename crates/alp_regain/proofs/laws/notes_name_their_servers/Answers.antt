use Rattle.alp_regain.proofs.OwnerLemmas.{are_ready_here, are_decided_here, joins_apart}
use Rattle.alp_regain.proofs.laws.notes_name_their_servers.Goals as goal

pub returns : goal.returns
returns c = record {
  ready = λ server servers notes are. are_ready_here server servers notes are;
  decided = λ server servers notes are. are_decided_here server servers notes are;
  apart = λ notes. joins_apart notes;
}
