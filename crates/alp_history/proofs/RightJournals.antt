-- the right journals
use Rattle.alp_history.specs.RightJournals.{AreLawfulJournals}
use Rattle.alp_history.proofs.RepeatedOne as repeated_one
use Rattle.alp_history.proofs.RepeatedTwo as repeated_two
use Rattle.alp_history.proofs.RejoinedOne as rejoined_one
use Rattle.alp_history.proofs.RejoinedTwo as rejoined_two
use Rattle.alp_history.proofs.OutlivedOne as outlived_one
use Rattle.alp_history.proofs.OutlivedTwo as outlived_two
use Rattle.alp_history.proofs.FoundOne as found_one
use Rattle.alp_history.proofs.FoundTwo as found_two
use Rattle.alp_history.proofs.CutOne as cut_one
use Rattle.alp_history.proofs.CutTwo as cut_two
use Rattle.alp_history.proofs.WaitsOne as waits_one
use Rattle.alp_history.proofs.BroughtOne as brought

pub lawful : AreLawfulJournals
lawful = record {
  repeated_one = repeated_one.lawful;
  repeated_two = repeated_two.lawful;
  rejoined_one = rejoined_one.lawful;
  rejoined_two = rejoined_two.lawful;
  outlived_one = outlived_one.lawful;
  outlived_two = outlived_two.lawful;
  found_one = found_one.lawful;
  found_two = found_two.lawful;
  cut_one = cut_one.lawful;
  cut_two = cut_two.lawful;
  waits_one = waits_one.lawful;
  brought = (brought.lawful, brought.answered);
}
