use Rattle.alp_files.specs.Edits.{edits_map}
use Rattle.alp_calls.proofs.CountLaws.{counts_stay}
use Rattle.alp_calls.proofs.FrameLemmas.{apart_agrees}
use Rattle.alp_calls.proofs.laws.counts_stay_where_others_commit.Goals as goal

pub returns : goal.returns
returns c = λ m es others n apart are. counts_stay m (edits_map others m) es n (apart_agrees m es others apart) are
