use Rattle.alp_fields.proofs.FieldLaws.{u8_law, u16_law, u32_law, u64_law, file_id_law, trans_id_law, join_no_law, stamp_law, run_law, choice_law, access_law, flag_law}
use Rattle.alp_fields.proofs.laws.fields_are_forms.Goals as goal

pub returns : goal.returns
returns c = record {
  byte = u8_law;
  short = u16_law;
  word = u32_law;
  long = u64_law;
  file_id = file_id_law;
  trans_id = trans_id_law;
  join_no = join_no_law;
  stamp = stamp_law;
  run = run_law;
  choice = choice_law;
  access = access_law;
  flag = flag_law;
}
