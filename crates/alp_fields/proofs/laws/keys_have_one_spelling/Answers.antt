use Rattle.alp_fields.specs.Fields.{key}
use Rattle.alp_fields.proofs.FormLaws.{spelling_is_one}
use Rattle.alp_fields.proofs.FieldLaws.{key_law}
use Rattle.alp_fields.proofs.laws.keys_have_one_spelling.Goals as goal

pub returns : goal.returns
returns c = spelling_is_one key key_law
