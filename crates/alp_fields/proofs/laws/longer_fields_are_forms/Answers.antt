use Rattle.alp_fields.specs.Fields.{name}
use Rattle.alp_fields.proofs.FormLaws.{bytes_law, repeated_law}
use Rattle.alp_fields.proofs.FieldLaws.{name_law, list_law, page_law, pages_law, key_law, resource_law}
use Rattle.alp_fields.proofs.FixedLaws.{name_field_law, list_field_law}
use Rattle.alp_fields.proofs.laws.longer_fields_are_forms.Goals as goal

pub returns : goal.returns
returns c = record {
  bytes = bytes_law;
  name = name_law;
  list = list_law;
  page = page_law;
  pages = pages_law;
  name_field = name_field_law;
  list_field = list_field_law;
  key = key_law;
  resource = resource_law;
  names = λ n. repeated_law name n name_law;
}
