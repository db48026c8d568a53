use Rattle.alp_fields.proofs.PlaceLemmas.{name_field_some, name_field_none}
use Rattle.alp_fields.proofs.places.set_name_field.Goals as goal

pub returns-in-Some : goal.returns-in-Some
returns-in-Some c = rw c.in-Some.is (name_field_some c.in-Some.name c.args.at c.args.out.now c.set_named_field.new.out c.set_named_field.ensures)

pub returns-in-None : goal.returns-in-None
returns-in-None c = rw c.in-None.is (name_field_none c.args.at c.args.out.now c.set_zeros.new.out c.set_zeros.ensures)
