-- the properties of a file as a field: one after the other, as they are declared
use Rattle.std.specs.Prelude.{ℕ, List}
use Rattle.alp_fields.specs.Forms.{Form, pair, mapped, u16, u32, u64}
use Rattle.alp_fields.specs.Fields.{name, list}
use Rattle.alp_base.specs.declared.cell.Props.{Props}

-- type, create time, length in bytes, size and high-water mark
abbrev pub Numbers : Type 0
Numbers = ℕ × (ℕ × (ℕ × (ℕ × ℕ)))

abbrev pub numbers_of : Props → Numbers
numbers_of p = (p.type_no, (p.create_time, (p.byte_length, (p.size, p.high_water))))

unfoldable pub numbers : Form Numbers
numbers = pair u16 (pair u64 (pair u64 (pair u32 u32)))

-- owner, name, the numbers, and the two lists
abbrev pub PropsParts : Type 0
PropsParts = List ℕ × (List ℕ × (Numbers × (List (List ℕ) × List (List ℕ))))

abbrev pub props_of : PropsParts → Props
props_of x = record {
  owner = x.0;
  name = x.1.0;
  type_no = x.1.1.0.0;
  create_time = x.1.1.0.1.0;
  byte_length = x.1.1.0.1.1.0;
  size = x.1.1.0.1.1.1.0;
  high_water = x.1.1.0.1.1.1.1;
  read = x.1.1.1.0;
  modify = x.1.1.1.1;
}

abbrev pub parts_of : Props → PropsParts
parts_of p = (p.owner, (p.name, (numbers_of p, (p.read, p.modify))))

unfoldable pub props : Form Props
props = mapped props_of parts_of (pair name (pair name (pair numbers (pair list list))))
