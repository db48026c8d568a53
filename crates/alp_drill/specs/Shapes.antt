-- how large the servers, owners and files of a script are that is made
use Rattle.std.specs.Prelude.{ℕ, ◌*◌, ◌<◌, ◌≤◌}
use Rattle.alp_drill.specs.declared.shape.Shape.{Shape}

-- each number is from the least to the most
pub record IsShape (shape : Shape) : Type 0 where
  pub some_servers : 0 < shape.servers
  pub few_servers : shape.servers ≤ 8
  pub some_owners : 0 < shape.owners
  pub few_owners : shape.owners ≤ 15
  pub some_groups : 0 < shape.groups
  pub few_groups : shape.groups ≤ 20
  pub some_pages : 0 < shape.pages
  pub few_pages : shape.pages ≤ 900

-- each group has ten files
abbrev pub files_of : Shape → ℕ
files_of shape = 10 * shape.groups

-- three servers, eight owners, and two hundred files of up to 900 pages
abbrev pub drill_shape : Shape
drill_shape = record { servers = 3; owners = 8; groups = 20; pages = 900 }
