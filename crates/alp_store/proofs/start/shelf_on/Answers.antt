use Rattle.std.specs.Prelude.{IsTrue}
use Rattle.std.proofs.Common.{sym, subst}
use Rattle.alp_store.specs.Shelves.{shelf_log}
use Rattle.alp_store.proofs.CreateLaws.{noted_empty}
use Rattle.alp_store.proofs.MakingLaws.{only_looked, formatted_on}
use Rattle.alp_store.proofs.start.shelf_on.Goals as goal

pub returns-in-Ok-true-clause-notes : goal.returns-in-Ok-true-clause-notes
returns-in-Ok-true-clause-notes g c = noted_empty c.args.server c.args.servers c.create.result c.create.ensures.none

pub returns-in-Ok-true-clause-new : goal.returns-in-Ok-true-clause-new
returns-in-Ok-true-clause-new g c told is =
    let there = subst IsTrue (sym c.is_new.ensures.read.tells) told in
    formatted_on g.D.Disk c.args.server c.args.servers c.args.sizes g.met.D.Disk.only_now c.args.disk c.is_new.new.disk c.is_new.ensures.read (λ s. shelf_log s) c.create.result (c.create.ensures.formatted there)

pub returns-in-Err-Failed-clause-new : goal.returns-in-Err-Failed-clause-new
returns-in-Err-Failed-clause-new g c told is = record {
  empty = tt;
  anchor = tt;
  volume = tt;
  memory = λ same. (let wrong : ⊥ = cc in absurd wrong);
  made = tt;
  refused = only_looked g.D.Disk c.args.server c.args.servers c.args.sizes g.met.D.Disk.only_now c.args.disk c.is_new.new.disk c.is_new.ensures.read;
}

pub returns-in-Err-Stopped-clause-new : goal.returns-in-Err-Stopped-clause-new
returns-in-Err-Stopped-clause-new g c told is = record {
  empty = tt;
  anchor = tt;
  volume = tt;
  memory = λ same. (let wrong : ⊥ = cc in absurd wrong);
  made = tt;
  refused = only_looked g.D.Disk c.args.server c.args.servers c.args.sizes g.met.D.Disk.only_now c.args.disk c.is_new.new.disk c.is_new.ensures.read;
}
