use Rattle.std.specs.Prelude.{slice_index_or}
use Rattle.std.specs.Option.{option_copied}
use Rattle.std.proofs.Common.{◌≡◌, Some, None, refl, sym, ◌∙◌, ap}
use Rattle.alp_wal.specs.Wal.{index_of}
use Rattle.alp_pool.specs.Pools.{log_of, device_of}
use Rattle.alp_pool.proofs.Logged.{logged_is_held, still_pool}
use Rattle.alp_pool.proofs.pool.Pool.logged_page.Goals as goal

pub returns-in-Some-clause-page : goal.returns-in-Some-clause-page
returns-in-Some-clause-page g c told =
    let there : slice_index_or (index_of (log_of c.args.self.now)) c.args.at None ≡ Some c.in-Some.image.now = sym c.logged.ensures ∙ ap option_copied c.in-Some.is in
    c.in_ok-share.ensures ∙ logged_is_held (log_of c.args.self.now) (g.D.Disk.seen (device_of c.args.self.now)) c.args.at c.in-Some.image.now c.requires.at there

pub returns-in_ok-new-in-Ok-clause-pool : goal.returns-in_ok-new-in-Ok-clause-pool
returns-in_ok-new-in-Ok-clause-pool g c =
    let read = c.read_page.ensures in
    still_pool g.D.Disk c.args.self.now _ c.requires.pool read.log read.known read.same read.below refl

pub returns-in_err-new-in-Ok-clause-pool : goal.returns-in_err-new-in-Ok-clause-pool
returns-in_err-new-in-Ok-clause-pool g c =
    let read = c.read_page.ensures in
    still_pool g.D.Disk c.args.self.now _ c.requires.pool read.log read.known read.same read.below refl

pub returns-in-Err-Failed-clause-pool : goal.returns-in-Err-Failed-clause-pool
returns-in-Err-Failed-clause-pool g c =
    let read = c.read_page.ensures in
    still_pool g.D.Disk c.args.self.now _ c.requires.pool read.log read.known read.same read.below refl

pub returns-in-Err-Stopped-clause-pool : goal.returns-in-Err-Stopped-clause-pool
returns-in-Err-Stopped-clause-pool g c =
    let read = c.read_page.ensures in
    still_pool g.D.Disk c.args.self.now _ c.requires.pool read.log read.known read.same read.below refl
