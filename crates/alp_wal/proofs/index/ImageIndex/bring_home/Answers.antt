use Rattle.std.proofs.Common.{List, ℕ, length, sym, ◌∙◌, ap, subst, arith}
use Rattle.std.specs.Prelude.{OnOk}
use Rattle.alp_base.specs.Crashes.{After, Adds}
use Rattle.alp_wal.specs.Home.{Index, SameUnlogged, BroughtHome}
use Rattle.alp_wal.specs.Logged.{AreListed}
use Rattle.alp_wal.proofs.index.ImageIndex.bring_home.Goals as goal

pub bring_home-requires-clause-room : goal.bring_home-requires-clause-room
bring_home-requires-clause-room g c = omega (arith, c.requires, ap length (c.as_slice.ensures.value ∙ c.self.view_is))

pub bring_home-requires-clause-listed : goal.bring_home-requires-clause-listed
bring_home-requires-clause-listed g c = subst (λ (t : List ℕ × Index). AreListed t.0 t.1) (λ i. (sym c.as_slice-2.ensures.value i, sym c.as_slice.ensures.value i)) c.self.invariant.listed

pub returns-clause-home : goal.returns-clause-home
returns-clause-home g c told =
    subst (λ (x : Index). OnOk c.bring_home.result (BroughtHome c.args.first (length x) x (g.D.Disk.seen c.args.disk.now) (g.D.Disk.seen c.bring_home.new.disk))) (c.as_slice.ensures.value ∙ c.self.view_is) (c.bring_home.ensures.home told)

pub returns-clause-any_moment : goal.returns-clause-any_moment
returns-clause-any_moment g c =
    subst (λ (x : Index). Adds g.D.Disk.left_since c.args.disk.now c.bring_home.new.disk (After (SameUnlogged c.args.first x) (g.D.Disk.may_leave c.args.disk.now))) (c.as_slice.ensures.value ∙ c.self.view_is) c.bring_home.ensures.any_moment
