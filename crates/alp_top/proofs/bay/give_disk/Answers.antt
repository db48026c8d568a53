use Rattle.std.specs.Prelude.{IsTrue}
use Rattle.std.proofs.Common.{◌≡◌, ℕ, sym, ◌∙◌, ap, subst, arith}
use Rattle.alp_top.proofs.bay.give_disk.Goals as goal

pub give-requires-clause-long : goal.give-requires-clause-long
give-requires-clause-long g c =
    let same : g.B.Device.Disk.size c.stop_after.new.self ≡ g.B.Device.Disk.size c.into_inner-device.result = c.stop_after.ensures.size in
    let inner = ap g.B.Device.Disk.size c.into_inner-device.ensures in
    omega (arith, same, inner, c.requires.long)

pub give-requires-clause-told : goal.give-requires-clause-told
give-requires-clause-told g c told = subst IsTrue (sym (c.stop_after.ensures.tells ∙ ap g.B.Device.Disk.tells c.into_inner-device.ensures)) (c.requires.told told)

pub returns-clause-given : goal.returns-clause-given
returns-clause-given g c =
    let h = g.B.Device.Disk in
    let inner = c.into_inner-device.ensures in
    record {
      device = c.stop_after.new.self;
      alike = record {
        telling = c.stop_after.ensures.tells ∙ ap h.tells inner;
        size = c.stop_after.ensures.size ∙ ap h.size inner;
        seen = c.stop_after.ensures.seen ∙ ap h.seen inner;
        faults = c.stop_after.ensures.faults ∙ ap h.faults inner;
        leaves = record {
          no_more = λ i left. subst (λ (q : g.row.B-Device.Denot). h.may_leave q i) inner (c.stop_after.ensures.crash.no_more i left);
          no_fewer = λ i left. c.stop_after.ensures.crash.no_fewer i (subst (λ (q : g.row.B-Device.Denot). h.may_leave q i) (sym inner) left);
        };
      };
      filled = λ told. c.give.ensures.given told;
    }
