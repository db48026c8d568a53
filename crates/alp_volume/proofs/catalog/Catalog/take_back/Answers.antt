use Rattle.std.proofs.Common.{List, ◌++◌, ◌∷◌, [], sym, subst}
use Rattle.alp_volume.specs.declared.catalog.Catalog.{Catalog}
use Rattle.alp_volume.specs.declared.undo.Undo.{Undo}
use Rattle.alp_volume.specs.Undone.{Leads}
use Rattle.alp_volume.proofs.UndoLaws.{pop_leads}
use Rattle.alp_volume.proofs.catalog.Catalog.take_back.Goals as goal

pub undo-requires : goal.undo-requires
undo-requires c =
    let first = c.requires.led.0 in
    (pop_leads c.pop.new.self.items c.in-Some.undo c.loop-undo.self first (subst (λ (us : List Undo). Leads us c.loop-undo.self first) c.in-Some.ensures.items (c.loop-undo.invariant first c.requires.led.1))).0

pub loop-undo-preserved : goal.loop-undo-preserved
loop-undo-preserved c first led =
    subst (λ (k : Catalog). Leads c.pop.new.self.items k first) (sym c.undo.ensures)
    (pop_leads c.pop.new.self.items c.in-Some.undo c.loop-undo.self first (subst (λ (us : List Undo). Leads us c.loop-undo.self first) c.in-Some.ensures.items (c.loop-undo.invariant first led))).1
