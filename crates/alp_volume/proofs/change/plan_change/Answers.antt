use Rattle.std.specs.FinMap as map
use Rattle.std.specs.FinMap.{len-empty}
use Rattle.std.specs.Ordering.{nat_cmp}
use Rattle.std.proofs.Common.{List, ℕ, [], refl, sym, ◌∙◌, ap, subst, arith}
use Rattle.alp_volume.specs.declared.catalog.Catalog.{Catalog}
use Rattle.alp_volume.specs.declared.undo.Undo.{Undo}
use Rattle.alp_volume.specs.Known.{IsCatalog}
use Rattle.alp_volume.specs.Undone.{Leads}
use Rattle.alp_volume.proofs.PlanLaws.{first_draft, planned, starts_paged, ends_paged}
use Rattle.alp_volume.proofs.change.plan_change.Goals as goal

pub take_back-requires : goal.take_back-requires
take_back-requires g c =
    let catalog = c.args.catalog.now in
    record { led = (catalog, c.make_change.ensures.back catalog (subst (λ (us : List Undo). Leads us catalog catalog) (sym c.new-draft.ensures.undos) refl)) }

pub returns-in-Err-clause-same : goal.returns-in-Err-clause-same
returns-in-Err-clause-same g c =
    let catalog = c.args.catalog.now in
    c.take_back.ensures catalog (c.make_change.ensures.back catalog (subst (λ (us : List Undo). Leads us catalog catalog) (sym c.new-draft.ensures.undos) refl))

pub returns-in-Err-clause-sized : goal.returns-in-Err-clause-sized
returns-in-Err-clause-sized g c =
    let catalog = c.args.catalog.now in
    let same = c.take_back.ensures catalog (c.make_change.ensures.back catalog (subst (λ (us : List Undo). Leads us catalog catalog) (sym c.new-draft.ensures.undos) refl)) in
    subst (λ (k : Catalog). IsCatalog (g.R.PageReader.home c.args.reader.now) k) (sym same) c.requires.sized

pub returns-in-Ok-clause-planned : goal.returns-in-Ok-clause-planned
returns-in-Ok-clause-planned g c m stands tells knows sound =
    let home = g.R.PageReader.home c.args.reader.now in
    let base = g.R.PageReader.pages c.args.reader.now in
    planned home base c.make_change.new.draft.pages m c.args.change.now c.make_change.new.catalog sound
    (c.in-Ok.ensures.made _ tells (first_draft home base m stands c.args.catalog.now knows c.new-draft.result.pages c.new-draft.ensures.pages) (starts_paged home base m stands) (ends_paged m c.args.change.now sound))

pub returns-in-Ok-clause-few : goal.returns-in-Ok-clause-few
returns-in-Ok-clause-few g c = omega (arith, c.make_change.ensures.few, ap map.len c.new-draft.ensures.pages ∙ len-empty nat_cmp (List ℕ))
