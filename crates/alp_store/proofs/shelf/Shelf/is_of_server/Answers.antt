use Rattle.std.specs.Prelude.{true, false, ◌&&◌, ◌==◌, nat_le}
use Rattle.std.specs.List.{list_all}
use Rattle.std.proofs.Common.{◌≡◌, ◌≤◌, ℕ, List, sym, ◌∙◌, subst}
use Rattle.alp_base.specs.declared.ids.FileId.{FileId}
use Rattle.alp_wal.specs.Wal.{anchor_of}
use Rattle.alp_store.specs.Shelves.{shelf_log}
use Rattle.alp_store.specs.Told.{pages_of, told_by, contents_of}
use Rattle.alp_store.proofs.GivenLaws.{all_given, not_given}
use Rattle.alp_store.proofs.shelf.Shelf.is_of_server.Goals as goal

pub returns-clause-yes : goal.returns-clause-yes
returns-clause-yes g c told all =
    let s = c.args.self.now in
    let epoch = c.in_ok-epoch.epoch in
    let is = c.requires.knows told in
    let each = all_given c.args.server epoch (anchor_of (shelf_log s)).sizes.home (pages_of (told_by g.D.Disk (shelf_log s))) (contents_of g.D.Disk (shelf_log s)).cells is.stands s.catalog is.knows
    (subst (λ (fs : List FileId). list_all (λ (f : FileId). f.server == c.args.server && nat_le f.epoch epoch) fs ≡ true) c.ids.ensures (sym c.are_given.ensures ∙ all)) in
    record {
      notes = c.in_ok-noted.ensures.good c.if-not-noted.false;
      files = λ f x there. (let own = each f x there in (own.0, subst (λ (e : ℕ). f.epoch ≤ e) c.in_ok-epoch.ensures own.1));
    }

pub returns-clause-other : goal.returns-clause-other
returns-clause-other g c told none own =
    let s = c.args.self.now in
    let epoch = c.in_ok-epoch.epoch in
    let is = c.requires.knows told in
    not_given c.args.server epoch (anchor_of (shelf_log s)).sizes.home (pages_of (told_by g.D.Disk (shelf_log s))) (contents_of g.D.Disk (shelf_log s)).cells is.stands s.catalog is.knows
    (subst (λ (fs : List FileId). list_all (λ (f : FileId). f.server == c.args.server && nat_le f.epoch epoch) fs ≡ false) c.ids.ensures (sym c.are_given.ensures ∙ none))
    (λ f x there. (let o = own.files f x there in (o.0, subst (λ (e : ℕ). f.epoch ≤ e) (sym c.in_ok-epoch.ensures) o.1)))

pub returns-clause-notes : goal.returns-clause-notes
returns-clause-notes g c given = c.in_ok-noted.ensures.good c.if-not-noted.false

pub returns-then-not-noted-clause-other : goal.returns-then-not-noted-clause-other
returns-then-not-noted-clause-other g c told it own = c.in_ok-noted.ensures.bad c.if-not-noted.true own.notes
