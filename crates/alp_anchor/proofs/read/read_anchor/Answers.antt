use Rattle.std.proofs.Common.{IsTrue, List, ℕ, take, refl, sym, ◌∙◌, ap, subst}
use Rattle.alp_disk.specs.Disk.{Image, page}
use Rattle.alp_anchor.proofs.Choices.{chosen_counts, chosen_own, none_counts, reads_as, ok_map, err_map, found_as}
use Rattle.alp_anchor.proofs.read.read_anchor.Goals as goal

pub returns-clause-counts : goal.returns-clause-counts
returns-clause-counts g c told =
    let image = g.D.Disk.seen c.args.disk.now in
    let told2 = subst IsTrue (sym c.read.ensures.tells) told in
    let first = found_as c.args.server c.args.servers 0 _ _ _ _ _ c.pages-pages.ensures (c.in_ok-read.ensures.bytes told) c.own_anchor-first.ensures in
    let second = found_as c.args.server c.args.servers 1 _ _ _ _ _ c.pages-pages.ensures (c.in_ok-read-2.ensures.bytes told2 ∙ ap (λ (i : Image). page i 1) c.read.ensures.seen) c.own_anchor-second.ensures in
    ok_map c.choose.result _ _ (λ a. chosen_counts c.args.server c.args.servers _ image _ _ a first second) c.choose.ensures.ok

pub returns-clause-why_not : goal.returns-clause-why_not
returns-clause-why_not g c told =
    let image = g.D.Disk.seen c.args.disk.now in
    let told2 = subst IsTrue (sym c.read.ensures.tells) told in
    let first = found_as c.args.server c.args.servers 0 _ _ _ _ _ c.pages-pages.ensures (c.in_ok-read.ensures.bytes told) c.own_anchor-first.ensures in
    let second = found_as c.args.server c.args.servers 1 _ _ _ _ _ c.pages-pages.ensures (c.in_ok-read-2.ensures.bytes told2 ∙ ap (λ (i : Image). page i 1) c.read.ensures.seen) c.own_anchor-second.ensures in
    err_map c.choose.result _ _ (λ e. none_counts c.args.server c.args.servers _ image _ _ _ e (c.front-found.ensures ∙ ap (λ (p : List ℕ). take 24 p) (c.in_ok-read.ensures.bytes told)) first second) c.choose.ensures.err

pub returns-clause-own : goal.returns-clause-own
returns-clause-own g c =
    let first = found_as c.args.server c.args.servers 0 _ _ _ _ _ c.pages-pages.ensures refl c.own_anchor-first.ensures in
    let second = found_as c.args.server c.args.servers 1 _ _ _ _ _ c.pages-pages.ensures refl c.own_anchor-second.ensures in
    ok_map c.choose.result _ _ (λ a. chosen_own c.args.server c.args.servers _ _ _ _ _ a first second) c.choose.ensures.ok

pub returns-clause-exact : goal.returns-clause-exact
returns-clause-exact g c told a counts server servers =
    reads_as _ _ _ _ a counts server servers c.choose.result (returns-clause-counts g c told) (returns-clause-own g c) (returns-clause-why_not g c told)
