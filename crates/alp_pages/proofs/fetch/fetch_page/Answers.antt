use Rattle.std.specs.Prelude.{Some, Bool, IsTrue}
use Rattle.std.proofs.Common.{◌≡◌, sym, ◌∙◌, ap, subst, arith, ◌/◌, ◌%◌, ℕ, List}
use Rattle.alp_base.specs.declared.cell.Cell.TheVariants as cell
use Rattle.alp_pages.specs.Nodes.{IndexOf}
use Rattle.alp_pages.specs.Pages.{Pages}
use Rattle.alp_pages.specs.Fetch.{named_by}
use Rattle.alp_pages.proofs.FetchLaws.{no_index, index_within, no_page, page_within, the_page}
use Rattle.alp_pages.proofs.fetch.fetch_page.Goals as goal

pub returns-in_default-clause-page : goal.returns-in_default-clause-page
returns-in_default-clause-page g c v m tells s leader =
    no_index c.args.home (g.R.PageReader.pages c.args.reader.now) v m c.args.file c.args.number c.args.leader_at s leader c.requires.number (c.in_ok-index_at.ensures.place tells) c.in_default.is

pub returns-then-index_at-home-clause-page : goal.returns-then-index_at-home-clause-page
returns-then-index_at-home-clause-page g c v m tells s leader =
    let low = index_within c.args.home (g.R.PageReader.pages c.args.reader.now) v m c.args.file c.args.number c.args.leader_at s leader c.requires.number c.in-Some.index_at (sym c.in-Some.is ∙ c.in_ok-index_at.ensures.place tells) in
    absurd (omega arith)

pub returns-in_default-2-clause-page : goal.returns-in_default-2-clause-page
returns-in_default-2-clause-page g c v m tells s leader =
    let r0 = c.args.reader.now in
    let r1 = c.index_place.new.reader in
    let same : g.R.PageReader.pages r1 ≡ g.R.PageReader.pages r0 = g.met.R.PageReader.same_pages r0 r1 c.in_ok-index_at.ensures.read.on in
    let told : IsTrue (g.R.PageReader.tells r1) = subst (λ (t : Bool). IsTrue t) (sym (g.met.R.PageReader.same_tells r0 r1 c.in_ok-index_at.ensures.read.on)) tells in
    let place = c.in_ok-place.ensures.place told ∙ ap (λ (x : Pages). named_by x (IndexOf c.args.file (c.args.number / 128)) (Some c.in-Some.index_at) (c.args.number % 128)) same in
    no_page c.args.home (g.R.PageReader.pages r0) v m c.args.file c.args.number c.args.leader_at s leader c.requires.number c.in-Some.index_at (sym c.in-Some.is ∙ c.in_ok-index_at.ensures.place tells) place c.in_default-2.is

pub returns-then-place-home-clause-page : goal.returns-then-place-home-clause-page
returns-then-place-home-clause-page g c v m tells s leader =
    let r0 = c.args.reader.now in
    let r1 = c.index_place.new.reader in
    let same : g.R.PageReader.pages r1 ≡ g.R.PageReader.pages r0 = g.met.R.PageReader.same_pages r0 r1 c.in_ok-index_at.ensures.read.on in
    let told : IsTrue (g.R.PageReader.tells r1) = subst (λ (t : Bool). IsTrue t) (sym (g.met.R.PageReader.same_tells r0 r1 c.in_ok-index_at.ensures.read.on)) tells in
    let place = c.in_ok-place.ensures.place told ∙ ap (λ (x : Pages). named_by x (IndexOf c.args.file (c.args.number / 128)) (Some c.in-Some.index_at) (c.args.number % 128)) same in
    let low = page_within c.args.home (g.R.PageReader.pages r0) v m c.args.file c.args.number c.args.leader_at s leader c.requires.number c.in-Some.index_at (sym c.in-Some.is ∙ c.in_ok-index_at.ensures.place tells) c.in-Some-2.place (sym c.in-Some-2.is ∙ place) in
    absurd (omega arith)

pub returns-clause-page : goal.returns-clause-page
returns-clause-page g c v m tells s leader =
    let r0 = c.args.reader.now in
    let r1 = c.index_place.new.reader in
    let r2 = c.page_place.new.reader in
    let same : g.R.PageReader.pages r1 ≡ g.R.PageReader.pages r0 = g.met.R.PageReader.same_pages r0 r1 c.in_ok-index_at.ensures.read.on in
    let told : IsTrue (g.R.PageReader.tells r1) = subst (λ (t : Bool). IsTrue t) (sym (g.met.R.PageReader.same_tells r0 r1 c.in_ok-index_at.ensures.read.on)) tells in
    let place = c.in_ok-place.ensures.place told ∙ ap (λ (x : Pages). named_by x (IndexOf c.args.file (c.args.number / 128)) (Some c.in-Some.index_at) (c.args.number % 128)) same in
    let still : g.R.PageReader.pages r2 ≡ g.R.PageReader.pages r0 = g.met.R.PageReader.same_pages r1 r2 c.in_ok-place.ensures.read.on ∙ same in
    let tells2 : IsTrue (g.R.PageReader.tells r2) = subst (λ (t : Bool). IsTrue t) (sym (g.met.R.PageReader.same_tells r1 r2 c.in_ok-place.ensures.read.on)) told in
    let bytes : c.in_ok-page.field-0 ≡ g.R.PageReader.pages r0 c.in-Some-2.place = c.in_ok-page.ensures.page tells2 ∙ ap (λ (x : Pages). x c.in-Some-2.place) still in
    ap (λ (x : List ℕ). Some (cell.Page x)) bytes
    ∙ the_page c.args.home (g.R.PageReader.pages r0) v m c.args.file c.args.number c.args.leader_at s leader c.requires.number c.in-Some.index_at (sym c.in-Some.is ∙ c.in_ok-index_at.ensures.place tells) c.in-Some-2.place (sym c.in-Some-2.is ∙ place)
