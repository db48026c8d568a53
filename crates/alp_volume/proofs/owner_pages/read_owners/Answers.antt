use Rattle.std.specs.Prelude.{Bool, true, false, ◌&&◌, IsTrue, Ok}
use Rattle.std.proofs.Common.{◌≡◌, ◌∙◌, ◌∷◌, ℕ, ◌+◌, List, refl, sym, ap, subst, arith}
use Rattle.alp_pages.specs.Pages.{Pages, row_in}
use Rattle.alp_pages.specs.Damage.{Part, OwnerRow, Name, is_right, is_right_row}
use Rattle.alp_volume.specs.Reached.{AreOwners, AreCosts, rows_from}
use Rattle.alp_volume.proofs.LoopLaws.{Along, along_begins, along_more, along_stops, along_done, rows_step, rows_end, read_none, read_then, read_ok}
use Rattle.alp_volume.proofs.owner_pages.read_owners.Goals as goal

whole : (b : Bool) → (b && true) ≡ b
whole true = refl
whole false = refl

pub loop-row-init : goal.loop-row-init
loop-row-init g c = record {
  read = read_none g.met.R.PageReader.still c.args.reader.now;
  few = omega (arith, c.requires.empty);
  files = (refl, refl);
  places = refl;
  sized = λ home sized. sized;
  told = λ home names tells costs owned. (along_begins home (g.R.PageReader.pages c.args.reader.now) names (rows_from 0), owned);
}

pub loop-row-preserved : goal.loop-row-preserved
loop-row-preserved g c =
    let r0 = c.args.reader.now in
    let r1 = c.loop-row.reader in
    let inv = c.loop-row.invariant in
    let same : g.R.PageReader.pages r1 ≡ g.R.PageReader.pages r0 = g.met.R.PageReader.same_pages r0 r1 inv.read.on in
    let telling : g.R.PageReader.tells r1 ≡ g.R.PageReader.tells r0 = g.met.R.PageReader.same_tells r0 r1 inv.read.on in
    record {
      read = read_ok g.met.R.PageReader.then_on r0 c.read_row.new.reader c.in_ok-found.found tt (read_then g.met.R.PageReader.then_on r0 r1 c.read_row.new.reader tt (Ok c.in_ok-found.found) inv.read c.in_ok-found.ensures.read);
      few = omega (arith, inv.few, c.add_owner.ensures.few);
      files = (c.add_owner.ensures.files.0 ∙ inv.files.0, c.add_owner.ensures.files.1 ∙ inv.files.1);
      places = c.add_owner.ensures.places ∙ inv.places;
      sized = λ home sized. c.add_owner.ensures.sized home (inv.sized home sized);
      told = λ home names tells costs owned.
          let t = inv.told home names tells costs owned in
          let at = g.R.PageReader.pages r0 in
          let found : c.in_ok-found.found ≡ row_in at c.loop-row.row = c.in_ok-found.ensures.row (subst (λ (b : Bool). IsTrue b) (sym telling) tells) ∙ ap (λ (x : Pages). row_in x c.loop-row.row) same in
          let right : is_right home at names (OwnerRow c.loop-row.row) ≡ true = whole (is_right_row at c.loop-row.row (row_in at c.loop-row.row)) ∙ sym (c.add_owner.ensures.judged at found costs t.1) ∙ c.if-not-add_owner.false in (
            along_more home at names (rows_from 0) (OwnerRow c.loop-row.row) (rows_from (c.loop-row.row + 1)) names (subst (λ (ps : List Part). Along home at names (rows_from 0) ps names) (rows_step c.loop-row.row c.loop-row-test.true) t.0) right,
            c.add_owner.ensures.owned at found t.1 c.if-not-add_owner.false,
          );
    }

pub returns-then-not-add_owner-clause-judged : goal.returns-then-not-add_owner-clause-judged
returns-then-not-add_owner-clause-judged g c home names tells costs owned =
    let r0 = c.args.reader.now in
    let r1 = c.loop-row.reader in
    let inv = c.loop-row.invariant in
    let same : g.R.PageReader.pages r1 ≡ g.R.PageReader.pages r0 = g.met.R.PageReader.same_pages r0 r1 inv.read.on in
    let telling : g.R.PageReader.tells r1 ≡ g.R.PageReader.tells r0 = g.met.R.PageReader.same_tells r0 r1 inv.read.on in
    let t = inv.told home names tells costs owned in
    let at = g.R.PageReader.pages r0 in
    let found : c.in_ok-found.found ≡ row_in at c.loop-row.row = c.in_ok-found.ensures.row (subst (λ (b : Bool). IsTrue b) (sym telling) tells) ∙ ap (λ (x : Pages). row_in x c.loop-row.row) same in
    along_stops home at names (rows_from 0) (OwnerRow c.loop-row.row) (rows_from (c.loop-row.row + 1)) names (subst (λ (ps : List Part). Along home at names (rows_from 0) ps names) (rows_step c.loop-row.row c.loop-row-test.true) t.0)
    (whole (is_right_row at c.loop-row.row (row_in at c.loop-row.row)) ∙ sym (c.add_owner.ensures.judged at found costs t.1) ∙ c.if-not-add_owner.true)

pub returns-clause-judged : goal.returns-clause-judged
returns-clause-judged g c home names tells costs owned =
    let at = g.R.PageReader.pages c.args.reader.now in
    let t = c.loop-row.invariant.told home names tells costs owned in
    let end : c.loop-row.row ≡ 256 = omega arith in
    let done = along_done home at names (rows_from 0) names (subst (λ (ps : List Part). Along home at names (rows_from 0) ps names) (rows_end c.loop-row.row (omega arith)) t.0) in
    (done.0, (done.1, subst (λ (n : ℕ). AreOwners at n c.loop-row.catalog.owners c.loop-row.catalog.rows) end t.1))

pub returns-then-not-add_owner-clause-sized : goal.returns-then-not-add_owner-clause-sized
returns-then-not-add_owner-clause-sized g c home sized = c.add_owner.ensures.sized home (c.loop-row.invariant.sized home sized)
