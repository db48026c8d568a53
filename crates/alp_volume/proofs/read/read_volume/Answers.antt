use Rattle.std.specs.Prelude.{Some, None, Option}
use Rattle.std.proofs.Common.{◌≡◌, ◌∙◌, [], ℕ, List, sym, ap, subst}
use Rattle.alp_pages.specs.Damage.{Name, damage_of, first_wrong, parts}
use Rattle.alp_volume.specs.Reached.{IsJudged}
use Rattle.alp_volume.specs.Known.{IsRead}
use Rattle.alp_volume.proofs.KnownLaws.{damage_is, known_volume}
use Rattle.alp_volume.proofs.read.read_volume.Goals as goal

pub returns-in-Some-clause-damaged : goal.returns-in-Some-clause-damaged
returns-in-Some-clause-damaged g c place tells is =
    let at = g.R.PageReader.pages c.args.reader.now in
    let judged = subst (λ (o : Option ℕ). IsJudged c.args.home at [] (parts at) (λ ns. IsRead c.args.home at ns c.judge_volume.new.catalog) o) c.in-Some.is (c.in_ok-place.ensures.judged tells) in
    let same : c.in-Some.place ≡ place = cc in
    damage_is c.args.home at ∙ judged ∙ ap Some same

pub returns-in-None-clause-known : goal.returns-in-None-clause-known
returns-in-None-clause-known g c m standing tells =
    let at = g.R.PageReader.pages c.args.reader.now in
    known_volume c.args.home at c.judge_volume.new.catalog (subst (λ (o : Option ℕ). IsJudged c.args.home at [] (parts at) (λ ns. IsRead c.args.home at ns c.judge_volume.new.catalog) o) c.in-None.is (c.in_ok-place.ensures.judged tells)) m standing

pub returns-in-None-clause-right : goal.returns-in-None-clause-right
returns-in-None-clause-right g c tells =
    let at = g.R.PageReader.pages c.args.reader.now in
    damage_is c.args.home at ∙ (subst (λ (o : Option ℕ). IsJudged c.args.home at [] (parts at) (λ ns. IsRead c.args.home at ns c.judge_volume.new.catalog) o) c.in-None.is (c.in_ok-place.ensures.judged tells)).0
