use Rattle.std.specs.Prelude.{Bool, IsTrue, Some, None, Option, IfOk, ◌++◌}
use Rattle.std.specs.FinMap as map
use Rattle.std.proofs.Common.{◌≡◌, ◌∙◌, ◌∷◌, [], ℕ, List, refl, sym, ap, subst, arith}
use Rattle.alp_pages.specs.Pages.{Pages}
use Rattle.alp_pages.specs.Damage.{Part, Header, Name, names_after, parts}
use Rattle.alp_volume.specs.Reached.{AreListed, AreMarks, AreNamed, AreOwners, AreWithin, IsJudged, rows_from, slots_from, files_from}
use Rattle.alp_volume.specs.Known.{IsRead}
use Rattle.alp_volume.proofs.LoopLaws.{Along, along_begins, along_segment, along_segment_stops, parts_are}
use Rattle.alp_volume.proofs.KnownLaws.{finish}
use Rattle.alp_volume.proofs.BlankLaws.{blank_marks, blank_listed, blank_owned, no_files, no_owners, none_named, all_within}
use Rattle.alp_volume.proofs.SizedLaws.{blank_sized}
use Rattle.alp_volume.proofs.read.judge_volume.Goals as goal

-- the parts that are left after each of the three
start : (home : ℕ) (at : Pages) → Along home at [] (parts at) ((Header ∷ slots_from 0) ++ (rows_from 0 ++ files_from at 0)) []
start home at = subst (λ (ps : List Part). Along home at [] (parts at) ps []) (parts_are at) (along_begins home at [] (parts at))

pub judge_head-requires-clause-empty : goal.judge_head-requires-clause-empty
judge_head-requires-clause-empty g c = no_files c.args.home c.args.catalog.now c.requires.blank

pub judge_owners-requires-clause-empty : goal.judge_owners-requires-clause-empty
judge_owners-requires-clause-empty g c = ap map.len c.judge_head.ensures.others.0 ∙ no_owners c.args.home c.args.catalog.now c.requires.blank

pub returns-in-Some-clause-judged : goal.returns-in-Some-clause-judged
returns-in-Some-clause-judged g c tells =
    let home = c.args.home in
    let at = g.R.PageReader.pages c.args.reader.now in
    let judged = c.in_ok-wrong.ensures.judged home tells (blank_marks home c.args.catalog.now c.requires.blank (omega arith)) (blank_listed home c.args.catalog.now c.requires.blank at) in
    let wrong = subst (λ (o : Option ℕ). IsJudged home at [] (Header ∷ slots_from 0) (λ ns. AreMarks home ns c.judge_head.new.catalog.places × AreListed home at 4096 ns c.judge_head.new.catalog.files c.judge_head.new.catalog.slots) o) c.in-Some.is judged in
    along_segment_stops home at [] (parts at) (Header ∷ slots_from 0) (rows_from 0 ++ files_from at 0) [] c.in-Some.wrong (start home at) wrong

pub returns-in-Some-2-clause-judged : goal.returns-in-Some-2-clause-judged
returns-in-Some-2-clause-judged g c tells =
    let home = c.args.home in
    let r0 = c.args.reader.now in
    let r1 = c.judge_head.new.reader in
    let c1 = c.judge_head.new.catalog in
    let c2 = c.judge_owners.new.catalog in
    let at = g.R.PageReader.pages r0 in
    let judged1 = c.in_ok-wrong.ensures.judged home tells (blank_marks home c.args.catalog.now c.requires.blank (omega arith)) (blank_listed home c.args.catalog.now c.requires.blank at) in
    let right1 = subst (λ (o : Option ℕ). IsJudged home at [] (Header ∷ slots_from 0) (λ ns. AreMarks home ns c1.places × AreListed home at 4096 ns c1.files c1.slots) o) c.in_default.is judged1 in
    let names : List Name = names_after at [] (slots_from 0) in
    let along1 = along_segment home at [] (parts at) (Header ∷ slots_from 0) (rows_from 0 ++ files_from at 0) [] (start home at) right1.0 in
    let same : g.R.PageReader.pages r1 ≡ at = g.met.R.PageReader.same_pages r0 r1 c.in_ok-wrong.ensures.read.on in
    let told : IsTrue (g.R.PageReader.tells r1) = subst (λ (t : Bool). IsTrue t) (sym (g.met.R.PageReader.same_tells r0 r1 c.in_ok-wrong.ensures.read.on)) tells in
    let within = all_within home at names c1.files c1.slots right1.1.1 in
    let blank_rows = subst (λ (x : Pages). AreOwners x 0 c1.owners c1.rows) (sym same) (rw (c.judge_head.ensures.others.0, c.judge_head.ensures.others.1) (blank_owned home c.args.catalog.now c.requires.blank at)) in
    let judged2 = c.in_ok-wrong-2.ensures.judged names told (subst (AreWithin home) (sym same) within) blank_rows in
    let owners = subst (λ (x : Pages). IsJudged home x names (rows_from 0) (λ ns. (ns ≡ names) × AreOwners x 256 c2.owners c2.rows) c.in_ok-wrong-2.field-0) same judged2 in
    let wrong = subst (λ (o : Option ℕ). IsJudged home at names (rows_from 0) (λ ns. (ns ≡ names) × AreOwners at 256 c2.owners c2.rows) o) c.in-Some-2.is owners in
    along_segment_stops home at [] (parts at) (rows_from 0) (files_from at 0) names c.in-Some-2.wrong along1 wrong

pub returns-clause-judged : goal.returns-clause-judged
returns-clause-judged g c tells =
    let home = c.args.home in
    let r0 = c.args.reader.now in
    let r1 = c.judge_head.new.reader in
    let c1 = c.judge_head.new.catalog in
    let c2 = c.judge_owners.new.catalog in
    let at = g.R.PageReader.pages r0 in
    let judged1 = c.in_ok-wrong.ensures.judged home tells (blank_marks home c.args.catalog.now c.requires.blank (omega arith)) (blank_listed home c.args.catalog.now c.requires.blank at) in
    let right1 = subst (λ (o : Option ℕ). IsJudged home at [] (Header ∷ slots_from 0) (λ ns. AreMarks home ns c1.places × AreListed home at 4096 ns c1.files c1.slots) o) c.in_default.is judged1 in
    let names : List Name = names_after at [] (slots_from 0) in
    let along1 = along_segment home at [] (parts at) (Header ∷ slots_from 0) (rows_from 0 ++ files_from at 0) [] (start home at) right1.0 in
    let same : g.R.PageReader.pages r1 ≡ at = g.met.R.PageReader.same_pages r0 r1 c.in_ok-wrong.ensures.read.on in
    let told : IsTrue (g.R.PageReader.tells r1) = subst (λ (t : Bool). IsTrue t) (sym (g.met.R.PageReader.same_tells r0 r1 c.in_ok-wrong.ensures.read.on)) tells in
    let within = all_within home at names c1.files c1.slots right1.1.1 in
    let blank_rows = subst (λ (x : Pages). AreOwners x 0 c1.owners c1.rows) (sym same) (rw (c.judge_head.ensures.others.0, c.judge_head.ensures.others.1) (blank_owned home c.args.catalog.now c.requires.blank at)) in
    let judged2 = c.in_ok-wrong-2.ensures.judged names told (subst (AreWithin home) (sym same) within) blank_rows in
    let owners = subst (λ (x : Pages). IsJudged home x names (rows_from 0) (λ ns. (ns ≡ names) × AreOwners x 256 c2.owners c2.rows) c.in_ok-wrong-2.field-0) same judged2 in
    let right2 = subst (λ (o : Option ℕ). IsJudged home at names (rows_from 0) (λ ns. (ns ≡ names) × AreOwners at 256 c2.owners c2.rows) o) c.in_default-2.is owners in
    let r2 = c.judge_owners.new.reader in
    let c3 = c.read_files.new.catalog in
    let same2 : g.R.PageReader.pages r2 ≡ at = g.met.R.PageReader.same_pages r1 r2 c.in_ok-wrong-2.ensures.read.on ∙ same in
    let told2 : IsTrue (g.R.PageReader.tells r2) = subst (λ (t : Bool). IsTrue t) (sym (g.met.R.PageReader.same_tells r1 r2 c.in_ok-wrong-2.ensures.read.on)) told in
    let along2 = subst (λ (ns : List Name). Along home at [] (parts at) (files_from at 0) ns) right2.1.0 (along_segment home at [] (parts at) (rows_from 0) (files_from at 0) names along1 right2.0) in
    let marks2 = subst (λ (xs : List Bool). AreMarks home names xs) (sym c.judge_owners.ensures.places) right1.1.0 in
    let listed2 = subst (λ (x : Pages). AreListed home x 4096 names c2.files c2.slots) (sym same2) (rw (c.judge_owners.ensures.files.0, c.judge_owners.ensures.files.1) right1.1.1) in
    let owned2 = subst (λ (x : Pages). AreOwners x 256 c2.owners c2.rows) (sym same2) right2.1.1 in
    let judged = c.read_files.ensures.judged home names told2 marks2 listed2 owned2 (none_named at c2.files) in
    let here = subst (λ (x : Pages). IfOk c.read_files.result (IsJudged home x names (files_from x 0) (λ ns. AreMarks home ns c3.places × AreListed home x 4096 ns c3.files c3.slots × AreNamed 4096 ns c3.files))) same2 judged in
    let owned3 : AreOwners at 256 c3.owners c3.rows = rw (c.read_files.ensures.others.0, c.read_files.ensures.others.1) right2.1.1 in
    finish home at [] (parts at) (files_from at 0) names (λ ns. AreMarks home ns c3.places × AreListed home at 4096 ns c3.files c3.slots × AreNamed 4096 ns c3.files) (λ ns. IsRead home at ns c3)
    (λ ns all. record { marks = all.0; listed = all.1; owned = owned3; named = all.2 }) along2 c.read_files.result here

pub returns-in_err-wrong-clause-sized : goal.returns-in_err-wrong-clause-sized
returns-in_err-wrong-clause-sized g c = c.judge_head.ensures.sized c.args.home (blank_sized c.args.home c.args.catalog.now c.requires.blank (omega arith))

pub returns-in-Some-clause-sized : goal.returns-in-Some-clause-sized
returns-in-Some-clause-sized g c = c.judge_head.ensures.sized c.args.home (blank_sized c.args.home c.args.catalog.now c.requires.blank (omega arith))

pub returns-in_err-wrong-2-clause-sized : goal.returns-in_err-wrong-2-clause-sized
returns-in_err-wrong-2-clause-sized g c = c.judge_owners.ensures.sized c.args.home (c.judge_head.ensures.sized c.args.home (blank_sized c.args.home c.args.catalog.now c.requires.blank (omega arith)))

pub returns-in-Some-2-clause-sized : goal.returns-in-Some-2-clause-sized
returns-in-Some-2-clause-sized g c = c.judge_owners.ensures.sized c.args.home (c.judge_head.ensures.sized c.args.home (blank_sized c.args.home c.args.catalog.now c.requires.blank (omega arith)))

pub returns-clause-sized : goal.returns-clause-sized
returns-clause-sized g c = c.read_files.ensures.sized c.args.home (c.judge_owners.ensures.sized c.args.home (c.judge_head.ensures.sized c.args.home (blank_sized c.args.home c.args.catalog.now c.requires.blank (omega arith))))
