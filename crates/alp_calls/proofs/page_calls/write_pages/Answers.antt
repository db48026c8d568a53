use Rattle.std.specs.Prelude.{None}
use Rattle.std.proofs.Common.{ℕ, ◌≤◌, List, [], ◌∷◌, length, refl, ap, arith}
use Rattle.alp_base.specs.declared.key.Key.{Key}
use Rattle.alp_base.specs.declared.cell.Cell.{Cell}
use Rattle.alp_files.specs.declared.reply.Reply.TheVariants as reply
use Rattle.alp_trans.specs.Parts.{AreBeside}
use Rattle.alp_calls.specs.declared.said.OpenChange.TheVariants.{Stay}
use Rattle.alp_calls.proofs.ProperLemmas.{done_proper}
use Rattle.alp_calls.proofs.page_calls.write_pages.Goals as goal

none_taken : (puts : List (Key × Cell)) → AreBeside None puts
none_taken [] = refl
none_taken (p ∷ ps) = none_taken ps

pub returns-clause-proper : goal.returns-clause-proper
returns-clause-proper g c =
    let few : length c.raise_mark.new.puts.items ≤ 256 =
    omega (arith, c.in_ok-raise_mark.ensures.few, c.in_ok-puts.ensures.all, ap (λ (xs : List (List ℕ)). length xs) c.pages.ensures, c.requires.whole) in
    done_proper c.args.part.now reply.Plain (record { gone = None; puts = c.raise_mark.new.puts; opens = Stay }) refl (tt, refl) refl tt
    (record { fit = c.in_ok-raise_mark.ensures.fit c.in_ok-puts.ensures.fit; few = few })
    (none_taken c.raise_mark.new.puts.items)
