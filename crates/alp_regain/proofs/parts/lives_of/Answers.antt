use Rattle.std.specs.Prelude.{Bool, None, Err, Result, map as list_map}
use Rattle.std.proofs.Common.{◌≡◌, ℕ, ◌+◌, List, [], ◌∷◌, ◌++◌, drop, refl, sym, ap, ◌∙◌, subst, rules}
use Rattle.std.proofs.Math.ListN.{drop_of_length-le}
use Rattle.std.proofs.lemmas.List.{at_drop_more}
use Rattle.alp_base.specs.declared.ids.JoinNo.{JoinNo}
use Rattle.alp_fields.specs.declared.ready_note.ReadyPart.{ReadyPart}
use Rattle.alp_files.specs.Cells.{Cells}
use Rattle.alp_calls.specs.Looks.{Looks}
use Rattle.alp_calls.proofs.LookLemmas.{left_same, looks_then, looked_at}
use Rattle.alp_journal.specs.Opening.{ReadyNote}
use Rattle.alp_regain.specs.Faults.{fault_from, fault_in}
use Rattle.alp_regain.specs.Lives.{IsSoFar}
use Rattle.alp_regain.specs.Notes.{part_note}
use Rattle.alp_regain.specs.declared.fault.RegainFault.{RegainFault}
use Rattle.alp_regain.specs.declared.fault.RegainFault.TheVariants.{BadNote}
use Rattle.alp_regain.specs.declared.parts.Lives.{Lives}
use Rattle.alp_regain.proofs.LiveLemmas.{Taking, takes_none, takes_on, takes_all, next_two, next_note}
use Rattle.alp_regain.proofs.QuietLemmas.{looked_on}
use Rattle.alp_regain.proofs.parts.lives_of.Goals as goal

-- the next note before the others
at_next : (parts : List (JoinNo × ReadyPart)) (i : ℕ) (part : JoinNo × ReadyPart) → drop i parts ≡ part ∷ drop (i + 1) parts → list_map part_note (drop i parts) ≡ part_note part ∷ list_map part_note (drop (i + 1) parts)
at_next parts i part left = ap (λ (xs : List (JoinNo × ReadyPart)). list_map part_note xs) left

pub loop-part-init : goal.loop-part-init
loop-part-init g c = record {
  left = (left_same g.V.Vault c.args.vault.now, c.requires.serving, refl);
  taking =
      takes_none (g.V.Vault.tells c.args.vault.now) (g.V.Vault.held c.args.vault.now).cells c.args.of.0 c.args.of.1 c.new-lives.result (list_map part_note c.args.parts.now)
      (c.new-lives.ensures (g.V.Vault.tells c.args.vault.now) (g.V.Vault.held c.args.vault.now).cells c.args.of.0 c.args.of.1);
}

pub take_part-requires-clause-serving : goal.take_part-requires-clause-serving
take_part-requires-clause-serving g c = c.loop-part.invariant.left.1

pub take_part-requires-clause-live : goal.take_part-requires-clause-live
take_part-requires-clause-live g c = (
  c.loop-part.invariant.taking.done,
  looked_on g.V.Vault c.args.vault.now c.loop-part.vault c.loop-part.invariant.left.0 (λ (b : Bool) (m : Cells). IsSoFar b m c.args.of.0 c.args.of.1 c.loop-part.lives c.loop-part.invariant.taking.done) c.loop-part.invariant.taking.live,
)

pub loop-part-preserved : goal.loop-part-preserved
loop-part-preserved g c =
    let tells : Bool = g.V.Vault.tells c.args.vault.now in
    let held : Cells = (g.V.Vault.held c.args.vault.now).cells in
    let server : ℕ = c.args.of.0 in
    let epoch : ℕ = c.args.of.1 in
    let parts : List (JoinNo × ReadyPart) = c.args.parts.now in
    let all : List ReadyNote = list_map part_note parts in
    let i : ℕ = c.loop-part.part-index in
    let part : JoinNo × ReadyPart = c.part-item.result in
    let rest : List ReadyNote = list_map part_note (drop (i + 1) parts) in
    let left = c.loop-part.invariant.left in
    let here : drop i parts ≡ part ∷ drop (i + 1) parts =
    at_drop_more (λ (xs : List (JoinNo × ReadyPart)). xs) parts i part c.loop-part-test.true ∙ ap (λ (x : JoinNo × ReadyPart). x ∷ drop (i + 1) parts) (sym c.part-item.is) in
    let taking : Taking tells held server epoch c.loop-part.lives all (part_note part ∷ rest) =
    subst (λ (ns : List ReadyNote). Taking tells held server epoch c.loop-part.lives all ns) (at_next parts i part here) c.loop-part.invariant.taking in
    record {
      left = looks_then g.V.Vault c.args.vault.now c.loop-part.vault c.take_part.new.vault None left c.in_ok-take_part.ensures.looked;
      taking =
          takes_on tells held server epoch c.loop-part.lives all c.take_part.new.self (part_note part) rest taking
          (looked_at g.V.Vault c.args.vault.now c.loop-part.vault left.0 (λ (b : Bool) (m : Cells). IsSoFar b m server epoch c.take_part.new.self (taking.done ++ part_note part ∷ []))
          (c.in_ok-take_part.ensures.taken taking.done
          (looked_on g.V.Vault c.args.vault.now c.loop-part.vault left.0 (λ (b : Bool) (m : Cells). IsSoFar b m server epoch c.loop-part.lives taking.done) taking.live)));
    }

pub returns-clause-live : goal.returns-clause-live
returns-clause-live g c =
    takes_all (g.V.Vault.tells c.args.vault.now) (g.V.Vault.held c.args.vault.now).cells c.args.of.0 c.args.of.1 c.loop-part.lives (list_map part_note c.args.parts.now)
    (list_map part_note (drop c.loop-part.part-index c.args.parts.now))
    (ap (λ (xs : List (JoinNo × ReadyPart)). list_map part_note xs) (drop_of_length-le c.args.parts.now c.loop-part-test.false)) c.loop-part.invariant.taking

pub returns-in_err-take_part-clause-bad : goal.returns-in_err-take_part-clause-bad
returns-in_err-take_part-clause-bad g c = λ bad notes apart.
    let tells : Bool = g.V.Vault.tells c.args.vault.now in
    let held : Cells = (g.V.Vault.held c.args.vault.now).cells in
    let server : ℕ = c.args.of.0 in
    let epoch : ℕ = c.args.of.1 in
    let parts : List (JoinNo × ReadyPart) = c.args.parts.now in
    let all : List ReadyNote = list_map part_note parts in
    let i : ℕ = c.loop-part.part-index in
    let part : JoinNo × ReadyPart = c.part-item.result in
    let rest : List ReadyNote = list_map part_note (drop (i + 1) parts) in
    let here : drop i parts ≡ part ∷ drop (i + 1) parts =
    at_drop_more (λ (xs : List (JoinNo × ReadyPart)). xs) parts i part c.loop-part-test.true ∙ ap (λ (x : JoinNo × ReadyPart). x ∷ drop (i + 1) parts) (sym c.part-item.is) in
    let taking : Taking tells held server epoch c.loop-part.lives all (part_note part ∷ rest) =
    subst (λ (ns : List ReadyNote). Taking tells held server epoch c.loop-part.lives all ns) (at_next parts i part here) c.loop-part.invariant.taking in
    let is : c.take_part.result ≡ Err BadNote = search rules in
    c.in_err-take_part.ensures.bad (sym c.in_err-take_part.was ∙ is) taking.done
    (looked_on g.V.Vault c.args.vault.now c.loop-part.vault c.loop-part.invariant.left.0 (λ (b : Bool) (m : Cells). IsSoFar b m server epoch c.loop-part.lives taking.done) taking.live)
    (next_two tells held server epoch c.loop-part.lives all (part_note part) rest taking apart)
    (next_note tells held server epoch c.loop-part.lives all (part_note part) rest taking notes)

pub returns-in_err-take_part-clause-looked : goal.returns-in_err-take_part-clause-looked
returns-in_err-take_part-clause-looked g c =
    let is : c.from_residual.result ≡ Err c.in_err-take_part.field-0.0 = search rules in
    subst (λ (r : Result Lives RegainFault). Looks g.V.Vault c.args.vault.now c.take_part.new.vault (fault_from r)) (sym is)
    (looks_then g.V.Vault c.args.vault.now c.loop-part.vault c.take_part.new.vault (fault_in c.in_err-take_part.field-0.0) c.loop-part.invariant.left c.in_err-take_part.ensures.looked)
