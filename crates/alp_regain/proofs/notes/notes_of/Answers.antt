use Rattle.std.specs.Prelude.{Bool, true, false, ◌&&◌, Err, map as list_map}
use Rattle.std.specs.FinMap as map
use Rattle.std.proofs.Common.{◌≡◌, ℕ, ◌+◌, List, ◌∷◌, ◌++◌, drop, sym, ap, ◌∙◌, append-nil, rules}
use Rattle.std.proofs.lemmas.List.{at_drop_more, at_drop_all}
use Rattle.alp_base.specs.Notes.{Notes}
use Rattle.alp_base.specs.declared.ids.JoinNo.{JoinNo}
use Rattle.alp_fields.specs.declared.ready_note.ReadyPart.{ReadyPart}
use Rattle.alp_journal.specs.Opening.{DecisionNote}
use Rattle.alp_coord.specs.Coordinators.{noted}
use Rattle.alp_regain.specs.Notes.{part_note, part_under, decision_under, parts_under, decisions_under, are_good}
use Rattle.alp_regain.specs.declared.fault.RegainFault.TheVariants.{BadNote}
use Rattle.alp_regain.proofs.NoteLemmas.{parts_kept, all_decisions, good_notes, each_good, read_on}
use Rattle.alp_regain.proofs.notes.notes_of.Goals as goal

pub loop-name-preserved : goal.loop-name-preserved
loop-name-preserved g c =
    let notes : Notes = (g.V.Vault.held c.args.vault.now).notes in
    let names : List (List ℕ) = c.note_names-names.result.now in
    let i : ℕ = c.loop-name.name-index in
    let name : List ℕ = c.name-item.result in
    let rest : List (List ℕ) = drop (i + 1) names in
    let parts : List (JoinNo × ReadyPart) = c.loop-name.notes.parts.items in
    let decisions : List DecisionNote = list_map noted c.loop-name.notes.decisions.items in
    let left : drop i names ≡ name ∷ rest = at_drop_more (λ (xs : List (List ℕ)). xs) names i name c.loop-name-test.true ∙ ap (λ (x : List ℕ). x ∷ rest) (sym c.name-item.is) in
    record {
      parts =
          ap (λ (ys : List (JoinNo × ReadyPart)). ys ++ parts_under notes rest) c.in_ok-add_named.ensures.parts
          ∙ read_on parts (parts_under notes names) (part_under notes name) (parts_under notes rest)
          (ap (λ (xs : List (List ℕ)). parts ++ parts_under notes xs) (sym left) ∙ c.loop-name.invariant.parts);
      decisions =
          ap (λ (ys : List DecisionNote). ys ++ decisions_under notes rest) c.in_ok-add_named.ensures.decisions
          ∙ read_on decisions (decisions_under notes names) (decision_under notes name) (decisions_under notes rest)
          (ap (λ (xs : List (List ℕ)). decisions ++ decisions_under notes xs) (sym left) ∙ c.loop-name.invariant.decisions);
      format =
          ap (λ (b : Bool). b && are_good c.args.server c.args.servers notes rest) (sym c.in_ok-add_named.ensures.format)
          ∙ ap (λ (xs : List (List ℕ)). are_good c.args.server c.args.servers notes xs) (sym left) ∙ c.loop-name.invariant.format;
    }

pub returns-clause-parts : goal.returns-clause-parts
returns-clause-parts g c =
    let notes : Notes = (g.V.Vault.held c.args.vault.now).notes in
    let names : List (List ℕ) = c.note_names-names.result.now in
    let parts : List (JoinNo × ReadyPart) = c.loop-name.notes.parts.items in
    let all : parts ≡ parts_under notes (map.keys notes) =
    sym (append-nil parts)
    ∙ ap (λ (ys : List (JoinNo × ReadyPart)). parts ++ ys) (sym (at_drop_all (parts_under notes) names c.loop-name.name-index c.loop-name-test.false))
    ∙ c.loop-name.invariant.parts ∙ ap (parts_under notes) c.note_names-names.ensures in
    ap (λ (xs : List (JoinNo × ReadyPart)). list_map part_note xs) all ∙ parts_kept notes

pub returns-clause-decisions : goal.returns-clause-decisions
returns-clause-decisions g c =
    let notes : Notes = (g.V.Vault.held c.args.vault.now).notes in
    let names : List (List ℕ) = c.note_names-names.result.now in
    let decisions : List DecisionNote = list_map noted c.loop-name.notes.decisions.items in
    sym (append-nil decisions)
    ∙ ap (λ (ys : List DecisionNote). decisions ++ ys) (sym (at_drop_all (decisions_under notes) names c.loop-name.name-index c.loop-name-test.false))
    ∙ c.loop-name.invariant.decisions ∙ ap (decisions_under notes) c.note_names-names.ensures ∙ all_decisions notes

pub returns-clause-format : goal.returns-clause-format
returns-clause-format g c =
    let notes : Notes = (g.V.Vault.held c.args.vault.now).notes in
    let names : List (List ℕ) = c.note_names-names.result.now in
    good_notes c.args.server c.args.servers notes
    (ap (are_good c.args.server c.args.servers notes) (sym c.note_names-names.ensures) ∙ sym c.loop-name.invariant.format
    ∙ at_drop_all (are_good c.args.server c.args.servers notes) names c.loop-name.name-index c.loop-name-test.false)

pub returns-in_err-add_named-clause-bad : goal.returns-in_err-add_named-clause-bad
returns-in_err-add_named-clause-bad g c = λ is are.
    let notes : Notes = (g.V.Vault.held c.args.vault.now).notes in
    let bad : c.add_named.result ≡ Err BadNote = search rules in
    let wrong : false ≡ true = sym (c.in_err-add_named.ensures.bad (sym c.in_err-add_named.was ∙ bad)) ∙ each_good c.args.server c.args.servers notes c.name-item.result are in
    cc
