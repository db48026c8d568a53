use Rattle.std.specs.Prelude.{All, Bool, true, false, Err, Result}
use Rattle.std.specs.List.{list_any}
use Rattle.std.specs.Ordering.{eq_by_cmp}
use Rattle.std.proofs.Common.{◌≡◌, ℕ, List, [], ◌∷◌, ◌++◌, refl, ap, sym, ◌∙◌, subst, rules}
use Rattle.alp_base.specs.Orders.{trans_cmp}
use Rattle.alp_base.specs.declared.cell.Cell.{Cell}
use Rattle.alp_base.specs.declared.key.Key.{Key}
use Rattle.alp_files.specs.Apart.{IsSized}
use Rattle.alp_files.specs.Cells.{Cells}
use Rattle.alp_files.specs.Needs.{changed_by}
use Rattle.alp_calls.specs.Looks.{Looks}
use Rattle.alp_locks.specs.Sound.{IsSound}
use Rattle.alp_locks.specs.Tables.{Table}
use Rattle.alp_journal.specs.Opening.{ReadyNote}
use Rattle.alp_regain.specs.Notes.{part_note}
use Rattle.alp_regain.specs.Faults.{fault_from}
use Rattle.alp_regain.specs.Regained.{has_note_of, IsPartOf, ArePartsOf, AreLocksOf}
use Rattle.alp_regain.specs.declared.part.RegainedPart.{RegainedPart}
use Rattle.alp_regain.specs.declared.fault.RegainFault.{RegainFault}
use Rattle.alp_regain.specs.declared.fault.RegainFault.TheVariants.{BadNote}
use Rattle.alp_regain.proofs.LiveLemmas.{same_has, not_twice, agree_known, agree_each, parts_pushed, part_noted, change_sized, locks_pushed, apart_pushed, named_once, named_twice}
use Rattle.alp_regain.proofs.QuietLemmas.{quiet_looks}
use Rattle.alp_regain.proofs.parts.Lives.take_part.Goals as goal

pub returns-then-has_part-clause-bad : goal.returns-then-has_part-clause-bad
returns-then-has_part-clause-bad g c = λ bad done live two note.
    let tells : Bool = g.V.Vault.tells c.args.vault.now in
    let held : Cells = (g.V.Vault.held c.args.vault.now).cells in
    let n : ReadyNote = part_note (c.args.join, c.args.kept.now) in
    let has : has_note_of n.trans done ≡ true =
    sym (same_has tells held c.args.of.0 c.args.of.1 c.args.self.now.parts.items done n.trans live.parts)
    ∙ sym (c.has_part.ensures ∙ ap (λ (ps : List RegainedPart). list_any (λ (p : RegainedPart). eq_by_cmp trans_cmp n.trans p.trans) ps) c.as_slice.ensures.value) ∙ c.if-has_part.true in
    not_twice done n has two

pub locks_of-requires-clause-unknown : goal.locks_of-requires-clause-unknown
locks_of-requires-clause-unknown g c =
    let tells : Bool = g.V.Vault.tells c.args.vault.now in
    let held : Cells = (g.V.Vault.held c.args.vault.now).cells in
    let n : ReadyNote = part_note (c.args.join, c.args.kept.now) in
    let done : List ReadyNote = c.requires.live.0 in
    let new : has_note_of n.trans done ≡ false =
    sym (same_has tells held c.args.of.0 c.args.of.1 c.args.self.now.parts.items done n.trans c.requires.live.1.parts)
    ∙ sym (c.has_part.ensures ∙ ap (λ (ps : List RegainedPart). list_any (λ (p : RegainedPart). eq_by_cmp trans_cmp n.trans p.trans) ps) c.as_slice.ensures.value) ∙ c.if-has_part.false in
    c.requires.live.1.locks.others n.trans new

pub returns-in_err-locks-clause-bad : goal.returns-in_err-locks-clause-bad
returns-in_err-locks-clause-bad g c = λ bad done live two note.
    let n : ReadyNote = part_note (c.args.join, c.args.kept.now) in
    let is : c.locks_of.result ≡ Err BadNote = search rules in
    c.in_err-locks.ensures.bad (sym c.in_err-locks.was ∙ is) (agree_known c.args.self.now.locks done n live.locks two) note.locks

pub returns-in_err-locks-clause-looked : goal.returns-in_err-locks-clause-looked
returns-in_err-locks-clause-looked g c =
    let is : c.from_residual.result ≡ Err c.in_err-locks.field-0.0 = search rules in
    subst (λ (r : Result (Unit {0}) RegainFault). Looks g.V.Vault c.args.vault.now c.args.vault.now (fault_from r)) (sym is)
    (quiet_looks g.V.Vault c.args.vault.now c.requires.serving c.in_err-locks.field-0.0 c.in_err-locks.ensures.quiet)

pub returns-then-not-is_once-clause-bad : goal.returns-then-not-is_once-clause-bad
returns-then-not-is_once-clause-bad g c = λ bad done live two note.
    named_twice c.args.join c.args.kept.now c.in_ok-locks.locks c.in_ok-part.part.counts.cells c.in_ok-locks.ensures.count (c.in_ok-part.ensures.part.cells ∙ ap changed_by c.in_ok-part.ensures.intents)
    (sym c.is_once.ensures ∙ c.if-not-is_once.true) note.once

pub returns-clause-taken : goal.returns-clause-taken
returns-clause-taken g c = λ done live.
    let tells : Bool = g.V.Vault.tells c.args.vault.now in
    let held : Cells = (g.V.Vault.held c.args.vault.now).cells in
    let server : ℕ = c.args.of.0 in
    let epoch : ℕ = c.args.of.1 in
    let n : ReadyNote = part_note (c.args.join, c.args.kept.now) in
    let old : Table = c.args.self.now.locks in
    let part : RegainedPart =
    record { join = c.args.join; trans = n.trans; ts = n.ts; client = n.client; part = c.in_ok-part.part; locks = c.in_ok-locks.locks } in
    let new : has_note_of n.trans done ≡ false =
    sym (same_has tells held server epoch c.args.self.now.parts.items done n.trans live.parts)
    ∙ sym (c.has_part.ensures ∙ ap (λ (ps : List RegainedPart). list_any (λ (p : RegainedPart). eq_by_cmp trans_cmp n.trans p.trans) ps) c.as_slice.ensures.value) ∙ c.if-has_part.false in
    let is : IsPartOf tells held server epoch part n =
    part_noted tells held server epoch part n refl refl refl refl c.in_ok-part.ensures.intents c.in_ok-part.ensures.own c.in_ok-part.ensures.part c.in_ok-part.ensures.counts
    c.in_ok-locks.ensures.count (sym c.is_plain_part.ensures ∙ c.if-not-is_plain_part.false) c.in_ok-locks.ensures.good
    (change_sized c.args.kept.now.change (subst (λ (ps : List (Key × Cell)). All (λ (e : Key × Cell). IsSized e.1) ps) c.as_slice-2.ensures c.size_puts.ensures))
    (named_once c.args.join c.args.kept.now c.in_ok-locks.locks c.in_ok-part.part.counts.cells c.in_ok-locks.ensures.count (c.in_ok-part.ensures.part.cells ∙ ap changed_by c.in_ok-part.ensures.intents) (sym c.is_once.ensures ∙ c.if-not-is_once.false)) in
    record {
      parts =
          subst (λ (ps : List RegainedPart). ArePartsOf tells held server epoch ps (done ++ n ∷ [])) (sym c.in_ok-push.ensures.items)
          (parts_pushed tells held server epoch c.args.self.now.parts.items done part n live.parts is);
      locks =
          subst (λ (t : Table). AreLocksOf t (done ++ n ∷ [])) (sym c.in_ok-locks.ensures.after)
          (locks_pushed old done n live.locks new (subst IsSound c.in_ok-locks.ensures.after (c.in_ok-locks.ensures.sound live.locks.sound)));
      apart = apart_pushed done n live.apart (agree_each old done n live.locks new c.in_ok-locks.ensures.agree);
    }
