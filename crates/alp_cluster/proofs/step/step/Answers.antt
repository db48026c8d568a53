use Rattle.std.specs.Prelude.{true, false, Bool, Ok, Err, Some}
use Rattle.std.proofs.Common.{inl, inr, ◌⊎◌, ◌≡◌, ◌≤◌, ℕ, List, [], ◌∷◌, length, refl, sym, ◌∙◌, ap, subst, arith}
use Rattle.std.specs.List.{list_any}
use Rattle.alp_files.specs.declared.refusal.Refusal.TheVariants as refusal
use Rattle.alp_files.specs.declared.reply.Reply.TheVariants as reply
use Rattle.alp_journal.specs.Answered.{is_read_fault, entries_limit}
use Rattle.alp_journal.specs.declared.entry.Entry.{Entry}
use Rattle.alp_node.specs.Nodes.{HasRoom}
use Rattle.alp_cluster.specs.Servers.{Steps, is_failure}
use Rattle.alp_cluster.specs.declared.fault.RunFault.TheVariants as fault
use Rattle.alp_cluster.proofs.GoneLemmas.{one_nothing, handed_on, end_any}
use Rattle.alp_cluster.proofs.TakenLemmas.{failed_last, taken, taken_gone, failed_gone, failed_left, wanting_gone, wanting_left}
use Rattle.alp_cluster.proofs.step.step.Goals as goal
use Rattle.alp_cluster.proofs.step.step.Goals.{then-shows_fault-via-then-shows_fault, then-shows_fault-via-else-shows_fault+then-failed_at}

-- ---- it is down

pub returns-then-is_down-clause-gone : goal.returns-then-is_down-clause-gone
returns-then-is_down-clause-gone g c = one_nothing g.V.Vault (Unit {0}) c.args.node.now.kept.vault (Ok (Some (reply.Refused refusal.Down))) tt tt refl

pub returns-then-is_down-clause-steps : goal.returns-then-is_down-clause-steps
returns-then-is_down-clause-steps g c =
    let down : c.args.node.now.kept.is_down ≡ true = sym c.is_down.ensures ∙ c.if-is_down.true in
    subst (λ (b : Bool). Steps g.V.Vault b c.args.node.now c.args.node.now c.args.event (Some (reply.Refused refusal.Down))) (sym down)
    (record { down = down; reply = refl; same = refl })

-- ---- its journal is full

pub returns-then-place-ge-JOURNAL_ENTRIES_MOST-clause-gone : goal.returns-then-place-ge-JOURNAL_ENTRIES_MOST-clause-gone
returns-then-place-ge-JOURNAL_ENTRIES_MOST-clause-gone g c = one_nothing g.V.Vault (Unit {0}) c.args.node.now.kept.vault (Err fault.JournalFull) tt tt refl

pub returns-then-place-ge-JOURNAL_ENTRIES_MOST-clause-ended : goal.returns-then-place-ge-JOURNAL_ENTRIES_MOST-clause-ended
returns-then-place-ge-JOURNAL_ENTRIES_MOST-clause-ended g c =
    let long : length c.entries-place.result.now ≡ length c.args.node.now.journal = ap (λ (js : List Entry). length js) (c.entries-place.ensures ∙ c.journal.ensures) in
    let full : entries_limit ≤ length c.args.node.now.journal = omega (arith, long, c.if-place-ge-JOURNAL_ENTRIES_MOST.true) in
    record { up = sym c.is_down.ensures ∙ c.if-is_down.false; full = full; same = refl }

-- ---- memory was wanting

pub returns-in_err-reply-clause-gone : goal.returns-in_err-reply-clause-gone
returns-in_err-reply-clause-gone g c =
    let is = handed_on fault.OutOfMemory c.from_residual.result c.from_residual.ensures.0 c.from_residual.ensures.1 in
    rw is (wanting_gone g.V.Vault (Unit {0}) c.args.node.now c.step.new.self c.step.ensures.seat c.in_err-reply.ensures.err)

pub returns-in_err-reply-clause-ended : goal.returns-in_err-reply-clause-ended
returns-in_err-reply-clause-ended g c =
    end_any fault.OutOfMemory c.from_residual.result _ (handed_on fault.OutOfMemory c.from_residual.result c.from_residual.ensures.0 c.from_residual.ensures.1)
    (wanting_left g.V.Vault c.args.node.now c.step.new.self c.step.ensures.opening c.step.ensures.seat c.in_err-reply.ensures.err c.in_err-reply.ensures.still)

-- ---- it took the step

pub returns-then-shows_fault-clause-gone : goal.returns-then-shows_fault-clause-gone
returns-then-shows_fault-clause-gone g c =
    let n = c.args.node.now in
    let m = c.step.new.self in
    let long : length c.entries-place.result.now ≡ length n.journal = ap (λ (js : List Entry). length js) (c.entries-place.ensures ∙ c.journal.ensures) in
    let room : HasRoom n = omega (arith, c.if-place-ge-JOURNAL_ENTRIES_MOST.false, long) in
    let up : n.kept.is_down ≡ false = sym c.is_down.ensures ∙ c.if-is_down.false in
    let h = c.in_ok-reply.ensures in
    let a = h.answered up room in
    let shows : (is_read_fault c.in_ok-reply.reply ≡ true) ⊎ (list_any is_failure a.acts ≡ true) = elim c.then-shows_fault.branch [
      | then-shows_fault-via-then-shows_fault w ↦ inl (sym c.shows_fault.ensures ∙ w.if-shows_fault.true)
      | then-shows_fault-via-else-shows_fault+then-failed_at w ↦
          inr (sym (failed_last n.journal w.entries.result.now (record { event = c.args.event; reply = c.in_ok-reply.reply; acts = a.acts }) (length c.entries-place.result.now) (w.entries.ensures ∙ w.journal-else-shows_fault.ensures ∙ a.entry) long)
          ∙ sym w.failed_at.ensures ∙ w.if-failed_at.true)
    ] in
    failed_gone g.V.Vault n m c.args.event c.in_ok-reply.reply c.requires.on c.requires.served up room a h.opening h.seat (h.turned room) c.knows.ensures (Unit {0}) c.server-server.result c.server-server.ensures shows

pub returns-then-shows_fault-clause-ended : goal.returns-then-shows_fault-clause-ended
returns-then-shows_fault-clause-ended g c =
    let n = c.args.node.now in
    let m = c.step.new.self in
    let long : length c.entries-place.result.now ≡ length n.journal = ap (λ (js : List Entry). length js) (c.entries-place.ensures ∙ c.journal.ensures) in
    let room : HasRoom n = omega (arith, c.if-place-ge-JOURNAL_ENTRIES_MOST.false, long) in
    let up : n.kept.is_down ≡ false = sym c.is_down.ensures ∙ c.if-is_down.false in
    let h = c.in_ok-reply.ensures in
    let a = h.answered up room in
    let shows : (is_read_fault c.in_ok-reply.reply ≡ true) ⊎ (list_any is_failure a.acts ≡ true) = elim c.then-shows_fault.branch [
      | then-shows_fault-via-then-shows_fault w ↦ inl (sym c.shows_fault.ensures ∙ w.if-shows_fault.true)
      | then-shows_fault-via-else-shows_fault+then-failed_at w ↦
          inr (sym (failed_last n.journal w.entries.result.now (record { event = c.args.event; reply = c.in_ok-reply.reply; acts = a.acts }) (length c.entries-place.result.now) (w.entries.ensures ∙ w.journal-else-shows_fault.ensures ∙ a.entry) long)
          ∙ sym w.failed_at.ensures ∙ w.if-failed_at.true)
    ] in (
      c.server-server.ensures,
      failed_left g.V.Vault n m c.args.event c.in_ok-reply.reply c.requires.on c.requires.served up room a h.opening h.seat (h.turned room) c.knows.ensures shows,
    )

pub returns-clause-gone : goal.returns-clause-gone
returns-clause-gone g c =
    let n = c.args.node.now in
    let m = c.step.new.self in
    let long : length c.entries-place.result.now ≡ length n.journal = ap (λ (js : List Entry). length js) (c.entries-place.ensures ∙ c.journal.ensures) in
    let room : HasRoom n = omega (arith, c.if-place-ge-JOURNAL_ENTRIES_MOST.false, long) in
    let up : n.kept.is_down ≡ false = sym c.is_down.ensures ∙ c.if-is_down.false in
    let h = c.in_ok-reply.ensures in
    let a = h.answered up room in
    let quiet : is_read_fault c.in_ok-reply.reply ≡ false = sym c.shows_fault.ensures ∙ c.if-shows_fault.false in
    let whole : list_any is_failure a.acts ≡ false =
    sym (failed_last n.journal c.entries.result.now (record { event = c.args.event; reply = c.in_ok-reply.reply; acts = a.acts }) (length c.entries-place.result.now) (c.entries.ensures ∙ c.journal-else-shows_fault.ensures ∙ a.entry) long) ∙ sym c.failed_at.ensures
    ∙ c.if-failed_at.false in
    taken_gone g.V.Vault n m c.args.event c.in_ok-reply.reply c.requires.on c.requires.served up room a h.opening h.seat (h.turned room) c.knows.ensures quiet whole (Unit {0}) c.in_ok-reply.reply

pub returns-clause-steps : goal.returns-clause-steps
returns-clause-steps g c =
    let n = c.args.node.now in
    let m = c.step.new.self in
    let long : length c.entries-place.result.now ≡ length n.journal = ap (λ (js : List Entry). length js) (c.entries-place.ensures ∙ c.journal.ensures) in
    let room : HasRoom n = omega (arith, c.if-place-ge-JOURNAL_ENTRIES_MOST.false, long) in
    let up : n.kept.is_down ≡ false = sym c.is_down.ensures ∙ c.if-is_down.false in
    let h = c.in_ok-reply.ensures in
    let a = h.answered up room in
    let quiet : is_read_fault c.in_ok-reply.reply ≡ false = sym c.shows_fault.ensures ∙ c.if-shows_fault.false in
    let whole : list_any is_failure a.acts ≡ false =
    sym (failed_last n.journal c.entries.result.now (record { event = c.args.event; reply = c.in_ok-reply.reply; acts = a.acts }) (length c.entries-place.result.now) (c.entries.ensures ∙ c.journal-else-shows_fault.ensures ∙ a.entry) long) ∙ sym c.failed_at.ensures
    ∙ c.if-failed_at.false in
    subst (λ (b : Bool). Steps g.V.Vault b n m c.args.event c.in_ok-reply.reply) (sym up)
    (taken g.V.Vault n m c.args.event c.in_ok-reply.reply c.requires.on c.requires.served up room a h.opening h.seat (h.turned room) c.knows.ensures quiet whole)
