use Rattle.std.specs.Prelude.{Bool, true, false}
use Rattle.std.specs.List.{list_any}
use Rattle.std.proofs.Common.{rules, ◌≡◌, ◌<◌, ◌≤◌, ◌+◌, ◌^◌, ℕ, List, length, inl, inr, refl, sym, ap, ◌∙◌, arith}
use Rattle.alp_journal.specs.Answered.{entries_limit}
use Rattle.alp_journal.specs.Moves.{stops}
use Rattle.alp_journal.specs.declared.entry.Entry.{Entry}
use Rattle.alp_storm.specs.Logs.{shows_fault}
use Rattle.alp_storm.specs.declared.host.Answer.{Answer}
use Rattle.alp_berth.specs.BerthStates.{BerthState}
use Rattle.alp_berth.specs.Berths.{since_of, entries_of}
use Rattle.alp_berth.specs.declared.made.Ranked.{Ranked}
use Rattle.alp_berth.proofs.EntryLemmas.{any_all, entries_long}
use Rattle.alp_berth.proofs.ServedLemmas.{worker_served}
use Rattle.alp_berth.proofs.StepLemmas.{answers, fails}
use Rattle.alp_berth.proofs.berth.BerthHost.step.Goals as goal

pub advance-requires-clause-served : goal.advance-requires-clause-served
advance-requires-clause-served g c = worker_served c.args.event c.requires.asked

pub returns-then-is_down-clause-err : goal.returns-then-is_down-clause-err
returns-then-is_down-clause-err g c =
    let h = c.knows.ensures in
    let down : c.args.self.now.node.kept.is_down ≡ true = sym (ap (λ (b : BerthState g.row.V.Denot). b.node.kept.is_down) c.self.view_is) ∙ (sym c.is_down.ensures ∙ c.if-is_down.true) in (
      c.server-server.ensures ∙ (ap (λ (b : BerthState g.row.V.Denot). b.node.kept.server) c.self.view_is ∙ h.seat.server),
      inr (refl, any_all g.V.Vault c.args.self.now.made c.args.self.now.node c.args.self.now.ranks h shows_fault ∙ h.halted down),
    )

pub returns-then-place-ge-MOST_ENTRIES-clause-err : goal.returns-then-place-ge-MOST_ENTRIES-clause-err
returns-then-place-ge-MOST_ENTRIES-clause-err g c =
    let h = c.knows.ensures in
    let full = c.if-place-ge-MOST_ENTRIES.true in
    let long : length c.entries-place.result.now ≡ length c.args.self.now.node.journal =
    ap (λ (l : List Entry). length l) (c.entries-place.ensures ∙ c.journal.ensures) ∙ ap (λ (b : BerthState g.row.V.Denot). length b.node.journal) c.self.view_is in
    let all = entries_long g.V.Vault c.args.self.now.made c.args.self.now.node c.args.self.now.ranks h in (
      c.server-server.ensures ∙ (ap (λ (b : BerthState g.row.V.Denot). b.node.kept.server) c.self.view_is ∙ h.seat.server),
      refl,
      omega (arith, full, long, all),
    )

pub returns-then-has_failed_last-clause-err : goal.returns-then-has_failed_last-clause-err
returns-then-has_failed_last-clause-err g c =
    let h = c.knows.ensures in
    let s = c.in-Ok.ensures.ok in
    let low = c.if-place-ge-MOST_ENTRIES.false in
    let long : length c.entries-place.result.now ≡ length c.args.self.now.node.journal =
    ap (λ (l : List Entry). length l) (c.entries-place.ensures ∙ c.journal.ensures) ∙ ap (λ (b : BerthState g.row.V.Denot). length b.node.journal) c.self.view_is in
    let all = entries_long g.V.Vault c.args.self.now.made c.args.self.now.node c.args.self.now.ranks h in
    let few : length (entries_of c.args.self.now) < 2 ^ 62 = omega (arith, low, long, all) in
    let room : since_of c.args.self.now.made + length (entries_of c.args.self.now) < entries_limit = omega (arith, low, long, all) in
    let up : c.args.self.now.node.kept.is_down ≡ false = sym (ap (λ (b : BerthState g.row.V.Denot). b.node.kept.is_down) c.self.view_is) ∙ (sym c.is_down.ensures ∙ c.if-is_down.false) in
    let quiet : list_any (λ (x : Ranked). stops x.entry) (entries_of c.args.self.now) ≡ false = any_all g.V.Vault c.args.self.now.made c.args.self.now.node c.args.self.now.ranks h stops ∙ (sym h.down ∙ up) in
    let shows : shows_fault s.entry ≡ true =
    sym (c.has_failed_last.ensures c.args.self.now.node.journal s.entry (c.entries.ensures ∙ (c.journal-2.ensures ∙ (ap (λ (b : BerthState g.row.V.Denot). b.node.journal) c.self-2.view_is ∙ s.journal)))) ∙ c.if-has_failed_last.true in (
      c.server-server.ensures ∙ (ap (λ (b : BerthState g.row.V.Denot). b.node.kept.server) c.self.view_is ∙ h.seat.server),
      inl (fails g.V.Vault c.args.self.now c.advance.new.self h c.args.event 0 c.in-Ok.reply s refl few room quiet shows),
    )

pub returns-clause-ok : goal.returns-clause-ok
returns-clause-ok g c =
    let h = c.knows.ensures in
    let s = c.in-Ok.ensures.ok in
    let low = c.if-place-ge-MOST_ENTRIES.false in
    let long : length c.entries-place.result.now ≡ length c.args.self.now.node.journal =
    ap (λ (l : List Entry). length l) (c.entries-place.ensures ∙ c.journal.ensures) ∙ ap (λ (b : BerthState g.row.V.Denot). length b.node.journal) c.self.view_is in
    let all = entries_long g.V.Vault c.args.self.now.made c.args.self.now.node c.args.self.now.ranks h in
    let few : length (entries_of c.args.self.now) < 2 ^ 62 = omega (arith, low, long, all) in
    let room : since_of c.args.self.now.made + length (entries_of c.args.self.now) < entries_limit = omega (arith, low, long, all) in
    let up : c.args.self.now.node.kept.is_down ≡ false = sym (ap (λ (b : BerthState g.row.V.Denot). b.node.kept.is_down) c.self.view_is) ∙ (sym c.is_down.ensures ∙ c.if-is_down.false) in
    let quiet : list_any (λ (x : Ranked). stops x.entry) (entries_of c.args.self.now) ≡ false = any_all g.V.Vault c.args.self.now.made c.args.self.now.node c.args.self.now.ranks h stops ∙ (sym h.down ∙ up) in
    let calm : shows_fault s.entry ≡ false =
    sym (c.has_failed_last.ensures c.args.self.now.node.journal s.entry (c.entries.ensures ∙ (c.journal-2.ensures ∙ (ap (λ (b : BerthState g.row.V.Denot). b.node.journal) c.self-2.view_is ∙ s.journal)))) ∙ c.if-has_failed_last.false in
    let a : Answer = record { reply = c.in-Ok.reply; place = length c.entries-place.result.now; epoch = c.epoch-epoch.result } in
    answers g.V.Vault c.args.self.now c.advance.new.self h c.args.event 0 c.in-Ok.reply s refl few room quiet a refl (omega (arith, long, all)) (c.epoch-epoch.ensures ∙ (ap (λ (b : BerthState g.row.V.Denot). b.node.kept.epoch) c.self.view_is ∙ h.seat.epoch)) calm
