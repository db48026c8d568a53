use Rattle.std.specs.Prelude.{false, Result, Ok, Err, OnOk}
use Rattle.std.proofs.Common.{◌≡◌, ◌<◌, List, length, sym, ◌∙◌, subst}
use Rattle.alp_journal.specs.Answered.{entries_limit}
use Rattle.alp_journal.specs.declared.entry.Entry.{Entry}
use Rattle.alp_acknowledge.proofs.TurnLemmas.{in_step}
use Rattle.alp_acknowledge.proofs.caller.Caller.ask.Goals as goal

on_ok : {T E : Type 0} (r : Result T E) (P : Type 0) → P → OnOk r P
on_ok (Ok x) P h = h
on_ok (Err e) P h = tt

pub returns-clause-step : goal.returns-clause-step
returns-clause-step g c =
    let me = c.args.self.now in
    let h = c.in_ok-reply.ensures in
    let up : c.step.new.self.kept.is_down ≡ false = sym c.is_down.ensures ∙ c.if-is_down.false in
    let room : length me.node.journal < entries_limit = subst (λ (js : List Entry). length js < entries_limit) (c.entries.ensures ∙ c.journal.ensures) c.if-entries-ge-MOST_ENTRIES.false in
    on_ok c.ok_or.result _
    (in_step me.node c.step.new.self me.epoch me.last me.told.ts c.args.call c.in_ok-reply.reply c.requires.step c.requires.call c.knows.ensures.ready.places up h.seat.epoch (h.turned room up))
