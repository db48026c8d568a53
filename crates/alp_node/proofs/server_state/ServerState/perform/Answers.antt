use Rattle.std.specs.Prelude.{Option, None, Some, is_some, true, false}
use Rattle.std.specs.FinMap as map
use Rattle.std.specs.Result.{IfOk}
use Rattle.std.proofs.Common.{◌≡◌, ℕ, List, sym, ap, subst, ◌∙◌}
use Rattle.alp_calls.specs.Parts.{Answered}
use Rattle.alp_calls.specs.declared.fault.CallFault.{CallFault}
use Rattle.alp_files.specs.declared.reply.Reply.{Reply}
use Rattle.alp_node.specs.Calls.{name_in}
use Rattle.alp_node.specs.Totals.{LiveMap, totals_of, AreFewTotals}
use Rattle.alp_node.specs.declared.lives.Live.{Live}
use Rattle.alp_node.proofs.MapLemmas.{put_there}
use Rattle.alp_node.proofs.CallLemmas.{performed_so, looked_answer}
use Rattle.alp_node.proofs.KeptLemmas.{same_live}
use Rattle.alp_node.proofs.TotalLemmas.{blank_few}
use Rattle.alp_node.proofs.server_state.ServerState.perform.Goals as goal

-- each live part acts for somebody
pub unreachable-requires-in_default-who : goal.unreachable-requires-in_default-who
unreachable-requires-in_default-who g c =
    let found : Live = c.in-Some.found.now in
    let there : map.get c.args.self.now.lives c.args.trans ≡ Some found = sym c.in-Some.ensures in
    let wrong : true ≡ false = sym (c.requires.caller found there) ∙ ap (λ (o : Option (List ℕ)). is_some o) c.in_default-who.is in
    cc

pub swap-requires-clause-there : goal.swap-requires-clause-there
swap-requires-clause-there g c none =
    let blank : Live = c.blank-blank.result in
    let wrong : None ≡ Some blank = sym none ∙ ap (λ (m : LiveMap). map.get m c.args.trans) c.swap-live.ensures.after ∙ put_there c.args.self.now.lives c.args.trans blank in
    cc

pub perform-given-requires-clause-ready : goal.perform-given-requires-clause-ready
perform-given-requires-clause-ready g c = c.requires.ready c.swap-live.result c.swap-live.ensures.before

pub swap-requires-clause-few : goal.swap-requires-clause-few
swap-requires-clause-few g c =
    let blank : Live = c.blank-blank.result in
    subst (λ (m : LiveMap). AreFewTotals (totals_of m)) (sym c.swap-live.ensures.after) (blank_few c.args.self.now.lives c.args.trans c.swap-live.result blank c.swap-live.ensures.before c.blank-blank.ensures.idle c.requires.few)

pub returns-clause-performed : goal.returns-clause-performed
returns-clause-performed g c l there =
    let k = c.args.self.now in
    let blank : Live = c.blank-blank.result in
    let found : Live = c.in-Some.found.now in
    let own : Live = c.swap-live.result in
    let same : found ≡ own = same_live found own (c.in-Some.ensures ∙ c.swap-live.ensures.before) in
    let who : c.in-Some-who.who ≡ name_in own.who = sym (ap name_in c.in-Some-who.is) ∙ ap (λ (y : Live). name_in y.who) same in
    performed_so (g.V.Vault.tells k.vault) (g.V.Vault.held k.vault).cells k c.perform-given.new.vault c.args.trans l c.swap-live.result blank c.perform-given.new.part c.args.call.now c.args.locks c.room-room.result c.locks_given.result
    c.args.acts c.perform-given.result c.with_answer-result.result c.swap-live.new.self c.swap.new.self c.next_file-id.result c.next_file-id.ensures c.room-room.ensures c.perform-given.ensures.part c.locks_given.ensures there
    c.swap-live.ensures.before c.swap-live.ensures.after c.swap.ensures.after (subst
    (λ (x : List ℕ). IfOk {T = Reply} {E = CallFault} c.perform-given.result (Answered (g.V.Vault.tells k.vault) (g.V.Vault.held k.vault).cells own.part c.perform-given.new.part x c.next_file-id.result c.args.call.now c.room-room.result))
    who c.perform-given.ensures.answered) c.perform-given.ensures.err c.with_answer-result.ensures

pub returns-clause-looked : goal.returns-clause-looked
returns-clause-looked g c =
    looked_answer g.V.Vault c.args.self.now.vault c.perform-given.new.vault c.args.acts c.perform-given.result c.with_answer-result.result c.with_answer-result.ensures c.perform-given.ensures.looked
