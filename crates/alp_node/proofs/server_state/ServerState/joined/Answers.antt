use Rattle.std.specs.Prelude.{None, Some, is_some, Option, Bool, true, false}
use Rattle.std.specs.Option.{option_copied}
use Rattle.std.specs.FinMap as map
use Rattle.std.proofs.Common.{◌≡◌, ℕ, ◌+◌, [], refl, sym, ap, ◌∙◌, subst}
use Rattle.alp_files.specs.Act.{Own, no_opens}
use Rattle.alp_files.specs.Needs.{no_intents}
use Rattle.alp_journal.specs.declared.event.Event.TheVariants as event
use Rattle.alp_journal.specs.declared.message.Message.TheVariants as msg
use Rattle.alp_journal.specs.Account.{Account}
use Rattle.alp_journal.proofs.RegisterSteps.{IsLetIn}
use Rattle.alp_trans.specs.Counting.{no_counts}
use Rattle.alp_trans.specs.Parts.{own_of}
use Rattle.alp_trans.specs.declared.part.Part.{Part}
use Rattle.alp_vault.specs.Contents.{Contents}
use Rattle.alp_worker.specs.Lives.{join_at}
use Rattle.alp_worker.specs.declared.live.LiveJoin.{LiveJoin}
use Rattle.alp_worker.specs.declared.live.Stage.{Stage}
use Rattle.alp_worker.specs.declared.live.Stage.TheVariants as stage
use Rattle.alp_node.specs.Arrivals.{join_of}
use Rattle.alp_node.specs.ServerState.{IsAs, IsReady}
use Rattle.alp_node.specs.Steps.{Stepped, told_answer}
use Rattle.alp_node.specs.declared.lives.Live.{Live}
use Rattle.alp_node.specs.declared.server_state.ServerState.{ServerState}
use Rattle.alp_node.proofs.BesideLemmas.{AreNamed}
use Rattle.alp_node.proofs.JoinedLemmas.{IsAsking, let_in, let_in_kept, let_in_ready, let_in_noted, let_in_found, let_in_live, let_in_off, passed_step, join_found, let_in_step, ready_named}
use Rattle.alp_node.proofs.JoinMoves.{same_some, some_mapped, none_there}
use Rattle.alp_node.proofs.SayLemmas.{said_step}
use Rattle.alp_node.proofs.server_state.ServerState.joined.Goals as goal

-- no join of the transaction is here
pub returns-in_default : goal.returns-in_default
returns-in_default g c from =
    let k = c.args.self.now in
    let t = c.args.trans in
    let j = c.args.join.now in
    passed_step g.V.Vault k from t j c.silence.result c.requires.up c.silence.ensures
    (λ a held h one. let wrong : None ≡ Some (record { join = j; trans = t; client = one.client; stage = stage.Joining one.who }) = sym c.in_default.is ∙ let_in_found a held k t j h one c.join_at.result c.join_at.ensures in cc)

-- it was let in already
pub returns-in_default-stage : goal.returns-in_default-stage
returns-in_default-stage g c from =
    let k = c.args.self.now in
    let t = c.args.trans in
    let j = c.args.join.now in
    passed_step g.V.Vault k from t j c.silence-in_default-stage.result c.requires.up c.silence-in_default-stage.ensures
    (λ a held h one.
    let same = same_some c.in-Some.found (record { join = j; trans = t; client = one.client; stage = stage.Joining one.who }) (sym c.in-Some.is ∙ let_in_found a held k t j h one c.join_at.result c.join_at.ensures) in
    c.in_default-stage.not-Joining one.who (ap (λ (x : LiveJoin). x.stage) same))

-- its transaction has a part here
pub returns-then-is_some : goal.returns-then-is_some
returns-then-is_some g c from =
    let k = c.args.self.now in
    let t = c.args.trans in
    let j = c.args.join.now in
    passed_step g.V.Vault k from t j c.silence-then-is_some.result c.requires.up c.silence-then-is_some.ensures
    (λ a held h one. (let wrong : false ≡ true = ap is_some (sym (let_in_live a held k t j h one) ∙ sym c.get.ensures) ∙ some_mapped (λ x. x.now) c.get.result ∙ sym c.is_some.ensures ∙ c.if-is_some.true in cc))

-- a call on it waits
pub returns-then-has_on : goal.returns-then-has_on
returns-then-has_on g c from =
    let k = c.args.self.now in
    let t = c.args.trans in
    let j = c.args.join.now in
    let named = ready_named (g.V.Vault.serves k.vault) k c.requires.ready in
    passed_step g.V.Vault k from t j c.silence-then-has_on.result c.requires.up c.silence-then-has_on.ensures
    (λ a held h one. let wrong : false ≡ true = sym (let_in_off a held k t j h one named) ∙ sym c.has_on.ensures ∙ c.if-has_on.true in cc)

-- it is let in
pub returns : goal.returns
returns g c from =
    let k = c.args.self.now in
    let t = c.args.trans in
    let j = c.args.join.now in
    let y = c.in-Some.found in
    let found = join_found t (join_at k.joins.lives j) y (sym c.join_at.ensures ∙ c.in-Some.is) in
    let_in_step g.V.Vault k from j t y c.in-Joining.who
    (record { there = found.there; trans = found.trans; asks = c.in-Joining.is; none = none_there (map.get k.lives t) (ap is_some (sym c.get.ensures) ∙ some_mapped (λ x. x.now) c.get.result ∙ sym c.is_some.ensures ∙ c.if-is_some.false); off = sym c.has_on.ensures ∙ c.if-has_on.false })
    c.new.result c.new.ensures.own c.new.ensures.intents c.new.ensures.counts c.requires.ready c.silence-2.result c.enter.new.self c.enter-2.new.self c.in_ok-enter.ensures.ok c.enter-2.ensures.same c.enter-2.ensures.deed
    c.requires.up c.silence-2.ensures
