use Rattle.std.specs.Prelude.{None, Some, true, false}
use Rattle.std.specs.Option.{option_copied}
use Rattle.std.proofs.Common.{◌≡◌, ℕ, sym, ap, ◌∙◌}
use Rattle.alp_base.specs.declared.ids.TransId.{TransId}
use Rattle.alp_journal.specs.Ids.{same_trans}
use Rattle.alp_journal.proofs.IdLemmas.{same_trans-itself, same_trans-true}
use Rattle.alp_worker.specs.Lives.{join_at}
use Rattle.alp_node.proofs.AgainLemmas.{unready_step}
use Rattle.alp_node.proofs.JoinMoves.{found_number}
use Rattle.alp_node.proofs.server_state.ServerState.committed.Goals as goal

-- it has not voted
pub returns-in_default-stage : goal.returns-in_default-stage
returns-in_default-stage g c from =
    unready_step g.V.Vault c.args.self.now from c.args.trans c.args.join c.requires.up c.silence.result c.args.stamp c.in-Some.found.now (sym c.get.ensures.same ∙ ap option_copied c.in-Some.is)
    (λ ts voted its of. c.in_default-stage.not-Ready ts voted) c.silence.ensures

-- it is another transaction's
pub returns-then-not-is_same : goal.returns-then-not-is_same
returns-then-not-is_same g c from =
    let t = c.args.trans in
    unready_step g.V.Vault c.args.self.now from t c.args.join c.requires.up c.silence-then-not-is_same.result c.args.stamp c.in-Some.found.now (sym c.get.ensures.same ∙ ap option_copied c.in-Some.is)
    (λ ts voted its of. (let wrong : false ≡ true = c.if-not-is_same.ensures ∙ ap (λ (u : TransId). same_trans u t) its ∙ same_trans-itself t in cc)) c.silence-then-not-is_same.ensures

-- the stamp is another transaction's
pub returns-then-not-is_same-2 : goal.returns-then-not-is_same-2
returns-then-not-is_same-2 g c from =
    let t = c.args.trans in
    unready_step g.V.Vault c.args.self.now from t c.args.join c.requires.up c.silence-then-not-is_same-2.result c.args.stamp c.in-Some.found.now (sym c.get.ensures.same ∙ ap option_copied c.in-Some.is)
    (λ ts voted its of. (let wrong : false ≡ true = c.if-not-is_same-2.ensures ∙ ap (λ (u : TransId). same_trans u t) of ∙ same_trans-itself t in cc)) c.silence-then-not-is_same-2.ensures

pub apply-requires-clause-voted : goal.apply-requires-clause-voted
apply-requires-clause-voted g c =
    let k = c.args.self.now in
    let y = c.in-Some.found.now in
    let there : join_at k.joins.lives c.args.join ≡ Some y = sym c.get.ensures.same ∙ ap option_copied c.in-Some.is in
    let number = found_number k.joins.lives c.args.join y there in
    let its : y.trans ≡ c.args.trans = same_trans-true y.trans c.args.trans (sym c.if-not-is_same.ensures) in
    (y.client, c.in-Ready.field-0, there ∙ (λ i. Some (record y { join = sym number i; trans = its i; stage = c.in-Ready.is i })))
