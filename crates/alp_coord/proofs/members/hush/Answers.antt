use Rattle.std.specs.Prelude.{Option, None, Some}
use Rattle.std.proofs.Common.{◌≡◌, ◌<◌, List, length, set, get_or, ap, ◌∙◌, arith}
use Rattle.alp_coord.specs.declared.members.Member.{Member}
use Rattle.alp_coord.proofs.MemberLemmas.{hushed-step}
use Rattle.alp_coord.proofs.members.hush.Goals as goal

pub loop-member-preserved : goal.loop-member-preserved
loop-member-preserved c =
    let i = c.loop-member.member-index in
    let blank : Member = record { join = record { server = 0; epoch = 0; counter = 0 }; said = None } in
    ap (λ (xs : List Member). set xs i (record { join = (get_or xs i blank).join; said = None })) c.loop-member.invariant ∙ hushed-step c.args.members.now i blank (omega arith)
