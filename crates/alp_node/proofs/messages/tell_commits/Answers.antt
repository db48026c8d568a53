use Rattle.std.specs.Prelude.{vec_capacity, suc}
use Rattle.std.proofs.Common.{◌≡◌, ℕ, ◌+◌, ◌<◌, ◌++◌, List, [], ◌∷◌, append-nil, append_assoc, drop, drop-cons, drop_of_length-le, length, length-append, slice_index_or, refl, sym, ap, ◌∙◌, arith}
use Rattle.alp_base.specs.declared.ids.JoinNo.{JoinNo}
use Rattle.alp_journal.specs.declared.act.Act.{Act}
use Rattle.alp_journal.specs.declared.act.Act.TheVariants as act
use Rattle.alp_journal.specs.declared.message.Message.TheVariants as msg
use Rattle.alp_node.specs.Says.{said_each}
use Rattle.alp_node.proofs.messages.tell_commits.Goals as goal

pub loop-join-init : goal.loop-join-init
loop-join-init c = (refl, omega arith, refl)

pub push_reserved-requires : goal.push_reserved-requires
push_reserved-requires c = omega (arith, c.loop-join.invariant.1, c.loop-join.invariant.2, c.loop-join-test.true, c.requires.room)

pub loop-join-preserved : goal.loop-join-preserved
loop-join-preserved c =
    let js : List JoinNo = c.args.joins.now in
    let i : ℕ = c.loop-join.join-index in
    let none : JoinNo = record { server = 0; epoch = 0; counter = 0 } in
    let j : JoinNo = slice_index_or js i none in
    let one : suc i ≡ i + 1 = omega arith in
    let next : drop i js ≡ j ∷ drop (i + 1) js = drop-cons js i none c.loop-join-test.true ∙ ap (λ (n : ℕ). j ∷ drop n js) one in
    let pushed : c.push_reserved.new.self.items ≡ c.loop-join.acts.items ++ act.Sent j.server ((λ (j : JoinNo). msg.Commit c.args.stamp.trans j c.args.stamp) j) ∷ [] = c.push_reserved.ensures.items in (
      ap (λ (xs : List Act). xs ++ said_each (λ (j : JoinNo). msg.Commit c.args.stamp.trans j c.args.stamp) (drop (i + 1) js)) pushed
          ∙ append_assoc c.loop-join.acts.items (act.Sent j.server ((λ (j : JoinNo). msg.Commit c.args.stamp.trans j c.args.stamp) j) ∷ []) (said_each (λ (j : JoinNo). msg.Commit c.args.stamp.trans j c.args.stamp) (drop (i + 1) js))
          ∙ ap (λ (xs : List JoinNo). c.loop-join.acts.items ++ said_each (λ (j : JoinNo). msg.Commit c.args.stamp.trans j c.args.stamp) xs) (sym next) ∙ c.loop-join.invariant.0,
      omega (arith, ap length pushed, length-append c.loop-join.acts.items (act.Sent j.server ((λ (j : JoinNo). msg.Commit c.args.stamp.trans j c.args.stamp) j) ∷ []), c.loop-join.invariant.1),
      c.push_reserved.ensures.capacity ∙ c.loop-join.invariant.2,
    )

pub returns : goal.returns
returns c =
    record { said = sym (append-nil c.loop-join.acts.items) ∙ ap (λ (xs : List JoinNo). c.loop-join.acts.items ++ said_each (λ (j : JoinNo). msg.Commit c.args.stamp.trans j c.args.stamp) xs) (sym (drop_of_length-le c.args.joins.now c.loop-join-test.false)) ∙ c.loop-join.invariant.0 }
