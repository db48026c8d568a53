use Rattle.std.proofs.Common.{◌≡◌, ◌++◌, [], List, sym, ap, ◌∙◌}
use Rattle.alp_journal.specs.declared.act.Act.{Act}
use Rattle.alp_journal.specs.declared.message.Envelope.{Envelope}
use Rattle.alp_node.specs.Ticks.{said_all, asked_again, decided_again}
use Rattle.alp_node.proofs.server_state.ServerState.said_again.Goals as goal

pub returns : goal.returns
returns g c =
    let k = c.args.self.now in
    let rs : List Envelope = c.in_ok-mails.mails.items in
    let all : c.commits_again.new.out.items ≡ (rs ++ asked_again k) ++ decided_again k = c.in_ok-commits_again.ensures.said ∙ ap (λ (es : List Envelope). es ++ decided_again k) c.in_ok-asks_again.ensures.said in
    let first : c.say_all.new.acts.items ≡ said_all ((rs ++ asked_again k) ++ decided_again k) =
    c.in_ok-say_all.ensures ∙ ap (λ (xs : List Act). xs ++ said_all c.as_slice.result.now) c.new-acts.ensures.items ∙ ap said_all (c.as_slice.ensures.value ∙ all) in
    record {
      registers = rs;
      inquiries = c.in_ok-inquiries.inquiries.items;
      said = c.in_ok-say_all-2.ensures ∙ ap (λ (xs : List Act). xs ++ said_all c.as_slice-2.result.now) first ∙ ap (λ (es : List Envelope). said_all ((rs ++ asked_again k) ++ decided_again k) ++ said_all es) c.as_slice-2.ensures.value;
      registers_all = c.in_ok-mails.ensures.same;
      registers_order = c.in_ok-mails.ensures.order;
      registers_told = c.in_ok-mails.ensures.journal;
      inquiries_all = c.in_ok-inquiries.ensures.same;
      inquiries_order = c.in_ok-inquiries.ensures.order;
      inquiries_told = c.in_ok-inquiries.ensures.journal;
    }
