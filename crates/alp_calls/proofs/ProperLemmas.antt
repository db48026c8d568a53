-- answers that are proper
use Rattle.std.specs.Prelude.{true, false}
use Rattle.std.proofs.Common.{◌≡◌, sym, ◌∙◌}
use Rattle.alp_files.specs.declared.reply.Reply.{Reply}
use Rattle.alp_files.specs.Passing.{is_passing}
use Rattle.alp_trans.specs.Parts.{AreBeside}
use Rattle.alp_trans.specs.declared.part.Part.{Part}
use Rattle.alp_calls.specs.Parts.{ArePuts, IsNextOpen, IsPartReply, IsProper, has_contents}
use Rattle.alp_calls.specs.declared.said.Effect.{Effect}
use Rattle.alp_calls.specs.declared.said.Said.TheVariants.{Done}

-- a reply without contents, with what changes
pub done_proper : (p : Part) (r : Reply) (e : Effect) → is_passing r ≡ false → IsPartReply r → has_contents r ≡ false
    → IsNextOpen p.last e.opens → ArePuts e.puts.items → AreBeside e.gone e.puts.items → IsProper p (Done r e)
done_proper p r e own kind silent next puts beside = record {
  own = own;
  kind = kind;
  reads = λ has. (let wrong : true ≡ false = sym has ∙ silent in cc);
  next = next;
  puts = puts;
  beside = beside;
}
