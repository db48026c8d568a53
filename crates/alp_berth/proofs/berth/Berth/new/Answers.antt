use Rattle.std.proofs.Common.{rules, ◌≡◌, length, sym, ap, ◌∙◌, List}
use Rattle.alp_journal.specs.declared.entry.Entry.{Entry}
use Rattle.alp_berth.specs.Sends.{counts_from, count_in, capped}
use Rattle.alp_berth.proofs.BerthLemmas.{berth_made}
use Rattle.alp_berth.proofs.berth.Berth.new.Goals as goal

pub invariant_of-result : goal.invariant_of-result
invariant_of-result g c = record {
  berth = berth_made g.V.Vault (record { node = c.of.result; ranks = c.of-2.result }) c.args.node c.args.ranks.items (search rules) (search rules) c.requires;
  counted = record {
    since_is = search rules;
    counts_are = c.in-Ok.ensures.counts ∙ ap (counts_from 0) (c.entries.ensures ∙ c.journal.ensures);
    all_is = c.in-Ok.ensures.all ∙ ap (λ (l : List Entry). capped (count_in l)) (c.entries.ensures ∙ c.journal.ensures);
  };
}
