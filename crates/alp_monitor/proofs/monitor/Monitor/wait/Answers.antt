use Rattle.std.proofs.Common.{rules, ◌+◌, ◌-◌, ◌%◌, ◌^◌, bit_and, sym, ◌∙◌}
use Rattle.alp_monitor.proofs.Rules.{begins_wait, ends_wait, marks, cleared}
use Rattle.alp_monitor.proofs.Seats.{waits, comes_back}
use Rattle.alp_monitor.proofs.monitor.Monitor.wait.Goals as goal

pub fetch_add-requires : goal.fetch_add-requires
fetch_add-requires g c = let o = c.requires.outside in (search rules, search rules, begins_wait g.S.Story.base g.S.Story.entries _ _ _ _ _ o.0 o.1 o.2)

pub fetch_and-seen-requires : goal.fetch_and-seen-requires
fetch_and-seen-requires g c = (search rules, search rules, marks g.S.Story.base g.S.Story.entries _ _ _ _ _ (λ n. bit_and n 18446744073709551614) cleared)

pub fetch_sub-requires : goal.fetch_sub-requires
fetch_sub-requires g c =
    let o = c.requires.outside in
    (search rules, search rules, ends_wait g.S.Story.base g.S.Story.entries _ _ _ _ _ o.0 o.1 (c.fetch_and-seen.ensures.2 ∙ waits g.S.Story.base g.S.Story.entries _ _ o.0 o.1 o.2 c.fetch_add.ensures.2))

pub fetch_and-requires : goal.fetch_and-requires
fetch_and-requires g c = (search rules, search rules, marks g.S.Story.base g.S.Story.entries _ _ _ _ _ (λ n. bit_and n 18446744073709551614) cleared)

pub returns : goal.returns
returns g c =
    let o = c.requires.outside in
    let counted = c.fetch_and-seen.ensures.2 ∙ waits g.S.Story.base g.S.Story.entries _ _ o.0 o.1 o.2 c.fetch_add.ensures.2 in
    record {
      table = c.fetch_and.ensures.0 ∙ (c.fetch_sub.ensures.0 ∙ (c.fetch_and-seen.ensures.0 ∙ c.fetch_add.ensures.0));
      id = c.fetch_and.ensures.1 ∙ (c.fetch_sub.ensures.1 ∙ (c.fetch_and-seen.ensures.1 ∙ c.fetch_add.ensures.1));
      me = c.fetch_and.ensures.2 ∙ (comes_back g.S.Story.base g.S.Story.entries _ _ o.0 o.1 counted c.fetch_sub.ensures.2 ∙ sym o.2);
    }
