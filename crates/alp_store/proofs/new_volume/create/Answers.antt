use Rattle.std.specs.Prelude.{IsTrue}
use Rattle.std.proofs.Common.{ℕ, sym, ◌∙◌, subst}
use Rattle.alp_anchor.specs.Anchor.{AreSizesOf}
use Rattle.alp_store.proofs.MakingLaws.{not_renewed, unmade}
use Rattle.alp_store.proofs.RenewLaws.{new_again}
use Rattle.alp_store.proofs.new_volume.create.Goals as goal

pub returns-then-not-is_of_memory-clause-formatted : goal.returns-then-not-is_of_memory-clause-formatted
returns-then-not-is_of_memory-clause-formatted g c told = record {
  empty = tt;
  anchor = tt;
  volume = c.in-Err.ensures.volume told;
  memory = λ is. absurd (c.is_of_memory.ensures.no c.if-not-is_of_memory.true is);
  made = tt;
  refused = not_renewed g.D.Disk c.args.server c.args.servers c.args.sizes c.args.disk c.in-Err.refused.0 (c.in-Err.ensures.moment told);
}

pub returns-clause-formatted : goal.returns-clause-formatted
returns-clause-formatted g c told =
    let there = subst IsTrue (sym c.in-Err.ensures.below.tells) told in
    let sized = subst (λ (n : ℕ). AreSizesOf n c.args.sizes) (sym (c.renewed.ensures.below.size ∙ c.in-Err.ensures.below.size)) c.requires.sizes in
    record {
      empty = tt;
      anchor = tt;
      volume = c.renewed.ensures.volume;
      memory = λ is. (let none = c.renewed.ensures.blank there is in (new_again g.D.Disk c.args.sizes c.renewed.result.0 sized none, none.durable));
      made = tt;
      refused = unmade g.D.Disk c.args.server c.args.servers c.args.sizes g.met.D.Disk.counts_now c.args.disk c.in-Err.refused.0 c.renewed.result.0 (c.in-Err.ensures.moment told) c.renewed.ensures.moment;
    }
