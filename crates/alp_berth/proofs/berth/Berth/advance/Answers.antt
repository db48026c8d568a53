use Rattle.std.specs.Prelude.{max, false, Option, IfSome}
use Rattle.std.proofs.Common.{rules, ◌≡◌, ℕ, ◌+◌, List, [], ◌∷◌, ◌++◌, length, refl, sym, ap, ◌∙◌, subst}
use Rattle.alp_vault.specs.declared.vault.Vault.{Ghosts}
use Rattle.alp_node.specs.Nodes.{HasRoom}
use Rattle.alp_berth.specs.BerthStates.{BerthState}
use Rattle.alp_berth.specs.Berths.{last_in, rank_after, IsBerth, HasStepped, AreCounted}
use Rattle.alp_berth.proofs.BerthLemmas.{berth_stepped, counted_stepped, reply_sendable}
use Rattle.alp_berth.proofs.berth.Berth.advance.Goals as goal

pub invariant_of-self-2 : goal.invariant_of-self-2
invariant_of-self-2 g c =
    let n = c.self.inside.node in
    let m = c.step.new.self in
    let rs = c.self.inside.ranks.items in
    let h = c.in_ok-reply.ensures in
    let up : n.kept.is_down ≡ false = subst (λ (b : BerthState g.row.V.Denot). b.node.kept.is_down ≡ false) (sym c.self.view_is) c.requires.up in
    let room : HasRoom n = subst (λ (b : BerthState g.row.V.Denot). HasRoom b.node) (sym c.self.view_is) c.requires.room in
    let a = h.answered up room in
    let rank_is : c.max-rank.result + 1 ≡ rank_after rs c.args.seen = ap (λ k. k + 1) (c.max-rank.ensures ∙ ap (λ k. max k c.args.seen) (c.last_of.ensures ∙ ap last_in (c.deref.ensures.value ∙ c.reserve.ensures.items))) in
    let ranks_is : c.push_reserved.new.self.items ≡ rs ++ rank_after rs c.args.seen ∷ [] = c.push_reserved.ensures.items ∙ (λ i. c.reserve.ensures.items i ++ rank_is i ∷ []) in
    let counts_is : c.push_reserved-2.new.self.items ≡ c.self.inside.counts.items ++ c.self.inside.all ∷ [] = c.push_reserved-2.ensures.items ∙ ap (λ l. l ++ c.self.inside.all ∷ []) c.reserve-2.ensures.items in
    let sent_is = c.count_last-sent.ensures n.journal (record { event = c.args.event; reply = c.in_ok-reply.reply; acts = a.acts }) (c.entries.ensures ∙ (c.journal.ensures ∙ a.entry)) in
    record {
      berth = subst (λ (l : List ℕ). IsBerth g.V.Vault c.self.inside.made m l) (sym ranks_is)
          (berth_stepped g.V.Vault c.self.inside.made n m rs c.args.seen c.args.event c.in_ok-reply.reply c.self.invariant.berth c.knows.ensures c.requires.served up room c.requires.early a h.opening h.seat (h.turned room) c.knows-2.ensures);
      counted = subst (λ (l : List ℕ). AreCounted c.self.inside.since l c.saturating_add-self-inside.result (length c.self.inside.made.node.value.journal) m.journal) (sym counts_is)
          (counted_stepped g.V.Vault c.self.inside.made n m rs c.args.seen c.args.event c.in_ok-reply.reply c.self.invariant.berth c.knows.ensures c.requires.served up room c.requires.early a h.opening h.seat (h.turned room) c.knows-2.ensures
          c.self.inside.since c.self.inside.counts.items c.self.inside.all (length c.self.inside.made.node.value.journal) c.count_last-sent.result c.saturating_add-self-inside.result c.self.invariant.counted sent_is c.saturating_add-self-inside.ensures);
    }

pub returns-clause-ok : goal.returns-clause-ok
returns-clause-ok g c =
    let n = c.self.inside.node in
    let m = c.step.new.self in
    let rs = c.self.inside.ranks.items in
    let h = c.in_ok-reply.ensures in
    let up : n.kept.is_down ≡ false = subst (λ (b : BerthState g.row.V.Denot). b.node.kept.is_down ≡ false) (sym c.self.view_is) c.requires.up in
    let room : HasRoom n = subst (λ (b : BerthState g.row.V.Denot). HasRoom b.node) (sym c.self.view_is) c.requires.room in
    let a = h.answered up room in
    let rank_is : c.max-rank.result + 1 ≡ rank_after rs c.args.seen = ap (λ k. k + 1) (c.max-rank.ensures ∙ ap (λ k. max k c.args.seen) (c.last_of.ensures ∙ ap last_in (c.deref.ensures.value ∙ c.reserve.ensures.items))) in
    let new : BerthState g.row.V.Denot = record { node = m; ranks = c.push_reserved.new.self.items; made = c.self.inside.made } in
    subst (λ (b : BerthState g.row.V.Denot). HasStepped g.V.Vault b new c.args.event c.args.seen c.in_ok-reply.reply) c.self.view_is (record {
      made = refl;
      entry = record { event = c.args.event; reply = c.in_ok-reply.reply; acts = a.acts };
      event_is = refl;
      reply_is = refl;
      journal = a.entry;
      ranks = c.push_reserved.ensures.items ∙ (λ i. c.reserve.ensures.items i ++ rank_is i ∷ []);
      sendable = reply_sendable g.V.Vault c.self.inside.made n m rs c.args.seen c.args.event c.in_ok-reply.reply c.self.invariant.berth c.knows.ensures c.requires.served up room c.requires.early a h.opening h.seat (h.turned room) c.knows-2.ensures;
    })
