use Rattle.std.proofs.Common.{inl, inr, ◌≡◌, ℕ, List, [], ◌∷◌, ◌++◌, refl, sym, ◌∙◌, ap, subst}
use Rattle.alp_fields.specs.Forms.{whole}
use Rattle.alp_journal.specs.declared.log.Item.{Item}
use Rattle.alp_rpc.specs.Frames.{request}
use Rattle.alp_session.specs.Crowds.{hears}
use Rattle.alp_cluster.specs.Handings.{AreHanded}
use Rattle.alp_cluster.specs.Steps.{Exchanged}
use Rattle.alp_cluster.specs.declared.fault.RunFault.TheVariants as fault
use Rattle.alp_cluster.proofs.DidLemmas.{gone_wanting, none_further, all_ok, all_memory, all_handed}
use Rattle.alp_cluster.proofs.ExchangeLemmas.{exchanged, told_here}
use Rattle.alp_cluster.proofs.GoneLemmas.{end_on, end_any, handed_on}
use Rattle.alp_cluster.proofs.HandLemmas.{exchanges_none}
use Rattle.alp_cluster.proofs.parties.Parties.send.Goals as goal

pub returns-then-not-has-clause-gone : goal.returns-then-not-has-clause-gone
returns-then-not-has-clause-gone g c = gone_wanting g.V.Vault (Unit {0}) c.args.self.now.stations

pub returns-then-not-has-clause-ended : goal.returns-then-not-has-clause-ended
returns-then-not-has-clause-ended g c = inl (refl, record { ends = tt; left = none_further g.V.Vault c.args.self.now.stations })

pub has-requires : goal.has-requires
has-requires g c = record { on = c.requires.step.on }

pub returns-in_err-reserve-clause-gone : goal.returns-in_err-reserve-clause-gone
returns-in_err-reserve-clause-gone g c =
    rw (handed_on fault.OutOfMemory c.from_residual.result c.from_residual.ensures.0 c.from_residual.ensures.1) (gone_wanting g.V.Vault (Unit {0}) c.args.self.now.stations)

pub returns-in_err-reserve-clause-ended : goal.returns-in_err-reserve-clause-ended
returns-in_err-reserve-clause-ended g c =
    end_any fault.OutOfMemory c.from_residual.result _ (handed_on fault.OutOfMemory c.from_residual.result c.from_residual.ensures.0 c.from_residual.ensures.1)
    (inl (c.reserve.ensures.items, record { ends = tt; left = none_further g.V.Vault c.args.self.now.stations }))

pub hand-requires-clause-on : goal.hand-requires-clause-on
hand-requires-clause-on g c = c.requires.step.on

pub hand-requires-clause-server : goal.hand-requires-clause-server
hand-requires-clause-server g c = c.has.ensures.yes c.if-not-has.false

pub returns-in_err-handed-clause-gone : goal.returns-in_err-handed-clause-gone
returns-in_err-handed-clause-gone g c =
    all_handed g.V.Vault (Unit {0}) c.args.self.now.stations c.hand.new.self c.in_err-handed.field-0.0 c.from_residual-in_err-handed.result c.in_err-handed.ensures.gone
    (handed_on c.in_err-handed.field-0.0 c.from_residual-in_err-handed.result c.from_residual-in_err-handed.ensures.0 c.from_residual-in_err-handed.ensures.1)

pub returns-in_err-handed-clause-ended : goal.returns-in_err-handed-clause-ended
returns-in_err-handed-clause-ended g c =
    end_on c.in_err-handed.field-0.0 c.from_residual-in_err-handed.result _ _ (handed_on c.in_err-handed.field-0.0 c.from_residual-in_err-handed.result c.from_residual-in_err-handed.ensures.0 c.from_residual-in_err-handed.ensures.1)
    (λ f at. inl (c.reserve.ensures.items, exchanges_none g.V.Vault c.args.client c.args.frame c.args.self.now.stations c.hand.new.self f (whole request c.as_slice.result.now) (sym (ap (whole request) c.as_slice.ensures)) at)) c.in_err-handed.ensures.ended

pub returns-in_default-clause-gone : goal.returns-in_default-clause-gone
returns-in_default-clause-gone g c = all_memory g.V.Vault (Unit {0}) c.args.self.now.stations c.hand.new.self c.in_ok-handed.handed c.in_ok-handed.ensures.gone

pub returns-in_default-clause-ended : goal.returns-in_default-clause-ended
returns-in_default-clause-ended g c =
    let s = c.args.self.now.stations in
    let h = c.in_ok-handed.handed in
    let heard = hears c.args.self.now.clients c.args.client c.args.line.now.line c.args.next c.args.frame h.reply in
    inr (
      refl,
      heard.0,
      heard.1,
      c.into_item-item.result.0,
      c.push_reserved.ensures.items ∙ ap (λ (xs : List Item). xs ++ c.into_item-item.result.0 ∷ []) c.reserve.ensures.items,
      subst (λ (x : Item). Exchanged g.V.Vault c.args.self.now.clients heard.0 s c.hand.new.self c.args.client c.args.line.now c.args.next c.args.frame heard.1 x) (sym c.into_item-item.ensures.item)
          (exchanged g.V.Vault c.args.self.now.clients s c.hand.new.self c.args.client c.args.line.now c.args.next c.args.frame h c.requires.step c.requires.client.1 c.requires.form c.requires.asked c.requires.fits c.requires.own
          (subst (λ (bytes : List ℕ). AreHanded g.V.Vault c.args.frame.server c.args.client bytes h s c.hand.new.self) c.as_slice.ensures c.in_ok-handed.ensures.handed)
          heard.0 heard.1 c.mark_of.result refl c.mark_of.ensures),
    )

pub returns-in_err-behind-clause-gone : goal.returns-in_err-behind-clause-gone
returns-in_err-behind-clause-gone g c =
    rw (handed_on fault.OutOfMemory c.from_residual-in_err-behind.result c.from_residual-in_err-behind.ensures.0 c.from_residual-in_err-behind.ensures.1)
    (all_memory g.V.Vault (Unit {0}) c.args.self.now.stations c.hand.new.self c.in_ok-handed.handed c.in_ok-handed.ensures.gone)

pub returns-in_err-behind-clause-ended : goal.returns-in_err-behind-clause-ended
returns-in_err-behind-clause-ended g c =
    let s = c.args.self.now.stations in
    let h = c.in_ok-handed.handed in
    let heard = hears c.args.self.now.clients c.args.client c.args.line.now.line c.args.next c.args.frame h.reply in
    end_any fault.OutOfMemory c.from_residual-in_err-behind.result _ (handed_on fault.OutOfMemory c.from_residual-in_err-behind.result c.from_residual-in_err-behind.ensures.0 c.from_residual-in_err-behind.ensures.1)
    (inr (
      refl,
      heard.0,
      heard.1,
      c.into_item-item.result.0,
      c.push_reserved.ensures.items ∙ ap (λ (xs : List Item). xs ++ c.into_item-item.result.0 ∷ []) c.reserve.ensures.items,
      subst (λ (x : Item). Exchanged g.V.Vault c.args.self.now.clients heard.0 s c.hand.new.self c.args.client c.args.line.now c.args.next c.args.frame heard.1 x) (sym c.into_item-item.ensures.item)
          (exchanged g.V.Vault c.args.self.now.clients s c.hand.new.self c.args.client c.args.line.now c.args.next c.args.frame h c.requires.step c.requires.client.1 c.requires.form c.requires.asked c.requires.fits c.requires.own
          (subst (λ (bytes : List ℕ). AreHanded g.V.Vault c.args.frame.server c.args.client bytes h s c.hand.new.self) c.as_slice.ensures c.in_ok-handed.ensures.handed)
          heard.0 heard.1 c.mark_of.result refl c.mark_of.ensures),
    ))

pub returns-clause-gone : goal.returns-clause-gone
returns-clause-gone g c = all_ok g.V.Vault (Unit {0}) c.args.self.now.stations c.hand.new.self c.in_ok-handed.handed c.in_ok-behind.behind c.in_ok-handed.ensures.gone

pub returns-clause-sent : goal.returns-clause-sent
returns-clause-sent g c =
    let s = c.args.self.now.stations in
    let h = c.in_ok-handed.handed in
    let handed : AreHanded g.V.Vault c.args.frame.server c.args.client c.args.frame.bytes h s c.hand.new.self =
    subst (λ (bytes : List ℕ). AreHanded g.V.Vault c.args.frame.server c.args.client bytes h s c.hand.new.self) c.as_slice.ensures c.in_ok-handed.ensures.handed in
    let told = told_here g.V.Vault c.args.self.now.clients s c.hand.new.self c.args.client c.args.line.now c.args.next c.args.frame h c.requires.step c.requires.client.1 c.requires.form c.requires.asked c.requires.fits c.requires.own handed c.in-Ok.bytes
    (sym c.into_item-item.ensures.bytes ∙ c.in-Ok.is) in (
      c.into_item-item.result.0,
      c.push_reserved.ensures.items ∙ ap (λ (xs : List Item). xs ++ c.into_item-item.result.0 ∷ []) c.reserve.ensures.items,
      subst (λ (x : Item). Exchanged g.V.Vault c.args.self.now.clients c.hears.new.self s c.hand.new.self c.args.client c.args.line.now c.args.next c.args.frame c.in_ok-behind.behind x) (sym c.into_item-item.ensures.item)
          (exchanged g.V.Vault c.args.self.now.clients s c.hand.new.self c.args.client c.args.line.now c.args.next c.args.frame h c.requires.step c.requires.client.1 c.requires.form c.requires.asked c.requires.fits c.requires.own handed c.hears.new.self
          c.in_ok-behind.behind c.mark_of.result (c.in_ok-behind.ensures.ok ∙ ap (hears c.args.self.now.clients c.args.client c.args.line.now.line c.args.next c.args.frame) told) c.mark_of.ensures),
    )
