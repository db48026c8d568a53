use Rattle.std.specs.Prelude.{Option, None, Some}
use Rattle.std.specs.FinMap as map
use Rattle.std.proofs.Common.{◌≡◌, ℕ, ap, sym, subst, arith, ◌∙◌}
use Rattle.alp_node.specs.Releases.{lock_if, granted_if}
use Rattle.alp_node.specs.Waits.{grant_of}
use Rattle.alp_node.specs.Totals.{LiveMap, totals_of, AreFewTotals}
use Rattle.alp_node.specs.declared.lives.Live.{Live}
use Rattle.alp_node.proofs.MapLemmas.{put_there, put_twice}
use Rattle.alp_node.proofs.TotalLemmas.{blank_few}
use Rattle.alp_node.proofs.server_state.ServerState.grant.Goals as goal

pub swap-requires-clause-there : goal.swap-requires-clause-there
swap-requires-clause-there g c none =
    let blank : Live = c.blank-blank.result in
    let wrong : None ≡ Some blank = sym none ∙ ap (λ (m : LiveMap). map.get m c.args.trans) c.swap-live.ensures.after ∙ put_there c.args.self.now.lives c.args.trans blank in
    cc

pub swap-requires-clause-few : goal.swap-requires-clause-few
swap-requires-clause-few g c =
    let blank : Live = c.blank-blank.result in
    subst (λ (m : LiveMap). AreFewTotals (totals_of m)) (sym c.swap-live.ensures.after) (blank_few c.args.self.now.lives c.args.trans c.swap-live.result blank c.swap-live.ensures.before c.blank-blank.ensures.idle c.requires.few)

pub swap-requires-clause-part : goal.swap-requires-clause-part
swap-requires-clause-part g c =
    let h = c.requires.part c.swap-live.result c.swap-live.ensures.before in
    (omega (arith, h.few.places, h.most), omega (arith, h.few.files, h.most), omega (arith, h.few.owners, h.most))

pub returns : goal.returns
returns g c =
    let k = c.args.self.now in
    let t = c.args.trans in
    let n : ℕ = c.in-Some.locks in
    let l : Live = c.swap-live.result in
    let blank : Live = c.blank-blank.result in
    let lives : c.swap.new.self ≡ map.insert k.lives t (record l { locks = n }) = c.swap.ensures.after ∙ ap (λ (m : LiveMap). map.insert m t (record l { locks = n })) c.swap-live.ensures.after ∙ put_twice k.lives t blank (record l { locks = n }) in
    (λ i. record k { waits = c.grant.ensures i; lives = lives i })
    ∙ ap (λ (x : Option Live). record k { waits = grant_of t k.waits; lives = lock_if k.lives t n x }) (sym c.swap-live.ensures.before)
    ∙ ap (granted_if k t) c.in-Some.ensures
