use Rattle.std.specs.Prelude.{None, Some}
use Rattle.std.specs.FinMap as map
use Rattle.std.proofs.Common.{◌≡◌, ◌-◌, ap, sym, subst, arith, ◌∙◌}
use Rattle.alp_files.specs.Cells.{Cells}
use Rattle.alp_node.specs.Eases.{shared_in, eased_live, eased_if}
use Rattle.alp_node.specs.Totals.{LiveMap, totals_of, AreFewTotals}
use Rattle.alp_node.specs.declared.lives.Live.{Live}
use Rattle.alp_node.proofs.MapLemmas.{put_there, put_twice}
use Rattle.alp_node.proofs.TotalLemmas.{blank_few}
use Rattle.alp_node.proofs.server_state.ServerState.ease.Goals as goal

pub swap-requires-clause-there : goal.swap-requires-clause-there
swap-requires-clause-there g c none =
    let blank : Live = c.blank-blank.result in
    let wrong : None ≡ Some blank = sym none ∙ ap (λ (m : LiveMap). map.get m c.args.trans) c.swap-live.ensures.after ∙ put_there c.args.self.now.lives c.args.trans blank in
    cc

pub swap-requires-clause-few : goal.swap-requires-clause-few
swap-requires-clause-few g c =
    let blank : Live = c.blank-blank.result in
    subst (λ (m : LiveMap). AreFewTotals (totals_of m)) (sym c.swap-live.ensures.after) (blank_few c.args.self.now.lives c.args.trans c.swap-live.result blank c.swap-live.ensures.before c.blank-blank.ensures.idle c.requires.few)

pub swap-requires-clause-part : goal.swap-requires-clause-part
swap-requires-clause-part g c =
    let h = c.requires.part c.swap-live.result c.swap-live.ensures.before in
    (omega (arith, h.few.places, h.most, c.places_left-live.ensures), omega (arith, h.few.files, h.most), omega (arith, h.few.owners, h.most))

pub returns : goal.returns
returns g c =
    let k = c.args.self.now in
    let t = c.args.trans in
    let l : Live = c.swap-live.result in
    let blank : Live = c.blank-blank.result in
    let there : map.get k.lives t ≡ Some l = c.swap-live.ensures.before in
    let now : Live = record l { part = record (l.part) { counts = record (l.part.counts) { places = c.places_left-live.result } } } in
    let places : c.places_left-live.result ≡ l.part.counts.places - shared_in l.part.intents.puts c.args.blocks.now = c.places_left-live.ensures ∙ ap (λ (x : Cells). l.part.counts.places - shared_in x c.args.blocks.now) c.puts.ensures in
    let eased_now : now ≡ eased_live c.args.blocks.now l = λ i. record l { part = record (l.part) { counts = record (l.part.counts) { places = places i } } } in
    let lives : c.swap.new.self ≡ map.insert k.lives t now = c.swap.ensures.after ∙ ap (λ (m : LiveMap). map.insert m t now) c.swap-live.ensures.after ∙ put_twice k.lives t blank now in
    ap (λ (m : LiveMap). record k { lives = m })
    (lives ∙ ap (map.insert k.lives t) eased_now ∙ ap (eased_if c.args.blocks.now k.lives t) (sym there))
