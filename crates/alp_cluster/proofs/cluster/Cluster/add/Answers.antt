use Rattle.std.proofs.Common.{List, [], ◌∷◌, ◌++◌, refl, ◌∙◌, ap}
use Rattle.alp_cluster.specs.declared.station.Station.{Station}
use Rattle.alp_cluster.proofs.LeftLemmas.{gathered_more}
use Rattle.alp_cluster.proofs.cluster.Cluster.add.Goals as goal

pub returns-clause-added : goal.returns-clause-added
returns-clause-added g c = λ ns h.
    gathered_more ns c.args.self.now.parties _ c.args.self.now.lists.items c.args.self.now.text.items c.args.node c.new.result c.new.ensures.stands c.new.ensures.ranks c.new.ensures.free (c.push_reserved.ensures.items ∙ ap (λ (xs : List (Station _)). xs ++ c.new.result ∷ []) c.reserve.ensures.items) refl refl h
