use Rattle.std.proofs.Common.{refl}
use Rattle.std.proofs.lemmas.Result.{IfOk-weaker}
use Rattle.alp_fields.specs.Forms.{whole}
use Rattle.alp_rpc.specs.Frames.{request}
use Rattle.alp_cluster.proofs.AtLemmas.{at_there, at_keeps}
use Rattle.alp_cluster.proofs.GoneLemmas.{end_map}
use Rattle.alp_cluster.proofs.HandLemmas.{handed_here, frame_ends}
use Rattle.alp_cluster.proofs.StationsLemmas.{leaves_all}
use Rattle.alp_cluster.proofs.stations.Stations.hand.Goals as goal

pub hand-requires-clause-stands : goal.hand-requires-clause-stands
hand-requires-clause-stands g c = at_keeps g.V.Vault c.args.self.now c.requires.on c.args.server c.requires.server c.index_mut.result.now c.index_mut.ensures.value

pub returns-clause-gone : goal.returns-clause-gone
returns-clause-gone g c = leaves_all g.V.Vault c.args.self.now _ c.requires.on c.args.server c.requires.server c.index_mut.result.now c.hand.new.self (at_there c.args.self.now c.args.server c.requires.server c.index_mut.result.now c.index_mut.ensures.value) refl (Unit {0}) c.hand.result c.hand.ensures.gone

pub returns-clause-handed : goal.returns-clause-handed
returns-clause-handed g c =
    let s = c.args.self.now in
    let x = c.index_mut.result.now in
    let (n, keeps) = at_keeps g.V.Vault s c.requires.on c.args.server c.requires.server x c.index_mut.ensures.value in
    let there = at_there s c.args.server c.requires.server x c.index_mut.ensures.value in
    IfOk-weaker c.hand.result _ _ (λ h was. handed_here g.V.Vault s _ c.requires.on c.args.server c.requires.server x c.hand.new.self there refl refl n keeps.stands c.args.client c.args.frame.now h (was n keeps)) c.hand.ensures.handed

pub returns-clause-ended : goal.returns-clause-ended
returns-clause-ended g c =
    let s = c.args.self.now in
    let x = c.index_mut.result.now in
    let (n, keeps) = at_keeps g.V.Vault s c.requires.on c.args.server c.requires.server x c.index_mut.ensures.value in
    let there = at_there s c.args.server c.requires.server x c.index_mut.ensures.value in
    end_map c.hand.result _ _ (λ f ends. frame_ends g.V.Vault s _ c.requires.on c.args.server c.requires.server x c.hand.new.self there refl refl n keeps.stands f (whole request c.args.frame.now) (ends n keeps)) c.hand.ensures.ended
