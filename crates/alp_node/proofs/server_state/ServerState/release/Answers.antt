use Rattle.std.specs.Prelude.{cond, Bool, true, false, Option, None, Some}
use Rattle.std.specs.FinMap as map
use Rattle.std.proofs.Common.{◌≡◌, ◌+◌, ◌≤◌, List, [], ◌∷◌, suc, length, length-append, refl, ap, sym, arith, ◌∙◌}
use Rattle.alp_base.specs.declared.ids.TransId.{TransId}
use Rattle.alp_journal.specs.Ids.{same_trans}
use Rattle.alp_node.specs.Releases.{grant_acts}
use Rattle.alp_node.specs.Totals.{LiveMap}
use Rattle.alp_node.specs.declared.lives.Live.{Live}
use Rattle.alp_node.proofs.MapLemmas.{get_gone, gone_length}
use Rattle.alp_node.proofs.server_state.ServerState.release.Goals as goal

pub give-requires-clause-most : goal.give-requires-clause-most
give-requires-clause-most g c =
    let k = c.args.self.now in
    let fewer : map.len (map.remove k.lives c.args.trans) ≤ map.len k.lives = gone_length k.lives c.args.trans in
    let same : map.len c.remove.new.self ≡ map.len (map.remove k.lives c.args.trans) = ap (λ (m : LiveMap). map.len m) c.remove.ensures in
    omega (arith, same, fewer, c.requires.most)

pub give-requires-clause-part : goal.give-requires-clause-part
give-requires-clause-part g c u l there =
    let k = c.args.self.now in
    let go : (b : Bool) → cond {A = Option Live} b None (map.get k.lives u) ≡ Some l → map.get k.lives u ≡ Some l = λ b e. left_live b u k.lives l e in
    c.requires.part u l (go (same_trans u c.args.trans) (sym (get_gone k.lives c.args.trans u) ∙ sym (ap (λ (m : LiveMap). map.get m u) c.remove.ensures) ∙ there))
  where
    left_live : (b : Bool) (u : TransId) (m : LiveMap) (l : Live) → cond {A = Option Live} b None (map.get m u) ≡ Some l → map.get m u ≡ Some l
    left_live true u m l e = let wrong : None ≡ Some l = e in cc
    left_live false u m l e = e

pub returns-clause-few : goal.returns-clause-few
returns-clause-few g c =
    omega (arith, ap length c.give.ensures.acts, length-append c.args.acts.now.items (grant_acts c.release_all.new.self.woken), granted_length c.release_all.new.self.woken, c.release_all.ensures.few, ap length c.requires.none)
  where
    granted_length : (ts : List TransId) → length (grant_acts ts) ≡ length ts
    granted_length [] = refl
    granted_length (t ∷ ts) = ap suc (granted_length ts)
