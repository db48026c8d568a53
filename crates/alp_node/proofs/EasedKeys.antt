-- the parts that are eased are all that are live
use Rattle.std.specs.Prelude.{cond, Bool, is_some, Option}
use Rattle.std.specs.Option.{option_map}
use Rattle.std.specs.List.{list_any}
use Rattle.std.specs.FinMap as map
use Rattle.std.specs.FinMap.{contains_key-keys}
use Rattle.std.specs.Ordering.{eq_by_cmp}
use Rattle.std.proofs.Common.{◌≡◌, List, sym, ◌∙◌, ap, subst}
use Rattle.alp_base.specs.Orders.{trans_cmp}
use Rattle.alp_base.specs.declared.ids.TransId.{TransId}
use Rattle.alp_base.specs.declared.key.Key.{Key}
use Rattle.alp_journal.specs.Ids.{same_trans}
use Rattle.alp_node.specs.Eases.{eased_live, eased}
use Rattle.alp_node.specs.Totals.{LiveMap}
use Rattle.alp_node.specs.declared.lives.Live.{Live}
use Rattle.alp_node.proofs.EaseLemmas.{eased_get}
use Rattle.alp_node.proofs.KeysOnce.{AreOnce, keys_once}
use Rattle.alp_node.proofs.MapLemmas.{tied_same}

as_same : eq_by_cmp trans_cmp ≡ same_trans
as_same = λ i t u. tied_same t u i

among_keys : (m : LiveMap) (u : TransId) → list_any (same_trans u) (map.keys m) ≡ is_some (map.get m u)
among_keys m u = ap (λ (same : TransId → TransId → Bool). list_any (same u) (map.keys m)) (sym as_same) ∙ sym (contains_key-keys m u)

-- of other parts just those are eased that were live before
pub eased_at : (blocks : List Key) (m lives : LiveMap) (u : TransId) (o : Option Live) → map.get lives u ≡ o
    → map.get (eased blocks lives (map.keys m)) u ≡ cond {A = Option Live} (is_some (map.get m u)) (option_map (eased_live blocks) o) o
eased_at blocks m lives u o at =
    eased_get blocks lives (map.keys m) u (subst (λ (same : TransId → TransId → Bool). AreOnce same (map.keys m)) as_same (keys_once trans_cmp m))
    ∙ ap (λ (b : Bool). cond {A = Option Live} b (option_map (eased_live blocks) (map.get lives u)) (map.get lives u)) (among_keys m u)
    ∙ ap (λ (x : Option Live). cond {A = Option Live} (is_some (map.get m u)) (option_map (eased_live blocks) x) x) at
