-- lists of passes, and errands that have none yet
use Rattle.std.proofs.Common.{◌≡◌, ℕ, ◌+◌, ◌≤◌, List, [], ◌∷◌, ◌++◌, length, Some, None, refl, sym, ap, ◌∙◌, subst, arith, length-append}
use Rattle.std.specs.Prelude.{slice_get, Vec}
use Rattle.std.specs.Vec.{vec_len, vec_capacity}
use Rattle.std.specs.Global.{Global}
use Rattle.alp_monitor.specs.declared.monitor.Pass.{Pass}
use Rattle.alp_storm.specs.Storms.{AreRooms, IsOpen, AreOpen}
use Rattle.alp_storm.specs.declared.errand.Errand.{Errand}
use Rattle.alp_storm.proofs.Lists.{all_pushed, get_none}
use Rattle.alp_storm.proofs.Closes.{room_last, rooms_left}

module _ {S B E : Type 0} where
  pub rooms_more : (rooms more : List (Vec (Pass S B E) Global)) (v : Vec (Pass S B E) Global) (n : ℕ) → AreRooms rooms n → v.items ≡ [] → vec_len v ≡ 0 → n ≤ vec_capacity v → more ≡ rooms ++ v ∷ [] → AreRooms more n
  rooms_more rooms more v n all items len room is i x at = all_pushed rooms v (λ j y. (y.items ≡ []) × (vec_len y ≡ 0) × (n ≤ vec_capacity y)) all (items, len, room) i x (ap (λ l. slice_get l i) (sym is) ∙ at)

  pub no_rooms : (n : ℕ) (rooms : List (Vec (Pass S B E) Global)) → rooms ≡ [] → AreRooms rooms n
  no_rooms n rooms is i x at = absurd (get_none rooms i x is at)

  pub one_fewer : (rooms rest : List (Vec (Pass S B E) Global)) (v : Vec (Pass S B E) Global) (n : ℕ) → rooms ≡ rest ++ v ∷ [] → AreRooms rooms n → AreRooms rest n × (length rooms ≡ length rest + 1)
  one_fewer rooms rest v n last all = (rooms_left rooms rest v n last all, ap length last ∙ length-append rest (v ∷ []))

module _ {S B E : Type 0} (base_of : S → B) where
  new_open : (n k : ℕ) (d : Errand S B E) → d.ring.items ≡ [] → n ≤ vec_capacity d.ring → IsOpen base_of n [] k d
  new_open n k d none room = record {
    ring = record { long = ap length none; held = λ i m p at pat. absurd (get_none [] i m refl at) };
    fresh = λ i p at. absurd (get_none d.ring.items i p none at);
    space = room;
  }

  pub open_more : (n : ℕ) (ds more : List (Errand S B E)) (d : Errand S B E) (rooms rest : List (Vec (Pass S B E) Global)) → rooms ≡ rest ++ d.ring ∷ [] → AreRooms rooms n → AreOpen base_of n [] ds → more ≡ ds ++ d ∷ [] → AreOpen base_of n [] more
  open_more n ds more d rooms rest last all opened is k x at =
      let r = room_last rooms rest d.ring n last all in
      all_pushed ds d (λ i y. IsOpen base_of n [] i y) opened (new_open n (length ds) d r.0 r.2) k x (ap (λ l. slice_get l k) (sym is) ∙ at)
