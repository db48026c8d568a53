-- one pass more for each errand, from the last to the first
use Rattle.std.proofs.Common.{◌≡◌, ◌≢◌, ◌⊎◌, ℕ, zero, suc, ◌+◌, ◌-◌, ◌<◌, ◌≤◌, List, [], ◌∷◌, ◌++◌, length, set, Some, length-append, refl, sym, ap, ◌∙◌, subst, inl, inr, arith}
use Rattle.std.proofs.lemmas.List.{get_or-set_same, get_or-set_other}
use Rattle.std.specs.Prelude.{slice_get, slice_index_or, Vec}
use Rattle.std.specs.Vec.{vec_len, vec_capacity}
use Rattle.std.specs.Global.{Global}
use Rattle.alp_monitor.specs.History.{entries_in, turns_of}
use Rattle.alp_monitor.specs.Passes.{turns, front, first_base, pass_count, AreFresh, IsHeld}
use Rattle.alp_monitor.specs.declared.monitor.Monitor.{Monitor}
use Rattle.alp_monitor.specs.declared.monitor.Pass.{Pass}
use Rattle.alp_storm.specs.declared.errand.Errand.{Errand}
use Rattle.alp_storm.specs.Rings.{IsRing}
use Rattle.alp_storm.specs.Storms.{AreRings, IsOpen, AreOpen, HaveSpace, Spreads, HaveTasks, IsClosed, AreClosed, Opened, AreAsBefore}
use Rattle.alp_storm.proofs.Closes.{tasks_through}
use Rattle.alp_storm.proofs.Histories.{turn_at}
use Rattle.alp_storm.proofs.Lists.{all_pushed, get_within, get_at, get_shorter, get_last, get_none, same_some, or_same}
use Rattle.alp_storm.proofs.RingLemmas.{eq_or}

module _ {S B E : Type 0} where
  -- the errand k has one pass more, this one
  abbrev pub Gets : Errand S B E → Errand S B E → Pass S B E → Type 0
  Gets before now p = (now.ring.items ≡ before.ring.items ++ p ∷ []) × (now.task ≡ before.task) × (vec_capacity now.ring ≡ vec_capacity before.ring)

  pub gets_more : (before now : List (Errand S B E)) (room : List (Pass S B E)) (n left : ℕ) (j : Errand S B E) → left < length now → ((d : Errand S B E) (p : Pass S B E) → Gets (slice_index_or before left d) j (slice_index_or room left p))
      → ((k : ℕ) (d : Errand S B E) (p : Pass S B E) → left + 1 ≤ k → k < n → Gets (slice_index_or before k d) (slice_index_or now k d) (slice_index_or room k p))
      → (k : ℕ) (d : Errand S B E) (p : Pass S B E) → left ≤ k → k < n → Gets (slice_index_or before k d) (slice_index_or (set now left j) k d) (slice_index_or room k p)
  gets_more before now room n left j low one all k d p at within = go (eq_or k left)
    where
      go : (k ≡ left) ⊎ (k ≢ left) → Gets (slice_index_or before k d) (slice_index_or (set now left j) k d) (slice_index_or room k p)
      go (inl is) = subst (λ i. Gets (slice_index_or before i d) (slice_index_or (set now left j) i d) (slice_index_or room i p)) (sym is) (subst (λ x. Gets (slice_index_or before left d) x (slice_index_or room left p)) (sym (get_or-set_same now left j d low)) (one d p))
      go (inr ne) = subst (λ x. Gets (slice_index_or before k d) x (slice_index_or room k p)) (sym (get_or-set_other now left k j d ne)) (all k d p (omega (arith, at, ne)) within)

  pub tasks_spread : (before now : List (Errand S B E)) (room : List (Pass S B E)) → Spreads before now room → length room ≡ length before → HaveTasks before now
  tasks_spread before now room gets full k d e at eat =
      let low = get_within before k d at in
      let p = get_at room k (omega (arith, low, full)) in
      let g = gets k d p.0 low in
      ap (λ (x : Errand S B E). x.task) (sym (or_same now k e d eat)) ∙ (g.1 ∙ ap (λ (x : Errand S B E). x.task) (or_same before k d d at))

-- monitors that stand open, one more at a time
module _ {S B E : Type 0} (base_of : S → B) where
  pub space_of : (n : ℕ) (ns : List (Monitor S B E)) (ds : List (Errand S B E)) → AreOpen base_of n ns ds → length ns < n → HaveSpace ds
  space_of n ns ds all low k d within =
      let x = get_at ds k within in
      let o = all k x.0 x.1 in
      let l : vec_len x.0.ring ≡ length x.0.ring.items = x.0.ring.ok.0 in
      let long = o.ring.long in
      let space = o.space in
      subst (λ (y : Errand S B E). vec_len y.ring < vec_capacity y.ring) (sym (or_same ds k x.0 d x.1)) (omega (arith, l, long, space, low))

  pub opened_more : (n : ℕ) (ns ms : List (Monitor S B E)) (m : Monitor S B E) (ds now : List (Errand S B E)) (room : List (Pass S B E)) → ms ≡ ns ++ m ∷ [] → AreOpen base_of n ns ds → Spreads ds now room → AreFresh base_of m room → length now ≡ length ds → length room ≡ length ds → AreOpen base_of n ms now
  opened_more n ns ms m ds now room last all gets fresh same full k d e =
      let low : k < length ds = (let w = get_within now k d e in omega (arith, w, same)) in
      let b = get_at ds k low in
      let p = get_at room k (omega (arith, low, full)) in
      let was = all k b.0 b.1 in
      let f = fresh k p.0 p.1 in
      let is : slice_index_or now k b.0 ≡ d = or_same now k d b.0 e in
      let bs : slice_index_or ds k b.0 ≡ b.0 = or_same ds k b.0 b.0 b.1 in
      let ps : slice_index_or room k p.0 ≡ p.0 = or_same room k p.0 p.0 p.1 in
      let g : Gets b.0 d p.0 = subst (λ (x : Errand S B E). Gets x d p.0) bs (subst (λ (x : Errand S B E). Gets (slice_index_or ds k b.0) x p.0) is (subst (λ (x : Pass S B E). Gets (slice_index_or ds k b.0) (slice_index_or now k b.0) x) ps (gets k b.0 p.0 low))) in
      let long : length b.0.ring.items ≡ length ns = was.ring.long in
      let held : IsHeld base_of m k p.0 = record { ready = record { own = f.own; outside = f.outside; number_is = f.number }; base = f.base } in
      record {
        ring = record {
          long = ap length g.0 ∙ (length-append b.0.ring.items (p.0 ∷ []) ∙ (ap (λ x. x + 1) long ∙ sym (ap length last ∙ length-append ns (m ∷ []))));
          held = λ i x q at qat. all_pushed b.0.ring.items p.0 (λ j y. (z : Monitor S B E) → slice_get ms j ≡ Some z → IsHeld base_of z k y)
              (λ j y yat z zat. was.ring.held j z y (get_shorter ns (m ∷ []) j z (let w = get_within b.0.ring.items j y yat in omega (arith, w, long)) (ap (λ l. slice_get l j) (sym last) ∙ zat)) yat)
              (λ z zat. subst (λ y. IsHeld base_of y k p.0) (same_some m z (sym (ap (λ l. slice_get l (length b.0.ring.items)) last ∙ get_last ns m (length b.0.ring.items) long) ∙ zat)) held)
              i q (ap (λ l. slice_get l i) (sym g.0) ∙ qat) x at;
        };
        fresh = λ i q qat. all_pushed b.0.ring.items p.0 (λ j y. (turns y ≡ []) × (front y ≡ [])) (λ j y yat. was.fresh j y yat) (f.turns, f.front) i q (ap (λ l. slice_get l i) (sym g.0) ∙ qat);
        space = let r = was.space in let c = g.2 in omega (arith, r, c);
      }

  pub rings_of_open : (n : ℕ) (ms : List (Monitor S B E)) (ds : List (Errand S B E)) → AreOpen base_of n ms ds → AreRings base_of ms ds
  rings_of_open n ms ds all k d e = (all k d e).ring

module _ {S B E : Type 0} (base_of : S → B) (entries_of : S → List E) where
  -- a monitor that was closed before its first turn gives a state without entries
  pub none_made : (n i : ℕ) (ms : List (Monitor S B E)) (m : Monitor S B E) (ds : List (Errand S B E)) (y : S) → AreOpen base_of n ms ds → slice_get ms i ≡ Some m → IsClosed base_of entries_of m i ds y → entries_of y ≡ []
  none_made n i ms m ds y all at c = go c.history c.told_is c.makers c.turns_are
    where
      go : (h : List (ℕ × E)) → entries_in h ≡ entries_of y → ((j : ℕ) (x : ℕ × E) → slice_get h j ≡ Some x → x.0 < length ds)
          → ((k : ℕ) (d : Errand S B E) (p : Pass S B E) → slice_get ds k ≡ Some d → slice_get d.ring.items i ≡ Some p → turns_of k h ≡ turns p) → entries_of y ≡ []
      go [] told makers turned = sym told
      go (x ∷ xs) told makers turned =
          let d = get_at ds x.0 (makers 0 x refl) in
          let o = all x.0 d.0 d.1 in
          let l = o.ring.long in
          let p = get_at d.0.ring.items i (let w = get_within ms i m at in omega (arith, w, l)) in
          let t = turn_at (x ∷ xs) 0 x refl in
          absurd (get_none (turns p.0) t.0 (0, x.1) (o.fresh i p.0 p.1).0 (ap (λ q. slice_get q t.0) (sym (turned x.0 d.0 p.0 d.1 p.1)) ∙ t.1))

  pub one_more : (n : ℕ) (ys zs : List S) (ns ms : List (Monitor S B E)) (rooms rooms' : List (Vec (Pass S B E) Global)) (before ds now : List (Errand S B E)) (y : S) (m : Monitor S B E) (room : List (Pass S B E)) (v : Vec (Pass S B E) Global) → Opened base_of entries_of n ys ns rooms before ds → length ds ≡ length before → zs ≡ ys ++ y ∷ [] → ms ≡ ns ++ m ∷ [] → rooms' ≡ rooms ++ v ∷ []
      → Spreads ds now room → AreFresh base_of m room → length now ≡ length ds → length room ≡ length ds → pass_count m ≡ length ds → (v.items ≡ []) × (vec_len v ≡ 0) × (length ds ≤ vec_capacity v) → first_base base_of m ≡ base_of y → Opened base_of entries_of n zs ms rooms' before now
  one_more n ys zs ns ms rooms rooms' before ds now y m room v o all_there zis mis ris gets fresh same full count empty base = record {
    open_are = opened_more base_of n ns ms m ds now room mis o.open_are gets fresh same full;
    counts = λ i x e. all_pushed ns m (λ j z. pass_count z ≡ length now) (λ j z at. o.counts j z at ∙ sym same) (count ∙ sym same) i x (ap (λ l. slice_get l i) (sym mis) ∙ e);
    rooms_are = λ i x e. all_pushed rooms v (λ j z. (z.items ≡ []) × (vec_len z ≡ 0) × (length now ≤ vec_capacity z)) (λ j z at. subst (λ t. (z.items ≡ []) × (vec_len z ≡ 0) × (t ≤ vec_capacity z)) (sym same) (o.rooms_are j z at)) (subst (λ t. (v.items ≡ []) × (vec_len v ≡ 0) × (t ≤ vec_capacity v)) (sym same) empty) i x (ap (λ l. slice_get l i) (sym ris) ∙ e);
    monitors_long = let l = o.monitors_long in omega (arith, ap length mis, ap length zis, length-append ns (m ∷ []), length-append ys (y ∷ []), l);
    rooms_long = let l = o.rooms_long in omega (arith, ap length ris, ap length zis, length-append rooms (v ∷ []), length-append ys (y ∷ []), l);
    of = λ i x z e zat. all_pushed ns m (λ j q. (w : S) → slice_get zs j ≡ Some w → first_base base_of q ≡ base_of w)
        (λ j q at w wat. o.of j q w at (get_shorter ys (y ∷ []) j w (let s = get_within ns j q at in let l = o.monitors_long in omega (arith, s, l)) (ap (λ l. slice_get l j) (sym zis) ∙ wat)))
        (λ w wat. base ∙ ap base_of (same_some y w (sym (ap (λ l. slice_get l (length ns)) zis ∙ get_last ys y (length ns) o.monitors_long) ∙ wat)))
        i x (ap (λ l. slice_get l i) (sym mis) ∙ e) z zat;
    tasks = tasks_through before ds now all_there o.tasks (tasks_spread ds now room gets full);
  }

  -- where the last of the monitors was refused, the states come back as they were
  pub as_before : (n : ℕ) (ys zs ws vs : List S) (y : S) (ms : List (Monitor S B E)) (rooms : List (Vec (Pass S B E) Global)) (before ds : List (Errand S B E)) → Opened base_of entries_of n ys ms rooms before ds → AreClosed base_of entries_of ms ds vs → length vs ≡ length ms → zs ≡ ys ++ y ∷ [] → ws ≡ vs ++ y ∷ [] → entries_of y ≡ [] → AreAsBefore base_of entries_of zs ws
  as_before n ys zs ws vs y ms rooms before ds o closed same zis wis none i a b at bat =
      all_pushed vs y (λ j x. (w : S) → slice_get zs j ≡ Some w → (base_of x ≡ base_of w) × (entries_of x ≡ []))
      (λ j x xat w wat.
      let low = get_within vs j x xat in
      let m = get_at ms j (omega (arith, low, same)) in
      let c = closed j m.0 x m.1 xat in
      let l = o.monitors_long in
      let wis' : slice_get ys j ≡ Some w = get_shorter ys (y ∷ []) j w (omega (arith, low, same, l)) (ap (λ l. slice_get l j) (sym zis) ∙ wat) in
      (c.base_is ∙ o.of j m.0 w m.1 wis', none_made n j ms m.0 ds x o.open_are m.1 c))
      (λ w wat. let l = o.monitors_long in let is = same_some y w (sym (ap (λ l. slice_get l (length vs)) zis ∙ get_last ys y (length vs) (same ∙ l)) ∙ wat) in (ap base_of is, none))
      i b (ap (λ l. slice_get l i) (sym wis) ∙ bat) a at

  pub still_before : (ys zs ws vs : List S) (y : S) → AreAsBefore base_of entries_of ys vs → length vs ≡ length ys → zs ≡ ys ++ y ∷ [] → ws ≡ vs ++ y ∷ [] → entries_of y ≡ [] → AreAsBefore base_of entries_of zs ws
  still_before ys zs ws vs y old same zis wis none i a b at bat =
      all_pushed vs y (λ j x. (w : S) → slice_get zs j ≡ Some w → (base_of x ≡ base_of w) × (entries_of x ≡ []))
      (λ j x xat w wat. old j w x (get_shorter ys (y ∷ []) j w (let low = get_within vs j x xat in omega (arith, low, same)) (ap (λ l. slice_get l j) (sym zis) ∙ wat)) xat)
      (λ w wat. let is = same_some y w (sym (ap (λ l. slice_get l (length vs)) zis ∙ get_last ys y (length vs) same) ∙ wat) in (ap base_of is, none))
      i b (ap (λ l. slice_get l i) (sym wis) ∙ bat) a at
