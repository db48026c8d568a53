-- What the leaders of a spelled volume cost is what its cells do.
use Rattle.std.specs.Prelude.{Bool, true, false, cond, is_some, sum_by, Option, None, Some, option_map}
use Rattle.std.specs.List.{range_with_len}
use Rattle.std.specs.FinMap as map
use Rattle.std.proofs.Common.{◌≡◌, ℕ, zero, suc, ◌<◌, ◌≤◌, ◌+◌, List, ◌∷◌, refl, sym, ◌∙◌, ap, subst, arith}
use Rattle.std.proofs.lemmas.List.Sums.{sum_by-cons}
use Rattle.alp_base.specs.declared.ids.FileId.{FileId}
use Rattle.alp_base.specs.declared.key.Key.{Key}
use Rattle.alp_base.specs.declared.key.Key.TheVariants.{Leader, PageOf, OwnerOf}
use Rattle.alp_base.specs.KeyLaws.{keys_total, exact_keys}
use Rattle.alp_fields.specs.Forms.{whole}
use Rattle.alp_base.specs.declared.cell.Cell.{Cell}
use Rattle.alp_base.specs.declared.cell.Cell.TheVariants as cell
use Rattle.alp_files.specs.Cells.{Cells, same_file}
use Rattle.alp_files.specs.Edits.{Drop, edit_map, is_in_file}
use Rattle.alp_files.specs.Files.{cost, charge_of}
use Rattle.alp_files.proofs.ChargeLemmas.{AreKinds, cost_in, charge-drop}
use Rattle.alp_files.proofs.SumLemmas.{sum_of-nothing}
use Rattle.alp_files.proofs.HistoryLemmas.{get-edit_map}
use Rattle.alp_files.proofs.SameLemmas.{same_file-true, same_file-itself}
use Rattle.alp_pages.specs.declared.leader.Leader.{Leader as LeaderRecord}
use Rattle.alp_pages.specs.Leader.{leader_page}
use Rattle.alp_pages.specs.declared.entry.Entry.{Entry}
use Rattle.alp_pages.specs.Naming.{number_or_0}
use Rattle.alp_pages.specs.Nodes.{LeaderOf}
use Rattle.alp_pages.specs.Pages.{Pages, entry_in}
use Rattle.alp_pages.specs.Volume.{Volume, Spells, entry_for, props_cell}
use Rattle.alp_pages.specs.Damage.{entry_there, leader_at, cost_of, charge_in}
use Rattle.alp_pages.proofs.FetchLaws.{there_is}

module _ (home : ℕ) (at : Pages) (v : Volume) (m : Cells) (s : Spells home at v (map.get m)) (name : List ℕ) where
  abbrev entry_cost : ℕ → ℕ
  entry_cost a = cost_of name (leader_at at (entry_there (entry_in at a)))

  -- the entry of a slot is that of its file
  pub entry_of_slot : (a : ℕ) → a < 4096 → entry_there (entry_in at a) ≡ option_map (entry_for v) (v.slots.at a)
  entry_of_slot a low = ap entry_there (s.directory a low)

  cost_read : (o : Option LeaderRecord) → cost_in name (option_map props_cell o) ≡ cost_of name o
  cost_read None = refl
  cost_read (Some l) = refl

  -- a file's leader costs what its entry does
  slot_costs : (a : ℕ) (f : FileId) → a < 4096 → v.slots.at a ≡ Some f → cost_in name (map.get m (Leader f)) ≡ entry_cost a
  slot_costs a f low h =
      let slot : v.slots.of f ≡ Some a = s.shape.slots.back a f h in
      let p = there_is (v.places.of (LeaderOf f)) (s.shape.leaders f ∙ sym (s.shape.files f) ∙ ap is_some slot) in
      let place : number_or_0 (v.places.of (LeaderOf f)) ≡ p.0 = ap number_or_0 p.1 in
      ap (cost_in name) (s.leaders f p.0 p.1) ∙ cost_read (whole leader_page (at p.0))
      ∙ ap (λ (q : ℕ). cost_of name (whole leader_page (at q))) (sym place)
      ∙ sym (ap (λ (o : Option Entry). cost_of name (leader_at at o)) (entry_of_slot a low ∙ ap (option_map (entry_for v)) h))

  -- the files of earlier slots are gone, the others as they were
  record From (a : ℕ) (w : Cells) : Type 0 where
    pub kinds : AreKinds (map.get w)
    pub left : (f : FileId) (c : Cell) → map.get w (Leader f) ≡ Some c → (t : ℕ) × (v.slots.of f ≡ Some t) × (a ≤ t)
    pub kept : (f : FileId) (t : ℕ) → v.slots.of f ≡ Some t → a ≤ t → map.get w (Leader f) ≡ map.get m (Leader f)

  light : (w : Cells) → From 4096 w → (k : Key) (c : Cell) → map.get w k ≡ Some c → cost name c ≡ 0
  light w from (Leader f) c h = let t = from.left f c h in (let most = s.shape.slots.most f t.0 t.1 in absurd (omega (arith, t.2, most)))
  light w from (PageOf f n) (cell.Leader p) h = absurd (from.kinds (PageOf f n) (cell.Leader p) h)
  light w from (PageOf f n) (cell.Page bytes) h = refl
  light w from (PageOf f n) (cell.Owner o) h = refl
  light w from (OwnerOf o) (cell.Leader p) h = absurd (from.kinds (OwnerOf o) (cell.Leader p) h)
  light w from (OwnerOf o) (cell.Page bytes) h = refl
  light w from (OwnerOf o) (cell.Owner r) h = refl

  past_empty : (a : ℕ) (w : Cells) → v.slots.at a ≡ None → From a w → From (a + 1) w
  past_empty a w none from = record {
    kinds = from.kinds;
    left = λ f c h. (let t = from.left f c h in (t.0, t.1, other f t.0 t.1 t.2));
    kept = λ f t h low. from.kept f t h (omega arith);
  }
    where
      other : (f : FileId) (t : ℕ) → v.slots.of f ≡ Some t → a ≤ t → a + 1 ≤ t
      other f t h low =
          let ne : t ≡ a → ⊥ = λ e. (let one : v.slots.at t ≡ Some f = s.shape.slots.there f t h in let two : v.slots.at t ≡ v.slots.at a = ap v.slots.at e in cc) in
          omega (arith, low, ne)

  kept_cell : (t : Bool) (o : Option Cell) (c : Cell) → cond t None o ≡ Some c → (t ≡ false) × (o ≡ Some c)
  kept_cell true o c h = cc
  kept_cell false o c h = (refl, h)

  past_file : (a : ℕ) (f : FileId) (w : Cells) → v.slots.at a ≡ Some f → From a w → From (a + 1) (edit_map (Drop f) w)
  past_file a f w here from = record {
    kinds = λ k c h. from.kinds k c (kept_cell (is_in_file f k) (map.get w k) c (sym (get-edit_map (Drop f) w k) ∙ h)).1;
    left = λ g c h. (
        let stays = kept_cell (same_file f g) (map.get w (Leader g)) c (sym (get-edit_map (Drop f) w (Leader g)) ∙ h) in
        let t = from.left g c stays.1 in
        (t.0, t.1, other g t.0 t.1 t.2 stays.0)
        );
    kept = λ g t h low. get-edit_map (Drop f) w (Leader g) ∙ as_it_was g t h low (same_file f g) refl ∙ from.kept g t h (omega arith);
  }
    where
      other : (g : FileId) (t : ℕ) → v.slots.of g ≡ Some t → a ≤ t → same_file f g ≡ false → a + 1 ≤ t
      other g t h low apart =
          let ne : t ≡ a → ⊥ = λ e. (
          let one : v.slots.at t ≡ Some g = s.shape.slots.there g t h in
          let two : v.slots.at t ≡ v.slots.at a = ap v.slots.at e in
          let file : f ≡ g = cc in
          let yes : same_file f g ≡ true = ap (λ (x : FileId). same_file x g) file ∙ same_file-itself g in
          cc
          ) in
          omega (arith, low, ne)

      as_it_was : (g : FileId) (t : ℕ) → v.slots.of g ≡ Some t → a + 1 ≤ t → (x : Bool) → same_file f g ≡ x → cond x None (map.get w (Leader g)) ≡ map.get w (Leader g)
      as_it_was g t h low false e = refl
      as_it_was g t h low true e =
          let file : f ≡ g = same_file-true f g e in
          let slot : v.slots.of g ≡ Some a = ap v.slots.of (sym file) ∙ s.shape.slots.back a f here in
          let same : t ≡ a = cc in
          absurd (omega (arith, same, low))

  charge_from : (n a : ℕ) (w : Cells) → From a w → a + n ≡ 4096 → charge_of w name ≡ sum_by entry_cost (range_with_len a n)
  charge_from zero a w from end =
      let last : a ≡ 4096 = omega arith in
      sum_of-nothing keys_total exact_keys (λ e. cost name e.1) w (light w (subst (λ (x : ℕ). From x w) last from))
  charge_from (suc n) a w from end = go (v.slots.at a) refl (charge_from n (a + 1))
    where
      low : a < 4096
      low = omega arith

      go : (o : Option FileId) → v.slots.at a ≡ o → ((x : Cells) → From (a + 1) x → a + 1 + n ≡ 4096 → charge_of x name ≡ sum_by entry_cost (range_with_len (a + 1) n)) → charge_of w name ≡ sum_by entry_cost (a ∷ range_with_len (a + 1) n)
      go None e later =
          let free : entry_cost a ≡ 0 = ap (λ (o : Option Entry). cost_of name (leader_at at o)) (entry_of_slot a low ∙ ap (option_map (entry_for v)) e) in
          omega (arith, free, later w (past_empty a w e from) (omega arith), sum_by-cons entry_cost a (range_with_len (a + 1) n))
      go (Some f) e later =
          let own : cost_in name (map.get w (Leader f)) ≡ entry_cost a = ap (cost_in name) (from.kept f a (s.shape.slots.back a f e) (omega arith)) ∙ slot_costs a f low e in
          omega (arith, own, charge-drop w from.kinds f name, later (edit_map (Drop f) w) (past_file a f w e from) (omega arith), sum_by-cons entry_cost a (range_with_len (a + 1) n))

  -- the charge of the cells is what the leaders cost that the directory names
  pub charge_spelled : AreKinds (map.get m) → charge_of m name ≡ charge_in at name
  unfolding charge_in
  charge_spelled kinds = charge_from 4096 0 m (record {
    kinds = kinds;
    left = λ f c h. (let t = there_is (v.slots.of f) (s.shape.files f ∙ ap is_some h) in (t.0, t.1, omega arith));
    kept = λ f t h low. refl;
  }) (omega arith)
