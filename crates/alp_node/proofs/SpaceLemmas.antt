-- where one part is committed the others keep their counts, but for the blocks that it opens, and there is room for all
use Rattle.std.specs.Prelude.{cond, Bool, true, false, Option, None, Some, is_some}
use Rattle.std.specs.Option.{option_map}
use Rattle.std.specs.FinMap as map
use Rattle.std.specs.Cmp.{eq_by_cmp_equiv}
use Rattle.std.proofs.Common.{◌≡◌, ◌-◌, List, refl, sym, ◌∙◌, ap, subst, arith}
use Rattle.alp_base.specs.Orders.{transactions_total}
use Rattle.alp_base.specs.declared.faults.Sizes.{Sizes}
use Rattle.alp_base.specs.declared.ids.TransId.{TransId}
use Rattle.alp_base.specs.declared.key.Key.{Key}
use Rattle.alp_base.specs.declared.key.Resource.{Resource}
use Rattle.alp_files.specs.Apart.{OpensRead}
use Rattle.alp_files.specs.declared.call.Call.{Call}
use Rattle.alp_files.specs.Changes.{edits_of}
use Rattle.alp_files.specs.Cells.{Cells}
use Rattle.alp_files.specs.Edits.{Edit, edits_map}
use Rattle.alp_files.specs.Holdings.{IsIntended}
use Rattle.alp_files.specs.Locks.{Reads, Writes, needs_of}
use Rattle.alp_files.specs.Needs.{Intents, intents_of}
use Rattle.alp_files.specs.Sound.{AreSound}
use Rattle.alp_locks.specs.Tables.{Holders}
use Rattle.alp_trans.specs.Counting.{AreCountsOf}
use Rattle.alp_trans.specs.Parts.{change_of}
use Rattle.alp_trans.specs.declared.part.Part.{Part}
use Rattle.alp_vault.specs.Contents.{Contents}
use Rattle.alp_vault.specs.Volumes.{IsVolumeOf}
use Rattle.alp_calls.proofs.CountLaws.{used_after, files_after, owners_after}
use Rattle.alp_calls.proofs.PartLaws.{part_fits, same_change}
use Rattle.alp_journal.specs.Ids.{same_trans}
use Rattle.alp_journal.specs.Holder.{Life}
use Rattle.alp_journal.specs.Account.{Account}
use Rattle.alp_node.specs.Eases.{new_blocks, shared_in, eased_live, eased}
use Rattle.alp_node.specs.Rooms.{IsWithin}
use Rattle.alp_turns.proofs.StandLemmas.{needs_stand}
use Rattle.alp_node.specs.ServerState.{IsAs, IsAlike, IsCaller, IsLife, PutNoneBeyond}
use Rattle.alp_node.specs.Totals.{LiveMap, totals_of, HaveRoom}
use Rattle.alp_node.specs.declared.lives.Live.{Live}
use Rattle.alp_node.specs.declared.server_state.ServerState.{ServerState}
use Rattle.alp_node.proofs.ApartLemmas.{writes_apart}
use Rattle.alp_node.proofs.EaseLaw.{eased_counts}
use Rattle.alp_node.proofs.EasedKeys.{eased_at}
use Rattle.alp_node.proofs.MapLemmas.{tied_same}
use Rattle.alp_node.proofs.TotalLemmas.{among, gone_totals}

intended_of : (cells : Cells) (locks : Holders) (rs : List Resource) (u : TransId) (o : Option Live) (x : Option Life) (m : Life) → x ≡ Some m → IsAlike cells locks rs u o x → IsIntended m.held
intended_of cells locks rs u None None m is h = let wrong : None ≡ Some m = is in cc
intended_of cells locks rs u (Some l) (Some life) m is h = subst (λ (y : Life). IsIntended y.held) (same_life life m is) h.intended
  where
    same_life : (a b : Life) → Some a ≡ Some b → a ≡ b
    same_life a b e = cc
intended_of cells locks rs u None (Some life) m is h = absurd h
intended_of cells locks rs u (Some l) None m is h = absurd h

module _ {V : Type 0} (a : Account) (held : Contents) (k : ServerState V) (h : IsAs a held k) (t : TransId) (l : Live) (there : map.get k.lives t ≡ Some l) (life : Life) (live : a.holder.lives t ≡ Some life) (mine : IsLife a.holder.cells k.locks.held (a.locked t) t l life) where
  abbrev cells_then : Cells
  cells_then = edits_map life.edits a.holder.cells

  abbrev pub blocks_then : List Key
  blocks_then = new_blocks a.holder.cells (intents_of life.edits).puts

  -- what the others may write is apart from what this one may
  away_others : (u : TransId) (m : Life) → same_trans u t ≡ false → a.holder.lives u ≡ Some m → (q : Key) → Writes m.held q → Writes life.held q → ⊥
  away_others u m away is =
      writes_apart m.held life.held (h.quiet.settled.stands.agree u t m life is live away) (intended_of a.holder.cells k.locks.held (a.locked u) u (map.get k.lives u) (a.holder.lives u) m is (h.lives u)) mine.intended

  others_life : (u : TransId) (x : Live) (y : Life) (o : Option Live) (z : Option Life) → o ≡ Some x → z ≡ Some y → IsAlike a.holder.cells k.locks.held (a.locked u) u o z → IsLife a.holder.cells k.locks.held (a.locked u) u x y
  others_life u x y None z o_is z_is alike = let wrong : None ≡ Some x = o_is in cc
  others_life u x y (Some o) None o_is z_is alike = absurd alike
  others_life u x y (Some o) (Some z) o_is z_is alike = subst (λ (v : Live). IsLife a.holder.cells k.locks.held (a.locked u) u v y) (same_kept o x o_is) (subst (IsLife a.holder.cells k.locks.held (a.locked u) u o) (same_life z y z_is) alike)
    where
      same_kept : (b c : Live) → Some b ≡ Some c → b ≡ c
      same_kept b c e = cc

      same_life : (b c : Life) → Some b ≡ Some c → b ≡ c
      same_life b c e = cc

  -- what another part comes to: it puts no file beyond the count, and needs no place for the blocks that this one opened
  abbrev pub StandsBeside : TransId → Part → List Edit → Type 0
  StandsBeside u p es =
      PutNoneBeyond a.holder.server a.ids.epoch k.given es
      × AreCountsOf cells_then es (record (p.counts) { places = p.counts.places - shared_in p.intents.puts blocks_then })
      × (is_some (map.get k.lives u) ≡ true)

  pub stands_beside : (u : TransId) (x : Live) (y : Life) → map.get k.lives u ≡ Some x → a.holder.lives u ≡ Some y → same_trans u t ≡ false → StandsBeside u x.part y.edits
  stands_beside u x y there_u live_u away =
      let other : IsLife a.holder.cells k.locks.held (a.locked u) u x y = others_life u x y (map.get k.lives u) (a.holder.lives u) there_u live_u (h.lives u) in (
        h.unborn u y live_u,
        subst (λ (i : Intents). AreCountsOf cells_then y.edits (record (x.part.counts) { places = x.part.counts.places - shared_in i.puts blocks_then })) (sym other.intents)
            (eased_counts a.holder.cells y.edits life.edits (Writes y.held) (Writes life.held) (away_others u y away live_u) other.within mine.within x.part.counts other.counts),
        ap is_some there_u,
      )

  -- what it needs stands
  pub needs_beside : (u : TransId) (y : Life) (c : Call) → a.holder.lives u ≡ Some y → y.vote ≡ None → same_trans u t ≡ false → needs_of (map.get (edits_map y.edits cells_then)) y.own c ≡ needs_of (map.get (edits_map y.edits a.holder.cells)) y.own c
  needs_beside u y c live_u unvoted away =
      needs_stand a.holder.cells life.held life.edits y c (h.quiet.settled.stands.agree t u life y live live_u (turned u t away))
      mine.intended (intended_of a.holder.cells k.locks.held (a.locked u) u (map.get k.lives u) (a.holder.lives u) y live_u (h.lives u)) mine.within (opens_of (map.get k.lives u) (a.holder.lives u) live_u (h.lives u))
    where
      turned : (b c : TransId) → same_trans b c ≡ false → same_trans c b ≡ false
      turned b c e = sym (tied_same c b) ∙ (eq_by_cmp_equiv transactions_total).symm c b ∙ tied_same b c ∙ e

      opens_of : (o : Option Live) (z : Option Life) → z ≡ Some y → IsAlike a.holder.cells k.locks.held (a.locked u) u o z → OpensRead (Reads y.held) y.own.opens
      opens_of None None is alike = let wrong : None ≡ Some y = is in cc
      opens_of (Some x) None is alike = absurd alike
      opens_of None (Some z) is alike = absurd alike
      opens_of (Some x) (Some z) is alike =
          subst (λ (v : Life). OpensRead (Reads v.held) v.own.opens) (same_life z y is) (IsLife.calls alike (ap (λ (v : Life). v.vote) (same_life z y is) ∙ unvoted)).opens
        where
          same_life : (b c : Life) → Some b ≡ Some c → b ≡ c
          same_life b c e = cc

  -- there is room for the others beside the cells then
  pub room_beside : HaveRoom k.sizes cells_then (totals_of (map.remove k.lives t))
  room_beside = subst (HaveRoom k.sizes cells_then) (sym (gone_totals k.lives t l there)) (record {
    places = omega (arith, h.room.places, used_after a.holder.cells life.edits, mine.counts.places, among (λ (x : Live). x.part.counts.places) k.lives t l there);
    files = omega (arith, h.room.files, files_after a.holder.cells life.edits, mine.counts.files, among (λ (x : Live). x.part.counts.files) k.lives t l there);
    owners = omega (arith, h.room.owners, owners_after a.holder.cells life.edits, mine.counts.owners, among (λ (x : Live). x.part.counts.owners) k.lives t l there);
  })

  -- a part that is eased is kept as the journal tells it
  pub eased_alike : (locks : Holders) (rs : List Resource) (u : TransId) (lives : LiveMap) (o : Option Live) (z : Option Life) → map.get lives u ≡ o
      → ((x : Live) (y : Life) → o ≡ Some x → z ≡ Some y → StandsBeside u x.part y.edits) → IsAlike a.holder.cells locks rs u o z
      → IsAlike cells_then locks rs u (map.get (eased blocks_then lives (map.keys k.lives)) u) z
  eased_alike locks rs u lives o z at beside alike = subst (λ (x : Option Live). IsAlike cells_then locks rs u x z) (sym (eased_at blocks_then k.lives lives u o at)) (go o z beside alike)
    where
      go : (o : Option Live) (z : Option Life) → ((x : Live) (y : Life) → o ≡ Some x → z ≡ Some y → StandsBeside u x.part y.edits) → IsAlike a.holder.cells locks rs u o z
          → IsAlike cells_then locks rs u (cond {A = Option Live} (is_some (map.get k.lives u)) (option_map (eased_live blocks_then) o) o) z
      go None None beside alike = either (is_some (map.get k.lives u))
        where
          either : (b : Bool) → IsAlike cells_then locks rs u (cond {A = Option Live} b None None) None
          either true = alike
          either false = alike
      go (Some x) (Some y) beside alike =
          let b : StandsBeside u x.part y.edits = beside x y refl refl in
          subst (λ (c : Bool). IsAlike cells_then locks rs u (cond {A = Option Live} c (Some (eased_live blocks_then x)) (Some x)) (Some y)) (sym b.2) (record {
            client = IsLife.client alike;
            join = IsLife.join alike;
            intents = IsLife.intents alike;
            held = IsLife.held alike;
            calls = λ unvoted. (let c : IsCaller x y = IsLife.calls alike unvoted in record { who = c.who; own = c.own; opens = c.opens });
            counts = b.1;
            within = IsLife.within alike;
            intended = IsLife.intended alike;
            sized = IsLife.sized alike;
            count = IsLife.count alike;
            known = IsLife.known alike;
          })
      go None (Some y) beside alike = absurd alike
      go (Some x) None beside alike = absurd alike

  -- and the vault has room for the commit
  pub commit_fits : (s : Sizes) → k.is_down ≡ false → k.sizes ≡ s → IsWithin k.sizes l → IsVolumeOf s held.cells → AreSound (edits_map (edits_of (change_of l.part.intents)) held.cells)
      → IsVolumeOf s (edits_map (edits_of (change_of l.part.intents)) held.cells)
  commit_fits s up sized within volume sound =
      let room : HaveRoom s held.cells (totals_of k.lives) = subst (λ (m : Cells). HaveRoom s m (totals_of k.lives)) (sym (h.cells up)) (subst (λ (x : Sizes). HaveRoom x a.holder.cells (totals_of k.lives)) sized h.room) in
      part_fits s held.cells l.part life.edits within.part mine.intents (subst (λ (m : Cells). AreCountsOf m life.edits l.part.counts) (sym (h.cells up)) mine.counts) volume
      (subst AreSound (same_change held.cells l.part life.edits mine.intents) sound)
      (omega (arith, room.places, among (λ (x : Live). x.part.counts.places) k.lives t l there))
      (omega (arith, room.files, among (λ (x : Live). x.part.counts.files) k.lives t l there))
      (omega (arith, room.owners, among (λ (x : Live). x.part.counts.owners) k.lives t l there))
