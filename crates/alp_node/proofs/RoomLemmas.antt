-- a call is refused for the counts just where the journal says so
use Rattle.std.specs.Prelude.{ℕ, None, Some, Bool, true, false, nat_lt}
use Rattle.std.specs.Option.{option_or}
use Rattle.std.specs.FinMap as map
use Rattle.std.proofs.Common.{◌≡◌, ◌+◌, ◌-◌, ◌<◌, ◌≤◌, ◌++◌, refl, sym, ◌∙◌, ap, arith}
use Rattle.std.proofs.lemmas.Bool.{ltb-true, ltb-false}
use Rattle.alp_base.specs.declared.ids.TransId.{TransId}
use Rattle.alp_base.specs.declared.faults.Sizes.{Sizes}
use Rattle.alp_calls.specs.Limits.{refused_for}
use Rattle.alp_calls.specs.declared.limits.Room.{Room}
use Rattle.alp_files.specs.Act.{Answer}
use Rattle.alp_files.specs.Cells.{Cells}
use Rattle.alp_files.specs.Counts.{used_of, file_count_of, owner_count_of}
use Rattle.alp_files.specs.Needs.{is_leader, is_owner}
use Rattle.alp_files.specs.declared.call.Call.{Call}
use Rattle.alp_trans.specs.Counting.{AreCountsOf}
use Rattle.alp_trans.specs.declared.counts.Counts.{Counts}
use Rattle.alp_vault.specs.Contents.{Contents}
use Rattle.alp_vault.specs.declared.limits.TheConstants.{HEAD_PAGES}
use Rattle.alp_journal.specs.Holder.{Life}
use Rattle.alp_files.specs.declared.refusal.Refusal.TheVariants as refusal
use Rattle.alp_files.specs.declared.refusal.What.TheVariants as what
use Rattle.alp_journal.specs.Counts.{log_need}
use Rattle.alp_node.specs.Shapes.{too_locked}
use Rattle.alp_journal.specs.Answers.{if_over, all_live, made_by_all, left_places, locks_then, count_refusal}
use Rattle.alp_journal.specs.Account.{Account, state_of}
use Rattle.alp_calls.specs.Limits.{IsAllowed}
use Rattle.alp_calls.proofs.PartLaws.{allowed}
use Rattle.alp_node.specs.Rooms.{IsRoomOf, counted}
use Rattle.alp_node.specs.ServerState.{IsAs}
use Rattle.alp_node.specs.Totals.{totals_of}
use Rattle.alp_node.specs.declared.lives.Live.{Live}
use Rattle.alp_node.specs.declared.server_state.ServerState.{ServerState}
use Rattle.alp_node.proofs.LiveSums.{all_needs, all_files, all_owners}
use Rattle.alp_node.proofs.TotalLemmas.{AreRoomed, among}

pub not_over : (m n : ℕ) → n ≤ m → nat_lt m n ≡ false
not_over m n le = go (nat_lt m n) refl
  where
    go : (b : Bool) → nat_lt m n ≡ b → b ≡ false
    go false e = refl
    go true e = (let wrong : m < n = ltb-true m n e in absurd (omega (arith, wrong, le)))

-- within the limits no lock is too many
pub none_locked : (area cells locks : ℕ) → locks ≤ 1024 → log_need cells locks ≤ area → too_locked area cells locks ≡ None
none_locked area cells locks few log = λ i. option_or (if_over (not_over 1024 locks few i) (refusal.TooMany what.Locks 1024)) (if_over (not_over area (log_need cells locks) log i) (refusal.LogFull area (log_need cells locks)))

counted_low : (n : ℕ) → n ≤ 4096 → counted n ≡ n
counted_low n low = omega (arith, low)

module _ {V : Type 0} (a : Account) (held : Contents) (k : ServerState V) (h : IsAs a held k) (up : k.is_down ≡ false) (locks : ℕ) (room : Room) (of : IsRoomOf true held.cells k locks room) where
  left_same : room.left ≡ left_places (state_of a)
  left_same =
      of.left refl ∙ (λ i. (sym h.sizes i).home - HEAD_PAGES - used_of (h.cells up i) - (totals_of k.lives).places)
      ∙ ap (λ (n : ℕ). a.sizes.home - HEAD_PAGES - used_of a.holder.cells - n) (sym (all_needs a held k h))

  files_same : room.files ≡ file_count_of a.holder.cells + made_by_all is_leader (state_of a) (all_live (state_of a))
  files_same =
      of.files refl ∙ ap (λ (m : Cells). counted (file_count_of m + (totals_of k.lives).files)) (h.cells up) ∙ counted_low (file_count_of a.holder.cells + (totals_of k.lives).files) h.room.files
      ∙ ap (λ (n : ℕ). file_count_of a.holder.cells + n) (sym (all_files a held k h))

  owners_same : room.owners ≡ owner_count_of a.holder.cells + made_by_all is_owner (state_of a) (all_live (state_of a))
  owners_same =
      of.owners refl ∙ ap (λ (m : Cells). counted (owner_count_of m + (totals_of k.lives).owners)) (h.cells up)
      ∙ counted_low (owner_count_of a.holder.cells + (totals_of k.lives).owners) (omega (arith, h.room.owners)) ∙ ap (λ (n : ℕ). owner_count_of a.holder.cells + n) (sym (all_owners a held k h))

  area_same : room.area ≡ a.sizes.area
  area_same = of.area ∙ ap (λ (s : Sizes). s.area) (sym h.sizes)

  module _ (t : TransId) (life : Life) (c : Call) (x : Answer) (now later : Counts) (before : AreCountsOf a.holder.cells life.edits now) (after : AreCountsOf a.holder.cells (life.edits ++ x.edits) later) where
    pub refusal_same : locks ≡ locks_then (state_of a) t life c → refused_for room now later ≡ count_refusal (state_of a) t life c x
    refusal_same locked = λ i. refused_for
        (record { left = left_same i; files = files_same i; owners = owners_same i; area = area_same i; locks = (of.held ∙ locked) i })
        (record { cells = before.cells i; places = before.places i; files = before.files i; owners = before.owners i })
        (record { cells = after.cells i; places = after.places i; files = after.files i; owners = after.owners i })

  -- where it is not refused there is room for what the part comes to
  pub allowed_room : (t : TransId) (l : Live) (later : Counts) → map.get k.lives t ≡ Some l → refused_for room l.part.counts later ≡ None → AreRoomed k.sizes a.holder.cells (totals_of k.lives) l.part.counts later
  allowed_room t l later there passes =
      let is : IsAllowed room l.part.counts later = allowed room l.part.counts later passes in
      let left : room.left ≡ k.sizes.home - HEAD_PAGES - used_of a.holder.cells - (totals_of k.lives).places = of.left refl ∙ ap (λ (m : Cells). k.sizes.home - HEAD_PAGES - used_of m - (totals_of k.lives).places) (h.cells up) in
      let files : room.files ≡ file_count_of a.holder.cells + (totals_of k.lives).files = files_same ∙ ap (λ (n : ℕ). file_count_of a.holder.cells + n) (all_files a held k h) in
      let owners : room.owners ≡ owner_count_of a.holder.cells + (totals_of k.lives).owners = owners_same ∙ ap (λ (n : ℕ). owner_count_of a.holder.cells + n) (all_owners a held k h) in
      record {
        places = omega (arith, h.room.places, left, is.places, among (λ (y : Live). y.part.counts.places) k.lives t l there);
        files = most_of (file_count_of a.holder.cells) (totals_of k.lives).files room.files l.part.counts.files later.files 4096 files h.room.files is.files (among (λ (y : Live). y.part.counts.files) k.lives t l there);
        owners = most_of (owner_count_of a.holder.cells) (totals_of k.lives).owners room.owners l.part.counts.owners later.owners 256 owners h.room.owners is.owners (among (λ (y : Live). y.part.counts.owners) k.lives t l there);
      }
    where
      most_of : (stand total all old new limit : ℕ) → all ≡ stand + total → stand + total ≤ limit → (old < new → all + (new - old) ≤ limit) → old ≤ total → stand + (total - old + new) ≤ limit
      most_of stand total all old new limit is fits more among = go (nat_lt old new) refl
        where
          go : (b : Bool) → nat_lt old new ≡ b → stand + (total - old + new) ≤ limit
          go true e = (let grows : old < new = ltb-true old new e in let low : all + (new - old) ≤ limit = more grows in omega (arith, grows, low, is, among))
          go false e = (let low : new ≤ old = ltb-false old new e in omega (arith, low, fits, among))
