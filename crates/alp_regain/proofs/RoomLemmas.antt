-- what regained parts come to is what their notes say
use Rattle.std.specs.Prelude.{max, Bool, true, false, nat_le, sum_by, map as list_map, IsTrue}
use Rattle.std.specs.List.{list_all, AllByRecursion}
use Rattle.std.proofs.Common.{◌≡◌, ℕ, ◌+◌, ◌≤◌, List, [], ◌∷◌, length, refl, sym, ap, ◌∙◌, subst, arith}
use Rattle.std.proofs.lemmas.List.Sums.{sum_by-cons}
use Rattle.alp_base.specs.declared.faults.Sizes.{Sizes}
use Rattle.alp_base.specs.declared.ids.JoinNo.{JoinNo}
use Rattle.alp_fields.specs.declared.clock_note.ClockNote.{ClockNote}
use Rattle.alp_fields.specs.declared.ready_note.ReadyPart.{ReadyPart}
use Rattle.alp_vault.specs.Volumes.{IsVolumeOf}
use Rattle.alp_files.specs.Cells.{Cells}
use Rattle.alp_files.specs.Needs.{changed_by, need_of, made_of, is_leader, is_owner}
use Rattle.alp_worker.specs.Rooms.{applying_of, sum_of}
use Rattle.alp_worker.specs.declared.room.PartSize.{PartSize}
use Rattle.alp_journal.specs.Counts.{log_need}
use Rattle.alp_coord.specs.Coordinators.{noted}
use Rattle.alp_coord.specs.declared.decision.Decision.{Decision}
use Rattle.alp_journal.specs.Opening.{ReadyNote, DecisionNote}
use Rattle.alp_regain.specs.Named.{is_decided_by}
use Rattle.alp_regain.specs.Notes.{part_note}
use Rattle.alp_regain.specs.Rooms.{FitsLogAlone, part_size, places_in, files_in, owners_in, HaveRoomFor}
use Rattle.alp_regain.specs.Together.{size_of, log_sum, IsPartNote, HaveRoomTogether, AreSoundTogether}
use Rattle.alp_regain.specs.Regained.{IsPartOf, ArePartsOf}
use Rattle.alp_regain.specs.declared.part.RegainedPart.{RegainedPart}
use Rattle.alp_regain.proofs.ListLemmas.{all_mapped}

module _ (tells : Bool) (m : Cells) (server epoch : ℕ) where
  one_size : (p : RegainedPart) (n : ReadyNote) → IsPartOf tells m server epoch p n → part_size p ≡ size_of n
  one_size p n is = λ i. record { cells = (is.part.cells ∙ ap changed_by is.intents) i; locks = is.locks i }

  pub same_sizes : (ps : List RegainedPart) (ns : List ReadyNote) → ArePartsOf tells m server epoch ps ns → list_map part_size ps ≡ list_map size_of ns
  same_sizes [] [] are = refl
  same_sizes [] (n ∷ ns) are = absurd are
  same_sizes (p ∷ ps) [] are = absurd are
  same_sizes (p ∷ ps) (n ∷ ns) are = λ i. one_size p n are.0 i ∷ same_sizes ps ns are.1 i

  pub same_length : (ps : List RegainedPart) (ns : List ReadyNote) → ArePartsOf tells m server epoch ps ns → length ps ≡ length ns
  same_length [] [] are = refl
  same_length [] (n ∷ ns) are = absurd are
  same_length (p ∷ ps) [] are = absurd are
  same_length (p ∷ ps) (n ∷ ns) are = omega (arith, same_length ps ns are.1)

  module _ (told : IsTrue tells) where
    same_places : (ps : List RegainedPart) (ns : List ReadyNote) → ArePartsOf tells m server epoch ps ns → sum_by places_in ps ≡ sum_by (λ (n : ReadyNote). need_of m n.edits) ns
    same_places [] [] are = refl
    same_places [] (n ∷ ns) are = absurd are
    same_places (p ∷ ps) [] are = absurd are
    same_places (p ∷ ps) (n ∷ ns) are =
        sum_by-cons places_in p ps ∙ (λ i. (are.0.counts told).places i + same_places ps ns are.1 i) ∙ sym (sum_by-cons (λ (x : ReadyNote). need_of m x.edits) n ns)

    same_files : (ps : List RegainedPart) (ns : List ReadyNote) → ArePartsOf tells m server epoch ps ns → sum_by files_in ps ≡ sum_by (λ (n : ReadyNote). made_of is_leader m n.edits) ns
    same_files [] [] are = refl
    same_files [] (n ∷ ns) are = absurd are
    same_files (p ∷ ps) [] are = absurd are
    same_files (p ∷ ps) (n ∷ ns) are =
        sum_by-cons files_in p ps ∙ (λ i. (are.0.counts told).files i + same_files ps ns are.1 i) ∙ sym (sum_by-cons (λ (x : ReadyNote). made_of is_leader m x.edits) n ns)

    same_owners : (ps : List RegainedPart) (ns : List ReadyNote) → ArePartsOf tells m server epoch ps ns → sum_by owners_in ps ≡ sum_by (λ (n : ReadyNote). made_of is_owner m n.edits) ns
    same_owners [] [] are = refl
    same_owners [] (n ∷ ns) are = absurd are
    same_owners (p ∷ ps) [] are = absurd are
    same_owners (p ∷ ps) (n ∷ ns) are =
        sum_by-cons owners_in p ps ∙ (λ i. (are.0.counts told).owners i + same_owners ps ns are.1 i) ∙ sym (sum_by-cons (λ (x : ReadyNote). made_of is_owner m x.edits) n ns)

    pub room_said : (s : Sizes) (ps : List RegainedPart) (ns : List ReadyNote) → ArePartsOf tells m server epoch ps ns → HaveRoomFor s m ps → HaveRoomTogether s m ns
    room_said s ps ns are room = record {
      places = omega (arith, room.places, same_places ps ns are);
      files = omega (arith, room.files, same_files ps ns are);
      owners = omega (arith, room.owners, same_owners ps ns are);
    }

    pub room_meant : (s : Sizes) (ps : List RegainedPart) (ns : List ReadyNote) → ArePartsOf tells m server epoch ps ns → HaveRoomTogether s m ns → HaveRoomFor s m ps
    room_meant s ps ns are room = record {
      places = omega (arith, room.places, same_places ps ns are);
      files = omega (arith, room.files, same_files ps ns are);
      owners = omega (arith, room.owners, same_owners ps ns are);
    }

-- ---- the log

le_is : (a b : ℕ) → nat_le a b ≡ true → a ≤ b
le_is a b h = grind arith

le_not : (a b : ℕ) → nat_le a b ≡ false → a ≤ b → ⊥
le_not a b h less = grind arith

module _ (tells : Bool) (m : Cells) (server epoch area : ℕ) (ps : List RegainedPart) (ns : List ReadyNote) (are : ArePartsOf tells m server epoch ps ns) where
  same_sum : log_sum (list_map part_size ps) ≡ log_sum (list_map size_of ns)
  same_sum = ap (λ (xs : List PartSize). log_sum xs) (same_sizes tells m server epoch ps ns are)

  pub log_said : nat_le (log_sum (list_map part_size ps)) area ≡ true → log_sum (list_map size_of ns) ≤ area
  log_said fits = le_is (log_sum (list_map size_of ns)) area (ap (λ (n : ℕ). nat_le n area) (sym same_sum) ∙ fits)

  pub log_meant : nat_le (log_sum (list_map part_size ps)) area ≡ false → log_sum (list_map size_of ns) ≤ area → ⊥
  log_meant full less = le_not (log_sum (list_map size_of ns)) area (ap (λ (n : ℕ). nat_le n area) (sym same_sum) ∙ full) less

-- ---- what each note says

module _ (tells : Bool) (m : Cells) (server epoch : ℕ) where
  pub each_note : (ps : List RegainedPart) (ns : List ReadyNote) → ArePartsOf tells m server epoch ps ns → AllByRecursion (IsPartNote server epoch) ns
  each_note [] [] are = tt
  each_note [] (n ∷ ns) are = absurd are
  each_note (p ∷ ps) [] are = absurd are
  each_note (p ∷ ps) (n ∷ ns) are = (are.0.note, each_note ps ns are.1)

pub decided_by : (clock : ClockNote) (ds : List Decision) → list_all (λ (d : DecisionNote). is_decided_by clock d.stamp) (list_map noted ds) ≡ list_all (λ (d : Decision). is_decided_by clock d.stamp) ds
decided_by clock ds = all_mapped (λ (d : DecisionNote). is_decided_by clock d.stamp) noted ds

-- ---- no part

none_of : {A : Type 0} (xs : List A) → length xs ≡ 0 → xs ≡ []
none_of [] is = refl
none_of (x ∷ xs) is = absurd (omega (arith, is))

pub no_notes : (xs : List (JoinNo × ReadyPart)) → length xs ≡ 0 → list_map part_note xs ≡ []
no_notes xs is = ap (λ (ys : List (JoinNo × ReadyPart)). list_map part_note ys) (none_of xs is)

pub some_notes : (xs : List (JoinNo × ReadyPart)) → list_map part_note xs ≡ [] → length xs ≡ 0
some_notes [] is = refl
some_notes (x ∷ xs) is = let wrong : part_note x ∷ list_map part_note xs ≡ [] = is in cc

pub none_room : (s : Sizes) (m : Cells) (ns : List ReadyNote) → ns ≡ [] → IsVolumeOf s m → HaveRoomTogether s m ns
none_room s m ns none volume = subst (HaveRoomTogether s m) (sym none) (record {
  places = omega (arith, volume.fits.places);
  files = omega (arith, volume.fits.files);
  owners = omega (arith, volume.fits.owners);
})

pub none_sound : (s : Sizes) (m : Cells) (ns : List ReadyNote) → ns ≡ [] → IsVolumeOf s m → AreSoundTogether m ns
none_sound s m ns none volume = subst (AreSoundTogether m) (sym none) (record { each = tt; all = volume.sound })

-- ---- room in the log for each part

le_max_left : (a b : ℕ) → a ≤ max a b
le_max_left a b = omega arith

le_max_right : (a b : ℕ) → b ≤ max a b
le_max_right a b = omega arith

one_fits : (n : PartSize) (ns : List PartSize) (area : ℕ) → log_sum (n ∷ ns) ≤ area → log_need n.cells n.locks ≤ area
one_fits n ns area fits = omega (arith, fits, le_max_left (applying_of n) (sum_of ns).greatest)

rest_fits : (n : PartSize) (ns : List PartSize) (area : ℕ) → log_sum (n ∷ ns) ≤ area → log_sum ns ≤ area
rest_fits n ns area fits = omega (arith, fits, le_max_right (applying_of n) (sum_of ns).greatest)

pub each_fits : (ns : List ReadyNote) (area : ℕ) → log_sum (list_map size_of ns) ≤ area → AllByRecursion (FitsLogAlone area) ns
each_fits [] area fits = tt
each_fits (n ∷ ns) area fits = (one_fits (size_of n) (list_map size_of ns) area fits, each_fits ns area (rest_fits (size_of n) (list_map size_of ns) area fits))
