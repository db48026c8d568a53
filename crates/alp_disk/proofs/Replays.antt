-- What the writes since a sync make of the outcomes of a crash.
use Rattle.std.proofs.lemmas.List.{take_more_set}
use Rattle.std.specs.Prelude.{if◌then◌else◌, slice_set}
use Rattle.std.proofs.Common.{◌≡◌, ◌≢◌, ℕ, suc, zero, ◌+◌, ◌<◌, ◌%◌, Bool, true, false, List, [], ◌∷◌, ◌++◌, length, take, refl, sym, ◌∙◌, ap, subst, add-one}
use Rattle.rand_core.specs.Stream.{Stream, next_u32}
use Rattle.alp_base.specs.Pages.{overwritten}
use Rattle.alp_disk.specs.Disk.{Image, page, IsImage, with_bytes, Torn}
use Rattle.alp_base.specs.Crashes.{Follows, NoMore}
use Rattle.alp_disk.specs.Images.{torn_same, length-with_bytes, page-with_bytes, page-with_bytes_other}
use Rattle.alp_disk.specs.Pending.{replay, alternated, low_bytes, filled, Reaches, MayLeave, written_bytes}
use Rattle.alp_disk.specs.PendingLaws.{replay_one, one_torn, is_image-replay, reaches-replay, read_is_left}
use Rattle.alp_disk.specs.declared.pending_write.PendingWrite.{PendingWrite}

pub length-replay : (image : Image) (ws : List PendingWrite) → length (replay image ws) ≡ length image
length-replay image [] = refl
length-replay image (w ∷ ws) = length-replay (with_bytes image w.at w.offset (written_bytes w)) ws ∙ length-with_bytes image w.at w.offset (written_bytes w)

pub replay-push : (image : Image) (ws : List PendingWrite) (w : PendingWrite) → replay image (ws ++ w ∷ []) ≡ with_bytes (replay image ws) w.at w.offset (written_bytes w)
replay-push image [] w = refl
replay-push image (v ∷ ws) w = replay-push (with_bytes image v.at v.offset (written_bytes v)) ws w

reaches-push : (n : ℕ) (image : Image) (ws : List PendingWrite) (w : PendingWrite) (c : Image) → IsImage n image → Reaches n image (ws ++ w ∷ []) c → (d : Image) × (IsImage n d × Reaches n image ws d) × Torn w.at w.offset w.len d c
reaches-push n image [] w c is (d, is_d, torn, same) = (image, (is, refl), subst (λ k. Torn w.at w.offset w.len image k) (sym same) torn)
reaches-push n image (v ∷ ws) w c is (d, is_d, torn, rest) =
    let more = reaches-push n d ws w c is_d rest in
    (more.0, (more.1.0, (d, is_d, torn, more.1.1)), more.2)

pub follows-push : (n : ℕ) (image : Image) (ws : List PendingWrite) (w : PendingWrite) → IsImage n image → Follows (Torn w.at w.offset w.len) (MayLeave n image ws) (MayLeave n image (ws ++ w ∷ []))
follows-push n image ws w is c left = reaches-push n image ws w c is left.1

-- Once the writes are stable, what was read is what is left.
pub settled : (n : ℕ) (image : Image) (ws : List PendingWrite) → IsImage n image → NoMore (MayLeave n image ws) (MayLeave n (replay image ws) [])
settled n image ws is c left = (left.0, subst (Reaches n image ws) (sym left.1) (reaches-replay n image ws is))

pub follows-settled : (n : ℕ) (image : Image) (ws : List PendingWrite) (w : PendingWrite) → IsImage n image → Follows (Torn w.at w.offset w.len) (MayLeave n image ws) (MayLeave n (replay image ws) (w ∷ []))
follows-settled n image ws w is c left =
    let from = follows-push n (replay image ws) [] w (is_image-replay n image ws is) c left in
    (from.0, settled n image ws is from.0 from.1, from.2)

-- ---- what each pick leaves

pub alternated_is_left : (n : ℕ) (keeps : Bool) (image : Image) (ws : List PendingWrite) → IsImage n image → MayLeave n image ws (alternated keeps image ws)
alternated_is_left n keeps image [] is = (is, refl)
alternated_is_left n true image (w ∷ ws) is =
    let one = replay_one n image w is in
    let rest = alternated_is_left n false (with_bytes image w.at w.offset (written_bytes w)) ws one.0 in
    (rest.0, (with_bytes image w.at w.offset (written_bytes w), one.0, one.1, rest.1))
alternated_is_left n false image (w ∷ ws) is =
    let rest = alternated_is_left n true image ws is in
    (rest.0, (image, is, torn_same w.at w.offset w.len image, rest.1))

pub dropped_is_left : (n : ℕ) (image : Image) (ws : List PendingWrite) → IsImage n image → MayLeave n image ws image
dropped_is_left n image [] is = (is, refl)
dropped_is_left n image (w ∷ ws) is = (is, (image, is, torn_same w.at w.offset w.len image, (dropped_is_left n image ws is).1))

pub length-low_bytes : (n : ℕ) (words : Stream) → length (low_bytes n words).0 ≡ n
length-low_bytes zero words = refl
length-low_bytes (suc n) words = ap suc (length-low_bytes n (next_u32 words).1)

pub filled_is_left : (n : ℕ) (words : Stream) (image : Image) (ws : List PendingWrite) → IsImage n image → MayLeave n image ws (filled words image ws)
filled_is_left n words image [] is = (is, refl)
filled_is_left n words image (w ∷ ws) is =
    let drawn = low_bytes w.len words in
    let one = one_torn n image w drawn.0 (length-low_bytes w.len words) is in
    let rest = filled_is_left n drawn.1 (with_bytes image w.at w.offset drawn.0) ws one.0 in
    (rest.0, (with_bytes image w.at w.offset drawn.0, one.0, one.1, rest.1))

pub ruleset crash_rules = (dropped_is_left, read_is_left, alternated_is_left, filled_is_left)

-- one word more
pub low_bytes-more : (n : ℕ) (words : Stream) → low_bytes (suc n) words ≡ ((low_bytes n words).0 ++ (next_u32 (low_bytes n words).1).0 % 256 ∷ [], (next_u32 (low_bytes n words).1).1)
low_bytes-more zero words = refl
low_bytes-more (suc n) words = ap (λ (r : List ℕ × Stream). ((next_u32 words).0 % 256 ∷ r.0, r.1)) (low_bytes-more n (next_u32 words).1)

-- ---- one page after one more write

pub page-replay_push : (image : Image) (ws : List PendingWrite) (w : PendingWrite) (at : ℕ) → page (replay image (ws ++ w ∷ [])) at ≡ page (with_bytes (replay image ws) w.at w.offset (written_bytes w)) at
page-replay_push image ws w at = ap (λ (i : Image). page i at) (replay-push image ws w)

pub page_same_place : (image : Image) (at : ℕ) (w : PendingWrite) (p : List ℕ) → w.at ≡ at → at < length image → p ≡ page image at → overwritten p w.offset (written_bytes w) ≡ page (with_bytes image w.at w.offset (written_bytes w)) at
page_same_place image at w p here within same =
    ap (λ (q : List ℕ). overwritten q w.offset (written_bytes w)) same ∙ sym (page-with_bytes image at w.offset (written_bytes w) within)
    ∙ ap (λ (k : ℕ). page (with_bytes image k w.offset (written_bytes w)) at) (sym here)

pub page_other_place : (image : Image) (at : ℕ) (w : PendingWrite) (p : List ℕ) → w.at ≢ at → p ≡ page image at → p ≡ page (with_bytes image w.at w.offset (written_bytes w)) at
page_other_place image at w p other same = same ∙ sym (page-with_bytes_other image w.at w.offset at (written_bytes w) (λ e. other (sym e)))

pub ruleset page_rules = (page_same_place, page_other_place)

-- ---- a sync, and a write

pub settled_to : (n : ℕ) (image : Image) (ws : List PendingWrite) (stable : Image) (pending : List PendingWrite) → IsImage n image → stable ≡ replay image ws → pending ≡ [] → NoMore (MayLeave n image ws) (MayLeave n stable pending)
settled_to n image ws stable pending is same none c left = settled n image ws is c (subst (λ (i : Image). MayLeave n i [] c) same (subst (λ (l : List PendingWrite). MayLeave n stable l c) none left))

pub whole_after_replay : (image : Image) (ws : List PendingWrite) (now : Image) → IsImage (length image) image → now ≡ replay image ws → IsImage (length now) now
whole_after_replay image ws now is same =
    let there : IsImage (length image) now = subst (λ (i : Image). IsImage (length image) i) (sym same) (is_image-replay (length image) image ws is) in
    subst (λ n. IsImage n now) (sym there.count) there

pub same_size : (n m : ℕ) (image : Image) (ws : List PendingWrite) (c : Image) → m ≡ n → MayLeave m image ws c → MayLeave n image ws c
same_size n m image ws c same left = subst (λ k. MayLeave k image ws c) same left

pub nothing_pending : (image : Image) (ws : List PendingWrite) → ws ≡ [] → replay image ws ≡ image
nothing_pending image ws none = ap (λ (l : List PendingWrite). replay image l) none

-- ---- what is stable and what waits after one more write: the choice is whether there was room
module _ (stable : Image) (pending : List PendingWrite) (w : PendingWrite) (is : IsImage (length stable) stable) where
  abbrev pub stable_then : Bool → Image
  stable_then room = if room then stable else replay stable pending

  abbrev pub pending_then : Bool → List PendingWrite
  pending_then room = (if room then pending else []) ++ w ∷ []

  pub noted_size : (room : Bool) → length (stable_then room) ≡ length stable
  noted_size true = refl
  noted_size false = length-replay stable pending

  pub noted_whole : (room : Bool) → IsImage (length stable) (stable_then room)
  noted_whole true = is
  noted_whole false = is_image-replay (length stable) stable pending is

  pub noted_replay : (room : Bool) → replay (stable_then room) (pending_then room) ≡ with_bytes (replay stable pending) w.at w.offset (written_bytes w)
  noted_replay true = replay-push stable pending w
  noted_replay false = refl

  pub noted_follows : (room : Bool) → Follows (Torn w.at w.offset w.len) (MayLeave (length stable) stable pending) (MayLeave (length stable) (stable_then room) (pending_then room))
  noted_follows true = follows-push (length stable) stable pending w is
  noted_follows false = follows-settled (length stable) stable pending w is

-- what is known of a disk after one more write
pub record Noted (old : Image) (before : List PendingWrite) (at offset : ℕ) (bytes : List ℕ) (new : Image) (after : List PendingWrite) : Type 0 where
  pub size : length new ≡ length old
  pub whole : IsImage (length new) new
  pub replayed : replay new after ≡ with_bytes (replay old before) at offset bytes
  pub follows : Follows (Torn at offset (length bytes)) (MayLeave (length old) old before) (MayLeave (length new) new after)

pub noted : (old new : Image) (before after : List PendingWrite) (w : PendingWrite) (at offset : ℕ) (bytes : List ℕ) (room : Bool) (is : IsImage (length old) old) → w.at ≡ at → w.offset ≡ offset → w.len ≡ length bytes → written_bytes w ≡ bytes
    → new ≡ stable_then old before w is room → after ≡ pending_then old before w is room → Noted old before at offset bytes new after
noted old new before after w at offset bytes room is at_page from size holds stable pending =
    let same_size : length new ≡ length old = ap length stable ∙ noted_size old before w is room in
    record {
      size = same_size;
      whole = subst (λ n. IsImage n new) (sym same_size) (subst (λ (i : Image). IsImage (length old) i) (sym stable) (noted_whole old before w is room));
      replayed = ap (λ (i : Image). replay i after) stable ∙ ap (λ (ws : List PendingWrite). replay (stable_then old before w is room) ws) pending ∙ noted_replay old before w is room
          ∙ (λ i. with_bytes (replay old before) (at_page i) (from i) (holds i));
      follows = λ c left.
          let there : MayLeave (length old) (stable_then old before w is room) (pending_then old before w is room) c =
          subst (λ (ws : List PendingWrite). MayLeave (length old) (stable_then old before w is room) ws c) pending
          (subst (λ (i : Image). MayLeave (length old) i after c) stable (subst (λ n. MayLeave n new after c) same_size left)) in
          let f = noted_follows old before w is room c there in
          (f.0, f.1, subst (λ n. Torn at offset n f.0 c) size (subst (λ k. Torn at k w.len f.0 c) from (subst (λ k. Torn k w.offset w.len f.0 c) at_page f.2)));
    }

-- one byte more
pub draw_more : (i : ℕ) (bytes : List ℕ) (word : ℕ) (start words rest : Stream) → i < length bytes → (take i bytes, words) ≡ low_bytes i start → (word, rest) ≡ next_u32 words
    → (take (i + 1) (slice_set bytes i (word % 256)), rest) ≡ low_bytes (i + 1) start
draw_more i bytes word start words rest within so_far drawn =
    ap (λ (l : List ℕ). (l, rest)) (take_more_set bytes i (word % 256) within)
    ∙ ap (λ (p : ℕ × Stream). (take i bytes ++ p.0 % 256 ∷ [], p.1)) drawn
    ∙ ap (λ (r : List ℕ × Stream). (r.0 ++ (next_u32 r.1).0 % 256 ∷ [], (next_u32 r.1).1)) so_far
    ∙ sym (low_bytes-more i start) ∙ ap (λ k. low_bytes k start) (sym (add-one i))
