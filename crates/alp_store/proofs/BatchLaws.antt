-- The batch of a change is one that the log takes.
use Rattle.std.specs.Prelude.{Bool, true, false, cond, ◌&&◌, ◌==◌, nat_lt, sum_by, Option, None, Some, map as list_map}
use Rattle.std.specs.List.{AllByRecursion, list_all}
use Rattle.std.specs.Ordering.{nat_cmp, is_lt}
use Rattle.std.specs.declared.cmp.Ordering.TheVariants.{Less, Equal, Greater}
use Rattle.std.specs.FinMap as map
use Rattle.std.specs.FinMap.{entries_sorted, len-entries}
use Rattle.std.specs.FinMap.Entries.{below_all}
use Rattle.std.proofs.Math.Dec.{T}
use Rattle.std.proofs.Common.{◌≡◌, ◌≤◌, ◌<◌, ◌*◌, ◌^◌, ℕ, List, [], ◌∷◌, length, refl, sym, ◌∙◌, ap, subst, arith}
use Rattle.std.proofs.lemmas.Bool.{and_from}
use Rattle.std.proofs.lemmas.List.{length-map}
use Rattle.std.proofs.lemmas.List.Sums.{sum_by-cons}
use Rattle.alp_base.specs.Notes.{Notes, notes_after}
use Rattle.alp_base.specs.declared.bytes.NoteChange.{NoteChange}
use Rattle.alp_batch.specs.Batch.{IsBatch, IsShort, IsShortValue, note_length, notes_length, batch_length, page_below, name_below}
use Rattle.alp_fields.specs.Rising.{rises_from, is_rising}
use Rattle.alp_base.specs.declared.change.Change.{Change}
use Rattle.alp_fields.proofs.FormLaws.{and_parts}
use Rattle.alp_vault.specs.Volumes.{is_note_change, changed_cells, live_bytes, put_bytes, noted_bytes, commit_bytes}
use Rattle.alp_vault.proofs.VolumeLemmas.{short_name, notes_len}
use Rattle.alp_wal.specs.Live.{BothFit, notes_batch, puts}
use Rattle.alp_volume.specs.Drafts.{Changed}
use Rattle.alp_store.specs.Batches.{image_of, batch_of, IsLoggable}

-- ---- pages rise

first : (a b : Bool) → T (a && b) → T a
first true b h = tt
first false b h = absurd h

second : (a b : Bool) → T (a && b) → T b
second true b h = h
second false b h = absurd h

less : (a b : ℕ) → T (is_lt (nat_cmp a b)) → nat_lt a b ≡ true
less a b h = go (nat_lt a b) (a == b) h
  where
    go : (t u : Bool) → T (is_lt (cond t Less (cond u Equal Greater))) → t ≡ true
    go true u h = refl
    go false true h = absurd h
    go false false h = absurd h

rising : (es : List (ℕ × List ℕ)) → T (map.is_sorted nat_cmp es) → is_rising page_below (list_map image_of es) ≡ true
rising [] h = refl
rising (e ∷ es) h = from e es (first _ _ h) (second _ _ h)
  where
    from : (e : ℕ × List ℕ) (es : List (ℕ × List ℕ)) → T (below_all nat_cmp e.0 es) → T (map.is_sorted nat_cmp es) → rises_from page_below (image_of e) (list_map image_of es) ≡ true
    from e [] low sorted = refl
    from e (x ∷ es) low sorted = and_from _ _ (less e.0 x.0 (first _ _ low)) (from x es (first _ _ sorted) (second _ _ sorted))

-- ---- notes

-- each name is short, and each value no longer than all that is noted
short : (server servers most : ℕ) (ns : List NoteChange) → list_all (λ (n : NoteChange). is_note_change server servers n.name n.value) ns ≡ true
    → sum_by (λ (n : NoteChange). noted_bytes n.name n.value) ns ≤ most → most < 2 ^ 32 → AllByRecursion IsShort ns
short server servers most [] each few low = tt
short server servers most (n ∷ ns) each few low =
    let parts = and_parts (is_note_change server servers n.name n.value) (list_all (λ (m : NoteChange). is_note_change server servers m.name m.value) ns) each in
    let sum = sum_by-cons (λ (m : NoteChange). noted_bytes m.name m.value) n ns in (
      (omega (arith, short_name server servers n.name n.value parts.0), value_short n.name n.value (omega (arith, sum, few, low))),
      short server servers most ns parts.1 (omega (arith, sum, few)) low,
    )
  where
    value_short : (name : List ℕ) (v : Option (List ℕ)) → noted_bytes name v < 2 ^ 32 → IsShortValue v
    value_short name None h = tt
    value_short name (Some v) h = omega (arith, h)

puts_length : (es : List (List ℕ × List ℕ)) → notes_length (puts es) ≡ sum_by put_bytes es
puts_length [] = refl
puts_length (e ∷ es) = omega (arith, puts_length es, sum_by-cons put_bytes e es)

one_noted : (name : List ℕ) (v : Option (List ℕ)) → note_length (record { name = name; value = v }) ≡ noted_bytes name v
one_noted name None = omega arith
one_noted name (Some v) = omega arith

noted_length : (ns : List NoteChange) → notes_length ns ≡ sum_by (λ (n : NoteChange). noted_bytes n.name n.value) ns
noted_length [] = refl
noted_length (n ∷ ns) = omega (arith, one_noted n.name n.value, noted_length ns, sum_by-cons (λ (x : NoteChange). noted_bytes x.name x.value) n ns)

-- ---- all of it

module _ (server servers area : ℕ) (live : Notes) (change : Change) (pages : Changed) (notes : List NoteChange) (ok : IsLoggable server servers area live change pages notes) where
  image_count : length (list_map image_of (map.entries pages)) ≡ map.len pages
  image_count = length-map (map.entries pages) image_of ∙ sym (len-entries pages)

  few_images : length (list_map image_of (map.entries pages)) < 2 ^ 16
  few_images = omega (arith, image_count, ok.few, ok.log, ok.area_most)

  -- the record of a commit fits an area
  few_bytes : commit_bytes (changed_cells change) notes < 2 ^ 32
  few_bytes = omega (arith, ok.log, ok.area_most)

  pub is_batch : IsBatch (batch_of pages notes)
  is_batch = record {
    few_images = few_images;
    pages_rise = rising (map.entries pages) (entries_sorted pages);
    few_notes = omega (arith, ok.noted.few);
    names_rise = ok.noted.rise;
    short = short server servers (commit_bytes (changed_cells change) notes) notes ok.noted.each (omega arith) few_bytes;
  }

  pub few_after : map.len (notes_after notes live) ≤ 65535
  few_after = omega (arith, notes_len notes live, ok.noted.few)

  live_length : batch_length (notes_batch live) ≡ live_bytes live
  live_length = omega (arith, puts_length (map.entries live))

  change_length : batch_length (batch_of pages notes) ≤ commit_bytes (changed_cells change) notes
  change_length = omega (arith, image_count, ok.few, noted_length notes)

  pub both_fit : BothFit area live (batch_of pages notes)
  both_fit = omega (arith, live_length, change_length, ok.log)
