-- what a volume has room for, and what the counts of a part leave
use Rattle.std.specs.Prelude.{Bool, true, false, not, ◌&&◌, ◌||◌, ◌==◌, nat_le, Option, None, Some, is_some, cond, sum_by, map as list_map}
use Rattle.std.specs.List.{filter_map, list_all}
use Rattle.std.specs.FinMap as map
use Rattle.std.specs.FinMap.{get-empty, get-insert, len-entries, len-insert, len-remove}
use Rattle.std.specs.Ordering.{eq_by_cmp, is_eq}
use Rattle.std.specs.declared.cmp.Ordering.{Ordering}
use Rattle.std.specs.declared.cmp.Ordering.TheVariants.{Less, Equal, Greater}
use Rattle.std.specs.Cmp.Lexicographic.{nat_list_cmp_total}
use Rattle.std.proofs.Common.{◌≡◌, ℕ, ◌+◌, ◌-◌, ◌*◌, ◌/◌, ◌<◌, ◌≤◌, ◌^◌, List, [], ◌∷◌, length, refl, sym, ◌∙◌, ap, arith, length-append}
use Rattle.std.proofs.lemmas.Bool.{le-leb, leb-true, lt-ltb, eq-eqb}
use Rattle.std.proofs.lemmas.List.Sums.{sum_by-cons}
use Rattle.std.proofs.lemmas.Map.Lookups.{exact_bytes}
use Rattle.alp_base.specs.Keys.{key_cmp}
use Rattle.alp_base.specs.Notes.{Notes, text_cmp, noted, notes_after}
use Rattle.alp_base.specs.declared.bytes.NoteChange.{NoteChange}
use Rattle.alp_base.specs.declared.faults.Sizes.{Sizes}
use Rattle.alp_base.specs.declared.ids.JoinNo.{JoinNo}
use Rattle.alp_base.specs.declared.ids.TransId.{TransId}
use Rattle.alp_base.specs.declared.key.Key.{Key}
use Rattle.alp_base.specs.declared.key.Key.TheVariants.{Leader, PageOf, OwnerOf}
use Rattle.alp_base.specs.declared.lists.TheConstants.{PAGES_PER_FILE}
use Rattle.alp_fields.specs.Forms.{IsForm, pair, checked, u32, u64, whole}
use Rattle.alp_fields.specs.Fields.{is_time}
use Rattle.alp_fields.specs.Rising.{is_rising}
use Rattle.alp_fields.specs.ClockNote.{clock_name, clock_form, is_clock_note, IsClockNote, IsClockAtMost}
use Rattle.alp_fields.specs.ReadyNote.{ready_name, ready_form, ready_with, ready_in}
use Rattle.alp_fields.specs.DecisionNote.{decision_name, decision_form, decision_with, decision_in}
use Rattle.alp_fields.specs.declared.ready_note.ReadyPart.{ReadyPart}
use Rattle.alp_fields.specs.declared.decision_note.Decision.{Decision}
use Rattle.alp_fields.specs.declared.clock_note.ClockNote.{ClockNote}
use Rattle.alp_fields.proofs.FormLaws.{pair_law, mapped_law, checked_law, whole_back, whole_spelled}
use Rattle.alp_fields.proofs.FieldLaws.{u32_law, u64_law}
use Rattle.alp_fields.proofs.FixedLaws.{u32_length, u64_length}
use Rattle.alp_fields.proofs.ReadyNoteLaw.{ready_name_law, ready_name_length}
use Rattle.alp_fields.proofs.DecisionNoteLaw.{decision_name_law, decision_name_length, decision_law, decision_fits}
use Rattle.alp_base.specs.declared.cell.Cell.{Cell}
use Rattle.alp_base.specs.declared.cell.Cell.TheVariants as cell
use Rattle.alp_base.specs.declared.change.Change.{Change}
use Rattle.alp_files.specs.Cells.{Cells, same_name}
use Rattle.alp_files.specs.Counts.{name_at, owner_names_of}
use Rattle.alp_files.proofs.SameLemmas.{same_name-true, same_name-itself}
use Rattle.alp_files.proofs.SoundLemmas.{empty_sound}
use Rattle.alp_files.proofs.SumLemmas.{sum_of, weight_at, sum_of-single}
use Rattle.alp_vault.specs.Vault.{AreSizes}
use Rattle.alp_vault.specs.Volumes.{FitsVolume, IsVolumeOf, fits_key, is_another, is_ready_on, is_decision_of, is_join_on, is_trans_of, is_note_change, name_below, AreServerNotes, AreNoteChanges, AreNotesSoFar, AreChangesSoFar, FitsLog, put_bytes, noted_bytes, live_bytes, changed_cells}
use Rattle.alp_vault.proofs.CountLemmas.{none_held, counts-none}

-- ---- a volume that holds nothing

pub no_owners : owner_names_of map.empty ≡ []
no_owners = ap (λ (es : List (Key × Cell)). filter_map name_at (list_map (λ e. e.0) es)) none_held

pub empty_volume : (s : Sizes) → AreSizes s → IsVolumeOf s map.empty
empty_volume s h = record {
  sound = empty_sound;
  fits = record {
    places = omega (arith, counts-none.of_places, h.home_least);
    files = omega (arith, counts-none.of_files);
    owners = omega (arith, ap (λ (ns : List (List ℕ)). length ns) no_owners);
    sizes = λ f p is. (let wrong : None ≡ Some (cell.Leader p) = sym (get-empty key_cmp (Leader f)) ∙ is in cc);
  };
}

-- what a volume holds is within the limits of a file
pub held_fits : (s : Sizes) (m : Cells) → IsVolumeOf s m → (k : Key) (c : Cell) → map.get m k ≡ Some c → fits_key k c ≡ true
held_fits s m h (Leader f) (cell.Leader p) is = le-leb p.size PAGES_PER_FILE (h.fits.sizes f p is)
held_fits s m h (Leader f) (cell.Page bytes) is = absurd (h.sound.0.kinds (Leader f) (cell.Page bytes) is)
held_fits s m h (Leader f) (cell.Owner o) is = absurd (h.sound.0.kinds (Leader f) (cell.Owner o) is)
held_fits s m h (PageOf f n) (cell.Leader p) is = absurd (h.sound.0.kinds (PageOf f n) (cell.Leader p) is)
held_fits s m h (PageOf f n) (cell.Page bytes) is =
    let paged = h.sound.0.paged f n (cell.Page bytes) is in
    lt-ltb n PAGES_PER_FILE (omega (arith, h.fits.sizes f paged.0 paged.1, paged.2))
held_fits s m h (PageOf f n) (cell.Owner o) is = absurd (h.sound.0.kinds (PageOf f n) (cell.Owner o) is)
held_fits s m h (OwnerOf name) (cell.Leader p) is = absurd (h.sound.0.kinds (OwnerOf name) (cell.Leader p) is)
held_fits s m h (OwnerOf name) (cell.Page bytes) is = absurd (h.sound.0.kinds (OwnerOf name) (cell.Page bytes) is)
held_fits s m h (OwnerOf name) (cell.Owner o) is = ap (λ (x : List ℕ). same_name x name) (h.sound.0.kinds (OwnerOf name) (cell.Owner o) is) ∙ same_name-itself name

-- ---- notes

clock_law : IsForm clock_form
unfolding clock_form
clock_law = mapped_law _ _ (pair u32 (checked is_time u64)) (λ v. refl) (λ x. refl) (pair_law u32 (checked is_time u64) u32_law (checked_law is_time u64 u64_law))

-- the note of a clock has twelve bytes
pub clock_length : (c : ClockNote) → length (clock_form.spell c) ≡ 12
unfolding clock_form
clock_length c = omega (arith, length-append (u32.spell c.epoch) (u64.spell c.clock), u32_length c.epoch, u64_length c.clock)

note_length : (value : List ℕ) (found : Option ClockNote) → whole clock_form value ≡ found → is_some found ≡ true → length value ≡ 12
note_length value None is h = cc
note_length value (Some c) is h = ap (λ (bytes : List ℕ). length bytes) (whole_spelled clock_form clock_law value c is).0 ∙ clock_length c

some_same : (x y : List ℕ) → Some x ≡ Some y → x ≡ y
some_same x y e = cc

tied_text : (a b : List ℕ) → eq_by_cmp text_cmp a b ≡ true → text_cmp a b ≡ Equal
tied_text a b e = go (text_cmp a b) refl e
  where
    go : (o : Ordering) → text_cmp a b ≡ o → is_eq o ≡ true → o ≡ Equal
    go Less h f = cc
    go Equal h f = refl
    go Greater h f = cc

both : (a b : Bool) → a && b ≡ true → (a ≡ true) × (b ≡ true)
both true b h = (refl, h)
both false b h = cc

-- the note of a clock has its name and twelve bytes
clock_alone : (name value : List ℕ) → is_clock_note name value ≡ true → (name ≡ clock_name) × (length value ≡ 12)
clock_alone name value h =
    let parts = both _ _ h in
    (same_name-true name clock_name parts.0, note_length value (whole clock_form value) refl parts.1)

pub live_most : (server servers : ℕ) (notes : Notes) → AreNotesSoFar server servers notes → live_bytes notes ≤ 23
live_most server servers notes are =
    let alone : sum_of put_bytes notes ≡ weight_at put_bytes clock_name (map.get notes clock_name) =
    sum_of-single nat_list_cmp_total exact_bytes put_bytes clock_name notes (λ k x there other. (
    let same : k ≡ clock_name = (clock_alone k x (are k x there)).0 in
    let wrong : true ≡ false = ap (λ (n : List ℕ). eq_by_cmp text_cmp clock_name n) (sym same) ∙ other in
    cc)) in
    omega (arith, alone, go (map.get notes clock_name) refl)
  where
    go : (o : Option (List ℕ)) → map.get notes clock_name ≡ o → weight_at put_bytes clock_name o ≤ 19
    go None is = omega arith
    go (Some value) is = omega (arith, (clock_alone clock_name value (are clock_name value is)).1)

-- the change of the clock's note in a record
pub clock_bytes : (n : NoteChange) → IsClockNote n → noted_bytes n.name n.value ≡ 19
clock_bytes n h =
    let bytes : noted_bytes n.name n.value ≡ noted_bytes clock_name (Some (clock_form.spell h.clock)) =
    ap (λ (name : List ℕ). noted_bytes name n.value) h.name ∙ ap (noted_bytes clock_name) h.value in
    omega (arith, bytes, clock_length h.clock)

changes_most : (changes : List NoteChange) → IsClockAtMost changes → sum_by (λ n. noted_bytes n.name n.value) changes ≤ 19
changes_most [] h = omega arith
changes_most (n ∷ []) h = omega (arith, clock_bytes n h)
changes_most (n ∷ m ∷ ns) h = absurd h

-- a note with the spelling of a clock
clock_fine : (c : ClockNote) → clock_form.Fits c → is_clock_note clock_name (clock_form.spell c) ≡ true
clock_fine c fits = ap (λ (x : Option ClockNote). is_some x) (whole_back clock_form clock_law c fits)

-- a change of the clock's note leaves no other note
pub changed_notes : (server servers : ℕ) (live : Notes) (changes : List NoteChange) → AreNotesSoFar server servers live → IsClockAtMost changes → AreNotesSoFar server servers (notes_after changes live)
changed_notes server servers live [] are h = are
changed_notes server servers live (n ∷ m ∷ ns) are h = absurd h
changed_notes server servers live (n ∷ []) are h = λ name value there.
    go name value (eq_by_cmp text_cmp name clock_name) refl
    (sym (get-insert nat_list_cmp_total live clock_name (clock_form.spell h.clock) name) ∙ sym (ap (λ (x : Notes). map.get x name) now) ∙ there)
  where
    now : noted n.name n.value live ≡ map.insert live clock_name (clock_form.spell h.clock)
    now = ap (λ (x : List ℕ). noted x n.value live) h.name ∙ ap (λ (v : Option (List ℕ)). noted clock_name v live) h.value

    go : (name value : List ℕ) (t : Bool) → eq_by_cmp text_cmp name clock_name ≡ t → cond t (Some (clock_form.spell h.clock)) (map.get live name) ≡ Some value → is_clock_note name value ≡ true
    go name value true e there =
        let same : name ≡ clock_name = exact_bytes name clock_name (tied_text name clock_name e) in
        let new : clock_form.spell h.clock ≡ value = some_same (clock_form.spell h.clock) value there in
        ap (λ (x : List ℕ). is_clock_note x value) same ∙ ap (λ (v : List ℕ). is_clock_note clock_name v) (sym new) ∙ clock_fine h.clock h.fits
    go name value false e there = are name value there

-- ---- what a commit asks of changes of notes

some_or : (a b : Bool) → a ≡ true → (a || b) ≡ true
some_or a b h = ap (λ (x : Bool). x || b) h

pub noted_so_far : (server servers : ℕ) (notes : Notes) → AreNotesSoFar server servers notes → AreServerNotes server servers notes
noted_so_far server servers notes are name value there =
    some_or (is_clock_note name value) (is_ready_on server servers (ready_in name value) || is_decision_of server servers (decision_in name value)) (are name value there)

clock_changed : (server servers : ℕ) (n : NoteChange) → IsClockNote n → is_note_change server servers n.name n.value ≡ true
clock_changed server servers n h =
    let bytes : List ℕ = clock_form.spell h.clock in
    let is : is_clock_note n.name bytes ≡ true = ap (λ (x : List ℕ). is_clock_note x bytes) h.name ∙ clock_fine h.clock h.fits in
    ap (λ (v : Option (List ℕ)). is_note_change server servers n.name v) h.value
    ∙ some_or (is_clock_note n.name bytes) (is_ready_on server servers (ready_in n.name bytes) || is_decision_of server servers (decision_in n.name bytes)) is

each_changed : (server servers : ℕ) (ns : List NoteChange) → IsClockAtMost ns → list_all (λ (n : NoteChange). is_note_change server servers n.name n.value) ns ≡ true
each_changed server servers [] h = refl
each_changed server servers (n ∷ []) h = ap (λ (b : Bool). b && true) (clock_changed server servers n h)
each_changed server servers (n ∷ m ∷ ns) h = absurd h

clocks_rise : (ns : List NoteChange) → IsClockAtMost ns → is_rising name_below ns ≡ true
clocks_rise [] h = refl
clocks_rise (n ∷ []) h = refl
clocks_rise (n ∷ m ∷ ns) h = absurd h

few_clocks : (ns : List NoteChange) → IsClockAtMost ns → length ns ≤ 1
few_clocks [] h = omega arith
few_clocks (n ∷ []) h = omega arith
few_clocks (n ∷ m ∷ ns) h = absurd h

-- each note takes some bytes
pub many_bytes : (es : List (List ℕ × List ℕ)) → 6 * length es ≤ sum_by put_bytes es
many_bytes [] = omega arith
many_bytes (e ∷ es) = omega (arith, many_bytes es, sum_by-cons put_bytes e es)

-- what a server does so far is what a commit asks
pub changes_so_far : (server servers : ℕ) (live : Notes) (changes : List NoteChange) → AreChangesSoFar server servers live changes → AreNoteChanges server servers live changes
changes_so_far server servers live changes h = record {
  before = noted_so_far server servers live h.before;
  after = noted_so_far server servers (notes_after changes live) h.after;
  each = each_changed server servers changes h.each;
  rise = clocks_rise changes h.each;
  few = omega (arith, few_clocks changes h.each, len-entries live, many_bytes (map.entries live), live_most server servers live h.before);
}

-- ---- a run of one server

no_other : (n : ℕ) → is_another 1 1 n ≡ false
no_other n = go (nat_le 1 n) (nat_le n 1) refl refl
  where
    go : (b d : Bool) → nat_le 1 n ≡ b → nat_le n 1 ≡ d → (b && d && not (n == 1)) ≡ false
    go false d e f = refl
    go true false e f = refl
    go true true e f = ap not (eq-eqb n 1 (omega (arith, leb-true 1 n e, leb-true n 1 f)))

and_none : (a : Bool) → (a && false) ≡ false
and_none true = refl
and_none false = refl

none_ready : (o : Option (JoinNo × ReadyPart)) → is_ready_on 1 1 o ≡ false
none_ready None = refl
none_ready (Some x) = ap (λ (b : Bool). (x.0.server == 1) && b) (no_other x.1.trans.server) ∙ and_none (x.0.server == 1)

none_joined : (js : List JoinNo) → 1 ≤ length js → list_all (λ (j : JoinNo). is_another 1 1 j.server) js ≡ false
none_joined [] some = absurd (omega (arith, some))
none_joined (j ∷ js) some = ap (λ (b : Bool). b && list_all (λ (k : JoinNo). is_another 1 1 k.server) js) (no_other j.server)

none_decided : (name value : List ℕ) → is_decision_of 1 1 (decision_in name value) ≡ false
none_decided name value = go (whole decision_name name) (whole decision_form value) refl
  where
    go : (t : Option TransId) (d : Option Decision) → whole decision_form value ≡ d → is_decision_of 1 1 (decision_with t d) ≡ false
    go None d e = refl
    go (Some t) None e = refl
    go (Some t) (Some d) e =
        let fits = decision_fits d (whole_spelled decision_form decision_law value d e).1 in
        ap (λ (b : Bool). (t.server == 1) && b) (none_joined d.joins fits.some) ∙ and_none (t.server == 1)

left_alone : (c r d : Bool) → r ≡ false → d ≡ false → (c || (r || d)) ≡ true → c ≡ true
left_alone true r d e f h = refl
left_alone false true d e f h = cc
left_alone false false true e f h = cc
left_alone false false false e f h = cc

-- its server has no part that is ready and no decision with parts elsewhere
pub alone_so_far : (notes : Notes) → AreServerNotes 1 1 notes → AreNotesSoFar 1 1 notes
alone_so_far notes are name value there =
    left_alone (is_clock_note name value) (is_ready_on 1 1 (ready_in name value)) (is_decision_of 1 1 (decision_in name value)) (none_ready (ready_in name value)) (none_decided name value) (are name value there)

-- ---- names, and how many notes there are

ready_ten : (name : List ℕ) (j : JoinNo) → whole ready_name name ≡ Some j → length name ≤ 10
ready_ten name j e =
    let same : length name ≡ length (ready_name.spell j) = ap (λ (bs : List ℕ). length bs) (whole_spelled ready_name ready_name_law name j e).0 in
    omega (arith, same, ready_name_length j)

decision_ten : (name : List ℕ) (t : TransId) → whole decision_name name ≡ Some t → length name ≤ 10
decision_ten name t e =
    let same : length name ≡ length (decision_name.spell t) = ap (λ (bs : List ℕ). length bs) (whole_spelled decision_name decision_name_law name t e).0 in
    omega (arith, same, decision_name_length t)

short_end : (server : ℕ) (name : List ℕ) (o : Option JoinNo) (p : Option TransId) → whole ready_name name ≡ o → whole decision_name name ≡ p → (is_join_on server o || is_trans_of server p) ≡ true → length name ≤ 10
short_end server name (Some j) p e f g = ready_ten name j e
short_end server name None (Some t) e f g = decision_ten name t f
short_end server name None None e f g = absurd cc

short_put : (server servers : ℕ) (name v : List ℕ) (c : Bool) (o : Option JoinNo) (p : Option TransId) → is_clock_note name v ≡ c → whole ready_name name ≡ o → whole decision_name name ≡ p
    → (c || (is_ready_on server servers (ready_with o (whole ready_form v)) || is_decision_of server servers (decision_with p (whole decision_form v)))) ≡ true → length name ≤ 10
short_put server servers name v true o p c e f g =
    let same : length name ≡ length clock_name = ap (λ (bs : List ℕ). length bs) (clock_alone name v c).0 in
    omega (arith, same)
short_put server servers name v false (Some j) p c e f g = ready_ten name j e
short_put server servers name v false None (Some t) c e f g = decision_ten name t f
short_put server servers name v false None None c e f g = absurd cc

-- the name of a note that changes is short
pub short_name : (server servers : ℕ) (name : List ℕ) (value : Option (List ℕ)) → is_note_change server servers name value ≡ true → length name ≤ 10
short_name server servers name None h = short_end server name (whole ready_name name) (whole decision_name name) refl refl h
short_name server servers name (Some v) h = short_put server servers name v (is_clock_note name v) (whole ready_name name) (whole decision_name name) refl refl refl h

removed_len : (name : List ℕ) (live : Notes) (b : Bool) → map.len (map.remove live name) ≡ cond b (map.len live - 1) (map.len live) → map.len (map.remove live name) ≤ map.len live + 1
removed_len name live true e = omega (arith, e)
removed_len name live false e = omega (arith, e)

inserted_len : (name v : List ℕ) (live : Notes) (b : Bool) → map.len (map.insert live name v) ≡ cond b (map.len live) (map.len live + 1) → map.len (map.insert live name v) ≤ map.len live + 1
inserted_len name v live true e = omega (arith, e)
inserted_len name v live false e = omega (arith, e)

noted_len : (name : List ℕ) (value : Option (List ℕ)) (live : Notes) → map.len (noted name value live) ≤ map.len live + 1
noted_len name None live = removed_len name live (map.contains_key live name) (len-remove nat_list_cmp_total live name)
noted_len name (Some v) live = inserted_len name v live (map.contains_key live name) (len-insert nat_list_cmp_total live name v)

-- a change adds a note at most
pub notes_len : (ns : List NoteChange) (live : Notes) → map.len (notes_after ns live) ≤ length ns + map.len live
notes_len [] live = omega arith
notes_len (n ∷ ns) live = omega (arith, notes_len ns (noted n.name n.value live), noted_len n.name n.value live)

-- ---- the log

room : (cells locks area live noted : ℕ) → live ≤ 23 → noted ≤ 19 → 6 * cells + locks + 30 ≤ area
    → (1 + (live + 511) / 512) + (1 + (4 + 516 * (4 * cells) + noted + 511) / 512) ≤ area
room cells locks area live noted a b c = omega arith

pub log_room : (server servers area locks : ℕ) (live : Notes) (change : Change) (changes : List NoteChange)
    → AreChangesSoFar server servers live changes → 6 * changed_cells change + locks + 30 ≤ area → FitsLog area live change changes
log_room server servers area locks live change changes h counts =
    room (changed_cells change) locks area (live_bytes live) (sum_by (λ n. noted_bytes n.name n.value) changes)
    (live_most server servers live h.before) (changes_most changes h.each) counts
