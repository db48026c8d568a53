-- What a commit leaves, at each moment and at the end.
use Rattle.std.proofs.Common.{◌≡◌, inl, inr, ◌⊎◌, ⊎_elim, ◌≤◌, ◌-◌, ℕ, Bool, true, false, List, [], ◌∷◌, ◌++◌, length, refl, sym, ap, subst, ◌∙◌, arith}
use Rattle.std.specs.Prelude.{Result, Ok, Err, OnErr}
use Rattle.std.specs.List.{AllByRecursion}
use Rattle.alp_disk.specs.Disk.{Image, page}
use Rattle.alp_base.specs.Crashes.{Only, NoMore, Adds, LeavesOnly}
use Rattle.alp_disk.specs.Gates.{IsClosed}
use Rattle.alp_disk.specs.Runs.{SameOutside}
use Rattle.alp_disk.proofs.Moments.{adds_weaker, adds_more}
use Rattle.alp_anchor.specs.Anchor.{IsSound}
use Rattle.alp_anchor.specs.declared.anchor.Anchor.{Anchor}
use Rattle.alp_batch.specs.declared.batch.Batch.{Batch}
use Rattle.alp_record.specs.Record.{behind}
use Rattle.alp_record.specs.Adding.{Added, NotYet, Adding}
use Rattle.alp_record.proofs.Adds.{one_more, stand_kept}
use Rattle.alp_base.specs.Notes.{Notes, notes_after}
use Rattle.alp_notes.specs.Held.{Held}
use Rattle.alp_wal.specs.State.{State, applied, IsBelow}
use Rattle.alp_wal.specs.Live.{notes_pages, AreLive}
use Rattle.alp_wal.specs.Reading.{Applies, Leads, area_first, area_end, home_pages, bare, ReadsBy}
use Rattle.alp_wal.specs.Home.{Index}
use Rattle.alp_wal.specs.Wal.{shown, indexed, no_index, Logs, anchor_of, index_of, notes_of, held_notes, end_of, state_of, IsLog, IsSameVolume, IsKnown, BeforeOrAfter}
use Rattle.alp_wal.specs.declared.wal.Wal.{Wal}
use Rattle.alp_wal.proofs.States.{shown_indexed, leads_push, bare_kept, counts_kept}

module _ (n : ℕ) (a : Anchor) (old : Image) (at : ℕ) (sound : IsSound n a) (begun : area_first a ≤ at) (inside : at ≤ area_end a) where
  pub state_after : (new : Image) (index : Index) (notes : Notes) (b : Batch) → SameOutside at (area_end a - at) old new → AllByRecursion (IsBelow (length index)) b.images
      → ◌≡◌ {A = State} (record { pages = shown (home_pages new a) (indexed index b.images); notes = notes_after b.notes notes }) (applied (record { pages = shown (home_pages old a) index; notes = notes }) b)
  state_after new index notes b others below =
      let home : home_pages new a ≡ home_pages old a = ap (λ (s : State). s.pages) (bare_kept n a old new at sound others inside) in
      let pages = ap (λ (l : Image). shown l (indexed index b.images)) home ∙ shown_indexed (home_pages old a) index b.images below in
      λ i. record { pages = pages i; notes = notes_after b.notes notes }

  module _ (state : State) (bodies : List (List ℕ)) (ends : behind (area_first a) bodies ≡ at) (by : ReadsBy n old a bodies state) where
    pub reads_before : (c : Image) → NotYet (area_end a) at old c → ReadsBy n c a bodies state
    reads_before c not_yet = record {
      counts = counts_kept n a old c (λ q low. not_yet.others.before q (omega (arith, low, begun))) by.counts;
      records = record {
        stand = stand_kept a.generation (area_end a) at (area_first a) bodies old c by.records.stand (omega (arith, ends)) not_yet.others.before;
        ends = inr (subst (λ k. IsClosed (page c k)) (sym ends) not_yet.gate);
      };
      leads = subst (λ (s : State). Leads a.sizes.home s bodies state) (sym (bare_kept n a old c at sound not_yet.others inside)) by.leads;
    }

    module _ (body : List ℕ) (b : Batch) (applies : Applies a.sizes.home state body b) where
      pub reads_after : (c : Image) → Added a.generation (area_end a) at body old c → ReadsBy n c a (bodies ++ body ∷ []) (applied state b)
      reads_after c added = record {
        counts = counts_kept n a old c (λ q low. added.others.before q (omega (arith, low, begun))) by.counts;
        records = one_more a.generation (area_end a) at body old c added (area_first a) bodies by.records ends;
        leads = subst (λ (s : State). Leads a.sizes.home s (bodies ++ body ∷ []) (applied state b)) (sym (bare_kept n a old c at sound added.others inside)) (leads_push a.sizes.home (bare old a) state bodies body b by.leads applies);
      }

      pub crash_leaves : (c : Image) → Adding a.generation (area_end a) at body old c → BeforeOrAfter a.server a.servers n state b c
      crash_leaves c (inl not_yet) = inl (record { anchor = a; bodies = bodies; server_is = refl; servers_is = refl; by = reads_before c not_yet })
      crash_leaves c (inr added) = inr (record { anchor = a; bodies = bodies ++ body ∷ []; server_is = refl; servers_is = refl; by = reads_after c added })

-- a crash before anything was written
pub crash_before : (n : ℕ) (a : Anchor) (image : Image) (bodies : List (List ℕ)) (state : State) (b : Batch) (left : Image → Type 0) → ReadsBy n image a bodies state → Only image left → (c : Image) → left c → BeforeOrAfter a.server a.servers n state b c
crash_before n a image bodies state b left by only c was =
    subst (λ (x : Image). BeforeOrAfter a.server a.servers n state b x) (sym (only c was)) (inl (record { anchor = a; bodies = bodies; server_is = refl; servers_is = refl; by = by }))

-- the reading of a log that is seen in another way
pub reads_by_of : {n m : ℕ} {x y : Image} {a b : Anchor} {s t : State} (bodies : List (List ℕ)) → n ≡ m → x ≡ y → a ≡ b → s ≡ t → ReadsBy n x a bodies s → ReadsBy m y b bodies t
reads_by_of {n} {m} {x} {y} {a} {b} {s} {t} bodies size image anchor state by =
    let parts : ◌≡◌ {A = ℕ × (Image × (Anchor × State))} (n, (x, (a, s))) (m, (y, (b, t))) = λ k. (size k, (image k, (anchor k, state k))) in
    subst (λ (r : ℕ × (Image × (Anchor × State))). ReadsBy r.0 r.1.0 r.1.1.0 bodies r.1.1.1) parts by

-- a log whose disk reads the same, and leaves no more
pub known_kept : {D : Type 0} {n m : ℕ} {x y : Image} {f g : Image → Type 0} {v w : Wal D} → n ≡ m → x ≡ y → NoMore f g → anchor_of v ≡ anchor_of w → index_of v ≡ index_of w → notes_of v ≡ notes_of w → end_of v ≡ end_of w
    → IsKnown n x f v → IsKnown m y g w
known_kept {D} {n} {m} {x} {y} {f} {g} {v} {w} size image no_more anchor index notes end known =
    let shows : ◌≡◌ {A = State} (state_of v x) (state_of w y) = λ i. record { pages = shown (home_pages (image i) (anchor i)) (index i); notes = notes i } in
    record {
      bodies = known.bodies;
      ends = ap (λ (a : Anchor). behind (area_first a) known.bodies) (sym anchor) ∙ known.ends ∙ end;
      by = reads_by_of known.bodies size image anchor shows known.by;
      logged = subst (λ (t : Anchor × Index). Logs (no_index t.0.sizes.home) known.bodies t.1) (λ k. (anchor k, index k)) known.logged;
      durable = λ c left. known.durable c (no_more c left) ∙ image;
    }

-- ---- one call behind the other

pub leaves_weaker : {D : Type 0} (left_since : D → D → Image → Type 0) (old new : D) (P Q : Image → Type 0) → LeavesOnly left_since old new P → ((c : Image) → P c → Q c) → LeavesOnly left_since old new Q
leaves_weaker left_since old new P Q leaves here = record { within = λ c left. here c (leaves.within c left); adds = adds_weaker left_since old new P Q leaves.adds here }

pub leaves_then : {D : Type 0} (left_since : D → D → Image → Type 0) (old mid new : D) (P Q R : Image → Type 0) → LeavesOnly left_since old mid P → LeavesOnly left_since mid new Q → ((c : Image) → P c → R c) → ((c : Image) → Q c → R c) → LeavesOnly left_since old new R
leaves_then left_since old mid new P Q R one two before after = record {
  within = λ c left. ⊎_elim (λ was. before c (one.within c was)) (λ now. after c now) (two.adds.each old c left);
  adds = adds_more left_since old mid new R Q (adds_weaker left_since old mid P R one.adds before) two.adds after;
}

-- the same of a log that is seen in another way
pub before_or_after_as : {a b : Anchor} {n m : ℕ} {s t : State} {p q : Batch} (c : Image) → IsSameVolume b a → n ≡ m → s ≡ t → p ≡ q → BeforeOrAfter a.server a.servers n s p c → BeforeOrAfter b.server b.servers m t q c
before_or_after_as {a} {b} {n} {m} {s} {t} {p} {q} c same size state batch is =
    let parts : ◌≡◌ {A = ℕ × (ℕ × (ℕ × (State × Batch)))} (a.server, (a.servers, (n, (s, p)))) (b.server, (b.servers, (m, (t, q)))) = λ i. (same.server i, (same.servers i, (size i, (state i, batch i)))) in
    subst (λ (r : ℕ × (ℕ × (ℕ × (State × Batch)))). BeforeOrAfter r.0 r.1.0 r.1.1.0 r.1.1.1.0 r.1.1.1.1 c) parts is

pub log_kept : {D : Type 0} {n m : ℕ} {v w : Wal D} → n ≡ m → anchor_of v ≡ anchor_of w → index_of v ≡ index_of w → held_notes v ≡ held_notes w → end_of v ≡ end_of w → IsLog n v → IsLog m w
log_kept {D} {n} {m} {v} {w} size anchor index notes end log = record {
  anchor = subst (λ (t : ℕ × Anchor). IsSound t.0 t.1) (λ i. (size i, anchor i)) log.anchor;
  index = sym (ap length index) ∙ log.index ∙ ap (λ (a : Anchor). a.sizes.home) anchor;
  notes = subst (λ (h : Held). AreLive h.notes) notes log.notes;
  fits = subst (λ (t : Held × Anchor). notes_pages t.0.notes ≤ t.1.sizes.area) (λ i. (notes i, anchor i)) log.fits;
  begun = subst (λ (t : Anchor × ℕ). area_first t.0 ≤ t.1) (λ i. (anchor i, end i)) log.begun;
  inside = subst (λ (t : Anchor × ℕ). t.1 ≤ area_end t.0) (λ i. (anchor i, end i)) log.inside;
}

pub on_err_both : {T E : Type 0} (r : Result T E) (P Q R : Type 0) → (P → Q → R) → OnErr r P → OnErr r Q → OnErr r R
on_err_both (Ok x) P Q R both p q = tt
on_err_both (Err e) P Q R both p q = both p q

pub not_both : {b : Bool} → b ≡ true → b ≡ false → ⊥
not_both is isnt = let no : true ≡ false = sym is ∙ isnt in cc

pub same_volume : (a b : Anchor) → b ≡ a → IsSameVolume a b
same_volume a b same = record { server = ap (λ (x : Anchor). x.server) same; servers = ap (λ (x : Anchor). x.servers) same; sizes = ap (λ (x : Anchor). x.sizes) same }

pub on_err : {T E : Type 0} (r : Result T E) (P Q : Type 0) → (P → Q) → OnErr r P → OnErr r Q
on_err (Ok x) P Q f p = tt
on_err (Err e) P Q f p = f p

-- ---- what a disk shows behind a halt

-- it is what a crash at some moment might have left
pub shown_at_last : {D : Type 0} (left_since : D → D → Image → Type 0) (old new : D) (image seen : Image) (P : Image → Type 0) → Adds left_since old new P → ((c : Image) → left_since old old c → c ≡ image) → left_since old new seen → (seen ≡ image) ⊎ P seen
shown_at_last left_since old new image seen P adds start now = ⊎_elim (λ was. inl (start seen was)) (λ is. inr is) (adds.each old seen now)

pub adding_others : (generation end at : ℕ) (body : List ℕ) (old c : Image) → (c ≡ old) ⊎ Adding generation end at body old c → SameOutside at (end - at) old c
adding_others generation end at body old c (inl same) = record { before = λ q low. ap (λ (x : Image). page x q) same; behind = λ q high. ap (λ (x : Image). page x q) same }
adding_others generation end at body old c (inr (inl not_yet)) = not_yet.others
adding_others generation end at body old c (inr (inr added)) = added.others
