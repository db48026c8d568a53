-- The log turns to its other area.
use Rattle.std.proofs.Common.{◌≡◌, inl, inr, ◌⊎◌, ℕ, ◌+◌, ◌-◌, ◌*◌, ◌<◌, ◌≤◌, List, [], ◌∷◌, slice_index, sym, ap, subst, ◌∙◌, arith}
use Rattle.std.specs.Prelude.{Result, Ok, Err, IfOk, OnOk}
use Rattle.std.proofs.lemmas.Bool.{cases_eq}
use Rattle.alp_disk.specs.Disk.{Image, page, Torn, SameBut}
use Rattle.alp_base.specs.Crashes.{Only, After}
use Rattle.alp_disk.specs.Runs.{SameOutside}
use Rattle.alp_anchor.specs.Anchor.{IsSound, Counts, after, Switching, Switched}
use Rattle.alp_anchor.specs.declared.anchor.Anchor.{Anchor}
use Rattle.alp_record.specs.declared.area.Area.{Area}
use Rattle.alp_record.specs.Record.{next_of, RecordAt, Stand, behind, IsEnd, Records}
use Rattle.alp_record.specs.Adding.{Added, Adding}
use Rattle.alp_wal.specs.Reading.{area_first, area_end, home_first}
use Rattle.alp_wal.specs.Checkpoint.{turned, SameInUse, Turned, Turning}
use Rattle.alp_wal.proofs.States.{counts_kept}

-- ---- records whose pages are the same

record_same : (generation end at : ℕ) (body : List ℕ) (old c : Image) → RecordAt old generation end at body → ((q : ℕ) → at ≤ q → q < end → page c q ≡ page old q) → RecordAt c generation end at body
record_same generation end at body old c is same = record {
  head = same at (omega arith) (omega (arith, is.fits)) ∙ is.head;
  size = is.size;
  fits = is.fits;
  pages = λ k low. same (at + 1 + k) (omega arith) (omega (arith, low, is.fits)) ∙ is.pages k low;
}

stand_same : (generation end first : ℕ) (bodies : List (List ℕ)) (old c : Image) → Stand old generation end first bodies → ((q : ℕ) → first ≤ q → q < end → page c q ≡ page old q) → Stand c generation end first bodies
stand_same generation end first [] old c stand same = tt
stand_same generation end first (b ∷ bs) old c stand same = (
  record_same generation end first b old c stand.0 same,
  stand_same generation end (next_of first b) bs old c stand.1 (λ q above low. same q (omega (arith, above)) low),
)

above_first : (at : ℕ) (bodies : List (List ℕ)) → at ≤ behind at bodies
above_first at [] = omega arith
above_first at (b ∷ bs) = omega (arith, above_first (next_of at b) bs)

end_same : (end at : ℕ) (old c : Image) → IsEnd old end at → at ≤ end → (at < end → page c at ≡ page old at) → IsEnd c end at
end_same end at old c (inl past) inside same = inl past
end_same end at old c (inr closed) inside same = elim (cases_eq at end) [
  | inl last ↦ inl (omega (arith, last))
  | inr before ↦ inr (λ one. closed (ap (λ (p : List ℕ). slice_index p 0) (sym (same (omega (arith, inside, before)))) ∙ one))
]

pub records_same : (generation end first : ℕ) (bodies : List (List ℕ)) (old c : Image) → Records old generation end first bodies → behind first bodies ≤ end → ((q : ℕ) → first ≤ q → q < end → page c q ≡ page old q) → Records c generation end first bodies
records_same generation end first bodies old c records inside same = record {
  stand = stand_same generation end first bodies old c records.stand same;
  ends = end_same end (behind first bodies) old c records.ends inside (λ low. same (behind first bodies) (above_first first bodies) low);
}

-- ---- an area is begun

pub outside_torn : (first end : ℕ) (old c : Image) → first < end → Torn first 0 1 old c → SameOutside first (end - first) old c
outside_torn first end old c room torn = record { before = λ q low. torn.others q (λ e. omega (arith, low, e)); behind = λ q high. torn.others q (λ e. omega (arith, high, room, e)) }

pub outside_but : (first end : ℕ) (old c : Image) → first < end → SameBut first old c → SameOutside first (end - first) old c
outside_but first end old c room same = record { before = λ q low. same q (λ e. omega (arith, low, e)); behind = λ q high. same q (λ e. omega (arith, high, room, e)) }

pub outside_then : (first n : ℕ) (old mid c : Image) → SameOutside first n old mid → SameOutside first n mid c → SameOutside first n old c
outside_then first n old mid c one two = record { before = λ q low. two.before q low ∙ one.before q low; behind = λ q high. two.behind q high ∙ one.behind q high }

pub adding_outside : (generation end first : ℕ) (body : List ℕ) (old mid c : Image) → SameOutside first (end - first) old mid → Adding generation end first body mid c → SameOutside first (end - first) old c
adding_outside generation end first body old mid c so_far (inl not_yet) = outside_then first (end - first) old mid c so_far not_yet.others
adding_outside generation end first body old mid c so_far (inr added) = outside_then first (end - first) old mid c so_far added.others

pub torn_outside : (first end : ℕ) (old : Image) (left : Image → Type 0) → first < end → Only old left → (c : Image) → After (Torn first 0 1) left c → SameOutside first (end - first) old c
torn_outside first end old left room only c (d, was, torn) = outside_torn first end old c room (subst (λ (i : Image). Torn first 0 1 i c) (only d was) torn)

pub only_record : (generation end first : ℕ) (body : List ℕ) (old c : Image) → Added generation end first body old c → Records c generation end first (body ∷ [])
only_record generation end first body old c added = record { stand = (added.stands, tt); ends = added.ends }

-- ---- the two areas lie apart

pub area_is : (x : Area) (first end generation : ℕ) → x.first ≡ first → x.end ≡ end → x.generation ≡ generation → ◌≡◌ {A = Area} x (record { first = first; end = end; generation = generation })
area_is x first end generation first_is end_is generation_is = λ i. record { first = first_is i; end = end_is i; generation = generation_is i }

module _ (n : ℕ) (a : Anchor) (sound : IsSound n a) where
  abbrev size : ℕ
  size = a.sizes.area

  -- the idle area lies behind the one in use, or before it
  apart : ((area_first a ≡ 2) × (area_first (turned a) ≡ 2 + size)) ⊎ ((area_first a ≡ 2 + size) × (area_first (turned a) ≡ 2))
  apart = elim (cases_eq a.area 0) [
    | inl none ↦ inl (omega (arith, ap (λ (k : ℕ). k * size) none), omega (arith, ap (λ (k : ℕ). (1 - k) * size) none))
    | inr some ↦
        let one : a.area ≡ 1 = omega (arith, sound.area, some) in
        inr (omega (arith, ap (λ (k : ℕ). k * size) one), omega (arith, ap (λ (k : ℕ). (1 - k) * size) one))
  ]

  abbrev Idle : Image → Image → Type 0
  Idle old c = SameOutside (area_first (turned a)) (area_end (turned a) - area_first (turned a)) old c

  idle_above : 2 ≤ area_first (turned a)
  idle_above = omega arith

  idle_below : area_end (turned a) ≤ home_first a
  idle_below = elim apart [
    | inl low ↦ omega (arith, low.1)
    | inr high ↦ omega (arith, high.1)
  ]

  pub idle_inside : area_end (turned a) ≤ n
  idle_inside = omega (arith, idle_below, sound.sizes.total)

  pub turned_sound : IsSound n (turned a)
  turned_sound = record { page = omega arith; area = omega arith; generation = omega arith; sizes = sound.sizes }

  pub same_in_use : (old c : Image) → Idle old c → SameInUse a old c
  same_in_use old c outside = record {
    area = λ q above low. elim apart [
      | inl is ↦ outside.before q (omega (arith, above, low, is.0, is.1))
      | inr is ↦ outside.behind q (omega (arith, above, low, is.0, is.1))
    ];
    home = λ q above. outside.behind q (omega (arith, above, idle_below));
  }

  pub counts_idle : (old c : Image) → Idle old c → Counts n old a → Counts n c a
  counts_idle old c outside counts = counts_kept n a old c (λ q low. outside.before q (omega (arith, low, idle_above))) counts

  -- ---- the switch

  module _ (body : List ℕ) (old mid : Image) (outside : Idle old mid) (records : Records mid (after a.generation) (area_end (turned a)) (area_first (turned a)) (body ∷ [])) (room : next_of (area_first (turned a)) body ≤ area_end (turned a)) where
    abbrev other : ℕ
    other = 1 - a.page

    -- the pages behind the anchors
    rest_same : (c : Image) → SameBut other mid c → (q : ℕ) → 2 ≤ q → page c q ≡ page mid q
    rest_same c same q above = same q (λ e. omega (arith, above, e))

    in_use : (c : Image) → SameBut other mid c → SameInUse a old c
    in_use c same =
        let so_far = same_in_use old mid outside in
        record {
          area = λ q above low. rest_same c same q (omega (arith, above)) ∙ so_far.area q above low;
          home = λ q above. rest_same c same q (omega (arith, above)) ∙ so_far.home q above;
        }

    turned_to : (c : Image) → Counts n c (turned a) → SameBut other mid c → Turned n a body old c
    turned_to c counts same = record {
      counts = counts;
      records = records_same (after a.generation) (area_end (turned a)) (area_first (turned a)) (body ∷ []) mid c records room (λ q above low. rest_same c same q (omega (arith, above, idle_above)));
      home = (in_use c same).home;
    }

    pub switching_turns : (left : Image → Type 0) → Only mid left → (c : Image) → Switching n a (1 - a.area) left mid c → Turning n a body old c
    switching_turns left only c (inl before) = inl (before.0, in_use c (subst (λ (d : Image). SameBut other d c) (only before.1.0 before.1.1) before.1.2))
    switching_turns left only c (inr now) = inr (turned_to c now.0 now.1)

    pub switched_turned : (left : Image → Type 0) (c : Image) → Switched n a (1 - a.area) mid c left → Turned n a body old c
    switched_turned left c switched = turned_to c switched.counts switched.others

  pub idle_turns : (body : List ℕ) (old : Image) → Counts n old a → (c : Image) → Idle old c → Turning n a body old c
  idle_turns body old counts c outside = inl (counts_idle old c outside counts, same_in_use old c outside)

-- ---- of an answer

pub ok_on : {T E : Type 0} (r : Result T E) (P : T → Type 0) (Q : Type 0) → ((x : T) → P x → Q) → IfOk r P → OnOk r Q
ok_on (Ok x) P Q implies given = implies x given
ok_on (Err e) P Q implies given = tt
