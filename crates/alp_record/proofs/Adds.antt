-- What adding a record leaves.
use Rattle.std.proofs.Common.{◌≡◌, ◌≢◌, inl, inr, ℕ, ◌+◌, ◌-◌, ◌<◌, ◌≤◌, ◌^◌, List, [], ◌∷◌, ◌++◌, length, drop, slice_index, refl, sym, ◌∙◌, ap, subst, arith}
use Rattle.std.proofs.lemmas.Bool.{cases_eq}
use Rattle.alp_disk.specs.Disk.{Image, page, IsImage, with_bytes, Torn}
use Rattle.alp_base.specs.Crashes.{Follows, After, Only}
use Rattle.alp_disk.specs.Gates.{IsClosed}
use Rattle.alp_disk.specs.Images.{page-with_bytes, page-with_bytes_other}
use Rattle.alp_disk.specs.Runs.{SameOutside}
use Rattle.alp_disk.proofs.GateLemmas.{overwritten_gate, opened}
use Rattle.alp_record.specs.Record.{body_pages, header, next_of, RecordAt, Stand, behind, IsEnd}
use Rattle.alp_record.specs.Adding.{Behind, Staged, Laid, Added, NotYet, Adding, OneMore, OneMoreOrNot}
use Rattle.alp_record.proofs.Headers.{header_gate}

-- the gate of another page
same_gate : (a b : Image) (q : ℕ) → page b q ≡ page a q → IsClosed (page a q) → IsClosed (page b q)
same_gate a b q same closed one = closed (ap (λ (p : List ℕ). slice_index p 0) (sym same) ∙ one)

same_end : (a b : Image) (end q : ℕ) → page b q ≡ page a q → IsEnd a end q → IsEnd b end q
same_end a b end q same (inl past) = inl past
same_end a b end q same (inr closed) = inr (same_gate a b q same closed)

-- ---- while it is laid

pub laid_stage : (at end n : ℕ) (old : Image) (left : Image → Type 0) → at + 1 + n ≤ end → IsClosed (page old at) → Only old left → (c : Image) → After (Behind at (1 + n)) left c → NotYet end at old c
laid_stage at end n old left room closed only c (d, was, step) =
    let from : Behind at (1 + n) old c = subst (λ (i : Image). Behind at (1 + n) i c) (only d was) step in
    record {
      gate = from.gate closed;
      others = record { before = from.others.before; behind = λ q high. from.others.behind q (omega (arith, high, room)) };
    }

pub laid_seal : (at end n : ℕ) (old : Image) (left mid : Image → Type 0) → at + 1 + n ≤ end → IsClosed (page old at) → Only old left → Follows (Behind at (1 + n)) left mid
    → (c : Image) → After (SameOutside (at + (1 + n)) (end - (at + (1 + n)))) mid c → NotYet end at old c
laid_seal at end n old left mid room closed only crash c (e, was, same) =
    let so_far = laid_stage at end n old left room closed only e (crash e was) in
    record {
      gate = same_gate e c at (same.before at (omega arith)) so_far.gate;
      others = record {
        before = λ q low. same.before q (omega (arith, low)) ∙ so_far.others.before q low;
        behind = λ q high. same.behind q (omega (arith, high, room)) ∙ so_far.others.behind q high;
      };
    }

pub laid_is : (generation end at : ℕ) (body : List ℕ) (old mid new : Image) → next_of at body ≤ end → NotYet end at old mid → Staged generation at body mid
    → SameOutside (at + (1 + body_pages (length body))) (end - (at + (1 + body_pages (length body)))) mid new → IsEnd new end (at + (1 + body_pages (length body))) → Laid generation end at body old new
laid_is generation end at body old mid new room so_far staged same ends = record {
  staged = record {
    head = ap (λ (p : List ℕ). drop 1 p) (same.before at (omega arith)) ∙ staged.head;
    pages = λ k low. same.before (at + 1 + k) (omega (arith, low)) ∙ staged.pages k low;
  };
  ends = subst (IsEnd new end) (omega arith) ends;
  not_yet = record {
    gate = same_gate mid new at (same.before at (omega arith)) so_far.gate;
    others = record {
      before = λ q low. same.before q (omega (arith, low)) ∙ so_far.others.before q low;
      behind = λ q high. same.behind q (omega (arith, high, room)) ∙ so_far.others.behind q high;
    };
  };
}

-- ---- while its gate opens

module _ (generation end at : ℕ) (body : List ℕ) (old mid : Image) (small : length body < 2 ^ 32) (room : next_of at body ≤ end) (laid : Laid generation end at body old mid) where
  all_others : (c : Image) → ((q : ℕ) → q ≢ at → page c q ≡ page mid q) → SameOutside at (end - at) old c
  all_others c others = record {
    before = λ q low. others q (λ e. omega (arith, low, e)) ∙ laid.not_yet.others.before q low;
    behind = λ q high. others q (λ e. omega (arith, high, room, e)) ∙ laid.not_yet.others.behind q high;
  }

  added_by : (c : Image) → ((q : ℕ) → q ≢ at → page c q ≡ page mid q) → page c at ≡ header generation (length body) → Added generation end at body old c
  added_by c others whole = record {
    stands = record { head = whole; size = small; fits = room; pages = λ k low. others (at + 1 + k) (λ e. omega (arith, e)) ∙ laid.staged.pages k low };
    ends = same_end mid c end (next_of at body) (others (next_of at body) (λ e. omega (arith, e))) laid.ends;
    others = all_others c others;
  }

  header_is : (p : List ℕ) → slice_index p 0 ≡ 165 → drop 1 p ≡ drop 1 (page mid at) → p ≡ header generation (length body)
  header_is p gate rest = opened p gate ∙ ap (λ (l : List ℕ). 165 ∷ l) (rest ∙ laid.staged.head) ∙ sym (opened (header generation (length body)) (header_gate generation (length body)))

  torn_gate : (c : Image) → Torn at 0 1 mid c → Adding generation end at body old c
  torn_gate c torn = elim (cases_eq (slice_index (page c at) 0) 165) [
    | inl one ↦ inr (added_by c torn.others (header_is (page c at) one torn.after))
    | inr closed ↦ inl (record { gate = closed; others = all_others c torn.others })
  ]

  pub gate_crash : (left : Image → Type 0) → Only mid left → (c : Image) → After (Torn at 0 1) left c → Adding generation end at body old c
  gate_crash left only c (d, was, torn) = torn_gate c (subst (λ (i : Image). Torn at 0 1 i c) (only d was) torn)

  pub gate_opened : (size : ℕ) (new : Image) → IsImage size mid → end ≤ size → new ≡ with_bytes mid at 0 (165 ∷ []) → Added generation end at body old new
  gate_opened size new is within written =
      let here : page new at ≡ 165 ∷ drop 1 (page mid at) = ap (λ (c : Image). page c at) written ∙ page-with_bytes mid at 0 (165 ∷ []) (omega (arith, is.count, within, room)) ∙ overwritten_gate (page mid at) 165 in
      added_by new (λ q ne. ap (λ (c : Image). page c q) written ∙ page-with_bytes_other mid at 0 q (165 ∷ []) ne)
      (header_is (page new at) (ap (λ (p : List ℕ). slice_index p 0) here) (ap (λ (p : List ℕ). drop 1 p) here))

-- ---- the records of the area

behind_above : (at : ℕ) (bodies : List (List ℕ)) → at ≤ behind at bodies
behind_above at [] = omega arith
behind_above at (b ∷ bs) = omega (arith, behind_above (next_of at b) bs)

pub stand_kept : (generation end at first : ℕ) (bodies : List (List ℕ)) (old c : Image) → Stand old generation end first bodies → behind first bodies ≤ at → ((q : ℕ) → q < at → page c q ≡ page old q) → Stand c generation end first bodies
stand_kept generation end at first [] old c stand below same = tt
stand_kept generation end at first (b ∷ bs) old c stand below same =
    let above = behind_above (next_of first b) bs in (
      record {
        head = same first (omega (arith, above, below)) ∙ stand.0.head;
        size = stand.0.size;
        fits = stand.0.fits;
        pages = λ k low. same (first + 1 + k) (omega (arith, above, below, low)) ∙ stand.0.pages k low;
      },
      stand_kept generation end at (next_of first b) bs old c stand.1 below same,
    )

pub stand_push : (image : Image) (generation end at : ℕ) (bodies : List (List ℕ)) (body : List ℕ) → Stand image generation end at bodies → RecordAt image generation end (behind at bodies) body → Stand image generation end at (bodies ++ body ∷ [])
stand_push image generation end at [] body stand one = (one, tt)
stand_push image generation end at (b ∷ bs) body stand one = (stand.0, stand_push image generation end (next_of at b) bs body stand.1 one)

pub behind_push : (at : ℕ) (bodies : List (List ℕ)) (body : List ℕ) → behind at (bodies ++ body ∷ []) ≡ next_of (behind at bodies) body
behind_push at [] body = refl
behind_push at (b ∷ bs) body = behind_push (next_of at b) bs body

pub one_more : (generation end at : ℕ) (body : List ℕ) (old new : Image) → Added generation end at body old new → OneMore generation end at body old new
one_more generation end at body old new added first bodies records is =
    let kept = stand_kept generation end at first bodies old new records.stand (omega (arith, is)) added.others.before in
    record {
      stand = stand_push new generation end first bodies body kept (subst (λ k. RecordAt new generation end k body) (sym is) added.stands);
      ends = subst (IsEnd new end) (ap (λ k. next_of k body) (sym is) ∙ sym (behind_push first bodies body)) added.ends;
    }

pub one_more_or_not : (generation end at : ℕ) (body : List ℕ) (old c : Image) → Adding generation end at body old c → OneMoreOrNot generation end at body old c
one_more_or_not generation end at body old c (inl not_yet) first bodies records is =
    inl (record { stand = stand_kept generation end at first bodies old c records.stand (omega (arith, is)) not_yet.others.before; ends = inr (subst (λ k. IsClosed (page c k)) (sym is) not_yet.gate) })
one_more_or_not generation end at body old c (inr added) first bodies records is = inr (one_more generation end at body old c added first bodies records is)
