-- parts that were regained are live, each of a transaction of its own
use Rattle.std.specs.Prelude.{cond, Bool, true, false, Option, None, Some, sum_by, map as list_map}
use Rattle.std.specs.List.{AllByRecursion}
use Rattle.std.specs.FinMap as map
use Rattle.std.specs.FinMap.{get-empty, len-empty}
use Rattle.std.specs.Ordering.{eq_by_cmp}
use Rattle.std.proofs.Common.{◌≡◌, ◌⊎◌, inl, inr, ℕ, ◌+◌, ◌<◌, ◌≤◌, List, [], ◌∷◌, ◌++◌, length, length-append, append_assoc, append-nil, refl, sym, ◌∙◌, ap, subst, arith}
use Rattle.std.proofs.lemmas.List.Sums.{sum_by-cons}
use Rattle.alp_base.specs.Orders.{trans_cmp}
use Rattle.alp_base.specs.declared.faults.Sizes.{Sizes}
use Rattle.alp_base.specs.declared.ids.TransId.{TransId}
use Rattle.alp_calls.specs.Parts.{IsPart}
use Rattle.alp_files.specs.Cells.{Cells}
use Rattle.alp_journal.specs.Ids.{same_trans}
use Rattle.alp_base.specs.Notes.{Notes}
use Rattle.alp_base.specs.declared.ids.Stamp.{Stamp}
use Rattle.alp_coord.specs.Coordinators.{Finds, noted}
use Rattle.alp_coord.specs.declared.decision.Decision.{Decision}
use Rattle.alp_regain.specs.Together.{clock_before}
use Rattle.alp_locks.specs.Tables.{Table}
use Rattle.alp_worker.specs.Regained.{part_noted, joins_regained}
use Rattle.alp_worker.specs.declared.regain.ReadyPart.{ReadyPart}
use Rattle.alp_journal.specs.Opening.{ReadyNote, DecisionNote, ready_kept}
use Rattle.alp_journal.proofs.IdLemmas.{same_trans-true, same_trans-itself}
use Rattle.alp_regain.specs.Regained.{IsPartOf, ArePartsOf, AreLocksOf, IsRegained}
use Rattle.alp_regain.specs.declared.regaining.Regained.{Regained}
use Rattle.alp_regain.specs.Rooms.{HaveRoomFor}
use Rattle.alp_regain.specs.Together.{AreApart, AreTwo}
use Rattle.alp_regain.specs.declared.part.RegainedPart.{RegainedPart}
use Rattle.alp_node.specs.Found.{live_of, lives_of, AreLive, ready_of, join_of, stamp_of, joins_noted, stamps_noted, OpensWith, RestartsWith, IsMadeOf, FindsAll}
use Rattle.alp_node.specs.declared.found.Found.{Found}
use Rattle.alp_node.specs.Totals.{LiveMap, total, totals_of, AreFewTotals, HaveRoom}
use Rattle.alp_node.specs.declared.lives.Live.{Live}
use Rattle.alp_node.proofs.FoundNotes.{Has, one_trans, differ}
use Rattle.alp_node.proofs.KeptLemmas.{same_live}
use Rattle.alp_node.proofs.MapLemmas.{get_put, put_most, tied_same}
use Rattle.alp_node.proofs.TotalLemmas.{added, empty_totals, few_totals}

-- ---- which are live

-- the live part of a note
pub record IsFoundLive (tells : Bool) (m : Cells) (server epoch : ℕ) (ns : List ReadyNote) (t : TransId) (l : Live) : Type 0 where
  pub note : ReadyNote
  pub has : Has note ns
  pub trans : note.trans ≡ t
  pub part : RegainedPart
  pub of : IsPartOf tells m server epoch part note
  pub is : l ≡ live_of part

module _ (tells : Bool) (m : Cells) (server epoch : ℕ) where
  pub lives_or : (ps : List RegainedPart) (ns : List ReadyNote) → ArePartsOf tells m server epoch ps ns → (t : TransId)
      → ((map.get (lives_of ps) t ≡ None) × ((n : ReadyNote) → Has n ns → n.trans ≡ t → ⊥)) ⊎ ((l : Live) × (map.get (lives_of ps) t ≡ Some l) × IsFoundLive tells m server epoch ns t l)
  lives_or [] [] are t = inl (get-empty trans_cmp t, λ n has at. has)
  lives_or [] (n ∷ ns) are t = absurd are
  lives_or (p ∷ ps) [] are t = absurd are
  lives_or (p ∷ ps) (n ∷ ns) are t = go (same_trans t p.trans) refl (lives_or ps ns are.1 t)
    where
      put : map.get (lives_of (p ∷ ps)) t ≡ cond {A = Option Live} (same_trans t p.trans) (Some (live_of p)) (map.get (lives_of ps) t)
      put = get_put (lives_of ps) p.trans (live_of p) t

      its : n.trans ≡ p.trans
      its = sym are.0.trans

      go : (b : Bool) → same_trans t p.trans ≡ b → ((map.get (lives_of ps) t ≡ None) × ((o : ReadyNote) → Has o ns → o.trans ≡ t → ⊥)) ⊎ ((l : Live) × (map.get (lives_of ps) t ≡ Some l) × IsFoundLive tells m server epoch ns t l)
          → ((map.get (lives_of (p ∷ ps)) t ≡ None) × ((o : ReadyNote) → Has o (n ∷ ns) → o.trans ≡ t → ⊥)) ⊎ ((l : Live) × (map.get (lives_of (p ∷ ps)) t ≡ Some l) × IsFoundLive tells m server epoch (n ∷ ns) t l)
      go true e rest = inr (
        live_of p,
        put ∙ ap (λ (b : Bool). cond {A = Option Live} b (Some (live_of p)) (map.get (lives_of ps) t)) e,
        record { note = n; has = inl refl; trans = its ∙ sym (same_trans-true t p.trans e); part = p; of = are.0; is = refl },
      )
      go false e (inl none) = inl (
        put ∙ ap (λ (b : Bool). cond {A = Option Live} b (Some (live_of p)) (map.get (lives_of ps) t)) e ∙ none.0,
        λ o has at. not_it o has at,
      )
        where
          not_it : (o : ReadyNote) → Has o (n ∷ ns) → o.trans ≡ t → ⊥
          not_it o (inl is) at =
              let one : t ≡ p.trans = sym at ∙ ap (λ (x : ReadyNote). x.trans) (sym is) ∙ its in
              let wrong : true ≡ false = sym (same_trans-itself p.trans) ∙ ap (λ (u : TransId). same_trans u p.trans) (sym one) ∙ e in
              cc
          not_it o (inr has) at = none.1 o has at
      go false e (inr live) = inr (
        live.0,
        put ∙ ap (λ (b : Bool). cond {A = Option Live} b (Some (live_of p)) (map.get (lives_of ps) t)) e ∙ live.1,
        record { note = live.2.note; has = inr live.2.has; trans = live.2.trans; part = live.2.part; of = live.2.of; is = live.2.is },
      )

  -- one that is live is of a note
  pub live_note : (ps : List RegainedPart) (ns : List ReadyNote) → ArePartsOf tells m server epoch ps ns → (t : TransId) (l : Live) → map.get (lives_of ps) t ≡ Some l → IsFoundLive tells m server epoch ns t l
  live_note ps ns are t l is = go (lives_or ps ns are t)
    where
      go : ((map.get (lives_of ps) t ≡ None) × ((n : ReadyNote) → Has n ns → n.trans ≡ t → ⊥)) ⊎ ((k : Live) × (map.get (lives_of ps) t ≡ Some k) × IsFoundLive tells m server epoch ns t k) → IsFoundLive tells m server epoch ns t l
      go (inl none) = absurd (differ (map.get (lives_of ps) t) l none.0 is)
      go (inr live) = subst (IsFoundLive tells m server epoch ns t) (same_live live.0 l (sym live.1 ∙ is)) live.2

  -- and the part of each note is live
  pub note_live : (ps : List RegainedPart) (ns : List ReadyNote) → ArePartsOf tells m server epoch ps ns → AreApart ns → (n : ReadyNote) → Has n ns
      → (p : RegainedPart) × (map.get (lives_of ps) n.trans ≡ Some (live_of p)) × IsPartOf tells m server epoch p n
  note_live ps ns are apart n has = go (lives_or ps ns are n.trans)
    where
      go : ((map.get (lives_of ps) n.trans ≡ None) × ((o : ReadyNote) → Has o ns → o.trans ≡ n.trans → ⊥)) ⊎ ((k : Live) × (map.get (lives_of ps) n.trans ≡ Some k) × IsFoundLive tells m server epoch ns n.trans k)
          → (p : RegainedPart) × (map.get (lives_of ps) n.trans ≡ Some (live_of p)) × IsPartOf tells m server epoch p n
      go (inl none) = absurd (none.1 n has refl)
      go (inr live) =
          let f : IsFoundLive tells m server epoch ns n.trans live.0 = live.2 in
          (f.part, live.1 ∙ ap (λ (x : Live). Some x) f.is, subst (IsPartOf tells m server epoch f.part) (one_trans ns apart f.note n f.has has f.trans) f.of)

  -- each is new, and within the limits of a part
  none_of : (p : RegainedPart) (n : ReadyNote) (ps : List RegainedPart) (ns : List ReadyNote) → p.trans ≡ n.trans → ArePartsOf tells m server epoch ps ns → AllByRecursion (AreTwo n) ns → map.get (lives_of ps) p.trans ≡ None
  none_of p n [] [] is are two = get-empty trans_cmp p.trans
  none_of p n [] (o ∷ ns) is are two = absurd are
  none_of p n (q ∷ ps) [] is are two = absurd are
  none_of p n (q ∷ ps) (o ∷ ns) is are two =
      get_put (lives_of ps) q.trans (live_of q) p.trans ∙ ap (λ (b : Bool). cond {A = Option Live} b (Some (live_of q)) (map.get (lives_of ps) p.trans)) apart ∙ none_of p n ps ns is are.1 two.1
    where
      apart : same_trans p.trans q.trans ≡ false
      apart = sym (tied_same p.trans q.trans) ∙ (λ i. eq_by_cmp trans_cmp (is i) (are.0.trans i)) ∙ two.0.apart

  pub are_live : (ps : List RegainedPart) (ns : List ReadyNote) → ArePartsOf tells m server epoch ps ns → AreApart ns → AreLive ps
  are_live [] [] are apart = tt
  are_live [] (n ∷ ns) are apart = absurd are
  are_live (p ∷ ps) [] are apart = absurd are
  are_live (p ∷ ps) (n ∷ ns) are apart = (none_of p n ps ns are.0.trans are.1 apart.0, are.0.part, are_live ps ns are.1 apart.1)

-- ---- how many, and what they come to

pub lives_most : (ps : List RegainedPart) → map.len (lives_of ps) ≤ length ps
lives_most [] = (let none : map.len (lives_of []) ≡ 0 = len-empty trans_cmp Live in omega (arith, none))
lives_most (p ∷ ps) = (let rest : map.len (lives_of ps) ≤ length ps = lives_most ps in let one : map.len (lives_of (p ∷ ps)) ≤ map.len (lives_of ps) + 1 = put_most (lives_of ps) p.trans (live_of p) in omega (arith, rest, one))

sum_lives : (f : Live → ℕ) → total f map.empty ≡ 0 → (ps : List RegainedPart) → AreLive ps → total f (lives_of ps) ≡ sum_by (λ (p : RegainedPart). f (live_of p)) ps
sum_lives f none [] live = none
sum_lives f none (p ∷ ps) live =
    let rest : total f (lives_of ps) ≡ sum_by (λ (q : RegainedPart). f (live_of q)) ps = sum_lives f none ps live.2 in
    omega (arith, added f (lives_of ps) p.trans (live_of p) live.0, rest, sum_by-cons (λ (q : RegainedPart). f (live_of q)) p ps)

pub lives_room : (s : Sizes) (m : Cells) (ps : List RegainedPart) → AreLive ps → HaveRoomFor s m ps → HaveRoom s m (totals_of (lives_of ps))
lives_room s m ps live room = record {
  places = omega (arith, room.places, sum_lives (λ (l : Live). l.part.counts.places) (ap (λ t. t.places) empty_totals) ps live);
  files = omega (arith, room.files, sum_lives (λ (l : Live). l.part.counts.files) (ap (λ t. t.files) empty_totals) ps live);
  owners = omega (arith, room.owners, sum_lives (λ (l : Live). l.part.counts.owners) (ap (λ t. t.owners) empty_totals) ps live);
}

-- ---- one after the other, the last first

-- the rest of all are live
pub record AreTaken (all left : List RegainedPart) (m : LiveMap) : Type 0 where
  pub done : List RegainedPart
  pub split : left ++ done ≡ all
  pub is : m ≡ lives_of done
  pub live : AreLive done
  pub few : length done ≤ 64

live_behind : (xs ys : List RegainedPart) → AreLive (xs ++ ys) → AreLive ys
live_behind [] ys live = live
live_behind (x ∷ xs) ys live = live_behind xs ys live.2

pub none_taken : (all : List RegainedPart) → AreTaken all all map.empty
none_taken all = record { done = []; split = append-nil all; is = refl; live = tt; few = omega arith }

module _ (all left rest : List RegainedPart) (p : RegainedPart) (m : LiveMap) (live : AreLive all) (few : length all ≤ 64) (taken : AreTaken all left m) (pops : left ≡ rest ++ p ∷ []) where
  split_then : rest ++ p ∷ taken.done ≡ all
  split_then = sym (append_assoc rest (p ∷ []) taken.done) ∙ ap (λ (xs : List RegainedPart). xs ++ taken.done) (sym pops) ∙ taken.split

  live_then : AreLive (p ∷ taken.done)
  live_then = live_behind rest (p ∷ taken.done) (subst AreLive (sym split_then) live)

  pub taken_new : map.get m p.trans ≡ None
  taken_new = ap (λ (x : LiveMap). map.get x p.trans) taken.is ∙ live_then.0

  pub taken_part : (p.part.counts.places ≤ 32768) × (p.part.counts.files ≤ 32768) × (p.part.counts.owners ≤ 32768)
  taken_part = (let is : IsPart p.part = live_then.1 in (omega (arith, is.few.places, is.most), omega (arith, is.few.files, is.most), omega (arith, is.few.owners, is.most)))

  pub taken_few : AreFewTotals (totals_of m)
  taken_few = subst (λ (x : LiveMap). AreFewTotals (totals_of x)) (sym taken.is) (few_totals (lives_of taken.done) (let most : map.len (lives_of taken.done) ≤ length taken.done = lives_most taken.done in omega (arith, most, taken.few)) (λ t l is. part_of taken.done taken.live t l is))
    where
      part_of : (ps : List RegainedPart) → AreLive ps → (t : TransId) (l : Live) → map.get (lives_of ps) t ≡ Some l → IsPart l.part
      part_of [] lives t l is = absurd (differ (map.get (lives_of []) t) l (get-empty trans_cmp t) is)
      part_of (q ∷ ps) lives t l is = go (same_trans t q.trans) (sym (get_put (lives_of ps) q.trans (live_of q) t) ∙ is) (λ at. part_of ps lives.2 t l at)
        where
          go : (b : Bool) → cond {A = Option Live} b (Some (live_of q)) (map.get (lives_of ps) t) ≡ Some l → (map.get (lives_of ps) t ≡ Some l → IsPart l.part) → IsPart l.part
          go true at behind = subst (λ (x : Live). IsPart x.part) (same_live (live_of q) l at) lives.1
          go false at behind = behind at

  pub taken_on : AreTaken all rest (map.insert m p.trans (live_of p))
  taken_on = record {
    done = p ∷ taken.done;
    split = split_then;
    is = ap (λ (x : LiveMap). map.insert x p.trans (live_of p)) taken.is;
    live = live_then;
    few = omega (arith, few, ap (λ (xs : List RegainedPart). length xs) split_then, length-append rest (p ∷ taken.done));
  }

pub all_taken : (all : List RegainedPart) (m : LiveMap) → AreTaken all [] m → m ≡ lives_of all
all_taken all m taken = taken.is ∙ ap lives_of taken.split

pub emptied : {A : Type 0} (xs : List A) (n : ℕ) → n ≡ length xs → (0 < n → ⊥) → xs ≡ []
emptied [] n is none = refl
emptied (x ∷ xs) n is none = absurd (none (omega (arith, is)))

-- ---- what was found

module _ (tells : Bool) (m : Cells) (server epoch : ℕ) where
  ready_listed : (ps : List RegainedPart) (ns : List ReadyNote) → ArePartsOf tells m server epoch ps ns → list_map ready_of ps ≡ list_map part_noted ns
  ready_listed [] [] are = refl
  ready_listed [] (n ∷ ns) are = absurd are
  ready_listed (p ∷ ps) [] are = absurd are
  ready_listed (p ∷ ps) (n ∷ ns) are = λ i. record { join = are.0.join i; trans = are.0.trans i; client = are.0.client i; ts = are.0.ts i } ∷ ready_listed ps ns are.1 i

  joins_listed : (ps : List RegainedPart) (ns : List ReadyNote) → ArePartsOf tells m server epoch ps ns → list_map join_of ps ≡ joins_noted ns
  joins_listed [] [] are = refl
  joins_listed [] (n ∷ ns) are = absurd are
  joins_listed (p ∷ ps) [] are = absurd are
  joins_listed (p ∷ ps) (n ∷ ns) are = λ i. are.0.join i ∷ joins_listed ps ns are.1 i

stamps_listed : (ds : List Decision) → list_map stamp_of ds ≡ stamps_noted (list_map noted ds)
stamps_listed [] = refl
stamps_listed (d ∷ ds) = ap (λ (xs : List Stamp). d.stamp ∷ xs) (stamps_listed ds)

pub finds_all : (tells : Bool) (m : Cells) (server epoch : ℕ) (notes : Notes) (r : Regained) (f : Found) → IsRegained tells m server epoch r notes → IsMadeOf server epoch r f → FindsAll tells m server epoch notes f
finds_all tells m server epoch notes r f is made =
    let ps : list_map ready_of r.parts.items ≡ list_map part_noted (ready_kept notes) = ready_listed tells m server (clock_before epoch notes).epoch r.parts.items (ready_kept notes) is.parts in
    record {
      found = record {
        parts = r.parts.items;
        of = is.parts;
        lives = made.lives;
        locks = subst (λ (t : Table). AreLocksOf t (ready_kept notes)) (sym made.locks) is.locks;
        joins = made.joins ∙ ap (joins_regained server epoch) ps;
        opens = subst (λ (xs : List ReadyPart). OpensWith server epoch xs f.joins) ps made.opens;
        restarts = subst (λ (xs : List ReadyPart). RestartsWith server epoch xs f.joins) ps made.restarts;
        run = made.run;
        finds = subst (λ (ds : List DecisionNote). Finds ds f.coordinator) is.decisions made.finds;
      };
      ready = made.ready ∙ joins_listed tells m server (clock_before epoch notes).epoch r.parts.items (ready_kept notes) is.parts;
      decided = made.decided ∙ stamps_listed r.decisions.items ∙ ap stamps_noted is.decisions;
    }
