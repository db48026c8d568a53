-- one ready part after the other becomes live
use Rattle.std.specs.Prelude.{All, cond, Bool, true, false, ◌&&◌, ◌||◌, ◌==◌, Option, None, Some, is_some, unwrap_or, nat_le, IsTrue, map as list_map}
use Rattle.std.specs.List.{list_all, list_any, AllByRecursion}
use Rattle.std.specs.FinMap as map
use Rattle.std.specs.FinMap.{get-empty, get-insert}
use Rattle.std.specs.Ordering.{eq_by_cmp, is_eq}
use Rattle.std.specs.Cmp.{eq_by_cmp_equiv, tied_itself}
use Rattle.std.proofs.Common.{◌≡◌, ℕ, ◌≤◌, List, [], ◌∷◌, ◌++◌, append_assoc, append-nil, length, length-append, refl, sym, ◌∙◌, ap, subst, arith, eq-eqb}
use Rattle.std.proofs.lemmas.List.Elements.{recursion_from_All}
use Rattle.std.proofs.lemmas.Map.Views.{tells_apart}
use Rattle.std.proofs.lemmas.List.Folds.{list_any-append}
use Rattle.alp_base.specs.Orders.{trans_cmp, resource_cmp, transactions_total, exact_transactions}
use Rattle.alp_base.specs.declared.cell.Cell.{Cell}
use Rattle.alp_base.specs.declared.change.Change.{Change}
use Rattle.alp_base.specs.declared.ids.FileId.{FileId}
use Rattle.alp_base.specs.declared.ids.JoinNo.{JoinNo}
use Rattle.alp_base.specs.declared.ids.TransId.{TransId}
use Rattle.alp_fields.specs.declared.ready_note.ReadyPart.{ReadyPart}
use Rattle.alp_vault.specs.Volumes.{changed_cells}
use Rattle.std.proofs.lemmas.Bool.{eqb-true}
use Rattle.std.proofs.lemmas.List.{length-map}
use Rattle.alp_base.specs.declared.key.Key.{Key}
use Rattle.alp_base.specs.declared.key.Resource.{Resource}
use Rattle.alp_modes.specs.declared.Mode.{Mode}
use Rattle.alp_files.specs.Act.{no_opens}
use Rattle.alp_files.specs.Cells.{Cells}
use Rattle.alp_files.specs.Locks.{Need}
use Rattle.alp_files.specs.Apart.{IsSized}
use Rattle.alp_files.specs.Changes.{edits_of}
use Rattle.alp_files.specs.Edits.{Edit, Drop, Cut, Put}
use Rattle.alp_files.specs.Undo.{puts_of}
use Rattle.alp_files.specs.Holdings.{Holding, agree_held, join_held, held_by, DoAgree}
use Rattle.alp_files.proofs.HoldingLemmas.{agree-turned}
use Rattle.alp_files.specs.Needs.{Intents, intents_of, changed, changed_by}
use Rattle.alp_trans.specs.Counting.{AreCountsOf}
use Rattle.alp_trans.specs.Parts.{own_of}
use Rattle.alp_trans.specs.declared.part.Part.{Part}
use Rattle.alp_calls.specs.Parts.{IsPart, AllFit}
use Rattle.alp_queue.specs.Rises.{Held}
use Rattle.alp_locks.specs.Asks.{joined, with_regained}
use Rattle.alp_locks.specs.Sound.{IsSound}
use Rattle.alp_locks.specs.Tables.{Table, held_of, holding}
use Rattle.alp_locks.proofs.LawLemmas.{joined-holds}
use Rattle.alp_journal.specs.Counts.{with_resources}
use Rattle.alp_journal.specs.Opening.{ReadyNote}
use Rattle.alp_regain.specs.Named.{is_beside_intention, is_covered}
use Rattle.alp_regain.specs.Lives.{is_plain, IsSoFar}
use Rattle.alp_regain.specs.Notes.{part_note}
use Rattle.alp_regain.specs.Together.{IsPartNote, IsNamedOnce, AreTwo, AreApart, AreGoodLocks}
use Rattle.alp_regain.specs.Regained.{PutsAreSized, IsPartOf, ArePartsOf, has_note_of, HoldsNoted, IsKnownTo, AreLocksOf}
use Rattle.alp_regain.specs.declared.part.RegainedPart.{RegainedPart}
use Rattle.alp_regain.specs.declared.parts.Lives.{Lives}
use Rattle.alp_regain.proofs.ListLemmas.{both, neither, at_middle, pushed}
use Rattle.alp_regain.proofs.LockLemmas.{counted, are_intended, are_within}

-- ---- transactions by their ids

same_trans_id : (t u : TransId) → eq_by_cmp trans_cmp t u ≡ true → t ≡ u
same_trans_id t u e = tells_apart exact_transactions t u e

itself : (t : TransId) → eq_by_cmp trans_cmp t t ≡ true
itself t = ap is_eq (tied_itself transactions_total t)

turned : (t u : TransId) → eq_by_cmp trans_cmp t u ≡ eq_by_cmp trans_cmp u t
turned t u = (eq_by_cmp_equiv transactions_total).symm t u

or_none : {a b : Bool} → (a || b) ≡ false → (a ≡ false) × (b ≡ false)
or_none {a = true} h = cc
or_none {a = false} h = (refl, h)

-- ---- notes that keep apart

pub apart_pushed : (ns : List ReadyNote) (n : ReadyNote) → AreApart ns → AllByRecursion (λ o. AreTwo o n) ns → AreApart (ns ++ n ∷ [])
apart_pushed [] n apart two = (tt, tt)
apart_pushed (o ∷ ns) n apart two = (pushed (AreTwo o) ns n apart.0 two.0, apart_pushed ns n apart.1 two.1)

pub apart_before : (done : List ReadyNote) (n : ReadyNote) (rest : List ReadyNote) → AreApart (done ++ n ∷ rest) → AllByRecursion (λ o. AreTwo o n) done
apart_before [] n rest apart = tt
apart_before (o ∷ done) n rest apart = (at_middle (AreTwo o) done n rest apart.0, apart_before done n rest apart.1)

pub not_twice : (done : List ReadyNote) (n : ReadyNote) → has_note_of n.trans done ≡ true → AllByRecursion (λ o. AreTwo o n) done → ⊥
not_twice [] n has two = cc
not_twice (o ∷ done) n has two = go (eq_by_cmp trans_cmp n.trans o.trans) refl has (λ h. not_twice done n h two.1)
  where
    go : (b : Bool) → eq_by_cmp trans_cmp n.trans o.trans ≡ b → (b || has_note_of n.trans done) ≡ true → (has_note_of n.trans done ≡ true → ⊥) → ⊥
    go true same h rest = let wrong : true ≡ false = sym same ∙ turned n.trans o.trans ∙ two.0.apart in cc
    go false other h rest = rest h

-- ---- parts and their notes

module _ (tells : Bool) (m : Cells) (server epoch : ℕ) where
  pub parts_pushed : (ps : List RegainedPart) (ns : List ReadyNote) (p : RegainedPart) (n : ReadyNote) → ArePartsOf tells m server epoch ps ns → IsPartOf tells m server epoch p n
      → ArePartsOf tells m server epoch (ps ++ p ∷ []) (ns ++ n ∷ [])
  parts_pushed [] [] p n are is = (is, tt)
  parts_pushed [] (o ∷ ns) p n are is = absurd are
  parts_pushed (q ∷ ps) [] p n are is = absurd are
  parts_pushed (q ∷ ps) (o ∷ ns) p n are is = (are.0, parts_pushed ps ns p n are.1 is)

  pub same_has : (ps : List RegainedPart) (ns : List ReadyNote) (t : TransId) → ArePartsOf tells m server epoch ps ns
      → list_any (λ (p : RegainedPart). eq_by_cmp trans_cmp t p.trans) ps ≡ has_note_of t ns
  same_has [] [] t are = refl
  same_has [] (o ∷ ns) t are = absurd are
  same_has (q ∷ ps) [] t are = absurd are
  same_has (q ∷ ps) (o ∷ ns) t are = λ i. eq_by_cmp trans_cmp t (are.0.trans i) || same_has ps ns t are.1 i

-- ---- the table of their locks

-- a transaction that held nothing has just the locks of a list then
module _ (t : Table) (u : TransId) (ns : List Need) (unknown : map.get t.held u ≡ None) where
  pub all_held : held_of (with_regained t u ns None).held u ≡ joined map.empty ns
  all_held =
      ap (λ (o : Option Held). unwrap_or o map.empty)
      (get-insert transactions_total t.held u (joined (held_of t.held u) ns) u ∙ ap (λ (b : Bool). cond b (Some (joined (held_of t.held u) ns)) (map.get t.held u)) (itself u))
      ∙ ap (λ (o : Option Held). joined (unwrap_or o map.empty) ns) unknown

  pub own_holds : (r : Resource) → holding (with_regained t u ns None).held u r ≡ held_by ns r
  own_holds r =
      ap (λ (h : Held). map.get h r) all_held ∙ joined-holds ns map.empty r
      ∙ ap (λ (o : Option Mode). join_held o (held_by ns r)) (get-empty resource_cmp r)

  pub own_holding : holding (with_regained t u ns None).held u ≡ held_by ns
  own_holding = λ i r. own_holds r i

  -- and each resource once
  pub counted_in : (after : Table) → after ≡ with_regained t u ns None → length (map.entries (held_of after.held u)) ≡ length (with_resources ns [])
  counted_in after is = ap (λ (x : Table). length (map.entries (held_of x.held u))) is ∙ ap (λ (h : Held). length (map.entries h)) all_held ∙ counted ns

-- what is judged by a table is judged by the list
pub good_held : (held : Holding) (ns : List Need) (es : List Edit) → held ≡ held_by ns
    → (list_all (λ l. is_beside_intention held l.0 l.1) ns && list_all (is_covered held) es) ≡ (list_all (λ l. is_beside_intention (held_by ns) l.0 l.1) ns && list_all (is_covered (held_by ns)) es)
good_held held ns es same = ap (λ (h : Holding). list_all (λ l. is_beside_intention h l.0 l.1) ns && list_all (is_covered h) es) same

module _ (t : Table) (done : List ReadyNote) (n : ReadyNote) (locks : AreLocksOf t done) where
  -- what another transaction holds stays
  other_holds : (u : TransId) (r : Resource) → eq_by_cmp trans_cmp u n.trans ≡ false → holding (with_regained t n.trans n.locks None).held u r ≡ holding t.held u r
  other_holds u r other =
      ap (λ (o : Option Held). map.get (unwrap_or o map.empty) r)
      (get-insert transactions_total t.held n.trans (joined (held_of t.held n.trans) n.locks) u ∙ ap (λ (b : Bool). cond b (Some (joined (held_of t.held n.trans) n.locks)) (map.get t.held u)) other)

  others_hold : (os : List ReadyNote) → has_note_of n.trans os ≡ false → AllByRecursion (HoldsNoted t) os → AllByRecursion (HoldsNoted (with_regained t n.trans n.locks None)) os
  others_hold [] new held = tt
  others_hold (o ∷ os) new held =
      (λ r. other_holds o.trans r (turned o.trans n.trans ∙ (or_none new).0) ∙ held.0 r, others_hold os (or_none new).1 held.1)

  -- whoever was known still is
  known_still : (u : TransId) → is_some (map.get t.held u) ≡ true → is_some (map.get (with_regained t n.trans n.locks None).held u) ≡ true
  known_still u known = ap (λ (o : Option Held). is_some o) (get-insert transactions_total t.held n.trans (joined (held_of t.held n.trans) n.locks) u) ∙ go (eq_by_cmp trans_cmp u n.trans)
    where
      go : (b : Bool) → is_some (cond b (Some (joined (held_of t.held n.trans) n.locks)) (map.get t.held u)) ≡ true
      go true = refl
      go false = known

  others_known : (os : List ReadyNote) → AllByRecursion (IsKnownTo t) os → AllByRecursion (IsKnownTo (with_regained t n.trans n.locks None)) os
  others_known [] known = tt
  others_known (o ∷ os) known = (known_still o.trans known.0, others_known os known.1)

  own_known : is_some (map.get (with_regained t n.trans n.locks None).held n.trans) ≡ true
  own_known =
      ap (λ (o : Option Held). is_some o)
      (get-insert transactions_total t.held n.trans (joined (held_of t.held n.trans) n.locks) n.trans
      ∙ ap (λ (b : Bool). cond b (Some (joined (held_of t.held n.trans) n.locks)) (map.get t.held n.trans)) (itself n.trans))

  module _ (new : has_note_of n.trans done ≡ false) where
    pub locks_pushed : IsSound (with_regained t n.trans n.locks None) → AreLocksOf (with_regained t n.trans n.locks None) (done ++ n ∷ [])
    locks_pushed sound = record {
      sound = sound;
      waiting = locks.waiting;
      woken = locks.woken;
      held = pushed (HoldsNoted (with_regained t n.trans n.locks None)) done n (others_hold done new locks.held) (own_holds t n.trans n.locks (locks.others n.trans new));
      known = pushed (IsKnownTo (with_regained t n.trans n.locks None)) done n (others_known done locks.known) own_known;
      others = λ u none.
          let apart = or_none (sym (list_any-append (λ (o : ReadyNote). eq_by_cmp trans_cmp u o.trans) done (n ∷ [])) ∙ none) in
          get-insert transactions_total t.held n.trans (joined (held_of t.held n.trans) n.locks) u
          ∙ ap (λ (b : Bool). cond b (Some (joined (held_of t.held n.trans) n.locks)) (map.get t.held u)) (or_none apart.1).0
          ∙ locks.others u apart.0;
    }

    -- its locks agree with those of each transaction that is known, so they agree with those of each note
    pub agree_each : ((u : TransId) → eq_by_cmp trans_cmp n.trans u ≡ false → DoAgree (held_by n.locks) (holding t.held u)) → AllByRecursion (λ o. AreTwo o n) done
    agree_each agree = walk done new locks.held
      where
        walk : (os : List ReadyNote) → has_note_of n.trans os ≡ false → AllByRecursion (HoldsNoted t) os → AllByRecursion (λ o. AreTwo o n) os
        walk [] none held = tt
        walk (o ∷ os) none held = (
          record {
            apart = turned o.trans n.trans ∙ (or_none none).0;
            agree = λ r.
                agree-turned (held_by o.locks r) (held_by n.locks r) ∙ ap (λ (x : Option Mode). agree_held (held_by n.locks r) x) (sym (held.0 r)) ∙ agree o.trans (or_none none).0 r;
          },
          walk os (or_none none).1 held.1,
        )

  -- and the other way round
  pub agree_known : AllByRecursion (λ o. AreTwo o n) done → (u : TransId) → eq_by_cmp trans_cmp n.trans u ≡ false → DoAgree (held_by n.locks) (holding t.held u)
  agree_known two u other r = go (has_note_of u done) refl
    where
      free : (x : Option Mode) → agree_held x None ≡ true
      free None = refl
      free (Some a) = refl

      walk : (os : List ReadyNote) → has_note_of u os ≡ true → AllByRecursion (HoldsNoted t) os → AllByRecursion (λ o. AreTwo o n) os → agree_held (held_by n.locks r) (holding t.held u r) ≡ true
      walk [] has held each = cc
      walk (o ∷ os) has held each = here (eq_by_cmp trans_cmp u o.trans) refl has (λ h. walk os h held.1 each.1)
        where
          here : (b : Bool) → eq_by_cmp trans_cmp u o.trans ≡ b → (b || has_note_of u os) ≡ true → (has_note_of u os ≡ true → agree_held (held_by n.locks r) (holding t.held u r) ≡ true)
              → agree_held (held_by n.locks r) (holding t.held u r) ≡ true
          here true same h rest =
              ap (λ (x : TransId). agree_held (held_by n.locks r) (holding t.held x r)) (same_trans_id u o.trans same) ∙ ap (agree_held (held_by n.locks r)) (held.0 r)
              ∙ agree-turned (held_by n.locks r) (held_by o.locks r) ∙ each.0.agree r
          here false apart h rest = rest h

      go : (b : Bool) → has_note_of u done ≡ b → agree_held (held_by n.locks r) (holding t.held u r) ≡ true
      go true known = walk done known locks.held two
      go false unknown =
          ap (λ (o : Option Held). agree_held (held_by n.locks r) (map.get (unwrap_or o map.empty) r)) (locks.others u unknown)
          ∙ ap (agree_held (held_by n.locks r)) (get-empty resource_cmp r) ∙ free (held_by n.locks r)

-- ---- one part with its note

puts_sized : (puts : List (Key × Cell)) → AllByRecursion (λ (e : Key × Cell). IsSized e.1) puts → PutsAreSized (puts_of puts)
puts_sized [] all = tt
puts_sized (p ∷ puts) all = (all.0, puts_sized puts all.1)

cuts_sized : (cuts : List (FileId × ℕ)) (es : List Edit) → PutsAreSized es → PutsAreSized (list_map (λ (x : FileId × ℕ). Cut x.0 x.1) cuts ++ es)
cuts_sized [] es all = all
cuts_sized (x ∷ cuts) es all = cuts_sized cuts es all

drops_sized : (drops : List FileId) (es : List Edit) → PutsAreSized es → PutsAreSized (list_map Drop drops ++ es)
drops_sized [] es all = all
drops_sized (x ∷ drops) es all = drops_sized drops es all

pub change_sized : (c : Change) → All (λ (e : Key × Cell). IsSized e.1) c.puts → PutsAreSized (edits_of c)
change_sized c all =
    drops_sized c.drops (list_map (λ (x : FileId × ℕ). Cut x.0 x.1) c.cuts ++ puts_of c.puts)
    (cuts_sized c.cuts (puts_of c.puts) (puts_sized c.puts (recursion_from_All (λ (e : Key × Cell). IsSized e.1) c.puts all)))

le_is : (a b : ℕ) → nat_le a b ≡ true → a ≤ b
le_is a b h = grind arith

-- all that a note is to say of a part
note_of : (server epoch : ℕ) (n : ReadyNote) (p : Part) → is_plain server epoch n ≡ true → AreGoodLocks n.locks n.edits → IsPart p → p.intents ≡ intents_of n.edits → IsNamedOnce n → IsPartNote server epoch n
note_of server epoch n p plain good part same once =
    let h1 = both plain in
    let h2 = both h1.1 in
    let h3 = both h2.1 in
    let h4 = both h3.1 in
    let h5 = both h4.1 in
    record {
      modes = h1.0;
      locks = good;
      locked = h2.0;
      edited = h3.0;
      join = h4.0;
      client = (le_is 1 n.client h5.0, le_is n.client 16 h5.1);
      cells = omega (arith, part.most, part.cells, ap (λ (i : Intents). changed_by i) same);
      once = once;
      fit = subst (λ (i : Intents). AllFit i.puts) same part.fit;
    }

pub part_noted : (tells : Bool) (m : Cells) (server epoch : ℕ) (p : RegainedPart) (n : ReadyNote) → p.join ≡ n.join → p.trans ≡ n.trans → p.ts ≡ n.ts → p.client ≡ n.client
    → p.part.intents ≡ intents_of n.edits → own_of p.part ≡ no_opens → IsPart p.part → (IsTrue tells → AreCountsOf m n.edits p.part.counts) → p.locks ≡ length (with_resources n.locks [])
    → is_plain server epoch n ≡ true → AreGoodLocks n.locks n.edits → PutsAreSized n.edits → IsNamedOnce n → IsPartOf tells m server epoch p n
part_noted tells m server epoch p n join trans ts client intents own part counts locks plain good sized once = record {
  join = join;
  trans = trans;
  ts = ts;
  client = client;
  intents = intents;
  own = own;
  part = part;
  counts = counts;
  locks = locks;
  note = note_of server epoch n p.part plain good part intents once;
  within = are_within (held_by n.locks) n.edits good.covered;
  intended = are_intended n.locks good.intended;
  sized = sized;
}

-- ---- nothing is named twice

edits_length : (c : Change) → length (edits_of c) ≡ changed_cells c
edits_length c =
    omega (
      arith,
      length-append (list_map Drop c.drops) (list_map (λ (x : FileId × ℕ). Cut x.0 x.1) c.cuts ++ puts_of c.puts),
      length-append (list_map (λ (x : FileId × ℕ). Cut x.0 x.1) c.cuts) (puts_of c.puts),
      length-map c.drops Drop,
      length-map c.cuts (λ (x : FileId × ℕ). Cut x.0 x.1),
      length-map c.puts (λ (x : Key × Cell). Put x.0 x.1),
    )

both_same : (a b x y : ℕ) → (a == b && x == y) ≡ true → (a ≡ b) × (x ≡ y)
both_same a b x y h = (let parts = both h in (eqb-true a b parts.0, eqb-true x y parts.1))

not_both : (a b x y : ℕ) → (a == b && x == y) ≡ false → a ≡ b → x ≡ y → ⊥
not_both a b x y h one other = neither h (eq-eqb a b one) (eq-eqb x y other)

module _ (j : JoinNo) (p : ReadyPart) (locks cells : ℕ) (named : locks ≡ length (with_resources p.locks [])) (changes : cells ≡ changed (edits_of p.change)) where
  pub named_once : (length p.locks == locks && changed_cells p.change == cells) ≡ true → IsNamedOnce (part_note (j, p))
  named_once is = (let same = both_same (length p.locks) locks (changed_cells p.change) cells is in record { locks = same.0 ∙ named; edits = edits_length p.change ∙ same.1 ∙ changes })

  pub named_twice : (length p.locks == locks && changed_cells p.change == cells) ≡ false → IsNamedOnce (part_note (j, p)) → ⊥
  named_twice is once = not_both (length p.locks) locks (changed_cells p.change) cells is (once.locks ∙ sym named) (sym (edits_length p.change) ∙ once.edits ∙ sym changes)

-- ---- all notes one after the other

-- the parts of the first notes are live, and the rest follow
pub record Taking (tells : Bool) (m : Cells) (server epoch : ℕ) (l : Lives) (all rest : List ReadyNote) : Type 0 where
  pub done : List ReadyNote
  pub split : done ++ rest ≡ all
  pub live : IsSoFar tells m server epoch l done

module _ (tells : Bool) (m : Cells) (server epoch : ℕ) (l : Lives) (all : List ReadyNote) where
  pub takes_none : IsSoFar tells m server epoch l [] → Taking tells m server epoch l all all
  takes_none live = record { done = []; split = refl; live = live }

  pub takes_on : (new : Lives) (n : ReadyNote) (rest : List ReadyNote) (t : Taking tells m server epoch l all (n ∷ rest))
      → IsSoFar tells m server epoch new (t.done ++ n ∷ []) → Taking tells m server epoch new all rest
  takes_on new n rest t live = record { done = t.done ++ n ∷ []; split = append_assoc t.done (n ∷ []) rest ∙ t.split; live = live }

  pub takes_all : (rest : List ReadyNote) → rest ≡ [] → Taking tells m server epoch l all rest → IsSoFar tells m server epoch l all
  takes_all rest none t = subst (λ (ns : List ReadyNote). IsSoFar tells m server epoch l ns) (sym (append-nil t.done) ∙ ap (λ (ns : List ReadyNote). t.done ++ ns) (sym none) ∙ t.split) t.live

  -- where all can stand beside one another, so can the next and those before it
  pub next_two : (n : ReadyNote) (rest : List ReadyNote) (t : Taking tells m server epoch l all (n ∷ rest)) → AreApart all → AllByRecursion (λ o. AreTwo o n) t.done
  next_two n rest t apart = apart_before t.done n rest (subst AreApart (sym t.split) apart)

  pub next_note : (n : ReadyNote) (rest : List ReadyNote) (t : Taking tells m server epoch l all (n ∷ rest)) → AllByRecursion (IsPartNote server epoch) all → IsPartNote server epoch n
  next_note n rest t notes = at_middle (IsPartNote server epoch) t.done n rest (subst (AllByRecursion (IsPartNote server epoch)) (sym t.split) notes)
