-- how a part is regained: what goes and what is put, one after the other
use Rattle.std.specs.Prelude.{cond, Bool, true, false, IsTrue, None, map as list_map}
use Rattle.std.specs.FinMap as map
use Rattle.std.proofs.lemmas.List.{length-map}
use Rattle.std.proofs.Common.{◌≡◌, ℕ, ◌+◌, ◌≤◌, List, [], ◌∷◌, ◌++◌, length, length-append, refl, sym, ◌∙◌, ap, subst, arith, append_assoc, append-nil}
use Rattle.alp_base.specs.declared.ids.FileId.{FileId}
use Rattle.alp_base.specs.declared.key.Key.{Key}
use Rattle.alp_base.specs.declared.cell.Cell.{Cell}
use Rattle.alp_base.specs.declared.change.Change.{Change}
use Rattle.alp_files.specs.Act.{no_opens}
use Rattle.alp_files.specs.Cells.{Cells}
use Rattle.alp_files.specs.Changes.{edits_of}
use Rattle.alp_files.specs.Edits.{Edit, Drop, Cut, Put}
use Rattle.alp_files.specs.Needs.{Intents, no_intents, intend, intents_from, intents_of, changed_by}
use Rattle.alp_files.specs.Undo.{puts_of}
use Rattle.alp_files.proofs.IntentLemmas.{intents_from-append}
use Rattle.alp_vault.specs.Volumes.{changed_cells, fit_keys}
use Rattle.alp_trans.specs.Counting.{AreCountsOf, AreFew, no_counts}
use Rattle.alp_trans.specs.Parts.{own_of, AreBeside}
use Rattle.alp_trans.specs.declared.counts.Counts.{Counts}
use Rattle.alp_trans.specs.declared.gone.Gone.TheVariants as gone
use Rattle.alp_trans.specs.declared.part.Part.{Part}
use Rattle.alp_calls.specs.Parts.{AllFit, IsPart, edits_in, own_with}
use Rattle.alp_calls.specs.Regained.{IsRegained, GoesOn}
use Rattle.alp_calls.specs.declared.said.Effect.{Effect}
use Rattle.alp_calls.specs.declared.said.OpenChange.TheVariants.{Stay}
use Rattle.alp_calls.proofs.CountLaws.{counts_begin}
use Rattle.alp_calls.proofs.FitLemmas.{fit_after}
use Rattle.alp_calls.proofs.GoneLemmas.{one_more}
use Rattle.alp_calls.proofs.IntentCounts.{cells_put}

-- where nothing goes nothing that is put does
pub none_taken : (puts : List (Key × Cell)) → AreBeside None puts
none_taken [] = refl
none_taken (p ∷ ps) = none_taken ps

-- ---- how much edits change

one_changed : (e : Edit) (i : Intents) → changed_by (intend e i) ≤ changed_by i + 1
one_changed (Drop f) i = one_more i (gone.File f)
one_changed (Cut f n) i = one_more i (gone.Pages f n)
one_changed (Put k c) i = go (map.contains_key i.puts k) (cells_put i map.empty k c)
  where
    go : (b : Bool) → changed_by (intend (Put k c) i) ≡ cond {A = ℕ} b (changed_by i) (changed_by i + 1) → changed_by (intend (Put k c) i) ≤ changed_by i + 1
    go true h = omega (arith, h)
    go false h = omega (arith, h)

most_changed : (es : List Edit) (i : Intents) → changed_by (intents_from i es) ≤ changed_by i + length es
most_changed [] i = omega arith
most_changed (e ∷ es) i = omega (arith, one_changed e i, most_changed es (intend e i))

-- ---- a part that did nothing

pub regained_nothing : (tells : Bool) (held : Cells) (p : Part) → p.intents ≡ no_intents → p.counts ≡ no_counts → own_of p ≡ no_opens → IsRegained tells held [] p
regained_nothing tells held p nothing none own = record {
  intents = nothing;
  counts = λ told. subst (λ (n : Counts). AreCountsOf held [] n) (sym none) (counts_begin held);
  own = own;
}

-- ---- one step

pub taken_in : (tells : Bool) (held : Cells) (old new : Part) (e : Effect) (n : Counts) → IsPart old → fit_keys e.puts.items ≡ true → e.opens ≡ Stay → old.counts.cells + length (edits_in e) ≤ 256
    → n.cells ≡ changed_by (intents_from old.intents (edits_in e)) → AreFew n
    → (IsTrue tells → (es : List Edit) → old.intents ≡ intents_of es → AreCountsOf held es old.counts → AreCountsOf held (es ++ edits_in e) n)
    → new.intents ≡ intents_from old.intents (edits_in e) → own_of new ≡ own_with (own_of old) e.opens → new.counts ≡ n
    → GoesOn tells held old new (edits_in e)
taken_in tells held old new e n is fit stay room cells few counted intents own counts = record {
  part = record {
    cells = ap (λ (x : Counts). x.cells) counts ∙ cells ∙ sym (ap changed_by intents);
    most = omega (arith, same, most, room);
    few = subst AreFew (sym counts) few;
    fit = subst (λ (i : Intents). AllFit i.puts) (sym intents) (fit_after e.gone e.puts.items old.intents fit is.fit);
  };
  cells = omega (arith, same, most);
  regained = λ before start. record {
    intents = intents ∙ ap (λ (i : Intents). intents_from i (edits_in e)) start.intents ∙ sym (intents_from-append no_intents before (edits_in e));
    counts = λ told. subst (AreCountsOf held (before ++ edits_in e)) (sym counts) (counted told before start.intents (start.counts told));
    own = own ∙ ap (own_with (own_of old)) stay ∙ start.own;
  };
}
  where
    same : new.counts.cells ≡ n.cells
    same = ap (λ (x : Counts). x.cells) counts

    most : n.cells ≤ old.counts.cells + length (edits_in e)
    most = omega (arith, cells, is.cells, most_changed (edits_in e) old.intents)

-- ---- one step after the other

pub goes_nowhere : (tells : Bool) (held : Cells) (p : Part) → IsPart p → GoesOn tells held p p []
goes_nowhere tells held p is = record {
  part = is;
  cells = omega arith;
  regained = λ before start. subst (λ (es : List Edit). IsRegained tells held es p) (sym (append-nil before)) start;
}

pub goes_then : (tells : Bool) (held : Cells) (a b c : Part) (es fs : List Edit) → GoesOn tells held a b es → GoesOn tells held b c fs → GoesOn tells held a c (es ++ fs)
goes_then tells held a b c es fs h k = record {
  part = k.part;
  cells = omega (arith, h.cells, k.cells, length-append es fs);
  regained = λ before start. subst (λ (xs : List Edit). IsRegained tells held xs c) (append_assoc before es fs) (k.regained (before ++ es) (h.regained before start));
}

-- Some of the edits are taken in; the rest is to come.
pub record Taking (tells : Bool) (held : Cells) (old now : Part) (all rest : List Edit) : Type 0 where
  pub done : List Edit
  pub split : done ++ rest ≡ all
  pub goes : GoesOn tells held old now done

pub taking_begins : (tells : Bool) (held : Cells) (p : Part) (all : List Edit) → IsPart p → Taking tells held p p all all
taking_begins tells held p all is = record { done = []; split = refl; goes = goes_nowhere tells held p is }

pub taking_room : (tells : Bool) (held : Cells) (old now : Part) (all rest : List Edit) (e : Edit) → Taking tells held old now all (e ∷ rest) → old.counts.cells + length all ≤ 256
    → now.counts.cells + 1 ≤ 256
taking_room tells held old now all rest e h room = omega (arith, h.goes.cells, length-append h.done (e ∷ rest), ap (λ (es : List Edit). length es) h.split, room)

pub taking_goes_on : (tells : Bool) (held : Cells) (old now next : Part) (all rest : List Edit) (e : Edit) → Taking tells held old now all (e ∷ rest) → GoesOn tells held now next (e ∷ [])
    → Taking tells held old next all rest
taking_goes_on tells held old now next all rest e h step = record {
  done = h.done ++ e ∷ [];
  split = append_assoc h.done (e ∷ []) rest ∙ h.split;
  goes = goes_then tells held old now next h.done (e ∷ []) h.goes step;
}

pub taking_ends : (tells : Bool) (held : Cells) (old now : Part) (all rest : List Edit) → rest ≡ [] → Taking tells held old now all rest → GoesOn tells held old now all
taking_ends tells held old now all rest none h =
    subst (GoesOn tells held old now) (sym (append-nil h.done) ∙ ap (λ (es : List Edit). h.done ++ es) (sym none) ∙ h.split) h.goes

-- ---- a whole change

abbrev pub all_gone : Change → List Edit
all_gone c = list_map Drop c.drops ++ list_map (λ p. Cut p.0 p.1) c.cuts

-- what goes leaves room for what is put
pub room_left : (tells : Bool) (held : Cells) (start mid : Part) (c : Change) → GoesOn tells held start mid (all_gone c) → start.counts.cells + changed_cells c ≤ 256
    → mid.counts.cells + length c.puts ≤ 256
room_left tells held start mid c h few =
    omega (
      arith,
      h.cells,
      length-append (list_map Drop c.drops) (list_map (λ (p : FileId × ℕ). Cut p.0 p.1) c.cuts),
      length-map c.drops Drop,
      length-map c.cuts (λ (p : FileId × ℕ). Cut p.0 p.1),
      few,
    )

pub goes_all : (tells : Bool) (held : Cells) (start mid end : Part) (c : Change) (puts : List (Key × Cell)) → puts ≡ c.puts
    → GoesOn tells held start mid (all_gone c) → GoesOn tells held mid end (puts_of puts) → GoesOn tells held start end (edits_of c)
goes_all tells held start mid end c puts are h k =
    subst (GoesOn tells held start end)
    (append_assoc (list_map Drop c.drops) (list_map (λ (p : FileId × ℕ). Cut p.0 p.1) c.cuts) (puts_of puts)
    ∙ ap (λ (ps : List (Key × Cell)). list_map Drop c.drops ++ (list_map (λ (p : FileId × ℕ). Cut p.0 p.1) c.cuts ++ puts_of ps)) are)
    (goes_then tells held start mid end (all_gone c) (puts_of puts) h k)
