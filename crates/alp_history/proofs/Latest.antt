-- along one thread's history the files hold at each place what the last transaction to change it left there
use Rattle.std.specs.Prelude.{Bool, true, false, cond, Option, T, map as list_map}
use Rattle.std.specs.FinMap as map
use Rattle.std.specs.FinMap.Entries.{is_sorted}
use Rattle.std.specs.Ordering.{is_lt, ordering_reverse}
use Rattle.std.proofs.Common.{◌≡◌, ℕ, List, [], ◌∷◌, ◌++◌, refl, sym, ap, subst, ◌∙◌, inl, inr}
use Rattle.alp_base.specs.declared.ids.Stamp.{Stamp}
use Rattle.alp_base.specs.declared.key.Key.{Key}
use Rattle.alp_base.specs.declared.cell.Cell.{Cell}
use Rattle.alp_files.specs.Cells.{View}
use Rattle.alp_files.specs.Edits.{Edit, Drop, Cut, Put, edits_at, after}
use Rattle.alp_files.specs.Apart.{changes}
use Rattle.alp_files.specs.History.{Standing, Decided, steps, begun, starting}
use Rattle.alp_files.specs.History as one
use Rattle.alp_files.proofs.FrameLemmas.{files-changed}
use Rattle.alp_files.proofs.HistoryLemmas.{get-edits_map}
use Rattle.alp_journal.specs.Ids.{stamp_cmp}
use Rattle.alp_history.specs.Log.{Log, IsIn, Decision, decided, start_of, shares_of, Standings, after_shares, starting_all, left_at, left_there, left_of_each, latest_in, latest, AreLatest}
use Rattle.alp_history.specs.Theorems.{IsProper, Latest}
use Rattle.alp_journal.proofs.LeftBehind.{left_along}
use Rattle.alp_journal.proofs.StampLemmas.{stamps_total, itself}
use Rattle.alp_history.proofs.Decisions.{decided-in, decided-sorted}
use Rattle.alp_history.proofs.Severally.{on, shares-end}
use Rattle.alp_history.proofs.Merged.{head-low, rest-sorted, all_keyed, short-mine, its-left, none-left}

-- ---- the last change of a place

pub left-edits : (k : Key) (es : List Edit) (old : Option Cell) → left_at k old es ≡ edits_at es k old
left-edits k [] old = refl
left-edits k (Drop f ∷ es) old = left-edits k es _
left-edits k (Cut f n ∷ es) old = left-edits k es _
left-edits k (Put q c ∷ es) old = left-edits k es _

-- what is stamped no earlier counts for nothing
latest-later : (k : Key) (x : Stamp) (old : Option Cell) (log : Log) (n : ℕ) (ds : List Decision) → ((d : Decision) → IsIn d ds → is_lt (stamp_cmp d.0 x) ≡ false) → latest_in k x old (left_of_each log n ds) ≡ old
latest-later k x old log n [] later = refl
latest-later k x old log n (d ∷ ds) later =
    ap (λ (b : Bool). latest_in k x (cond b (left_at k old (left_there log n d)) old) (left_of_each log n ds)) (later d (inl refl))
    ∙ latest-later k x old log n ds (λ e i. later e (inr i))

-- ---- a list by stamps

module _ (d : Decision) (ds : List Decision) (sorted : T (is_sorted stamp_cmp (d ∷ ds))) where
  head-before : (e : Decision) → IsIn e ds → is_lt (stamp_cmp d.0 e.0) ≡ true
  head-before e i = ap is_lt (head-low d ds sorted e.0 e.1 i)

  none-before : (e : Decision) → IsIn e (d ∷ ds) → is_lt (stamp_cmp e.0 d.0) ≡ false
  none-before e (inl is) = ap (λ (z : Decision). is_lt (stamp_cmp z.0 d.0)) is ∙ ap is_lt (itself d.0)
  none-before e (inr i) = ap is_lt (stamps_total.antisymm e.0 d.0 ∙ ap ordering_reverse (head-low d ds sorted e.0 e.1 i))

-- ---- along the history

module _ (log : Log) (proper : IsProper log) where
  module _ (n : ℕ) where
    -- from each transaction to the next the files change by what is kept of it
    ChangesSo : Standing → List Decision → Type 0
    ChangesSo s [] = Unit {0}
    ChangesSo s (d ∷ ds) = (map.get (one.serial_end n s (on n (shares_of log d))).files ≡ after (left_there log n d) (map.get s.files)) × ChangesSo (one.serial_end n s (on n (shares_of log d))) ds

    abbrev whole : List (Stamp × List Edit)
    whole = left_along n (starting (start_of log n)) (all_keyed log proper n (decided log))

    abbrev keyed_so : Decision → List Decided → List Decision → List (Stamp × Decided)
    keyed_so d vs ds = list_map (λ (v : Decided). (d.0, v)) vs ++ all_keyed log proper n ds

    changes-so : (ds : List Decision) (s : Standing) → ((d : Decision) → IsIn d ds → IsIn d (decided log)) → ((e : Stamp × List Edit) → IsIn e (left_along n s (all_keyed log proper n ds)) → IsIn e whole) → ChangesSo s ds
    unfolding ChangesSo
    changes-so [] s among all = tt
    changes-so (d ∷ ds) s among all =
        let at : List Decided → Type 0 =
        λ vs. (map.get (one.serial_end n s vs).files ≡ after (left_there log n d) (map.get s.files)) × ChangesSo (one.serial_end n s vs) ds in
        let stands : (vs : List Decided) → on n (shares_of log d) ≡ vs → (e : Stamp × List Edit) → IsIn e (left_along n s (keyed_so d vs ds)) → IsIn e whole =
        λ vs is e i. all e (subst (λ (ws : List Decided). IsIn e (left_along n s (keyed_so d ws ds))) (sym is) i) in
        elim (short-mine log proper n d.0 d.1 (decided-in log proper d.0 d.1 (among d (inl refl)))) [
          | inl none ↦ subst at (sym none) (
            ap (λ (es : List Edit). after es (map.get s.files)) (sym (none-left log proper n d.0 d.1 (among d (inl refl)) none)),
            changes-so ds s (λ e i. among e (inr i)) (stands [] none),
          )
          | inr v ↦
              let mine : List Edit = changes n (begun s) v.0.who v.0.calls in
              let so : mine ≡ left_there log n d = its-left log proper n d.0 d.1 (among d (inl refl)) v.0 v.1 mine (stands (v.0 ∷ []) v.1 (d.0, mine) (inl refl)) in
              subst at (sym v.1) (
                ap map.get (files-changed n v.0.who v.0.calls (begun s)) ∙ get-edits_map mine s.files ∙ ap (λ (es : List Edit). after es (map.get s.files)) so,
                changes-so ds (steps n (begun s) v.0.who v.0.calls) (λ e i. among e (inr i)) (λ e i. stands (v.0 ∷ []) v.1 e (inr i)),
              )
        ]

  -- the rest of the history leaves what all of it leaves, from what the files hold
  abbrev LeavesSo : Standings → List Decision → Type 0
  LeavesSo at ds = (n : ℕ) (k : Key) (d : Decision) → IsIn d ds → latest log n k d.0 ≡ latest_in k d.0 (map.get (at n).files k) (left_of_each log n ds)

  are-latest : (at : Standings) (ds : List Decision) → T (is_sorted stamp_cmp ds) → ((n : ℕ) → ChangesSo n (at n) ds) → LeavesSo at ds → AreLatest log at ds
  unfolding ChangesSo
  are-latest at [] sorted so leaves = tt
  are-latest at (d ∷ ds) sorted so leaves =
      let next : Standings = after_shares at (shares_of log d) in
      let files : (n : ℕ) (k : Key) → map.get (next n).files k ≡ left_at k (map.get (at n).files k) (left_there log n d) =
      λ n k. ap (λ (s : Standing). map.get s.files k) (shares-end at (shares_of log d) n) ∙ ap (λ (v : View). v k) ((so n).0) ∙ sym (left-edits k (left_there log n d) (map.get (at n).files k)) in (
        λ n k. sym (leaves n k d (inl refl) ∙ latest-later k d.0 (map.get (at n).files k) log n (d ∷ ds) (none-before d ds sorted)),
        are-latest next ds (rest-sorted d ds sorted) (λ n. subst (λ (s : Standing). ChangesSo n s ds) (sym (shares-end at (shares_of log d) n)) ((so n).1))
            (λ n k e i.
            leaves n k e (inr i)
            ∙ ap (λ (b : Bool). latest_in k e.0 (cond b (left_at k (map.get (at n).files k) (left_there log n d)) (map.get (at n).files k)) (left_of_each log n ds)) (head-before d ds sorted e i)
            ∙ ap (λ (c : Option Cell). latest_in k e.0 c (left_of_each log n ds)) (sym (files n k))),
      )

pub latest-of-all : Latest
latest-of-all log proper =
    are-latest log proper (starting_all log) (decided log) (decided-sorted log proper) (λ n. changes-so log proper n (decided log) (starting (start_of log n)) (λ d i. i) (λ e i. i)) (λ n k d i. refl)
