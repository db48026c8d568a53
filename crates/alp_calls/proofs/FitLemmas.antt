-- cells that fit their keys
use Rattle.std.specs.Prelude.{cond, Bool, true, false, not, ◌&&◌, filter, sum_by, Option, None, Some}
use Rattle.std.specs.FinMap as map
use Rattle.std.specs.FinMap.{get-insert}
use Rattle.std.specs.Ordering.{eq_by_cmp}
use Rattle.std.proofs.Common.{◌≡◌, ℕ, List, [], ◌∷◌, ◌++◌, refl, sym, ◌∙◌, ap, subst, arith}
use Rattle.std.proofs.lemmas.List.Sums.{sum_by-cons}
use Rattle.alp_base.specs.declared.key.Key.{Key}
use Rattle.alp_base.specs.Keys.{key_cmp}
use Rattle.alp_base.specs.KeyLaws.{keys_total, exact_keys}
use Rattle.alp_base.specs.declared.cell.Cell.{Cell}
use Rattle.alp_files.specs.Cells.{Cells}
use Rattle.alp_files.specs.Edits.{Drop, Cut, edits_map, is_in_file, is_past}
use Rattle.alp_files.specs.Needs.{Intents, intents_from}
use Rattle.alp_files.specs.Undo.{puts_of}
use Rattle.alp_files.proofs.IntentLemmas.{kept, puts_from}
use Rattle.alp_files.proofs.SameLemmas.{same_key-true}
use Rattle.alp_files.proofs.SumLemmas.{sum_of-nothing}
use Rattle.alp_vault.specs.Volumes.{fits_key, fit_keys}
use Rattle.alp_trans.specs.Parts.{gone_edits}
use Rattle.alp_trans.specs.declared.gone.Gone.{Gone}
use Rattle.alp_trans.specs.declared.gone.Gone.TheVariants as gone
use Rattle.alp_calls.specs.Parts.{AllFit}

and_then : (a b : Bool) → a ≡ true → b ≡ true → (a && b) ≡ true
and_then true b h e = e
and_then false b h e = cc

pub both : (a b : Bool) → a && b ≡ true → (a ≡ true) × (b ≡ true)
both true b h = (refl, h)
both false b h = cc

-- one more
pub fit_push : (xs : List (Key × Cell)) (x : Key × Cell) → fit_keys xs ≡ true → fits_key x.0 x.1 ≡ true → fit_keys (xs ++ x ∷ []) ≡ true
fit_push [] x h e = and_then (fits_key x.0 x.1) true e refl
fit_push (y ∷ ys) x h e =
    let parts : (fits_key y.0 y.1 ≡ true) × (fit_keys ys ≡ true) = both (fits_key y.0 y.1) (fit_keys ys) h in
    and_then (fits_key y.0 y.1) (fit_keys (ys ++ x ∷ [])) parts.0 (fit_push ys x parts.1 e)

pub one_fits : (x : Key × Cell) (rest : List (Key × Cell)) → fit_keys (x ∷ rest) ≡ true → (fits_key x.0 x.1 ≡ true) × (fit_keys rest ≡ true)
one_fits x rest h = both (fits_key x.0 x.1) (fit_keys rest) h

-- ---- the cells of a map

abbrev unfit : Key × Cell → ℕ
unfit e = cond {A = ℕ} (fits_key e.0 e.1) 0 1

none_unfit : (es : List (Key × Cell)) → sum_by unfit es ≡ 0 → fit_keys es ≡ true
none_unfit [] h = refl
none_unfit (e ∷ es) h = go (fits_key e.0 e.1) refl (λ none. none_unfit es none)
  where
    go : (b : Bool) → fits_key e.0 e.1 ≡ b → (sum_by unfit es ≡ 0 → fit_keys es ≡ true) → (fits_key e.0 e.1 && fit_keys es) ≡ true
    go true fits rest = and_then (fits_key e.0 e.1) (fit_keys es) fits (rest (omega (arith, h, sum_by-cons unfit e es)))
    go false fits rest =
        let one : unfit e ≡ 1 = ap (λ (b : Bool). cond {A = ℕ} b 0 1) fits in
        absurd (omega (arith, one, h, sum_by-cons unfit e es))

pub fit_entries : (m : Cells) → AllFit m → fit_keys (map.entries m) ≡ true
fit_entries m fit = none_unfit (map.entries m) (sum_of-nothing keys_total exact_keys unfit m (λ k c is. ap (λ (b : Bool). cond {A = ℕ} b 0 1) (fit k c is)))

pub fit_filter : (p : Key × Cell → Bool) (es : List (Key × Cell)) → fit_keys es ≡ true → fit_keys (filter p es) ≡ true
fit_filter p [] h = refl
fit_filter p (e ∷ es) h = go (p e) (fit_filter p es (both (fits_key e.0 e.1) (fit_keys es) h).1)
  where
    go : (b : Bool) → fit_keys (filter p es) ≡ true → fit_keys (cond {A = List (Key × Cell)} b (e ∷ filter p es) (filter p es)) ≡ true
    go true rest = and_then (fits_key e.0 e.1) (fit_keys (filter p es)) (both (fits_key e.0 e.1) (fit_keys es) h).0 rest
    go false rest = rest

-- ---- behind what a call changes

some_same : (u v : Cell) → Some u ≡ Some v → u ≡ v
some_same u v e = cc

-- all cells fit behind puts that do
fit_over : (puts : List (Key × Cell)) (m : Cells) → fit_keys puts ≡ true → AllFit m → AllFit (edits_map (puts_of puts) m)
fit_over [] m fit all = all
fit_over (x ∷ xs) m fit all = fit_over xs (map.insert m x.0 x.1) (one_fits x xs fit).1 (λ k c there. go k c (eq_by_cmp key_cmp k x.0) refl (sym (get-insert keys_total m x.0 x.1 k) ∙ there))
  where
    go : (k : Key) (c : Cell) (b : Bool) → eq_by_cmp key_cmp k x.0 ≡ b → cond b (Some x.1) (map.get m k) ≡ Some c → fits_key k c ≡ true
    go k c true e h = ap (fits_key k) (sym (some_same x.1 c h)) ∙ ap (λ (q : Key). fits_key q x.1) (same_key-true k x.0 e) ∙ (one_fits x xs fit).0
    go k c false e h = all k c h

-- and where some go
fit_kept : (p : Key → Bool) (m : Cells) → AllFit m → AllFit (map.retain_keys m p)
fit_kept p m all k c there = go (p k) (sym (kept p m k) ∙ there)
  where
    go : (b : Bool) → cond b (map.get m k) None ≡ Some c → fits_key k c ≡ true
    go true h = all k c h
    go false h = cc

pub fit_after : (g : Option Gone) (puts : List (Key × Cell)) (i : Intents) → fit_keys puts ≡ true → AllFit i.puts → AllFit (intents_from i (gone_edits g ++ puts_of puts)).puts
fit_after None puts i fit all = subst AllFit (sym (puts_from i (puts_of puts))) (fit_over puts i.puts fit all)
fit_after (Some (gone.File f)) puts i fit all =
    subst AllFit (sym (puts_from i (Drop f ∷ puts_of puts))) (fit_over puts (map.retain_keys i.puts (λ k. not (is_in_file f k))) fit (fit_kept (λ k. not (is_in_file f k)) i.puts all))
fit_after (Some (gone.Pages f n)) puts i fit all =
    subst AllFit (sym (puts_from i (Cut f n ∷ puts_of puts))) (fit_over puts (map.retain_keys i.puts (λ k. not (is_past f n k))) fit (fit_kept (λ k. not (is_past f n k)) i.puts all))
