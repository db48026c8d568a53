-- lemmas on edits of what is seen
use Rattle.std.specs.Prelude.{Option, Some, cond, Bool, true, false}
use Rattle.std.specs.Option.{option_or}
use Rattle.std.specs.FinMap as map
use Rattle.std.specs.FinMap.{get-insert}
use Rattle.std.specs.Ordering.{eq_by_cmp}
use Rattle.std.proofs.Common.{◌≡◌, ℕ, suc, ◌+◌, ◌-◌, ◌<◌, List, [], ◌∷◌, ◌++◌, length, drop, get_or, refl, sym, ◌∙◌, ap, arith, append_assoc}
use Rattle.std.proofs.Math.Seq.{drop-cons}
use Rattle.alp_base.specs.declared.ids.FileId.{FileId}
use Rattle.alp_base.specs.declared.key.Key.{Key}
use Rattle.alp_base.specs.declared.key.Key.TheVariants.{PageOf}
use Rattle.alp_base.specs.Keys.{key_cmp}
use Rattle.alp_base.specs.KeyLaws.{keys_total}
use Rattle.alp_base.specs.declared.cell.Cell.{Cell}
use Rattle.alp_base.specs.declared.cell.Cell.TheVariants as cell
use Rattle.alp_files.specs.Cells.{Cells, View, page_in, pages_at}
use Rattle.alp_files.specs.Edits.{Edit, Put, edits_at, edit_at, after, over, ChangesBy}
use Rattle.alp_files.specs.Act.{page_puts}

-- a put laid over what is seen shows where it stands
pub or_cond : {X : Type 0} (b : Bool) (x : X) (o p : Option X) → option_or (cond b (Some x) o) p ≡ cond b (Some x) (option_or o p)
or_cond true x o p = refl
or_cond false x o p = refl

-- one put more
pub over_insert : (puts : Cells) (k : Key) (c : Cell) → ChangesBy (Put k c ∷ []) puts (map.insert puts k c)
over_insert puts k c m = λ i q.
    (ap (λ (o : Option Cell). option_or o (m q)) (get-insert keys_total puts k c q) ∙ or_cond (eq_by_cmp key_cmp q k) c (map.get puts q) (m q)) i

pub edits_at-append : (es fs : List Edit) (q : Key) (o : Option Cell) → edits_at (es ++ fs) q o ≡ edits_at fs q (edits_at es q o)
edits_at-append [] fs q o = refl
edits_at-append (e ∷ es) fs q o = edits_at-append es fs q (edit_at e q o)

-- edits one after the other
pub after-append : (es fs : List Edit) (m : View) → after (es ++ fs) m ≡ after fs (after es m)
after-append es fs m = λ i q. edits_at-append es fs q (m q) i

pub changes-append : (es fs : List Edit) (a b c : Cells) → ChangesBy es a b → ChangesBy fs b c → ChangesBy (es ++ fs) a c
changes-append es fs a b c h k m = k m ∙ ap (after fs) (h m) ∙ sym (after-append es fs (over a m))

-- the pages of a run, one more put
pub page_puts-drop : (f : FileId) (first i : ℕ) (pages : List (List ℕ)) (p : List ℕ) → i < length pages → get_or pages i p ≡ p
    → page_puts f (first + i) (drop i pages) ≡ Put (PageOf f (first + i)) (cell.Page p) ∷ page_puts f (first + (i + 1)) (drop (i + 1) pages)
page_puts-drop f first i pages p h is =
    let next : suc i ≡ i + 1 = omega arith in
    let place : first + i + 1 ≡ first + (i + 1) = omega arith in
    ap (page_puts f (first + i)) (drop-cons pages i p h)
    ∙ ap (λ (x : List ℕ). page_puts f (first + i) (x ∷ drop (suc i) pages)) is
    ∙ ap (λ (n : ℕ). Put (PageOf f (first + i)) (cell.Page p) ∷ page_puts f n (drop (suc i) pages)) place
    ∙ ap (λ (n : ℕ). Put (PageOf f (first + i)) (cell.Page p) ∷ page_puts f (first + (i + 1)) (drop n pages)) next

-- the pages of a run, one more read
pages_at-some : (m : View) (f : FileId) (k n r : ℕ) → n ≡ suc r → pages_at m f k n ≡ page_in (m (PageOf f k)) ∷ pages_at m f (k + 1) r
pages_at-some m f k n r e = ap (pages_at m f k) e

pub pages_at-step : (done : List (List ℕ)) (m : View) (f : FileId) (first count i : ℕ) → i < count
    → (done ++ page_in (m (PageOf f (first + i))) ∷ []) ++ pages_at m f (first + (i + 1)) (count - (i + 1)) ≡ done ++ pages_at m f (first + i) (count - i)
pages_at-step done m f first count i h =
    let left : count - i ≡ suc (count - (i + 1)) = omega arith in
    let next : first + (i + 1) ≡ first + i + 1 = omega arith in
    append_assoc done _ _
    ∙ ap (λ (k : ℕ). done ++ page_in (m (PageOf f (first + i))) ∷ pages_at m f k (count - (i + 1))) next
    ∙ ap (λ (ps : List (List ℕ)). done ++ ps) (sym (pages_at-some m f (first + i) (count - i) (count - (i + 1)) left))
