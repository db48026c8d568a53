-- a history that goes on by one call, and by one transaction
use Rattle.std.specs.Prelude.{cond, Bool, true, false, not, ◌&&◌, ◌||◌, ◌==◌, Option, None}
use Rattle.std.specs.FinMap as map
use Rattle.std.specs.FinMap.{get-insert, get-retain_keys, same_map}
use Rattle.std.proofs.Common.{◌≡◌, ℕ, ◌+◌, ◌≤◌, List, [], ◌∷◌, ◌++◌, refl, sym, ◌∙◌, ap, arith}
use Rattle.std.proofs.Math.Bool.{and-false}
use Rattle.std.proofs.lemmas.Bool.{ne_eqb}
use Rattle.alp_base.specs.declared.ids.FileId.{FileId}
use Rattle.alp_base.specs.declared.key.Key.{Key}
use Rattle.alp_base.specs.KeyLaws.{keys_total, exact_keys}
use Rattle.alp_base.specs.declared.cell.Cell.{Cell}
use Rattle.alp_files.specs.Cells.{Cells, View, has_file}
use Rattle.alp_files.specs.Edits.{Edit, Drop, Cut, Put, is_in_file, is_past, edit_at, edits_at, after, edit_map, edits_map}
use Rattle.alp_files.specs.Born.{AreBelow}
use Rattle.alp_files.specs.History.{PerformedCall, Standing, Decided, IsRight, step, AreRight, steps, begun, IsSerial, serial_end}

-- one call more
pub AreRight-push : (server : ℕ) (s : Standing) (who : List ℕ) (ds : List PerformedCall) (d : PerformedCall) → AreRight server s who ds → IsRight server (steps server s who ds) who d → AreRight server s who (ds ++ d ∷ [])
AreRight-push server s who [] d h right = (right, tt)
AreRight-push server s who (x ∷ ds) d h right = (h.0, AreRight-push server (step server s who x) who ds d h.1 right)

pub steps-push : (server : ℕ) (s : Standing) (who : List ℕ) (ds : List PerformedCall) (d : PerformedCall) → steps server s who (ds ++ d ∷ []) ≡ step server (steps server s who ds) who d
steps-push server s who [] d = refl
steps-push server s who (x ∷ ds) d = steps-push server (step server s who x) who ds d

-- one transaction more
pub IsSerial-push : (server : ℕ) (s : Standing) (ds : List Decided) (d : Decided) → IsSerial server s ds → AreRight server (begun (serial_end server s ds)) d.who d.calls → IsSerial server s (ds ++ d ∷ [])
IsSerial-push server s [] d h right = (right, tt)
IsSerial-push server s (x ∷ ds) d h right = (h.0, IsSerial-push server (steps server (begun s) x.who x.calls) ds d h.1 right)

pub serial_end-push : (server : ℕ) (s : Standing) (ds : List Decided) (d : Decided) → serial_end server s (ds ++ d ∷ []) ≡ steps server (begun (serial_end server s ds)) d.who d.calls
serial_end-push server s [] d = refl
serial_end-push server s (x ∷ ds) d = serial_end-push server (steps server (begun s) x.who x.calls) ds d

-- edits one after the other, of maps
pub edits_map-append : (es fs : List Edit) (m : Cells) → edits_map (es ++ fs) m ≡ edits_map fs (edits_map es m)
edits_map-append [] fs m = refl
edits_map-append (e ∷ es) fs m = edits_map-append es fs (edit_map e m)

-- ---- maps and what is seen of them

not_cond : (b : Bool) (o : Option Cell) → cond (not b) o None ≡ cond b None o
not_cond true o = refl
not_cond false o = refl

pub get-edit_map : (e : Edit) (m : Cells) (q : Key) → map.get (edit_map e m) q ≡ edit_at e q (map.get m q)
get-edit_map (Drop f) m q =
    get-retain_keys m (λ k. not (is_in_file f k)) q (λ x e. ap (λ (k : Key). not (is_in_file f k)) (sym (exact_keys q x e))) ∙ not_cond (is_in_file f q) (map.get m q)
get-edit_map (Cut f n) m q =
    get-retain_keys m (λ k. not (is_past f n k)) q (λ x e. ap (λ (k : Key). not (is_past f n k)) (sym (exact_keys q x e))) ∙ not_cond (is_past f n q) (map.get m q)
get-edit_map (Put k c) m q = get-insert keys_total m k c q

get-edits_at : (es : List Edit) (m : Cells) (q : Key) → map.get (edits_map es m) q ≡ edits_at es q (map.get m q)
get-edits_at [] m q = refl
get-edits_at (e ∷ es) m q = get-edits_at es (edit_map e m) q ∙ ap (edits_at es q) (get-edit_map e m q)

-- what an edited map shows is what it showed, edited
pub get-edits_map : (es : List Edit) (m : Cells) → map.get (edits_map es m) ≡ after es (map.get m)
get-edits_map es m = λ i q. get-edits_at es m q i

-- maps that show the same are one
pub same_cells : (m n : Cells) → map.get m ≡ map.get n → m ≡ n
same_cells m n h = same_map keys_total exact_keys m n (λ q. ap (λ (v : View). v q) h)

-- edits that show the same make one map
pub same_edits : (m : Cells) (v w : View) (es fs : List Edit) → map.get m ≡ v → w ≡ after es v → w ≡ after fs v → edits_map es m ≡ edits_map fs m
same_edits m v w es fs is h k =
    same_cells (edits_map es m) (edits_map fs m)
    (get-edits_map es m ∙ ap (after es) is ∙ sym h ∙ k ∙ ap (after fs) (sym is) ∙ sym (get-edits_map fs m))

-- ---- ids that were not given

pub fresh_id : (server epoch count : ℕ) (made : List FileId) → AreBelow count made → has_file (record { server = server; epoch = epoch; counter = count + 1 }) made ≡ false
fresh_id server epoch count [] h = refl
fresh_id server epoch count (f ∷ fs) h =
    ap (λ (b : Bool). (f.server == server && f.epoch == epoch && b) || has_file (record { server = server; epoch = epoch; counter = count + 1 }) fs)
    (ne_eqb f.counter (count + 1) (λ e. let low : f.counter ≤ count = h.0 in let high : f.counter ≡ count + 1 = e in omega arith))
    ∙ ap (λ (b : Bool). b || has_file (record { server = server; epoch = epoch; counter = count + 1 }) fs) (and-false (f.server == server && f.epoch == epoch))
    ∙ fresh_id server epoch count fs h.1

pub AreBelow-more : (m n : ℕ) (fs : List FileId) → m ≤ n → AreBelow m fs → AreBelow n fs
AreBelow-more m n [] le h = tt
AreBelow-more m n (f ∷ fs) le h = (let low : f.counter ≤ m = h.0 in omega arith, AreBelow-more m n fs le h.1)
