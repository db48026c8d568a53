-- the changes of each call keep files well formed and charged
use Rattle.std.specs.Prelude.{cond, Bool, true, false, Option, None, Some, is_some, length}
use Rattle.std.specs.FinMap as map
use Rattle.std.specs.Ordering.{eq_by_cmp}
use Rattle.std.proofs.Common.{◌≡◌, ℕ, ◌+◌, ◌-◌, ◌<◌, ◌≤◌, List, [], ◌∷◌, refl, sym, ◌∙◌, ap, subst, arith}
use Rattle.alp_base.specs.declared.ids.FileId.{FileId}
use Rattle.alp_base.specs.declared.key.Key.{Key}
use Rattle.alp_base.specs.declared.key.Key.TheVariants.{Leader, PageOf, OwnerOf}
use Rattle.alp_base.specs.Keys.{key_cmp}
use Rattle.alp_base.specs.KeyLaws.{keys_total, exact_keys}
use Rattle.alp_base.specs.declared.cell.Cell.{Cell}
use Rattle.alp_base.specs.declared.cell.Cell.TheVariants as cell
use Rattle.alp_base.specs.declared.cell.Props.{Props}
use Rattle.alp_base.specs.declared.cell.OwnerRecord.{OwnerRecord}
use Rattle.alp_files.specs.Cells.{Cells, View, owner_in, same_name}
use Rattle.alp_files.specs.Edits.{Edit, Drop, Cut, Put, edit_at, after, edit_map, edits_map}
use Rattle.alp_files.specs.Act.{charge_put, page_puts}
use Rattle.alp_files.specs.Files.{AreFiles, cost, charge_of}
use Rattle.alp_files.specs.Sound.{AreSound}
use Rattle.alp_files.proofs.HistoryLemmas.{get-edit_map, get-edits_map}
use Rattle.alp_files.proofs.SumLemmas.{sum_of-nothing}
use Rattle.alp_files.proofs.SameLemmas.{same_owner_key, same_key-itself}
use Rattle.alp_files.proofs.ChargeLemmas.{cost_in, cost-own, cost-other, charge-put, charge-owner, charge-page, charge-drop, charge-cut}
use Rattle.alp_files.proofs.FilesLemmas.{ArePagesBelow, files-put_owner, files-put_leader, files-put_page, files-drop, files-cut, cut-below, has-name, below-size, no-pages, same-some}

-- each owner's record holds what is said
abbrev Holds : Cells → (List ℕ → ℕ) → Type 0
Holds m g = (owner : List ℕ) (o : OwnerRecord) → map.get m (OwnerOf owner) ≡ Some (cell.Owner o) → o.charge ≡ g owner

-- an edit of no owner's cell
abbrev LeavesOwners : Edit → Type 0
LeavesOwners e = (owner : List ℕ) (old : Option Cell) → edit_at e (OwnerOf owner) old ≡ old

holds-edit : (m : Cells) (e : Edit) (g : List ℕ → ℕ) → LeavesOwners e → Holds m g → Holds (edit_map e m) g
holds-edit m e g away h owner o is = h owner o (sym (get-edit_map e m (OwnerOf owner) ∙ away owner (map.get m (OwnerOf owner))) ∙ is)

record_or : OwnerRecord → Cell → OwnerRecord
record_or r (cell.Owner o) = o
record_or r (cell.Leader p) = r
record_or r (cell.Page bytes) = r

same-record : (a b : OwnerRecord) → Some (cell.Owner a) ≡ Some (cell.Owner b) → a ≡ b
unfolding record_or
same-record a b e = ap (record_or a) (same-some (cell.Owner a) (cell.Owner b) e)

holds-put : (m : Cells) (name : List ℕ) (r : OwnerRecord) (g h : List ℕ → ℕ) → Holds m g → r.charge ≡ h name → ((owner : List ℕ) → (name ≡ owner → ⊥) → h owner ≡ g owner)
    → Holds (edit_map (Put (OwnerOf name) (cell.Owner r)) m) h
holds-put m name r g h old new others owner o is = go (eq_by_cmp key_cmp (OwnerOf owner) (OwnerOf name)) refl (sym (get-edit_map (Put (OwnerOf name) (cell.Owner r)) m (OwnerOf owner)) ∙ is)
  where
    go : (b : Bool) → eq_by_cmp key_cmp (OwnerOf owner) (OwnerOf name) ≡ b → cond b (Some (cell.Owner r)) (map.get m (OwnerOf owner)) ≡ Some (cell.Owner o) → o.charge ≡ h owner
    go true e k = sym (ap (λ (x : OwnerRecord). x.charge) (same-record r o k)) ∙ new ∙ ap h (sym (same_owner_key owner name e))
    go false e k =
        let apart : name ≡ owner → ⊥ = λ same. (let yes : eq_by_cmp key_cmp (OwnerOf owner) (OwnerOf name) ≡ true = ap (λ x. eq_by_cmp key_cmp (OwnerOf owner) (OwnerOf x)) same ∙ same_key-itself (OwnerOf owner) in cc) in
        old owner o k ∙ sym (others owner apart)

-- well-formed files after one edit
files-edit : (m : Cells) (e : Edit) → AreFiles (after (e ∷ []) (map.get m)) → AreFiles (map.get (edit_map e m))
files-edit m e h = subst AreFiles (sym (get-edits_map (e ∷ []) m)) h

-- the last owner's record is put, and all is charged
settled : (m : Cells) (g : List ℕ → ℕ) (name : List ℕ) (r : OwnerRecord) → AreFiles (map.get m) → Holds m g → r.name ≡ name → r.charge ≡ charge_of m name
    → ((owner : List ℕ) → (name ≡ owner → ⊥) → g owner ≡ charge_of m owner) → AreSound (edit_map (Put (OwnerOf name) (cell.Owner r)) m)
settled m g name r files held named charged others =
    let same = charge-owner m files.kinds name r in (
      files-edit m (Put (OwnerOf name) (cell.Owner r)) (files-put_owner (map.get m) name r named files),
      holds-put m name r g (λ owner. charge_of (edit_map (Put (OwnerOf name) (cell.Owner r)) m) owner) held (charged ∙ sym (same name)) (λ owner apart. same owner ∙ sym (others owner apart)),
    )

-- ---- files of which a leader comes, goes or changes

module _ (m : Cells) (s : AreSound m) where
  -- a new file, whose owner is charged
  pub sound-create : (f : FileId) (p : Props) (o : OwnerRecord) → map.get m (Leader f) ≡ None → map.get m (OwnerOf p.owner) ≡ Some (cell.Owner o)
      → AreSound (edits_map (Put (Leader f) (cell.Leader p) ∷ charge_put p.owner o (o.charge + p.size) ∷ []) m)
  sound-create f p o none there =
      let e : Edit = Put (Leader f) (cell.Leader p) in
      let old : (owner : List ℕ) → cost_in owner (map.get m (Leader f)) ≡ 0 = λ owner. ap (cost_in owner) none in
      settled (edit_map e m) (charge_of m) p.owner (record o { charge = o.charge + p.size })
      (files-edit m e (files-put_leader (map.get m) f p (o, there) (no-pages (map.get m) s.0 f p.size none) s.0))
      (holds-edit m e (charge_of m) (λ owner c. refl) s.1)
      (has-name (map.get m) s.0 p.owner o there)
      (omega (arith, s.1 p.owner o there, old p.owner, charge-put m (Leader f) (cell.Leader p) p.owner, cost-own p.owner p refl))
      (λ owner apart. omega (arith, old owner, charge-put m (Leader f) (cell.Leader p) owner, cost-other owner p apart))

  -- a file that goes
  pub sound-delete : (f : FileId) (p : Props) (o : OwnerRecord) → map.get m (Leader f) ≡ Some (cell.Leader p) → map.get m (OwnerOf p.owner) ≡ Some (cell.Owner o)
      → AreSound (edits_map (Drop f ∷ charge_put p.owner o (o.charge - p.size) ∷ []) m)
  sound-delete f p o here there =
      let old : (owner : List ℕ) → cost_in owner (map.get m (Leader f)) ≡ cost owner (cell.Leader p) = λ owner. ap (cost_in owner) here in
      settled (edit_map (Drop f) m) (charge_of m) p.owner (record o { charge = o.charge - p.size })
      (files-edit m (Drop f) (files-drop (map.get m) f s.0))
      (holds-edit m (Drop f) (charge_of m) (λ owner c. refl) s.1)
      (has-name (map.get m) s.0 p.owner o there)
      (omega (arith, s.1 p.owner o there, old p.owner, charge-drop m s.0.kinds f p.owner, cost-own p.owner p refl))
      (λ owner apart. omega (arith, old owner, charge-drop m s.0.kinds f owner, cost-other owner p apart))

  -- an owner is charged for each file
  pub charged-enough : (f : FileId) (p : Props) (o : OwnerRecord) → map.get m (Leader f) ≡ Some (cell.Leader p) → map.get m (OwnerOf p.owner) ≡ Some (cell.Owner o) → p.size ≤ o.charge
  charged-enough f p o here there =
      let old : cost_in p.owner (map.get m (Leader f)) ≡ cost p.owner (cell.Leader p) = ap (cost_in p.owner) here in
      omega (arith, s.1 p.owner o there, old, charge-drop m s.0.kinds f p.owner, cost-own p.owner p refl)

  -- pages that go
  pub sound-cut : (f : FileId) (n : ℕ) → AreSound (edit_map (Cut f n) m)
  sound-cut f n = (
    files-edit m (Cut f n) (files-cut (map.get m) f n s.0),
    λ owner o is. holds-edit m (Cut f n) (charge_of m) (λ x c. refl) s.1 owner o is ∙ sym (charge-cut m s.0.kinds f n owner),
  )

  -- no page is left at or past the cut
  pub pages-below-cut : (f : FileId) (n : ℕ) → ArePagesBelow (map.get (edit_map (Cut f n) m)) f n
  pages-below-cut f n = subst (λ (v : View). ArePagesBelow v f n) (sym (get-edits_map (Cut f n ∷ []) m)) (cut-below (map.get m) f n)

  -- another size, the owner charged for it
  pub sound-resize : (f : FileId) (p q : Props) (o : OwnerRecord) (c : ℕ) → map.get m (Leader f) ≡ Some (cell.Leader p) → q.owner ≡ p.owner → map.get m (OwnerOf p.owner) ≡ Some (cell.Owner o)
      → ArePagesBelow (map.get m) f q.size → c + p.size ≡ o.charge + q.size → AreSound (edits_map (Put (Leader f) (cell.Leader q) ∷ charge_put p.owner o c ∷ []) m)
  sound-resize f p q o c here same there pages new =
      let e : Edit = Put (Leader f) (cell.Leader q) in
      let old : (owner : List ℕ) → cost_in owner (map.get m (Leader f)) ≡ cost owner (cell.Leader p) = λ owner. ap (cost_in owner) here in
      settled (edit_map e m) (charge_of m) p.owner (record o { charge = c })
      (files-edit m e (files-put_leader (map.get m) f q (o, ap (λ x. map.get m (OwnerOf x)) same ∙ there) pages s.0))
      (holds-edit m e (charge_of m) (λ owner x. refl) s.1)
      (has-name (map.get m) s.0 p.owner o there)
      (omega (arith, new, s.1 p.owner o there, old p.owner, charge-put m (Leader f) (cell.Leader q) p.owner, cost-own p.owner p refl, cost-own p.owner q same))
      (λ owner apart. omega (arith, old owner, charge-put m (Leader f) (cell.Leader q) owner, cost-other owner p apart, cost-other owner q (λ is. apart (sym same ∙ is))))

  -- other properties than owner and size
  pub sound-props : (f : FileId) (p q : Props) → map.get m (Leader f) ≡ Some (cell.Leader p) → q.owner ≡ p.owner → q.size ≡ p.size → AreSound (edit_map (Put (Leader f) (cell.Leader q)) m)
  sound-props f p q here owner_is size_is =
      let e : Edit = Put (Leader f) (cell.Leader q) in
      let there = s.0.owned f p here in
      let alike : (owner : List ℕ) → cost owner (cell.Leader q) ≡ cost owner (cell.Leader p) = λ owner. λ i. cond (same_name (owner_is i) owner) (size_is i) 0 in
      let old : (owner : List ℕ) → cost_in owner (map.get m (Leader f)) ≡ cost owner (cell.Leader p) = λ owner. ap (cost_in owner) here in (
        files-edit m e (files-put_leader (map.get m) f q (there.0, ap (λ x. map.get m (OwnerOf x)) owner_is ∙ there.1) (λ n c is. subst (λ (x : ℕ). n < x) (sym size_is) (below-size (map.get m) s.0 f p here n c is)) s.0),
        λ owner o is. omega (arith, holds-edit m e (charge_of m) (λ x c. refl) s.1 owner o is, charge-put m (Leader f) (cell.Leader q) owner, alike owner, old owner),
      )

  -- another owner, to whom the charge moves
  pub sound-move : (f : FileId) (p : Props) (name : List ℕ) (o n : OwnerRecord) → map.get m (Leader f) ≡ Some (cell.Leader p) → (p.owner ≡ name → ⊥)
      → map.get m (OwnerOf p.owner) ≡ Some (cell.Owner o) → map.get m (OwnerOf name) ≡ Some (cell.Owner n)
      → AreSound (edits_map (Put (Leader f) (cell.Leader (record p { owner = name })) ∷ charge_put p.owner o (o.charge - p.size) ∷ charge_put name n (n.charge + p.size) ∷ []) m)
  sound-move f p name o n here apart there new =
      let q : Props = record p { owner = name } in
      let e : Edit = Put (Leader f) (cell.Leader q) in
      let taken : OwnerRecord = record o { charge = o.charge - p.size } in
      let left : List ℕ → ℕ = λ owner. charge_of m owner - cost owner (cell.Leader p) in
      let old : (owner : List ℕ) → cost_in owner (map.get m (Leader f)) ≡ cost owner (cell.Leader p) = λ owner. ap (cost_in owner) here in
      let files : AreFiles (map.get (edit_map e m)) = files-edit m e (files-put_leader (map.get m) f q (n, new) (below-size (map.get m) s.0 f p here) s.0) in
      let same : (owner : List ℕ) → charge_of (edit_map (Put (OwnerOf p.owner) (cell.Owner taken)) (edit_map e m)) owner ≡ charge_of (edit_map e m) owner = charge-owner (edit_map e m) files.kinds p.owner taken in
      let after_put : (owner : List ℕ) → charge_of (edit_map e m) owner + cost_in owner (map.get m (Leader f)) ≡ charge_of m owner + cost owner (cell.Leader q) = charge-put m (Leader f) (cell.Leader q) in
      settled (edit_map (Put (OwnerOf p.owner) (cell.Owner taken)) (edit_map e m)) left name (record n { charge = n.charge + p.size })
      (files-edit (edit_map e m) (Put (OwnerOf p.owner) (cell.Owner taken)) (files-put_owner (map.get (edit_map e m)) p.owner taken (has-name (map.get m) s.0 p.owner o there) files))
      (holds-put (edit_map e m) p.owner taken (charge_of m) left (holds-edit m e (charge_of m) (λ owner c. refl) s.1)
      (omega (arith, s.1 p.owner o there, cost-own p.owner p refl))
      (λ owner other. omega (arith, cost-other owner p other)))
      (has-name (map.get m) s.0 name n new)
      (omega (arith, s.1 name n new, same name, after_put name, old name, cost-other name p apart, cost-own name q refl))
      (λ owner other. omega (arith, same owner, after_put owner, old owner, cost-other owner q other))

  -- ---- owners

  -- another record of an owner with its charge
  pub sound-owner : (name : List ℕ) (r : OwnerRecord) → r.name ≡ name → r.charge ≡ charge_of m name → AreSound (edit_map (Put (OwnerOf name) (cell.Owner r)) m)
  sound-owner name r named charged = settled m (charge_of m) name r s.0 s.1 named charged (λ owner apart. refl)

  -- an owner that is not there is charged nothing
  pub uncharged : (name : List ℕ) → is_some (owner_in (map.get m (OwnerOf name))) ≡ false → charge_of m name ≡ 0
  uncharged name none = sum_of-nothing keys_total exact_keys (λ (e : Key × Cell). cost name e.1) m each
    where
      free : (f : FileId) (p : Props) → map.get m (Leader f) ≡ Some (cell.Leader p) → p.owner ≡ name → ⊥
      free f p is same =
          let there = s.0.owned f p is in
          let yes : is_some (owner_in (map.get m (OwnerOf name))) ≡ true = ap (λ x. is_some (owner_in (map.get m (OwnerOf x)))) (sym same) ∙ ap (λ c. is_some (owner_in c)) there.1 in cc

      each : (k : Key) (c : Cell) → map.get m k ≡ Some c → cost name c ≡ 0
      each (Leader f) (cell.Leader p) is = cost-other name p (free f p is)
      each (Leader f) (cell.Page bytes) is = refl
      each (Leader f) (cell.Owner o) is = refl
      each (PageOf f n) (cell.Leader p) is = absurd (s.0.kinds (PageOf f n) (cell.Leader p) is)
      each (PageOf f n) (cell.Page bytes) is = refl
      each (PageOf f n) (cell.Owner o) is = refl
      each (OwnerOf x) (cell.Leader p) is = absurd (s.0.kinds (OwnerOf x) (cell.Leader p) is)
      each (OwnerOf x) (cell.Page bytes) is = refl
      each (OwnerOf x) (cell.Owner o) is = refl

-- ---- pages

sound-page : (m : Cells) → AreSound m → (f : FileId) (i : ℕ) (bytes : List ℕ) (p : Props) → map.get m (Leader f) ≡ Some (cell.Leader p) → i < p.size → AreSound (edit_map (Put (PageOf f i) (cell.Page bytes)) m)
sound-page m s f i bytes p here less = (
  files-edit m (Put (PageOf f i) (cell.Page bytes)) (files-put_page (map.get m) f i bytes p here less s.0),
  λ owner o is. holds-edit m (Put (PageOf f i) (cell.Page bytes)) (charge_of m) (λ x c. refl) s.1 owner o is ∙ sym (charge-page m s.0.kinds f i bytes owner),
)

-- pages that are put below the size leave the leader
pub leader-pages : (f : FileId) (first : ℕ) (pages : List (List ℕ)) (m : Cells) → map.get (edits_map (page_puts f first pages) m) (Leader f) ≡ map.get m (Leader f)
leader-pages f first [] m = refl
leader-pages f first (bytes ∷ pages) m =
    leader-pages f (first + 1) pages (edit_map (Put (PageOf f first) (cell.Page bytes)) m) ∙ get-edit_map (Put (PageOf f first) (cell.Page bytes)) m (Leader f)

pub sound-pages : (f : FileId) (p : Props) (pages : List (List ℕ)) (first : ℕ) (m : Cells) → AreSound m → map.get m (Leader f) ≡ Some (cell.Leader p) → first + length pages ≤ p.size → AreSound (edits_map (page_puts f first pages) m)
sound-pages f p [] first m s here within = s
sound-pages f p (bytes ∷ pages) first m s here within =
    sound-pages f p pages (first + 1) (edit_map (Put (PageOf f first) (cell.Page bytes)) m)
    (sound-page m s f first bytes p here (omega (arith, within)))
    (get-edit_map (Put (PageOf f first) (cell.Page bytes)) m (Leader f) ∙ here)
    (omega (arith, within))
