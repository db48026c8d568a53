-- a call gives no id but the next one
use Rattle.std.specs.Prelude.{cond, Bool, true, false, not, ◌==◌, ◌-◌, min, nat_lt, Option, None, Some, is_some}
use Rattle.std.specs.Ordering.{eq_by_cmp}
use Rattle.std.proofs.lemmas.Map.Views.{tells_apart}
use Rattle.std.proofs.Common.{◌≡◌, ℕ, zero, suc, ◌+◌, ◌<◌, ◌≤◌, List, [], ◌∷◌, ◌++◌, refl, sym, ◌∙◌, ap, subst, arith}
use Rattle.alp_base.specs.declared.ids.FileId.{FileId}
use Rattle.alp_base.specs.declared.ids.Run.{Run}
use Rattle.alp_base.specs.declared.key.Key.{Key}
use Rattle.alp_base.specs.declared.key.Key.TheVariants.{Leader, PageOf, OwnerOf}
use Rattle.alp_base.specs.declared.choices.Access.TheVariants.{ReadOnly, Change}
use Rattle.alp_base.specs.Keys.{key_cmp}
use Rattle.alp_base.specs.KeyLaws.{exact_keys}
use Rattle.alp_base.specs.declared.cell.Cell.{Cell}
use Rattle.alp_base.specs.declared.cell.Cell.TheVariants as cell
use Rattle.alp_base.specs.declared.cell.Props.{Props}
use Rattle.alp_files.specs.declared.call.Call.{Call}
use Rattle.alp_files.specs.declared.call.Call.TheVariants as call
use Rattle.alp_files.specs.declared.call.PropChange.{PropChange}
use Rattle.alp_files.specs.declared.call.PropChange.TheVariants as prop
use Rattle.alp_modes.specs.declared.Mode.{Mode}
use Rattle.alp_files.specs.declared.reply.Reply.{Reply}
use Rattle.alp_files.specs.declared.reply.Reply.TheVariants as reply
use Rattle.alp_files.specs.declared.refusal.Refusal.{Refusal}
use Rattle.alp_files.specs.declared.open.Open.{Open}
use Rattle.alp_files.specs.declared.refusal.Refusal.TheVariants as refusal
use Rattle.alp_files.specs.declared.refusal.ListName.TheVariants as lists
use Rattle.alp_files.specs.Cells.{View, same_file, same_name, props_in, owner_in, page_in}
use Rattle.alp_files.specs.Edits.{Edit, Drop, Cut, Put, after}
use Rattle.alp_files.specs.Act.{Own, Answer, Look, Ask, Say, run, unless, refused, replied, no_answer, admits, is_admin, is_over, quota_exceeded, charge_put, on_props, on_open, on_change, if_change, ask_pages, page_past, page_puts, mark_put, read_pages, write_pages, lock_pages, is_changing, close_file, delete_file, put_props, cut_file, grow_file, set_size, move_tests, move_file, write_props, read_owner, make_owner, set_quota, create_file, create_tests, created_file, is_new, owner_of, props_of, access_tests, opened, answer, id_in, open_at}
use Rattle.alp_files.specs.Born.{IsUnborn, count_after}
use Rattle.alp_files.proofs.EditLemmas.{after-append}

-- a leader that is seen has an id that was given
born_there : (server epoch count : ℕ) (m : View) (f : FileId) (c : Cell) → IsUnborn server epoch m count → m (Leader f) ≡ Some c
    → (n : ℕ) → Leader (record { server = server; epoch = epoch; counter = n }) ≡ Leader f → (count < n) → ⊥
born_there server epoch count m f c h there n same high =
    let none : m (Leader f) ≡ None = ap m (sym same) ∙ h n high in
    let wrong : Some c ≡ None = sym there ∙ none in cc

-- a leader is put for an id that was given
unborn_leader : (server epoch count : ℕ) (m : View) (f : FileId) (c : Cell) → IsUnborn server epoch m count
    → ((n : ℕ) → Leader (record { server = server; epoch = epoch; counter = n }) ≡ Leader f → (count < n) → ⊥)
    → IsUnborn server epoch (after (Put (Leader f) c ∷ []) m) count
unborn_leader server epoch count m f c h born n high =
    let q : Key = Leader (record { server = server; epoch = epoch; counter = n }) in
    let go : (b : Bool) → eq_by_cmp key_cmp q (Leader f) ≡ b → cond b (Some c) (m q) ≡ None = λ b. elim b as (λ x. eq_by_cmp key_cmp q (Leader f) ≡ x → cond x (Some c) (m q) ≡ None) [
      | true ↦ λ e. absurd (born n (tells_apart exact_keys q (Leader f) e) high)
      | false ↦ λ e. h n high
    ] in
    go (eq_by_cmp key_cmp q (Leader f)) refl

unborn_pages : (server epoch count : ℕ) (f : FileId) (ps : List (List ℕ)) (first : ℕ) (m : View) → IsUnborn server epoch m count → IsUnborn server epoch (after (page_puts f first ps) m) count
unborn_pages server epoch count f [] first m h = h
unborn_pages server epoch count f (p ∷ ps) first m h = unborn_pages server epoch count f ps (first + 1) (after (Put (PageOf f first) (cell.Page p) ∷ []) m) h

unborn_owner : (server epoch count : ℕ) (name : List ℕ) (c : Cell) (m : View) → IsUnborn server epoch m count → IsUnborn server epoch (after (Put (OwnerOf name) c ∷ []) m) count
unborn_owner server epoch count name c m h = h

-- what goes takes no leader above the count along that was not there
unborn_drop : (server epoch count : ℕ) (f : FileId) (m : View) → IsUnborn server epoch m count → IsUnborn server epoch (after (Drop f ∷ []) m) count
unborn_drop server epoch count f m h n high =
    let g : FileId = record { server = server; epoch = epoch; counter = n } in
    elim (same_file f g) as (λ b. cond b None (m (Leader g)) ≡ None) [ true ↦ refl | false ↦ h n high ]

-- a count that is higher
pub unborn_more : (server epoch m n : ℕ) (v : View) → m ≤ n → IsUnborn server epoch v m → IsUnborn server epoch v n
unborn_more server epoch m n v le h k high = h k (omega arith)

pub props_leader : (c : Option Cell) (p : Props) → props_in c ≡ Some p → c ≡ Some (cell.Leader p)
props_leader (Some (cell.Leader q)) p e = let same : q ≡ p = cc in ap (λ (x : Props). Some (cell.Leader x)) same
props_leader (Some (cell.Page bytes)) p e = cc
props_leader (Some (cell.Owner o)) p e = cc
props_leader None p e = cc

-- ---- answers, one call after the other

module _ (server epoch count : ℕ) (m : View) (h : IsUnborn server epoch m count) where
  -- what is seen after these edits has no id above the count either
  Keeps : List Edit → Type 0
  Keeps es = IsUnborn server epoch (after es m) count

  keeps_unless : (own : Own) (ts : List (Bool × Refusal)) (a : Answer) → Keeps a.edits → Keeps (unless own ts a).edits
  unfolding Keeps
  keeps_unless own [] a k = k
  keeps_unless own (t ∷ ts) a k =
      elim (t.0) as (λ b. Keeps (cond b (refused own t.1) (unless own ts a)).edits) [ true ↦ h | false ↦ keeps_unless own ts a k ]

  keeps_props : (own : Own) (o : Open) (next : Open → Props → Look) → ((p : Props) → m (Leader o.file) ≡ Some (cell.Leader p) → Keeps (run m (next o p)).edits)
      → Keeps (run m (on_props own (props_in (m (Leader o.file))) (next o))).edits
  unfolding Keeps
  keeps_props own o next k =
      let go : (x : Option Props) → props_in (m (Leader o.file)) ≡ x → Keeps (run m (on_props own x (next o))).edits = λ x. elim x as (λ y. props_in (m (Leader o.file)) ≡ y → Keeps (run m (on_props own y (next o))).edits) [
        | None ↦ λ e. h
        | Some p ↦ λ e. k p (props_leader (m (Leader o.file)) p e)
      ] in
      go (props_in (m (Leader o.file))) refl

  keeps_open : (own : Own) (oo : Option Open) (next : Open → Props → Look) → ((o : Open) (p : Props) → m (Leader o.file) ≡ Some (cell.Leader p) → Keeps (run m (next o p)).edits)
      → Keeps (run m (on_open own oo next)).edits
  unfolding Keeps
  keeps_open own None next k = h
  keeps_open own (Some o) next k = keeps_props own o next (k o)

  keeps_change : (own : Own) (oo : Option Open) (next : Open → Props → Look) → ((o : Open) (p : Props) → m (Leader o.file) ≡ Some (cell.Leader p) → Keeps (run m (next o p)).edits)
      → Keeps (run m (on_change own oo next)).edits
  unfolding Keeps
  keeps_change own None next k = h
  keeps_change own (Some o) next k = elim (o.access) as (λ a. Keeps (run m (if_change own a (Ask (Leader o.file) (λ lc. on_props own (props_in lc) (next o))))).edits) [ ReadOnly ↦ h | Change ↦ keeps_props own o next (k o) ]

  keeps_read : (own : Own) (f : FileId) (n first : ℕ) (next : List (List ℕ) → Answer) → ((ps : List (List ℕ)) → Keeps (next ps).edits) → Keeps (run m (ask_pages f first n (λ ps. Say (next ps)))).edits
  unfolding Keeps
  keeps_read own f zero first next k = k []
  keeps_read own f (suc n) first next k = keeps_read own f n (first + 1) (λ ps. next (page_in (m (PageOf f first)) ∷ ps)) (λ ps. k (page_in (m (PageOf f first)) ∷ ps))

  keeps_mark : (f : FileId) (p : Props) (last : ℕ) (v : View) → m (Leader f) ≡ Some (cell.Leader p) → IsUnborn server epoch v count → IsUnborn server epoch (after (mark_put f p last) v) count
  keeps_mark f p last v there k =
      elim (nat_lt p.high_water last) as (λ b. IsUnborn server epoch (after (cond b (Put (Leader f) (cell.Leader (record p { high_water = last })) ∷ []) []) v) count) [
        | true ↦ unborn_leader server epoch count v f (cell.Leader (record p { high_water = last })) k (born_there server epoch count m f (cell.Leader p) h there)
        | false ↦ k
      ]

  keeps_write : (own : Own) (r : Run) (pages : List (List ℕ)) (o : Open) (p : Props) → m (Leader o.file) ≡ Some (cell.Leader p) → Keeps (run m (write_pages own r pages o p)).edits
  unfolding Keeps
  keeps_write own r pages o p there =
      keeps_unless own (page_past r p) (replied own reply.Plain (page_puts o.file r.first pages ++ mark_put o.file p (r.first + r.count)))
      (subst (λ (v : View). IsUnborn server epoch v count) (sym (after-append (page_puts o.file r.first pages) (mark_put o.file p (r.first + r.count)) m))
      (keeps_mark o.file p (r.first + r.count) (after (page_puts o.file r.first pages) m) there (unborn_pages server epoch count o.file pages r.first m h)))

  keeps_pages : (own : Own) (r : Run) (o : Open) (p : Props) → Keeps (run m (read_pages own r o p)).edits
  unfolding Keeps
  keeps_pages own r o p =
      elim (nat_lt p.size (r.first + r.count)) as (λ b. Keeps (run m (cond b (Say (refused own (refusal.NoSuchPage p.size))) (ask_pages o.file r.first r.count (λ ps. Say (replied own (reply.Pages ps) []))))).edits) [
        | true ↦ h
        | false ↦ keeps_read own o.file r.count r.first (λ ps. replied own (reply.Pages ps) []) (λ ps. h)
      ]

  keeps_owner : (own : Own) (who name : List ℕ) (quota : ℕ) (create : List (List ℕ)) → Keeps (run m (make_owner own who name quota create)).edits
  unfolding Keeps
  keeps_owner own who name quota create = keeps_unless own
      ((is_some (owner_in (m (OwnerOf name))), refusal.OwnerExists) ∷ (not (is_admin who), refusal.AccessDenied lists.Admin) ∷ [])
      (replied own reply.Plain (Put (OwnerOf name) (cell.Owner (record { name = name; quota = quota; charge = 0; create = create })) ∷ []))
      (unborn_owner server epoch count name (cell.Owner (record { name = name; quota = quota; charge = 0; create = create })) m h)

  -- the leader of a file that is seen
  keeps_leader : (o : Open) (p new : Props) → m (Leader o.file) ≡ Some (cell.Leader p) → IsUnborn server epoch (after (Put (Leader o.file) (cell.Leader new) ∷ []) m) count
  keeps_leader o p new there = unborn_leader server epoch count m o.file (cell.Leader new) h (born_there server epoch count m o.file (cell.Leader p) h there)

  keeps_close : (own : Own) (n : ℕ) (oo : Option Open) → Keeps (run m (close_file own n oo)).edits
  unfolding Keeps
  keeps_close own n None = h
  keeps_close own n (Some o) = h

  keeps_delete : (own : Own) (o : Open) (p : Props) → Keeps (run m (delete_file own o p)).edits
  unfolding Keeps
  keeps_delete own o p = unborn_drop server epoch count o.file m h

  keeps_lock : (own : Own) (mode : Mode) (r : Run) (oo : Option Open)
      → Keeps (run m (cond (is_changing mode) (on_change own oo (lock_pages own r)) (on_open own oo (lock_pages own r)))).edits
  unfolding Keeps
  keeps_lock own mode r oo =
      elim (is_changing mode) as (λ b. Keeps (run m (cond b (on_change own oo (lock_pages own r)) (on_open own oo (lock_pages own r)))).edits) [
        | true ↦ keeps_change own oo (lock_pages own r) (λ o p there. keeps_unless own (page_past r p) (replied own reply.Plain []) h)
        | false ↦ keeps_open own oo (lock_pages own r) (λ o p there. keeps_unless own (page_past r p) (replied own reply.Plain []) h)
      ]

  keeps_put : (own : Own) (o : Open) (p new : Props) → m (Leader o.file) ≡ Some (cell.Leader p) → Keeps (run m (put_props own o new)).edits
  unfolding Keeps
  keeps_put own o p new there = keeps_leader o p new there

  keeps_cut : (own : Own) (size : ℕ) (o : Open) (p : Props) → m (Leader o.file) ≡ Some (cell.Leader p) → Keeps (run m (cut_file own size o p)).edits
  unfolding Keeps
  keeps_cut own size o p there = keeps_leader o p (record p { size = size; high_water = min p.high_water size }) there

  keeps_grow : (own : Own) (size : ℕ) (o : Open) (p : Props) → m (Leader o.file) ≡ Some (cell.Leader p) → Keeps (run m (grow_file own size o p)).edits
  unfolding Keeps
  keeps_grow own size o p there =
      let oc : Option Cell = m (OwnerOf p.owner) in
      keeps_unless own ((is_over (owner_of oc) (size - p.size), quota_exceeded (owner_of oc) (size - p.size)) ∷ [])
      (replied own reply.Plain (Put (Leader o.file) (cell.Leader (record p { size = size })) ∷ charge_put p.owner (owner_of oc) ((owner_of oc).charge + (size - p.size)) ∷ []))
      (keeps_leader o p (record p { size = size }) there)

  keeps_size : (own : Own) (size : ℕ) (o : Open) (p : Props) → m (Leader o.file) ≡ Some (cell.Leader p) → Keeps (run m (set_size own size o p)).edits
  unfolding Keeps
  keeps_size own size o p there =
      elim (size == p.size) as (λ b. Keeps (run m (cond b (put_props own o p) (cond (nat_lt size p.size) (cut_file own size o p) (grow_file own size o p)))).edits) [
        | true ↦ keeps_put own o p p there
        | false ↦ elim (nat_lt size p.size) as (λ b. Keeps (run m (cond b (cut_file own size o p) (grow_file own size o p))).edits) [
          | true ↦ keeps_cut own size o p there
          | false ↦ keeps_grow own size o p there
        ]
      ]

  keeps_move : (own : Own) (who name : List ℕ) (o : Open) (p : Props) → m (Leader o.file) ≡ Some (cell.Leader p) → Keeps (run m (move_file own who name o p)).edits
  unfolding Keeps
  keeps_move own who name o p there =
      let nc : Option Cell = m (OwnerOf name) in
      let oc : Option Cell = m (OwnerOf p.owner) in
      let moved : Answer = replied own reply.Plain (Put (Leader o.file) (cell.Leader (record p { owner = name }))
      ∷ charge_put p.owner (owner_of oc) ((owner_of oc).charge - p.size) ∷ charge_put name (owner_of nc) ((owner_of nc).charge + p.size) ∷ []) in
      elim (same_name p.owner name) as (λ b. Keeps (run m (cond b (Say (replied own reply.Plain []))
      (Ask (OwnerOf name) (λ nc. Ask (OwnerOf p.owner) (λ oc. Say (unless own (move_tests who name p.size nc) (replied own reply.Plain (Put (Leader o.file) (cell.Leader (record p { owner = name }))
      ∷ charge_put p.owner (owner_of oc) ((owner_of oc).charge - p.size) ∷ charge_put name (owner_of nc) ((owner_of nc).charge + p.size) ∷ [])))))))).edits) [
        | true ↦ h
        | false ↦ keeps_unless own (move_tests who name p.size nc) moved (keeps_leader o p (record p { owner = name }) there)
      ]

  keeps_props_put : (own : Own) (who : List ℕ) (change : PropChange) (o : Open) (p : Props) → m (Leader o.file) ≡ Some (cell.Leader p) → Keeps (run m (write_props own who change o p)).edits
  unfolding Keeps
  keeps_props_put own who (prop.Owner n) o p there = keeps_move own who n o p there
  keeps_props_put own who (prop.Name n) o p there = keeps_put own o p (record p { name = n }) there
  keeps_props_put own who (prop.TypeNo n) o p there = keeps_put own o p (record p { type_no = n }) there
  keeps_props_put own who (prop.ByteLength n) o p there = keeps_put own o p (record p { byte_length = n }) there
  keeps_props_put own who (prop.Read l) o p there = keeps_put own o p (record p { read = l }) there
  keeps_props_put own who (prop.Modify l) o p there = keeps_put own o p (record p { modify = l }) there

  keeps_quota : (own : Own) (who name : List ℕ) (quota : ℕ) → Keeps (run m (set_quota own who name quota)).edits
  unfolding Keeps
  keeps_quota own who name quota = keeps_unless own
      ((not (is_some (owner_in (m (OwnerOf name)))), refusal.UnknownOwner) ∷ (not (is_admin who), refusal.AccessDenied lists.Admin) ∷ [])
      (replied own reply.Plain (Put (OwnerOf name) (cell.Owner (record (owner_of (m (OwnerOf name))) { quota = quota })) ∷ []))
      h

counter_in : Key → ℕ
counter_in (Leader f) = f.counter
counter_in (PageOf f n) = 0
counter_in (OwnerOf name) = 0

-- a create gives the next id, or none
module _ (server epoch count : ℕ) (m : View) (h : IsUnborn server epoch m count) where
  id_born : (n : ℕ) → Leader (record { server = server; epoch = epoch; counter = n }) ≡ Leader (record { server = server; epoch = epoch; counter = count + 1 }) → (count + 1 < n) → ⊥
  unfolding counter_in
  id_born n same high = let e : n ≡ count + 1 = ap counter_in same in omega arith

  keeps_create : (made : List FileId) (own : Own) (who : List ℕ) (start : Props)
      → IsUnborn server epoch (after (run m (create_file server made own who start (Some (record { server = server; epoch = epoch; counter = count + 1 })))).edits m) (count + 1)
  unfolding Keeps
  keeps_create made own who start =
      let f : FileId = record { server = server; epoch = epoch; counter = count + 1 } in
      let more : IsUnborn server epoch m (count + 1) = unborn_more server epoch count (count + 1) m (omega arith) h in
      let oc : Option Cell = m (OwnerOf start.owner) in
      keeps_unless server epoch (count + 1) m more own (create_tests who start oc)
      (cond (is_new server made f (m (Leader f))) (created_file own start (owner_of oc) f) (no_answer own))
      (elim (is_new server made f (m (Leader f))) as (λ b. IsUnborn server epoch (after (cond b (created_file own start (owner_of oc) f) (no_answer own)).edits m) (count + 1)) [
        | true ↦ unborn_leader server epoch (count + 1) m f (cell.Leader (record start { byte_length = 0; high_water = 0 })) more id_born
        | false ↦ more
      ])

  keeps_refusal : (made : List FileId) (own : Own) (who : List ℕ) (start : Props) → IsUnborn server epoch (after (run m (create_file server made own who start None)).edits m) count
  unfolding Keeps
  keeps_refusal made own who start = keeps_unless server epoch count m h own (create_tests who start (m (OwnerOf start.owner))) (no_answer own) h

-- after a call no id above the count is seen, whatever is answered
pub unborn_kept : (server epoch count : ℕ) (made : List FileId) (m : View) (who : List ℕ) (own : Own) (c : Call) (r : Reply)
    → IsUnborn server epoch m count
    → ((f : FileId) (n : ℕ) → r ≡ reply.Created f n → f ≡ record { server = server; epoch = epoch; counter = count + 1 })
    → IsUnborn server epoch (after (answer server made m who own c r).edits m) (count_after count r)
unfolding Keeps
unborn_kept server epoch count made m who own c r h id = go c r id
  where
    below : (r : Reply) → count ≤ count_after count r
    below (reply.Created f n) = omega arith
    below (reply.Welcome e) = omega arith
    below (reply.Begun t) = omega arith
    below reply.Joined = omega arith
    below (reply.Opened n) = omega arith
    below reply.Plain = omega arith
    below (reply.Pages ps) = omega arith
    below (reply.Props p) = omega arith
    below (reply.Owner o) = omega arith
    below (reply.Committed s) = omega arith
    below (reply.Ended e) = omega arith
    below (reply.Refused f) = omega arith

    more : (es : List Edit) (r : Reply) → Keeps server epoch count m h es → IsUnborn server epoch (after es m) (count_after count r)
    more es r k = unborn_more server epoch count (count_after count r) (after es m) (below r) k

    created : (start : Props) (r : Reply) → ((f : FileId) (n : ℕ) → r ≡ reply.Created f n → f ≡ record { server = server; epoch = epoch; counter = count + 1 })
        → IsUnborn server epoch (after (run m (create_file server made own who start (id_in r))).edits m) (count_after count r)
    created start (reply.Created f n) id =
        subst (λ (g : FileId). IsUnborn server epoch (after (run m (create_file server made own who start (Some g))).edits m) (count + 1)) (sym (id f n refl)) (keeps_create server epoch count m h made own who start)
    created start (reply.Welcome e) id = keeps_refusal server epoch count m h made own who start
    created start (reply.Begun t) id = keeps_refusal server epoch count m h made own who start
    created start reply.Joined id = keeps_refusal server epoch count m h made own who start
    created start (reply.Opened n) id = keeps_refusal server epoch count m h made own who start
    created start reply.Plain id = keeps_refusal server epoch count m h made own who start
    created start (reply.Pages ps) id = keeps_refusal server epoch count m h made own who start
    created start (reply.Props p) id = keeps_refusal server epoch count m h made own who start
    created start (reply.Owner o) id = keeps_refusal server epoch count m h made own who start
    created start (reply.Committed s) id = keeps_refusal server epoch count m h made own who start
    created start (reply.Ended e) id = keeps_refusal server epoch count m h made own who start
    created start (reply.Refused f) id = keeps_refusal server epoch count m h made own who start

    go : (c : Call) (r : Reply) → ((f : FileId) (n : ℕ) → r ≡ reply.Created f n → f ≡ record { server = server; epoch = epoch; counter = count + 1 })
        → IsUnborn server epoch (after (answer server made m who own c r).edits m) (count_after count r)
    go (call.CreateFile t start choice) r id = created start r id
    go (call.OpenFile t f a mode choice) r id = more ((answer server made m who own (call.OpenFile t f a mode choice) r).edits) r (keeps_unless server epoch count m h own
        ((not (is_some (props_in (m (Leader f)))), refusal.UnknownFile) ∷ access_tests a who (props_of (m (Leader f)))) (record { reply = Some (reply.Opened (own.last + 1)); edits = []; own = opened own f a }) h)
    go (call.CloseFile t n) r id = more ((answer server made m who own (call.CloseFile t n) r).edits) r (keeps_close server epoch count m h own n (open_at own.opens n))
    go (call.DeleteFile t n choice) r id = more ((answer server made m who own (call.DeleteFile t n choice) r).edits) r (keeps_change server epoch count m h own (open_at own.opens n) (delete_file own) (λ o p there. keeps_delete server epoch count m h own o p))
    go (call.ReadPages t n run mode choice) r id = more ((answer server made m who own (call.ReadPages t n run mode choice) r).edits) r (keeps_open server epoch count m h own (open_at own.opens n) (read_pages own run) (λ o p there. keeps_pages server epoch count m h own run o p))
    go (call.WritePages t n run pages choice) r id = more ((answer server made m who own (call.WritePages t n run pages choice) r).edits) r (keeps_change server epoch count m h own (open_at own.opens n) (write_pages own run pages) (λ o p there. keeps_write server epoch count m h own run pages o p there))
    go (call.LockPages t n run mode choice) r id = more ((answer server made m who own (call.LockPages t n run mode choice) r).edits) r (keeps_lock server epoch count m h own mode run (open_at own.opens n))
    go (call.SetSize t n size choice) r id = more ((answer server made m who own (call.SetSize t n size choice) r).edits) r (keeps_change server epoch count m h own (open_at own.opens n) (set_size own size) (λ o p there. keeps_size server epoch count m h own size o p there))
    go (call.ReadProps t n) r id = more ((answer server made m who own (call.ReadProps t n) r).edits) r (keeps_open server epoch count m h own (open_at own.opens n) (λ o p. Say (replied own (reply.Props p) [])) (λ o p there. h))
    go (call.WriteProps t n change choice) r id = more ((answer server made m who own (call.WriteProps t n change choice) r).edits) r (keeps_change server epoch count m h own (open_at own.opens n) (write_props own who change) (λ o p there. keeps_props_put server epoch count m h own who change o p there))
    go (call.ReadOwner t name choice) r id = more ((answer server made m who own (call.ReadOwner t name choice) r).edits) r (keeps_unless server epoch count m h own
        ((not (is_some (owner_in (m (OwnerOf name)))), refusal.UnknownOwner) ∷ []) (replied own (reply.Owner (owner_of (m (OwnerOf name)))) []) h)
    go (call.MakeOwner t name quota create choice) r id = more ((answer server made m who own (call.MakeOwner t name quota create choice) r).edits) r (keeps_owner server epoch count m h own who name quota create)
    go (call.SetQuota t name quota choice) r id = more ((answer server made m who own (call.SetQuota t name quota choice) r).edits) r (keeps_quota server epoch count m h own who name quota)
    go (call.Hello name) r id = more [] r h
    go (call.Begin seen) r id = more [] r h
    go (call.Join t) r id = more [] r h
    go (call.Finish t commit) r id = more [] r h
    go (call.Outcome t) r id = more [] r h
    go (call.Collect n) r id = more [] r h
