-- a file that is not seen is not seen behind a call that does not make it
use Rattle.std.specs.Prelude.{cond, Bool, true, false, not, ◌==◌, min, nat_lt, Option, None, Some, is_some}
use Rattle.std.specs.Ordering.{eq_by_cmp}
use Rattle.std.proofs.lemmas.Map.Views.{tells_apart}
use Rattle.std.proofs.Common.{◌≡◌, ℕ, zero, suc, ◌+◌, ◌-◌, List, [], ◌∷◌, ◌++◌, refl, sym, ◌∙◌, ap, subst}
use Rattle.alp_base.specs.declared.ids.FileId.{FileId}
use Rattle.alp_base.specs.declared.ids.Run.{Run}
use Rattle.alp_base.specs.declared.key.Key.TheVariants.{Leader, PageOf, OwnerOf}
use Rattle.alp_base.specs.declared.choices.Access.TheVariants.{ReadOnly, Change}
use Rattle.alp_base.specs.Keys.{key_cmp}
use Rattle.alp_base.specs.KeyLaws.{exact_keys}
use Rattle.alp_base.specs.declared.cell.Cell.{Cell}
use Rattle.alp_base.specs.declared.cell.Cell.TheVariants as cell
use Rattle.alp_base.specs.declared.cell.Props.{Props}
use Rattle.alp_files.specs.declared.call.Call.{Call}
use Rattle.alp_files.specs.declared.call.Call.TheVariants as call
use Rattle.alp_files.specs.declared.call.PropChange.{PropChange}
use Rattle.alp_files.specs.declared.call.PropChange.TheVariants as prop
use Rattle.alp_files.specs.declared.reply.Reply.{Reply}
use Rattle.alp_files.specs.declared.reply.Reply.TheVariants as reply
use Rattle.alp_files.specs.declared.refusal.Refusal.{Refusal}
use Rattle.alp_files.specs.declared.open.Open.{Open}
use Rattle.alp_files.specs.declared.refusal.Refusal.TheVariants as refusal
use Rattle.alp_files.specs.declared.refusal.ListName.TheVariants as lists
use Rattle.alp_files.specs.Cells.{View, same_file, same_name, props_in, owner_in, page_in}
use Rattle.alp_files.specs.Edits.{Edit, Drop, Put, after}
use Rattle.alp_files.specs.Act.{Own, Answer, Look, Ask, Say, run, unless, refused, replied, no_answer, is_admin, is_over, quota_exceeded, charge_put, on_props, on_open, on_change, if_change, ask_pages, page_past, page_puts, mark_put, read_pages, write_pages, lock_pages, is_changing, close_file, delete_file, put_props, cut_file, grow_file, set_size, move_tests, move_file, write_props, make_owner, set_quota, create_file, create_tests, created_file, is_new, owner_of, props_of, access_tests, opened, answer, id_in, open_at}
use Rattle.alp_files.proofs.BornLemmas.{props_leader}
use Rattle.alp_files.proofs.EditLemmas.{after-append}

module _ (away : FileId) where
  -- this file is not seen
  abbrev pub IsAway : View → Type 0
  IsAway m = m (Leader away) ≡ None

  -- it is none that is seen
  there_not : (m : View) (f : FileId) (c : Cell) → IsAway m → m (Leader f) ≡ Some c → Leader away ≡ Leader f → ⊥
  there_not m f c h there same = (let none : m (Leader f) ≡ None = ap m (sym same) ∙ h in let wrong : Some c ≡ None = sym there ∙ none in cc)

  away_leader : (m : View) (f : FileId) (c : Cell) → IsAway m → (Leader away ≡ Leader f → ⊥) → IsAway (after (Put (Leader f) c ∷ []) m)
  away_leader m f c h other = go (eq_by_cmp key_cmp (Leader away) (Leader f)) refl
    where
      go : (b : Bool) → eq_by_cmp key_cmp (Leader away) (Leader f) ≡ b → cond b (Some c) (m (Leader away)) ≡ None
      go true e = absurd (other (tells_apart exact_keys (Leader away) (Leader f) e))
      go false e = h

  away_pages : (f : FileId) (ps : List (List ℕ)) (first : ℕ) (m : View) → IsAway m → IsAway (after (page_puts f first ps) m)
  away_pages f [] first m h = h
  away_pages f (p ∷ ps) first m h = away_pages f ps (first + 1) (after (Put (PageOf f first) (cell.Page p) ∷ []) m) h

  away_owner : (name : List ℕ) (c : Cell) (m : View) → IsAway m → IsAway (after (Put (OwnerOf name) c ∷ []) m)
  away_owner name c m h = h

  away_drop : (f : FileId) (m : View) → IsAway m → IsAway (after (Drop f ∷ []) m)
  away_drop f m h = elim (same_file f away) as (λ b. cond b None (m (Leader away)) ≡ None) [ true ↦ refl | false ↦ h ]

  -- ---- answers, one call after the other

  module _ (m : View) (h : IsAway m) where
    -- nor is it after these edits
    Keeps : List Edit → Type 0
    Keeps es = IsAway (after es m)

    keeps_unless : (own : Own) (ts : List (Bool × Refusal)) (a : Answer) → Keeps a.edits → Keeps (unless own ts a).edits
    unfolding Keeps
    keeps_unless own [] a k = k
    keeps_unless own (t ∷ ts) a k =
        elim (t.0) as (λ b. Keeps (cond b (refused own t.1) (unless own ts a)).edits) [ true ↦ h | false ↦ keeps_unless own ts a k ]

    keeps_props : (own : Own) (o : Open) (next : Open → Props → Look) → ((p : Props) → m (Leader o.file) ≡ Some (cell.Leader p) → Keeps (run m (next o p)).edits)
        → Keeps (run m (on_props own (props_in (m (Leader o.file))) (next o))).edits
    unfolding Keeps
    keeps_props own o next k =
        let go : (x : Option Props) → props_in (m (Leader o.file)) ≡ x → Keeps (run m (on_props own x (next o))).edits = λ x. elim x as (λ y. props_in (m (Leader o.file)) ≡ y → Keeps (run m (on_props own y (next o))).edits) [
          | None ↦ λ e. h
          | Some p ↦ λ e. k p (props_leader (m (Leader o.file)) p e)
        ] in
        go (props_in (m (Leader o.file))) refl

    keeps_open : (own : Own) (oo : Option Open) (next : Open → Props → Look) → ((o : Open) (p : Props) → m (Leader o.file) ≡ Some (cell.Leader p) → Keeps (run m (next o p)).edits)
        → Keeps (run m (on_open own oo next)).edits
    unfolding Keeps
    keeps_open own None next k = h
    keeps_open own (Some o) next k = keeps_props own o next (k o)

    keeps_change : (own : Own) (oo : Option Open) (next : Open → Props → Look) → ((o : Open) (p : Props) → m (Leader o.file) ≡ Some (cell.Leader p) → Keeps (run m (next o p)).edits)
        → Keeps (run m (on_change own oo next)).edits
    unfolding Keeps
    keeps_change own None next k = h
    keeps_change own (Some o) next k = elim (o.access) as (λ a. Keeps (run m (if_change own a (Ask (Leader o.file) (λ lc. on_props own (props_in lc) (next o))))).edits) [ ReadOnly ↦ h | Change ↦ keeps_props own o next (k o) ]

    keeps_read : (own : Own) (f : FileId) (n first : ℕ) (next : List (List ℕ) → Answer) → ((ps : List (List ℕ)) → Keeps (next ps).edits) → Keeps (run m (ask_pages f first n (λ ps. Say (next ps)))).edits
    unfolding Keeps
    keeps_read own f zero first next k = k []
    keeps_read own f (suc n) first next k = keeps_read own f n (first + 1) (λ ps. next (page_in (m (PageOf f first)) ∷ ps)) (λ ps. k (page_in (m (PageOf f first)) ∷ ps))

    keeps_mark : (f : FileId) (p : Props) (last : ℕ) (v : View) → m (Leader f) ≡ Some (cell.Leader p) → IsAway v → IsAway (after (mark_put f p last) v)
    keeps_mark f p last v there k =
        elim (nat_lt p.high_water last) as (λ b. IsAway (after (cond b (Put (Leader f) (cell.Leader (record p { high_water = last })) ∷ []) []) v)) [
          | true ↦ away_leader v f (cell.Leader (record p { high_water = last })) k (there_not m f (cell.Leader p) h there)
          | false ↦ k
        ]

    keeps_write : (own : Own) (r : Run) (pages : List (List ℕ)) (o : Open) (p : Props) → m (Leader o.file) ≡ Some (cell.Leader p) → Keeps (run m (write_pages own r pages o p)).edits
    unfolding Keeps
    keeps_write own r pages o p there =
        keeps_unless own (page_past r p) (replied own reply.Plain (page_puts o.file r.first pages ++ mark_put o.file p (r.first + r.count)))
        (subst (λ (v : View). IsAway v) (sym (after-append (page_puts o.file r.first pages) (mark_put o.file p (r.first + r.count)) m))
        (keeps_mark o.file p (r.first + r.count) (after (page_puts o.file r.first pages) m) there (away_pages o.file pages r.first m h)))

    keeps_pages : (own : Own) (r : Run) (o : Open) (p : Props) → Keeps (run m (read_pages own r o p)).edits
    unfolding Keeps
    keeps_pages own r o p =
        elim (nat_lt p.size (r.first + r.count)) as (λ b. Keeps (run m (cond b (Say (refused own (refusal.NoSuchPage p.size))) (ask_pages o.file r.first r.count (λ ps. Say (replied own (reply.Pages ps) []))))).edits) [
          | true ↦ h
          | false ↦ keeps_read own o.file r.count r.first (λ ps. replied own (reply.Pages ps) []) (λ ps. h)
        ]

    keeps_owner : (own : Own) (who name : List ℕ) (quota : ℕ) (create : List (List ℕ)) → Keeps (run m (make_owner own who name quota create)).edits
    unfolding Keeps
    keeps_owner own who name quota create = keeps_unless own
        ((is_some (owner_in (m (OwnerOf name))), refusal.OwnerExists) ∷ (not (is_admin who), refusal.AccessDenied lists.Admin) ∷ [])
        (replied own reply.Plain (Put (OwnerOf name) (cell.Owner (record { name = name; quota = quota; charge = 0; create = create })) ∷ []))
        (away_owner name (cell.Owner (record { name = name; quota = quota; charge = 0; create = create })) m h)

    -- the leader of a file that is seen
    keeps_leader : (o : Open) (p new : Props) → m (Leader o.file) ≡ Some (cell.Leader p) → IsAway (after (Put (Leader o.file) (cell.Leader new) ∷ []) m)
    keeps_leader o p new there = away_leader m o.file (cell.Leader new) h (there_not m o.file (cell.Leader p) h there)

    keeps_close : (own : Own) (n : ℕ) (oo : Option Open) → Keeps (run m (close_file own n oo)).edits
    unfolding Keeps
    keeps_close own n None = h
    keeps_close own n (Some o) = h

    keeps_delete : (own : Own) (o : Open) (p : Props) → Keeps (run m (delete_file own o p)).edits
    unfolding Keeps
    keeps_delete own o p = away_drop o.file m h

    keeps_lock : (own : Own) (mode : _) (r : Run) (oo : Option Open)
        → Keeps (run m (cond (is_changing mode) (on_change own oo (lock_pages own r)) (on_open own oo (lock_pages own r)))).edits
    unfolding Keeps
    keeps_lock own mode r oo =
        elim (is_changing mode) as (λ b. Keeps (run m (cond b (on_change own oo (lock_pages own r)) (on_open own oo (lock_pages own r)))).edits) [
          | true ↦ keeps_change own oo (lock_pages own r) (λ o p there. keeps_unless own (page_past r p) (replied own reply.Plain []) h)
          | false ↦ keeps_open own oo (lock_pages own r) (λ o p there. keeps_unless own (page_past r p) (replied own reply.Plain []) h)
        ]

    keeps_put : (own : Own) (o : Open) (p new : Props) → m (Leader o.file) ≡ Some (cell.Leader p) → Keeps (run m (put_props own o new)).edits
    unfolding Keeps
    keeps_put own o p new there = keeps_leader o p new there

    keeps_cut : (own : Own) (size : ℕ) (o : Open) (p : Props) → m (Leader o.file) ≡ Some (cell.Leader p) → Keeps (run m (cut_file own size o p)).edits
    unfolding Keeps
    keeps_cut own size o p there = keeps_leader o p (record p { size = size; high_water = min p.high_water size }) there

    keeps_grow : (own : Own) (size : ℕ) (o : Open) (p : Props) → m (Leader o.file) ≡ Some (cell.Leader p) → Keeps (run m (grow_file own size o p)).edits
    unfolding Keeps
    keeps_grow own size o p there =
        let oc : Option Cell = m (OwnerOf p.owner) in
        keeps_unless own ((is_over (owner_of oc) (size - p.size), quota_exceeded (owner_of oc) (size - p.size)) ∷ [])
        (replied own reply.Plain (Put (Leader o.file) (cell.Leader (record p { size = size })) ∷ charge_put p.owner (owner_of oc) ((owner_of oc).charge + (size - p.size)) ∷ []))
        (keeps_leader o p (record p { size = size }) there)

    keeps_size : (own : Own) (size : ℕ) (o : Open) (p : Props) → m (Leader o.file) ≡ Some (cell.Leader p) → Keeps (run m (set_size own size o p)).edits
    unfolding Keeps
    keeps_size own size o p there =
        elim (size == p.size) as (λ b. Keeps (run m (cond b (put_props own o p) (cond (nat_lt size p.size) (cut_file own size o p) (grow_file own size o p)))).edits) [
          | true ↦ keeps_put own o p p there
          | false ↦ elim (nat_lt size p.size) as (λ b. Keeps (run m (cond b (cut_file own size o p) (grow_file own size o p))).edits) [
            | true ↦ keeps_cut own size o p there
            | false ↦ keeps_grow own size o p there
          ]
        ]

    keeps_move : (own : Own) (who name : List ℕ) (o : Open) (p : Props) → m (Leader o.file) ≡ Some (cell.Leader p) → Keeps (run m (move_file own who name o p)).edits
    unfolding Keeps
    keeps_move own who name o p there =
        let nc : Option Cell = m (OwnerOf name) in
        let oc : Option Cell = m (OwnerOf p.owner) in
        let moved : Answer = replied own reply.Plain (Put (Leader o.file) (cell.Leader (record p { owner = name }))
        ∷ charge_put p.owner (owner_of oc) ((owner_of oc).charge - p.size) ∷ charge_put name (owner_of nc) ((owner_of nc).charge + p.size) ∷ []) in
        elim (same_name p.owner name) as (λ b. Keeps (run m (cond b (Say (replied own reply.Plain []))
        (Ask (OwnerOf name) (λ nc. Ask (OwnerOf p.owner) (λ oc. Say (unless own (move_tests who name p.size nc) (replied own reply.Plain (Put (Leader o.file) (cell.Leader (record p { owner = name }))
        ∷ charge_put p.owner (owner_of oc) ((owner_of oc).charge - p.size) ∷ charge_put name (owner_of nc) ((owner_of nc).charge + p.size) ∷ [])))))))).edits) [
          | true ↦ h
          | false ↦ keeps_unless own (move_tests who name p.size nc) moved (keeps_leader o p (record p { owner = name }) there)
        ]

    keeps_props_put : (own : Own) (who : List ℕ) (change : PropChange) (o : Open) (p : Props) → m (Leader o.file) ≡ Some (cell.Leader p) → Keeps (run m (write_props own who change o p)).edits
    unfolding Keeps
    keeps_props_put own who (prop.Owner n) o p there = keeps_move own who n o p there
    keeps_props_put own who (prop.Name n) o p there = keeps_put own o p (record p { name = n }) there
    keeps_props_put own who (prop.TypeNo n) o p there = keeps_put own o p (record p { type_no = n }) there
    keeps_props_put own who (prop.ByteLength n) o p there = keeps_put own o p (record p { byte_length = n }) there
    keeps_props_put own who (prop.Read l) o p there = keeps_put own o p (record p { read = l }) there
    keeps_props_put own who (prop.Modify l) o p there = keeps_put own o p (record p { modify = l }) there

    keeps_quota : (own : Own) (who name : List ℕ) (quota : ℕ) → Keeps (run m (set_quota own who name quota)).edits
    unfolding Keeps
    keeps_quota own who name quota = keeps_unless own
        ((not (is_some (owner_in (m (OwnerOf name)))), refusal.UnknownOwner) ∷ (not (is_admin who), refusal.AccessDenied lists.Admin) ∷ [])
        (replied own reply.Plain (Put (OwnerOf name) (cell.Owner (record (owner_of (m (OwnerOf name))) { quota = quota })) ∷ []))
        h

    -- what makes a file makes another one
    keeps_create : (server : ℕ) (made : List FileId) (own : Own) (who : List ℕ) (start : Props) (f : FileId) → (Leader away ≡ Leader f → ⊥) → Keeps (run m (create_file server made own who start (Some f))).edits
    unfolding Keeps
    keeps_create server made own who start f other =
        let oc : Option Cell = m (OwnerOf start.owner) in
        keeps_unless own (create_tests who start oc) (cond (is_new server made f (m (Leader f))) (created_file own start (owner_of oc) f) (no_answer own))
        (elim (is_new server made f (m (Leader f))) as (λ b. Keeps (cond b (created_file own start (owner_of oc) f) (no_answer own)).edits) [
          | true ↦ away_leader m f (cell.Leader (record start { byte_length = 0; high_water = 0 })) h other
          | false ↦ h
        ])

    keeps_made : (server : ℕ) (made : List FileId) (own : Own) (who : List ℕ) (start : Props) (id : Option FileId) → ((f : FileId) → id ≡ Some f → Leader away ≡ Leader f → ⊥) → Keeps (run m (create_file server made own who start id)).edits
    unfolding Keeps
    keeps_made server made own who start None other = keeps_unless own (create_tests who start (m (OwnerOf start.owner))) (no_answer own) h
    keeps_made server made own who start (Some f) other = keeps_create server made own who start f (other f refl)

    pub away_kept : (server : ℕ) (made : List FileId) (who : List ℕ) (own : Own) (c : Call) (r : Reply) → ((f : FileId) → id_in r ≡ Some f → Leader away ≡ Leader f → ⊥) → IsAway (after (answer server made m who own c r).edits m)
    unfolding Keeps
    away_kept server made who own (call.CreateFile t start choice) r other = keeps_made server made own who start (id_in r) other
    away_kept server made who own (call.OpenFile t f a mode choice) r other = keeps_unless own
        ((not (is_some (props_in (m (Leader f)))), refusal.UnknownFile) ∷ access_tests a who (props_of (m (Leader f)))) (record { reply = Some (reply.Opened (own.last + 1)); edits = []; own = opened own f a }) h
    away_kept server made who own (call.CloseFile t n) r other = keeps_close own n (open_at own.opens n)
    away_kept server made who own (call.DeleteFile t n choice) r other = keeps_change own (open_at own.opens n) (delete_file own) (λ o p there. keeps_delete own o p)
    away_kept server made who own (call.ReadPages t n span mode choice) r other = keeps_open own (open_at own.opens n) (read_pages own span) (λ o p there. keeps_pages own span o p)
    away_kept server made who own (call.WritePages t n span pages choice) r other = keeps_change own (open_at own.opens n) (write_pages own span pages) (λ o p there. keeps_write own span pages o p there)
    away_kept server made who own (call.LockPages t n span mode choice) r other = keeps_lock own mode span (open_at own.opens n)
    away_kept server made who own (call.SetSize t n size choice) r other = keeps_change own (open_at own.opens n) (set_size own size) (λ o p there. keeps_size own size o p there)
    away_kept server made who own (call.ReadProps t n) r other = keeps_open own (open_at own.opens n) (λ o p. Say (replied own (reply.Props p) [])) (λ o p there. h)
    away_kept server made who own (call.WriteProps t n change choice) r other = keeps_change own (open_at own.opens n) (write_props own who change) (λ o p there. keeps_props_put own who change o p there)
    away_kept server made who own (call.ReadOwner t name choice) r other = keeps_unless own
        ((not (is_some (owner_in (m (OwnerOf name)))), refusal.UnknownOwner) ∷ []) (replied own (reply.Owner (owner_of (m (OwnerOf name)))) []) h
    away_kept server made who own (call.MakeOwner t name quota create choice) r other = keeps_owner own who name quota create
    away_kept server made who own (call.SetQuota t name quota choice) r other = keeps_quota own who name quota
    away_kept server made who own (call.Hello name) r other = h
    away_kept server made who own (call.Begin seen) r other = h
    away_kept server made who own (call.Join t) r other = h
    away_kept server made who own (call.Finish t commit) r other = h
    away_kept server made who own (call.Outcome t) r other = h
    away_kept server made who own (call.Collect n) r other = h
