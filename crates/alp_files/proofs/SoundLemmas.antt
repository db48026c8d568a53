-- every call, and so every history, keeps files well formed and charged
use Rattle.std.specs.Prelude.{cond, Bool, true, false, not, ◌==◌, nat_lt, min, Option, None, Some, is_some}
use Rattle.std.specs.List.{AllByRecursion}
use Rattle.std.specs.FinMap as map
use Rattle.std.specs.FinMap.{get-empty}
use Rattle.std.proofs.Common.{◌≡◌, ℕ, zero, suc, ◌+◌, ◌-◌, ◌<◌, ◌≤◌, List, [], ◌∷◌, ◌++◌, length, refl, sym, ◌∙◌, ap, subst, arith}
use Rattle.std.proofs.lemmas.Bool.{ltb-true, ltb-false}
use Rattle.alp_base.specs.declared.ids.FileId.{FileId}
use Rattle.alp_base.specs.declared.ids.Run.{Run}
use Rattle.alp_base.specs.declared.key.Key.{Key}
use Rattle.alp_base.specs.declared.key.Key.TheVariants.{Leader, PageOf, OwnerOf}
use Rattle.alp_base.specs.declared.choices.Access.TheVariants.{ReadOnly, Change}
use Rattle.alp_base.specs.Keys.{key_cmp}
use Rattle.alp_base.proofs.NameLemmas.{and_left, and_right}
use Rattle.alp_base.specs.declared.cell.Cell.{Cell}
use Rattle.alp_base.specs.declared.cell.Cell.TheVariants as cell
use Rattle.alp_base.specs.declared.cell.Props.{Props}
use Rattle.alp_base.specs.declared.cell.OwnerRecord.{OwnerRecord}
use Rattle.alp_files.specs.declared.call.Call.{Call}
use Rattle.alp_files.specs.declared.call.Call.TheVariants as call
use Rattle.alp_files.specs.declared.call.PropChange.{PropChange}
use Rattle.alp_files.specs.declared.call.PropChange.TheVariants as prop
use Rattle.alp_files.specs.declared.reply.Reply.{Reply}
use Rattle.alp_files.specs.declared.reply.Reply.TheVariants as reply
use Rattle.alp_files.specs.declared.refusal.Refusal.{Refusal}
use Rattle.alp_files.specs.declared.refusal.Refusal.TheVariants as refusal
use Rattle.alp_files.specs.declared.refusal.ListName.TheVariants as lists
use Rattle.alp_files.specs.declared.open.Open.{Open}
use Rattle.alp_files.specs.Cells.{Cells, same_name, props_in, owner_in, page_in}
use Rattle.alp_files.specs.Edits.{Edit, Cut, Put, edit_map, edits_map}
use Rattle.alp_files.specs.Act.{Own, Answer, Look, Ask, Say, run, unless, refused, replied, no_answer, is_admin, is_over, quota_exceeded, owner_of, open_at, on_props, on_open, on_change, if_change, is_new, created_file, create_file, create_tests, charge_put, delete_file, ask_pages, page_past, page_puts, mark_put, read_pages, write_pages, lock_pages, is_changing, set_size, cut_file, grow_file, put_props, write_props, move_file, move_tests, make_owner, set_quota, access_tests, props_of, opened, close_file, answer, id_in}
use Rattle.alp_files.specs.History.{PerformedCall, Standing, Decided, step, steps, begun, serial_end}
use Rattle.alp_files.specs.Sound.{AreSound, HasItsPages, HaveTheirPages, IsSoundAfterEach}
use Rattle.alp_files.proofs.HistoryLemmas.{edits_map-append, get-edit_map}
use Rattle.alp_files.proofs.SameLemmas.{same_name-false}
use Rattle.alp_files.proofs.BornLemmas.{props_leader}
use Rattle.alp_files.proofs.FilesLemmas.{has-name, below-size}
use Rattle.alp_files.proofs.SoundEdits.{
  sound-create,
  sound-delete,
  charged-enough,
  sound-cut,
  sound-resize,
  sound-props,
  sound-move,
  sound-owner,
  uncharged,
  leader-pages,
  sound-pages,
  pages-below-cut,
}

-- none of these tests refuses
abbrev pub AreFalse : List (Bool × Refusal) → Type 0
AreFalse [] = Unit {0}
AreFalse (t ∷ ts) = (t.0 ≡ false) × AreFalse ts

-- an owner that is there
some-owner : (c : Option Cell) → not (is_some (owner_in c)) ≡ false → c ≡ Some (cell.Owner (owner_of c))
some-owner None e = cc
some-owner (Some (cell.Leader p)) e = cc
some-owner (Some (cell.Page bytes)) e = cc
some-owner (Some (cell.Owner o)) e = refl

known-owner : (c : Option Cell) (o : OwnerRecord) → c ≡ Some (cell.Owner o) → c ≡ Some (cell.Owner (owner_of c))
known-owner c o is = is ∙ ap (λ (x : Option Cell). Some (cell.Owner (owner_of x))) (sym is)

none-there : (c : Option Cell) → not (is_some c) ≡ true → c ≡ None
none-there None e = refl
none-there (Some c) e = cc

new-free : (server : ℕ) (made : List FileId) (f : FileId) (c : Option Cell) → is_new server made f c ≡ true → c ≡ None
new-free server made f c e = none-there c (and_right _ _ (and_left _ _ e))

-- ---- answers, one call after the other

-- the changes leave sound files
abbrev Keeps : Cells → List Edit → Type 0
Keeps m es = AreSound (edits_map es m)

module _ (m : Cells) (s : AreSound m) where
  keeps_unless : (own : Own) (ts : List (Bool × Refusal)) (a : Answer) → (AreFalse ts → Keeps m a.edits) → Keeps m (unless own ts a).edits
  keeps_unless own [] a k = k tt
  keeps_unless own (t ∷ ts) a k = go (t.0) refl (λ no. keeps_unless own ts a (λ rest. k (no, rest)))
    where
      go : (b : Bool) → t.0 ≡ b → (t.0 ≡ false → Keeps m (unless own ts a).edits) → Keeps m (cond b (refused own t.1) (unless own ts a)).edits
      go true e next = s
      go false e next = next e

  keeps_props : (own : Own) (o : Open) (next : Open → Props → Look) → ((p : Props) → map.get m (Leader o.file) ≡ Some (cell.Leader p) → Keeps m (run (map.get m) (next o p)).edits)
      → Keeps m (run (map.get m) (on_props own (props_in (map.get m (Leader o.file))) (next o))).edits
  keeps_props own o next k = go (props_in (map.get m (Leader o.file))) refl
    where
      go : (x : Option Props) → props_in (map.get m (Leader o.file)) ≡ x → Keeps m (run (map.get m) (on_props own x (next o))).edits
      go None e = s
      go (Some p) e = k p (props_leader (map.get m (Leader o.file)) p e)

  keeps_open : (own : Own) (oo : Option Open) (next : Open → Props → Look) → ((o : Open) (p : Props) → map.get m (Leader o.file) ≡ Some (cell.Leader p) → Keeps m (run (map.get m) (next o p)).edits)
      → Keeps m (run (map.get m) (on_open own oo next)).edits
  keeps_open own None next k = s
  keeps_open own (Some o) next k = keeps_props own o next (k o)

  keeps_change : (own : Own) (oo : Option Open) (next : Open → Props → Look) → ((o : Open) (p : Props) → map.get m (Leader o.file) ≡ Some (cell.Leader p) → Keeps m (run (map.get m) (next o p)).edits)
      → Keeps m (run (map.get m) (on_change own oo next)).edits
  keeps_change own None next k = s
  keeps_change own (Some o) next k =
      elim (o.access) as (λ a. Keeps m (run (map.get m) (if_change own a (Ask (Leader o.file) (λ lc. on_props own (props_in lc) (next o))))).edits) [ ReadOnly ↦ s | Change ↦ keeps_props own o next (k o) ]

  keeps_read : (own : Own) (f : FileId) (n first : ℕ) (next : List (List ℕ) → Answer) → ((ps : List (List ℕ)) → Keeps m (next ps).edits) → Keeps m (run (map.get m) (ask_pages f first n (λ ps. Say (next ps)))).edits
  keeps_read own f zero first next k = k []
  keeps_read own f (suc n) first next k = keeps_read own f n (first + 1) (λ ps. next (page_in (map.get m (PageOf f first)) ∷ ps)) (λ ps. k (page_in (map.get m (PageOf f first)) ∷ ps))

  keeps_create : (server : ℕ) (made : List FileId) (own : Own) (who : List ℕ) (start : Props) (id : Option FileId) → Keeps m (run (map.get m) (create_file server made own who start id)).edits
  keeps_create server made own who start None = keeps_unless own (create_tests who start (map.get m (OwnerOf start.owner))) (no_answer own) (λ no. s)
  keeps_create server made own who start (Some f) =
      keeps_unless own (create_tests who start (map.get m (OwnerOf start.owner)))
      (cond (is_new server made f (map.get m (Leader f))) (created_file own start (owner_of (map.get m (OwnerOf start.owner))) f) (no_answer own))
      (λ no. go (is_new server made f (map.get m (Leader f))) refl (some-owner (map.get m (OwnerOf start.owner)) no.0))
    where
      go : (b : Bool) → is_new server made f (map.get m (Leader f)) ≡ b → map.get m (OwnerOf start.owner) ≡ Some (cell.Owner (owner_of (map.get m (OwnerOf start.owner))))
          → Keeps m (cond b (created_file own start (owner_of (map.get m (OwnerOf start.owner))) f) (no_answer own)).edits
      go true e there = sound-create m s f (record start { byte_length = 0; high_water = 0 }) (owner_of (map.get m (OwnerOf start.owner))) (new-free server made f (map.get m (Leader f)) e) there
      go false e there = s

  -- the owner of a file that is there
  its-owner : (f : FileId) (p : Props) → map.get m (Leader f) ≡ Some (cell.Leader p) → map.get m (OwnerOf p.owner) ≡ Some (cell.Owner (owner_of (map.get m (OwnerOf p.owner))))
  its-owner f p here = let there = s.0.owned f p here in known-owner (map.get m (OwnerOf p.owner)) there.0 there.1

  keeps_pages : (own : Own) (r : Run) (o : Open) (p : Props) → Keeps m (run (map.get m) (read_pages own r o p)).edits
  keeps_pages own r o p =
      elim (nat_lt p.size (r.first + r.count)) as (λ b. Keeps m (run (map.get m) (cond b (Say (refused own (refusal.NoSuchPage p.size))) (ask_pages o.file r.first r.count (λ ps. Say (replied own (reply.Pages ps) []))))).edits) [
        | true ↦ s
        | false ↦ keeps_read own o.file r.count r.first (λ ps. replied own (reply.Pages ps) []) (λ ps. s)
      ]

  keeps_write : (own : Own) (r : Run) (pages : List (List ℕ)) → length pages ≡ r.count → (o : Open) (p : Props) → map.get m (Leader o.file) ≡ Some (cell.Leader p) → Keeps m (run (map.get m) (write_pages own r pages o p)).edits
  keeps_write own r pages full o p here =
      keeps_unless own (page_past r p) (replied own reply.Plain (page_puts o.file r.first pages ++ mark_put o.file p (r.first + r.count)))
      (λ no. (
      let past : r.first + r.count ≤ p.size = ltb-false p.size (r.first + r.count) no.0 in
      let mid : Cells = edits_map (page_puts o.file r.first pages) m in
      let sound : AreSound mid = sound-pages o.file p pages r.first m s here (omega (arith, past, full)) in
      subst AreSound (sym (edits_map-append (page_puts o.file r.first pages) (mark_put o.file p (r.first + r.count)) m))
      (mark (nat_lt p.high_water (r.first + r.count)) mid sound (leader-pages o.file r.first pages m ∙ here))))
    where
      mark : (b : Bool) (mid : Cells) → AreSound mid → map.get mid (Leader o.file) ≡ Some (cell.Leader p)
          → AreSound (edits_map (cond b (Put (Leader o.file) (cell.Leader (record p { high_water = r.first + r.count })) ∷ []) []) mid)
      mark true mid sound there = sound-props mid sound o.file p (record p { high_water = r.first + r.count }) there refl refl
      mark false mid sound there = sound

  keeps_cut : (own : Own) (size : ℕ) (o : Open) (p : Props) → map.get m (Leader o.file) ≡ Some (cell.Leader p) → size ≤ p.size → Keeps m (run (map.get m) (cut_file own size o p)).edits
  keeps_cut own size o p here less =
      let r : OwnerRecord = owner_of (map.get m (OwnerOf p.owner)) in
      let enough : p.size ≤ r.charge = charged-enough m s o.file p r here (its-owner o.file p here) in
      sound-resize (edit_map (Cut o.file size) m) (sound-cut m s o.file size) o.file p (record p { size = size; high_water = min p.high_water size }) r (r.charge - (p.size - size))
      (get-edit_map (Cut o.file size) m (Leader o.file) ∙ here) refl
      (get-edit_map (Cut o.file size) m (OwnerOf p.owner) ∙ its-owner o.file p here)
      (pages-below-cut m s o.file size)
      (omega (arith, enough, less))

  keeps_grow : (own : Own) (size : ℕ) (o : Open) (p : Props) → map.get m (Leader o.file) ≡ Some (cell.Leader p) → p.size ≤ size → Keeps m (run (map.get m) (grow_file own size o p)).edits
  keeps_grow own size o p here more =
      let r : OwnerRecord = owner_of (map.get m (OwnerOf p.owner)) in
      keeps_unless own ((is_over r (size - p.size), quota_exceeded r (size - p.size)) ∷ [])
      (replied own reply.Plain (Put (Leader o.file) (cell.Leader (record p { size = size })) ∷ charge_put p.owner r (r.charge + (size - p.size)) ∷ []))
      (λ no. sound-resize m s o.file p (record p { size = size }) r (r.charge + (size - p.size)) here refl (its-owner o.file p here)
      (λ n c is. (let low : n < p.size = below-size (map.get m) s.0 o.file p here n c is in omega (arith, low, more)))
      (omega (arith, more)))

  keeps_size : (own : Own) (size : ℕ) (o : Open) (p : Props) → map.get m (Leader o.file) ≡ Some (cell.Leader p) → Keeps m (run (map.get m) (set_size own size o p)).edits
  keeps_size own size o p here = go (size == p.size) (nat_lt size p.size) refl
    where
      go : (same less : Bool) → nat_lt size p.size ≡ less → Keeps m (run (map.get m) (cond same (put_props own o p) (cond less (cut_file own size o p) (grow_file own size o p)))).edits
      go true less e = sound-props m s o.file p p here refl refl
      go false true e = keeps_cut own size o p here (let low : size < p.size = ltb-true size p.size e in omega (arith, low))
      go false false e = keeps_grow own size o p here (ltb-false size p.size e)

  keeps_move : (own : Own) (who name : List ℕ) (o : Open) (p : Props) → map.get m (Leader o.file) ≡ Some (cell.Leader p) → Keeps m (run (map.get m) (move_file own who name o p)).edits
  keeps_move own who name o p here = go (same_name p.owner name) refl
    where
      go : (b : Bool) → same_name p.owner name ≡ b → Keeps m (run (map.get m) (cond b (Say (replied own reply.Plain [])) (Ask (OwnerOf name) (λ nc. Ask (OwnerOf p.owner) (λ oc. Say (unless own (move_tests who name p.size nc) (replied own reply.Plain (
          Put (Leader o.file) (cell.Leader (record p { owner = name })) ∷ charge_put p.owner (owner_of oc) ((owner_of oc).charge - p.size)
          ∷ charge_put name (owner_of nc) ((owner_of nc).charge + p.size) ∷ [])))))))).edits
      go true e = s
      go false e = keeps_unless own (move_tests who name p.size (map.get m (OwnerOf name))) _
          (λ no. sound-move m s o.file p name (owner_of (map.get m (OwnerOf p.owner))) (owner_of (map.get m (OwnerOf name))) here (same_name-false p.owner name e) (its-owner o.file p here) (some-owner (map.get m (OwnerOf name)) no.0))

  keeps_write_props : (own : Own) (who : List ℕ) (change : PropChange) (o : Open) (p : Props) → map.get m (Leader o.file) ≡ Some (cell.Leader p) → Keeps m (run (map.get m) (write_props own who change o p)).edits
  keeps_write_props own who (prop.Owner n) o p here = keeps_move own who n o p here
  keeps_write_props own who (prop.Name n) o p here = sound-props m s o.file p (record p { name = n }) here refl refl
  keeps_write_props own who (prop.TypeNo n) o p here = sound-props m s o.file p (record p { type_no = n }) here refl refl
  keeps_write_props own who (prop.ByteLength n) o p here = sound-props m s o.file p (record p { byte_length = n }) here refl refl
  keeps_write_props own who (prop.Read l) o p here = sound-props m s o.file p (record p { read = l }) here refl refl
  keeps_write_props own who (prop.Modify l) o p here = sound-props m s o.file p (record p { modify = l }) here refl refl

  keeps_make_owner : (own : Own) (who name : List ℕ) (quota : ℕ) (create : List (List ℕ)) → Keeps m (run (map.get m) (make_owner own who name quota create)).edits
  keeps_make_owner own who name quota create = keeps_unless own
      ((is_some (owner_in (map.get m (OwnerOf name))), refusal.OwnerExists) ∷ (not (is_admin who), refusal.AccessDenied lists.Admin) ∷ [])
      (replied own reply.Plain (Put (OwnerOf name) (cell.Owner (record { name = name; quota = quota; charge = 0; create = create })) ∷ []))
      (λ no. sound-owner m s name (record { name = name; quota = quota; charge = 0; create = create }) refl (sym (uncharged m s name no.0)))

  keeps_set_quota : (own : Own) (who name : List ℕ) (quota : ℕ) → Keeps m (run (map.get m) (set_quota own who name quota)).edits
  keeps_set_quota own who name quota =
      let r : OwnerRecord = owner_of (map.get m (OwnerOf name)) in
      keeps_unless own
      ((not (is_some (owner_in (map.get m (OwnerOf name)))), refusal.UnknownOwner) ∷ (not (is_admin who), refusal.AccessDenied lists.Admin) ∷ [])
      (replied own reply.Plain (Put (OwnerOf name) (cell.Owner (record r { quota = quota })) ∷ []))
      (λ no. (
      let there = some-owner (map.get m (OwnerOf name)) no.0 in
      sound-owner m s name (record r { quota = quota }) (has-name (map.get m) s.0 name r there) (s.1 name r there)))

  keeps_lock : (own : Own) (r : Run) (o : Open) (p : Props) → Keeps m (run (map.get m) (lock_pages own r o p)).edits
  keeps_lock own r o p = keeps_unless own (page_past r p) (replied own reply.Plain []) (λ no. s)

  keeps_delete : (own : Own) (o : Open) (p : Props) → map.get m (Leader o.file) ≡ Some (cell.Leader p) → Keeps m (run (map.get m) (delete_file own o p)).edits
  keeps_delete own o p here = sound-delete m s o.file p (owner_of (map.get m (OwnerOf p.owner))) here (its-owner o.file p here)

-- The changes of an answer keep files sound: of any answer, whatever the server, the ids given before, the
-- principal, the opens, and the reply that was given.
pub answers_sound : (m : Cells) → AreSound m → (server : ℕ) (made : List FileId) (who : List ℕ) (own : Own) (c : Call) (given : Reply) → HasItsPages c
    → AreSound (edits_map (answer server made (map.get m) who own c given).edits m)
answers_sound m s server made who own (call.Hello name) given full = s
answers_sound m s server made who own (call.Begin seen) given full = s
answers_sound m s server made who own (call.Join trans) given full = s
answers_sound m s server made who own (call.CreateFile trans start choice) given full = keeps_create m s server made own who start (id_in given)
answers_sound m s server made who own (call.OpenFile trans file access mode choice) given full =
    keeps_unless m s own ((not (is_some (props_in (map.get m (Leader file)))), refusal.UnknownFile) ∷ access_tests access who (props_of (map.get m (Leader file))))
    (record { reply = Some (reply.Opened (own.last + 1)); edits = []; own = opened own file access }) (λ no. s)
answers_sound m s server made who own (call.CloseFile trans n) given full =
    elim (open_at own.opens n) as (λ x. AreSound (edits_map (run (map.get m) (close_file own n x)).edits m)) [ None ↦ s | Some o ↦ s ]
answers_sound m s server made who own (call.DeleteFile trans n choice) given full = keeps_change m s own (open_at own.opens n) (delete_file own) (keeps_delete m s own)
answers_sound m s server made who own (call.ReadPages trans n r mode choice) given full = keeps_open m s own (open_at own.opens n) (read_pages own r) (λ o p here. keeps_pages m s own r o p)
answers_sound m s server made who own (call.WritePages trans n r pages choice) given full = keeps_change m s own (open_at own.opens n) (write_pages own r pages) (keeps_write m s own r pages full)
answers_sound m s server made who own (call.LockPages trans n r mode choice) given full =
    elim (is_changing mode) as (λ b. AreSound (edits_map (run (map.get m) (cond b (on_change own (open_at own.opens n) (lock_pages own r)) (on_open own (open_at own.opens n) (lock_pages own r)))).edits m)) [
      | true ↦ keeps_change m s own (open_at own.opens n) (lock_pages own r) (λ o p here. keeps_lock m s own r o p)
      | false ↦ keeps_open m s own (open_at own.opens n) (lock_pages own r) (λ o p here. keeps_lock m s own r o p)
    ]
answers_sound m s server made who own (call.SetSize trans n size choice) given full = keeps_change m s own (open_at own.opens n) (set_size own size) (keeps_size m s own size)
answers_sound m s server made who own (call.ReadProps trans n) given full = keeps_open m s own (open_at own.opens n) (λ o p. Say (replied own (reply.Props p) [])) (λ o p here. s)
answers_sound m s server made who own (call.WriteProps trans n change choice) given full = keeps_change m s own (open_at own.opens n) (write_props own who change) (keeps_write_props m s own who change)
answers_sound m s server made who own (call.ReadOwner trans name choice) given full =
    keeps_unless m s own ((not (is_some (owner_in (map.get m (OwnerOf name)))), refusal.UnknownOwner) ∷ []) (replied own (reply.Owner (owner_of (map.get m (OwnerOf name)))) []) (λ no. s)
answers_sound m s server made who own (call.MakeOwner trans name quota create choice) given full = keeps_make_owner m s own who name quota create
answers_sound m s server made who own (call.SetQuota trans name quota choice) given full = keeps_set_quota m s own who name quota
answers_sound m s server made who own (call.Finish trans commit) given full = s
answers_sound m s server made who own (call.Outcome trans) given full = s
answers_sound m s server made who own (call.Collect number) given full = s

-- ---- histories

-- no files are sound
pub empty_sound : AreSound map.empty
empty_sound = (
  record {
    kinds = λ k c is. absurd (none k c is);
    owned = λ f p is. absurd (none (Leader f) (cell.Leader p) is);
    paged = λ f n c is. absurd (none (PageOf f n) c is);
  },
  λ owner o is. absurd (none (OwnerOf owner) (cell.Owner o) is),
)
  where
    none : (k : Key) (c : Cell) → map.get (map.empty {R = key_cmp}) k ≡ Some c → ⊥
    none k c is = let wrong : None ≡ Some c = sym (get-empty key_cmp k) ∙ is in cc

pub steps_sound : (server : ℕ) (s : Standing) (who : List ℕ) (ds : List PerformedCall) → AllByRecursion (λ (d : PerformedCall). HasItsPages d.call) ds → AreSound s.files → AreSound (steps server s who ds).files
steps_sound server s who [] full sound = sound
steps_sound server s who (d ∷ ds) full sound = steps_sound server (step server s who d) who ds full.1 (answers_sound s.files sound server s.made who s.own d.call d.reply full.0)

-- after each transaction
pub history_sound : (server : ℕ) (s : Standing) (ds : List Decided) → HaveTheirPages ds → AreSound s.files → IsSoundAfterEach server s ds
history_sound server s [] full sound = tt
history_sound server s (d ∷ ds) full sound =
    let next = steps_sound server (begun s) d.who d.calls full.0 sound in (next, history_sound server (steps server (begun s) d.who d.calls) ds full.1 next)

-- at the end
pub end_sound : (server : ℕ) (s : Standing) (ds : List Decided) → HaveTheirPages ds → AreSound s.files → AreSound (serial_end server s ds).files
end_sound server s [] full sound = sound
end_sound server s (d ∷ ds) full sound = end_sound server (steps server (begun s) d.who d.calls) ds full.1 (steps_sound server (begun s) d.who d.calls full.0 sound)
