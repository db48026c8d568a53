-- a thread that is refused a call changes nothing
use Rattle.std.specs.Prelude.{Bool, true, false, cond, not, ◌==◌, nat_lt, Option, None, Some, is_some}
use Rattle.std.proofs.Common.{◌≡◌, ℕ, zero, suc, ◌+◌, ◌-◌, List, [], ◌∷◌, ◌++◌, refl, sym, ap, ◌∙◌}
use Rattle.alp_base.specs.declared.ids.FileId.{FileId}
use Rattle.alp_base.specs.declared.ids.Run.{Run}
use Rattle.alp_base.specs.declared.choices.Access.{Access}
use Rattle.alp_base.specs.declared.choices.Access.TheVariants.{ReadOnly, Change}
use Rattle.alp_base.specs.declared.key.Key.TheVariants.{Leader, PageOf, OwnerOf}
use Rattle.alp_base.specs.declared.cell.Cell.{Cell}
use Rattle.alp_base.specs.declared.cell.Cell.TheVariants as cell
use Rattle.alp_base.specs.declared.cell.OwnerRecord.{OwnerRecord}
use Rattle.alp_base.specs.declared.cell.Props.{Props}
use Rattle.alp_files.specs.declared.call.Call.{Call}
use Rattle.alp_files.specs.declared.call.Call.TheVariants as call
use Rattle.alp_files.specs.declared.call.PropChange.{PropChange}
use Rattle.alp_files.specs.declared.call.PropChange.TheVariants as prop
use Rattle.alp_files.specs.declared.open.Open.{Open}
use Rattle.alp_files.specs.declared.reply.Reply.{Reply}
use Rattle.alp_files.specs.declared.reply.Reply.TheVariants as reply
use Rattle.alp_files.specs.declared.refusal.Refusal.{Refusal}
use Rattle.alp_files.specs.declared.refusal.Refusal.TheVariants as refusal
use Rattle.alp_files.specs.declared.refusal.ListName.TheVariants as lists
use Rattle.alp_files.specs.Cells.{View, same_name, props_in, page_in, owner_in}
use Rattle.alp_files.specs.Edits.{Edit, Put}
use Rattle.alp_files.specs.Act.{is_over, quota_exceeded, charge_put, is_admin, move_tests, Own, Answer, Look, Ask, Say, run, refused, replied, no_answer, unless, on_props, on_open, if_change, on_change, owner_of, props_of, create_tests, is_new, created_file, create_file, access_tests, opened, open_file, open_at, close_file, delete_file, page_past, ask_pages, read_pages, page_puts, mark_put, write_pages, lock_pages, is_changing, put_props, cut_file, grow_file, set_size, move_file, write_props, read_owner, make_owner, set_quota, id_in, program, answer}

-- the refusal that a reply gives
abbrev refusal_in : Refusal → Option Reply → Refusal
refusal_in f (Some (reply.Refused r)) = r
refusal_in f r = f

abbrev is_refusing : Option Reply → Bool
is_refusing (Some (reply.Refused r)) = true
is_refusing r = false

-- as a refusal it changes nothing
abbrev Stays : Own → Answer → Type 0
Stays own a = (f : Refusal) → a.reply ≡ Some (reply.Refused f) → a ≡ refused own f

refused_stays : (own : Own) (r : Refusal) → Stays own (refused own r)
refused_stays own r f is = ap (λ (o : Option Reply). refused own (refusal_in f o)) is

-- what is no refusal
other_stays : (own : Own) (a : Answer) → is_refusing a.reply ≡ false → Stays own a
other_stays own a other f is = let wrong : false ≡ true = sym other ∙ ap is_refusing is in cc

either_stays : (own : Own) (b : Bool) (x y : Answer) → Stays own x → Stays own y → Stays own (cond {A = Answer} b x y)
either_stays own true x y h k = h
either_stays own false x y h k = k

unless_stays : (own : Own) (ts : List (Bool × Refusal)) (a : Answer) → Stays own a → Stays own (unless own ts a)
unless_stays own [] a h = h
unless_stays own (t ∷ ts) a h = either_stays own t.0 (refused own t.1) (unless own ts a) (refused_stays own t.1) (unless_stays own ts a h)

-- behind its tests a call is done
tests_stay : (own : Own) (ts : List (Bool × Refusal)) (r : Reply) (es : List Edit) → is_refusing (Some r) ≡ false → Stays own (unless own ts (replied own r es))
tests_stay own ts r es other = unless_stays own ts (replied own r es) (other_stays own (replied own r es) other)

module _ (m : View) (own : Own) where
  abbrev LookStays : Look → Type 0
  LookStays look = Stays own (run m look)

  one_stays : (b : Bool) (x y : Look) → LookStays x → LookStays y → LookStays (cond {A = Look} b x y)
  one_stays true x y h k = h
  one_stays false x y h k = k

  -- on an open
  on_props_stays : (o : Option Props) (next : Props → Look) → ((p : Props) → LookStays (next p)) → LookStays (on_props own o next)
  on_props_stays None next h = refused_stays own refusal.UnknownOpen
  on_props_stays (Some p) next h = h p

  on_open_stays : (o : Option Open) (next : Open → Props → Look) → ((x : Open) (p : Props) → LookStays (next x p)) → LookStays (on_open own o next)
  on_open_stays None next h = refused_stays own refusal.UnknownOpen
  on_open_stays (Some o) next h = on_props_stays (props_in (m (Leader o.file))) (next o) (h o)

  if_change_stays : (a : Access) (look : Look) → LookStays look → LookStays (if_change own a look)
  if_change_stays ReadOnly look h = refused_stays own refusal.ReadOnlyOpen
  if_change_stays Change look h = h

  on_change_stays : (o : Option Open) (next : Open → Props → Look) → ((x : Open) (p : Props) → LookStays (next x p)) → LookStays (on_change own o next)
  on_change_stays None next h = refused_stays own refusal.UnknownOpen
  on_change_stays (Some o) next h = if_change_stays o.access (Ask (Leader o.file) (λ lc. on_props own (props_in lc) (next o))) (on_props_stays (props_in (m (Leader o.file))) (next o) (h o))

  -- files
  create_stays : (server : ℕ) (made : List FileId) (who : List ℕ) (start : Props) (id : Option FileId) → LookStays (create_file server made own who start id)
  create_stays server made who start None = unless_stays own (create_tests who start (m (OwnerOf start.owner))) (no_answer own) (other_stays own (no_answer own) refl)
  create_stays server made who start (Some f) =
      let oc : Option Cell = m (OwnerOf start.owner) in
      let new : Answer = created_file own start (owner_of oc) f in
      unless_stays own (create_tests who start oc) (cond {A = Answer} (is_new server made f (m (Leader f))) new (no_answer own))
      (either_stays own (is_new server made f (m (Leader f))) new (no_answer own) (other_stays own new refl) (other_stays own (no_answer own) refl))

  open_stays : (who : List ℕ) (f : FileId) (a : Access) → LookStays (open_file own who f a)
  open_stays who f a =
      let lc : Option Cell = m (Leader f) in
      let new : Answer = record { reply = Some (reply.Opened (own.last + 1)); edits = []; own = opened own f a } in
      unless_stays own ((not (is_some (props_in lc)), refusal.UnknownFile) ∷ access_tests a who (props_of lc)) new (other_stays own new refl)

  close_stays : (n : ℕ) (o : Option Open) → LookStays (close_file own n o)
  close_stays n None = refused_stays own refusal.UnknownOpen
  close_stays n (Some o) = other_stays own (run m (close_file own n (Some o))) refl

  -- pages
  pages_stay : (f : FileId) (n first : ℕ) (next : List (List ℕ) → Look) → ((ps : List (List ℕ)) → LookStays (next ps)) → LookStays (ask_pages f first n next)
  pages_stay f zero first next h = h []
  pages_stay f (suc n) first next h = pages_stay f n (first + 1) (λ ps. next (page_in (m (PageOf f first)) ∷ ps)) (λ ps. h (page_in (m (PageOf f first)) ∷ ps))

  read_stays : (r : Run) (o : Open) (p : Props) → LookStays (read_pages own r o p)
  read_stays r o p =
      let pages = λ (ps : List (List ℕ)). Say (replied own (reply.Pages ps) []) in
      one_stays (nat_lt p.size (r.first + r.count)) (Say (refused own (refusal.NoSuchPage p.size))) (ask_pages o.file r.first r.count pages)
      (refused_stays own (refusal.NoSuchPage p.size)) (pages_stay o.file r.count r.first pages (λ ps. other_stays own (replied own (reply.Pages ps) []) refl))

  write_stays : (r : Run) (pages : List (List ℕ)) (o : Open) (p : Props) → LookStays (write_pages own r pages o p)
  write_stays r pages o p = tests_stay own (page_past r p) reply.Plain (page_puts o.file r.first pages ++ mark_put o.file p (r.first + r.count)) refl

  lock_stays : (r : Run) (o : Open) (p : Props) → LookStays (lock_pages own r o p)
  lock_stays r o p = tests_stay own (page_past r p) reply.Plain [] refl

  -- sizes and properties
  grow_stays : (size : ℕ) (o : Open) (p : Props) → LookStays (grow_file own size o p)
  grow_stays size o p =
      let oc : OwnerRecord = owner_of (m (OwnerOf p.owner)) in
      tests_stay own ((is_over oc (size - p.size), quota_exceeded oc (size - p.size)) ∷ []) reply.Plain
      (Put (Leader o.file) (cell.Leader (record p { size = size })) ∷ charge_put p.owner oc (oc.charge + (size - p.size)) ∷ []) refl

  size_stays : (size : ℕ) (o : Open) (p : Props) → LookStays (set_size own size o p)
  size_stays size o p =
      one_stays (size == p.size) (put_props own o p) (cond {A = Look} (nat_lt size p.size) (cut_file own size o p) (grow_file own size o p)) (other_stays own (run m (put_props own o p)) refl)
      (one_stays (nat_lt size p.size) (cut_file own size o p) (grow_file own size o p) (other_stays own (run m (cut_file own size o p)) refl) (grow_stays size o p))

  move_stays : (who name : List ℕ) (o : Open) (p : Props) → LookStays (move_file own who name o p)
  move_stays who name o p = go (same_name p.owner name)
    where
      from : Option Cell
      from = m (OwnerOf p.owner)

      to : Option Cell
      to = m (OwnerOf name)

      puts : List Edit
      puts = Put (Leader o.file) (cell.Leader (record p { owner = name })) ∷ charge_put p.owner (owner_of from) ((owner_of from).charge - p.size) ∷ charge_put name (owner_of to) ((owner_of to).charge + p.size) ∷ []

      moved : Look
      moved = Ask (OwnerOf name) (λ nc. Ask (OwnerOf p.owner) (λ oc. Say (unless own (move_tests who name p.size nc) (replied own reply.Plain (
          Put (Leader o.file) (cell.Leader (record p { owner = name })) ∷ charge_put p.owner (owner_of oc) ((owner_of oc).charge - p.size) ∷ charge_put name (owner_of nc) ((owner_of nc).charge + p.size) ∷ [])))))

      go : (b : Bool) → LookStays (cond {A = Look} b (Say (replied own reply.Plain [])) moved)
      go true = other_stays own (replied own reply.Plain []) refl
      go false = tests_stay own (move_tests who name p.size to) reply.Plain puts refl

  props_stay : (who : List ℕ) (change : PropChange) (o : Open) (p : Props) → LookStays (write_props own who change o p)
  props_stay who (prop.Owner n) o p = move_stays who n o p
  props_stay who (prop.Name n) o p = other_stays own (run m (write_props own who (prop.Name n) o p)) refl
  props_stay who (prop.TypeNo n) o p = other_stays own (run m (write_props own who (prop.TypeNo n) o p)) refl
  props_stay who (prop.ByteLength n) o p = other_stays own (run m (write_props own who (prop.ByteLength n) o p)) refl
  props_stay who (prop.Read l) o p = other_stays own (run m (write_props own who (prop.Read l) o p)) refl
  props_stay who (prop.Modify l) o p = other_stays own (run m (write_props own who (prop.Modify l) o p)) refl

  -- owners
  read_owner_stays : (name : List ℕ) → LookStays (read_owner own name)
  read_owner_stays name = let oc : Option Cell = m (OwnerOf name) in tests_stay own ((not (is_some (owner_in oc)), refusal.UnknownOwner) ∷ []) (reply.Owner (owner_of oc)) [] refl

  make_owner_stays : (who name : List ℕ) (quota : ℕ) (create : List (List ℕ)) → LookStays (make_owner own who name quota create)
  make_owner_stays who name quota create =
      tests_stay own ((is_some (owner_in (m (OwnerOf name))), refusal.OwnerExists) ∷ (not (is_admin who), refusal.AccessDenied lists.Admin) ∷ []) reply.Plain
      (Put (OwnerOf name) (cell.Owner (record { name = name; quota = quota; charge = 0; create = create })) ∷ []) refl

  set_quota_stays : (who name : List ℕ) (quota : ℕ) → LookStays (set_quota own who name quota)
  set_quota_stays who name quota =
      let oc : Option Cell = m (OwnerOf name) in
      tests_stay own ((not (is_some (owner_in oc)), refusal.UnknownOwner) ∷ (not (is_admin who), refusal.AccessDenied lists.Admin) ∷ []) reply.Plain
      (Put (OwnerOf name) (cell.Owner (record (owner_of oc) { quota = quota })) ∷ []) refl

  -- all calls
  silent : LookStays (Say (no_answer own))
  silent = other_stays own (no_answer own) refl

  program_stays : (server : ℕ) (made : List FileId) (who : List ℕ) (c : Call) (id : Option FileId) → LookStays (program server made who own c id)
  program_stays server made who (call.CreateFile t start choice) id = create_stays server made who start id
  program_stays server made who (call.OpenFile t f a mode choice) id = open_stays who f a
  program_stays server made who (call.CloseFile t n) id = close_stays n (open_at own.opens n)
  program_stays server made who (call.DeleteFile t n choice) id = on_change_stays (open_at own.opens n) (delete_file own) (λ o p. other_stays own (run m (delete_file own o p)) refl)
  program_stays server made who (call.ReadPages t n r mode choice) id = on_open_stays (open_at own.opens n) (read_pages own r) (read_stays r)
  program_stays server made who (call.WritePages t n r pages choice) id = on_change_stays (open_at own.opens n) (write_pages own r pages) (write_stays r pages)
  program_stays server made who (call.LockPages t n r mode choice) id =
      one_stays (is_changing mode) (on_change own (open_at own.opens n) (lock_pages own r)) (on_open own (open_at own.opens n) (lock_pages own r))
      (on_change_stays (open_at own.opens n) (lock_pages own r) (lock_stays r)) (on_open_stays (open_at own.opens n) (lock_pages own r) (lock_stays r))
  program_stays server made who (call.SetSize t n size choice) id = on_change_stays (open_at own.opens n) (set_size own size) (size_stays size)
  program_stays server made who (call.ReadProps t n) id =
      on_open_stays (open_at own.opens n) (λ o p. Say (replied own (reply.Props p) [])) (λ o p. other_stays own (replied own (reply.Props p) []) refl)
  program_stays server made who (call.WriteProps t n change choice) id = on_change_stays (open_at own.opens n) (write_props own who change) (props_stay who change)
  program_stays server made who (call.ReadOwner t name choice) id = read_owner_stays name
  program_stays server made who (call.MakeOwner t name quota create choice) id = make_owner_stays who name quota create
  program_stays server made who (call.SetQuota t name quota choice) id = set_quota_stays who name quota
  program_stays server made who (call.Hello name) id = silent
  program_stays server made who (call.Begin seen) id = silent
  program_stays server made who (call.Join t) id = silent
  program_stays server made who (call.Finish t commit) id = silent
  program_stays server made who (call.Outcome t) id = silent
  program_stays server made who (call.Collect n) id = silent

pub refused_answers : (server : ℕ) (made : List FileId) (m : View) (who : List ℕ) (own : Own) (c : Call) (given : Reply) (f : Refusal)
    → (answer server made m who own c given).reply ≡ Some (reply.Refused f) → answer server made m who own c given ≡ refused own f
refused_answers server made m who own c given f is = program_stays m own server made who c (id_in given) f is
