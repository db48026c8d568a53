-- a call looks only at places that its locks let it read, and changes only those that they let it write
use Rattle.std.specs.Prelude.{cond, Bool, true, false, not, ◌==◌, nat_lt, Option, None, Some, is_some, IsTrue, filter, length}
use Rattle.std.proofs.Common.{◌≡◌, ℕ, zero, suc, ◌+◌, ◌-◌, ◌<◌, ◌≤◌, List, [], ◌∷◌, ◌++◌, refl, sym, ◌∙◌, ap, subst, arith}
use Rattle.std.proofs.lemmas.Bool.{lt-ltb, ltb-false}
use Rattle.alp_base.specs.declared.ids.FileId.{FileId}
use Rattle.alp_base.specs.declared.ids.Run.{Run}
use Rattle.alp_base.specs.declared.key.Key.{Key}
use Rattle.alp_base.specs.declared.key.Key.TheVariants.{Leader, PageOf, OwnerOf}
use Rattle.alp_base.specs.declared.key.Resource.TheVariants.{Whole, Leaf}
use Rattle.alp_base.specs.declared.choices.Access.{Access}
use Rattle.alp_base.specs.declared.choices.Access.TheVariants.{ReadOnly, Change}
use Rattle.alp_modes.specs.declared.Mode.{Mode}
use Rattle.alp_modes.specs.declared.Mode.TheVariants.{Read, Write}
use Rattle.alp_modes.specs.Modes.{covers_of}
use Rattle.alp_files.specs.Holdings.{file_of}
use Rattle.alp_base.specs.declared.cell.Cell.TheVariants as cell
use Rattle.alp_base.specs.declared.cell.Props.{Props}
use Rattle.alp_files.specs.declared.call.Call.{Call}
use Rattle.alp_files.specs.declared.call.Call.TheVariants as call
use Rattle.alp_files.specs.declared.call.PropChange.{PropChange}
use Rattle.alp_files.specs.declared.call.PropChange.TheVariants as prop
use Rattle.alp_files.specs.declared.reply.Reply.TheVariants as reply
use Rattle.alp_files.specs.declared.refusal.Refusal.{Refusal}
use Rattle.alp_files.specs.declared.refusal.Refusal.TheVariants as refusal
use Rattle.alp_files.specs.declared.refusal.ListName.TheVariants as lists
use Rattle.alp_files.specs.declared.open.Open.{Open}
use Rattle.alp_files.specs.Cells.{View, same_name, same_file, props_in, owner_in, page_in}
use Rattle.alp_files.specs.Edits.{Edit, Drop, Cut, Put}
use Rattle.alp_files.specs.Act.{Own, Answer, Look, Ask, Say, run, unless, refused, replied, no_answer, is_admin, is_over, quota_exceeded, owner_of, props_of, open_at, opened, on_props, on_open, on_change, if_change, is_new, created_file, create_file, create_tests, charge_put, access_tests, close_file, delete_file, ask_pages, page_past, page_puts, mark_put, read_pages, write_pages, lock_pages, is_changing, set_size, cut_file, grow_file, put_props, write_props, move_file, move_tests, program}
use Rattle.alp_files.specs.Locks.{Need, page_limit, page_needs, needs_there, needs_on_open, needs_if_change, needs_on_change, mark_needs, size_needs, change_needs, needs_of, needs_made, IsFormed}
use Rattle.alp_files.specs.Apart.{IsWithin, DoShowSame, OpensRead, IsSized, AreSized}
use Rattle.alp_files.proofs.BornLemmas.{props_leader}
use Rattle.alp_files.proofs.SoundLemmas.{AreFalse}
use Rattle.alp_files.proofs.HeldLemmas.{LetsEach, writes-all, writes-read, reads-all}

-- the leaders that are put have sizes of 32 bits
abbrev pub PutsSized : List Edit → Type 0
PutsSized [] = Unit {0}
PutsSized (Put k c ∷ es) = IsSized c × PutsSized es
PutsSized (e ∷ es) = PutsSized es

-- what is asked may be read, what is changed may be written, and opens are on leaders that may be read
abbrev pub Fits : (R W : Key → Type 0) → View → Look → Type 0
Fits R W m (Ask k next) = R k × Fits R W m (next (m k))
Fits R W m (Say a) = IsWithin W a.edits × OpensRead R a.own.opens × PutsSized a.edits

-- a look gives the same on maps that show the same where it may read
pub run-frame : (R W : Key → Type 0) (m n : View) → DoShowSame R m n → (look : Look) → Fits R W m look → run m look ≡ run n look
run-frame R W m n same (Ask k next) h = run-frame R W m n same (next (m k)) h.1 ∙ ap (λ c. run n (next c)) (same k h.0)
run-frame R W m n same (Say a) h = refl

pub run-fits : (R W : Key → Type 0) (m : View) (look : Look) → Fits R W m look → IsWithin W (run m look).edits × OpensRead R (run m look).own.opens × PutsSized (run m look).edits
run-fits R W m (Ask k next) h = run-fits R W m (next (m k)) h.1
run-fits R W m (Say a) h = h

-- ---- opens that may be read

abbrev pub IsReadAt : (R : Key → Type 0) → Option Open → Type 0
IsReadAt R None = Unit {0}
IsReadAt R (Some o) = R (Leader o.file)

found-cond : (R : Key → Type 0) (b : Bool) (o : Open) (x : Option Open) → R (Leader o.file) → IsReadAt R x → IsReadAt R (cond b (Some o) x)
found-cond R true o x h g = h
found-cond R false o x h g = g

pub found : (R : Key → Type 0) (opens : List Open) (n : ℕ) → OpensRead R opens → IsReadAt R (open_at opens n)
found R [] n h = tt
found R (o ∷ os) n h = found-cond R (o.number == n) o (open_at os n) h.0 (found R os n h.1)

filter-cond : (R : Key → Type 0) (b : Bool) (o : Open) (os : List Open) → R (Leader o.file) → OpensRead R os → OpensRead R (cond b (o ∷ os) os)
filter-cond R true o os h g = (h, g)
filter-cond R false o os h g = g

filter-read : (R : Key → Type 0) (p : Open → Bool) (os : List Open) → OpensRead R os → OpensRead R (filter p os)
filter-read R p [] h = tt
filter-read R p (o ∷ os) h = filter-cond R (p o) o (filter p os) h.0 (filter-read R p os h.1)

opened-read : (R : Key → Type 0) (os : List Open) (o : Open) → OpensRead R os → R (Leader o.file) → OpensRead R (os ++ o ∷ [])
opened-read R [] o h g = (g, tt)
opened-read R (x ∷ os) o h g = (h.0, opened-read R os o h.1 g)

-- ---- lists of needs and of changes

pub lets-left : (R W : Key → Type 0) (ns ms : List Need) → LetsEach R W (ns ++ ms) → LetsEach R W ns
lets-left R W [] ms h = tt
lets-left R W (n ∷ ns) ms h = (h.0, lets-left R W ns ms h.1)

pub lets-right : (R W : Key → Type 0) (ns ms : List Need) → LetsEach R W (ns ++ ms) → LetsEach R W ms
lets-right R W [] ms h = h
lets-right R W (n ∷ ns) ms h = lets-right R W ns ms h.1

pub within-append : (W : Key → Type 0) (es fs : List Edit) → IsWithin W es → IsWithin W fs → IsWithin W (es ++ fs)
within-append W [] fs h g = g
within-append W (Drop f ∷ es) fs h g = (h.0, within-append W es fs h.1 g)
within-append W (Cut f n ∷ es) fs h g = (h.0, within-append W es fs h.1 g)
within-append W (Put k c ∷ es) fs h g = (h.0, within-append W es fs h.1 g)

pub sized-append : (es fs : List Edit) → PutsSized es → PutsSized fs → PutsSized (es ++ fs)
sized-append [] fs h g = g
sized-append (Drop f ∷ es) fs h g = sized-append es fs h g
sized-append (Cut f n ∷ es) fs h g = sized-append es fs h g
sized-append (Put k c ∷ es) fs h g = (h.0, sized-append es fs h.1 g)

puts-sized : (f : FileId) (first : ℕ) (pages : List (List ℕ)) → PutsSized (page_puts f first pages)
puts-sized f first [] = tt
puts-sized f first (bytes ∷ pages) = (tt, puts-sized f (first + 1) pages)

page-row : (f : FileId) (first n : ℕ) (m : Mode) → first < page_limit → page_needs f first (suc n) m ≡ (Leaf (PageOf f first), m) ∷ page_needs f (first + 1) n m
page-row f first n m low = ap (λ (b : Bool). cond b ((Leaf (PageOf f first), m) ∷ page_needs f (first + 1) n m) []) (lt-ltb first page_limit low)

-- ---- what each call looks at, under its locks

module _ (R W : Key → Type 0) (m : View) (own : Own) (os : OpensRead R own.opens) (sized : AreSized m) where
  -- an answer that changes nothing
  quiet-fits : Fits R W m (Say (record { reply = None; edits = []; own = own }))
  quiet-fits = (tt, os, tt)

  unless-fits : (ts : List (Bool × Refusal)) (a : Answer) → (AreFalse ts → Fits R W m (Say a)) → Fits R W m (Say (unless own ts a))
  unless-fits [] a h = h tt
  unless-fits (t ∷ ts) a h = go (t.0) refl (λ no. unless-fits ts a (λ rest. h (no, rest)))
    where
      go : (b : Bool) → t.0 ≡ b → (t.0 ≡ false → Fits R W m (Say (unless own ts a))) → Fits R W m (Say (cond b (refused own t.1) (unless own ts a)))
      go true e next = (tt, os, tt)
      go false e next = next e

  there-fits : (o : Open) (ns : Props → List Need) (next : Open → Props → Look) → LetsEach R W (needs_there (props_in (m (Leader o.file))) ns)
      → ((p : Props) → m (Leader o.file) ≡ Some (cell.Leader p) → LetsEach R W (ns p) → Fits R W m (next o p)) → Fits R W m (on_props own (props_in (m (Leader o.file))) (next o))
  there-fits o ns next c h = go (props_in (m (Leader o.file))) refl c
    where
      go : (x : Option Props) → props_in (m (Leader o.file)) ≡ x → LetsEach R W (needs_there x ns) → Fits R W m (on_props own x (next o))
      go None e c = (tt, os, tt)
      go (Some p) e c = h p (props_leader (m (Leader o.file)) p e) c

  open-fits : (oo : Option Open) (ns : Open → Props → List Need) (next : Open → Props → Look) → IsReadAt R oo → LetsEach R W (needs_on_open m oo ns)
      → ((o : Open) (p : Props) → m (Leader o.file) ≡ Some (cell.Leader p) → R (Leader o.file) → LetsEach R W (ns o p) → Fits R W m (next o p)) → Fits R W m (on_open own oo next)
  open-fits None ns next r c h = (tt, os, tt)
  open-fits (Some o) ns next r c h = (r, there-fits o (ns o) next c (λ p e d. h o p e r d))

  change-fits : (oo : Option Open) (ns : Open → Props → List Need) (next : Open → Props → Look) → IsReadAt R oo → LetsEach R W (needs_on_change m oo ns)
      → ((o : Open) (p : Props) → m (Leader o.file) ≡ Some (cell.Leader p) → R (Leader o.file) → LetsEach R W (ns o p) → Fits R W m (next o p)) → Fits R W m (on_change own oo next)
  change-fits None ns next r c h = (tt, os, tt)
  change-fits (Some o) ns next r c h = go (o.access) c
    where
      go : (a : Access) → LetsEach R W (needs_there (props_in (m (Leader o.file))) (λ p. needs_if_change a (ns o p)))
          → Fits R W m (if_change own a (Ask (Leader o.file) (λ lc. on_props own (props_in lc) (next o))))
      go ReadOnly c = (tt, os, tt)
      go Change c = (r, there-fits o (ns o) next c (λ p e d. h o p e r d))

  create-fits : (server : ℕ) (made : List FileId) (who : List ℕ) (start : Props) (id : Option FileId) → start.size < page_limit
      → LetsEach R W (needs_made id ++ (Leaf (OwnerOf start.owner), Write) ∷ []) → Fits R W m (create_file server made own who start id)
  create-fits server made who start None small c = (c.0.0 writes-read, unless-fits (create_tests who start (m (OwnerOf start.owner))) (no_answer own) (λ no. (tt, os, tt)))
  create-fits server made who start (Some f) small c =
      let file : (k : Key) → file_of k ≡ Some f → R k × W k = c.0 writes-all in (
        c.1.0.0 writes-read,
        (
          (file (Leader f) refl).0,
          unless-fits (create_tests who start (m (OwnerOf start.owner)))
              (cond (is_new server made f (m (Leader f))) (created_file own start (owner_of (m (OwnerOf start.owner))) f) (no_answer own))
              (λ no. go (is_new server made f (m (Leader f))) (file (Leader f) refl)),
        ),
      )
    where
      go : (b : Bool) → R (Leader f) × W (Leader f) → Fits R W m (Say (cond b (created_file own start (owner_of (m (OwnerOf start.owner))) f) (no_answer own)))
      go true leader = (
        (leader.1, (c.1.0.1 writes-all, tt)),
        opened-read R own.opens (record { number = own.last + 1; file = f; access = Change }) os leader.0,
        (small, (tt, tt)),
      )
      go false leader = (tt, os, tt)

  pages-fits : (f : FileId) (n first : ℕ) (mode : Mode) (next : List (List ℕ) → Look) → IsTrue (covers_of mode Read) → first + n ≤ page_limit
      → LetsEach R W (page_needs f first n mode) → ((ps : List (List ℕ)) → Fits R W m (next ps)) → Fits R W m (ask_pages f first n next)
  pages-fits f zero first mode next reads low c h = h []
  pages-fits f (suc n) first mode next reads low c h =
      let d = subst (LetsEach R W) (page-row f first n mode (omega (arith, low))) c in
      (d.0.0 reads, pages-fits f n (first + 1) mode (λ ps. next (page_in (m (PageOf f first)) ∷ ps)) reads (omega (arith, low)) d.1 (λ ps. h (page_in (m (PageOf f first)) ∷ ps)))

  -- the size of a file that is there
  its-size : (f : FileId) (p : Props) → m (Leader f) ≡ Some (cell.Leader p) → p.size < page_limit
  its-size f p here = sized (Leader f) (cell.Leader p) here

  read-fits : (r : Run) (o : Open) (p : Props) (mode : Mode) → IsTrue (covers_of mode Read) → m (Leader o.file) ≡ Some (cell.Leader p) → LetsEach R W (page_needs o.file r.first r.count mode) → Fits R W m (read_pages own r o p)
  read-fits r o p mode reads here c = go (nat_lt p.size (r.first + r.count)) refl
    where
      go : (b : Bool) → nat_lt p.size (r.first + r.count) ≡ b → Fits R W m (cond b (Say (refused own (refusal.NoSuchPage p.size))) (ask_pages o.file r.first r.count (λ ps. Say (replied own (reply.Pages ps) []))))
      go true e = (tt, os, tt)
      go false e =
          let past : r.first + r.count ≤ p.size = ltb-false p.size (r.first + r.count) e in
          let small : p.size < page_limit = its-size o.file p here in
          pages-fits o.file r.count r.first mode (λ ps. Say (replied own (reply.Pages ps) [])) reads (omega (arith, past, small)) c (λ ps. (tt, os, tt))

  puts-within : (f : FileId) (pages : List (List ℕ)) (first : ℕ) → first + length pages ≤ page_limit → LetsEach R W (page_needs f first (length pages) Write) → IsWithin W (page_puts f first pages)
  puts-within f [] first low c = tt
  puts-within f (bytes ∷ pages) first low c =
      let d = subst (LetsEach R W) (page-row f first (length pages) Write (omega (arith, low))) c in
      (d.0.1 writes-all, puts-within f pages (first + 1) (omega (arith, low)) d.1)

  mark-fits : (f : FileId) (p : Props) (last : ℕ) → p.size < page_limit → LetsEach R W (mark_needs f p last) → IsWithin W (mark_put f p last) × PutsSized (mark_put f p last)
  mark-fits f p last small c = go (nat_lt p.high_water last) c
    where
      go : (b : Bool) → LetsEach R W (cond b ((Leaf (Leader f), Write) ∷ []) [])
          → IsWithin W (cond b (Put (Leader f) (cell.Leader (record p { high_water = last })) ∷ []) []) × PutsSized (cond b (Put (Leader f) (cell.Leader (record p { high_water = last })) ∷ []) [])
      go true c = ((c.0.1 writes-all, tt), (small, tt))
      go false c = (tt, tt)

  write-fits : (r : Run) (pages : List (List ℕ)) → length pages ≡ r.count → (o : Open) (p : Props) → m (Leader o.file) ≡ Some (cell.Leader p)
      → LetsEach R W (mark_needs o.file p (r.first + r.count) ++ page_needs o.file r.first r.count Write) → Fits R W m (write_pages own r pages o p)
  write-fits r pages full o p here c =
      let small : p.size < page_limit = its-size o.file p here in
      let mark = mark-fits o.file p (r.first + r.count) small (lets-left R W (mark_needs o.file p (r.first + r.count)) (page_needs o.file r.first r.count Write) c) in
      let row : LetsEach R W (page_needs o.file r.first (length pages) Write) =
      subst (λ n. LetsEach R W (page_needs o.file r.first n Write)) (sym full) (lets-right R W (mark_needs o.file p (r.first + r.count)) (page_needs o.file r.first r.count Write) c) in
      unless-fits (page_past r p) (replied own reply.Plain (page_puts o.file r.first pages ++ mark_put o.file p (r.first + r.count)))
      (λ no. (
      let past : r.first + r.count ≤ p.size = ltb-false p.size (r.first + r.count) no.0 in (
        within-append W (page_puts o.file r.first pages) (mark_put o.file p (r.first + r.count)) (puts-within o.file pages r.first (omega (arith, past, small, full)) row) mark.0,
        os,
        sized-append (page_puts o.file r.first pages) (mark_put o.file p (r.first + r.count)) (puts-sized o.file r.first pages) mark.1,
      )))

  lock-fits : (r : Run) (o : Open) (p : Props) → Fits R W m (lock_pages own r o p)
  lock-fits r o p = unless-fits (page_past r p) (replied own reply.Plain []) (λ no. (tt, os, tt))

  delete-fits : (o : Open) (p : Props) → LetsEach R W ((Whole o.file, Write) ∷ (Leaf (OwnerOf p.owner), Write) ∷ []) → Fits R W m (delete_file own o p)
  delete-fits o p c = (
    c.1.0.0 writes-read,
    ((λ k e. (c.0 writes-all k e).1, (c.1.0.1 writes-all, tt)), filter-read R (λ x. not (same_file o.file x.file)) own.opens os, (tt, tt)),
  )

  size-fits : (size : ℕ) → size < page_limit → (o : Open) (p : Props) → p.size < page_limit → LetsEach R W (size_needs size o p) → Fits R W m (set_size own size o p)
  size-fits size small o p was c = go (size == p.size) (nat_lt size p.size) c
    where
      go : (same less : Bool)
          → LetsEach R W (cond same ((Leaf (Leader o.file), Write) ∷ [])
          (cond less ((Whole o.file, Write) ∷ (Leaf (OwnerOf p.owner), Write) ∷ []) ((Leaf (Leader o.file), Write) ∷ (Leaf (OwnerOf p.owner), Write) ∷ [])))
          → Fits R W m (cond same (put_props own o p) (cond less (cut_file own size o p) (grow_file own size o p)))
      go true less c = ((c.0.1 writes-all, tt), os, (was, tt))
      go false true c =
          let file : (k : Key) → file_of k ≡ Some o.file → R k × W k = c.0 writes-all in
          (c.1.0.0 writes-read, ((λ k e. (file k e).1, ((file (Leader o.file) refl).1, (c.1.0.1 writes-all, tt))), os, (small, (tt, tt))))
      go false false c = (
        c.1.0.0 writes-read,
        unless-fits ((is_over (owner_of (m (OwnerOf p.owner))) (size - p.size), quota_exceeded (owner_of (m (OwnerOf p.owner))) (size - p.size)) ∷ [])
            (replied own reply.Plain (Put (Leader o.file) (cell.Leader (record p { size = size })) ∷ charge_put p.owner (owner_of (m (OwnerOf p.owner))) ((owner_of (m (OwnerOf p.owner))).charge + (size - p.size)) ∷ []))
            (λ no. ((c.0.1 writes-all, (c.1.0.1 writes-all, tt)), os, (small, (tt, tt)))),
      )

  move-fits : (who name : List ℕ) (o : Open) (p : Props) → p.size < page_limit → LetsEach R W (change_needs (prop.Owner name) o p) → Fits R W m (move_file own who name o p)
  move-fits who name o p small c = go (same_name p.owner name)
    where
      go : (b : Bool) → Fits R W m (cond b (Say (replied own reply.Plain [])) (Ask (OwnerOf name) (λ nc. Ask (OwnerOf p.owner) (λ oc. Say (unless own (move_tests who name p.size nc) (replied own reply.Plain (
          Put (Leader o.file) (cell.Leader (record p { owner = name })) ∷ charge_put p.owner (owner_of oc) ((owner_of oc).charge - p.size)
          ∷ charge_put name (owner_of nc) ((owner_of nc).charge + p.size) ∷ [])))))))
      go true = (tt, os, tt)
      go false = (
        c.1.1.0.0 writes-read,
        (
          c.1.0.0 writes-read,
          unless-fits (move_tests who name p.size (m (OwnerOf name))) _ (λ no. ((c.0.1 writes-all, (c.1.0.1 writes-all, (c.1.1.0.1 writes-all, tt))), os, (small, (tt, (tt, tt))))),
        ),
      )

  props-fits : (who : List ℕ) (change : PropChange) (o : Open) (p : Props) → p.size < page_limit → LetsEach R W (change_needs change o p) → Fits R W m (write_props own who change o p)
  props-fits who (prop.Owner n) o p small c = move-fits who n o p small c
  props-fits who (prop.Name n) o p small c = ((c.0.1 writes-all, tt), os, (small, tt))
  props-fits who (prop.TypeNo n) o p small c = ((c.0.1 writes-all, tt), os, (small, tt))
  props-fits who (prop.ByteLength n) o p small c = ((c.0.1 writes-all, tt), os, (small, tt))
  props-fits who (prop.Read l) o p small c = ((c.0.1 writes-all, tt), os, (small, tt))
  props-fits who (prop.Modify l) o p small c = ((c.0.1 writes-all, tt), os, (small, tt))

  locks-fits : (n : ℕ) (r : Run) (mode : Mode)
      → LetsEach R W (cond (is_changing mode) (needs_on_change m (open_at own.opens n) (λ o p. page_needs o.file r.first r.count mode)) (needs_on_open m (open_at own.opens n) (λ o p. page_needs o.file r.first r.count mode)))
      → Fits R W m (cond (is_changing mode) (on_change own (open_at own.opens n) (lock_pages own r)) (on_open own (open_at own.opens n) (lock_pages own r)))
  locks-fits n r mode c = go (is_changing mode) c
    where
      go : (b : Bool) → LetsEach R W (cond b (needs_on_change m (open_at own.opens n) (λ o p. page_needs o.file r.first r.count mode)) (needs_on_open m (open_at own.opens n) (λ o p. page_needs o.file r.first r.count mode)))
          → Fits R W m (cond b (on_change own (open_at own.opens n) (lock_pages own r)) (on_open own (open_at own.opens n) (lock_pages own r)))
      go true c = change-fits (open_at own.opens n) (λ o p. page_needs o.file r.first r.count mode) (lock_pages own r) (found R own.opens n os) c (λ o p here read d. lock-fits r o p)
      go false c = open-fits (open_at own.opens n) (λ o p. page_needs o.file r.first r.count mode) (lock_pages own r) (found R own.opens n os) c (λ o p here read d. lock-fits r o p)

  -- every call
  pub program-fits : (server : ℕ) (made : List FileId) (who : List ℕ) (c : Call) (id : Option FileId) → IsFormed c → LetsEach R W (needs_made id ++ needs_of m own c) → Fits R W m (program server made who own c id)
  program-fits server made who (call.Hello name) id formed c = (tt, os, tt)
  program-fits server made who (call.Begin seen) id formed c = (tt, os, tt)
  program-fits server made who (call.Join trans) id formed c = (tt, os, tt)
  program-fits server made who (call.CreateFile trans start choice) id formed c = create-fits server made who start id formed.1 c
  program-fits server made who (call.OpenFile trans file access mode choice) id formed c =
      let d = lets-right R W (needs_made id) ((Whole file, mode) ∷ (Leaf (Leader file), Read) ∷ []) c in (
        d.1.0.0 reads-all,
        unless-fits ((not (is_some (props_in (m (Leader file)))), refusal.UnknownFile) ∷ access_tests access who (props_of (m (Leader file))))
            (record { reply = Some (reply.Opened (own.last + 1)); edits = []; own = opened own file access })
            (λ no. (tt, opened-read R own.opens (record { number = own.last + 1; file = file; access = access }) os (d.1.0.0 reads-all), tt)),
      )
  program-fits server made who (call.CloseFile trans n) id formed c = close (open_at own.opens n)
    where
      close : (oo : Option Open) → Fits R W m (close_file own n oo)
      close None = (tt, os, tt)
      close (Some o) = (tt, filter-read R (λ x. not (x.number == n)) own.opens os, tt)
  program-fits server made who (call.DeleteFile trans n choice) id formed c =
      change-fits (open_at own.opens n) (λ o p. (Whole o.file, Write) ∷ (Leaf (OwnerOf p.owner), Write) ∷ []) (delete_file own) (found R own.opens n os)
      (lets-right R W (needs_made id) _ c) (λ o p here read d. delete-fits o p d)
  program-fits server made who (call.ReadPages trans n r mode choice) id formed c =
      open-fits (open_at own.opens n) (λ o p. page_needs o.file r.first r.count mode) (read_pages own r) (found R own.opens n os)
      (lets-right R W (needs_made id) _ c) (λ o p here read d. read-fits r o p mode formed.2 here d)
  program-fits server made who (call.WritePages trans n r pages choice) id formed c =
      change-fits (open_at own.opens n) (λ o p. mark_needs o.file p (r.first + r.count) ++ page_needs o.file r.first r.count Write) (write_pages own r pages) (found R own.opens n os)
      (lets-right R W (needs_made id) _ c) (λ o p here read d. write-fits r pages formed.0 o p here d)
  program-fits server made who (call.LockPages trans n r mode choice) id formed c = locks-fits n r mode (lets-right R W (needs_made id) _ c)
  program-fits server made who (call.SetSize trans n size choice) id formed c =
      change-fits (open_at own.opens n) (size_needs size) (set_size own size) (found R own.opens n os)
      (lets-right R W (needs_made id) _ c) (λ o p here read d. size-fits size formed.1 o p (its-size o.file p here) d)
  program-fits server made who (call.ReadProps trans n) id formed c =
      open-fits (open_at own.opens n) (λ o p. []) (λ o p. Say (replied own (reply.Props p) [])) (found R own.opens n os) (none (open_at own.opens n)) (λ o p here read d. (tt, os, tt))
    where
      none-there : (x : Option Props) → LetsEach R W (needs_there x (λ p. []))
      none-there None = tt
      none-there (Some p) = tt

      none : (oo : Option Open) → LetsEach R W (needs_on_open m oo (λ o p. []))
      none None = tt
      none (Some o) = none-there (props_in (m (Leader o.file)))
  program-fits server made who (call.WriteProps trans n change choice) id formed c =
      change-fits (open_at own.opens n) (change_needs change) (write_props own who change) (found R own.opens n os)
      (lets-right R W (needs_made id) _ c) (λ o p here read d. props-fits who change o p (its-size o.file p here) d)
  program-fits server made who (call.ReadOwner trans name choice) id formed c =
      let d = lets-right R W (needs_made id) ((Leaf (OwnerOf name), Read) ∷ []) c in
      (d.0.0 reads-all, unless-fits ((not (is_some (owner_in (m (OwnerOf name)))), refusal.UnknownOwner) ∷ []) (replied own (reply.Owner (owner_of (m (OwnerOf name)))) []) (λ no. (tt, os, tt)))
  program-fits server made who (call.MakeOwner trans name quota create choice) id formed c =
      let d = lets-right R W (needs_made id) ((Leaf (OwnerOf name), Write) ∷ []) c in (
        d.0.0 writes-read,
        unless-fits ((is_some (owner_in (m (OwnerOf name))), refusal.OwnerExists) ∷ (not (is_admin who), refusal.AccessDenied lists.Admin) ∷ [])
            (replied own reply.Plain (Put (OwnerOf name) (cell.Owner (record { name = name; quota = quota; charge = 0; create = create })) ∷ []))
            (λ no. ((d.0.1 writes-all, tt), os, (tt, tt))),
      )
  program-fits server made who (call.SetQuota trans name quota choice) id formed c =
      let d = lets-right R W (needs_made id) ((Leaf (OwnerOf name), Write) ∷ []) c in (
        d.0.0 writes-read,
        unless-fits ((not (is_some (owner_in (m (OwnerOf name)))), refusal.UnknownOwner) ∷ (not (is_admin who), refusal.AccessDenied lists.Admin) ∷ [])
            (replied own reply.Plain (Put (OwnerOf name) (cell.Owner (record (owner_of (m (OwnerOf name))) { quota = quota })) ∷ []))
            (λ no. ((d.0.1 writes-all, tt), os, (tt, tt))),
      )
  program-fits server made who (call.Finish trans commit) id formed c = (tt, os, tt)
  program-fits server made who (call.Outcome trans) id formed c = (tt, os, tt)
  program-fits server made who (call.Collect number) id formed c = (tt, os, tt)
