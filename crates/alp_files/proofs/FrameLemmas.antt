-- a part does the same on maps that show the same where its locks let it read, and two parts commute whose locks agree
use Rattle.std.specs.Prelude.{cond, Bool, true, false, not, ◌&&◌, ◌||◌, ◌==◌, nat_le, Option, None, Some, ◌⊎◌}
use Rattle.std.specs.List.{AllByRecursion}
use Rattle.std.specs.Option.{option_to_list}
use Rattle.std.specs.FinMap as map
use Rattle.std.specs.Ordering.{eq_by_cmp}
use Rattle.std.proofs.Common.{◌≡◌, ℕ, List, [], ◌∷◌, ◌++◌, refl, sym, ◌∙◌, ap, subst, inl, inr}
use Rattle.std.proofs.Math.Bool.{or-false, or_assoc, or_comm}
use Rattle.alp_base.specs.declared.ids.FileId.{FileId}
use Rattle.alp_base.specs.declared.key.Key.{Key}
use Rattle.alp_base.specs.declared.key.Key.TheVariants.{Leader, PageOf, OwnerOf}
use Rattle.alp_base.specs.Keys.{key_cmp}
use Rattle.alp_base.proofs.NameLemmas.{and_left}
use Rattle.alp_files.specs.Holdings.{Holding, file_of, DoAgreeOnLeaves}
use Rattle.alp_base.specs.declared.cell.Cell.{Cell}
use Rattle.alp_base.specs.declared.cell.Props.{Props}
use Rattle.alp_files.specs.declared.call.Call.{Call}
use Rattle.alp_files.specs.declared.call.Call.TheVariants as call
use Rattle.alp_files.specs.declared.open.Open.{Open}
use Rattle.alp_modes.specs.declared.Mode.{Mode}
use Rattle.alp_base.specs.declared.key.Resource.{Resource}
use Rattle.alp_base.specs.declared.key.Resource.TheVariants.{Whole, Leaf}
use Rattle.alp_files.specs.Cells.{Cells, View, same_file, has_file, props_in}
use Rattle.alp_files.specs.Edits.{Edit, Drop, Cut, Put, is_in_file, is_past, edits_at, after, edits_map}
use Rattle.alp_files.specs.Act.{Own, Answer, Ask, Say, run, no_opens, answer, program, id_in, open_at, unless, create_tests, created_file, no_answer, owner_of, is_changing}
use Rattle.alp_files.specs.History.{PerformedCall, Standing, answer_to, step, steps, begun}
use Rattle.alp_files.specs.Locks.{Need, needs_there, needs_on_open, needs_if_change, needs_of, needs_made, needs_done, page_needs, HoldsEach, Reads, Writes, AreCovered, IsFormed}
use Rattle.alp_files.specs.Apart.{IsWithin, DoShowSame, OpensRead, IsSized, AreSized, changes, ids_after, AreNewAlike, AreFormed, standing, DoesSame, Locked, after_part, IsRightUnder, DoCommute}
use Rattle.alp_files.proofs.HistoryLemmas.{edits_map-append, get-edits_map, same_cells}
use Rattle.alp_files.proofs.SameLemmas.{same_key-true, same_file-true}
use Rattle.alp_files.proofs.FilesLemmas.{same-some}
use Rattle.alp_files.proofs.HeldLemmas.{Lets, LetsEach, lets-each, apart, leaves-turned, writes-all, writes-is-reads}
use Rattle.alp_files.proofs.LookLemmas.{IsReadAt, found, run-frame, run-fits, program-fits, PutsSized, within-append, lets-left}

-- ---- changes stay where they may be

in-file : (f : FileId) (k : Key) → is_in_file f k ≡ true → file_of k ≡ Some f
in-file f (Leader g) e = ap Some (sym (same_file-true f g e))
in-file f (PageOf g n) e = ap Some (sym (same_file-true f g e))
in-file f (OwnerOf name) e = cc

past-in-file : (f : FileId) (n : ℕ) (k : Key) → is_past f n k ≡ true → file_of k ≡ Some f
past-in-file f n (Leader g) e = cc
past-in-file f n (PageOf g i) e = ap Some (sym (same_file-true f g (and_left (same_file f g) (nat_le n i) e)))
past-in-file f n (OwnerOf name) e = cc

edits-step : (W : Key → Type 0) (q : Key) (b : Bool) (new : Option Cell) (es : List Edit) → (b ≡ true → W q)
    → ((old : Option Cell) → edits_at es q old ≡ old) ⊎ W q → ((old : Option Cell) → edits_at es q (cond b new old) ≡ old) ⊎ W q
edits-step W q true new es h r = inr (h refl)
edits-step W q false new es h r = r

-- what is changed within W stays as it is at each other key
edits-apart : (W : Key → Type 0) (es : List Edit) → IsWithin W es → (q : Key) → ((old : Option Cell) → edits_at es q old ≡ old) ⊎ W q
edits-apart W [] h q = inl (λ old. refl)
edits-apart W (Drop f ∷ es) h q = edits-step W q (is_in_file f q) None es (λ e. h.0 q (in-file f q e)) (edits-apart W es h.1 q)
edits-apart W (Cut f n ∷ es) h q = edits-step W q (is_past f n q) None es (λ e. h.0 q (past-in-file f n q e)) (edits-apart W es h.1 q)
edits-apart W (Put k c ∷ es) h q = edits-step W q (eq_by_cmp key_cmp q k) (Some c) es (λ e. subst W (sym (same_key-true q k e)) h.0) (edits-apart W es h.1 q)

-- changes within W show the same where R holds, if R and W meet nowhere
pub apart-same : (R W : Key → Type 0) → ((k : Key) → W k → R k → ⊥) → (es : List Edit) → IsWithin W es → (m : Cells) → DoShowSame R (map.get m) (map.get (edits_map es m))
apart-same R W away es h m k r =
    elim (edits-apart W es h k) [ inl e ↦ sym (ap (λ (v : View). v k) (get-edits_map es m) ∙ e (map.get m k)) | inr w ↦ absurd (away k w r) ]

-- changes of two that meet nowhere, in either order
pub edits-commute : (V W : Key → Type 0) → ((k : Key) → V k → W k → ⊥) → (es fs : List Edit) → IsWithin V es → IsWithin W fs → (m : Cells) → edits_map fs (edits_map es m) ≡ edits_map es (edits_map fs m)
edits-commute V W away es fs h g m = same_cells (edits_map fs (edits_map es m)) (edits_map es (edits_map fs m)) (shown es fs ∙ (λ i k. turn k i) ∙ sym (shown fs es))
  where
    shown : (xs ys : List Edit) → map.get (edits_map ys (edits_map xs m)) ≡ after ys (after xs (map.get m))
    shown xs ys = get-edits_map ys (edits_map xs m) ∙ ap (after ys) (get-edits_map xs m)

    turn : (k : Key) → edits_at fs k (edits_at es k (map.get m k)) ≡ edits_at es k (edits_at fs k (map.get m k))
    turn k = elim (edits-apart V es h k) [
      | inl e ↦ ap (edits_at fs k) (e (map.get m k)) ∙ sym (e (edits_at fs k (map.get m k)))
      | inr v ↦ elim (edits-apart W fs g k) [ inl f ↦ f (edits_at es k (map.get m k)) ∙ ap (edits_at es k) (sym (f (map.get m k))) | inr w ↦ absurd (away k v w) ]
    ]

-- ---- sizes

sized-one : (b : Bool) (c d : Cell) (old : Option Cell) → IsSized c → ((x : Cell) → old ≡ Some x → IsSized x) → cond b (Some c) old ≡ Some d → IsSized d
sized-one true c d old s h e = subst IsSized (same-some c d e) s
sized-one false c d old s h e = h d e

sized-gone : (b : Bool) (d : Cell) (old : Option Cell) → ((x : Cell) → old ≡ Some x → IsSized x) → cond b None old ≡ Some d → IsSized d
sized-gone true d old h e = cc
sized-gone false d old h e = h d e

pub sized-after : (es : List Edit) (m : View) → AreSized m → PutsSized es → AreSized (after es m)
sized-after [] m s h = s
sized-after (Drop f ∷ es) m s h = sized-after es (after (Drop f ∷ []) m) (λ k c e. sized-gone (is_in_file f k) c (m k) (s k) e) h
sized-after (Cut f n ∷ es) m s h = sized-after es (after (Cut f n ∷ []) m) (λ k c e. sized-gone (is_past f n k) c (m k) (s k) e) h
sized-after (Put q x ∷ es) m s h = sized-after es (after (Put q x ∷ []) m) (λ k c e. sized-one (eq_by_cmp key_cmp k q) x c (m k) h.0 (s k) e) h.1

-- ---- one call

-- of the id that is given, the same were given before
pub program-made : (server : ℕ) (made others : List FileId) (who : List ℕ) (own : Own) (c : Call) (id : Option FileId) → ((f : FileId) → id ≡ Some f → has_file f made ≡ has_file f others)
    → program server made who own c id ≡ program server others who own c id
program-made server made others who own (call.CreateFile trans start choice) None h = refl
program-made server made others who own (call.CreateFile trans start choice) (Some f) h =
    ap (λ (b : Bool). Ask (OwnerOf start.owner) (λ oc. Ask (Leader f) (λ lc. Say (unless own (create_tests who start oc)
    (cond (f.server == server && not (elim lc as (λ x. Bool) [ None ↦ false | Some x ↦ true ]) && not b) (created_file own start (owner_of oc) f) (no_answer own))))))
    (h f refl)
program-made server made others who own c id h = refl

module _ (R W : Key → Type 0) where
  -- the locks of a call are those in any view that shows the same
  needs-there : (m n : View) → DoShowSame R m n → (oo : Option Open) → IsReadAt R oo → (next : Open → Props → List Need) → needs_on_open m oo next ≡ needs_on_open n oo next
  needs-there m n same None r next = refl
  needs-there m n same (Some o) r next = ap (λ c. needs_there (props_in c) (next o)) (same (Leader o.file) r)

  needs-frame : (m n : View) → DoShowSame R m n → (own : Own) → OpensRead R own.opens → (c : Call) → needs_of m own c ≡ needs_of n own c
  needs-frame m n same own os (call.DeleteFile trans k choice) = needs-there m n same (open_at own.opens k) (found R own.opens k os) _
  needs-frame m n same own os (call.ReadPages trans k r mode choice) = needs-there m n same (open_at own.opens k) (found R own.opens k os) _
  needs-frame m n same own os (call.WritePages trans k r pages choice) = needs-there m n same (open_at own.opens k) (found R own.opens k os) _
  needs-frame m n same own os (call.LockPages trans k r mode choice) =
      let row : Open → Props → List Need = λ o p. page_needs o.file r.first r.count mode in
      λ i. cond (is_changing mode) (needs-there m n same (open_at own.opens k) (found R own.opens k os) (λ o p. needs_if_change o.access (row o p)) i) (needs-there m n same (open_at own.opens k) (found R own.opens k os) row i)
  needs-frame m n same own os (call.SetSize trans k size choice) = needs-there m n same (open_at own.opens k) (found R own.opens k os) _
  needs-frame m n same own os (call.WriteProps trans k change choice) = needs-there m n same (open_at own.opens k) (found R own.opens k os) _
  needs-frame m n same own os c = refl

  -- one call, on maps that show the same
  pub answer-frame : (m n : View) → DoShowSame R m n → AreSized m → (server : ℕ) (made others : List FileId) (who : List ℕ) (own : Own) → OpensRead R own.opens → (d : PerformedCall) → IsFormed d.call
      → LetsEach R W (needs_done m own d) → ((f : FileId) → id_in d.reply ≡ Some f → has_file f made ≡ has_file f others)
      → answer server made m who own d.call d.reply ≡ answer server others n who own d.call d.reply
  answer-frame m n same sized server made others who own os d formed c new =
      run-frame R W m n same (program server made who own d.call (id_in d.reply)) (program-fits R W m own os sized server made who d.call (id_in d.reply) formed c)
      ∙ ap (run n) (program-made server made others who own d.call (id_in d.reply) new)

  pub answer-fits : (m : View) → AreSized m → (server : ℕ) (made : List FileId) (who : List ℕ) (own : Own) → OpensRead R own.opens → (d : PerformedCall) → IsFormed d.call → LetsEach R W (needs_done m own d)
      → IsWithin W (answer server made m who own d.call d.reply).edits × OpensRead R (answer server made m who own d.call d.reply).own.opens × PutsSized (answer server made m who own d.call d.reply).edits
  answer-fits m sized server made who own os d formed c =
      run-fits R W m (program server made who own d.call (id_in d.reply)) (program-fits R W m own os sized server made who d.call (id_in d.reply) formed c)

same-after : (R : Key → Type 0) (es : List Edit) (m n : Cells) → DoShowSame R (map.get m) (map.get n) → DoShowSame R (map.get (edits_map es m)) (map.get (edits_map es n))
same-after R es m n same k r = ap (λ (v : View). v k) (get-edits_map es m) ∙ ap (edits_at es k) (same k r) ∙ sym (ap (λ (v : View). v k) (get-edits_map es n))

sized-map : (es : List Edit) (m : Cells) → AreSized (map.get m) → PutsSized es → AreSized (map.get (edits_map es m))
sized-map es m s h = subst AreSized (sym (get-edits_map es m)) (sized-after es (map.get m) s h)

-- ---- a part's calls

pub more-ids : (x : Option FileId) (made others : List FileId) (f : FileId) → has_file f made ≡ has_file f others → has_file f (option_to_list x ++ made) ≡ has_file f (option_to_list x ++ others)
more-ids None made others f h = h
more-ids (Some g) made others f h = ap (λ (b : Bool). same_file g f || b) h

more-new : (x : Option FileId) (made others : List FileId) (ds : List PerformedCall) → AreNewAlike made others ds → AreNewAlike (option_to_list x ++ made) (option_to_list x ++ others) ds
more-new x made others [] h = tt
more-new x made others (d ∷ ds) h = (λ f e. more-ids x made others f (h.0 f e), more-new x made others ds h.1)

module _ (held : Holding) (server : ℕ) (who : List ℕ) where
  -- on maps that show the same where it may read, a part does the same
  pub part-frame : (ds : List PerformedCall) (m n : Cells) (made others : List FileId) (own : Own) → AreFormed ds → AreSized (map.get m) → OpensRead (Reads held) own.opens
      → AreCovered held server (standing m made own) who ds → DoShowSame (Reads held) (map.get m) (map.get n) → AreNewAlike made others ds
      → DoesSame held server (standing m made own) (standing n others own) who ds
  part-frame [] m n made others own formed sized os c same new = record { right = λ h. tt; edits = refl; own = refl; covered = λ h. tt }
  part-frame (d ∷ ds) m n made others own formed sized os c same new =
      let a : Answer = answer server made (map.get m) who own d.call d.reply in
      let b : Answer = answer server others (map.get n) who own d.call d.reply in
      let row : LetsEach (Reads held) (Writes held) (needs_done (map.get m) own d) = lets-each held (needs_done (map.get m) own d) c.0 in
      let e : a ≡ b = answer-frame (Reads held) (Writes held) (map.get m) (map.get n) same sized server made others who own os d formed.0 row new.0 in
      let fits = answer-fits (Reads held) (Writes held) (map.get m) sized server made who own os d formed.0 row in
      let ids : List FileId = option_to_list (id_in d.reply) in
      let next : Standing = standing (edits_map a.edits m) (ids ++ made) a.own in
      let rest : DoesSame held server next (standing (edits_map b.edits n) (ids ++ others) b.own) who ds =
      subst (λ (x : Answer). DoesSame held server next (standing (edits_map x.edits n) (ids ++ others) x.own) who ds) e
      (part-frame ds (edits_map a.edits m) (edits_map a.edits n) (ids ++ made) (ids ++ others) a.own formed.1 (sized-map a.edits m sized fits.2) fits.1 c.1
      (same-after (Reads held) a.edits m n same) (more-new (id_in d.reply) made others ds new.1)) in
      record {
        right = λ h. (ap (λ (x : Answer). x.reply) (sym e) ∙ h.0, rest.right h.1);
        edits = λ i. (e i).edits ++ rest.edits i;
        own = rest.own;
        covered = λ h. (subst (λ (ns : List Need). HoldsEach held (needs_made (id_in d.reply) ++ ns)) (needs-frame (Reads held) (Writes held) (map.get m) (map.get n) same own os d.call) h.0, rest.covered h.1);
      }

  -- what a part changes, its locks let it write
  pub part-within : (ds : List PerformedCall) (m : Cells) (made : List FileId) (own : Own) → AreFormed ds → AreSized (map.get m) → OpensRead (Reads held) own.opens
      → AreCovered held server (standing m made own) who ds → IsWithin (Writes held) (changes server (standing m made own) who ds) × AreSized (map.get (steps server (standing m made own) who ds).files)
  part-within [] m made own formed sized os c = (tt, sized)
  part-within (d ∷ ds) m made own formed sized os c =
      let a : Answer = answer server made (map.get m) who own d.call d.reply in
      let fits = answer-fits (Reads held) (Writes held) (map.get m) sized server made who own os d formed.0 (lets-each held (needs_done (map.get m) own d) c.0) in
      let rest = part-within ds (edits_map a.edits m) (option_to_list (id_in d.reply) ++ made) a.own formed.1 (sized-map a.edits m sized fits.2) fits.1 c.1 in
      (within-append (Writes held) a.edits (changes server (standing (edits_map a.edits m) (option_to_list (id_in d.reply) ++ made) a.own) who ds) fits.0 rest.0, rest.1)

-- the files that a part leaves are those that its changes make
pub files-changed : (server : ℕ) (who : List ℕ) (ds : List PerformedCall) (s : Standing) → (steps server s who ds).files ≡ edits_map (changes server s who ds) s.files
files-changed server who [] s = refl
files-changed server who (d ∷ ds) s =
    files-changed server who ds (step server s who d) ∙ sym (edits_map-append (answer_to server s who d).edits (changes server (step server s who d) who ds) s.files)

pub made-after : (server : ℕ) (who : List ℕ) (ds : List PerformedCall) (s : Standing) → (steps server s who ds).made ≡ ids_after s.made ds
made-after server who [] s = refl
made-after server who (d ∷ ds) s = made-after server who ds (step server s who d)

-- sizes stay, whatever is held
all-read : (os : List Open) → OpensRead (λ k. Unit {0}) os
all-read [] = tt
all-read (o ∷ os) = (tt, all-read os)

all-let : (ns : List Need) → LetsEach (λ k. Unit {0}) (λ k. Unit {0}) ns
all-let [] = tt
all-let (n ∷ ns) = (let-one n.0 n.1, all-let ns)
  where
    let-one : (r : Resource) (m : Mode) → Lets (λ k. Unit {0}) (λ k. Unit {0}) r m
    let-one (Whole f) m = λ w k e. (tt, tt)
    let-one (Leaf k) m = (λ r. tt, λ w. tt)

pub steps-sized : (server : ℕ) (s : Standing) (who : List ℕ) (ds : List PerformedCall) → AreFormed ds → AreSized (map.get s.files) → AreSized (map.get (steps server s who ds).files)
steps-sized server s who [] formed sized = sized
steps-sized server s who (d ∷ ds) formed sized =
    steps-sized server (step server s who d) who ds formed.1
    (sized-map (answer_to server s who d).edits s.files sized
    (answer-fits (λ k. Unit {0}) (λ k. Unit {0}) (map.get s.files) sized server s.made who s.own (all-read s.own.opens) d formed.0 (all-let (needs_done (map.get s.files) s.own d))).2)

-- ---- the ids that parts give

-- the locks let the leaders of the new files be written
abbrev AreIdsWritten : Holding → List PerformedCall → Type 0
AreIdsWritten held ds = AllByRecursion (λ (d : PerformedCall). (f : FileId) → id_in d.reply ≡ Some f → Writes held (Leader f)) ds

id-written : (held : Holding) (x : Option FileId) → LetsEach (Reads held) (Writes held) (needs_made x) → (f : FileId) → x ≡ Some f → Writes held (Leader f)
id-written held None c f e = cc
id-written held (Some g) c f e = subst (λ (y : FileId). Writes held (Leader y)) (same-some g f e) (c.0 writes-all (Leader g) refl).1

ids-written : (held : Holding) (server : ℕ) (who : List ℕ) (ds : List PerformedCall) (s : Standing) → AreCovered held server s who ds → AreIdsWritten held ds
ids-written held server who [] s c = tt
ids-written held server who (d ∷ ds) s c = (
  id-written held (id_in d.reply) (lets-left (Reads held) (Writes held) (needs_made (id_in d.reply)) (needs_of (map.get s.files) s.own d.call) (lets-each held (needs_done (map.get s.files) s.own d) c.0)),
  ids-written held server who ds (step server s who d) c.1,
)

other-id : (x : Option FileId) (made : List FileId) (f : FileId) → ((g : FileId) → x ≡ Some g → g ≡ f → ⊥) → has_file f (option_to_list x ++ made) ≡ has_file f made
other-id None made f apart = refl
other-id (Some g) made f apart = go (same_file g f) refl
  where
    go : (b : Bool) → same_file g f ≡ b → (b || has_file f made) ≡ has_file f made
    go true e = absurd (apart g refl (same_file-true g f e))
    go false e = refl

module _ (a b : Holding) (away : (k : Key) → Writes a k → Writes b k → ⊥) where
  -- what one gave is no id of the other
  other-ids : (ds : List PerformedCall) (made : List FileId) (f : FileId) → Writes b (Leader f) → AreIdsWritten a ds → has_file f (ids_after made ds) ≡ has_file f made
  other-ids [] made f w h = refl
  other-ids (d ∷ ds) made f w h =
      other-ids ds (option_to_list (id_in d.reply) ++ made) f w h.1
      ∙ other-id (id_in d.reply) made f (λ g e same. away (Leader f) (subst (λ (x : FileId). Writes a (Leader x)) same (h.0 g e)) w)

  new-alike : (ds es : List PerformedCall) (made : List FileId) → AreIdsWritten a ds → AreIdsWritten b es → AreNewAlike (ids_after made ds) made es
  new-alike ds [] made h g = tt
  new-alike ds (e ∷ es) made h g = (λ f is. other-ids ds made f (g.0 f is) h, new-alike ds es made h g.1)

alike-turned : (made others : List FileId) (ds : List PerformedCall) → AreNewAlike made others ds → AreNewAlike others made ds
alike-turned made others [] h = tt
alike-turned made others (d ∷ ds) h = (λ f e. sym (h.0 f e), alike-turned made others ds h.1)

-- whether the calls gave the id
gave : FileId → List PerformedCall → Bool
gave f [] = false
gave f (d ∷ ds) = gave f ds || has_file f (option_to_list (id_in d.reply))

has-append : (x : Option FileId) (made : List FileId) (f : FileId) → has_file f (option_to_list x ++ made) ≡ (has_file f (option_to_list x) || has_file f made)
has-append None made f = refl
has-append (Some g) made f = ap (λ (b : Bool). b || has_file f made) (sym (or-false (same_file g f)))

has-after : (ds : List PerformedCall) (made : List FileId) (f : FileId) → has_file f (ids_after made ds) ≡ (gave f ds || has_file f made)
unfolding gave
has-after [] made f = refl
has-after (d ∷ ds) made f =
    has-after ds (option_to_list (id_in d.reply) ++ made) f
    ∙ ap (λ (b : Bool). gave f ds || b) (has-append (id_in d.reply) made f)
    ∙ sym (or_assoc (gave f ds) (has_file f (option_to_list (id_in d.reply))) (has_file f made))

ids-commute : (ds es : List PerformedCall) (made : List FileId) (f : FileId) → has_file f (ids_after (ids_after made es) ds) ≡ has_file f (ids_after (ids_after made ds) es)
ids-commute ds es made f =
    has-after ds (ids_after made es) f ∙ ap (λ (b : Bool). gave f ds || b) (has-after es made f)
    ∙ sym (or_assoc (gave f ds) (gave f es) (has_file f made)) ∙ ap (λ (b : Bool). b || has_file f made) (or_comm (gave f ds) (gave f es)) ∙ or_assoc (gave f es) (gave f ds) (has_file f made)
    ∙ sym (has-after es (ids_after made ds) f ∙ ap (λ (b : Bool). gave f es || b) (has-after ds made f))

-- an id that neither list of calls gave, nor anybody before
or-parts : (a b : Bool) → (a || b) ≡ false → (a ≡ false) × (b ≡ false)
or-parts true b e = cc
or-parts false b e = (refl, e)

pub none-given : (ds es : List PerformedCall) (made : List FileId) (f : FileId) → has_file f (ids_after made ds) ≡ false → has_file f (ids_after made es) ≡ false
    → has_file f (ids_after (ids_after made ds) es) ≡ false
none-given ds es made f h g =
    has-after es (ids_after made ds) f ∙ ap (λ (b : Bool). gave f es || b) h
    ∙ or-false (gave f es) ∙ (or-parts (gave f es) (has_file f made) (sym (has-after es made f) ∙ g)).0

-- ---- two parts

-- a part does the same behind another whose locks agree with its own
pub parts-beside : (server : ℕ) (s : Standing) (p q : Locked) → AreSized (map.get s.files) → DoAgreeOnLeaves p.held q.held → IsRightUnder server s p → IsRightUnder server s q
    → DoesSame q.held server (begun s) (begun (after_part server s p)) q.who q.calls
parts-beside server s p q sized agree one two =
    let t : Standing = after_part server s p in
    let writes : (k : Key) → Writes p.held k → Reads q.held k → ⊥ = apart p.held q.held agree in
    let within = part-within p.held server p.who p.calls s.files s.made no_opens one.formed sized tt one.covered in
    let p_ids : AreIdsWritten p.held p.calls = ids-written p.held server p.who p.calls (begun s) one.covered in
    let q_ids : AreIdsWritten q.held q.calls = ids-written q.held server q.who q.calls (begun s) two.covered in
    part-frame q.held server q.who q.calls s.files t.files s.made t.made no_opens two.formed sized tt two.covered
    (λ k r. apart-same (Reads q.held) (Writes p.held) writes (changes server (begun s) p.who p.calls) within.0 s.files k r ∙ ap (λ (x : Cells). map.get x k) (sym (files-changed server p.who p.calls (begun s))))
    (alike-turned t.made s.made q.calls
    (subst (λ (x : List FileId). AreNewAlike x s.made q.calls) (sym (made-after server p.who p.calls (begun s)))
    (new-alike p.held q.held (λ k w x. writes k w (writes-is-reads q.held k x)) p.calls q.calls s.made p_ids q_ids)))

pub parts-commute : (server : ℕ) (s : Standing) (p q : Locked) → AreSized (map.get s.files) → DoAgreeOnLeaves p.held q.held → IsRightUnder server s p → IsRightUnder server (after_part server s p) q → DoCommute server s p q
parts-commute server s p q sized agree one two =
    let s1 : Standing = after_part server s p in
    let t1 : Standing = after_part server s q in
    let p_edits : List Edit = changes server (begun s) p.who p.calls in
    let q_edits : List Edit = changes server (begun s) q.who q.calls in
    let p_writes : (k : Key) → Writes p.held k → Reads q.held k → ⊥ = apart p.held q.held agree in
    let p_within = part-within p.held server p.who p.calls s.files s.made no_opens one.formed sized tt one.covered in
    let s1_files : s1.files ≡ edits_map p_edits s.files = files-changed server p.who p.calls (begun s) in
    let p_ids : AreIdsWritten p.held p.calls = ids-written p.held server p.who p.calls (begun s) one.covered in
    let q_ids : AreIdsWritten q.held q.calls = ids-written q.held server q.who q.calls (begun s1) two.covered in
    let s1_made : s1.made ≡ ids_after s.made p.calls = made-after server p.who p.calls (begun s) in
    let t1_made : t1.made ≡ ids_after s.made q.calls = made-after server q.who q.calls (begun s) in
    let back : DoesSame q.held server (begun s1) (begun s) q.who q.calls =
    part-frame q.held server q.who q.calls s1.files s.files s1.made s.made no_opens two.formed p_within.1 tt two.covered
    (λ k r. ap (λ (x : Cells). map.get x k) s1_files ∙ sym (apart-same (Reads q.held) (Writes p.held) p_writes p_edits p_within.0 s.files k r))
    (subst (λ (x : List FileId). AreNewAlike x s.made q.calls) (sym s1_made) (new-alike p.held q.held (λ k w x. p_writes k w (writes-is-reads q.held k x)) p.calls q.calls s.made p_ids q_ids)) in
    let q_within = part-within q.held server q.who q.calls s.files s.made no_opens two.formed sized tt (back.covered two.covered) in
    let t1_files : t1.files ≡ edits_map q_edits s.files = files-changed server q.who q.calls (begun s) in
    let q_first : IsRightUnder server s q = record { formed = two.formed; right = back.right two.right; covered = back.covered two.covered } in
    let on : DoesSame p.held server (begun s) (begun t1) p.who p.calls = parts-beside server s q p sized (leaves-turned p.held q.held agree) q_first one in
    record {
      earlier = q_first;
      later = record { formed = one.formed; right = on.right one.right; covered = on.covered one.covered };
      files =
          files-changed server p.who p.calls (begun t1)
          ∙ ap (λ (es : List Edit). edits_map es t1.files) (sym on.edits)
          ∙ ap (edits_map p_edits) t1_files
          ∙ edits-commute (Writes q.held) (Writes p.held) (λ k w x. p_writes k x (writes-is-reads q.held k w)) q_edits p_edits q_within.0 p_within.0 s.files
          ∙ ap (edits_map q_edits) (sym s1_files)
          ∙ ap (λ (es : List Edit). edits_map es s1.files) (sym back.edits)
          ∙ sym (files-changed server q.who q.calls (begun s1));
      ids = λ f.
          ap (has_file f) (made-after server p.who p.calls (begun t1)) ∙ ap (λ (x : List FileId). has_file f (ids_after x p.calls)) t1_made
          ∙ ids-commute p.calls q.calls s.made f
          ∙ sym (ap (has_file f) (made-after server q.who q.calls (begun s1)) ∙ ap (λ (x : List FileId). has_file f (ids_after x q.calls)) s1_made);
    }
