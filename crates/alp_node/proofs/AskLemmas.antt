-- what a call asks of the table is what the journal's laws ask
use Rattle.std.specs.Prelude.{cond, Bool, true, false, ◌==◌, nat_lt, IsTrue, Option, None, Some, IfSome, zero, suc}
use Rattle.std.specs.List.{AllByRecursion, list_all}
use Rattle.std.proofs.lemmas.Bool.{ltb-false}
use Rattle.std.proofs.Common.{◌≡◌, ℕ, ◌+◌, ◌*◌, ◌≤◌, List, [], ◌∷◌, length, length-append, refl, sym, ◌∙◌, ap, subst, arith}
use Rattle.alp_base.proofs.NameLemmas.{and_left, and_right}
use Rattle.alp_base.specs.declared.ids.FileId.{FileId}
use Rattle.alp_base.specs.declared.ids.Run.{Run}
use Rattle.alp_base.specs.declared.key.Key.{Key}
use Rattle.alp_base.specs.declared.key.Key.TheVariants.{Leader, PageOf, OwnerOf}
use Rattle.alp_base.specs.declared.key.Resource.{Resource}
use Rattle.alp_base.specs.declared.key.Resource.TheVariants.{Whole, Leaf}
use Rattle.alp_base.specs.declared.choices.Access.{Access}
use Rattle.alp_base.specs.declared.choices.Access.TheVariants.{ReadOnly, Change}
use Rattle.alp_modes.specs.declared.Mode.{Mode}
use Rattle.alp_modes.specs.declared.Mode.TheVariants.{Write}
use Rattle.alp_files.specs.Act.{Own, open_at, is_changing}
use Rattle.alp_files.specs.Cells.{Cells, View, props_in}
use Rattle.alp_files.specs.Holdings.{Holding, covers_held, given_to, file_of}
use Rattle.alp_files.specs.Locks.{Need, needs_of, needs_there, needs_on_open, needs_on_change, needs_if_change, page_needs, page_limit, mark_needs, size_needs, change_needs, request_of, asked_on, asked_each, joined, wholes_of, intention_on}
use Rattle.alp_files.specs.declared.call.Call.{Call}
use Rattle.alp_files.specs.declared.call.Call.TheVariants as call
use Rattle.alp_files.specs.declared.call.PropChange.{PropChange}
use Rattle.alp_files.specs.declared.call.PropChange.TheVariants as prop
use Rattle.alp_base.specs.declared.cell.Props.{Props}
use Rattle.alp_files.specs.declared.open.Open.{Open}
use Rattle.alp_files.specs.declared.refusal.Refusal.TheVariants as refusal
use Rattle.alp_files.specs.declared.refusal.What.TheVariants as what
use Rattle.alp_calls.specs.Finds.{found_on, with_props, if_allowed}
use Rattle.alp_calls.specs.declared.finding.OpenedFile.{OpenedFile}
use Rattle.alp_journal.proofs.IdLemmas.{all-append}
use Rattle.alp_journal.specs.Answers.{if_over}
use Rattle.alp_trans.specs.declared.part.Part.{Part}
use Rattle.alp_calls.specs.Parts.{seen}
use Rattle.alp_trans.specs.Parts.{own_of}
use Rattle.alp_node.specs.Asks.{asks_of, looks_at, if_found, found_in, open_needs, on_opened, needs_on, IsOneOf, IsAsked, is_given, is_of_given, IsGivenOn, AreGiven}
use Rattle.alp_node.specs.Shapes.{shape_of, ReadsSome}
use Rattle.alp_regain.specs.Named.{is_leaf_mode}

-- ---- what the journal says that a call needs

module _ (m : View) where
  -- on an open, whose file is there
  needs_open : (x : Option Open) (needs : Open → Props → List Need) → on_opened (if_found (found_on ReadOnly m x)) needs ≡ needs_on_open m x needs
  needs_open None needs = refl
  needs_open (Some o) needs = there (props_in (m (Leader o.file)))
    where
      there : (y : Option Props) → on_opened (if_found (with_props o y)) needs ≡ needs_there y (needs o)
      there None = refl
      there (Some p) = refl

  -- and where it is one for change
  needs_change : (x : Option Open) (needs : Open → Props → List Need) → on_opened (if_found (found_on Change m x)) needs ≡ needs_on_change m x needs
  needs_change None needs = refl
  needs_change (Some o) needs = go o.access
    where
      no_needs : (y : Option Props) → [] ≡ needs_there y (λ (p : Props). [])
      no_needs None = refl
      no_needs (Some p) = refl

      there : (y : Option Props) → on_opened (if_found (with_props o y)) needs ≡ needs_there y (λ p. needs o p)
      there None = refl
      there (Some p) = refl

      go : (a : Access) → on_opened (if_found (if_allowed Change a (with_props o (props_in (m (Leader o.file)))))) needs ≡ needs_there (props_in (m (Leader o.file))) (λ p. needs_if_change a (needs o p))
      go ReadOnly = no_needs (props_in (m (Leader o.file)))
      go Change = there (props_in (m (Leader o.file)))

  -- pages that are locked to be changed need the one, and others the other
  needs_locked : (b : Bool) (x : Option Open) (needs : Open → Props → List Need)
      → on_opened (if_found (found_on (cond {A = Access} b Change ReadOnly) m x)) needs ≡ cond {A = List Need} b (needs_on_change m x needs) (needs_on_open m x needs)
  needs_locked true x needs = needs_change x needs
  needs_locked false x needs = needs_open x needs

  pub needs_found : (own : Own) (c : Call) → needs_on (found_in m own.opens (looks_at c)) c ≡ needs_of m own c
  needs_found own (call.DeleteFile t n choice) = needs_change (open_at own.opens n) (open_needs (call.DeleteFile t n choice))
  needs_found own (call.ReadPages t n r mode choice) = needs_open (open_at own.opens n) (open_needs (call.ReadPages t n r mode choice))
  needs_found own (call.WritePages t n r pages choice) = needs_change (open_at own.opens n) (open_needs (call.WritePages t n r pages choice))
  needs_found own (call.LockPages t n r mode choice) = needs_locked (is_changing mode) (open_at own.opens n) (open_needs (call.LockPages t n r mode choice))
  needs_found own (call.SetSize t n size choice) = needs_change (open_at own.opens n) (open_needs (call.SetSize t n size choice))
  needs_found own (call.WriteProps t n change choice) = needs_change (open_at own.opens n) (open_needs (call.WriteProps t n change choice))
  needs_found own c = refl

-- ---- of any vault: files that were given

-- what is so of each open is so of the one that is found
found_so : (P : Open → Type 0) (os : List Open) (n : ℕ) → AllByRecursion P os → (op : Open) → open_at os n ≡ Some op → P op
found_so P [] n h op = λ e. let wrong : None ≡ Some op = e in cc
found_so P (x ∷ os) n h op = go (x.number == n) (found_so P os n h.1 op)
  where
    same_open : (a b : Open) → Some a ≡ Some b → a ≡ b
    same_open a b e = cc

    go : (b : Bool) → (open_at os n ≡ Some op → P op) → cond {A = Option Open} b (Some x) (open_at os n) ≡ Some op → P op
    go true later e = subst P (same_open x op e) h.0
    go false later e = later e

-- ---- modes of leaves

abbrev IsModeOn : Resource → Mode → Type 0
IsModeOn (Whole f) m = Unit {0}
IsModeOn (Leaf k) m = is_leaf_mode m ≡ true

abbrev AreModes : List Need → Type 0
AreModes ns = AllByRecursion (λ (n : Need). IsModeOn n.0 n.1) ns

pages_modes : (f : FileId) (n first : ℕ) (m : Mode) → is_leaf_mode m ≡ true → AreModes (page_needs f first n m)
pages_modes f zero first m leaf = tt
pages_modes f (suc n) first m leaf = go (nat_lt first page_limit) (pages_modes f n (first + 1) m leaf)
  where
    go : (b : Bool) → AreModes (page_needs f (first + 1) n m) → AreModes (cond {A = List Need} b ((Leaf (PageOf f first), m) ∷ page_needs f (first + 1) n m) [])
    go true more = (leaf, more)
    go false more = tt

module _ (o : Open) (p : Props) where
  mark_modes : (last : ℕ) → AreModes (mark_needs o.file p last)
  mark_modes last = go (nat_lt p.high_water last)
    where
      go : (b : Bool) → AreModes (cond {A = List Need} b ((Leaf (Leader o.file), Write) ∷ []) [])
      go true = (refl, tt)
      go false = tt

  size_modes : (size : ℕ) → AreModes (size_needs size o p)
  size_modes size = go (size == p.size) (nat_lt size p.size)
    where
      go : (same less : Bool) → AreModes (cond {A = List Need} same ((Leaf (Leader o.file), Write) ∷ []) (cond {A = List Need} less ((Whole o.file, Write) ∷ (Leaf (OwnerOf p.owner), Write) ∷ []) ((Leaf (Leader o.file), Write) ∷ (Leaf (OwnerOf p.owner), Write) ∷ [])))
      go true less = (refl, tt)
      go false true = (tt, (refl, tt))
      go false false = (refl, (refl, tt))

  change_modes : (c : PropChange) → AreModes (change_needs c o p)
  change_modes (prop.Owner n) = (refl, (refl, (refl, tt)))
  change_modes (prop.Name n) = (refl, tt)
  change_modes (prop.TypeNo n) = (refl, tt)
  change_modes (prop.ByteLength n) = (refl, tt)
  change_modes (prop.Read l) = (refl, tt)
  change_modes (prop.Modify l) = (refl, tt)

  open_modes : (c : Call) → ReadsSome c → AreModes (open_needs c o p)
  open_modes (call.DeleteFile t n choice) some = (tt, (refl, tt))
  open_modes (call.ReadPages t n r mode choice) some = pages_modes o.file r.count r.first mode some.1
  open_modes (call.WritePages t n r pages choice) some =
      all-append (λ (x : Need). IsModeOn x.0 x.1) (mark_needs o.file p (r.first + r.count)) (page_needs o.file r.first r.count Write) (mark_modes (r.first + r.count)) (pages_modes o.file r.count r.first Write refl)
  open_modes (call.LockPages t n r mode choice) some = pages_modes o.file r.count r.first mode some
  open_modes (call.SetSize t n size choice) some = size_modes size
  open_modes (call.WriteProps t n change choice) some = change_modes change
  open_modes c some = tt

opened_modes : (x : Option OpenedFile) (c : Call) → ReadsSome c → AreModes (on_opened x (open_needs c))
opened_modes None c some = tt
opened_modes (Some x) c some = open_modes x.opened x.props c some

needs_modes : (x : Option OpenedFile) (c : Call) → ReadsSome c → AreModes (needs_on x c)
needs_modes x (call.CreateFile t start choice) some = (refl, tt)
needs_modes x (call.OpenFile t f a mode choice) some = (tt, (refl, tt))
needs_modes x (call.ReadOwner t name choice) some = (refl, tt)
needs_modes x (call.MakeOwner t name quota create choice) some = (refl, tt)
needs_modes x (call.SetQuota t name quota choice) some = (refl, tt)
needs_modes x c some = opened_modes x c some

module _ (server epoch count : ℕ) where
  -- the file that a resource is or is in was given
  abbrev IsOf : Resource → Type 0
  IsOf (Whole f) = is_given server epoch count f ≡ true
  IsOf (Leaf k) = (f : FileId) → file_of k ≡ Some f → is_given server epoch count f ≡ true

  abbrev AreOf : List Need → Type 0
  AreOf ns = AllByRecursion (λ (n : Need). IsOf n.0) ns

  -- so are those that are asked for them
  intention_given : (o : Option FileId) (m : Mode) → ((f : FileId) → o ≡ Some f → is_given server epoch count f ≡ true) → AreGiven server epoch count (intention_on o m)
  intention_given None m of = tt
  intention_given (Some f) m of = (of f refl, tt)

  asked_of : (held : Holding) (r : Resource) (m : Mode) → IsOf r → IsModeOn r m → AreGiven server epoch count (asked_on held r m)
  asked_of held (Whole f) m of mode = (of, tt)
  asked_of held (Leaf k) m of mode = go (covers_held (given_to held k) m)
    where
      go : (b : Bool) → AreGiven server epoch count (cond {A = List Need} b [] ((Leaf k, m) ∷ intention_on (file_of k) m))
      go true = tt
      go false = (mode, intention_given (file_of k) m of)

  each_of : (held : Holding) (ns : List Need) → AreOf ns → AreModes ns → AreGiven server epoch count (asked_each held ns)
  each_of held [] of modes = tt
  each_of held (n ∷ ns) of modes =
      all-append (λ (x : Need). IsGivenOn server epoch count x.0 x.1) (asked_on held n.0 n.1) (asked_each held ns) (asked_of held n.0 n.1 of.0 modes.0) (each_of held ns of.1 modes.1)

  -- what a call needs
  not_in : (name : List ℕ) → IsOf (Leaf (OwnerOf name))
  not_in name f e = let wrong : None ≡ Some f = e in cc

  same_file : (f g : FileId) → Some f ≡ Some g → f ≡ g
  same_file f g e = cc

  leaf_of_file : (k : Key) (f : FileId) → file_of k ≡ Some f → is_given server epoch count f ≡ true → IsOf (Leaf k)
  leaf_of_file k f in_file given g e = subst (λ (x : FileId). is_given server epoch count x ≡ true) (same_file f g (sym in_file ∙ e)) given

  module _ (o : Open) (p : Props) (given : is_given server epoch count o.file ≡ true) where
    pages_of : (n first : ℕ) (m : Mode) → AreOf (page_needs o.file first n m)
    pages_of zero first m = tt
    pages_of (suc n) first m = go (nat_lt first page_limit) (pages_of n (first + 1) m)
      where
        go : (b : Bool) → AreOf (page_needs o.file (first + 1) n m) → AreOf (cond {A = List Need} b ((Leaf (PageOf o.file first), m) ∷ page_needs o.file (first + 1) n m) [])
        go true more = (leaf_of_file (PageOf o.file first) o.file refl given, more)
        go false more = tt

    mark_of : (last : ℕ) → AreOf (mark_needs o.file p last)
    mark_of last = go (nat_lt p.high_water last)
      where
        go : (b : Bool) → AreOf (cond {A = List Need} b ((Leaf (Leader o.file), Write) ∷ []) [])
        go true = (leaf_of_file (Leader o.file) o.file refl given, tt)
        go false = tt

    size_of : (size : ℕ) → AreOf (size_needs size o p)
    size_of size = go (size == p.size) (nat_lt size p.size)
      where
        go : (same less : Bool) → AreOf (cond {A = List Need} same ((Leaf (Leader o.file), Write) ∷ []) (cond {A = List Need} less ((Whole o.file, Write) ∷ (Leaf (OwnerOf p.owner), Write) ∷ []) ((Leaf (Leader o.file), Write) ∷ (Leaf (OwnerOf p.owner), Write) ∷ [])))
        go true less = (leaf_of_file (Leader o.file) o.file refl given, tt)
        go false true = (given, (not_in p.owner, tt))
        go false false = (leaf_of_file (Leader o.file) o.file refl given, (not_in p.owner, tt))

    change_of : (c : PropChange) → AreOf (change_needs c o p)
    change_of (prop.Owner n) = (leaf_of_file (Leader o.file) o.file refl given, (not_in p.owner, (not_in n, tt)))
    change_of (prop.Name n) = (leaf_of_file (Leader o.file) o.file refl given, tt)
    change_of (prop.TypeNo n) = (leaf_of_file (Leader o.file) o.file refl given, tt)
    change_of (prop.ByteLength n) = (leaf_of_file (Leader o.file) o.file refl given, tt)
    change_of (prop.Read l) = (leaf_of_file (Leader o.file) o.file refl given, tt)
    change_of (prop.Modify l) = (leaf_of_file (Leader o.file) o.file refl given, tt)

    open_of : (c : Call) → AreOf (open_needs c o p)
    open_of (call.DeleteFile t n choice) = (given, (not_in p.owner, tt))
    open_of (call.ReadPages t n r mode choice) = pages_of r.count r.first mode
    open_of (call.WritePages t n r pages choice) =
        all-append (λ (x : Need). IsOf x.0) (mark_needs o.file p (r.first + r.count)) (page_needs o.file r.first r.count Write) (mark_of (r.first + r.count)) (pages_of r.count r.first Write)
    open_of (call.LockPages t n r mode choice) = pages_of r.count r.first mode
    open_of (call.SetSize t n size choice) = size_of size
    open_of (call.WriteProps t n change choice) = change_of change
    open_of c = tt

  opened_of : (x : Option OpenedFile) (c : Call) → IfSome x (λ y. is_given server epoch count y.opened.file ≡ true) → AreOf (on_opened x (open_needs c))
  opened_of None c found = tt
  opened_of (Some x) c found = open_of x.opened x.props found c

  needs_of_given : (x : Option OpenedFile) (c : Call) → IfSome x (λ y. is_given server epoch count y.opened.file ≡ true) → is_of_given server epoch count c ≡ true → AreOf (needs_on x c)
  needs_of_given x (call.CreateFile t start choice) found named = (not_in start.owner, tt)
  needs_of_given x (call.OpenFile t f a mode choice) found named = (named, (leaf_of_file (Leader f) f refl named, tt))
  needs_of_given x (call.ReadOwner t name choice) found named = (not_in name, tt)
  needs_of_given x (call.MakeOwner t name quota create choice) found named = (not_in name, tt)
  needs_of_given x (call.SetQuota t name quota choice) found named = (not_in name, tt)
  needs_of_given x c found named = opened_of x c found

  each_open : (os : List Open) → list_all (λ (o : Open). is_given server epoch count o.file) os ≡ true → AllByRecursion (λ (o : Open). is_given server epoch count o.file ≡ true) os
  each_open [] h = tt
  each_open (o ∷ os) h = (and_left (is_given server epoch count o.file) (list_all (λ (x : Open). is_given server epoch count x.file) os) h, each_open os (and_right (is_given server epoch count o.file) (list_all (λ (x : Open). is_given server epoch count x.file) os) h))

  -- the files that are asked for were given, where those of the opens were
  pub asked_given : (tells : Bool) (cells : Cells) (held : Holding) (p : Part) (c : Call) (ns : List Need) → IsAsked tells cells held p c ns → list_all (λ (o : Open). is_given server epoch count o.file) p.opens.items ≡ true
      → is_of_given server epoch count c ≡ true → ReadsSome c → AreGiven server epoch count ns
  asked_given tells cells held p c ns asked opens named some =
      let needs : List Need = needs_on asked.found c in
      subst (AreGiven server epoch count) (sym asked.is) (each_of (joined held (wholes_of needs)) needs (needs_of_given asked.found c (go asked.found asked.stands) named) (needs_modes asked.found c some))
    where
      go : (x : Option OpenedFile) → IfSome x (IsOneOf p.opens.items) → IfSome x (λ y. is_given server epoch count y.opened.file ≡ true)
      go None at = tt
      go (Some x) at = found_so (λ (o : Open). is_given server epoch count o.file ≡ true) p.opens.items at.0 (each_open p.opens.items opens) x.opened at.1

-- what is asked where the vault tells
pub asked_told : (tells : Bool) (cells : Cells) (held : Holding) (p : Part) (c : Call) (ns : List Need) → IsAsked tells cells held p c ns → IsTrue tells → ns ≡ asks_of held (seen cells p) (own_of p) c
asked_told tells cells held p c ns asked told = asked.is ∙ ap (request_of held) (asked.told told)

-- ---- how many are asked

few_pages : (f : FileId) (n first : ℕ) (m : Mode) → length (page_needs f first n m) ≤ n
few_pages f zero first m = omega arith
few_pages f (suc n) first m = go (nat_lt first page_limit) (few_pages f n (first + 1) m)
  where
    go : (b : Bool) → length (page_needs f (first + 1) n m) ≤ n → length (cond {A = List Need} b ((Leaf (PageOf f first), m) ∷ page_needs f (first + 1) n m) []) ≤ suc n
    go true more = omega (arith, more)
    go false more = omega arith

few_mark : (f : FileId) (p : Props) (last : ℕ) → length (mark_needs f p last) ≤ 1
few_mark f p last = go (nat_lt p.high_water last)
  where
    go : (b : Bool) → length (cond {A = List Need} b ((Leaf (Leader f), Write) ∷ []) []) ≤ 1
    go true = omega arith
    go false = omega arith

few_size : (size : ℕ) (o : Open) (p : Props) → length (size_needs size o p) ≤ 20
few_size size o p = go (size == p.size) (nat_lt size p.size)
  where
    go : (same less : Bool) → length (cond {A = List Need} same ((Leaf (Leader o.file), Write) ∷ []) (cond {A = List Need} less ((Whole o.file, Write) ∷ (Leaf (OwnerOf p.owner), Write) ∷ []) ((Leaf (Leader o.file), Write) ∷ (Leaf (OwnerOf p.owner), Write) ∷ []))) ≤ 20
    go true less = omega arith
    go false true = omega arith
    go false false = omega arith

few_change : (c : PropChange) (o : Open) (p : Props) → length (change_needs c o p) ≤ 20
few_change (prop.Owner n) o p = omega arith
few_change c o p = omega arith

few_run : (r : Run) → if_over (nat_lt 16 r.count) (refusal.TooMany what.Run 16) ≡ None → r.count ≤ 16
few_run r none = go (nat_lt 16 r.count) refl none
  where
    go : (b : Bool) → nat_lt 16 r.count ≡ b → if_over b (refusal.TooMany what.Run 16) ≡ None → r.count ≤ 16
    go false is e = ltb-false 16 r.count is
    go true is e = cc

few_opened : (x : Option OpenedFile) (needs : Open → Props → List Need) → ((o : Open) (p : Props) → length (needs o p) ≤ 20) → length (on_opened x needs) ≤ 20
few_opened None needs few = omega arith
few_opened (Some x) needs few = few x.opened x.props

-- no call needs more than those of a run, and the leader
few_needs : (server epoch given opens : ℕ) (x : Option OpenedFile) (c : Call) → shape_of server epoch given opens c ≡ None → length (needs_on x c) ≤ 20
few_needs server epoch given opens x (call.CreateFile t start choice) e = omega arith
few_needs server epoch given opens x (call.OpenFile t f a mode choice) e = omega arith
few_needs server epoch given opens x (call.ReadOwner t name choice) e = omega arith
few_needs server epoch given opens x (call.MakeOwner t name quota create choice) e = omega arith
few_needs server epoch given opens x (call.SetQuota t name quota choice) e = omega arith
few_needs server epoch given opens x (call.DeleteFile t n choice) e = few_opened x (open_needs (call.DeleteFile t n choice)) (λ o p. omega arith)
few_needs server epoch given opens x (call.ReadPages t n r mode choice) e =
    few_opened x (open_needs (call.ReadPages t n r mode choice)) (λ o p. omega (arith, few_pages o.file r.count r.first mode, few_run r e))
few_needs server epoch given opens x (call.WritePages t n r pages choice) e =
    few_opened x (open_needs (call.WritePages t n r pages choice))
    (λ o p. omega (arith, length-append (mark_needs o.file p (r.first + r.count)) (page_needs o.file r.first r.count Write), few_mark o.file p (r.first + r.count), few_pages o.file r.count r.first Write, few_run r e))
few_needs server epoch given opens x (call.LockPages t n r mode choice) e =
    few_opened x (open_needs (call.LockPages t n r mode choice)) (λ o p. omega (arith, few_pages o.file r.count r.first mode, few_run r e))
few_needs server epoch given opens x (call.SetSize t n size choice) e = few_opened x (open_needs (call.SetSize t n size choice)) (few_size size)
few_needs server epoch given opens x (call.WriteProps t n change choice) e = few_opened x (open_needs (call.WriteProps t n change choice)) (few_change change)
few_needs server epoch given opens None c e = omega arith
few_needs server epoch given opens (Some x) c e = omega arith

few_asked_on : (held : Holding) (r : Resource) (m : Mode) → length (asked_on held r m) ≤ 2
few_asked_on held (Whole f) m = omega arith
few_asked_on held (Leaf k) m = go (covers_held (given_to held k) m)
  where
    few_intention : (o : Option FileId) → length (intention_on o m) ≤ 1
    few_intention None = omega arith
    few_intention (Some f) = omega arith

    go : (b : Bool) → length (cond {A = List Need} b [] ((Leaf k, m) ∷ intention_on (file_of k) m)) ≤ 2
    go true = omega arith
    go false = omega (arith, few_intention (file_of k))

few_asked : (held : Holding) (ns : List Need) → length (asked_each held ns) ≤ 2 * length ns
few_asked held [] = omega arith
few_asked held (n ∷ ns) = omega (arith, length-append (asked_on held n.0 n.1) (asked_each held ns), few_asked_on held n.0 n.1, few_asked held ns)

pub asked_few : (server epoch given opens : ℕ) (tells : Bool) (cells : Cells) (held : Holding) (p : Part) (c : Call) (ns : List Need) → IsAsked tells cells held p c ns → shape_of server epoch given opens c ≡ None → length ns ≤ 64
asked_few server epoch given opens tells cells held p c ns asked shape =
    let needs : List Need = needs_on asked.found c in
    subst (λ (x : List Need). length x ≤ 64) (sym asked.is) (omega (arith, few_asked (joined held (wholes_of needs)) needs, few_needs server epoch given opens asked.found c shape))
