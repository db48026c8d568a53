-- The locks of a journal: what each file call locks, and which places its part may read and write under the locks that
-- it holds.
use Rattle.std.specs.Prelude.{ℕ, zero, suc, ◌+◌, ◌^◌, ◌<◌, ◌==◌, nat_lt, List, [], ◌∷◌, ◌++◌, Option, None, Some, IsTrue, if◌then◌else◌}
use Rattle.std.specs.List.{AllByRecursion}
use Rattle.std.specs.FinMap as map
use Rattle.alp_base.specs.declared.ids.FileId.{FileId}
use Rattle.alp_base.specs.declared.key.Key.{Key}
use Rattle.alp_base.specs.declared.key.Key.TheVariants.{Leader, PageOf, OwnerOf}
use Rattle.alp_base.specs.declared.key.Resource.{Resource}
use Rattle.alp_base.specs.declared.key.Resource.TheVariants.{Whole, Leaf}
use Rattle.alp_base.specs.declared.choices.Access.{Access}
use Rattle.alp_base.specs.declared.choices.Access.TheVariants.{ReadOnly, Change}
use Rattle.alp_modes.specs.declared.Mode.{Mode}
use Rattle.alp_modes.specs.declared.Mode.TheVariants.{Read, Write}
use Rattle.alp_modes.specs.Modes.{covers_of}
use Rattle.alp_files.specs.Holdings.{Holding, join_held, covers_held, held_by, file_of, given_to, mode_on, intention_of}
use Rattle.alp_base.specs.declared.cell.Props.{Props}
use Rattle.alp_files.specs.declared.call.Call.{Call}
use Rattle.alp_files.specs.declared.call.Call.TheVariants as call
use Rattle.alp_files.specs.declared.call.PropChange.{PropChange}
use Rattle.alp_files.specs.declared.call.PropChange.TheVariants as prop
use Rattle.alp_files.specs.declared.open.Open.{Open}
use Rattle.alp_files.specs.Cells.{View, props_in}
use Rattle.alp_files.specs.Act.{Own, open_at, is_changing, id_in}
use Rattle.alp_files.specs.History.{PerformedCall, Standing, step}
use Rattle.alp_files.specs.Sound.{HasItsPages}

-- a resource and the mode in which it is to be held
abbrev pub Need : Type 0
Need = Resource × Mode

-- ---- the locks of a call, in what its part sees

-- numbers of pages are below this
unfoldable pub page_limit : ℕ
page_limit = 2 ^ 32

-- the pages of a run, as far as there are numbers of pages
abbrev pub page_needs : FileId → ℕ → ℕ → Mode → List Need
page_needs f first zero m = []
page_needs f first (suc n) m = if nat_lt first page_limit then (Leaf (PageOf f first), m) ∷ page_needs f (first + 1) n m else []

-- on an open of the part, whose file is there; else the call is refused without a lock
abbrev pub needs_there : Option Props → (Props → List Need) → List Need
needs_there None next = []
needs_there (Some p) next = next p

abbrev pub needs_on_open : View → Option Open → (Open → Props → List Need) → List Need
needs_on_open m None next = []
needs_on_open m (Some o) next = needs_there (props_in (m (Leader o.file))) (next o)

-- and that only where the open is one for change
abbrev pub needs_if_change : Access → List Need → List Need
needs_if_change ReadOnly ns = []
needs_if_change Change ns = ns

abbrev pub needs_on_change : View → Option Open → (Open → Props → List Need) → List Need
needs_on_change m oo next = needs_on_open m oo (λ o p. needs_if_change o.access (next o p))

abbrev pub mark_needs : FileId → Props → ℕ → List Need
mark_needs f p last = if nat_lt p.high_water last then (Leaf (Leader f), Write) ∷ [] else []

-- a smaller size cuts pages off, and so locks the file; the owner is charged where the size differs
abbrev pub size_needs : ℕ → Open → Props → List Need
size_needs size o p =
    if size == p.size then (Leaf (Leader o.file), Write) ∷ []
    else if nat_lt size p.size then (Whole o.file, Write) ∷ (Leaf (OwnerOf p.owner), Write) ∷ []
    else (Leaf (Leader o.file), Write) ∷ (Leaf (OwnerOf p.owner), Write) ∷ []

abbrev pub change_needs : PropChange → Open → Props → List Need
change_needs (prop.Owner n) o p = (Leaf (Leader o.file), Write) ∷ (Leaf (OwnerOf p.owner), Write) ∷ (Leaf (OwnerOf n), Write) ∷ []
change_needs _ o p = (Leaf (Leader o.file), Write) ∷ []

-- The locks of a file call. They are asked together and granted all or none. A call that is refused as one on an
-- unknown open, or on an open that is not for change, has none.
abbrev pub needs_of : View → Own → Call → List Need
needs_of m own (call.CreateFile trans start choice) = (Leaf (OwnerOf start.owner), Write) ∷ []
needs_of m own (call.OpenFile trans file access mode choice) = (Whole file, mode) ∷ (Leaf (Leader file), Read) ∷ []
needs_of m own (call.DeleteFile trans n choice) = needs_on_change m (open_at own.opens n) (λ o p. (Whole o.file, Write) ∷ (Leaf (OwnerOf p.owner), Write) ∷ [])
needs_of m own (call.ReadPages trans n r mode choice) = needs_on_open m (open_at own.opens n) (λ o p. page_needs o.file r.first r.count mode)
needs_of m own (call.WritePages trans n r pages choice) =
    needs_on_change m (open_at own.opens n) (λ o p. mark_needs o.file p (r.first + r.count) ++ page_needs o.file r.first r.count Write)
needs_of m own (call.LockPages trans n r mode choice) =
    if is_changing mode then needs_on_change m (open_at own.opens n) (λ o p. page_needs o.file r.first r.count mode)
    else needs_on_open m (open_at own.opens n) (λ o p. page_needs o.file r.first r.count mode)
needs_of m own (call.SetSize trans n size choice) = needs_on_change m (open_at own.opens n) (size_needs size)
needs_of m own (call.WriteProps trans n change choice) = needs_on_change m (open_at own.opens n) (change_needs change)
needs_of m own (call.ReadOwner trans name choice) = (Leaf (OwnerOf name), Read) ∷ []
needs_of m own (call.MakeOwner trans name quota create choice) = (Leaf (OwnerOf name), Write) ∷ []
needs_of m own (call.SetQuota trans name quota choice) = (Leaf (OwnerOf name), Write) ∷ []
needs_of m own _ = []

-- a new file is locked as it is made
abbrev pub needs_made : Option FileId → List Need
needs_made None = []
needs_made (Some f) = (Whole f, Write) ∷ []

-- the locks that a part holds when it was given this reply to the call
abbrev pub needs_done : View → Own → PerformedCall → List Need
needs_done m own d = needs_made (id_in d.reply) ++ needs_of m own d.call

-- ---- what is asked for them, and what is held then

-- what is held with these modes too
abbrev pub joined : Holding → List Need → Holding
joined held ns r = join_held (held r) (held_by ns r)

-- the whole files among the needs
abbrev pub whole_of : Resource → Mode → List Need
whole_of (Whole f) m = (Whole f, m) ∷ []
whole_of (Leaf k) m = []

abbrev pub wholes_of : List Need → List Need
wholes_of [] = []
wholes_of (n ∷ ns) = whole_of n.0 n.1 ++ wholes_of ns

-- with a lock on a leaf goes the intention on its file
abbrev pub intention_on : Option FileId → Mode → List Need
intention_on None m = []
intention_on (Some f) m = (Whole f, intention_of m) ∷ []

-- a leaf is not asked where the file's lock gives it
abbrev pub asked_on : Holding → Resource → Mode → List Need
asked_on held (Whole f) m = (Whole f, m) ∷ []
asked_on held (Leaf k) m = if covers_held (given_to held k) m then [] else (Leaf k, m) ∷ intention_on (file_of k) m

abbrev pub asked_each : Holding → List Need → List Need
asked_each held [] = []
asked_each held (n ∷ ns) = asked_on held n.0 n.1 ++ asked_each held ns

-- What is asked for needs. What a file gives is judged by the file's lock that is held and the one that is asked with
-- them, without the intentions that the leaves bring.
abbrev pub request_of : Holding → List Need → List Need
request_of held ns = asked_each (joined held (wholes_of ns)) ns

-- what is held when that is granted
abbrev pub granted : Holding → List Need → Holding
granted held ns = joined held (request_of held ns)

-- what is held once a call gave an id to a new file, or none
abbrev pub with_made : Holding → Option FileId → Holding
with_made held id = joined held (needs_made id)

-- ---- what that covers

-- what is held covers the need; on a leaf the file's lock counts for what it gives
abbrev pub HoldsOn : Holding → Resource → Mode → Type 0
HoldsOn held (Whole f) m = IsTrue (covers_held (held (Whole f)) m)
HoldsOn held (Leaf k) m = IsTrue (covers_held (mode_on held k) m)

abbrev pub HoldsEach : Holding → List Need → Type 0
HoldsEach held ns = AllByRecursion (λ n. HoldsOn held n.0 n.1) ns

-- the leaf may be read, or written
abbrev pub Reads : Holding → Key → Type 0
Reads held k = IsTrue (covers_held (mode_on held k) Read)

abbrev pub Writes : Holding → Key → Type 0
Writes held k = IsTrue (covers_held (mode_on held k) Write)

-- one holding covers all that another does
abbrev pub IsMore : Holding → Holding → Type 0
IsMore a b = (r : Resource) (m : Mode) → IsTrue (covers_held (a r) m) → IsTrue (covers_held (b r) m)

-- what is held covers the locks of each of these calls, where it was performed
abbrev pub AreCovered : Holding → ℕ → Standing → List ℕ → List PerformedCall → Type 0
AreCovered held server s who [] = Unit {0}
AreCovered held server s who (d ∷ ds) = HoldsEach held (needs_done (map.get s.files) s.own d) × AreCovered held server (step server s who d) who ds

-- ---- what the grammar of calls says of their fields

-- sizes are numbers of pages
abbrev pub HasItsSize : Call → Type 0
HasItsSize (call.CreateFile trans start choice) = start.size < page_limit
HasItsSize (call.SetSize trans n size choice) = size < page_limit
HasItsSize _ = Unit {0}

-- what reads pages locks them at least to read
abbrev pub HasItsMode : Call → Type 0
HasItsMode (call.ReadPages trans n r mode choice) = IsTrue (covers_of mode Read)
HasItsMode _ = Unit {0}

abbrev pub IsFormed : Call → Type 0
IsFormed c = HasItsPages c × HasItsSize c × HasItsMode c
