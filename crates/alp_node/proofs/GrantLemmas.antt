-- what a call that was answered keeps of what it asked
use Rattle.std.specs.Prelude.{cond, Bool, true, false, not, ◌&&◌, ◌||◌, ◌==◌, nat_lt, nat_le, Option, None, Some}
use Rattle.std.specs.Ordering.{eq_by_cmp}
use Rattle.std.proofs.Common.{◌≡◌, ℕ, ◌+◌, ◌<◌, ◌≤◌, List, [], ◌∷◌, ◌++◌, append-nil, refl, sym, ◌∙◌, ap, subst, arith}
use Rattle.std.proofs.lemmas.Bool.{ltb-true, leb-true}
use Rattle.alp_base.proofs.NameLemmas.{and_right}
use Rattle.alp_base.specs.declared.ids.FileId.{FileId}
use Rattle.alp_base.specs.declared.ids.TransId.{TransId}
use Rattle.alp_base.specs.declared.key.Resource.{Resource}
use Rattle.alp_base.specs.declared.key.Resource.TheVariants.{Whole}
use Rattle.alp_base.specs.Orders.{trans_cmp, resource_cmp, exact_resources}
use Rattle.alp_modes.specs.declared.Mode.{Mode}
use Rattle.alp_modes.specs.declared.Mode.TheVariants.{Write}
use Rattle.alp_files.specs.Holdings.{Holding, join_held, covers_held, held_by}
use Rattle.alp_files.specs.declared.call.Call.{Call}
use Rattle.alp_files.specs.declared.call.Call.TheVariants as call
use Rattle.alp_files.specs.declared.reply.Reply.{Reply}
use Rattle.alp_files.specs.declared.reply.Reply.TheVariants as reply
use Rattle.alp_files.specs.declared.refusal.Refusal.TheVariants as refusal
use Rattle.alp_files.specs.Act.{id_in}
use Rattle.alp_files.specs.Born.{count_after}
use Rattle.alp_files.specs.Locks.{Need, needs_made, with_made}
use Rattle.alp_files.proofs.CoverLemmas.{right-above}
use Rattle.alp_files.proofs.HoldingLemmas.{held_by-append}
use Rattle.alp_queue.specs.declared.waiter.Waiter.{Waiter}
use Rattle.alp_queue.specs.Order.{waits}
use Rattle.alp_locks.specs.Tables.{Table, holding}
use Rattle.alp_locks.specs.Asks.{blocker}
use Rattle.alp_locks.specs.Sound.{IsPrepared}
use Rattle.alp_locks.proofs.HeldLemmas.{tied}
use Rattle.alp_locks.proofs.LawLemmas.{all-of-plan}
use Rattle.alp_locks.proofs.PlanLemmas.{granted-waiting, granted-woken, granted-knows}
use Rattle.alp_locks.proofs.SoundLemmas.{grant-sound}
use Rattle.alp_calls.specs.Parts.{GivesOnly}
use Rattle.alp_vault.specs.Contents.{Contents}
use Rattle.alp_journal.specs.Moves.{is_of_no_file}
use Rattle.alp_journal.specs.Moves as journal
use Rattle.alp_journal.specs.Account.{Account, state_of}
use Rattle.alp_coord.specs.Coordinators.{count_of}
use Rattle.alp_node.specs.Asks.{is_of_given, is_given, IsTidyHeld, IsGivenOn, AreGiven, asks_made, asks_given, makes_file, is_made, plan_if, plan_for, count_made, plan_of, with_plan}
use Rattle.alp_node.specs.Calls.{next_file}
use Rattle.alp_node.specs.ServerState.{IsAs, IsReady}
use Rattle.alp_node.specs.Waits.{AreWaiting}
use Rattle.alp_node.specs.declared.server_state.ServerState.{ServerState}
use Rattle.alp_node.proofs.ConflictLemmas.{made_free}
use Rattle.alp_node.proofs.IdLemmas.{known_file}
use Rattle.alp_node.proofs.LockLemmas.{itself, write_covers}
use Rattle.alp_node.proofs.OpenLemmas.{opens_later}
use Rattle.alp_node.proofs.ReadyLemmas.{numbered}
use Rattle.alp_node.proofs.WaitLemmas.{waiting_later}
use Rattle.alp_node.proofs.HeldHere.{tidy_same, tidy_if}

-- ---- what is kept

-- the plan that is taken is one of what is kept
pub plan_given : (locks : Table) (t : TransId) (id : FileId) (c : Call) (ns : List Need) (r : Reply) → plan_for (is_made r) (plan_of locks t ns) (plan_if (makes_file c) (plan_of locks t (asks_made id ns))) ≡ plan_of locks t (asks_given id c ns r)
plan_given locks t id c ns r = go (makes_file c) (is_made r)
  where
    go : (a b : Bool) → plan_for b (plan_of locks t ns) (plan_if a (plan_of locks t (asks_made id ns))) ≡ plan_of locks t (cond {A = List Need} (b && a) (asks_made id ns) ns)
    go true true = refl
    go true false = refl
    go false true = refl
    go false false = refl

-- whichever it is
pub plan_is : (locks : Table) (t : TransId) (ns ms : List Need) (b m : Bool) → (qs : List Need) × (plan_for b (plan_of locks t ns) (plan_if m (plan_of locks t ms)) ≡ plan_of locks t qs)
plan_is locks t ns ms true true = (ms, refl)
plan_is locks t ns ms true false = (ns, refl)
plan_is locks t ns ms false true = (ns, refl)
plan_is locks t ns ms false false = (ns, refl)

-- so is the count
pub count_given : (count : ℕ) (r : Reply) → count_made count (is_made r) ≡ count_after count r
count_given count (reply.Created f n) = refl
count_given count r = refl

-- where nobody stands in the way of what is asked, nobody does of what is kept: the file that may be made is nobody's
pub free_given : {V : Type 0} (m : ℕ) (serves : Bool) (k : ServerState V) (t : TransId) (c : Call) (ns : List Need) (r : Reply) → IsReady m serves k → blocker k.locks.held t (plan_of k.locks t ns).rises ≡ None
    → blocker k.locks.held t (plan_of k.locks t (asks_given (next_file k) c ns r)).rises ≡ None
free_given m serves k t c ns r h free = go (is_made r && makes_file c)
  where
    go : (b : Bool) → blocker k.locks.held t (plan_of k.locks t (cond {A = List Need} b (asks_made (next_file k) ns) ns)).rises ≡ None
    go true = made_free k.locks.held t (next_file k) ns h.sound.agreeing (λ u. (h.unheld u).unmade (k.given + 1) (omega arith)) free
    go false = free

-- what is kept is what was asked, with the lock of a new file
pub kept_beside : (id : FileId) (c : Call) (ns : List Need) (r : Reply) → (makes_file c ≡ false → id_in r ≡ None) → GivesOnly id r → asks_given id c ns r ≡ ns ++ needs_made (id_in r)
kept_beside id c ns (reply.Created f n) only_creates only = go (makes_file c) refl
  where
    go : (b : Bool) → makes_file c ≡ b → cond {A = List Need} b (asks_made id ns) ns ≡ ns ++ (Whole f, Write) ∷ []
    go true e = ap (λ (g : FileId). ns ++ (Whole g, Write) ∷ []) (sym (only f n refl))
    go false e = (let wrong : Some f ≡ None = only_creates e in cc)
kept_beside id c ns r only_creates only = sym (append-nil ns)

-- a file that is made is locked as it is made
pub made_locked : (under : Holding) (f : FileId) → covers_held (with_made under (Some f) (Whole f)) Write ≡ true
made_locked under f = right-above (under (Whole f)) (held_by ((Whole f, Write) ∷ []) (Whole f)) Write (ap (λ (b : Bool). covers_held (cond b (Some Write) None) Write) (itself (Whole f)) ∙ write_covers)

-- ---- ids

-- an open of a file that was given is performed
pub of_given : {V : Type 0} (a : Account) (held : Contents) (k : ServerState V) (c : Call) (r : Reply) → IsAs a held k → is_of_given k.server k.epoch k.given c ≡ true → is_of_no_file (state_of a) c r ≡ false
of_given a held k (call.OpenFile t g x mode choice) (reply.Refused refusal.UnknownFile) h given = ap not (known_file a held k g h given)
of_given a held k (call.OpenFile t g x mode choice) (reply.Refused f) h given = refl
of_given a held k (call.OpenFile t g x mode choice) r h given = refl
of_given a held k c r h given = refl

pub next_told : {V : Type 0} (a : Account) (held : Contents) (k : ServerState V) → IsAs a held k → next_file k ≡ journal.next_file (state_of a)
next_told a held k h = λ i. record { server = sym h.server i; epoch = sym h.epoch i; counter = sym h.files i + 1 }

same_id : (g f : FileId) → Some g ≡ Some f → f ≡ g
same_id g f e = cc

-- only the next id is given
pub id_given : (id f : FileId) (x : Reply) → id_in x ≡ Some f → GivesOnly id x → f ≡ id
id_given id f (reply.Created g n) e only = same_id g f e ∙ only g n refl
id_given id f x e only = let wrong : None ≡ Some f = e in cc

-- ---- a server stays ready

-- ids beyond the count are not asked for
not_above : (a b : ℕ) → a < b → nat_le b a ≡ true → ⊥
not_above a b high e = (let low : b ≤ a = leb-true b a e in omega (arith, high))

none_of_given : (server epoch count n : ℕ) → count < n → is_given server epoch count (record { server = server; epoch = epoch; counter = n }) ≡ true → ⊥
none_of_given server epoch count n high e = go (nat_lt epoch epoch) refl (and_right _ _ e)
  where
    go : (b : Bool) → nat_lt epoch epoch ≡ b → (b || (epoch == epoch && nat_le n count)) ≡ true → ⊥
    go true before h = (let low : epoch < epoch = ltb-true epoch epoch before in omega (arith, low))
    go false before h = not_above count n high (and_right _ _ h)

whole_file : (f g : FileId) → eq_by_cmp resource_cmp (Whole f) (Whole g) ≡ true → f ≡ g
whole_file f g e = same_whole (exact_resources (Whole f) (Whole g) (tied (resource_cmp (Whole f) (Whole g)) e))
  where
    same_whole : Whole f ≡ Whole g → f ≡ g
    same_whole h = cc

same_resource : (r q : Resource) → eq_by_cmp resource_cmp r q ≡ true → r ≡ q
same_resource r q e = exact_resources r q (tied (resource_cmp r q) e)

module _ (server epoch count n : ℕ) where
  abbrev beyond : Resource
  beyond = Whole (record { server = server; epoch = epoch; counter = n })

  pub asked_below : (ns : List Need) → AreGiven server epoch count ns → count < n → held_by ns beyond ≡ None
  asked_below [] given high = refl
  asked_below (x ∷ ns) given high = go (eq_by_cmp resource_cmp beyond x.0) refl (asked_below ns given.1 high)
    where
      go : (b : Bool) → eq_by_cmp resource_cmp beyond x.0 ≡ b → held_by ns beyond ≡ None → cond {A = Option Mode} b (join_held (Some x.1) (held_by ns beyond)) (held_by ns beyond) ≡ None
      go true e rest = absurd (none_of_given server epoch count n high (subst (λ (r : Resource). IsGivenOn server epoch count r x.1) (sym (same_resource beyond x.0 e)) given.0))
      go false e rest = rest

  -- no file beyond the count is among what is kept
  pub given_below : (c : Call) (ns : List Need) (r : Reply) → AreGiven server epoch count ns → count_after count r < n → held_by (asks_given (record { server = server; epoch = epoch; counter = count + 1 }) c ns r) beyond ≡ None
  given_below c ns (reply.Created f m) given high = go (makes_file c)
    where
      next : FileId
      next = record { server = server; epoch = epoch; counter = count + 1 }

      away : (b : Bool) → eq_by_cmp resource_cmp beyond (Whole next) ≡ b → cond {A = Option Mode} b (Some Write) None ≡ None
      away true e =
          let same : n ≡ count + 1 = ap (λ (f : FileId). f.counter) (whole_file (record { server = server; epoch = epoch; counter = n }) next e) in
          absurd (omega (arith, high, same))
      away false e = refl

      asked : held_by ns beyond ≡ None
      asked = asked_below ns given (omega (arith, high))

      go : (b : Bool) → held_by (cond {A = List Need} b (asks_made next ns) ns) beyond ≡ None
      go true = held_by-append ns ((Whole next, Write) ∷ []) beyond ∙ (λ i. join_held (asked i) (away (eq_by_cmp resource_cmp beyond (Whole next)) refl i))
      go false = asked
  given_below c ns r given high = asked_below ns given high

-- a plan of other resources leaves a file to nobody that nobody holds
joined_none : (b : Bool) (x y : Option Mode) → x ≡ None → y ≡ None → cond {A = Option Mode} b (join_held x y) x ≡ None
joined_none true x y e f = (λ i. join_held (e i) (f i))
joined_none false x y e f = e

-- with a plan taken that nobody stood in the way of, and a count that grew by one at most
pub granted_ready : {V : Type 0} (m : ℕ) (serves : Bool) (k : ServerState V) (w : Waiter) (count : ℕ) → k.given ≤ count → count ≤ m → IsPrepared k.locks.held w → blocker k.locks.held w.trans w.rises ≡ None → waits k.locks.waiting w.trans ≡ false
    → ((n : ℕ) → count < n → held_by w.needs (numbered k n) ≡ None) → IsTidyHeld k.server k.epoch (held_by w.needs) → IsReady m serves k → IsReady m serves (record k { given = count; locks = with_plan k.locks w })
granted_ready m serves k w count more low prepared free idle others tidy h = record {
  serving = h.serving;
  halted = h.halted;
  sound = grant-sound k.locks w prepared h.sound free idle;
  taken = granted-woken k.locks w.trans w.rises w.after ∙ h.taken;
  waits = subst (AreWaiting k.server k.epoch count (count_of k.coordinator) k.sizes k.lives k.waits) (sym (granted-waiting k.locks w.trans w.rises w.after)) (waiting_later k.server k.epoch k.given count more (count_of k.coordinator) k.sizes k.lives k.waits k.locks.waiting h.waits);
  known = λ u l is. granted-knows k.locks w.trans w.rises w.after u (h.known u l is);
  joins = h.joins;
  paired = h.paired;
  idle = h.idle;
  opens = h.opens;
  opened = λ u l is. opens_later k.server k.epoch k.given count more l.part.opens.items (h.opened u l is);
  alive = h.alive;
  places = h.places;
  calls = h.calls;
  replies = h.replies;
  drawn = h.drawn;
  given = low;
  most = h.most;
  fits = h.fits;
  within = h.within;
  sized = h.sized;
  clock = h.clock;
  raised = h.raised;
  fated = h.fated;
  last = h.last;
  seat = h.seat;
  times = h.times;
  unheld = λ u. (record {
    unmade = λ n high. all-of-plan k.locks w u (numbered k n) prepared
        ∙ joined_none (eq_by_cmp trans_cmp u w.trans) (holding k.locks.held u (numbered k n)) (held_by w.needs (numbered k n)) ((h.unheld u).unmade n (omega (arith, more, high))) (others n high);
    tidy = tidy_same k.server k.epoch (λ r. cond {A = Option Mode} (eq_by_cmp trans_cmp u w.trans) (join_held (holding k.locks.held u r) (held_by w.needs r)) (holding k.locks.held u r)) (holding (with_plan k.locks w).held u) (λ r. all-of-plan k.locks w u r prepared)
        (tidy_if k.server k.epoch (eq_by_cmp trans_cmp u w.trans) (holding k.locks.held u) (held_by w.needs) (h.unheld u).tidy tidy);
  });
}
