-- a disk in a fuse, and out of it again
use Rattle.std.specs.Prelude.{Option, Some, IsTrue}
use Rattle.std.proofs.Common.{inl, inr, ◌⊎◌, ap, refl, ◌≡◌, ◌≤◌, ℕ, List, sym, ◌∙◌, subst, arith}
use Rattle.alp_base.specs.Causes.{Rose}
use Rattle.alp_base.specs.Crashes.{Only, NoMore, SameOutcomes}
use Rattle.alp_base.specs.declared.faults.Sizes.{Sizes}
use Rattle.alp_base.specs.declared.faults.VaultFault.TheVariants as vault_fault
use Rattle.alp_anchor.specs.Anchor.{Counts}
use Rattle.alp_bay.specs.Bays.{IsTaken}
use Rattle.alp_disk.specs.Disk.{Image}
use Rattle.alp_disk.specs.declared.disk.Disk.{Ghosts}
use Rattle.alp_node.specs.NodeStates.{NodeState}
use Rattle.alp_node.specs.Nodes.{start_in}
use Rattle.alp_store.specs.Holding.{Holds}
use Rattle.alp_store.specs.Starts.{IsNew, Making, Unmaking, WhyNotStarted}
use Rattle.alp_vault.specs.declared.vault.Vault.{Ghosts as VaultGhosts}
use Rattle.alp_top.specs.Disks.{ShowAlike, IsStarted, IsGiven, IsOfServer, IsCountedStart, notes_in}
use Rattle.alp_top.specs.Volumes.{pages_of, IsOpenedOn, IsReturned, IsLeftAlone, HasNoEpoch, HoldsApart, ReadsAsBefore, HoldsOrRaised, HoldsNothing, IsNewAgain, IsHalfMade, WhyNotBegun}
use Rattle.alp_top.specs.declared.fault.NoReport.{NoReport}
use Rattle.alp_top.specs.declared.fault.NoReport.TheVariants as fault

-- what a crash leaves of the second where of the first it leaves one image alone
only_alike : {A : Type 0} (x y : A) (old new : A → Type 0) → NoMore old new → y ≡ x → Only x old → Only y new
only_alike x y old new less same only c is = only c (less c is) ∙ sym same

-- what a stop may leave while a disk is made a volume, of one of which a crash leaves more
making_of : (server servers n : ℕ) (sizes : Sizes) (old new : Image → Type 0) (c : Image) → NoMore new old → Making server servers n sizes old c → Making server servers n sizes new c
making_of server servers n sizes old new c more (inl (inl was)) = inl (inl (was.0, more was.0 was.1, was.2))
making_of server servers n sizes old new c more (inl (inr reads)) = inl (inr reads)
making_of server servers n sizes old new c more (inr reads) = inr reads

unmaking_of : (server servers n : ℕ) (sizes : Sizes) (old new : Image → Type 0) (c : Image) → NoMore new old → Unmaking server servers n sizes old c → Unmaking server servers n sizes new c
unmaking_of server servers n sizes old new c more x = record { made = x.made; making = making_of server servers n sizes old new x.made more x.making; behind = x.behind }

module _ {A B : Type 0} (g : Ghosts A) (h : Ghosts B) (a : A) (b : B) (alike : ShowAlike g h a b) where
  at_alike : (P : ℕ → Image → Type 0) → P (g.size a) (g.seen a) → P (h.size b) (h.seen b)
  at_alike P x = subst (λ (n : ℕ). P n (h.seen b)) (sym alike.size) (subst (λ (i : Image). P (g.size a) i) (sym alike.seen) x)

  at_first : (P : ℕ → Image → Type 0) → P (h.size b) (h.seen b) → P (g.size a) (g.seen a)
  at_first P x = subst (λ (n : ℕ). P n (g.seen a)) alike.size (subst (λ (i : Image). P (h.size b) i) alike.seen x)

  -- a server that was started on the first was started on the second
  pub started_alike : {V : Type 0} (G : VaultGhosts V) (sizes : Sizes) (server servers : ℕ) (n : NodeState V) → IsStarted G g sizes server servers a n → IsStarted G h sizes server servers b n
  started_alike G sizes server servers n x = record {
    on = x.on;
    idle = x.idle;
    number = x.number;
    count = x.count;
    telling = x.telling ∙ sym alike.telling;
    sized = alike.size ∙ x.sized;
    faults = x.faults ∙ sym alike.faults;
    alone = λ told one. x.alone (subst IsTrue alike.telling told) one;
    new = λ told is. x.new (subst IsTrue alike.telling told) (at_first (IsNew sizes) is);
    found = λ told old. at_alike (λ m i. IsOpenedOn server servers m i (start_in G n) (notes_in G n)) (x.found (subst IsTrue alike.telling told) (λ is. old (at_alike (IsNew sizes) is)));
  }

  -- what is left of a vault
  pub given_alike : {V : Type 0} (G : VaultGhosts V) (v : V) → IsGiven G g v a → IsGiven G h v b
  given_alike G v x = record {
    telling = alike.telling ∙ x.telling;
    sized = alike.size ∙ x.sized;
    faults = alike.faults ∙ x.faults;
    files = x.files;
    holds = λ told serves. at_alike (λ m i. Holds (G.server v) (G.servers v) m (G.volume v).home i (G.held v)) (x.holds told serves);
    only = λ told serves. only_alike (g.seen a) (h.seen b) (g.may_leave a) (h.may_leave b) alike.leaves.no_more alike.seen (x.only told serves);
    whole = λ told image may. (let (c, is, left) = x.whole told image (alike.leaves.no_more image may) in (c, subst (λ (m : ℕ). Holds (G.server v) (G.servers v) m (G.volume v).home image c) (sym alike.size) is, left));
    read = λ told. subst (h.may_leave b) (sym alike.seen) (alike.leaves.no_fewer (g.seen a) (x.read told));
  }

module _ {A B : Type 0} (g : Ghosts A) (h : Ghosts B) (sizes : Sizes) (ta ga : A) (tb gb : B) (taken : ShowAlike g h ta tb) (given : ShowAlike g h ga gb) where
  alone_alike : IsLeftAlone g sizes ta ga → IsLeftAlone h sizes tb gb
  alone_alike x = record {
    old = λ is. x.old (at_first g h ta tb taken (IsNew sizes) is);
    seen = given.seen ∙ x.seen ∙ sym taken.seen;
    crash = λ i left. taken.leaves.no_fewer i (x.crash i (given.leaves.no_more i left));
    unfailed = given.faults ∙ x.unfailed ∙ sym taken.faults;
  }

  rose_alike : Rose (g.faults ta) (g.faults ga) → Rose (h.faults tb) (h.faults gb)
  rose_alike x = subst (λ (n : ℕ). Rose n (h.faults gb)) (sym taken.faults) (subst (λ (n : ℕ). Rose (g.faults ta) n) (sym given.faults) x)

  apart_alike : (server servers : ℕ) → HoldsApart g sizes server servers ta ga → HoldsApart h sizes server servers tb gb
  apart_alike server servers x = record {
    old = λ is. x.old (at_first g h ta tb taken (IsNew sizes) is);
    several = x.several;
    anchor = x.anchor;
    counts = at_alike g h ta tb taken (λ n i. Counts n i x.anchor) x.counts;
    held = x.held;
    holds = at_alike g h ta tb taken (λ n i. Holds server servers n x.anchor.sizes.home i x.held) x.holds;
    own = x.own;
    apart = x.apart;
    left = at_alike g h ga gb given (λ n i. Holds server servers n x.anchor.sizes.home i x.held) x.left;
    durable = only_alike (g.seen ga) (h.seen gb) (g.may_leave ga) (h.may_leave gb) given.leaves.no_more given.seen x.durable;
    unfailed = given.faults ∙ x.unfailed ∙ sym taken.faults;
  }

  -- a disk on which its server did not start, which was not new
  old_alike : (server servers : ℕ) → ((IsNew sizes (g.size ta) (g.seen ta) → ⊥) → ReadsAsBefore g ta ga ⊎ HoldsOrRaised g server servers ta ga) → (IsNew sizes (h.size tb) (h.seen tb) → ⊥) → ReadsAsBefore h tb gb ⊎ HoldsOrRaised h server servers tb gb
  old_alike server servers x old = elim (x (λ is. old (at_alike g h ta tb taken (IsNew sizes) is))) [
    | inl y ↦ inl (record { seen = given.seen ∙ y.seen ∙ sym taken.seen; crash = λ i left. taken.leaves.no_fewer i (y.crash i (given.leaves.no_more i left)) })
    | inr y ↦ inr (record {
      home = y.home;
      held = y.held;
      holds = at_alike g h ta tb taken (λ n i. Holds server servers n y.home i y.held) y.holds;
      own = y.own;
      left = λ image may. (let (c, holds, is) = y.left image (given.leaves.no_more image may) in (c, subst (λ (m : ℕ). Holds server servers m y.home image c) (sym given.size) holds, is));
      read = subst (h.may_leave gb) (sym given.seen) (given.leaves.no_fewer (g.seen ga) y.read);
    })
  ]

  -- and one that was
  nothing_alike : (server servers : ℕ) → HoldsNothing g sizes server servers ga → HoldsNothing h sizes server servers gb
  nothing_alike server servers y = record {
    left = λ image may. (let (c, holds, is) = y.left image (given.leaves.no_more image may) in (c, subst (λ (m : ℕ). Holds server servers m sizes.home image c) (sym given.size) holds, is));
    read = subst (h.may_leave gb) (sym given.seen) (given.leaves.no_fewer (g.seen ga) y.read);
  }

  again_alike : IsNewAgain g sizes ga → IsNewAgain h sizes gb
  again_alike y = record { blank = at_alike g h ga gb given (IsNew sizes) y.blank; durable = only_alike (g.seen ga) (h.seen gb) (g.may_leave ga) (h.may_leave gb) given.leaves.no_more given.seen y.durable }

  half_alike : (server servers : ℕ) → IsHalfMade g sizes server servers ta ga → IsHalfMade h sizes server servers tb gb
  half_alike server servers y = record {
    left = λ image may.
        subst (λ (n : ℕ). Unmaking server servers n sizes (h.may_leave tb) image) (sym taken.size)
        (unmaking_of server servers (g.size ta) sizes (g.may_leave ta) (h.may_leave tb) image taken.leaves.no_fewer (y.left image (given.leaves.no_more image may)));
    read = subst (h.may_leave gb) (sym given.seen) (given.leaves.no_fewer (g.seen ga) y.read);
  }

  -- why a server was not started
  pub cause_alike : (server servers : ℕ) (f : NoReport) → WhyNotBegun g sizes server servers f ta ga → WhyNotBegun h sizes server servers f tb gb
  cause_alike server servers fault.Bay x = absurd x
  cause_alike server servers (fault.Disk s) x = (
    x.0,
    record {
      rose = rose_alike x.1.rose;
      old = old_alike server servers x.1.old;
      new = λ is. elim (x.1.new (at_first g h ta tb taken (IsNew sizes) is)) [
        | inl y ↦ inl (half_alike server servers y)
        | inr y ↦ inr (nothing_alike server servers y)
      ];
    },
  )
  cause_alike server servers fault.OutOfMemory x = record {
    unfailed = given.faults ∙ x.unfailed ∙ sym taken.faults;
    old = old_alike server servers x.old;
    new = λ is. elim (x.new (at_first g h ta tb taken (IsNew sizes) is)) [
      | inl y ↦ inl (again_alike y)
      | inr y ↦ inr (nothing_alike server servers y)
    ];
  }
  cause_alike server servers fault.JournalFull x = absurd x
  cause_alike server servers (fault.EpochEnd s) x = (x.0, alone_alike x.1, at_alike g h ta tb taken (HasNoEpoch server servers) x.2)
  cause_alike server servers (fault.NotAVolume s found) x = (x.0, alone_alike x.1, at_alike g h ta tb taken (λ n i. WhyNotStarted server servers n i (vault_fault.NotAVolume found)) x.2)
  cause_alike server servers (fault.Damaged s place) x = (
    x.0,
    elim x.1 [
      | inl y ↦ inl (alone_alike y.0, at_alike g h ta tb taken (λ n i. WhyNotStarted server servers n i (vault_fault.Damaged place)) y.1)
      | inr y ↦ inr (y.0, apart_alike server servers y.1)
    ],
  )

  pub counted_alike : (server : ℕ) (f : NoReport) → IsCountedStart server f (g.faults ta) (g.faults ga) → IsOfServer h server f
  counted_alike server fault.Bay x = absurd x
  counted_alike server (fault.Disk s) x = (x.0, tb, gb, rose_alike x.1)
  counted_alike server fault.OutOfMemory x = tt
  counted_alike server fault.JournalFull x = absurd x
  counted_alike server (fault.EpochEnd s) x = x
  counted_alike server (fault.NotAVolume s found) x = x
  counted_alike server (fault.Damaged s place) x = x

  -- the disk was taken from its place and stands there again
  pub returned_alike : (was now : Option B) → IsTaken h was (pages_of sizes) tb → now ≡ Some gb → g.size ga ≡ g.size ta → g.faults ta ≤ g.faults ga → (P : B → B → Type 0) → P tb gb → IsReturned h sizes was now P
  returned_alike was now is there size later P x = record {
    taken = tb;
    from_there = is;
    given = gb;
    there = there;
    size = given.size ∙ size ∙ sym taken.size;
    later = omega (arith, later, taken.faults, given.faults);
    left = x;
  }
