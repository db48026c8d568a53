-- the disks of a run, taken and given back
use Rattle.std.specs.Prelude.{Bool, IsTrue, map as list_map, slice_get, Option, None, Some, Result, Ok, Err}
use Rattle.std.proofs.Common.{inl, inr, ◌⊎◌, ◌≡◌, ℕ, zero, suc, ◌+◌, ◌-◌, ◌<◌, ◌≤◌, List, [], ◌∷◌, length, refl, sym, ◌∙◌, ap, subst, arith}
use Rattle.std.proofs.lemmas.Bool.{cases_eq}
use Rattle.alp_bay.specs.Bays.{IsTaken}
use Rattle.alp_bay.specs.declared.bay.BayFault.{BayFault}
use Rattle.alp_bay.specs.declared.bay.BayFault.TheVariants as bay_fault
use Rattle.alp_course.specs.Courses.{IsOneOf}
use Rattle.alp_disk.specs.declared.disk.Disk.{Ghosts}
use Rattle.alp_base.specs.Crashes.{NoMore}
use Rattle.alp_base.specs.declared.faults.Sizes.{Sizes}
use Rattle.alp_journal.specs.Along.{state_after}
use Rattle.alp_journal.specs.Moves.{next}
use Rattle.alp_journal.specs.State.{opened}
use Rattle.alp_journal.specs.declared.entry.Entry.{Entry}
use Rattle.alp_node.specs.Durable.{IsSaid}
use Rattle.alp_node.specs.Nodes.{start_in}
use Rattle.alp_node.specs.DownStates.{DownState}
use Rattle.alp_node.specs.NodeStates.{NodeState}
use Rattle.alp_script.specs.Accepted.{servers_said}
use Rattle.alp_script.specs.Volumes.{sizes_said}
use Rattle.alp_script.specs.declared.numbered.NumberedLine.{NumberedLine}
use Rattle.alp_vault.specs.Vault.{IsSameVault}
use Rattle.alp_vault.specs.declared.vault.Vault.{Ghosts as VaultGhosts}
use Rattle.alp_cluster.specs.Gathered.{AreStationsOf}
use Rattle.alp_cluster.specs.Servers.{HasGoneBy}
use Rattle.alp_cluster.specs.Station.{standing, HasVault}
use Rattle.alp_cluster.specs.Stations.{IsOfRun, LeavesOf, HaveGone}
use Rattle.alp_cluster.specs.declared.cluster.Cluster.{Cluster}
use Rattle.alp_cluster.specs.declared.fault.RunFault.{RunFault}
use Rattle.alp_cluster.specs.declared.server.Server.{Server}
use Rattle.alp_cluster.specs.declared.server.Server.TheVariants.{Up, Fallen}
use Rattle.alp_cluster.specs.declared.station.Station.{Station}
use Rattle.alp_cluster.specs.declared.stations.Stations.{Stations}
use Rattle.alp_top.specs.Disks.{IsStarted, IsBegunAt, AreBegun, AreOthersSame, IsUntaken, IsOfServer, IsRefused, notes_in, HaveBegunSome, IsGiven, IsLeftAt, AreLeftBy}
use Rattle.alp_top.specs.Faults.{of_bay}
use Rattle.alp_top.specs.Pairs.{ArePaired}
use Rattle.alp_top.specs.Volumes.{pages_of, IsUnplayed, IsReturned, AreReturned, WhyNotBegun, StopsAt, IsAtItsEnd, IsFailing, IsWanting, IsNoVolume, IsDamaged, HasRunCause}
use Rattle.alp_top.specs.declared.fault.NoReport.{NoReport}
use Rattle.alp_top.specs.declared.fault.NoReport.TheVariants as fault
use Rattle.alp_top.proofs.BeginLemmas.{holds_by}
use Rattle.alp_top.proofs.PairLemmas.{HasPair, paired_at, paired_many, same_there}
use Rattle.alp_top.proofs.StoredLemmas.{started_as}

-- ---- which server

pub none_of_none : (n : ℕ) → IsOneOf 0 n → ⊥
none_of_none n h = (let low : 1 ≤ n = h.first in let high : n ≤ 0 = h.last in omega (arith, low, high))

-- ---- a vault of a server

vault_in : {V : Type 0} → V → Option (Server V) → V
vault_in v (Some (Up n)) = n.kept.vault
vault_in v (Some (Fallen d)) = d.vault
vault_in v None = v

its_vault : {V : Type 0} (v w : V) (s : Option (Server V)) → HasVault s v → v ≡ vault_in w s
unfolding vault_in
its_vault v w (Some (Up n)) h = h
its_vault v w (Some (Fallen d)) h = h
its_vault v w None h = absurd h

pub one_vault : {V : Type 0} (s : Option (Server V)) (v w : V) → HasVault s v → HasVault s w → v ≡ w
one_vault s v w a b = its_vault v v s a ∙ sym (its_vault w v s b)

pub up_vault : {V : Type 0} (s : Option (Server V)) (n : NodeState V) (v : V) → s ≡ standing n → HasVault s v → v ≡ n.kept.vault
up_vault s n v is has = subst (λ o. HasVault o v) is has

-- ---- stations and their servers

pub station_at : {V : Type 0} (ns : List (NodeState V)) (xs : List (Station V)) (i : ℕ) (n : NodeState V) → AreStationsOf ns xs → slice_get ns i ≡ Some n → (x : Station V) × (slice_get xs i ≡ Some x) × (x.server ≡ standing n)
station_at [] xs i n h is = absurd (nothing_there i n is)
  where
    nothing_there : {V : Type 0} (i : ℕ) (n : NodeState V) → slice_get [] i ≡ Some n → ⊥
    nothing_there i n is = cc
station_at (m ∷ ns) [] i n h is = absurd h
station_at (m ∷ ns) (x ∷ xs) zero n h is = (let same : m ≡ n = cc in (x, refl, h.0 ∙ ap standing same))
station_at (m ∷ ns) (x ∷ xs) (suc i) n h is = station_at ns xs i n h.3 is

pub stations_many : {V : Type 0} (ns : List (NodeState V)) (xs : List (Station V)) → AreStationsOf ns xs → length xs ≡ length ns
stations_many [] [] h = refl
stations_many [] (x ∷ xs) h = absurd h
stations_many (n ∷ ns) [] h = absurd h
stations_many (n ∷ ns) (x ∷ xs) h = ap suc (stations_many ns xs h.3)

-- ---- nothing was taken

module _ {D : Type 0} (g : Ghosts D) (lines : List NumberedLine) (before after : ℕ → Option D) where
  pub none_returned : (P : ℕ → D → D → Type 0) → ((n : ℕ) → after n ≡ before n) → AreReturned g lines 0 before after P
  none_returned P same = record { each = λ n h. absurd (none_of_none n h); others = λ n out. same n }

  pub bay_ended : (f : BayFault) (bay_before bay_after : ℕ) → 1 ≤ servers_said lines → ((n : ℕ) → after n ≡ before n) → IsUntaken (of_bay f) bay_before bay_after → HasRunCause g lines before after bay_before bay_after (of_bay f)
  bay_ended bay_fault.Failed bay_before bay_after some same rose = (0, some, none_returned (IsUnplayed g lines) same, rose)
  bay_ended bay_fault.OutOfMemory bay_before bay_after some same rose = inl (0, some, none_returned (IsUnplayed g lines) same)

-- ---- a server was not started

module _ {V D : Type 0} (G : VaultGhosts V) (g : Ghosts D) (tells : Bool) (told : IsTrue tells) (lines : List NumberedLine) (before now after : ℕ → Option D) (bay_before bay_after : ℕ) (f : NoReport) (c : Cluster V)
    (h : HaveBegunSome G g tells lines before now bay_before bay_after f c) (left : AreLeftBy G g tells c.parties.stations.all.items now after) where
  abbrev k : ℕ
  k = h.count

  abbrev ss : List (Station V)
  ss = c.parties.stations.all.items

  as_many : length ss ≡ k
  as_many = stations_many h.nodes ss h.stand ∙ h.many

  -- the disk of one that was
  record IsBackAt (n : ℕ) : Type 0 where
    taken : D
    from_there : IsTaken g (before n) (pages_of (sizes_said lines n)) taken
    given : D
    there : after n ≡ Some given
    size : g.size given ≡ g.size taken
    unplayed : IsUnplayed g lines n taken given

  unplayed_at : (n : ℕ) (m : NodeState V) (d e : D) (v : V) → IsBegunAt G g tells lines before n m d → v ≡ m.kept.vault → IsGiven G g v e → IsUnplayed g lines n d e
  unplayed_at n m d e v b is back =
      let here : IsTrue (G.tells m.kept.vault) = subst IsTrue (sym b.started.telling) (b.told told) in
      let tells_v : IsTrue (G.tells v) = subst (λ (w : V). IsTrue (G.tells w)) (sym is) here in
      let number : G.server v ≡ n = ap G.server is ∙ b.started.on.kept.number ∙ b.started.number in
      let all : G.servers v ≡ servers_said lines = ap G.servers is ∙ b.started.on.kept.all ∙ b.started.count in
      let volume : G.volume v ≡ (start_in G m).sizes = ap G.volume is ∙ ap G.volume (sym b.started.idle.opening) in
      record {
        opening = start_in G m;
        notes = notes_in G m;
        started = started_as G g (sizes_said lines n) n (servers_said lines) m m v d e b.started (b.told told) b.started.on b.started.number refl here;
        sound = (b.started.on.kept.right here).opening;
        new = b.started.new (b.told told);
        found = b.started.found (b.told told);
        left = λ image may.
            let (c, holds, may_be) = back.whole tells_v image may in (
              c,
              holds_by _ _ _ _ _ _ _ _ image c number all refl (ap (λ (z : Sizes). z.home) volume) holds,
              subst (λ (js : List Entry). NoMore (IsSaid (state_after next (opened (start_in G m)) js)) (G.may_leave m.kept.vault)) b.started.idle.journal
                  ((b.started.on.kept.durable here).up (ap (λ (js : List Entry). (state_after next (opened (start_in G m)) js).is_down) b.started.idle.journal)) c (subst (λ (w : V). G.may_leave w c) is may_be),
            );
        read = back.read tells_v;
        unfailed = back.faults ∙ ap G.faults is ∙ b.started.faults;
      }

  back_at : (n : ℕ) → IsOneOf k n → IsBackAt n
  back_at n here =
      let low : 1 ≤ n = here.first in
      let less : n - 1 < length h.nodes = (let high : n ≤ k = here.last in let all : length h.nodes ≡ k = h.many in omega (arith, low, high, all)) in
      let same : 1 + (n - 1) ≡ n = omega (arith, low) in
      let p : HasPair (IsBegunAt G g tells lines before) 1 (n - 1) h.nodes h.disks = paired_at (IsBegunAt G g tells lines before) 1 (n - 1) h.nodes h.disks h.begun less in
      let b : IsBegunAt G g tells lines before n p.one p.two = subst (λ (m : ℕ). IsBegunAt G g tells lines before m p.one p.two) same p.both in
      let (x, at, stands) = station_at h.nodes ss (n - 1) p.one h.stand p.at_one in
      let q : HasPair (IsLeftAt G g tells after) 1 (n - 1) ss left.disks = paired_at (IsLeftAt G g tells after) 1 (n - 1) ss left.disks left.each (let all : length ss ≡ length h.nodes = stations_many h.nodes ss h.stand in omega (arith, less, all)) in
      let l : IsLeftAt G g tells after n q.one q.two = subst (λ (m : ℕ). IsLeftAt G g tells after m q.one q.two) same q.both in
      let one : q.one ≡ x = same_there (slice_get ss (n - 1)) q.one x q.at_one at in
      let v : l.vault ≡ p.one.kept.vault = up_vault q.one.server p.one l.vault (ap (λ (s : Station V). s.server) one ∙ stands) l.its in
      record {
        taken = p.two;
        from_there = b.was told;
        given = q.two;
        there = l.there told;
        size = l.back.sized ∙ ap (λ (w : V). pages_of (G.volume w)) v ∙ sym b.started.sized;
        unplayed = unplayed_at n p.one p.two q.two l.vault b v l.back;
      }

  returned_at : (P : ℕ → D → D → Type 0) → ((n : ℕ) → IsOneOf k n → (d e : D) → IsUnplayed g lines n d e → P n d e) → (n : ℕ) → IsOneOf k n → IsReturned g (sizes_said lines n) (before n) (after n) (P n)
  returned_at P make n here =
      let b : IsBackAt n = back_at n here in
      record { taken = b.taken; from_there = b.from_there; given = b.given; there = b.there; size = b.size; later = (let same : g.faults b.given ≡ g.faults b.taken = b.unplayed.unfailed in omega (arith, same)); left = make n here b.taken b.given b.unplayed }

  -- the other places
  out_same : (n : ℕ) → (IsOneOf k n → ⊥) → (n ≡ k + 1 → ⊥) → after n ≡ before n
  out_same n out other = left.others told n (λ h1. out (subst (λ (m : ℕ). IsOneOf m n) as_many h1)) ∙ h.next_one.others told n other ∙ h.same told n out

  next_out : IsOneOf k (k + 1) → ⊥
  next_out h1 = (let high : k + 1 ≤ k = h1.last in omega (arith, high))

  next_after : after (k + 1) ≡ now (k + 1)
  next_after = left.others told (k + 1) (λ h1. next_out (subst (λ (m : ℕ). IsOneOf m (k + 1)) as_many h1))

  next_before : h.mid (k + 1) ≡ before (k + 1)
  next_before = h.same told (k + 1) next_out

  all_back : (P : ℕ → D → D → Type 0) → ((n : ℕ) → IsOneOf k n → (d e : D) → IsUnplayed g lines n d e → P n d e) → now (k + 1) ≡ h.mid (k + 1) → AreReturned g lines k before after P
  all_back P make same = record {
    each = returned_at P make;
    others = λ n out. elim (cases_eq n (k + 1)) [
      | inl is ↦ subst (λ (m : ℕ). after m ≡ before m) (sym is) (next_after ∙ same ∙ next_before)
      | inr other ↦ out_same n out other
    ];
  }

  all_with : (P : ℕ → D → D → Type 0) → ((n : ℕ) → IsOneOf k n → (d e : D) → IsUnplayed g lines n d e → P n d e) → IsReturned g (sizes_said lines (k + 1)) (h.mid (k + 1)) (now (k + 1)) (P (k + 1)) → AreReturned g lines (k + 1) before after P
  all_with P make next_one = record {
    each = λ n here. elim (cases_eq n (k + 1)) [
      | inl is ↦
          subst (λ (m : ℕ). IsReturned g (sizes_said lines m) (before m) (after m) (P m)) (sym is)
          (subst (λ (o : Option D). IsReturned g (sizes_said lines (k + 1)) (before (k + 1)) o (P (k + 1))) (sym next_after)
          (subst (λ (o : Option D). IsReturned g (sizes_said lines (k + 1)) o (now (k + 1)) (P (k + 1))) next_before next_one))
      | inr other ↦ returned_at P make n (record { first = here.first; last = (let high : n ≤ k + 1 = here.last in omega (arith, high, other)) })
    ];
    others = λ n out. out_same n (λ h1. out (record { first = h1.first; last = (let high : n ≤ k = h1.last in omega (arith, high)) })) (λ is. out (record { first = omega (arith, is); last = omega (arith, is) }));
  }

  below : (n s : ℕ) → IsOneOf k n → s ≡ k + 1 → n ≡ s → ⊥
  below n s here is same = (let high : n ≤ k = here.last in omega (arith, high, is, same))

  stops : (P : ℕ → D → D → Type 0) (s : ℕ) → s ≡ k + 1 → IsReturned g (sizes_said lines (k + 1)) (h.mid (k + 1)) (now (k + 1)) (P (k + 1)) → StopsAt g lines s before after (P s)
  stops P s is x =
      subst (λ (m : ℕ). StopsAt g lines m before after (P m)) (sym is) (record {
        among = (let low : k < servers_said lines = h.few in record { first = omega arith; last = omega (arith, low) });
        returned =
            all_with (λ n d e. (n ≡ k + 1 → P (k + 1) d e) × ((n ≡ k + 1 → ⊥) → IsUnplayed g lines n d e)) (λ n here d e u. ((λ same. absurd (below n (k + 1) here refl same)), (λ other. u)))
            (record { taken = x.taken; from_there = x.from_there; given = x.given; there = x.there; size = x.size; later = x.later; left = ((λ same. x.left), (λ other. absurd (other refl))) });
      })

  -- why it was not
  next_with : (P : ℕ → D → D → Type 0) → IsReturned g (sizes_said lines (k + 1)) (h.mid (k + 1)) (now (k + 1)) (WhyNotBegun g (sizes_said lines (k + 1)) (k + 1) (servers_said lines) f)
      → ((d e : D) → WhyNotBegun g (sizes_said lines (k + 1)) (k + 1) (servers_said lines) f d e → P (k + 1) d e) → IsReturned g (sizes_said lines (k + 1)) (h.mid (k + 1)) (now (k + 1)) (P (k + 1))
  next_with P x make = record { taken = x.taken; from_there = x.from_there; given = x.given; there = x.there; size = x.size; later = x.later; left = make x.taken x.given x.left }

  pub start_ended : HasRunCause g lines before after bay_before bay_after f
  start_ended = go f (h.next_one.refused told) h.next_one.of_server next_with
    where
      Refusal : NoReport → Type 0
      Refusal q = IsRefused g lines (k + 1) (h.mid (k + 1)) (now (k + 1)) bay_before bay_after q

      Next : NoReport → Type 1
      Next q = (P : ℕ → D → D → Type 0) → IsReturned g (sizes_said lines (k + 1)) (h.mid (k + 1)) (now (k + 1)) (WhyNotBegun g (sizes_said lines (k + 1)) (k + 1) (servers_said lines) q)
          → ((d e : D) → WhyNotBegun g (sizes_said lines (k + 1)) (k + 1) (servers_said lines) q d e → P (k + 1) d e) → IsReturned g (sizes_said lines (k + 1)) (h.mid (k + 1)) (now (k + 1)) (P (k + 1))

      go : (q : NoReport) → Refusal q → IsOfServer g (k + 1) q → Next q → HasRunCause g lines before after bay_before bay_after q
      go fault.Bay (inl x) of make = (k, h.few, all_back (IsUnplayed g lines) (λ n here d e u. u) x.0, x.1)
      go fault.Bay (inr x) of make = absurd x.left
      go fault.OutOfMemory (inl x) of make = inl (k, h.few, all_back (IsUnplayed g lines) (λ n here d e u. u) x.0)
      go fault.OutOfMemory (inr x) of make = inr (inl (k + 1, stops (λ n. IsWanting g (sizes_said lines n) n (servers_said lines)) (k + 1) refl (make (λ n. IsWanting g (sizes_said lines n) n (servers_said lines)) x (λ d e why. why))))
      go fault.JournalFull x of make = absurd of
      go (fault.Disk s) (inl x) of make = absurd x.1
      go (fault.Disk s) (inr x) of make = inl (stops (λ n. IsFailing g (sizes_said lines n) n (servers_said lines)) s of.0 (make (λ n. IsFailing g (sizes_said lines n) n (servers_said lines)) x (λ d e why. why.1)))
      go (fault.EpochEnd s) (inl x) of make = absurd x.1
      go (fault.EpochEnd s) (inr x) of make = inl (stops (IsAtItsEnd g lines) s of (make (IsAtItsEnd g lines) x (λ d e why. (why.1, why.2))))
      go (fault.NotAVolume s found) (inl x) of make = absurd x.1
      go (fault.NotAVolume s found) (inr x) of make = stops (λ n. IsNoVolume g lines n found) s of (make (λ n. IsNoVolume g lines n found) x (λ d e why. (why.1, why.2)))
      go (fault.Damaged s place) (inl x) of make = absurd x.1
      go (fault.Damaged s place) (inr x) of make = stops (λ n. IsDamaged g lines n place) s of (make (λ n. IsDamaged g lines n place) x (λ d e why. why.1))
