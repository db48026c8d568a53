-- What a run leaves of its servers, and what was opened.
use Rattle.std.specs.Prelude.{false, map as list_map, slice_get, slice_set, Option, None, Some, Vec}
use Rattle.std.specs.Global.{Global}
use Rattle.std.proofs.Common.{inl, inr, ◌≡◌, ℕ, zero, suc, ◌+◌, ◌-◌, ◌<◌, ◌≤◌, List, [], ◌∷◌, ◌++◌, length, take, drop, refl, sym, ◌∙◌, ap, subst, arith, append_assoc}
use Rattle.std.proofs.lemmas.List.{map-set, set-get_or, get_or-map, take-append-drop}
use Rattle.std.proofs.lemmas.Bool.{cases_eq}
use Rattle.alp_journal.specs.declared.log.Item.{Item}
use Rattle.alp_node.specs.NodeStates.{NodeState}
use Rattle.alp_node.specs.declared.opened.Opened.{Opened}
use Rattle.alp_node.specs.DownStates.{DownState}
use Rattle.alp_node.specs.Downs.{HasRaiseCause}
use Rattle.alp_node.specs.declared.start.StartFault.{StartFault}
use Rattle.alp_node.specs.declared.start.StartFault.TheVariants as start_fault
use Rattle.alp_base.specs.declared.faults.VaultFault.{VaultFault}
use Rattle.alp_base.specs.declared.faults.VaultFault.TheVariants as vault_fault
use Rattle.alp_posts.specs.Posts.{IsTable, IsUntaken}
use Rattle.alp_vault.specs.declared.vault.Vault.{Ghosts}
use Rattle.alp_course.specs.Plays.{Due}
use Rattle.alp_course.proofs.RankLemmas.{get_below}
use Rattle.alp_cluster.specs.Fills.{IsFailing}
use Rattle.alp_cluster.specs.Gathered.{AreStationsOf, AreGathered}
use Rattle.alp_cluster.specs.Goes.{opening_in}
use Rattle.alp_cluster.specs.Servers.{AreCalm, StaysDown}
use Rattle.alp_cluster.specs.Station.{standing}
use Rattle.alp_cluster.specs.Stations.{FailsAt, EndsAt, EndsFor, IsCalmSince, AreCalmSince, AreCalmBut, openings_of, server_in, server_at, servers_of}
use Rattle.alp_cluster.specs.declared.fault.RunFault.{RunFault}
use Rattle.alp_cluster.specs.declared.fault.RunFault.TheVariants as fault
use Rattle.alp_cluster.specs.declared.parties.Parties.{Parties}
use Rattle.alp_cluster.specs.declared.server.Server.{Server}
use Rattle.alp_cluster.specs.declared.server.Server.TheVariants.{Fallen}
use Rattle.alp_cluster.specs.declared.station.Station.{Station}
use Rattle.alp_cluster.specs.declared.stations.Stations.{Stations}
use Rattle.alp_cluster.proofs.StationsLemmas.{read_or, set_there, set_elsewhere}

-- a list is what is before a place, what stands there, and the rest
pub split_at : {A : Type 0} (xs : List A) (i : ℕ) (x : A) → take (i + 1) xs ≡ take i xs ++ x ∷ [] → xs ≡ take i xs ++ x ∷ drop (i + 1) xs
split_at {A = A} xs i x is = sym (take-append-drop (i + 1) xs) ∙ ap (λ (ys : List A). ys ++ drop (i + 1) xs) is ∙ append_assoc (take i xs) (x ∷ []) (drop (i + 1) xs)

-- ---- what was opened

module _ {V : Type 0} (G : Ghosts V) where
  opened_as : (xs : List (Station V)) → list_map (λ (x : Station V). opening_in x.server) xs ≡ list_map opening_in (list_map (λ (x : Station V). x.server) xs)
  opened_as [] = refl
  opened_as (x ∷ xs) = ap (λ (os : List (Option (Opened V))). opening_in x.server ∷ os) (opened_as xs)

  same_opened : (a b : Stations V) → servers_of b ≡ servers_of a → openings_of b ≡ openings_of a
  same_opened a b same = opened_as b.all.items ∙ ap (list_map opening_in) same ∙ sym (opened_as a.all.items)

  -- one was put in place of another that was opened on the same
  set_opened : (a b : Stations V) (i : ℕ) (x y : Station V) → slice_get a.all.items i ≡ Some x → b.all.items ≡ slice_set a.all.items i y → opening_in y.server ≡ opening_in x.server → openings_of b ≡ openings_of a
  set_opened a b i x y there items same =
      let f = λ (z : Station V). opening_in z.server in
      let below : i < length a.all.items = get_below a.all.items i x there in
      ap (list_map f) items ∙ map-set f a.all.items i y ∙ ap (slice_set (list_map f a.all.items) i) (same ∙ sym (get_or-map f a.all.items i x None below ∙ ap f (read_or a.all.items i x x there))) ∙ set-get_or (list_map f a.all.items) i None

  failed_opened : (server : ℕ) (due : Due) (a b : Stations V) → FailsAt G server due a b → openings_of b ≡ openings_of a
  failed_opened server due a b e =
      set_opened a b (server - 1) e.station e.left e.there e.others (ap opening_in e.fails.stands ∙ ap (λ (o : Opened V). Some o) e.fails.failed.opening ∙ sym (ap opening_in e.stood))

  fallen_opened : (server : ℕ) (f : StartFault) (a b : Stations V) → EndsAt G (fault.Start server f) a b → openings_of b ≡ openings_of a
  fallen_opened server f a b e =
      let (d, left, named, stays) = e.ends in
      let mine : opening_in e.left.server ≡ opening_in e.station.server = ap opening_in left ∙ ap (λ (o : Opened V). Some o) (stays.stays.opening ∙ stays.falls.opening) ∙ sym (ap opening_in e.stood) in
      set_opened a b (e.number - 1) e.station e.left e.there e.others mine

  -- at the end of a run they stand as they were opened
  pub end_opened : (f : RunFault) (due : Due) (a b : Stations V) → EndsFor G f due a b → openings_of b ≡ openings_of a
  end_opened (fault.DiskFault server) due a b left = failed_opened server due a b left
  end_opened fault.OutOfMemory due a b left = left.openings
  end_opened fault.JournalFull due a b left = same_opened a b left.servers
  end_opened (fault.Start server f) due a b left = fallen_opened server f a b left

  -- ---- how often their devices failed

  server_or : Option (Option (Server V)) → Option (Server V)
  server_or None = None
  server_or (Some o) = o

  server_as : (xs : List (Station V)) (i : ℕ) → server_in (slice_get xs i) ≡ server_or (slice_get (list_map (λ (x : Station V). x.server) xs) i)
  unfolding server_or
  server_as [] zero = refl
  server_as [] (suc i) = refl
  server_as (x ∷ xs) zero = refl
  server_as (x ∷ xs) (suc i) = server_as xs i

  same_calm : (a b : Stations V) → servers_of b ≡ servers_of a → AreCalmSince G a b
  same_calm a b same n =
      let is : server_at b n ≡ server_at a n = server_as b.all.items (n - 1) ∙ ap (λ (os : List (Option (Server V))). server_or (slice_get os (n - 1))) same ∙ sym (server_as a.all.items (n - 1)) in
      subst (λ (o : Option (Server V)). IsCalmSince G (server_at a n) o) (sym is) (λ calm. (calm, refl))

  -- one was put in place of another: the others stand as they stood
  set_calm : (a b : Stations V) (i : ℕ) (x y : Station V) → slice_get a.all.items i ≡ Some x → b.all.items ≡ slice_set a.all.items i y → (n : ℕ) → (n - 1 ≡ i → IsCalmSince G x.server y.server) → IsCalmSince G (server_at a n) (server_at b n)
  set_calm a b i x y there items n mine = elim (cases_eq (n - 1) i) [
    | inl same ↦
        let below : i < length a.all.items = get_below a.all.items i x there in
        let was : server_at a n ≡ x.server = ap (λ (j : ℕ). server_in (slice_get a.all.items j)) same ∙ ap server_in there in
        let now : server_at b n ≡ y.server = ap (λ (j : ℕ). server_in (slice_get b.all.items j)) same ∙ ap (λ (xs : List (Station V)). server_in (slice_get xs i)) items ∙ ap server_in (set_there a.all.items i y below) in
        subst (λ (o : Option (Server V)). IsCalmSince G o (server_at b n)) (sym was) (subst (λ (o : Option (Server V)). IsCalmSince G x.server o) (sym now) (mine same))
    | inr away ↦
        let is : server_at b n ≡ server_at a n = ap (λ (xs : List (Station V)). server_in (slice_get xs (n - 1))) items ∙ ap server_in (set_elsewhere a.all.items i (n - 1) y away) in
        subst (λ (o : Option (Server V)). IsCalmSince G (server_at a n) o) (sym is) (λ calm. (calm, refl))
  ]

  -- the number is that of the place
  same_place : (n server : ℕ) → 1 ≤ n → 1 ≤ server → n - 1 ≡ server - 1 → server ≡ n
  same_place n server some one same = omega (arith, some, one, same)

  failed_calm : (server : ℕ) (due : Due) (a b : Stations V) → FailsAt G server due a b → AreCalmBut G (fault.DiskFault server) a b
  failed_calm server due a b e n some other = set_calm a b (server - 1) e.station e.left e.there e.others n (λ same. absurd (other (same_place n server some e.here.first same)))

  -- one that fell, and did not start again
  stayed_calm : (pick : ℕ) (f : StartFault) (n : NodeState V) (d : DownState V) → StaysDown G pick n d f → ((v : VaultFault) → f ≡ start_fault.Vault v → G.faults d.vault ≡ G.faults n.kept.vault) → IsCalmSince G (standing n) (Some (Fallen d))
  stayed_calm pick f n d h counted calm = (subst AreCalm (h.stays.journal ∙ h.falls.journal) calm, count f refl)
    where
      count : (g : StartFault) → f ≡ g → G.faults d.vault ≡ G.faults n.kept.vault
      count (start_fault.Vault v) is = counted v is
      count start_fault.BadNote is = (subst (HasRaiseCause G h.fallen.epoch h.fallen.vault d.vault) is h.stays.cause).0 ∙ h.falls.faults
      count start_fault.EpochEnd is = ap G.faults (subst (HasRaiseCause G h.fallen.epoch h.fallen.vault d.vault) is h.stays.cause).1 ∙ h.falls.faults

  vault_counted : (server : ℕ) (pick : ℕ) (v w : VaultFault) (n : NodeState V) (d : DownState V) → v ≡ w → StaysDown G pick n d (start_fault.Vault v) → (IsFailing (fault.Start server (start_fault.Vault v)) server → ⊥) → G.faults d.vault ≡ G.faults n.kept.vault
  vault_counted server pick v vault_fault.OutOfMemory n d is h other = h.stays.cause.3 is ∙ h.falls.faults
  vault_counted server pick v vault_fault.Failed n d is h other = absurd (other (subst (λ (x : VaultFault). IsFailing (fault.Start server (start_fault.Vault x)) server) (sym is) refl))
  vault_counted server pick v vault_fault.Stopped n d is h other = absurd (other (subst (λ (x : VaultFault). IsFailing (fault.Start server (start_fault.Vault x)) server) (sym is) refl))
  vault_counted server pick v (vault_fault.NotAVolume found) n d is h other = absurd (other (subst (λ (x : VaultFault). IsFailing (fault.Start server (start_fault.Vault x)) server) (sym is) refl))
  vault_counted server pick v (vault_fault.Damaged place) n d is h other = absurd (other (subst (λ (x : VaultFault). IsFailing (fault.Start server (start_fault.Vault x)) server) (sym is) refl))

  fallen_calm : (server : ℕ) (f : StartFault) (a b : Stations V) → EndsAt G (fault.Start server f) a b → AreCalmBut G (fault.Start server f) a b
  fallen_calm server f a b e n some other = set_calm a b (e.number - 1) e.station e.left e.there e.others n (λ same.
      let (d, left, named, stays) = e.ends in
      let its : server ≡ n = named ∙ e.number_is ∙ same_place n e.number some e.here.first same in
      subst (λ (o : Option (Server V)). IsCalmSince G o e.left.server) (sym e.stood) (subst (λ (o : Option (Server V)). IsCalmSince G (standing e.node) o) (sym left)
      (stayed_calm e.pick f e.node d stays (λ v is.
      vault_counted server e.pick v v e.node d refl (subst (StaysDown G e.pick e.node d) is stays) (λ failing. other (subst (IsFailing (fault.Start server f)) its (subst (λ (x : StartFault). IsFailing (fault.Start server x) server) (sym is) failing)))))))

  calm_all : (f : RunFault) (a b : Stations V) → AreCalmSince G a b → AreCalmBut G f a b
  calm_all f a b calm n some other = calm n

  -- at the end of a run no other disk failed than before, but the one of which the fault is
  pub end_calm : (f : RunFault) (due : Due) (a b : Stations V) → EndsFor G f due a b → AreCalmBut G f a b
  end_calm (fault.DiskFault server) due a b left = failed_calm server due a b left
  end_calm fault.OutOfMemory due a b left = calm_all fault.OutOfMemory a b left.calm
  end_calm fault.JournalFull due a b left = calm_all fault.JournalFull a b (same_calm a b left.servers)
  end_calm (fault.Start server f) due a b left = fallen_calm server f a b left

  -- what was calm before goes on
  pub calm_then : (f : RunFault) (a b c : Stations V) → AreCalmSince G a b → AreCalmBut G f b c → AreCalmBut G f a c
  calm_then f a b c h k n some other calm = (let late = k n some other calm in let early = h n late.0 in (early.0, late.1 ∙ early.1))

-- ---- one server more

stations_more : {V : Type 0} (ns : List (NodeState V)) (xs : List (Station V)) (n : NodeState V) (x : Station V) → x.server ≡ standing n → x.ranks.items ≡ [] → x.is_fused ≡ false → AreStationsOf ns xs → AreStationsOf (ns ++ n ∷ []) (xs ++ x ∷ [])
stations_more [] [] n x stood ranks free h = (stood, ranks, free, tt)
stations_more [] (y ∷ ys) n x stood ranks free h = absurd h
stations_more (m ∷ ns) [] n x stood ranks free h = absurd h
stations_more (m ∷ ns) (y ∷ ys) n x stood ranks free h = (h.0, h.1, h.2, stations_more ns ys n x stood ranks free h.3)

pub gathered_more : {V : Type 0} (ns : List (NodeState V)) (p q : Parties V) (vs : List (Vec Item Global)) (printed : List ℕ) (n : NodeState V) (x : Station V) → x.server ≡ standing n → x.ranks.items ≡ [] → x.is_fused ≡ false → q.stations.all.items ≡ p.stations.all.items ++ x ∷ []
    → q.stations.posts ≡ p.stations.posts → q.clients ≡ p.clients → AreGathered ns p vs printed → AreGathered (ns ++ n ∷ []) q vs printed
gathered_more ns p q vs printed n x stood ranks free items posts clients h = record {
  stations = subst (λ (xs : List (Station _)). AreStationsOf (ns ++ n ∷ []) xs) (sym items) (stations_more ns p.stations.all.items n x stood ranks free h.stations);
  clients = clients ∙ h.clients;
  untaken = subst IsUntaken (sym posts) h.untaken;
  table = subst IsTable (sym posts) h.table;
  many = h.many;
  empty = h.empty;
  blank = h.blank;
}
