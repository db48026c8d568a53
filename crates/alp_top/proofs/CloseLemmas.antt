-- servers at rest that are closed one after the other, the last one first
use Rattle.std.specs.Prelude.{Bool, IsTrue, Option, Some, Result, Ok, Err, OnOk, IfOk}
use Rattle.std.proofs.Common.{◌≡◌, ℕ, suc, ◌+◌, ◌≤◌, List, [], ◌∷◌, ◌++◌, length, length-append, append_assoc, append-nil, refl, sym, ◌∙◌, ap, subst, arith}
use Rattle.alp_disk.specs.declared.disk.Disk.{Ghosts}
use Rattle.alp_node.specs.NodeStates.{NodeState}
use Rattle.alp_vault.specs.declared.vault.Vault.{Ghosts as VaultGhosts}
use Rattle.alp_course.specs.Courses.{IsOneOf}
use Rattle.alp_cluster.specs.Servers.{HasGoneBy, IsFailure, IsToldFault, AreCountedIn}
use Rattle.alp_cluster.specs.Station.{standing}
use Rattle.alp_cluster.specs.Stations.{IsOfRun}
use Rattle.alp_cluster.specs.declared.fault.RunFault.{RunFault}
use Rattle.alp_cluster.specs.declared.fault.RunFault.TheVariants as fault
use Rattle.alp_cluster.specs.declared.station.Station.{Station}
use Rattle.alp_cluster.proofs.GoneLemmas.{gone_nothing, gone_ok, gone_err, gone_among}
use Rattle.alp_top.specs.Disks.{IsGiven, IsAtRest, AreAtRest, IsElsewhere, GoesOn, IsStationPut, IsClosedAt, IsClosedHere, AreClosed}
use Rattle.alp_top.specs.Endings.{AreNoRests, AreRestsOf, IsHeldAt, IsLogAt}
use Rattle.alp_top.specs.Pairs.{ArePaired, AreMatched}
use Rattle.alp_top.specs.declared.finish.Rests.{Rests}
use Rattle.alp_top.proofs.LeaveLemmas.{IsBetween}
use Rattle.alp_top.proofs.PairLemmas.{paired_map}
use Rattle.alp_top.specs.Tallies.{sum_of, tally_in, begun_in, committed_in}
use Rattle.alp_journal.specs.declared.entry.Entry.{Entry}

-- ---- a fault of another server

module _ {V : Type 0} (G : VaultGhosts V) (servers : ℕ) where
  failed_elsewhere : (T : Type 0) (here before now : ℕ) (f : RunFault) → IsElsewhere {T = T} servers here (Err f) → IsFailure {T = T} (IsOfRun servers) here (Err f) before now
  failed_elsewhere T here before now (fault.DiskFault s) h = (h.0, λ is. absurd (h.1 is))
  failed_elsewhere T here before now fault.OutOfMemory h = tt
  failed_elsewhere T here before now fault.JournalFull h = tt
  failed_elsewhere T here before now (fault.Start s f) h = (h.0, λ is. absurd (h.1 is))

  told_elsewhere : (T : Type 0) (here : ℕ) (f : RunFault) → IsElsewhere {T = T} servers here (Err f) → IsToldFault {T = T} here (Err f)
  told_elsewhere T here (fault.DiskFault s) h = tt
  told_elsewhere T here fault.OutOfMemory h = tt
  told_elsewhere T here fault.JournalFull h = tt
  told_elsewhere T here (fault.Start s f) h = λ is. absurd (h.1 is)

  counted_elsewhere : (T : Type 0) (here before now : ℕ) (f : RunFault) → IsElsewhere {T = T} servers here (Err f) → now ≡ before → AreCountedIn {T = T} here (Err f) before now
  counted_elsewhere T here before now (fault.DiskFault s) h same = (λ is. absurd (h.1 is), λ away. same)
  counted_elsewhere T here before now fault.OutOfMemory h same = same
  counted_elsewhere T here before now fault.JournalFull h same = same
  counted_elsewhere T here before now (fault.Start s f) h same = (λ is. absurd (h.1 is), λ away. same)

  -- what went well here, while another server's fault ends the whole
  pub gone_elsewhere : {T : Type 0} (P : Type 0) (u v : V) (x : T) (f : RunFault) → HasGoneBy {T = T} G (IsOfRun servers) P u v (Ok x) → IsElsewhere {T = T} servers (G.server u) (Err f) → HasGoneBy {T = T} G (IsOfRun servers) P u v (Err f)
  gone_elsewhere {T} P u v x f h away = record {
    same = h.same;
    later = h.later;
    failed = failed_elsewhere T (G.server u) (G.faults u) (G.faults v) f away;
    told = λ e. told_elsewhere T (G.server u) f away;
    free = h.free;
    counted = λ p e. counted_elsewhere T (G.server u) (G.faults u) (G.faults v) f away (h.counted p e);
  }

  -- a fault that names this server alone
  named_elsewhere : {T : Type 0} (k n before now : ℕ) (r : Result T RunFault) → IsOfRun servers k → (n ≡ k → ⊥) → IsFailure (λ (s : ℕ). s ≡ k) k r before now → IsElsewhere servers n r
  named_elsewhere k n before now (Ok x) of other h = tt
  named_elsewhere k n before now (Err (fault.DiskFault s)) of other h = (subst (IsOfRun servers) (sym h.0) of, λ is. other (sym is ∙ h.0))
  named_elsewhere k n before now (Err fault.OutOfMemory) of other h = tt
  named_elsewhere k n before now (Err fault.JournalFull) of other h = tt
  named_elsewhere k n before now (Err (fault.Start s f)) of other h = (subst (IsOfRun servers) (sym h.0) of, λ is. other (sym is ∙ h.0))

  pub goes_named : {T U : Type 0} (k : ℕ) (u v : V) (x : U) (r : Result T RunFault) → IsOfRun servers k → G.server u ≡ k → HasGoneBy G (λ (s : ℕ). s ≡ k) (Unit {0}) u v r → GoesOn {T = U} servers k (Ok x) r
  goes_named k u v x r of here h = λ n other. named_elsewhere k n (G.faults u) (G.faults v) r of other (subst (λ (m : ℕ). IsFailure (λ (s : ℕ). s ≡ k) m r (G.faults u) (G.faults v)) here h.failed)

  pub gone_named : {T : Type 0} (k : ℕ) (u v : V) (r : Result T RunFault) → IsOfRun servers k → HasGoneBy G (λ (s : ℕ). s ≡ k) (Unit {0}) u v r → HasGoneBy G (IsOfRun servers) (Unit {0}) u v r
  gone_named k u v r of h = gone_among G (λ (s : ℕ). s ≡ k) (IsOfRun servers) (Unit {0}) u v r (λ n is. subst (IsOfRun servers) (sym is) of) h

-- ---- servers at rest

pub rest_last : {V : Type 0} (G : VaultGhosts V) (tells : Bool) (number : ℕ) (ss : List (Station V)) (s : Station V) → AreAtRest G tells number (ss ++ s ∷ []) → AreAtRest G tells number ss × IsAtRest G tells (number + length ss) s
rest_last G tells number [] s h = (tt, (let same : number ≡ number + 0 = omega arith in subst (λ (m : ℕ). IsAtRest G tells m s) same h.0))
rest_last G tells number (x ∷ ss) s h =
    let (more, last) = rest_last G tells (number + 1) ss s h.1 in
    let same : number + 1 + length ss ≡ number + suc (length ss) = omega arith in
    ((h.0, more), subst (λ (m : ℕ). IsAtRest G tells m s) same last)

-- ---- what is kept of them

-- those of one more stand in front of the others
kept_put : {V : Type 0} (G : VaultGhosts V) (done : List (Station V)) (s : Station V) (old new : Rests V) → AreRestsOf G done old → IsStationPut G s old new → AreRestsOf G (s ∷ done) new
kept_put G done s old new h put =
    let p = put.put in
    let js : p.log.journal ≡ put.node.journal = p.is_log.entries in
    record {
      helds = subst (AreMatched (IsHeldAt G) (s ∷ done)) (sym p.put.helds) (record { node = put.node; stands = put.stands; is = p.is_held }, h.helds);
      logs = subst (AreMatched IsLogAt (s ∷ done)) (sym p.put.logs) (record { node = put.node; stands = put.stands; is = p.is_log }, h.logs);
      begun =
          p.put.begun ∙ ap (sum_of (tally_in put.node.journal).begun) h.begun ∙ ap (λ (es : List Entry). sum_of (tally_in es).begun (begun_in old.logs.items)) (sym js)
          ∙ ap begun_in (sym p.put.logs);
      committed =
          p.put.committed ∙ ap (sum_of (tally_in put.node.journal).committed) h.committed ∙ ap (λ (es : List Entry). sum_of (tally_in es).committed (committed_in old.logs.items)) (sym js)
          ∙ ap committed_in (sym p.put.logs);
    }

-- ---- one after the other

-- those behind the ones that are left are closed
pub record Closing {V D T : Type 0} (G : VaultGhosts V) (g : Ghosts D) (tells : Bool) (all left : List (Station V)) (before now : ℕ → Option D) (r : Result T RunFault) (rests : Rests V) : Type 0 where
  pub done : List (Station V)
  pub are : all ≡ left ++ done
  pub disks : List D
  pub each : ArePaired (IsClosedAt G g tells (length all) now r) (length left + 1) done disks
  pub same : IsTrue tells → (n : ℕ) → (IsBetween (length left + 1) (length all) n → ⊥) → now n ≡ before n
  pub ready : AreAtRest G tells 1 left
  pub elsewhere : (n : ℕ) → n ≤ length left → IsElsewhere (length all) n r
  pub kept : OnOk r (AreRestsOf G done rests)

module _ {V D T : Type 0} (G : VaultGhosts V) (g : Ghosts D) (tells : Bool) (all : List (Station V)) (before : ℕ → Option D) where
  pub closing_none : (x : T) (rests : Rests V) → AreAtRest G tells 1 all → AreNoRests rests → Closing G g tells all all before before (Ok x) rests
  closing_none x rests ready none = record {
    done = [];
    are = sym (append-nil all);
    disks = [];
    each = tt;
    same = λ told n out. refl;
    ready = ready;
    elsewhere = λ n low. tt;
    kept = record {
      helds = subst (AreMatched (IsHeldAt G) []) (sym none.helds) tt;
      logs = subst (AreMatched IsLogAt []) (sym none.logs) tt;
      begun = none.begun ∙ sym (ap begun_in none.logs);
      committed = none.committed ∙ sym (ap committed_in none.logs);
    };
  }

  -- a server that was closed, while the next one is
  closed_on : (k m : ℕ) (now after : ℕ → Option D) (r q : Result T RunFault) (s : Station V) (d : D) → IsClosedAt G g tells (length all) now r m s d → GoesOn (length all) k r q → (m ≡ k → ⊥) → (IsTrue tells → after m ≡ now m) → IsClosedAt G g tells (length all) after q m s d
  closed_on k m now after (Ok x) (Ok y) s d one goes other same = record {
    node = one.node;
    stands = one.stands;
    here = one.here;
    kept = one.kept;
    crash = one.crash;
    vault = one.vault;
    gone = gone_ok G (IsOfRun (length all)) (Unit {0}) one.node.kept.vault one.vault x y one.gone;
    held = one.held;
    serves = one.serves;
    back = one.back;
    there = λ told. same told ∙ one.there told;
  }
  closed_on k m now after (Ok x) (Err f) s d one goes other same = record {
    node = one.node;
    stands = one.stands;
    here = one.here;
    kept = one.kept;
    crash = one.crash;
    vault = one.vault;
    gone = gone_elsewhere G (length all) (Unit {0}) one.node.kept.vault one.vault x f one.gone (subst (λ (n : ℕ). IsElsewhere {T = T} (length all) n (Err f)) (sym one.here) (goes m other));
    held = tt;
    serves = tt;
    back = one.back;
    there = λ told. same told ∙ one.there told;
  }
  closed_on k m now after (Err f) q s d one goes other same = subst (λ (p : Result T RunFault). IsClosedAt G g tells (length all) after p m s d) (sym goes) (record {
    node = one.node;
    stands = one.stands;
    here = one.here;
    kept = one.kept;
    crash = one.crash;
    vault = one.vault;
    gone = one.gone;
    held = tt;
    serves = tt;
    back = one.back;
    there = λ told. same told ∙ one.there told;
  })

  elsewhere_on : (k n : ℕ) (r q : Result T RunFault) → GoesOn (length all) k r q → (n ≡ k → ⊥) → IsElsewhere (length all) n r → IsElsewhere (length all) n q
  elsewhere_on k n (Ok x) q goes other h = goes n other
  elsewhere_on k n (Err f) q goes other h = subst (IsElsewhere (length all) n) (sym goes) h

  -- what is kept of the servers so far
  kept_on : (k : ℕ) (r q : Result T RunFault) (done : List (Station V)) (s : Station V) (old new : Rests V) → GoesOn (length all) k r q → OnOk r (AreRestsOf G done old) → OnOk q (IsStationPut G s old new) → OnOk q (AreRestsOf G (s ∷ done) new)
  kept_on k r (Err f) done s old new goes h put = tt
  kept_on k (Err f) (Ok y) done s old new goes h put = absurd (wrong goes)
    where
      wrong : Ok y ≡ Err f → ⊥
      wrong e = cc
  kept_on k (Ok x) (Ok y) done s old new goes h put = kept_put G done s old new h put

  pub closing_more : (left rest : List (Station V)) (s : Station V) (now after : ℕ → Option D) (r q : Result T RunFault) (old new : Rests V) → Closing G g tells all left before now r old → left ≡ rest ++ s ∷ []
      → (length rest + 1 ≤ length all → IsElsewhere (length all) (length rest + 1) r → IsClosedHere G g tells (length all) now after q (length rest + 1) s) → (length rest + 1 ≤ length all → GoesOn (length all) (length rest + 1) r q)
      → OnOk q (IsStationPut G s old new) → Closing G g tells all rest before after q new
  closing_more left rest s now after r q old new h is closes goes_on put =
      let k : ℕ = length rest + 1 in
      let long : length left ≡ length rest + 1 = ap (λ (xs : List (Station V)). length xs) is ∙ length-append rest (s ∷ []) in
      let sum : length all ≡ length left + length h.done = ap (λ (xs : List (Station V)). length xs) h.are ∙ length-append left h.done in
      let among : length rest + 1 ≤ length all = omega (arith, sum, long) in
      let goes : GoesOn (length all) k r q = goes_on among in
      let here = closes among (h.elsewhere k (omega (arith, long))) in
      record {
        done = s ∷ h.done;
        are = h.are ∙ ap (λ (xs : List (Station V)). xs ++ h.done) is ∙ append_assoc rest (s ∷ []) h.done;
        disks = here.disk ∷ h.disks;
        each = (
          here.is,
          paired_map (IsClosedAt G g tells (length all) now r) (IsClosedAt G g tells (length all) after q) (length rest + 1 + 1) h.done h.disks
              (λ m x d low one. closed_on k m now after r q x d one goes (λ same. omega (arith, low, same)) (λ told. here.others told m (λ same. omega (arith, low, same))))
              (subst (λ (m : ℕ). ArePaired (IsClosedAt G g tells (length all) now r) m h.done h.disks) (ap (λ (m : ℕ). m + 1) long) h.each),
        );
        same = λ told n out.
            here.others told n (λ same. out (omega (arith, same), omega (arith, same, among)))
            ∙ h.same told n (λ in_them. (let low : length left + 1 ≤ n = in_them.0 in out (omega (arith, low, long), in_them.1)));
        ready = (rest_last G tells 1 rest s (subst (AreAtRest G tells 1) is h.ready)).0;
        elsewhere = λ n low. elsewhere_on k n r q goes (λ same. omega (arith, low, same)) (h.elsewhere n (omega (arith, low, long)));
        kept = kept_on k r q h.done s old new goes h.kept put;
      }

-- ---- all of them

module _ {V D : Type 0} (G : VaultGhosts V) (g : Ghosts D) (tells : Bool) (all : List (Station V)) (before : ℕ → Option D) where
  -- what ended the last one ended the whole
  closed_as : {T U : Type 0} (m : ℕ) (now : ℕ → Option D) (r : Result T RunFault) (q : Result U RunFault) → ((f : RunFault) → r ≡ Err f → q ≡ Err f) → ((x : T) → r ≡ Ok x → (y : U) × (q ≡ Ok y)) → (s : Station V) (d : D)
      → IsClosedAt G g tells (length all) now r m s d → IsClosedAt G g tells (length all) now q m s d
  closed_as m now (Ok x) q err ok s d one =
      let (y, is) = ok x refl in
      subst (λ p. IsClosedAt G g tells (length all) now p m s d) (sym is) (record {
        node = one.node;
        stands = one.stands;
        here = one.here;
        kept = one.kept;
        crash = one.crash;
        vault = one.vault;
        gone = gone_ok G (IsOfRun (length all)) (Unit {0}) one.node.kept.vault one.vault x y one.gone;
        held = one.held;
        serves = one.serves;
        back = one.back;
        there = one.there;
      })
  closed_as m now (Err f) q err ok s d one =
      subst (λ p. IsClosedAt G g tells (length all) now p m s d) (sym (err f refl)) (record {
        node = one.node;
        stands = one.stands;
        here = one.here;
        kept = one.kept;
        crash = one.crash;
        vault = one.vault;
        gone = gone_err G (IsOfRun (length all)) (Unit {0}) one.node.kept.vault one.vault f one.gone;
        held = tt;
        serves = tt;
        back = one.back;
        there = one.there;
      })

  pub all_closed : {T U : Type 0} (left : List (Station V)) (now : ℕ → Option D) (r : Result T RunFault) (q : Result U RunFault) (rests : Rests V) → Closing G g tells all left before now r rests → left ≡ []
      → ((f : RunFault) → r ≡ Err f → q ≡ Err f) → ((x : T) → r ≡ Ok x → (y : U) × (q ≡ Ok y)) → AreClosed G g tells (length all) all before now q
  all_closed left now r q rests h none err ok =
      let whole : h.done ≡ all = sym (h.are ∙ ap (λ (xs : List (Station V)). xs ++ h.done) none) in
      let zero_is : length left ≡ 0 = ap (λ (xs : List (Station V)). length xs) none in
      record {
        disks = h.disks;
        each =
            subst (λ (xs : List (Station V)). ArePaired (IsClosedAt G g tells (length all) now q) 1 xs h.disks) whole
            (paired_map (IsClosedAt G g tells (length all) now r) (IsClosedAt G g tells (length all) now q) 1 h.done h.disks (λ m x d low one. closed_as m now r q err ok x d one)
            (subst (λ (m : ℕ). ArePaired (IsClosedAt G g tells (length all) now r) m h.done h.disks) (ap (λ (m : ℕ). m + 1) zero_is) h.each));
        others = λ told n out. h.same told n (λ in_them. out (record { first = (let low : length left + 1 ≤ n = in_them.0 in omega (arith, low)); last = in_them.1 }));
      }

  pub all_kept : {T : Type 0} (left : List (Station V)) (now : ℕ → Option D) (r : Result T RunFault) (x : T) (rests : Rests V) → Closing G g tells all left before now r rests → left ≡ [] → r ≡ Ok x → AreRestsOf G all rests
  all_kept left now r x rests h none is =
      let whole : h.done ≡ all = sym (h.are ∙ ap (λ (xs : List (Station V)). xs ++ h.done) none) in
      subst (λ (xs : List (Station V)). AreRestsOf G xs rests) whole (subst (λ p. OnOk p (AreRestsOf G h.done rests)) is h.kept)

-- what they came to
ok_not : {T : Type 0} (x : T) (f : RunFault) → ◌≡◌ {A = Result T RunFault} (Ok x) (Err f) → ⊥
ok_not x f e = cc

err_same : {T : Type 0} (a b : RunFault) → ◌≡◌ {A = Result T RunFault} (Err a) (Err b) → a ≡ b
err_same a b e = cc

module _ {V D : Type 0} (G : VaultGhosts V) (g : Ghosts D) (tells : Bool) (all : List (Station V)) (before : ℕ → Option D) where
  pub closed_ok : {T U : Type 0} (left : List (Station V)) (now : ℕ → Option D) (r : Result T RunFault) (x : T) (y : U) (rests : Rests V) → Closing G g tells all left before now r rests → left ≡ [] → r ≡ Ok x → AreClosed {T = U} G g tells (length all) all before now (Ok y)
  closed_ok left now r x y rests h none is = all_closed G g tells all before left now r (Ok y) rests h none (λ f e. absurd (ok_not x f (sym is ∙ e))) (λ z e. (y, refl))

  pub closed_err : {T U : Type 0} (left : List (Station V)) (now : ℕ → Option D) (r : Result T RunFault) (f : RunFault) (rests : Rests V) → Closing G g tells all left before now r rests → left ≡ [] → r ≡ Err f → AreClosed {T = U} G g tells (length all) all before now (Err f)
  closed_err {T} {U} left now r f rests h none is =
      all_closed G g tells all before left now r (Err f) rests h none (λ k e. subst (λ (q : RunFault). ◌≡◌ {A = Result U RunFault} (Err f) (Err q)) (err_same f k (sym is ∙ e)) refl) (λ x e. absurd (ok_not x f (sym e ∙ is)))
