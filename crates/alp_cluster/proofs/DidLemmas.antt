-- What occurs at the servers of a run, one thing behind the other.
use Rattle.std.specs.Prelude.{slice_get, Option, Some, Result, Ok, Err}
use Rattle.std.proofs.Common.{◌≡◌, ℕ, ◌+◌, ◌≤◌, List, [], ◌∷◌, ◌++◌, length, refl, sym, ◌∙◌, ap, subst, arith}
use Rattle.alp_node.specs.NodeStates.{NodeState}
use Rattle.alp_vault.specs.declared.vault.Vault.{Ghosts}
use Rattle.alp_course.specs.Courses.{Occurrence, Occurs, AreCourse}
use Rattle.alp_course.specs.Languages.{Language, Nothing, Just, Then, Each}
use Rattle.alp_course.specs.Plays.{to_come}
use Rattle.alp_course.proofs.LanguageLemmas.{Has, then_word, cut_first, cut_second, cut_map, cut_just, each_cut, each_next}
use Rattle.alp_cluster.specs.Messages.{DidSay}
use Rattle.alp_cluster.specs.Servers.{HasGoneBy}
use Rattle.alp_cluster.specs.Station.{standing, HasVault}
use Rattle.alp_cluster.specs.Stations.{AreOn, AreLater, Passes, Crashes, Go, Did, DidSome, IsManned, IsOfRun, LeavesOf, HaveGone, IsNoFurther, AreCalmSince, course_of}
use Rattle.alp_cluster.specs.declared.fault.RunFault.{RunFault}
use Rattle.alp_cluster.specs.declared.fault.RunFault.TheVariants as fault
use Rattle.alp_cluster.specs.declared.server.Server.{Server}
use Rattle.alp_cluster.specs.declared.station.Station.{Station}
use Rattle.alp_cluster.specs.declared.stations.Stations.{Stations}
use Rattle.alp_cluster.proofs.TakenLemmas.{untouched}
use Rattle.alp_cluster.proofs.GoneLemmas.{gone_nothing, gone_then, gone_ok, gone_memory, gone_err, gone_where}

module _ {V : Type 0} (G : Ghosts V) where
  -- ---- how the servers go on

  pub calm_none : (s : Stations V) → AreCalmSince G s s
  calm_none s n calm = (calm, refl)

  pub calm_both : (a b c : Stations V) → AreCalmSince G a b → AreCalmSince G b c → AreCalmSince G a c
  calm_both a b c h k n calm = (let late = k n calm in let early = h n late.0 in (early.0, late.1 ∙ early.1))

  pub later_none : (s : Stations V) → AreOn G s → AreLater G s s
  later_none s on = record { on = on; openings = refl; reached = λ n k a h. h; calm = calm_none s }

  pub later_then : (a b c : Stations V) → AreLater G a b → AreLater G b c → AreLater G a c
  later_then a b c h k = record { on = k.on; openings = k.openings ∙ h.openings; reached = λ n j x old. k.reached n j x (h.reached n j x old); calm = calm_both a b c h.calm k.calm }

  pub passes_append : (hs js : List Occurrence) (a b c : Stations V) → Passes G a hs b → Passes G b js c → Passes G a (hs ++ js) c
  passes_append [] js a b c h k = subst (λ (z : Stations V). Passes G z js c) h k
  passes_append (x ∷ hs) js a b c h k = (h.0, h.1, h.2, passes_append hs js h.0 b c h.3 k)

  -- and so their course goes on
  pub passes_course : (hs : List Occurrence) (a b : Stations V) → Passes G a hs b → AreCourse (course_of G a) hs (course_of G b)
  passes_course [] a b h = ap (course_of G) h
  passes_course (x ∷ hs) a b h = (course_of G h.0, h.1, passes_course hs h.0 b h.3)

  pub go_none : (s : Stations V) → AreOn G s → Go G [] s s
  go_none s on = record { later = later_none s on; passes = refl }

  pub go_then : (hs js : List Occurrence) (a b c : Stations V) → Go G hs a b → Go G js b c → Go G (hs ++ js) a c
  go_then hs js a b c h k = record { later = later_then a b c h.later k.later; passes = passes_append hs js a b c h.passes k.passes }

  pub go_one : (x : Occurrence) (a b : Stations V) → AreLater G a b → Occurs (course_of G a) x (course_of G b) → Crashes G x a b → Go G (x ∷ []) a b
  go_one x a b later occurs crashes = record { later = later; passes = (b, occurs, crashes, refl) }

  -- memory was wanting, and nothing was done
  pub none_further : (s : Stations V) → IsNoFurther G s s
  none_further s = record { course = refl; each = λ i x n there stood. record { station = x; there = there; node = n; stands = stood; untouched = untouched G n }; openings = refl; calm = calm_none s }

  -- ---- what they did

  pub did_nothing : (s : Stations V) → AreOn G s → Did G Nothing s s
  did_nothing s on = record { hs = []; word = refl; goes = go_none s on }

  pub did_just : (x : Occurrence) (a b : Stations V) → Go G (x ∷ []) a b → Did G (Just (x ∷ [])) a b
  did_just x a b goes = record { hs = x ∷ []; word = refl; goes = goes }

  pub did_map : (A B : Language) (a b : Stations V) → ((xs : List Occurrence) → A xs → B xs) → Did G A a b → Did G B a b
  did_map A B a b make d = record { hs = d.hs; word = make d.hs d.word; goes = d.goes }

  pub did_then : (A B : Language) (a b c : Stations V) → Did G A a b → Did G B b c → Did G (Then A B) a c
  did_then A B a b c h k = record { hs = h.hs ++ k.hs; word = then_word A B h.hs k.hs h.word k.word; goes = go_then h.hs k.hs a b c h.goes k.goes }

  pub some_map : (A B : Language) (f : RunFault) (a b : Stations V) → ((xs : List Occurrence) → A xs → B xs) → DidSome G A f a b → DidSome G B f a b
  some_map A B f a b make d = record { at_end = d.at_end; hs = d.hs; due = d.due; cut = cut_map A B d.hs d.due make d.cut; goes = d.goes; ends = d.ends; left = d.left }

  -- memory was wanting before the one thing
  pub some_wanting : (x : Occurrence) (s : Stations V) → AreOn G s → DidSome G (Just (x ∷ [])) fault.OutOfMemory s s
  some_wanting x s on = record { at_end = s; hs = []; due = to_come x; cut = cut_just x; goes = go_none s on; ends = tt; left = none_further s }

  pub some_first : (A B : Language) (f : RunFault) (a b : Stations V) → Has B → DidSome G A f a b → DidSome G (Then A B) f a b
  some_first A B f a b has d = record { at_end = d.at_end; hs = d.hs; due = d.due; cut = cut_first A B d.hs d.due d.cut has; goes = d.goes; ends = d.ends; left = d.left }

  pub some_second : (A B : Language) (f : RunFault) (a b c : Stations V) → Did G A a b → DidSome G B f b c → DidSome G (Then A B) f a c
  some_second A B f a b c h d = record {
    at_end = d.at_end;
    hs = h.hs ++ d.hs;
    due = d.due;
    cut = cut_second A B h.hs d.hs d.due h.word d.cut;
    goes = go_then h.hs d.hs a b d.at_end h.goes d.goes;
    ends = d.ends;
    left = d.left;
  }

  -- of each number up to one, as a loop goes on
  pub each_none : (A : ℕ → Language) (s : Stations V) → AreOn G s → Did G (Each A 0) s s
  each_none A s on = did_nothing s on

  pub each_one : (A : ℕ → Language) (i : ℕ) (a b c : Stations V) → Did G (Each A i) a b → Did G (A (i + 1)) b c → Did G (Each A (i + 1)) a c
  each_one A i a b c h k = did_map (Then (Each A i) (A (i + 1))) (Each A (i + 1)) a c (each_next A i) (did_then (Each A i) (A (i + 1)) a b c h k)

  pub each_some : (A : ℕ → Language) → ((n : ℕ) → Has (A n)) → (f : RunFault) (i n : ℕ) (a b c : Stations V) → i + 1 ≤ n → Did G (Each A i) a b → DidSome G (A (i + 1)) f b c → DidSome G (Each A n) f a c
  each_some A has f i n a b c low h d =
      let k : DidSome G (Each A (i + 1)) f a c = some_map (Then (Each A i) (A (i + 1))) (Each A (i + 1)) f a c (each_next A i) (some_second (Each A i) (A (i + 1)) f a b c h d) in
      record { at_end = k.at_end; hs = k.hs; due = k.due; cut = each_cut A has k.hs k.due (i + 1) n low k.cut; goes = k.goes; ends = k.ends; left = k.left }

  -- where it is told whether something was brought
  pub say_did : (A : Language) (some : _) (a b : Stations V) → DidSay G A some a b → Did G A a b
  say_did A some a b d = record { hs = d.hs; word = d.word; goes = d.goes }

  -- ---- their vaults

  -- the one that stands there
  pub manned : (s : Stations V) → AreOn G s → (i : ℕ) (x : Station V) → slice_get s.all.items i ≡ Some x → IsManned G (length s.all.items) (i + 1) x
  manned s on i x there = on.each i x there

  vault_of : (o : Option (Server V)) (n : NodeState V) (v : V) → o ≡ standing n → HasVault o v → v ≡ n.kept.vault
  vault_of o n v is has = subst (λ (z : Option (Server V)). HasVault z v) is has

  leaves_same : {T : Type 0} (P : Type 0) (s : Stations V) (i : ℕ) (x : Station V) (n : NodeState V) (r : Result T RunFault) → slice_get s.all.items i ≡ Some x → x.server ≡ standing n → HasGoneBy G (IsOfRun (length s.all.items)) P n.kept.vault n.kept.vault r
      → LeavesOf G (length s.all.items) P n (slice_get s.all.items i) r
  leaves_same P s i x n r there stood gone = record { station = x; there = there; vault = n.kept.vault; its = subst (λ (o : Option (Server V)). HasVault o n.kept.vault) (sym stood) refl; gone = gone }

  -- nothing was done
  pub gone_none : {T : Type 0} (P : Type 0) (s : Stations V) (x : T) → HaveGone G P s s (Ok x)
  gone_none P s x = record { many = refl; each = λ i y n there stood. leaves_same P s i y n (Ok x) there stood (gone_nothing G (IsOfRun (length s.all.items)) P n.kept.vault (Ok x) tt tt refl) }

  pub gone_wanting : {T : Type 0} (P : Type 0) (s : Stations V) → HaveGone {T = T} G P s s (Err fault.OutOfMemory)
  gone_wanting P s = record { many = refl; each = λ i y n there stood. leaves_same P s i y n (Err fault.OutOfMemory) there stood (gone_nothing G (IsOfRun (length s.all.items)) P n.kept.vault (Err fault.OutOfMemory) tt tt refl) }

  -- one call went well, and then the next came to this
  pub gone_all : {T U : Type 0} (P Q R : Type 0) (a b c : Stations V) (x : T) (r : Result U RunFault) → (R → P) → (R → Q) → AreOn G b → HaveGone {T = T} G P a b (Ok x) → HaveGone G Q b c r → HaveGone G R a c r
  gone_all {T} {U} P Q R a b c x r first second on h k = record { many = k.many ∙ h.many; each = each }
    where
      each : (i : ℕ) (y : Station V) (n : NodeState V) → slice_get a.all.items i ≡ Some y → y.server ≡ standing n → LeavesOf G (length a.all.items) R n (slice_get c.all.items i) r
      each i y n there stood =
          let one : LeavesOf {T = T} G (length a.all.items) P n (slice_get b.all.items i) (Ok x) = h.each i y n there stood in
          let mid : IsManned G (length b.all.items) (i + 1) one.station = on.each i one.station one.there in
          let two : LeavesOf G (length b.all.items) Q mid.node (slice_get c.all.items i) r = k.each i one.station mid.node one.there mid.keeps.stands in
          let same : one.vault ≡ mid.node.kept.vault = vault_of one.station.server mid.node one.vault mid.keeps.stands one.its in
          let later : HasGoneBy G (IsOfRun (length a.all.items)) Q one.vault two.vault r =
          subst (λ (v : V). HasGoneBy G (IsOfRun (length a.all.items)) Q v two.vault r) (sym same) (subst (λ (m : ℕ). HasGoneBy G (IsOfRun m) Q mid.node.kept.vault two.vault r) h.many two.gone) in
          record {
            station = two.station;
            there = two.there;
            vault = two.vault;
            its = two.its;
            gone = gone_then G (IsOfRun (length a.all.items)) P Q R n.kept.vault one.vault two.vault x r first second one.gone later;
          }

  pub gone_both : {T U : Type 0} (P : Type 0) (a b c : Stations V) (x : T) (r : Result U RunFault) → AreOn G b → HaveGone {T = T} G P a b (Ok x) → HaveGone G P b c r → HaveGone G P a c r
  gone_both P a b c x r on h k = gone_all P P P a b c x r (λ p. p) (λ p. p) on h k

  leaves_map : {T U : Type 0} (P Q : Type 0) (count : ℕ) (n : NodeState V) (now : Option (Station V)) (r : Result T RunFault) (q : Result U RunFault) → ((v : V) → HasGoneBy G (IsOfRun count) P n.kept.vault v r → HasGoneBy G (IsOfRun count) Q n.kept.vault v q)
      → LeavesOf G count P n now r → LeavesOf G count Q n now q
  leaves_map P Q count n now r q make l = record { station = l.station; there = l.there; vault = l.vault; its = l.its; gone = make l.vault l.gone }

  pub gone_map : {T U : Type 0} (P Q : Type 0) (a b : Stations V) (r : Result T RunFault) (q : Result U RunFault)
      → ((n : NodeState V) (v : V) → HasGoneBy G (IsOfRun (length a.all.items)) P n.kept.vault v r → HasGoneBy G (IsOfRun (length a.all.items)) Q n.kept.vault v q) → HaveGone G P a b r → HaveGone G Q a b q
  gone_map P Q a b r q make h = record { many = h.many; each = λ i y n there stood. leaves_map P Q (length a.all.items) n (slice_get b.all.items i) r q (make n) (h.each i y n there stood) }

  -- what is made of an answer is no other fault
  pub all_ok : {T U : Type 0} (P : Type 0) (a b : Stations V) (x : T) (y : U) → HaveGone {T = T} G P a b (Ok x) → HaveGone {T = U} G P a b (Ok y)
  all_ok P a b x y h = gone_map P P a b (Ok x) (Ok y) (λ n v g. gone_ok G (IsOfRun (length a.all.items)) P n.kept.vault v x y g) h

  pub all_memory : {T U : Type 0} (P : Type 0) (a b : Stations V) (x : T) → HaveGone {T = T} G P a b (Ok x) → HaveGone {T = U} G P a b (Err fault.OutOfMemory)
  all_memory {T} {U} P a b x h = gone_map {T = T} {U = U} P P a b (Ok x) (Err fault.OutOfMemory) (λ n v g. gone_memory G (IsOfRun (length a.all.items)) P n.kept.vault v x g) h

  pub all_err : {T U : Type 0} (P : Type 0) (a b : Stations V) (f : RunFault) → HaveGone {T = T} G P a b (Err f) → HaveGone {T = U} G P a b (Err f)
  all_err {T} {U} P a b f h = gone_map {T = T} {U = U} P P a b (Err f) (Err f) (λ n v g. gone_err G (IsOfRun (length a.all.items)) P n.kept.vault v f g) h

  pub all_where : {T : Type 0} (P Q : Type 0) (a b : Stations V) (r : Result T RunFault) → (Q → P) → HaveGone G P a b r → HaveGone G Q a b r
  all_where P Q a b r make h = gone_map P Q a b r r (λ n v g. gone_where G (IsOfRun (length a.all.items)) P Q n.kept.vault v r make g) h

  -- the fault of a call is handed on
  pub all_handed : {T U : Type 0} (P : Type 0) (a b : Stations V) (f : RunFault) (r : Result U RunFault) → HaveGone {T = T} G P a b (Err f) → r ≡ Err f → HaveGone {T = U} G P a b r
  all_handed {T} {U} P a b f r h is = subst (λ (q : Result U RunFault). HaveGone {T = U} G P a b q) (sym is) (all_err {T = T} {U = U} P a b f h)

  -- one call went well, and the fault of the next is handed on
  pub all_on : {T U W : Type 0} (P : Type 0) (a b c : Stations V) (x : T) (f : RunFault) (r : Result W RunFault) → AreOn G b → HaveGone {T = T} G P a b (Ok x) → HaveGone {T = U} G P b c (Err f) → r ≡ Err f → HaveGone {T = W} G P a c r
  all_on {T} {U} {W} P a b c x f r on h k is = subst (λ (q : Result W RunFault). HaveGone {T = W} G P a c q) (sym is) (gone_both {T = T} {U = W} P a b c x (Err f) on h (all_err {T = U} {U = W} P b c f k))
