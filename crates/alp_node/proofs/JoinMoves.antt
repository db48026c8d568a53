-- joins that go on, or end, and what goes with them
use Rattle.std.specs.Prelude.{cond, Bool, true, false, ◌&&◌, find, Option, None, Some, is_some}
use Rattle.std.specs.Option.{option_map}
use Rattle.std.specs.FinMap as map
use Rattle.std.proofs.Common.{◌≡◌, ℕ, List, [], ◌∷◌, refl, sym, ◌∙◌, ap, subst}
use Rattle.alp_base.specs.declared.ids.JoinNo.{JoinNo}
use Rattle.alp_base.specs.declared.ids.TransId.{TransId}
use Rattle.alp_journal.specs.Coordinator.{Fate, client_of}
use Rattle.alp_journal.specs.Ids.{same_trans, same_join}
use Rattle.alp_journal.specs.Participant.{Phase, Unseen, Joining, Active, Ready, Applied, Over}
use Rattle.alp_journal.proofs.IdLemmas.{same_trans-true, same_trans-itself, same_join-true}
use Rattle.alp_coord.specs.declared.coordinator.Coordinator.{Coordinator}
use Rattle.alp_coord.specs.Coordinators.{fate_in}
use Rattle.alp_worker.specs.declared.joins.Joins.{Joins}
use Rattle.alp_worker.specs.declared.live.LiveJoin.{LiveJoin}
use Rattle.alp_worker.specs.declared.live.Stage.{Stage}
use Rattle.alp_worker.specs.declared.live.Stage.TheVariants as stage
use Rattle.alp_worker.specs.declared.live.Step.TheVariants as step
use Rattle.alp_worker.specs.Again.{is_other}
use Rattle.alp_worker.specs.Joins.{with_entered}
use Rattle.alp_worker.specs.Lives.{phase_of, live_at, is_at, join_at, AreOnce, stage_after, staged_one, staged, without}
use Rattle.alp_worker.proofs.LiveLemmas.{same_join-itself, staged_at, stays_if, without_at}
use Rattle.alp_node.specs.Paired.{is_in, ActsFor, IsItsJoin, IsPartOf, IsPairedWith, HasPart, ArePaired}
use Rattle.alp_node.specs.Totals.{LiveMap}
use Rattle.alp_node.specs.declared.lives.Live.{Live}
use Rattle.alp_node.proofs.MapLemmas.{get_put}

-- ---- what is found

pub same_some : {X : Type 0} (x y : X) → Some x ≡ Some y → x ≡ y
same_some {X} x y e = ap (λ (o : Option X). from o) e
  where
    from : Option X → X
    from None = x
    from (Some z) = z

-- whether anything is there
pub some_mapped : {X Y : Type 0} (f : X → Y) (o : Option X) → is_some (option_map f o) ≡ is_some o
some_mapped f None = refl
some_mapped f (Some x) = refl

pub none_there : {X : Type 0} (o : Option X) → is_some o ≡ false → o ≡ None
none_there None e = refl
none_there (Some x) e = let wrong : true ≡ false = e in cc

found_so : (p : LiveJoin → Bool) (ls : List LiveJoin) (x : LiveJoin) → find p ls ≡ Some x → p x ≡ true
found_so p [] x e = let wrong : None ≡ Some x = e in cc
found_so p (l ∷ ls) x e = go (found_so p ls x) (p l) refl e
  where
    go : (find p ls ≡ Some x → p x ≡ true) → (b : Bool) → p l ≡ b → cond {A = Option LiveJoin} b (Some l) (find p ls) ≡ Some x → p x ≡ true
    go rest true is e = ap p (sym (same_some l x e)) ∙ is
    go rest false is e = rest e

-- who is found has that number
pub found_number : (ls : List LiveJoin) (j : JoinNo) (x : LiveJoin) → join_at ls j ≡ Some x → j ≡ x.join
found_number ls j x e = same_join-true j x.join (found_so (is_at j) ls x e)

-- its phase is the journal's
pub phase_back : (j : JoinNo) (p : Phase) (x : LiveJoin) → live_at j p ≡ Some x → p ≡ phase_of x
phase_back j (Joining t c w) x e = ap phase_of (same_some _ x e)
phase_back j (Active t c w) x e = ap phase_of (same_some _ x e)
phase_back j (Ready t c ts) x e = ap phase_of (same_some _ x e)
phase_back j Unseen x e = let wrong : None ≡ Some x = e in cc
phase_back j (Applied t stamp) x e = let wrong : None ≡ Some x = e in cc
phase_back j Over x e = let wrong : None ≡ Some x = e in cc

-- ---- one goes on

pub record WasStaged (j : JoinNo) (f : Stage → Stage) (ls : List LiveJoin) (i : JoinNo) (x : LiveJoin) : Type 0 where
  pub was : LiveJoin
  pub there : join_at ls i ≡ Some was
  pub now : x ≡ staged_one j f was

pub was_staged : (j : JoinNo) (f : Stage → Stage) (ls : List LiveJoin) (i : JoinNo) (x : LiveJoin) → join_at (staged j f ls) i ≡ Some x → WasStaged j f ls i x
was_staged j f ls i x e = go (join_at ls i) refl (sym (staged_at j i f ls) ∙ e)
  where
    go : (o : Option LiveJoin) → join_at ls i ≡ o → option_map (staged_one j f) o ≡ Some x → WasStaged j f ls i x
    go None is e = let wrong : None ≡ Some x = e in cc
    go (Some y) is e = record { was = y; there = is; now = sym (same_some (staged_one j f y) x e) }

pub staged_there : (j : JoinNo) (f : Stage → Stage) (ls : List LiveJoin) (i : JoinNo) (y : LiveJoin) → join_at ls i ≡ Some y → join_at (staged j f ls) i ≡ Some (staged_one j f y)
staged_there j f ls i y e = staged_at j i f ls ∙ ap (option_map (staged_one j f)) e

-- which of another number is as it was
pub staged_other : (j : JoinNo) (f : Stage → Stage) (y : LiveJoin) → is_at j y ≡ false → staged_one j f y ≡ y
staged_other j f y e = ap (λ (b : Bool). cond {A = LiveJoin} b (record y { stage = f y.stage }) y) e

pub staged_its : (j : JoinNo) (f : Stage → Stage) (y : LiveJoin) → is_at j y ≡ true → staged_one j f y ≡ record y { stage = f y.stage }
staged_its j f y e = ap (λ (b : Bool). cond {A = LiveJoin} b (record y { stage = f y.stage }) y) e

pub staged_trans : (j : JoinNo) (f : Stage → Stage) (y : LiveJoin) → (staged_one j f y).trans ≡ y.trans
staged_trans j f y = go (is_at j y)
  where
    go : (b : Bool) → (cond {A = LiveJoin} b (record y { stage = f y.stage }) y).trans ≡ y.trans
    go true = refl
    go false = refl

pub staged_client : (j : JoinNo) (f : Stage → Stage) (y : LiveJoin) → (staged_one j f y).client ≡ y.client
staged_client j f y = go (is_at j y)
  where
    go : (b : Bool) → (cond {A = LiveJoin} b (record y { stage = f y.stage }) y).client ≡ y.client
    go true = refl
    go false = refl

-- ---- one ends

pub was_there : (j : JoinNo) (p : LiveJoin → Bool) (ls : List LiveJoin) → AreOnce ls → (i : JoinNo) (x : LiveJoin) → join_at (without j p ls) i ≡ Some x → join_at ls i ≡ Some x
was_there j p ls once i x e = go (join_at ls i) refl (sym (without_at j i p ls once) ∙ e)
  where
    go : (o : Option LiveJoin) → join_at ls i ≡ o → stays_if p j o ≡ Some x → o ≡ Some x
    go None is e = e
    go (Some y) is e = stay (is_at j y && p y) e
      where
        stay : (b : Bool) → cond {A = Option LiveJoin} b None (Some y) ≡ Some x → Some y ≡ Some x
        stay true e = let wrong : None ≡ Some x = e in cc
        stay false e = e

pub still_there : (j : JoinNo) (p : LiveJoin → Bool) (ls : List LiveJoin) → AreOnce ls → (i : JoinNo) (y : LiveJoin) → join_at ls i ≡ Some y → same_join j i ≡ false → join_at (without j p ls) i ≡ Some y
still_there j p ls once i y e away =
    without_at j i p ls once ∙ ap (stays_if p j) e
    ∙ ap (λ (b : Bool). cond {A = Option LiveJoin} (b && p y) None (Some y)) (ap (same_join j) (sym (found_number ls i y e)) ∙ away)

-- ---- parts

-- the part is of no join
abbrev pub IsUnjoined : List LiveJoin → JoinNo → Type 0
IsUnjoined ls j = (x : LiveJoin) → join_at ls j ≡ Some x → is_in x.stage ≡ false

-- a part of another join stands with that where the join is as it was
pub part_stands : (k now : Joins) (t : TransId) (l : Live) (f : Fate) (o : Option JoinNo) → ((i : JoinNo) (y : LiveJoin) → o ≡ Some i → join_at k.lives i ≡ Some y → join_at now.lives i ≡ Some y) → IsPartOf k t l f o → IsPartOf now t l f o
part_stands k now t l f None same h = h
part_stands k now t l f (Some i) same h = (h.0, go (join_at k.lives i) refl h.1)
  where
    go : (o : Option LiveJoin) → join_at k.lives i ≡ o → IsItsJoin t l o → IsItsJoin t l (join_at now.lives i)
    go None is its = absurd its
    go (Some y) is its = subst (IsItsJoin t l) (sym (same i y refl is)) its

-- of whom a part is, by its join
pub joined_by : (servers here : ℕ) (c : Coordinator) (k : Joins) (lives : LiveMap) (t : TransId) (l : Live) (j : JoinNo) → ArePaired servers here c k lives → map.get lives t ≡ Some l → l.join ≡ Some j → (x : LiveJoin) × (join_at k.lives j ≡ Some x) × (x.trans ≡ t) × (x.client ≡ l.client) × (is_in x.stage ≡ true) × ActsFor x.stage l.who
joined_by servers here c k lives t l j h live join = go (join_at k.lives j) refl (from l.join join (subst (IsPairedWith k t (fate_in c t)) live (h.parts t)))
  where
    from : (o : Option JoinNo) → o ≡ Some j → IsPartOf k t l (fate_in c t) o → IsItsJoin t l (join_at k.lives j)
    from None e p = let wrong : None ≡ Some j = e in cc
    from (Some i) e p = subst (λ (n : JoinNo). IsItsJoin t l (join_at k.lives n)) (same_some i j e) p.1

    go : (o : Option LiveJoin) → join_at k.lives j ≡ o → IsItsJoin t l o → (x : LiveJoin) × (join_at k.lives j ≡ Some x) × (x.trans ≡ t) × (x.client ≡ l.client) × (is_in x.stage ≡ true) × ActsFor x.stage l.who
    go None is p = absurd p
    go (Some x) is p = (x, is, p.0, p.1, p.2, p.3)

-- ---- a join is let in

module _ (servers here : ℕ) (c : Coordinator) (k : Joins) (lives : LiveMap) (h : ArePaired servers here c k lives) (j : JoinNo) (y : LiveJoin) (who : List ℕ) (l : Live) where
  abbrev entered_at : Stage → Stage
  entered_at = stage_after step.Enter

  pub paired_entered : join_at k.lives j ≡ Some y → y.stage ≡ stage.Joining who → map.get lives y.trans ≡ None → l.client ≡ y.client → l.who ≡ Some who → l.join ≡ Some j → ArePaired servers here c (with_entered k j) (map.insert lives y.trans l)
  paired_entered there asks none client acts join = record {
    parts = λ u. subst (IsPairedWith (with_entered k j) u (fate_in c u)) (sym (get_put lives y.trans l u)) (part u (same_trans u y.trans) refl);
    joins = λ i x at. has i x (was_staged j entered_at k.lives i x at);
    others = λ i x at. other i x (was_staged j entered_at k.lives i x at);
    own = h.own;
  }
    where
      its : is_at j y ≡ true
      its = ap (same_join j) (sym (found_number k.lives j y there)) ∙ same_join-itself j

      now : join_at (with_entered k j).lives j ≡ Some (record y { stage = stage.Active who })
      now = staged_there j entered_at k.lives j y there ∙ ap Some (staged_its j entered_at y its) ∙ ap (λ (s : Stage). Some (record y { stage = entered_at s })) asks

      nobody : client_of (fate_in c y.trans) ≡ None
      nobody = subst (IsPairedWith k y.trans (fate_in c y.trans)) none (h.parts y.trans)

      mine : IsPartOf (with_entered k j) y.trans l (fate_in c y.trans) (Some j)
      mine = (nobody, subst (IsItsJoin y.trans l) (sym now) (refl, sym client, refl, acts))

      apart : (u : TransId) (m : Live) (i : JoinNo) → map.get lives u ≡ Some m → m.join ≡ Some i → same_trans u y.trans ≡ false → same_join j i ≡ false
      apart u m i live of away = go (same_join j i) refl
        where
          go : (b : Bool) → same_join j i ≡ b → b ≡ false
          go false e = refl
          go true e =
              let x = joined_by servers here c k lives u m i h live of in
              let same : y ≡ x.0 = same_some y x.0 (sym there ∙ ap (join_at k.lives) (same_join-true j i e) ∙ x.1) in
              let wrong : true ≡ false = sym (same_trans-itself u) ∙ ap (same_trans u) (sym x.2 ∙ ap (λ (z : LiveJoin). z.trans) (sym same)) ∙ away in
              cc

      old : (u : TransId) (o : Option Live) → map.get lives u ≡ o → same_trans u y.trans ≡ false → IsPairedWith k u (fate_in c u) o → IsPairedWith (with_entered k j) u (fate_in c u) o
      old u None live away p = p
      old u (Some m) live away p = part_stands k (with_entered k j) u m (fate_in c u) m.join
          (λ i z of at. staged_there j entered_at k.lives i z at ∙ ap Some (staged_other j entered_at z (ap (same_join j) (sym (found_number k.lives i z at)) ∙ apart u m i live of away))) p

      part : (u : TransId) (b : Bool) → same_trans u y.trans ≡ b → IsPairedWith (with_entered k j) u (fate_in c u) (cond {A = Option Live} b (Some l) (map.get lives u))
      part u true e = subst (λ (v : TransId). IsPairedWith (with_entered k j) v (fate_in c v) (Some l)) (sym (same_trans-true u y.trans e)) (subst (IsPartOf (with_entered k j) y.trans l (fate_in c y.trans)) (sym join) mine)
      part u false e = old u (map.get lives u) refl e (h.parts u)

      has : (i : JoinNo) (x : LiveJoin) → WasStaged j entered_at k.lives i x → HasPart (map.insert lives y.trans l) i x
      has i x w = go (same_join j i) refl
        where
          go : (b : Bool) → same_join j i ≡ b → HasPart (map.insert lives y.trans l) i x
          go true e in_ =
              let at : w.was ≡ y = same_some w.was y (sym w.there ∙ ap (join_at k.lives) (sym (same_join-true j i e)) ∙ there) in
              let its_trans : x.trans ≡ y.trans = ap (λ (z : LiveJoin). z.trans) w.now ∙ staged_trans j entered_at w.was ∙ ap (λ (z : LiveJoin). z.trans) at in
              (l, get_put lives y.trans l x.trans ∙ ap (λ (b : Bool). cond {A = Option Live} b (Some l) (map.get lives x.trans)) (ap (λ (v : TransId). same_trans v y.trans) its_trans ∙ same_trans-itself y.trans), join ∙ ap Some (same_join-true j i e))
          go false e in_ =
              let same : x ≡ w.was = w.now ∙ staged_other j entered_at w.was (ap (same_join j) (sym (found_number k.lives i w.was w.there)) ∙ e) in
              let p = h.joins i w.was w.there (ap (λ (z : LiveJoin). is_in z.stage) (sym same) ∙ in_) in
              (p.0, get_put lives y.trans l x.trans ∙ keep (same_trans x.trans y.trans) refl ∙ ap (λ (z : LiveJoin). map.get lives z.trans) same ∙ p.1, p.2)
            where
              keep : (b : Bool) → same_trans x.trans y.trans ≡ b → cond {A = Option Live} b (Some l) (map.get lives x.trans) ≡ map.get lives x.trans
              keep false d = refl
              keep true d =
                  let same : x ≡ w.was = w.now ∙ staged_other j entered_at w.was (ap (same_join j) (sym (found_number k.lives i w.was w.there)) ∙ e) in
                  let p = h.joins i w.was w.there (ap (λ (z : LiveJoin). is_in z.stage) (sym same) ∙ in_) in
                  let wrong : None ≡ Some p.0 = sym none ∙ ap (map.get lives) (sym (same_trans-true x.trans y.trans d)) ∙ ap (λ (z : LiveJoin). map.get lives z.trans) same ∙ p.1 in
                  cc

      other : (i : JoinNo) (x : LiveJoin) → WasStaged j entered_at k.lives i x → is_other servers here x.trans.server ≡ true
      other i x w = ap (λ (t : TransId). is_other servers here t.server) (ap (λ (z : LiveJoin). z.trans) w.now ∙ staged_trans j entered_at w.was) ∙ h.others i w.was w.there

-- ---- a join that was not let in is over

pub paired_quit : (servers here : ℕ) (c : Coordinator) (k : Joins) (lives : LiveMap) (j : JoinNo) (p : LiveJoin → Bool) → AreOnce k.lives → IsUnjoined k.lives j → ArePaired servers here c k lives → ArePaired servers here c (record k { lives = without j p k.lives }) lives
paired_quit servers here c k lives j p once out h = record {
  parts = λ u. part u (map.get lives u) refl (h.parts u);
  joins = λ i x at. h.joins i x (was_there j p k.lives once i x at);
  others = λ i x at. h.others i x (was_there j p k.lives once i x at);
  own = h.own;
}
  where
    now : Joins
    now = record k { lives = without j p k.lives }

    apart : (u : TransId) (m : Live) (i : JoinNo) (z : LiveJoin) → map.get lives u ≡ Some m → m.join ≡ Some i → join_at k.lives i ≡ Some z → same_join j i ≡ false
    apart u m i z live of at = go (same_join j i) refl
      where
        go : (b : Bool) → same_join j i ≡ b → b ≡ false
        go false e = refl
        go true e =
            let x = joined_by servers here c k lives u m i h live of in
            let wrong : true ≡ false = sym x.4 ∙ out x.0 (ap (join_at k.lives) (same_join-true j i e) ∙ x.1) in
            cc

    part : (u : TransId) (o : Option Live) → map.get lives u ≡ o → IsPairedWith k u (fate_in c u) o → IsPairedWith now u (fate_in c u) o
    part u None live q = q
    part u (Some m) live q = part_stands k now u m (fate_in c u) m.join (λ i z of at. still_there j p k.lives once i z at (apart u m i z live of at)) q
