-- what notes tell of ready parts, and what a restart leaves
use Rattle.std.specs.Prelude.{cond, Bool, true, false, not, ◌||◌, filter, flat_map, Option, None, Some, is_some, map as list_map}
use Rattle.std.specs.List.{AllByRecursion}
use Rattle.std.specs.List.Sorted.{IsPermutation}
use Rattle.std.specs.Option.{option_or}
use Rattle.std.proofs.Common.{◌≡◌, ℕ, ◌+◌, ◌<◌, ◌≤◌, List, [], ◌∷◌, ◌++◌, length, refl, sym, ◌∙◌, ap, subst, arith, length-append}
use Rattle.std.proofs.lemmas.List.{append-nil}
use Rattle.std.proofs.lemmas.List.Sorted.{length_permutation}
use Rattle.alp_base.specs.declared.ids.JoinNo.{JoinNo}
use Rattle.alp_journal.specs.Deeds.{Restarts}
use Rattle.alp_journal.specs.Ids.{same_join, has_join, is_drawn}
use Rattle.alp_journal.specs.Opening.{ReadyNote, Start}
use Rattle.alp_journal.specs.Participant.{Phase, Unseen, Joining, Active, Ready, Applied, Over, live_in, restarted, phase_noted}
use Rattle.alp_journal.specs.State.{State, state_deed, opened}
use Rattle.alp_journal.proofs.IdLemmas.{same_join-true}
use Rattle.alp_worker.specs.Joins.{AreJoins, AreJoinsOf, no_joins}
use Rattle.alp_worker.specs.Lives.{live_at, join_at, is_part, is_open, AreOnce, AreSingle}
use Rattle.alp_worker.specs.Regained.{part_noted, live_noted, with_part, with_parts, joins_regained, phase_regained, AreNoted, DoNotesStand}
use Rattle.alp_worker.specs.declared.joins.Joins.{Joins}
use Rattle.alp_worker.specs.declared.live.LiveJoin.{LiveJoin}
use Rattle.alp_worker.specs.declared.live.Stage.TheVariants as stage
use Rattle.alp_worker.specs.declared.regain.ReadyPart.{ReadyPart}
use Rattle.alp_worker.proofs.DrawLemmas.{drawn_past, all_drawn-past, not_known}
use Rattle.alp_worker.proofs.ListLemmas.{filter_walk, filter_pushed}
use Rattle.alp_worker.proofs.LiveLemmas.{same_join-turned, at_pushed, once_pushed, once_filter, same_walk, single_filter}

-- ---- what is kept of the parts

or-none : {A : Type 0} (o : Option A) → option_or o None ≡ o
or-none None = refl
or-none (Some x) = refl

or-assoc : {A : Type 0} (a b c : Option A) → option_or (option_or a b) c ≡ option_or a (option_or b c)
or-assoc None b c = refl
or-assoc (Some x) b c = refl

or-some : {A : Type 0} (a b : Option A) → is_some a ≡ true → option_or a b ≡ a
or-some None b h = cc
or-some (Some x) b h = refl

none-from : {A : Type 0} (a : Option A) → is_some a ≡ false → a ≡ None
none-from None h = refl
none-from (Some x) h = cc

part_at : (ls : List LiveJoin) (p : ReadyPart) (j : JoinNo) → join_at (with_part ls p) j ≡ option_or (join_at ls j) (cond (same_join j p.join) (Some (live_noted p)) None)
part_at ls p j = go (is_some (join_at ls p.join)) refl
  where
    there : (b : Bool) → same_join j p.join ≡ b → is_some (join_at ls p.join) ≡ true → join_at ls j ≡ option_or (join_at ls j) (cond {A = Option LiveJoin} b (Some (live_noted p)) None)
    there true e h = sym (or-some (join_at ls j) (Some (live_noted p)) (ap (λ (i : JoinNo). is_some (join_at ls i)) (same_join-true j p.join e) ∙ h))
    there false e h = sym (or-none (join_at ls j))

    go : (b : Bool) → is_some (join_at ls p.join) ≡ b → join_at (cond b ls (ls ++ live_noted p ∷ [])) j ≡ option_or (join_at ls j) (cond (same_join j p.join) (Some (live_noted p)) None)
    go true h = there (same_join j p.join) refl h
    go false h = at_pushed ls (live_noted p) j

own_or : (p : ReadyPart) (ps : List ReadyPart) (j : JoinNo) (b : Bool) → same_join j p.join ≡ b
    → option_or (cond {A = Option LiveJoin} b (Some (live_noted p)) None) (live_at j (phase_regained ps j)) ≡ live_at j (cond {A = Phase} b (Ready p.trans p.client p.ts) (phase_regained ps j))
own_or p ps j true e = ap (λ (i : JoinNo). live_at i (Ready p.trans p.client p.ts)) (sym (same_join-true j p.join e))
own_or p ps j false e = refl

pub parts_at : (ls : List LiveJoin) (ps : List ReadyPart) (j : JoinNo) → join_at (with_parts ls ps) j ≡ option_or (join_at ls j) (live_at j (phase_regained ps j))
parts_at ls [] j = sym (or-none (join_at ls j))
parts_at ls (p ∷ ps) j =
    parts_at (with_part ls p) ps j
    ∙ ap (λ (o : Option LiveJoin). option_or o (live_at j (phase_regained ps j))) (part_at ls p j)
    ∙ or-assoc (join_at ls j) (cond (same_join j p.join) (Some (live_noted p)) None) (live_at j (phase_regained ps j))
    ∙ ap (option_or (join_at ls j)) (own_or p ps j (same_join j p.join) refl ∙ ap (λ (b : Bool). live_at j (cond {A = Phase} b (Ready p.trans p.client p.ts) (phase_regained ps j))) (same_join-turned j p.join))

pub parts_once : (ls : List LiveJoin) (ps : List ReadyPart) → AreOnce ls → AreOnce (with_parts ls ps)
parts_once ls [] h = h
parts_once ls (p ∷ ps) h = parts_once (with_part ls p) ps (go (is_some (join_at ls p.join)) refl)
  where
    go : (b : Bool) → is_some (join_at ls p.join) ≡ b → AreOnce (cond b ls (ls ++ live_noted p ∷ []))
    go true e = h
    go false e = once_pushed ls (live_noted p) h (none-from (join_at ls p.join) e)

one_more : (q : LiveJoin → Bool) (ls : List LiveJoin) (p : ReadyPart) → length (filter q (with_part ls p)) ≤ length (filter q ls) + length (cond (q (live_noted p)) (live_noted p ∷ []) [])
one_more q ls p = go (is_some (join_at ls p.join))
  where
    go : (b : Bool) → length (filter q (cond b ls (ls ++ live_noted p ∷ []))) ≤ length (filter q ls) + length (cond (q (live_noted p)) (live_noted p ∷ []) [])
    go true = omega arith
    go false =
        let long = ap length (filter_pushed q ls (live_noted p)) ∙ length-append (filter q ls) (cond (q (live_noted p)) (live_noted p ∷ []) []) in
        omega (arith, long)

parts_few : (q : LiveJoin → Bool) (ls : List LiveJoin) (ps : List ReadyPart) → length (filter q (with_parts ls ps)) ≤ length (filter q ls) + length (filter q (list_map live_noted ps))
parts_few q ls [] = omega arith
parts_few q ls (p ∷ ps) = go (q (live_noted p)) (one_more q ls p) (parts_few q (with_part ls p) ps)
  where
    go : (b : Bool) → length (filter q (with_part ls p)) ≤ length (filter q ls) + length (cond b (live_noted p ∷ []) []) → length (filter q (with_parts (with_part ls p) ps)) ≤ length (filter q (with_part ls p)) + length (filter q (list_map live_noted ps))
        → length (filter q (with_parts (with_part ls p) ps)) ≤ length (filter q ls) + length (cond b (live_noted p ∷ filter q (list_map live_noted ps)) (filter q (list_map live_noted ps)))
    go true one rest = omega (arith, one, rest)
    go false one rest = omega (arith, one, rest)

parts_single : (ps : List ReadyPart) → AreSingle (list_map live_noted ps) → AreSingle (with_parts [] ps)
parts_single ps h client t = let few = parts_few (is_part client t) [] ps in let one = h client t in omega (arith, few, one)

-- ---- the phases that they say

abbrev join_of : ReadyPart → JoinNo
join_of p = p.join

known-regained : (ps : List ReadyPart) (j : JoinNo) → has_join j (list_map join_of ps) ≡ false → phase_regained ps j ≡ Unseen
known-regained [] j h = refl
known-regained (p ∷ ps) j h = go (same_join p.join j) h (known-regained ps j)
  where
    go : (b : Bool) → (b || has_join j (list_map join_of ps)) ≡ false → (has_join j (list_map join_of ps) ≡ false → phase_regained ps j ≡ Unseen) → cond {A = Phase} b (Ready p.trans p.client p.ts) (phase_regained ps j) ≡ Unseen
    go true e rest = cc
    go false e rest = rest e

live-regained : (ps : List ReadyPart) (j : JoinNo) → is_some (live_in (phase_regained ps j)) ≡ true → has_join j (list_map join_of ps) ≡ true
live-regained ps j h = go (has_join j (list_map join_of ps)) refl
  where
    go : (b : Bool) → has_join j (list_map join_of ps) ≡ b → has_join j (list_map join_of ps) ≡ true
    go true e = e
    go false e = let wrong : false ≡ true = sym (ap (λ (p : Phase). is_some (live_in p)) (known-regained ps j e)) ∙ h in cc

numbers-regained : (here epoch : ℕ) (ps : List ReadyPart) → AllByRecursion (λ (p : ReadyPart). is_drawn here epoch 0 p.join.server p.join.epoch p.join.counter ≡ true) ps → AllByRecursion (λ (j : JoinNo). is_drawn here epoch 0 j.server j.epoch j.counter ≡ true) (list_map join_of ps)
numbers-regained here epoch [] h = tt
numbers-regained here epoch (p ∷ ps) h = (h.0, numbers-regained here epoch ps h.1)

regained_joins : (server epoch : ℕ) (ps : List ReadyPart) → AreNoted server epoch ps → AreJoins server epoch 0 (phase_regained ps) (list_map join_of ps) (joins_regained server epoch ps)
regained_joins server epoch ps h = record {
  server = refl;
  current = refl;
  count = refl;
  raised = h.raised;
  live = parts_at [] ps;
  once = parts_once [] ps tt;
  single = parts_single ps h.single;
  known = live-regained ps;
  apart = h.once;
  numbered = numbers-regained server epoch ps h.numbered;
  unseen = λ j e. known-regained ps j (not_known server epoch 0 j (list_map join_of ps) (numbers-regained server epoch ps h.numbered) e);
}

-- ---- a start

noted_phase : (ns : List ReadyNote) (j : JoinNo) → phase_regained (list_map part_noted ns) j ≡ phase_noted ns j
noted_phase [] j = refl
noted_phase (n ∷ ns) j = ap (cond {A = Phase} (same_join n.join j) (Ready n.trans n.client n.ts)) (noted_phase ns j)

noted_joins : (ns : List ReadyNote) → list_map join_of (list_map part_noted ns) ≡ list_map (λ (n : ReadyNote). n.join) ns
noted_joins [] = refl
noted_joins (n ∷ ns) = ap (λ js. n.join ∷ js) (noted_joins ns)

pub opened_kept : (o : Start) (server epoch : ℕ) (ps : List ReadyPart) → o.server ≡ server → o.epoch ≡ epoch → list_map part_noted o.ready ≡ ps → AreNoted server epoch ps → AreJoinsOf (opened o) (joins_regained server epoch ps)
opened_kept o server epoch ps here now noted h =
    subst (λ (n : ℕ). AreJoins n o.epoch 0 (phase_noted o.ready) (list_map (λ (n : ReadyNote). n.join) o.ready) (joins_regained server epoch ps)) (sym here)
    (subst (λ (n : ℕ). AreJoins server n 0 (phase_noted o.ready) (list_map (λ (n : ReadyNote). n.join) o.ready) (joins_regained server epoch ps)) (sym now)
    (subst (λ (f : JoinNo → Phase). AreJoins server epoch 0 f (list_map (λ (n : ReadyNote). n.join) o.ready) (joins_regained server epoch ps)) phases
    (subst (λ (js : List JoinNo). AreJoins server epoch 0 (phase_regained ps) js (joins_regained server epoch ps)) joins (regained_joins server epoch ps h))))
  where
    phases : phase_regained ps ≡ phase_noted o.ready
    phases = λ i j. (ap (λ (qs : List ReadyPart). phase_regained qs j) (sym noted) ∙ noted_phase o.ready j) i

    joins : list_map join_of ps ≡ list_map (λ (n : ReadyNote). n.join) o.ready
    joins = ap (list_map join_of) (sym noted) ∙ noted_joins o.ready

pub new_kept : (o : Start) (server epoch : ℕ) → o.server ≡ server → o.epoch ≡ epoch → o.ready ≡ [] → 0 < epoch → AreJoinsOf (opened o) (no_joins server epoch)
new_kept o server epoch here now none pos =
    opened_kept o server epoch [] here now (ap (list_map part_noted) none) (record { raised = pos; numbered = tt; once = refl; single = λ client t. omega arith })

-- ---- a restart

abbrev passing : (LiveJoin → Bool) → Option LiveJoin → Option LiveJoin
passing p None = None
passing p (Some l) = cond (p l) (Some l) None

filter_at : (p : LiveJoin → Bool) (ls : List LiveJoin) (i : JoinNo) → AreOnce ls → join_at (filter p ls) i ≡ passing p (join_at ls i)
filter_at p [] i h = refl
filter_at p (l ∷ ls) i h = go (p l) refl (same_join i l.join) refl (filter_at p ls i h.1)
  where
    go : (c : Bool) → p l ≡ c → (b : Bool) → same_join i l.join ≡ b → join_at (filter p ls) i ≡ passing p (join_at ls i)
        → join_at (cond c (l ∷ filter p ls) (filter p ls)) i ≡ passing p (cond {A = Option LiveJoin} b (Some l) (join_at ls i))
    go true e true f rest = ap (λ (x : Bool). cond {A = Option LiveJoin} x (Some l) (join_at (filter p ls) i)) f ∙ sym (ap (λ (x : Bool). cond {A = Option LiveJoin} x (Some l) None) e)
    go true e false f rest = ap (λ (x : Bool). cond {A = Option LiveJoin} x (Some l) (join_at (filter p ls) i)) f ∙ rest
    go false e true f rest =
        rest ∙ ap (passing p) (ap (join_at ls) (same_join-true i l.join f) ∙ h.0) ∙ sym (ap (λ (x : Bool). cond {A = Option LiveJoin} x (Some l) None) e)
    go false e false f rest = rest

abbrev is_voted : LiveJoin → Bool
is_voted l = not (is_open l.stage)

voted_live : (j : JoinNo) (p : Phase) → passing is_voted (live_at j p) ≡ live_at j (restarted p)
voted_live j (Joining t client who) = refl
voted_live j (Active t client who) = refl
voted_live j (Ready t client ts) = refl
voted_live j Unseen = refl
voted_live j (Applied t stamp) = refl
voted_live j Over = refl

live_restarted : (p : Phase) → is_some (live_in (restarted p)) ≡ true → is_some (live_in p) ≡ true
live_restarted (Joining t client who) h = refl
live_restarted (Active t client who) h = refl
live_restarted (Ready t client ts) h = refl
live_restarted Unseen h = h
live_restarted (Applied t stamp) h = h
live_restarted Over h = h

module _ (s : State) (before : Joins) (h : AreJoinsOf s before) (epoch : ℕ) (later : s.ids.epoch < epoch) (ps : List ReadyPart) (stand : DoNotesStand ps s.phases) where
  same_left : (j : JoinNo) → join_at (with_parts [] ps) j ≡ join_at (filter is_voted before.lives) j
  same_left j = parts_at [] ps j ∙ stand j ∙ sym (filter_at is_voted before.lives j h.once ∙ ap (passing is_voted) (h.live j) ∙ voted_live j (s.phases j))

  single_left : AreSingle (with_parts [] ps)
  single_left client t =
      let same = length_permutation _ _ (subst (λ us. IsPermutation us (filter (is_part client t) (filter is_voted before.lives))) (filter_walk (is_part client t) (with_parts [] ps))
      (subst (λ us. IsPermutation (flat_map (λ (l : LiveJoin). cond (is_part client t l) (l ∷ []) []) (with_parts [] ps)) us) (filter_walk (is_part client t) (filter is_voted before.lives))
      (same_walk (λ (l : LiveJoin). cond (is_part client t l) (l ∷ []) []) (with_parts [] ps) (filter is_voted before.lives) (parts_once [] ps tt) (once_filter is_voted before.lives h.once) same_left))) in
      let one = single_filter is_voted before.lives h.single client t in
      omega (arith, same, one)

  unseen_left : (j : JoinNo) → is_drawn s.holder.server epoch 0 j.server j.epoch j.counter ≡ false → restarted (s.phases j) ≡ Unseen
  unseen_left j e = ap restarted (h.unseen j (go (is_drawn s.holder.server s.ids.epoch s.ids.joins j.server j.epoch j.counter) refl))
    where
      go : (b : Bool) → is_drawn s.holder.server s.ids.epoch s.ids.joins j.server j.epoch j.counter ≡ b → is_drawn s.holder.server s.ids.epoch s.ids.joins j.server j.epoch j.counter ≡ false
      go true f = let wrong : true ≡ false = sym (drawn_past s.holder.server s.ids.epoch s.ids.joins epoch 0 j later f) ∙ e in cc
      go false f = f

  pub restart_kept : (server clock : ℕ) → s.holder.server ≡ server → AreJoinsOf (state_deed s (Restarts epoch clock)) (joins_regained server epoch ps)
  restart_kept server clock here =
      subst (λ (js : List JoinNo). AreJoins s.holder.server epoch 0 (λ j. restarted (s.phases j)) js (joins_regained server epoch ps)) (sym (append-nil s.joined)) (record {
        server = sym here;
        current = refl;
        count = refl;
        raised = omega (arith, later);
        live = λ j. parts_at [] ps j ∙ stand j;
        once = parts_once [] ps tt;
        single = single_left;
        known = λ j e. h.known j (live_restarted (s.phases j) e);
        apart = h.apart;
        numbered = all_drawn-past s.holder.server s.ids.epoch s.ids.joins epoch 0 s.joined later h.numbered;
        unseen = unseen_left;
      })
