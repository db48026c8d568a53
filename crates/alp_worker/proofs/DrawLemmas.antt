-- a number that was not drawn before
use Rattle.std.specs.Prelude.{cond, Bool, true, false, not, ◌&&◌, ◌||◌, ◌==◌, nat_lt, nat_le, Option, None, Some, is_some}
use Rattle.std.specs.List.{AllByRecursion}
use Rattle.std.specs.Option.{option_or}
use Rattle.std.proofs.Common.{◌≡◌, ℕ, ◌+◌, ◌<◌, ◌≤◌, List, [], ◌∷◌, ◌++◌, refl, sym, ◌∙◌, ap, subst, arith, eq-eqb, inl, inr, ◌⊎◌}
use Rattle.std.proofs.lemmas.Bool.{and_parts, and_from, eqb-true, ltb-true, leb-true, lt-ltb, le-leb, lt-leb, le-ltb, not_from_false, not-true, or_cases}
use Rattle.alp_base.specs.declared.ids.JoinNo.{JoinNo}
use Rattle.alp_base.specs.declared.ids.TransId.{TransId}
use Rattle.alp_journal.specs.Deeds.{Joins as JoinsOf}
use Rattle.alp_journal.specs.Ids.{same_join, has_join, is_drawn}
use Rattle.alp_journal.specs.Laws.{are_joins_apart}
use Rattle.alp_journal.specs.Moves.{next_join}
use Rattle.alp_journal.specs.Participant.{Phase, Unseen, live_in, drawn}
use Rattle.alp_journal.specs.State.{State, state_deed}
use Rattle.alp_journal.proofs.IdLemmas.{same_join-true}
use Rattle.alp_worker.specs.Joins.{AreJoins, AreJoinsOf, next_of, joining, with_drawn}
use Rattle.alp_worker.specs.Lives.{live_at, join_at, part_of}
use Rattle.alp_worker.specs.declared.joins.Joins.{Joins}
use Rattle.alp_worker.specs.declared.live.LiveJoin.{LiveJoin}
use Rattle.alp_worker.proofs.LiveLemmas.{same_join-turned, at_pushed, once_pushed, single_pushed}

-- ---- numbers

-- what was drawn stays so with more draws, and in a later epoch
pub drawn_later : (here epoch last more : ℕ) (j : JoinNo) → last ≤ more → is_drawn here epoch last j.server j.epoch j.counter ≡ true → is_drawn here epoch more j.server j.epoch j.counter ≡ true
drawn_later here epoch last more j le h =
    let parts = and_parts (j.server == here && nat_lt 0 j.epoch && nat_lt 0 j.counter) (nat_lt j.epoch epoch || (j.epoch == epoch && nat_le j.counter last)) h in
    and_from (j.server == here && nat_lt 0 j.epoch && nat_lt 0 j.counter) (nat_lt j.epoch epoch || (j.epoch == epoch && nat_le j.counter more)) parts.0
    (go (nat_lt j.epoch epoch) refl parts.1)
  where
    go : (b : Bool) → nat_lt j.epoch epoch ≡ b → (b || (j.epoch == epoch && nat_le j.counter last)) ≡ true → (b || (j.epoch == epoch && nat_le j.counter more)) ≡ true
    go true e f = refl
    go false e f =
        let both = and_parts (j.epoch == epoch) (nat_le j.counter last) f in
        let few = leb-true j.counter last both.1 in
        and_from (j.epoch == epoch) (nat_le j.counter more) both.0 (le-leb j.counter more (omega (arith, few, le)))

pub drawn_past : (here epoch last now more : ℕ) (j : JoinNo) → epoch < now → is_drawn here epoch last j.server j.epoch j.counter ≡ true → is_drawn here now more j.server j.epoch j.counter ≡ true
drawn_past here epoch last now more j lt h =
    let parts = and_parts (j.server == here && nat_lt 0 j.epoch && nat_lt 0 j.counter) (nat_lt j.epoch epoch || (j.epoch == epoch && nat_le j.counter last)) h in
    and_from (j.server == here && nat_lt 0 j.epoch && nat_lt 0 j.counter) (nat_lt j.epoch now || (j.epoch == now && nat_le j.counter more)) parts.0
    (ap (λ (b : Bool). b || (j.epoch == now && nat_le j.counter more)) (earlier (or_cases (nat_lt j.epoch epoch) (j.epoch == epoch && nat_le j.counter last) parts.1)))
  where
    earlier : ((nat_lt j.epoch epoch ≡ true) ⊎ ((j.epoch == epoch && nat_le j.counter last) ≡ true)) → nat_lt j.epoch now ≡ true
    earlier (inl e) = let less = ltb-true j.epoch epoch e in lt-ltb j.epoch now (omega (arith, less, lt))
    earlier (inr e) =
        let both = and_parts (j.epoch == epoch) (nat_le j.counter last) e in
        let same = eqb-true j.epoch epoch both.0 in
        lt-ltb j.epoch now (omega (arith, same, lt))

abbrev next_at : (here epoch last : ℕ) → JoinNo
next_at here epoch last = record { server = here; epoch = epoch; counter = last + 1 }

next_undrawn : (here epoch last : ℕ) → is_drawn here epoch last here epoch (last + 1) ≡ false
next_undrawn here epoch last =
    ap (λ (b : Bool). here == here && nat_lt 0 epoch && nat_lt 0 (last + 1) && (b || (epoch == epoch && nat_le (last + 1) last))) (le-ltb epoch epoch (omega arith))
    ∙ ap (λ (b : Bool). here == here && nat_lt 0 epoch && nat_lt 0 (last + 1) && (epoch == epoch && b)) (lt-leb (last + 1) last (omega arith))
    ∙ none (here == here && nat_lt 0 epoch && nat_lt 0 (last + 1)) (epoch == epoch)
  where
    none : (a b : Bool) → (a && (b && false)) ≡ false
    none true true = refl
    none true false = refl
    none false b = refl

next_drawn : (here epoch last : ℕ) → 0 < epoch → is_drawn here epoch (last + 1) here epoch (last + 1) ≡ true
next_drawn here epoch last pos =
    and_from (here == here && nat_lt 0 epoch && nat_lt 0 (last + 1)) (nat_lt epoch epoch || (epoch == epoch && nat_le (last + 1) (last + 1)))
    (and_from (here == here && nat_lt 0 epoch) (nat_lt 0 (last + 1)) (and_from (here == here) (nat_lt 0 epoch) (eq-eqb here here refl) (lt-ltb 0 epoch pos)) (lt-ltb 0 (last + 1) (omega arith)))
    (either (nat_lt epoch epoch) (epoch == epoch && nat_le (last + 1) (last + 1)) (and_from (epoch == epoch) (nat_le (last + 1) (last + 1)) (eq-eqb epoch epoch refl) (le-leb (last + 1) (last + 1) (omega arith))))
  where
    either : (a b : Bool) → b ≡ true → (a || b) ≡ true
    either true b h = refl
    either false b h = h

-- ---- the joins that are known

all_drawn-later : (here epoch last more : ℕ) (js : List JoinNo) → last ≤ more → AllByRecursion (λ (j : JoinNo). is_drawn here epoch last j.server j.epoch j.counter ≡ true) js → AllByRecursion (λ (j : JoinNo). is_drawn here epoch more j.server j.epoch j.counter ≡ true) js
all_drawn-later here epoch last more [] le h = tt
all_drawn-later here epoch last more (j ∷ js) le h = (drawn_later here epoch last more j le h.0, all_drawn-later here epoch last more js le h.1)

pub all_drawn-past : (here epoch last now more : ℕ) (js : List JoinNo) → epoch < now → AllByRecursion (λ (j : JoinNo). is_drawn here epoch last j.server j.epoch j.counter ≡ true) js → AllByRecursion (λ (j : JoinNo). is_drawn here now more j.server j.epoch j.counter ≡ true) js
all_drawn-past here epoch last now more [] lt h = tt
all_drawn-past here epoch last now more (j ∷ js) lt h = (drawn_past here epoch last now more j lt h.0, all_drawn-past here epoch last now more js lt h.1)

all-push : (P : JoinNo → Type 0) (js : List JoinNo) (j : JoinNo) → AllByRecursion P js → P j → AllByRecursion P (js ++ j ∷ [])
all-push P [] j h p = (p, tt)
all-push P (i ∷ js) j h p = (h.0, all-push P js j h.1 p)

-- one that was not drawn is not known
pub not_known : (here epoch last : ℕ) (j : JoinNo) (js : List JoinNo) → AllByRecursion (λ (j : JoinNo). is_drawn here epoch last j.server j.epoch j.counter ≡ true) js → is_drawn here epoch last j.server j.epoch j.counter ≡ false → has_join j js ≡ false
not_known here epoch last j [] h e = refl
not_known here epoch last j (i ∷ js) h e = go (same_join i j) refl (not_known here epoch last j js h.1 e)
  where
    go : (b : Bool) → same_join i j ≡ b → has_join j js ≡ false → (b || has_join j js) ≡ false
    go true f rest = let wrong : true ≡ false = sym h.0 ∙ ap (λ (x : JoinNo). is_drawn here epoch last x.server x.epoch x.counter) (same_join-true i j f) ∙ e in cc
    go false f rest = rest

has-pushed : (i : JoinNo) (js : List JoinNo) (j : JoinNo) → has_join i (js ++ j ∷ []) ≡ (has_join i js || same_join j i)
has-pushed i [] j = turned (same_join j i)
  where
    turned : (b : Bool) → (b || false) ≡ b
    turned true = refl
    turned false = refl
has-pushed i (x ∷ js) j = go (same_join x i) (has-pushed i js j)
  where
    go : (b : Bool) → has_join i (js ++ j ∷ []) ≡ (has_join i js || same_join j i) → (b || has_join i (js ++ j ∷ [])) ≡ ((b || has_join i js) || same_join j i)
    go true e = refl
    go false e = e

apart-pushed : (js : List JoinNo) (j : JoinNo) → are_joins_apart js ≡ true → has_join j js ≡ false → are_joins_apart (js ++ j ∷ []) ≡ true
apart-pushed [] j h e = refl
apart-pushed (i ∷ js) j h e =
    let parts = and_parts (not (has_join i js)) (are_joins_apart js) h in
    let away = both_false (same_join i j) (has_join j js) e in
    and_from (not (has_join i (js ++ j ∷ []))) (are_joins_apart (js ++ j ∷ []))
    (not_from_false (has_join i (js ++ j ∷ [])) (has-pushed i js j ∙ ap (λ (b : Bool). b || same_join j i) (not-true (has_join i js) parts.0) ∙ same_join-turned j i ∙ away.0))
    (apart-pushed js j parts.1 away.1)
  where
    both_false : (a b : Bool) → (a || b) ≡ false → (a ≡ false) × (b ≡ false)
    both_false true b f = cc
    both_false false b f = (refl, f)

-- ---- the draw

module _ (here epoch last : ℕ) (phases : JoinNo → Phase) (joined : List JoinNo) (k : Joins) (h : AreJoins here epoch last phases joined k) (t : TransId) (client : ℕ) (who : List ℕ) (none : part_of client t k.lives ≡ None) where
  abbrev next : JoinNo
  next = record { server = here; epoch = epoch; counter = last + 1 }

  pub its_next : next_of k ≡ next
  its_next = λ i. record { server = h.server i; epoch = h.current i; counter = h.count i + 1 }

  new_unseen : phases next ≡ Unseen
  new_unseen = h.unseen next (next_undrawn here epoch last)

  new_absent : join_at k.lives next ≡ None
  new_absent = h.live next ∙ ap (live_at next) new_unseen

  abbrev lives_then : List LiveJoin
  lives_then = k.lives ++ joining next t client who ∷ []

  abbrev phases_then : JoinNo → Phase
  phases_then i = cond {A = Phase} (same_join next i) (drawn t client who (phases i)) (phases i)

  live_then : (i : JoinNo) (b : Bool) → same_join next i ≡ b → join_at lives_then i ≡ live_at i (cond {A = Phase} b (drawn t client who (phases i)) (phases i))
  live_then i true e =
      at_pushed k.lives (joining next t client who) i
      ∙ ap (λ (o : Option LiveJoin). option_or o (cond (same_join i next) (Some (joining next t client who)) None)) (ap (join_at k.lives) (sym its) ∙ new_absent)
      ∙ ap (λ (b : Bool). cond {A = Option LiveJoin} b (Some (joining next t client who)) None) (same_join-turned i next ∙ e)
      ∙ ap (λ (j : JoinNo). Some (joining j t client who)) its
      ∙ sym (ap (λ (p : Phase). live_at i (drawn t client who p)) (ap phases (sym its) ∙ new_unseen))
    where
      its : next ≡ i
      its = same_join-true next i e
  live_then i false e =
      at_pushed k.lives (joining next t client who) i
      ∙ ap (λ (b : Bool). option_or (join_at k.lives i) (cond {A = Option LiveJoin} b (Some (joining next t client who)) None)) (same_join-turned i next ∙ e)
      ∙ or-none (join_at k.lives i) ∙ h.live i
    where
      or-none : (o : Option LiveJoin) → option_or o None ≡ o
      or-none None = refl
      or-none (Some l) = refl

  known_then : (i : JoinNo) (b : Bool) → same_join next i ≡ b → is_some (live_in (cond {A = Phase} b (drawn t client who (phases i)) (phases i))) ≡ true → has_join i (joined ++ next ∷ []) ≡ true
  known_then i true e f = has-pushed i joined next ∙ ap (λ (b : Bool). has_join i joined || b) e ∙ or-true (has_join i joined)
    where
      or-true : (b : Bool) → (b || true) ≡ true
      or-true true = refl
      or-true false = refl
  known_then i false e f = has-pushed i joined next ∙ ap (λ (b : Bool). b || same_join next i) (h.known i f)

  unseen_then : (i : JoinNo) (b : Bool) → same_join next i ≡ b → is_drawn here epoch (last + 1) i.server i.epoch i.counter ≡ false → cond {A = Phase} b (drawn t client who (phases i)) (phases i) ≡ Unseen
  unseen_then i true e f =
      let its : next ≡ i = same_join-true next i e in
      let wrong : true ≡ false = sym (next_drawn here epoch last h.raised) ∙ ap (λ (j : JoinNo). is_drawn here epoch (last + 1) j.server j.epoch j.counter) its ∙ f in
      cc
  unseen_then i false e f = h.unseen i (earlier (is_drawn here epoch last i.server i.epoch i.counter) refl)
    where
      earlier : (b : Bool) → is_drawn here epoch last i.server i.epoch i.counter ≡ b → is_drawn here epoch last i.server i.epoch i.counter ≡ false
      earlier true g = let wrong : true ≡ false = sym (drawn_later here epoch last (last + 1) i (omega arith) g) ∙ f in cc
      earlier false g = g

  pub drawn_joins : AreJoins here epoch (last + 1) phases_then (joined ++ next ∷ []) (record k { drawn = k.drawn + 1; lives = lives_then })
  drawn_joins = record {
    server = h.server;
    current = h.current;
    count = ap (λ (n : ℕ). n + 1) h.count;
    raised = h.raised;
    live = λ i. live_then i (same_join next i) refl;
    once = once_pushed k.lives (joining next t client who) h.once new_absent;
    single = single_pushed k.lives (joining next t client who) h.single none;
    known = λ i. known_then i (same_join next i) refl;
    apart = apart-pushed joined next h.apart (not_known here epoch last next joined h.numbered (next_undrawn here epoch last));
    numbered = all-push (λ (j : JoinNo). is_drawn here epoch (last + 1) j.server j.epoch j.counter ≡ true) joined next (all_drawn-later here epoch last (last + 1) joined (omega arith) h.numbered) (next_drawn here epoch last h.raised);
    unseen = λ i. unseen_then i (same_join next i) refl;
  }

pub draws_kept : (s : State) (k : Joins) (t : TransId) (client : ℕ) (who : List ℕ) → AreJoinsOf s k → part_of client t k.lives ≡ None → AreJoinsOf (state_deed s (JoinsOf (next_join s) t client who)) (with_drawn k t client who)
draws_kept s k t client who h none =
    subst (λ (j : JoinNo). AreJoinsOf (state_deed s (JoinsOf (next_join s) t client who)) (record k { drawn = k.drawn + 1; lives = k.lives ++ joining j t client who ∷ [] }))
    (sym (its_next s.holder.server s.ids.epoch s.ids.joins s.phases s.joined k h t client who none))
    (drawn_joins s.holder.server s.ids.epoch s.ids.joins s.phases s.joined k h t client who none)

pub next_said : (s : State) (k : Joins) → AreJoinsOf s k → next_of k ≡ next_join s
next_said s k h = λ i. record { server = h.server i; epoch = h.current i; counter = h.count i + 1 }
