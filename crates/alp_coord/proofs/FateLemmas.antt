-- what becomes of transactions as a coordinator changes
use Rattle.std.specs.Prelude.{cond, Bool, true, false, ◌==◌, ◌&&◌, nat_lt, Option, None, Some, slice_get, slice_set, map as list_map}
use Rattle.std.specs.Option.{option_map}
use Rattle.std.specs.FinMap as map
use Rattle.std.proofs.Common.{◌≡◌, ℕ, ◌+◌, ◌-◌, ◌<◌, ◌≤◌, List, [], ◌∷◌, ◌++◌, length, length-append, le_refl, refl, sym, ◌∙◌, ap, subst, arith, eq-eqb}
use Rattle.std.proofs.lemmas.Bool.{eqb-true, and_parts, ltb-true, ltb-false}
use Rattle.std.proofs.lemmas.Option.{slice_get_past, slice_get_within}
use Rattle.alp_base.specs.declared.ids.TransId.{TransId}
use Rattle.alp_base.specs.declared.ids.JoinNo.{JoinNo}
use Rattle.alp_journal.specs.Ids.{same_trans}
use Rattle.alp_journal.specs.Coordinator.{Fate, Undrawn, Running, Finishing, Committed, Forgotten, Ended}
use Rattle.alp_journal.specs.Coordinator as journal
use Rattle.alp_journal.proofs.IdLemmas.{same_trans-itself, same_trans-true}
use Rattle.alp_coord.specs.declared.members.Member.{Member}
use Rattle.alp_coord.specs.declared.course.Course.{Course}
use Rattle.alp_coord.specs.declared.course.Stage.{Stage}
use Rattle.alp_coord.specs.declared.course.Stage.TheVariants as stage
use Rattle.alp_coord.specs.declared.begun.Settled.{Settled}
use Rattle.alp_coord.specs.declared.begun.Settled.TheVariants as settled
use Rattle.alp_coord.specs.declared.coordinator.Coordinator.{Coordinator}
use Rattle.alp_coord.specs.Begun.{settled_at, with_settled, fate_settled}
use Rattle.alp_coord.specs.Courses.{CourseMap, changed_at, fate_of, begun_course, is_standing}
use Rattle.alp_coord.specs.Coordinators.{settled_in, course_in, if_standing, is_open, if_open, fate_known, fate_in, settle_in, next_id, last_id, id_at}
use Rattle.alp_coord.proofs.MapLemmas.{put-there, put-elsewhere, gone-there, gone-elsewhere, changed-there, changed-elsewhere, at_same, at_other, at_last, at_before, apart}

-- ---- what a fate rests on

-- the course that counts, and the fate, by what stands for the transaction in the map
abbrev pub course_by : Coordinator → TransId → Option Course → Option Course
course_by s t c = cond {A = Option Course} (t.epoch == s.epoch) (if_open (settled_in s t) c) (if_standing c)

abbrev pub fate_by : Coordinator → TransId → Option Course → Fate
fate_by s t c = fate_known t (course_by s t c) (settled_in s t)

open_is : (x : Settled) → is_open x ≡ true → x ≡ settled.Open
open_is settled.Open is = refl
open_is (settled.Committed ts) is = cc
open_is (settled.Forgotten ts ms) is = cc
open_is (settled.Ended e) is = cc

open_there : (x : Option Settled) (o : Option Course) (c : Course) → if_open x o ≡ Some c → (x ≡ Some settled.Open) × (o ≡ Some c)
open_there None o c is = cc
open_there (Some x) o c is = go (is_open x) refl is
  where
    go : (b : Bool) → is_open x ≡ b → cond {A = Option Course} b o None ≡ Some c → (Some x ≡ Some settled.Open) × (o ≡ Some c)
    go true e i = (ap Some (open_is x e), i)
    go false e i = cc

standing_there : (o : Option Course) (c : Course) → if_standing o ≡ Some c → (is_standing c.stage c.members ≡ true) × (o ≡ Some c)
standing_there None c is = cc
standing_there (Some d) c is = go (is_standing d.stage d.members) refl is
  where
    go : (b : Bool) → is_standing d.stage d.members ≡ b → cond {A = Option Course} b (Some d) None ≡ Some c → (is_standing c.stage c.members ≡ true) × (Some d ≡ Some c)
    go true e i = (let same : d ≡ c = cc in ap (λ (x : Course). is_standing x.stage x.members) (sym same) ∙ e, i)
    go false e i = cc

-- a course that counts stands in the map; it began in this epoch and is open, or it stands
pub data Shows (s : Coordinator) (t : TransId) (c : Course) : Type 0 where
  now : (t.epoch == s.epoch) ≡ true → settled_in s t ≡ Some settled.Open → Shows s t c
  older : (t.epoch == s.epoch) ≡ false → is_standing c.stage c.members ≡ true → Shows s t c

pub course_shows : (s : Coordinator) (t : TransId) (c : Course) → course_in s t ≡ Some c → Shows s t c × (map.get s.courses t ≡ Some c)
course_shows s t c is = go (t.epoch == s.epoch) refl is
  where
    go : (b : Bool) → (t.epoch == s.epoch) ≡ b → cond {A = Option Course} b (if_open (settled_in s t) (map.get s.courses t)) (if_standing (map.get s.courses t)) ≡ Some c → Shows s t c × (map.get s.courses t ≡ Some c)
    go true e i = (let both = open_there (settled_in s t) (map.get s.courses t) c i in (now e both.0, both.1))
    go false e i = (let both = standing_there (map.get s.courses t) c i in (older e both.0, both.1))

-- so does one that takes its place
pub shows_course : (s : Coordinator) (t : TransId) (c d : Course) → Shows s t c → (is_standing c.stage c.members ≡ true → is_standing d.stage d.members ≡ true) → course_by s t (Some d) ≡ Some d
shows_course s t c d (now e opens) stands =
    ap (λ (b : Bool). cond {A = Option Course} b (if_open (settled_in s t) (Some d)) (if_standing (Some d))) e ∙ ap (λ (x : Option Settled). if_open x (Some d)) opens
shows_course s t c d (older e is) stands =
    ap (λ (b : Bool). cond {A = Option Course} b (if_open (settled_in s t) (Some d)) (if_standing (Some d))) e ∙ ap (λ (b : Bool). cond {A = Option Course} b (Some d) None) (stands is)

pub fate_course : (s : Coordinator) (t : TransId) (c : Course) → course_in s t ≡ Some c → fate_in s t ≡ fate_of t c
fate_course s t c is = ap (λ (o : Option Course). fate_known t o (settled_in s t)) is

pub fate_none : (s : Coordinator) (t : TransId) → course_in s t ≡ None → fate_in s t ≡ fate_settled t (settled_in s t)
fate_none s t is = ap (λ (o : Option Course). fate_known t o (settled_in s t)) is

-- one that runs or finishes began in this epoch
pub early_open : (s : Coordinator) (t : TransId) (c : Course) → course_in s t ≡ Some c → is_standing c.stage c.members ≡ false → settled_in s t ≡ Some settled.Open
early_open s t c is early = go (course_shows s t c is).0
  where
    go : Shows s t c → settled_in s t ≡ Some settled.Open
    go (now e opens) = opens
    go (older e stands) = let wrong : true ≡ false = sym stands ∙ early in cc

-- ---- one course goes on

module _ (R : Fate → Fate → Type 0) (itself : (f : Fate) → R f f) where
  pub changed_fates : (s : Coordinator) (t : TransId) (c : Course) (f : Course → Course) (move : Fate → Fate) → course_in s t ≡ Some c
      → (is_standing c.stage c.members ≡ true → is_standing (f c).stage (f c).members ≡ true) → R (fate_of t (f c)) (move (fate_of t c))
      → (u : TransId) → R (fate_in (record s { courses = changed_at f s.courses t }) u) (cond {A = Fate} (same_trans t u) (move (fate_in s u)) (fate_in s u))
  changed_fates s t c f move is stands moves u = go (same_trans t u) refl
    where
      there : fate_by s t (map.get (changed_at f s.courses t) t) ≡ fate_of t (f c)
      there =
          ap (fate_by s t) (changed-there f s.courses t c (course_shows s t c is).1)
          ∙ ap (λ (o : Option Course). fate_known t o (settled_in s t)) (shows_course s t c (f c) (course_shows s t c is).0 stands)

      go : (b : Bool) → same_trans t u ≡ b → R (fate_by s u (map.get (changed_at f s.courses t) u)) (cond {A = Fate} b (move (fate_in s u)) (fate_in s u))
      go true e =
          subst (λ (v : TransId). R (fate_by s v (map.get (changed_at f s.courses t) v)) (move (fate_in s v))) (same_trans-true t u e)
          (subst (λ (x : Fate). R x (move (fate_in s t))) (sym there) (subst (λ (x : Fate). R (fate_of t (f c)) (move x)) (sym (fate_course s t c is)) moves))
      go false e = subst (λ (o : Option Course). R (fate_by s u o) (fate_in s u)) (sym (changed-elsewhere f s.courses t u e)) (itself (fate_in s u))

  -- nothing changes where the move moves nothing
  pub still_fates : (s : Coordinator) (t : TransId) (move : Fate → Fate) → move (fate_in s t) ≡ fate_in s t → (u : TransId) → R (fate_in s u) (cond {A = Fate} (same_trans t u) (move (fate_in s u)) (fate_in s u))
  still_fates s t move still u = go (same_trans t u) refl
    where
      go : (b : Bool) → same_trans t u ≡ b → R (fate_in s u) (cond {A = Fate} b (move (fate_in s u)) (fate_in s u))
      go true e =
          subst (λ (v : TransId). R (fate_in s v) (move (fate_in s v))) (same_trans-true t u e)
          (subst (λ (x : Fate). R (fate_in s t) x) (sym still) (itself (fate_in s t)))
      go false e = itself (fate_in s u)

-- ---- one is settled

-- what is known of its place
pub record IsPlaced (s : Coordinator) (t : TransId) : Type 0 where
  pub server_is : t.server ≡ s.server
  pub epoch_is : t.epoch ≡ s.epoch
  pub first : 0 < t.counter
  pub within : t.counter ≤ length s.begun

pub settled_placed : (s : Coordinator) (t : TransId) (x : Settled) → settled_in s t ≡ Some x → IsPlaced s t
settled_placed s t x is = go (t.server == s.server && t.epoch == s.epoch) refl is
  where
    at : (b : Bool) → nat_lt 0 t.counter ≡ b → cond {A = Option Settled} b (slice_get s.begun (t.counter - 1)) None ≡ Some x → (0 < t.counter) × (t.counter ≤ length s.begun)
    at true e i =
        let some : 0 < t.counter = ltb-true 0 t.counter e in
        let low : t.counter - 1 < length s.begun = slice_get_within s.begun (t.counter - 1) x i in
        (some, omega (arith, some, low))
    at false e i = cc

    go : (b : Bool) → (t.server == s.server && t.epoch == s.epoch) ≡ b → cond {A = Option Settled} b (settled_at s.begun t.counter) None ≡ Some x → IsPlaced s t
    go true e i =
        let both = and_parts (t.server == s.server) (t.epoch == s.epoch) e in
        let place = at (nat_lt 0 t.counter) refl i in
        record {
          server_is = eqb-true t.server s.server both.0;
          epoch_is = eqb-true t.epoch s.epoch both.1;
          first = place.0;
          within = place.1;
        }
    go false e i = cc

here_now : (s : Coordinator) (t : TransId) → IsPlaced s t → (t.server == s.server && t.epoch == s.epoch) ≡ true
here_now s t p = λ i. eq-eqb t.server s.server p.server_is i && eq-eqb t.epoch s.epoch p.epoch_is i

some_counter : (n : ℕ) → 0 < n → nat_lt 0 n ≡ true
some_counter n some = go (nat_lt 0 n) refl
  where
    go : (b : Bool) → nat_lt 0 n ≡ b → b ≡ true
    go true e = refl
    go false e = (let none : n ≤ 0 = ltb-false 0 n e in absurd (omega (arith, some, none)))

-- what is known of one after its place was set
settled_there : (s : Coordinator) (t : TransId) (x : Settled) → IsPlaced s t → settled_in (settle_in s t x) t ≡ Some x
settled_there s t x p =
    let place : t.counter - 1 < length s.begun = omega (arith, p.first, p.within) in
    ap (λ (b : Bool). cond {A = Option Settled} b (settled_at (with_settled s.begun t.counter x) t.counter) None) (here_now s t p)
    ∙ ap (λ (b : Bool). cond {A = Option Settled} b (slice_get (with_settled s.begun t.counter x) (t.counter - 1)) None) (some_counter t.counter p.first)
    ∙ at_same s.begun (t.counter - 1) x place

-- and of the others
settled_elsewhere : (s : Coordinator) (t : TransId) (x : Settled) (u : TransId) → IsPlaced s t → same_trans t u ≡ false → settled_in (settle_in s t x) u ≡ settled_in s u
settled_elsewhere s t x u p away = go (u.server == s.server && u.epoch == s.epoch) refl
  where
    at : (b : Bool) → nat_lt 0 u.counter ≡ b → (u.counter ≡ t.counter → ⊥) → cond {A = Option Settled} b (slice_get (with_settled s.begun t.counter x) (u.counter - 1)) None ≡ cond {A = Option Settled} b (slice_get s.begun (u.counter - 1)) None
    at true e other =
        let some : 0 < u.counter = ltb-true 0 u.counter e in
        at_other s.begun (t.counter - 1) (u.counter - 1) x (λ same. other (omega (arith, some, p.first, same)))
    at false e other = refl

    go : (b : Bool) → (u.server == s.server && u.epoch == s.epoch) ≡ b → cond {A = Option Settled} b (settled_at (with_settled s.begun t.counter x) u.counter) None ≡ cond {A = Option Settled} b (settled_at s.begun u.counter) None
    go true e =
        let both = and_parts (u.server == s.server) (u.epoch == s.epoch) e in
        at (nat_lt 0 u.counter) refl (apart t u (p.server_is ∙ sym (eqb-true u.server s.server both.0)) (p.epoch_is ∙ sym (eqb-true u.epoch s.epoch both.1)) away)
    go false e = refl

open_none : (x : Option Settled) → if_open x None ≡ None
open_none None = refl
open_none (Some x) = go (is_open x)
  where
    go : (b : Bool) → cond {A = Option Course} b None None ≡ None
    go true = refl
    go false = refl

-- without a course
pub none_by : (s : Coordinator) (t : TransId) → fate_by s t None ≡ fate_settled t (settled_in s t)
none_by s t = go (t.epoch == s.epoch)
  where
    go : (b : Bool) → fate_known t (cond {A = Option Course} b (if_open (settled_in s t) None) (if_standing None)) (settled_in s t) ≡ fate_settled t (settled_in s t)
    go true = ap (λ (o : Option Course). fate_known t o (settled_in s t)) (open_none (settled_in s t))
    go false = refl

pub settle_fates : (s : Coordinator) (t : TransId) (x : Settled) → settled_in s t ≡ Some settled.Open → (u : TransId) → fate_in (settle_in s t x) u ≡ cond {A = Fate} (same_trans t u) (fate_settled u (Some x)) (fate_in s u)
settle_fates s t x is u = go (same_trans t u) refl
  where
    p : IsPlaced s t
    p = settled_placed s t settled.Open is

    go : (b : Bool) → same_trans t u ≡ b → fate_in (settle_in s t x) u ≡ cond {A = Fate} b (fate_settled u (Some x)) (fate_in s u)
    go true e =
        subst (λ (v : TransId). fate_in (settle_in s t x) v ≡ fate_settled v (Some x)) (same_trans-true t u e)
        (ap (fate_by (settle_in s t x) t) (gone-there s.courses t) ∙ none_by (settle_in s t x) t ∙ ap (fate_settled t) (settled_there s t x p))
    go false e =
        ap (fate_by (settle_in s t x) u) (gone-elsewhere s.courses t u e)
        ∙ ap (λ (y : Option Settled). fate_known u (cond {A = Option Course} (u.epoch == s.epoch) (if_open y (map.get s.courses u)) (if_standing (map.get s.courses u))) y) (settled_elsewhere s t x u p e)

-- ---- one of an older epoch goes

pub gone_fates : (s : Coordinator) (t : TransId) → (t.epoch == s.epoch) ≡ false → (u : TransId) → fate_in (record s { courses = map.remove s.courses t }) u ≡ cond {A = Fate} (same_trans t u) Undrawn (fate_in s u)
gone_fates s t old u = go (same_trans t u) refl
  where
    none : (b : Bool) → cond {A = Option Settled} (b && t.epoch == s.epoch) (settled_at s.begun t.counter) None ≡ None
    none true = ap (λ (c : Bool). cond {A = Option Settled} c (settled_at s.begun t.counter) None) old
    none false = refl

    go : (b : Bool) → same_trans t u ≡ b → fate_by s u (map.get (map.remove s.courses t) u) ≡ cond {A = Fate} b Undrawn (fate_in s u)
    go true e =
        subst (λ (v : TransId). fate_by s v (map.get (map.remove s.courses t) v) ≡ Undrawn) (same_trans-true t u e)
        (ap (fate_by s t) (gone-there s.courses t) ∙ none_by s t ∙ ap (fate_settled t) (none (t.server == s.server)))
    go false e = ap (fate_by s u) (gone-elsewhere s.courses t u e)

-- ---- one begins

abbrev pub with_begun : Coordinator → Course → Coordinator
with_begun s c = record s { begun = s.begun ++ settled.Open ∷ []; courses = map.insert s.courses (next_id s) c }

next_placed : (s : Coordinator) (c : Course) → IsPlaced (with_begun s c) (next_id s)
next_placed s c = record {
  server_is = refl;
  epoch_is = refl;
  first = omega arith;
  within = subst (λ (n : ℕ). length s.begun + 1 ≤ n) (sym (length-append s.begun (settled.Open ∷ []))) (le_refl (length s.begun + 1));
}

minus_one : (n : ℕ) → n + 1 - 1 ≡ n
minus_one n = omega arith

-- of the next id
next_settled : (s : Coordinator) (c : Course) → settled_in (with_begun s c) (next_id s) ≡ Some settled.Open
next_settled s c =
    let p = next_placed s c in
    ap (λ (b : Bool). cond {A = Option Settled} b (settled_at (s.begun ++ settled.Open ∷ []) (length s.begun + 1)) None) (here_now (with_begun s c) (next_id s) p)
    ∙ ap (λ (b : Bool). cond {A = Option Settled} b (slice_get (s.begun ++ settled.Open ∷ []) (length s.begun + 1 - 1)) None) (some_counter (length s.begun + 1) p.first)
    ∙ ap (slice_get (s.begun ++ settled.Open ∷ [])) (minus_one (length s.begun)) ∙ at_last s.begun settled.Open

next_undrawn : (s : Coordinator) → settled_in s (next_id s) ≡ None
next_undrawn s = go (s.server == s.server && s.epoch == s.epoch)
  where
    at : (b : Bool) → cond {A = Option Settled} b (slice_get s.begun (length s.begun + 1 - 1)) None ≡ None
    at true = slice_get_past s.begun (length s.begun + 1 - 1) (omega arith)
    at false = refl

    go : (b : Bool) → cond {A = Option Settled} b (settled_at s.begun (length s.begun + 1)) None ≡ None
    go true = at (nat_lt 0 (length s.begun + 1))
    go false = refl

pub next_fate : (s : Coordinator) → fate_in s (next_id s) ≡ Undrawn
next_fate s =
    ap (λ (b : Bool). fate_known (next_id s) (cond {A = Option Course} b (if_open (settled_in s (next_id s)) (map.get s.courses (next_id s))) (if_standing (map.get s.courses (next_id s)))) (settled_in s (next_id s))) (eq-eqb s.epoch s.epoch refl)
    ∙ ap (λ (x : Option Settled). fate_known (next_id s) (if_open x (map.get s.courses (next_id s))) x) (next_undrawn s)

-- and of the others
begun_elsewhere : (s : Coordinator) (c : Course) (u : TransId) → same_trans (next_id s) u ≡ false → settled_in (with_begun s c) u ≡ settled_in s u
begun_elsewhere s c u away = go (u.server == s.server && u.epoch == s.epoch) refl
  where
    at : (b : Bool) → nat_lt 0 u.counter ≡ b → (u.counter ≡ length s.begun + 1 → ⊥) → cond {A = Option Settled} b (slice_get (s.begun ++ settled.Open ∷ []) (u.counter - 1)) None ≡ cond {A = Option Settled} b (slice_get s.begun (u.counter - 1)) None
    at true e other =
        let some : 0 < u.counter = ltb-true 0 u.counter e in
        at_before s.begun settled.Open (u.counter - 1) (λ same. other (omega (arith, some, same)))
    at false e other = refl

    go : (b : Bool) → (u.server == s.server && u.epoch == s.epoch) ≡ b → cond {A = Option Settled} b (settled_at (s.begun ++ settled.Open ∷ []) u.counter) None ≡ cond {A = Option Settled} b (settled_at s.begun u.counter) None
    go true e =
        let both = and_parts (u.server == s.server) (u.epoch == s.epoch) e in
        at (nat_lt 0 u.counter) refl (apart (next_id s) u (sym (eqb-true u.server s.server both.0)) (sym (eqb-true u.epoch s.epoch both.1)) away)
    go false e = refl

pub begin_fates : (s : Coordinator) (client : ℕ) (u : TransId) → fate_in (with_begun s (begun_course client)) u ≡ cond {A = Fate} (same_trans (next_id s) u) (journal.begun client (fate_in s u)) (fate_in s u)
begin_fates s client u = go (same_trans (next_id s) u) refl
  where
    after : Coordinator
    after = with_begun s (begun_course client)

    there : fate_in after (next_id s) ≡ Running client []
    there =
        ap (fate_by after (next_id s)) (put-there s.courses (next_id s) (begun_course client))
        ∙ ap (λ (b : Bool). fate_known (next_id s) (cond {A = Option Course} b (if_open (settled_in after (next_id s)) (Some (begun_course client))) (if_standing (Some (begun_course client)))) (settled_in after (next_id s))) (eq-eqb s.epoch s.epoch refl)
        ∙ ap (λ (x : Option Settled). fate_known (next_id s) (if_open x (Some (begun_course client))) x) (next_settled s (begun_course client))

    go : (b : Bool) → same_trans (next_id s) u ≡ b → fate_in after u ≡ cond {A = Fate} b (journal.begun client (fate_in s u)) (fate_in s u)
    go true e =
        subst (λ (v : TransId). fate_in after v ≡ journal.begun client (fate_in s v)) (same_trans-true (next_id s) u e)
        (there ∙ ap (journal.begun client) (sym (next_fate s)))
    go false e =
        ap (fate_by after u) (put-elsewhere s.courses (next_id s) (begun_course client) u e)
        ∙ ap (λ (y : Option Settled). fate_known u (cond {A = Option Course} (u.epoch == s.epoch) (if_open y (map.get s.courses u)) (if_standing (map.get s.courses u))) y) (begun_elsewhere s (begun_course client) u e)

-- ---- the last begin is taken back

abbrev pub without_last : Coordinator → List Settled → Coordinator
without_last s before = record s { begun = before; courses = map.remove s.courses (last_id s) }

-- what stands for an id by a list of what became
abbrev settled_from : Coordinator → List Settled → TransId → Option Settled
settled_from s xs u = cond {A = Option Settled} (u.server == s.server && u.epoch == s.epoch) (settled_at xs u.counter) None

-- a list that is longer by one tells of others the same
longer_elsewhere : (s : Coordinator) (xs : List Settled) (x : Settled) (u : TransId) → same_trans (id_at s (length xs + 1)) u ≡ false → settled_from s xs u ≡ settled_from s (xs ++ x ∷ []) u
longer_elsewhere s xs x u away = go (u.server == s.server && u.epoch == s.epoch) refl
  where
    at : (b : Bool) → nat_lt 0 u.counter ≡ b → (u.counter ≡ length xs + 1 → ⊥) → cond {A = Option Settled} b (slice_get xs (u.counter - 1)) None ≡ cond {A = Option Settled} b (slice_get (xs ++ x ∷ []) (u.counter - 1)) None
    at true e other =
        let some : 0 < u.counter = ltb-true 0 u.counter e in
        sym (at_before xs x (u.counter - 1) (λ same. other (omega (arith, some, same))))
    at false e other = refl

    go : (b : Bool) → (u.server == s.server && u.epoch == s.epoch) ≡ b → cond {A = Option Settled} b (settled_at xs u.counter) None ≡ cond {A = Option Settled} b (settled_at (xs ++ x ∷ []) u.counter) None
    go true e =
        let both = and_parts (u.server == s.server) (u.epoch == s.epoch) e in
        at (nat_lt 0 u.counter) refl (apart (id_at s (length xs + 1)) u (sym (eqb-true u.server s.server both.0)) (sym (eqb-true u.epoch s.epoch both.1)) away)
    go false e = refl

past_none : (s : Coordinator) (xs : List Settled) → settled_from s xs (id_at s (length xs + 1)) ≡ None
past_none s xs = go (s.server == s.server && s.epoch == s.epoch)
  where
    at : (b : Bool) → cond {A = Option Settled} b (slice_get xs (length xs + 1 - 1)) None ≡ None
    at true = slice_get_past xs (length xs + 1 - 1) (omega arith)
    at false = refl

    go : (b : Bool) → cond {A = Option Settled} b (settled_at xs (length xs + 1)) None ≡ None
    go true = at (nat_lt 0 (length xs + 1))
    go false = refl

pub taken_fates : (s : Coordinator) (before : List Settled) (x : Settled) → s.begun ≡ before ++ x ∷ [] → (u : TransId) → fate_in (without_last s before) u ≡ cond {A = Fate} (same_trans (last_id s) u) Undrawn (fate_in s u)
taken_fates s before x is u = go (same_trans (last_id s) u) refl
  where
    last_is : last_id s ≡ id_at s (length before + 1)
    last_is = ap (λ (xs : List Settled). id_at s (length xs)) is ∙ ap (id_at s) (length-append before (x ∷ []))

    after : Coordinator
    after = without_last s before

    last_none : settled_in after (last_id s) ≡ None
    last_none = ap (settled_from s before) last_is ∙ past_none s before

    go : (b : Bool) → same_trans (last_id s) u ≡ b → fate_in after u ≡ cond {A = Fate} b Undrawn (fate_in s u)
    go true e =
        subst (λ (v : TransId). fate_in after v ≡ Undrawn) (same_trans-true (last_id s) u e)
        (ap (fate_by after (last_id s)) (gone-there s.courses (last_id s)) ∙ none_by after (last_id s) ∙ ap (fate_settled (last_id s)) last_none)
    go false e =
        let same : settled_in after u ≡ settled_in s u = longer_elsewhere s before x u (ap (λ (v : TransId). same_trans v u) (sym last_is) ∙ e) ∙ ap (λ (xs : List Settled). settled_from s xs u) (sym is) in
        ap (fate_by after u) (gone-elsewhere s.courses (last_id s) u e)
        ∙ ap (λ (y : Option Settled). fate_known u (cond {A = Option Course} (u.epoch == s.epoch) (if_open y (map.get s.courses u)) (if_standing (map.get s.courses u))) y) same
