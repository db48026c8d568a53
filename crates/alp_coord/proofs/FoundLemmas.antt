-- what decisions that were found come to
use Rattle.std.specs.Prelude.{cond, Bool, true, false, ◌==◌, ◌&&◌, nat_lt, Option, None, Some, is_some, slice_get, map as list_map}
use Rattle.std.specs.FinMap as map
use Rattle.std.specs.FinMap.{get-empty}
use Rattle.std.proofs.Common.{◌≡◌, ℕ, ◌-◌, List, [], ◌∷◌, length, refl, sym, ◌∙◌, ap, subst}
use Rattle.alp_base.specs.declared.ids.TransId.{TransId}
use Rattle.alp_base.specs.declared.ids.JoinNo.{JoinNo}
use Rattle.alp_base.specs.declared.ids.Stamp.{Stamp}
use Rattle.alp_base.specs.Orders.{trans_cmp}
use Rattle.alp_journal.specs.Ids.{same_trans}
use Rattle.alp_journal.specs.Opening.{DecisionNote}
use Rattle.alp_journal.specs.Coordinator.{Fate, Undrawn, Committed, fate_noted}
use Rattle.alp_journal.proofs.IdLemmas.{same_trans-itself, same_trans-true}
use Rattle.alp_coord.specs.declared.members.Member.{Member}
use Rattle.alp_coord.specs.declared.course.Course.{Course}
use Rattle.alp_coord.specs.declared.begun.Settled.{Settled}
use Rattle.alp_coord.specs.declared.decision.Decision.{Decision}
use Rattle.alp_coord.specs.declared.coordinator.Coordinator.{Coordinator}
use Rattle.alp_coord.specs.Members.{joins, dones, silent}
use Rattle.alp_coord.specs.Begun.{settled_at, fate_settled}
use Rattle.alp_coord.specs.Courses.{CourseMap, fate_of}
use Rattle.alp_coord.specs.Coordinators.{settled_in, if_standing, if_open, fate_known, fate_in, noted, noted_course, with_noted, noted_courses, remembered, Finds}
use Rattle.alp_coord.proofs.MemberLemmas.{joins-silent, dones-silent}
use Rattle.alp_coord.proofs.MapLemmas.{put-there, put-elsewhere}
use Rattle.alp_coord.proofs.FateLemmas.{fate_by, none_by}

-- ---- no transaction began

pub none_settled : (s : Coordinator) (t : TransId) → s.begun ≡ [] → settled_in s t ≡ None
none_settled s t is = ap (λ (xs : List Settled). cond {A = Option Settled} (t.server == s.server && t.epoch == s.epoch) (settled_at xs t.counter) None) is ∙ go (t.server == s.server && t.epoch == s.epoch) (nat_lt 0 t.counter)
  where
    go : (a b : Bool) → cond {A = Option Settled} a (cond {A = Option Settled} b (slice_get [] (t.counter - 1)) None) None ≡ None
    go true true = refl
    go true false = refl
    go false b = refl

-- a new coordinator knows of none
pub none_known : (s : Coordinator) (t : TransId) → s.begun ≡ [] → s.courses ≡ map.empty → fate_in s t ≡ Undrawn
none_known s t is empty =
    ap (fate_by s t) (ap (λ (m : CourseMap). map.get m t) empty ∙ get-empty trans_cmp t) ∙ none_by s t ∙ ap (fate_settled t) (none_settled s t is)

-- ---- decisions

-- the first of that transaction
abbrev noted_get : List Decision → TransId → Option Course
noted_get [] t = None
noted_get (d ∷ ds) t = cond {A = Option Course} (same_trans d.stamp.trans t) (Some (noted_course d)) (noted_get ds t)

abbrev first : Option Course → Option Course → Option Course
first None o = o
first (Some c) o = Some c

first_none : (o : Option Course) → first o None ≡ o
first_none None = refl
first_none (Some c) = refl

one_noted : (d : Decision) (m : CourseMap) (t : TransId) (o : Option Course) → first (map.get (with_noted d m (map.get m d.stamp.trans)) t) o ≡ first (map.get m t) (cond {A = Option Course} (same_trans d.stamp.trans t) (Some (noted_course d)) o)
one_noted d m t o = go (map.get m d.stamp.trans) refl (same_trans d.stamp.trans t) refl
  where
    go : (x : Option Course) → map.get m d.stamp.trans ≡ x → (b : Bool) → same_trans d.stamp.trans t ≡ b → first (map.get (with_noted d m x) t) o ≡ first (map.get m t) (cond {A = Option Course} b (Some (noted_course d)) o)
    go None is true e =
        subst (λ (v : TransId). first (map.get (map.insert m d.stamp.trans (noted_course d)) v) o ≡ first (map.get m v) (Some (noted_course d))) (same_trans-true d.stamp.trans t e)
        (ap (λ (x : Option Course). first x o) (put-there m d.stamp.trans (noted_course d)) ∙ sym (ap (λ (x : Option Course). first x (Some (noted_course d))) is))
    go None is false e = ap (λ (x : Option Course). first x o) (put-elsewhere m d.stamp.trans (noted_course d) t e)
    go (Some c) is true e =
        subst (λ (v : TransId). first (map.get m v) o ≡ first (map.get m v) (Some (noted_course d))) (same_trans-true d.stamp.trans t e)
        (ap (λ (x : Option Course). first x o) is ∙ sym (ap (λ (x : Option Course). first x (Some (noted_course d))) is))
    go (Some c) is false e = refl

all_noted : (ds : List Decision) (m : CourseMap) (t : TransId) → map.get (noted_courses m ds) t ≡ first (map.get m t) (noted_get ds t)
all_noted [] m t = sym (first_none (map.get m t))
all_noted (d ∷ ds) m t = all_noted ds (with_noted d m (map.get m d.stamp.trans)) t ∙ one_noted d m t (noted_get ds t)

-- one decision, as it is remembered
decision_known : (d : Decision) (t : TransId) (js : List JoinNo) → d.stamp.trans ≡ t → d.joins.items ≡ js → fate_known t (if_standing (Some (noted_course d))) None ≡ remembered (Committed d.stamp js [])
decision_known d t [] same is = ap (λ (ks : List JoinNo). fate_known t (if_standing (Some (record (noted_course d) { members = list_map silent ks }))) None) is
decision_known d t (j ∷ js) same is =
    ap (λ (ks : List JoinNo). fate_known t (if_standing (Some (record (noted_course d) { members = list_map silent ks }))) None) is
    ∙ (λ i. Committed (record { ts = d.stamp.ts; trans = sym same i }) (j ∷ joins-silent js i) (dones-silent js i))

decisions_known : (ds : List Decision) (t : TransId) → fate_known t (if_standing (noted_get ds t)) None ≡ remembered (fate_noted (list_map noted ds) t)
decisions_known [] t = refl
decisions_known (d ∷ ds) t = go (same_trans d.stamp.trans t) refl (decisions_known ds t)
  where
    go : (b : Bool) → same_trans d.stamp.trans t ≡ b → fate_known t (if_standing (noted_get ds t)) None ≡ remembered (fate_noted (list_map noted ds) t) → fate_known t (if_standing (cond {A = Option Course} b (Some (noted_course d)) (noted_get ds t))) None
        ≡ remembered (cond {A = Fate} b (Committed d.stamp d.joins.items []) (fate_noted (list_map noted ds) t))
    go true e h = decision_known d t d.joins.items (same_trans-true d.stamp.trans t e) refl
    go false e h = h

pub found_known : (s : Coordinator) (ds : List Decision) → s.begun ≡ [] → s.courses ≡ noted_courses map.empty ds → Finds (list_map noted ds) s
found_known s ds is courses t = go (t.epoch == s.epoch)
  where
    there : map.get s.courses t ≡ noted_get ds t
    there = ap (λ (m : CourseMap). map.get m t) courses ∙ all_noted ds map.empty t ∙ ap (λ (x : Option Course). first x (noted_get ds t)) (get-empty trans_cmp t)

    go : (b : Bool) → fate_known t (cond {A = Option Course} b (if_open (settled_in s t) (map.get s.courses t)) (if_standing (map.get s.courses t))) (settled_in s t) ≡ cond {A = Fate} b Undrawn (remembered (fate_noted (list_map noted ds) t))
    go true = ap (λ (x : Option Settled). fate_known t (if_open x (map.get s.courses t)) x) (none_settled s t is)
    go false =
        ap (λ (x : Option Settled). fate_known t (if_standing (map.get s.courses t)) x) (none_settled s t is)
        ∙ ap (λ (o : Option Course). fate_known t (if_standing o) None) there ∙ decisions_known ds t

-- one decision is noted, or was before
pub noted_before : (d : Decision) (m : CourseMap) → is_some (map.get m d.stamp.trans) ≡ true → m ≡ with_noted d m (map.get m d.stamp.trans)
noted_before d m h = go (map.get m d.stamp.trans) h
  where
    go : (x : Option Course) → is_some x ≡ true → m ≡ with_noted d m x
    go None i = cc
    go (Some c) i = refl

pub noted_now : (d : Decision) (m : CourseMap) → is_some (map.get m d.stamp.trans) ≡ false → map.insert m d.stamp.trans (noted_course d) ≡ with_noted d m (map.get m d.stamp.trans)
noted_now d m h = go (map.get m d.stamp.trans) h
  where
    go : (x : Option Course) → is_some x ≡ false → map.insert m d.stamp.trans (noted_course d) ≡ with_noted d m x
    go None i = refl
    go (Some c) i = cc
