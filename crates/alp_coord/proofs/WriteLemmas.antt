-- what a tree of courses is after one was written in place
use Rattle.std.specs.Prelude.{cond, Bool, true, false, Option, None, Some, IsSome, is_some, Result, Ok, Err, OnErr}
use Rattle.std.specs.FinMap as map
use Rattle.std.specs.FinMap.{same_map}
use Rattle.std.specs.BTreeMap.{is_at}
use Rattle.std.proofs.Common.{◌≡◌, List, refl, sym, ◌∙◌, ap, subst}
use Rattle.alp_base.specs.declared.ids.TransId.{TransId}
use Rattle.alp_base.specs.Orders.{trans_cmp, transactions_total, exact_transactions}
use Rattle.alp_base.proofs.TreeLemmas.{at, get_at, put_at}
use Rattle.alp_journal.specs.Ids.{same_trans}
use Rattle.alp_journal.proofs.IdLemmas.{same_trans-true}
use Rattle.alp_coord.specs.declared.course.Course.{Course}
use Rattle.alp_coord.specs.Courses.{CourseMap, put_changed, changed_at}
use Rattle.alp_coord.proofs.MapLemmas.{get-put}

abbrev pub course_at : List (TransId × Course) → TransId → Option Course
course_at es t = at transactions_total exact_transactions es t

-- what stands in the map
pub stands : (es : List (TransId × Course)) (m : CourseMap) (t : TransId) (o : Option Course) → map.from_entries es ≡ m → course_at es t ≡ o → map.get m t ≡ o
stands es m t o view there = sym (ap (λ (k : CourseMap). map.get k t) view) ∙ get_at transactions_total exact_transactions es t ∙ there

-- the course goes on
pub written : (es fs : List (TransId × Course)) (m : CourseMap) (t : TransId) (c w : Course) (f : Course → Course) → map.from_entries es ≡ m → course_at es t ≡ Some c
    → ((q : TransId) → course_at fs q ≡ cond {A = Option Course} (is_at (trans_cmp t) q) (Some w) (course_at es q)) → w ≡ f c → map.from_entries fs ≡ changed_at f m t
written es fs m t c w f view there writes is =
    put_at transactions_total exact_transactions es fs t w writes ∙ ap (λ (k : CourseMap). map.insert k t w) view ∙ ap (map.insert m t) is
    ∙ sym (ap (put_changed f m t) (stands es m t (Some c) view there))

-- what was there is put again
put_again : (m : CourseMap) (t : TransId) (c : Course) → map.get m t ≡ Some c → map.insert m t c ≡ m
put_again m t c is = same_map transactions_total exact_transactions (map.insert m t c) m (λ u. get-put m t c u ∙ go u (same_trans t u) refl)
  where
    go : (u : TransId) (b : Bool) → same_trans t u ≡ b → cond {A = Option Course} b (Some c) (map.get m u) ≡ map.get m u
    go u true e = sym is ∙ ap (map.get m) (same_trans-true t u e)
    go u false e = refl

-- or stays
pub unwritten : (es fs : List (TransId × Course)) (m : CourseMap) (t : TransId) (c w : Course) → map.from_entries es ≡ m → course_at es t ≡ Some c
    → ((q : TransId) → course_at fs q ≡ cond {A = Option Course} (is_at (trans_cmp t) q) (Some w) (course_at es q)) → w ≡ c → map.from_entries fs ≡ m
unwritten es fs m t c w view there writes is =
    put_at transactions_total exact_transactions es fs t w writes ∙ ap (λ (k : CourseMap). map.insert k t w) view ∙ ap (map.insert m t) is
    ∙ put_again m t c (stands es m t (Some c) view there)

-- where there is none, nothing changes
pub missing : (es : List (TransId × Course)) (m : CourseMap) (t : TransId) (f : Course → Course) → map.from_entries es ≡ m → course_at es t ≡ None → m ≡ changed_at f m t
missing es m t f view none = sym (ap (put_changed f m t) (stands es m t None view none))

pub some_is : {A : Type 0} (o : Option A) (x : A) → o ≡ Some x → IsSome o
some_is o x is = ap is_some is

-- at the exit with an error
pub on_err : {T E P : Type 0} (r : Result T E) → P → OnErr r P
on_err (Ok x) p = tt
on_err (Err e) p = p
