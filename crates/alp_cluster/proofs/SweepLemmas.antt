-- Messages are carried in sweeps, until none waits.
use Rattle.std.specs.Prelude.{◌==◌, ◌||◌, Bool, true, false, map as list_map, slice_get, Option, Some}
use Rattle.std.proofs.Common.{inl, inr, ◌⊎◌, ◌≡◌, ◌≢◌, ℕ, zero, suc, ◌+◌, ◌-◌, ◌<◌, ◌≤◌, List, [], ◌∷◌, ◌++◌, length, refl, sym, ◌∙◌, ap, subst, arith}
use Rattle.std.proofs.lemmas.Bool.{ne_eqb}
use Rattle.std.proofs.lemmas.Bool.Decides.{eqb_tells}
use Rattle.std.proofs.lemmas.List.{append_assoc, length-map}
use Rattle.alp_node.specs.NodeStates.{NodeState}
use Rattle.alp_vault.specs.declared.vault.Vault.{Ghosts}
use Rattle.alp_course.specs.Courses.{Course, Seat, Occurrence, looks, brings, seat_at, is_waiting, IsSeat, AreCourse, Occurs}
use Rattle.alp_course.specs.Languages.{Language, Nothing, Just, Then, Each}
use Rattle.alp_course.specs.Carries.{ArePairCarried, OfOthers, CarriesTo, CarriesFrom, IsSweep, IsCarried, last_sweep, one_more, brings_some, room_left, ArePlaced}
use Rattle.alp_course.specs.Plays.{IsCut}
use Rattle.alp_course.proofs.LanguageLemmas.{Has, then_word, each_next}
use Rattle.alp_course.proofs.RoomLemmas.{TakesRoom, takes_sweep, IsLess, brought_less}
use Rattle.alp_course.proofs.WordLemmas.{brings_append, carried_has}
use Rattle.alp_cluster.specs.Messages.{DidSay}
use Rattle.alp_cluster.specs.Station.{standing, seat_for, seat_of}
use Rattle.alp_cluster.specs.Stations.{AreOn, IsOneOf, IsManned, Did, DidSome, course_of}
use Rattle.alp_cluster.specs.declared.fault.RunFault.{RunFault}
use Rattle.alp_cluster.specs.declared.station.Station.{Station}
use Rattle.alp_cluster.specs.declared.stations.Stations.{Stations}
use Rattle.alp_cluster.proofs.DidLemmas.{go_none, go_then, passes_course}
use Rattle.alp_cluster.proofs.StationsLemmas.{seat_stands}

-- ---- one of a list

pub is_there : {X : Type 0} (xs : List X) (i : ℕ) → i < length xs → (x : X) × (slice_get xs i ≡ Some x)
is_there [] i less = absurd (omega (arith, less))
is_there (x ∷ xs) zero less = (x, refl)
is_there (x ∷ xs) (suc i) less = is_there xs i (omega (arith, less))

or_none : (b : Bool) → b ≡ b || false
or_none true = refl
or_none false = refl

or_turned : (b c : Bool) → b || c ≡ c || b
or_turned true true = refl
or_turned true false = refl
or_turned false true = refl
or_turned false false = refl

module _ {V : Type 0} (G : Ghosts V) where
  -- ---- of each, where it is told whether something was brought

  pub say_none : (s : Stations V) → AreOn G s → DidSay G Nothing false s s
  say_none s on = record { hs = []; word = refl; goes = go_none G s on; told = refl }

  pub say_map : (A B : Language) (some : Bool) (a b : Stations V) → ((xs : List Occurrence) → A xs → B xs) → DidSay G A some a b → DidSay G B some a b
  say_map A B some a b make d = record { hs = d.hs; word = make d.hs d.word; goes = d.goes; told = d.told }

  pub say_one : (A : ℕ → Language) (i : ℕ) (some more : Bool) (a b c : Stations V) → DidSay G (Each A i) some a b → DidSay G (A (i + 1)) more b c → DidSay G (Each A (i + 1)) (more || some) a c
  say_one A i some more a b c h k = record {
    hs = h.hs ++ k.hs;
    word = each_next A i (h.hs ++ k.hs) (then_word (Each A i) (A (i + 1)) h.hs k.hs h.word k.word);
    goes = go_then G h.hs k.hs a b c h.goes k.goes;
    told = or_turned more some ∙ (λ i. h.told i || k.told i) ∙ sym (brings_append h.hs k.hs);
  }

  -- ---- no server sends to itself

  pub to_itself : (from to : ℕ) (s : Stations V) → AreOn G s → from ≡ to → DidSay G (CarriesTo from to) false s s
  to_itself from to s on same = elim (eqb_tells from to) [
    | inl is ↦ subst (λ (b : Bool). DidSay G (OfOthers b (ArePairCarried from to)) false s s) (sym is.0) (say_none s on)
    | inr away ↦ absurd (away.1 same)
  ]

  pub other_word : (from to : ℕ) → from ≢ to → (xs : List Occurrence) → ArePairCarried from to xs → CarriesTo from to xs
  other_word from to away xs word = subst (λ (b : Bool). OfOthers b (ArePairCarried from to) xs) (sym (ne_eqb from to away)) word

  -- ---- sweeps

  pub last_carried : (servers : ℕ) (a b : Stations V) → DidSay G (IsSweep servers) false a b → Did G (IsCarried servers) a b
  last_carried servers a b d = record { hs = d.hs; word = last_sweep d.hs d.word (sym d.told); goes = d.goes }

  pub more_carried : (servers : ℕ) (a b c : Stations V) → DidSay G (IsSweep servers) true a b → Did G (IsCarried servers) b c → Did G (IsCarried servers) a c
  more_carried servers a b c d k = record { hs = d.hs ++ k.hs; word = one_more d.hs k.hs d.word (sym d.told) k.word; goes = go_then G d.hs k.hs a b c d.goes k.goes }

  -- a sweep that is not over
  pub sweep_cut : (servers : ℕ) (f : RunFault) (a b : Stations V) → DidSome G (IsSweep servers) f a b → DidSome G (IsCarried servers) f a b
  sweep_cut servers f a b d = record { at_end = d.at_end; hs = d.hs; due = d.due; cut = cut (brings_some (d.hs ++ d.cut.coming ∷ d.cut.rest)) refl; goes = d.goes; ends = d.ends; left = d.left }
    where
      cut : (some : Bool) → brings_some (d.hs ++ d.cut.coming ∷ d.cut.rest) ≡ some → IsCut (IsCarried servers) d.hs d.due
      cut true is =
          let (ys, word) = carried_has servers in
          record {
            coming = d.cut.coming;
            rest = d.cut.rest ++ ys;
            is = d.cut.is;
            all = subst (IsCarried servers) (append_assoc d.hs (d.cut.coming ∷ d.cut.rest) ys) (one_more (d.hs ++ d.cut.coming ∷ d.cut.rest) ys d.cut.all is word);
          }
      cut false is = record { coming = d.cut.coming; rest = d.cut.rest; is = d.cut.is; all = last_sweep (d.hs ++ d.cut.coming ∷ d.cut.rest) d.cut.all is }

  -- or a later one
  pub later_cut : (servers : ℕ) (f : RunFault) (a b c : Stations V) → DidSay G (IsSweep servers) true a b → DidSome G (IsCarried servers) f b c → DidSome G (IsCarried servers) f a c
  later_cut servers f a b c d k = record {
    at_end = k.at_end;
    hs = d.hs ++ k.hs;
    due = k.due;
    cut = record {
      coming = k.cut.coming;
      rest = k.cut.rest;
      is = k.cut.is;
      all = subst (IsCarried servers) (sym (append_assoc d.hs k.hs (k.cut.coming ∷ k.cut.rest))) (one_more d.hs (k.hs ++ k.cut.coming ∷ k.cut.rest) d.word (sym d.told) k.cut.all);
    };
    goes = go_then G d.hs k.hs a b k.at_end d.goes k.goes;
    ends = k.ends;
    left = k.left;
  }

  -- ---- how long it may go on

  -- the place of a server's next entry is told by its journal
  pub placed : (s : Stations V) → AreOn G s → ArePlaced (course_of G s)
  placed s on n here =
      let many : length (list_map (seat_of G) s.all.items) ≡ length s.all.items = length-map s.all.items (seat_of G) in
      let some : 1 ≤ n = here.first in
      let last : n ≤ length (list_map (seat_of G) s.all.items) = here.last in
      let (x, there) = is_there s.all.items (n - 1) (omega (arith, many, some, last)) in
      let mine : IsManned G (length s.all.items) (n - 1 + 1) x = on.each (n - 1) x there in
      let seat : seat_at (course_of G s) n ≡ seat_for G x.is_fused x.ranks.items (standing mine.node) = seat_stands G s on n (record { first = some; last = omega (arith, many, last) }) x there mine.node mine.keeps.stands in
      subst (λ (z : Seat). z.stand.place ≡ length z.journal) (sym seat) refl

  pub sweep_less : (a b : Stations V) → AreOn G a → DidSay G (IsSweep (length a.all.items)) true a b → room_left (course_of G b) < room_left (course_of G a)
  sweep_less a b on d =
      let takes : TakesRoom (course_of G a) (course_of G b) d.hs = takes_sweep (length a.all.items) (course_of G a) (course_of G b) d.hs d.word (placed a on) (passes_course G d.hs a b d.goes.passes) in
      takes.less (sym d.told)

  -- a message that waits, and is brought
  pub bring_less : (from to : ℕ) (a b c : Stations V) → AreOn G a → Did G (Just (looks from to true ∷ [])) a b → Did G (Just (brings from to ∷ [])) b c → room_left (course_of G c) < room_left (course_of G a)
  bring_less from to a b c on look bring =
      let (mid, first, same) = subst (λ (xs : List Occurrence). AreCourse (course_of G a) xs (course_of G b)) look.word (passes_course G look.hs a b look.goes.passes) in
      let (next, second, rest) = subst (λ (xs : List Occurrence). AreCourse (course_of G b) xs (course_of G c)) bring.word (passes_course G bring.hs b c bring.goes.passes) in
      let still : course_of G b ≡ course_of G a = same ∙ first.2 in
      let waits : is_waiting (course_of G b) from to ≡ true = ap (λ (r : Course). is_waiting r from to) still ∙ sym first.1 in
      let done : Occurs (course_of G b) (brings from to) (course_of G c) = subst (λ (r : Course). Occurs (course_of G b) (brings from to) r) (sym rest) second in
      let less : IsLess (course_of G b) (course_of G c) = brought_less (course_of G b) (course_of G c) from to waits done (subst ArePlaced (sym still) (placed a on)) in
      let level : room_left (course_of G b) ≡ room_left (course_of G a) = ap room_left still in
      let low : room_left (course_of G c) < room_left (course_of G b) = less.less in
      omega (arith, level, low)
