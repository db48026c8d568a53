-- The next message between servers of a run is shown, brought and taken.
use Rattle.std.specs.Prelude.{slice_get, Option, Some}
use Rattle.std.proofs.Common.{◌≡◌, ℕ, ◌-◌, List, [], ◌∷◌, sym, ◌∙◌, ap, subst}
use Rattle.alp_journal.specs.declared.message.Message.{Message}
use Rattle.alp_vault.specs.declared.vault.Vault.{Ghosts}
use Rattle.alp_course.specs.Courses.{Course, Occurrence, brings, last_rank, seat_at, next_message, Occurs}
use Rattle.alp_course.specs.Languages.{Just}
use Rattle.alp_cluster.specs.Messages.{IfOr, taking_at, AreApart, HasArrived}
use Rattle.alp_cluster.specs.Stations.{AreOn, Passes, Did, course_of}
use Rattle.alp_cluster.specs.declared.station.Station.{Station}
use Rattle.alp_cluster.specs.declared.stations.Stations.{Stations}
use Rattle.alp_cluster.proofs.CarryLemmas.{same_later, apart_later, still_next, brought}
use Rattle.alp_cluster.proofs.DidLemmas.{later_then, did_just}

module _ {V : Type 0} (G : Ghosts V) (s shown : Stations V) (all : shown.all ≡ s.all) (on : AreOn G shown) (course : course_of G shown ≡ course_of G s) (from to : ℕ) where
  -- what was shown is no matter of it
  pub brought_before : (after : Stations V) → Did G (Just (brings from to ∷ [])) shown after → Did G (Just (brings from to ∷ [])) s after
  brought_before after d =
      let (mid, occurs, crash, rest) = subst (λ (xs : List Occurrence). Passes G shown xs after) d.word d.goes.passes in
      did_just G (brings from to) s after
      (record { later = later_then G s shown after (same_later G s shown on all) d.goes.later; passes = (mid, subst (λ (r : Course). Occurs r (brings from to) (course_of G mid)) course occurs, tt, rest) })

  pub carried : (apart : AreApart s from to) (mid after : Stations V) (m : Message) (seen : ℕ) (x : Station V) → slice_get shown.all.items (from - 1) ≡ Some x → HasArrived G from to m seen shown mid → AreOn G after → after.all ≡ mid.all
      → seen ≡ last_rank (seat_at (course_of G s) from).ranks → next_message (course_of G s) from to ≡ Some m
      → IfOr (next_message (course_of G mid) from to) (course_of G after ≡ course_of G mid) (λ z. course_of G after ≡ taking_at (course_of G mid) from to z seen) → Did G (Just (brings from to ∷ [])) s after
  carried apart mid after m seen x there came on_after same rank next taken =
      let here : AreApart shown from to = apart_later G s shown from to (same_later G s shown on all) apart in
      let next_shown : next_message (course_of G shown) from to ≡ Some m = ap (λ (r : Course). next_message r from to) course ∙ next in
      let next_mid : next_message (course_of G mid) from to ≡ Some m = still_next G shown from to here mid m seen came x on there ∙ next_shown in
      brought_before after
      (brought G shown from to here mid m seen came after on_after same (rank ∙ ap (λ (r : Course). last_rank (seat_at r from).ranks) (sym course)) next_shown
      (subst (λ (o : Option Message). IfOr o (course_of G after ≡ course_of G mid) (λ z. course_of G after ≡ taking_at (course_of G mid) from to z seen)) next_mid taken))
