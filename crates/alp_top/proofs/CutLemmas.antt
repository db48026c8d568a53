-- a run that came so far: what holds of its journals
use Rattle.std.specs.Prelude.{Vec, IsTrue, map as list_map}
use Rattle.std.specs.Global.{Global}
use Rattle.std.specs.List.{AllByRecursion}
use Rattle.std.proofs.Common.{◌⊎◌, ◌≡◌, ℕ, ◌+◌, ◌-◌, ◌<◌, ◌≤◌, List, [], ◌∷◌, length, refl, sym, ◌∙◌, ap, subst, arith}
use Rattle.alp_journal.specs.Along.{Along}
use Rattle.alp_journal.specs.Laws.{IsLawful}
use Rattle.alp_journal.specs.Moves.{next}
use Rattle.alp_journal.specs.State.{opened}
use Rattle.alp_history.specs.Handed.{ArePromisesKept}
use Rattle.alp_history.specs.Items as items
use Rattle.alp_history.specs.Log as logs
use Rattle.alp_history.specs.RunLogs.{handed_of, item_of}
use Rattle.alp_journal.specs.declared.log.Item.{Item}
use Rattle.alp_session.specs.Crowd.{Crowd}
use Rattle.alp_session.specs.Crowds.{client_at}
use Rattle.alp_history.specs.Theorems.{IsProper, IsOneThread, AreWhole}
use Rattle.alp_history.proofs.Merged.{history}
use Rattle.alp_history.proofs.Promises.{promises}
use Rattle.alp_history.proofs.Wholes.{wholeness}
use Rattle.alp_course.specs.Courses.{Course, Occurrence, Seat, IsSeat, seat_at, TellAll}
use Rattle.alp_course.specs.Plays.{sent_of}
use Rattle.alp_course.proofs.PlayLemmas.{played_sent}
use Rattle.alp_course.specs.Links.{server_log, log_of}
use Rattle.alp_course.specs.Turns.{Turn, own_in, sent_in}
use Rattle.alp_node.specs.Nodes as node
use Rattle.alp_node.specs.Nodes.{start_in}
use Rattle.alp_script.specs.Accepted.{servers_said}
use Rattle.alp_script.specs.declared.numbered.NumberedLine.{NumberedLine}
use Rattle.alp_vault.specs.declared.vault.Vault.{Ghosts}
use Rattle.alp_cluster.specs.Clients.{HasSaid}
use Rattle.alp_cluster.specs.Runs.{Ran, HasEndedEarly, HasPlayedOut}
use Rattle.alp_cluster.specs.Servers.{IsDone}
use Rattle.alp_cluster.specs.Station.{standing, seat_for}
use Rattle.alp_cluster.specs.Stations.{AreOn, course_of, state_at}
use Rattle.alp_cluster.specs.declared.fault.RunFault.{RunFault}
use Rattle.alp_cluster.specs.declared.stations.Stations.{Stations}
use Rattle.alp_top.specs.Volumes.{IsBare, IsRightAt, IsRunTo, IsCutShort, IsPlayedToEnd}
use Rattle.alp_top.proofs.KeptLemmas.{clients_kept}
use Rattle.alp_top.proofs.SeatedLemmas.{seat_on, numbered, proper_course, many}
use Rattle.alp_top.proofs.SeveralLemmas.{all_seat}
use Rattle.alp_top.proofs.TogetherLemmas.{IsOpenedWell, sound_openings}

one_there : {A : Type 0} (xs : List A) → length xs ≡ 1 → (x : A) × (xs ≡ x ∷ [])
one_there [] h = absurd (omega (arith, h))
one_there (x ∷ []) h = (x, refl)
one_there (x ∷ y ∷ xs) h = absurd (omega (arith, h))

-- how far it came
pub record HasCome {V : Type 0} (G : Ghosts V) (lines : List NumberedLine) (last : Stations V) : Type 0 where
  pub on : AreOn G last
  pub count : length last.all.items ≡ servers_said lines
  pub clients : Crowd
  pub turns : List Turn
  pub hs : List Occurrence
  pub sent : sent_of hs ≡ sent_in turns
  pub said : (k : ℕ) → HasSaid (state_at last) k (client_at clients k) (list_map item_of (own_in k turns))
  pub ran : Ran G hs last

abbrev pub come_early : {V : Type 0} (G : Ghosts V) (lines : List NumberedLine) (f : RunFault) (left : Stations V) (vs : List (Vec Item Global)) (h : HasEndedEarly G (servers_said lines) lines f left vs) → HasCome G lines h.last
come_early G lines f left vs h = record { on = h.on; count = h.count; clients = h.clients; turns = h.turns; hs = h.hs; sent = h.sent; said = h.said; ran = h.ran }

abbrev pub come_out : {V : Type 0} (G : Ghosts V) (lines : List NumberedLine) (last : Stations V) (vs : List (Vec Item Global)) (text : List ℕ) → HasPlayedOut G (servers_said lines) lines last vs text → HasCome G lines last
come_out G lines last vs text h = record { on = h.on; count = h.count; clients = h.played.clients; turns = h.turns; hs = h.hs; sent = played_sent (servers_said lines) lines h.turns h.hs h.played; said = h.said; ran = h.ran }

module _ {V : Type 0} (G : Ghosts V) (lines : List NumberedLine) (last : Stations V) (h : HasCome G lines last) (told : TellAll (course_of G last)) (bare : (n : ℕ) → IsSeat (course_of G last) n → servers_said lines ≡ 1 → IsBare (seat_at (course_of G last) n).opening) where
  abbrev r : Course
  r = course_of G last

  abbrev handed : items.Handed
  handed = handed_of (λ (k : ℕ). own_in k h.turns)

  seat_right : (n : ℕ) → IsSeat r n → IsRightAt r n
  seat_right n here =
      let (x, at, m, same) = seat_on G last h.on n here in
      let tells : IsTrue (G.tells m.node.kept.vault) = subst (λ (s : Seat). IsTrue s.tells) same (all_seat (λ (s : Seat). IsTrue s.tells) r.seats (n - 1) told (omega (arith, here.first, here.last))) in
      record {
        lawful = subst (λ (s : Seat). IsLawful s.opening s.journal) (sym same) (m.keeps.on.kept.right tells).lawful;
        caused = subst (λ (s : Seat). Along next IsDone (opened s.opening) s.journal) (sym same) (m.keeps.on.answered tells);
      }

  cut_history : logs.AreSoundOpenings (log_of r handed) → IsOneThread (log_of r handed) × AreWhole (log_of r handed) × ArePromisesKept (log_of r handed)
  cut_history sound =
      let p : IsProper (log_of r handed) = proper_course h.ran.first r h.hs handed h.ran.is_first h.ran.course (numbered G last h.on) (λ n here. (seat_right n here).lawful) sound in (
        history (log_of r handed) p,
        wholeness (log_of r handed) p,
        promises (log_of r handed) p (clients_kept (state_at last) h.clients h.ran.first r h.hs h.turns handed h.ran.is_first h.ran.course h.sent h.said (λ k. refl) (λ n here. (seat_right n here).lawful)),
      )

  seats_many : length r.seats ≡ servers_said lines
  seats_many = many G last h.on ∙ h.count

  alone : servers_said lines ≡ 1 → logs.AreSoundOpenings (log_of r handed)
  alone one_is =
      let (seat, one) = one_there r.seats (seats_many ∙ one_is) in
      let here : IsSeat r 1 = record { first = omega arith; last = omega (arith, seats_many, one_is) } in
      let sits : seat_at r 1 ≡ seat = ap (λ (ss : List Seat). seat_at (record { seats = ss; posts = r.posts }) 1) one in
      let (y, there, m, same) = seat_on G last h.on 1 here in
      let is : seat_for G y.is_fused y.ranks.items (standing m.node) ≡ seat = sym same ∙ sits in
      let tells : IsTrue (G.tells m.node.kept.vault) = subst (λ (s : Seat). IsTrue s.tells) same (all_seat (λ (s : Seat). IsTrue s.tells) r.seats 0 told (omega (arith, seats_many, one_is))) in
      let right : node.IsRight (start_in G m.node) (G.held m.node.kept.vault) m.node = m.keeps.on.kept.right tells in
      let sound : node.IsSoundStart seat.opening = subst (λ (s : Seat). node.IsSoundStart s.opening) is right.opening in
      let found : IsBare seat.opening = subst (λ (s : Seat). IsBare s.opening) sits (bare 1 here one_is) in
      let servers : seat.opening.servers ≡ 1 = ap (λ (s : Seat). s.opening.servers) (sym is) ∙ m.keeps.on.all ∙ m.count_is ∙ h.count ∙ one_is in
      let well : IsOpenedWell seat.opening = record { few = omega (arith, servers); files = sound.parts.sound [] refl; sizes = sound.parts.sized; bare = found } in
      sound_openings (log_of r handed) (subst (λ (ss : List Seat). AllByRecursion (λ (x : logs.ServerLog). IsOpenedWell x.opening) (list_map server_log ss)) (sym one) (well, tt))

  pub run_to : IsRunTo lines h.turns h.hs r
  run_to = record { first = h.ran.first; begins = h.ran.is_first; count = seats_many; course = h.ran.course; sent = h.sent; tells = told; right = seat_right; history = cut_history; alone = alone }

-- it ended there for that fault
abbrev pub cut_short : {V : Type 0} (G : Ghosts V) (lines : List NumberedLine) (f : RunFault) (left : Stations V) (vs : List (Vec Item Global)) (h : HasEndedEarly G (servers_said lines) lines f left vs) → TellAll (course_of G h.last)
    → ((n : ℕ) → IsSeat (course_of G h.last) n → servers_said lines ≡ 1 → IsBare (seat_at (course_of G h.last) n).opening) → IsCutShort lines f (course_of G h.last)
cut_short G lines f left vs h told bare = record { turns = h.turns; happened = h.hs; run = run_to G lines h.last (come_early G lines f left vs h) told bare; due = h.due; stopped = h.next_was; ends = h.ends }

-- or was played to its end
pub played_end : {V : Type 0} (G : Ghosts V) (lines : List NumberedLine) (last : Stations V) (vs : List (Vec Item Global)) (text : List ℕ) (h : HasPlayedOut G (servers_said lines) lines last vs text) → TellAll (course_of G last)
    → ((n : ℕ) → IsSeat (course_of G last) n → servers_said lines ≡ 1 → IsBare (seat_at (course_of G last) n).opening) → IsPlayedToEnd lines (course_of G last)
played_end G lines last vs text h told bare = record { turns = h.turns; happened = h.hs; run = run_to G lines last (come_out G lines last vs text h) told bare; played = h.played }
