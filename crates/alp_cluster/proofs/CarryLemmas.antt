-- A message comes from one server of a run to another.
use Rattle.std.specs.Prelude.{◌≢◌, ◌&&◌, ◌||◌, Bool, true, false, map as list_map, slice_get, slice_set, Option, None, Some, IsSome, Vec}
use Rattle.std.specs.Global.{Global}
use Rattle.std.proofs.Common.{◌≡◌, ℕ, ◌+◌, ◌-◌, ◌<◌, ◌≤◌, List, [], ◌∷◌, ◌++◌, length, refl, sym, ◌∙◌, ap, subst, arith}
use Rattle.std.proofs.lemmas.List.{append_assoc, length-map}
use Rattle.alp_journal.specs.Answered.{entries_limit}
use Rattle.alp_journal.specs.declared.event.Event.TheVariants as event
use Rattle.alp_journal.specs.declared.message.Message.{Message}
use Rattle.alp_posts.specs.Messages.{messages_to}
use Rattle.alp_posts.specs.Post.{Post, took}
use Rattle.alp_posts.specs.Posts.{post_at, with_post}
use Rattle.alp_vault.specs.declared.vault.Vault.{Ghosts}
use Rattle.alp_course.specs.Courses.{Course, Occurrence, looks, brings, loses, repeats, last_rank, seat_at, next_message, is_waiting, AreTwo, Arrives, IsBrought, IsLost, IsRepeated}
use Rattle.alp_course.specs.Languages.{Just}
use Rattle.alp_course.specs.Carries.{ArePairCarried, none_waits, one_waits, brings_some}
use Rattle.alp_course.specs.Plays.{to_come}
use Rattle.alp_course.proofs.LanguageLemmas.{cut_just}
use Rattle.alp_course.proofs.WordLemmas.{brings_append}
use Rattle.alp_cluster.specs.Fills.{IsEndFor, seen_in}
use Rattle.alp_cluster.specs.Goes.{opening_in}
use Rattle.alp_cluster.specs.Messages.{IfOr, taking_at, AreApart, HasArrived, FailsFor, EndsEventAt, DidSay}
use Rattle.alp_cluster.specs.Station.{seat_of, IsLeftFailed}
use Rattle.alp_cluster.specs.Stations.{AreOn, IsOneOf, AreLater, IsReachedBy, IsNoFurther, EndsFor, Go, Did, DidSome, IsCalmSince, unshown, course_of, server_in, state_for}
use Rattle.alp_cluster.specs.declared.fault.RunFault.{RunFault}
use Rattle.alp_cluster.specs.declared.fault.RunFault.TheVariants as fault
use Rattle.alp_cluster.specs.declared.station.Station.{Station}
use Rattle.alp_cluster.specs.declared.stations.Stations.{Stations}
use Rattle.alp_cluster.proofs.DidLemmas.{go_none, go_then, go_one, did_just, later_then}
use Rattle.alp_cluster.proofs.LineLemmas.{one_cut}
use Rattle.alp_cluster.proofs.StationsLemmas.{seat_is}

module _ {V : Type 0} (G : Ghosts V) where
  -- ---- the same servers

  -- what was taken is no matter of them
  pub same_later : (a b : Stations V) → AreOn G b → b.all ≡ a.all → AreLater G a b
  same_later a b on all = record {
    on = on;
    openings = ap (λ (v : Vec (Station V) Global). list_map (λ (x : Station V). opening_in x.server) v.items) all;
    reached = λ n k x h. subst (λ (v : Vec (Station V) Global). IsReachedBy (state_for (slice_get v.items (n - 1))) k x) (sym all) h;
    calm = λ n. subst (λ (v : Vec (Station V) Global). IsCalmSince G (server_in (slice_get a.all.items (n - 1))) (server_in (slice_get v.items (n - 1)))) (sym all) (λ calm. (calm, refl));
  }

  pub count_later : (a b : Stations V) → AreLater G a b → length b.all.items ≡ length a.all.items
  count_later a b later =
      let f = λ (x : Station V). opening_in x.server in
      sym (length-map b.all.items f) ∙ ap (λ xs. length xs) later.openings ∙ length-map a.all.items f

  pub one_later : (a b : Stations V) (n : ℕ) → AreLater G a b → IsOneOf a n → IsOneOf b n
  one_later a b n later one = record { first = one.first; last = (let same : length b.all.items ≡ length a.all.items = count_later a b later in let low : n ≤ length a.all.items = one.last in omega (arith, same, low)) }

  pub apart_later : (a b : Stations V) (from to : ℕ) → AreLater G a b → AreApart a from to → AreApart b from to
  apart_later a b from to later two = record { sender = one_later a b from later two.sender; receiver = one_later a b to later two.receiver; apart = two.apart }

  -- two servers of it are two of its course
  pub two_of : (s : Stations V) (from to : ℕ) → AreApart s from to → AreTwo (course_of G s) from to
  two_of s from to two =
      let many : length (list_map (seat_of G) s.all.items) ≡ length s.all.items = length-map s.all.items (seat_of G) in
      let low : from ≤ length s.all.items = two.sender.last in
      let high : to ≤ length s.all.items = two.receiver.last in
      record { sender = record { first = two.sender.first; last = omega (arith, many, low) }; receiver = record { first = two.receiver.first; last = omega (arith, many, high) }; apart = two.apart }

  module _ (s : Stations V) (from to : ℕ) (two : AreApart s from to) where
    -- ---- a look

    pub looked : (after : Stations V) (waits : Bool) → AreOn G after → after.all ≡ s.all → course_of G after ≡ course_of G s → waits ≡ is_waiting (course_of G s) from to → Did G (Just (looks from to waits ∷ [])) s after
    looked after waits on all course is = did_just G (looks from to waits) s after (go_one G (looks from to waits) s after (same_later s after on all) (two_of s from to two, is, course) tt)

    -- ---- a message is lost

    lost_at : (after : Course) (rank : ℕ) (o : Option Message) → rank ≡ last_rank (seat_at (course_of G s) from).ranks → IfOr o (after ≡ course_of G s) (λ m. after ≡ taking_at (course_of G s) from to m rank) → IsLost (course_of G s) from to o after
    lost_at after rank None is h = h
    lost_at after rank (Some m) is h = h ∙ ap (taking_at (course_of G s) from to m) is

    pub lost : (after : Stations V) (rank : ℕ) → AreOn G after → after.all ≡ s.all → rank ≡ last_rank (seat_at (course_of G s) from).ranks
        → IfOr (next_message (course_of G s) from to) (course_of G after ≡ course_of G s) (λ m. course_of G after ≡ taking_at (course_of G s) from to m rank) → Did G (Just (loses from to ∷ [])) s after
    lost after rank on all is taken =
        did_just G (loses from to) s after (go_one G (loses from to) s after (same_later s after on all) (two_of s from to two, lost_at (course_of G after) rank (next_message (course_of G s) from to) is taken) tt)

    -- ---- a message is brought

    -- there is none
    pub none_brought : (after : Stations V) → AreOn G after → after.all ≡ s.all → course_of G after ≡ course_of G s → next_message (course_of G s) from to ≡ None → Did G (Just (brings from to ∷ [])) s after
    none_brought after on all course none =
        did_just G (brings from to) s after
        (go_one G (brings from to) s after (same_later s after on all) (two_of s from to two, subst (λ (o : Option Message). IsBrought (course_of G s) from to o (course_of G after)) (sym none) course) tt)

    module _ (mid : Stations V) (m : Message) (seen : ℕ) (came : HasArrived G from to m seen s mid) where
      -- the next one is still there to be taken
      pub still_next : (x : Station V) → AreOn G s → slice_get s.all.items (from - 1) ≡ Some x → next_message (course_of G mid) from to ≡ next_message (course_of G s) from to
      still_next x on there =
          let here : slice_get mid.all.items (from - 1) ≡ Some x = came.sender two.sender.first (λ same. two.apart same) ∙ there in
          let seat : seat_at (course_of G mid) from ≡ seat_at (course_of G s) from = seat_is G mid came.later.on from (one_later s mid from came.later two.sender) x here ∙ sym (seat_is G s on from two.sender x there) in
          (λ i. slice_get (messages_to to (seat i).journal) (post_at (came.arrives.posts i) from to).taken)

      brought_at : (after : Course) → after ≡ taking_at (course_of G mid) from to m seen → Arrives (taking_at (course_of G s) from to m seen) from to m seen after
      brought_at after taken = record {
        here = record { first = came.arrives.here.first; last = came.arrives.here.last };
        entries = came.arrives.entries;
        stand = came.arrives.stand;
        made = came.arrives.made;
        seats = ap (λ (r : Course). r.seats) taken ∙ came.arrives.seats;
        posts = ap (λ (r : Course). r.posts) taken ∙ ap (λ (p : List Post). with_post p from to (took m seen [] (post_at p from to))) came.arrives.posts;
      }

      pub brought : (after : Stations V) → AreOn G after → after.all ≡ mid.all → seen ≡ last_rank (seat_at (course_of G s) from).ranks → next_message (course_of G s) from to ≡ Some m → course_of G after ≡ taking_at (course_of G mid) from to m seen
          → Did G (Just (brings from to ∷ [])) s after
      brought after on all is next taken =
          did_just G (brings from to) s after (go_one G (brings from to) s after (later_then G s mid after came.later (same_later mid after on all)) (
            two_of s from to two,
            subst (λ (o : Option Message). IsBrought (course_of G s) from to o (course_of G after)) (sym next)
                (subst (λ (n : ℕ). Arrives (taking_at (course_of G s) from to m n) from to m n (course_of G after)) is (brought_at (course_of G after) taken)),
          ) tt)

      -- ---- or once more

      pub repeated : (post_at (course_of G s).posts from to).last ≡ Some (m, seen) → Did G (Just (repeats from to ∷ [])) s mid
      repeated last =
          did_just G (repeats from to) s mid
          (go_one G (repeats from to) s mid came.later (two_of s from to two, subst (λ (o : Option (Message × ℕ)). IsRepeated (course_of G s) from to o (course_of G mid)) (sym last) came.arrives) tt)

    pub none_repeated : AreOn G s → (post_at (course_of G s).posts from to).last ≡ None → Did G (Just (repeats from to ∷ [])) s s
    none_repeated on none =
        did_just G (repeats from to) s s
        (go_one G (repeats from to) s s (same_later s s on refl) (two_of s from to two, subst (λ (o : Option (Message × ℕ)). IsRepeated (course_of G s) from to o (course_of G s)) (sym none) refl) tt)

    -- ---- its step was not taken as it is to be

    -- that of the next one, which is still there to be taken
    module _ (shown after : Stations V) (on : AreOn G s) (all : shown.all ≡ s.all) (course : course_of G shown ≡ course_of G s) (m : Message) (next : next_message (course_of G s) from to ≡ Some m) where
      brought_done : (f : RunFault) → IsEndFor f (course_of G s) (to_come (brings from to)) → EndsFor G f (to_come (brings from to)) s after → DidSome G (Just (brings from to ∷ [])) f s after
      brought_done f ends left = record { at_end = s; hs = []; due = to_come (brings from to); cut = cut_just (brings from to); goes = go_none G s on; ends = ends; left = left }

      brings_one : AreTwo (course_of G s) from to × IsSome (next_message (course_of G s) from to)
      brings_one = (two_of s from to two, subst (λ (o : Option Message). IsSome o) (sym next) refl)

      up_so : (seat_at (course_of G shown) to).stand.is_down ≡ false → (seat_at (course_of G s) to).stand.is_down ≡ false
      up_so up = ap (λ (r : Course). (seat_at r to).stand.is_down) (sym course) ∙ up

      brought_failed : (k : ℕ) → k ≡ to → (seen : ℕ) → seen ≡ last_rank (seat_at (course_of G s) from).ranks → FailsFor G to seen (event.Arrive from m) shown after → DidSome G (Just (brings from to ∷ [])) (fault.DiskFault k) s after
      brought_failed k same seen is h = subst (λ (i : ℕ). DidSome G (Just (brings from to ∷ [])) (fault.DiskFault i) s after) (sym same) (brought_done (fault.DiskFault to)
          (record { step = brings_one; there = refl; up = up_so h.up; room = subst (λ (r : Course). (seat_at r to).stand.place < entries_limit) course h.room })
          (record {
            here = two.receiver;
            station = h.station;
            left = h.left;
            was = h.was;
            there = ap (λ (v : Vec (Station V) Global). slice_get v.items (to - 1)) (sym all) ∙ h.there;
            stood = h.stood;
            others = h.others ∙ ap (λ (v : Vec (Station V) Global). slice_set v.items (to - 1) h.left) all;
            posts = ap (list_map unshown) h.posts ∙ ap (λ (r : Course). r.posts) course;
            event = event.Arrive from m;
            its = (m, next, refl);
            fails = subst (λ (n : ℕ). IsLeftFailed G n (event.Arrive from m) h.station h.left h.was) is h.fails;
          }))

      further : IsNoFurther G shown after → IsNoFurther G s after
      further h = record {
        course = h.course ∙ course;
        each = λ i x n there stood. h.each i x n (ap (λ (v : Vec (Station V) Global). slice_get v.items i) all ∙ there) stood;
        openings = h.openings ∙ ap (λ (v : Vec (Station V) Global). list_map (λ (x : Station V). opening_in x.server) v.items) all;
        calm = λ n. subst (λ (v : Vec (Station V) Global). IsCalmSince G (server_in (slice_get v.items (n - 1))) (server_in (slice_get after.all.items (n - 1)))) all (h.calm n);
      }

      pub ends_brought : (seen : ℕ) → seen ≡ last_rank (seat_at (course_of G s) from).ranks → (f : RunFault) → EndsEventAt G f to seen (event.Arrive from m) shown after → DidSome G (Just (brings from to ∷ [])) f s after
      ends_brought seen is fault.JournalFull room =
          brought_done fault.JournalFull (record { step = brings_one; up = up_so room.up; full = subst (λ (r : Course). entries_limit ≤ (seat_at r to).stand.place) course room.full })
          (record { servers = room.still.servers ∙ ap (λ (v : Vec (Station V) Global). list_map (λ (x : Station V). x.server) v.items) all; course = room.still.course ∙ course })
      ends_brought seen is fault.OutOfMemory h = brought_done fault.OutOfMemory tt (further h)
      ends_brought seen is (fault.DiskFault k) h = brought_failed k h.0 seen is h.1
      ends_brought seen is (fault.Start k f) h = absurd h

    -- that of the last one once more
    module _ (after : Stations V) (on : AreOn G s) (x : Message × ℕ) (last : (post_at (course_of G s).posts from to).last ≡ Some x) where
      repeated_done : (f : RunFault) → IsEndFor f (course_of G s) (to_come (repeats from to)) → EndsFor G f (to_come (repeats from to)) s after → DidSome G (Just (repeats from to ∷ [])) f s after
      repeated_done f ends left = record { at_end = s; hs = []; due = to_come (repeats from to); cut = cut_just (repeats from to); goes = go_none G s on; ends = ends; left = left }

      repeats_one : AreTwo (course_of G s) from to × IsSome (post_at (course_of G s).posts from to).last
      repeats_one = (two_of s from to two, subst (λ (o : Option (Message × ℕ)). IsSome o) (sym last) refl)

      repeated_failed : (k : ℕ) → k ≡ to → FailsFor G to x.1 (event.Arrive from x.0) s after → DidSome G (Just (repeats from to ∷ [])) (fault.DiskFault k) s after
      repeated_failed k same h = subst (λ (i : ℕ). DidSome G (Just (repeats from to ∷ [])) (fault.DiskFault i) s after) (sym same) (repeated_done (fault.DiskFault to)
          (record { step = repeats_one; there = refl; up = h.up; room = h.room })
          (record {
            here = two.receiver;
            station = h.station;
            left = h.left;
            was = h.was;
            there = h.there;
            stood = h.stood;
            others = h.others;
            posts = ap (list_map unshown) h.posts;
            event = event.Arrive from x.0;
            its = (x, last, refl);
            fails = subst (λ (n : ℕ). IsLeftFailed G n (event.Arrive from x.0) h.station h.left h.was) (sym (ap seen_in last)) h.fails;
          }))

      pub ends_repeated : (f : RunFault) → EndsEventAt G f to x.1 (event.Arrive from x.0) s after → DidSome G (Just (repeats from to ∷ [])) f s after
      ends_repeated fault.JournalFull room = repeated_done fault.JournalFull (record { step = repeats_one; up = room.up; full = room.full }) room.still
      ends_repeated fault.OutOfMemory h = repeated_done fault.OutOfMemory tt h
      ends_repeated (fault.DiskFault k) h = repeated_failed k h.0 h.1
      ends_repeated (fault.Start k f) h = absurd h

  -- ---- all that wait

  -- so far each that waited was brought
  pub record IsCarrying (from to : ℕ) (some : Bool) (a b : Stations V) : Type 0 where
    pub hs : List Occurrence
    pub goes : Go G hs a b
    pub more : (xs : List Occurrence) → ArePairCarried from to xs → ArePairCarried from to (hs ++ xs)
    pub told : some ≡ brings_some hs

  pub carrying_none : (from to : ℕ) (s : Stations V) → AreOn G s → IsCarrying from to false s s
  carrying_none from to s on = record { hs = []; goes = go_none G s on; more = λ xs word. word; told = refl }

  module _ (from to : ℕ) (some : Bool) (a b c : Stations V) (h : IsCarrying from to some a b) where
    -- none waits any more
    pub carrying_over : Did G (Just (looks from to false ∷ [])) b c → DidSay G (ArePairCarried from to) some a c
    carrying_over look = record {
      hs = h.hs ++ look.hs;
      word = subst (λ (xs : List Occurrence). ArePairCarried from to (h.hs ++ xs)) (sym look.word) (h.more (looks from to false ∷ []) none_waits);
      goes = go_then G h.hs look.hs a b c h.goes look.goes;
      told = h.told ∙ none_more (brings_some h.hs) ∙ ap (λ (x : Bool). brings_some h.hs || x) (sym (ap brings_some look.word)) ∙ sym (brings_append h.hs look.hs);
    }
      where
        none_more : (x : Bool) → x ≡ x || false
        none_more true = refl
        none_more false = refl

    module _ (look : Did G (Just (looks from to true ∷ [])) b c) where
      looking : Go G (looks from to true ∷ []) b c
      looking = subst (λ (xs : List Occurrence). Go G xs b c) look.word look.goes

      -- one waits, and is brought
      pub carrying_more : (d : Stations V) → Did G (Just (brings from to ∷ [])) c d → IsCarrying from to true a d
      carrying_more d bring = record {
        hs = h.hs ++ looks from to true ∷ brings from to ∷ [];
        goes = go_then G h.hs (looks from to true ∷ brings from to ∷ []) a b d h.goes (go_then G (looks from to true ∷ []) (brings from to ∷ []) b c d looking (subst (λ (xs : List Occurrence). Go G xs c d) bring.word bring.goes));
        more = λ xs word. subst (ArePairCarried from to) (sym (append_assoc h.hs (looks from to true ∷ brings from to ∷ []) xs)) (h.more (looks from to true ∷ brings from to ∷ xs) (one_waits xs word));
        told = sym (brings_append h.hs (looks from to true ∷ brings from to ∷ []) ∙ all_some (brings_some h.hs));
      }
        where
          all_some : (x : Bool) → x || true ≡ true
          all_some true = refl
          all_some false = refl

      -- or cannot be
      pub carrying_cut : (f : RunFault) (d : Stations V) → DidSome G (Just (brings from to ∷ [])) f c d → DidSome G (ArePairCarried from to) f a d
      carrying_cut f d cut =
          let (none, is) = one_cut (brings from to) cut.hs cut.due cut.cut in
          record {
            at_end = cut.at_end;
            hs = h.hs ++ looks from to true ∷ [];
            due = cut.due;
            cut = record {
              coming = brings from to;
              rest = looks from to false ∷ [];
              is = is;
              all = subst (ArePairCarried from to) (sym (append_assoc h.hs (looks from to true ∷ []) (brings from to ∷ looks from to false ∷ []))) (h.more (looks from to true ∷ brings from to ∷ looks from to false ∷ []) (one_waits (looks from to false ∷ []) none_waits));
            };
            goes = go_then G h.hs (looks from to true ∷ []) a b cut.at_end h.goes
                (subst (λ (xs : List Occurrence). Go G xs b cut.at_end) (ap (λ (xs : List Occurrence). looks from to true ∷ xs) none) (go_then G (looks from to true ∷ []) cut.hs b c cut.at_end looking cut.goes));
            ends = cut.ends;
            left = cut.left;
          }
