-- a run that was played to its end, on the disks of a bay
use Rattle.std.specs.Prelude.{Vec, Bool, false, IsTrue, map as list_map, slice_get, Option, Some, Ok}
use Rattle.std.specs.Global.{Global}
use Rattle.std.specs.FinMap as map
use Rattle.std.specs.List.{AllByRecursion}
use Rattle.std.proofs.Common.{inl, inr, ◌⊎◌, ◌≡◌, ℕ, zero, suc, ◌+◌, ◌-◌, ◌<◌, ◌≤◌, List, [], ◌∷◌, length, refl, sym, ◌∙◌, ap, subst, arith}
use Rattle.std.proofs.lemmas.List.{length-map}
use Rattle.alp_base.specs.Notes.{Notes}
use Rattle.alp_base.specs.declared.allowance.Allowance.TheVariants.{Free}
use Rattle.alp_course.specs.Courses.{Seat, IsOneOf, IsSeat, seat_at, TellAll}
use Rattle.alp_course.specs.Links.{server_log}
use Rattle.alp_disk.specs.declared.disk.Disk.{Ghosts}
use Rattle.alp_fields.specs.ClockNote.{clock_name, clock_form}
use Rattle.alp_history.specs.Log as logs
use Rattle.alp_history.specs.RunLogs as runs
use Rattle.alp_history.specs.Numbers.{AreAnswered}
use Rattle.alp_history.specs.Theorems.{IsProper}
use Rattle.alp_history.proofs.CommittedActs.{commits}
use Rattle.alp_history.proofs.OneThread.{serial-all, charged-all, numbering}
use Rattle.alp_history.proofs.Promises.{promises}
use Rattle.alp_history.proofs.Shared.{sharing}
use Rattle.alp_journal.specs.Along.{Along, state_after}
use Rattle.alp_journal.specs.Answered.{IsAnsweredSo}
use Rattle.alp_journal.specs.Moves.{next}
use Rattle.alp_journal.specs.Opening.{Start}
use Rattle.alp_journal.specs.State.{State, opened}
use Rattle.alp_journal.specs.declared.entry.Entry.{Entry}
use Rattle.alp_journal.specs.declared.log.Item.{Item}
use Rattle.alp_node.specs.Durable.{AreNotesOf}
use Rattle.alp_node.specs.NodeStates.{NodeState}
use Rattle.alp_node.specs.Nodes.{start_in}
use Rattle.alp_node.specs.declared.opened.Opened.{Opened}
use Rattle.alp_script.specs.Accepted.{RisesFrom, servers_said}
use Rattle.alp_script.specs.Volumes.{sizes_said}
use Rattle.alp_script.specs.declared.numbered.NumberedLine.{NumberedLine}
use Rattle.alp_store.specs.Holding.{Holds}
use Rattle.alp_store.specs.Starts.{IsNew}
use Rattle.alp_vault.specs.Contents.{Contents}
use Rattle.alp_vault.specs.declared.vault.Vault.{Ghosts as VaultGhosts}
use Rattle.alp_cluster.specs.Gathered.{AreStationsOf}
use Rattle.alp_cluster.specs.Goes.{opening_in}
use Rattle.alp_cluster.specs.Runs.{StopNone, HasPlayedOut}
use Rattle.alp_cluster.specs.Servers.{AreCalm, IsDone, IsOn, state_of}
use Rattle.alp_cluster.specs.Station.{standing, seat_for, seat_of}
use Rattle.alp_cluster.specs.Stations.{AreCalmSince, HaveGone, IsManned, course_of, openings_of}
use Rattle.alp_cluster.specs.declared.station.Station.{Station}
use Rattle.alp_cluster.specs.declared.stations.Stations.{Stations}
use Rattle.alp_top.specs.Disks.{AreBegun, AreOthersSame, AreClosed, notes_in}
use Rattle.alp_top.specs.Endings.{IsLogAt, AreRestsOf, IsReportOf, shown_text}
use Rattle.alp_top.specs.Besides.{IsStoredWhole, AreAtRest, AreFromDisks, IsHistory, HasLaws, IsText, IsRunOf}
use Rattle.alp_top.specs.Commands.{shown_as}
use Rattle.alp_top.specs.Headline.{Lines, HeldBefore, Correct}
use Rattle.alp_top.specs.Logs.{Log, ServerOfLog, openings, start_of, log_of}
use Rattle.alp_top.specs.Reports.{end_of}
use Rattle.alp_top.specs.Together.{BeginsSound, OpensOn, OpenOn}
use Rattle.alp_top.specs.Volumes.{pages_of, IsUnstopped, IsStored, AreReturned, IsStartable, empty_contents}
use Rattle.alp_top.specs.declared.finish.Rests.{Rests}
use Rattle.alp_top.proofs.GoneAtLemmas.{IsDoneAt, done_at}
use Rattle.alp_top.proofs.BeginLemmas.{new_by}
use Rattle.alp_top.proofs.CalmAtLemmas.{calm_at}
use Rattle.alp_top.proofs.CountedLemmas.{counted_for}
use Rattle.alp_top.proofs.FaultLemmas.{faultless}
use Rattle.alp_top.proofs.PairLemmas.{matched_at, same_there}
use Rattle.alp_top.proofs.SeatedLemmas.{there_less, seat_on, many}
use Rattle.alp_top.proofs.RestLemmas.{only_clock}
use Rattle.alp_top.proofs.SeveralLemmas.{one_node, one_same, log_many, of_script, linked_log, lawful_log, caused_log, AreDecidedSo, proper_log, decided_so, told_clients, log_at, at_rest, tallied}
use Rattle.alp_top.proofs.StartableLemmas.{startable_again}
use Rattle.alp_top.proofs.StoredLemmas.{stored}
use Rattle.alp_top.proofs.TogetherLemmas.{IsPlain, fresh_together, lone_together, plain_together, opens_by, all_open}

-- ---- openings

pub some_same : {X : Type 0} (x y : X) → ◌≡◌ {A = Option X} (Some x) (Some y) → x ≡ y
some_same x y e = cc

pub map_at : {A B : Type 0} (f : A → B) (xs : List A) (i : ℕ) (x : A) → slice_get xs i ≡ Some x → slice_get (list_map f xs) i ≡ Some (f x)
map_at f [] i x is = absurd (nothing_there i x is)
  where
    nothing_there : {A : Type 0} (i : ℕ) (x : A) → slice_get [] i ≡ Some x → ⊥
    nothing_there i x is = cc
map_at f (y ∷ xs) zero x is = ap (λ (z : _). Some (f z)) (some_same y x is)
map_at f (y ∷ xs) (suc i) x is = map_at f xs i x is

-- the server at a place opened on what that at the place did before
pub opening_same : {V : Type 0} (first now : Stations V) (i : ℕ) (a b : Station V) (n m : NodeState V) → openings_of now ≡ openings_of first → slice_get first.all.items i ≡ Some a → a.server ≡ standing n → slice_get now.all.items i ≡ Some b → b.server ≡ standing m → m.opening ≡ n.opening
opening_same first now i a b n m same at was there stands =
    let one : slice_get (openings_of first) i ≡ Some (Some n.opening) = map_at (λ (x : Station _). opening_in x.server) first.all.items i a at ∙ ap (λ o. Some (opening_in o)) was in
    let two : slice_get (openings_of now) i ≡ Some (Some m.opening) = map_at (λ (x : Station _). opening_in x.server) now.all.items i b there ∙ ap (λ o. Some (opening_in o)) stands in
    some_same m.opening n.opening (some_same (Some m.opening) (Some n.opening) (sym two ∙ ap (λ os. slice_get os i) same ∙ one))

all_by : {A : Type 0} (P : A → Type 0) (xs : List A) → ((i : ℕ) (x : A) → slice_get xs i ≡ Some x → P x) → AllByRecursion P xs
all_by P [] f = tt
all_by P (x ∷ xs) f = (f 0 x refl, all_by P xs (λ i y at. f (suc i) y at))

all_map : {A B : Type 0} (P : B → Type 0) (f : A → B) (xs : List A) → AllByRecursion (λ (x : A). P (f x)) xs → AllByRecursion P (list_map f xs)
all_map P f [] h = tt
all_map P f (x ∷ xs) h = (h.0, all_map P f xs h.1)

-- all vaults tell
pub tell_all : {V : Type 0} (G : VaultGhosts V) (s : Stations V) → ((i : ℕ) (x : Station V) → slice_get s.all.items i ≡ Some x → IsTrue (seat_of G x).tells) → TellAll (course_of G s)
tell_all G s f = all_map (λ (z : Seat). IsTrue z.tells) (seat_of G) s.all.items (all_by (λ (x : Station _). IsTrue (seat_of G x).tells) s.all.items f)

-- ---- the run

module _ {V D U : Type 0} (G : VaultGhosts V) (g : Ghosts D) (tells : Bool) (told : IsTrue tells) (lines : List NumberedLine) (before mid after : ℕ → Option D) (ns : List (NodeState V)) (ds : List D) (first last : Stations V) (stand : AreStationsOf ns first.all.items)
    (many_is : length ns ≡ servers_said lines) (few : servers_said lines ≤ 8) (begun : AreBegun G g tells lines before 1 ns ds) (same : IsTrue tells → AreOthersSame (servers_said lines) before mid) (gone : HaveGone {T = Unit {0}} G (StopNone lines) first last (Ok tt)) (u : U)
    (closed : AreClosed {T = U} G g tells (length last.all.items) last.all.items mid after (Ok u)) (opens : openings_of last ≡ openings_of first) (calm : AreCalmSince G first last) (vs : List (Vec Item Global)) (text printed : List ℕ) (log : Log V) (rests : Rests V) (rises : RisesFrom 1 lines)
    (out : HasPlayedOut G (servers_said lines) lines last vs text) (kept : AreRestsOf G last.all.items rests) (shows : Bool) (is : IsReportOf rests vs (shown_text shows text) log printed) where
  abbrev at_end : (n : ℕ) → IsOneOf (servers_said lines) n → IsDoneAt {T = U} G g tells lines before after first last (Ok u) n
  at_end = done_at G g tells lines before mid after ns ds first last stand many_is begun same tt (Ok u) gone closed

  -- the vault of each tells
  rest_told : (n : ℕ) (here : IsOneOf (servers_said lines) n) → IsTrue (G.tells (at_end n here).rest.kept.vault)
  rest_told n here = (let x = at_end n here in subst IsTrue (sym (x.telling ∙ x.at.begun.started.telling)) (x.at.begun.told told))

  all_told : TellAll (course_of G last)
  all_told = tell_all G last (λ i s at.
      let here : IsOneOf (servers_said lines) (i + 1) = (let less : i < length last.all.items = there_less last.all.items i s at in let count : length last.all.items ≡ servers_said lines = out.count in record { first = omega arith; last = omega (arith, less, count) }) in
      let x = at_end (i + 1) here in
      let minus : i + 1 - 1 ≡ i = omega arith in
      let one : x.at.left ≡ s = same_there (slice_get last.all.items i) x.at.left s (ap (slice_get last.all.items) (sym minus) ∙ x.at.stands) at in
      subst (λ (z : Station V). IsTrue (seat_of G z).tells) one (subst (λ o. IsTrue (seat_for G x.at.left.is_fused x.at.left.ranks.items o).tells) (sym x.rests) (rest_told (i + 1) here)))

  -- on sound openings they are at rest
  rest_of : BeginsSound (log_of G log) → AreAtRest (log_of G log)
  rest_of = at_rest G lines last vs text printed log rests rises out kept shows is all_told

  -- what it holds is what its journal says
  stored_at : (n : ℕ) (here : IsOneOf (servers_said lines) n) → IsStoredWhole G g lines log n (at_end n here).at.taken (at_end n here).at.given
  stored_at n here =
      let x = at_end n here in
      let low : 1 ≤ n = here.first in
      let seat : IsSeat (course_of G last) n = record { first = low; last = (let high : n ≤ servers_said lines = here.last in let count : length last.all.items ≡ servers_said lines = out.count in let all : length (course_of G last).seats ≡ length last.all.items = many G last out.on in omega (arith, high, count, all)) } in
      let (s, at, m, sits) = seat_on G last out.on n seat in
      let one : s ≡ x.at.left = same_there (slice_get last.all.items (n - 1)) s x.at.left at x.at.stands in
      let manned : IsManned G (servers_said lines) n s = subst (λ (k : ℕ). IsManned G k n s) out.count m in
      let node_is : m.node ≡ x.rest = one_node s.server m.node x.rest m.keeps.stands (ap (λ (z : Station V). z.server) one ∙ x.rests) in
      let up : x.rest.kept.is_down ≡ false = ap (λ (k : NodeState V). k.kept.is_down) (sym node_is) ∙ ap (λ (z : Seat). z.stand.is_down) (sym sits) ∙ (out.up n seat).up in
      let on = subst (λ (k : NodeState V). IsOn G k) node_is m.keeps.on in
      let number : x.rest.kept.server ≡ n = ap (λ (k : NodeState V). k.kept.server) (sym node_is) ∙ m.number_is in
      let opening : x.rest.opening ≡ x.at.node.opening = opening_same first last (n - 1) x.at.station x.at.left x.at.node x.rest opens x.at.stood x.at.was x.at.stands x.rests in
      let (y, there, is_log) = matched_at IsLogAt (n - 1) last.all.items rests.logs.items s kept.logs at in
      let same_log : server_log (seat_of G s) ≡ runs.server_log (openings G) (servers_said lines) y = one_same G (servers_said lines) n s y manned is_log in
      let as_seat : seat_of G s ≡ seat_for G s.is_fused s.ranks.items (standing x.rest) = ap (seat_for G s.is_fused s.ranks.items) (m.keeps.stands ∙ ap standing node_is) in
      let start_is : start_in G x.rest ≡ start_of G (servers_said lines) y = ap (λ (z : Seat). z.opening) (sym as_seat) ∙ ap (λ (z : logs.ServerLog). z.opening) same_log in
      let state_is : state_of G x.rest ≡ end_of G (servers_said lines) y =
      ap (λ (z : Seat). state_after next (opened z.opening) z.journal) (sym as_seat) ∙ ap (λ (z : logs.ServerLog). state_after next (opened z.opening) z.journal) same_log in
      let notes_are : notes_in G x.rest ≡ (openings G).notes y.opening = ap (λ (o : Opened V). (G.held o.vault.value).notes) (ap (λ (k : NodeState V). k.opening) (sym node_is) ∙ ap (λ (k : NodeState V). k.opening) (one_node s.server m.node is_log.node m.keeps.stands is_log.stands) ∙ sym is_log.is.opened) in
      let final_is : logs.final (log_of G log) n ≡ end_of G (servers_said lines) y =
      ap (λ (l : logs.ServerLog). state_after next (opened l.opening) l.journal)
      (log_at G lines last vs text printed log rests rises out kept shows is all_told n seat ∙ ap server_log (sits ∙ sym (ap (seat_for G s.is_fused s.ranks.items) m.keeps.stands)) ∙ same_log) in
      let free : G.allowance x.rest.kept.vault ≡ Free =
      ap (λ (k : NodeState V). G.allowance k.kept.vault) (sym node_is) ∙ m.keeps.free (ap (λ (z : Seat). z.stand.is_fused) (sym sits) ∙ (out.up n seat).free) in
      let journal_is : y.journal ≡ x.rest.journal = ap (λ (z : logs.ServerLog). z.journal) (sym same_log) ∙ ap (λ (z : Seat). z.journal) as_seat in
      let since = calm_at G first last calm n x.at.station x.at.left x.at.node (standing x.rest) x.at.stood x.at.was x.at.stands x.rests in
      let unfailed : IsUnstopped lines y.journal → G.faults x.at.vault ≡ G.faults x.at.node.kept.vault = λ h. elim h [
        | inl none ↦ x.at.gone.counted none x.at.begun.started.idle.free
        | inr stopped_none ↦ x.still free ∙ (since (subst AreCalm journal_is stopped_none)).1
      ] in
      let on_disk : IsStored g (IsUnstopped lines y.journal) n (servers_said lines) (sizes_said lines n) (start_of G (servers_said lines) y) ((openings G).notes y.opening) (end_of G (servers_said lines) y) x.at.taken x.at.given =
      subst (λ (q : State). IsStored g (IsUnstopped lines y.journal) n (servers_said lines) (sizes_said lines n) (start_of G (servers_said lines) y) ((openings G).notes y.opening) q x.at.taken x.at.given) state_is
      (subst (λ (o : Start). IsStored g (IsUnstopped lines y.journal) n (servers_said lines) (sizes_said lines n) o ((openings G).notes y.opening) (state_of G x.rest) x.at.taken x.at.given) start_is
      (subst (λ (w : Notes). IsStored g (IsUnstopped lines y.journal) n (servers_said lines) (sizes_said lines n) (start_in G x.rest) w (state_of G x.rest) x.at.taken x.at.given) notes_are
      (stored G g (sizes_said lines n) n (servers_said lines) x.at.node x.rest x.at.vault x.at.taken x.at.given x.at.begun.started (x.at.begun.told told) on number opening (rest_told n here) up x.at.gone.same x.held x.serves x.at.back (IsUnstopped lines y.journal) low here.last unfailed))) in
      record {
        server = y;
        there = ap (λ (xs : List (ServerOfLog V)). slice_get xs (n - 1)) is.servers ∙ there;
        number = sym (ap (λ (o : Start). o.server) start_is) ∙ number;
        stored = on_disk;
        ends = λ begins. on_disk.said.cells ∙ ap (λ (q : State). q.holder.cells) (sym final_is) ∙ sym ((rest_of begins).ends.files n);
        noted = λ begins. only_clock (log_of G log) (proper_log G lines last vs text printed log rests rises out kept shows is all_told begins.sound) n ((rest_of begins).settled n) (end_of G (servers_said lines) y).ids.epoch on_disk.held.notes
            (subst (λ (q : State). AreNotesOf q (end_of G (servers_said lines) y).ids.epoch on_disk.held.notes) (sym final_is) on_disk.said.notes);
      }

  returned_all : AreReturned g lines (servers_said lines) before after (IsStoredWhole G g lines log)
  returned_all = record {
    each = λ n here.
        let x = at_end n here in
        record {
          taken = x.at.taken;
          from_there = x.at.begun.was told;
          given = x.at.given;
          there = x.at.there told;
          size = x.at.back.sized ∙ ap pages_of x.at.gone.same.sizes ∙ sym x.at.begun.started.sized;
          later = (let a : G.faults x.at.node.kept.vault ≡ g.faults x.at.taken = x.at.begun.started.faults in let b : g.faults x.at.given ≡ G.faults x.at.vault = x.at.back.faults in omega (arith, a, b, x.at.gone.later));
          left = stored_at n here;
        };
    others = λ n out_of. closed.others told n (λ here. out_of (subst (λ (m : ℕ). IsOneOf m n) out.count here)) ∙ same told n out_of;
  }

  many_logs : length log.servers.items ≡ servers_said lines
  many_logs = log_many G lines last vs text printed log rests rises out kept shows is

  -- each server opened on its disk
  open_all : OpenOn g lines before 1 (log_of G log).servers
  open_all = subst (λ (m : ℕ). OpenOn g lines before 1 (list_map (runs.server_log (openings G) m) log.servers.items)) (sym many_logs) (all_open G g lines log before 1 log.servers.items (λ i x at.
      let less : i < length log.servers.items = there_less log.servers.items i x at in
      let here : IsOneOf (servers_said lines) (1 + i) = record { first = omega arith; last = omega (arith, less, many_logs) } in
      let back = returned_all.each (1 + i) here in
      let minus : 1 + i - 1 ≡ i = omega arith in
      let one : back.left.server ≡ x = same_there (slice_get log.servers.items i) back.left.server x (ap (slice_get log.servers.items) (sym minus) ∙ back.left.there) at in
      subst (λ (y : ServerOfLog V). OpensOn g lines (1 + i) (before (1 + i)) (start_of G (servers_said lines) y)) one (opens_by G g lines log before (1 + i) (after (1 + i)) back)))

  -- and its disk is plain behind the run
  plain_at : BeginsSound (log_of G log) → (n : ℕ) → IsOneOf (servers_said lines) n → (given : D) × (after n ≡ Some given) × IsPlain g (servers_said lines) n given
  plain_at begins n here =
      let back = returned_all.each n here in
      (back.given, back.there, record { home = (start_of G (servers_said lines) back.left.server).sizes.home; held = back.left.stored.held; holds = back.left.stored.finish; clock = back.left.noted begins })

  from_disks : AreFromDisks G g lines log before after
  from_disks = record {
    begins = λ together. together (log_of G log) (length-map log.servers.items (runs.server_log (openings G) (length log.servers.items)) ∙ many_logs) open_all;
    alone = λ one. lone_together g lines one before;
    fresh = λ none. fresh_together g lines few before none;
    again = λ begins later same.
        plain_together g later (omega (arith, same, few)) after (λ n here.
        let (given, there, plain) = plain_at begins n (subst (λ (m : ℕ). IsOneOf m n) same here) in
        (given, there, subst (λ (m : ℕ). IsPlain g m n given) (sym same) plain));
    starts = λ begins later same n here d there further.
        let back = returned_all.each n here in
        let is : back.given ≡ d = some_same back.given d (sym back.there ∙ there) in
        let home : ℕ = (start_of G (servers_said lines) back.left.server).sizes.home in
        let held : Contents = back.left.stored.held in
        let holds : Holds n (servers_said lines) (g.size d) home (g.seen d) held = subst (λ (e : D). Holds n (servers_said lines) (g.size e) home (g.seen e) held) is back.left.stored.finish in
        subst (λ (m : ℕ). IsStartable (sizes_said later n) n m (g.size d) (g.seen d)) (sym same)
        (startable_again (sizes_said later n) n (servers_said lines) (g.size d) home (g.seen d) held holds back.left.stored.own (back.left.noted begins) further);
  }

  -- ---- the eight points, and the laws

  -- what its disk held before
  record HasHeld (n : ℕ) (taken : D) (y : ServerOfLog V) : Type 0 where
    was : Contents
    held_so : HeldBefore g (sizes_said lines n) n (servers_said lines) (start_of G (servers_said lines) y).sizes.home taken was
    opened_so : (start_of G (servers_said lines) y).cells ≡ was.cells
    noted_so : (openings G).notes y.opening ≡ map.insert was.notes clock_name (clock_form.spell (record { epoch = (start_of G (servers_said lines) y).epoch; clock = (start_of G (servers_said lines) y).clock }))

  has_held : (n : ℕ) (taken given : D) → (w : IsStoredWhole G g lines log n taken given) → HasHeld n taken w.server
  has_held n taken given w = go (new_by (sizes_said lines n) (g.size taken) (g.seen taken))
    where
      go : IsNew (sizes_said lines n) (g.size taken) (g.seen taken) ⊎ (IsNew (sizes_said lines n) (g.size taken) (g.seen taken) → ⊥) → HasHeld n taken w.server
      go (inl new) =
          let first = w.stored.new new in
          record {
            was = empty_contents;
            held_so = record { new = λ again. refl; old = λ old. absurd (old new) };
            opened_so = first.cells;
            noted_so = first.noted ∙ (λ i. map.insert map.empty clock_name (clock_form.spell (record { epoch = sym first.epoch i; clock = sym first.clock i })));
          }
      go (inr old) =
          let found = w.stored.found old in
          record { was = found.held; held_so = record { new = λ new. absurd (old new); old = λ again. found.holds }; opened_so = found.cells; noted_so = found.noted }

  abbrev l : logs.Log
  l = log_of G log

  proper_of : logs.AreSoundOpenings l → IsProper l
  proper_of sound = proper_log G lines last vs text printed log rests rises out kept shows is all_told sound

  -- each reply comes by its cause
  answered_so : AreAnswered l
  answered_so n = along-as (opened (logs.opening_of l n)) (logs.journal_of l n) (caused_log G lines last vs text printed log rests rises out kept shows is all_told n)
    where
      along-as : (s : State) (es : List Entry) → Along next IsDone s es → Along next IsAnsweredSo s es
      along-as s [] h = tt
      along-as s (e ∷ es) h = ((false, h.0.1), along-as (next s e) es h.1)

  laws_all : HasLaws G g lines before after log
  laws_all = record {
    caused = caused_log G lines last vs text printed log rests rises out kept shows is all_told;
    disks = returned_all;
    history = λ sound.
        let h : AreDecidedSo l = decided_so G lines last vs text printed log rests rises out kept shows is all_told sound in
        record {
          thread = h.thread;
          whole = h.whole;
          order = h.order;
          shared = sharing l (proper_of sound);
          acts = commits l (proper_of sound);
          numbers = numbering l (proper_of sound) answered_so;
          kept = promises l (proper_of sound) (told_clients G lines last vs text printed log rests rises out kept shows is all_told);
          counted = counted_for G lines log (of_script G lines last vs text printed log rests rises out kept shows is) (linked_log G lines last vs text printed log rests rises out kept shows is all_told)
              (lawful_log G lines last vs text printed log rests rises out kept shows is all_told) sound;
        };
    rest = rest_of;
    from_disks = from_disks;
  }

  -- what the laws say of the decided transactions
  history_of : BeginsSound l → IsHistory G lines log
  history_of begins = laws_all.history begins.sound

  correct_run : Correct G g (Lines (shown_as shows) lines) (IsText printed) before after log
  correct_run = record {
    output = tallied G lines last vs text printed log rests rises out kept shows is all_told;
    faithful = record {
      count = many_logs;
      played = (of_script G lines last vs text printed log rests rises out kept shows is, all_told);
      unfailed = λ n. faultless (logs.opening_of l n) (logs.journal_of l n) (lawful_log G lines last vs text printed log rests rises out kept shows is all_told n)
          (caused_log G lines last vs text printed log rests rises out kept shows is all_told n);
    };
    lawful = (lawful_log G lines last vs text printed log rests rises out kept shows is all_told, linked_log G lines last vs text printed log rests rises out kept shows is all_told);
    stored = record {
      each = λ n here.
          let back = returned_all.each n here in
          record {
            taken = back.taken;
            from_there = back.from_there;
            given = back.given;
            there = back.there;
            size = back.size;
            later = back.later;
            left = record {
              server = back.left.server;
              there = back.left.there;
              number = back.left.number;
              was = (has_held n back.taken back.given back.left).was;
              before = (has_held n back.taken back.given back.left).held_so;
              opened = (has_held n back.taken back.given back.left).opened_so;
              noted = (has_held n back.taken back.given back.left).noted_so;
              held = back.left.stored.held;
              finish = back.left.stored.finish;
              cells = back.left.stored.said.cells;
              durable = back.left.stored.durable;
            };
          };
      others = returned_all.others;
    };
    serial = λ begins.
        serial-all l (proper_of begins.sound) answered_so (λ n m. (here : IsOneOf (servers_said lines) n) → (returned_all.each n here).left.stored.held.cells ≡ m) (λ n here. (returned_all.each n here).left.ends begins);
    whole = λ begins x js j among has.
        ((history_of begins).whole.listed.applies j.server j x.trans x ((rest_of begins).ends.applied x js j (subst (λ (ds : List logs.Decision). logs.IsIn {A = logs.Decision} (x, js) ds) (commits l (proper_of begins.sound)) among) has)).1;
    kept = λ begins. (history_of begins).kept;
    charged = λ begins. (λ n. (begins.sound n).files_begun, charged-all l (proper_of begins.sound) answered_so);
  }

  pub run_over : IsRunOf G g shows lines log printed before after
  run_over = record { correct = correct_run; laws = laws_all }
