-- a run of several servers that is over: its log, its report, and what holds of its journals
use Rattle.std.specs.Prelude.{Vec, Bool, true, false, IsTrue, flat_map, map as list_map, get_or, slice_get, Option, Some}
use Rattle.std.specs.Global.{Global}
use Rattle.std.specs.List.{AllByRecursion}
use Rattle.std.proofs.Common.{◌≡◌, ℕ, zero, suc, ◌+◌, ◌-◌, ◌<◌, ◌≤◌, List, [], ◌∷◌, ◌++◌, length, refl, sym, ◌∙◌, ap, subst, arith}
use Rattle.alp_files.specs.Cells.{Cells}
use Rattle.alp_journal.specs.Along.{Along, state_after}
use Rattle.alp_journal.specs.Laws.{IsLawful}
use Rattle.alp_journal.specs.Moves.{next}
use Rattle.alp_journal.specs.Opening.{start_at}
use Rattle.alp_journal.specs.State.{State, opened}
use Rattle.alp_journal.specs.declared.log.Item.{Item}
use Rattle.alp_history.specs.Handed.{AreOfClients}
use Rattle.alp_history.specs.Items as items
use Rattle.alp_history.specs.Log as logs
use Rattle.alp_history.specs.RunLogs as runs
use Rattle.alp_history.specs.RunLogs.{item_of}
use Rattle.alp_history.specs.Theorems.{IsProper, IsOneThread, IsSettled}
use Rattle.alp_history.proofs.Merged.{history}
use Rattle.alp_history.proofs.Agreed.{agreement}
use Rattle.alp_history.proofs.AtRest.{settling}
use Rattle.alp_history.proofs.EffectiveActs.{listing}
use Rattle.alp_history.proofs.Latest.{latest-of-all}
use Rattle.alp_history.proofs.LockEnds.{stamps_go_by_locks}
use Rattle.alp_history.proofs.Wholes.{wholeness}
use Rattle.alp_course.proofs.SeatLemmas.{of_seat}
use Rattle.alp_course.specs.Resting.{AreSpelled}
use Rattle.alp_course.specs.Courses.{Course, Seat, IsSeat, no_seat, seat_at, TellAll}
use Rattle.alp_course.specs.Links as links
use Rattle.alp_course.specs.Links.{server_log}
use Rattle.alp_course.specs.Plays.{ArePlayed}
use Rattle.alp_course.specs.Turns.{Turn, lists_in, own_in, turns_of, turns_text}
use Rattle.alp_course.proofs.LinkLemmas.{linking}
use Rattle.alp_course.proofs.PlayLemmas.{played_sent}
use Rattle.alp_course.proofs.TurnLemmas.{turns_are}
use Rattle.alp_node.specs.Nodes as node
use Rattle.alp_node.specs.Nodes.{start_in}
use Rattle.alp_node.specs.NodeStates.{NodeState}
use Rattle.alp_report.specs.Reports.{Holding, server_text, owned_by, count_text}
use Rattle.alp_report.specs.Sections.{held_text, owned_text, printed as printed_of}
use Rattle.alp_report.specs.declared.summary.Held.{Held}
use Rattle.alp_script.specs.Accepted.{RisesFrom, servers_said}
use Rattle.alp_script.specs.declared.numbered.NumberedLine.{NumberedLine}
use Rattle.alp_session.specs.Crowds.{new_crowd}
use Rattle.alp_vault.specs.declared.vault.Vault.{Ghosts}
use Rattle.alp_cluster.specs.Runs.{HasPlayedOut}
use Rattle.alp_cluster.specs.Servers.{IsDone, state_of}
use Rattle.alp_cluster.specs.Station.{standing, seat_for, seat_of}
use Rattle.alp_cluster.specs.Stations.{IsManned, course_of, state_at}
use Rattle.alp_cluster.specs.declared.server.Server.{Server}
use Rattle.alp_cluster.specs.declared.server.Server.TheVariants.{Up}
use Rattle.alp_cluster.specs.declared.station.Station.{Station}
use Rattle.alp_cluster.specs.declared.stations.Stations.{Stations}
use Rattle.alp_top.specs.Anywhere.{IsPrintedOf, IsPlayedThrough}
use Rattle.alp_top.specs.Commands.{shown_as}
use Rattle.alp_top.specs.Endings.{AreCellsOf, IsHeldAt, IsLogAt, AreRestsOf, IsReportOf, shown_text}
use Rattle.alp_top.specs.Besides.{AreCaused, AreDecidedWhole, AreInOrder, AreAtRest}
use Rattle.alp_top.specs.Headline.{IsOfScript}
use Rattle.alp_top.specs.Logs.{Log, ServerOfLog, openings, log_of, lists_of}
use Rattle.alp_top.specs.Pairs.{AreMatched}
use Rattle.alp_top.specs.Reports.{end_of, holding_in, files_text_of, owners_text_of, tallied_text, shown_lines, tallied_for}
use Rattle.alp_top.specs.Tallies.{begun_in, committed_in}
use Rattle.alp_top.specs.Together.{BeginsSound}
use Rattle.alp_top.specs.declared.finish.Rests.{Rests}
use Rattle.alp_top.proofs.KeptLemmas.{clients_kept}
use Rattle.alp_top.proofs.PairLemmas.{matched_many, matched_map, same_there}
use Rattle.alp_top.proofs.SeatedLemmas.{there_less, seat_on, numbered, of_each, proper_course, many}
use Rattle.alp_top.proofs.SummaryLemmas.{held_is, owned_is}

node_in : {V : Type 0} → NodeState V → Option (Server V) → NodeState V
node_in d (Some (Up n)) = n
node_in d s = d

pub one_node : {V : Type 0} (o : Option (Server V)) (n m : NodeState V) → o ≡ standing n → o ≡ standing m → n ≡ m
unfolding node_in
one_node o n m a b = ap (node_in n) (sym a ∙ b)

pub all_seat : (P : Seat → Type 0) (ss : List Seat) (i : ℕ) → AllByRecursion P ss → i < length ss → P (get_or ss i no_seat)
all_seat P [] i h less = absurd (omega (arith, less))
all_seat P (s ∷ ss) zero h less = h.0
all_seat P (s ∷ ss) (suc i) h less = all_seat P ss i h.1 (omega (arith, less))

all_back : {A B : Type 0} (P : B → Type 0) (f : A → B) (xs : List A) → AllByRecursion P (list_map f xs) → AllByRecursion (λ (x : A). P (f x)) xs
all_back P f [] h = tt
all_back P f (x ∷ xs) h = (h.0, all_back P f xs h.1)

-- what holds of the decided transactions, of the log alone
pub record AreDecidedSo (log : logs.Log) : Type 0 where
  pub thread : IsOneThread log
  pub whole : AreDecidedWhole log
  pub order : AreInOrder log

module _ {V : Type 0} (G : Ghosts V) (servers : ℕ) where
  -- the log of a server that stands there, as the theorems read it
  pub one_same : (n : ℕ) (s : Station V) (x : ServerOfLog V) → IsManned G servers n s → IsLogAt s x → server_log (seat_of G s) ≡ runs.server_log (openings G) servers x
  one_same n s x m l =
      let same : m.node ≡ l.node = one_node s.server m.node l.node m.keeps.stands l.stands in
      let all : G.servers l.node.opening.vault.value ≡ servers = subst (λ (k : NodeState V). G.servers k.opening.vault.value ≡ k.kept.servers) same m.keeps.on.all ∙ ap (λ (k : NodeState V). k.kept.servers) (sym same) ∙ m.count_is in
      ap (λ o. server_log (seat_for G s.is_fused s.ranks.items o)) l.stands
      ∙ (λ i. record {
        opening = start_at (sym l.is.number i) (all i) (G.volume (sym l.is.opened i).vault.value) (G.held (sym l.is.opened i).vault.value).cells (G.held (sym l.is.opened i).vault.value).notes;
        journal = sym l.is.entries i;
        ranks = sym l.is.ranked i;
      })

  pub same_logs : (k : ℕ) (ss : List (Station V)) (xs : List (ServerOfLog V)) → ((i : ℕ) (s : Station V) → slice_get ss i ≡ Some s → IsManned G servers (k + i) s) → AreMatched IsLogAt ss xs
      → list_map server_log (list_map (seat_of G) ss) ≡ list_map (runs.server_log (openings G) servers) xs
  same_logs k [] [] f h = refl
  same_logs k [] (x ∷ xs) f h = absurd h
  same_logs k (s ∷ ss) [] f h = absurd h
  same_logs k (s ∷ ss) (x ∷ xs) f h =
      (λ i. one_same (k + 0) s x (f 0 s refl) h.0 i ∷ same_logs (k + 1) ss xs (λ j y at. (let same : k + suc j ≡ k + 1 + j = omega arith in subst (λ (m : ℕ). IsManned G servers m y) same (f (suc j) y at))) h.1 i)

-- ---- what is printed of a server

-- what is printed of it is what its journal says
pub record IsSaidBy {V : Type 0} (G : Ghosts V) (servers : ℕ) (d : Held) (x : ServerOfLog V) : Type 0 where
  pub files : held_text d ≡ files_text_of (end_of G servers x)
  pub owners : owned_text d ≡ owners_text_of (end_of G servers x)

-- a server that is up, with a vault that tells
pub record IsUpTold {V : Type 0} (G : Ghosts V) (servers : ℕ) (s : Station V) : Type 0 where
  pub number : ℕ
  pub manned : IsManned G servers number s
  pub up : manned.node.kept.is_down ≡ false
  pub told : IsTrue (G.tells manned.node.kept.vault)

module _ {V : Type 0} (G : Ghosts V) (servers : ℕ) where
  pub one_said : (s : Station V) (d : Held) (x : ServerOfLog V) → IsUpTold G servers s → IsHeldAt G s d → IsLogAt s x → IsSaidBy G servers d x
  one_said s d x u h l =
      let n : NodeState V = u.manned.node in
      let same : h.node ≡ n = one_node s.server h.node n h.stands u.manned.keeps.stands in
      let right : node.IsRight (start_in G n) (G.held n.kept.vault) n = u.manned.keeps.on.kept.right u.told in
      let m : Cells = (G.held n.kept.vault).cells in
      let cells : AreCellsOf m d = subst (λ (k : NodeState V). AreCellsOf (G.held k.kept.vault).cells d) same (h.is.cells (subst (λ (k : NodeState V). IsTrue (G.tells k.kept.vault)) (sym same) u.told)) in
      let ends : end_of G servers x ≡ state_of G n =
      ap (λ (y : logs.ServerLog). state_after next (opened y.opening) y.journal) (sym (one_same G servers u.number s x u.manned l))
      ∙ ap (λ o. state_after next (opened (seat_for G s.is_fused s.ranks.items o).opening) (seat_for G s.is_fused s.ranks.items o).journal) u.manned.keeps.stands in
      let holds : ◌≡◌ {A = Holding} (record { server = d.server; epoch = d.epoch; clock = d.clock; cells = m }) (holding_in (end_of G servers x)) =
      (λ i. record {
        server = (h.is.numbers.server ∙ ap (λ (k : NodeState V). k.kept.server) same ∙ sym right.kept.server) i;
        epoch = (h.is.numbers.epoch ∙ ap (λ (k : NodeState V). k.kept.epoch) same ∙ sym right.kept.epoch) i;
        clock = (h.is.numbers.clock ∙ ap (λ (k : NodeState V). k.kept.clock) same ∙ sym right.kept.clock) i;
        cells = right.kept.cells u.up i;
      })
      ∙ ap holding_in (sym right.says ∙ sym ends) in
      record {
        files = held_is d m cells ∙ ap server_text holds;
        owners = owned_is d m cells ∙ ap owned_by holds;
      }

  pub all_said : (ss : List (Station V)) (ds : List Held) (xs : List (ServerOfLog V)) → ((i : ℕ) (s : Station V) → slice_get ss i ≡ Some s → IsUpTold G servers s) → AreMatched (IsHeldAt G) ss ds → AreMatched IsLogAt ss xs → AreMatched (IsSaidBy G servers) ds xs
  all_said [] [] [] f h l = tt
  all_said [] [] (x ∷ xs) f h l = absurd l
  all_said [] (d ∷ ds) xs f h l = absurd h
  all_said (s ∷ ss) [] xs f h l = absurd h
  all_said (s ∷ ss) (d ∷ ds) [] f h l = absurd l
  all_said (s ∷ ss) (d ∷ ds) (x ∷ xs) f h l = (one_said s d x (f 0 s refl) h.0 l.0, all_said ss ds xs (λ i y at. f (suc i) y at) h.1 l.1)

  texts_same : (f : Held → List ℕ) (k : State → List ℕ) (ds : List Held) (xs : List (ServerOfLog V)) → ((d : Held) (x : ServerOfLog V) → IsSaidBy G servers d x → f d ≡ k (end_of G servers x)) → AreMatched (IsSaidBy G servers) ds xs
      → flat_map f ds ≡ flat_map (λ x. k (end_of G servers x)) xs
  texts_same f k [] [] each h = refl
  texts_same f k [] (x ∷ xs) each h = absurd h
  texts_same f k (d ∷ ds) [] each h = absurd h
  texts_same f k (d ∷ ds) (x ∷ xs) each h = (λ i. each d x h.0 i ++ texts_same f k ds xs each h.1 i)

  pub files_same : (ds : List Held) (xs : List (ServerOfLog V)) → AreMatched (IsSaidBy G servers) ds xs → flat_map held_text ds ≡ flat_map (λ x. files_text_of (end_of G servers x)) xs
  files_same ds xs h = texts_same held_text files_text_of ds xs (λ d x s. s.files) h

  pub owners_same : (ds : List Held) (xs : List (ServerOfLog V)) → AreMatched (IsSaidBy G servers) ds xs → flat_map owned_text ds ≡ flat_map (λ x. owners_text_of (end_of G servers x)) xs
  owners_same ds xs h = texts_same owned_text owners_text_of ds xs (λ d x s. s.owners) h

-- ---- a run that is over

module _ {V : Type 0} (G : Ghosts V) (lines : List NumberedLine) (last : Stations V) (vs : List (Vec Item Global)) (text printed : List ℕ) (log : Log V) (rests : Rests V) (rises : RisesFrom 1 lines)
    (out : HasPlayedOut G (servers_said lines) lines last vs text) (kept : AreRestsOf G last.all.items rests) (shows : Bool) (is : IsReportOf rests vs (shown_text shows text) log printed) where
  abbrev servers : ℕ
  servers = servers_said lines

  abbrev r : Course
  r = course_of G last

  pub log_many : length log.servers.items ≡ servers
  log_many = ap (λ (xs : List (ServerOfLog V)). length xs) is.servers ∙ matched_many IsLogAt last.all.items rests.logs.items kept.logs ∙ out.count

  pub lists_are : (k : ℕ) → lists_of G log k ≡ own_in k out.turns
  lists_are k = ap (λ (ws : List (Vec Item Global)). lists_in ws k) is.clients ∙ out.lists k

  pub turns_same : out.turns ≡ turns_of lines (lists_of G log)
  turns_same = turns_are servers new_crowd out.played.clients lines out.turns out.played.by_lines (lists_of G log) rises out.played.plays lists_are

  manned : (i : ℕ) (s : Station V) → slice_get last.all.items i ≡ Some s → IsManned G servers (1 + i) s
  manned i s at =
      let same : i + 1 ≡ 1 + i = omega arith in
      subst (λ (m : ℕ). IsManned G servers m s) same (subst (λ (m : ℕ). IsManned G m (i + 1) s) out.count (out.on.each i s at))

  pub server_logs : list_map server_log r.seats ≡ (log_of G log).servers
  server_logs =
      same_logs G servers 1 last.all.items rests.logs.items manned kept.logs
      ∙ (λ i. list_map (runs.server_log (openings G) (sym log_many i)) (sym is.servers i))

  abbrev pub of_script : IsOfScript G lines log
  of_script = record {
    occurred = out.hs;
    played = subst (λ (m : ℕ). ArePlayed m lines (turns_of lines (lists_of G log)) out.hs) (sym log_many) (subst (λ (ts : List Turn). ArePlayed servers lines ts out.hs) turns_same out.played);
    all = λ k. lists_are k ∙ ap (own_in k) turns_same;
    many = ap (λ (ws : List (Vec Item Global)). length ws) is.clients ∙ out.places;
    first = out.ran.first;
    begins = out.ran.is_first;
    last = r;
    course = out.ran.course;
    numbered = numbered G last out.on;
    servers = server_logs;
    up = out.up;
    taken = out.taken;
  }

  text_same : text ≡ turns_text (turns_of lines (lists_of G log))
  text_same = out.text ∙ ap turns_text turns_same

  -- the lines that are shown
  shown_same : shown_text shows text ≡ shown_lines (shown_as shows) G lines log
  shown_same = go shows
    where
      go : (b : Bool) → shown_text b text ≡ shown_lines (shown_as b) G lines log
      go true = text_same
      go false = refl

  -- what is printed, whatever the vaults tell
  pub played_through : IsPlayedThrough G shows lines log printed
  played_through = record {
    count = log_many;
    script = of_script;
    summary = is.summary;
    helds =
        subst (AreMatched IsPrintedOf r.seats) (sym is.helds)
        (matched_map (IsHeldAt G) IsPrintedOf (seat_of G) last.all.items rests.helds.items
        (λ s d h. record { number = h.is.numbers.server ∙ ap (λ o. (seat_for G s.is_fused s.ranks.items o).opening.server) (sym h.stands); epoch = h.is.numbers.epoch ∙ ap (λ o. (seat_for G s.is_fused s.ranks.items o).stand.epoch) (sym h.stands) })
        kept.helds);
    committed = is.committed ∙ kept.committed ∙ ap committed_in (sym is.servers);
    aborted = is.aborted ∙ (λ i. kept.begun i - kept.committed i) ∙ ap (λ (xs : List (ServerOfLog V)). begun_in xs - committed_in xs) (sym is.servers);
    report = is.report ∙ ap (λ (ts : List ℕ). ts ++ printed_of is.summary) shown_same;
  }

  -- ---- where all vaults tell

  module _ (told : TellAll r) where
    seat_told : (n : ℕ) → IsSeat r n → IsTrue (seat_at r n).tells
    seat_told n here = all_seat (λ (s : Seat). IsTrue s.tells) r.seats (n - 1) told (omega (arith, here.first, here.last))

    seat_right : (n : ℕ) → IsSeat r n → IsLawful (seat_at r n).opening (seat_at r n).journal × Along next IsDone (opened (seat_at r n).opening) (seat_at r n).journal
    seat_right n here =
        let (x, at, m, same) = seat_on G last out.on n here in
        let tells : IsTrue (G.tells m.node.kept.vault) = subst (λ (s : Seat). IsTrue s.tells) same (seat_told n here) in
        subst (λ (s : Seat). IsLawful s.opening s.journal × Along next IsDone (opened s.opening) s.journal) (sym same) ((m.keeps.on.kept.right tells).lawful, m.keeps.on.answered tells)

    seat_up : (i : ℕ) (s : Station V) → slice_get last.all.items i ≡ Some s → IsUpTold G servers s
    seat_up i s at =
        let here : IsSeat r (i + 1) = (let less : i < length last.all.items = there_less last.all.items i s at in let same : length r.seats ≡ length last.all.items = many G last out.on in record { first = omega arith; last = omega (arith, less, same) }) in
        let (x, there, m, same) = seat_on G last out.on (i + 1) here in
        let minus : i + 1 - 1 ≡ i = omega arith in
        let one : x ≡ s = same_there (slice_get last.all.items i) x s (ap (slice_get last.all.items) (sym minus) ∙ there) at in
        subst (IsUpTold G servers) one (subst (λ (k : ℕ). IsUpTold G k x) out.count (record {
          number = i + 1;
          manned = m;
          up = ap (λ (z : Seat). z.stand.is_down) (sym same) ∙ (out.up (i + 1) here).up;
          told = subst (λ (z : Seat). IsTrue z.tells) same (seat_told (i + 1) here);
        }))

    log_same : links.log_of r (runs.handed_of (lists_of G log)) ≡ log_of G log
    log_same = (λ i. record { servers = server_logs i; handed = runs.handed_of (lists_of G log) })

    pub linked_log : logs.IsLinked (log_of G log)
    linked_log = subst logs.IsLinked log_same (linking out.ran.first r out.hs (runs.handed_of (lists_of G log)) out.ran.is_first out.ran.course)

    pub lawful_log : logs.AreLawful (log_of G log)
    lawful_log = subst logs.AreLawful log_same (of_each (λ l. IsLawful l.opening l.journal) r (runs.handed_of (lists_of G log)) (numbered G last out.on) (λ n here. (seat_right n here).0) (λ n. tt))

    pub caused_log : AreCaused (log_of G log)
    caused_log =
        subst (λ (l : logs.Log). (n : ℕ) → Along next IsDone (opened (logs.opening_of l n)) (logs.journal_of l n)) log_same
        (of_each (λ l. Along next IsDone (opened l.opening) l.journal) r (runs.handed_of (lists_of G log)) (numbered G last out.on) (λ n here. (seat_right n here).1) (λ n. tt))

    pub proper_log : logs.AreSoundOpenings (log_of G log) → IsProper (log_of G log)
    proper_log sound = subst IsProper log_same
        (proper_course out.ran.first r out.hs (runs.handed_of (lists_of G log)) out.ran.is_first out.ran.course (numbered G last out.on) (λ n here. (seat_right n here).0) (subst logs.AreSoundOpenings (sym log_same) sound))

    pub decided_so : logs.AreSoundOpenings (log_of G log) → AreDecidedSo (log_of G log)
    decided_so sound =
        let p : IsProper (log_of G log) = proper_log sound in
        record {
          thread = history (log_of G log) p;
          whole = record { whole = wholeness (log_of G log) p; listed = listing (log_of G log) p; agree = agreement (log_of G log) p };
          order = (let (locks, turns, begins) = stamps_go_by_locks (log_of G log) p in record { locks = locks; turns = turns; begins = begins; latest = latest-of-all (log_of G log) p });
        }

    -- what clients sent and were handed is as their machines and the servers leave it
    pub told_clients : AreOfClients (log_of G log)
    told_clients = subst AreOfClients log_same
        (clients_kept (state_at last) out.played.clients out.ran.first r out.hs out.turns (runs.handed_of (lists_of G log)) out.ran.is_first out.ran.course (played_sent servers lines out.turns out.hs out.played) out.said (λ k. ap (list_map item_of) (lists_are k)) (λ n here. (seat_right n here).0))

    -- a server as the theorems read it
    pub log_at : (k : ℕ) (seat : IsSeat r k) → logs.of (log_of G log) k ≡ server_log (seat_at r k)
    log_at k seat = ap (λ (l : logs.Log). logs.of l k) (sym log_same) ∙ of_seat r (runs.handed_of (lists_of G log)) k (numbered G last out.on) seat

    -- behind it all they are at rest
    pub at_rest : BeginsSound (log_of G log) → AreAtRest (log_of G log)
    at_rest begins = record { settled = all; ends = settling (log_of G log) (proper_log begins.sound) all }
      where
        handed : items.Handed
        handed = runs.handed_of (lists_of G log)

        spelled : AllByRecursion (λ (s : Seat). AreSpelled s.opening) r.seats
        spelled = all_back (λ (x : logs.ServerLog). AreSpelled x.opening) server_log r.seats (subst (λ (xs : List logs.ServerLog). AllByRecursion (λ (x : logs.ServerLog). AreSpelled x.opening) xs) (sym server_logs) begins.spelled)

        rested : (n : ℕ) → IsSeat r n → IsSettled (seat_at r n).stand.state
        rested n here = out.rested handed told (subst logs.AreSoundOpenings (sym log_same) begins.sound) (λ k seat. all_seat (λ (s : Seat). AreSpelled s.opening) r.seats (k - 1) spelled (omega (arith, seat.first, seat.last))) n here

        settled_seat : (n : ℕ) → IsSeat r n → IsSettled (state_after next (opened (seat_at r n).opening) (seat_at r n).journal)
        settled_seat n here =
            let (x, at, m, same) = seat_on G last out.on n here in
            let ends : (seat_at r n).stand.state ≡ state_after next (opened (seat_at r n).opening) (seat_at r n).journal = subst (λ (z : Seat). z.stand.state ≡ state_after next (opened z.opening) z.journal) (sym same) refl in
            subst IsSettled ends (rested n here)

        all : (n : ℕ) → IsSettled (logs.final (log_of G log) n)
        all n = subst (λ (l : logs.Log). IsSettled (logs.final l n)) log_same
            (of_each (λ l. IsSettled (state_after next (opened l.opening) l.journal)) r handed (numbered G last out.on) settled_seat (λ k. record { parts = λ t. refl; ready = λ j. refl; decisions = λ x. refl }) n)

    pub tallied : printed ≡ tallied_for (shown_as shows) G lines log
    tallied =
        let said : AreMatched (IsSaidBy G servers) is.summary.servers.now rests.logs.items =
        subst (λ (ds : List Held). AreMatched (IsSaidBy G servers) ds rests.logs.items) (sym is.helds) (all_said G servers last.all.items rests.helds.items rests.logs.items seat_up kept.helds kept.logs) in
        let begun = kept.begun ∙ ap begun_in (sym is.servers) in
        let committed = kept.committed ∙ ap committed_in (sym is.servers) in
        let ends : printed_of is.summary ≡ flat_map (λ x. files_text_of (end_of G servers x)) rests.logs.items ++ flat_map (λ x. owners_text_of (end_of G servers x)) rests.logs.items ++ tallied_text log.servers.items =
        (λ i. files_same G servers is.summary.servers.now rests.logs.items said i ++ owners_same G servers is.summary.servers.now rests.logs.items said i
        ++ count_text ((is.committed ∙ committed) i) ((is.aborted ∙ (λ j. begun j - committed j)) i)) in
        is.report ∙ (λ i. shown_same i ++ ends i)
        ∙ (λ i. shown_lines (shown_as shows) G lines log
        ++ (flat_map (λ x. files_text_of (end_of G (sym log_many i) x)) (sym is.servers i) ++ flat_map (λ x. owners_text_of (end_of G (sym log_many i) x)) (sym is.servers i) ++ tallied_text log.servers.items))
