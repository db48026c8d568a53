-- one more turn of each loop
use Rattle.std.specs.Prelude.{flat_map, codes, min, slice_index, ◌-◌, ◌*◌, ◌/◌, ◌%◌, ◌^◌, true, false, Vec}
use Rattle.std.specs.Global.{Global}
use Rattle.std.specs.List.{range_with_len, All}
use Rattle.std.proofs.Common.{◌≡◌, ℕ, ◌+◌, ◌<◌, ◌≤◌, List, [], ◌∷◌, ◌++◌, map, length, refl, sym, ◌∙◌, ap, subst, arith, append_assoc, append-nil, length-append}
use Rattle.std.proofs.lemmas.Bool.{cond-true, cond-false}
use Rattle.std.proofs.lemmas.List.{map-append}
use Rattle.std.proofs.lemmas.List.Elements.{All-push}
use Rattle.alp_base.specs.declared.choices.Access.TheVariants as access
use Rattle.alp_base.specs.declared.ids.Run.{Run}
use Rattle.alp_modes.specs.declared.Mode.TheVariants as mode
use Rattle.alp_lines.specs.declared.line.FileWord.TheVariants as file_word
use Rattle.alp_lines.specs.declared.line.Line.{Line}
use Rattle.alp_lines.specs.declared.line.Line.TheVariants as line
use Rattle.alp_script.specs.declared.numbered.NumberedLine.{NumberedLine}
use Rattle.alp_drill.specs.declared.dice.Dice.{Dice}
use Rattle.alp_drill.specs.declared.shape.Shape.{Shape}
use Rattle.alp_drill.specs.declared.shape.Turn.{Turn}
use Rattle.alp_drill.specs.declared.storms.Storm.{Storm}
use Rattle.alp_drill.specs.Adds.{Adds}
use Rattle.alp_drill.specs.Rolls.{dice_of, roll, in_turn}
use Rattle.alp_drill.specs.Shapes.{files_of, drill_shape}
use Rattle.alp_drill.specs.Setup.{client_line, clients, owner_line, owners_at, owners}
use Rattle.alp_drill.specs.Files.{client_of, server_of, pages_of_file, pages_of_files, AreFiles, file_name, create_line, group, groups}
use Rattle.alp_drill.specs.Start.{setup}
use Rattle.alp_drill.specs.Transactions.{beginning, writing, visit, visits, transaction}
use Rattle.alp_drill.specs.Rounds.{is_stop, is_restart, stop_line, stopping, restart_lines, restarting, round, rounds}
use Rattle.alp_drill.specs.Script.{counted, drill_lines, drill_script}
use Rattle.alp_drill.specs.Storms.{AreFilesOf, shape_of, pages_of, setup_lines, setup_script, job_dice, job_turn, as_one, job, job_lines, jobs_lines, storm_lines, storm_script}
use Rattle.alp_drill.proofs.RollLemmas.{in_turn_more, adds_turn, adds_front, mapped_more, flat_mapped_more, closed, two_lines}
use Rattle.alp_drill.proofs.StormLemmas.{job_is}

-- nothing is added yet
pub none_yet : (before : List Line) → before ≡ before ++ []
none_yet before = sym (append-nil before)

pub adds_none : (before : List Line) (start left : Dice) → left ≡ start → Adds before before left ([], start)
adds_none before start left same = record { lines = sym (append-nil before); dice = same }

-- ---- the setup

pub declare_more : (i : ℕ) (before mid after : List Line)
    → mid ≡ before ++ (line.Client 1 (codes "Admin") ∷ map client_line (range_with_len 1 i))
    → after ≡ mid ++ client_line (i + 1) ∷ []
    → after ≡ before ++ (line.Client 1 (codes "Admin") ∷ map client_line (range_with_len 1 (i + 1)))
declare_more i before mid after so_far here =
    mapped_more client_line 1 i (i + 1) before mid after (line.Client 1 (codes "Admin") ∷ []) (omega arith) so_far here

pub declare_end : (n i : ℕ) (before after : List Line) → i ≡ n
    → after ≡ before ++ (line.Client 1 (codes "Admin") ∷ map client_line (range_with_len 1 i)) → after ≡ before ++ clients n
declare_end n i before after all so_far = so_far ∙ ap (λ (k : ℕ). before ++ (line.Client 1 (codes "Admin") ∷ map client_line (range_with_len 1 k))) all

pub owners_at_more : (server i : ℕ) (before mid after : List Line)
    → mid ≡ before ++ map (owner_line server) (range_with_len 1 i) → after ≡ mid ++ owner_line server (i + 1) ∷ []
    → after ≡ before ++ map (owner_line server) (range_with_len 1 (i + 1))
owners_at_more server i before mid after so_far here = mapped_more (owner_line server) 1 i (i + 1) before mid after [] (omega arith) so_far here

pub owners_at_end : (n server i : ℕ) (before after : List Line) → i ≡ n
    → after ≡ before ++ map (owner_line server) (range_with_len 1 i) → after ≡ before ++ owners_at n server
owners_at_end n server i before after all so_far = so_far ∙ ap (λ (k : ℕ). before ++ map (owner_line server) (range_with_len 1 k)) all

pub owners_more : (n i : ℕ) (before mid after : List Line)
    → mid ≡ before ++ (line.Begin 1 1 ∷ flat_map (owners_at n) (range_with_len 1 i)) → after ≡ mid ++ owners_at n (i + 1)
    → after ≡ before ++ (line.Begin 1 1 ∷ flat_map (owners_at n) (range_with_len 1 (i + 1)))
owners_more n i before mid after so_far here = flat_mapped_more (owners_at n) 1 i (i + 1) before mid after (line.Begin 1 1 ∷ []) (omega arith) so_far here

pub owners_end : (shape : Shape) (i : ℕ) (before mid after : List Line) → i ≡ shape.servers
    → mid ≡ before ++ (line.Begin 1 1 ∷ flat_map (owners_at shape.owners) (range_with_len 1 i)) → after ≡ mid ++ line.Commit 1 ∷ []
    → after ≡ before ++ owners shape
owners_end shape i before mid after all so_far here =
    closed before mid after (line.Begin 1 1 ∷ []) (flat_map (owners_at shape.owners) (range_with_len 1 i)) (line.Commit 1) so_far here
    ∙ ap (λ (k : ℕ). before ++ (line.Begin 1 1 ∷ (flat_map (owners_at shape.owners) (range_with_len 1 k) ++ line.Commit 1 ∷ []))) all

-- ---- the files

pub pages_more : (most i : ℕ) (start first : Dice) (before after : List ℕ) (rolled : ℕ)
    → before ≡ (in_turn (pages_of_file most) (range_with_len 0 i) start).0 → first ≡ (in_turn (pages_of_file most) (range_with_len 0 i) start).1
    → rolled ≡ (roll most first).0 → after ≡ before ++ (1 + rolled) ∷ []
    → after ≡ (in_turn (pages_of_file most) (range_with_len 0 (i + 1)) start).0
pages_more most i start first before after rolled so_far left value here =
    let is_rolled : rolled ≡ (roll most (in_turn (pages_of_file most) (range_with_len 0 i) start).1).0 = value ∙ ap (λ (d : Dice). (roll most d).0) left in
    here ∙ (λ j. so_far j ++ (1 + is_rolled j) ∷ []) ∙ ap (λ (p : List ℕ × Dice). p.0) (sym (in_turn_more (pages_of_file most) i start))

pub pages_left : (most i : ℕ) (start first last : Dice) → first ≡ (in_turn (pages_of_file most) (range_with_len 0 i) start).1 → last ≡ (roll most first).1
    → last ≡ (in_turn (pages_of_file most) (range_with_len 0 (i + 1)) start).1
pages_left most i start first last left value =
    value ∙ ap (λ (d : Dice). (roll most d).1) left ∙ ap (λ (p : List ℕ × Dice). p.1) (sym (in_turn_more (pages_of_file most) i start))

pub pages_count : (i rolled : ℕ) (before after : List ℕ) → length before ≡ i → after ≡ before ++ (1 + rolled) ∷ [] → length after ≡ i + 1
pages_count i rolled before after count here = ap length here ∙ omega (arith, length-append before ((1 + rolled) ∷ []), count)

pub pages_some : (rolled : ℕ) (before after : List ℕ) → All (λ most. 0 < most) before → after ≡ before ++ (1 + rolled) ∷ [] → All (λ most. 0 < most) after
pages_some rolled before after some here = subst (λ (pages : List ℕ). All (λ most. 0 < most) pages) (sym here) (All-push (λ most. 0 < most) before (1 + rolled) some (omega arith))

pub pages_end : (shape : Shape) (i : ℕ) (start : Dice) (pages : List ℕ) → i ≡ files_of shape → pages ≡ (in_turn (pages_of_file shape.pages) (range_with_len 0 i) start).0
    → pages ≡ (pages_of_files shape start).0
unfolding pages_of_files
pages_end shape i start pages all so_far = so_far ∙ ap (λ (k : ℕ). (in_turn (pages_of_file shape.pages) (range_with_len 0 k) start).0) all

pub dice_end : (shape : Shape) (i : ℕ) (start last : Dice) → i ≡ files_of shape → last ≡ (in_turn (pages_of_file shape.pages) (range_with_len 0 i) start).1
    → last ≡ (pages_of_files shape start).1
unfolding pages_of_files
dice_end shape i start last all so_far = so_far ∙ ap (λ (k : ℕ). (in_turn (pages_of_file shape.pages) (range_with_len 0 k) start).1) all

pub create_more : (shape : Shape) (pages : List ℕ) (g i : ℕ) (before mid after : List Line)
    → mid ≡ before ++ (line.Begin (client_of shape g) (server_of shape g) ∷ map (create_line shape pages g) (range_with_len (10 * g) i)) → after ≡ mid ++ create_line shape pages g (10 * g + i) ∷ []
    → after ≡ before ++ (line.Begin (client_of shape g) (server_of shape g) ∷ map (create_line shape pages g) (range_with_len (10 * g) (i + 1)))
create_more shape pages g i before mid after so_far here =
    mapped_more (create_line shape pages g) (10 * g) i (10 * g + i) before mid after (line.Begin (client_of shape g) (server_of shape g) ∷ []) refl so_far here

pub create_end : (shape : Shape) (pages : List ℕ) (g n : ℕ) (before mid after : List Line) → n ≡ 10
    → mid ≡ before ++ (line.Begin (client_of shape g) (server_of shape g) ∷ map (create_line shape pages g) (range_with_len (10 * g) n)) → after ≡ mid ++ line.Commit (client_of shape g) ∷ []
    → after ≡ before ++ group shape pages g
create_end shape pages g n before mid after all so_far here =
    closed before mid after (line.Begin (client_of shape g) (server_of shape g) ∷ []) (map (create_line shape pages g) (range_with_len (10 * g) n)) (line.Commit (client_of shape g)) so_far here
    ∙ ap (λ (k : ℕ). before ++ (line.Begin (client_of shape g) (server_of shape g) ∷ (map (create_line shape pages g) (range_with_len (10 * g) k) ++ line.Commit (client_of shape g) ∷ []))) all

pub groups_more : (shape : Shape) (pages : List ℕ) (g : ℕ) (before mid after : List Line)
    → mid ≡ before ++ flat_map (group shape pages) (range_with_len 0 g) → after ≡ mid ++ group shape pages g
    → after ≡ before ++ flat_map (group shape pages) (range_with_len 0 (g + 1))
groups_more shape pages g before mid after so_far here = flat_mapped_more (group shape pages) 0 g g before mid after [] (omega arith) so_far here

pub groups_end : (shape : Shape) (pages : List ℕ) (i : ℕ) (before after : List Line) → i ≡ shape.groups
    → after ≡ before ++ flat_map (group shape pages) (range_with_len 0 i) → after ≡ before ++ groups shape pages
groups_end shape pages i before after all so_far = so_far ∙ ap (λ (k : ℕ). before ++ flat_map (group shape pages) (range_with_len 0 k)) all

-- ---- a transaction

pub begin_done : (turn : Turn) (before after : List Line) (start last : Dice) (sides which : ℕ) → sides ≡ turn.shape.servers
    → which ≡ (roll sides start).0 → last ≡ (roll sides start).1 → after ≡ before ++ line.Begin turn.client (1 + which) ∷ []
    → Adds before after last (beginning turn start)
unfolding beginning
begin_done turn before after start last sides which same value left here =
    let is_which : which ≡ (roll turn.shape.servers start).0 = value ∙ ap (λ (n : ℕ). (roll n start).0) same in
    record {
      lines = here ∙ (λ i. before ++ line.Begin turn.client (1 + is_which i) ∷ []);
      dice = left ∙ ap (λ (n : ℕ). (roll n start).1) same;
    }

-- the lines of a visit, by what was rolled
abbrev visited : Turn → List ℕ → ℕ → ℕ → Dice → List Line × Dice
visited turn word first count dice =
    let run : Run = record { first = first; count = count } in
    let written = writing turn (file_word.Word word) run dice in (
      line.OpenFile turn.client (file_word.Word word) access.Change mode.IntendWrite turn.choice
          ∷ line.ReadPages turn.client (file_word.Word word) run mode.Read turn.choice
          ∷ written.0,
      written.1,
    )

pub visit_done : (pages : List ℕ) (turn : Turn) (before mid after : List Line) (start placed found moved last : Dice) (sides place most first more count : ℕ) (word : List ℕ)
    → sides ≡ files_of turn.shape → place ≡ (roll sides start).0 → placed ≡ (roll sides start).1 → most ≡ slice_index pages place
    → first ≡ (roll most placed).0 → found ≡ (roll most placed).1 → more ≡ (roll 4 found).0 → moved ≡ (roll 4 found).1
    → word ≡ file_name place → count ≡ 1 + min more (most - first - 1)
    → mid ≡ before ++ (line.OpenFile turn.client (file_word.Word word) access.Change mode.IntendWrite turn.choice
    ∷ line.ReadPages turn.client (file_word.Word word) (record { first = first; count = count }) mode.Read turn.choice ∷ [])
    → Adds mid after last (writing turn (file_word.Word word) (record { first = first; count = count }) moved)
    → Adds before after last (visit pages turn start)
unfolding visit
visit_done pages turn before mid after start placed found moved last sides place most first more count word e0 e1 e2 e3 e4 e5 e6 e7 named counts lines written =
    let is_place : place ≡ (roll (files_of turn.shape) start).0 = e1 ∙ ap (λ (n : ℕ). (roll n start).0) e0 in
    let is_placed : placed ≡ (roll (files_of turn.shape) start).1 = e2 ∙ ap (λ (n : ℕ). (roll n start).1) e0 in
    let is_most : most ≡ slice_index pages (roll (files_of turn.shape) start).0 = e3 ∙ ap (slice_index pages) is_place in
    let is_first : first ≡ (roll (slice_index pages (roll (files_of turn.shape) start).0) (roll (files_of turn.shape) start).1).0 = e4 ∙ (λ i. (roll (is_most i) (is_placed i)).0) in
    let is_found : found ≡ (roll (slice_index pages (roll (files_of turn.shape) start).0) (roll (files_of turn.shape) start).1).1 = e5 ∙ (λ i. (roll (is_most i) (is_placed i)).1) in
    let is_more : more ≡ (roll 4 (roll (slice_index pages (roll (files_of turn.shape) start).0) (roll (files_of turn.shape) start).1).1).0 = e6 ∙ ap (λ (d : Dice). (roll 4 d).0) is_found in
    let is_moved : moved ≡ (roll 4 (roll (slice_index pages (roll (files_of turn.shape) start).0) (roll (files_of turn.shape) start).1).1).1 = e7 ∙ ap (λ (d : Dice). (roll 4 d).1) is_found in
    let is_word : word ≡ file_name (roll (files_of turn.shape) start).0 = named ∙ ap file_name is_place in
    let is_count = counts ∙ (λ i. 1 + min (is_more i) (is_most i - is_first i - 1)) in
    subst (λ (told : List Line × Dice). Adds before after last told)
    (λ i. visited turn (is_word i) (is_first i) (is_count i) (is_moved i))
    (adds_front before mid after (line.OpenFile turn.client (file_word.Word word) access.Change mode.IntendWrite turn.choice
    ∷ line.ReadPages turn.client (file_word.Word word) (record { first = first; count = count }) mode.Read turn.choice ∷ []) last
    (writing turn (file_word.Word word) (record { first = first; count = count }) moved) lines written)

pub visits_more : (pages : List ℕ) (turn : Turn) (i : ℕ) (before mid after : List Line) (start first last : Dice)
    → Adds before mid first (in_turn (λ n. visit pages turn) (range_with_len 0 i) start) → Adds mid after last (visit pages turn first)
    → Adds before after last (in_turn (λ n. visit pages turn) (range_with_len 0 (i + 1)) start)
visits_more pages turn i before mid after start first last so_far here = adds_turn (λ n. visit pages turn) i before mid after start first last so_far here

pub visits_end : (pages : List ℕ) (turn : Turn) (more count : ℕ) (before after : List Line) (start last : Dice)
    → more ≡ (roll 3 start).0 → count ≡ 1 + more
    → Adds before after last (in_turn (λ n. visit pages turn) (range_with_len 0 count) (roll 3 start).1) → Adds before after last (visits pages turn start)
unfolding visits
visits_end pages turn more count before after start last value counts made =
    subst (λ (n : ℕ). Adds before after last (in_turn (λ n. visit pages turn) (range_with_len 0 n) (roll 3 start).1)) (counts ∙ ap (λ (n : ℕ). 1 + n) value) made

-- of a turn that is another
pub turned : (pages : List ℕ) (before after : List Line) (start last : Dice) (turn same : Turn) → turn ≡ same
    → Adds before after last (transaction pages turn start) → Adds before after last (transaction pages same start)
turned pages before after start last turn same is made = subst (λ (t : Turn). Adds before after last (transaction pages t start)) is made

-- files are those of a shape that is another
pub files_given : (shape other : Shape) (pages : List ℕ) → shape ≡ other → AreFiles other pages → AreFiles shape pages
files_given shape other pages is are = subst (λ (s : Shape). AreFiles s pages) (sym is) are

-- ---- the rounds

pub stop_none : (period k : ℕ) (before : List Line) (start : Dice) → is_stop period k ≡ false → Adds before before start (stopping period k start)
unfolding stopping
stop_none period k before start not_due =
    subst (λ (told : List Line × Dice). Adds before before start told) (sym (cond-false (is_stop period k) (stop_line start) ([], start) not_due)) (adds_none before start start refl)

pub stop_done : (period k : ℕ) (before after : List Line) (start first second last : Dice) (which calls : ℕ) → is_stop period k ≡ true
    → which ≡ (roll 3 start).0 → first ≡ (roll 3 start).1 → calls ≡ (roll 16 first).0 → second ≡ (roll 16 first).1 → last ≡ record second { stopped = 1 + which }
    → after ≡ before ++ line.Stop (1 + which) calls ∷ [] → Adds before after last (stopping period k start)
unfolding stopping
stop_done period k before after start first second last which calls due e1 e2 e3 e4 left here =
    let is_calls : calls ≡ (roll 16 (roll 3 start).1).0 = e3 ∙ ap (λ (d : Dice). (roll 16 d).0) e2 in
    let is_second : second ≡ (roll 16 (roll 3 start).1).1 = e4 ∙ ap (λ (d : Dice). (roll 16 d).1) e2 in
    subst (λ (told : List Line × Dice). Adds before after last told) (sym (cond-true (is_stop period k) (stop_line start) ([], start) due)) (record {
      lines = here ∙ (λ i. before ++ line.Stop (1 + e1 i) (is_calls i) ∷ []);
      dice = left ∙ (λ i. record (is_second i) { stopped = 1 + e1 i });
    })

pub restart_none : (period k : ℕ) (before : List Line) (start : Dice) → is_restart period k ≡ false → Adds before before start (restarting period k start)
unfolding restarting
restart_none period k before start not_due =
    subst (λ (told : List Line × Dice). Adds before before start told) (sym (cond-false (is_restart period k) (restart_lines start) ([], start) not_due)) (adds_none before start start refl)

pub restart_done : (period k : ℕ) (before mid after : List Line) (start last : Dice) (pick server : ℕ) → is_restart period k ≡ true
    → pick ≡ (roll 8 start).0 → last ≡ (roll 8 start).1 → server ≡ start.stopped
    → mid ≡ before ++ line.Restart server pick ∷ [] → after ≡ mid ++ line.Settle ∷ [] → Adds before after last (restarting period k start)
unfolding restarting
restart_done period k before mid after start last pick server due value left same one other =
    subst (λ (told : List Line × Dice). Adds before after last told) (sym (cond-true (is_restart period k) (restart_lines start) ([], start) due)) (record {
      lines = two_lines before mid after (line.Restart server pick) line.Settle one other ∙ (λ i. before ++ (line.Restart (same i) (value i) ∷ line.Settle ∷ []));
      dice = left;
    })

-- a roll leaves the server that was stopped last
pub stopped_kept : (n : ℕ) (start last : Dice) → last ≡ (roll n start).1 → last.stopped ≡ start.stopped
unfolding roll
stopped_kept n start last left = ap (λ (d : Dice). d.stopped) left

pub rounds_more : (pages : List ℕ) (period i : ℕ) (before mid after : List Line) (start first last : Dice)
    → Adds before mid first (in_turn (round pages period) (range_with_len 0 i) start) → Adds mid after last (round pages period i first)
    → Adds before after last (in_turn (round pages period) (range_with_len 0 (i + 1)) start)
rounds_more pages period i before mid after start first last so_far here = adds_turn (round pages period) i before mid after start first last so_far here

pub rounds_end : (pages : List ℕ) (size count : ℕ) (before after : List Line) (start last : Dice) → count ≡ size
    → Adds before after last (in_turn (round pages (size / 6 + 1)) (range_with_len 0 count) start) → Adds before after last (rounds pages size start)
unfolding rounds
rounds_end pages size count before after start last same made =
    subst (λ (n : ℕ). Adds before after last (in_turn (round pages (size / 6 + 1)) (range_with_len 0 n) start)) same made

-- ---- the numbers of the lines

pub counted_more : (before after : List NumberedLine) (l : Line) (rest : List Line) (all : List NumberedLine)
    → before ++ counted (length before + 1) (l ∷ rest) ≡ all → after ≡ before ++ (record { number = length before + 1; line = l }) ∷ []
    → after ++ counted (length after + 1) rest ≡ all
counted_more before after l rest all so_far here =
    let first : NumberedLine = record { number = length before + 1; line = l } in
    let long : length after ≡ length before + 1 = ap length here ∙ length-append before (first ∷ []) in
    (λ j. here j ++ counted (long j + 1) rest) ∙ append_assoc before (first ∷ []) (counted (length before + 1 + 1) rest) ∙ so_far

pub counted_end : (before all : List NumberedLine) (rest : List Line) (n : ℕ) → rest ≡ [] → before ++ counted n rest ≡ all → before ≡ all
counted_end before all rest n none so_far = sym (append-nil before) ∙ ap (λ ls. before ++ counted n ls) (sym none) ∙ so_far

pub counted_none : (before : List NumberedLine) (rest all : List Line) → before ≡ [] → rest ≡ all → before ++ counted (length before + 1) rest ≡ counted 1 all
counted_none before rest all none same = λ i. none i ++ counted (length (none i) + 1) (same i)

-- ---- the whole script of a drill

pub lines_done : (seed size : ℕ) (shape : Shape) (first rolled last : Dice) (pages files : List ℕ) (s0 s1 s2 s3 : List Line)
    → shape ≡ drill_shape → first ≡ dice_of seed → pages ≡ (pages_of_files shape first).0 → rolled ≡ (pages_of_files shape first).1 → files ≡ pages
    → s0 ≡ [] → s1 ≡ s0 ++ line.Servers 3 ∷ [] → s2 ≡ s1 ++ setup shape files → Adds s2 s3 last (rounds files size rolled)
    → s3 ≡ drill_lines seed size
unfolding drill_lines
lines_done seed size shape first rolled last pages files s0 s1 s2 s3 e0 e1 e2 e3 e4 none one two three =
    let is_pages : files ≡ (pages_of_files drill_shape (dice_of seed)).0 = e4 ∙ e2 ∙ (λ i. (pages_of_files (e0 i) (e1 i)).0) in
    let is_rolled : rolled ≡ (pages_of_files drill_shape (dice_of seed)).1 = e3 ∙ (λ i. (pages_of_files (e0 i) (e1 i)).1) in
    three.lines
    ∙ ap (λ (l : List Line). l ++ (rounds files size rolled).0) (two ∙ ap (λ (l : List Line). l ++ setup shape files) (one ∙ ap (λ (l : List Line). l ++ line.Servers 3 ∷ []) none))
    ∙ (λ i. line.Servers 3 ∷ (setup (e0 i) (is_pages i) ++ (rounds (is_pages i) size (is_rolled i)).0))

pub is_script : (seed size : ℕ) → counted 1 (drill_lines seed size) ≡ drill_script seed size
unfolding drill_script
is_script seed size = refl

-- ---- the scripts of a storm

pub files_done : (storm : Storm) (shape : Shape) (start : Dice) (pages : List ℕ) → shape ≡ shape_of storm → start ≡ dice_of storm.seed
    → pages ≡ (pages_of_files shape start).0 → AreFiles shape pages → AreFilesOf storm pages
files_done storm shape start pages e0 e1 made are = record {
  same = made ∙ (λ i. (pages_of_files (e0 i) (e1 i)).0);
  files = subst (λ (s : Shape). AreFiles s pages) e0 are;
}

pub setup_done : (storm : Storm) (shape : Shape) (pages : List ℕ) (s0 s1 s2 s3 : List Line) → shape ≡ shape_of storm → pages ≡ pages_of storm
    → s0 ≡ [] → s1 ≡ s0 ++ line.Servers storm.servers ∷ [] → s2 ≡ s1 ++ line.Patience storm.patience ∷ [] → s3 ≡ s2 ++ setup shape pages → s3 ≡ setup_lines storm
setup_done storm shape pages s0 s1 s2 s3 e0 e1 none one two three =
    three
    ∙ ap (λ (l : List Line). l ++ setup shape pages) (two ∙ ap (λ (l : List Line). l ++ line.Patience storm.patience ∷ []) (one ∙ ap (λ (l : List Line). l ++ line.Servers storm.servers ∷ []) none))
    ∙ (λ i. line.Servers storm.servers ∷ line.Patience storm.patience ∷ setup (e0 i) (e1 i))

pub job_more : (pages : List ℕ) (storm : Storm) (client i : ℕ) (before mid after : List Line) (start first last : Dice) (turn : Turn) → turn ≡ job_turn storm client i
    → Adds before mid first (in_turn (λ k. transaction pages (job_turn storm client k)) (range_with_len 0 i) start) → Adds mid after last (transaction pages turn first)
    → Adds before after last (in_turn (λ k. transaction pages (job_turn storm client k)) (range_with_len 0 (i + 1)) start)
job_more pages storm client i before mid after start first last turn is so_far here =
    adds_turn (λ k. transaction pages (job_turn storm client k)) i before mid after start first last so_far (turned pages mid after first last turn (job_turn storm client i) is here)

pub job_end : (pages : List ℕ) (storm : Storm) (client i : ℕ) (before after : List Line) (last : Dice) → i ≡ storm.size → pages ≡ pages_of storm
    → Adds before after last (in_turn (λ k. transaction pages (job_turn storm client k)) (range_with_len 0 i) (job_dice storm client)) → after ≡ before ++ job_lines storm client
job_end pages storm client i before after last all same made =
    made.lines
    ∙ (λ j. before ++ (in_turn (λ k. transaction (same j) (job_turn storm client k)) (range_with_len 0 (all j)) (job_dice storm client)).0)
    ∙ ap (λ (l : List Line). before ++ l) (sym (job_is storm client))

pub jobs_more : (storm : Storm) (i : ℕ) (before mid after : List Line)
    → mid ≡ before ++ flat_map (job_lines storm) (range_with_len 2 i) → after ≡ mid ++ job_lines storm (i + 2)
    → after ≡ before ++ flat_map (job_lines storm) (range_with_len 2 (i + 1))
jobs_more storm i before mid after so_far here = flat_mapped_more (job_lines storm) 2 i (i + 2) before mid after [] (omega arith) so_far here

pub jobs_end : (storm : Storm) (i : ℕ) (before after : List Line) → i ≡ storm.clients
    → after ≡ before ++ flat_map (job_lines storm) (range_with_len 2 i) → after ≡ before ++ jobs_lines storm
jobs_end storm i before after all so_far = so_far ∙ ap (λ (k : ℕ). before ++ flat_map (job_lines storm) (range_with_len 2 k)) all

pub storm_done : (storm : Storm) (mid after : List Line) → mid ≡ setup_lines storm → after ≡ mid ++ jobs_lines storm → after ≡ storm_lines storm
unfolding storm_lines
storm_done storm mid after one other = other ∙ ap (λ (l : List Line). l ++ jobs_lines storm) one

pub is_setup_script : (storm : Storm) → counted 1 (setup_lines storm) ≡ setup_script storm
unfolding setup_script
is_setup_script storm = refl

pub is_storm_script : (storm : Storm) → counted 1 (storm_lines storm) ≡ storm_script storm
unfolding storm_script
is_storm_script storm = refl

-- ---- the transactions of a job, as a list of their own

-- what was made of a job's transactions so far
abbrev pub made_so_far : List ℕ → Storm → ℕ → ℕ → List (List Line) × Dice
made_so_far pages storm client i = in_turn (λ k. as_one (transaction pages (job_turn storm client k))) (range_with_len 0 i) (job_dice storm client)

pub part_more : (pages : List ℕ) (storm : Storm) (client i : ℕ) (before after : List (Vec Line Global)) (part : Vec Line Global) (first : Dice) (turn : Turn) → turn ≡ job_turn storm client i
    → map (λ (t : Vec Line Global). t.items) before ≡ (made_so_far pages storm client i).0 → first ≡ (made_so_far pages storm client i).1
    → part.items ≡ (transaction pages turn first).0 → after ≡ before ++ part ∷ []
    → map (λ (t : Vec Line Global). t.items) after ≡ (made_so_far pages storm client (i + 1)).0
part_more pages storm client i before after part first turn is so_far left lines here =
    let is_part : part.items ≡ (transaction pages (job_turn storm client i) (made_so_far pages storm client i).1).0 = lines ∙ (λ j. (transaction pages (is j) (left j)).0) in
    ap (map (λ (t : Vec Line Global). t.items)) here
    ∙ map-append (λ (t : Vec Line Global). t.items) before (part ∷ [])
    ∙ (λ j. so_far j ++ is_part j ∷ [])
    ∙ ap (λ (p : List (List Line) × Dice). p.0) (sym (in_turn_more (λ k. as_one (transaction pages (job_turn storm client k))) i (job_dice storm client)))

pub part_left : (pages : List ℕ) (storm : Storm) (client i : ℕ) (first last : Dice) (turn : Turn) → turn ≡ job_turn storm client i
    → first ≡ (made_so_far pages storm client i).1 → last ≡ (transaction pages turn first).1 → last ≡ (made_so_far pages storm client (i + 1)).1
part_left pages storm client i first last turn is left value =
    value ∙ (λ j. (transaction pages (is j) (left j)).1)
    ∙ ap (λ (p : List (List Line) × Dice). p.1) (sym (in_turn_more (λ k. as_one (transaction pages (job_turn storm client k))) i (job_dice storm client)))

pub parts_end : (pages : List ℕ) (storm : Storm) (client i : ℕ) (parts : List (Vec Line Global)) → i ≡ storm.size → pages ≡ pages_of storm
    → map (λ (t : Vec Line Global). t.items) parts ≡ (made_so_far pages storm client i).0 → map (λ (t : Vec Line Global). t.items) parts ≡ job storm client
unfolding job
parts_end pages storm client i parts all same made =
    made ∙ (λ j. (in_turn (λ k. as_one (transaction (same j) (job_turn storm client k))) (range_with_len 0 (all j)) (job_dice storm client)).0)
