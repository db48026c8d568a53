-- the script of a storm: its setup, and the jobs of its clients
use Rattle.std.specs.Prelude.{◌≡◌, ℕ, ◌+◌, ◌%◌, ◌^◌, ◌<◌, ◌≤◌, Some, true}
use Rattle.std.specs.Prelude.{List, [], ◌∷◌, ◌++◌, flat_map}
use Rattle.std.specs.List.{AllByRecursion, range_with_len}
use Rattle.alp_base.specs.declared.choices.Choice.TheVariants as choice
use Rattle.alp_lines.specs.Forms.{IsForm}
use Rattle.alp_lines.specs.Named.{client_named}
use Rattle.alp_lines.specs.declared.line.Line.{Line}
use Rattle.alp_lines.specs.declared.line.Line.TheVariants as line
use Rattle.alp_script.specs.Order.{names_ours}
use Rattle.alp_script.specs.declared.numbered.NumberedLine.{NumberedLine}
use Rattle.alp_drill.specs.declared.dice.Dice.{Dice}
use Rattle.alp_drill.specs.declared.shape.Shape.{Shape}
use Rattle.alp_drill.specs.declared.shape.Turn.{Turn}
use Rattle.alp_drill.specs.declared.storms.Storm.{Storm}
use Rattle.alp_drill.specs.Rolls.{dice_of, in_turn}
use Rattle.alp_drill.specs.Files.{pages_of_files, AreFiles}
use Rattle.alp_drill.specs.Script.{counted}
use Rattle.alp_drill.specs.Start.{setup}
use Rattle.alp_drill.specs.Transactions.{transaction}

-- each number is from the least to the most
pub record IsStorm (storm : Storm) : Type 0 where
  pub some_servers : 0 < storm.servers
  pub few_servers : storm.servers ≤ 8
  pub some_clients : 0 < storm.clients
  pub few_clients : storm.clients ≤ 15
  pub few_transactions : storm.size ≤ 200
  pub some_patience : 0 < storm.patience
  pub little_patience : storm.patience ≤ 1000

-- client 1 is the administrator, and has no job
pub record IsClientOf (storm : Storm) (client : ℕ) : Type 0 where
  pub least : 2 ≤ client
  pub most : client ≤ storm.clients + 1

-- each client has an owner, and there are fifty files of up to 40 pages
abbrev pub shape_of : Storm → Shape
shape_of storm = record { servers = storm.servers; owners = storm.clients; groups = 5; pages = 40 }

-- the pages of the files are rolled from the storm's seed
abbrev pub pages_of : Storm → List ℕ
pages_of storm = (pages_of_files (shape_of storm) (dice_of storm.seed)).0

pub record AreFilesOf (storm : Storm) (pages : List ℕ) : Type 0 where
  pub same : pages ≡ pages_of storm
  pub files : AreFiles (shape_of storm) pages

-- the lines that stand before the jobs
abbrev pub setup_lines : Storm → List Line
setup_lines storm = line.Servers storm.servers ∷ line.Patience storm.patience ∷ setup (shape_of storm) (pages_of storm)

unfoldable pub setup_script : Storm → List NumberedLine
setup_script storm = counted 1 (setup_lines storm)

-- each job is rolled from a seed of its own
abbrev pub job_dice : Storm → ℕ → Dice
job_dice storm client = dice_of ((storm.seed + client) % 2 ^ 64)

-- all transactions of a job are its client's, and each call waits
abbrev pub job_turn : Storm → ℕ → ℕ → Turn
job_turn storm client k = record { shape = shape_of storm; client = client; number = k; choice = choice.Wait }

-- all lines of it as one thing that is made
abbrev pub as_one : (Dice → List Line × Dice) → Dice → List (List Line) × Dice
as_one make dice = ((make dice).0 ∷ [], (make dice).1)

-- the job of a client: so many transactions, one after the other, each with all its lines
unfoldable pub job : Storm → ℕ → List (List Line)
job storm client = (in_turn (λ k. as_one (transaction (pages_of storm) (job_turn storm client k))) (range_with_len 0 storm.size) (job_dice storm client)).0

-- a line of the language's forms that is the client's and names servers of the storm
pub record IsOfJob (storm : Storm) (client : ℕ) (l : Line) : Type 0 where
  pub formed : IsForm l
  pub own : client_named l ≡ Some client
  pub ours : names_ours storm.servers l ≡ true

abbrev pub AreOfJob : Storm → ℕ → List (List Line) → Type 0
AreOfJob storm client = AllByRecursion (AllByRecursion (IsOfJob storm client))

-- the lines of a job, and of all jobs by the number of their client
abbrev pub job_lines : Storm → ℕ → List Line
job_lines storm client = flat_map (λ (t : List Line). t) (job storm client)

abbrev pub jobs_lines : Storm → List Line
jobs_lines storm = flat_map (job_lines storm) (range_with_len 2 storm.clients)

-- a storm whose jobs are played one after the other
unfoldable pub storm_lines : Storm → List Line
storm_lines storm = setup_lines storm ++ jobs_lines storm

unfoldable pub storm_script : Storm → List NumberedLine
storm_script storm = counted 1 (storm_lines storm)
