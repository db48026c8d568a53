-- the scripts of storms are ones that the language accepts, and each job is its client's
use Rattle.std.specs.Prelude.{flat_map, Option, Some}
use Rattle.std.specs.List.{AllByRecursion, range_with_len}
use Rattle.std.proofs.Common.{◌≡◌, ℕ, zero, suc, ◌+◌, ◌*◌, ◌%◌, ◌<◌, ◌≤◌, ◌^◌, List, [], ◌∷◌, ◌++◌, length, refl, sym, ◌∙◌, ap, subst, arith, length-append, append-nil}
use Rattle.alp_lines.specs.Forms.{IsForm}
use Rattle.alp_lines.specs.Forms as form
use Rattle.alp_lines.specs.declared.line.Line.{Line}
use Rattle.alp_lines.specs.declared.line.Line.TheVariants as line
use Rattle.alp_lines.specs.declared.limits.TheConstants.{PATIENCE_MOST}
use Rattle.alp_script.specs.Accepted.{IsAccepted, servers_said}
use Rattle.alp_script.proofs.OrderLemmas.{next-ours}
use Rattle.alp_drill.specs.declared.dice.Dice.{Dice}
use Rattle.alp_drill.specs.declared.storms.Storm.{Storm}
use Rattle.alp_drill.specs.Rolls.{dice_of, in_turn}
use Rattle.alp_drill.specs.Shapes.{IsShape}
use Rattle.alp_drill.specs.Start.{setup}
use Rattle.alp_drill.specs.Script.{counted}
use Rattle.alp_drill.specs.Transactions.{transaction}
use Rattle.alp_drill.specs.Storms.{IsStorm, IsClientOf, shape_of, pages_of, setup_lines, setup_script, job_dice, job_turn, job, IsOfJob, AreOfJob, job_lines, jobs_lines, storm_lines, storm_script}
use Rattle.alp_drill.proofs.BoundLemmas.{all_words}
use Rattle.alp_drill.proofs.RollLemmas.{in_parts}
use Rattle.alp_drill.proofs.SteadyLemmas.{read_then, declared, known, IsSteady, a_client, patience_next, steady_append}
use Rattle.alp_drill.proofs.TransactionLemmas.{Stands, Are, makes_turn, in_all, all_are, IsOwn, IsTurn, transaction_made}
use Rattle.alp_drill.proofs.RoundLemmas.{numbers_below}
use Rattle.alp_drill.proofs.AcceptLemmas.{AreSettings, AreLawful, few_with, lawful_by, accepted_by, small_all}

pub storm_sizes : (storm : Storm) → IsStorm storm → IsShape (shape_of storm)
storm_sizes storm is = record {
  some_servers = is.some_servers;
  few_servers = is.few_servers;
  some_owners = is.some_clients;
  few_owners = is.few_clients;
  some_groups = omega arith;
  few_groups = omega arith;
  some_pages = omega arith;
  few_pages = omega arith;
}

-- ---- one job

fresh_stands : (n seed : ℕ) → 0 < n → Stands n (dice_of seed)
unfolding dice_of
fresh_stands n seed some = record { least = omega arith; most_is = omega (arith, some) }

eleven_each : (a k : ℕ) → in_all 11 (range_with_len a k) ≡ 11 * k
eleven_each a zero = refl
eleven_each a (suc k) = omega (arith, eleven_each (a + 1) k)

a_turn : (storm : Storm) (client k : ℕ) → IsStorm storm → IsClientOf storm client → k < 2 ^ 32 → IsTurn (job_turn storm client k)
a_turn storm client k is own short = record {
  sizes = storm_sizes storm is;
  client = a_client (shape_of storm) client (storm_sizes storm is) (omega (arith, own.least)) own.most;
  short = short;
}

abbrev whole : (storm : Storm) → ℕ → List Line × Dice
whole storm client = in_turn (λ k. transaction (pages_of storm) (job_turn storm client k)) (range_with_len 0 storm.size) (job_dice storm client)

whole_made : (storm : Storm) (client : ℕ) → IsStorm storm → IsClientOf storm client → Are (IsOwn (shape_of storm) client) storm.servers (in_all 11 (range_with_len 0 storm.size)) (whole storm client)
whole_made storm client is own =
    makes_turn (IsOwn (shape_of storm) client) storm.servers 11 (λ (k : ℕ). k < 2 ^ 32) (λ k. transaction (pages_of storm) (job_turn storm client k))
    (λ k short. transaction_made (pages_of storm) (job_turn storm client k) (a_turn storm client k is own short)) (range_with_len 0 storm.size)
    (numbers_below (2 ^ 32) 0 storm.size (omega (arith, is.few_transactions))) (job_dice storm client) (fresh_stands storm.servers ((storm.seed + client) % 2 ^ 64) is.some_servers)

-- the lines of a job are those of its transactions, one after the other
pub job_is : (storm : Storm) (client : ℕ) → job_lines storm client ≡ (whole storm client).0
unfolding job
job_is storm client = (in_parts (λ k. transaction (pages_of storm) (job_turn storm client k)) (range_with_len 0 storm.size) (job_dice storm client)).0

job_own : (storm : Storm) (client : ℕ) → IsStorm storm → IsClientOf storm client → AllByRecursion (IsOwn (shape_of storm) client) (job_lines storm client)
job_own storm client is own = subst (AllByRecursion (IsOwn (shape_of storm) client)) (sym (job_is storm client)) (whole_made storm client is own).lines

job_few : (storm : Storm) (client : ℕ) → IsStorm storm → IsClientOf storm client → length (job_lines storm client) ≤ 2200
job_few storm client is own = omega (arith, ap (λ (ls : List Line). length ls) (job_is storm client), (whole_made storm client is own).few, eleven_each 0 storm.size, is.few_transactions)

all_front : (P : Line → Type 0) (xs ys : List Line) → AllByRecursion P (xs ++ ys) → AllByRecursion P xs
all_front P [] ys all = tt
all_front P (x ∷ xs) ys all = (all.0, all_front P xs ys all.1)

all_back : (P : Line → Type 0) (xs ys : List Line) → AllByRecursion P (xs ++ ys) → AllByRecursion P ys
all_back P [] ys all = all
all_back P (x ∷ xs) ys all = all_back P xs ys all.1

all_parts : (P : Line → Type 0) (ts : List (List Line)) → AllByRecursion P (flat_map (λ (t : List Line). t) ts) → AllByRecursion (AllByRecursion P) ts
all_parts P [] all = tt
all_parts P (t ∷ ts) all =
    let rest = flat_map (λ (t : List Line). t) ts in
    (all_front P t rest all, all_parts P ts (all_back P t rest all))

of_job : (storm : Storm) (client : ℕ) (l : Line) → IsOwn (shape_of storm) client l → IsOfJob storm client l
of_job storm client l own = record {
  formed = own.steady.formed;
  own = own.own;
  ours = next-ours (known (shape_of storm) (all_words (shape_of storm))) l (known (shape_of storm) (all_words (shape_of storm))) own.steady.goes;
}

-- each transaction of a job is its client's
pub jobs_own : (storm : Storm) (client : ℕ) → IsStorm storm → IsClientOf storm client → AreOfJob storm client (job storm client)
jobs_own storm client is own =
    all_parts (IsOfJob storm client) (job storm client)
    (all_are (IsOwn (shape_of storm) client) (IsOfJob storm client) (of_job storm client) (job_lines storm client) (job_own storm client is own))

-- ---- all jobs

abbrev IsLater : Storm → Line → Type 0
IsLater storm = IsSteady (shape_of storm) (all_words (shape_of storm))

jobs_steady : (storm : Storm) (a n : ℕ) → IsStorm storm → 2 ≤ a → a + n ≤ storm.clients + 2 → AllByRecursion (IsLater storm) (flat_map (job_lines storm) (range_with_len a n))
jobs_steady storm a zero is least most = tt
jobs_steady storm a (suc n) is least most =
    let own : IsClientOf storm a = record { least = least; most = omega (arith, most) } in
    steady_append (IsLater storm) (job_lines storm a) (flat_map (job_lines storm) (range_with_len (a + 1) n))
    (all_are (IsOwn (shape_of storm) a) (IsLater storm) (λ l own. own.steady) (job_lines storm a) (job_own storm a is own))
    (jobs_steady storm (a + 1) n is (omega (arith, least)) (omega (arith, most)))

jobs_few : (storm : Storm) (a n : ℕ) → IsStorm storm → 2 ≤ a → a + n ≤ storm.clients + 2 → length (flat_map (job_lines storm) (range_with_len a n)) ≤ 2200 * n
jobs_few storm a zero is least most = omega arith
jobs_few storm a (suc n) is least most =
    let own : IsClientOf storm a = record { least = least; most = omega (arith, most) } in
    omega (
      arith,
      length-append (job_lines storm a) (flat_map (job_lines storm) (range_with_len (a + 1) n)),
      job_few storm a is own,
      jobs_few storm (a + 1) n is (omega (arith, least)) (omega (arith, most)),
    )

-- ---- the scripts

patient : (storm : Storm) → IsStorm storm → AreSettings storm.servers (line.Patience storm.patience ∷ [])
patient storm is =
    let most : PATIENCE_MOST ≡ 1000 = refl in
    record {
      reads = read_then (declared storm.servers []) (declared storm.servers []) (line.Patience storm.patience) [] (patience_next storm.servers storm.patience is.some_servers);
      forms = (form.patience storm.patience is.some_patience (omega (arith, is.little_patience, most)), tt);
      few = omega arith;
    }

abbrev later : Storm → List Line → List Line
later storm turns = (line.Patience storm.patience ∷ []) ++ (setup (shape_of storm) (pages_of storm) ++ turns)

lawful : (storm : Storm) (turns : List Line) → IsStorm storm → AllByRecursion (IsLater storm) turns → length turns ≤ 100000 → AreLawful storm.servers (later storm turns)
lawful storm turns is steady few =
    let sizes = storm_sizes storm is in
    lawful_by (shape_of storm) (line.Patience storm.patience ∷ []) (pages_of storm) turns sizes (patient storm is) (small_all (shape_of storm) (dice_of storm.seed) sizes) steady few

setup_lawful : (storm : Storm) → IsStorm storm → AreLawful storm.servers (line.Patience storm.patience ∷ setup (shape_of storm) (pages_of storm))
setup_lawful storm is =
    subst (λ (ls : List Line). AreLawful storm.servers (line.Patience storm.patience ∷ ls)) (append-nil (setup (shape_of storm) (pages_of storm))) (lawful storm [] is tt (omega arith))

jobs_lawful : (storm : Storm) → IsStorm storm → AreLawful storm.servers (later storm (jobs_lines storm))
jobs_lawful storm is =
    lawful storm (jobs_lines storm) is (jobs_steady storm 2 storm.clients is (omega arith) (omega arith))
    (omega (arith, jobs_few storm 2 storm.clients is (omega arith) (omega arith), is.few_clients))

pub few_setup_lines : (storm : Storm) → IsStorm storm → length (setup_lines storm) ≤ 200000
few_setup_lines storm is = few_with storm.servers (line.Patience storm.patience ∷ setup (shape_of storm) (pages_of storm)) (setup_lawful storm is)

pub setup_accepted : (storm : Storm) → IsStorm storm → IsAccepted (setup_script storm)
unfolding setup_script
setup_accepted storm is = accepted_by storm.servers (line.Patience storm.patience ∷ setup (shape_of storm) (pages_of storm)) is.some_servers is.few_servers (setup_lawful storm is)

pub setup_servers : (storm : Storm) → servers_said (setup_script storm) ≡ storm.servers
unfolding setup_script
setup_servers storm = refl

pub few_storm_lines : (storm : Storm) → IsStorm storm → length (storm_lines storm) ≤ 200000
unfolding storm_lines
few_storm_lines storm is = few_with storm.servers (later storm (jobs_lines storm)) (jobs_lawful storm is)

pub storm_accepted : (storm : Storm) → IsStorm storm → IsAccepted (storm_script storm)
unfolding storm_script storm_lines
storm_accepted storm is = accepted_by storm.servers (later storm (jobs_lines storm)) is.some_servers is.few_servers (jobs_lawful storm is)

pub storm_servers : (storm : Storm) → servers_said (storm_script storm) ≡ storm.servers
unfolding storm_script storm_lines
storm_servers storm = refl
