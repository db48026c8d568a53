-- the scripts of drills and storms are ones that the language accepts
use Rattle.std.specs.Prelude.{nat_le, flat_map, slice_index, codes, Option, None, Some, IfSome}
use Rattle.std.specs.List.{AllByRecursion, range_with_len}
use Rattle.std.proofs.Common.{◌≡◌, ℕ, zero, suc, ◌+◌, ◌*◌, ◌<◌, ◌≤◌, ◌^◌, ◌%◌, List, [], ◌∷◌, ◌++◌, map, length, true, refl, sym, ◌∙◌, ap, subst, arith, length-append}
use Rattle.std.proofs.lemmas.List.{length-map}
use Rattle.std.proofs.lemmas.List.FromFn.{length-range_with_len}
use Rattle.std.proofs.lemmas.Bool.{le-leb}
use Rattle.alp_base.specs.declared.choices.Choice.TheVariants as choice
use Rattle.alp_tokens.specs.Words.{◌>>=◌}
use Rattle.alp_base.specs.declared.lists.TheConstants.{NAMES_PER_LIST}
use Rattle.alp_base.specs.declared.limits.TheConstants.{SERVERS}
use Rattle.alp_lines.specs.Forms.{IsForm}
use Rattle.alp_lines.specs.Forms as form
use Rattle.alp_lines.specs.Operands.{everyone, its_owner}
use Rattle.alp_lines.specs.declared.line.Line.{Line}
use Rattle.alp_lines.specs.declared.line.Line.TheVariants as line
use Rattle.alp_script.specs.Known.{Known, nothing_known, has_servers}
use Rattle.alp_script.specs.Order.{next, names_ours}
use Rattle.alp_script.specs.Accepted.{LeadsFrom, RisesFrom, DeclaredFrom, servers_said, NamesOurFile, IsAccepted}
use Rattle.alp_script.specs.declared.numbered.NumberedLine.{NumberedLine}
use Rattle.alp_script.specs.declared.numbered.TheConstants.{SCRIPT_LINES_MOST}
use Rattle.alp_script.proofs.OrderLemmas.{next-ours, next-after, next-declared, clients_after, servers_after, file_after}
use Rattle.alp_script.proofs.VolumeLemmas.{said_in_limits}
use Rattle.alp_lines.specs.Named.{client_named, server_named, receiver_named}
use Rattle.alp_drill.specs.declared.dice.Dice.{Dice}
use Rattle.alp_drill.specs.declared.shape.Shape.{Shape}
use Rattle.alp_drill.specs.Rolls.{dice_of, roll, in_turn}
use Rattle.alp_drill.specs.Shapes.{IsShape, files_of, drill_shape}
use Rattle.alp_drill.specs.Setup.{owner, client_line, clients, owner_line, owners_at, owners}
use Rattle.alp_drill.specs.Files.{pages_of_file, pages_of_files, file_name, create_line, client_of, server_of, group, groups}
use Rattle.alp_drill.specs.Start.{setup}
use Rattle.alp_drill.specs.Rounds.{rounds}
use Rattle.alp_drill.specs.Script.{counted, drill_lines}
use Rattle.alp_drill.proofs.SteadyLemmas.{read, read_append, read_then, declared, known, IsSteady, steady_read, setup_read, servers_next, steady_append}
use Rattle.alp_drill.proofs.BoundLemmas.{all_words}
use Rattle.alp_drill.proofs.TransactionLemmas.{below}
use Rattle.alp_drill.proofs.RoundLemmas.{AreRounds, rounds_made, drill_sizes}

-- ---- lines with numbers that count

leads_by : (k t : Known) (n : ℕ) (l : Line) (ls : List Line) (o : Option Known) → next k l ≡ o → (o >>= λ u. read u ls) ≡ Some t
    → ((u : Known) → read u ls ≡ Some t → LeadsFrom u (counted (n + 1) ls)) → LeadsFrom k (counted n (l ∷ ls))
leads_by k t n l ls None e h more = cc
leads_by k t n l ls (Some u) e h more = (u, e, more u h)

counted_leads : (k t : Known) (n : ℕ) (ls : List Line) → read k ls ≡ Some t → LeadsFrom k (counted n ls)
counted_leads k t n [] h = tt
counted_leads k t n (l ∷ ls) h = leads_by k t n l ls (next k l) refl h (λ u. counted_leads u t (n + 1) ls)

counted_rises : (n : ℕ) (ls : List Line) → n + length ls ≤ SCRIPT_LINES_MOST + 1 → RisesFrom n (counted n ls)
counted_rises n [] few = tt
counted_rises n (l ∷ ls) few = (omega arith, omega (arith, few), counted_rises (n + 1) ls (omega (arith, few)))

forms_counted : (n : ℕ) (ls : List Line) → AllByRecursion (λ (l : Line). IsForm l) ls → AllByRecursion (λ (l : NumberedLine). IsForm l.line) (counted n ls)
forms_counted n [] all = tt
forms_counted n (l ∷ ls) all = (all.0, forms_counted (n + 1) ls all.1)

length-counted : (n : ℕ) (ls : List Line) → length (counted n ls) ≡ length ls
length-counted n [] = refl
length-counted n (l ∷ ls) = omega (arith, length-counted (n + 1) ls)

-- ---- forms

form_mapped : (line_of : ℕ → Line) (is : List ℕ) → ((i : ℕ) → IsForm (line_of i)) → AllByRecursion (λ (l : Line). IsForm l) (map line_of is)
form_mapped line_of [] each = tt
form_mapped line_of (i ∷ is) each = (each i, form_mapped line_of is each)

form_flat : (lines_of : ℕ → List Line) (is : List ℕ) → ((i : ℕ) → AllByRecursion (λ (l : Line). IsForm l) (lines_of i)) → AllByRecursion (λ (l : Line). IsForm l) (flat_map lines_of is)
form_flat lines_of [] each = tt
form_flat lines_of (i ∷ is) each = steady_append (λ (l : Line). IsForm l) (lines_of i) (flat_map lines_of is) (each i) (form_flat lines_of is each)

form_steady : (shape : Shape) (words : List (List ℕ)) (ls : List Line) → AllByRecursion (IsSteady shape words) ls → AllByRecursion (λ (l : Line). IsForm l) ls
form_steady shape words [] all = tt
form_steady shape words (l ∷ ls) all = (all.0.formed, form_steady shape words ls all.1)

one_fits : 1 ≤ NAMES_PER_LIST
one_fits = let most : NAMES_PER_LIST ≡ 4 = refl in omega (arith, most)

form_clients : (n : ℕ) → AllByRecursion (λ (l : Line). IsForm l) (clients n)
form_clients n = (form.client 1 (codes "Admin"), form_mapped client_line (range_with_len 1 n) (λ k. form.client (k + 1) (owner k)))

form_owners : (shape : Shape) → AllByRecursion (λ (l : Line). IsForm l) (owners shape)
form_owners shape = (
  form.begin 1 1,
  steady_append (λ (l : Line). IsForm l) (flat_map (owners_at shape.owners) (range_with_len 1 shape.servers)) (line.Commit 1 ∷ [])
      (form_flat (owners_at shape.owners) (range_with_len 1 shape.servers) (λ s. form_mapped (owner_line s) (range_with_len 1 shape.owners) (λ k. form.owner 1 s (owner k) 100000 its_owner choice.Fail one_fits)))
      (form.commit 1, tt),
)

-- all files have fewer pages than a number of a line may say
abbrev pub AreSmall : List ℕ → Type 0
AreSmall pages = (i : ℕ) → slice_index pages i < 2 ^ 32

small_push : (z : ℕ) (pages : List ℕ) → z < 2 ^ 32 → AreSmall pages → AreSmall (z ∷ pages)
small_push z pages small more zero = small
small_push z pages small more (suc i) = more i

small_roll : (most : ℕ) (dice : Dice) → 0 < most → most ≤ 900 → 1 + (roll most dice).0 < 2 ^ 32
small_roll most dice some few = omega (arith, below most dice some, few)

small_pages : (most : ℕ) (is : List ℕ) (dice : Dice) → 0 < most → most ≤ 900 → AreSmall (in_turn (pages_of_file most) is dice).0
small_pages most [] dice some few = λ i. omega arith
small_pages most (j ∷ is) dice some few =
    small_push (1 + (roll most dice).0) (in_turn (pages_of_file most) is (roll most dice).1).0 (small_roll most dice some few) (small_pages most is (roll most dice).1 some few)

pub small_all : (shape : Shape) (dice : Dice) → IsShape shape → AreSmall (pages_of_files shape dice).0
unfolding pages_of_files
small_all shape dice sizes = small_pages shape.pages (range_with_len 0 (files_of shape)) dice sizes.some_pages sizes.few_pages

form_groups : (shape : Shape) (pages : List ℕ) → AreSmall pages → AllByRecursion (λ (l : Line). IsForm l) (groups shape pages)
form_groups shape pages small =
    form_flat (group shape pages) (range_with_len 0 shape.groups) (λ g. (
      form.begin (client_of shape g) (server_of shape g),
      steady_append (λ (l : Line). IsForm l) (map (create_line shape pages g) (range_with_len (10 * g) 10)) (line.Commit (client_of shape g) ∷ [])
          (form_mapped (create_line shape pages g) (range_with_len (10 * g) 10) (λ i. form.create (client_of shape g) (server_of shape g) (file_name i) (owner (1 + g % shape.owners)) (slice_index pages i) everyone everyone choice.Fail (small i) one_fits one_fits))
          (form.commit (client_of shape g), tt),
    ))

form_setup : (shape : Shape) (pages : List ℕ) → AreSmall pages → AllByRecursion (λ (l : Line). IsForm l) (setup shape pages)
form_setup shape pages small =
    steady_append (λ (l : Line). IsForm l) (clients shape.owners) (owners shape ++ groups shape pages) (form_clients shape.owners)
    (steady_append (λ (l : Line). IsForm l) (owners shape) (groups shape pages) (form_owners shape) (form_groups shape pages small))

-- ---- how many lines there are

long_clients : (n : ℕ) → length (clients n) ≡ 1 + n
long_clients n = omega (arith, length-map (range_with_len 1 n) client_line, length-range_with_len 1 n)

few_owners_from : (n a m : ℕ) → n ≤ 15 → length (flat_map (owners_at n) (range_with_len a m)) ≤ 15 * m
few_owners_from n a zero few = omega arith
few_owners_from n a (suc m) few =
    let long : length (owners_at n a) ≡ n = length-map (range_with_len 1 n) (owner_line a) ∙ length-range_with_len 1 n in
    omega (arith, length-append (owners_at n a) (flat_map (owners_at n) (range_with_len (a + 1) m)), long, few, few_owners_from n (a + 1) m few)

few_owners : (shape : Shape) → IsShape shape → length (owners shape) ≤ 122
few_owners shape sizes =
    let made = flat_map (owners_at shape.owners) (range_with_len 1 shape.servers) in
    omega (arith, length-append made (line.Commit 1 ∷ []), few_owners_from shape.owners 1 shape.servers sizes.few_owners, sizes.few_servers)

long_group : (shape : Shape) (pages : List ℕ) (g : ℕ) → length (group shape pages g) ≡ 12
long_group shape pages g = refl

long_groups_from : (shape : Shape) (pages : List ℕ) (a m : ℕ) → length (flat_map (group shape pages) (range_with_len a m)) ≡ 12 * m
long_groups_from shape pages a zero = refl
long_groups_from shape pages a (suc m) =
    omega (arith, length-append (group shape pages a) (flat_map (group shape pages) (range_with_len (a + 1) m)), long_group shape pages a, long_groups_from shape pages (a + 1) m)

few_setup : (shape : Shape) (pages : List ℕ) → IsShape shape → length (setup shape pages) ≤ 400
few_setup shape pages sizes =
    omega (
      arith,
      length-append (clients shape.owners) (owners shape ++ groups shape pages),
      length-append (owners shape) (groups shape pages),
      long_clients shape.owners,
      few_owners shape sizes,
      long_groups_from shape pages 0 shape.groups,
      sizes.few_owners,
      sizes.few_groups,
    )

-- ---- the lines after that of the servers

pub record AreLawful (servers : ℕ) (ls : List Line) : Type 0 where
  pub last : Known
  pub reads : read (declared servers []) ls ≡ Some last
  pub forms : AllByRecursion (λ (l : Line). IsForm l) ls
  pub few : length ls ≤ 100401

pub few_with : (n : ℕ) (ls : List Line) → AreLawful n ls → length (line.Servers n ∷ ls) ≤ 200000
few_with n ls are = omega (arith, are.few)

-- some settings, the setup, and lines that may stand after it
pub record AreSettings (servers : ℕ) (ls : List Line) : Type 0 where
  pub reads : read (declared servers []) ls ≡ Some (declared servers [])
  pub forms : AllByRecursion (λ (l : Line). IsForm l) ls
  pub few : length ls ≤ 1

pub lawful_by : (shape : Shape) (settings : List Line) (pages : List ℕ) (turns : List Line) → IsShape shape → AreSettings shape.servers settings → AreSmall pages
    → AllByRecursion (IsSteady shape (all_words shape)) turns → length turns ≤ 100000 → AreLawful shape.servers (settings ++ (setup shape pages ++ turns))
lawful_by shape settings pages turns sizes set small steady few = record {
  last = known shape (all_words shape);
  reads = read_append (declared shape.servers []) (declared shape.servers []) settings (setup shape pages ++ turns) set.reads
      ∙ read_append (declared shape.servers []) (known shape (all_words shape)) (setup shape pages) turns (setup_read shape pages sizes)
      ∙ steady_read shape (all_words shape) turns steady;
  forms = steady_append (λ (l : Line). IsForm l) settings (setup shape pages ++ turns) set.forms
      (steady_append (λ (l : Line). IsForm l) (setup shape pages) turns (form_setup shape pages small) (form_steady shape (all_words shape) turns steady));
  few = omega (arith, length-append settings (setup shape pages ++ turns), length-append (setup shape pages) turns, set.few, few_setup shape pages sizes, few);
}

-- ---- what holds of lines that are read from the start

-- behind the declaration of so many servers each line names these
ours_from : (n : ℕ) (k : Known) (ls : List NumberedLine) → has_servers k ≡ true → k.servers ≡ n → LeadsFrom k ls → AllByRecursion (λ l. IsForm l.line) ls
    → AllByRecursion (λ l. names_ours n l.line ≡ true) ls × AllByRecursion (λ l. NamesOurFile n l.line) ls
ours_from n k [] some same leads forms = (tt, tt)
ours_from n k (l ∷ ls) some same leads forms =
    let (t, step, rest) = leads in
    let stay : k.servers ≡ t.servers = servers_after k t l.line forms.0 some (next-after k l.line t step) in
    let (ours, files) = ours_from n t ls (ap (nat_le 1) (sym stay) ∙ some) (sym stay ∙ same) rest forms.1 in (
      (subst (λ (m : ℕ). names_ours m l.line ≡ true) same (next-ours k l.line t step), ours),
      (subst (λ (m : ℕ). NamesOurFile m l.line) same (file_after k t l.line forms.0 (next-after k l.line t step)), files),
    )

declared_from : (k : Known) (ls : List NumberedLine) → LeadsFrom k ls → AllByRecursion (λ l. IsForm l.line) ls → DeclaredFrom k.clients ls
declared_from k [] leads forms = tt
declared_from k (l ∷ ls) leads forms =
    let (t, step, rest) = leads in
    (next-declared k l.line t step, subst (λ (clients : List ℕ). DeclaredFrom clients ls) (sym (clients_after k t l.line forms.0 (next-after k l.line t step))) (declared_from t ls rest forms.1))

first_ours : (n : ℕ) → names_ours n (line.Servers n) ≡ true
unfolding names_ours client_named server_named receiver_named
first_ours n = refl

-- a script that begins with its servers, and is lawful
pub accepted_by : (n : ℕ) (ls : List Line) → 0 < n → n ≤ 8 → AreLawful n ls → IsAccepted (counted 1 (line.Servers n ∷ ls))
accepted_by n ls some fits are =
    let all = line.Servers n ∷ ls in
    let reads : read nothing_known all ≡ Some are.last = read_then nothing_known (declared n []) (line.Servers n) ls (servers_next n some fits) ∙ are.reads in
    let lead = counted_leads nothing_known are.last 1 all reads in
    let rest = counted_leads (declared n []) are.last 2 ls are.reads in
    let forms = forms_counted 1 all (form.servers n, are.forms) in
    let most : SCRIPT_LINES_MOST ≡ 200000 = refl in
    let servers : SERVERS ≡ 8 = refl in
    let has : has_servers (declared n []) ≡ true = le-leb 1 n (omega (arith, some)) in
    let both = ours_from n (declared n []) (counted 2 ls) has refl rest forms.1 in
    let there : 0 < suc (length (counted 2 ls)) = omega arith in
    let least : 1 ≤ n = omega (arith, some) in
    let greatest : n ≤ SERVERS = omega (arith, fits, servers) in
    record {
      leads = lead;
      rises = counted_rises 1 all (omega (arith, are.few, most));
      some = there;
      few = subst (λ (n : ℕ). n ≤ SCRIPT_LINES_MOST) (sym (length-counted 1 all)) (omega (arith, are.few, most));
      declared = declared_from nothing_known (counted 1 all) lead forms;
      least = least;
      most = greatest;
      ours = (first_ours n, both.0);
      files = (tt, both.1);
      forms = forms;
      sizes = λ server. said_in_limits (counted 1 all) server forms;
    }

-- ---- the lines of a drill

stopped_same : (most : ℕ) (is : List ℕ) (dice : Dice) → (in_turn (pages_of_file most) is dice).1.stopped ≡ dice.stopped
unfolding roll
stopped_same most [] dice = refl
stopped_same most (i ∷ is) dice = stopped_same most is (roll most dice).1

first_stopped : (seed : ℕ) → (pages_of_files drill_shape (dice_of seed)).1.stopped ≡ 1
unfolding pages_of_files dice_of
first_stopped seed = stopped_same 900 (range_with_len 0 200) (dice_of seed)

no_settings : (n : ℕ) → AreSettings n []
no_settings n = record { reads = refl; forms = tt; few = omega arith }

-- the lines behind the first
abbrev others : ℕ → ℕ → List Line
others seed size =
    let pages = pages_of_files drill_shape (dice_of seed) in
    setup drill_shape pages.0 ++ (rounds pages.0 size pages.1).0

few_turns : (n size : ℕ) → n ≤ 14 * size → size ≤ 5000 → n ≤ 100000
few_turns n size few low = omega (arith, few, low)

lawful : (seed size : ℕ) → size ≤ 5000 → AreLawful 3 (others seed size)
lawful seed size low =
    let pages = pages_of_files drill_shape (dice_of seed) in
    let made = rounds_made pages.0 size pages.1 low (first_stopped seed) in
    lawful_by drill_shape [] pages.0 (rounds pages.0 size pages.1).0 drill_sizes (no_settings 3) (small_all drill_shape (dice_of seed) drill_sizes) made.lines
    (few_turns (length (rounds pages.0 size pages.1).0) size made.few low)

pub few_lines : (seed size : ℕ) → size ≤ 5000 → length (drill_lines seed size) ≤ 200000
unfolding drill_lines
few_lines seed size low = few_with 3 (others seed size) (lawful seed size low)

pub accepted : (seed size : ℕ) → size ≤ 5000 → IsAccepted (counted 1 (drill_lines seed size))
unfolding drill_lines
accepted seed size low = accepted_by 3 (others seed size) (omega arith) (omega arith) (lawful seed size low)

pub three_servers : (seed size : ℕ) → servers_said (counted 1 (drill_lines seed size)) ≡ 3
unfolding drill_lines
three_servers seed size = refl
