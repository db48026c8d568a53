-- the last line of a report: the transactions that the servers' entries count are those that were decided, and the others that began
use Rattle.std.specs.Prelude.{min, sum, map as list_map, get_or}
use Rattle.std.specs.List.{AllByRecursion}
use Rattle.std.proofs.Common.{◌≡◌, ℕ, suc, ◌+◌, ◌-◌, ◌*◌, ◌<◌, ◌≤◌, ◌^◌, List, [], ◌∷◌, ◌++◌, length, refl, sym, ◌∙◌, ap, subst, arith, inl, inr}
use Rattle.std.proofs.lemmas.List.{length-map}
use Rattle.std.proofs.lemmas.List.Sums.{sum_by-cons}
use Rattle.alp_journal.specs.Answered.{FitsJournal}
use Rattle.alp_history.specs.Log as logs
use Rattle.alp_history.specs.Log.{ServerLog, IsIn, decided}
use Rattle.alp_history.specs.RunLogs as runs
use Rattle.alp_history.specs.Theorems.{IsProper}
use Rattle.alp_course.specs.Courses.{Course, Seat, IsSeat, no_seat}
use Rattle.alp_course.specs.Links as links
use Rattle.alp_course.specs.Links.{AreNumbered, server_log}
use Rattle.alp_course.specs.Turns.{turns_of, turns_text}
use Rattle.alp_course.proofs.UpLemmas.{many_on}
use Rattle.alp_report.specs.Reports.{count_text}
use Rattle.alp_script.specs.declared.numbered.NumberedLine.{NumberedLine}
use Rattle.alp_vault.specs.declared.vault.Vault.{Ghosts}
use Rattle.alp_top.specs.Headline.{IsOfScript}
use Rattle.alp_top.specs.Logs.{Log, ServerOfLog, openings, log_of, lists_of}
use Rattle.alp_top.specs.Reports.{begun_at, held_said, counts_text, summary_said, tallied_text, tallied_summary, Shown, shown_lines, report_for, tallied_for, report_of, tallied_report}
use Rattle.alp_top.specs.Tallies.{tally_in, begun_in, committed_in}
use Rattle.alp_top.proofs.CountedFits.{journals_fit}
use Rattle.alp_top.proofs.CountedLists.{AreOfNumbers, own_sum, decided_many, IsCountedAt, counted_at}
use Rattle.alp_top.proofs.SeatedLemmas.{different}

-- ---- seats, and the logs of their servers

numbers_of : (k : ℕ) (ss : List Seat) → AreNumbered k ss → AreOfNumbers k (list_map server_log ss)
numbers_of k [] h = tt
numbers_of k (s ∷ ss) h = (h.0, numbers_of (k + 1) ss h.1)

abbrev HasFit : ServerLog → Type 0
HasFit y = FitsJournal y.journal

-- what holds of the seats in a list at their places holds of their logs
fits_of : (ss : List Seat) → ((i : ℕ) → i < length ss → FitsJournal (get_or ss i no_seat).journal) → AllByRecursion HasFit (list_map server_log ss)
fits_of [] f = tt
fits_of (s ∷ ss) f = (f 0 (omega arith), fits_of ss (λ i less. f (suc i) (omega (arith, less))))

-- ---- the sums of all servers

module _ {V : Type 0} (G : Ghosts V) (log : Log V) (proper : IsProper (log_of G log)) where
  abbrev l : logs.Log
  l = log_of G log

  abbrev servers : ℕ
  servers = length log.servers.items

  abbrev as_read : ServerOfLog V → ServerLog
  as_read x = runs.server_log (openings G) servers x

  abbrev AreCountedAt : List (ServerOfLog V) → Type 0
  AreCountedAt xs = AllByRecursion (λ x. IsCountedAt l proper (as_read x)) xs

  all_counted : (xs : List (ServerOfLog V)) → ((y : ServerLog) → IsIn y (list_map as_read xs) → IsIn y l.servers) → AllByRecursion HasFit (list_map as_read xs) → AreCountedAt xs
  all_counted [] there fits = tt
  all_counted (x ∷ xs) there fits = (counted_at l proper (as_read x) (there (as_read x) (inl refl)) fits.0, all_counted xs (λ y i. there y (inr i)) fits.1)

  record IsSummed (xs : List (ServerOfLog V)) : Type 0 where
    committed : committed_in xs ≡ own_sum l (list_map as_read xs)
    begun : begun_in xs ≡ sum (list_map (begun_at G servers) xs)
    few : begun_in xs ≤ 65536 * length xs
    little : committed_in xs ≤ 65536 * length xs

  -- of eight servers no number is too great
  summed : (xs : List (ServerOfLog V)) → length xs ≤ 8 → AreCountedAt xs → IsSummed xs
  summed [] low h = record { committed = refl; begun = refl; few = omega arith; little = omega arith }
  summed (x ∷ xs) low h =
      let rest : IsSummed xs = summed xs (omega (arith, low)) h.1 in
      let one = h.0.committed in
      let two = h.0.begun in
      let began : begun_in xs ≡ sum (list_map (begun_at G servers) xs) = rest.begun in
      let done : committed_in xs ≡ own_sum l (list_map as_read xs) = rest.committed in
      let few : begun_in xs ≤ 65536 * length xs = rest.few in
      let little : committed_in xs ≤ 65536 * length xs = rest.little in
      let few_here : (tally_in x.journal).begun ≤ 65536 = h.0.few in
      let little_here : (tally_in x.journal).committed ≤ 65536 = h.0.little in
      let more : sum (begun_at G servers x ∷ list_map (begun_at G servers) xs) ≡ begun_at G servers x + sum (list_map (begun_at G servers) xs) = sum_by-cons (λ (n : ℕ). n) (begun_at G servers x) (list_map (begun_at G servers) xs) in
      let whole_committed : min ((tally_in x.journal).committed + committed_in xs) (2 ^ 32 - 1) ≡ (tally_in x.journal).committed + committed_in xs = omega (arith, low, little, little_here) in
      let whole_begun : min ((tally_in x.journal).begun + begun_in xs) (2 ^ 32 - 1) ≡ (tally_in x.journal).begun + begun_in xs = omega (arith, low, few, few_here) in
      record {
        committed = whole_committed ∙ (λ i. one i + done i);
        begun = whole_begun ∙ (λ i. two i + began i) ∙ sym more;
        few = omega (arith, whole_begun, few, few_here);
        little = omega (arith, whole_committed, little, little_here);
      }

-- ---- a run that is over

module _ {V : Type 0} (G : Ghosts V) (lines : List NumberedLine) (log : Log V) (script : IsOfScript G lines log) (linked : logs.IsLinked (log_of G log)) (lawful : logs.AreLawful (log_of G log)) (sound : logs.AreSoundOpenings (log_of G log)) where
  abbrev last : Course
  last = script.last

  log_same : links.log_of last (runs.handed_of (lists_of G log)) ≡ log_of G log
  log_same = (λ i. record { servers = script.servers i; handed = runs.handed_of (lists_of G log) })

  proper : IsProper (log_of G log)
  proper = record {
    different = subst logs.AreDifferent log_same (different last (runs.handed_of (lists_of G log)) script.numbered);
    sound = sound;
    lawful = lawful;
    linked = linked;
  }

  few : length log.servers.items ≤ 8
  few =
      let first : length script.first.seats ≤ 8 = script.begins.few in
      let same : length last.seats ≡ length script.first.seats = many_on script.first last script.occurred script.course in
      let many : length log.servers.items ≡ length last.seats =
      sym (length-map log.servers.items (runs.server_log (openings G) (length log.servers.items))) ∙ ap (λ (xs : List ServerLog). length xs) (sym script.servers) ∙ length-map last.seats server_log in
      omega (arith, first, same, many)

  seats_fit : (i : ℕ) → i < length last.seats → FitsJournal (get_or last.seats i no_seat).journal
  seats_fit i less =
      let here : IsSeat last (i + 1) = record { first = omega arith; last = omega (arith, less) } in
      let same : i + 1 - 1 ≡ i = omega arith in
      subst (λ (j : ℕ). FitsJournal (get_or last.seats j no_seat).journal) same (journals_fit script.first last script.occurred script.begins script.course (i + 1) here)

  is_summed : IsSummed G log proper log.servers.items
  is_summed = summed G log proper log.servers.items few (all_counted G log proper log.servers.items (λ y i. i) (subst (AllByRecursion HasFit) script.servers (fits_of last.seats seats_fit)))

  committed_are : committed_in log.servers.items ≡ length (decided (log_of G log))
  committed_are = is_summed.committed ∙ sym (decided_many (log_of G log) proper 1 (subst (AreOfNumbers 1) script.servers (numbers_of 1 last.seats script.numbered)))

  text_same : tallied_text log.servers.items ≡ counts_text G log
  text_same = (λ i. count_text (committed_are i) (is_summed.begun i - committed_are i))

  -- the summary says of the transactions what their log does, and so does the report, with the lines of the clients or without
  pub counted_summary : tallied_summary G log ≡ summary_said G log
  counted_summary = ap (λ (zs : List ℕ). held_said G log ++ zs) text_same

  pub counted_for : (shown : Shown) → tallied_for shown G lines log ≡ report_for shown G lines log
  counted_for shown = ap (λ (zs : List ℕ). shown_lines shown G lines log ++ zs) counted_summary

  pub counted : tallied_report G lines log ≡ report_of G lines log
  counted = ap (λ (zs : List ℕ). turns_text (turns_of lines (lists_of G log)) ++ zs) counted_summary
