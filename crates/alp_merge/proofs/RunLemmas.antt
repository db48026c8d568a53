-- A server goes on by turns.
use Rattle.std.specs.Prelude.{max, map as list_map}
use Rattle.std.proofs.Common.{◌≡◌, ℕ, ◌+◌, List, [], ◌∷◌, ◌++◌, sym, ◌∙◌, ap}
use Rattle.std.proofs.lemmas.List.{append-nil, append_assoc}
use Rattle.alp_journal.specs.declared.entry.Entry.{Entry}
use Rattle.alp_journal.specs.declared.event.Event.TheVariants as event
use Rattle.alp_course.specs.Courses.{Seat, seat_after, last_rank, Occurrence, at, comes}
use Rattle.alp_course.specs.Happens.{Stand, ComesTo, Happens}
use Rattle.alp_merge.specs.Served.{entries_of, ranks_of, ranked_in}
use Rattle.alp_merge.specs.Turns.{Turn, seen_by}

-- what comes of it at its server; nothing else is a turn
abbrev pub Makes : Occurrence → Seat → List Entry → Stand → Type 0
Makes (at n h) s es w = Happens s.tells s.stand h es w
Makes (comes from to m seen) s es w = ComesTo s.stand s.stand.is_down (event.Arrive from m) es w
Makes o s es w = ⊥

-- a server goes on by a turn: one entry more, with the next rank
pub record Steps (s : Seat) (x : Turn) (t : Seat) : Type 0 where
  pub stand : Stand
  pub made : Makes x.occurrence s (x.entry ∷ []) stand
  pub ranked : x.rank ≡ max (last_rank s.ranks) (seen_by x.occurrence) + 1
  pub behind : t ≡ seat_after s (seen_by x.occurrence) (x.entry ∷ []) stand

-- and by further ones
abbrev pub Runs : Seat → List Turn → Seat → Type 0
Runs s [] t = t ≡ s
Runs s (x ∷ xs) t = (mid : Seat) × Steps s x mid × Runs mid xs t

-- its journal and its ranks behind them
pub runs_journal : (s t : Seat) (xs : List Turn) → Runs s xs t → t.journal ≡ s.journal ++ entries_of (list_map ranked_in xs)
runs_journal s t [] runs = ap (λ (u : Seat). u.journal) runs ∙ sym (append-nil s.journal)
runs_journal s t (x ∷ xs) (mid, step, rest) =
    runs_journal mid t xs rest ∙ (ap (λ (u : Seat). u.journal ++ entries_of (list_map ranked_in xs)) step.behind ∙ append_assoc s.journal (x.entry ∷ []) (entries_of (list_map ranked_in xs)))

pub runs_ranks : (s t : Seat) (xs : List Turn) → Runs s xs t → t.ranks ≡ s.ranks ++ ranks_of (list_map ranked_in xs)
runs_ranks s t [] runs = ap (λ (u : Seat). u.ranks) runs ∙ sym (append-nil s.ranks)
runs_ranks s t (x ∷ xs) (mid, step, rest) =
    runs_ranks mid t xs rest
    ∙ (ap (λ (u : Seat). u.ranks ++ ranks_of (list_map ranked_in xs)) step.behind
    ∙ (ap (λ (n : ℕ). (s.ranks ++ n ∷ []) ++ ranks_of (list_map ranked_in xs)) (sym step.ranked) ∙ append_assoc s.ranks (x.rank ∷ []) (ranks_of (list_map ranked_in xs))))
