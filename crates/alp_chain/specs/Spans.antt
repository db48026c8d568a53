-- locked runs of pages
use Rattle.std.specs.Prelude.{◌≡◌, ℕ, ◌+◌, ◌<◌, ◌≤◌, ◌^◌, Bool, true, false, ◌&&◌, not, cond, eqb, leb, ltb, List, [], ◌∷◌, Option, None, Some, is_none}
use Rattle.std.specs.Option.{option_map}
use Rattle.std.specs.List.{filter, find}
use Rattle.std.specs.FinMap as map
use Rattle.alp_modes.specs.declared.Mode.{Mode}
use Rattle.alp_modes.specs.Modes.{join_of}
use Rattle.alp_chain.specs.declared.node.NodeView.{NodeView}
use Rattle.alp_chain.specs.declared.node.Span.{Span}
use Rattle.alp_chain.specs.Linked.{times}
use Rattle.alp_chain.specs.Lists.{list_at}
use Rattle.alp_chain.specs.Chains.{Nodes, Chains, is_whole}

-- pages from the first up to the end, which is not among them, in one mode
pub record PageRun : Type 0 where
  pub first : ℕ
  pub end : ℕ
  pub mode : Mode

abbrev pub run_of : Mode → Option Span → Option PageRun
run_of m None = None
run_of m (Some s) = Some (record { first = s.first; end = s.first + s.count; mode = m })

-- the run of a node, if it is a span of that transaction on that resource
abbrev pub run_in : ℕ → ℕ → Option NodeView → Option PageRun
run_in r t None = None
run_in r t (Some v) = cond (eqb r v.resource && eqb t v.trans) (run_of v.mode v.span) None

abbrev pub runs : Nodes → ℕ → ℕ → ℕ → Option PageRun
runs nodes r t n = run_in r t (map.get nodes n)

abbrev pub has_page : Option PageRun → ℕ → Bool
has_page None p = false
has_page (Some a) p = leb a.first p && ltb p a.end

-- the node by which the transaction holds a page of the resource, and the mode in which it does
abbrev pub node_on : Chains → ℕ → ℕ → ℕ → Option ℕ
node_on c r t p = find (λ n. has_page (runs c.nodes r t n) p) (list_at c.on r)

abbrev pub mode_by : Chains → Option ℕ → Option Mode
mode_by c None = None
mode_by c (Some n) = option_map (λ (v : NodeView). v.mode) (map.get c.nodes n)

abbrev pub mode_on : Chains → ℕ → ℕ → ℕ → Option Mode
mode_on c r t p = mode_by c (node_on c r t p)

-- One node for each longest run of pages in one mode: no run is empty, no two have a page together, and two that touch
-- differ in mode, but for those that touch at one of some pages.
pub record AreRuns (loose : List ℕ) (m : ℕ → Option PageRun) : Type 0 where
  pub filled : (n : ℕ) (a : PageRun) → m n ≡ Some a → a.first < a.end
  pub within : (n : ℕ) (a : PageRun) → m n ≡ Some a → a.end ≤ 2 ^ 32
  pub apart : (n k : ℕ) (a b : PageRun) (p : ℕ) → m n ≡ Some a → m k ≡ Some b → a.first ≤ p → p < a.end → b.first ≤ p → p < b.end → n ≡ k
  pub longest : (n k : ℕ) (a b : PageRun) → m n ≡ Some a → m k ≡ Some b → a.end ≡ b.first → a.mode ≡ b.mode → 1 ≤ times a.end loose

-- no run goes across a page's beginning
abbrev pub IsCut : ℕ → (ℕ → Option PageRun) → Type 0
IsCut q m = (n : ℕ) (a : PageRun) → m n ≡ Some a → a.first < q → q < a.end → ⊥

-- no run has that page
abbrev pub IsFree : ℕ → (ℕ → Option PageRun) → Type 0
IsFree p m = (n : ℕ) (a : PageRun) → m n ≡ Some a → a.first ≤ p → p < a.end → ⊥

-- runs of which some touch at pages that are not known, and a page that is in none
pub record AreSpans (m : ℕ → Option PageRun) : Type 0 where
  pub loose : List ℕ
  pub free : ℕ
  pub below : free < 2 ^ 32
  pub runs : AreRuns loose m
  pub unheld : IsFree free m

-- ---- what is held

-- the mode that a page is held in after that one is asked
abbrev pub raised : Option Mode → Mode → Mode
raised None m = m
raised (Some a) m = join_of a m

abbrev pub is_among : ℕ → ℕ → ℕ → Bool
is_among first end p = leb first p && ltb p end

-- the pages from one up to another are held in that mode too: each in the least mode that covers it and the one of before
abbrev pub ModesRise : ℕ → ℕ → ℕ → ℕ → Mode → Chains → Chains → Type 0
ModesRise r t f e m c d = (p : ℕ) → mode_on d r t p ≡ cond (is_among f e p) (Some (raised (mode_on c r t p) m)) (mode_on c r t p)

-- a node is of that transaction on that resource
abbrev pub is_own : ℕ → ℕ → Option NodeView → Bool
is_own r t None = false
is_own r t (Some v) = eqb r v.resource && eqb t v.trans

-- what stands at a node, if it is of another transaction or on another resource
abbrev pub of_others : ℕ → ℕ → Option NodeView → Option NodeView
of_others r t o = cond (is_own r t o) None o

-- each node of the transaction on the resource has a span
abbrev pub AreOwnSpans : ℕ → ℕ → Nodes → Type 0
AreOwnSpans r t nodes = (n : ℕ) → is_own r t (map.get nodes n) ≡ true → is_whole (map.get nodes n) ≡ false

-- each node on the resource has a span
abbrev pub AreAllSpans : ℕ → Nodes → Type 0
AreAllSpans r nodes = (n : ℕ) (v : NodeView) → map.get nodes n ≡ Some v → v.resource ≡ r → is_none v.span ≡ false

-- nodes of other transactions and on other resources stay, in their order, and spans stay spans
pub record KeepsOthers (r t : ℕ) (c d : Chains) : Type 0 where
  pub nodes : (n : ℕ) → of_others r t (map.get d.nodes n) ≡ of_others r t (map.get c.nodes n)
  pub on : (k : ℕ) → filter (λ n. not (is_own r t (map.get d.nodes n))) (list_at d.on k) ≡ filter (λ n. not (is_own r t (map.get c.nodes n))) (list_at c.on k)
  pub of : (k : ℕ) → filter (λ n. not (is_own r t (map.get d.nodes n))) (list_at d.of k) ≡ filter (λ n. not (is_own r t (map.get c.nodes n))) (list_at c.of k)
  pub spans : AreOwnSpans r t c.nodes → AreOwnSpans r t d.nodes

-- ---- the steps of a lock on a span

-- a run that goes across a page's beginning is cut there
pub record Splits (q r t : ℕ) (c d : Chains) : Type 0 where
  pub runs_after : (l : List ℕ) → AreRuns l (runs c.nodes r t) → AreRuns (q ∷ l) (runs d.nodes r t)
  pub free : (g : ℕ) → IsFree g (runs c.nodes r t) → IsFree g (runs d.nodes r t)
  pub cut : (g : ℕ) → IsCut g (runs c.nodes r t) → IsCut g (runs d.nodes r t)
  pub here : IsCut q (runs d.nodes r t)
  pub modes : (p : ℕ) → mode_on d r t p ≡ mode_on c r t p
  pub others : KeepsOthers r t c d

-- the pages from one up to another rise
pub record Raises (f e r t : ℕ) (m : Mode) (c d : Chains) : Type 0 where
  pub runs_after : (l : List ℕ) → AreRuns l (runs c.nodes r t) → AreRuns (f ∷ e ∷ l) (runs d.nodes r t)
  pub free : (g : ℕ) → (f ≤ g → g < e → ⊥) → IsFree g (runs c.nodes r t) → IsFree g (runs d.nodes r t)
  pub cut : (g : ℕ) → (f < g → g < e → ⊥) → IsCut g (runs c.nodes r t) → IsCut g (runs d.nodes r t)
  pub here : IsCut e (runs d.nodes r t)
  pub modes : ModesRise r t f e m c d
  pub others : KeepsOthers r t c d

-- two runs of one mode that touch at a page become one
pub record Meets (q r t : ℕ) (c d : Chains) : Type 0 where
  pub runs_after : (l : List ℕ) → AreRuns (q ∷ l) (runs c.nodes r t) → AreRuns l (runs d.nodes r t)
  pub free : (g : ℕ) → IsFree g (runs c.nodes r t) → IsFree g (runs d.nodes r t)
  pub cut : (g : ℕ) → (g ≡ q → ⊥) → IsCut g (runs c.nodes r t) → IsCut g (runs d.nodes r t)
  pub modes : (p : ℕ) → mode_on d r t p ≡ mode_on c r t p
  pub others : KeepsOthers r t c d

-- a node by which the transaction holds a page, with its span
pub record IsHeld (c : Chains) (r t p n : ℕ) (v : NodeView) (s : Span) : Type 0 where
  pub first : node_on c r t p ≡ Some n
  pub there : map.get c.nodes n ≡ Some v
  pub resource : r ≡ v.resource
  pub trans : t ≡ v.trans
  pub span : v.span ≡ Some s
  pub from : s.first ≤ p
  pub to : p < s.first + s.count

-- ---- what a transaction has

-- A transaction has one node for each resource without spans, and one for each longest run of pages in one mode. The nodes of one resource
-- all have spans, or none has.
pub record AreLocks (nodes : Nodes) : Type 0 where
  pub longest : (r t : ℕ) → AreRuns [] (runs nodes r t)
  pub single : (n k : ℕ) (v w : NodeView) → map.get nodes n ≡ Some v → map.get nodes k ≡ Some w → v.resource ≡ w.resource → v.trans ≡ w.trans → v.span ≡ None → n ≡ k
  pub alike : (n k : ℕ) (v w : NodeView) → map.get nodes n ≡ Some v → map.get nodes k ≡ Some w → v.resource ≡ w.resource → is_none v.span ≡ is_none w.span

-- ---- a lock on a span

-- A page that the transaction neither holds nor asks. So its runs are shorter than all pages, and a span can say each.
pub record HasFree (r t : ℕ) (s : Span) (c : Chains) : Type 0 where
  pub page : ℕ
  pub below : page < 2 ^ 32
  pub unheld : IsFree page (runs c.nodes r t)
  pub unasked : is_among s.first (s.first + s.count) page ≡ false

-- The pages of the span rise. No page besides is held that was not. Each transaction has one node for each longest run, and the resource
-- has spans alone.
pub record LocksSpan (r t : ℕ) (s : Span) (m : Mode) (c d : Chains) : Type 0 where
  pub modes : ModesRise r t s.first (s.first + s.count) m c d
  pub free : (p : ℕ) → is_among s.first (s.first + s.count) p ≡ false → IsFree p (runs c.nodes r t) → IsFree p (runs d.nodes r t)
  pub locks : AreLocks d.nodes
  pub spans : AreAllSpans r d.nodes
