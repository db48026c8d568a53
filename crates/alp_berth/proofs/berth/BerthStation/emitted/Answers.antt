use Rattle.std.specs.Prelude.{slice_get, Some, IfSome, IfNone}
use Rattle.std.proofs.Common.{rules, ◌≡◌, ◌≤◌, ◌<◌, ◌-◌, ◌+◌, ◌^◌, ◌++◌, ℕ, length, sym, ap, ◌∙◌, subst, arith, List}
use Rattle.alp_journal.specs.declared.act.Act.{Act}
use Rattle.alp_journal.specs.declared.entry.Entry.{Entry}
use Rattle.alp_journal.specs.declared.message.Envelope.{Envelope}
use Rattle.alp_carrier.specs.Sights.{IsShown}
use Rattle.alp_berth.specs.BerthStates.{BerthState}
use Rattle.alp_berth.specs.Sends.{sent_by}
use Rattle.alp_berth.specs.Berths.{sight_of, sent_ranked, stood, entries_of}
use Rattle.alp_berth.proofs.SendLemmas.{same_some}
use Rattle.alp_berth.proofs.EntryLemmas.{es}
use Rattle.alp_berth.proofs.ShownLemmas.{shown, none_first, none_there, found_within, some_as, none_as}
use Rattle.alp_berth.proofs.berth.BerthStation.emitted.Goals as goal

pub entry_at-entry-requires : goal.entry_at-entry-requires
entry_at-entry-requires g c =
    let f = c.in-Some.ensures.some in
    let w = found_within c.as_slice.result.now c.self.inside.counts.items c.self.inside.node.journal c.in-Some.at f.0 f.1 c.as_slice.ensures.value c.self.invariant.counted.counts_are in
    let low = w.1 in
    let long : length c.entries.result.now ≡ length c.self.inside.node.journal = ap (λ (l : List Entry). length l) (c.entries.ensures ∙ c.journal.ensures) in
    omega (arith, low, long)

pub count_at-before-requires : goal.count_at-before-requires
count_at-before-requires g c =
    let f = c.in-Some.ensures.some in
    let w = found_within c.as_slice.result.now c.self.inside.counts.items c.self.inside.node.journal c.in-Some.at f.0 f.1 c.as_slice.ensures.value c.self.invariant.counted.counts_are in
    let low = w.0 in
    let long : length c.as_slice-2.result.now ≡ length c.self.inside.counts.items = ap (λ (l : List ℕ). length l) c.as_slice-2.ensures.value in
    omega (arith, low, long)

pub returns-in_default-clause-none : goal.returns-in_default-clause-none
returns-in_default-clause-none g c =
    let small : c.args.place < 2 ^ 32 = search rules in
    let from = c.from.ensures in
    let none = c.in_default.ensures.none in
    let above : (n : ℕ) → slice_get c.self.inside.counts.items 0 ≡ Some n → c.args.place < n = λ n e. (let l = none n (ap (λ (l : List ℕ). slice_get l 0) c.as_slice.ensures.value ∙ e) in omega (arith, l, from)) in
    subst (λ (b : BerthState g.row.V.Denot). length (sent_ranked (stood b.made ++ entries_of b)) ≤ c.args.place) c.self.view_is
    (none_first g.V.Vault c.self.inside.made c.self.inside.node c.self.inside.ranks.items c.self.invariant.berth c.self.inside.counts.items c.self.invariant.counted.counts_are c.args.place small above)

pub returns-clause-some : goal.returns-clause-some
returns-clause-some g c =
    let small : c.args.place < 2 ^ 32 = search rules in
    let f = c.in-Some.ensures.some in
    let from = c.from.ensures in
    let before = c.count_at-before.result in
    let k = c.from-2.result - c.count_at-before.result in
    let at0 : slice_get c.self.inside.counts.items c.in-Some.at ≡ Some c.count_at-before.result = ap (λ (l : List ℕ). slice_get l c.in-Some.at) (sym c.as_slice-2.ensures.value) ∙ c.count_at-before.ensures in
    let same : f.0 ≡ c.count_at-before.result = same_some f.0 c.count_at-before.result (sym f.1 ∙ (ap (λ (l : List ℕ). slice_get l c.in-Some.at) c.as_slice.ensures.value ∙ at0)) in
    let few = f.2 in
    let low : c.count_at-before.result ≤ c.args.place = omega (arith, few, from, same) in
    let e_at : slice_get c.self.inside.node.journal c.in-Some.at ≡ Some c.entry_at-entry.result.now = ap (λ (l : List Entry). slice_get l c.in-Some.at) (sym (c.entries.ensures ∙ c.journal.ensures)) ∙ c.entry_at-entry.ensures in
    let k_is : c.from-2.result - c.count_at-before.result ≡ c.args.place - c.count_at-before.result = ap (λ (n : ℕ). n - c.count_at-before.result) c.from-2.ensures in
    subst (λ (b : BerthState g.row.V.Denot). IfSome c.sent_at.result (IsShown sight_of b.made (entries_of b) c.args.place)) c.self.view_is
    (some_as (λ (x : Envelope). slice_get (sent_by c.as_slice-3.result.now) (c.from-2.result - c.count_at-before.result) ≡ Some x)
    (IsShown sight_of c.self.inside.made (es g.V.Vault c.self.inside.made c.self.inside.node c.self.inside.ranks.items c.self.invariant.berth) c.args.place) c.sent_at.result
    (λ x x_at. shown g.V.Vault c.self.inside.made c.self.inside.node c.self.inside.ranks.items c.self.invariant.berth c.self.inside.counts.items c.self.invariant.counted.counts_are c.args.place small c.in-Some.at c.count_at-before.result
    (c.from-2.result - c.count_at-before.result) c.entry_at-entry.result.now x c.knows.ensures at0 low k_is e_at (ap (λ (l : List Act). slice_get (sent_by l) (c.from-2.result - c.count_at-before.result)) (sym c.as_slice-3.ensures) ∙ x_at)) c.sent_at.ensures.some)

pub returns-clause-none : goal.returns-clause-none
returns-clause-none g c =
    let small : c.args.place < 2 ^ 32 = search rules in
    let f = c.in-Some.ensures.some in
    let from = c.from.ensures in
    let before = c.count_at-before.result in
    let k = c.from-2.result - c.count_at-before.result in
    let at0 : slice_get c.self.inside.counts.items c.in-Some.at ≡ Some c.count_at-before.result = ap (λ (l : List ℕ). slice_get l c.in-Some.at) (sym c.as_slice-2.ensures.value) ∙ c.count_at-before.ensures in
    let same : f.0 ≡ c.count_at-before.result = same_some f.0 c.count_at-before.result (sym f.1 ∙ (ap (λ (l : List ℕ). slice_get l c.in-Some.at) c.as_slice.ensures.value ∙ at0)) in
    let few = f.2 in
    let low : c.count_at-before.result ≤ c.args.place = omega (arith, few, from, same) in
    let e_at : slice_get c.self.inside.node.journal c.in-Some.at ≡ Some c.entry_at-entry.result.now = ap (λ (l : List Entry). slice_get l c.in-Some.at) (sym (c.entries.ensures ∙ c.journal.ensures)) ∙ c.entry_at-entry.ensures in
    let k_is : c.from-2.result - c.count_at-before.result ≡ c.args.place - c.count_at-before.result = ap (λ (n : ℕ). n - c.count_at-before.result) c.from-2.ensures in
    let next : (m : ℕ) → slice_get c.self.inside.counts.items (c.in-Some.at + 1) ≡ Some m → c.args.place < m =
    λ m e. (let l = f.3 m (ap (λ (l : List ℕ). slice_get l (c.in-Some.at + 1)) c.as_slice.ensures.value ∙ e) in omega (arith, l, from)) in
    subst (λ (b : BerthState g.row.V.Denot). IfNone c.sent_at.result (length (sent_ranked (stood b.made ++ entries_of b)) ≤ c.args.place)) c.self.view_is
    (none_as (length (sent_by c.as_slice-3.result.now) ≤ c.from-2.result - c.count_at-before.result) _ c.sent_at.result
    (λ short. none_there g.V.Vault c.self.inside.made c.self.inside.node c.self.inside.ranks.items c.self.invariant.berth c.self.inside.counts.items c.self.invariant.counted.counts_are c.args.place small c.in-Some.at c.count_at-before.result
    (c.from-2.result - c.count_at-before.result) c.entry_at-entry.result.now at0 low k_is e_at next (subst (λ (l : List Act). length (sent_by l) ≤ c.from-2.result - c.count_at-before.result) c.as_slice-3.ensures short)) c.sent_at.ensures.none)
