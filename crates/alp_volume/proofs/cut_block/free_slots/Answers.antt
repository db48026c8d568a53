use Rattle.std.specs.Prelude.{Bool, true, false, ◌==◌, nat_lt, slice_index_or, slice_set}
use Rattle.std.proofs.Common.{◌≡◌, ◌∙◌, ◌≤◌, ◌<◌, ◌+◌, List, ℕ, length, refl, sym, ap, arith, eq-eqb}
use Rattle.std.proofs.lemmas.Bool.{eqb-true, ltb-true, ltb-false}
use Rattle.std.proofs.lemmas.List.{get_or-set_same, get_or-set_other, get_or_past, length-set}
use Rattle.alp_volume.specs.declared.catalog.Catalog.{Catalog}
use Rattle.alp_volume.proofs.FreedLaws.{none_freed, slot_step, all_freed}
use Rattle.alp_volume.proofs.cut_block.free_slots.Goals as goal

pub returns-in_err-free_slot-clause-sized : goal.returns-in_err-free_slot-clause-sized
returns-in_err-free_slot-clause-sized c home sized = c.free_slot.ensures.sized home (c.loop-slot.invariant.sized home sized)

-- what a row has where a number of it was set to 0
zeroed : (row : List ℕ) (s j : ℕ) → s < length row → (j ≡ s → ⊥) → slice_index_or (slice_set row s 0) j 0 ≡ slice_index_or row j 0
zeroed row s j within ne = get_or-set_other row s j 0 0 ne

pub loop-slot-preserved : goal.loop-slot-preserved
loop-slot-preserved c =
    let inv = c.loop-slot.invariant in
    let row = c.loop-slot.row in
    let s = c.loop-slot.slot in
    let set : c.free_slot.new.row ≡ slice_set row s 0 = c.in_ok-free_slot.ensures.row in
    let within : s < length row = omega (arith, inv.long, c.loop-slot-test.true) in
    record {
      from = omega (arith, inv.from);
      kept = λ j early. ap (λ (xs : List ℕ). slice_index_or xs j 0) set ∙ zeroed row s j within (λ z. (let from = inv.from in omega arith)) ∙ inv.kept j early;
      done = λ j late early. ap (λ (xs : List ℕ). slice_index_or xs j 0) set ∙ done_one row s j within (nat_lt j s) refl early (λ before. inv.done j late before);
      rest = λ j late. ap (λ (xs : List ℕ). slice_index_or xs j 0) set ∙ zeroed row s j within (λ z. omega arith) ∙ inv.rest j (omega arith);
      long = ap length set ∙ length-set row s 0 ∙ inv.long;
      places = λ freeable. slot_step c.args.first s c.args.row.now c.args.catalog.now.places c.loop-slot.catalog.places c.free_slot.new.catalog.places inv.from (inv.places freeable) freeable inv.all (slice_index_or row s 0) (inv.rest s (omega arith)) c.in_ok-free_slot.ensures.none
          c.in_ok-free_slot.ensures.freed;
      only = c.free_slot.ensures.only ∙ ap (λ (k : Catalog). record k { places = c.free_slot.new.catalog.places }) inv.only;
      all = c.free_slot.ensures.long ∙ inv.all;
      back = λ first led. c.free_slot.ensures.back first (inv.back first led);
      sized = λ home sized. c.free_slot.ensures.sized home (inv.sized home sized);
    }
  where
    done_one : (row : List ℕ) (s j : ℕ) → s < length row → (t : Bool) → nat_lt j s ≡ t → j < s + 1 → (j < s → slice_index_or row j 0 ≡ 0) → slice_index_or (slice_set row s 0) j 0 ≡ 0
    done_one row s j within true e early before = (let less = ltb-true j s e in get_or-set_other row s j 0 0 (λ z. omega arith) ∙ before less)
    done_one row s j within false e early before = (let same : j ≡ s = (let past = ltb-false j s e in omega arith) in ap (λ (x : ℕ). slice_index_or (slice_set row s 0) x 0) same ∙ get_or-set_same row s 0 0 within)

pub returns-clause-none : goal.returns-clause-none
returns-clause-none c j late = go (nat_lt j c.loop-slot.slot) refl
  where
    go : (t : Bool) → nat_lt j c.loop-slot.slot ≡ t → slice_index_or c.loop-slot.row j 0 ≡ 0
    go true e = c.loop-slot.invariant.done j late (ltb-true j c.loop-slot.slot e)
    go false e = get_or_past c.loop-slot.row j 0 (let past = ltb-false j c.loop-slot.slot e in omega (arith, c.loop-slot.invariant.long, c.loop-slot-test.false))

pub returns-clause-places : goal.returns-clause-places
returns-clause-places c freeable =
    all_freed c.args.first c.loop-slot.slot c.args.row.now c.args.catalog.now.places c.loop-slot.catalog.places (omega (arith, c.requires.row, c.loop-slot-test.false)) (c.loop-slot.invariant.places freeable)
