use Rattle.std.specs.Prelude.{Bool, not}
use Rattle.std.specs.List.{filter}
use Rattle.std.proofs.Common.{◌≡◌, ◌∙◌, ℕ, List, sym, ap, subst}
use Rattle.alp_volume.specs.declared.undo.Undo.{Undo}
use Rattle.alp_volume.specs.Parts.{is_free, was_free}
use Rattle.alp_volume.specs.Undone.{Leads}
use Rattle.alp_volume.proofs.PartsLaws.{Tells, free_then, then_ok}
use Rattle.alp_volume.proofs.draft.Draft.parted.Goals as goal

pub returns-clause-new : goal.returns-clause-new
returns-clause-new c old led =
    let now = c.args.catalog.now in
    let tells : Tells c.in_ok-before.before now.places old.places = c.in_ok-before.ensures now old (subst (λ (us : List Undo). Leads us now old) (sym c.as_slice.ensures.value) led) in
    let same : (λ (e : ℕ × List ℕ). was_free c.in_ok-before.before now.places e.0) ≡ (λ (e : ℕ × List ℕ). is_free old e.0) = λ i e. free_then c.in_ok-before.before now old tells e.0 i in
    then_ok c.part.result (λ x is. is ∙ ap (λ (p : ℕ × List ℕ → Bool). filter p c.in_ok-images.images.items) same ∙ ap (filter (λ (e : ℕ × List ℕ). is_free old e.0)) c.in_ok-images.ensures) c.part.ensures.new

pub returns-clause-others : goal.returns-clause-others
returns-clause-others c old led =
    let now = c.args.catalog.now in
    let tells : Tells c.in_ok-before.before now.places old.places = c.in_ok-before.ensures now old (subst (λ (us : List Undo). Leads us now old) (sym c.as_slice.ensures.value) led) in
    let same : (λ (e : ℕ × List ℕ). not (was_free c.in_ok-before.before now.places e.0)) ≡ (λ (e : ℕ × List ℕ). not (is_free old e.0)) = λ i e. not (free_then c.in_ok-before.before now old tells e.0 i) in
    then_ok c.part.result (λ x is. is ∙ ap (λ (p : ℕ × List ℕ → Bool). filter p c.in_ok-images.images.items) same ∙ ap (filter (λ (e : ℕ × List ℕ). not (is_free old e.0))) c.in_ok-images.ensures) c.part.ensures.others
