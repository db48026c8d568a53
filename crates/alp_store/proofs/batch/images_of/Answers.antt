use Rattle.std.specs.Prelude.{map as list_map}
use Rattle.std.proofs.Common.{◌≡◌, ℕ, List, [], ◌∷◌, ◌++◌, length, refl, sym, ◌∙◌, ap, append_assoc, arith}
use Rattle.std.proofs.lemmas.List.{append-nil}
use Rattle.alp_batch.specs.declared.batch.PageImage.{PageImage}
use Rattle.alp_store.specs.Batches.{image_of}
use Rattle.alp_store.proofs.batch.images_of.Goals as goal

none_left : (es : List (ℕ × List ℕ)) → length es ≡ 0 → es ≡ []
none_left [] h = refl
none_left (e ∷ es) h = absurd (omega (arith, h))

pub loop-at-init : goal.loop-at-init
loop-at-init c =
    ap (λ (xs : List PageImage). xs ++ list_map image_of c.into_iter-at-iterator.result.rest.items) c.new-images.ensures.items
    ∙ ap (list_map image_of) c.into_iter-at-iterator.ensures.into_iter_gives.0

pub loop-at-preserved : goal.loop-at-preserved
loop-at-preserved c =
    let rest = list_map image_of c.next.new.self.rest.items in
    ap (λ (xs : List PageImage). xs ++ rest) c.in_ok-push.ensures.items
    ∙ append_assoc c.loop-at.images.items (image_of (c.in-Some.at, c.in-Some.page) ∷ []) rest
    ∙ sym (ap (λ (es : List (ℕ × List ℕ)). c.loop-at.images.items ++ list_map image_of es) c.in-Some.ensures.steps.0)
    ∙ c.loop-at.invariant

pub returns : goal.returns
returns c =
    let none : c.loop-at.at-iterator.rest.items ≡ [] = none_left c.loop-at.at-iterator.rest.items (omega (arith, c.in-None.ensures.steps.0, c.loop-at.at-iterator.rest.ok)) in
    sym (ap (λ (es : List (ℕ × List ℕ)). c.loop-at.images.items ++ list_map image_of es) none ∙ append-nil c.loop-at.images.items) ∙ c.loop-at.invariant
