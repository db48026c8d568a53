use Rattle.std.specs.Prelude.{filter, cond, Bool, true}
use Rattle.std.proofs.Common.{◌≡◌, List, [], ◌∷◌, ◌++◌, refl, sym, ap, ◌∙◌, append_assoc, rules}
use Rattle.alp_base.specs.declared.key.Key.{Key}
use Rattle.alp_base.specs.declared.cell.Cell.{Cell}
use Rattle.alp_files.specs.Edits.{is_in_file}
use Rattle.alp_files.proofs.cell_map.copies_of.Goals as goal

one_passes : {A : Type 0} (p : A → Bool) (done now rest all : List A) (x y : A) → now ≡ done ++ y ∷ [] → y ≡ x → p x ≡ true → done ++ filter p (x ∷ rest) ≡ all → now ++ filter p rest ≡ all
one_passes {A} p done now rest all x y pushed same passes before =
    ap (λ (ys : List A). ys ++ filter p rest) (pushed ∙ ap (λ (z : A). done ++ z ∷ []) same) ∙ append_assoc done (x ∷ []) (filter p rest)
    ∙ ap (λ (b : Bool). done ++ cond {A = List A} b (x ∷ filter p rest) (filter p rest)) (sym passes) ∙ before

pub loop-key-preserved-in_ok-push : goal.loop-key-preserved-in_ok-push
loop-key-preserved-in_ok-push c =
    let x : Key × Cell = (c.in-Some.key.now, c.in-Some.cell.now) in
    let same : c.in_ok-clone.field-0 ≡ c.in-Some.cell.now = search rules in
    one_passes (λ (e : Key × Cell). is_in_file c.args.file e.0) c.loop-key.copies.items c.push.new.self.items c.next.new.self _ x
    (c.in-Some.key.now, c.in_ok-clone.field-0) c.in_ok-push.ensures.items (λ i. (c.in-Some.key.now, same i)) (sym c.is_in_file.ensures ∙ c.if-is_in_file.true)
    (ap (λ (es : List (Key × Cell)). c.loop-key.copies.items ++ filter (λ (e : Key × Cell). is_in_file c.args.file e.0) es) (sym c.in-Some.ensures.steps) ∙ c.loop-key.invariant)
