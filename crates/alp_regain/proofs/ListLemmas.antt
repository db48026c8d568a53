-- lists of which all items have something, and tests of them
use Rattle.std.specs.Prelude.{Bool, true, false, ◌&&◌, map as list_map}
use Rattle.std.specs.List.{list_all, AllByRecursion}
use Rattle.alp_base.specs.declared.cell.Cell.{Cell}
use Rattle.alp_base.specs.declared.change.Change.{Change}
use Rattle.alp_base.specs.declared.ids.FileId.{FileId}
use Rattle.alp_base.specs.declared.key.Key.{Key}
use Rattle.alp_files.specs.Changes.{edits_of}
use Rattle.alp_files.specs.Edits.{Edit, Drop, Cut, Put}
use Rattle.alp_files.specs.Undo.{puts_of}
use Rattle.std.proofs.Common.{◌≡◌, ℕ, List, [], ◌∷◌, ◌++◌, refl, ap, ◌∙◌}

pub both : {a b : Bool} → (a && b) ≡ true → (a ≡ true) × (b ≡ true)
both {a = true} h = (refl, h)
both {a = false} h = cc

pub neither : {a b : Bool} → (a && b) ≡ false → a ≡ true → b ≡ true → ⊥
neither {a = true} {b = true} h p q = cc
neither {a = true} {b = false} h p q = cc
neither {a = false} h p q = cc

pub at_middle : {X : Type 0} (P : X → Type 0) (xs : List X) (y : X) (zs : List X) → AllByRecursion P (xs ++ y ∷ zs) → P y
at_middle P [] y zs h = h.0
at_middle P (x ∷ xs) y zs h = at_middle P xs y zs h.1

pub pushed : {X : Type 0} (P : X → Type 0) (xs : List X) (y : X) → AllByRecursion P xs → P y → AllByRecursion P (xs ++ y ∷ [])
pushed P [] y h p = (p, tt)
pushed P (x ∷ xs) y h p = (h.0, pushed P xs y h.1 p)

pub weaker : {X : Type 0} (P Q : X → Type 0) → ((x : X) → P x → Q x) → (xs : List X) → AllByRecursion P xs → AllByRecursion Q xs
weaker P Q f [] h = tt
weaker P Q f (x ∷ xs) h = (f x h.0, weaker P Q f xs h.1)

-- three lists one behind the other
pub all_in_parts : {X : Type 0} (p : X → Bool) (xs ys zs : List X) → list_all p (xs ++ (ys ++ zs)) ≡ (list_all p xs && (list_all p ys && list_all p zs))
all_in_parts p [] [] zs = refl
all_in_parts p [] (y ∷ ys) zs = ap (λ (b : Bool). p y && b) (all_in_parts p [] ys zs) ∙ regroup (p y) (list_all p ys) (list_all p zs)
  where
    regroup : (a b c : Bool) → (a && (b && c)) ≡ ((a && b) && c)
    regroup true b c = refl
    regroup false b c = refl
all_in_parts p (x ∷ xs) ys zs = ap (λ (b : Bool). p x && b) (all_in_parts p xs ys zs) ∙ regroup (p x) (list_all p xs) (list_all p ys && list_all p zs)
  where
    regroup : (a b c : Bool) → (a && (b && c)) ≡ ((a && b) && c)
    regroup true b c = refl
    regroup false b c = refl

pub all_mapped : {X Y : Type 0} (p : Y → Bool) (f : X → Y) (xs : List X) → list_all p (list_map f xs) ≡ list_all (λ x. p (f x)) xs
all_mapped p f [] = refl
all_mapped p f (x ∷ xs) = ap (λ (b : Bool). p (f x) && b) (all_mapped p f xs)

-- a test of all that a change does
pub all_of_change : (p : Edit → Bool) (c : Change)
    → list_all p (edits_of c) ≡ (list_all (λ f. p (Drop f)) c.drops && (list_all (λ x. p (Cut x.0 x.1)) c.cuts && list_all (λ x. p (Put x.0 x.1)) c.puts))
all_of_change p c =
    all_in_parts p (list_map Drop c.drops) (list_map (λ (x : FileId × ℕ). Cut x.0 x.1) c.cuts) (puts_of c.puts)
    ∙ (λ i. all_mapped p Drop c.drops i && (all_mapped p (λ (x : FileId × ℕ). Cut x.0 x.1) c.cuts i && all_mapped p (λ (x : Key × Cell). Put x.0 x.1) c.puts i))
