-- lemmas on lists of names
use Rattle.std.specs.Prelude.{nat_le, ◌&&◌, Bool, None, Some, Err}
use Rattle.std.specs.Borrow.{Bor}
use Rattle.std.specs.List.{list_all}
use Rattle.std.proofs.Common.{◌≡◌, ℕ, ◌+◌, ◌<◌, List, [], ◌∷◌, ◌++◌, length, drop, get_or, true, false, refl, sym, ◌∙◌, ap, append_assoc}
use Rattle.alp_base.specs.Names.{is_name}
use Rattle.alp_base.specs.declared.lists.TheConstants.{NAMES_PER_LIST}
use Rattle.alp_tokens.specs.Telling.{Tells}
use Rattle.alp_tokens.specs.Words.{shown}
use Rattle.alp_tokens.specs.Names.{name_of, names_of}
use Rattle.alp_tokens.specs.declared.fault.LineFault.{LineFault}
use Rattle.alp_tokens.specs.declared.fault.LineFault.TheVariants as fault
use Rattle.alp_tokens.proofs.WordLemmas.{tested, untested, when-false, shown-drop}

pub name_of-is : (w n : List ℕ) → name_of w ≡ Some n → (is_name w ≡ true) × (w ≡ n)
unfolding name_of
name_of-is w n h = tested (is_name w) w n h

name_of-none : (w : List ℕ) → name_of w ≡ None → is_name w ≡ false
unfolding name_of
name_of-none w h = untested (is_name w) w h

-- one name more was taken
pub kept-next : (ws : List (Bor (List ℕ))) (i : ℕ) (d : Bor (List ℕ)) (names : List (List ℕ)) (n : List ℕ) → i < length ws → name_of (get_or ws i d).now ≡ Some n
    → names ++ shown (drop i ws) ≡ shown ws → (names ++ n ∷ []) ++ shown (drop (i + 1) ws) ≡ shown ws
kept-next ws i d names n within e kept =
    append_assoc names (n ∷ []) (shown (drop (i + 1) ws))
    ∙ ap (λ (w : List ℕ). names ++ w ∷ shown (drop (i + 1) ws)) (sym (name_of-is (get_or ws i d).now n e).1)
    ∙ ap (λ (rest : List (List ℕ)). names ++ rest) (sym (shown-drop ws i d within)) ∙ kept

-- and the rest are names where all are
pub named-next : (ws : List (Bor (List ℕ))) (i : ℕ) (d : Bor (List ℕ)) (n : List ℕ) → i < length ws → name_of (get_or ws i d).now ≡ Some n
    → list_all is_name (shown (drop i ws)) ≡ list_all is_name (shown ws) → list_all is_name (shown (drop (i + 1) ws)) ≡ list_all is_name (shown ws)
named-next ws i d n within e named =
    ap (λ (b : Bool). b && list_all is_name (shown (drop (i + 1) ws))) (sym (name_of-is (get_or ws i d).now n e).0)
    ∙ ap (list_all is_name) (sym (shown-drop ws i d within)) ∙ named

-- a word that is no name
pub unnamed : (ws : List (Bor (List ℕ))) (i : ℕ) (d : Bor (List ℕ)) (e : LineFault) → i < length ws → list_all is_name (shown (drop i ws)) ≡ list_all is_name (shown ws)
    → Tells {X = List ℕ} (Err e) (name_of (get_or ws i d).now) → Tells {X = List (List ℕ)} (Err e) (names_of (shown ws))
unfolding names_of
unnamed ws i d fault.Outside within named none = when-false _ (shown ws) (ap (λ (b : Bool). nat_le (length (shown ws)) NAMES_PER_LIST && b) no_names ∙ and-false (nat_le (length (shown ws)) NAMES_PER_LIST))
  where
    no_names : list_all is_name (shown ws) ≡ false
    no_names =
        sym named ∙ ap (list_all is_name) (shown-drop ws i d within)
        ∙ ap (λ (b : Bool). b && list_all is_name (shown (drop (i + 1) ws))) (name_of-none (get_or ws i d).now none)

    and-false : (b : Bool) → (b && false) ≡ false
    and-false true = refl
    and-false false = refl
unnamed ws i d fault.OutOfMemory within named none = tt
