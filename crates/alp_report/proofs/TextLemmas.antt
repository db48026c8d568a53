-- Joined names, and the last of a list.
use Rattle.std.specs.Prelude.{flat_map, Some, slice_get}
use Rattle.std.specs.List.{join_with_byte}
use Rattle.std.proofs.Common.{◌≡◌, ℕ, suc, zero, ◌+◌, ◌-◌, List, [], ◌∷◌, ◌++◌, length, ap, sym, ◌∙◌, append-nil, arith}
use Rattle.alp_journal.specs.declared.log.Item.{Item}
use Rattle.alp_files.specs.Cells.{owners_of}
use Rattle.alp_report.specs.Reports.{handed_text, items_text, Holding, server_text, owners_text, owned_by, count_text, summary_text}

-- after the first name each has a comma before it
pub joined : (x : List ℕ) (xs : List (List ℕ)) → join_with_byte 44 (x ∷ xs) ≡ x ++ flat_map (λ name. 44 ∷ name) xs
joined x [] = sym (append-nil x)
joined x (y ∷ xs) = ap (λ (s : List ℕ). x ++ (44 ∷ s)) (joined y xs)

last_at : (xs : List Item) (i : ℕ) (x : Item) → i + 1 ≡ length xs → Some x ≡ slice_get xs i → handed_text x.reply ≡ items_text xs
last_at [] i x long e = absurd (omega arith)
last_at (y ∷ []) zero x long e = let same : x ≡ y = cc in ap (λ (z : Item). handed_text z.reply) same
last_at (y ∷ []) (suc i) x long e = absurd (omega arith)
last_at (y ∷ z ∷ xs) zero x long e = absurd (omega arith)
last_at (y ∷ z ∷ xs) (suc i) x long e = last_at (z ∷ xs) i x (omega arith) e

-- what the last of the items was handed
pub last_text : (xs : List Item) (x : Item) → Some x ≡ slice_get xs (length xs - 1) → handed_text x.reply ≡ items_text xs
last_text [] x e = cc
last_text (y ∷ xs) x e = last_at (y ∷ xs) (length (y ∷ xs) - 1) x (omega arith) e

-- the summary of one server is that of what it holds, its owners, and the counts
pub one_summary : (h : Holding) (committed aborted : ℕ) → summary_text (h ∷ []) committed aborted ≡ server_text h ++ owners_text h.server (owners_of h.cells) ++ count_text committed aborted
one_summary h committed aborted =
    ap (λ (s : List ℕ). s ++ flat_map owned_by (h ∷ []) ++ count_text committed aborted) (append-nil (server_text h))
    ∙ ap (λ (s : List ℕ). server_text h ++ s ++ count_text committed aborted) (append-nil (owned_by h))
