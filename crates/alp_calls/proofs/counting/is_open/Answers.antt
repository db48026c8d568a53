use Rattle.std.specs.Prelude.{Bool, true, false, IfOk, Option, None, Result, Ok, Err}
use Rattle.std.specs.Option.{unwrap_or}
use Rattle.std.specs.FinMap as map
use Rattle.std.proofs.Common.{◌≡◌, ℕ, ◌+◌, ◌-◌, ◌*◌, ◌/◌, ◌%◌, ◌<◌, ◌≤◌, refl, sym, ◌∙◌, ap, arith}
use Rattle.alp_base.specs.declared.ids.FileId.{FileId}
use Rattle.alp_base.specs.declared.key.Key.TheVariants.{PageOf}
use Rattle.alp_files.specs.Cells.{Cells}
use Rattle.alp_files.specs.Counts.{block_of, blocks_of, APageStands}
use Rattle.alp_files.specs.Needs.{first_gone}
use Rattle.alp_vault.specs.Volumes.{has_block_in}
use Rattle.alp_trans.specs.Counting.{has_block, left_by}
use Rattle.alp_calls.specs.declared.fault.CallFault.{CallFault}
use Rattle.alp_calls.proofs.BlockLemmas.{shut, open_whole, open_below}
use Rattle.alp_calls.proofs.counting.is_open.Goals as goal

-- the block is named by its first page
same_block : (held : Cells) (f : FileId) (n : ℕ) → has_block_in held f (n / 128) ≡ has_block held (block_of f n)
same_block held f n =
    let first : 128 * (n / 128) ≡ n - n % 128 = omega arith in
    ap (λ (x : ℕ). map.contains_key (blocks_of (map.entries held)) (PageOf f x)) first

-- what a look tells is so of what it gave
if_found : (r : Result Bool CallFault) (P Q R : Bool → Type 0) → IfOk r P → IfOk r Q → ((b : Bool) → P b → Q b → R b) → IfOk r R
if_found (Ok b) P Q R p q so = so b p q
if_found (Err f) P Q R p q so = tt

pub returns-then-not-has_block-clause-open : goal.returns-then-not-has_block-clause-open
returns-then-not-has_block-clause-open g c = λ told.
    let held : Cells = (g.V.Vault.held c.args.vault.now).cells in
    let end : ℕ = unwrap_or (first_gone c.args.ahead.now c.args.file) (c.args.number - c.args.number % 128 + 128) in
    sym (shut c.args.ahead.now held c.args.file c.args.number end refl (sym (c.has_block.ensures told ∙ same_block held c.args.file c.args.number) ∙ c.if-not-has_block.true))

pub returns-then-first-end-clause-open : goal.returns-then-first-end-clause-open
returns-then-first-end-clause-open g c = λ told.
    let held : Cells = (g.V.Vault.held c.args.vault.now).cells in
    let end : unwrap_or (first_gone c.args.ahead.now c.args.file) (c.args.number - c.args.number % 128 + 128) ≡ c.unwrap_or-end.result =
    ap (λ (o : Option ℕ). unwrap_or o (c.args.number - c.args.number % 128 + 128)) (sym c.first_gone.ensures) ∙ sym c.unwrap_or-end.ensures in
    sym (open_whole c.args.ahead.now held c.args.file c.args.number c.unwrap_or-end.result end c.if-first-end.true
    (sym (c.has_block.ensures told ∙ same_block held c.args.file c.args.number) ∙ c.if-not-has_block.false))

pub returns-clause-open : goal.returns-clause-open
returns-clause-open g c = λ told.
    let held : Cells = (g.V.Vault.held c.args.vault.now).cells in
    let first : ℕ = c.args.number - c.args.number % 128 in
    let end : unwrap_or (first_gone c.args.ahead.now c.args.file) (c.args.number - c.args.number % 128 + 128) ≡ c.unwrap_or-end.result =
    ap (λ (o : Option ℕ). unwrap_or o (c.args.number - c.args.number % 128 + 128)) (sym c.first_gone.ensures) ∙ sym c.unwrap_or-end.ensures in
    if_found c.stands_below.result
    (λ b. b ≡ true → (first < c.unwrap_or-end.result) × APageStands held c.args.file first (c.unwrap_or-end.result - 1))
    (λ b. b ≡ false → (n : ℕ) → first ≤ n → n < c.unwrap_or-end.result → map.get held (PageOf c.args.file n) ≡ None)
    (λ b. b ≡ has_block (left_by c.args.ahead.now held) (block_of c.args.file c.args.number))
    (c.stands_below.ensures.page told) (c.stands_below.ensures.none told)
    (λ b some none. sym (open_below c.args.ahead.now held c.args.file c.args.number c.unwrap_or-end.result end b c.if-first-end.false some none))
