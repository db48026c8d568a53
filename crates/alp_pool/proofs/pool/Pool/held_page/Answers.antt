use Rattle.std.specs.Prelude.{nat_eq, is_some, IfOk, true}
use Rattle.std.specs.Map.{lookup}
use Rattle.std.specs.Option.{option_copied}
use Rattle.std.proofs.Common.{◌≡◌, ℕ, List, Some, None, sym, ◌∙◌, ap, subst}
use Rattle.std.proofs.lemmas.Option.{same_Some}
use Rattle.lru.specs.LruCache.{LruCache}
use Rattle.alp_pool.proofs.Lookups.{lookup-promoted}
use Rattle.alp_pool.proofs.pool.Pool.held_page.Goals as goal

pub unreachable-requires : goal.unreachable-requires
unreachable-requires g c =
    let at = c.args.at in
    let gone : lookup (nat_eq at) c.promote.new.self.entries ≡ None = sym c.peek.ensures ∙ ap option_copied c.in_default.is in
    let same : lookup (nat_eq at) c.promote.new.self.entries ≡ lookup (nat_eq at) c.args.self.now.held.entries =
    ap (λ (x : LruCache ℕ (List ℕ)). lookup (nat_eq at) x.entries) c.promote.ensures.entries ∙ lookup-promoted at at c.args.self.now.held.entries c.len.ensures.valid.0 in
    let no : is_some (lookup (nat_eq at) c.args.self.now.held.entries) ≡ is_some {T = List ℕ} None = ap is_some (sym same ∙ gone) in
    let yes : is_some (lookup (nat_eq at) c.args.self.now.held.entries) ≡ true = c.requires in
    cc

pub returns-clause-page : goal.returns-clause-page
returns-clause-page g c bytes h =
    let found : lookup (nat_eq c.args.at) c.promote.new.self.entries ≡ Some bytes =
    ap (λ (x : LruCache ℕ (List ℕ)). lookup (nat_eq c.args.at) x.entries) c.promote.ensures.entries ∙ lookup-promoted c.args.at c.args.at c.args.self.now.held.entries c.len.ensures.valid.0 ∙ h in
    subst (λ (b : List ℕ). IfOk c.share.result (λ p. p ≡ b)) (same_Some c.in-Some.held.now bytes (c.in-Some.ensures ∙ found)) c.share.ensures

pub returns-clause-held : goal.returns-clause-held
returns-clause-held g c q = ap (λ (x : LruCache ℕ (List ℕ)). lookup (nat_eq q) x.entries) c.promote.ensures.entries ∙ lookup-promoted c.args.at q c.args.self.now.held.entries c.len.ensures.valid.0
