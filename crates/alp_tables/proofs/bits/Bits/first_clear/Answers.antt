use Rattle.std.specs.Prelude.{true}
use Rattle.std.proofs.Common.{◌≡◌, ◌<◌, ◌*◌, ◌∙◌, ℕ, List, length, refl, sym, ap, arith}
use Rattle.alp_tables.specs.Bits.{flag_in}
use Rattle.alp_tables.proofs.BitsLaws.{all_set, flag_now, long_now, set_before, set_below}
use Rattle.alp_tables.proofs.bits.Bits.first_clear.Goals as goal

pub first_clear-requires-clause-before : goal.first_clear-requires-clause-before
first_clear-requires-clause-before c p low =
    ap (λ (ws : List ℕ). flag_in ws p) c.deref.ensures.value
    ∙ set_before c.self.inside.words.items c.self.inside.len c.args.self.now c.self.view_is c.args.from c.requires.within c.requires.before p low

pub returns-in_err-at-clause-full : goal.returns-in_err-at-clause-full
returns-in_err-at-clause-full c none q =
    all_set c.self.inside.words.items c.self.inside.len c.args.self.now c.self.view_is (32 * length c.self.inside.words.items) c.self.inside.room
    (λ p low. ap (λ (ws : List ℕ). flag_in ws p) (sym c.deref.ensures.value) ∙ c.in_err-at.ensures.full refl p (omega (arith, low, ap length c.deref.ensures.value))) q

pub returns-then-at-self-clause-full : goal.returns-then-at-self-clause-full
returns-then-at-self-clause-full c none q =
    all_set c.self.inside.words.items c.self.inside.len c.args.self.now c.self.view_is c.in_ok-at.at (omega (arith, c.if-at-self.true))
    (λ p low. ap (λ (ws : List ℕ). flag_in ws p) (sym c.deref.ensures.value) ∙ c.in_ok-at.ensures.lowest p low) q

pub returns-clause-within : goal.returns-clause-within
returns-clause-within c = omega (arith, c.if-at-self.false, long_now c.self.inside.words.items c.self.inside.len c.args.self.now c.self.view_is)

pub returns-clause-clear : goal.returns-clause-clear
returns-clause-clear c =
    flag_now c.self.inside.words.items c.self.inside.len c.args.self.now c.self.view_is c.in_ok-at.at (omega (arith, c.if-at-self.false))
    ∙ ap (λ (ws : List ℕ). flag_in ws c.in_ok-at.at) (sym c.deref.ensures.value) ∙ c.in_ok-at.ensures.clear

pub returns-clause-lowest : goal.returns-clause-lowest
returns-clause-lowest c =
    set_below c.self.inside.words.items c.self.inside.len c.args.self.now c.self.view_is c.in_ok-at.at (omega (arith, c.if-at-self.false))
    (λ p low. ap (λ (ws : List ℕ). flag_in ws p) (sym c.deref.ensures.value) ∙ c.in_ok-at.ensures.lowest p low)
