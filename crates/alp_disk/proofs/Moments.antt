-- How a run of calls goes on.
use Rattle.std.proofs.Common.{inl, inr, ⊎_elim}
use Rattle.alp_base.specs.Crashes.{Adds, LeavesOnly}

module _ {D C : Type 0} (left_since : D → D → C → Type 0) where
  pub nothing_added : (old : D) (P : C → Type 0) → Adds left_since old old P
  nothing_added old P = record { each = λ start c left. inl left }

  -- one run more, whose outcomes have P
  pub adds_more : (old mid new : D) (P Q : C → Type 0) → Adds left_since old mid P → Adds left_since mid new Q → ((c : C) → Q c → P c) → Adds left_since old new P
  adds_more old mid new P Q so_far more here =
      record { each = λ start c left. ⊎_elim (so_far.each start c) (λ now. inr (here c now)) (more.each start c left) }

  pub adds_weaker : (old new : D) (P Q : C → Type 0) → Adds left_since old new P → ((c : C) → P c → Q c) → Adds left_since old new Q
  adds_weaker old new P Q adds here = record { each = λ start c left. ⊎_elim (λ before. inl before) (λ now. inr (here c now)) (adds.each start c left) }

  -- where what there was at the start has P too
  pub leaves_only : (old new : D) (P : C → Type 0) → ((c : C) → left_since old old c → P c) → Adds left_since old new P → LeavesOnly left_since old new P
  leaves_only old new P start adds = record { within = λ c left. ⊎_elim (start c) (λ now. now) (adds.each old c left); adds = adds }
