-- how looks into a vault follow one another
use Rattle.std.proofs.Common.{◌∙◌, refl, sym, subst, arith, ⊎_elim, inl, inr}
use Rattle.std.specs.Prelude.{Bool, IsTrue, Option, None, Some}
use Rattle.alp_files.specs.Cells.{Cells}
use Rattle.alp_vault.specs.Contents.{Contents}
use Rattle.alp_vault.specs.declared.vault.Vault.{Ghosts}
use Rattle.alp_calls.specs.Looks.{IsLeft, Looks}
use Rattle.alp_calls.specs.declared.fault.CallFault.{CallFault}
use Rattle.alp_calls.specs.declared.fault.CallFault.TheVariants.{Failed, Stopped, OutOfMemory}

module _ {V : Type 0} (G : Ghosts V) where
  pub left_same : (v : V) → IsLeft G v v
  left_same v = record {
    same = record { telling = refl; sizes = refl; number = refl; of_all = refl };
    contents = refl;
    crash = λ c here. here;
    time = record { each = λ start c left. inl left };
    later = omega arith;
    allowed = refl;
  }

  pub left_then : (old mid new : V) → IsLeft G old mid
      → IsLeft G mid new
      → IsLeft G old new
  left_then old mid new a b = record {
    same = record {
      telling = b.same.telling ∙ a.same.telling;
      sizes = b.same.sizes ∙ a.same.sizes;
      number = b.same.number ∙ a.same.number;
      of_all = b.same.of_all ∙ a.same.of_all;
    };
    contents = b.contents ∙ a.contents;
    crash = λ c here. a.crash c (b.crash c here);
    time = record { each = λ start c left. ⊎_elim (λ before. a.time.each start c before) (λ now. inr (a.crash c now)) (b.time.each start c left) };
    later = omega (arith, a.later, b.later);
    allowed = b.allowed ∙ a.allowed;
  }

  pub looks_then : (old mid new : V) (f : Option CallFault) → Looks G old mid None
      → Looks G mid new f
      → Looks G old new f
  looks_then old mid new None a b = (left_then old mid new a.0 b.0, b.1, b.2 ∙ a.2)
  looks_then old mid new (Some Failed) a b = (left_then old mid new a.0 b.0, b.1, omega (arith, a.0.later, b.2))
  looks_then old mid new (Some Stopped) a b = (left_then old mid new a.0 b.0, b.1, b.2)
  looks_then old mid new (Some OutOfMemory) a b = (left_then old mid new a.0 b.0, b.1, b.2 ∙ a.2)

  -- what a later look tells is told of what was held before
  pub later : (old mid : V) → IsLeft G old mid → (P : Cells → Type 0) → (IsTrue (G.tells mid) → P (G.held mid).cells)
      → IsTrue (G.tells old)
      → P (G.held old).cells
  later old mid left P h told = subst (λ (x : Contents). P x.cells) left.contents (h (subst IsTrue (sym left.same.telling) told))

  -- and what is so of it is so of the one before
  pub looked_at : (old mid : V) → IsLeft G old mid → (P : Bool → Cells → Type 0) → P (G.tells mid) (G.held mid).cells → P (G.tells old) (G.held old).cells
  looked_at old mid left P h = subst (λ (b : Bool). P b (G.held old).cells) left.same.telling (subst (λ (x : Contents). P (G.tells mid) x.cells) left.contents h)
