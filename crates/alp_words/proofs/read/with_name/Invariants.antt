use Rattle.std.proofs.Common.{◌≡◌, ◌∷◌, map, string_bytes, codes, take}
use Rattle.alp_words.proofs.read.with_name.Given as goal

abbrev pub invariant-loop-word : goal.invariant-loop-word
invariant-loop-word l = map (λ w. w.now) l.all.items ≡ codes "alpine" ∷ map string_bytes (take l.word-index l.words)
