-- On what the counts of a part rest: the files and the owners that it touches.
use Rattle.std.specs.Prelude.{◌≡◌, Bool, true, false, ◌||◌, List, [], ◌∷◌}
use Rattle.std.specs.FinMap as map
use Rattle.std.specs.Ordering.{eq_by_cmp}
use Rattle.alp_base.specs.declared.key.Key.{Key}
use Rattle.alp_base.specs.declared.key.Key.TheVariants.{Leader, PageOf, OwnerOf}
use Rattle.alp_base.specs.Keys.{key_cmp}
use Rattle.alp_files.specs.Cells.{Cells}
use Rattle.alp_files.specs.Edits.{Edit, Drop, Cut, Put, is_in_file}

-- keys of the same file, or of the same owner
abbrev pub is_near : Key → Key → Bool
is_near (Leader f) q = is_in_file f q
is_near (PageOf f n) q = is_in_file f q
is_near (OwnerOf name) q = eq_by_cmp key_cmp (OwnerOf name) q

-- an edit puts something of the file, or of the owner, of this key, or drops the file, or cuts it
abbrev pub is_at : Edit → Key → Bool
is_at (Drop f) q = is_in_file f q
is_at (Cut f n) q = is_in_file f q
is_at (Put k c) q = is_near k q

abbrev pub touches : List Edit → Key → Bool
touches [] q = false
touches (e ∷ es) q = is_at e q || touches es q

-- two maps have the same there
abbrev pub DoAgreeNear : List Edit → Cells → Cells → Type 0
DoAgreeNear es m n = (q : Key) → touches es q ≡ true → map.get m q ≡ map.get n q

-- a key of what an edit touches
abbrev pub key_of : Edit → Key
key_of (Drop f) = Leader f
key_of (Cut f n) = Leader f
key_of (Put k c) = k

-- the second edits touch no file and no owner that the first ones touch
abbrev pub AreApart : List Edit → List Edit → Type 0
AreApart es [] = Unit {0}
AreApart es (f ∷ fs) = (touches es (key_of f) ≡ false) × AreApart es fs
