-- keys and resources stand in the order of their bytes
use Rattle.std.specs.declared.cmp.Ordering.{Ordering}
use Rattle.std.specs.declared.cmp.Ordering.TheVariants.{Less, Equal, Greater}
use Rattle.std.specs.Ordering.{nat_cmp, ordering_then}
use Rattle.std.specs.Cmp.Lexicographic.{slice_cmp}
use Rattle.std.proofs.Common.{◌≡◌, ℕ, List, [], ◌∷◌, ◌++◌, length, append_assoc, refl, sym, ◌∙◌, ap, arith}
use Rattle.alp_base.specs.declared.ids.FileId.{FileId}
use Rattle.alp_base.specs.declared.key.Key.{Key}
use Rattle.alp_base.specs.declared.key.Key.TheVariants.{Leader, PageOf, OwnerOf}
use Rattle.alp_base.specs.declared.key.Resource.{Resource}
use Rattle.alp_base.specs.declared.key.Resource.TheVariants.{Whole, Leaf}
use Rattle.alp_base.specs.KeyLaws.{file_cmp}
use Rattle.alp_fields.specs.Forms.{u8, u32}
use Rattle.alp_fields.specs.Fields.{file_id, name, spell_key, FitsKey, spell_resource, FitsResource}
use Rattle.alp_ready.specs.NoteOrder.{name_length, note_cmp, noted_cmp}
use Rattle.alp_ready.proofs.NumberOrder.{then_assoc, u32_order, Is, less, equal, greater, cmp_is}

-- ---- texts of one length

pub append_order : (a b x y : List ℕ) → length a ≡ length b → slice_cmp nat_cmp (a ++ x) (b ++ y) ≡ ordering_then (slice_cmp nat_cmp a b) (slice_cmp nat_cmp x y)
append_order [] [] x y same = refl
append_order [] (d ∷ b) x y same = absurd (omega (arith, same))
append_order (c ∷ a) [] x y same = absurd (omega (arith, same))
append_order (c ∷ a) (d ∷ b) x y same =
    ap (ordering_then (nat_cmp c d)) (append_order a b x y (omega (arith, same))) ∙ sym (then_assoc (nat_cmp c d) (slice_cmp nat_cmp a b) (slice_cmp nat_cmp x y))

-- a text behind its length
text_order : (a b x y : List ℕ) → slice_cmp nat_cmp (length a ∷ (a ++ x)) (length b ∷ (b ++ y)) ≡ ordering_then (ordering_then (nat_cmp (length a) (length b)) (slice_cmp nat_cmp a b)) (slice_cmp nat_cmp x y)
text_order a b x y = go (nat_cmp (length a) (length b)) (cmp_is (length a) (length b))
  where
    go : (o : Ordering) → Is (length a) (length b) o → ordering_then o (slice_cmp nat_cmp (a ++ x) (b ++ y)) ≡ ordering_then (ordering_then o (slice_cmp nat_cmp a b)) (slice_cmp nat_cmp x y)
    go Less h = refl
    go Equal (equal same) = append_order a b x y same
    go Greater h = refl

-- ---- ids

pub file_order : (f g : FileId) (x y : List ℕ) → file_id.Fits f → file_id.Fits g → slice_cmp nat_cmp (file_id.spell f ++ x) (file_id.spell g ++ y) ≡ ordering_then (file_cmp f g) (slice_cmp nat_cmp x y)
unfolding file_id u8 u32
file_order f g x y a b =
    let z : Ordering = slice_cmp nat_cmp x y in
    let epochs : slice_cmp nat_cmp (u32.spell f.epoch ++ (u32.spell f.counter ++ x)) (u32.spell g.epoch ++ (u32.spell g.counter ++ y)) ≡ ordering_then (nat_cmp f.epoch g.epoch) (ordering_then (nat_cmp f.counter g.counter) z) =
    u32_order f.epoch g.epoch (u32.spell f.counter ++ x) (u32.spell g.counter ++ y) a.1.0 b.1.0 ∙ ap (ordering_then (nat_cmp f.epoch g.epoch)) (u32_order f.counter g.counter x y a.1.1 b.1.1) in
    ap (ordering_then (nat_cmp f.server g.server))
    ((λ i. slice_cmp nat_cmp (append_assoc (u32.spell f.epoch) (u32.spell f.counter) x i) (append_assoc (u32.spell g.epoch) (u32.spell g.counter) y i))
    ∙ epochs ∙ sym (then_assoc (nat_cmp f.epoch g.epoch) (nat_cmp f.counter g.counter) z))
    ∙ sym (then_assoc (nat_cmp f.server g.server) (ordering_then (nat_cmp f.epoch g.epoch) (nat_cmp f.counter g.counter)) z)

-- a file, and a number behind it
pub numbered_order : (f g : FileId) (m n : ℕ) (x y : List ℕ) → file_id.Fits f → u32.Fits m → file_id.Fits g → u32.Fits n
    → slice_cmp nat_cmp ((file_id.spell f ++ u32.spell m) ++ x) ((file_id.spell g ++ u32.spell n) ++ y) ≡ ordering_then (ordering_then (file_cmp f g) (nat_cmp m n)) (slice_cmp nat_cmp x y)
unfolding u32
numbered_order f g m n x y a c b d =
    (λ i. slice_cmp nat_cmp (append_assoc (file_id.spell f) (u32.spell m) x i) (append_assoc (file_id.spell g) (u32.spell n) y i))
    ∙ file_order f g (u32.spell m ++ x) (u32.spell n ++ y) a b
    ∙ ap (ordering_then (file_cmp f g)) (u32_order m n x y c d)
    ∙ sym (then_assoc (file_cmp f g) (nat_cmp m n) (slice_cmp nat_cmp x y))

-- ---- keys and resources

-- what has no name comes first
pub first_less : (n : ℕ) → ordering_then (nat_cmp 0 n) Less ≡ Less
first_less n = go (nat_cmp 0 n) (cmp_is 0 n)
  where
    go : (o : Ordering) → Is 0 n o → ordering_then o Less ≡ Less
    go Less h = refl
    go Equal h = refl
    go Greater (greater h) = absurd (omega (arith, h))

pub last_greater : (n : ℕ) → ordering_then (nat_cmp n 0) Greater ≡ Greater
last_greater n = go (nat_cmp n 0) (cmp_is n 0)
  where
    go : (o : Ordering) → Is n 0 o → ordering_then o Greater ≡ Greater
    go Less (less h) = absurd (omega (arith, h))
    go Equal h = refl
    go Greater h = refl

pub key_order : (k l : Key) (x y : List ℕ) → FitsKey k → FitsKey l → slice_cmp nat_cmp (spell_key k ++ x) (spell_key l ++ y) ≡ ordering_then (note_cmp k l) (slice_cmp nat_cmp x y)
unfolding name u8
key_order (Leader f) (Leader g) x y a b = file_order f g x y a b
key_order (Leader f) (PageOf g n) x y a b = refl
key_order (Leader f) (OwnerOf m) x y a b = sym (ap (λ (o : Ordering). ordering_then o (slice_cmp nat_cmp x y)) (first_less (length m)))
key_order (PageOf f m) (Leader g) x y a b = refl
key_order (PageOf f m) (PageOf g n) x y a b = numbered_order f g m n x y a.0 a.1 b.0 b.1
key_order (PageOf f m) (OwnerOf n) x y a b = sym (ap (λ (o : Ordering). ordering_then o (slice_cmp nat_cmp x y)) (first_less (length n)))
key_order (OwnerOf m) (Leader g) x y a b = sym (ap (λ (o : Ordering). ordering_then o (slice_cmp nat_cmp x y)) (last_greater (length m)))
key_order (OwnerOf m) (PageOf g n) x y a b = sym (ap (λ (o : Ordering). ordering_then o (slice_cmp nat_cmp x y)) (last_greater (length m)))
key_order (OwnerOf m) (OwnerOf n) x y a b = text_order m n x y

-- the bytes of a leaf do not begin as those of a whole file
leaf_later : (f : FileId) (k : Key) (x y : List ℕ) → slice_cmp nat_cmp (spell_resource (Whole f) ++ x) (spell_key k ++ y) ≡ Less
leaf_later f (Leader g) x y = refl
leaf_later f (PageOf g n) x y = refl
leaf_later f (OwnerOf m) x y = refl

whole_first : (f : FileId) (k : Key) (x y : List ℕ) → slice_cmp nat_cmp (spell_key k ++ x) (spell_resource (Whole f) ++ y) ≡ Greater
whole_first f (Leader g) x y = refl
whole_first f (PageOf g n) x y = refl
whole_first f (OwnerOf m) x y = refl

pub resource_order : (r s : Resource) (x y : List ℕ) → FitsResource r → FitsResource s → slice_cmp nat_cmp (spell_resource r ++ x) (spell_resource s ++ y) ≡ ordering_then (noted_cmp r s) (slice_cmp nat_cmp x y)
resource_order (Whole f) (Whole g) x y a b = file_order f g x y a b
resource_order (Whole f) (Leaf k) x y a b = leaf_later f k x y ∙ sym (ap (λ (o : Ordering). ordering_then o (slice_cmp nat_cmp x y)) (first_less (name_length k)))
resource_order (Leaf k) (Whole f) x y a b = whole_first f k x y ∙ sym (ap (λ (o : Ordering). ordering_then o (slice_cmp nat_cmp x y)) (last_greater (name_length k)))
resource_order (Leaf k) (Leaf l) x y a b = key_order k l x y a b
