-- a part goes into the history of those before it at its stamp: what stands later there is apart from it
use Rattle.std.specs.Prelude.{map as list_map}
use Rattle.std.specs.List.{AllByRecursion}
use Rattle.std.specs.FinMap as map
use Rattle.std.specs.FinMap.Entries.{put, by_order}
use Rattle.std.specs.declared.cmp.Ordering.{Ordering}
use Rattle.std.specs.declared.cmp.Ordering.TheVariants.{Less, Equal, Greater}
use Rattle.std.specs.Ordering.{nat_cmp, ordering_then, MatchOrdering}
use Rattle.std.specs.Cmp.{ranks}
use Rattle.std.proofs.Common.{◌≡◌, ℕ, ◌<◌, ◌≤◌, List, [], ◌∷◌, refl, sym, ap, ◌∙◌, inl, inr, ◌⊎◌, arith, le_trans}
use Rattle.alp_base.specs.declared.ids.Stamp.{Stamp}
use Rattle.alp_base.specs.declared.ids.TransId.{TransId}
use Rattle.alp_base.specs.contracts.ids.TransIdOrd.TheImpl as trans_ord
use Rattle.alp_files.specs.Holdings.{Holding, DoAgreeOnLeaves}
use Rattle.alp_files.specs.History.{Standing, Decided, IsSerial, serial_end, begun}
use Rattle.alp_files.specs.Apart.{AreSized, Locked, after_part, IsRightUnder, DoCommute, DoesSame, decided_as, changes}
use Rattle.alp_files.proofs.HeldLemmas.{leaves-turned}
use Rattle.alp_files.specs.Edits.{Edit}
use Rattle.alp_files.proofs.FrameLemmas.{parts-beside, parts-commute, steps-sized}
use Rattle.alp_files.proofs.SwapLemmas.{AreAlike, part-alike}
use Rattle.alp_files.specs.History as history
use Rattle.std.specs.Cmp.{nat_cmp_is}
use Rattle.alp_journal.specs.Ids.{stamp_cmp}
use Rattle.alp_journal.proofs.LeftBehind.{left_along, left-alike}

-- a part that was applied, with its stamp
abbrev pub Item : Type 0
Item = Stamp × Locked

abbrev pub put_item : Item → List Item → List Item
put_item x xs = put stamp_cmp x.0 x.1 xs

abbrev pub All : (Item → Type 0) → List Item → Type 0
All P xs = AllByRecursion P xs

-- the history that they make
abbrev pub decided_items : List Item → List (Stamp × Decided)
decided_items xs = list_map (λ (x : Item). (x.0, decided_as x.0 x.1)) xs

module _ (server : ℕ) where
  -- each part is right, under its locks, where it stands
  abbrev pub AreGood : Standing → List Item → Type 0
  AreGood s [] = Unit {0}
  AreGood s (x ∷ xs) = IsRightUnder server s x.1 × AreGood (after_part server s x.1) xs

  abbrev pub end_of : Standing → List Item → Standing
  end_of s [] = s
  end_of s (x ∷ xs) = end_of (after_part server s x.1) xs

  -- what a part changes where it stands, and what each of a history does
  abbrev pub changed_by : Standing → Locked → List Edit
  changed_by s p = changes server (begun s) p.who p.calls

  abbrev pub left_by_items : Standing → List Item → List (Stamp × List Edit)
  left_by_items s xs = left_along server s (decided_items xs)

  -- the same files, and the same ids in another order
  pub right-alike : (s t : Standing) (p : Locked) → s.files ≡ t.files → AreAlike s.made t.made → IsRightUnder server s p → IsRightUnder server t p
  right-alike s t p same alike h =
      let l = part-alike server p.who p.calls s t same alike in
      record { formed = h.formed; right = l.right h.right; covered = l.covered p.held h.covered }

  pub good-alike : (xs : List Item) (s t : Standing) → s.files ≡ t.files → AreAlike s.made t.made → AreGood s xs
      → AreGood t xs × ((end_of s xs).files ≡ (end_of t xs).files) × AreAlike (end_of s xs).made (end_of t xs).made
  good-alike [] s t same alike g = (tt, same, alike)
  good-alike (x ∷ xs) s t same alike g =
      let l = part-alike server x.1.who x.1.calls s t same alike in
      let rest = good-alike xs (after_part server s x.1) (after_part server t x.1) l.files l.made g.1 in
      ((right-alike s t x.1 same alike g.0, rest.0), rest.1, rest.2)

  pub sized-after : (s : Standing) (p : Locked) → AreSized (map.get s.files) → IsRightUnder server s p → AreSized (map.get (after_part server s p).files)
  sized-after s p sized h = steps-sized server (history.begun s) p.who p.calls h.formed sized

  -- ---- a part that is apart from all of a history, and right behind it, may as well come first

  record GoesFirst (s : Standing) (q : Locked) (xs : List Item) : Type 0 where
    mine : IsRightUnder server s q
    others : AreGood (after_part server s q) xs
    files : (end_of (after_part server s q) xs).files ≡ (after_part server (end_of s xs) q).files
    ids : AreAlike (end_of (after_part server s q) xs).made (after_part server (end_of s xs) q).made
    changed : changed_by s q ≡ changed_by (end_of s xs) q
    left : left_by_items (after_part server s q) xs ≡ left_by_items s xs

  goes-first : (xs : List Item) (s : Standing) (q : Locked) → AreSized (map.get s.files) → All (λ x. DoAgreeOnLeaves q.held x.1.held) xs → AreGood s xs → IsRightUnder server (end_of s xs) q
      → GoesFirst s q xs
  goes-first [] s q sized away g h = record { mine = h; others = tt; files = refl; ids = λ f. refl; changed = refl; left = refl }
  goes-first (x ∷ xs) s q sized away g h =
      let rest : GoesFirst (after_part server s x.1) q xs = goes-first xs (after_part server s x.1) q (sized-after s x.1 sized g.0) away.1 g.1 h in
      let turned : DoCommute server s x.1 q = parts-commute server s x.1 q sized (leaves-turned q.held x.1.held away.0) g.0 rest.mine in
      let ahead : DoesSame q.held server (begun s) (begun (after_part server s x.1)) q.who q.calls = parts-beside server s x.1 q sized (leaves-turned q.held x.1.held away.0) g.0 turned.earlier in
      let behind : DoesSame x.1.held server (begun s) (begun (after_part server s q)) x.1.who x.1.calls = parts-beside server s q x.1 sized away.0 turned.earlier g.0 in
      let moved =
      good-alike xs (after_part server (after_part server s x.1) q) (after_part server (after_part server s q) x.1) (sym turned.files) (λ f. sym (turned.ids f)) rest.others in
      record {
        mine = turned.earlier;
        others = (turned.later, moved.0);
        files = sym moved.1 ∙ rest.files;
        ids = λ f. sym (moved.2 f) ∙ rest.ids f;
        changed = ahead.edits ∙ rest.changed;
        left = λ i. (x.0, sym behind.edits i) ∷ (left-alike server (decided_items xs) (after_part server (after_part server s q) x.1) (after_part server (after_part server s x.1) q) turned.files turned.ids ∙ rest.left) i;
      }

-- ---- the order of stamps

trans_cmp : TransId → TransId → Ordering
trans_cmp = (trans_ord.ghosts).cmp

less-le : (x y : Stamp) → stamp_cmp x y ≡ Less → x.ts ≤ y.ts
unfolding trans_cmp
less-le x y e = go (nat_cmp x.ts y.ts) (ranks x.ts y.ts) e
  where
    go : (r : Ordering) → MatchOrdering r (x.ts < y.ts) (x.ts ≡ y.ts) (y.ts < x.ts) → ordering_then r (trans_cmp x.trans y.trans) ≡ Less → x.ts ≤ y.ts
    go Less h e = omega (arith, h)
    go Equal h e = omega (arith, h)
    go Greater h e = cc

greater-le : (x y : Stamp) → stamp_cmp x y ≡ Greater → y.ts ≤ x.ts
unfolding trans_cmp
greater-le x y e = go (nat_cmp x.ts y.ts) (ranks x.ts y.ts) e
  where
    go : (r : Ordering) → MatchOrdering r (x.ts < y.ts) (x.ts ≡ y.ts) (y.ts < x.ts) → ordering_then r (trans_cmp x.trans y.trans) ≡ Greater → y.ts ≤ x.ts
    go Less h e = cc
    go Equal h e = omega (arith, h)
    go Greater h e = omega (arith, h)

-- the times do not fall
abbrev pub AreRising : List Item → Type 0
AreRising [] = Unit {0}
AreRising (x ∷ xs) = All (λ y. x.0.ts ≤ y.0.ts) xs × AreRising xs

-- a later time makes a greater stamp
pub stamp_cmp-later : (k x : Stamp) → x.ts < k.ts → stamp_cmp k x ≡ Greater
unfolding trans_cmp
stamp_cmp-later k x h =
    let above : Greater ≡ nat_cmp k.ts x.ts = nat_cmp_is k.ts x.ts Greater h in
    ap (λ (o : Ordering). ordering_then o (trans_cmp k.trans x.trans)) (sym above)

pub stamp_cmp-earlier : (k x : Stamp) → k.ts < x.ts → stamp_cmp k x ≡ Less
unfolding trans_cmp
stamp_cmp-earlier k x h =
    let below : Less ≡ nat_cmp k.ts x.ts = nat_cmp_is k.ts x.ts Less h in
    ap (λ (o : Ordering). ordering_then o (trans_cmp k.trans x.trans)) (sym below)

-- no part has the stamp
abbrev pub AreOthers : Stamp → List Item → Type 0
AreOthers k xs = All (λ y. stamp_cmp k y.0 ≡ Equal → ⊥) xs

-- a part is apart from the holder of these locks, or stamped below this time
abbrev pub IsClear : Holding → ℕ → Item → Type 0
IsClear held v x = DoAgreeOnLeaves held x.1.held ⊎ (x.0.ts < v)

pub map-all : (P Q : Item → Type 0) → ((x : Item) → P x → Q x) → (xs : List Item) → All P xs → All Q xs
map-all P Q f [] h = tt
map-all P Q f (x ∷ xs) h = (f x h.0, map-all P Q f xs h.1)

both-all : (P Q : Item → Type 0) (xs : List Item) → All P xs → All Q xs → All (λ x. P x × Q x) xs
both-all P Q [] h g = tt
both-all P Q (x ∷ xs) h g = ((h.0, g.0), both-all P Q xs h.1 g.1)

-- a time above all others makes a new stamp
pub others-earlier : (k : Stamp) (clock : ℕ) (xs : List Item) → clock < k.ts → All (λ x. x.0.ts ≤ clock) xs → AreOthers k xs
others-earlier k clock xs late below =
    map-all (λ x. x.0.ts ≤ clock) (λ x. stamp_cmp k x.0 ≡ Equal → ⊥)
    (λ x low e. let later : stamp_cmp k x.0 ≡ Greater = stamp_cmp-later k x.0 (omega (arith, low, late)) in let wrong : Greater ≡ Equal = sym later ∙ e in cc) xs below

pub put-all : (P : Item → Type 0) (x : Item) (xs : List Item) → AreOthers x.0 xs → P x → All P xs → All P (put_item x xs)
put-all P x [] n h g = (h, tt)
put-all P x (y ∷ ys) n h g = go (stamp_cmp x.0 y.0) refl (put-all P x ys n.1 h g.1)
  where
    go : (o : Ordering) → stamp_cmp x.0 y.0 ≡ o → All P (put_item x ys) → All P (by_order o (x ∷ y ∷ ys) ((y.0, x.1) ∷ ys) (y ∷ put_item x ys))
    go Less e rest = (h, g)
    go Equal e rest = absurd (n.0 e)
    go Greater e rest = (g.0, rest)

pub put-rising : (x : Item) (xs : List Item) → AreOthers x.0 xs → AreRising xs → AreRising (put_item x xs)
put-rising x [] n h = (tt, tt)
put-rising x (y ∷ ys) n h = go (stamp_cmp x.0 y.0) refl (put-rising x ys n.1 h.1)
  where
    go : (o : Ordering) → stamp_cmp x.0 y.0 ≡ o → AreRising (put_item x ys) → AreRising (by_order o (x ∷ y ∷ ys) ((y.0, x.1) ∷ ys) (y ∷ put_item x ys))
    go Less e rest = ((less-le x.0 y.0 e, map-all (λ z. y.0.ts ≤ z.0.ts) (λ z. x.0.ts ≤ z.0.ts) (λ z l. le_trans (less-le x.0 y.0 e) l) ys h.0), h)
    go Equal e rest = absurd (n.0 e)
    go Greater e rest = (put-all (λ z. y.0.ts ≤ z.0.ts) x ys n.1 (greater-le x.0 y.0 e) h.0, rest)

clear-apart : (x y : Item) (v : ℕ) → v ≤ x.0.ts → x.0.ts ≤ y.0.ts → IsClear x.1.held v y → DoAgreeOnLeaves x.1.held y.1.held
clear-apart x y v l k h = elim h [ inl a ↦ a | inr s ↦ absurd (omega (arith, l, k, s)) ]

-- it is apart from all that stands behind its stamp
all-apart : (x y : Item) (ys : List Item) (v : ℕ) → v ≤ x.0.ts → stamp_cmp x.0 y.0 ≡ Less → AreRising (y ∷ ys) → All (IsClear x.1.held v) (y ∷ ys) → All (λ z. DoAgreeOnLeaves x.1.held z.1.held) (y ∷ ys)
all-apart x y ys v l e r c = (
  clear-apart x y v l (less-le x.0 y.0 e) c.0,
  map-all (λ z. (y.0.ts ≤ z.0.ts) × IsClear x.1.held v z) (λ z. DoAgreeOnLeaves x.1.held z.1.held) (λ z w. clear-apart x z v l (le_trans (less-le x.0 y.0 e) w.0) w.1) ys
      (both-all (λ z. y.0.ts ≤ z.0.ts) (IsClear x.1.held v) ys r.0 c.1),
)

-- ---- a part goes in at its stamp

module _ (server : ℕ) where
  pub record IsPut (s : Standing) (x : Item) (xs zs : List Item) : Type 0 where
    pub good : AreGood server s zs
    pub files : (end_of server s zs).files ≡ (after_part server (end_of server s xs) x.1).files
    pub ids : AreAlike (end_of server s zs).made (after_part server (end_of server s xs) x.1).made

  pub put-good : (xs : List Item) (s : Standing) (x : Item) (v : ℕ) → v ≤ x.0.ts → AreOthers x.0 xs → AreRising xs → All (IsClear x.1.held v) xs → AreSized (map.get s.files) → AreGood server s xs
      → IsRightUnder server (end_of server s xs) x.1 → IsPut s x xs (put_item x xs)
  put-good [] s x v l n r c sized g h = record { good = (h, tt); files = refl; ids = λ f. refl }
  put-good (y ∷ ys) s x v l n r c sized g h =
      go (stamp_cmp x.0 y.0) refl (put-good ys (after_part server s y.1) x v l n.1 r.1 c.1 (sized-after server s y.1 sized g.0) g.1 h)
    where
      go : (o : Ordering) → stamp_cmp x.0 y.0 ≡ o → IsPut (after_part server s y.1) x ys (put_item x ys) → IsPut s x (y ∷ ys) (by_order o (x ∷ y ∷ ys) ((y.0, x.1) ∷ ys) (y ∷ put_item x ys))
      go Less e rest =
          let first = goes-first server (y ∷ ys) s x.1 sized (all-apart x y ys v l e r c) g h in
          record { good = (first.mine, first.others); files = first.files; ids = first.ids }
      go Equal e rest = absurd (n.0 e)
      go Greater e rest = record { good = (g.0, rest.good); files = rest.files; ids = rest.ids }

  -- and leaves its changes there, those of the others being as they were
  pub put-left : (xs : List Item) (s : Standing) (x : Item) (v : ℕ) → v ≤ x.0.ts → AreOthers x.0 xs → AreRising xs → All (IsClear x.1.held v) xs → AreSized (map.get s.files) → AreGood server s xs
      → IsRightUnder server (end_of server s xs) x.1 → left_by_items server s (put_item x xs) ≡ put stamp_cmp x.0 (changed_by server (end_of server s xs) x.1) (left_by_items server s xs)
  put-left [] s x v l n r c sized g h = refl
  put-left (y ∷ ys) s x v l n r c sized g h =
      go (stamp_cmp x.0 y.0) refl (put-left ys (after_part server s y.1) x v l n.1 r.1 c.1 (sized-after server s y.1 sized g.0) g.1 h)
    where
      go : (o : Ordering) → stamp_cmp x.0 y.0 ≡ o → left_by_items server (after_part server s y.1) (put_item x ys) ≡ put stamp_cmp x.0 (changed_by server (end_of server (after_part server s y.1) ys) x.1) (left_by_items server (after_part server s y.1) ys)
          → left_by_items server s (by_order o (x ∷ y ∷ ys) ((y.0, x.1) ∷ ys) (y ∷ put_item x ys))
          ≡ by_order o ((x.0, changed_by server (end_of server (after_part server s y.1) ys) x.1) ∷ left_by_items server s (y ∷ ys)) ((y.0, changed_by server (end_of server (after_part server s y.1) ys) x.1) ∷ left_by_items server (after_part server s y.1) ys) ((y.0, changed_by server s y.1) ∷ put stamp_cmp x.0 (changed_by server (end_of server (after_part server s y.1) ys) x.1) (left_by_items server (after_part server s y.1) ys))
      go Less e rest =
          let first = goes-first server (y ∷ ys) s x.1 sized (all-apart x y ys v l e r c) g h in
          λ i. (x.0, first.changed i) ∷ first.left i
      go Equal e rest = absurd (n.0 e)
      go Greater e rest = ap (λ (zs : List (Stamp × List Edit)). (y.0, changed_by server s y.1) ∷ zs) rest

-- ---- the history that they make

abbrev pub history_of : List Item → List Decided
history_of xs = list_map (λ (x : Stamp × Decided). x.1) (decided_items xs)

pub put-decided : (x : Item) (xs : List Item) → AreOthers x.0 xs → decided_items (put_item x xs) ≡ put stamp_cmp x.0 (decided_as x.0 x.1) (decided_items xs)
put-decided x [] n = refl
put-decided x (y ∷ ys) n = go (stamp_cmp x.0 y.0) refl (put-decided x ys n.1)
  where
    go : (o : Ordering) → stamp_cmp x.0 y.0 ≡ o → decided_items (put_item x ys) ≡ put stamp_cmp x.0 (decided_as x.0 x.1) (decided_items ys)
        → decided_items (by_order o (x ∷ y ∷ ys) ((y.0, x.1) ∷ ys) (y ∷ put_item x ys))
        ≡ by_order o ((x.0, decided_as x.0 x.1) ∷ decided_items (y ∷ ys)) ((y.0, decided_as x.0 x.1) ∷ decided_items ys) ((y.0, decided_as y.0 y.1) ∷ put stamp_cmp x.0 (decided_as x.0 x.1) (decided_items ys))
    go Less e rest = refl
    go Equal e rest = absurd (n.0 e)
    go Greater e rest = ap (λ (zs : List (Stamp × Decided)). (y.0, decided_as y.0 y.1) ∷ zs) rest

pub good-serial : (server : ℕ) (xs : List Item) (s : Standing) → AreGood server s xs → IsSerial server s (history_of xs)
good-serial server [] s g = tt
good-serial server (x ∷ xs) s g = (g.0.right, good-serial server xs (after_part server s x.1) g.1)

pub good-end : (server : ℕ) (xs : List Item) (s : Standing) → serial_end server s (history_of xs) ≡ end_of server s xs
good-end server [] s = refl
good-end server (x ∷ xs) s = good-end server xs (after_part server s x.1)
