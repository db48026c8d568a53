-- Parts whose changes keep apart, each of which leaves sound files, and all of which do: so does any of them beside any others.
use Rattle.std.specs.Prelude.{cond, Bool, true, false, not, ◌&&◌, ◌||◌, ◌<◌, is_some, flat_map, Option, None, Some, ◌⊎◌, IsTrue}
use Rattle.std.specs.FinMap as map
use Rattle.std.specs.FinMap.{same_map}
use Rattle.std.proofs.Common.{inl, inr, ◌≡◌, ℕ, ◌+◌, List, [], ◌∷◌, ◌++◌, refl, sym, ap, subst, ◌∙◌, arith}
use Rattle.alp_base.specs.KeyLaws.{keys_total, exact_keys}
use Rattle.alp_base.specs.declared.cell.Cell.{Cell}
use Rattle.alp_base.specs.declared.cell.Cell.TheVariants as cell
use Rattle.alp_base.specs.declared.cell.OwnerRecord.{OwnerRecord}
use Rattle.alp_base.specs.declared.cell.Props.{Props}
use Rattle.alp_base.specs.declared.ids.FileId.{FileId}
use Rattle.alp_base.specs.declared.ids.TransId.{TransId}
use Rattle.alp_base.specs.declared.key.Key.{Key}
use Rattle.alp_base.specs.declared.key.Key.TheVariants.{Leader, PageOf, OwnerOf}
use Rattle.alp_base.specs.Keys.{key_cmp}
use Rattle.std.specs.Ordering.{eq_by_cmp}
use Rattle.alp_modes.specs.declared.Mode.TheVariants.{Write}
use Rattle.alp_files.specs.Apart.{DoShowSame, IsWithin as AreWithin}
use Rattle.alp_files.specs.Cells.{Cells, View, owner_in}
use Rattle.alp_files.specs.Edits.{Edit, Drop, Cut, Put, edits_at, edits_map}
use Rattle.alp_files.specs.Files.{IsOfKind, AreFiles, AreCharged, cost, charge_of}
use Rattle.alp_files.specs.Holdings.{covers_held, mode_on}
use Rattle.alp_files.specs.Locks.{Writes}
use Rattle.alp_files.specs.Sound.{AreSound}
use Rattle.alp_files.proofs.FilesLemmas.{same-some}
use Rattle.alp_files.proofs.FrameLemmas.{apart-same}
use Rattle.alp_files.proofs.HistoryLemmas.{edits_map-append, get-edits_map}
use Rattle.alp_files.proofs.IntentLemmas.{kept}
use Rattle.alp_files.proofs.SoundEdits.{uncharged}
use Rattle.alp_files.proofs.SumLemmas.{sum_of, sum-retain_keys, sum_of-nothing}
use Rattle.alp_journal.specs.Account.{has_trans, are_trans_apart}
use Rattle.alp_journal.specs.Holder.{Life}
use Rattle.alp_journal.specs.Ids.{same_trans}
use Rattle.alp_journal.proofs.IdLemmas.{same_trans-true, same_trans-itself}
use Rattle.alp_node.specs.SoundLives.{edits_in, all_edits, AreSoundInAny}
use Rattle.alp_node.proofs.SoundLives.{writes_in, IsAway, others_same, others_commute, same_map_where, head_apart, rest_apart, or_left, or_right}

-- ---- cells by their keys

-- An owner's record stays one: no edit takes it away.
owner_stays : (es : List Edit) (name : List ℕ) (c : Cell) → (d : Cell) × (edits_at es (OwnerOf name) (Some c) ≡ Some d)
owner_stays [] name c = (c, refl)
owner_stays (Drop f ∷ es) name c = owner_stays es name c
owner_stays (Cut f n ∷ es) name c = owner_stays es name c
owner_stays (Put k x ∷ es) name c = go (eq_by_cmp key_cmp (OwnerOf name) k) (owner_stays es name x) (owner_stays es name c)
  where
    go : (b : Bool) → (d : Cell) × (edits_at es (OwnerOf name) (Some x) ≡ Some d) → (d : Cell) × (edits_at es (OwnerOf name) (Some c) ≡ Some d) → (d : Cell) × (edits_at es (OwnerOf name) (cond b (Some x) (Some c)) ≡ Some d)
    go true put old = put
    go false put old = old

owner_is : (name : List ℕ) (c : Cell) → IsOfKind (OwnerOf name) c → (o : OwnerRecord) × (c ≡ cell.Owner o)
owner_is name (cell.Leader p) k = absurd k
owner_is name (cell.Page bytes) k = absurd k
owner_is name (cell.Owner o) k = (o, refl)

get_after : (es : List Edit) (m : Cells) (k : Key) → map.get (edits_map es m) k ≡ edits_at es k (map.get m k)
get_after es m k = ap (λ (v : View). v k) (get-edits_map es m)

-- so it is there behind edits that leave cells of their kinds
owner_left : (es : List Edit) (m : Cells) (name : List ℕ) (o : OwnerRecord) → map.get m (OwnerOf name) ≡ Some (cell.Owner o) → AreFiles (map.get (edits_map es m)) → (r : OwnerRecord) × (map.get (edits_map es m) (OwnerOf name) ≡ Some (cell.Owner r))
owner_left es m name o is files =
    let d = owner_stays es name (cell.Owner o) in
    let there : map.get (edits_map es m) (OwnerOf name) ≡ Some d.0 = get_after es m (OwnerOf name) ∙ ap (edits_at es (OwnerOf name)) is ∙ d.1 in
    let r = owner_is name d.0 (files.kinds (OwnerOf name) d.0 there) in
    (r.0, there ∙ ap (λ (x : Cell). Some x) r.1)

-- ---- charges

-- where an owner's cell is the same, so is its charge
same_charge : (a b : Cells) → AreSound a → AreSound b → (name : List ℕ) → map.get a (OwnerOf name) ≡ map.get b (OwnerOf name) → charge_of a name ≡ charge_of b name
same_charge a b sa sb name same = go (map.get a (OwnerOf name)) refl
  where
    by_kind : (c : Cell) → map.get a (OwnerOf name) ≡ Some c → IsOfKind (OwnerOf name) c → charge_of a name ≡ charge_of b name
    by_kind (cell.Leader p) is k = absurd k
    by_kind (cell.Page bytes) is k = absurd k
    by_kind (cell.Owner o) is k = sym (sa.1 name o is) ∙ sb.1 name o (sym same ∙ is)

    go : (x : Option Cell) → map.get a (OwnerOf name) ≡ x → charge_of a name ≡ charge_of b name
    go None is = uncharged a sa name (ap (λ (c : Option Cell). is_some (owner_in c)) is) ∙ sym (uncharged b sb name (ap (λ (c : Option Cell). is_some (owner_in c)) (sym same ∙ is)))
    go (Some c) is = by_kind c is (sa.0.kinds (OwnerOf name) c is)

-- A charge is that of the cells where p does not hold, and that of those where it does.
module _ (p : Key → Bool) (owner : List ℕ) where
  abbrev here : Key × Cell → ℕ
  here e = cond (p e.0) (cost owner e.1) 0

  apart_charge : (m : Cells) → charge_of (map.retain_keys m (λ k. not (p k))) owner + sum_of here m ≡ charge_of m owner
  apart_charge m = sum-retain_keys keys_total exact_keys (λ (e : Key × Cell). cost owner e.1) m p

  same_here : (a b : Cells) → ((k : Key) → p k ≡ true → map.get a k ≡ map.get b k) → sum_of here a ≡ sum_of here b
  same_here a b same = omega (arith, in_part a, in_part b, ap (sum_of here) alike)
    where
      only : (b : Bool) (x : ℕ) → cond (not b) (cond b x 0) 0 ≡ 0
      only true x = refl
      only false x = refl

      in_part : (m : Cells) → sum_of here (map.retain_keys m (λ k. not (not (p k)))) ≡ sum_of here m
      in_part m =
          let none : sum_of (λ (e : Key × Cell). cond (not (p e.0)) (here e) 0) m ≡ 0 = sum_of-nothing keys_total exact_keys (λ (e : Key × Cell). cond (not (p e.0)) (here e) 0) m (λ k c is. only (p k) (cost owner c)) in
          omega (arith, none, sum-retain_keys keys_total exact_keys here m (λ k. not (p k)))

      at : (k : Key) (held : Bool) → p k ≡ held → cond (not (not held)) (map.get a k) None ≡ cond (not (not held)) (map.get b k) None
      at k true is = same k is
      at k false is = refl

      alike : map.retain_keys a (λ k. not (not (p k))) ≡ map.retain_keys b (λ k. not (not (p k)))
      alike =
          same_map keys_total exact_keys (map.retain_keys a (λ k. not (not (p k)))) (map.retain_keys b (λ k. not (not (p k))))
          (λ k. kept (λ q. not (not (p q))) a k ∙ at k (p k) refl ∙ sym (kept (λ q. not (not (p q))) b k))

  same_beside : (a b : Cells) → ((k : Key) → p k ≡ false → map.get a k ≡ map.get b k) → charge_of (map.retain_keys a (λ k. not (p k))) owner ≡ charge_of (map.retain_keys b (λ k. not (p k))) owner
  same_beside a b same = ap (λ (x : Cells). charge_of x owner) alike
    where
      at : (k : Key) (held : Bool) → p k ≡ held → cond (not held) (map.get a k) None ≡ cond (not held) (map.get b k) None
      at k true is = refl
      at k false is = same k is

      alike : map.retain_keys a (λ k. not (p k)) ≡ map.retain_keys b (λ k. not (p k))
      alike =
          same_map keys_total exact_keys (map.retain_keys a (λ k. not (p k))) (map.retain_keys b (λ k. not (p k))) (λ k. kept (λ q. not (p q)) a k ∙ at k (p k) refl ∙ sym (kept (λ q. not (p q)) b k))

  -- changes within p add to each charge what they add to another's, where the cells were the same
  adds_alike : (m n dm dn : Cells) → ((k : Key) → p k ≡ true → map.get m k ≡ map.get n k) → ((k : Key) → p k ≡ true → map.get dm k ≡ map.get dn k)
      → ((k : Key) → p k ≡ false → map.get dm k ≡ map.get m k) → ((k : Key) → p k ≡ false → map.get dn k ≡ map.get n k)
      → charge_of dn owner + charge_of m owner ≡ charge_of n owner + charge_of dm owner
  adds_alike m n dm dn within changed m_stays n_stays =
      omega (arith, apart_charge m, apart_charge n, apart_charge dm, apart_charge dn, same_here m n within, same_here dm dn changed, same_beside dm m m_stays, same_beside dn n n_stays)

-- ---- parts that keep apart

-- whether a part may write there
abbrev pub may_write : Option Life → Key → Bool
may_write None k = false
may_write (Some l) k = covers_held (mode_on l.held k) Write

pub may_is : (x : Option Life) (k : Key) → may_write x k ≡ true → writes_in x k
may_is None k e = let wrong : false ≡ true = e in cc
may_is (Some l) k e = e

pub is_may : (x : Option Life) (k : Key) → writes_in x k → may_write x k ≡ true
is_may None k w = absurd w
is_may (Some l) k w = w

-- Each part is within what it may write, apart from the others, and leaves sound files by itself.
pub record KeepApart (m : Cells) (lives : TransId → Option Life) : Type 0 where
  pub files : AreSound m
  pub within : (t : TransId) (l : Life) → lives t ≡ Some l → AreWithin (Writes l.held) l.edits
  pub apart : (t u : TransId) (k l : Life) → lives t ≡ Some k → lives u ≡ Some l → same_trans t u ≡ false → (key : Key) → Writes k.held key → Writes l.held key → ⊥
  pub each : (t : TransId) (l : Life) → lives t ≡ Some l → AreSound (edits_map l.edits m)

-- with all of them files are well formed, and each cell that a part may write is as it makes it
pub record GoTogether (m : Cells) (lives : TransId → Option Life) : Type 0 where
  pub all : Cells
  pub files : AreFiles (map.get all)
  pub made : (t : TransId) (l : Life) → lives t ≡ Some l → (k : Key) → Writes l.held k → map.get all k ≡ map.get (edits_map l.edits m) k

module _ (m : Cells) (lives : TransId → Option Life) (h : KeepApart m lives) where
  pub own_within : (t : TransId) → AreWithin (writes_in (lives t)) (edits_in (lives t))
  own_within t = go (lives t) refl
    where
      go : (x : Option Life) → lives t ≡ x → AreWithin (writes_in x) (edits_in x)
      go None is = tt
      go (Some l) is = h.within t l is

  pub two_apart : (t u : TransId) → same_trans t u ≡ false → (k : Key) → writes_in (lives t) k → writes_in (lives u) k → ⊥
  two_apart t u away k = go (lives t) (lives u) refl refl
    where
      go : (x y : Option Life) → lives t ≡ x → lives u ≡ y → writes_in x k → writes_in y k → ⊥
      go None y a b w v = w
      go (Some l) None a b w v = v
      go (Some l) (Some n) a b w v = h.apart t u l n a b away k w v

  pub own_sound : (t : TransId) → AreSound (edits_map (edits_in (lives t)) m)
  own_sound t = go (lives t) refl
    where
      go : (x : Option Life) → lives t ≡ x → AreSound (edits_map (edits_in x) m)
      go None is = h.files
      go (Some l) is = h.each t l is

  -- where a part may not write, the cell stays
  pub unwritten : (t : TransId) (k : Key) → may_write (lives t) k ≡ false → (x : Cells) → map.get (edits_map (edits_in (lives t)) x) k ≡ map.get x k
  unwritten t k not_w x =
      sym (apart-same (λ q. q ≡ k) (writes_in (lives t)) (λ q w e. never (sym not_w ∙ is_may (lives t) k (subst (writes_in (lives t)) e w))) (edits_in (lives t)) (own_within t) x k refl)
    where
      never : false ≡ true → ⊥
      never e = cc

  -- One of these may write there, and the cell is as it makes it; or none may, and it is as it was.
  unfoldable pub Known : Key → List TransId → Type 0
  Known k ts = ((t : TransId) × (has_trans t ts ≡ true) × (may_write (lives t) k ≡ true) × ((x : Cells) → map.get (edits_map (all_edits lives ts) x) k ≡ map.get (edits_map (edits_in (lives t)) x) k))
      ⊎ (((t : TransId) → has_trans t ts ≡ true → may_write (lives t) k ≡ false) × ((x : Cells) → map.get (edits_map (all_edits lives ts) x) k ≡ map.get x k))

  pub known : (k : Key) (ts : List TransId) → are_trans_apart ts ≡ true → Known k ts
  unfolding Known
  known k [] one = inr (λ t wrong. absurd (let no : false ≡ true = wrong in cc), λ x. refl)
  known k (u ∷ us) one = go (may_write (lives u) k) refl (known k us (rest_apart u us one))
    where
      split : (x : Cells) → map.get (edits_map (all_edits lives (u ∷ us)) x) k ≡ map.get (edits_map (all_edits lives us) (edits_map (edits_in (lives u)) x)) k
      split x = ap (λ (c : Cells). map.get c k) (edits_map-append (edits_in (lives u)) (all_edits lives us) x)

      head : has_trans u (u ∷ us) ≡ true
      head = ap (λ (b : Bool). b || has_trans u us) (same_trans-itself u)

      or_true : (b : Bool) → (b || true) ≡ true
      or_true true = refl
      or_true false = refl

      tail : (t : TransId) → has_trans t us ≡ true → has_trans t (u ∷ us) ≡ true
      tail t there = ap (λ (b : Bool). same_trans u t || b) there ∙ or_true (same_trans u t)

      -- it is another's
      other : (t : TransId) → has_trans t us ≡ true → same_trans u t ≡ false
      other t there = pick (same_trans u t) refl
        where
          pick : (b : Bool) → same_trans u t ≡ b → b ≡ false
          pick true is = absurd (let no : true ≡ false = sym there ∙ ap (λ (v : TransId). has_trans v us) (sym (same_trans-true u t is)) ∙ head_apart u us one in cc)
          pick false is = refl

      in_rest : may_write (lives u) k ≡ false → (t : TransId) → ((v : TransId) → has_trans v us ≡ true → may_write (lives v) k ≡ false) → has_trans t (u ∷ us) ≡ true → may_write (lives t) k ≡ false
      in_rest off t none there = pick (same_trans u t) refl
        where
          pick : (b : Bool) → same_trans u t ≡ b → may_write (lives t) k ≡ false
          pick true is = ap (λ (v : TransId). may_write (lives v) k) (sym (same_trans-true u t is)) ∙ off
          pick false is = none t (ap (λ (b : Bool). b || has_trans t us) (sym is) ∙ there)

      go : (b : Bool) → may_write (lives u) k ≡ b → Known k us → Known k (u ∷ us)
      go true w (inl r) = absurd (two_apart u r.0 (other r.0 r.1) k (may_is (lives u) k w) (may_is (lives r.0) k r.2))
      go true w (inr r) = inl (u, head, w, λ x. split x ∙ r.1 (edits_map (edits_in (lives u)) x))
      go false w (inl r) =
          inl (
            r.0,
            tail r.0 r.1,
            r.2,
            λ x. split x ∙ r.3 (edits_map (edits_in (lives u)) x)
                ∙ same_map_where (λ q. q ≡ k) (edits_in (lives r.0)) (edits_map (edits_in (lives u)) x) x (λ q e. subst (λ (z : Key). map.get (edits_map (edits_in (lives u)) x) z ≡ map.get x z) (sym e) (unwritten u k w x)) k refl,
          )
      go false w (inr r) = inr (λ t there. in_rest w t r.0 there, λ x. split x ∙ r.1 (edits_map (edits_in (lives u)) x) ∙ unwritten u k w x)

-- ---- files are well formed

module _ (m : Cells) (lives : TransId → Option Life) (h : KeepApart m lives) (g : GoTogether m lives) where
  own_made : (t : TransId) (k : Key) → writes_in (lives t) k → map.get g.all k ≡ map.get (edits_map (edits_in (lives t)) m) k
  own_made t k = go (lives t) refl
    where
      go : (x : Option Life) → lives t ≡ x → writes_in x k → map.get g.all k ≡ map.get (edits_map (edits_in x) m) k
      go None is w = absurd w
      go (Some l) is w = g.made t l is k w

  module _ (ts : List TransId) (one : are_trans_apart ts ≡ true) where
    abbrev n : Cells
    n = edits_map (all_edits lives ts) m

    -- the cell of a key there
    AtKey : Key → Type 0
    AtKey k = ((t : TransId) × (has_trans t ts ≡ true) × (may_write (lives t) k ≡ true) × (map.get n k ≡ map.get (edits_map (edits_in (lives t)) m) k))
        ⊎ (((t : TransId) → has_trans t ts ≡ true → may_write (lives t) k ≡ false) × (map.get n k ≡ map.get m k))

    at_key : (k : Key) → AtKey k
    unfolding Known AtKey
    at_key k = elim (known m lives h k ts one) [ inl r ↦ inl (r.0, r.1, r.2, r.3 m) | inr r ↦ inr (r.0, r.1 m) ]

    n_kinds : (k : Key) (c : Cell) → map.get n k ≡ Some c → IsOfKind k c
    unfolding AtKey
    n_kinds k c is = elim (at_key k) [ inl r ↦ (own_sound m lives h r.0).0.kinds k c (sym r.3 ∙ is) | inr r ↦ h.files.0.kinds k c (sym r.1 ∙ is) ]

    -- an owner that is there stays
    n_owner : (name : List ℕ) (o : OwnerRecord) → map.get m (OwnerOf name) ≡ Some (cell.Owner o) → (r : OwnerRecord) × (map.get n (OwnerOf name) ≡ Some (cell.Owner r))
    unfolding AtKey
    n_owner name o is = elim (at_key (OwnerOf name)) [
      | inl r ↦ (let left = owner_left (edits_in (lives r.0)) m name o is (own_sound m lives h r.0).0 in (left.0, r.3 ∙ left.1))
      | inr r ↦ (o, r.1 ∙ is)
    ]

    -- and one that a part of these sees
    n_seen : (t : TransId) → has_trans t ts ≡ true → (name : List ℕ) (o : OwnerRecord) → map.get (edits_map (edits_in (lives t)) m) (OwnerOf name) ≡ Some (cell.Owner o) → (r : OwnerRecord) × (map.get n (OwnerOf name) ≡ Some (cell.Owner r))
    unfolding AtKey
    n_seen t there name o is = pick (may_write (lives t) (OwnerOf name)) refl
      where
        own : may_write (lives t) (OwnerOf name) ≡ true → AtKey (OwnerOf name) → (r : OwnerRecord) × (map.get n (OwnerOf name) ≡ Some (cell.Owner r))
        own w (inl r) = same (same_trans t r.0) refl
          where
            same : (b : Bool) → same_trans t r.0 ≡ b → (x : OwnerRecord) × (map.get n (OwnerOf name) ≡ Some (cell.Owner x))
            same true e = (o, r.3 ∙ ap (λ (v : TransId). map.get (edits_map (edits_in (lives v)) m) (OwnerOf name)) (sym (same_trans-true t r.0 e)) ∙ is)
            same false e = absurd (two_apart m lives h t r.0 e (OwnerOf name) (may_is (lives t) (OwnerOf name) w) (may_is (lives r.0) (OwnerOf name) r.2))
        own w (inr r) = absurd (let no : false ≡ true = sym (r.0 t there) ∙ w in cc)

        pick : (b : Bool) → may_write (lives t) (OwnerOf name) ≡ b → (r : OwnerRecord) × (map.get n (OwnerOf name) ≡ Some (cell.Owner r))
        pick true w = own w (at_key (OwnerOf name))
        pick false w = n_owner name o (sym (unwritten m lives h t (OwnerOf name) w m) ∙ is)

    n_owned : (f : FileId) (p : Props) → map.get n (Leader f) ≡ Some (cell.Leader p) → (o : OwnerRecord) × (map.get n (OwnerOf p.owner) ≡ Some (cell.Owner o))
    unfolding AtKey
    n_owned f p is = elim (at_key (Leader f)) [
      | inl r ↦ (let o = (own_sound m lives h r.0).0.owned f p (sym r.3 ∙ is) in n_seen r.0 r.1 p.owner o.0 o.1)
      | inr r ↦ (let o = h.files.0.owned f p (sym r.1 ∙ is) in n_owner p.owner o.0 o.1)
    ]

    Below : FileId → ℕ → Type 0
    Below f i = (p : Props) × (map.get n (Leader f) ≡ Some (cell.Leader p)) × (i < p.size)

    n_paged : (f : FileId) (i : ℕ) (c : Cell) → map.get n (PageOf f i) ≡ Some c → Below f i
    unfolding AtKey Below
    n_paged f i c is = go (at_key (PageOf f i)) (at_key (Leader f))
      where
        go : AtKey (PageOf f i) → AtKey (Leader f) → Below f i
        go (inl r) (inl u) =
            let page : map.get g.all (PageOf f i) ≡ Some c = own_made r.0 (PageOf f i) (may_is (lives r.0) (PageOf f i) r.2) ∙ sym r.3 ∙ is in
            let p = g.files.paged f i c page in
            (p.0, u.3 ∙ sym (own_made u.0 (Leader f) (may_is (lives u.0) (Leader f) u.2)) ∙ p.1, p.2)
        go (inl r) (inr u) =
            let p = (own_sound m lives h r.0).0.paged f i c (sym r.3 ∙ is) in
            (p.0, u.1 ∙ sym (unwritten m lives h r.0 (Leader f) (u.0 r.0 r.1) m) ∙ p.1, p.2)
        go (inr r) (inl u) =
            let p = (own_sound m lives h u.0).0.paged f i c (unwritten m lives h u.0 (PageOf f i) (r.0 u.0 u.1) m ∙ sym r.1 ∙ is) in
            (p.0, u.3 ∙ p.1, p.2)
        go (inr r) (inr u) =
            let p = h.files.0.paged f i c (sym r.1 ∙ is) in
            (p.0, u.1 ∙ p.1, p.2)

    pub n_files : AreFiles (map.get n)
    unfolding Below
    n_files = record { kinds = n_kinds; owned = n_owned; paged = n_paged }

  -- ---- and charged

  others_away : (t u : TransId) → same_trans u t ≡ false → IsAway (writes_in (lives t)) (lives u)
  others_away t u away = record { within = own_within m lives h u; away = λ k w v. two_apart m lives h u t away k w v }

  -- with one more
  more_charged : (t : TransId) (y : Cells) → AreSound y → ((k : Key) → may_write (lives t) k ≡ true → map.get m k ≡ map.get y k) → AreCharged (edits_map (edits_in (lives t)) y)
  more_charged t y s same name o is = go (may_write (lives t) (OwnerOf name)) refl
    where
      changed : (k : Key) → may_write (lives t) k ≡ true → map.get (edits_map (edits_in (lives t)) m) k ≡ map.get (edits_map (edits_in (lives t)) y) k
      changed k w = same_map_where (λ q. q ≡ k) (edits_in (lives t)) m y (λ q e. subst (λ (z : Key). map.get m z ≡ map.get y z) (sym e) (same k w)) k refl

      adds : charge_of (edits_map (edits_in (lives t)) y) name + charge_of m name ≡ charge_of y name + charge_of (edits_map (edits_in (lives t)) m) name
      adds =
          adds_alike (may_write (lives t)) name m y (edits_map (edits_in (lives t)) m) (edits_map (edits_in (lives t)) y) same
          changed (λ k off. unwritten m lives h t k off m) (λ k off. unwritten m lives h t k off y)

      go : (b : Bool) → may_write (lives t) (OwnerOf name) ≡ b → o.charge ≡ charge_of (edits_map (edits_in (lives t)) y) name
      go true w =
          let here : o.charge ≡ charge_of (edits_map (edits_in (lives t)) m) name = (own_sound m lives h t).1 name o (changed (OwnerOf name) w ∙ is) in
          let before : charge_of m name ≡ charge_of y name = same_charge m y h.files s name (same (OwnerOf name) w) in
          omega (arith, here, before, adds)
      go false off =
          let here : o.charge ≡ charge_of y name = s.1 name o (sym (unwritten m lives h t (OwnerOf name) off y) ∙ is) in
          let still : charge_of (edits_map (edits_in (lives t)) m) name ≡ charge_of m name = same_charge (edits_map (edits_in (lives t)) m) m (own_sound m lives h t) h.files name (unwritten m lives h t (OwnerOf name) off m) in
          omega (arith, here, still, adds)

  charged : (ts : List TransId) → are_trans_apart ts ≡ true → AreCharged (edits_map (all_edits lives ts) m)
  charged [] one = h.files.1
  charged (u ∷ us) one =
      let n : Cells = edits_map (all_edits lives us) m in
      let rest : are_trans_apart us ≡ true = rest_apart u us one in
      let s : AreSound n = (n_files us rest, charged us rest) in
      let none : has_trans u us ≡ false = head_apart u us one in
      let turned : edits_map (all_edits lives (u ∷ us)) m ≡ edits_map (edits_in (lives u)) n =
      edits_map-append (edits_in (lives u)) (all_edits lives us) m
      ∙ others_commute (writes_in (lives u)) lives u (others_away u) (writes_in (lives u)) (λ k w. w) (edits_in (lives u)) (own_within m lives h u) us none m in
      subst AreCharged (sym turned) (more_charged u n s (λ k w. sym (unwritten_all u us none rest k w)))
    where
      unwritten_all : (u : TransId) (us : List TransId) → has_trans u us ≡ false → are_trans_apart us ≡ true → (k : Key) → may_write (lives u) k ≡ true → map.get (edits_map (all_edits lives us) m) k ≡ map.get m k
      unwritten_all u us none rest k w = sym (others_same (writes_in (lives u)) lives u (others_away u) us none m k (may_is (lives u) k w))

  pub any_sound : AreSoundInAny lives m
  any_sound ts one = (n_files ts one, charged ts one)
