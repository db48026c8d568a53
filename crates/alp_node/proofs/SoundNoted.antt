-- The ready parts of notes that go together leave sound files, whichever of them are applied.
use Rattle.std.specs.Prelude.{cond, Bool, true, false, not, ◌&&◌, ◌||◌, flat_map, Option, None, Some, map as list_map}
use Rattle.std.specs.List.{list_all, AllByRecursion}
use Rattle.std.specs.FinMap as map
use Rattle.std.specs.Ordering.{eq_by_cmp}
use Rattle.std.proofs.Common.{inl, inr, ◌≡◌, ℕ, List, [], ◌∷◌, ◌++◌, refl, sym, ap, subst, ◌∙◌}
use Rattle.alp_base.specs.Orders.{trans_cmp}
use Rattle.alp_base.specs.declared.ids.TransId.{TransId}
use Rattle.alp_base.specs.declared.key.Key.{Key}
use Rattle.alp_files.specs.Apart.{AreSized, OpensRead, IsWithin as AreWithin}
use Rattle.alp_files.specs.Cells.{Cells}
use Rattle.alp_files.specs.Edits.{Edit, edits_map}
use Rattle.alp_files.specs.Holdings.{DoAgree, DoAgreeOnLeaves, held_by, IsIntended}
use Rattle.alp_files.specs.Locks.{Reads, Writes}
use Rattle.alp_files.specs.Sound.{AreSound}
use Rattle.alp_files.proofs.FilesLemmas.{same-some}
use Rattle.alp_files.proofs.HeldLemmas.{apart, leaves-turned, writes-is-reads}
use Rattle.alp_files.proofs.HoldingLemmas.{agreement-of-leaves, agree-turned}
use Rattle.alp_journal.specs.Account.{has_trans, are_trans_apart}
use Rattle.alp_journal.specs.Holder.{Life, early_life, lives_noted}
use Rattle.alp_journal.specs.Ids.{same_trans}
use Rattle.alp_journal.specs.Laws.{DoLivesAgree}
use Rattle.alp_journal.specs.Opening.{ReadyNote}
use Rattle.alp_journal.proofs.IdLemmas.{same_trans-true, same_trans-itself}
use Rattle.alp_node.specs.Covers.{AreSizedEdits}
use Rattle.alp_node.specs.SoundLives.{edits_in, all_edits, AreSoundInAny, IsSoundPart, AreSoundLives}
use Rattle.alp_node.proofs.SoundLives.{or_left, or_right}
use Rattle.alp_node.proofs.SoundNotes.{KeepApart, GoTogether, Known, known, may_write, may_is, is_may, two_apart, any_sound}
use Rattle.alp_coord.proofs.MapLemmas.{tied_same}
use Rattle.alp_regain.specs.Together.{IsPartNote, AreTwo, AreApart, AreSoundTogether}
use Rattle.alp_regain.proofs.LockLemmas.{are_intended, are_within}

-- ---- the life of a note

-- it is some note's, and what holds of each note holds of this
noted : (P : ReadyNote → Type 0) (ns : List ReadyNote) → AllByRecursion P ns → (t : TransId) (l : Life) → lives_noted ns t ≡ Some l → (n : ReadyNote) × (same_trans n.trans t ≡ true) × (early_life n ≡ l) × P n
noted P [] all t l is = absurd (let wrong : None ≡ Some l = is in cc)
noted P (n ∷ ns) all t l is = go (same_trans n.trans t) refl (λ e. noted P ns all.1 t l e) is
  where
    go : (b : Bool) → same_trans n.trans t ≡ b → (lives_noted ns t ≡ Some l → (k : ReadyNote) × (same_trans k.trans t ≡ true) × (early_life k ≡ l) × P k) → cond {A = Option Life} b (Some (early_life n)) (lives_noted ns t) ≡ Some l
        → (k : ReadyNote) × (same_trans k.trans t ≡ true) × (early_life k ≡ l) × P k
    go true here rest e = (n, here, same-some (early_life n) l e, all.0)
    go false here rest e = rest e

-- whom no note names is not live
not_noted : (ns : List ReadyNote) (t : TransId) → has_trans t (list_map (λ (n : ReadyNote). n.trans) ns) ≡ false → lives_noted ns t ≡ None
not_noted [] t none = refl
not_noted (n ∷ ns) t none =
    ap (λ (b : Bool). cond {A = Option Life} b (Some (early_life n)) (lives_noted ns t)) (or_left (same_trans n.trans t) (has_trans t (list_map (λ (k : ReadyNote). k.trans) ns)) none)
    ∙ not_noted ns t (or_right (same_trans n.trans t) (has_trans t (list_map (λ (k : ReadyNote). k.trans) ns)) none)

turned : (a b : TransId) → same_trans a b ≡ false → same_trans b a ≡ false
turned a b away = go (same_trans b a) refl
  where
    go : (c : Bool) → same_trans b a ≡ c → c ≡ false
    go true is = let no_way : true ≡ false = sym (same_trans-itself a) ∙ ap (λ (x : TransId). same_trans a x) (sym (same_trans-true b a is)) ∙ away in cc
    go false is = refl

-- ---- notes that are apart

names : List ReadyNote → List TransId
names ns = list_map (λ (n : ReadyNote). n.trans) ns

not_among : (n : ReadyNote) (ns : List ReadyNote) → AllByRecursion (AreTwo n) ns → has_trans n.trans (list_map (λ (k : ReadyNote). k.trans) ns) ≡ false
not_among n [] two = refl
not_among n (k ∷ ks) two = ap (λ (b : Bool). b || has_trans n.trans (list_map (λ (x : ReadyNote). x.trans) ks)) (sym (tied_same k.trans n.trans) ∙ two.0.apart) ∙ not_among n ks two.1

names_apart : (ns : List ReadyNote) → AreApart ns → are_trans_apart (list_map (λ (n : ReadyNote). n.trans) ns) ≡ true
names_apart [] h = refl
names_apart (n ∷ ns) h = ap (λ (b : Bool). not b && are_trans_apart (list_map (λ (k : ReadyNote). k.trans) ns)) (not_among n ns h.0) ∙ names_apart ns h.1

-- a note more says nothing of others
one_more : (n : ReadyNote) (ns : List ReadyNote) (ts : List TransId) → has_trans n.trans ts ≡ false → all_edits (lives_noted (n ∷ ns)) ts ≡ all_edits (lives_noted ns) ts
one_more n ns [] none = refl
one_more n ns (u ∷ us) none =
    ap (λ (b : Bool). edits_in (cond {A = Option Life} b (Some (early_life n)) (lives_noted ns u)) ++ all_edits (lives_noted (n ∷ ns)) us) (turned u n.trans (or_left (same_trans u n.trans) (has_trans n.trans us) none))
    ∙ ap (λ (es : List Edit). edits_in (lives_noted ns u) ++ es) (one_more n ns us (or_right (same_trans u n.trans) (has_trans n.trans us) none))

-- what all notes intend is what all their parts do
noted_edits : (ns : List ReadyNote) → AreApart ns → all_edits (lives_noted ns) (list_map (λ (n : ReadyNote). n.trans) ns) ≡ flat_map (λ (n : ReadyNote). n.edits) ns
noted_edits [] h = refl
noted_edits (n ∷ ns) h =
    ap (λ (b : Bool). edits_in (cond {A = Option Life} b (Some (early_life n)) (lives_noted ns n.trans)) ++ all_edits (lives_noted (n ∷ ns)) (list_map (λ (k : ReadyNote). k.trans) ns)) (same_trans-itself n.trans)
    ∙ ap (λ (es : List Edit). n.edits ++ es) (one_more n ns (list_map (λ (k : ReadyNote). k.trans) ns) (not_among n ns h.0) ∙ noted_edits ns h.1)

-- two of them are two notes
agree_turned : (a b : ReadyNote) → DoAgree (held_by a.locks) (held_by b.locks) → DoAgree (held_by b.locks) (held_by a.locks)
agree_turned a b h r = sym (agree-turned (held_by a.locks r) (held_by b.locks r)) ∙ h r

notes_agree : (ns : List ReadyNote) → AreApart ns → (t u : TransId) (k l : Life) → lives_noted ns t ≡ Some k → lives_noted ns u ≡ Some l → same_trans t u ≡ false → DoAgree k.held l.held
notes_agree [] h t u k l a b away = absurd (let wrong : None ≡ Some k = a in cc)
notes_agree (n ∷ ns) h t u k l a b away = go (same_trans n.trans t) (same_trans n.trans u) refl refl a b (λ x y. notes_agree ns h.1 t u k l x y away)
  where
    go : (b c : Bool) → same_trans n.trans t ≡ b → same_trans n.trans u ≡ c → cond {A = Option Life} b (Some (early_life n)) (lives_noted ns t) ≡ Some k → cond {A = Option Life} c (Some (early_life n)) (lives_noted ns u) ≡ Some l
        → (lives_noted ns t ≡ Some k → lives_noted ns u ≡ Some l → DoAgree k.held l.held) → DoAgree k.held l.held
    go true true x y p q rest =
        absurd (let no_way : true ≡ false = sym (same_trans-itself t) ∙ ap (λ (v : TransId). same_trans t v) (sym (same_trans-true n.trans t x) ∙ same_trans-true n.trans u y) ∙ away in cc)
    go true false x y p q rest =
        let other = noted (AreTwo n) ns h.0 u l q in
        subst (λ (z : Life). DoAgree z.held l.held) (same-some (early_life n) k p) (subst (λ (z : Life). DoAgree (held_by n.locks) z.held) other.2 other.3.agree)
    go false true x y p q rest =
        let other = noted (AreTwo n) ns h.0 t k p in
        subst (λ (z : Life). DoAgree k.held z.held) (same-some (early_life n) l q) (subst (λ (z : Life). DoAgree z.held (held_by n.locks)) other.2 (agree_turned n other.0 other.3.agree))
    go false false x y p q rest = rest p q

-- ---- all of it

module _ (m : Cells) (server epoch : ℕ) (ns : List ReadyNote) (files : AreSound m) (sized : AreSized (map.get m)) (parts : AllByRecursion (IsPartNote server epoch) ns) (far : AreApart ns) (sound : AreSoundTogether m ns)
    (puts : AllByRecursion (λ (n : ReadyNote). AreSizedEdits n.edits) ns) where
  intended : (t : TransId) (l : Life) → lives_noted ns t ≡ Some l → IsIntended l.held
  intended t l is = let n = noted (IsPartNote server epoch) ns parts t l is in subst (λ (z : Life). IsIntended z.held) n.2 (are_intended n.0.locks n.3.locks.intended)

  within : (t : TransId) (l : Life) → lives_noted ns t ≡ Some l → AreWithin (Writes l.held) l.edits
  within t l is = let n = noted (IsPartNote server epoch) ns parts t l is in subst (λ (z : Life). AreWithin (Writes z.held) z.edits) n.2 (are_within (held_by n.0.locks) n.0.edits n.3.locks.covered)

  keep : KeepApart m (lives_noted ns)
  keep = record {
    files = files;
    within = within;
    apart = λ t u k l a b away key w v. apart k.held l.held (agreement-of-leaves k.held l.held (notes_agree ns far t u k l a b away) (intended t k a) (intended u l b)) key w (writes-is-reads l.held key v);
    each = λ t l is. (let n = noted (λ (n : ReadyNote). AreSound (edits_map n.edits m)) ns sound.each t l is in subst (λ (z : Life). AreSound (edits_map z.edits m)) n.2 n.3);
  }

  together : GoTogether m (lives_noted ns)
  unfolding Known
  together = record {
    all = edits_map (flat_map (λ (n : ReadyNote). n.edits) ns) m;
    files = sound.all.0;
    made = λ t l is k w. made t l is k w (known m (lives_noted ns) keep k (list_map (λ (n : ReadyNote). n.trans) ns) (names_apart ns far));
  }
    where
      made : (t : TransId) (l : Life) → lives_noted ns t ≡ Some l → (k : Key) → Writes l.held k → Known m (lives_noted ns) keep k (list_map (λ (n : ReadyNote). n.trans) ns)
          → map.get (edits_map (flat_map (λ (n : ReadyNote). n.edits) ns) m) k ≡ map.get (edits_map l.edits m) k
      made t l is k w (inl r) = pick (same_trans t r.0) refl
        where
          all_is : map.get (edits_map (flat_map (λ (n : ReadyNote). n.edits) ns) m) k ≡ map.get (edits_map (edits_in (lives_noted ns r.0)) m) k
          all_is = ap (λ (es : List Edit). map.get (edits_map es m) k) (sym (noted_edits ns far)) ∙ r.3 m

          pick : (b : Bool) → same_trans t r.0 ≡ b → map.get (edits_map (flat_map (λ (n : ReadyNote). n.edits) ns) m) k ≡ map.get (edits_map l.edits m) k
          pick true e = all_is ∙ ap (λ (v : TransId). map.get (edits_map (edits_in (lives_noted ns v)) m) k) (sym (same_trans-true t r.0 e)) ∙ ap (λ (o : Option Life). map.get (edits_map (edits_in o) m) k) is
          pick false e =
              absurd (two_apart m (lives_noted ns) keep t r.0 e k (may_is (lives_noted ns t) k (ap (λ (o : Option Life). may_write o k) is ∙ w)) (may_is (lives_noted ns r.0) k r.2))
      made t l is k w (inr r) = pick (has_trans t (list_map (λ (n : ReadyNote). n.trans) ns)) refl
        where
          pick : (b : Bool) → has_trans t (list_map (λ (n : ReadyNote). n.trans) ns) ≡ b → map.get (edits_map (flat_map (λ (n : ReadyNote). n.edits) ns) m) k ≡ map.get (edits_map l.edits m) k
          pick true there = absurd (let no_way : false ≡ true = sym (r.0 t there) ∙ ap (λ (o : Option Life). may_write o k) is ∙ w in cc)
          pick false none = absurd (let no_way : None ≡ Some l = sym (not_noted ns t none) ∙ is in cc)

  pub notes_sound : AreSoundLives m (lives_noted ns)
  notes_sound = record {
    sound = any_sound m (lives_noted ns) keep together;
    sized = sized;
    agree = notes_agree ns far;
    parts = λ t l is. (let n = noted (λ (n : ReadyNote). AreSizedEdits n.edits) ns puts t l is in record {
      within = within t l is;
      opens = subst (λ (z : Life). OpensRead (Reads z.held) z.own.opens) n.2 tt;
      puts = subst (λ (z : Life). AreSizedEdits z.edits) n.2 n.3;
      intended = intended t l is;
    });
  }
