-- who waits goes on waiting while what others hold grows, and a walk leaves nobody whose way is free
use Rattle.std.specs.Prelude.{cond, Bool, true, false, find, Option, None, Some, map as list_map, IsTrue}
use Rattle.std.specs.List.{AllByRecursion}
use Rattle.std.proofs.Common.{◌≡◌, List, [], ◌∷◌, ◌++◌, refl, sym, ◌∙◌, ap, subst}
use Rattle.alp_base.specs.declared.ids.TransId.{TransId}
use Rattle.alp_modes.specs.declared.Mode.{Mode}
use Rattle.alp_modes.proofs.ModeLemmas.{agreement-symmetric, kept-below, covering-order}
use Rattle.alp_files.specs.Cells.{Cells}
use Rattle.alp_files.specs.Edits.{edits_map}
use Rattle.alp_files.specs.Holdings.{agree_held, covers_held}
use Rattle.alp_files.specs.Locks.{needs_of, granted, IsMore}
use Rattle.std.specs.FinMap as map
use Rattle.alp_files.proofs.CoverLemmas.{granted-more}
use Rattle.alp_files.proofs.FilesLemmas.{same-some}
use Rattle.alp_files.specs.declared.call.Call.{Call}
use Rattle.alp_journal.specs.Ids.{same_trans}
use Rattle.alp_journal.specs.Holder.{Holder, Life, held_for, grants}
use Rattle.alp_journal.specs.Desk.{Waiting, file_trans, is_of, grant_in}
use Rattle.alp_journal.specs.State.{State}
use Rattle.alp_journal.specs.Moves.{call_of}
use Rattle.alp_journal.specs.Laws.{IsFree, IsBlocked}
use Rattle.alp_journal.specs.Answered.{IsWalk}
use Rattle.alp_journal.specs.Account.{is_on_trans, call_on, with_its, granted_calls, holder_granted, waits_granted}
use Rattle.alp_journal.proofs.IdLemmas.{same_trans-true, same_trans-itself}
use Rattle.alp_journal.proofs.MadeIds.{all-map}
use Rattle.alp_journal.proofs.WaitLemmas.{IsOnly, all-both, all-mapped}

-- ---- what is held grows

-- what agrees with a mode agrees with each that the mode covers
agree-below : (a b x : Option Mode) → ((m : Mode) → IsTrue (covers_held a m) → IsTrue (covers_held b m)) → IsTrue (agree_held b x) → IsTrue (agree_held a x)
agree-below None b x above h = refl
agree-below (Some a) None x above h = let wrong : false ≡ true = above a (covering-order.itself a) in cc
agree-below (Some a) (Some b) None above h = refl
agree-below (Some a) (Some b) (Some x) above h = agreement-symmetric a x ∙ kept-below x b a (agreement-symmetric x b ∙ h) (above a (covering-order.itself a))

-- each part that lives holds as much there
abbrev pub HoldsMore : Holder → Holder → Type 0
HoldsMore h m = (u : TransId) (k : Life) → h.lives u ≡ Some k → (j : Life) × (m.lives u ≡ Some j) × IsMore k.held j.held

pub more-itself : (h : Holder) → HoldsMore h h
more-itself h u k live = (k, live, λ r m i. i)

pub more-through : (g h m : Holder) → HoldsMore g h → HoldsMore h m → HoldsMore g m
more-through g h m first then_on u k live =
    let (j, there, above) = first u k live in
    let (i, here, over) = then_on u j there in
    (i, here, λ r x c. over r x (above r x c))

-- what is free where more is held was free before
pub free-below : (h m : Holder) → m.cells ≡ h.cells → HoldsMore h m → (t : TransId) (l : Life) (c : Call) → IsFree m t l c → IsFree h t l c
free-below h m cells more t l c free u k live away r =
    let (j, there, above) = more u k live in
    agree-below (k.held r) (j.held r) (held_for h l c r) (above r)
    (subst (λ (x : Cells). IsTrue (agree_held (j.held r) (granted l.held (needs_of (map.get (edits_map l.edits x)) l.own c) r))) cells (free u j there away r))

-- ---- who waits goes on waiting

pub still-blocked : (s m : State) (w : Waiting) (x : Option TransId) → m.holder.cells ≡ s.holder.cells → HoldsMore s.holder m.holder → ((t : TransId) → x ≡ Some t → w.is_granted ≡ false → m.holder.lives t ≡ s.holder.lives t)
    → IsBlocked s w x → IsBlocked m w x
still-blocked s m w None cells more same b = tt
still-blocked s m w (Some t) cells more same b = λ wait l live own free. b wait l (sym (same t refl wait) ∙ live) own (free-below s.holder m.holder cells more t l w.call free)

-- nothing but who holds what counts
pub blocked-as : (s m : State) (w : Waiting) (x : Option TransId) → m.holder ≡ s.holder → IsBlocked s w x → IsBlocked m w x
blocked-as s m w None same b = tt
blocked-as s m w (Some t) same b = subst (λ (h : Holder). w.is_granted ≡ false → (l : Life) → h.lives t ≡ Some l → w.client ≡ l.client → IsFree h t l w.call → ⊥) (sym same) b

-- one part holds more than before, or begins, and the calls that wait are of others
pub turns-set : (s m : State) (t : TransId) (j : Life) → m.holder.cells ≡ s.holder.cells → ((u : TransId) → m.holder.lives u ≡ cond {A = Option Life} (same_trans u t) (Some j) (s.holder.lives u))
    → ((k : Life) → s.holder.lives t ≡ Some k → IsMore k.held j.held) → (ws : List Waiting) → AllByRecursion (λ w. is_on_trans t w ≡ false) ws
    → AllByRecursion (λ (w : Waiting). IsBlocked s w (file_trans w.call)) ws → AllByRecursion (λ (w : Waiting). IsBlocked m w (file_trans w.call)) ws
turns-set s m t j cells lives above ws off blocked =
    all-both (λ w. is_on_trans t w ≡ false) (λ (w : Waiting). IsBlocked s w (file_trans w.call)) (λ (w : Waiting). IsBlocked m w (file_trans w.call))
    (λ w o b. still-blocked s m w (file_trans w.call) cells more (λ u of wait. lives u ∙ ap (λ (d : Bool). cond {A = Option Life} d (Some j) (s.holder.lives u)) (sym (ap (is_of t) of) ∙ o)) b) ws off blocked
  where
    more : HoldsMore s.holder m.holder
    more u k live = go (same_trans u t) refl
      where
        go : (b : Bool) → same_trans u t ≡ b → (i : Life) × (m.holder.lives u ≡ Some i) × IsMore k.held i.held
        go true e = (j, lives u ∙ ap (λ (b : Bool). cond {A = Option Life} b (Some j) (s.holder.lives u)) e, above k (ap s.holder.lives (sym (same_trans-true u t e)) ∙ live))
        go false e = (k, lives u ∙ ap (λ (b : Bool). cond {A = Option Life} b (Some j) (s.holder.lives u)) e ∙ live, λ r m i. i)

-- ---- one grant after the other

-- nothing but who holds what changes
grants-frame : (h : Holder) (t : TransId) (c : Call) (l : Option Life) → grants h t c l ≡ record h { lives = (grants h t c l).lives }
grants-frame h t c None = refl
grants-frame h t c (Some l) = refl

pub given-frame : (xs : List (TransId × Call)) (h : Holder) → holder_granted h xs ≡ record h { lives = (holder_granted h xs).lives }
given-frame [] h = refl
given-frame (x ∷ xs) h =
    given-frame xs (grants h x.0 x.1 (h.lives x.0)) ∙ ap (λ (m : Holder). record m { lives = (holder_granted (grants h x.0 x.1 (h.lives x.0)) xs).lives }) (grants-frame h x.0 x.1 (h.lives x.0))

pub given-cells : (xs : List (TransId × Call)) (h : Holder) → (holder_granted h xs).cells ≡ h.cells
given-cells xs h = ap (λ (m : Holder). m.cells) (given-frame xs h)

pub grants-more : (h : Holder) (t : TransId) (c : Call) → HoldsMore h (grants h t c (h.lives t))
grants-more h t c = go (h.lives t) refl
  where
    go : (x : Option Life) → h.lives t ≡ x → HoldsMore h (grants h t c x)
    go None e u k live = (k, live, λ r m i. i)
    go (Some l) e u k live = by (same_trans u t) refl
      where
        by : (b : Bool) → same_trans u t ≡ b → (j : Life) × (cond {A = Option Life} b (Some (record l { held = held_for h l c })) (h.lives u) ≡ Some j) × IsMore k.held j.held
        by true f =
            let same : l ≡ k = same-some l k (sym e ∙ ap h.lives (sym (same_trans-true u t f)) ∙ live) in
            (record l { held = held_for h l c }, refl, subst (λ (y : Life). IsMore y.held (held_for h l c)) same (granted-more l.held (needs_of (map.get (edits_map l.edits h.cells)) l.own c)))
        by false f = (k, live, λ r m i. i)

pub given-more : (xs : List (TransId × Call)) (h : Holder) → HoldsMore h (holder_granted h xs)
given-more [] h = more-itself h
given-more (x ∷ xs) h = more-through h (grants h x.0 x.1 (h.lives x.0)) (holder_granted (grants h x.0 x.1 (h.lives x.0)) xs) (grants-more h x.0 x.1) (given-more xs (grants h x.0 x.1 (h.lives x.0)))

-- a part that is granted nothing stays as it was
pub grants-others : (h : Holder) (t : TransId) (c : Call) (u : TransId) → same_trans u t ≡ false → (grants h t c (h.lives t)).lives u ≡ h.lives u
grants-others h t c u away = go (h.lives t)
  where
    go : (x : Option Life) → (grants h t c x).lives u ≡ h.lives u
    go None = refl
    go (Some l) = ap (λ (b : Bool). cond {A = Option Life} b (Some (record l { held = held_for h l c })) (h.lives u)) away

abbrev pub AreAway : TransId → List TransId → Type 0
AreAway u ts = AllByRecursion (λ t. same_trans u t ≡ false) ts

pub given-others : (ws : List Waiting) (u : TransId) (ts : List TransId) (h : Holder) → AreAway u ts → (holder_granted h (granted_calls ws ts)).lives u ≡ h.lives u
given-others ws u [] h away = refl
given-others ws u (t ∷ ts) h away = go (call_on ws t) (λ m. given-others ws u ts m away.1)
  where
    go : (x : Option Call) → ((m : Holder) → (holder_granted m (granted_calls ws ts)).lives u ≡ m.lives u) → (holder_granted h (with_its t x ++ granted_calls ws ts)).lives u ≡ h.lives u
    go None rest = rest h
    go (Some c) rest = rest (grants h t c (h.lives t)) ∙ grants-others h t c u away.0

-- ---- a walk

-- the call of a waiting one, as it is found by its transaction
pub its-call : (ws : List Waiting) (w : Waiting) (t : TransId) → IsOnly ws w → file_trans w.call ≡ Some t → call_on ws t ≡ Some w.call
its-call ws w t only of = ap call_of (only.by_trans t of)

pub calls-first : (ws : List Waiting) (t : TransId) (c : Call) (ts : List TransId) → call_on ws t ≡ Some c → granted_calls ws (t ∷ ts) ≡ (t, c) ∷ granted_calls ws ts
calls-first ws t c ts is = ap (λ (x : Option Call). with_its t x ++ granted_calls ws ts) is

-- a transaction has its call whether it is granted or not
call-granted : (u t : TransId) (ws : List Waiting) → call_on (list_map (grant_in u) ws) t ≡ call_on ws t
call-granted u t [] = refl
call-granted u t (w ∷ ws) = go (is_of u (file_trans w.call)) (call-granted u t ws)
  where
    either : (d : Bool) (v : Waiting) → v.call ≡ w.call → call_on (list_map (grant_in u) ws) t ≡ call_on ws t
        → call_of (cond {A = Option Waiting} d (Some v) (find (is_on_trans t) (list_map (grant_in u) ws))) ≡ call_of (cond {A = Option Waiting} d (Some w) (find (is_on_trans t) ws))
    either true v same rest = ap Some same
    either false v same rest = rest

    go : (b : Bool) → call_on (list_map (grant_in u) ws) t ≡ call_on ws t → call_on (cond {A = Waiting} b (record w { is_granted = true }) w ∷ list_map (grant_in u) ws) t ≡ call_on (w ∷ ws) t
    go true rest = either (is_on_trans t w) (record w { is_granted = true }) refl rest
    go false rest = either (is_on_trans t w) w refl rest

pub calls-granted : (u : TransId) (ws : List Waiting) (ts : List TransId) → granted_calls (list_map (grant_in u) ws) ts ≡ granted_calls ws ts
calls-granted u ws [] = refl
calls-granted u ws (t ∷ ts) = (λ i. with_its t (call-granted u t ws i) ++ calls-granted u ws ts i)

-- what is true of who waited and was granted nothing
abbrev pub IsPassed : Holder → List TransId → Waiting → Type 0
IsPassed h ts w = (t : TransId) → file_trans w.call ≡ Some t → w.is_granted ≡ false → AreAway t ts → (l : Life) → h.lives t ≡ Some l → w.client ≡ l.client → IsFree h t l w.call → ⊥

pub walk-blocks : (all : List Waiting) (h : Holder) (ws : List Waiting) (ts : List TransId) → IsWalk h ws ts → AllByRecursion (IsOnly all) ws → AllByRecursion (IsPassed (holder_granted h (granted_calls all ts)) ts) ws
walk-blocks all h [] [] (IsWalk.ends _) only = tt
walk-blocks all h [] (u ∷ ts) walk only = elim walk [ ]
walk-blocks all h (w ∷ ws) ts (IsWalk.passes _ _ _ _ blocked rest) only = (
  λ t of wait away l live own free. blocked t l (record { call = of; ungranted = wait; live = sym (given-others all t ts h away) ∙ live; its = own })
      (free-below h (holder_granted h (granted_calls all ts)) (given-cells (granted_calls all ts) h) (given-more (granted_calls all ts) h) t l w.call free),
  walk-blocks all h ws ts rest only.1,
)
walk-blocks all h (w ∷ ws) (u ∷ ts) (IsWalk.takes _ _ _ _ _ k waits free rest) only =
    let first : granted_calls all (u ∷ ts) ≡ (u, w.call) ∷ granted_calls all ts = calls-first all u w.call ts (its-call all w u only.0 waits.call) in
    let then_on : Holder = holder_granted (grants h u w.call (h.lives u)) (granted_calls all ts) in
    let same : then_on ≡ holder_granted h (granted_calls all (u ∷ ts)) = ap (holder_granted h) (sym first) in
    subst (λ (m : Holder). AllByRecursion (IsPassed m (u ∷ ts)) (w ∷ ws)) same (
      λ t of wait away l live own free. (
          let is : t ≡ u = same-some t u (sym of ∙ waits.call) in
          let wrong : true ≡ false = sym (ap (same_trans t) (sym is) ∙ same_trans-itself t) ∙ away.0 in
          cc
          ),
      all-map (IsPassed then_on ts) (IsPassed then_on (u ∷ ts)) (λ v p t of wait away l live own free. p t of wait away.1 l live own free) ws (walk-blocks all (grants h u w.call (h.lives u)) ws ts rest only.1),
    )

-- the transactions of a walk are those of the calls that it grants
pub walk-firsts : (all : List Waiting) (h : Holder) (ws : List Waiting) (ts : List TransId) → IsWalk h ws ts → AllByRecursion (IsOnly all) ws → list_map (λ (x : TransId × Call). x.0) (granted_calls all ts) ≡ ts
walk-firsts all h [] [] (IsWalk.ends _) only = refl
walk-firsts all h [] (u ∷ ts) walk only = elim walk [ ]
walk-firsts all h (w ∷ ws) ts (IsWalk.passes _ _ _ _ blocked rest) only = walk-firsts all h ws ts rest only.1
walk-firsts all h (w ∷ ws) (u ∷ ts) (IsWalk.takes _ _ _ _ _ k waits free rest) only =
    ap (list_map (λ (x : TransId × Call). x.0)) (calls-first all u w.call ts (its-call all w u only.0 waits.call))
    ∙ ap (λ (vs : List TransId). u ∷ vs) (walk-firsts all (grants h u w.call (h.lives u)) ws ts rest only.1)

-- ---- when all are granted

-- as each is granted, who is left was passed over
pub left-blocked : (h : Holder) (xs : List (TransId × Call)) (ws : List Waiting) → AllByRecursion (IsPassed h (list_map (λ (x : TransId × Call). x.0) xs)) ws → AllByRecursion (IsPassed h []) (waits_granted ws xs)
left-blocked h [] ws passed = passed
left-blocked h (x ∷ xs) ws passed =
    left-blocked h xs (list_map (grant_in x.0) ws)
    (all-mapped (IsPassed h (x.0 ∷ list_map (λ (y : TransId × Call). y.0) xs)) (IsPassed h (list_map (λ (y : TransId × Call). y.0) xs)) (grant_in x.0) (λ w p. go w p (is_of x.0 (file_trans w.call)) refl) ws passed)
  where
    go : (w : Waiting) → IsPassed h (x.0 ∷ list_map (λ (y : TransId × Call). y.0) xs) w → (b : Bool) → is_of x.0 (file_trans w.call) ≡ b
        → IsPassed h (list_map (λ (y : TransId × Call). y.0) xs) (cond {A = Waiting} b (record w { is_granted = true }) w)
    go w p true e t of wait away l live own free = let wrong : true ≡ false = wait in cc
    go w p false e t of wait away l live own free = p t of wait (sym (ap (is_of x.0) of) ∙ e, away) l live own free

pub blocked-at : (s : State) (w : Waiting) → IsPassed s.holder [] w → IsBlocked s w (file_trans w.call)
blocked-at s w p = go (file_trans w.call) refl
  where
    go : (x : Option TransId) → file_trans w.call ≡ x → IsBlocked s w x
    go None e = tt
    go (Some t) e = λ wait l live own free. p t e wait tt l live own free
