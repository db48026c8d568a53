-- what a part lets go is given on: the grants of the walk are lawful and leave a quiet state
use Rattle.std.specs.Prelude.{cond, Bool, true, false, ◌||◌, is_none, find, flat_map, Option, None, Some, map as list_map}
use Rattle.std.specs.Option.{option_or}
use Rattle.std.specs.List.{list_any, AllByRecursion}
use Rattle.std.proofs.lemmas.List.{append-nil}
use Rattle.std.proofs.Common.{inl, inr, ◌≡◌, ℕ, ◌≤◌, List, [], ◌∷◌, ◌++◌, refl, sym, ◌∙◌, ap, subst}
use Rattle.alp_base.specs.declared.ids.JoinNo.{JoinNo}
use Rattle.alp_base.specs.declared.ids.TransId.{TransId}
use Rattle.alp_files.specs.Holdings.{DoAgree}
use Rattle.alp_files.proofs.HoldingLemmas.{agree-turned}
use Rattle.alp_files.proofs.FilesLemmas.{same-some}
use Rattle.alp_files.specs.declared.call.Call.{Call}
use Rattle.alp_journal.specs.declared.act.Act.{Act}
use Rattle.alp_journal.specs.declared.act.Act.TheVariants as act
use Rattle.alp_journal.specs.declared.event.Event.{Event}
use Rattle.alp_journal.specs.Along.{Along, state_after}
use Rattle.alp_journal.specs.Ids.{same_trans}
use Rattle.alp_journal.specs.Deeds.{Deed, Grants}
use Rattle.alp_journal.specs.Holder.{Holder, Life, held_for, grants}
use Rattle.alp_journal.specs.Counts.{lock_set, with_resources, request_in}
use Rattle.alp_journal.specs.Desk.{Waiting, file_trans, is_of_part, waiting_of, grant_in}
use Rattle.alp_journal.specs.State.{State, state_deed}
use Rattle.alp_journal.specs.Moves.{ungranted, call_now, asks_for, grants_to, act_deeds}
use Rattle.alp_journal.specs.Laws.{IsLawfulDeed, IsFree, IsBlocked, IsOpenPart, DoLivesAgree, WaitsInTurn, ended_by, granted_by, grants_of, SaysRight}
use Rattle.alp_journal.specs.Answered.{IsWalk, in_turn, is_conversion}
use Rattle.alp_journal.specs.Account.{Account, state_of, IsPartAs, IsSettled, IsQuiet, HasTried, IsPartOf, IsOfPart, IsOther, HasCome, HasWaits, granted_calls, holder_granted, waits_granted, with_granted, grant_acts, grant_deeds}
use Rattle.alp_journal.proofs.IdLemmas.{same_trans-true}
use Rattle.alp_journal.proofs.MadeIds.{all-map}
use Rattle.alp_journal.proofs.WaitLemmas.{IsOnly, each-only, by_part, found-none, all-both, all-turned, all-turned-back, all-granted, apart-granted}
use Rattle.alp_journal.proofs.TurnLemmas.{IsPassed, its-call, calls-first, walk-blocks, walk-firsts, left-blocked, blocked-at}
use Rattle.alp_journal.proofs.StandLemmas.{running_of, part-like, paired_kept, held_kept, pair_of}
use Rattle.alp_journal.proofs.QuietLemmas.{agree_set, AreOfParts, parts-kept, waits-granted, still-none}

-- ---- acts and deeds that are grants

pub none-by-grants : {B : Type 0} (f : Act → List B) → ((t : TransId) → f (act.Granted t) ≡ []) → (ts : List TransId) → flat_map f (grant_acts ts) ≡ []
none-by-grants f none [] = refl
none-by-grants f none (t ∷ ts) = ap (λ bs. bs ++ flat_map f (grant_acts ts)) (none t) ∙ none-by-grants f none ts

pub no-grant-is : (p : Act → Bool) → ((t : TransId) → p (act.Granted t) ≡ false) → (ts : List TransId) → list_any p (grant_acts ts) ≡ false
no-grant-is p none [] = refl
no-grant-is p none (t ∷ ts) = ap (λ (b : Bool). b || list_any p (grant_acts ts)) (none t) ∙ no-grant-is p none ts

pub acts-grant : (ts : List TransId) → flat_map granted_by (grant_acts ts) ≡ ts
acts-grant [] = refl
acts-grant (t ∷ ts) = ap (λ us. t ∷ us) (acts-grant ts)

pub deeds-grant : (xs : List (TransId × Call)) → flat_map grants_of (grant_deeds xs) ≡ list_map (λ (x : TransId × Call). x.0) xs
deeds-grant [] = refl
deeds-grant (x ∷ xs) = ap (λ us. x.0 ∷ us) (deeds-grant xs)

pub grants-end-none : (s : State) (xs : List (TransId × Call)) → flat_map (ended_by s) (grant_deeds xs) ≡ []
grants-end-none s [] = refl
grants-end-none s (x ∷ xs) = grants-end-none s xs

pub grants-say : (e : Event) (m : State) (ts : List TransId) → AllByRecursion (SaysRight e m) (grant_acts ts)
grants-say e m [] = tt
grants-say e m (t ∷ ts) = (tt, grants-say e m ts)

-- ---- each is free as it is granted

pub record IsFreeNow (h : Holder) (x : TransId × Call) : Type 0 where
  pub life : Life
  pub live : h.lives x.0 ≡ Some life
  pub free : IsFree h x.0 life x.1

abbrev pub AreFree : Holder → List (TransId × Call) → Type 0
AreFree h [] = Unit {0}
AreFree h (x ∷ xs) = IsFreeNow h x × AreFree (grants h x.0 x.1 (h.lives x.0)) xs

pub walk-free : (all : List Waiting) (h : Holder) (ws : List Waiting) (ts : List TransId) → IsWalk h ws ts → AllByRecursion (IsOnly all) ws → AreFree h (granted_calls all ts)
walk-free all h [] [] (IsWalk.ends _) only = tt
walk-free all h [] (u ∷ ts) walk only = elim walk [ ]
walk-free all h (w ∷ ws) ts (IsWalk.passes _ _ _ _ blocked rest) only = walk-free all h ws ts rest only.1
walk-free all h (w ∷ ws) (u ∷ ts) (IsWalk.takes _ _ _ _ _ k waits free rest) only =
    subst (AreFree h) (sym (calls-first all u w.call ts (its-call all w u only.0 waits.call)))
    (record { life = k; live = waits.live; free = free }, walk-free all (grants h u w.call (h.lives u)) ws ts rest only.1)

-- ---- one grant

pub agree-granted : (h : Holder) (t : TransId) (l : Life) (c : Call) → h.lives t ≡ Some l → IsFree h t l c → DoLivesAgree h.lives → DoLivesAgree (grants h t c (h.lives t)).lives
agree-granted h t l c live free agree =
    subst (λ (x : Option Life). DoLivesAgree (grants h t c x).lives) (sym live)
    (agree_set h.lives t (Some (record l { held = held_for h l c })) agree
    (λ x is u k away there. subst (λ (y : Life). DoAgree y.held k.held) (same-some (record l { held = held_for h l c }) x is) (λ r. agree-turned (held_for h l c r) (k.held r) ∙ free u k there away r)))

-- the part has not voted
abbrev pub IsUnvoted : Holder → TransId → Type 0
IsUnvoted h t = (l : Life) → h.lives t ≡ Some l → l.vote ≡ None

unvoted-granted : (h : Holder) (t : TransId) (l : Life) (c : Call) → h.lives t ≡ Some l → (u : TransId) → IsUnvoted h u → IsUnvoted (grants h t c (h.lives t)) u
unvoted-granted h t l c live u all = subst (λ (x : Option Life). IsUnvoted (grants h t c x) u) (sym live) (λ k is. go k (same_trans u t) refl is)
  where
    go : (k : Life) (b : Bool) → same_trans u t ≡ b → cond {A = Option Life} b (Some (record l { held = held_for h l c })) (h.lives u) ≡ Some k → k.vote ≡ None
    go k true e is = ap (λ (x : Life). x.vote) (sym (same-some (record l { held = held_for h l c }) k is)) ∙ all l (ap h.lives (same_trans-true u t e) ∙ live)
    go k false e is = all k is

-- and the transaction runs, or its join was let in
abbrev pub IsOpenFor : Account → TransId → Type 0
IsOpenFor m t = IsOpenPart (state_of m) t × IsUnvoted m.holder t

abbrev pub AreOpen : Account → List (TransId × Call) → Type 0
AreOpen m xs = AllByRecursion (λ (x : TransId × Call). IsOpenFor m x.0) xs

module _ (m : Account) (x : TransId × Call) where
  -- the part is granted it
  abbrev granted_as_life : Option Life → Account
  granted_as_life y = record m { holder = grants m.holder x.0 x.1 y; locked = lock_set m.locked x.0 (with_resources (request_in m.holder x.1 y) (m.locked x.0)); waits = list_map (grant_in x.0) m.waits }

  pub settled-granted : IsSettled m → IsFreeNow m.holder x → IsSettled (with_granted m (x ∷ []))
  settled-granted q now = subst (λ (y : Option Life). IsSettled (granted_as_life y)) (sym now.live) (record {
    stands = record {
      agree = subst (λ (y : Option Life). DoLivesAgree (grants m.holder x.0 x.1 y).lives) now.live (agree-granted m.holder x.0 l x.1 now.live now.free q.stands.agree);
      paired = paired_kept m.phases m.holder.lives m.fates x.0 (Some under) q.stands.paired (part-like x.0 m.phases l under (m.fates x.0) refl refl refl refl refl (pair_of m q.stands x.0 l now.live));
      held = λ j. held_kept m.holder.lives x.0 l under now.live refl j (m.phases j) (q.stands.held j);
      votes = q.stands.votes;
      forgets = q.stands.forgets;
      fates = q.stands.fates;
      begun = q.stands.begun;
      known = q.stands.known;
      phases = q.stands.phases;
      joined = q.stands.joined;
      single = q.stands.single;
      order = q.stands.order;
    };
    tells = record {
      ended = q.tells.ended;
      parts = all-granted (λ (w : Waiting). IsOfPart (granted_as_life (Some now.life)).holder.lives m.dead w (file_trans w.call)) (λ w b h. part-granted w b (file_trans w.call) h) x.0 m.waits
          (parts-kept m.holder.lives m.dead x.0 l under now.live refl m.waits q.tells.parts);
      others = all-granted (λ (w : Waiting). IsOther m.fates m.phases m.dead w.client w.call) (λ w b h. h) x.0 m.waits q.tells.others;
      came = all-granted (λ (w : Waiting). HasCome w.number (m.sessions w.client)) (λ w b h. h) x.0 m.waits q.tells.came;
      apart = apart-granted x.0 m.waits q.tells.apart;
      joining = λ j. waits-granted x.0 m.waits (m.phases j) (q.tells.joining j);
      finishing = λ t. still-none x.0 m.waits t (m.fates t) (q.tells.finishing t);
    };
  })
    where
      l : Life
      l = now.life

      under : Life
      under = record now.life { held = held_for m.holder now.life x.1 }

      part-granted : (w : Waiting) (b : Bool) (y : Option TransId) → IsOfPart (granted_as_life (Some now.life)).holder.lives m.dead w y → IsOfPart (granted_as_life (Some now.life)).holder.lives m.dead (record w { is_granted = b }) y
      part-granted w b None h = h
      part-granted w b (Some u) h = h

  state-granted : state_deed (state_of m) (Grants x.0 x.1) ≡ state_of (with_granted m (x ∷ []))
  state-granted = λ i. state_of (record (with_granted m (x ∷ [])) { begun = append-nil m.begun i; joined = append-nil m.joined i })

  lawful-granted : (e : Event) → IsSettled m → IsFreeNow m.holder x → IsOpenFor m x.0 → IsLawfulDeed e (state_of m) (Grants x.0 x.1)
  lawful-granted e q now opens = record {
    counts = tt;
    view = tt;
    locks = (opens.1, agree-granted m.holder x.0 now.life x.1 now.live now.free q.stands.agree);
    running = opens.0;
    registration = tt;
    vote = tt;
    decision = tt;
    application = tt;
    forgetting = tt;
  }

-- ---- all of them

pub settled-given : (xs : List (TransId × Call)) (m : Account) → IsSettled m → AreFree m.holder xs → IsSettled (with_granted m xs)
settled-given [] m q free = q
settled-given (x ∷ xs) m q free = settled-given xs (with_granted m (x ∷ [])) (settled-granted m x q free.0) free.1

pub state-given : (xs : List (TransId × Call)) (m : Account) → state_after state_deed (state_of m) (grant_deeds xs) ≡ state_of (with_granted m xs)
state-given [] m = refl
state-given (x ∷ xs) m = ap (λ (s : State). state_after state_deed s (grant_deeds xs)) (state-granted m x) ∙ state-given xs (with_granted m (x ∷ []))

pub lawful-given : (e : Event) (xs : List (TransId × Call)) (m : Account) → IsSettled m → AreFree m.holder xs → AreOpen m xs → Along state_deed (IsLawfulDeed e) (state_of m) (grant_deeds xs)
lawful-given e [] m q free opens = tt
lawful-given e (x ∷ xs) m q free opens = (
  lawful-granted m x e q free.0 opens.0,
  subst (λ (s : State). Along state_deed (IsLawfulDeed e) s (grant_deeds xs)) (sym (state-granted m x)) (lawful-given e xs (with_granted m (x ∷ [])) (settled-granted m x q free.0) free.1
      (all-map (λ (y : TransId × Call). IsOpenFor m y.0) (λ (y : TransId × Call). IsOpenFor (with_granted m (x ∷ [])) y.0) (λ y o. (o.0, unvoted-granted m.holder x.0 free.0.life x.1 free.0.live y.0 o.1)) xs opens.1)),
)

-- one more after those
pub given-last : (xs : List (TransId × Call)) (x : TransId × Call) (m : Account) → with_granted m (xs ++ x ∷ []) ≡ with_granted (with_granted m xs) (x ∷ [])
given-last [] x m = refl
given-last (y ∷ ys) x m = given-last ys x (with_granted m (y ∷ []))

-- ---- who lives then

-- who lives then lived before
abbrev pub LivedBefore : Holder → Holder → Type 0
LivedBefore before h = (u : TransId) (k : Life) → h.lives u ≡ Some k → (j : Life) × (before.lives u ≡ Some j)

lived-granted : (before h : Holder) (t : TransId) (c : Call) (l : Life) → h.lives t ≡ Some l → LivedBefore before h → LivedBefore before (grants h t c (h.lives t))
lived-granted before h t c l live was = subst (λ (x : Option Life). LivedBefore before (grants h t c x)) (sym live) (λ u k is. go u k (same_trans u t) refl is)
  where
    go : (u : TransId) (k : Life) (b : Bool) → same_trans u t ≡ b → cond {A = Option Life} b (Some (record l { held = held_for h l c })) (h.lives u) ≡ Some k → (j : Life) × (before.lives u ≡ Some j)
    go u k true e is = was u l (ap h.lives (same_trans-true u t e) ∙ live)
    go u k false e is = was u k is

-- ---- the part of a call that waits is open

-- the part of this call, if it lives, is open
abbrev pub IsOpenCall : Account → Waiting → Type 0
IsOpenCall m w = (u : TransId) (k : Life) → file_trans w.call ≡ Some u → m.holder.lives u ≡ Some k → IsOpenFor m u

module _ (m : Account) (q : IsSettled m) where
  open_call : (w : Waiting) → IsOnly m.waits w → IsOfPart m.holder.lives m.dead w (file_trans w.call) → IsOpenCall m w
  open_call w only part u k of live = by k.join refl (pair_of m q.stands u k live)
    where
      its : w.client ≡ k.client
      its = subst (λ (x : Option Life). IsPartOf w.client x (m.dead w.client u)) live (subst (IsOfPart m.holder.lives m.dead w) of part)

      unvoted : k.vote ≡ None → IsUnvoted m.holder u
      unvoted is l there = ap (λ (x : Life). x.vote) (same-some l k (sym there ∙ live)) ∙ is

      found : find (is_of_part k.client u) m.waits ≡ Some w
      found = ap (λ (n : ℕ). find (is_of_part n u) m.waits) (sym its) ∙ by_part m.waits w only u of

      by : (x : Option JoinNo) → k.join ≡ x → IsPartAs u m.phases k (m.fates u) x → IsOpenFor m u
      by None e h = (inl (running_of (m.fates u) k.client h.0), unvoted h.1)
      by (Some j) e h = elim h.0 [
        | inl active ↦ (inr (j, k.client, k.who, active.0), unvoted active.1)
        | inr ready ↦ absurd (
            let none : find (is_of_part k.client u) m.waits ≡ None = found-none (is_of_part k.client u) m.waits (subst (HasWaits m.waits) ready.1 (q.tells.joining j)) in
            let wrong : Some w ≡ None = sym found ∙ none in
            cc
            )
      ]

  pub open_calls : AllByRecursion (IsOpenCall m) m.waits
  open_calls = all-both (IsOnly m.waits) (λ (w : Waiting). IsOfPart m.holder.lives m.dead w (file_trans w.call)) (IsOpenCall m) (λ w only part. open_call w only part) m.waits (each-only m.waits q.tells.apart) q.tells.parts

walk-open : (m : Account) (all : List Waiting) (h : Holder) (ws : List Waiting) (ts : List TransId) → LivedBefore m.holder h → IsWalk h ws ts → AllByRecursion (IsOnly all) ws → AllByRecursion (IsOpenCall m) ws → AreOpen m (granted_calls all ts)
walk-open m all h [] [] was (IsWalk.ends _) only opens = tt
walk-open m all h [] (u ∷ ts) was walk only opens = elim walk [ ]
walk-open m all h (w ∷ ws) ts was (IsWalk.passes _ _ _ _ blocked rest) only opens = walk-open m all h ws ts was rest only.1 opens.1
walk-open m all h (w ∷ ws) (u ∷ ts) was (IsWalk.takes _ _ _ _ _ k waits free rest) only opens =
    let (j, is) = was u k waits.live in
    subst (AreOpen m) (sym (calls-first all u w.call ts (its-call all w u only.0 waits.call)))
    (opens.0 u j waits.call is, walk-open m all (grants h u w.call (h.lives u)) ws ts (lived-granted m.holder h u w.call k waits.live was) rest only.1 opens.1)

-- ---- a walk

module _ (m : Account) (ts : List TransId) (q : IsSettled m) (walk : IsWalk m.holder (in_turn m.holder m.waits) ts) where
  abbrev given : List (TransId × Call)
  given = granted_calls m.waits ts

  each_only : AllByRecursion (IsOnly m.waits) m.waits
  each_only = each-only m.waits q.tells.apart

  abbrev converts : Waiting → Bool
  converts w = is_conversion m.holder w (file_trans w.call)

  only_in_turn : AllByRecursion (IsOnly m.waits) (in_turn m.holder m.waits)
  only_in_turn = all-turned (IsOnly m.waits) converts m.waits each_only

  pub walk-is-free : AreFree m.holder given
  walk-is-free = walk-free m.waits m.holder (in_turn m.holder m.waits) ts walk only_in_turn

  pub walk-is-open : AreOpen m given
  walk-is-open = walk-open m m.waits m.holder (in_turn m.holder m.waits) ts (λ u k is. (k, is)) walk only_in_turn (all-turned (IsOpenCall m) converts m.waits (open_calls m q))

  pub walk-grants : list_map (λ (x : TransId × Call). x.0) given ≡ ts
  walk-grants = walk-firsts m.waits m.holder (in_turn m.holder m.waits) ts walk only_in_turn

  -- nobody is left waiting whose way is free
  turns-given : WaitsInTurn (state_of (with_granted m given))
  turns-given = all-map (IsPassed (holder_granted m.holder given) []) (λ (w : Waiting). IsBlocked (state_of (with_granted m given)) w (file_trans w.call)) (λ w p. blocked-at (state_of (with_granted m given)) w p) (waits_granted m.waits given)
      (left-blocked (holder_granted m.holder given) given m.waits
      (subst (λ (us : List TransId). AllByRecursion (IsPassed (holder_granted m.holder given) us) m.waits) (sym walk-grants)
      (all-turned-back (IsPassed (holder_granted m.holder given) ts) converts m.waits (walk-blocks m.waits m.holder (in_turn m.holder m.waits) ts walk only_in_turn))))

  pub quiet-given : m.pending ≡ [] → IsQuiet (with_granted m given)
  quiet-given none = record { settled = settled-given given m q walk-is-free; turns = turns-given; tried = HasTried.nothing none }

  pub lawful-walk : (e : Event) → Along state_deed (IsLawfulDeed e) (state_of m) (grant_deeds given)
  lawful-walk e = lawful-given e given m q walk-is-free walk-is-open

  -- what its acts say
  pub granted-all : flat_map granted_by (grant_acts ts) ≡ flat_map grants_of (grant_deeds given)
  granted-all = acts-grant ts ∙ sym walk-grants ∙ sym (deeds-grant given)

-- ---- which calls the acts grant

module _ (a : Account) (e : Event) (no_call : (t : TransId) (owner : ℕ) → call_now e t owner ≡ None) where
  asked-one : (w : Waiting) (u : TransId) (j : Life) → IsOnly a.waits w → file_trans w.call ≡ Some u → w.is_granted ≡ false → w.client ≡ j.client → a.holder.lives u ≡ Some j → act_deeds (state_of a) e (act.Granted u) ≡ Grants u w.call ∷ []
  asked-one w u j only of wait own is =
      ap (λ (x : Option Life). grants_to u (asks_for (state_of a) e u x)) is
      ∙ ap (λ (x : Option Call). grants_to u (option_or (ungranted (waiting_of (state_of a).desk j.client u)) x)) (no_call u j.client)
      ∙ ap (λ (x : Option Waiting). grants_to u (option_or (ungranted x) None)) (ap (λ (n : ℕ). waiting_of (state_of a).desk n u) (sym own) ∙ by_part a.waits w only u of)
      ∙ ap (λ (b : Bool). grants_to u (option_or (cond {A = Option Call} (b || is_none (file_trans w.call)) None (Some w.call)) None)) wait
      ∙ ap (λ (x : Option TransId). grants_to u (option_or (cond {A = Option Call} (is_none x) None (Some w.call)) None)) of

  part-of : (w : Waiting) (u : TransId) (j : Life) → IsOfPart a.holder.lives a.dead w (file_trans w.call) → file_trans w.call ≡ Some u → a.holder.lives u ≡ Some j → w.client ≡ j.client
  part-of w u j part of is = subst (λ (x : Option Life). IsPartOf w.client x (a.dead w.client u)) is (subst (IsOfPart a.holder.lives a.dead w) of part)

  asked-walk : (h : Holder) (ws : List Waiting) (ts : List TransId) → LivedBefore a.holder h → IsWalk h ws ts → AllByRecursion (IsOnly a.waits) ws → AreOfParts a.holder.lives a.dead ws
      → flat_map (act_deeds (state_of a) e) (grant_acts ts) ≡ grant_deeds (granted_calls a.waits ts)
  asked-walk h [] [] was (IsWalk.ends _) only parts = refl
  asked-walk h [] (u ∷ ts) was walk only parts = elim walk [ ]
  asked-walk h (w ∷ ws) ts was (IsWalk.passes _ _ _ _ blocked rest) only parts = asked-walk h ws ts was rest only.1 parts.1
  asked-walk h (w ∷ ws) (u ∷ ts) was (IsWalk.takes _ _ _ _ _ k waits free rest) only parts =
      let (j, is) = was u k waits.live in
      ap (λ (ds : List Deed). ds ++ flat_map (act_deeds (state_of a) e) (grant_acts ts)) (asked-one w u j only.0 waits.call waits.ungranted (part-of w u j parts.0 waits.call is) is)
      ∙ ap (λ (ds : List Deed). Grants u w.call ∷ ds) (asked-walk (grants h u w.call (h.lives u)) ws ts (lived-granted a.holder h u w.call k waits.live was) rest only.1 parts.1)
      ∙ ap grant_deeds (sym (calls-first a.waits u w.call ts (its-call a.waits w u only.0 waits.call)))

  -- the grants of a walk are of the calls that waited before the entry
  pub asked-given : (h : Holder) (ts : List TransId) → IsSettled a → LivedBefore a.holder h → IsWalk h (in_turn h a.waits) ts → flat_map (act_deeds (state_of a) e) (grant_acts ts) ≡ grant_deeds (granted_calls a.waits ts)
  asked-given h ts q was walk =
      asked-walk h (in_turn h a.waits) ts was walk
      (all-turned (IsOnly a.waits) (λ w. is_conversion h w (file_trans w.call)) a.waits (each-only a.waits q.tells.apart))
      (all-turned (λ (w : Waiting). IsOfPart a.holder.lives a.dead w (file_trans w.call)) (λ w. is_conversion h w (file_trans w.call)) a.waits q.tells.parts)
