-- walks over the live joins, and over all joins of the journal
use Rattle.std.specs.Prelude.{cond, Bool, true, false, not, ◌&&◌, ◌||◌, find, filter, flat_map, Option, None, Some, is_some, map as list_map}
use Rattle.std.specs.List.Sorted.{IsPermutation}
use Rattle.std.specs.Option.{option_or, option_map, option_and_then}
use Rattle.std.proofs.Common.{◌≡◌, ℕ, ◌+◌, ◌≤◌, List, [], ◌∷◌, ◌++◌, length, refl, sym, ◌∙◌, ap, subst}
use Rattle.std.proofs.lemmas.Bool.{and_parts, not-true}
use Rattle.std.proofs.lemmas.List.{append-nil, length-map}
use Rattle.std.proofs.lemmas.List.Concat.{flat_map-append}
use Rattle.std.proofs.lemmas.List.Folds.{find-append}
use Rattle.std.proofs.lemmas.List.Sorted.{length_permutation}
use Rattle.alp_base.specs.declared.ids.JoinNo.{JoinNo}
use Rattle.alp_base.specs.declared.ids.TransId.{TransId}
use Rattle.alp_files.specs.declared.refusal.Cause.TheVariants as cause
use Rattle.alp_journal.specs.Deeds.{Quits}
use Rattle.alp_journal.specs.Ids.{same_trans, same_join, has_join}
use Rattle.alp_journal.specs.Laws.{are_joins_apart}
use Rattle.alp_journal.specs.Messages.{Mail, trans_ready, register_again, inquire_again}
use Rattle.alp_journal.specs.Moves.{if_its}
use Rattle.alp_journal.specs.Participant.{Phase, Unseen, Joining, Active, Ready, Applied, Over, live_in, open_in}
use Rattle.alp_journal.specs.State.{is_whose}
use Rattle.alp_journal.specs.declared.message.Message.{Message}
use Rattle.alp_journal.specs.declared.message.Message.TheVariants as msg
use Rattle.alp_journal.proofs.IdLemmas.{same_join-true, same_trans-true}
use Rattle.alp_worker.specs.Again.{mail, mails, addressed, register_of, inquiry_of, register_at, inquiry_at}
use Rattle.alp_worker.specs.Joins.{AreJoins}
use Rattle.alp_worker.specs.Lives.{live_at, phase_in, phase_of, is_at, join_at, is_part, part_of, number_in, is_open, AreOnce}
use Rattle.alp_worker.specs.Walks.{is_open_of, open_of, timed_out}
use Rattle.alp_worker.specs.declared.joins.Joins.{Joins}
use Rattle.alp_worker.specs.declared.live.LiveJoin.{LiveJoin}
use Rattle.alp_worker.specs.declared.live.Stage.{Stage}
use Rattle.alp_worker.specs.declared.live.Stage.TheVariants as stage
use Rattle.alp_worker.proofs.ListLemmas.{some-apart, find_first, first_map, first_of_list, filter_walk, filter_each, walk_same, walk_map, walk_lone, short_same}
use Rattle.alp_worker.proofs.LiveLemmas.{same_join-itself, same_join-turned, same_walk, found_once}

-- ---- what is live of the journal's joins

-- of one join, and of all
abbrev pub kept : Option LiveJoin → List LiveJoin
kept None = []
kept (Some l) = l ∷ []

abbrev pub known_lives : (JoinNo → Phase) → List JoinNo → List LiveJoin
known_lives phases js = flat_map (λ j. kept (live_at j (phases j))) js

pub live-none : (j : JoinNo) (p : Phase) → is_some (live_in p) ≡ false → live_at j p ≡ None
live-none j (Joining t client who) h = cc
live-none j (Active t client who) h = cc
live-none j (Ready t client ts) h = cc
live-none j Unseen h = refl
live-none j (Applied t stamp) h = refl
live-none j Over h = refl

none-some : {A : Type 0} (o : Option A) → o ≡ None → is_some o ≡ false
none-some o e = ap is_some e

-- what is kept of a join has its number
kept_join : (j : JoinNo) (p : Phase) (l : LiveJoin) → live_at j p ≡ Some l → l.join ≡ j
kept_join j (Joining t client who) l h = ap number (sym h)
  where
    number : Option LiveJoin → JoinNo
    number None = j
    number (Some x) = x.join
kept_join j (Active t client who) l h = ap number (sym h)
  where
    number : Option LiveJoin → JoinNo
    number None = j
    number (Some x) = x.join
kept_join j (Ready t client ts) l h = ap number (sym h)
  where
    number : Option LiveJoin → JoinNo
    number None = j
    number (Some x) = x.join
kept_join j Unseen l h = some-apart _ l (sym h)
kept_join j (Applied t stamp) l h = some-apart _ l (sym h)
kept_join j Over l h = some-apart _ l (sym h)

kept_other : (i j : JoinNo) (o : Option LiveJoin) → ((l : LiveJoin) → o ≡ Some l → l.join ≡ j) → same_join i j ≡ false → join_at (kept o) i ≡ None
kept_other i j None h e = refl
kept_other i j (Some l) h e = ap (λ (b : Bool). cond {A = Option LiveJoin} b (Some l) None) (ap (same_join i) (h l refl) ∙ e)

kept_own : (j : JoinNo) (o : Option LiveJoin) → ((l : LiveJoin) → o ≡ Some l → l.join ≡ j) → join_at (kept o) j ≡ o
kept_own j None h = refl
kept_own j (Some l) h = ap (λ (b : Bool). cond {A = Option LiveJoin} b (Some l) None) (ap (same_join j) (h l refl) ∙ same_join-itself j)

or-itself : {A : Type 0} (o : Option A) (b : Bool) → option_or o (cond b o None) ≡ o
or-itself None true = refl
or-itself None false = refl
or-itself (Some x) b = refl

pub known_at : (phases : JoinNo → Phase) (js : List JoinNo) (i : JoinNo) → join_at (known_lives phases js) i ≡ cond {A = Option LiveJoin} (has_join i js) (live_at i (phases i)) None
known_at phases [] i = refl
known_at phases (j ∷ js) i =
    find-append (is_at i) (kept (live_at j (phases j))) (known_lives phases js)
    ∙ ap (option_or (join_at (kept (live_at j (phases j))) i)) (known_at phases js i) ∙ go (same_join j i) refl
  where
    go : (b : Bool) → same_join j i ≡ b → option_or (join_at (kept (live_at j (phases j))) i) (cond {A = Option LiveJoin} (has_join i js) (live_at i (phases i)) None) ≡ cond {A = Option LiveJoin} (b || has_join i js) (live_at i (phases i)) None
    go true e =
        ap (λ (k : JoinNo). option_or (join_at (kept (live_at k (phases k))) i) (cond {A = Option LiveJoin} (has_join i js) (live_at i (phases i)) None)) (same_join-true j i e)
        ∙ ap (λ (o : Option LiveJoin). option_or o (cond {A = Option LiveJoin} (has_join i js) (live_at i (phases i)) None)) (kept_own i (live_at i (phases i)) (kept_join i (phases i)))
        ∙ or-itself (live_at i (phases i)) (has_join i js)
    go false e =
        ap (λ (o : Option LiveJoin). option_or o (cond {A = Option LiveJoin} (has_join i js) (live_at i (phases i)) None))
        (kept_other i j (live_at j (phases j)) (kept_join j (phases j)) (same_join-turned i j ∙ e))

pub once_known : (phases : JoinNo → Phase) (js : List JoinNo) → are_joins_apart js ≡ true → AreOnce (known_lives phases js)
once_known phases [] h = tt
once_known phases (j ∷ js) h = go (live_at j (phases j)) (kept_join j (phases j)) (once_known phases js parts.1)
  where
    parts : (not (has_join j js) ≡ true) × (are_joins_apart js ≡ true)
    parts = and_parts (not (has_join j js)) (are_joins_apart js) h

    none : join_at (known_lives phases js) j ≡ None
    none = known_at phases js j ∙ ap (λ (b : Bool). cond {A = Option LiveJoin} b (live_at j (phases j)) None) (not-true (has_join j js) parts.0)

    go : (o : Option LiveJoin) → ((l : LiveJoin) → o ≡ Some l → l.join ≡ j) → AreOnce (known_lives phases js) → AreOnce (kept o ++ known_lives phases js)
    go None its rest = rest
    go (Some l) its rest = (ap (join_at (known_lives phases js)) (its l refl) ∙ none, rest)

-- ---- walks

-- what a join comes to that is not live
abbrev pub IsSilent : {A : Type 0} → (JoinNo → Phase → List A) → Type 0
IsSilent f = (j : JoinNo) (p : Phase) → live_in p ≡ None → f j p ≡ []

module _ {A : Type 0} (f : JoinNo → Phase → List A) (silent : IsSilent f) where
  walk_one : (j : JoinNo) (p : Phase) → f j p ≡ flat_map (λ (l : LiveJoin). f l.join (phase_of l)) (kept (live_at j p))
  walk_one j (Joining t client who) = sym (append-nil (f j (Joining t client who)))
  walk_one j (Active t client who) = sym (append-nil (f j (Active t client who)))
  walk_one j (Ready t client ts) = sym (append-nil (f j (Ready t client ts)))
  walk_one j Unseen = silent j Unseen refl
  walk_one j (Applied t stamp) = silent j (Applied t stamp) refl
  walk_one j Over = silent j Over refl

  walk_known : (phases : JoinNo → Phase) (js : List JoinNo) → flat_map (λ j. f j (phases j)) js ≡ flat_map (λ (l : LiveJoin). f l.join (phase_of l)) (known_lives phases js)
  walk_known phases [] = refl
  walk_known phases (j ∷ js) =
      ap (λ ys. ys ++ flat_map (λ j. f j (phases j)) js) (walk_one j (phases j))
      ∙ ap (λ ys. flat_map (λ (l : LiveJoin). f l.join (phase_of l)) (kept (live_at j (phases j))) ++ ys) (walk_known phases js)
      ∙ sym (flat_map-append (λ (l : LiveJoin). f l.join (phase_of l)) (kept (live_at j (phases j))) (known_lives phases js))

  -- over the journal's joins it comes to what it comes to over those that are kept
  pub walks : (here epoch drawn : ℕ) (phases : JoinNo → Phase) (joined : List JoinNo) (k : Joins) → AreJoins here epoch drawn phases joined k
      → IsPermutation (flat_map (λ j. f j (phases j)) joined) (flat_map (λ (l : LiveJoin). f l.join (phase_of l)) k.lives)
  walks here epoch drawn phases joined k h =
      subst (λ us. IsPermutation us (flat_map (λ (l : LiveJoin). f l.join (phase_of l)) k.lives)) (sym (walk_known phases joined))
      (same_walk (λ (l : LiveJoin). f l.join (phase_of l)) (known_lives phases joined) k.lives (once_known phases joined h.apart) h.once (λ i. known_at phases joined i ∙ all i ∙ sym (h.live i)))
    where
      go : (i : JoinNo) (b c : Bool) → has_join i joined ≡ b → is_some (live_in (phases i)) ≡ c → cond {A = Option LiveJoin} b (live_at i (phases i)) None ≡ live_at i (phases i)
      go i true c e f = refl
      go i false false e f = sym (live-none i (phases i) f)
      go i false true e f = let wrong : false ≡ true = sym e ∙ h.known i f in cc

      all : (i : JoinNo) → cond {A = Option LiveJoin} (has_join i joined) (live_at i (phases i)) None ≡ live_at i (phases i)
      all i = go i (has_join i joined) (is_some (live_in (phases i))) refl refl

-- ---- how many are live

live_itself : (t : TransId) (client : ℕ) (s : Stage) → live_in (phase_in t client s) ≡ Some (t, client)
live_itself t client (stage.Joining who) = refl
live_itself t client (stage.Active who) = refl
live_itself t client (stage.Ready ts) = refl

if-live : (j : JoinNo) (p : Phase) → live_in p ≡ None → cond (is_some (live_in p)) (j ∷ []) [] ≡ []
if-live j p e = ap (λ (o : Option (TransId × ℕ)). cond (is_some o) (j ∷ []) []) e

pub live_count : (here epoch drawn : ℕ) (phases : JoinNo → Phase) (joined : List JoinNo) (k : Joins) → AreJoins here epoch drawn phases joined k
    → length k.lives ≡ length (filter (λ j. is_some (live_in (phases j))) joined)
live_count here epoch drawn phases joined k h =
    sym (length-map k.lives (λ (l : LiveJoin). l.join))
    ∙ ap length (sym (walk_lone (λ (l : LiveJoin). l.join) k.lives))
    ∙ ap length (walk_same (λ (l : LiveJoin). l.join ∷ []) (λ (l : LiveJoin). cond (is_some (live_in (phase_of l))) (l.join ∷ []) []) (λ l. sym (ap (λ (o : Option (TransId × ℕ)). cond (is_some o) (l.join ∷ []) []) (live_itself l.trans l.client l.stage))) k.lives)
    ∙ length_permutation _ _ (walks (λ j p. cond (is_some (live_in p)) (j ∷ []) []) if-live here epoch drawn phases joined k h)
    ∙ ap length (filter_walk (λ j. is_some (live_in (phases j))) joined)

-- ---- a client's part

if-whose : (client : ℕ) (t : TransId) (j : JoinNo) (p : Phase) → live_in p ≡ None → cond (is_whose client t (live_in p)) (j ∷ []) [] ≡ []
if-whose client t j p e = ap (λ (o : Option (TransId × ℕ)). cond (is_whose client t o) (j ∷ []) []) e

parts_walk : (client : ℕ) (t : TransId) (ls : List LiveJoin) → flat_map (λ (l : LiveJoin). cond (is_whose client t (live_in (phase_of l))) (l.join ∷ []) []) ls ≡ list_map (λ (l : LiveJoin). l.join) (filter (is_part client t) ls)
parts_walk client t [] = refl
parts_walk client t (l ∷ ls) =
    ap (λ (o : Option (TransId × ℕ)). cond (is_whose client t o) (l.join ∷ []) [] ++ flat_map (λ (l : LiveJoin). cond (is_whose client t (live_in (phase_of l))) (l.join ∷ []) []) ls) (live_itself l.trans l.client l.stage)
    ∙ go (is_part client t l) (parts_walk client t ls)
  where
    go : (b : Bool) → flat_map (λ (l : LiveJoin). cond (is_whose client t (live_in (phase_of l))) (l.join ∷ []) []) ls ≡ list_map (λ (l : LiveJoin). l.join) (filter (is_part client t) ls)
        → cond b (l.join ∷ []) [] ++ flat_map (λ (l : LiveJoin). cond (is_whose client t (live_in (phase_of l))) (l.join ∷ []) []) ls ≡ list_map (λ (l : LiveJoin). l.join) (cond b (l ∷ filter (is_part client t) ls) (filter (is_part client t) ls))
    go true e = ap (λ ys. l.join ∷ ys) e
    go false e = e

number-map : (o : Option LiveJoin) → option_map (λ (l : LiveJoin). l.join) o ≡ number_in o
number-map None = refl
number-map (Some l) = refl

pub part_number : (client : ℕ) (t : TransId) (here epoch drawn : ℕ) (phases : JoinNo → Phase) (joined : List JoinNo) (k : Joins) → AreJoins here epoch drawn phases joined k
    → number_in (part_of client t k.lives) ≡ find (λ j. is_whose client t (live_in (phases j))) joined
part_number client t here epoch drawn phases joined k h =
    sym (number-map (part_of client t k.lives))
    ∙ ap (option_map (λ (l : LiveJoin). l.join)) (find_first (is_part client t) k.lives)
    ∙ sym (first_map (λ (l : LiveJoin). l.join) (filter (is_part client t) k.lives))
    ∙ ap first_of_list (sym same)
    ∙ sym (find_first (λ j. is_whose client t (live_in (phases j))) joined)
  where
    moved : IsPermutation (filter (λ j. is_whose client t (live_in (phases j))) joined) (list_map (λ (l : LiveJoin). l.join) (filter (is_part client t) k.lives))
    moved =
        subst (λ us. IsPermutation us (list_map (λ (l : LiveJoin). l.join) (filter (is_part client t) k.lives))) (filter_walk (λ j. is_whose client t (live_in (phases j))) joined)
        (subst (λ us. IsPermutation (flat_map (λ j. cond (is_whose client t (live_in (phases j))) (j ∷ []) []) joined) us) (parts_walk client t k.lives)
        (walks (λ j p. cond (is_whose client t (live_in p)) (j ∷ []) []) (if-whose client t) here epoch drawn phases joined k h))

    same : filter (λ j. is_whose client t (live_in (phases j))) joined ≡ list_map (λ (l : LiveJoin). l.join) (filter (is_part client t) k.lives)
    same = short_same _ _ moved (subst (λ (n : ℕ). n ≤ 1) (sym (length-map (filter (is_part client t) k.lives) (λ (l : LiveJoin). l.join))) (h.single client t))

pub part_phase : (client : ℕ) (t : TransId) (here epoch drawn : ℕ) (phases : JoinNo → Phase) (joined : List JoinNo) (k : Joins) → AreJoins here epoch drawn phases joined k
    → part_of client t k.lives ≡ option_and_then (λ j. live_at j (phases j)) (find (λ j. is_whose client t (live_in (phases j))) joined)
part_phase client t here epoch drawn phases joined k h =
    go (part_of client t k.lives) refl ∙ ap (option_and_then (λ j. live_at j (phases j))) (part_number client t here epoch drawn phases joined k h)
  where
    go : (o : Option LiveJoin) → part_of client t k.lives ≡ o → o ≡ option_and_then (λ j. live_at j (phases j)) (number_in o)
    go None e = refl
    go (Some l) e = sym (found_once (is_part client t) k.lives l h.once e) ∙ h.live l.join

-- ---- those of a transaction that have not voted

open-silent : (t : TransId) (j : JoinNo) (p : Phase) → live_in p ≡ None → if_its t (open_in p) (λ client. Quits j t client (Some cause.TimedOut) ∷ []) ≡ []
open-silent t j (Joining u client who) h = some-apart _ (u, client) h
open-silent t j (Active u client who) h = some-apart _ (u, client) h
open-silent t j (Ready u client ts) h = refl
open-silent t j Unseen h = refl
open-silent t j (Applied u stamp) h = refl
open-silent t j Over h = refl

open_one : (t : TransId) (l : LiveJoin) (s : Stage) → if_its t (open_in (phase_in l.trans l.client s)) (λ client. Quits l.join t client (Some cause.TimedOut) ∷ []) ≡ cond (is_open s && same_trans l.trans t) (timed_out l ∷ []) []
open_one t l (stage.Joining who) = go (same_trans l.trans t) refl
  where
    go : (b : Bool) → same_trans l.trans t ≡ b → cond b (Quits l.join t l.client (Some cause.TimedOut) ∷ []) [] ≡ cond b (Quits l.join l.trans l.client (Some cause.TimedOut) ∷ []) []
    go true e = ap (λ (u : TransId). Quits l.join u l.client (Some cause.TimedOut) ∷ []) (sym (same_trans-true l.trans t e))
    go false e = refl
open_one t l (stage.Active who) = go (same_trans l.trans t) refl
  where
    go : (b : Bool) → same_trans l.trans t ≡ b → cond b (Quits l.join t l.client (Some cause.TimedOut) ∷ []) [] ≡ cond b (Quits l.join l.trans l.client (Some cause.TimedOut) ∷ []) []
    go true e = ap (λ (u : TransId). Quits l.join u l.client (Some cause.TimedOut) ∷ []) (sym (same_trans-true l.trans t e))
    go false e = refl
open_one t l (stage.Ready ts) = refl

open_walk : (t : TransId) (ls : List LiveJoin) → flat_map (λ (l : LiveJoin). if_its t (open_in (phase_of l)) (λ client. Quits l.join t client (Some cause.TimedOut) ∷ [])) ls ≡ list_map timed_out (open_of t ls)
open_walk t [] = refl
open_walk t (l ∷ ls) =
    ap (λ ys. ys ++ flat_map (λ (l : LiveJoin). if_its t (open_in (phase_of l)) (λ client. Quits l.join t client (Some cause.TimedOut) ∷ [])) ls) (open_one t l l.stage)
    ∙ go (is_open_of t l) (open_walk t ls)
  where
    go : (b : Bool) → flat_map (λ (l : LiveJoin). if_its t (open_in (phase_of l)) (λ client. Quits l.join t client (Some cause.TimedOut) ∷ [])) ls ≡ list_map timed_out (open_of t ls)
        → cond b (timed_out l ∷ []) [] ++ flat_map (λ (l : LiveJoin). if_its t (open_in (phase_of l)) (λ client. Quits l.join t client (Some cause.TimedOut) ∷ [])) ls ≡ list_map timed_out (cond b (l ∷ open_of t ls) (open_of t ls))
    go true e = ap (λ ys. timed_out l ∷ ys) e
    go false e = e

pub open_parts : (t : TransId) (here epoch drawn : ℕ) (phases : JoinNo → Phase) (joined : List JoinNo) (k : Joins) → AreJoins here epoch drawn phases joined k
    → IsPermutation (flat_map (λ j. if_its t (open_in (phases j)) (λ client. Quits j t client (Some cause.TimedOut) ∷ [])) joined) (list_map timed_out (open_of t k.lives))
open_parts t here epoch drawn phases joined k h =
    subst (λ us. IsPermutation (flat_map (λ j. if_its t (open_in (phases j)) (λ client. Quits j t client (Some cause.TimedOut) ∷ [])) joined) us) (open_walk t k.lives)
    (walks (λ j p. if_its t (open_in p) (λ client. Quits j t client (Some cause.TimedOut) ∷ [])) (open-silent t) here epoch drawn phases joined k h)

-- ---- those that have

pub ready-silent : (j : JoinNo) (p : Phase) → live_in p ≡ None → trans_ready p ≡ []
ready-silent j (Joining u client who) h = refl
ready-silent j (Active u client who) h = refl
ready-silent j (Ready u client ts) h = some-apart _ (u, client) h
ready-silent j Unseen h = refl
ready-silent j (Applied u stamp) h = refl
ready-silent j Over h = refl

-- ---- what is said again

module _ (is_other : ℕ → Bool) where
  abbrev passes : Mail → Bool
  passes a = is_other a.0

  lone_mail : (to : ℕ) (b : Bool) (m : Message) → is_other to ≡ b → filter passes ((to, m) ∷ []) ≡ mails (addressed b to (Some m))
  lone_mail to true m e = ap (λ (b : Bool). cond {A = List Mail} b ((to, m) ∷ []) []) e
  lone_mail to false m e = ap (λ (b : Bool). cond {A = List Mail} b ((to, m) ∷ []) []) e

  register-silent : (j : JoinNo) (p : Phase) → live_in p ≡ None → filter passes (register_again j p) ≡ []
  register-silent j (Joining u client who) h = some-apart _ (u, client) h
  register-silent j (Active u client who) h = refl
  register-silent j (Ready u client ts) h = refl
  register-silent j Unseen h = refl
  register-silent j (Applied u stamp) h = refl
  register-silent j Over h = refl

  register_one : (l : LiveJoin) (s : Stage) → filter passes (register_again l.join (phase_in l.trans l.client s)) ≡ mails (addressed (is_other l.trans.server) l.trans.server (register_at l s))
  register_one l (stage.Joining who) = lone_mail l.trans.server (is_other l.trans.server) (msg.Register l.trans l.join l.client) refl
  register_one l (stage.Active who) = refl
  register_one l (stage.Ready ts) = refl

  -- of what the journal says again, to other servers, is said what the kept joins say
  pub registers : (here epoch drawn : ℕ) (phases : JoinNo → Phase) (joined : List JoinNo) (k : Joins) → AreJoins here epoch drawn phases joined k
      → IsPermutation (filter passes (flat_map (λ j. register_again j (phases j)) joined)) (mails (flat_map (λ (l : LiveJoin). addressed (is_other l.trans.server) l.trans.server (register_of l)) k.lives))
  registers here epoch drawn phases joined k h =
      subst (λ us. IsPermutation us (mails (flat_map (λ (l : LiveJoin). addressed (is_other l.trans.server) l.trans.server (register_of l)) k.lives))) (sym (filter_each passes (λ j. register_again j (phases j)) joined))
      (subst (λ us. IsPermutation (flat_map (λ j. filter passes (register_again j (phases j))) joined) us)
      (walk_same (λ (l : LiveJoin). filter passes (register_again l.join (phase_of l))) (λ (l : LiveJoin). mails (addressed (is_other l.trans.server) l.trans.server (register_of l))) (λ l. register_one l l.stage) k.lives
      ∙ sym (walk_map mail (λ (l : LiveJoin). addressed (is_other l.trans.server) l.trans.server (register_of l)) k.lives))
      (walks (λ j p. filter passes (register_again j p)) register-silent here epoch drawn phases joined k h))

  inquiry-silent : (j : JoinNo) (p : Phase) → live_in p ≡ None → filter passes (inquire_again j p) ≡ []
  inquiry-silent j (Joining u client who) h = refl
  inquiry-silent j (Active u client who) h = refl
  inquiry-silent j (Ready u client ts) h = some-apart _ (u, client) h
  inquiry-silent j Unseen h = refl
  inquiry-silent j (Applied u stamp) h = refl
  inquiry-silent j Over h = refl

  inquiry_one : (l : LiveJoin) (s : Stage) → filter passes (inquire_again l.join (phase_in l.trans l.client s)) ≡ mails (addressed (is_other l.trans.server) l.trans.server (inquiry_at l s))
  inquiry_one l (stage.Joining who) = refl
  inquiry_one l (stage.Active who) = refl
  inquiry_one l (stage.Ready ts) = lone_mail l.trans.server (is_other l.trans.server) (msg.Inquire l.trans l.join) refl

  pub inquiries : (here epoch drawn : ℕ) (phases : JoinNo → Phase) (joined : List JoinNo) (k : Joins) → AreJoins here epoch drawn phases joined k
      → IsPermutation (filter passes (flat_map (λ j. inquire_again j (phases j)) joined)) (mails (flat_map (λ (l : LiveJoin). addressed (is_other l.trans.server) l.trans.server (inquiry_of l)) k.lives))
  inquiries here epoch drawn phases joined k h =
      subst (λ us. IsPermutation us (mails (flat_map (λ (l : LiveJoin). addressed (is_other l.trans.server) l.trans.server (inquiry_of l)) k.lives))) (sym (filter_each passes (λ j. inquire_again j (phases j)) joined))
      (subst (λ us. IsPermutation (flat_map (λ j. filter passes (inquire_again j (phases j))) joined) us)
      (walk_same (λ (l : LiveJoin). filter passes (inquire_again l.join (phase_of l))) (λ (l : LiveJoin). mails (addressed (is_other l.trans.server) l.trans.server (inquiry_of l))) (λ l. inquiry_one l l.stage) k.lives
      ∙ sym (walk_map mail (λ (l : LiveJoin). addressed (is_other l.trans.server) l.trans.server (inquiry_of l)) k.lives))
      (walks (λ j p. filter passes (inquire_again j p)) inquiry-silent here epoch drawn phases joined k h))
