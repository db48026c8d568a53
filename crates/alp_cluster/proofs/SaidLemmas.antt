-- one item more in a client's list
use Rattle.std.specs.Prelude.{◌==◌, ◌≢◌, Bool, true, false, cond, Option, None, Some, IfSome}
use Rattle.std.specs.List.{AllByRecursion}
use Rattle.std.proofs.Common.{inl, inr, ◌⊎◌, ◌≡◌, ℕ, suc, ◌+◌, ◌<◌, ◌≤◌, ◌^◌, List, [], ◌∷◌, ◌++◌, length, length-append, append-nil, refl, sym, ◌∙◌, ap, subst, arith}
use Rattle.std.proofs.lemmas.Bool.Decides.{eqb_tells}
use Rattle.alp_base.specs.declared.ids.Stamp.{Stamp}
use Rattle.alp_base.specs.declared.ids.TransId.{TransId}
use Rattle.alp_files.specs.declared.call.Call.{Call}
use Rattle.alp_files.specs.declared.call.Call.TheVariants as call
use Rattle.alp_files.specs.declared.reply.Reply.{Reply}
use Rattle.alp_files.specs.declared.reply.Reply.TheVariants as reply
use Rattle.alp_session.specs.declared.client.Client.{Client}
use Rattle.alp_session.specs.declared.frames.Addressed.{Addressed}
use Rattle.alp_session.specs.declared.frames.Frames.{Frames}
use Rattle.alp_history.specs.Items.{Item, Mark, Own, Repeated, Raw, Sent, stamps_told, stamps_by}
use Rattle.alp_history.specs.Handed.{HaveSeen, HasSeen}
use Rattle.alp_node.specs.declared.server_state.ServerState.{ServerState}
use Rattle.alp_cluster.specs.Come.{Come, none_come}
use Rattle.alp_cluster.specs.Stations.{IsReachedBy}
use Rattle.alp_cluster.specs.Clients.{session_of, IsWithin, come_with, come_to, IsSentBy, AreNumbered, IsToldOf, AsksOfTold, SentOfTold, SpellsOfTold, HasSentFor, States, at_server, HasSaidTo, HasSaid, IsShort}

pub all_push : {A : Type 0} (P : A → Type 0) (xs : List A) (x : A) → AllByRecursion P xs → P x → AllByRecursion P (xs ++ x ∷ [])
all_push P [] x h k = (k, tt)
all_push P (y ∷ xs) x h k = (h.0, all_push P xs x h.1 k)

pub all_map : {A : Type 0} (P Q : A → Type 0) → ((a : A) → P a → Q a) → (xs : List A) → AllByRecursion P xs → AllByRecursion Q xs
all_map P Q f [] h = tt
all_map P Q f (x ∷ xs) h = (f x h.0, all_map P Q f xs h.1)

pub all_append : {A : Type 0} (P : A → Type 0) (xs ys : List A) → AllByRecursion P xs → AllByRecursion P ys → AllByRecursion P (xs ++ ys)
all_append P [] ys h k = k
all_append P (x ∷ xs) ys h k = (h.0, all_append P xs ys h.1 k)

pub some_map : {A : Type 0} (P Q : A → Type 0) → ((a : A) → P a → Q a) → (o : Option A) → IfSome o P → IfSome o Q
some_map P Q f None h = tt
some_map P Q f (Some x) h = f x h

-- ---- how far the calls have come

come_to-push : (a : Come) (xs : List Item) (x : Item) → come_to a (xs ++ x ∷ []) ≡ come_with (come_to a xs) x.mark x.sent
come_to-push a [] x = refl
come_to-push a (y ∷ xs) x = come_to-push (come_with a y.mark y.sent) xs x

numbered_push : (k : ℕ) (a : Come) (xs : List Item) (x : Item) → AreNumbered k a xs → IsSentBy k (come_to a xs) x.mark x.sent → AreNumbered k a (xs ++ x ∷ [])
numbered_push k a [] x h s = (s, tt)
numbered_push k a (y ∷ xs) x h s = (h.0, numbered_push k (come_with a y.mark y.sent) xs x h.1 s)

-- ---- what it was told began

pub told_left : (t : TransId) (xs ys : List Item) → IsToldOf t xs → IsToldOf t (xs ++ ys)
told_left t [] ys h = absurd h
told_left t (x ∷ xs) ys (inl is) = inl is
told_left t (x ∷ xs) ys (inr h) = inr (told_left t xs ys h)

told_here : (t : TransId) (xs : List Item) (x : Item) → x.reply ≡ Some (reply.Begun t) → IsToldOf t (xs ++ x ∷ [])
told_here t [] x is = inl is
told_here t (y ∷ xs) x is = inr (told_here t xs x is)

asks_left : (xs ys : List Item) (c : Call) → AsksOfTold xs c → AsksOfTold (xs ++ ys) c
asks_left xs ys (call.Outcome t) h = told_left t xs ys h
asks_left xs ys c h = tt

sent_left : (xs ys : List Item) (m : Mark) (s : Option Sent) → SentOfTold xs m s → SentOfTold (xs ++ ys) m s
sent_left xs ys Raw s h = tt
sent_left xs ys Own None h = tt
sent_left xs ys Own (Some s) h = asks_left xs ys s.call h
sent_left xs ys Repeated None h = tt
sent_left xs ys Repeated (Some s) h = asks_left xs ys s.call h

spells_left : (xs ys : List Item) (o : Option Addressed) → IfSome o (λ f. SpellsOfTold xs f.bytes) → IfSome o (λ f. SpellsOfTold (xs ++ ys) f.bytes)
spells_left xs ys None h = tt
spells_left xs ys (Some f) h = λ r is. asks_left xs ys r.call (h r is)

-- ---- what it has seen

seen_push : (before : List Stamp) (xs : List Item) (x : Item) (most : ℕ) → AllByRecursion (λ (s : Stamp). s.ts ≤ most) before → AllByRecursion (λ (y : Item). AllByRecursion (λ (s : Stamp). s.ts ≤ most) (stamps_told y)) xs → HaveSeen before xs
    → ((all : List Stamp) → AllByRecursion (λ (s : Stamp). s.ts ≤ most) all → HasSeen all x.mark x.sent) → HaveSeen before (xs ++ x ∷ [])
seen_push before [] x most low told h make = (make before low, tt)
seen_push before (y ∷ xs) x most low told h make =
    (h.0, seen_push (before ++ stamps_told y) xs x most (all_append (λ (s : Stamp). s.ts ≤ most) before (stamps_told y) low told.0) told.1 h.1 make)

told_push : (xs : List Item) (x : Item) (low high : ℕ) → low ≤ high → AllByRecursion (λ (y : Item). AllByRecursion (λ (s : Stamp). s.ts ≤ low) (stamps_told y)) xs → AllByRecursion (λ (s : Stamp). s.ts ≤ high) (stamps_told x)
    → AllByRecursion (λ (y : Item). AllByRecursion (λ (s : Stamp). s.ts ≤ high) (stamps_told y)) (xs ++ x ∷ [])
told_push xs x low high up h last =
    all_push (λ (y : Item). AllByRecursion (λ (s : Stamp). s.ts ≤ high) (stamps_told y)) xs x
    (all_map (λ (y : Item). AllByRecursion (λ (s : Stamp). s.ts ≤ low) (stamps_told y)) (λ (y : Item). AllByRecursion (λ (s : Stamp). s.ts ≤ high) (stamps_told y))
    (λ y all. all_map (λ (s : Stamp). s.ts ≤ low) (λ (s : Stamp). s.ts ≤ high) (λ s le. omega (arith, le, up)) (stamps_told y) all) xs h) last

-- ---- an item of the client's own call

-- an item of a client's call at a server
abbrev pub item_at : ℕ → Mark → ℕ → ℕ → ℕ → Call → Option Reply → Option ℕ → Item
item_at n m k epoch number asked r place = record { server = n; mark = m; sent = Some (record { client = k; epoch = epoch; number = number; call = asked }); reply = r; place = place }

-- whose outcomes the client may ask for: of its last begin, and again by its last frames
pub record KnowsOf (c : Client) (xs : List Item) : Type 0 where
  pub begun : IfSome c.begun (λ t. IsToldOf t xs)
  pub last : IfSome c.frames.last (λ f. SpellsOfTold xs f.bytes)
  pub before : IfSome c.frames.before (λ f. SpellsOfTold xs f.bytes)

-- what the client's knowledge comes to by an item at a server: its call stands in its turn, and the server has come to it; with other
-- servers nothing changes; it has seen what it had to, and the client knows what it is told now
pub record IsNextItem {V : Type 0} (n : ℕ) (s t : States V) (m : Mark) (k : ℕ) (c d : Client) (epoch number : ℕ) (asked : Call) (r : Option Reply) : Type 0 where
  pub turn : (a : Come) (i : ℕ) → i + 4 < 2 ^ 32 → HasSentFor i (session_of n c) → IsWithin (session_of n c) a → IsReachedBy (s n) k a → IsSentBy k a m (Some (record { client = k; epoch = epoch; number = number; call = asked }))
  pub within : (a : Come) → IsWithin (session_of n c) a → IsReachedBy (s n) k a → IsWithin (session_of n d) (come_with a m (Some (record { client = k; epoch = epoch; number = number; call = asked })))
  pub reached : (a : Come) → IsWithin (session_of n c) a → IsReachedBy (s n) k a → IsReachedBy (t n) k (come_with a m (Some (record { client = k; epoch = epoch; number = number; call = asked })))
  pub many : (i : ℕ) → HasSentFor i (session_of n c) → HasSentFor (i + 1) (session_of n d)
  pub elsewhere : (j : ℕ) → j ≢ n → session_of j d ≡ session_of j c
  pub later : (j : ℕ) (a : Come) → IsReachedBy (s j) k a → IsReachedBy (t j) k a
  pub told : c.told.ts ≤ d.told.ts
  pub stamps : AllByRecursion (λ (s : Stamp). s.ts ≤ d.told.ts) (stamps_by m r)
  pub seen : (all : List Stamp) → AllByRecursion (λ (s : Stamp). s.ts ≤ c.told.ts) all → HasSeen all m (Some (record { client = k; epoch = epoch; number = number; call = asked }))
  pub begun : (d.begun ≡ c.begun) ⊎ ((u : TransId) × (r ≡ Some (reply.Begun u)) × (d.begun ≡ Some u))
  pub last : (xs : List Item) → KnowsOf c xs → IfSome d.frames.last (λ f. SpellsOfTold xs f.bytes)
  pub before : (xs : List Item) → KnowsOf c xs → IfSome d.frames.before (λ f. SpellsOfTold xs f.bytes)
  pub outcome : (xs : List Item) → KnowsOf c xs → SentOfTold xs m (Some (record { client = k; epoch = epoch; number = number; call = asked }))

begun_push : (c d : Client) (xs : List Item) (x : Item) → IfSome c.begun (λ t. IsToldOf t xs) → (d.begun ≡ c.begun) ⊎ ((u : TransId) × (x.reply ≡ Some (reply.Begun u)) × (d.begun ≡ Some u)) → IfSome d.begun (λ t. IsToldOf t (xs ++ x ∷ []))
begun_push c d xs x h (inl same) =
    subst (λ (o : Option TransId). IfSome o (λ t. IsToldOf t (xs ++ x ∷ []))) (sym same) (some_map (λ t. IsToldOf t xs) (λ t. IsToldOf t (xs ++ x ∷ [])) (λ t told. told_left t xs (x ∷ []) told) c.begun h)
begun_push c d xs x h (inr (u, is, now)) = subst (λ (o : Option TransId). IfSome o (λ t. IsToldOf t (xs ++ x ∷ []))) (sym now) (told_here u xs x is)

outcomes_push : (xs : List Item) (x : Item) → AllByRecursion (λ (y : Item). SentOfTold xs y.mark y.sent) xs → SentOfTold xs x.mark x.sent → AllByRecursion (λ (y : Item). SentOfTold (xs ++ x ∷ []) y.mark y.sent) (xs ++ x ∷ [])
outcomes_push xs x h last =
    all_push (λ (y : Item). SentOfTold (xs ++ x ∷ []) y.mark y.sent) xs x
    (all_map (λ (y : Item). SentOfTold xs y.mark y.sent) (λ (y : Item). SentOfTold (xs ++ x ∷ []) y.mark y.sent) (λ y of. sent_left xs (x ∷ []) y.mark y.sent of) xs h)
    (sent_left xs (x ∷ []) x.mark x.sent last)

long_push : (xs : List Item) (x : Item) → length (xs ++ x ∷ []) ≡ length xs + 1
long_push xs x = length-append xs (x ∷ [])

-- ---- what was sent to one server

one_behind : (z : Bool) (y : Item) (all front back : List Item) → all ≡ front ++ back → cond {A = List Item} z (y ∷ all) all ≡ cond {A = List Item} z (y ∷ front) front ++ back
one_behind true y all front back is = ap (λ (ys : List Item). y ∷ ys) is
one_behind false y all front back is = is

here_push : (j : ℕ) (xs : List Item) (x : Item) (b : Bool) → (x.server == j) ≡ b → at_server j (xs ++ x ∷ []) ≡ at_server j xs ++ cond {A = List Item} b (x ∷ []) []
here_push j [] x true is = ap (λ (b : Bool). cond {A = List Item} b (x ∷ []) []) is
here_push j [] x false is = ap (λ (b : Bool). cond {A = List Item} b (x ∷ []) []) is
here_push j (y ∷ xs) x b is = one_behind (y.server == j) y (at_server j (xs ++ x ∷ [])) (at_server j xs) (cond {A = List Item} b (x ∷ []) []) (here_push j xs x b is)

few_here : (j : ℕ) (xs : List Item) → length (at_server j xs) ≤ length xs
few_here j [] = omega arith
few_here j (x ∷ xs) = go (x.server == j) (few_here j xs)
  where
    go : (z : Bool) → length (at_server j xs) ≤ length xs → length (cond {A = List Item} z (x ∷ at_server j xs) (at_server j xs)) ≤ suc (length xs)
    go true few = omega (arith, few)
    go false few = omega (arith, few)

-- the server has come to what it was sent still
to_later : {V : Type 0} (s t : Option (ServerState V)) (k : ℕ) (o p : Option Come) (ys : List Item) → ((a : Come) → IsReachedBy s k a → IsReachedBy t k a) → p ≡ o → HasSaidTo s k o ys → HasSaidTo t k p ys
to_later s t k o p ys on same h = record {
  numbered = h.numbered;
  within = subst (λ (x : Option Come). IsWithin x (come_to none_come ys)) (sym same) h.within;
  reached = on (come_to none_come ys) h.reached;
  many = subst (HasSentFor (length ys)) (sym same) h.many;
}

-- it was sent one more
to_push : {V : Type 0} (s t : Option (ServerState V)) (k : ℕ) (o p : Option Come) (ys : List Item) (x : Item) → IsSentBy k (come_to none_come ys) x.mark x.sent → IsWithin p (come_with (come_to none_come ys) x.mark x.sent)
    → IsReachedBy t k (come_with (come_to none_come ys) x.mark x.sent) → HasSentFor (length ys + 1) p → HasSaidTo s k o ys → HasSaidTo t k p (ys ++ x ∷ [])
to_push s t k o p ys x turn within reached many h =
    let now : come_to none_come (ys ++ x ∷ []) ≡ come_with (come_to none_come ys) x.mark x.sent = come_to-push none_come ys x in
    record {
      numbered = numbered_push k none_come ys x h.numbered turn;
      within = subst (IsWithin p) (sym now) within;
      reached = subst (IsReachedBy t k) (sym now) reached;
      many = subst (λ (j : ℕ). HasSentFor j p) (sym (long_push ys x)) many;
    }

-- of each server, where the item is of one of them
to_each : {V : Type 0} (s t : States V) (k : ℕ) (c d : Client) (xs : List Item) (x : Item) → ((j : ℕ) → j ≢ x.server → session_of j d ≡ session_of j c) → ((j : ℕ) (a : Come) → IsReachedBy (s j) k a → IsReachedBy (t j) k a)
    → HasSaidTo (t x.server) k (session_of x.server d) (at_server x.server xs ++ x ∷ []) → ((j : ℕ) → HasSaidTo (s j) k (session_of j c) (at_server j xs)) → (j : ℕ) → HasSaidTo (t j) k (session_of j d) (at_server j (xs ++ x ∷ []))
to_each {V} s t k c d xs x elsewhere later here before j = elim (eqb_tells x.server j) [
  | inl same ↦ subst (HasSaidTo (t j) k (session_of j d)) (sym (here_push j xs x true same.0)) (subst (λ (i : ℕ). HasSaidTo (t i) k (session_of i d) (at_server i xs ++ x ∷ [])) same.1 here)
  | inr away ↦ subst (HasSaidTo (t j) k (session_of j d)) (sym (here_push j xs x false away.0 ∙ append-nil (at_server j xs)))
      (to_later (s j) (t j) k (session_of j c) (session_of j d) (at_server j xs) (later j) (elsewhere j (λ e. away.1 (sym e))) (before j))
]

pub said_more : {V : Type 0} (n : ℕ) (s t : States V) (m : Mark) (k : ℕ) (c d : Client) (epoch number : ℕ) (asked : Call) (r : Option Reply) (place : Option ℕ) (xs : List Item) → IsNextItem n s t m k c d epoch number asked r → IsShort xs → HasSaid s k c xs
    → HasSaid t k d (xs ++ item_at n m k epoch number asked r place ∷ [])
said_more n s t m k c d epoch number asked r place xs next short h =
    let x : Item = item_at n m k epoch number asked r place in
    let ys : List Item = at_server n xs in
    let a : Come = come_to none_come (at_server n xs) in
    let here : HasSaidTo (s n) k (session_of n c) (at_server n xs) = h.to n in
    let few : length (at_server n xs) ≤ length xs = few_here n xs in
    let knows : KnowsOf c xs = record { begun = h.begun; last = h.last; before = h.before } in
    record {
      to = to_each s t k c d xs x next.elsewhere next.later
          (to_push (s n) (t n) k (session_of n c) (session_of n d) (at_server n xs) x (next.turn a (length (at_server n xs)) (omega (arith, few, short)) here.many here.within here.reached) (next.within a here.within here.reached) (next.reached a here.within here.reached)
          (next.many (length (at_server n xs)) here.many) here) h.to;
      told = told_push xs x c.told.ts d.told.ts next.told h.told next.stamps;
      seen = seen_push [] xs x c.told.ts tt h.told h.seen next.seen;
      begun = begun_push c d xs x h.begun next.begun;
      last = spells_left xs (x ∷ []) d.frames.last (next.last xs knows);
      before = spells_left xs (x ∷ []) d.frames.before (next.before xs knows);
      outcomes = outcomes_push xs x h.outcomes (next.outcome xs knows);
    }

-- ---- an item of a raw line, and none

one_more_sent : (n : ℕ) (o : Option Come) → HasSentFor n o → HasSentFor (n + 1) o
one_more_sent n None h = tt
one_more_sent n (Some g) h = omega (arith, h)

-- what a raw line is answered is no matter of the client
pub said_raw : {V : Type 0} (s t : States V) (k : ℕ) (c : Client) (xs : List Item) (server : ℕ) (sent : Option Sent) (r : Option Reply) (place : Option ℕ) → ((j : ℕ) (a : Come) → IsReachedBy (s j) k a → IsReachedBy (t j) k a) → HasSaid s k c xs
    → HasSaid t k c (xs ++ (record { server = server; mark = Raw; sent = sent; reply = r; place = place }) ∷ [])
said_raw s t k c xs server sent r place on h =
    let x : Item = record { server = server; mark = Raw; sent = sent; reply = r; place = place } in
    let here : HasSaidTo (s server) k (session_of server c) (at_server server xs) = h.to server in
    record {
      to = to_each s t k c c xs x (λ j away. refl) on
          (to_push (s server) (t server) k (session_of server c) (session_of server c) (at_server server xs) x tt here.within (on server (come_to none_come (at_server server xs)) here.reached)
          (one_more_sent (length (at_server server xs)) (session_of server c) here.many) here) h.to;
      told = told_push xs x c.told.ts c.told.ts (omega arith) h.told tt;
      seen = seen_push [] xs x c.told.ts tt h.told h.seen (λ all low. tt);
      begun = begun_push c c xs x h.begun (inl refl);
      last = spells_left xs (x ∷ []) c.frames.last h.last;
      before = spells_left xs (x ∷ []) c.frames.before h.before;
      outcomes = outcomes_push xs x h.outcomes tt;
    }

-- the servers go on, and the client stays as it is in all that is asked
pub said_later : {V : Type 0} (s t : States V) (k : ℕ) (c d : Client) (xs : List Item) → ((j : ℕ) (a : Come) → IsReachedBy (s j) k a → IsReachedBy (t j) k a) → ((j : ℕ) → session_of j d ≡ session_of j c) → d.told ≡ c.told → d.begun ≡ c.begun → d.frames ≡ c.frames
    → HasSaid s k c xs → HasSaid t k d xs
said_later s t k c d xs on session told begun frames h = record {
  to = λ j. to_later (s j) (t j) k (session_of j c) (session_of j d) (at_server j xs) (on j) (session j) (h.to j);
  told = subst (λ (u : Stamp). AllByRecursion (λ (y : Item). AllByRecursion (λ (z : Stamp). z.ts ≤ u.ts) (stamps_told y)) xs) (sym told) h.told;
  seen = h.seen;
  begun = subst (λ (o : Option TransId). IfSome o (λ t. IsToldOf t xs)) (sym begun) h.begun;
  last = subst (λ (f : Frames). IfSome f.last (λ z. SpellsOfTold xs z.bytes)) (sym frames) h.last;
  before = subst (λ (f : Frames). IfSome f.before (λ z. SpellsOfTold xs z.bytes)) (sym frames) h.before;
  outcomes = h.outcomes;
}
