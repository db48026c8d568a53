-- Messages that a journal sends, and where they stand.
use Rattle.std.specs.Prelude.{◌==◌, ◌⊎◌, Bool, true, false, cond, Option, None, Some, option_to_list, slice_get}
use Rattle.std.proofs.Common.{◌≡◌, ℕ, zero, suc, List, [], ◌∷◌, ◌++◌, inl, inr, refl, ap, ◌∙◌}
use Rattle.std.proofs.lemmas.Bool.{eqb-true}
use Rattle.std.proofs.lemmas.Grind.{flat_map-append}
use Rattle.alp_journal.specs.declared.act.Act.{Act}
use Rattle.alp_journal.specs.declared.act.Act.TheVariants as act
use Rattle.alp_journal.specs.declared.entry.Entry.{Entry}
use Rattle.alp_journal.specs.declared.message.Message.{Message}
use Rattle.alp_posts.specs.Messages.{message_to, messages_in, messages_to, HasGrown, IsSent}

pub messages_append : (to : ℕ) (xs ys : List Entry) → messages_to to (xs ++ ys) ≡ messages_to to xs ++ messages_to to ys
messages_append to xs ys = flat_map-append (λ (e : Entry). messages_in to e.acts) xs ys

-- ---- one of two lists

get_front : {X : Type 0} (xs ys : List X) (n : ℕ) (x : X) → slice_get xs n ≡ Some x → slice_get (xs ++ ys) n ≡ Some x
get_front [] ys n x h = absurd cc
get_front (y ∷ xs) ys zero x h = h
get_front (y ∷ xs) ys (suc n) x h = get_front xs ys n x h

abbrev Stands : {X : Type 0} → List X → X → Type 0
Stands xs x = (k : ℕ) × (slice_get xs k ≡ Some x)

get_either : {X : Type 0} (xs ys : List X) (n : ℕ) (x : X) → slice_get (xs ++ ys) n ≡ Some x → Stands xs x ⊎ Stands ys x
get_either [] ys n x h = inr (n, h)
get_either (y ∷ xs) ys zero x h = inl (zero, h)
get_either (y ∷ xs) ys (suc n) x h = elim (get_either xs ys n x h) [ inl p ↦ inl (suc p.0, p.1) | inr q ↦ inr q ]

pub messages_kept : (to n : ℕ) (m : Message) (journal longer : List Entry) → HasGrown journal longer → slice_get (messages_to to journal) n ≡ Some m → slice_get (messages_to to longer) n ≡ Some m
messages_kept to n m journal longer g h =
    ap (λ (ms : List Message). slice_get ms n) (ap (messages_to to) g.is ∙ messages_append to journal g.more)
    ∙ get_front (messages_to to journal) (messages_to to g.more) n m h

-- ---- sent

message_is : (to : ℕ) (m : Message) (a : Act) → message_to to a ≡ Some m → a ≡ act.Sent to m
message_is to m (act.Sent there x) h = go (there == to) refl h
  where
    go : (b : Bool) → (there == to) ≡ b → cond {A = Option Message} b (Some x) None ≡ Some m → act.Sent there x ≡ act.Sent to m
    go true e f = cc (eqb-true there to e)
    go false e f = cc
message_is to m (act.Granted t) h = cc
message_is to m (act.Drawn t) h = cc
message_is to m (act.Registered t j) h = cc
message_is to m (act.Readied t j ts) h = cc
message_is to m (act.Decided y js) h = cc
message_is to m (act.Applied j y) h = cc
message_is to m (act.Released t) h = cc
message_is to m (act.Forgot t) h = cc
message_is to m (act.Regained k c js xs) h = cc
message_is to m act.Stopped h = cc
message_is to m act.Failed h = cc

single : (o : Option Message) (n : ℕ) (m : Message) → slice_get (option_to_list o) n ≡ Some m → o ≡ Some m
single None n m h = absurd cc
single (Some x) zero m h = h
single (Some x) (suc n) m h = absurd cc

sent_in : (to n : ℕ) (m : Message) (acts : List Act) → slice_get (messages_in to acts) n ≡ Some m → Stands acts (act.Sent to m)
sent_in to n m [] h = absurd cc
sent_in to n m (a ∷ acts) h = elim (get_either (option_to_list (message_to to a)) (messages_in to acts) n m h) [
  | inl p ↦ (zero, ap (λ (b : Act). Some b) (message_is to m a (single (message_to to a) p.0 m p.1)))
  | inr q ↦ (let r = sent_in to q.0 m acts q.1 in (suc r.0, r.1))
]

pub sent_by : (to n : ℕ) (m : Message) (journal : List Entry) → slice_get (messages_to to journal) n ≡ Some m → IsSent to m journal
sent_by to n m [] h = absurd cc
sent_by to n m (e ∷ es) h = elim (get_either (messages_in to e.acts) (messages_to to es) n m h) [
  | inl p ↦ (let r = sent_in to p.0 m e.acts p.1 in record { place = zero; entry = e; number = r.0; stands = refl; sent = r.1 })
  | inr q ↦ (let r = sent_by to q.0 m es q.1 in record { place = suc r.place; entry = r.entry; number = r.number; stands = r.stands; sent = r.sent })
]
