-- files that live parts have open were given, whatever the vault tells
use Rattle.std.specs.Prelude.{Bool, true, false, ◌==◌, ◌&&◌, ◌||◌, nat_lt, nat_le, Option, None, Some}
use Rattle.std.specs.List.{list_all}
use Rattle.std.proofs.Common.{◌≡◌, ℕ, ◌+◌, ◌<◌, ◌≤◌, List, [], ◌∷◌, refl, ◌∙◌, ap, arith, eq-eqb}
use Rattle.std.proofs.lemmas.Bool.{ltb-false, leb-true, leb-false}
use Rattle.alp_base.proofs.NameLemmas.{and_left, and_right}
use Rattle.alp_base.specs.declared.ids.FileId.{FileId}
use Rattle.alp_calls.specs.Opened.{may_open, may_make, OpensNoOther}
use Rattle.alp_calls.specs.Parts.{GivesOnly}
use Rattle.alp_files.specs.Born.{count_after}
use Rattle.alp_files.specs.declared.call.Call.{Call}
use Rattle.alp_files.specs.declared.call.Call.TheVariants as call
use Rattle.alp_files.specs.declared.open.Open.{Open}
use Rattle.alp_files.specs.declared.refusal.Refusal.{Refusal}
use Rattle.alp_files.specs.declared.reply.Reply.{Reply}
use Rattle.alp_files.specs.declared.reply.Reply.TheVariants as reply
use Rattle.alp_journal.specs.Answers.{unless_counts}
use Rattle.alp_node.specs.Asks.{is_given, is_of_given}

both : (a b : Bool) → a ≡ true → b ≡ true → (a && b) ≡ true
both true b e f = f
both false b e f = cc

less_than : (m n : ℕ) → m < n → nat_lt m n ≡ true
less_than m n lt = go (nat_lt m n) refl
  where
    go : (b : Bool) → nat_lt m n ≡ b → b ≡ true
    go true e = refl
    go false e = (let wrong : n ≤ m = ltb-false m n e in absurd (omega (arith, lt, wrong)))

at_most : (m n : ℕ) → m ≤ n → nat_le m n ≡ true
at_most m n le = go (nat_le m n) refl
  where
    go : (b : Bool) → nat_le m n ≡ b → b ≡ true
    go true e = refl
    go false e = (let wrong : n < m = leb-false m n e in absurd (omega (arith, le, wrong)))

-- what was given stays so
pub given_later : (server epoch m n : ℕ) → m ≤ n → (f : FileId) → is_given server epoch m f ≡ true → is_given server epoch n f ≡ true
given_later server epoch m n le f e =
    both (f.server == server && nat_lt 0 f.epoch && nat_lt 0 f.counter) (nat_lt f.epoch epoch || (f.epoch == epoch && nat_le f.counter n))
    (and_left (f.server == server && nat_lt 0 f.epoch && nat_lt 0 f.counter) (nat_lt f.epoch epoch || (f.epoch == epoch && nat_le f.counter m)) e)
    (go (nat_lt f.epoch epoch) (and_right (f.server == server && nat_lt 0 f.epoch && nat_lt 0 f.counter) (nat_lt f.epoch epoch || (f.epoch == epoch && nat_le f.counter m)) e))
  where
    go : (b : Bool) → (b || (f.epoch == epoch && nat_le f.counter m)) ≡ true → (b || (f.epoch == epoch && nat_le f.counter n)) ≡ true
    go true h = refl
    go false h =
        both (f.epoch == epoch) (nat_le f.counter n) (and_left (f.epoch == epoch) (nat_le f.counter m) h)
        (at_most f.counter n (let low : f.counter ≤ m = leb-true f.counter m (and_right (f.epoch == epoch) (nat_le f.counter m) h) in omega (arith, low, le)))

pub opens_later : (server epoch m n : ℕ) → m ≤ n → (os : List Open) → list_all (λ (o : Open). is_given server epoch m o.file) os ≡ true → list_all (λ (o : Open). is_given server epoch n o.file) os ≡ true
opens_later server epoch m n le [] h = refl
opens_later server epoch m n le (o ∷ os) h =
    both (is_given server epoch n o.file) (list_all (λ (x : Open). is_given server epoch n x.file) os)
    (given_later server epoch m n le o.file (and_left (is_given server epoch m o.file) (list_all (λ (x : Open). is_given server epoch m x.file) os) h))
    (opens_later server epoch m n le os (and_right (is_given server epoch m o.file) (list_all (λ (x : Open). is_given server epoch m x.file) os) h))

-- the next id is given with the count
next_given : (server epoch count : ℕ) → 0 < epoch → is_given server epoch (count + 1) (record { server = server; epoch = epoch; counter = count + 1 }) ≡ true
next_given server epoch count raised =
    both (server == server && nat_lt 0 epoch && nat_lt 0 (count + 1)) (nat_lt epoch epoch || (epoch == epoch && nat_le (count + 1) (count + 1)))
    (both (server == server && nat_lt 0 epoch) (nat_lt 0 (count + 1)) (both (server == server) (nat_lt 0 epoch) (eq-eqb server server refl) (less_than 0 epoch raised)) (less_than 0 (count + 1) (omega arith)))
    (go (nat_lt epoch epoch))
  where
    go : (b : Bool) → (b || (epoch == epoch && nat_le (count + 1) (count + 1))) ≡ true
    go true = refl
    go false = both (epoch == epoch) (nat_le (count + 1) (count + 1)) (eq-eqb epoch epoch refl) (at_most (count + 1) (count + 1) (omega arith))

grows : (count : ℕ) (r : Reply) → count ≤ count_after count r
grows count (reply.Created f n) = omega arith
grows count r = omega arith

-- a reply that the counts may refuse gives no other id
pub unless_only : (id : FileId) (given : Reply) (o : Option Refusal) → GivesOnly id given → GivesOnly id (unless_counts given o)
unless_only id given None only f n e = only f n e
unless_only id given (Some x) only f n e = let wrong : reply.Refused x ≡ reply.Created f n = e in cc

module _ (server epoch count : ℕ) (raised : 0 < epoch) (c : Call) (r : Reply) (named : is_of_given server epoch count c ≡ true) (only : GivesOnly (record { server = server; epoch = epoch; counter = count + 1 }) r) where
  abbrev then_given : FileId → Bool
  then_given = is_given server epoch (count_after count r)

  opens_named : (x : Call) → is_of_given server epoch count x ≡ true → may_open then_given x ≡ true
  opens_named (call.OpenFile t f access mode choice) e = given_later server epoch count (count_after count r) (grows count r) f e
  opens_named x e = refl

  makes_given : (x : Reply) → GivesOnly (record { server = server; epoch = epoch; counter = count + 1 }) x → may_make (is_given server epoch (count_after count x)) x ≡ true
  makes_given (reply.Created f n) only_this = ap (is_given server epoch (count + 1)) (only_this f n refl) ∙ next_given server epoch count raised
  makes_given x only_this = refl

  -- so it is of all files that are open behind a call
  pub opens_then : (old new : List Open) → OpensNoOther old new c r → list_all (λ (o : Open). is_given server epoch count o.file) old ≡ true → list_all (λ (o : Open). is_given server epoch (count_after count r) o.file) new ≡ true
  opens_then old new from h = from then_given (opens_named c named) (makes_given r only) (opens_later server epoch count (count_after count r) (grows count r) old h)
