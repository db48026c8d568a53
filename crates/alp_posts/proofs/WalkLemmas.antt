-- What a walk has taken before and after it went on.
use Rattle.std.specs.Prelude.{Option, Some, IfSome, slice_get}
use Rattle.std.proofs.Common.{◌≡◌, ℕ, ◌+◌, List, length, sym, subst, ap, ◌∙◌, arith}
use Rattle.alp_journal.specs.declared.entry.Entry.{Entry}
use Rattle.alp_journal.specs.declared.message.Message.{Message}
use Rattle.alp_posts.specs.Messages.{messages_to, HasGrown}
use Rattle.alp_posts.specs.Places.{IsPlace, StandsAt, passed}
use Rattle.alp_posts.specs.Finds.{IsFound}
use Rattle.alp_posts.specs.Post.{Post, post_of, shown_all, took}
use Rattle.alp_posts.specs.declared.find.Found.{Found}
use Rattle.alp_posts.proofs.PlaceLemmas.{counted, one_more, next_at}

-- The fields of a walk, what is seen of it, and what it found in the journal that it is shown.
pub record IsOnward (w : Post) (to e a : ℕ) (last : Option (Message × ℕ)) (shown journal : List Entry) (x : Found) : Type 0 where
  pub seen : post_of to shown (length (passed to e a shown)) last ≡ w
  pub stood : IsPlace e a shown
  pub grown : HasGrown w.shown journal
  pub found : IsFound to e a journal x

-- so it is, as the walk is asked
pub onward : (w : Post) (last : Option (Message × ℕ)) (shown journal : List Entry) {to e a : ℕ} {es : List Entry} {x : Found} → IsFound to e a es x → es ≡ journal → post_of to shown (length (passed to e a shown)) last ≡ w → IsPlace e a shown → HasGrown w.shown journal
    → IsOnward w to e a last shown journal x
onward w last shown journal {to} {e} {a} {es} {x} found is seen stood grown = record { seen = seen; stood = stood; grown = grown; found = subst (λ (ys : List Entry). IsFound to e a ys x) is found }

taken : {w : Post} {to e a : ℕ} {last : Option (Message × ℕ)} {shown journal : List Entry} {x : Found} → IsOnward w to e a last shown journal x → length (passed to x.entry x.act journal) ≡ length (passed to e a shown)
taken {w} {to} {e} {a} {last} {shown} {journal} {x} h =
    counted to e a x.entry x.act shown journal h.stood (subst (λ (es : List Entry). HasGrown es journal) (sym (ap (λ (v : Post). v.shown) h.seen)) h.grown) h.found.same

pub gives : {w : Post} {to e a : ℕ} {last : Option (Message × ℕ)} {shown journal : List Entry} {x : Found} → IsOnward w to e a last shown journal x → x.message ≡ slice_get (messages_to w.to journal) w.taken
gives {w} {to} {e} {a} {last} {shown} {journal} {x} h =
    h.found.message
    ∙ sym (next_at to x.entry x.act journal)
    ∙ ap (λ (n : ℕ). slice_get (messages_to to journal) n) (taken h)
    ∙ ap (λ (v : Post). slice_get (messages_to v.to journal) v.taken) h.seen

pub only_shown : {w : Post} {to e a : ℕ} {last : Option (Message × ℕ)} {shown journal : List Entry} {x : Found} → IsOnward w to e a last shown journal x → (now : List Entry) → now ≡ journal → post_of to now (length (passed to x.entry x.act now)) last ≡ shown_all journal w
only_shown {w} {to} {e} {a} {last} {shown} {journal} {x} h now is =
    ap (λ (es : List Entry). post_of to es (length (passed to x.entry x.act es)) last) is
    ∙ ap (λ (n : ℕ). post_of to journal n last) (taken h)
    ∙ ap (shown_all journal) h.seen

-- ---- a message is taken

pub stands : {w : Post} {to e a : ℕ} {last : Option (Message × ℕ)} {shown journal : List Entry} {x : Found} → IsOnward w to e a last shown journal x → (m : Message) → x.message ≡ Some m → StandsAt to x.entry x.act journal m
stands {w} {to} {e} {a} {last} {shown} {journal} {x} h m is = subst (λ (o : Option Message). IfSome o (StandsAt to x.entry x.act journal)) is h.found.stands

pub place_behind : {to e a : ℕ} {journal : List Entry} {m : Message} → StandsAt to e a journal m → (now : List Entry) → now ≡ journal → IsPlace e (a + 1) now
place_behind {to} {e} {a} {journal} {m} s now is =
    subst (λ (es : List Entry). IsPlace e (a + 1) es) (sym is) (record { within = omega (arith, s.within); start = λ (end : e ≡ length journal). absurd (omega (arith, s.within, end)) })

pub one_taken : {w : Post} {to e a : ℕ} {last : Option (Message × ℕ)} {shown journal : List Entry} {x : Found} → IsOnward w to e a last shown journal x → (m : Message) → x.message ≡ Some m → (rank : ℕ) (now : List Entry) → now ≡ journal
    → post_of to now (length (passed to x.entry (x.act + 1) now)) (Some (m, rank)) ≡ took m rank journal w
one_taken {w} {to} {e} {a} {last} {shown} {journal} {x} h m is rank now at =
    ap (λ (es : List Entry). post_of to es (length (passed to x.entry (x.act + 1) es)) (Some (m, rank))) at
    ∙ ap (λ (n : ℕ). post_of to journal n (Some (m, rank))) (one_more to x.entry x.act x.entry (x.act + 1) m journal (stands h m is).first ∙ ap (λ (n : ℕ). n + 1) (taken h))
    ∙ ap (took m rank journal) h.seen
