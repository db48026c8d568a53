-- The messages before a place, and their count.
use Rattle.std.specs.Prelude.{option_to_list, slice_get}
use Rattle.std.proofs.Common.{◌≡◌, ℕ, ◌+◌, List, [], ◌∷◌, ◌++◌, length, take, drop, refl, sym, ap, ◌∙◌, arith, append_assoc, length-append, length-drop}
use Rattle.std.proofs.lemmas.Grind.{flat_map-append}
use Rattle.std.proofs.lemmas.List.{take-append-drop, take-append-le, drop-append-le}
use Rattle.alp_journal.specs.declared.entry.Entry.{Entry}
use Rattle.alp_journal.specs.declared.message.Message.{Message}
use Rattle.alp_posts.specs.Messages.{message_to, messages_in, messages_to, HasGrown}
use Rattle.alp_posts.specs.Places.{IsPlace, passed, passed_in, behind, behind_in}
use Rattle.alp_posts.proofs.MessageLemmas.{messages_append}

-- ---- before a place

split_in : (to act : ℕ) (es : List Entry) → messages_to to es ≡ passed_in to act es ++ behind_in to act es
split_in to act [] = refl
split_in to act (e ∷ es) =
    ap (λ (ms : List Message). ms ++ messages_to to es) (
    ap (messages_in to) (sym (take-append-drop act e.acts))
    ∙ flat_map-append (λ a. option_to_list (message_to to a)) (take act e.acts) (drop act e.acts)
    )
    ∙ append_assoc (messages_in to (take act e.acts)) (messages_in to (drop act e.acts)) (messages_to to es)

split : (to entry act : ℕ) (journal : List Entry) → messages_to to journal ≡ passed to entry act journal ++ behind to entry act journal
split to entry act journal =
    ap (messages_to to) (sym (take-append-drop entry journal))
    ∙ messages_append to (take entry journal) (drop entry journal)
    ∙ ap (λ (ms : List Message). messages_to to (take entry journal) ++ ms) (split_in to act (drop entry journal))
    ∙ sym (append_assoc (messages_to to (take entry journal)) (passed_in to act (drop entry journal)) (behind_in to act (drop entry journal)))

-- as many stand before places of one journal as long as as many stand behind them
count : (to entry act : ℕ) (journal : List Entry) → length (messages_to to journal) ≡ length (passed to entry act journal) + length (behind to entry act journal)
count to entry act journal = ap length (split to entry act journal) ∙ length-append (passed to entry act journal) (behind to entry act journal)

pub same_count : (to e a f b : ℕ) (journal : List Entry) → behind to e a journal ≡ behind to f b journal → length (passed to e a journal) ≡ length (passed to f b journal)
same_count to e a f b journal same =
    let here : length (messages_to to journal) ≡ length (passed to e a journal) + length (behind to e a journal) = count to e a journal in
    let there : length (messages_to to journal) ≡ length (passed to f b journal) + length (behind to f b journal) = count to f b journal in
    let alike : length (behind to e a journal) ≡ length (behind to f b journal) = ap length same in
    omega arith

pub one_more : (to e a f b : ℕ) (m : Message) (journal : List Entry) → behind to e a journal ≡ m ∷ behind to f b journal → length (passed to f b journal) ≡ length (passed to e a journal) + 1
one_more to e a f b m journal first =
    let here : length (messages_to to journal) ≡ length (passed to e a journal) + length (behind to e a journal) = count to e a journal in
    let there : length (messages_to to journal) ≡ length (passed to f b journal) + length (behind to f b journal) = count to f b journal in
    let less : length (behind to e a journal) ≡ length (m ∷ behind to f b journal) = ap length first in
    omega arith

at_seam : {X : Type 0} (xs ys : List X) → slice_get (xs ++ ys) (length xs) ≡ slice_get ys 0
at_seam [] ys = refl
at_seam (x ∷ xs) ys = at_seam xs ys

pub next_at : (to entry act : ℕ) (journal : List Entry) → slice_get (messages_to to journal) (length (passed to entry act journal)) ≡ slice_get (behind to entry act journal) 0
next_at to entry act journal =
    ap (λ (ms : List Message). slice_get ms (length (passed to entry act journal))) (split to entry act journal)
    ∙ at_seam (passed to entry act journal) (behind to entry act journal)

-- ---- as the journal grows

passed_start : (to : ℕ) (es : List Entry) → passed_in to 0 es ≡ []
passed_start to [] = refl
passed_start to (e ∷ es) = refl

still_in : (to act : ℕ) (es more : List Entry) → (es ≡ [] → act ≡ 0) → passed_in to act (es ++ more) ≡ passed_in to act es
still_in to act [] more start = ap (λ (n : ℕ). passed_in to n more) (start refl) ∙ passed_start to more
still_in to act (e ∷ es) more start = refl

still_passed : (to entry act : ℕ) (journal more : List Entry) → IsPlace entry act journal → passed to entry act (journal ++ more) ≡ passed to entry act journal
still_passed to entry act journal more p =
    ap (λ (es : List Entry). messages_to to es ++ passed_in to act (drop entry (journal ++ more))) (take-append-le entry journal more p.within)
    ∙ ap (λ (ms : List Message). messages_to to (take entry journal) ++ ms) (
    ap (passed_in to act) (drop-append-le entry journal more p.within)
    ∙ still_in to act (drop entry journal) more (λ (none : drop entry journal ≡ []). p.start (omega (arith, p.within, length-drop entry journal, ap length none)))
    )

-- the count stays where the journal grows and no message is passed
pub counted : (to e a f b : ℕ) (shown journal : List Entry) → IsPlace e a shown → HasGrown shown journal → behind to f b journal ≡ behind to e a journal → length (passed to f b journal) ≡ length (passed to e a shown)
counted to e a f b shown journal p g same =
    same_count to f b e a journal same
    ∙ ap (λ (es : List Entry). length (passed to e a es)) g.is
    ∙ ap length (still_passed to e a shown g.more p)
