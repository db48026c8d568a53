-- what each wrong log lacks
use Rattle.std.specs.Prelude.{codes, Bool, true, false, ◌&&◌, ◌||◌, not, leb, unwrap_or, Some, IsTrue, take}
use Rattle.std.specs.List.{list_any}
use Rattle.std.proofs.Common.{◌≡◌, ℕ, zero, suc, ◌<◌, ◌≤◌, List, [], ◌∷◌, ◌++◌, slice_get, refl, sym, ap, subst, ◌∙◌, inl, inr, arith}
use Rattle.std.proofs.lemmas.Bool.{and_parts, leb-true}
use Rattle.alp_base.specs.declared.key.Key.TheVariants.{OwnerOf}
use Rattle.alp_base.specs.declared.key.Resource.TheVariants.{Leaf}
use Rattle.alp_modes.specs.Modes.{agree}
use Rattle.alp_files.specs.Holdings.{agree_held}
use Rattle.alp_files.specs.declared.refusal.Cause.TheVariants as cause
use Rattle.alp_journal.specs.declared.act.Act.{Act}
use Rattle.alp_journal.specs.declared.act.Act.TheVariants as act
use Rattle.alp_journal.specs.declared.message.Message.TheVariants as msg
use Rattle.alp_journal.specs.declared.entry.Entry.{Entry}
use Rattle.alp_journal.specs.Along.{state_after}
use Rattle.alp_journal.specs.Deeds.{Grants}
use Rattle.alp_journal.specs.State.{State, opened, state_deed}
use Rattle.alp_journal.specs.Moves.{next}
use Rattle.alp_journal.specs.Laws.{IsLawful, IsLawfulEntry}
use Rattle.alp_history.specs.Log.{IsIn, AreLawful, IsLinked, ServerLog}
use Rattle.alp_history.specs.Examples.{trans, join}
use Rattle.alp_history.specs.RightLog.{second, second_join, opening, sets, hello, ranks_one, ranks_two, runs, nothing, one_with, one_decides, one_votes, one, two_votes, two_with, two}
use Rattle.alp_history.specs.WrongLogs.{two_crossed, ranks_crossed, crossed, one_tells, undecided, one_lets_go, unlocked, two_drops, forged, ranks_late, hurried, AreOpposite, AreWrong}
use Rattle.alp_history.proofs.Places.{along-at, some-same}
use Rattle.alp_journal.proofs.IdLemmas.{or-true}
use Rattle.alp_history.proofs.Worked.{life_at}
use Rattle.alp_history.proofs.Steps.{lives_there}
use Rattle.alp_history.proofs.LinkLemmas.{each_both, links_both}
use Rattle.alp_history.proofs.RightOne.{up_to_vote, up_to_question, lawful as one_lawful}
use Rattle.alp_history.proofs.RightTwo.{ts, js, at_7, known_7, voted_then, lawful as two_lawful}
use Rattle.alp_history.proofs.Named.{Only, only_next, alone}
use Rattle.alp_history.proofs.LawfulDeeds.{begins}
use Rattle.alp_history.proofs.LawfulEntries.{by_laws, second_bare}
use Rattle.alp_history.proofs.RightProper.{by_two, different, sound}
use Rattle.alp_history.proofs.ForgedTwo.{lawful as forged_lawful}

-- ---- the messages of those that are linked

linked_crossed : IsLinked crossed
linked_crossed = links_both nothing (runs 1 ranks_one one) (runs 2 ranks_crossed two_crossed) refl refl refl refl refl refl

linked_undecided : IsLinked undecided
linked_undecided = links_both nothing (runs 1 ranks_one (one_with one_tells one_votes)) (runs 2 ranks_two two) refl refl refl refl refl refl

linked_unlocked : IsLinked unlocked
linked_unlocked = links_both nothing (runs 1 ranks_one (one_with one_decides one_lets_go)) (runs 2 ranks_two two) refl refl refl refl refl refl

-- ---- in opposite orders

abbrev by_crossed : ℕ → Entry
by_crossed i = unwrap_or (slice_get two_crossed i) (hello 0)

abbrev both_hold : State
both_hold = state_deed (state_after next (opened (opening 2)) (two_votes ++ (hello 2 ∷ by_crossed 8 ∷ []))) (Grants second (sets second 7))

disagree : IsTrue (agree_held ((life_at both_hold trans).held (Leaf (OwnerOf (codes "ann")))) ((life_at both_hold second).held (Leaf (OwnerOf (codes "ann"))))) → ⊥
unfolding agree
disagree h = let wrong : false ≡ true = h in cc

crossed_there : IsLawful (opening 2) (take 10 two_crossed) → ⊥
crossed_there h =
    let law = along-at next IsLawfulEntry (opened (opening 2)) (take 10 two_crossed) 9 (by_crossed 9) h refl in
    disagree (law.deeds.0.locks.1 trans second (life_at both_hold trans) (life_at both_hold second) (lives_there both_hold trans refl) (lives_there both_hold second refl) refl (Leaf (OwnerOf (codes "ann"))))

-- while the first transaction is ready the second one's client greets and begins
abbrev greeted : State
greeted = next at_7 (hello 2)

known_greeted : Only ts js greeted
known_greeted = only_next ts js at_7 (hello 2) refl known_7

greets : IsLawfulEntry at_7 (hello 2)
greets = by_laws at_7 (hello 2) refl refl refl tt
    (alone ts js trans greeted known_greeted refl)
    ((refl, refl), tt) tt tt (refl, refl) tt

begins_second : IsLawfulEntry greeted (by_crossed 8)
begins_second = by_laws greeted (by_crossed 8) refl refl refl (begins (by_crossed 8).event greeted second 1 (codes "Admin") 0 refl, tt)
    (second_bare ts js trans second (next greeted (by_crossed 8)) (only_next ts js greeted (by_crossed 8) refl known_greeted) refl refl)
    ((refl, refl), tt) (tt, tt) tt (refl, refl) tt

crossed_up_to : IsLawful (opening 2) (take 9 two_crossed)
crossed_up_to = voted_then (hello 2 ∷ by_crossed 8 ∷ []) (greets, (begins_second, tt))

opposite : AreOpposite
opposite = record {
  first_decided = refl;
  second_decided = refl;
  first_at_one = (refl, refl);
  second_at_one = (refl, refl);
  second_at_two = (refl, refl);
  first_at_two = (refl, refl);
}

-- ---- without a decision

undecided_there : IsLawful (opening 1) (take 6 (one_with one_tells one_votes)) → ⊥
undecided_there h = absurd ((along-at next IsLawfulEntry (opened (opening 1)) (take 6 (one_with one_tells one_votes)) 5 one_tells h refl).said.1.0)

-- ---- a read lock let go at the vote

unlocked_there : IsLawful (opening 1) (take 15 (one_with one_decides one_lets_go)) → ⊥
unlocked_there h = (along-at next IsLawfulEntry (opened (opening 1)) (take 15 (one_with one_decides one_lets_go)) 14 one_lets_go h refl).deeds.1.0.locks.1.1 second_join refl

-- ---- not sent, or not yet

-- of what stands below this rank nothing is such an act
abbrev is_unsent : (Act → Bool) → ℕ → List ℕ → List Entry → Bool
is_unsent p rank rs [] = true
is_unsent p rank [] (e ∷ es) = not (list_any p e.acts) && is_unsent p rank [] es
is_unsent p rank (r ∷ rs) (e ∷ es) = (leb rank r || not (list_any p e.acts)) && is_unsent p rank rs es

any_in : (p : Act → Bool) (xs : List Act) (x : Act) → IsIn x xs → p x ≡ true → list_any p xs ≡ true
any_in p [] x i h = absurd i
any_in p (y ∷ ys) x i h = go (p y) refl i (λ more. any_in p ys x more h)
  where
    go : (b : Bool) → p y ≡ b → IsIn x (y ∷ ys) → (IsIn x ys → list_any p ys ≡ true) → (b || list_any p ys) ≡ true
    go true e k rest = refl
    go false e k rest = elim k [ inl same ↦ (let wrong : true ≡ false = sym h ∙ ap p same ∙ e in cc) | inr more ↦ rest more ]

none_any : (p : Act → Bool) (xs : List Act) (x : Act) → IsIn x xs → p x ≡ true → not (list_any p xs) ≡ true → ⊥
none_any p xs x i h k = let wrong : false ≡ true = ap not (sym (any_in p xs x i h)) ∙ k in cc

not_sent : (p : Act → Bool) (rank : ℕ) (rs : List ℕ) (es : List Entry) → is_unsent p rank rs es ≡ true → (place : ℕ) (e : Entry) (x : Act)
    → slice_get es place ≡ Some e → IsIn x e.acts → p x ≡ true → unwrap_or (slice_get rs place) 0 < rank → ⊥
not_sent p rank rs [] n place e x at i h l = cc
not_sent p rank [] (y ∷ es) n zero e x at i h l =
    none_any p y.acts x (subst (λ (z : Entry). IsIn x z.acts) (sym (some-same y e at)) i) h (and_parts (not (list_any p y.acts)) (is_unsent p rank [] es) n).0
not_sent p rank [] (y ∷ es) n (suc place) e x at i h l = not_sent p rank [] es (and_parts (not (list_any p y.acts)) (is_unsent p rank [] es) n).1 place e x at i h l
not_sent p rank (r ∷ rs) (y ∷ es) n zero e x at i h l = elim (or-true (leb rank r) (not (list_any p y.acts)) (and_parts (leb rank r || not (list_any p y.acts)) (is_unsent p rank rs es) n).0) [
  | inl late ↦ (let over : rank ≤ r = leb-true rank r late in omega (arith, l, over))
  | inr none ↦ none_any p y.acts x (subst (λ (z : Entry). IsIn x z.acts) (sym (some-same y e at)) i) h none
]
not_sent p rank (r ∷ rs) (y ∷ es) n (suc place) e x at i h l =
    not_sent p rank rs es (and_parts (leb rank r || not (list_any p y.acts)) (is_unsent p rank rs es) n).1 place e x at i h l

abbrev is_abort : Act → Bool
is_abort (act.Sent to (msg.Abort t j c)) = true
is_abort a = false

abbrev is_welcome : Act → Bool
is_welcome (act.Sent to (msg.Joined t j)) = true
is_welcome a = false

unlinked_forged : IsLinked forged → ⊥
unlinked_forged h =
    let w = h.sent 2 7 1 two_drops (msg.Abort trans join cause.Asked) refl refl in
    not_sent is_abort 16 ranks_one one refl w.place w.entry (act.Sent 2 (msg.Abort trans join cause.Asked)) w.stands w.sent refl w.earlier

unlinked_hurried : IsLinked hurried → ⊥
unlinked_hurried h =
    let w = h.sent 2 2 1 (by_two 2) (msg.Joined trans join) refl refl in
    not_sent is_welcome 7 ranks_late one refl w.place w.entry (act.Sent 2 (msg.Joined trans join)) w.stands w.sent refl w.earlier

lawful_forged : AreLawful forged
lawful_forged = each_both nothing (runs 1 ranks_one one) (runs 2 ranks_two (two_with two_drops)) (λ n x. IsLawful x.opening x.journal) one_lawful forged_lawful (λ m. tt)

lawful_hurried : AreLawful hurried
lawful_hurried = each_both nothing (runs 1 ranks_late one) (runs 2 ranks_two two) (λ n x. IsLawful x.opening x.journal) one_lawful two_lawful (λ m. tt)

-- ---- all of them

-- the journals of the other server are lawful
abbrev LawfulBut : ℕ → ℕ → ServerLog → Type 0
LawfulBut n m z = (m ≡ n → ⊥) → IsLawful z.opening z.journal

pub wrong : AreWrong
wrong = record {
  opposite_orders = (
    opposite,
    record {
      different = different nothing ranks_one ranks_crossed one two_crossed;
      sound = sound nothing ranks_one ranks_crossed one two_crossed;
      linked = linked_crossed;
      others = each_both nothing (runs 1 ranks_one one) (runs 2 ranks_crossed two_crossed) (LawfulBut 2) (λ k. one_lawful) (λ k. absurd (k refl)) (λ m k. tt);
      up_to = crossed_up_to;
      there = crossed_there;
    },
  );
  no_decision = record {
    different = different nothing ranks_one ranks_two (one_with one_tells one_votes) two;
    sound = sound nothing ranks_one ranks_two (one_with one_tells one_votes) two;
    linked = linked_undecided;
    others = each_both nothing (runs 1 ranks_one (one_with one_tells one_votes)) (runs 2 ranks_two two) (LawfulBut 1) (λ k. absurd (k refl)) (λ k. two_lawful) (λ m k. tt);
    up_to = up_to_vote;
    there = undecided_there;
  };
  early_release = record {
    different = different nothing ranks_one ranks_two (one_with one_decides one_lets_go) two;
    sound = sound nothing ranks_one ranks_two (one_with one_decides one_lets_go) two;
    linked = linked_unlocked;
    others = each_both nothing (runs 1 ranks_one (one_with one_decides one_lets_go)) (runs 2 ranks_two two) (LawfulBut 1) (λ k. absurd (k refl)) (λ k. two_lawful) (λ m k. tt);
    up_to = up_to_question;
    there = unlocked_there;
  };
  nobody_sent = record { different = different nothing ranks_one ranks_two one (two_with two_drops); sound = sound nothing ranks_one ranks_two one (two_with two_drops); lawful = lawful_forged; unlinked = unlinked_forged };
  before_it_was_sent = record { different = different nothing ranks_late ranks_two one two; sound = sound nothing ranks_late ranks_two one two; lawful = lawful_hurried; unlinked = unlinked_hurried };
}
