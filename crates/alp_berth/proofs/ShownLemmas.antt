-- what stands at a place of all that a berth's server sent
use Rattle.std.specs.Prelude.{slice_get, slice_index_or, min, flat_map, Option, Some, None, IfSome, IfNone, take}
use Rattle.std.specs.List.{AllByRecursion}
use Rattle.std.proofs.Common.{inl, inr, ◌⊎◌, ◌≡◌, ℕ, zero, suc, ◌+◌, ◌-◌, ◌<◌, ◌≤◌, ◌^◌, List, [], ◌∷◌, ◌++◌, length, refl, sym, ap, ◌∙◌, subst, arith, length-append}
use Rattle.alp_journal.specs.Timely.{IsTimelyMessage}
use Rattle.alp_journal.specs.declared.entry.Entry.{Entry}
use Rattle.alp_journal.specs.declared.message.Envelope.{Envelope}
use Rattle.alp_journal.specs.declared.message.Message.{Message}
use Rattle.alp_journal.specs.declared.message.Message.TheVariants as msg
use Rattle.alp_files.specs.declared.refusal.Why.{Why}
use Rattle.alp_files.specs.declared.refusal.Why.TheVariants as why
use Rattle.alp_base.specs.declared.ids.TransId.{TransId}
use Rattle.alp_base.specs.declared.ids.JoinNo.{JoinNo}
use Rattle.alp_vault.specs.declared.vault.Vault.{Ghosts}
use Rattle.alp_node.specs.Halts.{MaySay}
use Rattle.alp_node.specs.NodeStates.{NodeState}
use Rattle.alp_node.specs.Nodes.{IsConsistent, sent_in}
use Rattle.alp_carrier.specs.Sights.{IsShown}
use Rattle.alp_berth.specs.Sends.{sent_by, capped, counts_from, count_in}
use Rattle.alp_berth.specs.Berths.{ranked, sent_ranked, stood, last_of, sight_of, IsBerth, AreCounted}
use Rattle.alp_berth.specs.declared.made.Made.{Made}
use Rattle.alp_berth.proofs.SendLemmas.{get_first, get_second, same_some, counts_long, count_at, count_upto, sent_long, sent_there, rank_below}
use Rattle.alp_berth.proofs.EntryLemmas.{es, all_ranked, last_all}

module _ {A : Type 0} where
  at_place : (xs : List A) (i : ℕ) → i < length xs → (x : A) × (slice_get xs i ≡ Some x)
  at_place [] i low = absurd (omega (arith, low))
  at_place (x ∷ xs) zero low = (x, refl)
  at_place (x ∷ xs) (suc i) low = at_place xs i (omega (arith, low))

  within : (xs : List A) (i : ℕ) (x : A) → slice_get xs i ≡ Some x → i < length xs
  within [] i x e = absurd (let f : None ≡ Some x = e in cc)
  within (y ∷ ys) zero x e = omega arith
  within (y ∷ ys) (suc i) x e = (let l = within ys i x e in omega (arith, l))

  all_at : (P : A → Type 0) (xs : List A) (i : ℕ) (x : A) → slice_get xs i ≡ Some x → AllByRecursion P xs → P x
  all_at P [] i x e all = absurd (let f : None ≡ Some x = e in cc)
  all_at P (y ∷ ys) zero x e all = subst P (same_some y x e) all.0
  all_at P (y ∷ ys) (suc i) x e all = all_at P ys i x e all.1

  take_whole : (xs : List A) (n : ℕ) → length xs ≤ n → take n xs ≡ xs
  take_whole [] zero low = refl
  take_whole [] (suc n) low = refl
  take_whole (x ∷ xs) zero low = absurd (omega (arith, low))
  take_whole (x ∷ xs) (suc n) low = ap (λ l. x ∷ l) (take_whole xs n (omega (arith, low)))

-- the message stands there among all that the entries sent
plain_there : (js : List Entry) (i : ℕ) (e : Entry) (k : ℕ) (x : Envelope) → slice_get js i ≡ Some e → slice_get (sent_by e.acts) k ≡ Some x → slice_get (sent_in js) (count_in (take i js) + k) ≡ Some x
plain_there [] i e k x at is = absurd (let f : None ≡ Some e = at in cc)
plain_there (y ∷ ys) zero e k x at is =
    let here : slice_get (sent_by y.acts) k ≡ Some x = ap (λ (z : Entry). slice_get (sent_by z.acts) k) (same_some y e at) ∙ is in
    let m : 0 + k ≡ k = omega arith in
    ap (λ n. slice_get (sent_by y.acts ++ sent_in ys) n) m ∙ get_first (sent_by y.acts) (sent_in ys) k x here
plain_there (y ∷ ys) (suc i) e k x at is =
    let m : (length (sent_by y.acts) + count_in (take i ys)) + k ≡ length (sent_by y.acts) + (count_in (take i ys) + k) = omega arith in
    ap (λ n. slice_get (sent_by y.acts ++ sent_in ys) n) m ∙ (get_second (sent_by y.acts) (sent_in ys) (count_in (take i ys) + k) ∙ plain_there ys i e k x at is)

no_timely : (t : TransId) (j : JoinNo) (y : Why) → MaySay (msg.No t j y) → IsTimelyMessage (msg.No t j y)
no_timely t j y h = tt

may_timely : (m : Message) → MaySay m → IsTimelyMessage m
may_timely (msg.Ready t j ts) h = h
may_timely (msg.Commit t j stamp) h = h
may_timely (msg.No t j y) h = no_timely t j y h
may_timely (msg.Register t j client) h = tt
may_timely (msg.Joined t j) h = tt
may_timely (msg.JoinRefused t j) h = tt
may_timely (msg.Ask t j) h = tt
may_timely (msg.Abort t j cause) h = tt
may_timely (msg.Done t j) h = tt
may_timely (msg.Inquire t j) h = tt

module _ {V : Type 0} (G : Ghosts V) (made : Made V) (n : NodeState V) (ranks : List ℕ) (h : IsBerth G made n ranks) (counts : List ℕ) (counts_are : counts ≡ counts_from 0 n.journal) (place : ℕ) (small : place < 2 ^ 32) where
  -- the count at a place is exact
  exact : (i c : ℕ) → slice_get counts i ≡ Some c → c ≤ place → c ≡ count_in (take i n.journal)
  exact i c at low =
      let is : c ≡ capped (0 + count_in (take i n.journal)) = count_at 0 n.journal i c (ap (λ l. slice_get l i) (sym counts_are) ∙ at) in
      let m : c ≡ min (count_in (take i n.journal)) 18446744073709551615 = is ∙ (let z : 0 + count_in (take i n.journal) ≡ count_in (take i n.journal) = omega arith in ap capped z) in
      omega (arith, m, low, small)

  pub shown : (i c k : ℕ) (e : Entry) (x : Envelope) → IsConsistent G n → slice_get counts i ≡ Some c → c ≤ place → k ≡ place - c → slice_get n.journal i ≡ Some e → slice_get (sent_by e.acts) k ≡ Some x → IsShown sight_of made (es G made n ranks h) place x
  shown i c k e x sound at low k_is e_at x_at =
      let r = at_place ranks i (let w = within n.journal i e e_at in let l = h.long in omega (arith, w, l)) in
      let c_is = exact i c at low in
      let there : count_in (take i n.journal) + k ≡ place = omega (arith, c_is, k_is, low) in
      record {
        rank = r.0;
        sent_is = ap (λ l. slice_get (sent_ranked l) place) (all_ranked G made n ranks h) ∙ (ap (λ p. slice_get (sent_ranked (ranked n.journal ranks)) p) (sym there) ∙ sent_there n.journal ranks i e r.0 k x e_at r.1 x_at);
        earlier = (let b = rank_below 0 ranks i r.0 h.rising r.1 in let a = last_all G made n ranks h in omega (arith, b, a));
        timely = may_timely x.message (all_at (λ (y : Envelope). MaySay y.message) (sent_in n.journal) place x (ap (λ p. slice_get (sent_in n.journal) p) (sym there) ∙ plain_there n.journal i e k x e_at x_at) sound.said);
      }

  all_long : length (sent_ranked (stood made ++ es G made n ranks h)) ≡ count_in n.journal
  all_long = ap (λ l. length (sent_ranked l)) (all_ranked G made n ranks h) ∙ sent_long n.journal ranks h.long

  -- nothing stands there where no entry counts as few
  pub none_first : ((c : ℕ) → slice_get counts 0 ≡ Some c → place < c) → length (sent_ranked (stood made ++ es G made n ranks h)) ≤ place
  none_first above = go n.journal refl
    where
      go : (js : List Entry) → n.journal ≡ js → length (sent_ranked (stood made ++ es G made n ranks h)) ≤ place
      go [] is = (let a = all_long in let z : count_in n.journal ≡ 0 = ap count_in is in omega (arith, a, z))
      go (j ∷ js) is = (let a = above (capped 0) (ap (λ l. slice_get l 0) (counts_are ∙ ap (counts_from 0) is)) in absurd (omega (arith, a)))

  -- nor where the last that counts so few has fewer
  pub none_there : (i c k : ℕ) (e : Entry) → slice_get counts i ≡ Some c → c ≤ place → k ≡ place - c → slice_get n.journal i ≡ Some e → ((m : ℕ) → slice_get counts (i + 1) ≡ Some m → place < m) → length (sent_by e.acts) ≤ k → length (sent_ranked (stood made ++ es G made n ranks h)) ≤ place
  none_there i c k e at low k_is e_at next few = go (lower (i + 1) (length n.journal))
    where
      upto : count_in (take (i + 1) n.journal) ≡ count_in (take i n.journal) + length (sent_by e.acts)
      upto = count_upto n.journal i e e_at

      c_is : c ≡ count_in (take i n.journal)
      c_is = exact i c at low

      lower : (a b : ℕ) → (a < b) ⊎ (b ≤ a)
      lower zero zero = inr (omega arith)
      lower zero (suc b) = inl (omega arith)
      lower (suc a) zero = inr (omega arith)
      lower (suc a) (suc b) = elim (lower a b) [ inl l ↦ inl (omega (arith, l)) | inr l ↦ inr (omega (arith, l)) ]

      go : ((i + 1) < length n.journal) ⊎ (length n.journal ≤ (i + 1)) → length (sent_ranked (stood made ++ es G made n ranks h)) ≤ place
      go (inl more) =
          let m = at_place counts (i + 1) (let l = ap length counts_are ∙ counts_long 0 n.journal in omega (arith, more, l)) in
          let m_is : m.0 ≡ capped (0 + count_in (take (i + 1) n.journal)) = count_at 0 n.journal (i + 1) m.0 (ap (λ l. slice_get l (i + 1)) (sym counts_are) ∙ m.1) in
          let above = next m.0 m.1 in
          absurd (omega (arith, m_is, above, upto, c_is, k_is, few, low))
      go (inr end) =
          let whole : count_in (take (i + 1) n.journal) ≡ count_in n.journal = ap count_in (take_whole n.journal (i + 1) end) in
          let a = all_long in
          omega (arith, whole, a, upto, c_is, k_is, few, low)

pub found_within : (cs counts : List ℕ) (js : List Entry) (i c : ℕ) → slice_get cs i ≡ Some c → cs ≡ counts → counts ≡ counts_from 0 js → (i < length counts) × (i < length js)
found_within cs counts js i c at is are =
    let low : i < length counts = within counts i c (ap (λ l. slice_get l i) (sym is) ∙ at) in
    (low, (let l = ap length are ∙ counts_long 0 js in omega (arith, low, l)))

pub some_as : {T : Type 0} (P Q : T → Type 0) (o : Option T) → ((x : T) → P x → Q x) → IfSome o P → IfSome o Q
some_as P Q None f h = tt
some_as P Q (Some x) f h = f x h

pub none_as : {T : Type 0} (A B : Type 0) (o : Option T) → (A → B) → IfNone o A → IfNone o B
none_as A B None f h = f h
none_as A B (Some x) f h = tt
