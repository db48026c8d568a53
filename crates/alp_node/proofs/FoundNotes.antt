-- what stands in notes under a name, and what is kept of them in lists
use Rattle.std.specs.Prelude.{cond, Bool, true, false, not, ◌&&◌, ◌||◌, Option, None, Some, map as list_map}
use Rattle.std.specs.List.{filter_map, cons_option, AllByRecursion}
use Rattle.std.specs.Option.{option_and_then}
use Rattle.std.specs.FinMap as map
use Rattle.std.specs.FinMap.{get-entries, entries_sorted, entries-insert}
use Rattle.std.specs.FinMap.Entries.{find, put, by_order, below_all}
use Rattle.std.specs.Cmp.{tied_itself}
use Rattle.std.specs.Cmp.Lexicographic.{nat_list_cmp_total}
use Rattle.std.specs.Ordering.{eq_by_cmp, is_lt, is_eq}
use Rattle.std.specs.declared.cmp.Ordering.{Ordering}
use Rattle.std.specs.declared.cmp.Ordering.TheVariants.{Less, Equal, Greater}
use Rattle.std.proofs.Common.{◌≡◌, ◌⊎◌, inl, inr, ⊎_elim, ℕ, ◌≤◌, ◌^◌, List, [], ◌∷◌, ◌++◌, refl, sym, ◌∙◌, ap, subst}
use Rattle.std.proofs.Math.Dec.{T}
use Rattle.std.proofs.lemmas.Map.Lookups.{exact_bytes}
use Rattle.std.proofs.lemmas.Map.Views.{tells_apart}
use Rattle.alp_base.specs.Notes.{Notes, text_cmp}
use Rattle.alp_base.specs.Orders.{trans_cmp}
use Rattle.alp_base.specs.declared.ids.JoinNo.{JoinNo}
use Rattle.alp_base.specs.declared.ids.TransId.{TransId}
use Rattle.alp_fields.specs.Forms.{whole}
use Rattle.alp_fields.specs.ClockNote.{clock_name}
use Rattle.alp_fields.specs.ReadyNote.{ready_name, ready_form, ready_with, ready_in}
use Rattle.alp_fields.specs.DecisionNote.{decision_name, decision_form, decision_with, decision_in}
use Rattle.alp_fields.specs.declared.ready_note.ReadyPart.{ReadyPart}
use Rattle.alp_fields.specs.declared.decision_note.Decision.{Decision}
use Rattle.alp_fields.proofs.FormLaws.{whole_back, whole_spelled}
use Rattle.alp_fields.proofs.ReadyNoteLaw.{ready_name_law, ready_law, clock_no_ready}
use Rattle.alp_fields.proofs.DecisionNoteLaw.{decision_name_law, decision_law, clock_no_decision}
use Rattle.alp_files.proofs.FilesLemmas.{same-some}
use Rattle.alp_ready.specs.NoteLooks.{ready_at, decision_at}
use Rattle.alp_journal.specs.Ids.{same_trans, same_join}
use Rattle.alp_journal.specs.Opening.{ReadyNote, DecisionNote, ready_noted, decision_noted, ready_kept, decisions_kept}
use Rattle.alp_journal.specs.Coordinator.{Fate, Undrawn, Committed, fate_noted}
use Rattle.alp_journal.specs.Participant.{Phase, Unseen, Ready, phase_noted}
use Rattle.alp_journal.specs.Holder.{Life, early_life, lives_noted}
use Rattle.alp_journal.specs.Account.{has_trans, are_trans_apart}
use Rattle.alp_journal.proofs.IdLemmas.{same_trans-true, same_trans-itself, same_join-true}
use Rattle.alp_journal.proofs.OpenedLemmas.{ready_trans, decided_trans}
use Rattle.alp_journal.proofs.StandLemmas.{same_join-itself}
use Rattle.alp_regain.specs.Notes.{part_note}
use Rattle.alp_regain.specs.Together.{AreTwo, AreApart}
use Rattle.alp_regain.proofs.NoteLemmas.{Entry, there, next}
use Rattle.alp_node.proofs.MapLemmas.{tied_same}

-- ---- members of a list

-- it is one of the list
abbrev pub Has : {A : Type 0} → A → List A → Type 0
Has x [] = ⊥
Has x (y ∷ ys) = (y ≡ x) ⊎ Has x ys

pub each_has : {A : Type 0} (P : A → Type 0) (xs : List A) (x : A) → AllByRecursion P xs → Has x xs → P x
each_has P [] x all has = absurd has
each_has P (y ∷ ys) x all (inl is) = subst P is all.0
each_has P (y ∷ ys) x all (inr more) = each_has P ys x all.1 more

pub all_has : {A : Type 0} (P : A → Type 0) (xs : List A) → ((x : A) → Has x xs → P x) → AllByRecursion P xs
all_has P [] f = tt
all_has P (y ∷ ys) f = (f y (inl refl), all_has P ys (λ x h. f x (inr h)))

-- what is nothing is not something
pub differ : {A : Type 0} (o : Option A) (x : A) → o ≡ None → o ≡ Some x → ⊥
differ o x none some = by (sym none ∙ some)
  where
    by : None ≡ Some x → ⊥
    by wrong = cc

more : {Y : Type 0} (y : Y) (o : Option Y) (ys : List Y) → Has y ys → Has y (cons_option o ys)
more y None ys h = h
more y (Some x) ys h = inr h

-- ---- what is kept of each entry

module _ {Y : Type 0} (f : List ℕ → List ℕ → Option Y) where
  abbrev kept_of : List Entry → List Y
  kept_of es = filter_map (λ (e : Entry). f e.0 e.1) es

  found_in : (es : List Entry) (name value : List ℕ) (y : Y) → find text_cmp name es ≡ Some value → f name value ≡ Some y → Has y (kept_of es)
  found_in [] name value y is keeps = let wrong : None ≡ Some value = is in cc
  found_in (e ∷ es) name value y is keeps = go (eq_by_cmp text_cmp name e.0) refl is (λ at. found_in es name value y at keeps)
    where
      go : (b : Bool) → eq_by_cmp text_cmp name e.0 ≡ b → cond {A = Option (List ℕ)} b (Some e.1) (find text_cmp name es) ≡ Some value → (find text_cmp name es ≡ Some value → Has y (kept_of es)) → Has y (cons_option (f e.0 e.1) (kept_of es))
      go true same at rest =
          let one : name ≡ e.0 = tells_apart exact_bytes name e.0 same in
          let two : e.1 ≡ value = same-some e.1 value at in
          subst (λ (o : Option Y). Has y (cons_option o (kept_of es))) (sym ((λ i. f (sym one i) (two i)) ∙ keeps)) (inl refl)
      go false other at rest = more y (f e.0 e.1) (kept_of es) (rest at)

  -- under a name that is found
  pub kept_has : (notes : Notes) (name value : List ℕ) (y : Y) → map.get notes name ≡ Some value → f name value ≡ Some y → Has y (kept_of (map.entries notes))
  kept_has notes name value y is keeps = found_in (map.entries notes) name value y (sym (get-entries notes name) ∙ is) keeps

  -- and what is kept stands under one
  pub record IsKeptIn (notes : Notes) (y : Y) : Type 0 where
    pub name : List ℕ
    pub value : List ℕ
    pub at : map.get notes name ≡ Some value
    pub keeps : f name value ≡ Some y

  kept_from : (notes : Notes) (before after : List Entry) → before ++ after ≡ map.entries notes → (y : Y) → Has y (kept_of after) → IsKeptIn notes y
  kept_from notes before [] split y has = absurd has
  kept_from notes before (e ∷ after) split y has = go (f e.0 e.1) refl has (λ h. kept_from notes (before ++ e ∷ []) after (next notes before after e split) y h)
    where
      go : (o : Option Y) → f e.0 e.1 ≡ o → Has y (cons_option o (kept_of after)) → (Has y (kept_of after) → IsKeptIn notes y) → IsKeptIn notes y
      go None is h rest = rest h
      go (Some x) is (inl same) rest = record { name = e.0; value = e.1; at = there notes before after e split; keeps = is ∙ ap (λ (z : Y). Some z) same }
      go (Some x) is (inr h) rest = rest h

  pub has_kept : (notes : Notes) (y : Y) → Has y (kept_of (map.entries notes)) → IsKeptIn notes y
  has_kept notes y has = kept_from notes [] (map.entries notes) refl y has

  -- a note of which nothing is kept changes nothing
  passed : (name : List ℕ) → ((value : List ℕ) → f name value ≡ None) → (value : List ℕ) (es : List Entry) → kept_of (put text_cmp name value es) ≡ kept_of es
  passed name none value [] = ap (λ (o : Option Y). cons_option o []) (none value)
  passed name none value (e ∷ es) = go (text_cmp name e.0) refl (passed name none value es)
    where
      go : (o : Ordering) → text_cmp name e.0 ≡ o → kept_of (put text_cmp name value es) ≡ kept_of es → kept_of (by_order o ((name, value) ∷ e ∷ es) ((e.0, value) ∷ es) (e ∷ put text_cmp name value es)) ≡ kept_of (e ∷ es)
      go Less is rest = ap (λ (o : Option Y). cons_option o (kept_of (e ∷ es))) (none value)
      go Equal is rest =
          let same : name ≡ e.0 = exact_bytes name e.0 is in
          ap (λ (o : Option Y). cons_option o (kept_of es)) (ap (λ (n : List ℕ). f n value) (sym same) ∙ none value ∙ sym (none e.1) ∙ ap (λ (n : List ℕ). f n e.1) same)
      go Greater is rest = ap (cons_option (f e.0 e.1)) rest

  pub kept_beside : (notes : Notes) (name value : List ℕ) → ((v : List ℕ) → f name v ≡ None) → kept_of (map.entries (map.insert notes name value)) ≡ kept_of (map.entries notes)
  kept_beside notes name value none = ap kept_of (entries-insert nat_list_cmp_total notes name value) ∙ passed name none value (map.entries notes)

-- ---- ready parts

abbrev ready_read : List ℕ → List ℕ → Option ReadyNote
ready_read name value = ready_noted (ready_in name value)

abbrev decision_read : List ℕ → List ℕ → Option DecisionNote
decision_read name value = decision_noted (decision_in name value)

-- its note stands under its name
pub record IsReadyAt (notes : Notes) (n : ReadyNote) : Type 0 where
  pub part : ReadyPart
  pub named : ready_name.Fits n.join
  pub fits : ready_form.Fits part
  pub at : ready_at notes n.join ≡ Some part
  pub same : part_note (n.join, part) ≡ n

module _ (notes : Notes) where
  then_some : {A B : Type 0} (g : A → Option B) (o : Option A) (b : B) → option_and_then g o ≡ Some b → (a : A) × (o ≡ Some a) × (g a ≡ Some b)
  then_some g None b is = let wrong : None ≡ Some b = is in cc
  then_some g (Some a) b is = (a, refl, is)

  -- from a note that was read
  ready_under : (name value : List ℕ) (x : JoinNo × ReadyPart) → map.get notes name ≡ Some value → (o : Option JoinNo) → whole ready_name name ≡ o → (p : Option ReadyPart) → whole ready_form value ≡ p → ready_with o p ≡ Some x → IsReadyAt notes (part_note x)
  ready_under name value x at None e p f is = let wrong : None ≡ Some x = is in cc
  ready_under name value x at (Some j) e None f is = let wrong : None ≡ Some x = is in cc
  ready_under name value x at (Some j) e (Some p) f is =
      let both : ◌≡◌ {A = JoinNo × ReadyPart} (j, p) x = same-some (j, p) x is in
      let named = whole_spelled ready_name ready_name_law name j e in
      let valued = whole_spelled ready_form ready_law value p f in
      let there_at : ready_at notes j ≡ Some p = ap (λ (n : List ℕ). option_and_then (λ v. whole ready_form v) (map.get notes n)) (sym named.0) ∙ ap (option_and_then (λ v. whole ready_form v)) at ∙ f in
      subst (λ (y : JoinNo × ReadyPart). IsReadyAt notes (part_note y)) both (record { part = p; named = named.1; fits = valued.1; at = there_at; same = refl })

  pub ready_stands : (n : ReadyNote) → Has n (ready_kept notes) → IsReadyAt notes n
  ready_stands n has = go (ready_in k.name k.value) refl k.keeps
    where
      k : IsKeptIn ready_read notes n
      k = has_kept ready_read notes n has

      go : (o : Option (JoinNo × ReadyPart)) → ready_in k.name k.value ≡ o → ready_noted o ≡ Some n → IsReadyAt notes n
      go None e is = let wrong : None ≡ Some n = is in cc
      go (Some x) e is = subst (IsReadyAt notes) (same-some (part_note x) n is) (ready_under k.name k.value x k.at (whole ready_name k.name) refl (whole ready_form k.value) refl e)

  pub ready_has : (j : JoinNo) (p : ReadyPart) → ready_name.Fits j → ready_at notes j ≡ Some p → Has (part_note (j, p)) (ready_kept notes)
  ready_has j p named is =
      let (value, at, read) = then_some (λ v. whole ready_form v) (map.get notes (ready_name.spell j)) p is in
      kept_has ready_read notes (ready_name.spell j) value (part_note (j, p)) at (ap ready_noted ((λ i. ready_with (whole_back ready_name ready_name_law j named i) (read i))))

  -- two of one join are one
  pub one_join : (n m : ReadyNote) → Has n (ready_kept notes) → Has m (ready_kept notes) → n.join ≡ m.join → n ≡ m
  one_join n m hn hm same =
      let a : IsReadyAt notes n = ready_stands n hn in
      let b : IsReadyAt notes m = ready_stands m hm in
      let parts : a.part ≡ b.part = same-some a.part b.part (sym a.at ∙ ap (ready_at notes) same ∙ b.at) in
      sym a.same ∙ (λ i. part_note (same i, parts i)) ∙ b.same

-- ---- decisions

pub record IsDecisionAt (notes : Notes) (d : DecisionNote) : Type 0 where
  pub decision : Decision
  pub named : decision_name.Fits d.stamp.trans
  pub fits : decision_form.Fits decision
  pub at : decision_at notes d.stamp.trans ≡ Some decision
  pub ts : decision.ts ≡ d.stamp.ts
  pub joins : decision.joins ≡ d.joins

abbrev decided_of : TransId × Decision → DecisionNote
decided_of x = record { stamp = record { ts = x.1.ts; trans = x.0 }; joins = x.1.joins }

module _ (notes : Notes) where
  decision_under : (name value : List ℕ) (x : TransId × Decision) → map.get notes name ≡ Some value → (o : Option TransId) → whole decision_name name ≡ o → (p : Option Decision) → whole decision_form value ≡ p → decision_with o p ≡ Some x → IsDecisionAt notes (decided_of x)
  decision_under name value x at None e p f is = let wrong : None ≡ Some x = is in cc
  decision_under name value x at (Some t) e None f is = let wrong : None ≡ Some x = is in cc
  decision_under name value x at (Some t) e (Some d) f is =
      let both : ◌≡◌ {A = TransId × Decision} (t, d) x = same-some (t, d) x is in
      let named = whole_spelled decision_name decision_name_law name t e in
      let valued = whole_spelled decision_form decision_law value d f in
      let there_at : decision_at notes t ≡ Some d = ap (λ (n : List ℕ). option_and_then (λ v. whole decision_form v) (map.get notes n)) (sym named.0) ∙ ap (option_and_then (λ v. whole decision_form v)) at ∙ f in
      subst (λ (y : TransId × Decision). IsDecisionAt notes (decided_of y)) both (record { decision = d; named = named.1; fits = valued.1; at = there_at; ts = refl; joins = refl })

  pub decision_stands : (d : DecisionNote) → Has d (decisions_kept notes) → IsDecisionAt notes d
  decision_stands d has = go (decision_in k.name k.value) refl k.keeps
    where
      k : IsKeptIn decision_read notes d
      k = has_kept decision_read notes d has

      go : (o : Option (TransId × Decision)) → decision_in k.name k.value ≡ o → decision_noted o ≡ Some d → IsDecisionAt notes d
      go None e is = let wrong : None ≡ Some d = is in cc
      go (Some x) e is = subst (IsDecisionAt notes) (same-some (decided_of x) d is) (decision_under k.name k.value x k.at (whole decision_name k.name) refl (whole decision_form k.value) refl e)

  pub decision_has : (t : TransId) (d : Decision) → decision_name.Fits t → decision_at notes t ≡ Some d → Has (record { stamp = record { ts = d.ts; trans = t }; joins = d.joins }) (decisions_kept notes)
  decision_has t d named is =
      let (value, at, read) = then_some notes (λ v. whole decision_form v) (map.get notes (decision_name.spell t)) d is in
      kept_has decision_read notes (decision_name.spell t) value (decided_of (t, d)) at (ap decision_noted ((λ i. decision_with (whole_back decision_name decision_name_law t named i) (read i))))

  pub one_decision : (d e : DecisionNote) → Has d (decisions_kept notes) → Has e (decisions_kept notes) → d.stamp.trans ≡ e.stamp.trans → d ≡ e
  one_decision d e hd he same =
      let a : IsDecisionAt notes d = decision_stands d hd in
      let b : IsDecisionAt notes e = decision_stands e he in
      let one : a.decision ≡ b.decision = same-some a.decision b.decision (sym a.at ∙ ap (decision_at notes) same ∙ b.at) in
      λ i. record { stamp = record { ts = (sym a.ts ∙ ap (λ (x : Decision). x.ts) one ∙ b.ts) i; trans = same i }; joins = (sym a.joins ∙ ap (λ (x : Decision). x.joins) one ∙ b.joins) i }

-- ---- the note of the clock keeps neither

pub clock_beside : (notes : Notes) (value : List ℕ) → (ready_kept (map.insert notes clock_name value) ≡ ready_kept notes) × (decisions_kept (map.insert notes clock_name value) ≡ decisions_kept notes)
clock_beside notes value = (
  kept_beside ready_read notes clock_name value (λ v. ap ready_noted (clock_no_ready v)),
  kept_beside decision_read notes clock_name value (λ v. ap decision_noted (clock_no_decision v)),
)

-- ---- what is looked up in a list of notes

-- the first of that key
module _ {N K P : Type 0} (key : N → K) (same : K → K → Bool) (itself : (k : K) → same k k ≡ true) (is : (k l : K) → same k l ≡ true → k ≡ l) (value : N → P) (none : P) where
  abbrev looked : List N → K → P
  looked [] k = none
  looked (n ∷ ns) k = cond {A = P} (same (key n) k) (value n) (looked ns k)

  pub record IsLooked (ns : List N) (k : K) (p : P) : Type 0 where
    pub note : N
    pub has : Has note ns
    pub of : key note ≡ k
    pub says : p ≡ value note

  pub looked_or : (ns : List N) (k : K) → (looked ns k ≡ none) ⊎ IsLooked ns k (looked ns k)
  looked_or [] k = inl refl
  looked_or (n ∷ ns) k = go (same (key n) k) refl (looked_or ns k)
    where
      go : (b : Bool) → same (key n) k ≡ b → (looked ns k ≡ none) ⊎ IsLooked ns k (looked ns k) → (cond {A = P} b (value n) (looked ns k) ≡ none) ⊎ IsLooked (n ∷ ns) k (cond {A = P} b (value n) (looked ns k))
      go true e rest = inr (record { note = n; has = inl refl; of = is (key n) k e; says = refl })
      go false e (inl nothing) = inl nothing
      go false e (inr l) = inr (record { note = l.note; has = inr l.has; of = l.of; says = l.says })

  pub looked_some : (ns : List N) (n : N) → Has n ns → IsLooked ns (key n) (looked ns (key n))
  looked_some [] n has = absurd has
  looked_some (m ∷ ns) n has = go (same (key m) (key n)) refl has (λ h. looked_some ns n h)
    where
      go : (b : Bool) → same (key m) (key n) ≡ b → (m ≡ n) ⊎ Has n ns → (Has n ns → IsLooked ns (key n) (looked ns (key n))) → IsLooked (m ∷ ns) (key n) (cond {A = P} b (value m) (looked ns (key n)))
      go true e h rest = record { note = m; has = inl refl; of = is (key m) (key n) e; says = refl }
      go false e (inl one) rest = let wrong : false ≡ true = sym e ∙ ap (λ (x : N). same (key x) (key n)) one ∙ itself (key n) in cc
      go false e (inr h) rest = (let l : IsLooked ns (key n) (looked ns (key n)) = rest h in record { note = l.note; has = inr l.has; of = l.of; says = l.says })

phase_looked : (ns : List ReadyNote) (j : JoinNo) → phase_noted ns j ≡ looked (λ (n : ReadyNote). n.join) same_join same_join-itself same_join-true (λ (n : ReadyNote). Ready n.trans n.client n.ts) Unseen ns j
phase_looked [] j = refl
phase_looked (n ∷ ns) j = ap (cond {A = Phase} (same_join n.join j) (Ready n.trans n.client n.ts)) (phase_looked ns j)

life_looked : (ns : List ReadyNote) (t : TransId) → lives_noted ns t ≡ looked (λ (n : ReadyNote). n.trans) same_trans same_trans-itself same_trans-true (λ (n : ReadyNote). Some (early_life n)) None ns t
life_looked [] t = refl
life_looked (n ∷ ns) t = ap (cond {A = Option Life} (same_trans n.trans t) (Some (early_life n))) (life_looked ns t)

fate_looked : (ds : List DecisionNote) (t : TransId) → fate_noted ds t ≡ looked (λ (d : DecisionNote). d.stamp.trans) same_trans same_trans-itself same_trans-true (λ (d : DecisionNote). Committed d.stamp d.joins []) Undrawn ds t
fate_looked [] t = refl
fate_looked (d ∷ ds) t = ap (cond {A = Fate} (same_trans d.stamp.trans t) (Committed d.stamp d.joins [])) (fate_looked ds t)

-- a phase is that of a note, or none
pub record IsPhaseNoted (ns : List ReadyNote) (j : JoinNo) (p : Phase) : Type 0 where
  pub note : ReadyNote
  pub has : Has note ns
  pub of : note.join ≡ j
  pub says : p ≡ Ready note.trans note.client note.ts

pub phase_or : (ns : List ReadyNote) (j : JoinNo) → (phase_noted ns j ≡ Unseen) ⊎ IsPhaseNoted ns j (phase_noted ns j)
phase_or ns j =
    ⊎_elim (λ none. inl (phase_looked ns j ∙ none)) (λ l. inr (record { note = l.note; has = l.has; of = l.of; says = phase_looked ns j ∙ l.says }))
    (looked_or (λ (n : ReadyNote). n.join) same_join same_join-itself same_join-true (λ (n : ReadyNote). Ready n.trans n.client n.ts) Unseen ns j)

pub record IsLifeNoted (ns : List ReadyNote) (t : TransId) (x : Option Life) : Type 0 where
  pub note : ReadyNote
  pub has : Has note ns
  pub of : note.trans ≡ t
  pub says : x ≡ Some (early_life note)

pub life_or : (ns : List ReadyNote) (t : TransId) → (lives_noted ns t ≡ None) ⊎ IsLifeNoted ns t (lives_noted ns t)
life_or ns t =
    ⊎_elim (λ none. inl (life_looked ns t ∙ none)) (λ l. inr (record { note = l.note; has = l.has; of = l.of; says = life_looked ns t ∙ l.says }))
    (looked_or (λ (n : ReadyNote). n.trans) same_trans same_trans-itself same_trans-true (λ (n : ReadyNote). Some (early_life n)) None ns t)

pub record IsFateNoted (ds : List DecisionNote) (t : TransId) (f : Fate) : Type 0 where
  pub note : DecisionNote
  pub has : Has note ds
  pub of : note.stamp.trans ≡ t
  pub says : f ≡ Committed note.stamp note.joins []

pub fate_or : (ds : List DecisionNote) (t : TransId) → (fate_noted ds t ≡ Undrawn) ⊎ IsFateNoted ds t (fate_noted ds t)
fate_or ds t =
    ⊎_elim (λ none. inl (fate_looked ds t ∙ none)) (λ l. inr (record { note = l.note; has = l.has; of = l.of; says = fate_looked ds t ∙ l.says }))
    (looked_or (λ (d : DecisionNote). d.stamp.trans) same_trans same_trans-itself same_trans-true (λ (d : DecisionNote). Committed d.stamp d.joins []) Undrawn ds t)

-- two ready notes of one transaction are one, where all keep apart
not_two : (n : ReadyNote) (ns : List ReadyNote) (m : ReadyNote) → AllByRecursion (AreTwo n) ns → Has m ns → n.trans ≡ m.trans → ⊥
not_two n ns m two has same =
    let t : AreTwo n m = each_has (AreTwo n) ns m two has in
    let wrong : true ≡ false = sym (tied_same m.trans m.trans ∙ same_trans-itself m.trans) ∙ ap (λ (u : TransId). eq_by_cmp trans_cmp u m.trans) (sym same) ∙ t.apart in
    cc

pub one_trans : (ns : List ReadyNote) → AreApart ns → (n m : ReadyNote) → Has n ns → Has m ns → n.trans ≡ m.trans → n ≡ m
one_trans [] apart n m hn hm same = absurd hn
one_trans (o ∷ ns) apart n m (inl a) (inl b) same = sym a ∙ b
one_trans (o ∷ ns) apart n m (inl a) (inr h) same = absurd (not_two o ns m apart.0 h (ap (λ (x : ReadyNote). x.trans) a ∙ same))
one_trans (o ∷ ns) apart n m (inr h) (inl b) same = absurd (not_two o ns n apart.0 h (ap (λ (x : ReadyNote). x.trans) b ∙ sym same))
one_trans (o ∷ ns) apart n m (inr h) (inr k) same = one_trans ns apart.1 n m h k same

pub phase_of : (notes : Notes) (n : ReadyNote) → Has n (ready_kept notes) → phase_noted (ready_kept notes) n.join ≡ Ready n.trans n.client n.ts
phase_of notes n has =
    let l = looked_some (λ (x : ReadyNote). x.join) same_join same_join-itself same_join-true (λ (x : ReadyNote). Ready x.trans x.client x.ts) Unseen (ready_kept notes) n has in
    phase_looked (ready_kept notes) n.join ∙ l.says ∙ ap (λ (x : ReadyNote). Ready x.trans x.client x.ts) (one_join notes l.note n l.has has l.of)

pub life_of : (ns : List ReadyNote) → AreApart ns → (n : ReadyNote) → Has n ns → lives_noted ns n.trans ≡ Some (early_life n)
life_of ns apart n has =
    let l = looked_some (λ (x : ReadyNote). x.trans) same_trans same_trans-itself same_trans-true (λ (x : ReadyNote). Some (early_life x)) None ns n has in
    life_looked ns n.trans ∙ l.says ∙ ap (λ (x : ReadyNote). Some (early_life x)) (one_trans ns apart l.note n l.has has l.of)

pub fate_of : (notes : Notes) (d : DecisionNote) → Has d (decisions_kept notes) → fate_noted (decisions_kept notes) d.stamp.trans ≡ Committed d.stamp d.joins []
fate_of notes d has =
    let l = looked_some (λ (x : DecisionNote). x.stamp.trans) same_trans same_trans-itself same_trans-true (λ (x : DecisionNote). Committed x.stamp x.joins []) Undrawn (decisions_kept notes) d has in
    fate_looked (decisions_kept notes) d.stamp.trans ∙ l.says ∙ ap (λ (x : DecisionNote). Committed x.stamp x.joins []) (one_decision notes l.note d l.has has l.of)

-- ---- each of a transaction of its own

none_named : (t : TransId) (n : ReadyNote) (ns : List ReadyNote) → n.trans ≡ t → AllByRecursion (AreTwo n) ns → has_trans t (ready_trans ns) ≡ false
none_named t n [] at two = refl
none_named t n (m ∷ ns) at two =
    ap (λ (b : Bool). b || has_trans t (ready_trans ns)) (go (same_trans m.trans t) refl) ∙ none_named t n ns at two.1
  where
    go : (b : Bool) → same_trans m.trans t ≡ b → b ≡ false
    go false e = refl
    go true e =
        let one : n.trans ≡ m.trans = at ∙ sym (same_trans-true m.trans t e) in
        let wrong : true ≡ false = sym (tied_same m.trans m.trans ∙ same_trans-itself m.trans) ∙ ap (λ (u : TransId). eq_by_cmp trans_cmp u m.trans) (sym one) ∙ two.0.apart in
        cc

pub ready_apart : (ns : List ReadyNote) → AreApart ns → are_trans_apart (ready_trans ns) ≡ true
ready_apart [] apart = refl
ready_apart (n ∷ ns) apart = ap (λ (b : Bool). not b && are_trans_apart (ready_trans ns)) (none_named n.trans n ns refl apart.0) ∙ ready_apart ns apart.1

first : (a b : Bool) → T (a && b) → T a
first true b h = tt
first false b h = absurd h

second : (a b : Bool) → T (a && b) → T b
second true b h = h
second false b h = absurd h

not_below_itself : (name : List ℕ) → T (is_lt (text_cmp name name)) → ⊥
not_below_itself name h = subst (λ (o : Ordering). T (is_lt o)) (tied_itself nat_list_cmp_total name) h

abbrev decided_in : List Entry → List DecisionNote
decided_in es = filter_map (λ (e : Entry). decision_noted (decision_in e.0 e.1)) es

-- the name of a note that keeps a decision
decision_spelled : (name value : List ℕ) (o : Option TransId) → whole decision_name name ≡ o → (p : Option Decision) → (x : TransId × Decision) → decision_with o p ≡ Some x → name ≡ decision_name.spell x.0
decision_spelled name value None e p x is = let wrong : None ≡ Some x = is in cc
decision_spelled name value (Some t) e None x is = let wrong : None ≡ Some x = is in cc
decision_spelled name value (Some t) e (Some d) x is = (whole_spelled decision_name decision_name_law name t e).0 ∙ ap (λ (y : TransId × Decision). decision_name.spell y.0) (same-some (t, d) x is)

none_later : (name : List ℕ) (t : TransId) → name ≡ decision_name.spell t → (es : List Entry) → T (below_all text_cmp name es) → has_trans t (decided_trans (decided_in es)) ≡ false
none_later name t spelled [] low = refl
none_later name t spelled (e ∷ es) low = go (decision_in e.0 e.1) refl (none_later name t spelled es (second (is_lt (text_cmp name e.0)) (below_all text_cmp name es) low))
  where
    other : (y : TransId × Decision) → decision_in e.0 e.1 ≡ Some y → (b : Bool) → same_trans y.0 t ≡ b → b ≡ false
    other y is false f = refl
    other y is true f =
        let same : name ≡ e.0 = spelled ∙ ap (λ (u : TransId). decision_name.spell u) (sym (same_trans-true y.0 t f)) ∙ sym (decision_spelled e.0 e.1 (whole decision_name e.0) refl (whole decision_form e.1) y is) in
        absurd (not_below_itself name (subst (λ (n : List ℕ). T (is_lt (text_cmp name n))) (sym same) (first (is_lt (text_cmp name e.0)) (below_all text_cmp name es) low)))

    go : (o : Option (TransId × Decision)) → decision_in e.0 e.1 ≡ o → has_trans t (decided_trans (decided_in es)) ≡ false → has_trans t (decided_trans (cons_option (decision_noted o) (decided_in es))) ≡ false
    go None is rest = rest
    go (Some y) is rest = ap (λ (b : Bool). b || has_trans t (decided_trans (decided_in es))) (other y is (same_trans y.0 t) refl) ∙ rest

apart_each : (es : List Entry) → T (map.is_sorted text_cmp es) → are_trans_apart (decided_trans (decided_in es)) ≡ true
apart_each [] sorted = refl
apart_each (e ∷ es) sorted = go (decision_in e.0 e.1) refl (apart_each es (second (below_all text_cmp e.0 es) (map.is_sorted text_cmp es) sorted))
  where
    go : (o : Option (TransId × Decision)) → decision_in e.0 e.1 ≡ o → are_trans_apart (decided_trans (decided_in es)) ≡ true → are_trans_apart (decided_trans (cons_option (decision_noted o) (decided_in es))) ≡ true
    go None is rest = rest
    go (Some y) is rest =
        ap (λ (b : Bool). not b && are_trans_apart (decided_trans (decided_in es)))
        (none_later e.0 y.0 (decision_spelled e.0 e.1 (whole decision_name e.0) refl (whole decision_form e.1) y is) es (first (below_all text_cmp e.0 es) (map.is_sorted text_cmp es) sorted))
        ∙ rest

pub decided_apart : (notes : Notes) → are_trans_apart (decided_trans (decisions_kept notes)) ≡ true
decided_apart notes = apart_each (map.entries notes) (entries_sorted notes)
