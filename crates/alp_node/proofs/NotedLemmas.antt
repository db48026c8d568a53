-- the notes of a server, and the room of the parts that voted, stay as they are where no such part changes
use Rattle.std.specs.Prelude.{cond, Bool, true, false, ◌==◌, ◌||◌, not, find, flat_map, Option, None, Some, is_some, map as list_map}
use Rattle.std.specs.List.{list_any, AllByRecursion}
use Rattle.std.specs.Option.{option_or}
use Rattle.std.specs.FinMap as map
use Rattle.std.proofs.lemmas.List.Folds.{find-append}
use Rattle.std.proofs.Common.{◌≡◌, ℕ, List, [], ◌∷◌, ◌++◌, refl, sym, ◌∙◌, ap, subst, inl, inr, ◌≤◌}
use Rattle.alp_base.specs.Notes.{Notes}
use Rattle.alp_base.specs.declared.ids.JoinNo.{JoinNo}
use Rattle.alp_base.specs.declared.ids.TransId.{TransId}
use Rattle.alp_fields.specs.declared.decision_note.Decision.{Decision}
use Rattle.alp_fields.specs.declared.ready_note.ReadyPart.{ReadyPart}
use Rattle.alp_vault.specs.Volumes.{AreServerNotes}
use Rattle.alp_journal.specs.Account.{Account, Stands, IsJoined}
use Rattle.alp_journal.specs.Holder.{Life}
use Rattle.alp_journal.specs.Ids.{same_trans, same_join}
use Rattle.alp_journal.specs.Messages.{trans_ready}
use Rattle.alp_journal.specs.Participant.{Phase, Unseen, Joining, Active, Ready, Applied, Over, is_ready}
use Rattle.alp_journal.specs.State.{State}
use Rattle.alp_journal.proofs.IdLemmas.{same_trans-true, same_join-true}
use Rattle.alp_journal.specs.Laws.{IsHolding}
use Rattle.alp_journal.proofs.StandLemmas.{same_join-itself, life_of, pair_of, join_part_is}
use Rattle.alp_files.proofs.FilesLemmas.{same-some}
use Rattle.alp_coord.specs.declared.coordinator.Coordinator.{Coordinator}
use Rattle.alp_coord.specs.Coordinators.{fate_in}
use Rattle.alp_worker.specs.declared.joins.Joins.{Joins}
use Rattle.alp_worker.specs.declared.live.LiveJoin.{LiveJoin}
use Rattle.alp_worker.specs.declared.live.Stage.{Stage}
use Rattle.alp_worker.specs.declared.live.Stage.TheVariants as stage
use Rattle.alp_worker.specs.declared.room.PartSize.{PartSize}
use Rattle.alp_worker.specs.Lives.{is_open, is_at, join_at, phase_in, AreOnce}
use Rattle.alp_worker.specs.Rooms.{sum_of}
use Rattle.alp_worker.specs.Walks.{ready_in}
use Rattle.alp_node.specs.Durable.{IsKeptIf, IsReadyNote, AreNotesOf}
use Rattle.alp_ready.specs.NoteLooks.{ready_at}
use Rattle.alp_node.specs.Noted.{decision_kept, size_of, size_in, ready_room, HasSize, IsNotedAs, IsNotedJoin, AreNoted}
use Rattle.alp_node.specs.Totals.{LiveMap}
use Rattle.alp_node.specs.declared.lives.Live.{Live}
use Rattle.alp_node.proofs.MapLemmas.{get_put, get_gone}

-- ---- joins in a list

pub at_more : (j : JoinNo) (ls : List LiveJoin) (l : LiveJoin) → join_at (ls ++ l ∷ []) j ≡ option_or (join_at ls j) (cond {A = Option LiveJoin} (same_join j l.join) (Some l) None)
at_more j ls l = find-append (is_at j) ls (l ∷ [])

one_at : (j : JoinNo) (x l : LiveJoin) (ls : List LiveJoin) → join_at ls l.join ≡ None → join_at ls j ≡ Some x → join_at (l ∷ ls) j ≡ Some x
one_at j x l ls none is = go (same_join j l.join) refl
  where
    go : (b : Bool) → same_join j l.join ≡ b → cond {A = Option LiveJoin} b (Some l) (join_at ls j) ≡ Some x
    go false e = is
    go true e = let wrong : None ≡ Some x = sym none ∙ sym (ap (join_at ls) (same_join-true j l.join e)) ∙ is in cc

at_first : (l : LiveJoin) (ls : List LiveJoin) → join_at (l ∷ ls) l.join ≡ Some l
at_first l ls = ap (λ (b : Bool). cond {A = Option LiveJoin} b (Some l) (join_at ls l.join)) (same_join-itself l.join)

-- one that is found otherwise is that of its number
pub found_at : (p : LiveJoin → Bool) (ls : List LiveJoin) (y : LiveJoin) → AreOnce ls → find p ls ≡ Some y → (join_at ls y.join ≡ Some y) × (p y ≡ true)
found_at p [] y once is = let wrong : None ≡ Some y = is in cc
found_at p (l ∷ ls) y once is = go (p l) refl is (found_at p ls y once.1)
  where
    go : (b : Bool) → p l ≡ b → cond {A = Option LiveJoin} b (Some l) (find p ls) ≡ Some y → (find p ls ≡ Some y → (join_at ls y.join ≡ Some y) × (p y ≡ true)) → (join_at (l ∷ ls) y.join ≡ Some y) × (p y ≡ true)
    go true f e more = (let same : l ≡ y = same-some l y e in (subst (λ (z : LiveJoin). join_at (l ∷ ls) z.join ≡ Some z) same (at_first l ls), ap p (sym same) ∙ f))
    go false f e more = (let q = more e in (one_at y.join y l ls once.0 q.0, q.1))

-- one more, of a number that none of them has
pub once_more : (ls : List LiveJoin) (l : LiveJoin) → AreOnce ls → join_at ls l.join ≡ None → AreOnce (ls ++ l ∷ [])
once_more [] l once none = (refl, tt)
once_more (x ∷ xs) l once none = go (same_join l.join x.join) refl none (once_more xs l once.1)
  where
    turned_join : same_join l.join x.join ≡ false → (b : Bool) → same_join x.join l.join ≡ b → b ≡ false
    turned_join off false e = refl
    turned_join off true e = let wrong : true ≡ false = sym (ap (λ (i : JoinNo). same_join i x.join) (sym (same_join-true x.join l.join e)) ∙ same_join-itself x.join) ∙ off in cc

    go : (b : Bool) → same_join l.join x.join ≡ b → cond {A = Option LiveJoin} b (Some x) (join_at xs l.join) ≡ None → (join_at xs l.join ≡ None → AreOnce (xs ++ l ∷ [])) → AreOnce ((x ∷ xs) ++ l ∷ [])
    go true e f rest = let wrong : Some x ≡ None = f in cc
    go false e f rest = (
      at_more x.join xs l ∙ ap (λ (y : Option LiveJoin). option_or y (cond {A = Option LiveJoin} (same_join x.join l.join) (Some l) None)) once.0
          ∙ ap (λ (b : Bool). cond {A = Option LiveJoin} b (Some l) None) (turned_join e (same_join x.join l.join) refl),
      rest f,
    )

-- what is so of each that is found by its number is so of all, where each is there once
pub all_found : (P : LiveJoin → Type 0) (ls : List LiveJoin) → AreOnce ls → ((j : JoinNo) (x : LiveJoin) → join_at ls j ≡ Some x → P x) → AllByRecursion P ls
all_found P [] once all = tt
all_found P (l ∷ ls) once all = (
  all l.join l (at_first l ls),
  all_found P ls once.1 (λ j x is. all j x (one_at j x l ls once.0 is)),
)

-- ---- sizes

-- the parts that voted have the sizes that they had
abbrev pub AreVotersAlike : LiveMap → LiveMap → List LiveJoin → Type 0
AreVotersAlike m now ls = (j : JoinNo) (x : LiveJoin) → join_at ls j ≡ Some x → is_open x.stage ≡ false → size_in now x.trans ≡ size_in m x.trans

-- no part of the transaction voted here
abbrev pub HasNoVoter : List LiveJoin → TransId → Type 0
HasNoVoter ls t = (j : JoinNo) (x : LiveJoin) → join_at ls j ≡ Some x → is_open x.stage ≡ false → same_trans x.trans t ≡ false

-- they have where each part has
pub voters_same : (m now : LiveMap) (ls : List LiveJoin) → ((t : TransId) → size_in now t ≡ size_in m t) → AreVotersAlike m now ls
voters_same m now ls same j x is voted = same x.trans

pub voters_then : (a b c : LiveMap) (ls : List LiveJoin) → AreVotersAlike a b ls → AreVotersAlike b c ls → AreVotersAlike a c ls
voters_then a b c ls first second j x is voted = second j x is voted ∙ first j x is voted

-- or each but that of a transaction of which none voted
pub voters_put : (m : LiveMap) (t : TransId) (l : Live) (ls : List LiveJoin) → HasNoVoter ls t → AreVotersAlike m (map.insert m t l) ls
voters_put m t l ls none j x is voted = ap size_of (get_put m t l x.trans ∙ ap (λ (b : Bool). cond {A = Option Live} b (Some l) (map.get m x.trans)) (none j x is voted))

pub voters_gone : (m : LiveMap) (t : TransId) (ls : List LiveJoin) → HasNoVoter ls t → AreVotersAlike m (map.remove m t) ls
voters_gone m t ls none j x is voted = ap size_of (get_gone m t x.trans ∙ ap (λ (b : Bool). cond {A = Option Live} b None (map.get m x.trans)) (none j x is voted))

module _ (m now : LiveMap) where
  sizes_on : (ls : List LiveJoin) → AllByRecursion (λ (x : LiveJoin). is_open x.stage ≡ false → size_in now x.trans ≡ size_in m x.trans) ls → list_map (size_in now) (ready_in ls) ≡ list_map (size_in m) (ready_in ls)
  sizes_on [] h = refl
  sizes_on (x ∷ xs) h = go x.stage h.0 (sizes_on xs h.1)
    where
      go : (s : Stage) → (is_open s ≡ false → size_in now x.trans ≡ size_in m x.trans) → list_map (size_in now) (ready_in xs) ≡ list_map (size_in m) (ready_in xs)
          → list_map (size_in now) (trans_ready (phase_in x.trans x.client s) ++ ready_in xs) ≡ list_map (size_in m) (trans_ready (phase_in x.trans x.client s) ++ ready_in xs)
      go (stage.Joining who) same rest = rest
      go (stage.Active who) same rest = rest
      go (stage.Ready ts) same rest = λ i. same refl i ∷ rest i

  -- so they come to what they came to
  pub room_on : (ls : List LiveJoin) → AreOnce ls → AreVotersAlike m now ls → ready_room now ls ≡ ready_room m ls
  room_on ls once alike = ap sum_of (sizes_on ls (all_found (λ (x : LiveJoin). is_open x.stage ≡ false → size_in now x.trans ≡ size_in m x.trans) ls once alike))

  -- and their notes are theirs
  pub noted_on : (server servers epoch : ℕ) (joins : Joins) (c : Coordinator) (notes : Notes) → AreVotersAlike m now joins.lives → AreNoted server servers epoch m joins c notes → AreNoted server servers epoch now joins c notes
  noted_on server servers epoch joins c notes alike h = record {
    epoch = h.epoch;
    ready = λ j fits. at j (join_at joins.lives j) refl (ready_at notes j) (h.ready j fits);
    decided = h.decided;
    format = h.format;
  }
    where
      by : (j : JoinNo) (x : LiveJoin) → join_at joins.lives j ≡ Some x → (s : Stage) → x.stage ≡ s → (p : Option ReadyPart) → IsNotedAs m x s p → IsNotedAs now x s p
      by j x is (stage.Joining who) e p q = q
      by j x is (stage.Active who) e p q = q
      by j x is (stage.Ready ts) e None q = q
      by j x is (stage.Ready ts) e (Some r) q = record { trans = q.trans; client = q.client; ts = q.ts; size = subst (λ (n : PartSize). HasSize n r) (sym (alike j x is (ap is_open e))) q.size }

      at : (j : JoinNo) (y : Option LiveJoin) → join_at joins.lives j ≡ y → (p : Option ReadyPart) → IsNotedJoin m y p → IsNotedJoin now y p
      at j None e p q = q
      at j (Some x) e p q = by j x e x.stage refl p q

-- another coordinator, of which the same decisions stand
pub noted_decided : (server servers epoch : ℕ) (m : LiveMap) (joins : Joins) (before after : Coordinator) (notes : Notes) → ((t : TransId) → decision_kept (fate_in after t) ≡ decision_kept (fate_in before t)) → AreNoted server servers epoch m joins before notes
    → AreNoted server servers epoch m joins after notes
noted_decided server servers epoch m joins before after notes same h = record { epoch = h.epoch; ready = h.ready; decided = λ t fits. h.decided t fits ∙ sym (same t); format = h.format }

-- ---- by what the journal says

-- one that is ready has a note
none_ready : {P : Type 0} (now : TransId → Option Life) (q : Phase) → IsReadyNote now q None → is_ready q ≡ true → P
none_ready now (Ready t c ts) none is = absurd none
none_ready now Unseen none is = absurd (let wrong : false ≡ true = is in cc)
none_ready now (Joining t c who) none is = absurd (let wrong : false ≡ true = is in cc)
none_ready now (Active t c who) none is = absurd (let wrong : false ≡ true = is in cc)
none_ready now (Applied t stamp) none is = absurd (let wrong : false ≡ true = is in cc)
none_ready now Over none is = absurd (let wrong : false ≡ true = is in cc)

-- a join is ready where one was whose note would stand
pub ready_before : (before now : TransId → Option Life) (p q : Phase) → ((x : Option ReadyPart) → IsReadyNote before p x → IsReadyNote now q x) → is_ready q ≡ true → is_ready p ≡ true
ready_before before now (Ready t c ts) q on is = refl
ready_before before now Unseen q on is = none_ready now q (on None refl) is
ready_before before now (Joining t c who) q on is = none_ready now q (on None refl) is
ready_before before now (Active t c who) q on is = none_ready now q (on None refl) is
ready_before before now (Applied t stamp) q on is = none_ready now q (on None refl) is
ready_before before now Over q on is = none_ready now q (on None refl) is

-- what is kept of ready parts is as it was, and so are the clock that a restart finds and the decisions with joins
pub notes_on : (s m : State) (epoch : ℕ) (notes : Notes) → m.holder.kept ≡ s.holder.kept → m.holder.server ≡ s.holder.server → m.servers ≡ s.servers → ((t : TransId) → decision_kept (m.fates t) ≡ decision_kept (s.fates t))
    → ((j : JoinNo) (x : Option ReadyPart) → IsReadyNote s.holder.lives (s.phases j) x → IsReadyNote m.holder.lives (m.phases j) x) → AreNotesOf s epoch notes → AreNotesOf m epoch notes
notes_on s m epoch notes kept server servers fates ready h = record {
  clock = h.clock ∙ ap (λ (n : ℕ). record { epoch = epoch; clock = n }) (sym kept);
  ready = λ j fits. ready j (ready_at notes j) (h.ready j fits);
  decided = λ t fits. h.decided t fits ∙ sym (fates t);
  fit = λ j is. h.fit j (ready_before s.holder.lives m.holder.lives (s.phases j) (m.phases j) (ready j) is);
  fit_decided = λ t is. h.fit_decided t (ap (λ (o : Option Decision). is_some o) (sym (fates t)) ∙ is);
  timely = λ t d is. subst (λ (n : ℕ). d.ts ≤ n) (sym kept) (h.timely t d (sym (fates t) ∙ is));
  format = subst (λ (n : ℕ). AreServerNotes n m.servers notes) (sym server) (subst (λ (n : ℕ). AreServerNotes s.holder.server n notes) (sym servers) h.format);
}

-- a note stands where its part has the same locks and intents
pub ready_on : (lives now : TransId → Option Life) (p : Phase) (x : Option ReadyPart) → ((t : TransId) (client ts : ℕ) → p ≡ Ready t client ts → now t ≡ lives t) → IsReadyNote lives p x → IsReadyNote now p x
ready_on lives now Unseen x same h = h
ready_on lives now (Joining t c who) x same h = h
ready_on lives now (Active t c who) x same h = h
ready_on lives now (Ready t c ts) None same h = h
ready_on lives now (Ready t c ts) (Some r) same h = (h.0, h.1, h.2, subst (λ (y : Option Life). IsKeptIf y r) (sym (same t c ts refl)) h.3)
ready_on lives now (Applied t stamp) x same h = h
ready_on lives now Over x same h = h

-- a part that did not vote is of another transaction
pub voter_apart : (a : Account) → Stands a → (t : TransId) (l : Life) → a.holder.lives t ≡ Some l → l.vote ≡ None → (j : JoinNo) (u : TransId) (client ts : ℕ) → a.phases j ≡ Ready u client ts → same_trans u t ≡ false
voter_apart a q t l live unvoted j u client ts ready = go (same_trans u t) refl
  where
    by : (k : Life) → k.vote ≡ None → IsJoined u k (a.phases j) → ⊥
    by k none h = elim h [
      | inl x ↦ (let wrong : Active u k.client k.who ≡ Ready u client ts = sym x.0 ∙ ready in cc)
      | inr x ↦ (let wrong : None ≡ Some x.0 = sym none ∙ x.2 in cc)
    ]

    go : (b : Bool) → same_trans u t ≡ b → b ≡ false
    go false e = refl
    go true e =
        let (k, there, of) = life_of a q u j (subst (IsHolding u) (sym ready) refl) in
        let mine : k ≡ l = same-some k l (sym there ∙ ap a.holder.lives (same_trans-true u t e) ∙ live) in
        absurd (by k (ap (λ (y : Life). y.vote) mine ∙ unvoted) (join_part_is u a.phases k (a.fates u) j of (pair_of a q u k there)).0)

-- so the notes stand where no other part changes
pub ready_beside : (a : Account) → Stands a → (t : TransId) (l : Life) → a.holder.lives t ≡ Some l → l.vote ≡ None → (now : TransId → Option Life) → ((u : TransId) → same_trans u t ≡ false → now u ≡ a.holder.lives u)
    → (j : JoinNo) (x : Option ReadyPart) → IsReadyNote a.holder.lives (a.phases j) x → IsReadyNote now (a.phases j) x
ready_beside a q t l live unvoted now same j x = ready_on a.holder.lives now (a.phases j) x (λ u client ts ready. same u (voter_apart a q t l live unvoted j u client ts ready))
