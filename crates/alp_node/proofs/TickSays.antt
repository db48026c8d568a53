-- a tick: what a server says again is what its journal calls for, in its order
use Rattle.std.specs.Prelude.{cond, Bool, true, false, not, ◌==◌, ◌&&◌, nat_lt, filter, flat_map, Option, None, Some, Ok, map as list_map}
use Rattle.std.specs.List.{list_all, AllByRecursion}
use Rattle.std.specs.List.Sorted.{IsPermutation, IsStrictlySortedBy}
use Rattle.std.specs.Ordering.{is_eq, is_gt}
use Rattle.std.specs.Cmp.{eq_by_cmp_equiv}
use Rattle.std.specs.declared.cmp.Ordering.{Ordering}
use Rattle.std.specs.declared.cmp.Ordering.TheVariants.{Less, Equal, Greater}
use Rattle.std.proofs.lemmas.Bool.{and_parts, and_from, or_left, or_right}
use Rattle.std.proofs.lemmas.List.Elements.{All-from_recursion, recursion_from_All, filter-append}
use Rattle.std.proofs.lemmas.List.Folds.{list_all-append}
use Rattle.std.proofs.lemmas.List.Sorted.{All-permutation, IsPermutation-append}
use Rattle.std.proofs.Common.{◌≡◌, ℕ, ◌+◌, ◌≤◌, ◌^◌, List, [], ◌∷◌, ◌++◌, refl, sym, ◌∙◌, ap, subst, arith, eq-eqb}
use Rattle.alp_base.specs.Orders.{trans_cmp, transactions_total}
use Rattle.alp_base.specs.declared.allowance.Allowance.{Allowance}
use Rattle.alp_base.specs.declared.ids.JoinNo.{JoinNo}
use Rattle.alp_base.specs.declared.ids.Stamp.{Stamp}
use Rattle.alp_base.specs.declared.ids.TransId.{TransId}
use Rattle.alp_journal.specs.declared.act.Act.{Act}
use Rattle.alp_journal.specs.declared.act.Act.TheVariants as act
use Rattle.alp_journal.specs.declared.event.Event.TheVariants as event
use Rattle.alp_journal.specs.declared.message.Envelope.{Envelope}
use Rattle.alp_journal.specs.declared.message.Message.TheVariants as msg
use Rattle.alp_journal.specs.Account.{Account, state_of, sent_acts}
use Rattle.alp_journal.specs.Coordinator.{Fate, Undrawn, Running, Finishing, Committed, Forgotten, Ended, voted, decision_in}
use Rattle.alp_journal.specs.Ids.{has_join}
use Rattle.alp_journal.specs.Messages.{Mail, to_each, to_others, register_again, inquire_again, ask_again, commit_again, on_tick, kind_of, trans_in, is_before, are_in_order}
use Rattle.alp_journal.specs.Moves.{is_stop}
use Rattle.alp_journal.specs.State.{is_other_server}
use Rattle.alp_journal.proofs.IdLemmas.{all-append, all-filter}
use Rattle.alp_journal.proofs.LetGoLemmas.{no-mail-is}
use Rattle.alp_journal.proofs.MadeIds.{all-map}
use Rattle.alp_journal.proofs.TickMails.{ticks_lead}
use Rattle.alp_coord.specs.declared.begun.Settled.{Settled}
use Rattle.alp_coord.specs.declared.coordinator.Coordinator.{Coordinator}
use Rattle.alp_coord.specs.Begun.{fate_settled}
use Rattle.alp_coord.specs.Coordinators.{server_of, settled_in, fate_in, open_ids, asks_of, commits_of, enveloped, to_run, is_other}
use Rattle.alp_coord.specs.Likeness.{IsFateOf}
use Rattle.alp_coord.specs.Ticks.{AreAll}
use Rattle.alp_coord.proofs.TickLemmas.{rising_once, closed_fate, same_said}
use Rattle.alp_coord.proofs.TieLemmas.{known-asks, known-commits}
use Rattle.alp_coord.proofs.WordLemmas.{settled_asks, settled_commits}
use Rattle.alp_worker.specs.Again.{mail, mails, addressed, register_at, register_of, inquiry_at, inquiry_of, registers_in, inquiries_in}
use Rattle.alp_worker.specs.declared.live.LiveJoin.{LiveJoin}
use Rattle.alp_worker.specs.declared.live.Stage.{Stage}
use Rattle.alp_worker.specs.declared.live.Stage.TheVariants as stage
use Rattle.alp_worker.specs.Again.{is_other as is_other_of}
use Rattle.alp_worker.proofs.ListLemmas.{filter_each, walk_same}
use Rattle.alp_vault.specs.Contents.{Contents}
use Rattle.alp_vault.specs.declared.vault.Vault.{Ghosts}
use Rattle.alp_node.specs.Halts.{HaveCauses, MaySay}
use Rattle.alp_node.specs.ServerState.{IsAs, IsReady, IsReadyForMore}
use Rattle.alp_node.specs.Steps.{IsStepAs, told_answer}
use Rattle.alp_node.specs.Ticks.{AreSaidAgain, said_all, asked_again, decided_again}
use Rattle.alp_node.specs.Transactions.{IsCoordinatorOf}
use Rattle.alp_node.specs.declared.answer.Answer.{Answer}
use Rattle.alp_node.specs.declared.server_state.ServerState.{ServerState}
use Rattle.alp_node.proofs.SayLemmas.{told_step}
use Rattle.alp_node.proofs.TransactionLemmas.{all_begun, keys_rise}

-- ---- mails and acts

said_mails : (es : List Envelope) → said_all es ≡ sent_acts (mails es)
said_mails [] = refl
said_mails (e ∷ es) = ap (λ (xs : List Act). act.Sent e.to e.message ∷ xs) (said_mails es)

mails_back : (ms : List Mail) → mails (list_map enveloped ms) ≡ ms
mails_back [] = refl
mails_back (m ∷ ms) = ap (λ (xs : List Mail). m ∷ xs) (mails_back ms)

mails_append : (xs ys : List Envelope) → mails (xs ++ ys) ≡ mails xs ++ mails ys
mails_append [] ys = refl
mails_append (x ∷ xs) ys = ap (λ (ms : List Mail). mail x ∷ ms) (mails_append xs ys)

sent_append : (xs ys : List Mail) → sent_acts (xs ++ ys) ≡ sent_acts xs ++ sent_acts ys
sent_append [] ys = refl
sent_append (x ∷ xs) ys = ap (λ (ys : List Act). act.Sent x.0 x.1 ∷ ys) (sent_append xs ys)

all_mailed : (P : Mail → Type 0) (es : List Envelope) → AllByRecursion (λ (e : Envelope). P (mail e)) es → AllByRecursion P (mails es)
all_mailed P [] h = tt
all_mailed P (e ∷ es) h = (h.0, all_mailed P es h.1)

all_moved : (P : Envelope → Type 0) (xs ys : List Envelope) → IsPermutation xs ys → AllByRecursion P xs → AllByRecursion P ys
all_moved P xs ys moved h = recursion_from_All P ys (All-permutation P xs ys moved (All-from_recursion P xs h))

all_flat : {A B : Type 0} (P : B → Type 0) (f : A → List B) → ((x : A) → AllByRecursion P (f x)) → (xs : List A) → AllByRecursion P (flat_map f xs)
all_flat P f each [] = tt
all_flat P f each (x ∷ xs) = all-append P (f x) (flat_map f xs) (each x) (all_flat P f each xs)

causes : (ms : List Mail) → AllByRecursion (λ (m : Mail). MaySay m.1) ms → (before now : ℕ) (allowance : Allowance) → HaveCauses before now allowance (sent_acts ms)
causes [] h before now allowance = tt
causes (m ∷ ms) h before now allowance = (h.0, causes ms h.1 before now allowance)

-- ---- kinds one behind the other

abbrev IsKind : ℕ → Mail → Type 0
IsKind n m = kind_of m.1 ≡ n

abbrev IsBelow : ℕ → Mail → Type 0
IsBelow n m = nat_lt (kind_of m.1) n ≡ true

order_behind : (n : ℕ) (xs ys : List Mail) → AllByRecursion (IsBelow n) xs → AllByRecursion (IsKind n) ys → are_in_order xs ≡ true → are_in_order ys ≡ true → are_in_order (xs ++ ys) ≡ true
order_behind n [] ys below kind one two = two
order_behind n (x ∷ xs) ys below kind one two =
    let both = and_parts (list_all (is_before x) xs) (are_in_order xs) one in
    and_from (list_all (is_before x) (xs ++ ys)) (are_in_order (xs ++ ys))
    (list_all-append (is_before x) xs ys ∙ and_from (list_all (is_before x) xs) (list_all (is_before x) ys) both.0 (each ys kind))
    (order_behind n xs ys below.1 kind both.1 two)
  where
    each : (zs : List Mail) → AllByRecursion (IsKind n) zs → list_all (is_before x) zs ≡ true
    each [] k = refl
    each (z ∷ zs) k =
        and_from (is_before x z) (list_all (is_before x) zs)
        (or_left (nat_lt (kind_of x.1) (kind_of z.1)) (kind_of x.1 == kind_of z.1 && not (is_gt (trans_cmp (trans_in x.1) (trans_in z.1)))) (ap (nat_lt (kind_of x.1)) k.0 ∙ below.0)) (each zs k.1)

-- ---- one kind by transactions

level : (o : Ordering) → is_eq o ≡ true → is_gt o ≡ false
level Less h = refl
level Equal h = refl
level Greater h = let wrong : false ≡ true = h in cc

itself : (t : TransId) → is_gt (trans_cmp t t) ≡ false
itself t = level (trans_cmp t t) ((eq_by_cmp_equiv transactions_total).refl t)

-- of this kind and transaction
abbrev IsOf : ℕ → TransId → Mail → Type 0
IsOf n t m = (kind_of m.1 ≡ n) × (trans_in m.1 ≡ t)

not_later : (n : ℕ) (x y : Mail) → kind_of x.1 ≡ n → kind_of y.1 ≡ n → is_gt (trans_cmp (trans_in x.1) (trans_in y.1)) ≡ false → is_before x y ≡ true
not_later n x y k l m =
    or_right (nat_lt (kind_of x.1) (kind_of y.1)) (kind_of x.1 == kind_of y.1 && not (is_gt (trans_cmp (trans_in x.1) (trans_in y.1))))
    (and_from (kind_of x.1 == kind_of y.1) (not (is_gt (trans_cmp (trans_in x.1) (trans_in y.1)))) (eq-eqb (kind_of x.1) (kind_of y.1) (k ∙ sym l)) (ap not m))

module _ (n : ℕ) (f : TransId → List Mail) (each : (t : TransId) → AllByRecursion (IsOf n t) (f t)) where
  beside : (t : TransId) (x : Mail) → IsOf n t x → (ys : List Mail) → AllByRecursion (IsOf n t) ys → list_all (is_before x) ys ≡ true
  beside t x h [] k = refl
  beside t x h (y ∷ ys) k = and_from (is_before x y) (list_all (is_before x) ys) (not_later n x y h.0 k.0.0 ((λ i. is_gt (trans_cmp (h.1 i) (k.0.1 i))) ∙ itself t)) (beside t x h ys k.1)

  one_ahead : (t u : TransId) (x : Mail) → IsOf n t x → trans_cmp t u ≡ Less → (ys : List Mail) → AllByRecursion (IsOf n u) ys → list_all (is_before x) ys ≡ true
  one_ahead t u x h less [] k = refl
  one_ahead t u x h less (y ∷ ys) k = and_from (is_before x y) (list_all (is_before x) ys) (not_later n x y h.0 k.0.0 ((λ i. is_gt (trans_cmp (h.1 i) (k.0.1 i))) ∙ ap is_gt less)) (one_ahead t u x h less ys k.1)

  ahead : (t : TransId) (x : Mail) → IsOf n t x → (ts : List TransId) → AllByRecursion (λ (u : TransId). trans_cmp t u ≡ Less) ts → list_all (is_before x) (flat_map f ts) ≡ true
  ahead t x h [] less = refl
  ahead t x h (u ∷ ts) less =
      list_all-append (is_before x) (f u) (flat_map f ts) ∙ and_from (list_all (is_before x) (f u)) (list_all (is_before x) (flat_map f ts)) (one_ahead t u x h less.0 (f u) (each u)) (ahead t x h ts less.1)

  front : (t : TransId) (ts : List TransId) → AllByRecursion (λ (u : TransId). trans_cmp t u ≡ Less) ts → (xs : List Mail) → AllByRecursion (IsOf n t) xs → are_in_order (flat_map f ts) ≡ true → are_in_order (xs ++ flat_map f ts) ≡ true
  front t ts less [] h k = k
  front t ts less (x ∷ xs) h k =
      and_from (list_all (is_before x) (xs ++ flat_map f ts)) (are_in_order (xs ++ flat_map f ts))
      (list_all-append (is_before x) xs (flat_map f ts) ∙ and_from (list_all (is_before x) xs) (list_all (is_before x) (flat_map f ts)) (beside t x h.0 xs h.1) (ahead t x h.0 ts less))
      (front t ts less xs h.1 k)

  in_order : (ts : List TransId) → IsStrictlySortedBy trans_cmp ts → are_in_order (flat_map f ts) ≡ true
  unfolding IsStrictlySortedBy
  in_order [] rise = refl
  in_order (t ∷ ts) rise = front t ts rise.0 (f t) (each t) (in_order ts rise.1)

-- ---- of which kind, and that it may be said

asks_each : (t : TransId) (js : List JoinNo) → AllByRecursion (IsOf 1 t) (to_each (msg.Ask t) js)
asks_each t [] = tt
asks_each t (j ∷ js) = ((refl, refl), asks_each t js)

asks_kind : (t : TransId) (f : Fate) → AllByRecursion (IsOf 1 t) (ask_again t f)
asks_kind t Undrawn = tt
asks_kind t (Running c js) = tt
asks_kind t (Finishing c js vs) = asks_each t (filter (λ j. not (voted j vs)) js)
asks_kind t (Committed stamp js ds) = tt
asks_kind t (Forgotten stamp js) = tt
asks_kind t (Ended c) = tt

commits_each : (t : TransId) (stamp : Stamp) (js : List JoinNo) → AllByRecursion (IsOf 2 t) (to_each (λ j. msg.Commit t j stamp) js)
commits_each t stamp [] = tt
commits_each t stamp (j ∷ js) = ((refl, refl), commits_each t stamp js)

commits_kind : (t : TransId) (f : Fate) → AllByRecursion (IsOf 2 t) (commit_again t f)
commits_kind t Undrawn = tt
commits_kind t (Running c js) = tt
commits_kind t (Finishing c js vs) = tt
commits_kind t (Committed stamp js ds) = commits_each t stamp (filter (λ j. not (has_join j ds)) js)
commits_kind t (Forgotten stamp js) = tt
commits_kind t (Ended c) = tt

abbrev MayMail : Mail → Type 0
MayMail m = MaySay m.1

asks_said : (t : TransId) (js : List JoinNo) → AllByRecursion MayMail (to_each (msg.Ask t) js)
asks_said t [] = tt
asks_said t (j ∷ js) = (tt, asks_said t js)

asks_may : (t : TransId) (f : Fate) → AllByRecursion MayMail (ask_again t f)
asks_may t Undrawn = tt
asks_may t (Running c js) = tt
asks_may t (Finishing c js vs) = asks_said t (filter (λ j. not (voted j vs)) js)
asks_may t (Committed stamp js ds) = tt
asks_may t (Forgotten stamp js) = tt
asks_may t (Ended c) = tt

commits_said : (t : TransId) (stamp : Stamp) → stamp.ts ≤ 2 ^ 62 → (js : List JoinNo) → AllByRecursion MayMail (to_each (λ j. msg.Commit t j stamp) js)
commits_said t stamp low [] = tt
commits_said t stamp low (j ∷ js) = (low, commits_said t stamp low js)

commits_may : (t : TransId) (f : Fate) → ((stamp : Stamp) (js : List JoinNo) → decision_in f ≡ Some (stamp, js) → stamp.ts ≤ 2 ^ 62) → AllByRecursion MayMail (commit_again t f)
commits_may t Undrawn low = tt
commits_may t (Running c js) low = tt
commits_may t (Finishing c js vs) low = tt
commits_may t (Committed stamp js ds) low = commits_said t stamp (low stamp js refl) (filter (λ j. not (has_join j ds)) js)
commits_may t (Forgotten stamp js) low = tt
commits_may t (Ended c) low = tt

-- a register, and an inquiry
abbrev IsKindSaid : ℕ → Envelope → Type 0
IsKindSaid n e = (kind_of e.message ≡ n) × MaySay e.message

registers_kind : (servers here : ℕ) (ls : List LiveJoin) → AllByRecursion (IsKindSaid 0) (registers_in servers here ls)
registers_kind servers here ls = all_flat (IsKindSaid 0) (λ (l : LiveJoin). addressed (is_other_of servers here l.trans.server) l.trans.server (register_of l)) (λ (l : LiveJoin). one (is_other_of servers here l.trans.server) l l.stage) ls
  where
    one : (b : Bool) (l : LiveJoin) (s : Stage) → AllByRecursion (IsKindSaid 0) (addressed b l.trans.server (register_at l s))
    one true l (stage.Joining who) = ((refl, tt), tt)
    one false l (stage.Joining who) = tt
    one b l (stage.Active who) = tt
    one b l (stage.Ready ts) = tt

inquiries_kind : (servers here : ℕ) (ls : List LiveJoin) → AllByRecursion (IsKindSaid 3) (inquiries_in servers here ls)
inquiries_kind servers here ls = all_flat (IsKindSaid 3) (λ (l : LiveJoin). addressed (is_other_of servers here l.trans.server) l.trans.server (inquiry_of l)) (λ (l : LiveJoin). one (is_other_of servers here l.trans.server) l l.stage) ls
  where
    one : (b : Bool) (l : LiveJoin) (s : Stage) → AllByRecursion (IsKindSaid 3) (addressed b l.trans.server (inquiry_at l s))
    one b l (stage.Joining who) = tt
    one b l (stage.Active who) = tt
    one true l (stage.Ready ts) = ((refl, tt), tt)
    one false l (stage.Ready ts) = tt

-- ---- at a server

module _ {V : Type 0} (k : ServerState V) (acts : List Act) (x : AreSaidAgain k acts) where
  abbrev rs : List Mail
  rs = mails x.registers

  abbrev as_ : List Mail
  as_ = to_run (server_of k.coordinator) k.servers (asks_of k.coordinator)

  abbrev cs : List Mail
  cs = to_run (server_of k.coordinator) k.servers (commits_of k.coordinator)

  abbrev is_ : List Mail
  is_ = mails x.inquiries

  abbrev all_said : List Mail
  all_said = rs ++ as_ ++ cs ++ is_

  abbrev goes : Mail → Bool
  goes m = is_other (server_of k.coordinator) k.servers m.0

  said_acts : acts ≡ sent_acts all_said
  said_acts =
      let front : mails ((x.registers ++ asked_again k) ++ decided_again k) ≡ rs ++ as_ ++ cs =
      mails_append (x.registers ++ asked_again k) (decided_again k) ∙ ap (λ (ms : List Mail). ms ++ mails (decided_again k)) (mails_append x.registers (asked_again k)) ∙ (λ i. (rs ++ mails_back as_ i) ++ mails_back cs i) in
      x.said ∙ (λ i. (said_mails ((x.registers ++ asked_again k) ++ decided_again k) ∙ ap sent_acts front) i ++ said_mails x.inquiries i) ∙ sym (sent_append (rs ++ as_ ++ cs) is_)

  registers_are : AllByRecursion (IsKindSaid 0) x.registers
  registers_are = all_moved (IsKindSaid 0) (registers_in k.servers k.joins.server k.joins.lives) x.registers x.registers_all (registers_kind k.servers k.joins.server k.joins.lives)

  inquiries_are : AllByRecursion (IsKindSaid 3) x.inquiries
  inquiries_are = all_moved (IsKindSaid 3) (inquiries_in k.servers k.joins.server k.joins.lives) x.inquiries x.inquiries_all (inquiries_kind k.servers k.joins.server k.joins.lives)

  -- ---- their order

  rs_kind : AllByRecursion (IsKind 0) rs
  rs_kind = all_mailed (IsKind 0) x.registers (all-map (IsKindSaid 0) (λ (e : Envelope). IsKind 0 (mail e)) (λ e h. h.0) x.registers registers_are)

  is_kind : AllByRecursion (IsKind 3) is_
  is_kind = all_mailed (IsKind 3) x.inquiries (all-map (IsKindSaid 3) (λ (e : Envelope). IsKind 3 (mail e)) (λ e h. h.0) x.inquiries inquiries_are)

  as_kind : AllByRecursion (IsKind 1) as_
  as_kind = all-filter (IsKind 1) goes (asks_of k.coordinator)
      (all_flat (IsKind 1) (λ (t : TransId). ask_again t (fate_in k.coordinator t)) (λ (t : TransId). all-map (IsOf 1 t) (IsKind 1) (λ m h. h.0) (ask_again t (fate_in k.coordinator t)) (asks_kind t (fate_in k.coordinator t))) (open_ids k.coordinator))

  cs_kind : AllByRecursion (IsKind 2) cs
  cs_kind = all-filter (IsKind 2) goes (commits_of k.coordinator)
      (all_flat (IsKind 2) (λ (t : TransId). commit_again t (fate_in k.coordinator t)) (λ (t : TransId). all-map (IsOf 2 t) (IsKind 2) (λ m h. h.0) (commit_again t (fate_in k.coordinator t)) (commits_kind t (fate_in k.coordinator t))) (open_ids k.coordinator))

  as_order : are_in_order as_ ≡ true
  as_order =
      ap are_in_order (filter_each goes (λ (t : TransId). ask_again t (fate_in k.coordinator t)) (open_ids k.coordinator))
      ∙ in_order 1 (λ (t : TransId). filter goes (ask_again t (fate_in k.coordinator t))) (λ (t : TransId). all-filter (IsOf 1 t) goes (ask_again t (fate_in k.coordinator t)) (asks_kind t (fate_in k.coordinator t))) (open_ids k.coordinator) (keys_rise k.coordinator.courses)

  cs_order : are_in_order cs ≡ true
  cs_order =
      ap are_in_order (filter_each goes (λ (t : TransId). commit_again t (fate_in k.coordinator t)) (open_ids k.coordinator))
      ∙ in_order 2 (λ (t : TransId). filter goes (commit_again t (fate_in k.coordinator t))) (λ (t : TransId). all-filter (IsOf 2 t) goes (commit_again t (fate_in k.coordinator t)) (commits_kind t (fate_in k.coordinator t))) (open_ids k.coordinator) (keys_rise k.coordinator.courses)

  below : (n m : ℕ) → nat_lt n m ≡ true → (ms : List Mail) → AllByRecursion (IsKind n) ms → AllByRecursion (IsBelow m) ms
  below n m low ms = all-map (IsKind n) (IsBelow m) (λ a h. ap (λ (i : ℕ). nat_lt i m) h ∙ low) ms

  all_ordered : are_in_order all_said ≡ true
  all_ordered =
      order_behind 3 (rs ++ as_ ++ cs) is_
      (all-append (IsBelow 3) (rs ++ as_) cs (all-append (IsBelow 3) rs as_ (below 0 3 refl rs rs_kind) (below 1 3 refl as_ as_kind)) (below 2 3 refl cs cs_kind)) is_kind
      (order_behind 2 (rs ++ as_) cs (all-append (IsBelow 2) rs as_ (below 0 2 refl rs rs_kind) (below 1 2 refl as_ as_kind)) cs_kind
      (order_behind 1 rs as_ (below 0 1 refl rs rs_kind) as_kind x.registers_order as_order) cs_order)
      x.inquiries_order

  -- ---- that they may be said

  module _ (low : (t : TransId) (stamp : Stamp) (js : List JoinNo) → decision_in (fate_in k.coordinator t) ≡ Some (stamp, js) → stamp.ts ≤ 2 ^ 62) where
    all_may : AllByRecursion MayMail all_said
    all_may =
        all-append MayMail (rs ++ as_ ++ cs) is_
        (all-append MayMail (rs ++ as_) cs
        (all-append MayMail rs as_
        (all_mailed MayMail x.registers (all-map (IsKindSaid 0) (λ (e : Envelope). MayMail (mail e)) (λ e h. h.1) x.registers registers_are))
        (all-filter MayMail goes (asks_of k.coordinator) (all_flat MayMail (λ (t : TransId). ask_again t (fate_in k.coordinator t)) (λ (t : TransId). asks_may t (fate_in k.coordinator t)) (open_ids k.coordinator))))
        (all-filter MayMail goes (commits_of k.coordinator) (all_flat MayMail (λ (t : TransId). commit_again t (fate_in k.coordinator t)) (λ (t : TransId). commits_may t (fate_in k.coordinator t) (low t)) (open_ids k.coordinator))))
        (all_mailed MayMail x.inquiries (all-map (IsKindSaid 3) (λ (e : Envelope). MayMail (mail e)) (λ e h. h.1) x.inquiries inquiries_are))

  -- ---- what the journal calls for

  module _ (a : Account) (held : Contents) (h : IsAs a held k) where
    abbrev c : Coordinator
    c = k.coordinator

    abbrev others : Mail → Bool
    others m = is_other_server (state_of a) m.0

    are_all : AreAll c a.begun
    are_all = all_begun a h.quiet.settled.stands c h.coordinator

    same_goes : (ms : List Mail) → to_others (state_of a) ms ≡ filter goes ms
    same_goes ms = λ i. filter (λ (m : Mail). is_other (sym h.coordinator.run.server_same i) (h.servers i) m.0) ms

    -- of all that were drawn or found is said what is said of those that are not settled
    again_same : (f : TransId → Fate → List Mail) → ((t : TransId) (known told : Fate) → IsFateOf a.ids.epoch t known told → f t known ≡ f t told) → ((t : TransId) → f t Undrawn ≡ []) → ((t : TransId) (y : Option Settled) → f t (fate_settled t y) ≡ [])
        → IsPermutation (to_others (state_of a) (flat_map (λ (t : TransId). f t (a.fates t)) a.begun)) (filter goes (flat_map (λ (t : TransId). f t (fate_in c t)) (open_ids c)))
    again_same f alike undrawn settled =
        subst (λ (ms : List Mail). IsPermutation ms (filter goes (flat_map (λ (t : TransId). f t (fate_in c t)) (open_ids c)))) (sym told)
        (subst (λ (ms : List Mail). IsPermutation (flat_map one a.begun) ms) (sym (filter_each goes (λ (t : TransId). f t (fate_in c t)) (open_ids c)))
        (same_said one a.begun (open_ids c) are_all.once (rising_once (open_ids c) (keys_rise c.courses))
        (λ t there none. ap (filter goes) (ap (f t) (are_all.all t none) ∙ undrawn t))
        (λ t there none. ap (filter goes) (ap (f t) (closed_fate c t none) ∙ settled t (settled_in c t)))))
      where
        one : TransId → List Mail
        one t = filter goes (f t (fate_in c t))

        told : to_others (state_of a) (flat_map (λ (t : TransId). f t (a.fates t)) a.begun) ≡ flat_map one a.begun
        told =
            same_goes (flat_map (λ (t : TransId). f t (a.fates t)) a.begun)
            ∙ ap (filter goes) (walk_same (λ (t : TransId). f t (a.fates t)) (λ (t : TransId). f t (fate_in c t)) (λ t. sym (alike t (fate_in c t) (a.fates t) (h.coordinator.fates t))) a.begun)
            ∙ filter_each goes (λ (t : TransId). f t (fate_in c t)) a.begun

    all_due : IsPermutation (to_others (state_of a) (on_tick (state_of a))) all_said
    all_due =
        let r : List Mail = flat_map (λ j. register_again j (a.phases j)) a.joined in
        let q : List Mail = flat_map (λ t. ask_again t (a.fates t)) a.begun in
        let d : List Mail = flat_map (λ t. commit_again t (a.fates t)) a.begun in
        let i : List Mail = flat_map (λ j. inquire_again j (a.phases j)) a.joined in
        let to : List Mail → List Mail = to_others (state_of a) in
        let parts : to (r ++ q ++ d ++ i) ≡ to r ++ to q ++ to d ++ to i =
        filter-append others (r ++ q ++ d) i ∙ ap (λ (ms : List Mail). ms ++ to i) (filter-append others (r ++ q) d ∙ ap (λ (ms : List Mail). ms ++ to d) (filter-append others r q)) in
        subst (λ (ms : List Mail). IsPermutation ms all_said) (sym parts)
        (IsPermutation-append (to r ++ to q ++ to d) (rs ++ as_ ++ cs) (to i) is_
        (IsPermutation-append (to r ++ to q) (rs ++ as_) (to d) cs
        (IsPermutation-append (to r) rs (to q) as_ (x.registers_told (state_of a) h.joins h.servers)
        (again_same ask_again (known-asks a.ids.epoch) (λ t. refl) settled_asks))
        (again_same commit_again (known-commits a.ids.epoch) (λ t. refl) settled_commits))
        (x.inquiries_told (state_of a) h.joins h.servers))

pub tick_step : {V : Type 0} (G : Ghosts V) (k : ServerState V) → k.is_down ≡ false → IsReadyForMore (G.serves k.vault) k → (acts : List Act) → AreSaidAgain k acts → (y : Answer) → y ≡ told_answer None acts → IsStepAs G None k k event.Tick (Ok y)
tick_step G k up ready acts x y so =
    told_step G k event.Tick y (sent_acts (all_said k acts x)) up (so ∙ ap (told_answer None) (said_acts k acts x)) (no-mail-is is_stop (λ m. refl) (all_said k acts x))
    (causes (all_said k acts x) (all_may k acts x low))
    (λ a h. ticks_lead a h.quiet (h.down ∙ up) (all_said k acts x) (all_due k acts x a (G.held k.vault) h) (all_ordered k acts x))
  where
    low : (t : TransId) (stamp : Stamp) (js : List JoinNo) → decision_in (fate_in k.coordinator t) ≡ Some (stamp, js) → stamp.ts ≤ 2 ^ 62
    low t stamp js is = (let early : stamp.ts ≤ k.clock = ready.2.times t stamp js is in let end : k.clock ≤ 2 ^ 62 = ready.2.clock in omega arith)
