-- a berth as it is made, after a step, and after none
use Rattle.std.specs.Prelude.{◌||◌, min, max, Bool, true, false, Option, None, Some, IfSome, is_some, slice_get, drop}
use Rattle.std.specs.List.{list_any, AllByRecursion}
use Rattle.std.proofs.Common.{inl, inr, ◌⊎◌, ◌≡◌, ℕ, zero, suc, ◌+◌, ◌<◌, ◌≤◌, ◌^◌, List, [], ◌∷◌, ◌++◌, length, refl, sym, ap, ◌∙◌, subst, arith, length-append}
use mathlib.Core.List.{IsPrefix, append_assoc, append-nil}
use Rattle.alp_base.specs.Allowances.{Spends}
use Rattle.alp_base.specs.Causes.{Rose}
use Rattle.alp_base.specs.declared.allowance.Allowance.{Allowance}
use Rattle.alp_base.specs.declared.allowance.Allowance.TheVariants.{Free, Left, Spent}
use Rattle.alp_files.specs.declared.refusal.Refusal.TheVariants as refusal
use Rattle.alp_files.specs.declared.reply.Reply.{Reply}
use Rattle.alp_files.specs.declared.reply.Reply.TheVariants as reply
use Rattle.alp_rpc.specs.Replies as replies
use Rattle.alp_journal.specs.Answered.{entries_limit, is_read_fault}
use Rattle.alp_journal.specs.Moves.{is_stop, stops}
use Rattle.alp_journal.specs.State.{State}
use Rattle.alp_journal.specs.declared.act.Act.{Act}
use Rattle.alp_journal.specs.declared.act.Act.TheVariants as act
use Rattle.alp_journal.specs.declared.entry.Entry.{Entry}
use Rattle.alp_journal.specs.declared.event.Event.{Event}
use Rattle.alp_vault.specs.Vault.{IsSameVault}
use Rattle.alp_vault.specs.declared.vault.Vault.{Ghosts}
use Rattle.alp_node.specs.Halts.{HaveCauses}
use Rattle.alp_node.specs.NodeStates.{NodeState}
use Rattle.alp_node.specs.Nodes.{IsConsistent, HasNoEntry, HasRoom, Answered, state_of, start_in}
use Rattle.alp_node.specs.Orders.{order_in, is_answered, is_fault_now}
use Rattle.alp_node.specs.Served.{IsServed}
use Rattle.alp_node.specs.Steps.{IsSeated}
use Rattle.alp_node.specs.Turns.{HasTurned}
use Rattle.alp_node.specs.declared.server_state.ServerState.{ServerState}
use Rattle.alp_node.specs.declared.sessions.CallOrder.{CallOrder}
use Rattle.alp_node.specs.declared.sessions.CallOrder.TheVariants as order
use Rattle.alp_node.specs.declared.sessions.Sessions.{Sessions}
use Rattle.alp_node.specs.Sessions.{session_at}
use Rattle.alp_storm.specs.Logs.{is_failure, shows_fault}
use Rattle.alp_berth.specs.Sends.{sent_by, capped, counts_from, count_in}
use Rattle.alp_berth.specs.BerthStates.{BerthState}
use Rattle.alp_berth.specs.Berths.{AreRising, last_in, further_of, AreSendable, IsSameServer, IsBerth, AreCounted, IsSound, MayBerth, rank_after, HasStepped, IsUnstepped}
use Rattle.alp_berth.specs.declared.made.Made.{Made}
use Rattle.alp_berth.proofs.SendLemmas.{count_more, counts_next, last_more, rising_more}
use Rattle.alp_berth.proofs.DeskLemmas.{change, kept_all, all_sendable}

-- ---- lists

module _ {A : Type 0} where
  prefix_more : (xs ys : List A) (y : A) → IsPrefix xs ys → IsPrefix xs (ys ++ y ∷ [])
  prefix_more xs ys y p = (p.0 ++ y ∷ [], sym (append_assoc xs p.0 (y ∷ [])) ∙ ap (λ l. l ++ y ∷ []) p.1)

  drop_prefix : (xs zs : List A) → drop (length xs) (xs ++ zs) ≡ zs
  drop_prefix [] zs = refl
  drop_prefix (x ∷ xs) zs = drop_prefix xs zs

  drop_none : (xs : List A) → drop (length xs) xs ≡ []
  drop_none [] = refl
  drop_none (x ∷ xs) = drop_none xs

  -- what is beyond the first ones, and one more
  pub beyond_more : (xs ys zs : List A) (y : A) → IsPrefix xs ys → zs ≡ ys ++ y ∷ [] → drop (length xs) zs ≡ drop (length xs) ys ++ y ∷ []
  beyond_more xs ys zs y p is =
      ap (drop (length xs)) (is ∙ (ap (λ l. l ++ y ∷ []) (sym p.1) ∙ append_assoc xs p.0 (y ∷ [])))
      ∙ (drop_prefix xs (p.0 ++ y ∷ []) ∙ ap (λ l. l ++ y ∷ []) (sym (ap (drop (length xs)) (sym p.1) ∙ drop_prefix xs p.0)))

  any_more : (f : A → Bool) (xs : List A) (y : A) → list_any f (xs ++ y ∷ []) ≡ (list_any f xs || f y)
  any_more f [] y = go (f y)
    where
      go : (b : Bool) → (b || false) ≡ b
      go true = refl
      go false = refl
  any_more f (x ∷ xs) y = ap (λ b. f x || b) (any_more f xs y) ∙ or_through (f x) (list_any f xs) (f y)
    where
      or_through : (a b c : Bool) → (a || (b || c)) ≡ ((a || b) || c)
      or_through true b c = refl
      or_through false b c = refl

or_false : (a b : Bool) → (a || b) ≡ false → (a ≡ false) × (b ≡ false)
or_false true b is = (let wrong : true ≡ false = is in cc)
or_false false b is = (refl, is)

or_true : (a : Bool) → (a || true) ≡ true
or_true true = refl
or_true false = refl

-- ---- faults

stays_free : (a b : Allowance) → Spends a b → a ≡ Free → b ≡ Free
stays_free Free b h e = h
stays_free (Left k) b h e = cc
stays_free Spent b h e = cc

quiet_now : (o : Option CallOrder) (r : Option Reply) → is_read_fault r ≡ false → is_fault_now o r ≡ false
quiet_now None r quiet = quiet
quiet_now (Some order.First) r quiet = quiet
quiet_now (Some order.Next) r quiet = quiet
quiet_now (Some order.Repeat) r quiet = refl
quiet_now (Some order.Stale) r quiet = quiet
quiet_now (Some order.Astray) r quiet = quiet

-- one that nobody stops goes down only where it failed
free_goes : (before now : ℕ) (acts : List Act) → list_any is_stop acts ≡ true → list_any is_failure acts ≡ false → HaveCauses before now Free acts → ⊥
free_goes before now [] stop failed causes = let wrong : false ≡ true = stop in cc
free_goes before now (act.Drawn t ∷ more) stop failed causes = free_goes before now more stop failed causes
free_goes before now (act.Decided stamp parts ∷ more) stop failed causes = free_goes before now more stop failed causes
free_goes before now (act.Granted t ∷ more) stop failed causes = free_goes before now more stop failed causes
free_goes before now (act.Released t ∷ more) stop failed causes = free_goes before now more stop failed causes
free_goes before now (act.Sent to message ∷ more) stop failed causes = free_goes before now more stop failed causes.1
free_goes before now (act.Registered t join ∷ more) stop failed causes = free_goes before now more stop failed causes
free_goes before now (act.Readied t join ts ∷ more) stop failed causes = free_goes before now more stop failed causes
free_goes before now (act.Applied join stamp ∷ more) stop failed causes = free_goes before now more stop failed causes
free_goes before now (act.Forgot t ∷ more) stop failed causes = free_goes before now more stop failed causes
free_goes before now (act.Regained epoch clock ready stamps ∷ more) stop failed causes = free_goes before now more stop failed causes
free_goes before now (act.Failed ∷ more) stop failed causes = let wrong : true ≡ false = failed in cc
free_goes before now (act.Stopped ∷ more) stop failed causes = let wrong : Free ≡ Spent = causes.0 in cc

-- ---- a berth that is made

module _ {V : Type 0} (G : Ghosts V) where
  same_itself : (k : ServerState V) → IsSameServer G k k
  same_itself k = record { server = refl; servers = refl; sizes = refl; epoch = refl; same = record { telling = refl; sizes = refl; number = refl; of_all = refl } }

  same_through : (a b c : ServerState V) → IsSameServer G a b → IsSeated G b c → IsSameServer G a c
  same_through a b c h s = record {
    server = s.server ∙ h.server;
    servers = s.servers ∙ h.servers;
    sizes = s.sizes ∙ h.sizes;
    epoch = s.epoch ∙ h.epoch;
    same = record { telling = s.same.telling ∙ h.same.telling; sizes = s.same.sizes ∙ h.same.sizes; number = s.same.number ∙ h.same.number; of_all = s.same.of_all ∙ h.same.of_all };
  }

  pub berth_made : (made : Made V) (n : NodeState V) (ranks : List ℕ) → made.node.value ≡ n → made.ranks.value.items ≡ ranks → MayBerth G n ranks → IsBerth G made n ranks
  berth_made made n ranks is ranked may =
      let none : further_of made n ≡ [] = ap (λ (m : NodeState V). drop (length m.journal) n.journal) is ∙ drop_none n.journal in
      record {
        journal = ([], append-nil made.node.value.journal ∙ ap (λ (m : NodeState V). m.journal) is);
        ranks_are = ([], append-nil made.ranks.value.items ∙ ranked);
        stood_long = ap length ranked ∙ (may.long ∙ sym (ap (λ (m : NodeState V). length m.journal) is));
        long = may.long;
        room = may.room;
        rising = may.rising;
        bounded = may.bounded;
        opening = sym (ap (λ (m : NodeState V). m.opening) is);
        seat = subst (λ (m : NodeState V). IsSameServer G m.kept n.kept) (sym is) (same_itself n.kept);
        later = (let f : G.faults made.node.value.kept.vault ≡ G.faults n.kept.vault = ap (λ (m : NodeState V). G.faults m.kept.vault) is in omega (arith, f));
        free = may.free;
        calm = λ quiet. sym (ap (λ (m : NodeState V). G.faults m.kept.vault) is);
        down = may.up ∙ sym (ap (list_any stops) none);
        halted = λ down. (let wrong : true ≡ false = sym down ∙ may.up in cc);
        sendable = λ up. may.sendable;
      }

  -- ---- after a step

  module _ (made : Made V) (n m : NodeState V) (ranks : List ℕ) (seen : ℕ) (e : Event) (r : Option Reply) (old : IsBerth G made n ranks) (was : IsConsistent G n) (served : IsServed e) (up : n.kept.is_down ≡ false) (has_room : HasRoom n) (early : seen < 2 ^ 62)
      (a : Answered (order_in n.kept e) (G.tells n.kept.vault) (state_of (start_in G n) n.journal) n.journal m.journal e r (G.faults n.kept.vault) (G.faults m.kept.vault) (G.allowance m.kept.vault) m.kept.is_down)
      (opening : m.opening ≡ n.opening) (seat : IsSeated G n.kept m.kept) (turned : m.kept.is_down ≡ false → HasTurned (order_in n.kept e) n.kept m.kept e r) (kept : IsConsistent G m) where
    abbrev made_entry : Entry
    made_entry = record { event = e; reply = r; acts = a.acts }

    now_free : G.allowance m.kept.vault ≡ Free
    now_free = stays_free (G.allowance n.kept.vault) (G.allowance m.kept.vault) seat.spends old.free

    causes : HaveCauses (G.faults n.kept.vault) (G.faults m.kept.vault) Free a.acts
    causes = subst (λ (b : Allowance). HaveCauses (G.faults n.kept.vault) (G.faults m.kept.vault) b a.acts) now_free a.causes

    further : further_of made m ≡ further_of made n ++ made_entry ∷ []
    further = beyond_more made.node.value.journal n.journal m.journal made_entry old.journal a.entry

    -- it goes down only where it shows a fault
    down_shows : m.kept.is_down ≡ true → shows_fault made_entry ≡ true
    down_shows down = go (list_any is_failure a.acts) refl
      where
        go : (b : Bool) → list_any is_failure a.acts ≡ b → shows_fault made_entry ≡ true
        go true is = ap (λ (b : Bool). is_read_fault r || b) is ∙ or_true (is_read_fault r)
        go false is = absurd (free_goes (G.faults n.kept.vault) (G.faults m.kept.vault) a.acts (sym a.down ∙ down) is causes)

    up_where : shows_fault made_entry ≡ false → m.kept.is_down ≡ false
    up_where quiet = go m.kept.is_down refl
      where
        go : (b : Bool) → m.kept.is_down ≡ b → m.kept.is_down ≡ false
        go true is = (let wrong : true ≡ false = sym (down_shows is) ∙ quiet in cc)
        go false is = is

    calm_now : list_any shows_fault (further_of made m) ≡ false → G.faults m.kept.vault ≡ G.faults made.node.value.kept.vault
    calm_now quiet =
        let both = or_false (list_any shows_fault (further_of made n)) (shows_fault made_entry) (sym (any_more shows_fault (further_of made n) made_entry) ∙ (ap (list_any shows_fault) (sym further) ∙ quiet)) in
        let read = (or_false (is_read_fault r) (list_any is_failure a.acts) both.1).0 in
        a.still ((λ i. quiet_now (order_in n.kept e) r read i || up_where both.1 i)) ∙ old.calm both.0

    pub reply_sendable : IfSome r replies.IsSendable
    reply_sendable = go m.kept.is_down refl
      where
        go : (b : Bool) → m.kept.is_down ≡ b → IfSome r replies.IsSendable
        go true is = subst (λ (x : Option Reply). IfSome x replies.IsSendable) (sym (a.halts is)) tt
        go false is = all_sendable n.kept m.kept kept.ready.clock (old.sendable up) e r served (turned is) (a.replies ∙ (ap (λ b. is_answered (order_in n.kept e) || b) is ∙ or_same (is_answered (order_in n.kept e))))
          where
            or_same : (b : Bool) → (b || false) ≡ b
            or_same true = refl
            or_same false = refl

    pub berth_stepped : IsBerth G made m (ranks ++ rank_after ranks seen ∷ [])
    berth_stepped =
        let last = last_more ranks (rank_after ranks seen) in
        let many = length-append ranks (rank_after ranks seen ∷ []) in
        let bound = old.bounded in
        record {
          journal = subst (λ (js : List Entry). IsPrefix made.node.value.journal js) (sym a.entry) (prefix_more made.node.value.journal n.journal made_entry old.journal);
          ranks_are = prefix_more made.ranks.value.items ranks (rank_after ranks seen) old.ranks_are;
          stood_long = old.stood_long;
          long = many ∙ (ap (λ k. k + 1) old.long ∙ sym (ap length a.entry ∙ length-append n.journal (made_entry ∷ [])));
          room = (let all : length m.journal ≡ length n.journal + 1 = ap length a.entry ∙ length-append n.journal (made_entry ∷ []) in let low : length n.journal < entries_limit = has_room in omega (arith, all, low));
          rising = rising_more 0 ranks (rank_after ranks seen) old.rising (omega arith) (omega arith);
          bounded = omega (arith, last, many, bound, early);
          opening = opening ∙ old.opening;
          seat = same_through made.node.value.kept n.kept m.kept old.seat seat;
          later = (let l = old.later in let s = a.later in omega (arith, l, s));
          free = now_free;
          calm = calm_now;
          down = a.down ∙ sym (ap (list_any stops) further ∙ (any_more stops (further_of made n) made_entry ∙ ap (λ b. b || stops made_entry) (sym old.down ∙ up)));
          halted = λ down. ap (list_any shows_fault) further ∙ (any_more shows_fault (further_of made n) made_entry ∙ (ap (λ b. list_any shows_fault (further_of made n) || b) (down_shows down) ∙ or_true (list_any shows_fault (further_of made n))));
          sendable = λ goes. kept_all n.kept m.kept was.ready.places (old.sendable up) r (change n.kept m.kept e r served kept.ready.clock (turned goes));
        }

    pub counted_stepped : (since : ℕ) (counts : List ℕ) (all first sent all' : ℕ) → AreCounted since counts all first n.journal → sent ≡ length (sent_by a.acts) → all' ≡ min (all + sent) 18446744073709551615 → AreCounted since (counts ++ all ∷ []) all' first m.journal
    counted_stepped since counts all first sent all' c sent_is all_is = record {
      since_is = c.since_is;
      counts_are = (λ i. c.counts_are i ++ c.all_is i ∷ []) ∙ (sym (counts_next n.journal made_entry) ∙ ap (counts_from 0) (sym a.entry));
      all_is = (let was = c.all_is in let more : count_in m.journal ≡ count_in n.journal + length (sent_by a.acts) = ap count_in a.entry ∙ count_more n.journal made_entry in omega (arith, was, more, sent_is, all_is));
    }

  -- ---- after none

  pub berth_still : (made : Made V) (n m : NodeState V) (ranks : List ℕ) → IsBerth G made n ranks → m.opening ≡ n.opening → IsSeated G n.kept m.kept → HasNoEntry G n m → IsBerth G made m ranks
  berth_still made n m ranks old opening seat none =
      let further : further_of made m ≡ further_of made n = ap (drop (length made.node.value.journal)) none.journal in
      record {
        journal = subst (λ (js : List Entry). IsPrefix made.node.value.journal js) (sym none.journal) old.journal;
        ranks_are = old.ranks_are;
        stood_long = old.stood_long;
        long = old.long ∙ sym (ap length none.journal);
        room = (let all : length m.journal ≡ length n.journal = ap length none.journal in let low : length n.journal ≤ entries_limit = old.room in omega (arith, all, low));
        rising = old.rising;
        bounded = old.bounded;
        opening = opening ∙ old.opening;
        seat = same_through made.node.value.kept n.kept m.kept old.seat seat;
        later = (let l = old.later in let s = none.vault.faults in omega (arith, l, s));
        free = none.vault.allowance ∙ old.free;
        calm = λ quiet. none.vault.faults ∙ old.calm (ap (list_any shows_fault) (sym further) ∙ quiet);
        down = none.up ∙ (old.down ∙ sym (ap (list_any stops) further));
        halted = λ down. ap (list_any shows_fault) further ∙ old.halted (sym none.up ∙ down);
        sendable = λ up client w is. old.sendable (sym none.up ∙ up) client w (ap (λ (s : Sessions). session_at s client) (sym none.sessions) ∙ is);
      }

  pub counted_still : (since : ℕ) (counts : List ℕ) (all first : ℕ) (js es : List Entry) → es ≡ js → AreCounted since counts all first js → AreCounted since counts all first es
  counted_still since counts all first js es is c = subst (λ (x : List Entry). AreCounted since counts all first x) (sym is) c
