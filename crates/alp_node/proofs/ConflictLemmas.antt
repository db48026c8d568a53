-- who stands in the way of a call that asks for locks, as the journal tells it
use Rattle.std.proofs.Math.Dec.{T}
use Rattle.std.specs.Prelude.{cond, Bool, true, false, not, ◌==◌, ◌&&◌, ◌||◌, Option, None, Some, filter}
use Rattle.std.specs.Option.{option_eq}
use Rattle.std.specs.List.{AllByRecursion, list_any}
use Rattle.std.specs.declared.cmp.Ordering.{Ordering}
use Rattle.std.specs.declared.cmp.Ordering.TheVariants.{Less, Equal, Greater}
use Rattle.std.specs.Ordering.{eq_by_cmp, ordering_reverse, is_eq, is_lt, is_gt}
use Rattle.std.specs.BTreeMap.Range.{IsLeBy}
use Rattle.std.specs.Cmp.{tied_itself}
use Rattle.std.specs.FinMap as map
use Rattle.std.specs.FinMap.{get-entries, entries_sorted, find as found}
use Rattle.std.specs.FinMap.Entries.{below_all}
use Rattle.std.proofs.Common.{◌≡◌, List, [], ◌∷◌, ◌++◌, length, refl, sym, ◌∙◌, ap, subst, arith}
use Rattle.std.proofs.lemmas.Bool.{ne_eqb}
use Rattle.alp_base.specs.declared.ids.FileId.{FileId}
use Rattle.alp_base.specs.declared.ids.TransId.{TransId}
use Rattle.alp_base.specs.declared.key.Resource.{Resource}
use Rattle.alp_base.specs.declared.key.Resource.TheVariants.{Whole}
use Rattle.alp_modes.specs.declared.Mode.{Mode}
use Rattle.alp_modes.specs.declared.Mode.TheVariants.{IntendRead, IntendWrite, Read, Update, ReadIntendWrite, Write}
use Rattle.alp_modes.specs.Modes.{covers_of}
use Rattle.alp_modes.specs.contracts.ModePartialEq.TheImpl as mode_eq
use Rattle.alp_modes.proofs.ModeLemmas.{join_by_cases}
use Rattle.alp_base.specs.Orders.{trans_cmp, resource_cmp, transactions_total, resources_total, exact_resources}
use Rattle.alp_files.specs.Holdings.{join_held, agree_held, covers_held, held_by, DoAgree}
use Rattle.alp_files.proofs.CoverLemmas.{left-above, right-above}
use Rattle.alp_files.proofs.HoldingLemmas.{agree-turned, join_held-assoc, held_by-append, none-right}
use Rattle.alp_files.specs.declared.call.Call.{Call}
use Rattle.alp_files.specs.Locks.{Need}
use Rattle.alp_queue.specs.Rises.{Held, is_raised}
use Rattle.alp_locks.specs.Tables.{Holders, held_of, holding, IsAgreeing}
use Rattle.alp_locks.specs.Asks.{blocker, joined, risen}
use Rattle.alp_locks.specs.Laws.{IsClear, IsFirstInWay}
use Rattle.alp_locks.proofs.HeldLemmas.{tied}
use Rattle.alp_locks.proofs.FreeLemmas.{granted-agrees, option-same, some-none, some-same}
use Rattle.alp_locks.proofs.HolderLemmas.{names-first}
use Rattle.alp_locks.proofs.LawLemmas.{joined-holds, no-rise}
use Rattle.alp_locks.proofs.SoundLemmas.{each-middle, each-filter, each-more, passing}
use Rattle.alp_vault.specs.Contents.{Contents}
use Rattle.alp_journal.specs.Counts.{request_in}
use Rattle.alp_journal.specs.Holder.{Life, held_for}
use Rattle.alp_journal.specs.Account.{Account}
use Rattle.alp_journal.specs.Answers.{IsInWay, IsLeastHolder}
use Rattle.alp_node.specs.Asks.{asks_made}
use Rattle.alp_node.specs.ServerState.{IsAs, IsAlike, IsLife}
use Rattle.alp_node.specs.declared.server_state.ServerState.{ServerState}
use Rattle.alp_node.specs.declared.lives.Live.{Live}
use Rattle.alp_node.proofs.LockLemmas.{itself}
use Rattle.alp_node.proofs.MapLemmas.{tied_same}
use Rattle.alp_node.proofs.ReadyLemmas.{turned}
use Rattle.alp_files.specs.Cells.{Cells}

-- ---- lists whose keys rise

left_of : (a b : Bool) → T (a && b) → T a
left_of true b h = tt
left_of false b h = absurd h

right_of : (a b : Bool) → T (a && b) → T b
right_of true b h = h
right_of false b h = absurd h

less : (o : Ordering) → T (is_lt o) → o ≡ Less
less Less h = refl
less Equal h = absurd h
less Greater h = absurd h

lt_less : (o : Ordering) → is_lt o ≡ true → o ≡ Less
lt_less Less h = refl
lt_less Equal h = cc
lt_less Greater h = cc

abbrev Sorted : List Need → Type 0
Sorted es = T (map.is_sorted resource_cmp es)

abbrev Below : Resource → List Need → Type 0
Below r es = T (below_all resource_cmp r es)

-- nothing is found below all keys
below_none : (r : Resource) (es : List Need) → Below r es → found resource_cmp r es ≡ None
below_none r [] h = refl
below_none r (e ∷ es) h =
    ap (λ (o : Ordering). cond (is_eq o) (Some e.1) (found resource_cmp r es)) (less (resource_cmp r e.0) (left_of (is_lt (resource_cmp r e.0)) (below_all resource_cmp r es) h))
    ∙ below_none r es (right_of (is_lt (resource_cmp r e.0)) (below_all resource_cmp r es) h)

below_less : (q r : Resource) (es : List Need) → resource_cmp q r ≡ Less → Below r es → Below q es
below_less q r [] p h = tt
below_less q r (e ∷ es) p h =
    go (resource_cmp q e.0) (resources_total.trans q r e.0 p (less (resource_cmp r e.0) (left_of (is_lt (resource_cmp r e.0)) (below_all resource_cmp r es) h)))
    (below_less q r es p (right_of (is_lt (resource_cmp r e.0)) (below_all resource_cmp r es) h))
  where
    go : (o : Ordering) → o ≡ Less → Below q es → T (is_lt o && below_all resource_cmp q es)
    go Less e t = t
    go Equal e t = cc
    go Greater e t = cc

-- each is found at its key
all_found : (es : List Need) → Sorted es → AllByRecursion (λ n. found resource_cmp n.0 es ≡ Some n.1) es
all_found [] h = tt
all_found (e ∷ es) h = (
  ap (λ (o : Ordering). cond (is_eq o) (Some e.1) (found resource_cmp e.0 es)) (tied_itself resources_total e.0),
  behind es (all_found es (right_of (below_all resource_cmp e.0 es) (map.is_sorted resource_cmp es) h)),
)
  where
    other : (n : Need) → found resource_cmp n.0 es ≡ Some n.1 → (b : Bool) → eq_by_cmp resource_cmp n.0 e.0 ≡ b → cond b (Some e.1) (found resource_cmp n.0 es) ≡ Some n.1
    other n at false same = at
    other n at true same =
        let it : n.0 ≡ e.0 = exact_resources n.0 e.0 (tied (resource_cmp n.0 e.0) same) in
        absurd (some-none n.1 (sym at ∙ ap (λ (r : Resource). found resource_cmp r es) it ∙ below_none e.0 es (left_of (below_all resource_cmp e.0 es) (map.is_sorted resource_cmp es) h)))

    behind : (ns : List Need) → AllByRecursion (λ n. found resource_cmp n.0 es ≡ Some n.1) ns → AllByRecursion (λ n. found resource_cmp n.0 (e ∷ es) ≡ Some n.1) ns
    behind [] t = tt
    behind (n ∷ ns) t = (other n t.0 (eq_by_cmp resource_cmp n.0 e.0) refl, behind ns t.1)

first_same : (x y : Need) (xs ys : List Need) → x ∷ xs ≡ y ∷ ys → x ≡ y
first_same x y xs ys e = cc

rest_same : (x y : Need) (xs ys : List Need) → x ∷ xs ≡ y ∷ ys → xs ≡ ys
rest_same x y xs ys e = cc

-- what passes at a lesser key than one that passes stands before it
stands_before : (P : Need → Type 0) (p : Need → Bool) (es : List Need) → Sorted es → (before : List Need) (n : Need) (after : List Need) → filter p es ≡ before ++ n ∷ after → AllByRecursion P before
    → (r : Resource) (m : Mode) → resource_cmp r n.0 ≡ Less → found resource_cmp r es ≡ Some m → p (r, m) ≡ true → P (r, m)
stands_before P p [] sorted before n after whole all r m less_is at passes = absurd (some-none m (sym at))
stands_before P p (e ∷ es) sorted before n after whole all r m less_is at passes =
    go (p e) refl (eq_by_cmp resource_cmp r e.0) refl before whole all at (λ b w k f. stands_before P p es (right_of (below_all resource_cmp e.0 es) (map.is_sorted resource_cmp es) sorted) b n after w k r m less_is f passes)
  where
    -- it is the first one
    same : eq_by_cmp resource_cmp r e.0 ≡ true → Some e.1 ≡ Some m → e ≡ (r, m)
    same is value = λ i. (sym (exact_resources r e.0 (tied (resource_cmp r e.0) is)) i, some-same e.1 m value i)

    go : (b : Bool) → p e ≡ b → (c : Bool) → eq_by_cmp resource_cmp r e.0 ≡ c → (bs : List Need) → cond b (e ∷ filter p es) (filter p es) ≡ bs ++ n ∷ after → AllByRecursion P bs
        → cond c (Some e.1) (found resource_cmp r es) ≡ Some m
        → ((xs : List Need) → filter p es ≡ xs ++ n ∷ after → AllByRecursion P xs → found resource_cmp r es ≡ Some m → P (r, m)) → P (r, m)
    go false not_yet true is bs w k f later = let wrong : true ≡ false = sym passes ∙ sym (ap p (same is f)) ∙ not_yet in cc
    go false not_yet false is bs w k f later = later bs w k f
    go true passed c is [] w k f later =
        let first : e ≡ n = first_same e n (filter p es) after w in
        let low : resource_cmp r e.0 ≡ Less = ap (λ (x : Need). resource_cmp r x.0) first ∙ less_is in
        let gone : found resource_cmp r (e ∷ es) ≡ None =
        ap (λ (o : Ordering). cond (is_eq o) (Some e.1) (found resource_cmp r es)) low ∙ below_none r es (below_less r e.0 es low (left_of (below_all resource_cmp e.0 es) (map.is_sorted resource_cmp es) sorted)) in
        absurd (some-none m (sym at ∙ gone))
    go true passed true is (x ∷ xs) w k f later =
        subst P (sym (first_same e x (filter p es) (xs ++ n ∷ after) w) ∙ same is f) k.0
    go true passed false is (x ∷ xs) w k f later =
        later xs (rest_same e x (filter p es) (xs ++ n ∷ after) w) k.1 f

-- ---- the first and least in the way of what is asked

-- the order of transactions, turned
no_greater : (a b : TransId) → (trans_cmp b a ≡ Less → ⊥) → IsLeBy trans_cmp a b
no_greater a b not_less = ap is_gt (transactions_total.antisymm a b) ∙ go (trans_cmp b a) not_less
  where
    go : (o : Ordering) → (o ≡ Less → ⊥) → is_gt (ordering_reverse o) ≡ false
    go Less no_less = absurd (no_less refl)
    go Equal no_less = refl
    go Greater no_less = refl

module _ (parts : Holders) (t : TransId) (asks : List Need) where
  -- what the asker would hold
  abbrev pub then_held : Held
  then_held = joined (held_of parts t) asks

  abbrev rising : List Need
  rising = risen (held_of parts t) asks

  -- another's lock does not agree with that
  abbrev pub Disagrees : Resource → TransId → Type 0
  Disagrees r u = (eq_by_cmp trans_cmp t u ≡ false) × (agree_held (holding parts u r) (map.get then_held r) ≡ false)

  pub record IsFirstOf (u : TransId) : Type 0 where
    pub on : Resource
    pub stands : Disagrees on u
    pub least : (v : TransId) → Disagrees on v → IsLeBy trans_cmp u v
    pub first : (r : Resource) (v : TransId) → is_lt (resource_cmp r on) ≡ true → Disagrees r v → ⊥

  -- what rises stands there then
  at_rising : (before : List Need) (n : Need) (after : List Need) → rising ≡ before ++ n ∷ after → map.get then_held n.0 ≡ Some n.1
  at_rising before n after whole =
      let es : List Need = map.entries then_held in
      let all : AllByRecursion (λ (x : Need). found resource_cmp x.0 es ≡ Some x.1) rising =
      each-filter (λ (x : Need). found resource_cmp x.0 es ≡ Some x.1) (is_raised (held_of parts t)) es (all_found es (entries_sorted then_held)) in
      get-entries then_held n.0 ∙ (each-middle (λ (x : Need). found resource_cmp x.0 es ≡ Some x.1) before n after (subst (AllByRecursion (λ (x : Need). found resource_cmp x.0 es ≡ Some x.1)) whole all)).0

  -- nobody is in the way on an earlier resource
  none_earlier : IsAgreeing parts → (u : TransId) (way : IsFirstInWay parts t rising u) (r : Resource) (v : TransId) → is_lt (resource_cmp r way.need.0) ≡ true → Disagrees r v → (x : Option Mode) → map.get then_held r ≡ x → ⊥
  none_earlier agreeing u way r v low d None at =
      let wrong : true ≡ false = sym (agree-turned (holding parts v r) None) ∙ ap (agree_held (holding parts v r)) (sym at) ∙ d.1 in cc
  none_earlier agreeing u way r v low d (Some m) at = go (is_raised (held_of parts t) (r, m)) refl
    where
      away : agree_held (holding parts v r) (Some m) ≡ false
      away = ap (agree_held (holding parts v r)) (sym at) ∙ d.1

      go : (b : Bool) → is_raised (held_of parts t) (r, m) ≡ b → ⊥
      go true e =
          stands_before (IsClear parts t) (is_raised (held_of parts t)) (map.entries then_held) (entries_sorted then_held) way.before way.need way.after way.whole way.clear r m
          (lt_less (resource_cmp r way.need.0) low) (sym (get-entries then_held r) ∙ at) e v (d.0, away)
      go false e =
          let own : holding parts t r ≡ Some m = option-same (holding parts t r) m e in
          let wrong : true ≡ false = sym (agreeing t v d.0 r) ∙ agree-turned (holding parts t r) (holding parts v r) ∙ ap (agree_held (holding parts v r)) own ∙ away in cc

  pub first_of : IsAgreeing parts → (u : TransId) → blocker parts t rising ≡ Some u → IsFirstOf u
  first_of agreeing u named =
      let way : IsFirstInWay parts t rising u = names-first parts t rising u named in
      let there : map.get then_held way.need.0 ≡ Some way.need.1 = at_rising way.before way.need way.after way.whole in
      record {
        on = way.need.0;
        stands = (way.inway.0, ap (agree_held (holding parts u way.need.0)) there ∙ way.inway.1);
        least = λ v d. no_greater u v (way.least v (d.0, sym (ap (agree_held (holding parts v way.need.0)) there) ∙ d.1));
        first = λ r v low d. none_earlier agreeing u way r v low d (map.get then_held r) refl;
      }

  -- where what the asker would hold agrees with all, nobody is in the way
  pub none_in_way : ((u : TransId) → eq_by_cmp trans_cmp t u ≡ false → DoAgree (map.get then_held) (holding parts u)) → blocker parts t rising ≡ None
  none_in_way agree = go (blocker parts t rising) refl
    where
      go : (x : Option TransId) → blocker parts t rising ≡ x → x ≡ None
      go None e = refl
      go (Some u) e =
          let way : IsFirstInWay parts t rising u = names-first parts t rising u e in
          let there : map.get then_held way.need.0 ≡ Some way.need.1 = at_rising way.before way.need way.after way.whole in
          let mine : Option Mode = map.get then_held way.need.0 in
          let theirs : Option Mode = holding parts u way.need.0 in
          let wrong : true ≡ false = sym (agree u way.inway.0 way.need.0) ∙ agree-turned mine theirs ∙ ap (agree_held theirs) there ∙ way.inway.1 in
          cc

-- ---- the lock of a file that is being made

module _ (parts : Holders) (t : TransId) (id : FileId) where
  -- where nobody holds the file, its lock agrees with all that is held
  with_file : (u : TransId) (asks : List Need) → holding parts u (Whole id) ≡ None → DoAgree (map.get (then_held parts t asks)) (holding parts u)
      → DoAgree (map.get (then_held parts t (asks ++ (Whole id, Write) ∷ []))) (holding parts u)
  with_file u asks none agree r =
      let file : List Need = (Whole id, Write) ∷ [] in
      let h : Held = held_of parts t in
      let mine : Option Mode = map.get (joined h asks) r in
      let more : map.get (joined h (asks ++ file)) r ≡ join_held mine (held_by file r) =
      joined-holds (asks ++ file) h r ∙ ap (join_held (map.get h r)) (held_by-append asks file r) ∙ sym (join_held-assoc (map.get h r) (held_by asks r) (held_by file r))
      ∙ ap (λ (x : Option Mode). join_held x (held_by file r)) (sym (joined-holds asks h r)) in
      ap (λ (x : Option Mode). agree_held x (holding parts u r)) more ∙ go (eq_by_cmp resource_cmp r (Whole id)) refl
    where
      go : (b : Bool) → eq_by_cmp resource_cmp r (Whole id) ≡ b → agree_held (join_held (map.get (joined (held_of parts t) asks) r) (cond b (Some Write) None)) (holding parts u r) ≡ true
      go true e =
          let free : holding parts u r ≡ None = ap (holding parts u) (exact_resources r (Whole id) (tied (resource_cmp r (Whole id)) e)) ∙ none in
          let mine : Option Mode = join_held (map.get (joined (held_of parts t) asks) r) (Some Write) in
          ap (agree_held mine) free ∙ agree-turned mine None
      go false e = ap (λ (x : Option Mode). agree_held x (holding parts u r)) (none-right (map.get (joined (held_of parts t) asks) r)) ∙ agree r

  -- so whoever has the way free for what it asks has it for the file too
  pub made_free : (asks : List Need) → IsAgreeing parts → ((u : TransId) → holding parts u (Whole id) ≡ None) → blocker parts t (risen (held_of parts t) asks) ≡ None → blocker parts t (risen (held_of parts t) (asks_made id asks)) ≡ None
  made_free asks agreeing none free = none_in_way parts t (asks_made id asks) (λ u apart. with_file u asks (none u) (granted-agrees parts t (then_held parts t asks) agreeing free u apart))

-- ---- as the journal tells it

-- what others hold
pub held_elsewhere : (cells : Cells) (locks : Holders) (rs : List Resource) (u : TransId) (y : Option Live) (m : Life) → IsAlike cells locks rs u y (Some m) → (q : Resource) → m.held q ≡ holding locks u q
held_elsewhere cells locks rs u None m wrong q = absurd wrong
held_elsewhere cells locks rs u (Some z) m life q = life.held q

-- who holds a lock is live
record HasLife (locks : Holders) (u : TransId) (x : Option Life) : Type 0 where
  life : Life
  is : x ≡ Some life
  held : (q : Resource) → life.held q ≡ holding locks u q

holder_lives : (cells : Cells) (locks : Holders) (rs : List Resource) (u : TransId) (y : Option Live) (x : Option Life) → IsAlike cells locks rs u y x → (r : Resource) (b : Option Mode) → agree_held (holding locks u r) b ≡ false → HasLife locks u x
holder_lives cells locks rs u None None alike r b e = let wrong : true ≡ false = ap (λ (z : Option Mode). agree_held z b) (sym (alike r)) ∙ e in cc
holder_lives cells locks rs u (Some l) (Some life) alike r b e = record { life = life; is = refl; held = alike.held }
holder_lives cells locks rs u None (Some life) alike r b e = absurd alike
holder_lives cells locks rs u (Some l) None alike r b e = absurd alike

module _ {V : Type 0} (a : Account) (held : Contents) (k : ServerState V) (t : TransId) (l : Live) (life : Life) (c : Call) (ns : List Need) (h : IsAs a held k) (mine : IsLife a.holder.cells k.locks.held (a.locked t) t l life) (asked : request_in a.holder c (Some life) ≡ ns) where
  -- what the part would hold is what the table's plan leaves
  pub would_hold : (q : Resource) → held_for a.holder life c q ≡ map.get (then_held k.locks.held t ns) q
  would_hold q =
      ap (λ (ms : List Need). join_held (life.held q) (held_by ms q)) asked ∙ ap (λ (y : Option Mode). join_held y (held_by ns q)) (mine.held q) ∙ sym (joined-holds ns (held_of k.locks.held t) q)

  in_way : (r : Resource) (u : TransId) → Disagrees k.locks.held t ns r u → IsInWay a.holder t life c r u
  in_way r u d =
      let x : HasLife k.locks.held u (a.holder.lives u) = holder_lives a.holder.cells k.locks.held (a.locked u) u (map.get k.lives u) (a.holder.lives u) (h.lives u) r (map.get (then_held k.locks.held t ns) r) d.1 in
      record { life = x.life; live = x.is; other = turned t u (sym (tied_same t u) ∙ d.0); disagree = (λ i. agree_held (x.held r i) (would_hold r i)) ∙ d.1 }

  disagrees : (r : Resource) (u : TransId) → IsInWay a.holder t life c r u → Disagrees k.locks.held t ns r u
  disagrees r u w =
      let is : w.life.held r ≡ holding k.locks.held u r = held_elsewhere a.holder.cells k.locks.held (a.locked u) u (map.get k.lives u) w.life (subst (λ (y : Option Life). IsAlike a.holder.cells k.locks.held (a.locked u) u (map.get k.lives u) y) w.live (h.lives u)) r in
      (tied_same t u ∙ turned u t w.other, (λ i. agree_held (sym is i) (sym (would_hold r) i)) ∙ w.disagree)

  -- who is named is the least in the way on the first resource
  pub least_holder : IsAgreeing k.locks.held → (u : TransId) → blocker k.locks.held t (risen (held_of k.locks.held t) ns) ≡ Some u → IsLeastHolder a.holder t life c u
  least_holder agreeing u named =
      let f : IsFirstOf k.locks.held t ns u = first_of k.locks.held t ns agreeing u named in
      record {
        on = f.on;
        stands = in_way f.on u f.stands;
        least = λ v w. f.least v (disagrees f.on v w);
        first = λ r v low w. f.first r v low (disagrees r v w);
      }

-- ---- whether anything is asked

-- each mode that would be left stands there then
all_joined : (h : Held) (ns : List Need) → AllByRecursion (λ (x : Need). map.get (joined h ns) x.0 ≡ Some x.1) (risen h ns)
all_joined h ns =
    each-filter (λ (x : Need). map.get (joined h ns) x.0 ≡ Some x.1) (is_raised h) (map.entries (joined h ns))
    (each-more (λ (x : Need). found resource_cmp x.0 (map.entries (joined h ns)) ≡ Some x.1) (λ (x : Need). map.get (joined h ns) x.0 ≡ Some x.1) (λ x at. get-entries (joined h ns) x.0 ∙ at) (map.entries (joined h ns))
    (all_found (map.entries (joined h ns)) (entries_sorted (joined h ns))))

raised_not : (h : Held) (n : Need) → map.get h n.0 ≡ Some n.1 → is_raised h n ≡ false
raised_not h n at = ap (λ (x : Option Mode). not (option_eq (mode_eq.ghosts).eq x (Some n.1))) at ∙ ap not (itself_mode n.1)
  where
    itself_mode : (m : Mode) → (mode_eq.ghosts).eq m m ≡ true
    itself_mode IntendRead = refl
    itself_mode IntendWrite = refl
    itself_mode Read = refl
    itself_mode Update = refl
    itself_mode ReadIntendWrite = refl
    itself_mode Write = refl

covers_own : (m : Mode) → covers_of m m ≡ true
unfolding covers_of
covers_own IntendRead = refl
covers_own IntendWrite = refl
covers_own Read = refl
covers_own Update = refl
covers_own ReadIntendWrite = refl
covers_own Write = refl

join_covered : (x : Option Mode) (m : Mode) → covers_held x m ≡ true → join_held x (Some m) ≡ x
join_covered None m h = cc
join_covered (Some b) m h = ap Some (join_by_cases b m ∙ ap (λ (e : Bool). cond {A = Mode} e b (cond {A = Mode} (covers_of m b) m ReadIntendWrite)) h)

pub not_empty : (n : Need) (ns : List Need) → (length (n ∷ ns) == 0) ≡ false
not_empty n ns = ne_eqb (length (n ∷ ns)) 0 (λ e. absurd (omega (arith, e)))

-- what is held covers each need
abbrev IsCoveredBy : Held → List Need → Type 0
IsCoveredBy h ns = AllByRecursion (λ (n : Need). covers_held (map.get h n.0) n.1 ≡ true) ns

abbrev rises : Held → Need → Bool
rises h n = not (covers_held (map.get h n.0) n.1)

module _ (h : Held) where
  any_covered : (ns : List Need) → list_any (rises h) ns ≡ false → IsCoveredBy h ns
  any_covered [] e = tt
  any_covered (n ∷ ns) e = go (covers_held (map.get h n.0) n.1) refl (any_covered ns) e
    where
      go : (b : Bool) → covers_held (map.get h n.0) n.1 ≡ b → (list_any (rises h) ns ≡ false → IsCoveredBy h ns) → (not b || list_any (rises h) ns) ≡ false → (covers_held (map.get h n.0) n.1 ≡ true) × IsCoveredBy h ns
      go true is rest e = (is, rest e)
      go false is rest e = cc

  covered_any : (ns : List Need) → IsCoveredBy h ns → list_any (rises h) ns ≡ false
  covered_any [] all = refl
  covered_any (n ∷ ns) all = ap (λ (b : Bool). not b || list_any (rises h) ns) all.0 ∙ covered_any ns all.1

  -- what is covered leaves what is held as it is
  covered_same : (ns : List Need) → IsCoveredBy h ns → (r : Resource) → join_held (map.get h r) (held_by ns r) ≡ map.get h r
  covered_same [] all r = none-right (map.get h r)
  covered_same (n ∷ ns) all r = go (eq_by_cmp resource_cmp r n.0) refl (covered_same ns all.1 r)
    where
      go : (b : Bool) → eq_by_cmp resource_cmp r n.0 ≡ b → join_held (map.get h r) (held_by ns r) ≡ map.get h r → join_held (map.get h r) (cond {A = Option Mode} b (join_held (Some n.1) (held_by ns r)) (held_by ns r)) ≡ map.get h r
      go true e rest =
          let there : covers_held (map.get h r) n.1 ≡ true = ap (λ (x : Resource). covers_held (map.get h x) n.1) (exact_resources r n.0 (tied (resource_cmp r n.0) e)) ∙ all.0 in
          sym (join_held-assoc (map.get h r) (Some n.1) (held_by ns r)) ∙ ap (λ (x : Option Mode). join_held x (held_by ns r)) (join_covered (map.get h r) n.1 there) ∙ rest
      go false e rest = rest

  pub none_risen : (ns : List Need) → IsCoveredBy h ns → (xs : List Need) → risen h ns ≡ xs → xs ≡ []
  none_risen ns all [] is = refl
  none_risen ns all (x ∷ xs) is =
      let at : map.get (joined h ns) x.0 ≡ Some x.1 = (subst (AllByRecursion (λ (y : Need). map.get (joined h ns) y.0 ≡ Some y.1)) is (all_joined h ns)).0 in
      let up : is_raised h x ≡ true = (subst (AllByRecursion (λ (y : Need). is_raised h y ≡ true)) is (passing (is_raised h) (map.entries (joined h ns)))).0 in
      let wrong : true ≡ false = sym up ∙ raised_not h x (sym (joined-holds ns h x.0 ∙ covered_same ns all x.0) ∙ at) in
      cc

  -- and what does not rise is covered
  covered_under : (ns : List Need) → ((r : Resource) (m : Mode) → covers_held (held_by ns r) m ≡ true → covers_held (map.get h r) m ≡ true) → IsCoveredBy h ns
  covered_under [] under = tt
  covered_under (n ∷ ns) under = (under n.0 n.1 own, covered_under ns (λ r m is. under r m (more r m (eq_by_cmp resource_cmp r n.0) is)))
    where
      own : covers_held (held_by (n ∷ ns) n.0) n.1 ≡ true
      own = ap (λ (b : Bool). covers_held (cond {A = Option Mode} b (join_held (Some n.1) (held_by ns n.0)) (held_by ns n.0)) n.1) (itself n.0) ∙ left-above (Some n.1) (held_by ns n.0) n.1 (covers_own n.1)

      more : (r : Resource) (m : Mode) (b : Bool) → covers_held (held_by ns r) m ≡ true → covers_held (cond {A = Option Mode} b (join_held (Some n.1) (held_by ns r)) (held_by ns r)) m ≡ true
      more r m true is = right-above (Some n.1) (held_by ns r) m is
      more r m false is = is

  covered_so : (ns : List Need) → risen h ns ≡ [] → IsCoveredBy h ns
  covered_so ns none = covered_under ns (λ r m is. subst (λ (x : Option Mode). covers_held x m ≡ true) (sym (joined-holds ns h r) ∙ no-rise h ns none r) (right-above (map.get h r) (held_by ns r) m is))

  -- a need rises just where what is held does not cover it
  pub rises_as : (ns : List Need) → list_any (rises h) ns ≡ not (length (risen h ns) == 0)
  rises_as ns = go (list_any (rises h) ns) refl (risen h ns) refl
    where
      go : (b : Bool) → list_any (rises h) ns ≡ b → (xs : List Need) → risen h ns ≡ xs → b ≡ not (length xs == 0)
      go false e [] is = refl
      go false e (x ∷ xs) is = (let wrong : x ∷ xs ≡ [] = none_risen ns (any_covered ns e) (x ∷ xs) is in cc)
      go true e [] is = (let wrong : true ≡ false = sym e ∙ covered_any ns (covered_so ns is) in cc)
      go true e (x ∷ xs) is = sym (ap not (not_empty x xs))
