-- what a client makes of an answer
use Rattle.std.specs.Prelude.{◌≢◌, true, false, Bool, cond, ◌∷◌, Option, None, Some}
use Rattle.std.proofs.lemmas.Bool.{cases_eq}
use Rattle.std.specs.Option.{option_map}
use Rattle.std.specs.FinMap as map
use Rattle.std.specs.List.{AllByRecursion}
use Rattle.std.specs.Ordering.{is_lt, ordering_reverse}
use Rattle.std.proofs.Common.{inl, inr, ◌⊎◌, ◌≡◌, ℕ, ◌≤◌, List, [], refl, sym, ◌∙◌, ap, subst, arith}
use Rattle.std.proofs.lemmas.Bool.Decides.{leb_tells}
use Rattle.alp_base.specs.declared.ids.FileId.{FileId}
use Rattle.alp_base.specs.declared.ids.Stamp.{Stamp}
use Rattle.alp_base.specs.declared.ids.TransId.{TransId}
use Rattle.alp_files.specs.declared.reply.Reply.{Reply}
use Rattle.alp_files.specs.declared.reply.Reply.TheVariants as reply
use Rattle.alp_files.specs.declared.reply.Ended.{Ended}
use Rattle.alp_files.specs.declared.reply.Ended.TheVariants as ended
use Rattle.alp_files.specs.declared.refusal.Refusal.{Refusal}
use Rattle.alp_files.specs.declared.refusal.Refusal.TheVariants as refusal
use Rattle.alp_lines.specs.declared.line.Line.{Line}
use Rattle.alp_lines.specs.declared.line.Line.TheVariants as line
use Rattle.alp_journal.specs.Ids.{stamp_cmp}
use Rattle.alp_journal.proofs.StampLemmas.{stamps_total, stamp_cmp-later}
use Rattle.alp_history.specs.Items.{stamps_in}
use Rattle.alp_session.specs.Maps.{WordMap, SessionMap}
use Rattle.alp_session.specs.Props.{later}
use Rattle.alp_session.specs.Clients.{first_of}
use Rattle.alp_session.specs.Heard.{left, forgets, told_refusal, created, opened as opened_said, told_end, joined_in, knows_part, started, learned_reply, told_only, purpose_of, collects_by_itself, is_waiting_at, waiting_for, awaiting, called, joined_reply, is_part, part_known, joined_late, opened_late, late_reply, collected_reply, purpose_in, others, one_more, waits_on, collected, answered, counted_in, counted, heard_again}
use Rattle.alp_session.specs.declared.asking.Asking.{Asking}
use Rattle.alp_session.specs.declared.asking.Asking.TheVariants as asking
use Rattle.alp_session.specs.declared.asking.Sending.{Sending}
use Rattle.alp_session.specs.declared.client.Client.{Client}
use Rattle.alp_session.specs.declared.greeted.Greeted.{Greeted}
use Rattle.alp_session.specs.declared.waiting.Next.{Next}
use Rattle.alp_session.specs.declared.waiting.Next.TheVariants as next
use Rattle.alp_session.specs.declared.waiting.Purpose.{Purpose}
use Rattle.alp_session.specs.declared.waiting.Purpose.TheVariants as purpose
use Rattle.alp_session.specs.declared.waiting.Settings.{Settings}
use Rattle.alp_session.specs.declared.waiting.Waiting.{Waiting}
use Rattle.alp_cluster.specs.Come.{Come}
use Rattle.alp_cluster.specs.Clients.{come_in, session_of}
use Rattle.alp_cluster.proofs.PlaceLemmas.{put_there, put_elsewhere, taken_there, taken_elsewhere}

-- ---- what the client makes of an answer

-- sessions, stamp, begin and frames stay where nothing is said of them
pub record SameKnown (c d : Client) : Type 0 where
  pub session : (n : ℕ) → session_of n d ≡ session_of n c
  pub told : d.told ≡ c.told
  pub begun : d.begun ≡ c.begun
  pub frames : d.frames ≡ c.frames

pub same_known : (c : Client) → SameKnown c c
same_known c = record { session = λ n. refl; told = refl; begun = refl; frames = refl }

left_known : (c : Client) (l : Line) → SameKnown c (left c l)
left_known c (line.Commit k) = record { session = λ n. refl; told = refl; begun = refl; frames = refl }
left_known c (line.Abort k) = record { session = λ n. refl; told = refl; begun = refl; frames = refl }
left_known c l = same_known c

created_known : (c : Client) (l : Line) (f : FileId) (n : ℕ) → SameKnown c (created c l f n)
created_known c (line.Create k server word name size read modify choice) f n = record { session = λ n. refl; told = refl; begun = refl; frames = refl }
created_known c l f n = same_known c

opened_known : (words : WordMap) (c : Client) (l : Line) (n : ℕ) → SameKnown c (opened_said words c l n)
opened_known words c (line.OpenFile k file access mode choice) n = record { session = λ n. refl; told = refl; begun = refl; frames = refl }
opened_known words c l n = same_known c

-- how far a session has come is no matter of the parts that are known there
joined_session : (n m : ℕ) (sessions : SessionMap) (t : TransId) (o : Option Greeted) → map.get sessions n ≡ o → option_map come_in (map.get (joined_in sessions n t o) m) ≡ option_map come_in (map.get sessions m)
joined_session n m sessions t None is = refl
joined_session n m sessions t (Some g) is = elim (cases_eq m n) [
  | inl same ↦ ap (λ (k : ℕ). option_map come_in (map.get (map.insert sessions n (record g { joined = Some t })) k)) same ∙ ap (option_map come_in) (put_there n sessions (record g { joined = Some t }))
      ∙ sym (ap (option_map come_in) is) ∙ ap (λ (k : ℕ). option_map come_in (map.get sessions k)) (sym same)
  | inr away ↦ ap (option_map come_in) (put_elsewhere n m sessions (record g { joined = Some t }) away)
]

part_session : (n m : ℕ) (c : Client) (t : TransId) → session_of m (knows_part c n t) ≡ session_of m c
part_session n m c t = joined_session n m c.sessions t (map.get c.sessions n) refl

part_known_same : (n : ℕ) (c : Client) (o : Option TransId) → SameKnown c (part_known c n o)
part_known_same n c None = same_known c
part_known_same n c (Some t) = record { session = λ m. part_session n m c t; told = refl; begun = refl; frames = refl }

-- behind a frame of a session this has come to its number, where it stands, and no other has
counted_there : (n : ℕ) (sessions : SessionMap) (number : ℕ) (o : Option Greeted) → map.get sessions n ≡ o
    → option_map come_in (map.get (counted_in sessions n number o) n) ≡ option_map (λ (a : Come). record a { number = number }) (option_map come_in o)
counted_there n sessions number None is = ap (option_map come_in) is
counted_there n sessions number (Some g) is = ap (option_map come_in) (put_there n sessions (record g { last = number }))

counted_beside : (n m : ℕ) (sessions : SessionMap) (number : ℕ) (o : Option Greeted) → m ≢ n → option_map come_in (map.get (counted_in sessions n number o) m) ≡ option_map come_in (map.get sessions m)
counted_beside n m sessions number None away = refl
counted_beside n m sessions number (Some g) away = ap (option_map come_in) (put_elsewhere n m sessions (record g { last = number }) away)

pub counted_session : (n : ℕ) (c : Client) (number : ℕ) → session_of n (counted c n number) ≡ option_map (λ (a : Come). record a { number = number }) (session_of n c)
counted_session n c number = counted_there n c.sessions number (map.get c.sessions n) refl

pub counted_elsewhere : (n m : ℕ) (c : Client) (number : ℕ) → m ≢ n → session_of m (counted c n number) ≡ session_of m c
counted_elsewhere n m c number away = counted_beside n m c.sessions number (map.get c.sessions n) away

-- a session that is forgotten
gone_session : (n : ℕ) (c : Client) → session_of n (forgets c n) ≡ None
gone_session n c = ap (option_map come_in) (taken_there n c.sessions)

gone_elsewhere : (n m : ℕ) (c : Client) → m ≢ n → session_of m (forgets c n) ≡ session_of m c
gone_elsewhere n m c away = ap (option_map come_in) (taken_elsewhere n m c.sessions away)

-- the greater of two stamps has neither's time behind it
pub record IsLater (told s now : Stamp) : Type 0 where
  pub first : told.ts ≤ now.ts
  pub second : s.ts ≤ now.ts

later_is : (told s : Stamp) → IsLater told s (later told s)
later_is told s = go (is_lt (stamp_cmp told s)) refl
  where
    go : (b : Bool) → is_lt (stamp_cmp told s) ≡ b → IsLater told s (cond b s told)
    go true e = elim (leb_tells told.ts s.ts) [
      | inl h ↦ record { first = h.1; second = omega arith }
      | inr h ↦ (let wrong : false ≡ true = sym (ap is_lt (stamp_cmp-later told s h.1)) ∙ e in cc)
    ]
    go false e = elim (leb_tells s.ts told.ts) [
      | inl h ↦ record { first = omega arith; second = h.1 }
      | inr h ↦ (let wrong : true ≡ false = sym (ap is_lt (stamps_total.antisymm told s ∙ ap ordering_reverse (stamp_cmp-later s told h.1))) ∙ e in cc)
    ]

abbrev AreUpTo : ℕ → List Stamp → Type 0
AreUpTo most ss = AllByRecursion (λ (s : Stamp). s.ts ≤ most) ss

-- The session there stays, or there is none any more, and those with other servers stay. What was told before and what the answer tells
-- is no later than what the client knows then; where neither is beyond the clock, that is not.
pub record Knows (n : ℕ) (c d : Client) (r : Reply) : Type 0 where
  pub session : (session_of n d ≡ session_of n c) ⊎ (session_of n d ≡ None)
  pub others : (m : ℕ) → m ≢ n → session_of m d ≡ session_of m c
  pub before : c.told.ts ≤ d.told.ts
  pub stamps : AreUpTo d.told.ts (stamps_in r)
  pub within : (clock : ℕ) → c.told.ts ≤ clock → AreUpTo clock (stamps_in r) → d.told.ts ≤ clock
  pub begun : (d.begun ≡ c.begun) ⊎ ((t : TransId) × (r ≡ reply.Begun t) × (d.begun ≡ Some t))

module _ (n : ℕ) where
  -- nothing of that is said
  knows_but : (c d : Client) (r : Reply) → stamps_in r ≡ [] → (session_of n d ≡ session_of n c) ⊎ (session_of n d ≡ None) → ((m : ℕ) → m ≢ n → session_of m d ≡ session_of m c) → d.told ≡ c.told → (d.begun ≡ c.begun) ⊎ ((t : TransId) × (r ≡ reply.Begun t) × (d.begun ≡ Some t)) → Knows n c d r
  knows_but c d r none session others told begun =
      let same : d.told.ts ≡ c.told.ts = ap (λ (s : Stamp). s.ts) told in
      record {
        session = session;
        others = others;
        before = omega (arith, same);
        stamps = subst (AreUpTo d.told.ts) (sym none) tt;
        within = λ clock low all. omega (arith, same, low);
        begun = begun;
      }

  knows_same : (c d : Client) (r : Reply) → stamps_in r ≡ [] → SameKnown c d → Knows n c d r
  knows_same c d r none h = knows_but c d r none (inl (h.session n)) (λ m away. h.session m) h.told (inl h.begun)

  knows_later : (c d : Client) (s : Stamp) (r : Reply) → stamps_in r ≡ s ∷ [] → ((m : ℕ) → session_of m d ≡ session_of m c) → d.begun ≡ c.begun → d.told ≡ later c.told s → Knows n c d r
  knows_later c d s r is session begun told =
      let up = later_is c.told s in
      let same : d.told.ts ≡ (later c.told s).ts = ap (λ (x : Stamp). x.ts) told in
      record {
        session = inl (session n);
        others = λ m away. session m;
        begun = inl begun;
        before = omega (arith, same, up.first);
        stamps = subst (AreUpTo d.told.ts) (sym is) ((let low : s.ts ≤ d.told.ts = omega (arith, same, up.second) in low), tt);
        within = λ clock low all.
            let one : s.ts ≤ clock = (subst (AreUpTo clock) is all).0 in
            elim (is_lt (stamp_cmp c.told s)) as (λ b. d.told ≡ cond b s c.told → d.told.ts ≤ clock) [
              | true ↦ (λ e. let t : d.told.ts ≡ s.ts = ap (λ (x : Stamp). x.ts) e in omega (arith, t, one))
              | false ↦ (λ e. let t : d.told.ts ≡ c.told.ts = ap (λ (x : Stamp). x.ts) e in omega (arith, t, low))
            ] told;
      }

  ended_knows : (c : Client) (e : Ended) → Knows n c (told_end c e) (reply.Ended e)
  ended_knows c (ended.Committed s) = knows_later c (told_end c (ended.Committed s)) s (reply.Ended (ended.Committed s)) refl (λ m. refl) refl refl
  ended_knows c ended.Running = knows_same c c (reply.Ended ended.Running) refl (same_known c)
  ended_knows c ended.Aborted = knows_same c c (reply.Ended ended.Aborted) refl (same_known c)
  ended_knows c ended.Unknown = knows_same c c (reply.Ended ended.Unknown) refl (same_known c)

  refused_knows : (c : Client) (l : Line) (f : Refusal) → Knows n c (told_refusal c n l f) (reply.Refused f)
  refused_knows c l refusal.UnknownTrans = knows_same c (left c l) (reply.Refused refusal.UnknownTrans) refl (left_known c l)
  refused_knows c l (refusal.Aborted cause) = knows_same c (left c l) (reply.Refused (refusal.Aborted cause)) refl (left_known c l)
  refused_knows c l (refusal.StaleSession epoch) = knows_but c (forgets c n) (reply.Refused (refusal.StaleSession epoch)) refl (inr (gone_session n c)) (λ m away. gone_elsewhere n m c away) refl (inl refl)
  refused_knows c l f = knows_same c c (reply.Refused f) refl (same_known c)

  started_knows : (c : Client) (l : Line) (t : TransId) → Knows n c (started c n l t) (reply.Begun t)
  started_knows c (line.Begin k server) t = knows_but c (record (knows_part c n t) { trans = Some t; begun = Some t }) (reply.Begun t) refl (inl (part_session n n c t)) (λ m away. part_session n m c t) refl (inr (t, refl, refl))
  started_knows c l t = knows_same c c (reply.Begun t) refl (same_known c)

  told_knows : (words : WordMap) (c : Client) (l : Line) (r : Reply) → Knows n c (learned_reply words c n l r) r
  told_knows words c l (reply.Begun t) = started_knows c l t
  told_knows words c l (reply.Created f n) = knows_same c (created c l f n) (reply.Created f n) refl (created_known c l f n)
  told_knows words c l (reply.Opened n) = knows_same c (opened_said words c l n) (reply.Opened n) refl (opened_known words c l n)
  told_knows words c l (reply.Committed s) = knows_later c (record (left c l) { told = later c.told s }) s (reply.Committed s) refl (left_known c l).session (left_known c l).begun refl
  told_knows words c l (reply.Refused f) = refused_knows c l f
  told_knows words c l (reply.Ended e) = ended_knows c e
  told_knows words c l r = knows_same c c r refl (same_known c)

  -- of some replies only the stamps are taken in, and that the session is stale
  only_refused : (c : Client) (f : Refusal) → Knows n c (told_only c n (reply.Refused f)) (reply.Refused f)
  only_refused c (refusal.StaleSession epoch) = knows_but c (forgets c n) (reply.Refused (refusal.StaleSession epoch)) refl (inr (gone_session n c)) (λ m away. gone_elsewhere n m c away) refl (inl refl)
  only_refused c f = knows_same c c (reply.Refused f) refl (same_known c)

  only_knows : (c : Client) (r : Reply) → Knows n c (told_only c n r) r
  only_knows c (reply.Committed s) = knows_later c (record c { told = later c.told s }) s (reply.Committed s) refl (λ m. refl) refl refl
  only_knows c (reply.Refused f) = only_refused c f
  only_knows c (reply.Ended e) = ended_knows c e
  only_knows c r = knows_same c c r refl (same_known c)

  -- and of the reply to a call that waited, or of the answer that it waits

  opened_late_known : (c : Client) (p : Purpose) (n : ℕ) → SameKnown c (opened_late c p n)
  opened_late_known c (purpose.Open f) n = record { session = λ n. refl; told = refl; begun = refl; frames = refl }
  opened_late_known c p n = same_known c

  late_knows : (c : Client) (p : Purpose) (l : Line) (r : Reply) → Knows n c (late_reply c n p l r) r
  late_knows c p l (reply.Created f n) = knows_same c (record c { opens = map.insert c.opens f n }) (reply.Created f n) refl (record { session = λ n. refl; told = refl; begun = refl; frames = refl })
  late_knows c p l (reply.Opened n) = knows_same c (opened_late c p n) (reply.Opened n) refl (opened_late_known c p n)
  late_knows c p l (reply.Committed s) = knows_later c (record (left c l) { told = later c.told s }) s (reply.Committed s) refl (left_known c l).session (left_known c l).begun refl
  late_knows c p l (reply.Ended e) = ended_knows c e
  late_knows c p l (reply.Refused f) = refused_knows c l f
  late_knows c p l r = knows_same c c r refl (same_known c)

  -- that of a `Join` that waited
  joined_late_knows : (c : Client) (r : Reply) → Knows n c (joined_late c n r) r
  joined_late_knows c reply.Joined = knows_same c (part_known c n c.trans) reply.Joined refl (part_known_same n c c.trans)
  joined_late_knows c r = only_knows c r

  collect_knows : (c : Client) (p : Purpose) (l : Line) (r : Reply) → Knows n c (collected_reply c n p l r) r
  collect_knows c p l r = elim (is_part p) as (λ b. Knows n c (cond {A = Client} b (joined_late c n r) (late_reply c n p l r)) r) [ true ↦ joined_late_knows c r | false ↦ late_knows c p l r ]

  -- which calls wait is no matter of that
  with_waits : (c d : Client) (ws : List Waiting) (r : Reply) → Knows n c d r → Knows n c (record d { waiting = ws }) r
  with_waits c d ws r h = record { session = h.session; others = h.others; before = h.before; stamps = h.stamps; within = h.within; begun = h.begun }

  waits_on_knows : (s : Settings) (c : Client) → Knows n c (waits_on s c).0 (reply.Refused refusal.NotYet)
  waits_on_knows s c = with_waits c c (one_more c.waiting) (reply.Refused refusal.NotYet) (knows_same c c (reply.Refused refusal.NotYet) refl (same_known c))

  -- what a client asked, and where and when it did
  abbrev pub asked_at : ℕ → Next → Settings → Sending
  asked_at number now s = record { server = n; number = number; next = now; settings = s }

  module _ (number : ℕ) (now : Next) (s : Settings) where
    collected_knows : (c : Client) (l : Line) (r : Reply) → Knows n c (collected c (asked_at number now s) l r).0 r
    collected_knows c l (reply.Refused refusal.NotYet) = waits_on_knows s c
    collected_knows c l r = with_waits c (collected_reply c n (purpose_in (first_of c.waiting)) l r) (others (collected_reply c n (purpose_in (first_of c.waiting)) l r).waiting) r (collect_knows c (purpose_in (first_of c.waiting)) l r)

    awaiting_knows : (c : Client) (p : Purpose) → Knows n c (awaiting c (asked_at number now s) p).0 (reply.Refused refusal.NotYet)
    awaiting_knows c p =
        let q : Sending = asked_at number now s in
        let still : Knows n c c (reply.Refused refusal.NotYet) = knows_same c c (reply.Refused refusal.NotYet) refl (same_known c) in
        elim (is_waiting_at c.waiting n) as (λ b. Knows n c (cond {A = Client × Next} b (c, next.Over) (record c { waiting = waiting_for q p ∷ c.waiting }, collects_by_itself s.collects)).0 (reply.Refused refusal.NotYet)) [
          | true ↦ still
          | false ↦ with_waits c c (waiting_for q p ∷ c.waiting) (reply.Refused refusal.NotYet) still
        ]

    called_knows : (words : WordMap) (c : Client) (l : Line) (r : Reply) → Knows n c (called words c (asked_at number now s) l r).0 r
    called_knows words c l (reply.Refused refusal.NotYet) = awaiting_knows c (purpose_of words l)
    called_knows words c l r = told_knows words c l r

    joined_knows : (c : Client) (t : TransId) (r : Reply) → Knows n c (joined_reply c (asked_at number now s) t r).0 r
    joined_knows c t reply.Joined = knows_same c (knows_part c n t) reply.Joined refl (record { session = λ m. part_session n m c t; told = refl; begun = refl; frames = refl })
    joined_knows c t (reply.Refused refusal.NotYet) = awaiting_knows c purpose.Part
    joined_knows c t r = only_knows c r

    pub answered_knows : (words : WordMap) (c : Client) (l : Line) (a : Asking) (r : Reply) → Knows n c (answered words c (asked_at number now s) l a (Some r)).0 r
    answered_knows words c l asking.Collect r = collected_knows c l r
    answered_knows words c l (asking.Join t) r = joined_knows c t r
    answered_knows words c l asking.Call r = called_knows words c l r

  -- and what it makes of a reply to a frame that was sent again
  pub again_knows : (c : Client) (r : Reply) → Knows n c (heard_again c n (Some r)) r
  again_knows c r = only_knows c r
