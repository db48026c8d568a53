-- a call is refused for its shape and its locks just where the journal says so
use Rattle.std.specs.Prelude.{cond, Bool, true, false, not, ◌||◌, nat_lt, nat_le, Option, None, Some}
use Rattle.std.specs.Option.{option_or}
use Rattle.std.specs.FinMap as map
use Rattle.std.proofs.lemmas.Bool.{ltb-false}
use Rattle.std.proofs.Common.{inl, inr, ◌⊎◌, ◌≡◌, ℕ, ◌+◌, ◌<◌, ◌≤◌, List, [], ◌∷◌, ◌++◌, length, refl, sym, ◌∙◌, ap, subst, arith}
use Rattle.alp_base.specs.declared.faults.Sizes.{Sizes}
use Rattle.alp_base.specs.declared.ids.FileId.{FileId}
use Rattle.alp_base.specs.declared.ids.TransId.{TransId}
use Rattle.alp_files.specs.Act.{Own, Answer as Answered, Say, run, open_at, on_open, is_changing, refused, replied, delete_file, read_pages, write_pages, set_size, write_props}
use Rattle.alp_files.specs.Locks.{Need, needs_of, needs_on_open, page_needs, mark_needs, size_needs, change_needs}
use Rattle.alp_base.specs.declared.cell.Props.{Props}
use Rattle.alp_files.specs.declared.open.Open.{Open}
use Rattle.alp_base.specs.declared.key.Key.TheVariants.{OwnerOf}
use Rattle.alp_base.specs.declared.key.Resource.TheVariants.{Whole, Leaf}
use Rattle.alp_base.specs.declared.choices.Access.{Access}
use Rattle.alp_base.specs.declared.choices.Choice.{Choice}
use Rattle.alp_modes.specs.declared.Mode.{Mode}
use Rattle.alp_modes.specs.declared.Mode.TheVariants.{Write}
use Rattle.alp_files.specs.Holdings.{Holding}
use Rattle.alp_files.specs.declared.call.Call.{Call}
use Rattle.alp_files.specs.declared.call.Call.TheVariants as call
use Rattle.alp_files.specs.declared.refusal.Refusal.{Refusal}
use Rattle.alp_files.specs.declared.refusal.Refusal.TheVariants as refusal
use Rattle.alp_files.specs.declared.refusal.What.TheVariants as what
use Rattle.alp_files.specs.declared.reply.Reply.{Reply}
use Rattle.alp_files.specs.declared.reply.Reply.TheVariants as reply
use Rattle.alp_vault.specs.Contents.{Contents}
use Rattle.alp_calls.specs.Parts.{IsShaped}
use Rattle.alp_journal.specs.Counts.{log_need}
use Rattle.alp_journal.specs.Deeds.{Deed, Performs}
use Rattle.alp_journal.specs.Desk.{file_trans, is_not_yet, waiting_of}
use Rattle.alp_journal.specs.Holder.{Life, view_in, answer_in}
use Rattle.alp_journal.specs.Moves.{done_by, is_of_no_file}
use Rattle.alp_journal.specs.State.{is_file_drawn}
use Rattle.alp_journal.specs.declared.event.Event.TheVariants as event
use Rattle.alp_journal.specs.Answers.{shape_refusal, lock_refusal, open_refusal, open_reply, more_locks, if_over}
use Rattle.alp_journal.specs.Answered.{is_read_fault}
use Rattle.alp_journal.specs.Account.{Account, state_of}
use Rattle.alp_node.specs.Asks.{is_given, is_of_given}
use Rattle.alp_node.specs.Calls.{IsServedCall}
use Rattle.alp_node.specs.Dead.{cause_in}
use Rattle.alp_node.specs.Halts.{says_shut}
use Rattle.alp_node.specs.Turns.{IsInSession}
use Rattle.alp_node.specs.ServerState.{IsAs, IsCaller}
use Rattle.alp_node.specs.Shapes.{no_open, no_run, no_size, shape_of, counts_then, too_locked}
use Rattle.alp_node.specs.Standings.{standing_of}
use Rattle.alp_node.specs.Steps.{Stepped, IsTurn, counted_in, refused_answer}
use Rattle.alp_node.specs.declared.answer.Answer.{Answer}
use Rattle.alp_node.specs.declared.lives.Live.{Live}
use Rattle.alp_node.specs.declared.lock_counts.LockCounts.{LockCounts}
use Rattle.alp_node.specs.declared.server_state.ServerState.{ServerState}
use Rattle.alp_node.specs.declared.served.Standing.TheVariants as standing
use Rattle.alp_node.specs.declared.sessions.Turn.{Turn}
use Rattle.alp_node.proofs.CountedLemmas.{IsCountRefusal, over_is, either_is, too_many_is, log_is}
use Rattle.alp_node.proofs.ClosedLemmas.{EitherOpen, either_open, either_change, close_open, lock_open, read_on, write_on, size_on, props_on}
use Rattle.alp_node.proofs.IdLemmas.{known_file, unknown_file}
use Rattle.alp_node.proofs.KeptLemmas.{IsLive, live_there}
use Rattle.alp_node.proofs.StandingLemmas.{unvoted_told}
use Rattle.alp_node.proofs.ServedLemmas.{first_stepped}
use Rattle.alp_node.proofs.WithinLemmas.{MayLock}

-- ---- its shape

-- a call of that shape opens a file that was given
pub shape_given : (server epoch given opens : ℕ) (c : Call) → shape_of server epoch given opens c ≡ None → is_of_given server epoch given c ≡ true
shape_given server epoch given opens (call.OpenFile t f access mode choice) e = go (is_given server epoch given f) e
  where
    go : (b : Bool) → option_or (if_over (not b) refusal.UnknownFile) (no_open opens) ≡ None → b ≡ true
    go true e = refl
    go false e = cc
shape_given server epoch given opens c e = refl

-- and gives a file no more pages than a file may have
pub shape_shaped : (server epoch given opens : ℕ) (c : Call) → shape_of server epoch given opens c ≡ None → IsShaped c
shape_shaped server epoch given opens (call.CreateFile t start choice) e = go (nat_lt 4096 start.size) refl e
  where
    go : (b : Bool) → nat_lt 4096 start.size ≡ b → option_or (if_over b (refusal.TooMany what.Pages 4096)) (no_open opens) ≡ None → start.size ≤ 4096
    go false is none = ltb-false 4096 start.size is
    go true is none = cc
shape_shaped server epoch given opens (call.SetSize t n size choice) e = go (nat_lt 4096 size) refl e
  where
    go : (b : Bool) → nat_lt 4096 size ≡ b → if_over b (refusal.TooMany what.Pages 4096) ≡ None → size ≤ 4096
    go false is none = ltb-false 4096 size is
    go true is none = cc
shape_shaped server epoch given opens c e = tt

-- ---- what such a refusal is

shape_is : (server epoch given opens : ℕ) (c : Call) (f : Refusal) → shape_of server epoch given opens c ≡ Some f → IsCountRefusal f ⊎ ((f ≡ refusal.UnknownFile) × (is_of_given server epoch given c ≡ false))
shape_is server epoch given opens (call.CreateFile t start choice) f e =
    inl (either_is (no_size start.size) (no_open opens) (over_is (nat_lt 4096 start.size) (refusal.TooMany what.Pages 4096) (too_many_is what.Pages 4096))
    (over_is (nat_le 64 opens) (refusal.TooMany what.Opens 64) (too_many_is what.Opens 64)) f e)
shape_is server epoch given opens (call.OpenFile t g access mode choice) f e = go (is_given server epoch given g) refl e
  where
    same_refusal : (x y : Refusal) → Some y ≡ Some x → x ≡ y
    same_refusal x y e = cc

    go : (b : Bool) → is_given server epoch given g ≡ b → option_or (if_over (not b) refusal.UnknownFile) (no_open opens) ≡ Some f → IsCountRefusal f ⊎ ((f ≡ refusal.UnknownFile) × (is_given server epoch given g ≡ false))
    go true is e = inl (over_is (nat_le 64 opens) (refusal.TooMany what.Opens 64) (too_many_is what.Opens 64) f e)
    go false is e = inr (same_refusal f refusal.UnknownFile e, is)
shape_is server epoch given opens (call.ReadPages t n r mode choice) f e = inl (over_is (nat_lt 16 r.count) (refusal.TooMany what.Run 16) (too_many_is what.Run 16) f e)
shape_is server epoch given opens (call.WritePages t n r pages choice) f e = inl (over_is (nat_lt 16 r.count) (refusal.TooMany what.Run 16) (too_many_is what.Run 16) f e)
shape_is server epoch given opens (call.LockPages t n r mode choice) f e = inl (over_is (nat_lt 16 r.count) (refusal.TooMany what.Run 16) (too_many_is what.Run 16) f e)
shape_is server epoch given opens (call.SetSize t n size choice) f e = inl (over_is (nat_lt 4096 size) (refusal.TooMany what.Pages 4096) (too_many_is what.Pages 4096) f e)
shape_is server epoch given opens c f e = cc

pub shape_now : (server epoch given opens : ℕ) (c : Call) (f : Refusal) → shape_of server epoch given opens c ≡ Some f → is_not_yet (reply.Refused f) ≡ false
shape_now server epoch given opens c f e = go (shape_is server epoch given opens c f e)
  where
    go : IsCountRefusal f ⊎ ((f ≡ refusal.UnknownFile) × (is_of_given server epoch given c ≡ false)) → is_not_yet (reply.Refused f) ≡ false
    go (inl counts) = counts.now
    go (inr x) = ap (λ (g : Refusal). is_not_yet (reply.Refused g)) x.0

pub shape_inside : (server epoch given opens : ℕ) (c : Call) (f : Refusal) → shape_of server epoch given opens c ≡ Some f → IsInSession (reply.Refused f)
shape_inside server epoch given opens c f e = go (shape_is server epoch given opens c f e)
  where
    go : IsCountRefusal f ⊎ ((f ≡ refusal.UnknownFile) × (is_of_given server epoch given c ≡ false)) → IsInSession (reply.Refused f)
    go (inl counts) = counts.inside
    go (inr x) = subst (λ (g : Refusal). IsInSession (reply.Refused g)) (sym x.0) tt

pub shape_quiet : (server epoch given opens : ℕ) (c : Call) (f : Refusal) → shape_of server epoch given opens c ≡ Some f → (is_read_fault (Some (reply.Refused f)) || says_shut (Some (reply.Refused f))) ≡ false
shape_quiet server epoch given opens c f e = go (shape_is server epoch given opens c f e)
  where
    go : IsCountRefusal f ⊎ ((f ≡ refusal.UnknownFile) × (is_of_given server epoch given c ≡ false)) → (is_read_fault (Some (reply.Refused f)) || says_shut (Some (reply.Refused f))) ≡ false
    go (inl counts) = counts.quiet
    go (inr x) = ap (λ (g : Refusal). is_read_fault (Some (reply.Refused g)) || says_shut (Some (reply.Refused g))) x.0

-- where the counts refuse it nothing is done
pub count_none_done : (a : Account) (t : TransId) (c : Call) (f : Refusal) → IsCountRefusal f → done_by (state_of a) c (reply.Refused f) (Some t) ≡ []
count_none_done a t c f counts = ap (λ (b : Bool). cond {A = List Deed} (b || is_of_no_file (state_of a) c (reply.Refused f)) [] (Performs t (record { call = c; reply = reply.Refused f }) ∷ [])) counts.passes

-- ---- as the journal tells it

-- what is refused so is so before all else
pub first_is : (o p q : Option Refusal) (f : Refusal) → o ≡ Some f → option_or (option_or o p) q ≡ Some f
first_is o p q f e = ap (λ (x : Option Refusal). option_or (option_or x p) q) e

module _ {V : Type 0} (a : Account) (held : Contents) (k : ServerState V) (h : IsAs a held k) (raised : 0 < k.epoch) (t : TransId) (l : Live) (life : Life) (mine : IsCaller l life) where
  -- the ids that the counts tell as given the journal tells too
  drawn_same : (f : FileId) → is_file_drawn (state_of a) f ≡ is_given k.server k.epoch k.given f
  drawn_same f = go (is_given k.server k.epoch k.given f) refl
    where
      go : (b : Bool) → is_given k.server k.epoch k.given f ≡ b → is_file_drawn (state_of a) f ≡ b
      go true e = known_file a held k f h e
      go false e = unknown_file a held k f h raised e

  opens_same : length life.own.opens ≡ length l.part.opens.items
  opens_same = ap (λ (w : Own). length w.opens) (sym mine.own)

  create_shape : (u : TransId) (start : Props) (choice : Choice) → shape_refusal (state_of a) life (call.CreateFile u start choice) ≡ shape_of k.server k.epoch k.given (length l.part.opens.items) (call.CreateFile u start choice)
  create_shape u start choice = ap (λ (n : ℕ). option_or (no_size start.size) (no_open n)) opens_same

  open_shape : (u : TransId) (f : FileId) (access : Access) (mode : Mode) (choice : Choice)
      → shape_refusal (state_of a) life (call.OpenFile u f access mode choice) ≡ shape_of k.server k.epoch k.given (length l.part.opens.items) (call.OpenFile u f access mode choice)
  open_shape u f access mode choice = λ i. option_or (if_over (not (drawn_same f i)) refusal.UnknownFile) (no_open (opens_same i))

  -- what is refused for its shape is so before all else
  pub shape_told : (c : Call) (f : Refusal) (rest : Option Refusal) → IsServedCall c → shape_of k.server k.epoch k.given (length l.part.opens.items) c ≡ Some f → option_or (shape_refusal (state_of a) life c) rest ≡ Some f
  shape_told (call.CreateFile u start choice) f rest is e = ap (λ (x : Option Refusal). option_or x rest) (create_shape u start choice ∙ e)
  shape_told (call.OpenFile u g access mode choice) f rest is e = ap (λ (x : Option Refusal). option_or x rest) (open_shape u g access mode choice ∙ e)
  shape_told (call.ReadPages u n r mode choice) f rest is e = first_is (no_run r) _ rest f e
  shape_told (call.WritePages u n r pages choice) f rest is e = first_is (no_run r) _ rest f e
  shape_told (call.LockPages u n r mode choice) f rest is e = first_is (no_run r) _ rest f e
  shape_told (call.SetSize u n size choice) f rest is e = first_is (no_size size) _ rest f e
  shape_told c f rest is e = cc

  -- where it is not, it is refused for its open, and then needs nothing, or it is not refused
  pub record IsShut (c : Call) : Type 0 where
    pub refusal : Refusal
    pub first : shape_refusal (state_of a) life c ≡ Some refusal
    pub is : (r : Reply) → answer_in a.holder life (record { call = c; reply = r }) ≡ refused life.own refusal
    pub shows : open_reply (Some (reply.Refused refusal)) ≡ Some refusal
    pub none : needs_of (view_in a.holder life) life.own c ≡ []
    pub less : more_locks c ≡ 0

  by_open : (c : Call) → more_locks c ≡ 0 → shape_refusal (state_of a) life c ≡ open_refusal (state_of a) life c → ((r : Reply) → answer_in a.holder life (record { call = c; reply = r }) ≡ answer_in a.holder life (record { call = c; reply = reply.Plain }))
      → EitherOpen life.own (needs_of (view_in a.holder life) life.own c) (answer_in a.holder life (record { call = c; reply = reply.Plain })) → (shape_refusal (state_of a) life c ≡ None) ⊎ IsShut c
  by_open c less first same (inl passes) = inl (first ∙ passes)
  by_open c less first same (inr x) = inr (record {
    refusal = x.refusal;
    first = first ∙ ap (λ (y : Answered). open_reply y.reply) x.is ∙ x.shows;
    is = λ r. same r ∙ x.is;
    shows = x.shows;
    none = x.none;
    less = less;
  })

  pub shape_cases : (c : Call) → IsServedCall c → shape_of k.server k.epoch k.given (length l.part.opens.items) c ≡ None → (shape_refusal (state_of a) life c ≡ None) ⊎ IsShut c
  shape_cases (call.CreateFile u start choice) is e = inl (create_shape u start choice ∙ e)
  shape_cases (call.OpenFile u g access mode choice) is e = inl (open_shape u g access mode choice ∙ e)
  shape_cases (call.CloseFile u n) is e = by_open (call.CloseFile u n) refl refl (λ r. refl) (close_open (view_in a.holder life) life.own n (open_at life.own.opens n))
  shape_cases (call.DeleteFile u n choice) is e =
      by_open (call.DeleteFile u n choice) refl refl (λ r. refl)
      (either_change (view_in a.holder life) life.own (open_at life.own.opens n) (λ o p. (Whole o.file, Write) ∷ (Leaf (OwnerOf p.owner), Write) ∷ []) (delete_file life.own) (λ o p. refl))
  shape_cases (call.ReadPages u n r mode choice) is e =
      by_open (call.ReadPages u n r mode choice) refl (ap (λ (x : Option Refusal). option_or x (open_refusal (state_of a) life (call.ReadPages u n r mode choice))) e) (λ r. refl)
      (either_open (view_in a.holder life) life.own (open_at life.own.opens n) (λ o p. page_needs o.file r.first r.count mode) (read_pages life.own r) (read_on (view_in a.holder life) life.own r))
  shape_cases (call.WritePages u n r pages choice) is e =
      by_open (call.WritePages u n r pages choice) refl (ap (λ (x : Option Refusal). option_or x (open_refusal (state_of a) life (call.WritePages u n r pages choice))) e) (λ r. refl)
      (either_change (view_in a.holder life) life.own (open_at life.own.opens n) (λ o p. mark_needs o.file p (r.first + r.count) ++ page_needs o.file r.first r.count Write) (write_pages life.own r pages) (write_on (view_in a.holder life) life.own r pages))
  shape_cases (call.LockPages u n r mode choice) is e =
      by_open (call.LockPages u n r mode choice) refl (ap (λ (x : Option Refusal). option_or x (open_refusal (state_of a) life (call.LockPages u n r mode choice))) e) (λ r. refl)
      (lock_open (view_in a.holder life) life.own r (is_changing mode) (open_at life.own.opens n) (λ o p. page_needs o.file r.first r.count mode))
  shape_cases (call.SetSize u n size choice) is e =
      by_open (call.SetSize u n size choice) refl (ap (λ (x : Option Refusal). option_or x (open_refusal (state_of a) life (call.SetSize u n size choice))) e) (λ r. refl)
      (either_change (view_in a.holder life) life.own (open_at life.own.opens n) (size_needs size) (set_size life.own size) (size_on (view_in a.holder life) life.own size))
  shape_cases (call.ReadProps u n) is e = by_open (call.ReadProps u n) refl refl (λ r. refl) (props_open (open_at life.own.opens n))
    where
      props_open : (x : Option Open) → EitherOpen life.own [] (run (view_in a.holder life) (on_open life.own x (λ o p. Say (replied life.own (reply.Props p) []))))
      props_open x = none_open x (either_open (view_in a.holder life) life.own x (λ o p. []) (λ o p. Say (replied life.own (reply.Props p) [])) (λ o p. refl))
        where
          none_open : (y : Option Open) → EitherOpen life.own (needs_on_open (view_in a.holder life) y (λ o p. [])) (run (view_in a.holder life) (on_open life.own y (λ o p. Say (replied life.own (reply.Props p) []))))
              → EitherOpen life.own [] (run (view_in a.holder life) (on_open life.own y (λ o p. Say (replied life.own (reply.Props p) []))))
          none_open y (inl passes) = inl passes
          none_open y (inr x) = inr (record { refusal = x.refusal; is = x.is; shows = x.shows; none = refl })
  shape_cases (call.WriteProps u n change choice) is e =
      by_open (call.WriteProps u n change choice) refl refl (λ r. refl)
      (either_change (view_in a.holder life) life.own (open_at life.own.opens n) (change_needs change) (write_props life.own life.who change) (props_on (view_in a.holder life) life.own life.who change))
  shape_cases (call.ReadOwner u name choice) is e = inl refl
  shape_cases (call.MakeOwner u name quota create choice) is e = inl refl
  shape_cases (call.SetQuota u name quota choice) is e = inl refl
  shape_cases c is e = (let wrong : false ≡ true = is in cc)

  -- and nothing is done
  pub shape_none : (c : Call) (f : Refusal) → IsServedCall c → shape_of k.server k.epoch k.given (length l.part.opens.items) c ≡ Some f → done_by (state_of a) c (reply.Refused f) (Some t) ≡ []
  shape_none c f is e = go (shape_is k.server k.epoch k.given (length l.part.opens.items) c f e)
    where
      drawn_not : (x : Call) → is_of_given k.server k.epoch k.given x ≡ false → done_by (state_of a) x (reply.Refused refusal.UnknownFile) (Some t) ≡ []
      drawn_not (call.OpenFile u g access mode choice) away = ap (λ (b : Bool). cond {A = List Deed} (not b) [] (Performs t (record { call = call.OpenFile u g access mode choice; reply = reply.Refused refusal.UnknownFile }) ∷ [])) (drawn_same g ∙ away)
      drawn_not x away = cc

      go : IsCountRefusal f ⊎ ((f ≡ refusal.UnknownFile) × (is_of_given k.server k.epoch k.given c ≡ false)) → done_by (state_of a) c (reply.Refused f) (Some t) ≡ []
      go (inl counts) = count_none_done a t c f counts
      go (inr x) = subst (λ (g : Refusal). done_by (state_of a) c (reply.Refused g) (Some t) ≡ []) (sym x.0) (drawn_not c x.1)

-- a file call is refused for its shape
pub shape_stepped : {V : Type 0} (a : Account) (before now : ℕ) (held : Contents) (k : ServerState V) (turn : Turn) (t : TransId) (c : Call) (f : Refusal) (x : Answer) → IsAs a held k → 0 < k.epoch → IsTurn k.sessions turn → k.is_down ≡ false
    → file_trans c ≡ Some t → IsServedCall c → standing_of k turn.client t ≡ standing.Work → waiting_of (state_of a).desk turn.client t ≡ None → (l : Live) → map.get k.lives t ≡ Some l
    → shape_of k.server k.epoch k.given (length l.part.opens.items) c ≡ Some f → x ≡ refused_answer f []
    → Stepped a before now held (record k { sessions = counted_in k.sessions turn (reply.Refused f) }) (event.Call turn.client k.epoch turn.number c) x
shape_stepped a before now held k turn t c f x h raised is up named served own idle l there e so =
    let y : IsLive a.holder.cells k.locks.held (a.locked t) t l (a.holder.lives t) = live_there a.holder.cells k.locks.held (a.locked t) t (map.get k.lives t) (a.holder.lives t) l there (h.lives t) in
    let caller : IsCaller l y.life = y.alike.calls (unvoted_told a held k turn.client t h own y.life y.is).vote in
    first_stepped a before now held k turn t c f y.life x h is up named own idle y.is (shape_told a held k h raised t l y.life caller c f (lock_refusal (state_of a) t y.life c) served e)
    (shape_now k.server k.epoch k.given (length l.part.opens.items) c f e) (shape_none a held k h raised t l y.life caller c f served e) so

-- ---- its locks

-- too many locks are refused for the counts
pub too_locked_is : (area cells locks : ℕ) (f : Refusal) → too_locked area cells locks ≡ Some f → IsCountRefusal f
too_locked_is area cells locks f e =
    either_is (if_over (nat_lt 1024 locks) (refusal.TooMany what.Locks 1024)) (if_over (nat_lt area (log_need cells locks)) (refusal.LogFull area (log_need cells locks))) (over_is (nat_lt 1024 locks) (refusal.TooMany what.Locks 1024) (too_many_is what.Locks 1024))
    (over_is (nat_lt area (log_need cells locks)) (refusal.LogFull area (log_need cells locks)) (log_is area (log_need cells locks))) f e

not_over : (b : Bool) (r : Refusal) → if_over b r ≡ None → b ≡ false
not_over true r e = cc
not_over false r e = refl

neither : (x y : Option Refusal) → option_or x y ≡ None → (x ≡ None) × (y ≡ None)
neither None y e = (refl, e)
neither (Some f) y e = cc

-- what is not refused is within the limits
pub may_lock : (s : Sizes) (l : Live) (held : Holding) (ns : List Need) (c : Call) → too_locked s.area l.part.counts.cells (counts_then l.locks held ns c).made ≡ None → MayLock s l (counts_then l.locks held ns c)
may_lock s l held ns c none = record {
  few = ltb-false 1024 n.made (not_over (nat_lt 1024 n.made) (refusal.TooMany what.Locks 1024) both.0);
  log = ltb-false s.area (log_need l.part.counts.cells n.made) (not_over (nat_lt s.area (log_need l.part.counts.cells n.made)) (refusal.LogFull s.area (log_need l.part.counts.cells n.made)) both.1);
  more = omega arith;
  asked = omega arith;
}
  where
    n : LockCounts
    n = counts_then l.locks held ns c

    both : (if_over (nat_lt 1024 n.made) (refusal.TooMany what.Locks 1024) ≡ None) × (if_over (nat_lt s.area (log_need l.part.counts.cells n.made)) (refusal.LogFull s.area (log_need l.part.counts.cells n.made)) ≡ None)
    both = neither (if_over (nat_lt 1024 n.made) (refusal.TooMany what.Locks 1024)) (if_over (nat_lt s.area (log_need l.part.counts.cells n.made)) (refusal.LogFull s.area (log_need l.part.counts.cells n.made))) none
