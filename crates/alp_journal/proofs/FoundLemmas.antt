-- what a restart finds made of what a server tried as it went down
use Rattle.std.specs.Prelude.{cond, Bool, true, false, ◌&&◌, ◌||◌, ◌==◌, filter, flat_map, is_none, Option, None, Some}
use Rattle.std.specs.List.{AllByRecursion}
use Rattle.std.proofs.Common.{◌≡◌, ℕ, List, [], ◌∷◌, ◌++◌, refl, sym, ◌∙◌, ap, subst}
use Rattle.alp_base.specs.declared.ids.JoinNo.{JoinNo}
use Rattle.alp_base.specs.declared.ids.TransId.{TransId}
use Rattle.alp_base.specs.declared.ids.Stamp.{Stamp}
use Rattle.alp_files.specs.declared.call.Call.{Call}
use Rattle.alp_files.specs.declared.call.Call.TheVariants as call
use Rattle.alp_files.specs.declared.reply.Reply.{Reply}
use Rattle.alp_files.specs.declared.reply.Reply.TheVariants as reply
use Rattle.alp_files.specs.declared.refusal.Refusal.TheVariants as refusal
use Rattle.alp_files.specs.declared.refusal.Cause.TheVariants as cause
use Rattle.alp_files.specs.History.{PerformedCall}
use Rattle.alp_files.specs.Passing.{is_passing}
use Rattle.alp_journal.specs.declared.act.Act.{Act}
use Rattle.alp_journal.specs.declared.act.Act.TheVariants as act
use Rattle.alp_journal.specs.declared.event.Event.{Event}
use Rattle.alp_journal.specs.declared.event.Event.TheVariants as event
use Rattle.alp_journal.specs.Along.{state_after}
use Rattle.alp_journal.specs.Ids.{same_trans}
use Rattle.alp_journal.specs.Deeds.{Deed, Begins, Joins, Quits, Performs, Readies, Applies, Finishes, Decides, Ends, Forgets, Restarts}
use Rattle.alp_journal.specs.Coordinator.{Fate, Running, client_of}
use Rattle.alp_journal.specs.Participant.{open_in}
use Rattle.alp_journal.specs.Holder.{Holder, holder_after}
use Rattle.alp_journal.specs.Desk.{file_trans, is_not_yet, waiting_of}
use Rattle.alp_journal.specs.State.{State, state_deed, ids_after, has_part}
use Rattle.alp_journal.specs.Moves.{is_new, is_effective, is_stop, joins_here, ends_by, finishes, call_deeds, if_its, times_out_here, times_out_join, event_deeds, act_deeds, answered, is_of_no_file, done_by, done_of, done_deeds, next_join, principal}
use Rattle.alp_journal.specs.Laws.{is_written, IsStopped}
use Rattle.alp_journal.specs.Account.{IsOwnEvent}
use Rattle.alp_journal.proofs.IdLemmas.{all-append}
use Rattle.alp_journal.proofs.MadeIds.{WasMade, made-after}
use Rattle.alp_journal.proofs.Origins.{all-cond, all-flat}

-- what of these deeds a restart finds made that finds this leaves such a holder
abbrev pub found_after : Holder → List JoinNo → ℕ → List Stamp → List Deed → Holder
found_after h ready clock stamps ds = state_after holder_after h (filter (is_effective ready clock stamps) ds)

-- what is found made is found one after the other
pub found-append : (ready : List JoinNo) (clock : ℕ) (stamps : List Stamp) (xs ys : List Deed) (h : Holder)
    → found_after h ready clock stamps (xs ++ ys) ≡ found_after (found_after h ready clock stamps xs) ready clock stamps ys
found-append ready clock stamps [] ys h = refl
found-append ready clock stamps (x ∷ xs) ys h = go (is_effective ready clock stamps x) (λ g. found-append ready clock stamps xs ys g)
  where
    go : (b : Bool) → ((g : Holder) → found_after g ready clock stamps (xs ++ ys) ≡ found_after (found_after g ready clock stamps xs) ready clock stamps ys)
        → state_after holder_after h (cond {A = List Deed} b (x ∷ filter (is_effective ready clock stamps) (xs ++ ys)) (filter (is_effective ready clock stamps) (xs ++ ys)))
        ≡ found_after (state_after holder_after h (cond {A = List Deed} b (x ∷ filter (is_effective ready clock stamps) xs) (filter (is_effective ready clock stamps) xs))) ready clock stamps ys
    go true on = on (holder_after h x)
    go false on = on h

-- a deed that no cell, part or clock shows
abbrev pub IsAside : Deed → Type 0
IsAside d = (h : Holder) → holder_after h d ≡ h

pub aside_found : (ready : List JoinNo) (clock : ℕ) (stamps : List Stamp) (ds : List Deed) (h : Holder) → AllByRecursion IsAside ds → found_after h ready clock stamps ds ≡ h
aside_found ready clock stamps [] h all = refl
aside_found ready clock stamps (d ∷ ds) h all = go (is_effective ready clock stamps d) (aside_found ready clock stamps ds h all.1)
  where
    go : (b : Bool) → found_after h ready clock stamps ds ≡ h → state_after holder_after h (cond {A = List Deed} b (d ∷ filter (is_effective ready clock stamps) ds) (filter (is_effective ready clock stamps) ds)) ≡ h
    go true rest = ap (λ (g : Holder). found_after g ready clock stamps ds) (all.0 h) ∙ rest
    go false rest = rest

pub aside_after : (ds : List Deed) (s : State) → AllByRecursion IsAside ds → (state_after state_deed s ds).holder ≡ s.holder
aside_after [] s all = refl
aside_after (d ∷ ds) s all = aside_after ds (state_deed s d) all.1 ∙ all.0 s.holder

-- the events of a server that runs alone bring about only such by themselves
finish_aside : (s : State) (client : ℕ) (t : TransId) (commit : Bool) (r : Reply) (f : Fate) → AllByRecursion IsAside (finishes s.desk client t commit r f)
finish_aside s client t false r (Running c js) = all-cond IsAside (c == client) (Ends t client cause.Asked ∷ []) [] (λ h. refl, tt) tt
finish_aside s client t true r (Running c js) = all-cond IsAside (c == client && is_none (waiting_of s.desk client t)) (Finishes t ∷ ends_by t client r) [] (λ h. refl, ends_aside r) tt
  where
    ends_aside : (r : Reply) → AllByRecursion IsAside (ends_by t client r)
    ends_aside (reply.Refused (refusal.Aborted c)) = (λ h. refl, tt)
    ends_aside r = tt
finish_aside s client t commit r f = tt

call_aside : (s : State) (client : ℕ) (c : Call) (r : Reply) → AllByRecursion IsAside (call_deeds s client c r)
call_aside s client (call.Join t) r =
    all-cond IsAside (is_not_yet r) (joins_here s client t) [] (all-cond IsAside (has_part s client t) [] (Joins (next_join s) t client (principal s client) ∷ []) tt (λ h. refl, tt)) tt
call_aside s client (call.Finish t commit) r = finish_aside s client t commit r (s.fates t)
call_aside s client c r = tt

timeout_aside : (t : TransId) (x : Option ℕ) → AllByRecursion IsAside (times_out_here t x)
timeout_aside t None = tt
timeout_aside t (Some client) = (λ h. refl, tt)

join_aside : (t : TransId) (j : JoinNo) (x : Option (TransId × ℕ)) → AllByRecursion IsAside (if_its t x (λ client. Quits j t client (Some cause.TimedOut) ∷ []))
join_aside t j None = tt
join_aside t j (Some x) = all-cond IsAside (same_trans x.0 t) (Quits j t x.1 (Some cause.TimedOut) ∷ []) [] (λ h. refl, tt) tt

pub event_aside : (s : State) (x : Event) (r : Option Reply) (acts : List Act) → IsOwnEvent x → AllByRecursion IsAside (event_deeds s x r acts)
event_aside s (event.Call client epoch number c) None acts own = tt
event_aside s (event.Call client epoch number c) (Some r) acts own = all-cond IsAside (is_new s client epoch number) (call_deeds s client c r) [] (call_aside s client c r) tt
event_aside s (event.Timeout t) r acts own =
    all-append IsAside (times_out_here t (client_of (s.fates t))) (flat_map (times_out_join s t) s.joined) (timeout_aside t (client_of (s.fates t))) (all-flat IsAside (times_out_join s t) s.joined (λ j. join_aside t j (open_in (s.phases j))))
event_aside s event.Tick r acts own = tt
event_aside s event.Force r acts own = tt
event_aside s event.Restart r acts own = tt
event_aside s (event.Arrive from m) r acts own = absurd own

-- a call that was performed is not found made
pub none_performed : (ready : List JoinNo) (clock : ℕ) (stamps : List Stamp) (s : State) (x : Event) (r : Option Reply) → filter (is_effective ready clock stamps) (done_deeds s x r) ≡ []
none_performed ready clock stamps s (event.Call client epoch number c) (Some r) = either (is_new s client epoch number)
  where
    by : (d : Call) (o : Option TransId) → filter (is_effective ready clock stamps) (done_by s d r o) ≡ []
    by d None = refl
    by d (Some t) = one (is_passing r || is_of_no_file s d r)
      where
        one : (b : Bool) → filter (is_effective ready clock stamps) (cond {A = List Deed} b [] (Performs t (record { call = d; reply = r }) ∷ [])) ≡ []
        one true = refl
        one false = refl

    of : (o : Option Call) → filter (is_effective ready clock stamps) (done_of s r o) ≡ []
    of None = refl
    of (Some d) = by d (file_trans d)

    either : (b : Bool) → filter (is_effective ready clock stamps) (cond {A = List Deed} b (done_of s r (answered s client c)) []) ≡ []
    either true = of (answered s client c)
    either false = refl
none_performed ready clock stamps s (event.Call client epoch number c) None = refl
none_performed ready clock stamps s (event.Arrive from m) r = refl
none_performed ready clock stamps s (event.Timeout t) r = refl
none_performed ready clock stamps s event.Tick r = refl
none_performed ready clock stamps s event.Force r = refl
none_performed ready clock stamps s event.Restart r = refl

-- ---- what a stopped entry tried

-- what a write holds
abbrev pub IsWrite : Deed → Type 0
IsWrite (Readies j t ts) = Unit {0}
IsWrite (Applies j x) = Unit {0}
IsWrite (Decides x js) = Unit {0}
IsWrite (Forgets t) = Unit {0}
IsWrite d = ⊥

-- what a stopped entry tried is deeds aside, and at most one write behind them
abbrev pub IsAtMostOne : List Deed → Type 0
IsAtMostOne [] = Unit {0}
IsAtMostOne (d ∷ []) = IsWrite d
IsAtMostOne ds = ⊥

pub stopped_write : (s : State) (x : Event) (acts : List Act) → IsStopped acts → IsAtMostOne (flat_map (act_deeds s x) acts)
stopped_write s x (a ∷ []) stopped = last a stopped
  where
    last : (a : Act) → is_stop a ≡ true → IsAtMostOne (act_deeds s x a ++ [])
    last act.Stopped is = tt
    last act.Failed is = tt
    last b is = let wrong : false ≡ true = is in cc
stopped_write s x (a ∷ b ∷ []) stopped = first a stopped.0 (last b stopped.1)
  where
    last : (b : Act) → is_stop b ≡ true → act_deeds s x b ++ [] ≡ []
    last act.Stopped is = refl
    last act.Failed is = refl
    last b is = let wrong : false ≡ true = is in cc

    first : (a : Act) → is_written a ≡ true → act_deeds s x b ++ [] ≡ [] → IsAtMostOne (act_deeds s x a ++ (act_deeds s x b ++ []))
    first (act.Readied t j ts) is none = subst (λ (ds : List Deed). IsAtMostOne (Readies j t ts ∷ ds)) (sym none) tt
    first (act.Applied j stamp) is none = subst (λ (ds : List Deed). IsAtMostOne (Applies j stamp ∷ ds)) (sym none) tt
    first (act.Decided stamp joins) is none = subst (λ (ds : List Deed). IsAtMostOne (Decides stamp joins ∷ ds)) (sym none) tt
    first (act.Forgot t) is none = subst (λ (ds : List Deed). IsAtMostOne (Forgets t ∷ ds)) (sym none) tt
    first c is none = let wrong : false ≡ true = is in cc
stopped_write s x acts stopped = absurd stopped

-- ---- ids

pub holders-after : (ds : List Deed) (s : State) → (state_after state_deed s ds).holder ≡ state_after holder_after s.holder ds
holders-after [] s = refl
holders-after (d ∷ ds) s = holders-after ds (state_deed s d)

-- the ids of files are counted as before, in the same epoch
pub record IsCounted (s m : State) : Type 0 where
  pub made : AllByRecursion (WasMade m.ids) m.holder.made
  pub epoch : m.ids.epoch ≡ s.ids.epoch

pub found_counted : (ready : List JoinNo) (clock : ℕ) (stamps : List Stamp) (ds : List Deed) (s : State) → AllByRecursion (WasMade s.ids) s.holder.made
    → IsCounted s (state_after state_deed s (filter (is_effective ready clock stamps) ds))
found_counted ready clock stamps [] s made = record { made = made; epoch = refl }
found_counted ready clock stamps (d ∷ ds) s made = go (is_effective ready clock stamps d) refl (λ m k. found_counted ready clock stamps ds m k)
  where
    -- it is no restart and performs nothing
    none_started : is_effective ready clock stamps d ≡ true → (epoch now : ℕ) → d ≡ Restarts epoch now → ⊥
    none_started is epoch now k = let wrong : true ≡ false = sym is ∙ ap (is_effective ready clock stamps) k in cc

    none_done : is_effective ready clock stamps d ≡ true → (t : TransId) (x : PerformedCall) → d ≡ Performs t x → ⊥
    none_done is t x k = let wrong : true ≡ false = sym is ∙ ap (is_effective ready clock stamps) k in cc

    same_epoch : (c : Deed) → is_effective ready clock stamps c ≡ true → (ids_after s.ids c).epoch ≡ s.ids.epoch
    same_epoch (Restarts epoch now) is = let wrong : false ≡ true = is in cc
    same_epoch (Begins t client who seen) is = refl
    same_epoch (Joins j t client who) is = refl
    same_epoch (Performs t x) is = refl
    same_epoch c is = refl

    go : (b : Bool) → is_effective ready clock stamps d ≡ b → ((m : State) → AllByRecursion (WasMade m.ids) m.holder.made → IsCounted m (state_after state_deed m (filter (is_effective ready clock stamps) ds)))
        → IsCounted s (state_after state_deed s (cond {A = List Deed} b (d ∷ filter (is_effective ready clock stamps) ds) (filter (is_effective ready clock stamps) ds)))
    go true is on =
        let rest : IsCounted (state_deed s d) (state_after state_deed (state_deed s d) (filter (is_effective ready clock stamps) ds)) =
        on (state_deed s d) (made-after s.ids s.holder d (λ epoch now k. absurd (none_started is epoch now k)) (λ t x k. absurd (none_done is t x k)) made) in
        record { made = rest.made; epoch = rest.epoch ∙ same_epoch d is }
    go false is on = on s made
