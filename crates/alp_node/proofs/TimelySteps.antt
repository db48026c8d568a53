-- how far the clock comes with an event, by what the server keeps
use Rattle.std.specs.Prelude.{Bool, true, false, max, ◌==◌, Option, Result, Ok, Err}
use Rattle.std.proofs.Common.{◌≡◌, ℕ, ◌+◌, ◌≤◌, List, refl, sym, arith}
use Rattle.alp_base.specs.declared.ids.TransId.{TransId}
use Rattle.alp_base.specs.declared.memory.OutOfMemory.{OutOfMemory}
use Rattle.alp_files.specs.declared.reply.Reply.{Reply}
use Rattle.alp_journal.specs.declared.entry.Entry.{Entry}
use Rattle.alp_journal.specs.declared.event.Event.{Event}
use Rattle.alp_journal.specs.declared.event.Event.TheVariants as event
use Rattle.alp_journal.specs.declared.message.Message.TheVariants as msg
use Rattle.alp_journal.specs.Account.{Account}
use Rattle.alp_journal.specs.Along.{Where}
use Rattle.alp_journal.specs.Coordinator.{Fate, Undrawn, Running, Finishing, Committed, Forgotten, Ended, votes_in}
use Rattle.alp_journal.specs.Laws.{latest_vote}
use Rattle.alp_coord.specs.declared.coordinator.Coordinator.{Coordinator}
use Rattle.alp_coord.specs.Coordinators.{fate_in}
use Rattle.alp_coord.specs.Likeness.{IsFateOf, IsLike, IsLikeOld, is_over, standing, nothing}
use Rattle.alp_coord.specs.Likeness as like
use Rattle.alp_vault.specs.declared.vault.Vault.{Ghosts}
use Rattle.alp_node.specs.ServerState.{IsAs}
use Rattle.alp_node.specs.Steps.{IsEntered, seen_with}
use Rattle.alp_node.specs.declared.server_state.ServerState.{ServerState}
use Rattle.alp_node.specs.declared.sessions.CallOrder.{CallOrder}

-- the latest vote is the same
like_latest : (n : ℕ) (f g : Fate) → IsLike f g → latest_vote n (votes_in g) ≡ latest_vote n (votes_in f)
like_latest n f g (like.same h) = refl
like_latest n _ _ (like.finishing client js vs ws h) = sym (h.latest n)
like_latest n _ _ (like.committed stamp js ds es h) = refl

over_latest : (n : ℕ) (f : Fate) → is_over f ≡ true → latest_vote n (votes_in f) ≡ n
over_latest n Undrawn over = refl
over_latest n (Running c js) over = let wrong : false ≡ true = over in cc
over_latest n (Finishing c js vs) over = let wrong : false ≡ true = over in cc
over_latest n (Committed s js ds) over = refl
over_latest n (Forgotten s js) over = refl
over_latest n (Ended c) over = refl

old_latest : (n : ℕ) (f g : Fate) → IsLikeOld f g → latest_vote n (votes_in g) ≡ latest_vote n (votes_in f)
old_latest n _ _ (standing stamp j js ds es h) = refl
old_latest n _ _ (nothing f over) = over_latest n f over

pub latest_told : (epoch : ℕ) (t : TransId) (n : ℕ) (known told : Fate) → IsFateOf epoch t known told → latest_vote n (votes_in told) ≡ latest_vote n (votes_in known)
latest_told epoch t n known told h = go (t.epoch == epoch) h
  where
    go : (b : Bool) → Where b (IsLike known told) (IsLikeOld known told) → latest_vote n (votes_in told) ≡ latest_vote n (votes_in known)
    go true k = like_latest n known told k
    go false k = old_latest n known told k

seen_told : (epoch : ℕ) (c : Coordinator) (fates : TransId → Fate) (e : Event) → ((t : TransId) → IsFateOf epoch t (fate_in c t) (fates t)) → seen_with fates e ≡ seen_with (fate_in c) e
seen_told epoch c fates (event.Arrive from (msg.Ready t j ts)) h = latest_told epoch t ts (fate_in c t) (fates t) (h t)
seen_told epoch c fates (event.Arrive from (msg.Register t j client)) h = refl
seen_told epoch c fates (event.Arrive from (msg.Joined t j)) h = refl
seen_told epoch c fates (event.Arrive from (msg.JoinRefused t j)) h = refl
seen_told epoch c fates (event.Arrive from (msg.Ask t j)) h = refl
seen_told epoch c fates (event.Arrive from (msg.No t j why)) h = refl
seen_told epoch c fates (event.Arrive from (msg.Commit t j stamp)) h = refl
seen_told epoch c fates (event.Arrive from (msg.Abort t j cause)) h = refl
seen_told epoch c fates (event.Arrive from (msg.Done t j)) h = refl
seen_told epoch c fates (event.Arrive from (msg.Inquire t j)) h = refl
seen_told epoch c fates (event.Call client number epoch_given x) h = refl
seen_told epoch c fates (event.Timeout t) h = refl
seen_told epoch c fates event.Tick h = refl
seen_told epoch c fates event.Force h = refl
seen_told epoch c fates event.Restart h = refl

pub entered_timely : {V : Type 0} (G : Ghosts V) (o : Option CallOrder) (old new : ServerState V) (before after : List Entry) (e : Event) (r : Result (Option Reply) OutOfMemory) (a : Account) → IsAs a (G.held old.vault) old → G.tells old.vault ≡ true → IsEntered G o old new before after e r
    → new.clock ≤ max old.clock (seen_with (fate_in old.coordinator) e) + 1
entered_timely G o old new before after e (Ok y) a h told (x, s, handed, is) =
    let low : new.clock ≤ max a.holder.clock (seen_with a.fates e) + 1 = (s.stepped told a h).clock in
    let clock : a.holder.clock ≡ old.clock = h.clock in
    let seen : seen_with a.fates e ≡ seen_with (fate_in old.coordinator) e = seen_told a.ids.epoch old.coordinator a.fates e h.coordinator.fates in
    omega (arith, low, clock, seen)
entered_timely G o old new before after e (Err f) a h told (s, is) = (let still : new.clock ≡ old.clock = s.still.clock in omega (arith, still))
