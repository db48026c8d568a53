-- the epoch and the clock that a server starts with, and what a crash leaves of a start
use Rattle.std.specs.Prelude.{slice_get, zero, suc, min, ◌-◌, cond, Bool, true, false, ◌==◌, ◌&&◌, ◌||◌, nat_eq, Option, None, Some, is_some, unwrap_or, Result, Ok, Err, IfErr, OnOk, IsTrue, replicate}
use Rattle.std.specs.Option.{option_and_then}
use Rattle.std.specs.Cmp.Lexicographic.{pointwise}
use Rattle.std.specs.FinMap as map
use Rattle.std.proofs.Common.{◌≡◌, ◌⊎◌, ℕ, ◌+◌, ◌<◌, ◌≤◌, ◌^◌, List, [], ◌∷◌, refl, sym, ◌∙◌, ap, subst, inl, inr, ⊎_elim, arith}
use Rattle.alp_base.specs.Notes.{Notes, notes_after}
use Rattle.alp_base.specs.Allowances.{Spends}
use Rattle.alp_base.specs.declared.bytes.NoteChange.{NoteChange}
use Rattle.alp_base.specs.Crashes.{Only}
use Rattle.alp_base.specs.declared.allowance.Allowance.{Allowance}
use Rattle.alp_base.specs.declared.cell.Cell.{Cell}
use Rattle.alp_base.specs.declared.cell.Cell.TheVariants as cell
use Rattle.alp_base.specs.declared.faults.Sizes.{Sizes}
use Rattle.alp_base.specs.declared.faults.VaultFault.{VaultFault}
use Rattle.alp_base.specs.declared.ids.FileId.{FileId}
use Rattle.alp_base.specs.declared.key.Key.TheVariants.{Leader, PageOf, OwnerOf}
use Rattle.alp_fields.specs.Forms.{whole}
use Rattle.alp_fields.specs.ClockNote.{clock_name, clock_form, clock_in, clock_kept}
use Rattle.alp_fields.specs.declared.clock_note.ClockNote.{ClockNote}
use Rattle.alp_fields.proofs.ClockLemmas.{clock_within}
use Rattle.alp_fields.proofs.ReadyNoteLaw.{clock_no_ready}
use Rattle.alp_fields.proofs.DecisionNoteLaw.{clock_no_decision}
use Rattle.alp_files.specs.Apart.{AreSized}
use Rattle.alp_files.specs.Cells.{Cells}
use Rattle.alp_files.specs.Changes.{edits_of}
use Rattle.alp_files.specs.Edits.{edits_map}
use Rattle.alp_files.specs.Locks.{page_limit}
use Rattle.alp_files.specs.Needs.{no_intents}
use Rattle.alp_calls.specs.Looks.{IsLeft, Looks}
use Rattle.alp_calls.specs.declared.fault.CallFault.{CallFault}
use Rattle.alp_calls.specs.declared.fault.CallFault.TheVariants as call_fault
use Rattle.alp_base.specs.declared.faults.VaultFault.TheVariants as vault_fault
use Rattle.alp_calls.proofs.PartLaws.{same_change}
use Rattle.alp_trans.specs.Parts.{change_of}
use Rattle.alp_trans.specs.declared.part.Part.{Part}
use Rattle.alp_vault.specs.Contents.{Contents}
use Rattle.alp_vault.specs.Volumes.{IsVolumeOf, AreServerNotes, is_server_note, is_ready_on, is_decision_of}
use Rattle.alp_vault.specs.Vault.{IsSameVault}
use Rattle.alp_vault.specs.declared.vault.Vault.{Ghosts}
use Rattle.alp_journal.specs.Desk.{Session}
use Rattle.alp_node.specs.Durable.{Leaves, Besides, IsWritten}
use Rattle.alp_node.specs.Found.{WasNotFound, look_in}
use Rattle.alp_node.specs.Halts.{Ends, IsUncounted}
use Rattle.alp_node.specs.declared.found.Found.{Found}
use Rattle.alp_node.specs.ServerState.{SeesNoneToCome}
use Rattle.alp_node.specs.Sessions.{no_sessions, session_at}
use Rattle.alp_node.specs.Starts.{HasStartCause, IsKeptOrRaised, IsNoteFault, PutsClock, epoch_after, after_clock, after_note, raised, with_clock}
use Rattle.alp_node.specs.Writes.{clock_put}
use Rattle.alp_node.specs.declared.start.StartFault.{StartFault}
use Rattle.alp_node.specs.declared.start.StartFault.TheVariants as start_fault
use Rattle.alp_node.specs.declared.stored.StoreFault.{StoreFault}
use Rattle.alp_base.specs.Causes.{Rose}
use Rattle.alp_base.specs.Faults.{HasFaultCause}
use Rattle.alp_node.specs.declared.stored.StoreFault.TheVariants as store_fault
use Rattle.alp_node.proofs.StoreLemmas.{ends_later}
use Rattle.alp_node.proofs.ClockLaws.{clock_epoch, not_last}

ok_same : {A E : Type 0} (x y : A) → ◌≡◌ {A = Result A E} (Ok x) (Ok y) → x ≡ y
ok_same x y e = cc

-- a later epoch, and a time
record IsLater (value : Option (List ℕ)) (c : ClockNote) : Type 0 where
  later : (clock_in value).epoch < c.epoch
  next : c.epoch ≡ (clock_in value).epoch + 1
  same : c.clock ≡ (clock_in value).clock
  within : c.clock ≤ 2 ^ 62
  last : c.epoch < 2 ^ 32

after_value : (value : List ℕ) (c : ClockNote) (found : Option ClockNote) → whole clock_form value ≡ found → after_clock found ≡ Ok c → IsLater (Some value) c
after_value value c None is e = cc
after_value value c (Some k) is e = go (k.epoch == 4294967295) refl e
  where
    go : (b : Bool) → (k.epoch == 4294967295) ≡ b → cond {A = Result ClockNote StartFault} b (Err start_fault.EpochEnd) (Ok (record k { epoch = k.epoch + 1 })) ≡ Ok c → IsLater (Some value) c
    go true at e = cc
    go false at e =
        let same : record k { epoch = k.epoch + 1 } ≡ c = ok_same (record k { epoch = k.epoch + 1 }) c e in
        let kept : (clock_in (Some value)).epoch ≡ k.epoch = ap (λ (x : Option ClockNote). (unwrap_or x (record { epoch = 0; clock = 0 })).epoch) is in
        let epoch : k.epoch + 1 ≡ c.epoch = ap (λ (x : ClockNote). x.epoch) same in
        let clock : k.clock ≡ c.clock = ap (λ (x : ClockNote). x.clock) same in
        let low : k.epoch < 4294967296 = clock_epoch value k is in
        let more : k.epoch + 1 < 4294967296 = not_last k.epoch low at in
        record { later = omega (arith, kept, epoch); next = omega (arith, kept, epoch); same = sym clock ∙ sym (ap (λ (x : Option ClockNote). (unwrap_or x (record { epoch = 0; clock = 0 })).clock) is); within = omega (arith, clock, clock_within value k is); last = omega (arith, epoch, more) }

after_any : (value : Option (List ℕ)) (c : ClockNote) → after_note value ≡ Ok c → IsLater value c
after_any None c e =
    let same : record { epoch = 1; clock = 0 } ≡ c = ok_same (record { epoch = 1; clock = 0 }) c e in
    let epoch : 1 ≡ c.epoch = ap (λ (x : ClockNote). x.epoch) same in
    let clock : 0 ≡ c.clock = ap (λ (x : ClockNote). x.clock) same in
    record { later = omega (arith, epoch); next = omega (arith, epoch); same = sym clock; within = omega (arith, clock); last = omega (arith, epoch) }
after_any (Some value) c e = after_value value c (whole clock_form value) refl e

pub raised_later : (held : Contents) (c : ClockNote) → raised held ≡ Ok c → (clock_kept held.notes).epoch < c.epoch
raised_later held c e = (after_any (map.get held.notes clock_name) c e).later

-- what was drawn before an epoch was drawn in an older one
pub before_less : (noted epoch : ℕ) → 0 < epoch → min noted (epoch - 1) < epoch
before_less noted epoch some = omega (arith, some)

-- before the epoch after that of the note, that is in those up to it
pub before_same : (noted epoch : ℕ) → epoch ≡ noted + 1 → min noted (epoch - 1) ≡ noted
before_same noted epoch is = omega (arith, is)

pub raised_next : (held : Contents) (c : ClockNote) → raised held ≡ Ok c → c.epoch ≡ epoch_after held
raised_next held c e = (after_any (map.get held.notes clock_name) c e).next

pub raised_within : (held : Contents) (c : ClockNote) → raised held ≡ Ok c → c.clock ≤ 2 ^ 62
raised_within held c e = (after_any (map.get held.notes clock_name) c e).within

-- no intents change nothing
pub no_change : (m : Cells) (p : Part) → p.intents ≡ no_intents → edits_map (edits_of (change_of p.intents)) m ≡ m
no_change m p none = same_change m p [] none

-- ---- what a server keeps when it starts

nobody_there : (n client : ℕ) → option_and_then (λ (x : Option Session). x) (slice_get (replicate n None) client) ≡ None
nobody_there zero client = refl
nobody_there (suc n) zero = refl
nobody_there (suc n) (suc client) = nobody_there n client

pub no_session : (client : ℕ) → session_at no_sessions client ≡ None
no_session client = nobody_there 17 client

-- no file of the epoch or a later one stands yet
pub none_born : (server epoch last : ℕ) (held : Cells) → ((f : FileId) (c : Cell) → map.get held (Leader f) ≡ Some c → (f.server ≡ server) × (f.epoch ≤ last)) → last < epoch
    → SeesNoneToCome server epoch 0 (map.get held)
none_born server epoch last held old later f comes = go (map.get held (Leader f)) refl
  where
    no_older : ((epoch < f.epoch) × (0 < f.counter)) ⊎ ((f.epoch ≡ epoch) × (0 < f.counter)) → epoch ≤ f.epoch
    no_older (inl after) = (let high : epoch < f.epoch = after.0 in omega (arith, high))
    no_older (inr now) = (let at : f.epoch ≡ epoch = now.0 in omega (arith, at))

    go : (x : Option Cell) → map.get held (Leader f) ≡ x → x ≡ None
    go None e = refl
    go (Some c) e = (let young : f.epoch ≤ last = (old f c e).1 in let high : epoch ≤ f.epoch = no_older comes.1 in absurd (omega (arith, young, later, high)))

-- the sizes of a volume's files are numbers of pages
pub volume_sized : (s : Sizes) (m : Cells) → IsVolumeOf s m → AreSized (map.get m)
unfolding page_limit
volume_sized s m h (Leader f) (cell.Leader p) there = (let low : p.size ≤ 4096 = h.fits.sizes f p there in omega (arith, low))
volume_sized s m h (PageOf f n) (cell.Leader p) there = absurd (h.sound.0.kinds (PageOf f n) (cell.Leader p) there)
volume_sized s m h (OwnerOf o) (cell.Leader p) there = absurd (h.sound.0.kinds (OwnerOf o) (cell.Leader p) there)
volume_sized s m h k (cell.Page bytes) there = tt
volume_sized s m h k (cell.Owner o) there = tt

some_epoch : (m n : ℕ) → m < n → 0 < n
some_epoch m n later = omega (arith, later)

pub raised_clock : (held : Contents) (c : ClockNote) → raised held ≡ Ok c → c.clock ≡ (clock_kept held.notes).clock
raised_clock held c e = (after_any (map.get held.notes clock_name) c e).same

pub raised_last : (held : Contents) (c : ClockNote) → raised held ≡ Ok c → c.epoch < 2 ^ 32
raised_last held c e = (after_any (map.get held.notes clock_name) c e).last

pub raised_some : (held : Contents) (c : ClockNote) → raised held ≡ Ok c → 0 < c.epoch
raised_some held c e = some_epoch (clock_kept held.notes).epoch c.epoch (raised_later held c e)

-- ---- what a crash leaves of a start

module _ {V : Type 0} (G : Ghosts V) (old : V) (only : Only (G.held old) (G.may_leave old)) where
  -- a vault that was not written
  pub kept_leaves : Leaves G old old (IsKeptOrRaised (G.held old))
  kept_leaves = record { crash = λ c here. inl (only c here); time = record { each = λ start c was. inl was } }

  -- one that was looked at
  pub looked_leaves : (new : V) → IsLeft G old new → Leaves G old new (IsKeptOrRaised (G.held old))
  looked_leaves new left = record {
    crash = λ c here. inl (only c (left.crash c here));
    time = record { each = λ start c was. ⊎_elim (λ before. inl before) (λ now. inr (inl (only c now))) (left.time.each start c was) };
  }

  -- and one that was looked at, and then written once
  pub raised_leaves : (mid new : V) (k : ClockNote) → IsLeft G old mid → raised (G.held old) ≡ Ok k → Leaves G mid new (Besides G mid (λ c. c ≡ with_clock (G.held mid) k)) → Leaves G old new (IsKeptOrRaised (G.held old))
  raised_leaves mid new k left is h = record {
    crash = λ c here. seen c (h.crash c here);
    time = record {
      each = λ start c was. ⊎_elim
          (λ before. ⊎_elim (λ older. inl older) (λ now. inr (inl (only c now))) (left.time.each start c before))
          (λ now. inr (seen c now)) (h.time.each start c was);
    };
  }
    where
      seen : (c : Contents) → Besides G mid (λ x. x ≡ with_clock (G.held mid) k) c → IsKeptOrRaised (G.held old) c
      seen c (inl before) = inl (only c (left.crash c before))
      seen c (inr (inl kept)) = inl (kept ∙ left.contents)
      seen c (inr (inr made)) = inr (k, is, made ∙ ap (λ (x : Contents). with_clock x k) left.contents)

-- ---- the write of the clock's note

on_more : {T : Type 0} (r : Result T StoreFault) (P Q : Type 0) → (P → Q) → OnOk r P → OnOk r Q
on_more (Ok x) P Q f p = f p
on_more (Err e) P Q f p = tt

pub puts_clock : {V : Type 0} (G : Ghosts V) (old new : V) (clock : ClockNote) (p : Part) (changes : List NoteChange) (r : Result (Unit {0}) StoreFault) → p.intents ≡ no_intents → changes ≡ clock_put clock ∷ []
    → IsSameVault G.tells G.volume G.server G.servers old new → (IsTrue (G.tells old) → OnOk r ((G.held new).cells ≡ edits_map (edits_of (change_of p.intents)) (G.held old).cells)) → OnOk r ((G.held new).notes ≡ notes_after changes (G.held old).notes)
    → (IsTrue (G.tells old) → Leaves G old new (Besides G old (IsWritten p.intents changes (G.held old)))) → Spends (G.allowance old) (G.allowance new) → Ends G old new r → PutsClock G old new clock r
puts_clock G old new clock p changes r none is kept cells notes leaves spends ended = record {
  same = kept;
  cells = λ told. on_more r ((G.held new).cells ≡ edits_map (edits_of (change_of p.intents)) (G.held old).cells) ((G.held new).cells ≡ (G.held old).cells) (λ e. e ∙ no_change (G.held old).cells p none) (cells told);
  notes = on_more r ((G.held new).notes ≡ notes_after changes (G.held old).notes) ((G.held new).notes ≡ map.insert (G.held old).notes clock_name (clock_form.spell clock))
      (λ e. e ∙ ap (λ (cs : List NoteChange). notes_after cs (G.held old).notes) is) notes;
  leaves = λ told. (
      let h : Leaves G old new (Besides G old (IsWritten p.intents changes (G.held old))) = leaves told in
      record { crash = λ c here. seen c (h.crash c here); time = record { each = λ start c was. ⊎_elim (λ before. inl before) (λ now. inr (seen c now)) (h.time.each start c was) } }
      );
  spends = spends;
  ended = ended;
}
  where
    seen : (c : Contents) → Besides G old (IsWritten p.intents changes (G.held old)) c → Besides G old (λ x. x ≡ with_clock (G.held old) clock) c
    seen c (inl before) = inl before
    seen c (inr (inl same)) = inr (inl same)
    seen c (inr (inr w)) =
        let cells_are : c.cells ≡ (G.held old).cells = w.cells ∙ no_change (G.held old).cells p none in
        let notes_are : c.notes ≡ map.insert (G.held old).notes clock_name (clock_form.spell clock) = w.notes ∙ ap (λ (cs : List NoteChange). notes_after cs (G.held old).notes) is in
        inr (inr (λ i. record { cells = cells_are i; notes = notes_are i }))

-- ---- a note of the clock that cannot be read

and_false : (b : Bool) → (b && false) ≡ false
and_false true = refl
and_false false = refl

-- it is not in the format of any server
pub unreadable : (server servers : ℕ) (notes : Notes) (value : List ℕ) → map.get notes clock_name ≡ Some value → whole clock_form value ≡ None → AreServerNotes server servers notes → ⊥
unreadable server servers notes value there none are = by (sym no_note ∙ are clock_name value there)
  where
    by : false ≡ true → ⊥
    by wrong = cc

    no_note : is_server_note server servers clock_name value ≡ false
    no_note =
        (λ i. (pointwise nat_eq clock_name clock_name && is_some (none i)) || (is_ready_on server servers (clock_no_ready value i) || is_decision_of server servers (clock_no_decision value i)))
        ∙ ap (λ (b : Bool). b || (false || false)) (and_false (pointwise nat_eq clock_name clock_name))

-- why a server does not start on such a note
pub start_cause : (tells : Bool) (server servers : ℕ) (s : Sizes) (held : Contents) (before : ℕ) (a : Allowance) (value : List ℕ) (r : Result ClockNote StartFault) → map.get held.notes clock_name ≡ Some value → r ≡ after_clock (whole clock_form value)
    → IfErr r (HasStartCause tells server servers s held before before a)
start_cause tells server servers s held before a value r there is =
    subst (λ (x : Result ClockNote StartFault). IfErr x (HasStartCause tells server servers s held before before a)) (sym is) (go (whole clock_form value) refl)
  where
    ends : (k : ClockNote) → whole clock_form value ≡ Some k → (b : Bool) → (k.epoch == 4294967295) ≡ b
        → IfErr (cond {A = Result ClockNote StartFault} b (Err start_fault.EpochEnd) (Ok (record k { epoch = k.epoch + 1 }))) (HasStartCause tells server servers s held before before a)
    ends k e true last = ap after_note there ∙ ap after_clock e ∙ ap (λ (b : Bool). cond {A = Result ClockNote StartFault} b (Err start_fault.EpochEnd) (Ok (record k { epoch = k.epoch + 1 }))) last
    ends k e false last = tt

    go : (o : Option ClockNote) → whole clock_form value ≡ o → IfErr (after_clock o) (HasStartCause tells server servers s held before before a)
    go None e = record {
      told = λ told together. unreadable server servers held.notes value there e together.notes_alone.format;
      alone = λ none alone. unreadable server servers held.notes value there e alone.format;
    }
    go (Some k) e = ends k e (k.epoch == 4294967295) refl

pub vault_same : (f g : VaultFault) → start_fault.Vault f ≡ start_fault.Vault g → f ≡ g
vault_same f g e = cc

-- ---- a look that found nothing

module _ {V : Type 0} (G : Ghosts V) (old new : V) where
  pub looks_left : (o : Option CallFault) → Looks G old new o → IsLeft G old new
  looks_left None h = h.0
  looks_left (Some call_fault.Failed) h = h.0
  looks_left (Some call_fault.Stopped) h = h.0
  looks_left (Some call_fault.OutOfMemory) h = h.0

  pub left_uncounted : IsLeft G old new → G.faults new ≡ G.faults old → IsUncounted G old new
  left_uncounted h same = record { held = h.contents; faults = same; allowance = h.allowed }

  pub left_spends : (now : Allowance) → IsLeft G old new → Spends (G.allowance new) now → Spends (G.allowance old) now
  left_spends now h s = subst (λ (a : Allowance). Spends a now) h.allowed s

  -- the notes go apart, or the vault did not answer
  pub look_cause : (f : StartFault) → WasNotFound (G.tells old) (G.server old) (G.servers old) (epoch_after (G.held old)) (G.volume old) (G.held old) f → Looks G old new (look_in {T = Found} (Err f))
      → HasStartCause (G.tells old) (G.server old) (G.servers old) (G.volume old) (G.held old) (G.faults old) (G.faults new) (G.allowance new) f
  look_cause (start_fault.Vault vault_fault.Failed) h l = (record { failed = λ e. l.2; stopped = λ e. cc }, tt, l.0.later)
  look_cause (start_fault.Vault vault_fault.Stopped) h l = (record { failed = λ e. cc; stopped = λ e. l.2 }, tt, l.0.later)
  look_cause (start_fault.Vault vault_fault.OutOfMemory) h l = (record { failed = λ e. cc; stopped = λ e. cc }, tt, l.0.later)
  look_cause (start_fault.Vault (vault_fault.NotAVolume found)) h l = absurd h
  look_cause (start_fault.Vault (vault_fault.Damaged place)) h l = absurd h
  look_cause start_fault.BadNote h l = h
  look_cause start_fault.EpochEnd h l = absurd h

  -- where memory was wanting, and where the notes go apart, nothing is counted
  pub look_memory : (f : StartFault) → f ≡ start_fault.Vault vault_fault.OutOfMemory → Looks G old new (look_in {T = Found} (Err f)) → IsUncounted G old new × IsTrue (G.serves new)
  look_memory f is l = (let m : Looks G old new (Some call_fault.OutOfMemory) = subst (λ (x : StartFault). Looks G old new (look_in {T = Found} (Err x))) is l in (left_uncounted m.0 m.2, m.1))

  pub look_noted : (f : StartFault) → IsNoteFault f → Looks G old new (look_in {T = Found} (Err f)) → IsUncounted G old new × IsTrue (G.serves new)
  look_noted start_fault.BadNote n l = (left_uncounted l.0 l.2, l.1)
  look_noted start_fault.EpochEnd n l = (left_uncounted l.0 l.2, l.1)
  look_noted (start_fault.Vault f) n l = absurd n

-- the causes are those of the server of that number
pub found_of : (tells : Bool) (a b c d epoch now : ℕ) (s : Sizes) (held : Contents) (f : StartFault) → a ≡ c → b ≡ d → epoch ≡ now → WasNotFound tells c d epoch s held f → WasNotFound tells a b now s held f
found_of tells a b c d epoch now s held f one two same h =
    subst (λ (n : ℕ). WasNotFound tells n b now s held f) (sym one) (subst (λ (n : ℕ). WasNotFound tells c n now s held f) (sym two) (subst (λ (n : ℕ). WasNotFound tells c d n s held f) same h))

-- a write that did not go through, after a look
module _ {V : Type 0} (G : Ghosts V) (old mid new : V) (left : IsLeft G old mid) (count : G.faults mid ≡ G.faults old) where
  pub put_memory : (f : StoreFault) → f ≡ store_fault.OutOfMemory → Ends {T = Unit {0}} G mid new (Err f) → IsUncounted G old new × IsTrue (G.serves new)
  put_memory f is ended =
      let e = subst (λ (x : StoreFault). Ends {T = Unit {0}} G mid new (Err x)) is ended in
      (record { held = e.1.held ∙ left.contents; faults = e.1.faults ∙ count; allowance = e.1.allowance ∙ left.allowed }, e.0)

  pub put_cause : (f : StoreFault) (v : VaultFault) → (v ≡ vault_fault.Failed → f ≡ store_fault.Failed) → (v ≡ vault_fault.Stopped → f ≡ store_fault.Stopped) → Ends {T = Unit {0}} G mid new (Err f)
      → HasFaultCause (G.faults old) (G.faults new) (G.allowance new) v × (G.faults old ≤ G.faults new)
  put_cause f v failed stopped ended = (
    record {
      failed = λ e. subst (λ (n : ℕ). Rose n (G.faults new)) count (ended_as store_fault.Failed (failed e)).1;
      stopped = λ e. (ended_as store_fault.Stopped (stopped e)).1;
    },
    subst (λ (n : ℕ). n ≤ G.faults new) count (ends_later G mid new f ended),
  )
    where
      ended_as : (g : StoreFault) → f ≡ g → Ends {T = Unit {0}} G mid new (Err g)
      ended_as g is = subst (λ (x : StoreFault). Ends {T = Unit {0}} G mid new (Err x)) is ended
