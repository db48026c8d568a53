-- the end of a run, as its status tells it
use Rattle.std.specs.Prelude.{Bool, Option, None, Some, replicate, take}
use Rattle.std.specs.Option.{option_map}
use Rattle.std.specs.Io.KnownBytes.{Appends}
use Rattle.std.proofs.Common.{inl, inr, ◌⊎◌, ◌≡◌, ◌<◌, ◌≤◌, ℕ, zero, suc, List, [], ◌∷◌, refl, sym, ◌∙◌, ap, subst, arith}
use Rattle.alp_base.specs.Causes.{Rose}
use Rattle.alp_base.specs.Pages.{zero_page}
use Rattle.alp_base.specs.declared.faults.Sizes.{Sizes}
use Rattle.alp_bay.specs.Bays.{IsTaken}
use Rattle.alp_course.specs.Courses.{IsOneOf}
use Rattle.alp_disk.specs.Disk.{Image, page}
use Rattle.alp_disk.specs.declared.disk.Disk.{Ghosts}
use Rattle.alp_script.specs.Accepted.{servers_said}
use Rattle.alp_script.specs.Volumes.{sizes_said}
use Rattle.alp_script.specs.declared.fault.ScriptFault.{ScriptFault}
use Rattle.alp_script.specs.declared.numbered.NumberedLine.{NumberedLine}
use Rattle.alp_store.specs.Starts.{IsNew}
use Rattle.alp_vault.specs.declared.vault.Vault.{Ghosts as VaultGhosts}
use Rattle.alp_words.specs.Words.{folder_named, IsNamedBy}
use Rattle.alp_words.specs.declared.command.Command.{Command}
use Rattle.alp_words.specs.declared.command.Command.TheVariants as command
use Rattle.alp_top.specs.Anywhere.{IsPlayedThrough, HasReported, IsDeclared, IsLimitOf}
use Rattle.alp_top.specs.Commands.{AreToPlay, shows_lines, shown_as}
use Rattle.alp_top.specs.Limits.{IsEndTold}
use Rattle.alp_top.specs.Besides.{HasLawsFor, IsRunOf}
use Rattle.alp_top.specs.Headline.{Lines, Correct, IsPlayed}
use Rattle.alp_top.specs.Logs.{Log}
use Rattle.alp_top.specs.Statuses.{OnBayFault, OnTooLong, OnBadDisk, OnUntaken, OnNoLines, Kept, OnDone, OnWriteFault, OnReport, OnCutShort, ended_by, folder_in, IsFolderTold, IsBayFaultTold, OnDiskFault, IsHandedOver, IsPlayedOrMemory, IsReadFaultTold, IsWriteFaultTold}
use Rattle.alp_top.specs.Volumes.{pages_of, HasRunCause, IsBayFault, IsFolderLeft, IsOfServers, IsStartable, StartsOn}
use Rattle.alp_top.specs.declared.fault.NoReport.{NoReport}
use Rattle.alp_top.specs.declared.fault.NoReport.TheVariants as fault
use Rattle.alp_top.specs.declared.status.Status.{Status}
use Rattle.alp_top.specs.declared.status.Status.TheVariants as status

-- ---- the report is written, or a part of it

-- the command shows lines or not
pub run_shown : {V D : Type 0} (G : VaultGhosts V) (g : Ghosts D) (a b : Bool) (lines : List NumberedLine) (log : Log V) (text : List ℕ) (before after : ℕ → Option D) → a ≡ b → IsRunOf G g a lines log text before after → IsRunOf G g b lines log text before after
run_shown G g a b lines log text before after same h = subst (λ (d : Bool). IsRunOf G g d lines log text before after) same h

pub through_shown : {V : Type 0} (G : VaultGhosts V) (a b : Bool) (lines : List NumberedLine) (log : Log V) (text : List ℕ) → a ≡ b → IsPlayedThrough G a lines log text → IsPlayedThrough G b lines log text
through_shown G a b lines log text same h = subst (λ (d : Bool). IsPlayedThrough G d lines log text) same h

module _ {V D : Type 0} (G : VaultGhosts V) (g : Ghosts D) (words : List (List ℕ)) (c : Command) (named : IsNamedBy words c) (old new : Option (List ℕ)) (before after : ℕ → Option D) (lines : List NumberedLine) (log : Log V) (text : List ℕ) (script : AreToPlay c old new lines) (x : IsRunOf G g (shows_lines c) lines log text before after) where
  -- it is correct, where this was written of the text
  is_correct : (Written : List ℕ → Type 0) → Written text → Correct G g (Lines (shown_as (shows_lines c)) lines) Written before after log
  is_correct Written out = record {
    output = subst Written x.correct.output out;
    faithful = x.correct.faithful;
    lawful = x.correct.lawful;
    stored = x.correct.stored;
    serial = x.correct.serial;
    whole = x.correct.whole;
    kept = x.correct.kept;
    charged = x.correct.charged;
  }

  -- it is a run of the command's lines
  pub is_played : (Written : List ℕ → Type 0) → Written text → IsPlayed G g words old new before after Written log
  is_played Written out = record { command = c; named = named; lines = lines; script = script; holds = is_correct Written out }

  -- and the laws hold of the same lines
  pub has_laws : (Written : List ℕ → Type 0) → Written text → HasLawsFor G g words old new before after Written log
  has_laws Written out = record { command = c; named = named; lines = lines; script = script; holds = record { correct = is_correct Written out; laws = x.laws } }

-- what was written of any run
module _ {V : Type 0} (G : VaultGhosts V) (words : List (List ℕ)) (c : Command) (named : IsNamedBy words c) (old new : Option (List ℕ)) (lines : List NumberedLine) (log : Log V) (text : List ℕ) (script : AreToPlay c old new lines) (through : IsPlayedThrough G (shows_lines c) lines log text) where
  pub has_reported : (wrote written : Option (List ℕ)) (l : Log V) → l ≡ log → Appends wrote written text → HasReported G words old new (λ ts. Appends wrote written ts) l
  has_reported wrote written l same out =
      subst (λ (l : Log V). HasReported G words old new (λ ts. Appends wrote written ts) l) (sym same) (record { command = c; named = named; lines = lines; script = script; text = text; through = through; output = out })

  pub has_reported_part : (wrote written : Option (List ℕ)) (l : Log V) → l ≡ log → (count : ℕ) → Appends wrote written (take count text) → HasReported G words old new (λ ts. (count : ℕ) × Appends wrote written (take count ts)) l
  has_reported_part wrote written l same count out =
      subst (λ (l : Log V). HasReported G words old new (λ ts. (count : ℕ) × Appends wrote written (take count ts)) l) (sym same) (record { command = c; named = named; lines = lines; script = script; text = text; through = through; output = (count, out) })

module _ {D : Type 0} {g : Ghosts D} where
  pub done_then : (s : Status D g) (P Q : Log (Kept D g) → Type 0) → ((log : Log (Kept D g)) → P log → Q log) → OnDone s P → OnDone s Q
  done_then (status.Done log) P Q f h = f log.value h
  done_then status.BadWords P Q f h = tt
  done_then (status.BadScript line) P Q f h = tt
  done_then status.ReadFault P Q f h = tt
  done_then (status.WriteFault log) P Q f h = tt
  done_then (status.DiskFault server) P Q f h = tt
  done_then status.OutOfMemory P Q f h = tt
  done_then (status.TooLong limit) P Q f h = tt
  done_then (status.NotAVolume server found) P Q f h = tt
  done_then (status.Damaged server place) P Q f h = tt

  pub cut_then : (s : Status D g) (P Q : Log (Kept D g) → Type 0) → ((log : Log (Kept D g)) → P log → Q log) → OnWriteFault s P → OnWriteFault s Q
  cut_then (status.WriteFault log) P Q f h = f log.value h
  cut_then status.BadWords P Q f h = tt
  cut_then (status.BadScript line) P Q f h = tt
  cut_then status.ReadFault P Q f h = tt
  cut_then (status.Done log) P Q f h = tt
  cut_then (status.DiskFault server) P Q f h = tt
  cut_then status.OutOfMemory P Q f h = tt
  cut_then (status.TooLong limit) P Q f h = tt
  cut_then (status.NotAVolume server found) P Q f h = tt
  cut_then (status.Damaged server place) P Q f h = tt

  -- of the report that was written, or of a part of it
  module _ (wrote written : Option (List ℕ)) (text : List ℕ) (log : Log (Kept D g)) where
    pub reported : (s : Status D g) (P : (List ℕ → Type 0) → Log (Kept D g) → Type 0) → OnDone s (λ l. (l ≡ log) × Appends wrote written text) → OnWriteFault s (λ l. (l ≡ log) × (count : ℕ) × Appends wrote written (take count text))
        → ((Written : List ℕ → Type 0) → Written text → P Written log) → OnReport s wrote written P
    reported (status.Done l) P done cut f = subst (P (λ ts. Appends wrote written ts)) (sym done.0) (f (λ ts. Appends wrote written ts) done.1)
    reported (status.WriteFault l) P done cut f = subst (P (λ ts. (count : ℕ) × Appends wrote written (take count ts))) (sym cut.0) (f (λ ts. (count : ℕ) × Appends wrote written (take count ts)) (cut.1, cut.2))
    reported status.BadWords P done cut f = tt
    reported (status.BadScript line) P done cut f = tt
    reported status.ReadFault P done cut f = tt
    reported (status.DiskFault server) P done cut f = tt
    reported status.OutOfMemory P done cut f = tt
    reported (status.TooLong limit) P done cut f = tt
    reported (status.NotAVolume server found) P done cut f = tt
    reported (status.Damaged server place) P done cut f = tt

  -- ---- the bay or the disk ended the run

  pub caused : (s : Status D g) (f : NoReport) (U : Type 0) (P : NoReport → Type 0) → s ≡ ended_by f → P f → OnCutShort s U P
  caused s f U P is p = subst (λ (q : Status D g). OnCutShort q U P) (sym is) (go f p)
    where
      go : (f : NoReport) → P f → OnCutShort (ended_by {D = D} {g = g} f) U P
      go fault.Bay p = inl (refl, p)
      go (fault.Disk server) p = inr p
      go fault.OutOfMemory p = inr p
      go fault.JournalFull p = inr (inl (refl, p))
      go (fault.EpochEnd server) p = inr (inr (refl, server, p))
      go (fault.NotAVolume server found) p = p
      go (fault.Damaged server place) p = p

  -- there were lines then, and no limit is that of a script
  pub had_lines : (s : Status D g) (f : NoReport) (P : ScriptFault → Type 0) → s ≡ ended_by f → OnNoLines s P
  had_lines s f P is = subst (λ (q : Status D g). OnNoLines q P) (sym is) (go f)
    where
      go : (f : NoReport) → OnNoLines (ended_by {D = D} {g = g} f) P
      go fault.JournalFull = λ e. absurd (omega (arith, e))
      go (fault.EpochEnd server) = λ e. absurd (omega (arith, e))
      go f = tt

  -- the run is not over then, a limit is that of a journal or the last epoch, and a disk is that of server 1
  pub not_done : (s : Status D g) (f : NoReport) (P : Log (Kept D g) → Type 0) → s ≡ ended_by f → OnDone s P
  not_done s f P is = subst (λ (q : Status D g). OnDone q P) (sym is) (go f)
    where
      go : (f : NoReport) → OnDone (ended_by {D = D} {g = g} f) P
      go fault.Bay = tt
      go (fault.Disk server) = tt
      go fault.OutOfMemory = tt
      go fault.JournalFull = tt
      go (fault.EpochEnd server) = tt
      go (fault.NotAVolume server found) = tt
      go (fault.Damaged server place) = tt

  pub not_cut : (s : Status D g) (f : NoReport) (P : Log (Kept D g) → Type 0) → s ≡ ended_by f → OnWriteFault s P
  not_cut s f P is = subst (λ (q : Status D g). OnWriteFault q P) (sym is) (go f)
    where
      go : (f : NoReport) → OnWriteFault (ended_by {D = D} {g = g} f) P
      go fault.Bay = tt
      go (fault.Disk server) = tt
      go fault.OutOfMemory = tt
      go fault.JournalFull = tt
      go (fault.EpochEnd server) = tt
      go (fault.NotAVolume server found) = tt
      go (fault.Damaged server place) = tt

  pub not_reported : (s : Status D g) (f : NoReport) (wrote written : Option (List ℕ)) (P : (List ℕ → Type 0) → Log (Kept D g) → Type 0) → s ≡ ended_by f → OnReport s wrote written P
  not_reported s f wrote written P is = subst (λ (q : Status D g). OnReport q wrote written P) (sym is) (go f)
    where
      go : (f : NoReport) → OnReport (ended_by {D = D} {g = g} f) wrote written P
      go fault.Bay = tt
      go (fault.Disk server) = tt
      go fault.OutOfMemory = tt
      go fault.JournalFull = tt
      go (fault.EpochEnd server) = tt
      go (fault.NotAVolume server found) = tt
      go (fault.Damaged server place) = tt

  pub limited : (s : Status D g) (f : NoReport) (words : List (List ℕ)) (old new : Option (List ℕ)) (c : Command) → IsNamedBy words c → (lines : List NumberedLine) → AreToPlay c old new lines → s ≡ ended_by f → IsEndTold lines f → OnTooLong s (IsLimitOf words old new)
  limited s f words old new c named lines script is h = subst (λ (q : Status D g). OnTooLong q (IsLimitOf words old new)) (sym is) (go f h)
    where
      go : (f : NoReport) → IsEndTold lines f → OnTooLong (ended_by {D = D} {g = g} f) (IsLimitOf words old new)
      go fault.Bay h = tt
      go (fault.Disk server) h = tt
      go fault.OutOfMemory h = tt
      go fault.JournalFull h = inr (inl (refl, record { play = record { command = c; named = named; lines = lines; script = script }; ended = h }))
      go (fault.EpochEnd server) h = inr (inr (refl, server, record { command = c; named = named; lines = lines; script = script; is = h }))
      go (fault.NotAVolume server found) h = tt
      go (fault.Damaged server place) h = tt

  -- the bay was asked for disks of lines to play
  pub bay_asked : (s : Status D g) (f : NoReport) (P : Type 0) → s ≡ ended_by f → P → OnBayFault s P
  bay_asked s f P is p = subst (λ (q : Status D g). OnBayFault q P) (sym is) (go f)
    where
      go : (f : NoReport) → OnBayFault (ended_by {D = D} {g = g} f) P
      go fault.Bay = λ e. p
      go (fault.Disk server) = λ e. p
      go fault.OutOfMemory = tt
      go fault.JournalFull = tt
      go (fault.EpochEnd server) = tt
      go (fault.NotAVolume server found) = tt
      go (fault.Damaged server place) = tt

  pub of_declared : (s : Status D g) (f : NoReport) (words : List (List ℕ)) (old new : Option (List ℕ)) (c : Command) → IsNamedBy words c → (lines : List NumberedLine) → AreToPlay c old new lines → s ≡ ended_by f → IsOfServers g (servers_said lines) f → OnBadDisk s (IsDeclared words old new)
  of_declared s f words old new c named lines script is h = subst (λ (q : Status D g). OnBadDisk q (IsDeclared words old new)) (sym is) (go f h)
    where
      go : (f : NoReport) → IsOfServers g (servers_said lines) f → OnBadDisk (ended_by {D = D} {g = g} f) (IsDeclared words old new)
      go fault.Bay h = tt
      go (fault.Disk server) h = tt
      go fault.OutOfMemory h = tt
      go fault.JournalFull h = tt
      go (fault.EpochEnd server) h = tt
      go (fault.NotAVolume server found) h = record { command = c; named = named; lines = lines; script = script; is = h }
      go (fault.Damaged server place) h = record { command = c; named = named; lines = lines; script = script; is = h }

  -- the bay's count of faults
  pub bay_told : (s : Status D g) (f : NoReport) (servers before now : ℕ) → s ≡ ended_by f → IsOfServers g servers f → IsBayFault f before now → IsBayFaultTold s before now
  bay_told s f servers before now is h b = subst (λ (q : Status D g). IsBayFaultTold q before now) (sym is) (go f h b)
    where
      go : (f : NoReport) → IsOfServers g servers f → IsBayFault f before now → IsBayFaultTold (ended_by {D = D} {g = g} f) before now
      go fault.Bay h b = inl (refl, b)
      go (fault.Disk server) h b = inr (h.0.first, b)
      go fault.OutOfMemory h b = b
      go fault.JournalFull h b = b
      go (fault.EpochEnd server) h b = b
      go (fault.NotAVolume server found) h b = b
      go (fault.Damaged server place) h b = b

  -- the other streams failed not
  pub read_well : (s : Status D g) (f : NoReport) (before now : ℕ) → s ≡ ended_by f → now ≡ before → IsReadFaultTold s before now
  read_well s f before now is h = subst (λ (q : Status D g). IsReadFaultTold q before now) (sym is) (go f h)
    where
      go : (f : NoReport) → now ≡ before → IsReadFaultTold (ended_by {D = D} {g = g} f) before now
      go fault.Bay h = h
      go (fault.Disk server) h = h
      go fault.OutOfMemory h = h
      go fault.JournalFull h = h
      go (fault.EpochEnd server) h = h
      go (fault.NotAVolume server found) h = h
      go (fault.Damaged server place) h = h

  pub wrote_well : (s : Status D g) (f : NoReport) (before now : ℕ) → s ≡ ended_by f → now ≡ before → IsWriteFaultTold s before now
  wrote_well s f before now is h = subst (λ (q : Status D g). IsWriteFaultTold q before now) (sym is) (go f h)
    where
      go : (f : NoReport) → now ≡ before → IsWriteFaultTold (ended_by {D = D} {g = g} f) before now
      go fault.Bay h = h
      go (fault.Disk server) h = h
      go fault.OutOfMemory h = h
      go fault.JournalFull h = h
      go (fault.EpochEnd server) h = h
      go (fault.NotAVolume server found) h = h
      go (fault.Damaged server place) h = h

  pub handed_limits : (s : Status D g) (P : ℕ → Type 0) → IsHandedOver s → OnTooLong s P
  handed_limits (status.Done log) P h = tt
  handed_limits (status.WriteFault log) P h = tt
  handed_limits status.BadWords P h = tt
  handed_limits (status.BadScript line) P h = tt
  handed_limits status.ReadFault P h = tt
  handed_limits (status.DiskFault server) P h = tt
  handed_limits status.OutOfMemory P h = tt
  handed_limits (status.TooLong limit) P h = absurd h
  handed_limits (status.NotAVolume server found) P h = tt
  handed_limits (status.Damaged server place) P h = tt

  pub handed_bay : (s : Status D g) (P : Type 0) → IsHandedOver s → OnBayFault s P
  handed_bay (status.Done log) P h = tt
  handed_bay (status.WriteFault log) P h = tt
  handed_bay status.BadWords P h = tt
  handed_bay (status.BadScript line) P h = tt
  handed_bay status.ReadFault P h = tt
  handed_bay (status.DiskFault server) P h = absurd h
  handed_bay status.OutOfMemory P h = tt
  handed_bay (status.TooLong limit) P h = tt
  handed_bay (status.NotAVolume server found) P h = tt
  handed_bay (status.Damaged server place) P h = tt

  pub handed_disk : (s : Status D g) (P : ℕ → Type 0) → IsHandedOver s → OnBadDisk s P
  handed_disk (status.Done log) P h = tt
  handed_disk (status.WriteFault log) P h = tt
  handed_disk status.BadWords P h = tt
  handed_disk (status.BadScript line) P h = tt
  handed_disk status.ReadFault P h = tt
  handed_disk (status.DiskFault server) P h = tt
  handed_disk status.OutOfMemory P h = tt
  handed_disk (status.TooLong limit) P h = tt
  handed_disk (status.NotAVolume server found) P h = absurd h
  handed_disk (status.Damaged server place) P h = absurd h

  pub not_untaken : (s : Status D g) (f : NoReport) (P : Type 0) → s ≡ ended_by f → OnUntaken s P
  not_untaken s f P is = subst (λ (q : Status D g). OnUntaken q P) (sym is) (go f)
    where
      go : (f : NoReport) → OnUntaken (ended_by {D = D} {g = g} f) P
      go fault.JournalFull = λ e. absurd (omega (arith, e))
      go (fault.EpochEnd server) = λ e. absurd (omega (arith, e))
      go f = tt

  -- which folder the bay is left with
  pub folder_left : (s : Status D g) (f : NoReport) (before now named : Option (List ℕ)) → s ≡ ended_by f → IsFolderLeft f before now named → IsFolderTold s before now named
  folder_left s f before now named is h = subst (λ (q : Status D g). IsFolderTold q before now named) (sym is) (go f h)
    where
      go : (f : NoReport) → IsFolderLeft f before now named → IsFolderTold (ended_by {D = D} {g = g} f) before now named
      go fault.Bay h = elim h [ inl chosen ↦ inl chosen | inr kept ↦ inr (refl, kept) ]
      go (fault.Disk server) h = inl h
      go fault.OutOfMemory h = h
      go fault.JournalFull h = inr h
      go (fault.EpochEnd server) h = inr h
      go (fault.NotAVolume server found) h = h
      go (fault.Damaged server place) h = h

  pub handed_folder : (s : Status D g) (before now named : Option (List ℕ)) → IsHandedOver s → now ≡ named → IsFolderTold s before now named
  handed_folder (status.Done log) before now named h same = same
  handed_folder (status.WriteFault log) before now named h same = same
  handed_folder status.BadWords before now named h same = absurd h
  handed_folder (status.BadScript line) before now named h same = absurd h
  handed_folder status.ReadFault before now named h same = absurd h
  handed_folder (status.DiskFault server) before now named h same = absurd h
  handed_folder status.OutOfMemory before now named h same = absurd h
  handed_folder (status.TooLong limit) before now named h same = absurd h
  handed_folder (status.NotAVolume server found) before now named h same = absurd h
  handed_folder (status.Damaged server place) before now named h same = absurd h

  -- a fault of a disk is told where its count rose
  pub disk_counted : (s : Status D g) (f : NoReport) (words : List (List ℕ)) (old new : Option (List ℕ)) (c : Command) → IsNamedBy words c → (lines : List NumberedLine) → AreToPlay c old new lines → s ≡ ended_by f → IsOfServers g (servers_said lines) f
      → OnDiskFault s (λ server. IsDeclared words old new server × (taken : D) × (given : D) × Rose (g.faults taken) (g.faults given))
  disk_counted s f words old new c named lines script is h = subst (λ (q : Status D g). OnDiskFault q (λ server. IsDeclared words old new server × (taken : D) × (given : D) × Rose (g.faults taken) (g.faults given))) (sym is) (go f h)
    where
      go : (f : NoReport) → IsOfServers g (servers_said lines) f → OnDiskFault (ended_by {D = D} {g = g} f) (λ server. IsDeclared words old new server × (taken : D) × (given : D) × Rose (g.faults taken) (g.faults given))
      go fault.Bay h = inl refl
      go (fault.Disk server) h = inr (record { command = c; named = named; lines = lines; script = script; is = h.0 }, h.1, h.2, h.3)
      go fault.OutOfMemory h = tt
      go fault.JournalFull h = tt
      go (fault.EpochEnd server) h = tt
      go (fault.NotAVolume server found) h = tt
      go (fault.Damaged server place) h = tt

  pub handed_counted : (s : Status D g) (P : ℕ → Type 0) → IsHandedOver s → OnDiskFault s P
  handed_counted (status.Done log) P h = tt
  handed_counted (status.WriteFault log) P h = tt
  handed_counted status.BadWords P h = tt
  handed_counted (status.BadScript line) P h = tt
  handed_counted status.ReadFault P h = tt
  handed_counted (status.DiskFault server) P h = absurd h
  handed_counted status.OutOfMemory P h = tt
  handed_counted (status.TooLong limit) P h = tt
  handed_counted (status.NotAVolume server found) P h = tt
  handed_counted (status.Damaged server place) P h = tt

-- ---- the folder that the words name

pub named_folder : (words : List (List ℕ)) (c : Command) → IsNamedBy words c → folder_in c ≡ folder_named words
named_folder words (command.Play folder) h = h.place
named_folder words (command.Drill seed size folder) h = h.place
named_folder words (command.Storm servers clients size seed patience folder) h = h.place

-- an option is none where what is made of it is
none_of : {X Y : Type 0} (f : X → Y) (o : Option X) → option_map f o ≡ None → o ≡ None
none_of f None e = refl
none_of f (Some x) e = cc

-- the words name no folder, and so none is chosen, or the bay tells
pub folder_told : {X Y : Type 0} (f : X → Y) (given : Option X) (named : Option Y) (T : Type 0) → option_map f given ≡ named → (named ≡ None) ⊎ T → (given ≡ None) ⊎ T
folder_told f given named T same (inl none) = inl (none_of f given (same ∙ none))
folder_told f given named T same (inr t) = inr t

-- ---- where nothing fails the script is played

zeros : (n i : ℕ) → i < n → page (replicate n zero_page) i ≡ zero_page
zeros zero i less = absurd (omega (arith, less))
zeros (suc n) zero less = refl
zeros (suc n) (suc i) less = zeros n i (omega (arith, less))

module _ {D : Type 0} {g : Ghosts D} (lines : List NumberedLine) (before after : ℕ → Option D) (starts : StartsOn g lines before after) where
  -- the disk that was taken is new, or one to start on
  startable : (n : ℕ) → IsOneOf (servers_said lines) n → (d : D) (o : Option D) → before n ≡ o → IsTaken g o (pages_of (sizes_said lines n)) d → IsStartable (sizes_said lines n) n (servers_said lines) (g.size d) (g.seen d)
  startable n here d None is new =
      let sizes : Sizes = sizes_said lines n in
      let blank : IsNew sizes (g.size d) (g.seen d) = record {
        size = new.size;
        first = ap (λ (i : Image). page i 0) new.zeros ∙ zeros (pages_of sizes) 0 (omega arith);
        second = ap (λ (i : Image). page i 1) new.zeros ∙ zeros (pages_of sizes) 1 (omega arith);
      } in
      record { volume = λ found why. blank; whole = λ place why. blank; epoch = λ none. blank; notes = λ a held several counts holds own. inl blank }
  startable n here d (Some s) is same = subst (λ (q : D). IsStartable (sizes_said lines n) n (servers_said lines) (g.size q) (g.seen q)) (sym same) ((starts n here).startable s is)

  pub plays_on : (s : Status D g) (f : NoReport) (bay_before bay_after : ℕ) → s ≡ ended_by f → HasRunCause g lines before after bay_before bay_after f → (Rose bay_before bay_after → ⊥) → IsPlayedOrMemory s
  plays_on s f bay_before bay_after is cause still = subst (λ (q : Status D g). IsPlayedOrMemory q) (sym is) (go f cause)
    where
      on : (n : ℕ) → IsOneOf (servers_said lines) n → (d : D) → IsTaken g (before n) (pages_of (sizes_said lines n)) d → IsStartable (sizes_said lines n) n (servers_said lines) (g.size d) (g.seen d)
      on n here d was = startable n here d (before n) refl was

      its : (n : ℕ) → IsOneOf (servers_said lines) n → IsOneOf n n
      its n here = record { first = here.first; last = omega arith }

      go : (f : NoReport) → HasRunCause g lines before after bay_before bay_after f → IsPlayedOrMemory (ended_by {D = D} {g = g} f)
      go fault.Bay x = absurd (still x.3)
      go (fault.Disk n) (inl x) = (let e = x.returned.each n (its n x.among) in let why = e.left.0 refl in absurd ((starts n x.among).unfailed e.taken e.given e.from_there e.there why.rose))
      go (fault.Disk n) (inr (inl x)) = (let e = x.2.1.each n x.2.0 in let why = e.left.1 refl in absurd ((starts n x.2.0).unfailed e.taken e.given e.from_there e.there why.rose))
      go (fault.Disk n) (inr (inr (inl x))) = (let e = x.2.1.each n x.2.0 in let why = e.left.1 refl in absurd ((starts n x.2.0).unfailed e.taken e.given e.from_there e.there why.rose))
      go (fault.Disk n) (inr (inr (inr x))) = (let e = x.2.1.each n x.2.0 in let why = e.left.1 refl in absurd ((starts n x.2.0).unfailed e.taken e.given e.from_there e.there why.1))
      go fault.OutOfMemory x = tt
      go fault.JournalFull x = inl refl
      go (fault.EpochEnd n) (inl x) = (let e = x.returned.each n (its n x.among) in let why = e.left.0 refl in absurd (why.0.old ((on n x.among e.taken e.from_there).epoch why.1)))
      go (fault.EpochEnd n) (inr x) = inr refl
      go (fault.NotAVolume n found) x = (let e = x.returned.each n (its n x.among) in let why = e.left.0 refl in absurd (why.0.old ((on n x.among e.taken e.from_there).volume found why.1)))
      go (fault.Damaged n place) x =
          let e = x.returned.each n (its n x.among) in
          let y = on n x.among e.taken e.from_there in
          elim (e.left.0 refl) [
            | inl why ↦ absurd (why.0.old (y.whole place why.1))
            | inr why ↦ (let w = why.1 in elim (y.notes w.anchor w.held w.several w.counts w.holds w.own) [ inl new ↦ absurd (w.old new) | inr are ↦ absurd (w.apart are) ])
          ]
