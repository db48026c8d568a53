-- what the operands of a line say
use Rattle.std.specs.Prelude.{Bool, ◌||◌, ℕ, List, [], ◌∷◌, codes, Option, None, Some, if◌then◌else◌}
use Rattle.alp_base.specs.declared.choices.Access.{Access}
use Rattle.alp_base.specs.declared.choices.Access.TheVariants as access
use Rattle.alp_base.specs.declared.choices.Choice.{Choice}
use Rattle.alp_base.specs.declared.choices.Choice.TheVariants as choice
use Rattle.alp_base.specs.declared.ids.Run.{Run}
use Rattle.alp_base.specs.declared.limits.TheConstants.{SERVERS, CLIENTS}
use Rattle.alp_modes.specs.declared.Mode.{Mode}
use Rattle.alp_modes.specs.declared.Mode.TheVariants as mode
use Rattle.alp_files.specs.declared.call.PropChange.{PropChange}
use Rattle.alp_files.specs.declared.call.PropChange.TheVariants as prop
use Rattle.alp_tokens.specs.Words.{◌>>=◌, when, says}
use Rattle.alp_tokens.specs.Numbers.{within, word16_of, word32_of, word64_of}
use Rattle.alp_tokens.specs.Names.{name_of, list_of}
use Rattle.alp_lines.specs.declared.limits.TheConstants.{RUN_MOST}

abbrev pub server_of : List ℕ → Option ℕ
server_of w = within 1 SERVERS w

abbrev pub client_of : List ℕ → Option ℕ
client_of w = within 1 CLIENTS w

-- pages in a row
unfoldable pub run_of : List ℕ → List ℕ → Option Run
run_of first count = do
  f ← word32_of first
  n ← within 1 RUN_MOST count
  Some (record { first = f; count = n })

-- what the end of a line says is to be done where a lock is in the way: `fail`, as where it says nothing, or `wait`
unfoldable pub choice_of : List (List ℕ) → Option Choice
choice_of [] = Some choice.Fail
choice_of (w ∷ []) = if says w (codes "fail") then Some choice.Fail else when (says w (codes "wait")) choice.Wait
choice_of (w ∷ v ∷ more) = None

-- the access list that lets everyone in
abbrev pub everyone : List (List ℕ)
everyone = codes "World" ∷ []

-- the access list that lets in the owner alone
abbrev pub its_owner : List (List ℕ)
its_owner = codes "Owner" ∷ []

-- the end of a line that creates a file: who may read it and who may change it, everyone and its owner where that is left
-- out, and then the choice
unfoldable pub access_of : List (List ℕ) → Option (List (List ℕ) × List (List ℕ) × Choice)
access_of (read ∷ modify ∷ end) = do
  r ← list_of read
  m ← list_of modify
  c ← choice_of end
  Some (r, m, c)
access_of end = do
  c ← choice_of end
  Some (everyone, its_owner, c)

-- what a file is opened for
unfoldable pub purpose_of : List ℕ → Option Access
purpose_of w =
    if says w (codes "read") then Some access.ReadOnly
    else if says w (codes "change") then Some access.Change
    else None

-- a lock, by the first letters of its name
unfoldable pub mode_of : List ℕ → Option Mode
mode_of w =
    if says w (codes "ir") then Some mode.IntendRead
    else if says w (codes "iw") then Some mode.IntendWrite
    else if says w (codes "r") then Some mode.Read
    else if says w (codes "u") then Some mode.Update
    else if says w (codes "riw") then Some mode.ReadIntendWrite
    else if says w (codes "w") then Some mode.Write
    else None

-- the word says a lock on pages
abbrev pub is_page_mode : List ℕ → Bool
is_page_mode w = says w (codes "r") || says w (codes "u") || says w (codes "w")

-- a lock on pages, which is no intention
unfoldable pub page_mode_of : List ℕ → Option Mode
page_mode_of w =
    if says w (codes "r") then Some mode.Read
    else if says w (codes "u") then Some mode.Update
    else if says w (codes "w") then Some mode.Write
    else None

-- the end of a line that reads pages: the lock on them, `r` where that is left out, and then the choice
unfoldable pub reading_of : List (List ℕ) → Option (Mode × Choice)
reading_of [] = do
  c ← choice_of []
  Some (mode.Read, c)
reading_of (w ∷ end) =
    if is_page_mode w then (page_mode_of w >>= λ m. choice_of end >>= λ c. Some (m, c))
    else (choice_of (w ∷ end) >>= λ c. Some (mode.Read, c))

-- a property of a file and its new value
unfoldable pub change_of : List ℕ → List ℕ → Option PropChange
change_of property value =
    if says property (codes "owner") then (name_of value >>= λ n. Some (prop.Owner n))
    else if says property (codes "name") then (name_of value >>= λ n. Some (prop.Name n))
    else if says property (codes "type") then (word16_of value >>= λ n. Some (prop.TypeNo n))
    else if says property (codes "bytes") then (word64_of value >>= λ n. Some (prop.ByteLength n))
    else if says property (codes "read") then (list_of value >>= λ l. Some (prop.Read l))
    else if says property (codes "modify") then (list_of value >>= λ l. Some (prop.Modify l))
    else None
