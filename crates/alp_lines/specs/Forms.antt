-- the lines that the language has, and what is known of their parts
use Rattle.std.specs.Prelude.{Bool, ℕ, ◌<◌, ◌≤◌, ◌^◌, List, length}
use Rattle.alp_base.specs.declared.choices.Access.{Access}
use Rattle.alp_base.specs.declared.choices.Choice.{Choice}
use Rattle.alp_base.specs.declared.faults.Sizes.{Sizes}
use Rattle.alp_base.specs.declared.ids.Run.{Run}
use Rattle.alp_base.specs.declared.limits.TheConstants.{CLIENTS}
use Rattle.alp_base.specs.declared.lists.TheConstants.{NAMES_PER_LIST}
use Rattle.alp_modes.specs.declared.Mode.{Mode}
use Rattle.alp_modes.specs.declared.Mode.TheVariants as mode
use Rattle.alp_files.specs.declared.call.PropChange.{PropChange}
use Rattle.alp_files.specs.declared.call.PropChange.TheVariants as prop
use Rattle.alp_lines.specs.declared.limits.TheConstants.{PATIENCE_MOST, RUN_MOST, HOME_LEAST, HOME_MOST, AREA_LEAST, AREA_MOST}
use Rattle.alp_lines.specs.declared.line.FileWord.{FileWord}
use Rattle.alp_lines.specs.declared.line.Line.{Line}
use Rattle.alp_lines.specs.declared.line.Line.TheVariants as line
use Rattle.alp_tokens.specs.declared.names.TheConstants.{TEXT_BYTES}

pub record IsRunOfPages (run : Run) : Type 0 where
  pub some : 0 < run.count
  pub few : run.count ≤ RUN_MOST

-- pages are locked in a mode that is no intention
abbrev pub IsPageMode : Mode → Type 0
IsPageMode mode.IntendRead = ⊥
IsPageMode mode.IntendWrite = ⊥
IsPageMode mode.Read = Unit {0}
IsPageMode mode.Update = Unit {0}
IsPageMode mode.ReadIntendWrite = ⊥
IsPageMode mode.Write = Unit {0}

pub record IsText (text : List ℕ) : Type 0 where
  pub some : 0 < length text
  pub short : length text ≤ TEXT_BYTES

-- the sizes are within the limits of a volume
pub record AreInLimits (s : Sizes) : Type 0 where
  pub home_least : HOME_LEAST ≤ s.home
  pub home_most : s.home ≤ HOME_MOST
  pub area_least : AREA_LEAST ≤ s.area
  pub area_most : s.area ≤ AREA_MOST

-- a new value of a property; a list that is one has not too many names
abbrev pub IsChange : PropChange → Type 0
IsChange (prop.Read names) = length names ≤ NAMES_PER_LIST
IsChange (prop.Modify names) = length names ≤ NAMES_PER_LIST
IsChange _ = Unit {0}

pub data IsForm : Line → Type 0 where
  servers : (count : ℕ) → IsForm (line.Servers count)
  volume : (server home area : ℕ) → AreInLimits (record { home = home; area = area }) → IsForm (line.Volume server home area)
  client : (number : ℕ) (name : List ℕ) → IsForm (line.Client number name)
  auto_said : (on : Bool) → IsForm (line.Auto on)
  timeout : (server number : ℕ) → number ≤ CLIENTS → IsForm (line.Timeout server number)
  tick : (server : ℕ) → IsForm (line.Tick server)
  force : (server : ℕ) → IsForm (line.Force server)
  stop : (server calls : ℕ) → calls < 2 ^ 32 → IsForm (line.Stop server calls)
  restart : (server pick : ℕ) → pick < 2 ^ 64 → IsForm (line.Restart server pick)
  settle : IsForm line.Settle
  carry : (from to : ℕ) → IsForm (line.Carry from to)
  lose : (from to : ℕ) → IsForm (line.Lose from to)
  again : (from to : ℕ) → IsForm (line.Again from to)
  patience : (count : ℕ) → 0 < count → count ≤ PATIENCE_MOST → IsForm (line.Patience count)
  begin : (number server : ℕ) → IsForm (line.Begin number server)
  commit : (number : ℕ) → IsForm (line.Commit number)
  abort : (number : ℕ) → IsForm (line.Abort number)
  outcome : (number : ℕ) → IsForm (line.Outcome number)
  collect : (number : ℕ) → IsForm (line.Collect number)
  repeat : (number : ℕ) → IsForm (line.Repeat number)
  old : (number : ℕ) → IsForm (line.Old number)
  raw : (number server : ℕ) (bytes : List ℕ) → 0 < length bytes → IsForm (line.Raw number server bytes)
  owner : (number server : ℕ) (name : List ℕ) (quota : ℕ) (create : List (List ℕ)) (wish : Choice) → length create ≤ NAMES_PER_LIST → IsForm (line.MakeOwner number server name quota create wish)
  read_owner : (number server : ℕ) (name : List ℕ) (wish : Choice) → IsForm (line.ReadOwner number server name wish)
  quota : (number server : ℕ) (name : List ℕ) (quota : ℕ) (wish : Choice) → IsForm (line.SetQuota number server name quota wish)
  create : (number server : ℕ) (word name : List ℕ) (size : ℕ) (read modify : List (List ℕ)) (wish : Choice) → size < 2 ^ 32 → length read ≤ NAMES_PER_LIST → length modify ≤ NAMES_PER_LIST
      → IsForm (line.Create number server word name size read modify wish)
  open_file : (number : ℕ) (file : FileWord) (purpose : Access) (lock : Mode) (wish : Choice) → IsForm (line.OpenFile number file purpose lock wish)
  close : (number : ℕ) (file : FileWord) → IsForm (line.CloseFile number file)
  delete : (number : ℕ) (file : FileWord) (wish : Choice) → IsForm (line.DeleteFile number file wish)
  write : (number : ℕ) (file : FileWord) (run : Run) (text : List ℕ) (wish : Choice) → IsRunOfPages run → IsText text → IsForm (line.WritePages number file run text wish)
  read : (number : ℕ) (file : FileWord) (run : Run) (lock : Mode) (wish : Choice) → IsRunOfPages run → IsPageMode lock → IsForm (line.ReadPages number file run lock wish)
  lock : (number : ℕ) (file : FileWord) (run : Run) (lock : Mode) (wish : Choice) → IsRunOfPages run → IsPageMode lock → IsForm (line.LockPages number file run lock wish)
  size : (number : ℕ) (file : FileWord) (size : ℕ) (wish : Choice) → size < 2 ^ 32 → IsForm (line.SetSize number file size wish)
  props : (number : ℕ) (file : FileWord) → IsForm (line.ReadProps number file)
  change : (number : ℕ) (file : FileWord) (change : PropChange) (wish : Choice) → IsChange change → IsForm (line.WriteProps number file change wish)
