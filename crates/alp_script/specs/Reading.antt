-- a script that is read from a source
use Rattle.std.specs.Prelude.{◌≡◌, ℕ, ◌+◌, ◌<◌, ◌≤◌, List, ◌++◌, length, ◌⊎◌, Option, Some, Result, Ok, Err, Vec}
use Rattle.std.specs.Global.{Global}
use Rattle.std.specs.Io.KnownBytes.{Consumes, IsAtEnd}
use Rattle.alp_base.specs.Causes.{Rose}
use Rattle.alp_script.specs.Script.{script}
use Rattle.alp_script.specs.Progress.{Progress, resume, line_ends, unended}
use Rattle.alp_script.specs.declared.fault.ScriptFault.{ScriptFault}
use Rattle.alp_script.specs.declared.fault.ScriptFault.TheVariants as fault
use Rattle.alp_script.specs.declared.numbered.NumberedLine.{NumberedLine}
use Rattle.alp_script.specs.declared.numbered.TheConstants.{SCRIPT_LINES_MOST}
use Rattle.alp_script.specs.declared.read.TheConstants.{PIECE_BYTES}
use Rattle.alp_tokens.specs.declared.words.TheConstants.{LINE_BYTES}

-- the source gave these bytes, and the script is what the rest makes of the progress
pub record HasRead (old new : Option (List ℕ)) (progress : Progress) : Type 0 where
  pub bytes : List ℕ
  pub consumed : Consumes old new bytes
  pub same : (rest : List ℕ) → script (bytes ++ rest) ≡ resume progress rest
  pub counted : progress.lines ≡ line_ends bytes
  pub whole : progress.lines ≤ SCRIPT_LINES_MOST
  pub held : unended progress.partial ≡ unended bytes
  pub few : length progress.partial ≤ LINE_BYTES + 1

-- no line of these bytes is outside already: the first that is outside comes behind those that end in them, whatever
-- follows, these are not too many, and the one that does not end is not too long
pub record HasNoBadLine (bytes : List ℕ) : Type 0 where
  pub later : (rest : List ℕ) (n : ℕ) → script (bytes ++ rest) ≡ Err (fault.Bad n) → line_ends bytes < n
  pub few : line_ends bytes ≤ SCRIPT_LINES_MOST
  pub short : unended bytes ≤ LINE_BYTES + 1

-- the source gave these bytes and came to its end, and they are the script of these lines
pub record GaveScript (old new : Option (List ℕ)) (lines : List NumberedLine) : Type 0 where
  pub bytes : List ℕ
  pub consumed : Consumes old new bytes
  pub said : script bytes ≡ Ok lines
  pub end : IsAtEnd new

-- the source gave these bytes, with which this is wrong; either that stays so whatever follows, or nothing follows. What was
-- read before the last piece had no line that is outside: nothing is read behind one.
pub record GaveFlaw (old new : Option (List ℕ)) (flaw : ScriptFault) : Type 0 where
  pub front : List ℕ
  pub piece : List ℕ
  pub consumed : Consumes old new (front ++ piece)
  pub good : HasNoBadLine front
  pub once : length piece ≤ PIECE_BYTES
  pub outside : script (front ++ piece) ≡ Err flaw
  pub final : ((rest : List ℕ) → script ((front ++ piece) ++ rest) ≡ Err flaw) ⊎ IsAtEnd new

-- the source gave these bytes, and no line of them is outside already
pub record GaveGoodLines (old new : Option (List ℕ)) : Type 0 where
  pub bytes : List ℕ
  pub consumed : Consumes old new bytes
  pub good : HasNoBadLine bytes

-- what the source has left is a script
pub record SaysScript (has : Option (List ℕ)) : Type 0 where
  pub bytes : List ℕ
  pub lines : List NumberedLine
  pub left : has ≡ Some bytes
  pub said : script bytes ≡ Ok lines

-- what was read of a source that had old and has new
abbrev pub ReadsScript : Option (List ℕ) → Option (List ℕ) → Result (Vec NumberedLine Global) ScriptFault → Type 0
ReadsScript old new (Ok v) = GaveScript old new v.items
ReadsScript old new (Err (fault.Bad n)) = GaveFlaw old new (fault.Bad n)
ReadsScript old new (Err fault.TooLong) = GaveFlaw old new fault.TooLong
ReadsScript old new (Err fault.ReadFault) = GaveGoodLines old new
ReadsScript old new (Err fault.OutOfMemory) = Unit {0}

-- the source's count of faults rose where a fault is answered, and nowhere else
abbrev pub HasReadCause : ℕ → ℕ → Result (Vec NumberedLine Global) ScriptFault → Type 0
HasReadCause before now (Ok v) = now ≡ before
HasReadCause before now (Err (fault.Bad n)) = now ≡ before
HasReadCause before now (Err fault.TooLong) = now ≡ before
HasReadCause before now (Err fault.ReadFault) = Rose before now
HasReadCause before now (Err fault.OutOfMemory) = now ≡ before
