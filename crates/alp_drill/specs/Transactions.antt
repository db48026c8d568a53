-- a transaction: where it begins, what it opens, reads and writes, and how it ends
use Rattle.std.specs.Prelude.{ℕ, ◌+◌, ◌-◌, min, ◌==◌, if◌then◌else◌}
use Rattle.std.specs.Prelude.{List, [], ◌∷◌, ◌++◌, slice_index, codes}
use Rattle.std.specs.List.{range_with_len}
use Rattle.std.specs.Fmt.{decimal}
use Rattle.alp_base.specs.declared.choices.Access.TheVariants as access
use Rattle.alp_base.specs.declared.ids.Run.{Run}
use Rattle.alp_modes.specs.declared.Mode.TheVariants as mode
use Rattle.alp_lines.specs.declared.line.FileWord.{FileWord}
use Rattle.alp_lines.specs.declared.line.FileWord.TheVariants as file_word
use Rattle.alp_lines.specs.declared.line.Line.{Line}
use Rattle.alp_lines.specs.declared.line.Line.TheVariants as line
use Rattle.alp_drill.specs.declared.dice.Dice.{Dice}
use Rattle.alp_drill.specs.declared.shape.Turn.{Turn}
use Rattle.alp_drill.specs.Rolls.{roll, in_turn, both}
use Rattle.alp_drill.specs.Shapes.{files_of}
use Rattle.alp_drill.specs.Files.{file_name}

-- `C begin S`
unfoldable pub beginning : Turn → Dice → List Line × Dice
beginning turn dice = let server = roll turn.shape.servers dice in (line.Begin turn.client (1 + server.0) ∷ [], server.1)

-- the text that is written by transaction k of a drill or job: `tk`
abbrev pub text_of : ℕ → List ℕ
text_of k = codes "t" ++ decimal k

-- every other time, by the roll, the pages that were read are written
unfoldable pub writing : Turn → FileWord → Run → Dice → List Line × Dice
writing turn file run dice =
    let side = roll 2 dice in
    (if side.0 == 0 then line.WritePages turn.client file run (text_of turn.number) turn.choice ∷ [] else [], side.1)

-- one of the files is opened, and up to four pages from a place on are read that lie in it
unfoldable pub visit : List ℕ → Turn → Dice → List Line × Dice
visit pages turn dice =
    let place = roll (files_of turn.shape) dice in
    let most = slice_index pages place.0 in
    let first = roll most place.1 in
    let more = roll 4 first.1 in
    let file : FileWord = file_word.Word (file_name place.0) in
    let run : Run = record { first = first.0; count = 1 + min more.0 (most - first.0 - 1) } in
    let written = writing turn file run more.1 in (
      line.OpenFile turn.client file access.Change mode.IntendWrite turn.choice
          ∷ line.ReadPages turn.client file run mode.Read turn.choice
          ∷ written.0,
      written.1,
    )

-- from one to three times
unfoldable pub visits : List ℕ → Turn → Dice → List Line × Dice
visits pages turn dice = let more = roll 3 dice in in_turn (λ n. visit pages turn) (range_with_len 0 (1 + more.0)) more.1

-- one of twenty transactions is given up
unfoldable pub ending : ℕ → Dice → List Line × Dice
ending client dice =
    let side = roll 20 dice in
    (if side.0 == 0 then line.Abort client ∷ [] else line.Commit client ∷ [], side.1)

abbrev pub transaction : List ℕ → Turn → Dice → List Line × Dice
transaction pages turn = both (beginning turn) (both (visits pages turn) (ending turn.client))
