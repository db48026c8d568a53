-- What is regained of some of the notes.
use Rattle.std.specs.Prelude.{ℕ, Bool, ◌&&◌, nat_le, List}
use Rattle.std.specs.List.{list_all}
use Rattle.alp_files.specs.Cells.{Cells}
use Rattle.alp_journal.specs.Opening.{ReadyNote}
use Rattle.alp_regain.specs.Named.{is_drawn_by, is_mode_on, is_own_resource, is_own_edit}
use Rattle.alp_regain.specs.Together.{AreApart}
use Rattle.alp_regain.specs.Regained.{ArePartsOf, AreLocksOf}
use Rattle.alp_regain.specs.declared.parts.Lives.{Lives}

-- what a note says of a part by itself, but for what its locks come to and what its change does
abbrev pub is_plain : (server epoch : ℕ) → ReadyNote → Bool
is_plain server epoch n =
    list_all (λ l. is_mode_on l.0 l.1) n.locks
    && (list_all (λ l. is_own_resource server epoch l.0) n.locks
    && (list_all (is_own_edit server epoch) n.edits
    && (is_drawn_by epoch n.join.epoch n.join.counter && (nat_le 1 n.client && nat_le n.client 16))))

-- the parts of these notes are live, with their locks
pub record IsSoFar (tells : Bool) (m : Cells) (server epoch : ℕ) (l : Lives) (done : List ReadyNote) : Type 0 where
  pub parts : ArePartsOf tells m server epoch l.parts.items done
  pub locks : AreLocksOf l.locks done
  pub apart : AreApart done
