-- What clients remember: what words stand for, the opens of ids, and their sessions.
use Rattle.std.specs.Prelude.{ℕ, List}
use Rattle.std.specs.FinMap.{FinMap}
use Rattle.std.specs.Ordering.{nat_cmp}
use Rattle.std.specs.Cmp.Lexicographic.{slice_cmp}
use Rattle.std.specs.declared.cmp.Ordering.{Ordering}
use Rattle.alp_base.specs.declared.ids.FileId.{FileId}
use Rattle.alp_base.specs.KeyLaws.{file_cmp}
use Rattle.alp_session.specs.declared.greeted.Greeted.{Greeted}
use Rattle.alp_session.specs.declared.meaning.Meaning.{Meaning}

abbrev pub name_cmp : List ℕ → List ℕ → Ordering
name_cmp = slice_cmp nat_cmp

abbrev pub WordMap : Type 0
WordMap = FinMap name_cmp Meaning

abbrev pub OpenMap : Type 0
OpenMap = FinMap file_cmp ℕ

-- by the numbers of the servers
abbrev pub SessionMap : Type 0
SessionMap = FinMap nat_cmp Greeted
