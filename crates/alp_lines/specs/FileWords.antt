-- how words name files
use Rattle.std.specs.Prelude.{ℕ, Bool, false, List, [], ◌∷◌, Option, None, Some, if◌then◌else◌}
use Rattle.alp_base.specs.declared.ids.FileId.{FileId}
use Rattle.alp_tokens.specs.Words.{◌>>=◌, parts_at}
use Rattle.alp_tokens.specs.Numbers.{byte_of, word32_of, are_numerals}
use Rattle.alp_tokens.specs.Names.{name_of}
use Rattle.alp_lines.specs.declared.line.FileWord.{FileWord}
use Rattle.alp_lines.specs.declared.line.FileWord.TheVariants as file_word

-- the id of these three numerals, where they fit
unfoldable pub id_of : List ℕ → List ℕ → List ℕ → Option FileId
id_of server epoch counter = do
  s ← byte_of server
  e ← word32_of epoch
  c ← word32_of counter
  Some (record { server = s; epoch = e; counter = c })

abbrev pub id_word : List ℕ → List ℕ → List ℕ → Option FileWord
id_word server epoch counter = do
  id ← id_of server epoch counter
  Some (file_word.Id id)

abbrev pub name_word : List ℕ → Option FileWord
name_word w = do
  name ← name_of w
  Some (file_word.Word name)

-- the parts between dots have the form of an id
abbrev pub is_id : List (List ℕ) → Bool
is_id (a ∷ b ∷ c ∷ []) = are_numerals a b c
is_id _ = false

abbrev pub id_by : List (List ℕ) → Option FileWord
id_by (a ∷ b ∷ c ∷ []) = id_word a b c
id_by _ = None

-- how a line names a file: what has the form of an id is one, and all else is a name
unfoldable pub file_word_of : List ℕ → Option FileWord
file_word_of w = if is_id (parts_at 46 w) then id_by (parts_at 46 w) else name_word w

abbrev pub word_alone : FileWord → Option (List ℕ)
word_alone (file_word.Word name) = Some name
word_alone (file_word.Id id) = None

-- a file word that is no id
unfoldable pub new_word_of : List ℕ → Option (List ℕ)
new_word_of w = do
  f ← file_word_of w
  word_alone f
