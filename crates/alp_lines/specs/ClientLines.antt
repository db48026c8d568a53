-- what the words of a client's line say, behind the client's number
use Rattle.std.specs.Prelude.{ℕ, List, [], ◌∷◌, codes, Option, None, Some, if◌then◌else◌}
use Rattle.alp_tokens.specs.Words.{◌>>=◌, says}
use Rattle.alp_tokens.specs.Numbers.{word32_of}
use Rattle.alp_tokens.specs.Names.{name_of, list_of, text_of}
use Rattle.alp_lines.specs.FileWords.{file_word_of, new_word_of}
use Rattle.alp_lines.specs.Hex.{hex_of}
use Rattle.alp_lines.specs.Operands.{server_of, run_of, choice_of, access_of, purpose_of, mode_of, page_mode_of, reading_of, change_of}
use Rattle.alp_lines.specs.declared.line.Line.{Line}
use Rattle.alp_lines.specs.declared.line.Line.TheVariants as line

-- ---- transactions

unfoldable pub begin_line : ℕ → List (List ℕ) → Option Line
begin_line client (server ∷ []) = do
  s ← server_of server
  Some (line.Begin client s)
begin_line client _ = None

-- a line that has no words behind its verb
unfoldable pub bare_line : Line → List (List ℕ) → Option Line
bare_line l [] = Some l
bare_line l (w ∷ ws) = None

-- bytes that go to a server as they are
unfoldable pub raw_line : ℕ → List (List ℕ) → Option Line
raw_line client (server ∷ digits ∷ []) = do
  s ← server_of server
  b ← hex_of digits
  Some (line.Raw client s b)
raw_line client _ = None

-- ---- owners

unfoldable pub make_owner_line : ℕ → List (List ℕ) → Option Line
make_owner_line client (server ∷ owner ∷ quota ∷ create ∷ end) = do
  s ← server_of server
  o ← name_of owner
  q ← word32_of quota
  l ← list_of create
  c ← choice_of end
  Some (line.MakeOwner client s o q l c)
make_owner_line client _ = None

unfoldable pub read_owner_line : ℕ → List (List ℕ) → Option Line
read_owner_line client (server ∷ owner ∷ end) = do
  s ← server_of server
  o ← name_of owner
  c ← choice_of end
  Some (line.ReadOwner client s o c)
read_owner_line client _ = None

unfoldable pub quota_line : ℕ → List (List ℕ) → Option Line
quota_line client (server ∷ owner ∷ quota ∷ end) = do
  s ← server_of server
  o ← name_of owner
  q ← word32_of quota
  c ← choice_of end
  Some (line.SetQuota client s o q c)
quota_line client _ = None

-- ---- files

-- a new file of the server
unfoldable pub file_line : ℕ → ℕ → List (List ℕ) → Option Line
file_line client server (word ∷ owner ∷ size ∷ end) = do
  w ← new_word_of word
  o ← name_of owner
  n ← word32_of size
  a ← access_of end
  Some (line.Create client server w o n a.0 a.1 a.2)
file_line client server _ = None

unfoldable pub create_line : ℕ → List (List ℕ) → Option Line
create_line client (server ∷ args) = do
  s ← server_of server
  file_line client s args
create_line client [] = None

unfoldable pub open_line : ℕ → List (List ℕ) → Option Line
open_line client (file ∷ purpose ∷ lock ∷ end) = do
  f ← file_word_of file
  a ← purpose_of purpose
  m ← mode_of lock
  c ← choice_of end
  Some (line.OpenFile client f a m c)
open_line client _ = None

unfoldable pub close_line : ℕ → List (List ℕ) → Option Line
close_line client (file ∷ []) = do
  f ← file_word_of file
  Some (line.CloseFile client f)
close_line client _ = None

unfoldable pub delete_line : ℕ → List (List ℕ) → Option Line
delete_line client (file ∷ end) = do
  f ← file_word_of file
  c ← choice_of end
  Some (line.DeleteFile client f c)
delete_line client [] = None

unfoldable pub write_line : ℕ → List (List ℕ) → Option Line
write_line client (file ∷ first ∷ count ∷ text ∷ end) = do
  f ← file_word_of file
  run ← run_of first count
  t ← text_of text
  c ← choice_of end
  Some (line.WritePages client f run t c)
write_line client _ = None

unfoldable pub read_line : ℕ → List (List ℕ) → Option Line
read_line client (file ∷ first ∷ count ∷ end) = do
  f ← file_word_of file
  run ← run_of first count
  m ← reading_of end
  Some (line.ReadPages client f run m.0 m.1)
read_line client _ = None

unfoldable pub lock_line : ℕ → List (List ℕ) → Option Line
lock_line client (file ∷ first ∷ count ∷ lock ∷ end) = do
  f ← file_word_of file
  run ← run_of first count
  m ← page_mode_of lock
  c ← choice_of end
  Some (line.LockPages client f run m c)
lock_line client _ = None

unfoldable pub size_line : ℕ → List (List ℕ) → Option Line
size_line client (file ∷ size ∷ end) = do
  f ← file_word_of file
  n ← word32_of size
  c ← choice_of end
  Some (line.SetSize client f n c)
size_line client _ = None

-- ---- properties

unfoldable pub props_line : ℕ → List (List ℕ) → Option Line
props_line client (file ∷ []) = do
  f ← file_word_of file
  Some (line.ReadProps client f)
props_line client _ = None

unfoldable pub change_line : ℕ → List (List ℕ) → Option Line
change_line client (file ∷ property ∷ value ∷ end) = do
  f ← file_word_of file
  p ← change_of property value
  c ← choice_of end
  Some (line.WriteProps client f p c)
change_line client _ = None

-- ---- verbs

-- what is to be done with a file that is there
unfoldable pub line_on_file : ℕ → List ℕ → List (List ℕ) → Option Line
line_on_file client verb args =
    if says verb (codes "open") then open_line client args
    else if says verb (codes "close") then close_line client args
    else if says verb (codes "delete") then delete_line client args
    else if says verb (codes "read") then read_line client args
    else if says verb (codes "write") then write_line client args
    else if says verb (codes "lock") then lock_line client args
    else if says verb (codes "size") then size_line client args
    else if says verb (codes "props") then props_line client args
    else if says verb (codes "change") then change_line client args
    else None

-- what a client is to do, by its verb
unfoldable pub line_by_verb : ℕ → List ℕ → List (List ℕ) → Option Line
line_by_verb client verb args =
    if says verb (codes "begin") then begin_line client args
    else if says verb (codes "commit") then bare_line (line.Commit client) args
    else if says verb (codes "abort") then bare_line (line.Abort client) args
    else if says verb (codes "outcome") then bare_line (line.Outcome client) args
    else if says verb (codes "collect") then bare_line (line.Collect client) args
    else if says verb (codes "repeat") then bare_line (line.Repeat client) args
    else if says verb (codes "old") then bare_line (line.Old client) args
    else if says verb (codes "raw") then raw_line client args
    else if says verb (codes "mkowner") then make_owner_line client args
    else if says verb (codes "owner") then read_owner_line client args
    else if says verb (codes "quota") then quota_line client args
    else if says verb (codes "create") then create_line client args
    else line_on_file client verb args
