-- lines that are computed: what the definitions say of each form
use Rattle.std.specs.Prelude.{codes, None, Some}
use Rattle.std.proofs.Common.{◌≡◌, ℕ, List, [], ◌∷◌, false, refl}
use Rattle.alp_lines.specs.Hex.{hex_of}
use Rattle.alp_base.specs.declared.choices.Access.TheVariants as access
use Rattle.alp_base.specs.declared.choices.Choice.TheVariants as choice
use Rattle.alp_base.specs.declared.ids.FileId.{FileId}
use Rattle.alp_modes.specs.declared.Mode.TheVariants as mode
use Rattle.alp_files.specs.declared.call.PropChange.{PropChange}
use Rattle.alp_files.specs.declared.call.PropChange.TheVariants as prop
use Rattle.alp_tokens.specs.Words.{words_of}
use Rattle.alp_tokens.specs.Numbers.{number_of, within}
use Rattle.alp_tokens.specs.Names.{name_of, names_of, list_of}
use Rattle.alp_lines.specs.FileWords.{id_of, file_word_of, new_word_of}
use Rattle.alp_lines.specs.Operands.{run_of, choice_of, access_of, purpose_of, mode_of, page_mode_of, reading_of, change_of}
use Rattle.alp_lines.specs.ClientLines.{bare_line, raw_line, make_owner_line, read_owner_line, quota_line, file_line, create_line, open_line, close_line, delete_line, read_line, lock_line, size_line, props_line, change_line, line_on_file, line_by_verb}
use Rattle.alp_lines.specs.EventLines.{one_server, two_servers, tick_line, timeout_line, stop_line, restart_line, carry_line, again_line}
use Rattle.alp_lines.specs.Grammar.{text_said, auto_line, line_of_client, event_by, line_by, line_said}
use Rattle.alp_lines.specs.declared.line.FileWord.TheVariants as file_word
use Rattle.alp_lines.specs.declared.line.Line.{Line}
use Rattle.alp_lines.specs.declared.line.Line.TheVariants as line

-- the text says just this line
abbrev Says : List ℕ → Line → Type 0
Says text l = text_said text ≡ Some (Some l)

-- and this one is outside
abbrev IsOutside : List ℕ → Type 0
IsOutside text = text_said text ≡ None

file : FileId
file = record { server = 1; epoch = 2; counter = 3 }

-- ---- new files

without_lists : Says (codes "1 create 1 A ann 70000") (line.Create 1 1 (codes "A") (codes "ann") 70000 (codes "World" ∷ []) (codes "Owner" ∷ []) choice.Fail)
unfolding text_said line_said words_of line_by event_by line_of_client line_by_verb create_line file_line access_of choice_of within number_of name_of file_word_of new_word_of
without_lists = refl

with_lists : Says (codes "1 create 1 A ann 1 - eve,Owner fail") (line.Create 1 1 (codes "A") (codes "ann") 1 [] (codes "eve" ∷ codes "Owner" ∷ []) choice.Fail)
unfolding text_said line_said words_of line_by event_by line_of_client line_by_verb create_line file_line access_of list_of names_of choice_of within number_of name_of file_word_of new_word_of
with_lists = refl

one_list : IsOutside (codes "1 create 1 A ann 1 World")
unfolding text_said line_said words_of line_by event_by line_of_client line_by_verb create_line file_line access_of choice_of within number_of name_of file_word_of new_word_of
one_list = refl

-- ---- files

close : Says (codes "1 close A") (line.CloseFile 1 (file_word.Word (codes "A")))
unfolding text_said line_said words_of line_by event_by line_of_client line_by_verb line_on_file close_line within number_of name_of file_word_of
close = refl

delete : Says (codes "1 delete 1.2.3 fail") (line.DeleteFile 1 (file_word.Id file) choice.Fail)
unfolding file text_said line_said words_of line_by event_by line_of_client line_by_verb line_on_file delete_line choice_of within number_of id_of file_word_of
delete = refl

size : Says (codes "1 size A 4294967295") (line.SetSize 1 (file_word.Word (codes "A")) 4294967295 choice.Fail)
unfolding text_said line_said words_of line_by event_by line_of_client line_by_verb line_on_file size_line choice_of within number_of name_of file_word_of
size = refl

props : Says (codes "1 props A") (line.ReadProps 1 (file_word.Word (codes "A")))
unfolding text_said line_said words_of line_by event_by line_of_client line_by_verb line_on_file props_line within number_of name_of file_word_of
props = refl

-- ---- locks

intends : Says (codes "1 open A change iw fail") (line.OpenFile 1 (file_word.Word (codes "A")) access.Change mode.IntendWrite choice.Fail)
unfolding text_said line_said words_of line_by event_by line_of_client line_by_verb line_on_file open_line purpose_of mode_of choice_of within number_of name_of file_word_of
intends = refl

reads : Says (codes "1 read A 7 255") (line.ReadPages 1 (file_word.Word (codes "A")) (record { first = 7; count = 255 }) mode.Read choice.Fail)
unfolding text_said line_said words_of line_by event_by line_of_client line_by_verb line_on_file read_line reading_of run_of choice_of within number_of name_of file_word_of
reads = refl

updates : Says (codes "1 read A 7 255 u fail") (line.ReadPages 1 (file_word.Word (codes "A")) (record { first = 7; count = 255 }) mode.Update choice.Fail)
unfolding text_said line_said words_of line_by event_by line_of_client line_by_verb line_on_file read_line page_mode_of reading_of run_of choice_of within number_of name_of file_word_of
updates = refl

locks : Says (codes "1 lock A 0 1 w") (line.LockPages 1 (file_word.Word (codes "A")) (record { first = 0; count = 1 }) mode.Write choice.Fail)
unfolding text_said line_said words_of line_by event_by line_of_client line_by_verb line_on_file lock_line page_mode_of run_of choice_of within number_of name_of file_word_of
locks = refl

long_run : IsOutside (codes "1 lock A 0 256 r")
unfolding text_said line_said words_of line_by event_by line_of_client line_by_verb line_on_file lock_line page_mode_of run_of within number_of name_of file_word_of
long_run = refl

intention_on_pages : IsOutside (codes "1 lock A 0 1 iw")
unfolding text_said line_said words_of line_by event_by line_of_client line_by_verb line_on_file lock_line page_mode_of run_of within number_of name_of file_word_of
intention_on_pages = refl

-- ---- properties

abbrev changes : PropChange → Line
changes change = line.WriteProps 2 (file_word.Word (codes "A")) change choice.Fail

owner : Says (codes "2 change A owner eve") (changes (prop.Owner (codes "eve")))
unfolding text_said line_said words_of line_by event_by line_of_client line_by_verb line_on_file change_line change_of choice_of within number_of name_of file_word_of
owner = refl

name : Says (codes "2 change A name a.txt fail") (changes (prop.Name (codes "a.txt")))
unfolding text_said line_said words_of line_by event_by line_of_client line_by_verb line_on_file change_line change_of choice_of within number_of name_of file_word_of
name = refl

type_no : Says (codes "2 change A type 65535") (changes (prop.TypeNo 65535))
unfolding text_said line_said words_of line_by event_by line_of_client line_by_verb line_on_file change_line change_of choice_of within number_of name_of file_word_of
type_no = refl

byte_length : Says (codes "2 change A bytes 18446744073709551615") (changes (prop.ByteLength 18446744073709551615))
unfolding text_said line_said words_of line_by event_by line_of_client line_by_verb line_on_file change_line change_of choice_of within number_of name_of file_word_of
byte_length = refl

nobody : Says (codes "2 change A read -") (changes (prop.Read []))
unfolding text_said line_said words_of line_by event_by line_of_client line_by_verb line_on_file change_line change_of list_of choice_of within number_of name_of file_word_of
nobody = refl

two_names : Says (codes "2 change A modify World,ann") (changes (prop.Modify (codes "World" ∷ codes "ann" ∷ [])))
unfolding text_said line_said words_of line_by event_by line_of_client line_by_verb line_on_file change_line change_of list_of names_of choice_of within number_of name_of file_word_of
two_names = refl

-- ---- owners

four_names : Says (codes "3 mkowner 1 ann 10 ann,eve,World,Owner") (line.MakeOwner 3 1 (codes "ann") 10 (codes "ann" ∷ codes "eve" ∷ codes "World" ∷ codes "Owner" ∷ []) choice.Fail)
unfolding text_said line_said words_of line_by event_by line_of_client line_by_verb make_owner_line list_of names_of choice_of within number_of name_of
four_names = refl

five_names : IsOutside (codes "3 mkowner 1 ann 10 a,b,c,d,e")
unfolding text_said line_said words_of line_by event_by line_of_client line_by_verb make_owner_line list_of names_of within number_of name_of
five_names = refl

read_owner : Says (codes "3 owner 1 ann fail") (line.ReadOwner 3 1 (codes "ann") choice.Fail)
unfolding text_said line_said words_of line_by event_by line_of_client line_by_verb read_owner_line choice_of within number_of name_of
read_owner = refl

quota : Says (codes "3 quota 1 ann 0") (line.SetQuota 3 1 (codes "ann") 0 choice.Fail)
unfolding text_said line_said words_of line_by event_by line_of_client line_by_verb quota_line choice_of within number_of name_of
quota = refl

-- ---- waiting

waits : Says (codes "1 read A 7 1 w wait") (line.ReadPages 1 (file_word.Word (codes "A")) (record { first = 7; count = 1 }) mode.Write choice.Wait)
unfolding text_said line_said words_of line_by event_by line_of_client line_by_verb line_on_file read_line page_mode_of reading_of run_of choice_of within number_of name_of file_word_of
waits = refl

collect : Says (codes "3 collect") (line.Collect 3)
unfolding text_said line_said words_of line_by event_by line_of_client line_by_verb bare_line within number_of
collect = refl

timeout : Says (codes "timeout 1 3") (line.Timeout 1 3)
unfolding text_said line_said words_of line_by event_by timeout_line within number_of
timeout = refl

auto_off : Says (codes "auto off") (line.Auto false)
unfolding text_said line_said words_of line_by auto_line
auto_off = refl

-- ---- frames sent again

repeat : Says (codes "3 repeat") (line.Repeat 3)
unfolding text_said line_said words_of line_by event_by line_of_client line_by_verb bare_line within number_of
repeat = refl

old : Says (codes "16  old") (line.Old 16)
unfolding text_said line_said words_of line_by event_by line_of_client line_by_verb bare_line within number_of
old = refl

repeat_number : IsOutside (codes "3 repeat 1")
unfolding text_said line_said words_of line_by event_by line_of_client line_by_verb bare_line within number_of
repeat_number = refl

-- ---- stops, restarts and messages

tick : Says (codes "tick 1") (line.Tick 1)
unfolding text_said line_said words_of line_by event_by one_server tick_line within number_of
tick = refl

stop : Says (codes "stop 1 300") (line.Stop 1 300)
unfolding text_said line_said words_of line_by event_by stop_line within number_of
stop = refl

stop_past_its_field : IsOutside (codes "stop 1 4294967296")
unfolding text_said line_said words_of line_by event_by stop_line within number_of
stop_past_its_field = refl

restart : Says (codes "restart 8 18446744073709551615") (line.Restart 8 18446744073709551615)
unfolding text_said line_said words_of line_by event_by restart_line within number_of
restart = refl

settle : Says (codes "settle") line.Settle
unfolding text_said line_said words_of line_by event_by bare_line
settle = refl

settle_server : IsOutside (codes "settle 1")
unfolding text_said line_said words_of line_by event_by bare_line
settle_server = refl

carry : Says (codes "carry 1 2") (line.Carry 1 2)
unfolding text_said line_said words_of line_by event_by two_servers carry_line within number_of
carry = refl

again_alone : IsOutside (codes "again 1")
unfolding text_said line_said words_of line_by event_by two_servers again_line within number_of
again_alone = refl

-- ---- outcomes, and bytes as they are

outcome : Says (codes "3 outcome") (line.Outcome 3)
unfolding text_said line_said words_of line_by event_by line_of_client line_by_verb bare_line within number_of
outcome = refl

raw : Says (codes "3 raw 1 00ff9a") (line.Raw 3 1 (0 ∷ 255 ∷ 154 ∷ []))
unfolding text_said line_said words_of line_by event_by line_of_client line_by_verb raw_line hex_of within number_of
raw = refl

raw_odd : IsOutside (codes "3 raw 1 00f")
unfolding text_said line_said words_of line_by event_by line_of_client line_by_verb raw_line hex_of within number_of
raw_odd = refl

raw_capital : IsOutside (codes "3 raw 1 0F")
unfolding text_said line_said words_of line_by event_by line_of_client line_by_verb raw_line hex_of within number_of
raw_capital = refl
