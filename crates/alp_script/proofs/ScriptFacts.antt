-- scripts that are computed: what the definitions say of the first path and of some bad lines
use Rattle.std.specs.Prelude.{codes, Ok, Err}
use Rattle.std.proofs.Common.{◌≡◌, ℕ, List, [], ◌∷◌, ◌++◌, refl}
use Rattle.alp_base.specs.declared.choices.Access.TheVariants as access
use Rattle.alp_base.specs.declared.choices.Choice.TheVariants as choice
use Rattle.alp_modes.specs.declared.Mode.TheVariants as mode
use Rattle.alp_tokens.specs.Words.{words_of}
use Rattle.alp_tokens.specs.Numbers.{number_of, within}
use Rattle.alp_tokens.specs.Names.{name_of, names_of, list_of, text_of}
use Rattle.alp_lines.specs.FileWords.{id_of, file_word_of, new_word_of}
use Rattle.alp_lines.specs.Operands.{run_of, choice_of, access_of, purpose_of, mode_of, reading_of}
use Rattle.alp_lines.specs.ClientLines.{begin_line, bare_line, make_owner_line, file_line, create_line, open_line, write_line, read_line, line_on_file, line_by_verb}
use Rattle.alp_lines.specs.Grammar.{text_said, servers_line, client_line, patience_line, line_of_client, event_by, line_by, line_said}
use Rattle.alp_lines.specs.Named.{client_named, server_named, receiver_named}
use Rattle.alp_script.specs.Order.{after_servers, after_setting, after_client, after_file, after, names_ours, is_declared, next}
use Rattle.alp_script.specs.Script.{flaw_at, read_at, script}
use Rattle.alp_lines.specs.declared.line.FileWord.TheVariants as file_word
use Rattle.alp_lines.specs.declared.line.Line.{Line}
use Rattle.alp_lines.specs.declared.line.Line.TheVariants as line
use Rattle.alp_script.specs.declared.fault.ScriptFault.TheVariants as fault
use Rattle.alp_script.specs.declared.numbered.NumberedLine.{NumberedLine}

abbrev line_end : List ℕ
line_end = 10 ∷ []

one_line : script (codes "servers 1") ≡ Ok (record { number = 1; line = line.Servers 1 } ∷ [])
unfolding script read_at text_said line_said words_of line_by servers_line within number_of next is_declared names_ours client_named server_named receiver_named after after_servers
one_line = refl

no_line : script [] ≡ Err (fault.Bad 1)
unfolding script
no_line = refl

second_servers : script (codes "servers 1" ++ line_end ++ codes "servers 1" ++ line_end) ≡ Err (fault.Bad 2)
unfolding script flaw_at read_at text_said line_said words_of line_by servers_line within number_of next is_declared names_ours client_named server_named receiver_named after after_servers
second_servers = refl

-- an empty line and a comment say nothing
skipped_lines : script (line_end ++ codes "# servers 2" ++ line_end ++ codes "servers 1") ≡ Ok (record { number = 3; line = line.Servers 1 } ∷ [])
unfolding script read_at text_said line_said words_of line_by servers_line within number_of next is_declared names_ours client_named server_named receiver_named after after_servers
skipped_lines = refl

leading_zero : script (codes "servers 01" ++ line_end) ≡ Err (fault.Bad 1)
unfolding script flaw_at read_at text_said line_said words_of line_by servers_line within number_of
leading_zero = refl

abbrev world : List (List ℕ)
world = codes "World" ∷ []

abbrev numbered : ℕ → Line → NumberedLine
numbered n l = record { number = n; line = l }

-- the script of the first path
whole_path : script (codes "servers 1" ++ line_end ++ codes "client 1 Admin" ++ 13 ∷ line_end ++ codes "1 begin 1" ++ line_end
    ++ codes "1 mkowner 1 ann 10 World" ++ line_end ++ codes "1 create 1 A ann 4 World World" ++ line_end
    ++ codes "1 write A 0 1 hello" ++ line_end ++ codes "1 read A 0 2" ++ line_end ++ codes "1 commit")
    ≡ Ok (
    numbered 1 (line.Servers 1)
    ∷ numbered 2 (line.Client 1 (codes "Admin"))
    ∷ numbered 3 (line.Begin 1 1)
    ∷ numbered 4 (line.MakeOwner 1 1 (codes "ann") 10 world choice.Fail)
    ∷ numbered 5 (line.Create 1 1 (codes "A") (codes "ann") 4 world world choice.Fail)
    ∷ numbered 6 (line.WritePages 1 (file_word.Word (codes "A")) (record { first = 0; count = 1 }) (codes "hello") choice.Fail)
    ∷ numbered 7 (line.ReadPages 1 (file_word.Word (codes "A")) (record { first = 0; count = 2 }) mode.Read choice.Fail)
    ∷ numbered 8 (line.Commit 1)
    ∷ []
    )
unfolding script read_at text_said line_said words_of line_by servers_line client_line event_by line_of_client line_by_verb begin_line make_owner_line create_line file_line line_on_file write_line read_line bare_line access_of reading_of list_of names_of choice_of run_of within number_of name_of text_of id_of file_word_of new_word_of next is_declared names_ours client_named server_named receiver_named after after_servers after_client after_file
whole_path = refl

-- patience, and a principal of another name
patience : script (codes "servers 1" ++ line_end ++ codes "client 2 ann" ++ line_end ++ codes "2 begin 1" ++ line_end ++ codes "patience 3")
    ≡ Ok (numbered 1 (line.Servers 1) ∷ numbered 2 (line.Client 2 (codes "ann")) ∷ numbered 3 (line.Begin 2 1) ∷ numbered 4 (line.Patience 3) ∷ [])
unfolding script read_at text_said line_said words_of line_by servers_line client_line patience_line event_by line_of_client line_by_verb begin_line within number_of name_of next is_declared names_ours client_named server_named receiver_named after after_servers after_setting after_client
patience = refl

-- lines of two clients, of which one opens the file that the other made
two_clients : script (codes "servers 1" ++ line_end ++ codes "client 16 Admin" ++ line_end ++ codes "client 1 Admin" ++ line_end
    ++ codes "1 create 1 A ann 4 World World" ++ line_end ++ codes "16 open A read r" ++ line_end
    ++ codes "1 open 1.0.7 change w" ++ line_end ++ codes "16 abort" ++ line_end)
    ≡ Ok (
    numbered 1 (line.Servers 1)
    ∷ numbered 2 (line.Client 16 (codes "Admin"))
    ∷ numbered 3 (line.Client 1 (codes "Admin"))
    ∷ numbered 4 (line.Create 1 1 (codes "A") (codes "ann") 4 world world choice.Fail)
    ∷ numbered 5 (line.OpenFile 16 (file_word.Word (codes "A")) access.ReadOnly mode.Read choice.Fail)
    ∷ numbered 6 (line.OpenFile 1 (file_word.Id (record { server = 1; epoch = 0; counter = 7 })) access.Change mode.Write choice.Fail)
    ∷ numbered 7 (line.Abort 16)
    ∷ []
    )
unfolding script read_at text_said line_said words_of line_by servers_line client_line event_by line_of_client line_by_verb create_line file_line line_on_file purpose_of mode_of open_line bare_line access_of list_of names_of choice_of within number_of name_of id_of file_word_of new_word_of next is_declared names_ours client_named server_named receiver_named after after_servers after_client after_file
two_clients = refl

-- lines of several servers, of which one opens a file by an id
several_servers : script (codes "servers 2" ++ line_end ++ codes "client 1 Admin" ++ line_end ++ codes "1 begin 2" ++ line_end ++ codes "1 open 2.1.7 read r" ++ line_end)
    ≡ Ok (
    numbered 1 (line.Servers 2)
    ∷ numbered 2 (line.Client 1 (codes "Admin"))
    ∷ numbered 3 (line.Begin 1 2)
    ∷ numbered 4 (line.OpenFile 1 (file_word.Id (record { server = 2; epoch = 1; counter = 7 })) access.ReadOnly mode.Read choice.Fail)
    ∷ []
    )
unfolding script read_at text_said line_said words_of line_by servers_line client_line event_by line_of_client line_by_verb begin_line line_on_file purpose_of mode_of open_line choice_of within number_of name_of id_of file_word_of next is_declared names_ours client_named server_named receiver_named after after_servers after_client after_file
several_servers = refl

undeclared_server : script (codes "servers 2" ++ line_end ++ codes "client 1 Admin" ++ line_end ++ codes "1 begin 3") ≡ Err (fault.Bad 3)
unfolding script flaw_at read_at text_said line_said words_of line_by servers_line client_line event_by line_of_client line_by_verb begin_line within number_of name_of next is_declared names_ours client_named server_named receiver_named after after_servers after_client
undeclared_server = refl

undeclared_id : script (codes "servers 2" ++ line_end ++ codes "client 1 Admin" ++ line_end ++ codes "1 open 3.1.7 read r") ≡ Err (fault.Bad 3)
unfolding script flaw_at read_at text_said line_said words_of line_by servers_line client_line event_by line_of_client line_by_verb line_on_file purpose_of mode_of open_line choice_of within number_of name_of id_of file_word_of next is_declared names_ours client_named server_named receiver_named after after_servers after_client after_file
undeclared_id = refl

late_declaration : script (codes "servers 1" ++ line_end ++ codes "client 1 Admin" ++ line_end ++ codes "1 begin 1" ++ line_end ++ codes "client 2 Admin" ++ line_end) ≡ Err (fault.Bad 4)
unfolding script flaw_at read_at text_said line_said words_of line_by servers_line client_line event_by line_of_client line_by_verb begin_line within number_of name_of next is_declared names_ours client_named server_named receiver_named after after_servers after_client
late_declaration = refl

undeclared_client : script (codes "servers 1" ++ line_end ++ codes "client 1 Admin" ++ line_end ++ codes "2 begin 1") ≡ Err (fault.Bad 3)
unfolding script flaw_at read_at text_said line_said words_of line_by servers_line client_line event_by line_of_client line_by_verb begin_line within number_of name_of next is_declared names_ours client_named server_named receiver_named after after_servers after_client
undeclared_client = refl
