-- which line may come next, by what the lines so far tell
use Rattle.std.specs.Prelude.{ℕ, Bool, true, ◌&&◌, not, ◌==◌, nat_le, List, [], ◌∷◌, ◌++◌, Option, None, Some, if◌then◌else◌}
use Rattle.std.specs.List.{list_any}
use Rattle.std.specs.Ordering.{nat_cmp}
use Rattle.std.specs.Cmp.Lexicographic.{slice_cmp}
use Rattle.std.specs.declared.cmp.Ordering.{Ordering}
use Rattle.std.specs.BTreeMap.{is_at}
use Rattle.std.specs.BTreeSet.{insert_key}
use Rattle.alp_tokens.specs.Words.{when}
use Rattle.alp_lines.specs.Named.{client_named, server_named, receiver_named}
use Rattle.alp_script.specs.Known.{Known, has_servers}
use Rattle.alp_base.specs.declared.limits.TheConstants.{SERVERS, CLIENTS}
use Rattle.alp_lines.specs.declared.line.FileWord.{FileWord}
use Rattle.alp_lines.specs.declared.line.FileWord.TheVariants as file_word
use Rattle.alp_lines.specs.declared.line.Line.{Line}
use Rattle.alp_lines.specs.declared.line.Line.TheVariants as line

-- a server, if any, is one of so many
abbrev pub is_server : ℕ → Option ℕ → Bool
is_server servers None = true
is_server servers (Some n) = nat_le 1 n && nat_le n servers

abbrev pub is_client : Option ℕ → Bool
is_client None = true
is_client (Some n) = nat_le 1 n && nat_le n CLIENTS

-- whom the line names is of a run of so many servers: a client from 1 to the most, and servers from 1 to the last, from which and
-- to which its messages go
unfoldable pub names_ours : ℕ → Line → Bool
names_ours servers l = is_client (client_named l) && is_server servers (server_named l) && is_server servers (receiver_named l)

-- the number is one of these
abbrev pub is_among : List ℕ → ℕ → Bool
is_among numbers n = list_any (λ m. m == n) numbers

abbrev pub is_known : List ℕ → Option ℕ → Bool
is_known clients None = true
is_known clients (Some client) = is_among clients client

-- and the client is declared
unfoldable pub is_declared : Known → Line → Bool
is_declared k l = names_ours k.servers l && is_known k.clients (client_named l)

-- the order of words
abbrev pub word_cmp : List ℕ → List ℕ → Ordering
word_cmp = slice_cmp nat_cmp

-- an id is of one of so many servers
abbrev pub is_of_servers : ℕ → FileWord → Bool
is_of_servers servers (file_word.Word name) = true
is_of_servers servers (file_word.Id id) = is_server servers (Some id.server)

-- a word that a create line bound, or an id of a declared server
abbrev pub is_bound : ℕ → List (List ℕ) → FileWord → Bool
is_bound servers words (file_word.Word name) = list_any (is_at (word_cmp name)) words
is_bound servers words (file_word.Id id) = is_server servers (Some id.server)

-- the servers are declared first and once, and there are 1 to 8
unfoldable pub after_servers : Known → ℕ → Option Known
after_servers k count = when (not (has_servers k) && is_server SERVERS (Some count)) (record k { servers = count })

-- a setting, or what happens at a server, stands anywhere behind the servers
unfoldable pub after_setting : Known → Option Known
after_setting k = when (has_servers k) k

-- a client may time out at any server, wherever both are declared
unfoldable pub after_timeout : Known → ℕ → Option Known
after_timeout k client = when (has_servers k && is_among k.clients client) k

-- a client, of whatever principal, is declared once and before the first line of a client
unfoldable pub after_client : Known → ℕ → Option Known
after_client k client = when (has_servers k && not k.begun && not (is_among k.clients client)) (record k { clients = k.clients ++ client ∷ [] })

-- the sizes of a volume, maybe again, are said before the first line of a client
unfoldable pub after_volume : Known → Option Known
after_volume k = when (has_servers k && not k.begun) k

-- a line of a client stands anywhere behind its declaration
abbrev pub after_call : Known → Known
after_call k = record k { begun = true }

-- a create line binds its word, maybe again
abbrev pub after_create : Known → List ℕ → Known
after_create k word = record k { begun = true; words = insert_key word_cmp k.words word }

-- a line on a file names a bound word or an id
unfoldable pub after_file : Known → FileWord → Option Known
after_file k file = when (is_bound k.servers k.words file) (after_call k)

unfoldable pub after : Known → Line → Option Known
after k (line.Servers count) = after_servers k count
after k (line.Volume server home area) = after_volume k
after k (line.Client client name) = after_client k client
after k (line.Patience count) = after_setting k
after k (line.Auto on) = after_setting k
after k (line.Carry from to) = after_setting k
after k (line.Lose from to) = after_setting k
after k (line.Again from to) = after_setting k
after k (line.Tick server) = after_setting k
after k (line.Force server) = after_setting k
after k (line.Timeout server client) = after_timeout k client
after k (line.Stop server calls) = after_setting k
after k (line.Restart server pick) = after_setting k
after k line.Settle = after_setting k
after k (line.Begin client server) = Some (after_call k)
after k (line.Commit client) = Some (after_call k)
after k (line.Abort client) = Some (after_call k)
after k (line.Outcome client) = Some (after_call k)
after k (line.Collect client) = Some (after_call k)
after k (line.Repeat client) = Some (after_call k)
after k (line.Old client) = Some (after_call k)
after k (line.Raw client server bytes) = Some (after_call k)
after k (line.Create client server word owner size read modify choice) = Some (after_create k word)
after k (line.OpenFile client file access mode choice) = after_file k file
after k (line.CloseFile client file) = after_file k file
after k (line.DeleteFile client file choice) = after_file k file
after k (line.ReadPages client file run mode choice) = after_file k file
after k (line.WritePages client file run text choice) = after_file k file
after k (line.LockPages client file run mode choice) = after_file k file
after k (line.SetSize client file size choice) = after_file k file
after k (line.ReadProps client file) = after_file k file
after k (line.WriteProps client file change choice) = after_file k file
after k (line.ReadOwner client server owner choice) = Some (after_call k)
after k (line.MakeOwner client server owner quota create choice) = Some (after_call k)
after k (line.SetQuota client server owner quota choice) = Some (after_call k)

-- what is known after a line, where the line may stand
unfoldable pub next : Known → Line → Option Known
next k l = if is_declared k l then after k l else None
