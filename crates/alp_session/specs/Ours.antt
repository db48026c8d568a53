-- The servers that clients speak of are those of the run.
use Rattle.std.specs.Prelude.{◌≡◌, ℕ, ◌≤◌, List, Option, None, Some, IfSome}
use Rattle.std.specs.List.{AllByRecursion}
use Rattle.std.specs.FinMap as map
use Rattle.alp_base.specs.declared.ids.TransId.{TransId}
use Rattle.alp_files.specs.declared.reply.Reply.{Reply}
use Rattle.alp_files.specs.declared.reply.Reply.TheVariants as reply
use Rattle.alp_lines.specs.declared.line.FileWord.{FileWord}
use Rattle.alp_lines.specs.declared.line.FileWord.TheVariants as file_word
use Rattle.alp_lines.specs.declared.line.Line.{Line}
use Rattle.alp_lines.specs.declared.line.Line.TheVariants as line
use Rattle.alp_session.specs.Maps.{WordMap}
use Rattle.alp_session.specs.Clients.{meant}
use Rattle.alp_session.specs.Crowd.{Crowd}
use Rattle.alp_session.specs.Crowds.{client_at}
use Rattle.alp_session.specs.declared.client.Client.{Client}
use Rattle.alp_session.specs.declared.frames.Addressed.{Addressed}
use Rattle.alp_session.specs.declared.waiting.Waiting.{Waiting}

-- one of so many servers
abbrev pub IsServer : ℕ → ℕ → Type 0
IsServer n server = (1 ≤ server) × (server ≤ n)

-- a transaction that one of them began
abbrev pub BeganThere : ℕ → TransId → Type 0
BeganThere n t = IsServer n t.server

abbrev pub GoesThere : ℕ → Addressed → Type 0
GoesThere n f = IsServer n f.server

abbrev pub WaitsThere : ℕ → Waiting → Type 0
WaitsThere n w = IsServer n w.server

-- words stand for files of these servers
abbrev pub AreWordsOf : ℕ → WordMap → Type 0
AreWordsOf n words = (name : List ℕ) → IsServer n (meant (map.get words name)).server

-- a client's transactions are of them, its calls wait at them, and its frames went to them
abbrev pub IsClientOf : ℕ → Client → Type 0
IsClientOf n c =
    IfSome c.trans (BeganThere n) × IfSome c.begun (BeganThere n) × AllByRecursion (WaitsThere n) c.waiting
    × IfSome c.frames.last (GoesThere n) × IfSome c.frames.before (GoesThere n)

-- all clients, and what words stand for
pub record IsCrowdOf (n : ℕ) (c : Crowd) : Type 0 where
  pub words : AreWordsOf n c.words
  pub each : (k : ℕ) → IsClientOf n (client_at c k)

-- the ids that a reply gives are of them: so are those of each server of the run
abbrev pub GivesOf : ℕ → Reply → Type 0
GivesOf n (reply.Begun t) = IsServer n t.server
GivesOf n (reply.Created f open_no) = IsServer n f.server
GivesOf n r = Unit {0}

abbrev pub IsFileOf : ℕ → FileWord → Type 0
IsFileOf n (file_word.Word name) = Unit {0}
IsFileOf n (file_word.Id id) = IsServer n id.server

-- the servers that a client's line names are of them, also by an id
abbrev pub SpeaksOf : ℕ → Line → Type 0
SpeaksOf n (line.Begin client server) = IsServer n server
SpeaksOf n (line.Create client server word owner size read modify choice) = IsServer n server
SpeaksOf n (line.ReadOwner client server owner choice) = IsServer n server
SpeaksOf n (line.MakeOwner client server owner quota create choice) = IsServer n server
SpeaksOf n (line.SetQuota client server owner quota choice) = IsServer n server
SpeaksOf n (line.Raw client server bytes) = IsServer n server
SpeaksOf n (line.OpenFile client file access mode choice) = IsFileOf n file
SpeaksOf n (line.CloseFile client file) = IsFileOf n file
SpeaksOf n (line.DeleteFile client file choice) = IsFileOf n file
SpeaksOf n (line.ReadPages client file run mode choice) = IsFileOf n file
SpeaksOf n (line.WritePages client file run text choice) = IsFileOf n file
SpeaksOf n (line.LockPages client file run mode choice) = IsFileOf n file
SpeaksOf n (line.SetSize client file size choice) = IsFileOf n file
SpeaksOf n (line.ReadProps client file) = IsFileOf n file
SpeaksOf n (line.WriteProps client file change choice) = IsFileOf n file
SpeaksOf n l = Unit {0}
