-- whom a line names
use Rattle.std.specs.Prelude.{ℕ, Option, None, Some}
use Rattle.alp_lines.specs.declared.line.Line.{Line}
use Rattle.alp_lines.specs.declared.line.Line.TheVariants as line

-- the client that is to do what the line says
unfoldable pub client_named : Line → Option ℕ
client_named (line.Begin client server) = Some client
client_named (line.Create client server word owner size read modify choice) = Some client
client_named (line.OpenFile client file access mode choice) = Some client
client_named (line.CloseFile client file) = Some client
client_named (line.DeleteFile client file choice) = Some client
client_named (line.ReadPages client file run mode choice) = Some client
client_named (line.WritePages client file run text choice) = Some client
client_named (line.LockPages client file run mode choice) = Some client
client_named (line.SetSize client file size choice) = Some client
client_named (line.ReadProps client file) = Some client
client_named (line.WriteProps client file change choice) = Some client
client_named (line.ReadOwner client server owner choice) = Some client
client_named (line.MakeOwner client server owner quota create choice) = Some client
client_named (line.SetQuota client server owner quota choice) = Some client
client_named (line.Commit client) = Some client
client_named (line.Abort client) = Some client
client_named (line.Outcome client) = Some client
client_named (line.Collect client) = Some client
client_named (line.Repeat client) = Some client
client_named (line.Old client) = Some client
client_named (line.Raw client server bytes) = Some client
client_named _ = None

-- the server that a line names: of a message, the one that sends it
unfoldable pub server_named : Line → Option ℕ
server_named (line.Volume server home area) = Some server
server_named (line.Carry from to) = Some from
server_named (line.Lose from to) = Some from
server_named (line.Again from to) = Some from
server_named (line.Tick server) = Some server
server_named (line.Force server) = Some server
server_named (line.Timeout server client) = Some server
server_named (line.Stop server calls) = Some server
server_named (line.Restart server pick) = Some server
server_named (line.Begin client server) = Some server
server_named (line.Create client server word owner size read modify choice) = Some server
server_named (line.ReadOwner client server owner choice) = Some server
server_named (line.MakeOwner client server owner quota create choice) = Some server
server_named (line.SetQuota client server owner quota choice) = Some server
server_named (line.Raw client server bytes) = Some server
server_named _ = None

-- the server that a message of the line goes to
unfoldable pub receiver_named : Line → Option ℕ
receiver_named (line.Carry from to) = Some to
receiver_named (line.Lose from to) = Some to
receiver_named (line.Again from to) = Some to
receiver_named _ = None
