-- What one client knows, and what the words of the script stand for.
use Rattle.std.specs.Prelude.{ℕ, Bool, true, false, ◌&&◌, ◌==◌, codes, List, [], ◌∷◌, Option, None, Some, unwrap_or}
use Rattle.std.specs.FinMap as map
use Rattle.alp_base.specs.declared.ids.FileId.{FileId}
use Rattle.alp_base.specs.declared.ids.TransId.{TransId}
use Rattle.alp_base.specs.declared.ids.Stamp.{Stamp}
use Rattle.alp_lines.specs.declared.line.FileWord.{FileWord}
use Rattle.alp_lines.specs.declared.line.FileWord.TheVariants as file_word
use Rattle.alp_journal.specs.Ids.{same_trans}
use Rattle.alp_session.specs.Maps.{WordMap}
use Rattle.alp_session.specs.declared.meaning.Meaning.{Meaning}
use Rattle.alp_session.specs.declared.meaning.Meaning.TheVariants as meaning
use Rattle.alp_session.specs.declared.waiting.Settings.{Settings}
use Rattle.alp_session.specs.declared.waiting.Waiting.{Waiting}
use Rattle.alp_session.specs.declared.client.Client.{Client}
use Rattle.alp_session.specs.declared.frames.Frames.{Frames}

-- nobody told it of a transaction
abbrev pub no_trans : TransId
no_trans = record { server = 0; epoch = 0; counter = 0 }

abbrev pub no_stamp : Stamp
no_stamp = record { ts = 0; trans = no_trans }

-- what a word stands for before its file is created: an id that no file of the server has
abbrev pub no_file : ℕ → FileId
no_file server = record { server = server; epoch = 0; counter = 0 }

-- nothing was sent
abbrev pub no_frames : Frames
no_frames = record { last = None; before = None }

abbrev pub new_client : Client
new_client = record { name = codes "Admin"; sessions = map.empty; trans = None; begun = None; told = no_stamp; opens = map.empty; waiting = []; frames = no_frames }

-- messages and collects go by themselves, and a client's patience is that of a hundred collects
abbrev pub first_settings : Settings
first_settings = record { collects = true; patience = 100 }

-- the id that a word stands for, if it stands for something
abbrev pub meant : Option Meaning → FileId
meant (Some (meaning.File id)) = id
meant (Some (meaning.Awaited by server)) = no_file server
meant None = no_file 1

-- what a word stands for is created by a call of this transaction that waits at this server
abbrev pub is_awaited : Option Meaning → Option TransId → ℕ → Bool
is_awaited (Some (meaning.Awaited by at)) (Some t) server = same_trans by t && at == server
is_awaited _ _ _ = false

abbrev pub file_of : WordMap → FileWord → FileId
file_of words (file_word.Word name) = meant (map.get words name)
file_of words (file_word.Id id) = id

-- the open number last given to the client for the file, or 0
abbrev pub open_of : Client → FileId → ℕ
open_of c file = unwrap_or (map.get c.opens file) 0

-- and that of the file for which a line's word stands
abbrev pub open_at : WordMap → Client → FileWord → ℕ
open_at words c file = open_of c (file_of words file)

-- the client knows of a part of its transaction where this is the transaction that its session there joined
abbrev pub is_joined : Option TransId → TransId → Bool
is_joined None t = false
is_joined (Some joined) t = same_trans joined t

-- the call that came to wait last, if one waits
abbrev pub first_of : List Waiting → Option Waiting
first_of [] = None
first_of (w ∷ ws) = Some w
