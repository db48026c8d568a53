-- The lines of a script, played: what each sends, and what occurs by it.
use Rattle.std.specs.Prelude.{◌≡◌, ◌⊎◌, ℕ, ◌+◌, ◌==◌, Bool, true, false, List, [], ◌∷◌, ◌++◌, Option, None, Some, if◌then◌else◌}
use Rattle.std.specs.List.{AllByRecursion}
use Rattle.alp_base.specs.declared.ids.TransId.{TransId}
use Rattle.alp_journal.specs.declared.log.Item.{Item}
use Rattle.alp_script.specs.declared.numbered.NumberedLine.{NumberedLine}
use Rattle.alp_lines.specs.Named.{client_named}
use Rattle.alp_lines.specs.declared.line.Line.{Line}
use Rattle.alp_lines.specs.declared.line.Line.TheVariants as line
use Rattle.alp_session.specs.Crowd.{Crowd}
use Rattle.alp_session.specs.Crowds.{new_crowd, client_at, asks, at_line, declares, hears, times_out}
use Rattle.alp_session.specs.declared.frames.Addressed.{Addressed}
use Rattle.alp_session.specs.declared.waiting.Next.{Next}
use Rattle.alp_session.specs.declared.waiting.Next.TheVariants as next
use Rattle.alp_session.specs.Frames.{IsOfFrame}
use Rattle.alp_course.specs.Turns.{Turn}
use Rattle.alp_course.specs.Happens.{Happening, sent_it, timed_out, ticked, forced, stop_set, restarted}
use Rattle.alp_course.specs.Courses.{Occurrence, at, looks, brings, loses, repeats, rests}
use Rattle.alp_course.specs.Languages.{Language, Nothing, Just, Then}
use Rattle.alp_course.specs.Carries.{CarriesIf}
use Rattle.alp_course.specs.Settles.{IsSettling}

-- ---- what occurs by a line

-- the transaction times out at this server, if there is one
abbrev pub timeouts_at : ℕ → Option TransId → List Occurrence
timeouts_at server None = []
timeouts_at server (Some t) = at server (timed_out t) ∷ []

-- the transaction of what is due at a server times out there
abbrev pub timeouts_due : Option (ℕ × TransId) → List Occurrence
timeouts_due None = []
timeouts_due (Some due) = at due.0 (timed_out due.1) ∷ []

-- what was sent of all that occurred
abbrev pub sent_of : List Occurrence → List (ℕ × Item)
sent_of [] = []
sent_of (at n (sent_it k x) ∷ xs) = (k, x) ∷ sent_of xs
sent_of (x ∷ xs) = sent_of xs

-- Before a collect of a line messages are carried, where they are carried by themselves.
abbrev pub CarriesAt : (servers : ℕ) → Crowd → Next → Language
CarriesAt servers c next.Collect = CarriesIf servers c.settings.collects
CarriesAt servers c n = Nothing

-- These items are those of a line of the client, each in its place among what occurs; behind them this transaction times out at this
-- server, if one does; and that is known then.
abbrev pub Sends : (servers : ℕ) → Crowd → ℕ → Line → Next → List Item → Option (ℕ × TransId) → List Occurrence → Crowd → Type 0
Sends servers c k l n [] t hs d = Then (CarriesAt servers c n) (Just (timeouts_due t)) hs × (asks c k l n ≡ None) × (t ≡ times_out c k n) × (d ≡ c)
Sends servers c k l n (x ∷ xs) t hs d =
    (frame : Addressed) × (rest : List Occurrence) × (asks c k l n ≡ Some frame) × IsOfFrame l frame x
    × Then (CarriesAt servers c n) (Just (at x.server (sent_it k x) ∷ rest)) hs × Sends servers (hears c k l n frame x.reply).0 k l (hears c k l n frame x.reply).1 xs t rest d

-- a message of one server to another one
abbrev pub OfTwo : (from to : ℕ) → Occurrence → Language
OfTwo from to x = Just (if from == to then [] else x ∷ [])

-- What occurs by a line that is no client's, but for what is carried behind it. A timeout is of its client's transaction, if it has
-- one. Declarations and settings are no matter of the servers.
abbrev pub GivesLine : (servers : ℕ) → Crowd → Line → Language
GivesLine servers c (line.Timeout server client) = Just (timeouts_at server (client_at c client).trans)
GivesLine servers c (line.Tick server) = Just (at server ticked ∷ [])
GivesLine servers c (line.Force server) = Just (at server forced ∷ [])
GivesLine servers c (line.Stop server calls) = Just (at server (stop_set calls) ∷ [])
GivesLine servers c (line.Restart server pick) = Just (at server (restarted pick) ∷ [])
GivesLine servers c (line.Carry from to) = OfTwo from to (brings from to)
GivesLine servers c (line.Lose from to) = OfTwo from to (loses from to)
GivesLine servers c (line.Again from to) = OfTwo from to (repeats from to)
GivesLine servers c line.Settle = IsSettling servers
GivesLine servers c l = Nothing

-- what one line adds: a client's line has its turn, another has none
abbrev pub PlaysOwn : (servers : ℕ) → Crowd → NumberedLine → Option ℕ → List Turn → List Occurrence → Crowd → Type 0
PlaysOwn servers c l None turns hs d = (turns ≡ []) × GivesLine servers c l.line hs × (d ≡ declares c l.line)
PlaysOwn servers c l (Some client) turns hs d =
    (xs : List Item) × (t : Option (ℕ × TransId)) × (turns ≡ record { line = l.number; client = client; items = xs } ∷ [])
    × AllByRecursion (λ (x : Item). x.line ≡ l.number) xs × Sends servers (at_line c client l.line) client l.line next.Call xs t hs d

-- and behind each line messages are carried, where they are carried by themselves
pub record PlaysLine (servers : ℕ) (c : Crowd) (l : NumberedLine) (turns : List Turn) (hs : List Occurrence) (d : Crowd) : Type 0 where
  pub by_line : List Occurrence
  pub carried : List Occurrence
  pub are : hs ≡ by_line ++ carried
  pub plays : PlaysOwn servers c l (client_named l.line) turns by_line d
  pub carries : CarriesIf servers d.settings.collects carried

-- the turns are those of the script's lines, in order, each by what its client was handed before, and so is all that occurs
abbrev pub Plays : (servers : ℕ) → Crowd → List NumberedLine → List Turn → List Occurrence → Crowd → Type 0
Plays servers c [] turns hs d = (turns ≡ []) × (hs ≡ []) × (d ≡ c)
Plays servers c (l ∷ ls) turns hs d =
    (own : List Turn) × (others : List Turn) × (mine : List Occurrence) × (theirs : List Occurrence) × (mid : Crowd) × (turns ≡ own ++ others) × (hs ≡ mine ++ theirs)
    × PlaysLine servers c l own mine mid × Plays servers mid ls others theirs d

-- all lines were played, and behind the last one all was settled
pub record ArePlayed (servers : ℕ) (lines : List NumberedLine) (turns : List Turn) (hs : List Occurrence) : Type 0 where
  pub clients : Crowd
  pub by_lines : List Occurrence
  pub behind : List Occurrence
  pub are : hs ≡ by_lines ++ behind
  pub plays : Plays servers new_crowd lines turns by_lines clients
  pub settles : IsSettling servers behind

-- ---- a script that is not played to its end

-- What was to come next: a frame of a client, or something else. Or that is not told: memory was wanting between two of them.
pub data Due : Type 0 where
  to_send : (client : ℕ) (frame : Addressed) → Due
  to_come : (x : Occurrence) → Due
  untold : Due

-- of what occurs so this much did, and that was to come next
pub record IsCut (A : Language) (hs : List Occurrence) (due : Due) : Type 0 where
  pub coming : Occurrence
  pub rest : List Occurrence
  pub is : due ≡ to_come coming
  pub all : A (hs ++ coming ∷ rest)

-- After its last item a client's line came so far: nothing more occurred; or messages were carried; or the line came to its end.
abbrev pub IsSoFar : (servers : ℕ) → Crowd → ℕ → Line → Next → List Occurrence → Type 0
IsSoFar servers c k l n hs = (hs ≡ []) ⊎ CarriesAt servers c n hs ⊎ Sends servers c k l n [] (times_out c k n) hs c

-- A client's line that has more to do behind these items: messages to carry, a frame to send, or a transaction that is to time out; and
-- what is known then. Where it is not told what was to come, the line may have come to its end.
abbrev pub IsMoreDue : (servers : ℕ) → Crowd → ℕ → Line → Next → List Occurrence → Due → Type 0
IsMoreDue servers c k l n hs due =
    IsCut (CarriesAt servers c n) hs due
    ⊎ (CarriesAt servers c n hs × (((frame : Addressed) × (asks c k l n ≡ Some frame) × (due ≡ to_send k frame)) ⊎ ((t : ℕ × TransId) × (times_out c k n ≡ Some t) × (due ≡ to_come (at t.0 (timed_out t.1))))))
    ⊎ ((due ≡ untold) × IsSoFar servers c k l n hs)

abbrev pub SendsMore : (servers : ℕ) → Crowd → ℕ → Line → Next → List Item → List Occurrence → Due → Crowd → Type 0
SendsMore servers c k l n [] hs due d = IsMoreDue servers c k l n hs due × (d ≡ c)
SendsMore servers c k l n (x ∷ xs) hs due d =
    (frame : Addressed) × (rest : List Occurrence) × (asks c k l n ≡ Some frame) × IsOfFrame l frame x
    × Then (CarriesAt servers c n) (Just (at x.server (sent_it k x) ∷ rest)) hs × SendsMore servers (hears c k l n frame x.reply).0 k l (hears c k l n frame x.reply).1 xs rest due d

-- a line that is not over, with its turn so far
abbrev pub BeginsOwn : (servers : ℕ) → Crowd → NumberedLine → Option ℕ → List Turn → List Occurrence → Due → Crowd → Type 0
BeginsOwn servers c l None turns hs due d = (turns ≡ []) × IsCut (GivesLine servers c l.line) hs due × (d ≡ declares c l.line)
BeginsOwn servers c l (Some client) turns hs due d =
    (xs : List Item) × (turns ≡ record { line = l.number; client = client; items = xs } ∷ []) × AllByRecursion (λ (x : Item). x.line ≡ l.number) xs
    × SendsMore servers (at_line c client l.line) client l.line next.Call xs hs due d

-- or one behind which not all messages were carried
abbrev pub BeginsLine : (servers : ℕ) → Crowd → NumberedLine → List Turn → List Occurrence → Due → Crowd → Type 0
BeginsLine servers c l turns hs due d =
    BeginsOwn servers c l (client_named l.line) turns hs due d
    ⊎ ((by_line : List Occurrence) × (carried : List Occurrence) × (hs ≡ by_line ++ carried) × PlaysOwn servers c l (client_named l.line) turns by_line d × IsCut (CarriesIf servers d.settings.collects) carried due)
