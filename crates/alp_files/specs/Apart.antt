-- Parts that keep apart: what they change, and on which maps they do the same.
use Rattle.std.specs.Prelude.{◌≡◌, ℕ, ◌<◌, List, [], ◌∷◌, ◌++◌, Some}
use Rattle.std.specs.List.{AllByRecursion}
use Rattle.std.specs.Option.{option_to_list}
use Rattle.alp_base.specs.declared.ids.FileId.{FileId}
use Rattle.alp_base.specs.declared.ids.Stamp.{Stamp}
use Rattle.alp_base.specs.declared.key.Key.{Key}
use Rattle.alp_base.specs.declared.key.Key.TheVariants.{Leader}
use Rattle.alp_files.specs.Holdings.{Holding, file_of}
use Rattle.alp_base.specs.declared.cell.Cell.{Cell}
use Rattle.alp_base.specs.declared.cell.Cell.TheVariants as cell
use Rattle.alp_files.specs.declared.open.Open.{Open}
use Rattle.alp_files.specs.Cells.{Cells, View, has_file}
use Rattle.alp_files.specs.Edits.{Edit, Drop, Cut, Put}
use Rattle.alp_files.specs.Act.{Own, id_in}
use Rattle.alp_files.specs.History.{PerformedCall, Standing, Decided, answer_to, step, AreRight, steps, begun, IsSerial, serial_end}
use Rattle.alp_files.specs.Locks.{page_limit, IsFormed, AreCovered}

-- the changes are of places where W holds; a file that goes or is cut may change anywhere
abbrev pub IsWithin : (W : Key → Type 0) → List Edit → Type 0
IsWithin W [] = Unit {0}
IsWithin W (Drop f ∷ es) = ((k : Key) → file_of k ≡ Some f → W k) × IsWithin W es
IsWithin W (Cut f n ∷ es) = ((k : Key) → file_of k ≡ Some f → W k) × IsWithin W es
IsWithin W (Put k c ∷ es) = W k × IsWithin W es

-- two maps show the same where R holds
abbrev pub DoShowSame : (R : Key → Type 0) → View → View → Type 0
DoShowSame R m n = (k : Key) → R k → m k ≡ n k

-- the leader of each open's file may be read
abbrev pub OpensRead : (R : Key → Type 0) → List Open → Type 0
OpensRead R opens = AllByRecursion (λ (o : Open). R (Leader o.file)) opens

-- the size in a leader's cell is a number of pages
abbrev pub IsSized : Cell → Type 0
IsSized (cell.Leader p) = p.size < page_limit
IsSized (cell.Page bytes) = Unit {0}
IsSized (cell.Owner o) = Unit {0}

abbrev pub AreSized : View → Type 0
AreSized m = (k : Key) (c : Cell) → m k ≡ Some c → IsSized c

-- all that the calls change
abbrev pub changes : ℕ → Standing → List ℕ → List PerformedCall → List Edit
changes server s who [] = []
changes server s who (d ∷ ds) = (answer_to server s who d).edits ++ changes server (step server s who d) who ds

-- the ids that the calls gave to files, the last one first, and those given before
abbrev pub ids_after : List FileId → List PerformedCall → List FileId
ids_after made [] = made
ids_after made (d ∷ ds) = ids_after (option_to_list (id_in d.reply) ++ made) ds

-- of the ids that these calls give, the same were given before
abbrev pub AreNewAlike : List FileId → List FileId → List PerformedCall → Type 0
AreNewAlike made others ds = AllByRecursion (λ (d : PerformedCall). (f : FileId) → id_in d.reply ≡ Some f → has_file f made ≡ has_file f others) ds

-- ---- parts under their locks

abbrev pub AreFormed : List PerformedCall → Type 0
AreFormed ds = AllByRecursion (λ (d : PerformedCall). IsFormed d.call) ds

-- a thread that stands so
abbrev pub standing : Cells → List FileId → Own → Standing
standing files made own = record { files = files; made = made; own = own }

-- where one thread got each reply to these calls, so does the other; their changes and their opens are the same, and
-- what is held covers the locks of the other's too
pub record DoesSame (held : Holding) (server : ℕ) (one other : Standing) (who : List ℕ) (ds : List PerformedCall) : Type 0 where
  pub right : AreRight server one who ds → AreRight server other who ds
  pub edits : changes server one who ds ≡ changes server other who ds
  pub own : (steps server one who ds).own ≡ (steps server other who ds).own
  pub covered : AreCovered held server one who ds → AreCovered held server other who ds

-- a transaction's part: its principal, its calls with their replies, and the locks that it holds at last
pub record Locked : Type 0 where
  pub who : List ℕ
  pub calls : List PerformedCall
  pub held : Holding

abbrev pub after_part : ℕ → Standing → Locked → Standing
after_part server s p = steps server (begun s) p.who p.calls

-- each reply is the one that a thread gets there, and what is held covers the locks of each call
pub record IsRightUnder (server : ℕ) (s : Standing) (p : Locked) : Type 0 where
  pub formed : AreFormed p.calls
  pub right : AreRight server (begun s) p.who p.calls
  pub covered : AreCovered p.held server (begun s) p.who p.calls

-- two parts, of which one went first, may go in the other order: each reply is right there too, and the files at the
-- end, and the ids that were given, are the same
pub record DoCommute (server : ℕ) (s : Standing) (p q : Locked) : Type 0 where
  pub earlier : IsRightUnder server s q
  pub later : IsRightUnder server (after_part server s q) p
  pub files : (after_part server (after_part server s q) p).files ≡ (after_part server (after_part server s p) q).files
  pub ids : (f : FileId) → has_file f (after_part server (after_part server s q) p).made ≡ has_file f (after_part server (after_part server s p) q).made

-- ---- histories

-- the part in a history, with its stamp
abbrev pub decided_as : Stamp → Locked → Decided
decided_as stamp p = record { stamp = stamp; who = p.who; calls = p.calls }

-- what is one thread's history from one standing on is it from the other on too, and it leaves the same files and ids
pub record IsLikewise (server : ℕ) (s t : Standing) (ds : List Decided) : Type 0 where
  pub serial : IsSerial server s ds → IsSerial server t ds
  pub files : (serial_end server s ds).files ≡ (serial_end server t ds).files
  pub ids : (f : FileId) → has_file f (serial_end server s ds).made ≡ has_file f (serial_end server t ds).made
