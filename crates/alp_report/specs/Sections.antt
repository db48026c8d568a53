-- Sections of the texts, each written by one function.
use Rattle.std.specs.Prelude.{ℕ, List, [], ◌∷◌, ◌++◌, codes, flat_map, sum_by}
use Rattle.std.specs.Fmt.{decimal}
use Rattle.alp_base.specs.declared.cell.Props.{Props}
use Rattle.alp_base.specs.declared.cell.OwnerRecord.{OwnerRecord}
use Rattle.alp_report.specs.Replies.{names_text}
use Rattle.alp_report.specs.Reports.{files_text, owners_text, count_text}
use Rattle.alp_report.specs.declared.summary.Held.{Held}
use Rattle.alp_report.specs.declared.summary.Summary.{Summary}

-- who owns a file, and what it is called
abbrev pub titles_text : Props → List ℕ
titles_text p = codes "owner " ++ p.owner ++ codes " name " ++ p.name

-- the numbers of a file
abbrev pub numbers_text : Props → List ℕ
numbers_text p =
    codes " type " ++ decimal p.type_no ++ codes " time " ++ decimal p.create_time ++ codes " bytes " ++ decimal p.byte_length
    ++ codes " size " ++ decimal p.size ++ codes " high " ++ decimal p.high_water

-- who may read and change a file
abbrev pub access_text : Props → List ℕ
access_text p = codes " read " ++ names_text p.read ++ codes " modify " ++ names_text p.modify

-- all that these owners are charged
abbrev pub charges_of : List OwnerRecord → ℕ
charges_of owners = sum_by (λ o. o.charge) owners

-- a server, and the files that it holds
abbrev pub held_text : Held → List ℕ
held_text h =
    codes "server " ++ decimal h.server ++ codes " epoch " ++ decimal h.epoch ++ codes " clock " ++ decimal h.clock
    ++ files_text h.files (charges_of h.owners.items)

-- its owners
abbrev pub owned_text : Held → List ℕ
owned_text h = owners_text h.server h.owners.items

-- the summary of what the servers hold
abbrev pub printed : Summary → List ℕ
printed s = flat_map held_text s.servers.now ++ flat_map owned_text s.servers.now ++ count_text s.committed s.aborted
