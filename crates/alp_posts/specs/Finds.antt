-- What is found from a place of a journal on.
use Rattle.std.specs.Prelude.{◌≡◌, ℕ, List, IfSome, slice_get}
use Rattle.alp_journal.specs.declared.entry.Entry.{Entry}
use Rattle.alp_posts.specs.Places.{IsPlace, StandsAt, behind}
use Rattle.alp_posts.specs.declared.find.Found.{Found}

-- no message is passed on the way, and the one that is found is the next
pub record IsFound (to entry act : ℕ) (journal : List Entry) (x : Found) : Type 0 where
  pub place : IsPlace x.entry x.act journal
  pub same : behind to x.entry x.act journal ≡ behind to entry act journal
  pub message : x.message ≡ slice_get (behind to x.entry x.act journal) 0
  pub stands : IfSome x.message (StandsAt to x.entry x.act journal)
