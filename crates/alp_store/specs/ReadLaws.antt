-- Laws of reads through buffers.
use Rattle.std.specs.Prelude.{cond}
use Rattle.std.proofs.Common.{◌≡◌, ◌≤◌, inl, inr, refl, ◌∙◌, ap, ⊎_elim, arith}
use Rattle.alp_disk.specs.declared.disk.Disk.{Ghosts}
use Rattle.alp_disk.specs.Calls.{OnlyRead}
use Rattle.alp_pool.specs.Pools.{log_of, device_of}
use Rattle.alp_pool.specs.declared.pool.Pool.{Pool}
use Rattle.alp_wal.specs.Calls.{IsSameLog}
use Rattle.alp_wal.specs.Reading.{home_pages}
use Rattle.alp_wal.specs.Wal.{disk_of, shown}
use Rattle.alp_wal.specs.declared.wal.Wal.{Wal}
use Rattle.alp_store.specs.Told.{pages_of, told_by}
use Rattle.alp_store.specs.Reads.{home_of, IsReadOn}

module _ {D : Type 0} (g : Ghosts D) where
  only_read_still : (d : D) → OnlyRead g d d
  only_read_still d = record { tells = refl; size = refl; seen = refl; crash = λ c left. left; time = record { each = λ start c left. inl left }; allowance = refl }

  only_read_on : (a b c : D) → OnlyRead g a b → OnlyRead g b c → OnlyRead g a c
  only_read_on a b c one two = record {
    tells = two.tells ∙ one.tells;
    size = two.size ∙ one.size;
    seen = two.seen ∙ one.seen;
    crash = λ x left. one.crash x (two.crash x left);
    time = record { each = λ start x left. ⊎_elim (one.time.each start x) (λ now. inr (one.crash x now)) (two.time.each start x left) };
    allowance = two.allowance ∙ one.allowance;
  }

  pub read_nothing : (p : Pool D) → IsReadOn g p p
  read_nothing p = record { same = record { anchor = refl; index = refl; notes = refl; end = refl; dead = refl }; below = only_read_still (device_of p); later = omega arith }

  pub read_on : (a b c : Pool D) → IsReadOn g a b → IsReadOn g b c → IsReadOn g a c
  read_on a b c one two = record {
    same = record {
      anchor = two.same.anchor ∙ one.same.anchor;
      index = two.same.index ∙ one.same.index;
      notes = two.same.notes ∙ one.same.notes;
      end = two.same.end ∙ one.same.end;
      dead = two.same.dead ∙ one.same.dead;
    };
    below = only_read_on (device_of a) (device_of b) (device_of c) one.below two.below;
    later = omega (arith, one.later, two.later);
  }

  -- the same log, over a disk that reads the same, tells the same
  pub same_told : (v w : Wal D) → IsSameLog v w → g.seen (disk_of w) ≡ g.seen (disk_of v) → told_by g w ≡ told_by g v
  same_told v w same seen = λ i. record { pages = shown (home_pages (seen i) (same.anchor i)) (same.index i); notes = (same.notes i).notes }

  pub read_told : (p q : Pool D) → IsReadOn g p q → told_by g (log_of q) ≡ told_by g (log_of p)
  read_told p q read = same_told (log_of p) (log_of q) read.same read.below.seen

  pub read_pages : (p q : Pool D) → IsReadOn g p q → pages_of (told_by g (log_of q)) ≡ pages_of (told_by g (log_of p))
  read_pages p q read = ap pages_of (read_told p q read)

  pub read_home : (p q : Pool D) → IsReadOn g p q → home_of q ≡ home_of p
  read_home p q read = λ i. cond (read.same.dead i) 0 (read.same.anchor i).sizes.home

  pub read_tells : (p q : Pool D) → IsReadOn g p q → g.tells (device_of q) ≡ g.tells (device_of p)
  read_tells p q read = read.below.tells

  pub read_allowance : (p q : Pool D) → IsReadOn g p q → g.allowance (device_of q) ≡ g.allowance (device_of p)
  read_allowance p q read = read.below.allowance

  pub read_later : (p q : Pool D) → IsReadOn g p q → g.faults (device_of p) ≤ g.faults (device_of q)
  read_later p q read = read.later
