-- What the answer of a started cursor says of the file, and what rewriting then promises.
use Rattle.std.specs.Prelude.{Ok, Err}
use Rattle.refusal.specs.Refused.{at_record}
use Prim.Native.Nat.{ℕ, ◌≤◌, ◌<◌}
use mathlib.Core.Path.{◌≡◌}
use mathlib.Core.List.{List, ◌++◌}
use borrow.Author.Tests.{le-leb, lt-leb}
use lib.ListN.{length, drop}
use Rattle.refusal.specs.declared.Refusal.{Refusal}
use Rattle.refusal.specs.declared.Refusal.TheVariants.{NoRoom}
use Rattle.le.specs.Le.{Bytes as IsBytes}
use Rattle.cursor.specs.declared.Cursor.{Cursor}
use Rattle.cursor.specs.Parts.{outline_in}
use Rattle.cursor.specs.Cursor.{started_of, left_of}
use Rattle.cursor.specs.Started.{started_at, started_refused}
use Rattle.rewrite.specs.Rewritten.{back_of, rewritten_of}
use Rattle.rewrite.specs.Asked.{Tiles}
use Rattle.rewrite.specs.Sound.{file_tiles}

module _ (allowance : ℕ) (s : List ℕ) where
  pub left_tiles : {c : Cursor} → IsBytes s → started_of allowance s ≡ Ok c → Tiles (outline_in s) s 0 (left_of s c)
  left_tiles bytes p = let a = started_at allowance s p in rw a.2 (file_tiles allowance s a.1 bytes)

  module _ (d : List ℕ) where
    pub no_room : {c : Cursor} → started_of allowance s ≡ Ok c → length d < length s → (Err (at_record (NoRoom (length s)) 0), d) ≡ rewritten_of allowance s d
    unfolding rewritten_of
    no_room p h = rw ((started_at allowance s p).1, lt-leb (length s) (length d) h)

    pub all-written : {c : Cursor} → started_of allowance s ≡ Ok c → length s ≤ length d → (Ok (length s), back_of (outline_in s) s (left_of s c) ++ drop (length s) d) ≡ rewritten_of allowance s d
    unfolding rewritten_of
    all-written p h = let a = started_at allowance s p in rw (a.2, a.1, le-leb (length s) (length d) h)

    pub not_begun : {r : Refusal} {k : ℕ} → started_of allowance s ≡ Err (at_record r k) → (Err (at_record r k), d) ≡ rewritten_of allowance s d
    unfolding rewritten_of
    not_begun p = rw (started_refused allowance s p).1
