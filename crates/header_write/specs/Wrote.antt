-- What the writer answers and leaves.
use Rattle.std.specs.Prelude.{Result, Ok, Err}
use Rattle.refusal.specs.declared.Refusal.{Refusal}
use Rattle.std.specs.Prelude.{ℕ, ◌+◌, cond, List, ◌++◌, leb, length, drop}
use Rattle.refusal.specs.declared.Refusal.TheVariants.{NoRoom}
use Rattle.header.specs.declared.Header.{Header}
use Rattle.header.specs.Judged.{standard_of}
use Rattle.header_write.specs.Bytes.{block}

-- "Single writes check 3 (header), .. then 22": the block and then the padding, which want the standard size and the
-- padding's length; "Writes answer their byte count and leave what lies past it"
unfoldable pub wrote_by : Result ℕ Refusal → Header → List ℕ → List ℕ → Result ℕ Refusal × List ℕ
wrote_by (Err r) h padding d = (Err r, d)
wrote_by (Ok n) h padding d =
    let wanted = n + length padding in
    cond (leb wanted (length d)) (Ok wanted, (block h ++ padding) ++ drop wanted d) (Err (NoRoom wanted), d)

unfoldable pub wrote_of : Header → List ℕ → List ℕ → Result ℕ Refusal × List ℕ
wrote_of h padding d = wrote_by (standard_of h.version) h padding d
