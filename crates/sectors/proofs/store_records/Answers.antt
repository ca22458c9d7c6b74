use Rattle.std.specs.Prelude.{Some, Ok}
use Rattle.sectors.specs.Sector.{sector_at}
use Prim.Native.Nat.{ℕ, ◌+◌, ◌-◌, ◌*◌, ◌≤◌, ◌<◌, min, max}
use mathlib.Core.Path.{◌≡◌, ap, ◌∙◌}
use mathlib.Core.List.{List}
use native.Mathlib.Nat.{le-max_left}
use native.Mathlib.Omega.{arith}
use lib.ListN.{length, take, drop}
use lib.Seq.{sets, length-sets}
use Rattle.sectors.specs.Sectors.{with_records}
use Rattle.sectors.proofs.store_records.Goals as goal

less-before : (x f t : ℕ) → x ≤ f → t - x - (f - x) ≡ t - f
less-before x f t h = omega arith

-- what is cut out of the records, as the code finds it and as the definition says
cut : (s records : List ℕ) (at end start from some : ℕ) → from ≡ max at start → some ≡ min 512 (end - start) → start < end → sets s from (take (start + some - at - (from - at)) (drop (from - at) records)) ≡ sets s (max at start) (take (min end (start + 512) - max at start) (drop (max at start - at) records))
cut s records at end start from some e q h =
    let to : start + min 512 (end - start) ≡ min end (start + 512) = omega arith in
    rw (e, q, to, less-before at (max at start) (min end (start + 512)) (le-max_left at start))

pub returns : goal.returns
unfolding with_records
returns c =
    let a = c.args in
    let start : ℕ = 512 * a.number in
    let end : ℕ = a.sweep.at + a.sweep.bytes in
    let same : length c.set_bytes.new.d ≡ length a.file.now = ap length c.set_bytes.ensures ∙ simp length-sets in (
      c.sector_from.ensures ∙ ap (λ (n : ℕ). Ok (Some (sector_at start (min 512 (n - start))))) same,
      c.set_bytes.ensures ∙ cut a.file.now a.records.now a.sweep.at end start c.larger-from.result c.smaller.result c.larger-from.ensures c.smaller.ensures (omega arith),
    )
