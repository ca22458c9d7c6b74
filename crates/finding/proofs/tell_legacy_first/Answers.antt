use Prim.Native.Nat.{ℕ}
use mathlib.Core.Path.{◌≡◌, ap, ◌∙◌}
use Rattle.le.specs.Le.{num}
use Rattle.finding.specs.Rules.{spot, unlike, when, legacy_first}
use Rattle.finding.specs.Told.{told-when, both}
use Rattle.finding.proofs.tell_legacy_first.Goals as goal

pub returns : goal.returns
unfolding legacy_first
returns c =
    let a = c.args in
    let stated = num 4 107 a.file.now in
    let some : c.unlike-some.result ≡ unlike a.large stated 0 = c.unlike-some.ensures ∙ ap (λ (k : ℕ). unlike a.large k 0) c.u32_at-stated.ensures in
    both (when (unlike a.extended stated 0) (spot 1 a.part 107)) (when (unlike (unlike a.large stated 0) stated (num 8 247 a.file.now)) (spot 2 a.part 107)) a.n a.out.now
    (c.tell_if-n.ensures ∙ told-when _ (c.unlike-nonzero.ensures ∙ ap (λ (k : ℕ). unlike a.extended k 0) c.u32_at-stated.ensures) c.spot.ensures)
    (c.tell_if.ensures ∙ told-when _ (c.unlike-other.ensures ∙ (λ i. unlike (some i) (c.u32_at-stated.ensures i) (c.u64_at.ensures i))) c.spot-2.ensures)
