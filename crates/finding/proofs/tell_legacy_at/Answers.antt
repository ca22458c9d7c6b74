use Prim.Native.Nat.{ℕ, ◌+◌, ◌*◌}
use mathlib.Core.Path.{ap, ◌∙◌}
use mathlib.Core.Bool.{not}
use lib.ListN.{get_or}
use Rattle.le.specs.Le.{num}
use Rattle.finding.specs.Rules.{spot, unlike, when, legacy_at}
use Rattle.finding.specs.Told.{told-when, both}
use Rattle.finding.proofs.tell_legacy_at.Goals as goal

pub returns : goal.returns
unfolding legacy_at
returns c =
    let a = c.args in
    let stated = num 4 (107 + 4 * a.i) a.file.now in
    both (when (unlike a.extended stated 0) (spot 1 a.part (107 + 4 * a.i))) (when (unlike (not a.large) stated (get_or a.numbers.now a.i 0)) (spot 3 a.part (107 + 4 * a.i))) a.n a.out.now
    (c.tell_if-n.ensures ∙ told-when _ (c.unlike-nonzero.ensures ∙ ap (λ (k : ℕ). unlike a.extended k 0) c.u32_at-stated.ensures) c.spot.ensures)
    (c.tell_if.ensures ∙ told-when _ (c.unlike-other.ensures ∙ ap (λ (k : ℕ). unlike (not a.large) k (get_or a.numbers.now a.i 0)) c.u32_at-stated.ensures) c.spot-2.ensures)
