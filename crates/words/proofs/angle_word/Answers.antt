use Prim.Native.Nat.{ℕ, ◌+◌}
use mathlib.Core.Path.{sym, ap, ◌∙◌}
use mir.Syntax.{w8, w16}
use mir.Val.{of_z}
use Rattle.le.proofs.Twos.{kept}
use Rattle.words.specs.Words.{angle_word}
use Rattle.words.proofs.angle_word.Goals as goal

pub returns-in-Rank : goal.returns-in-Rank
returns-in-Rank c = c.cast_unsigned.ensures ∙ ap (of_z w8) (kept w8 c.in-Rank.rank c.in-Rank.known_told-1-own.given.0.1) ∙ sym (ap angle_word c.in-Rank.is)

pub returns-in-Scaled : goal.returns-in-Scaled
returns-in-Scaled c = ap (λ (n : ℕ). n + 65536) (c.cast_unsigned-in-Scaled.ensures ∙ ap (of_z w16) (kept w16 c.in-Scaled.scaled c.in-Scaled.known_told-in-Scaled-1-own.given.0.1)) ∙ sym (ap angle_word c.in-Scaled.is)
