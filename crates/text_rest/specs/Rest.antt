-- Document 02, No. 12: "text fields with bytes after their first zero that aren't zero".
use Rattle.std.specs.Prelude.{ℕ, Bool, true, false, cond, List, [], ◌∷◌, eqb}

-- whether a byte that is not zero stands after a zero, of these bytes or one that was met before them
unfoldable pub rest_after : Bool → List ℕ → Bool
rest_after ended [] = false
rest_after ended (b ∷ t) = cond (eqb b 0) (rest_after true t) (cond ended true (rest_after ended t))

unfoldable pub rest_of : List ℕ → Bool
rest_of t = rest_after false t
