use Prim.Native.Nat.{ℕ}
use mathlib.Core.Path.{◌≡◌, refl, ap, ◌∙◌}
use mathlib.Core.Bool.{Bool, ◌&&◌}
use mathlib.Core.List.{List, [], ◌∷◌}
use Rattle.std.proofs.Common.{rules}
use Rattle.std.specs.List.{list_all, zip}
use Rattle.std.proofs.lemmas.Iterator.{YieldsList-from_slice, YieldsList-from_zip}
use Rattle.std.proofs.lemmas.Iterator.Search.{all_from_yields_List}
use Rattle.sheet.specs.Sheet.{fits_in, all_fit}
use Rattle.sheet.proofs.all_fit.Goals as goal

abbrev fit : ℕ × ℕ → Bool
fit p = fits_in p.0 p.1

-- the test of each pair
pairs : (a b : List ℕ) → list_all fit (zip a b) ≡ all_fit a b
unfolding all_fit
pairs [] b = refl
pairs (x ∷ a) [] = refl
pairs (x ∷ a) (y ∷ b) = ap (λ r. fits_in x y && r) (pairs a b)

pub returns : goal.returns
returns c =
    all_from_yields_List fit c.all.new.self _ _ c.all.ensures.ran (YieldsList-from_zip (YieldsList-from_slice c.args.a.now cc) (YieldsList-from_slice c.args.b.now cc)) (λ x b q k. search rules)
    ∙ pairs c.args.a.now c.args.b.now
