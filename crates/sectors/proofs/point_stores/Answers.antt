use native.Mathlib.Omega.{arith}
use Rattle.sectors.specs.Sectors.{point_stores}
use Rattle.sectors.proofs.point_stores.Goals as goal

pub returns : goal.returns
unfolding point_stores
returns c = omega arith
