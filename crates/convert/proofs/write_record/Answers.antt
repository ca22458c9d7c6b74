use Rattle.std.specs.Prelude.{Ok}
use Prim.Native.Nat.{ℕ}
use mathlib.Core.Path.{◌≡◌, refl, sym, ◌∙◌}
use mathlib.Core.Bool.{Bool, true, false}
use native.Mathlib.Omega.{arith}
use Rattle.angle.specs.declared.ScanAngle.{ScanAngle}
use Rattle.angle.specs.declared.ScanAngle.TheVariants.{Rank, Scaled}
use Rattle.angle.specs.Angle.{to_scaled}
use Rattle.angle.specs.Table.{scaled_table, to_scaled_in, table_rule}
use Rattle.point.specs.Read.{point_of}
use Rattle.point.specs.Answer.{answered, read_told}
use Rattle.point_write.specs.Held.{AngleHeld}
use Rattle.point_write.specs.Theorems.{read_is_held}
use Rattle.convert.specs.Laws.{image_laid}
use Rattle.convert.proofs.write_record.Goals as goal
use Rattle.convert.proofs.write_record.Goals.{After-read_from}

-- the record is a whole one, and is read
read_is : (x : After-read_from) → x.read_from.result ≡ Ok (point_of x.args.plan.source x.args.src.now)
read_is x =
    x.read_from.ensures ∙ read_told x.args.plan.source x.args.src.now x.args.plan.source_length x.requires.0.from (omega (arith, x.requires.1))

-- an angle that a record holds is in the table: its rank has eight bits
in_table : (extended : Bool) (a : ScanAngle) → AngleHeld extended a → to_scaled_in scaled_table a ≡ to_scaled a
in_table true (Scaled n) h = refl
in_table false (Rank r) h = table_rule r h
in_table true (Rank r) h = absurd h
in_table false (Scaled n) h = absurd h

pub turned-requires : goal.turned-requires
turned-requires c =
    let f = c.args.plan.source in
    let a = answered f c.args.src.now _ (sym c.read_from.ensures ∙ c.in-Ok.is) in
    let held = read_is_held f c.args.src.now (λ k. omega (arith, c.shared_slice_known-1.given k)) a.room in
    rw (c.requires.4, a.point) (in_table f.is_extended (point_of f c.args.src.now).scan_angle held.scan_angle)

pub returns-in_default : goal.returns-in_default
returns-in_default c =
    let is = sym (read_is (goal.at.returns-in_default c).After-read_from) ∙ c.in_default.is in
    let z : ◌≡◌ {A = ℕ} 0 1 = cc in
    absurd (omega arith)

pub returns : goal.returns
returns c =
    let a = c.args in
    image_laid a.up a.plan c.requires.0 a.src.now c.requires.1 c.requires.3 a.dst.now c.requires.2 (sym c.read_from.ensures ∙ c.in-Ok.is)
    (rw (c.extra_bytes.ensures, c.turned.ensures) at c.write_to.ensures)
