use Rattle.std.specs.Prelude.{Result}
use Rattle.refusal.specs.declared.Refusal.{Refusal}
use mathlib.Core.Path.{◌≡◌, ap, sym, ◌∙◌}
use mathlib.Core.List.{List}
use Prim.Native.Nat.{ℕ}
use Rattle.words.specs.Rows.{wrote_row, written_row}
use Rattle.directory_write.specs.Written.{written_of}
use Rattle.capi_keys.proofs.las_keys_write.Goals as goal
use Rattle.capi_keys.proofs.las_keys_write.Goals.{After-write}

-- by what the write answers
by_wrote : (x : After-write) {r : Result ℕ Refusal} {l : List ℕ} → x.write.result ≡ r → l ≡ wrote_row r → (l, x.write.new.dst) ≡ written_row (written_of x.args.keys.now x.args.dst.now)
by_wrote x is row = ap (λ l. (l, x.write.new.dst)) (row ∙ ap wrote_row (sym is)) ∙ ap written_row x.write.ensures

pub returns-in-Ok : goal.returns-in-Ok
returns-in-Ok c = by_wrote (goal.at.returns-in-Ok c).After-write c.in-Ok.is c.tell.ensures

pub returns-in-Err : goal.returns-in-Err
returns-in-Err c = by_wrote (goal.at.returns-in-Err c).After-write c.in-Err.is c.refuse.ensures
