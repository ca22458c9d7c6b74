-- What the walk over records goes by.
use Rattle.std.specs.Prelude.{Result, Ok, Err}
use Rattle.refusal.specs.declared.Refusal.{Refusal}
use Rattle.std.specs.Prelude.{Bool, cond, List, ℕ, leb, length}
use Rattle.vlr.specs.Layout.{head_size}
use Rattle.vlr.specs.Vlr.{length_of, record_size}
use Rattle.rules.specs.Rules.{too_far, no_length}

-- the bytes of the record at the start of `rest`, or why it is not whole
unfoldable pub measured_of : Bool → List ℕ → Result ℕ Refusal
measured_of extended rest =
    cond (leb (head_size extended) (length rest))
    (cond (leb (record_size extended rest) (length rest)) (Ok (record_size extended rest)) (Err (too_far (length_of extended rest))))
    (Err (too_far (no_length extended)))
