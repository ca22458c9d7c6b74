-- A key and its value.
use Rattle.std.specs.Prelude.{ℕ}
use Rattle.keys.specs.declared.Value.{Value}
use Rattle.keys.specs.declared.KeyValue.{KeyValue}

abbrev pub key_value : ℕ → Value → KeyValue
key_value k v = record { key = k; value = v }
