-- When a directory is written, and when it is refused: document 02, No. 14, "Writing refuses keys not rising, over 8,190 keys, then no room."
use Rattle.std.specs.Prelude.{ℕ, ◌+◌, ◌*◌, ◌≤◌, ◌<◌, ◌≡◌, true, false, List, get_or}
use Rattle.refusal.specs.declared.Refusal.{Refusal}
use Rattle.refusal.specs.declared.Refusal.TheVariants.{NoRoom, KeysNotRising, TooManyKeys}
use Rattle.directory.specs.declared.Entry.{Entry}
use Rattle.directory.specs.Directory.{rising_at}
use Rattle.directory_write.specs.Written.{given_count, given_key}

-- each key is above the one before it, and one is not
abbrev pub Rising : List ℕ → Type 0
Rising ks = (k : ℕ) → k < given_count ks → rising_at (given_key ks) k ≡ true

abbrev pub Falling : List ℕ → Type 0
Falling ks = (k : ℕ) × (k < given_count ks) × (rising_at (given_key ks) k ≡ false)

abbrev pub wanted : List ℕ → ℕ
wanted ks = 8 + 8 * given_count ks

-- the refusals in their order, of a destination with so much room, and none of them
pub data RefusedFor (ks : List ℕ) (room : ℕ) : Refusal → Type 0 where
  not_rising : Falling ks → RefusedFor ks room KeysNotRising
  too_many : Rising ks → 8190 < given_count ks → RefusedFor ks room TooManyKeys
  no_room : Rising ks → given_count ks ≤ 8190 → room < wanted ks → RefusedFor ks room (NoRoom (wanted ks))

abbrev pub WrittenFor : List ℕ → ℕ → Type 0
WrittenFor ks room = Rising ks × (given_count ks ≤ 8190) × (wanted ks ≤ room)

-- the four numbers that were given for key k, the first being 0
abbrev pub given_entry : List ℕ → ℕ → Entry
given_entry ks k =
    record {
      key = get_or ks (4 * k) 0;
      location = get_or ks (4 * k + 1) 0;
      count = get_or ks (4 * k + 2) 0;
      index = get_or ks (4 * k + 3) 0;
    }
