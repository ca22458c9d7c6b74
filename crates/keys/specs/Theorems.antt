-- What a key's value is worth: document 02, No. 14, "Give a key's value or its part of the doubles or text". `got_of` (`Keys.antt`) is what a
-- call answers of the key x in the file s.
use Rattle.std.specs.Prelude.{Some, None, Ok, Err}
use Rattle.keys.specs.KeyValue.{key_value}
use Rattle.refusal.specs.Refused.{at_record}
use Rattle.std.specs.Prelude.{ℕ, ◌+◌, ◌*◌, ◌≤◌, ◌<◌, ◌≡◌, refl, List, ◌++◌, ◌↔◌}
use Rattle.std.proofs.Common.{ap, sym, ◌∙◌, arith}
use Rattle.refusal.specs.declared.Refusal.{Refusal}
use Rattle.directory.specs.Directory.{count_of, key_of, entry_of}
use Rattle.directory_write.specs.Written.{given_count, given_key, directory_bytes}
use Rattle.directory_write.specs.Exact.{given_entry}
use Rattle.directory_write.specs.Back as back
use Rattle.directory_write.specs.Back.{Words}
use Rattle.keys.specs.declared.Keys.{Keys}
use Rattle.keys.specs.declared.Value.{Value}
use Rattle.keys.specs.declared.Value.TheVariants.{Number, Doubles, Text}
use Rattle.keys.specs.Keys.{opened_of, key_at_of, found_of, got_of}
use Rattle.keys.specs.Exact.{value_in, Sound, Unopened, RefusedFor, FoundAt}
use Rattle.keys.specs.Told as told
use Rattle.keys.specs.Told.{Lies, keys_in, directory_of}

module _ (allowance x : ℕ) (s : List ℕ) where
  -- "Refusals, in order, each over the whole directory: file check; no directory; directory short; keys not rising; unknown location; target
  -- record absent; target beyond its end; key not found": refused with each exactly when it is the first to hold in that order (`RefusedFor`,
  -- in Exact.antt; not found exactly when no entry of a sound directory has the key),
  pub refused_exactly : (why : Refusal) (j : ℕ) → (got_of allowance x s ≡ Err (at_record why j)) ↔ RefusedFor allowance s x why j
  refused_exactly why j = (told.was-refused allowance s x, told.then_refused allowance s x)

  -- and answered exactly when none does: then an entry k of the directory d has the key, and the answer is that entry's value.
  pub given_exactly : (v : Value) → (got_of allowance x s ≡ Ok v) ↔ ((d : List ℕ) × (k : ℕ) × FoundAt allowance s x d k × (v ≡ value_in s (entry_of d k)))
  given_exactly v = (told.was_given allowance s x, λ (d, k, f, is). told.then_given allowance s x f ∙ ap Ok (sym is))

module _ (allowance : ℕ) (s : List ℕ) where
  -- Opening is refused for the same reasons, but for the key, and else answers where the keys of a sound directory stand.
  pub unopened_exactly : (why : Refusal) (j : ℕ) → (opened_of allowance s ≡ Err (at_record why j)) ↔ Unopened allowance s why j
  unopened_exactly why j = (told.was_unopened allowance s, told.then_unopened allowance s)

  pub opened_exactly : (ks : Keys) → (opened_of allowance s ≡ Ok ks) ↔ ((d : List ℕ) × (sound : Sound allowance s d) × (ks ≡ keys_in allowance s (directory_of allowance s sound)))
  opened_exactly ks = (told.was_opened allowance s, λ (d, sound, is). told.then_opened allowance s sound ∙ ap Ok (sym is))

  -- Of the keys that a file with a sound directory opens to:
  module _ {d : List ℕ} (sound : Sound allowance s d) {ks : Keys} (are : opened_of allowance s ≡ Ok ks) where
    -- they are as many as the directory says, and come one after the other, each with its entry's value, and then no more;
    pub each : (k : ℕ) → k < count_of d → key_at_of ks k s ≡ Some (key_value (key_of d k) (value_in s (entry_of d k)))
    each k h = ap (λ (o : Keys). key_at_of o k s) (told.opened_are allowance s sound are) ∙ told.each-told allowance s sound k h

    pub no_more : (k : ℕ) → count_of d ≤ k → key_at_of ks k s ≡ None
    no_more k h = ap (λ (o : Keys). key_at_of o k s) (told.opened_are allowance s sound are) ∙ told.no_more allowance s sound k h

    -- the one with a key is the only one;
    pub only_one : (j k : ℕ) → j < count_of d → k < count_of d → key_of d j ≡ key_of d k → j ≡ k
    only_one = told.only_one allowance s sound

    -- a key is found with its own entry's value, and not found exactly when it is absent.
    pub found : (k : ℕ) → k < count_of d → found_of ks (key_of d k) s ≡ Some (key_value (key_of d k) (value_in s (entry_of d k)))
    found k h = ap (λ (o : Keys). found_of o (key_of d k) s) (told.opened_are allowance s sound are) ∙ told.found_there allowance s sound (key_of d k) k h refl

    pub absent_exactly : (y : ℕ) → (found_of ks y s ≡ None) ↔ ((k : ℕ) → k < count_of d → key_of d k ≡ y → ⊥)
    absent_exactly y = (
      λ none k h is. let it = found k h in let z : ◌≡◌ {A = ℕ} 0 1 = cc in omega arith,
      λ none. ap (λ (o : Keys). found_of o y s) (told.opened_are allowance s sound are) ∙ told.found_nowhere allowance s sound y none,
    )

    -- What is written reads back: where the directory begins with what is written of the numbers given, each of their keys is found with the
    -- value of its own four numbers.
    pub written_found : (given rest : List ℕ) → Words given → given_count given ≤ 8190 → d ≡ directory_bytes given ++ rest → (k : ℕ) → k < given_count given → found_of ks (given_key given k) s ≡ Some (key_value (given_key given k) (value_in s (given_entry given k)))
    written_found given rest small few is k h =
        let count : count_of d ≡ given_count given = rw is (back.count_back given rest small few) in
        let key : key_of d k ≡ given_key given k = rw is (back.key_back given rest small few k h) in
        let entry : entry_of d k ≡ given_entry given k = rw is (back.entry_back given rest small few k h) in
        ap (λ (y : ℕ). found_of ks y s) (sym key) ∙ found k (omega arith) ∙ (λ i. Some (key_value (key i) (value_in s (entry i))))

  -- "by index and count": doubles of eight bytes each, and bytes of text, that end in their own record, which lies in the file (`Lies`).
  module _ {d : List ℕ} (sound : Sound allowance s d) (k : ℕ) (below : k < count_of d) where
    pub number : (entry_of d k).location ≡ 0 → value_in s (entry_of d k) ≡ Number (entry_of d k).index
    number is = rw is

    pub doubles : (entry_of d k).location ≡ 34736 → (let e = entry_of d k in (l : Lies allowance s 34736 (8 * (e.index + e.count))) × (value_in s e ≡ Doubles (l.start + 8 * e.index) (8 * e.count)))
    doubles is = let l = told.doubles_lie allowance s (entry_of d k) is (told.ends allowance s sound k below) in (l, told.doubles_are allowance s (entry_of d k) is l)

    pub text : (entry_of d k).location ≡ 34737 → (let e = entry_of d k in (l : Lies allowance s 34737 (e.index + e.count)) × (value_in s e ≡ Text (l.start + e.index) e.count))
    text is = let l = told.text-lies allowance s (entry_of d k) is (told.ends allowance s sound k below) in (l, told.text_is allowance s (entry_of d k) is l)
