-- Lists of bytes that differ in one stretch alone.
use Rattle.std.specs.Prelude.{ℕ, ◌+◌, ◌-◌, ◌≤◌, ◌<◌, ◌≡◌, refl, List, length, set, take, drop}
use Rattle.std.proofs.Common.{ap, sym, ◌∙◌, arith, length-set, drop-drop, take-take, drop-set-lt}
use Rattle.std.proofs.lemmas.List.{take-set-le}
use Rattle.le.specs.Laws.{drop-take}

-- t is s but for `size` bytes from `at` on
pub record Elsewhere (at size : ℕ) (s t : List ℕ) : Type 0 where
  pub long : length t ≡ length s
  pub front : take at t ≡ take at s
  pub rest : drop (at + size) t ≡ drop (at + size) s

pub nowhere : {at size : ℕ} {s : List ℕ} → Elsewhere at size s s
nowhere = record { long = refl; front = refl; rest = refl }

pub then_elsewhere : {at size : ℕ} {s t u : List ℕ} → Elsewhere at size s t → Elsewhere at size t u → Elsewhere at size s u
then_elsewhere p q = record { long = q.long ∙ p.long; front = q.front ∙ p.front; rest = q.rest ∙ p.rest }

-- a byte of the stretch that is set
pub set_elsewhere : (at size : ℕ) (s : List ℕ) (i x : ℕ) → at ≤ i → i < at + size → Elsewhere at size s (set s i x)
set_elsewhere at size s i x from to = record { long = length-set s i x; front = take-set-le at s i x from; rest = drop-set-lt (at + size) s i x to }

module _ {at size : ℕ} {s t : List ℕ} (e : Elsewhere at size s t) where
  -- what ends before the stretch, and what begins behind it, is the same
  pub same-before : (from n : ℕ) → from + n ≤ at → take n (drop from t) ≡ take n (drop from s)
  same-before from n h =
      let cut : (l : List ℕ) → take n (drop from (take at l)) ≡ take n (drop from l) = λ l. ap (take n) (drop-take from at l) ∙ take-take n (at - from) (drop from l) (omega arith) in
      sym (cut t) ∙ ap (λ (l : List ℕ). take n (drop from l)) e.front ∙ cut s

  pub same_behind : (from : ℕ) → at + size ≤ from → drop from t ≡ drop from s
  same_behind from h =
      let k = from - (at + size) in
      let far : at + size + k ≡ from = omega arith in
      let step : (l : List ℕ) → drop from l ≡ drop k (drop (at + size) l) = λ l. ap (λ (n : ℕ). drop n l) (sym far) ∙ sym (drop-drop k (at + size) l) in
      step t ∙ ap (drop k) e.rest ∙ sym (step s)
