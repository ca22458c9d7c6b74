-- An append: document 02, No. 1.
use Rattle.std.specs.Prelude.{Result, Ok, Err}
use Rattle.refusal.specs.declared.Refused.{Refused}
use Rattle.std.specs.Prelude.{ℕ, List}
use Rattle.offer.specs.declared.Offer.{Offer}
use Rattle.offer.specs.declared.Offer.TheVariants as offer
use Rattle.offer.specs.Offer.{offer_of}
use Rattle.sectors.specs.Sectors.{stores_of, after_stores}
use Rattle.append.specs.declared.Appended.{Appended}
use Rattle.append.specs.declared.Appended.TheVariants.{Added, AlreadyIn}

-- what is done with an offer: all stores of the sweep; "'already in', nothing written"; or a refusal
abbrev pub appended_by : Result Offer Refused → List ℕ → List ℕ → List ℕ → Result Appended Refused × List ℕ
appended_by (Ok (offer.Add w)) records bounds s = ((Ok Added), after_stores w records bounds (stores_of w) s)
appended_by (Ok offer.AlreadyIn) records bounds s = ((Ok AlreadyIn), s)
appended_by (Err err) records bounds s = (Err err, s)

unfoldable pub appended_of : ℕ → List ℕ → ℕ → List ℕ → ℕ → List ℕ → Result Appended Refused × List ℕ
appended_of allowance records n bounds believed s = appended_by (offer_of allowance records n believed s) records bounds s
