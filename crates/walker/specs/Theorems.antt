-- What a walker's answers add up to: document 01, "A point walker over the lent file starts with the file check and its refusals,
-- gives each record in turn, and at the end answers 27 and stays."
use Rattle.std.specs.Prelude.{Some, Ok, Err}
use Rattle.rules.specs.NotAccepted.{not_accepted}
use Rattle.refusal.specs.Refused.{at_record}
use Rattle.std.specs.Prelude.{ℕ, ◌+◌, ◌*◌, ◌≤◌, ◌<◌, ◌≡◌, true, length, take, drop}
use Rattle.std.proofs.Math.Path.{ap, subst}
use Rattle.std.proofs.Common.{◌∙◌}
use Rattle.std.proofs.Math.Bool.{and-false}
use mathlib.Core.List.{List}
use borrow.Author.Tests.{lt-leb}
use Rattle.std.specs.Borrow.{Bor}
use Rattle.le.specs.Le.{Bytes}
use Rattle.refusal.specs.declared.Refusal.{Refusal}
use Rattle.refusal.specs.declared.Refusal.TheVariants.{Index}
use Rattle.format.specs.declared.Format.{Format}
use Rattle.format.specs.declared.Field.TheVariants.{Nir}
use Rattle.format.specs.Fields.{record_bytes}
use Rattle.point.specs.Read.{number_in, point_of}
use Rattle.point.specs.Read as point
use Rattle.point.specs.Theorems.{nir_shown}
use Rattle.header.specs.Judged.{header_in}
use Rattle.outline.specs.declared.Outline.{Outline}
use Rattle.outline.specs.Outline.{outline_of}
use Rattle.file.specs.Rules.{checked_of}
use Rattle.file.specs.Points.{point_format}
use Rattle.walker.specs.declared.Walker.{Walker}
use Rattle.walker.specs.Begin.{first_place, refused_place, begin_of, walker_of}
use Rattle.walker.specs.Walk.{has_next, record_of, refusal_of}
use Rattle.walker.specs.Steps.{walked_on, answer_of, gives, reads, shows, ends, repeats, by_count}
use Rattle.walker.specs.Accepted.{first_of, at_first, ready, nth_is}

-- "a refused walker repeats its refusal"
pub refused_repeats : (w : Walker) (r : Refusal) (m : ℕ) → w.place.start ≡ Err (at_record r m) → (k : ℕ) → answer_of k w ≡ Err (at_record r m)
unfolding has_next refusal_of
refused_repeats w r m e k = repeats w (rw e) k ∙ rw e

-- "A walker with an overlong format or a next record outside its file answers 27 too, with the count it holds", and stays.
module _ (w : Walker) (a : w.place.start ≡ (Ok tt)) where
  pub overlong : 65535 < record_bytes w.place.format → (k : ℕ) → answer_of k w ≡ Err (at_record (Index w.place.count) 0)
  unfolding has_next
  overlong h k = repeats w (rw (a, lt-leb _ _ h)) k ∙ by_count w.place a

  pub outside : length w.file.now < w.place.at + record_bytes w.place.format → (k : ℕ) → answer_of k w ≡ Err (at_record (Index w.place.count) 0)
  unfolding has_next
  outside h k = repeats w (rw (a, lt-leb _ _ h, and-false, and-false)) k ∙ by_count w.place a

module _ (allowance : ℕ) (file : Bor (List ℕ)) where
  -- "starts with the file check and its refusals": a refused file is answered by the check's refusal, for ever.
  pub refused_file : (r : Refusal) (m n : ℕ) → checked_of allowance file.now ≡ Err (not_accepted r m n) → (k : ℕ) → answer_of k (walker_of allowance file) ≡ Err (at_record r m)
  unfolding walker_of begin_of refused_place
  refused_file r m n refusal k = refused_repeats (walker_of allowance file) r m (rw refusal) k

  module _ (n : ℕ) (accepted : checked_of allowance file.now ≡ Ok n) (bytes : Bytes file.now) where
    abbrev o : Outline
    o = outline_of (header_in file.now)

    -- the header's format, and the k-th record, counted from 0, by the header's record length
    abbrev f : Format
    f = point_format o

    abbrev nth : ℕ → List ℕ
    nth k = take o.point_data_record_length (drop (o.offset_to_point_data + k * o.point_data_record_length) file.now)

    -- "gives each record in turn": the k-th answer is the point reader's answer on the k-th record.
    pub in_turn : (k : ℕ) → k < o.number_of_point_records → (point.read_of f (nth k) ≡ Ok (point_of f (nth k))) × (answer_of k (walker_of allowance file) ≡ Ok (point_of f (nth k)))
    unfolding first_place
    in_turn k h =
        let r = ready allowance file n accepted bytes in
        subst (λ (l : List ℕ). (point.read_of f l ≡ Ok (point_of f l)) × (answer_of k (walker_of allowance file) ≡ Ok (point_of f l)))
        (nth_is allowance file n accepted k)
        (reads k (first_of file) r h, ap (answer_of k) (at_first allowance file n accepted) ∙ gives k (first_of file) r h)

    -- Document 02, No. 5: "Point reader, walker .. say so": where the format has near infrared, the k-th point shows the number that its
    -- record stores, 0 too.
    pub nir_in_turn : f.has_nir ≡ true → (k : ℕ) → k < o.number_of_point_records → (answer_of k (walker_of allowance file) ≡ Ok (point_of f (nth k))) × ((point_of f (nth k)).nir ≡ Some (number_in f Nir (nth k)))
    nir_in_turn has k h = ((in_turn k h).1, nir_shown f (nth k) (point_of f (nth k)) (in_turn k h).0 has)

    -- The record whose point is answered, and so its extra bytes, is those bytes of the file.
    pub bytes_in_turn : (k : ℕ) → k < o.number_of_point_records → record_of file.now (walked_on k (walker_of allowance file)).place ≡ nth k
    unfolding first_place
    bytes_in_turn k h =
        ap (λ (w : Walker). record_of file.now (walked_on k w).place) (at_first allowance file n accepted)
        ∙ shows k (first_of file) (ready allowance file n accepted bytes) h ∙ nth_is allowance file n accepted k

    -- "and at the end answers 27 and stays": with the point count.
    pub at_the_end : (k : ℕ) → o.number_of_point_records ≤ k → answer_of k (walker_of allowance file) ≡ Err (at_record (Index o.number_of_point_records) 0)
    unfolding first_place
    at_the_end k h = ap (answer_of k) (at_first allowance file n accepted) ∙ ends k (first_of file) (ready allowance file n accepted bytes) h
