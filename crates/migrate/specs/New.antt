-- The new file, read: its header is the other one, its padding, its VLRs and what follows its points are the old file's, and its points are
-- the images of the old ones.
use Rattle.std.specs.Prelude.{Ok, ℕ, ◌+◌, ◌*◌, ◌-◌, ◌≡◌, Bool, take, drop, replicate}
use Rattle.judge.specs.Run.{run_of}
use Rattle.header.specs.Whole.{whole_of}
use Rattle.std.proofs.Math.Path.{refl, ap}
use Rattle.std.proofs.Common.{sym, ◌∙◌, arith, take_at, drop_at, drop-drop, length-take-le}
use mathlib.Core.List.{List, ◌++◌, append_assoc}
use Rattle.std.proofs.Math.ListN.{length, length-append, length-drop}
use Rattle.std.proofs.lemmas.List.{length-replicate}
use Rattle.header.specs.declared.Header.{Header}
use Rattle.header.specs.Layout.{VersionMinor, fields_of, size}
use Rattle.header.specs.Header.{number}
use Rattle.header.specs.Judged.{judged, read_of, header_in, padding_of}
use Rattle.header.specs.Answers.{header_is}
use Rattle.header.specs.Minor.{minor_read}
use Rattle.header_write.specs.Bytes.{block}
use Rattle.header_write.specs.Reread.{length_is, judged_again, read_again, padding_again}
use Rattle.outline.specs.declared.Outline.{Outline}
use Rattle.outline.specs.Outline.{outline_of, offset_is, header_size_is}
use Rattle.extents.specs.Extents.{points_end, vlr_bytes}
use Rattle.pairs.specs.declared.Plan.{Plan}
use Rattle.convert.specs.Run.{images_of}
use Rattle.migrate.specs.Migrate.{other_of, point_bytes, run_verdict, front_of, new_file, new_length}
use Rattle.migrate.specs.Steps.{Goer, Fronted}
use Rattle.migrate.specs.Laws.{front_long}
use Rattle.migrate.specs.Front.{other-readable, fronted}
use Rattle.migrate.specs.Done.{needed, images_long}

module _ (up : Bool) (h : Header) (s : List ℕ) (g : Goer up h s) {p : Plan} {m : ℕ} (goes : run_verdict up (outline_of h) s ≡ Ok (run_of p m)) where
  abbrev o : Outline
  o = outline_of h

  abbrev other : Header
  other = other_of up h

  abbrev n : Outline
  n = outline_of other

  abbrev images : List ℕ
  images = images_of up p o.number_of_point_records (point_bytes o s)

  abbrev rest : List ℕ
  rest = drop (points_end o) s

  abbrev new : List ℕ
  new = new_file up p h s

  abbrev front : List ℕ
  front = front_of other o s

  -- its pieces, and how long they are
  pub pieces : new ≡ front ++ (images ++ rest)
  unfolding new_file
  pieces = refl

  has-front : Fronted other o s (replicate other.offset_to_point_data 0)
  has-front = fronted up h s g (replicate other.offset_to_point_data 0) (rw length-replicate (omega arith))

  pub front-size : length front ≡ n.offset_to_point_data
  front-size = front_long other o s (replicate other.offset_to_point_data 0) has-front ∙ sym (offset_is other)

  pub images-size : length images ≡ points_end n - n.offset_to_point_data
  images-size = images_long up h s g goes ∙ needed up h s g goes

  pub new_long : length new ≡ new_length up h s
  unfolding new_length
  new_long =
      ap length pieces ∙ length-append front (images ++ rest) ∙ ap (λ (k : ℕ). length front + k) (length-append images rest)
      ∙ omega (arith, front-size, images-size, length-drop (points_end o) s)

  -- the header and its padding, and what follows them
  abbrev after : List ℕ
  after = vlr_bytes o s ++ (images ++ rest)

  pub headed : new ≡ (block other ++ padding_of s) ++ after
  unfolding front_of
  headed =
      pieces ∙ ap (λ (l : List ℕ). l ++ (images ++ rest)) (sym (append_assoc (block other) (padding_of s) (vlr_bytes o s)))
      ∙ append_assoc (block other ++ padding_of s) (vlr_bytes o s) (images ++ rest)

  abbrev standard : ℕ
  standard = size (fields_of other.version.minor)

  pub read_new : read_of new ≡ Ok other
  read_new = ap read_of headed ∙ read_again other (padding_of s) (other-readable up h s g) after

  pub judged-new : judged new ≡ Ok (whole_of standard (standard + length (padding_of s)))
  judged-new = ap judged headed ∙ judged_again other (padding_of s) (other-readable up h s g) after

  pub header_new : header_in new ≡ other
  header_new = sym (header_is new read_new)

  pub minor_new : number VersionMinor new ≡ other.version.minor
  minor_new = sym (minor_read new judged-new) ∙ ap (λ (x : Header). x.version.minor) header_new

  pub padding-new : padding_of new ≡ padding_of s
  padding-new = ap padding_of headed ∙ padding_again other (padding_of s) (other-readable up h s g) after

  pub vlrs_new : vlr_bytes n new ≡ vlr_bytes o s
  vlrs_new =
      let headed_long : length (block other ++ padding_of s) ≡ n.header_size =
      length-append (block other) (padding_of s) ∙ ap (λ (k : ℕ). k + length (padding_of s)) (length_is other (padding_of s) (other-readable up h s g)) ∙ sym has-front.padded ∙ sym (header_size_is other) in
      let long : length (vlr_bytes o s) ≡ n.offset_to_point_data - n.header_size =
      length-take-le (o.offset_to_point_data - o.header_size) (drop o.header_size s) (simp length-drop (omega (arith, has-front.after, has-front.within)))
      ∙ omega (arith, has-front.moved, header_size_is other, offset_is other) in
      ap (take (n.offset_to_point_data - n.header_size)) (ap (drop n.header_size) headed ∙ drop_at (block other ++ padding_of s) after n.header_size headed_long)
      ∙ take_at (vlr_bytes o s) (images ++ rest) (n.offset_to_point_data - n.header_size) long

  from-points : drop n.offset_to_point_data new ≡ images ++ rest
  from-points = ap (drop n.offset_to_point_data) pieces ∙ drop_at front (images ++ rest) n.offset_to_point_data front-size

  pub points-new : point_bytes n new ≡ images
  points-new =
      ap (take (n.number_of_point_records * n.point_data_record_length)) from-points
      ∙ take_at images rest (n.number_of_point_records * n.point_data_record_length) (omega (arith, images-size))

  pub rest-new : drop (points_end n) new ≡ rest
  rest-new =
      sym (drop-drop (n.number_of_point_records * n.point_data_record_length) n.offset_to_point_data new)
      ∙ ap (drop (n.number_of_point_records * n.point_data_record_length)) from-points
      ∙ drop_at images rest (n.number_of_point_records * n.point_data_record_length) (omega (arith, images-size))
