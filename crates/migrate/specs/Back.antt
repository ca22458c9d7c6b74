-- A file that went up, and comes down again.
use Rattle.std.specs.Prelude.{Result, Ok, Err, ℕ, ◌+◌, ◌*◌, ◌-◌, ◌≤◌, ◌≡◌, Bool, take, replicate}
use Rattle.judge.specs.Run.{run_of, run_same}
use Rattle.header.specs.Whole.{whole_of}
use Rattle.refusal.specs.declared.Refused.{Refused}
use Rattle.judge.specs.declared.Run.{Run}
use Rattle.std.proofs.Common.{sym, subst, ◌∙◌, take-append-drop, take-add, length-take-le, drop-drop}
use Rattle.std.proofs.Math.Path.{ap}
use Rattle.std.proofs.Math.Bool.{true, false}
use mathlib.Core.List.{List, [], ◌++◌, append_assoc, append-nil}
use native.Mathlib.Omega.{arith}
use Rattle.std.proofs.Math.ListN.{length, drop, length-drop, drop_of_length-le}
use Rattle.std.proofs.lemmas.List.{length-replicate}
use Rattle.le.specs.Le as le
use Rattle.le.specs.Laws.{bytes_take, bytes_drop}
use Rattle.format.specs.Fields.{record_bytes}
use Rattle.header.specs.declared.Header.{Header}
use Rattle.header.specs.Layout.{HeaderSize}
use Rattle.header.specs.Header.{number}
use Rattle.header.specs.Judged.{judged, header_in, padding_of}
use Rattle.header.specs.Answers.{size_read, padded_field}
use Rattle.header.specs.Minor.{minor_read}
use Rattle.header_write.specs.Bytes.{block}
use Rattle.header_write.specs.Theorems as write
use Rattle.outline.specs.declared.Outline.{Outline}
use Rattle.outline.specs.Outline.{outline_of, header_size_is}
use Rattle.extents.specs.Extents.{points_end, vlr_bytes}
use Rattle.file.specs.Holds.{standard_in, holds-judged}
use Rattle.file.specs.Theorems.{accepted}
use Rattle.pairs.specs.declared.Plan.{Plan}
use Rattle.pairs.specs.Pairs.{format_with}
use Rattle.convert.specs.Run.{images_of, to_new_of}
use Rattle.convert.specs.Demand.{ask_of, Up, from_1, from_3, run_length, No28, AllWithin90, laid}
use Rattle.convert.specs.Agree as run
use Rattle.convert.specs.Theorems.{up-and-down-run, down-again-run}
use Rattle.header_convert.specs.Turned.{new_header, old_header, old_goes}
use Rattle.header_convert.specs.Is.{version_is}
use Rattle.header_convert.specs.Goes.{GoesUp, goes-up, down_goes}
use Rattle.header_convert.specs.Back.{goes_back, header_back_lem}
use Rattle.migrate.specs.Migrate.{point_bytes, extra_in, run_verdict, front_of, new_file, new_length, placed, file_verdict}
use Rattle.migrate.specs.Steps.{Goer}
use Rattle.migrate.specs.Way.{Way, up_1, up_3, extra_is}
use Rattle.migrate.specs.Moved.{moved, parts, source_length, target-length, holds-length}
use Rattle.migrate.specs.Told.{by_accepted, by_points}
use Rattle.migrate.specs.Front.{own_readable}
use Rattle.migrate.specs.Done.{images_long}
use Rattle.migrate.specs.New.{header_new, padding-new, vlrs_new, points-new, rest-new}
use Rattle.migrate.specs.Again.{holds-new, accepted-new}
use Rattle.migrate.specs.Answer.{Going, goer}

way_up : {a b : ℕ} → Way true a b → Up a b
way_up up_1 = from_1
way_up up_3 = from_3

-- a file is its header and padding, its VLRs, its points and what follows them
module _ (up : Bool) (h : Header) (s : List ℕ) (g : Goer up h s) where
  abbrev o : Outline
  o = outline_of h

  whole : judged s ≡ Ok (whole_of (standard_in s) o.header_size)
  whole =
      let p = holds-judged s g.ready.holds.header in
      let field : o.header_size ≡ number HeaderSize s = header_size_is h ∙ ap (λ (x : Header). x.header_size) g.ready.read ∙ size_read s p in
      p ∙ ap (λ (e : ℕ). Ok (whole_of (standard_in s) e)) (padded_field (standard_in s) (number HeaderSize s) (omega (arith, (parts up h s g).header-size)) ∙ sym field)

  in_order : block h ++ padding_of s ≡ take o.header_size s → (block h ++ (padding_of s ++ vlr_bytes o s)) ++ (point_bytes o s ++ drop (points_end o) s) ≡ s
  in_order first =
      let q = parts up h s g in
      let a = o.header_size in
      let b = o.offset_to_point_data in
      let c = o.number_of_point_records * o.point_data_record_length in
      let split : a + (b - a) ≡ b = omega (arith, q.offset_after_header) in
      let front : block h ++ (padding_of s ++ vlr_bytes o s) ≡ take b s =
      sym (append_assoc (block h) (padding_of s) (vlr_bytes o s)) ∙ ap (λ (l : List ℕ). l ++ vlr_bytes o s) first ∙ sym (take-add a (b - a) s) ∙ ap (λ (k : ℕ). take k s) split in
      ap (λ (l : List ℕ). l ++ (point_bytes o s ++ drop (points_end o) s)) front
      ∙ ap (λ (l : List ℕ). take b s ++ (point_bytes o s ++ l)) (sym (drop-drop c b s))
      ∙ ap (λ (l : List ℕ). take b s ++ l) (take-append-drop c (drop b s))
      ∙ take-append-drop b s

-- a verdict that goes when placed goes
goes-placed : (n : ℕ) (v : Result Run Refused) {p : Plan} {m : ℕ} → placed n v ≡ Ok (run_of p m) → (k : ℕ) × (v ≡ Ok (run_of p k))
goes-placed n (Ok run) {p} {m} e =
    (run.bytes, ap (λ (x : Plan). Ok (run_of x run.bytes)) (run_same e).0)
goes-placed n (Err err) e = let z : ◌≡◌ {A = ℕ} 0 1 = cc in absurd (omega arith)

-- an old file that went up
module _ (allowance : ℕ) (s : List ℕ) (bytes : le.Bytes s) {p : Plan} {n : ℕ} (w : Going true allowance s p n) where
  abbrev h : Header
  h = header_in s

  abbrev q : Outline
  q = outline_of h

  abbrev g : Goer true h s
  g = goer true allowance s bytes w

  abbrev new : List ℕ
  new = new_file true p h s

  abbrev h' : Header
  h' = new_header h

  abbrev q' : Outline
  q' = outline_of h'

  u : GoesUp h
  u = goes-up h w.yes

  abbrev count : ℕ
  count = q.number_of_point_records

  abbrev extra : ℕ
  extra = extra_in q

  abbrev points : List ℕ
  points = point_bytes q s

  abbrev images : List ℕ
  images = images_of true p count points

  pair : Up q.point_data_record_format q'.point_data_record_format
  pair = way_up (moved true h s g).format

  same-h : old_header h' ≡ h
  same-h = header_back_lem h (padding_of s) (own_readable true h s g) u

  yes_down : old_goes h' ≡ Ok tt
  yes_down = down_goes h' (goes_back h (padding_of s) (own_readable true h s g) u)

  -- the run went up
  went_up : to_new_of q.point_data_record_format extra count points images ≡ (Ok w.bytes, images)
  unfolding run_verdict
  went_up =
      let long : length images ≡ w.bytes = images_long true h s g w.points in
      let full : length images ≤ w.bytes = omega arith in
      let past : drop w.bytes images ≡ [] = drop_of_length-le images full in
      run.with_room true q.point_data_record_format extra count points images w.points (omega arith)
      ∙ ap (λ (l : List ℕ). (Ok w.bytes, images ++ l)) past
      ∙ ap (λ (l : List ℕ). (Ok w.bytes, l)) (append-nil images)

  points_long : length points ≡ run_length q.point_data_record_format extra count
  points_long =
      length-take-le (count * q.point_data_record_length) (drop q.offset_to_point_data s) (simp length-drop (omega (arith, (parts true h s g).points-within)))
      ∙ ap (λ (k : ℕ). count * k) (sym (source_length true h s g))

  points-bytes : le.Bytes points
  points-bytes = bytes_take (count * q.point_data_record_length) (drop q.offset_to_point_data s) (bytes_drop q.offset_to_point_data s bytes)

  -- as many extra bytes
  extra-same : extra_in q' ≡ extra
  extra-same =
      let own = holds-length g.ready.allowance new (holds-new true h s g w.points) in
      let read = subst (λ (x : Header). record_bytes (format_with (outline_of x).point_data_record_format (extra_in (outline_of x))) ≡ (outline_of x).point_data_record_length) (header_new true h s g w.points) own in
      extra_is q'.point_data_record_format (extra_in q') extra (read ∙ sym (target-length true h s g))

  -- its question on the way down is that of its new points
  same_question : run_verdict false (outline_of (header_in new)) new ≡ ask_of false q'.point_data_record_format extra count images
  unfolding run_verdict
  same_question =
      let to = header_new true h s g w.points in
      ap (λ (x : Header). ask_of false (outline_of x).point_data_record_format (extra_in (outline_of x)) (outline_of x).number_of_point_records (point_bytes (outline_of x) new)) to
      ∙ λ i. ask_of false q'.point_data_record_format (extra-same i) ((moved true h s g).count i) (points-new true h s g w.points i)

  -- so is the file's, which is accepted
  asked_down : file_verdict false allowance new ≡ placed (new_length false (header_in new) new) (ask_of false q'.point_data_record_format extra count images)
  asked_down =
      let to = header_new true h s g w.points in
      let records = ((accepted allowance s).0 w.accepted).1 in
      by_accepted false allowance new (accepted-new true h s g w.points records)
      ∙ by_points false (header_in new) new (subst (λ (x : Header). old_goes x ≡ Ok tt) (sym to) yes_down)
      ∙ ap (placed (new_length false (header_in new) new)) same_question

  -- the new file of the new one, by whatever plan, is the old one, but for its points
  length_back : new_length false (header_in new) new ≡ length s
  unfolding new_length
  length_back =
      ap (λ (x : Header). points_end (outline_of (old_header x)) + (length new - points_end (outline_of x))) (header_new true h s g w.points)
      ∙ ap (λ (x : Header). points_end (outline_of x) + (length new - points_end q')) same-h
      ∙ omega (arith, ap length (rest-new true h s g w.points), length-drop (points_end q') new, length-drop (points_end q) s, (parts true h s g).points-within)

  file_back : (p' : Plan) → images_of false p' count images ≡ points → new_file false p' (header_in new) new ≡ s
  unfolding new_file front_of
  file_back p' same =
      let to = header_new true h s g w.points in
      let first = write.same_bytes s bytes (whole true h s g) (λ four. absurd (omega (arith, minor_read s (whole true h s g), version_is 2 1 3 h u.is))) in
      ap (λ (x : Header). new_file false p' x new) to
      ∙ (λ i. (block (same-h i) ++ (padding-new true h s g w.points i ++ vlrs_new true h s g w.points i)) ++ (images_of false p' ((moved true h s g).count i) (points-new true h s g w.points i) ++ rest-new true h s g w.points i))
      ∙ ap (λ (l : List ℕ). (block h ++ (padding_of s ++ vlr_bytes q s)) ++ (l ++ drop (points_end q) s)) same
      ∙ in_order true h s g first

  -- with no class 28 and ranks within ±90 it comes back
  pub comes_back : No28 q.point_data_record_format extra count points → AllWithin90 q.point_data_record_format extra count points → (p' : Plan) × (file_verdict false allowance new ≡ Ok (run_of p' (length s))) × (new_file false p' (header_in new) new ≡ s)
  comes_back no28 ranks =
      let whole_run = run_length q.point_data_record_format extra count in
      let down = up-and-down-run pair extra count points images points-bytes went_up no28 ranks points (omega (arith, points_long)) in
      let asked = run.asked-bytes false q'.point_data_record_format extra count images points down in
      let p' = asked.0.0 in
      let laid_own : laid whole_run points points ≡ points = take-append-drop whole_run points in
      let written = sym (run.with_room false q'.point_data_record_format extra count images points asked.0.1 asked.1) ∙ down in
      let full : length points ≤ whole_run = omega (arith, points_long) in
      let past : drop whole_run points ≡ [] = drop_of_length-le points full in
      let same : images_of false p' count images ≡ points =
      sym (append-nil (images_of false p' count images)) ∙ ap (λ (l : List ℕ). images_of false p' count images ++ l) (sym past) ∙ ap (λ (x : Result ℕ Refused × List ℕ). x.1) written ∙ laid_own in
      (p', asked_down ∙ ap (placed (new_length false (header_in new) new)) asked.0.1 ∙ ap (λ (b : ℕ). Ok (run_of p' b)) length_back, file_back p' same)

  -- and only then
  pub comes_only : {p' : Plan} {m : ℕ} → file_verdict false allowance new ≡ Ok (run_of p' m) → No28 q.point_data_record_format extra count points × AllWithin90 q.point_data_record_format extra count points
  comes_only {p'} {m} goes =
      let asked = goes-placed _ (ask_of false q'.point_data_record_format extra count images) (sym asked_down ∙ goes) in
      let room : List ℕ = replicate (asked.0 + run_length q.point_data_record_format extra count) 0 in
      let long : length room ≡ asked.0 + run_length q.point_data_record_format extra count = length-replicate _ 0 in
      (down-again-run pair extra count points images points-bytes went_up room (omega arith)).0
      (_, _, run.with_room false q'.point_data_record_format extra count images room asked.1 (omega arith))
