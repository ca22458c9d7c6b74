-- What the conversion of the points leaves in the place that is lent for them, and the new file with it.
use Rattle.std.specs.Prelude.{Result, Ok, Err, ℕ, ◌+◌, ◌*◌, ◌-◌, ◌≤◌, ◌<◌, ◌≡◌, Bool, true, false, ◌⊎◌, take}
use Rattle.refusal.specs.Refused.{at_record}
use Rattle.judge.specs.Run.{run_of}
use Rattle.refusal.specs.declared.Refused.{Refused}
use Rattle.std.proofs.Math.Path.{refl, sym, ap}
use Rattle.std.proofs.Common.{subst, ◌∙◌, inl, inr, arith, length-drop, length-append, drop_of_length-le, take-append-drop, length-take-le}
use mathlib.Core.List.{List, ◌++◌, append-nil}
use Rattle.std.proofs.Math.ListN.{length, drop}
use Rattle.refusal.specs.declared.Refusal.{Refusal}
use Rattle.refusal.specs.declared.Refusal.TheVariants.{NoRoom}
use Rattle.header.specs.declared.Header.{Header}
use Rattle.outline.specs.declared.Outline.{Outline}
use Rattle.outline.specs.Outline.{outline_of, offset_is}
use Rattle.extents.specs.Extents.{points_end}
use Rattle.pairs.specs.declared.Plan.{Plan}
use Rattle.judge.specs.Laws.{Ready, old_ready, new_ready}
use Rattle.convert.specs.Run.{images_of}
use Rattle.convert.specs.Demand.{ask_of, convert_of}
use Rattle.convert.specs.Laws.{takes_all, images-length}
use Rattle.convert.specs.Agree.{same_refusal, with_room, asked-bytes, asked_refusal}
use Rattle.migrate.specs.Migrate.{other_of, point_bytes, extra_in, run_verdict, front_of, new_file, new_length, placed, header_verdict, done_by}
use Rattle.migrate.specs.Steps.{Goer, around_of}
use Rattle.migrate.specs.Way.{plan_is}
use Rattle.migrate.specs.Moved.{moved, target-length}
use Rattle.migrate.specs.Laws.{whole-laid}
use Rattle.migrate.specs.Told.{by_points, roomy_done}

-- what a verdict of either way leaves to the writing
asked_ready : (up : Bool) (code extra count : ℕ) (s : List ℕ) → Ready up count s (ask_of up code extra count s)
asked_ready true = new_ready
asked_ready false = old_ready

module _ (up : Bool) (h : Header) (s : List ℕ) (g : Goer up h s) where
  abbrev o : Outline
  o = outline_of h

  abbrev n : Outline
  n = outline_of (other_of up h)

  abbrev points : List ℕ
  points = point_bytes o s

  -- the question of the points, as the conversion asks it
  abbrev code : ℕ
  code = o.point_data_record_format

  abbrev extra : ℕ
  extra = extra_in o

  abbrev count : ℕ
  count = o.number_of_point_records

  asks : run_verdict up o s ≡ ask_of up code extra count points
  unfolding run_verdict
  asks = refl

  -- where they go, the place that the new header gives them is what they need
  module _ {p : Plan} {m : ℕ} (e : run_verdict up o s ≡ Ok (run_of p m)) where
    pub needed : m ≡ points_end n - n.offset_to_point_data
    needed =
        let q = (plan_is (moved up h s g).format extra count points (sym asks ∙ e)).1 in
        let each : m ≡ n.number_of_point_records * n.point_data_record_length =
        q ∙ (λ i. sym (moved up h s g).count i * target-length up h s g i) in
        omega arith

    pub images_long : length (images_of up p count points) ≡ m
    images_long =
        let r = subst (Ready up count points) (sym asks ∙ e) (asked_ready up code extra count points) in
        images-length up p r.0 count points (takes_all up p r.0 count points r.1.records) r.1.there ∙ sym r.2

  module _ (d : List ℕ) (room : points_end n ≤ length d) where
    abbrev from : ℕ
    from = n.offset_to_point_data

    abbrev place : List ℕ
    place = take (points_end n - from) (drop from d)

    placed_long : length place ≡ points_end n - from
    placed_long = length-take-le (points_end n - from) (drop from d) (simp length-drop (omega arith))

    -- a refusal is the question's, and leaves the place
    pub points-refused : {r : Refusal} {k : ℕ} {ys : List ℕ} → (Err (at_record r k), ys) ≡ convert_of up code extra count points place → (run_verdict up o s ≡ Err (at_record r k)) × (ys ≡ place)
    points-refused {r} {k} {ys} e = go (asked_refusal up code extra count points place (sym e))
      where
        go : (ask_of up code extra count points ≡ Err (at_record r k)) ⊎ ((p : Plan) × (m : ℕ) × (ask_of up code extra count points ≡ Ok (run_of p m)) × (r ≡ NoRoom m) × (length place < m)) → (run_verdict up o s ≡ Err (at_record r k)) × (ys ≡ place)
        go (inl a) = (asks ∙ a, ap (λ (w : Result ℕ Refused × List ℕ). w.1) (e ∙ same_refusal up code extra count points place a))
        go (inr (p, m, a, why, short)) = absurd (omega (arith, short, placed_long, needed (asks ∙ a)))

    -- bytes are those of the points' images
    pub points-written : {m : ℕ} {ys : List ℕ} → (Ok m, ys) ≡ convert_of up code extra count points place → (p : Plan) × (run_verdict up o s ≡ Ok (run_of p m)) × (ys ≡ images_of up p count points)
    points-written {m} {ys} e =
        let a = asked-bytes up code extra count points place (sym e) in
        let p = a.0.0 in
        let full : length place ≤ m = omega (arith, placed_long, needed (asks ∙ a.0.1)) in
        let w = ap (λ (w : Result ℕ Refused × List ℕ). w.1) (e ∙ with_room up code extra count points place a.0.1 a.1) in
        (p, asks ∙ a.0.1, w ∙ ap (λ (l : List ℕ). images_of up p count points ++ l) (drop_of_length-le place full) ∙ append-nil (images_of up p count points))

    abbrev lent : List ℕ → List ℕ
    lent ys = take from d ++ (ys ++ drop (points_end n - from) (drop from d))

    -- so a refusal leaves the destination
    pub all-refused : {r : Refusal} {k : ℕ} {ys : List ℕ} → (Err (at_record r k), ys) ≡ convert_of up code extra count points place → ◌≡◌ {A = Result ℕ Refused × List ℕ} (Err (at_record r k), lent ys) (done_by up h s d (header_verdict up h s))
    all-refused {r} {k} {ys} e =
        let w = points-refused e in
        let same : lent ys ≡ d = ap lent w.1 ∙ ap (λ (l : List ℕ). take from d ++ l) (take-append-drop (points_end n - from) (drop from d)) ∙ take-append-drop from d in
        ap (λ (l : List ℕ). (Err (at_record r k), l)) same
        ∙ sym (ap (done_by up h s d) (by_points up h s g.yes ∙ ap (placed (new_length up h s)) w.0))

    -- bytes leave it as long as it was,
    pub still_long : {m : ℕ} {ys : List ℕ} → (Ok m, ys) ≡ convert_of up code extra count points place → length (lent ys) ≡ length d
    still_long {m} {ys} e =
        let w = points-written e in
        let long : length ys ≡ points_end n - from = ap length w.2 ∙ images_long w.1 ∙ needed w.1 in
        let after : length (drop (points_end n - from) (drop from d)) ≡ length d - points_end n = simp length-drop (omega arith) in
        length-append (take from d) _ ∙ ap (λ (k : ℕ). length (take from d) + k) (length-append ys (drop (points_end n - from) (drop from d)))
        ∙ omega (arith, length-take-le from d (omega arith), long, after)

    -- and with what lies around them the images are the new file
    pub all-written : {m : ℕ} {ys : List ℕ} → new_length up h s ≤ length d → (Ok m, ys) ≡ convert_of up code extra count points place → (total : ℕ) → total ≡ new_length up h s → ◌≡◌ {A = Result ℕ Refused × List ℕ} (Ok total, around_of (other_of up h) o (points_end n) s (lent ys)) (done_by up h s d (header_verdict up h s))
    unfolding new_length new_file
    all-written {m} {ys} fits e total is =
        let w = points-written e in
        let p = w.0 in
        let images = images_of up p count points in
        let rest = drop (points_end o) s in
        let long : length images ≡ points_end n - from = images_long w.1 ∙ needed w.1 in
        let end : points_end n + length rest ≡ new_length up h s = ap (λ (k : ℕ). points_end n + k) (length-drop (points_end o) s) in
        let images-there : lent ys ≡ lent images = ap lent w.2 in
        let laid = whole-laid d (front_of (other_of up h) o s) images rest (lent ys) from (points_end n) (omega arith) (omega (arith, end)) long images-there in
        ap (λ (k : ℕ). (Ok k, around_of (other_of up h) o (points_end n) s (lent ys))) is
        ∙ ap (λ (l : List ℕ). (Ok (new_length up h s), l))
        (ap (λ (k : ℕ). front_of (other_of up h) o s ++ (take (points_end n - k) (drop k (lent ys)) ++ (rest ++ drop (points_end n + length rest) (lent ys)))) (sym (offset_is (other_of up h)))
        ∙ laid ∙ ap (λ (k : ℕ). new_file up p h s ++ drop k d) end)
        ∙ sym (ap (done_by up h s d) (by_points up h s g.yes ∙ ap (placed (new_length up h s)) w.1) ∙ roomy_done up h s d p (new_length up h s) m fits)
