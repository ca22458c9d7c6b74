use Rattle.std.proofs.lemmas.Result.{err_from_is_err_and}
use Rattle.std.specs.Prelude.{Result, Ok, Err}
use Rattle.refusal.specs.declared.Refused.{Refused}
use Prim.Native.Nat.{ℕ, ◌-◌, ◌≤◌}
use mathlib.Core.Path.{◌≡◌, ap, sym, subst, ◌∙◌}
use mathlib.Core.List.{List, ◌++◌}
use native.Mathlib.Omega.{arith}
use lib.ListN.{length, take, drop}
use Rattle.header.specs.declared.Header.{Header}
use Rattle.outline.specs.declared.Outline.{Outline}
use Rattle.outline.specs.Outline.{outline_of, offset_is}
use Rattle.extents.specs.Extents.{points_end}
use Rattle.convert.specs.Demand.{convert_of}
use Rattle.migrate.specs.Migrate.{other_of, point_bytes, extra_in, run_verdict, new_length, placed, header_verdict, done_by}
use Rattle.migrate.specs.Steps.{Inside, Around, around_of, around_at}
use Rattle.migrate.specs.Moved.{parts, length-fits}
use Rattle.migrate.specs.Told.{by_points, refused_done, roomless_done}
use Rattle.migrate.specs.Front.{fronted}
use Rattle.migrate.specs.Done.{all-refused, still_long, all-written}
use Rattle.migrate.proofs.write_goer.Goals as goal
use Rattle.migrate.proofs.write_goer.Goals.{After-ask_points, After-convert_points, After-new_length-total, After-of-n, In_ok-convert_points, Start}

-- The outlines are those of the two headers; by them the place that is lent is that of the new file's points, and the rest lies around it.
module _ (e : After-of-n) where
  abbrev begun : Start
  begun = (goal.at.After-of-n e).Start

  abbrev h : Header
  h = begun.args.header

  abbrev s : List ℕ
  s = begun.args.file.now

  -- the two outlines
  is_old : e.of-o.result ≡ outline_of h
  is_old = e.of-o.ensures

  is_new : e.of-n.result ≡ outline_of (other_of begun.args.up h)
  is_new = e.of-n.ensures ∙ ap outline_of e.other-new.ensures

  inside : Inside (outline_of h) s
  inside = record { within = (parts begun.args.up h s begun.requires).points-within; known = omega arith }

  inside-read : Inside e.of-o.result s
  inside-read = subst (λ (o : Outline). Inside o s) (sym is_old) inside

pub new_length-total-requires : goal.new_length-total-requires
unfolding new_length
new_length-total-requires c =
    let a = (begun c).args in
    (omega (arith, ap points_end (is_old c), (inside c).within), omega (arith, ap points_end (is_new c), ap points_end (is_old c), length-fits a.up a.header a.file.now (begun c).requires (inside c).known))

total-is : (x : After-new_length-total) → let a = (begun (goal.at.After-new_length-total x).After-of-n).args in x.new_length-total.result ≡ new_length a.up a.header a.file.now
unfolding new_length
total-is x = omega (arith, x.new_length-total.ensures, ap points_end (is_new (goal.at.After-new_length-total x).After-of-n), ap points_end (is_old (goal.at.After-new_length-total x).After-of-n))

-- without room the points are only asked for
asked : (x : After-ask_points) → header_verdict x.args.up x.args.header x.args.file.now ≡ placed (new_length x.args.up x.args.header x.args.file.now) x.ask_points.result
asked x =
    let a = x.args in
    let v = x.ask_points.ensures ∙ ap (λ (o : Outline). run_verdict a.up o a.file.now) (is_old (goal.at.After-ask_points x).After-of-n) in
    by_points a.up a.header a.file.now x.requires.yes ∙ ap (placed (new_length a.up a.header a.file.now)) (sym v)

pub returns-in_err-ask_points : goal.returns-in_err-ask_points
returns-in_err-ask_points c =
    let a = c.args in
    let p = err_from_is_err_and c.from_residual.result c.from_residual.ensures.1 in
    rw (p.1, p.2) (sym (ap (done_by a.up a.header a.file.now a.dst.now) (asked (goal.at.returns-in_err-ask_points c).After-ask_points) ∙ refused_done a.up a.header a.file.now a.dst.now (new_length a.up a.header a.file.now) c.in_err-ask_points.was))

pub returns-then-dst-total : goal.returns-then-dst-total
returns-then-dst-total c =
    let a = c.args in
    let total = total-is (goal.at.returns-then-dst-total c).After-new_length-total in
    rw (c.into.ensures, total)
    (sym (ap (done_by a.up a.header a.file.now a.dst.now) (asked (goal.at.returns-then-dst-total c).After-ask_points) ∙ roomless_done a.up a.header a.file.now a.dst.now (new_length a.up a.header a.file.now) c.in_ok-ask_points.was (omega (arith, total, c.if-dst-total.true))))

-- what the conversion of the points answered and left, by the outlines of the headers
module _ (x : After-convert_points) where
  abbrev at : After-of-n
  at = (goal.at.After-convert_points x).After-of-n

  end_is : x.end_of-to.result ≡ points_end (outline_of (other_of (begun at).args.up (h at)))
  end_is = x.end_of-to.ensures ∙ ap points_end (is_new at)

  abbrev left : List ℕ
  left = x.convert_points.new.dst

  -- the destination with the points in their place
  abbrev lent : Outline → ℕ → List ℕ
  lent n to = take n.offset_to_point_data (begun at).args.dst.now ++ (left ++ drop (to - n.offset_to_point_data) (drop n.offset_to_point_data (begun at).args.dst.now))

  converted : let a = (begun at).args in let o = outline_of (h at) in let n = outline_of (other_of a.up (h at)) in ◌≡◌ {A = Result ℕ Refused × List ℕ} (x.convert_points.result, left) (convert_of a.up o.point_data_record_format (extra_in o) o.number_of_point_records (point_bytes o (s at)) (take (points_end n - n.offset_to_point_data) (drop n.offset_to_point_data a.dst.now)))
  converted =
      let a = (begun at).args in
      x.convert_points.ensures
      ∙ λ i. convert_of a.up (is_old at i).point_data_record_format (extra_in (is_old at i)) (is_old at i).number_of_point_records (point_bytes (is_old at i) (s at)) (take (end_is i - (is_new at i).offset_to_point_data) (drop (is_new at i).offset_to_point_data a.dst.now))

  room : new_length (begun at).args.up (h at) (s at) ≤ length (begun at).args.dst.now
  room = omega (arith, total-is (goal.at.After-convert_points x).After-new_length-total, x.if-dst-total.false)

  fits : points_end (outline_of (other_of (begun at).args.up (h at))) ≤ length (begun at).args.dst.now
  unfolding new_length
  fits = omega (arith, room)

pub returns-in_err-convert_points : goal.returns-in_err-convert_points
returns-in_err-convert_points c =
    let a = c.args in
    let x = (goal.at.returns-in_err-convert_points c).After-convert_points in
    let p = err_from_is_err_and c.from_residual-in_err-convert_points.result c.from_residual-in_err-convert_points.ensures.1 in
    let told = c.in_err-convert_points.was in
    rw (p.1, p.2)
    (ap (λ (l : List ℕ). (Err c.in_err-convert_points.field-0.0, l)) (λ i. lent x (is_new (at x) i) (end_is x i))
    ∙ all-refused a.up a.header a.file.now c.requires a.dst.now (fits x) (sym (ap (λ (r : Result ℕ Refused). (r, left x)) told) ∙ converted x))

-- the points are written
module _ (w : In_ok-convert_points) where
  abbrev ran : After-convert_points
  ran = (goal.at.In_ok-convert_points w).After-convert_points

  abbrev new : Header
  new = other_of (begun (at ran)).args.up (h (at ran))

  bytes : let a = (begun (at ran)).args in let o = outline_of (h (at ran)) in let n = outline_of new in ◌≡◌ {A = Result ℕ Refused × List ℕ} (Ok w.in_ok-convert_points.field-0, left ran) (convert_of a.up o.point_data_record_format (extra_in o) o.number_of_point_records (point_bytes o (s (at ran))) (take (points_end n - n.offset_to_point_data) (drop n.offset_to_point_data a.dst.now)))
  bytes = sym (ap (λ (r : Result ℕ Refused). (r, left ran)) w.in_ok-convert_points.was) ∙ converted ran

  around : Around new (outline_of (h (at ran))) (points_end (outline_of new)) (s (at ran)) (lent ran (outline_of new) (points_end (outline_of new)))
  unfolding new_length
  around =
      let a = (begun (at ran)).args in
      let g = (begun (at ran)).requires in
      let long = still_long a.up a.header a.file.now g a.dst.now (fits ran) bytes in
      record {
        front = fronted a.up a.header a.file.now g _ (omega (arith, long, offset_is new, fits ran));
        points = omega (arith, offset_is new);
        inside = (inside (at ran)).within;
        known = (inside (at ran)).known;
        rest = omega (arith, long, room ran);
      }

pub write_around-requires : goal.write_around-requires
write_around-requires c =
    let x = ran (goal.at.write_around-requires c).In_ok-convert_points in
    around_at (sym (at x).other-new.ensures) (sym (is_old (at x))) (sym (end_is x)) (λ i. lent x (sym (is_new (at x)) i) (sym (end_is x) i)) (around (goal.at.write_around-requires c).In_ok-convert_points)

pub returns : goal.returns
returns c =
    let x = ran (goal.at.returns c).In_ok-convert_points in
    let a = (begun (at x)).args in
    let total = x.new_length-total.result in
    ap (λ (l : List ℕ). (Ok total, l)) (c.write_around.ensures ∙ (λ i. around_of ((at x).other-new.ensures i) (is_old (at x) i) (end_is x i) a.file.now (lent x (is_new (at x) i) (end_is x i))))
    ∙ all-written a.up a.header a.file.now (begun (at x)).requires a.dst.now (fits x) (room x) (bytes (goal.at.returns c).In_ok-convert_points) total (total-is (goal.at.After-convert_points x).After-new_length-total)

pub ask_points-requires : goal.ask_points-requires
ask_points-requires c = inside-read (goal.at.ask_points-requires c).After-of-n

pub convert_points-requires : goal.convert_points-requires
convert_points-requires c = inside-read (goal.at.convert_points-requires c).After-of-n
