-- Laws of what an append answers and leaves, on a file and on what its own stores made of it.
use Rattle.std.specs.Prelude.{Result, Ok, Err}
use Rattle.refusal.specs.Refused.{at_record}
use Rattle.refusal.specs.declared.Refused.{Refused}
use Rattle.std.specs.Prelude.{ℕ, ◌≡◌, Bool, true, false, cond, List, ltb}
use Rattle.std.proofs.Math.Path.{refl, ap}
use Rattle.std.proofs.Common.{sym, subst, ◌∙◌, arith, ltb-true, ltb-false}
use Rattle.refusal.specs.declared.Refusal.{Refusal}
use Rattle.store.specs.Elsewhere.{Elsewhere}
use Rattle.header.specs.Judged.{header_in}
use Rattle.file.specs.Rules.{checked_of}
use Rattle.offer.specs.declared.Offer.{Offer}
use Rattle.offer.specs.declared.Offer.TheVariants as offer
use Rattle.offer.specs.declared.Sweep.{Sweep}
use Rattle.offer.specs.Offer.{sweep_of, offer_of}
use Rattle.offer.specs.Laws.{Adds, adds, Stands, already-in}
use Rattle.sectors.specs.Sectors.{stores_of, after_stores}
use Rattle.sectors.specs.Laws.{tail_free}
use Rattle.sectors.specs.After.{stores_are, after_elsewhere}
use Rattle.append.specs.declared.Appended.{Appended}
use Rattle.append.specs.declared.Appended.TheVariants.{Added, AlreadyIn}
use Rattle.append.specs.Append.{appended_by, appended_of}
use Rattle.append.specs.Adding.{enough, free_accepted, free_adds}
use Rattle.append.specs.Final.{Bounds, full, full_is, full-accepted, full_stands}

module _ (a : ℕ) (records : List ℕ) (n : ℕ) (bounds : List ℕ) (believed : ℕ) where
  abbrev appended : List ℕ → Result Appended Refused × List ℕ
  appended s = appended_of a records n bounds believed s

  module _ (s : List ℕ) where
    -- what is done is told by the offer
    pub done_by_lem : {x : Result Offer Refused} → offer_of a records n believed s ≡ x → appended s ≡ appended_by x records bounds s
    unfolding appended_of
    done_by_lem e = ap (λ (x : Result Offer Refused). appended_by x records bounds s) e

    -- what holds of each thing that is done holds
    by_offer : (P : Result Appended Refused × List ℕ → Type 0) → ((w : Sweep) → offer_of a records n believed s ≡ Ok (offer.Add w) → P ((Ok Added), after_stores w records bounds (stores_of w) s)) → (offer_of a records n believed s ≡ (Ok offer.AlreadyIn) → P ((Ok AlreadyIn), s)) → ((r : Refusal) (k : ℕ) → P (Err (at_record r k), s)) → P (appended s)
    unfolding appended_of
    by_offer P add stand refuse = go (offer_of a records n believed s) refl
      where
        go : (x : Result Offer Refused) → offer_of a records n believed s ≡ x → P (appended_by x records bounds s)
        go (Ok (offer.Add w)) e = add w e
        go (Ok offer.AlreadyIn) e = stand e
        go (Err err) e = refuse err.refusal err.«record»

    pub added_adds : (appended s).0 ≡ (Ok Added) → Adds a records n believed s (sweep_of (header_in s) records n)
    added_adds =
        by_offer (λ x. x.0 ≡ (Ok Added) → Adds a records n believed s (sweep_of (header_in s) records n))
        (λ w e p. let d = (adds a records n believed s w).0 e in subst (Adds a records n believed s) d.sweep d)
        (λ e p. let z : ◌≡◌ {A = ℕ} 0 1 = cc in absurd (omega arith))
        (λ r k p. let z : ◌≡◌ {A = ℕ} 0 1 = cc in absurd (omega arith))

    pub adds_added : {w : Sweep} → Adds a records n believed s w → appended s ≡ ((Ok Added), after_stores w records bounds (stores_of w) s)
    adds_added {w} d = done_by_lem ((adds a records n believed s w).1 d)

    pub in_stands : (appended s).0 ≡ (Ok AlreadyIn) → Stands a records n believed s
    in_stands =
        by_offer (λ x. x.0 ≡ (Ok AlreadyIn) → Stands a records n believed s) (λ w e p. let z : ◌≡◌ {A = ℕ} 0 1 = cc in absurd (omega arith))
        (λ e p. (already-in a records n believed s).0 e)
        (λ r k p. let z : ◌≡◌ {A = ℕ} 0 1 = cc in absurd (omega arith))

    pub stands_in : Stands a records n believed s → appended s ≡ ((Ok AlreadyIn), s)
    stands_in d = done_by_lem ((already-in a records n believed s).1 d)

    pub left_alone : ((appended s).0 ≡ (Ok Added) → ⊥) → (appended s).1 ≡ s
    left_alone = by_offer (λ x. (x.0 ≡ (Ok Added) → ⊥) → x.1 ≡ s) (λ w e no. absurd (no refl)) (λ e no. refl) (λ r k no. refl)

    -- so the same offer has the same answer
    pub same_answer : (t : List ℕ) → offer_of a records n believed t ≡ offer_of a records n believed s → (appended t).0 ≡ (appended s).0
    unfolding appended_of
    same_answer t e = ap (λ (x : Result Offer Refused). (appended_by x records bounds t).0) e ∙ go (offer_of a records n believed s)
      where
        go : (x : Result Offer Refused) → (appended_by x records bounds t).0 ≡ (appended_by x records bounds s).0
        go (Ok (offer.Add w)) = refl
        go (Ok offer.AlreadyIn) = refl
        go (Err err) = refl

  module _ (s : List ℕ) (w : Sweep) (d : Adds a records n believed s w) where
    -- whatever stands where the records go, an append that adds ends the same
    pub free_same : (t : List ℕ) → Elsewhere w.at w.bytes s t → appended t ≡ appended s
    free_same t e =
        adds_added t (free_adds a records n believed s w d t e.long e.front)
        ∙ ap (λ (l : List ℕ). ((Ok Added), l)) (tail_free w records bounds (enough a records n believed s w d) s d.room t e.long e.front e.rest)
        ∙ sym (adds_added s d)

    -- its own point stores are such a change, so it adds until the last store, and then finds its records in
    module _ (b : Bounds bounds) (k : ℕ) where
      abbrev cut : List ℕ
      cut = after_stores w records bounds k s

      by_time : (P : Bool → Type 0) → (Elsewhere w.at w.bytes s cut → P true) → (cut ≡ full a records n believed s w d bounds b → P false) → P (ltb k (stores_of w))
      by_time P early late = go (ltb k (stores_of w)) refl
        where
          go : (t : Bool) → ltb k (stores_of w) ≡ t → P t
          go true e = early (after_elsewhere w records bounds k s (omega (arith, ltb-true k (stores_of w) e, stores_are w)))
          go false e = late (full_is a records n believed s w d bounds b k (ltb-false k (stores_of w) e))

      pub again_after : appended cut ≡ (cond (ltb k (stores_of w)) (Ok Added) (Ok AlreadyIn), (appended s).1)
      again_after =
          let all = adds_added s d in
          by_time (λ t. appended cut ≡ (cond t (Ok Added) (Ok AlreadyIn), (appended s).1))
          (λ early. free_same cut early ∙ λ i. ((all i).0, (appended s).1))
          (λ late.
          let left : full a records n believed s w d bounds b ≡ (appended s).1 = sym (full_is a records n believed s w d bounds b (stores_of w) (omega arith)) ∙ sym (ap (λ (x : Result Appended Refused × List ℕ). x.1) all) in
          ap appended late ∙ stands_in (full a records n believed s w d bounds b) (full_stands a records n believed s w d bounds b) ∙ ap (λ (l : List ℕ). ((Ok AlreadyIn), l)) left)

      -- and it is accepted after each
      pub accepted-after : checked_of a cut ≡ checked_of a s
      accepted-after =
          by_time (λ t. checked_of a cut ≡ Ok d.proper.found) (λ early. free_accepted a records n believed s w d cut early.long early.front)
          (λ late. ap (checked_of a) late ∙ full-accepted a records n believed s w d bounds b)
          ∙ sym d.proper.accepted
