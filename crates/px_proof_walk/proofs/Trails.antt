-- What the trail of a walk says of the lists that were seen.
use Rattle.std.proofs.Common.{◌≡◌, ℕ, zero, suc, ◌+◌, ◌<◌, List, [], ◌∷◌, ◌++◌, length, map, take, replicate, refl, ap, sym, ◌∙◌, subst, arith}
use Rattle.std.specs.Prelude.{get_or, slice_index_or}
use Rattle.std.specs.List.{AllZip}
use Rattle.std.proofs.lemmas.List.{take_more}
use Rattle.px_proof.specs.declared.shape.Tick.{Tick}
use Rattle.px_proof_walk.specs.Possible.{shape_with}
use Rattle.px_proof_walk.specs.Trail.{AreVisits, BranchesOff, IsVisit, tick_or_none, moved_to}
use Rattle.px_proof_walk.specs.declared.visit.Visit.{Visit}

-- the list that the visits lead to
abbrev pub led_to : List Tick → List Visit → List Tick
led_to ticks [] = ticks
led_to ticks (visit ∷ trail) = led_to (moved_to ticks visit) trail

-- the shapes of the lists that are visited
abbrev pub shapes_along : List Tick → List Visit → List (List Tick)
shapes_along ticks [] = []
shapes_along ticks (visit ∷ trail) = shape_with (moved_to ticks visit) visit.places ∷ shapes_along (moved_to ticks visit) trail

pub replicate-push : {X : Type 0} (n : ℕ) (x : X) → replicate (suc n) x ≡ replicate n x ++ x ∷ []
replicate-push zero x = refl
replicate-push (suc n) x = ap (λ xs. x ∷ xs) (replicate-push n x)

pub led-push : (ticks : List Tick) (trail : List Visit) (visit : Visit)
    → led_to ticks (trail ++ visit ∷ []) ≡ moved_to (led_to ticks trail) visit
led-push ticks [] visit = refl
led-push ticks (v ∷ trail) visit = led-push (moved_to ticks v) trail visit

pub along-push : (ticks : List Tick) (trail : List Visit) (visit : Visit)
    → shapes_along ticks (trail ++ visit ∷ [])
    ≡ shapes_along ticks trail ++ shape_with (moved_to (led_to ticks trail) visit) visit.places ∷ []
along-push ticks [] visit = refl
along-push ticks (v ∷ trail) visit =
    ap (λ shapes. shape_with (moved_to ticks v) v.places ∷ shapes) (along-push (moved_to ticks v) trail visit)

-- one more visit is taken
module _ (trail : List Visit) (i : ℕ) (d : Visit) (below : i < length trail) (ticks new : List Tick) (was : ticks ≡ led_to [] (take i trail))
    (moves : new ≡ moved_to ticks (get_or trail i d)) where
  moves_on : new ≡ moved_to (led_to [] (take i trail)) (get_or trail i d)
  moves_on = moves ∙ ap (λ ts. moved_to ts (get_or trail i d)) was

  pub led-more : new ≡ led_to [] (take (i + 1) trail)
  led-more = moves_on ∙ sym (ap (led_to []) (take_more trail i d below) ∙ led-push [] (take i trail) (get_or trail i d))

  pub along-more : (lent shape : List Tick) → lent ≡ new → shape ≡ shape_with lent (get_or trail i d).places
      → (shapes after : List (List Tick)) → shapes ≡ shapes_along [] (take i trail) → after ≡ shapes ++ shape ∷ []
      → after ≡ shapes_along [] (take (i + 1) trail)
  along-more lent shape lent_is shape_is shapes after made put =
      put
      ∙ ap (λ s. shapes ++ s ∷ []) (shape_is ∙ ap (λ ts. shape_with ts (get_or trail i d).places) (lent_is ∙ moves_on))
      ∙ ap (λ ss. ss ++ shape_with (moved_to (led_to [] (take i trail)) (get_or trail i d)) (get_or trail i d).places ∷ []) made
      ∙ sym (ap (shapes_along []) (take_more trail i d below) ∙ along-push [] (take i trail) (get_or trail i d))

-- a visit leads from a list to the one that branches off it
pub moved-here : (before here : List Tick) (places : ℕ) (visit : Visit) → BranchesOff before here → IsVisit here places visit
    → moved_to before visit ≡ here
moved-here before here places visit branches is =
    ap (λ xs. xs ++ tick_or_none visit.last) (ap (λ n. take n before) is.kept ∙ branches ∙ sym (ap (λ n. take n here) is.kept))
    ∙ sym is.ends

-- the shapes along the visits are those of the lists
pub along-visits : (places : List Tick → ℕ) (before : List Tick) (seen : List (List Tick)) (trail : List Visit)
    → AllZip (λ ticks visit. IsVisit ticks (places ticks) visit) seen trail
    → ((k : ℕ) → k < length seen → BranchesOff (slice_index_or (before ∷ seen) k []) (slice_index_or seen k []))
    → shapes_along before trail ≡ map (λ ticks. shape_with ticks (places ticks)) seen
along-visits places before [] [] each branches = refl
along-visits places before [] (visit ∷ trail) each branches = absurd each
along-visits places before (here ∷ seen) [] each branches = absurd each
along-visits places before (here ∷ seen) (visit ∷ trail) each branches =
    ap (λ ticks. shape_with ticks visit.places ∷ shapes_along ticks trail)
    (moved-here before here (places here) visit (branches 0 (omega arith)) each.0)
    ∙ ap (λ n. shape_with here n ∷ shapes_along here trail) each.0.left
    ∙ ap (λ shapes. shape_with here (places here) ∷ shapes)
    (along-visits places here seen trail each.1 (λ k below. branches (suc k) (omega (arith, below))))

-- the trail has the visits of the lists that were seen, and the next list branches off the last of them
pub record Follows (places : List Tick → ℕ) (trail : List Visit) (seen : List (List Tick)) (here : List Tick) : Type 0 where
  pub visits : AreVisits places seen trail
  pub branches : BranchesOff (slice_index_or ([] ∷ seen) (length seen) []) here

zip-push : {A B : Type 0} (R : A → B → Type 0) (xs : List A) (ys : List B) (x : A) (y : B) → AllZip R xs ys → R x y
    → AllZip R (xs ++ x ∷ []) (ys ++ y ∷ [])
zip-push R [] [] x y all last = (last, tt)
zip-push R [] (b ∷ ys) x y all last = absurd all
zip-push R (a ∷ xs) [] x y all last = absurd all
zip-push R (a ∷ xs) (b ∷ ys) x y all last = (all.0, zip-push R xs ys x y all.1 last)

branches-push : (before : List Tick) (seen : List (List Tick)) (here : List Tick)
    → ((k : ℕ) → k < length seen → BranchesOff (slice_index_or (before ∷ seen) k []) (slice_index_or seen k []))
    → BranchesOff (slice_index_or (before ∷ seen) (length seen) []) here → (k : ℕ) → k < length (seen ++ here ∷ [])
    → BranchesOff (slice_index_or (before ∷ (seen ++ here ∷ [])) k []) (slice_index_or (seen ++ here ∷ []) k [])
branches-push before [] here branches last zero below = last
branches-push before [] here branches last (suc k) below = absurd (omega (arith, below))
branches-push before (t ∷ seen) here branches last zero below = branches 0 (omega arith)
branches-push before (t ∷ seen) here branches last (suc k) below =
    branches-push t seen here (λ j inside. branches (suc j) (omega (arith, inside))) last k (omega (arith, below))

last-push : (before : List Tick) (seen : List (List Tick)) (here : List Tick)
    → slice_index_or (before ∷ (seen ++ here ∷ [])) (length (seen ++ here ∷ [])) [] ≡ here
last-push before [] here = refl
last-push before (t ∷ seen) here = last-push t seen here

module _ (places : List Tick → ℕ) (trail : List Visit) (seen : List (List Tick)) (here : List Tick) (visit : Visit)
    (follows : Follows places trail seen here) (is : IsVisit here (places here) visit) where
  pub trail-visits : AreVisits places (seen ++ here ∷ []) (trail ++ visit ∷ [])
  trail-visits = record {
    each = zip-push (λ ticks visit. IsVisit ticks (places ticks) visit) seen trail here visit follows.visits.each is;
    branches = branches-push [] seen here follows.visits.branches follows.branches;
  }

  pub trail-next : (next : List Tick) → BranchesOff here next → Follows places (trail ++ visit ∷ []) (seen ++ here ∷ []) next
  trail-next next branches = record {
    visits = trail-visits;
    branches = subst (λ (ticks : List Tick). BranchesOff ticks next) (sym (last-push [] seen here)) branches;
  }
