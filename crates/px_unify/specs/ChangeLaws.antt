-- The laws of changes that callers need: which substitutions fit after more changes, and what is at a mark.
use Rattle.std.specs.Prelude.{◌≡◌, ℕ, ◌+◌, ◌<◌, ◌≤◌, ◌↔◌, Option, Some, None, List, [], ◌∷◌, ◌++◌, length, set, slice_get, take, replicate}
use Rattle.std.proofs.Common.{zero, suc, refl, sym, ap, ◌∙◌, arith, append_assoc, length-append}
use Rattle.std.proofs.lemmas.List.{append-nil, length-replicate, take-append-le}
use Rattle.std.proofs.lemmas.List.Elements.{All-nil, All-cons, All-head, All-tail, All-append, All-replicate, All-take, All-push}
use Rattle.std.proofs.lemmas.Option.{get_or_from_slice_get, slice_get_within}
use Rattle.std.proofs.Math.Seq.{take-length}
use Rattle.px_terms.specs.declared.atom.Atom.{Atom}
use Rattle.px_terms.specs.declared.term.Term.{Term}
use Rattle.px_terms.specs.declared.term.Term.TheVariants.{Obj, Var, Any}
use Rattle.px_terms.specs.Language.{substitute}
use Rattle.px_unify.specs.declared.change.Change.{Change}
use Rattle.px_unify.specs.declared.change.Change.TheVariants.{Fresh, Bound}
use Rattle.px_unify.specs.Changes.{slots_after, slots_of, variables_of, Meets, Fits, IsUnbound, IsRoot, AreOneUnder, MakesEqual, MakesPairEqual, MakesEachEqual, NarrowedBy, NoneFits, HasSolutions, AreChangesKept, Binds}

pub slots_after-append : (front rest : List Change) (slots : List (Option Term))
    → slots_after slots (front ++ rest) ≡ slots_after (slots_after slots front) rest
slots_after-append [] rest slots = refl
slots_after-append (Fresh ∷ front) rest slots = slots_after-append front rest (slots ++ None ∷ [])
slots_after-append (Bound v term ∷ front) rest slots = slots_after-append front rest (set slots v (Some term))

slots_after-fresh : (n : ℕ) (slots : List (Option Term)) → slots_after slots (replicate n Fresh) ≡ slots ++ replicate n None
slots_after-fresh zero slots = sym (append-nil slots)
slots_after-fresh (suc n) slots = slots_after-fresh n (slots ++ None ∷ []) ∙ append_assoc slots (None ∷ []) (replicate n None)

-- new variables come after the others, and are not bound
pub slots-fresh : (changes : List Change) (n : ℕ) → slots_of (changes ++ replicate n Fresh) ≡ slots_of changes ++ replicate n None
slots-fresh changes n = slots_after-append changes (replicate n Fresh) [] ∙ slots_after-fresh n (slots_of changes)

pub variables-fresh : (changes : List Change) (n : ℕ) → variables_of (changes ++ replicate n Fresh) ≡ variables_of changes + n
variables-fresh changes n = ap length (slots-fresh changes n) ∙ length-append (slots_of changes) (replicate n None) ∙ ap
    (λ k. variables_of changes + k) (length-replicate n None)

slice_get-after : {X : Type 0} (xs ys : List X) (k : ℕ) → slice_get (xs ++ ys) (length xs + k) ≡ slice_get ys k
slice_get-after [] ys k = let here : 0 + k ≡ k = omega arith in rw here refl
slice_get-after (x ∷ xs) ys k = let later : length (x ∷ xs) + k ≡ suc (length xs + k) = omega arith in rw later (slice_get-after xs ys k)

slice_get-replicate : {X : Type 0} (n : ℕ) (x : X) (v : ℕ) → v < n → slice_get (replicate n x) v ≡ Some x
slice_get-replicate zero x v within = absurd (omega (arith, within))
slice_get-replicate (suc n) x zero within = refl
slice_get-replicate (suc n) x (suc v) within = slice_get-replicate n x v (omega (arith, within))

-- new variables are not bound
pub IsUnbound-fresh : (changes : List Change) (n v : ℕ) → v < n → IsUnbound (changes ++ replicate n Fresh) (variables_of changes + v)
IsUnbound-fresh changes n v within = rw (slots-fresh changes n, slice_get-after (slots_of changes) (replicate n None) v)
    (slice_get-replicate n None v within)

module _ (sigma : List Term) where
  fits_prefix : (front rest : List Change) → Fits sigma (front ++ rest) → Fits sigma front × Fits sigma rest
  fits_prefix [] rest fits = (All-nil (Meets sigma), fits)
  fits_prefix (change ∷ front) rest fits =
      let later = fits_prefix front rest (All-tail (Meets sigma) change (front ++ rest) fits) in
      (All-cons (Meets sigma) change front (All-head (Meets sigma) change (front ++ rest) fits) later.0, later.1)

  -- fitting more changes is fitting them too
  pub Fits-append : (old more : List Change) → Fits sigma (old ++ more) ↔ (Fits sigma old × Fits sigma more)
  Fits-append old more = (fits_prefix old more, λ h. All-append (Meets sigma) old more h.0 h.1)

  -- what fits now fitted at each mark
  pub Fits-take : (changes : List Change) (mark : ℕ) → Fits sigma changes → Fits sigma (take mark changes)
  Fits-take changes mark fits = All-take (Meets sigma) mark changes fits

  -- new variables ask for nothing
  pub Fits-fresh : (changes : List Change) (n : ℕ) → Fits sigma (changes ++ replicate n Fresh) ↔ Fits sigma changes
  Fits-fresh changes n = (
    λ fits. ((Fits-append changes (replicate n Fresh)).0 fits).0,
    λ fits. All-append (Meets sigma) changes (replicate n Fresh) fits (All-replicate (Meets sigma) n Fresh tt),
  )

  -- a binding asks that the variable has the value of the term, and no more
  pub Fits-bound : (changes : List Change) (v : ℕ) (term : Term) → Fits sigma (changes ++ Bound v term ∷ [])
      ↔ (Fits sigma changes × (substitute sigma (Var v) ≡ substitute sigma term))
  Fits-bound changes v term = (
    λ fits. let both = (Fits-append changes (Bound v term ∷ [])).0 fits in (both.0, All-head (Meets sigma) (Bound v term) [] both.1),
    λ h. All-push (Meets sigma) changes (Bound v term) h.0 h.1,
  )

  -- what fits after bindings fitted before
  pub Fits-binds : (old new : List Change) → Binds old new → Fits sigma new → Fits sigma old
  Fits-binds old new binds fits = rw binds.prefix at (Fits-take new (length old) fits)

take_take : {X : Type 0} (m n : ℕ) (xs : List X) → m ≤ n → take m (take n xs) ≡ take m xs
take_take zero n xs le = refl
take_take (suc m) zero xs le = absurd (omega (arith, le))
take_take (suc m) (suc n) [] le = refl
take_take (suc m) (suc n) (x ∷ xs) le = ap (λ ys. x ∷ ys) (take_take m n xs (omega (arith, le)))

length-take-le : {X : Type 0} (n : ℕ) (xs : List X) → length (take n xs) ≤ length xs
length-take-le zero xs = omega arith
length-take-le (suc n) [] = omega arith
length-take-le (suc n) (x ∷ xs) = omega (arith, length-take-le n xs)

kept-within : (marked now : List Change) → AreChangesKept marked now → length marked ≤ length now
kept-within marked now kept = omega (arith, ap length kept, length-take-le (length marked) now)

-- What is at a mark is kept by `fresh`, by `unify`, and by undoing to a later mark. So `undo_to`, which leaves
-- `take mark changes`, gives back the very list at the mark.
pub AreChangesKept-itself : (changes : List Change) → AreChangesKept changes changes
AreChangesKept-itself changes = take-length changes

pub AreChangesKept-fresh : (marked now : List Change) (n : ℕ) → AreChangesKept marked now → AreChangesKept marked (now ++ replicate n Fresh)
AreChangesKept-fresh marked now n kept = take-append-le (length marked) now (replicate n Fresh) (kept-within marked now kept) ∙ kept

pub AreChangesKept-binds : (marked now new : List Change) → AreChangesKept marked now → Binds now new → AreChangesKept marked new
AreChangesKept-binds marked now new kept binds = sym (take_take (length marked) (length now) new (kept-within marked now kept)) ∙ ap
    (take (length marked)) binds.prefix ∙ kept

pub AreChangesKept-undone : (marked now : List Change) (mark : ℕ) → AreChangesKept marked now → length marked ≤ mark
    → AreChangesKept marked (take mark now)
AreChangesKept-undone marked now mark kept above = take_take (length marked) mark now above ∙ kept

pub Binds-itself : (changes : List Change) → Binds changes changes
Binds-itself changes = record {
  prefix = AreChangesKept-itself changes;
  grown = omega arith;
  variables = refl;
}

pub Binds-trans : (old now new : List Change) → Binds old now → Binds now new → Binds old new
Binds-trans old now new first second = record {
  prefix = AreChangesKept-binds old now new first.prefix second;
  grown = omega (arith, first.grown, second.grown);
  variables = second.variables ∙ first.variables;
}

-- what fits after two steps is what fits before and meets both conditions
pub NarrowedBy-both : (old now new : List Change) (First Second : List Term → Type 0) → NarrowedBy old now First → NarrowedBy now new Second
    → NarrowedBy old new (λ sigma. First sigma × Second sigma)
NarrowedBy-both old now new First Second first second sigma = (
  λ fits. let late = (second sigma).0 fits in let soon = (first sigma).0 late.0 in (soon.0, (soon.1, late.1)),
  λ h. (second sigma).1 ((first sigma).1 (h.0, h.1.0), h.1.1),
)

pub NarrowedBy-fresh : (old now : List Change) (n : ℕ) (Condition : List Term → Type 0) → NarrowedBy old now Condition
    → NarrowedBy old (now ++ replicate n Fresh) Condition
NarrowedBy-fresh old now n Condition narrowed sigma = (
  λ fits. (narrowed sigma).0 ((Fits-fresh sigma now n).0 fits),
  λ h. (Fits-fresh sigma now n).1 ((narrowed sigma).1 h),
)

each_prefix : (sigma : List Term) (pairs later : List (Atom × Atom)) → MakesEachEqual (pairs ++ later) sigma → MakesEachEqual pairs sigma
    × MakesEachEqual later sigma
each_prefix sigma [] later all = (All-nil (MakesPairEqual sigma), all)
each_prefix sigma (pair ∷ pairs) later all =
    let rest = each_prefix sigma pairs later (All-tail (MakesPairEqual sigma) pair (pairs ++ later) all) in
    (All-cons (MakesPairEqual sigma) pair pairs (All-head (MakesPairEqual sigma) pair (pairs ++ later) all) rest.0, rest.1)

-- Pairs unified one after the other. Before the first nothing is asked.
pub NarrowedBy-none : (changes : List Change) → NarrowedBy changes changes (MakesEachEqual [])
NarrowedBy-none changes sigma = (λ fits. (fits, All-nil (MakesPairEqual sigma)), λ h. h.0)

-- One pair more: the substitutions that fit then make it equal as well.
pub NarrowedBy-pair : (old now new : List Change) (pairs : List (Atom × Atom)) (a b : Atom) → NarrowedBy old now (MakesEachEqual pairs)
    → NarrowedBy now new (MakesEqual a b)
    → NarrowedBy old new (MakesEachEqual (pairs ++ (a, b) ∷ []))
NarrowedBy-pair old now new pairs a b first second sigma =
    let both = NarrowedBy-both old now new (MakesEachEqual pairs) (MakesEqual a b) first second sigma in (
      λ fits. let h = both.0 fits in (h.0, All-push (MakesPairEqual sigma) pairs (a, b) h.1.0 h.1.1),
      λ h. let parts = each_prefix sigma pairs ((a, b) ∷ []) h.1 in
          both.1 (h.0, (parts.0, All-head (MakesPairEqual sigma) (a, b) [] parts.1)),
    )

-- Where the next pair clashes, nothing that fitted at the start makes all of the pairs equal.
pub NoneFits-pair : (old now : List Change) (pairs : List (Atom × Atom)) (a b : Atom) (later : List (Atom × Atom))
    → NarrowedBy old now (MakesEachEqual pairs) → NoneFits now (MakesEqual a b)
    → NoneFits old (MakesEachEqual (pairs ++ (a, b) ∷ later))
NoneFits-pair old now pairs a b later narrowed never sigma fits all =
    let parts = each_prefix sigma pairs ((a, b) ∷ later) all in
    never sigma ((narrowed sigma).1 (fits, parts.0)) (All-head (MakesPairEqual sigma) (a, b) later parts.1)

-- After each pair was unified some substitution makes all of them equal, whatever the unbound variables stand for.
pub SomeFits : (old now : List Change) (Condition : List Term → Type 0) → NarrowedBy old now Condition → HasSolutions now
    → (chosen : List Term) → length chosen ≡ variables_of now
    → (sigma : List Term) × (length sigma ≡ variables_of now) × Fits sigma old × Condition sigma
    × ((v : ℕ) → IsUnbound now v → slice_get sigma v ≡ slice_get chosen v)
SomeFits old now Condition narrowed solvable chosen count =
    let found = solvable chosen count in
    let both = (narrowed found.0).0 found.2 in
    (found.0, found.1, both.0, both.1, found.3)

-- that number of objects, numbered from the first on
abbrev numbered : ℕ → ℕ → List Term
numbered first zero = []
numbered first (suc n) = Obj first ∷ numbered (suc first) n

length-numbered : (first n : ℕ) → length (numbered first n) ≡ n
length-numbered first zero = refl
length-numbered first (suc n) = ap suc (length-numbered (suc first) n)

slice_get-numbered : (first n v : ℕ) → v < n → slice_get (numbered first n) v ≡ Some (Obj (first + v))
slice_get-numbered first zero v within = absurd (omega (arith, within))
slice_get-numbered first (suc n) zero within = ap (λ (k : ℕ). Some (Obj k)) (omega arith)
slice_get-numbered first (suc n) (suc v) within = slice_get-numbered (suc first) n v (omega (arith, within)) ∙ ap (λ (k : ℕ). Some (Obj k))
    (omega arith)

read : (sigma : List Term) (v : ℕ) (term : Term) → slice_get sigma v ≡ Some term → substitute sigma (Var v) ≡ term
read sigma v term at = get_or_from_slice_get sigma v term Any at

number_same : {m n : ℕ} → Obj m ≡ Obj n → m ≡ n
number_same e = cc

module _ (changes : List Change) (solvable : HasSolutions changes) where
  -- a variable that is not bound doesn't always have the value of an object
  root_differs : (m w : ℕ) → IsUnbound changes w → ¬ ((sigma : List Term) → Fits sigma changes → Obj m ≡ substitute sigma (Var w))
  root_differs m w unbound same =
      let count = variables_of changes in
      let found = solvable (replicate count (Obj (suc m))) (length-replicate count (Obj (suc m))) in
      let value : substitute found.0 (Var w) ≡ Obj (suc m) = read found.0 w (Obj (suc m))
      (found.3 w unbound ∙ slice_get-replicate count (Obj (suc m)) w (slice_get_within (slots_of changes) w None unbound)) in
      omega (arith, number_same (same found.0 found.2 ∙ value))

  -- terms that are followed no further, and that always have one value, are one term: so what `resolve` answers is determined
  pub one-root : (s t : Term) → IsRoot changes s → IsRoot changes t → AreOneUnder changes s t → s ≡ t
  one-root (Obj m) (Obj n) s_root t_root same =
      let found = solvable (numbered 0 (variables_of changes)) (length-numbered 0 (variables_of changes)) in
      same found.0 found.2
  one-root (Obj m) (Var w) s_root t_root same = absurd (root_differs m w t_root same)
  one-root (Var v) (Obj n) s_root t_root same = absurd (root_differs n v s_root (λ sigma fits. sym (same sigma fits)))
  one-root (Var v) (Var w) s_root t_root same =
      let count = variables_of changes in
      let found = solvable (numbered 0 count) (length-numbered 0 count) in
      let at_v : substitute found.0 (Var v) ≡ Obj (0 + v) = read found.0 v (Obj (0 + v))
      (found.3 v s_root ∙ slice_get-numbered 0 count v (slice_get_within (slots_of changes) v None s_root)) in
      let at_w : substitute found.0 (Var w) ≡ Obj (0 + w) = read found.0 w (Obj (0 + w))
      (found.3 w t_root ∙ slice_get-numbered 0 count w (slice_get_within (slots_of changes) w None t_root)) in
      let number : v ≡ w = omega (arith, number_same (sym at_v ∙ same found.0 found.2 ∙ at_w)) in
      ap (λ (k : ℕ). Var k) number
  one-root Any t s_root t_root same = absurd s_root
  one-root (Obj m) Any s_root t_root same = absurd t_root
  one-root (Var v) Any s_root t_root same = absurd t_root
