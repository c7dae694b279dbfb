-- The derivations of a list of finished proofs are those that its ticks and its chosen objects stand for.
use Rattle.std.proofs.Common.{◌≡◌, ℕ, zero, suc, ◌-◌, ◌<◌, ◌≤◌, Some, List, [], ◌∷◌, ◌++◌, length, map, take, drop, get_or, slice_get, refl, ap, sym, ◌∙◌, arith, append_assoc, length-append}
use Rattle.std.specs.Prelude.{All}
use Rattle.std.proofs.Math.Seq.{drop-append_seam, take-append_seam}
use Rattle.std.proofs.lemmas.List.{length-map}
use Rattle.std.proofs.lemmas.List.Elements.{All-head, All-tail}
use Rattle.px_prover.specs.Building.{built}
use Rattle.px_proof.proofs.Parts.{length-parts_of}
use Rattle.px_proof.specs.Derivation.{Derivation, Derivations, derivations, fact, ancestor, step, gap, open_place, none, also, no_atom}
use Rattle.px_proof.specs.Literals.{substitute_literal}
use Rattle.px_proof.specs.PlaceLaws.{slice_get-within}
use Rattle.px_proof.specs.Proves.{Proves, ProvesEach, instance_of, parts_of}
use Rattle.px_proof.specs.Shapes.{ticks, ticks_of}
use Rattle.px_proof.specs.declared.proof.Leaf.{Leaf}
use Rattle.px_question.specs.Answers.{object_terms, choices_of, all_choices_of}
use Rattle.px_terms.specs.Language.{IsObjectBelow, object_of}
use Rattle.px_question.specs.Settings.{Setting, proofs_in}
use Rattle.px_terms.specs.declared.atom.Atom.{Atom}
use Rattle.px_terms.specs.declared.clause.Clause.{Clause}
use Rattle.px_terms.specs.declared.clause.Lit.{Lit}
use Rattle.px_terms.specs.declared.term.Term.{Term}
use Rattle.px_terms.specs.declared.term.Term.TheVariants.{Obj, Var, Any}

-- derivations as a list
abbrev pub listed : Derivations → List Derivation
listed none = []
listed (also d ds) = d ∷ listed ds

pub derivations-listed : (ds : Derivations) → derivations (listed ds) ≡ ds
derivations-listed none = refl
derivations-listed (also d ds) = ap (λ es. also d es) (derivations-listed ds)

abbrev joined : Derivations → Derivations → Derivations
joined none es = es
joined (also d ds) es = also d (joined ds es)

listed-joined : (ds es : Derivations) → listed (joined ds es) ≡ listed ds ++ listed es
listed-joined none es = refl
listed-joined (also d ds) es = ap (λ xs. d ∷ xs) (listed-joined ds es)

ticks-joined : (ds es : Derivations) → ticks_of (joined ds es) ≡ ticks_of ds ++ ticks_of es
ticks-joined none es = refl
ticks-joined (also d ds) es = ap (λ ts. ticks d ++ ts) (ticks-joined ds es) ∙ sym (append_assoc (ticks d) (ticks_of ds) (ticks_of es))

choices-joined : (ds es : Derivations) → all_choices_of (joined ds es) ≡ all_choices_of ds ++ all_choices_of es
choices-joined none es = refl
choices-joined (also d ds) es =
    ap (λ ns. choices_of d ++ ns) (choices-joined ds es) ∙ sym (append_assoc (choices_of d) (all_choices_of ds) (all_choices_of es))

-- what a derivation keeps of proving: its leaves are the facts, its steps choose objects and have their parts
abbrev mutual
  IsMade : Setting → Derivation → Type 0
  IsMade s (fact leaf) = (leaf.column ≡ 0) × (slice_get s.facts leaf.index ≡ Some leaf.atom)
  IsMade s (ancestor i) = Unit {0}
  IsMade s (step number theta place parts) =
      (clause : Clause) × (slice_get s.axioms number ≡ Some clause) × (length theta ≡ clause.variable_count) × All (IsObjectBelow s.objects) theta
      × (length (listed parts) ≡ length clause.lits - 1) × AreMade s parts
  IsMade s (gap atom) = ⊥
  IsMade s open_place = ⊥

  AreMade : Setting → Derivations → Type 0
  AreMade s none = Unit {0}
  AreMade s (also d ds) = IsMade s d × AreMade s ds

made-joined : (s : Setting) (ds es : Derivations) → AreMade s ds → AreMade s es → AreMade s (joined ds es)
made-joined s none es h k = k
made-joined s (also d ds) es h k = (h.0, made-joined s ds es h.1 k)

module _ (s : Setting) where
  count-each : (path lits : List Lit) (ds : Derivations) → ProvesEach (proofs_in s) s.axioms path lits ds → length (listed ds) ≡ length lits
  count-each path [] none each = refl
  count-each path (l ∷ lits) (also d ds) each = ap suc (count-each path lits ds each.1)
  count-each path [] (also d ds) each = absurd each
  count-each path (l ∷ lits) none each = absurd each

  mutual
    made-of : (path : List Lit) (lit : Lit) (d : Derivation) → Proves (proofs_in s) s.axioms path lit d → IsMade s d
    made-of path lit (fact leaf) proved = (proved.1.0, proved.1.1)
    made-of path lit (ancestor i) proved = tt
    made-of path lit (step number theta place parts) proved =
        let clause = proved.0 in
        let uses = proved.1 in
        let within : place < length clause.lits =
        rw (← length-map clause.lits (substitute_literal theta))
        (slice_get-within (instance_of clause.lits theta) place lit uses.literal_at) in
        let count : suc (length (parts_of clause.lits theta place)) ≡ length clause.lits =
        length-parts_of clause.lits theta place within in (
          clause,
          uses.axiom_at,
          uses.terms,
          uses.choices,
          count-each (lit ∷ path) (parts_of clause.lits theta place) parts proved.2
              ∙ omega (arith, count),
          made-each (lit ∷ path) (parts_of clause.lits theta place) parts proved.2,
        )
    made-of path lit (gap a) proved = absurd proved.1
    made-of path lit open_place proved = absurd proved

    made-each : (path lits : List Lit) (ds : Derivations) → ProvesEach (proofs_in s) s.axioms path lits ds → AreMade s ds
    made-each path [] none each = tt
    made-each path (l ∷ lits) (also d ds) each = (made-of path l d each.0, made-each path lits ds each.1)
    made-each path [] (also d ds) each = absurd each
    made-each path (l ∷ lits) none each = absurd each

terms-of : (n : ℕ) (theta : List Term) → All (IsObjectBelow n) theta → object_terms (map object_of theta) ≡ theta
terms-of n [] are = refl
terms-of n (t ∷ theta) are =
    λ i. one t (All-head (IsObjectBelow n) t theta are) i ∷ terms-of n theta (All-tail (IsObjectBelow n) t theta are) i
  where
    one : (t : Term) → IsObjectBelow n t → Obj (object_of t) ≡ t
    one (Obj o) is = refl
    one (Var v) is = absurd is
    one Any is = absurd is

take-prefix : {X : Type 0} (n : ℕ) (xs ys : List X) → length xs ≡ n → take n (xs ++ ys) ≡ xs
take-prefix n xs ys long = ap (λ m. take m (xs ++ ys)) (sym long) ∙ take-append_seam xs ys

drop-prefix : {X : Type 0} (n : ℕ) (xs ys : List X) → length xs ≡ n → drop n (xs ++ ys) ≡ ys
drop-prefix n xs ys long = ap (λ m. drop m (xs ++ ys)) (sym long) ∙ drop-append_seam xs ys

ticks-pos : (s : Setting) (d : Derivation) → 0 < length (ticks d)
ticks-pos s (fact leaf) = omega arith
ticks-pos s (ancestor i) = omega arith
ticks-pos s (step number theta place parts) = omega arith
ticks-pos s (gap a) = omega arith
ticks-pos s open_place = omega arith

leaf-same : (facts : List Atom) (leaf : Leaf) → leaf.column ≡ 0 → slice_get facts leaf.index ≡ Some leaf.atom
    → record { column = 0; index = leaf.index; atom = get_or facts leaf.index no_atom } ≡ leaf
leaf-same facts leaf column at = λ i. record { column = sym column i; index = leaf.index; atom = read facts leaf.index leaf.atom at i }
  where
    read : (xs : List Atom) (k : ℕ) (x : Atom) → slice_get xs k ≡ Some x → get_or xs k no_atom ≡ x
    read [] k x at = absurd (cc)
    read (y ∷ xs) zero x at = let same : y ≡ x = cc in same
    read (y ∷ xs) (suc k) x at = read xs k x at

module _ (s : Setting) where
  built-made : (fuel : ℕ) (ds : Derivations) → length (ticks_of ds) ≤ fuel → AreMade s ds
      → built s (ticks_of ds) (all_choices_of ds) ≡ listed ds
  built-made fuel none enough made = refl
  built-made zero (also d ds) enough made = absurd (omega (arith, enough, ticks-pos s d, length-append (ticks d) (ticks_of ds)))
  built-made (suc fuel) (also (fact leaf) ds) enough made =
      let later = built-made fuel ds (omega (arith, enough)) made.1 in
      λ i. fact (leaf-same s.facts leaf made.0.0 made.0.1 i) ∷ later i
  built-made (suc fuel) (also (ancestor k) ds) enough made = ap (λ es. ancestor k ∷ es) (built-made fuel ds (omega (arith, enough)) made.1)
  built-made (suc fuel) (also (step number theta place parts) ds) enough made =
      let clause = made.0.0 in
      let long : length (map object_of theta) ≡ clause.variable_count = length-map theta object_of ∙ made.0.2 in
      let later : built s (ticks_of parts ++ ticks_of ds) (all_choices_of parts ++ all_choices_of ds) ≡ listed parts ++ listed ds =
      rw (← ticks-joined parts ds, ← choices-joined parts ds, ← listed-joined parts ds)
      (built-made fuel (joined parts ds) (omega (arith, enough, ap length (ticks-joined parts ds)))
      (made-joined s parts ds made.0.5 made.1)) in
      let chosen : (map object_of theta ++ all_choices_of parts) ++ all_choices_of ds
      ≡ map object_of theta ++ (all_choices_of parts ++ all_choices_of ds) =
      append_assoc (map object_of theta) (all_choices_of parts) (all_choices_of ds) in
      let first : take clause.variable_count (map object_of theta ++ (all_choices_of parts ++ all_choices_of ds)) ≡ map object_of theta =
      take-prefix clause.variable_count (map object_of theta) (all_choices_of parts ++ all_choices_of ds) long in
      let rest : drop clause.variable_count (map object_of theta ++ (all_choices_of parts ++ all_choices_of ds))
      ≡ all_choices_of parts ++ all_choices_of ds =
      drop-prefix clause.variable_count (map object_of theta) (all_choices_of parts ++ all_choices_of ds) long in
      let taken : take (length clause.lits - 1) (listed parts ++ listed ds) ≡ listed parts =
      take-prefix (length clause.lits - 1) (listed parts) (listed ds) made.0.4 in
      let dropped : drop (length clause.lits - 1) (listed parts ++ listed ds) ≡ listed ds =
      drop-prefix (length clause.lits - 1) (listed parts) (listed ds) made.0.4 in
      rw (made.0.1, chosen, first, rest, later, taken, dropped, terms-of s.objects theta made.0.3, derivations-listed parts) refl
  built-made (suc fuel) (also (gap a) ds) enough made = absurd made.0
  built-made (suc fuel) (also open_place ds) enough made = absurd made.0

  -- the built derivations are the derivations
  pub built-is : (lits : List Lit) (ds : Derivations) → ProvesEach (proofs_in s) s.axioms [] lits ds
      → derivations (built s (ticks_of ds) (all_choices_of ds)) ≡ ds
  built-is lits ds each =
      ap derivations (built-made (length (ticks_of ds)) ds (omega arith) (made-each s [] lits ds each)) ∙ derivations-listed ds
