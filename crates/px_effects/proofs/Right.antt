-- What a line without a fault lets a step take for granted.
use Rattle.px_terms.specs.Limits.{most_arguments, most_clauses, most_parameters}
use Rattle.px_terms.specs.Clauses.{IsArena}
use Rattle.std.specs.Prelude.{◌<◌}
use Rattle.px_effects.proofs.Common.{◌≡◌, ℕ, ◌≤◌, true, List, [], ◌∷◌, ◌++◌, map, length, get_or, false, refl, sym, ap, ◌∙◌, subst, inl, inr, arith, All, Option, None, Some, slice_index, get_or-append_seam, eqb-true, cases_lt, append-nil, length-map, get_or_past, IsClause, IsGround, has_wrong_arity, Declared, OpenOperator, operator_here, parameters_of, number_in, atom_of, clause_of, own_problem, line_atoms, is_formed, SignedAtom, Line, Statement, plain, line_of, «axiom», fact, IsRight, IsFaultless, stands-right, at-top, has_other_arity, atoms-right, line-kept, well-formed, atoms-with, unmap, no-parameters, OperatorsInRange, AreInRange, not-false, each-fails, AreReadable, argument_view, signed_view, WrittenAtom, length-append}
use Rattle.px_terms.specs.ValidityLaws.{atom_of-is_ground}

pub few-in : (d : Declared) (o : Option OpenOperator) → OperatorsInRange d.version d.names (own_problem d) d.things o
    → length (parameters_of o) ≤ most_parameters
few-in d None h = omega arith
few-in d (Some o) h = let params = h.schema.params in omega (arith, h.params, params)

-- an arity is at most 6, that of no predicate too
arity-small : (arities : List ℕ) → All (λ n. n ≤ most_arguments) arities → (k : ℕ) → slice_index arities k ≤ most_arguments
arity-small arities small k = elim (cases_lt k (length arities)) [
  | inl below ↦ small k 0 below
  | inr above ↦ (let none = get_or_past arities k 0 above in omega (arith, none))
]

-- no atom of a line has more than six arguments
pub sizes : (d : Declared) (l : Line) → AreInRange d → has_wrong_arity d l ≡ false
    → All (λ x. length x.atom.arguments ≤ most_arguments) (line_atoms l)
sizes d l r right = each-fails (has_other_arity d) (λ x. length x.atom.arguments ≤ most_arguments)
    (λ x e. let count : length x.atom.arguments ≡ slice_index d.arities (number_in x.atom.predicate d.names.predicates) = eqb-true _ _
    (not-false _ e) in
    let small = arity-small d.arities r.problem.arities (number_in x.atom.predicate d.names.predicates) in omega (arith, count, small))
    (line_atoms l) right

-- the facts of a line have objects alone
facts-are : (d : Declared) (xs : List SignedAtom) → AreInRange d → IsRight d (fact xs) → All IsGround (map (atom_of d []) xs)
facts-are d xs r f = let top = at-top d (line_of (fact xs)) (stands-right d (line_of (fact xs)) f.order) (λ b. refl) in
    let all = atoms-with d r xs plain refl (λ v. refl) 0 (omega (arith, ap length (no-parameters d top)))
    (atoms-right d (fact xs) xs (record { atoms = refl; arguments = refl }) f) in
    λ k a below. atom_of-is_ground (own_problem d) _ (all k a below)

-- the atoms of a line can be written by numbers
pub readable : (d : Declared) (s : Statement) (atoms slice : List WrittenAtom) → slice ≡ atoms → AreInRange d → IsRight d s
    → line_atoms (line_of s) ≡ map signed_view atoms ++ [] → AreReadable d slice
readable d s atoms slice is r right are = let P : List SignedAtom → Type 0 = All (λ x. length x.atom.arguments ≤ most_arguments) in
    let viewed = unmap signed_view (λ x. length x.atom.arguments ≤ most_arguments) atoms
    (subst P (are ∙ append-nil (map signed_view atoms)) (sizes d (line_of s) r right.arity)) in subst (AreReadable d) (sym is) (record {
      few = few-in d (operator_here d.block) r.operators;
      sizes = λ k a below. let small = viewed k a below in omega
          (arith, small, length-map (get_or atoms k a).arguments.items argument_view);
    })

pub facts-ground : (d : Declared) (atoms : List WrittenAtom) → AreInRange d → IsRight d (fact (map signed_view atoms))
    → All (λ x. IsGround (atom_of d [] (signed_view x))) atoms
facts-ground d atoms r right = unmap signed_view (λ x. IsGround (atom_of d [] x)) atoms
    (unmap (atom_of d []) IsGround (map signed_view atoms) (facts-are d (map signed_view atoms) r right))

-- the new clause is the last of the axioms
module _ (d : Declared) (xs : List SignedAtom) (r : AreInRange d) (formed : is_formed d (line_of («axiom» xs)) ≡ true)
    (f : IsFaultless d («axiom» xs)) where
  axioms-after : IsArena (d.axioms ++ clause_of d xs ∷ [])
  axioms-after = (line-kept 0 d r («axiom» xs) (well-formed d (line_of («axiom» xs)) formed) f).problem.valid.arena

  pub axiom-clause : IsClause (clause_of d xs)
  axiom-clause = subst IsClause (get_or-append_seam d.axioms (clause_of d xs) [] (clause_of d xs))
      (axioms-after.each (length d.axioms) (clause_of d xs) (omega (arith, length-append d.axioms (clause_of d xs ∷ []))))

  pub axiom-room : length d.axioms < most_clauses
  axiom-room = let most = axioms-after.most in omega (arith, most, length-append d.axioms (clause_of d xs ∷ []))
