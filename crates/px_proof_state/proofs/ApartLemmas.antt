-- Atoms that are told apart.
use Rattle.std.proofs.Common.{◌≡◌, ℕ, zero, suc, ◌<◌, false, List, [], ◌∷◌, length, map, get_or, set, take, ap, sym, refl, ◌∙◌, arith}
use Rattle.std.proofs.Math.Seq.{take-length}
use Rattle.px_terms.specs.declared.atom.Atom.{Atom}
use Rattle.px_terms.specs.declared.term.Term.{Term}
use Rattle.px_terms.specs.Language.{substitute}
use Rattle.px_terms.specs.Substitution.{substitute_atom, variables_from}
use Rattle.std.proofs.lemmas.List.{get_or_default}
use Rattle.px_proof.specs.Literals.{substitute_literal}
use Rattle.px_proof.specs.SubstitutionLaws.{literal_twice}
use Rattle.px_proof.specs.declared.shape.Tick.{Tick}
use Rattle.px_terms.specs.declared.clause.Clause.{Clause}
use Rattle.px_terms.specs.declared.clause.Lit.{Lit}
use Rattle.px_unify.specs.Changes.{variables_of}
use Rattle.px_proof_state.specs.declared.open.OpenGoal.{OpenGoal}
use Rattle.px_proof_state.specs.Apart.{AreApart, AreLiteralsApart, AreTermsApart}
use Rattle.px_proof_state.specs.States.{ProofStateValue}
use Rattle.px_proof_state.specs.Steps.{ClosesByStep, no_literal}

-- two terms at one place keep the lists apart
lists_apart : (sigma tau xs ys : List Term) (k : ℕ) (d e : Term) → k < length xs → k < length ys
    → AreTermsApart (get_or xs k d) (get_or ys k e) → ¬ (map (substitute sigma) xs ≡ map (substitute tau) ys)
lists_apart sigma tau [] ys k d e x_within y_within differ same = absurd (omega (arith, x_within))
lists_apart sigma tau (x ∷ xs) [] k d e x_within y_within differ same = absurd (omega (arith, y_within))
lists_apart sigma tau (x ∷ xs) (y ∷ ys) zero d e x_within y_within differ same = differ sigma tau (cc)
lists_apart sigma tau (x ∷ xs) (y ∷ ys) (suc k) d e x_within y_within differ same =
    lists_apart sigma tau xs ys k d e (omega (arith, x_within)) (omega (arith, y_within)) differ (cc)

-- and the atoms
pub place-apart : (a b : Atom) (xs ys : List Term) → xs ≡ a.args → ys ≡ b.args → (k : ℕ) (d e : Term) → k < length xs
    → length xs ≡ length ys → AreTermsApart (get_or xs k d) (get_or ys k e) → AreApart a b
place-apart a b xs ys xs_are ys_are k d e within long differ sigma tau same =
    lists_apart sigma tau xs ys k d e within (omega (arith, within, long)) differ
    (ap (map (substitute sigma)) xs_are ∙ ap (λ (c : Atom). c.args) same ∙ sym (ap (map (substitute tau)) ys_are))

module _ (sigma : List Term) where
  one_more : (args terms : List Term) (k : ℕ) (d t : Term) → k < length args → k < length terms
      → substitute sigma (get_or args k d) ≡ substitute sigma t
      → map (substitute sigma) (take k args) ≡ map (substitute sigma) (take k terms)
      → map (substitute sigma) (take (suc k) args) ≡ map (substitute sigma) (take (suc k) (set terms k t))
  one_more [] terms k d t within room one same = absurd (omega (arith, within))
  one_more (x ∷ args) [] k d t within room one same = absurd (omega (arith, room))
  one_more (x ∷ args) (y ∷ terms) zero d t within room one same = ap (λ (s : Term). s ∷ []) one
  one_more (x ∷ args) (y ∷ terms) (suc k) d t within room one same =
      let head : substitute sigma x ≡ substitute sigma y = cc in
      let tail : map (substitute sigma) (take k args) ≡ map (substitute sigma) (take k terms) = cc in
      let more = one_more args terms k d t (omega (arith, within)) (omega (arith, room)) one tail in
      λ i. head i ∷ more i

  -- one more argument is followed
  pub followed-next : (args terms : List Term) (k next : ℕ) (d t : Term) → next ≡ suc k → k < length args → k < length terms
      → substitute sigma (get_or args k d) ≡ substitute sigma t
      → map (substitute sigma) (take k args) ≡ map (substitute sigma) (take k terms)
      → map (substitute sigma) (take next args) ≡ map (substitute sigma) (take next (set terms k t))
  followed-next args terms k next d t next_is within room one same = rw next_is (one_more args terms k d t within room one same)

-- the atom of the arguments that are followed
pub followed-atom : (sigma : List Term) (a ends : Atom) (args terms : List Term) (k p : ℕ) → args ≡ a.args → p ≡ a.pred → k ≡ length args
    → ends ≡ record { pred = p; args = take (length args) terms }
    → map (substitute sigma) (take k args) ≡ map (substitute sigma) (take k terms) → substitute_atom sigma a ≡ substitute_atom sigma ends
followed-atom sigma a ends args terms k p args_are pred_is all ends_are same =
    sym
    (ap (substitute_atom sigma) ends_are
    ∙ (λ i. record { pred = pred_is i; args = map (substitute sigma) (take (all_back i) terms) })
    ∙ (λ i. record {
      pred = a.pred;
      args = (sym same ∙ ap (λ n. map (substitute sigma) (take n args)) all ∙ ap (map (substitute sigma)) (take-length args ∙ args_are)) i;
    }))
  where
    all_back : length args ≡ k
    all_back = sym all

-- an attempt at a literal that is apart from the goal
pub untried-step : (old : ProofStateValue) (tick : Tick) (goal : OpenGoal) (clause : Clause) (place : ℕ) (lit : Lit)
    → lit ≡ get_or clause.lits place lit → place < length clause.lits → AreLiteralsApart goal.lit lit
    → ClosesByStep old old tick goal clause place false
untried-step old tick goal clause place lit lit_is within is_apart = record {
  is_match = record {
    agree = λ is_found. absurd (cc);
    variables = λ is_found. absurd (cc);
    prefix = λ is_found. absurd (cc);
    grown = λ is_found. absurd (cc);
    solvable = λ is_found. absurd (cc);
    never =
        λ is_not sigma fits same. is_apart sigma (map (substitute sigma) theta)
        (same ∙ ap (λ l. substitute_literal sigma (substitute_literal theta l)) found_is ∙ literal_twice sigma theta lit);
    same = λ is_not. refl;
  };
  chosen = λ is_found. absurd (cc);
  grown = λ is_found. absurd (cc);
  older = λ is_found. absurd (cc);
  arena = λ is_found. absurd (cc);
  opened = λ is_found. absurd (cc);
  unchanged = λ is_not. refl;
}
  where
    theta : List Term
    theta = variables_from (variables_of old.changes) clause.variable_count

    found_is : get_or clause.lits place no_literal ≡ lit
    found_is = sym (lit_is ∙ get_or_default clause.lits place lit no_literal within)
