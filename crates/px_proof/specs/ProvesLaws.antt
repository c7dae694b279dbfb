-- Derivations by one set of rules that are derivations by another.
use Rattle.std.specs.Prelude.{◌≡◌, ◌↔◌, ℕ, Some, List, [], ◌∷◌, ◌++◌, slice_get, All, Contains}
use Rattle.std.proofs.Common.{zero, suc}
use Rattle.std.proofs.lemmas.List.Elements.{All-nil, All-cons, All-append, Contains-append_left, Contains-append_right}
use Rattle.px_base.specs.ListLaws.{Contains-first}
use Rattle.px_terms.specs.declared.atom.Atom.{Atom}
use Rattle.px_terms.specs.declared.clause.Clause.{Clause}
use Rattle.px_terms.specs.declared.clause.Lit.{Lit}
use Rattle.px_terms.specs.declared.term.Term.{Term}
use Rattle.px_terms.specs.declared.problem.Problem.{Problem}
use Rattle.px_terms.specs.declared.term.Term.TheVariants.{Obj, Var, Any as WildCard}
use Rattle.px_terms.specs.Validity.{IsTermOf}
use Rattle.px_proof.specs.declared.proof.Leaf.{Leaf}
use Rattle.px_proof.specs.Basis.{over_names}
use Rattle.px_proof.specs.Derivation.{Derivation, Derivations, fact, ancestor, step, gap, open_place, none, also, leaves_of, all_leaves_of, leaf_atoms, terms_of, all_terms_of}
use Rattle.px_proof.specs.Literals.{complement_of}
use Rattle.px_proof.specs.PlaceLaws.{Contains-mapped}
use Rattle.px_proof.specs.Proves.{Rules, Proves, ProvesEach, parts_of, from_atoms, IsObjectOrParameter, StaysUnderLongerPaths}

-- a term of the problem is a name of it, and a name is a term
pub name_of_term : (problem : Problem) (params : ℕ) (t : Term) → IsTermOf problem params t → IsObjectOrParameter problem.objects params t
name_of_term problem params (Obj n) is = is
name_of_term problem params (Var v) is = is
name_of_term problem params WildCard is = is

pub term_of_name : (problem : Problem) (params : ℕ) (t : Term) → IsObjectOrParameter problem.objects params t → IsTermOf problem params t
term_of_name problem params (Obj n) is = is
term_of_name problem params (Var v) is = is
term_of_name problem params WildCard is = is

-- what the one rules allow besides facts, the others allow
pub record Allows (old new : Rules) : Type 0 where
  pub choices : (t : Term) → old.IsChoice t → new.IsChoice t
  pub gaps : (atom : Atom) → old.IsGap atom → new.IsGap atom
  pub opens : old.IsOpen → new.IsOpen

module _ (axioms : List Clause) (old new : Rules) (allows : Allows old new) where
  mutual
    -- it is enough that the rules allow the facts at its own leaves
    pub proves_by : (path : List Lit) (lit : Lit) (d : Derivation)
        → ((leaf : Leaf) → Contains (leaves_of d) leaf → old.IsFact leaf → new.IsFact leaf)
        → Proves old axioms path lit d → Proves new axioms path lit d
    proves_by path lit (fact leaf) facts proved = (proved.0, facts leaf (Contains-first leaf []) proved.1)
    proves_by path lit (ancestor i) facts proved = proved
    proves_by path lit (step number theta place parts) facts proved = (
      proved.0,
      record {
        axiom_at = proved.1.axiom_at;
        terms = proved.1.terms;
        choices = λ k d below. allows.choices _ (proved.1.choices k d below);
        literal_at = proved.1.literal_at;
      },
      each_by (lit ∷ path) (parts_of proved.0.lits theta place) parts facts proved.2,
    )
    proves_by path lit (gap atom) facts proved = (proved.0, allows.gaps atom proved.1)
    proves_by path lit open_place facts proved = allows.opens proved

    pub each_by : (path lits : List Lit) (ds : Derivations)
        → ((leaf : Leaf) → Contains (all_leaves_of ds) leaf → old.IsFact leaf → new.IsFact leaf)
        → ProvesEach old axioms path lits ds → ProvesEach new axioms path lits ds
    each_by path [] none facts each = tt
    each_by path (lit ∷ lits) (also d ds) facts each = (
      proves_by path lit d (λ leaf has. facts leaf (Contains-append_left (leaves_of d) (all_leaves_of ds) leaf has)) each.0,
      each_by path lits ds (λ leaf has. facts leaf (Contains-append_right (leaves_of d) (all_leaves_of ds) leaf has)) each.1,
    )
    each_by path [] (also d ds) facts each = absurd each
    each_by path (lit ∷ lits) none facts each = absurd each

slice_get-prefix : {X : Type 0} (xs ys : List X) (k : ℕ) (x : X) → slice_get xs k ≡ Some x → slice_get (xs ++ ys) k ≡ Some x
slice_get-prefix [] ys k x at = absurd (cc)
slice_get-prefix (y ∷ xs) ys zero x at = at
slice_get-prefix (y ∷ xs) ys (suc k) x at = slice_get-prefix xs ys k x at

-- what is proved under a path is proved under a longer one
module _ (rules : Rules) (axioms : List Clause) (far : List Lit) where
  mutual
    pub proves_longer : (path : List Lit) (lit : Lit) (d : Derivation) → Proves rules axioms path lit d
        → Proves rules axioms (path ++ far) lit d
    proves_longer path lit (fact leaf) proved = proved
    proves_longer path lit (ancestor i) proved = slice_get-prefix path far i (complement_of lit) proved
    proves_longer path lit (step number theta place parts) proved =
        (proved.0, proved.1, each_longer (lit ∷ path) (parts_of proved.0.lits theta place) parts proved.2)
    proves_longer path lit (gap atom) proved = proved
    proves_longer path lit open_place proved = proved

    pub each_longer : (path lits : List Lit) (ds : Derivations) → ProvesEach rules axioms path lits ds
        → ProvesEach rules axioms (path ++ far) lits ds
    each_longer path [] none each = tt
    each_longer path (lit ∷ lits) (also d ds) each = (proves_longer path lit d each.0, each_longer path lits ds each.1)
    each_longer path [] (also d ds) each = absurd each
    each_longer path (lit ∷ lits) none each = absurd each

pub stays_under_longer_paths : StaysUnderLongerPaths
stays_under_longer_paths axioms objects params atoms path far lit d =
    proves_longer (from_atoms (IsObjectOrParameter objects params) atoms) axioms far path lit d

-- each leaf is a fact that the rules allow
module _ (rules : Rules) (axioms : List Clause) where
  mutual
    pub leaves_allowed : (path : List Lit) (lit : Lit) (d : Derivation) → Proves rules axioms path lit d → All rules.IsFact (leaves_of d)
    leaves_allowed path lit (fact leaf) proved = All-cons rules.IsFact leaf [] proved.1 (All-nil rules.IsFact)
    leaves_allowed path lit (ancestor i) proved = All-nil rules.IsFact
    leaves_allowed path lit (step number theta place parts) proved =
        all_leaves_allowed (lit ∷ path) (parts_of proved.0.lits theta place) parts proved.2
    leaves_allowed path lit (gap atom) proved = All-nil rules.IsFact
    leaves_allowed path lit open_place proved = All-nil rules.IsFact

    pub all_leaves_allowed : (path lits : List Lit) (ds : Derivations) → ProvesEach rules axioms path lits ds
        → All rules.IsFact (all_leaves_of ds)
    all_leaves_allowed path [] none each = All-nil rules.IsFact
    all_leaves_allowed path (lit ∷ lits) (also d ds) each =
        All-append rules.IsFact (leaves_of d) (all_leaves_of ds) (leaves_allowed path lit d each.0) (all_leaves_allowed path lits ds each.1)
    all_leaves_allowed path [] (also d ds) each = absurd each
    all_leaves_allowed path (lit ∷ lits) none each = absurd each

-- whatever the rules allow has only such terms
pub record AllowsOnly (IsTerm : Term → Type 0) (rules : Rules) : Type 0 where
  pub choices : (t : Term) → rules.IsChoice t → IsTerm t
  pub facts : (leaf : Leaf) → rules.IsFact leaf → All IsTerm leaf.atom.args
  pub gaps : (atom : Atom) → rules.IsGap atom → All IsTerm atom.args

module _ (axioms : List Clause) (IsTerm : Term → Type 0) (rules : Rules) (only : AllowsOnly IsTerm rules) where
  mutual
    -- then each derivation by them has only such terms
    pub only_terms : (path : List Lit) (lit : Lit) (d : Derivation) → Proves rules axioms path lit d → All IsTerm (terms_of d)
    only_terms path lit (fact leaf) proved = only.facts leaf proved.1
    only_terms path lit (ancestor i) proved = All-nil IsTerm
    only_terms path lit (step number theta place parts) proved =
        All-append IsTerm theta (all_terms_of parts) (λ k d below. only.choices _ (proved.1.choices k d below))
        (only_terms_each (lit ∷ path) (parts_of proved.0.lits theta place) parts proved.2)
    only_terms path lit (gap atom) proved = only.gaps atom proved.1
    only_terms path lit open_place proved = All-nil IsTerm

    only_terms_each : (path lits : List Lit) (ds : Derivations) → ProvesEach rules axioms path lits ds → All IsTerm (all_terms_of ds)
    only_terms_each path [] none each = All-nil IsTerm
    only_terms_each path (lit ∷ lits) (also d ds) each = All-append IsTerm (terms_of d) (all_terms_of ds) (only_terms path lit d each.0)
        (only_terms_each path lits ds each.1)
    only_terms_each path [] (also d ds) each = absurd each
    only_terms_each path (lit ∷ lits) none each = absurd each

-- a proof from given atoms has only terms that may be chosen
pub terms_from : (IsTerm : Term → Type 0) (axioms : List Clause) (atoms : List Atom) (path : List Lit) (lit : Lit) (d : Derivation)
    → Proves (from_atoms IsTerm atoms) axioms path lit d → All IsTerm (terms_of d)
terms_from IsTerm axioms atoms path lit d =
    only_terms axioms IsTerm (from_atoms IsTerm atoms) (record
    { choices = λ t h. h; facts = λ leaf from. from.1; gaps = λ atom h. absurd h }) path lit d

-- each leaf closes its own atom, so of the leaves only their terms are asked
pub own_leaves : (axioms : List Clause) (objects params : ℕ) (path : List Lit) (lit : Lit) (d : Derivation)
    → Proves (over_names objects params) axioms path lit d
    ↔ Proves (from_atoms (IsObjectOrParameter objects params) (leaf_atoms (leaves_of d))) axioms
    path lit d
own_leaves axioms objects params path lit d = (
  proves_by axioms (over_names objects params) (from_atoms (IsObjectOrParameter objects params) (leaf_atoms (leaves_of d)))
      (record { choices = λ t h. h; gaps = λ atom h. h; opens = λ h. h }) path lit d
      (λ leaf has names. (Contains-mapped (λ (l : Leaf). l.atom) (leaves_of d) leaf has, names)),
  proves_by axioms (from_atoms (IsObjectOrParameter objects params) (leaf_atoms (leaves_of d))) (over_names objects params)
      (record { choices = λ t h. h; gaps = λ atom h. h; opens = λ h. h }) path lit d (λ leaf has h. h.1),
)
