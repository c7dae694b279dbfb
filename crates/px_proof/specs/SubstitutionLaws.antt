-- Derivations stay derivations where their variables are replaced.
use Rattle.std.specs.Prelude.{◌≡◌, ℕ, ◌≤◌, List, [], ◌∷◌, ◌++◌, length, map, remove, slice_get, slice_index_or, All, Contains}
use Rattle.std.proofs.Common.{refl, sym, ap, ◌∙◌, subst, zero, suc, arith}
use Rattle.std.proofs.lemmas.List.{length-map, map-append}
use Rattle.std.proofs.lemmas.List.Elements.{All-map}
use Rattle.px_base.specs.ListLaws.{All-at}
use Rattle.px_terms.specs.Language.{substitute, IsObject}
use Rattle.px_terms.specs.Substitution.{substitute_atom}
use Rattle.px_terms.specs.declared.atom.Atom.{Atom}
use Rattle.px_terms.specs.declared.clause.Clause.{Clause}
use Rattle.px_terms.specs.declared.clause.Lit.{Lit}
use Rattle.px_terms.specs.declared.term.Term.{Term}
use Rattle.px_terms.specs.declared.term.Term.TheVariants.{Obj, Var, Any}
use Rattle.px_proof.specs.declared.proof.Leaf.{Leaf}
use Rattle.px_proof.specs.Derivation.{Derivation, Derivations, fact, ancestor, step, gap, open_place, none, also, leaves_of, all_leaves_of, leaf_atoms, skeleton, skeletons}
use Rattle.px_proof.specs.Literals.{substitute_literal, complement_of}
use Rattle.px_proof.specs.PlaceLaws.{slice_get-map, map-remove, Contains-mapped}
use Rattle.px_proof.specs.Proves.{Rules, Proves, ProvesEach, instance_of, parts_of, from_atoms, from_facts, IsObjectOrParameter}
use Rattle.px_proof.specs.Substitution.{leaf_under, derivation_under, derivations_under, StaysProof, StaysTree, ProvesFromFacts}

-- ---- replacing twice is replacing once

substitute_at : (outer inner : List Term) (v : ℕ) → substitute outer (slice_index_or inner v Any) ≡ slice_index_or
    (map (substitute outer) inner) v Any
substitute_at outer [] v = refl
substitute_at outer (t ∷ inner) zero = refl
substitute_at outer (t ∷ inner) (suc v) = substitute_at outer inner v

pub substitute_twice : (outer inner : List Term) (t : Term) → substitute outer (substitute inner t) ≡ substitute
    (map (substitute outer) inner) t
substitute_twice outer inner (Obj n) = refl
substitute_twice outer inner (Var v) = substitute_at outer inner v
substitute_twice outer inner Any = refl

pub terms_twice : (outer inner args : List Term) → map (substitute outer) (map (substitute inner) args) ≡ map
    (substitute (map (substitute outer) inner)) args
terms_twice outer inner [] = refl
terms_twice outer inner (t ∷ args) = rw (substitute_twice outer inner t, terms_twice outer inner args) refl

pub atom_twice : (outer inner : List Term) (atom : Atom) → substitute_atom outer (substitute_atom inner atom) ≡ substitute_atom
    (map (substitute outer) inner) atom
atom_twice outer inner atom = ap (λ (args : List Term). record { pred = atom.pred; args = args }) (terms_twice outer inner atom.args)

pub literal_twice : (outer inner : List Term) (lit : Lit) → substitute_literal outer (substitute_literal inner lit) ≡ substitute_literal
    (map (substitute outer) inner) lit
literal_twice outer inner lit = ap (λ (atom : Atom). record { positive = lit.positive; atom = atom }) (atom_twice outer inner lit.atom)

pub instance_twice : (outer inner : List Term) (lits : List Lit)
    → map (substitute_literal outer) (instance_of lits inner) ≡ instance_of lits (map (substitute outer) inner)
instance_twice outer inner [] = refl
instance_twice outer inner (lit ∷ lits) = rw (literal_twice outer inner lit, instance_twice outer inner lits) refl

complements_under : (terms : List Term) (lits : List Lit) → map (substitute_literal terms) (map complement_of lits) ≡ map complement_of
    (map (substitute_literal terms) lits)
complements_under terms [] = refl
complements_under terms (lit ∷ lits) = ap (λ ls. substitute_literal terms (complement_of lit) ∷ ls) (complements_under terms lits)

pub parts_under : (terms theta : List Term) (lits : List Lit) (place : ℕ)
    → map (substitute_literal terms) (parts_of lits theta place) ≡ parts_of lits (map (substitute terms) theta) place
parts_under terms theta lits place =
    complements_under terms (remove (instance_of lits theta) place)
    ∙ ap (map complement_of) (map-remove (substitute_literal terms) (instance_of lits theta) place ∙ ap (λ ls. remove ls place)
    (instance_twice terms theta lits))

mutual
  pub derivation_twice : (outer inner : List Term) (d : Derivation)
      → derivation_under outer (derivation_under inner d) ≡ derivation_under (map (substitute outer) inner) d
  derivation_twice outer inner (fact leaf) = ap (λ (a : Atom). fact (record { column = leaf.column; index = leaf.index; atom = a }))
      (atom_twice outer inner leaf.atom)
  derivation_twice outer inner (ancestor i) = refl
  derivation_twice outer inner (step number theta place parts) =
      rw (terms_twice outer inner theta, derivations_twice outer inner parts) refl
  derivation_twice outer inner (gap atom) = ap (λ (a : Atom). gap a) (atom_twice outer inner atom)
  derivation_twice outer inner open_place = refl

  pub derivations_twice : (outer inner : List Term) (ds : Derivations)
      → derivations_under outer (derivations_under inner ds) ≡ derivations_under (map (substitute outer) inner) ds
  derivations_twice outer inner none = refl
  derivations_twice outer inner (also d ds) = rw (derivation_twice outer inner d, derivations_twice outer inner ds) refl

-- ---- the shape

mutual
  pub skeleton-under : (terms : List Term) (d : Derivation) → skeleton (derivation_under terms d) ≡ skeleton d
  skeleton-under terms (fact leaf) = refl
  skeleton-under terms (ancestor i) = refl
  skeleton-under terms (step number theta place parts) = ap (λ ds. step number [] place ds) (skeletons-under terms parts)
  skeleton-under terms (gap atom) = refl
  skeleton-under terms open_place = refl

  pub skeletons-under : (terms : List Term) (ds : Derivations) → skeletons (derivations_under terms ds) ≡ skeletons ds
  skeletons-under terms none = refl
  skeletons-under terms (also d ds) = rw (skeleton-under terms d, skeletons-under terms ds) refl

-- ---- derivations

-- what the one rules allow, the others allow under the terms
pub record AllowsUnder (terms : List Term) (old new : Rules) : Type 0 where
  pub choices : (t : Term) → old.IsChoice t → new.IsChoice (substitute terms t)
  pub facts : (leaf : Leaf) → old.IsFact leaf → new.IsFact (leaf_under terms leaf)
  pub gaps : (atom : Atom) → old.IsGap atom → new.IsGap (substitute_atom terms atom)
  pub opens : old.IsOpen → new.IsOpen

pub each_choice : (terms : List Term) (Old New : Term → Type 0) → ((t : Term) → Old t → New (substitute terms t)) → (theta : List Term)
    → All Old theta → All New (map (substitute terms) theta)
each_choice terms Old New goes theta all = All-map New (substitute terms) theta (λ k d below. goes _ (all k d below))

module _ (axioms : List Clause) (terms : List Term) (old new : Rules) (allows : AllowsUnder terms old new) where
  mutual
    pub proves_under : (path : List Lit) (lit : Lit) (d : Derivation) → Proves old axioms path lit d
        → Proves new axioms (map (substitute_literal terms) path) (substitute_literal terms lit) (derivation_under terms d)
    proves_under path lit (fact leaf) proved = (ap (substitute_literal terms) proved.0, allows.facts leaf proved.1)
    proves_under path lit (ancestor i) proved = slice_get-map (substitute_literal terms) path i (complement_of lit) proved
    proves_under path lit (step number theta place parts) proved = (
      proved.0,
      record {
        axiom_at = proved.1.axiom_at;
        terms = length-map theta (substitute terms) ∙ proved.1.terms;
        choices = each_choice terms old.IsChoice new.IsChoice allows.choices theta proved.1.choices;
        literal_at = ap (λ ls. slice_get ls place) (sym (instance_twice terms theta proved.0.lits)) ∙ slice_get-map
            (substitute_literal terms) (instance_of proved.0.lits theta) place lit proved.1.literal_at;
      },
      subst (λ (ls : List Lit). ProvesEach new axioms (substitute_literal terms lit ∷ map (substitute_literal terms) path) ls
          (derivations_under terms parts))
          (parts_under terms theta proved.0.lits place) (each_under (lit ∷ path) (parts_of proved.0.lits theta place) parts proved.2),
    )
    proves_under path lit (gap atom) proved = (ap (substitute_literal terms) proved.0, allows.gaps atom proved.1)
    proves_under path lit open_place proved = allows.opens proved

    pub each_under : (path lits : List Lit) (ds : Derivations) → ProvesEach old axioms path lits ds
        → ProvesEach new axioms (map (substitute_literal terms) path) (map (substitute_literal terms) lits) (derivations_under terms ds)
    each_under path [] none each = tt
    each_under path (lit ∷ lits) (also d ds) each = (proves_under path lit d each.0, each_under path lits ds each.1)
    each_under path [] (also d ds) each = absurd each
    each_under path (lit ∷ lits) none each = absurd each

-- a name under names is a name
pub name_under : (objects params : ℕ) (terms : List Term) → All (IsObjectOrParameter objects params) terms → (t : Term)
    → IsObjectOrParameter objects (length terms) t
    → IsObjectOrParameter objects params (substitute terms t)
name_under objects params terms names (Obj n) h = h
name_under objects params terms names (Var v) h = names v Any h
name_under objects params terms names Any h = absurd h

pub stays_proof : (terms : List Term) (d : Derivation) → StaysProof terms d (derivation_under terms d)
stays_proof terms d axioms objects params atoms path lit names proved =
    proves_under axioms terms (from_atoms (IsObjectOrParameter objects (length terms)) atoms)
    (from_atoms (IsObjectOrParameter objects params) (map (substitute_atom terms) atoms))
    record {
      choices = name_under objects params terms names;
      facts = λ leaf from. (
        Contains-mapped (substitute_atom terms) atoms leaf.atom from.0,
        each_choice terms (IsObjectOrParameter objects (length terms)) (IsObjectOrParameter objects params)
            (name_under objects params terms names) leaf.atom.args
            from.1,
      );
      gaps = λ atom h. h;
      opens = λ h. h;
    }
    path lit d proved

-- the leaves with their variables replaced
mutual
  pub leaves-under : (terms : List Term) (d : Derivation) → leaves_of (derivation_under terms d) ≡ map (leaf_under terms) (leaves_of d)
  leaves-under terms (fact leaf) = refl
  leaves-under terms (ancestor i) = refl
  leaves-under terms (step number theta place parts) = all_leaves-under terms parts
  leaves-under terms (gap atom) = refl
  leaves-under terms open_place = refl

  pub all_leaves-under : (terms : List Term) (ds : Derivations)
      → all_leaves_of (derivations_under terms ds) ≡ map (leaf_under terms) (all_leaves_of ds)
  all_leaves-under terms none = refl
  all_leaves-under terms (also d ds) =
      ap (λ ls. ls ++ all_leaves_of (derivations_under terms ds)) (leaves-under terms d) ∙ ap
      (λ ls. map (leaf_under terms) (leaves_of d) ++ ls) (all_leaves-under terms ds)
      ∙ sym (map-append (leaf_under terms) (leaves_of d) (all_leaves_of ds))

-- the atoms of the leaves with their variables replaced
leaf_atoms_under : (terms : List Term) (leaves : List Leaf) → leaf_atoms (map (leaf_under terms) leaves) ≡ map (substitute_atom terms)
    (leaf_atoms leaves)
leaf_atoms_under terms [] = refl
leaf_atoms_under terms (leaf ∷ leaves) = ap (λ atoms. substitute_atom terms leaf.atom ∷ atoms) (leaf_atoms_under terms leaves)

pub leaf_atoms-under : (terms : List Term) (d : Derivation) → leaf_atoms (leaves_of (derivation_under terms d)) ≡ map
    (substitute_atom terms) (leaf_atoms (leaves_of d))
leaf_atoms-under terms d = ap leaf_atoms (leaves-under terms d) ∙ leaf_atoms_under terms (leaves_of d)

-- ---- trees

-- a name of fewer parameters is a name of more
name_of_more : (objects few many : ℕ) → few ≤ many → (t : Term) → IsObjectOrParameter objects few t → IsObjectOrParameter objects many t
name_of_more objects few many more (Obj n) h = h
name_of_more objects few many more (Var v) h = omega (arith, more, h)
name_of_more objects few many more Any h = absurd h

-- a name under objects is an object
pub object_under-is_object : (objects : ℕ) (terms : List Term) → All IsObject terms → (t : Term)
    → IsObjectOrParameter objects (length terms) t
    → IsObject (substitute terms t)
object_under-is_object objects terms all (Obj n) h = tt
object_under-is_object objects terms all (Var v) h = all v Any h
object_under-is_object objects terms all Any h = absurd h

pub stays_tree : (terms : List Term) (d : Derivation) → StaysTree terms d (derivation_under terms d)
stays_tree terms d axioms objects params new_params lit enough names tree =
    let goes : (t : Term) → IsObjectOrParameter objects params t → IsObjectOrParameter objects new_params (substitute terms t) =
    λ t h. name_under objects new_params terms names t (name_of_more objects params (length terms) enough t h) in
    record {
      proves = proves_under axioms terms (from_atoms (IsObjectOrParameter objects params) (leaf_atoms (leaves_of d)))
          (from_atoms (IsObjectOrParameter objects new_params) (leaf_atoms (leaves_of (derivation_under terms d))))
          record {
            choices = goes;
            facts = λ leaf from. (
              subst (λ (atoms : List Atom). Contains atoms (substitute_atom terms leaf.atom)) (sym (leaf_atoms-under terms d))
                  (Contains-mapped (substitute_atom terms) (leaf_atoms (leaves_of d)) leaf.atom from.0),
              each_choice terms (IsObjectOrParameter objects params) (IsObjectOrParameter objects new_params) goes leaf.atom.args from.1,
            );
            gaps = λ atom h. h;
            opens = λ h. h;
          }
          [] lit d tree.proves;
      terms = each_choice terms (IsObjectOrParameter objects params) (IsObjectOrParameter objects new_params) goes lit.atom.args tree.terms;
    }

pub proves_from_facts : (terms : List Term) (d : Derivation) → ProvesFromFacts terms d (derivation_under terms d)
proves_from_facts terms d axioms objects params facts lit enough all among tree =
    let goes : (t : Term) → IsObjectOrParameter objects params t → IsObject (substitute terms t) =
    λ t h. object_under-is_object objects terms all t (name_of_more objects params (length terms) enough t h) in
    proves_under axioms terms (from_atoms (IsObjectOrParameter objects params) (leaf_atoms (leaves_of d))) (from_facts facts)
    record {
      choices = goes;
      facts = λ leaf from. (
        All-at (Contains facts) (map (substitute_atom terms) (leaf_atoms (leaves_of d))) (substitute_atom terms leaf.atom) among
            (Contains-mapped (substitute_atom terms) (leaf_atoms (leaves_of d)) leaf.atom from.0),
        each_choice terms (IsObjectOrParameter objects params) IsObject goes leaf.atom.args from.1,
      );
      gaps = λ atom h. h;
      opens = λ h. h;
    }
    [] lit d tree.proves
