-- What objects for parameters make of atoms, operator instances and marks, and what these then say in a state.
use Rattle.std.specs.Prelude.{◌≡◌, ◌↔◌, ℕ, ◌<◌, Some, List, [], ◌∷◌, ◌++◌, length, map, slice_get, slice_index, All}
use Rattle.std.proofs.Common.{zero, suc, refl, sym, ap, ◌∙◌, subst, append_assoc, length-append, arith}
use Rattle.std.proofs.lemmas.List.{length-map, map-append}
use Rattle.std.proofs.lemmas.List.Elements.{All-map}
use Rattle.px_terms.specs.declared.atom.Atom.{Atom}
use Rattle.px_terms.specs.declared.instance.OpInst.{OpInst}
use Rattle.px_terms.specs.declared.problem.Problem.{Problem}
use Rattle.px_terms.specs.declared.term.Term.{Term}
use Rattle.px_terms.specs.declared.term.Term.TheVariants.{Obj, Var, Any}
use Rattle.px_terms.specs.Instances.{IsGround}
use Rattle.px_terms.specs.Operators.{precondition, adds, schema_of}
use Rattle.px_terms.specs.States.{State, IsState, Holds, HoldsUnder, AreValues, element_of}
use Rattle.px_terms.specs.Substitution.{substitute_atom, substitute_instance, variables_from}
use Rattle.px_terms.specs.Validity.{IsAtomOf, IsTermOf, IsInstanceOf}
use Rattle.px_terms.specs.ValidityLaws.{atom-is_of}
use Rattle.px_proof.specs.Literals.{positive_of}
use Rattle.px_proof.specs.PlaceLaws.{slice_get-map}
use Rattle.px_proof.specs.SubstitutionLaws.{atom_twice}
use Rattle.px_proof.specs.TruthLaws.{elements_of, literal-under, object-within, element_within}
use Rattle.px_terms.specs.Language.{IsObject, substitute}
use Rattle.px_table.specs.declared.mark.Mark.{Mark}
use Rattle.px_table.specs.declared.table.Table.{Table}
use Rattle.px_table.specs.Kernels.{IsInstantiation, atom_under, mark_under, instance_under}
use Rattle.px_table.specs.Marks.{IsNamed, step_at}
use Rattle.px_table.specs.Supports.{variables}
use Rattle.px_table.specs.Tables.{IsStepOf}

-- ---- lists of an instance are those of the schema's instance under the terms

atoms_twice : (outer inner : List Term) (atoms : List Atom) → map (substitute_atom (map (substitute outer) inner)) atoms ≡ map
    (substitute_atom outer) (map (substitute_atom inner) atoms)
atoms_twice outer inner [] = refl
atoms_twice outer inner (atom ∷ atoms) = rw (atom_twice outer inner atom, atoms_twice outer inner atoms) refl

pub precondition-under : (problem : Problem) (terms : List Term) (inst : OpInst)
    → precondition problem (substitute_instance terms inst) ≡ map (substitute_atom terms) (precondition problem inst)
precondition-under problem terms inst = atoms_twice terms inst.args (schema_of problem inst).pre

pub adds-under : (problem : Problem) (terms : List Term) (inst : OpInst)
    → adds problem (substitute_instance terms inst) ≡ map (substitute_atom terms) (adds problem inst)
adds-under problem terms inst = atoms_twice terms inst.args (schema_of problem inst).add

-- ---- places of a list under a map

pub from_map : {A B : Type 0} (f : A → B) (xs : List A) (k : ℕ) (y : B) → slice_get (map f xs) k ≡ Some y → (x : A)
    × (slice_get xs k ≡ Some x) × (f x ≡ y)
from_map f [] k y e = absurd (cc)
from_map f (x ∷ xs) zero y e = (x, refl, cc)
from_map f (x ∷ xs) (suc k) y e = from_map f xs k y e

pub step_at-map : (f : OpInst → OpInst) (steps : List OpInst) (k : ℕ) (inst : OpInst) → step_at steps k ≡ Some inst
    → step_at (map f steps) k ≡ Some (f inst)
step_at-map f steps zero inst e = absurd (cc)
step_at-map f steps (suc k) inst e = slice_get-map f steps k inst e

-- a mark still names where it comes from
pub IsNamed-under : (problem : Problem) (steps : List OpInst) (sigma : List ℕ) (mark : Mark) → IsNamed problem steps mark
    → IsNamed problem (map (instance_under sigma) steps) (mark_under sigma mark)
IsNamed-under problem steps sigma mark named = record {
  earlier = named.earlier;
  initial = named.initial;
  added = λ later.
      let add = named.added later in (
        instance_under sigma add.0,
        step_at-map (instance_under sigma) steps mark.column add.0 add.1,
        rw (adds-under problem (map Obj sigma) add.0) (slice_get-map (atom_under sigma) (adds problem add.0) mark.index mark.atom add.2),
      );
}

-- ---- objects of the problem for the parameters

object_terms-are_terms : (problem : Problem) (sigma : List ℕ) → All (λ n. n < problem.objects) sigma
    → All (IsTermOf problem 0) (map Obj sigma)
object_terms-are_terms problem sigma objects = All-map (IsTermOf problem 0) Obj sigma objects

-- an atom over the parameters becomes an atom of the problem
pub atom_under-is_of : (problem : Problem) (table : Table) (sigma : List ℕ) (atom : Atom) → IsInstantiation problem table sigma
    → IsAtomOf problem table.params atom → IsAtomOf problem 0 (atom_under sigma atom)
atom_under-is_of problem table sigma atom given is =
    atom-is_of problem (map Obj sigma) (object_terms-are_terms problem sigma given.objects) atom
    (subst (λ n. IsAtomOf problem n atom) (sym (length-map sigma Obj ∙ given.count)) is)

term_with : (problem : Problem) (params : ℕ) (sigma : List ℕ) → All (λ n. n < problem.objects) sigma → length sigma ≡ params → (t : Term)
    → IsTermOf problem params t → IsTermOf problem 0 (substitute (map Obj sigma) t)
term_with problem params sigma objects count (Obj n) h = h
term_with problem params sigma objects count (Var v) h =
    object_terms-are_terms problem sigma objects v Any (rw length-map (omega (arith, h)))
term_with problem params sigma objects count Any h = h

-- a step becomes an instance of an operator of the problem
pub step_under-is_of : (problem : Problem) (table : Table) (sigma : List ℕ) (inst : OpInst) → IsInstantiation problem table sigma
    → IsStepOf problem table.params inst → IsInstanceOf problem (instance_under sigma inst)
step_under-is_of problem table sigma inst given is = record {
  op = is.op;
  count = length-map inst.args (substitute (map Obj sigma)) ∙ is.count;
  objects = All-map (IsTermOf problem 0) (substitute (map Obj sigma)) inst.args
      (λ k d below. term_with problem table.params sigma given.objects given.count _ (is.terms k d below));
}

-- ---- as many objects as there are parameters, whatever their numbers

object_with : (problem : Problem) (params : ℕ) (sigma : List ℕ) → length sigma ≡ params → (t : Term) → IsTermOf problem params t
    → IsObject (substitute (map Obj sigma) t)
object_with problem params sigma count (Obj n) h = tt
object_with problem params sigma count (Var v) h = All-map IsObject Obj sigma (λ k d below. tt) v Any
    (rw length-map (omega (arith, count, h)))
object_with problem params sigma count Any h = h

-- an atom over the parameters becomes ground
pub atom_under-is_ground : (problem : Problem) (params : ℕ) (sigma : List ℕ) (atom : Atom) → length sigma ≡ params
    → IsAtomOf problem params atom → IsGround (atom_under sigma atom)
atom_under-is_ground problem params sigma atom count is =
    All-map IsObject (substitute (map Obj sigma)) atom.args (λ k d below. object_with problem params sigma count _ (is.1 k d below))

-- and a step has objects alone
pub step_under-objects : (problem : Problem) (params : ℕ) (sigma : List ℕ) (inst : OpInst) → length sigma ≡ params
    → IsStepOf problem params inst → All IsObject (instance_under sigma inst).args
step_under-objects problem params sigma inst count is =
    All-map IsObject (substitute (map Obj sigma)) inst.args (λ k d below. object_with problem params sigma count _ (is.terms k d below))

-- ---- truth

-- the elements that the objects have in the state
abbrev pub elements_under : State → List ℕ → List ℕ
elements_under state sigma = elements_of state [] (map Obj sigma)

-- an atom holds with the objects for the parameters where it holds with their elements
pub holds-under : (state : State) (sigma : List ℕ) (atom : Atom) → Holds state (atom_under sigma atom)
    ↔ HoldsUnder state (elements_under state sigma) atom
holds-under state sigma atom = literal-under state [] (map Obj sigma) (positive_of atom)

pub elements-are_values : (state : State) → IsState state → (sigma : List ℕ) → AreValues state (length sigma) (elements_under state sigma)
elements-are_values state is sigma = (
  length-map (map Obj sigma) (element_of state []) ∙ length-map sigma Obj,
  All-map (λ e. e < state.size) (element_of state []) (map Obj sigma)
      (All-map (λ t. element_of state [] t < state.size) Obj sigma (λ k d below. object-within state is [] (Obj _) tt)),
)

-- each term has an element of the state
pub term-within : (state : State) → IsState state → (values : List ℕ) → All (λ e. e < state.size) values → (t : Term)
    → element_of state values t < state.size
term-within state is values within (Obj n) = element_within state.size is.not_empty state.elements n is.elements
term-within state is values within (Var v) = element_within state.size is.not_empty values v within
term-within state is values within Any = is.not_empty

value_behind : (prefix values : List ℕ) (e : ℕ) → slice_index (prefix ++ e ∷ values) (length prefix) ≡ e
value_behind [] values e = refl
value_behind (f ∷ prefix) values e = value_behind prefix values e

values_behind : (state : State) (prefix values : List ℕ) (first : ℕ) → first ≡ length prefix
    → map (element_of state (prefix ++ values)) (variables_from first (length values)) ≡ values
values_behind state prefix [] first is = refl
values_behind state prefix (e ∷ values) first is =
    let head : element_of state (prefix ++ e ∷ values) (Var first) ≡ e =
    ap (slice_index (prefix ++ e ∷ values)) is ∙ value_behind prefix values e in
    let rest : map (element_of state (prefix ++ e ∷ values)) (variables_from (suc first) (length values)) ≡ values =
    ap (λ l. map (element_of state l) (variables_from (suc first) (length values))) (sym (append_assoc prefix (e ∷ []) values))
    ∙ values_behind state (prefix ++ e ∷ []) values (suc first) (omega (arith, is, length-append prefix (e ∷ []))) in
    rw (head, rest) refl

-- the variables have the elements given for them
elements-variables : (state : State) (values : List ℕ) (count : ℕ) → length values ≡ count
    → map (element_of state values) (variables count) ≡ values
elements-variables state values count is = subst (λ n. map (element_of state values) (variables n) ≡ values) is
    (values_behind state [] values 0 refl)

objects_alike : (state : State) (values : List ℕ) (sigma : List ℕ)
    → map (element_of state values) (map Obj sigma) ≡ elements_under state sigma
objects_alike state values [] = refl
objects_alike state values (n ∷ sigma) = ap (λ l. slice_index state.elements n ∷ l) (objects_alike state values sigma)

-- The goal's atom with terms for its own variables after the parameters holds with the elements of the objects exactly where the atom with
-- objects for the parameters holds with the elements of these terms.
pub goal_holds-under : (state : State) (sigma : List ℕ) (chosen : List Term) (params count : ℕ) → length sigma ≡ params
    → length chosen ≡ count → (atom : Atom)
    → HoldsUnder state (elements_under state sigma) (substitute_atom (variables params ++ chosen) atom)
    → HoldsUnder state (map (element_of state (elements_under state sigma)) chosen)
    (substitute_atom (map Obj sigma ++ variables count) atom)
goal_holds-under state sigma chosen params count sigma_length chosen_length atom holds =
    let elements = elements_under state sigma in
    let values = map (element_of state elements) chosen in
    let left : elements_of state elements (variables params ++ chosen) ≡ elements ++ values =
    map-append (element_of state elements) (variables params) chosen
    ∙ ap (λ l. l ++ values) (elements-variables state elements params
    (length-map (map Obj sigma) (element_of state []) ∙ length-map sigma Obj ∙ sigma_length)) in
    let right : elements_of state values (map Obj sigma ++ variables count) ≡ elements ++ values =
    map-append (element_of state values) (map Obj sigma) (variables count)
    ∙ ap (λ l. l ++ map (element_of state values) (variables count)) (objects_alike state values sigma)
    ∙ ap (λ l. elements ++ l) (elements-variables state values count (length-map chosen (element_of state elements) ∙ chosen_length)) in
    (literal-under state values (map Obj sigma ++ variables count) (positive_of atom)).1
    (subst (λ l. HoldsUnder state l atom) (left ∙ sym right) ((literal-under state elements (variables params ++ chosen)
    (positive_of atom)).0 holds))
