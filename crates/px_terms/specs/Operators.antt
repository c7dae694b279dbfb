-- Operator instances: what they need, delete and add, and the world models that they leave.
use Rattle.std.specs.Prelude.{◌≡◌, ◌<◌, Bool, false, not, All, length, List, [], ◌∷◌, ◌++◌, Any, map, filter, slice_index_or, ◌↔◌, ◌⊎◌, Contains}
use Rattle.std.specs.List.{list_any}
use Rattle.px_terms.specs.declared.atom.Atom.{Atom}
use Rattle.px_terms.specs.declared.instance.OpInst.{OpInst}
use Rattle.px_terms.specs.declared.problem.Problem.{Problem}
use Rattle.px_terms.specs.declared.problem.Schema.{Schema}
use Rattle.px_terms.specs.Instances.{IsGround, IsInstance, is_instance}
use Rattle.px_terms.specs.AtomSets.{atom_set}
use Rattle.px_terms.specs.Substitution.{substitute_atom}

-- the instance's atoms of a list of the schema
abbrev pub atoms_of : List Atom → OpInst → List Atom
atoms_of atoms inst = map (substitute_atom inst.args) atoms

-- one of the delete patterns stands for the atom
abbrev pub IsDeleted : Schema → OpInst → Atom → Type 0
IsDeleted schema inst atom = Any (λ pattern. IsInstance atom (substitute_atom inst.args pattern)) schema.del

-- the test of a deletion, which decides it on ground atoms
abbrev pub is_deleted : Schema → OpInst → Atom → Bool
is_deleted schema inst atom = list_any (λ pattern. is_instance atom (substitute_atom inst.args pattern)) schema.del

-- the set of the atoms that the instance doesn't delete, together with those that it adds
abbrev pub result_by : Schema → List Atom → OpInst → List Atom
result_by schema atoms inst = atom_set (filter (λ atom. not (is_deleted schema inst atom)) atoms ++ atoms_of schema.add inst)

-- stands for the operator where there is none
abbrev pub no_schema : Schema
no_schema = record { op = 0; params = 0; pre = []; del = []; add = []; param_sorts = [] }

-- the operator of an instance
abbrev pub schema_of : Problem → OpInst → Schema
schema_of problem inst = slice_index_or problem.schemas inst.op no_schema

-- the atoms that the instance needs
abbrev pub precondition : Problem → OpInst → List Atom
precondition problem inst = atoms_of (schema_of problem inst).pre inst

-- the atoms that it adds
abbrev pub adds : Problem → OpInst → List Atom
adds problem inst = atoms_of (schema_of problem inst).add inst

-- whether it deletes the atom
abbrev pub deletes : Problem → OpInst → Atom → Bool
deletes problem inst atom = is_deleted (schema_of problem inst) inst atom

-- the model that it leaves: first all goes that it deletes, then its adds come
abbrev pub result_of : Problem → List Atom → OpInst → List Atom
result_of problem atoms inst = result_by (schema_of problem inst) atoms inst

-- the instances are applied in order
abbrev pub results_of : Problem → List Atom → List OpInst → List Atom
results_of problem atoms [] = atoms
results_of problem atoms (inst ∷ insts) = results_of problem (result_of problem atoms inst) insts

-- the ground atoms afterwards are those from before that the instance doesn't delete, and those that it adds
abbrev pub IsResult : Problem → OpInst → List Atom → List Atom → Type 0
IsResult problem inst before after =
    (atom : Atom) → IsGround atom → Contains after atom ↔ ((Contains before atom × ¬ IsDeleted (schema_of problem inst) inst atom)
    ⊎ Contains (adds problem inst) atom)

-- the schema is the problem's, at the place of its number
pub record IsSchemaAt (problem : Problem) (schema : Schema) : Type 0 where
  pub within : schema.op < length problem.schemas
  pub here : slice_index_or problem.schemas schema.op no_schema ≡ schema

-- some operator has the atom's predicate in its add list
abbrev pub IsAddable : Problem → Atom → Type 0
IsAddable problem atom = Any (λ schema. Any (λ added. added.pred ≡ atom.pred) schema.add) problem.schemas

-- some step adds the atom, and no later one deletes it
abbrev pub IsAdded : Problem → List OpInst → Atom → Type 0
IsAdded problem [] atom = ⊥
IsAdded problem (step ∷ steps) atom = (Contains (adds problem step) atom × All (λ later. deletes problem later atom ≡ false) steps)
    ⊎ IsAdded problem steps atom
