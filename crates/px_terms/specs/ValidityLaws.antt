-- What a valid problem says of the schema of one of its instances.
use Rattle.std.specs.Prelude.{◌≡◌, true, false, ℕ, List, [], ◌∷◌, length, map, All}
use Rattle.std.proofs.Common.{refl, inl, inr, ◌∙◌, arith}
use Rattle.std.proofs.lemmas.List.{length-map}
use Rattle.std.proofs.lemmas.List.Elements.{All-head, All-tail, All-cons}
use Rattle.px_base.specs.Answers.{both_answers}
use Rattle.px_terms.specs.declared.atom.Atom.{Atom}
use Rattle.px_terms.specs.declared.instance.OpInst.{OpInst}
use Rattle.px_terms.specs.declared.problem.Problem.{Problem}
use Rattle.px_terms.specs.declared.problem.Schema.{Schema}
use Rattle.px_terms.specs.declared.term.Term.{Term}
use Rattle.px_terms.specs.declared.term.Term.TheVariants.{Obj, Var, Any as WildCard}
use Rattle.px_terms.specs.Instances.{IsGround}
use Rattle.px_terms.specs.Language.{IsObject, IsPlainBelow, IsVariableBelow, substitute}
use Rattle.px_terms.specs.OperatorLaws.{is_deleted-decides, result_by-members}
use Rattle.px_terms.specs.Operators.{IsDeleted, IsResult, precondition, adds, deletes, result_of, schema_of}
use Rattle.px_terms.specs.Substitution.{substitute_atom}
use Rattle.px_terms.specs.Validity.{IsTermOf, IsPatternTermOf, IsSchemaWellFormed, IsSchemaOf, IsValid, IsGroundInstanceOf, IsInstanceOf, IsAtomOf}

plain_term : (problem : Problem) (variable_count : ℕ) (term : Term) → IsTermOf problem variable_count term → IsPlainBelow variable_count term
plain_term problem variable_count (Obj n) h = tt
plain_term problem variable_count (Var v) h = h
plain_term problem variable_count WildCard h = h

pattern_term : (problem : Problem) (variable_count : ℕ) (term : Term) → IsPatternTermOf problem variable_count term → IsVariableBelow variable_count term
pattern_term problem variable_count (Obj n) h = tt
pattern_term problem variable_count (Var v) h = h
pattern_term problem variable_count WildCard h = tt

object_term : (problem : Problem) (term : Term) → IsTermOf problem 0 term → IsObject term
object_term problem (Obj n) h = tt
object_term problem (Var v) h = absurd (omega (arith, h))
object_term problem WildCard h = h

-- an atom of the problem without variables is ground
pub atom_of-is_ground : (problem : Problem) (atom : Atom) → IsAtomOf problem 0 atom → IsGround atom
atom_of-is_ground problem atom is k d below = object_term problem _ (is.1 k d below)

pub instance_objects : (problem : Problem) (inst : OpInst) → IsInstanceOf problem inst → All IsObject inst.args
instance_objects problem inst is k d below = object_term problem _ (is.objects k d below)

pub well_formed_schema : (problem : Problem) (place : ℕ) (schema : Schema) → IsSchemaOf problem place schema → IsSchemaWellFormed schema
well_formed_schema problem place schema is =
    record {
      pre = λ k d below j e inner. plain_term problem schema.params _ ((is.pre k d below).1 j e inner);
      add = λ k d below j e inner. plain_term problem schema.params _ ((is.add k d below).1 j e inner);
      del = λ k d below j e inner. pattern_term problem schema.params _ ((is.del k d below).1 j e inner);
    }

-- an instance over the problem's objects is a ground one
pub instance-is_ground : (problem : Problem) (inst : OpInst) → IsInstanceOf problem inst → IsGroundInstanceOf problem inst
instance-is_ground problem inst is = record { op = is.op; count = is.count; all_objects = instance_objects problem inst is }

pub instance_schema : (problem : Problem) (inst : OpInst) → IsValid problem → IsGroundInstanceOf problem inst
    → IsSchemaWellFormed (schema_of problem inst)
instance_schema problem inst valid is = well_formed_schema problem inst.op (schema_of problem inst) (valid.schemas inst.op is.op)

object_at-is_object : (args : List Term) → All IsObject args → (term : Term) → IsPlainBelow (length args) term
    → IsObject (substitute args term)
object_at-is_object args objects (Obj n) h = tt
object_at-is_object args objects (Var v) h = objects v WildCard h
object_at-is_object args objects WildCard h = h

objects_at : (args : List Term) → All IsObject args → (terms : List Term) → All (IsPlainBelow (length args)) terms
    → All IsObject (map (substitute args) terms)
objects_at args objects [] h = λ k d below. absurd (omega (arith, below))
objects_at args objects (t ∷ ts) h =
    All-cons IsObject (substitute args t) (map (substitute args) ts)
    (object_at-is_object args objects t (All-head (IsPlainBelow (length args)) t ts h))
    (objects_at args objects ts (All-tail (IsPlainBelow (length args)) t ts h))

-- an atom under objects for all its variables is ground
pub ground_atom : (args : List Term) → All IsObject args → (atom : Atom) → All (IsPlainBelow (length args)) atom.args
    → IsGround (substitute_atom args atom)
ground_atom args objects atom h = objects_at args objects atom.args h

pub ground_atoms : (args : List Term) → All IsObject args → (atoms : List Atom)
    → All (λ atom. All (IsPlainBelow (length args)) atom.args) atoms → All IsGround (map (substitute_atom args) atoms)
ground_atoms args objects [] h = λ k d below. absurd (omega (arith, below))
ground_atoms args objects (atom ∷ atoms) h =
    All-cons IsGround (substitute_atom args atom) (map (substitute_atom args) atoms)
    (ground_atom args objects atom (All-head (λ (a : Atom). All (IsPlainBelow (length args)) a.args) atom atoms h))
    (ground_atoms args objects atoms (All-tail (λ (a : Atom). All (IsPlainBelow (length args)) a.args) atom atoms h))

term_at : (problem : Problem) (args : List Term) → All (IsTermOf problem 0) args → (term : Term) → IsTermOf problem (length args) term
    → IsTermOf problem 0 (substitute args term)
term_at problem args objects (Obj n) h = h
term_at problem args objects (Var v) h = objects v WildCard h
term_at problem args objects WildCard h = h

terms_at : (problem : Problem) (args : List Term) → All (IsTermOf problem 0) args → (terms : List Term)
    → All (IsTermOf problem (length args)) terms → All (IsTermOf problem 0) (map (substitute args) terms)
terms_at problem args objects [] h = λ k d below. absurd (omega (arith, below))
terms_at problem args objects (t ∷ ts) h =
    All-cons (IsTermOf problem 0) (substitute args t) (map (substitute args) ts)
    (term_at problem args objects t (All-head (IsTermOf problem (length args)) t ts h))
    (terms_at problem args objects ts (All-tail (IsTermOf problem (length args)) t ts h))

-- an atom of the problem under objects of the problem is a ground atom of the problem
pub atom-is_of : (problem : Problem) (args : List Term) → All (IsTermOf problem 0) args → (atom : Atom)
    → IsAtomOf problem (length args) atom → IsAtomOf problem 0 (substitute_atom args atom)
atom-is_of problem args objects atom h = (
  (h.0.0, length-map atom.args (substitute args) ∙ h.0.1),
  terms_at problem args objects atom.args h.1,
)

pub atoms-are_of : (problem : Problem) (args : List Term) → All (IsTermOf problem 0) args → (atoms : List Atom)
    → All (IsAtomOf problem (length args)) atoms → All (IsAtomOf problem 0) (map (substitute_atom args) atoms)
atoms-are_of problem args objects [] h = λ k d below. absurd (omega (arith, below))
atoms-are_of problem args objects (a ∷ rest) h =
    All-cons (IsAtomOf problem 0) (substitute_atom args a) (map (substitute_atom args) rest)
    (atom-is_of problem args objects a (All-head (IsAtomOf problem (length args)) a rest h))
    (atoms-are_of problem args objects rest (All-tail (IsAtomOf problem (length args)) a rest h))

-- what an instance needs and adds are ground atoms of the problem
pub precondition-is_of : (problem : Problem) (inst : OpInst) → IsValid problem → IsInstanceOf problem inst
    → All (IsAtomOf problem 0) (precondition problem inst)
precondition-is_of problem inst valid is = atoms-are_of problem inst.args is.objects (schema_of problem inst).pre
    (rw is.count (valid.schemas inst.op is.op).pre)

pub adds-are_of : (problem : Problem) (inst : OpInst) → IsValid problem → IsInstanceOf problem inst
    → All (IsAtomOf problem 0) (adds problem inst)
adds-are_of problem inst valid is = atoms-are_of problem inst.args is.objects (schema_of problem inst).add
    (rw is.count (valid.schemas inst.op is.op).add)

-- what the test of a deletion passes over isn't deleted
pub deletes-false : (problem : Problem) (inst : OpInst) (atom : Atom) → IsValid problem → IsGroundInstanceOf problem inst → IsGround atom
    → deletes problem inst atom ≡ false → ¬ IsDeleted (schema_of problem inst) inst atom
deletes-false problem inst atom valid is is_ground stays deleted =
    both_answers (deletes problem inst atom) stays
    ((is_deleted-decides (schema_of problem inst) inst atom is_ground is.all_objects
    (rw is.count (instance_schema problem inst valid is).del)).1 deleted)

-- what the test of a deletion finds is deleted
pub deletes-true : (problem : Problem) (inst : OpInst) (atom : Atom) → IsValid problem → IsGroundInstanceOf problem inst → IsGround atom
    → deletes problem inst atom ≡ true → IsDeleted (schema_of problem inst) inst atom
deletes-true problem inst atom valid is is_ground found =
    (is_deleted-decides (schema_of problem inst) inst atom is_ground is.all_objects
    (rw is.count (instance_schema problem inst valid is).del)).0 found

-- what isn't deleted passes the test
pub deletes-passed : (problem : Problem) (inst : OpInst) (atom : Atom) → IsValid problem → IsGroundInstanceOf problem inst → IsGround atom
    → ¬ IsDeleted (schema_of problem inst) inst atom → deletes problem inst atom ≡ false
deletes-passed problem inst atom valid is is_ground stays =
    elim (deletes problem inst atom) as (λ b. deletes problem inst atom ≡ b → b ≡ false) [
      | true ↦ λ found. absurd (stays (deletes-true problem inst atom valid is is_ground found))
      | false ↦ λ _. refl
    ] refl

-- the model that an instance leaves is its result
pub result_of-is_result : (problem : Problem) (inst : OpInst) (atoms : List Atom) → IsValid problem → IsGroundInstanceOf problem inst
    → IsResult problem inst atoms (result_of problem atoms inst)
result_of-is_result problem inst atoms valid is atom is_ground =
    let members = result_by-members (schema_of problem inst) atoms inst atom in (
      λ there. elim (members.0 there) [
        | inl kept ↦ inl (kept.0, deletes-false problem inst atom valid is is_ground kept.1)
        | inr added ↦ inr added
      ],
      λ there. elim there [
        | inl kept ↦ members.1 (inl (kept.0, deletes-passed problem inst atom valid is is_ground kept.1))
        | inr added ↦ members.1 (inr added)
      ],
    )
