-- What operator instances delete and leave, by membership, and how many atoms they leave.
use Rattle.std.specs.Prelude.{◌≡◌, ◌↔◌, ◌⊎◌, ◌<◌, ◌≤◌, ◌+◌, ℕ, Bool, true, false, not, List, [], ◌∷◌, ◌++◌, length, map, filter, All, Contains, slice_index_or}
use Rattle.std.proofs.Common.{refl, sym, ap, subst, inl, inr, arith, length-append}
use Rattle.std.proofs.lemmas.List.Sums.{length-filter, count_by-le-length}
use Rattle.std.proofs.lemmas.List.Elements.{All-head, All-tail, All-cons, Contains-append_left, Contains-append_right, Contains-append_cases}
use Rattle.std.proofs.lemmas.List.Folds.{Any-from_list_any, list_any-from_Any}
use Rattle.std.specs.Bool.{Decides}
use Rattle.px_terms.specs.declared.atom.Atom.{Atom}
use Rattle.px_terms.specs.declared.instance.OpInst.{OpInst}
use Rattle.px_terms.specs.declared.problem.Problem.{Problem}
use Rattle.px_terms.specs.declared.problem.Schema.{Schema}
use Rattle.px_terms.specs.declared.term.Term.{Term}
use Rattle.px_terms.specs.declared.term.Term.TheVariants.{Obj, Var, Any as WildCard}
use Rattle.px_terms.specs.InstanceLaws.{is_instance-decides}
use Rattle.px_terms.specs.Instances.{IsGround, IsInstance, is_instance}
use Rattle.px_terms.specs.Language.{IsObject, IsVariableBelow, substitute}
use Rattle.px_terms.specs.Operators.{IsDeleted, is_deleted, result_by, atoms_of, adds, result_of, schema_of}
use Rattle.px_terms.specs.Order.{atom_cmp}
use Rattle.px_terms.specs.OrderLaws.{atom_cmp-total, atom_cmp-same}
use Rattle.px_base.specs.ListLaws.{Contains-filter}
use Rattle.px_base.specs.SetLaws.{set_of-members, set_of-length}
use Rattle.px_terms.specs.Substitution.{substitute_atom}

not-true : (b : Bool) → not b ≡ true → b ≡ false
not-true true h = sym h
not-true false h = refl

pub result_by-members : (schema : Schema) (atoms : List Atom) (inst : OpInst) (q : Atom)
    → Contains (result_by schema atoms inst) q ↔ ((Contains atoms q × (is_deleted schema inst q ≡ false))
    ⊎ Contains (atoms_of schema.add inst) q)
result_by-members schema atoms inst q =
    let kept = filter (λ atom. not (is_deleted schema inst atom)) atoms in
    let added = atoms_of schema.add inst in
    let members = set_of-members atom_cmp atom_cmp-total atom_cmp-same (kept ++ added) q in
    let passing = Contains-filter (λ atom. not (is_deleted schema inst atom)) atoms q in (
      λ h. elim (Contains-append_cases kept added q (members.0 h))
          [ inl left ↦ inl ((passing.0 left).0, not-true _ (passing.0 left).1) | inr right ↦ inr right ],
      λ h. members.1 (elim h [
        | inl left ↦ Contains-append_left kept added q (passing.1 (left.0, ap not left.1))
        | inr right ↦
            Contains-append_right kept added q right
      ]),
    )

-- an object stays below any number of variables
object_plain : (term : Term) → IsObject term → IsVariableBelow 0 term
object_plain (Obj n) h = tt
object_plain (Var v) h = absurd h
object_plain WildCard h = tt

-- a term of an instance's pattern is no variable
no_variable : (args : List Term) → All IsObject args → (term : Term) → IsVariableBelow (length args) term
    → IsVariableBelow 0 (substitute args term)
no_variable args objects (Obj n) v = tt
no_variable args objects (Var n) v = object_plain _ (objects n WildCard v)
no_variable args objects WildCard v = tt

pub no_variables : (args : List Term) → All IsObject args → (terms : List Term) → All (IsVariableBelow (length args)) terms
    → All (IsVariableBelow 0) (map (substitute args) terms)
no_variables args objects [] v = λ k d h. absurd (omega (arith, h))
no_variables args objects (t ∷ ts) v =
    All-cons (IsVariableBelow 0) (substitute args t) (map (substitute args) ts)
    (no_variable args objects t (All-head (IsVariableBelow (length args)) t ts v))
    (no_variables args objects ts (All-tail (IsVariableBelow (length args)) t ts v))

-- the test of a deletion decides it
pub is_deleted-decides : (schema : Schema) (inst : OpInst) (atom : Atom) → IsGround atom → All IsObject inst.args
    → All (λ pattern. All (IsVariableBelow (length inst.args)) pattern.args) schema.del
    → Decides (is_deleted schema inst atom) (IsDeleted schema inst atom)
is_deleted-decides schema inst atom is_ground objects variables =
    let test : Atom → Bool = λ pattern. is_instance atom (substitute_atom inst.args pattern) in
    let decides : (k : ℕ) (pattern : Atom) → k < length schema.del → slice_index_or schema.del k pattern ≡ pattern
    → Decides (test pattern) (IsInstance atom (substitute_atom inst.args pattern))
    = λ k pattern below is.
    let v = subst (λ (p : Atom). All (IsVariableBelow (length inst.args)) p.args) is (variables k pattern below) in
    is_instance-decides atom (substitute_atom inst.args pattern) is_ground (no_variables inst.args objects pattern.args v) in (
      λ h. let one = Any-from_list_any test schema.del h in (one.0, one.1, one.2, one.3, (decides one.0 one.1 one.2 one.3).0 one.4),
      λ one. list_any-from_Any test schema.del (one.0, one.1, one.2, one.3, (decides one.0 one.1 one.2 one.3).1 one.4),
    )

-- a result has no more atoms than there were, and one for each that is added
pub result_by-length : (schema : Schema) (atoms : List Atom) (inst : OpInst)
    → length (result_by schema atoms inst) ≤ length atoms + length (atoms_of schema.add inst)
result_by-length schema atoms inst =
    let kept = filter (λ atom. not (is_deleted schema inst atom)) atoms in
    let added = atoms_of schema.add inst in
    let all = set_of-length atom_cmp (kept ++ added) in
    let fewer : length kept ≤ length atoms = rw length-filter (count_by-le-length (λ atom. not (is_deleted schema inst atom)) atoms) in
    omega (arith, all, fewer, length-append kept added)

pub result_of-length : (problem : Problem) (atoms : List Atom) (inst : OpInst)
    → length (result_of problem atoms inst) ≤ length atoms + length (adds problem inst)
result_of-length problem atoms inst = result_by-length (schema_of problem inst) atoms inst
