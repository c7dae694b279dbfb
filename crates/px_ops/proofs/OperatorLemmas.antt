-- An atom of an instance's list is the schema's atom under the instance's arguments.
use Rattle.std.proofs.Common.{◌≡◌, ◌+◌, ◌<◌, ◌≤◌, ℕ, zero, suc, Bool, true, false, List, [], ◌∷◌, length, drop, get_or, refl, sym, ap, subst, ◌∙◌, add-one, arith}
use Rattle.std.specs.Prelude.{Some, slice_get}
use Rattle.std.specs.List.{list_any}
use Rattle.std.specs.Option.{option_map}
use Rattle.std.proofs.lemmas.Option.{slice_get-map, slice_get_read}
use Rattle.std.proofs.Math.Seq.{drop-cons}
use Rattle.px_terms.specs.declared.atom.Atom.{Atom}
use Rattle.px_terms.specs.declared.instance.OpInst.{OpInst}
use Rattle.px_terms.specs.declared.problem.Problem.{Problem}
use Rattle.px_terms.specs.OperatorLaws.{result_of-length}
use Rattle.px_terms.specs.Operators.{adds, atoms_of, result_of}
use Rattle.px_terms.specs.Substitution.{substitute_atom}

pub instance_at : (atoms : List Atom) (inst : OpInst) (k : ℕ) (atom : Atom) → k < length atoms → atom ≡ get_or atoms k atom
    → slice_get (atoms_of atoms inst) k ≡ Some (substitute_atom inst.args atom)
instance_at atoms inst k atom below is =
    let f = substitute_atom inst.args in
    slice_get-map f atoms k ∙ ap (option_map f) (slice_get_read atoms (length atoms) k atom refl below is)

-- a search passes an element that fails
pub list_any-next : {X : Type 0} (p : X → Bool) (xs : List X) (i : ℕ) (x : X) → i < length xs → x ≡ get_or xs i x → p x ≡ false
    → list_any p (drop i xs) ≡ list_any p (drop (i + 1) xs)
list_any-next p xs i x below is fails = rw (add-one, drop-cons xs i x below, sym is, fails)

pub list_any-here : {X : Type 0} (p : X → Bool) (xs : List X) (i : ℕ) (x : X) → i < length xs → x ≡ get_or xs i x → p x ≡ true
    → list_any p (drop i xs) ≡ true
list_any-here p xs i x below is passes = rw (drop-cons xs i x below, sym is, passes)

pub list_any-end : {X : Type 0} (p : X → Bool) (xs : List X) (i : ℕ) → length xs ≤ i → list_any p (drop i xs) ≡ false
list_any-end p [] zero h = refl
list_any-end p [] (suc i) h = refl
list_any-end p (x ∷ xs) zero h = absurd (omega (arith, h))
list_any-end p (x ∷ xs) (suc i) h = list_any-end p xs i (omega (arith, h))

-- a result of a copy has at most as many atoms as the model and the added ones
pub result_is_short : (problem : Problem) (inst : OpInst) (model copy room next : List Atom)
    → next ≡ result_of problem room inst → room ≡ copy → copy ≡ model → length next ≤ length model + length (adds problem inst)
result_is_short problem inst model copy room next is same was =
    subst (λ atoms. length next ≤ length atoms + length (adds problem inst)) (same ∙ was)
    (subst (λ atoms. length atoms ≤ length room + length (adds problem inst)) (sym is) (result_of-length problem room inst))
