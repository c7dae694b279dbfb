-- A row of first proofs, and rows one after the other.
use Rattle.std.specs.Prelude.{◌≡◌, ℕ, List, [], ◌∷◌, ◌++◌, map, All, Result, Ok, Err, IfOk}
use Rattle.std.proofs.Common.{ap, ◌∙◌, subst, arith}
use Rattle.std.specs.List.{AllZip}
use Rattle.std.proofs.lemmas.List.{map-append}
use Rattle.px_base.specs.declared.no_memory.NoMemory.{NoMemory}
use Rattle.px_terms.specs.declared.atom.Atom.{Atom}
use Rattle.px_terms.specs.declared.instance.OpInst.{OpInst}
use Rattle.px_terms.specs.declared.problem.Problem.{Problem}
use Rattle.px_terms.specs.Operators.{precondition}
use Rattle.px_proof.specs.declared.proof.Proof.{Proof}
use Rattle.px_proof.specs.Derivation.{Derivation, derivations}
use Rattle.px_proof.specs.ProofTerm.{derivation_of}
use Rattle.px_question.specs.Answers.{IsFirst}
use Rattle.px_question.specs.Settings.{setting_of}
use Rattle.px_table.specs.declared.entry.Entry.{Entry}
use Rattle.px_table.specs.declared.entry.Entry.TheVariants.{Op}
use Rattle.px_table.specs.declared.table.Table.{Table}
use Rattle.px_table.specs.Tables.{rows_of}
use Rattle.px_entries.specs.Entries.{obligations_of}
use Rattle.px_ends.specs.Made.{IsFirstRow, IsSourced}
use Rattle.px_support.specs.Asking.{IsFindable}

-- the answer's proofs, with their sources, are a row of first proofs
pub if_first_row : (problem : Problem) (made : List OpInst) (facts formula : List Atom) (variable_count : ℕ) (objects : List ℕ)
    (proofs given : List Proof) (result : Result (List Proof) NoMemory) → given ≡ proofs
    → IsFirst (setting_of problem facts) formula variable_count objects (derivations (map derivation_of proofs))
    → IfOk result (λ row. AllZip (IsSourced problem made) (map derivation_of given) (map derivation_of row))
    → IfOk result (λ row. IsFirstRow problem made facts formula variable_count (map derivation_of row))
if_first_row problem made facts formula variable_count objects proofs given (Ok row) same first all = (
  objects,
  map derivation_of proofs,
  first,
  subst (λ (ps : List Proof). AllZip (IsSourced problem made) (map derivation_of ps) (map derivation_of row)) same all,
)
if_first_row problem made facts formula variable_count objects proofs given (Err e) same first all = tt

-- one row more
pub rows-push : (rows more : List (List Proof)) (row : List Proof) → more ≡ rows ++ row ∷ []
    → rows_of more ≡ rows_of rows ++ map derivation_of row ∷ []
rows-push rows more row pushed = ap rows_of pushed ∙ map-append (map derivation_of) rows (row ∷ [])

-- a row of first proofs, by the lists that the code has
pub first_row-here : (problem : Problem) (made steps : List OpInst) (facts formula given : List Atom) (variable_count : ℕ) (row : List Derivation)
    → steps ≡ made → given ≡ formula
    → IsFirstRow problem steps facts given variable_count row → IsFirstRow problem made facts formula variable_count row
first_row-here problem made steps facts formula given variable_count row same_steps same is =
    subst (λ (fs : List Atom). IsFirstRow problem made facts fs variable_count row) same
    (subst (λ (s : List OpInst). IsFirstRow problem s facts given variable_count row) same_steps is)

-- what the entry needs, where it is an operator's instance
pub instance-findable : (problem : Problem) (tables : List Table) (model : List Atom) (entry : Entry) (inst : OpInst) → entry ≡ Op inst
    → All (IsFindable problem) (obligations_of problem tables model entry)
    → IsFindable problem (record { formula = precondition problem inst; variable_count = 0; facts = model })
instance-findable problem tables model entry inst is all =
    let here = subst (λ (e : Entry). All (IsFindable problem) (obligations_of problem tables model e)) is all in
    here 0 (record { formula = precondition problem inst; variable_count = 0; facts = model }) (omega arith)
