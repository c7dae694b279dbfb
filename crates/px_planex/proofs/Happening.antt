-- What comes of an action of an executor, by what its parts say.
use Rattle.std.specs.Prelude.{◌≡◌, ◌⊎◌, ℕ, Bool, true, false, MatchBool, Some, None, List}
use Rattle.std.proofs.Common.{sym, subst, inl, inr}
use Rattle.px_terms.specs.declared.atom.Atom.{Atom}
use Rattle.px_terms.specs.declared.problem.Problem.{Problem}
use Rattle.px_table.specs.declared.table.Table.{Table}
use Rattle.px_match.specs.Matching.{KernelInstance}
use Rattle.px_planex.specs.declared.event.Event.TheVariants.{Act}
use Rattle.px_planex.specs.declared.event.Outcome.{Outcome}
use Rattle.px_planex.specs.declared.event.Outcome.TheVariants.{Acted, Slipped}
use Rattle.px_planex.specs.Execution.{Happens, Memory, RowFails, Running}
use Rattle.px_planex.specs.Executors.{IsKernelStepTaken, running}

-- a fact of a problem, a table, a binding and atoms, where these are the same
pub carried : (P : Problem → Table → List (ℕ × ℕ) → List Atom → Type 0) (problem other : Problem) (table later : Table)
    (bound more : List (ℕ × ℕ)) (atoms seen : List Atom)
    → problem ≡ other → table ≡ later → bound ≡ more → atoms ≡ seen → P problem table bound atoms → P other later more seen
carried P problem other table later bound more atoms seen e f g h fact =
    subst (λ x. P other later more x) h (subst (λ x. P other later x atoms) g
    (subst (λ x. P other x bound atoms) f (subst (λ x. P x table bound atoms) e fact)))

-- the action was taken or not, and this is said of it
abbrev pub IsTold : Bool → Outcome → Type 0
IsTold taken outcome = ((taken ≡ true) × (outcome ≡ Acted)) ⊎ ((taken ≡ false) × (outcome ≡ Slipped))

module _ {E S : Type 0} (leaves : E → List Atom → List Atom) (problem : Problem) (table : Table) (bound : List (ℕ × ℕ))
    (atoms_of : S → List Atom) (before after : S)
    (memory : Memory) (instance : List ℕ) (kernel : KernelInstance) (remembered : memory.remembered ≡ Some kernel)
    (same : instance ≡ memory.instance) where
  abbrev IsActed : Bool → Type 0
  IsActed taken =
      MatchBool taken (IsKernelStepTaken problem table kernel (atoms_of before) (atoms_of after))
      (RowFails table kernel (atoms_of before) × (after ≡ before))

  abbrev Gives : Outcome → Type 0
  Gives outcome =
      Happens leaves problem table bound (running (atoms_of before) memory) Act outcome
      (running (atoms_of after) (record { remembered = None; instance = instance }))

  forgotten : (one other : List Atom) → one ≡ other
      → running one (record { remembered = None; instance = instance })
      ≡ running other (record { remembered = None; instance = memory.instance })
  forgotten one other is = λ i. record { atoms = is i; memory = record { remembered = None; instance = same i } }

  pub act_happens : (taken : Bool) (outcome : Outcome) → IsTold taken outcome → IsActed taken → Gives outcome
  act_happens true outcome (inl told) acts =
      subst Gives (sym told.1) (kernel, remembered, acts.0, (acts.1.0, acts.1.1, forgotten (atoms_of after) _ acts.1.2))
  act_happens true outcome (inr told) acts = absurd (cc)
  act_happens false outcome (inl told) acts = absurd (cc)
  act_happens false outcome (inr told) acts =
      subst Gives (sym told.1) (kernel, remembered, acts.0, forgotten (atoms_of after) (atoms_of before) (λ i. atoms_of (acts.1 i)))
