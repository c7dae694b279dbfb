-- Terms, atoms, steps and tables of the problem have names for their numbers.
use Rattle.std.specs.Prelude.{◌≡◌, ◌+◌, ℕ, Option, Some, None, List, [], ◌∷◌, map, All}
use Rattle.std.proofs.Common.{refl, sym, ap, subst, arith}
use Rattle.std.proofs.lemmas.List.Elements.{All-cons, All-head, All-nil, All-tail}
use Rattle.px_base.specs.ListLaws.{All-at, All-each}
use Rattle.px_names.specs.Lists.{NameLists}
use Rattle.px_terms.specs.declared.atom.Atom.{Atom}
use Rattle.px_terms.specs.declared.instance.OpInst.{OpInst}
use Rattle.px_terms.specs.declared.problem.Problem.{Problem}
use Rattle.px_terms.specs.declared.term.Term.{Term}
use Rattle.px_terms.specs.declared.term.Term.TheVariants.{Obj, Var, Any}
use Rattle.px_terms.specs.Validity.{IsAtomOf, IsTermOf}
use Rattle.px_table.specs.declared.mark.Mark.{Mark}
use Rattle.px_table.specs.declared.table.Table.{Table}
use Rattle.px_table.specs.Tables.{IsStepOf, IsTable}
use Rattle.px_planex.specs.Turns.{TurnValue}
use Rattle.px_printer.specs.Rows.{IsNamedTable}
use Rattle.px_printer.specs.Texts.{IsNamedAtom, IsNamedInstance, IsNamedTerm}
use Rattle.px_printer.specs.Turns.{IsNamedStep, IsNamedTurn}
use Rattle.px_printer.specs.declared.turn.Turn.{Turn}
use Rattle.px_session.specs.Lawful.{turn_told}
use Rattle.px_session.specs.Named.{AreNamesOfProblem}
use Rattle.px_session.proofs.OwnRuns.{IsOwnStep}

abbrev number_of : Term → ℕ
number_of (Obj n) = n
number_of _ = 0

module _ (problem : Problem) (names : NameLists) (all : AreNamesOfProblem problem names) where
  -- ---- terms, atoms and steps of the problem

  pub named-term : (variable_count : ℕ) (t : Term) → IsTermOf problem variable_count t → IsNamedTerm names t
  named-term variable_count (Obj n) of = λ number e.
      let same : n ≡ number = ap number_of e in
      omega (arith, same, of, all.objects)
  named-term variable_count (Var v) of = λ number e. absurd (cc)
  named-term variable_count Any of = elim of [ ]

  pub named-terms : (variable_count : ℕ) (terms : List Term) → All (IsTermOf problem variable_count) terms → All (IsNamedTerm names) terms
  named-terms variable_count terms of =
      All-each (IsNamedTerm names) terms (λ t has. named-term variable_count t (All-at (IsTermOf problem variable_count) terms t of has))

  pub named-atom : (variable_count : ℕ) (atom : Atom) → IsAtomOf problem variable_count atom → IsNamedAtom names atom
  named-atom variable_count atom of = record { predicate = omega (arith, of.0.0, all.predicates); objects = named-terms variable_count atom.args of.1 }

  pub named-atoms : (variable_count : ℕ) (atoms : List Atom) → All (IsAtomOf problem variable_count) atoms → All (IsNamedAtom names) atoms
  named-atoms variable_count atoms of =
      All-each (IsNamedAtom names) atoms (λ atom has. named-atom variable_count atom (All-at (IsAtomOf problem variable_count) atoms atom of has))

  pub named-step : (params : ℕ) (inst : OpInst) → IsStepOf problem params inst → IsNamedInstance names inst
  named-step params inst of = record { operator = omega (arith, of.op, all.operators); objects = named-terms params inst.args of.terms }

  pub named-steps : (params : ℕ) (steps : List OpInst) → All (IsStepOf problem params) steps → All (IsNamedInstance names) steps
  named-steps params steps of =
      All-each (IsNamedInstance names) steps (λ inst has. named-step params inst (All-at (IsStepOf problem params) steps inst of has))

  -- an instance of an operator of the problem is a step without parameters
  pub named-step-of : (step : Option OpInst) → IsOwnStep problem step → IsNamedStep names step
  named-step-of None own = tt
  named-step-of (Some inst) own = named-step 0 inst (record { op = own.op; count = own.count; terms = own.objects })

  pub named-turn : (turn : Turn) (step : Option OpInst) → turn.op ≡ step → IsOwnStep problem step → IsNamedTurn names turn
  named-turn turn step same own = subst (IsNamedStep names) (sym same) (named-step-of step own)

  pub named-turns : (told : List Turn) → All (λ turn. IsOwnStep problem turn.op) (map turn_told told) → All (IsNamedTurn names) told
  named-turns [] own = All-nil (IsNamedTurn names)
  named-turns (turn ∷ told) own =
      let first = All-head (λ (t : TurnValue). IsOwnStep problem t.op) (turn_told turn) (map turn_told told) own in
      let rest = All-tail (λ (t : TurnValue). IsOwnStep problem t.op) (turn_told turn) (map turn_told told) own in
      All-cons (IsNamedTurn names) turn told (named-turn turn turn.op refl first) (named-turns told rest)

  -- ---- a table of the problem

  pub named-table : (table : Table) → IsTable problem table → IsNamedTable names table
  named-table table is = record {
    steps = named-steps table.params table.steps is.in_range.steps;
    goal = named-atoms (table.params + table.goal_variable_count) table.goal is.in_range.goal;
    marks = All-each (λ (mark : Mark). IsNamedAtom names mark.atom) table.marks
        (λ mark has.
        let of = All-at (λ (m : Mark). IsAtomOf problem table.params m.atom) table.marks mark is.atoms has in
        named-atom table.params mark.atom of);
  }
