-- The rows of a table's first steps, asked one after the other, each from what the steps before leave.
use Rattle.std.proofs.Common.{◌≡◌, ◌<◌, ◌≤◌, ◌++◌, ℕ, suc, true, List, [], ◌∷◌, length, take, drop, get_or, refl, sym, ap, ◌∙◌, subst, inr, arith, append_assoc, append-nil, ◌+◌}
use Rattle.std.specs.Option.{option_map}
use Rattle.std.specs.Prelude.{◌==◌, ◌&&◌, not, map, filter, slice_get, unwrap_or, Option, Some, Result, IfOk, All, Contains}
use Rattle.std.proofs.Math.Seq.{drop-cons}
use Rattle.std.proofs.lemmas.List.{drop_all, get_or-map, get_or-take, length-map, length-take-le}
use Rattle.std.proofs.lemmas.List.Elements.{All-map}
use Rattle.std.proofs.lemmas.Option.{get_or_from_slice_get, slice_get-map, slice_get_read, slice_get_within}
use Rattle.std.specs.List.{range_with_len}
use Rattle.std.proofs.lemmas.List.FromFn.{get_or-range_with_len, length-range_with_len}
use Rattle.px_base.specs.ListLaws.{All-at, All-each, Contains-filter}
use Rattle.px_terms.specs.Language.{IsVariableBelow, substitute}
use Rattle.px_terms.specs.Operators.{deletes}
use Rattle.px_terms.specs.Validity.{IsAtomOf, IsGroundInstanceOf, IsTermOf}
use Rattle.px_terms.specs.declared.atom.Atom.{Atom}
use Rattle.px_terms.specs.declared.instance.OpInst.{OpInst}
use Rattle.px_terms.specs.declared.problem.Problem.{Problem}
use Rattle.px_terms.specs.declared.term.Term.{Term}
use Rattle.px_terms.specs.declared.term.Term.TheVariants.{Obj, Var, Any}
use Rattle.px_table.specs.Kernels.{atom_under, instance_under, steps_under}
use Rattle.px_table.specs.Prefixes.{IsMacro}
use Rattle.px_table.specs.Tables.{IsStepOf, IsTable, empty_table}
use Rattle.px_table.specs.UnderLaws.{step_under-objects}
use Rattle.px_base.specs.declared.no_memory.NoMemory.{NoMemory}
use Rattle.px_table.specs.declared.entry.Entry.TheVariants.{Macro}
use Rattle.px_table.specs.declared.mark.Mark.{Mark}
use Rattle.px_table.specs.declared.table.Table.{Table}
use Rattle.px_entries.specs.Entries.{IsEntry, initial_atoms, obligations_of, row_needs, table_at}
use Rattle.px_gaps.specs.declared.question.Obligation.{Obligation}
use Rattle.px_entries.specs.Joined.{IsAtLimit, Joins}
use Rattle.px_gaps.specs.Known.{IsKnownOf}
use Rattle.px_gaps.specs.declared.known.Known.{Known}
use Rattle.px_gaps.specs.declared.known.Known.TheVariants.{Applicable}
use Rattle.px_entries.proofs.JoinSteps.{limit-whole, nothing-needed}
use Rattle.px_entries.proofs.RowTurns.{in_turn, row_obligations}
use Rattle.px_gaps.proofs.Substituting.{term_variable}

-- ---- what stands in a table

terms-variables : (problem : Problem) (count other : ℕ) (terms : List Term) → other ≡ count → All (IsTermOf problem count) terms
    → All (IsVariableBelow other) terms
terms-variables problem count other terms same all k d below = rw same (term_variable problem count _ (all k d below))

-- the variables of marks and steps are the parameters
pub marks-variables : (problem : Problem) (table : Table) (sigma : List ℕ) → IsTable problem table → length sigma ≡ table.params
    → All (λ (mark : Mark). All (IsVariableBelow (length sigma)) mark.atom.args) table.marks
marks-variables problem table sigma is count k d below = terms-variables problem table.params (length sigma) _ count (is.atoms k d below).1

-- ---- the first steps, with objects for the parameters

pub steps-variables : (problem : Problem) (table : Table) (sigma : List ℕ) → IsTable problem table → length sigma ≡ table.params
    → All (λ (step : OpInst). All (IsVariableBelow (length sigma)) step.args) table.steps
steps-variables problem table sigma is count k d below =
    terms-variables problem table.params (length sigma) _ count (is.in_range.steps k d below).terms

step-ground : (problem : Problem) (table : Table) (sigma : List ℕ) (step : OpInst) → length sigma ≡ table.params
    → IsStepOf problem table.params step → IsGroundInstanceOf problem (instance_under sigma step)
step-ground problem table sigma step count of =
    record {
      op = of.op;
      count = length-map step.args (substitute (map Obj sigma))
          ∙ of.count;
      all_objects = step_under-objects problem table.params sigma step count of;
    }

pub steps-ground : (problem : Problem) (table : Table) (sigma : List ℕ) (place : ℕ) (under : OpInst) → IsTable problem table
    → length sigma ≡ table.params → place < length table.steps → slice_get (steps_under table sigma) place ≡ Some under
    → IsGroundInstanceOf problem under
steps-ground problem table sigma place under is count below there =
    let all : All (IsGroundInstanceOf problem) (steps_under table sigma) =
    All-map (IsGroundInstanceOf problem) (instance_under sigma) table.steps
    (λ k d low. step-ground problem table sigma _ count (is.in_range.steps k d low)) in
    subst (IsGroundInstanceOf problem) (get_or_from_slice_get (steps_under table sigma) place under under there)
    (all place under (rw (length-map table.steps (instance_under sigma)) below))

pub steps-count : (table : Table) (sigma : List ℕ) (prefix : ℕ) → prefix ≤ length table.steps
    → length (take prefix (steps_under table sigma)) ≡ prefix
steps-count table sigma prefix within =
    length-take-le prefix (steps_under table sigma) (rw (length-map table.steps (instance_under sigma)) within)

pub step-taken : (table : Table) (sigma : List ℕ) (prefix place : ℕ) (under : OpInst) → place < prefix
    → slice_get (steps_under table sigma) place ≡ Some under → under ≡ get_or (take prefix (steps_under table sigma)) place under
step-taken table sigma prefix place under early there =
    sym (get_or-take prefix (steps_under table sigma) place under early
    ∙ get_or_from_slice_get (steps_under table sigma) place under under there)

pub step-at : (table : Table) (sigma : List ℕ) (place : ℕ) (step under : OpInst) → place < length table.steps
    → step ≡ get_or table.steps place step → under ≡ instance_under sigma step → slice_get (steps_under table sigma) place ≡ Some under
step-at table sigma place step under below is under_is =
    slice_get-map (instance_under sigma) table.steps place
    ∙ ap (option_map (instance_under sigma)) (slice_get_read table.steps (length table.steps) place step refl below is)
    ∙ ap (λ (s : OpInst). Some s) (sym under_is)

-- ---- the atoms of a row are the problem's

pub object-of : (problem : Problem) (sigma : List ℕ) (v : ℕ) → v < length sigma → get_or sigma v 0 < problem.objects
    → IsTermOf problem 0 (substitute (map Obj sigma) (Var v))
object-of problem sigma v below small = subst (IsTermOf problem 0) (sym (get_or-map Obj sigma v 0 Any below)) small

module _ (problem : Problem) (table : Table) (prefix : ℕ) (sigma : List ℕ) (is : IsTable problem table)
    (m : IsMacro problem table prefix sigma) where
  pub term-used : (mark : Mark) → Contains table.marks mark → mark.row ≤ prefix → (t : Term) → Contains mark.atom.args t
      → IsTermOf problem table.params t → IsTermOf problem 0 (substitute (map Obj sigma) t)
  term-used mark has early (Obj n) there h = h
  term-used mark has early (Var v) there h =
      object-of problem sigma v (omega (arith, h, m.count)) (m.used v h (inr (has.0, mark, has.1, has.2, (early, there))))
  term-used mark has early Any there h = h

  pub mark-is_of : (mark : Mark) → Contains table.marks mark → mark.row ≤ prefix → IsAtomOf problem 0 (atom_under sigma mark.atom)
  mark-is_of mark has early =
      let of = All-at (λ (one : Mark). IsAtomOf problem table.params one.atom) table.marks mark is.atoms has in
      let args = mark.atom.args in (
        (of.0.0, length-map args (substitute (map Obj sigma)) ∙ of.0.1),
        All-map (IsTermOf problem 0) (substitute (map Obj sigma)) args
            (All-each (λ t. IsTermOf problem 0 (substitute (map Obj sigma) t)) args
            (λ t there. term-used mark has early t there (All-at (IsTermOf problem table.params) args t of.1 there))),
      )

  row-of : (mark : Mark) (row : ℕ) → ((mark.row == row) && (mark.column == 0)) ≡ true → mark.row ≡ row
  row-of mark row e = grind (arith, e)

  pub initial-are_of : (row : ℕ) → row ≤ prefix → All (IsAtomOf problem 0) (initial_atoms table sigma row)
  initial-are_of row early =
      let IsHere = λ (mark : Mark). (mark.row == row) && (mark.column == 0) in
      All-map (IsAtomOf problem 0) (λ (mark : Mark). atom_under sigma mark.atom) (filter IsHere table.marks)
      (All-each (λ (mark : Mark). IsAtomOf problem 0 (atom_under sigma mark.atom)) (filter IsHere table.marks) (λ mark has.
      let there = (Contains-filter IsHere table.marks mark).0 has in
      mark-is_of mark there.0 (rw (row-of mark row there.1) early)))

-- ---- one row after the other

-- The first rows are asked: this is known of them, and of all that the steps need the rest is what the steps after them need from
-- these facts.
pub record AreAsked (problem : Problem) (table : Table) (sigma : List ℕ) (steps : List OpInst) (model : List Atom) (count : ℕ)
    (facts : List Atom) (known : Known) : Type 0 where
  pub done : List Obligation
  pub known_done : IsKnownOf problem done known
  pub whole : row_obligations problem table sigma model 1 steps
      ≡ done ++ row_obligations problem table sigma facts (suc count) (drop count steps)

module _ (problem : Problem) (table : Table) (sigma : List ℕ) (steps : List OpInst) (model : List Atom) where
  abbrev whole_of : List Obligation
  whole_of = row_obligations problem table sigma model 1 steps

  pub none-asked : (facts : List Atom) → facts ≡ model → AreAsked problem table sigma steps model 0 facts Applicable
  none-asked facts same = record { done = []; known_done = nothing-needed problem; whole = rw same refl }

  abbrev needed_at : ℕ → List Atom → Obligation
  needed_at count facts = record { formula = initial_atoms table sigma (suc count); variable_count = 0; facts = facts }

  abbrev left_by : OpInst → List Atom → List Atom
  left_by step facts = filter (λ atom. not (deletes problem step atom)) facts

  rest-cons : (count : ℕ) (facts : List Atom) (step : OpInst) → count < length steps → step ≡ get_or steps count step
      → row_obligations problem table sigma facts (suc count) (drop count steps)
      ≡ needed_at count facts ∷ row_obligations problem table sigma (left_by step facts) (suc (suc count)) (drop (suc count) steps)
  rest-cons count facts step below is =
      ap (row_obligations problem table sigma facts (suc count))
      (drop-cons steps count step below ∙ ap (λ (s : OpInst). s ∷ drop (suc count) steps) (sym is))

  module _ (count : ℕ) (facts : List Atom) (known row both : Known) (step : OpInst) (below : count < length steps)
      (is : step ≡ get_or steps count step)
      (before : AreAsked problem table sigma steps model count facts known) (here : IsKnownOf problem (needed_at count facts ∷ []) row)
      (joins : Joins known row both) where
    known-next : IsKnownOf problem (before.done ++ needed_at count facts ∷ []) both
    known-next = joins.known problem before.done (needed_at count facts ∷ []) before.known_done here

    whole-next : whole_of ≡ (before.done ++ needed_at count facts ∷ [])
        ++ row_obligations problem table sigma (left_by step facts) (suc (suc count)) (drop (suc count) steps)
    whole-next =
        before.whole
        ∙ ap (λ (l : List Obligation). before.done ++ l) (rest-cons count facts step below is)
        ∙ sym (append_assoc before.done (needed_at count facts ∷ [])
        (row_obligations problem table sigma (left_by step facts) (suc (suc count)) (drop (suc count) steps)))

    -- one more row
    pub asked-next : (left : List Atom) (next : ℕ) → left ≡ left_by step facts → next ≡ suc count
        → AreAsked problem table sigma steps model next left both
    asked-next left next left_is next_is =
        rw (left_is, next_is) (record { done = before.done ++ needed_at count facts ∷ []; known_done = known-next; whole = whole-next })

    -- or the limit is met, and nothing more is asked
    pub asked-limit : IsAtLimit both → IsKnownOf problem (row_needs problem table sigma model steps) both
    asked-limit at =
        subst (λ (l : List Obligation). IsKnownOf problem l both) (sym (in_turn problem table sigma model steps ∙ whole-next))
        (limit-whole problem (before.done ++ needed_at count facts ∷ []) _ both at known-next)

  -- all rows
  pub asked-all : (count : ℕ) (facts : List Atom) (known : Known) → length steps ≤ count
      → AreAsked problem table sigma steps model count facts known → IsKnownOf problem (row_needs problem table sigma model steps) known
  asked-all count facts known end are =
      subst (λ (l : List Obligation). IsKnownOf problem l known)
      (sym (in_turn problem table sigma model steps ∙ are.whole
      ∙ ap (λ (l : List OpInst). are.done ++ row_obligations problem table sigma facts (suc count) l) (drop_all count steps end)
      ∙ append-nil are.done)) are.known_done

-- ---- the table of an entry

pub macro-known : (problem : Problem) (tables : List Table) (model : List Atom) (number prefix : ℕ) (sigma slice : List ℕ) (table : Table)
    (result : Result Known NoMemory) → slice ≡ sigma → number < length tables → table ≡ get_or tables number table
    → IfOk result (IsKnownOf problem (row_needs problem table slice model (take prefix (steps_under table slice))))
    → IfOk result (IsKnownOf problem (obligations_of problem tables model (Macro number prefix sigma)))
macro-known problem tables model number prefix sigma slice table result slice_is below is known =
    let found : table_at tables number ≡ table =
    ap (λ (o : Option Table). unwrap_or o empty_table) (slice_get_read tables (length tables) number table refl below is) in
    subst (λ (t : Table). IfOk result (IsKnownOf problem (row_needs problem t sigma model (take prefix (steps_under t sigma))))) (sym found)
    (subst (λ (s : List ℕ). IfOk result (IsKnownOf problem (row_needs problem table s model (take prefix (steps_under table s))))) slice_is
    known)

pub macro-within : (problem : Problem) (tables : List Table) (number prefix : ℕ) (sigma : List ℕ)
    → IsEntry problem tables (Macro number prefix sigma) → number < length tables
macro-within problem tables number prefix sigma e = slice_get_within tables number e.0 e.1

-- a row's number is at most how many there are
pub row-early : (count row : ℕ) → Contains (range_with_len 1 count) row → row ≤ count
row-early count row has =
    let below : has.0 < count = subst (λ (n : ℕ). has.0 < n) (length-range_with_len 1 count) has.1 in
    let is : row ≡ 1 + has.0 = sym has.2 ∙ get_or-range_with_len 1 count has.0 row below in
    omega (arith, below, is)
