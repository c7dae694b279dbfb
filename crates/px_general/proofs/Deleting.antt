-- Where an instance by some objects is proper, so is the one by new objects: what the new ones delete, the others delete too.
use Rattle.std.specs.Prelude.{◌≡◌, ◌+◌, ◌-◌, ◌<◌, ℕ, nat_lt, if◌then◌else◌, List, [], ◌∷◌, map, length, slice_index, slice_index_or, Contains}
use Rattle.std.proofs.Common.{zero, suc, refl, sym, ap, ◌∙◌, subst, arith}
use Rattle.px_base.specs.ListLaws.{All-at, All-each}
use Rattle.px_terms.specs.declared.atom.Atom.{Atom}
use Rattle.px_terms.specs.declared.instance.OpInst.{OpInst}
use Rattle.px_terms.specs.declared.problem.Problem.{Problem}
use Rattle.px_terms.specs.declared.term.Term.{Term}
use Rattle.px_terms.specs.declared.term.Term.TheVariants.{Obj, Var, Any as WildCard}
use Rattle.px_terms.specs.Instances.{IsInstance, fill}
use Rattle.px_terms.specs.Language.{substitute}
use Rattle.px_terms.specs.Operators.{IsDeleted, schema_of}
use Rattle.px_terms.specs.Substitution.{substitute_atom}
use Rattle.px_terms.specs.Validity.{IsAtomOf, IsTermOf, IsPatternTermOf, IsPatternOf, IsValid}
use Rattle.px_proof.specs.PlaceLaws.{slice_get-map, All-got}
use Rattle.px_table.specs.declared.mark.Mark.{Mark}
use Rattle.px_table.specs.declared.table.Table.{Table}
use Rattle.px_table.specs.Kernels.{IsProper, atom_under, instance_under, mark_under, steps_under}
use Rattle.px_table.specs.Marks.{IsKept}
use Rattle.px_table.specs.Tables.{IsStepOf, IsTable}
use Rattle.px_table.specs.UnderLaws.{from_map}
use Rattle.px_general.proofs.Mapped.{args-by}
use Rattle.px_general.proofs.Reading.{lt-true, lt-false, read-objects}
use Rattle.px_general.proofs.Renaming.{numbers_from, length-numbers, read-numbers}

-- the number that takes the place of an object's: from the limit on one of the others, in order
abbrev renumbered : ℕ → List ℕ → ℕ → ℕ
renumbered limit others n = if nat_lt n limit then n else slice_index others (n - limit)

abbrev renumbered_term : ℕ → List ℕ → Term → Term
renumbered_term limit others (Obj n) = Obj (renumbered limit others n)
renumbered_term limit others (Var v) = Var v
renumbered_term limit others WildCard = WildCard

below-stays : (limit : ℕ) (others : List ℕ) (n : ℕ) → n < limit → renumbered limit others n ≡ n
below-stays limit others n below = ap (λ b. if b then n else slice_index others (n - limit)) (lt-true n limit below)

new-other : (limit : ℕ) (others : List ℕ) (v : ℕ) → renumbered limit others (limit + v) ≡ slice_index others v
new-other limit others v =
    ap (λ b. if b then (limit + v) else slice_index others ((limit + v) - limit)) (lt-false (limit + v) limit (omega arith))
    ∙ ap (slice_index others) (omega arith)

read-by : (f : Term → Term) → f WildCard ≡ WildCard → (xs : List Term) (k : ℕ)
    → f (slice_index_or xs k WildCard) ≡ slice_index_or (map f xs) k WildCard
read-by f wild [] k = wild
read-by f wild (x ∷ xs) zero = refl
read-by f wild (x ∷ xs) (suc k) = read-by f wild xs k

fill-by : (limit : ℕ) (others : List ℕ) (objects : ℕ → ℕ) (terms : List Term)
    → map (renumbered_term limit others) (fill objects terms)
    ≡ fill (λ k. renumbered limit others (objects k)) (map (renumbered_term limit others) terms)
fill-by limit others objects [] = refl
fill-by limit others objects (Obj n ∷ terms) =
    ap (λ l. Obj (renumbered limit others n) ∷ l) (fill-by limit others (λ k. objects (suc k)) terms)
fill-by limit others objects (Var v ∷ terms) = ap (λ l. Var v ∷ l) (fill-by limit others (λ k. objects (suc k)) terms)
fill-by limit others objects (WildCard ∷ terms) =
    ap (λ l. Obj (renumbered limit others (objects 0)) ∷ l) (fill-by limit others (λ k. objects (suc k)) terms)

module _ (problem : Problem) (valid : IsValid problem) (params : ℕ) (others : List ℕ) (count : length others ≡ params) where
  abbrev new_objects : List ℕ
  new_objects = numbers_from problem.objects params

  abbrev other_for : Term → Term
  other_for = renumbered_term problem.objects others

  -- the others take the places of the new objects
  term-moves : (t : Term) → IsTermOf problem params t → other_for (substitute (map Obj new_objects) t) ≡ substitute (map Obj others) t
  term-moves (Obj n) is = ap Obj (below-stays problem.objects others n is)
  term-moves (Var v) is =
      ap other_for (read-objects new_objects v (omega (arith, is, length-numbers problem.objects params))
      ∙ ap Obj (read-numbers problem.objects params v is))
      ∙ ap Obj (new-other problem.objects others v) ∙ sym (read-objects others v (omega (arith, is, count)))
  term-moves WildCard is = absurd is

  -- also in a pattern, of which the step gives the terms
  pattern-moves : (args : List Term) → ((t : Term) → Contains args t → IsTermOf problem params t) → (variable_count : ℕ) (p : Term)
      → IsPatternTermOf problem variable_count p
      → other_for (substitute (map (substitute (map Obj new_objects)) args) p) ≡ substitute (map (substitute (map Obj others)) args) p
  pattern-moves args are variable_count (Obj n) is = ap Obj (below-stays problem.objects others n is)
  pattern-moves args are variable_count (Var v) is =
      read-by other_for refl (map (substitute (map Obj new_objects)) args) v
      ∙ ap (λ l. slice_index_or l v WildCard) (args-by other_for (substitute (map Obj new_objects)) (substitute (map Obj others)) args
      (λ t has. term-moves t (are t has)))
  pattern-moves args are variable_count WildCard is = refl

  deletion-moves : (s : OpInst) → IsStepOf problem params s → (atom : Atom)
      → ((t : Term) → Contains atom.args t → IsTermOf problem params t)
      → IsDeleted (schema_of problem s) (instance_under new_objects s) (atom_under new_objects atom)
      → IsDeleted (schema_of problem s) (instance_under others s) (atom_under others atom)
  deletion-moves s step atom are deleted = (deleted.0, deleted.1, deleted.2, deleted.3, moved)
    where
      pattern_is : IsPatternOf problem (schema_of problem s).params deleted.1
      pattern_is =
          subst (IsPatternOf problem (schema_of problem s).params) deleted.3
          ((valid.schemas s.op step.op).del deleted.0 deleted.1 deleted.2)

      args_of_step : (t : Term) → Contains s.args t → IsTermOf problem params t
      args_of_step t has = All-at (IsTermOf problem params) s.args t step.terms has

      moved : IsInstance (atom_under others atom) (substitute_atom (instance_under others s).args deleted.1)
      moved =
          let fills = deleted.4 in
          let args : map (substitute (map Obj others)) atom.args
          ≡ fill (λ k. renumbered problem.objects others (fills.0 k)) (map (substitute (instance_under others s).args) deleted.1.args) =
          sym (args-by other_for (substitute (map Obj new_objects)) (substitute (map Obj others)) atom.args
          (λ t has. term-moves t (are t has)))
          ∙ ap (map other_for) (ap (λ (a : Atom). a.args) fills.1)
          ∙ fill-by problem.objects others fills.0 (map (substitute (instance_under new_objects s).args) deleted.1.args)
          ∙ ap (fill (λ k. renumbered problem.objects others (fills.0 k)))
          (args-by other_for (substitute (instance_under new_objects s).args) (substitute (instance_under others s).args) deleted.1.args
          (λ p has. pattern-moves s.args args_of_step (schema_of problem s).params p
          (All-at (IsPatternTermOf problem (schema_of problem s).params) deleted.1.args p pattern_is.1 has))) in
          ((λ k. renumbered problem.objects others (fills.0 k)), λ i. record { pred = ap (λ (a : Atom). a.pred) fills.1 i; args = args i })

-- a proper instance gives that the one by new objects is proper
pub new-proper : (problem : Problem) → IsValid problem → (table : Table) → IsTable problem table → (others : List ℕ)
    → length others ≡ table.params → IsProper problem table others 1
    → IsProper problem table (numbers_from problem.objects table.params) 1
new-proper problem valid table is_table others count proper =
    All-each (λ mark. IsKept problem (steps_under table (numbers_from problem.objects table.params)) 1
    (mark_under (numbers_from problem.objects table.params) mark)) table.marks kept
  where
    kept : (mark : Mark) → Contains table.marks mark
        → IsKept problem (steps_under table (numbers_from problem.objects table.params)) 1
        (mark_under (numbers_from problem.objects table.params) mark)
    kept mark has zero inst low after before at deleted = absurd (omega (arith, low))
    kept mark has (suc k) inst low after before at deleted =
        let step = from_map (instance_under (numbers_from problem.objects table.params)) table.steps k inst at in
        let is_step = All-got (IsStepOf problem table.params) table.steps k step.0 is_table.in_range.steps step.1 in
        let atom_is = All-at (λ (m : Mark). IsAtomOf problem table.params m.atom) table.marks mark is_table.atoms has in
        All-at (λ m. IsKept problem (steps_under table others) 1 (mark_under others m)) table.marks mark proper has (suc k)
        (instance_under others step.0) low after before
        (slice_get-map (instance_under others) table.steps k step.0 step.1)
        (deletion-moves problem valid table.params others count step.0 is_step mark.atom
        (λ t in_args. All-at (IsTermOf problem table.params) mark.atom.args t atom_is.1 in_args)
        (subst (λ (i : OpInst). IsDeleted (schema_of problem i) i (atom_under (numbers_from problem.objects table.params) mark.atom))
        (sym step.2) deleted))
