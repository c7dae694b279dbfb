-- There are finitely many entries, and so finitely many moves are allowed at a node.
use Rattle.std.specs.Prelude.{◌≡◌, ◌⊎◌, ◌<◌, ℕ, List, [], ◌∷◌, length, slice_index, slice_index_or, unwrap_or, All}
use Rattle.std.proofs.Common.{suc, refl, sym, ap, subst, inl, inr, arith}
use Rattle.std.proofs.lemmas.List.Elements.{All-from_get_or}
use Rattle.px_terms.specs.declared.instance.OpInst.{OpInst}
use Rattle.px_terms.specs.declared.problem.Problem.{Problem}
use Rattle.px_terms.specs.declared.term.Term.{Term}
use Rattle.px_terms.specs.declared.term.Term.TheVariants.{Obj, Var, Any}
use Rattle.px_terms.specs.Operators.{no_schema}
use Rattle.px_terms.specs.Sorts.{IsWellSortedInstance}
use Rattle.px_terms.specs.Validity.{IsTermOf}
use Rattle.px_table.specs.declared.entry.Entry.{Entry}
use Rattle.px_table.specs.declared.entry.Entry.TheVariants.{Op, Macro}
use Rattle.px_table.specs.declared.entry.Move.{Move}
use Rattle.px_table.specs.declared.entry.Move.TheVariants.{Apply, Push}
use Rattle.px_table.specs.declared.node.Node.{Node}
use Rattle.px_table.specs.declared.table.Table.{Table}
use Rattle.px_table.specs.Prefixes.{IsMacro, IsUsed}
use Rattle.px_table.specs.Tables.{empty_table}
use Rattle.px_entries.specs.Entries.{IsEntry, table_at}
use Rattle.px_ends.specs.Tasks.{IsAllowed, Task}
use Rattle.px_order.specs.Places.{order_of, place-within-list}
use Rattle.px_totality.specs.Finite.{IsFinite}
use Rattle.px_totality.proofs.FiniteLaws.{finite_below, finite_each, finite_either, finite_image, finite_lists, finite_one, finite_weaker}

module _ (problem : Problem) where
  -- ---- operator instances

  object-term : (t : Term) → IsTermOf problem 0 t → (n : ℕ) × (n < problem.objects) × (Obj n ≡ t)
  object-term (Obj n) below = (n, below, refl)
  object-term (Var v) below = absurd (omega (arith, below))
  object-term Any of = absurd of

  finite-terms : IsFinite (IsTermOf problem 0)
  finite-terms =
      finite_weaker (IsTermOf problem 0) (λ (t : Term). (n : ℕ) × (n < problem.objects) × (Obj n ≡ t)) object-term
      (finite_image (λ n. n < problem.objects) Obj (finite_below problem.objects))

  abbrev parameters : ℕ → ℕ
  parameters op = (slice_index_or problem.schemas op no_schema).params

  abbrev AreArguments : ℕ → List Term → Type 0
  AreArguments op args = All (IsTermOf problem 0) args × (length args ≡ parameters op)

  abbrev IsOfOperator : ℕ → OpInst → Type 0
  IsOfOperator op inst = (args : List Term) × AreArguments op args × (record { op = op; args = args } ≡ inst)

  pub finite-instances : IsFinite (IsWellSortedInstance problem)
  finite-instances =
      finite_weaker (IsWellSortedInstance problem)
      (λ (inst : OpInst). (op : ℕ) × (op < length problem.schemas) × IsOfOperator op inst)
      (λ inst is. (inst.op, is.of.op, (inst.args, (is.of.objects, is.of.count), refl)))
      (finite_each (λ op. op < length problem.schemas) IsOfOperator (finite_below (length problem.schemas))
      (λ op. finite_image (AreArguments op) (λ (args : List Term). record { op = op; args = args })
      (finite_lists (IsTermOf problem 0) finite-terms (parameters op))))

  -- ---- MACROPs

  module _ (tables : List Table) where
    abbrev AreSmall : List ℕ → Type 0
    AreSmall sigma = All (λ n. n < suc problem.objects) sigma

    abbrev AreObjects : ℕ → List ℕ → Type 0
    AreObjects number sigma = AreSmall sigma × (length sigma ≡ (table_at tables number).params)

    abbrev IsOfPrefix : ℕ → ℕ → Entry → Type 0
    IsOfPrefix number prefix entry = (sigma : List ℕ) × AreObjects number sigma × (Macro number prefix sigma ≡ entry)

    abbrev IsOfTable : ℕ → Entry → Type 0
    IsOfTable number entry =
        (prefix : ℕ) × (prefix < suc (length (table_at tables number).steps)) × IsOfPrefix number prefix entry

    abbrev IsSomeMacro : Entry → Type 0
    IsSomeMacro entry = (number : ℕ) × (number < length tables) × IsOfTable number entry

    finite-macros : IsFinite IsSomeMacro
    finite-macros =
        finite_each (λ number. number < length tables) IsOfTable (finite_below (length tables))
        (λ number. finite_each (λ prefix. prefix < suc (length (table_at tables number).steps)) (IsOfPrefix number)
        (finite_below (suc (length (table_at tables number).steps)))
        (λ prefix. finite_image (AreObjects number) (λ (sigma : List ℕ). Macro number prefix sigma)
        (finite_lists (λ n. n < suc problem.objects) (finite_below (suc problem.objects)) (table_at tables number).params)))

    small-number : (table : Table) (prefix : ℕ) (sigma : List ℕ) → IsMacro problem table prefix sigma → (v : ℕ) → v < length sigma
        → slice_index sigma v < suc problem.objects
    small-number table prefix sigma is v below = elim (order_of (slice_index sigma v) (suc problem.objects)) [
      | inl less ↦ less
      | inr more ↦
          let inside : v < table.params = omega (arith, below, is.count) in
          let unused : ¬ IsUsed table prefix v = λ used. omega (arith, is.used v inside used, more) in
          absurd (omega (arith, is.unused v inside unused, more))
    ]

    small-numbers : (table : Table) (prefix : ℕ) (sigma : List ℕ) → IsMacro problem table prefix sigma → AreSmall sigma
    small-numbers table prefix sigma is = All-from_get_or (λ n. n < suc problem.objects) sigma 0 (small-number table prefix sigma is)

    some-macro : (number prefix : ℕ) (sigma : List ℕ) → IsEntry problem tables (Macro number prefix sigma)
        → IsSomeMacro (Macro number prefix sigma)
    some-macro number prefix sigma (table, at, is) =
        let same : table ≡ table_at tables number = sym (ap (λ o. unwrap_or o empty_table) at) in
        let here = subst (λ (t : Table). IsMacro problem t prefix sigma) same is in (
          number,
          place-within-list tables number table at,
          (
            prefix,
            omega (arith, here.within),
            (sigma, (small-numbers (table_at tables number) prefix sigma here, here.count), refl),
          ),
        )

    -- ---- entries and moves

    abbrev IsKindOfEntry : Entry → Type 0
    IsKindOfEntry entry = ((inst : OpInst) × IsWellSortedInstance problem inst × (Op inst ≡ entry)) ⊎ IsSomeMacro entry

    kind-of : (entry : Entry) → IsEntry problem tables entry → IsKindOfEntry entry
    kind-of (Op inst) is = inl (inst, is, refl)
    kind-of (Macro number prefix sigma) is = inr (some-macro number prefix sigma is)

    pub finite-entries : IsFinite (IsEntry problem tables)
    finite-entries =
        finite_weaker (IsEntry problem tables) IsKindOfEntry kind-of
        (finite_either (λ (entry : Entry). (inst : OpInst) × IsWellSortedInstance problem inst × (Op inst ≡ entry)) IsSomeMacro
        (finite_image (IsWellSortedInstance problem) Op finite-instances) finite-macros)

    -- the pushed entry is one
    abbrev IsMoveOf : Move → Type 0
    IsMoveOf Apply = Unit {0}
    IsMoveOf (Push entry) = IsEntry problem tables entry

    abbrev IsKindOfMove : Move → Type 0
    IsKindOfMove m = (Apply ≡ m) ⊎ ((entry : Entry) × IsEntry problem tables entry × (Push entry ≡ m))

    kind-of-move : (m : Move) → IsMoveOf m → IsKindOfMove m
    kind-of-move Apply is = inl refl
    kind-of-move (Push entry) is = inr (entry, is, refl)

    finite-moves : IsFinite IsMoveOf
    finite-moves =
        finite_weaker IsMoveOf IsKindOfMove kind-of-move
        (finite_either (λ (m : Move). Apply ≡ m) (λ (m : Move). (entry : Entry) × IsEntry problem tables entry × (Push entry ≡ m))
        (finite_one Apply) (finite_image (IsEntry problem tables) Push finite-entries))

-- finitely many moves are allowed at a node
pub finite-allowed : (task : Task) (node : Node) → IsFinite (IsAllowed task node)
finite-allowed task node =
    finite_weaker (IsAllowed task node) (IsMoveOf task.problem task.tables) of_entry (finite-moves task.problem task.tables)
  where
    of_entry : (m : Move) → IsAllowed task node m → IsMoveOf task.problem task.tables m
    of_entry Apply may = tt
    of_entry (Push entry) may = may.0.is_entry
