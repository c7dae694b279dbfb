-- Each line of a table's block has no fault, and after its end the table is the one that was printed.
use Rattle.std.specs.Str.{chars}
use Rattle.px_printer.specs.Texts.{atom_text, instance_text}
use Rattle.px_printer.specs.Blocks.{all_proof_words}
use Rattle.px_printer.specs.declared.spelling.Spelling.TheVariants.{InBlock}
use Rattle.px_proof.specs.Derivation.{Derivation, derivations, height}
use Rattle.px_table.specs.declared.table.Table.{Table}
use Rattle.px_table.specs.Deciding.{rows_are_table}
use Rattle.px_table.specs.WellSorted.{sorts_by_places}
use Rattle.px_script.specs.Common.{OpInst}
use Rattle.px_script.specs.Declarations.{of_table_rows, problem_here, table_variables, goal_variables}
use Rattle.px_script.specs.Faults.{heights_of, highest}
use Rattle.px_script.specs.declared.kinds.Manner.TheVariants.{TableTerms as table_terms, TableGoals as table_goals}
use Rattle.px_script.specs.Limits.{words_of_all, words_of_three, words_of_two}
use Rattle.px_script.specs.Items.{atoms_of_part, terms_of_part}
use Rattle.px_script.specs.Ranges.{last_goal_variable}
use Rattle.px_script.proofs.Common.{◌≡◌, ℕ, ◌+◌, ◌≤◌, Bool, true, false, not, ◌||◌, List, [], ◌∷◌, ◌++◌, map, length, refl, sym, ap, ◌∙◌, subst, arith, append-nil, All, AllByRecursion, codes, decimal, nat_lt, nat_tests, flat_map, list_any, is_empty, has_name, bytes_eq, bytes_eq-itself, NameLists, table, end, is_word, nat_le, if◌then◌else◌, Declared, Stage, is_built, Passes, Atom, Problem, spelling, Argument, SignedAtom, Part, atom_of, length-map}
use Rattle.px_saved.proofs.Written.{written_term, written_atom, written_step, written_goal, written_row, all_written_parts, line_bytes, table-line, step-line, goal-line, proof-line, end-line, IsText}
use Rattle.px_saved.proofs.Fits.{AtomFits, StepFits, ProofsFit}
use Rattle.px_saved.proofs.Parts.{row-back, row-low, row-whole}
use Rattle.px_saved.proofs.Between.{ended, inside, of_rows, of_steps, written}
use Rattle.px_saved.proofs.Clean.{IsClean, clean-line, IsGood, IsGoodAtom, arguments-known, arguments-taken, arguments-early, arguments-of-atoms, atoms-known, atoms-arity, atoms-signed, all-both}
use Rattle.px_saved.proofs.Before as before
use Rattle.px_saved.proofs.Before.{IsBeforeBlock}

-- the words of a table's block are built
pub record HasBlocks (stage : Stage) : Type 0 where
  pub tables : is_built stage (codes "table") ≡ true
  pub steps : is_built stage (codes "step") ≡ true
  pub goals : is_built stage (codes "goal") ≡ true
  pub proofs : is_built stage (codes "proof") ≡ true
  pub ends : is_built stage (codes "end") ≡ true

or-false : (b : Bool) → (b || false) ≡ b
or-false true = refl
or-false false = refl

few-of : (most n : ℕ) → n ≤ most → nat_lt most n ≡ false
few-of most n few = grind (arith, nat_tests, few)

module _ (stage : Stage) (words : HasBlocks stage) (d : Declared) (rs : List (List ℕ)) (name : List ℕ) (one : Table) (g : IsBeforeBlock d)
    (few : one.params ≤ 9999) where
  abbrev params : ℕ
  params = one.params

  abbrev names : NameLists
  names = record d.names { results = rs }

  abbrev problem : Problem
  problem = problem_here d

  -- a word of version 2 is one of each later version
  is-word : (w : List ℕ) → ((later : List (List ℕ)) → list_any (bytes_eq w) (words_of_all ++ (words_of_two ++ later)) ≡ true)
      → is_word d.version w ≡ true
  is-word w is = let two : nat_le 2 d.version ≡ true = grind (arith, nat_tests, g.version) in
      let later = if nat_le 3 d.version then words_of_three else [] in
      subst (λ b. list_any (bytes_eq w) (words_of_all ++ ((if b then words_of_two else []) ++ later)) ≡ true) (sym two) (is later)

  -- ---- the first line

  module _ (is_text : IsText name) (short : length name ≤ 64) (fresh : has_name name d.names.results ≡ false)
      (room : length d.saved + 1 ≤ 32) where
    table-clean : IsClean stage d (table name params)
    table-clean = record {
      order = rw (g.commands, g.closed) refl;
      built = ap not words.tables;
      known = refl;
      single = rw (fresh, bytes_eq-itself name) refl;
      arity = refl;
      bound = refl;
      limits = (rw (few-of 64 (length name) short) refl, (rw (few-of 9999 params few) refl, (few-of 32 (length d.saved + 1) room, tt)));
      whole = refl;
    }

    pub table-passes : (n : ℕ) → Passes stage n d (chars (line_bytes names params (codes "table") (name ∷ decimal params ∷ [])))
        (inside d name n (of_steps d one []))
    table-passes n = (
      spelling (table name params),
      (table-line names params name is_text (omega (arith, few))).lexes,
      (
        table name params,
        (refl, rw (is-word (codes "table") (λ later. refl)) refl),
        clean-line stage d (table name params) table-clean,
        sym (λ i. record (inside d name n (of_steps d one [])) { own_domain = or-false d.own_domain i }),
      ),
    )

  -- ---- steps

  module _ (m n : ℕ) (so_far : List OpInst) (inst : OpInst) (fits : StepFits problem params inst) (room : length so_far + 1 ≤ 64) where
    abbrev x : Declared
    x = inside d name n (of_steps d one so_far)

    abbrev arguments : List Argument
    arguments = map (written_term names params) inst.args ++ []

    good : AllByRecursion (IsGood x table_terms) arguments
    good = all-both (IsGood x table_terms) (map (written_term names params) inst.args) []
        (before.good-step d rs name params g few n (of_steps d one so_far) (refl, refl) inst fits) tt

    step-clean : IsClean stage x (written_step names params inst)
    step-clean = record {
      order = rw (g.commands, arguments-early x table_terms arguments good) refl;
      built = ap not words.steps;
      known = rw (
        arguments-known x table_terms arguments good,
        before.operator-known d rs name params g few n (of_steps d one so_far) (refl, refl) inst fits,
      ) refl;
      single = refl;
      arity = refl;
      bound = arguments-taken x table_terms arguments good;
      limits = (refl, (few-of 64 (length so_far + 1) room, tt));
      whole = refl;
    }

    pub step-passes : Passes stage m x (chars (line_bytes names params (codes "step") (instance_text names (InBlock params) inst ∷ [])))
        (inside d name n (of_steps d one (so_far ++ inst ∷ [])))
    step-passes = (
      spelling (written_step names params inst),
      (step-line names params inst
          (before.step-text d rs name params g few n (of_steps d one so_far) (refl, refl) inst fits)).lexes,
      (
        written_step names params inst,
        (refl, rw (is-word (codes "step") (λ later. refl)) refl),
        clean-line stage x (written_step names params inst) step-clean,
        sym (λ i. record (inside d name n (of_steps d one (so_far ++ before.step-read d rs name params g few
            n (of_steps d one so_far) (refl, refl) inst fits i ∷ []))) { own_domain = or-false d.own_domain i }),
      ),
    )

  abbrev GoalFits : Type 0
  GoalFits = AllByRecursion (AtomFits problem params (params + one.goal_variable_count)) one.goal

  -- ---- the goal

  module _ (m n : ℕ) (fits : GoalFits) (some : 1 ≤ length one.goal) (few_atoms : length one.goal ≤ 16)
      (few_variables : one.goal_variable_count ≤ 12) (last : one.goal_variable_count ≡ last_goal_variable one) where
    abbrev at_goal : Declared
    at_goal = inside d name n (of_steps d one one.steps)

    abbrev atoms : List SignedAtom
    atoms = map (written_atom names params) one.goal

    good-atoms : AllByRecursion (IsGoodAtom at_goal table_goals) atoms
    good-atoms = before.good-goal d rs name params g few n (of_steps d one one.steps) (refl, refl)
        (params + one.goal_variable_count) (omega (arith, few_variables)) one.goal fits

    abbrev all_atoms : List SignedAtom
    all_atoms = atoms ++ []

    good-all : AllByRecursion (IsGoodAtom at_goal table_goals) all_atoms
    good-all = all-both (IsGoodAtom at_goal table_goals) atoms [] good-atoms tt

    abbrev goal_arguments : List Argument
    goal_arguments = flat_map (λ y. y.atom.arguments) atoms ++ []

    good-arguments : AllByRecursion (IsGood at_goal table_goals) goal_arguments
    good-arguments = all-both (IsGood at_goal table_goals) (flat_map (λ y. y.atom.arguments) atoms) []
        (arguments-of-atoms at_goal table_goals atoms good-atoms) tt

    some-atoms : (goal : List Atom) → 1 ≤ length goal → is_empty (map (written_atom names params) goal) ≡ false
    some-atoms [] long = absurd (omega (arith, long))
    some-atoms (atom ∷ more) long = refl

    short : length atoms ≤ 16
    short = let count = length-map one.goal (written_atom names params) in omega (arith, count, few_atoms)

    goal-clean : IsClean stage at_goal (written_goal names params one.goal)
    goal-clean = record {
      order = rw (g.commands, arguments-early at_goal table_goals goal_arguments good-arguments) refl;
      built = ap not words.goals;
      known = rw (
        atoms-known at_goal table_goals all_atoms good-all,
        arguments-known at_goal table_goals goal_arguments good-arguments,
      ) refl;
      single = refl;
      arity = atoms-arity at_goal table_goals all_atoms good-all;
      bound = arguments-taken at_goal table_goals goal_arguments good-arguments;
      limits = (refl, (few-of 16 (length atoms) short, tt));
      whole = refl;
    }

    pub goal-passes : Passes stage m at_goal
        (chars (line_bytes names params (codes "goal") (map (atom_text names (InBlock params)) one.goal)))
        (inside d name n (of_rows d one []))
    goal-passes = (
      spelling (written_goal names params one.goal),
      (goal-line names params one.goal (before.goal-text d rs name params g few n (of_steps d one one.steps)
          (refl, refl) (params + one.goal_variable_count) (omega (arith, few_variables)) one.goal fits)).lexes,
      (
        written_goal names params one.goal,
        (
          refl,
          rw (
            is-word (codes "goal") (λ later. refl),
            some-atoms one.goal some,
            atoms-signed at_goal table_goals all_atoms good-all,
          ) refl,
        ),
        clean-line stage at_goal (written_goal names params one.goal) goal-clean,
        sym (λ i. record (inside d name n (of_table_rows (record (written d one []) { goal = goal-is i; goal_variable_count = variable_count-is i })))
            { own_domain = or-false d.own_domain i }),
      ),
    )
      where
        goal-is : map (atom_of at_goal (table_variables at_goal)) atoms ≡ one.goal
        goal-is = before.goal-read d rs name params g few n (of_steps d one one.steps) (refl, refl)
            (params + one.goal_variable_count) (omega (arith, few_variables)) one.goal fits

        variable_count-is : goal_variables at_goal atoms ≡ one.goal_variable_count
        variable_count-is = before.variables-read d rs name params g few n (of_steps d one one.steps) (refl, refl)
            (params + one.goal_variable_count) (omega (arith, few_variables)) one.goal fits ∙ sym last

  -- ---- rows

  module _ (m n : ℕ) (so_far : List (List Derivation)) (row : List Derivation) (fits : ProofsFit problem params (derivations row))
      (low : All (λ p. height p ≤ 56) row) where
    abbrev at_row : Declared
    at_row = inside d name n (of_rows d one so_far)

    abbrev parts : List Part
    parts = all_written_parts names params (derivations row)

    fine : before.AreFine d rs name params g few n (of_rows d one so_far) (refl, refl) (derivations row)
    fine = before.all-fine d rs name params g few n (of_rows d one so_far) (refl, refl)
        (derivations row) fits

    abbrev row_atoms : List SignedAtom
    row_atoms = flat_map atoms_of_part parts

    row-atoms : AllByRecursion (IsGoodAtom at_row table_terms) row_atoms
    row-atoms = before.part-atoms d rs name params g few n (of_rows d one so_far) (refl, refl)
        parts fine.good

    row-all : AllByRecursion (IsGoodAtom at_row table_terms) (row_atoms ++ [])
    row-all = all-both (IsGoodAtom at_row table_terms) row_atoms [] row-atoms tt

    abbrev row_arguments : List Argument
    row_arguments = (flat_map (λ y. y.atom.arguments) row_atoms ++ flat_map terms_of_part parts) ++ []

    row-arguments : AllByRecursion (IsGood at_row table_terms) row_arguments
    row-arguments = all-both (IsGood at_row table_terms) (flat_map (λ y. y.atom.arguments) row_atoms ++ flat_map terms_of_part parts) []
        (all-both (IsGood at_row table_terms) (flat_map (λ y. y.atom.arguments) row_atoms) (flat_map terms_of_part parts)
        (arguments-of-atoms at_row table_terms row_atoms row-atoms)
        (before.part-terms d rs name params g few n (of_rows d one so_far) (refl, refl)
        parts fine.good)) tt

    row-clean : IsClean stage at_row (written_row names params row)
    row-clean = record {
      order = rw (g.commands, arguments-early at_row table_terms row_arguments row-arguments) refl;
      built = ap not words.proofs;
      known = rw (
        atoms-known at_row table_terms (row_atoms ++ []) row-all,
        arguments-known at_row table_terms row_arguments row-arguments,
      ) refl;
      single = refl;
      arity = atoms-arity at_row table_terms (row_atoms ++ []) row-all;
      bound = arguments-taken at_row table_terms row_arguments row-arguments;
      limits = (
        refl,
        (
          before.part-numbers d rs name params g few n (of_rows d one so_far) (refl, refl)
              parts fine.good,
          (few-of 56 (highest (heights_of parts)) (row-low names params row fine.whole low), tt),
        ),
      );
      whole = refl;
    }

    pub row-passes : Passes stage m at_row
        (chars (line_bytes names params (codes "proof") (all_proof_words names (InBlock params) (derivations row))))
        (inside d name n (of_rows d one (so_far ++ row ∷ [])))
    row-passes = (
      spelling (written_row names params row),
      (proof-line names params row fine.text).lexes,
      (
        written_row names params row,
        (
          refl,
          rw (
            is-word (codes "proof") (λ later. refl),
            row-whole names params row fine.whole,
            atoms-signed at_row table_terms (row_atoms ++ []) row-all,
          ) refl,
        ),
        clean-line stage at_row (written_row names params row) row-clean,
        sym (λ i. record (inside d name n (of_rows d one (so_far ++ row-back names params at_row row fine.reads i ∷ [])))
            { own_domain = or-false d.own_domain i }),
      ),
    )

  -- ---- the end

  module _ (m n : ℕ) (rows : List (List Derivation))
      (is : rows_are_table problem params (sorts_by_places problem one.steps params) one.steps one.goal
      one.goal_variable_count rows ≡ true) where
    abbrev at_end : Declared
    at_end = inside d name n (of_rows d one rows)

    end-clean : IsClean stage at_end end
    end-clean = record {
      order = rw g.commands refl;
      built = ap not words.ends;
      known = refl;
      single = refl;
      arity = refl;
      bound = refl;
      limits = (refl, tt);
      whole = ap not is;
    }

    pub end-passes : Passes stage m at_end (chars (line_bytes names params (codes "end") [])) (ended d name one rows)
    end-passes = (
      spelling end,
      (end-line names params).lexes,
      (
        end,
        (refl, rw (is-word (codes "end") (λ later. refl)) refl),
        clean-line stage at_end end end-clean,
        sym (λ i. record (ended d name one rows) {
          schemas = append-nil d.schemas i;
          own_domain = or-false d.own_domain i;
          block = sym g.closed i;
        }),
      ),
    )
