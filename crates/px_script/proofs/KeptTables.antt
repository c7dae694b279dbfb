-- Each line of a table's block keeps what was declared in range, and its end gives a table of the script.
use Rattle.px_script.proofs.Common.{position, position_or_len, All, All-cons, All-drop, All-head, All-map, All-nil, All-push, All-tail, All-take, Argument, Bool, CommandsInRange, Declared, Derivation, HasNoOpenPlace, HaveNoOpenPlace, IsAmong, IsCommandOf, IsSavedTable, IsTableBefore, List, None, Option, Part, Problem, SignedAtom, Some, Table, Thing, WrittenTable, [], a_fact, an_ancestor, an_axiom, anything, ap, append-nil, arith, atom_of, both_answers, bytes_eq, decimal, derivation_of, derivation_of-proof_of, derivations, drop, end, false, flat_map, fold, goal, goal_number, goal_place, goal_variables, greatest, greatest_height, has_name, height_of, heights_of, highest, instance_of_step, is_empty, is_known_argument, is_variable, last_number, length, length-append, length-map, letter_numbers, line_of, list_any, map, map-append, max, named, nat_lt, not, not-false, number_in, of_table_rows, of_table_steps, open_variable, or_parts, own_problem, plan_given, problem_here, problem_of, proof, proof_of, proofs_read, range_with_len, refl, result_given, rows_of, slice_index, slice_index_or, step, subst, sym, table, table_given, table_goals, table_made, table_term, table_variables, take, takes, true, ℕ, ◌&&◌, ◌++◌, ◌+◌, ◌||◌, ◌∙◌, ◌∷◌, ◌≡◌, ◌≤◌}
use Rattle.std.proofs.lemmas.List.FromFn.{length-range_with_len}
use Rattle.std.proofs.lemmas.List.{take-map, drop-map}
use Rattle.px_script.specs.Causes.{is_numbered_by, is_table_parameter, is_goal_variable}
use Rattle.std.specs.Cmp.Lexicographic.{pointwise, pointwise_decides}
use Rattle.px_table.specs.Deciding.{rows_are_table}
use Rattle.px_table.specs.MarkLaws.{mark_eq-decides}
use Rattle.px_table.specs.Marks.{mark_eq}
use Rattle.px_table.specs.WellSorted.{sorts_by_places}
use Rattle.px_script.specs.Limits as limit
use Rattle.px_script.proofs.Atoms.{args-of, arguments_of, HasAtoms, atoms-right, no-variable}
use Rattle.px_script.proofs.Commands.{one-more-result, none-given, among-more, among-new}
use Rattle.px_script.proofs.KeptLines.{in-version, still-none, no-commands, some-items, Keeps}
use Rattle.px_script.proofs.Lists.{at-most, at-name, by_test, is-new, known-last, known-still, number-after, number-below, number-kept, number-known, number-new, within}
use Rattle.px_script.proofs.Problems.{names-more}
use Rattle.px_script.specs.States.{AreInRange, HasNoDomain, IsTableBegun, IsTableAimed, ResultsInRange, from_blocks}

-- ---- proofs that are read

-- no place is open
proofs-closed : (d : Declared) (parts : List Part) → All HasNoOpenPlace (proofs_read d parts)
proofs-closed d [] = All-nil _
proofs-closed d (a_fact column index x ∷ parts) = All-cons HasNoOpenPlace _ _ tt (proofs-closed d parts)
proofs-closed d (an_ancestor k ∷ parts) = All-cons HasNoOpenPlace _ _ tt (proofs-closed d parts)
proofs-closed d (an_axiom k place count ts ∷ parts) = let after = proofs-closed d parts in
    All-cons HasNoOpenPlace _ _ (each-closed (take count (proofs_read d parts)) (All-take HasNoOpenPlace count (proofs_read d parts) after))
    (All-drop HasNoOpenPlace count (proofs_read d parts) after)
  where
    each-closed : (ds : List Derivation) → All HasNoOpenPlace ds → HaveNoOpenPlace (derivations ds)
    each-closed [] closed = tt
    each-closed (d ∷ ds) closed =
        (All-head HasNoOpenPlace d ds closed, each-closed ds (All-tail HasNoOpenPlace d ds closed))

-- so they are those of their terms
row-back : (row : List Derivation) → All HasNoOpenPlace row → map derivation_of (map proof_of row) ≡ row
row-back [] closed = refl
row-back (d ∷ row) closed =
    ap (λ e. e ∷ map derivation_of (map proof_of row)) (derivation_of-proof_of d (All-head HasNoOpenPlace d row closed))
    ∙ ap (λ t. d ∷ t) (row-back row (All-tail HasNoOpenPlace d row closed))

rows-back : (rows : List (List Derivation)) → All (All HasNoOpenPlace) rows → rows_of (map (map proof_of) rows) ≡ rows
rows-back [] closed = refl
rows-back (row ∷ rows) closed =
    ap (λ t. t ∷ rows_of (map (map proof_of) rows)) (row-back row (All-head (All HasNoOpenPlace) row rows closed))
    ∙ ap (λ t. row ∷ t) (rows-back rows (All-tail (All HasNoOpenPlace) row rows closed))

-- ---- heights

fold-max : (least : ℕ) (ds : List Derivation) → fold max least (map height_of ds) ≡ max least (greatest_height (derivations ds))
fold-max least [] = omega arith
fold-max least (d ∷ ds) = fold-max (max least (height_of d)) ds ∙ omega arith

-- they have the heights that are found in the parts
heights-are : (d : Declared) (parts : List Part) → heights_of parts ≡ map height_of (proofs_read d parts)
heights-are d [] = refl
heights-are d (a_fact column index x ∷ parts) = ap (λ t. 1 ∷ t) (heights-are d parts)
heights-are d (an_ancestor k ∷ parts) = ap (λ t. 1 ∷ t) (heights-are d parts)
heights-are d (an_axiom k place count ts ∷ parts) = let after = proofs_read d parts in let same = heights-are d parts in
    let first : highest (take count (heights_of parts)) ≡ greatest_height (derivations (take count after)) =
    ap (λ hs. highest (take count hs)) same ∙ ap highest (take-map height_of count after) ∙ fold-max 0 (take count after) ∙ omega arith in
    let rest : drop count (heights_of parts) ≡ map height_of (drop count after) =
    ap (drop count) same ∙ drop-map height_of count after in
    ap (λ h. (1 + h) ∷ drop count (heights_of parts)) first ∙ ap (λ t. (1 + greatest_height (derivations (take count after))) ∷ t) rest

below-highest : (most : ℕ) (ds : List Derivation) → greatest_height (derivations ds) ≤ most → All (λ d. height_of d ≤ most) ds
below-highest most [] few = All-nil _
below-highest most (d ∷ ds) few =
    All-cons (λ d. height_of d ≤ most) d ds (omega (arith, few)) (below-highest most ds (omega (arith, few)))

proofs-low : (d : Declared) (parts : List Part) (most : ℕ) → highest (heights_of parts) ≤ most
    → All (λ e. height_of e ≤ most) (proofs_read d parts)
proofs-low d parts most few = let found = ap highest (heights-are d parts) ∙ fold-max 0 (proofs_read d parts) in
    below-highest most (proofs_read d parts) (omega (arith, few, found))

-- ---- variables of goals

-- the names of a letter's numbers begin with it
lettered : (letter most : ℕ) (v : List ℕ) → has_name v (letter_numbers letter most) ≡ true → slice_index v 0 ≡ letter
lettered letter most v known = at-name (λ (n : List ℕ). slice_index n 0 ≡ letter) (letter_numbers letter most) v
    (All-map (λ (n : List ℕ). slice_index n 0 ≡ letter) (λ k. letter ∷ decimal k) (range_with_len 1 most) (λ k e below. refl)) known

numbers-count : (letter most : ℕ) → length (letter_numbers letter most) ≡ most
numbers-count letter most = length-map (range_with_len 1 most) (λ k. letter ∷ decimal k) ∙ length-range_with_len 1 most

any-mapped : {A B : Type 0} (p : B → Bool) (f : A → B) (xs : List A) → list_any p (map f xs) ≡ list_any (λ x. p (f x)) xs
any-mapped p f [] = refl
any-mapped p f (x ∷ xs) = ap (λ b. p (f x) || b) (any-mapped p f xs)

-- a test of a letter's numbers asks for one of its names
numbered-named : (letter most : ℕ) (v : List ℕ) → is_numbered_by letter most v ≡ has_name v (letter_numbers letter most)
numbered-named letter most v = sym (any-mapped (bytes_eq v) (λ k. letter ∷ decimal k) (range_with_len 1 most))

-- the place of a name, counted from 1, and 0 where it isn't there
abbrev from_one : Option ℕ → ℕ
from_one o = elim o [ None ↦ 0 | Some k ↦ k + 1 ]

place-known : (v : List ℕ) (names : List (List ℕ)) → has_name v names ≡ true
    → from_one (position (bytes_eq v) names) ≡ number_in v names + 1
place-known v names known = let there : position (bytes_eq v) names ≡ Some (position_or_len (bytes_eq v) names) =
    rw (within (bytes_eq v) names, known) refl in ap from_one there ∙ ap (λ k. k + 1) (sym (number-known v names known))

place-unknown : (v : List ℕ) (names : List (List ℕ)) → has_name v names ≡ false → from_one (position (bytes_eq v) names) ≡ 0
place-unknown v names unknown = let none : position (bytes_eq v) names ≡ None = rw (within (bytes_eq v) names, unknown) refl in
    ap from_one none

module _ (d : Declared) (line : ℕ) (t : WrittenTable) where
  abbrev in_steps : Declared
  in_steps = record d { block = Some (record { line = line; kind = of_table_steps t }) }

  abbrev parameters : List (List ℕ)
  parameters = letter_numbers 112 t.parameters

  abbrev of_goal : List (List ℕ)
  of_goal = letter_numbers 103 (greatest d.version limit.variables)

  -- a variable of the goal has its number after the parameters
  goal-number : (a : Argument) → takes in_steps table_goals a ≡ true
      → (goal_number in_steps a ≡ goal_place t.parameters (table_term in_steps a))
      × (goal_number in_steps a ≤ greatest d.version limit.variables)
  goal-number (named n) right = (refl, omega arith)
  goal-number anything right = cc
  goal-number (open_variable v) right = let count = numbers-count 112 t.parameters in by_test (has_name v of_goal)
      (λ known.
      let letter = lettered 103 (greatest d.version limit.variables) v known in
      let other : has_name v parameters ≡ false = by_test (has_name v parameters)
      (λ also. absurd (omega (arith, letter, lettered 112 t.parameters v also))) (λ not_there. not_there) in
      let place = number-after v parameters of_goal other known in
      let found : goal_number in_steps (open_variable v) ≡ number_in v of_goal + 1 = place-known v of_goal known in
      let below = number-below v of_goal known in let all = numbers-count 103 (greatest d.version limit.variables) in
      (omega (arith, found, place, count), omega (arith, found, below, all)))
      (λ unknown.
      let found : goal_number in_steps (open_variable v) ≡ 0 = place-unknown v of_goal unknown in
      let known : has_name v parameters ≡ true = one-of right unknown in
      let place = number-kept v parameters of_goal known in let below = number-below v parameters known in
      (omega (arith, found, place, below, count), omega (arith, found)))
    where
      one-of : (is_table_parameter in_steps v || is_goal_variable in_steps v) ≡ true → has_name v of_goal ≡ false
          → has_name v parameters ≡ true
      one-of right unknown = sym (numbered-named 112 t.parameters v)
          ∙ first (is_table_parameter in_steps v) (is_goal_variable in_steps v) right
          (numbered-named 103 (greatest d.version limit.variables) v ∙ unknown)
        where
          first : (a b : Bool) → (a || b) ≡ true → b ≡ false → a ≡ true
          first true b e f = refl
          first false b e f = both_answers b f e

  goal-numbers : (arguments : List Argument) → list_any (λ a. not (takes in_steps table_goals a)) arguments ≡ false
      → (map (goal_number in_steps) arguments ≡ map (goal_place t.parameters) (map (table_term in_steps) arguments))
      × All (λ n. n ≤ greatest d.version limit.variables) (map (goal_number in_steps) arguments)
  goal-numbers [] bound = (refl, All-nil _)
  goal-numbers (a ∷ arguments) bound = let both = or_parts _ (list_any (λ x. not (takes in_steps table_goals x)) arguments) bound in
      let one = goal-number a (not-false _ both.0) in let more = goal-numbers arguments both.1 in (
        ap (λ n. n ∷ map (goal_number in_steps) arguments) one.0
            ∙ ap (λ ns. goal_place t.parameters (table_term in_steps a) ∷ ns) more.0,
        All-cons (λ n. n ≤ greatest d.version limit.variables) _ _ one.1 more.1,
      )

  -- where there are no objects a goal has no arguments
  none-at-all : (arguments : List Argument) → length d.names.objects ≡ 0 → list_any is_variable arguments ≡ false
      → list_any (λ a. not (is_known_argument in_steps a)) arguments ≡ false
      → list_any (λ a. not (takes in_steps table_goals a)) arguments ≡ false → arguments ≡ []
  none-at-all [] none plain known bound = refl
  none-at-all (named n ∷ more) none plain known bound = let first = or_parts _ _ known in
      let there : has_name n d.names.objects ≡ true = only (has_name n d.names.objects) (not-false _ first.0) in
      absurd (omega (arith, number-below n d.names.objects there, none))
    where
      only : (b : Bool) → (b || false) ≡ true → b ≡ true
      only true e = refl
      only false e = e
  none-at-all (open_variable v ∷ more) none plain known bound = cc
  none-at-all (anything ∷ more) none plain known bound = cc

highest-few : (most least : ℕ) (ns : List ℕ) → least ≤ most → All (λ n. n ≤ most) ns → fold max least ns ≤ most
highest-few most least [] few all = few
highest-few most least (n ∷ ns) few all = let one = All-head (λ n. n ≤ most) n ns all in
    highest-few most (max least n) ns (omega (arith, few, one)) (All-tail (λ n. n ≤ most) n ns all)

-- ---- the line that opens the block

module _ (n : ℕ) (d : Declared) where
  abbrev top : Declared
  top = record d { block = None }

  pub table-kept : AreInRange top → (name : List ℕ) (count : ℕ) → Keeps n top (table name count)
  table-kept r name count f = let before = map (λ (one : ℕ × Table). one.0) d.saved in let k = length d.names.results in
      let now = before ++ k ∷ [] in let names = d.names.results ++ name ∷ [] in
      let size = length-append d.names.results (name ∷ []) in let sizes = length-append before (k ∷ []) in
      let same = length-append before [] in let saved_count = length-map d.saved (λ (one : ℕ × Table). one.0) in
      let no_commands = no-commands d.commands f.order.after in
      let no_results = none-given result_given d.commands no_commands in
      let no_tables = none-given table_given d.commands no_commands in
      let whole : before ≡ range_with_len 0 k = sym (append-nil before) ∙ sym (append-nil (before ++ []))
      ∙ ap (λ t. (before ++ []) ++ t) (sym no_results) ∙ r.commands.given in
      let given : now ++ flat_map result_given d.commands ≡ range_with_len 0 (length names) =
      ap (λ t. now ++ t) no_results ∙ append-nil now ∙ ap (λ t. t ++ k ∷ []) whole ∙ one-more-result k
      ∙ ap (range_with_len 0) (sym size) in
      let fresh = is-new d.names.results name f.single.0 in
      let number : k ≡ number_in name names = sym (number-new name d.names.results [] fresh) in
      let T : List ℕ → Type 0 = λ m. IsTableBefore now d.commands (number_in m names) in
      let moved : All T d.roles.tables = λ j e below. let m = slice_index_or d.roles.tables j e in
      subst (IsTableBefore now d.commands) (sym (number-kept m d.names.results (name ∷ []) (r.results.table_names j e below)))
      (among-more before (k ∷ []) (flat_map table_given d.commands) (number_in m d.names.results)
      (subst (λ b. IsAmong (b ++ flat_map table_given d.commands) (number_in m d.names.results)) (append-nil before)
      (r.results.tables j e below)) (ap (λ (l : List ℕ). length l) no_tables)) in
      let results : ResultsInRange now names (record d.roles { tables = d.roles.tables ++ name ∷ [] }) d.commands d.disturbs = record {
        plan_names = λ j e below. known-still _ d.names.results (name ∷ []) (r.results.plan_names j e below);
        plans = λ j e below. subst (IsAmong (flat_map plan_given d.commands))
            (sym (number-kept (slice_index_or d.roles.plans j e) d.names.results (name ∷ []) (r.results.plan_names j e below)))
            (r.results.plans j e below);
        table_names = All-push (λ m. has_name m names ≡ true) d.roles.tables name
            (λ j e below. known-still _ d.names.results (name ∷ []) (r.results.table_names j e below)) (known-last name d.names.results []);
        tables = All-push T d.roles.tables name moved
            (subst (IsTableBefore now d.commands) number (among-new before (flat_map table_given d.commands) k));
        few = let few = r.results.few in omega (arith, few, size, sizes, same);
        disturbs = r.results.disturbs;
      } in
      let each : All (IsCommandOf d.version (own_problem d) d.things (length names)) d.commands =
      λ j c below. absurd (omega (arith, below, no_commands)) in
      let commands : CommandsInRange d.version (own_problem d) d.things now (length names) d.commands = record {
        each = each;
        few = r.commands.few;
        few_disturbs = r.commands.few_disturbs;
        given = given;
        earlier = λ j below. absurd (omega (arith, below, no_commands));
      } in
      let few = at-most _ _ f.limits.1.0 in let few_now : length now ≤ greatest d.version limit.tables =
      omega (arith, few, sizes, saved_count) in
      let small = at-most last_number count (or_parts (nat_lt last_number count) false f.limits.0).0 in
      let fresh_table : WrittenTable = record { name = k; parameters = count; steps = []; goal = []; goal_variable_count = 0; rows = [] } in
      let begun : IsTableBegun d.version fresh_table = record {
        short = omega arith;
        few_parameters = small;
        low = All-nil _;
        closed = All-nil _;
      } in
      let names_are = names-more d.version d.names.results (name ∷ []) r.names.results f.single.0 f.short.0 in
      let none : (d.own_domain || false) ≡ false → d.things ≡ None → HasNoDomain (record d.names { results = names }) d.arities =
      λ own none. let old = still-none top r own none in assumption in
      assumption (names_are, results, commands, few_now, begun, none, in-version top r)

-- ---- the lines of the block

module _ (n : ℕ) (d : Declared) (line : ℕ) (t : WrittenTable) where
  abbrev steps_block : Declared
  steps_block = record d { block = Some (record { line = line; kind = of_table_steps t }) }

  abbrev rows_block : Declared
  rows_block = record d { block = Some (record { line = line; kind = of_table_rows t }) }

  pub step-kept : AreInRange steps_block → (o : List ℕ) (ts : List Argument) → Keeps n steps_block (step o ts)
  step-kept r o ts f = let is = r.table_block in let all = t.steps ++ instance_of_step steps_block o ts ∷ [] in
      let count = length-append t.steps (instance_of_step steps_block o ts ∷ []) in let few = at-most _ _ f.limits.0 in
      let begun : IsTableBegun d.version (record t { steps = all }) = record {
        short = omega (arith, count, few);
        few_parameters = is.few_parameters;
        low = is.low;
        closed = is.closed;
      } in assumption (begun, still-none steps_block r, in-version steps_block r)

  pub goal-kept : AreInRange steps_block → (xs : List SignedAtom) → (not (is_empty xs) && true) ≡ true → Keeps n steps_block (goal xs)
  goal-kept r xs filled f = let is = r.table_block in
      let has : HasAtoms (line_of (goal xs)) xs = record { atoms = refl; arguments = refl } in
      let right = atoms-right steps_block (goal xs) xs has f.right in
      let terms = args-of steps_block (table_variables steps_block) xs in
      let numbers = goal-numbers d line t (arguments_of xs) right.bound in
      let atoms = map (atom_of steps_block (table_variables steps_block)) xs in
      let size : length atoms ≡ length xs = length-map xs (atom_of steps_block (table_variables steps_block)) in
      let some = some-items xs filled in let few = at-most _ _ f.limits.0 in
      let aimed : IsTableAimed d.version (length d.names.objects)
      (record t { goal = atoms; goal_variable_count = goal_variables steps_block xs }) = record {
        begun = record { short = is.short; few_parameters = is.few_parameters; low = is.low; closed = is.closed };
        some = omega (arith, size, some);
        few_atoms = omega (arith, size, few);
        few_variables = highest-few (greatest d.version limit.variables) 0 _ (omega arith) numbers.1;
        last_occurs = ap (fold max 0) numbers.0 ∙ ap (λ ts. fold max 0 (map (goal_place t.parameters) ts)) (sym terms);
        no_objects = λ none. terms ∙ ap (map (table_term steps_block)) (none-at-all d line t (arguments_of xs) none
            (no-variable steps_block (line_of (goal xs)) xs has f.order.early none) right.known right.bound);
      } in assumption (aimed, still-none steps_block r, in-version steps_block r)

  pub proof-kept : AreInRange rows_block → (parts : List Part) → Keeps n rows_block (proof parts)
  proof-kept r parts f = let is = r.table_block in let row = proofs_read rows_block parts in
      let low = All-push (All (λ e. height_of e ≤ greatest d.version limit.proof_height)) t.rows row is.begun.low
      (proofs-low rows_block parts (greatest d.version limit.proof_height) (at-most _ _ f.limits.1.0)) in
      let closed = All-push (All HasNoOpenPlace) t.rows row is.begun.closed (proofs-closed rows_block parts) in
      let aimed : IsTableAimed d.version (length d.names.objects) (record t { rows = t.rows ++ row ∷ [] }) = record {
        begun = record { short = is.begun.short; few_parameters = is.begun.few_parameters; low = low; closed = closed };
        some = is.some;
        few_atoms = is.few_atoms;
        few_variables = is.few_variables;
        last_occurs = is.last_occurs;
        no_objects = is.no_objects;
      } in assumption (aimed, still-none rows_block r, in-version rows_block r)

  -- the table that the block's parts make is one of the script
  made-saved : (p : Problem) → p.objects ≡ length d.names.objects → IsTableAimed d.version (length d.names.objects) t
      → rows_are_table p t.parameters (sorts_by_places p t.steps t.parameters) t.steps t.goal t.goal_variable_count t.rows ≡ true
      → IsSavedTable d.version p (table_made p t)
  made-saved p objects is right = let rows = rows-back t.rows is.begun.closed in let made = table_made p t in
      let marked : pointwise mark_eq made.marks made.marks ≡ true = (pointwise_decides mark_eq-decides made.marks made.marks).1 refl in
      let sorts = sorts_by_places p t.steps t.parameters in
      let passes = ap (rows_are_table p t.parameters sorts t.steps t.goal t.goal_variable_count) rows ∙ right in record {
        is_one = both _ _ passes marked;
        short = is.begun.short;
        low = subst (All (All (λ e. height_of e ≤ greatest d.version limit.proof_height))) (sym rows) is.begun.low;
        few_parameters = is.begun.few_parameters;
        some = is.some;
        few_atoms = is.few_atoms;
        few_variables = is.few_variables;
        last_occurs = is.last_occurs;
        sorts = refl;
        no_objects = λ none. is.no_objects (sym objects ∙ none);
      }
    where
      both : (a b : Bool) → a ≡ true → b ≡ true → (a && b) ≡ true
      both true b e g = g
      both false b e g = e

  objects-here : (own : Problem) (things : Option (List Thing)) → (problem_of own things).objects ≡ own.objects
  objects-here own None = refl
  objects-here own (Some things) = refl

  pub end-table : AreInRange rows_block → Keeps n rows_block end
  end-table r f = let p = problem_here d in let made = table_made p t in let one : ℕ × Table = (t.name, made) in
      let is_saved = made-saved p (objects-here (own_problem d) d.things) r.table_block (not-false _ f.no_bad_table) in
      let all = d.saved ++ one ∷ [] in let before = from_blocks rows_block in
      let now : List ℕ = map (λ (x : ℕ × Table). x.0) all ++ [] in
      let same : before ≡ now = sym (append-nil (map (λ (x : ℕ × Table). x.0) all)
      ∙ map-append (λ (x : ℕ × Table). x.0) d.saved (one ∷ [])) in
      let saved = All-push (λ (x : ℕ × Table). IsSavedTable d.version p x.1) d.saved one r.saved is_saved in
      let commands = subst (λ first. CommandsInRange d.version (own_problem d) d.things first (length d.names.results) d.commands) same
      r.commands in
      let results = subst (λ first. ResultsInRange first d.names.results d.roles d.commands d.disturbs) same r.results in
      let few = subst (λ (first : List ℕ). length first ≤ greatest d.version limit.tables) same r.few_saved in
      let closed : Declared = record d { saved = all; block = None; own_domain = d.own_domain || false; begun = true } in
      subst (λ schemas. AreInRange (record closed { schemas = schemas })) (sym (append-nil d.schemas))
      (assumption (saved, commands, results, few, still-none rows_block r, in-version rows_block r))
