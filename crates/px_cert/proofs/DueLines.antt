-- The line that is due is read as it is written.
use Rattle.std.proofs.Common.{◌≡◌, ◌≤◌, ◌<◌, ◌+◌, ◌^◌, ◌&&◌, ℕ, zero, suc, Bool, true, false, eqb, List, [], ◌++◌, length, Some, None, refl, sym, ap, subst, ◌∙◌, arith, le-leb, leb-true}
use Rattle.std.specs.Prelude.{◌||◌, codes, nat_le, slice_index_or}
use Rattle.std.specs.List.{flat_map}
use Rattle.std.proofs.lemmas.Bool.{and_parts, ne_eqb}
use Rattle.std.proofs.lemmas.Option.{same_Some}
use Rattle.px_terms.specs.declared.clause.Clause.{Clause}
use Rattle.px_terms.specs.declared.clause.Lit.{Lit}
use Rattle.px_terms.specs.Clauses.{HasClauseLength}
use Rattle.px_terms.specs.Limits.{most_arguments, most_clauses, most_formula_variables, most_literals, most_parameters}
use Rattle.px_terms.specs.Operators.{no_schema}
use Rattle.px_terms.specs.Validity.{IsAtomOf, IsAxiomOf, IsPatternOf}
use Rattle.px_table.specs.Limits.{most_steps}
use Rattle.px_cert.specs.declared.draft.Draft.{Draft}
use Rattle.px_cert.specs.declared.draft.Due.{Due}
use Rattle.px_cert.specs.declared.draft.Due.TheVariants as due
use Rattle.px_cert.specs.ClaimRanges.{AreAtMost, AreSorts, IsRowProof, IsTableAtom, IsTableStep}
use Rattle.px_cert.specs.Drafts.{HasObjectFor, IsDue, language}
use Rattle.px_cert.specs.Limits.{greatest_sort, most_atoms, most_objects, most_operators, most_predicates, most_table_parameters, table_variables}
use Rattle.px_cert.specs.Lines.{Line, heading, objects, predicates, axioms, clause, operators, operator, pre, delete, add, table, goal, steps, action, row, atom_item, line_bytes, line_of_items, list_item, literal_item, number_item, proof_item, term_item}
use Rattle.px_cert.specs.Reading.{Reader, as_line, atom_at, atoms_at, clause_items, clause_of_parts, due_line_at, goal_items, has_object, heading_items, inst_of_parts, line_of, list_at, literal_at, number_at, operator_items, row_items, sorts_at, step_items, terms_at}
use Rattle.px_cert.specs.Sound.{IsOpenSchema, IsSound}
use Rattle.px_cert.proofs.Digits.{count_exact, number_exact, number_starts}
use Rattle.px_cert.proofs.Exact.{IsExact, as_exact, behind_exact, exact_as, pair_exact, passing_exact}
use Rattle.px_cert.proofs.Items.{IsAtomFor, IsSmall, atom_back, atom_exact, atom_starts, atom_there, list_exact, literal_exact, literal_starts, pattern_atom_back, pattern_atom_there}
use Rattle.px_cert.proofs.LineReading.{line_again, line_exact, line_taken}
use Rattle.px_cert.proofs.ProofItems.{AreTermsRead, row_exact, terms_back, terms_exact, terms_start, terms_there}

pub small_draft : (d : Draft) → IsSound d → IsSmall d
small_draft d sound =
    let objects = sound.objects.0 in
    let arities = sound.arities.0 in
    let axioms = sound.few_clauses in
    let schemas = sound.few_operators in
    record {
      objects = omega arith;
      arities = omega arith;
      axioms = omega arith;
      schemas = omega arith;
      literals = λ number below. (sound.clauses number (record { variable_count = 0; lits = [] }) below).1.0;
    }

-- ---- ranges

each_at : {A : Type 0} (P Q : A → Type 0) → ((x : A) → P x → Q x) → (most : ℕ) (xs : List A) → AreAtMost most P xs → AreAtMost most Q xs
each_at P Q f most xs is = (is.0, λ k d below. f _ (is.1 k d below))

pub numbers_exact : (most limit : ℕ) → most < 2 ^ 64 → limit < 2 ^ 64
    → IsExact (list_at (number_at (limit + 1)) most) (list_item number_item) (AreAtMost most (λ n. n ≤ limit))
numbers_exact most limit few small =
    exact_as _ (list_item number_item) _
    (list_exact (number_at (limit + 1)) number_item (λ n. n < limit + 1) (number_exact (limit + 1) (omega arith)) number_starts most few)
    (AreAtMost most (λ n. n ≤ limit)) (each_at (λ n. n < limit + 1) (λ n. n ≤ limit) (λ n is. omega (arith, is)) most)
    (each_at (λ n. n ≤ limit) (λ n. n < limit + 1) (λ n is. omega (arith, is)) most)

object_there : (d : Draft) (count : ℕ) → has_object d count ≡ true → HasObjectFor d count
object_there d zero is some = absurd (omega (arith, some))
object_there d (suc count) is some =
    let other : eqb (suc count) 0 ≡ false = ne_eqb (suc count) 0 (λ same. omega (arith, same)) in
    let test : nat_le 1 (length d.objects) ≡ true = sym (ap (λ t. t || nat_le 1 (length d.objects)) other) ∙ is in
    let h = leb-true 1 (length d.objects) test in
    omega (arith, h)

object_back : (d : Draft) (count : ℕ) → HasObjectFor d count → has_object d count ≡ true
object_back d zero is = refl
object_back d (suc count) is =
    let other : eqb (suc count) 0 ≡ false = ne_eqb (suc count) 0 (λ same. omega (arith, same)) in
    let some = is (omega arith) in
    let low : 1 ≤ length d.objects = omega (arith, some) in
    ap (λ t. t || nat_le 1 (length d.objects)) other ∙ le-leb 1 (length d.objects) low

module _ (d : Draft) (sound : IsSound d) where
  pub plain_atoms : (variable_count : ℕ) → variable_count ≤ 2 ^ 64
      → IsExact (atoms_at d variable_count false) (list_item atom_item) (AreAtMost most_atoms (IsAtomOf (language d) variable_count))
  plain_atoms variable_count few =
      exact_as _ (list_item atom_item) _
      (list_exact (atom_at d variable_count false) atom_item (IsAtomFor d variable_count false) (atom_exact d (small_draft d sound) variable_count few false) atom_starts
      most_atoms (omega arith)) (AreAtMost most_atoms (IsAtomOf (language d) variable_count))
      (each_at (IsAtomFor d variable_count false) (IsAtomOf (language d) variable_count) (atom_there d variable_count) most_atoms)
      (each_at (IsAtomOf (language d) variable_count) (IsAtomFor d variable_count false) (atom_back d variable_count) most_atoms)

  pub pattern_atoms : (variable_count : ℕ) → variable_count ≤ 2 ^ 64
      → IsExact (atoms_at d variable_count true) (list_item atom_item) (AreAtMost most_atoms (IsPatternOf (language d) variable_count))
  pattern_atoms variable_count few =
      exact_as _ (list_item atom_item) _
      (list_exact (atom_at d variable_count true) atom_item (IsAtomFor d variable_count true) (atom_exact d (small_draft d sound) variable_count few true) atom_starts
      most_atoms (omega arith)) (AreAtMost most_atoms (IsPatternOf (language d) variable_count))
      (each_at (IsAtomFor d variable_count true) (IsPatternOf (language d) variable_count) (pattern_atom_there d variable_count) most_atoms)
      (each_at (IsPatternOf (language d) variable_count) (IsAtomFor d variable_count true) (pattern_atom_back d variable_count) most_atoms)

  -- ---- the items of lines

  abbrev pub IsClauseLine : Clause → Type 0
  IsClauseLine c = IsAxiomOf (language d) c × HasClauseLength c.lits × HasObjectFor d c.variable_count

  abbrev IsClauseRead : Clause → Type 0
  IsClauseRead c =
      ((c.variable_count ≤ most_formula_variables) × AreAtMost most_literals (λ (lit : Lit). IsAtomFor d c.variable_count false lit.atom) c.lits)
      × ((nat_le 1 (length c.lits) && has_object d c.variable_count) ≡ true)

  clause_there : (c : Clause) → IsClauseRead c → IsClauseLine c
  clause_there c is =
      let both = and_parts (nat_le 1 (length c.lits)) (has_object d c.variable_count) is.1 in (
        record { variable_count = is.0.0; lits = λ k e below. atom_there d c.variable_count _ (is.0.1.1 k e below) },
        (leb-true 1 (length c.lits) both.0, is.0.1.0),
        object_there d c.variable_count both.1,
      )

  clause_back : (c : Clause) → IsClauseLine c → IsClauseRead c
  clause_back c is = (
    (is.0.variable_count, (is.1.1, λ k e below. atom_back d c.variable_count _ (is.0.lits k e below))),
    ap (λ t. t && has_object d c.variable_count) (le-leb 1 (length c.lits) is.1.0) ∙ object_back d c.variable_count is.2,
  )

  pub clause_exact : IsExact (clause_items d) (λ c. number_item c.variable_count ++ list_item literal_item c.lits) IsClauseLine
  unfolding clause_items
  clause_exact =
      exact_as _ (λ c. number_item c.variable_count ++ list_item literal_item c.lits) _
      (passing_exact _ (λ c. number_item c.variable_count ++ list_item literal_item c.lits) _
      (as_exact _ _ _
      (pair_exact (number_at (most_formula_variables + 1)) number_item (λ n. n ≤ most_formula_variables)
      (count_exact most_formula_variables (omega arith)) (λ variable_count. list_at (literal_at d variable_count) most_literals)
      (λ variable_count. list_item literal_item) (λ variable_count. AreAtMost most_literals (λ (lit : Lit). IsAtomFor d variable_count false lit.atom))
      (λ variable_count below. list_exact (literal_at d variable_count) literal_item _ (literal_exact d (small_draft d sound) variable_count (omega (arith, below)))
      literal_starts most_literals (omega arith)) (λ variable_count. record { starts = λ xs rest stop. refl })) clause_of_parts
      (λ c. (c.variable_count, c.lits)) (λ parts is. refl) (λ c. refl)) (λ c. nat_le 1 (length c.lits) && has_object d c.variable_count)) IsClauseLine
      clause_there clause_back

  pub operator_exact : IsExact (operator_items d) (list_item number_item)
      (λ sorts. AreSorts most_parameters sorts × HasObjectFor d (length sorts))
  unfolding operator_items
  operator_exact =
      exact_as _ (list_item number_item) _
      (passing_exact _ (list_item number_item) _ (numbers_exact most_parameters greatest_sort (omega arith) (omega arith))
      (λ sorts. has_object d (length sorts))) (λ sorts. AreSorts most_parameters sorts × HasObjectFor d (length sorts))
      (λ sorts is. (is.0, object_there d (length sorts) is.1)) (λ sorts is. (is.0, object_back d (length sorts) is.1))

  pub goal_exact : IsExact (goal_items d) (λ p. number_item p.0 ++ list_item atom_item p.1)
      (λ p. (p.0 ≤ most_formula_variables) × AreAtMost most_atoms (IsTableAtom (language d)) p.1)
  unfolding goal_items
  goal_exact =
      pair_exact (number_at (most_formula_variables + 1)) number_item (λ n. n ≤ most_formula_variables)
      (count_exact most_formula_variables (omega arith)) (λ variable_count. atoms_at d table_variables true) (λ variable_count. list_item atom_item)
      (λ variable_count. AreAtMost most_atoms (IsTableAtom (language d))) (λ variable_count below. pattern_atoms table_variables (omega arith))
      (λ variable_count. record { starts = λ xs rest stop. refl })

  pub step_exact : IsExact (step_items d) (λ inst. number_item inst.op ++ flat_map term_item inst.args) (IsTableStep (language d) d.schemas)
  unfolding step_items
  step_exact =
      let small = small_draft d sound in
      exact_as _ (λ inst. number_item inst.op ++ flat_map term_item inst.args) _
      (as_exact _ _ _
      (pair_exact (number_at (length d.schemas)) number_item (λ n. n < length d.schemas) (number_exact (length d.schemas) small.schemas)
      (λ op. terms_at d (slice_index_or d.schemas op no_schema).params) (λ op. flat_map term_item)
      (λ op. AreTermsRead d small (slice_index_or d.schemas op no_schema).params)
      (λ op below. terms_exact d small (slice_index_or d.schemas op no_schema).params) (λ op. terms_start d small)) inst_of_parts
      (λ inst. (inst.op, inst.args)) (λ parts is. refl) (λ inst. refl)) (IsTableStep (language d) d.schemas)
      (λ inst is. (is.0, is.1.0, terms_there d small inst.args is.1.1)) (λ inst is. (is.0, (is.1, terms_back d small inst.args is.2)))

-- ---- the first line

heading_word : IsExact {A = Bool} (λ rest. Some (true, rest)) (λ b. []) (λ b. b ≡ true)
heading_word = record {
  takes = λ bytes x rest e.
      let same = same_Some (true, bytes) (x, rest) e in
      (ap (λ (q : Bool × List ℕ). q.1) same, sym (ap (λ (q : Bool × List ℕ). q.0) same));
  again = λ x rest is stop. ap (λ (b : Bool). Some (b, rest)) (sym is);
}

heading_exact : IsExact heading_items (λ b. codes " certificate 1") (λ b. b ≡ true)
heading_exact = behind_exact (λ rest. Some (true, rest)) (λ b. []) (λ b. b ≡ true) heading_word (codes " certificate 1")

-- ---- the line that is due

-- The line that is read is written so and may come next; a line that may come next is read.
pub record IsDueRead (d : Draft) (what : Due) : Type 0 where
  pub takes : (bytes : List ℕ) (line : Line) (rest : List ℕ) → due_line_at d what bytes ≡ Some (line, rest)
      → (bytes ≡ line_bytes line ++ rest) × IsDue d what line
  pub again : (line : Line) (rest : List ℕ) → IsDue d what line → due_line_at d what (line_bytes line ++ rest) ≡ Some (line, rest)

module _ {A : Type 0} (items : Reader A) (text : A → List ℕ) (Is : A → Type 0) (exact : IsExact items text Is) (word : List ℕ) (form : A → Line)
    (here : (x : A) → line_bytes (form x) ≡ line_of_items word (text x)) where
  -- what such a line says
  abbrev IsSaid : Line → Type 0
  IsSaid line = (x : A) × (line ≡ form x) × Is x

  due_read : (d : Draft) (what : Due) → ((bytes : List ℕ) → due_line_at d what bytes ≡ as_line form (line_of word items bytes))
      → ((line : Line) → IsDue d what line → IsSaid line) → ((line : Line) → IsSaid line → IsDue d what line) → IsDueRead d what
  due_read d what reads there back =
      let whole = line_exact items text Is exact word in
      record {
        takes = λ bytes line rest e.
            let t = line_taken (line_of word items) (λ x. line_of_items word (text x)) Is whole form here IsSaid (λ x is. (x, refl, is)) bytes
            line rest (sym (reads bytes) ∙ e) in
            (t.0, back line t.1);
        again = λ line rest is.
            let said = there line is in
            subst (λ (l : Line). due_line_at d what (line_bytes l ++ rest) ≡ Some (l, rest)) (sym said.1)
            (reads (line_bytes (form said.0) ++ rest)
            ∙ line_again (line_of word items) (λ x. line_of_items word (text x)) Is whole form here said.0 rest said.2);
      }

module _ (d : Draft) (sound : IsSound d) where
  pub due_reads : (what : Due) → IsOpenSchema d what → IsDueRead d what
  unfolding due_line_at
  due_reads due.Heading so_far =
      due_read heading_items (λ b. codes " certificate 1") (λ b. b ≡ true) heading_exact (codes "planex") (λ b. heading) (λ x. refl) d
      due.Heading (λ bytes. refl) (λ line is. (true, is, refl)) (λ line is. is.1)
  due_reads due.Objects so_far =
      due_read (sorts_at most_objects) (list_item number_item) (AreSorts most_objects)
      (numbers_exact most_objects greatest_sort (omega arith) (omega arith)) (codes "objects") objects (λ x. refl) d due.Objects
      (λ bytes. refl) (λ line is. is) (λ line is. is)
  due_reads due.Predicates so_far =
      due_read (list_at (number_at (most_arguments + 1)) most_predicates) (list_item number_item)
      (AreAtMost most_predicates (λ arity. arity ≤ most_arguments))
      (numbers_exact most_predicates most_arguments (omega arith) (omega arith)) (codes "predicates") predicates (λ x. refl) d due.Predicates
      (λ bytes. refl) (λ line is. is) (λ line is. is)
  due_reads due.Axioms so_far =
      due_read (number_at (most_clauses + 1)) number_item (λ n. n ≤ most_clauses) (count_exact most_clauses (omega arith)) (codes "axioms")
      axioms (λ x. refl) d due.Axioms (λ bytes. refl) (λ line is. is) (λ line is. is)
  due_reads (due.Axiom more) so_far =
      due_read (clause_items d) (λ c. number_item c.variable_count ++ list_item literal_item c.lits) (IsClauseLine d sound) (clause_exact d sound)
      (codes "axiom") clause (λ x. refl) d (due.Axiom more) (λ bytes. refl) (λ line is. is) (λ line is. is)
  due_reads due.Operators so_far =
      due_read (number_at (most_operators + 1)) number_item (λ n. n ≤ most_operators) (count_exact most_operators (omega arith))
      (codes "operators") operators (λ x. refl) d due.Operators (λ bytes. refl) (λ line is. is) (λ line is. is)
  due_reads (due.Operator more) so_far =
      due_read (operator_items d) (list_item number_item) (λ sorts. AreSorts most_parameters sorts × HasObjectFor d (length sorts))
      (operator_exact d sound) (codes "operator") operator (λ x. refl) d (due.Operator more) (λ bytes. refl) (λ line is. is) (λ line is. is)
  due_reads (due.Pre more) so_far =
      let few = so_far.0.params in
      due_read (atoms_at d d.schema.params false) (list_item atom_item) (AreAtMost most_atoms (IsAtomOf (language d) d.schema.params))
      (plain_atoms d sound d.schema.params (omega (arith, few))) (codes "pre") pre (λ x. refl) d (due.Pre more) (λ bytes. refl)
      (λ line is. is) (λ line is. is)
  due_reads (due.Delete more) so_far =
      let few = so_far.0.params in
      due_read (atoms_at d d.schema.params true) (list_item atom_item) (AreAtMost most_atoms (IsPatternOf (language d) d.schema.params))
      (pattern_atoms d sound d.schema.params (omega (arith, few))) (codes "delete") delete (λ x. refl) d (due.Delete more) (λ bytes. refl)
      (λ line is. is) (λ line is. is)
  due_reads (due.Add more) so_far =
      let few = so_far.0.params in
      due_read (atoms_at d d.schema.params false) (list_item atom_item) (AreAtMost most_atoms (IsAtomOf (language d) d.schema.params))
      (plain_atoms d sound d.schema.params (omega (arith, few))) (codes "add") add (λ x. refl) d (due.Add more) (λ bytes. refl)
      (λ line is. is) (λ line is. is)
  due_reads due.Table so_far =
      due_read (sorts_at most_table_parameters) (list_item number_item) (AreSorts most_table_parameters)
      (numbers_exact most_table_parameters greatest_sort (omega arith) (omega arith)) (codes "table") table (λ x. refl) d due.Table (λ bytes. refl)
      (λ line is. is) (λ line is. is)
  due_reads due.Goal so_far =
      due_read (goal_items d) (λ p. number_item p.0 ++ list_item atom_item p.1)
      (λ p. (p.0 ≤ most_formula_variables) × AreAtMost most_atoms (IsTableAtom (language d)) p.1) (goal_exact d sound) (codes "goal")
      (λ p. goal p.0 p.1) (λ x. refl) d due.Goal (λ bytes. refl) (λ line is. ((is.0, is.1), is.2, is.3))
      (λ line is. (is.0.0, is.0.1, is.1, is.2))
  due_reads due.Steps so_far =
      due_read (number_at (most_steps + 1)) number_item (λ n. n ≤ most_steps) (count_exact most_steps (omega arith))
      (codes "steps") steps (λ x. refl) d due.Steps (λ bytes. refl) (λ line is. is) (λ line is. is)
  due_reads (due.Step more rows) so_far =
      due_read (step_items d) (λ inst. number_item inst.op ++ flat_map term_item inst.args) (IsTableStep (language d) d.schemas) (step_exact d sound)
      (codes "step") action (λ x. refl) d (due.Step more rows) (λ bytes. refl) (λ line is. is) (λ line is. is)
  due_reads (due.Row more) so_far =
      due_read (row_items d) (list_item proof_item) (AreAtMost most_atoms (IsRowProof (language d) d.axioms)) (row_exact d (small_draft d sound)) (codes "row") row
      (λ x. refl) d (due.Row more) (λ bytes. refl) (λ line is. is) (λ line is. is)
  due_reads due.Nothing so_far = record { takes = λ bytes line rest e. let no : None ≡ Some (line, rest) = e in absurd (cc); again = λ line rest is. absurd is }
