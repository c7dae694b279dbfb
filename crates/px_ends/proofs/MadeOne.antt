-- A list of moves has at most one table.
use Rattle.std.specs.Prelude.{◌≡◌, ◌⊎◌, ◌<◌, ℕ, not, Some, List, [], ◌∷◌, ◌++◌, map, filter, length, slice_get, All, Contains}
use Rattle.std.proofs.Common.{refl, sym, ap, ◌∙◌, subst, inl, inr, arith}
use Rattle.std.proofs.lemmas.List.Elements.{All-head, All-tail}
use Rattle.std.specs.List.{AllZip}
use Rattle.px_terms.specs.declared.atom.Atom.{Atom}
use Rattle.px_terms.specs.declared.instance.OpInst.{OpInst}
use Rattle.px_terms.specs.declared.problem.Problem.{Problem}
use Rattle.px_terms.specs.declared.term.Term.TheVariants.{Obj}
use Rattle.px_terms.specs.Operators.{adds, deletes, precondition}
use Rattle.px_proof.specs.declared.proof.Leaf.{Leaf}
use Rattle.px_proof.specs.declared.proof.Proof.{Proof}
use Rattle.px_proof.specs.Derivation.{Derivation, Derivations, none, also, derivations, fact, leaf_atoms, leaves_of}
use Rattle.px_proof.specs.Grafting.{first_leaves, grafted}
use Rattle.px_proof.specs.LayerLaws.{derivations_tell_proofs}
use Rattle.px_base.specs.Answers.{some_same}
use Rattle.px_proof.specs.ProofTerm.{derivation_of}
use Rattle.px_proof.specs.Substitution.{derivation_under}
use Rattle.px_question.specs.Settings.{setting_of}
use Rattle.px_question.proofs.FirstLaws.{first-is_one}
use Rattle.px_table.specs.declared.entry.Entry.{Entry}
use Rattle.px_table.specs.declared.entry.Entry.TheVariants.{Op, Macro}
use Rattle.px_table.specs.declared.entry.Move.{Move}
use Rattle.px_table.specs.declared.entry.Move.TheVariants.{Apply, Push}
use Rattle.px_table.specs.declared.node.Node.{Node}
use Rattle.px_table.specs.declared.table.Table.{Table}
use Rattle.px_table.specs.Marks.{marks_from, step_at}
use Rattle.px_table.specs.Tables.{rows_of}
use Rattle.px_entries.specs.Entries.{effect_of, table_at}
use Rattle.px_ends.specs.Determined.{TablesAreOne}
use Rattle.px_ends.specs.Made.{EntryRows, IsFirstRow, IsGraft, IsPart, IsSource, IsSourced, MacroRows, MovesRows, TopRows, top_steps}
use Rattle.px_ends.specs.Tasks.{Task, after, initial_node}
use Rattle.px_order.specs.Places.{contains_place, order_of}

-- ---- lists

cons_same : {A : Type 0} (x y : A) (xs ys : List A) → x ∷ xs ≡ y ∷ ys → (x ≡ y) × (xs ≡ ys)
cons_same x y xs ys e = (cc, cc)

-- where each item determines what is beside it, a list determines the other
zip-one : {A B : Type 0} (R : A → B → Type 0) → ((a : A) (b c : B) → R a b → R a c → b ≡ c) → (xs : List A) (bs cs : List B)
    → AllZip R xs bs → AllZip R xs cs → bs ≡ cs
zip-one R one [] [] [] p q = refl
zip-one R one [] [] (c ∷ cs) p q = absurd q
zip-one R one [] (b ∷ bs) cs p q = absurd p
zip-one R one (a ∷ xs) [] cs p q = absurd p
zip-one R one (a ∷ xs) (b ∷ bs) [] p q = absurd q
zip-one R one (a ∷ xs) (b ∷ bs) (c ∷ cs) p q =
    let head = one a b c p.0 q.0 in
    let rest = zip-one R one xs bs cs p.1 q.1 in
    λ i. head i ∷ rest i

maps-one : {A B : Type 0} (f : A → B) → ((x y : A) → f x ≡ f y → x ≡ y) → (xs ys : List A) → map f xs ≡ map f ys → xs ≡ ys
maps-one f one [] [] same = refl
maps-one f one [] (y ∷ ys) same = absurd (cc)
maps-one f one (x ∷ xs) [] same = absurd (cc)
maps-one f one (x ∷ xs) (y ∷ ys) same =
    let both = cons_same (f x) (f y) (map f xs) (map f ys) same in
    let head = one x y both.0 in
    let rest = maps-one f one xs ys both.1 in
    λ i. head i ∷ rest i

derivations-one : (ds es : List Derivation) → derivations ds ≡ derivations es → ds ≡ es
derivations-one [] [] same = refl
derivations-one [] (e ∷ es) same = absurd (cc)
derivations-one (d ∷ ds) [] same = absurd (cc)
derivations-one (d ∷ ds) (e ∷ es) same =
    let both = also_same d e (derivations ds) (derivations es) same in
    let rest = derivations-one ds es both.1 in
    λ i. both.0 i ∷ rest i
  where
    also_same : (d e : Derivation) (ds es : Derivations) → also d ds ≡ also e es → (d ≡ e) × (ds ≡ es)
    also_same d e ds es same = (cc, cc)

-- ---- where a fact comes from

module _ (problem : Problem) (made : List OpInst) where
  -- no step after the one named adds the atom
  not_later : (leaf other : Leaf) → leaf.atom ≡ other.atom → IsSource problem made leaf → IsSource problem made other
      → ¬ (leaf.column < other.column)
  not_later leaf other same is is_other less =
      let add = is_other.adder (omega (arith, less)) in
      is.last other.column add.0 less add.1 (subst (Contains (adds problem add.0)) (sym same)
      (contains_place (adds problem add.0) other.index other.atom add.2))

  same_column : (leaf other : Leaf) → leaf.atom ≡ other.atom → IsSource problem made leaf → IsSource problem made other
      → leaf.column ≡ other.column
  same_column leaf other same is is_other = elim (order_of leaf.column other.column) [
    | inl less ↦ absurd (not_later leaf other same is is_other less)
    | inr more ↦ elim (order_of other.column leaf.column) [
      | inl less ↦ absurd (not_later other leaf (sym same) is_other is less)
      | inr less ↦ omega (arith, more, less)
    ]
  ]

  -- an earlier place of the atom would be the first
  not_before : (leaf other : Leaf) → leaf.atom ≡ other.atom → leaf.column ≡ other.column → 0 < leaf.column → IsSource problem made leaf
      → IsSource problem made other → ¬ (leaf.index < other.index)
  not_before leaf other same column some is is_other less =
      let add = is.adder some in
      let other_add = is_other.adder (subst (λ (n : ℕ). 0 < n) column some) in
      let same_step : add.0 ≡ other_add.0 = some_same (sym add.1 ∙ ap (step_at made) column ∙ other_add.1) in
      other_add.3 leaf.index less (ap (λ (inst : OpInst). slice_get (adds problem inst) leaf.index) (sym same_step) ∙ add.2 ∙ ap Some same)

  same_index : (leaf other : Leaf) → leaf.atom ≡ other.atom → leaf.column ≡ other.column → IsSource problem made leaf
      → IsSource problem made other → leaf.index ≡ other.index
  same_index leaf other same column is is_other = elim (zero_or_more leaf.column) [
    | inl first ↦ is.initial first ∙ sym (is_other.initial (sym column ∙ first))
    | inr some ↦ elim (order_of leaf.index other.index) [
      | inl less ↦ absurd (not_before leaf other same column some is is_other less)
      | inr more ↦ elim (order_of other.index leaf.index) [
        | inl less ↦ absurd (not_before other leaf (sym same) (sym column) (subst (λ (n : ℕ). 0 < n) column some) is_other is less)
        | inr less ↦ omega (arith, more, less)
      ]
    ]
  ]
    where
      zero_or_more : (n : ℕ) → (n ≡ 0) ⊎ (0 < n)
      zero_or_more n = grind arith

  source-one : (leaf other : Leaf) → leaf.atom ≡ other.atom → IsSource problem made leaf → IsSource problem made other → leaf ≡ other
  source-one leaf other same is is_other =
      let column = same_column leaf other same is is_other in
      let index = same_index leaf other same column is is_other in
      λ i. record { column = column i; index = index i; atom = same i }

  sources-one : (leaves others : List Leaf) → leaf_atoms leaves ≡ leaf_atoms others → All (IsSource problem made) leaves
      → All (IsSource problem made) others → leaves ≡ others
  sources-one [] [] same is is_other = refl
  sources-one [] (o ∷ others) same is is_other = absurd (cc)
  sources-one (l ∷ leaves) [] same is is_other = absurd (cc)
  sources-one (l ∷ leaves) (o ∷ others) same is is_other =
      let both = cons_same l.atom o.atom (leaf_atoms leaves) (leaf_atoms others) same in
      let head =
      source-one l o both.0 (All-head (IsSource problem made) l leaves is) (All-head (IsSource problem made) o others is_other) in
      let rest =
      sources-one leaves others both.1 (All-tail (IsSource problem made) l leaves is)
      (All-tail (IsSource problem made) o others is_other) in
      λ i. head i ∷ rest i

  sourced-one : (d e f : Derivation) → IsSourced problem made d e → IsSourced problem made d f → e ≡ f
  sourced-one d e f is is_other =
      let leaves = sources-one is.0 is_other.0 (is.1 ∙ sym is_other.1) is.2 is_other.2 in
      is.3 ∙ ap (λ (ls : List Leaf). grafted 0 (map (λ (leaf : Leaf). fact leaf) ls) d) leaves ∙ sym is_other.3

  -- ---- rows

  first_row-one : (facts formula : List Atom) (variable_count : ℕ) (row other : List Derivation) → IsFirstRow problem made facts formula variable_count row
      → IsFirstRow problem made facts formula variable_count other → row ≡ other
  first_row-one facts formula variable_count row other is is_other =
      let firsts =
      first-is_one (setting_of problem facts) formula variable_count is.0 is_other.0 (derivations is.1)
      (derivations is_other.1) is.2 is_other.2 in
      let same : is.1 ≡ is_other.1 = derivations-one is.1 is_other.1 firsts.1 in
      zip-one (IsSourced problem made) sourced-one is_other.1 row other
      (subst (λ (ds : List Derivation). AllZip (IsSourced problem made) ds row) same is.3) is_other.3

  part-one : (facts : List Atom) (leaf : Leaf) (part other : Derivation) → IsPart problem made facts leaf part
      → IsPart problem made facts leaf other → part ≡ other
  part-one facts leaf part other is is_other =
      let firsts =
      first-is_one (setting_of problem facts) (leaf.atom ∷ []) 0 [] [] (also is.0 none) (also is_other.0 none) is.1 is_other.1 in
      let same : is.0 ≡ is_other.0 = also_first is.0 is_other.0 firsts.1 in
      sourced-one is_other.0 part other (subst (λ (d : Derivation). IsSourced problem made d part) same is.2) is_other.2
    where
      also_first : (d e : Derivation) → also d none ≡ also e none → d ≡ e
      also_first d e same = cc

  graft-one : (shift : ℕ) (facts : List Atom) (d e f : Derivation) → IsGraft problem shift made facts d e
      → IsGraft problem shift made facts d f → e ≡ f
  graft-one shift facts d e f is is_other =
      let parts = zip-one (IsPart problem made facts) (part-one facts) (first_leaves (leaves_of d)) is.0 is_other.0 is.1 is_other.1 in
      is.2 ∙ ap (λ (ps : List Derivation). grafted shift ps d) parts ∙ sym is_other.2

macro_rows-one : (problem : Problem) (sigma : List ℕ) (shift : ℕ) (made : List OpInst) (facts : List Atom) (rows : List (List Derivation))
    (steps : List OpInst) (new other : List (List Derivation))
    → MacroRows problem sigma shift made facts rows steps new → MacroRows problem sigma shift made facts rows steps other → new ≡ other
macro_rows-one problem sigma shift made facts rows [] new other is is_other = is ∙ sym is_other
macro_rows-one problem sigma shift made facts [] (step ∷ steps) new other is is_other = absurd is
macro_rows-one problem sigma shift made facts (row ∷ rows) (step ∷ steps) [] other is is_other = absurd is
macro_rows-one problem sigma shift made facts (row ∷ rows) (step ∷ steps) (first ∷ new) [] is is_other = absurd is_other
macro_rows-one problem sigma shift made facts (row ∷ rows) (step ∷ steps) (first ∷ new) (second ∷ other) is is_other =
    let head =
    zip-one (IsGraft problem shift made facts) (graft-one problem made shift facts)
    (map (derivation_under (map Obj sigma)) row) first second is.0 is_other.0 in
    let rest =
    macro_rows-one problem sigma shift (made ++ step ∷ [])
    (filter (λ atom. not (deletes problem step atom)) facts) rows steps new other is.1 is_other.1 in
    λ i. head i ∷ rest i

entry_rows-one : (problem : Problem) (tables : List Table) (model : List Atom) (made : List OpInst) (entry : Entry)
    (rows others : List (List Derivation))
    → EntryRows problem tables model made entry rows → EntryRows problem tables model made entry others → rows ≡ others
entry_rows-one problem tables model made (Op inst) rows others is is_other =
    is.2 ∙ ap (λ (row : List Derivation). row ∷ [])
    (first_row-one problem made model (precondition problem inst) 0 is.0 is_other.0 is.1 is_other.1) ∙ sym is_other.2
entry_rows-one problem tables model made (Macro number prefix sigma) rows others is is_other =
    macro_rows-one problem sigma (length made) made model (rows_of (table_at tables number).proofs)
    (effect_of tables (Macro number prefix sigma)) rows others is is_other

top_rows-one : (problem : Problem) (tables : List Table) (model : List Atom) (made : List OpInst) (stack : List Entry)
    (rows others : List (List Derivation))
    → TopRows problem tables model made stack rows → TopRows problem tables model made stack others → rows ≡ others
top_rows-one problem tables model made [] rows others is is_other = absurd is
top_rows-one problem tables model made (entry ∷ below) rows others is is_other =
    entry_rows-one problem tables model made entry rows others is is_other

moves_rows-one : (task : Task) (node : Node) (made : List OpInst) (moves : List Move) (rows others : List (List Derivation))
    → MovesRows task node made moves rows → MovesRows task node made moves others → rows ≡ others
moves_rows-one task node made [] rows others is is_other =
    is.2 ∙ ap (λ (row : List Derivation). row ∷ [])
    (first_row-one task.problem made node.model task.goal task.variable_count is.0 is_other.0 is.1 is_other.1) ∙ sym is_other.2
moves_rows-one task node made (Push entry ∷ moves) rows others is is_other =
    moves_rows-one task (after task node (Push entry)) made moves rows others is is_other
moves_rows-one task node made (Apply ∷ moves) rows others is is_other =
    let first = top_rows-one task.problem task.tables node.model made node.stack is.0 is_other.0 is.2 is_other.2 in
    let rest =
    moves_rows-one task (after task node Apply) (made ++ top_steps task.tables node.stack) moves is.1 is_other.1 is.3 is_other.3 in
    is.4 ∙ (λ i. first i ++ rest i) ∙ sym is_other.4

-- ---- tables

proofs-one : (rows others : List (List Proof)) → rows_of rows ≡ rows_of others → rows ≡ others
proofs-one rows others same =
    maps-one (map derivation_of) (λ row other e. maps-one derivation_of derivations_tell_proofs row other e) rows others same

pub tables_are_one : TablesAreOne
tables_are_one task moves one other is is_other =
    let rows = moves_rows-one task (initial_node task) [] moves (rows_of one.proofs) (rows_of other.proofs) is.rows is_other.rows in
    let params = is.params ∙ sym is_other.params in
    let steps = is.steps ∙ sym is_other.steps in
    let goal = is.goal ∙ sym is_other.goal in
    let goal_variable_count = is.goal_variable_count ∙ sym is_other.goal_variable_count in
    let marks = is.marks ∙ ap (marks_from 1) rows ∙ sym is_other.marks in
    let proofs = proofs-one one.proofs other.proofs rows in
    let sorts = is.param_sorts ∙ sym is_other.param_sorts in
    λ i. record {
      params = params i;
      steps = steps i;
      goal = goal i;
      goal_variable_count = goal_variable_count i;
      marks = marks i;
      proofs = proofs i;
      param_sorts = sorts i;
    }
