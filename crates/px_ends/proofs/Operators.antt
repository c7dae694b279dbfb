-- What small searches over operators come to: none is open, or one leads to the goal.
use Rattle.std.specs.Prelude.{◌≡◌, ◌⊎◌, ◌<◌, ◌≤◌, ℕ, false, List, [], ◌∷◌, length, flat_map, Any, Contains}
use Rattle.std.proofs.Common.{zero, suc, refl, sym, ap, subst, inl, inr, arith}
use Rattle.std.proofs.lemmas.List.Elements.{All-from_recursion, All-nil}
use Rattle.std.proofs.lemmas.List.Kept.{AllPairs-cons}
use Rattle.px_base.specs.Sets.{set_of, with_item}
use Rattle.px_base.specs.ListLaws.{Contains-cases, Contains-first, Contains-later, Contains-none, Contains-one}
use Rattle.px_terms.specs.declared.atom.Atom.{Atom}
use Rattle.px_terms.specs.declared.clause.Lit.{Lit}
use Rattle.px_terms.specs.declared.instance.OpInst.{OpInst}
use Rattle.px_terms.specs.declared.problem.Schema.{Schema}
use Rattle.px_terms.specs.declared.term.Term.{Term}
use Rattle.px_terms.specs.Operators.{deletes, precondition, schema_of}
use Rattle.px_terms.specs.MergedNamesLaws.{one}
use Rattle.px_terms.specs.Validity.{IsTermOf}
use Rattle.px_proof.specs.declared.shape.Tick.{Tick}
use Rattle.px_proof.specs.Derivation.{fact, ancestor, step, gap, open_place, none, also}
use Rattle.px_question.specs.Settings.{added_by}
use Rattle.px_table.specs.declared.entry.Entry.{Entry}
use Rattle.px_table.specs.declared.entry.Entry.TheVariants.{Op, Macro}
use Rattle.px_table.specs.declared.entry.Move.{Move}
use Rattle.px_table.specs.declared.entry.Move.TheVariants.{Apply, Push}
use Rattle.px_table.specs.declared.node.Node.{Node}
use Rattle.px_entries.specs.Entries.{IsEntry, obligations_of}
use Rattle.px_gaps.specs.Needs.{HasAnswer, HasGap, IsOpen}
use Rattle.px_gaps.specs.Questions.{AsksOf, MeetsLimit}
use Rattle.px_gaps.specs.declared.question.Obligation.{Obligation}
use Rattle.px_gaps.specs.declared.question.Question.{Question}
use Rattle.px_ends.specs.Ends.{AreMoves, IsExhausted, IsFound, IsLeastList, IsNodeLimit, IsStop, IsUnlimited, node_of}
use Rattle.px_ends.specs.Moves.{CanMake}
use Rattle.px_ends.specs.Order.{IsBefore}
use Rattle.px_ends.specs.Tasks.{AsksAt, IsAllowed, IsRelevantAt, IsSolved, Task, after, needs_at}
use Rattle.px_ends.specs.WorkedEnds.{EndFacts, bare, make, maker, p, p_from_none, plain_problem, q, stuck}
use Rattle.px_ends.proofs.MoveLaws.{order}
use Rattle.px_ends.proofs.Smallest.{IsSmall, begins, needed_from, no_proof, nothing_to_reach, p_leaf, p_proof, proving_below, small_below, table_there, there}

-- ---- what is asked

-- each operator needs at most one atom
abbrev pub NeedLittle : List Schema → Type 0
NeedLittle schemas = (nodes : ℕ) (inst : OpInst) → IsSmall (precondition (plain_problem schemas nodes) inst)

-- no stack, or an operator on top
abbrev pub IsPlainStack : List Entry → Type 0
IsPlainStack [] = Unit {0}
IsPlainStack (Op inst ∷ below) = Unit {0}
IsPlainStack (Macro number prefix sigma ∷ below) = ⊥

entry_below : (schemas : List Schema) (nodes : ℕ) → NeedLittle schemas → (model : List Atom) (entry : Entry) (question : Question)
    → IsEntry (plain_problem schemas nodes) [] entry
    → AsksOf (plain_problem schemas nodes) (obligations_of (plain_problem schemas nodes) [] model entry) question → (formula : List Atom)
    (shapes : List (List Tick)) → ¬ MeetsLimit (plain_problem schemas nodes) question formula shapes
entry_below schemas nodes little model (Op inst) question is =
    small_below schemas nodes model (precondition (plain_problem schemas nodes) inst) (little nodes inst) question
entry_below schemas nodes little model (Macro number prefix sigma) question is = let at = is.1 in absurd (cc)

-- what the node needs is asked about
pub needs_below : (schemas : List Schema) (nodes : ℕ) → NeedLittle schemas → (model : List Atom) (stack : List Entry) → IsPlainStack stack
    → (question : Question) → AsksAt (p_from_none schemas nodes) (record { model = model; stack = stack }) question → (formula : List Atom)
    (shapes : List (List Tick)) → ¬ MeetsLimit (plain_problem schemas nodes) question formula shapes
needs_below schemas nodes little model stack plain question (inr (entry, relevant, asks)) =
    entry_below schemas nodes little model entry question relevant.is_entry asks
needs_below schemas nodes little model [] plain question (inl asks) = small_below schemas nodes model (p ∷ []) tt question asks
needs_below schemas nodes little model (Op inst ∷ below) plain question (inl asks) =
    small_below schemas nodes model (precondition (plain_problem schemas nodes) inst) (little nodes inst) question asks
needs_below schemas nodes little model (Macro number prefix sigma ∷ below) plain question (inl asks) = absurd plain

unlimited : (schemas : List Schema) (nodes : ℕ) → NeedLittle schemas
    → ((moves : List Move) → AreMoves (p_from_none schemas nodes) moves → IsPlainStack (node_of (p_from_none schemas nodes) moves).stack)
    → IsUnlimited (p_from_none schemas nodes)
unlimited schemas nodes little plain moves question formula shapes (inl (gone, asks)) met =
    let node : Node = node_of (p_from_none schemas nodes) moves in
    needs_below schemas nodes little node.model node.stack (plain moves gone.least.made) question asks formula shapes met
unlimited schemas nodes little plain moves question formula shapes (inr (tested, is)) met =
    proving_below schemas nodes (node_of (p_from_none schemas nodes) moves).model (p ∷ []) tt formula shapes
    (subst (λ (q : Question). MeetsLimit (plain_problem schemas nodes) q formula shapes) is met)

-- ---- where nothing is pushed

exhausted_at_once : (schemas : List Schema) → NeedLittle schemas
    → ((moves : List Move) → AreMoves (p_from_none schemas 1) moves → [] ≡ moves) → IsExhausted (p_from_none schemas 1)
exhausted_at_once schemas little only = record {
  unlimited =
      unlimited schemas 1 little
      (λ moves can. subst (λ (ms : List Move). IsPlainStack (node_of (p_from_none schemas 1) ms).stack) (only moves can) tt);
  lists = [] ∷ [];
  whole = record {
    beginning = begins (p_from_none schemas 1);
    every = λ moves least. subst (Contains ([] ∷ [])) (only moves least.made) (Contains-first [] []);
  };
  unsolved =
      λ moves can solved. not_solved (subst (λ (ms : List Move). IsSolved (p_from_none schemas 1) (node_of (p_from_none schemas 1) ms))
      (sym (only moves can)) solved);
  room = omega arith;
}
  where
    not_solved : ¬ IsSolved (p_from_none schemas 1) (bare [])
    not_solved solved = no_proof schemas 1 p solved.1

-- without operators
no_entry : (entry : Entry) → ¬ IsEntry (plain_problem [] 1) [] entry
no_entry (Op inst) is = let within = is.of.op in omega (arith, within)
no_entry (Macro number prefix sigma) is = let at = is.1 in cc

pub no_moves : (moves : List Move) → AreMoves (p_from_none [] 1) moves → [] ≡ moves
no_moves [] can = refl
no_moves (Apply ∷ moves) can = absurd (can.0.0 refl)
no_moves (Push entry ∷ moves) can = absurd (no_entry entry can.0.0.is_entry)

not_there : IsExhausted (p_from_none [] 1)
not_there = exhausted_at_once [] (λ nodes inst. tt) no_moves

-- ---- an operator that isn't open

-- the operators add P alone
abbrev AddOnlyP : List Schema → Type 0
AddOnlyP schemas = (pred : ℕ) → Contains (flat_map added_by schemas) pred → 0 ≡ pred

-- then Q, which isn't a fact, has no gap
no_gap : (schemas : List Schema) (nodes : ℕ) → AddOnlyP schemas → (atom : Atom)
    → ¬ HasGap (plain_problem schemas nodes) (needed_from [] (q ∷ [])) atom
no_gap schemas nodes only atom (unanswered, (objects, none, is, has)) = is.proved
no_gap schemas nodes only atom (unanswered, (objects, also d (also e ds), is, has)) = is.proved.1
no_gap schemas nodes only atom (unanswered, (objects, also (fact leaf) none, is, has)) = let at = is.proved.0.1.1 in cc
no_gap schemas nodes only atom (unanswered, (objects, also (ancestor i) none, is, has)) = let at = is.proved.0 in cc
no_gap schemas nodes only atom (unanswered, (objects, also (step number theta place parts) none, is, has)) =
    let at = is.proved.0.1.axiom_at in cc
no_gap schemas nodes only atom (unanswered, (objects, also (gap closed) none, is, has)) =
    let preds : 1 ≡ closed.pred = ap (λ (lit : Lit). lit.atom.pred) is.proved.0.0 in
    let added = only closed.pred is.proved.0.1.0 in
    omega (arith, preds, added)
no_gap schemas nodes only atom (unanswered, (objects, also open_place none, is, has)) = is.proved.0

stuck_closed : (schemas : List Schema) (nodes : ℕ) → AddOnlyP schemas
    → ¬ IsOpen (plain_problem schemas nodes) (needed_from [] (q ∷ []) ∷ [])
stuck_closed schemas nodes only is_open = elim (is_open 0 (needed_from [] []) (omega arith)) [
  | inl answered ↦ no_proof schemas nodes q answered
  | inr gap_of ↦ no_gap schemas nodes only gap_of.0 gap_of.1
]

pub little_stuck : NeedLittle (stuck ∷ [])
little_stuck nodes inst = little_of inst.op inst.args
  where
    little_of : (op : ℕ) (args : List Term)
        → IsSmall (precondition (plain_problem (stuck ∷ []) nodes) (record { op = op; args = args }))
    little_of zero args = tt
    little_of (suc op) args = tt

pub stuck_moves : (moves : List Move) → AreMoves (p_from_none (stuck ∷ []) 1) moves → [] ≡ moves
stuck_moves [] can = refl
stuck_moves (Apply ∷ moves) can = absurd (can.0.0 refl)
stuck_moves (Push (Op inst) ∷ moves) can = absurd (closed inst.op inst.args can.0.0.is_entry.of.op can.0.1)
  where
    only : AddOnlyP (stuck ∷ [])
    only pred has = Contains-one 0 pred has

    closed : (op : ℕ) (args : List Term) → op < 1
        → ¬ IsOpen (plain_problem (stuck ∷ []) 1)
        (obligations_of (plain_problem (stuck ∷ []) 1) [] [] (Op (record { op = op; args = args })))
    closed zero args within = stuck_closed (stuck ∷ []) 1 only
    closed (suc op) args within = absurd (omega (arith, within))
stuck_moves (Push (Macro number prefix sigma) ∷ moves) can = let at = can.0.0.is_entry.1 in absurd (cc)

pub not_open : IsExhausted (p_from_none (stuck ∷ []) 1)
not_open = exhausted_at_once (stuck ∷ []) little_stuck stuck_moves

-- ---- an operator that leads to the goal, beside one that isn't open

abbrev pub two : List Schema
two = stuck ∷ maker ∷ []

abbrev pub to_p : ℕ → Task
to_p nodes = p_from_none two nodes

abbrev pub pushed : List Move
pushed = Push make ∷ []

abbrev pub pushed_and_applied : List Move
pushed_and_applied = Push make ∷ Apply ∷ []

abbrev pub three : List (List Move)
three = [] ∷ pushed ∷ pushed_and_applied ∷ []

only_p : AddOnlyP two
only_p pred has = elim (Contains-cases 0 (0 ∷ []) pred has) [ inl here ↦ here | inr later ↦ Contains-one 0 pred later ]

pub little : NeedLittle two
little nodes inst = little_of inst.op inst.args
  where
    little_of : (op : ℕ) (args : List Term) → IsSmall (precondition (plain_problem two nodes) (record { op = op; args = args }))
    little_of zero args = tt
    little_of (suc zero) args = tt
    little_of (suc (suc op)) args = tt

-- nothing else can be pushed first
pub only_make : (nodes : ℕ) (entry : Entry) → IsAllowed (to_p nodes) (bare []) (Push entry) → make ≡ entry
only_make nodes (Macro number prefix sigma) can = let at = can.0.is_entry.1 in absurd (cc)
only_make nodes (Op inst) can = of inst.op inst.args can.0.is_entry.of.op can.0.is_entry.of.count can.1
  where
    of : (op : ℕ) (args : List Term) → op < 2 → length args ≡ (schema_of (plain_problem two nodes) (record { op = op; args = args })).params
        → IsOpen (plain_problem two nodes) (obligations_of (plain_problem two nodes) [] [] (Op (record { op = op; args = args })))
        → make ≡ Op (record { op = op; args = args })
    of zero args within count is_open = absurd (stuck_closed two nodes only_p is_open)
    of (suc zero) [] within count is_open = refl
    of (suc zero) (arg ∷ args) within count is_open = absurd (omega (arith, count))
    of (suc (suc op)) args within count is_open = absurd (omega (arith, within))

nothing_missing : (nodes : ℕ) (atom : Atom) → ¬ HasGap (plain_problem two nodes) (needed_from [] []) atom
nothing_missing nodes atom missing =
    missing.0 ([], none, record { count = refl; below = All-nil (λ (n : ℕ). n < 0); proved = tt; low = omega arith })

goal_there : (nodes : ℕ) → HasAnswer (plain_problem two nodes) (needed_from (p ∷ []) (p ∷ []))
goal_there nodes = ([], also (fact p_leaf) none, p_proof two nodes)

-- nothing can be pushed later
no_push : (nodes : ℕ) (facts formula : List Atom) (stack : List Entry) (entry : Entry)
    → ((atom : Atom) → ¬ HasGap (plain_problem two nodes) (needed_from facts formula) atom)
    → needs_at (to_p nodes) (record { model = facts; stack = stack }) ≡ needed_from facts formula ∷ []
    → ¬ IsRelevantAt (to_p nodes) (record { model = facts; stack = stack }) entry
no_push nodes facts formula stack entry none_missing needs relevant =
    one_gap (subst (λ (needs : List Obligation). Any (λ needed. HasGap (plain_problem two nodes) needed relevant.gap) needs) needs
    relevant.is_gap.1)
  where
    one_gap : ¬ Any (λ needed. HasGap (plain_problem two nodes) needed relevant.gap) (needed_from facts formula ∷ [])
    one_gap (zero, needed, within, is, missing) =
        none_missing relevant.gap (subst (λ (needed : Obligation). HasGap (plain_problem two nodes) needed relevant.gap) (sym is) missing)
    one_gap (suc k, needed, within, is, missing) = omega (arith, within)

-- ---- the three lists of moves

after_push : (nodes : ℕ) (moves : List Move) → CanMake (IsAllowed (to_p nodes)) (after (to_p nodes)) (bare (make ∷ [])) moves
    → Contains three (Push make ∷ moves)
unfolding set_of with_item
after_push nodes [] can = Contains-later [] (pushed ∷ pushed_and_applied ∷ []) pushed (Contains-first pushed (pushed_and_applied ∷ []))
after_push nodes (Push entry ∷ moves) can =
    absurd (no_push nodes [] [] (make ∷ []) entry (nothing_missing nodes) refl can.0.0)
after_push nodes (Apply ∷ []) can =
    Contains-later [] (pushed ∷ pushed_and_applied ∷ []) pushed_and_applied
    (Contains-later pushed (pushed_and_applied ∷ []) pushed_and_applied (Contains-first pushed_and_applied []))
after_push nodes (Apply ∷ Apply ∷ moves) can = absurd (can.1.0.0 refl)
after_push nodes (Apply ∷ Push entry ∷ moves) can =
    absurd (no_push nodes (p ∷ []) (p ∷ []) [] entry (λ atom missing. missing.0 (goal_there nodes)) refl can.1.0.0)

pub all_moves : (nodes : ℕ) (moves : List Move) → AreMoves (to_p nodes) moves → Contains three moves
all_moves nodes [] can = Contains-first [] (pushed ∷ pushed_and_applied ∷ [])
all_moves nodes (Apply ∷ moves) can = absurd (can.0.0 refl)
all_moves nodes (Push entry ∷ moves) can =
    subst (λ (e : Entry). CanMake (IsAllowed (to_p nodes)) (after (to_p nodes)) (bare (e ∷ [])) moves → Contains three (Push e ∷ moves))
    (only_make nodes entry can.0) (after_push nodes moves) can.1

-- what holds of each of them
pub each_list : (P : List Move → Type 0) → P [] → P pushed → P pushed_and_applied → (moves : List Move) → Contains three moves → P moves
each_list P none_yet one_yet all_yet moves has = elim (Contains-cases [] (pushed ∷ pushed_and_applied ∷ []) moves has) [
  | inl first ↦ subst P first none_yet
  | inr later ↦ elim (Contains-cases pushed (pushed_and_applied ∷ []) moves later) [
    | inl second ↦ subst P second one_yet
    | inr last ↦ subst P (Contains-one pushed_and_applied moves last) all_yet
  ]
]

pub push_allowed : (nodes : ℕ) → IsAllowed (to_p nodes) (bare []) (Push make)
push_allowed nodes = (
  record {
    is_entry = record {
      of = record { op = omega arith; count = refl; objects = All-nil (IsTermOf (plain_problem two nodes) 0) };
      fits = λ k below. absurd (omega (arith, below));
    };
    fresh = Contains-none make;
    gap = p;
    is_gap = (
      one (λ needed. HasAnswer (plain_problem two nodes) needed ⊎ ((gap : Atom) × HasGap (plain_problem two nodes) needed gap))
          (needed_from [] (p ∷ [])) (inr (p, p_missing)),
      (0, needed_from [] (p ∷ []), omega arith, refl, p_missing),
    );
    added = inl (Contains-first p [], All-nil (λ later. deletes (plain_problem two nodes) later p ≡ false));
  },
  one (λ needed. HasAnswer (plain_problem two nodes) needed ⊎ ((gap : Atom) × HasGap (plain_problem two nodes) needed gap))
      (needed_from [] []) (inl nothing_needed),
)
  where
    nothing_needed : HasAnswer (plain_problem two nodes) (needed_from [] [])
    nothing_needed = ([], none, record { count = refl; below = All-nil (λ (n : ℕ). n < 0); proved = tt; low = omega arith })

    p_missing : HasGap (plain_problem two nodes) (needed_from [] (p ∷ [])) p
    p_missing = (
      no_proof two nodes p,
      (
        [],
        also (gap p) none,
        record {
          count = refl;
          below = All-nil (λ (n : ℕ). n < 0);
          proved = ((refl, (Contains-first 0 (0 ∷ []), no_proof two nodes p)), tt);
          low = omega arith;
        },
        Contains-first p [],
      ),
    )

pub apply_allowed : (nodes : ℕ) → IsAllowed (to_p nodes) (bare (make ∷ [])) Apply
apply_allowed nodes = (
  λ empty. cc,
  one (HasAnswer (plain_problem two nodes)) (needed_from [] [])
      ([], none, record { count = refl; below = All-nil (λ (n : ℕ). n < 0); proved = tt; low = omega arith }),
)

least_lists : (nodes : ℕ) (moves : List Move) → Contains three moves → IsLeastList (to_p nodes) moves
unfolding set_of with_item
least_lists nodes = each_list (IsLeastList (to_p nodes))
    (record { made = tt; least = λ others can same before. order.first others before })
    (record {
      made = (push_allowed nodes, tt);
      least = λ others can. each_list (λ (ms : List Move). node_of (to_p nodes) ms ≡ bare (make ∷ []) → ¬ IsBefore ms pushed)
          (λ same before. let stacks = ap (λ (node : Node). node.stack) same in cc)
          (λ same before. order.irreflexive pushed before)
          (λ same before. let stacks = ap (λ (node : Node). node.stack) same in cc)
          others (all_moves nodes others can);
    })
    (record {
      made = (push_allowed nodes, (apply_allowed nodes, tt));
      least = λ others can.
          each_list (λ (ms : List Move). node_of (to_p nodes) ms ≡ record { model = p ∷ []; stack = [] } → ¬ IsBefore ms pushed_and_applied)
          (λ same before. let models = ap (λ (node : Node). node.model) same in cc)
          (λ same before. let models = ap (λ (node : Node). node.model) same in cc)
          (λ same before. order.irreflexive pushed_and_applied before)
          others (all_moves nodes others can);
    })

-- ---- the ends

pub stops : (nodes : ℕ) → 2 ≤ nodes → IsStop (to_p nodes) ([] ∷ pushed ∷ []) pushed_and_applied
unfolding set_of with_item
stops nodes room = record {
  beginning = record {
    least = least_lists nodes;
    ascending = AllPairs-cons IsBefore [] (pushed ∷ pushed_and_applied ∷ [])
        (All-from_recursion (IsBefore []) (pushed ∷ pushed_and_applied ∷ []) (refl, (refl, tt)))
        (AllPairs-cons IsBefore pushed (pushed_and_applied ∷ [])
        (All-from_recursion (IsBefore pushed) (pushed_and_applied ∷ []) (refl, tt))
        (AllPairs-cons IsBefore pushed_and_applied [] (All-nil (IsBefore pushed_and_applied))
        (λ i j d less below. absurd (omega (arith, below)))));
    closed = λ moves later has least before. all_moves nodes moves least.made;
  };
  unsolved = λ moves has. not_solved moves (Contains-cases [] (pushed ∷ []) moves has);
  room = room;
  stops = inl (refl, goal_there nodes);
}
  where
    not_solved : (moves : List Move) → ([] ≡ moves) ⊎ Contains (pushed ∷ []) moves → ¬ IsSolved (to_p nodes) (node_of (to_p nodes) moves)
    not_solved moves (inl first) =
        subst (λ (ms : List Move). ¬ IsSolved (to_p nodes) (node_of (to_p nodes) ms)) first (λ solved. no_proof two nodes p solved.1)
    not_solved moves (inr second) =
        subst (λ (ms : List Move). ¬ IsSolved (to_p nodes) (node_of (to_p nodes) ms)) (Contains-one pushed moves second)
        (λ solved. let empty = solved.0 in cc)

below_limit : (nodes : ℕ) → IsUnlimited (to_p nodes)
below_limit nodes =
    unlimited two nodes little
    (λ moves can. each_list (λ (ms : List Move). IsPlainStack (node_of (to_p nodes) ms).stack) tt tt tt moves (all_moves nodes moves can))

made : IsFound (to_p 3) pushed_and_applied
made = record { unlimited = below_limit 3; earlier = [] ∷ pushed ∷ []; stop = stops 3 (omega arith); room = omega arith }

no_room : IsNodeLimit (to_p 2) (bare [] ∷ bare (make ∷ []) ∷ []) 2
no_room = record {
  unlimited = below_limit 2;
  earlier = [] ∷ pushed ∷ [];
  last = pushed_and_applied;
  stop = stops 2 (omega arith);
  full = refl;
  nodes_are = refl;
  moves_are = refl;
}

pub end_facts : EndFacts
end_facts = record {
  nothing_to_reach = nothing_to_reach;
  there = there;
  table_there = table_there;
  not_there = not_there;
  made = made;
  no_room = no_room;
  not_open = not_open;
}
