-- Each line of a domain, each setting and each command keeps what was declared in range.
use Rattle.std.proofs.lemmas.List.Kept.{AllPairs-cons}
use Rattle.px_base.specs.Bounds.{u32_max}
use Rattle.px_script.proofs.Common.{table_given, IsTableBefore, IsSavedTable, problem_of, problem_here, replicate-append-replicate, replicate, ◌-◌, fold-append, flat_map-append, IsClause, no_schema, ◌≡◌, ◌≢◌, ℕ, suc, ◌+◌, ◌<◌, ◌≤◌, Bool, true, false, not, ◌&&◌, ◌||◌, ◌==◌, List, [], ◌∷◌, ◌++◌, map, length, refl, sym, ap, ◌∙◌, subst, arith, leb-true, length-append, nat_lt, nat_le, Option, None, Some, is_some, unwrap_or, All, AllPairs, AllByRecursion, slice_index_or, list_any, list_all, flat_map, filter, range_with_len, append_assoc, get_or-map, and_parts, or_parts, or_right, nat_tests, length-map, All-append, All-cons, All-map, All-nil, All-push, both_answers, All-at, All-each, set_of-is_sorted, set_of-members, has_name, IsBoxAt, IsDoorAt, IsRoomAt, first_state, standings, Clause, Schema, Problem, atom_set, atom_cmp, atom_cmp-total, atom_cmp-same, IsAtomOf, Thing, EachIndex, NameLists, IsAxiomOf, append-nil, IsSchemaOf, Standing, Atom, Named, SignedAtom, Sign, WrittenRoomEdit, Binding, bare, robot_to, box_to, door_to, is_empty, is_parameter_number, wanted_by_edit, an_object, plain, literals, goals, atom_changes, line_of, script, «axiom», operator, fact, Statement, of_tree, IsGoalOf, Line, varies_too_early, filled_up, of_version, Bounds, greatest, of_height, of_nodes, of_shapes, of_turn, Command, Declared, Roles, operator_here, parameters_here, parameters_of, names_here, number_in, variable_names_of, atom_of, literal_of, clause_of, atom_edit_of, edit_by, room_edit_of, binding_of, after_line, own_problem, is_long, repeats, disturbance_limits, AreNumbered, AreRoomEditsOf, CommandsInRange, HasTurn, IsAmong, IsBindingOf, IsCommandOf, IsEditOf, IsWithin, NamesEarlier, disturbs_after, plan_given, result_given, AreNamesOf, all_disturbs, of_executor, outside}
use Rattle.px_script.specs.declared.command.Command.TheVariants.{Pursue, Tree, Plan, Learn, DisturbAtoms, DisturbRooms, Run, Facts, Duo, Edit}
use Rattle.px_script.specs.Statements.{object, predicate, plan, learn, About, Show, ask, command_about, disturb_atoms, disturb_rooms, run, pursue, tree, sort, facts, duo, edit}
use Rattle.px_script.specs.Items.{last_parameter}
use Rattle.px_rooms.specs.Changes.{IsAdmitted}
use Rattle.px_terms.specs.Limits.{most_nodes, most_weight}
use Rattle.px_terms.specs.SortLaws.{no_sorts-are}
use Rattle.px_terms.specs.Validity.{AreSortsOf, IsShort}
use Rattle.std.proofs.lemmas.List.{get_or-replicate, length-replicate}
use Rattle.px_script.specs.Limits.{default_height, default_nodes, default_shapes, default_weight, from_three, of_weight, last_number}
use Rattle.px_script.specs.Limits as limit
use Rattle.px_script.proofs.Atoms.{HasAtoms, AreRight, numbered, atoms-right, atoms-with, atoms-open, no-variables, empty-length}
use Rattle.px_script.proofs.Buildings.{roles-kept, AreOfKind}
use Rattle.px_script.proofs.Commands.{one-more-result, among-still, among-last, more-results, scan-more}
use Rattle.px_script.specs.Faultless.{IsFaultless}
use Rattle.px_script.proofs.Lists.{by_test, at-most, not-below, each-fails, number-below, number-kept, number-new, known-still, known-last, at-name, is-new, each-more, all-parts, none-filtered}
use Rattle.px_table.specs.GrowthLaws as growth
use Rattle.px_script.proofs.Problems.{less, saved-grows, here-grows, same-lists, alike, schema-kept, names-more, of-axiom-kept, atoms-kept, axiom-clause}
use Rattle.px_script.specs.States.{from_blocks, ResultsInRange, AreInRange, AreRolesOf, HasNoDomain, IsVersionAfter, OperatorsInRange, SortsInRange}
use Rattle.px_script.specs.Limits.{by_version}
use Rattle.px_script.specs.RangeLaws.{version-most}

-- ---- what tests say

pub in-bounds : (bounds : Bounds) (n : ℕ) → (nat_lt n bounds.least || nat_lt bounds.most n) ≡ false → IsWithin bounds n
in-bounds bounds n e = let outside = or_parts (nat_lt n bounds.least) (nat_lt bounds.most n) e in
    (not-below n bounds.least outside.0, at-most bounds.most n outside.1)

pub some-items : {A : Type 0} (xs : List A) → (not (is_empty xs) && true) ≡ true → 1 ≤ length xs
some-items [] e = cc
some-items (x ∷ xs) e = omega arith

-- so many objects are few
pub few-objects : (version n : ℕ) → n ≤ greatest version limit.objects → n < u32_max
few-objects version n few = let most = version-most version n 256 1024 (omega arith) few in omega (arith, most)

-- a version is one of those that there are, and the first where no line with tokens stood
pub in-version : (d : Declared) → AreInRange d → IsWithin of_version d.version
in-version d r = told d.begun d.version r.version
  where
    told : (begun : Bool) (version : ℕ) → IsVersionAfter begun version → IsWithin of_version version
    told false version is = (omega (arith, is), omega (arith, is))
    told true version is = is

unbegun : (d : Declared) → AreInRange d → d.begun ≡ false → d.version ≡ 1
unbegun d r = told d.begun d.version r.version
  where
    told : (begun : Bool) (version : ℕ) → IsVersionAfter begun version → begun ≡ false → version ≡ 1
    told false version is early = is
    told true version is early = cc

-- what may be in version 1 may be in each
version-more : (old version n a b : ℕ) → old ≡ 1 → a ≤ b → n ≤ by_version old a b → n ≤ by_version version a b
version-more old version n a b is more few = let least : n ≤ a = subst (λ v. n ≤ by_version v a b) is few in
    by_test (nat_le version 1) (λ one. rw one least) (λ two. rw two (omega (arith, least, more)))

-- and so may what may be in the versions before 3
three-more : (old version n a b : ℕ) → old ≡ 1 → a ≤ b → n ≤ from_three old a b → n ≤ from_three version a b
three-more old version n a b is more few = let least : n ≤ a = subst (λ v. n ≤ from_three v a b) is few in
    by_test (nat_le version 2) (λ one. rw one least) (λ two. rw two (omega (arith, least, more)))

-- what may be in some version may be in the last
three-most : (version n a b : ℕ) → a ≤ b → n ≤ from_three version a b → n ≤ b
three-most version n a b more few = by_test (nat_le version 2) (λ one. let least : n ≤ a = rw one at few in omega (arith, least, more))
    (λ two. rw two at few)

-- where no line says it, what is chosen may be chosen
defaults-in : (version least a b most_a most_b : ℕ) → least ≤ a → least ≤ b → a ≤ most_a → b ≤ most_b
    → (least ≤ from_three version a b) × (from_three version a b ≤ from_three version most_a most_b)
defaults-in version least a b most_a most_b least_a least_b few_a few_b =
    by_test (nat_le version 2) (λ one. rw one (least_a, few_a)) (λ two. rw two (least_b, few_b))

-- ---- sorts

-- the sorts of so many objects, of which the last may have none
pub sorts-filled : (problem : Problem) (n : ℕ) (sorts : List ℕ) → length sorts ≤ n → AreSortsOf problem sorts → n < u32_max
    → (length (filled_up n sorts) ≡ n) × AreSortsOf problem (filled_up n sorts) × IsShort (filled_up n sorts)
sorts-filled problem n sorts most are few = let none = no_sorts-are problem (n - length sorts) in
    let count = length-append sorts (replicate (n - length sorts) 0) in
    let whole : length (filled_up n sorts) ≡ n = omega (arith, most, count, none.0) in
    (whole, All-append (λ sort. sort ≤ problem.sorts) sorts (replicate (n - length sorts) 0) are none.1, omega (arith, whole, few))

pub still-sorted : (version objects more : ℕ) (sorts : List (List ℕ)) (object_sorts : List ℕ) → objects ≤ more
    → SortsInRange version objects sorts object_sorts → SortsInRange version more sorts object_sorts
still-sorted version objects more sorts object_sorts grows r = let count = r.count in
    record { sort_names = r.sort_names; count = omega (arith, grows, count); numbers = r.numbers }

-- a declaration stands before all commands
pub no-commands : {A : Type 0} (commands : List A) → not (is_empty commands) ≡ false → length commands ≡ 0
no-commands [] e = refl
no-commands (x ∷ xs) e = cc

pub no-building : {A : Type 0} (things : Option A) → is_some things ≡ false → things ≡ None
no-building None e = refl
no-building (Some a) e = cc

pub no-parameters : (d : Declared) → d.block ≡ None → parameters_here d ≡ []
no-parameters d e = ap (λ b. parameters_of (operator_here b)) e

pub unmap : {X Y : Type 0} (f : X → Y) (P : Y → Type 0) (xs : List X) → All P (map f xs) → All (λ x. P (f x)) xs
unmap f P xs all = λ k d below. subst P (get_or-map f xs k d (f d) below) (all k (f d) (rw length-map below))

-- a line that a building doesn't exclude
pub still-none : (d : Declared) → AreInRange d → (d.own_domain || false) ≡ false → d.things ≡ None → HasNoDomain d.names d.arities
still-none d r own none = r.own_domain (or_parts d.own_domain false own).0 none

-- with a building the script has no domain or facts of its own
pub no-own : (things : List Thing) (own : Bool) (names : NameLists) (arities : List ℕ) (version : ℕ) (atoms : List Atom)
    → (own ≡ false → Some things ≡ None → HasNoDomain names arities) × (Some things ≡ None → length atoms ≤ greatest version limit.facts)
no-own things own names arities version atoms = ((λ is none. cc), λ none. cc)

-- ---- a problem that grows

-- the sorts of more objects are those of fewer, and then none
filled-more : (n m : ℕ) (sorts : List ℕ) → length sorts ≤ n → n ≤ m → filled_up m sorts ≡ filled_up n sorts ++ replicate (m - n) 0
filled-more n m sorts few more = let split : (n - length sorts) + (m - n) ≡ m - length sorts = omega (arith, few, more) in
    sym (append_assoc sorts (replicate (n - length sorts) 0) (replicate (m - n) 0)
    ∙ ap (λ t. sorts ++ t) (replicate-append-replicate (n - length sorts) (m - n) 0 ∙ ap (λ k. replicate k 0) split))

-- more objects without sorts
pub more-objects : (p : Problem) (n : ℕ) (sorts : List ℕ) → p.objects ≤ n → length sorts ≤ p.objects
    → p.object_sorts ≡ filled_up p.objects sorts → growth.Grows p (record p { objects = n; object_sorts = filled_up n sorts })
more-objects p n sorts more few are = record {
  objects = more;
  arities = ([], sym (append-nil p.arities));
  axioms = ([], sym (append-nil p.axioms));
  schemas = ([], sym (append-nil p.schemas));
  sorts = omega arith;
  object_sorts = (
    replicate (n - p.objects) 0,
    filled-more p.objects n sorts few more ∙ ap (λ t. t ++ replicate (n - p.objects) 0) (sym are),
  );
}

-- the problem of the lines has a sort for each object
sorts-count : (d : Declared) → AreInRange d → (things : Option (List Thing))
    → length (problem_of (own_problem d) things).object_sorts ≡ (problem_of (own_problem d) things).objects
sorts-count d r None = r.problem.valid.sorts.0
sorts-count d r (Some things) = length-replicate (length d.names.objects) 0

-- the tables of the script stay tables
pub saved-kept : (d : Declared) (q : Problem) (things : Option (List Thing)) → is_some d.things ≡ is_some things → AreInRange d
    → growth.Grows (own_problem d) q → All (λ one. IsSavedTable d.version (problem_of q things) one.1) d.saved
saved-kept d q things same r more = λ k one below. saved-grows (problem_here d) (problem_of q things)
    (here-grows (own_problem d) q d.things things same more) d.version _ (sorts-count d r d.things) (r.saved k one below)

-- What a line before all commands leaves as it is, where the problem grows.
pub record IsCarried (d : Declared) (q : Problem) (things : Option (List Thing)) : Type 0 where
  pub schemas : EachIndex d.schemas (λ k. IsSchemaOf q k (slice_index_or d.schemas k no_schema))
  pub axioms : All (IsAxiomOf q) d.axioms
  pub no_objects : q.objects ≡ 0 → All (λ schema. schema.params ≡ 0) d.schemas × All (λ clause. clause.variable_count ≡ 0) d.axioms
  pub facts : All (IsAtomOf q 0) d.facts
  pub saved : All (λ one. IsSavedTable d.version (problem_of q things) one.1) d.saved
  pub commands : CommandsInRange d.version q things (from_blocks d) (length d.names.results) d.commands

pub carried : (d : Declared) (q : Problem) (things : Option (List Thing)) → AreInRange d → growth.Grows (own_problem d) q
    → All (λ one. IsSavedTable d.version (problem_of q things) one.1) d.saved → not (is_empty d.commands) ≡ false → IsCarried d q things
carried d q things r grows saved early = let p = own_problem d in let more = less p q grows in
    let each : All (IsCommandOf d.version q things (length d.names.results)) d.commands =
    λ k c below. absurd (omega (arith, below, no-commands d.commands early)) in
    record {
      schemas = λ k below. schema-kept p q more grows.sorts k _ (r.problem.valid.schemas k below);
      axioms = λ k c below. of-axiom-kept p q more _ (r.problem.valid.axioms k c below);
      no_objects = λ none. r.problem.valid.no_objects (omega (arith, more.objects, none));
      facts = atoms-kept p q more 0 d.facts r.facts.atoms;
      saved = saved;
      commands = assumption;
    }

-- a line without a fault keeps all in range
abbrev pub Keeps : ℕ → Declared → Statement → Type 0
Keeps n d s = IsFaultless d s → AreInRange (after_line n d s)

-- ---- lines of the script's own domain, which stand in no block, without a building and before all commands

module _ (n : ℕ) (d : Declared) where
  -- in no block, and also without a building
  abbrev top : Declared
  top = record d { block = None }

  abbrev alone : Declared
  alone = record d { block = None; things = None }

  abbrev p : Problem
  p = own_problem d

  abbrev results : ℕ
  results = length d.names.results

  -- a line that a building excludes leaves no room for one
  owned : (names : NameLists) (arities : List ℕ) → (d.own_domain || true) ≡ false → ◌≡◌ {A = Option (List Thing)} None None
      → HasNoDomain names arities
  owned names arities own = both_answers (d.own_domain || true) own (or_right d.own_domain true refl)

  module _ (r : AreInRange alone) where
    pub object-kept : (ns : List (List ℕ)) → Keeps n alone (object ns)
    object-kept ns f = let all = d.names.objects ++ ns in
        let q : Problem = record p { objects = length all; object_sorts = filled_up (length all) d.object_sorts } in
        let count = length-append d.names.objects ns in
        let more : growth.Grows p q = more-objects p (length all) d.object_sorts (omega (arith, count)) r.sorts.count refl in
        let few : length all ≤ greatest d.version limit.objects = rw length-append (at-most _ _ f.limits.0) in
        let names = names-more d.version d.names.objects ns r.names.objects f.single.0 f.short.0 in
        let roles = roles-kept d.names.objects ns all [] [] [] d.roles refl refl r.roles in
        let still = still-sorted d.version _ (length all) d.sorts d.object_sorts more.objects r.sorts in
        let sorts = sorts-filled q (length all) d.object_sorts still.count r.sorts.numbers (few-objects d.version (length all) few) in
        assumption (
          names,
          carried alone q None r more (saved-kept alone q None refl r more) f.order.after,
          roles,
          sorts,
          still,
          in-version alone r,
          owned (record d.names { objects = all }) d.arities,
        )

    pub sort-kept : (name : List ℕ) (ns : List (List ℕ)) → Keeps n alone (sort name ns)
    sort-kept name ns f = let all = d.names.objects ++ ns in let sorts = d.sorts ++ name ∷ [] in
        let new : List ℕ = replicate (length ns) (length d.sorts + 1) in
        let object_sorts : List ℕ = filled_up (length d.names.objects) d.object_sorts ++ new in
        let q : Problem = record p {
          objects = length all;
          sorts = length sorts;
          object_sorts = filled_up (length all) object_sorts;
        } in
        let count = length-append d.names.objects ns in let sort_count = length-append d.sorts (name ∷ []) in
        let more : growth.Grows p q = record {
          objects = omega (arith, count);
          arities = ([], sym (append-nil d.arities));
          axioms = ([], sym (append-nil d.axioms));
          schemas = ([], sym (append-nil d.schemas));
          sorts = omega (arith, sort_count);
          object_sorts = (
            new ++ replicate (length all - length object_sorts) 0,
            append_assoc (filled_up (length d.names.objects) d.object_sorts) new (replicate (length all - length object_sorts) 0),
          );
        } in
        let few : length all ≤ greatest d.version limit.objects = rw length-append (at-most _ _ f.limits.0) in
        let few_sorts : length sorts ≤ greatest d.version limit.sorts = rw length-append (at-most _ _ f.limits.1.0) in
        let few_now = few-objects d.version (length d.names.objects) r.names.few_objects in
        let old = sorts-filled p (length d.names.objects) d.object_sorts r.sorts.count r.sorts.numbers few_now in
        let old_count = old.0 in let new_count = length-replicate (length ns) (length d.sorts + 1) in
        let whole = length-append (filled_up (length d.names.objects) d.object_sorts) new in
        let are : SortsInRange d.version (length all) sorts object_sorts = record {
          sort_names = names-more d.version d.sorts (name ∷ []) r.sorts.sort_names f.single.0 f.short.0;
          count = omega (arith, count, old_count, new_count, whole);
          numbers = All-append (λ sort. sort ≤ length sorts) (filled_up (length d.names.objects) d.object_sorts) new
              (λ k s below. let one = old.1 k s below in omega (arith, one, sort_count))
              (λ k s below. let one = get_or-replicate (length ns) k (length d.sorts + 1) s (omega (arith, below, new_count)) in
              omega (arith, one, sort_count));
        } in
        let names = names-more d.version d.names.objects ns r.names.objects f.single.1.0 f.short.1.0 in
        let roles = roles-kept d.names.objects ns all [] [] [] d.roles refl refl r.roles in
        let filled = sorts-filled q (length all) object_sorts are.count are.numbers (few-objects d.version (length all) few) in
        assumption (
          names,
          carried alone q None r more (saved-kept alone q None refl r more) f.order.after,
          roles,
          filled,
          are,
          few_sorts,
          in-version alone r,
          owned (record d.names { objects = all }) d.arities,
        )

    pub predicate-kept : (name : List ℕ) (arity : ℕ) → Keeps n alone (predicate name arity)
    predicate-kept name arity f = let all = d.names.predicates ++ name ∷ [] in let arities = d.arities ++ arity ∷ [] in
        let q : Problem = record p { arities = arities } in let count = length-append d.arities (arity ∷ []) in
        let more : growth.Grows p q = record {
          objects = omega arith;
          arities = (arity ∷ [], refl);
          axioms = ([], sym (append-nil d.axioms));
          schemas = ([], sym (append-nil d.schemas));
          sorts = omega arith;
          object_sorts = ([], sym (append-nil p.object_sorts));
        } in
        let few : length all ≤ 64 = rw length-append (at-most _ _ f.limits.0) in
        let same : length arities ≡ length all = omega (arith, count, length-append d.names.predicates (name ∷ []), r.problem.predicates) in
        let short : length arities < u32_max = omega (arith, same, few) in
        let names = names-more d.version d.names.predicates (name ∷ []) r.names.predicates f.single.0 f.short.0 in
        let small = All-push (λ k. k ≤ greatest d.version limit.arity) d.arities arity r.problem.arities (at-most _ _ f.limits.1.0) in
        let same_rest = carried alone q None r more (saved-kept alone q None refl r more) f.order.after in
        assumption (names, same_rest, small, in-version alone r, owned (record d.names { predicates = all }) arities)

    pub axiom-kept : (xs : List SignedAtom) → (not (is_empty xs) && true) ≡ true → Keeps n alone («axiom» xs)
    axiom-kept xs filled f = let has : HasAtoms (line_of («axiom» xs)) xs = record { atoms = refl; arguments = refl } in
        let c = clause_of alone xs in let variable_count = variable_names_of xs in
        let count : length c.lits ≡ length xs = length-map xs (literal_of alone variable_count) in let least = some-items xs filled in
        let most : length xs ≤ 6 = at-most _ _ f.limits.1.0 in
        let atoms = atoms-open alone r xs refl literals refl (atoms-right alone («axiom» xs) xs has f.right) in
        let all = d.axioms ++ c ∷ [] in let q : Problem = record p { axioms = all } in let more = alike p q refl refl in
        let grows : growth.Grows p q = record {
          objects = omega arith;
          arities = ([], sym (append-nil d.arities));
          axioms = (c ∷ [], refl);
          schemas = ([], sym (append-nil d.schemas));
          sorts = omega arith;
          object_sorts = ([], sym (append-nil p.object_sorts));
        } in
        let few : length all ≤ 64 = rw length-append (at-most _ _ f.limits.0) in
        let lits = All-map (λ lit. IsAtomOf p (length variable_count) lit.atom) (literal_of alone variable_count) xs
        (unmap (atom_of alone variable_count) (IsAtomOf p (length variable_count)) xs atoms) in
        let is : IsAxiomOf p c = record { variable_count = at-most _ _ f.limits.1.1.0; lits = lits } in
        let N : Clause → Type 0 = λ clause. AreNumbered clause.variable_count (map (λ lit. lit.atom) clause.lits) in
        let old = carried alone q None r grows (saved-kept alone q None refl r grows) f.order.after in
        let none : q.objects ≡ 0 → All (λ schema. schema.params ≡ 0) d.schemas × All (λ clause. clause.variable_count ≡ 0) all = λ empty.
        let no = old.no_objects empty in let new = no-variables alone (line_of («axiom» xs)) xs has f.order.early empty in
        (no.0, All-push (λ clause. clause.variable_count ≡ 0) d.axioms c no.1 new) in
        let axioms = All-push (IsAxiomOf q) d.axioms c old.axioms (of-axiom-kept p q more c is) in
        let clauses = All-push IsClause d.axioms c r.problem.valid.arena.each
        (axiom-clause p c (omega (arith, count, least), omega (arith, count, most)) is) in
        let in_order = All-push N d.axioms c r.problem.axiom_variables
        (subst (AreNumbered (length variable_count)) (sym (literal-atoms variable_count xs)) (numbered alone xs refl)) in
        assumption (old, axioms, clauses, in_order, in-version alone r, owned d.names d.arities)
      where
        -- the literals of an axiom are atoms with signs
        literal-atoms : (variables : List (List ℕ)) (xs : List SignedAtom)
            → map (λ lit. lit.atom) (map (literal_of alone variables) xs) ≡ map (atom_of alone variables) xs
        literal-atoms variables [] = refl
        literal-atoms variables (x ∷ xs) = ap (λ t. atom_of alone variables x ∷ t) (literal-atoms variables xs)

    pub fact-kept : (xs : List SignedAtom) → Keeps n alone (fact xs)
    fact-kept xs f = let right = atoms-right alone (fact xs) xs (record { atoms = refl; arguments = refl }) f.right in
        let written = atoms-with alone r xs plain refl (λ v. refl) 0 (omega arith) right in
        let new = map (atom_of alone []) xs ++ d.facts in
        let all = All-append (IsAtomOf p 0) (map (atom_of alone []) xs) d.facts written r.facts.atoms in
        let few : ◌≡◌ {A = Option (List Thing)} None None → length (atom_set new) ≤ greatest d.version limit.facts =
        λ none. at-most _ _ f.limits.0 in
        let each = All-each (IsAtomOf p 0) (atom_set new) (λ q there. All-at (IsAtomOf p 0) _ q all
        ((set_of-members atom_cmp atom_cmp-total atom_cmp-same new q).0 there)) in
        assumption (in-version alone r, set_of-is_sorted atom_cmp atom_cmp-total atom_cmp-same new, each, owned d.names d.arities)

    pub operator-kept : (name : List ℕ) (ps : List (List ℕ)) → Keeps n alone (operator name ps)
    operator-kept name ps f = let all = d.names.operators ++ name ∷ [] in let new = record d.names { operators = all } in
        let named : length all ≡ length d.schemas + 1 = omega (arith, length-append d.names.operators (name ∷ []), r.operators) in
        let count : length all ≤ greatest d.version limit.operators = rw length-append (at-most _ _ f.limits.0) in
        let few : length ps ≤ 8 = at-most _ _ f.limits.1.0 in
        let none : length d.names.objects ≡ 0 → length ps ≡ 0 =
        λ empty. no-varying ps (is_empty d.names.objects) f.order.early (empty-length d.names.objects empty) in
        let names = names-more d.version d.names.operators (name ∷ []) r.names.operators f.single.0 f.short.0 in
        search (names, in-version alone r, owned new d.arities, no_sorts-are p (length ps), All-nil, leb-true)
      where
        no-varying : (ps : List (List ℕ)) (empty : Bool) → ((false || (not (is_empty ps) || false)) && empty) ≡ false → empty ≡ true
            → length ps ≡ 0
        no-varying [] empty early e = refl
        no-varying (x ∷ ps) empty early e = both_answers empty early e

  -- ---- settings and commands, which stand in no block

  module _ (r : AreInRange top) where
    pub settings-kept : (tall many wide heavy : Option ℕ) → not (is_empty d.commands) ≡ false
        → IsWithin of_height (unwrap_or tall default_height) → IsWithin (of_nodes d.version) (unwrap_or many (default_nodes d.version))
        → IsWithin of_shapes (unwrap_or wide default_shapes)
        → IsWithin (of_weight d.version) (unwrap_or heavy (default_weight d.version)) → AreInRange (record top {
          height = tall;
          nodes = many;
          shapes = wide;
          weight = heavy;
          own_domain = d.own_domain || false;
          begun = true;
        })
    settings-kept tall many wide heavy early in_height in_nodes in_shapes in_weight =
        let q : Problem = record p {
          height = unwrap_or tall default_height;
          nodes = unwrap_or many (default_nodes d.version);
          shapes = unwrap_or wide default_shapes;
          weight = unwrap_or heavy (default_weight d.version);
        } in
        let most : q.nodes ≤ most_nodes = three-most d.version q.nodes 50000 most_nodes (omega arith) in_nodes.1 in
        let most_heavy : q.weight ≤ most_weight = three-most d.version q.weight 0 most_weight (omega arith) in_weight.1 in
        let more = same-lists p q refl refl refl refl (omega arith) refl in
        assumption (
          still-none top r,
          in_height,
          in_nodes,
          most,
          in_shapes,
          in_weight,
          most_heavy,
          carried top q d.things r more (saved-kept top q d.things refl r more) early,
          in-version top r,
        )

    operators-there : (version : ℕ) (q : Problem) → q.schemas ≡ p.schemas → (things : Option (List Thing))
        → OperatorsInRange d.version d.names p things None → OperatorsInRange version d.names q things None
    operators-there version q same None is = is ∙ sym (ap (λ (l : List Schema). length l) same)
    operators-there version q same (Some things) is = is

    -- The version, which stands before all else.
    pub script-kept : (version : ℕ) → Keeps n top (script version)
    script-kept version f = let first = unbegun top r f.order.late in let is = in-bounds of_version version f.limits.0 in
        let q : Problem = record p {
          nodes = unwrap_or d.nodes (default_nodes version);
          weight = unwrap_or d.weight (default_weight version);
        } in
        let more = same-lists p q refl refl refl refl (omega arith) refl in
        let grown = carried top q d.things r more (saved-kept top q d.things refl r more) f.order.after in
        let in_nodes = nodes-in version first d.nodes r.problem.nodes in
        let in_weight = weight-in version first d.weight r.problem.weight in
        let most : q.nodes ≤ most_nodes = three-most version q.nodes 50000 most_nodes (omega arith) in_nodes.1 in
        let most_heavy : q.weight ≤ most_weight = three-most version q.weight 0 most_weight (omega arith) in_weight.1 in
        let few_objects = version-more d.version version _ 256 1024 first (omega arith) r.names.few_objects in
        let few_facts : d.things ≡ None → length d.facts ≤ greatest version limit.facts =
        λ none. version-more d.version version _ 512 1024 first (omega arith) (r.facts.few none) in
        let few_commands = version-more d.version version _ 512 1024 first (omega arith) r.commands.few in
        let each : All (IsCommandOf version q d.things results) d.commands =
        λ k c below. absurd (omega (arith, below, no-commands d.commands f.order.after)) in
        assumption (
          is,
          in_nodes,
          in_weight,
          most,
          most_heavy,
          grown,
          few_objects,
          few_facts,
          few_commands,
          each,
          still-none top r,
          operators-there version q refl d.things r.operators,
          all-there version q grown.saved,
        )
      where
        -- the limits of tables are those of each version
        all-there : (version : ℕ) (q : Problem) → All (λ one. IsSavedTable d.version (problem_of q d.things) one.1) d.saved
            → All (λ one. IsSavedTable version (problem_of q d.things) one.1) d.saved
        all-there version q saved = λ k one below. let is = saved k one below in assumption

        -- what a script may ask for in version 1 it may ask for in each
        nodes-in : (version : ℕ) → d.version ≡ 1 → (o : Option ℕ) → IsWithin (of_nodes d.version) (unwrap_or o (default_nodes d.version))
            → IsWithin (of_nodes version) (unwrap_or o (default_nodes version))
        nodes-in version first None is =
            defaults-in version 1 10000 100000 50000 most_nodes (omega arith) (omega arith) (omega arith) (omega arith)
        nodes-in version first (Some n) is = (is.0, three-more d.version version n 50000 most_nodes first (omega arith) is.1)

        weight-in : (version : ℕ) → d.version ≡ 1 → (o : Option ℕ) → IsWithin (of_weight d.version) (unwrap_or o (default_weight d.version))
            → IsWithin (of_weight version) (unwrap_or o (default_weight version))
        weight-in version first None is = defaults-in version 0 0 16 0 most_weight (omega arith) (omega arith) (omega arith) (omega arith)
        weight-in version first (Some n) is = (is.0, three-more d.version version n 0 most_weight first (omega arith) is.1)

    -- what is declared after a command, with the results and the roles after it
    abbrev given : Command → List (List ℕ) → Roles → Declared
    given c names roles = record top {
      names = record d.names { results = names };
      roles = roles;
      commands = d.commands ++ c ∷ [];
      disturbs = disturbs_after d.disturbs c;
      own_domain = d.own_domain || false;
      begun = true;
    }

    -- what the script's blocks give
    abbrev first : List ℕ
    first = from_blocks top

    -- what the names of plans, and those of tables, keep: each is a result's, and of one that was given
    pub record AreGiven (gives : Command → List ℕ) (before : List ℕ) (commands : List Command) (names all : List (List ℕ)) : Type 0 where
      pub known : All (λ m. has_name m all ≡ true) names
      pub given : All (λ m. IsAmong (before ++ flat_map gives commands) (number_in m all)) names

    -- A command, with the results and the roles after it.
    command-kept : (c : Command) (names : List (List ℕ)) (roles : Roles) → disturbs_after d.disturbs c ≤ greatest d.version limit.disturbs
        → nat_lt (greatest d.version limit.commands) (length d.commands + 1) ≡ false
        → AreNamesOf d.version names → range_with_len 0 results ++ result_given c ≡ range_with_len 0 (length names)
        → results ≤ length names → length names ≤ results + 1
        → IsCommandOf d.version p d.things (length names) c → NamesEarlier first d.commands c
        → AreRolesOf d.names.objects roles (unwrap_or d.things [])
        → AreGiven plan_given [] (d.commands ++ c ∷ []) roles.plans names
        → AreGiven table_given first (d.commands ++ c ∷ []) roles.tables names → AreInRange (given c names roles)
    command-kept c names roles often full names_are given least most is_command earlier roles_are plans tables =
        let all = d.commands ++ c ∷ [] in let count = length-append d.commands (c ∷ []) in
        let few : length all ≤ greatest d.version limit.commands = rw length-append (at-most _ _ full) in
        let few_results : length names ≤ length first + length all = omega (arith, count, most, r.results.few) in
        let counts = ap (λ t. disturbs_after t c) r.results.disturbs in
        let since = counts ∙ sym (fold-append disturbs_after 0 d.commands (c ∷ [])) in
        let each = All-push (IsCommandOf d.version p d.things (length names)) d.commands c
        (λ k x below. more-results d.version p d.things results (length names) least _ (r.commands.each k x below)) is_command in
        let N : ℕ → Type 0 = λ m. m ≤ greatest d.version limit.disturbs in
        let few_disturbs : All N (all_disturbs all) = subst (All N) (sym (scan-more 0 d.commands c))
        (All-push N (all_disturbs d.commands) _ r.commands.few_disturbs (subst N counts often)) in
        let gives : first ++ flat_map result_given all ≡ range_with_len 0 (length names) =
        ap (λ t. first ++ t) (flat_map-append result_given d.commands (c ∷ [])
        ∙ ap (λ t. flat_map result_given d.commands ++ t) (append-nil (result_given c)))
        ∙ sym (append_assoc first (flat_map result_given d.commands) (result_given c)) ∙ ap (λ t. t ++ result_given c) r.commands.given
        ∙ given in
        let none : (d.own_domain || false) ≡ false → d.things ≡ None → HasNoDomain (record d.names { results = names }) d.arities =
        λ own none. let old = still-none top r own none in assumption in
        let now : ResultsInRange first names roles all (disturbs_after d.disturbs c) = record {
          plan_names = plans.known;
          plans = plans.given;
          table_names = tables.known;
          tables = tables.given;
          few = few_results;
          disturbs = since;
        } in
        assumption (in-version top r, now, each-more (NamesEarlier first) d.commands c Facts r.commands.earlier earlier)

    -- the plans so far, and the tables
    old-plans : (c : Command) → AreGiven plan_given [] (d.commands ++ c ∷ []) d.roles.plans d.names.results
    old-plans c = record {
      known = r.results.plan_names;
      given = λ k x below. among-still plan_given [] d.commands c _ (r.results.plans k x below);
    }

    old-tables : (c : Command) → AreGiven table_given first (d.commands ++ c ∷ []) d.roles.tables d.names.results
    old-tables c = record {
      known = r.results.table_names;
      given = λ k x below. among-still table_given first d.commands c _ (r.results.tables k x below);
    }

    -- a command that gives no result
    plain-kept : (c : Command) → result_given c ≡ [] → nat_lt (greatest d.version limit.commands) (length d.commands + 1) ≡ false
        → disturbs_after d.disturbs c ≤ greatest d.version limit.disturbs → IsCommandOf d.version p d.things results c
        → NamesEarlier first d.commands c → AreInRange (given c d.names.results d.roles)
    plain-kept c no_result full often is_command earlier = command-kept c d.names.results d.roles often full r.names.results
        (ap (λ t. range_with_len 0 results ++ t) no_result ∙ append-nil (range_with_len 0 results)) (omega arith) (omega arith) is_command
        earlier r.roles (old-plans c) (old-tables c)

    -- a table's number is that of a block or of an earlier command
    known-result : (name : List ℕ) → has_name name d.roles.tables ≡ true → number_in name d.names.results < results
    known-result name known = number-below name d.names.results
        (at-name (λ m. has_name m d.names.results ≡ true) d.roles.tables name r.results.table_names known)

    named-earlier : (name : List ℕ) → has_name name d.roles.tables ≡ true → IsTableBefore first d.commands (number_in name d.names.results)
    named-earlier name known =
        at-name (λ m. IsTableBefore first d.commands (number_in m d.names.results)) d.roles.tables name r.results.tables known

    pub ask-kept : (about : About) (name : List ℕ) → Keeps n top (ask about name)
    ask-kept Show name f = plain-kept (command_about Show (number_in name d.names.results)) refl f.limits.0 r.few_disturbs
        (known-result name f.known.0) (named-earlier name f.known.0)
    ask-kept about name f = plain-kept (command_about about (number_in name d.names.results)) refl f.limits.0 r.few_disturbs
        (known-result name f.known.0) (named-earlier name f.known.0)

    pub facts-kept : Keeps n top facts
    facts-kept f = plain-kept Facts refl f.limits.0 r.few_disturbs tt tt

    -- two executors in one world

    executors-in : (ns : List ℕ) → list_any (λ n. (outside of_executor n).0) ns ≡ false → All (IsWithin of_executor) ns
    executors-in ns within = each-fails (λ n. (outside of_executor n).0) (IsWithin of_executor) (λ n e. in-bounds of_executor n e) ns within

    pub duo-kept : (one other : List ℕ) (ns : List ℕ) → (not (is_empty ns) && true) ≡ true → Keeps n top (duo one other ns)
    duo-kept one other ns filled f =
        let executors = executors-in ns f.limits.1.0 in let some = some-items ns filled in
        plain-kept (Duo (number_in one d.names.results) (number_in other d.names.results) ns) refl f.limits.0 r.few_disturbs (
          known-result one f.known.0,
          known-result other f.known.1.0,
          record { some = some; few = at-most _ _ f.limits.1.1.0; executors = executors },
        )
        (named-earlier one f.known.0, named-earlier other f.known.1.0)

    -- disturbances

    turn-is : (turn edits written : ℕ) → edits ≡ written → 1 ≤ written
        → AllByRecursion (λ test. test.0 ≡ false) (disturbance_limits d turn written) → HasTurn d.version turn edits
    turn-is turn edits written same some limits = let few = at-most _ _ limits.1.1.0 in
        (in-bounds of_turn turn limits.1.1.1.0, omega (arith, same, some), omega (arith, same, few))

    edit-is : (sign : Sign) (atom : Atom) → IsAtomOf p 0 atom → IsEditOf p (edit_by sign atom)
    edit-is bare atom is = is
    edit-is _ atom is = is

    pub disturb-atoms-kept : (turn : ℕ) (between : Bool) (xs : List SignedAtom) → (not (is_empty xs) && true) ≡ true
        → is_some d.things ≡ false → Keeps n top (disturb_atoms turn between xs)
    disturb-atoms-kept turn between xs filled no_things f =
        let right = atoms-right top (disturb_atoms turn between xs) xs (record { atoms = refl; arguments = refl }) f.right in
        let atoms = atoms-with top r xs atom_changes refl (λ v. refl) 0 (omega arith) right in
        let timed = turn-is turn _ (length xs) (length-map xs (atom_edit_of top)) (some-items xs filled) f.limits in
        let each = All-map (IsEditOf p) (atom_edit_of top) xs
        (λ k x below. edit-is _ _ (unmap (atom_of top []) (IsAtomOf p 0) xs atoms k x below)) in
        plain-kept (DisturbAtoms turn between (map (atom_edit_of top) xs)) refl f.limits.0 (at-most _ _ f.limits.1.0)
        (timed, no_things, each) tt

    abbrev IsThere : Named × List ℕ → Type 0
    IsThere w = has_name w.1 (names_here top w.0) ≡ true

    numbered-as : (P : List Standing → ℕ → Type 0) (things : List Thing) (names : List (List ℕ)) (name : List ℕ)
        → AreOfKind P d.names.objects things names → has_name name names ≡ true → P (standings things) (number_in name d.names.objects)
    numbered-as P things names name all known = at-name (λ m. P (standings things) (number_in m d.names.objects)) names name all known

    room-edit-is : (things : List Thing) → AreRolesOf d.names.objects d.roles things → (one : WrittenRoomEdit)
        → AllByRecursion IsThere (wanted_by_edit one) → IsAdmitted (first_state things) (room_edit_of top one)
    room-edit-is things roles (robot_to place) known = numbered-as IsRoomAt things d.roles.rooms place roles.rooms known.0
    room-edit-is things roles (box_to moved place) known =
        (numbered-as IsBoxAt things _ moved roles.boxes known.0, numbered-as IsRoomAt things _ place roles.rooms known.1.0)
    room-edit-is things roles (door_to way is_open) known = numbered-as IsDoorAt things d.roles.doors way roles.doors known.0

    room-edits-are : (o : Option (List Thing)) → is_some o ≡ true → AreRolesOf d.names.objects d.roles (unwrap_or o [])
        → (edits : List WrittenRoomEdit) → AllByRecursion IsThere (flat_map wanted_by_edit edits ++ [])
        → AreRoomEditsOf o (map (room_edit_of top) edits)
    room-edits-are None some roles edits known = cc
    room-edits-are (Some things) some roles [] known = All-nil _
    room-edits-are (Some things) some roles (one ∷ edits) known =
        let whole = subst (AllByRecursion IsThere) (append_assoc (wanted_by_edit one) (flat_map wanted_by_edit edits) []) known in
        let both = all-parts IsThere (wanted_by_edit one) (flat_map wanted_by_edit edits ++ []) whole in
        All-cons (IsAdmitted (first_state things)) _ _ (room-edit-is things roles one both.0)
        (room-edits-are (Some things) some roles edits both.1)

    pub disturb-rooms-kept : (turn : ℕ) (between : Bool) (es : List WrittenRoomEdit) → (not (is_empty es) && true) ≡ true
        → is_some d.things ≡ true → Keeps n top (disturb_rooms turn between es)
    disturb-rooms-kept turn between es filled with_things f =
        let timed = turn-is turn _ (length es) (length-map es (room_edit_of top)) (some-items es filled) f.limits in
        plain-kept (DisturbRooms turn between (map (room_edit_of top) es)) refl f.limits.0 (at-most _ _ f.limits.1.0)
        (timed, room-edits-are d.things with_things r.roles es f.known) tt

    -- runs

    abbrev binds_as : Binding → Binding → Bool
    binds_as b other = other.parameter == b.parameter

    bound-once : (bs : List Binding) → All (λ b. length (filter (binds_as b) bs) ≤ 1) bs
        → AllPairs (λ one other. one.0 ≢ other.0) (map (binding_of top) bs)
    bound-once [] few = λ i j e before within. absurd (omega (arith, within))
    bound-once (b ∷ bs) few = let same : binds_as b b ≡ true = grind (arith, nat_tests) in
        let first : suc (length (filter (binds_as b) bs)) ≤ 1 = rw same at (few 0 b (omega arith)) in
        let others = each-fails (binds_as b) (λ x. binds_as b x ≡ false) (λ x e. e) bs
        (none-filtered (binds_as b) bs (omega (arith, first))) in
        AllPairs-cons (λ one other. one.0 ≢ other.0) (binding_of top b) (map (binding_of top) bs)
        (All-map (λ other. b.parameter ≢ other.0) (binding_of top) bs (λ k e below. differ (slice_index_or bs k e) (others k e below)))
        (bound-once bs (λ k e below. fewer (slice_index_or bs k e) (few (suc k) e (omega (arith, below)))))
      where
        differ : (other : Binding) → binds_as b other ≡ false → b.parameter ≢ other.parameter
        differ other e same = let on : binds_as b other ≡ true = grind (arith, nat_tests, same) in both_answers (binds_as b other) e on

        fewer : (c : Binding) → length (filter (binds_as c) (b ∷ bs)) ≤ 1 → length (filter (binds_as c) bs) ≤ 1
        fewer c few = by_test (binds_as c b)
            (λ on. let more : suc (length (filter (binds_as c) bs)) ≤ 1 = rw on at few in omega (arith, more)) (λ off. rw off at few)

    bindings-are : (bs : List Binding) → list_all (λ b. is_parameter_number b.parameter) bs ≡ true
        → AllByRecursion IsThere (map (λ b. (an_object, b.object)) bs ++ []) → All (IsBindingOf p) (map (binding_of top) bs)
    bindings-are [] good known = All-nil _
    bindings-are (b ∷ bs) good known =
        let both = and_parts (is_parameter_number b.parameter) (list_all (λ x. is_parameter_number x.parameter) bs) good in
        let number = and_parts (nat_lt 0 b.parameter) (nat_lt b.parameter 10000) both.0 in
        let least : 1 ≤ b.parameter = grind (arith, nat_tests, number.0) in
        let most : b.parameter ≤ last_parameter = grind (arith, nat_tests, number.1) in
        All-cons (IsBindingOf p) _ _ (least, most, number-below b.object d.names.objects known.0) (bindings-are bs both.1 known.1)

    pub run-kept : (name : List ℕ) (bs : List Binding) → (list_all (λ b. is_parameter_number b.parameter) bs && true) ≡ true
        → Keeps n top (run name bs)
    run-kept name bs filled f =
        let once = each-fails _ (λ b. length (filter (binds_as b) bs) ≤ 1) (λ b e. at-most _ _ e) bs f.itself in
        let are = bindings-are bs (and_parts _ true filled).0 f.known.1 in
        plain-kept (Run (number_in name d.names.results) (map (binding_of top) bs)) refl f.limits.0 (omega arith)
        (known-result name f.known.0, are, bound-once bs once) (named-earlier name f.known.0)

    -- commands that give a result: what plans and tables keep, and what a new one has

    module _ (name : List ℕ) (c : Command) where
      abbrev named : List (List ℕ)
      named = d.names.results ++ name ∷ []

      abbrev AreGivenAfter : (Command → List ℕ) → List ℕ → List (List ℕ) → Type 0
      AreGivenAfter gives before names = AreGiven gives before (d.commands ++ c ∷ []) names named

      still-given : (gives : Command → List ℕ) (before : List ℕ) (names : List (List ℕ))
          → AreGiven gives before (d.commands ++ c ∷ []) names d.names.results → AreGivenAfter gives before names
      still-given gives before names old = record {
        known = λ k e below. known-still _ d.names.results (name ∷ []) (old.known k e below);
        given = λ k e below. subst (IsAmong (before ++ flat_map gives (d.commands ++ c ∷ [])))
            (sym (number-kept (slice_index_or names k e) d.names.results (name ∷ []) (old.known k e below))) (old.given k e below);
      }

      new-given : (gives : Command → List ℕ) (before : List ℕ) (names : List (List ℕ)) → gives c ≡ results ∷ []
          → repeats d.names.results (name ∷ []) ≡ false → AreGivenAfter gives before names → AreGivenAfter gives before (names ++ name ∷ [])
      new-given gives before names gives_it single old =
          let number : results ≡ number_in name named = sym (number-new name d.names.results [] (is-new d.names.results name single)) in
          record {
            known = All-push (λ m. has_name m named ≡ true) names name old.known (known-last name d.names.results []);
            given = All-push (λ m. IsAmong (before ++ flat_map gives (d.commands ++ c ∷ [])) (number_in m named)) names name old.given
                (subst (IsAmong (before ++ flat_map gives (d.commands ++ c ∷ []))) number
                (among-last gives before d.commands c results gives_it));
          }

      plans-now : AreGivenAfter plan_given [] d.roles.plans
      plans-now = still-given plan_given [] d.roles.plans (old-plans c)

      tables-now : AreGivenAfter table_given first d.roles.tables
      tables-now = still-given table_given first d.roles.tables (old-tables c)

      result-kept : (plans tables : List (List ℕ)) → result_given c ≡ results ∷ [] → disturbs_after d.disturbs c ≡ d.disturbs
          → repeats d.names.results (name ∷ []) ≡ false → list_any (is_long d.version) (name ∷ []) ≡ false
          → nat_lt (greatest d.version limit.commands) (length d.commands + 1) ≡ false
          → IsCommandOf d.version p d.things (length named) c → NamesEarlier first d.commands c → AreGivenAfter plan_given [] plans
          → AreGivenAfter table_given first tables → AreInRange (given c named (record d.roles { plans = plans; tables = tables }))
      result-kept plans tables gives disturbs single short full is_command earlier plans_are tables_are =
          let count = length-append d.names.results (name ∷ []) in
          command-kept c named (record d.roles { plans = plans; tables = tables })
          (omega (arith, disturbs, r.few_disturbs)) full
          (names-more d.version d.names.results (name ∷ []) r.names.results single short)
          (ap (λ t. range_with_len 0 results ++ t) gives ∙ one-more-result results ∙ ap (range_with_len 0) (sym count))
          (omega (arith, count)) (omega (arith, count)) is_command earlier (assumption r.roles) plans_are tables_are

      -- a command that gives a table
      given-kept : result_given c ≡ results ∷ [] → disturbs_after d.disturbs c ≡ d.disturbs → table_given c ≡ results ∷ []
          → repeats d.names.results (name ∷ []) ≡ false → list_any (is_long d.version) (name ∷ []) ≡ false
          → nat_lt (greatest d.version limit.commands) (length d.commands + 1) ≡ false
          → IsCommandOf d.version p d.things (length named) c → NamesEarlier first d.commands c
          → AreInRange (given c named (record d.roles { tables = d.roles.tables ++ name ∷ [] }))
      given-kept gives disturbs gives_table single short full is_command earlier =
          result-kept d.roles.plans (d.roles.tables ++ name ∷ []) gives disturbs single short full is_command earlier plans-now
          (new-given table_given first d.roles.tables gives_table single tables-now)

    pub learn-kept : (name source : List ℕ) → Keeps n top (learn name source)
    learn-kept name source f = let count = length-append d.names.results (name ∷ []) in
        let c = Learn results (number_in source d.names.results) in
        let among = at-name (λ m. IsAmong (flat_map plan_given d.commands) (number_in m d.names.results)) d.roles.plans source
        r.results.plans f.known.0 in
        let known = at-name (λ m. has_name m d.names.results ≡ true) d.roles.plans source r.results.plan_names f.known.0 in
        let below = number-below source d.names.results known in
        given-kept name c refl refl refl f.single.0 f.short.0 f.limits.0 (omega (arith, count), omega (arith, count, below)) among

    -- pairs of numbers of which none is too great
    abbrev AreSmall : ℕ × ℕ → Type 0
    AreSmall pair = (pair.0 ≤ last_number) × (pair.1 ≤ last_number)

    small-pairs : (ps : List (ℕ × ℕ)) → list_any (nat_lt last_number) (flat_map (λ (p : ℕ × ℕ). p.0 ∷ p.1 ∷ []) ps) ≡ false
        → All AreSmall ps
    small-pairs [] e = All-nil _
    small-pairs (pair ∷ ps) e = let first = or_parts (nat_lt last_number pair.0) _ e in
        let second = or_parts (nat_lt last_number pair.1) _ first.1 in
        All-cons AreSmall _ _ (at-most _ _ first.0, at-most _ _ second.0) (small-pairs ps second.1)

    pub edit-kept : (name source : List ℕ) (prefix : ℕ) (ps : List (ℕ × ℕ)) → (not (is_empty ps) && true) ≡ true
        → Keeps n top (edit name source prefix ps)
    edit-kept name source prefix ps filled f = let count = length-append d.names.results (name ∷ []) in
        let c = Edit results (number_in source d.names.results) prefix ps in let below = known-result source f.known.0 in
        let great = or_parts (nat_lt last_number prefix) _ f.limits.1.0 in
        given-kept name c refl refl refl f.single.0 f.short.0 f.limits.0 (
          omega (arith, count),
          omega (arith, count, below),
          at-most _ _ great.0,
          record { some = some-items ps filled; few = at-most _ _ f.limits.1.1.0; numbers = small-pairs ps great.1 },
        ) (named-earlier source f.known.0)

    -- the goal of a plan, or of a pursuit
    goal-is : (l : Line) (xs : List SignedAtom) → (not (is_empty xs) && true) ≡ true → HasAtoms l xs → AreRight top goals xs
        → varies_too_early top l ≡ false → nat_lt (greatest d.version limit.variables) (length (variable_names_of xs)) ≡ false
        → nat_lt (greatest d.version limit.goal_atoms) (length xs) ≡ false
        → IsGoalOf d.version p (map (atom_of top (variable_names_of xs)) xs) (length (variable_names_of xs))
    goal-is l xs filled has right early few_variables few =
        let size = length-map xs (atom_of top (variable_names_of xs)) in let least = some-items xs filled in let most = at-most _ _ few in
        record {
          some = omega (arith, size, least);
          few = omega (arith, size, most);
          few_variables = at-most _ _ few_variables;
          no_objects = λ none. no-variables top l xs has early none;
          atoms = atoms-open top r xs refl goals refl right;
          numbered = numbered top xs refl;
        }

    pub plan-kept : (name : List ℕ) (xs : List SignedAtom) → (not (is_empty xs) && true) ≡ true → Keeps n top (plan name xs)
    plan-kept name xs filled f = let has : HasAtoms (line_of (plan name xs)) xs = record { atoms = refl; arguments = refl } in
        let variables = variable_names_of xs in let count = length-append d.names.results (name ∷ []) in
        let c = Plan results (map (atom_of top variables) xs) (length variables) in
        let goal = goal-is (line_of (plan name xs)) xs filled has (atoms-right top (plan name xs) xs has f.right) f.order.early f.limits.0
        f.limits.1.0 in
        result-kept name c (d.roles.plans ++ name ∷ []) (d.roles.tables ++ name ∷ []) refl refl f.single.0 f.short.0 f.limits.1.1.0
        (omega (arith, count), goal) tt (new-given name c plan_given [] d.roles.plans refl f.single.0 (plans-now name c))
        (new-given name c table_given first d.roles.tables refl f.single.0 (tables-now name c))

    -- a pursuit gives a result that is no table
    pub pursue-kept : (name : List ℕ) (xs : List SignedAtom) → (not (is_empty xs) && true) ≡ true → Keeps n top (pursue name xs)
    pursue-kept name xs filled f = let has : HasAtoms (line_of (pursue name xs)) xs = record { atoms = refl; arguments = refl } in
        let variables = variable_names_of xs in let count = length-append d.names.results (name ∷ []) in
        let c = Pursue results (map (atom_of top variables) xs) (length variables) in
        let goal = goal-is (line_of (pursue name xs)) xs filled has (atoms-right top (pursue name xs) xs has f.right) f.order.early
        f.limits.0 f.limits.1.0 in
        result-kept name c d.roles.plans d.roles.tables refl refl f.single.0 f.short.0 f.limits.1.1.0 (omega (arith, count), goal) tt
        (plans-now name c) (tables-now name c)

    -- and so does a search tree
    pub tree-kept : (name : List ℕ) (most : ℕ) (xs : List SignedAtom) → (not (is_empty xs) && true) ≡ true → Keeps n top (tree name most xs)
    tree-kept name most xs filled f = let has : HasAtoms (line_of (tree name most xs)) xs = record { atoms = refl; arguments = refl } in
        let variables = variable_names_of xs in let count = length-append d.names.results (name ∷ []) in
        let c = Tree results most (map (atom_of top variables) xs) (length variables) in
        let goal = goal-is (line_of (tree name most xs)) xs filled has (atoms-right top (tree name most xs) xs has f.right) f.order.early
        f.limits.0 f.limits.1.0 in
        result-kept name c d.roles.plans d.roles.tables refl refl f.single.0 f.short.0 f.limits.1.1.0
        (omega (arith, count), in-bounds of_tree most f.limits.1.1.1.0, goal) tt (plans-now name c) (tables-now name c)
