-- Each line without a fault keeps what was declared in range, and so a script is in range, and of the language as far as it is built.
use Rattle.std.proofs.lemmas.List.{get_or_past}
use Rattle.std.proofs.lemmas.List.FromFn.{length-range_with_len}
use Rattle.std.specs.List.Sorted.{IsStrictlySortedBy}
use Rattle.px_base.specs.Bounds.{u32_max}
use Rattle.px_rooms.proofs.Valid.{buildings_are_valid}
use Rattle.px_rooms.proofs.Belonging.{facts-are-atoms}
use Rattle.px_script.proofs.Common.{both_ways, robot_name, room_schemas, building_rules, thing_at, no_schema, ◌≡◌, ◌≢◌, ℕ, ◌+◌, ◌<◌, ◌≤◌, Bool, true, false, not, ◌||◌, List, [], ◌∷◌, ◌++◌, map, length, refl, sym, ap, ◌∙◌, subst, arith, leb-true, append-nil, length-append, nat_lt, nat_le, Option, None, Some, is_some, IfSome, All, slice_index_or, list_any, option_map, not-false, not-true, length-map, All-append, All-map, All-from_recursion, All-nil, cases_lt, inl, inr, range_with_len, slice_index, if◌then◌else◌, both_answers, has_name, bytes_eq, bytes_eq-itself, Standing, a_room, a_door, a_box, IsBoxAt, IsDoorAt, IsRoomAt, first_state, rendering, robot_rooms, standings, standings-more, Atom, Problem, IsAtomOf, IsPatternOf, Thing, codes, All-push, NameLists, IsSchemaOf, Lexeme, lines_of, SignedAtom, is_empty, Statement, Block, plain, inside, operator_block, building_block, line_of, script, «axiom», operator, end, fact, of_weight, building_with, filled_up, with_sort, greatest, of_height, of_nodes, of_shapes, Command, Declared, OpenBlock, BlockKind, OpenOperator, of_operator, of_building, kind_of_block, number_in, atom_of, nothing_declared, after_line, predicate_names, predicate_arities, operator_names, ScriptValue, own_problem, content_of, is_robot, may_stand, is_long, repeats, same_block, has_two_domains, fault_at, is_formed, AreNamesOf, AreNumbered, HasShortLists, IsInRange, IsThingAfter, PassesLexemes, PassAll, IsScript, IsBuiltCommand, IsOfStage, Stage, whole_language, is_built, get_or-append, table, step, goal, proof, WrittenTable, of_table_steps, of_table_rows, table_steps, table_rows, Table, IsSavedTable, problem_of, CommandsInRange}
use Rattle.px_script.specs.Statements.{object, predicate, pre, delete, add, building, room, door, box, robot, height, nodes, shapes, weight, plan, learn, ask, Show, disturb_atoms, disturb_rooms, run, sort, param, facts, duo, edit, pursue, tree}
use Rattle.px_world.specs.declared.thing.Thing.TheVariants as thing
use Rattle.px_script.specs.Limits as limit
use Rattle.px_script.proofs.Atoms.{atoms-right, atoms-with, patterns-with, AreRight}
use Rattle.px_script.proofs.Buildings.{rooms-kind, doors-kind, boxes-kind, IsKind, AreOfKind, kind-known, kind-more, roles-kept, standing-more, robots-none, robots-some, is-building}
use Rattle.px_script.proofs.Commands.{commands-moved}
use Rattle.px_script.specs.Faultless.{IsFaultless}
use Rattle.px_script.proofs.Faultless.{no-fault, only-takes-away, stage-takes-away}
use Rattle.px_script.proofs.Forms.{IsWellFormed, well-formed}
use Rattle.px_script.proofs.KeptLines.{more-objects, saved-kept, in-version, sorts-filled, still-sorted, script-kept, sort-kept, few-objects, no-own, settings-kept, in-bounds, still-none, carried, Keeps, object-kept, predicate-kept, axiom-kept, fact-kept, operator-kept, ask-kept, facts-kept, disturb-atoms-kept, disturb-rooms-kept, run-kept, learn-kept, plan-kept, pursue-kept, tree-kept, duo-kept, edit-kept}
use Rattle.px_proof.specs.Derivation.{no_atom}
use Rattle.px_terms.specs.Validity.{IsValid}
use Rattle.px_table.proofs.DecidingLaws.{tables_are_decided}
use Rattle.px_table.specs.GrowthLaws as growth
use Rattle.px_script.proofs.KeptTables.{table-kept, step-kept, goal-kept, proof-kept, end-table}
use Rattle.px_script.proofs.Lists.{by_test, number-below, at-most, each-fails, same-number, at-name, is-new, each-pushed}
use Rattle.px_script.proofs.Problems.{heavier, same-lists, alike, atoms-kept, names-more, schema-kept}
use Rattle.px_script.specs.States.{AreInRange, AreRolesOf, IsBegun, OperatorsInRange, AreStanding}

-- ---- the lines of an operator's block, and its end

-- parameters of which some get a sort
with-sort-length : (s : ℕ) (ps names : List (List ℕ)) (sorts : List ℕ) → length (with_sort s ps names sorts) ≡ length names
with-sort-length s ps names sorts = rw (length-map, length-range_with_len) refl

sort-at : (most : ℕ) (sorts : List ℕ) → All (λ sort. sort ≤ most) sorts → (k : ℕ) → slice_index sorts k ≤ most
sort-at most sorts all k = elim (cases_lt k (length sorts)) [
  | inl below ↦ all k 0 below
  | inr above ↦ (let none = get_or_past sorts k 0 above in omega (arith, none))
]

with-sort-all : (s most : ℕ) → s ≤ most → (ps names : List (List ℕ)) (sorts : List ℕ) → All (λ sort. sort ≤ most) sorts
    → All (λ sort. sort ≤ most) (with_sort s ps names sorts)
with-sort-all s most small ps names sorts all = All-map (λ sort. sort ≤ most) _ (range_with_len 0 (length names))
    (λ k d below. chosen (has_name (slice_index_or names (slice_index_or (range_with_len 0 (length names)) k d) []) ps)
    (slice_index sorts (slice_index_or (range_with_len 0 (length names)) k d)) (sort-at most sorts all _))
  where
    chosen : (b : Bool) (old : ℕ) → old ≤ most → (if b then s else old) ≤ most
    chosen true old few = small
    chosen false old few = few

operators-named : (version : ℕ) (names : NameLists) (problem : Problem) (things : Option (List Thing))
    → length names.operators ≡ length problem.schemas → OperatorsInRange version names problem things None
operators-named version names problem None is = is
operators-named version names problem (Some things) is = tt

module _ (n : ℕ) (d : Declared) (line : ℕ) (o : OpenOperator) where
  abbrev c : Declared
  c = record d { block = Some (record { line = line; kind = of_operator o }) }

  -- a list of the operator with the atoms of a line
  grown : (P : Atom → Type 0) (old : List Atom) (xs : List SignedAtom) → length old + length xs ≤ 16 → All P old
      → All P (map (atom_of c []) xs) → All P (old ++ map (atom_of c []) xs) × (length (old ++ map (atom_of c []) xs) ≤ 16)
      × (length (old ++ map (atom_of c []) xs) < u32_max)
  grown P old xs few all more = let short : length (old ++ map (atom_of c []) xs) ≤ 16 = rw (length-append, length-map) few in
      (All-append P old (map (atom_of c []) xs) all more, short, omega (arith, short))

  module _ (xs : List SignedAtom) (r : AreInRange c) where
    plain-atoms : AreRight c plain xs → All (IsAtomOf (own_problem c) o.schema.params) (map (atom_of c []) xs)
    plain-atoms right = atoms-with c r xs plain refl (λ v. refl) o.schema.params (omega (arith, r.operators.params)) right

    pre-kept : Keeps n c (pre xs)
    pre-kept f = let right = atoms-right c (pre xs) xs (record { atoms = refl; arguments = refl }) f.right in
        let all = grown (IsAtomOf (own_problem c) o.schema.params) o.schema.pre xs (at-most _ _ f.limits.0) r.operators.schema.pre
        (plain-atoms right) in assumption (still-none c r, in-version c r, all)

    delete-kept : Keeps n c (delete xs)
    delete-kept f = let right = atoms-right c (delete xs) xs (record { atoms = refl; arguments = refl }) f.right in
        let all = grown (IsPatternOf (own_problem c) o.schema.params) o.schema.del xs (at-most _ _ f.limits.0) r.operators.schema.del
        (patterns-with c r xs o.schema.params (omega (arith, r.operators.params)) right) in assumption (still-none c r, in-version c r, all)

    add-kept : Keeps n c (add xs)
    add-kept f = let right = atoms-right c (add xs) xs (record { atoms = refl; arguments = refl }) f.right in
        let all = grown (IsAtomOf (own_problem c) o.schema.params) o.schema.add xs (at-most _ _ f.limits.0) r.operators.schema.add
        (plain-atoms right) in assumption (still-none c r, in-version c r, all)

  param-kept : (name : List ℕ) (ps : List (List ℕ)) → AreInRange c → Keeps n c (param name ps)
  param-kept name ps r f = let sort = number_in name d.sorts + 1 in let below = number-below name d.sorts f.known.0 in
      let old = r.operators.schema.sorts in let count = with-sort-length sort ps o.parameters o.schema.param_sorts in
      let params = r.operators.params in let all : length (with_sort sort ps o.parameters o.schema.param_sorts) ≡ o.schema.params =
      count ∙ sym params in
      let sorts = with-sort-all sort (length d.sorts) (omega (arith, below)) ps o.parameters o.schema.param_sorts old.1 in
      assumption (still-none c r, in-version c r, all, sorts)

  end-operator : AreInRange c → Keeps n c end
  end-operator r f = let is = r.operators in let all = d.schemas ++ o.schema ∷ [] in
      let q : Problem = record (own_problem d) { schemas = all } in let more = alike (own_problem d) q refl refl in
      let grows : growth.Grows (own_problem d) q = record {
        objects = omega arith;
        arities = ([], sym (append-nil d.arities));
        axioms = ([], sym (append-nil d.axioms));
        schemas = (o.schema ∷ [], refl);
        sorts = omega arith;
        object_sorts = ([], sym (append-nil (own_problem d).object_sorts));
      } in
      let old = carried c q d.things r grows (saved-kept c q d.things refl r grows) f.order.after in
      let counts : length d.names.operators ≡ length all = omega (arith, length-append d.schemas (o.schema ∷ []), is.named) in
      let few = r.names.few_operators in let short : length all < u32_max = omega (arith, counts, few) in
      let none : length d.names.objects ≡ 0 → All (λ schema. schema.params ≡ 0) all × All (λ clause. clause.variable_count ≡ 0) d.axioms = λ empty.
      let no = old.no_objects empty in (All-push (λ schema. schema.params ≡ 0) d.schemas o.schema no.0 (is.no_objects empty), no.1) in
      let of = schema-kept (own_problem d) q more (omega arith) _ o.schema is.schema in
      let each = each-pushed (IsSchemaOf q) d.schemas o.schema no_schema old.schemas of in
      let shorts = All-push (HasShortLists d.version) d.schemas o.schema r.problem.short_lists is.short_lists in
      let closed : Declared = record c { schemas = all; block = None; own_domain = d.own_domain || false; begun = true } in
      subst (λ saved. AreInRange (record closed { saved = saved })) (sym (append-nil d.saved))
      (assumption (still-none c r, in-version c r, old, each, shorts, operators-named d.version d.names q d.things counts))

-- a building's block is closed
end-building : (d : Declared) (line : ℕ) → AreInRange (record d { block = Some (record { line = line; kind = of_building }) })
    → OperatorsInRange d.version d.names (own_problem d) d.things None → IfSome d.things (λ things. list_any is_robot things ≡ true)
    → AreInRange (record d {
      schemas = d.schemas ++ [];
      saved = d.saved ++ [];
      block = None;
      own_domain = d.own_domain || false;
      begun = true;
    })
end-building d line r operators has_robot =
    let closed = record d { block = None; own_domain = d.own_domain || false; begun = true } in
    subst (λ schemas. AreInRange (record closed { schemas = schemas; saved = d.saved ++ [] })) (sym (append-nil d.schemas))
    (subst (λ saved. AreInRange (record closed { saved = saved })) (sym (append-nil d.saved))
    (assumption (
      still-none (record d { block = Some (record { line = line; kind = of_building }) }) r,
      in-version (record d { block = Some (record { line = line; kind = of_building }) }) r,
    )))

-- ---- buildings

small-arities : (version : ℕ) → All (λ n. n ≤ greatest version limit.arity) predicate_arities
small-arities version = each-fails (λ n. nat_lt 6 n) (λ n. n ≤ 6) (λ n e. at-most 6 n e) predicate_arities refl

-- Where there is no predicate no table stands in the script: its goal has an atom.
no-table : (p : Problem) (t : Table) {version : ℕ} {A : Type 0} → p.arities ≡ [] → IsSavedTable version p t → A
no-table p t none is = let of = (tables_are_decided p t).0 is.is_one in let some = is.some in
    let there = of.in_range.goal 0 no_atom (omega (arith, some)) in
    absurd (omega (arith, there.0.0, ap (λ (l : List ℕ). length l) none))

-- A building begins where no names are declared, but results.
module _ (n : ℕ) (d : Declared) where
  abbrev IsBegunBy : List (List ℕ) → List (List ℕ) → List (List ℕ) → List ℕ → Type 0
  IsBegunBy objects predicates operators arities =
      let names = record d.names { objects = objects; predicates = predicates; operators = operators } in
      let e = record d { names = names; arities = arities; things = None; block = None } in
      AreInRange e → AreInRange (after_line n e building)

  building-begun : not (is_empty d.commands) ≡ false → IsBegunBy [] [] [] []
  building-begun early r = let no_names = record d.names { objects = []; predicates = []; operators = [] } in
      let e = record d { names = no_names; arities = []; things = None; block = None } in
      let q : Problem = record (own_problem e) { objects = 1; object_sorts = filled_up 1 d.object_sorts; arities = predicate_arities } in
      let more_objects = more-objects (own_problem e) 1 d.object_sorts (omega arith) r.sorts.count refl in
      let more : growth.Grows (own_problem e) q = record {
        objects = omega arith;
        arities = (predicate_arities, refl);
        axioms = more_objects.axioms;
        schemas = more_objects.schemas;
        sorts = omega arith;
        object_sorts = more_objects.object_sorts;
      } in
      let none_saved : All (λ one. IsSavedTable d.version (problem_of q (Some [])) one.1) d.saved =
      λ k one below. no-table (own_problem e) _ refl (r.saved k one below) in
      let still = still-sorted d.version 0 1 d.sorts d.object_sorts (omega arith) r.sorts in
      let sorts = sorts-filled q 1 d.object_sorts still.count r.sorts.numbers (omega arith) in
      let one : 1 ≤ greatest d.version limit.objects =
      by_test (nat_le d.version 1) (λ two. rw two (omega arith)) (λ old. rw old (omega arith)) in
      let few_predicates : length predicate_names ≤ 64 = omega arith in let few_operators : length operator_names ≤ 32 = omega arith in
      let short : length predicate_arities < u32_max = omega arith in let standing : AreStanding [] = search (All-nil, leb-true) in
      let objects_are = names-more d.version [] (robot_name ∷ []) r.names.objects refl refl in
      let predicates_are = names-more d.version [] predicate_names r.names.predicates refl refl in
      let operators_are = names-more d.version [] operator_names r.names.operators refl refl in
      let roles = roles-kept [] (robot_name ∷ []) (robot_name ∷ []) [] [] [] d.roles refl refl r.roles in
      let names = record d.names { objects = robot_name ∷ []; predicates = predicate_names; operators = operator_names } in
      let none = no-own [] (d.own_domain || false) names predicate_arities d.version d.facts in let small = small-arities d.version in
      assumption (
        objects_are,
        predicates_are,
        operators_are,
        small,
        sorts,
        carried e q (Some []) r more none_saved early,
        roles,
        none,
        still,
        in-version e r,
      )

  building-kept : AreInRange (record d { block = None; things = None }) → IsFaultless (record d { block = None; things = None }) building
      → AreInRange (after_line n (record d { block = None; things = None }) building)
  building-kept r f = let is = r.own_domain f.order.domains refl in
      subst (λ t. IsBegunBy t d.names.predicates d.names.operators d.arities) (sym is.objects)
      (subst (λ t. IsBegunBy [] t d.names.operators d.arities) (sym is.predicates)
      (subst (λ t. IsBegunBy [] [] t d.arities) (sym is.operators)
      (subst (λ t. IsBegunBy [] [] [] t) (sym is.arities) (building-begun f.order.after)))) r

-- lines inside a building

module _ (n : ℕ) (d : Declared) (line : ℕ) (things : List Thing) where
  abbrev b : Declared
  b = record d { block = Some (record { line = line; kind = of_building }); things = Some things }

  -- what the building keeps with one more thing
  begun-kept : AreInRange b → (objects : List (List ℕ)) (t : Thing) → IsThingAfter things t
      → length (robot_rooms things) + length (robot_rooms (t ∷ [])) ≤ 1
      → length objects ≡ length d.names.objects + length (standings (t ∷ [])) → slice_index_or objects 0 [] ≡ robot_name
      → IsBegun objects d.names.predicates d.names.operators d.arities (things ++ t ∷ [])
  begun-kept r objects t right single count first = let is = r.building in
      let counts : length objects ≡ length (standings (things ++ t ∷ [])) + 1 =
      omega (arith, count, is.objects_are, ap length (standings-more things t), length-append (standings things) (standings (t ∷ []))) in
      assumption (standing-more things t is.standing right single)

  -- A building with one more thing that has a name.
  named-kept : AreInRange b → (name : List ℕ) (t : Thing) (one : Standing) (rooms doors boxes : List (List ℕ))
      → not (is_empty d.commands) ≡ false → standings (t ∷ []) ≡ one ∷ [] → robot_rooms (t ∷ []) ≡ []
      → repeats d.names.objects (name ∷ []) ≡ false → list_any (is_long d.version) (name ∷ []) ≡ false
      → nat_lt (greatest d.version limit.objects) (length d.names.objects + 1) ≡ false → IsThingAfter things t
      → AreRolesOf (d.names.objects ++ name ∷ []) (record d.roles { rooms = rooms; doors = doors; boxes = boxes }) (things ++ t ∷ [])
      → AreInRange (record b {
        names = record d.names { objects = d.names.objects ++ name ∷ [] };
        things = Some (things ++ t ∷ []);
        roles = record d.roles { rooms = rooms; doors = doors; boxes = boxes };
        own_domain = d.own_domain || false;
        begun = true;
      })
  named-kept r name t one rooms doors boxes early stands no_robot single short full right of_things =
      let objects = d.names.objects ++ name ∷ [] in
      let q : Problem = record (own_problem d) { objects = length objects; object_sorts = filled_up (length objects) d.object_sorts } in
      let count = length-append d.names.objects (name ∷ []) in
      let more = more-objects (own_problem d) (length objects) d.object_sorts (omega (arith, count)) r.sorts.count refl in
      let few : length objects ≤ greatest d.version limit.objects = rw length-append (at-most _ _ full) in let is = r.building in
      let still = still-sorted d.version _ (length objects) d.sorts d.object_sorts more.objects r.sorts in
      let sorts = sorts-filled q (length objects) d.object_sorts still.count r.sorts.numbers (few-objects d.version (length objects) few) in
      let begun = begun-kept r objects t right (omega (arith, ap length no_robot, is.standing.one_robot))
      (omega (arith, count, ap length stands))
      (get_or-append d.names.objects (name ∷ []) [] 0 (omega (arith, is.objects_are)) ∙ is.robot_first) in
      let none = no-own (things ++ t ∷ []) (d.own_domain || false) (record d.names { objects = objects }) d.arities d.version d.facts in
      let names = names-more d.version d.names.objects (name ∷ []) r.names.objects single short in
      let saved = saved-kept b q (Some (things ++ t ∷ [])) refl r more in
      assumption (names, carried b q (Some (things ++ t ∷ [])) r more saved early, begun, sorts, none, still, in-version b r)

  -- a name of a room
  room-at : AreInRange b → (name : List ℕ) → has_name name d.roles.rooms ≡ true
      → IsRoomAt (standings things) (number_in name d.names.objects)
  room-at r name known = at-name (λ m. IsRoomAt (standings things) (number_in m d.names.objects)) d.roles.rooms name r.roles.rooms known

  -- The roles with one more room, door or box: what they were, and the new name.
  module _ (r : AreInRange b) (name : List ℕ) (t : Thing) (one : Standing) (stands : standings (t ∷ []) ≡ one ∷ [])
      (single : repeats d.names.objects (name ∷ []) ≡ false) where
    still : AreRolesOf (d.names.objects ++ name ∷ []) d.roles (things ++ t ∷ [])
    still = roles-kept d.names.objects (name ∷ []) _ things (things ++ t ∷ []) (standings (t ∷ [])) d.roles refl (standings-more things t)
        r.roles

    with-name : (P : List Standing → ℕ → Type 0) → IsKind P → ((xs : List Standing) (k : ℕ) → thing_at xs k ≡ Some one → P xs k)
        → (names : List (List ℕ)) → AreOfKind P d.names.objects things names
        → AreOfKind P (d.names.objects ++ name ∷ []) (things ++ t ∷ []) (names ++ name ∷ [])
    with-name P kind is names old =
        kind-more P kind d.names.objects name things t one names stands is (is-new d.names.objects name single) r.building.objects_are old

  room-kept : (name : List ℕ) → AreInRange b → Keeps n b (room name)
  room-kept name r f =
      let more = with-name r name thing.Room a_room refl f.single.0 IsRoomAt rooms-kind (λ xs k is. is) d.roles.rooms r.roles.rooms in
      named-kept r name thing.Room a_room (d.roles.rooms ++ name ∷ []) d.roles.doors d.roles.boxes f.order.after refl refl f.single.0
      f.short.0 f.limits.0 tt (assumption (still r name thing.Room a_room refl f.single.0, more))

  door-kept : (name one other : List ℕ) (is_open : Bool) → AreInRange b → Keeps n b (door name one other is_open)
  door-kept name one other is_open r f =
      let x = number_in one d.names.objects in let y = number_in other d.names.objects in
      let one_room = room-at r one f.known.0 in let other_room = room-at r other f.known.1.0 in
      let known = kind-known IsRoomAt rooms-kind d.names.objects (standings things) in
      let differ : x ≢ y = λ same.
      let equal = same-number one other d.names.objects (known one one_room) (known other other_room) same in
      both_answers (bytes_eq one other) f.itself (ap (bytes_eq one) (sym equal) ∙ bytes_eq-itself one) in
      let t = thing.Door x y is_open in let d_one = a_door x y is_open in
      let more = with-name r name t d_one refl f.single.0 IsDoorAt doors-kind (λ xs k is. (x, y, is_open, is)) _ r.roles.doors in
      named-kept r name t d_one d.roles.rooms (d.roles.doors ++ name ∷ []) d.roles.boxes f.order.after refl refl f.single.0
      f.short.0 f.limits.0 (one_room, other_room, differ) (assumption (still r name t d_one refl f.single.0, more))

  box-kept : (name in_room : List ℕ) → AreInRange b → Keeps n b (box name in_room)
  box-kept name in_room r f = let x = number_in in_room d.names.objects in let t = thing.Box x in let one = a_box x None in
      let more = with-name r name t one refl f.single.0 IsBoxAt boxes-kind (λ xs k is. (x, None, is)) _ r.roles.boxes in
      named-kept r name t one d.roles.rooms d.roles.doors (d.roles.boxes ++ name ∷ []) f.order.after refl refl
      f.single.0 f.short.0 f.limits.0 (room-at r in_room f.known.0) (assumption (still r name t one refl f.single.0, more))

  robot-kept : (in_room : List ℕ) → AreInRange b → Keeps n b (robot in_room)
  robot-kept in_room r f = let t = thing.Robot (number_in in_room d.names.objects) in let p : Problem = own_problem d in
      let begun = begun-kept r d.names.objects t (room-at r in_room f.known.0) (omega (arith, robots-none things f.itself)) (omega arith)
      r.building.robot_first in
      let roles = roles-kept d.names.objects [] d.names.objects things (things ++ t ∷ []) (standings (t ∷ [])) d.roles
      (sym (append-nil d.names.objects)) (standings-more things t) r.roles in
      let none = no-own (things ++ t ∷ []) (d.own_domain || false) d.names d.arities d.version d.facts in
      let more = same-lists p p refl refl refl refl (omega arith) refl in
      assumption (
        begun,
        roles,
        carried b p (Some (things ++ t ∷ [])) r more (saved-kept b p (Some (things ++ t ∷ [])) refl r more) f.order.after,
        none,
        in-version b r,
      )

-- ---- where lines stand

module _ (n : ℕ) (d : Declared) (s : Statement) where
  abbrev IsKept : Option OpenBlock → Option (List Thing) → Type 0
  IsKept block things = let e = record d { block = block; things = things } in AreInRange e → Keeps n e s

  inside-operator : ((line : ℕ) (o : OpenOperator) → IsKept (Some (record { line = line; kind = of_operator o })) d.things)
      → (block : Option OpenBlock) → may_stand (option_map (λ b. kind_of_block b.kind) block) (inside operator_block) ≡ true
      → IsKept block d.things
  inside-operator kept None stands = cc
  inside-operator kept (Some block) stands = by_kind block.line block.kind stands
    where
      by_kind : (line : ℕ) (kind : BlockKind) → same_block (kind_of_block kind) operator_block ≡ true
          → IsKept (Some (record { line = line; kind = kind })) d.things
      by_kind line (of_operator o) stands = kept line o
      by_kind line _ stands = cc

  inside-steps : ((line : ℕ) (t : WrittenTable) → IsKept (Some (record { line = line; kind = of_table_steps t })) d.things)
      → (block : Option OpenBlock) → may_stand (option_map (λ b. kind_of_block b.kind) block) (inside table_steps) ≡ true
      → IsKept block d.things
  inside-steps kept None stands = cc
  inside-steps kept (Some block) stands = by_kind block.line block.kind stands
    where
      by_kind : (line : ℕ) (kind : BlockKind) → same_block (kind_of_block kind) table_steps ≡ true
          → IsKept (Some (record { line = line; kind = kind })) d.things
      by_kind line (of_table_steps t) stands = kept line t
      by_kind line _ stands = cc

  inside-rows : ((line : ℕ) (t : WrittenTable) → IsKept (Some (record { line = line; kind = of_table_rows t })) d.things)
      → (block : Option OpenBlock) → may_stand (option_map (λ b. kind_of_block b.kind) block) (inside table_rows) ≡ true
      → IsKept block d.things
  inside-rows kept None stands = cc
  inside-rows kept (Some block) stands = by_kind block.line block.kind stands
    where
      by_kind : (line : ℕ) (kind : BlockKind) → same_block (kind_of_block kind) table_rows ≡ true
          → IsKept (Some (record { line = line; kind = kind })) d.things
      by_kind line (of_table_rows t) stands = kept line t
      by_kind line _ stands = cc

  inside-building : ((line : ℕ) (things : List Thing) → IsKept (Some (record { line = line; kind = of_building })) (Some things))
      → (block : Option OpenBlock) → may_stand (option_map (λ b. kind_of_block b.kind) block) (inside building_block) ≡ true
      → IsKept block d.things
  inside-building kept None stands = cc
  inside-building kept (Some block) stands = by_kind block.line block.kind d.things stands
    where
      by_kind : (line : ℕ) (kind : BlockKind) (things : Option (List Thing)) → same_block (kind_of_block kind) building_block ≡ true
          → IsKept (Some (record { line = line; kind = kind })) things
      by_kind line of_building (Some things) stands = kept line things
      by_kind line of_building None stands = λ r f. let no = r.block in cc
      by_kind line _ things stands = cc

end-kept : (n : ℕ) (d : Declared) (block : Option OpenBlock) (things : Option (List Thing)) → IsKept n d end block things
end-kept n d None things = λ r f. let no = f.order.stands in cc
end-kept n d (Some block) things = by_kind block.line block.kind things
  where
    by_kind : (line : ℕ) (kind : BlockKind) (things : Option (List Thing))
        → IsKept n d end (Some (record { line = line; kind = kind })) things
    by_kind line (of_operator o) things = end-operator n (record d { things = things }) line o
    by_kind line of_building (Some things) =
        λ r f. end-building (record d { things = Some things }) line r tt (not-false _ f.order.robot)
    by_kind line of_building None = λ r f. let no = r.block in cc
    by_kind line (of_table_steps t) things = λ r f. let no = f.no_bad_table in cc
    by_kind line (of_table_rows t) things = end-table n (record d { things = things }) line t

-- ---- all lines

module _ (n : ℕ) (d : Declared) where
  building-line : (things : Option (List Thing)) → IsKept n d building None things
  building-line None = building-kept n d
  building-line (Some things) = λ r f. let no = f.itself in cc

  -- a line that stands in no block, and one that a building excludes
  module _ (s : Statement) (never : (block : Block) → may_stand (Some block) (line_of s).place ≡ false) where
    outside : (block : Option OpenBlock) (things : Option (List Thing)) → IsKept n d s None things → IsKept n d s block things
    outside None things kept = kept
    outside (Some block) things kept =
        λ r f. both_answers (may_stand (Some (kind_of_block block.kind)) (line_of s).place) (never _) f.order.stands

    alone : ((things : List Thing) → has_two_domains (record d { block = None; things = Some things }) (line_of s).place ≡ true)
        → IsKept n d s None None → (things : Option (List Thing)) → IsKept n d s d.block things
    alone two kept None = outside d.block None kept
    alone two kept (Some things) = outside d.block (Some things)
        (λ r f. both_answers (has_two_domains (record d { block = None; things = Some things }) (line_of s).place) f.order.domains
        (two things))

  pub line-kept : (r : AreInRange d) (s : Statement) → IsWellFormed d (line_of s) → Keeps n d s
  line-kept r (script version) w = outside _ (λ b. refl) d.block d.things (λ r. script-kept n d r version) r
  line-kept r (sort name ns) w = alone _ (λ b. refl) (λ t. refl) (λ r. sort-kept n d r name ns) d.things r
  line-kept r (param name ps) w = λ f. inside-operator n d _ (λ line o. param-kept n d line o name ps) d.block f.order.stands r f
  line-kept r (object ns) w = alone _ (λ b. refl) (λ t. refl) (λ r. object-kept n d r ns) d.things r
  line-kept r (predicate name arity) w = alone _ (λ b. refl) (λ t. refl) (λ r. predicate-kept n d r name arity) d.things r
  line-kept r («axiom» xs) w = alone _ (λ b. refl) (λ t. refl) (λ r. axiom-kept n d r xs w.filled) d.things r
  line-kept r (operator name ps) w = alone _ (λ b. refl) (λ t. refl) (λ r. operator-kept n d r name ps) d.things r
  line-kept r (fact xs) w = alone _ (λ b. refl) (λ t. refl) (λ r. fact-kept n d r xs) d.things r
  line-kept r building w = outside _ (λ b. refl) d.block d.things (building-line d.things) r
  line-kept r (pre xs) w = λ f. inside-operator n d _ (λ line o. pre-kept n d line o xs) d.block f.order.stands r f
  line-kept r (delete xs) w = λ f. inside-operator n d _ (λ line o. delete-kept n d line o xs) d.block f.order.stands r f
  line-kept r (add xs) w = λ f. inside-operator n d _ (λ line o. add-kept n d line o xs) d.block f.order.stands r f
  line-kept r (room name) w = λ f. inside-building n d _ (λ line things. room-kept n d line things name) d.block f.order.stands r f
  line-kept r (door name one other is_open) w = λ f.
      inside-building n d _ (λ line things. door-kept n d line things name one other is_open) d.block f.order.stands r f
  line-kept r (box name in_room) w = λ f.
      inside-building n d _ (λ line things. box-kept n d line things name in_room) d.block f.order.stands r f
  line-kept r (robot in_room) w = λ f. inside-building n d _ (λ line things. robot-kept n d line things in_room) d.block f.order.stands r f
  line-kept r end w = end-kept n d d.block d.things r
  line-kept r (height most) w = outside _ (λ b. refl) d.block d.things (λ r f. let v = r.problem.valid in settings-kept n d r
      (Some most) d.nodes d.shapes d.weight f.order.after (in-bounds of_height most f.limits.0) r.problem.nodes v.shapes r.problem.weight) r
  line-kept r (nodes most) w = outside _ (λ b. refl) d.block d.things (λ r f. let v = r.problem.valid in settings-kept n d r
      d.height (Some most) d.shapes d.weight f.order.after v.height (in-bounds (of_nodes d.version) most f.limits.0) v.shapes
      r.problem.weight) r
  line-kept r (shapes most) w = outside _ (λ b. refl) d.block d.things (λ r f. let v = r.problem.valid in settings-kept n d r
      d.height d.nodes (Some most) d.weight f.order.after v.height r.problem.nodes (in-bounds of_shapes most f.limits.0) r.problem.weight) r
  line-kept r (weight most) w = outside _ (λ b. refl) d.block d.things (λ r f. let v = r.problem.valid in settings-kept n d r
      d.height d.nodes d.shapes (Some most) f.order.after v.height r.problem.nodes v.shapes
      (in-bounds (of_weight d.version) most f.limits.0)) r
  line-kept r (plan name xs) w = outside _ (λ b. refl) d.block d.things (λ r. plan-kept n d r name xs w.filled) r
  line-kept r (learn name source) w = outside _ (λ b. refl) d.block d.things (λ r. learn-kept n d r name source) r
  line-kept r (ask about name) w = outside _ (λ b. refl) d.block d.things (λ r. ask-kept n d r about name) r
  line-kept r (disturb_atoms turn between xs) w = outside _ (λ b. refl) d.block d.things
      (λ r. disturb-atoms-kept n d r turn between xs w.filled (not-true _ w.of_script)) r
  line-kept r (disturb_rooms turn between es) w = outside _ (λ b. refl) d.block d.things
      (λ r. disturb-rooms-kept n d r turn between es w.filled w.of_script) r
  line-kept r (run name bs) w = outside _ (λ b. refl) d.block d.things (λ r. run-kept n d r name bs w.filled) r
  line-kept r (duo one other ns) w = outside _ (λ b. refl) d.block d.things (λ r. duo-kept n d r one other ns w.filled) r
  line-kept r (edit name source prefix ps) w =
      outside _ (λ b. refl) d.block d.things (λ r. edit-kept n d r name source prefix ps w.filled) r
  line-kept r facts w = outside _ (λ b. refl) d.block d.things (λ r. facts-kept n d r) r
  line-kept r (tree name most xs) w = outside _ (λ b. refl) d.block d.things (λ r. tree-kept n d r name most xs w.filled) r
  line-kept r (table name parameters) w = outside _ (λ b. refl) d.block d.things (λ r. table-kept n d r name parameters) r
  line-kept r (step o ts) w = λ f. inside-steps n d (step o ts) (λ line t r. step-kept n d line t r o ts) d.block f.order.stands r f
  line-kept r (goal xs) w = λ f. inside-steps n d (goal xs) (λ line t r. goal-kept n d line t r xs w.filled) d.block f.order.stands r f
  line-kept r (proof parts) w = λ f. inside-rows n d (proof parts) (λ line t r. proof-kept n d line t r parts) d.block f.order.stands r f
  line-kept r (pursue name xs) w = outside _ (λ b. refl) d.block d.things (λ r. pursue-kept n d r name xs w.filled) r

-- what a line without a fault keeps, all lines keep

module _ (stage : Stage) (P : Declared → Type 0) (kept : (n : ℕ) (d : Declared) (s : Statement) → P d → is_formed d (line_of s) ≡ true
    → fault_at stage d s ≡ None → P (after_line n d s)) where
  passes-keep : (n : ℕ) (d : Declared) (lexemes : List Lexeme) (after : Declared) → P d → PassesLexemes stage n d lexemes after → P after
  passes-keep n d [] after r passes = subst P (sym passes) r
  passes-keep n d (x ∷ xs) after r passes = subst P (sym passes.3) (kept n d passes.0 r passes.1.1 passes.2)

  lines-keep : (n : ℕ) (d : Declared) (lines : List (List ℕ)) (after : Declared) → P d → PassAll stage n d lines after → P after
  lines-keep n d [] after r pass = subst P (sym pass) r
  lines-keep n d (line ∷ lines) after r pass = lines-keep (n + 1) pass.0 lines after (passes-keep n d pass.1.0 pass.0 r pass.1.2) pass.2

formed-kept : (stage : Stage) (n : ℕ) (d : Declared) (s : Statement) → AreInRange d → is_formed d (line_of s) ≡ true
    → fault_at stage d s ≡ None → AreInRange (after_line n d s)
formed-kept stage n d s r formed none = line-kept n d r s (well-formed d (line_of s) formed) (no-fault stage d s none).1

pub passes-kept : (stage : Stage) (n : ℕ) (d : Declared) (lexemes : List Lexeme) (after : Declared) → AreInRange d
    → PassesLexemes stage n d lexemes after → AreInRange after
passes-kept stage = passes-keep stage AreInRange (formed-kept stage)

pub lines-kept : (stage : Stage) (n : ℕ) (d : Declared) (lines : List (List ℕ)) (after : Declared) → AreInRange d
    → PassAll stage n d lines after → AreInRange after
lines-kept stage = lines-keep stage AreInRange (formed-kept stage)

-- ---- before all lines, and at the end

-- an empty list has no place
no-index : {P : Type 0} (k : ℕ) → k < 0 → P
no-index k below = absurd (omega (arith, below))

pub start-in-range : AreInRange nothing_declared
unfolding IsStrictlySortedBy
start-in-range =
    let no_names : AreNamesOf 1 [] = record { distinct = λ i j t before below. no-index j below; short = All-nil (λ n. length n ≤ 64) } in
    search (no_names, All-nil, no-index, leb-true) depth 8

module _ (d : Declared) where
  -- no block of a table is open
  plain-blocks : {problem : Problem} {building : Option (List Thing)}
      → CommandsInRange d.version problem building (map (λ one. one.0) d.saved ++ []) (length d.names.results) d.commands
      → CommandsInRange d.version problem building (map (λ one. one.0) d.saved) (length d.names.results) d.commands
  plain-blocks {problem} {building} is =
      subst (λ first. CommandsInRange d.version problem building first (length d.names.results) d.commands)
      (append-nil (map (λ one. one.0) d.saved)) is

  few-left : length (map (λ (one : ℕ × Table). one.0) d.saved ++ []) ≤ greatest d.version limit.tables
      → length d.saved ≤ greatest d.version limit.tables
  few-left few = let same = ap (λ (l : List ℕ). length l) (append-nil (map (λ (one : ℕ × Table). one.0) d.saved)) in
      let count = length-map d.saved (λ (one : ℕ × Table). one.0) in omega (arith, few, same, count)

  -- without a building, and with one
  closed-in-range : (block : Option OpenBlock) (things : Option (List Thing)) → block ≡ None
      → AreInRange (record d { block = block; things = things }) → IsInRange (content_of (record d { block = block; things = things }))
  closed-in-range (Some block) things closed r = cc
  closed-in-range None None closed r = let within = in-version (record d { block = None; things = None }) r in
      assumption (within, few-left r.few_saved, plain-blocks r.commands)
  closed-in-range None (Some things) closed r = let is = r.building in
      let of_things = is-building things is.standing (robots-some things r.block) in let p : Problem = own_problem d in
      let q : Problem = building_with p.objects p.height p.nodes p.shapes p.weight in let rules = building_rules (first_state things) in
      let facts_are = facts-are-atoms (first_state things) of_things.1 in let l = r.problem.valid in
      let some : 1 ≤ p.objects = omega (arith, is.objects_are) in
      let few_objects = few-objects d.version p.objects r.names.few_objects in
      let light = buildings_are_valid p.objects p.height p.nodes p.shapes (some, few_objects) l.height l.nodes l.shapes in
      let valid : IsValid q = heavier _ p.weight l.weight light in
      let laws = All-from_recursion (λ clause. AreNumbered clause.variable_count (map (λ lit. lit.atom) clause.lits)) (both_ways ∷ []) (refl, tt) in
      let schemas = All-from_recursion (HasShortLists d.version) room_schemas (search leb-true depth 20) in
      let count = sym (ap length is.predicates_are) in let operators = ap length is.operators_are in
      let few = (no-own things true d.names [] d.version (rendering (first_state things))).1 in
      let atoms = atoms-kept rules q (alike rules q (sym is.objects_are) refl) 0 (rendering (first_state things)) facts_are.1 in
      let moved = commands-moved d.version p q things _ _ refl (alike p q refl is.arities_are) d.commands r.commands in
      let small = small-arities d.version in
      let no_sorts : 0 ≤ greatest d.version limit.sorts = omega arith in
      let within = in-version (record d { block = None; things = Some things }) r in
      assumption (
        valid,
        laws,
        schemas,
        count,
        operators,
        few,
        atoms,
        plain-blocks moved,
        few-left r.few_saved,
        small,
        facts_are.0,
        is.standing.earlier,
        of_things,
        no_sorts,
        within,
      )

-- what lines have declared that leave no block open is in range
pub declared-in-range : (d : Declared) → AreInRange d → d.block ≡ None → IsInRange (content_of d)
declared-in-range d r closed = closed-in-range d d.block d.things closed r

pub in-range : (stage : Stage) (bytes : List ℕ) (content : ScriptValue) → IsScript stage bytes content → IsInRange content
in-range stage bytes content is = let r = lines-kept stage 1 nothing_declared (lines_of bytes) is.last start-in-range is.spells.lines in
    subst IsInRange (sym is.is) (declared-in-range is.last r is.spells.closed)

-- ---- a script is one in the whole language, too

pass-there : (stage : Stage) (n : ℕ) (d : Declared) (lines : List (List ℕ)) (after : Declared) → PassAll stage n d lines after
    → PassAll whole_language n d lines after
pass-there stage n d [] after pass = pass
pass-there stage n d (line ∷ lines) after pass =
    (pass.0, (pass.1.0, pass.1.1, passes-there pass.1.0 pass.0 pass.1.2), pass-there stage (n + 1) pass.0 lines after pass.2)
  where
    passes-there : (lexemes : List Lexeme) (after : Declared) → PassesLexemes stage n d lexemes after
        → PassesLexemes whole_language n d lexemes after
    passes-there [] after passes = passes
    passes-there (x ∷ xs) after passes = (passes.0, passes.1, stage-takes-away stage d passes.0 passes.2, passes.3)

pub script-there : (stage : Stage) (bytes : List ℕ) (content : ScriptValue) → IsScript stage bytes content
    → IsScript whole_language bytes content
script-there stage bytes content is = let lines = pass-there stage 1 nothing_declared (lines_of bytes) is.last is.spells.lines in
    record { last = is.last; spells = record { text = is.spells.text; lines = lines; closed = is.spells.closed }; is = is.is }

-- ---- what lines keep as far as the language is built

module _ (stage : Stage) where
  record AreOfStage (d : Declared) : Type 0 where
    building : is_some d.things ≡ true → is_built stage (codes "building") ≡ true
    commands : All (IsBuiltCommand stage) d.commands

  module _ (n : ℕ) (d : Declared) (r : AreOfStage d) where
    -- a thing more in a building, if there is one
    thing-more : (thing : Thing) → is_some (option_map (λ things. things ++ thing ∷ []) d.things) ≡ true
        → is_built stage (codes "building") ≡ true
    thing-more thing is = r.building (sym (same d.things) ∙ is)
      where
        same : (things : Option (List Thing)) → is_some (option_map (λ things. things ++ thing ∷ []) things) ≡ is_some things
        same None = refl
        same (Some things) = refl

    command-more : (c : Command) → IsBuiltCommand stage c → All (IsBuiltCommand stage) (d.commands ++ c ∷ [])
    command-more c built = All-push (IsBuiltCommand stage) d.commands c r.commands built

    line-of-stage : (s : Statement) → is_built stage (line_of s).word ≡ true → AreOfStage (after_line n d s)
    line-of-stage building built = record { building = λ is. built; commands = r.commands }
    line-of-stage (ask Show n) built = search (command-more)
    line-of-stage _ built = search (thing-more, command-more)

  pub of-stage : (bytes : List ℕ) (content : ScriptValue) → IsScript stage bytes content → IsOfStage stage content
  of-stage bytes content is =
      let r = lines-keep stage AreOfStage (λ n d s r formed none. line-of-stage n d r s (not-false _ (no-fault stage d s none).0))
      1 nothing_declared (lines_of bytes) is.last (record { building = λ is. cc; commands = All-nil _ }) is.spells.lines in
      subst (IsOfStage stage) (sym is.is) (record { building = r.building; commands = r.commands })

pub ruleset stages_take_away = (only-takes-away, script-there)
