use Rattle.std.proofs.Common.{rules, ◌≡◌, ◌+◌, ◌-◌, ◌≤◌, ◌∷◌, [], false, true, ℕ, List, ◌++◌, length, take, get_or, reverse, arith, ap, sym, ◌∙◌, refl}
use Rattle.px_proof.specs.Literals.{substitute_literal}
use Rattle.px_proof.specs.declared.shape.Tick.{Tick}
use Rattle.px_terms.specs.declared.clause.Clause.{Clause}
use Rattle.px_terms.specs.declared.clause.Lit.{Lit}
use Rattle.px_terms.specs.declared.term.Term.{Term}
use Rattle.px_unify.specs.Changes.{variables_of}
use Rattle.px_terms.specs.Substitution.{variables_from}
use Rattle.std.proofs.lemmas.List.{get_or_default, reverse-append}
use Rattle.px_proof_state.specs.declared.open.Choice.{Choice}
use Rattle.px_proof_state.specs.Steps.{new_literal, no_literal, MatchesFresh}
use Rattle.px_proof_state.proofs.ApartLemmas.{untried-step}
use Rattle.px_proof_state.proofs.NewVariables.{shifted-lit, match-as}
use Rattle.px_proof_state.proofs.open.ProofState.close_by_step.Goals as goal

-- the last choice comes first
pushed : (items choices : List Choice) (tick : Tick) (mark m goals goals_as first : ℕ)
    → choices ≡ items ++ record { tick = tick; mark = mark; goals = goals; first = first } ∷ [] → mark ≡ m → goals ≡ goals_as
    → reverse choices ≡ record { tick = tick; mark = m; goals = goals_as; first = first } ∷ reverse items
pushed items choices tick mark m goals goals_as first is mark_is goals_is =
    ap reverse is ∙ reverse-append items (record { tick = tick; mark = mark; goals = goals; first = first } ∷ [])
    ∙ (λ i. record { tick = tick; mark = mark_is i; goals = goals_is i; first = first } ∷ reverse items)

-- the code's literal is the clause's with new variables
literal : (lits : List Lit) (place n variable_count : ℕ) (theta : List Term) (lit found : Lit) → theta ≡ variables_from n variable_count
    → found ≡ get_or lits place found → Rattle.std.proofs.Common.◌<◌ place (length lits) → lit ≡ substitute_literal theta found
    → lit ≡ new_literal n (record { variable_count = variable_count; lits = lits }) place
literal lits place n variable_count theta lit found theta_is found_is within is =
    is ∙ ap (λ ts. substitute_literal ts found) theta_is
    ∙ ap (substitute_literal (variables_from n variable_count)) (found_is ∙ get_or_default lits place found no_literal within)

pub returns : goal.returns
returns c =
    let clause : Clause = record { variable_count = c.args.variable_count; lits = c.args.lits.now } in
    let theta_is : take c.args.variable_count c.variables_after-terms.result ≡ variables_from (variables_of c.self.inside.bind) c.args.variable_count =
    c.variables_after-terms.ensures ∙ ap (λ n. variables_from n c.args.variable_count) c.variables.ensures.count in
    let is : c.apply_literal-lit.result ≡ new_literal (variables_of c.self.inside.bind) clause c.args.place =
    literal c.args.lits.now c.args.place (variables_of c.self.inside.bind) c.args.variable_count
    (take c.args.variable_count c.variables_after-terms.result) c.apply_literal-lit.result c.index-lits-place-2.result theta_is
    c.index-lits-place-2.is c.requires.place c.apply_literal-lit.ensures in
    let lens : c.len.result ≡ length c.self.inside.goals.items = search (rules, c.len.ensures, c.self.inside.goals.ok) in
    rw (← c.self.view_is)
    (record {
      is_match =
          match-as c.self.inside.bind c.matches_fresh.new.bind c.args.variable_count c.args.goal.now.lit c.apply_literal-lit.result _ _ true is
          c.in-Ok-true.field-0-test c.in-Ok-true.ensures;
      chosen =
          λ is_found. pushed c.self.inside.choices.items c.push.new.self.items c.args.tick c.mark-mark.result
          (length c.self.inside.bind) c.len.result (length c.self.inside.goals.items) c.self.inside.first c.in-Ok-push.ensures.items
          c.mark-mark.ensures.place lens;
      grown = λ is_found. c.in-Ok.ensures.grown;
      older = λ is_found. c.in-Ok.ensures.older;
      arena = λ is_found. c.in-Ok.ensures.arena;
      opened = λ is_found. rw theta_is at c.in-Ok.ensures.opened;
      unchanged = λ is_not. absurd (cc);
    })

pub matches_fresh-requires-clause-lit_below : goal.matches_fresh-requires-clause-lit_below
matches_fresh-requires-clause-lit_below c =
    let clause : Clause = record { variable_count = c.args.variable_count; lits = c.args.lits.now } in
    let theta_is : take c.args.variable_count c.variables_after-terms.result ≡ variables_from (variables_of c.self.inside.bind) c.args.variable_count =
    c.variables_after-terms.ensures ∙ ap (λ n. variables_from n c.args.variable_count) c.variables.ensures.count in
    let is : c.apply_literal-lit.result ≡ new_literal (variables_of c.self.inside.bind) clause c.args.place =
    literal c.args.lits.now c.args.place (variables_of c.self.inside.bind) c.args.variable_count
    (take c.args.variable_count c.variables_after-terms.result) c.apply_literal-lit.result c.index-lits-place-2.result theta_is
    c.index-lits-place-2.is c.requires.place c.apply_literal-lit.ensures in
    rw is (shifted-lit (variables_of c.self.inside.bind) c.args.variable_count (get_or c.args.lits.now c.args.place no_literal)
    (c.requires.lits_below c.args.place no_literal c.requires.place))

pub returns-in-Ok-false : goal.returns-in-Ok-false
returns-in-Ok-false c =
    let clause : Clause = record { variable_count = c.args.variable_count; lits = c.args.lits.now } in
    let theta_is : take c.args.variable_count c.variables_after-terms.result ≡ variables_from (variables_of c.self.inside.bind) c.args.variable_count =
    c.variables_after-terms.ensures ∙ ap (λ n. variables_from n c.args.variable_count) c.variables.ensures.count in
    let is : c.apply_literal-lit.result ≡ new_literal (variables_of c.self.inside.bind) clause c.args.place =
    literal c.args.lits.now c.args.place (variables_of c.self.inside.bind) c.args.variable_count
    (take c.args.variable_count c.variables_after-terms.result) c.apply_literal-lit.result c.index-lits-place-2.result theta_is
    c.index-lits-place-2.is c.requires.place c.apply_literal-lit.ensures in
    let matched : MatchesFresh c.self.inside.bind c.matches_fresh.new.bind c.args.variable_count c.args.goal.now.lit
    (new_literal (variables_of c.self.inside.bind) clause c.args.place) false =
    match-as c.self.inside.bind c.matches_fresh.new.bind c.args.variable_count c.args.goal.now.lit c.apply_literal-lit.result _ _ false is
    c.in-Ok-false.field-0-test c.in-Ok-false.ensures in
    rw (← c.self.view_is)
    (record {
      is_match = matched;
      chosen = λ is_found. absurd (cc);
      grown = λ is_found. absurd (cc);
      older = λ is_found. absurd (cc);
      arena = λ is_found. absurd (cc);
      opened = λ is_found. absurd (cc);
      unchanged =
          λ is_not. λ i. record {
            changes = matched.same refl i;
            goals = c.self.inside.goals.items;
            first = c.self.inside.first;
            choices = reverse c.self.inside.choices.items;
          };
    })

pub returns-then-are_literals_apart : goal.returns-then-are_literals_apart
returns-then-are_literals_apart c =
    let clause : Clause = record { variable_count = c.args.variable_count; lits = c.args.lits.now } in
    untried-step c.args.self.now c.args.tick c.args.goal.now clause c.args.place c.index-lits-place.result c.index-lits-place.is
    c.requires.place (c.are_literals_apart.ensures c.if-are_literals_apart.true)
