use Rattle.std.proofs.Common.{◌≡◌, ◌∙◌, ℕ, List, length, take, ap, sym, subst, arith}
use Rattle.std.specs.Prelude.{All}
use Rattle.std.proofs.lemmas.List.Elements.{All-nil, All-take}
use Rattle.px_question.specs.Settings.{setting_of}
use Rattle.px_table.specs.Tables.{IsStepOf}
use Rattle.px_table.specs.declared.entry.Entry.{Entry}
use Rattle.px_table.specs.declared.entry.Entry.TheVariants.{Macro}
use Rattle.px_terms.specs.declared.instance.OpInst.{OpInst}
use Rattle.px_terms.specs.declared.term.Term.{Term}
use Rattle.px_gaps.specs.Closings.{OneOf}
use Rattle.px_diff.specs.Macros.{GathersEntries, IsMacroBy, IsOfPrefix}
use Rattle.px_entries.specs.Parameters.{IsParameterMatch}
use Rattle.px_diff.specs.RowQuestions.{AreTableChoices}
use Rattle.px_diff.proofs.EntryLemmas.{entries_relevant}
use Rattle.px_diff.proofs.FittingLemmas.{some_found}
use Rattle.px_diff.proofs.GatherLemmas.{prefix-table, matches-as, told-same, wide-gather}
use Rattle.px_base.proofs.Loops.{on_ok}
use Rattle.px_diff.proofs.MacroLemmas.{of_matches, of_zeros}
use Rattle.px_entries.proofs.ParameterLemmas.{first-binding}
use Rattle.px_diff.proofs.RowSplitting.{choices-long, limited-long, rows-taken}
use Rattle.px_diff.proofs.macros.gather_prefix.Goals as goal

pub returns-then-problem-eq0-clause-gathers : goal.returns-then-problem-eq0-clause-gathers
returns-then-problem-eq0-clause-gathers c =
    let problem = c.args.prefix.now.request.problem.now in
    let tables = c.args.prefix.now.request.tables.now in
    let is_table = prefix-table c.args.prefix.now c.requires.prefix in
    on_ok c.keep_open_macro.result (entries_relevant c.args.prefix.now.request.problem.now c.args.prefix.now.request.tables.now
    c.args.prefix.now.request.wanted.now c.args.prefix.now.request.stack.now c.args.prefix.now.request.model.now.atoms
    (λ (entry : Entry). Macro c.args.prefix.now.number c.args.prefix.now.count c.deref.result.now ≡ entry)
    (IsOfPrefix c.args.prefix.now.number c.args.prefix.now.count) c.args.found.now.items c.keep_open_macro.new.found.items
    (λ entry relevant of. ap (λ (l : List ℕ). Macro c.args.prefix.now.number c.args.prefix.now.count l)
    (c.deref.ensures.value ∙ c.in_ok-sigma.ensures)
    ∙ of_zeros problem tables c.args.prefix.now.request.wanted.now c.args.prefix.now.request.stack.now c.args.prefix.now.number
    c.args.prefix.now.count c.args.prefix.now.table.now c.requires.prefix.table is_table c.args.prefix.now.start.now c.requires.prefix.first
    c.if-problem-eq0.true entry relevant of))
    c.keep_open_macro.ensures.gathers

pub macro_matches-requires-clause-problem : goal.macro_matches-requires-clause-problem
macro_matches-requires-clause-problem c = c.requires.prefix.problem

pub macro_matches-requires-clause-steps : goal.macro_matches-requires-clause-steps
macro_matches-requires-clause-steps c =
    let problem = c.args.prefix.now.request.problem.now in
    let table = c.args.prefix.now.table.now in
    let is_table = prefix-table c.args.prefix.now c.requires.prefix in
    let long : length c.args.prefix.now.start.now ≡ table.params = c.requires.prefix.first.count in
    subst (λ (n : ℕ). All (IsStepOf problem n) (take c.args.prefix.now.count c.as_slice.result.now)) (sym long)
    (subst (λ (l : List OpInst). All (IsStepOf problem table.params) (take c.args.prefix.now.count l)) (sym c.as_slice.ensures)
    (All-take (IsStepOf problem table.params) c.args.prefix.now.count table.steps is_table.in_range.steps))

pub macro_matches-requires-clause-binding : goal.macro_matches-requires-clause-binding
macro_matches-requires-clause-binding c =
    let problem = c.args.prefix.now.request.problem.now in
    first-binding problem c.args.prefix.now.table.now c.args.prefix.now.count c.args.prefix.now.start.now c.requires.prefix.first
    (omega (arith, c.if-problem-eq0.false))

pub keep_listed-requires-clause-matches : goal.keep_listed-requires-clause-matches
keep_listed-requires-clause-matches c =
    let problem = c.args.prefix.now.request.problem.now in
    let table = c.args.prefix.now.table.now in
    let long : length c.args.prefix.now.start.now ≡ table.params = c.requires.prefix.first.count in
    let all = c.in_ok-made.ensures.form (All-nil (IsParameterMatch problem.objects (length c.args.prefix.now.start.now))) in
    subst (All (IsParameterMatch problem.objects table.params)) (sym c.as_slice-matches.ensures.value)
    (subst (λ (n : ℕ). All (IsParameterMatch problem.objects n) c.in_ok-made.made.items) long all)

pub keep_matches-requires-clause-matches : goal.keep_matches-requires-clause-matches
keep_matches-requires-clause-matches c =
    let problem = c.args.prefix.now.request.problem.now in
    let table = c.args.prefix.now.table.now in
    let long : length c.args.prefix.now.start.now ≡ table.params = c.requires.prefix.first.count in
    let all = c.in_ok-made.ensures.form (All-nil (IsParameterMatch problem.objects (length c.args.prefix.now.start.now))) in
    subst (All (IsParameterMatch problem.objects table.params)) (sym c.as_slice-matches.ensures.value)
    (subst (λ (n : ℕ). All (IsParameterMatch problem.objects n) c.in_ok-made.made.items) long all)

pub keep_matches-requires-clause-rows : goal.keep_matches-requires-clause-rows
keep_matches-requires-clause-rows c =
    let problem = c.args.prefix.now.request.problem.now in
    let table = c.args.prefix.now.table.now in
    let found = c.in-Some.known in
    let told =
    some_found (AreTableChoices problem c.args.prefix.now.request.model.now.atoms table) c.args.rows.now found c.in-Some.is
    c.requires.rows in
    subst (λ (l : List (List (List Term))). All (All (λ (choice : List Term). length choice ≡ table.params))
    (take c.args.prefix.now.count l)) (sym c.as_slice-in-Some.ensures)
    (All-take (All (λ (choice : List Term). length choice ≡ table.params)) c.args.prefix.now.count found.choices
    (choices-long (setting_of problem c.args.prefix.now.request.model.now.atoms) table told.terms
    (length table.steps) found.choices found.limited told.known))

pub keep_matches-requires-clause-limited : goal.keep_matches-requires-clause-limited
keep_matches-requires-clause-limited c =
    let problem = c.args.prefix.now.request.problem.now in
    let table = c.args.prefix.now.table.now in
    let found = c.in-Some.known in
    let told =
    some_found (AreTableChoices problem c.args.prefix.now.request.model.now.atoms table) c.args.rows.now found c.in-Some.is
    c.requires.rows in
    subst (λ (l : List (List (List Term))). All (All (λ (choice : List Term). length choice ≡ table.params))
    (take c.args.prefix.now.count l)) (sym c.as_slice-in-Some-2.ensures)
    (All-take (All (λ (choice : List Term). length choice ≡ table.params)) c.args.prefix.now.count found.limited
    (limited-long (setting_of problem c.args.prefix.now.request.model.now.atoms) table told.terms
    (length table.steps) found.choices found.limited told.known))

pub returns-in-Some-clause-gathers : goal.returns-in-Some-clause-gathers
returns-in-Some-clause-gathers c =
    let problem = c.args.prefix.now.request.problem.now in
    let tables = c.args.prefix.now.request.tables.now in
    let wanted = c.args.prefix.now.request.wanted.now in
    let stack = c.args.prefix.now.request.stack.now in
    let model = c.args.prefix.now.request.model.now.atoms in
    let table = c.args.prefix.now.table.now in
    let number = c.args.prefix.now.number in
    let count = c.args.prefix.now.count in
    let s = setting_of problem model in
    let is_table = prefix-table c.args.prefix.now c.requires.prefix in
    let found = c.in-Some.known in
    let told = some_found (AreTableChoices problem model table) c.args.rows.now found c.in-Some.is c.requires.rows in
    let known = rows-taken s table told.terms (length table.steps) count found.choices found.limited c.requires.prefix.within told.known in
    let matched =
    matches-as problem wanted count c.args.prefix.now.start.now c.as_slice.result.now table.steps c.in_ok-made.made.items c.as_slice.ensures
    c.in_ok-made.ensures in
    on_ok c.keep_matches.result (λ gathers.
    wide-gather problem tables wanted stack number count table c.requires.prefix.table is_table model told.set told.terms told.unbound
    told.some_object (take count found.choices)
    (take count found.limited) known c.args.prefix.now.start.now c.requires.prefix.first c.in_ok-made.made.items matched
    c.args.found.now.items
    c.keep_matches.new.found.items
    (told-same problem tables wanted stack model number count c.as_slice-matches.result.now c.in_ok-made.made.items
    c.as_slice-in-Some.result.now found.choices c.as_slice-in-Some-2.result.now found.limited c.args.found.now.items
    c.keep_matches.new.found.items c.as_slice-matches.ensures.value c.as_slice-in-Some.ensures c.as_slice-in-Some-2.ensures
    gathers)) c.keep_matches.ensures.gathers

pub returns-clause-gathers : goal.returns-clause-gathers
returns-clause-gathers c =
    let problem = c.args.prefix.now.request.problem.now in
    let tables = c.args.prefix.now.request.tables.now in
    let wanted = c.args.prefix.now.request.wanted.now in
    let table = c.args.prefix.now.table.now in
    let is_table = prefix-table c.args.prefix.now c.requires.prefix in
    let matched =
    matches-as problem wanted c.args.prefix.now.count c.args.prefix.now.start.now c.as_slice.result.now table.steps c.in_ok-made.made.items
    c.as_slice.ensures c.in_ok-made.ensures in
    on_ok c.keep_listed.result (λ gathers. entries_relevant c.args.prefix.now.request.problem.now c.args.prefix.now.request.tables.now
    c.args.prefix.now.request.wanted.now c.args.prefix.now.request.stack.now c.args.prefix.now.request.model.now.atoms
    (λ (entry : Entry). OneOf c.in_ok-made.made.items
    (λ (terms : List Term). IsMacroBy problem.objects c.args.prefix.now.number c.args.prefix.now.count terms entry))
    (IsOfPrefix c.args.prefix.now.number c.args.prefix.now.count) c.args.found.now.items c.keep_listed.new.found.items
    (of_matches problem tables wanted c.args.prefix.now.request.stack.now c.args.prefix.now.number c.args.prefix.now.count table
    c.requires.prefix.table is_table c.args.prefix.now.start.now c.requires.prefix.first c.in_ok-made.made.items
    (omega (arith, c.if-problem-eq0.false)) matched)
    (subst (λ (l : List (List Term)). GathersEntries c.args.prefix.now.request.problem.now c.args.prefix.now.request.tables.now
    c.args.prefix.now.request.wanted.now c.args.prefix.now.request.stack.now c.args.prefix.now.request.model.now.atoms
    (λ (entry : Entry). OneOf l (λ (terms : List Term). IsMacroBy problem.objects c.args.prefix.now.number c.args.prefix.now.count terms
    entry)) c.args.found.now.items c.keep_listed.new.found.items) c.as_slice-matches.ensures.value gathers))
    c.keep_listed.ensures.gathers
