use Rattle.std.proofs.Common.{◌≡◌, ◌∙◌, ◌<◌, ◌+◌, ◌++◌, ℕ, List, [], length, take, drop, get_or, sym, subst, arith}
use Rattle.std.specs.Prelude.{All, Contains}
use Rattle.std.proofs.lemmas.List.Elements.{All-nil}
use Rattle.px_base.specs.ListLaws.{All-at}
use Rattle.px_table.specs.declared.entry.Entry.{Entry}
use Rattle.px_terms.specs.declared.term.Term.{Term}
use Rattle.px_gaps.specs.Closings.{OneOf}
use Rattle.px_diff.specs.Macros.{GathersEntries, IsMacroFitting}
use Rattle.px_entries.specs.Parameters.{FitsTerms, IsParameterMatch, Matches}
use Rattle.px_diff.proofs.FittingLemmas.{fitting-all, joined-all, others-all, others-less}
use Rattle.px_diff.proofs.GatherLemmas.{matched-all, matched-next, matched-none}
use Rattle.px_base.proofs.Loops.{contains_here, on_ok}
use Rattle.px_diff.proofs.macros.+keep_by_rows.Goals as goal

pub returns-in-None-clause-gathers : goal.returns-in-None-clause-gathers
returns-in-None-clause-gathers t c =
    on_ok c.keep_all.result
    (fitting-all c.args.prefix.now.request.problem.now c.args.prefix.now.request.tables.now c.args.prefix.now.request.wanted.now
    c.args.prefix.now.request.stack.now c.args.prefix.now.request.model.now.atoms c.args.prefix.now.number c.args.prefix.now.count
    c.args.terms.now c.args.rows.now c.args.found.now.items c.keep_all.new.found.items)
    c.keep_all.ensures.gathers

pub loop-next-init : goal.loop-next-init
loop-next-init t c =
    matched-none c.args.prefix.now.request.problem.now c.args.prefix.now.request.tables.now c.args.prefix.now.request.wanted.now
    c.args.prefix.now.request.stack.now c.args.prefix.now.request.model.now.atoms c.args.prefix.now.number c.args.prefix.now.count
    (λ (ts : List Term). IsMacroFitting c.args.prefix.now.request.problem.now.objects c.args.prefix.now.number c.args.prefix.now.count ts
    c.args.rows.now) c.args.found.now.items

pub keep_by_rows-requires : goal.keep_by_rows-requires
keep_by_rows-requires t c =
    let limit = c.args.prefix.now.request.problem.now.objects in
    let terms = c.args.terms.now in
    let numbers = c.args.numbers.now in
    let IsMatch : List Term → Type 0 = IsParameterMatch limit (length terms) in
    let others_are : c.deref.result.now ≡ take c.in-Some.place numbers ++ drop (c.in-Some.place + 1) numbers =
    c.deref.ensures.value ∙ c.in_ok-others.ensures in
    let is_match : IsMatch c.as_slice.result.now =
    subst IsMatch (sym c.as_slice.ensures)
    (All-at IsMatch c.as_slice-joins.result.now c.next-item.result
    (subst (All IsMatch) (sym c.as_slice-joins.ensures.value) (c.in_ok-made.ensures.form (All-nil IsMatch)))
    (contains_here c.as_slice-joins.result.now c.loop-next.next-index c.next-item.result c.loop-next-test.true c.next-item.is)) in (
      omega (arith, others-less numbers c.deref.result.now c.in-Some.place others_are c.in-Some.ensures, c.decreases),
      (
        c.requires.prefix,
        (
          is_match.binding,
          (
            subst (λ (n : ℕ). All (All (λ (choice : List Term). length choice ≡ n)) c.args.rows.now) (sym is_match.long) c.requires.rows,
            others-all (λ (n : ℕ). n < length c.args.rows.now) numbers c.deref.result.now c.in-Some.place others_are c.requires.numbers,
          ),
        ),
      ),
    )

pub loop-next-preserved : goal.loop-next-preserved
loop-next-preserved t c =
    let Fitting : List Term → Entry → Type 0 =
    λ ts. IsMacroFitting c.args.prefix.now.request.problem.now.objects c.args.prefix.now.number c.args.prefix.now.count ts c.args.rows.now in
    matched-next c.args.prefix.now.request.problem.now c.args.prefix.now.request.tables.now c.args.prefix.now.request.wanted.now
    c.args.prefix.now.request.stack.now c.args.prefix.now.request.model.now.atoms c.args.prefix.now.number c.args.prefix.now.count
    Fitting c.as_slice-joins.result.now c.loop-next.next-index c.next-item.result c.args.found.now.items c.loop-next.found.items
    c.keep_by_rows.new.found.items c.loop-next-test.true c.next-item.is c.loop-next.invariant
    (subst (λ (l : List Term). GathersEntries c.args.prefix.now.request.problem.now c.args.prefix.now.request.tables.now
    c.args.prefix.now.request.wanted.now c.args.prefix.now.request.stack.now c.args.prefix.now.request.model.now.atoms (Fitting l)
    c.loop-next.found.items c.keep_by_rows.new.found.items) c.as_slice.ensures c.in_ok-keep_by_rows.ensures.gathers)

pub returns-clause-gathers : goal.returns-clause-gathers
returns-clause-gathers t c =
    let limit = c.args.prefix.now.request.problem.now.objects in
    let terms = c.args.terms.now in
    joined-all c.args.prefix.now.request.problem.now c.args.prefix.now.request.tables.now c.args.prefix.now.request.wanted.now
    c.args.prefix.now.request.stack.now c.args.prefix.now.request.model.now.atoms c.args.prefix.now.number c.args.prefix.now.count
    terms c.args.rows.now c.as_slice-choices.result.now c.as_slice-joins.result.now
    (subst (Contains c.args.rows.now) (sym c.as_slice-choices.ensures)
    (contains_here c.args.rows.now (get_or c.args.numbers.now c.in-Some.place 0) c.index-rows-numbers.result
    (c.requires.numbers c.in-Some.place 0 c.in-Some.ensures) c.index-rows-numbers.is))
    (subst (Matches limit (length terms) terms
    (λ sigma. OneOf c.as_slice-choices.result.now (λ (choice : List Term). FitsTerms choice sigma)) [])
    (sym c.as_slice-joins.ensures.value) c.in_ok-made.ensures) c.args.found.now.items c.loop-next.found.items
    (matched-all c.args.prefix.now.request.problem.now c.args.prefix.now.request.tables.now c.args.prefix.now.request.wanted.now
    c.args.prefix.now.request.stack.now c.args.prefix.now.request.model.now.atoms c.args.prefix.now.number c.args.prefix.now.count
    (λ (ts : List Term). IsMacroFitting limit c.args.prefix.now.number c.args.prefix.now.count ts c.args.rows.now)
    c.as_slice-joins.result.now c.loop-next.next-index c.args.found.now.items c.loop-next.found.items c.loop-next-test.false
    c.loop-next.invariant)
