use Rattle.std.proofs.Common.{◌≡◌, ◌∙◌, ◌<◌, length, set, ap, sym, subst, arith}
use Rattle.std.proofs.lemmas.List.{length-set}
use Rattle.std.proofs.lemmas.Option.{slice_get_within}
use Rattle.px_question.specs.Settings.{setting_of}
use Rattle.px_terms.specs.declared.term.Term.TheVariants.{Obj, Var}
use Rattle.px_gaps.specs.Bindings.{IsBinding, open_term_count}
use Rattle.px_gaps.proofs.Choosing.{bound-binding, count-falls}
use Rattle.px_diff.proofs.RowSplitting.{asked-all, asked-next, asked-none, widens-next, widens-none}
use Rattle.px_diff.proofs.row_questions.+add_choices.Goals as goal

pub bound-requires : goal.bound-requires
bound-requires t c = slice_get_within c.args.terms.now c.in-Some.parameter (Var c.in-Some.parameter) c.in-Some.ensures

pub add_choices-requires : goal.add_choices-requires
add_choices-requires t c =
    let terms = c.args.terms.now in
    let v = c.in-Some.parameter in
    let object = c.loop-object.object in
    let next_is : c.deref.result.now ≡ set terms v (Obj object) = c.deref.ensures.value ∙ c.in_ok-next.ensures in
    let less : open_term_count c.deref.result.now < open_term_count terms =
    subst (λ ts. open_term_count ts < open_term_count terms) (sym next_is) (count-falls terms v v object c.in-Some.ensures) in (
      omega (arith, less, c.decreases),
      (
        record {
          valid = c.requires.asked.valid;
          is_table = c.requires.asked.is_table;
          long = ap length next_is ∙ length-set terms v (Obj object) ∙ c.requires.asked.long;
          binding =
              subst (IsBinding c.args.question.now.problem.now.objects) (sym next_is)
              (bound-binding c.args.question.now.problem.now.objects terms v c.in-Some.ensures object c.requires.asked.binding
              c.loop-object-test.true);
          few = c.requires.asked.few;
        },
        c.loop-object.invariant.choices.long c.requires.choices,
      ),
    )

pub loop-object-init : goal.loop-object-init
loop-object-init t c = record {
  choices = c.in_ok-ask_choices.ensures.widens;
  limited = widens-none c.args.question.now.table.now.params c.args.limited.now.items;
  known =
      asked-none (setting_of c.args.question.now.problem.now c.args.question.now.model.now.atoms) c.args.question.now.table.now
      c.args.question.now.row c.args.question.now.problem.now.objects c.args.terms.now c.in-Some.parameter c.in-Some.ensures
      c.ask_choices.new.choices.items c.args.limited.now.items;
}

pub loop-object-preserved : goal.loop-object-preserved
loop-object-preserved t c =
    let table = c.args.question.now.table.now in
    let here = c.in_ok-add_choices.ensures in
    let before = c.loop-object.invariant in record {
      choices =
          widens-next table.params c.args.choices.now.items c.loop-object.choices.items c.add_choices.new.choices.items before.choices
          here.choices;
      limited =
          widens-next table.params c.args.limited.now.items c.loop-object.limited.items c.add_choices.new.limited.items before.limited
          here.limited;
      known =
          asked-next (setting_of c.args.question.now.problem.now c.args.question.now.model.now.atoms) table c.args.question.now.row
          c.args.question.now.problem.now.objects c.args.terms.now c.in-Some.parameter c.in-Some.ensures c.loop-object.object
          c.deref.result.now c.loop-object.choices.items c.loop-object.limited.items c.add_choices.new.choices.items
          c.add_choices.new.limited.items (c.deref.ensures.value ∙ c.in_ok-next.ensures) here.choices here.limited before.known here.known;
    }

pub returns-clause-choices : goal.returns-clause-choices
returns-clause-choices t c = c.loop-object.invariant.choices

pub returns-clause-limited : goal.returns-clause-limited
returns-clause-limited t c = c.loop-object.invariant.limited

pub returns-clause-known : goal.returns-clause-known
returns-clause-known t c =
    asked-all (setting_of c.args.question.now.problem.now c.args.question.now.model.now.atoms) c.args.question.now.table.now
    c.args.question.now.row c.args.question.now.problem.now.objects c.args.terms.now c.in-Some.parameter c.in-Some.ensures
    c.loop-object.object c.loop-object.choices.items c.loop-object.limited.items c.loop-object-test.false
    c.loop-object.invariant.known
