use Rattle.std.proofs.Common.{sym, ap, ◌∙◌, map}
use Rattle.px_terms.specs.declared.instance.OpInst.{OpInst}
use Rattle.px_terms.specs.Language.{object_of}
use Rattle.px_entries.proofs.PartialLemmas.{unbound-fills}
use Rattle.px_terms.specs.SchemaLaws.{count_here, schema_of_problem}
use Rattle.px_entries.proofs.instances.unbound_instance.Goals as goal

pub returns-clause-all : goal.returns-clause-all
returns-clause-all c = λ full is op. (
  map object_of full.args,
  unbound-fills c.args.problem.now c.in-Some.inst full c.args.schema.now.params (ap (λ (i : OpInst). i.args) c.in-Some.ensures.value)
      (schema_of_problem c.args.problem.now c.args.schema.now c.requires.problem c.requires.schema).params
      (op ∙ sym (ap (λ (i : OpInst). i.op) c.in-Some.ensures.value))
      (count_here c.args.problem.now c.args.schema.now full c.requires.schema (sym op) is) is.objects,
)
