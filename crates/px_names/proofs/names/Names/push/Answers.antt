use Rattle.std.proofs.Common.{rules}
use Rattle.px_names.proofs.PushLemmas.{pushed}
use Rattle.px_names.specs.declared.kind.Kind.TheVariants as kind
use Rattle.px_names.proofs.names.Names.push.Goals as goal

pub invariant_of-self : goal.invariant_of-self
invariant_of-self c =
    let one =
    pushed c.push.result kind.Object _ _ c.args.name.now c.push.ensures.added c.push.ensures.kept c.self.invariant.objects
    c.requires.named c.utf8.name (search rules) (search rules) in
    record {
      objects = one;
      predicates = c.self.invariant.predicates;
      operators = c.self.invariant.operators;
      results = c.self.invariant.results;
    }

pub invariant_of-self-in-Predicate : goal.invariant_of-self-in-Predicate
invariant_of-self-in-Predicate c =
    let one =
    pushed c.push-in-Predicate.result kind.Predicate _ _ c.args.name.now c.push-in-Predicate.ensures.added
    c.push-in-Predicate.ensures.kept c.self.invariant.predicates c.requires.named c.utf8.name (search rules) (search rules) in
    record {
      objects = c.self.invariant.objects;
      predicates = one;
      operators = c.self.invariant.operators;
      results = c.self.invariant.results;
    }

pub invariant_of-self-in-Operator : goal.invariant_of-self-in-Operator
invariant_of-self-in-Operator c =
    let one =
    pushed c.push-in-Operator.result kind.Operator _ _ c.args.name.now c.push-in-Operator.ensures.added c.push-in-Operator.ensures.kept
    c.self.invariant.operators c.requires.named c.utf8.name (search rules) (search rules) in
    record {
      objects = c.self.invariant.objects;
      predicates = c.self.invariant.predicates;
      operators = one;
      results = c.self.invariant.results;
    }

pub invariant_of-self-in-Result : goal.invariant_of-self-in-Result
invariant_of-self-in-Result c =
    let one =
    pushed c.push-in-Result.result kind.Result _ _ c.args.name.now c.push-in-Result.ensures.added c.push-in-Result.ensures.kept
    c.self.invariant.results c.requires.named c.utf8.name (search rules) (search rules) in
    record {
      objects = c.self.invariant.objects;
      predicates = c.self.invariant.predicates;
      operators = c.self.invariant.operators;
      results = one;
    }
