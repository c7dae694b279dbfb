use Rattle.std.specs.Prelude.{Contains}
use Rattle.std.proofs.Common.{refl, arith}
use Rattle.px_terms.specs.Operators.{atoms_of}
use Rattle.px_rooms.specs.States.{rendering}
use Rattle.px_rooms.proofs.Guarding.{IsUnmet, met, unmet}
use Rattle.px_rooms.proofs.Meeting.{have-more, not-there}
use Rattle.px_rooms.proofs.Worlds.{rules-valid, world-state}
use Rattle.px_rooms.proofs.world.RoomWorld.meets.Goals as goal

pub schema_of-schema-requires-clause-problem : goal.schema_of-schema-requires-clause-problem
schema_of-schema-requires-clause-problem c = rules-valid _ _ c.self.invariant

pub loop-k-preserved : goal.loop-k-preserved
loop-k-preserved c =
    have-more (Contains (rendering c.args.self.now))
    (atoms_of c.schema_of-schema.result.now.pre c.args.inst.now) c.loop-k.k c.pre.result c.loop-k.invariant c.pre.ensures
    (c.has.ensures.0 c.if-not-has.false)

pub returns-then-not-has-clause-test : goal.returns-then-not-has-clause-test
returns-then-not-has-clause-test c =
    let failed : IsUnmet c.args.self.now c.args.inst.now =
    unmet c.self.inside.rules c.args.self.now c.schema_of-schema.result.now c.args.inst.now c.loop-k.k c.pre.result
    (world-state _ _ _ c.self.view_is c.self.invariant) c.requires c.schema_of-schema.ensures.schema c.pre.ensures
    (not-there c.has.result (Contains (rendering c.args.self.now) c.pre.result) c.has.ensures.1 c.if-not-has.true) in
    (λ wrong. absurd (cc), λ is_met. absurd (failed.not_met is_met))

pub returns-then-not-has-clause-guard : goal.returns-then-not-has-clause-guard
returns-then-not-has-clause-guard c =
    let failed : IsUnmet c.args.self.now c.args.inst.now =
    unmet c.self.inside.rules c.args.self.now c.schema_of-schema.result.now c.args.inst.now c.loop-k.k c.pre.result
    (world-state _ _ _ c.self.view_is c.self.invariant) c.requires c.schema_of-schema.ensures.schema c.pre.ensures
    (not-there c.has.result (Contains (rendering c.args.self.now) c.pre.result) c.has.ensures.1 c.if-not-has.true) in
    λ _. failed.may_fail

pub returns-clause-test : goal.returns-clause-test
returns-clause-test c = (
  λ _. met c.self.inside.rules c.args.self.now c.schema_of-schema.result.now c.args.inst.now c.loop-k.k
      (world-state _ _ _ c.self.view_is c.self.invariant) c.schema_of-schema.ensures.schema c.loop-k.invariant
      (omega (arith, c.loop-k-test.false, c.len-k-end.ensures)),
  λ _. refl,
)
