-- What comes of the events of two executors is determined.
use Rattle.std.specs.Prelude.{◌≡◌, List, [], ◌∷◌}
use Rattle.std.proofs.Common.{refl, sym, ap, ◌∙◌, subst}
use Rattle.px_terms.specs.declared.atom.Atom.{Atom}
use Rattle.px_terms.specs.declared.problem.Problem.{Problem}
use Rattle.px_table.specs.declared.table.Table.{Table}
use Rattle.px_planex.specs.Execution.{Running}
use Rattle.px_planex.specs.declared.event.Event.{Event}
use Rattle.px_planex.specs.declared.event.Event.TheVariants.{Sense, Act}
use Rattle.px_planex.specs.declared.event.Outcome.{Outcome}
use Rattle.px_planex.proofs.OneTrace.{happens_once}
use Rattle.px_duo.specs.DuoLaws.{DuoTracesAreOne}
use Rattle.px_duo.specs.Duos.{DuoRunning, DuoTraces, HappensInDuo, HappensTo, Pair, alone, come_to, own}
use Rattle.px_duo.specs.declared.event.DuoEvent.{DuoEvent}
use Rattle.px_duo.specs.declared.event.DuoEvent.TheVariants as duo
use Rattle.px_duo.specs.declared.event.Who.{Who}

module _ {E : Type 0} (leaves : E → List Atom → List Atom) (problem : Problem) (tables : Pair Table) where
  to_one : (who : Who) (event : Event E) (old new later : DuoRunning) (outcome other : Outcome)
      → HappensTo leaves problem tables who old event outcome new → HappensTo leaves problem tables who old event other later
      → (outcome ≡ other) × (new ≡ later)
  to_one who event old new later outcome other h k =
      let one = happens_once leaves problem (own who tables) [] event (alone who old) h.0 k.0 outcome other h.1 k.1 in
      (one.0, h.2 ∙ ap (λ (seen : Running). come_to who seen old) one.1 ∙ sym k.2)

  in_duo_once : (event : DuoEvent E) (old new later : DuoRunning) (outcome other : Outcome)
      → HappensInDuo leaves problem tables old event outcome new → HappensInDuo leaves problem tables old event other later
      → (outcome ≡ other) × (new ≡ later)
  in_duo_once (duo.Disturb edit) old new later outcome other h k = (h.0 ∙ sym k.0, h.1 ∙ sym k.1)
  in_duo_once (duo.Sense who) old new later outcome other h k = to_one who Sense old new later outcome other h k
  in_duo_once (duo.Act who) old new later outcome other h k = to_one who Act old new later outcome other h k

  duo_traced_once : (events : List (DuoEvent E)) (old new later : DuoRunning) (outcomes others : List Outcome)
      → DuoTraces leaves problem tables old events outcomes new → DuoTraces leaves problem tables old events others later
      → (outcomes ≡ others) × (new ≡ later)
  duo_traced_once [] old new later [] [] a b = (refl, a ∙ sym b)
  duo_traced_once [] old new later (o ∷ os) others a b = absurd a
  duo_traced_once [] old new later [] (p ∷ ps) a b = absurd b
  duo_traced_once (e ∷ es) old new later [] others a b = absurd a
  duo_traced_once (e ∷ es) old new later (o ∷ os) [] a b = absurd b
  duo_traced_once (e ∷ es) old new later (o ∷ os) (p ∷ ps) a b =
      let one = in_duo_once e old a.0 b.0 o p a.1 b.1 in
      let rest =
      duo_traced_once es b.0 new later os ps (subst (λ (r : DuoRunning). DuoTraces leaves problem tables r es os new) one.1 a.2) b.2 in
      ((λ i. one.0 i ∷ rest.0 i), rest.1)

pub duo_traces_are_one : {E : Type 0} (leaves : E → List Atom → List Atom) → DuoTracesAreOne leaves
duo_traces_are_one leaves problem tables old events outcomes others new later a b =
    duo_traced_once leaves problem tables events old new later outcomes others a b
