-- What follows from the lines of two executors, one line after the other.
use Rattle.std.specs.Prelude.{◌≡◌, ◌++◌, ℕ, Option, Some, None, List, [], ◌∷◌, map}
use Rattle.std.proofs.Common.{refl, sym, ap, ◌∙◌, subst}
use Rattle.px_base.specs.Answers.{cons_same}
use Rattle.px_terms.specs.declared.atom.Atom.{Atom}
use Rattle.px_terms.specs.declared.instance.OpInst.{OpInst}
use Rattle.px_terms.specs.declared.problem.Problem.{Problem}
use Rattle.px_terms.specs.Operators.{result_of}
use Rattle.px_table.specs.declared.table.Table.{Table}
use Rattle.px_match.specs.Matching.{KernelInstance}
use Rattle.px_planex.specs.Execution.{KernelRowHolds, Memory, Running, remembered_step, step_of_kernel}
use Rattle.px_planex.specs.declared.event.Outcome.{Outcome}
use Rattle.px_planex.specs.declared.event.Outcome.TheVariants as outcome
use Rattle.px_duo.specs.Duos.{AreReady, DuoRunning, DuoTraces, HappensInDuo, Pair, alone, come_to, neither_sensed, other_than, own}
use Rattle.px_duo.specs.declared.event.DuoEvent.{DuoEvent}
use Rattle.px_duo.specs.declared.event.Who.{Who}
use Rattle.px_duo.specs.declared.event.Who.TheVariants.{First, Second}
use Rattle.px_duo.proofs.Deciding.{duo_traces_are_one}
use Rattle.px_duo.proofs.Outcomes.{act_keeps, sense_keeps}
use Rattle.px_duo.proofs.Readying.{event_readies}
use Rattle.px_duo.proofs.Whose.{came-atoms, came-memory, other-stays}
use Rattle.px_printer.specs.declared.duo_line.DuoEnd.{DuoEnd}
use Rattle.px_printer.specs.declared.duo_line.DuoEnd.TheVariants.{Sensed, Acted, Slipped, Goal, NoKernel}
use Rattle.px_printer.specs.declared.duo_line.DuoLine.{DuoLine}
use Rattle.px_session.specs.DuoRuns.{AreDuoLines, IsDuoLine, event_of, next_event, outcome_told, step_told, who_of}
use Rattle.px_session.specs.ToldDuos.{event_told}

-- ---- what a line prints determines what came of it

abbrev told_end : Outcome → DuoEnd
told_end (outcome.Sensed kernel) = Sensed kernel
told_end outcome.Acted = Acted
told_end outcome.Slipped = Slipped
told_end outcome.Goal = Goal
told_end _ = NoKernel

end_back : (end : DuoEnd) → told_end (outcome_told end) ≡ end
end_back (Sensed kernel) = refl
end_back Acted = refl
end_back Slipped = refl
end_back Goal = refl
end_back NoKernel = refl

end_one : (one other : DuoEnd) → outcome_told one ≡ outcome_told other → one ≡ other
end_one one other same = sym (end_back one) ∙ ap told_end same ∙ end_back other

module _ {E : Type 0} (leaves : E → List Atom → List Atom) (problem : Problem) (tables : Pair Table) where
  abbrev Comes : DuoRunning → DuoEvent E → Outcome → DuoRunning → Type 0
  Comes = HappensInDuo leaves problem tables

  abbrev IsLine : ℕ → DuoRunning → DuoLine → DuoRunning → Type 0
  IsLine = IsDuoLine leaves problem tables

  abbrev AreLines : List ℕ → DuoRunning → List DuoLine → DuoRunning → Type 0
  AreLines = AreDuoLines leaves problem tables

  -- one line more
  pub lines-more : (numbers : List ℕ) (number : ℕ) (old mid new : DuoRunning) (lines : List DuoLine) (line : DuoLine)
      → AreLines numbers old lines mid → IsLine number mid line new → AreLines (numbers ++ number ∷ []) old (lines ++ line ∷ []) new
  lines-more [] number old mid new [] line before here = (new, subst (λ (d : DuoRunning). IsLine number d line new) before here, refl)
  lines-more [] number old mid new (first ∷ lines) line before here = absurd before
  lines-more (n ∷ ns) number old mid new [] line before here = absurd before
  lines-more (n ∷ ns) number old mid new (first ∷ lines) line (next, leads, rest) here =
      (next, leads, lines-more ns number next mid new lines line rest here)

  -- ---- one line, and one list of lines

  event_one : (event : DuoEvent E) (old new later : DuoRunning) (one other : Outcome) → Comes old event one new → Comes old event other later
      → (one ≡ other) × (new ≡ later)
  event_one event old new later one other p q =
      let same = duo_traces_are_one leaves problem tables old (event ∷ []) (one ∷ []) (other ∷ []) new later (new, p, refl) (later, q, refl) in
      ((cons_same same.0).0, same.1)

  line_one : (number : ℕ) (old new later : DuoRunning) (line other : DuoLine) → IsLine number old line new → IsLine number old other later
      → (line ≡ other) × (new ≡ later)
  line_one number old new later line other p q =
      let same = event_one (next_event number old.memories) old new later (outcome_told line.end) (outcome_told other.end) p.happens q.happens in
      let ends = end_one line.end other.end same.0 in
      let told : (end : DuoEnd) → DuoRunning → Option OpInst =
      λ end d. step_told end (remembered_step (own (who_of number) tables) (own (who_of number) d.memories)) in
      let steps : line.op ≡ other.op = p.step ∙ (λ i. told (ends i) (same.1 i)) ∙ sym q.step in
      let whos : line.who ≡ other.who = p.who ∙ sym q.who in
      ((λ i. record { who = whos i; end = ends i; op = steps i }), same.1)

  pub lines_one : (numbers : List ℕ) (old new later : DuoRunning) (lines others : List DuoLine) → AreLines numbers old lines new
      → AreLines numbers old others later → (lines ≡ others) × (new ≡ later)
  lines_one [] old new later [] [] p q = (refl, p ∙ sym q)
  lines_one [] old new later (line ∷ lines) others p q = absurd p
  lines_one [] old new later [] (other ∷ others) p q = absurd q
  lines_one (n ∷ ns) old new later [] others p q = absurd p
  lines_one (n ∷ ns) old new later (line ∷ lines) [] p q = absurd q
  lines_one (n ∷ ns) old new later (line ∷ lines) (other ∷ others) (mid, here, rest) (next, there, more) =
      let same = line_one n old mid next line other here there in
      let later_same = lines_one ns next new later lines others (subst (λ (d : DuoRunning). AreLines ns d lines new) same.1 rest) more in
      ((λ i. same.0 i ∷ later_same.0 i), later_same.1)

  -- ---- what a line leaves

  -- the one takes the step that it remembers
  pub record TakesStep (who : Who) (old new : DuoRunning) : Type 0 where
    pub kernel : KernelInstance
    pub remembered : (own who old.memories).remembered ≡ Some kernel
    pub holds : KernelRowHolds (own who tables) kernel old.atoms
    pub inst : OpInst
    pub step : step_of_kernel (own who tables) kernel ≡ Some inst
    pub left : new.atoms ≡ result_of problem old.atoms inst

  abbrev pub EndLeaves : Who → DuoEnd → DuoRunning → DuoRunning → Type 0
  EndLeaves who Acted old new = TakesStep who old new
  EndLeaves who _ old new = new.atoms ≡ old.atoms

  event_leaves : (who : Who) (remembered : Option KernelInstance) (end : DuoEnd) (old new : DuoRunning)
      → Comes old (event_of who remembered) (outcome_told end) new → EndLeaves who end old new
  event_leaves who None (Sensed kernel) old new (seen, happens, came) =
      came-atoms who old new seen came ∙ sense_keeps leaves problem (own who tables) (alone who old) seen (outcome.Sensed kernel) happens
  event_leaves who None Goal old new (seen, happens, came) =
      came-atoms who old new seen came ∙ sense_keeps leaves problem (own who tables) (alone who old) seen outcome.Goal happens
  event_leaves who None NoKernel old new (seen, happens, came) =
      came-atoms who old new seen came ∙ sense_keeps leaves problem (own who tables) (alone who old) seen outcome.NoKernel happens
  event_leaves who None Acted old new (seen, happens, came) = absurd happens
  event_leaves who None Slipped old new (seen, happens, came) = absurd happens
  event_leaves who (Some k) Slipped old new (seen, happens, came) =
      came-atoms who old new seen came ∙ act_keeps leaves problem (own who tables) (alone who old) seen outcome.Slipped tt happens
  event_leaves who (Some k) Acted old new (seen, (kernel, remembered, holds, (inst, step, left)), came) = record {
    kernel = kernel;
    remembered = remembered;
    holds = holds;
    inst = inst;
    step = step;
    left = came-atoms who old new seen came ∙ ap (λ (r : Running). r.atoms) left;
  }
  event_leaves who (Some k) (Sensed kernel) old new (seen, happens, came) = absurd happens
  event_leaves who (Some k) Goal old new (seen, happens, came) = absurd happens
  event_leaves who (Some k) NoKernel old new (seen, happens, came) = absurd happens

  pub line_leaves : (number : ℕ) (old new : DuoRunning) (line : DuoLine) → IsLine number old line new
      → EndLeaves (who_of number) line.end old new
  line_leaves number old new line is =
      event_leaves (who_of number) (own (who_of number) old.memories).remembered line.end old new is.happens

  pub line_readies : (number : ℕ) (old new : DuoRunning) (line : DuoLine) → IsLine number old line new
      → AreReady problem tables old.memories → AreReady problem tables new.memories
  line_readies number old new line is ready =
      event_readies leaves problem tables (next_event number old.memories) (outcome_told line.end) old new is.happens ready

  -- neither remembers anything at first
  pub first_ready : AreReady problem tables neither_sensed
  first_ready First = (tt, tt)
  first_ready Second = (tt, tt)

  -- where each step that is taken keeps what holds of the atoms, lines keep it
  module _ (P : List Atom → Type 0)
      (kept : (who : Who) (old new : DuoRunning) → AreReady problem tables old.memories → TakesStep who old new → P old.atoms → P new.atoms)
    where
      end_keeps : (who : Who) (end : DuoEnd) (old new : DuoRunning) → AreReady problem tables old.memories → EndLeaves who end old new
          → P old.atoms → P new.atoms
      end_keeps who Acted old new ready is holds = kept who old new ready is holds
      end_keeps who (Sensed kernel) old new ready is holds = subst P (sym is) holds
      end_keeps who Slipped old new ready is holds = subst P (sym is) holds
      end_keeps who Goal old new ready is holds = subst P (sym is) holds
      end_keeps who NoKernel old new ready is holds = subst P (sym is) holds

      pub lines_keep : (numbers : List ℕ) (old new : DuoRunning) (lines : List DuoLine) → AreLines numbers old lines new
          → AreReady problem tables old.memories → P old.atoms → P new.atoms
      lines_keep [] old new [] is ready holds = subst (λ (d : DuoRunning). P d.atoms) (sym is) holds
      lines_keep [] old new (line ∷ lines) is ready holds = absurd is
      lines_keep (n ∷ ns) old new [] is ready holds = absurd is
      lines_keep (n ∷ ns) old new (line ∷ lines) (mid, here, rest) ready holds =
          lines_keep ns mid new lines rest (line_readies n old mid line here ready)
          (end_keeps (who_of n) line.end old mid ready (line_leaves n old mid line here) holds)

  -- ---- what is remembered

  -- where nothing is remembered there is no step
  forgets : (who : Who) (old new : DuoRunning) (seen : Running) → new ≡ come_to who seen old
      → seen.memory.remembered ≡ None → None ≡ remembered_step (own who tables) (own who new.memories)
  forgets who old new seen came none =
      sym (ap (λ (m : Memory). remembered_step (own who tables) m) (came-memory who old new seen came)
      ∙ ap (λ (r : Option KernelInstance). remembered_step (own who tables) (record { remembered = r; instance = seen.memory.instance })) none)

  -- a line prints the step that the one remembers after it
  end_step : (who : Who) (remembered : Option KernelInstance) (end : DuoEnd) (old new : DuoRunning)
      → Comes old (event_of who remembered) (outcome_told end) new
      → step_told end (remembered_step (own who tables) (own who new.memories)) ≡ remembered_step (own who tables) (own who new.memories)
  end_step who remembered (Sensed kernel) old new is = refl
  end_step who None Goal old new (seen, (kernel, highest, number, left), came) =
      forgets who old new seen came (ap (λ (r : Running). r.memory.remembered) left)
  end_step who None NoKernel old new (seen, (none, left), came) = forgets who old new seen came (ap (λ (r : Running). r.memory.remembered) left)
  end_step who None Acted old new (seen, happens, came) = absurd happens
  end_step who None Slipped old new (seen, happens, came) = absurd happens
  end_step who (Some k) Acted old new (seen, (kernel, remembered, holds, (inst, step, left)), came) =
      forgets who old new seen came (ap (λ (r : Running). r.memory.remembered) left)
  end_step who (Some k) Slipped old new (seen, (kernel, remembered, fails, left), came) =
      forgets who old new seen came (ap (λ (r : Running). r.memory.remembered) left)
  end_step who (Some k) Goal old new (seen, happens, came) = absurd happens
  end_step who (Some k) NoKernel old new (seen, happens, came) = absurd happens

  pub line_step : (number : ℕ) (old new : DuoRunning) (line : DuoLine) → IsLine number old line new
      → line.op ≡ remembered_step (own (who_of number) tables) (own (who_of number) new.memories)
  line_step number old new line is =
      is.step ∙ end_step (who_of number) (own (who_of number) old.memories).remembered line.end old new is.happens

  event_stays : (who : Who) (remembered : Option KernelInstance) (outcome : Outcome) (old new : DuoRunning)
      → Comes old (event_of who remembered) outcome new → own (other_than who) new.memories ≡ own (other_than who) old.memories
  event_stays who None outcome old new (seen, happens, came) = other-stays who old new seen came
  event_stays who (Some k) outcome old new (seen, happens, came) = other-stays who old new seen came

  pub line_stays : (number : ℕ) (old new : DuoRunning) (line : DuoLine) → IsLine number old line new
      → own (other_than (who_of number)) new.memories ≡ own (other_than (who_of number)) old.memories
  line_stays number old new line is =
      event_stays (who_of number) (own (who_of number) old.memories).remembered (outcome_told line.end) old new is.happens

  -- ---- the lines as a trace

  told_so : (who : Who) (remembered : Option KernelInstance) (number : ℕ) (op : Option OpInst) (end : DuoEnd) (old new : DuoRunning)
      → who_of number ≡ who → Comes old (event_of who remembered) (outcome_told end) new
      → Comes old (event_told (record { who = number; end = end; op = op })) (outcome_told end) new
  told_so who None number op (Sensed kernel) old new same is = rw same is
  told_so who None number op Goal old new same is = rw same is
  told_so who None number op NoKernel old new same is = rw same is
  told_so who None number op Acted old new same (seen, happens, came) = absurd happens
  told_so who None number op Slipped old new same (seen, happens, came) = absurd happens
  told_so who (Some k) number op Acted old new same is = rw same is
  told_so who (Some k) number op Slipped old new same is = rw same is
  told_so who (Some k) number op (Sensed kernel) old new same (seen, happens, came) = absurd happens
  told_so who (Some k) number op Goal old new same (seen, happens, came) = absurd happens
  told_so who (Some k) number op NoKernel old new same (seen, happens, came) = absurd happens

  pub lines_traced : (numbers : List ℕ) (old new : DuoRunning) (lines : List DuoLine) → AreLines numbers old lines new
      → DuoTraces leaves problem tables old (map event_told lines) (map (λ line. outcome_told line.end) lines) new
  lines_traced [] old new [] is = is
  lines_traced [] old new (line ∷ lines) is = absurd is
  lines_traced (n ∷ ns) old new [] is = absurd is
  lines_traced (n ∷ ns) old new (line ∷ lines) (mid, here, rest) = (
    mid,
    told_so (who_of n) (own (who_of n) old.memories).remembered line.who line.op line.end old mid (ap who_of here.who) here.happens,
    lines_traced ns mid new lines rest,
  )

  pub lines_numbered : (numbers : List ℕ) (old new : DuoRunning) (lines : List DuoLine) → AreLines numbers old lines new
      → map (λ line. line.who) lines ≡ numbers
  lines_numbered [] old new [] is = refl
  lines_numbered [] old new (line ∷ lines) is = absurd is
  lines_numbered (n ∷ ns) old new [] is = absurd is
  lines_numbered (n ∷ ns) old new (line ∷ lines) (mid, here, rest) =
      let more = lines_numbered ns mid new lines rest in
      λ i. here.who i ∷ more i
