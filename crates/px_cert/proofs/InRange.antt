-- What a certificate claims is in range.
use Rattle.std.proofs.Common.{◌≡◌, ◌≤◌, ◌+◌, ℕ, zero, suc, List, [], ◌∷◌, ◌++◌, length, refl, sym, ap, subst, arith}
use Rattle.std.specs.Prelude.{All}
use Rattle.std.proofs.lemmas.List.{length_push}
use Rattle.std.proofs.lemmas.List.Elements.{All-nil, All-push}
use Rattle.px_terms.specs.declared.atom.Atom.{Atom}
use Rattle.px_terms.specs.declared.instance.OpInst.{OpInst}
use Rattle.px_terms.specs.declared.problem.Schema.{Schema}
use Rattle.px_terms.specs.Limits.{most_formula_variables}
use Rattle.px_terms.specs.Operators.{no_schema}
use Rattle.px_proof.specs.declared.proof.Proof.{Proof}
use Rattle.px_table.specs.Limits.{most_steps}
use Rattle.px_cert.specs.declared.draft.Draft.{Draft}
use Rattle.px_cert.specs.declared.draft.Due.{Due}
use Rattle.px_cert.specs.declared.draft.Due.TheVariants as due
use Rattle.px_cert.specs.Certificates.{Claim, IsCertificate, claim_of}
use Rattle.px_cert.specs.ClaimRanges.{AreAtMost, AreSorts, IsClaimInRange, IsRowProof, IsShortSchema, IsTableAtom, IsTableStep}
use Rattle.px_cert.specs.Drafts.{Follow, IsDue, after_line, axioms_then, language, more_of, no_lines, operators_then, problem_of, rows_of_due, rows_then, steps_then}
use Rattle.px_cert.specs.Limits.{most_atoms, most_table_parameters, table_variables}
use Rattle.px_cert.specs.Lines.{Line}
use Rattle.px_cert.specs.Sound.{IsSound}
use Rattle.px_cert.proofs.Claiming.{pattern_to, row_to, step_to}
use Rattle.px_cert.proofs.SoundLines.{becomes, sound_begins, sound_more}
use Rattle.px_cert.proofs.ValidDrafts.{sound_valid}

-- ---- what the lines so far say of the operators and of the table is in range

abbrev IsEmpty : Draft → Type 0
IsEmpty d = (d.steps ≡ []) × (d.rows ≡ [])

abbrev IsHeadIn : Draft → Type 0
IsHeadIn d = AreSorts most_table_parameters d.params × (d.goal_variable_count ≤ most_formula_variables)
    × AreAtMost most_atoms (IsTableAtom (language d)) d.goal

abbrev AreStepsIn : Draft → Type 0
AreStepsIn d = All (IsTableStep (language d) d.schemas) d.steps

abbrev AreRowsIn : Draft → Type 0
AreRowsIn d = All (AreAtMost most_atoms (IsRowProof (language d) d.axioms)) d.rows

abbrev IsToldBy : Draft → Due → Type 0
IsToldBy d (due.Delete more) = IsEmpty d × (length d.schema.pre ≤ most_atoms)
IsToldBy d (due.Add more) = IsEmpty d × (length d.schema.pre ≤ most_atoms) × (length d.schema.del ≤ most_atoms)
IsToldBy d due.Goal = IsEmpty d × AreSorts most_table_parameters d.params
IsToldBy d due.Steps = IsEmpty d × IsHeadIn d
IsToldBy d (due.Step more rows) = IsHeadIn d × AreStepsIn d × (length d.steps + (more + 1) ≤ most_steps)
    × (rows ≡ length d.steps + (more + 1) + 1) × (d.rows ≡ [])
IsToldBy d (due.Row more) = IsHeadIn d × AreStepsIn d × (length d.steps ≤ most_steps) × AreRowsIn d
    × (length d.rows + (more + 1) ≡ length d.steps + 1)
IsToldBy d due.Nothing = IsHeadIn d × AreStepsIn d × (length d.steps ≤ most_steps) × AreRowsIn d × (length d.rows ≡ length d.steps + 1)
IsToldBy d what = IsEmpty d

record IsTold (d : Draft) (what : Due) : Type 0 where
  pub shorts : All IsShortSchema d.schemas
  pub by : IsToldBy d what

-- ---- after counts

axioms_then-told : (d : Draft) (count : ℕ) → All IsShortSchema d.schemas → IsEmpty d → IsTold d (axioms_then count)
axioms_then-told d zero shorts nothing = record { shorts = shorts; by = nothing }
axioms_then-told d (suc more) shorts nothing = record { shorts = shorts; by = nothing }

operators_then-told : (d : Draft) (count : ℕ) → All IsShortSchema d.schemas → IsEmpty d → IsTold d (operators_then count)
operators_then-told d zero shorts nothing = record { shorts = shorts; by = nothing }
operators_then-told d (suc more) shorts nothing = record { shorts = shorts; by = nothing }

rows_then-told : (d : Draft) (count : ℕ) → All IsShortSchema d.schemas → IsHeadIn d → AreStepsIn d → length d.steps ≤ most_steps → AreRowsIn d
    → length d.rows + count ≡ length d.steps + 1 → IsTold d (rows_then count)
rows_then-told d zero shorts head steps few rows all =
    record { shorts = shorts; by = (head, steps, few, rows, omega (arith, all)) }
rows_then-told d (suc more) shorts head steps few rows all =
    record { shorts = shorts; by = (head, steps, few, rows, omega (arith, all)) }

no-rows_in : (d : Draft) → d.rows ≡ [] → AreRowsIn d
no-rows_in d nothing =
    subst (All (AreAtMost most_atoms (IsRowProof (language d) d.axioms))) (sym nothing)
    (All-nil (AreAtMost most_atoms (IsRowProof (language d) d.axioms)))

steps_then-told : (d : Draft) (count rows : ℕ) → All IsShortSchema d.schemas → IsHeadIn d → AreStepsIn d
    → length d.steps + count ≤ most_steps → rows ≡ length d.steps + count + 1 → d.rows ≡ [] → IsTold d (steps_then count rows)
steps_then-told d zero rows shorts head steps few all nothing =
    let none_yet : length d.rows ≡ 0 = ap (λ (l : List (List Proof)). length l) nothing in
    rows_then-told d rows shorts head steps (omega (arith, few)) (no-rows_in d nothing) (omega (arith, all, none_yet))
steps_then-told d (suc more) rows shorts head steps few all nothing =
    record { shorts = shorts; by = (head, steps, omega (arith, few), omega (arith, all), nothing) }

-- ---- one line more

abbrev Tells : Draft → Line → Type 0
Tells d line = IsTold (after_line d line) (after_line d line).due

told_after : (d : Draft) (what : Due) (line : Line) → d.due ≡ what → IsTold d what → IsDue d what line → Tells d line
told_after d due.Heading line e told is = becomes (Tells d) line _ is (record { shorts = told.shorts; by = told.by })
told_after d due.Objects line e told is = becomes (Tells d) line _ is.1 (record { shorts = told.shorts; by = told.by })
told_after d due.Predicates line e told is = becomes (Tells d) line _ is.1 (record { shorts = told.shorts; by = told.by })
told_after d due.Axioms line e told is =
    becomes (Tells d) line _ is.1 (axioms_then-told (record d { due = axioms_then is.0 }) is.0 told.shorts told.by)
told_after d (due.Axiom more) line e told is =
    becomes (Tells d) line _ is.1
    (axioms_then-told (record d { due = axioms_then (more_of d.due); axioms = d.axioms ++ is.0 ∷ [] }) (more_of d.due) told.shorts told.by)
told_after d due.Operators line e told is =
    becomes (Tells d) line _ is.1 (operators_then-told (record d { due = operators_then is.0 }) is.0 told.shorts told.by)
told_after d (due.Operator more) line e told is = becomes (Tells d) line _ is.1 (record { shorts = told.shorts; by = told.by })
told_after d (due.Pre more) line e told is = becomes (Tells d) line _ is.1 (record { shorts = told.shorts; by = (told.by, is.2.0) })
told_after d (due.Delete more) line e told is =
    becomes (Tells d) line _ is.1 (record { shorts = told.shorts; by = (told.by.0, told.by.1, is.2.0) })
told_after d (due.Add more) line e told is =
    let schema : Schema = record d.schema { add = is.0 } in
    becomes (Tells d) line _ is.1
    (operators_then-told (record d { due = operators_then (more_of d.due); schemas = d.schemas ++ schema ∷ []; schema = no_schema })
    (more_of d.due)
    (All-push IsShortSchema d.schemas schema told.shorts (record { pre = told.by.1; del = told.by.2; add = is.2.0 })) told.by.0)
told_after d due.Table line e told is = becomes (Tells d) line _ is.1 (record { shorts = told.shorts; by = (told.by, is.2) })
told_after d due.Goal line e told is =
    becomes (Tells d) line _ is.2 (record { shorts = told.shorts; by = (told.by.0, (told.by.1, is.3.0, is.3.1)) })
told_after d due.Steps line e told is =
    let nothing : length d.steps ≡ 0 = ap (λ (l : List OpInst). length l) told.by.0.0 in
    becomes (Tells d) line _ is.1
    (steps_then-told (record d { due = steps_then is.0 (is.0 + 1) }) is.0 (is.0 + 1) told.shorts told.by.1
    (subst (All (IsTableStep (language d) d.schemas)) (sym told.by.0.0) (All-nil (IsTableStep (language d) d.schemas)))
    (omega (arith, nothing, is.2)) (omega (arith, nothing)) told.by.0.1)
told_after d (due.Step more rows) line e told is =
    let more_is = ap more_of e in
    let rows_are = ap rows_of_due e in
    let long = length_push d.steps is.0 in
    becomes (Tells d) line _ is.1
    (steps_then-told (record d { due = steps_then (more_of d.due) (rows_of_due d.due); steps = d.steps ++ is.0 ∷ [] }) (more_of d.due)
    (rows_of_due d.due) told.shorts told.by.0
    (All-push (IsTableStep (language d) d.schemas) d.steps is.0 told.by.1 is.2)
    (omega (arith, told.by.2, long, more_is)) (omega (arith, told.by.3, long, more_is, rows_are)) told.by.4)
told_after d (due.Row more) line e told is =
    let more_is = ap more_of e in
    let long = length_push d.rows is.0 in
    becomes (Tells d) line _ is.1
    (rows_then-told (record d { due = rows_then (more_of d.due); rows = d.rows ++ is.0 ∷ [] }) (more_of d.due) told.shorts told.by.0 told.by.1
    told.by.2
    (All-push (AreAtMost most_atoms (IsRowProof (language d) d.axioms)) d.rows is.0 told.by.3 is.2)
    (omega (arith, told.by.4, long, more_is)))
told_after d due.Nothing line e told is = absurd is

-- ---- all lines

lines-tell : (d : Draft) (lines : List Line) (last : Draft) → IsTold d d.due → IsSound d → Follow d lines last
    → IsTold last last.due × IsSound last
lines-tell d [] last told sound follow =
    (subst (λ (e : Draft). IsTold e e.due) (sym follow) told, subst IsSound (sym follow) sound)
lines-tell d (line ∷ lines) last told sound follow =
    lines-tell (after_line d line) lines last (told_after d d.due line refl told follow.0) (sound_more d line sound follow.0) follow.1

draft_in_range : (d : Draft) → IsTold d due.Nothing → IsSound d → IsClaimInRange (claim_of d).problem (claim_of d).table
draft_in_range d told sound =
    let few = sound.few_operators in
    record {
      of = record {
        valid = sound_valid d sound;
        limits = refl;
        objects = sound.objects.0;
        predicates = sound.arities;
        operators = (omega (arith, few), told.shorts);
      };
      params = refl;
      sorts = told.by.0.0;
      goal_variable_count = told.by.0.1;
      goal = (told.by.0.2.0, λ k a below. pattern_to (language d) (problem_of d) refl refl table_variables _ (told.by.0.2.1 k a below));
      steps = (told.by.2, λ k inst below. step_to (language d) (problem_of d) refl refl d.schemas _ (told.by.1 k inst below));
      row_count = told.by.4;
      rows = λ k proofs below. row_to (language d) (problem_of d) refl refl d.axioms _ (told.by.3 k proofs below);
      marks = refl;
    }

pub certificate_in_range : (bytes : List ℕ) (claim : Claim) → IsCertificate bytes claim → IsClaimInRange claim.problem claim.table
certificate_in_range bytes claim is =
    let begun : IsTold no_lines due.Heading = record { shorts = All-nil IsShortSchema; by = (refl, refl) } in
    let told = lines-tell no_lines is.lines is.last begun sound_begins is.follow in
    subst (λ (c : Claim). IsClaimInRange c.problem c.table) (sym is.says)
    (draft_in_range is.last (subst (IsTold is.last) is.whole told.0) told.1)
