use Rattle.std.specs.Prelude.{◌≡◌, ◌≤◌, ◌++◌, take, drop, length, Some}
use Rattle.std.proofs.Common.{refl, sym, ap, ◌∙◌, subst, arith}
use Rattle.px_match.specs.Matching.{KernelInstance}
use Rattle.px_match.specs.MatcherValue.{MatcherValue, kernel_with}
use Rattle.px_table.specs.Kernels.{IsProper}
use Rattle.px_match.proofs.Proper.{proper_from_same}
use Rattle.px_match.proofs.Renewed.{kept_back, kept_lent, matches_back}
use Rattle.px_match.proofs.Sensing.{highest_is_one}
use Rattle.px_match.proofs.Viewed.{highest_viewed, none_viewed, written_whole}
use Rattle.px_match.proofs.matcher.Matcher.best.Goals as goal

pub returns-in-None-clause-none : goal.returns-in-None-clause-none
returns-in-None-clause-none c = (
  λ _. none_viewed c.args.self.now c.self.inside.problem.now c.self.inside.table.now c.self.inside.bound _ _ c.as_slice.result.now
      c.args.model.now.atoms (sym c.self.view_is) c.as_slice.ensures (c.highest-found.ensures.none c.in-None.is),
  λ _. refl,
)

pub returns-in-None-clause-always : goal.returns-in-None-clause-always
returns-in-None-clause-always c = λ kernel highest.
    absurd (none_viewed c.args.self.now c.self.inside.problem.now c.self.inside.table.now c.self.inside.bound _ _ c.as_slice.result.now
    c.args.model.now.atoms (sym c.self.view_is) c.as_slice.ensures (c.highest-found.ensures.none c.in-None.is)
    kernel.number kernel.objects highest.fits)

-- the objects that were found are in the list of the matcher
lent : (c : goal.After-self-in-Some-3-1) → c.keep_found-self-inside.new.known ≡ c.highest-found.new.work
lent c =
    let lengths : length c.highest-found.new.work ≡ length c.self.inside.work.items =
    c.highest-found.ensures.same_length ∙ ap length c.deref_mut-3.ensures.value in
    c.keep_found-self-inside.ensures.kept ∙ c.deref-in-Some.ensures.value
    ∙ written_whole _ c.highest-found.new.work c.self.inside.work.items lengths
    (omega (arith, c.highest-found.ensures.same_length, c.deref_mut-3.ensures.len))

written : (c : goal.After-self-in-Some-3-1)
    → take c.self.inside.instance.len (c.keep_found-self-inside.new.known
    ++ drop (length c.keep_found-self-inside.new.known) c.self.inside.instance.items) ≡ c.keep_found-self-inside.new.known
written c =
    let work : length c.highest-found.new.work ≡ length c.self.inside.work.items =
    c.highest-found.ensures.same_length ∙ ap length c.deref_mut-3.ensures.value in
    let lengths : length c.keep_found-self-inside.new.known ≡ length c.self.inside.instance.items =
    ap length (lent c) ∙ work ∙ c.self.invariant.2 ∙ sym c.self.invariant.3 in
    written_whole _ c.keep_found-self-inside.new.known c.self.inside.instance.items lengths
    (omega (arith, lengths, ap length c.deref_mut-in-Some.ensures.value, c.deref_mut-in-Some.ensures.len))

found_kept : (c : goal.After-self-in-Some-3-1)
    → take c.self.inside.instance.len (c.keep_found-self-inside.new.known
    ++ drop (length c.keep_found-self-inside.new.known) c.self.inside.instance.items) ≡ c.highest-found.new.work
found_kept c = written c ∙ lent c

pub returns-in-Some-clause-none : goal.returns-in-Some-clause-none
returns-in-Some-clause-none c =
    let copied = found_kept c in
    let found =
    highest_viewed c.args.self.now c.self.inside.problem.now c.self.inside.table.now c.self.inside.bound _ _ c.as_slice.result.now
    c.args.model.now.atoms c.highest-found.new.work
    (take c.self.inside.instance.len (c.keep_found-self-inside.new.known
    ++ drop (length c.keep_found-self-inside.new.known) c.self.inside.instance.items)) c.in-Some.number
    (sym c.self.view_is) c.as_slice.ensures copied c.in-Some.ensures.some in (
      λ wrong. absurd (cc),
      λ none. absurd (none c.in-Some.number (take c.self.inside.instance.len
          (c.keep_found-self-inside.new.known ++ drop (length c.keep_found-self-inside.new.known) c.self.inside.instance.items))
          found.fits),
    )

pub returns-in-Some-clause-always : goal.returns-in-Some-clause-always
returns-in-Some-clause-always c = λ kernel highest.
    let copied = found_kept c in
    let found =
    highest_viewed c.args.self.now c.self.inside.problem.now c.self.inside.table.now c.self.inside.bound _ _ c.as_slice.result.now
    c.args.model.now.atoms c.highest-found.new.work
    (take c.self.inside.instance.len (c.keep_found-self-inside.new.known
    ++ drop (length c.keep_found-self-inside.new.known) c.self.inside.instance.items)) c.in-Some.number
    (sym c.self.view_is) c.as_slice.ensures copied c.in-Some.ensures.some in
    let same =
    highest_is_one c.args.self.now.problem c.args.self.now.table c.args.self.now.bound c.args.model.now.atoms
    (kernel_with (take c.self.inside.instance.len
    (c.keep_found-self-inside.new.known ++ drop (length c.keep_found-self-inside.new.known) c.self.inside.instance.items))
    c.in-Some.number) kernel found highest in
    (ap (λ (k : KernelInstance). Some k.number) same, ap (λ (k : KernelInstance). k.objects) same)

pub renew-requires : goal.renew-requires
renew-requires c =
    let room : length c.args.model.now.atoms ≤ c.self.inside.room =
    omega (arith, c.requires.room, ap (λ (v : MatcherValue). v.room) c.self.view_is) in
    record {
      room =
          kept_lent (length c.args.model.now.atoms) c.self.inside.room c.self.inside.table.now.marks c.as_slice-marks.result.now
          c.self.inside.sensed c.self.inside.lists.items c.deref_mut.result.now room
          c.as_slice-marks.ensures c.deref_mut.ensures.value c.self.invariant.4;
    }

pub highest-found-requires-clause-lists : goal.highest-found-requires-clause-lists
highest-found-requires-clause-lists c =
    let lengths : length c.renew.new.lists ≡ length c.self.inside.lists.items =
    c.renew.ensures.matches.same ∙ ap length c.as_slice-marks.ensures ∙ sym c.self.invariant.4.same in
    matches_back c.self.inside.table.now.marks c.as_slice-marks.result.now c.args.model.now.atoms c.renew.new.lists
    c.self.inside.lists.items c.deref.result.now _ c.as_slice-marks.ensures lengths
    (omega (arith, lengths, ap length c.deref_mut.ensures.value, c.deref_mut.ensures.len)) c.deref.ensures.value c.renew.ensures.matches

pub invariant_of-self : goal.invariant_of-self
invariant_of-self c =
    let lengths : length c.renew.new.lists ≡ length c.self.inside.lists.items =
    c.renew.ensures.matches.same ∙ ap length c.as_slice-marks.ensures ∙ sym c.self.invariant.4.same in
    let work : length c.highest-found.new.work ≡ length c.self.inside.work.items =
    c.highest-found.ensures.same_length ∙ ap length c.deref_mut-3.ensures.value in
    let whole =
    written_whole c.self.inside.work.len c.highest-found.new.work c.self.inside.work.items work
    (omega (arith, c.highest-found.ensures.same_length, c.deref_mut-3.ensures.len)) in (
      c.self.invariant.0,
      c.self.invariant.1,
      ap length whole ∙ work ∙ c.self.invariant.2,
      c.self.invariant.3,
      kept_back c.self.inside.room c.self.inside.table.now.marks c.as_slice-marks.result.now c.self.inside.sensed c.renew.new.kept
          c.deref_mut.result.now c.self.inside.lists.items c.renew.new.lists c.self.inside.lists.len
          c.as_slice-marks.ensures c.deref_mut.ensures.value lengths
          (omega (arith, lengths, ap length c.deref_mut.ensures.value, c.deref_mut.ensures.len)) c.renew.ensures.kept
          c.self.invariant.4,
      c.self.invariant.5,
    )

pub invariant_of-self-in-Some : goal.invariant_of-self-in-Some
invariant_of-self-in-Some c =
    let lengths : length c.renew.new.lists ≡ length c.self.inside.lists.items =
    c.renew.ensures.matches.same ∙ ap length c.as_slice-marks.ensures ∙ sym c.self.invariant.4.same in
    let work : length c.highest-found.new.work ≡ length c.self.inside.work.items =
    c.highest-found.ensures.same_length ∙ ap length c.deref_mut-3.ensures.value in
    let whole =
    written_whole c.self.inside.work.len c.highest-found.new.work c.self.inside.work.items work
    (omega (arith, c.highest-found.ensures.same_length, c.deref_mut-3.ensures.len)) in (
      c.self.invariant.0,
      c.self.invariant.1,
      ap length whole ∙ work ∙ c.self.invariant.2,
      ap length (found_kept c) ∙ work ∙ c.self.invariant.2,
      kept_back c.self.inside.room c.self.inside.table.now.marks c.as_slice-marks.result.now c.self.inside.sensed c.renew.new.kept
          c.deref_mut.result.now c.self.inside.lists.items c.renew.new.lists c.self.inside.lists.len
          c.as_slice-marks.ensures c.deref_mut.ensures.value lengths
          (omega (arith, lengths, ap length c.deref_mut.ensures.value, c.deref_mut.ensures.len)) c.renew.ensures.kept
          c.self.invariant.4,
      proper_from_same c.self.inside.problem.now c.self.inside.table.now _ c.keep_found-self-inside.new.known
          c.keep_found-self-inside.result (written c) c.keep_found-self-inside.ensures.proper,
    )

pub keep_found-self-inside-requires-clause-before : goal.keep_found-self-inside-requires-clause-before
keep_found-self-inside-requires-clause-before c =
    proper_from_same c.self.inside.problem.now c.self.inside.table.now c.deref_mut-in-Some.result.now c.self.inside.instance.items
    c.self.inside.proper_from c.deref_mut-in-Some.ensures.value c.self.invariant.5

pub keep_found-self-inside-requires-clause-found : goal.keep_found-self-inside-requires-clause-found
keep_found-self-inside-requires-clause-found c =
    let lengths : length c.highest-found.new.work ≡ length c.self.inside.work.items =
    c.highest-found.ensures.same_length ∙ ap length c.deref_mut-3.ensures.value in
    let same : c.deref-in-Some.result.now ≡ c.highest-found.new.work =
    c.deref-in-Some.ensures.value
    ∙ written_whole _ c.highest-found.new.work c.self.inside.work.items lengths
    (omega (arith, c.highest-found.ensures.same_length, c.deref_mut-3.ensures.len)) in
    subst (λ w. IsProper c.self.inside.problem.now c.self.inside.table.now w c.in-Some.number) (sym same) c.in-Some.ensures.some.fits.proper
