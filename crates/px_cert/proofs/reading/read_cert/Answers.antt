use Rattle.std.proofs.Common.{rules, ◌≡◌, ◌<◌, true, false, None, length, sym, subst, arith}
use Rattle.std.proofs.lemmas.Bool.{MatchBool-at_false, MatchBool-at_true}
use Rattle.std.proofs.lemmas.Grind.{common_steps}
use Rattle.px_terms.specs.Validity.{IsValid}
use Rattle.px_cert.specs.declared.draft.Draft.{Draft}
use Rattle.px_cert.specs.Certificates.{Claim, IsCertificate}
use Rattle.px_cert.specs.Reading.{next_at}
use Rattle.px_cert.proofs.ClaimLaws.{reads_lines}
use Rattle.px_cert.proofs.LineRooms.{few_params}
use Rattle.px_cert.proofs.NextLine.{no_line, reach_on}
use Rattle.px_cert.proofs.Reaching.{Reached, begun, is_bad, is_certificate, is_long}
use Rattle.px_cert.proofs.ReadingEnds.{bad_all_read, bad_all_refused, bad_refused, nothing_left, read_all_read, read_all_refused, something_left}
use Rattle.px_cert.proofs.ValidDrafts.{sound_valid}
use Rattle.px_cert.proofs.reading.read_cert.Goals as goal

pub loop-alloc-init : goal.loop-alloc-init
loop-alloc-init c =
    subst (λ (d : Draft). Reached c.args.bytes.now d c.args.bytes.now 1) (sym c.no_lines-draft.ensures) (begun reads_lines c.args.bytes.now)

pub overflow_add-line : goal.overflow_add-line
overflow_add-line c = let few = c.loop-alloc.invariant.few in omega arith

pub loop-alloc-preserved : goal.loop-alloc-preserved
loop-alloc-preserved c =
    (reach_on c.args.bytes.now c.loop-alloc.draft c.loop-alloc.rest.now c.loop-alloc.line c.next_line.new.draft c.in-Ok.more.now
    c.loop-alloc.invariant c.in-Ok.ensures).0

pub loop-alloc-smaller : goal.loop-alloc-smaller
loop-alloc-smaller c =
    (reach_on c.args.bytes.now c.loop-alloc.draft c.loop-alloc.rest.now c.loop-alloc.line c.next_line.new.draft c.in-Ok.more.now
    c.loop-alloc.invariant c.in-Ok.ensures).1

-- ---- a bad line

pub returns-in-Err-Bad-clause-refused : goal.returns-in-Err-Bad-clause-refused
returns-in-Err-Bad-clause-refused c =
    let shut : c.is_whole.result ≡ false = first_of (cc, search rules) in
    let open_line = MatchBool-at_false _ _ shut c.is_whole.ensures in
    let none : next_at c.loop-alloc.draft c.loop-alloc.rest.now ≡ None = rw c.in-Err-Bad.field-0-is at c.in-Err-Bad.ensures in
    bad_refused c.args.bytes.now c.loop-alloc.line
    (is_bad reads_lines c.args.bytes.now c.loop-alloc.draft c.loop-alloc.rest.now c.loop-alloc.line c.loop-alloc.invariant
    (no_line c.loop-alloc.draft c.loop-alloc.rest.now none) open_line)

pub returns-in-Err-Bad-clause-all_read : goal.returns-in-Err-Bad-clause-all_read
returns-in-Err-Bad-clause-all_read c =
    let shut : c.is_whole.result ≡ false = first_of (cc, search rules) in
    let open_line = MatchBool-at_false _ _ shut c.is_whole.ensures in
    let none : next_at c.loop-alloc.draft c.loop-alloc.rest.now ≡ None = rw c.in-Err-Bad.field-0-is at c.in-Err-Bad.ensures in
    bad_all_read c.args.bytes.now c.loop-alloc.line
    (is_bad reads_lines c.args.bytes.now c.loop-alloc.draft c.loop-alloc.rest.now c.loop-alloc.line c.loop-alloc.invariant
    (no_line c.loop-alloc.draft c.loop-alloc.rest.now none) open_line)

pub returns-in-Err-Bad-clause-all_refused : goal.returns-in-Err-Bad-clause-all_refused
returns-in-Err-Bad-clause-all_refused c =
    let shut : c.is_whole.result ≡ false = first_of (cc, search rules) in
    let open_line = MatchBool-at_false _ _ shut c.is_whole.ensures in
    let none : next_at c.loop-alloc.draft c.loop-alloc.rest.now ≡ None = rw c.in-Err-Bad.field-0-is at c.in-Err-Bad.ensures in
    bad_all_refused c.args.bytes.now c.loop-alloc.line
    (is_bad reads_lines c.args.bytes.now c.loop-alloc.draft c.loop-alloc.rest.now c.loop-alloc.line c.loop-alloc.invariant
    (no_line c.loop-alloc.draft c.loop-alloc.rest.now none) open_line)

-- ---- more than a certificate

pub returns-then-not-is_empty-clause-refused : goal.returns-then-not-is_empty-clause-refused
returns-then-not-is_empty-clause-refused c =
    let done : c.is_whole.result ≡ true = first_of (cc, search rules) in
    let whole = MatchBool-at_true _ _ done c.is_whole.ensures in
    let some : 0 < length c.loop-alloc.rest.now = grind (arith, common_steps) in
    bad_refused c.args.bytes.now c.loop-alloc.line
    (is_long reads_lines c.args.bytes.now c.loop-alloc.draft c.loop-alloc.rest.now c.loop-alloc.line c.loop-alloc.invariant whole
    (something_left c.loop-alloc.rest.now some))

pub returns-then-not-is_empty-clause-all_read : goal.returns-then-not-is_empty-clause-all_read
returns-then-not-is_empty-clause-all_read c =
    let done : c.is_whole.result ≡ true = first_of (cc, search rules) in
    let whole = MatchBool-at_true _ _ done c.is_whole.ensures in
    let some : 0 < length c.loop-alloc.rest.now = grind (arith, common_steps) in
    bad_all_read c.args.bytes.now c.loop-alloc.line
    (is_long reads_lines c.args.bytes.now c.loop-alloc.draft c.loop-alloc.rest.now c.loop-alloc.line c.loop-alloc.invariant whole
    (something_left c.loop-alloc.rest.now some))

pub returns-then-not-is_empty-clause-all_refused : goal.returns-then-not-is_empty-clause-all_refused
returns-then-not-is_empty-clause-all_refused c =
    let done : c.is_whole.result ≡ true = first_of (cc, search rules) in
    let whole = MatchBool-at_true _ _ done c.is_whole.ensures in
    let some : 0 < length c.loop-alloc.rest.now = grind (arith, common_steps) in
    bad_all_refused c.args.bytes.now c.loop-alloc.line
    (is_long reads_lines c.args.bytes.now c.loop-alloc.draft c.loop-alloc.rest.now c.loop-alloc.line c.loop-alloc.invariant whole
    (something_left c.loop-alloc.rest.now some))

-- ---- a certificate

pub cert_of-requires-clause-objects : goal.cert_of-requires-clause-objects
cert_of-requires-clause-objects c = let few = c.loop-alloc.invariant.sound.objects.0 in omega arith

pub cert_of-requires-clause-params : goal.cert_of-requires-clause-params
cert_of-requires-clause-params c =
    let at = c.loop-alloc.invariant in
    let few = few_params at.lines c.loop-alloc.draft at.follow in
    omega (arith, few)

pub returns-clause-read : goal.returns-clause-read
returns-clause-read c =
    let done : c.is_whole.result ≡ true = first_of (cc, search rules) in
    let whole = MatchBool-at_true _ _ done c.is_whole.ensures in
    let none : length c.loop-alloc.rest.now ≡ 0 = grind (arith, common_steps) in
    subst (IsCertificate c.args.bytes.now) (sym c.cert_of.ensures)
    (is_certificate reads_lines c.args.bytes.now c.loop-alloc.draft c.loop-alloc.rest.now c.loop-alloc.line c.loop-alloc.invariant whole
    (nothing_left c.loop-alloc.rest.now none))

pub returns-clause-valid : goal.returns-clause-valid
returns-clause-valid c =
    subst (λ (k : Claim). IsValid k.problem) (sym c.cert_of.ensures) (sound_valid c.loop-alloc.draft c.loop-alloc.invariant.sound)

pub returns-clause-all_read : goal.returns-clause-all_read
returns-clause-all_read c =
    let done : c.is_whole.result ≡ true = first_of (cc, search rules) in
    let whole = MatchBool-at_true _ _ done c.is_whole.ensures in
    let none : length c.loop-alloc.rest.now ≡ 0 = grind (arith, common_steps) in
    let is = subst (IsCertificate c.args.bytes.now) (sym c.cert_of.ensures)
    (is_certificate reads_lines c.args.bytes.now c.loop-alloc.draft c.loop-alloc.rest.now c.loop-alloc.line c.loop-alloc.invariant whole
    (nothing_left c.loop-alloc.rest.now none)) in
    read_all_read c.args.bytes.now c.cert_of.result is

pub returns-clause-all_refused : goal.returns-clause-all_refused
returns-clause-all_refused c =
    let done : c.is_whole.result ≡ true = first_of (cc, search rules) in
    let whole = MatchBool-at_true _ _ done c.is_whole.ensures in
    let none : length c.loop-alloc.rest.now ≡ 0 = grind (arith, common_steps) in
    let is = subst (IsCertificate c.args.bytes.now) (sym c.cert_of.ensures)
    (is_certificate reads_lines c.args.bytes.now c.loop-alloc.draft c.loop-alloc.rest.now c.loop-alloc.line c.loop-alloc.invariant whole
    (nothing_left c.loop-alloc.rest.now none)) in
    read_all_refused c.args.bytes.now c.cert_of.result is
