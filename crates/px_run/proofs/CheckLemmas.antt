-- What the outcomes of `check` say.
use Rattle.std.proofs.Common.{◌≡◌, ℕ, ◌+◌, ◌≤◌, List, [], ◌∷◌, codes, length, refl, sym, ap, ◌∙◌, subst, inl, inr}
use Rattle.std.specs.Prelude.{Option, Some, slice_index_or}
use Rattle.std.specs.Io.KnownBytes.{Consumes}
use Rattle.px_cert.specs.Certificates.{Claim, IsCertificate}
use Rattle.px_cert.proofs.ClaimLaws.{reads_one_way}
use Rattle.px_printer.specs.Notices.{no_text, yes_text}
use Rattle.px_reader.specs.declared.refused.Refused.{Refused}
use Rattle.px_table.specs.Kernels.{KernelsCarry}
use Rattle.px_table.specs.KernelLaws.{kernels_carry}
use Rattle.px_table.specs.Tables.{IsTable}
use Rattle.px_words.specs.declared.orders.Order.{Order}
use Rattle.px_words.specs.declared.orders.Order.TheVariants.{Check}
use Rattle.px_run.specs.Prefixes.{HasCheckPrefix}
use Rattle.px_run.specs.Laws.{CertifiesWhereDone}
use Rattle.px_run.specs.Outcomes.{Came, CheckCompletes, CheckCompletesSurely, CheckRefuses, CheckRight, IsCertRefused, IsCheckText, IsUnread, IsVerdict, JudgedRight, RefusalRight, RunRight, SinkEnds, SourceEnds, StatusRight, Wrote, limit}
use Rattle.px_run.specs.Transcripts.{refusal_text}
use Rattle.px_run.specs.declared.status.Status.{Status}
use Rattle.px_run.specs.declared.status.Status.TheVariants as status
use Rattle.px_run.proofs.Prefixes.{broke-text}
use Rattle.px_run.proofs.OneCheckText.{not-bad, one-bad, one-check-text}
use Rattle.px_run.proofs.OutcomeLemmas.{came-short, no-room, not-too-long, told-all}

-- ---- what the parts say of the whole

pub run-unread : (source : SourceEnds) (sink : SinkEnds) (result : Status) → IsUnread source result → Wrote sink []
    → RunRight source sink result
run-unread source sink status.ReadFault (rose, within, fails) nothing = (rose, within, fails, nothing)
run-unread source sink status.TooLong (more, quiet) nothing = (more, quiet, nothing)
run-unread source sink status.NoMemory (quiet, within) nothing = (quiet, within, inl nothing)
run-unread source sink status.Done unread nothing = elim unread [ ]
run-unread source sink status.Usage unread nothing = elim unread [ ]
run-unread source sink status.WriteFault unread nothing = elim unread [ ]
run-unread source sink (status.Refused refused) unread nothing = elim unread [ ]

pub check-refused : (source : SourceEnds) (sink : SinkEnds) (bytes : List ℕ) (refused : Refused) (result : Status) → Came source bytes
    → IsCertRefused bytes refused → RefusalRight refused sink result → CheckRight source sink result
check-refused source sink bytes refused (status.Refused answered) came fault right =
    subst (λ (r : Refused). CheckRight source sink (status.Refused r)) (sym right.0) (bytes, came, fault, right.1)
check-refused source sink bytes refused status.WriteFault came fault right =
    (bytes, refusal_text refused, came, inr (refused, fault, refl), right)
check-refused source sink bytes refused status.NoMemory came fault right = (came.no_fault, came-short source bytes came, right)
check-refused source sink bytes refused status.Done came fault right = elim right [ ]
check-refused source sink bytes refused status.Usage came fault right = elim right [ ]
check-refused source sink bytes refused status.ReadFault came fault right = elim right [ ]
check-refused source sink bytes refused status.TooLong came fault right = elim right [ ]

-- what is right for `check` is right for words that order it, and the other way round
pub checked : (order : Option Order) (source : SourceEnds) (sink : SinkEnds) (result : Status) → Some Check ≡ order
    → CheckRight source sink result → StatusRight order source sink result
checked order source sink result is right = subst (λ (o : Option Order). StatusRight o source sink result) is right

pub check-right : (order : Option Order) (source : SourceEnds) (sink : SinkEnds) (result : Status) → order ≡ Some Check
    → StatusRight order source sink result → CheckRight source sink result
check-right order source sink result is right = subst (λ (o : Option Order). StatusRight o source sink result) is right

-- ---- what came is what was known

told-certificate : (source : SourceEnds) (bytes came : List ℕ) (claim : Claim) → source.left ≡ Some bytes → Came source came
    → IsCertificate bytes claim → IsCertificate came claim
told-certificate source bytes came claim told all is =
    subst (λ (b : List ℕ). IsCertificate b claim) (told-all source.left source.left_after bytes came told all.all all.at_end) is

told-bad : (source : SourceEnds) (bytes came : List ℕ) (refused : Refused) → source.left ≡ Some bytes → Came source came
    → IsCertRefused bytes refused → IsCertRefused came refused
told-bad source bytes came refused told all fault =
    subst (λ (b : List ℕ). IsCertRefused b refused) (told-all source.left source.left_after bytes came told all.all all.at_end) fault

-- ---- what the outcomes say

pub check-completes : (source : SourceEnds) (sink : SinkEnds) (result : Status) (came : List ℕ) → CheckRight source sink result
    → Consumes source.left source.left_after came → source.taken_after ≡ source.taken + length came → CheckCompletes source sink result
check-completes source sink status.Done came right gone count bytes claim told short is quiet no_write_fault = inl refl
check-completes source sink status.NoMemory came right gone count bytes claim told short is quiet no_write_fault = inr refl
check-completes source sink status.Usage came right gone count bytes claim told short is quiet no_write_fault = elim right [ ]
check-completes source sink status.ReadFault came right gone count bytes claim told short is quiet no_write_fault = absurd (quiet right.0)
check-completes source sink status.WriteFault came right gone count bytes claim told short is quiet no_write_fault =
    absurd (no_write_fault right.4.rose)
check-completes source sink status.TooLong came right gone count bytes claim told short is quiet no_write_fault =
    absurd (not-too-long source bytes came told short gone count right.0)
check-completes source sink (status.Refused refused) came right gone count bytes claim told short is quiet no_write_fault =
    absurd (not-bad right.0 claim refused (told-certificate source bytes right.0 claim told right.1 is) right.2)

pub check-completes_surely : (source : SourceEnds) (sink : SinkEnds) (result : Status) (came : List ℕ) → CheckRight source sink result
    → Consumes source.left source.left_after came → source.taken_after ≡ source.taken + length came
    → CheckCompletesSurely source sink result
check-completes_surely source sink status.Done came right gone count bytes claim held room told short is never written sure fits = inl refl
check-completes_surely source sink status.NoMemory came right gone count bytes claim held room told short is never written sure fits =
    inr refl
check-completes_surely source sink status.Usage came right gone count bytes claim held room told short is never written sure fits =
    elim right [ ]
check-completes_surely source sink status.ReadFault came right gone count bytes claim held room told short is never written sure fits =
    let fails = right.2 in cc
check-completes_surely source sink status.TooLong came right gone count bytes claim held room told short is never written sure fits =
    absurd (not-too-long source bytes came told short gone count right.0)
check-completes_surely source sink
    (status.Refused refused) came right gone count bytes claim held room told short is never written sure fits =
    absurd (not-bad right.0 claim refused (told-certificate source bytes right.0 claim told right.1 is) right.2)
check-completes_surely source sink status.WriteFault came right gone count bytes claim held room told short is never written sure fits =
    let here = told-certificate source bytes right.0 claim told right.2 is in
    elim right.3 [
      | inl judged ↦
          let same : judged.0 ≡ claim = (reads_one_way right.0).one_claim judged.0 claim judged.1 here in
          absurd (no-room sink.sure sink.written right.1 held room sure written right.4.no_room
          (fits right.1 (subst (λ (c : Claim). IsVerdict c right.1) same judged.2)))
      | inr refusal ↦ absurd (not-bad right.0 claim refusal.0 here refusal.1)
    ]

pub check-refuses : (source : SourceEnds) (sink : SinkEnds) (result : Status) (came : List ℕ) → CheckRight source sink result
    → Consumes source.left source.left_after came → source.taken_after ≡ source.taken + length came → CheckRefuses source sink result
check-refuses source sink status.Done came right gone count bytes refused told short fault quiet =
    absurd (not-bad right.0 right.1 refused right.4 (told-bad source bytes right.0 refused told right.3 fault))
check-refuses source sink status.NoMemory came right gone count bytes refused told short fault quiet = inr (inl refl)
check-refuses source sink status.WriteFault came right gone count bytes refused told short fault quiet = inr (inr refl)
check-refuses source sink status.Usage came right gone count bytes refused told short fault quiet = elim right [ ]
check-refuses source sink status.ReadFault came right gone count bytes refused told short fault quiet = absurd (quiet right.0)
check-refuses source sink status.TooLong came right gone count bytes refused told short fault quiet =
    absurd (not-too-long source bytes came told short gone count right.0)
check-refuses source sink (status.Refused answered) came right gone count bytes refused told short fault quiet =
    inl (ap status.Refused (one-bad right.0 answered refused right.2 (told-bad source bytes right.0 refused told right.1 fault)))

pub check-prefix : (source : SourceEnds) (sink : SinkEnds) (result : Status) → CheckRight source sink result
    → HasCheckPrefix source sink result
check-prefix source sink status.WriteFault (bytes, next, came, is, broke) =
    (bytes, came, λ text demanded. broke-text sink [] next text broke refl (one-check-text bytes text next demanded is))
check-prefix source sink status.NoMemory (quiet, within, nothing) = nothing
check-prefix source sink status.Done right = tt
check-prefix source sink (status.Refused refused) right = tt
check-prefix source sink status.ReadFault right = tt
check-prefix source sink status.TooLong right = tt
check-prefix source sink status.Usage right = tt

-- ---- what `yes` is worth

-- the two lines differ in their first byte
not-yes : (params steps : ℕ) → ¬ (no_text ≡ yes_text params steps)
not-yes params steps same = let first : 110 ≡ 121 = ap (λ (text : List ℕ). slice_index_or text 0 0) same in cc

certifies : (claim : Claim) (text : List ℕ) → IsVerdict claim text → text ≡ yes_text claim.table.params (length claim.table.steps)
    → KernelsCarry claim.problem claim.table
certifies claim text (inl (right, is)) said = kernels_carry claim.problem claim.table right
certifies claim text (inr (wrong, is)) said = absurd (not-yes claim.table.params (length claim.table.steps) (sym is ∙ said))

pub is_certified : (source : SourceEnds) (result : Status) → CertifiesWhereDone source result
is_certified source status.Done = λ bytes text claim came is line said. certifies claim text line said
is_certified source status.Usage = tt
is_certified source (status.Refused refused) = tt
is_certified source status.ReadFault = tt
is_certified source status.WriteFault = tt
is_certified source status.NoMemory = tt
is_certified source status.TooLong = tt
