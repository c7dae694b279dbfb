-- The laws of certificates, put together.
use Rattle.std.proofs.Common.{◌≡◌, ◌<◌, ◌+◌, ◌⊎◌, ℕ, zero, suc, List, [], ◌∷◌, Some, None, refl, sym, subst, arith, inl, inr}
use Rattle.px_terms.specs.Validity.{IsValid}
use Rattle.px_cert.specs.declared.draft.Draft.{Draft}
use Rattle.px_cert.specs.declared.draft.Due.{Due}
use Rattle.px_cert.specs.declared.draft.Due.TheVariants as due
use Rattle.px_cert.specs.CertificateClaims.{ClaimsAreTexts, ReadsOneWay, TablesAreCertified}
use Rattle.px_cert.specs.Certificates.{Claim, IsCertificate, IsFirstBadLine, claim_of}
use Rattle.px_cert.specs.Drafts.{Follow, after_line, no_lines}
use Rattle.px_cert.specs.Lines.{Line}
use Rattle.px_cert.specs.Reading.{Parsed, line_at}
use Rattle.px_cert.specs.Sound.{IsSound, lines_left}
use Rattle.px_cert.proofs.Certifying.{claim_in_range, written}
use Rattle.px_cert.proofs.Claiming.{claimed}
use Rattle.px_cert.proofs.DueLines.{due_reads}
use Rattle.px_cert.proofs.InRange.{certificate_in_range}
use Rattle.px_cert.proofs.Limited.{only_right, right, worth}
use Rattle.px_cert.proofs.OneWay.{ReadsLines, not_both, one_claim, one_line}
use Rattle.px_cert.proofs.Reaching.{Reached, begun, is_bad, is_certificate, is_long, read_more}
use Rattle.px_cert.proofs.Sections.{one_text}
use Rattle.px_cert.proofs.SoundLines.{lines_fall, sound_begins, sound_more}
use Rattle.px_cert.proofs.ValidDrafts.{sound_valid}

pub reads_lines : ReadsLines
reads_lines = record {
  takes = λ d bytes line rest sound e. (due_reads d sound d.due sound.unfinished).takes bytes line rest e;
  again = λ d line rest sound next. (due_reads d sound d.due sound.unfinished).again line rest next;
  stays = sound_more;
  falls = lines_fall;
  begins = sound_begins;
}

-- ---- each input is read to its end

-- no line is due, or one is
pub whole_or : (what : Due) → (what ≡ due.Nothing) ⊎ (¬ (what ≡ due.Nothing))
whole_or due.Heading = inr (λ e. absurd (cc))
whole_or due.Objects = inr (λ e. absurd (cc))
whole_or due.Predicates = inr (λ e. absurd (cc))
whole_or due.Axioms = inr (λ e. absurd (cc))
whole_or (due.Axiom more) = inr (λ e. absurd (cc))
whole_or due.Operators = inr (λ e. absurd (cc))
whole_or (due.Operator more) = inr (λ e. absurd (cc))
whole_or (due.Pre more) = inr (λ e. absurd (cc))
whole_or (due.Delete more) = inr (λ e. absurd (cc))
whole_or (due.Add more) = inr (λ e. absurd (cc))
whole_or due.Table = inr (λ e. absurd (cc))
whole_or due.Goal = inr (λ e. absurd (cc))
whole_or due.Steps = inr (λ e. absurd (cc))
whole_or (due.Step more rows) = inr (λ e. absurd (cc))
whole_or (due.Row more) = inr (λ e. absurd (cc))
whole_or due.Nothing = inl refl

abbrev IsOneOf : List ℕ → Type 0
IsOneOf bytes = ((claim : Claim) × IsCertificate bytes claim) ⊎ ((number : ℕ) × IsFirstBadLine bytes number)

at_end : (bytes : List ℕ) (d : Draft) (rest : List ℕ) (number : ℕ) → Reached bytes d rest number → d.due ≡ due.Nothing → IsOneOf bytes
at_end bytes d [] number at whole = inl (claim_of d, is_certificate reads_lines bytes d [] number at whole refl)
at_end bytes d (c ∷ rest) number at whole = inr (number, is_long reads_lines bytes d (c ∷ rest) number at whole (λ e. absurd (cc)))

one_way : (most : ℕ) (bytes : List ℕ) (d : Draft) (rest : List ℕ) (number : ℕ) → Reached bytes d rest number → lines_left d.due < most
    → IsOneOf bytes
one_way zero bytes d rest number at few = absurd (omega (arith, few))
one_way (suc most) bytes d rest number at few = elim (whole_or d.due) [
  | inl whole ↦ at_end bytes d rest number at whole
  | inr more ↦ elim (line_at d rest) as (λ (read : Parsed Line). line_at d rest ≡ read → IsOneOf bytes) [
    | Some q ↦ λ e.
        let t = reads_lines.takes d rest q.0 q.1 at.sound e in
        let fall = reads_lines.falls d q.0 t.1 in
        one_way most bytes (after_line d q.0) q.1 (number + 1) (read_more reads_lines bytes d rest number q.0 q.1 at e)
        (omega (arith, few, fall))
    | None ↦ λ e. inr (number, is_bad reads_lines bytes d rest number at e more)
  ] refl
]

-- ---- the laws

pub reads_one_way : (bytes : List ℕ) → ReadsOneWay bytes
reads_one_way bytes = record {
  one = one_way (suc (lines_left due.Heading)) bytes no_lines bytes 1 (begun reads_lines bytes) (omega arith);
  not_both = not_both reads_lines bytes;
  one_claim = one_claim reads_lines bytes;
  one_line = one_line reads_lines bytes;
}

follow_sound : (d : Draft) (lines : List Line) (last : Draft) → IsSound d → Follow d lines last → IsSound last
follow_sound d [] last sound follow = subst IsSound (sym follow) sound
follow_sound d (line ∷ lines) last sound follow = follow_sound (after_line d line) lines last (sound_more d line sound follow.0) follow.1

pub claims_are_texts : ClaimsAreTexts
claims_are_texts = record {
  exact = λ bytes claim. (
    λ is. (certificate_in_range bytes claim is, one_text bytes claim is),
    λ h. subst (λ (text : List ℕ). IsCertificate text claim) (sym h.1) (claimed claim.problem claim.table h.0),
  );
  one_text = one_text;
  valid = λ bytes claim is.
      subst (λ (c : Claim). IsValid c.problem) (sym is.says)
      (sound_valid is.last (follow_sound no_lines is.lines is.last sound_begins is.follow));
}

pub tables_are_certified : TablesAreCertified
tables_are_certified = record { in_range = claim_in_range; written = written; right = right; only_right = only_right; worth = worth }
