-- How much room suffices: no text that may be written is longer than the transcript that it begins, and no line than its bound.
use Rattle.std.specs.Prelude.{◌≤◌, ℕ, List, length}
use Rattle.std.proofs.Common.{sym, subst, inl, inr, arith}
use Rattle.px_cert.specs.Certificates.{Claim}
use Rattle.px_lengths.specs.Longest.{longest_verdict}
use Rattle.px_lengths.proofs.Transcripts.{texts_are_bounded}
use Rattle.px_run.specs.Outcomes.{IsVerdict}
use Rattle.px_run.specs.Rooms.{RoomsSuffice}
use Rattle.px_run.proofs.OneText.{texts_are_one}

verdict : (claim : Claim) (text : List ℕ) → IsVerdict claim text → length text ≤ longest_verdict
verdict claim text (inl (table, is)) = subst (λ (t : List ℕ). length t ≤ longest_verdict) (sym is) (texts_are_bounded.right _ _)
verdict claim text (inr (none, is)) = subst (λ (t : List ℕ). length t ≤ longest_verdict) (sym is) texts_are_bounded.wrong

pub rooms_suffice : RoomsSuffice
rooms_suffice = record {
  transcript = λ source sink result surely bytes whole transcript script held room left few spelt never written sure enough.
      surely bytes script held room left few spelt never written sure
      (λ text is. let short = texts_are_one.short bytes text whole (script, spelt, is) transcript in omega (arith, short, enough));
  demo = λ rooms seed sink result surely held room written sure enough.
      surely held room written sure
      (λ text is. let short = texts_are_bounded.summaries rooms seed text is in omega (arith, short, enough));
  check = λ source sink result surely bytes claim held room left few spelt never written sure enough.
      surely bytes claim held room left few spelt never written sure
      (λ text is. let short = verdict claim text is in omega (arith, short, enough));
}
