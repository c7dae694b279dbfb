-- Reading line by line: where the reader is, and how it ends.
use Rattle.std.proofs.Common.{◌≡◌, ◌≤◌, ◌+◌, ℕ, List, [], ◌∷◌, ◌++◌, length, Some, None, refl, sym, ap, subst, ◌∙◌, append_assoc, arith}
use Rattle.std.specs.List.{flat_map}
use Rattle.std.proofs.lemmas.List.{append-nil, length_push}
use Rattle.std.proofs.lemmas.List.Concat.{flat_map-append}
use Rattle.px_cert.specs.declared.draft.Draft.{Draft}
use Rattle.px_cert.specs.declared.draft.Due.TheVariants as due
use Rattle.px_cert.specs.Certificates.{IsCertificate, IsFirstBadLine, claim_of}
use Rattle.px_cert.specs.Drafts.{Follow, IsDue, after_line, no_lines}
use Rattle.px_cert.specs.Lines.{Line, line_bytes}
use Rattle.px_cert.specs.Reading.{line_at}
use Rattle.px_cert.specs.Sound.{IsSound, lines_left}
use Rattle.px_cert.proofs.Drafting.{follow_more}
use Rattle.px_cert.proofs.OneWay.{ReadsLines}

-- the lines before, and what is left; `number` is that of the next line
pub record Reached (bytes : List ℕ) (d : Draft) (rest : List ℕ) (number : ℕ) : Type 0 where
  pub lines : List Line
  pub follow : Follow no_lines lines d
  pub bytes_are : bytes ≡ flat_map line_bytes lines ++ rest
  pub number_is : number ≡ length lines + 1
  pub sound : IsSound d
  pub few : number + lines_left d.due ≤ 1 + lines_left due.Heading

module _ (reads : ReadsLines) where
  pub begun : (bytes : List ℕ) → Reached bytes no_lines bytes 1
  begun bytes = record { lines = []; follow = refl; bytes_are = refl; number_is = refl; sound = reads.begins; few = omega arith }

  pub read_more : (bytes : List ℕ) (d : Draft) (rest : List ℕ) (number : ℕ) (line : Line) (left : List ℕ) → Reached bytes d rest number
      → line_at d rest ≡ Some (line, left) → Reached bytes (after_line d line) left (number + 1)
  read_more bytes d rest number line left at e =
      let t = reads.takes d rest line left at.sound e in
      let fall = reads.falls d line t.1 in
      let number_is = at.number_is in
      let few = at.few in
      record {
        lines = at.lines ++ line ∷ [];
        follow = follow_more no_lines at.lines d line at.follow t.1;
        bytes_are = at.bytes_are ∙ ap (λ (r : List ℕ). flat_map line_bytes at.lines ++ r) t.0
            ∙ sym (append_assoc (flat_map line_bytes at.lines) (line_bytes line) left)
            ∙ ap (λ (r : List ℕ). r ++ left) (ap (λ (r : List ℕ). flat_map line_bytes at.lines ++ r) (sym (append-nil (line_bytes line)))
            ∙ sym (flat_map-append line_bytes at.lines (line ∷ [])));
        number_is = omega (arith, number_is, length_push at.lines line);
        sound = reads.stays d line at.sound t.1;
        few = omega (arith, fall, few);
      }

  -- the next line isn't there
  pub is_bad : (bytes : List ℕ) (d : Draft) (rest : List ℕ) (number : ℕ) → Reached bytes d rest number → line_at d rest ≡ None
      → ¬ (d.due ≡ due.Nothing) → IsFirstBadLine bytes number
  is_bad bytes d rest number at e not_whole = record {
    before = at.lines;
    draft = d;
    rest = rest;
    follow = at.follow;
    bytes_are = at.bytes_are;
    number_is = at.number_is;
    none_next = λ line more next same.
        let e2 : None ≡ Some (line, more) = sym e ∙ ap (line_at d) same ∙ reads.again d line more at.sound next in absurd (cc);
    not_whole = λ whole _. not_whole whole;
  }

  -- no line is due, but something is left
  pub is_long : (bytes : List ℕ) (d : Draft) (rest : List ℕ) (number : ℕ) → Reached bytes d rest number → d.due ≡ due.Nothing
      → ¬ (rest ≡ []) → IsFirstBadLine bytes number
  is_long bytes d rest number at whole some = record {
    before = at.lines;
    draft = d;
    rest = rest;
    follow = at.follow;
    bytes_are = at.bytes_are;
    number_is = at.number_is;
    none_next = λ line more next same. subst (λ what. IsDue d what line) whole next;
    not_whole = λ _. some;
  }

  -- no line is due, and nothing is left
  pub is_certificate : (bytes : List ℕ) (d : Draft) (rest : List ℕ) (number : ℕ) → Reached bytes d rest number → d.due ≡ due.Nothing
      → rest ≡ [] → IsCertificate bytes (claim_of d)
  is_certificate bytes d rest number at whole nothing = record {
    lines = at.lines;
    last = d;
    follow = at.follow;
    whole = whole;
    bytes_are = at.bytes_are ∙ ap (λ (r : List ℕ). flat_map line_bytes at.lines ++ r) nothing ∙ append-nil (flat_map line_bytes at.lines);
    says = refl;
  }
