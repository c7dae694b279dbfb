-- A line is read as it is written.
use Rattle.std.proofs.Common.{◌≡◌, ℕ, List, ◌++◌, Some, None, refl, sym, ap, subst, ◌∙◌, append_assoc}
use Rattle.std.specs.Prelude.{codes}
use Rattle.std.proofs.lemmas.Option.{same_Some}
use Rattle.px_cert.specs.Lines.{Line, line_bytes, line_of_items}
use Rattle.px_cert.specs.Reading.{◌>>=◌, Parsed, Reader, after_text, as_line, behind, ended, line_of}
use Rattle.px_cert.proofs.Exact.{IsExact, after_takes, behind_exact, bind_some}

-- the same as IsExact, whatever follows: a line ends with its line feed
pub record IsExactLine {A : Type 0} (line : Reader A) (text : A → List ℕ) (Is : A → Type 0) : Type 0 where
  pub takes : (bytes : List ℕ) (x : A) (rest : List ℕ) → line bytes ≡ Some (x, rest) → (bytes ≡ text x ++ rest) × Is x
  pub again : (x : A) (rest : List ℕ) → Is x → line (text x ++ rest) ≡ Some (x, rest)

regrouped : (word items rest : List ℕ) → line_of_items word items ++ rest ≡ (word ++ items) ++ (codes "\n" ++ rest)
regrouped word items rest =
    append_assoc word (items ++ codes "\n") rest ∙ ap (λ (r : List ℕ). word ++ r) (append_assoc items (codes "\n") rest)
    ∙ sym (append_assoc word items (codes "\n" ++ rest))

module _ {A : Type 0} (items : Reader A) (text : A → List ℕ) (Is : A → Type 0) (exact : IsExact items text Is) (word : List ℕ) where
  pub line_exact : IsExactLine (line_of word items) (λ x. line_of_items word (text x)) Is
  unfolding line_of
  line_exact =
      let both = behind_exact items text Is exact word in
      record {
        takes = λ bytes x rest e.
            let a = bind_some (behind word items bytes) ended (x, rest) e in
            let b = bind_some (after_text (codes "\n") a.0.1) (λ r. Some (a.0.0, r)) (x, rest) a.2 in
            let t = both.takes bytes a.0.0 a.0.1 a.1 in
            let whole : bytes ≡ line_of_items word (text a.0.0) ++ b.0 =
            t.0 ∙ ap (λ (r : List ℕ). (word ++ text a.0.0) ++ r) (after_takes (codes "\n") a.0.1 b.0 b.1)
            ∙ sym (regrouped word (text a.0.0) b.0) in
            subst (λ (q : A × List ℕ). (bytes ≡ line_of_items word (text q.0) ++ q.1) × Is q.0) (same_Some (a.0.0, b.0) (x, rest) b.2)
            (whole, t.1);
        again = λ x rest is.
            ap (line_of word items) (regrouped word (text x) rest)
            ∙ ap (λ (o : Parsed A). o >>= ended) (both.again x (codes "\n" ++ rest) is refl);
      }

-- ---- what was read, as a line

as_line_is : {A : Type 0} (form : A → Line) (read : Parsed A) (line : Line) (rest : List ℕ) → as_line form read ≡ Some (line, rest)
    → (x : A) × (read ≡ Some (x, rest)) × (form x ≡ line)
as_line_is form (Some q) line rest e =
    let same = same_Some (form q.0, q.1) (line, rest) e in
    (q.0, ap (λ (p : Line × List ℕ). Some (q.0, p.1)) same, ap (λ (p : Line × List ℕ). p.0) same)
as_line_is form None line rest e = absurd (cc)

module _ {A : Type 0} (line : Reader A) (text : A → List ℕ) (Is : A → Type 0) (exact : IsExactLine line text Is) (form : A → Line)
    (here : (x : A) → line_bytes (form x) ≡ text x) where
  pub line_taken : (Js : Line → Type 0) → ((x : A) → Is x → Js (form x)) → (bytes : List ℕ) (made : Line) (rest : List ℕ)
      → as_line form (line bytes) ≡ Some (made, rest) → (bytes ≡ line_bytes made ++ rest) × Js made
  line_taken Js is bytes made rest e =
      let a = as_line_is form (line bytes) made rest e in
      let t = exact.takes bytes a.0 rest a.1 in
      subst (λ (l : Line). (bytes ≡ line_bytes l ++ rest) × Js l) a.2
      (t.0 ∙ ap (λ (r : List ℕ). r ++ rest) (sym (here a.0)), is a.0 t.1)

  pub line_again : (x : A) (rest : List ℕ) → Is x → as_line form (line (line_bytes (form x) ++ rest)) ≡ Some (form x, rest)
  line_again x rest is =
      ap (λ (r : List ℕ). as_line form (line (r ++ rest))) (here x) ∙ ap (as_line form) (exact.again x rest is)
