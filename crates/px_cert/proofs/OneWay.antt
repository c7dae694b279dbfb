-- All bytes are the certificate of one claim, or have one first bad line, and never both.
use Rattle.std.proofs.Common.{◌≡◌, ◌<◌, ◌+◌, ℕ, suc, List, [], ◌∷◌, ◌++◌, length, Some, refl, sym, ap, subst, ◌∙◌, append_assoc}
use Rattle.std.specs.List.{flat_map}
use Rattle.std.proofs.lemmas.Option.{same_Some}
use Rattle.px_cert.specs.declared.draft.Draft.{Draft}
use Rattle.px_cert.specs.declared.draft.Due.TheVariants as due
use Rattle.px_cert.specs.Certificates.{Claim, IsCertificate, IsFirstBadLine, claim_of}
use Rattle.px_cert.specs.Drafts.{Follow, IsDue, IsNext, after_line, no_lines}
use Rattle.px_cert.specs.Lines.{Line, line_bytes}
use Rattle.px_cert.specs.Reading.{line_at}
use Rattle.px_cert.specs.Sound.{IsSound, lines_left}

-- what is known of each line
pub record ReadsLines : Type 0 where
  pub takes : (d : Draft) (bytes : List ℕ) (line : Line) (rest : List ℕ) → IsSound d → line_at d bytes ≡ Some (line, rest)
      → (bytes ≡ line_bytes line ++ rest) × IsNext d line
  pub again : (d : Draft) (line : Line) (rest : List ℕ) → IsSound d → IsNext d line → line_at d (line_bytes line ++ rest) ≡ Some (line, rest)
  pub stays : (d : Draft) (line : Line) → IsSound d → IsNext d line → IsSound (after_line d line)
  pub falls : (d : Draft) (line : Line) → IsNext d line → lines_left (after_line d line).due < lines_left d.due
  pub begins : IsSound no_lines

nothing_next : (d : Draft) (line : Line) → d.due ≡ due.Nothing → IsNext d line → ⊥
nothing_next d line whole next = subst (λ what. IsDue d what line) whole next

module _ (reads : ReadsLines) where
  -- two lines at the front of the same bytes are one
  same_line : (d : Draft) (one other : Line) (p q : List ℕ) → IsSound d → IsNext d one → IsNext d other
      → line_bytes one ++ p ≡ line_bytes other ++ q → (one ≡ other) × (p ≡ q)
  same_line d one other p q sound first second same =
      let e = same_Some (one, p) (other, q)
      (sym (reads.again d one p sound first) ∙ ap (line_at d) same ∙ reads.again d other q sound second) in
      (ap (λ (x : Line × List ℕ). x.0) e, ap (λ (x : Line × List ℕ). x.1) e)

  -- lines that follow each other, with what comes after them
  one_last : (d : Draft) (xs ys : List Line) (a b : Draft) → IsSound d → Follow d xs a → Follow d ys b → a.due ≡ due.Nothing
      → b.due ≡ due.Nothing → flat_map line_bytes xs ≡ flat_map line_bytes ys → a ≡ b
  one_last d [] [] a b sound f g w v same = f ∙ sym g
  one_last d [] (y ∷ ys) a b sound f g w v same = absurd (nothing_next d y (sym (ap (λ (x : Draft). x.due) f) ∙ w) g.0)
  one_last d (x ∷ xs) [] a b sound f g w v same = absurd (nothing_next d x (sym (ap (λ (z : Draft). z.due) g) ∙ v) f.0)
  one_last d (x ∷ xs) (y ∷ ys) a b sound f g w v same =
      let e = same_line d x y (flat_map line_bytes xs) (flat_map line_bytes ys) sound f.0 g.0 same in
      let there : Follow (after_line d x) ys b = subst (λ (l : Line). Follow (after_line d l) ys b) (sym e.0) g.1 in
      one_last (after_line d x) xs ys a b (reads.stays d x sound f.0) f.1 there w v e.1

  never_both : (d : Draft) (xs ys : List Line) (a b : Draft) (rest : List ℕ) → IsSound d → Follow d xs a → Follow d ys b
      → a.due ≡ due.Nothing → flat_map line_bytes xs ≡ flat_map line_bytes ys ++ rest
      → ((line : Line) (more : List ℕ) → IsNext b line → ¬ (rest ≡ line_bytes line ++ more)) → (b.due ≡ due.Nothing → ¬ (rest ≡ [])) → ⊥
  never_both d [] [] a b rest sound f g w same never_next left =
      left (ap (λ (x : Draft). x.due) (g ∙ sym f) ∙ w) (sym same)
  never_both d [] (y ∷ ys) a b rest sound f g w same never_next left =
      nothing_next d y (sym (ap (λ (x : Draft). x.due) f) ∙ w) g.0
  never_both d (x ∷ xs) [] a b rest sound f g w same never_next left =
      never_next x (flat_map line_bytes xs) (subst (λ (e : Draft). IsNext e x) (sym g) f.0) (sym same)
  never_both d (x ∷ xs) (y ∷ ys) a b rest sound f g w same never_next left =
      let e = same_line d x y (flat_map line_bytes xs) (flat_map line_bytes ys ++ rest) sound f.0 g.0
      (same ∙ append_assoc (line_bytes y) (flat_map line_bytes ys) rest) in
      let there : Follow (after_line d x) ys b = subst (λ (l : Line). Follow (after_line d l) ys b) (sym e.0) g.1 in
      never_both (after_line d x) xs ys a b rest (reads.stays d x sound f.0) f.1 there w e.1 never_next left

  one_count : (d : Draft) (xs ys : List Line) (a b : Draft) (p q : List ℕ) → IsSound d → Follow d xs a → Follow d ys b
      → flat_map line_bytes xs ++ p ≡ flat_map line_bytes ys ++ q
      → ((line : Line) (more : List ℕ) → IsNext a line → ¬ (p ≡ line_bytes line ++ more))
      → ((line : Line) (more : List ℕ) → IsNext b line → ¬ (q ≡ line_bytes line ++ more)) → length xs ≡ length ys
  one_count d [] [] a b p q sound f g same never_next never = refl
  one_count d [] (y ∷ ys) a b p q sound f g same never_next never =
      absurd (never_next y (flat_map line_bytes ys ++ q) (subst (λ (e : Draft). IsNext e y) (sym f) g.0)
      (same ∙ append_assoc (line_bytes y) (flat_map line_bytes ys) q))
  one_count d (x ∷ xs) [] a b p q sound f g same never_next never =
      absurd (never x (flat_map line_bytes xs ++ p) (subst (λ (e : Draft). IsNext e x) (sym g) f.0)
      (sym same ∙ append_assoc (line_bytes x) (flat_map line_bytes xs) p))
  one_count d (x ∷ xs) (y ∷ ys) a b p q sound f g same never_next never =
      let e = same_line d x y (flat_map line_bytes xs ++ p) (flat_map line_bytes ys ++ q) sound f.0 g.0
      (sym (append_assoc (line_bytes x) (flat_map line_bytes xs) p) ∙ same ∙ append_assoc (line_bytes y) (flat_map line_bytes ys) q) in
      let there : Follow (after_line d x) ys b = subst (λ (l : Line). Follow (after_line d l) ys b) (sym e.0) g.1 in
      ap suc (one_count (after_line d x) xs ys a b p q (reads.stays d x sound f.0) f.1 there e.1 never_next never)

  pub not_both : (bytes : List ℕ) (claim : Claim) (number : ℕ) → IsCertificate bytes claim → ¬ IsFirstBadLine bytes number
  not_both bytes claim number c b =
      never_both no_lines c.lines b.before c.last b.draft b.rest reads.begins c.follow b.follow c.whole (sym c.bytes_are ∙ b.bytes_are)
      b.none_next b.not_whole

  pub one_claim : (bytes : List ℕ) (a b : Claim) → IsCertificate bytes a → IsCertificate bytes b → a ≡ b
  one_claim bytes a b c d =
      c.says ∙ ap claim_of (one_last no_lines c.lines d.lines c.last d.last reads.begins c.follow d.follow c.whole d.whole
      (sym c.bytes_are ∙ d.bytes_are)) ∙ sym d.says

  pub one_line : (bytes : List ℕ) (m n : ℕ) → IsFirstBadLine bytes m → IsFirstBadLine bytes n → m ≡ n
  one_line bytes m n a b =
      a.number_is ∙ ap (λ k. k + 1) (one_count no_lines a.before b.before a.draft b.draft a.rest b.rest reads.begins a.follow b.follow
      (sym a.bytes_are ∙ b.bytes_are) a.none_next b.none_next) ∙ sym b.number_is
