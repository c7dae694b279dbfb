-- Bindings, each to an object or to an earlier variable, always have solutions.
use Rattle.std.proofs.Common.{◌≡◌, ◌⊎◌, ℕ, zero, suc, ◌+◌, ◌<◌, ◌≤◌, Option, Some, None, List, [], ◌∷◌, ◌++◌, length, slice_get, refl, ap, sym, ◌∙◌, arith, inl, inr, append_assoc, length-append}
use Rattle.std.proofs.lemmas.List.{append-nil, get_or_append_left}
use Rattle.std.proofs.lemmas.Option.{slice_get_within}
use Rattle.std.proofs.Math.Seq.{get_or-append_seam}
use Rattle.px_terms.specs.Language.{substitute, IsPlainBelow}
use Rattle.px_terms.specs.declared.term.Term.{Term}
use Rattle.px_terms.specs.declared.term.Term.TheVariants.{Obj, Var, Any}
use Rattle.px_unify.specs.declared.change.Change.{Change}
use Rattle.px_unify.specs.Changes.{slots_of, WellBound, HasSolutions}
use Rattle.px_base.specs.Answers.{some_same}
use Rattle.px_unify.proofs.Slots.{Slots, FitsSlots, IsTriangular, triangular-of, slice_get-push, slice_get-prefix, slice_get-last, fits_changes}

-- the value of the next variable, where those before it have theirs
abbrev next_value : List Term → Option Term → Term → Term
next_value sigma None chosen = chosen
next_value sigma (Some term) chosen = substitute sigma term

abbrev values : List Term → Slots → List Term → List Term
values sigma [] chosen = sigma
values sigma (slot ∷ slots) [] = values (sigma ++ next_value sigma slot Any ∷ []) slots []
values sigma (slot ∷ slots) (c ∷ chosen) = values (sigma ++ next_value sigma slot c ∷ []) slots chosen

-- an earlier term keeps its value
kept : (sigma more : List Term) (v : ℕ) (term : Term) → IsPlainBelow v term → v ≤ length sigma
    → substitute (sigma ++ more) term ≡ substitute sigma term
kept sigma more v (Obj o) earlier within = refl
kept sigma more v (Var w) earlier within = get_or_append_left sigma more Any w (omega (arith, earlier, within))
kept sigma more v Any earlier within = refl

fits-push : (sigma : List Term) (prefix : Slots) (slot : Option Term) (chosen : Term) → length sigma ≡ length prefix
    → IsTriangular (prefix ++ slot ∷ []) → FitsSlots sigma prefix
    → FitsSlots (sigma ++ next_value sigma slot chosen ∷ []) (prefix ++ slot ∷ [])
fits-push sigma prefix slot chosen count tri fits v term at = go slot (slice_get-push prefix slot (Some term) v at)
  where
    go : (s : Option Term) → (slice_get prefix v ≡ Some (Some term)) ⊎ ((v ≡ length prefix) × (s ≡ Some term))
        → substitute (sigma ++ next_value sigma s chosen ∷ []) (Var v) ≡ substitute (sigma ++ next_value sigma s chosen ∷ []) term
    go s (inl h) =
        let within : v < length prefix = slice_get_within prefix v (Some term) h in
        let before : substitute (sigma ++ next_value sigma s chosen ∷ []) (Var v) ≡ substitute sigma (Var v) =
        get_or_append_left sigma (next_value sigma s chosen ∷ []) Any v (omega (arith, within, count)) in
        before ∙ fits v term h ∙ sym (kept sigma (next_value sigma s chosen ∷ []) v term (tri v term at) (omega (arith, within, count)))
    go None (inr h) = absurd (let no_term = h.1 in cc)
    go (Some t) (inr h) =
        let same : t ≡ term = some_same h.1 in
        let place : v ≡ length sigma = h.0 ∙ sym count in
        let here : substitute (sigma ++ substitute sigma t ∷ []) (Var v) ≡ substitute sigma t =
        rw place (get_or-append_seam sigma (substitute sigma t) [] Any) in
        here ∙ ap (substitute sigma) same ∙ sym (kept sigma (substitute sigma t ∷ []) v term (tri v term at) (omega (arith, place)))

-- the values of the first variables stay
values-prefix : (slots : Slots) (sigma chosen : List Term) (k : ℕ) → k < length sigma
    → slice_get (values sigma slots chosen) k ≡ slice_get sigma k
values-prefix [] sigma chosen k within = refl
values-prefix (slot ∷ slots) sigma [] k within =
    values-prefix slots (sigma ++ next_value sigma slot Any ∷ []) [] k
    (omega (arith, within, length-append sigma (next_value sigma slot Any ∷ [])))
    ∙ slice_get-prefix sigma (next_value sigma slot Any ∷ []) k within
values-prefix (slot ∷ slots) sigma (c ∷ chosen) k within =
    values-prefix slots (sigma ++ next_value sigma slot c ∷ []) chosen k
    (omega (arith, within, length-append sigma (next_value sigma slot c ∷ [])))
    ∙ slice_get-prefix sigma (next_value sigma slot c ∷ []) k within

longer : (sigma : List Term) (prefix : Slots) (value : Term) (slot : Option Term) → length sigma ≡ length prefix
    → length (sigma ++ value ∷ []) ≡ length (prefix ++ slot ∷ [])
longer sigma prefix value slot count = length-append sigma (value ∷ []) ∙ ap (λ n. n + 1) count ∙ sym (length-append prefix (slot ∷ []))

module _ (all : Slots) (tri : IsTriangular all) where
  earlier_part : (prefix rest : Slots) → prefix ++ rest ≡ all → IsTriangular prefix
  earlier_part prefix rest splits v term at =
      tri v term (rw (← splits) (slice_get-prefix prefix rest v (slice_get_within prefix v (Some term) at) ∙ at))

  values-fit : (slots prefix : Slots) (sigma chosen : List Term) → prefix ++ slots ≡ all → length sigma ≡ length prefix
      → length slots ≡ length chosen → FitsSlots sigma prefix
      → FitsSlots (values sigma slots chosen) all × (length (values sigma slots chosen) ≡ length all)
  values-fit [] prefix sigma chosen splits count enough fits =
      let whole : prefix ≡ all = sym (append-nil prefix) ∙ splits in
      (rw (← whole) fits, count ∙ ap length whole)
  values-fit (slot ∷ slots) prefix sigma [] splits count enough fits = absurd (omega (arith, enough))
  values-fit (slot ∷ slots) prefix sigma (c ∷ chosen) splits count enough fits =
      let regrouped : (prefix ++ slot ∷ []) ++ slots ≡ all = append_assoc prefix (slot ∷ []) slots ∙ splits in
      values-fit slots (prefix ++ slot ∷ []) (sigma ++ next_value sigma slot c ∷ []) chosen regrouped
      (longer sigma prefix (next_value sigma slot c) slot count) (omega (arith, enough))
      (fits-push sigma prefix slot c count (earlier_part (prefix ++ slot ∷ []) slots regrouped) fits)

  values-chosen : (slots prefix : Slots) (sigma chosen : List Term) (v : ℕ) → length sigma ≡ length prefix → length slots ≡ length chosen
      → slice_get slots v ≡ Some None
      → slice_get (values sigma slots chosen) (length sigma + v) ≡ slice_get chosen v
  values-chosen [] prefix sigma chosen v count enough at = absurd (cc)
  values-chosen (slot ∷ slots) prefix sigma [] v count enough at = absurd (omega (arith, enough))
  values-chosen (slot ∷ slots) prefix sigma (c ∷ chosen) zero count enough at =
      let unbound : slot ≡ None = some_same at in
      let here : length sigma + 0 ≡ length sigma = omega arith in
      rw (
        here,
        values-prefix slots (sigma ++ next_value sigma slot c ∷ []) chosen (length sigma)
            (omega (arith, length-append sigma (next_value sigma slot c ∷ []))),
        slice_get-last sigma (next_value sigma slot c),
        unbound,
      ) refl
  values-chosen (slot ∷ slots) prefix sigma (c ∷ chosen) (suc v) count enough at =
      let one_on : length (sigma ++ next_value sigma slot c ∷ []) + v ≡ length sigma + suc v =
      omega (arith, length-append sigma (next_value sigma slot c ∷ [])) in
      rw (← one_on) (values-chosen slots (prefix ++ slot ∷ []) (sigma ++ next_value sigma slot c ∷ []) chosen v
      (longer sigma prefix (next_value sigma slot c) slot count) (omega (arith, enough)) at)

pub has-solutions : (changes : List Change) → WellBound [] changes → HasSolutions changes
has-solutions changes well chosen count =
    let tri = triangular-of changes well in
    let fit = values-fit (slots_of changes) tri (slots_of changes) [] [] chosen refl refl (sym count) (λ v term at. absurd (cc)) in (
      values [] (slots_of changes) chosen,
      fit.1,
      fits_changes (values [] (slots_of changes) chosen) changes well fit.0,
      λ v unbound. let here : 0 + v ≡ v =
          omega arith in rw here at (values-chosen (slots_of changes) tri (slots_of changes) [] [] chosen v refl (sym count) unbound),
    )
