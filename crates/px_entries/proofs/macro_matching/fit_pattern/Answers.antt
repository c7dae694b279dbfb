use Rattle.std.proofs.Common.{◌≡◌, ◌∙◌, ◌++◌, ℕ, List, length, take, drop, ap, sym, subst}
use Rattle.std.proofs.Math.Seq.{take-append_seam}
use Rattle.px_question.specs.Answers.{object_terms}
use Rattle.px_terms.specs.Substitution.{substitute_atom}
use Rattle.px_terms.specs.declared.term.Term.{Term}
use Rattle.px_gaps.specs.Bindings.{ExtendsTerms, IsBinding, IsPlain}
use Rattle.px_base.specs.Answers.{both_answers}
use Rattle.px_base.proofs.Loops.{on_ok}
use Rattle.px_entries.proofs.MatchLemmas.{matches_none, matches_push}
use Rattle.px_entries.proofs.macro_matching.fit_pattern.Goals as goal

-- what is borrowed whole comes back whole
lent : (len : ℕ) (new items : List Term) → len ≡ length new → take len (new ++ drop (length new) items) ≡ new
lent len new items whole = ap (λ (n : ℕ). take n (new ++ drop (length new) items)) whole ∙ take-append_seam new (drop (length new) items)

-- the copy is `start`
pub fit_atom-requires : goal.fit_atom-requires
fit_atom-requires c = record {
  pattern =
      subst (λ (l : List Term). IsPlain (length l) c.args.pattern.now)
      (sym (c.deref_mut.ensures.value ∙ c.in_ok-extend_from_slice.ensures.items
      ∙ ap (λ xs. xs ++ c.args.start.now) c.new-terms.ensures.items)) c.requires.pattern;
  binding =
      subst (IsBinding c.args.limit) (sym (c.deref_mut.ensures.value ∙ c.in_ok-extend_from_slice.ensures.items
      ∙ ap (λ xs. xs ++ c.args.start.now) c.new-terms.ensures.items)) c.requires.binding;
}

pub returns-then-not-fit_atom : goal.returns-then-not-fit_atom
returns-then-not-fit_atom c =
    let same : c.deref_mut.result.now ≡ c.args.start.now =
    c.deref_mut.ensures.value ∙ c.in_ok-extend_from_slice.ensures.items ∙ ap (λ xs. xs ++ c.args.start.now) c.new-terms.ensures.items in
    matches_none c.args.limit (length c.args.start.now) c.args.start.now
    (λ sigma. substitute_atom (object_terms sigma) c.args.pattern.now ≡ c.args.wanted.now) c.args.found.now.items
    (λ sigma extends is. both_answers c.fit_atom.result c.if-not-fit_atom.true
    (c.fit_atom.ensures.fits sigma (subst (λ (l : List Term). ExtendsTerms c.args.limit l sigma) (sym same) extends) is).0)

pub returns : goal.returns
returns c =
    let same : c.deref_mut.result.now ≡ c.args.start.now =
    c.deref_mut.ensures.value ∙ c.in_ok-extend_from_slice.ensures.items ∙ ap (λ xs. xs ++ c.args.start.now) c.new-terms.ensures.items in
    let long : length c.fit_atom.new.terms ≡ length c.args.start.now = c.fit_atom.ensures.long ∙ ap length same in
    let whole : c.extend_from_slice.new.self.len ≡ length c.fit_atom.new.terms =
    c.extend_from_slice.new.self.ok.0 ∙ sym (c.fit_atom.ensures.long ∙ ap length c.deref_mut.ensures.value) in
    let put_is : c.from_vec.result ≡ c.fit_atom.new.terms =
    c.from_vec.ensures ∙ lent c.extend_from_slice.new.self.len c.fit_atom.new.terms c.extend_from_slice.new.self.items whole in
    on_ok c.push.result (λ put.
    matches_push c.args.limit (length c.args.start.now) c.args.start.now
    (λ sigma. substitute_atom (object_terms sigma) c.args.pattern.now ≡ c.args.wanted.now) c.args.found.now.items c.push.new.items.items
    c.from_vec.result put
    (record { long = ap length put_is ∙ long; binding = subst (IsBinding c.args.limit) (sym put_is) c.fit_atom.ensures.binding })
    (λ sigma extends is. subst (λ (l : List Term). ExtendsTerms c.args.limit l sigma) (sym put_is)
    (c.fit_atom.ensures.fits sigma (subst (λ (l : List Term). ExtendsTerms c.args.limit l sigma) (sym same) extends) is).1))
    c.push.ensures.ok
